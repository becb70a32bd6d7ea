use Rattle.std.proofs.Common.{ℕ, List, ◌∙◌, ◌++◌, ap, take}
use Rattle.json_writer.proofs.Escapes.{wide_text}
use Rattle.json_writer.proofs.Lists.{two_of, three_of}
use Rattle.json_writer.proofs.buffers.put_wide.Goals as goal

pub returns-in-len2-clause-text : goal.returns-in-len2-clause-text
returns-in-len2-clause-text c = c.put.ensures.text ∙ ap (λ (z : List ℕ). take c.args.used c.args.buffer.now ++ z) (two_of c.as_bytes.result.now 0 c.in-len2.len_at_least c.in-len2.len_below ∙ c.as_bytes.ensures.value ∙ c.encode_utf8.ensures.value ∙ wide_text c.args.character c.requires.wide)

pub returns-in-len3-clause-text : goal.returns-in-len3-clause-text
returns-in-len3-clause-text c = c.put-in-len3.ensures.text ∙ ap (λ (z : List ℕ). take c.args.used c.args.buffer.now ++ z) (three_of c.as_bytes.result.now 0 c.in-len3.len_at_least c.in-len3.len_below ∙ c.as_bytes.ensures.value ∙ c.encode_utf8.ensures.value ∙ wide_text c.args.character c.requires.wide)

pub returns-in_default-clause-text : goal.returns-in_default-clause-text
returns-in_default-clause-text c = c.put-in_default.ensures.text ∙ ap (λ (z : List ℕ). take c.args.used c.args.buffer.now ++ z) (c.as_bytes.ensures.value ∙ c.encode_utf8.ensures.value ∙ wide_text c.args.character c.requires.wide)
