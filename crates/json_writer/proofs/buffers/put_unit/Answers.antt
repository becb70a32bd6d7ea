use Rattle.std.proofs.Common.{◌≡◌, ◌∙◌, ◌++◌, ◌∷◌, [], ℕ, List, take, ap, sym, append_assoc, rules}
use Rattle.std.specs.Prelude.{None}
use Rattle.json_writer.specs.Decoded.{text_left}
use Rattle.json_writer.specs.Plain.{IsEmpty, IsPlain}
use Rattle.json_writer.proofs.PlainRuns.{unit_text}
use Rattle.json_writer.proofs.buffers.put_unit.Goals as goal

pub returns-then-is_plain-clause-text : goal.returns-then-is_plain-clause-text
returns-then-is_plain-clause-text c low high is more =
    let none : c.args.decoder.now.high ≡ None = search rules in
    let empty : IsEmpty c.args.decoder.now = record { low = c.requires.whole; high = none } in
    let plain : IsPlain c.args.unit = search rules in
    let there = take c.args.used c.args.buffer.now in
    ap (λ (z : List ℕ). there ++ z) (unit_text c.args.decoder.now low high c.args.unit more empty plain is)
    ∙ sym (append_assoc there (c.args.unit ∷ []) (text_left c.args.decoder.now more))
    ∙ ap (λ (z : List ℕ). z ++ text_left c.args.decoder.now more) (sym c.put.ensures.text)
