use Rattle.std.proofs.Common.{List, ℕ, codes, take, ap, ◌∙◌}
use Rattle.std.specs.Str.{str_eq_ignore_ascii_case}
use Rattle.mail_model.specs.Lines.{trimmed}
use Rattle.mime_envelope.proofs.Texts.{take_least}
use Rattle.mime_envelope.proofs.parameters.is_multipart.Goals as goal

pub returns : goal.returns
returns c =
    let front = take_least c.trim-kind.result.now c.split_at.result.0.now c.min.result 10 c.min.ensures c.split_at.ensures.front in
    c.same_word.ensures
    ∙ ap (λ (z : List ℕ). str_eq_ignore_ascii_case z (codes "multipart/")) (front ∙ ap (λ (z : List ℕ). take 10 z) (c.trim-kind.ensures ∙ ap trimmed c.before-2.ensures))
