use Rattle.std.proofs.Common.{◌≡◌, List, ℕ, drop, sym, ap, ◌∙◌, rules}
use Rattle.mail_model.specs.Lines.{trimmed, behind}
use Rattle.mail_model.specs.Entities.{unquoted, parameter_value, is_quoted}
use Rattle.mail_model.proofs.Parameters.{value-quoted, value-plain}
use Rattle.mime_envelope.proofs.parameters.parameter_value.Goals as goal

pub returns-then-is_quoted : goal.returns-then-is_quoted
returns-then-is_quoted c =
    let quoted = c.if-is_quoted.ensures ∙ ap is_quoted c.value_on-value.ensures in
    let text : parameter_value c.args.rest.now ≡ unquoted c.split_at.result.1.now =
    value-quoted c.args.rest.now quoted ∙ ap unquoted (ap (λ (z : List ℕ). drop 1 z) (sym c.value_on-value.ensures) ∙ sym c.split_at.ensures.back) in
    rw text c.unquoted.ensures

pub returns-in_ok-to_vec : goal.returns-in_ok-to_vec
returns-in_ok-to_vec c =
    let plain = c.if-is_quoted.ensures ∙ ap is_quoted c.value_on-value.ensures in
    let copied : c.in_ok-to_vec.field-0.items ≡ c.trim.result.now = search rules in
    copied ∙ c.trim.ensures ∙ ap trimmed (c.behind.ensures ∙ ap (behind 61) c.before-else-is_quoted.ensures) ∙ sym (value-plain c.args.rest.now plain)
