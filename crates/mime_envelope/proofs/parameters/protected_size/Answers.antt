use Rattle.std.proofs.Common.{◌≡◌, ◌-◌, List, ℕ, length, drop, sym, ap, ◌∙◌}
use Rattle.mail_model.specs.Entities.{quoted_size, value_on, is_quoted}
use Rattle.mail_model.proofs.Parameters.{protected-text, protected-plain, protected-quoted}
use Rattle.mime_envelope.proofs.parameters.protected_size.Goals as goal

pub returns-then-not-is_parameter-clause-value : goal.returns-then-not-is_parameter-clause-value
returns-then-not-is_parameter-clause-value c = sym (protected-text c.args.rest.now (sym c.if-not-is_parameter.true ∙ c.is_parameter.ensures))

pub returns-then-not-is_quoted-clause-value : goal.returns-then-not-is_quoted-clause-value
returns-then-not-is_quoted-clause-value c = sym (protected-plain c.args.rest.now (sym c.if-not-is_quoted.true ∙ c.is_quoted.ensures ∙ ap is_quoted c.value_on-value.ensures))

pub returns-clause-value : goal.returns-clause-value
returns-clause-value c =
    let text : c.split_at.result.1.now ≡ drop 1 (value_on c.args.rest.now) = c.split_at.ensures.back ∙ ap (λ (z : List ℕ). drop 1 z) c.value_on-value.ensures in
    let after : c.split_at-2.result.1.now ≡ drop (quoted_size (drop 1 (value_on c.args.rest.now))) (drop 1 (value_on c.args.rest.now)) =
    c.split_at-2.ensures.back ∙ ap (λ (n : ℕ). drop n c.split_at.result.1.now) c.quoted_size.ensures.value ∙ ap (λ (z : List ℕ). drop (quoted_size z) z) text in
    ap (λ (z : List ℕ). length c.args.rest.now - length z) after
    ∙ sym (protected-quoted c.args.rest.now (sym c.if-not-is_parameter.false ∙ c.is_parameter.ensures) (sym c.if-not-is_quoted.false ∙ c.is_quoted.ensures ∙ ap is_quoted c.value_on-value.ensures))
