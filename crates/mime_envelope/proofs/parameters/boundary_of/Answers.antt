use Rattle.std.proofs.Common.{◌≡◌, ◌<◌, List, ℕ, Some, codes, length, drop, sym, ap, ◌∙◌, arith}
use Rattle.mail_model.specs.Lines.{is_word, size_before}
use Rattle.mail_model.specs.Entities.{boundary, protected_size}
use Rattle.mail_model.proofs.Parameters.{boundary_from, boundary-behind, boundary-none, from-found, from-text, from-other}
use Rattle.mime_envelope.proofs.parameters.boundary_of.Goals as goal
use Rattle.mime_envelope.proofs.parameters.boundary_of.Goals.{else-is_parameter-via-then-is_parameter+else-is_word, else-is_parameter-via-else-is_parameter}

pub returns-then-is_word : goal.returns-then-is_word
returns-then-is_word c =
    let lt : size_before 59 c.loop-rest.rest.now < length c.loop-rest.rest.now = omega (arith, c.find.ensures.value) in
    let word = c.if-is_word.ensures ∙ ap (is_word (codes "boundary")) c.before-then-is_parameter.ensures in
    let found = c.loop-rest.invariant ∙ boundary-behind c.loop-rest.rest.now lt ∙ ap boundary_from (sym c.behind-parameter.ensures) ∙ from-found c.behind-parameter.result.now c.if-is_parameter.ensures word in
    ap (λ (z : List ℕ). Some z) c.in_ok-parameter_value.ensures ∙ sym found

pub loop-rest-preserved : goal.loop-rest-preserved
loop-rest-preserved c =
    let lt : size_before 59 c.loop-rest.rest.now < length c.loop-rest.rest.now = omega (arith, c.find.ensures.value) in
    let p = c.behind-parameter.result.now in
    let other : boundary_from p ≡ boundary 0 (drop (protected_size p) p) =
    elim c.else-is_parameter.branch [
      | else-is_parameter-via-then-is_parameter+else-is_word w ↦ from-other p (w.if-is_word.ensures ∙ ap (is_word (codes "boundary")) w.before-then-is_parameter.ensures)
      | else-is_parameter-via-else-is_parameter w ↦ from-text p (sym w.if-is_parameter.false ∙ c.is_parameter.ensures)
    ] in
    let after : drop (protected_size p) p ≡ c.split_at.result.1.now = ap (λ (n : ℕ). drop n p) (sym c.protected_size.ensures.value) ∙ sym c.split_at.ensures.back in
    c.loop-rest.invariant ∙ boundary-behind c.loop-rest.rest.now lt ∙ ap boundary_from (sym c.behind-parameter.ensures) ∙ other ∙ ap (boundary 0) after

pub returns : goal.returns
returns c = sym (c.loop-rest.invariant ∙ boundary-none c.loop-rest.rest.now (omega (arith, c.find.ensures.value)))
