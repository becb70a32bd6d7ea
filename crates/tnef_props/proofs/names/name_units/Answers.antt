use Rattle.std.proofs.Common.{◌≡◌, ℕ, List, sym, subst, ◌∙◌}
use Rattle.std.proofs.lemmas.Result.{err_from_is_err_and}
use Rattle.carrier_model.specs.Grammar.{and_then, gives}
use Rattle.tnef_model.specs.TnefLists.{name_size, name_units, raw}
use Rattle.carrier_model.specs.Bytes.{units_of}
use Rattle.carrier_model.specs.Kinds.{without_null}
use Rattle.tnef_props.specs.Steps.{Takes}
use Rattle.tnef_props.proofs.Forms.{then_takes, then_next, then_first, seen_takes}
use Rattle.tnef_props.proofs.names.name_units.Goals as goal

pub returns-in_err-bytes-clause-fault : goal.returns-in_err-bytes-clause-fault
unfolding name_units
returns-in_err-bytes-clause-fault c =
    let p = err_from_is_err_and c.from_residual-in_err-bytes.result c.from_residual-in_err-bytes.ensures.1 in
    let view : ℕ → List ℕ → ℕ × List ℕ = λ n x. (n, units_of (without_null 2 x)) in
    rw (p.1, p.2) (then_next name_size (λ n. and_then (raw n) (λ x. gives (view n x))) c.args.from c.in_ok-n.rest c.in_ok-n.n c.in_err-bytes.field-0.0 c.in_ok-n.ensures.found
    (then_first (raw c.in_ok-n.n) (λ x. gives (view c.in_ok-n.n x)) c.in_ok-n.rest c.in_err-bytes.field-0.0 c.in_err-bytes.ensures.fault))

pub returns-clause-found : goal.returns-clause-found
unfolding name_units
returns-clause-found c =
    let view : ℕ → List ℕ → ℕ × List ℕ = λ n x. (n, units_of (without_null 2 x)) in
    let units : c.in_ok-units.units ≡ units_of (without_null 2 c.in_ok-bytes.bytes.now) = c.in_ok-units.ensures ∙ (λ i. units_of (c.without_null.ensures i)) in
    subst (λ (z : List ℕ). Takes name_units c.args.from (c.in_ok-n.n, z) c.in_ok-bytes.rest) (sym units)
    (then_takes name_size (λ n. and_then (raw n) (λ x. gives (view n x))) c.args.from c.in_ok-n.rest c.in_ok-bytes.rest c.in_ok-n.n _ c.in_ok-n.ensures.found
    (seen_takes (raw c.in_ok-n.n) (view c.in_ok-n.n) c.in_ok-n.rest c.in_ok-bytes.rest c.in_ok-bytes.bytes.now c.in_ok-bytes.ensures.found))
