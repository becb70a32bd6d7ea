use Rattle.std.proofs.Common.{◌≡◌, ℕ, List, length, All}
use Rattle.tnef_model.specs.TnefLists.{padded}
use Rattle.tnef_props.proofs.ValueForms.{Turns}
use Rattle.tnef_props.proofs.values.guids_from.Given as goal

abbrev pub invariant-loop-k : goal.invariant-loop-k
invariant-loop-k l = record {
  turns : Turns (padded 16) (λ (x : List ℕ). x) l.fn.from l.count l._k l.list l.rest;
  fit : All (λ g. length g ≡ 16) l.list;
}
