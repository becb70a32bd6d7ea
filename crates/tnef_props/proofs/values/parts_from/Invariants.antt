use Rattle.std.proofs.Common.{ℕ, List, All}
use Rattle.prop_values.specs.Kinds.{kind_number}
use Rattle.carrier_model.specs.Values.{IsBytes}
use Rattle.tnef_model.specs.TnefLists.{text}
use Rattle.tnef_props.proofs.ValueForms.{Turns}
use Rattle.tnef_props.proofs.values.parts_from.Given as goal

abbrev pub invariant-loop-k : goal.invariant-loop-k
invariant-loop-k l = record {
  turns : Turns (text (kind_number l.kind)) (λ (x : List ℕ). x) l.fn.from l.count l._k l.list l.rest;
  fit : All (IsBytes (kind_number l.kind)) l.list;
}
