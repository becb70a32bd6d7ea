use Rattle.std.proofs.Common.{◌*◌, ◌<◌, ◌^◌, All}
use Rattle.tnef_model.specs.TnefLists.{padded}
use Rattle.carrier_model.specs.Bytes.{le_number}
use Rattle.tnef_props.proofs.ValueForms.{Turns}
use Rattle.tnef_props.proofs.values.numbers_from.Given as goal

abbrev pub invariant-loop-k : goal.invariant-loop-k
invariant-loop-k l = record {
  turns : Turns (padded l.width) le_number l.fn.from l.count l._k l.list l.rest;
  fit : All (λ n. n < 2 ^ (8 * l.width)) l.list;
}
