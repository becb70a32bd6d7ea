use Rattle.std.proofs.Common.{◌+◌, ◌-◌, ℕ, List, refl}
use Rattle.std.specs.List.{flat_map, range_with_len}
use Rattle.carrier_model.specs.Layout.{unused_slot}
use Rattle.cfb_writer.proofs.Going.{going_more, going_stops}
use Rattle.cfb_writer.proofs.Tables.{range_then}
use Rattle.cfb_writer.proofs.directory.append_unused.Goals as goal

pub returns-in_err-part : goal.returns-in_err-part
returns-in_err-part g c =
    let k = c.loop-k._k in
    let n = c.args.count in
    let f : ℕ → List ℕ = λ i. unused_slot in
    going_stops unused_slot (flat_map f (range_with_len (k + 1) (n - (k + 1)))) (range_then f k n c.loop-k-test.true) c.from_residual.ensures.0 c.loop-k.invariant c.in_err-part.ensures

pub loop-k-preserved : goal.loop-k-preserved
loop-k-preserved g c =
    let k = c.loop-k._k in
    let n = c.args.count in
    let f : ℕ → List ℕ = λ i. unused_slot in
    going_more _ unused_slot (flat_map f (range_with_len (k + 1) (n - (k + 1)))) (range_then f k n c.loop-k-test.true) refl c.loop-k.invariant c.in_ok-part.ensures
