use Rattle.std.proofs.Common.{ℕ, List, [], ◌+◌, drop, get_or, refl}
use Rattle.std.specs.Borrow.{Bor}
use Rattle.carrier_io.specs.Known.{joined}
use Rattle.cfb_writer.proofs.Going.{going_more, going_stops, item_then}
use Rattle.cfb_writer.proofs.appending.append_parts.Goals as goal

pub returns-in_err-sum : goal.returns-in_err-sum
returns-in_err-sum g c =
    let k = c.loop-part.part-index in
    let none : Bor (List ℕ) = record { ref_ptr = (0, 0); now = [] } in
    going_stops (get_or c.args.parts.now k none).now (joined (drop (k + 1) c.args.parts.now)) (item_then (λ (p : Bor (List ℕ)). p.now) c.args.parts.now k none c.loop-part-test.true) c.from_residual.ensures.0 c.loop-part.invariant c.in_err-sum.ensures

pub loop-part-preserved : goal.loop-part-preserved
loop-part-preserved g c =
    let k = c.loop-part.part-index in
    let none : Bor (List ℕ) = record { ref_ptr = (0, 0); now = [] } in
    going_more _ (get_or c.args.parts.now k none).now (joined (drop (k + 1) c.args.parts.now)) (item_then (λ (p : Bor (List ℕ)). p.now) c.args.parts.now k none c.loop-part-test.true) refl c.loop-part.invariant c.in_ok-sum.ensures
