use Rattle.std.proofs.Common.{◌+◌, ◌-◌, ℕ, List, refl}
use Rattle.std.specs.List.{flat_map, range_with_len}
use Rattle.carrier_model.specs.Layout.{words_bytes, difat_words}
use Rattle.cfb_layout.specs.Counts.{plan_seen}
use Rattle.cfb_layout.specs.Versions.{sector_of}
use Rattle.cfb_writer.proofs.Going.{going_more, going_stops}
use Rattle.cfb_writer.proofs.Tables.{range_then}
use Rattle.cfb_writer.proofs.table.append_difat.Goals as goal

pub returns-in_err-sum : goal.returns-in_err-sum
returns-in_err-sum g c =
    let k = c.loop-k.k in
    let n = c.args.numbers.now.difat in
    let f : ℕ → List ℕ = λ i. words_bytes (difat_words (sector_of c.args.version) (plan_seen c.args.numbers.now) i) in
    going_stops (f k) (flat_map f (range_with_len (k + 1) (n - (k + 1)))) (range_then f k n c.loop-k-test.true) c.from_residual.ensures.0 c.loop-k.invariant c.in_err-sum.ensures

pub loop-k-preserved : goal.loop-k-preserved
loop-k-preserved g c =
    let k = c.loop-k.k in
    let n = c.args.numbers.now.difat in
    let f : ℕ → List ℕ = λ i. words_bytes (difat_words (sector_of c.args.version) (plan_seen c.args.numbers.now) i) in
    going_more _ (f k) (flat_map f (range_with_len (k + 1) (n - (k + 1)))) (range_then f k n c.loop-k-test.true) refl c.loop-k.invariant c.in_ok-sum.ensures
