use Rattle.std.proofs.Common.{ℕ, List, ◌+◌, drop, get_or, refl}
use Rattle.std.specs.List.{flat_map}
use Rattle.carrier_model.specs.Layout.{words_bytes}
use Rattle.cfb_writer.specs.Runs.{words_of}
use Rattle.cfb_writer.specs.declared.runs.Run.{Run}
use Rattle.cfb_writer.specs.declared.runs.Run.TheVariants.{Same}
use Rattle.cfb_writer.proofs.Going.{going_more, going_stops, words_then}
use Rattle.cfb_writer.proofs.runs.append_runs.Goals as goal

pub returns-in_err-sum : goal.returns-in_err-sum
returns-in_err-sum g c =
    let k = c.loop-k.k in
    let none : Run × ℕ = (Same 0, 0) in
    let words : Run × ℕ → List ℕ = λ r. words_of r.0 r.1 in
    going_stops (words_bytes (words (get_or c.args.runs.now k none))) (words_bytes (flat_map words (drop (k + 1) c.args.runs.now))) (words_then words c.args.runs.now k none c.loop-k-test.true) c.from_residual.ensures.0 c.loop-k.invariant c.in_err-sum.ensures

pub loop-k-preserved : goal.loop-k-preserved
loop-k-preserved g c =
    let k = c.loop-k.k in
    let none : Run × ℕ = (Same 0, 0) in
    let words : Run × ℕ → List ℕ = λ r. words_of r.0 r.1 in
    going_more _ (words_bytes (words (get_or c.args.runs.now k none))) (words_bytes (flat_map words (drop (k + 1) c.args.runs.now))) (words_then words c.args.runs.now k none c.loop-k-test.true) refl c.loop-k.invariant c.in_ok-sum.ensures
