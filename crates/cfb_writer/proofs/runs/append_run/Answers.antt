use Rattle.std.proofs.Common.{◌+◌, ap, refl}
use Rattle.carrier_model.specs.Bytes.{le32}
use Rattle.carrier_model.specs.Layout.{words_bytes}
use Rattle.cfb_writer.specs.Runs.{words_from, word_at}
use Rattle.cfb_writer.proofs.Going.{going_more, going_stops}
use Rattle.cfb_writer.proofs.RunWords.{words_then}
use Rattle.cfb_writer.proofs.runs.append_run.Goals as goal

pub returns-in_err-sum : goal.returns-in_err-sum
returns-in_err-sum g c =
    let k = c.loop-k.k in
    going_stops (le32 (word_at c.args.run c.args.count k)) (words_bytes (words_from c.args.run c.args.count (k + 1))) (ap words_bytes (words_then c.args.run c.args.count k c.loop-k-test.true)) c.from_residual.ensures.0 c.loop-k.invariant (rw (c.le32.ensures, c.word.ensures) at c.in_err-sum.ensures)

pub loop-k-preserved : goal.loop-k-preserved
loop-k-preserved g c =
    let k = c.loop-k.k in
    going_more _ (le32 (word_at c.args.run c.args.count k)) (words_bytes (words_from c.args.run c.args.count (k + 1))) (ap words_bytes (words_then c.args.run c.args.count k c.loop-k-test.true)) refl c.loop-k.invariant (rw (c.le32.ensures, c.word.ensures) at c.in_ok-sum.ensures)
