use Rattle.std.proofs.Common.{ap, sym, ◌∙◌, ◌+◌, drop}
use Rattle.tree_texts.specs.Halves.{kept_behind}
use Rattle.tree_texts.proofs.Partly.{partly_as, partly_more, partly_stops}
use Rattle.tree_texts.proofs.Pieces.{kept_at, next_half_at, text_behind}
use Rattle.tree_texts.proofs.quoted.write_halves.Goals as goal

pub returns-in_err-write_half-clause-written : goal.returns-in_err-write_half-clause-written
returns-in_err-write_half-clause-written g c = partly_stops _ _ (next_half_at c.loop-byte.low c.args.bytes.now c.loop-byte.byte-index 0 c.loop-byte-test.true) c.from_residual.ensures.0 c.loop-byte.invariant.partly c.in_err-write_half.ensures.written

pub loop-byte-preserved : goal.loop-byte-preserved
loop-byte-preserved g c =
    let rest = drop (c.loop-byte.byte-index + 1) c.args.bytes.now in
    record {
      partly = partly_as _ (ap (λ l. text_behind l rest) (sym c.write_half.ensures.low)) (partly_more _ _ (next_half_at c.loop-byte.low c.args.bytes.now c.loop-byte.byte-index 0 c.loop-byte-test.true) c.loop-byte.invariant.partly c.in_ok-write_half.ensures.written);
      low = ap (λ l. kept_behind l rest) c.write_half.ensures.low ∙ (sym (kept_at c.loop-byte.low c.args.bytes.now c.loop-byte.byte-index 0 c.loop-byte-test.true) ∙ c.loop-byte.invariant.low);
    }
