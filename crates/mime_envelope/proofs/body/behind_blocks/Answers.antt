use Rattle.std.proofs.Common.{sym, ◌∙◌, arith}
use Rattle.mime_envelope.proofs.Kept.{kept_block}
use Rattle.mime_envelope.proofs.body.behind_blocks.Goals as goal

pub loop-rest-preserved : goal.loop-rest-preserved
loop-rest-preserved c =
    let more = kept_block c.loop-rest.rest.now c.split_at.result.0.now c.split_at.result.1.now 16 c.split_at.ensures.front c.split_at.ensures.back (sym c.are_kept.ensures ∙ c.if-not-are_kept.false) in
    record {
      within = omega (arith, c.split_at.ensures.back_len, c.loop-rest.invariant.within);
      kept = omega (arith, more, c.split_at.ensures.front_len, c.split_at.ensures.back_len, c.loop-rest.invariant.within, c.loop-rest.invariant.kept, c.loop-rest-test.true);
    }
