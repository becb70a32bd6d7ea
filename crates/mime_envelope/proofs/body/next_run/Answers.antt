use Rattle.std.proofs.Common.{◌<◌, ◌+◌, arith}
use Rattle.mime_envelope.proofs.Kept.{run_kept, run_less}
use Rattle.mime_envelope.proofs.body.next_run.Goals as goal

pub returns-clause-text : goal.returns-clause-text
returns-clause-text c =
    run_kept c.args.body.now c.split_at.result.0.now c.split_at-2.result.0.now c.split_at-2.result.1.now c.split_at-3.result.1.now c.min.result c.count_kept.result c.count_skipped.result c.split_at.ensures.front c.count_kept.ensures.value c.split_at-2.ensures.front c.split_at-2.ensures.back c.count_skipped.ensures.value c.split_at-3.ensures.back

pub returns-clause-less : goal.returns-clause-less
returns-clause-less c =
    let room : 0 < c.min.result = omega (arith, c.requires.some, c.requires.room, c.min.ensures) in
    let some : 0 < c.count_kept.result + c.count_skipped.result = run_less c.args.body.now c.split_at.result.0.now c.split_at-2.result.1.now c.min.result c.count_kept.result c.count_skipped.result c.requires.some room c.split_at.ensures.front c.count_kept.ensures.value c.split_at-2.ensures.back c.count_skipped.ensures.value in
    omega (arith, some, c.split_at-2.ensures.back_len, c.split_at-3.ensures.back_len, c.count_skipped.ensures.within, c.count_kept.ensures.within, c.split_at.ensures.front_len)
