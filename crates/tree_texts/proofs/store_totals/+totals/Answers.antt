use Rattle.std.proofs.Common.{rules, arith, ◌≡◌, ap, take, take_all, sum_by}
use Rattle.carrier_model.specs.FileTrees.{files_listed}
use Rattle.carrier_model.proofs.Messages.{sum_taken}
use Rattle.msg_tree.specs.StoreMeaning.{store_of, member_of}
use Rattle.tree_texts.proofs.StoreSums.{member_at, member_depth_le, streams_of, bytes_of, streams_summed, bytes_summed}
use Rattle.tree_texts.proofs.store_totals.+totals.Goals as goal

pub totals_of-member_totals-more-requires : goal.totals_of-member_totals-more-requires
totals_of-member_totals-more-requires g t c κs within =
    let f = (store_of g.B.Blob.bytes c.args.store.now).members in
    let m = member_of g.B.Blob.bytes c.member.result.now in
    let (n, at) = member_at (files_listed f) c.loop-k.k m (omega (arith, c.loop-k-test.true, c.len-k-end.ensures)) c.member.ensures in
    let le = member_depth_le f c.loop-k.k (n, m) at in
    (omega (arith, le), search rules)

pub totals_of-loop-k-preserved : goal.totals_of-loop-k-preserved
totals_of-loop-k-preserved g t c =
    let f = (store_of g.B.Blob.bytes c.args.store.now).members in
    let m = member_of g.B.Blob.bytes c.member.result.now in
    let (n, at) = member_at (files_listed f) c.loop-k.k m (omega (arith, c.loop-k-test.true, c.len-k-end.ensures)) c.member.ensures in
    let s = sum_taken streams_of (files_listed f) c.loop-k.k (n, m) at in
    let b = sum_taken bytes_of (files_listed f) c.loop-k.k (n, m) at in
    record {
      streams = omega (arith, s, c.loop-k.invariant.streams, c.member_totals-more.ensures.streams, c.saturating_add.ensures);
      bytes = omega (arith, b, c.loop-k.invariant.bytes, c.member_totals-more.ensures.bytes, c.saturating_add-in-loop-k.ensures);
    }

pub totals_of-returns : goal.totals_of-returns
totals_of-returns g t c =
    let f = (store_of g.B.Blob.bytes c.args.store.now).members in
    let all : take c.loop-k.k (files_listed f) ≡ files_listed f = take_all c.loop-k.k (files_listed f) (omega (arith, c.len-k-end.ensures, c.loop-k-test.false)) in
    record {
      streams = omega (arith, c.loop-k.invariant.streams, ap (sum_by streams_of) all, streams_summed f);
      bytes = omega (arith, c.loop-k.invariant.bytes, ap (sum_by bytes_of) all, bytes_summed f);
    }
