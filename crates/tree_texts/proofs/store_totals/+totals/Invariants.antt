use Rattle.std.proofs.Common.{◌≡◌, ◌+◌, ◌*◌, sum_by, take}
use Rattle.carrier_model.specs.FileTrees.{files_listed, storage_depth}
use Rattle.carrier_model.specs.Totals.{capped}
use Rattle.msg_tree.specs.StoreMeaning.{store_of, member_of}
use Rattle.tree_texts.proofs.StoreSums.{member_depth, streams_of, bytes_of}
use Rattle.tree_texts.proofs.store_totals.+totals.Given as goal

abbrev pub decreases-totals_of : goal.decreases-totals_of
decreases-totals_of g l = 2 * storage_depth (store_of g.B.Blob.bytes l.store.now).members + 1

abbrev pub decreases-member_totals : goal.decreases-member_totals
decreases-member_totals g l = 2 * member_depth (member_of g.B.Blob.bytes l.member.now)

abbrev pub invariant-totals_of-loop-k : goal.invariant-totals_of-loop-k
invariant-totals_of-loop-k g l = record {
  streams : l.totals.streams ≡ capped (sum_by streams_of (take l.k (files_listed (store_of g.B.Blob.bytes l.store).members)));
  bytes : l.totals.bytes ≡ capped (sum_by bytes_of (take l.k (files_listed (store_of g.B.Blob.bytes l.store).members)));
}
