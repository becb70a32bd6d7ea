-- Samples are not too deep, and have no stores.
use Rattle.std.proofs.Common.{◌≡◌, ℕ, zero, suc, ◌+◌, ◌%◌, ◌≤◌, ◌++◌, map, ap, subst, sym, arith}
use Rattle.std.specs.List.{range_with_len}
use Rattle.carrier_model.specs.Tree.{Message, attachments_from, depth}
use Rattle.job_model.proofs.SampleParts.{attachments_depth}
use Rattle.text_model.specs.SampleTrees.{plain_attachment, level_message, level_attachment, sample_tree}
use Rattle.msg_tree.specs.Keeping.{HasStores, HaveStores}

level_stores : (below k : ℕ) → HasStores (level_message below k)
level_stores zero k = tt
level_stores (suc below) k = (level_stores below (k + 1), tt)

attachments_stores : (levels a n : ℕ) → HaveStores (attachments_from (map plain_attachment (range_with_len a n) ++ level_attachment levels))
attachments_stores zero a zero = tt
attachments_stores (suc below) a zero = (level_stores below 1, tt)
attachments_stores levels a (suc n) = (tt, attachments_stores levels (a + 1) n)

pub sample_shallow : (n : ℕ) (t : Message) → t ≡ sample_tree n → depth t ≤ 32
sample_shallow n t e = let same : depth t ≡ depth (sample_tree n) = ap depth e in omega (arith, same, attachments_depth (n % 33) 0 (n % 33))

pub sample_stores : (n : ℕ) (t : Message) → t ≡ sample_tree n → HasStores t
sample_stores n t e = subst HasStores (sym e) (attachments_stores (n % 33) 0 (n % 33))
