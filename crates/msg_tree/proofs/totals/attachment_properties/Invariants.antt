use Rattle.std.proofs.Common.{◌≡◌, length, sum_by, take}
use Rattle.carrier_model.specs.Totals.{capped}
use Rattle.carrier_model.specs.Tree as plain
use Rattle.msg_tree.specs.Meaning.{list_of}
use Rattle.msg_tree.proofs.totals.attachment_properties.Given as goal

abbrev pub invariant-loop-k : goal.invariant-loop-k
invariant-loop-k g l = l.all ≡ capped (sum_by (λ (one : plain.Attached). length one.0) (take l.k (list_of g.B.Blob.bytes l.attachments)))
