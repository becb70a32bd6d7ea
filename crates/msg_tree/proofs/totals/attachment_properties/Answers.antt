use Rattle.std.proofs.Common.{arith, ap, length}
use Rattle.carrier_model.specs.Tree as plain
use Rattle.carrier_model.proofs.Messages.{sum_taken}
use Rattle.msg_tree.specs.Meaning.{list_of}
use Rattle.msg_tree.proofs.Unrolled.{attached_props}
use Rattle.msg_tree.proofs.totals.attachment_properties.Goals as goal

pub loop-k-preserved : goal.loop-k-preserved
loop-k-preserved g c =
    let e = sum_taken (λ (one : plain.Attached). length one.0) (list_of g.B.Blob.bytes c.args.attachments.now) c.loop-k.k _ c.get.ensures in
    let p = ap length (attached_props g.B.Blob.bytes c.get.result.now) in
    omega (arith, e, p, c.len.ensures, c.loop-k.invariant, c.saturating_add-all.ensures)
