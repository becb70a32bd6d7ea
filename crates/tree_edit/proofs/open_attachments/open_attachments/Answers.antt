use Rattle.std.proofs.Common.{◌∙◌, ◌++◌, ◌+◌, ◌∷◌, [], ap, sym, drop, take, length, map}
use Rattle.std.proofs.lemmas.List.{length-set, map-append}
use Rattle.msg_tree.specs.Meaning.{attached_of, list_of}
use Rattle.tree_edit.specs.ChunkedLists.{listed}
use Rattle.tree_edit.specs.Opened.{open_attached_of}
use Rattle.tree_edit.proofs.ChunkLists.{next_out}
use Rattle.tree_edit.proofs.open_attachments.open_attachments.Goals as goal

pub loop-k-preserved : goal.loop-k-preserved
loop-k-preserved g c =
    let all = list_of g.B.Blob.bytes c.args.attachments in
    let l = list_of g.B.Blob.bytes c.loop-k.attachments in
    let x = attached_of g.B.Blob.bytes c.replace-attachment.result in
    let y = attached_of g.B.Blob.bytes c.empty.result in
    let opened = open_attached_of g.B.Blob.bytes in
    let out = next_out l all c.loop-k.k x y c.replace-attachment.ensures.taken c.loop-k.invariant.left in
    record {
      taken = ap (map opened) c.in_ok-push.ensures ∙ (map-append opened (listed c.loop-k.rows) (c.new.result ∷ []) ∙ (ap (λ r. r ++ opened c.new.result ∷ []) c.loop-k.invariant.taken ∙ (ap (λ z. take c.loop-k.k all ++ z ∷ []) c.new.ensures ∙ sym out.0)));
      left = ap (drop (c.loop-k.k + 1)) c.replace-attachment.ensures.put ∙ out.1;
      count = ap length c.replace-attachment.ensures.put ∙ (length-set l c.loop-k.k y ∙ c.loop-k.invariant.count);
    }
