use Rattle.std.proofs.Common.{rules, arith, sym, subst, refl}
use Rattle.std.proofs.lemmas.List.{drop_all}
use Rattle.carrier_model.proofs.Trees.{depth_at_le}
use Rattle.msg_tree.specs.Keeping.{HasStores}
use Rattle.msg_tree.specs.Meaning.{list_of, attached_of}
use Rattle.msg_tree.specs.declared.messages.Message.{out-Message}
use Rattle.msg_tree.proofs.Kept.{stores_parted, stores_joined, stores_none}
use Rattle.msg_tree.proofs.Unrolled.{depth_out, tree_out}
use Rattle.msg_tree.proofs.store_walk.+walk.Goals as goal

pub has_stores-loop-k-init : goal.has_stores-loop-k-init
has_stores-loop-k-init g t c =
    let e = tree_out g.B.Blob.bytes c.args.message.now in
    record { into = λ h. subst HasStores (sym e) h; from = λ h. subst HasStores e h }

pub has_stores-attachment_has_stores-requires : goal.has_stores-attachment_has_stores-requires
has_stores-attachment_has_stores-requires g t c κs within =
    let xs = list_of g.B.Blob.bytes (out-Message g.row.B.Denot c.args.message.now).attachments in
    let e = depth_out g.B.Blob.bytes c.args.message.now in
    let le = depth_at_le xs c.loop-k.k _ c.get.ensures in
    (omega (arith, e, le), search rules)

pub has_stores-returns-then-not-attachment_has_stores : goal.has_stores-returns-then-not-attachment_has_stores
has_stores-returns-then-not-attachment_has_stores g t c =
    let xs = list_of g.B.Blob.bytes (out-Message g.row.B.Denot c.args.message.now).attachments in (
      (λ e. absurd cc),
      (λ h. c.if-not-attachment_has_stores.ensures.1 (stores_parted xs c.loop-k.k (attached_of g.B.Blob.bytes c.get.result.now) c.get.ensures (c.loop-k.invariant.from h)).0),
    )

pub has_stores-loop-k-preserved : goal.has_stores-loop-k-preserved
has_stores-loop-k-preserved g t c =
    let xs = list_of g.B.Blob.bytes (out-Message g.row.B.Denot c.args.message.now).attachments in
    let x = attached_of g.B.Blob.bytes c.get.result.now in
    record {
      into = λ h. c.loop-k.invariant.into (stores_joined xs c.loop-k.k x c.get.ensures (c.if-not-attachment_has_stores.ensures.0 refl) h);
      from = λ h. (stores_parted xs c.loop-k.k x c.get.ensures (c.loop-k.invariant.from h)).1;
    }

pub has_stores-returns : goal.has_stores-returns
has_stores-returns g t c =
    let xs = list_of g.B.Blob.bytes (out-Message g.row.B.Denot c.args.message.now).attachments in (
      (λ e. c.loop-k.invariant.into (stores_none xs c.loop-k.k (drop_all c.loop-k.k xs (omega (arith, c.len-k-end.ensures, c.loop-k-test.false))))),
      (λ h. refl),
    )
