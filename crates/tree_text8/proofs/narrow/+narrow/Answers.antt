use Rattle.std.proofs.Common.{rules, arith, sym, ◌∙◌, ap}
use Rattle.std.specs.List.{list_any}
use Rattle.std.proofs.lemmas.List.{drop_all}
use Rattle.carrier_model.proofs.Trees.{depth_at_le}
use Rattle.msg_tree.specs.Meaning.{list_of}
use Rattle.tree_text8.specs.Narrow.{attached_narrow}
use Rattle.tree_text8.proofs.Selves.{any_found, any_later, any_of_list}
use Rattle.tree_text8.proofs.narrow.+narrow.Goals as goal

pub any_attachment_is_narrow-attachment_is_narrow-requires : goal.any_attachment_is_narrow-attachment_is_narrow-requires
any_attachment_is_narrow-attachment_is_narrow-requires g t c κs within =
    let le = depth_at_le (list_of g.B.Blob.bytes c.args.list.now) c.loop-k.k _ c.get.ensures in
    (omega (arith, le), search rules)

pub any_attachment_is_narrow-returns-then-attachment_is_narrow : goal.any_attachment_is_narrow-returns-then-attachment_is_narrow
any_attachment_is_narrow-returns-then-attachment_is_narrow g t c =
    let xs = list_of g.B.Blob.bytes c.args.list.now in
    sym (any_of_list xs ∙ any_found attached_narrow xs c.loop-k.k _ c.get.ensures (sym c.attachment_is_narrow.ensures ∙ c.if-attachment_is_narrow.true) c.loop-k.invariant)

pub any_attachment_is_narrow-loop-k-preserved : goal.any_attachment_is_narrow-loop-k-preserved
any_attachment_is_narrow-loop-k-preserved g t c = any_later attached_narrow (list_of g.B.Blob.bytes c.args.list.now) c.loop-k.k _ c.get.ensures (sym c.attachment_is_narrow.ensures ∙ c.if-attachment_is_narrow.false) c.loop-k.invariant

pub any_attachment_is_narrow-returns : goal.any_attachment_is_narrow-returns
any_attachment_is_narrow-returns g t c =
    let xs = list_of g.B.Blob.bytes c.args.list.now in
    sym (any_of_list xs ∙ (c.loop-k.invariant ∙ ap (list_any attached_narrow) (drop_all c.loop-k.k xs (omega (arith, c.len-k-end.ensures, c.loop-k-test.false)))))
