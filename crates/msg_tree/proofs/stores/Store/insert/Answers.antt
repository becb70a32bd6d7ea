use Rattle.std.proofs.Common.{◌∙◌, ap, sym, subst, refl, arith}
use Rattle.carrier_model.specs.FileTrees as plain
use Rattle.carrier_model.specs.Stores.{AreInOrder}
use Rattle.msg_tree.specs.StoreMeaning.{store_of, member_of}
use Rattle.msg_tree.proofs.Places.{names_count, with_member_gap, put_order, gap_is_new, place_has}
use Rattle.msg_tree.proofs.stores.Store.insert.Goals as goal

pub put-requires : goal.put-requires
put-requires g c = omega (arith, c.in-Err.ensures.absent.in_range, names_count (store_of g.B.Blob.bytes c.args.self.now).members)

pub returns-in-Ok-clause-refused : goal.returns-in-Ok-clause-refused
returns-in-Ok-clause-refused g c = (refl, place_has (store_of g.B.Blob.bytes c.args.self.now).members c.args.name.now c.in-Ok.field-0 c.in-Ok.ensures.found)

pub returns-in-Ok-put-clause-new : goal.returns-in-Ok-put-clause-new
returns-in-Ok-put-clause-new g c = gap_is_new (store_of g.B.Blob.bytes c.args.self.now).members c.args.name.now c.in-Err.at c.in-Err.ensures.absent

pub returns-in-Ok-put-clause-ok : goal.returns-in-Ok-put-clause-ok
returns-in-Ok-put-clause-ok g c =
    let old = store_of g.B.Blob.bytes c.args.self.now in
    c.in-Ok-put.ensures.ok ∙ ap (λ f. record { class = old.class; members = f }) (sym (with_member_gap old.members c.args.name.now (member_of g.B.Blob.bytes c.args.member) c.in-Err.at c.in-Err.ensures.absent))

pub returns-in-Ok-put-clause-order : goal.returns-in-Ok-put-clause-order
returns-in-Ok-put-clause-order g c =
    let old = store_of g.B.Blob.bytes c.args.self.now in
    subst (λ (s : plain.Store). AreInOrder s.members) (sym c.in-Ok-put.ensures.ok) (put_order old.members c.in-Err.at c.args.name.now (member_of g.B.Blob.bytes c.args.member) c.requires.order c.in-Err.ensures.absent)
