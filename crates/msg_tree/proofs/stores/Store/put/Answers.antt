use Rattle.std.proofs.Common.{rules, ◌≡◌, ◌∙◌, ap, sym, arith}
use Rattle.std.specs.List.{insert as insert_at}
use Rattle.std.specs.Prelude.{map}
use Rattle.std.proofs.lemmas.List.{length-map}
use Rattle.carrier_model.specs.FileTrees.{files_from, files_listed}
use Rattle.carrier_model.proofs.Place.{map-insert}
use Rattle.msg_tree.specs.StoreMeaning.{store_of, entry_of, member_of}
use Rattle.msg_tree.specs.declared.stores.Store.{out-Store}
use Rattle.msg_tree.proofs.Stored.{store_made, class_out, list_out, entry_out}
use Rattle.msg_tree.proofs.stores.Store.put.Goals as goal

pub insert-requires : goal.insert-requires
insert-requires g c =
    let v = (out-Store g.row.B.Denot c.args.self.now).entries in
    let h = rw (list_out g.B.Blob.bytes c.args.self.now, length-map) at c.requires in
    omega (arith, h, v.ok.0)

pub returns-clause-ok : goal.returns-clause-ok
returns-clause-ok g c =
    let B = g.B.Blob.bytes in
    let old = store_of B c.args.self.now in
    let name : c.in_ok-name.name.items ≡ c.args.name.now = search rules in
    let listed : map (entry_of B) c.insert.new.self.items ≡ insert_at (files_listed old.members) c.args.at (c.args.name.now, member_of B c.args.member) =
    ap (map (entry_of B)) c.in_ok-insert.ensures.items
    ∙ (map-insert (entry_of B) (out-Store g.row.B.Denot c.args.self.now).entries.items c.args.at (record { name = c.in_ok-name.name; member = c.args.member })
    ∙ (λ i. insert_at (sym (list_out B c.args.self.now) i) c.args.at ((entry_out B (record { name = c.in_ok-name.name; member = c.args.member }) ∙ (λ j. (name j, member_of B c.args.member))) i))) in
    store_made B (record { class = (out-Store g.row.B.Denot c.args.self.now).class; entries = c.insert.new.self }) ∙ (λ i. record { class = sym (class_out B c.args.self.now) i; members = files_from (listed i) })
