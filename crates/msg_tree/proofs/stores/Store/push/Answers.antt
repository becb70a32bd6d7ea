use Rattle.std.proofs.Common.{rules, ◌≡◌, ◌∙◌, ◌++◌, ◌∷◌, [], ap, sym}
use Rattle.std.specs.Prelude.{map}
use Rattle.std.proofs.lemmas.List.{map-append}
use Rattle.carrier_model.specs.FileTrees.{files_from, files_listed}
use Rattle.msg_tree.specs.StoreMeaning.{store_of, entry_of, member_of}
use Rattle.msg_tree.specs.declared.stores.Store.{out-Store}
use Rattle.msg_tree.proofs.Stored.{store_made, class_out, list_out, entry_out}
use Rattle.msg_tree.proofs.stores.Store.push.Goals as goal

pub returns : goal.returns
returns g c =
    let B = g.B.Blob.bytes in
    let old = store_of B c.args.self.now in
    let name : c.in_ok-name.name.items ≡ c.args.name.now = search rules in
    let listed : map (entry_of B) c.push.new.self.items ≡ files_listed old.members ++ (c.args.name.now, member_of B c.args.member) ∷ [] =
    ap (map (entry_of B)) c.in_ok-push.ensures.items
    ∙ (map-append (entry_of B) (out-Store g.row.B.Denot c.args.self.now).entries.items (record { name = c.in_ok-name.name; member = c.args.member } ∷ [])
    ∙ (λ i. sym (list_out B c.args.self.now) i ++ (entry_out B (record { name = c.in_ok-name.name; member = c.args.member }) ∙ (λ j. (name j, member_of B c.args.member))) i ∷ [])) in
    store_made B (record { class = (out-Store g.row.B.Denot c.args.self.now).class; entries = c.push.new.self }) ∙ (λ i. record { class = sym (class_out B c.args.self.now) i; members = files_from (listed i) })
