use Rattle.std.proofs.Common.{rules, ◌≡◌, ◌∙◌, ◌++◌, ◌∷◌, [], ap}
use Rattle.std.specs.Prelude.{map}
use Rattle.std.proofs.lemmas.List.{map-append}
use Rattle.msg_tree.specs.StoreMeaning.{entry_of, member_of}
use Rattle.msg_tree.proofs.Stored.{entry_out}
use Rattle.msg_tree.proofs.store_members.Members.push.Goals as goal

pub returns-clause-ok : goal.returns-clause-ok
returns-clause-ok g c =
    let B = g.B.Blob.bytes in
    let name : c.in_ok-name.name.items ≡ c.args.name.now = search rules in
    ap (map (entry_of B)) c.in_ok-push.ensures.items
    ∙ (map-append (entry_of B) c.args.self.now.entries.items (record { name = c.in_ok-name.name; member = c.args.member } ∷ [])
    ∙ (λ i. map (entry_of B) c.args.self.now.entries.items ++ (entry_out B (record { name = c.in_ok-name.name; member = c.args.member }) ∙ (λ j. (name j, member_of B c.args.member))) i ∷ []))
