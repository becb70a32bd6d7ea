use Rattle.std.proofs.Common.{◌≡◌, ◌∷◌, ◌++◌, [], ℕ, List, length, sym, ap, subst, ◌∙◌, rules}
use Rattle.std.proofs.lemmas.List.{length-map}
use Rattle.cfb_list.specs.Contents.{children_of, name_units}
use Rattle.cfb_list.specs.Listed.{Listed, Child, storage, with_child}
use Rattle.cfb_list.proofs.Soundness.{child_of_front}
use Rattle.cfb_list.proofs.list.FileList.put_storage.Goals as goal

pub returns-in-Ok-add-clause-ok : goal.returns-in-Ok-add-clause-ok
returns-in-Ok-add-clause-ok g c =
    let now = c.args.self.now in
    let name = name_units c.args.name in
    let long : c.len-number.result ≡ length c.self.inside.storages.items = search rules in
    let number : c.len-number.result ≡ length now.storages = long ∙ sym (length-map c.self.inside.storages.items (children_of g.B.Blob.bytes)) ∙ ap (λ (l : Listed). length l.storages) c.self.view_is in
    let told : c.in-Ok.told ≡ c.len-number.result = c.in-Ok.ensures.1 in
    let there = subst (λ (l : Listed). ◌≡◌ {A = Listed} c.add.new.self (record { root_class = l.root_class; storages = with_child l.storages c.args.parent (storage name c.args.class c.in-Ok.told) })) c.in_ok-add_empty.ensures.ok c.in-Ok-add.ensures.ok in
    there ∙ ap {B = Listed} (λ (ss : List (List Child)). record { root_class = now.root_class; storages = ss }) (
    child_of_front now.storages c.args.parent (storage name c.args.class c.in-Ok.told) c.requires.parent
    ∙ ap (λ (k : ℕ). with_child now.storages c.args.parent (storage name c.args.class k) ++ [] ∷ []) (told ∙ number))
