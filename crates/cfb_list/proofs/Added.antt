-- What adding to a list's fields does to what is seen.
use Rattle.std.proofs.Common.{◌≡◌, ℕ, ◌<◌, List, [], ◌∷◌, ◌++◌, length, get_or, sym, ap, subst, ◌∙◌, arith}
use Rattle.std.specs.Prelude.{flat_map, slice_set}
use Rattle.std.proofs.lemmas.Grind.{flat_map-append}
use Rattle.std.proofs.lemmas.List.{append-nil, map-set, get_or-map, length-map, map-append}
use Rattle.std.proofs.Math.Seq.{map-set_same}
use Rattle.cfb_list.specs.Contents.{file_children, children_of, storages_of}
use Rattle.cfb_list.specs.Listed.{Listed, Child, children_at, with_children}
use Rattle.cfb_list.specs.declared.content.File.{File}
use Rattle.cfb_list.specs.declared.content.Storage.{Storage}

pub file_added : {B : Type 0} (of : B → List ℕ) (items : List (Storage B)) (parent : ℕ) (s t : Storage B) (file : File B) → parent < length (storages_of of items) → s ≡ get_or items parent s → t.files.items ≡ s.files.items ++ file ∷ [] → storages_of of (slice_set items parent t) ≡ with_children (storages_of of items) parent (file_children of file)
file_added of items parent s t file lt at e =
    let lt' : parent < length items = omega (arith, lt, length-map items (children_of of)) in
    let here : children_at (storages_of of items) parent ≡ children_of of s = get_or-map (children_of of) items parent s [] lt' ∙ ap (children_of of) (sym at) in
    let more : children_of of t ≡ children_of of s ++ file_children of file =
    ap (flat_map (file_children of)) e
    ∙ flat_map-append (file_children of) s.files.items (file ∷ [])
    ∙ ap (λ (cs : List Child). children_of of s ++ cs) (append-nil (file_children of file)) in
    map-set (children_of of) items parent t ∙ ap (slice_set (storages_of of items) parent) (more ∙ ap (λ (cs : List Child). cs ++ file_children of file) (sym here))

pub file_refused : {B : Type 0} (of : B → List ℕ) (items : List (Storage B)) (parent : ℕ) (s t : Storage B) → s ≡ get_or items parent s → t.files.items ≡ s.files.items → storages_of of (slice_set items parent t) ≡ storages_of of items
file_refused of items parent s t at e = map-set_same (children_of of) items parent t s (ap (flat_map (file_children of)) e ∙ ap (children_of of) at)

pub storage_pushed : {B : Type 0} (of : B → List ℕ) (items more : List (Storage B)) (s : Storage B) → more ≡ items ++ s ∷ [] → s.files.items ≡ [] → storages_of of more ≡ storages_of of items ++ [] ∷ []
storage_pushed of items more s e none = ap (storages_of of) e ∙ map-append (children_of of) items (s ∷ []) ∙ ap (λ (cs : List Child). storages_of of items ++ cs ∷ []) (ap (flat_map (file_children of)) none)

-- a list is seen as its class and its storages
pub seen_with : (root : List ℕ) (old new : List (List Child)) (now : Listed) (f : List (List Child) → List (List Child)) → ◌≡◌ {A = Listed} (record { root_class = root; storages = old }) now → new ≡ f old → ◌≡◌ {A = Listed} (record { root_class = root; storages = new }) (record { root_class = now.root_class; storages = f now.storages })
seen_with root old new now f is e =
    subst (λ (l : Listed). ◌≡◌ {A = Listed} (record { root_class = root; storages = new }) (record { root_class = l.root_class; storages = f l.storages })) is
    (ap {B = Listed} (λ (ss : List (List Child)). record { root_class = root; storages = ss }) e)
