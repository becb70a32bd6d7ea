-- Look-ups in a tree that entries and their children make.
use Rattle.std.proofs.Common.{◌≡◌, ℕ, zero, suc, ◌<◌, ◌≤◌, List, [], ◌∷◌, length, map, Bool, true, false, not, ◌&&◌, cond, nat_eq, refl, sym, ◌∙◌, ap, subst, arith, Some, None, Option, inl, inr}
use Rattle.std.specs.Prelude.{is_some, IfSome, All}
use Rattle.std.proofs.Common.{get_or}
use Rattle.std.proofs.lemmas.List.{get_or-map}
use Rattle.std.proofs.lemmas.List.Elements.{All-head, All-tail}
use Rattle.std.specs.Cmp.Lexicographic.{pointwise}
use Rattle.std.proofs.lemmas.Bool.{cases_Bool, eq-eqb, ne_eqb}
use Rattle.std.specs.Prelude.{slice_get}
use Rattle.std.proofs.lemmas.Option.{slice_get-map}
use Rattle.std.proofs.lemmas.Cmp.{nat_list_eq_equiv}
use Rattle.std.proofs.lemmas.Slice.Eq.{bytes_eq-Decides}
use Rattle.carrier_model.specs.Files.{Files, Children, none, folded, name_of}
use Rattle.carrier_model.specs.Links.{is_storage}
use Rattle.carrier_model.specs.Lookups.{Found, storage_named, stream_named}
use Rattle.cfb_directory.specs.Families.{index_of, names_of, index_at, names_at}
use Rattle.std.specs.Option.{option_map}
use Rattle.carrier_model.specs.Entries.{Entry}
use Rattle.cfb_sectors.specs.States.{entry_of}
use Rattle.cfb_directory.specs.declared.files.Files.{Files as Opened}
use Rattle.cfb_directory.specs.Found.{Child, children_list, child_stream, storage_seen}
use Rattle.cfb_directory.specs.Named.{first_named, are_apart}
use Rattle.cfb_directory.specs.Shapes.{deepest, tree_at}
use Rattle.cfb_directory.specs.Shown.{table_in}
use Rattle.cfb_directory.specs.Trees.{Table, built, under, ends}
use Rattle.cfb_directory.specs.declared.family.Family.{Family}
use Rattle.cfb_directory.specs.declared.lookups.StorageId.{StorageId}
use Rattle.cfb_directory.proofs.TreeLaws.{enough}

abbrev pub key_at : Table → ℕ → List ℕ
key_at T id = folded (name_of (T.entry id))

-- the storage, or the stream, that an entry is
abbrev pub storage_pick : Table → (ℕ → Children) → Option ℕ → Option Files
storage_pick T below None = None
storage_pick T below (Some id) = cond (is_storage (T.entry id)) (Some (record { place = T.place id; class = (T.entry id).class; children = below id })) None

abbrev pub stream_pick : Table → Option ℕ → Option Found
stream_pick T None = None
stream_pick T (Some id) = cond (is_storage (T.entry id)) None (Some (record { stream = T.stream id; entry = T.place id }))

abbrev pub child_pick : Table → (ℕ → Children) → ℕ → Child
child_pick T below id = record { name = name_of (T.entry id); storage = storage_pick T below (Some id) }

apart_parts : (key : ℕ → List ℕ) (id : ℕ) (ids : List ℕ) → are_apart key (id ∷ ids) ≡ true → (first_named key (key id) ids ≡ None) × (are_apart key ids ≡ true)
apart_parts key id ids h = parts (first_named key (key id) ids) (are_apart key ids) h
  where
    parts : (r : Option ℕ) (b : Bool) → (not (is_some r) && b) ≡ true → (r ≡ None) × (b ≡ true)
    parts None b h = (refl, h)
    parts (Some x) b h = absurd (cc)

-- none of the others has the name of the first
no_more : (key : ℕ → List ℕ) (q : List ℕ) (id : ℕ) (ids : List ℕ) → pointwise nat_eq q (key id) ≡ true → are_apart key (id ∷ ids) ≡ true → first_named key q ids ≡ None
no_more key q id ids same apart = subst (λ l. first_named key l ids ≡ None) (sym ((bytes_eq-Decides q (key id)).0 same)) (apart_parts key id ids apart).0

turned : (x y : List ℕ) (b : Bool) → pointwise nat_eq x y ≡ b → pointwise nat_eq y x ≡ b
turned x y b h = nat_list_eq_equiv.symm y x ∙ h

storage_found : (T : Table) (below : ℕ → Children) (ids name : List ℕ) → are_apart (key_at T) ids ≡ true → storage_named (built T below ids none) name ≡ storage_pick T below (first_named (key_at T) (folded name) ids)
storage_found T below [] name apart = refl
storage_found T below (id ∷ ids) name apart =
    let rest = storage_found T below ids name (apart_parts (key_at T) id ids apart).1 in
    elim (cases_Bool (is_storage (T.entry id))) [
      | inl ours ↦ elim (cases_Bool (pointwise nat_eq (folded name) (key_at T id))) [
        | inl same ↦ rw (ours, same, turned _ _ _ same, ours) refl
        | inr other ↦ rw (ours, other, turned _ _ _ other) rest
      ]
      | inr theirs ↦ elim (cases_Bool (pointwise nat_eq (folded name) (key_at T id))) [
        | inl same ↦ rw (theirs, same, theirs) (rest ∙ ap (storage_pick T below) (no_more (key_at T) (folded name) id ids same apart))
        | inr other ↦ rw (theirs, other) rest
      ]
    ]

stream_found : (T : Table) (below : ℕ → Children) (ids name : List ℕ) → are_apart (key_at T) ids ≡ true → stream_named (built T below ids none) name ≡ stream_pick T (first_named (key_at T) (folded name) ids)
stream_found T below [] name apart = refl
stream_found T below (id ∷ ids) name apart =
    let rest = stream_found T below ids name (apart_parts (key_at T) id ids apart).1 in
    elim (cases_Bool (is_storage (T.entry id))) [
      | inl ours ↦ elim (cases_Bool (pointwise nat_eq (folded name) (key_at T id))) [
        | inl same ↦ rw (ours, same, ours) (rest ∙ ap (stream_pick T) (no_more (key_at T) (folded name) id ids same apart))
        | inr other ↦ rw (ours, other) rest
      ]
      | inr theirs ↦ elim (cases_Bool (pointwise nat_eq (folded name) (key_at T id))) [
        | inl same ↦ rw (theirs, same, turned _ _ _ same, theirs) refl
        | inr other ↦ rw (theirs, other, turned _ _ _ other) rest
      ]
    ]

children_found : (T : Table) (below : ℕ → Children) (ids : List ℕ) → children_list (built T below ids none) ≡ map (child_pick T below) ids
children_found T below [] = refl
children_found T below (id ∷ ids) =
    elim (cases_Bool (is_storage (T.entry id))) [
      | inl ours ↦ rw (ours, children_found T below ids) refl
      | inr theirs ↦ rw (theirs, children_found T below ids) refl
    ]

-- what is below an entry are its children, with what is below each
tree_step : (T : Table) (at : ℕ) → ends T.kids deepest at ≡ true → tree_at T at ≡ built T (tree_at T) (T.kids at) none
unfolding under
tree_step T at deep = enough T 102 at deep

pub storage_at_name : (T : Table) (at : ℕ) (name : List ℕ) (r : Option ℕ) → ends T.kids deepest at ≡ true → are_apart (key_at T) (T.kids at) ≡ true → r ≡ first_named (key_at T) (folded name) (T.kids at) → storage_named (tree_at T at) name ≡ storage_pick T (tree_at T) r
storage_at_name T at name r deep apart is =
    ap (λ c. storage_named c name) (tree_step T at deep) ∙ (storage_found T (tree_at T) (T.kids at) name apart ∙ ap (storage_pick T (tree_at T)) (sym is))

pub stream_at_name : (T : Table) (at : ℕ) (name : List ℕ) (r : Option ℕ) → ends T.kids deepest at ≡ true → are_apart (key_at T) (T.kids at) ≡ true → r ≡ first_named (key_at T) (folded name) (T.kids at) → stream_named (tree_at T at) name ≡ stream_pick T r
stream_at_name T at name r deep apart is =
    ap (λ c. stream_named c name) (tree_step T at deep) ∙ (stream_found T (tree_at T) (T.kids at) name apart ∙ ap (stream_pick T) (sym is))

pub children_at : (T : Table) (at : ℕ) → ends T.kids deepest at ≡ true → children_list (tree_at T at) ≡ map (child_pick T (tree_at T)) (T.kids at)
children_at T at deep = ap children_list (tree_step T at deep) ∙ children_found T (tree_at T) (T.kids at)

-- a longer list than every name is none
pub too_long : (key : ℕ → List ℕ) (n : ℕ) (q ids : List ℕ) → n < length q → ((id : ℕ) → length (key id) ≤ n) → first_named key q ids ≡ None
too_long key n q [] long short = refl
too_long key n q (id ∷ ids) long short =
    elim (cases_Bool (pointwise nat_eq q (key id))) [
      | inl same ↦ absurd (no_room ((bytes_eq-Decides q (key id)).0 same))
      | inr other ↦ rw other (too_long key n q ids long short)
    ]
  where
    no_room : q ≡ key id → ⊥
    no_room e = omega (arith, ap length e, short id)

-- what is found is one of them
pub first_inside : (key : ℕ → List ℕ) (n : ℕ) (q ids : List ℕ) → All (λ k. k < n) ids → IfSome (first_named key q ids) (λ id. id < n)
first_inside key n q [] inside = tt
first_inside key n q (id ∷ ids) inside =
    elim (cases_Bool (pointwise nat_eq q (key id))) [
      | inl same ↦ rw same (All-head (λ k. k < n) id ids inside)
      | inr other ↦ rw other (first_inside key n q ids (All-tail (λ k. k < n) id ids inside))
    ]

-- the index of a family, and its names
pub index_is : (families : List Family) (at : ℕ) (f : Family) (q : List ℕ) → at < length families → f ≡ get_or families at f → index_at families at q ≡ index_of f q
index_is families at f q inside is = ap (λ (h : List ℕ → Option ℕ). h q) (get_or-map index_of families at f (λ _. None) inside) ∙ ap (λ g. index_of g q) (sym is)

pub names_are : (families : List Family) (at : ℕ) (f : Family) → at < length families → f ≡ get_or families at f → names_at families at ≡ names_of f
names_are families at f inside is = get_or-map names_of families at f [] inside ∙ ap names_of (sym is)

-- the storage that an entry is
pub pick_seen : (f : Opened) (id : ℕ) → option_map (storage_seen f) (cond (is_storage (entry_of f.sectors id)) (Some (record { entry = id })) None) ≡ storage_pick (table_in f) (tree_at (table_in f)) (Some id)
pick_seen f id =
    elim (cases_Bool (is_storage (entry_of f.sectors id))) [
      | inl ours ↦ rw ours refl
      | inr other ↦ rw other refl
    ]

-- a storage that an entry is, if it is one, is among the entries
pub there_if : (b : Bool) (n id : ℕ) → id < n → IfSome (cond b (Some (record { entry = id })) None) (λ (s : StorageId). s.entry < n)
there_if true n id h = h
there_if false n id h = tt

-- the stream that an entry is
pub picked_stream : (T : Table) (id : ℕ) → option_map (λ (g : Found). g.stream) (stream_pick T (Some id)) ≡ cond (is_storage (T.entry id)) None (Some (T.stream id))
picked_stream T id =
    elim (cases_Bool (is_storage (T.entry id))) [
      | inl ours ↦ rw ours refl
      | inr other ↦ rw other refl
    ]

-- a storage, or another, by its type
pub storage_kind : (e : Entry) (kind : ℕ) → kind ≡ e.kind → kind ≡ 1 → is_storage e ≡ true
storage_kind e kind is one = ap (λ k. nat_eq k 1) (sym is) ∙ eq-eqb kind 1 one

pub stream_kind : (e : Entry) (kind : ℕ) → kind ≡ e.kind → (kind ≡ 1 → ⊥) → is_storage e ≡ false
stream_kind e kind is other = ap (λ k. nat_eq k 1) (sym is) ∙ ne_eqb kind 1 other

-- a child at a place
pub child_past : (T : Table) (at k : ℕ) → ends T.kids deepest at ≡ true → length (T.kids at) ≤ k → slice_get (children_list (tree_at T at)) k ≡ None
child_past T at k deep past =
    ap (λ l. slice_get l k) (children_at T at deep)
    ∙ (slice_get-map (child_pick T (tree_at T)) (T.kids at) k ∙ ap (option_map (child_pick T (tree_at T))) (slice_get-past (T.kids at) k past))
  where
    slice_get-past : (xs : List ℕ) (k : ℕ) → length xs ≤ k → slice_get xs k ≡ None
    slice_get-past [] k h = refl
    slice_get-past (x ∷ xs) zero h = absurd (omega arith)
    slice_get-past (x ∷ xs) (suc k) h = slice_get-past xs k (omega arith)

pub child_there : (T : Table) (at k id : ℕ) → ends T.kids deepest at ≡ true → k < length (T.kids at) → id ≡ get_or (T.kids at) k id → slice_get (children_list (tree_at T at)) k ≡ Some (child_pick T (tree_at T) id)
child_there T at k id deep inside is =
    ap (λ l. slice_get l k) (children_at T at deep)
    ∙ (slice_get-map (child_pick T (tree_at T)) (T.kids at) k ∙ ap (option_map (child_pick T (tree_at T))) (slice_get-here (T.kids at) k inside is))
  where
    slice_get-here : (xs : List ℕ) (k : ℕ) → k < length xs → id ≡ get_or xs k id → slice_get xs k ≡ Some id
    slice_get-here [] k h e = absurd (omega arith)
    slice_get-here (x ∷ xs) zero h e = ap (λ (n : ℕ). Some n) (sym e)
    slice_get-here (x ∷ xs) (suc k) h e = slice_get-here xs k (omega arith) e

pub child_inside : (n k id : ℕ) (xs ys : List ℕ) → All (λ k. k < n) xs → ys ≡ xs → k < length ys → id ≡ get_or ys k id → id < n
child_inside n k id xs ys all same below is =
    let small : get_or xs k id < n = all k id (rw (← same) below) in
    rw is (rw same small)

abbrev pub some_child : List ℕ → Option Files → Option Child
some_child name s = Some (record { name = name; storage = s })

pub same_child : (a b : List ℕ) (s t : Option Files) → a ≡ b → s ≡ t → some_child a s ≡ some_child b t
same_child a b s t h k = rw (h, k) refl

-- the stream at a place
stream_past : (T : Table) (below : ℕ → Children) (ids : List ℕ) (k : ℕ) → length ids ≤ k → child_stream (built T below ids none) k ≡ None
stream_past T below [] k past = refl
stream_past T below (id ∷ ids) zero past = absurd (omega arith)
stream_past T below (id ∷ ids) (suc k) past =
    elim (cases_Bool (is_storage (T.entry id))) [
      | inl ours ↦ rw ours (stream_past T below ids k (omega arith))
      | inr other ↦ rw other (stream_past T below ids k (omega arith))
    ]

stream_here : (T : Table) (below : ℕ → Children) (ids : List ℕ) (k id : ℕ) → k < length ids → id ≡ get_or ids k id → child_stream (built T below ids none) k ≡ cond (is_storage (T.entry id)) None (Some (T.stream id))
stream_here T below [] k id inside is = absurd (omega arith)
stream_here T below (x ∷ ids) zero id inside is =
    subst (λ y. child_stream (built T below (x ∷ ids) none) 0 ≡ cond (is_storage (T.entry y)) None (Some (T.stream y))) (sym is)
    (elim (cases_Bool (is_storage (T.entry x))) [
      | inl ours ↦ rw ours refl
      | inr other ↦ rw other refl
    ])
stream_here T below (x ∷ ids) (suc k) id inside is =
    elim (cases_Bool (is_storage (T.entry x))) [
      | inl ours ↦ rw ours (stream_here T below ids k id (omega arith) is)
      | inr other ↦ rw other (stream_here T below ids k id (omega arith) is)
    ]

pub child_stream_past : (T : Table) (at k : ℕ) → ends T.kids deepest at ≡ true → length (T.kids at) ≤ k → child_stream (tree_at T at) k ≡ None
child_stream_past T at k deep past = ap (λ c. child_stream c k) (tree_step T at deep) ∙ stream_past T (tree_at T) (T.kids at) k past

pub child_stream_there : (T : Table) (at k id : ℕ) → ends T.kids deepest at ≡ true → k < length (T.kids at) → id ≡ get_or (T.kids at) k id → child_stream (tree_at T at) k ≡ cond (is_storage (T.entry id)) None (Some (T.stream id))
child_stream_there T at k id deep inside is = ap (λ c. child_stream c k) (tree_step T at deep) ∙ stream_here T (tree_at T) (T.kids at) k id inside is
