-- The children of a storage, in whatever order they are found.
use Rattle.carrier_model.specs.FileTrees as trees
use Rattle.std.proofs.Common.{◌≡◌, List, ◌∷◌, ◌++◌, [], sym, subst, Option, Some, None, ap, ◌∙◌, refl, map, ℕ, true, Bool, false, zero, suc, arith}
use Rattle.std.specs.Prelude.{IsPermutation, filter_map, Contains}
use Rattle.std.proofs.lemmas.List.Sorted.{IsPermutation-refl, IsPermutation-sym, IsPermutation-trans, IsPermutation-middle, IsPermutation-cons, IsPermutation-map, Contains-permutation}
use Rattle.std.specs.List.{cons_option, AllByRecursion, IsDistinct}
use Rattle.std.proofs.lemmas.List.Elements.{filter_map-append}
use Rattle.std.proofs.lemmas.List.{map-append}
use Rattle.carrier_model.specs.Files.{Tag, Children, none, storage, stream, folded, Files}
use Rattle.carrier_model.specs.Streams.{Stream}
use Rattle.carrier_model.specs.FileTrees.{FileTree, sorted, with_stream, sibling_cmp, with_storage, Named, bytes_at, store_at, files_listed, in_order_below}
use Rattle.carrier_model.specs.Stores.{bare}
use Rattle.std.specs.declared.cmp.Ordering.{Ordering}
use Rattle.std.specs.declared.cmp.Ordering.TheVariants.{Less, Equal, Greater}
use Rattle.carrier_model.specs.Sorted.{choose}
use Rattle.std.proofs.lemmas.Slice.Eq.{bytes_eq-Decides}
use Rattle.carrier_model.specs.Lookups.{same_name, stream_named, storage_at, storage_named}
use Rattle.std.proofs.lemmas.Bool.{cond-true, cond-false}
use Rattle.std.proofs.lemmas.Map.Keys.{IsDistinct-IsPermutation}
use Rattle.carrier_model.proofs.SortedLists.{in_tail}

-- x stands somewhere among others
abbrev pub Among : {A : Type 0} → A → List A → List A → Type 0
Among {A} x others all = (front : List A) × (back : List A) × (others ≡ front ++ back) × (all ≡ front ++ x ∷ back)

abbrev pub Arranged : {A : Type 0} → List A → List A → Type 0
Arranged [] all = all ≡ []
Arranged {A} (x ∷ xs) all = (others : List A) × Among x others all × Arranged xs others

pub arranged_permutes : {A : Type 0} (xs all : List A) → Arranged xs all → IsPermutation xs all
arranged_permutes [] all h = subst (λ l. IsPermutation [] l) (sym h) (IsPermutation-refl [])
arranged_permutes (x ∷ xs) all (others, (front, back, split, whole), rest) =
    let mid : IsPermutation (x ∷ (front ++ back)) (front ++ x ∷ back) = IsPermutation-sym (front ++ x ∷ back) (x ∷ (front ++ back)) (IsPermutation-middle front x back) in
    let same : IsPermutation (x ∷ others) all = subst (λ l. IsPermutation (x ∷ l) all) (sym split) (subst (λ l. IsPermutation (x ∷ (front ++ back)) l) (sym whole) mid) in
    IsPermutation-trans (x ∷ xs) (x ∷ others) all (IsPermutation-cons x xs others (arranged_permutes xs others rest)) same

front_map : {A B : Type 0} (f : A → Option B) (x : A) (b : B) (front back : List A) → f x ≡ Some b → filter_map f (front ++ x ∷ back) ≡ filter_map f front ++ b ∷ filter_map f back
front_map {B = B} f x b front back e = filter_map-append f front (x ∷ back) ∙ ap (λ (l : List B). filter_map f front ++ l) (cons_some (f x) b (filter_map f back) e)
  where
    cons_some : (o : Option B) (c : B) (rest : List B) → o ≡ Some c → cons_option o rest ≡ c ∷ rest
    cons_some None c rest h = absurd cc
    cons_some (Some d) c rest h = let same : d ≡ c = cc in ap (λ (y : B). y ∷ rest) same

none_map : {A B : Type 0} (f : A → Option B) (x : A) (front back : List A) → f x ≡ None → filter_map f (front ++ x ∷ back) ≡ filter_map f (front ++ back)
none_map {B = B} f x front back e = filter_map-append f front (x ∷ back) ∙ (ap (λ (l : List B). filter_map f front ++ l) (cons_none (f x) (filter_map f back) e) ∙ sym (filter_map-append f front back))
  where
    cons_none : (o : Option B) (rest : List B) → o ≡ None → cons_option o rest ≡ rest
    cons_none None rest h = refl
    cons_none (Some d) rest h = absurd cc

-- what is chosen of the elements is arranged alike
pub arranged_chosen : {A B : Type 0} (f : A → Option B) (xs all : List A) → Arranged xs all → Arranged (filter_map f xs) (filter_map f all)
arranged_chosen f [] all h = ap (filter_map f) h
arranged_chosen {A} {B} f (x ∷ xs) all (others, (front, back, split, whole), rest) = by (arranged_chosen f xs others rest) (f x) refl
  where
    by : Arranged (filter_map f xs) (filter_map f others) → (o : Option B) → f x ≡ o → Arranged (cons_option o (filter_map f xs)) (filter_map f all)
    by h None e = subst (λ (l : List B). Arranged (filter_map f xs) l) (ap (filter_map f) split ∙ (sym (none_map f x front back e) ∙ ap (filter_map f) (sym whole))) h
    by h (Some b) e = (filter_map f others, (filter_map f front, filter_map f back, ap (filter_map f) split ∙ filter_map-append f front back, ap (filter_map f) whole ∙ front_map f x b front back e), h)

pub arranged_map : {A B : Type 0} (f : A → B) (xs all : List A) → Arranged xs all → Arranged (map f xs) (map f all)
arranged_map f [] all h = ap (map f) h
arranged_map f (x ∷ xs) all (others, (front, back, split, whole), rest) =
    (map f others, (map f front, map f back, ap (map f) split ∙ map-append f front back, ap (map f) whole ∙ map-append f front (x ∷ back)), arranged_map f xs others rest)

-- a list of views that is split comes from a list that is split
map_split : {A B : Type 0} (f : A → B) (l : List A) (front : List B) (x : B) (back : List B) → map f l ≡ front ++ x ∷ back
    → (one : List A) × (a : A) × (other : List A) × (l ≡ one ++ a ∷ other) × (map f one ≡ front) × (f a ≡ x) × (map f other ≡ back)
map_split f [] [] x back e = absurd cc
map_split f [] (y ∷ front) x back e = absurd cc
map_split f (a ∷ l) [] x back e = ([], a, l, refl, refl, (let h : f a ∷ map f l ≡ x ∷ back = e in cc), (let h : f a ∷ map f l ≡ x ∷ back = e in cc))
map_split f (a ∷ l) (y ∷ front) x back e =
    let tail : map f l ≡ front ++ x ∷ back = (let h : f a ∷ map f l ≡ y ∷ (front ++ x ∷ back) = e in cc) in
    let head : f a ≡ y = (let h : f a ∷ map f l ≡ y ∷ (front ++ x ∷ back) = e in cc) in
    let (one, b, other, is, p, q, r) = map_split f l front x back tail in
    (a ∷ one, b, other, ap (λ z. a ∷ z) is, (λ i. head i ∷ p i), q, r)

-- views that are arranged come from a list that is arranged
pub arranged_back : {A B : Type 0} (f : A → B) (xs : List B) (l : List A) → Arranged xs (map f l) → (ks : List A) × (map f ks ≡ xs) × Arranged ks l
arranged_back f [] [] h = ([], refl, refl)
arranged_back f [] (a ∷ l) h = absurd (let e : f a ∷ map f l ≡ [] = h in cc)
arranged_back f (x ∷ xs) l (others, (front, back, split, whole), rest) =
    let (one, a, other, is, p, q, r) = map_split f l front x back whole in
    let views : map f (one ++ other) ≡ others = map-append f one other ∙ ((λ i. p i ++ r i) ∙ sym split) in
    let (ks, viewed, under) = arranged_back f xs (one ++ other) (subst (λ z. Arranged xs z) (sym views) rest) in
    (a ∷ ks, (λ i. q i ∷ viewed i), (one ++ other, (one, other, refl, is), under))

pub data Kid : Type 0 where
  stream_kid : (tag : Tag) → (s : Stream) → Kid
  storage_kid : (tag : Tag) → (below : Children) → Kid

abbrev pub kids : Children → List Kid
kids none = []
kids (storage tag below rest) = storage_kid tag below ∷ kids rest
kids (stream tag s rest) = stream_kid tag s ∷ kids rest

-- a child that is written
pub data Entry : Type 0 where
  file : (name bytes : List ℕ) → Entry
  folder : (name class : List ℕ) → (inside : FileTree) → Entry

abbrev pub entries : FileTree → List Entry
entries trees.no_file = []
entries (trees.stream name bytes others) = file name bytes ∷ entries others
entries (trees.storage name class inside others) = folder name class inside ∷ entries others

abbrev pub entry_name : Entry → List ℕ
entry_name (file name bytes) = name
entry_name (folder name class inside) = name

-- a child by its name and bytes
abbrev pub bare_kid : Kid → Entry
bare_kid (stream_kid tag s) = file tag.name s.bytes
bare_kid (storage_kid tag below) = folder tag.name tag.class (bare below)

bare_kids : (c : Children) → entries (bare c) ≡ map bare_kid (kids c)
bare_kids none = refl
bare_kids (storage tag below rest) = ap (λ l. folder tag.name tag.class (bare below) ∷ l) (bare_kids rest)
bare_kids (stream tag s rest) = ap (λ l. file tag.name s.bytes ∷ l) (bare_kids rest)

-- a child as it was written, what is in a storage in another order
abbrev pub found_entry : Entry → Entry
found_entry (file name bytes) = file name bytes
found_entry (folder name class inside) = folder name class (sorted inside)

-- further back is among too
among_more : (x y : Entry) (others all : List Entry) → Among x others all → Among x (y ∷ others) (y ∷ all)
among_more x y others all (front, back, split, whole) = (y ∷ front, back, ap (λ l. y ∷ l) split, ap (λ l. y ∷ l) whole)

with_stream_among : (name bytes : List ℕ) (g : FileTree) → Among (file name bytes) (entries g) (entries (with_stream name bytes g))
with_stream_among name bytes trees.no_file = ([], [], refl, refl)
with_stream_among name bytes (trees.stream other x others) = by (with_stream_among name bytes others) (sibling_cmp other name)
  where
    by : Among (file name bytes) (entries others) (entries (with_stream name bytes others)) → (o : Ordering) → Among (file name bytes) (file other x ∷ entries others) (entries (choose o (trees.stream other x (with_stream name bytes others)) (trees.stream name bytes (trees.stream other x others)) (trees.stream name bytes (trees.stream other x others))))
    by h Less = among_more (file name bytes) (file other x) (entries others) (entries (with_stream name bytes others)) h
    by h Equal = ([], file other x ∷ entries others, refl, refl)
    by h Greater = ([], file other x ∷ entries others, refl, refl)
with_stream_among name bytes (trees.storage other class inside others) = by (with_stream_among name bytes others) (sibling_cmp other name)
  where
    by : Among (file name bytes) (entries others) (entries (with_stream name bytes others)) → (o : Ordering) → Among (file name bytes) (folder other class inside ∷ entries others) (entries (choose o (trees.storage other class inside (with_stream name bytes others)) (trees.stream name bytes (trees.storage other class inside others)) (trees.stream name bytes (trees.storage other class inside others))))
    by h Less = among_more (file name bytes) (folder other class inside) (entries others) (entries (with_stream name bytes others)) h
    by h Equal = ([], folder other class inside ∷ entries others, refl, refl)
    by h Greater = ([], folder other class inside ∷ entries others, refl, refl)

with_storage_among : (name class : List ℕ) (below g : FileTree) → Among (folder name class below) (entries g) (entries (with_storage name class below g))
with_storage_among name class below trees.no_file = ([], [], refl, refl)
with_storage_among name class below (trees.stream other x others) = by (with_storage_among name class below others) (sibling_cmp other name)
  where
    by : Among (folder name class below) (entries others) (entries (with_storage name class below others)) → (o : Ordering) → Among (folder name class below) (file other x ∷ entries others) (entries (choose o (trees.stream other x (with_storage name class below others)) (trees.storage name class below (trees.stream other x others)) (trees.storage name class below (trees.stream other x others))))
    by h Less = among_more (folder name class below) (file other x) (entries others) (entries (with_storage name class below others)) h
    by h Equal = ([], file other x ∷ entries others, refl, refl)
    by h Greater = ([], file other x ∷ entries others, refl, refl)
with_storage_among name class below (trees.storage other kind inside others) = by (with_storage_among name class below others) (sibling_cmp other name)
  where
    by : Among (folder name class below) (entries others) (entries (with_storage name class below others)) → (o : Ordering) → Among (folder name class below) (folder other kind inside ∷ entries others) (entries (choose o (trees.storage other kind inside (with_storage name class below others)) (trees.storage name class below (trees.storage other kind inside others)) (trees.storage name class below (trees.storage other kind inside others))))
    by h Less = among_more (folder name class below) (folder other kind inside) (entries others) (entries (with_storage name class below others)) h
    by h Equal = ([], folder other kind inside ∷ entries others, refl, refl)
    by h Greater = ([], folder other kind inside ∷ entries others, refl, refl)

sorted_arranged : (f : FileTree) → Arranged (map found_entry (entries f)) (entries (sorted f))
sorted_arranged trees.no_file = refl
sorted_arranged (trees.stream name bytes others) = (entries (sorted others), with_stream_among name bytes (sorted others), sorted_arranged others)
sorted_arranged (trees.storage name class inside others) = (entries (sorted others), with_storage_among name class (sorted inside) (sorted others), sorted_arranged others)

-- the same as a list of members
abbrev member_entry : Entry → Named
member_entry (file name bytes) = (name, bytes_at bytes)
member_entry (folder name class inside) = (name, store_at (record { class = class; members = inside }))

members_listed : (f : FileTree) → map member_entry (entries f) ≡ files_listed f
members_listed trees.no_file = refl
members_listed (trees.stream name bytes others) = ap (λ l. (name, bytes_at bytes) ∷ l) (members_listed others)
members_listed (trees.storage name class inside others) = ap (λ l. (name, store_at (record { class = class; members = inside })) ∷ l) (members_listed others)

in_order_listed : (es : List Entry) → map member_entry (map found_entry es) ≡ map in_order_below (map member_entry es)
in_order_listed [] = refl
in_order_listed (file name bytes ∷ es) = ap (λ l. (name, bytes_at bytes) ∷ l) (in_order_listed es)
in_order_listed (folder name class inside ∷ es) = ap (λ l. (name, store_at (record { class = class; members = sorted inside })) ∷ l) (in_order_listed es)

-- siblings in order are the same siblings
pub sorted-same : (f : FileTree) → IsPermutation (map in_order_below (files_listed f)) (files_listed (sorted f))
sorted-same f =
    let p : IsPermutation (map member_entry (map found_entry (entries f))) (map member_entry (entries (sorted f))) = IsPermutation-map member_entry (map found_entry (entries f)) (entries (sorted f)) (arranged_permutes (map found_entry (entries f)) (entries (sorted f)) (sorted_arranged f)) in
    subst (λ l. IsPermutation l (files_listed (sorted f))) (in_order_listed (entries f) ∙ ap (map in_order_below) (members_listed f)) (subst (λ l. IsPermutation (map member_entry (map found_entry (entries f))) l) (members_listed (sorted f)) p)

-- The children that are found, in the order in which they were written.
pub record FoundAs (c : Children) (f : FileTree) : Type 0 where
  pub own : List Kid
  pub views : map bare_kid own ≡ map found_entry (entries f)
  pub order : Arranged own (kids c)

pub found_as : (c : Children) (f : FileTree) → bare c ≡ sorted f → FoundAs c f
found_as c f e =
    let all : map bare_kid (kids c) ≡ entries (sorted f) = sym (bare_kids c) ∙ ap entries e in
    let arranged : Arranged (map found_entry (entries f)) (map bare_kid (kids c)) = subst (λ z. Arranged (map found_entry (entries f)) z) (sym all) (sorted_arranged f) in
    let (own, views, order) = arranged_back bare_kid (map found_entry (entries f)) (kids c) arranged in
    record { own = own; views = views; order = order }

abbrev pub kid_name : Kid → List ℕ
kid_name (stream_kid tag s) = tag.name
kid_name (storage_kid tag below) = tag.name

same_name_itself : (n : List ℕ) → same_name n n ≡ true
same_name_itself n = (bytes_eq-Decides (folded n) (folded n)).1 refl

same_name_flips : (m n : List ℕ) → same_name m n ≡ same_name n m
same_name_flips m n = by (same_name m n) (same_name n m) (bytes_eq-Decides (folded m) (folded n)) (bytes_eq-Decides (folded n) (folded m))
  where
    by : (a b : Bool) → ((a ≡ true → folded m ≡ folded n) × (folded m ≡ folded n → a ≡ true)) → ((b ≡ true → folded n ≡ folded m) × (folded n ≡ folded m → b ≡ true)) → a ≡ b
    by true true p q = refl
    by false false p q = refl
    by true false p q = absurd (let h : false ≡ true = q.1 (sym (p.0 refl)) in cc)
    by false true p q = absurd (let h : false ≡ true = p.1 (sym (q.0 refl)) in cc)

-- a name that is in a list, and one that no name of the list is equal to
other_name : (n : List ℕ) (ks : List Kid) (k : Kid) → AllByRecursion (λ m. same_name n m ≡ false) (map kid_name ks) → Contains ks k → same_name n (kid_name k) ≡ false
other_name n [] k h (i, lt, e) = absurd (omega (arith, lt))
other_name n (x ∷ ks) k h (zero, lt, e) = subst (λ y. same_name n (kid_name y) ≡ false) e h.0
other_name n (x ∷ ks) k h (suc i, lt, e) = other_name n ks k h.1 (i, omega (arith, lt), e)

pub stream_looked_up : (c : Children) (tag : Tag) (s : Stream) → IsDistinct same_name (map kid_name (kids c)) → Contains (kids c) (stream_kid tag s) → stream_named c tag.name ≡ Some (record { stream = s; entry = tag.place })
unfolding IsDistinct
stream_looked_up none tag s d (i, lt, e) = absurd (omega (arith, lt))
stream_looked_up (storage other below rest) tag s d (zero, lt, e) = absurd cc
stream_looked_up (storage other below rest) tag s d (suc i, lt, e) = stream_looked_up rest tag s d.1 (i, omega (arith, lt), e)
stream_looked_up (stream other x rest) tag s d (zero, lt, e) =
    let same : other ≡ tag = cc in
    let bytes : x ≡ s = cc in
    cond-true (same_name other.name tag.name) _ _ (ap (λ (t : Tag). same_name t.name tag.name) same ∙ same_name_itself tag.name) ∙ (λ j. Some (record { stream = bytes j; entry = (same j).place }))
stream_looked_up (stream other x rest) tag s d (suc i, lt, e) =
    let there : Contains (kids rest) (stream_kid tag s) = (i, omega (arith, lt), e) in
    cond-false (same_name other.name tag.name) _ _ (other_name other.name (kids rest) (stream_kid tag s) d.0 there) ∙ stream_looked_up rest tag s d.1 there

storage_looked_up : (c : Children) (tag : Tag) (below : Children) → IsDistinct same_name (map kid_name (kids c)) → Contains (kids c) (storage_kid tag below) → storage_named c tag.name ≡ Some (storage_at tag below)
unfolding IsDistinct
storage_looked_up none tag below d (i, lt, e) = absurd (omega (arith, lt))
storage_looked_up (stream other x rest) tag below d (zero, lt, e) = absurd cc
storage_looked_up (stream other x rest) tag below d (suc i, lt, e) = storage_looked_up rest tag below d.1 (i, omega (arith, lt), e)
storage_looked_up (storage other inside rest) tag below d (zero, lt, e) =
    let same : other ≡ tag = cc in
    let under : inside ≡ below = cc in
    cond-true (same_name other.name tag.name) _ _ (ap (λ (t : Tag). same_name t.name tag.name) same ∙ same_name_itself tag.name) ∙ (λ j. Some (storage_at (same j) (under j)))
storage_looked_up (storage other inside rest) tag below d (suc i, lt, e) =
    let there : Contains (kids rest) (storage_kid tag below) = (i, omega (arith, lt), e) in
    cond-false (same_name other.name tag.name) _ _ (other_name other.name (kids rest) (storage_kid tag below) d.0 there) ∙ storage_looked_up rest tag below d.1 there

-- the names of children are those that were written
bare_name : (k : Kid) → entry_name (bare_kid k) ≡ kid_name k
bare_name (stream_kid tag s) = refl
bare_name (storage_kid tag below) = refl

found_name : (e : Entry) → entry_name (found_entry e) ≡ entry_name e
found_name (file name bytes) = refl
found_name (folder name class inside) = refl

map_names : {A B C : Type 0} (f : A → B) (g : B → C) (h : A → C) → ((a : A) → g (f a) ≡ h a) → (l : List A) → map g (map f l) ≡ map h l
map_names f g h e [] = refl
map_names f g h e (a ∷ l) = λ i. e a i ∷ map_names f g h e l i

-- the names of a storage's children, as they are written, are apart
abbrev pub Apart : FileTree → Type 0
Apart f = IsDistinct same_name (map entry_name (entries f))

pub kids_apart : (c : Children) (f : FileTree) → (h : FoundAs c f) → Apart f → IsDistinct same_name (map kid_name (kids c))
kids_apart c f h d =
    let names : map kid_name h.own ≡ map entry_name (entries f) = sym (map_names bare_kid entry_name kid_name bare_name h.own) ∙ (ap (map entry_name) h.views ∙ map_names found_entry entry_name entry_name found_name (entries f)) in
    let own : IsDistinct same_name (map kid_name h.own) = subst (IsDistinct same_name) (sym names) d in
    IsDistinct-IsPermutation same_name same_name_flips (map kid_name h.own) (map kid_name (kids c)) (IsPermutation-map kid_name h.own (kids c) (arranged_permutes h.own (kids c) h.order)) own

-- a view that is in the list of views is that of an element
view_of : (ks : List Kid) (es : List Entry) (e : Entry) → map bare_kid ks ≡ map found_entry es → Contains es e → (k : Kid) × Contains ks k × (bare_kid k ≡ found_entry e)
view_of [] [] e views (i, lt, q) = absurd (omega (arith, lt))
view_of [] (x ∷ es) e views c = absurd cc
view_of (k ∷ ks) [] e views c = absurd cc
view_of (k ∷ ks) (x ∷ es) e views (zero, lt, q) = (k, (zero, omega arith, refl), (let h : bare_kid k ∷ map bare_kid ks ≡ found_entry x ∷ map found_entry es = views in let one : bare_kid k ≡ found_entry x = cc in one ∙ ap found_entry q))
view_of (k ∷ ks) (x ∷ es) e views (suc i, lt, q) =
    let tail : map bare_kid ks ≡ map found_entry es = (let h : bare_kid k ∷ map bare_kid ks ≡ found_entry x ∷ map found_entry es = views in cc) in
    let (j, there, same) = view_of ks es e tail (i, omega (arith, lt), q) in
    (j, in_tail k j ks there, same)

pub kid_in : (c : Children) (f : FileTree) (h : FoundAs c f) (e : Entry) → Contains (entries f) e → (k : Kid) × Contains (kids c) k × (bare_kid k ≡ found_entry e)
kid_in c f h e there =
    let (k, own, same) = view_of h.own (entries f) e h.views there in
    (k, Contains-permutation h.own (kids c) k (arranged_permutes h.own (kids c) h.order) own, same)

-- a storage that holds what was written
pub record HasStorage (c : Children) (name class : List ℕ) (inside : FileTree) : Type 0 where
  pub s : Files
  pub there : storage_named c name ≡ Some s
  pub class_is : s.class ≡ class
  pub holds : bare s.children ≡ sorted inside

pub storage_found : (c : Children) (f : FileTree) → FoundAs c f → Apart f → (name class : List ℕ) (inside : FileTree) → Contains (entries f) (folder name class inside) → HasStorage c name class inside
storage_found c f h d name class inside there = by (kid_in c f h (folder name class inside) there)
  where
    by : (k : Kid) × Contains (kids c) k × (bare_kid k ≡ folder name class (sorted inside)) → HasStorage c name class inside
    by (storage_kid tag below, in_kids, e) =
        let is_name : tag.name ≡ name = cc in
        let is_class : tag.class ≡ class = cc in
        let is_inside : bare below ≡ sorted inside = cc in
        record { s = storage_at tag below; class_is = is_class; there = ap (storage_named c) (sym is_name) ∙ storage_looked_up c tag below (kids_apart c f h d) in_kids; holds = is_inside }
    by (stream_kid tag s, in_kids, e) = absurd cc
