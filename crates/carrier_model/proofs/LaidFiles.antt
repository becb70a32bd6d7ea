-- A tree of storages and streams, by the entries that it is laid out in.
use Rattle.std.proofs.Common.{◌≡◌, ℕ, suc, ◌+◌, ◌*◌, ◌%◌, ◌<◌, ◌≤◌, List, [], ◌∷◌, ◌++◌, length, drop, Bool, true, false, not, ◌||◌, refl, sym, ◌∙◌, ap, subst, arith}
use Rattle.std.specs.Prelude.{IsPermutation}
use Rattle.std.specs.List.{range_with_len}
use Rattle.std.proofs.lemmas.Bool.{cond-true, cond-false, le-leb, eq-eqb}
use Rattle.std.proofs.lemmas.List.{length-append}
use Rattle.std.proofs.lemmas.List.Sorted.{IsPermutation-refl, IsPermutation-trans, IsPermutation-cons, IsPermutation-append_left, IsPermutation-append_right}
use Rattle.carrier_model.specs.Entries.{Entry}
use Rattle.carrier_model.specs.FileTrees as trees
use Rattle.carrier_model.specs.FileTrees.{FileTree, entries_in, file_names}
use Rattle.carrier_model.specs.Files.{Tag, Children, none, storage, stream, name_of, tree_of}
use Rattle.carrier_model.specs.Holds.{AreApart, child_names, HaveNames}
use Rattle.carrier_model.specs.Layout.{Slot, sibling_numbers, links_of_siblings, top_of, side_links, slots_from}
use Rattle.carrier_model.specs.LayoutHolds.{MayBeWrittenAt}
use Rattle.carrier_model.specs.Stores.{bare}
use Rattle.carrier_model.specs.Links.{Directory, leaf, no_link, ids, is_storage, has_type, has_name, fits_depth, Linked, below_depth, below_link}
use Rattle.carrier_model.specs.Streams.{Stream}
use Rattle.carrier_model.proofs.LaidLinks.{Item, numbers, balanced, AreLinked, item_top, item_links, item_links-length, side_links-are, balanced-linked, all_ids, balanced-ids, item_tree, row, balanced-tree}
use Rattle.carrier_model.proofs.PlaceLaws.{range-append}

-- the siblings of such a tree, the first of which has this number
abbrev pub items_from : ℕ → FileTree → List Item
items_from n trees.no_file = []
items_from n (trees.stream name bytes others) = record { id = n; below = leaf } ∷ items_from (n + 1) others
items_from n (trees.storage name class inside others) =
    record { id = n; below = balanced (length (items_from (n + 1) inside)) (items_from (n + 1) inside) } ∷ items_from (n + 1 + entries_in inside) others

pub numbers-are : (n : ℕ) (files : FileTree) → numbers (items_from n files) ≡ sibling_numbers n files
numbers-are n trees.no_file = refl
numbers-are n (trees.stream name bytes others) = ap (λ (l : List ℕ). n ∷ l) (numbers-are (n + 1) others)
numbers-are n (trees.storage name class inside others) = ap (λ (l : List ℕ). n ∷ l) (numbers-are (n + 1 + entries_in inside) others)

numbers-many : (items : List Item) → length (numbers items) ≡ length items
numbers-many [] = refl
numbers-many (i ∷ items) = ap suc (numbers-many items)

pub links-are : (n : ℕ) (files : FileTree) → links_of_siblings (sibling_numbers n files) ≡ item_links (length (items_from n files)) (items_from n files)
links-are n files =
    ap links_of_siblings (sym (numbers-are n files))
    ∙ (ap (λ k. side_links k (numbers (items_from n files))) (numbers-many (items_from n files))
    ∙ side_links-are (length (items_from n files)) (items_from n files))

-- an entry shows what it is written from
pub record IsShown (d : Directory) (k : ℕ) (s : Slot) : Type 0 where
  pub there : k < d.count
  pub name : name_of (d.entry k) ≡ s.name
  pub name_bytes : (d.entry k).name_bytes ≡ 2 * (length s.name + 1)
  pub kind : (d.entry k).kind ≡ s.kind
  pub left : (d.entry k).left ≡ s.left
  pub right : (d.entry k).right ≡ s.right
  pub child : (d.entry k).child ≡ s.child
  pub size : (d.entry k).size ≡ length s.bytes
  pub class : (d.entry k).class ≡ s.class

abbrev pub AreShown : Directory → ℕ → List Slot → Type 0
AreShown d k [] = Unit {0}
AreShown d k (s ∷ slots) = IsShown d k s × AreShown d (k + 1) slots

pub shown-split : (d : Directory) (k to : ℕ) (xs ys : List Slot) → to ≡ k + length xs → AreShown d k (xs ++ ys) → AreShown d k xs × AreShown d to ys
shown-split d k to [] ys is h = (tt, subst (λ j. AreShown d j ys) (omega (arith, is)) h)
shown-split d k to (x ∷ xs) ys is h = let more = shown-split d (k + 1) to xs ys (omega (arith, is)) h.1 in ((h.0, more.0), more.1)

pub slots-many : (n : ℕ) (ls : List (ℕ × ℕ)) (files : FileTree) → length (slots_from n ls files) ≡ entries_in files
slots-many n ls trees.no_file = refl
slots-many n ls (trees.stream name bytes others) = ap suc (slots-many (n + 1) (drop 1 ls) others)
slots-many n ls (trees.storage name class inside others) =
    ap suc (length-append (slots_from (n + 1) (links_of_siblings (sibling_numbers (n + 1) inside)) inside) (slots_from (n + 1 + entries_in inside) (drop 1 ls) others)
    ∙ rw (slots-many (n + 1) (links_of_siblings (sibling_numbers (n + 1) inside)) inside, slots-many (n + 1 + entries_in inside) (drop 1 ls) others) refl)

named : (e : Entry) (len : ℕ) → e.name_bytes ≡ 2 * (len + 1) → len ≤ 31 → has_name e ≡ true
named e len is few =
    let even : e.name_bytes % 2 ≡ 0 = omega (arith, is) in
    rw (eq-eqb (e.name_bytes % 2) 0 even, le-leb 2 e.name_bytes (omega (arith, is)), le-leb e.name_bytes 64 (omega (arith, is, few))) refl

of_stream : (e : Entry) → e.kind ≡ 2 → (has_type e ≡ true) × (is_storage e ≡ false)
of_stream e is = (rw is refl, rw is refl)

of_storage : (e : Entry) → e.kind ≡ 1 → (has_type e ≡ true) × (is_storage e ≡ true)
of_storage e is = (rw is refl, rw is refl)

fits_any : (e : Entry) (depth : ℕ) → is_storage e ≡ false → fits_depth e depth ≡ true
fits_any e depth other = rw other refl

fits_here : (e : Entry) (depth : ℕ) → depth ≤ 100 → fits_depth e depth ≡ true
fits_here e depth few = rw (le-leb depth 100 few) (either (is_storage e))
  where
    either : (b : Bool) → (not b || true) ≡ true
    either true = refl
    either false = refl

-- the items are linked
pub files-linked : (d : Directory) (depth n : ℕ) (ls : List (ℕ × ℕ)) (files : FileTree) → length ls ≡ length (items_from n files) → AreShown d n (slots_from n ls files) → MayBeWrittenAt depth files → AreLinked d depth (items_from n files) ls
files-linked d depth n [] trees.no_file long shown may = tt
files-linked d depth n (l ∷ ls) trees.no_file long shown may = absurd (omega (arith, long))
files-linked d depth n [] (trees.stream name bytes others) long shown may = absurd (omega (arith, long))
files-linked d depth n (l ∷ ls) (trees.stream name bytes others) long shown may =
    let s = shown.0 in
    let e = d.entry n in
    let kind = of_stream e s.kind in (
      record {
        there = s.there;
        child = record { typed = kind.0; named = named e (length name) s.name_bytes may.0.few; shallow = fits_any e depth kind.1 };
        left = s.left;
        right = s.right;
        linked = cond-false (is_storage e) e.child no_link kind.1;
      },
      files-linked d depth (n + 1) ls others (omega (arith, long)) shown.1 may.2,
    )
files-linked d depth n [] (trees.storage name class inside others) long shown may = absurd (omega (arith, long))
files-linked d depth n (l ∷ ls) (trees.storage name class inside others) long shown may =
    let s = shown.0 in
    let e = d.entry n in
    let kind = of_storage e s.kind in
    let items = items_from (n + 1) inside in
    let links = links_of_siblings (sibling_numbers (n + 1) inside) in
    let split = shown-split d (n + 1) (n + 1 + entries_in inside) (slots_from (n + 1) links inside) (slots_from (n + 1 + entries_in inside) ls others) (ap (λ k. n + 1 + k) (sym (slots-many (n + 1) links inside))) shown.1 in
    let same = links-are (n + 1) inside in
    let inner = files-linked d (depth + 1) (n + 1) (item_links (length items) items) inside (item_links-length (length items) items (omega arith))
    (subst (λ (k : List (ℕ × ℕ)). AreShown d (n + 1) (slots_from (n + 1) k inside)) same split.0) may.4 in
    let below = balanced-linked (length items) d (depth + 1) items (omega arith) inner in
    let top : below_link e ≡ item_top items = cond-true (is_storage e) e.child no_link kind.1 ∙ (s.child ∙ ap top_of (sym (numbers-are (n + 1) inside))) in
    let deep : below_depth e depth ≡ depth + 1 = cond-true (is_storage e) (depth + 1) 0 kind.1 in (
      record {
        there = s.there;
        child = record { typed = kind.0; named = named e (length name) s.name_bytes may.0.few; shallow = fits_here e depth may.2 };
        left = s.left;
        right = s.right;
        linked = subst (λ k. Linked d k (below_link e) (balanced (length items) items)) (sym deep) (subst (λ x. Linked d (depth + 1) x (balanced (length items) items)) (sym top) below);
      },
      files-linked d depth (n + 1 + entries_in inside) ls others (omega (arith, long)) split.1 may.5,
    )

-- ---- the numbers

pub files-ids : (n : ℕ) (files : FileTree) → IsPermutation (all_ids (items_from n files)) (range_with_len n (entries_in files))
files-ids n trees.no_file = IsPermutation-refl []
files-ids n (trees.stream name bytes others) = IsPermutation-cons n (all_ids (items_from (n + 1) others)) (range_with_len (n + 1) (entries_in others)) (files-ids (n + 1) others)
files-ids n (trees.storage name class inside others) =
    let items = items_from (n + 1) inside in
    let x = ids (balanced (length items) items) in
    let y = all_ids (items_from (n + 1 + entries_in inside) others) in
    let rx = range_with_len (n + 1) (entries_in inside) in
    let ry = range_with_len (n + 1 + entries_in inside) (entries_in others) in
    let one = IsPermutation-trans x (all_ids items) rx (balanced-ids (length items) items (omega arith)) (files-ids (n + 1) inside) in
    let both = IsPermutation-trans (x ++ y) (rx ++ y) (rx ++ ry) (IsPermutation-append_left y x rx one) (IsPermutation-append_right rx y ry (files-ids (n + 1 + entries_in inside) others)) in
    IsPermutation-cons n (x ++ y) (range_with_len (n + 1) (entries_in inside + entries_in others))
    (subst (λ (l : List ℕ). IsPermutation (x ++ y) l) (sym (range-append (n + 1) (entries_in inside) (entries_in others))) both)

-- ---- the tree

-- the streams have these bytes
abbrev pub HaveBytes : (ℕ → Stream) → ℕ → FileTree → Type 0
HaveBytes streams n trees.no_file = Unit {0}
HaveBytes streams n (trees.stream name bytes others) = ((streams n).bytes ≡ bytes) × HaveBytes streams (n + 1) others
HaveBytes streams n (trees.storage name class inside others) = HaveBytes streams (n + 1) inside × HaveBytes streams (n + 1 + entries_in inside) others

-- what the tree of the directory is
pub record IsTreeOf (c : Children) (files : FileTree) : Type 0 where
  pub same : bare c ≡ files
  pub names : child_names c ≡ file_names files
  pub have : HaveNames c

storage_is : (d : Directory) (streams : ℕ → Stream) (i : Item) (rest : Children) → is_storage (d.entry i.id) ≡ true → item_tree d streams i rest ≡ storage (record { name = name_of (d.entry i.id); id = i.id; place = d.place i.id; class = (d.entry i.id).class }) (tree_of d streams i.below none) rest
storage_is d streams i rest h = cond-true (is_storage (d.entry i.id)) _ _ h

stream_is : (d : Directory) (streams : ℕ → Stream) (i : Item) (rest : Children) → is_storage (d.entry i.id) ≡ false → item_tree d streams i rest ≡ stream (record { name = name_of (d.entry i.id); id = i.id; place = d.place i.id; class = (d.entry i.id).class }) (streams i.id) rest
stream_is d streams i rest h = cond-false (is_storage (d.entry i.id)) _ _ h

same_stream : (a b x y : List ℕ) (f g : FileTree) → a ≡ b → x ≡ y → f ≡ g → trees.stream a x f ≡ trees.stream b y g
same_stream a b x y f g p q r = rw (p, q, r) refl

same_storage : (a b c d : List ℕ) (f g h i : FileTree) → a ≡ b → c ≡ d → f ≡ g → h ≡ i → trees.storage a c f h ≡ trees.storage b d g i
same_storage a b c d f g h i p o q r = rw (p, o, q, r) refl

same_names : (a b : List ℕ) (x y : List (List ℕ)) → a ≡ b → x ≡ y → a ∷ x ≡ b ∷ y
same_names a b x y p q = rw (p, q) refl

pub files-tree : (d : Directory) (streams : ℕ → Stream) (depth n : ℕ) (ls : List (ℕ × ℕ)) (files : FileTree) → AreShown d n (slots_from n ls files) → MayBeWrittenAt depth files → HaveBytes streams n files → IsTreeOf (row d streams (items_from n files) none) files
files-tree d streams depth n ls trees.no_file shown may bytes = record { same = refl; names = refl; have = tt }
files-tree d streams depth n ls (trees.stream name x others) shown may bytes =
    let s = shown.0 in
    let i : Item = record { id = n; below = leaf } in
    let rest = row d streams (items_from (n + 1) others) none in
    let more = files-tree d streams depth (n + 1) (drop 1 ls) others shown.1 may.2 bytes.1 in
    subst (λ c. IsTreeOf c (trees.stream name x others)) (sym (stream_is d streams i rest (of_stream (d.entry n) s.kind).1))
    (record {
      same = same_stream (name_of (d.entry n)) name (streams n).bytes x (bare rest) others s.name bytes.0 more.same;
      names = same_names (name_of (d.entry n)) name (child_names rest) (file_names others) s.name more.names;
      have = more.have;
    })
files-tree d streams depth n ls (trees.storage name class inside others) shown may bytes =
    let s = shown.0 in
    let items = items_from (n + 1) inside in
    let links = links_of_siblings (sibling_numbers (n + 1) inside) in
    let i : Item = record { id = n; below = balanced (length items) items } in
    let split = shown-split d (n + 1) (n + 1 + entries_in inside) (slots_from (n + 1) links inside) (slots_from (n + 1 + entries_in inside) (drop 1 ls) others) (ap (λ k. n + 1 + k) (sym (slots-many (n + 1) links inside))) shown.1 in
    let rest = row d streams (items_from (n + 1 + entries_in inside) others) none in
    let inner = row d streams items none in
    let under = files-tree d streams (depth + 1) (n + 1) links inside split.0 may.4 bytes.0 in
    let more = files-tree d streams depth (n + 1 + entries_in inside) (drop 1 ls) others split.1 may.5 bytes.1 in
    let tree : tree_of d streams (balanced (length items) items) none ≡ inner = balanced-tree (length items) d streams items none (omega arith) in
    let tag : Tag = record { name = name_of (d.entry n); id = n; place = d.place n; class = (d.entry n).class } in
    let whole : item_tree d streams i rest ≡ storage tag inner rest = storage_is d streams i rest (of_storage (d.entry n) s.kind).1 ∙ ap (λ c. storage tag c rest) tree in
    subst (λ c. IsTreeOf c (trees.storage name class inside others)) (sym whole)
    (record {
      same = same_storage (name_of (d.entry n)) name (d.entry n).class class (bare inner) inside (bare rest) others s.name s.class under.same more.same;
      names = same_names (name_of (d.entry n)) name (child_names rest) (file_names others) s.name more.names;
      have = (subst AreApart (sym under.names) may.3, under.have, more.have);
    })
