-- Stores that a value means are read.
use Rattle.std.proofs.Common.{◌≡◌, ℕ, zero, suc, inl, inr, ◌⊎◌, ◌+◌, ◌-◌, ◌<◌, ◌≤◌, List, [], ◌∷◌, ◌++◌, length, take, Bool, true, false, Less, refl, ap, sym, ◌∙◌, arith, true≢false, subst, length-append}
use Rattle.std.specs.Prelude.{◌||◌, ◌==◌, codes, nat_le, nat_lt, Ok, bytes_eq}
use Rattle.std.proofs.Math.Seq.{take-append_seam}
use Rattle.std.proofs.lemmas.Bool.Decides.{nat_tests}
use Rattle.std.proofs.lemmas.Cmp.{tied_itself}
use Rattle.std.proofs.lemmas.List.{append-nil, append_assoc}
use Rattle.std.proofs.lemmas.Slice.Eq.{bytes_eq-Decides}
use Rattle.std.specs.Cmp.Lexicographic.{slice_cmp, pointwise}
use Rattle.std.specs.List.{AllByRecursion, list_all}
use Rattle.std.specs.Ordering.{is_lt, ordering_then}
use Rattle.serde_json.specs.Data.{Data, Items, no_items, item}
use Rattle.carrier_model.specs.FileTrees.{FileTree, no_file, stream, storage, Store, file_names, sibling_cmp, storage_depth}
use Rattle.carrier_model.specs.Lookups.{same_name}
use Rattle.carrier_model.specs.Sorted.{IsStrictlySorted}
use Rattle.carrier_model.specs.Stores.{PROPERTIES, has_stream, AreInOrder, AreMembers, IsStore, MOST_STORAGES}
use Rattle.carrier_model.proofs.StoreOrder.{sibling_total}
use Rattle.json_model.specs.StoreForms.{Entry, storage_entry, stream_entry, path_of, entries_below, above_of, open_behind, leads_to, follows, comes_next, read_next_entry, read_entries, last_name, is_below, front_below, behind_below, files_within, is_fit, read_store, read_entry, read_path, MOST_NAME, STORAGE, STREAM}
use Rattle.json_model.specs.JsonMeanings.{HasMembers, NameMeans, PathMeans, EntryMeans, ItemsMean, ArrayMeans, StoreMeans}
use Rattle.json_model.specs.Parts.{has_members, in_turn}
use Rattle.json_model.specs.Texts.{read_name}
use Rattle.json_model.proofs.Complete.{hex_read, guid_read, name_read, each_read}
use Rattle.json_model.proofs.HexLaws.{and_both, and_true}
use Rattle.json_model.proofs.Keys.{not_members, firsts_differ}
use Rattle.json_model.proofs.Meant.{turns_joined}

-- ---- paths

pub same_front : (above xs ys : List (List ℕ)) → slice_cmp sibling_cmp (above ++ xs) (above ++ ys) ≡ slice_cmp sibling_cmp xs ys
same_front [] xs ys = refl
same_front (name ∷ above) xs ys = ap (λ o. ordering_then o (slice_cmp sibling_cmp (above ++ xs) (above ++ ys))) (tied_itself sibling_total name) ∙ same_front above xs ys

same_names : (xs : List (List ℕ)) → pointwise bytes_eq xs xs ≡ true
same_names [] = refl
same_names (x ∷ xs) = and_both (bytes_eq x x) (pointwise bytes_eq xs xs) ((bytes_eq-Decides x x).1 refl) (same_names xs)

pub leads_on : (above more : List (List ℕ)) → leads_to above (above ++ more) ≡ true
leads_on above more = ap (pointwise bytes_eq above) (take-append_seam above more) ∙ same_names above

pub all_but_last : (above : List (List ℕ)) (name : List ℕ) → take (length (above ++ name ∷ []) - 1) (above ++ name ∷ []) ≡ above
all_but_last above name =
    let e : length (above ++ name ∷ []) - 1 ≡ length above = let l = length-append above (name ∷ []) in omega (arith, l) in
    ap (λ n. take n (above ++ name ∷ [])) e ∙ take-append_seam above (name ∷ [])

-- ---- where an entry stands

-- in a storage, or behind one that is in it
pub record IsIn (above : List (List ℕ)) (l : Entry) : Type 0 where
  pub tail : List (List ℕ)
  pub path : path_of l ≡ above ++ tail
  pub more : List (List ℕ)
  pub opens : open_behind l ≡ above ++ more

-- what stands before the members of a storage: the storage, or something in a member before them
pub record IsBefore (above : List (List ℕ)) (f : FileTree) (l : Entry) : Type 0 where
  pub more : List (List ℕ)
  pub opens : open_behind l ≡ above ++ more
  pub path : (path_of l ≡ above) ⊎ ((n : List ℕ) × (t : List (List ℕ)) × (path_of l ≡ above ++ n ∷ t) × AllByRecursion (λ m. sibling_cmp n m ≡ Less) (file_names f))

lesser : (above : List (List ℕ)) (l : Entry) (name : List ℕ) → (path_of l ≡ above) ⊎ ((n : List ℕ) × (t : List (List ℕ)) × (path_of l ≡ above ++ n ∷ t) × (sibling_cmp n name ≡ Less)) → slice_cmp sibling_cmp (path_of l) (above ++ name ∷ []) ≡ Less
lesser above l name (inl e) = ap (λ p. slice_cmp sibling_cmp p (above ++ name ∷ [])) (e ∙ sym (append-nil above)) ∙ same_front above [] (name ∷ [])
lesser above l name (inr (n, t, e, less)) = ap (λ p. slice_cmp sibling_cmp p (above ++ name ∷ [])) e ∙ (same_front above (n ∷ t) (name ∷ []) ∙ ap (λ o. ordering_then o (slice_cmp sibling_cmp t [])) less)

pub follows_it : (above : List (List ℕ)) (l e : Entry) (name : List ℕ) (more : List (List ℕ)) → path_of e ≡ above ++ name ∷ [] → open_behind l ≡ above ++ more
    → (path_of l ≡ above) ⊎ ((n : List ℕ) × (t : List (List ℕ)) × (path_of l ≡ above ++ n ∷ t) × (sibling_cmp n name ≡ Less)) → follows l e ≡ true
follows_it above l e name more p o h =
    let less : is_lt (slice_cmp sibling_cmp (path_of l) (path_of e)) ≡ true = ap (λ q. is_lt (slice_cmp sibling_cmp (path_of l) q)) p ∙ ap is_lt (lesser above l name h) in
    let up : above_of e ≡ above = ap (λ q. take (length q - 1) q) p ∙ all_but_last above name in
    let leads : leads_to (above_of e) (open_behind l) ≡ true = (λ i. leads_to (up i) (o i)) ∙ leads_on above more in
    and_both _ _ less leads

-- ---- entries in turn

abbrev pub Chain : Entry → List Entry → Type 0
Chain l [] = Unit {0}
Chain l (e ∷ es) = (follows l e ≡ true) × Chain e es

first_of : (above : List (List ℕ)) (name : List ℕ) (names : List (List ℕ)) (l : Entry) → (path_of l ≡ above) ⊎ ((n : List ℕ) × (t : List (List ℕ)) × (path_of l ≡ above ++ n ∷ t) × AllByRecursion (λ m. sibling_cmp n m ≡ Less) (name ∷ names))
    → (path_of l ≡ above) ⊎ ((n : List ℕ) × (t : List (List ℕ)) × (path_of l ≡ above ++ n ∷ t) × (sibling_cmp n name ≡ Less))
first_of above name names l (inl e) = inl e
first_of above name names l (inr (n, t, e, all)) = inr (n, t, e, all.0)

all_less : (name : List ℕ) (names : List (List ℕ)) → IsStrictlySorted sibling_cmp (name ∷ names) → AllByRecursion (λ m. sibling_cmp name m ≡ Less) names
all_less name [] h = tt
all_less name (m ∷ names) h = (h 0 1 m (omega arith) (omega arith), all_less name names (without_second name m names h))
  where
    without_second : (x y : List ℕ) (xs : List (List ℕ)) → IsStrictlySorted sibling_cmp (x ∷ y ∷ xs) → IsStrictlySorted sibling_cmp (x ∷ xs)
    without_second x y xs h zero zero d lt le = absurd (omega (arith, lt))
    without_second x y xs h zero (suc j) d lt le = h zero (suc (suc j)) d (omega arith) (omega (arith, le))
    without_second x y xs h (suc i) zero d lt le = absurd (omega (arith, lt))
    without_second x y xs h (suc i) (suc j) d lt le = h (suc (suc i)) (suc (suc j)) d (omega (arith, lt)) (omega (arith, le))

tail_of : (name : List ℕ) (names : List (List ℕ)) → IsStrictlySorted sibling_cmp (name ∷ names) → IsStrictlySorted sibling_cmp names
tail_of name names h i j d lt le = h (suc i) (suc j) d (omega (arith, lt)) (omega (arith, le))

-- the entries of a storage stand in turn behind what is before them, and then the rest
chained : (above : List (List ℕ)) (f : FileTree) (l : Entry) (rest : List Entry) → IsBefore above f l → IsIn above l → AreInOrder f → AreMembers f
    → ((k : Entry) → IsIn above k → Chain k rest) → Chain l (entries_below above f ++ rest)
chained above no_file l rest before here order is then = then l here
chained above (stream name x others) l rest before here order is then =
    let e = stream_entry (above ++ name ∷ []) x in
    let up = all_but_last above name ∙ sym (append-nil above) in (
      follows_it above l e name before.more refl before.opens (first_of above name (file_names others) l before.path),
      chained above others e rest (record { more = []; opens = up; path = inr (name, [], refl, all_less name (file_names others) order) }) (record { tail = name ∷ []; path = refl; more = []; opens = up }) (tail_of name (file_names others) order) is.1 then,
    )
chained above (storage name class inside others) l rest before here order is then =
    let path = above ++ name ∷ [] in
    let e = storage_entry path class in
    let whole = sym (append-nil path) in (
      follows_it above l e name before.more refl before.opens (first_of above name (file_names others) l before.path),
      subst (Chain e) (sym (append_assoc (entries_below path inside) (entries_below above others) rest))
          (chained path inside e (entries_below above others ++ rest) (record { more = []; opens = whole; path = inl refl }) (record { tail = []; path = whole; more = []; opens = whole }) is.2 is.3
          (λ k within.
          let p = within.path ∙ append_assoc above (name ∷ []) within.tail in
          let o = within.opens ∙ append_assoc above (name ∷ []) within.more in
          chained above others k rest (record { more = name ∷ within.more; opens = o; path = inr (name, within.tail, p, all_less name (file_names others) order) }) (record { tail = name ∷ within.tail; path = p; more = name ∷ within.more; opens = o }) (tail_of name (file_names others) order) is.4 then)),
    )

-- ---- members, one by one

OkName : List ℕ → Type 0
OkName name = length name ≤ MOST_NAME

OkEntry : Entry → Type 0
OkEntry (storage_entry path class) = AllByRecursion OkName path × (0 < length path) × (length class ≡ 16)
OkEntry (stream_entry path x) = AllByRecursion OkName path × (0 < length path)

ok_name_read : (v : Data) (name : List ℕ) → NameMeans v name → OkName name → read_name MOST_NAME v ≡ Ok name
unfolding OkName
ok_name_read v name h ok = name_read MOST_NAME v name h ok

path_read : (v : Data) (path : List (List ℕ)) → PathMeans v path → AllByRecursion OkName path → 0 < length path → read_path v ≡ Ok path
path_read v path h ok some =
    let any : nat_lt 0 (length path) ≡ true = grind (arith, nat_tests) in
    rw (each_read (read_name MOST_NAME) NameMeans OkName ok_name_read v path h ok, any) refl

not_storage : (v : Data) → HasMembers STREAM v → has_members STORAGE v ≡ false
not_storage v h =
    not_members v (codes "class") (codes "path") (codes "data") (codes "path") h
    (firsts_differ (codes "class") (codes "path") 99 112 refl refl (λ e. absurd (omega (arith, e))))
    (firsts_differ (codes "data") (codes "class") 100 99 refl refl (λ e. absurd (omega (arith, e))))
    (firsts_differ (codes "data") (codes "path") 100 112 refl refl (λ e. absurd (omega (arith, e))))

entry_read : (v : Data) (e : Entry) → EntryMeans v e → OkEntry e → read_entry v ≡ Ok e
unfolding OkEntry
entry_read v (storage_entry path class) (h, (a, at, is), (b, to, are)) ok = rw (h, at, guid_read a class is ok.2, to, path_read b path are ok.0 ok.1) refl
entry_read v (stream_entry path x) (h, (a, at, is), (b, to, are)) ok = rw (not_storage v h, h, at, hex_read a x is, to, path_read b path are ok.0 ok.1) refl

pub next_is : (before : List Entry) (l e : Entry) → comes_next (before ++ l ∷ []) e ≡ follows l e
next_is [] l e = refl
next_is (x ∷ []) l e = refl
next_is (x ∷ y ∷ before) l e = next_is (y ∷ before) l e

items_behind : (before : List Entry) (l : Entry) (ds : Items) (es : List Entry) → ItemsMean EntryMeans ds es → AllByRecursion OkEntry es → Chain l es → in_turn read_next_entry (before ++ l ∷ []) ds ≡ Ok ((before ++ l ∷ []) ++ es)
items_behind before l no_items [] h ok chain = ap Ok (sym (append-nil (before ++ l ∷ [])))
items_behind before l no_items (e ∷ es) h ok chain = absurd h
items_behind before l (item d ds) [] h ok chain = absurd h
items_behind before l (item d ds) (e ∷ es) h ok chain =
    rw (entry_read d e h.0 ok.0, next_is before l e, chain.0) (items_behind (before ++ l ∷ []) e ds es h.1 ok.1 chain.1 ∙ ap Ok (append_assoc (before ++ l ∷ []) (e ∷ []) es))

items_first : (ds : Items) (es : List Entry) (l : Entry) → ItemsMean EntryMeans ds es → AllByRecursion OkEntry es → Chain l es → ((e : Entry) (more : List Entry) → es ≡ e ∷ more → length (path_of e) ≡ 1) → in_turn read_next_entry [] ds ≡ Ok es
items_first no_items [] l h ok chain one = refl
items_first no_items (e ∷ es) l h ok chain one = absurd h
items_first (item d ds) [] l h ok chain one = absurd h
items_first (item d ds) (e ∷ es) l h ok chain one =
    let single : (length (path_of e) == 1) ≡ true = ap (λ n. n == 1) (one e es refl) in
    rw (entry_read d e h.0 ok.0, single) (items_behind [] e ds es h.1 ok.1 chain.1)

first_single : (f : FileTree) (e : Entry) (more : List Entry) → entries_below [] f ≡ e ∷ more → length (path_of e) ≡ 1
first_single no_file e more is = cc
first_single (stream name x others) e more is = let same : stream_entry (name ∷ []) x ≡ e = cc in ap (λ z. length (path_of z)) (sym same)
first_single (storage name class inside others) e more is = let same : storage_entry (name ∷ []) class ≡ e = cc in ap (λ z. length (path_of z)) (sym same)

entries_ok : (above : List (List ℕ)) (f : FileTree) → AllByRecursion OkName above → AreMembers f → AllByRecursion OkEntry (entries_below above f)
unfolding OkEntry OkName
entries_ok above no_file ok is = tt
entries_ok above (stream name x others) ok is =
    let some : 0 < length (above ++ name ∷ []) = let l = length-append above (name ∷ []) in omega (arith, l) in
    ((turns_joined OkName above (name ∷ []) ok (is.0.few, tt), some), entries_ok above others ok is.1)
entries_ok above (storage name class inside others) ok is =
    let some : 0 < length (above ++ name ∷ []) = let l = length-append above (name ∷ []) in omega (arith, l) in
    let path = turns_joined OkName above (name ∷ []) ok (is.0.few, tt) in
    ((path, some, is.1), turns_joined OkEntry (entries_below (above ++ name ∷ []) inside) (entries_below above others) (entries_ok (above ++ name ∷ []) inside path is.3) (entries_ok above others ok is.4))

entries_read : (v : Data) (f : FileTree) → ArrayMeans EntryMeans v (entries_below [] f) → AreInOrder f → AreMembers f → read_entries v ≡ Ok (entries_below [] f)
entries_read v f (ds, e, h) order is =
    let root = storage_entry [] [] in
    let chain : Chain root (entries_below [] f ++ []) = chained [] f root [] (record { more = []; opens = refl; path = inl refl }) (record { tail = []; path = refl; more = []; opens = refl }) order is (λ k within. tt) in
    ap read_entries e ∙ items_first ds (entries_below [] f) root h (entries_ok [] f tt is) (subst (Chain root) (append-nil (entries_below [] f)) chain) (first_single f)

-- ---- what fits

all_joined : (xs ys : List Entry) → list_all is_fit xs ≡ true → list_all is_fit ys ≡ true → list_all is_fit (xs ++ ys) ≡ true
all_joined [] ys h k = k
all_joined (x ∷ xs) ys h k = let both = and_true (is_fit x) (list_all is_fit xs) h in and_both (is_fit x) (list_all is_fit (xs ++ ys)) both.0 (all_joined xs ys both.1 k)

or_false : (a b : Bool) → (a || b) ≡ false → (a ≡ false) × (b ≡ false)
or_false false b h = (refl, h)
or_false true b h = absurd (true≢false h)

stream_fits : (above : List (List ℕ)) (name x : List ℕ) → (length above ≡ 0 → same_name name PROPERTIES ≡ false) → is_fit (stream_entry (above ++ name ∷ []) x) ≡ true
stream_fits [] name x h = rw (h refl) refl
stream_fits (a ∷ above) name x h =
    let l = length-append above (name ∷ []) in
    let more : (suc (length (above ++ name ∷ [])) == 1) ≡ false = let z : 0 < length (above ++ name ∷ []) = omega (arith, l) in grind (arith, nat_tests) in
    rw more refl

fit_all : (above : List (List ℕ)) (f : FileTree) → length above + storage_depth f ≤ MOST_STORAGES → (length above ≡ 0 → has_stream f PROPERTIES ≡ false) → list_all is_fit (entries_below above f) ≡ true
fit_all above no_file deep none = refl
fit_all above (stream name x others) deep none =
    and_both _ _ (stream_fits above name x (λ e. (or_false (same_name name PROPERTIES) (has_stream others PROPERTIES) (none e)).0))
    (fit_all above others deep (λ e. (or_false (same_name name PROPERTIES) (has_stream others PROPERTIES) (none e)).1))
fit_all above (storage name class inside others) deep none =
    let l = length-append above (name ∷ []) in
    let fits : nat_le (length (above ++ name ∷ [])) MOST_STORAGES ≡ true = let le : length (above ++ name ∷ []) ≤ 32 = omega (arith, l, deep) in grind (arith, nat_tests) in
    and_both _ _ fits (all_joined (entries_below (above ++ name ∷ []) inside) (entries_below above others)
    (fit_all (above ++ name ∷ []) inside (omega (arith, l, deep)) (λ e. absurd (omega (arith, l, e))))
    (fit_all above others (omega (arith, deep)) none))

-- ---- the tree of the entries

pub last_is : (above : List (List ℕ)) (name : List ℕ) → last_name (above ++ name ∷ []) ≡ name
last_is [] name = refl
last_is (a ∷ []) name = refl
last_is (a ∷ b ∷ above) name = last_is (b ∷ above) name

deep_all : (level : ℕ) (above : List (List ℕ)) (f : FileTree) → level < length above + 1 → AllByRecursion (λ e. is_below level e ≡ true) (entries_below above f)
deep_all level above no_file lt = tt
deep_all level above (stream name x others) lt =
    let l = length-append above (name ∷ []) in
    let here : nat_lt level (length (above ++ name ∷ [])) ≡ true = let z : level < length (above ++ name ∷ []) = omega (arith, l, lt) in grind (arith, nat_tests) in
    (here, deep_all level above others lt)
deep_all level above (storage name class inside others) lt =
    let l = length-append above (name ∷ []) in
    let here : nat_lt level (length (above ++ name ∷ [])) ≡ true = let z : level < length (above ++ name ∷ []) = omega (arith, l, lt) in grind (arith, nat_tests) in
    (here, turns_joined (λ e. is_below level e ≡ true) (entries_below (above ++ name ∷ []) inside) (entries_below above others) (deep_all level (above ++ name ∷ []) inside (omega (arith, l, lt))) (deep_all level above others lt))

abbrev BeginsAbove : ℕ → List Entry → Type 0
BeginsAbove level [] = Unit {0}
BeginsAbove level (e ∷ es) = is_below level e ≡ false

begins : (above : List (List ℕ)) (f : FileTree) → BeginsAbove (suc (length above)) (entries_below above f)
begins above no_file = tt
begins above (stream name x others) = let l = length-append above (name ∷ []) in let z : length (above ++ name ∷ []) ≤ suc (length above) = omega (arith, l) in grind (arith, nat_tests)
begins above (storage name class inside others) = let l = length-append above (name ∷ []) in let z : length (above ++ name ∷ []) ≤ suc (length above) = omega (arith, l) in grind (arith, nat_tests)

front_is : (level : ℕ) (xs ys : List Entry) → AllByRecursion (λ e. is_below level e ≡ true) xs → BeginsAbove level ys → front_below level (xs ++ ys) ≡ xs
front_is level [] [] h k = refl
front_is level [] (y ∷ ys) h k = rw k refl
front_is level (x ∷ xs) ys h k = rw h.0 (ap (λ l. x ∷ l) (front_is level xs ys h.1 k))

behind_is : (level : ℕ) (xs ys : List Entry) → AllByRecursion (λ e. is_below level e ≡ true) xs → BeginsAbove level ys → behind_below level (xs ++ ys) ≡ ys
behind_is level [] [] h k = refl
behind_is level [] (y ∷ ys) h k = rw k refl
behind_is level (x ∷ xs) ys h k = rw h.0 (behind_is level xs ys h.1 k)

files_again : (most : ℕ) (above : List (List ℕ)) (f : FileTree) → length (entries_below above f) ≤ most → files_within most (length above) (entries_below above f) ≡ f
files_again zero above no_file few = refl
files_again (suc most) above no_file few = refl
files_again zero above (stream name x others) few = absurd (omega (arith, few))
files_again (suc most) above (stream name x others) few = rw (last_is above name, files_again most above others (omega (arith, few))) refl
files_again zero above (storage name class inside others) few = absurd (omega (arith, few))
files_again (suc most) above (storage name class inside others) few =
    let path = above ++ name ∷ [] in
    let xs = entries_below path inside in
    let ys = entries_below above others in
    let l = length-append above (name ∷ []) in
    let j = length-append xs ys in
    let level : suc (length above) ≡ length path = omega (arith, l) in
    let all = deep_all (suc (length above)) path inside (omega (arith, l)) in
    let in_it : files_within most (suc (length above)) xs ≡ inside = ap (λ n. files_within most n xs) level ∙ files_again most path inside (omega (arith, j, few)) in
    let behind : files_within most (length above) ys ≡ others = files_again most above others (omega (arith, j, few)) in
    rw (last_is above name, front_is (suc (length above)) xs ys all (begins above others), behind_is (suc (length above)) xs ys all (begins above others), in_it, behind) refl

pub store_read : (v : Data) (s : Store) → StoreMeans v s → IsStore s → read_store v ≡ Ok s
store_read v s h is =
    let es = entries_below [] s.members in
    let fits = fit_all [] s.members (let d = is.depth in omega (arith, d)) (λ e. is.no_message) in
    rw (h.members, h.class.1, guid_read h.class.0 s.class h.class.2 is.class, h.list.1, entries_read h.list.0 s.members h.list.2 is.order is.members, fits)
    (ap (λ m. Ok (record { class = s.class; members = m })) (files_again (length es) [] s.members (omega arith)))
