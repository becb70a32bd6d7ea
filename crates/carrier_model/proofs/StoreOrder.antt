-- Siblings in their order: their names are sorted, and a tree in order stays as it is.
use Rattle.std.proofs.Common.{◌≡◌, ℕ, zero, suc, Bool, true, false, List, [], ◌∷◌, length, map, refl, sym, ap, subst, ◌∙◌, arith}
use Rattle.std.specs.Prelude.{Contains, ◌||◌, nat_eq}
use Rattle.std.specs.Char.{to_ascii_lowercase, to_ascii_uppercase}
use Rattle.std.specs.Cmp.{IsTotalOrder}
use Rattle.std.specs.Cmp.Lexicographic.{pointwise, slice_cmp}
use Rattle.std.specs.List.{AllByRecursion, IsDistinct}
use Rattle.std.specs.Ordering.{nat_cmp, ordering_then, ordering_reverse}
use Rattle.std.specs.declared.cmp.Ordering.{Ordering}
use Rattle.std.specs.declared.cmp.Ordering.TheVariants.{Less, Equal, Greater}
use Rattle.std.proofs.lemmas.Bool.Decides.{nat_tests}
use Rattle.std.proofs.lemmas.Cmp.{nat_cmp_total, nat_list_cmp_total, on_total, then_total}
use Rattle.std.proofs.lemmas.List.{length-map}
use Rattle.std.proofs.lemmas.List.Sorted.{Contains-permutation}
use Rattle.std.proofs.lemmas.Map.Lookups.{exact_bytes}
use Rattle.std.proofs.lemmas.Slice.Eq.{bytes_eq-Decides}
use Rattle.std.proofs.lemmas.Str.Ascii.{lowercase-uppercase}
use Rattle.carrier_model.specs.FileTrees as trees
use Rattle.carrier_model.specs.FileTrees.{FileTree, file_names, IsFileName, with_stream, with_storage, sorted, sibling_cmp}
use Rattle.carrier_model.specs.Files.{folded}
use Rattle.carrier_model.specs.Holds.{AreApart}
use Rattle.carrier_model.specs.Lookups.{same_name}
use Rattle.carrier_model.specs.Sorted.{choose, with_element, IsStrictlySorted}
use Rattle.carrier_model.specs.Stores.{has_stream, AreInOrder, AreMembers}
use Rattle.carrier_model.proofs.LaidSorted.{sorted-names}
use Rattle.carrier_model.proofs.Orders.{both_equal}
use Rattle.carrier_model.proofs.Pairs.{equal_to_itself}
use Rattle.carrier_model.proofs.SortedLists.{tail_sorted, head_less, in_head, in_tail, with_element_sorted}

pub sibling_total : IsTotalOrder sibling_cmp
sibling_total = then_total (on_total length nat_cmp_total) (on_total (map to_ascii_uppercase) nat_list_cmp_total)

-- ---- the order tells names apart as letters in one case do

lower_upper : (x : List ℕ) → map to_ascii_lowercase (map to_ascii_uppercase x) ≡ folded x
lower_upper [] = refl
lower_upper (c ∷ x) = λ i. lowercase-uppercase c i ∷ lower_upper x i

uppercase-lowercase : (c : ℕ) → to_ascii_uppercase (to_ascii_lowercase c) ≡ to_ascii_uppercase c
uppercase-lowercase c = grind (arith, nat_tests)

upper_lower : (x : List ℕ) → map to_ascii_uppercase (folded x) ≡ map to_ascii_uppercase x
upper_lower [] = refl
upper_lower (c ∷ x) = λ i. uppercase-lowercase c i ∷ upper_lower x i

pub equal_folded : (m n : List ℕ) → sibling_cmp m n ≡ Equal → folded m ≡ folded n
equal_folded m n e =
    let upper : map to_ascii_uppercase m ≡ map to_ascii_uppercase n = exact_bytes _ _ (both_equal (nat_cmp (length m) (length n)) (slice_cmp nat_cmp (map to_ascii_uppercase m) (map to_ascii_uppercase n)) e).1 in
    sym (lower_upper m) ∙ (ap (map to_ascii_lowercase) upper ∙ lower_upper n)

pub folded_equal : (m n : List ℕ) → folded m ≡ folded n → sibling_cmp m n ≡ Equal
folded_equal m n e =
    let upper : map to_ascii_uppercase m ≡ map to_ascii_uppercase n = sym (upper_lower m) ∙ (ap (map to_ascii_uppercase) e ∙ upper_lower n) in
    let long : length m ≡ length n = sym (length-map m to_ascii_lowercase) ∙ (ap length e ∙ length-map n to_ascii_lowercase) in
    (λ i. ordering_then (nat_cmp (long i) (length n)) (slice_cmp nat_cmp (upper i) (map to_ascii_uppercase n))) ∙ equal_to_itself sibling_total n

-- ---- what is put in order is in order

-- no name is equal to this one
abbrev IsNew : List ℕ → List (List ℕ) → Type 0
IsNew name names = (other : List ℕ) → Contains names other → sibling_cmp other name ≡ Equal → ⊥

stream-placed : (name bytes : List ℕ) (f : FileTree) → IsNew name (file_names f) → file_names (with_stream name bytes f) ≡ with_element sibling_cmp (file_names f) name
stream-placed name bytes trees.no_file new = refl
stream-placed name bytes (trees.stream other x others) new = by (sibling_cmp other name) (new other (in_head other (file_names others))) (stream-placed name bytes others (λ z c. new z (in_tail other z (file_names others) c)))
  where
    by : (o : Ordering) → (o ≡ Equal → ⊥) → file_names (with_stream name bytes others) ≡ with_element sibling_cmp (file_names others) name
        → file_names (choose o (trees.stream other x (with_stream name bytes others)) (trees.stream name bytes (trees.stream other x others)) (trees.stream name bytes (trees.stream other x others))) ≡ choose o (other ∷ with_element sibling_cmp (file_names others) name) (other ∷ file_names others) (name ∷ other ∷ file_names others)
    by Less differ e = ap (λ l. other ∷ l) e
    by Equal differ e = absurd (differ refl)
    by Greater differ e = refl
stream-placed name bytes (trees.storage other class inside others) new = by (sibling_cmp other name) (new other (in_head other (file_names others))) (stream-placed name bytes others (λ z c. new z (in_tail other z (file_names others) c)))
  where
    by : (o : Ordering) → (o ≡ Equal → ⊥) → file_names (with_stream name bytes others) ≡ with_element sibling_cmp (file_names others) name
        → file_names (choose o (trees.storage other class inside (with_stream name bytes others)) (trees.stream name bytes (trees.storage other class inside others)) (trees.stream name bytes (trees.storage other class inside others))) ≡ choose o (other ∷ with_element sibling_cmp (file_names others) name) (other ∷ file_names others) (name ∷ other ∷ file_names others)
    by Less differ e = ap (λ l. other ∷ l) e
    by Equal differ e = absurd (differ refl)
    by Greater differ e = refl

storage-placed : (name class : List ℕ) (below f : FileTree) → IsNew name (file_names f) → file_names (with_storage name class below f) ≡ with_element sibling_cmp (file_names f) name
storage-placed name class below trees.no_file new = refl
storage-placed name class below (trees.stream other x others) new = by (sibling_cmp other name) (new other (in_head other (file_names others))) (storage-placed name class below others (λ z c. new z (in_tail other z (file_names others) c)))
  where
    by : (o : Ordering) → (o ≡ Equal → ⊥) → file_names (with_storage name class below others) ≡ with_element sibling_cmp (file_names others) name
        → file_names (choose o (trees.stream other x (with_storage name class below others)) (trees.storage name class below (trees.stream other x others)) (trees.storage name class below (trees.stream other x others))) ≡ choose o (other ∷ with_element sibling_cmp (file_names others) name) (other ∷ file_names others) (name ∷ other ∷ file_names others)
    by Less differ e = ap (λ l. other ∷ l) e
    by Equal differ e = absurd (differ refl)
    by Greater differ e = refl
storage-placed name class below (trees.storage other kind inside others) new = by (sibling_cmp other name) (new other (in_head other (file_names others))) (storage-placed name class below others (λ z c. new z (in_tail other z (file_names others) c)))
  where
    by : (o : Ordering) → (o ≡ Equal → ⊥) → file_names (with_storage name class below others) ≡ with_element sibling_cmp (file_names others) name
        → file_names (choose o (trees.storage other kind inside (with_storage name class below others)) (trees.storage name class below (trees.storage other kind inside others)) (trees.storage name class below (trees.storage other kind inside others))) ≡ choose o (other ∷ with_element sibling_cmp (file_names others) name) (other ∷ file_names others) (name ∷ other ∷ file_names others)
    by Less differ e = ap (λ l. other ∷ l) e
    by Equal differ e = absurd (differ refl)
    by Greater differ e = refl

false_or_true : (b : Bool) → b ≡ true → b ≡ false → ⊥
false_or_true b p q = cc

none_folded : (name : List ℕ) (names : List (List ℕ)) (other : List ℕ) → AllByRecursion (λ n. pointwise nat_eq (folded name) n ≡ false) (map folded names) → Contains names other → folded name ≡ folded other → ⊥
none_folded name [] other h (k, lt, e) f = absurd (omega (arith, lt))
none_folded name (x ∷ names) other h (zero, lt, e) f = false_or_true (pointwise nat_eq (folded name) (folded x)) ((bytes_eq-Decides (folded name) (folded x)).1 (f ∙ ap folded (sym e))) h.0
none_folded name (x ∷ names) other h (suc k, lt, e) f = none_folded name names other h.1 (k, omega (arith, lt), e) f

-- the names of others in their order are new, where names are apart
apart_new : (name : List ℕ) (others : FileTree) → AreApart (name ∷ file_names others) → IsNew name (file_names (sorted others))
unfolding IsDistinct
apart_new name others h other c e =
    let there : Contains (file_names others) other = Contains-permutation (file_names (sorted others)) (file_names others) other (sorted-names others) c in
    none_folded name (file_names others) other h.0 there (sym (equal_folded other name e))

nothing_sorted : IsStrictlySorted sibling_cmp []
nothing_sorted i j d lt in_range = absurd (omega (arith, in_range))

pub sorted-order : (f : FileTree) → AreApart (file_names f) → AreInOrder (sorted f)
unfolding IsDistinct
sorted-order trees.no_file h = nothing_sorted
sorted-order (trees.stream name bytes others) h =
    let new = apart_new name others h in
    subst (IsStrictlySorted sibling_cmp) (sym (stream-placed name bytes (sorted others) new)) (with_element_sorted sibling_total (file_names (sorted others)) name (sorted-order others h.1) new)
sorted-order (trees.storage name class inside others) h =
    let new = apart_new name others h in
    subst (IsStrictlySorted sibling_cmp) (sym (storage-placed name class (sorted inside) (sorted others) new)) (with_element_sorted sibling_total (file_names (sorted others)) name (sorted-order others h.1) new)

-- ---- members

-- storages and streams that are found, in whatever order
abbrev pub AreFound : FileTree → Type 0
AreFound trees.no_file = Unit {0}
AreFound (trees.stream name bytes others) = IsFileName name × AreFound others
AreFound (trees.storage name class inside others) = IsFileName name × (length class ≡ 16) × AreApart (file_names inside) × AreFound inside × AreFound others

chosen_members : (o : Ordering) (a b : FileTree) → AreMembers a → AreMembers b → AreMembers (choose o a b b)
chosen_members Less a b p q = p
chosen_members Equal a b p q = q
chosen_members Greater a b p q = q

stream-members : (name bytes : List ℕ) (f : FileTree) → IsFileName name → AreMembers f → AreMembers (with_stream name bytes f)
stream-members name bytes trees.no_file n h = (n, tt)
stream-members name bytes (trees.stream other x others) n h =
    chosen_members (sibling_cmp other name) (trees.stream other x (with_stream name bytes others)) (trees.stream name bytes (trees.stream other x others)) (h.0, stream-members name bytes others n h.1) (n, h)
stream-members name bytes (trees.storage other class inside others) n h =
    chosen_members (sibling_cmp other name) (trees.storage other class inside (with_stream name bytes others)) (trees.stream name bytes (trees.storage other class inside others)) (h.0, h.1, h.2, h.3, stream-members name bytes others n h.4) (n, h)

storage-members : (name class : List ℕ) (below f : FileTree) → IsFileName name → length class ≡ 16 → AreInOrder below → AreMembers below → AreMembers f → AreMembers (with_storage name class below f)
storage-members name class below trees.no_file n c o b h = (n, c, o, b, tt)
storage-members name class below (trees.stream other x others) n c o b h =
    chosen_members (sibling_cmp other name) (trees.stream other x (with_storage name class below others)) (trees.storage name class below (trees.stream other x others)) (h.0, storage-members name class below others n c o b h.1) (n, c, o, b, h)
storage-members name class below (trees.storage other kind inside others) n c o b h =
    chosen_members (sibling_cmp other name) (trees.storage other kind inside (with_storage name class below others)) (trees.storage name class below (trees.storage other kind inside others)) (h.0, h.1, h.2, h.3, storage-members name class below others n c o b h.4) (n, c, o, b, h)

pub sorted-members : (f : FileTree) → AreFound f → AreMembers (sorted f)
sorted-members trees.no_file h = tt
sorted-members (trees.stream name bytes others) h = stream-members name bytes (sorted others) h.0 (sorted-members others h.1)
sorted-members (trees.storage name class inside others) h =
    storage-members name class (sorted inside) (sorted others) h.0 h.1 (sorted-order inside h.2) (sorted-members inside h.3) (sorted-members others h.4)

-- ---- what is in order stays

not_less : (o : Ordering) (a b : FileTree) → (o ≡ Less → ⊥) → choose o a b b ≡ b
not_less Less a b h = absurd (h refl)
not_less Equal a b h = refl
not_less Greater a b h = refl

never_both : (m n : List ℕ) → sibling_cmp m n ≡ Less → sibling_cmp n m ≡ Less → ⊥
never_both m n e f = let h : Less ≡ Greater = sym e ∙ (sibling_total.antisymm m n ∙ ap ordering_reverse f) in cc

stream-first : (name bytes : List ℕ) (f : FileTree) → IsStrictlySorted sibling_cmp (name ∷ file_names f) → with_stream name bytes f ≡ trees.stream name bytes f
stream-first name bytes trees.no_file h = refl
stream-first name bytes (trees.stream other x others) h =
    not_less (sibling_cmp other name) (trees.stream other x (with_stream name bytes others)) (trees.stream name bytes (trees.stream other x others)) (never_both name other (head_less sibling_total name (other ∷ file_names others) other h (in_head other (file_names others))))
stream-first name bytes (trees.storage other class inside others) h =
    not_less (sibling_cmp other name) (trees.storage other class inside (with_stream name bytes others)) (trees.stream name bytes (trees.storage other class inside others)) (never_both name other (head_less sibling_total name (other ∷ file_names others) other h (in_head other (file_names others))))

storage-first : (name class : List ℕ) (below f : FileTree) → IsStrictlySorted sibling_cmp (name ∷ file_names f) → with_storage name class below f ≡ trees.storage name class below f
storage-first name class below trees.no_file h = refl
storage-first name class below (trees.stream other x others) h =
    not_less (sibling_cmp other name) (trees.stream other x (with_storage name class below others)) (trees.storage name class below (trees.stream other x others)) (never_both name other (head_less sibling_total name (other ∷ file_names others) other h (in_head other (file_names others))))
storage-first name class below (trees.storage other kind inside others) h =
    not_less (sibling_cmp other name) (trees.storage other kind inside (with_storage name class below others)) (trees.storage name class below (trees.storage other kind inside others)) (never_both name other (head_less sibling_total name (other ∷ file_names others) other h (in_head other (file_names others))))

pub sorted-again : (f : FileTree) → AreInOrder f → AreMembers f → sorted f ≡ f
sorted-again trees.no_file o h = refl
sorted-again (trees.stream name bytes others) o h =
    ap (with_stream name bytes) (sorted-again others (tail_sorted sibling_total name (file_names others) o) h.1) ∙ stream-first name bytes others o
sorted-again (trees.storage name class inside others) o h =
    (λ i. with_storage name class (sorted-again inside h.2 h.3 i) (sorted-again others (tail_sorted sibling_total name (file_names others) o) h.4 i)) ∙ storage-first name class inside others o

-- names in their order are apart
order_apart : (names : List (List ℕ)) → IsStrictlySorted sibling_cmp names → AreApart names
unfolding IsDistinct
order_apart [] h = tt
order_apart (name ∷ names) h = (apart_from names (λ other c. head_less sibling_total name names other h c), order_apart names (tail_sorted sibling_total name names h))
  where
    apart_from : (others : List (List ℕ)) → ((other : List ℕ) → Contains others other → sibling_cmp name other ≡ Less) → AllByRecursion (λ n. pointwise nat_eq (folded name) n ≡ false) (map folded others)
    apart_from [] f = tt
    apart_from (other ∷ others) f = (
      differ (pointwise nat_eq (folded name) (folded other)) (λ e. (let wrong : Less ≡ Equal = sym (f other (in_head other others)) ∙ folded_equal name other ((bytes_eq-Decides (folded name) (folded other)).0 e) in cc)),
      apart_from others (λ z c. f z (in_tail other z others c)),
    )
      where
        differ : (b : Bool) → (b ≡ true → ⊥) → b ≡ false
        differ true g = absurd (g refl)
        differ false g = refl

pub in_order_apart : (f : FileTree) → AreInOrder f → AreApart (file_names f)
in_order_apart f h = order_apart (file_names f) h

-- ---- a stream of a name

or_swap : (a b c : Bool) → (a || (b || c)) ≡ (b || (a || c))
or_swap true true c = refl
or_swap true false c = refl
or_swap false true c = refl
or_swap false false c = refl

chosen_has : (o : Ordering) (a b : FileTree) (name : List ℕ) (is : Bool) → has_stream a name ≡ is → has_stream b name ≡ is → has_stream (choose o a b b) name ≡ is
chosen_has Less a b name is p q = p
chosen_has Equal a b name is p q = q
chosen_has Greater a b name is p q = q

stream-has : (name bytes : List ℕ) (f : FileTree) (wanted : List ℕ) → has_stream (with_stream name bytes f) wanted ≡ (same_name name wanted || has_stream f wanted)
stream-has name bytes trees.no_file wanted = refl
stream-has name bytes (trees.stream other x others) wanted =
    chosen_has (sibling_cmp other name) (trees.stream other x (with_stream name bytes others)) (trees.stream name bytes (trees.stream other x others)) wanted (same_name name wanted || (same_name other wanted || has_stream others wanted))
    (ap (λ b. same_name other wanted || b) (stream-has name bytes others wanted) ∙ or_swap (same_name other wanted) (same_name name wanted) (has_stream others wanted)) refl
stream-has name bytes (trees.storage other class inside others) wanted =
    chosen_has (sibling_cmp other name) (trees.storage other class inside (with_stream name bytes others)) (trees.stream name bytes (trees.storage other class inside others)) wanted (same_name name wanted || has_stream others wanted) (stream-has name bytes others wanted) refl

storage-has : (name class : List ℕ) (below f : FileTree) (wanted : List ℕ) → has_stream (with_storage name class below f) wanted ≡ has_stream f wanted
storage-has name class below trees.no_file wanted = refl
storage-has name class below (trees.stream other x others) wanted =
    chosen_has (sibling_cmp other name) (trees.stream other x (with_storage name class below others)) (trees.storage name class below (trees.stream other x others)) wanted (same_name other wanted || has_stream others wanted) (ap (λ b. same_name other wanted || b) (storage-has name class below others wanted)) refl
storage-has name class below (trees.storage other kind inside others) wanted =
    chosen_has (sibling_cmp other name) (trees.storage other kind inside (with_storage name class below others)) (trees.storage name class below (trees.storage other kind inside others)) wanted (has_stream others wanted) (storage-has name class below others wanted) refl

pub sorted-has : (f : FileTree) (wanted : List ℕ) → has_stream (sorted f) wanted ≡ has_stream f wanted
sorted-has trees.no_file wanted = refl
sorted-has (trees.stream name bytes others) wanted = stream-has name bytes (sorted others) wanted ∙ ap (λ b. same_name name wanted || b) (sorted-has others wanted)
sorted-has (trees.storage name class inside others) wanted = storage-has name class (sorted inside) (sorted others) wanted ∙ sorted-has others wanted
