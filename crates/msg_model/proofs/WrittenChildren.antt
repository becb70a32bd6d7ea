-- The children of a storage that was written, in whatever order they are found.
use Rattle.std.proofs.Common.{◌≡◌, ℕ, zero, suc, ◌+◌, ◌<◌, List, [], ◌∷◌, ◌++◌, length, map, get_or, Option, Some, None, refl, sym, ap, subst, ◌∙◌, arith}
use Rattle.std.specs.Prelude.{Contains, IsPermutation, filter_map, option_to_list}
use Rattle.std.specs.Option.{option_map}
use Rattle.std.specs.List.{AllZip, cons_option}
use Rattle.std.specs.Ordering.{nat_cmp, on}
use Rattle.std.specs.declared.cmp.Ordering.{Ordering}
use Rattle.std.specs.declared.cmp.Ordering.TheVariants.{Less}
use Rattle.std.proofs.lemmas.List.Sorted.{IsPermutation-sym}
use Rattle.carrier_model.specs.FileTrees.{FileTree, sorted}
use Rattle.carrier_model.specs.Files.{Children, none, storage, stream, Files}
use Rattle.carrier_model.specs.Stores.{bare}
use Rattle.carrier_model.specs.Sorted.{IsStrictlySorted, with_elements}
use Rattle.carrier_model.specs.Lookups.{storage_at, stream_named}
use Rattle.msg_model.specs.ReadBack.{HasStream}
use Rattle.std.specs.Cmp.{IsTotalOrder}
use Rattle.std.proofs.lemmas.Cmp.{nat_cmp_total, on_total}
use Rattle.std.proofs.lemmas.Bool.Decides.{nat_tests}
use Rattle.msg_model.specs.MsgMessage.{number_in, numbered_in, numbered}
use Rattle.carrier_model.proofs.SortedElements.{elements_good, permuted_distinct}
use Rattle.carrier_model.proofs.SortedLists.{same_sorted}
use Rattle.carrier_model.proofs.FoundChildren.{Apart, Entry, FoundAs, Kid, arranged_chosen, arranged_permutes, bare_kid, entries, file, folder, found_entry, kid_in, kids, kids_apart, storage_kid, stream_kid, stream_looked_up}

-- ---- look-ups

-- A stream that was written is found, and a storage.
pub stream_found : (c : Children) (f : FileTree) → FoundAs c f → Apart f → (name bytes : List ℕ) → Contains (entries f) (file name bytes) → HasStream (stream_named c) (name, bytes)
stream_found c f h d name bytes there = by (kid_in c f h (file name bytes) there)
  where
    by : (k : Kid) × Contains (kids c) k × (bare_kid k ≡ file name bytes) → HasStream (stream_named c) (name, bytes)
    by (stream_kid tag s, in_kids, e) =
        let is_name : tag.name ≡ name = cc in
        let is_bytes : s.bytes ≡ bytes = cc in
        record { f = record { stream = s; entry = tag.place }; there = ap (stream_named c) (sym is_name) ∙ stream_looked_up c tag s (kids_apart c f h d) in_kids; bytes = is_bytes }
    by (storage_kid tag below, in_kids, e) = absurd cc

-- ---- numbered storages

abbrev pub numbered_kid : List ℕ → Kid → Option (ℕ × Files)
numbered_kid prefix (stream_kid tag s) = None
numbered_kid prefix (storage_kid tag below) = option_map (λ n. (n, storage_at tag below)) (number_in prefix tag.name)

abbrev pub numbered_entry : List ℕ → Entry → Option (ℕ × FileTree)
numbered_entry prefix (file name bytes) = None
numbered_entry prefix (folder name class inside) = option_map (λ n. (n, inside)) (number_in prefix name)

-- the numbered storages that are written, each with its number
abbrev pub numbers : List ℕ → FileTree → List (ℕ × FileTree)
numbers prefix f = filter_map (numbered_entry prefix) (entries f)

pub numbered_kids : (prefix : List ℕ) (c : Children) → numbered_in prefix c ≡ filter_map (numbered_kid prefix) (kids c)
numbered_kids prefix none = refl
numbered_kids prefix (stream tag s rest) = numbered_kids prefix rest
numbered_kids prefix (storage tag below rest) = by (option_map (λ n. (n, storage_at tag below)) (number_in prefix tag.name)) (numbered_kids prefix rest)
  where
    by : (o : Option (ℕ × Files)) → numbered_in prefix rest ≡ filter_map (numbered_kid prefix) (kids rest) → option_to_list o ++ numbered_in prefix rest ≡ cons_option o (filter_map (numbered_kid prefix) (kids rest))
    by None h = h
    by (Some x) h = ap (λ (l : List (ℕ × Files)). x ∷ l) h

-- a storage that is found, and one that was written, with one number
abbrev pub SameNumber : ℕ × Files → ℕ × FileTree → Type 0
SameNumber k t = (k.0 ≡ t.0) × (bare k.1.children ≡ sorted t.1)

numbers_zip : (prefix : List ℕ) (ks : List Kid) (es : List Entry) → map bare_kid ks ≡ map found_entry es → AllZip SameNumber (filter_map (numbered_kid prefix) ks) (filter_map (numbered_entry prefix) es)
numbers_zip prefix [] [] views = tt
numbers_zip prefix [] (e ∷ es) views = absurd cc
numbers_zip prefix (k ∷ ks) [] views = absurd cc
numbers_zip prefix (stream_kid tag s ∷ ks) (file name bytes ∷ es) views = numbers_zip prefix ks es (let h : file tag.name s.bytes ∷ map bare_kid ks ≡ file name bytes ∷ map found_entry es = views in cc)
numbers_zip prefix (stream_kid tag s ∷ ks) (folder name class inside ∷ es) views = absurd (let h : file tag.name s.bytes ∷ map bare_kid ks ≡ folder name class (sorted inside) ∷ map found_entry es = views in cc)
numbers_zip prefix (storage_kid tag below ∷ ks) (file name bytes ∷ es) views = absurd (let h : folder tag.name tag.class (bare below) ∷ map bare_kid ks ≡ file name bytes ∷ map found_entry es = views in cc)
numbers_zip prefix (storage_kid tag below ∷ ks) (folder name class inside ∷ es) views = by (number_in prefix tag.name) (number_in prefix name) (ap (number_in prefix) names) (numbers_zip prefix ks es tail)
  where
    tail : map bare_kid ks ≡ map found_entry es
    tail = (let h : folder tag.name tag.class (bare below) ∷ map bare_kid ks ≡ folder name class (sorted inside) ∷ map found_entry es = views in cc)

    names : tag.name ≡ name
    names = (let h : folder tag.name tag.class (bare below) ∷ map bare_kid ks ≡ folder name class (sorted inside) ∷ map found_entry es = views in let one : folder tag.name tag.class (bare below) ≡ folder name class (sorted inside) = cc in cc)

    insides : bare below ≡ sorted inside
    insides = (let h : folder tag.name tag.class (bare below) ∷ map bare_kid ks ≡ folder name class (sorted inside) ∷ map found_entry es = views in let one : folder tag.name tag.class (bare below) ≡ folder name class (sorted inside) = cc in cc)

    by : (o p : Option ℕ) → o ≡ p → AllZip SameNumber (filter_map (numbered_kid prefix) ks) (filter_map (numbered_entry prefix) es) → AllZip SameNumber (cons_option (option_map (λ n. (n, storage_at tag below)) o) (filter_map (numbered_kid prefix) ks)) (cons_option (option_map (λ n. (n, inside)) p) (filter_map (numbered_entry prefix) es))
    by None None e rest = rest
    by (Some m) (Some n) e rest = (((let same : m ≡ n = cc in same), insides), rest)
    by None (Some n) e rest = absurd cc
    by (Some m) None e rest = absurd cc

-- numbered one after another
abbrev pub Counting : {A : Type 0} → ℕ → List (ℕ × A) → Type 0
Counting k [] = Unit {0}
Counting k (x ∷ xs) = (x.0 ≡ k) × Counting (k + 1) xs

counting_at : {A : Type 0} (k : ℕ) (l : List (ℕ × A)) → Counting k l → (i : ℕ) (d : ℕ × A) → i < length l → (get_or l i d).0 ≡ k + i
counting_at k [] h i d lt = absurd (omega (arith, lt))
counting_at k (x ∷ l) h zero d lt = omega (arith, h.0)
counting_at k (x ∷ l) h (suc i) d lt = omega (arith, counting_at (k + 1) l h.1 i d (omega (arith, lt)))

below_less : (m n : ℕ) → m < n → nat_cmp m n ≡ Less
below_less m n lt = grind (arith, nat_tests)

abbrev by_number : {A : Type 0} → ℕ × A → ℕ × A → Ordering
by_number = on (λ p. p.0) nat_cmp

counting_sorted : {A : Type 0} (k : ℕ) (l : List (ℕ × A)) → Counting k l → IsStrictlySorted by_number l
counting_sorted k l h i j d lt in_range =
    let a : (get_or l i d).0 ≡ k + i = counting_at k l h i d (omega (arith, lt, in_range)) in
    let b : (get_or l j d).0 ≡ k + j = counting_at k l h j d in_range in
    below_less (get_or l i d).0 (get_or l j d).0 (omega (arith, a, b, lt))

counting_zip : (k : ℕ) (l : List (ℕ × Files)) (m : List (ℕ × FileTree)) → AllZip SameNumber l m → Counting k m → Counting k l
counting_zip k [] [] z h = tt
counting_zip k [] (t ∷ m) z h = absurd z
counting_zip k (x ∷ l) [] z h = absurd z
counting_zip k (x ∷ l) (t ∷ m) z h = (z.0.0 ∙ h.0, counting_zip (k + 1) l m z.1 h.1)

insides_zip : (l : List (ℕ × Files)) (m : List (ℕ × FileTree)) → AllZip SameNumber l m → AllZip (λ (r : Files) inside. bare r.children ≡ sorted inside) (map (λ p. p.1) l) (map (λ p. p.1) m)
insides_zip [] [] z = tt
insides_zip [] (t ∷ m) z = absurd z
insides_zip (x ∷ l) [] z = absurd z
insides_zip (x ∷ l) (t ∷ m) z = (z.0.1, insides_zip l m z.1)

pub number_total : IsTotalOrder (by_number {A = Files})
number_total = on_total (λ (p : ℕ × Files). p.0) nat_cmp_total

-- The numbered storages that are found are those that were written, in order.
pub numbered_found : (prefix : List ℕ) (s : Files) (f : FileTree) → FoundAs s.children f → Counting 0 (numbers prefix f) → AllZip (λ (r : Files) inside. bare r.children ≡ sorted inside) (numbered prefix s) (map (λ p. p.1) (numbers prefix f))
numbered_found prefix s f h counts =
    let own : List (ℕ × Files) = filter_map (numbered_kid prefix) h.own in
    let all : List (ℕ × Files) = filter_map (numbered_kid prefix) (kids s.children) in
    let zip = numbers_zip prefix h.own (entries f) h.views in
    let rises : IsStrictlySorted by_number own = counting_sorted 0 own (counting_zip 0 own (numbers prefix f) zip counts) in
    let order : IsPermutation all own = IsPermutation-sym own all (arranged_permutes own all (arranged_chosen (numbered_kid prefix) h.own (kids s.children) h.order)) in
    let good = elements_good number_total all (permuted_distinct number_total all own order rises) in
    let same : own ≡ with_elements by_number [] all = same_sorted number_total all (with_elements by_number [] all) own good.1 order good.0 rises in
    let whole : with_elements by_number [] (numbered_in prefix s.children) ≡ own = ap (with_elements by_number []) (numbered_kids prefix s.children) ∙ sym same in
    subst (λ (l : List Files). AllZip (λ (r : Files) inside. bare r.children ≡ sorted inside) l (map (λ p. p.1) (numbers prefix f))) (sym (ap (map (λ (p : ℕ × Files). p.1)) whole)) (insides_zip own (numbers prefix f) zip)
