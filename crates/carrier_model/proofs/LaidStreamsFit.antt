-- No stream has more bytes than the file that it is laid out in.
use Rattle.std.proofs.Common.{◌≡◌, ℕ, ◌+◌, ◌*◌, ◌<◌, ◌≤◌, ◌^◌, List, [], ◌∷◌, ◌++◌, length, drop, ◌∙◌, ap, arith, inl, inr}
use Rattle.std.specs.List.{AllByRecursion}
use Rattle.std.specs.declared.cmp.Ordering.{Ordering}
use Rattle.std.specs.declared.cmp.Ordering.TheVariants.{Less, Equal, Greater}
use Rattle.std.proofs.lemmas.Bool.{cases_Bool, cond-true, leb-false}
use Rattle.std.proofs.lemmas.List.{length-append}
use Rattle.carrier_model.specs.FileTrees as trees
use Rattle.carrier_model.specs.FileTrees.{FileTree, sibling_cmp, with_stream, with_storage, sorted, entries_in}
use Rattle.carrier_model.specs.Layout.{Slot, Plan, is_long, pieces, long_streams, slots_of, slots_from, plan_of, layout, file_bytes, header_bytes, table_of, mini_table_of, difat_bytes, directory_bytes, words_bytes, mini_stream_bytes, long_bytes, links_of_siblings, sibling_numbers}
use Rattle.carrier_model.specs.LayoutHolds.{StreamsFit}
use Rattle.carrier_model.specs.Sorted.{choose}
use Rattle.carrier_model.specs.Bytes.{MOST_BYTES}
use Rattle.carrier_model.proofs.ChildLaws.{each-split}
use Rattle.carrier_model.proofs.LaidParts.{all-long, header-length}
use Rattle.carrier_model.proofs.LaidStreams.{long_need, long_sum, long-sum}
use Rattle.carrier_model.proofs.Sizes.{SizeOf, size_least, ceil_holds}

-- ---- the streams of entries

abbrev Few : Slot → Type 0
Few s = length s.bytes < 2 ^ 28

slots-few : (z : ℕ) (v : SizeOf z) (slots : List Slot) → z + z * long_sum z slots ≤ 268435456 → AllByRecursion Few slots
slots-few z v [] h = tt
slots-few z v (s ∷ slots) h =
    let rest = slots-few z v slots (omega (arith, h)) in
    elim (cases_Bool (is_long s.bytes)) [
      | inl big ↦ let need : long_need z s.bytes ≡ pieces z s.bytes = cond-true (is_long s.bytes) (pieces z s.bytes) 0 big in (omega (arith, h, ap (λ n. z * n) need, ceil_holds z v (length s.bytes), size_least z v), rest)
      | inr little ↦ (omega (arith, leb-false 4096 (length s.bytes) little), rest)
    ]

-- a file is longer than its long streams
behind : (x y : List ℕ) → length y ≤ length (x ++ y)
behind x y = rw (length-append x y) (omega arith)

long-within : (z : ℕ) (v : SizeOf z) (p : Plan) (slots : List Slot) → z + z * long_sum z slots ≤ length (file_bytes z p slots)
long-within z v p slots =
    let t = words_bytes (table_of z p slots) in
    let l = difat_bytes z p in
    let d = directory_bytes z p slots in
    let m = words_bytes (mini_table_of z p slots) in
    let s = mini_stream_bytes z slots in
    let x = long_bytes z slots in
    let long : length x ≡ z * long_sum z slots = all-long z v (long_streams slots) ∙ ap (λ k. z * k) (long-sum z slots) in
    let whole : length (file_bytes z p slots) ≡ z + length (t ++ (l ++ (d ++ (m ++ (s ++ x))))) = length-append (header_bytes z p) (t ++ (l ++ (d ++ (m ++ (s ++ x))))) ∙ ap (λ k. k + length (t ++ (l ++ (d ++ (m ++ (s ++ x)))))) (header-length z v p) in
    omega (arith, whole, long, behind t (l ++ (d ++ (m ++ (s ++ x)))), behind l (d ++ (m ++ (s ++ x))), behind d (m ++ (s ++ x)), behind m (s ++ x), behind s x)

-- ---- the streams of a tree

files-few : (n : ℕ) (ls : List (ℕ × ℕ)) (files : FileTree) → AllByRecursion Few (slots_from n ls files) → StreamsFit files
files-few n ls trees.no_file h = tt
files-few n ls (trees.stream name bytes others) h = (h.0, files-few (n + 1) (drop 1 ls) others h.1)
files-few n ls (trees.storage name class inside others) h =
    let links = links_of_siblings (sibling_numbers (n + 1) inside) in
    let split = each-split Few (slots_from (n + 1) links inside) (slots_from (n + 1 + entries_in inside) (drop 1 ls) others) h.1 in
    (files-few (n + 1) links inside split.0, files-few (n + 1 + entries_in inside) (drop 1 ls) others split.1)

-- and of the tree before it was sorted
unchosen : (o : Ordering) (a b c : FileTree) (P : Type 0) → (StreamsFit a → P) → (StreamsFit b → P) → (StreamsFit c → P) → StreamsFit (choose o a b c) → P
unchosen Less a b c P x y z h = x h
unchosen Equal a b c P x y z h = y h
unchosen Greater a b c P x y z h = z h

stream-few : (name bytes : List ℕ) (files : FileTree) → StreamsFit (with_stream name bytes files) → (length bytes < 2 ^ 28) × StreamsFit files
stream-few name bytes trees.no_file h = h
stream-few name bytes (trees.stream other x others) h =
    unchosen (sibling_cmp other name) (trees.stream other x (with_stream name bytes others)) (trees.stream name bytes (trees.stream other x others)) (trees.stream name bytes (trees.stream other x others)) ((length bytes < 2 ^ 28) × StreamsFit (trees.stream other x others))
    (λ k. let more = stream-few name bytes others k.1 in (more.0, (k.0, more.1))) (λ k. k) (λ k. k) h
stream-few name bytes (trees.storage other class inside others) h =
    unchosen (sibling_cmp other name) (trees.storage other class inside (with_stream name bytes others)) (trees.stream name bytes (trees.storage other class inside others)) (trees.stream name bytes (trees.storage other class inside others)) ((length bytes < 2 ^ 28) × StreamsFit (trees.storage other class inside others))
    (λ k. let more = stream-few name bytes others k.1 in (more.0, (k.0, more.1))) (λ k. k) (λ k. k) h

storage-few : (name class : List ℕ) (inside files : FileTree) → StreamsFit (with_storage name class inside files) → StreamsFit inside × StreamsFit files
storage-few name class inside trees.no_file h = h
storage-few name class inside (trees.stream other x others) h =
    unchosen (sibling_cmp other name) (trees.stream other x (with_storage name class inside others)) (trees.storage name class inside (trees.stream other x others)) (trees.storage name class inside (trees.stream other x others)) (StreamsFit inside × StreamsFit (trees.stream other x others))
    (λ k. let more = storage-few name class inside others k.1 in (more.0, (k.0, more.1))) (λ k. k) (λ k. k) h
storage-few name class inside (trees.storage other kind below others) h =
    unchosen (sibling_cmp other name) (trees.storage other kind below (with_storage name class inside others)) (trees.storage name class inside (trees.storage other kind below others)) (trees.storage name class inside (trees.storage other kind below others)) (StreamsFit inside × StreamsFit (trees.storage other kind below others))
    (λ k. let more = storage-few name class inside others k.1 in (more.0, (k.0, more.1))) (λ k. k) (λ k. k) h

sorted-few : (files : FileTree) → StreamsFit (sorted files) → StreamsFit files
sorted-few trees.no_file h = tt
sorted-few (trees.stream name bytes others) h = let p = stream-few name bytes (sorted others) h in (p.0, sorted-few others p.1)
sorted-few (trees.storage name class inside others) h = let p = storage-few name class (sorted inside) (sorted others) h in (sorted-few inside p.0, sorted-few others p.1)

-- so a file that is not too long has no stream that is
pub streams-fit : (z : ℕ) (v : SizeOf z) (class : List ℕ) (files : FileTree) → length (layout z class files) ≤ MOST_BYTES → StreamsFit files
streams-fit z v class files short =
    let slots = slots_of class (sorted files) in
    let within = long-within z v (plan_of z slots) slots in
    let all = slots-few z v slots (omega (arith, within, short)) in
    sorted-few files (files-few 1 (links_of_siblings (sibling_numbers 1 (sorted files))) (sorted files) all.1)
