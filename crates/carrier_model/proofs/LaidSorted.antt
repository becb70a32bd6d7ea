-- Siblings in their order are the same siblings.
use Rattle.std.proofs.Common.{◌≡◌, ℕ, ◌+◌, ◌<◌, ◌≤◌, ◌^◌, List, [], ◌∷◌, length, map}
use Rattle.std.specs.Prelude.{IsPermutation, nat_eq}
use Rattle.std.specs.Cmp.Lexicographic.{pointwise}
use Rattle.std.specs.declared.cmp.Ordering.{Ordering}
use Rattle.std.specs.declared.cmp.Ordering.TheVariants.{Less, Equal, Greater}
use Rattle.std.proofs.lemmas.Cmp.{nat_list_eq_equiv}
use Rattle.std.proofs.lemmas.List.Sorted.{IsPermutation-refl, IsPermutation-sym, IsPermutation-trans, IsPermutation-cons, IsPermutation-middle, IsPermutation-map}
use Rattle.std.proofs.lemmas.Map.Keys.{IsDistinct-IsPermutation}
use Rattle.carrier_model.specs.FileTrees as trees
use Rattle.carrier_model.specs.FileTrees.{FileTree, sibling_cmp, with_stream, with_storage, sorted, file_names, IsFileName}
use Rattle.carrier_model.specs.Files.{folded}
use Rattle.carrier_model.specs.Holds.{AreApart}
use Rattle.carrier_model.specs.Layout.{layout}
use Rattle.carrier_model.specs.LayoutHolds.{MayBeWrittenAt, MayBeWritten, HoldsLaidOut}
use Rattle.carrier_model.specs.Sorted.{choose}
use Rattle.carrier_model.proofs.HoldsLaws.{file_holds}
use Rattle.carrier_model.specs.Bytes.{MOST_BYTES}
use Rattle.carrier_model.proofs.LaidHolds.{laid_plan, found_files, laid_holds}
use Rattle.carrier_model.proofs.Sizes.{SizeOf, is_known}

chosen : (P : FileTree → Type 0) (o : Ordering) (a b c : FileTree) → P a → P b → P c → P (choose o a b c)
chosen P Less a b c x y z = x
chosen P Equal a b c x y z = y
chosen P Greater a b c x y z = z

swapped : (x y : List ℕ) (ns ms : List (List ℕ)) → IsPermutation ns (y ∷ ms) → IsPermutation (x ∷ ns) (y ∷ x ∷ ms)
swapped x y ns ms h = IsPermutation-trans (x ∷ ns) (x ∷ y ∷ ms) (y ∷ x ∷ ms) (IsPermutation-cons x ns (y ∷ ms) h) (IsPermutation-middle (x ∷ []) y ms)

stream-names : (name bytes : List ℕ) (files : FileTree) → IsPermutation (file_names (with_stream name bytes files)) (name ∷ file_names files)
stream-names name bytes trees.no_file = IsPermutation-refl (name ∷ [])
stream-names name bytes (trees.stream other x others) =
    chosen (λ f. IsPermutation (file_names f) (name ∷ other ∷ file_names others)) (sibling_cmp other name) (trees.stream other x (with_stream name bytes others)) (trees.stream name bytes (trees.stream other x others)) (trees.stream name bytes (trees.stream other x others))
    (swapped other name (file_names (with_stream name bytes others)) (file_names others) (stream-names name bytes others)) (IsPermutation-refl (name ∷ other ∷ file_names others)) (IsPermutation-refl (name ∷ other ∷ file_names others))
stream-names name bytes (trees.storage other class inside others) =
    chosen (λ f. IsPermutation (file_names f) (name ∷ other ∷ file_names others)) (sibling_cmp other name) (trees.storage other class inside (with_stream name bytes others)) (trees.stream name bytes (trees.storage other class inside others)) (trees.stream name bytes (trees.storage other class inside others))
    (swapped other name (file_names (with_stream name bytes others)) (file_names others) (stream-names name bytes others)) (IsPermutation-refl (name ∷ other ∷ file_names others)) (IsPermutation-refl (name ∷ other ∷ file_names others))

storage-names : (name class : List ℕ) (inside files : FileTree) → IsPermutation (file_names (with_storage name class inside files)) (name ∷ file_names files)
storage-names name class inside trees.no_file = IsPermutation-refl (name ∷ [])
storage-names name class inside (trees.stream other x others) =
    chosen (λ f. IsPermutation (file_names f) (name ∷ other ∷ file_names others)) (sibling_cmp other name) (trees.stream other x (with_storage name class inside others)) (trees.storage name class inside (trees.stream other x others)) (trees.storage name class inside (trees.stream other x others))
    (swapped other name (file_names (with_storage name class inside others)) (file_names others) (storage-names name class inside others)) (IsPermutation-refl (name ∷ other ∷ file_names others)) (IsPermutation-refl (name ∷ other ∷ file_names others))
storage-names name class inside (trees.storage other kind below others) =
    chosen (λ f. IsPermutation (file_names f) (name ∷ other ∷ file_names others)) (sibling_cmp other name) (trees.storage other kind below (with_storage name class inside others)) (trees.storage name class inside (trees.storage other kind below others)) (trees.storage name class inside (trees.storage other kind below others))
    (swapped other name (file_names (with_storage name class inside others)) (file_names others) (storage-names name class inside others)) (IsPermutation-refl (name ∷ other ∷ file_names others)) (IsPermutation-refl (name ∷ other ∷ file_names others))

pub sorted-names : (files : FileTree) → IsPermutation (file_names (sorted files)) (file_names files)
sorted-names trees.no_file = IsPermutation-refl []
sorted-names (trees.stream name bytes others) =
    IsPermutation-trans (file_names (with_stream name bytes (sorted others))) (name ∷ file_names (sorted others)) (name ∷ file_names others) (stream-names name bytes (sorted others)) (IsPermutation-cons name (file_names (sorted others)) (file_names others) (sorted-names others))
sorted-names (trees.storage name class inside others) =
    IsPermutation-trans (file_names (with_storage name class (sorted inside) (sorted others))) (name ∷ file_names (sorted others)) (name ∷ file_names others) (storage-names name class (sorted inside) (sorted others)) (IsPermutation-cons name (file_names (sorted others)) (file_names others) (sorted-names others))

pub sorted-apart : (files : FileTree) → AreApart (file_names files) → AreApart (file_names (sorted files))
sorted-apart files h =
    IsDistinct-IsPermutation (pointwise nat_eq) nat_list_eq_equiv.symm (map folded (file_names files)) (map folded (file_names (sorted files)))
    (IsPermutation-map folded (file_names files) (file_names (sorted files)) (IsPermutation-sym (file_names (sorted files)) (file_names files) (sorted-names files))) h

stream-may : (depth : ℕ) (name bytes : List ℕ) (files : FileTree) → IsFileName name → length bytes < 2 ^ 28 → MayBeWrittenAt depth files → MayBeWrittenAt depth (with_stream name bytes files)
stream-may depth name bytes trees.no_file n s may = (n, s, tt)
stream-may depth name bytes (trees.stream other x others) n s may =
    chosen (MayBeWrittenAt depth) (sibling_cmp other name) (trees.stream other x (with_stream name bytes others)) (trees.stream name bytes (trees.stream other x others)) (trees.stream name bytes (trees.stream other x others))
    (may.0, may.1, stream-may depth name bytes others n s may.2) (n, s, may) (n, s, may)
stream-may depth name bytes (trees.storage other class inside others) n s may =
    chosen (MayBeWrittenAt depth) (sibling_cmp other name) (trees.storage other class inside (with_stream name bytes others)) (trees.stream name bytes (trees.storage other class inside others)) (trees.stream name bytes (trees.storage other class inside others))
    (may.0, may.1, may.2, may.3, may.4, stream-may depth name bytes others n s may.5) (n, s, may) (n, s, may)

storage-may : (depth : ℕ) (name class : List ℕ) (inside files : FileTree) → IsFileName name → length class ≡ 16 → depth ≤ 100 → AreApart (file_names inside) → MayBeWrittenAt (depth + 1) inside → MayBeWrittenAt depth files → MayBeWrittenAt depth (with_storage name class inside files)
storage-may depth name class inside trees.no_file n c d a i may = (n, c, d, a, i, tt)
storage-may depth name class inside (trees.stream other x others) n c d a i may =
    chosen (MayBeWrittenAt depth) (sibling_cmp other name) (trees.stream other x (with_storage name class inside others)) (trees.storage name class inside (trees.stream other x others)) (trees.storage name class inside (trees.stream other x others))
    (may.0, may.1, storage-may depth name class inside others n c d a i may.2) (n, c, d, a, i, may) (n, c, d, a, i, may)
storage-may depth name class inside (trees.storage other kind below others) n c d a i may =
    chosen (MayBeWrittenAt depth) (sibling_cmp other name) (trees.storage other kind below (with_storage name class inside others)) (trees.storage name class inside (trees.storage other kind below others)) (trees.storage name class inside (trees.storage other kind below others))
    (may.0, may.1, may.2, may.3, may.4, storage-may depth name class inside others n c d a i may.5) (n, c, d, a, i, may) (n, c, d, a, i, may)

pub sorted-may : (depth : ℕ) (files : FileTree) → MayBeWrittenAt depth files → MayBeWrittenAt depth (sorted files)
sorted-may depth trees.no_file may = tt
sorted-may depth (trees.stream name bytes others) may = stream-may depth name bytes (sorted others) may.0 may.1 (sorted-may depth others may.2)
sorted-may depth (trees.storage name class inside others) may =
    storage-may depth name class (sorted inside) (sorted others) may.0 may.1 may.2 (sorted-apart inside may.3) (sorted-may (depth + 1) inside may.4) (sorted-may depth others may.5)

-- what is laid out is found again
pub layouts-found : (z : ℕ) (v : SizeOf z) (class : List ℕ) (files : FileTree) → length class ≡ 16 → MayBeWritten files → length (layout z class files) ≤ MOST_BYTES → HoldsLaidOut z class files
layouts-found z v class files whole may short =
    let held = laid_holds z v class (sorted files) whole (sorted-apart files may.0, sorted-may 1 files may.1) short in
    record { found = found_files z (laid_plan z class (sorted files)) class (sorted files) (layout z class files); holds = file_holds z (layout z class files) (found_files z (laid_plan z class (sorted files)) class (sorted files) (layout z class files)) (is_known z v) held.0; root = held.1; same = held.2 }
