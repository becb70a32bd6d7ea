-- A storage is one store, or has one first fault, and not both.
use Rattle.std.proofs.Common.{◌≡◌, ℕ, zero, suc, ◌+◌, ◌≤◌, Bool, true, false, List, length, max, Option, Some, None, Result, Ok, Err, refl, sym, ap, ◌∙◌, arith}
use Rattle.std.specs.Prelude.{is_some, not}
use Rattle.std.specs.Option.{option_or}
use Rattle.std.specs.declared.cmp.Ordering.{Ordering}
use Rattle.std.specs.declared.cmp.Ordering.TheVariants.{Less, Equal, Greater}
use Rattle.carrier_model.specs.Bytes.{MOST_BYTES}
use Rattle.carrier_model.specs.FileTrees as trees
use Rattle.carrier_model.specs.FileTrees.{FileTree, storage_depth, with_stream, with_storage, sorted, sibling_cmp, Store}
use Rattle.carrier_model.specs.Files.{Children, none, storage, stream, Files, open_file}
use Rattle.carrier_model.specs.Lookups.{stream_named, size_place_at}
use Rattle.carrier_model.specs.Outcomes.{◌>>=◌, moved}
use Rattle.carrier_model.specs.Reasons.{STORE_IS_MESSAGE}
use Rattle.carrier_model.specs.Sorted.{choose}
use Rattle.carrier_model.specs.Stores.{PROPERTIES, MOST_STORAGES, bare, store_of, deep_place, shallow, store_in, StoreMeans, store_file, IsStoreFile}
use Rattle.carrier_model.specs.Tables.{sector_size}
use Rattle.carrier_model.specs.Trail.{Fault, IsExact}
use Rattle.carrier_model.proofs.HoldsLaws.{open_sound, file_opened}
use Rattle.carrier_model.proofs.Turns.{ok_same, bind_ok, bind_from, check_ok, check_from}

-- ---- how many storages stand one below another

chosen_depth : (o : Ordering) (a b : FileTree) (n : ℕ) → storage_depth a ≡ n → storage_depth b ≡ n → storage_depth (choose o a b b) ≡ n
chosen_depth Less a b n p q = p
chosen_depth Equal a b n p q = q
chosen_depth Greater a b n p q = q

stream-depth : (name bytes : List ℕ) (f : FileTree) → storage_depth (with_stream name bytes f) ≡ storage_depth f
stream-depth name bytes trees.no_file = refl
stream-depth name bytes (trees.stream other x others) =
    chosen_depth (sibling_cmp other name) (trees.stream other x (with_stream name bytes others)) (trees.stream name bytes (trees.stream other x others)) (storage_depth others) (stream-depth name bytes others) refl
stream-depth name bytes (trees.storage other class inside others) =
    chosen_depth (sibling_cmp other name) (trees.storage other class inside (with_stream name bytes others)) (trees.stream name bytes (trees.storage other class inside others)) (max (storage_depth inside + 1) (storage_depth others))
    (ap (max (storage_depth inside + 1)) (stream-depth name bytes others)) refl

storage-depth : (name class : List ℕ) (below f : FileTree) → storage_depth (with_storage name class below f) ≡ max (storage_depth below + 1) (storage_depth f)
storage-depth name class below trees.no_file = refl
storage-depth name class below (trees.stream other x others) =
    chosen_depth (sibling_cmp other name) (trees.stream other x (with_storage name class below others)) (trees.storage name class below (trees.stream other x others)) (max (storage_depth below + 1) (storage_depth others)) (storage-depth name class below others) refl
storage-depth name class below (trees.storage other kind inside others) =
    chosen_depth (sibling_cmp other name) (trees.storage other kind inside (with_storage name class below others)) (trees.storage name class below (trees.storage other kind inside others)) (max (storage_depth below + 1) (max (storage_depth inside + 1) (storage_depth others)))
    (let e = storage-depth name class below others in omega (arith, e)) refl

pub sorted-depth : (f : FileTree) → storage_depth (sorted f) ≡ storage_depth f
sorted-depth trees.no_file = refl
sorted-depth (trees.stream name bytes others) = stream-depth name bytes (sorted others) ∙ sorted-depth others
sorted-depth (trees.storage name class inside others) =
    storage-depth name class (sorted inside) (sorted others) ∙ (λ i. max (sorted-depth inside i + 1) (sorted-depth others i))

-- a place is found exactly where too many stand
or_none : (a b : Option ℕ) → option_or a b ≡ None → (a ≡ None) × (b ≡ None)
or_none None b e = (refl, e)
or_none (Some x) b e = absurd cc

deep-sound : (most : ℕ) (c : Children) → deep_place most c ≡ None → storage_depth (bare c) ≤ most
deep-sound most none e = omega arith
deep-sound most (stream tag x rest) e = deep-sound most rest e
deep-sound zero (storage tag below rest) e = absurd cc
deep-sound (suc most) (storage tag below rest) e =
    let both = or_none (deep_place most below) (deep_place (suc most) rest) e in
    omega (arith, deep-sound most below both.0, deep-sound (suc most) rest both.1)

deep-only : (most : ℕ) (c : Children) → storage_depth (bare c) ≤ most → deep_place most c ≡ None
deep-only most none le = refl
deep-only most (stream tag x rest) le = deep-only most rest le
deep-only zero (storage tag below rest) le = absurd (omega (arith, le))
deep-only (suc most) (storage tag below rest) le =
    ap (λ o. option_or o (deep_place (suc most) rest)) (deep-only most below (omega (arith, le))) ∙ deep-only (suc most) rest (omega (arith, le))

-- ---- storages

shallow_ok : {A : Type 0} (o : Option ℕ) (f : Unit {0} → Result A Fault) (x : A) → (shallow o >>= f) ≡ Ok x → (o ≡ None) × (f tt ≡ Ok x)
shallow_ok None f x e = (refl, e)
shallow_ok (Some place) f x e = absurd cc

found_depth : (s : Files) → storage_depth (store_of s).members ≡ storage_depth (bare s.children)
found_depth s = sorted-depth (bare s.children)

pub store_in-sound : (s : Files) (x : Store) → store_in s ≡ Ok x → StoreMeans s x
unfolding store_in
store_in-sound s x e =
    let (fits, is) = shallow_ok (deep_place MOST_STORAGES s.children) _ x e in
    let same : x ≡ store_of s = ok_same (Ok _) (store_of s) x refl is in
    record { is = same; depth = omega (arith, ap (λ y. storage_depth y.members) same, found_depth s, deep-sound MOST_STORAGES s.children fits) }

pub store_in-only : (s : Files) (x : Store) → StoreMeans s x → store_in s ≡ Ok x
unfolding store_in
store_in-only s x m =
    let le : storage_depth (bare s.children) ≤ MOST_STORAGES = omega (arith, ap (λ y. storage_depth y.members) m.is, found_depth s, m.depth) in
    ap (λ o. shallow o >>= (λ fits. Ok (store_of s))) (deep-only MOST_STORAGES s.children le) ∙ ap Ok (sym m.is)

-- ---- whole files

not_some : (b : Bool) → not b ≡ true → b ≡ false
not_some true e = absurd cc
not_some false e = refl

pub store_file-sound : (b : List ℕ) (x : Store) → length b ≤ MOST_BYTES → store_file b ≡ Ok x → IsStoreFile b x
unfolding store_file
store_file-sound b x few e =
    let (root, opened, a) = bind_ok (open_file b) _ x e in
    let (no_list, is) = check_ok (not (is_some (stream_named root.children PROPERTIES))) STORE_IS_MESSAGE (size_place_at (stream_named root.children PROPERTIES)) _ x a in
    record { few = few; root = root; holds = open_sound (sector_size b) b root opened; no_message = not_some (is_some (stream_named root.children PROPERTIES)) no_list; means = store_in-sound root x is }

pub store_file-only : (b : List ℕ) (x : Store) → IsStoreFile b x → store_file b ≡ Ok x
unfolding store_file
store_file-only b x m =
    bind_from (open_file b) _ m.root (file_opened b m.root m.few m.holds)
    ∙ (check_from (not (is_some (stream_named m.root.children PROPERTIES))) STORE_IS_MESSAGE (size_place_at (stream_named m.root.children PROPERTIES)) _ (ap not m.no_message) ∙ store_in-only m.root x m.means)

moved_ok : (at : ℕ) (r : Result Store Fault) (x : Store) (g : Fault) → r ≡ Ok x → moved at r ≡ Err g → ⊥
moved_ok at (Ok y) x g e f = absurd cc
moved_ok at (Err h) x g e f = absurd cc

-- wherever a file begins
pub store_file-exact : (at : ℕ) (b : List ℕ) → IsExact (IsStoreFile b) (λ g. moved at (store_file b) ≡ Err g)
store_file-exact at b = record {
  one = λ x y p q. ok_same (store_file b) x y (store_file-only b x p) (store_file-only b y q);
  single = λ g h p q. (let both : moved at (store_file b) ≡ Err h = q in cc);
  apart = λ x g p q. moved_ok at (store_file b) x g (store_file-only b x p) q;
}
