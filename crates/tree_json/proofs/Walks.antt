-- Walks over the members of a store, and over attachments.
use Rattle.std.proofs.Common.{◌≡◌, ◌∙◌, ap, refl, sym, subst, ℕ, zero, suc, ◌+◌, ◌≤◌, ◌<◌, List, [], ◌∷◌, ◌++◌, length, map, take, drop, Some, Bool, true, true≢false, arith}
use Rattle.std.specs.Prelude.{slice_get, IfSome, ◌||◌, nat_lt}
use Rattle.std.specs.List.{flat_map}
use Rattle.std.proofs.lemmas.Grind.{flat_map-append}
use Rattle.std.proofs.lemmas.List.{append-nil, map-append, append_assoc, take-append-drop}
use Rattle.carrier_model.proofs.Messages.{taken_at}
use Rattle.carrier_model.specs.FileTrees as trees
use Rattle.carrier_model.specs.FileTrees.{FileTree, Member, Named, bytes_at, store_at, files_listed, storage_depth}
use Rattle.carrier_model.specs.Tree.{Attached, attachments_from}
use Rattle.serde_json.specs.Data.{Data}
use Rattle.serde_json.specs.View.{items_of}
use Rattle.serde_json.specs.Written.{compact_text, comma_if}
use Rattle.json_model.specs.MessageForms.{attachments_json, attachment_json}
use Rattle.json_model.specs.StoreForms.{Entry, stream_entry, storage_entry, entry_json, entries_below}
use Rattle.tree_json.specs.Listing.{member_entries}
use Rattle.tree_json.specs.Lists.{behind}
use Rattle.tree_json.proofs.Lists.{filled, behind-append, some_before}

-- ---- stores

-- how deep what stands under a name is
abbrev pub member_depth : Member → ℕ
member_depth (bytes_at bytes) = 0
member_depth (store_at inner) = storage_depth inner.members + 1

-- no member is deeper than all
pub member_depth_le : (f : FileTree) (k : ℕ) (x : Named) → slice_get (files_listed f) k ≡ Some x → member_depth x.1 ≤ storage_depth f
member_depth_le trees.no_file k x at = cc
member_depth_le (trees.stream name bytes others) zero x at = let e : (name, bytes_at bytes) ≡ x = cc in omega (arith, ap (λ y. member_depth y.1) e)
member_depth_le (trees.stream name bytes others) (suc k) x at = member_depth_le others k x at
member_depth_le (trees.storage name class inside others) zero x at =
    let e : (name, store_at (record { class = class; members = inside })) ≡ x = cc in omega (arith, ap (λ y. member_depth y.1) e)
member_depth_le (trees.storage name class inside others) (suc k) x at = omega (arith, member_depth_le others k x at)

some_at : (xs : List Named) (k : ℕ) → k < length xs → (x : Named) × (slice_get xs k ≡ Some x)
some_at [] k lt = absurd (omega (arith, lt))
some_at (x ∷ xs) zero lt = (x, refl)
some_at (x ∷ xs) (suc k) lt = some_at xs k (omega (arith, lt))

-- the member at a place has this name and is this
pub named_at : (xs : List Named) (k : ℕ) (n : List ℕ) (m : Member) → k < length xs → IfSome (slice_get xs k) (λ e. e.0 ≡ n) → IfSome (slice_get xs k) (λ e. e.1 ≡ m) → slice_get xs k ≡ Some (n, m)
named_at xs k n m lt a b =
    let (x, at) = some_at xs k lt in
    let p : x.0 ≡ n = subst (λ o. IfSome o (λ (e : Named). e.0 ≡ n)) at a in
    let q : x.1 ≡ m = subst (λ o. IfSome o (λ (e : Named). e.1 ≡ m)) at b in
    at ∙ (λ i. Some (p i, q i))

-- a member that stands in a storage, and what is in it
abbrev pub entries_at : List (List ℕ) → Named → List Entry
entries_at above x = member_entries (above ++ x.0 ∷ []) x.1

-- the entries of members are those of each, in turn
pub entries_joined : (above : List (List ℕ)) (f : FileTree) → flat_map (entries_at above) (files_listed f) ≡ entries_below above f
entries_joined above trees.no_file = refl
entries_joined above (trees.stream name bytes others) = rw (entries_joined above others) refl
entries_joined above (trees.storage name class inside others) = rw (entries_joined above others) refl

-- the members up to a place have so many
entries_front : (above : List (List ℕ)) (xs : List Named) (k : ℕ) (x : Named) → slice_get xs k ≡ Some x → flat_map (entries_at above) (take (k + 1) xs) ≡ flat_map (entries_at above) (take k xs) ++ entries_at above x
entries_front above xs k x at =
    ap (flat_map (entries_at above)) (taken_at xs k x at)
    ∙ (flat_map-append (entries_at above) (take k xs) (x ∷ []) ∙ ap (λ (l : List Entry). flat_map (entries_at above) (take k xs) ++ l) (append-nil (entries_at above x)))

abbrev pub texts_at : Bool → List (List ℕ) → List Named → List ℕ
texts_at later above xs = behind later (map entry_json (flat_map (entries_at above) xs))

some_entries : (path : List (List ℕ)) (m : Member) → filled (map entry_json (member_entries path m)) ≡ true
some_entries path (bytes_at x) = refl
some_entries path (store_at inner) = refl

filled_more : (xs ys : List Data) → filled xs ≡ true → filled (xs ++ ys) ≡ true
filled_more [] ys h = absurd (true≢false (sym h))
filled_more (x ∷ xs) ys h = refl

filled_entries : (above : List (List ℕ)) (xs : List Named) (k : ℕ) (x : Named) → slice_get xs k ≡ Some x → filled (map entry_json (flat_map (entries_at above) (take k xs))) ≡ nat_lt 0 k
filled_entries above xs zero x at = refl
filled_entries above [] (suc k) x at = absurd cc
filled_entries above (y ∷ ys) (suc k) x at =
    ap filled (map-append entry_json (entries_at above y) (flat_map (entries_at above) (take k ys)))
    ∙ filled_more (map entry_json (entries_at above y)) (map entry_json (flat_map (entries_at above) (take k ys))) (some_entries (above ++ y.0 ∷ []) y.1) ∙ some_before k

-- one member more, in print
pub texts_more : (later : Bool) (above : List (List ℕ)) (xs : List Named) (k : ℕ) (x : Named) → slice_get xs k ≡ Some x
    → texts_at later above (take (k + 1) xs) ≡ texts_at later above (take k xs) ++ behind (later || nat_lt 0 k) (map entry_json (entries_at above x))
texts_more later above xs k x at =
    let front = flat_map (entries_at above) (take k xs) in
    let one = entries_at above x in
    ap (λ l. behind later (map entry_json l)) (entries_front above xs k x at) ∙ ap (behind later) (map-append entry_json front one)
    ∙ behind-append later (map entry_json front) (map entry_json one)
    ∙ ap (λ b. behind later (map entry_json front) ++ behind (later || b) (map entry_json one)) (filled_entries above xs k x at)

-- and what is behind it
pub texts_parts : (later : Bool) (above : List (List ℕ)) (xs : List Named) (k : ℕ) (x : Named) → slice_get xs k ≡ Some x
    → (z : List ℕ) × (texts_at later above xs ≡ texts_at later above (take k xs) ++ (behind (later || nat_lt 0 k) (map entry_json (entries_at above x)) ++ z))
texts_parts later above xs k x at =
    let front = flat_map (entries_at above) (take (k + 1) xs) in
    let rest = flat_map (entries_at above) (drop (k + 1) xs) in
    let z = behind (later || filled (map entry_json front)) (map entry_json rest) in (
      z,
      ap (λ l. behind later (map entry_json l)) (ap (flat_map (entries_at above)) (sym (take-append-drop (k + 1) xs)) ∙ flat_map-append (entries_at above) (take (k + 1) xs) (drop (k + 1) xs))
          ∙ ap (behind later) (map-append entry_json front rest) ∙ behind-append later (map entry_json front) (map entry_json rest)
          ∙ ap (λ (l : List ℕ). l ++ z) (texts_more later above xs k x at)
          ∙ append_assoc (texts_at later above (take k xs)) (behind (later || nat_lt 0 k) (map entry_json (entries_at above x))) z,
    )

pub all_texts : (later : Bool) (above : List (List ℕ)) (f : FileTree) → texts_at later above (files_listed f) ≡ behind later (map entry_json (entries_below above f))
all_texts later above f = ap (λ l. behind later (map entry_json l)) (entries_joined above f)

-- a member begins with its comma
pub member_front : (later : Bool) (path : List (List ℕ)) (m : Member) → (z : List ℕ) × (behind later (map entry_json (member_entries path m)) ≡ comma_if later ++ z)
member_front later path (bytes_at x) = (compact_text (entry_json (stream_entry path x)) ++ [], refl)
member_front later path (store_at inner) = (compact_text (entry_json (storage_entry path inner.class)) ++ behind true (map entry_json (entries_below path inner.members)), refl)

pub stream_member : (later : Bool) (path : List (List ℕ)) (x : List ℕ) → comma_if later ++ compact_text (entry_json (stream_entry path x)) ≡ behind later (map entry_json (member_entries path (bytes_at x)))
stream_member later path x = ap (λ (z : List ℕ). comma_if later ++ z) (sym (append-nil (compact_text (entry_json (stream_entry path x)))))

-- ---- attachments

pub attachments_listed : (xs : List Attached) → attachments_json (attachments_from xs) ≡ items_of (map attachment_json xs)
attachments_listed [] = refl
attachments_listed (x ∷ xs) = rw (attachments_listed xs) refl
