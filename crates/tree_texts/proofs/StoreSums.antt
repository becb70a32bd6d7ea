-- What a store has, member by member.
use Rattle.std.proofs.Common.{◌≡◌, ◌∙◌, ap, refl, subst, ℕ, zero, suc, ◌+◌, ◌≤◌, ◌<◌, List, [], ◌∷◌, length, sum_by, Some, arith}
use Rattle.std.specs.Prelude.{slice_get, IfSome}
use Rattle.std.proofs.lemmas.List.Sums.{sum_by-cons}
use Rattle.carrier_model.specs.FileTrees as trees
use Rattle.carrier_model.specs.FileTrees.{FileTree, Member, Named, bytes_at, store_at, files_listed, storage_depth, stream_count, byte_count}
use Rattle.tree_texts.specs.StoreTotals as totals

-- how deep what stands under a name is
abbrev pub member_depth : Member → ℕ
member_depth (bytes_at bytes) = 0
member_depth (store_at inner) = storage_depth inner.members + 1

-- no member is deeper than all
pub member_depth_le : (f : FileTree) (k : ℕ) (x : Named) → slice_get (files_listed f) k ≡ Some x → member_depth x.1 ≤ storage_depth f
member_depth_le trees.no_file k x at = cc
member_depth_le (trees.stream name bytes others) zero x at = let e : (name, bytes_at bytes) ≡ x = cc in omega (arith, ap (λ y. member_depth y.1) e)
member_depth_le (trees.stream name bytes others) (suc k) x at = member_depth_le others k x at
member_depth_le (trees.storage name class inside others) zero x at =
    let e : (name, store_at (record { class = class; members = inside })) ≡ x = cc in omega (arith, ap (λ y. member_depth y.1) e)
member_depth_le (trees.storage name class inside others) (suc k) x at = omega (arith, member_depth_le others k x at)

some_at : (xs : List Named) (k : ℕ) → k < length xs → (x : Named) × (slice_get xs k ≡ Some x)
some_at [] k lt = absurd (omega (arith, lt))
some_at (x ∷ xs) zero lt = (x, refl)
some_at (x ∷ xs) (suc k) lt = some_at xs k (omega (arith, lt))

-- the member at a place has a name
pub member_at : (xs : List Named) (k : ℕ) (m : Member) → k < length xs → IfSome (slice_get xs k) (λ e. e.1 ≡ m) → (n : List ℕ) × (slice_get xs k ≡ Some (n, m))
member_at xs k m lt b =
    let (x, at) = some_at xs k lt in
    let q : x.1 ≡ m = subst (λ o. IfSome o (λ (e : Named). e.1 ≡ m)) at b in
    (x.0, at ∙ (λ i. Some (x.0, q i)))

-- the streams and the bytes of a store are those of its members
abbrev pub streams_of : Named → ℕ
streams_of x = totals.streams_at x.1

abbrev pub bytes_of : Named → ℕ
bytes_of x = totals.bytes_at x.1

pub streams_summed : (f : FileTree) → stream_count f ≡ sum_by streams_of (files_listed f)
streams_summed trees.no_file = refl
streams_summed (trees.stream name bytes others) = omega (arith, streams_summed others, sum_by-cons streams_of (name, bytes_at bytes) (files_listed others))
streams_summed (trees.storage name class inside others) = omega (arith, streams_summed others, sum_by-cons streams_of (name, store_at (record { class = class; members = inside })) (files_listed others))

pub bytes_summed : (f : FileTree) → byte_count f ≡ sum_by bytes_of (files_listed f)
bytes_summed trees.no_file = refl
bytes_summed (trees.stream name bytes others) = omega (arith, bytes_summed others, sum_by-cons bytes_of (name, bytes_at bytes) (files_listed others))
bytes_summed (trees.storage name class inside others) = omega (arith, bytes_summed others, sum_by-cons bytes_of (name, store_at (record { class = class; members = inside })) (files_listed others))
