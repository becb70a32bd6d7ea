-- The stream of a name among the members of a store.
use Rattle.std.proofs.Common.{◌≡◌, ◌∙◌, ap, refl, sym, ℕ, zero, suc, ◌+◌, ◌<◌, Bool, false, List, [], ◌∷◌, length, drop, Some, arith}
use Rattle.std.specs.Prelude.{slice_get, ◌||◌, ◌&&◌}
use Rattle.carrier_model.specs.FileTrees.{FileTree, Member, Named, bytes_at, store_at, files_from, files_listed}
use Rattle.carrier_model.specs.Lookups.{same_name}
use Rattle.carrier_model.specs.Stores.{has_stream}
use Rattle.carrier_model.proofs.Trees.{drop_at}
use Rattle.msg_tree.specs.Shapes.{is_bytes}
use Rattle.msg_tree.proofs.Stored.{listed-files}

-- whether one of the members from a place on is such a stream
abbrev pub has_from : List ℕ → List Named → Bool
has_from wanted xs = has_stream (files_from xs) wanted

pub has_all : (f : FileTree) (wanted : List ℕ) → has_stream f wanted ≡ has_from wanted (drop 0 (files_listed f))
has_all f wanted = ap (λ g. has_stream g wanted) (sym (listed-files f))

step : (wanted name : List ℕ) (m : Member) (xs : List Named) → has_from wanted ((name, m) ∷ xs) ≡ ((is_bytes m && same_name name wanted) || has_from wanted xs)
step wanted name (bytes_at bytes) xs = refl
step wanted name (store_at inner) xs = refl

pub has_step : (wanted : List ℕ) (xs : List Named) (k : ℕ) (name : List ℕ) (m : Member) → slice_get xs k ≡ Some (name, m) → has_from wanted (drop k xs) ≡ ((is_bytes m && same_name name wanted) || has_from wanted (drop (k + 1) xs))
has_step wanted xs k name m at = ap (has_from wanted) (drop_at xs k (name, m) at) ∙ step wanted name m (drop (k + 1) xs)

pub has_none : (wanted : List ℕ) (xs : List Named) (k : ℕ) → length xs < k + 1 → has_from wanted (drop k xs) ≡ false
has_none wanted xs k lt = ap (has_from wanted) (all_dropped xs k lt)
  where
    all_dropped : (ys : List Named) (j : ℕ) → length ys < j + 1 → drop j ys ≡ []
    all_dropped [] zero h = refl
    all_dropped [] (suc j) h = refl
    all_dropped (y ∷ ys) zero h = absurd (omega (arith, h))
    all_dropped (y ∷ ys) (suc j) h = all_dropped ys j (omega (arith, h))
