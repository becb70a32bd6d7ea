-- Entries that are sorted stably are members in their order.
use Rattle.std.proofs.Common.{◌≡◌, ℕ, Bool, List, [], ◌∷◌, map, refl, sym, ap, ◌∙◌}
use Rattle.std.specs.Cmp.{IsStrictWeakOrder}
use Rattle.std.specs.List.Sorted.{IsSortedBy, IsStableBy}
use Rattle.std.specs.Ordering.{is_lt}
use Rattle.std.specs.Prelude.{cond}
use Rattle.std.specs.declared.cmp.Ordering.{Ordering}
use Rattle.std.specs.declared.cmp.Ordering.TheVariants.{Less, Equal, Greater}
use Rattle.std.proofs.lemmas.List.Sorted.{ranks_by}
use Rattle.carrier_model.specs.FileTrees as plain
use Rattle.carrier_model.specs.FileTrees.{FileTree, Member, Named, bytes_at, store_at, in_front, files_from, with_member, sibling_cmp}
use Rattle.carrier_model.specs.Sorted.{choose}
use Rattle.carrier_model.proofs.StableSorts.{placed, in_order as sorted_by, stably_sorted, map_order}
use Rattle.carrier_model.proofs.StoreOrder.{sibling_total}
use Rattle.msg_tree.specs.Gathering.{in_order}
use Rattle.msg_tree.specs.StoreMeaning.{entry_of}
use Rattle.msg_tree.specs.declared.stores.Entry.{Entry}

abbrev named_before : Named → Named → Bool
named_before x y = is_lt (sibling_cmp x.0 y.0)

-- a member goes behind the first of the others, or before it
member_step : (name : List ℕ) (m : Member) (other : List ℕ) (p : Member) (f : FileTree) → with_member name m (in_front other p f) ≡ choose (sibling_cmp other name) (in_front other p (with_member name m f)) (in_front name m (in_front other p f)) (in_front name m (in_front other p f))
member_step name (bytes_at bytes) other (bytes_at x) f = refl
member_step name (bytes_at bytes) other (store_at inner) f = refl
member_step name (store_at inner) other (bytes_at x) f = refl
member_step name (store_at inner) other (store_at below) f = refl

first_member : (name : List ℕ) (m : Member) → with_member name m plain.no_file ≡ in_front name m plain.no_file
first_member name (bytes_at bytes) = refl
first_member name (store_at inner) = refl

placed_member : (x : Named) (ys : List Named) → files_from (placed named_before x ys) ≡ with_member x.0 x.1 (files_from ys)
placed_member x [] = sym (first_member x.0 x.1)
placed_member x (y ∷ ys) = by (sibling_cmp y.0 x.0) (placed_member x ys) ∙ sym (member_step x.0 x.1 y.0 y.1 (files_from ys))
  where
    by : (o : Ordering) → files_from (placed named_before x ys) ≡ with_member x.0 x.1 (files_from ys)
        → files_from (cond (is_lt o) (y ∷ placed named_before x ys) (x ∷ y ∷ ys)) ≡ choose o (in_front y.0 y.1 (with_member x.0 x.1 (files_from ys))) (in_front x.0 x.1 (in_front y.0 y.1 (files_from ys))) (in_front x.0 x.1 (in_front y.0 y.1 (files_from ys)))
    by Less later = ap (in_front y.0 y.1) later
    by Equal later = refl
    by Greater later = refl

members_sorted : (xs : List Named) → files_from (sorted_by named_before xs) ≡ in_order xs
members_sorted [] = refl
members_sorted (x ∷ xs) = placed_member x (sorted_by named_before xs) ∙ ap (with_member x.0 x.1) (members_sorted xs)

module _ {B : Type 0} (bytes_of : B → List ℕ) where
  abbrev pub entry_before : Entry B → Entry B → Bool
  entry_before x y = is_lt (sibling_cmp (entry_of bytes_of x).0 (entry_of bytes_of y).0)

  pub entry_ranks : IsStrictWeakOrder entry_before
  entry_ranks = ranks_by sibling_total (λ (x : Entry B). (entry_of bytes_of x).0)

  pub entries_sorted : (old new : List (Entry B)) → IsSortedBy entry_before new → IsStableBy entry_before old new → files_from (map (entry_of bytes_of) new) ≡ in_order (map (entry_of bytes_of) old)
  entries_sorted old new up alike =
      ap (λ es. files_from (map (entry_of bytes_of) es)) (stably_sorted entry_before entry_ranks old new up alike)
      ∙ (ap files_from (map_order entry_before named_before (entry_of bytes_of) (λ x y. refl) old) ∙ members_sorted (map (entry_of bytes_of) old))
