-- Places are sorted as what they stand for.
use Rattle.std.proofs.Common.{◌≡◌, ℕ, Bool, List, length, map, refl, ap, ◌∙◌}
use Rattle.std.specs.Char.{to_ascii_uppercase}
use Rattle.std.specs.Cmp.{IsTotalOrder, IsStrictWeakOrder}
use Rattle.std.specs.List.Sorted.{IsSortedBy, IsStableBy}
use Rattle.std.proofs.lemmas.Cmp.{nat_cmp_total, nat_list_cmp_total, on_total, then_total}
use Rattle.std.proofs.lemmas.List.Sorted.{ranks_by}
use Rattle.carrier_model.specs.FileTrees.{sibling_cmp}
use Rattle.cfb_list.specs.Listed.{name_of}
use Rattle.cfb_list.specs.Places.{child_at}
use Rattle.cfb_list.specs.Sorting.{comes_before, siblings_in_order}
use Rattle.cfb_list.specs.declared.content.File.{File}
use Rattle.cfb_list.specs.declared.content.Place.{Place}
use Rattle.cfb_list.proofs.Stable.{stably_sorted, map_order}

pub sibling_total : IsTotalOrder sibling_cmp
sibling_total = then_total (on_total length nat_cmp_total) (on_total (map to_ascii_uppercase) nat_list_cmp_total)

module _ {B : Type 0} (of : B → List ℕ) (files : List (File B)) where
  abbrev pub place_before : Place → Place → Bool
  place_before x y = comes_before (child_at of files x) (child_at of files y)

  pub place_ranks : IsStrictWeakOrder place_before
  place_ranks = ranks_by sibling_total (λ (x : Place). name_of (child_at of files x))

  pub places_sorted : (old new : List Place) → IsSortedBy place_before new → IsStableBy place_before old new → map (child_at of files) new ≡ siblings_in_order (map (child_at of files) old)
  places_sorted old new up alike =
      ap (map (child_at of files)) (stably_sorted place_before place_ranks old new up alike)
      ∙ map_order place_before comes_before (child_at of files) (λ (x y : Place). refl) old
