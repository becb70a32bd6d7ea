use Rattle.std.proofs.Common.{◌≡◌, ◌∙◌, length, map, subst, ap}
use Rattle.std.specs.Prelude.{Some, None}
use Rattle.prop_values.specs.Arrivals.{AreOrdered, IsFirstDouble, IsLeastDouble}
use Rattle.prop_values.proofs.Doubles.{ordered, first_is}
use Rattle.prop_values.proofs.Spots.{ranked_kept}
use Rattle.prop_values.proofs.sorting.order_of.Goals as goal

pub first_double-requires : goal.first_double-requires
first_double-requires g c =
    rw c.deref.ensures.value (ranked_kept (λ s. s.prop.now) (λ s. s.rank) (λ s. s.place) c.in_ok-spots_of.field-0.items c.sorted_by_pair-spots.result.items c.in_ok-spots_of.ensures.ranked c.sorted_by_pair-spots.ensures.permutation)

pub returns-in-Some : goal.returns-in-Some
returns-in-Some g c =
    let least : IsLeastDouble c.sorted_by_pair-spots.result.items (λ s. s.prop.now) (λ s. s.place) (length c.sorted_by_pair-spots.result.items) (Some c.in-Some.place) = rw c.deref.ensures.value at c.in-Some.ensures in
    subst (λ ps. IsFirstDouble ps c.in-Some.place) c.in_ok-spots_of.ensures.props
    (first_is (λ s. s.prop.now) (λ s. s.place) c.in_ok-spots_of.field-0.items c.sorted_by_pair-spots.result.items c.in_ok-spots_of.ensures.places c.sorted_by_pair-spots.ensures.permutation c.sorted_by_pair-spots.ensures.sorted c.in-Some.place least)

pub inverse_of-requires : goal.inverse_of-requires
inverse_of-requires g c =
    let least : IsLeastDouble c.sorted_by_pair-spots.result.items (λ s. s.prop.now) (λ s. s.place) (length c.sorted_by_pair-spots.result.items) None = rw c.deref.ensures.value at c.in-None.ensures in
    let there : c.in_ok-places-in-None.places.items ≡ map (λ s. s.place) c.sorted_by_pair-spots.result.items = c.in_ok-places-in-None.ensures ∙ ap (map (λ s. s.place)) c.deref-in-None.ensures.value in
    let spots : AreOrdered c.args.list.now (map (λ s. s.place) c.sorted_by_pair-spots.result.items) = subst (λ ps. AreOrdered ps (map (λ s. s.place) c.sorted_by_pair-spots.result.items)) c.in_ok-spots_of.ensures.props
    (ordered (λ s. s.prop.now) (λ s. s.place) c.in_ok-spots_of.field-0.items c.sorted_by_pair-spots.result.items c.in_ok-spots_of.ensures.places c.sorted_by_pair-spots.ensures.permutation c.sorted_by_pair-spots.ensures.sorted least) in
    rw there (spots.places_are)

pub returns : goal.returns
returns g c =
    let least : IsLeastDouble c.sorted_by_pair-spots.result.items (λ s. s.prop.now) (λ s. s.place) (length c.sorted_by_pair-spots.result.items) None = rw c.deref.ensures.value at c.in-None.ensures in
    let there : c.in_ok-places-in-None.places.items ≡ map (λ s. s.place) c.sorted_by_pair-spots.result.items = c.in_ok-places-in-None.ensures ∙ ap (map (λ s. s.place)) c.deref-in-None.ensures.value in
    let spots : AreOrdered c.args.list.now (map (λ s. s.place) c.sorted_by_pair-spots.result.items) = subst (λ ps. AreOrdered ps (map (λ s. s.place) c.sorted_by_pair-spots.result.items)) c.in_ok-spots_of.ensures.props
    (ordered (λ s. s.prop.now) (λ s. s.place) c.in_ok-spots_of.field-0.items c.sorted_by_pair-spots.result.items c.in_ok-spots_of.ensures.places c.sorted_by_pair-spots.ensures.permutation c.sorted_by_pair-spots.ensures.sorted least) in
    (rw there spots, c.in_ok-ranks-in-None.ensures)
