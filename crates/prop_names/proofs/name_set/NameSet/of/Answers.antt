use Rattle.std.proofs.Common.{◌≡◌, [], map, ap, ◌∙◌, rules, refl}
use Rattle.std.proofs.lemmas.List.Filters.{dedup_is}
use Rattle.std.proofs.lemmas.List.Sorted.{answers_always, ranks_by}
use Rattle.carrier_model.specs.Keys.{IsName, name_cmp}
use Rattle.carrier_model.specs.Sorted.{with_elements}
use Rattle.carrier_model.proofs.Orders.{name_total, name_exact}
use Rattle.prop_names.specs.Meaning.{name_of, comes_before}
use Rattle.prop_names.proofs.Gathered.{from_sorted, dedup_gathered, gathered_sorted, gathered_all}
use Rattle.prop_names.proofs.name_set.NameSet.of.Goals as goal

pub returns : goal.returns
returns c =
    let sorted = c.sort_unstable_by.ensures.sorted comes_before (ranks_by name_total name_of) (answers_always _ _ _ (λ f a r g h. search rules)) in
    from_sorted name_total name_exact name_of c.args.names.items _ _ _ c.sort_unstable_by.ensures.permutation refl (ap (map name_of) (dedup_is _ _ _ c.dedup.ensures.filtered) ∙ dedup_gathered name_total name_exact name_of _ sorted)

pub invariant_of-result : goal.invariant_of-result
invariant_of-result c =
    let sorted = c.sort_unstable_by.ensures.sorted comes_before (ranks_by name_total name_of) (answers_always _ _ _ (λ f a r g h. search rules)) in
    let is : map name_of c.dedup.new.self.items ≡ with_elements name_cmp [] (map name_of c.args.names.items) = from_sorted name_total name_exact name_of c.args.names.items _ _ _ c.sort_unstable_by.ensures.permutation refl (ap (map name_of) (dedup_is _ _ _ c.dedup.ensures.filtered) ∙ dedup_gathered name_total name_exact name_of _ sorted) in
    rw is (record { sorted = gathered_sorted name_total (map name_of c.args.names.items); names = gathered_all name_cmp IsName (map name_of c.args.names.items) c.requires })
