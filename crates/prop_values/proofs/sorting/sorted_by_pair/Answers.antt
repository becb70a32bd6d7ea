use Rattle.std.proofs.Common.{rules}
use Rattle.std.proofs.lemmas.List.Sorted.{answers_always, ranks_by}
use Rattle.std.specs.Ordering.{is_lt}
use Rattle.prop_values.specs.Ranks.{ranked_cmp}
use Rattle.prop_values.proofs.Spots.{by_rank, pair_sorted}
use Rattle.prop_values.proofs.sorting.sorted_by_pair.Goals as goal

pub returns-clause-sorted : goal.returns-clause-sorted
returns-clause-sorted g c =
    pair_sorted (λ s. s.prop.now) (λ s. s.rank) (λ s. s.place) _ _ c.requires c.sort_unstable_by.ensures.permutation
    (c.sort_unstable_by.ensures.sorted (λ x y. is_lt (ranked_cmp (λ s. s.prop.now) (λ s. s.rank) (λ s. s.place) x y)) (ranks_by (by_rank (λ s. s.prop.now) (λ s. s.rank) (λ s. s.place)) (λ x. x)) (answers_always _ _ _ (λ f a r g h. search rules)))
