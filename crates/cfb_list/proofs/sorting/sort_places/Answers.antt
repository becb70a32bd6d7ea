use Rattle.std.proofs.Common.{rules, of_calls}
use Rattle.std.proofs.lemmas.Fn.{always_returns_same}
use Rattle.cfb_list.proofs.SortedFiles.{place_before, place_ranks, places_sorted}
use Rattle.cfb_list.proofs.sorting.sort_places.Goals as goal

pub returns-clause-order : goal.returns-clause-order
returns-clause-order g c =
    let of = g.B.Blob.bytes in
    let files = c.args.files.now in
    places_sorted of files _ _
    (c.in_ok-sort_by.ensures.sorted (place_before of files) (place_ranks of files) (always_returns_same _ _ _ (λ a r f k. search (rules, of_calls))))
    (c.in_ok-sort_by.ensures.stable (place_before of files) (place_ranks of files) (always_returns_same _ _ _ (λ a r f k. search (rules, of_calls))))
