use Rattle.std.proofs.Common.{◌≡◌, true, length, map, refl, sym, ◌∙◌, arith, subst}
use Rattle.carrier_model.specs.Streams.{place_in, places_of, starts_of, mini_offsets, lie_below}
use Rattle.carrier_model.proofs.EntryLaws.{same_product}
use Rattle.carrier_model.proofs.MiniLaws.{offsets_inside, mini_within}
use Rattle.cfb_sectors.proofs.claims.view_short.Goals as goal

pub mini_starts-requires-clause-inside : goal.mini_starts-requires-clause-inside
mini_starts-requires-clause-inside c =
    let enough = same_product _ _ _ (length c.args.from.now.stream.items) c.requires.enough (omega arith) in
    let all = offsets_inside c.args.from.now.fat.size c.args.from.now.size (length c.args.from.now.stream.items) (length c.args.from.now.fat.words.items) c.in_ok-taken.taken.chain.items c.in_ok-taken.ensures.below enough in
    rw (c.deref.ensures.value, c.deref-2.ensures.value, c.in_ok-taken.ensures.starts) all

pub new-requires-clause-within : goal.new-requires-clause-within
new-requires-clause-within c =
    let starts : c.in_ok-starts.starts.items ≡ map (place_in c.args.from.now.fat.size (starts_of c.args.from.now.fat.size c.args.from.now.stream.items)) (mini_offsets c.in_ok-taken.taken.chain.items) = c.in_ok-starts.ensures.starts ∙ rw (c.deref.ensures.value, c.deref-2.ensures.value, c.in_ok-taken.ensures.starts) refl in
    let enough = same_product _ _ _ (length c.in_ok-taken.taken.chain.items) c.in_ok-taken.ensures.enough (omega arith) in
    let inside = subst (λ s. lie_below c.args.from.now.size (places_of 64 s c.args.wish.size) ≡ true) c.in_ok-taken.ensures.starts c.in_ok-taken.ensures.within in
    subst (λ s. lie_below (length c.args.bytes.now) (places_of 64 s c.args.wish.size) ≡ true) (sym starts) (mini_within c.args.from.now.fat.size (starts_of c.args.from.now.fat.size c.args.from.now.stream.items) c.in_ok-taken.taken.chain.items (length c.args.bytes.now) c.args.from.now.size c.args.wish.size c.args.from.now.fat.sized enough inside c.requires.within)
