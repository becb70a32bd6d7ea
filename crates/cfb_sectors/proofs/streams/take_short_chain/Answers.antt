use Rattle.std.proofs.Common.{◌≡◌, true, false, sym, ◌∙◌, ap}
use Rattle.std.specs.Int.{div_ceil}
use Rattle.carrier_model.specs.Streams.{places_of, lie_below, mini_offsets}
use Rattle.cfb_sectors.specs.Views.{mini_seen}
use Rattle.cfb_sectors.proofs.StreamLaws.{short_past, short_ok}
use Rattle.cfb_sectors.proofs.streams.take_short_chain.Goals as goal

pub returns-then-not-lie_below-clause-answer : goal.returns-then-not-lie_below-clause-answer
returns-then-not-lie_below-clause-answer c = λ e h.
    let starts : c.in_ok-starts.starts.items ≡ mini_offsets c.in_ok-chain.chain.items = c.in_ok-starts.ensures.starts ∙ ap (mini_offsets) c.deref.ensures.value in
    let test : lie_below c.args.from.now.size (places_of 64 c.in_ok-starts.starts.items c.args.wish.size) ≡ false = ap (λ s. lie_below c.args.from.now.size (places_of 64 s c.args.wish.size)) (sym c.deref-2.ensures.value) ∙ (sym c.lie_below.ensures ∙ c.if-not-lie_below.true) in
    rw c.fault.ensures (short_past c.args.from.now.fat.size (mini_seen c.args.from.now) c.args.wish.start c.args.wish.size c.args.wish.entry e c.in_ok-chain.chain.items c.in_ok-starts.starts.items _ _ (c.len-bound.ensures ∙ c.requires.marks) c.div_ceil.ensures starts (c.in_ok-chain.ensures.answer e h) test)

pub returns-clause-answer : goal.returns-clause-answer
returns-clause-answer c = λ e h.
    let starts : c.in_ok-starts.starts.items ≡ mini_offsets c.in_ok-chain.chain.items = c.in_ok-starts.ensures.starts ∙ ap (mini_offsets) c.deref.ensures.value in
    let test : lie_below c.args.from.now.size (places_of 64 c.in_ok-starts.starts.items c.args.wish.size) ≡ true = ap (λ s. lie_below c.args.from.now.size (places_of 64 s c.args.wish.size)) (sym c.deref-2.ensures.value) ∙ (sym c.lie_below.ensures ∙ c.if-not-lie_below.false) in
    short_ok c.args.from.now.fat.size (mini_seen c.args.from.now) c.args.wish.start c.args.wish.size c.args.wish.entry e c.in_ok-chain.chain.items c.in_ok-starts.starts.items _ _ (c.len-bound.ensures ∙ c.requires.marks) c.div_ceil.ensures starts (c.in_ok-chain.ensures.answer e h) test
