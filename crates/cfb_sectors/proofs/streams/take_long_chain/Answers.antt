use Rattle.std.proofs.Common.{◌≡◌, true, false, length, sym, ◌∙◌, ap, arith}
use Rattle.std.proofs.lemmas.Grind.{common_steps}
use Rattle.std.specs.Int.{div_ceil}
use Rattle.carrier_model.specs.Streams.{places_of, lie_below, starts_of}
use Rattle.cfb_sectors.specs.Views.{table}
use Rattle.cfb_sectors.proofs.StreamLaws.{long_past, long_ok}
use Rattle.cfb_sectors.proofs.streams.take_long_chain.Goals as goal

pub returns-then-not-lie_below-clause-answer : goal.returns-then-not-lie_below-clause-answer
returns-then-not-lie_below-clause-answer c = λ e h.
    let starts : c.in_ok-starts.starts.items ≡ starts_of c.args.fat.now.size c.in_ok-chain.chain.items = c.in_ok-starts.ensures.starts ∙ ap (starts_of c.args.fat.now.size) c.deref.ensures.value in
    let test : lie_below (length c.args.bytes.now) (places_of c.args.fat.now.size c.in_ok-starts.starts.items c.args.wish.size) ≡ false = ap (λ s. lie_below (length c.args.bytes.now) (places_of c.args.fat.now.size s c.args.wish.size)) (sym c.deref-2.ensures.value) ∙ (sym c.lie_below.ensures ∙ c.if-not-lie_below.true) in
    rw c.fault.ensures (long_past c.args.fat.now.size c.args.bytes.now (table c.args.fat.now) c.args.wish.start c.args.wish.size c.args.wish.entry e c.in_ok-chain.chain.items c.in_ok-starts.starts.items _ _ (grind (arith, common_steps)) (c.div_ceil.ensures ∙ ap (div_ceil c.args.wish.size) c.from.ensures) starts (c.in_ok-chain.ensures.answer e h) test)

pub returns-clause-answer : goal.returns-clause-answer
returns-clause-answer c = λ e h.
    let starts : c.in_ok-starts.starts.items ≡ starts_of c.args.fat.now.size c.in_ok-chain.chain.items = c.in_ok-starts.ensures.starts ∙ ap (starts_of c.args.fat.now.size) c.deref.ensures.value in
    let test : lie_below (length c.args.bytes.now) (places_of c.args.fat.now.size c.in_ok-starts.starts.items c.args.wish.size) ≡ true = ap (λ s. lie_below (length c.args.bytes.now) (places_of c.args.fat.now.size s c.args.wish.size)) (sym c.deref-2.ensures.value) ∙ (sym c.lie_below.ensures ∙ c.if-not-lie_below.false) in
    long_ok c.args.fat.now.size c.args.bytes.now (table c.args.fat.now) c.args.wish.start c.args.wish.size c.args.wish.entry e c.in_ok-chain.chain.items c.in_ok-starts.starts.items _ _ (grind (arith, common_steps)) (c.div_ceil.ensures ∙ ap (div_ceil c.args.wish.size) c.from.ensures) starts (c.in_ok-chain.ensures.answer e h) test
