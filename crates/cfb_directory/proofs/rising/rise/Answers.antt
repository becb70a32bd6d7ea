use Rattle.std.proofs.Common.{map, arith}
use Rattle.std.proofs.lemmas.List.{length-map}
use Rattle.std.proofs.Common.{sym, ◌∙◌}
use Rattle.carrier_model.specs.Files.{folded}
use Rattle.cfb_directory.specs.Spelled.{names_in}
use Rattle.cfb_directory.proofs.RisingLaws.{rise_more, next_rises}
use Rattle.cfb_directory.proofs.rising.rise.Goals as goal

pub loop-k-init : goal.loop-k-init
loop-k-init c = λ i j lt below. absurd (omega (arith, lt, below))

pub loop-k-preserved : goal.loop-k-preserved
loop-k-preserved c =
    let names = names_in c.args.names.now in
    let next = next_rises names c.loop-k.k _ _ _ c.loop-k.auto.k (omega (arith, c.loop-k-test.true, c.len-k-end.ensures)) c.get.ensures c.get-in-loop-k.ensures c.names_order.ensures (sym c.is_lt.ensures ∙ c.if-not-is_lt.false) in
    rise_more (map folded names) c.loop-k.k c.loop-k.auto.k c.loop-k.invariant next

pub returns : goal.returns
returns c = λ i j lt below.
    let inside = rw (length-map (names_in c.args.names.now) folded) at below in
    c.loop-k.invariant i j lt (omega (arith, inside, c.loop-k-test.false, c.len-k-end.ensures))
