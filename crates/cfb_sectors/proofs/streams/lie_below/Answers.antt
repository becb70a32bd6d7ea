use Rattle.std.proofs.Common.{◌≡◌, true, arith, sym, length, min, ◌*◌}
use Rattle.std.proofs.lemmas.Bool.{false_from_ne_true}
use Rattle.carrier_model.proofs.PlaceLaws.{past_end, places-to, places-from}
use Rattle.cfb_sectors.proofs.streams.lie_below.Goals as goal

pub returns-then-start-piece : goal.returns-then-start-piece
returns-then-start-piece c =
    sym (false_from_ne_true _ (λ all. past_end c.args.each c.args.starts.now c.loop-start.start-index c.min-piece.result c.args.limit c.args.size c.loop-start.done c.requires.piece c.loop-start.invariant.so_far c.min-piece.ensures c.if-piece-gt0.true c.if-start-piece.true (places-to c.args.each c.args.starts.now c.args.limit c.args.size all)))

pub returns : goal.returns
returns c =
    let all : c.loop-start.start-index ≡ length c.args.starts.now = omega arith in
    let done : c.loop-start.done ≡ min c.args.size (c.args.each * length c.args.starts.now) = rw (← all) c.loop-start.invariant.so_far in
    sym (places-from c.args.each c.args.starts.now c.args.limit c.args.size (λ k below. c.loop-start.invariant.within k (omega arith)))
