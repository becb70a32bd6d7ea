use Rattle.std.proofs.Common.{◌≡◌, ◌+◌, get_or, take, drop, ◌∷◌, ◌++◌, [], sym, ap, ◌∙◌, arith}
use Rattle.std.proofs.lemmas.Grind.{common_steps}
use Rattle.std.proofs.lemmas.List.{take_more, take_more_set, get_or-drop, length-drop}
use Rattle.cfb_sectors.proofs.entry.read_class.Goals as goal

pub loop-i-preserved : goal.loop-i-preserved
loop-i-preserved c =
    let b = c.args.bytes.now in
    let more : take (c.loop-i.i + 1) (drop c.args.at b) ≡ take c.loop-i.i (drop c.args.at b) ++ get_or b (c.args.at + c.loop-i.i) 0 ∷ [] =
    take_more (drop c.args.at b) c.loop-i.i 0 (rw (length-drop c.args.at b) (omega arith)) ∙ ap (λ y. take c.loop-i.i (drop c.args.at b) ++ y ∷ []) (get_or-drop c.args.at b c.loop-i.i 0) in
    record {
      count = grind (arith, common_steps);
      so_far = take_more_set c.loop-i.class c.loop-i.i (get_or b (c.args.at + c.loop-i.i) 0) (omega arith) ∙ (rw c.loop-i.invariant.so_far (sym more));
    }
