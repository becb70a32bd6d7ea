use Rattle.std.proofs.Common.{◌≡◌, ◌-◌, length, take, drop, take_all, length-drop, arith}
use Rattle.tree_text8.proofs.Runs.{one_front}
use Rattle.tree_text8.proofs.singles.wide_singles.Goals as goal

pub loop-at-preserved : goal.loop-at-preserved
loop-at-preserved c =
    let bytes = c.args.bytes.now in
    let rest : take (length bytes - c.loop-at.at) (drop c.loop-at.at bytes) ≡ drop c.loop-at.at bytes = take_all _ _ (omega (arith, length-drop c.loop-at.at bytes)) in
    let some = rw (c.in-Some.is, rest) at c.in_ok-run.ensures.some in
    let next = one_front c.args.page bytes c.loop-at.wide.items c.push_front.new.wide.items c.loop-at.at c.in-Some.run' c.loop-at.invariant.in_range c.loop-at.invariant.bad c.loop-at.invariant.wide some.1 some.2 in
    record { in_range = next.in_range; bad = next.bad; wide = next.wide }
