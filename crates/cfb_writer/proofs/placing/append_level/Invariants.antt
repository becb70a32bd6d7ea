use Rattle.std.proofs.Common.{◌+◌, ◌*◌, ◌∷◌, [], length}
use Rattle.cfb_writer.specs.Levels.{Proceeds, entries_left}
use Rattle.cfb_writer.proofs.placing.append_level.Given as goal

abbrev pub invariant-loop-level : goal.invariant-loop-level
invariant-loop-level g l = Proceeds l.list l.fn.places.items l.places.items (l.fn.level ∷ []) l.stack.items

abbrev pub decreases-loop-level : goal.decreases-loop-level
decreases-loop-level g l = 2 * entries_left l.list l.stack.items + length l.stack.items
