use Rattle.std.proofs.Common.{◌≡◌, ◌-◌, vec_len}
use Rattle.std.specs.Prelude.{length}
use Rattle.cfb_writer.specs.Totals.{AreKnown}
use Rattle.cfb_list.specs.Trees.{inside}
use Rattle.cfb_layout.specs.Versions.{sector_of}
use Rattle.cfb_writer.proofs.totals.all_totals.Given as goal

abbrev pub invariant-loop-done : goal.invariant-loop-done
invariant-loop-done g l = (vec_len l.totals ≡ length l.list.storages) × AreKnown (sector_of l.version) (inside l.list.storages) (length l.list.storages - l.done) l.totals.items
