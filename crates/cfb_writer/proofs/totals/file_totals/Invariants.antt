use Rattle.std.proofs.Common.{◌≡◌, ◌+◌, ℕ, length, take}
use Rattle.std.specs.List.{AllByRecursion}
use Rattle.carrier_model.specs.FileTrees.{FileTree}
use Rattle.cfb_list.specs.Contents.{file_children}
use Rattle.cfb_list.specs.Listed.{IsChild, built}
use Rattle.cfb_writer.specs.Totals.{AreKnown, totals_of}
use Rattle.cfb_layout.specs.Versions.{sector_of}
use Rattle.cfb_writer.proofs.totals.file_totals.Given as goal

abbrev pub invariant-loop-number : goal.invariant-loop-number
invariant-loop-number g l = (parent : ℕ) (tree : ℕ → FileTree) → AllByRecursion (IsChild parent (length l.totals)) (file_children g.B.Blob.bytes l.file) → AreKnown (sector_of l.version) tree (parent + 1) l.totals → l.sum ≡ totals_of (sector_of l.version) (built tree (take l.number (file_children g.B.Blob.bytes l.file)))
