use Rattle.std.proofs.Common.{◌≡◌, take}
use Rattle.std.specs.List.{flat_map}
use Rattle.cfb_list.specs.Contents.{file_children}
use Rattle.cfb_list.specs.Listed.{built}
use Rattle.cfb_list.specs.Trees.{inside}
use Rattle.cfb_writer.specs.Totals.{totals_of}
use Rattle.cfb_layout.specs.Versions.{sector_of}
use Rattle.cfb_writer.proofs.totals.family_totals.Given as goal

abbrev pub invariant-loop-file : goal.invariant-loop-file
invariant-loop-file g l = l.sum ≡ totals_of (sector_of l.version) (built (inside l.list.storages) (flat_map (file_children g.B.Blob.bytes) (take l.file-index l.file-items)))
