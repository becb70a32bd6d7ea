use Rattle.std.proofs.Common.{◌≡◌, ◌+◌, drop}
use Rattle.carrier_model.specs.Layout.{slots_bytes}
use Rattle.cfb_writer.specs.Shares.{share_total}
use Rattle.cfb_layout.specs.Versions.{sector_of}
use Rattle.cfb_writer.specs.declared.streams.Share.TheVariants.{Short, Long}
use Rattle.cfb_writer.proofs.Going.{Going}
use Rattle.cfb_writer.proofs.directory.append_entries.Given as goal

abbrev pub invariant-loop-k : goal.invariant-loop-k
invariant-loop-k g l =
    Going (g.W.Sink.held l.initial.sink) (g.W.Sink.held l.sink) (g.W.Sink.faults l.initial.sink) (g.W.Sink.faults l.sink) l.sum (slots_bytes (sector_of l.version) l.fn.first.mini l.fn.first.long l.entries.others) (slots_bytes (sector_of l.version) l.next.mini l.next.long (drop l.k l.entries.others))
    × (l.next.mini + share_total Short 64 (drop l.k l.entries.others) ≡ l.fn.first.mini + share_total Short 64 l.entries.others)
    × (l.next.long + share_total Long (sector_of l.version) (drop l.k l.entries.others) ≡ l.fn.first.long + share_total Long (sector_of l.version) l.entries.others)
