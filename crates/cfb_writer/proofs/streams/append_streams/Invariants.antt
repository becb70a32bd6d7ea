use Rattle.std.proofs.Common.{◌≡◌, drop}
use Rattle.std.specs.List.{flat_map}
use Rattle.carrier_model.specs.Layout.{filled}
use Rattle.cfb_writer.specs.Shares.{size_of, streams_of, share_total}
use Rattle.cfb_layout.specs.Versions.{sector_of}
use Rattle.cfb_writer.proofs.Going.{Going}
use Rattle.cfb_writer.proofs.streams.append_streams.Given as goal

abbrev pub invariant-loop-k : goal.invariant-loop-k
invariant-loop-k g l =
    Going (g.W.Sink.held l.initial.sink) (g.W.Sink.held l.sink) (g.W.Sink.faults l.initial.sink) (g.W.Sink.faults l.sink) l.sum (flat_map (filled (size_of l.share (sector_of l.version))) (streams_of l.share l.entries.others)) (flat_map (filled (size_of l.share (sector_of l.version))) (streams_of l.share (drop l.k l.entries.others)))
    × (l.left ≡ share_total l.share (sector_of l.version) (drop l.k l.entries.others))
