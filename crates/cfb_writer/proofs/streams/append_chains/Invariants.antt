use Rattle.std.proofs.Common.{◌≡◌, ◌+◌, drop}
use Rattle.carrier_model.specs.Layout.{words_bytes, stream_words}
use Rattle.cfb_writer.specs.Shares.{size_of, streams_of, share_total}
use Rattle.cfb_layout.specs.Versions.{sector_of}
use Rattle.cfb_writer.proofs.Going.{Going}
use Rattle.cfb_writer.proofs.streams.append_chains.Given as goal

abbrev pub invariant-loop-k : goal.invariant-loop-k
invariant-loop-k g l =
    Going (g.W.Sink.held l.initial.sink) (g.W.Sink.held l.sink) (g.W.Sink.faults l.initial.sink) (g.W.Sink.faults l.sink) l.sum (words_bytes (stream_words (size_of l.share (sector_of l.version)) l.start (streams_of l.share l.entries.others))) (words_bytes (stream_words (size_of l.share (sector_of l.version)) l.next (streams_of l.share (drop l.k l.entries.others))))
    × (l.next + share_total l.share (sector_of l.version) (drop l.k l.entries.others) ≡ l.start + share_total l.share (sector_of l.version) l.entries.others)
