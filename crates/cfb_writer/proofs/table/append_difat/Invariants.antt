use Rattle.std.proofs.Common.{◌-◌}
use Rattle.std.specs.List.{flat_map, range_with_len}
use Rattle.carrier_model.specs.Layout.{words_bytes, difat_words, difat_bytes}
use Rattle.cfb_layout.specs.Counts.{plan_seen}
use Rattle.cfb_layout.specs.Versions.{sector_of}
use Rattle.cfb_writer.proofs.Going.{Going}
use Rattle.cfb_writer.proofs.table.append_difat.Given as goal

abbrev pub invariant-loop-k : goal.invariant-loop-k
invariant-loop-k g l = Going (g.W.Sink.held l.initial.sink) (g.W.Sink.held l.sink) (g.W.Sink.faults l.initial.sink) (g.W.Sink.faults l.sink) l.sum (difat_bytes (sector_of l.version) (plan_seen l.numbers)) (flat_map (λ k. words_bytes (difat_words (sector_of l.version) (plan_seen l.numbers) k)) (range_with_len l.k (l.numbers.difat - l.k)))
