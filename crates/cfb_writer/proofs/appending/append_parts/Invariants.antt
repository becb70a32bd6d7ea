use Rattle.std.proofs.Common.{drop}
use Rattle.carrier_io.specs.Known.{joined}
use Rattle.cfb_writer.proofs.Going.{Going}
use Rattle.cfb_writer.proofs.appending.append_parts.Given as goal

abbrev pub invariant-loop-part : goal.invariant-loop-part
invariant-loop-part g l = Going (g.W.Sink.held l.initial.sink) (g.W.Sink.held l.sink) (g.W.Sink.faults l.initial.sink) (g.W.Sink.faults l.sink) l.sum (joined l.parts) (joined (drop l.part-index l.parts))
