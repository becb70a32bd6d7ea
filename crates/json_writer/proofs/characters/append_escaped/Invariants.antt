use Rattle.std.proofs.Common.{drop}
use Rattle.json.specs.Print.{escape}
use Rattle.json_writer.proofs.Counted.{Partly}
use Rattle.json_writer.proofs.characters.append_escaped.Given as goal

abbrev pub invariant-loop-byte : goal.invariant-loop-byte
invariant-loop-byte g l = Partly (g.W.Sink.held l.initial.sink) (g.W.Sink.held l.sink) (g.W.Sink.faults l.initial.sink) (g.W.Sink.faults l.sink) l.initial.count l.count (escape l.bytes) (escape (drop l.byte-index l.bytes))
