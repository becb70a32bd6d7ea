use Rattle.std.proofs.Common.{◌≤◌, length}
use Rattle.mail_model.specs.EnvelopeText.{body_lines}
use Rattle.carrier_io.proofs.Known.{Written}
use Rattle.mime_envelope.proofs.writing.write_body.Given as goal

abbrev pub invariant-loop-rest : goal.invariant-loop-rest
invariant-loop-rest g l = record {
  written : Written (g.W.Sink.held l.initial.sink) (g.W.Sink.held l.sink) (body_lines l.bytes) (body_lines l.rest);
  later : g.W.Sink.faults l.initial.sink ≤ g.W.Sink.faults l.sink;
}

abbrev pub decreases-loop-rest : goal.decreases-loop-rest
decreases-loop-rest g l = length l.rest
