use Rattle.mime_envelope.proofs.Searched.{found, not_found}
use Rattle.mime_envelope.proofs.text.find.Goals as goal

pub returns-in-Some-clause-value : goal.returns-in-Some-clause-value
returns-in-Some-clause-value c = found c.args.byte c.in-Some.at c.args.bytes.now (rw c.in-Some.is at c.memchr.ensures)

pub returns-in-None-clause-value : goal.returns-in-None-clause-value
returns-in-None-clause-value c = not_found c.args.byte c.args.bytes.now (rw c.in-None.is at c.memchr.ensures)
