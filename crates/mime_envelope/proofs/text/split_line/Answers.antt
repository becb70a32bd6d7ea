use Rattle.mail_model.proofs.Lines.{lines-split}
use Rattle.mime_envelope.proofs.text.split_line.Goals as goal

pub returns-clause-lines : goal.returns-clause-lines
returns-clause-lines c = lines-split c.args.bytes.now c.split_at.result.0.now c.split_at.result.1.now c.min-size.result c.requires (rw c.find.ensures.value at c.min-size.ensures) c.split_at.ensures.front c.split_at.ensures.back
