use Rattle.mime_envelope.proofs.Texts.{mark_is}
use Rattle.mime_envelope.proofs.text.is_mark.Goals as goal

pub returns : goal.returns
returns c = mark_is c.args.mark.now c.args.line.now c.without_end-line.result.now c.split_at.result.1.now c.count_blanks.result c.without_end-line.ensures c.if-not-starts_with.ensures.value c.split_at.ensures.back c.count_blanks.ensures.value
