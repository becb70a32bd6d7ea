use Rattle.std.proofs.Common.{rules}
use Rattle.tnef_message.proofs.drafts.Draft.open.Goals as goal

pub returns : goal.returns
returns c = record {
  own = search rules;
  recipients = search rules;
  current = rw c.replace-old.ensures.after (c.new-pending.result, c.new-pending.ensures, c.in_ok-enter.ensures);
  attachments = search rules;
}
