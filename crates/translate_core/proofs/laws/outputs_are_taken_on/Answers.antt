use Rattle.translate_core.proofs.TakenOn.{stream_taken_on, mail_taken_on}
use Rattle.translate_core.proofs.laws.outputs_are_taken_on.Goals as goal

pub returns-clause-streams : goal.returns-clause-streams
returns-clause-streams c = stream_taken_on

pub returns-clause-mails : goal.returns-clause-mails
returns-clause-mails c = mail_taken_on (record { carried = c.envelopes_are_exact.ensures.carried; only = c.envelopes_are_exact.ensures.only })
