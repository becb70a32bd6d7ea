use Rattle.translate_core.proofs.Carrying.{equal}
use Rattle.translate_core.proofs.laws.equal_outputs_are_of_one_message.Goals as goal

pub returns : goal.returns
returns c = equal (record { carried = c.envelopes_are_exact.ensures.carried; only = c.envelopes_are_exact.ensures.only })
