use Rattle.translate_core.proofs.Carrying.{carries}
use Rattle.translate_core.proofs.laws.outputs_carry_their_message.Goals as goal

pub returns : goal.returns
returns c = carries (record { carried = c.envelopes_are_exact.ensures.carried; only = c.envelopes_are_exact.ensures.only })
