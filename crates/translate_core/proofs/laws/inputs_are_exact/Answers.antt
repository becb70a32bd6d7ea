use Rattle.translate_core.proofs.Exact.{exact}
use Rattle.translate_core.proofs.laws.inputs_are_exact.Goals as goal

pub returns : goal.returns
returns c = exact (record { carried = c.envelopes_are_exact.ensures.carried; only = c.envelopes_are_exact.ensures.only })
