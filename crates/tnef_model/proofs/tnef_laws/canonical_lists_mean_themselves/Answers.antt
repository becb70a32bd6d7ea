use Rattle.std.proofs.Common.{arith}
use Rattle.tnef_model.proofs.CanonicalLists.{list_spells}
use Rattle.tnef_model.proofs.tnef_laws.canonical_lists_mean_themselves.Goals as goal

pub returns : goal.returns
returns c = λ in_attachment names at props few h lt. list_spells in_attachment names at props (omega (arith, few)) h lt
