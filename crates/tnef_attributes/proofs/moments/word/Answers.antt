use Rattle.std.proofs.Common.{◌*◌, refl, ◌∙◌}
use Rattle.tnef_attributes.proofs.Words.{unit_at}
use Rattle.tnef_attributes.proofs.moments.word.Goals as goal

pub returns : goal.returns
returns c = c.u16_at.ensures ∙ unit_at c.args.k (2 * c.args.k) c.args.bytes.now refl c.requires
