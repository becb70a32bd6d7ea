use Rattle.json_writer.proofs.Counted.{counts_as}
use Rattle.json_writer.proofs.Escapes.{control_text}
use Rattle.json_writer.proofs.characters.append_control.Goals as goal

pub returns : goal.returns
returns g c = counts_as _ (control_text c.args.byte c.lower_digits2.result c.requires.small c.requires.long c.lower_digits2.ensures) c.append.ensures
