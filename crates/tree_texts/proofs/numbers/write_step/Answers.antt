use Rattle.carrier_io.proofs.Known.{andthen}
use Rattle.tree_texts.proofs.numbers.write_step.Goals as goal

pub returns : goal.returns
returns g c = andthen c.in_ok-write_pieces.ensures c.write_decimal.ensures
