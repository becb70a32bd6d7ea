use Rattle.std.proofs.Common.{[], ◌∷◌, append_assoc}
use Rattle.std.specs.Prelude.{decimal}
use Rattle.carrier_io.proofs.Known.{andthen, failing}
use Rattle.tree_texts.proofs.Partly.{writes_as}
use Rattle.tree_texts.proofs.lines.write_counted.Goals as goal

pub returns-in_err-write_parts : goal.returns-in_err-write_parts
returns-in_err-write_parts g c = writes_as _ (append_assoc c.args.word.now (0x20 ∷ []) (decimal c.args.n)) (failing (decimal c.args.n) c.from_residual.ensures.0 c.in_err-write_parts.ensures)

pub returns : goal.returns
returns g c = writes_as _ (append_assoc c.args.word.now (0x20 ∷ []) (decimal c.args.n)) (andthen c.in_ok-write_parts.ensures c.write_decimal.ensures)
