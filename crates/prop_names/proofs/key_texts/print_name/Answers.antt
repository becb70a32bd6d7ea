use Rattle.std.proofs.Common.{◌∷◌}
use Rattle.carrier_model.specs.KeyTexts.{label_text}
use Rattle.carrier_io.proofs.Known.{andthen, failing}
use Rattle.prop_names.specs.Meaning.{name_of}
use Rattle.prop_names.proofs.key_texts.print_name.Goals as goal

pub returns-in_err-print_set : goal.returns-in_err-print_set
returns-in_err-print_set g c = failing (0x2F ∷ label_text (name_of c.args.name.now)) c.from_residual.ensures.0 (rw c.set.ensures at c.in_err-print_set.ensures)

pub returns-in_err-write_pieces : goal.returns-in_err-write_pieces
returns-in_err-write_pieces g c = andthen (rw c.set.ensures at c.in_ok-print_set.ensures) (failing (label_text (name_of c.args.name.now)) c.from_residual-in_err-write_pieces.ensures.0 c.in_err-write_pieces.ensures)

pub returns : goal.returns
returns g c = andthen (rw c.set.ensures at c.in_ok-print_set.ensures) (andthen c.in_ok-write_pieces.ensures c.print_label.ensures)
