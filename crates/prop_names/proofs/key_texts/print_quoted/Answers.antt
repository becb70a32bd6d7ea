use Rattle.std.proofs.Common.{[], ◌∷◌}
use Rattle.carrier_io.proofs.Known.{andthen, failing}
use Rattle.prop_names.proofs.key_texts.print_quoted.Goals as goal

pub returns-in_err-print_units : goal.returns-in_err-print_units
returns-in_err-print_units g c = andthen c.in_ok-write_pieces.ensures (failing (0x22 ∷ []) c.from_residual-in_err-print_units.ensures.0 (rw c.as_slice.ensures at c.in_err-print_units.ensures))

pub returns : goal.returns
returns g c = andthen c.in_ok-write_pieces.ensures (andthen (rw c.as_slice.ensures at c.in_ok-print_units.ensures) c.write_pieces-2.ensures)
