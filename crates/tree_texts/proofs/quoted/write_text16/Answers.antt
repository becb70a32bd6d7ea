use Rattle.std.proofs.Common.{[], ◌∷◌, ◌++◌}
use Rattle.std.specs.List.{flat_map}
use Rattle.carrier_model.specs.Bytes.{units_of}
use Rattle.carrier_model.specs.KeyTexts.{unit_text}
use Rattle.carrier_io.proofs.Known.{andthen, failing}
use Rattle.tree_texts.proofs.quoted.write_text16.Goals as goal

pub returns-in_err-write_pieces : goal.returns-in_err-write_pieces
returns-in_err-write_pieces g c = failing (flat_map unit_text (units_of (g.B.Blob.bytes c.args.text.now)) ++ 0x22 ∷ []) c.from_residual.ensures.0 c.in_err-write_pieces.ensures

pub returns-in_err-write_units : goal.returns-in_err-write_units
returns-in_err-write_units g c = andthen c.in_ok-write_pieces.ensures (failing (0x22 ∷ []) c.from_residual-in_err-write_units.ensures.0 c.in_err-write_units.ensures)

pub returns : goal.returns
returns g c = andthen c.in_ok-write_pieces.ensures (andthen c.in_ok-write_units.ensures c.write_pieces-2.ensures)
