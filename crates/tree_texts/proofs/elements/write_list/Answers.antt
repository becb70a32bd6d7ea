use Rattle.std.proofs.Common.{[], ◌∷◌, ◌++◌}
use Rattle.carrier_io.proofs.Known.{andthen, failing}
use Rattle.text_model.specs.ValueTexts.{with_commas}
use Rattle.prop_values.specs.Meaning.{value_of}
use Rattle.tree_texts.specs.Elements.{elements_of}
use Rattle.tree_texts.proofs.elements.write_list.Goals as goal

pub returns-in_err-write_pieces : goal.returns-in_err-write_pieces
returns-in_err-write_pieces g c = failing (with_commas (elements_of (value_of g.B.Blob.bytes c.args.value.now)) ++ 0x5D ∷ []) c.from_residual.ensures.0 c.in_err-write_pieces.ensures

pub returns-in_err-write_elements : goal.returns-in_err-write_elements
returns-in_err-write_elements g c = andthen c.in_ok-write_pieces.ensures (failing (0x5D ∷ []) c.from_residual-in_err-write_elements.ensures.0 c.in_err-write_elements.ensures)

pub returns : goal.returns
returns g c = andthen c.in_ok-write_pieces.ensures (andthen c.in_ok-write_elements.ensures c.write_pieces-2.ensures)
