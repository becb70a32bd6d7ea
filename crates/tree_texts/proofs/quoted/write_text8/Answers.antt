use Rattle.std.proofs.Common.{[], ◌∷◌, ◌++◌}
use Rattle.std.specs.List.{flat_map}
use Rattle.text_model.specs.ValueTexts.{character_text}
use Rattle.carrier_io.proofs.Known.{andthen, failing}
use Rattle.tree_texts.proofs.quoted.write_text8.Goals as goal

pub returns-in_err-write_pieces : goal.returns-in_err-write_pieces
returns-in_err-write_pieces g c = failing (flat_map character_text (g.B.Blob.bytes c.args.text.now) ++ 0x22 ∷ []) c.from_residual.ensures.0 c.in_err-write_pieces.ensures

pub returns-in_err-write_all_characters : goal.returns-in_err-write_all_characters
returns-in_err-write_all_characters g c = andthen c.in_ok-write_pieces.ensures (failing (0x22 ∷ []) c.from_residual-in_err-write_all_characters.ensures.0 c.in_err-write_all_characters.ensures)

pub returns : goal.returns
returns g c = andthen c.in_ok-write_pieces.ensures (andthen c.in_ok-write_all_characters.ensures c.write_pieces-2.ensures)
