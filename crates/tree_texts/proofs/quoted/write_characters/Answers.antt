use Rattle.text_model.specs.ValueTexts.{character_text}
use Rattle.tree_texts.proofs.Lists.{next_item}
use Rattle.tree_texts.proofs.Partly.{partly_more, partly_stops}
use Rattle.tree_texts.proofs.quoted.write_characters.Goals as goal

pub returns-in_err-write_character : goal.returns-in_err-write_character
returns-in_err-write_character g c = partly_stops _ _ (next_item character_text c.args.bytes.now c.loop-byte.byte-index _ c.loop-byte-test.true) c.from_residual.ensures.0 c.loop-byte.invariant c.in_err-write_character.ensures

pub loop-byte-preserved : goal.loop-byte-preserved
loop-byte-preserved g c = partly_more _ _ (next_item character_text c.args.bytes.now c.loop-byte.byte-index _ c.loop-byte-test.true) c.loop-byte.invariant c.in_ok-write_character.ensures
