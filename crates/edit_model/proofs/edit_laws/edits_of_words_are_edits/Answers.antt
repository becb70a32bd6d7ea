use Rattle.edit_model.proofs.WordsFit.{words_fit}
use Rattle.edit_model.proofs.edit_laws.edits_of_words_are_edits.Goals as goal

pub returns : goal.returns
returns c = words_fit
