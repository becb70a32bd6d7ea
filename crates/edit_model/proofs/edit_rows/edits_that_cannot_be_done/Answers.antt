use Rattle.edit_model.proofs.edit_rows.edits_that_cannot_be_done.Goals as goal
use Rattle.std.specs.Prelude.{refl}
use Rattle.std.specs.Fmt.{digits}

pub returns-clause-text : goal.returns-clause-text
unfolding digits
returns-clause-text c = refl
