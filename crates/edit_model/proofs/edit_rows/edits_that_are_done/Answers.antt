use Rattle.edit_model.proofs.edit_rows.edits_that_are_done.Goals as goal
use Rattle.std.specs.Prelude.{refl}
use Rattle.std.specs.Str.{chars}

pub returns-clause-number : goal.returns-clause-number
unfolding chars
returns-clause-number c = refl

pub returns-clause-added : goal.returns-clause-added
unfolding chars
returns-clause-added c = refl
