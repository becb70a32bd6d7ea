use Rattle.text_model.proofs.text_rows.texts_of_one_property.Goals as goal
use Rattle.std.specs.Prelude.{refl}
use Rattle.std.specs.Fmt.{digits}

pub returns-clause-show : goal.returns-clause-show
unfolding digits
returns-clause-show c = refl

pub returns-clause-check : goal.returns-clause-check
unfolding digits
returns-clause-check c = refl
