use Rattle.std.specs.Fmt.{digits}
use Rattle.std.specs.Prelude.{refl}
use Rattle.text8_model.proofs.text_rows.the_first_unmapped.Goals as goal

pub returns-clause-byte : goal.returns-clause-byte
unfolding digits
returns-clause-byte c = refl

pub returns-clause-page : goal.returns-clause-page
unfolding digits
returns-clause-page c = refl

pub returns-clause-element : goal.returns-clause-element
unfolding digits
returns-clause-element c = refl
