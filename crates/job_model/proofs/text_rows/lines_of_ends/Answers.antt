use Rattle.job_model.proofs.text_rows.lines_of_ends.Goals as goal
use Rattle.std.specs.Prelude.{refl}
use Rattle.std.specs.Fmt.{digits}

pub returns-clause-refused : goal.returns-clause-refused
unfolding digits
returns-clause-refused c = refl

pub returns-clause-unfit : goal.returns-clause-unfit
unfolding digits
returns-clause-unfit c = refl

pub returns-clause-byte : goal.returns-clause-byte
unfolding digits
returns-clause-byte c = refl

pub returns-clause-place : goal.returns-clause-place
unfolding digits
returns-clause-place c = refl

pub returns-clause-path : goal.returns-clause-path
unfolding digits
returns-clause-path c = refl
