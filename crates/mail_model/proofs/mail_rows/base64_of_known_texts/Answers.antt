use Rattle.std.specs.Prelude.{refl}
use Rattle.mail_model.specs.Base64.{alphabet, base64_text}
use Rattle.mail_model.proofs.mail_rows.base64_of_known_texts.Goals as goal

pub returns-clause-none : goal.returns-clause-none
unfolding alphabet base64_text
returns-clause-none c = refl

pub returns-clause-one : goal.returns-clause-one
unfolding alphabet base64_text
returns-clause-one c = refl

pub returns-clause-two : goal.returns-clause-two
unfolding alphabet base64_text
returns-clause-two c = refl

pub returns-clause-three : goal.returns-clause-three
unfolding alphabet base64_text
returns-clause-three c = refl

pub returns-clause-four : goal.returns-clause-four
unfolding alphabet base64_text
returns-clause-four c = refl

pub returns-clause-five : goal.returns-clause-five
unfolding alphabet base64_text
returns-clause-five c = refl

pub returns-clause-six : goal.returns-clause-six
unfolding alphabet base64_text
returns-clause-six c = refl
