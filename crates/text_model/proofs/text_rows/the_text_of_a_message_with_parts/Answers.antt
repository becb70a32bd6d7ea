use Rattle.text_model.proofs.text_rows.the_text_of_a_message_with_parts.Goals as goal
use Rattle.std.specs.Prelude.{refl}
use Rattle.std.specs.Fmt.{digits}

pub returns : goal.returns
unfolding digits
returns c = refl
