-- What a check tells.
use Rattle.std.specs.Prelude.{ℕ, List}
use Rattle.carrier_io.specs.declared.blob.Blob.{Ghosts}
use Rattle.text_model.specs.TreeTexts.{check_text}
use Rattle.msg_tree.specs.Whole.{plain_of}
use Rattle.tree_texts.specs.Carriers.{carrier_of}
use Rattle.tree_texts.specs.declared.check.CheckText.{CheckText}

abbrev pub text_of : {B : Type 0} {blob : Ghosts B} → CheckText B blob → List ℕ
text_of c = check_text (carrier_of c.carrier) (plain_of c.tree.now) c.passed.now
