-- The plain tree that a tree of bounded depth keeps.
use Rattle.carrier_io.specs.declared.blob.Blob.{Ghosts}
use Rattle.carrier_model.specs.Meanings.{Meaning}
use Rattle.carrier_model.specs.Tree as plain
use Rattle.msg_tree.specs.Meaning.{tree_of}
use Rattle.msg_tree.specs.declared.bounded.Accepted.{Accepted}
use Rattle.msg_tree.specs.declared.bounded.Tree.{Tree}

abbrev pub plain_of : {B : Type 0} {blob : Ghosts B} → Tree B blob → plain.Message
plain_of {B} {blob} tree = tree_of blob.bytes tree.message

-- what a reader accepted: the tree, and what was passed over
abbrev pub meaning_in : {B : Type 0} {blob : Ghosts B} → Accepted B blob → Meaning
meaning_in accepted = record { message = plain_of accepted.tree; passed = accepted.passed }
