-- The messages and the stores of a message as lists, attachment by attachment.
use Rattle.std.proofs.Common.{◌≡◌, ◌∙◌, ap, refl, ℕ, ◌+◌, List, [], ◌∷◌, ◌++◌, take, drop, Some}
use Rattle.std.specs.List.{flat_map}
use Rattle.std.specs.Prelude.{slice_get}
use Rattle.std.proofs.lemmas.List.{append-nil}
use Rattle.std.proofs.lemmas.Grind.{flat_map-append}
use Rattle.carrier_model.specs.Tree.{Attached, attachments_from, messages_in, messages_at}
use Rattle.carrier_model.proofs.Messages.{messages_listed, taken_at}
use Rattle.msg_tree.specs.Meaning.{tree_of, list_of}
use Rattle.msg_tree.specs.declared.messages.Message.{Message, out-Message}
use Rattle.msg_tree.proofs.Unrolled.{messages_out, tree_out}
use Rattle.tnef_writer.specs.TreeStores.{stores_in, stores_below, stores_at}

pub stores_listed : (xs : List Attached) → stores_below (attachments_from xs) ≡ flat_map stores_at xs
stores_listed [] = refl
stores_listed (x ∷ xs) = ap (λ z. stores_at x ++ z) (stores_listed xs)

-- the stores of a message, and it with the messages in it, by its attachments
module _ {B : Type 0} (bytes_of : B → List ℕ) (m : Message B) where
  pub stores_split : stores_in (tree_of bytes_of m) ≡ flat_map stores_at (list_of bytes_of (out-Message B m).attachments)
  stores_split = ap stores_in (tree_out bytes_of m) ∙ stores_listed (list_of bytes_of (out-Message B m).attachments)

  pub messages_split : messages_in (tree_of bytes_of m) ≡ tree_of bytes_of m ∷ flat_map messages_at (list_of bytes_of (out-Message B m).attachments)
  messages_split = messages_out bytes_of m ∙ ap (λ z. tree_of bytes_of m ∷ z) (messages_listed (list_of bytes_of (out-Message B m).attachments))
