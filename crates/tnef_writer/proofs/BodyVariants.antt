-- What an attachment holds, by the variant of its body.
use Rattle.std.proofs.Common.{◌≡◌, ◌∙◌, ap, ℕ, List}
use Rattle.std.specs.declared.boxed.Box.{Box}
use Rattle.std.specs.declared.alloc.Global.{Global}
use Rattle.carrier_model.specs.Tree as plain
use Rattle.msg_tree.specs.Meaning.{tree_of, attached_of, body_of, body_step, attached_step, list_step, message_step}
use Rattle.msg_tree.specs.StoreMeaning.{store_of}
use Rattle.msg_tree.specs.declared.messages.Attachment.{Attachment, out-Attachment}
use Rattle.msg_tree.specs.declared.messages.Body as held
use Rattle.msg_tree.specs.declared.messages.Body.{Body, fold_out-Body}
use Rattle.msg_tree.specs.declared.messages.Message.{Message}
use Rattle.msg_tree.specs.declared.stores.Store.{Store}
use Rattle.msg_tree.proofs.Unrolled.{attached_out}

module _ {B : Type 0} (bytes_of : B → List ℕ) where
  store_made : (s : Store B) → body_of bytes_of (held.Store s) ≡ plain.stored (store_of bytes_of s)
  unfolding held.out-Body denote.Hole.Carrier.out
  store_made s = fold_out-Body B plain.Body plain.Attached (List plain.Attached) plain.Message (body_step bytes_of) (attached_step bytes_of) (list_step bytes_of) (message_step bytes_of) (held.Store s)

  message_made : (b : Box (Message B) Global) → body_of bytes_of (held.Message b) ≡ plain.embedded (tree_of bytes_of b.value)
  unfolding held.out-Body denote.Hole.Carrier.out
  message_made b = fold_out-Body B plain.Body plain.Attached (List plain.Attached) plain.Message (body_step bytes_of) (attached_step bytes_of) (list_step bytes_of) (message_step bytes_of) (held.Message b)

  plain_made : body_of bytes_of held.Plain ≡ plain.nothing
  unfolding held.out-Body denote.Hole.Carrier.out
  plain_made = fold_out-Body B plain.Body plain.Attached (List plain.Attached) plain.Message (body_step bytes_of) (attached_step bytes_of) (list_step bytes_of) (message_step bytes_of) held.Plain

module _ {B : Type 0} (bytes_of : B → List ℕ) (a : Attachment B) where
  pub body_out : (b : Body B) → (out-Attachment B a).body ≡ b → (attached_of bytes_of a).1 ≡ body_of bytes_of b
  body_out b e = ap (λ x. x.1) (attached_out bytes_of a) ∙ ap (body_of bytes_of) e

  pub plain_body : (out-Attachment B a).body ≡ held.Plain → (attached_of bytes_of a).1 ≡ plain.nothing
  plain_body e = body_out held.Plain e ∙ plain_made bytes_of

  pub message_body : (b : Box (Message B) Global) → (out-Attachment B a).body ≡ held.Message b → (attached_of bytes_of a).1 ≡ plain.embedded (tree_of bytes_of b.value)
  message_body b e = body_out (held.Message b) e ∙ message_made bytes_of b

  pub store_body : (s : Store B) → (out-Attachment B a).body ≡ held.Store s → (attached_of bytes_of a).1 ≡ plain.stored (store_of bytes_of s)
  store_body s e = body_out (held.Store s) e ∙ store_made bytes_of s
