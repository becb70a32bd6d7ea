-- What an attachment and a store hold, by how it was made.
use Rattle.std.proofs.Common.{◌≡◌, ◌∙◌, ap, sym, ℕ, List}
use Rattle.std.specs.declared.alloc.Global.{Global}
use Rattle.std.specs.declared.boxed.Box.{Box}
use Rattle.carrier_model.specs.Tree as plain
use Rattle.carrier_model.specs.Tree.{nothing, embedded, stored}
use Rattle.msg_tree.specs.Meaning.{body_step, attached_step, list_step, message_step, tree_of, body_of}
use Rattle.carrier_model.specs.FileTrees as files
use Rattle.carrier_model.specs.FileTrees.{bytes_at, store_at}
use Rattle.msg_tree.specs.StoreMeaning.{store_of, member_of, member_step, entry_step, store_step}
use Rattle.msg_tree.specs.declared.stores.Member.{fold-roll-Member}
use Rattle.msg_tree.specs.declared.stores.Member.TheVariants as member
use Rattle.msg_tree.specs.declared.messages.Message.{Message as Kept}
use Rattle.msg_tree.specs.declared.messages.Body.{fold-roll-Body}
use Rattle.msg_tree.specs.declared.messages.Body.TheVariants as body
use Rattle.msg_tree.specs.declared.stores.Store.{Store as KeptStore}

module _ {B : Type 0} (bytes_of : B → List ℕ) where
  pub plain_made : body_of bytes_of body.Plain ≡ nothing
  plain_made = ap (body_of bytes_of) (sym body.rolls-Plain) ∙ fold-roll-Body B plain.Body plain.Attached (List plain.Attached) plain.Message (body_step bytes_of) (attached_step bytes_of) (list_step bytes_of) (message_step bytes_of) _

  pub message_made : (inner : Box (Kept B) Global) → body_of bytes_of (body.Message inner) ≡ embedded (tree_of bytes_of inner.value)
  message_made inner = ap (body_of bytes_of) (sym (body.rolls-Message inner)) ∙ fold-roll-Body B plain.Body plain.Attached (List plain.Attached) plain.Message (body_step bytes_of) (attached_step bytes_of) (list_step bytes_of) (message_step bytes_of) _

  pub store_made : (store : KeptStore B) → body_of bytes_of (body.Store store) ≡ stored (store_of bytes_of store)
  store_made store = ap (body_of bytes_of) (sym (body.rolls-Store store)) ∙ fold-roll-Body B plain.Body plain.Attached (List plain.Attached) plain.Message (body_step bytes_of) (attached_step bytes_of) (list_step bytes_of) (message_step bytes_of) _

  pub stream_made : (x : B) → member_of bytes_of (member.Stream x) ≡ bytes_at (bytes_of x)
  stream_made x = ap (member_of bytes_of) (sym (member.rolls-Stream x)) ∙ fold-roll-Member B files.Member files.Named files.Store (member_step bytes_of) (entry_step bytes_of) (store_step bytes_of) _

  pub storage_made : (inner : KeptStore B) → member_of bytes_of (member.Storage inner) ≡ store_at (store_of bytes_of inner)
  storage_made inner = ap (member_of bytes_of) (sym (member.rolls-Storage inner)) ∙ fold-roll-Member B files.Member files.Named files.Store (member_step bytes_of) (entry_step bytes_of) (store_step bytes_of) _
