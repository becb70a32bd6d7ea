-- Members that are made.
use Rattle.std.proofs.Common.{◌≡◌, ◌∙◌, ap, sym, ℕ, List}
use Rattle.carrier_model.specs.FileTrees as plain
use Rattle.carrier_model.specs.FileTrees.{bytes_at, store_at}
use Rattle.msg_tree.specs.StoreMeaning.{member_step, entry_step, store_step, store_of, member_of}
use Rattle.msg_tree.specs.declared.stores.Store.{Store}
use Rattle.msg_tree.specs.declared.stores.Member.{fold-roll-Member}
use Rattle.msg_tree.specs.declared.stores.Member.TheVariants.{Stream, Storage, rolls-Stream, rolls-Storage}

module _ {B : Type 0} (bytes_of : B → List ℕ) where
  pub stream_made : (blob : B) → member_of bytes_of (Stream blob) ≡ bytes_at (bytes_of blob)
  stream_made blob = ap (member_of bytes_of) (sym (rolls-Stream blob)) ∙ fold-roll-Member B plain.Member plain.Named plain.Store (member_step bytes_of) (entry_step bytes_of) (store_step bytes_of) _

  pub storage_made : (inner : Store B) → member_of bytes_of (Storage inner) ≡ store_at (store_of bytes_of inner)
  storage_made inner = ap (member_of bytes_of) (sym (rolls-Storage inner)) ∙ fold-roll-Member B plain.Member plain.Named plain.Store (member_step bytes_of) (entry_step bytes_of) (store_step bytes_of) _
