-- Members as a list, and a store by its entries.
use Rattle.std.proofs.Common.{◌≡◌, ◌∙◌, ap, refl, ℕ, List, [], ◌∷◌}
use Rattle.std.specs.Prelude.{map}
use Rattle.carrier_model.specs.FileTrees as plain
use Rattle.carrier_model.specs.FileTrees.{bytes_at, store_at, files_from, files_listed}
use Rattle.msg_tree.specs.declared.stores.Store.{Store, Store-F, out-Store, roll-Store, fold_out-Store, fold-roll-Store}
use Rattle.msg_tree.specs.declared.stores.Entry.{Entry, out-Entry, fold_out-Entry}
use Rattle.msg_tree.specs.declared.stores.Member.{Member as Kept}
use Rattle.msg_tree.specs.StoreMeaning.{member_step, entry_step, store_step, store_of, entry_of, member_of}

-- a list that was made children is that list
pub files-listed : (xs : List plain.Named) → files_listed (files_from xs) ≡ xs
files-listed [] = refl
files-listed ((name, bytes_at bytes) ∷ xs) = ap (λ l. (name, bytes_at bytes) ∷ l) (files-listed xs)
files-listed ((name, store_at inner) ∷ xs) = ap (λ l. (name, store_at inner) ∷ l) (files-listed xs)

pub listed-files : (f : plain.FileTree) → files_from (files_listed f) ≡ f
listed-files plain.no_file = refl
listed-files (plain.stream name bytes others) = ap (plain.stream name bytes) (listed-files others)
listed-files (plain.storage name class inside others) = ap (plain.storage name class inside) (listed-files others)

module _ {B : Type 0} (bytes_of : B → List ℕ) where
  pub store_out : (s : Store B) → store_of bytes_of s ≡ record { class = (out-Store B s).class; members = files_from (map (entry_of bytes_of) (out-Store B s).entries.items) }
  store_out = fold_out-Store B plain.Member plain.Named plain.Store (member_step bytes_of) (entry_step bytes_of) (store_step bytes_of)

  -- a store that is made of a class and entries
  pub store_made : (r : Store-F B (Kept B) (Entry B) (Store B)) → store_of bytes_of (roll-Store B r) ≡ record { class = r.class; members = files_from (map (entry_of bytes_of) r.entries.items) }
  store_made = fold-roll-Store B plain.Member plain.Named plain.Store (member_step bytes_of) (entry_step bytes_of) (store_step bytes_of)

  pub class_out : (s : Store B) → (store_of bytes_of s).class ≡ (out-Store B s).class
  class_out s = ap (λ x. x.class) (store_out s)

  pub list_out : (s : Store B) → files_listed (store_of bytes_of s).members ≡ map (entry_of bytes_of) (out-Store B s).entries.items
  list_out s = ap (λ x. files_listed x.members) (store_out s) ∙ files-listed (map (entry_of bytes_of) (out-Store B s).entries.items)

  pub entry_out : (e : Entry B) → entry_of bytes_of e ≡ ((out-Entry B e).name.items, member_of bytes_of (out-Entry B e).member)
  entry_out = fold_out-Entry B plain.Member plain.Named plain.Store (member_step bytes_of) (entry_step bytes_of) (store_step bytes_of)

  pub entry_name : (e : Entry B) → (entry_of bytes_of e).0 ≡ (out-Entry B e).name.items
  entry_name e = ap (λ x. x.0) (entry_out e)

  pub entry_member : (e : Entry B) → (entry_of bytes_of e).1 ≡ member_of bytes_of (out-Entry B e).member
  entry_member e = ap (λ x. x.1) (entry_out e)
