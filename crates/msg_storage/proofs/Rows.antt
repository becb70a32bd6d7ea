-- The storages of a message's parts, in their order.
use Rattle.std.proofs.Common.{◌≡◌, ◌∙◌, ℕ, ◌<◌, List, length, get_or, map, Some, ap, sym, arith}
use Rattle.std.specs.Prelude.{slice_get}
use Rattle.std.proofs.lemmas.List.{length-map}
use Rattle.carrier_model.specs.Files as plain
use Rattle.carrier_model.proofs.Place.{view_read}
use Rattle.cfb_directory.specs.Found.{storage_seen}
use Rattle.cfb_directory.specs.declared.files.Files.{Files}
use Rattle.msg_model.specs.MsgMessage.{in_order, numbered, numbered_in}
use Rattle.msg_storage.specs.Numbered.{numbered_seen}
use Rattle.msg_storage.specs.declared.storages.Numbered.{Numbered}
use Rattle.msg_storage.proofs.Sorting.{storages_listed}

abbrev pub seen_storages : Files → List Numbered → List plain.Files
seen_storages f items = map (λ n. storage_seen f n.storage) items

pub storages_are : (f : Files) (items : List Numbered) (prefix : List ℕ) (s : plain.Files) → map (numbered_seen f) items ≡ in_order (numbered_in prefix s.children) → seen_storages f items ≡ numbered prefix s
storages_are f items prefix s e = sym (storages_listed f items) ∙ ap (map (λ p. p.1)) e

-- the storage at a place
pub storage_there : (f : Files) (items : List Numbered) (k : ℕ) (n : Numbered) → n ≡ get_or items k n → k < length items → slice_get (seen_storages f items) k ≡ Some (storage_seen f n.storage)
storage_there f items k n e lt = view_read (λ (m : Numbered). storage_seen f m.storage) items k n e (omega (arith, lt, length-map items (λ (m : Numbered). storage_seen f m.storage)))

pub seen_length : (f : Files) (items : List Numbered) → length (seen_storages f items) ≡ length items
seen_length f items = length-map items (λ (m : Numbered). storage_seen f m.storage)
