-- What a store keeps to, up to a number of storages that stand one below another.
use Rattle.std.specs.Prelude.{◌≡◌, Bool, true, false, ℕ, ◌+◌, ◌≤◌, List, [], length, slice_get, slice_index_or, Some}
use Rattle.std.specs.declared.cmp.Ordering.TheVariants.{Less}
use Rattle.carrier_model.specs.FileTrees as plain
use Rattle.carrier_model.specs.Stores.{AreInOrder, AreMembers}

-- a class of 16 bytes; names are short and in order; and not too many storages stand one below another
pub record FitsWithin (storages : ℕ) (s : plain.Store) : Type 0 where
  pub class : length s.class ≡ 16
  pub order : AreInOrder s.members
  pub members : AreMembers s.members
  pub depth : plain.storage_depth s.members ≤ storages

abbrev pub MemberFits : ℕ → plain.Member → Type 0
MemberFits storages (plain.bytes_at bytes) = Unit {0}
MemberFits storages (plain.store_at inner) = FitsWithin storages inner × (plain.storage_depth inner.members + 1 ≤ storages)

-- a name is above the one before it
abbrev pub RisesAt : List (List ℕ) → ℕ → Type 0
RisesAt names k = (i : ℕ) → k ≡ i + 1 → plain.sibling_cmp (slice_index_or names i []) (slice_index_or names k []) ≡ Less

-- the member at a place, by itself and behind the one before it
pub record ItemFits (storages : ℕ) (f : plain.FileTree) (k : ℕ) : Type 0 where
  pub name : plain.IsFileName (slice_index_or (plain.file_names f) k [])
  pub rises : RisesAt (plain.file_names f) k
  pub member : (x : plain.Named) → slice_get (plain.files_listed f) k ≡ Some x → MemberFits storages x.1

-- a member is a stream
abbrev pub is_bytes : plain.Member → Bool
is_bytes (plain.bytes_at bytes) = true
is_bytes (plain.store_at inner) = false
