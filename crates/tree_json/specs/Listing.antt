-- The members of one storage as a list of entries.
use Rattle.std.specs.Prelude.{ℕ, List, [], ◌∷◌}
use Rattle.carrier_model.specs.FileTrees.{Member, bytes_at, store_at}
use Rattle.json_model.specs.StoreForms.{Entry, storage_entry, stream_entry, entries_below}

-- a member by its path, and what is in it
abbrev pub member_entries : List (List ℕ) → Member → List Entry
member_entries path (bytes_at x) = stream_entry path x ∷ []
member_entries path (store_at inner) = storage_entry path inner.class ∷ entries_below path inner.members
