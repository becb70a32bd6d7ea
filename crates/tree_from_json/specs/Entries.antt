-- The entries of a store as they are read, what is kept of them, and the members that they are.
use Rattle.std.specs.Prelude.{ℕ, zero, suc, map, List, [], ◌∷◌, length}
use Rattle.carrier_model.specs.FileTrees.{FileTree, Named, bytes_at, store_at, files_listed, in_order_below, sorted}
use Rattle.json_model.specs.StoreForms as plain
use Rattle.json_model.specs.StoreForms.{files_within, front_below, behind_below, last_name}
use Rattle.tree_from_json.specs.declared.entries.Content.{Content}
use Rattle.tree_from_json.specs.declared.entries.Content.TheVariants.{Storage, Stream}
use Rattle.tree_from_json.specs.declared.entries.Entry.{Entry}
use Rattle.tree_from_json.specs.declared.entries.Placed.{Placed}

abbrev pub entry_at : List (List ℕ) → Content → plain.Entry
entry_at path (Storage class) = plain.storage_entry path class.0
entry_at path (Stream bytes) = plain.stream_entry path bytes.items

abbrev pub entry_of : Entry → plain.Entry
entry_of e = entry_at e.path.items e.content

-- ---- what is kept of an entry

-- so many names, all of them empty but the last
abbrev pub path_to : ℕ → List ℕ → List (List ℕ)
path_to zero name = []
path_to (suc zero) name = name ∷ []
path_to (suc (suc n)) name = [] ∷ path_to (suc n) name

abbrev pub placed_of : Placed → plain.Entry
placed_of p = entry_at (path_to p.level p.name) p.content

-- an entry with no more of its path than how many names it has, and the last
abbrev pub shortened : plain.Entry → plain.Entry
shortened (plain.storage_entry path class) = plain.storage_entry (path_to (length path) (last_name path)) class
shortened (plain.stream_entry path x) = plain.stream_entry (path_to (length path) (last_name path)) x

-- ---- the members

-- the members of a storage whose path has so many names, by its entries
abbrev pub tree_at : ℕ → List plain.Entry → FileTree
tree_at level entries = files_within (length entries) level entries

-- the same as a list, what is in a member in order
abbrev pub members_at : ℕ → List plain.Entry → List Named
members_at level entries = map in_order_below (files_listed (tree_at level entries))

-- the member that an entry is, and the entries behind it and what is in it
abbrev pub member_of : ℕ → plain.Entry → List plain.Entry → Named
member_of level (plain.stream_entry path x) more = (last_name path, bytes_at x)
member_of level (plain.storage_entry path class) more = (last_name path, store_at (record { class = class; members = sorted (tree_at (suc level) (front_below (suc level) more)) }))

abbrev pub behind : ℕ → plain.Entry → List plain.Entry → List plain.Entry
behind level (plain.stream_entry path x) more = more
behind level (plain.storage_entry path class) more = behind_below (suc level) more
