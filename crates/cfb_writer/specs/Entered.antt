-- An entry that is looked at.
use Rattle.std.specs.Prelude.{ℕ, ◌+◌, ◌*◌, List, ◌∷◌, ◌++◌, replicate, if◌then◌else◌}
use Rattle.carrier_model.specs.Bytes.{le16, le32}
use Rattle.carrier_model.specs.Chains.{end_word}
use Rattle.carrier_model.specs.Layout.{Slot, BLACK, name_field, is_short, is_long}
use Rattle.cfb_list.specs.Contents.{file_seen}
use Rattle.cfb_writer.specs.Placed.{slot_of}
use Rattle.cfb_writer.specs.declared.directory.Fields.{Fields}
use Rattle.cfb_writer.specs.declared.directory.Next.{Next}
use Rattle.cfb_writer.specs.declared.entries.Entry.{Entry}

abbrev pub slot_seen : {B : Type 0} → (B → List ℕ) → Entry B → Slot
slot_seen of e = slot_of (file_seen of e.file) e.left e.right e.child

-- the fields behind a name and its length
abbrev pub field_bytes : Fields → List ℕ
field_bytes f =
    f.kind ∷ BLACK ∷ (le32 f.left ++ (le32 f.right ++ (le32 f.child ++ (f.class ++ (replicate 20 0 ++ (le32 f.start ++ (le32 f.size ++ le32 0)))))))

-- a name, and the fields behind it
abbrev pub record_bytes : List ℕ → Fields → List ℕ
record_bytes name f = name_field name ++ field_bytes f

-- what stands behind a name of so many units: its length with its null, and the fields
abbrev pub behind_name : ℕ → Fields → List ℕ
behind_name n f = le16 (2 * (n + 1)) ++ field_bytes f

-- where a stream begins
abbrev pub stream_start : Next → List ℕ → ℕ
stream_start next x = if is_short x then next.mini else (if is_long x then next.long else end_word)
