-- The names of the storages and streams of a .msg file, as ASCII characters. [MS-OXMSG 2.1.2.1, 2.1.3, 2.1.4, 2.2]
use Rattle.std.specs.Prelude.{ℕ, List, codes, ◌++◌}
use Rattle.carrier_model.specs.KeyTexts.{upper, hex_digits}

abbrev pub NAME_MAP : List ℕ
NAME_MAP = codes "__nameid_version1.0"

abbrev pub RECIPIENT_NAME : List ℕ
RECIPIENT_NAME = codes "__recip_version1.0_#"

abbrev pub ATTACHMENT_NAME : List ℕ
ATTACHMENT_NAME = codes "__attach_version1.0_#"

-- the storages of a recipient and of an attachment, by their numbers
abbrev pub numbered_name : List ℕ → ℕ → List ℕ
numbered_name front n = front ++ hex_digits upper 8 n

-- a stream of an id and a type
abbrev pub value_name : ℕ → List ℕ
value_name tag = codes "__substg1.0_" ++ hex_digits upper 8 tag

-- that of an element of a multiple value
abbrev pub element_name : ℕ → ℕ → List ℕ
element_name tag i = value_name tag ++ (codes "-" ++ hex_digits upper 8 i)

-- the streams of the name map: GUIDs, entries and texts
abbrev pub GUID_STREAM : List ℕ
GUID_STREAM = value_name 0x00020102

abbrev pub ENTRY_STREAM : List ℕ
ENTRY_STREAM = value_name 0x00030102

abbrev pub TEXT_STREAM : List ℕ
TEXT_STREAM = value_name 0x00040102
