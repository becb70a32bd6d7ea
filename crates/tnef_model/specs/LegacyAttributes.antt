-- The attributes of a TNEF stream by their ids, and the properties that the older ones stand for.
-- [MS-OXTNEF 2.1.3.3]
use Rattle.std.specs.Prelude.{ℕ, ◌==◌, ◌&&◌, ◌||◌, Bool, false, if◌then◌else◌, List, [], ◌∷◌, ◌++◌, length, take, drop, nat_lt, Option, Some, None, codes, bytes_eq}
use Rattle.std.specs.Option.{option_map}
use Rattle.carrier_model.specs.Keys.{id}
use Rattle.carrier_model.specs.Values.{Value, number, bytes, Prop}
use Rattle.tnef_model.specs.Moments.{is_moment, ticks_of}
use Rattle.carrier_model.specs.Bytes.{le_number, units_of}
use Rattle.carrier_model.specs.Kinds.{without_null}

abbrev pub VERSION : ℕ
VERSION = 0x00089006

abbrev pub CODE_PAGE : ℕ
CODE_PAGE = 0x00069007

abbrev pub MESSAGE_PROPS : ℕ
MESSAGE_PROPS = 0x00069003

abbrev pub RECIPIENTS : ℕ
RECIPIENTS = 0x00069004

-- begins an attachment
abbrev pub RENDERING : ℕ
RENDERING = 0x00069002

abbrev pub ATTACHMENT : ℕ
ATTACHMENT = 0x00069005

-- How the value of a property is found in an attribute's bytes.
pub data Rule : Type 0 where
  class : Rule
  text : Rule
  binary : Rule
  date : Rule
  page : Rule
  position : Rule

-- an attribute's id, the id of its property, and the rule
abbrev pub Row : Type 0
Row = ℕ × ℕ × Rule

abbrev pub message_rows : List Row
message_rows =
    (CODE_PAGE, 0x3FFD, page)
    ∷ (0x00078008, 0x001A, class)
    ∷ (0x00018004, 0x0037, text)
    ∷ (0x0002800C, 0x1000, text)
    ∷ (0x00038005, 0x0039, date)
    ∷ (0x00038006, 0x0E06, date)
    ∷ (0x00038020, 0x3008, date)
    ∷ []

abbrev pub attachment_rows : List Row
attachment_rows =
    (RENDERING, 0x370B, position)
    ∷ (0x0006800F, 0x3701, binary)
    ∷ (0x00018010, 0x3704, text)
    ∷ (0x00068011, 0x3709, binary)
    ∷ (0x00069001, 0x370C, text)
    ∷ (0x00038012, 0x3007, date)
    ∷ (0x00038013, 0x3008, date)
    ∷ []

abbrev pub is_in_rows : List Row → ℕ → Bool
is_in_rows [] n = false
is_in_rows (row ∷ rows) n = (row.0 == n) || is_in_rows rows n

-- the attributes of a message
abbrev pub is_message_id : ℕ → Bool
is_message_id n = (n == VERSION) || ((n == MESSAGE_PROPS) || ((n == RECIPIENTS) || is_in_rows message_rows n))

-- those of an attachment, the one that begins it among them
abbrev pub is_attachment_id : ℕ → Bool
is_attachment_id n = (n == ATTACHMENT) || is_in_rows attachment_rows n

-- ---- the rules

-- the classes of meeting messages, old and new
abbrev pub meetings : List (List ℕ × List ℕ)
meetings =
    (codes "MtgReq", codes "Request")
    ∷ (codes "MtgRespP", codes "Resp.Pos")
    ∷ (codes "MtgRespN", codes "Resp.Neg")
    ∷ (codes "MtgRespA", codes "Resp.Tent")
    ∷ (codes "MtgCncl", codes "Canceled")
    ∷ []

abbrev pub meeting_class : List (List ℕ × List ℕ) → List ℕ → List ℕ
meeting_class [] old = old
meeting_class (m ∷ others) old = if bytes_eq old (codes "IPM.Microsoft Schedule." ++ m.0) then codes "IPM.Schedule.Meeting." ++ m.1 else meeting_class others old

-- the class that an older one stands for
abbrev pub class_of : List ℕ → List ℕ
class_of old = if bytes_eq old (codes "IPM.Microsoft Mail.Note") then codes "IPM.Note" else meeting_class meetings old

abbrev pub text8 : List ℕ → Value
text8 x = bytes 0x001E x

abbrev pub number32 : List ℕ → ℕ
number32 x = le_number (take 4 x)

-- the value that an attribute's bytes give, if they give one
abbrev pub value_by : Rule → List ℕ → Option Value
value_by class x = Some (text8 (class_of (without_null 1 x)))
value_by text x = Some (text8 (without_null 1 x))
value_by binary x = Some (bytes 0x0102 x)
value_by date x = if (length x == 14) && is_moment (units_of x) then Some (number 0x0040 (ticks_of (units_of x))) else None
value_by page x = if nat_lt (length x) 4 || ((number32 x == 0) || (number32 x == 1252)) then None else Some (number 0x0003 (number32 x))
value_by position x = if nat_lt (length x) 6 || (number32 (drop 2 x) == 0xFFFFFFFF) then None else Some (number 0x0003 (number32 (drop 2 x)))

abbrev pub prop_by : List Row → ℕ → List ℕ → Option Prop
prop_by [] n x = None
prop_by (row ∷ rows) n x = if row.0 == n then option_map (λ v. record { key = id row.1; value = v }) (value_by row.2 x) else prop_by rows n x

-- the property that an attribute stands for by itself
abbrev pub legacy_prop : ℕ → List ℕ → Option Prop
legacy_prop n x = prop_by (message_rows ++ attachment_rows) n x
