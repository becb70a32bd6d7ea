-- A search's steps, and what the types mean.
use Rattle.std.specs.Prelude.{◌≡◌, ◌⊎◌, ℕ, ◌+◌, ◌%◌, Bool, true, false, not, if◌then◌else◌, ◌==◌, ◌&&◌, List, [], ◌∷◌, ◌++◌, length, take, drop, codes, nat_eq, Vec, Option, Some, None, Result, Ok, Err}
use Rattle.std.specs.Global.{Global}
use Rattle.std.specs.List.{starts_with}
use Rattle.carrier_model.specs.Bytes.{AllBytes}
use Rattle.carrier_model.specs.Reasons.{BAD_BOUNDARY}
use Rattle.carrier_model.specs.Trail.{Fault}
use Rattle.mail_model.specs.Base64.{base64_text}
use Rattle.mail_model.specs.Lines.{lines}
use Rattle.mail_model.specs.Entities.{is_boundary, parts}
use Rattle.mail_model.specs.Envelope as envelope
use Rattle.mime_envelope.specs.declared.part.Part.{Part}
use Rattle.mime_envelope.specs.Views.{field_view}

abbrev pub part_view : Part → envelope.Part
part_view p = record { encoding = field_view p.encoding; place = p.place; body = p.body.now }

abbrev pub found_view : Option Part → Option envelope.Part
found_view None = None
found_view (Some p) = Some (part_view p)

-- a boundary that a field at this offset may give
abbrev pub boundary_test : ℕ → Option (List ℕ) → Result (List ℕ) Fault
boundary_test at None = Err (BAD_BOUNDARY, at)
boundary_test at (Some b) = if is_boundary b then Ok b else Err (BAD_BOUNDARY, at)

-- the first of a multipart's parts that gives something
abbrev pub first_in : ℕ → List ℕ → ℕ → List (List ℕ) → envelope.Found
first_in more b at lines = envelope.first_of (envelope.search more) (parts b at lines)

-- an entity, if it is a part
abbrev pub part_at : ℕ → Bool → ℕ → List ℕ → envelope.Found
part_at more begins at bytes = if begins then envelope.search more at bytes else Ok None

-- what delimiter lines and closing lines begin with, as far as it is searched for
unfoldable pub delimiter_front : List ℕ → List ℕ
delimiter_front b = take 31 (codes "--" ++ b)

-- what stands behind the first line feed that this front follows
unfoldable pub later_line : List ℕ → List ℕ → List ℕ
later_line front [] = []
later_line front (c ∷ rest) = if c == 10 && starts_with nat_eq rest front then rest else later_line front rest

-- what stands from the first line on that begins with this front; nothing where none does
abbrev pub line_from : List ℕ → List ℕ → List ℕ
line_from front bytes = if starts_with nat_eq bytes front then bytes else later_line front bytes

-- no part of a multipart begins in the first n bytes of these lines, nor does it end there
abbrev pub NoPartBefore : List ℕ → ℕ → List ℕ → Type 0
NoPartBefore b n bytes = (at : ℕ) → parts b at (lines bytes) ≡ parts b (at + n) (lines (drop n bytes))

-- a part's base64 text, and the offset of its body's end
abbrev pub coded_view : Part → ℕ × List ℕ
coded_view p = (p.place + length p.body.now, envelope.characters p.body.now)

-- whether a byte is kept of a body
abbrev pub is_kept : ℕ → Bool
is_kept c = not (envelope.is_skipped c)

-- what a text codes: these bytes and no others, or nothing
abbrev pub IsCoded : List ℕ → Option (Vec ℕ Global) → Type 0
IsCoded text None = (p : List ℕ) → AllBytes p → text ≡ base64_text p → ⊥
IsCoded text (Some v) = AllBytes v.items × (text ≡ base64_text v.items) × ((p : List ℕ) → AllBytes p → text ≡ base64_text p → p ≡ v.items)

-- A piece of a text stands behind the text of the old bytes: its own are appended to them, or else the two, and what
-- may follow them, code nothing. Only a whole number of groups may be followed.
abbrev pub IsPiece : Bool → List ℕ → List ℕ → List ℕ → Type 0
IsPiece true old piece new = (base64_text new ≡ base64_text old ++ piece) × AllBytes new
IsPiece false old piece new = (rest p : List ℕ) → (length piece % 4 ≡ 0) ⊎ (rest ≡ []) → AllBytes p → base64_text old ++ (piece ++ rest) ≡ base64_text p → ⊥
