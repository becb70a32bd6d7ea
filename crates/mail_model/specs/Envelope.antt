-- What an envelope carries. Source: RFC 2045, section 6, and RFC 2046, section 5.1.
use Rattle.std.specs.Prelude.{◌≡◌, ◌⊎◌, ℕ, zero, suc, ◌+◌, ◌==◌, Bool, true, not, if◌then◌else◌, List, [], ◌∷◌, ◌||◌, ◌&&◌, length, codes, Option, Some, None, Result, Ok, Err, filter, nat_le}
use Rattle.std.specs.List.{concat, list_any}
use Rattle.mail_model.specs.Base64.{base64_text}
use Rattle.carrier_model.specs.Bytes.{AllBytes}
use Rattle.carrier_model.specs.Reasons.{NO_TNEF_PART, NOT_BASE64, BAD_BASE64, BAD_PADDING, BAD_BOUNDARY, PART_TOO_DEEP, MISSING_CLOSE}
use Rattle.carrier_model.specs.Trail.{Fault}
use Rattle.mail_model.specs.Lines.{lines, is_word}
use Rattle.mail_model.specs.Entities.{body_of, field, is_tnef, is_multipart, boundary, is_boundary, is_closing, parts}

-- a TNEF part: its encoding field, if any, and the offset and bytes of its body
pub record Part : Type 0 where
  pub encoding : Option (ℕ × List ℕ)
  pub place : ℕ
  pub body : List ℕ

-- what a search gives: a part, nothing, or a fault
abbrev pub Found : Type 0
Found = Result (Option Part) Fault

-- the first part or fault
abbrev pub or_else : Found → Found → Found
or_else (Ok None) next = next
or_else (Ok (Some p)) next = Ok (Some p)
or_else (Err g) next = Err g

-- the first of these entities that gives something
unfoldable pub first_of : (ℕ → List ℕ → Found) → List (ℕ × List ℕ) → Found
first_of search [] = Ok None
first_of search (p ∷ others) = or_else (search p.0 p.1) (first_of search others)

-- a multipart with this boundary, whose body begins at this place
abbrev pub in_parts : (ℕ → List ℕ → Found) → List ℕ → ℕ → List (List ℕ) → Found
in_parts search b place body =
    if list_any (is_closing b) body then first_of search (parts b place body)
    else Err (MISSING_CLOSE, place + length (concat body))

-- a multipart whose Content-Type field is at this offset
abbrev pub in_multipart : (ℕ → List ℕ → Found) → ℕ → Option (List ℕ) → ℕ → List (List ℕ) → Found
in_multipart search at None place body = Err (BAD_BOUNDARY, at)
in_multipart search at (Some b) place body = if is_boundary b then in_parts search b place body else Err (BAD_BOUNDARY, at)

-- an entity, by its Content-Type field; `within` says what a multipart gives
abbrev pub by_type : (ℕ × List ℕ → ℕ → List (List ℕ) → Found) → Option (ℕ × List ℕ) → Option (ℕ × List ℕ) → ℕ → List (List ℕ) → Found
by_type within None encoding place body = Ok None
by_type within (Some kind) encoding place body =
    if is_tnef kind.1 then Ok (Some (record { encoding = encoding; place = place; body = concat body }))
    else if is_multipart kind.1 then within kind place body
    else Ok None

-- an entity, once its header is tested
abbrev pub by_header : (ℕ × List ℕ → ℕ → List (List ℕ) → Found) → ℕ → List (List ℕ) → Result (ℕ × List (List ℕ)) Fault → Found
by_header within at entity (Err g) = Err g
by_header within at entity (Ok b) = by_type within (field (codes "content-type") at entity) (field (codes "content-transfer-encoding") at entity) b.0 b.1

-- What an entity gives, where so many more multiparts may stand inside each other: a part of type TNEF is given; a
-- multipart gives what the first of its parts gives that gives something; others give nothing.
unfoldable pub search : ℕ → ℕ → List ℕ → Found
search zero at entity = by_header (λ kind place body. Err (PART_TOO_DEEP, kind.0)) at (lines entity) (body_of true at (lines entity))
search (suc more) at entity = by_header (λ kind place body. in_multipart (search more) kind.0 (boundary zero kind.1) place body) at (lines entity) (body_of true at (lines entity))

-- spaces, tabs and line ends within base64 text
abbrev pub is_skipped : ℕ → Bool
is_skipped c = c == 32 || c == 9 || c == 13 || c == 10

-- the characters of base64 text: letters, digits, `+`, `/` and `=`
abbrev pub is_character : ℕ → Bool
is_character c = (nat_le 65 c && nat_le c 90) || (nat_le 97 c && nat_le c 122) || (nat_le 48 c && nat_le c 57) || c == 43 || c == 47 || c == 61

-- the first byte that is neither
unfoldable pub bad_character : ℕ → List ℕ → Option Fault
bad_character at [] = None
bad_character at (c ∷ rest) = if is_skipped c || is_character c then bad_character (at + 1) rest else Some (BAD_BASE64, at)

-- a part's encoding must be base64
abbrev pub bad_encoding : Part → Option Fault
bad_encoding p = elim p.encoding [ None ↦ Some (NOT_BASE64, p.place) | Some e ↦ if is_word (codes "base64") e.1 then None else Some (NOT_BASE64, e.0) ]

-- the characters of a part's body
abbrev pub characters : List ℕ → List ℕ
characters body = filter (λ c. not (is_skipped c)) body

-- a fault, or else what follows
abbrev pub unless : Option Fault → Result (ℕ × List ℕ) Fault → Result (ℕ × List ℕ) Fault
unless None next = next
unless (Some g) next = Err g

-- a part's base64 text, and the offset of its body's end
abbrev pub text_of_part : Part → Result (ℕ × List ℕ) Fault
text_of_part p = unless (bad_encoding p) (unless (bad_character p.place p.body) (Ok (p.place + length p.body, characters p.body)))

abbrev pub text_found : Found → Result (ℕ × List ℕ) Fault
text_found (Err g) = Err g
text_found (Ok None) = Err (NO_TNEF_PART, 0)
text_found (Ok (Some p)) = text_of_part p

-- the base64 text of the first TNEF part of an envelope; at most 16 multiparts stand inside each other
unfoldable pub envelope_text : List ℕ → Result (ℕ × List ℕ) Fault
envelope_text bytes = text_found (search 16 0 bytes)

-- the envelope carries p
pub record Envelope (bytes p : List ℕ) : Type 0 where
  pub end : ℕ
  pub text : List ℕ
  pub found : envelope_text bytes ≡ Ok (end, text)
  pub bytes_only : AllBytes p
  pub coded : text ≡ base64_text p

-- The envelope's first fault: no part is found or its text isn't made of base64 characters, or that text codes nothing.
abbrev pub CodesNothing : List ℕ → Fault → Type 0
CodesNothing bytes g = (end : ℕ) × (text : List ℕ) × (envelope_text bytes ≡ Ok (end, text)) × (g ≡ (BAD_PADDING, end)) × ((p : List ℕ) → AllBytes p → text ≡ base64_text p → ⊥)

abbrev pub EnvelopeFault : List ℕ → Fault → Type 0
EnvelopeFault bytes g = (envelope_text bytes ≡ Err g) ⊎ CodesNothing bytes g
