-- The header of a mail entity, and the parts of a multipart. Source: RFC 2045, section 5, and RFC 2046, section 5.1.1.
-- An entity is a range of bytes: header lines up to the first empty line, then its body. `at` is the offset of the
-- first byte of the lines that are given.
use Rattle.std.specs.Prelude.{ℕ, zero, suc, ◌+◌, ◌-◌, ◌==◌, Bool, false, not, if◌then◌else◌, List, [], ◌∷◌, ◌++◌, ◌||◌, ◌&&◌, length, take, drop, codes, Option, Some, None, Result, Ok, Err, nat_eq, nat_le}
use Rattle.std.specs.List.{prefix_len, ends_with, concat}
use Rattle.std.specs.Str.{str_eq_ignore_ascii_case}
use Rattle.carrier_model.specs.Reasons.{BAD_HEADER_LINE}
use Rattle.carrier_model.specs.Trail.{Fault}
use Rattle.mail_model.specs.Lines.{text_of, is_blank, trimmed, before, behind, has, is_word, is_mark}

-- a line with nothing before its end
abbrev pub is_empty : List ℕ → Bool
is_empty line = nat_eq (length (text_of line)) 0

abbrev pub begins_blank : List ℕ → Bool
begins_blank [] = false
begins_blank (c ∷ rest) = is_blank c

-- Whether a header line is refused: the first one where it continues another, and others where they neither continue
-- one nor have a colon.
abbrev pub is_refused : Bool → List ℕ → Bool
is_refused first line = if begins_blank line then first else not (has 58 line)

-- where the body begins, and its lines; or the first refused header line
unfoldable pub body_of : Bool → ℕ → List (List ℕ) → Result (ℕ × List (List ℕ)) Fault
body_of first at [] = Ok (at, [])
body_of first at (line ∷ others) =
    if is_empty line then Ok (at + length line, others)
    else if is_refused first line then Err (BAD_HEADER_LINE, at)
    else body_of false (at + length line) others

-- the text of the lines that continue the one before them
unfoldable pub continued : List (List ℕ) → List ℕ
continued [] = []
continued (line ∷ others) = if begins_blank line then text_of line ++ continued others else []

-- The first header field of this name: the offset of its line, and its value with the line ends taken out.
unfoldable pub field : List ℕ → ℕ → List (List ℕ) → Option (ℕ × List ℕ)
field name at [] = None
field name at (line ∷ others) =
    if is_empty line then None
    else if not (begins_blank line) && is_word name (before 58 line) then Some (at, behind 58 (text_of line) ++ continued others)
    else field name (at + length line) others

-- the media type is what stands before the first semicolon
abbrev pub is_tnef : List ℕ → Bool
is_tnef value = is_word (codes "application/ms-tnef") (before 59 value) || is_word (codes "application/vnd.ms-tnef") (before 59 value)

abbrev pub is_multipart : List ℕ → Bool
is_multipart value = str_eq_ignore_ascii_case (take 10 (trimmed (before 59 value))) (codes "multipart/")

-- The text in double quotes, of which this stands behind the first: up to the next one, where a backslash and the
-- character after it stand for that character.
unfoldable pub unquoted : List ℕ → List ℕ
unquoted [] = []
unquoted (c ∷ []) = if c == 34 then [] else c ∷ []
unquoted (c ∷ d ∷ rest) = if c == 34 then [] else if c == 92 then d ∷ unquoted rest else c ∷ unquoted (d ∷ rest)

-- how many characters that is, with the double quote that ends it
unfoldable pub quoted_size : List ℕ → ℕ
quoted_size [] = 0
quoted_size (c ∷ []) = 1
quoted_size (c ∷ d ∷ rest) = if c == 34 then 1 else if c == 92 then suc (suc (quoted_size rest)) else suc (quoted_size (d ∷ rest))

-- A parameter is a name, `=` and a value; this is the rest of the field from its first character on.
abbrev pub is_parameter : List ℕ → Bool
is_parameter rest = has 61 (before 59 rest)

-- the value's characters and what follows, without the blanks before it
abbrev pub value_on : List ℕ → List ℕ
value_on rest = let value = behind 61 rest in drop (prefix_len is_blank value) value

abbrev pub is_quoted : List ℕ → Bool
is_quoted [] = false
is_quoted (c ∷ rest) = c == 34

-- the value of the parameter that begins here
unfoldable pub parameter_value : List ℕ → List ℕ
parameter_value rest = if is_quoted (value_on rest) then unquoted (drop 1 (value_on rest)) else trimmed (behind 61 (before 59 rest))

-- how far from here on a semicolon doesn't end the parameter that begins here
unfoldable pub protected_size : List ℕ → ℕ
protected_size rest =
    if is_parameter rest && is_quoted (value_on rest) then length rest - length (drop (quoted_size (drop 1 (value_on rest))) (drop 1 (value_on rest))) else 0

-- The first boundary of a Content-Type's value, behind so many characters: parameters begin behind the semicolons that
-- are not within a quoted value.
unfoldable pub boundary : ℕ → List ℕ → Option (List ℕ)
boundary skip [] = None
boundary (suc skip) (c ∷ rest) = boundary skip rest
boundary zero (c ∷ rest) =
    if not (c == 59) then boundary zero rest
    else if is_parameter rest && is_word (codes "boundary") (before 61 rest) then Some (parameter_value rest)
    else boundary (protected_size rest) rest

-- a boundary has 1 to 70 characters, and doesn't end in a space
abbrev pub is_boundary : List ℕ → Bool
is_boundary b = not (nat_eq (length b) 0) && nat_le (length b) 70 && not (ends_with nat_eq b (codes " "))

-- `--` and the boundary delimit a part, and with `--` behind close the multipart
abbrev pub is_delimiter : List ℕ → List ℕ → Bool
is_delimiter b line = is_mark (codes "--" ++ b) line

abbrev pub is_closing : List ℕ → List ℕ → Bool
is_closing b line = is_mark (codes "--" ++ b ++ codes "--") line

-- the lines up to the next delimiter or closing line
unfoldable pub part_from : List ℕ → List (List ℕ) → List (List ℕ)
part_from b [] = []
part_from b (line ∷ others) = if is_closing b line || is_delimiter b line then [] else line ∷ part_from b others

-- A multipart's parts, each with the offset of its first byte: one behind each delimiter line up to the first closing
-- line.
unfoldable pub parts : List ℕ → ℕ → List (List ℕ) → List (ℕ × List ℕ)
parts b at [] = []
parts b at (line ∷ others) =
    if is_closing b line then []
    else if is_delimiter b line then (at + length line, concat (part_from b others)) ∷ parts b (at + length line) others
    else parts b (at + length line) others
