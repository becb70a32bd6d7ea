-- Header lines and parts, one line after the other.
use Rattle.std.proofs.Common.{◌≡◌, ℕ, ◌+◌, Bool, true, false, List, [], ◌∷◌, ◌++◌, length, Some, None, Ok, Err, refl, sym}
use Rattle.std.specs.List.{concat, list_any}
use Rattle.carrier_model.specs.Reasons.{BAD_HEADER_LINE}
use Rattle.mail_model.specs.Lines.{lines, text_of, before, behind, is_word}
use Rattle.mail_model.specs.Entities.{is_empty, begins_blank, is_refused, body_of, continued, field, is_closing, is_delimiter, part_from, parts}
use Rattle.mail_model.proofs.Lines.{lines-none}

pub body_of-none : (first : Bool) (at : ℕ) (bytes : List ℕ) → bytes ≡ [] → body_of first at (lines bytes) ≡ Ok (at, lines bytes)
unfolding body_of
body_of-none first at bytes none = rw (lines-none bytes none) refl

pub body_of-empty : (first : Bool) (at : ℕ) (bytes line after : List ℕ) → lines bytes ≡ line ∷ lines after → true ≡ is_empty line → body_of first at (lines bytes) ≡ Ok (at + length line, lines after)
unfolding body_of
body_of-empty first at bytes line after split empty = rw (split, sym empty) refl

pub body_of-refused : (first : Bool) (at : ℕ) (bytes line after : List ℕ) → lines bytes ≡ line ∷ lines after → false ≡ is_empty line → true ≡ is_refused first line → body_of first at (lines bytes) ≡ Err (BAD_HEADER_LINE, at)
unfolding body_of
body_of-refused first at bytes line after split empty refused = rw (split, sym empty, sym refused) refl

pub body_of-next : (first : Bool) (at : ℕ) (bytes line after : List ℕ) → lines bytes ≡ line ∷ lines after → false ≡ is_empty line → false ≡ is_refused first line → body_of first at (lines bytes) ≡ body_of false (at + length line) (lines after)
unfolding body_of
body_of-next first at bytes line after split empty refused = rw (split, sym empty, sym refused) refl

pub continued-none : (bytes : List ℕ) → bytes ≡ [] → continued (lines bytes) ≡ []
unfolding continued
continued-none bytes none = rw (lines-none bytes none) refl

pub continued-stop : (bytes line after : List ℕ) → lines bytes ≡ line ∷ lines after → false ≡ begins_blank line → continued (lines bytes) ≡ []
unfolding continued
continued-stop bytes line after split blank = rw (split, sym blank) refl

pub continued-more : (bytes line after : List ℕ) → lines bytes ≡ line ∷ lines after → true ≡ begins_blank line → continued (lines bytes) ≡ text_of line ++ continued (lines after)
unfolding continued
continued-more bytes line after split blank = rw (split, sym blank) refl

pub field-none : (name : List ℕ) (at : ℕ) (bytes : List ℕ) → bytes ≡ [] → field name at (lines bytes) ≡ None
unfolding field
field-none name at bytes none = rw (lines-none bytes none) refl

pub field-end : (name : List ℕ) (at : ℕ) (bytes line after : List ℕ) → lines bytes ≡ line ∷ lines after → true ≡ is_empty line → field name at (lines bytes) ≡ None
unfolding field
field-end name at bytes line after split empty = rw (split, sym empty) refl

pub field-found : (name : List ℕ) (at : ℕ) (bytes line after : List ℕ) → lines bytes ≡ line ∷ lines after → false ≡ is_empty line → false ≡ begins_blank line → true ≡ is_word name (before 58 line) → field name at (lines bytes) ≡ Some (at, behind 58 (text_of line) ++ continued (lines after))
unfolding field
field-found name at bytes line after split empty blank word = rw (split, sym empty, sym blank, sym word) refl

field-other_by : (name : List ℕ) (at : ℕ) (bytes line after : List ℕ) (v : Bool) → begins_blank line ≡ v → lines bytes ≡ line ∷ lines after → false ≡ is_empty line → false ≡ is_word name (before 58 line) → field name at (lines bytes) ≡ field name (at + length line) (lines after)
unfolding field
field-other_by name at bytes line after true blank split empty word = rw (split, sym empty, blank) refl
field-other_by name at bytes line after false blank split empty word = rw (split, sym empty, blank, sym word) refl

pub field-other : (name : List ℕ) (at : ℕ) (bytes line after : List ℕ) → lines bytes ≡ line ∷ lines after → false ≡ is_empty line → false ≡ is_word name (before 58 line) → field name at (lines bytes) ≡ field name (at + length line) (lines after)
unfolding field
field-other name at bytes line after split empty word = field-other_by name at bytes line after (begins_blank line) refl split empty word

pub field-blank : (name : List ℕ) (at : ℕ) (bytes line after : List ℕ) → lines bytes ≡ line ∷ lines after → false ≡ is_empty line → true ≡ begins_blank line → field name at (lines bytes) ≡ field name (at + length line) (lines after)
unfolding field
field-blank name at bytes line after split empty blank = rw (split, sym empty, sym blank) refl

-- ---- parts

pub part_from-none : (b bytes : List ℕ) → bytes ≡ [] → concat (part_from b (lines bytes)) ≡ []
unfolding part_from
part_from-none b bytes none = rw (lines-none bytes none) refl

pub part_from-closing : (b bytes line after : List ℕ) → lines bytes ≡ line ∷ lines after → true ≡ is_closing b line → concat (part_from b (lines bytes)) ≡ []
unfolding part_from
part_from-closing b bytes line after split closing = rw (split, sym closing) refl

pub part_from-delimiter : (b bytes line after : List ℕ) → lines bytes ≡ line ∷ lines after → false ≡ is_closing b line → true ≡ is_delimiter b line → concat (part_from b (lines bytes)) ≡ []
unfolding part_from
part_from-delimiter b bytes line after split closing delimiter = rw (split, sym closing, sym delimiter) refl

pub part_from-more : (b bytes line after : List ℕ) → lines bytes ≡ line ∷ lines after → false ≡ is_closing b line → false ≡ is_delimiter b line → concat (part_from b (lines bytes)) ≡ line ++ concat (part_from b (lines after))
unfolding part_from
part_from-more b bytes line after split closing delimiter = rw (split, sym closing, sym delimiter) refl

pub any_closing-none : (b bytes : List ℕ) → bytes ≡ [] → list_any (is_closing b) (lines bytes) ≡ false
any_closing-none b bytes none = rw (lines-none bytes none) refl

pub any_closing-here : (b bytes line after : List ℕ) → lines bytes ≡ line ∷ lines after → true ≡ is_closing b line → list_any (is_closing b) (lines bytes) ≡ true
any_closing-here b bytes line after split closing = rw (split, sym closing) refl

pub any_closing-later : (b bytes line after : List ℕ) → lines bytes ≡ line ∷ lines after → false ≡ is_closing b line → list_any (is_closing b) (lines bytes) ≡ list_any (is_closing b) (lines after)
any_closing-later b bytes line after split closing = rw (split, sym closing) refl

pub parts-none : (b : List ℕ) (at : ℕ) (bytes : List ℕ) → bytes ≡ [] → parts b at (lines bytes) ≡ []
unfolding parts
parts-none b at bytes none = rw (lines-none bytes none) refl

pub parts-closing : (b : List ℕ) (at : ℕ) (bytes line after : List ℕ) → lines bytes ≡ line ∷ lines after → true ≡ is_closing b line → parts b at (lines bytes) ≡ []
unfolding parts
parts-closing b at bytes line after split closing = rw (split, sym closing) refl

pub parts-delimiter : (b : List ℕ) (at : ℕ) (bytes line after : List ℕ) → lines bytes ≡ line ∷ lines after → false ≡ is_closing b line → true ≡ is_delimiter b line → parts b at (lines bytes) ≡ (at + length line, concat (part_from b (lines after))) ∷ parts b (at + length line) (lines after)
unfolding parts
parts-delimiter b at bytes line after split closing delimiter = rw (split, sym closing, sym delimiter) refl

pub parts-next : (b : List ℕ) (at : ℕ) (bytes line after : List ℕ) → lines bytes ≡ line ∷ lines after → false ≡ is_closing b line → false ≡ is_delimiter b line → parts b at (lines bytes) ≡ parts b (at + length line) (lines after)
unfolding parts
parts-next b at bytes line after split closing delimiter = rw (split, sym closing, sym delimiter) refl
