-- What is to come behind a decoder.
use Rattle.std.specs.Prelude.{ℕ, Bool, ◌&&◌, List, [], ◌∷◌, ◌++◌, Option, None, Some}
use Rattle.carrier_model.specs.Bytes.{units_of}
use Rattle.json_writer.specs.Units.{units_text, all_fit}
use Rattle.json_writer.specs.declared.utf16.Utf16.{Utf16}

-- the low byte of a unit whose high byte is still to come
abbrev pub kept : Option ℕ → List ℕ
kept None = []
kept (Some low) = low ∷ []

-- the characters of the bytes behind it
abbrev pub text_left : Utf16 → List ℕ → List ℕ
text_left u bytes = units_text u.high (units_of (kept u.low ++ bytes))

-- all was well so far, and is with these bytes at the end
abbrev pub fits_with : Utf16 → List ℕ → Bool
fits_with u bytes = u.fits && all_fit u.high (units_of (kept u.low ++ bytes))
