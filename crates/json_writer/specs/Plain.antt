-- Units that need no decoder. [RFC 8259, section 7]
use Rattle.std.specs.Prelude.{◌≡◌, ◌≢◌, ◌≤◌, ◌<◌, ℕ, List, [], ◌∷◌, ◌++◌, None, false}
use Rattle.std.specs.Char.Utf16.{is_high_surrogate, is_low_surrogate}
use Rattle.json_writer.specs.Decoded.{text_left, fits_with}
use Rattle.json_writer.specs.declared.utf16.Utf16.{Utf16}

-- one of ASCII that is no control character, no quote and no backslash
pub record IsPlain (unit : ℕ) : Type 0 where
  pub from : 0x20 ≤ unit
  pub below : unit < 0x80
  pub no_quote : unit ≢ 0x22
  pub no_backslash : unit ≢ 0x5C

-- the low byte of each unit
abbrev pub lows : List ℕ → List ℕ
lows [] = []
lows (low ∷ []) = []
lows (low ∷ high ∷ more) = low ∷ lows more

-- a decoder with which nothing waits
pub record IsEmpty (u : Utf16) : Type 0 where
  pub low : u.low ≡ None
  pub high : u.high ≡ None

-- one that is none of a pair
pub record IsLone (unit : ℕ) : Type 0 where
  pub high : is_high_surrogate unit ≡ false
  pub low : is_low_surrogate unit ≡ false

-- Bytes whose units stand for themselves: an empty decoder makes their low bytes of them, and is as it was.
abbrev pub ArePlain : List ℕ → Type 0
ArePlain bytes = (u : Utf16) → IsEmpty u → (more : List ℕ) → text_left u (bytes ++ more) ≡ lows bytes ++ text_left u more

-- Bytes whose units are in no pair: they fit behind an empty decoder, and it is as it was.
abbrev pub AreLone : List ℕ → Type 0
AreLone bytes = (u : Utf16) → IsEmpty u → (more : List ℕ) → fits_with u (bytes ++ more) ≡ fits_with u more
