-- The base64 text of bytes. Source: RFC 2045, section 6.8, and RFC 4648, section 4.
use Rattle.std.specs.Prelude.{ℕ, ◌+◌, ◌*◌, ◌/◌, ◌%◌, List, [], ◌∷◌, slice_index, codes}

-- the 64 characters, by their values
unfoldable pub alphabet : List ℕ
alphabet = codes "ABCDEFGHIJKLMNOPQRSTUVWXYZabcdefghijklmnopqrstuvwxyz0123456789+/"

-- the character of a number below 64
abbrev pub symbol : ℕ → ℕ
symbol n = slice_index alphabet n

-- four characters for three bytes, and padding by `=` to a multiple of four
unfoldable pub base64_text : List ℕ → List ℕ
base64_text [] = []
base64_text (a ∷ []) = symbol (a / 4) ∷ symbol (a % 4 * 16) ∷ 61 ∷ 61 ∷ []
base64_text (a ∷ b ∷ []) = symbol (a / 4) ∷ symbol (a % 4 * 16 + b / 16) ∷ symbol (b % 16 * 4) ∷ 61 ∷ []
base64_text (a ∷ b ∷ c ∷ rest) = symbol (a / 4) ∷ symbol (a % 4 * 16 + b / 16) ∷ symbol (b % 16 * 4 + c / 64) ∷ symbol (c % 64) ∷ base64_text rest
