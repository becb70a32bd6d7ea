-- Lines and words of a mail text. Source: RFC 2045, section 2, and RFC 5322, section 2.
use Rattle.std.specs.Prelude.{ℕ, suc, ◌-◌, ◌==◌, Bool, false, not, if◌then◌else◌, List, [], ◌∷◌, ◌||◌, length, take, drop, codes, nat_eq, nat_lt}
use Rattle.std.specs.List.{prefix_len, suffix_len, list_all, starts_with, ends_with}
use Rattle.std.specs.Str.{str_eq_ignore_ascii_case}

-- a byte in front of the first line
abbrev pub begin_with : ℕ → List (List ℕ) → List (List ℕ)
begin_with c [] = (c ∷ []) ∷ []
begin_with c (line ∷ others) = (c ∷ line) ∷ others

-- The lines of bytes, each with its end. A line ends behind a line feed; the last one may have no end.
unfoldable pub lines : List ℕ → List (List ℕ)
lines [] = []
lines (c ∷ rest) = if c == 10 then (c ∷ []) ∷ lines rest else begin_with c (lines rest)

-- how many bytes end a line: a carriage return and a line feed, a line feed, or nothing
abbrev pub end_size : List ℕ → ℕ
end_size line = if ends_with nat_eq line (codes "\r\n") then 2 else if ends_with nat_eq line (codes "\n") then 1 else 0

-- a line without its end
unfoldable pub text_of : List ℕ → List ℕ
text_of line = take (length line - end_size line) line

-- a space or a tab
abbrev pub is_blank : ℕ → Bool
is_blank c = c == 32 || c == 9

-- a text without the blanks around it
unfoldable pub trimmed : List ℕ → List ℕ
trimmed text = let rest = drop (prefix_len is_blank text) text in take (length rest - suffix_len is_blank rest) rest

-- how many bytes stand before the first c, or in all
unfoldable pub size_before : ℕ → List ℕ → ℕ
size_before c text = prefix_len (λ b. not (b == c)) text

-- what stands before the first c, and what behind it; where there is none, all and nothing
abbrev pub before : ℕ → List ℕ → List ℕ
before c text = take (size_before c text) text

abbrev pub behind : ℕ → List ℕ → List ℕ
behind c text = drop (suc (size_before c text)) text

abbrev pub has : ℕ → List ℕ → Bool
has c text = nat_lt (size_before c text) (length text)

-- whether a text, without the blanks around it, is this word; letters in either case
unfoldable pub is_word : List ℕ → List ℕ → Bool
is_word word text = str_eq_ignore_ascii_case (trimmed text) word

-- whether a line is this mark, and then only blanks
unfoldable pub is_mark : List ℕ → List ℕ → Bool
is_mark mark line = if starts_with nat_eq (text_of line) mark then list_all is_blank (drop (length mark) (text_of line)) else false
