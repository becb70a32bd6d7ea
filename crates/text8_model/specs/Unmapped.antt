-- A text that its page doesn't map.
use Rattle.std.specs.Prelude.{ℕ, List, ◌++◌, codes, decimal}

-- the page isn't one of the four, or a byte begins no sequence of it
pub data Why : Type 0 where
  at_page : Why
  at_byte : Why

-- Which property, counted from 0 over all properties in the order in which they are shown; which of its elements, and
-- which byte of that, both counted from 0, where the page is known; and the page's number.
pub record Unmapped : Type 0 where
  pub why : Why
  pub property : ℕ
  pub element : ℕ
  pub at : ℕ
  pub page : ℕ

abbrev pub why_text : Why → List ℕ
why_text at_page = codes "Page"
why_text at_byte = codes "Byte"

-- what the report says of it
abbrev pub unmapped_text : Unmapped → List ℕ
unmapped_text x =
    codes "unmapped " ++ (why_text x.why
    ++ (codes " property " ++ (decimal x.property
    ++ (codes " element " ++ (decimal x.element
    ++ (codes " at " ++ (decimal x.at
    ++ (codes " page " ++ decimal x.page))))))))
