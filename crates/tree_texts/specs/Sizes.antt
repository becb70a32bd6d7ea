-- The line that tells how large a file is.
use Rattle.std.specs.Prelude.{ℕ, List, ◌++◌, codes, decimal}
use Rattle.text_model.specs.TreeTexts.{line, counted}

-- how many bytes, and their sum
abbrev pub size_line : List ℕ → (len sum : ℕ) → List ℕ
size_line word len sum = line 0 (counted word len ++ (codes " bytes sum " ++ decimal sum))
