-- One attachment, in print.
use Rattle.std.specs.Prelude.{ℕ, ◌+◌, List, ◌++◌, codes}
use Rattle.carrier_model.specs.Tree.{Attached}
use Rattle.text_model.specs.TreeTexts.{line, counted, prop_lines, body_lines}

-- an attachment at an indent, by its number
abbrev pub attachment_text : (indent i : ℕ) → Attached → List ℕ
attachment_text indent i one =
    line indent (counted (codes "attachment") i) ++ (prop_lines (indent + 2) one.0 ++ body_lines (indent + 2) one.1)
