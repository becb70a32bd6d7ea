-- The text of a sample: its number, its totals, and the forms that its message is written in.
use Rattle.std.specs.Prelude.{ℕ, List, ◌++◌, length, codes, decimal}
use Rattle.carrier_model.specs.Bytes.{sum16}
use Rattle.mail_model.specs.EnvelopeText.{envelope_of}
use Rattle.msg_model.specs.WrittenMsg.{msg_of}
use Rattle.text_model.specs.SampleTrees.{sample_tree}
use Rattle.text_model.specs.TreeTexts.{line, counted, count_lines}
use Rattle.tnef_model.specs.TnefCanonical.{tnef_of}

abbrev pub bytes_line : List ℕ → List ℕ → List ℕ
bytes_line word x = line 0 (counted word (length x) ++ (codes " bytes sum " ++ decimal (sum16 x)))

-- the number, the totals of its tree, and of each form of it the length and the sum of its bytes
abbrev pub sample_text : ℕ → List ℕ
sample_text n =
    line 0 (counted (codes "sample") n)
    ++ (count_lines (sample_tree n)
    ++ (bytes_line (codes "tnef") (tnef_of (sample_tree n))
    ++ (bytes_line (codes "envelope") (envelope_of (tnef_of (sample_tree n)))
    ++ bytes_line (codes "msg") (msg_of (sample_tree n)))))
