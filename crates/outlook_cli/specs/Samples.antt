-- What is told of a sample, by its parts.
use Rattle.std.specs.Prelude.{ℕ, List, ◌++◌, codes}
use Rattle.job_model.specs.SampleTexts.{bytes_line}
use Rattle.msg_tree.specs.Whole.{plain_of}
use Rattle.outlook_cli.specs.declared.sampling.Told.{Told}
use Rattle.text_model.specs.TreeTexts.{line, counted, count_lines}

abbrev pub text_of : Told → List ℕ
text_of s =
    line 0 (counted (codes "sample") s.number)
    ++ (count_lines (plain_of s.tree.now)
    ++ (bytes_line (codes "tnef") s.trip.now.tnef.items
    ++ (bytes_line (codes "envelope") s.trip.now.envelope.items
    ++ bytes_line (codes "msg") s.trip.now.msg.items)))
