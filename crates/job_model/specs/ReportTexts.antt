-- How a command ends, and the one line that tells it.
use Rattle.std.specs.Prelude.{ℕ, List, [], ◌++◌, unwrap_or, codes, decimal}
use Rattle.carrier_model.specs.Limits.{Limit, too_many_names, too_many_recipients, too_many_attachments, too_large}
use Rattle.job_model.specs.Changes.{Snag, snag_text, snag_code}
use Rattle.job_model.specs.ReasonNames.{reason_name}
use Rattle.text_model.specs.TreeTexts.{line, counted}
use Rattle.carrier_model.specs.Trail.{Fault}

pub data Ending : Type 0 where
  done : Ending
  refused : (fault : Fault) → Ending
  wrong_words : Ending
  stuck : (snag : Snag) → Ending
  unfit : (limit : Limit) → Ending
  read_fault : Ending
  write_fault : Ending
  no_memory : Ending

-- a fault by its reason's number and name, and where it is
abbrev pub fault_text : Fault → List ℕ
fault_text g = counted (codes "refused") g.0 ++ (codes " " ++ (unwrap_or (reason_name g.0) [] ++ (codes " at " ++ decimal g.1)))

abbrev pub limit_text : Limit → List ℕ
limit_text (too_many_names n) = counted (codes "unfit Names") n
limit_text (too_many_recipients n) = counted (codes "unfit Recipients") n
limit_text (too_many_attachments n) = counted (codes "unfit Attachments") n
limit_text (too_large n) = counted (codes "unfit Size") n

-- nothing is said where all is done
abbrev pub report_text : Ending → List ℕ
report_text done = []
report_text (refused g) = line 0 (fault_text g)
report_text wrong_words = line 0 (codes "usage: show, check, to-msg, to-msg4, to-tnef, wrap, unwrap, to-unicode, to-json, from-json, edit EDITS, or sample N")
report_text (stuck snag) = line 0 (snag_text snag)
report_text (unfit limit) = line 0 (limit_text limit)
report_text read_fault = line 0 (codes "read fault")
report_text write_fault = line 0 (codes "write fault")
report_text no_memory = line 0 (codes "no memory")

-- the exit code of the program
abbrev pub exit_code : Ending → ℕ
exit_code done = 0
exit_code (refused g) = 1
exit_code wrong_words = 2
exit_code (stuck snag) = snag_code snag
exit_code (unfit limit) = 3
exit_code read_fault = 4
exit_code write_fault = 5
exit_code no_memory = 6
