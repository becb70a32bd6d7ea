-- How a run ends, as the definitions have it, and the line of the report.
use Rattle.std.specs.Prelude.{◌⊎◌, ℕ, List, Option}
use Rattle.std.specs.Io.KnownBytes.{Appends}
use Rattle.carrier_io.specs.Causes.{Rose}
use Rattle.carrier_io.specs.Known.{AppendsFront}
use Rattle.carrier_io.specs.Reasons.{fault_of}
use Rattle.job_model.specs.ReportTexts.{Ending, done, refused, wrong_words, stuck, unfit, read_fault, write_fault, no_memory, report_text}
use Rattle.job_model.specs.Changes.{unmapped, undone, no_tree}
use Rattle.msg_tree.specs.Limiting.{limit_of}
use Rattle.tree_edit.specs.Meaning.{fault_of as edit_fault_of}
use Rattle.tree_from_json.specs.Ends.{plain_fault as json_fault_of}
use Rattle.tree_text8.specs.Meaning.{unmapped_of}
use Rattle.outlook_status.specs.declared.status.Status.{Status}
use Rattle.outlook_status.specs.declared.status.Status.TheVariants.{Done, Refused, Usage, Unmapped, Edit, Json, Unfit, ReadFault, WriteFault, NoMemory}

abbrev pub ending_of : Status → Ending
ending_of Done = done
ending_of (Refused g) = refused (fault_of g)
ending_of Usage = wrong_words
ending_of (Unmapped at) = stuck (unmapped (unmapped_of at))
ending_of (Edit at) = stuck (undone (edit_fault_of at))
ending_of (Json at) = stuck (no_tree (json_fault_of at))
ending_of (Unfit limit) = unfit (limit_of limit)
ending_of ReadFault = read_fault
ending_of WriteFault = write_fault
ending_of NoMemory = no_memory

-- the line of a status, or nothing
abbrev pub line_of : Status → List ℕ
line_of s = report_text (ending_of s)

-- all of the bytes were appended, or a front of them and a failure was counted
abbrev pub Reports : Option (List ℕ) → Option (List ℕ) → ℕ → ℕ → List ℕ → Type 0
Reports old new before now bytes = Appends old new bytes ⊎ (AppendsFront old new bytes × Rose before now)
