-- The words of a command, as bytes, and the commands as the definitions have them.
use Rattle.std.specs.Prelude.{ℕ, ◌≤◌, List, map, String, string_bytes}
use Rattle.std.specs.declared.alloc.Global.{Global}
use Rattle.job_model.specs.Commands as plain
use Rattle.outlook_cli.specs.declared.words.Command.{Command}
use Rattle.outlook_cli.specs.declared.words.Command.TheVariants.{Show, Check, Translate, ToUnicode, ToJson, FromJson, Edit, Sample}
use Rattle.text_model.specs.SampleTrees.{GREATEST_SAMPLE}
use Rattle.translate_core.specs.Jobs.{job_seen}

abbrev pub texts : List (String Global) → List (List ℕ)
texts words = map string_bytes words

abbrev pub command_seen : Command → plain.Command
command_seen Show = plain.show
command_seen Check = plain.check
command_seen (Translate job) = plain.translate (job_seen job)
command_seen ToUnicode = plain.change plain.to_unicode
command_seen ToJson = plain.to_json
command_seen FromJson = plain.from_json
command_seen (Edit edits) = plain.change (plain.edited edits)
command_seen (Sample number) = plain.sample number

-- a sample has a number that there is a sample of
abbrev pub IsSample : Command → Type 0
IsSample Show = Unit {0}
IsSample Check = Unit {0}
IsSample (Translate job) = Unit {0}
IsSample ToUnicode = Unit {0}
IsSample (Edit edits) = Unit {0}
IsSample ToJson = Unit {0}
IsSample FromJson = Unit {0}
IsSample (Sample number) = number ≤ GREATEST_SAMPLE

-- it reads an input
abbrev pub Reads : plain.Command → Type 0
Reads plain.show = Unit {0}
Reads plain.check = Unit {0}
Reads (plain.translate job) = Unit {0}
Reads (plain.change what) = Unit {0}
Reads plain.to_json = Unit {0}
Reads plain.from_json = Unit {0}
Reads (plain.sample number) = ⊥
