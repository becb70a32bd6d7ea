-- What a status says.
use Rattle.std.specs.Prelude.{◌≡◌, ◌≤◌, ◌<◌, ℕ, length, List, Bool, true, false, Option, Some, None, IfSome, Result, Ok, Err}
use Rattle.std.specs.Io.KnownBytes.{Appends, IsAtEnd}
use Rattle.carrier_io.specs.Known.{AppendsFront}
use Rattle.carrier_io.specs.Reads.{FaultOnly, MeansOnly}
use Rattle.carrier_io.specs.Reasons.{fault_of}
use Rattle.carrier_io.specs.declared.reasons.Stop.{Stop}
use Rattle.carrier_io.specs.declared.reasons.Stop.TheVariants as stops
use Rattle.carrier_model.specs.Bytes.{MOST_BYTES}
use Rattle.carrier_model.specs.Limits as limits
use Rattle.carrier_model.specs.Reasons.{INPUT_TOO_LONG}
use Rattle.carrier_model.specs.Meanings.{Meaning}
use Rattle.job_model.specs.Acceptance.{Accepts, FaultOf}
use Rattle.carrier_model.specs.Tree.{Message}
use Rattle.job_model.specs.Changes.{Snag, unmapped, undone, no_tree, changed}
use Rattle.job_model.specs.Commands.{Command, show, check, translate, change, to_json, from_json, sample, Change, Job, to_msg, to_tnef}
use Rattle.job_model.specs.SampleTexts.{sample_text}
use Rattle.json_model.specs.Faults.{JsonFault}
use Rattle.json_model.specs.JsonMeanings.{MOST_JSON, TextMeansTree, FirstJsonFault}
use Rattle.json_model.specs.MessageForms.{json_text}
use Rattle.job_model.specs.Signatures.{is_compound}
use Rattle.job_model.specs.Targets.{passed_limit}
use Rattle.text_model.specs.TreeTexts.{Carrier, msg_file, tnef_stream, show_text, check_text}
use Rattle.msg_tree.specs.Limiting.{limit_of}
use Rattle.outlook_status.specs.declared.status.Status.{Status}
use Rattle.outlook_status.specs.declared.status.Status.TheVariants.{Done, Refused, Usage, Unmapped, Edit, Json, Unfit, ReadFault, WriteFault, NoMemory}
use Rattle.translate_core.specs.Ends.{Translated, TooMuch, Broken, Written, CutOff}
use Rattle.tree_edit.specs.Meaning.{fault_of as edit_fault_of}
use Rattle.tree_from_json.specs.Ends.{plain_fault as json_fault_of}
use Rattle.tree_text8.specs.Meaning.{unmapped_of}
use Rattle.tree_text8.specs.declared.ends.TextEnd.{TextEnd}
use Rattle.tree_text8.specs.declared.ends.TextEnd.TheVariants as texts

-- ---- texts

-- the carrier that bytes begin as, of the two that have a message's own bytes
abbrev pub carrier_by : Bool → Carrier
carrier_by true = msg_file
carrier_by false = tnef_stream

-- what is said of the meaning of bytes
abbrev pub shown : List ℕ → Meaning → List ℕ
shown bytes m = show_text m.message

abbrev pub checked : List ℕ → Meaning → List ℕ
checked bytes m = check_text (carrier_by (is_compound bytes)) m.message m.passed

-- The bytes are accepted as this message, and as nothing else, and all of its text was appended. What has a text is what
-- can be made into a stream.
pub record Told (text : List ℕ → Meaning → List ℕ) (bytes : List ℕ) (old new : Option (List ℕ)) : Type 0 where
  pub m : Meaning
  pub accepted : MeansOnly (Accepts to_tnef bytes) (FaultOf to_tnef bytes) m
  pub appended : Appends old new (text bytes m)

-- A front of it was.
pub record CutShort (text : List ℕ → Meaning → List ℕ) (bytes : List ℕ) (old new : Option (List ℕ)) : Type 0 where
  pub m : Meaning
  pub accepted : MeansOnly (Accepts to_tnef bytes) (FaultOf to_tnef bytes) m
  pub front : AppendsFront old new (text bytes m)

-- ---- parts of an answer

-- the status of a reader that stopped
abbrev pub status_of : Stop → Status
status_of (stops.Fault g) = Refused g
status_of stops.NoMemory = NoMemory

-- the status of a conversion that ended without a tree
abbrev pub status_of_text : TextEnd → Status
status_of_text (texts.Unmapped at) = Unmapped at
status_of_text texts.NoMemory = NoMemory

-- a text was appended, or a front of it
abbrev pub IsText : List ℕ → Option (List ℕ) → Option (List ℕ) → Status → Type 0
IsText text old new Done = Appends old new text
IsText text old new (Refused g) = ⊥
IsText text old new Usage = ⊥
IsText text old new (Unmapped at) = ⊥
IsText text old new (Edit at) = ⊥
IsText text old new (Json at) = ⊥
IsText text old new (Unfit limit) = ⊥
IsText text old new ReadFault = ⊥
IsText text old new WriteFault = AppendsFront old new text
IsText text old new NoMemory = Unit {0}

-- ---- by the command

-- of a text of bytes, and of what the output held before and holds after
abbrev pub TellsText : (List ℕ → Meaning → List ℕ) → List ℕ → Option (List ℕ) → Option (List ℕ) → Status → Type 0
TellsText text bytes old new Done = Told text bytes old new
TellsText text bytes old new (Refused g) = FaultOnly (Accepts to_tnef bytes) (FaultOf to_tnef bytes) (fault_of g)
TellsText text bytes old new Usage = ⊥
TellsText text bytes old new (Unmapped at) = ⊥
TellsText text bytes old new (Edit at) = ⊥
TellsText text bytes old new (Json at) = ⊥
TellsText text bytes old new (Unfit limit) = ⊥
TellsText text bytes old new ReadFault = Unit {0}
TellsText text bytes old new WriteFault = CutShort text bytes old new
TellsText text bytes old new NoMemory = Unit {0}

-- of a job
abbrev pub TellsJob : Job → List ℕ → Option (List ℕ) → Option (List ℕ) → Status → Type 0
TellsJob job bytes old new Done = Translated job bytes old new
TellsJob job bytes old new (Refused g) = FaultOnly (Accepts job bytes) (FaultOf job bytes) (fault_of g)
TellsJob job bytes old new Usage = ⊥
TellsJob job bytes old new (Unmapped at) = ⊥
TellsJob job bytes old new (Edit at) = ⊥
TellsJob job bytes old new (Json at) = ⊥
TellsJob job bytes old new (Unfit limit) = TooMuch job bytes (limit_of limit)
TellsJob job bytes old new ReadFault = Unit {0}
TellsJob job bytes old new WriteFault = Broken job bytes old new
TellsJob job bytes old new NoMemory = Unit {0}

-- ---- changes

-- of a message whose file is written
abbrev pub PutsFile : Message → List ℕ → Option (List ℕ) → Option (List ℕ) → Status → Type 0
PutsFile t bytes old new Done = Written to_msg t bytes old new
PutsFile t bytes old new (Refused g) = ⊥
PutsFile t bytes old new Usage = ⊥
PutsFile t bytes old new (Unmapped at) = ⊥
PutsFile t bytes old new (Edit at) = ⊥
PutsFile t bytes old new (Json at) = ⊥
PutsFile t bytes old new (Unfit limit) = passed_limit to_msg t bytes ≡ Some (limit_of limit)
PutsFile t bytes old new ReadFault = ⊥
PutsFile t bytes old new WriteFault = CutOff to_msg t bytes old new
PutsFile t bytes old new NoMemory = Unit {0}

-- why there is no message
abbrev pub IsSnag : Snag → Status → Type 0
IsSnag snag Done = ⊥
IsSnag snag (Refused g) = ⊥
IsSnag snag Usage = ⊥
IsSnag snag (Unmapped at) = snag ≡ unmapped (unmapped_of at)
IsSnag snag (Edit at) = snag ≡ undone (edit_fault_of at)
IsSnag snag (Json at) = snag ≡ no_tree (json_fault_of at)
IsSnag snag (Unfit limit) = ⊥
IsSnag snag ReadFault = Unit {0}
IsSnag snag WriteFault = ⊥
IsSnag snag NoMemory = Unit {0}

-- of what became of a message
abbrev pub PutsChange : Result Message Snag → List ℕ → Option (List ℕ) → Option (List ℕ) → Status → Type 0
PutsChange (Ok t) bytes old new s = PutsFile t bytes old new s
PutsChange (Err snag) bytes old new s = IsSnag snag s

-- The bytes are accepted as this message, and as nothing else, and this is said of what became of it.
pub record ToldOfChange (what : Change) (bytes : List ℕ) (old new : Option (List ℕ)) (s : Status) : Type 0 where
  pub m : Meaning
  pub accepted : MeansOnly (Accepts to_msg bytes) (FaultOf to_msg bytes) m
  pub put : PutsChange (changed what m.message) bytes old new s

-- of bytes whose message is changed
abbrev pub TellsChange : Change → List ℕ → Option (List ℕ) → Option (List ℕ) → Status → Type 0
TellsChange what bytes old new Done = ToldOfChange what bytes old new Done
TellsChange what bytes old new (Refused g) = FaultOnly (Accepts to_msg bytes) (FaultOf to_msg bytes) (fault_of g)
TellsChange what bytes old new Usage = ⊥
TellsChange what bytes old new (Unmapped at) = ToldOfChange what bytes old new (Unmapped at)
TellsChange what bytes old new (Edit at) = ToldOfChange what bytes old new (Edit at)
TellsChange what bytes old new (Json at) = ⊥
TellsChange what bytes old new (Unfit limit) = ToldOfChange what bytes old new (Unfit limit)
TellsChange what bytes old new ReadFault = Unit {0}
TellsChange what bytes old new WriteFault = ToldOfChange what bytes old new WriteFault
TellsChange what bytes old new NoMemory = Unit {0}

-- ---- JSON texts

-- The bytes are accepted as this message, and as nothing else, and this is said of it.
pub record ToldOfJson (says : Message → Type 0) (bytes : List ℕ) : Type 0 where
  pub m : Meaning
  pub accepted : MeansOnly (Accepts to_tnef bytes) (FaultOf to_tnef bytes) m
  pub said : says m.message

abbrev pub IsShort : List ℕ → Type 0
IsShort text = length text ≤ MOST_JSON

-- a text that is too long, and how long it is
abbrev pub IsLong : limits.Limit → List ℕ → Type 0
IsLong limit text = (MOST_JSON < length text) × (limit ≡ limits.too_large (length text))

-- Exactly the message's JSON text was appended, which means the message.
pub record JsonPut (t : Message) (old new : Option (List ℕ)) : Type 0 where
  pub short : IsShort (json_text t)
  pub appended : Appends old new (json_text t)
  pub means : TextMeansTree (json_text t) t

-- A front of it was.
pub record JsonCut (t : Message) (old new : Option (List ℕ)) : Type 0 where
  pub short : IsShort (json_text t)
  pub front : AppendsFront old new (json_text t)

-- of the JSON text of a message
abbrev pub PutsJson : Message → Option (List ℕ) → Option (List ℕ) → Status → Type 0
PutsJson t old new Done = JsonPut t old new
PutsJson t old new (Refused g) = ⊥
PutsJson t old new Usage = ⊥
PutsJson t old new (Unmapped at) = ⊥
PutsJson t old new (Edit at) = ⊥
PutsJson t old new (Json at) = ⊥
PutsJson t old new (Unfit limit) = IsLong (limit_of limit) (json_text t)
PutsJson t old new ReadFault = ⊥
PutsJson t old new WriteFault = JsonCut t old new
PutsJson t old new NoMemory = Unit {0}

-- of the JSON text of bytes
abbrev pub TellsJson : List ℕ → Option (List ℕ) → Option (List ℕ) → Status → Type 0
TellsJson bytes old new Done = ToldOfJson (λ t. JsonPut t old new) bytes
TellsJson bytes old new (Refused g) = FaultOnly (Accepts to_tnef bytes) (FaultOf to_tnef bytes) (fault_of g)
TellsJson bytes old new Usage = ⊥
TellsJson bytes old new (Unmapped at) = ⊥
TellsJson bytes old new (Edit at) = ⊥
TellsJson bytes old new (Json at) = ⊥
TellsJson bytes old new (Unfit limit) = ToldOfJson (λ t. IsLong (limit_of limit) (json_text t)) bytes
TellsJson bytes old new ReadFault = Unit {0}
TellsJson bytes old new WriteFault = ToldOfJson (λ t. JsonCut t old new) bytes
TellsJson bytes old new NoMemory = Unit {0}

-- ---- messages of JSON texts

-- more bytes than a JSON text has
abbrev pub IsTooLong : List ℕ → ℕ × ℕ → Type 0
IsTooLong bytes g = (MOST_JSON < length bytes) × (g ≡ (INPUT_TOO_LONG, MOST_JSON))

-- The text means this message, and this is said of its file.
pub record ToldOfTree (bytes : List ℕ) (old new : Option (List ℕ)) (s : Status) : Type 0 where
  pub t : Message
  pub short : IsShort bytes
  pub meant : TextMeansTree bytes t
  pub put : PutsFile t bytes old new s

-- of the message that a JSON text means
abbrev pub TellsTree : List ℕ → Option (List ℕ) → Option (List ℕ) → Status → Type 0
TellsTree bytes old new Done = ToldOfTree bytes old new Done
TellsTree bytes old new (Refused g) = IsTooLong bytes (fault_of g)
TellsTree bytes old new Usage = ⊥
TellsTree bytes old new (Unmapped at) = ⊥
TellsTree bytes old new (Edit at) = ⊥
TellsTree bytes old new (Json at) = IsShort bytes × FirstJsonFault bytes (json_fault_of at)
TellsTree bytes old new (Unfit limit) = ToldOfTree bytes old new (Unfit limit)
TellsTree bytes old new ReadFault = Unit {0}
TellsTree bytes old new WriteFault = ToldOfTree bytes old new WriteFault
TellsTree bytes old new NoMemory = Unit {0}

-- ---- commands

-- the most bytes of an input; nothing is read for a sample
abbrev pub most_bytes : Command → ℕ
most_bytes show = MOST_BYTES
most_bytes check = MOST_BYTES
most_bytes (translate job) = MOST_BYTES
most_bytes (change what) = MOST_BYTES
most_bytes to_json = MOST_BYTES
most_bytes from_json = MOST_JSON
most_bytes (sample n) = 0

-- Of a command, of what the input held where it tells that, and of what the output held before and holds after. Nothing is
-- read for a sample.
abbrev pub Tells : Command → Option (List ℕ) → Option (List ℕ) → Option (List ℕ) → Status → Type 0
Tells show left old new s = IfSome left (λ bytes. TellsText shown bytes old new s)
Tells check left old new s = IfSome left (λ bytes. TellsText checked bytes old new s)
Tells (translate job) left old new s = IfSome left (λ bytes. TellsJob job bytes old new s)
Tells (change what) left old new s = IfSome left (λ bytes. TellsChange what bytes old new s)
Tells to_json left old new s = IfSome left (λ bytes. TellsJson bytes old new s)
Tells from_json left old new s = IfSome left (λ bytes. TellsTree bytes old new s)
Tells (sample n) left old new s = IsText (sample_text n) old new s

-- Done leaves nothing of the input that a command reads; the rest of it is as it was for a sample
abbrev pub LeavesAtDone : Command → Option (List ℕ) → Option (List ℕ) → Type 0
LeavesAtDone show old new = IsAtEnd new
LeavesAtDone check old new = IsAtEnd new
LeavesAtDone (translate job) old new = IsAtEnd new
LeavesAtDone (change what) old new = IsAtEnd new
LeavesAtDone to_json old new = IsAtEnd new
LeavesAtDone from_json old new = IsAtEnd new
LeavesAtDone (sample n) old new = new ≡ old

-- after every other status the output is as it was
abbrev pub WritesNothing : {O : Type 0} → Status → O → O → Type 0
WritesNothing Done old new = Unit {0}
WritesNothing WriteFault old new = Unit {0}
WritesNothing (Refused g) old new = new ≡ old
WritesNothing Usage old new = new ≡ old
WritesNothing (Unmapped at) old new = new ≡ old
WritesNothing (Edit at) old new = new ≡ old
WritesNothing (Json at) old new = new ≡ old
WritesNothing (Unfit limit) old new = new ≡ old
WritesNothing ReadFault old new = new ≡ old
WritesNothing NoMemory old new = new ≡ old

-- ---- the answers that there are

-- the answer where the bytes are accepted and no limit is passed, and no other
abbrev pub IsDone : Status → Type 0
IsDone Done = Unit {0}
IsDone (Refused g) = ⊥
IsDone Usage = ⊥
IsDone (Unmapped at) = ⊥
IsDone (Edit at) = ⊥
IsDone (Json at) = ⊥
IsDone (Unfit limit) = ⊥
IsDone ReadFault = Unit {0}
IsDone WriteFault = Unit {0}
IsDone NoMemory = Unit {0}

-- the answer where they are accepted and this is the first limit that is passed, and no other
abbrev pub IsUnfit : limits.Limit → Status → Type 0
IsUnfit limit Done = ⊥
IsUnfit limit (Refused g) = ⊥
IsUnfit limit Usage = ⊥
IsUnfit limit (Unmapped at) = ⊥
IsUnfit limit (Edit at) = ⊥
IsUnfit limit (Json at) = ⊥
IsUnfit limit (Unfit other) = limit_of other ≡ limit
IsUnfit limit ReadFault = Unit {0}
IsUnfit limit WriteFault = ⊥
IsUnfit limit NoMemory = Unit {0}

-- the answer where they are refused for g, and no other
abbrev pub IsRefused : ℕ × ℕ → Status → Type 0
IsRefused g Done = ⊥
IsRefused g (Refused h) = fault_of h ≡ g
IsRefused g Usage = ⊥
IsRefused g (Unmapped at) = ⊥
IsRefused g (Edit at) = ⊥
IsRefused g (Json at) = ⊥
IsRefused g (Unfit limit) = ⊥
IsRefused g ReadFault = Unit {0}
IsRefused g WriteFault = ⊥
IsRefused g NoMemory = Unit {0}

-- Every input has one of three answers; only a fault of a device, or want of memory, excuses another.
pub record IsAnswered (job : Job) (bytes : List ℕ) (s : Status) : Type 0 where
  pub done : (m : Meaning) → Accepts job bytes m → passed_limit job m.message bytes ≡ None → IsDone s
  pub unfit : (m : Meaning) (limit : limits.Limit) → Accepts job bytes m → passed_limit job m.message bytes ≡ Some limit → IsUnfit limit s
  pub refused : (g : ℕ × ℕ) → FaultOf job bytes g → IsRefused g s

-- A text has no limit: every input has one of two.
pub record IsTold (bytes : List ℕ) (s : Status) : Type 0 where
  pub done : (m : Meaning) → Accepts to_tnef bytes m → IsDone s
  pub refused : (g : ℕ × ℕ) → FaultOf to_tnef bytes g → IsRefused g s

-- Of a change there are four: the file of what became of the message, the first limit that it passes, the first thing that
-- stands against the change, or the input's fault.
pub record IsChangeAnswered (what : Change) (bytes : List ℕ) (s : Status) : Type 0 where
  pub done : (m : Meaning) (t : Message) → Accepts to_msg bytes m → changed what m.message ≡ Ok t → passed_limit to_msg t bytes ≡ None → IsDone s
  pub unfit : (m : Meaning) (t : Message) (limit : limits.Limit) → Accepts to_msg bytes m → changed what m.message ≡ Ok t → passed_limit to_msg t bytes ≡ Some limit → IsUnfit limit s
  pub stuck : (m : Meaning) (snag : Snag) → Accepts to_msg bytes m → changed what m.message ≡ Err snag → IsSnag snag s
  pub refused : (g : ℕ × ℕ) → FaultOf to_msg bytes g → IsRefused g s

-- Of a JSON text there are three: the text, its length where that is too much, or the input's fault.
pub record IsJsonAnswered (bytes : List ℕ) (s : Status) : Type 0 where
  pub done : (m : Meaning) → Accepts to_tnef bytes m → IsShort (json_text m.message) → IsDone s
  pub unfit : (m : Meaning) → Accepts to_tnef bytes m → MOST_JSON < length (json_text m.message) → IsUnfit (limits.too_large (length (json_text m.message))) s
  pub refused : (g : ℕ × ℕ) → FaultOf to_tnef bytes g → IsRefused g s

-- Of the message of a JSON text there are four: its file, the first limit that it passes, why there is none, or that the
-- text is too long.
pub record IsTreeAnswered (bytes : List ℕ) (s : Status) : Type 0 where
  pub done : (t : Message) → IsShort bytes → TextMeansTree bytes t → passed_limit to_msg t bytes ≡ None → IsDone s
  pub unfit : (t : Message) (limit : limits.Limit) → IsShort bytes → TextMeansTree bytes t → passed_limit to_msg t bytes ≡ Some limit → IsUnfit limit s
  pub stuck : (g : JsonFault) → IsShort bytes → FirstJsonFault bytes g → IsSnag (no_tree g) s
  pub refused : (g : ℕ × ℕ) → IsTooLong bytes g → IsRefused g s

abbrev pub Answers : Command → Option (List ℕ) → Status → Type 0
Answers show left s = IfSome left (λ bytes. IsTold bytes s)
Answers check left s = IfSome left (λ bytes. IsTold bytes s)
Answers (translate job) left s = IfSome left (λ bytes. IsAnswered job bytes s)
Answers (change what) left s = IfSome left (λ bytes. IsChangeAnswered what bytes s)
Answers to_json left s = IfSome left (λ bytes. IsJsonAnswered bytes s)
Answers from_json left s = IfSome left (λ bytes. IsTreeAnswered bytes s)
Answers (sample n) left s = IsDone s
