-- The answers that there are for a command.
use Rattle.std.proofs.Common.{◌≡◌, ◌∙◌, ℕ, ◌≤◌, ◌<◌, ◌+◌, inl, inr, length, arith, List, Option, Some, None, sym, ap, subst, refl, Result, Ok, Err}
use Rattle.std.specs.Prelude.{IfSome}
use Rattle.std.specs.Io.KnownBytes.{IsAtEnd}
use Rattle.carrier_io.specs.Known.{Takes}
use Rattle.carrier_io.specs.Reads.{MeansOnly, FaultOnly}
use Rattle.carrier_io.specs.Reasons.{fault_of}
use Rattle.carrier_io.specs.declared.reasons.Fault.{Fault}
use Rattle.carrier_model.specs.Bytes.{MOST_BYTES}
use Rattle.carrier_model.specs.Limits as limits
use Rattle.carrier_model.specs.Reasons.{INPUT_TOO_LONG}
use Rattle.carrier_model.specs.Meanings.{Meaning}
use Rattle.job_model.specs.Acceptance.{Accepts, FaultOf, CarriesMessage, MessageFault}
use Rattle.carrier_model.specs.Tree.{Message}
use Rattle.job_model.specs.Changes.{Snag, no_tree, changed, unless_unmapped, unless_undone}
use Rattle.job_model.specs.Commands.{Command, show, check, translate, change, to_unicode, edited, to_json, from_json, sample, Change, Job, to_msg, to_tnef}
use Rattle.job_model.specs.Targets.{passed_limit}
use Rattle.edit_model.specs.Edits.{EditFault, edited_tree}
use Rattle.json_model.specs.Faults.{JsonFault}
use Rattle.json_model.specs.JsonMeanings.{MOST_JSON, TextMeansTree, FirstJsonFault}
use Rattle.json_model.specs.MessageForms.{json_text}
use Rattle.outlook_status.specs.declared.status.Status.{Status}
use Rattle.outlook_status.specs.declared.status.Status.TheVariants.{Done, Refused, Usage, Unmapped, Edit, Json, Unfit, ReadFault, WriteFault, NoMemory}
use Rattle.outlook_cli.specs.Outcome.{Tells, TellsJob, TellsText, TellsChange, TellsJson, TellsTree, PutsJson, IsShort, IsTooLong, IsJsonAnswered, IsTreeAnswered, most_bytes, ToldOfChange, PutsChange, PutsFile, IsSnag, status_of_text, IsChangeAnswered, IsText, shown, checked, IsDone, IsUnfit, IsRefused, IsAnswered, IsTold, Answers, LeavesAtDone}
use Rattle.outlook_cli.specs.Words.{Reads}
use Rattle.json_model.proofs.CompleteMessages.{one_tree_of_text, one_fault_of_text, no_fault_of_text}
use Rattle.text8_model.specs.Unicode.{converted, first_unmapped}
use Rattle.text8_model.specs.Unmapped as texts8
use Rattle.tree_from_json.specs.Ends.{plain_fault as json_fault_of}
use Rattle.tree_text8.specs.Whole.{IsFirstEnd}
use Rattle.tree_text8.specs.declared.ends.TextEnd.{TextEnd}
use Rattle.tree_text8.specs.declared.ends.TextEnd.TheVariants as texts

-- ---- of a job

is_done : (job : Job) (bytes : List ℕ) (old new : Option (List ℕ)) (s : Status) → TellsJob job bytes old new s → (m : Meaning) → Accepts job bytes m → passed_limit job m.message bytes ≡ None → IsDone s
is_done job bytes old new Done t m a n = tt
is_done job bytes old new (Refused g) t m a n = t.meaningless m a
is_done job bytes old new Usage t m a n = t
is_done job bytes old new (Unmapped at) t m a n = t
is_done job bytes old new (Edit at) t m a n = t
is_done job bytes old new (Json at) t m a n = t
is_done job bytes old new (Unfit limit) t m a n = let same = ap (λ (k : Meaning). passed_limit job k.message bytes) (t.accepted.only m a) in let some = t.passes in absurd cc
is_done job bytes old new ReadFault t m a n = tt
is_done job bytes old new WriteFault t m a n = tt
is_done job bytes old new NoMemory t m a n = tt

is_unfit : (job : Job) (bytes : List ℕ) (old new : Option (List ℕ)) (s : Status) → TellsJob job bytes old new s → (m : Meaning) (limit : limits.Limit) → Accepts job bytes m → passed_limit job m.message bytes ≡ Some limit → IsUnfit limit s
is_unfit job bytes old new Done t m limit a n = let same = ap (λ (k : Meaning). passed_limit job k.message bytes) (t.accepted.only m a) in let none = t.written.fits in cc
is_unfit job bytes old new (Refused g) t m limit a n = t.meaningless m a
is_unfit job bytes old new Usage t m limit a n = t
is_unfit job bytes old new (Unmapped at) t m limit a n = t
is_unfit job bytes old new (Edit at) t m limit a n = t
is_unfit job bytes old new (Json at) t m limit a n = t
is_unfit job bytes old new (Unfit other) t m limit a n = let same = ap (λ (k : Meaning). passed_limit job k.message bytes) (t.accepted.only m a) in let some = t.passes in cc
is_unfit job bytes old new ReadFault t m limit a n = tt
is_unfit job bytes old new WriteFault t m limit a n = let same = ap (λ (k : Meaning). passed_limit job k.message bytes) (t.accepted.only m a) in let none = t.front.fits in cc
is_unfit job bytes old new NoMemory t m limit a n = tt

is_refused : (job : Job) (bytes : List ℕ) (old new : Option (List ℕ)) (s : Status) → TellsJob job bytes old new s → (g : ℕ × ℕ) → FaultOf job bytes g → IsRefused g s
is_refused job bytes old new Done t g f = t.accepted.faultless g f
is_refused job bytes old new (Refused h) t g f = sym (t.only g f)
is_refused job bytes old new Usage t g f = t
is_refused job bytes old new (Unmapped at) t g f = t
is_refused job bytes old new (Edit at) t g f = t
is_refused job bytes old new (Json at) t g f = t
is_refused job bytes old new (Unfit limit) t g f = t.accepted.faultless g f
is_refused job bytes old new ReadFault t g f = tt
is_refused job bytes old new WriteFault t g f = t.accepted.faultless g f
is_refused job bytes old new NoMemory t g f = tt

-- ---- of a text

text_done : (text : List ℕ → Meaning → List ℕ) (bytes : List ℕ) (old new : Option (List ℕ)) (s : Status) → TellsText text bytes old new s → (m : Meaning) → Accepts to_tnef bytes m → IsDone s
text_done text bytes old new Done t m a = tt
text_done text bytes old new (Refused g) t m a = t.meaningless m a
text_done text bytes old new Usage t m a = t
text_done text bytes old new (Unmapped at) t m a = t
text_done text bytes old new (Edit at) t m a = t
text_done text bytes old new (Json at) t m a = t
text_done text bytes old new (Unfit limit) t m a = t
text_done text bytes old new ReadFault t m a = tt
text_done text bytes old new WriteFault t m a = tt
text_done text bytes old new NoMemory t m a = tt

text_refused : (text : List ℕ → Meaning → List ℕ) (bytes : List ℕ) (old new : Option (List ℕ)) (s : Status) → TellsText text bytes old new s → (g : ℕ × ℕ) → FaultOf to_tnef bytes g → IsRefused g s
text_refused text bytes old new Done t g f = t.accepted.faultless g f
text_refused text bytes old new (Refused h) t g f = sym (t.only g f)
text_refused text bytes old new Usage t g f = t
text_refused text bytes old new (Unmapped at) t g f = t
text_refused text bytes old new (Edit at) t g f = t
text_refused text bytes old new (Json at) t g f = t
text_refused text bytes old new (Unfit limit) t g f = absurd t
text_refused text bytes old new ReadFault t g f = tt
text_refused text bytes old new WriteFault t g f = t.accepted.faultless g f
text_refused text bytes old new NoMemory t g f = tt

told : (text : List ℕ → Meaning → List ℕ) (left old new : Option (List ℕ)) (s : Status) → IfSome left (λ bytes. TellsText text bytes old new s) → IfSome left (λ bytes. IsTold bytes s)
told text None old new s t = tt
told text (Some bytes) old new s t = record { done = text_done text bytes old new s t; refused = text_refused text bytes old new s t }

-- ---- of a sample

sample_done : (text : List ℕ) (old new : Option (List ℕ)) (s : Status) → IsText text old new s → IsDone s
sample_done text old new Done t = tt
sample_done text old new (Refused g) t = t
sample_done text old new Usage t = t
sample_done text old new (Unmapped at) t = t
sample_done text old new (Edit at) t = t
sample_done text old new (Json at) t = t
sample_done text old new (Unfit limit) t = t
sample_done text old new ReadFault t = tt
sample_done text old new WriteFault t = tt
sample_done text old new NoMemory t = tt

-- ---- of a change

put_done : (what : Change) (bytes : List ℕ) (old new : Option (List ℕ)) (s : Status) → ToldOfChange what bytes old new s → (m : Meaning) (t : Message) → Accepts to_msg bytes m → changed what m.message ≡ Ok t → PutsFile t bytes old new s
put_done what bytes old new s told m t a e =
    let same : changed what told.m.message ≡ Ok t = subst (λ (k : Meaning). changed what k.message ≡ Ok t) (told.accepted.only m a) e in
    subst (λ r. PutsChange r bytes old new s) same told.put

put_snag : (what : Change) (bytes : List ℕ) (old new : Option (List ℕ)) (s : Status) → ToldOfChange what bytes old new s → (m : Meaning) (snag : Snag) → Accepts to_msg bytes m → changed what m.message ≡ Err snag → IsSnag snag s
put_snag what bytes old new s told m snag a e =
    let same : changed what told.m.message ≡ Err snag = subst (λ (k : Meaning). changed what k.message ≡ Err snag) (told.accepted.only m a) e in
    subst (λ r. PutsChange r bytes old new s) same told.put

change_done : (what : Change) (bytes : List ℕ) (old new : Option (List ℕ)) (s : Status) → TellsChange what bytes old new s → (m : Meaning) (t : Message) → Accepts to_msg bytes m → changed what m.message ≡ Ok t → passed_limit to_msg t bytes ≡ None → IsDone s
change_done what bytes old new Done told m t a e n = tt
change_done what bytes old new (Refused g) told m t a e n = told.meaningless m a
change_done what bytes old new Usage told m t a e n = told
change_done what bytes old new (Unmapped at) told m t a e n = put_done what bytes old new (Unmapped at) told m t a e
change_done what bytes old new (Edit at) told m t a e n = put_done what bytes old new (Edit at) told m t a e
change_done what bytes old new (Json at) told m t a e n = told
change_done what bytes old new (Unfit limit) told m t a e n = let some = put_done what bytes old new (Unfit limit) told m t a e in absurd cc
change_done what bytes old new ReadFault told m t a e n = tt
change_done what bytes old new WriteFault told m t a e n = tt
change_done what bytes old new NoMemory told m t a e n = tt

change_unfit : (what : Change) (bytes : List ℕ) (old new : Option (List ℕ)) (s : Status) → TellsChange what bytes old new s → (m : Meaning) (t : Message) (limit : limits.Limit) → Accepts to_msg bytes m → changed what m.message ≡ Ok t → passed_limit to_msg t bytes ≡ Some limit → IsUnfit limit s
change_unfit what bytes old new Done told m t limit a e n = let none = (put_done what bytes old new Done told m t a e).fits in cc
change_unfit what bytes old new (Refused g) told m t limit a e n = told.meaningless m a
change_unfit what bytes old new Usage told m t limit a e n = told
change_unfit what bytes old new (Unmapped at) told m t limit a e n = put_done what bytes old new (Unmapped at) told m t a e
change_unfit what bytes old new (Edit at) told m t limit a e n = put_done what bytes old new (Edit at) told m t a e
change_unfit what bytes old new (Json at) told m t limit a e n = told
change_unfit what bytes old new (Unfit other) told m t limit a e n = let some = put_done what bytes old new (Unfit other) told m t a e in cc
change_unfit what bytes old new ReadFault told m t limit a e n = tt
change_unfit what bytes old new WriteFault told m t limit a e n = let none = (put_done what bytes old new WriteFault told m t a e).fits in cc
change_unfit what bytes old new NoMemory told m t limit a e n = tt

change_stuck : (what : Change) (bytes : List ℕ) (old new : Option (List ℕ)) (s : Status) → TellsChange what bytes old new s → (m : Meaning) (snag : Snag) → Accepts to_msg bytes m → changed what m.message ≡ Err snag → IsSnag snag s
change_stuck what bytes old new Done told m snag a e = put_snag what bytes old new Done told m snag a e
change_stuck what bytes old new (Refused g) told m snag a e = told.meaningless m a
change_stuck what bytes old new Usage told m snag a e = told
change_stuck what bytes old new (Unmapped at) told m snag a e = put_snag what bytes old new (Unmapped at) told m snag a e
change_stuck what bytes old new (Edit at) told m snag a e = put_snag what bytes old new (Edit at) told m snag a e
change_stuck what bytes old new (Json at) told m snag a e = absurd told
change_stuck what bytes old new (Unfit limit) told m snag a e = put_snag what bytes old new (Unfit limit) told m snag a e
change_stuck what bytes old new ReadFault told m snag a e = tt
change_stuck what bytes old new WriteFault told m snag a e = put_snag what bytes old new WriteFault told m snag a e
change_stuck what bytes old new NoMemory told m snag a e = tt

change_refused : (what : Change) (bytes : List ℕ) (old new : Option (List ℕ)) (s : Status) → TellsChange what bytes old new s → (g : ℕ × ℕ) → FaultOf to_msg bytes g → IsRefused g s
change_refused what bytes old new Done told g f = told.accepted.faultless g f
change_refused what bytes old new (Refused h) told g f = sym (told.only g f)
change_refused what bytes old new Usage told g f = told
change_refused what bytes old new (Unmapped at) told g f = told.accepted.faultless g f
change_refused what bytes old new (Edit at) told g f = told.accepted.faultless g f
change_refused what bytes old new (Json at) told g f = told
change_refused what bytes old new (Unfit limit) told g f = told.accepted.faultless g f
change_refused what bytes old new ReadFault told g f = tt
change_refused what bytes old new WriteFault told g f = told.accepted.faultless g f
change_refused what bytes old new NoMemory told g f = tt

change_answered : (what : Change) (left old new : Option (List ℕ)) (s : Status) → IfSome left (λ bytes. TellsChange what bytes old new s) → IfSome left (λ bytes. IsChangeAnswered what bytes s)
change_answered what None old new s t = tt
change_answered what (Some bytes) old new s t = record { done = change_done what bytes old new s t; unfit = change_unfit what bytes old new s t; stuck = change_stuck what bytes old new s t; refused = change_refused what bytes old new s t }

-- ---- of a JSON text

json_done : (bytes : List ℕ) (old new : Option (List ℕ)) (s : Status) → TellsJson bytes old new s → (m : Meaning) → Accepts to_tnef bytes m → IsShort (json_text m.message) → IsDone s
json_done bytes old new Done t m a e = tt
json_done bytes old new (Refused g) t m a e = t.meaningless m a
json_done bytes old new Usage t m a e = t
json_done bytes old new (Unmapped at) t m a e = t
json_done bytes old new (Edit at) t m a e = t
json_done bytes old new (Json at) t m a e = t
json_done bytes old new (Unfit limit) t m a e = let short : length (json_text t.m.message) ≤ MOST_JSON = subst (λ (k : Meaning). IsShort (json_text k.message)) (t.accepted.only m a) e in omega (arith, short, t.said.0)
json_done bytes old new ReadFault t m a e = tt
json_done bytes old new WriteFault t m a e = tt
json_done bytes old new NoMemory t m a e = tt

json_unfit : (bytes : List ℕ) (old new : Option (List ℕ)) (s : Status) → TellsJson bytes old new s → (m : Meaning) → Accepts to_tnef bytes m → MOST_JSON < length (json_text m.message) → IsUnfit (limits.too_large (length (json_text m.message))) s
json_unfit bytes old new Done t m a e = let long : MOST_JSON < length (json_text t.m.message) = subst (λ (k : Meaning). MOST_JSON < length (json_text k.message)) (t.accepted.only m a) e in omega (arith, long, t.said.short)
json_unfit bytes old new (Refused g) t m a e = t.meaningless m a
json_unfit bytes old new Usage t m a e = t
json_unfit bytes old new (Unmapped at) t m a e = t
json_unfit bytes old new (Edit at) t m a e = t
json_unfit bytes old new (Json at) t m a e = t
json_unfit bytes old new (Unfit other) t m a e = t.said.1 ∙ ap (λ (k : Meaning). limits.too_large (length (json_text k.message))) (sym (t.accepted.only m a))
json_unfit bytes old new ReadFault t m a e = tt
json_unfit bytes old new WriteFault t m a e = let long : MOST_JSON < length (json_text t.m.message) = subst (λ (k : Meaning). MOST_JSON < length (json_text k.message)) (t.accepted.only m a) e in omega (arith, long, t.said.short)
json_unfit bytes old new NoMemory t m a e = tt

json_refused : (bytes : List ℕ) (old new : Option (List ℕ)) (s : Status) → TellsJson bytes old new s → (g : ℕ × ℕ) → FaultOf to_tnef bytes g → IsRefused g s
json_refused bytes old new Done t g f = t.accepted.faultless g f
json_refused bytes old new (Refused h) t g f = sym (t.only g f)
json_refused bytes old new Usage t g f = t
json_refused bytes old new (Unmapped at) t g f = t
json_refused bytes old new (Edit at) t g f = t
json_refused bytes old new (Json at) t g f = t
json_refused bytes old new (Unfit limit) t g f = t.accepted.faultless g f
json_refused bytes old new ReadFault t g f = tt
json_refused bytes old new WriteFault t g f = t.accepted.faultless g f
json_refused bytes old new NoMemory t g f = tt

json_answered : (left old new : Option (List ℕ)) (s : Status) → IfSome left (λ bytes. TellsJson bytes old new s) → IfSome left (λ bytes. IsJsonAnswered bytes s)
json_answered None old new s t = tt
json_answered (Some bytes) old new s t = record { done = json_done bytes old new s t; unfit = json_unfit bytes old new s t; refused = json_refused bytes old new s t }

-- ---- of the message of a JSON text

tree_done : (bytes : List ℕ) (old new : Option (List ℕ)) (s : Status) → TellsTree bytes old new s → (t : Message) → IsShort bytes → TextMeansTree bytes t → passed_limit to_msg t bytes ≡ None → IsDone s
tree_done bytes old new Done told t short means n = tt
tree_done bytes old new (Refused g) told t short means n = omega (arith, short, told.0)
tree_done bytes old new Usage told t short means n = told
tree_done bytes old new (Unmapped at) told t short means n = told
tree_done bytes old new (Edit at) told t short means n = told
tree_done bytes old new (Json at) told t short means n = no_fault_of_text bytes t (json_fault_of at) means told.1
tree_done bytes old new (Unfit limit) told t short means n = let same = ap (λ (k : Message). passed_limit to_msg k bytes) (one_tree_of_text bytes told.t t told.meant means) in let some = told.put in absurd cc
tree_done bytes old new ReadFault told t short means n = tt
tree_done bytes old new WriteFault told t short means n = tt
tree_done bytes old new NoMemory told t short means n = tt

tree_unfit : (bytes : List ℕ) (old new : Option (List ℕ)) (s : Status) → TellsTree bytes old new s → (t : Message) (limit : limits.Limit) → IsShort bytes → TextMeansTree bytes t → passed_limit to_msg t bytes ≡ Some limit → IsUnfit limit s
tree_unfit bytes old new Done told t limit short means n = let same = ap (λ (k : Message). passed_limit to_msg k bytes) (one_tree_of_text bytes told.t t told.meant means) in let none = told.put.fits in cc
tree_unfit bytes old new (Refused g) told t limit short means n = omega (arith, short, told.0)
tree_unfit bytes old new Usage told t limit short means n = told
tree_unfit bytes old new (Unmapped at) told t limit short means n = told
tree_unfit bytes old new (Edit at) told t limit short means n = told
tree_unfit bytes old new (Json at) told t limit short means n = no_fault_of_text bytes t (json_fault_of at) means told.1
tree_unfit bytes old new (Unfit other) told t limit short means n = let same = ap (λ (k : Message). passed_limit to_msg k bytes) (one_tree_of_text bytes told.t t told.meant means) in let some = told.put in cc
tree_unfit bytes old new ReadFault told t limit short means n = tt
tree_unfit bytes old new WriteFault told t limit short means n = let same = ap (λ (k : Message). passed_limit to_msg k bytes) (one_tree_of_text bytes told.t t told.meant means) in let none = told.put.fits in cc
tree_unfit bytes old new NoMemory told t limit short means n = tt

tree_stuck : (bytes : List ℕ) (old new : Option (List ℕ)) (s : Status) → TellsTree bytes old new s → (g : JsonFault) → IsShort bytes → FirstJsonFault bytes g → IsSnag (no_tree g) s
tree_stuck bytes old new Done told g short first = no_fault_of_text bytes told.t g told.meant first
tree_stuck bytes old new (Refused h) told g short first = omega (arith, short, told.0)
tree_stuck bytes old new Usage told g short first = told
tree_stuck bytes old new (Unmapped at) told g short first = absurd told
tree_stuck bytes old new (Edit at) told g short first = absurd told
tree_stuck bytes old new (Json at) told g short first = ap (λ (k : JsonFault). no_tree k) (one_fault_of_text bytes (json_fault_of at) g told.1 first)
tree_stuck bytes old new (Unfit limit) told g short first = no_fault_of_text bytes told.t g told.meant first
tree_stuck bytes old new ReadFault told g short first = tt
tree_stuck bytes old new WriteFault told g short first = no_fault_of_text bytes told.t g told.meant first
tree_stuck bytes old new NoMemory told g short first = tt

tree_refused : (bytes : List ℕ) (old new : Option (List ℕ)) (s : Status) → TellsTree bytes old new s → (g : ℕ × ℕ) → IsTooLong bytes g → IsRefused g s
tree_refused bytes old new Done told g long = let short = told.short in omega (arith, short, long.0)
tree_refused bytes old new (Refused h) told g long = told.1 ∙ sym long.1
tree_refused bytes old new Usage told g long = told
tree_refused bytes old new (Unmapped at) told g long = told
tree_refused bytes old new (Edit at) told g long = told
tree_refused bytes old new (Json at) told g long = omega (arith, told.0, long.0)
tree_refused bytes old new (Unfit limit) told g long = let short = told.short in omega (arith, short, long.0)
tree_refused bytes old new ReadFault told g long = tt
tree_refused bytes old new WriteFault told g long = let short = told.short in omega (arith, short, long.0)
tree_refused bytes old new NoMemory told g long = tt

tree_answered : (left old new : Option (List ℕ)) (s : Status) → IfSome left (λ bytes. TellsTree bytes old new s) → IfSome left (λ bytes. IsTreeAnswered bytes s)
tree_answered None old new s t = tt
tree_answered (Some bytes) old new s t = record { done = tree_done bytes old new s t; unfit = tree_unfit bytes old new s t; stuck = tree_stuck bytes old new s t; refused = tree_refused bytes old new s t }

-- ---- of each command

job_answered : (job : Job) (left old new : Option (List ℕ)) (s : Status) → IfSome left (λ bytes. TellsJob job bytes old new s) → IfSome left (λ bytes. IsAnswered job bytes s)
job_answered job None old new s t = tt
job_answered job (Some bytes) old new s t = record { done = is_done job bytes old new s t; unfit = is_unfit job bytes old new s t; refused = is_refused job bytes old new s t }

pub answers : (command : Command) (left old new : Option (List ℕ)) (s : Status) → Tells command left old new s → Answers command left s
answers show left old new s t = told shown left old new s t
answers check left old new s t = told checked left old new s t
answers (translate job) left old new s t = job_answered job left old new s t
answers (change what) left old new s t = change_answered what left old new s t
answers to_json left old new s t = json_answered left old new s t
answers from_json left old new s t = tree_answered left old new s t
answers (sample n) left old new s t = sample_done _ old new s t

-- ---- what a text says of the bytes that it is of

pub accepts : (bytes : List ℕ) (m : Meaning) → length bytes ≤ MOST_BYTES → MeansOnly (CarriesMessage bytes) (MessageFault bytes) m → MeansOnly (Accepts to_tnef bytes) (FaultOf to_tnef bytes) m
accepts bytes m few h = record { found = (few, h.found); only = λ y a. h.only y a.1; faultless = faultless }
  where
    faultless : (g : ℕ × ℕ) → FaultOf to_tnef bytes g → ⊥
    faultless g (inl p) = omega (arith, few, p.0)
    faultless g (inr p) = h.faultless g p.1

-- a conversion that ended without a tree
pub unmapped_told : (t : Message) (end : TextEnd) (bytes : List ℕ) (old new : Option (List ℕ)) → IsFirstEnd t end → PutsChange (changed to_unicode t) bytes old new (status_of_text end)
unmapped_told t (texts.Unmapped at) bytes old new first = rw first.0 refl
unmapped_told t texts.NoMemory bytes old new first = nothing_told (changed to_unicode t)
  where
    nothing_told : (x : Result Message Snag) → PutsChange x bytes old new NoMemory
    nothing_told (Ok u) = tt
    nothing_told (Err snag) = tt

-- the same of a .msg file
pub accepts_file : (bytes : List ℕ) (m : Meaning) → length bytes ≤ MOST_BYTES → MeansOnly (CarriesMessage bytes) (MessageFault bytes) m → MeansOnly (Accepts to_msg bytes) (FaultOf to_msg bytes) m
accepts_file bytes m few h = record { found = (few, h.found); only = λ y a. h.only y a.1; faultless = faultless }
  where
    faultless : (g : ℕ × ℕ) → FaultOf to_msg bytes g → ⊥
    faultless g (inl p) = omega (arith, few, p.0)
    faultless g (inr p) = h.faultless g p.1

-- a change ends for no fault of JSON
mapped_no_json : (o : Option texts8.Unmapped) (t : Message) (g : JsonFault) → unless_unmapped o t ≡ Err (no_tree g) → ⊥
mapped_no_json None t g e = absurd cc
mapped_no_json (Some at) t g e = absurd cc

edited_no_json : (r : Result Message EditFault) (g : JsonFault) → unless_undone r ≡ Err (no_tree g) → ⊥
edited_no_json (Ok t) g e = absurd cc
edited_no_json (Err at) g e = absurd cc

no_json : (what : Change) (t : Message) (g : JsonFault) → changed what t ≡ Err (no_tree g) → ⊥
no_json to_unicode t g e = mapped_no_json (first_unmapped t) (converted t) g e
no_json (edited edits) t g e = edited_no_json (edited_tree edits t) g e

pub change_told : (what : Change) (bytes : List ℕ) (old new : Option (List ℕ)) (s : Status) (m : Meaning) → MeansOnly (Accepts to_msg bytes) (FaultOf to_msg bytes) m → PutsChange (changed what m.message) bytes old new s → TellsChange what bytes old new s
change_told what bytes old new Done m a p = record { m = m; accepted = a; put = p }
change_told what bytes old new (Refused g) m a p = absurd (never (changed what m.message) p)
  where
    never : (x : Result Message Snag) → PutsChange x bytes old new (Refused g) → ⊥
    never (Ok t) q = q
    never (Err snag) q = q
change_told what bytes old new Usage m a p = absurd (never (changed what m.message) p)
  where
    never : (x : Result Message Snag) → PutsChange x bytes old new Usage → ⊥
    never (Ok t) q = q
    never (Err snag) q = q
change_told what bytes old new (Unmapped at) m a p = record { m = m; accepted = a; put = p }
change_told what bytes old new (Edit at) m a p = record { m = m; accepted = a; put = p }
change_told what bytes old new (Json at) m a p = never (changed what m.message) refl p
  where
    never : (x : Result Message Snag) → changed what m.message ≡ x → PutsChange x bytes old new (Json at) → ⊥
    never (Ok t) e q = q
    never (Err snag) e q = no_json what m.message (json_fault_of at) (e ∙ ap (λ (k : Snag). Err k) q)
change_told what bytes old new (Unfit limit) m a p = record { m = m; accepted = a; put = p }
change_told what bytes old new ReadFault m a p = tt
change_told what bytes old new WriteFault m a p = record { m = m; accepted = a; put = p }
change_told what bytes old new NoMemory m a p = tt

pub json_told : (bytes : List ℕ) (old new : Option (List ℕ)) (s : Status) (m : Meaning) → MeansOnly (Accepts to_tnef bytes) (FaultOf to_tnef bytes) m → PutsJson m.message old new s → TellsJson bytes old new s
json_told bytes old new Done m a p = record { m = m; accepted = a; said = p }
json_told bytes old new (Refused g) m a p = absurd p
json_told bytes old new Usage m a p = p
json_told bytes old new (Unmapped at) m a p = p
json_told bytes old new (Edit at) m a p = p
json_told bytes old new (Json at) m a p = p
json_told bytes old new (Unfit limit) m a p = record { m = m; accepted = a; said = p }
json_told bytes old new ReadFault m a p = tt
json_told bytes old new WriteFault m a p = record { m = m; accepted = a; said = p }
json_told bytes old new NoMemory m a p = tt

pub tree_told : (bytes : List ℕ) (old new : Option (List ℕ)) (s : Status) (t : Message) → length bytes ≤ MOST_JSON → TextMeansTree bytes t → PutsFile t bytes old new s → TellsTree bytes old new s
tree_told bytes old new Done t short means p = record { t = t; short = short; meant = means; put = p }
tree_told bytes old new (Refused g) t short means p = absurd p
tree_told bytes old new Usage t short means p = p
tree_told bytes old new (Unmapped at) t short means p = p
tree_told bytes old new (Edit at) t short means p = p
tree_told bytes old new (Json at) t short means p = absurd p
tree_told bytes old new (Unfit limit) t short means p = record { t = t; short = short; meant = means; put = p }
tree_told bytes old new ReadFault t short means p = tt
tree_told bytes old new WriteFault t short means p = record { t = t; short = short; meant = means; put = p }
tree_told bytes old new NoMemory t short means p = tt

pub text_told : (text : List ℕ → Meaning → List ℕ) (bytes : List ℕ) (old new : Option (List ℕ)) (s : Status) (m : Meaning) → MeansOnly (Accepts to_tnef bytes) (FaultOf to_tnef bytes) m → IsText (text bytes m) old new s → TellsText text bytes old new s
text_told text bytes old new Done m a t = record { m = m; accepted = a; appended = t }
text_told text bytes old new (Refused g) m a t = absurd t
text_told text bytes old new Usage m a t = t
text_told text bytes old new (Unmapped at) m a t = t
text_told text bytes old new (Edit at) m a t = t
text_told text bytes old new (Json at) m a t = t
text_told text bytes old new (Unfit limit) m a t = t
text_told text bytes old new ReadFault m a t = tt
text_told text bytes old new WriteFault m a t = record { m = m; accepted = a; front = t }
text_told text bytes old new NoMemory m a t = tt

-- ---- the command that was asked for

pub some_same : (a b : Command) (r : Option Command) → Some a ≡ r → r ≡ Some b → a ≡ b
some_same a b r p q = cc

pub some_command : (a : Command) (r : Option Command) → Some a ≡ r → r ≡ None → ⊥
some_command a r p q = cc

pub reads_to_end : (command : Command) (old new : Option (List ℕ)) → Reads command → IsAtEnd new → LeavesAtDone command old new
reads_to_end show old new r e = e
reads_to_end check old new r e = e
reads_to_end (translate job) old new r e = e
reads_to_end (change what) old new r e = e
reads_to_end to_json old new r e = e
reads_to_end from_json old new r e = e
reads_to_end (sample n) old new r e = absurd r

pub no_sample : (command : Command) (n : ℕ) → Reads command → command ≡ sample n → ⊥
no_sample command n r e = subst Reads e r

-- what is told of the bytes in hand is told of what the input held, where it tells that
pub told_of_left : (command : Command) (left : Option (List ℕ)) (bytes : List ℕ) (old new : Option (List ℕ)) (s : Status) → Reads command → IfSome left (λ b. bytes ≡ b) → Tells command (Some bytes) old new s → Tells command left old new s
told_of_left show None bytes old new s r same t = tt
told_of_left show (Some b) bytes old new s r same t = subst (λ k. TellsText shown k old new s) same t
told_of_left check None bytes old new s r same t = tt
told_of_left check (Some b) bytes old new s r same t = subst (λ k. TellsText checked k old new s) same t
told_of_left (translate job) None bytes old new s r same t = tt
told_of_left (translate job) (Some b) bytes old new s r same t = subst (λ k. TellsJob job k old new s) same t
told_of_left (change what) None bytes old new s r same t = tt
told_of_left (change what) (Some b) bytes old new s r same t = subst (λ k. TellsChange what k old new s) same t
told_of_left to_json None bytes old new s r same t = tt
told_of_left to_json (Some b) bytes old new s r same t = subst (λ k. TellsJson k old new s) same t
told_of_left from_json None bytes old new s r same t = tt
told_of_left from_json (Some b) bytes old new s r same t = subst (λ k. TellsTree k old new s) same t
told_of_left (sample n) left bytes old new s r same t = absurd r

-- ---- an input that is too long

too_long : (job : Job) (bytes : List ℕ) (g : ℕ × ℕ) → g ≡ (INPUT_TOO_LONG, MOST_BYTES) → MOST_BYTES < length bytes → FaultOnly (Accepts job bytes) (FaultOf job bytes) g
too_long job bytes g e long = record { is_first = inl (long, e); only = only; meaningless = λ m a. omega (arith, long, a.0) }
  where
    only : (h : ℕ × ℕ) → FaultOf job bytes h → h ≡ g
    only h (inl p) = p.1 ∙ sym e
    only h (inr p) = absurd (omega (arith, long, p.0))

pub told_of_long : (command : Command) (left old new : Option (List ℕ)) (f : Fault) → Reads command → fault_of f ≡ (INPUT_TOO_LONG, most_bytes command) → IfSome left (λ b. most_bytes command < length b) → Tells command left old new (Refused f)
told_of_long show None old new f r e long = tt
told_of_long show (Some b) old new f r e long = too_long to_tnef b (fault_of f) e long
told_of_long check None old new f r e long = tt
told_of_long check (Some b) old new f r e long = too_long to_tnef b (fault_of f) e long
told_of_long (translate job) None old new f r e long = tt
told_of_long (translate job) (Some b) old new f r e long = too_long job b (fault_of f) e long
told_of_long (change what) None old new f r e long = tt
told_of_long (change what) (Some b) old new f r e long = too_long to_msg b (fault_of f) e long
told_of_long to_json None old new f r e long = tt
told_of_long to_json (Some b) old new f r e long = too_long to_tnef b (fault_of f) e long
told_of_long from_json None old new f r e long = tt
told_of_long from_json (Some b) old new f r e long = (long, e)
told_of_long (sample n) left old new f r e long = absurd r

-- ---- how much is read

pub fewer : (command : Command) → most_bytes command ≤ MOST_BYTES
fewer show = omega arith
fewer check = omega arith
fewer (translate job) = omega arith
fewer (change what) = omega arith
fewer to_json = omega arith
fewer from_json = omega arith
fewer (sample n) = omega arith

pub takes_more : (command : Command) (old new : Option (List ℕ)) → Takes old new (most_bytes command + 1) → Takes old new (MOST_BYTES + 1)
takes_more command old new t = let few = t.few in record { taken = t.taken; few = omega (arith, few, fewer command); consumed = t.consumed }
