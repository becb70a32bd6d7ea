-- What readings of JSON values end with, and what they say of the definitions' results.
use Rattle.std.specs.Prelude.{◌≡◌, ℕ, ◌∷◌, reverse, Result, Ok, Err}
use Rattle.json_model.specs.Faults as plain
use Rattle.tree_from_json.specs.declared.read_ends.Fault.{Fault}
use Rattle.tree_from_json.specs.declared.read_ends.JsonEnd.{JsonEnd}
use Rattle.tree_from_json.specs.declared.read_ends.JsonEnd.TheVariants as told
use Rattle.tree_from_json.specs.declared.read_ends.JsonFault.{JsonFault}
use Rattle.tree_from_json.specs.declared.read_ends.ReadEnd.{ReadEnd}
use Rattle.tree_from_json.specs.declared.read_ends.ReadEnd.TheVariants as ends
use Rattle.tree_from_json.specs.declared.read_ends.JsonWhy.{JsonWhy}
use Rattle.tree_from_json.specs.declared.read_ends.JsonWhy.TheVariants as whys

abbrev pub why_of : JsonWhy → plain.Shape
why_of whys.NotJson = plain.not_json
why_of whys.Form = plain.form
why_of whys.Kind = plain.kind
why_of whys.Digits = plain.digits
why_of whys.Range = plain.range
why_of whys.Order = plain.order
why_of whys.Deep = plain.deep

-- a fault while its value is read, whose steps come from the inside out
abbrev pub fault_of : Fault → plain.JsonFault
fault_of f = record { why = why_of f.why; path = reverse f.steps }

-- a fault as it is told
abbrev pub plain_fault : JsonFault → plain.JsonFault
plain_fault f = record { why = why_of f.why; path = f.path }

-- A reading answers what the definitions give, seen by a view, or their first fault; or there was no memory.
abbrev pub Reads : {A X : Type 0} → (X → A) → Result A plain.JsonFault → Result X ReadEnd → Type 0
Reads view model (Ok x) = model ≡ Ok (view x)
Reads view model (Err (ends.Fault f)) = model ≡ Err (fault_of f)
Reads view model (Err ends.NoMemory) = Unit {0}

-- a fault one step further down; or there was no memory for the step
abbrev pub IsBelow : ℕ → Fault → ReadEnd → Type 0
IsBelow step f (ends.Fault g) = fault_of g ≡ record { why = why_of f.why; path = step ∷ reverse f.steps }
IsBelow step f ends.NoMemory = Unit {0}

-- the same of a part one step further down
abbrev pub ReadsBelow : {X : Type 0} → ℕ → Result X ReadEnd → Result X ReadEnd → Type 0
ReadsBelow step (Ok x) out = out ≡ Ok x
ReadsBelow step (Err ends.NoMemory) out = out ≡ Err ends.NoMemory
ReadsBelow step (Err (ends.Fault f)) (Ok x) = ⊥
ReadsBelow step (Err (ends.Fault f)) (Err e) = IsBelow step f e

-- the fault with its steps from the top down; or there was no memory
abbrev pub IsTold : ReadEnd → JsonEnd → Type 0
IsTold (ends.Fault f) (told.Fault g) = plain_fault g ≡ fault_of f
IsTold ends.NoMemory (told.Fault g) = ⊥
IsTold e told.NoMemory = Unit {0}
