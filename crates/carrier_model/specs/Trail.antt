-- A reader's tests in order, and the first that fails. A fault is the pair of its reason's number and its offset.
use Rattle.std.specs.Prelude.{◌≡◌, ℕ, Bool, List, [], ◌∷◌, Option, Some, None, if◌then◌else◌}

abbrev pub Fault : Type 0
Fault = ℕ × ℕ

-- whether the bytes pass, and what is reported at which offset where they don't
pub record Test : Type 0 where
  pub holds : Bool
  pub reason : ℕ
  pub offset : ℕ

abbrev pub test : Bool → ℕ → ℕ → Test
test holds reason offset = record { holds = holds; reason = reason; offset = offset }

-- the first test that does not hold
abbrev pub first_fault : List Test → Option Fault
first_fault [] = None
first_fault (t ∷ ts) = if t.holds then first_fault ts else Some (t.reason, t.offset)

-- Bytes mean at most one thing and have at most one first fault, and never both.
pub record IsExact {X : Type 0} (means : X → Type 0) (first : Fault → Type 0) : Type 0 where
  pub one : (x y : X) → means x → means y → y ≡ x
  pub single : (g h : Fault) → first g → first h → h ≡ g
  pub apart : (x : X) (g : Fault) → means x → first g → ⊥
