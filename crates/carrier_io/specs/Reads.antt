-- The two sides of a reader. A fault is the pair of its reason's number and its offset.
use Rattle.std.specs.Prelude.{◌≡◌, ℕ, Result, Ok, Err}
use Rattle.carrier_io.specs.declared.reasons.Stop.{Stop}
use Rattle.carrier_io.specs.declared.reasons.Stop.TheVariants as stops
use Rattle.carrier_io.specs.Reasons.{fault_of}

-- The bytes mean x and nothing else, and have no fault.
pub record MeansOnly {X : Type 0} (means : X → Type 0) (first : ℕ × ℕ → Type 0) (x : X) : Type 0 where
  pub found : means x
  pub only : (y : X) → means y → y ≡ x
  pub faultless : (g : ℕ × ℕ) → first g → ⊥

-- The bytes mean nothing, and their first fault is g and no other.
pub record FaultOnly {X : Type 0} (means : X → Type 0) (first : ℕ × ℕ → Type 0) (g : ℕ × ℕ) : Type 0 where
  pub is_first : first g
  pub only : (h : ℕ × ℕ) → first h → h ≡ g
  pub meaningless : (y : X) → means y → ⊥

-- What a reader answered, seen by view. It may give up for want of memory.
abbrev pub Reads : {Y X : Type 0} → (Y → X) → Result Y Stop → (X → Type 0) → (ℕ × ℕ → Type 0) → Type 0
Reads view (Ok y) means first = MeansOnly means first (view y)
Reads view (Err (stops.Fault g)) means first = FaultOnly means first (fault_of g)
Reads view (Err stops.NoMemory) means first = Unit {0}

-- what holds of a fault, where it is one
abbrev pub OnFault : (ℕ × ℕ → Type 0) → Stop → Type 0
OnFault first (stops.Fault g) = first (fault_of g)
OnFault first stops.NoMemory = Unit {0}

-- a reader stopped by this fault, or for want of memory
abbrev pub Fails : {Y : Type 0} → Stop → Result Y (ℕ × ℕ) → Type 0
Fails (stops.Fault g) read = read ≡ Err (fault_of g)
Fails stops.NoMemory read = Unit {0}

-- What a reader answered, seen by view, is what reading gives: a value, or the first fault. It may give up for want
-- of memory.
abbrev pub Gives : {X Y : Type 0} → (X → Y) → Result X Stop → Result Y (ℕ × ℕ) → Type 0
Gives view (Ok x) read = read ≡ Ok (view x)
Gives view (Err e) read = Fails e read
