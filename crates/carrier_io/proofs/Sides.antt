-- Both sides of a reader from the one that it shows: what is meant, or the first fault. The three facts are that
-- bytes mean one thing, have one first fault, and not both.
use Rattle.std.proofs.Common.{◌≡◌, ℕ, Result, Ok, Err}
use Rattle.std.specs.Prelude.{IfOk, IfErr}
use Rattle.carrier_io.specs.declared.reasons.Stop.{Stop}
use Rattle.carrier_io.specs.declared.reasons.Stop.TheVariants as stops
use Rattle.carrier_io.specs.Reasons.{fault_of}
use Rattle.carrier_io.specs.Reads.{MeansOnly, FaultOnly, Reads, OnFault}

abbrev pub One : {X : Type 0} → (X → Type 0) → Type 0
One {X} means = (x y : X) → means x → means y → y ≡ x

abbrev pub Apart : {X : Type 0} → (X → Type 0) → (ℕ × ℕ → Type 0) → Type 0
Apart {X} means first = (x : X) (g : ℕ × ℕ) → means x → first g → ⊥

pub reads_ok : {X : Type 0} (means : X → Type 0) (first : ℕ × ℕ → Type 0) (x : X) → One means → Apart means first → means x → MeansOnly means first x
reads_ok means first x one apart m = record { found = m; only = λ y n. one x y m n; faultless = λ g f. apart x g m f }

pub reads_fault : {X : Type 0} (means : X → Type 0) (first : ℕ × ℕ → Type 0) (g : ℕ × ℕ) → One first → Apart means first → first g → FaultOnly means first g
reads_fault means first g single apart f = record { is_first = f; only = λ h k. single g h f k; meaningless = λ y m. apart y g m f }

pub reads_from : {Y X : Type 0} (view : Y → X) (r : Result Y Stop) (means : X → Type 0) (first : ℕ × ℕ → Type 0) → One means → One first → Apart means first → IfOk r (λ y. means (view y)) → IfErr r (OnFault first) → Reads view r means first
reads_from view (Ok y) means first one single apart ok err = reads_ok means first (view y) one apart ok
reads_from view (Err (stops.Fault g)) means first one single apart ok err = reads_fault means first (fault_of g) single apart err
reads_from view (Err stops.NoMemory) means first one single apart ok err = tt

pub on_fault : (p q : ℕ × ℕ → Type 0) → ((g : ℕ × ℕ) → p g → q g) → (s : Stop) → OnFault p s → OnFault q s
on_fault p q f (stops.Fault g) h = f (fault_of g) h
on_fault p q f stops.NoMemory h = tt
