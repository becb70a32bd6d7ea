-- Steps of readings: what a part answers, and what stands behind it.
use Rattle.std.proofs.Common.{◌≡◌, ℕ, refl, ap, sym}
use Rattle.std.specs.Prelude.{Result, Ok, Err}
use Rattle.json_model.specs.Faults.{JsonFault, ◌>>=◌, mapped}
use Rattle.json_model.specs.Faults as plain
use Rattle.tree_from_json.specs.Ends.{Reads, ReadsBelow}
use Rattle.tree_from_json.specs.declared.read_ends.ReadEnd.{ReadEnd}
use Rattle.tree_from_json.specs.declared.read_ends.ReadEnd.TheVariants as ends

-- what is read behind a part that was read
pub then_ok : {A B X : Type 0} (view : X → B) (model : Result A JsonFault) (next : A → Result B JsonFault) (x : A) (out : Result X ReadEnd)
    → model ≡ Ok x → Reads view (next x) out → Reads view (model >>= next) out
then_ok view model next x out e h = rw e h

-- a part that was not read
pub then_err : {A B X Y : Type 0} (view : X → A) (other : Y → B) (model : Result A JsonFault) (next : A → Result B JsonFault) (e : ReadEnd)
    → Reads view model (Err e) → Reads other (model >>= next) (Err e)
then_err view other model next (ends.Fault f) h = rw h refl
then_err view other model next ends.NoMemory h = tt

-- the same of a part one step further down
pub under_ok : {A X : Type 0} (view : X → A) (model : Result A JsonFault) (step : ℕ) (read : Result X ReadEnd) (x : X)
    → Reads view model read → ReadsBelow step read (Ok x) → plain.under step model ≡ Ok (view x)
under_ok view model step (Ok y) x h k = let same : y ≡ x = cc in rw h (ap (λ z. Ok (view z)) same)
under_ok view model step (Err ends.NoMemory) x h k = absurd cc
under_ok view model step (Err (ends.Fault f)) x h k = absurd k

pub under_err : {A X : Type 0} (view : X → A) (model : Result A JsonFault) (step : ℕ) (read : Result X ReadEnd) (e : ReadEnd)
    → Reads view model read → ReadsBelow step read (Err e) → Reads view (plain.under step model) (Err e)
under_err view model step (Ok y) e h k = absurd cc
under_err view model step (Err ends.NoMemory) (ends.Fault g) h k = absurd cc
under_err view model step (Err ends.NoMemory) ends.NoMemory h k = tt
under_err view model step (Err (ends.Fault f)) (ends.Fault g) h k = rw h (ap Err (sym k))
under_err view model step (Err (ends.Fault f)) ends.NoMemory h k = tt

-- a part that is mapped
pub mapped_err : {A B X Y : Type 0} (view : X → A) (other : Y → B) (f : A → B) (model : Result A JsonFault) (e : ReadEnd)
    → Reads view model (Err e) → Reads other (mapped f model) (Err e)
mapped_err view other f model (ends.Fault g) h = rw h refl
mapped_err view other f model ends.NoMemory h = tt

pub under_mapped : {A B : Type 0} (f : A → B) (step : ℕ) (model : Result A JsonFault) (y : B)
    → plain.under step (mapped f model) ≡ Ok y → (x : A) × (plain.under step model ≡ Ok x) × (f x ≡ y)
under_mapped f step (Ok x) y h = (x, refl, cc)
under_mapped f step (Err g) y h = absurd cc
