-- What was answered of a storage, against the store that it means.
use Rattle.std.proofs.Common.{◌≡◌, Result, Ok, Err}
use Rattle.carrier_io.specs.declared.reasons.Stop.{Stop}
use Rattle.carrier_io.specs.declared.reasons.Stop.TheVariants as stops
use Rattle.carrier_io.specs.Reads.{Fails, Gives, Reads}
use Rattle.carrier_io.specs.Reasons.{fault_of}
use Rattle.carrier_model.specs.FileTrees.{Store}
use Rattle.carrier_model.specs.Files.{Files}
use Rattle.carrier_model.specs.Stores.{store_in, StoreMeans}
use Rattle.carrier_model.specs.Trail.{Fault}
use Rattle.carrier_model.proofs.StoreLaws.{store_in-sound, store_in-only}

-- a reader that stops where another stops
pub fails_with : {A B : Type 0} (e : Stop) (r : Result A Fault) (s : Result B Fault) → ((g : Fault) → r ≡ Err g → s ≡ Err g) → Fails e r → Fails e s
fails_with (stops.Fault g) r s f h = f (fault_of g) h
fails_with stops.NoMemory r s f h = tt

apart : {A : Type 0} (r : Result A Fault) (x : A) (g : Fault) → r ≡ Ok x → r ≡ Err g → ⊥
apart r x g h k = absurd (cc)

same_value : {A : Type 0} (r : Result A Fault) (x y : A) → r ≡ Ok x → r ≡ Ok y → y ≡ x
same_value r x y h k = cc

same_fault : {A : Type 0} (r : Result A Fault) (g h : Fault) → r ≡ Err g → r ≡ Err h → h ≡ g
same_fault r g h a b = cc

pub both_sides : {X : Type 0} (view : X → Store) (r : Result X Stop) (s : Files) → Gives view r (store_in s) → Reads view r (StoreMeans s) (λ g. store_in s ≡ Err g)
both_sides view (Ok x) s h = record {
  found = store_in-sound s (view x) h;
  only = λ y m. same_value (store_in s) (view x) y h (store_in-only s y m);
  faultless = λ g k. apart (store_in s) (view x) g h k;
}
both_sides view (Err (stops.Fault g)) s h = record {
  is_first = h;
  only = λ k e. same_fault (store_in s) (fault_of g) k h e;
  meaningless = λ y m. apart (store_in s) y (fault_of g) (store_in-only s y m) h;
}
both_sides view (Err stops.NoMemory) s h = tt
