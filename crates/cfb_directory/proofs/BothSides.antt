-- What is answered of a file, against what it holds.
use Rattle.std.proofs.Common.{◌≡◌, ℕ, ◌≤◌, List, length, Ok, Err, Result}
use Rattle.carrier_model.specs.Trail.{Fault}
use Rattle.carrier_model.specs.Files.{Files, open_file}
use Rattle.carrier_model.specs.Tables.{sector_size}
use Rattle.carrier_model.specs.Holds.{FileHolds}
use Rattle.carrier_model.proofs.HoldsLaws.{open_sound, one_file, no_fault, size_known}
use Rattle.carrier_io.specs.declared.reasons.Stop.{Stop}
use Rattle.carrier_io.specs.declared.reasons.Stop.TheVariants as stops
use Rattle.carrier_io.specs.Reads.{Gives, Reads, MeansOnly}
use Rattle.carrier_io.specs.Reasons.{fault_of}

apart : (r : Result Files Fault) (x : Files) (g : Fault) → r ≡ Ok x → r ≡ Err g → ⊥
apart r x g h k = absurd (cc)

same_fault : (r : Result Files Fault) (g h : Fault) → r ≡ Err g → r ≡ Err h → h ≡ g
same_fault r g h a b = cc

pub found_sides : (f : Files) (b : List ℕ) → length b ≤ 268435456 → open_file b ≡ Ok f → MeansOnly (FileHolds b) (λ g. open_file b ≡ Err g) f
found_sides f b short h = record {
  found = open_sound (sector_size b) b f h;
  only = λ y k. one_file (sector_size b) b y f (size_known b) short k (open_sound (sector_size b) b f h);
  faultless = λ g k. apart (open_file b) f g h k;
}

pub both_sides : {X : Type 0} (view : X → Files) (r : Result X Stop) (b : List ℕ) → length b ≤ 268435456 → Gives view r (open_file b) → Reads view r (FileHolds b) (λ g. open_file b ≡ Err g)
both_sides view (Ok x) b short h = found_sides (view x) b short h
both_sides view (Err (stops.Fault g)) b short h = record {
  is_first = h;
  only = λ k e. same_fault (open_file b) (fault_of g) k h e;
  meaningless = λ y k. no_fault (sector_size b) b y (fault_of g) (size_known b) short h k;
}
both_sides view (Err stops.NoMemory) b short h = tt
