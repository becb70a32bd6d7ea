-- What a gatherer tells of the device and of the bytes in hand.
use Rattle.std.specs.Prelude.{ℕ, zero, suc, ◌<◌, ◌++◌, List, [], length, take, drop, Option, None, Some}
use Rattle.std.specs.Io.KnownBytes.{Appends, append_known}
use Rattle.std.specs.Coded.{×_prop, →_prop, Unit-prop, le_prop, Coded-set, coded_list, coded_ℕ}
use Rattle.carrier_io.specs.Causes.{Rose}

-- what a device holds now behind what it held
abbrev pub grown : Option (List ℕ) → Option (List ℕ) → List ℕ
grown None now = []
grown (Some xs) None = []
grown (Some xs) (Some ys) = drop (length xs) ys

-- nothing that it held is lost
abbrev pub Extends : Option (List ℕ) → Option (List ℕ) → Type 0
Extends old now = Appends old now (grown old now)

-- a front of the page was appended
abbrev pub Lands : Option (List ℕ) → Option (List ℕ) → List ℕ → Type 0
Lands old now page = Appends old now (take (length (grown old now)) page)

-- The device's bytes, and then the page; after a failure, which is counted as refused, what they were before the page
-- was handed on.
abbrev pub told : ℕ → Option (List ℕ) → Option (List ℕ) → List ℕ → Option (List ℕ)
told zero now base page = append_known now page
told (suc refused) now base page = append_known base page

-- where a page was cut off, a front of it stands in the device, which counted a failure
abbrev pub IsCut : ℕ → ℕ → ℕ → Option (List ℕ) → Option (List ℕ) → List ℕ → Type 0
IsCut refused before faults base now page = 0 < refused → Lands base now page × Rose before faults

pub Appends-prop : (old now : Option (List ℕ)) (bs : List ℕ) → IsProp (Appends old now bs)
Appends-prop None now bs = Unit-prop
Appends-prop (Some xs) None bs = λ p q. absurd p
Appends-prop (Some xs) (Some ys) bs = Coded-set (coded_list coded_ℕ) ys (xs ++ bs)

pub IsCut-prop : (refused before faults : ℕ) (base now : Option (List ℕ)) (page : List ℕ) → IsProp (IsCut refused before faults base now page)
IsCut-prop refused before faults base now page = →_prop (×_prop (Appends-prop base now (take (length (grown base now)) page)) le_prop)
