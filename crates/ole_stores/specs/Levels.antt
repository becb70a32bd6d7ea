-- Stores by the levels that are left: so many storages may stand one below another.
use Rattle.std.specs.Prelude.{ℕ, zero, suc, ◌+◌, List, [], ◌∷◌, Result, Ok, Err}
use Rattle.carrier_model.specs.FileTrees.{Named, Member, bytes_at, store_at, Store}
use Rattle.carrier_model.specs.Files.{Children, none, storage, stream, Files}
use Rattle.carrier_model.specs.Lookups.{storage_at}
use Rattle.carrier_model.specs.Outcomes.{◌>>=◌, mapped}
use Rattle.carrier_model.specs.Reasons.{STORE_TOO_DEEP}
use Rattle.carrier_model.specs.Stores.{store_of, deep_place, shallow}
use Rattle.carrier_model.specs.Trail.{Fault}

-- the members that children are, as they come, what is below them in order
abbrev pub members_of : Children → List Named
members_of none = []
members_of (storage tag below rest) = (tag.name, store_at (store_of (storage_at tag below))) ∷ members_of rest
members_of (stream tag x rest) = (tag.name, bytes_at x.bytes) ∷ members_of rest

abbrev pub members_within : ℕ → Children → Result (List Named) Fault
members_within most c = shallow (deep_place most c) >>= λ fits. Ok (members_of c)

abbrev pub store_within : ℕ → Files → Result Store Fault
store_within most s = shallow (deep_place most s.children) >>= λ fits. Ok (store_of s)

-- the store of a storage in another, in which so many may stand
abbrev pub store_below : ℕ → Files → Result Store Fault
store_below zero s = Err (STORE_TOO_DEEP, s.place + 66)
store_below (suc most) s = store_within most s

-- the child at a place; no fault is reported where there is none
abbrev pub member_at : ℕ → Children → ℕ → Result Member Fault
member_at most none k = Err (0, 0)
member_at most (storage tag below rest) zero = mapped store_at (store_below most (storage_at tag below))
member_at most (storage tag below rest) (suc k) = member_at most rest k
member_at most (stream tag x rest) zero = Ok (bytes_at x.bytes)
member_at most (stream tag x rest) (suc k) = member_at most rest k
