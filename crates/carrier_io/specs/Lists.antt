-- What the items of the lists are.
use Rattle.std.specs.Prelude.{ℕ, Bool}
use Rattle.carrier_io.specs.declared.passed.Passed.{Passed}

-- a thing that was passed over: whether it is an attribute, its id or tag, and its place
abbrev pub passed_of : Passed → Bool × ℕ × ℕ
passed_of p = (p.attribute, p.what, p.offset)
