-- The numbers of a list.
use Rattle.std.specs.Prelude.{ℕ, List, [], ◌∷◌}
use Rattle.carrier_io.specs.declared.numbers.Few.{Few}
use Rattle.carrier_io.specs.declared.numbers.Few.TheVariants as few

abbrev pub numbers_in : Few → List ℕ
numbers_in few.None = []
numbers_in (few.One item) = item ∷ []
numbers_in (few.Many list) = list.value.items
