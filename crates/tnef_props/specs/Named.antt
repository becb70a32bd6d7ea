-- The names that a set has, and the parts of a name as it is written.
use Rattle.std.specs.Prelude.{ℕ, ◌-◌, [], ◌∷◌, ◌++◌, List, All, Contains, take, drop}
use Rattle.carrier_model.specs.Bytes.{le32, unit_bytes}
use Rattle.carrier_model.specs.Keys.{Name, numbered, texted, Key, id, named}
use Rattle.tnef_model.specs.TnefCanonical.{with_size}
use Rattle.carrier_model.specs.Values.{Prop}

-- what stands behind the property set
abbrev pub label_field : Name → List ℕ
label_field (numbered set n) = le32 0 ++ le32 n
label_field (texted set units) = le32 1 ++ with_size (unit_bytes (units ++ 0 ∷ []))

-- the key is an id, or its name is among the names
abbrev pub HasKey : List Name → Key → Type 0
HasKey names (id n) = Unit {0}
HasKey names (named name) = Contains names name

-- each name is among the names
abbrev pub HasNames : List Name → List Prop → Type 0
HasNames names props = All (λ p. HasKey names p.key) props

-- what stands in a list from a place up to another
abbrev pub between : {A : Type 0} → ℕ → ℕ → List A → List A
between from to xs = take (to - from) (drop from xs)
