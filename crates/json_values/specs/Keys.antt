-- The keys of an object.
use Rattle.std.specs.Prelude.{ℕ, Bool, true, not, ◌&&◌, bytes_eq, List, [], ◌∷◌}
use Rattle.std.specs.List.{list_any}
use Rattle.serde_json.specs.Data.{Data, null, boolean, number, string, array, object, Members, no_members, member}

abbrev pub member_keys : Members → List (List ℕ)
member_keys no_members = []
member_keys (member k d ms) = k ∷ member_keys ms

abbrev pub keys_of : Data → List (List ℕ)
keys_of null = []
keys_of (boolean b) = []
keys_of (number n) = []
keys_of (string s) = []
keys_of (array ds) = []
keys_of (object ms) = member_keys ms

-- a key is one of these names
abbrev pub is_among : List (List ℕ) → List ℕ → Bool
is_among names key = list_any (λ name. bytes_eq name key) names

-- no name comes twice
abbrev pub are_apart : List (List ℕ) → Bool
are_apart [] = true
are_apart (x ∷ xs) = not (is_among xs x) && are_apart xs
