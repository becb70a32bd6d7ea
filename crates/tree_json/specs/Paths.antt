-- The names of a path.
use Rattle.std.specs.Prelude.{ℕ, List, [], ◌∷◌, ◌++◌}
use Rattle.tree_json.specs.declared.paths.Path.{Path, Top, Under'}

-- from the store down
abbrev pub names_in : Path → List (List ℕ)
names_in Top = []
names_in (Under' at above name) = names_in above ++ name.now ∷ []
