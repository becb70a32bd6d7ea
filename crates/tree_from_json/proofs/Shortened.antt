-- Entries with no more of their paths than how many names these have, and the last: they make the same members.
use Rattle.std.proofs.Common.{◌≡◌, ◌∙◌, refl, sym, ap, ℕ, zero, suc, ◌+◌, ◌<◌, ◌==◌, ◌&&◌, ◌++◌, nat_lt, nat_le, not, Option, None, Some, MatchOption, option_to_list, unwrap_or, Bool, true, false, cond, List, [], ◌∷◌, length, map, arith}
use Rattle.std.specs.List.{list_all}
use Rattle.std.proofs.lemmas.Bool.Decides.{nat_tests}
use Rattle.std.proofs.lemmas.List.{length-map}
use Rattle.carrier_model.specs.FileTrees as trees
use Rattle.carrier_model.specs.Lookups.{same_name}
use Rattle.carrier_model.specs.Stores.{PROPERTIES, MOST_STORAGES}
use Rattle.json_model.specs.StoreForms.{Entry, storage_entry, stream_entry, path_of, last_name, is_below, front_below, behind_below, files_within, is_fit}
use Rattle.tree_from_json.specs.Entries.{entry_at, path_to, placed_of, shortened, tree_at}
use Rattle.tree_from_json.specs.declared.entries.Content.{Content}
use Rattle.tree_from_json.specs.declared.entries.Content.TheVariants.{Storage, Stream}
use Rattle.tree_from_json.specs.declared.entries.Placed.{Placed}

-- ---- paths

pub path_at : (path : List (List ℕ)) (content : Content) → path_of (entry_at path content) ≡ path
path_at path (Storage class) = refl
path_at path (Stream bytes) = refl

pub path_long : (level : ℕ) (name : List ℕ) → length (path_to level name) ≡ level
path_long zero name = refl
path_long (suc zero) name = refl
path_long (suc (suc level)) name = ap suc (path_long (suc level) name)

pub placed_long : (p : Placed) → length (path_of (placed_of p)) ≡ p.level
placed_long p = ap (λ path. length path) (path_at (path_to p.level p.name) p.content) ∙ path_long p.level p.name

pub level_below : (level : ℕ) (p : Placed) → is_below level (placed_of p) ≡ true → level < p.level
level_below level p below = let long = placed_long p in let lt : level < length (path_of (placed_of p)) = grind (arith, nat_tests) in omega (arith, lt, long)

path_ends : (level : ℕ) (name : List ℕ) → last_name (path_to (suc level) name) ≡ name
path_ends zero name = refl
path_ends (suc zero) name = refl
path_ends (suc (suc level)) name = path_ends (suc level) name

pub end_above : (above level : ℕ) (name : List ℕ) → above < level → last_name (path_to level name) ≡ name
end_above above zero name lt = absurd (omega (arith, lt))
end_above above (suc level) name lt = path_ends level name

same_end : (path : List (List ℕ)) → last_name (path_to (length path) (last_name path)) ≡ last_name path
same_end [] = refl
same_end (name ∷ path) = path_ends (length path) (last_name (name ∷ path))

pub short_at : (path : List (List ℕ)) (content : Content) → shortened (entry_at path content) ≡ entry_at (path_to (length path) (last_name path)) content
short_at path (Storage class) = refl
short_at path (Stream bytes) = refl

-- the last name of a path, as it is taken off
last_behind : (path : List (List ℕ)) (name : List ℕ) → last_name (path ++ name ∷ []) ≡ name
last_behind [] name = refl
last_behind (one ∷ []) name = refl
last_behind (one ∷ other ∷ path) name = last_behind (other ∷ path) name

pub last_taken : (path rest : List (List ℕ)) (name : Option (List ℕ)) (n m : ℕ) → n ≡ length path → path ≡ rest ++ option_to_list name → MatchOption name ((n ≡ 0) × (m ≡ 0)) (λ x. m + 1 ≡ n) → unwrap_or name [] ≡ last_name path
last_taken [] rest None n m long is none = refl
last_taken (one ∷ path) rest None n m long is none = absurd (omega (arith, long, none.0))
last_taken path rest (Some name) n m long is some = sym (ap last_name is ∙ last_behind rest name)

-- ---- which are below a level

below_same : (level : ℕ) (e : Entry) → is_below level (shortened e) ≡ is_below level e
below_same level (storage_entry path class) = ap (nat_lt level) (path_long (length path) (last_name path))
below_same level (stream_entry path x) = ap (nat_lt level) (path_long (length path) (last_name path))

front_same : (level : ℕ) (es : List Entry) → front_below level (map shortened es) ≡ map shortened (front_below level es)
front_same level [] = refl
front_same level (e ∷ es) = ap (λ b. cond b (shortened e ∷ front_below level (map shortened es)) []) (below_same level e) ∙ by (is_below level e) (front_same level es)
  where
    by : (b : Bool) → front_below level (map shortened es) ≡ map shortened (front_below level es) → cond b (shortened e ∷ front_below level (map shortened es)) [] ≡ map shortened (cond b (e ∷ front_below level es) [])
    by true more = ap (λ l. shortened e ∷ l) more
    by false more = refl

behind_same : (level : ℕ) (es : List Entry) → behind_below level (map shortened es) ≡ map shortened (behind_below level es)
behind_same level [] = refl
behind_same level (e ∷ es) = ap (λ b. cond b (behind_below level (map shortened es)) (map shortened (e ∷ es))) (below_same level e) ∙ by (is_below level e) (behind_same level es)
  where
    by : (b : Bool) → behind_below level (map shortened es) ≡ map shortened (behind_below level es) → cond b (behind_below level (map shortened es)) (map shortened (e ∷ es)) ≡ map shortened (cond b (behind_below level es) (e ∷ es))
    by true more = more
    by false more = refl

-- ---- the members

files_same : (most level : ℕ) (es : List Entry) → files_within most level (map shortened es) ≡ files_within most level es
files_same zero level es = refl
files_same (suc most) level [] = refl
files_same (suc most) level (stream_entry path x ∷ es) =
    let others = files_same most level es in
    λ i. trees.stream (same_end path i) x (others i)
files_same (suc most) level (storage_entry path class ∷ es) =
    let inside = ap (files_within most (suc level)) (front_same (suc level) es) ∙ files_same most (suc level) (front_below (suc level) es) in
    let others = ap (files_within most level) (behind_same (suc level) es) ∙ files_same most level (behind_below (suc level) es) in
    λ i. trees.storage (same_end path i) class (inside i) (others i)

pub tree_same : (level : ℕ) (es : List Entry) → tree_at level (front_below level (map shortened es)) ≡ tree_at level (front_below level es)
tree_same level es =
    let front = front_below level es in
    ap (tree_at level) (front_same level es) ∙ (ap (λ n. files_within n level (map shortened front)) (length-map front shortened) ∙ files_same (length front) level front)

-- ---- which are fit

fit_same : (e : Entry) → is_fit (shortened e) ≡ is_fit e
fit_same (storage_entry path class) = ap (λ n. nat_le n MOST_STORAGES) (path_long (length path) (last_name path))
fit_same (stream_entry path x) = λ i. not ((path_long (length path) (last_name path) i == 1) && same_name (same_end path i) PROPERTIES)

pub fits_same : (es : List Entry) → list_all is_fit (map shortened es) ≡ list_all is_fit es
fits_same [] = refl
fits_same (e ∷ es) = let more = fits_same es in λ i. fit_same e i && more i
