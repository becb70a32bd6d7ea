-- The names of the children of a storage in opened files.
use Rattle.std.proofs.Common.{◌≡◌, ℕ, Bool, true, false, cond, List, [], ◌∷◌, map, Some, refl, sym, ap, subst, ◌∙◌}
use Rattle.std.specs.Prelude.{nat_eq, is_some, not}
use Rattle.std.specs.List.{AllByRecursion, IsDistinct}
use Rattle.std.specs.Cmp.Lexicographic.{pointwise}
use Rattle.std.proofs.lemmas.Bool.{and_parts}
use Rattle.carrier_model.specs.Files.{Children, none, storage, stream, folded, name_of}
use Rattle.carrier_model.specs.Holds.{AreApart, child_names}
use Rattle.carrier_model.specs.Links.{is_storage}
use Rattle.cfb_directory.specs.Families.{family_at}
use Rattle.cfb_directory.specs.Found.{storage_seen}
use Rattle.cfb_directory.specs.Named.{are_apart, first_named, key_of}
use Rattle.cfb_directory.specs.Shapes.{deepest}
use Rattle.cfb_directory.specs.Shown.{table_in}
use Rattle.cfb_directory.specs.Trees.{Table, built, under}
use Rattle.cfb_directory.specs.Walks.{directory_of}
use Rattle.cfb_directory.specs.declared.files.Files.{Files}
use Rattle.cfb_directory.specs.declared.lookups.StorageId.{StorageId}

kept : (f : Files) (p : ℕ) → are_apart (key_of (directory_of f.sectors)) (family_at f.families.items p) ≡ true
kept f p = f.apart p

names_built : (T : Table) (below : ℕ → Children) (ids : List ℕ) → child_names (built T below ids none) ≡ map (λ id. name_of (T.entry id)) ids
names_built T below [] = refl
names_built T below (id ∷ ids) = by (is_storage (T.entry id)) (names_built T below ids)
  where
    by : (b : Bool) → child_names (built T below ids none) ≡ map (λ id. name_of (T.entry id)) ids
        → child_names (cond b (storage (record { name = name_of (T.entry id); id = id; place = T.place id; class = (T.entry id).class }) (below id) (built T below ids none)) (stream (record { name = name_of (T.entry id); id = id; place = T.place id; class = (T.entry id).class }) (T.stream id) (built T below ids none)))
        ≡ name_of (T.entry id) ∷ map (λ id. name_of (T.entry id)) ids
    by true h = ap (λ l. name_of (T.entry id) ∷ l) h
    by false h = ap (λ l. name_of (T.entry id) ∷ l) h

names_under : (T : Table) (id : ℕ) → child_names (under T deepest id) ≡ map (λ id. name_of (T.entry id)) (T.kids id)
unfolding under
names_under T id = names_built T (under T 101) (T.kids id)

none_named : (key : ℕ → List ℕ) (name : ℕ → List ℕ) → ((id : ℕ) → key id ≡ folded (name id)) → (q : List ℕ) (ids : List ℕ) → is_some (first_named key q ids) ≡ false → AllByRecursion (λ n. pointwise nat_eq q n ≡ false) (map folded (map name ids))
none_named key name k q [] h = tt
none_named key name k q (id ∷ ids) h = by (pointwise nat_eq q (key id)) refl h (none_named key name k q ids)
  where
    by : (b : Bool) → pointwise nat_eq q (key id) ≡ b → is_some (cond b (Some id) (first_named key q ids)) ≡ false → (is_some (first_named key q ids) ≡ false → AllByRecursion (λ n. pointwise nat_eq q n ≡ false) (map folded (map name ids))) → AllByRecursion (λ n. pointwise nat_eq q n ≡ false) (map folded (map name (id ∷ ids)))
    by true e g rest = absurd cc
    by false e g rest = (ap (pointwise nat_eq q) (sym (k id)) ∙ e, rest g)

not_true : (b : Bool) → not b ≡ true → b ≡ false
not_true true e = absurd cc
not_true false e = refl

distinct_named : (key : ℕ → List ℕ) (name : ℕ → List ℕ) → ((id : ℕ) → key id ≡ folded (name id)) → (ids : List ℕ) → are_apart key ids ≡ true → AreApart (map name ids)
unfolding IsDistinct
distinct_named key name k [] h = tt
distinct_named key name k (id ∷ ids) h =
    let p = and_parts (not (is_some (first_named key (key id) ids))) (are_apart key ids) h in
    (subst (λ (q : List ℕ). AllByRecursion (λ n. pointwise nat_eq q n ≡ false) (map folded (map name ids))) (k id) (none_named key name k (key id) ids (not_true _ p.0)), distinct_named key name k ids p.1)

-- no two children of a storage have one name
pub names_apart : (f : Files) (at : StorageId) → AreApart (child_names (storage_seen f at).children)
names_apart f at =
    let T = table_in f in
    subst AreApart (sym (names_under T at.entry)) (distinct_named (key_of (directory_of f.sectors)) (λ id. name_of (T.entry id)) (λ id. refl) (T.kids at.entry) (kept f at.entry))
