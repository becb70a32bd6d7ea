-- What a directory has, up to its first fault.
use Rattle.std.specs.Prelude.{◌≡◌, ℕ, ◌<◌, ◌≤◌, List, [], ◌∷◌, length, vec_len, map, All, Result, Ok, Err}
use Rattle.carrier_model.specs.Trail.{Fault}
use Rattle.carrier_model.specs.Outcomes.{◌>>=◌}
use Rattle.carrier_model.specs.Files.{first_link, all_families, names_of}
use Rattle.carrier_model.specs.Links.{Directory, Links, ids, links_of, no_link}
use Rattle.carrier_model.specs.Marks.{Marks}
use Rattle.carrier_io.specs.declared.reasons.Stop.{Stop}
use Rattle.carrier_io.specs.Reads.{Fails}
use Rattle.cfb_directory.specs.Families.{family_at, index_at, names_at, children_in}
use Rattle.cfb_directory.specs.Named.{key_of, first_named, name_at}
use Rattle.cfb_directory.specs.Walks.{placed}
use Rattle.cfb_directory.specs.declared.outline.Outline.{Outline}

-- the entries as they are linked, no storage with a name twice
abbrev pub linked_of : Directory → Result Links Fault
linked_of d = links_of d (first_link d) (0 ∷ []) >>= λ t. names_of d (all_families t) >>= λ _. Ok t

-- the outline of a directory whose entries are linked so
pub record IsOutline (d : Directory) (outline : Outline) (t : Links) : Type 0 where
  pub linked : links_of d (first_link d) (0 ∷ []) ≡ Ok t
  pub apart : names_of d (all_families t) ≡ Ok tt
  pub marks : Marks outline.visited (0 ∷ ids t)
  pub length : length outline.visited ≡ d.count
  pub count : vec_len outline.families ≡ d.count
  pub few : d.count ≤ no_link
  pub some : 1 ≤ d.count
  pub kids : (p : ℕ) → family_at outline.families.items p ≡ children_in p (placed 0 t)
  pub inside : (p : ℕ) → All (λ k. k < d.count) (family_at outline.families.items p)
  pub names : (p : ℕ) (q : List ℕ) → p < d.count → index_at outline.families.items p q ≡ first_named (key_of d) q (family_at outline.families.items p)
  pub spelled : (p : ℕ) → p < d.count → names_at outline.families.items p ≡ map (name_at d) (family_at outline.families.items p)

abbrev pub IsOutlined : Directory → Result Outline Stop → Type 0
IsOutlined d (Ok outline) = (t : Links) × IsOutline d outline t
IsOutlined d (Err e) = Fails e (linked_of d)
