-- A tree of storages and streams, from the children of each entry by number.
use Rattle.std.specs.Prelude.{ℕ, zero, suc, List, [], ◌∷◌, Bool, false, if◌then◌else◌}
use Rattle.std.specs.List.{list_all}
use Rattle.carrier_model.specs.Entries.{Entry}
use Rattle.carrier_model.specs.Files.{Tag, Children, none, storage, stream, name_of}
use Rattle.carrier_model.specs.Links.{is_storage}
use Rattle.carrier_model.specs.Streams.{Stream}

-- the children of each entry, in sibling order; the entry, and where it lies; its stream
pub record Table : Type 0 where
  pub kids : ℕ → List ℕ
  pub entry : ℕ → Entry
  pub place : ℕ → ℕ
  pub stream : ℕ → Stream

abbrev pub tag_at : Table → ℕ → Tag
tag_at T id = record { name = name_of (T.entry id); id = id; place = T.place id; class = (T.entry id).class }

-- these siblings, where below gives what is below a storage; rest is what stands behind them
abbrev pub built : Table → (ℕ → Children) → List ℕ → Children → Children
built T below [] rest = rest
built T below (id ∷ ids) rest =
    if is_storage (T.entry id) then storage (tag_at T id) (below id) (built T below ids rest)
    else stream (tag_at T id) (T.stream id) (built T below ids rest)

-- what is below an entry, to so many levels
unfoldable pub under : Table → ℕ → ℕ → Children
under T zero id = none
under T (suc levels) id = built T (under T levels) (T.kids id) none

-- whether nothing is below an entry deeper than so many levels
unfoldable pub ends : (ℕ → List ℕ) → ℕ → ℕ → Bool
ends kids zero id = false
ends kids (suc levels) id = list_all (ends kids levels) (kids id)
