-- What the attributes of one message or attachment have given.
use Rattle.std.specs.Prelude.{◌≡◌, ℕ, ◌==◌, ◌&&◌, Bool, true, false, not, List, [], map, filter}
use Rattle.std.specs.List.{flat_map, list_any}
use Rattle.carrier_model.specs.Keys.{Key, id, named, is_id}
use Rattle.carrier_model.specs.Values.{Prop}
use Rattle.tnef_model.specs.TnefMessage.{Read, props_in, derived as derived_of, has_key_of}

-- the key is an id
abbrev pub IsIdKey : Key → Type 0
IsIdKey (id number) = Unit {0}
IsIdKey (named name) = ⊥

abbrev pub HasId : Prop → Type 0
HasId p = IsIdKey p.key

-- beside a message or a store in an attachment there is no data
abbrev pub beside_if : Bool → List Prop → List Prop
beside_if true more = filter (λ p. not (is_id 0x3701 p.key)) more
beside_if false more = more

-- a derived property stays
abbrev pub stays : Bool → List Prop → Prop → Bool
stays embeds props p = not (has_key_of props p) && not (embeds && is_id 0x3701 p.key)

-- the ids, the list and the derived properties of attributes that were read, one of which may have the list
pub record IsSection (list_id : ℕ) (reads : List Read) (seen : List ℕ) (list : List Prop) (derived : List Prop) : Type 0 where
  pub seen_are : seen ≡ map (λ r. r.0.id) reads
  pub list_is : list ≡ flat_map (λ r. props_in r.1.gift) reads
  pub derived_are : derived ≡ derived_of reads
  pub no_list : list_any (λ n. n == list_id) seen ≡ false → list ≡ []
