-- What a message keeps to whose lists come from typed values. [MS-OXCDATA 2.6.1 and 2.11.1]
use Rattle.std.specs.Prelude.{◌<◌, ◌≤◌, ◌^◌, List, All}
use Rattle.carrier_model.specs.Keys.{Name, numbered, texted, Key, id, named}
use Rattle.carrier_model.specs.Values.{Prop, prop_cmp, IsProp}
use Rattle.carrier_model.specs.Sorted.{IsStrictlySorted}
use Rattle.carrier_model.specs.Stores.{IsStore}
use Rattle.carrier_model.specs.Tree.{Message, message, Attachments, no_more, attached, Body, nothing, embedded, stored, depth, GREATEST_LEVEL}

-- the units of a name's text have 16 bits
abbrev pub HasUnits : Name → Type 0
HasUnits (numbered set number) = Unit {0}
HasUnits (texted set units) = All (λ unit. unit < 2 ^ 16) units

abbrev pub KeyHasUnits : Key → Type 0
KeyHasUnits (id number) = Unit {0}
KeyHasUnits (named name) = HasUnits name

-- by key and kind, none twice, and each property of the form and the range of its kind
pub record IsPropList (props : List Prop) : Type 0 where
  pub sorted : IsStrictlySorted prop_cmp props
  pub each : All IsProp props
  pub units : All (λ p. KeyHasUnits p.key) props

-- each list of a message and of all below it is one, and each store is one
abbrev mutual
  pub HasPropLists : Message → Type 0
  HasPropLists (message props recipients attachments) = IsPropList props × (All IsPropList recipients × HavePropLists attachments)

  pub HavePropLists : Attachments → Type 0
  HavePropLists no_more = Unit {0}
  HavePropLists (attached props body others) = IsPropList props × (BodyHasPropLists body × HavePropLists others)

  pub BodyHasPropLists : Body → Type 0
  BodyHasPropLists nothing = Unit {0}
  BodyHasPropLists (embedded inner) = HasPropLists inner
  BodyHasPropLists (stored store) = IsStore store

-- a message whose embedded messages have at most the greatest level
pub record IsTree (t : Message) : Type 0 where
  pub lists : HasPropLists t
  pub levels : depth t ≤ GREATEST_LEVEL
