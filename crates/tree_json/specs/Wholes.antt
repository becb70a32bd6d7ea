-- Parts of trees whose bytes are bytes, and whose property lists are in order, each property of the form of its kind.
use Rattle.std.specs.Prelude.{List}
use Rattle.std.specs.List.{AllByRecursion}
use Rattle.carrier_model.specs.FileTrees.{Member, bytes_at, store_at, Store}
use Rattle.carrier_model.specs.Keys.{Key}
use Rattle.carrier_model.specs.Sorted.{IsStrictlySorted}
use Rattle.carrier_model.specs.Tree.{Message, message, Attachments, no_more, attached, Attached, Body, nothing, embedded, stored}
use Rattle.carrier_model.specs.Trees.{KeyHasUnits}
use Rattle.carrier_model.specs.Values.{Prop, IsProp, prop_cmp}
use Rattle.json_model.specs.ByteTrees.{AreBytes, KeyHasBytes, ValueHasBytes, FilesHaveBytes}

abbrev pub IsWholeKey : Key → Type 0
IsWholeKey key = KeyHasBytes key × KeyHasUnits key

abbrev pub IsWholeProp : Prop → Type 0
IsWholeProp p = IsWholeKey p.key × ValueHasBytes p.value × IsProp p

abbrev pub IsWholeList : List Prop → Type 0
IsWholeList props = AllByRecursion IsWholeProp props × IsStrictlySorted prop_cmp props

abbrev pub StoreHasBytes : Store → Type 0
StoreHasBytes s = AreBytes s.class × FilesHaveBytes s.members

abbrev pub MemberHasBytes : Member → Type 0
MemberHasBytes (bytes_at x) = AreBytes x
MemberHasBytes (store_at inner) = StoreHasBytes inner

-- all that is in a message
abbrev mutual
  pub IsWhole : Message → Type 0
  IsWhole (message props recipients attachments) = IsWholeList props × AllByRecursion IsWholeList recipients × AreWhole attachments

  pub AreWhole : Attachments → Type 0
  AreWhole no_more = Unit {0}
  AreWhole (attached props body others) = (IsWholeList props × BodyIsWhole body) × AreWhole others

  pub BodyIsWhole : Body → Type 0
  BodyIsWhole nothing = Unit {0}
  BodyIsWhole (embedded inner) = IsWhole inner
  BodyIsWhole (stored store) = StoreHasBytes store

-- an attachment by itself
abbrev pub AttachedIsWhole : Attached → Type 0
AttachedIsWhole one = IsWholeList one.0 × BodyIsWhole one.1
