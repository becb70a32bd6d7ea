-- Trees whose stores keep to what a store in an attachment keeps to.
use Rattle.std.specs.Prelude.{◌≡◌, ℕ, ◌<◌, ◌^◌, false, List, length}
use Rattle.std.specs.Coded.{×_prop, Π_prop, →_prop, Unit-prop, le_prop, Coded-set, coded_ℕ, coded_bool}
use Rattle.std.specs.List.{AllByRecursion-prop}
use Rattle.std.specs.Ordering.{Ordering-set}
use Rattle.carrier_model.specs.FileTrees as trees
use Rattle.carrier_model.specs.FileTrees.{FileTree, Store, IsFileName}
use Rattle.carrier_model.specs.Stores.{PROPERTIES, has_stream, AreInOrder, AreMembers, IsStore}
use Rattle.carrier_model.specs.Tree.{Message, message, Attachments, no_more, attached, Body, nothing, embedded, stored}

-- each store of a message and of all below it is one
abbrev mutual
  pub HasStores : Message → Type 0
  HasStores (message props recipients attachments) = HaveStores attachments

  pub HaveStores : Attachments → Type 0
  HaveStores no_more = Unit {0}
  HaveStores (attached props body others) = BodyHasStores body × HaveStores others

  pub BodyHasStores : Body → Type 0
  BodyHasStores nothing = Unit {0}
  BodyHasStores (embedded inner) = HasStores inner
  BodyHasStores (stored store) = IsStore store

-- ---- each of these facts has one proof at most

name_prop : (name : List ℕ) → IsProp (IsFileName name)
name_prop name a b = λ i. record { few = le_prop a.few b.few i; units = AllByRecursion-prop (λ unit. unit < 2 ^ 16) (λ unit. le_prop) name a.units b.units i }

order_prop : (f : FileTree) → IsProp (AreInOrder f)
order_prop f = Π_prop (λ i. Π_prop (λ j. Π_prop (λ d. →_prop (→_prop (Ordering-set _ _)))))

class_prop : (class : List ℕ) → IsProp (length class ≡ 16)
class_prop class = Coded-set coded_ℕ (length class) 16

members_prop : (f : FileTree) → IsProp (AreMembers f)
members_prop trees.no_file = Unit-prop
members_prop (trees.stream name bytes others) = ×_prop (name_prop name) (members_prop others)
members_prop (trees.storage name class inside others) = λ a b i. (name_prop name a.0 b.0 i, class_prop class a.1 b.1 i, order_prop inside a.2 b.2 i, members_prop inside a.3 b.3 i, members_prop others a.4 b.4 i)

store_prop : (s : Store) → IsProp (IsStore s)
store_prop s a b = λ i. record {
  class = class_prop s.class a.class b.class i;
  order = order_prop s.members a.order b.order i;
  members = members_prop s.members a.members b.members i;
  depth = le_prop a.depth b.depth i;
  no_message = Coded-set coded_bool (has_stream s.members PROPERTIES) false a.no_message b.no_message i;
}

mutual
  pub HasStores-prop : (t : Message) → IsProp (HasStores t)
  HasStores-prop (message props recipients attachments) = HaveStores-prop attachments

  HaveStores-prop : (a : Attachments) → IsProp (HaveStores a)
  HaveStores-prop no_more = Unit-prop
  HaveStores-prop (attached props body others) = ×_prop (BodyHasStores-prop body) (HaveStores-prop others)

  BodyHasStores-prop : (body : Body) → IsProp (BodyHasStores body)
  BodyHasStores-prop nothing = Unit-prop
  BodyHasStores-prop (embedded inner) = HasStores-prop inner
  BodyHasStores-prop (stored store) = store_prop store
