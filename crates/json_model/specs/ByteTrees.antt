-- Trees of which each byte is one: what devices tell.
use Rattle.std.specs.Prelude.{ℕ, ◌<◌, List}
use Rattle.std.specs.List.{AllByRecursion}
use Rattle.carrier_model.specs.FileTrees.{FileTree, no_file, stream, storage}
use Rattle.carrier_model.specs.Keys.{Key, id, named, numbered, texted}
use Rattle.carrier_model.specs.Tree.{Message, message, Attachments, no_more, attached, Body, nothing, embedded, stored}
use Rattle.carrier_model.specs.Values.{Value, number, guid, bytes, numbers, guids, parts, Prop}

abbrev pub AreBytes : List ℕ → Type 0
AreBytes x = AllByRecursion (λ b. b < 256) x

abbrev pub KeyHasBytes : Key → Type 0
KeyHasBytes (id n) = Unit {0}
KeyHasBytes (named (numbered set n)) = AreBytes set
KeyHasBytes (named (texted set units)) = AreBytes set

abbrev pub ValueHasBytes : Value → Type 0
ValueHasBytes (number n bits) = Unit {0}
ValueHasBytes (guid set) = AreBytes set
ValueHasBytes (bytes n x) = AreBytes x
ValueHasBytes (numbers n list) = Unit {0}
ValueHasBytes (guids list) = AllByRecursion AreBytes list
ValueHasBytes (parts n list) = AllByRecursion AreBytes list

abbrev pub PropHasBytes : Prop → Type 0
PropHasBytes p = KeyHasBytes p.key × ValueHasBytes p.value

abbrev pub PropsHaveBytes : List Prop → Type 0
PropsHaveBytes = AllByRecursion PropHasBytes

abbrev pub FilesHaveBytes : FileTree → Type 0
FilesHaveBytes no_file = Unit {0}
FilesHaveBytes (stream name x others) = AreBytes x × FilesHaveBytes others
FilesHaveBytes (storage name class inside others) = AreBytes class × FilesHaveBytes inside × FilesHaveBytes others

abbrev mutual
  pub HasBytes : Message → Type 0
  HasBytes (message props recipients attachments) = PropsHaveBytes props × AllByRecursion PropsHaveBytes recipients × HaveBytes attachments

  pub HaveBytes : Attachments → Type 0
  HaveBytes no_more = Unit {0}
  HaveBytes (attached props body others) = PropsHaveBytes props × BodyHasBytes body × HaveBytes others

  pub BodyHasBytes : Body → Type 0
  BodyHasBytes nothing = Unit {0}
  BodyHasBytes (embedded inner) = HasBytes inner
  BodyHasBytes (stored store) = AreBytes store.class × FilesHaveBytes store.members
