-- A message that opened files mean is a tree: no deeper than it may be, and its stores are stores.
use Rattle.std.proofs.Common.{◌≡◌, ◌≤◌, List, Ok}
use Rattle.carrier_model.specs.Files.{Files}
use Rattle.carrier_model.specs.Meanings.{Passed}
use Rattle.carrier_model.specs.Tables.{sector_size}
use Rattle.carrier_model.specs.Tree.{Message, message, Attachments, no_more, attached, Body, nothing, embedded, stored, depth}
use Rattle.carrier_model.specs.Trees.{HasPropLists, HavePropLists, BodyHasPropLists}
use Rattle.carrier_model.proofs.HoldsLaws.{open_sound}
use Rattle.msg_model.specs.MsgMessage.{files_meaning}
use Rattle.msg_model.proofs.MsgMessage.{files_meaning-sound}
use Rattle.msg_model.proofs.ReadMsgMessage.{msg_is_tree}
use Rattle.msg_tree.specs.Keeping.{HasStores, HaveStores, BodyHasStores}
use Rattle.cfb_directory.specs.Opened.{IsOpened}

mutual
  has_stores : (t : Message) → HasPropLists t → HasStores t
  has_stores (message props recipients attachments) h = have_stores attachments h.1.1

  have_stores : (a : Attachments) → HavePropLists a → HaveStores a
  have_stores no_more h = tt
  have_stores (attached props body others) h = (body_has_stores body h.1.0, have_stores others h.1.1)

  body_has_stores : (b : Body) → BodyHasPropLists b → BodyHasStores b
  body_has_stores nothing h = tt
  body_has_stores (embedded inner) h = has_stores inner h
  body_has_stores (stored store) h = h

pub is_tree : (root : Files) (t : Message) (passed : List Passed) → IsOpened root → files_meaning root ≡ Ok (record { message = t; passed = passed }) → (depth t ≤ 32) × HasStores t
is_tree root t passed o means =
    let holds = open_sound (sector_size o.bytes) o.bytes root o.opens in
    let tree = msg_is_tree o.bytes t passed o.each o.few (record { root = root; holds = holds; means = files_meaning-sound root _ means }) in
    (tree.levels, has_stores t tree.lists)
