use Rattle.std.proofs.Common.{◌≡◌, ℕ, List, None, ap, subst}
use Rattle.std.specs.Prelude.{replicate}
use Rattle.carrier_model.specs.FileTrees.{FileTree, storage, NO_CLASS}
use Rattle.msg_model.specs.StreamNames.{RECIPIENT_NAME, numbered_name}
use Rattle.msg_model.specs.WrittenMsg.{list_files}
use Rattle.msg_model.proofs.WrittenMessages.{among}
use Rattle.msg_nameid.specs.Maps.{names_in}
use Rattle.msg_props.specs.Heads.{head_at, head_bytes}
use Rattle.msg_storage.specs.Written.{Adds}
use Rattle.msg_storage.proofs.Adding.{adds_storage, on_ok}
use Rattle.msg_storage.proofs.writing.add_recipient.Goals as goal

pub add_props-requires-clause-named : goal.add_props-requires-clause-named
add_props-requires-clause-named g c = among (names_in c.args.names.now) c.args.props.now c.requires.known

pub returns : goal.returns
returns g c =
    let names = names_in c.args.names.now in
    let old = c.args.files.now in
    let mid = c.add_numbered_storage.new.self in
    let new = c.add_props.new.files in
    let h = c.small_head-head.result in
    let inside : FileTree = list_files names (replicate 8 0) c.args.props.now None in
    let head_is : head_bytes h ≡ replicate 8 0 = ap (λ p. head_at p h.recipients h.attachments) c.small_head-head.ensures.part in
    let name = numbered_name RECIPIENT_NAME c.args.number in
    on_ok c.add_props.result
    (λ q. adds_storage old mid new c.args.at c.in_ok-storage.storage name NO_CLASS inside c.in_ok-storage.ensures.number c.in_ok-storage.ensures.ok
    (subst (λ (hd : List ℕ). Adds mid new c.in_ok-storage.storage (list_files names hd c.args.props.now None)) head_is q))
    c.add_props.ensures
