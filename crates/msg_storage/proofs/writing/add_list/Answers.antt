use Rattle.std.proofs.Common.{arith, subst}
use Rattle.std.specs.Prelude.{OnOk}
use Rattle.carrier_model.specs.FileTrees.{FileTree}
use Rattle.msg_nameid.specs.Maps.{names_in}
use Rattle.msg_props.specs.Heads.{head_at}
use Rattle.msg_storage.specs.Written.{Adds, is_top}
use Rattle.msg_storage.proofs.Parts.{few_attachments, head_of_message, list_told, own_named}
use Rattle.msg_storage.proofs.writing.add_list.Goals as goal

pub overflow_cast-head-2 : goal.overflow_cast-head-2
overflow_cast-head-2 g c = omega (arith, c.len-2.ensures, few_attachments g.B.Blob.bytes c.args.message.now c.requires.parts)

pub add_props-requires-clause-named : goal.add_props-requires-clause-named
add_props-requires-clause-named g c = own_named g.B.Blob.bytes c.args.message.now (names_in c.args.names.now) c.requires.known

pub returns : goal.returns
returns g c =
    let e = list_told g.B.Blob.bytes c.args.message.now (names_in c.args.names.now) (is_top c.args.part) (head_at c.args.part) c.len.result c.len-2.result c.len.ensures c.len-2.ensures (head_of_message c.args.part c.requires.part) in
    subst (λ (f : FileTree). OnOk c.add_props.result (Adds c.args.files.now c.add_props.new.files c.args.at f)) e c.add_props.ensures
