use Rattle.std.proofs.Common.{take, subst}
use Rattle.carrier_model.specs.FileTrees.{FileTree}
use Rattle.msg_model.specs.WrittenMsg.{recipient_files}
use Rattle.msg_nameid.specs.Maps.{names_in}
use Rattle.msg_storage.specs.Written.{Adds, recipient_tree}
use Rattle.msg_storage.proofs.Adding.{adds_two, recipient_known, recipients_taken}
use Rattle.msg_storage.proofs.writing.add_recipients.Goals as goal

pub add_recipient-requires-clause-known : goal.add_recipient-requires-clause-known
add_recipient-requires-clause-known g c = recipient_known (names_in c.args.names.now) c.args.recipients.now c.loop-k.k c.get.result.now c.get.ensures c.requires.known

pub loop-k-preserved : goal.loop-k-preserved
loop-k-preserved g c =
    let names = names_in c.args.names.now in
    let k = c.loop-k.k in
    subst (λ (f : FileTree). Adds c.args.files.now c.add_recipient.new.files c.args.at f) (recipients_taken names c.args.recipients.now k c.get.result.now c.get.ensures)
    (adds_two c.grown_lists_are_trees.ensures.steps c.args.files.now c.loop-k.files c.add_recipient.new.files c.args.at (recipient_files names 0 (take k c.args.recipients.now)) (recipient_tree names k c.get.result.now) c.loop-k.invariant c.in_ok-add_recipient.ensures)
