use Rattle.job_model.specs.Commands.{edited}
use Rattle.msg_tree.specs.Whole.{meaning_in}
use Rattle.outlook_cli.proofs.Outcomes.{accepts_file, change_told}
use Rattle.outlook_cli.proofs.changing.edit_bytes.Goals as goal

pub returns-in-Ok-Msg-clause-told : goal.returns-in-Ok-Msg-clause-told
returns-in-Ok-Msg-clause-told g c =
    let bytes = c.args.bytes.now in
    let m = meaning_in c.in-Ok-Msg.accepted in
    let read = rw c.in-Ok-Msg.field-0-is at c.in-Ok-Msg.ensures.both in
    change_told (edited c.args.edits.now) bytes _ _ c.write_edited_msg.result m (accepts_file bytes m c.requires read) (c.write_edited_msg.ensures.puts bytes)

pub returns-in-Ok-Tnef-clause-told : goal.returns-in-Ok-Tnef-clause-told
returns-in-Ok-Tnef-clause-told g c =
    let bytes = c.args.bytes.now in
    let m = meaning_in c.in-Ok-Tnef.accepted in
    let read = rw c.in-Ok-Tnef.field-0-is at c.in-Ok-Tnef.ensures.both in
    change_told (edited c.args.edits.now) bytes _ _ c.write_edited.result m (accepts_file bytes m c.requires read) (c.write_edited.ensures.puts bytes)
