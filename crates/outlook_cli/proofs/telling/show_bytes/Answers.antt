use Rattle.msg_tree.specs.Whole.{meaning_in}
use Rattle.outlook_cli.specs.Outcome.{shown}
use Rattle.outlook_cli.proofs.Outcomes.{accepts, text_told}
use Rattle.outlook_cli.proofs.telling.show_bytes.Goals as goal

pub returns-in-Ok-Msg-clause-told : goal.returns-in-Ok-Msg-clause-told
returns-in-Ok-Msg-clause-told g c =
    let bytes = c.args.bytes.now in
    let m = meaning_in c.in-Ok-Msg.accepted in
    let read = rw c.in-Ok-Msg.field-0-is at c.in-Ok-Msg.ensures.both in
    text_told shown bytes _ _ c.show_tree.result m (accepts bytes m c.requires read) c.show_tree.ensures.told

pub returns-in-Ok-Tnef-clause-told : goal.returns-in-Ok-Tnef-clause-told
returns-in-Ok-Tnef-clause-told g c =
    let bytes = c.args.bytes.now in
    let m = meaning_in c.in-Ok-Tnef.accepted in
    let read = rw c.in-Ok-Tnef.field-0-is at c.in-Ok-Tnef.ensures.both in
    text_told shown bytes _ _ c.show_tree-in-Ok-Tnef.result m (accepts bytes m c.requires read) c.show_tree-in-Ok-Tnef.ensures.told
