use Rattle.std.proofs.Common.{◌<◌, Err, ap, length, subst}
use Rattle.std.specs.Prelude.{IfSome}
use Rattle.carrier_model.specs.Reasons.{INPUT_TOO_LONG}
use Rattle.outlook_cli.proofs.Outcomes.{told_of_left, told_of_long}
use Rattle.outlook_cli.specs.Words.{command_seen}
use Rattle.outlook_cli.proofs.run.answer_input.Goals as goal

pub returns-in-Ok-clause-told : goal.returns-in-Ok-clause-told
returns-in-Ok-clause-told g c = told_of_left (command_seen c.args.command.now) (g.I.Source.left c.args.input.now) c.deref.result.now _ _ _ c.requires (rw c.deref.ensures.value c.in-Ok.ensures.all) c.answer_bytes.ensures.told

pub returns-in-Err-TooLong-clause-told : goal.returns-in-Err-TooLong-clause-told
returns-in-Err-TooLong-clause-told g c =
    let left = g.I.Source.left c.args.input.now in
    let most = c.limit_of-limit.ensures.most c.requires in
    let long = subst (λ k. IfSome left (λ b. k < length b)) most (c.in-Err-TooLong.ensures.too_long (ap Err c.in-Err-TooLong.field-0-is)) in
    told_of_long (command_seen c.args.command.now) left _ _ _ c.requires (ap (λ k. (INPUT_TOO_LONG, k)) most) long
