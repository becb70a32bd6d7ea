use Rattle.outlook_cli.proofs.Samples.{short, never_refused, never_halted, travelled}
use Rattle.outlook_cli.proofs.sampling.forms_of.Goals as goal

pub trip-requires : goal.trip-requires
trip-requires c = rw c.requires.own (short c.args.number c.requires.small)

pub unreachable-requires : goal.unreachable-requires
unreachable-requires c =
    let told = rw c.in-Err-Refused.field-0-is at c.in-Err-Refused.ensures.told in
    never_refused c.args.number c.args.file.now c.requires.small c.requires.own told.meaningless

pub unreachable-requires-in-Err-Unfit : goal.unreachable-requires-in-Err-Unfit
unreachable-requires-in-Err-Unfit c =
    let told = rw c.in-Err-Unfit.field-0-is at c.in-Err-Unfit.ensures.told in
    never_halted c.args.number c.args.file.now _ _ c.requires.small c.requires.own told

pub returns-in-Ok : goal.returns-in-Ok
returns-in-Ok c = travelled c.args.number c.args.file.now c.in-Ok.trip c.requires.small c.requires.own c.in-Ok.ensures.told
