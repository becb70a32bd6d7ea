use Rattle.std.proofs.Common.{ap, ◌∙◌}
use Rattle.msg_model.specs.WrittenMsg.{msg_of}
use Rattle.msg_tree.specs.Whole.{plain_of}
use Rattle.outlook_cli.proofs.Samples.{never_unfit}
use Rattle.outlook_cli.proofs.sampling.file_of.Goals as goal

pub unreachable-requires : goal.unreachable-requires
unreachable-requires c =
    let end = rw c.in-Err-Unfit.field-0-is at c.in-Err-Unfit.ensures.end in
    never_unfit c.args.number (plain_of c.args.tree.now) _ c.requires.small c.requires.own end

pub returns-in-Ok : goal.returns-in-Ok
returns-in-Ok c = c.in-Ok.ensures.ok ∙ ap msg_of c.requires.own
