use Rattle.std.proofs.Common.{refl, sym}
use Rattle.msg_tree.specs.Whole.{plain_of}
use Rattle.text8_model.proofs.TreeLaws.{unicode_means}
use Rattle.outlook_cli.proofs.changing.write_unicode_msg.Goals as goal

pub returns-then-is_unicode-clause-puts : goal.returns-then-is_unicode-clause-puts
returns-then-is_unicode-clause-puts g c =
    let is = unicode_means (plain_of c.args.tree) (plain_of c.args.tree) (c.if-is_unicode.ensures.yes refl) in
    λ bytes. rw (is.0, sym is.1) (c.write_file.ensures.puts bytes)

pub returns-in-Ok-clause-puts : goal.returns-in-Ok-clause-puts
returns-in-Ok-clause-puts g c = λ bytes. rw (← c.in-Ok.ensures) (c.write_unicode.ensures.puts bytes)
