use Rattle.outlook_cli.proofs.changing.write_edited_msg.Goals as goal

pub returns-in-Ok-clause-puts : goal.returns-in-Ok-clause-puts
returns-in-Ok-clause-puts g c = λ bytes. rw (← c.in-Ok.ensures) (c.write_edited.ensures.puts bytes)
