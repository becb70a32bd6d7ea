use Rattle.outlook_cli.proofs.changing.write_file.Goals as goal

pub returns-in-Ok-clause-puts : goal.returns-in-Ok-clause-puts
returns-in-Ok-clause-puts g c = λ bytes. c.in-Ok.ensures.puts bytes

pub returns-in-Err-Unfit-clause-puts : goal.returns-in-Err-Unfit-clause-puts
returns-in-Err-Unfit-clause-puts g c = λ bytes. rw c.in-Err-Unfit.field-0-is at c.in-Err-Unfit.ensures.puts bytes

pub returns-in-Err-WriteFault-clause-puts : goal.returns-in-Err-WriteFault-clause-puts
returns-in-Err-WriteFault-clause-puts g c = λ bytes. rw c.in-Err-WriteFault.field-0-is at c.in-Err-WriteFault.ensures.puts bytes
