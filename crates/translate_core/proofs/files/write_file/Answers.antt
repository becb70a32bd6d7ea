use Rattle.msg_tree.specs.Whole.{plain_of}
use Rattle.translate_core.proofs.Limiting.{file_written, file_cut}
use Rattle.translate_core.proofs.files.write_file.Goals as goal

pub returns-in-Ok-write_gathered-clause-puts : goal.returns-in-Ok-write_gathered-clause-puts
returns-in-Ok-write_gathered-clause-puts g c = λ bytes. file_written c.args.version (plain_of c.args.tree.now) bytes c.in-Ok.plan _ _ c.in-Ok.ensures.fits c.in-Ok.ensures.ok c.in-Ok-write_gathered.ensures.ok

pub returns-in-Ok-write_gathered-clause-cause : goal.returns-in-Ok-write_gathered-clause-cause
returns-in-Ok-write_gathered-clause-cause g c = record { later = c.write_gathered.ensures.cause.later; fault = λ e. absurd cc }

pub returns-clause-puts : goal.returns-clause-puts
returns-clause-puts g c = λ bytes. file_cut c.args.version (plain_of c.args.tree.now) bytes c.in-Ok.plan _ _ c.in-Ok.ensures.fits c.in-Ok.ensures.ok c.in-Err.ensures.failed
