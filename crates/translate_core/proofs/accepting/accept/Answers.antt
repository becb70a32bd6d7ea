use Rattle.std.proofs.Common.{sym, ◌∙◌}
use Rattle.msg_tree.specs.Whole.{meaning_in}
use Rattle.translate_core.proofs.Forms.{file_read, file_stopped, neither}
use Rattle.translate_core.specs.Inputs.{meaning_of}
use Rattle.translate_core.proofs.accepting.accept.Goals as goal

pub returns-in-Ok-clause-both : goal.returns-in-Ok-clause-both
returns-in-Ok-clause-both c = file_read c.args.bytes.now (meaning_in c.in-Ok.accepted) c.requires (sym c.is_compound.ensures ∙ c.if-is_compound.true) c.in-Ok.ensures

pub returns-in-Err-clause-both : goal.returns-in-Err-clause-both
returns-in-Err-clause-both c = file_stopped meaning_of c.args.bytes.now c.in-Err.stop c.requires (sym c.is_compound.ensures ∙ c.if-is_compound.true) c.in-Err.ensures

pub returns-then-not-is_signed-clause-both : goal.returns-then-not-is_signed-clause-both
returns-then-not-is_signed-clause-both c = neither c.args.bytes.now c.requires (sym c.is_compound.ensures ∙ c.if-is_compound.false) (sym c.is_signed.ensures ∙ c.if-not-is_signed.true)
