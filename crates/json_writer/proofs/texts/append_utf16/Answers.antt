use Rattle.std.proofs.Common.{◌∙◌, sym}
use Rattle.json_writer.proofs.Counted.{counts_as}
use Rattle.json_writer.proofs.WellFormed.{string_of_units, object_of_units}
use Rattle.json_writer.proofs.texts.append_utf16.Goals as goal

pub returns-then-is_well_formed : goal.returns-then-is_well_formed
returns-then-is_well_formed g c = counts_as _ (string_of_units (g.T.Utf16Bytes.bytes c.args.text.now) (sym c.is_well_formed.ensures ∙ c.if-is_well_formed.true)) c.append_quoted.ensures

pub returns-else-is_well_formed : goal.returns-else-is_well_formed
returns-else-is_well_formed g c = counts_as _ (object_of_units (g.T.Utf16Bytes.bytes c.args.text.now) (sym c.is_well_formed.ensures ∙ c.if-is_well_formed.false)) c.append_object.ensures
