use Rattle.std.proofs.Common.{◌++◌}
use Rattle.tnef_model.specs.LegacyAttributes.{message_rows, attachment_rows}
use Rattle.tnef_attributes.specs.Rules.{plain_rule, plain_value}
use Rattle.tnef_attributes.proofs.Rows.{row_found}
use Rattle.tnef_attributes.proofs.legacy.legacy_prop.Goals as goal

pub returns : goal.returns
returns c =
    row_found (message_rows ++ attachment_rows) c.args.attribute.now.id c.args.attribute.now.bytes.now
    (c.in_ok-id.id, plain_rule c.in_ok-id.rule) (plain_value c.in_ok-value.value) c.in_ok-id.ensures.rule c.in_ok-value.ensures.value
