-- The rules of older attributes.
use Rattle.std.specs.Prelude.{ℕ, ◌==◌, if◌then◌else◌, List, [], ◌∷◌, Option, Some, None}
use Rattle.std.specs.Borrow.{Bor}
use Rattle.tnef_attributes.specs.declared.legacy.Rule.{Rule}
use Rattle.tnef_attributes.specs.declared.legacy.Rule.TheVariants.{Class, Text, Binary, Date, Page, Position}
use Rattle.prop_values.specs.Meaning.{value_of}
use Rattle.prop_values.specs.declared.values.Value.{Value}
use Rattle.tnef_model.specs.LegacyAttributes as plain
use Rattle.carrier_model.specs.Values as values

abbrev pub plain_rule : Rule → plain.Rule
plain_rule Class = plain.class
plain_rule Text = plain.text
plain_rule Binary = plain.binary
plain_rule Date = plain.date
plain_rule Page = plain.page
plain_rule Position = plain.position

abbrev pub plain_value : Value (Bor (List ℕ)) → values.Value
plain_value v = value_of (λ b. b.now) v

-- the id of the property of an attribute, and its rule
abbrev pub rule_among : List plain.Row → ℕ → Option (ℕ × plain.Rule)
rule_among [] n = None
rule_among (row ∷ rows) n = if row.0 == n then Some (row.1, row.2) else rule_among rows n
