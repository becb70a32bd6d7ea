use Rattle.std.proofs.Common.{◌∙◌, sym, map}
use Rattle.json_values.specs.Values.{value_view}
use Rattle.tree_from_json.proofs.Members.{only_these, another_key}
use Rattle.tree_from_json.proofs.read_parts.has_members.Goals as goal

pub returns-then-has_only : goal.returns-then-has_only
returns-then-has_only c = c.has_all.ensures ∙ sym (only_these (map (λ name. name.now) c.args.names.now) (value_view c.args.value.now) c.requires (sym c.has_only.ensures ∙ c.if-has_only.true))

pub returns-else-has_only : goal.returns-else-has_only
returns-else-has_only c = c.if-has_only.false ∙ sym (another_key (map (λ name. name.now) c.args.names.now) (value_view c.args.value.now) c.requires (sym c.has_only.ensures ∙ c.if-has_only.false))
