use Rattle.std.proofs.Common.{sym, ◌∙◌, ap}
use Rattle.std.specs.Option.{option_map}
use Rattle.prop_names.specs.Meaning.{key_of}
use Rattle.prop_values.specs.Kinds.{kind_number}
use Rattle.tree_text8.proofs.Pairs.{found_decides, none_is}
use Rattle.tree_text8.proofs.properties.is_to_convert.Goals as goal

pub returns-in-Some-clause-is : goal.returns-in-Some-clause-is
returns-in-Some-clause-is g c = rw (← c.prop.view_is) (none_is c.find.result c.is_none.result c.is_none.ensures ∙ found_decides c.args.props.now (key_of c.prop.inside.key) (kind_number c.in-Some.kind) _ c.find.result (sym c.wide_kind.ensures ∙ ap (option_map kind_number) c.in-Some.is) c.find.ensures.found c.find.ensures.absent)
