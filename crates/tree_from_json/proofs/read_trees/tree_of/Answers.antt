use Rattle.std.proofs.Common.{sym, subst}
use Rattle.json_values.specs.View.{view}
use Rattle.json_model.specs.JsonMeanings.{JsonMeans}
use Rattle.json_model.proofs.SoundMessages.{read_is_meant}
use Rattle.tree_from_json.proofs.WholeMessages.{read_shallow, read_stores_are}
use Rattle.tree_from_json.proofs.read_trees.tree_of.Goals as goal

pub from_shallow-requires-clause-shallow : goal.from_shallow-requires-clause-shallow
from_shallow-requires-clause-shallow c = read_shallow (view c.in-Ok.value) _ c.in-Ok-read_message.ensures

pub from_shallow-requires-clause-stores : goal.from_shallow-requires-clause-stores
from_shallow-requires-clause-stores c = read_stores_are (view c.in-Ok.value) _ c.in-Ok-read_message.ensures

pub returns-in-Ok-read_message-clause-tree : goal.returns-in-Ok-read_message-clause-tree
returns-in-Ok-read_message-clause-tree c = (view c.in-Ok.value, c.in-Ok.ensures.ok, subst (JsonMeans (view c.in-Ok.value)) (sym c.from_shallow.ensures) (read_is_meant (view c.in-Ok.value) _ c.in-Ok-read_message.ensures))
