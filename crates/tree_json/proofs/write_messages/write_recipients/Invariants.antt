use Rattle.std.proofs.Common.{◌∷◌, map, take, false}
use Rattle.std.specs.List.{AllByRecursion}
use Rattle.json_model.specs.Properties.{props_json}
use Rattle.tree_json.specs.Wholes.{IsWholeList}
use Rattle.json_writer.proofs.Counted.{SoFar}
use Rattle.tree_json.specs.Lists.{behind}
use Rattle.tree_json.proofs.write_messages.write_recipients.Given as goal

abbrev pub invariant-loop-k : goal.invariant-loop-k
invariant-loop-k g l = SoFar (g.W.Sink.held l.fn.sink) (g.W.Sink.held l.sink) (g.W.Sink.faults l.fn.sink) (g.W.Sink.faults l.sink) l.fn.count l.count (91 ∷ behind false (map props_json (take l.k l.recipients)))
    × AllByRecursion IsWholeList (take l.k l.recipients)
