use Rattle.std.proofs.Common.{drop, ◌++◌}
use Rattle.std.specs.List.{flat_map}
use Rattle.std.specs.Prelude.{codes, decimal}
use Rattle.tree_texts.proofs.Partly.{Partly}
use Rattle.tree_texts.proofs.numbers.write_slashed.Given as goal

abbrev pub invariant-loop-k : goal.invariant-loop-k
invariant-loop-k g l = Partly (g.W.Sink.held l.initial.sink) (g.W.Sink.held l.sink) (g.W.Sink.faults l.initial.sink) (g.W.Sink.faults l.sink) (flat_map (λ n. codes "/" ++ decimal n) l.list) (flat_map (λ n. codes "/" ++ decimal n) (drop l.k l.list))
