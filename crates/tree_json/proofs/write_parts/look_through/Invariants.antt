use Rattle.carrier_io.specs.Pieces.{joined}
use Rattle.json_model.specs.ByteTrees.{AreBytes}
use Rattle.tree_json.proofs.write_parts.look_through.Given as goal

abbrev pub invariant-loop-k : goal.invariant-loop-k
invariant-loop-k g l = AreBytes (joined (g.B.Blob.part l.blob) l.k)
