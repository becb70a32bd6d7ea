use Rattle.std.proofs.Common.{◌++◌, ap, ◌∙◌, arith}
use Rattle.std.proofs.lemmas.Result.{err_from_is_err_and}
use Rattle.carrier_model.specs.Meanings.{Meaning}
use Rattle.carrier_model.specs.Tree.{GREATEST_LEVEL}
use Rattle.msg_tree.specs.Meaning.{tree_of}
use Rattle.tnef_message.specs.HeldBytes.{held_bytes}
use Rattle.tnef_message.proofs.Depths.{is_shallow, stores_are, stream_given, stream_stop}
use Rattle.tnef_message.proofs.whole.read_tnef.Goals as goal

pub returns-in_err-message : goal.returns-in_err-message
returns-in_err-message c =
    let p = err_from_is_err_and c.from_residual.result c.from_residual.ensures.1 in
    rw (p.1, p.2) (stream_stop {Y = Meaning} (λ m. m) GREATEST_LEVEL 0 c.args.bytes.now c.in_err-message.field-0.0 c.in_err-message.ensures.fault)

pub from_shallow-tree-requires-clause-shallow : goal.from_shallow-tree-requires-clause-shallow
from_shallow-tree-requires-clause-shallow c =
    let found = c.in_ok-message.ensures.found in
    is_shallow c.args.bytes.now (tree_of held_bytes c.in_ok-message.message) found.more (λ i. omega (arith, c.type_inv.bytes i)) c.requires found.means

pub from_shallow-tree-requires-clause-stores : goal.from_shallow-tree-requires-clause-stores
from_shallow-tree-requires-clause-stores c =
    let found = c.in_ok-message.ensures.found in
    stores_are c.args.bytes.now (tree_of held_bytes c.in_ok-message.message) found.more (λ i. omega (arith, c.type_inv.bytes i)) c.requires found.means

pub returns : goal.returns
returns c =
    let found = c.in_ok-message.ensures.found in
    stream_given GREATEST_LEVEL 0 c.args.bytes.now (tree_of held_bytes c.in_ok-message.message) _ found.more _ found.means c.from_shallow-tree.ensures (found.passed ∙ ap (λ z. z ++ found.more) c.new-passed.ensures)
