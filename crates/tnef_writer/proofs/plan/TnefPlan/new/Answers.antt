use Rattle.std.proofs.Common.{ℕ, ◌≡◌, ◌∙◌, ap, length}
use Rattle.tnef_model.specs.TnefCanonical.{stream_of, tnef_of}
use Rattle.carrier_model.specs.Totals.{capped}
use Rattle.carrier_model.specs.Tree.{names_of}
use Rattle.msg_tree.specs.Meaning.{tree_of}
use Rattle.msg_tree.specs.Whole.{plain_of}
use Rattle.tnef_writer.proofs.PlannedTrees.{too_large, tree_planned}
use Rattle.tnef_writer.proofs.plan.TnefPlan.new.Goals as goal

pub returns-then-size-gt-MOST_BYTES-clause-end : goal.returns-then-size-gt-MOST_BYTES-clause-end
returns-then-size-gt-MOST_BYTES-clause-end g c =
    let t = plain_of c.args.tree.now in
    let size : c.in_ok-size.size ≡ capped (length (tnef_of t)) = c.in_ok-size.ensures.size (names_of t) ∙ ap (λ u. capped (length (stream_of (names_of t) u))) c.top.ensures.message in
    (too_large (length (tnef_of t)) c.in_ok-size.size size c.if-size-gt-MOST_BYTES.true, size)

pub invariant_of-result : goal.invariant_of-result
invariant_of-result g c =
    let t = plain_of c.args.tree.now in
    let size : c.in_ok-size.size ≡ capped (length (tnef_of t)) = c.in_ok-size.ensures.size (names_of t) ∙ ap (λ u. capped (length (stream_of (names_of t) u))) c.top.ensures.message in
    record {
      planned = tree_planned t (tree_of g.B.Blob.bytes c.top.result.now) c.args.names.now _ _ _ _ c.in_ok-size.size c.top.ensures.message c.requires.names c.requires.few c.new-plans.ensures.messages c.new-plans.ensures.stores (c.in_ok-size.ensures.added c.args.names.now) size c.if-size-gt-MOST_BYTES.false;
    }
