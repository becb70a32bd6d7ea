use Rattle.std.proofs.Common.{[], ap, ◌∙◌, arith}
use Rattle.text_model.specs.SampleTrees.{plain_attachment}
use Rattle.msg_tree.specs.Meaning.{tree_of, list_of, attached_of}
use Rattle.tree_samples.proofs.Made.{one_more, with_levels, without_levels}
use Rattle.tree_samples.proofs.whole.attachments.Goals as goal
use Rattle.tree_samples.proofs.whole.attachments.Goals.{then-levels-gt0+in_ok-message+in_ok-holding+in_ok-push-2, else-levels-gt0}

pub loop-number-preserved : goal.loop-number-preserved
loop-number-preserved c = one_more [] plain_attachment c.loop-number.number (list_of (λ v. v.items) c.loop-number.list) (list_of (λ v. v.items) c.push.new.self) (attached_of (λ v. v.items) c.in_ok-with_data.field-0) c.loop-number.invariant c.in_ok-with_data.ensures c.in_ok-push.ensures.ok

pub returns : goal.returns
returns c =
    elim c.if-levels-gt0.branch [
      | then-levels-gt0+in_ok-message+in_ok-holding+in_ok-push-2 w ↦
          ap (list_of (λ v. v.items)) w.list-is
          ∙ with_levels c.args.levels c.loop-number.number (list_of (λ v. v.items) c.loop-number.list) (list_of (λ v. v.items) w.push-then-levels-gt0.new.self) (tree_of (λ v. v.items) w.in_ok-message.message) (attached_of (λ v. v.items) w.in_ok-holding.field-0) w.if-levels-gt0.true (omega arith) c.loop-number.invariant w.in_ok-message.ensures w.in_ok-holding.ensures w.in_ok-push-2.ensures.ok
      | else-levels-gt0 w ↦
          ap (list_of (λ v. v.items)) w.list-is
          ∙ without_levels c.args.levels c.loop-number.number (list_of (λ v. v.items) c.loop-number.list) w.if-levels-gt0.false (omega arith) c.loop-number.invariant
    ]
