use Rattle.std.proofs.Common.{[], ◌∷◌, ◌++◌, ap, ◌∙◌}
use Rattle.msg_tree.specs.Meaning.{tree_of, list_of, attached_of}
use Rattle.tree_samples.proofs.Made.{made, at_bottom, above_others}
use Rattle.tree_samples.proofs.levels.+at_level.Goals as goal
use Rattle.tree_samples.proofs.levels.+at_level.Goals.{then-below-gt0+in_ok-inner+in_ok-holding+in_ok-push, else-below-gt0}

pub returns : goal.returns
returns t c =
    made (λ v. v.items) c.in_ok-alone.field-0 c.new.result c.if-below-gt0.attachments ∙
    elim c.if-below-gt0.branch [
      | then-below-gt0+in_ok-inner+in_ok-holding+in_ok-push w ↦
          above_others c.args.below c.args.level c.in_ok-alone.field-0 c.new.result (list_of (λ v. v.items) c.if-below-gt0.attachments) (tree_of (λ v. v.items) w.in_ok-inner.inner) (attached_of (λ v. v.items) w.in_ok-holding.field-0) w.if-below-gt0.true (c.in_ok-alone.ensures ∙ ap (λ p. p ∷ []) c.in_ok-subject.ensures) c.new.ensures w.in_ok-inner.ensures w.in_ok-holding.ensures (ap (list_of (λ v. v.items)) w.attachments-is ∙ (w.in_ok-push.ensures.ok ∙ ap (λ l. l ++ attached_of (λ v. v.items) w.in_ok-holding.field-0 ∷ []) c.new-attachments.ensures))
      | else-below-gt0 w ↦
          at_bottom c.args.below c.args.level c.in_ok-alone.field-0 c.new.result (list_of (λ v. v.items) c.if-below-gt0.attachments) w.if-below-gt0.false (c.in_ok-alone.ensures ∙ ap (λ p. p ∷ []) c.in_ok-subject.ensures) c.new.ensures (ap (list_of (λ v. v.items)) w.attachments-is ∙ c.new-attachments.ensures)
    ]
