use Rattle.std.proofs.Common.{◌∙◌}
use Rattle.carrier_model.specs.Tree.{message, attachments_from}
use Rattle.tree_samples.proofs.Made.{made}
use Rattle.tree_samples.proofs.Shallow.{sample_shallow, sample_stores}
use Rattle.tree_samples.proofs.whole.sample.Goals as goal

pub from_shallow-requires-clause-shallow : goal.from_shallow-requires-clause-shallow
from_shallow-requires-clause-shallow c =
    sample_shallow c.args.number _ (made (λ v. v.items) c.in_ok-own_props.field-0 c.in_ok-recipients.field-0 c.in_ok-attachments.field-0 ∙ (λ i. message (c.in_ok-own_props.ensures i) (c.in_ok-recipients.ensures i) (attachments_from (c.in_ok-attachments.ensures i))))

pub from_shallow-requires-clause-stores : goal.from_shallow-requires-clause-stores
from_shallow-requires-clause-stores c =
    sample_stores c.args.number _ (made (λ v. v.items) c.in_ok-own_props.field-0 c.in_ok-recipients.field-0 c.in_ok-attachments.field-0 ∙ (λ i. message (c.in_ok-own_props.ensures i) (c.in_ok-recipients.ensures i) (attachments_from (c.in_ok-attachments.ensures i))))
