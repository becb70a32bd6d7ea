-- The numbers of two lists of messages.
use Rattle.std.proofs.Common.{◌≡◌, ℕ, ◌+◌, List, ◌++◌, length-append, arith}
use Rattle.std.proofs.lemmas.List.Sums.{sum_by-append}
use Rattle.carrier_model.specs.Tree as plain
use Rattle.carrier_model.specs.Totals.{capped, recipient_count, attachment_count, property_count}
use Rattle.msg_tree.specs.declared.totals.Counts.{Counts}
use Rattle.msg_tree.specs.Counting.{IsCountOf}

-- a sum of two numbers that were cut off, and is cut off itself
both : (a b c x y z : ℕ) → a ≡ capped x → b ≡ capped y → c ≡ capped (a + b) → z ≡ x + y → c ≡ capped z
both a b c x y z p q r e = omega (arith, p, q, r, e)

pub count_more : (a b c : Counts) (ms ns : List plain.Message) → IsCountOf a ms → IsCountOf b ns → c.messages ≡ capped (a.messages + b.messages) → c.recipients ≡ capped (a.recipients + b.recipients) → c.attachments ≡ capped (a.attachments + b.attachments) → c.properties ≡ capped (a.properties + b.properties) → IsCountOf c (ms ++ ns)
count_more a b c ms ns p q m r t s = record {
  of_messages = both _ _ _ _ _ _ p.of_messages q.of_messages m (length-append ms ns);
  of_recipients = both _ _ _ _ _ _ p.of_recipients q.of_recipients r (sum_by-append recipient_count ms ns);
  of_attachments = both _ _ _ _ _ _ p.of_attachments q.of_attachments t (sum_by-append attachment_count ms ns);
  of_properties = both _ _ _ _ _ _ p.of_properties q.of_properties s (sum_by-append property_count ms ns);
}
