use Rattle.std.proofs.Common.{◌++◌, sym, ap, ◌∙◌, rules}
use Rattle.std.specs.Ordering.{ordering_reverse, ordering_then}
use Rattle.carrier_model.specs.FileTrees.{sibling_cmp}
use Rattle.carrier_model.specs.KeyTexts.{hex_digits, upper}
use Rattle.cfb_list.specs.Contents.{name_seen}
use Rattle.cfb_list.proofs.NumberedOrder.{numbered_cmp}
use Rattle.cfb_list.proofs.SortedFiles.{sibling_total}
use Rattle.cfb_list.proofs.views.name_order.Goals as goal

pub returns-in-Whole-Numbered : goal.returns-in-Whole-Numbered
returns-in-Whole-Numbered c =
    let at = c.in-Whole-Numbered in
    c.reverse.ensures
    ∙ ap ordering_reverse c.numbered_order.ensures
    ∙ sym (sibling_total.antisymm at.one.now (at.front.now ++ hex_digits upper 8 at.number))
    ∙ (λ i. sibling_cmp (name_seen (sym at.is-0 i)) (name_seen (sym at.is-1 i)))

pub returns-in-Numbered-Numbered : goal.returns-in-Numbered-Numbered
returns-in-Numbered-Numbered c =
    let at = c.in-Numbered-Numbered in
    c.then.ensures
    ∙ (λ i. ordering_then (c.sibling_order-in-Numbered-Numbered.ensures i) (c.cmp.ensures i))
    ∙ sym (numbered_cmp at.front.now at.behind.now at.number at.later (search rules) (search rules))
    ∙ (λ i. sibling_cmp (name_seen (sym at.is-0 i)) (name_seen (sym at.is-1 i)))
