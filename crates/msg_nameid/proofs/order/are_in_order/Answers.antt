use Rattle.std.proofs.Common.{rules, of_calls}
use Rattle.std.proofs.lemmas.Fn.{always_returns_same}
use Rattle.msg_nameid.proofs.OrderLaws.{comes_first, sorted_at, unsorted_at}
use Rattle.msg_nameid.proofs.order.are_in_order.Goals as goal

pub returns-clause-yes : goal.returns-clause-yes
returns-clause-yes c sorted =
    sorted_at c.args.entries.now c.is_sorted_by.result (c.is_sorted_by.ensures.cases comes_first (always_returns_same _ _ _ (λ a r f k. search (rules, of_calls)))) sorted

pub returns-clause-no : goal.returns-clause-no
returns-clause-no c unsorted =
    unsorted_at c.args.entries.now c.is_sorted_by.result (c.is_sorted_by.ensures.cases comes_first (always_returns_same _ _ _ (λ a r f k. search (rules, of_calls)))) unsorted
