use Rattle.msg_props.proofs.WrittenEntries.{entries_none, entries_some}
use Rattle.msg_props.proofs.write_entries.append_entries.Goals as goal

pub returns-in-None : goal.returns-in-None
returns-in-None g c = λ names t. entries_none c.append_range.result names c.args.tags.now c.args.props.now c.args.object _ c.args.out.now.items _ c.in-None.is c.len.ensures t c.append_range.ensures

pub returns-in_ok-append_object-in-Some : goal.returns-in_ok-append_object-in-Some
returns-in_ok-append_object-in-Some g c =
    λ names t. entries_some c.append_range-in-Some-2.result names c.args.tags.now c.args.props.now c.args.object c.in-Some.word c.count_before_object-place.result _ c.args.out.now.items _ _ _ c.in-Some.is c.len-in-Some.ensures t
    c.count_before_object-place.ensures.before c.count_before_object-place.ensures.behind c.in_ok-append_range-in-Some.ensures c.in_ok-append_object-in-Some.ensures c.append_range-in-Some-2.ensures
