use Rattle.std.proofs.Common.{arith, ◌≡◌, ◌+◌, ◌++◌, ◌∷◌, [], ◌∙◌, sym, ap, length, map}
use Rattle.std.specs.Prelude.{Some, slice_get}
use Rattle.std.proofs.lemmas.List.{length-map}
use Rattle.std.proofs.lemmas.Option.{slice_get_within}
use Rattle.std.proofs.lemmas.Result.{err_from_is_err_and}
use Rattle.text8_model.specs.Unicode as plain
use Rattle.tree_text8.specs.Walks.{bad_where, converted_where}
use Rattle.tree_text8.proofs.Elements.{made_more}
use Rattle.tree_text8.proofs.Numbers.{told_at}
use Rattle.tree_text8.proofs.Pairs.{next_sorted}
use Rattle.tree_text8.proofs.Turns.{turn_left, turn_count, turn_counted, end_left, next_at, mark_at, whole_taken, none_left}
use Rattle.tree_text8.proofs.Walked.{list_good, list_end, end_as}
use Rattle.tree_text8.proofs.properties.convert_each.Goals as goal

pub index-requires : goal.index-requires
index-requires g c =
    let left = turn_left c.loop-prop.yielded c.in-Some.prop c.next.new.self.rest.items c.loop-prop.prop-iterator.rest.items c.args.props c.in-Some.ensures.steps.0 c.loop-prop.invariant.left in
    let at : slice_get c.args.props c.loop-prop.k ≡ Some c.in-Some.prop = next_at c.loop-prop.yielded c.in-Some.prop c.next.new.self.rest.items c.args.props c.loop-prop.k left c.loop-prop.invariant.count in
    omega (arith, slice_get_within c.args.props c.loop-prop.k c.in-Some.prop at, ap length c.in_ok-marks.ensures, length-map c.args.props (plain.is_to_convert c.args.props), c.in_ok-marks.marks.ok)

pub convert_prop-requires : goal.convert_prop-requires
convert_prop-requires g c =
    let left = turn_left c.loop-prop.yielded c.in-Some.prop c.next.new.self.rest.items c.loop-prop.prop-iterator.rest.items c.args.props c.in-Some.ensures.steps.0 c.loop-prop.invariant.left in
    let at : slice_get c.args.props c.loop-prop.k ≡ Some c.in-Some.prop = next_at c.loop-prop.yielded c.in-Some.prop c.next.new.self.rest.items c.args.props c.loop-prop.k left c.loop-prop.invariant.count in
    let mark : plain.is_to_convert c.args.props c.in-Some.prop ≡ c.index.result.now = mark_at (plain.is_to_convert c.args.props) c.args.props c.loop-prop.k c.in-Some.prop c.in_ok-marks.marks.items c.index.result.now at c.in_ok-marks.ensures c.index.ensures in
    (c.args.props, mark)

pub returns-in_err-prop-clause-end : goal.returns-in_err-prop-clause-end
returns-in_err-prop-clause-end g c =
    let left = turn_left c.loop-prop.yielded c.in-Some.prop c.next.new.self.rest.items c.loop-prop.prop-iterator.rest.items c.args.props c.in-Some.ensures.steps.0 c.loop-prop.invariant.left in
    let at : slice_get c.args.props c.loop-prop.k ≡ Some c.in-Some.prop = next_at c.loop-prop.yielded c.in-Some.prop c.next.new.self.rest.items c.args.props c.loop-prop.k left c.loop-prop.invariant.count in
    let mark : plain.is_to_convert c.args.props c.in-Some.prop ≡ c.index.result.now = mark_at (plain.is_to_convert c.args.props) c.args.props c.loop-prop.k c.in-Some.prop c.in_ok-marks.marks.items c.index.result.now at c.in_ok-marks.ensures c.index.ensures in
    let p = err_from_is_err_and c.from_residual-in_err-prop.result c.from_residual-in_err-prop.ensures.1 in
    let number = c.saturating_add-number.result in
    let end = end_as (bad_where c.index.result.now c.args.code number c.in-Some.prop) (plain.bad_prop c.args.code c.args.props number c.in-Some.prop) c.in_err-prop.field-0.0 (ap (λ b. bad_where b c.args.code number c.in-Some.prop) (sym mark)) c.in_err-prop.ensures.end in
    rw (p.1, p.2) (list_end c.args.code c.args.props c.args.first c.loop-prop.k number c.in-Some.prop at (told_at c.args.first c.loop-prop.k number c.saturating_add-number.ensures) c.in_err-prop.field-0.0 end c.loop-prop.invariant.bad)

pub push_last-requires : goal.push_last-requires
push_last-requires g c =
    let left = turn_left c.loop-prop.yielded c.in-Some.prop c.next.new.self.rest.items c.loop-prop.prop-iterator.rest.items c.args.props c.in-Some.ensures.steps.0 c.loop-prop.invariant.left in
    let at : slice_get c.args.props c.loop-prop.k ≡ Some c.in-Some.prop = next_at c.loop-prop.yielded c.in-Some.prop c.next.new.self.rest.items c.args.props c.loop-prop.k left c.loop-prop.invariant.count in
    let mark : plain.is_to_convert c.args.props c.in-Some.prop ≡ c.index.result.now = mark_at (plain.is_to_convert c.args.props) c.args.props c.loop-prop.k c.in-Some.prop c.in_ok-marks.marks.items c.index.result.now at c.in_ok-marks.ensures c.index.ensures in
    next_sorted c.args.code c.args.props c.loop-prop.all c.loop-prop.k c.in-Some.prop c.in_ok-prop.prop c.requires at c.loop-prop.invariant.made (c.in_ok-prop.ensures.ok ∙ ap (λ b. converted_where b c.args.code c.in-Some.prop) (sym mark))

pub loop-prop-preserved : goal.loop-prop-preserved
loop-prop-preserved g c =
    let left = turn_left c.loop-prop.yielded c.in-Some.prop c.next.new.self.rest.items c.loop-prop.prop-iterator.rest.items c.args.props c.in-Some.ensures.steps.0 c.loop-prop.invariant.left in
    let at : slice_get c.args.props c.loop-prop.k ≡ Some c.in-Some.prop = next_at c.loop-prop.yielded c.in-Some.prop c.next.new.self.rest.items c.args.props c.loop-prop.k left c.loop-prop.invariant.count in
    let mark : plain.is_to_convert c.args.props c.in-Some.prop ≡ c.index.result.now = mark_at (plain.is_to_convert c.args.props) c.args.props c.loop-prop.k c.in-Some.prop c.in_ok-marks.marks.items c.index.result.now at c.in_ok-marks.ensures c.index.ensures in
    let number = c.saturating_add-number.result in
    let converted = c.in_ok-prop.ensures.ok ∙ ap (λ b. converted_where b c.args.code c.in-Some.prop) (sym mark) in
    let good = ap (λ b. bad_where b c.args.code number c.in-Some.prop) mark ∙ c.in_ok-prop.ensures.good in
    record {
      left = left;
      count = turn_count c.loop-prop.yielded c.in-Some.prop c.loop-prop.k c.loop-prop.invariant.count;
      counted = turn_counted c.in-Some.prop c.next.new.self.rest.items c.loop-prop.prop-iterator.rest.items c.loop-prop.prop-iterator.rest.len c.next.new.self.rest.len c.in-Some.ensures.steps.0 c.in-Some.ensures.steps.1 c.loop-prop.invariant.counted;
      made = made_more (plain.converted_prop c.args.code c.args.props) c.args.props c.loop-prop.k c.in-Some.prop c.loop-prop.all _ c.loop-prop.invariant.made at (c.in_ok-push_last.ensures.ok ∙ ap (λ q. c.loop-prop.all ++ q ∷ []) converted);
      bad = list_good c.args.code c.args.props c.args.first c.loop-prop.k number c.in-Some.prop at (told_at c.args.first c.loop-prop.k number c.saturating_add-number.ensures) good c.loop-prop.invariant.bad;
    }

pub returns-clause-good : goal.returns-clause-good
returns-clause-good g c =
    let left = end_left c.loop-prop.yielded c.loop-prop.prop-iterator.rest.items c.args.props (c.loop-prop.invariant.counted ∙ c.in-None.ensures.steps.0) c.loop-prop.invariant.left in
    c.loop-prop.invariant.bad ∙ ap (plain.bad_from c.args.code c.args.props (c.args.first + c.loop-prop.k)) (none_left c.loop-prop.yielded c.args.props c.loop-prop.k left c.loop-prop.invariant.count)

pub returns-clause-ok : goal.returns-clause-ok
returns-clause-ok g c =
    let left = end_left c.loop-prop.yielded c.loop-prop.prop-iterator.rest.items c.args.props (c.loop-prop.invariant.counted ∙ c.in-None.ensures.steps.0) c.loop-prop.invariant.left in
    c.loop-prop.invariant.made ∙ ap (map (plain.converted_prop c.args.code c.args.props)) (whole_taken c.loop-prop.yielded c.args.props c.loop-prop.k left c.loop-prop.invariant.count)
