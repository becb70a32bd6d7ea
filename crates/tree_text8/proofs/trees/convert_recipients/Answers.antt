use Rattle.std.proofs.Common.{◌∙◌, ap, length}
use Rattle.std.proofs.lemmas.Result.{err_from_is_err_and}
use Rattle.text8_model.specs.Unicode.{converted_props, bad_props, bad_recipients}
use Rattle.tree_text8.proofs.InPlace.{next_there, next_made, made_length}
use Rattle.tree_text8.proofs.Steps.{walk_good, walk_end, walk_next, recipients_cons, props_same}
use Rattle.tree_text8.proofs.trees.convert_recipients.Goals as goal

pub returns-in_err-convert_props-clause-end : goal.returns-in_err-convert_props-clause-end
returns-in_err-convert_props-clause-end g c =
    let p = err_from_is_err_and c.from_residual.result c.from_residual.ensures.1 in
    let code = c.args.code in
    let xs = c.args.recipients.now in
    let at = next_there (converted_props code) xs c.loop-k.k c.replace-props.result c.loop-k.recipients c.loop-k.invariant.made c.replace-props.ensures.taken in
    rw (p.1, p.2) (walk_end (bad_props code) length (bad_recipients code) (recipients_cons code) (props_same code) xs c.args.next.now c.loop-k.k c.loop-k.next c.replace-props.result at c.loop-k.invariant.next c.in_err-convert_props.field-0.0 c.in_err-convert_props.ensures.end c.loop-k.invariant.bad)

pub loop-k-preserved : goal.loop-k-preserved
loop-k-preserved g c =
    let code = c.args.code in
    let xs = c.args.recipients.now in
    let at = next_there (converted_props code) xs c.loop-k.k c.replace-props.result c.loop-k.recipients c.loop-k.invariant.made c.replace-props.ensures.taken in
    let made = next_made (converted_props code) xs c.loop-k.k c.replace-props.result c.convert_props.new.props _ c.loop-k.recipients _ _ c.loop-k.invariant.made c.replace-props.ensures.taken c.replace-props.ensures.put c.replace.ensures.put c.in_ok-convert_props.ensures.ok in
    record {
      made = made;
      long = ap length made ∙ made_length (converted_props code) xs _;
      bad = walk_good (bad_props code) length (bad_recipients code) (recipients_cons code) (props_same code) xs c.args.next.now c.loop-k.k c.loop-k.next c.replace-props.result at c.loop-k.invariant.next c.in_ok-convert_props.ensures.good c.loop-k.invariant.bad;
      next = walk_next (bad_props code) length (bad_recipients code) (recipients_cons code) (props_same code) xs c.args.next.now c.loop-k.k c.loop-k.next c.replace-props.result at c.loop-k.invariant.next c.convert_props.new.next c.in_ok-convert_props.ensures.next;
    }
