use Rattle.std.proofs.Common.{◌≡◌, ap, ◌∙◌, sym, subst, Ok}
use Rattle.std.specs.List.{Any}
use Rattle.std.specs.declared.cmp.Ordering.TheVariants.{Equal}
use Rattle.carrier_model.specs.Sorted.{with_element}
use Rattle.carrier_model.specs.Values.{Prop, kind_of, prop_cmp}
use Rattle.edit_model.specs.Edits.{without_pair}
use Rattle.prop_names.specs.Meaning.{key_of}
use Rattle.prop_values.specs.Kinds.{kind_number}
use Rattle.tree_edit.proofs.Found.{absent_stays, found_removed, none_left}
use Rattle.tree_edit.proofs.prop_lists.set_prop.Goals as goal
use Rattle.tree_edit.proofs.prop_lists.set_prop.Goals.{in-Some, in_default, in-Ok, in-Err-NoMemory}

pub unreachable-requires : goal.unreachable-requires
unreachable-requires g c =
    let keyed : key_of c.prop.inside.key ≡ c.args.prop.key = ap (λ (p : Prop). p.key) c.prop.view_is in
    let kinded : kind_number c.kind.result ≡ kind_of c.args.prop.value = c.kind.ensures ∙ ap (λ (p : Prop). kind_of p.value) c.prop.view_is in
    let found : c.match-find.props ≡ without_pair (key_of c.prop.inside.key) (kind_number c.kind.result) c.args.props.now = elim c.match-find.branch [
      | in-Some w ↦ let (p, at, pair) = w.in-Some.ensures.found in w.props-is ∙ (w.remove.ensures.left ∙ sym (found_removed (key_of c.prop.inside.key) (kind_number c.kind.result) c.args.props.now w.in-Some.at p w.in-Some.ensures.sorted at pair))
      | in_default w ↦ w.props-is ∙ sym (absent_stays (key_of c.prop.inside.key) (kind_number c.kind.result) c.args.props.now w.in_default.ensures.absent)
    ] in
    let left : c.match-find.props ≡ without_pair c.args.prop.key (kind_of c.args.prop.value) c.args.props.now = found ∙ (ap (λ k. without_pair k (kind_number c.kind.result) c.args.props.now) keyed ∙ ap (λ n. without_pair c.args.prop.key n c.args.props.now) kinded) in
    let refused = rw c.in-Err-Duplicate.field-0-is at c.in-Err-Duplicate.ensures.refused in
    none_left c.args.prop c.args.props.now (subst (λ l. Any (λ q. prop_cmp q c.args.prop ≡ Equal) l) left refused.1)

pub returns : goal.returns
returns g c =
    let keyed : key_of c.prop.inside.key ≡ c.args.prop.key = ap (λ (p : Prop). p.key) c.prop.view_is in
    let kinded : kind_number c.kind.result ≡ kind_of c.args.prop.value = c.kind.ensures ∙ ap (λ (p : Prop). kind_of p.value) c.prop.view_is in
    let found : c.match-find.props ≡ without_pair (key_of c.prop.inside.key) (kind_number c.kind.result) c.args.props.now = elim c.match-find.branch [
      | in-Some w ↦ let (p, at, pair) = w.in-Some.ensures.found in w.props-is ∙ (w.remove.ensures.left ∙ sym (found_removed (key_of c.prop.inside.key) (kind_number c.kind.result) c.args.props.now w.in-Some.at p w.in-Some.ensures.sorted at pair))
      | in_default w ↦ w.props-is ∙ sym (absent_stays (key_of c.prop.inside.key) (kind_number c.kind.result) c.args.props.now w.in_default.ensures.absent)
    ] in
    let left : c.match-find.props ≡ without_pair c.args.prop.key (kind_of c.args.prop.value) c.args.props.now = found ∙ (ap (λ k. without_pair k (kind_number c.kind.result) c.args.props.now) keyed ∙ ap (λ n. without_pair c.args.prop.key n c.args.props.now) kinded) in
    elim c.match-insert_sorted.branch [
      | in-Ok w ↦ rw w.result-is (ap Ok (ap (λ l. with_element prop_cmp l c.args.prop) (sym left) ∙ sym w.in-Ok.ensures.ok))
      | in-Err-NoMemory w ↦ rw w.result-is tt
    ]
