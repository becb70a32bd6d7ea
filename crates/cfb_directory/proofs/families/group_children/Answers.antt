use Rattle.std.proofs.Common.{◌≡◌, ◌<◌, [], length, ◌∷◌, ◌++◌, get_or, sym, ◌∙◌, ap, refl, rules}
use Rattle.std.proofs.lemmas.List.{get_or-map}
use Rattle.cfb_directory.specs.Families.{kids_of, names_of, family_at}
use Rattle.cfb_directory.proofs.FamilyLaws.{family_more, index_same, spelled_same}
use Rattle.cfb_directory.proofs.families.group_children.Goals as goal

pub push-requires : goal.push-requires
push-requires c =
    let child = get_or c.args.order.now c.loop-child.child-index (record { parent = 0; id = 0 }) in
    let inside : child.parent < length c.loop-child.families.items = search rules in
    ap names_of c.index_mut.ensures.value ∙ (sym (get_or-map names_of c.loop-child.families.items child.parent c.index_mut.result.now [] inside) ∙ c.loop-child.invariant.spelled child.parent)

pub loop-child-preserved : goal.loop-child-preserved
loop-child-preserved c =
    let child = get_or c.args.order.now c.loop-child.child-index (record { parent = 0; id = 0 }) in
    let inside : child.parent < length c.loop-child.families.items = search rules in
    let old = c.index_mut.result.now in
    let new = c.push.new.self in
    let children : kids_of old ≡ family_at c.loop-child.families.items child.parent = ap kids_of c.index_mut.ensures.value ∙ sym (get_or-map kids_of c.loop-child.families.items child.parent old [] inside) in
    record {
      count = c.loop-child.invariant.count;
      children = family_more c.loop-child.families.items c.args.order.now c.loop-child.child-index child new _ c.loop-child-test.true refl inside c.loop-child.invariant.children (c.in_ok-push.ensures.kids ∙ ap (λ l. l ++ child.id ∷ []) children);
      names = λ p q below. index_same c.loop-child.families.items child.parent new old inside c.index_mut.ensures.value c.in_ok-push.ensures.index p q ∙ c.loop-child.invariant.names p q below;
      spelled = λ p. spelled_same c.loop-child.families.items child.parent new old c.index_mut.ensures.value c.in_ok-push.ensures.names p ∙ c.loop-child.invariant.spelled p;
    }
