use Rattle.std.proofs.Common.{◌≡◌, ◌<◌, ℕ, List, [], length, get_or, map, sym, ◌∙◌, ap, rules, Ok}
use Rattle.std.proofs.lemmas.List.{get_or-map}
use Rattle.std.proofs.lemmas.Result.{err_from_is_err_and}
use Rattle.carrier_model.specs.Files.{family_names}
use Rattle.cfb_directory.specs.Families.{kids_of, index_of, names_of, family_at}
use Rattle.cfb_directory.specs.Named.{key_of, first_named, name_at}
use Rattle.cfb_directory.specs.Walks.{directory_of}
use Rattle.cfb_directory.proofs.FamilyLaws.{family_same, index_more, spelled_more, names_step, names_stop, names_done}
use Rattle.cfb_directory.proofs.families.index_families.Goals as goal

pub returns-in_err-index-clause-answer : goal.returns-in_err-index-clause-answer
returns-in_err-index-clause-answer c =
    let d = directory_of c.args.sectors.now in
    let x = get_or c.args.visits.now c.loop-id.id-index 0 in
    let inside : x < length c.loop-id.families.items = search rules in
    let old = c.index_mut.result.now in
    let children : kids_of old ≡ family_at c.args.families.now.items x = ap kids_of c.index_mut.ensures.value ∙ (sym (get_or-map kids_of c.loop-id.families.items x old [] inside) ∙ c.loop-id.invariant.children x) in
    let p = err_from_is_err_and c.from_residual.result c.from_residual.ensures.1 in
    let here = rw children at c.in_err-index.ensures.answer in
    rw (p.1, p.2) (names_stop d (family_at c.args.families.now.items) c.args.visits.now c.loop-id.id-index _ c.in_err-index.field-0.0 c.loop-id-test.true c.loop-id.invariant.so_far here)

pub returns-in_err-index-clause-children : goal.returns-in_err-index-clause-children
returns-in_err-index-clause-children c = λ p.
    family_same c.loop-id.families.items (get_or c.args.visits.now c.loop-id.id-index 0) c.index.new.self c.index_mut.result.now c.index_mut.ensures.value c.in_err-index.ensures.children p ∙ c.loop-id.invariant.children p

pub loop-id-preserved : goal.loop-id-preserved
loop-id-preserved c =
    let d = directory_of c.args.sectors.now in
    let x = get_or c.args.visits.now c.loop-id.id-index 0 in
    let inside : x < length c.loop-id.families.items = search rules in
    let old = c.index_mut.result.now in
    let children : kids_of old ≡ family_at c.args.families.now.items x = ap kids_of c.index_mut.ensures.value ∙ (sym (get_or-map kids_of c.loop-id.families.items x old [] inside) ∙ c.loop-id.invariant.children x) in
    let here : family_names d (family_at c.args.families.now.items x) [] ≡ Ok tt = rw (← children) c.in_ok-index.ensures.answer in
    let named : (q : List ℕ) → index_of c.index.new.self q ≡ first_named (key_of d) q (family_at c.args.families.now.items x) = λ q. rw (← children) (c.in_ok-index.ensures.named q) in
    let spelled : names_of c.index.new.self ≡ map (name_at d) (family_at c.args.families.now.items x) = rw (← children) c.in_ok-index.ensures.spelled in
    record {
      count = c.loop-id.invariant.count;
      children = λ p. family_same c.loop-id.families.items x c.index.new.self old c.index_mut.ensures.value c.in_ok-index.ensures.children p ∙ c.loop-id.invariant.children p;
      named = λ p q below. index_more (key_of d) (family_at c.args.families.now.items) c.loop-id.families.items c.args.visits.now c.loop-id.id-index c.index.new.self c.loop-id-test.true inside named p q (c.loop-id.invariant.named p q below);
      spelled = λ p below. spelled_more (name_at d) (family_at c.args.families.now.items) c.loop-id.families.items c.args.visits.now c.loop-id.id-index c.index.new.self c.loop-id-test.true inside spelled p (c.loop-id.invariant.spelled p below);
      so_far = names_step d (family_at c.args.families.now.items) c.args.visits.now c.loop-id.id-index _ c.loop-id-test.true c.loop-id.invariant.so_far here;
    }

pub returns-clause-answer : goal.returns-clause-answer
returns-clause-answer c = names_done (directory_of c.args.sectors.now) (family_at c.args.families.now.items) c.args.visits.now c.loop-id.id-index _ c.loop-id-test.false c.loop-id.invariant.so_far
