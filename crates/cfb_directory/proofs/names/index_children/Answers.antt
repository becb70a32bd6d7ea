use Rattle.std.proofs.Common.{◌≡◌, take, get_or, sym, ◌∙◌, ap, subst, None, Some, cond, nat_eq}
use Rattle.std.specs.Prelude.{IsSome}
use Rattle.std.specs.Cmp.Lexicographic.{pointwise}
use Rattle.carrier_model.specs.Files.{folded, name_of}
use Rattle.cfb_directory.specs.Named.{key_of, first_named}
use Rattle.cfb_directory.specs.Walks.{directory_of}
use Rattle.cfb_directory.proofs.NameLaws.{family_step, family_stop, family_done, family_more}
use Rattle.cfb_directory.proofs.names.index_children.Goals as goal

pub returns-then-not-branch-clause-answer : goal.returns-then-not-branch-clause-answer
returns-then-not-branch-clause-answer c =
    let d = directory_of c.args.sectors.now in
    let x = get_or c.args.family.now c.loop-id.id-index 0 in
    let key : folded c.name.result.now ≡ key_of d x = ap folded (c.name.ensures ∙ ap name_of c.entry-entry.ensures) in
    let there = rw (c.if-not-branch.true, key) at c.in_ok-insert.ensures in
    rw c.entry_offset.ensures.place (family_stop d c.args.family.now c.loop-id.id-index _ c.loop-id-test.true c.loop-id.invariant.so_far (subst IsSome (c.loop-id.invariant.named (key_of d x)) there))

pub loop-id-preserved : goal.loop-id-preserved
loop-id-preserved c =
    let d = directory_of c.args.sectors.now in
    let family = c.args.family.now in
    let i = c.loop-id.id-index in
    let x = get_or family i 0 in
    let key : folded c.name.result.now ≡ key_of d x = ap folded (c.name.ensures ∙ ap name_of c.entry-entry.ensures) in
    let put = rw (c.if-not-branch.false, key) at c.in_ok-insert.ensures in
    let none : first_named (key_of d) (key_of d x) (take i family) ≡ None = sym (c.loop-id.invariant.named (key_of d x)) ∙ put.0 in
    record {
      named = λ q. put.1 q ∙ (ap (cond (pointwise nat_eq (key_of d x) q) (Some x)) (c.loop-id.invariant.named q) ∙ sym (family_more d q family i c.loop-id-test.true none));
      so_far = family_step d family i _ c.loop-id-test.true c.loop-id.invariant.so_far none;
    }

pub returns-clause-answer : goal.returns-clause-answer
returns-clause-answer c = family_done (directory_of c.args.sectors.now) c.args.family.now c.loop-id.id-index _ c.loop-id-test.false c.loop-id.invariant.so_far
