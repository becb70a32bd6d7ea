use Rattle.std.proofs.Common.{◌≡◌, ℕ, ◌<◌, ◌++◌, ◌∷◌, List, [], sym, ◌∙◌, ap, arith, rules, subst}
use Rattle.std.proofs.lemmas.Grind.{common_steps}
use Rattle.std.proofs.lemmas.Result.{err_from_is_err_and}
use Rattle.std.proofs.Common.{Some}
use Rattle.std.proofs.lemmas.List.{append_assoc, append-nil}
use Rattle.std.proofs.lemmas.List.Elements.{All-cons, All-nil, All-pop, All-push}
use Rattle.carrier_model.specs.Marks.{Marks}
use Rattle.carrier_io.specs.declared.reasons.Stop.TheVariants as stops
use Rattle.cfb_directory.specs.declared.links.Pending.TheVariants.{Visit, Place}
use Rattle.cfb_directory.specs.Walks.{directory_of, IsInside, IsSafe}
use Rattle.cfb_sectors.specs.Views.{entry as entry_seen}
use Rattle.cfb_directory.proofs.WalkLaws.{walk_first, place_step, none_step, visit_step, stop_step, done_step, safe_put, none_left}
use Rattle.cfb_directory.proofs.walk.walk_directory.Goals as goal

pub loop-next-init : goal.loop-next-init
loop-next-init c =
    let one = c.in_ok-push.ensures.items in
    record {
      marks_length = c.requires.marks;
      safe = rw (one, c.new-pending.ensures.items) (All-cons (IsSafe (directory_of c.args.sectors.now).count) (Visit c.args.first) [] (omega arith, c.requires.parent) (All-nil (IsSafe (directory_of c.args.sectors.now).count)));
      order = rw c.new-order.ensures.items (search rules);
      visits = rw c.new-visits.ensures.items (search rules);
      so_far = λ seen h. rw (c.new-order.ensures.items, c.new-visits.ensures.items, one, c.new-pending.ensures.items) (subst (λ (s : List ℕ). Marks c.args.marks.now s) (sym (append-nil seen)) h, walk_first _ _ _);
    }

pub loop-next-preserved-in-Continue-branch-2 : goal.loop-next-preserved-in-Continue-branch-2
loop-next-preserved-in-Continue-branch-2 c =
    let popped : c.loop-next.pending.items ≡ c.pop.new.self.items ++ Place c.in-Place.child ∷ [] = c.in-Some.ensures.items ∙ ap (λ x. c.pop.new.self.items ++ x ∷ []) c.in-Place.is in
    let parts = All-pop (IsSafe (directory_of c.args.sectors.now).count) _ _ (Some (Place c.in-Place.child)) popped c.loop-next.invariant.safe in
    record {
      marks_length = c.loop-next.invariant.marks_length;
      safe = parts.0;
      order = rw c.in_ok-push-in-Place.ensures.items (All-push (IsInside (directory_of c.args.sectors.now).count) _ _ c.loop-next.invariant.order parts.1);
      visits = c.loop-next.invariant.visits;
      so_far = λ seen h.
          let before = c.loop-next.invariant.so_far seen h in
          (before.0, rw c.in_ok-push-in-Place.ensures.items (place_step (directory_of c.args.sectors.now) _ c.loop-next.order.items c.loop-next.visits.items _ _ _ c.in-Place.child before.1 popped));
    }

pub returns-in_err-entry-in-Visit-clause-answer : goal.returns-in_err-entry-in-Visit-clause-answer
returns-in_err-entry-in-Visit-clause-answer c =
    let popped : c.loop-next.pending.items ≡ c.pop.new.self.items ++ Visit c.in-Visit.link ∷ [] = c.in-Some.ensures.items ∙ ap (λ x. c.pop.new.self.items ++ x ∷ []) c.in-Visit.is in
    let p = err_from_is_err_and c.from_residual-in_err-entry-in-Visit.result c.from_residual-in_err-entry-in-Visit.ensures.1 in
    λ seen h.
    let before = c.loop-next.invariant.so_far seen h in
    rw (p.1, p.2) (stop_step (directory_of c.args.sectors.now) _ c.loop-next.order.items c.loop-next.visits.items _ _ _ c.in-Visit.link (stops.Fault c.in_err-entry-in-Visit.field-0.0) before.1 popped c.if-link.true (c.in_err-entry-in-Visit.ensures.answer _ before.0))

pub loop-next-preserved-in-Continue-branch-5 : goal.loop-next-preserved-in-Continue-branch-5
loop-next-preserved-in-Continue-branch-5 c =
    let popped : c.loop-next.pending.items ≡ c.pop.new.self.items ++ Visit c.in-Visit.link ∷ [] = c.in-Some.ensures.items ∙ ap (λ x. c.pop.new.self.items ++ x ∷ []) c.in-Visit.is in
    record {
      marks_length = c.visit_entry.ensures.length ∙ c.loop-next.invariant.marks_length;
      safe = safe_put _ _ _ _ c.in-Visit.link (entry_seen c.in_ok-entry-in-Visit.entry) c.entry_offset-place.result c.loop-next.invariant.safe popped c.in_ok-entry-in-Visit.ensures.inside c.in_ok-entry-in-Visit.ensures.shallow c.in_ok-put_off-in-Visit.ensures;
      order = c.loop-next.invariant.order;
      visits = rw c.in_ok-push-in-Visit.ensures.items (All-push (λ (n : ℕ). n < (directory_of c.args.sectors.now).count) _ _ c.loop-next.invariant.visits c.in_ok-entry-in-Visit.ensures.inside);
      so_far = λ seen h.
          let before = c.loop-next.invariant.so_far seen h in
          rw c.in_ok-push-in-Visit.ensures.items (
            subst (λ (s : List ℕ). Marks c.visit_entry.new.marks s) (append_assoc seen c.loop-next.visits.items (c.in-Visit.link.target ∷ [])) (c.in_ok-entry-in-Visit.ensures.marked _ before.0),
            visit_step (directory_of c.args.sectors.now) _ c.loop-next.order.items c.loop-next.visits.items seen _ _ _ c.in-Visit.link (entry_seen c.in_ok-entry-in-Visit.entry) c.entry_offset-place.result before.1 popped c.if-link.true (c.in_ok-entry-in-Visit.ensures.answer _ before.0) c.in_ok-entry-in-Visit.ensures.there c.entry_offset-place.ensures.place c.in_ok-put_off-in-Visit.ensures,
          );
    }

pub loop-next-preserved : goal.loop-next-preserved
loop-next-preserved c =
    let popped : c.loop-next.pending.items ≡ c.pop.new.self.items ++ Visit c.in-Visit.link ∷ [] = c.in-Some.ensures.items ∙ ap (λ x. c.pop.new.self.items ++ x ∷ []) c.in-Visit.is in
    record {
      marks_length = c.loop-next.invariant.marks_length;
      safe = (All-pop (IsSafe (directory_of c.args.sectors.now).count) _ _ (Some (Visit c.in-Visit.link)) popped c.loop-next.invariant.safe).0;
      order = c.loop-next.invariant.order;
      visits = c.loop-next.invariant.visits;
      so_far = λ seen h.
          let before = c.loop-next.invariant.so_far seen h in
          (before.0, none_step (directory_of c.args.sectors.now) _ c.loop-next.order.items c.loop-next.visits.items _ _ _ c.in-Visit.link before.1 popped c.if-link.false);
    }

pub returns-clause-answer : goal.returns-clause-answer
returns-clause-answer c = λ seen h.
    let before = c.loop-next.invariant.so_far seen h in
    done_step (directory_of c.args.sectors.now) _ c.loop-next.order.items c.loop-next.visits.items _ c.loop-next.pending.items before.1 (none_left c.loop-next.pending.items (let none = c.in_default.ensures.cases.0 in grind (arith, common_steps)))
