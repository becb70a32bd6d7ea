use Rattle.std.proofs.Common.{◌≡◌, ◌<◌, ◌≤◌, length, vec_len, true, ◌∙◌, arith, refl, rules}
use Rattle.std.proofs.lemmas.List.Elements.{All-nil}
use Rattle.std.proofs.lemmas.Result.{err_from_is_err_and}
use Rattle.cfb_sectors.specs.States.{entries}
use Rattle.cfb_directory.specs.Nodes.{is_wanted}
use Rattle.cfb_directory.specs.Walks.{directory_of}
use Rattle.cfb_directory.proofs.ClaimSteps.{same-again, wanted_is, progress_init, progress_done, skip_step, claim_step, stop_step, inside_push, within}
use Rattle.cfb_directory.proofs.claiming.claim_streams.Goals as goal
use Rattle.cfb_directory.proofs.claiming.claim_streams.Goals.{then-is_visited_stream+in_ok-stream+in_ok-push-2+in_ok-push-3, else-is_visited_stream+in_ok-push-4}

pub loop-id-init : goal.loop-id-init
loop-id-init c = record {
  same = refl;
  count = c.new-numbers.ensures.len;
  few = omega (arith, c.in_ok-push.ensures.len, c.new-views.ensures.len);
  some = omega (arith, c.in_ok-push.ensures.len, c.new-views.ensures.len);
  inside = rw c.new-numbers.ensures.items (All-nil (λ k. k < vec_len c.push.new.self));
  bounded = omega arith;
  grows = omega arith;
  so_far = λ long short h k. rw c.new-numbers.ensures.items (progress_init c.args.sectors.now (is_wanted c.args.visited.now (directory_of c.args.sectors.now)) c.args.walk.now c.push.new.self.items long short h k);
}

pub returns-in_err-stream-clause-answer : goal.returns-in_err-stream-clause-answer
returns-in_err-stream-clause-answer c =
    let s = c.args.sectors.now in
    let i = c.loop-id.id in
    let e = err_from_is_err_and c.from_residual-in_err-stream.result c.from_residual-in_err-stream.ensures.1 in
    let inside : i < entries s = within i _ _ c.entries-id-end.ensures c.loop-id-test.true in
    let ours : is_wanted c.args.visited.now (directory_of s) i ≡ true = wanted_is c.args.visited.now s c.loop-id.sectors i c.kind.result _ c.loop-id.invariant.same c.kind.ensures c.is_visited_stream.ensures ∙ c.if-is_visited_stream.true in
    λ long short h k.
    rw (e.1, e.2) (stop_step s c.loop-id.sectors _ _ i _ _ _ _ c.in_err-stream.field-0.0 c.loop-id.invariant.same (c.loop-id.invariant.so_far long short h k) inside ours c.in_err-stream.ensures.answer)

pub loop-id-preserved : goal.loop-id-preserved
loop-id-preserved c =
    let s = c.args.sectors.now in
    let i = c.loop-id.id in
    let inside : i < entries s = within i _ _ c.entries-id-end.ensures c.loop-id-test.true in
    let wanted = wanted_is c.args.visited.now s c.loop-id.sectors i c.kind.result _ c.loop-id.invariant.same c.kind.ensures c.is_visited_stream.ensures in
    let last : length c.loop-id.numbers.items ≡ i = search rules in
    let all = rw c.loop-id.views.ok.0 at c.loop-id.invariant.inside in
    elim c.if-is_visited_stream.branch [
      | then-is_visited_stream+in_ok-stream+in_ok-push-2+in_ok-push-3 w ↦
          rw (w.sectors-is, w.walk-is, w.numbers-is, w.views-is) (record {
            same = same-again s c.loop-id.sectors w.claim.new.self c.loop-id.invariant.same w.in_ok-stream.ensures.same;
            count = omega (arith, w.in_ok-push-2.ensures.len, c.loop-id.invariant.count);
            few = omega (arith, w.in_ok-push-3.ensures.len, c.loop-id.invariant.few);
            some = omega (arith, w.in_ok-push-3.ensures.len);
            inside = rw w.in_ok-push-2.ensures.items (inside_push (vec_len c.loop-id.views) _ w.len.result c.loop-id.numbers.items c.loop-id.invariant.inside (omega (arith, w.in_ok-push-3.ensures.len)) (omega (arith, w.in_ok-push-3.ensures.len, w.len.ensures)));
            bounded = omega arith;
            grows = omega arith;
            so_far = λ long short h k. rw (w.in_ok-push-2.ensures.items, w.in_ok-push-3.ensures.items) (claim_step s c.loop-id.sectors _ _ i w.len.result c.loop-id.numbers.items c.loop-id.views.items w.in_ok-stream.stream _ _ _ _ _ c.loop-id.invariant.same (c.loop-id.invariant.so_far long short h k) inside last (w.len.ensures ∙ c.loop-id.views.ok.0) all (wanted ∙ w.if-is_visited_stream.true) w.in_ok-stream.ensures.answer w.in_ok-stream.ensures.marked w.in_ok-stream.ensures.steps);
          })
      | else-is_visited_stream+in_ok-push-4 w ↦
          rw (w.sectors-is, w.walk-is, w.numbers-is, w.views-is) (record {
            same = c.loop-id.invariant.same;
            count = omega (arith, w.in_ok-push-4.ensures.len, c.loop-id.invariant.count);
            few = omega (arith, c.loop-id.invariant.few);
            some = c.loop-id.invariant.some;
            inside = rw w.in_ok-push-4.ensures.items (inside_push (vec_len c.loop-id.views) _ 0 c.loop-id.numbers.items c.loop-id.invariant.inside (omega arith) (omega (arith, c.loop-id.invariant.some)));
            bounded = c.loop-id.invariant.bounded;
            grows = c.loop-id.invariant.grows;
            so_far = λ long short h k. rw w.in_ok-push-4.ensures.items (skip_step s c.loop-id.sectors _ _ i c.loop-id.numbers.items c.loop-id.views.items _ _ (c.loop-id.invariant.so_far long short h k) inside last (wanted ∙ w.if-is_visited_stream.false));
          })
    ]

pub returns-clause-answer : goal.returns-clause-answer
returns-clause-answer c = λ long short h k.
    let p = c.loop-id.invariant.so_far long short h k in
    let over : entries c.args.sectors.now ≤ c.loop-id.id = omega (arith, c.entries-id-end.ensures, c.loop-id-test.false) in
    (p.claims, progress_done c.args.sectors.now _ _ _ _ _ _ _ _ _ p over, p.are_streams, p.steps)
