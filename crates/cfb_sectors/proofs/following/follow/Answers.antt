use Rattle.std.proofs.Common.{◌≡◌, ◌+◌, ◌<◌, length, get_or, true, false, [], ◌∷◌, ◌++◌, arith, refl, sym, ◌∙◌, ap}
use Rattle.std.proofs.lemmas.Grind.{common_steps}
use Rattle.carrier_model.specs.Marks.{is_free}
use Rattle.std.proofs.lemmas.List.Elements.{All-nil, All-push}
use Rattle.std.proofs.lemmas.List.{length-set}
use Rattle.carrier_model.proofs.MarkLaws.{mark_all-push, Leads-push, AreFree-push, unmarked-set, is_free-true}
use Rattle.cfb_sectors.proofs.StayLaws.{stay-set}
use Rattle.cfb_sectors.proofs.following.follow.Goals as goal

pub loop-sector-init : goal.loop-sector-init
loop-sector-init c =
    let none : c.new-chain.result.items ≡ [] = c.new-chain.ensures.items in
    record {
      linked = rw none refl;
      free = rw none tt;
      below = rw none (All-nil (λ n. n < c.args.bound));
      whole = rw none (All-nil (λ n. n < c.args.whole));
      marked = rw none refl;
      steps = grind (arith, common_steps);
      same_length = refl;
      stay = λ n h. h;
      few = grind (arith, common_steps);
      bounded = omega arith;
      grows = omega arith;
    }

pub loop-sector-smaller : goal.loop-sector-smaller
loop-sector-smaller c =
    let free : get_or c.loop-sector.marks c.loop-sector.sector false ≡ false = sym c.has.ensures ∙ c.if-not-has.true in
    let inside : c.loop-sector.sector < length c.loop-sector.marks = omega arith in
    rw c.mark.ensures (omega (arith, unmarked-set c.loop-sector.marks c.loop-sector.sector inside free))

pub loop-sector-preserved : goal.loop-sector-preserved
loop-sector-preserved c =
    let pushed : c.push.new.self.items ≡ c.loop-sector.chain.items ++ c.loop-sector.sector ∷ [] = c.in_ok-push.ensures.items in
    let free : get_or c.loop-sector.marks c.loop-sector.sector false ≡ false = sym c.has.ensures ∙ c.if-not-has.true in
    let inside : c.loop-sector.sector < length c.loop-sector.marks = omega arith in
    let fewer = unmarked-set c.loop-sector.marks c.loop-sector.sector inside free in
    record {
      linked = rw (pushed, c.next-sector.ensures.word) (Leads-push c.args.table.now.words.items c.args.start c.loop-sector.chain.items c.loop-sector.sector c.loop-sector.invariant.linked);
      free = rw pushed (AreFree-push c.args.bound c.args.whole c.args.marks.now c.loop-sector.chain.items c.loop-sector.sector c.loop-sector.invariant.free (ap (λ m. is_free c.args.bound c.args.whole m c.loop-sector.sector) (sym c.loop-sector.invariant.marked) ∙ is_free-true c.args.bound c.args.whole c.loop-sector.marks c.loop-sector.sector (omega arith) (omega arith) free));
      below = rw pushed (All-push (λ n. n < c.args.bound) c.loop-sector.chain.items c.loop-sector.sector c.loop-sector.invariant.below (omega arith));
      whole = rw pushed (All-push (λ n. n < c.args.whole) c.loop-sector.chain.items c.loop-sector.sector c.loop-sector.invariant.whole (omega arith));
      marked = rw (pushed, mark_all-push, ← c.loop-sector.invariant.marked) c.mark.ensures;
      steps = grind (arith, common_steps);
      same_length = rw (c.mark.ensures, length-set) c.loop-sector.invariant.same_length;
      stay = rw c.mark.ensures (stay-set c.args.marks.now c.loop-sector.marks c.loop-sector.sector c.loop-sector.invariant.stay);
      few = rw c.mark.ensures (grind (arith, common_steps));
      bounded = rw c.mark.ensures (omega arith);
      grows = omega arith;
    }
