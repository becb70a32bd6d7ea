use Rattle.std.proofs.Common.{◌≡◌, ◌<◌, ◌++◌, ◌∷◌, [], length, arith, ◌∙◌, refl}
use Rattle.std.proofs.lemmas.Grind.{common_steps}
use Rattle.std.proofs.lemmas.Result.{err_from_is_err_and}
use Rattle.std.proofs.lemmas.List.{append_assoc}
use Rattle.std.proofs.lemmas.List.Elements.{All-push}
use Rattle.carrier_model.specs.Sectors.{whole_count}
use Rattle.carrier_io.specs.declared.reasons.Stop.TheVariants as stops
use Rattle.carrier_model.proofs.PlaceLaws.{last_word}
use Rattle.cfb_sectors.proofs.ListLaws.{difat_step, difat_halt, difat_done}
use Rattle.cfb_sectors.proofs.lists.take_difat.Goals as goal

pub returns-in_err-sector-clause-answer : goal.returns-in_err-sector-clause-answer
returns-in_err-sector-clause-answer c = λ e h.
    let p = err_from_is_err_and c.from_residual.result c.from_residual.ensures.1 in
    rw (p.1, p.2) (difat_halt c.args.size c.args.count c.loop-i._i c.loop-i.place c.args.bytes.now e c.loop-i.difat.items (stops.Fault c.in_err-sector.field-0.0) _ (omega arith) (c.loop-i.invariant.so_far e h) (c.in_err-sector.ensures.answer (e ++ c.loop-i.difat.items) (c.loop-i.invariant.marked e h)))

pub loop-i-preserved : goal.loop-i-preserved
loop-i-preserved c =
    let pushed : c.push.new.self.items ≡ c.loop-i.difat.items ++ c.in_ok-sector.sector ∷ [] = c.in_ok-push.ensures.items in
    record {
      count = grind (arith, common_steps);
      inside = last_word c.args.size c.in_ok-sector.sector (length c.args.bytes.now) c.requires.size c.in_ok-sector.ensures.below;
      below = rw pushed (All-push (λ n. n < whole_count c.args.size c.args.bytes.now) c.loop-i.difat.items c.in_ok-sector.sector c.loop-i.invariant.below c.in_ok-sector.ensures.below);
      same_length = c.take_sector.ensures.length ∙ c.loop-i.invariant.same_length;
      bounded = omega (arith, c.take_sector.ensures.bounded);
      marked = λ e h. rw (pushed, ← append_assoc e c.loop-i.difat.items (c.in_ok-sector.sector ∷ [])) (c.in_ok-sector.ensures.marked (e ++ c.loop-i.difat.items) (c.loop-i.invariant.marked e h));
      so_far = λ e h. rw pushed (difat_step c.args.size c.args.count c.loop-i._i c.loop-i.place _ c.args.bytes.now e c.loop-i.difat.items c.in_ok-sector.sector _ (omega arith) (c.loop-i.invariant.so_far e h) refl (c.in_ok-sector.ensures.answer (e ++ c.loop-i.difat.items) (c.loop-i.invariant.marked e h)));
    }

pub returns-clause-answer : goal.returns-clause-answer
returns-clause-answer c = λ e h. difat_done c.args.size c.args.count c.loop-i._i c.loop-i.place c.args.bytes.now e c.loop-i.difat.items _ (omega arith) (c.loop-i.invariant.so_far e h)
