use Rattle.std.proofs.Common.{◌≡◌, ◌+◌, ◌*◌, map, ◌∷◌, ◌++◌, [], refl, sym, ◌∙◌, arith}
use Rattle.std.specs.List.{range_with_len}
use Rattle.std.proofs.lemmas.Grind.{common_steps, take-set_at}
use Rattle.std.proofs.lemmas.List.FromFn.{map-range_with_len_more}
use Rattle.carrier_model.specs.Sectors.{u16_of}
use Rattle.cfb_sectors.proofs.entry.read_units.Goals as goal

pub loop-i-preserved : goal.loop-i-preserved
loop-i-preserved c =
    let more : map (λ k. u16_of c.args.bytes.now (c.args.at + 2 * k)) (range_with_len 0 (c.loop-i.i + 1)) ≡ map (λ k. u16_of c.args.bytes.now (c.args.at + 2 * k)) (range_with_len 0 c.loop-i.i) ++ u16_of c.args.bytes.now (c.args.at + 2 * c.loop-i.i) ∷ [] = map-range_with_len_more (λ k. u16_of c.args.bytes.now (c.args.at + 2 * k)) 0 c.loop-i.i c.loop-i.i (omega arith) in
    record {
      count = grind (arith, common_steps);
      so_far = take-set_at c.loop-i.units c.loop-i.i (c.loop-i.i + 1) c.short.result refl (omega arith) ∙ (rw (c.loop-i.invariant.so_far, c.short.ensures) (sym more));
    }
