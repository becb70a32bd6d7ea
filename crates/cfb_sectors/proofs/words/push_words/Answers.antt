use Rattle.std.proofs.Common.{◌≡◌, ℕ, ◌+◌, ◌*◌, ◌++◌, ◌∷◌, [], List, map, ◌∙◌, arith}
use Rattle.std.specs.List.{range_with_len}
use Rattle.std.proofs.lemmas.List.{append_assoc}
use Rattle.std.proofs.lemmas.List.FromFn.{map-range_with_len_more}
use Rattle.std.proofs.lemmas.Grind.{common_steps}
use Rattle.carrier_model.specs.Sectors.{sector_start, u32_of}
use Rattle.cfb_sectors.proofs.words.push_words.Goals as goal

-- one more value of a function at the end
mapped_more : (f : ℕ → ℕ) (front xs : List ℕ) (i y : ℕ) → xs ≡ front ++ map f (range_with_len 0 i) → y ≡ f i → xs ++ y ∷ [] ≡ front ++ map f (range_with_len 0 (i + 1))
mapped_more f front xs i y before here =
    rw (before, here, map-range_with_len_more f 0 i i (omega arith)) (append_assoc front (map f (range_with_len 0 i)) (f i ∷ []))

pub loop-i-preserved : goal.loop-i-preserved
loop-i-preserved c =
    record {
      count = grind (arith, common_steps);
      words = c.in_ok-push.ensures.items ∙ mapped_more (λ i. u32_of c.args.bytes.now (sector_start c.args.size c.args.sector + 4 * i)) _ _ c.loop-i.i c.long.result c.loop-i.invariant.words c.long.ensures;
    }
