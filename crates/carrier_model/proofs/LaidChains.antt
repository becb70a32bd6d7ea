-- Consecutive sectors are a chain, in a file that is laid out.
use Rattle.std.proofs.Common.{◌≡◌, ℕ, zero, suc, ◌+◌, ◌-◌, ◌*◌, ◌/◌, ◌<◌, ◌≤◌, List, [], ◌∷◌, ◌++◌, length, min, replicate, refl, sym, ◌∙◌, ap, subst, arith}
use Rattle.std.specs.List.{range_with_len}
use Rattle.std.proofs.lemmas.List.{length-replicate}
use Rattle.carrier_model.specs.Chains.{Leads, Chain, word, end_word}
use Rattle.carrier_model.specs.Layout.{Slot, Plan, FREE, FAT_SECTOR, DIFAT_SECTOR, rest_of, run_words, stream_words, long_streams, table_of, directory_start, mini_fat_start, mini_stream_start, long_start}
use Rattle.carrier_model.specs.Loads.{chain_bound}
use Rattle.carrier_model.proofs.LaidBytes.{Lies, lies-whole, lies-front, lies-back, byte-lies}
use Rattle.carrier_model.proofs.LaidFat.{range-distinct, range-below}
use Rattle.carrier_model.proofs.LaidHeader.{counted}
use Rattle.carrier_model.proofs.LaidParts.{IsPlan, AreParts, inner_words, table-length}
use Rattle.carrier_model.proofs.LaidTables.{run-length}
use Rattle.carrier_model.proofs.Sizes.{SizeOf}

run-leads : (n : ℕ) (T : List ℕ) (start : ℕ) → Lies T start (run_words start (suc n)) → Leads T start (range_with_len start (suc n)) end_word
run-leads zero T start l = (refl, byte-lies T start end_word l)
run-leads (suc n) T start l =
    let here : word T start ≡ start + 1 = byte-lies T start (start + 1) (lies-front T start ((start + 1) ∷ []) (run_words (start + 1) (suc n)) l) in
    let rest = run-leads n T (start + 1) (lies-back T start (start + 1) ((start + 1) ∷ []) (run_words (start + 1) (suc n)) refl l) in
    (refl, subst (λ (x : ℕ). Leads T x (range_with_len (start + 1) (suc n)) end_word) (sym here) rest)

pub run-chain : (n : ℕ) (T : List ℕ) (start bound : ℕ) → 0 < n → start + n ≤ bound → Lies T start (run_words start n) → Chain T start bound (range_with_len start n)
run-chain zero T start bound some fits l = absurd (omega (arith, some))
run-chain (suc n) T start bound some fits l = record { linked = run-leads n T start l; distinct = range-distinct start (suc n); below = range-below start (suc n) bound fits }

pub no-chain : (T : List ℕ) (bound : ℕ) → Chain T end_word bound []
unfolding Rattle.std.specs.List.IsDistinct
no-chain T bound = record { linked = refl; distinct = tt; below = tt }

-- where the runs stand in the table
pub record AreRuns (z : ℕ) (p : Plan) (slots : List Slot) : Type 0 where
  pub directory : Lies (table_of z p slots) (directory_start p) (run_words (directory_start p) p.sizes.directory)
  pub mini_fat : Lies (table_of z p slots) (mini_fat_start p) (run_words (mini_fat_start p) p.sizes.mini_fat)
  pub mini_stream : Lies (table_of z p slots) (mini_stream_start p) (run_words (mini_stream_start p) p.sizes.mini_stream)
  pub long : Lies (table_of z p slots) (long_start p) (stream_words z (long_start p) (long_streams slots))

pub runs_lie : (z : ℕ) (p : Plan) (slots : List Slot) → AreRuns z p slots
runs_lie z p slots =
    let T = table_of z p slots in
    let e = stream_words z (long_start p) (long_streams slots) in
    let rd = run_words (mini_stream_start p) p.sizes.mini_stream in
    let rc = run_words (mini_fat_start p) p.sizes.mini_fat in
    let rb = run_words (directory_start p) p.sizes.directory in
    let a = replicate p.difat DIFAT_SECTOR in
    let f = replicate p.fat FAT_SECTOR in
    let whole = lies-front T 0 (inner_words z p slots) (replicate (z / 4 * p.fat - length (inner_words z p slots)) FREE) (lies-whole T) in
    let l1 = lies-back T 0 p.fat f (a ++ (rb ++ (rc ++ (rd ++ e)))) (omega (arith, length-replicate p.fat FAT_SECTOR)) whole in
    let l2 = lies-back T p.fat (directory_start p) a (rb ++ (rc ++ (rd ++ e))) (ap (λ k. p.fat + k) (sym (length-replicate p.difat DIFAT_SECTOR))) l1 in
    let l3 = lies-back T (directory_start p) (mini_fat_start p) rb (rc ++ (rd ++ e)) (ap (λ k. directory_start p + k) (sym (run-length (directory_start p) p.sizes.directory))) l2 in
    let l4 = lies-back T (mini_fat_start p) (mini_stream_start p) rc (rd ++ e) (ap (λ k. mini_fat_start p + k) (sym (run-length (mini_fat_start p) p.sizes.mini_fat))) l3 in
    let l5 = lies-back T (mini_stream_start p) (long_start p) rd e (ap (λ k. mini_stream_start p + k) (sym (run-length (mini_stream_start p) p.sizes.mini_stream))) l4 in
    record {
      directory = lies-front T (directory_start p) rb (rc ++ (rd ++ e)) l2;
      mini_fat = lies-front T (mini_fat_start p) rc (rd ++ e) l3;
      mini_stream = lies-front T (mini_stream_start p) rd e l4;
      long = l5;
    }

-- chains reach all sectors
pub bound-is : (z : ℕ) (v : SizeOf z) (p : Plan) (slots : List Slot) (b : List ℕ) → AreParts z p slots b → IsPlan z p slots → chain_bound z b (table_of z p slots) ≡ p.fat + p.difat + rest_of p.sizes
bound-is z v p slots b is plan =
    let n = counted z v b (p.fat + p.difat + rest_of p.sizes) is.size in
    let t = table-length z p slots plan in
    let e = plan.enough in
    ap (λ k. min k (length (table_of z p slots))) n.0 ∙ (ap (λ k. min (p.fat + p.difat + rest_of p.sizes) k) t ∙ omega (arith, e))
