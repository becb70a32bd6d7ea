-- The words of the FAT, the mini FAT and the DIFAT.
use Rattle.std.proofs.Common.{◌≡◌, ℕ, suc, ◌+◌, ◌-◌, ◌*◌, ◌/◌, ◌<◌, ◌≤◌, List, [], ◌∷◌, ◌++◌, length, sym, ap, subst, ◌∙◌, append_assoc, arith}
use Rattle.std.specs.Prelude.{min, replicate}
use Rattle.std.specs.List.{flat_map, range_with_len}
use Rattle.std.proofs.lemmas.List.{length-append, length-replicate}
use Rattle.std.proofs.lemmas.List.FromFn.{length-range_with_len}
use Rattle.std.proofs.lemmas.List.Concat.{flat_map-append}
use Rattle.carrier_model.specs.Bytes.{le32}
use Rattle.carrier_model.specs.Layout.{Plan, Slot, FREE, FAT_SECTOR, DIFAT_SECTOR, all_pieces, difat_words, directory_start, long_start, long_streams, mini_fat_start, mini_stream_start, plan_of, rest_of, run_words, short_streams, stream_words, table_of, mini_table_of, words_bytes}
use Rattle.carrier_model.specs.Tables.{difat_count}
use Rattle.carrier_model.proofs.LaidTables.{run-length, streams-length}
use Rattle.cfb_writer.specs.Numbered.{front_words, next_list}
use Rattle.cfb_layout.specs.Versions.{sector_of}
use Rattle.cfb_layout.specs.declared.version.Version.{Version}
use Rattle.cfb_writer.proofs.Least.{count-suffices, le_true}

pub range_then : (f : ℕ → List ℕ) (k n : ℕ) → k < n → flat_map f (range_with_len k (n - k)) ≡ f k ++ flat_map f (range_with_len (k + 1) (n - (k + 1)))
range_then f k n lt = let e : n - k ≡ suc (n - (k + 1)) = omega (arith, lt) in ap (λ (m : ℕ). flat_map f (range_with_len k m)) e

-- a DIFAT sector
pub list_is : (z : ℕ) (p : Plan) (k n last : ℕ) → n ≡ min (p.fat - (109 + (z / 4 - 1) * k)) (z / 4 - 1) → last ≡ next_list p k → range_with_len (109 + (z / 4 - 1) * k) n ++ (replicate (z / 4 - 1 - n) FREE ++ (last ∷ [])) ≡ difat_words z p k
list_is z p k n last e l =
    let first = 109 + (z / 4 - 1) * k in
    let m = min (z / 4 - 1) (p.fat - first) in
    let same : n ≡ m = omega (arith, e) in
    ap (λ (i : ℕ). range_with_len first i ++ (replicate (z / 4 - 1 - i) FREE ++ (last ∷ []))) same
    ∙ ap (λ (i : ℕ). range_with_len first m ++ (replicate (z / 4 - 1 - i) FREE ++ (last ∷ []))) (sym (length-range_with_len first m))
    ∙ ap (λ (i : ℕ). range_with_len first m ++ (replicate (z / 4 - 1 - length (range_with_len first m)) FREE ++ (i ∷ []))) l

-- the FAT of a plan is long enough
pub enough : (v : Version) (p : Plan) (slots : List Slot) → p ≡ plan_of (sector_of v) slots → p.fat + p.difat + rest_of p.sizes ≤ sector_of v / 4 * p.fat
enough v p slots e =
    let q = plan_of (sector_of v) slots in
    let h = le_true (q.fat + difat_count (sector_of v) q.fat + rest_of q.sizes) (sector_of v / 4 * q.fat) (count-suffices v (rest_of q.sizes)) in
    subst (λ (r : Plan). r.fat + r.difat + rest_of r.sizes ≤ sector_of v / 4 * r.fat) (sym e) h

front-length : (p : Plan) → length (front_words p) ≡ long_start p
front-length p =
    let e = run_words (mini_stream_start p) p.sizes.mini_stream in
    let d = run_words (mini_fat_start p) p.sizes.mini_fat ++ e in
    let c = run_words (directory_start p) p.sizes.directory ++ d in
    let b = replicate p.difat DIFAT_SECTOR ++ c in
    omega (arith, length-append (replicate p.fat FAT_SECTOR) b, length-append (replicate p.difat DIFAT_SECTOR) c, length-append (run_words (directory_start p) p.sizes.directory) d, length-append (run_words (mini_fat_start p) p.sizes.mini_fat) e, length-replicate p.fat FAT_SECTOR, length-replicate p.difat DIFAT_SECTOR, run-length (directory_start p) p.sizes.directory, run-length (mini_fat_start p) p.sizes.mini_fat, run-length (mini_stream_start p) p.sizes.mini_stream)

five : (a b c d e x : List ℕ) → a ++ (b ++ (c ++ (d ++ (e ++ x)))) ≡ (a ++ (b ++ (c ++ (d ++ e)))) ++ x
five a b c d e x =
    ap (λ (y : List ℕ). a ++ (b ++ (c ++ y))) (sym (append_assoc d e x))
    ∙ ap (λ (y : List ℕ). a ++ (b ++ y)) (sym (append_assoc c (d ++ e) x))
    ∙ ap (λ (y : List ℕ). a ++ y) (sym (append_assoc b (c ++ (d ++ e)) x))
    ∙ sym (append_assoc a (b ++ (c ++ (d ++ e))) x)

-- the words before the streams, those of the streams, and the free ones
pub table_is : (z : ℕ) (p : Plan) (slots : List Slot) (free : ℕ) → p ≡ plan_of z slots → free ≡ z / 4 * p.fat - (long_start p + p.sizes.long) → words_bytes (front_words p) ++ (words_bytes (stream_words z (long_start p) (long_streams slots)) ++ words_bytes (replicate free FREE)) ≡ words_bytes (table_of z p slots)
table_is z p slots free is f =
    let x = stream_words z (long_start p) (long_streams slots) in
    let inner = five (replicate p.fat FAT_SECTOR) (replicate p.difat DIFAT_SECTOR) (run_words (directory_start p) p.sizes.directory) (run_words (mini_fat_start p) p.sizes.mini_fat) (run_words (mini_stream_start p) p.sizes.mini_stream) x in
    let long : p.sizes.long ≡ all_pieces z (long_streams slots) = ap (λ (q : Plan). q.sizes.long) is in
    let all : length (front_words p ++ x) ≡ long_start p + p.sizes.long = omega (arith, length-append (front_words p) x, front-length p, streams-length z (long_start p) (long_streams slots), long) in
    let count : free ≡ z / 4 * p.fat - length (front_words p ++ x) = omega (arith, f, all) in
    ap (λ (y : List ℕ). words_bytes (front_words p) ++ y) (sym (flat_map-append le32 x (replicate free FREE)))
    ∙ sym (flat_map-append le32 (front_words p) (x ++ replicate free FREE))
    ∙ ap words_bytes (sym (append_assoc (front_words p) x (replicate free FREE)) ∙ ap (λ (n : ℕ). (front_words p ++ x) ++ replicate n FREE) count ∙ ap (λ (y : List ℕ). y ++ replicate (z / 4 * p.fat - length y) FREE) (sym inner))

pub mini_table_is : (z : ℕ) (p : Plan) (slots : List Slot) (free : ℕ) → p ≡ plan_of z slots → free ≡ z / 4 * p.sizes.mini_fat - p.sizes.mini_sectors → words_bytes (stream_words 64 0 (short_streams slots)) ++ words_bytes (replicate free FREE) ≡ words_bytes (mini_table_of z p slots)
mini_table_is z p slots free is f =
    let x = stream_words 64 0 (short_streams slots) in
    let mini : p.sizes.mini_sectors ≡ all_pieces 64 (short_streams slots) = ap (λ (q : Plan). q.sizes.mini_sectors) is in
    let count : free ≡ z / 4 * p.sizes.mini_fat - length x = omega (arith, f, mini, streams-length 64 0 (short_streams slots)) in
    sym (flat_map-append le32 x (replicate free FREE)) ∙ ap (λ (n : ℕ). words_bytes (x ++ replicate n FREE)) count
