-- The parts of a file that is laid out: how long they are, and where they lie.
use Rattle.std.proofs.Common.{◌≡◌, ℕ, zero, suc, ◌+◌, ◌-◌, ◌*◌, ◌/◌, ◌≤◌, List, [], ◌∷◌, ◌++◌, length, map, replicate, set, min, refl, sym, ◌∙◌, ap, subst, arith, mul-zero}
use Rattle.std.specs.List.{range_with_len, flat_map, AllByRecursion}
use Rattle.std.specs.Int.{div_ceil}
use Rattle.std.proofs.lemmas.List.{length-append, length-replicate}
use Rattle.std.proofs.lemmas.List.FromFn.{length-range_with_len}
use Rattle.std.proofs.lemmas.List.Sums.{sum_by-cons}
use Rattle.std.specs.Prelude.{◌==◌, if◌then◌else◌}
use Rattle.carrier_model.specs.Chains.{end_word}
use Rattle.carrier_model.specs.Bytes.{le16, le32}
use Rattle.carrier_model.specs.Layout.{Slot, Plan, Sizes, MINI, FREE, pieces, all_pieces, filled, filled_words, words_bytes, short_streams, long_streams, rest_of, run_words, stream_words, table_of, mini_table_of, difat_words, difat_bytes, header_front, header_counts, header_list, header_bytes, name_field, slot_bytes, unused_slot, slots_bytes, root_bytes, directory_slots, directory_bytes, mini_stream_bytes, long_bytes, file_bytes, directory_start, mini_fat_start, mini_stream_start, long_start, start_or_end, start_of_slot, is_short, is_long, FAT_SECTOR, DIFAT_SECTOR, BLACK}
use Rattle.carrier_model.specs.Sectors.{sector_start}
use Rattle.carrier_model.specs.Tables.{difat_count}
use Rattle.carrier_model.proofs.LaidBytes.{Lies, lies-whole, lies-front, lies-back}
use Rattle.carrier_model.proofs.LaidTables.{words-length, run-length, streams-length}
use Rattle.carrier_model.proofs.Sizes.{SizeOf, size_least, words_fill, all_words, all_entries, ceil_holds}

-- two zeros behind others, set
pub two_set : (front rest : List ℕ) (n a b : ℕ) → length front ≡ n → set (set (front ++ 0 ∷ 0 ∷ rest) n a) (suc n) b ≡ front ++ a ∷ b ∷ rest
two_set [] rest zero a b e = refl
two_set [] rest (suc n) a b e = absurd (omega (arith, e))
two_set (x ∷ front) rest zero a b e = absurd (omega (arith, e))
two_set (x ∷ front) rest (suc n) a b e = ap (λ (z : List ℕ). x ∷ z) (two_set front rest n a b (omega (arith, e)))

-- two lists of known lengths
pub joined : (x y : List ℕ) {m n : ℕ} → length x ≡ m → length y ≡ n → length (x ++ y) ≡ m + n
joined x y h k = length-append x y ∙ rw (h, k) refl

-- mini sectors and sectors
pub filled-short : (x : List ℕ) → length (filled 64 x) ≡ 64 * pieces 64 x
filled-short x = length-append x (replicate (pieces 64 x * 64 - length x) 0) ∙ (ap (λ k. length x + k) (length-replicate (pieces 64 x * 64 - length x) 0) ∙ omega arith)

pub filled-long : (z : ℕ) (v : SizeOf z) (x : List ℕ) → length (filled z x) ≡ z * pieces z x
filled-long z v x = length-append x (replicate (pieces z x * z - length x) 0) ∙ (ap (λ k. length x + k) (length-replicate (pieces z x * z - length x) 0) ∙ omega (arith, ceil_holds z v (length x)))

pub all-short : (xs : List (List ℕ)) → length (flat_map (filled 64) xs) ≡ 64 * all_pieces 64 xs
all-short [] = refl
all-short (x ∷ xs) =
    let more : all_pieces 64 (x ∷ xs) ≡ pieces 64 x + all_pieces 64 xs = sum_by-cons (λ k. k) (pieces 64 x) (map (pieces 64) xs) in
    length-append (filled 64 x) (flat_map (filled 64) xs) ∙ (ap (λ k. k + length (flat_map (filled 64) xs)) (filled-short x) ∙ (ap (λ k. 64 * pieces 64 x + k) (all-short xs) ∙ (omega arith ∙ ap (λ k. 64 * k) (sym more))))

pub all-long : (z : ℕ) (v : SizeOf z) (xs : List (List ℕ)) → length (flat_map (filled z) xs) ≡ z * all_pieces z xs
all-long z v [] = sym (mul-zero z)
all-long z v (x ∷ xs) =
    let more : all_pieces z (x ∷ xs) ≡ pieces z x + all_pieces z xs = sum_by-cons (λ k. k) (pieces z x) (map (pieces z) xs) in
    length-append (filled z x) (flat_map (filled z) xs) ∙ (ap (λ k. k + length (flat_map (filled z) xs)) (filled-long z v x) ∙ (ap (λ k. z * pieces z x + k) (all-long z v xs) ∙ (omega arith ∙ ap (λ k. z * k) (sym more))))

pub mini-length : (z : ℕ) (v : SizeOf z) (slots : List Slot) → length (mini_stream_bytes z slots) ≡ z * div_ceil (64 * all_pieces 64 (short_streams slots)) z
mini-length z v slots = filled-long z v (flat_map (filled 64) (short_streams slots)) ∙ ap (λ k. z * div_ceil k z) (all-short (short_streams slots))

-- the header has the room of a sector
pub list-length : (f : ℕ) → length (words_bytes (range_with_len 0 (min 109 f) ++ replicate (109 - f) FREE)) ≡ 436
list-length f =
    words-length (range_with_len 0 (min 109 f) ++ replicate (109 - f) FREE)
    ∙ (ap (λ k. 4 * k) (length-append (range_with_len 0 (min 109 f)) (replicate (109 - f) FREE) ∙ (ap (λ k. k + length (replicate (109 - f) FREE)) (length-range_with_len 0 (min 109 f)) ∙ ap (λ k. min 109 f + k) (length-replicate (109 - f) FREE)))
    ∙ omega arith)

pub header-length : (z : ℕ) (v : SizeOf z) (p : Plan) → length (header_bytes z p) ≡ z
header-length z v p =
    let zeros = replicate (z - 512) 0 in
    length-append (header_front z) (header_counts z p ++ (header_list p ++ zeros))
    ∙ (ap (λ k. 40 + k) (length-append (header_counts z p) (header_list p ++ zeros) ∙ ap (λ k. 36 + k) (length-append (header_list p) zeros ∙ (ap (λ k. k + length zeros) (list-length p.fat) ∙ ap (λ k. 436 + k) (length-replicate (z - 512) 0))))
    ∙ omega (arith, size_least z v))

-- a filled table
pub filled-words_length : (z : ℕ) (count : ℕ) (ws : List ℕ) → length ws ≤ z / 4 * count → length (filled_words z count ws) ≡ z / 4 * count
filled-words_length z count ws fits = length-append ws (replicate (z / 4 * count - length ws) FREE) ∙ (ap (λ k. length ws + k) (length-replicate (z / 4 * count - length ws) FREE) ∙ omega (arith, fits))

-- the words of the whole table
abbrev pub inner_words : ℕ → Plan → List Slot → List ℕ
inner_words z p slots =
    replicate p.fat FAT_SECTOR
    ++ (replicate p.difat DIFAT_SECTOR
    ++ (run_words (directory_start p) p.sizes.directory
    ++ (run_words (mini_fat_start p) p.sizes.mini_fat
    ++ (run_words (mini_stream_start p) p.sizes.mini_stream
    ++ stream_words z (long_start p) (long_streams slots)))))

pub inner-length : (z : ℕ) (p : Plan) (slots : List Slot) → length (inner_words z p slots) ≡ p.fat + (p.difat + (p.sizes.directory + (p.sizes.mini_fat + (p.sizes.mini_stream + all_pieces z (long_streams slots)))))
inner-length z p slots =
    let e = stream_words z (long_start p) (long_streams slots) in
    let d = run_words (mini_stream_start p) p.sizes.mini_stream ++ e in
    let c = run_words (mini_fat_start p) p.sizes.mini_fat ++ d in
    let b = run_words (directory_start p) p.sizes.directory ++ c in
    let a = replicate p.difat DIFAT_SECTOR ++ b in
    joined (replicate p.fat FAT_SECTOR) a (length-replicate p.fat FAT_SECTOR)
    (joined (replicate p.difat DIFAT_SECTOR) b (length-replicate p.difat DIFAT_SECTOR)
    (joined (run_words (directory_start p) p.sizes.directory) c (run-length (directory_start p) p.sizes.directory)
    (joined (run_words (mini_fat_start p) p.sizes.mini_fat) d (run-length (mini_fat_start p) p.sizes.mini_fat)
    (joined (run_words (mini_stream_start p) p.sizes.mini_stream) e (run-length (mini_stream_start p) p.sizes.mini_stream)
    (streams-length z (long_start p) (long_streams slots))))))

-- the list of the table's sectors
pub difat_words-length : (z : ℕ) (v : SizeOf z) (p : Plan) (k : ℕ) → length (difat_words z p k) ≡ z / 4
difat_words-length z v p k =
    let each = z / 4 - 1 in
    let n = min each (p.fat - (109 + each * k)) in
    let listed = range_with_len (109 + each * k) n in
    let long : length listed ≡ n = length-range_with_len (109 + each * k) n in
    let last = (if k + 1 == p.difat then end_word else p.fat + k + 1) ∷ [] in
    joined listed (replicate (each - length listed) FREE ++ last) long (joined (replicate (each - length listed) FREE) last (length-replicate (each - length listed) FREE) refl)
    ∙ (ap (λ m. n + (each - m + 1)) long ∙ omega (arith, (words_fill z v).1))

pub many-words : (z : ℕ) (v : SizeOf z) (f : ℕ → List ℕ) (xs : List ℕ) → ((k : ℕ) → length (f k) ≡ z / 4) → length (flat_map (λ k. words_bytes (f k)) xs) ≡ z * length xs
many-words z v f [] each = sym (mul-zero z)
many-words z v f (x ∷ xs) each = joined (words_bytes (f x)) (flat_map (λ k. words_bytes (f k)) xs) (words-length (f x) ∙ ap (λ k. 4 * k) (each x)) (many-words z v f xs each) ∙ omega (arith, (words_fill z v).0)

pub difat-length : (z : ℕ) (v : SizeOf z) (p : Plan) → length (difat_bytes z p) ≡ z * p.difat
difat-length z v p = many-words z v (difat_words z p) (range_with_len 0 p.difat) (difat_words-length z v p) ∙ ap (λ k. z * k) (length-range_with_len 0 p.difat)

-- entries have 128 bytes
pub record IsFit (s : Slot) : Type 0 where
  pub name : length s.name ≤ 31
  pub class : length s.class ≡ 16

pub units-length : (xs : List ℕ) → length (flat_map le16 xs) ≡ 2 * length xs
units-length [] = refl
units-length (x ∷ xs) = joined (le16 x) (flat_map le16 xs) {m = 2} refl (units-length xs) ∙ omega arith

pub name-length : (name : List ℕ) → length name ≤ 31 → length (name_field name) ≡ 66
name-length name few = joined (flat_map le16 name) (replicate (64 - 2 * length name) 0 ++ le16 (2 * (length name + 1))) (units-length name) (joined (replicate (64 - 2 * length name) 0) (le16 (2 * (length name + 1))) {n = 2} (length-replicate (64 - 2 * length name) 0) refl) ∙ omega (arith, few)

pub slot-length : (s : Slot) (start size : ℕ) → IsFit s → length (slot_bytes s start size) ≡ 128
slot-length s start size fit =
    let back = replicate 20 0 ++ (le32 start ++ (le32 size ++ le32 0)) in
    joined (name_field s.name) (s.kind ∷ BLACK ∷ (le32 s.left ++ (le32 s.right ++ (le32 s.child ++ (s.class ++ back))))) {n = 62} (name-length s.name fit.name) (joined (s.kind ∷ BLACK ∷ (le32 s.left ++ (le32 s.right ++ le32 s.child))) (s.class ++ back) {m = 14} {n = 48} refl (joined s.class back {n = 32} fit.class refl))

pub slots-length : (z : ℕ) (mini long : ℕ) (slots : List Slot) → AllByRecursion IsFit slots → length (slots_bytes z mini long slots) ≡ 128 * length slots
slots-length z mini long [] fit = refl
slots-length z mini long (s ∷ slots) fit = joined (slot_bytes s (start_of_slot mini long s) (length s.bytes)) _ (slot-length s (start_of_slot mini long s) (length s.bytes) fit.0) (slots-length z (if is_short s.bytes then mini + pieces 64 s.bytes else mini) (if is_long s.bytes then long + pieces z s.bytes else long) slots fit.1) ∙ omega arith

pub directory_slots-length : (z : ℕ) (p : Plan) (slots : List Slot) → AllByRecursion IsFit slots → length (directory_slots z p slots) ≡ 128 * length slots
directory_slots-length z p [] fit = refl
directory_slots-length z p (root ∷ slots) fit = joined (root_bytes p root) (slots_bytes z 0 (long_start p) slots) (slot-length root (start_or_end p.sizes.mini_sectors (mini_stream_start p)) (MINI * p.sizes.mini_sectors) fit.0) (slots-length z 0 (long_start p) slots fit.1) ∙ omega arith

pub unused-length : (xs : List ℕ) → length (flat_map (λ k. unused_slot) xs) ≡ 128 * length xs
unused-length [] = refl
unused-length (x ∷ xs) = joined unused_slot (flat_map (λ k. unused_slot) xs) {m = 128} refl (unused-length xs) ∙ omega arith

pub directory-length : (z : ℕ) (v : SizeOf z) (p : Plan) (slots : List Slot) → AllByRecursion IsFit slots → p.sizes.directory ≡ div_ceil (128 * length slots) z → length (directory_bytes z p slots) ≡ z * p.sizes.directory
directory-length z v p slots fit many =
    let fits : 128 * length slots ≤ z * p.sizes.directory = subst (λ n. 128 * length slots ≤ z * n) (sym many) (ceil_holds z v (128 * length slots)) in
    joined (directory_slots z p slots) (flat_map (λ k. unused_slot) (range_with_len 0 (z / 128 * p.sizes.directory - length slots))) (directory_slots-length z p slots fit) (unused-length (range_with_len 0 (z / 128 * p.sizes.directory - length slots)) ∙ ap (λ k. 128 * k) (length-range_with_len 0 (z / 128 * p.sizes.directory - length slots)))
    ∙ omega (arith, all_entries z v p.sizes.directory, fits)

-- ---- where the parts lie

-- so many sectors, but for the table's own and those that list them
abbrev pub rest_from : Sizes → ℕ
rest_from s = s.directory + (s.mini_fat + (s.mini_stream + s.long))

-- a plan for these entries whose table is long enough
pub record IsPlan (z : ℕ) (p : Plan) (slots : List Slot) : Type 0 where
  pub fits : AllByRecursion IsFit slots
  pub directory : p.sizes.directory ≡ div_ceil (128 * length slots) z
  pub mini_sectors : p.sizes.mini_sectors ≡ all_pieces 64 (short_streams slots)
  pub mini_fat : p.sizes.mini_fat ≡ div_ceil (4 * p.sizes.mini_sectors) z
  pub mini_stream : p.sizes.mini_stream ≡ div_ceil (64 * p.sizes.mini_sectors) z
  pub long : p.sizes.long ≡ all_pieces z (long_streams slots)
  pub difat : p.difat ≡ difat_count z p.fat
  pub enough : p.fat + p.difat + rest_of p.sizes ≤ z / 4 * p.fat

pub table-length : (z : ℕ) (p : Plan) (slots : List Slot) → IsPlan z p slots → length (table_of z p slots) ≡ z / 4 * p.fat
table-length z p slots is =
    let inner = inner-length z p slots in
    filled-words_length z p.fat (inner_words z p slots) (omega (arith, inner, is.enough, is.long))

-- the mini table has a word for each mini sector, and the mini stream has room for it
pub mini_words : (z : ℕ) (v : SizeOf z) (p : Plan) (slots : List Slot) → IsPlan z p slots → p.sizes.mini_sectors ≤ z / 4 * p.sizes.mini_fat
mini_words z v p slots is =
    let fits : 4 * p.sizes.mini_sectors ≤ z * p.sizes.mini_fat = subst (λ n. 4 * p.sizes.mini_sectors ≤ z * n) (sym is.mini_fat) (ceil_holds z v (4 * p.sizes.mini_sectors)) in
    omega (arith, fits, all_words z v p.sizes.mini_fat)

pub mini_room : (z : ℕ) (v : SizeOf z) (p : Plan) (slots : List Slot) → IsPlan z p slots → 64 * p.sizes.mini_sectors ≤ z * p.sizes.mini_stream
mini_room z v p slots is = subst (λ n. 64 * p.sizes.mini_sectors ≤ z * n) (sym is.mini_stream) (ceil_holds z v (64 * p.sizes.mini_sectors))

-- the directory has room for its entries
pub entry_room : (z : ℕ) (v : SizeOf z) (p : Plan) (slots : List Slot) → IsPlan z p slots → length slots ≤ z / 128 * p.sizes.directory
entry_room z v p slots is =
    let fits : 128 * length slots ≤ z * p.sizes.directory = subst (λ n. 128 * length slots ≤ z * n) (sym is.directory) (ceil_holds z v (128 * length slots)) in
    omega (arith, fits, all_entries z v p.sizes.directory)

pub mini_table-length : (z : ℕ) (v : SizeOf z) (p : Plan) (slots : List Slot) → IsPlan z p slots → length (mini_table_of z p slots) ≡ z / 4 * p.sizes.mini_fat
mini_table-length z v p slots is =
    let inner = streams-length 64 0 (short_streams slots) in
    let fits = mini_words z v p slots is in
    filled-words_length z p.sizes.mini_fat (stream_words 64 0 (short_streams slots)) (omega (arith, inner, fits, is.mini_sectors))

-- the parts of such a file
pub record AreParts (z : ℕ) (p : Plan) (slots : List Slot) (b : List ℕ) : Type 0 where
  pub header : Lies b 0 (header_bytes z p)
  pub table : Lies b (sector_start z 0) (words_bytes (table_of z p slots))
  pub difat : Lies b (sector_start z p.fat) (difat_bytes z p)
  pub directory : Lies b (sector_start z (directory_start p)) (directory_bytes z p slots)
  pub mini_table : Lies b (sector_start z (mini_fat_start p)) (words_bytes (mini_table_of z p slots))
  pub mini_stream : Lies b (sector_start z (mini_stream_start p)) (mini_stream_bytes z slots)
  pub long : Lies b (sector_start z (long_start p)) (long_bytes z slots)
  pub size : length b ≡ z * (1 + (p.fat + p.difat + rest_of p.sizes))

pub parts_lie : (z : ℕ) (v : SizeOf z) (p : Plan) (slots : List Slot) → IsPlan z p slots → AreParts z p slots (file_bytes z p slots)
parts_lie z v p slots is =
    let b = file_bytes z p slots in
    let h = header_bytes z p in
    let t = words_bytes (table_of z p slots) in
    let l = difat_bytes z p in
    let d = directory_bytes z p slots in
    let m = words_bytes (mini_table_of z p slots) in
    let s = mini_stream_bytes z slots in
    let x = long_bytes z slots in
    let th : length t ≡ z * p.fat = words-length (table_of z p slots) ∙ (ap (λ k. 4 * k) (table-length z p slots is) ∙ all_words z v p.fat) in
    let lh = difat-length z v p in
    let dh = directory-length z v p slots is.fits is.directory in
    let mh : length m ≡ z * p.sizes.mini_fat = words-length (mini_table_of z p slots) ∙ (ap (λ k. 4 * k) (mini_table-length z v p slots is) ∙ all_words z v p.sizes.mini_fat) in
    let sh : length s ≡ z * p.sizes.mini_stream = mini-length z v slots ∙ ap (λ k. z * k) (ap (λ k. div_ceil (64 * k) z) (sym is.mini_sectors) ∙ sym is.mini_stream) in
    let xh : length x ≡ z * p.sizes.long = all-long z v (long_streams slots) ∙ ap (λ k. z * k) (sym is.long) in
    let a0 = lies-whole b in
    let a1 = lies-back b 0 (sector_start z 0) h (t ++ (l ++ (d ++ (m ++ (s ++ x))))) (omega (arith, header-length z v p)) a0 in
    let a2 = lies-back b (sector_start z 0) (sector_start z p.fat) t (l ++ (d ++ (m ++ (s ++ x)))) (omega (arith, th)) a1 in
    let a3 = lies-back b (sector_start z p.fat) (sector_start z (directory_start p)) l (d ++ (m ++ (s ++ x))) (omega (arith, lh)) a2 in
    let a4 = lies-back b (sector_start z (directory_start p)) (sector_start z (mini_fat_start p)) d (m ++ (s ++ x)) (omega (arith, dh)) a3 in
    let a5 = lies-back b (sector_start z (mini_fat_start p)) (sector_start z (mini_stream_start p)) m (s ++ x) (omega (arith, mh)) a4 in
    let a6 = lies-back b (sector_start z (mini_stream_start p)) (sector_start z (long_start p)) s x (omega (arith, sh)) a5 in
    record {
      header = lies-front b 0 h (t ++ (l ++ (d ++ (m ++ (s ++ x))))) a0;
      table = lies-front b (sector_start z 0) t (l ++ (d ++ (m ++ (s ++ x)))) a1;
      difat = lies-front b (sector_start z p.fat) l (d ++ (m ++ (s ++ x))) a2;
      directory = lies-front b (sector_start z (directory_start p)) d (m ++ (s ++ x)) a3;
      mini_table = lies-front b (sector_start z (mini_fat_start p)) m (s ++ x) a4;
      mini_stream = lies-front b (sector_start z (mini_stream_start p)) s x a5;
      long = a6;
      size = joined h (t ++ (l ++ (d ++ (m ++ (s ++ x))))) (header-length z v p) (joined t (l ++ (d ++ (m ++ (s ++ x)))) th (joined l (d ++ (m ++ (s ++ x))) lh (joined d (m ++ (s ++ x)) dh (joined m (s ++ x) mh (joined s x sh xh))))) ∙ omega arith;
    }
