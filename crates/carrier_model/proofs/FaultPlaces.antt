-- The fault of a compound file stands in it, or not far behind its end.
use Rattle.std.proofs.Common.{◌≡◌, ℕ, zero, suc, ◌+◌, ◌-◌, ◌*◌, ◌/◌, ◌%◌, ◌<◌, ◌≤◌, Bool, true, false, not, cond, ltb, eqb, List, [], ◌∷◌, ◌++◌, length, get_or, Option, Some, None, Result, Ok, Err, refl, sym, ap, subst, arith}
use Rattle.std.specs.Prelude.{is_some, nat_le, ◌&&◌}
use Rattle.std.specs.Option.{option_or}
use Rattle.std.specs.Int.{div_ceil}
use Rattle.std.proofs.lemmas.Bool.{ltb-true}
use Rattle.carrier_model.specs.Chains.{member, end_word, longest, after, named_at, chain_of}
use Rattle.carrier_model.specs.Entries.{Entry, entry_at, entry_place}
use Rattle.carrier_model.specs.Files.{Children, none, storage, stream, Files, Tag, all_families, stream_ids, directory_in, family_names, names_of, claims_of, opened_of, open_file, tree_of, first_link, is_among, folded, name_of}
use Rattle.carrier_model.specs.Holds.{AreWhole, IsLoaded}
use Rattle.carrier_model.specs.Links.{Directory, Link, Links, leaf, node, ids, is_storage, has_type, has_name, fits_depth, links_of, visited, visit, left_of, right_of, below_of, no_link}
use Rattle.carrier_model.specs.Loads.{Table, Mini, chain_bound, mini_bound, Loaded, tables_of, long_chain_of, short_chain_of, mini_of, load_of, claim_of, is_long, long_part, short_part, stream_of, taken_first, taken_by, no_mini}
use Rattle.carrier_model.specs.Lookups.{stream_named, size_place_at, same_name}
use Rattle.carrier_model.specs.Outcomes.{◌>>=◌, check, mapped}
use Rattle.carrier_model.specs.Reasons.{BAD_FILE_SIGNATURE, BAD_VERSION, BAD_HEADER, BAD_FAT_COUNT, SECTOR_OUT_OF_RANGE, CYCLE, SHARED, FILE_TRUNCATED, BAD_ENTRY_TYPE, BAD_NAME, ENTRY_SHARED, ENTRY_OUT_OF_RANGE, DOUBLE_NAME, STORAGE_TOO_DEEP, STORE_IS_MESSAGE, STORE_TOO_DEEP}
use Rattle.carrier_model.specs.Sectors.{sector_start, sector_count, whole_count, word_offset, table_words, u16_of, u32_of}
use Rattle.carrier_model.specs.Stores.{PROPERTIES, MOST_STORAGES, deep_place, shallow, store_in, store_file}
use Rattle.carrier_model.specs.Streams.{Stream, starts_of, places_of, mini_offsets, lie_below}
use Rattle.carrier_model.specs.Tables.{header_of, is_signature, major, sector_shift, sector_of, difat_of, difat_count, fat_place, fat_sectors_of, sector_size}
use Rattle.carrier_model.specs.Trail.{Fault}
use Rattle.carrier_model.proofs.HoldsLaws.{open_sound, size_known}
use Rattle.carrier_model.proofs.LoadedLaws.{tables_ok, load_ok}
use Rattle.carrier_model.proofs.Sizes.{SizeOf, version3, version4, size_of}
use Rattle.carrier_model.proofs.TableLaws.{all-split, sector_of-ok, difat_of-ok, fat_of-ok}

-- a fault that is answered stands no further than at n
record Low {A : Type 0} (n : ℕ) (r : Result A Fault) : Type 0 where
  low : (g : Fault) → r ≡ Err g → g.1 ≤ n

low_ok : {A : Type 0} (n : ℕ) (x : A) → Low n (Ok x)
low_ok n x = record { low = λ g e. absurd cc }

low_err : {A : Type 0} (n why p : ℕ) → p ≤ n → Low {A = A} n (Err (why, p))
low_err {A} n why p le = record { low = λ g e. (let h : (why, p) ≡ g = same g e in omega (arith, le, ap (λ (x : Fault). x.1) h)) }
  where
    same : (g : Fault) → (let r : Result A Fault = Err (why, p) in r ≡ Err g) → (why, p) ≡ g
    same g e = cc

low_bind : {A B : Type 0} (n : ℕ) (r : Result A Fault) (f : A → Result B Fault) → Low n r → ((x : A) → r ≡ Ok x → Low n (f x)) → Low n (r >>= f)
low_bind n (Ok x) f l h = h x refl
low_bind {A} n (Err g) f l h = record { low = λ g' e. l.low g' (let same : g ≡ g' = cc in ap Err same) }

low_then : {B : Type 0} (n : ℕ) (t : Bool) (why p : ℕ) (f : Unit {0} → Result B Fault) → p ≤ n → Low n (f tt) → Low n (check t why p >>= f)
low_then n true why p f le l = l
low_then n false why p f le l = low_err n why p le

low_mapped : {A B : Type 0} (n : ℕ) (f : A → B) (r : Result A Fault) → Low n r → Low n (mapped f r)
low_mapped n f (Ok x) l = low_ok n (f x)
low_mapped n f (Err g) l = record { low = λ g' e. l.low g' (let same : g ≡ g' = cc in ap Err same) }

low_cond : {A : Type 0} (n : ℕ) (b : Bool) (x y : Result A Fault) → Low n x → Low n y → Low n (cond b x y)
low_cond n true x y l m = l
low_cond n false x y l m = m

-- ---- sectors

whole_low : (z k len : ℕ) → SizeOf z → k < (len - z) / z → sector_start z k + z ≤ len
whole_low _ k len version3 lt = omega (arith, lt)
whole_low _ k len version4 lt = omega (arith, lt)

first_low : (z : ℕ) → SizeOf z → sector_start z 0 + z ≤ 8192
first_low _ version3 = omega arith
first_low _ version4 = omega arith

at_low : (z : ℕ) (b A : List ℕ) (i : ℕ) → SizeOf z → AreWhole z b A → sector_start z (get_or A i 0) + z ≤ length b + 8192
at_low z b [] i v h = omega (arith, first_low z v)
at_low z b (x ∷ A) zero v h = omega (arith, whole_low z x (length b) v h.0)
at_low z b (x ∷ A) (suc i) v h = at_low z b A i v h.1

word_low : (z : ℕ) (b A : List ℕ) (m : ℕ) → SizeOf z → AreWhole z b A → word_offset z A m ≤ length b + 8192
unfolding word_offset
word_low z b A m v h = omega (arith, at_low z b A (m / (z / 4)) v h, inside z v)
  where
    inside : (z : ℕ) → SizeOf z → 4 * (m % (z / 4)) ≤ z
    inside _ version3 = omega arith
    inside _ version4 = omega arith

start_low : (z : ℕ) (b c : List ℕ) (i : ℕ) → SizeOf z → AreWhole z b c → get_or (starts_of z c) i 0 ≤ length b
start_low z b [] i v h = omega arith
start_low z b (x ∷ c) zero v h = omega (arith, whole_low z x (length b) v h.0)
start_low z b (x ∷ c) (suc i) v h = start_low z b c i v h.1

entry_low : (z : ℕ) (b c : List ℕ) (id : ℕ) → SizeOf z → AreWhole z b c → entry_place z c id ≤ length b + 4096
entry_low z b c id v h = omega (arith, start_low z b c (128 * id / z) v h, inside z v)
  where
    inside : (z : ℕ) → SizeOf z → (128 * id) % z ≤ 4096
    inside _ version3 = omega arith
    inside _ version4 = omega arith

-- ---- the tables

header_low : (n z : ℕ) (b : List ℕ) → length b + 8192 ≤ n → Low n (header_of z b)
unfolding header_of
header_low n z b room =
    low_then n (nat_le 512 (length b)) FILE_TRUNCATED (length b) _ (omega (arith, room)) (
    low_then n (is_signature b) BAD_FILE_SIGNATURE 0 _ (omega arith) (
    low_then n (eqb (u16_of b 26) (major z)) BAD_VERSION 26 _ (omega (arith, room)) (
    low_then n (eqb (u16_of b 28) 65534) BAD_HEADER 28 _ (omega (arith, room)) (
    low_then n (eqb (u16_of b 30) (sector_shift z)) BAD_HEADER 30 _ (omega (arith, room)) (
    low_then n (eqb (u16_of b 32) 6) BAD_HEADER 32 _ (omega (arith, room)) (
    low_then n (eqb (u32_of b 56) 4096) BAD_HEADER 56 _ (omega (arith, room)) (
    low_then n (nat_le 1 (u32_of b 44) && nat_le (u32_of b 44) (sector_count z b)) BAD_FAT_COUNT 44 _ (omega (arith, room)) (low_ok n _))))))))

sector_low : (n z : ℕ) (b : List ℕ) (p why : ℕ) (e : List ℕ) → p ≤ n → Low n (sector_of z b p why e)
unfolding sector_of
sector_low n z b p why e le =
    low_then n (ltb (u32_of b p) (sector_count z b)) SECTOR_OUT_OF_RANGE p _ le (
    low_then n (not (member (u32_of b p) e)) why p _ le (
    low_then n (ltb (u32_of b p) (whole_count z b)) FILE_TRUNCATED p _ le (low_ok n (u32_of b p))))

difat_low : (k n p z : ℕ) (b e : List ℕ) → SizeOf z → length b + 8192 ≤ n → p ≤ n → Low n (difat_of k p z b e)
unfolding difat_of
difat_low zero n p z b e v room le = low_ok n _
difat_low (suc k) n p z b e v room le =
    low_bind n (sector_of z b p CYCLE e) _ (sector_low n z b p CYCLE e le) (λ m is.
    low_bind n (difat_of k (sector_start z m + (z - 4)) z b (e ++ m ∷ [])) _ (difat_low k n (sector_start z m + (z - 4)) z b (e ++ m ∷ []) v room (omega (arith, room, whole_low z m (length b) v (sector_of-ok z b p CYCLE e m is).2))) (λ rest more. low_ok n (m ∷ rest)))

place_low : (z : ℕ) (b L : List ℕ) (i : ℕ) → SizeOf z → AreWhole z b L → fat_place z L i ≤ length b + 8192
place_low z b L i v h = by (ltb i 109) refl
  where
    inside : (z : ℕ) → SizeOf z → 4 * ((i - 109) % (z / 4 - 1)) ≤ z
    inside _ version3 = omega arith
    inside _ version4 = omega arith

    by : (t : Bool) → ltb i 109 ≡ t → cond t (76 + 4 * i) (sector_start z (get_or L ((i - 109) / (z / 4 - 1)) 0) + 4 * ((i - 109) % (z / 4 - 1))) ≤ length b + 8192
    by true e = omega (arith, ltb-true i 109 e)
    by false e = omega (arith, at_low z b L ((i - 109) / (z / 4 - 1)) v h, inside z v)

fat_low : (k n i z : ℕ) (b L e : List ℕ) → SizeOf z → length b + 8192 ≤ n → AreWhole z b L → Low n (fat_sectors_of k i z b L e)
unfolding fat_sectors_of
fat_low zero n i z b L e v room h = low_ok n _
fat_low (suc k) n i z b L e v room h =
    low_bind n (sector_of z b (fat_place z L i) SHARED e) _ (sector_low n z b (fat_place z L i) SHARED e (omega (arith, room, place_low z b L i v h))) (λ m is.
    low_bind n (fat_sectors_of k (i + 1) z b L (e ++ m ∷ [])) _ (fat_low k n (i + 1) z b L (e ++ m ∷ []) v room h) (λ rest more. low_ok n (m ∷ rest)))

named_low : (at : ℕ → ℕ) (n field : ℕ) (c : List ℕ) → field ≤ n → ((m : ℕ) → at m ≤ n) → named_at at field c ≤ n
named_low at n field [] le h = le
named_low at n field (x ∷ c) le h = named_low at n (at x) c (h x) h

chain_low : (n : ℕ) (T : List ℕ) (at : ℕ → ℕ) (s field bound whole need : ℕ) (e : List ℕ) → field ≤ n → ((m : ℕ) → at m ≤ n) → Low n (chain_of T at s field bound whole need e)
unfolding chain_of
chain_low n T at s field bound whole need e le h =
    let c = longest bound T s bound whole e in
    let p = named_low at n field c le h in
    low_cond n (eqb (after T s c) end_word) _ _ (low_cond n (ltb (length c) need) _ _ (low_err n _ _ p) (low_ok n c)) (low_err n _ _ p)

tables_low : (n z : ℕ) (b : List ℕ) → SizeOf z → length b + 8192 ≤ n → Low n (tables_of z b)
unfolding tables_of
tables_low n z b v room =
    low_bind n (header_of z b) _ (header_low n z b room) (λ h of_h.
    low_bind n (difat_of (difat_count z h.fat_count) 68 z b []) _ (difat_low (difat_count z h.fat_count) n 68 z b [] v room (omega (arith, room))) (λ L of_L.
    low_bind n (fat_sectors_of h.fat_count 0 z b L L) _ (fat_low h.fat_count n 0 z b L L v room (difat_of-ok (difat_count z h.fat_count) 68 z b [] L of_L).3) (λ A of_A.
    low_bind n (chain_of (table_words z b A) (word_offset z A) h.directory 48 (chain_bound z b (table_words z b A)) (whole_count z b) 1 (L ++ A)) _
    (chain_low n (table_words z b A) (word_offset z A) h.directory 48 (chain_bound z b (table_words z b A)) (whole_count z b) 1 (L ++ A) (omega (arith, room)) (λ m. omega (arith, room, word_low z b A m v (fat_of-ok h.fat_count 0 z b L L A of_A).2)))
    (λ D of_D. low_ok n _))))

-- ---- streams

within_low : (n : ℕ) (r : Result (List ℕ) Fault) (inside : List ℕ → Bool) (o : ℕ) → o ≤ n → Low n r → Low n (r >>= λ c. check (inside c) FILE_TRUNCATED o >>= λ within. Ok c)
within_low n r inside o le l = low_bind n r (λ c. check (inside c) FILE_TRUNCATED o >>= λ within. Ok c) l (λ c is. low_then n (inside c) FILE_TRUNCATED o (λ within. Ok c) le (low_ok n c))

long_low : (n z : ℕ) (b : List ℕ) (t : Table) (start size o : ℕ) (e : List ℕ) → SizeOf z → length b + 8192 ≤ n → o + 120 ≤ n → AreWhole z b t.sectors → Low n (long_chain_of z b t start size o e)
unfolding long_chain_of
long_low n z b t start size o e v room le h =
    within_low n (chain_of t.words (word_offset z t.sectors) start (o + 116) (chain_bound z b t.words) (chain_bound z b t.words) (div_ceil size z) e) (λ c. lie_below (length b) (places_of z (starts_of z c) size)) (o + 120) le
    (chain_low n t.words (word_offset z t.sectors) start (o + 116) (chain_bound z b t.words) (chain_bound z b t.words) (div_ceil size z) e (omega (arith, le)) (λ m. omega (arith, room, word_low z b t.sectors m v h)))

short_low : (n z : ℕ) (b : List ℕ) (m : Mini) (start size o : ℕ) (e : List ℕ) → SizeOf z → length b + 8192 ≤ n → o + 120 ≤ n → AreWhole z b m.table.sectors → Low n (short_chain_of z m start size o e)
unfolding short_chain_of
short_low n z b m start size o e v room le h =
    within_low n (chain_of m.table.words (word_offset z m.table.sectors) start (o + 116) (mini_bound m) (mini_bound m) (div_ceil size 64) e) (λ c. lie_below m.size (places_of 64 (mini_offsets c) size)) (o + 120) le
    (chain_low n m.table.words (word_offset z m.table.sectors) start (o + 116) (mini_bound m) (mini_bound m) (div_ceil size 64) e (omega (arith, le)) (λ k. omega (arith, room, word_low z b m.table.sectors k v h)))

mini_low : (n z : ℕ) (b : List ℕ) (t : Table) (first start size o : ℕ) (e : List ℕ) → SizeOf z → length b + 8192 ≤ n → o + 120 ≤ n → AreWhole z b t.sectors → Low n (mini_of z b t first start size o e)
unfolding mini_of
mini_low n z b t first start size o e v room le h =
    low_cond n (eqb size 0) (Ok no_mini) _ (low_ok n no_mini) (
    low_bind n (chain_of t.words (word_offset z t.sectors) first 60 (chain_bound z b t.words) (whole_count z b) 0 e) _
    (chain_low n t.words (word_offset z t.sectors) first 60 (chain_bound z b t.words) (whole_count z b) 0 e (omega (arith, room)) (λ m. omega (arith, room, word_low z b t.sectors m v h)))
    (λ f of_f. low_bind n (long_chain_of z b t start size o (e ++ f)) _ (long_low n z b t start size o (e ++ f) v room le h) (λ s of_s. low_ok n _)))

load_low : (n z : ℕ) (b : List ℕ) → SizeOf z → length b + 8192 ≤ n → Low n (load_of z b)
unfolding load_of
load_low n z b v room =
    low_bind n (tables_of z b) _ (tables_low n z b v room) (λ t of_t.
    let is = tables_ok z b t of_t in
    let o = entry_place z t.directory 0 in
    let root = entry_at z b o in
    let le : o ≤ length b + 4096 = entry_low z b t.directory 0 v is.whole in
    low_then n (eqb root.kind 5) BAD_ENTRY_TYPE (o + 66) _ (omega (arith, room, le)) (
    low_bind n (mini_of z b t.table t.head.mini_fat root.start root.size o (taken_first t)) _ (mini_low n z b t.table t.head.mini_fat root.start root.size o (taken_first t) v room (omega (arith, room, le)) (all-split (λ k. k < whole_count z b) t.difat t.table.sectors is.table.whole).1)
    (λ m of_m. low_ok n _)))

claim_low : (n z : ℕ) (b : List ℕ) (s : Loaded) (e : Entry) (o : ℕ) (long short : List ℕ) → SizeOf z → length b + 8192 ≤ n → o + 120 ≤ n → AreWhole z b s.table.sectors → AreWhole z b s.mini.table.sectors → Low n (claim_of z b s e o long short)
unfolding claim_of
claim_low n z b s e o long short v room le h g =
    low_cond n (eqb e.size 0) (Ok []) _ (low_ok n []) (
    low_cond n (is_long e) (long_chain_of z b s.table e.start e.size o long) (short_chain_of z s.mini e.start e.size o short)
    (long_low n z b s.table e.start e.size o long v room le h)
    (short_low n z b s.mini e.start e.size o short v room le g))

claims_low : (n z : ℕ) (b : List ℕ) (s : Loaded) (d : Directory) (ids long short : List ℕ) → SizeOf z → length b + 8192 ≤ n → ((id : ℕ) → d.place id + 120 ≤ n) → AreWhole z b s.table.sectors → AreWhole z b s.mini.table.sectors → Low n (claims_of z b s d ids long short)
unfolding claims_of
claims_low n z b s d [] long short v room le h g = low_ok n []
claims_low n z b s d (id ∷ rest) long short v room le h g =
    low_bind n (claim_of z b s (d.entry id) (d.place id) long short) _ (claim_low n z b s (d.entry id) (d.place id) long short v room (le id) h g) (λ c of_c.
    low_bind n (claims_of z b s d rest (long ++ long_part (d.entry id) c) (short ++ short_part (d.entry id) c)) _ (claims_low n z b s d rest (long ++ long_part (d.entry id) c) (short ++ short_part (d.entry id) c) v room le h g) (λ more of_more. low_ok n _))

-- ---- the directory

visited_low : (n : ℕ) (d : Directory) (link : Link) (seen : List ℕ) → link.place ≤ n → ((id : ℕ) → d.place id + 120 ≤ n) → Low n (visited d link seen)
unfolding visited
visited_low n d link seen place le =
    low_then n (ltb link.target d.count) ENTRY_OUT_OF_RANGE link.place _ place (
    low_then n (not (member link.target seen)) ENTRY_SHARED link.place _ place (
    low_then n (has_type (d.entry link.target)) BAD_ENTRY_TYPE (d.place link.target + 66) _ (omega (arith, le link.target)) (
    low_then n (has_name (d.entry link.target)) BAD_NAME (d.place link.target + 64) _ (omega (arith, le link.target)) (
    low_then n (fits_depth (d.entry link.target) link.depth) STORAGE_TOO_DEEP (d.place link.target + 66) _ (omega (arith, le link.target)) (low_ok n _)))))

visit_low : (k n : ℕ) (d : Directory) (link : Link) (seen : List ℕ) → link.place ≤ n → ((id : ℕ) → d.place id + 120 ≤ n) → Low n (visit k d link seen)
unfolding visit
visit_low zero n d link seen place le = low_ok n leaf
visit_low (suc k) n d link seen place le =
    low_cond n (eqb link.target no_link) (Ok leaf) _ (low_ok n leaf) (
    low_bind n (visited d link seen) _ (visited_low n d link seen place le) (λ e of_e.
    low_bind n (visit k d (left_of d link) (seen ++ link.target ∷ [])) _ (visit_low k n d (left_of d link) (seen ++ link.target ∷ []) (omega (arith, le link.target)) le) (λ l of_l.
    low_bind n (visit k d (right_of d link) ((seen ++ link.target ∷ []) ++ ids l)) _ (visit_low k n d (right_of d link) ((seen ++ link.target ∷ []) ++ ids l) (omega (arith, le link.target)) le) (λ r of_r.
    low_bind n (visit k d (below_of d link) (((seen ++ link.target ∷ []) ++ ids l) ++ ids r)) _ (visit_low k n d (below_of d link) (((seen ++ link.target ∷ []) ++ ids l) ++ ids r) (omega (arith, le link.target)) le) (λ c of_c. low_ok n _)))))

family_low : (n : ℕ) (d : Directory) (family : List ℕ) (earlier : List (List ℕ)) → ((id : ℕ) → d.place id + 120 ≤ n) → Low n (family_names d family earlier)
unfolding family_names
family_low n d [] earlier le = low_ok n tt
family_low n d (id ∷ rest) earlier le =
    low_then n (not (is_among (folded (name_of (d.entry id))) earlier)) DOUBLE_NAME (d.place id) _ (omega (arith, le id)) (family_low n d rest (earlier ++ folded (name_of (d.entry id)) ∷ []) le)

names_low : (n : ℕ) (d : Directory) (families : List (List ℕ)) → ((id : ℕ) → d.place id + 120 ≤ n) → Low n (names_of d families)
unfolding names_of
names_low n d [] le = low_ok n tt
names_low n d (family ∷ rest) le = low_bind n (family_names d family []) _ (family_low n d family [] le) (λ apart of_apart. names_low n d rest le)

-- ---- whole files

mini_whole : (z : ℕ) (b : List ℕ) (s : Loaded) → IsLoaded z b s → AreWhole z b s.mini.table.sectors
mini_whole z b s is = by ((directory_in z b s.directory).entry 0).size refl
  where
    root : Entry
    root = (directory_in z b s.directory).entry 0

    by : (k : ℕ) → root.size ≡ k → AreWhole z b s.mini.table.sectors
    by zero e = subst (λ (m : Mini). AreWhole z b m.table.sectors) (sym (is.mini.empty e)) tt
    by (suc k) e = (is.mini.some (omega (arith, e))).whole

opened_low : (n z : ℕ) (b : List ℕ) → SizeOf z → length b + 8192 ≤ n → Low n (opened_of z b)
unfolding opened_of
opened_low n z b v room =
    low_bind n (load_of z b) _ (load_low n z b v room) (λ s of_s.
    let is = (load_ok z b s of_s).0 in
    let d = directory_in z b s.directory in
    let le : (id : ℕ) → d.place id + 120 ≤ n = λ id. omega (arith, room, entry_low z b s.directory id v is.whole) in
    low_bind n (links_of d (first_link d) (0 ∷ [])) _ (visit_low (suc d.count) n d (first_link d) (0 ∷ []) (omega (arith, le 0)) le) (λ t of_t.
    low_bind n (names_of d (all_families t)) _ (names_low n d (all_families t) le) (λ apart of_apart.
    low_bind n (claims_of z b s d (stream_ids d t) (taken_by s) []) _ (claims_low n z b s d (stream_ids d t) (taken_by s) [] v room le (all-split (λ k. k < whole_count z b) s.difat s.table.sectors is.table.whole).1 (mini_whole z b s is)) (λ claims of_claims. low_ok n _))))

open_low : (n : ℕ) (b : List ℕ) → length b + 8192 ≤ n → Low n (open_file b)
open_low n b room = low_mapped n _ (opened_of (sector_size b) b) (opened_low n (sector_size b) b (size_of (sector_size b) (size_known b)) room)

-- ---- stores

-- each entry of the children lies no further than at n
abbrev AllLow : ℕ → Children → Type 0
AllLow n none = Unit {0}
AllLow n (storage tag below rest) = (tag.place ≤ n) × AllLow n below × AllLow n rest
AllLow n (stream tag x rest) = (tag.place ≤ n) × AllLow n rest

tree_low : (n : ℕ) (d : Directory) (streams : ℕ → Stream) (t : Links) (rest : Children) → ((id : ℕ) → d.place id ≤ n) → AllLow n rest → AllLow n (tree_of d streams t rest)
tree_low n d streams leaf rest le h = h
tree_low n d streams (node id l r c) rest le h = tree_low n d streams l _ le (by (is_storage (d.entry id)) (tree_low n d streams c none le tt) (tree_low n d streams r rest le h))
  where
    tag : Tag
    tag = record { name = name_of (d.entry id); id = id; place = d.place id; class = (d.entry id).class }

    by : (b : Bool) → AllLow n (tree_of d streams c none) → AllLow n (tree_of d streams r rest) → AllLow n (cond b (storage tag (tree_of d streams c none) (tree_of d streams r rest)) (stream tag (streams id) (tree_of d streams r rest)))
    by true below after = (le id, below, after)
    by false below after = (le id, after)

named_place : (n : ℕ) (c : Children) (name : List ℕ) → AllLow n c → size_place_at (stream_named c name) ≤ n + 120
named_place n none name h = omega arith
named_place n (storage tag below rest) name h = named_place n rest name h.2
named_place n (stream tag x rest) name h = by (same_name tag.name name) (named_place n rest name h.1)
  where
    by : (b : Bool) → size_place_at (stream_named rest name) ≤ n + 120 → size_place_at (cond b (Some (record { stream = x; entry = tag.place })) (stream_named rest name)) ≤ n + 120
    by true later = omega (arith, h.0)
    by false later = later

deep_low : (n most : ℕ) (c : Children) → AllLow n c → Low (n + 66) (shallow (deep_place most c))
deep_low n most none h = low_ok (n + 66) tt
deep_low n most (stream tag x rest) h = deep_low n most rest h.1
deep_low n zero (storage tag below rest) h = low_err (n + 66) STORE_TOO_DEEP (tag.place + 66) (omega (arith, h.0))
deep_low n (suc most) (storage tag below rest) h = by (deep_place most below) (deep_low n most below h.1) (deep_low n (suc most) rest h.2)
  where
    by : (o : Option ℕ) → Low (n + 66) (shallow o) → Low (n + 66) (shallow (deep_place (suc most) rest)) → Low (n + 66) (shallow (option_or o (deep_place (suc most) rest)))
    by None l later = later
    by (Some place) l later = l

children_low : (b : List ℕ) (root : Files) → open_file b ≡ Ok root → AllLow (length b + 4096) root.children
children_low b root e =
    let z = sector_size b in
    let is = open_sound z b root e in
    let d = directory_in z b is.loaded.directory in
    subst (λ (f : Files). AllLow (length b + 4096) f.children) (sym is.is_tree)
    (tree_low (length b + 4096) d (λ id. stream_of z b is.loaded (d.entry id) (is.chain id)) is.links none (λ id. entry_low z b is.loaded.directory id (size_of z (size_known b)) is.tables.whole) tt)

less : {A : Type 0} (m n : ℕ) (r : Result A Fault) → m ≤ n → Low m r → Low n r
less m n r le l = record { low = λ g e. omega (arith, le, l.low g e) }

store_low : (b : List ℕ) → Low (length b + 8192) (store_file b)
unfolding store_file store_in
store_low b =
    let n = length b + 8192 in
    low_bind n (open_file b) _ (open_low n b (omega arith)) (λ root of_root.
    let h = children_low b root of_root in
    let found = stream_named root.children PROPERTIES in
    low_then n (not (is_some found)) STORE_IS_MESSAGE (size_place_at found) _ (omega (arith, named_place (length b + 4096) root.children PROPERTIES h)) (
    low_bind n (shallow (deep_place MOST_STORAGES root.children)) _ (less (length b + 4096 + 66) n (shallow (deep_place MOST_STORAGES root.children)) (omega arith) (deep_low (length b + 4096) MOST_STORAGES root.children h)) (λ fits of_fits. low_ok n _)))

-- the fault of a store's file
pub store_fault_low : (b : List ℕ) (g : Fault) → store_file b ≡ Err g → g.1 ≤ length b + 8192
store_fault_low b g e = (store_low b).low g e
