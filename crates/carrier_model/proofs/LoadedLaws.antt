-- The tables of a file, read one after another, against the lists that exist.
use Rattle.std.proofs.Common.{◌≡◌, ℕ, ◌+◌, ◌<◌, ◌≤◌, List, [], ◌++◌, length, Bool, true, false, eqb, refl, sym, ◌∙◌, ap, subst, arith, Ok, Err, Result, inl, inr}
use Rattle.std.specs.Prelude.{IsTrue}
use Rattle.std.specs.List.{IsDistinct, AllByRecursion}
use Rattle.std.specs.Int.{div_ceil}
use Rattle.std.proofs.lemmas.Bool.{eq-eqb, eqb-true, eqb-false, cond-true, cond-false, cases_Bool}
use Rattle.carrier_model.specs.Trail.{Fault}
use Rattle.carrier_model.specs.Outcomes.{◌>>=◌, check}
use Rattle.carrier_model.specs.Reasons.{FILE_TRUNCATED, BAD_ENTRY_TYPE}
use Rattle.carrier_model.specs.Chains.{member, Chain, FreshChain, chain_of, end_word}
use Rattle.carrier_model.specs.Entries.{entry_at, entry_place}
use Rattle.carrier_model.specs.Sectors.{is_size, sector_count, whole_count, table_words, word_offset}
use Rattle.carrier_model.specs.Streams.{places_of, starts_of, mini_offsets, lie_below}
use Rattle.carrier_model.specs.Tables.{header_of, difat_of, difat_count, fat_sectors_of}
use Rattle.carrier_model.specs.Loads.{Table, Tables, Mini, Loaded, no_mini, chain_bound, mini_bound, tables_of, taken_first, taken_by, long_chain_of, short_chain_of, mini_of, load_of}
use Rattle.carrier_model.specs.Holds.{AreWhole, IsTable, IsLong, IsShort, HasMini, IsLoaded}
use Rattle.carrier_model.proofs.Apart.{distinct-append, distinct-split}
use Rattle.carrier_model.proofs.OneChain.{chain_of-sound, chain_of-only}
use Rattle.carrier_model.proofs.EntryLaws.{few_entries}
use Rattle.carrier_model.proofs.TableLaws.{answered, same_answer, table_sound, table_only}
use Rattle.carrier_model.proofs.VisitLaws.{bind_ok, check_ok}

abbrev pub AreFresh : List ℕ → List ℕ → Type 0
AreFresh earlier c = AllByRecursion (λ n. member n earlier ≡ false) c

-- a chain with its bytes
pub within_ok : (r : Result (List ℕ) Fault) (inside : List ℕ → Bool) (o : ℕ) (c : List ℕ) → (r >>= λ c. check (inside c) FILE_TRUNCATED o >>= λ u. Ok c) ≡ Ok c → (r ≡ Ok c) × (inside c ≡ true)
within_ok (Err g) inside o c h = absurd (cc)
within_ok (Ok d) inside o c h =
    let p = check_ok (inside d) FILE_TRUNCATED o (λ u. Ok d) c h in
    let same : d ≡ c = same_answer d c p.1 in
    (ap (λ e. Ok e) same, rw (← same) p.0)

pub long_ok : (z : ℕ) (b : List ℕ) (t : Table) (start size o : ℕ) (e c : List ℕ) → long_chain_of z b t start size o e ≡ Ok c → IsLong z b t start size c × AreFresh e c
unfolding long_chain_of
long_ok z b t start size o e c h =
    let p = within_ok (chain_of t.words (word_offset z t.sectors) start (o + 116) (chain_bound z b t.words) (chain_bound z b t.words) (div_ceil size z) e) (λ c. lie_below (length b) (places_of z (starts_of z c) size)) (o + 120) c h in
    let f = chain_of-sound t.words (word_offset z t.sectors) start (o + 116) (chain_bound z b t.words) (chain_bound z b t.words) (div_ceil size z) e c p.0 in
    (record { chain = f.chain; enough = f.enough; within = p.1 }, f.fresh)

pub long_from : (z : ℕ) (b : List ℕ) (t : Table) (start size o : ℕ) (e c : List ℕ) → chain_bound z b t.words ≤ end_word → IsLong z b t start size c → AreFresh e c → long_chain_of z b t start size o e ≡ Ok c
unfolding long_chain_of
long_from z b t start size o e c few is fresh =
    let f : FreshChain t.words start (chain_bound z b t.words) (chain_bound z b t.words) (div_ceil size z) e c = record { chain = is.chain; all_whole = is.chain.below; fresh = fresh; enough = is.enough } in
    rw (chain_of-only t.words (word_offset z t.sectors) start (o + 116) (chain_bound z b t.words) (chain_bound z b t.words) (div_ceil size z) e c few f) (rw is.within refl)

pub short_ok : (z : ℕ) (m : Mini) (start size o : ℕ) (e c : List ℕ) → short_chain_of z m start size o e ≡ Ok c → IsShort m start size c × AreFresh e c
unfolding short_chain_of
short_ok z m start size o e c h =
    let p = within_ok (chain_of m.table.words (word_offset z m.table.sectors) start (o + 116) (mini_bound m) (mini_bound m) (div_ceil size 64) e) (λ c. lie_below m.size (places_of 64 (mini_offsets c) size)) (o + 120) c h in
    let f = chain_of-sound m.table.words (word_offset z m.table.sectors) start (o + 116) (mini_bound m) (mini_bound m) (div_ceil size 64) e c p.0 in
    (record { chain = f.chain; enough = f.enough; within = p.1 }, f.fresh)

pub short_from : (z : ℕ) (m : Mini) (start size o : ℕ) (e c : List ℕ) → mini_bound m ≤ end_word → IsShort m start size c → AreFresh e c → short_chain_of z m start size o e ≡ Ok c
unfolding short_chain_of
short_from z m start size o e c few is fresh =
    let f : FreshChain m.table.words start (mini_bound m) (mini_bound m) (div_ceil size 64) e c = record { chain = is.chain; all_whole = is.chain.below; fresh = fresh; enough = is.enough } in
    rw (chain_of-only m.table.words (word_offset z m.table.sectors) start (o + 116) (mini_bound m) (mini_bound m) (div_ceil size 64) e c few f) (rw is.within refl)

-- the tables up to the directory's chain
pub record AreTables (z : ℕ) (b : List ℕ) (t : Tables) : Type 0 where
  pub header : header_of z b ≡ Ok t.head
  pub table : IsTable z b t.head.fat_count t.difat t.table
  pub directory : Chain t.table.words t.head.directory (chain_bound z b t.table.words) t.directory
  pub some : 1 ≤ length t.directory
  pub whole : AreWhole z b t.directory
  pub apart : IsDistinct eqb (taken_first t)

pub tables_ok : (z : ℕ) (b : List ℕ) (t : Tables) → tables_of z b ≡ Ok t → AreTables z b t
unfolding tables_of
tables_ok z b t is =
    let ph = bind_ok (header_of z b) _ t is in
    let h = ph.0 in
    let pl = bind_ok (difat_of (difat_count z h.fat_count) 68 z b []) _ t ph.2 in
    let L = pl.0 in
    let pa = bind_ok (fat_sectors_of h.fat_count 0 z b L L) _ t pl.2 in
    let A = pa.0 in
    let pd = bind_ok (chain_of (table_words z b A) (word_offset z A) h.directory 48 (chain_bound z b (table_words z b A)) (whole_count z b) 1 (L ++ A)) _ t pa.2 in
    let f = chain_of-sound (table_words z b A) (word_offset z A) h.directory 48 (chain_bound z b (table_words z b A)) (whole_count z b) 1 (L ++ A) pd.0 pd.1 in
    let table = table_sound z b h.fat_count L A pl.1 pa.1 in
    let made : Tables = record { head = h; difat = L; table = record { sectors = A; words = table_words z b A }; directory = pd.0 } in
    let same : made ≡ t = same_answer made t pd.2 in
    subst (AreTables z b) same (record {
      header = ph.1;
      table = table;
      directory = f.chain;
      some = f.enough;
      whole = f.all_whole;
      apart = distinct-append (L ++ A) pd.0 table.apart f.chain.distinct f.fresh;
    })

pub tables_from : (z : ℕ) (b : List ℕ) (t : Tables) → IsTrue (is_size z) → chain_bound z b t.table.words ≤ end_word → AreTables z b t → tables_of z b ≡ Ok t
unfolding tables_of
tables_from z b t h few is =
    let two = table_only z b t.head.fat_count t.difat t.table h is.table in
    let parts = distinct-split (t.difat ++ t.table.sectors) t.directory is.apart in
    let f : FreshChain t.table.words t.head.directory (chain_bound z b t.table.words) (whole_count z b) 1 (t.difat ++ t.table.sectors) t.directory = record { chain = is.directory; all_whole = is.whole; fresh = parts.2; enough = is.some } in
    rw (is.header, two.0, two.1, ← is.table.words, chain_of-only t.table.words (word_offset z t.table.sectors) t.head.directory 48 (chain_bound z b t.table.words) (whole_count z b) 1 (t.difat ++ t.table.sectors) t.directory few f) refl

-- the mini FAT and the mini stream
pub record AreMini (z : ℕ) (b : List ℕ) (t : Table) (first start size : ℕ) (earlier : List ℕ) (m : Mini) : Type 0 where
  pub sized : m.size ≡ size
  pub empty : size ≡ 0 → m ≡ no_mini
  pub some : 0 < size → HasMini z b t first start m
  pub fresh : AreFresh earlier m.table.sectors
  pub apart : IsDistinct eqb m.table.sectors
  pub stream_fresh : AreFresh (earlier ++ m.table.sectors) m.stream
  pub stream_apart : IsDistinct eqb m.stream

mini_none : (z : ℕ) (b : List ℕ) (t : Table) (first start size : ℕ) (e : List ℕ) → size ≡ 0 → AreMini z b t first start size e no_mini
unfolding IsDistinct
mini_none z b t first start size e none = record {
  sized = sym none;
  empty = λ h. refl;
  some = λ h. absurd (omega arith);
  fresh = tt;
  apart = tt;
  stream_fresh = tt;
  stream_apart = tt;
}

some_mini : ℕ → List ℕ → Table → ℕ → ℕ → ℕ → ℕ → List ℕ → Result Mini Fault
some_mini z b t first start size o e =
    chain_of t.words (word_offset z t.sectors) first 60 (chain_bound z b t.words) (whole_count z b) 0 e >>= λ f.
    long_chain_of z b t start size o (e ++ f) >>= λ s.
    Ok (record { table = record { sectors = f; words = table_words z b f }; stream = s; size = size })

some_mini-ok : (z : ℕ) (b : List ℕ) (t : Table) (first start size o : ℕ) (e : List ℕ) (m : Mini) → (size ≡ 0 → ⊥) → some_mini z b t first start size o e ≡ Ok m → AreMini z b t first start size e m
unfolding some_mini
some_mini-ok z b t first start size o e m other is =
    let pf = bind_ok (chain_of t.words (word_offset z t.sectors) first 60 (chain_bound z b t.words) (whole_count z b) 0 e) _ m is in
    let f = chain_of-sound t.words (word_offset z t.sectors) first 60 (chain_bound z b t.words) (whole_count z b) 0 e pf.0 pf.1 in
    let ps = bind_ok (long_chain_of z b t start size o (e ++ pf.0)) _ m pf.2 in
    let l = long_ok z b t start size o (e ++ pf.0) ps.0 ps.1 in
    let made : Mini = record { table = record { sectors = pf.0; words = table_words z b pf.0 }; stream = ps.0; size = size } in
    let same : made ≡ m = same_answer made m ps.2 in
    subst (AreMini z b t first start size e) same (record {
      sized = refl;
      empty = λ none. absurd (other none);
      some = λ h. record { chain = f.chain; whole = f.all_whole; words = refl; stream = l.0 };
      fresh = f.fresh;
      apart = f.chain.distinct;
      stream_fresh = l.1;
      stream_apart = l.0.chain.distinct;
    })

pub mini_ok : (z : ℕ) (b : List ℕ) (t : Table) (first start size o : ℕ) (e : List ℕ) (m : Mini) → mini_of z b t first start size o e ≡ Ok m → AreMini z b t first start size e m
unfolding mini_of some_mini
mini_ok z b t first start size o e m is =
    elim (cases_Bool (eqb size 0)) [
      | inl none ↦
          let h : answered no_mini ≡ answered m = sym (cond-true (eqb size 0) (answered no_mini) (some_mini z b t first start size o e) none) ∙ is in
          subst (AreMini z b t first start size e) (same_answer no_mini m h) (mini_none z b t first start size e (eqb-true size 0 none))
      | inr other ↦
          some_mini-ok z b t first start size o e m (eqb-false size 0 other) (sym (cond-false (eqb size 0) (answered no_mini) (some_mini z b t first start size o e) other) ∙ is)
    ]

pub mini_from : (z : ℕ) (b : List ℕ) (t : Table) (first start size o : ℕ) (e : List ℕ) (m : Mini) → chain_bound z b t.words ≤ end_word → AreMini z b t first start size e m → mini_of z b t first start size o e ≡ Ok m
unfolding mini_of some_mini
mini_from z b t first start size o e m few is =
    elim (cases_Bool (eqb size 0)) [
      | inl none ↦ cond-true (eqb size 0) (answered no_mini) (some_mini z b t first start size o e) none ∙ ap answered (sym (is.empty (eqb-true size 0 none)))
      | inr other ↦
          let no = eqb-false size 0 other in
          let has = is.some (omega (arith, no)) in
          let f : FreshChain t.words first (chain_bound z b t.words) (whole_count z b) 0 e m.table.sectors = record { chain = has.chain; all_whole = has.whole; fresh = is.fresh; enough = omega arith } in
          cond-false (eqb size 0) (answered no_mini) (some_mini z b t first start size o e) other
          ∙ rw (chain_of-only t.words (word_offset z t.sectors) first 60 (chain_bound z b t.words) (whole_count z b) 0 e m.table.sectors few f, ← is.sized, long_from z b t start m.size o (e ++ m.table.sectors) m.stream few has.stream is.stream_fresh, ← has.words) refl
    ]

-- a file of so many bytes has few sectors
pub few_sectors : (z : ℕ) (b words : List ℕ) → IsTrue (is_size z) → length b ≤ 268435456 → chain_bound z b words ≤ 524288
few_sectors z b words h short = omega (arith, (few_entries z (sector_count z b) (length b) h (omega arith) short).0)

pub few_words : (z : ℕ) (b words : List ℕ) → IsTrue (is_size z) → length b ≤ 268435456 → chain_bound z b words ≤ end_word
few_words z b words h short = omega (arith, few_sectors z b words h short)

pub load_ok : (z : ℕ) (b : List ℕ) (s : Loaded) → load_of z b ≡ Ok s → IsLoaded z b s × IsDistinct eqb (taken_by s)
unfolding load_of
load_ok z b s is =
    let pt = bind_ok (tables_of z b) _ s is in
    let t = pt.0 in
    let o = entry_place z t.directory 0 in
    let root = entry_at z b o in
    let pk = check_ok (eqb root.kind 5) BAD_ENTRY_TYPE (o + 66) (λ u. mini_of z b t.table t.head.mini_fat root.start root.size o (taken_first t) >>= λ m. Ok (record { difat = t.difat; table = t.table; directory = t.directory; mini = m })) s pt.2 in
    let pm = bind_ok (mini_of z b t.table t.head.mini_fat root.start root.size o (taken_first t)) _ s pk.1 in
    let m = pm.0 in
    let a = tables_ok z b t pt.1 in
    let n = mini_ok z b t.table t.head.mini_fat root.start root.size o (taken_first t) m pm.1 in
    let made : Loaded = record { difat = t.difat; table = t.table; directory = t.directory; mini = m } in
    let loaded : IsLoaded z b made = record {
      head = t.head;
      header = a.header;
      table = a.table;
      directory = a.directory;
      some = a.some;
      whole = a.whole;
      root = eqb-true root.kind 5 pk.0;
      mini = record { sized = n.sized; empty = n.empty; some = n.some };
    } in
    let apart = distinct-append (taken_first t ++ m.table.sectors) m.stream (distinct-append (taken_first t) m.table.sectors a.apart n.apart n.fresh) n.stream_apart n.stream_fresh in
    subst (λ s. IsLoaded z b s × IsDistinct eqb (taken_by s)) (same_answer made s pm.2) (loaded, apart)

pub load_from : (z : ℕ) (b : List ℕ) (s : Loaded) → IsTrue (is_size z) → length b ≤ 268435456 → IsLoaded z b s → IsDistinct eqb (taken_by s) → load_of z b ≡ Ok s
unfolding load_of
load_from z b s h short is apart =
    let few = few_words z b s.table.words h short in
    let t : Tables = record { head = is.head; difat = s.difat; table = s.table; directory = s.directory } in
    let o = entry_place z t.directory 0 in
    let root = entry_at z b o in
    let two = distinct-split (taken_first t ++ s.mini.table.sectors) s.mini.stream apart in
    let one = distinct-split (taken_first t) s.mini.table.sectors two.0 in
    let a : AreTables z b t = record { header = is.header; table = is.table; directory = is.directory; some = is.some; whole = is.whole; apart = one.0 } in
    let n : AreMini z b t.table t.head.mini_fat root.start root.size (taken_first t) s.mini = record { sized = is.mini.sized; empty = is.mini.empty; some = is.mini.some; fresh = one.2; apart = one.1; stream_fresh = two.2; stream_apart = two.1 } in
    rw (tables_from z b t h few a, eq-eqb root.kind 5 is.root, mini_from z b t.table t.head.mini_fat root.start root.size o (taken_first t) s.mini few n) refl
