-- The names that a .msg file gives are its pairs.
use Rattle.std.proofs.Common.{◌≡◌, ℕ, ◌+◌, ◌-◌, ◌≤◌, List, [], ◌∷◌, ◌++◌, length, map, Bool, true, false, eqb, Ok, Option, Some, None, refl, sym, ap, subst, ◌∙◌, append_assoc, inl, inr, arith}
use Rattle.std.specs.Prelude.{◌==◌, ◌≢◌, if◌then◌else◌, filter_map, nat_le, get_or}
use Rattle.std.specs.List.{AllByRecursion, IsDistinct}
use Rattle.std.proofs.lemmas.Bool.{cond-true, cond-false, eqb-true, eqb-false, eq-eqb, ne_eqb, le-leb, leb-true, and_parts, and_from, not-true, not_from_false}
use Rattle.std.proofs.lemmas.List.{map-append, append-nil}
use Rattle.carrier_model.specs.Reasons.{BAD_GUID_INDEX, BAD_NAME_OFFSET, BAD_NAME_LENGTH, DOUBLE_ID, BAD_PROPERTY_INDEX}
use Rattle.carrier_model.specs.Outcomes.{mapped}
use Rattle.carrier_model.specs.Chains.{member}
use Rattle.carrier_model.specs.Sectors.{u32_of}
use Rattle.carrier_model.specs.Streams.{Stream}
use Rattle.carrier_model.specs.Keys.{Name, numbered, texted}
use Rattle.carrier_model.specs.Turns.{in_turn}
use Rattle.carrier_model.proofs.Turns.{AllGive, ok_same, bind_ok, bind_from, check_ok, check_from, mapped_ok, in_turn-sound, in_turn-only}
use Rattle.msg_model.specs.NameMap.{NameStreams, NameEntry, name_entries, is_text, set_index, property_index, set_at, has_set, is_text_size, text_at, name_of, Given, named_by, is_new_index, given_by, Pair, pair_in, pairs_of, IsTextAt, StandsFor, ArePairs, NamePairs}
use Rattle.carrier_model.proofs.Apart.{distinct-append, distinct-split}

-- ---- one text, one name

text_at-sound : (texts : Stream) (at place : ℕ) (units : List ℕ) → text_at texts at place ≡ Ok units → IsTextAt texts.bytes at units
unfolding text_at
text_at-sound texts at place units h =
    let a = check_ok _ BAD_NAME_OFFSET place _ units h in
    let b = check_ok (is_text_size (length texts.bytes - (at + 4)) (u32_of texts.bytes at)) BAD_NAME_LENGTH (get_or texts.places at 0) _ units a.1 in
    let (even, more) = and_parts _ _ b.0 in
    let (few, whole) = and_parts _ _ more in
    let inside : at + 4 ≤ length texts.bytes = leb-true _ _ a.0 in
    let room : u32_of texts.bytes at ≤ length texts.bytes - (at + 4) = leb-true _ _ whole in
    record { inside = inside; even = eqb-true _ _ even; few = leb-true _ _ few; whole = omega arith; is = ok_same (Ok _) _ units refl b.1 }

text_at-only : (texts : Stream) (at place : ℕ) (units : List ℕ) → IsTextAt texts.bytes at units → text_at texts at place ≡ Ok units
unfolding text_at
text_at-only texts at place units h =
    let room : u32_of texts.bytes at ≤ length texts.bytes - (at + 4) = omega (arith, h.whole, h.inside) in
    check_from _ BAD_NAME_OFFSET place _ (le-leb _ _ h.inside)
    ∙ (check_from (is_text_size (length texts.bytes - (at + 4)) (u32_of texts.bytes at)) BAD_NAME_LENGTH (get_or texts.places at 0) _ (and_from _ _ (eq-eqb _ _ h.even) (and_from _ _ (le-leb _ _ h.few) (le-leb _ _ room)))
    ∙ ap Ok (sym h.is))

-- the name's set is known in either case
name_of-sound : (s : NameStreams) (e : NameEntry) (n : Name) → name_of s e ≡ Ok n → StandsFor s e n
unfolding name_of
name_of-sound s e n h =
    let a = check_ok (has_set s.guids.bytes (set_index e)) BAD_GUID_INDEX e.place _ n h in
    by (is_text e) refl n a.0 a.1
  where
    set : List ℕ
    set = set_at s.guids.bytes (set_index e)

    by : (b : Bool) → is_text e ≡ b → (n : Name) → has_set s.guids.bytes (set_index e) ≡ true → (if b then mapped (texted set) (text_at s.texts e.identifier e.place) else Ok (numbered set e.identifier)) ≡ Ok n → StandsFor s e n
    by true is n known h = let (units, there, same) = mapped_ok (texted set) _ n h in subst (StandsFor s e) (sym same) (is, known, refl, text_at-sound s.texts e.identifier e.place units there)
    by false is n known h = subst (StandsFor s e) (sym (ok_same (Ok _) (numbered set e.identifier) n refl h)) (is, known, refl, refl)

name_of-only : (s : NameStreams) (e : NameEntry) (n : Name) → StandsFor s e n → name_of s e ≡ Ok n
unfolding name_of
name_of-only s e (numbered set number) (kind, known, is, same) =
    check_from (has_set s.guids.bytes (set_index e)) BAD_GUID_INDEX e.place _ known
    ∙ (cond-false (is_text e) _ _ kind ∙ (rw (is, same) refl))
name_of-only s e (texted set units) (kind, known, is, there) =
    check_from (has_set s.guids.bytes (set_index e)) BAD_GUID_INDEX e.place _ known
    ∙ (cond-true (is_text e) _ _ kind ∙ (ap (mapped (texted (set_at s.guids.bytes (set_index e)))) (text_at-only s.texts e.identifier e.place units there) ∙ ap (λ (z : List ℕ). Ok (texted z units)) (sym is)))

-- ---- one entry

-- what an entry has for a name
abbrev pub HasName : NameStreams → NameEntry → Option Name → Type 0
HasName s e None = set_index e ≡ 0
HasName s e (Some n) = (set_index e ≢ 0) × StandsFor s e n

named_by-sound : (s : NameStreams) (e : NameEntry) (o : Option Name) → named_by s e ≡ Ok o → HasName s e o
unfolding named_by
named_by-sound s e o h = by (set_index e == 0) refl o h
  where
    by : (b : Bool) → (set_index e == 0) ≡ b → (o : Option Name) → (if b then Ok None else mapped Some (name_of s e)) ≡ Ok o → HasName s e o
    by true is None h = eqb-true _ _ is
    by true is (Some n) h = absurd (let wrong = ok_same (Ok _) None (Some n) refl h in cc)
    by false is None h = absurd (let (n, there, same) = mapped_ok Some (name_of s e) None h in cc)
    by false is (Some n) h = let (m, there, same) = mapped_ok Some (name_of s e) (Some n) h in let e2 : m ≡ n = cc in (eqb-false _ _ is, name_of-sound s e n (there ∙ ap Ok e2))

named_by-only : (s : NameStreams) (e : NameEntry) (o : Option Name) → HasName s e o → named_by s e ≡ Ok o
unfolding named_by
named_by-only s e None h = cond-true (set_index e == 0) _ _ (eq-eqb _ _ h)
named_by-only s e (Some n) h = cond-false (set_index e == 0) _ _ (ne_eqb _ _ h.0) ∙ ap (mapped Some) (name_of-only s e n h.1)

abbrev pub indexes : List Given → List ℕ
indexes = map (λ g. g.index)

given_by-sound : (s : NameStreams) (before : List Given) (e : NameEntry) (g : Given) → given_by s before e ≡ Ok g → (property_index e ≤ 0x7FFF) × (member (property_index e) (indexes before) ≡ false) × (g.index ≡ property_index e) × HasName s e g.name
unfolding given_by
given_by-sound s before e g h =
    let a = check_ok (nat_le (property_index e) 0x7FFF) BAD_PROPERTY_INDEX e.place _ g h in
    let b = check_ok (is_new_index before e) DOUBLE_ID e.place _ g a.1 in
    let (o, there, is) = bind_ok (named_by s e) _ g b.1 in
    let same : g ≡ record { index = property_index e; name = o } = ok_same (Ok _) _ g refl is in
    (leb-true _ _ a.0, not-true _ b.0, ap (λ (x : Given). x.index) same, subst (HasName s e) (sym (ap (λ (x : Given). x.name) same)) (named_by-sound s e o there))

pub given_by-only : (s : NameStreams) (before : List Given) (e : NameEntry) (o : Option Name) → property_index e ≤ 0x7FFF → member (property_index e) (indexes before) ≡ false → HasName s e o → given_by s before e ≡ Ok (record { index = property_index e; name = o })
unfolding given_by
given_by-only s before e o low new h =
    check_from (nat_le (property_index e) 0x7FFF) BAD_PROPERTY_INDEX e.place _ (le-leb _ _ low)
    ∙ (check_from (is_new_index before e) DOUBLE_ID e.place _ (not_from_false _ new)
    ∙ bind_from (named_by s e) _ o (named_by-only s e o h))

-- ---- all entries

skip : (s : NameStreams) (e : NameEntry) (es : List NameEntry) (pairs : List Pair) → set_index e ≡ 0 → ArePairs s es pairs → ArePairs s (e ∷ es) pairs
skip s e es [] zero rest = (zero, rest)
skip s e es (p ∷ pairs) zero rest = inl (zero, rest)

with_one : (s : NameStreams) (e : NameEntry) (es : List NameEntry) (g : Given) (gs : List Given) → g.index ≡ property_index e → HasName s e g.name → ArePairs s es (filter_map pair_in gs) → ArePairs s (e ∷ es) (filter_map pair_in (g ∷ gs))
with_one s e es g gs is has rest = by g.name refl has
  where
    by : (o : Option Name) → g.name ≡ o → HasName s e o → ArePairs s (e ∷ es) (filter_map pair_in (g ∷ gs))
    by None same zero = rw same (skip s e es (filter_map pair_in gs) zero rest)
    by (Some n) same (some, stands) = rw same (inr (some, ap (λ (k : ℕ). 0x8000 + k) is, stands, rest))

moved : (before : List Given) (g : Given) (e : NameEntry) (es : List NameEntry) → g.index ≡ property_index e → indexes (before ++ g ∷ []) ++ map property_index es ≡ indexes before ++ map property_index (e ∷ es)
moved before g e es is = ap (λ (z : List ℕ). z ++ map property_index es) (map-append (λ (x : Given). x.index) before (g ∷ [])) ∙ (append_assoc (indexes before) (g.index ∷ []) (map property_index es) ∙ ap (λ (k : ℕ). indexes before ++ k ∷ map property_index es) is)

entries-sound : (s : NameStreams) (before : List Given) (es : List NameEntry) (gs : List Given) → IsDistinct eqb (indexes before) → AllGive (given_by s) before es gs
    → AllByRecursion (λ e. property_index e ≤ 0x7FFF) es × IsDistinct eqb (indexes before ++ map property_index es) × ArePairs s es (filter_map pair_in gs)
unfolding IsDistinct
entries-sound s before [] [] distinct all = (tt, subst (IsDistinct eqb) (sym (append-nil (indexes before))) distinct, refl)
entries-sound s before [] (g ∷ gs) distinct all = absurd all
entries-sound s before (e ∷ es) [] distinct all = absurd all
entries-sound s before (e ∷ es) (g ∷ gs) distinct all =
    let (low, new, is, has) = given_by-sound s before e g all.0 in
    let more : IsDistinct eqb (indexes (before ++ g ∷ [])) =
    subst (IsDistinct eqb) (sym (map-append (λ (x : Given). x.index) before (g ∷ [])))
    (distinct-append (indexes before) (g.index ∷ []) distinct (tt, tt) (subst (λ (k : ℕ). member k (indexes before) ≡ false) (sym is) new, tt)) in
    let (lows, apart, pairs) = entries-sound s (before ++ g ∷ []) es gs more all.1 in
    ((low, lows), subst (IsDistinct eqb) (moved before g e es is) apart, with_one s e es g gs is has pairs)

abbrev given : NameEntry → Option Name → Given
given e o = record { index = property_index e; name = o }

-- what is said of the entries behind one
abbrev Later : NameStreams → List Given → NameEntry → List NameEntry → Type 0
Later s before e es = (o : Option Name) (rest : List Pair) → IsDistinct eqb (indexes (before ++ given e o ∷ []) ++ map property_index es) → ArePairs s es rest → (gs : List Given) × AllGive (given_by s) (before ++ given e o ∷ []) es gs × (rest ≡ filter_map pair_in gs)

entries-only : (s : NameStreams) (before : List Given) (es : List NameEntry) (pairs : List Pair) → AllByRecursion (λ e. property_index e ≤ 0x7FFF) es → IsDistinct eqb (indexes before ++ map property_index es) → ArePairs s es pairs
    → (gs : List Given) × AllGive (given_by s) before es gs × (pairs ≡ filter_map pair_in gs)
entries-only s before [] pairs lows apart each = ([], tt, each)
entries-only s before (e ∷ es) pairs lows apart each = by (λ o rest d after. entries-only s (before ++ given e o ∷ []) es rest lows.1 d after) pairs each
  where
    new : member (property_index e) (indexes before) ≡ false
    new = (distinct-split (indexes before) (property_index e ∷ map property_index es) apart).2.0

    one : Later s before e es → (o : Option Name) → HasName s e o → (rest : List Pair) → ArePairs s es rest → (gs : List Given) × AllGive (given_by s) before (e ∷ es) (given e o ∷ gs) × (rest ≡ filter_map pair_in gs)
    one later o has rest after =
        let (gs, all, is) = later o rest (subst (IsDistinct eqb) (sym (moved before (given e o) e es refl)) apart) after in
        (gs, (given_by-only s before e o lows.0 new has, all), is)

    by : Later s before e es → (pairs : List Pair) → ArePairs s (e ∷ es) pairs → (gs : List Given) × AllGive (given_by s) before (e ∷ es) gs × (pairs ≡ filter_map pair_in gs)
    by later [] (zero, rest) = let (gs, all, is) = one later None zero [] rest in (given e None ∷ gs, all, is)
    by later (p ∷ ps) (inl (zero, rest)) = let (gs, all, is) = one later None zero (p ∷ ps) rest in (given e None ∷ gs, all, is)
    by later (p ∷ ps) (inr (some, is_id, stands, rest)) = let (gs, all, is) = one later (Some p.1) (some, stands) ps rest in (given e (Some p.1) ∷ gs, all, (λ i. (is_id i, p.1) ∷ is i))

pub pairs_of-sound : (s : NameStreams) (pairs : List Pair) → pairs_of s ≡ Ok pairs → NamePairs s pairs
unfolding pairs_of IsDistinct
pairs_of-sound s pairs h =
    let (out, there, same) = mapped_ok (filter_map pair_in) (in_turn (given_by s) [] (name_entries s.entries)) pairs h in
    let (gs, is, all) = in_turn-sound (given_by s) [] (name_entries s.entries) out there in
    let (lows, apart, each) = entries-sound s [] (name_entries s.entries) gs tt all in
    record { low = lows; distinct = apart; each = subst (ArePairs s (name_entries s.entries)) (sym (same ∙ ap (filter_map pair_in) is)) each }

pub pairs_of-only : (s : NameStreams) (pairs : List Pair) → NamePairs s pairs → pairs_of s ≡ Ok pairs
unfolding pairs_of
pairs_of-only s pairs h =
    let (gs, all, is) = entries-only s [] (name_entries s.entries) pairs h.low h.distinct h.each in
    ap (mapped (filter_map pair_in)) (in_turn-only (given_by s) [] (name_entries s.entries) gs all) ∙ ap Ok (sym is)
