-- The name map that is written is read back.
use Rattle.std.proofs.Common.{◌≡◌, ◌⊎◌, ℕ, zero, suc, ◌+◌, ◌-◌, ◌*◌, ◌/◌, ◌%◌, ◌<◌, ◌≤◌, ◌^◌, Bool, true, false, not, ◌||◌, cond, eqb, List, [], ◌∷◌, ◌++◌, length, map, take, drop, replicate, Some, Ok, refl, sym, ap, subst, ◌∙◌, append_assoc, inl, inr, arith}
use Rattle.std.specs.Prelude.{All, Contains, filter_map, ◌==◌, bytes_eq, unwrap_or, filter}
use Rattle.std.specs.List.{flat_map, position_from, range_with_len, AllByRecursion}
use Rattle.std.specs.Ordering.{nat_cmp}
use Rattle.std.specs.Cmp.Lexicographic.{slice_cmp}
use Rattle.std.proofs.lemmas.Map.Lookups.{exact_bytes}
use Rattle.std.proofs.lemmas.Slice.Eq.{bytes_eq-Decides}
use Rattle.std.proofs.lemmas.List.{length-append, length-map, length-replicate, take_at, drop_at, drop-drop}
use Rattle.std.proofs.lemmas.Bool.{cond-true, cond-false, eq-eqb, ne_eqb, le-leb, or_from}
use Rattle.carrier_model.specs.Bytes.{le32, number32, units_of, pad4}
use Rattle.carrier_model.specs.Chains.{member}
use Rattle.carrier_model.specs.Sectors.{u32_of}
use Rattle.carrier_model.specs.Keys.{Name, numbered, texted, IsName, set_of}
use Rattle.carrier_model.specs.Trees.{HasUnits}
use Rattle.carrier_model.specs.Turns.{in_turn}
use Rattle.carrier_model.proofs.Turns.{AllGive, in_turn-only}
use Rattle.carrier_model.specs.Outcomes.{mapped}
use Rattle.msg_model.specs.WrittenNames.{PS_MAPI, PS_PUBLIC_STRINGS, is_fixed_set, sets_of, set_index, name_units, text_entry, text_of, text_stream, label_number, kind_bit, name_word, entries_from}
use Rattle.msg_model.specs.NameMap as read
use Rattle.msg_model.specs.ReadBack.{AreNames, HasNameMap}
use Rattle.msg_model.specs.NameMap.{NameStreams, NameEntry, name_entry, name_entries, Given, given_by, Pair, pairs_of}
use Rattle.carrier_model.proofs.SortedLists.{in_tail}
use Rattle.carrier_model.proofs.SortedElements.{every_from, every_elements, length_elements, all_elements}
use Rattle.carrier_model.proofs.Numbers.{number32-le32}
use Rattle.carrier_model.proofs.Units.{units_again, length-units}
use Rattle.msg_model.proofs.NameMap.{indexes, given_by-only}

-- ---- the place of a set in the GUID stream

-- equal bytes, one way or the other
bytes_cases : (x y : List ℕ) → ((bytes_eq x y ≡ true) × (x ≡ y)) ⊎ ((bytes_eq x y ≡ false) × (x ≡ y → ⊥))
bytes_cases x y = by (bytes_eq x y) (bytes_eq-Decides x y)
  where
    by : (b : Bool) → ((b ≡ true → x ≡ y) × (x ≡ y → b ≡ true)) → ((b ≡ true) × (x ≡ y)) ⊎ ((b ≡ false) × (x ≡ y → ⊥))
    by true d = inl (refl, d.0 refl)
    by false d = inr (refl, λ e. (let h : false ≡ true = d.1 e in cc))

abbrev joined : List (List ℕ) → List ℕ
joined sets = flat_map (λ set. set) sets

Sixteen : List (List ℕ) → Type 0
Sixteen sets = AllByRecursion (λ set. length set ≡ 16) sets

length-joined : (sets : List (List ℕ)) → Sixteen sets → length (joined sets) ≡ 16 * length sets
unfolding Sixteen
length-joined [] h = refl
length-joined (x ∷ sets) h = omega (arith, length-append x (joined sets), h.0, length-joined sets h.1)

later_part : (x y : List ℕ) (n k : ℕ) → length x ≡ n → drop (n + k) (x ++ y) ≡ drop k y
later_part x y n k e = sym (drop-drop k n (x ++ y)) ∙ ap (drop k) (drop_at x y n e)

-- where a set is among others, and that its bytes stand there
IsAt : List (List ℕ) → List ℕ → ℕ → ℕ → Type 0
IsAt sets set i j = (position_from (bytes_eq set) i sets ≡ Some (i + j)) × (j < length sets) × (take 16 (drop (16 * j) (joined sets)) ≡ set)

set_place : (sets : List (List ℕ)) (set : List ℕ) (i : ℕ) → Sixteen sets → Contains sets set → (j : ℕ) × IsAt sets set i j
unfolding Sixteen IsAt
set_place [] set i h (k, lt, e) = absurd (omega (arith, lt))
set_place (x ∷ sets) set i h c = by (λ d. set_place sets set (i + 1) h.1 d) c (bytes_cases set x)
  where
    by : (Contains sets set → (j : ℕ) × IsAt sets set (i + 1) j) → Contains (x ∷ sets) set → ((bytes_eq set x ≡ true) × (set ≡ x)) ⊎ ((bytes_eq set x ≡ false) × (set ≡ x → ⊥)) → (j : ℕ) × IsAt (x ∷ sets) set i j
    by later c (inl (so, same)) = (0, (cond-true (bytes_eq set x) _ _ so ∙ ap Some (omega arith), omega arith, take_at x (joined sets) 16 h.0 ∙ sym same))
    by later (zero, lt, e) (inr (differ, other)) = absurd (other (sym e))
    by later (suc k, lt, e) (inr (differ, other)) =
        let (j, (found, below, there)) = later (k, omega (arith, lt), e) in (
          suc j,
          (
            cond-false (bytes_eq set x) _ _ differ ∙ (found ∙ ap Some (omega arith)),
            omega (arith, below),
            ap (λ n. take 16 (drop n (x ++ joined sets))) (let m : 16 * suc j ≡ 16 + 16 * j = omega arith in m) ∙ (ap (take 16) (later_part x (joined sets) 16 (16 * j) h.0) ∙ there),
          ),
        )

kept_filter : {A : Type 0} (p : A → Bool) (xs : List A) (x : A) → Contains xs x → p x ≡ true → Contains (filter p xs) x
kept_filter p [] x (k, lt, e) h = absurd (omega (arith, lt))
kept_filter p (y ∷ ys) x c h = by (λ d. kept_filter p ys x d h) c (p y) refl
  where
    by : (Contains ys x → Contains (filter p ys) x) → Contains (y ∷ ys) x → (b : Bool) → p y ≡ b → Contains (cond b (y ∷ filter p ys) (filter p ys)) x
    by later (zero, lt, e) true is = (zero, omega arith, e)
    by later (suc k, lt, e) true is = in_tail y x (filter p ys) (later (k, omega (arith, lt), e))
    by later (zero, lt, e) false is = absurd (let h2 : p y ≡ true = ap p e ∙ h in cc)
    by later (suc k, lt, e) false is = later (k, omega (arith, lt), e)

-- ---- a set and its index

-- an index stands for a set
record Stands (guids set : List ℕ) (index : ℕ) : Type 0 where
  pub some : 1 ≤ index
  pub few : index ≤ 32002
  pub has : read.has_set guids index ≡ true
  pub is : read.set_at guids index ≡ set

every_map : (P : List ℕ → Type 0) (names : List Name) → AllByRecursion (λ n. P (set_of n)) names → AllByRecursion P (map set_of names)
every_map P [] h = tt
every_map P (n ∷ names) h = (h.0, every_map P names h.1)

every_filter : (P : List ℕ → Type 0) (p : List ℕ → Bool) (xs : List (List ℕ)) → AllByRecursion P xs → AllByRecursion P (filter p xs)
every_filter P p [] h = tt
every_filter P p (x ∷ xs) h = by (every_filter P p xs h.1) (p x)
  where
    by : AllByRecursion P (filter p xs) → (b : Bool) → AllByRecursion P (cond b (x ∷ filter p xs) (filter p xs))
    by rest true = (h.0, rest)
    by rest false = rest

length-filter : (p : List ℕ → Bool) (xs : List (List ℕ)) → length (filter p xs) ≤ length xs
length-filter p [] = omega arith
length-filter p (x ∷ xs) = by (length-filter p xs) (p x)
  where
    by : length (filter p xs) ≤ length xs → (b : Bool) → length (cond b (x ∷ filter p xs) (filter p xs)) ≤ suc (length xs)
    by le true = omega (arith, le)
    by le false = omega (arith, le)

length-sets : (names : List Name) → length (sets_of names) ≤ length names
length-sets names =
    let put = length_elements (slice_cmp nat_cmp) (filter (λ set. not (is_fixed_set set)) (map set_of names)) [] in
    let few = length-filter (λ set. not (is_fixed_set set)) (map set_of names) in
    omega (arith, put, few, length-map names set_of)

sets-sixteen : (names : List Name) → AllByRecursion (λ n. length (set_of n) ≡ 16) names → Sixteen (sets_of names)
unfolding Sixteen
sets-sixteen names h = every_elements (slice_cmp nat_cmp) (λ set. length set ≡ 16) (filter (λ set. not (is_fixed_set set)) (map set_of names)) [] tt (every_filter (λ set. length set ≡ 16) (λ set. not (is_fixed_set set)) (map set_of names) (every_map (λ set. length set ≡ 16) names h))

index_stands : (names : List Name) (set : List ℕ) → length names ≤ 32000 → AllByRecursion (λ n. length (set_of n) ≡ 16) names → Contains (map set_of names) set → Stands (joined (sets_of names)) set (set_index (sets_of names) set)
unfolding IsAt
index_stands names set few sixteen c = by (bytes_cases set PS_MAPI) (bytes_cases set PS_PUBLIC_STRINGS)
  where
    sets : List (List ℕ)
    sets = sets_of names

    by : ((bytes_eq set PS_MAPI ≡ true) × (set ≡ PS_MAPI)) ⊎ ((bytes_eq set PS_MAPI ≡ false) × (set ≡ PS_MAPI → ⊥)) → ((bytes_eq set PS_PUBLIC_STRINGS ≡ true) × (set ≡ PS_PUBLIC_STRINGS)) ⊎ ((bytes_eq set PS_PUBLIC_STRINGS ≡ false) × (set ≡ PS_PUBLIC_STRINGS → ⊥)) → Stands (joined (sets_of names)) set (set_index (sets_of names) set)
    by (inl (so, same)) other = subst (Stands (joined sets) set) (sym (cond-true (bytes_eq set PS_MAPI) 1 _ so)) (record { some = omega arith; few = omega arith; has = le-leb 0 (length (joined sets)) (omega arith); is = sym same })
    by (inr (differ, other)) (inl (so, same)) = subst (Stands (joined sets) set) (sym (cond-false (bytes_eq set PS_MAPI) 1 _ differ ∙ cond-true (bytes_eq set PS_PUBLIC_STRINGS) 2 _ so)) (record { some = omega arith; few = omega arith; has = le-leb 0 (length (joined sets)) (omega arith); is = sym same })
    by (inr (differ, other)) (inr (unlike, others)) =
        let plain : not (is_fixed_set set) ≡ true = ap (λ b. not (b || bytes_eq set PS_PUBLIC_STRINGS)) differ ∙ ap not unlike in
        let there : Contains sets set = all_elements exact_bytes (filter (λ x. not (is_fixed_set x)) (map set_of names)) [] set (kept_filter (λ x. not (is_fixed_set x)) (map set_of names) set c plain) in
        let (j, (found, below, bytes_there)) = set_place sets set 0 (sets-sixteen names sixteen) there in
        let index : set_index sets set ≡ 3 + j =
        cond-false (bytes_eq set PS_MAPI) 1 _ differ ∙ (cond-false (bytes_eq set PS_PUBLIC_STRINGS) 2 _ unlike ∙ ap (λ o. 3 + unwrap_or o 0) (found ∙ ap Some (let z : 0 + j ≡ j = omega arith in z))) in
        subst (Stands (joined sets) set) (sym index) (record {
          some = omega arith;
          few = omega (arith, below, length-sets names, few);
          has = le-leb (16 * (3 + j - 2)) (length (joined sets)) (omega (arith, below, length-joined sets (sets-sixteen names sixteen)));
          is = cond-false (3 + j == 1) _ _ (ne_eqb (3 + j) 1 (λ e. omega arith)) ∙ (cond-false (3 + j == 2) _ _ (ne_eqb (3 + j) 2 (λ e. omega arith)) ∙ (ap (λ n. take 16 (drop (16 * n) (joined sets))) (let z : 3 + j - 3 ≡ j = omega arith in z) ∙ bytes_there));
        })

-- ---- one entry

-- what is known of a name: its form, and that its set's index stands for the set
record Good (s : NameStreams) (sets : List (List ℕ)) (n : Name) : Type 0 where
  pub form : IsName n
  pub units : HasUnits n
  pub stands : Stands s.guids.bytes (set_of n) (set_index sets (set_of n))

at_place : (b : List ℕ) (at n : ℕ) (rest : List ℕ) → n < 2 ^ 32 → drop at b ≡ le32 n ++ rest → u32_of b at ≡ n
unfolding u32_of
at_place b at n rest lt e = ap number32 e ∙ number32-le32 n rest lt

word_kind : (k i bit : ℕ) → bit < 2 → (k * 65536 + (i * 2 + bit)) % 2 ≡ bit
word_kind k i bit lt = omega arith

word_set : (k i bit : ℕ) → bit < 2 → i ≤ 32002 → (k * 65536 + (i * 2 + bit)) / 2 % 0x8000 ≡ i
word_set k i bit lt few = omega arith

word_index : (k i bit : ℕ) → bit < 2 → i ≤ 32002 → (k * 65536 + (i * 2 + bit)) / 0x10000 ≡ k
word_index k i bit lt few = omega arith

bit_below : (n : Name) → kind_bit n < 2
bit_below (numbered set number) = omega arith
bit_below (texted set units) = omega arith

length-text : (n : Name) → IsName n → length (text_of n) ≤ 520
length-text (numbered set number) h = omega arith
length-text (texted set units) h =
    let long = length-append (name_units units) (replicate (pad4 (length (name_units units))) 0) in
    let pad = length-replicate {A = ℕ} (pad4 (length (name_units units))) 0 in
    omega (arith, long, pad, length-units units, h.1)

label_below : (place : ℕ) (n : Name) → IsName n → place < 2 ^ 32 → label_number place n < 2 ^ 32
label_below place (numbered set number) h lt = h.1
label_below place (texted set units) h lt = lt

-- a text that stands behind others
text_there : (texts front rest units : List ℕ) → texts ≡ front ++ (text_entry units ++ rest) → length units ≤ 255 → All (λ unit. unit < 2 ^ 16) units → read.IsTextAt texts (length front) units
text_there texts front rest units e few h =
    let x : List ℕ = name_units units in
    let padding : List ℕ = replicate (pad4 (length x)) 0 in
    let len : length x ≡ 2 * length units = length-units units in
    let behind : drop (length front) texts ≡ le32 (length x) ++ ((x ++ padding) ++ rest) = ap (drop (length front)) e ∙ drop_at front (text_entry units ++ rest) (length front) refl in
    let size : u32_of texts (length front) ≡ length x = at_place texts (length front) (length x) ((x ++ padding) ++ rest) (omega (arith, len, few)) behind in
    let units_behind : drop (length front + 4) texts ≡ x ++ (padding ++ rest) = sym (drop-drop 4 (length front) texts) ∙ (ap (drop 4) behind ∙ append_assoc x padding rest) in
    let all : length texts ≡ length front + length (text_entry units ++ rest) = ap length e ∙ length-append front (text_entry units ++ rest) in
    let entry : length (text_entry units ++ rest) ≡ length (text_entry units) + length rest = length-append (text_entry units) rest in
    let own : length (x ++ padding) ≡ length x + length padding = length-append x padding in
    record {
      inside = omega (arith, all, entry);
      even = omega (arith, size, len);
      few = omega (arith, size, len, few);
      whole = omega (arith, size, all, entry, own);
      is = sym (ap (λ n. units_of (take n (drop (length front + 4) texts))) size ∙ (ap (λ (z : List ℕ). units_of (take (length x) z)) units_behind ∙ (ap units_of (take_at x (padding ++ rest) (length x) refl) ∙ units_again units h)));
    }

module _ (s : NameStreams) (sets : List (List ℕ)) where
  entry : ℕ → NameEntry
  entry k = name_entry s.entries k

  -- what is read of the k-th entry
  record Says (k place : ℕ) (n : Name) : Type 0 where
    pub identifier : (name_entry s.entries k).identifier ≡ label_number place n
    pub kind : (name_entry s.entries k).word % 2 ≡ kind_bit n
    pub set : read.set_index (name_entry s.entries k) ≡ set_index sets (set_of n)
    pub index : read.property_index (name_entry s.entries k) ≡ k

  says : (k place : ℕ) (n : Name) (tail : List ℕ) → Good s sets n → k < 32000 → place < 2 ^ 32 → drop (8 * k) s.entries.bytes ≡ le32 (label_number place n) ++ (le32 (name_word sets k n) ++ tail) → Says k place n
  says k place n tail good low small e =
      let i : ℕ = set_index sets (set_of n) in
      let bit = bit_below n in
      let few : i ≤ 32002 = good.stands.few in
      let word_small : name_word sets k n < 2 ^ 32 = omega arith in
      let behind : drop (8 * k + 4) s.entries.bytes ≡ le32 (name_word sets k n) ++ tail = sym (drop-drop 4 (8 * k) s.entries.bytes) ∙ ap (drop 4) e in
      let word : u32_of s.entries.bytes (8 * k + 4) ≡ name_word sets k n = at_place s.entries.bytes (8 * k + 4) (name_word sets k n) tail word_small behind in
      record {
        identifier = at_place s.entries.bytes (8 * k) (label_number place n) (le32 (name_word sets k n) ++ tail) (label_below place n good.form small) e;
        kind = ap (λ w. w % 2) word ∙ word_kind k i (kind_bit n) bit;
        set = ap (λ w. w / 2 % 0x8000) word ∙ word_set k i (kind_bit n) bit few;
        index = ap (λ w. w / 0x10000) word ∙ word_index k i (kind_bit n) bit few;
      }

  stands_for : (k place : ℕ) (n : Name) (front rest : List ℕ) → Good s sets n → Says k place n → s.texts.bytes ≡ front ++ (text_of n ++ rest) → length front ≡ place → read.StandsFor s (name_entry s.entries k) n
  stands_for k place (numbered set number) front rest good said texts here = (
    ne_eqb ((name_entry s.entries k).word % 2) 1 (λ e. omega (arith, said.kind)),
    ap (read.has_set s.guids.bytes) said.set ∙ good.stands.has,
    sym (ap (read.set_at s.guids.bytes) said.set ∙ good.stands.is),
    sym said.identifier,
  )
  stands_for k place (texted set units) front rest good said texts here = (
    eq-eqb ((name_entry s.entries k).word % 2) 1 said.kind,
    ap (read.has_set s.guids.bytes) said.set ∙ good.stands.has,
    sym (ap (read.set_at s.guids.bytes) said.set ∙ good.stands.is),
    subst (λ (at : ℕ). read.IsTextAt s.texts.bytes at units) (here ∙ sym said.identifier) (text_there s.texts.bytes front rest units texts good.form.1 good.units),
  )

  givens : ℕ → List Name → List Given
  givens k [] = []
  givens k (n ∷ names) = record { index = k; name = Some n } ∷ givens (k + 1) names

  below_new : (k : ℕ) (before : List Given) → AllByRecursion (λ (g : Given). g.index < k) before → member k (indexes before) ≡ false
  below_new k [] h = refl
  below_new k (g ∷ before) h = or_from (eqb k g.index) (member k (indexes before)) (ne_eqb k g.index (λ e. omega (arith, h.0))) (below_new k before h.1)

  below_push : (k : ℕ) (before : List Given) (g : Given) → g.index ≡ k → AllByRecursion (λ (x : Given). x.index < k) before → AllByRecursion (λ (x : Given). x.index < k + 1) (before ++ g ∷ [])
  below_push k [] g e h = (omega (arith, e), tt)
  below_push k (x ∷ before) g e h = (omega (arith, h.0), below_push k before g e h.1)

  one_given : (before : List Given) (k place : ℕ) (n : Name) (front rest tail : List ℕ) → AllByRecursion (λ (g : Given). g.index < k) before → Good s sets n → k < 32000 → place < 2 ^ 32 → length front ≡ place
      → drop (8 * k) s.entries.bytes ≡ le32 (label_number place n) ++ (le32 (name_word sets k n) ++ tail) → s.texts.bytes ≡ front ++ (text_of n ++ rest)
      → given_by s before (name_entry s.entries k) ≡ Ok (record { index = k; name = Some n })
  one_given before k place n front rest tail below good low small here e texts =
      let said = says k place n tail good low small e in
      let some : read.set_index (name_entry s.entries k) ≡ 0 → ⊥ = λ z. omega (arith, said.set, good.stands.some, z) in
      given_by-only s before (name_entry s.entries k) (Some n) (omega (arith, said.index, low)) (ap (λ j. member j (indexes before)) said.index ∙ below_new k before below) (some, stands_for k place n front rest good said texts here)
      ∙ ap (λ (j : ℕ). Ok (record { index = j; name = Some n })) said.index

  entries_give : (before : List Given) (k place : ℕ) (front : List ℕ) (names : List Name) → AllByRecursion (λ (g : Given). g.index < k) before → AllByRecursion (Good s sets) names → k + length names ≤ 32000 → place ≤ 520 * k → length front ≡ place
      → drop (8 * k) s.entries.bytes ≡ entries_from sets k place names → s.texts.bytes ≡ front ++ text_stream names
      → AllGive (given_by s) before (map (name_entry s.entries) (range_with_len k (length names))) (givens k names)
  unfolding givens
  entries_give before k place front [] below good few low here e texts = tt
  entries_give before k place front (n ∷ names) below good few low here e texts =
      let tail : List ℕ = entries_from sets (k + 1) (place + length (text_of n)) names in
      let more = length-text n good.0.form in
      let next : List ℕ = front ++ text_of n in
      let grown : length next ≡ place + length (text_of n) = length-append front (text_of n) ∙ ap (λ m. m + length (text_of n)) here in
      let place_low : place + length (text_of n) ≤ 520 * (k + 1) = omega (arith, low, more) in
      let on : drop (8 * (k + 1)) s.entries.bytes ≡ tail = ap (λ m. drop m s.entries.bytes) (let z : 8 * (k + 1) ≡ 8 * k + 8 = omega arith in z) ∙ (sym (drop-drop 8 (8 * k) s.entries.bytes) ∙ ap (drop 8) e) in (
        one_given before k place n front (text_stream names) tail below good.0 (omega (arith, few)) (omega (arith, low, few)) here e texts,
        entries_give (before ++ record { index = k; name = Some n } ∷ []) (k + 1) (place + length (text_of n)) next names (below_push k before (record { index = k; name = Some n }) refl below) good.1 (omega (arith, few)) place_low grown on (texts ∙ sym (append_assoc front (text_of n) (text_stream names))),
      )

  pairs_given : (k : ℕ) (names : List Name) → filter_map read.pair_in (givens k names) ≡ read.pairs_from k names
  unfolding givens
  pairs_given k [] = refl
  pairs_given k (n ∷ names) = ap (λ (l : List Pair). (0x8000 + k, n) ∷ l) (pairs_given (k + 1) names)

length-entries : (sets : List (List ℕ)) (k place : ℕ) (names : List Name) → length (entries_from sets k place names) ≡ 8 * length names
length-entries sets k place [] = refl
length-entries sets k place (n ∷ names) = omega (arith, length-entries sets (k + 1) (place + length (text_of n)) names)

set_in : (names : List Name) (n : Name) → Contains names n → Contains (map set_of names) (set_of n)
set_in [] n (k, lt, e) = absurd (omega (arith, lt))
set_in (x ∷ names) n (zero, lt, e) = (zero, omega arith, ap set_of e)
set_in (x ∷ names) n (suc k, lt, e) = in_tail (set_of x) (set_of n) (map set_of names) (set_in names n (k, omega (arith, lt), e))

sixteen_of : (n : Name) → IsName n → length (set_of n) ≡ 16
sixteen_of (numbered set number) h = h.0
sixteen_of (texted set units) h = h.0

pub names_read : (s : NameStreams) (names : List Name) → AreNames names → HasNameMap s names → pairs_of s ≡ Ok (read.pairs_from 0 names)
unfolding pairs_of
names_read s names h map_of =
    let guids = map_of.guids in
    let entries = map_of.entries in
    let texts = map_of.texts in
    let sixteen : AllByRecursion (λ n. length (set_of n) ≡ 16) names = every_from (λ n. length (set_of n) ≡ 16) names (λ n c. sixteen_of n (h.forms n c)) in
    let good : AllByRecursion (Good s (sets_of names)) names = every_from (Good s (sets_of names)) names (λ n c. record {
      form = h.forms n c;
      units = h.units n c;
      stands = subst (λ (g : List ℕ). Stands g (set_of n) (set_index (sets_of names) (set_of n))) (sym guids) (index_stands names (set_of n) h.few sixteen (set_in names n c));
    }) in
    let all = entries_give s (sets_of names) [] 0 0 [] names tt good (omega (arith, h.few)) (omega arith) refl entries texts in
    let count : length s.entries.bytes / 8 ≡ length names = ap (λ m. m / 8) (ap length entries ∙ length-entries (sets_of names) 0 0 names) ∙ (let z : 8 * length names / 8 ≡ length names = omega arith in z) in
    let list : name_entries s.entries ≡ map (name_entry s.entries) (range_with_len 0 (length names)) = ap (λ m. map (name_entry s.entries) (range_with_len 0 m)) count in
    ap (λ l. mapped (filter_map read.pair_in) (in_turn (given_by s) [] l)) list
    ∙ (ap (mapped (filter_map read.pair_in)) (in_turn-only (given_by s) [] (map (name_entry s.entries) (range_with_len 0 (length names))) (givens s (sets_of names) 0 names) all)
    ∙ ap Ok (pairs_given s (sets_of names) 0 names))
