-- Storages whose names end with numbers have different numbers where their names differ.
use Rattle.std.proofs.Common.{◌≡◌, ◌⊎◌, ℕ, ◌+◌, ◌-◌, ◌*◌, ◌<◌, ◌≤◌, Bool, true, false, cond, ◌&&◌, ◌||◌, List, [], ◌∷◌, ◌++◌, length, map, take, drop, Option, Some, None, refl, sym, ap, subst, ◌∙◌, inl, inr, arith}
use Rattle.std.specs.Prelude.{nat_le, nat_eq, fold, filter_map, IsPermutation, ◌==◌}
use Rattle.std.specs.Option.{option_map}
use Rattle.std.specs.List.{AllByRecursion, IsDistinct, list_all, cons_option, take-map}
use Rattle.std.specs.Cmp.Lexicographic.{pointwise}
use Rattle.std.specs.Char.{to_ascii_lowercase}
use Rattle.std.specs.Ordering.{nat_cmp}
use Rattle.std.specs.declared.cmp.Ordering.{Ordering}
use Rattle.std.specs.declared.cmp.Ordering.TheVariants.{Less, Equal, Greater}
use Rattle.std.proofs.lemmas.Bool.{and_parts, leb-true, le-leb, lt-leb, cond-true, cond-false, eqb-true}
use Rattle.std.proofs.lemmas.List.{take-append-drop}
use Rattle.std.proofs.lemmas.Map.Lookups.{exact_unsigned}
use Rattle.std.proofs.lemmas.Slice.Eq.{bytes_eq-Decides}
use Rattle.carrier_model.specs.Files.{Children, none, storage, stream, Files, folded}
use Rattle.carrier_model.specs.Holds.{child_names, AreApart}
use Rattle.carrier_model.specs.Lookups.{same_name, storage_at}
use Rattle.carrier_model.specs.Sorted.{IsStrictlySorted, choose}
use Rattle.msg_model.specs.MsgMessage.{is_hex, hex_number, number_in, numbered_in, number_cmp, in_order}
use Rattle.carrier_model.proofs.SortedElements.{equal_by, elements_good}
use Rattle.carrier_model.proofs.FoundChildren.{Kid, stream_kid, storage_kid, kids, kid_name}
use Rattle.msg_model.proofs.WrittenChildren.{numbered_kid, numbered_kids, number_total}
use Rattle.msg_model.proofs.WrittenFileNames.{digit_number}

-- ---- digits

hex_cases : (u : ℕ) → is_hex u ≡ true → ((0x30 ≤ u) × (u ≤ 0x39)) ⊎ ((0x61 ≤ u) × (u ≤ 0x66))
hex_cases u h = by (nat_le 0x30 u && nat_le u 0x39) refl h
  where
    by : (b : Bool) → (nat_le 0x30 u && nat_le u 0x39) ≡ b → (b || (nat_le 0x61 u && nat_le u 0x66)) ≡ true → ((0x30 ≤ u) × (u ≤ 0x39)) ⊎ ((0x61 ≤ u) × (u ≤ 0x66))
    by true e g = let p = and_parts (nat_le 0x30 u) (nat_le u 0x39) e in inl (leb-true 0x30 u p.0, leb-true u 0x39 p.1)
    by false e g = let p = and_parts (nat_le 0x61 u) (nat_le u 0x66) g in inr (leb-true 0x61 u p.0, leb-true u 0x66 p.1)

-- what a digit says
record Digit (u : ℕ) : Type 0 where
  pub low : digit_number u < 16
  pub unit : (v : ℕ) → is_hex v ≡ true → digit_number u ≡ digit_number v → u ≡ v

number_low : (u : ℕ) → u ≤ 0x39 → digit_number u ≡ u - 0x30
number_low u le = cond-true (nat_le u 0x39) (u - 0x30) (u - 0x57) (le-leb u 0x39 le)

number_high : (u : ℕ) → 0x39 < u → digit_number u ≡ u - 0x57
number_high u lt = cond-false (nat_le u 0x39) (u - 0x30) (u - 0x57) (lt-leb u 0x39 lt)

digit : (u : ℕ) → is_hex u ≡ true → Digit u
digit u h = elim (hex_cases u h) [
  | inl (a, b) ↦ record {
    low = omega (arith, number_low u b, a, b);
    unit = λ v g e. elim (hex_cases v g) [
      | inl (c, d) ↦ omega (arith, number_low u b, number_low v d, a, c, e)
      | inr (c, d) ↦ absurd (omega (arith, number_low u b, number_high v (omega (arith, c)), a, b, c, d, e))
    ];
  }
  | inr (a, b) ↦ record {
    low = omega (arith, number_high u (omega (arith, a)), a, b);
    unit = λ v g e. elim (hex_cases v g) [
      | inl (c, d) ↦ absurd (omega (arith, number_high u (omega (arith, a)), number_low v d, a, b, c, d, e))
      | inr (c, d) ↦ omega (arith, number_high u (omega (arith, a)), number_high v (omega (arith, c)), a, c, e)
    ];
  }
]

-- digits of one number, as many, are the same
digits_same : (m n : ℕ) (xs ys : List ℕ) → length xs ≡ length ys → list_all is_hex xs ≡ true → list_all is_hex ys ≡ true → fold (λ k unit. 16 * k + digit_number unit) m xs ≡ fold (λ k unit. 16 * k + digit_number unit) n ys → (m ≡ n) × (xs ≡ ys)
digits_same m n [] [] long h g e = (e, refl)
digits_same m n [] (y ∷ ys) long h g e = absurd (omega (arith, long))
digits_same m n (x ∷ xs) [] long h g e = absurd (omega (arith, long))
digits_same m n (x ∷ xs) (y ∷ ys) long h g e =
    let p = and_parts (is_hex x) (list_all is_hex xs) h in
    let q = and_parts (is_hex y) (list_all is_hex ys) g in
    let rest = digits_same (16 * m + digit_number x) (16 * n + digit_number y) xs ys (omega (arith, long)) p.1 q.1 e in
    let dx = digit x p.0 in
    let dy = digit y q.0 in
    let numbers : digit_number x ≡ digit_number y = omega (arith, rest.0, dx.low, dy.low) in
    (omega (arith, rest.0, dx.low, dy.low), (λ i. dx.unit y q.0 numbers i ∷ rest.1 i))

-- ---- names

-- what a name with a number is
record Numbered (prefix name : List ℕ) (n : ℕ) : Type 0 where
  pub digits : List ℕ
  pub whole : folded name ≡ folded prefix ++ digits
  pub eight : length digits ≡ 8
  pub hex : list_all is_hex digits ≡ true
  pub number : hex_number digits ≡ n

numbered_name : (prefix name : List ℕ) (n : ℕ) → number_in prefix name ≡ Some n → Numbered prefix name n
numbered_name prefix name n h = by (same_name (take (length prefix) name) prefix && ((length (drop (length prefix) (folded name)) == 8) && list_all is_hex (drop (length prefix) (folded name)))) refl h
  where
    by : (b : Bool) → (same_name (take (length prefix) name) prefix && ((length (drop (length prefix) (folded name)) == 8) && list_all is_hex (drop (length prefix) (folded name)))) ≡ b → cond b (Some (hex_number (drop (length prefix) (folded name)))) None ≡ Some n → Numbered prefix name n
    by false e g = absurd cc
    by true e g =
        let p = and_parts (same_name (take (length prefix) name) prefix) _ e in
        let q = and_parts (length (drop (length prefix) (folded name)) == 8) _ p.1 in
        let front : folded (take (length prefix) name) ≡ folded prefix = (bytes_eq-Decides (folded (take (length prefix) name)) (folded prefix)).0 p.0 in
        record {
          digits = drop (length prefix) (folded name);
          whole = sym (take-append-drop (length prefix) (folded name)) ∙ ap (λ (z : List ℕ). z ++ drop (length prefix) (folded name)) (take-map to_ascii_lowercase (length prefix) name ∙ front);
          eight = eqb-true _ _ q.0;
          hex = q.1;
          number = (let same : hex_number (drop (length prefix) (folded name)) ≡ n = cc in same);
        }

one_name : (prefix a b : List ℕ) (n : ℕ) → number_in prefix a ≡ Some n → number_in prefix b ≡ Some n → same_name a b ≡ true
one_name prefix a b n p q =
    let x = numbered_name prefix a n p in
    let y = numbered_name prefix b n q in
    let digits : x.digits ≡ y.digits = (digits_same 0 0 x.digits y.digits (x.eight ∙ sym y.eight) x.hex y.hex (x.number ∙ sym y.number)).1 in
    (bytes_eq-Decides (folded a) (folded b)).1 (x.whole ∙ (ap (λ (z : List ℕ). folded prefix ++ z) digits ∙ sym y.whole))

-- ---- storages

kid_names : (c : Children) → child_names c ≡ map kid_name (kids c)
kid_names none = refl
kid_names (storage tag below rest) = ap (λ l. tag.name ∷ l) (kid_names rest)
kid_names (stream tag s rest) = ap (λ l. tag.name ∷ l) (kid_names rest)

unfolded_others : (m : List ℕ) (ns : List (List ℕ)) → AllByRecursion (λ n. pointwise nat_eq (folded m) n ≡ false) (map folded ns) → AllByRecursion (λ n. same_name m n ≡ false) ns
unfolded_others m [] h = tt
unfolded_others m (n ∷ ns) h = (h.0, unfolded_others m ns h.1)

unfolded_distinct : (ms : List (List ℕ)) → IsDistinct (pointwise nat_eq) (map folded ms) → IsDistinct same_name ms
unfolding IsDistinct
unfolded_distinct [] h = tt
unfolded_distinct (m ∷ ms) h = (unfolded_others m ms h.0, unfolded_distinct ms h.1)

-- the number of one kid, and those of kids with other names
number_apart : (prefix name : List ℕ) (x : ℕ × Files) (ks : List Kid) → number_in prefix name ≡ Some x.0 → AllByRecursion (λ n. same_name name n ≡ false) (map kid_name ks) → AllByRecursion (λ y. equal_by number_cmp x y ≡ false) (filter_map (numbered_kid prefix) ks)
number_apart prefix name x [] e h = tt
number_apart prefix name x (stream_kid tag s ∷ ks) e h = number_apart prefix name x ks e h.1
number_apart prefix name x (storage_kid tag below ∷ ks) e h = by (number_in prefix tag.name) refl (number_apart prefix name x ks e h.1)
  where
    differ : (m : ℕ) → number_in prefix tag.name ≡ Some m → (o : Ordering) → nat_cmp m x.0 ≡ o → choose o false true false ≡ false
    differ m q Less r = refl
    differ m q Greater r = refl
    differ m q Equal r =
        let same : m ≡ x.0 = exact_unsigned m x.0 r in
        absurd (let wrong : true ≡ false = sym (one_name prefix name tag.name x.0 e (q ∙ ap Some same)) ∙ h.0 in cc)

    by : (o : Option ℕ) → number_in prefix tag.name ≡ o → AllByRecursion (λ y. equal_by number_cmp x y ≡ false) (filter_map (numbered_kid prefix) ks) → AllByRecursion (λ y. equal_by number_cmp x y ≡ false) (cons_option (option_map (λ n. (n, storage_at tag below)) o) (filter_map (numbered_kid prefix) ks))
    by None q rest = rest
    by (Some m) q rest = (differ m q (nat_cmp m x.0) refl, rest)

numbers_distinct : (prefix : List ℕ) (ks : List Kid) → IsDistinct same_name (map kid_name ks) → IsDistinct (equal_by number_cmp) (filter_map (numbered_kid prefix) ks)
unfolding IsDistinct
numbers_distinct prefix [] h = tt
numbers_distinct prefix (stream_kid tag s ∷ ks) h = numbers_distinct prefix ks h.1
numbers_distinct prefix (storage_kid tag below ∷ ks) h = by (number_in prefix tag.name) refl (numbers_distinct prefix ks h.1)
  where
    by : (o : Option ℕ) → number_in prefix tag.name ≡ o → IsDistinct (equal_by number_cmp) (filter_map (numbered_kid prefix) ks) → IsDistinct (equal_by number_cmp) (cons_option (option_map (λ n. (n, storage_at tag below)) o) (filter_map (numbered_kid prefix) ks))
    by None q rest = rest
    by (Some m) q rest = (number_apart prefix tag.name (m, storage_at tag below) ks q h.0, rest)

-- Numbered storages whose names differ are put in order of their numbers, each once.
pub ordered : (prefix : List ℕ) (c : Children) → AreApart (child_names c) → IsStrictlySorted number_cmp (in_order (numbered_in prefix c)) × IsPermutation (numbered_in prefix c) (in_order (numbered_in prefix c))
ordered prefix c h =
    let names : IsDistinct same_name (map kid_name (kids c)) = subst (IsDistinct same_name) (kid_names c) (unfolded_distinct (child_names c) h) in
    elements_good number_total (numbered_in prefix c) (subst (IsDistinct (equal_by number_cmp)) (sym (numbered_kids prefix c)) (numbers_distinct prefix (kids c) names))
