-- Values of an array that are appended one by one.
use Rattle.std.proofs.Common.{◌≡◌, ◌∙◌, ap, sym, refl, ℕ, zero, suc, ◌+◌, ◌≤◌, ◌<◌, List, [], ◌∷◌, ◌++◌, length, map, take, take_all, drop, Bool, true, false, Option, Some, append_assoc, arith}
use Rattle.std.specs.Prelude.{slice_get, ◌||◌, nat_lt, Result, Ok, Err}
use Rattle.std.specs.Result.{IsErr}
use Rattle.std.proofs.lemmas.Bool.Decides.{nat_tests}
use Rattle.std.proofs.lemmas.List.{append-nil, map-append, take-append-drop}
use Rattle.carrier_model.proofs.Messages.{taken_at}
use Rattle.carrier_io.proofs.Known.{did}
use Rattle.json_writer.specs.Counted.{Counts}
use Rattle.json_writer.proofs.Counted.{SoFar, so_far_as, one_more, stops, all_done, andthen, failing, counts_as}
use Rattle.serde_json.specs.Data.{Data}
use Rattle.serde_json.specs.View.{items_of}
use Rattle.serde_json.specs.Written.{compact_text, items_text, comma_if}
use Rattle.json_model.specs.Properties.{listed_json}
use Rattle.tree_json.specs.Lists.{behind}

-- ---- runs of values

abbrev pub filled : {A : Type 0} → List A → Bool
filled [] = false
filled (x ∷ xs) = true

or_false : (b : Bool) → (b || false) ≡ b
or_false true = refl
or_false false = refl

or_true : (b : Bool) → (b || true) ≡ true
or_true true = refl
or_true false = refl

pub behind-append : (later : Bool) (ds es : List Data) → behind later (ds ++ es) ≡ behind later ds ++ behind (later || filled ds) es
behind-append later [] es = ap (λ b. behind b es) (sym (or_false later))
behind-append later (d ∷ ds) es =
    let c = comma_if later in
    let x = compact_text d in
    let rest : behind true (ds ++ es) ≡ behind true ds ++ behind (later || true) es = behind-append true ds es ∙ ap (λ b. behind true ds ++ behind b es) (sym (or_true later)) in
    ap (λ (z : List ℕ). c ++ (x ++ z)) rest
    ∙ ap (λ (z : List ℕ). c ++ z) (sym (append_assoc x (behind true ds) (behind (later || true) es)))
    ∙ sym (append_assoc c (x ++ behind true ds) (behind (later || true) es))

pub some_before : (k : ℕ) → true ≡ nat_lt 0 (suc k)
some_before k = grind (arith, nat_tests)

filled_front : {A B : Type 0} (f : A → B) (xs : List A) (k : ℕ) (x : A) → slice_get xs k ≡ Some x → filled (map f (take k xs)) ≡ nat_lt 0 k
filled_front f xs zero x at = refl
filled_front f [] (suc k) x at = absurd cc
filled_front f (y ∷ ys) (suc k) x at = some_before k

-- the values up to a place, and the one that stands there
behind_more : {A : Type 0} (f : A → Data) (xs : List A) (k : ℕ) (x : A) → slice_get xs k ≡ Some x → behind false (map f (take (k + 1) xs)) ≡ behind false (map f (take k xs)) ++ (comma_if (nat_lt 0 k) ++ compact_text (f x))
behind_more f xs k x at =
    let front = map f (take k xs) in
    ap (λ l. behind false (map f l)) (taken_at xs k x at) ∙ ap (behind false) (map-append f (take k xs) (x ∷ []))
    ∙ behind-append false front (f x ∷ []) ∙ ap (λ b. behind false front ++ (comma_if b ++ (compact_text (f x) ++ []))) (filled_front f xs k x at)
    ∙ ap (λ (z : List ℕ). behind false front ++ (comma_if (nat_lt 0 k) ++ z)) (append-nil (compact_text (f x)))

-- and what is behind it
behind_parts : {A : Type 0} (f : A → Data) (xs : List A) (k : ℕ) (x : A) → slice_get xs k ≡ Some x → (z : List ℕ) × (behind false (map f xs) ≡ behind false (map f (take k xs)) ++ (comma_if (nat_lt 0 k) ++ (compact_text (f x) ++ z)))
behind_parts f xs k x at =
    let front = map f (take (k + 1) xs) in
    let z = behind (filled front) (map f (drop (k + 1) xs)) in
    let B = behind false (map f (take k xs)) in
    let c = comma_if (nat_lt 0 k) in (
      z,
      ap (λ l. behind false (map f l)) (sym (take-append-drop (k + 1) xs)) ∙ ap (behind false) (map-append f (take (k + 1) xs) (drop (k + 1) xs))
          ∙ behind-append false front (map f (drop (k + 1) xs)) ∙ ap (λ (l : List ℕ). l ++ z) (behind_more f xs k x at)
          ∙ append_assoc B (c ++ compact_text (f x)) z ∙ ap (λ (l : List ℕ). B ++ l) (append_assoc c (compact_text (f x)) z),
    )

pub items_behind : (later : Bool) (ds : List Data) → items_text later (items_of ds) ≡ behind later ds ++ 93 ∷ []
items_behind later [] = refl
items_behind later (d ∷ ds) =
    let c = comma_if later in
    let x = compact_text d in
    ap (λ (z : List ℕ). c ++ (x ++ z)) (items_behind true ds)
    ∙ ap (λ (z : List ℕ). c ++ z) (sym (append_assoc x (behind true ds) (93 ∷ [])))
    ∙ sym (append_assoc c (x ++ behind true ds) (93 ∷ []))

pub listed_text : (ds : List Data) → 91 ∷ (behind false ds ++ 93 ∷ []) ≡ compact_text (listed_json ds)
listed_text ds = ap (λ (z : List ℕ). 91 ∷ z) (sym (items_behind false ds))

-- how many values there are
pub filled_length : {A B : Type 0} (f : A → B) (xs : List A) → filled (map f xs) ≡ nat_lt 0 (length xs)
filled_length f [] = refl
filled_length f (x ∷ xs) = some_before (length xs)

-- one value behind others
pub behind_last : {A : Type 0} (f : A → Data) (xs : List A) (x : A) → behind false (map f xs) ++ (comma_if (nat_lt 0 (length xs)) ++ compact_text (f x)) ≡ behind false (map f (xs ++ x ∷ []))
behind_last f xs x =
    let front = map f xs in
    ap (λ (z : List ℕ). behind false front ++ (comma_if (nat_lt 0 (length xs)) ++ z)) (sym (append-nil (compact_text (f x))))
    ∙ ap (λ b. behind false front ++ (comma_if b ++ (compact_text (f x) ++ []))) (sym (filled_length f xs))
    ∙ sym (ap (behind false) (map-append f xs (x ∷ [])) ∙ behind-append false front (f x ∷ []))

-- ---- calls

-- the exit before the first value
pub listed_first : {A E F : Type 0} {a b : Option (List ℕ)} {n m s t u : ℕ} {r : Result (Unit {0}) F} {e : E} (f : A → Data) (xs : List A) → IsErr r → Counts {E = E} a b n m s t (Err e) (91 ∷ []) → Counts {E = F} a b n m s u r (compact_text (listed_json (map f xs)))
listed_first f xs err w = counts_as _ (listed_text (map f xs)) (failing (behind false (map f xs) ++ 93 ∷ []) err w)

pub listed_init : {A E : Type 0} {a b : Option (List ℕ)} {n m s t : ℕ} (f : A → Data) (xs : List A) → Counts {E = E} a b n m s t (Ok tt) (91 ∷ []) → SoFar a b n m s t (91 ∷ behind false (map f (take 0 xs)))
listed_init {a = a} {b = b} {n = n} {m = m} f xs w = record { did = did a b n m (91 ∷ []) w.writes; counted = w.counted }

some_at : {A : Type 0} (xs : List A) (k : ℕ) → k < length xs → (x : A) × (slice_get xs k ≡ Some x)
some_at [] k lt = absurd (omega (arith, lt))
some_at (x ∷ xs) zero lt = (x, refl)
some_at (x ∷ xs) (suc k) lt = some_at xs k (omega (arith, lt))

-- one value more
pub listed_more : {A E F : Type 0} {a b c d : Option (List ℕ)} {n m l j s t u v : ℕ} (f : A → Data) (xs : List A) (k : ℕ) (x : A) → slice_get xs k ≡ Some x → SoFar a b n m s t (91 ∷ behind false (map f (take k xs)))
    → Counts {E = E} b c m l t u (Ok tt) (comma_if (nat_lt 0 k)) → Counts {E = F} c d l j u v (Ok tt) (compact_text (f x)) → SoFar a d n j s v (91 ∷ behind false (map f (take (k + 1) xs)))
listed_more f xs k x at p comma w =
    let B = behind false (map f (take k xs)) in
    so_far_as _ (ap (λ (z : List ℕ). 91 ∷ z) (append_assoc B (comma_if (nat_lt 0 k)) (compact_text (f x)) ∙ sym (behind_more f xs k x at))) (one_more (one_more p comma) w)

listed_parts : {A : Type 0} (f : A → Data) (xs : List A) (k : ℕ) (x : A) → slice_get xs k ≡ Some x → (z : List ℕ) × (compact_text (listed_json (map f xs)) ≡ (91 ∷ behind false (map f (take k xs))) ++ (comma_if (nat_lt 0 k) ++ (compact_text (f x) ++ z)))
listed_parts f xs k x at =
    let p = behind_parts f xs k x at in
    let B = behind false (map f (take k xs)) in
    let c = comma_if (nat_lt 0 k) in (
      p.0 ++ 93 ∷ [],
      sym (listed_text (map f xs)) ∙ ap (λ (l : List ℕ). 91 ∷ (l ++ 93 ∷ [])) p.1
          ∙ ap (λ (l : List ℕ). 91 ∷ l) (append_assoc B (c ++ (compact_text (f x) ++ p.0)) (93 ∷ []) ∙ ap (λ (l : List ℕ). B ++ l) (append_assoc c (compact_text (f x) ++ p.0) (93 ∷ []) ∙ ap (λ (l : List ℕ). c ++ l) (append_assoc (compact_text (f x)) p.0 (93 ∷ [])))),
    )

-- the exit before a value
pub listed_comma : {A E F : Type 0} {a b c : Option (List ℕ)} {n m l s t u v : ℕ} {r : Result (Unit {0}) F} {e : E} (f : A → Data) (xs : List A) (k : ℕ) → k < length xs → IsErr r → SoFar a b n m s t (91 ∷ behind false (map f (take k xs)))
    → Counts {E = E} b c m l t u (Err e) (comma_if (nat_lt 0 k)) → Counts {E = F} a c n l s v r (compact_text (listed_json (map f xs)))
listed_comma f xs k lt err p w =
    let (x, at) = some_at xs k lt in
    let q = listed_parts f xs k x at in
    stops _ _ q.1 err p w

-- and in it
pub listed_stops : {A E F G : Type 0} {a b c d : Option (List ℕ)} {n m l j s t u v w : ℕ} {r : Result (Unit {0}) G} {e : F} (f : A → Data) (xs : List A) (k : ℕ) (x : A) → slice_get xs k ≡ Some x → IsErr r → SoFar a b n m s t (91 ∷ behind false (map f (take k xs)))
    → Counts {E = E} b c m l t u (Ok tt) (comma_if (nat_lt 0 k)) → Counts {E = F} c d l j u v (Err e) (compact_text (f x)) → Counts {E = G} a d n j s w r (compact_text (listed_json (map f xs)))
listed_stops f xs k x at err p comma w =
    let q = listed_parts f xs k x at in
    let B = behind false (map f (take k xs)) in
    stops _ q.0 (q.1 ∙ sym (append_assoc (91 ∷ B) (comma_if (nat_lt 0 k)) (compact_text (f x) ++ q.0))) err (one_more p comma) w

-- the end
pub listed_ends : {A E : Type 0} {a b c : Option (List ℕ)} {n m l s t u : ℕ} {r : Result (Unit {0}) E} (f : A → Data) (xs : List A) (k : ℕ) → length xs ≤ k → SoFar a b n m s t (91 ∷ behind false (map f (take k xs)))
    → Counts {E = E} b c m l t u r (93 ∷ []) → Counts {E = E} a c n l s u r (compact_text (listed_json (map f xs)))
listed_ends {E = E} f xs k all p w =
    counts_as _ (ap (λ l. 91 ∷ (behind false (map f l) ++ 93 ∷ [])) (take_all k xs all) ∙ listed_text (map f xs)) (andthen (all_done {E = E} (91 ∷ behind false (map f (take k xs))) refl p) w)
