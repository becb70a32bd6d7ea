-- Runs of a body that are kept.
use Rattle.std.proofs.Common.{◌≡◌, ℕ, zero, suc, ◌+◌, ◌<◌, ◌≤◌, Bool, true, false, not, List, [], ◌∷◌, ◌++◌, length, take, drop, refl, sym, ap, ◌∙◌, arith}
use Rattle.std.proofs.lemmas.Bool.{and_parts}
use Rattle.std.proofs.lemmas.List.{take-append-drop}
use Rattle.std.proofs.lemmas.List.Elements.{filter-append}
use Rattle.std.specs.List.{prefix_len, filter, list_all}
use Rattle.mail_model.specs.Envelope.{characters, is_skipped}
use Rattle.mime_envelope.specs.Parts.{is_kept}

kept_front : (p : ℕ → Bool) (front rest : List ℕ) → list_all p front ≡ true → prefix_len p (front ++ rest) ≡ length front + prefix_len p rest
kept_front p [] rest all = omega arith
kept_front p (c ∷ front) rest all =
    let both = and_parts (p c) (list_all p front) all in
    rw both.0 (omega (arith, kept_front p front rest both.1))

-- a block in front that is kept
pub kept_block : (rest block after : List ℕ) (n : ℕ) → block ≡ take n rest → after ≡ drop n rest → list_all is_kept block ≡ true → prefix_len is_kept rest ≡ length block + prefix_len is_kept after
kept_block rest block after n front back all =
    let whole : rest ≡ block ++ after = sym (take-append-drop n rest) ∙ (λ i. sym front i ++ sym back i) in
    ap (prefix_len is_kept) whole ∙ kept_front is_kept block after all

run_by : (p : ℕ → Bool) (x : ℕ) (xs : List ℕ) (k : ℕ) (b : Bool) → p x ≡ b → suc k ≤ prefix_len p (x ∷ xs) → (k ≤ prefix_len p xs → filter p (take k xs) ≡ take k xs) → filter p (x ∷ take k xs) ≡ x ∷ take k xs
run_by p x xs k true e le more = let few = rw e at le in rw e (ap (λ (l : List ℕ). x ∷ l) (more (omega arith)))
run_by p x xs k false e le more = let few = rw e at le in absurd (omega arith)

filter_run : (p : ℕ → Bool) (xs : List ℕ) (k : ℕ) → k ≤ prefix_len p xs → filter p (take k xs) ≡ take k xs
filter_run p xs zero le = refl
filter_run p [] (suc k) le = refl
filter_run p (x ∷ xs) (suc k) le = run_by p x xs k (p x) refl le (filter_run p xs k)

behind_by : (q : ℕ → Bool) (x : ℕ) (xs : List ℕ) (b : Bool) → q x ≡ b → filter (λ c. not (q c)) (drop (prefix_len q xs) xs) ≡ filter (λ c. not (q c)) xs → filter (λ c. not (q c)) (drop (prefix_len q (x ∷ xs)) (x ∷ xs)) ≡ filter (λ c. not (q c)) (x ∷ xs)
behind_by q x xs true e before =
    let one : 1 + prefix_len q xs ≡ suc (prefix_len q xs) = omega arith in
    rw (e, one) before
behind_by q x xs false e before =
    let none : prefix_len q (x ∷ xs) ≡ 0 = rw e refl in
    ap (λ (i : ℕ). filter (λ c. not (q c)) (drop i (x ∷ xs))) none

behind_skipped : (q : ℕ → Bool) (xs : List ℕ) → filter (λ c. not (q c)) (drop (prefix_len q xs) xs) ≡ filter (λ c. not (q c)) xs
behind_skipped q [] = refl
behind_skipped q (x ∷ xs) = behind_by q x xs (q x) refl (behind_skipped q xs)

take_by : (p : ℕ → Bool) (x : ℕ) (xs : List ℕ) (r : ℕ) (b : Bool) → p x ≡ b → prefix_len p (take r xs) ≤ prefix_len p xs → prefix_len p (x ∷ take r xs) ≤ prefix_len p (x ∷ xs)
take_by p x xs r true e le = rw e (omega arith)
take_by p x xs r false e le = rw e (omega arith)

kept_take : (p : ℕ → Bool) (xs : List ℕ) (r : ℕ) → prefix_len p (take r xs) ≤ prefix_len p xs
kept_take p xs zero = omega arith
kept_take p [] (suc r) = omega arith
kept_take p (x ∷ xs) (suc r) = take_by p x xs r (p x) refl (kept_take p xs r)

-- a run that ends in the first r bytes, and what stands behind the skipped bytes that follow it
pub run_kept : (body front run after rest : List ℕ) (r k m : ℕ) → front ≡ take r body → k ≡ prefix_len is_kept front → run ≡ take k body → after ≡ drop k body → m ≡ prefix_len is_skipped after → rest ≡ drop m after → run ++ characters rest ≡ characters body
run_kept body front run after rest r k m cut count is back skipped last =
    let few : k ≡ prefix_len is_kept (take r body) = count ∙ ap (prefix_len is_kept) cut in
    let kept : characters (take k body) ≡ take k body = filter_run is_kept body k (omega (arith, few, kept_take is_kept body r)) in
    let left : characters rest ≡ characters (drop k body) = ap characters last ∙ ap (λ (i : ℕ). characters (drop i after)) skipped ∙ behind_skipped is_skipped after ∙ ap characters back in
    sym (ap characters (sym (take-append-drop k body)) ∙ filter-append is_kept (take k body) (drop k body) ∙ (λ i. kept i ++ characters (drop k body)) ∙ (λ i. sym is i ++ sym left i))

less_by : (c : ℕ) (others : List ℕ) (b : Bool) (r k m : ℕ) → is_skipped c ≡ b → k ≡ prefix_len is_kept (c ∷ take r others) → m ≡ prefix_len is_skipped (drop k (c ∷ others)) → 0 < k + m
less_by c others true r k m e count skipped =
    let none : k ≡ 0 = count ∙ rw e refl in
    let more : prefix_len is_skipped (c ∷ others) ≡ 1 + prefix_len is_skipped others = rw e refl in
    let size : m ≡ 1 + prefix_len is_skipped others = skipped ∙ ap (λ (i : ℕ). prefix_len is_skipped (drop i (c ∷ others))) none ∙ more in
    omega arith
less_by c others false r k m e count skipped =
    let one : k ≡ 1 + prefix_len is_kept (take r others) = count ∙ rw e refl in
    omega arith

-- of bytes that aren't empty something is taken
pub run_less : (body front after : List ℕ) (r k m : ℕ) → 0 < length body → 0 < r → front ≡ take r body → k ≡ prefix_len is_kept front → after ≡ drop k body → m ≡ prefix_len is_skipped after → 0 < k + m
run_less [] front after r k m some room cut count back skipped = absurd (omega arith)
run_less (c ∷ others) front after zero k m some room cut count back skipped = absurd (omega arith)
run_less (c ∷ others) front after (suc r) k m some room cut count back skipped = less_by c others (is_skipped c) r k m refl (count ∙ ap (prefix_len is_kept) cut) (skipped ∙ ap (prefix_len is_skipped) back)
