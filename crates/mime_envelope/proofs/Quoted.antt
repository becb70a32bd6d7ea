-- A loop over quoted text, character by character.
use Rattle.std.proofs.Common.{◌≡◌, ℕ, ◌+◌, ◌<◌, ◌≤◌, ◌==◌, if◌then◌else◌, get_or, Bool, true, false, List, [], ◌∷◌, ◌++◌, length, drop, sym, ap, ◌∙◌, append_assoc, arith}
use Rattle.std.proofs.lemmas.Bool.Decides.{nat_tests}
use Rattle.std.proofs.lemmas.List.{append-nil, drop_more, drop_all}
use Rattle.mail_model.specs.Entities.{unquoted, quoted_size}
use Rattle.mail_model.proofs.Parameters.{pending, unquoted-none, unquoted-escaped, unquoted-quote, unquoted-backslash, unquoted-other, quoted_size-none, quoted_size-escaped, quoted_size-quote, quoted_size-backslash, quoted_size-other}

eq_true : (c n : ℕ) → c ≡ n → (c == n) ≡ true
eq_true c n e = grind (arith, nat_tests)

eq_false : (c n : ℕ) → (c ≡ n → ⊥) → (c == n) ≡ false
eq_false c n e = grind (arith, nat_tests)

pub unq_escaped : (v w text u : List ℕ) (i : ℕ) (e f : Bool) → i < length text → v ++ unquoted (pending e (drop i text)) ≡ u → e ≡ true → f ≡ false → w ≡ v ++ get_or text i 0 ∷ [] → w ++ unquoted (pending f (drop (i + 1) text)) ≡ u
unq_escaped v w text u i e f lt inv was now push =
    let c = get_or text i 0 in
    let rest = drop (i + 1) text in
    let here : unquoted (pending e (drop i text)) ≡ c ∷ unquoted rest =
    ap (λ (b : Bool). unquoted (pending b (drop i text))) was ∙ ap (λ (z : List ℕ). unquoted (pending true z)) (drop_more text i 0 lt) ∙ unquoted-escaped c rest in
    ap (λ (b : Bool). w ++ unquoted (pending b rest)) now
    ∙ ap (λ (z : List ℕ). z ++ unquoted rest) push
    ∙ append_assoc v (c ∷ []) (unquoted rest)
    ∙ ap (λ (z : List ℕ). v ++ z) (sym here)
    ∙ inv

pub unq_other : (v w text u : List ℕ) (i : ℕ) (e f : Bool) → i < length text → v ++ unquoted (pending e (drop i text)) ≡ u → e ≡ false → f ≡ false → (get_or text i 0 ≡ 34 → ⊥) → (get_or text i 0 ≡ 92 → ⊥) → w ≡ v ++ get_or text i 0 ∷ [] → w ++ unquoted (pending f (drop (i + 1) text)) ≡ u
unq_other v w text u i e f lt inv was now quote backslash push =
    let c = get_or text i 0 in
    let rest = drop (i + 1) text in
    let here : unquoted (pending e (drop i text)) ≡ c ∷ unquoted rest =
    ap (λ (b : Bool). unquoted (pending b (drop i text))) was ∙ ap unquoted (drop_more text i 0 lt) ∙ unquoted-other c rest (eq_false c 34 quote) (eq_false c 92 backslash) in
    ap (λ (b : Bool). w ++ unquoted (pending b rest)) now
    ∙ ap (λ (z : List ℕ). z ++ unquoted rest) push
    ∙ append_assoc v (c ∷ []) (unquoted rest)
    ∙ ap (λ (z : List ℕ). v ++ z) (sym here)
    ∙ inv

pub unq_backslash : (v w text u : List ℕ) (i : ℕ) (e f : Bool) → i < length text → v ++ unquoted (pending e (drop i text)) ≡ u → e ≡ false → f ≡ true → get_or text i 0 ≡ 92 → w ≡ v → w ++ unquoted (pending f (drop (i + 1) text)) ≡ u
unq_backslash v w text u i e f lt inv was now backslash same =
    let c = get_or text i 0 in
    let rest = drop (i + 1) text in
    let here : unquoted (pending e (drop i text)) ≡ unquoted (pending true rest) =
    ap (λ (b : Bool). unquoted (pending b (drop i text))) was ∙ ap unquoted (drop_more text i 0 lt) ∙ unquoted-backslash c rest (eq_true c 92 backslash) in
    ap (λ (b : Bool). w ++ unquoted (pending b rest)) now
    ∙ ap (λ (z : List ℕ). z ++ unquoted (pending true rest)) same
    ∙ ap (λ (z : List ℕ). v ++ z) (sym here)
    ∙ inv

pub unq_quote : (v text u : List ℕ) (i : ℕ) (e : Bool) → i < length text → v ++ unquoted (pending e (drop i text)) ≡ u → e ≡ false → get_or text i 0 ≡ 34 → v ≡ u
unq_quote v text u i e lt inv was quote =
    let c = get_or text i 0 in
    let rest = drop (i + 1) text in
    let here : unquoted (pending e (drop i text)) ≡ [] =
    ap (λ (b : Bool). unquoted (pending b (drop i text))) was ∙ ap unquoted (drop_more text i 0 lt) ∙ unquoted-quote c rest (eq_true c 34 quote) in
    sym (append-nil v) ∙ ap (λ (z : List ℕ). v ++ z) (sym here) ∙ inv

unq_end : (v w text u : List ℕ) (i : ℕ) (e : Bool) → length text ≤ i → v ++ unquoted (pending e (drop i text)) ≡ u → w ≡ v ++ (if e then 92 ∷ [] else []) → w ≡ u
unq_end v w text u i e le inv push =
    let here : unquoted (pending e (drop i text)) ≡ (if e then 92 ∷ [] else []) =
    ap (λ (z : List ℕ). unquoted (pending e z)) (drop_all i text le) ∙ unquoted-none e in
    push ∙ ap (λ (z : List ℕ). v ++ z) (sym here) ∙ inv

pub unq_end_escaped : (v w text u : List ℕ) (i : ℕ) (e : Bool) → length text ≤ i → v ++ unquoted (pending e (drop i text)) ≡ u → e ≡ true → w ≡ v ++ 92 ∷ [] → w ≡ u
unq_end_escaped v w text u i e le inv was push = unq_end v w text u i e le inv (push ∙ ap (λ (b : Bool). v ++ (if b then 92 ∷ [] else [])) (sym was))

pub unq_end_plain : (v w text u : List ℕ) (i : ℕ) (e : Bool) → length text ≤ i → v ++ unquoted (pending e (drop i text)) ≡ u → e ≡ false → w ≡ v → w ≡ u
unq_end_plain v w text u i e le inv was same = unq_end v w text u i e le inv (same ∙ sym (append-nil v) ∙ ap (λ (b : Bool). v ++ (if b then 92 ∷ [] else [])) (sym was))

abbrev pub extra : Bool → ℕ
extra e = if e then 1 else 0

pub size_escaped : (text : List ℕ) (i q : ℕ) (e f : Bool) → i < length text → i + quoted_size (pending e (drop i text)) ≡ q + extra e → e ≡ true → f ≡ false → i + 1 + quoted_size (pending f (drop (i + 1) text)) ≡ q + extra f
size_escaped text i q e f lt inv was now =
    let c = get_or text i 0 in
    let rest = drop (i + 1) text in
    let here : quoted_size (pending e (drop i text)) ≡ 2 + quoted_size rest =
    ap (λ (b : Bool). quoted_size (pending b (drop i text))) was ∙ ap (λ (z : List ℕ). quoted_size (pending true z)) (drop_more text i 0 lt) ∙ quoted_size-escaped c rest in
    let one : extra e ≡ 1 = ap extra was in
    rw now (omega (arith, here, one, inv))

pub size_other : (text : List ℕ) (i q : ℕ) (e f : Bool) → i < length text → i + quoted_size (pending e (drop i text)) ≡ q + extra e → e ≡ false → f ≡ false → (get_or text i 0 ≡ 34 → ⊥) → (get_or text i 0 ≡ 92 → ⊥) → i + 1 + quoted_size (pending f (drop (i + 1) text)) ≡ q + extra f
size_other text i q e f lt inv was now quote backslash =
    let c = get_or text i 0 in
    let rest = drop (i + 1) text in
    let here : quoted_size (pending e (drop i text)) ≡ 1 + quoted_size rest =
    ap (λ (b : Bool). quoted_size (pending b (drop i text))) was ∙ ap quoted_size (drop_more text i 0 lt) ∙ quoted_size-other c rest (eq_false c 34 quote) (eq_false c 92 backslash) in
    let none : extra e ≡ 0 = ap extra was in
    rw now (omega (arith, here, none, inv))

pub size_backslash : (text : List ℕ) (i q : ℕ) (e f : Bool) → i < length text → i + quoted_size (pending e (drop i text)) ≡ q + extra e → e ≡ false → f ≡ true → get_or text i 0 ≡ 92 → i + 1 + quoted_size (pending f (drop (i + 1) text)) ≡ q + extra f
size_backslash text i q e f lt inv was now backslash =
    let c = get_or text i 0 in
    let rest = drop (i + 1) text in
    let here : quoted_size (pending e (drop i text)) ≡ quoted_size (pending true rest) =
    ap (λ (b : Bool). quoted_size (pending b (drop i text))) was ∙ ap quoted_size (drop_more text i 0 lt) ∙ quoted_size-backslash c rest (eq_true c 92 backslash) in
    let none : extra e ≡ 0 = ap extra was in
    rw now (omega (arith, here, none, inv))

pub size_quote : (text : List ℕ) (i q : ℕ) (e : Bool) → i < length text → i + quoted_size (pending e (drop i text)) ≡ q + extra e → e ≡ false → get_or text i 0 ≡ 34 → i + 1 ≡ q
size_quote text i q e lt inv was quote =
    let c = get_or text i 0 in
    let rest = drop (i + 1) text in
    let here : quoted_size (pending e (drop i text)) ≡ 1 =
    ap (λ (b : Bool). quoted_size (pending b (drop i text))) was ∙ ap quoted_size (drop_more text i 0 lt) ∙ quoted_size-quote c rest (eq_true c 34 quote) in
    let none : extra e ≡ 0 = ap extra was in
    omega (arith, here, none, inv)

pub size_end : (text : List ℕ) (i q : ℕ) (e : Bool) → i ≡ length text → i + quoted_size (pending e (drop i text)) ≡ q + extra e → length text ≡ q
size_end text i q e is inv =
    let here : quoted_size (pending e (drop i text)) ≡ extra e =
    ap (λ (z : List ℕ). quoted_size (pending e z)) (drop_all i text (omega arith)) ∙ quoted_size-none e in
    omega (arith, here, inv)
