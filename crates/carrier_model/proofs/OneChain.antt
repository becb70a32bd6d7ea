-- What is answered is the one chain, and it is answered wherever there is one.
use Rattle.std.proofs.Common.{◌≡◌, ℕ, zero, suc, ◌<◌, ◌≤◌, List, [], ◌∷◌, length, true, false, not, ◌||◌, eqb, ltb, refl, sym, ◌∙◌, ap, arith, Ok, inl, inr}
use Rattle.std.proofs.lemmas.Bool.{ne_eqb, eq-eqb, eqb-true, le-ltb, lt-ltb, ltb-true, ltb-false, cond-true, cond-false, and_parts, not-true, or_parts, cases_Bool, cases_eq}
use Rattle.std.specs.List.{IsDistinct, AllByRecursion}
use Rattle.carrier_model.specs.Chains.{Run, longest, after, member, is_open, word, end_word, chain_of, chain_end, FreshChain}
use Rattle.carrier_model.proofs.ChainLaws.{opened-cons, after_Leads, length-Run}

-- what is open beside a number is open, and another number
pub is_open-rest : (b w : ℕ) (e : List ℕ) (n k : ℕ) → is_open b w (n ∷ e) k ≡ true → (eqb n k ≡ false) × (is_open b w e k ≡ true)
is_open-rest b w e n k h =
    elim (cases_eq k n) [
      | inl same ↦ absurd (let at : eqb k n ≡ true = eq-eqb k n same in let no = not-true _ (and_parts _ _ (and_parts _ _ h).1).1 in let o : (eqb k n || member k e) ≡ false = no in let p = (or_parts (eqb k n) (member k e) o).0 in cc)
      | inr other ↦ (ne_eqb n k (λ q. other (sym q)), rw (ne_eqb k n other) at h)
    ]

pub opened-rest : (b w : ℕ) (e : List ℕ) (n : ℕ) (c : List ℕ) → AllByRecursion (λ k. is_open b w (n ∷ e) k ≡ true) c → AllByRecursion (λ k. eqb n k ≡ false) c × AllByRecursion (λ k. is_open b w e k ≡ true) c
opened-rest b w e n [] h = (tt, tt)
opened-rest b w e n (k ∷ c) h =
    let one = is_open-rest b w e n k h.0 in
    let more = opened-rest b w e n c h.1 in
    ((one.0, more.0), (one.1, more.1))

-- the longest list is such a list
pub Run-longest : (k : ℕ) (T : List ℕ) (s b w : ℕ) (e : List ℕ) → (c : List ℕ) → longest k T s b w e ≡ c → Run T s b w e c (after T s c)
unfolding longest IsDistinct
Run-longest zero T s b w e c is = rw (sym is) (record { linked = refl; distinct = tt; opened = tt })
Run-longest (suc k) T s b w e c is =
    elim (cases_Bool (is_open b w e s)) [
      | inl open' ↦
          let r = Run-longest k T (word T s) b w (s ∷ e) (longest k T (word T s) b w (s ∷ e)) refl in
          let e2 : s ∷ longest k T (word T s) b w (s ∷ e) ≡ c = sym (cond-true (is_open b w e s) _ _ open') ∙ is in
          let parts = opened-rest b w e s (longest k T (word T s) b w (s ∷ e)) r.opened in
          rw (sym e2) (record { linked = (refl, r.linked); distinct = (parts.0, r.distinct); opened = (open', parts.1) })
      | inr shut ↦ rw (sym (sym (cond-false (is_open b w e s) (s ∷ longest k T (word T s) b w (s ∷ e)) [] shut) ∙ is)) (record { linked = refl; distinct = tt; opened = tt })
    ]

-- a run that can't go on is the longest
pub longest_Run : (k : ℕ) (T : List ℕ) (s b w : ℕ) (e c : List ℕ) (x : ℕ) → Run T s b w e c x → ((e2 : List ℕ) → is_open b w e2 x ≡ false) → length c ≤ k → longest k T s b w e ≡ c
unfolding longest IsDistinct
longest_Run zero T s b w e [] x r stuck short = refl
longest_Run (suc k) T s b w e [] x r stuck short = cond-false (is_open b w e s) _ _ (rw r.linked (stuck e))
longest_Run zero T s b w e (n ∷ c) x r stuck short = absurd (omega arith)
longest_Run (suc k) T s b w e (n ∷ c) x r stuck short =
    let run : Run T (word T n) b w (n ∷ e) c x = record { linked = r.linked.1; distinct = r.distinct.1; opened = opened-cons b w e n c r.distinct.0 r.opened.1 } in
    rw r.linked.0 (cond-true (is_open b w e n) _ _ r.opened.0 ∙ ap (λ r. n ∷ r) (longest_Run k T (word T n) b w (n ∷ e) c x run stuck (omega arith)))

pub open-parts : (b w : ℕ) (e : List ℕ) (n : ℕ) → is_open b w e n ≡ true → (n < b) × (n < w) × (member n e ≡ false)
open-parts b w e n h =
    let p = and_parts _ _ h in
    let q = and_parts (ltb n w) (not (member n e)) p.1 in
    (ltb-true n b p.0, ltb-true n w q.0, not-true (member n e) q.1)

pub open-from : (b w : ℕ) (e : List ℕ) (n : ℕ) → n < b → n < w → member n e ≡ false → is_open b w e n ≡ true
open-from b w e n below whole fresh = rw (lt-ltb n b below, lt-ltb n w whole, fresh) refl

pub all-parts : (b w : ℕ) (e c : List ℕ) → AllByRecursion (λ n. is_open b w e n ≡ true) c → AllByRecursion (λ n. n < b) c × AllByRecursion (λ n. n < w) c × AllByRecursion (λ n. member n e ≡ false) c
all-parts b w e [] h = (tt, tt, tt)
all-parts b w e (n ∷ c) h =
    let one = open-parts b w e n h.0 in
    let more = all-parts b w e c h.1 in
    ((one.0, more.0), (one.1, more.1), (one.2, more.2))

pub all-from : (b w : ℕ) (e c : List ℕ) → AllByRecursion (λ n. n < b) c → AllByRecursion (λ n. n < w) c → AllByRecursion (λ n. member n e ≡ false) c → AllByRecursion (λ n. is_open b w e n ≡ true) c
all-from b w e [] below whole fresh = tt
all-from b w e (n ∷ c) below whole fresh = (open-from b w e n below.0 whole.0 fresh.0, all-from b w e c below.1 whole.1 fresh.1)

-- the end is in no list
pub end-shut : (b w : ℕ) → b ≤ end_word → (e : List ℕ) → is_open b w e end_word ≡ false
end-shut b w l e = rw (le-ltb end_word b l) refl

pub chain_of-sound : (T : List ℕ) (at : ℕ → ℕ) (s field b w need : ℕ) (e c : List ℕ) → chain_of T at s field b w need e ≡ Ok c → FreshChain T s b w need e c
unfolding chain_of
chain_of-sound T at s field b w need e c is =
    let l = longest b T s b w e in
    let r : Run T s b w e l (after T s l) = Run-longest b T s b w e l refl in
    elim (cases_Bool (eqb (after T s l) end_word)) [
      | inl ends ↦ elim (cases_Bool (ltb (length l) need)) [
        | inl short ↦ absurd (let i : chain_end at field b need e l (after T s l) ≡ Ok c = is in let j = rw (ends, short) at i in cc)
        | inr enough ↦
            let i : chain_end at field b need e l (after T s l) ≡ Ok c = is in
            let j = rw (ends, enough) at i in
            let same : l ≡ c = cc in
            let parts = all-parts b w e l r.opened in
            rw (sym same) (record {
              chain = record { linked = rw (sym (eqb-true _ _ ends)) r.linked; distinct = r.distinct; below = parts.0 };
              all_whole = parts.1;
              fresh = parts.2;
              enough = ltb-false _ _ enough;
            })
      ]
      | inr others ↦ absurd (let i : chain_end at field b need e l (after T s l) ≡ Ok c = is in let j = rw others at i in cc)
    ]

pub chain_of-only : (T : List ℕ) (at : ℕ → ℕ) (s field b w need : ℕ) (e c : List ℕ) → b ≤ end_word → FreshChain T s b w need e c → chain_of T at s field b w need e ≡ Ok c
unfolding chain_of
chain_of-only T at s field b w need e c l f =
    let r : Run T s b w e c end_word = record { linked = f.chain.linked; distinct = f.chain.distinct; opened = all-from b w e c f.chain.below f.all_whole f.fresh } in
    let is : longest b T s b w e ≡ c = longest_Run b T s b w e c end_word r (end-shut b w l) (length-Run T s b w e c end_word r) in
    rw (is, after_Leads T s c end_word f.chain.linked, le-ltb (length c) need f.enough) refl
