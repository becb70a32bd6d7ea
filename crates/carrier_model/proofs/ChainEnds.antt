-- The first fault of a chain, from what a walk over marks gives.
use Rattle.std.proofs.Common.{◌≡◌, ℕ, zero, suc, ◌+◌, ◌-◌, ◌<◌, ◌≤◌, List, [], ◌∷◌, length, get_or, Bool, refl, ◌∙◌, arith, Ok, Err}
use Rattle.std.proofs.lemmas.Bool.{ne_eqb, eq-eqb, le-ltb, lt-ltb}
use Rattle.carrier_model.specs.Chains.{end_word, chain_of, chain_end, named_at, stop_reason}
use Rattle.carrier_model.specs.Marks.{Marks, Stops}
use Rattle.carrier_model.specs.Reasons.{SHORT_CHAIN}
use Rattle.carrier_model.proofs.ChainLaws.{longest_Stops, after_Leads}

pub chain_of-Stops : (T : List ℕ) (at : ℕ → ℕ) (s field b w need : ℕ) (m : List Bool) (e c : List ℕ) (x : ℕ) → Marks m e → b ≤ length m → Stops T s b w m c x → chain_of T at s field b w need e ≡ chain_end at field b need e c x
unfolding chain_of
chain_of-Stops T at s field b w need m e c x h l stops =
    rw (longest_Stops T s b w m e c x h l stops, after_Leads T s c x stops.linked) refl

pub named_at-index : (at : ℕ → ℕ) (field : ℕ) (c : List ℕ) (i d : ℕ) → i + 1 ≡ length c → named_at at field c ≡ at (get_or c i d)
named_at-index at field [] i d e = absurd (omega arith)
named_at-index at field (n ∷ []) zero d e = refl
named_at-index at field (n ∷ []) (suc i) d e = absurd (omega arith)
named_at-index at field (n ∷ k ∷ c) zero d e = absurd (omega arith)
named_at-index at field (n ∷ k ∷ c) (suc i) d e = named_at-index at (at n) (k ∷ c) i d (omega arith)

pub named_at-last : (at : ℕ → ℕ) (field : ℕ) (c : List ℕ) (d : ℕ) → 0 < length c → named_at at field c ≡ at (get_or c (length c - 1) d)
named_at-last at field c d some = named_at-index at field c (length c - 1) d (omega arith)

pub named_at-none : (at : ℕ → ℕ) (field : ℕ) (c : List ℕ) → length c ≡ 0 → named_at at field c ≡ field
named_at-none at field [] none = refl
named_at-none at field (n ∷ c) none = absurd (omega arith)

pub ruleset named = (named_at-last, named_at-none)

pub chain_of-fault : (T : List ℕ) (at : ℕ → ℕ) (s field b w need : ℕ) (m : List Bool) (e c : List ℕ) (x r o : ℕ) → Marks m e → b ≤ length m → Stops T s b w m c x → (x ≡ end_word → ⊥) → r ≡ stop_reason b e c x → o ≡ named_at at field c → chain_of T at s field b w need e ≡ Err (r, o)
chain_of-fault T at s field b w need m e c x r o h l stops other why where' =
    chain_of-Stops T at s field b w need m e c x h l stops ∙ rw (ne_eqb x end_word other, why, where') refl

pub chain_of-short : (T : List ℕ) (at : ℕ → ℕ) (s field b w need : ℕ) (m : List Bool) (e c : List ℕ) (x o : ℕ) → Marks m e → b ≤ length m → Stops T s b w m c x → x ≡ end_word → length c < need → o ≡ named_at at field c → chain_of T at s field b w need e ≡ Err (SHORT_CHAIN, o)
chain_of-short T at s field b w need m e c x o h l stops ends short where' =
    chain_of-Stops T at s field b w need m e c x h l stops ∙ rw (eq-eqb x end_word ends, lt-ltb (length c) need short, where') refl

pub chain_of-ok : (T : List ℕ) (at : ℕ → ℕ) (s field b w need : ℕ) (m : List Bool) (e c : List ℕ) (x : ℕ) → Marks m e → b ≤ length m → Stops T s b w m c x → x ≡ end_word → need ≤ length c → chain_of T at s field b w need e ≡ Ok c
chain_of-ok T at s field b w need m e c x h l stops ends enough =
    chain_of-Stops T at s field b w need m e c x h l stops ∙ rw (eq-eqb x end_word ends, le-ltb (length c) need enough) refl
