-- The chain and the stream of an entry, by the stream's size.
use Rattle.std.proofs.Common.{◌≡◌, ℕ, ◌+◌, ◌<◌, ◌≤◌, List, [], ◌++◌, Bool, true, false, refl, sym, ◌∙◌, ap, Ok, Err, Result, arith, subst}
use Rattle.std.specs.Prelude.{IfOk}
use Rattle.std.proofs.lemmas.Bool.{ne_eqb, le-leb, lt-leb}
use Rattle.std.proofs.lemmas.List.{append-nil}
use Rattle.carrier_model.specs.Trail.{Fault}
use Rattle.carrier_model.specs.Outcomes.{mapped}
use Rattle.carrier_model.specs.Entries.{Entry}
use Rattle.carrier_model.specs.Loads.{claim_of, is_long, long_chain_of, short_chain_of, long_stream, short_stream, stream_of, long_part, short_part}
use Rattle.carrier_model.specs.Marks.{Marks}
use Rattle.cfb_sectors.specs.States.{State, entry_of, place_of, chain_claimed, stream_claimed}

is_long-true : (e : Entry) → 4096 ≤ e.size → is_long e ≡ true
is_long-true e big = le-leb 4096 e.size big

is_long-false : (e : Entry) → e.size < 4096 → is_long e ≡ false
is_long-false e little = lt-leb 4096 e.size little

pub long_claimed : (s : State) (id : ℕ) (e : Entry) (o : ℕ) (long short : List ℕ) → e ≡ entry_of s id → o ≡ place_of s id → 4096 ≤ e.size → chain_claimed s id long short ≡ long_chain_of s.size s.file s.loaded.table e.start e.size o long
unfolding claim_of
long_claimed s id e o long short ee eo big =
    ap (λ d. claim_of s.size s.file s.loaded d (place_of s id) long short) (sym ee) ∙ (ap (λ p. claim_of s.size s.file s.loaded e p long short) (sym eo)
    ∙ rw (ne_eqb e.size 0 (λ n. no (omega arith)), is_long-true e big) refl)
  where
    no : 4096 ≤ 0 → ⊥
    no h = omega arith

pub short_claimed : (s : State) (id : ℕ) (e : Entry) (o : ℕ) (long short : List ℕ) → e ≡ entry_of s id → o ≡ place_of s id → (e.size ≡ 0 → ⊥) → e.size < 4096 → chain_claimed s id long short ≡ short_chain_of s.size s.loaded.mini e.start e.size o short
unfolding claim_of
short_claimed s id e o long short ee eo some little =
    ap (λ d. claim_of s.size s.file s.loaded d (place_of s id) long short) (sym ee) ∙ (ap (λ p. claim_of s.size s.file s.loaded e p long short) (sym eo)
    ∙ rw (ne_eqb e.size 0 some, is_long-false e little) refl)

mapped_long : (s : State) (e : Entry) (r : Result (List ℕ) Fault) → 4096 ≤ e.size → mapped (stream_of s.size s.file s.loaded e) r ≡ mapped (long_stream s.size s.file e.size) r
mapped_long s e (Ok c) big = rw (is_long-true e big) refl
mapped_long s e (Err g) big = refl

mapped_short : (s : State) (e : Entry) (r : Result (List ℕ) Fault) → e.size < 4096 → mapped (stream_of s.size s.file s.loaded e) r ≡ mapped (short_stream s.size s.file s.loaded.mini e.size) r
mapped_short s e (Ok c) little = rw (is_long-false e little) refl
mapped_short s e (Err g) little = refl

pub long_streamed : (s : State) (id : ℕ) (e : Entry) (o : ℕ) (long short : List ℕ) → e ≡ entry_of s id → o ≡ place_of s id → 4096 ≤ e.size → mapped (long_stream s.size s.file e.size) (long_chain_of s.size s.file s.loaded.table e.start e.size o long) ≡ stream_claimed s id long short
long_streamed s id e o long short ee eo big =
    ap (mapped (long_stream s.size s.file e.size)) (sym (long_claimed s id e o long short ee eo big))
    ∙ (sym (mapped_long s e (chain_claimed s id long short) big) ∙ ap (λ d. mapped (stream_of s.size s.file s.loaded d) (chain_claimed s id long short)) ee)

pub short_streamed : (s : State) (id : ℕ) (e : Entry) (o : ℕ) (long short : List ℕ) → e ≡ entry_of s id → o ≡ place_of s id → (e.size ≡ 0 → ⊥) → e.size < 4096 → mapped (short_stream s.size s.file s.loaded.mini e.size) (short_chain_of s.size s.loaded.mini e.start e.size o short) ≡ stream_claimed s id long short
short_streamed s id e o long short ee eo some little =
    ap (mapped (short_stream s.size s.file s.loaded.mini e.size)) (sym (short_claimed s id e o long short ee eo some little))
    ∙ (sym (mapped_short s e (chain_claimed s id long short) little) ∙ ap (λ d. mapped (stream_of s.size s.file s.loaded d) (chain_claimed s id long short)) ee)

-- what the chain takes
pub long_taken : (s : State) (id : ℕ) (e : Entry) (chain long short : List ℕ) (marks mini_marks : List Bool) → e ≡ entry_of s id → 4096 ≤ e.size → Marks marks (long ++ chain) → Marks mini_marks short → Marks marks (long ++ long_part (entry_of s id) chain) × Marks mini_marks (short ++ short_part (entry_of s id) chain)
long_taken s id e chain long short marks mini_marks ee big h k =
    let part : long_part (entry_of s id) chain ≡ chain = ap (λ d. long_part d chain) (sym ee) ∙ rw (is_long-true e big) refl in
    let other : short_part (entry_of s id) chain ≡ [] = ap (λ d. short_part d chain) (sym ee) ∙ rw (is_long-true e big) refl in
    (subst (λ (c : List ℕ). Marks marks (long ++ c)) (sym part) h, subst (λ (c : List ℕ). Marks mini_marks c) (sym (ap (λ c. short ++ c) other ∙ append-nil short)) k)

pub short_taken : (s : State) (id : ℕ) (e : Entry) (chain long short : List ℕ) (marks mini_marks : List Bool) → e ≡ entry_of s id → e.size < 4096 → Marks marks long → Marks mini_marks (short ++ chain) → Marks marks (long ++ long_part (entry_of s id) chain) × Marks mini_marks (short ++ short_part (entry_of s id) chain)
short_taken s id e chain long short marks mini_marks ee little h k =
    let part : long_part (entry_of s id) chain ≡ [] = ap (λ d. long_part d chain) (sym ee) ∙ rw (is_long-false e little) refl in
    let other : short_part (entry_of s id) chain ≡ chain = ap (λ d. short_part d chain) (sym ee) ∙ rw (is_long-false e little) refl in
    (subst (λ (c : List ℕ). Marks marks c) (sym (ap (λ c. long ++ c) part ∙ append-nil long)) h, subst (λ (c : List ℕ). Marks mini_marks (short ++ c)) (sym other) k)

pub more_known : {X E : Type 0} (r : Result X E) (P Q : X → Type 0) → ((x : X) → P x → Q x) → IfOk r P → IfOk r Q
more_known (Ok x) P Q f h = f x h
more_known (Err e) P Q f h = tt
