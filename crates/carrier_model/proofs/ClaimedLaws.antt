-- The chains of streams, claimed one after another, against chains that are apart.
use Rattle.std.proofs.Common.{◌≡◌, ℕ, zero, suc, ◌+◌, ◌<◌, ◌≤◌, List, [], ◌∷◌, ◌++◌, map, filter, Bool, true, false, cond, eqb, refl, sym, ◌∙◌, ap, subst, arith, Ok, Result, inl, inr}
use Rattle.std.specs.List.{range_with_len, flat_map, IsDistinct, AllByRecursion}
use Rattle.std.proofs.lemmas.Bool.{ne_eqb, eq-eqb, eqb-true, eqb-false, cond-true, cond-false, leb-true, leb-false, cases_Bool}
use Rattle.std.proofs.lemmas.List.{append_assoc, append-nil}
use Rattle.carrier_model.specs.Trail.{Fault}
use Rattle.carrier_model.specs.Chains.{member, end_word}
use Rattle.carrier_model.specs.Entries.{Entry}
use Rattle.carrier_model.specs.Files.{Claim, claims_of, chain_in}
use Rattle.carrier_model.specs.Links.{Directory}
use Rattle.carrier_model.specs.Loads.{Loaded, chain_bound, mini_bound, claim_of, is_long, long_part, short_part, long_chain_of, short_chain_of}
use Rattle.carrier_model.specs.Holds.{IsLong, IsShort, IsStream, long_parts, short_parts}
use Rattle.carrier_model.proofs.Apart.{distinct-append, distinct-split}
use Rattle.carrier_model.proofs.LoadedLaws.{AreFresh, long_ok, long_from, short_ok, short_from}
use Rattle.carrier_model.proofs.TableLaws.{answered, same_answer}
use Rattle.carrier_model.proofs.VisitLaws.{bind_ok}

long_whole : (e : Entry) (c : List ℕ) → is_long e ≡ true → long_part e c ≡ c
long_whole e c h = cond-true (is_long e) c [] h

long_none : (e : Entry) (c : List ℕ) → is_long e ≡ false → long_part e c ≡ []
long_none e c h = cond-false (is_long e) c [] h

short_none : (e : Entry) (c : List ℕ) → is_long e ≡ true → short_part e c ≡ []
short_none e c h = cond-true (is_long e) [] c h

short_whole : (e : Entry) (c : List ℕ) → is_long e ≡ false → short_part e c ≡ c
short_whole e c h = cond-false (is_long e) [] c h

no_part : (b : Bool) (c : List ℕ) → c ≡ [] → (cond b c [] ≡ []) × (cond b [] c ≡ [])
no_part true c h = (h, refl)
no_part false c h = (refl, h)

-- the stream of an entry, whose chain is clear of the earlier ones
pub record IsClaimed (z : ℕ) (b : List ℕ) (s : Loaded) (e : Entry) (long short c : List ℕ) : Type 0 where
  pub stream : IsStream z b s e c
  pub long_fresh : AreFresh long (long_part e c)
  pub short_fresh : AreFresh short (short_part e c)
  pub long_apart : IsDistinct eqb (long_part e c)
  pub short_apart : IsDistinct eqb (short_part e c)

claimed_none : (z : ℕ) (b : List ℕ) (s : Loaded) (e : Entry) (long short c : List ℕ) → e.size ≡ 0 → c ≡ [] → IsClaimed z b s e long short c
unfolding IsDistinct
claimed_none z b s e long short c none is =
    let parts = no_part (is_long e) c is in
    record {
      stream = record { empty = λ h. is; short = λ some little. absurd (omega (arith, none, some)); long = λ big. absurd (omega (arith, none, big)) };
      long_fresh = subst (AreFresh long) (sym parts.0) tt;
      short_fresh = subst (AreFresh short) (sym parts.1) tt;
      long_apart = subst (λ (p : List ℕ). IsDistinct eqb p) (sym parts.0) tt;
      short_apart = subst (λ (p : List ℕ). IsDistinct eqb p) (sym parts.1) tt;
    }

claimed_long : (z : ℕ) (b : List ℕ) (s : Loaded) (e : Entry) (long short c : List ℕ) → is_long e ≡ true → IsLong z b s.table e.start e.size c → AreFresh long c → IsClaimed z b s e long short c
unfolding IsDistinct
claimed_long z b s e long short c big is fresh =
    let size = leb-true 4096 e.size big in
    record {
      stream = record { empty = λ none. absurd (omega (arith, none, size)); short = λ some little. absurd (omega (arith, little, size)); long = λ h. is };
      long_fresh = subst (AreFresh long) (sym (long_whole e c big)) fresh;
      short_fresh = subst (AreFresh short) (sym (short_none e c big)) tt;
      long_apart = subst (λ (p : List ℕ). IsDistinct eqb p) (sym (long_whole e c big)) is.chain.distinct;
      short_apart = subst (λ (p : List ℕ). IsDistinct eqb p) (sym (short_none e c big)) tt;
    }

claimed_short : (z : ℕ) (b : List ℕ) (s : Loaded) (e : Entry) (long short c : List ℕ) → (e.size ≡ 0 → ⊥) → is_long e ≡ false → IsShort s.mini e.start e.size c → AreFresh short c → IsClaimed z b s e long short c
unfolding IsDistinct
claimed_short z b s e long short c other little is fresh =
    let size = leb-false 4096 e.size little in
    record {
      stream = record { empty = λ none. absurd (other none); short = λ some h. is; long = λ h. absurd (omega (arith, h, size)) };
      long_fresh = subst (AreFresh long) (sym (long_none e c little)) tt;
      short_fresh = subst (AreFresh short) (sym (short_whole e c little)) fresh;
      long_apart = subst (λ (p : List ℕ). IsDistinct eqb p) (sym (long_none e c little)) tt;
      short_apart = subst (λ (p : List ℕ). IsDistinct eqb p) (sym (short_whole e c little)) is.chain.distinct;
    }

-- the chain of an entry that has bytes
some_claim : ℕ → List ℕ → Loaded → Entry → ℕ → List ℕ → List ℕ → Result (List ℕ) Fault
some_claim z b s e o long short = cond (is_long e) (long_chain_of z b s.table e.start e.size o long) (short_chain_of z s.mini e.start e.size o short)

pub claim_ok : (z : ℕ) (b : List ℕ) (s : Loaded) (e : Entry) (o : ℕ) (long short c : List ℕ) → claim_of z b s e o long short ≡ Ok c → IsClaimed z b s e long short c
unfolding claim_of some_claim
claim_ok z b s e o long short c is =
    elim (cases_Bool (eqb e.size 0)) [
      | inl none ↦ claimed_none z b s e long short c (eqb-true e.size 0 none) (sym (same_answer [] c (sym (cond-true (eqb e.size 0) (answered []) (some_claim z b s e o long short) none) ∙ is)))
      | inr some ↦
          let here : some_claim z b s e o long short ≡ Ok c = sym (cond-false (eqb e.size 0) (answered []) (some_claim z b s e o long short) some) ∙ is in
          elim (cases_Bool (is_long e)) [
            | inl big ↦
                let l = long_ok z b s.table e.start e.size o long c (sym (cond-true (is_long e) (long_chain_of z b s.table e.start e.size o long) (short_chain_of z s.mini e.start e.size o short) big) ∙ here) in
                claimed_long z b s e long short c big l.0 l.1
            | inr little ↦
                let l = short_ok z s.mini e.start e.size o short c (sym (cond-false (is_long e) (long_chain_of z b s.table e.start e.size o long) (short_chain_of z s.mini e.start e.size o short) little) ∙ here) in
                claimed_short z b s e long short c (eqb-false e.size 0 some) little l.0 l.1
          ]
    ]

pub claim_from : (z : ℕ) (b : List ℕ) (s : Loaded) (e : Entry) (o : ℕ) (long short c : List ℕ) → chain_bound z b s.table.words ≤ end_word → mini_bound s.mini ≤ end_word → IsStream z b s e c → AreFresh long (long_part e c) → AreFresh short (short_part e c) → claim_of z b s e o long short ≡ Ok c
unfolding claim_of some_claim
claim_from z b s e o long short c few mini_few is long_fresh short_fresh =
    elim (cases_Bool (eqb e.size 0)) [
      | inl none ↦ cond-true (eqb e.size 0) (answered []) (some_claim z b s e o long short) none ∙ ap answered (sym (is.empty (eqb-true e.size 0 none)))
      | inr some ↦
          cond-false (eqb e.size 0) (answered []) (some_claim z b s e o long short) some
          ∙ elim (cases_Bool (is_long e)) [
            | inl big ↦
                cond-true (is_long e) (long_chain_of z b s.table e.start e.size o long) (short_chain_of z s.mini e.start e.size o short) big
                ∙ long_from z b s.table e.start e.size o long c few (is.long (leb-true 4096 e.size big)) (subst (AreFresh long) (long_whole e c big) long_fresh)
            | inr little ↦
                cond-false (is_long e) (long_chain_of z b s.table e.start e.size o long) (short_chain_of z s.mini e.start e.size o short) little
                ∙ short_from z s.mini e.start e.size o short c mini_few (is.short (omega (arith, eqb-false e.size 0 some)) (leb-false 4096 e.size little)) (subst (AreFresh short) (short_whole e c little) short_fresh)
          ]
    ]

-- streams that are claimed, each by its entry
pub record AreClaimed (z : ℕ) (b : List ℕ) (s : Loaded) (d : Directory) (ids long short : List ℕ) (cs : List Claim) : Type 0 where
  pub numbers : map (λ (c : Claim). c.id) cs ≡ ids
  pub streams : AllByRecursion (λ (c : Claim). IsStream z b s (d.entry c.id) c.chain) cs
  pub apart : IsDistinct eqb (long ++ flat_map (λ (c : Claim). long_part (d.entry c.id) c.chain) cs)
  pub mini_apart : IsDistinct eqb (short ++ flat_map (λ (c : Claim). short_part (d.entry c.id) c.chain) cs)

pub claims_ok : (z : ℕ) (b : List ℕ) (s : Loaded) (d : Directory) (ids long short : List ℕ) (cs : List Claim) → claims_of z b s d ids long short ≡ Ok cs → IsDistinct eqb long → IsDistinct eqb short → AreClaimed z b s d ids long short cs
unfolding claims_of
claims_ok z b s d [] long short cs is l m =
    let none : [] ≡ cs = same_answer [] cs is in
    subst (AreClaimed z b s d [] long short) none (record {
      numbers = refl;
      streams = tt;
      apart = rw append-nil l;
      mini_apart = rw append-nil m;
    })
claims_ok z b s d (id ∷ ids) long short cs is l m =
    let e = d.entry id in
    let p = bind_ok (claim_of z b s e (d.place id) long short) _ cs is in
    let c = p.0 in
    let one = claim_ok z b s e (d.place id) long short c p.1 in
    let long2 = long ++ long_part e c in
    let short2 = short ++ short_part e c in
    let q = bind_ok (claims_of z b s d ids long2 short2) _ cs p.2 in
    let more = claims_ok z b s d ids long2 short2 q.0 q.1 (distinct-append long (long_part e c) l one.long_apart one.long_fresh) (distinct-append short (short_part e c) m one.short_apart one.short_fresh) in
    let first : Claim = record { id = id; chain = c } in
    subst (AreClaimed z b s d (id ∷ ids) long short) (same_answer (first ∷ q.0) cs q.2) (record {
      numbers = ap (λ (xs : List ℕ). id ∷ xs) more.numbers;
      streams = (one.stream, more.streams);
      apart = rw (← append_assoc long (long_part e c) (flat_map (λ (c : Claim). long_part (d.entry c.id) c.chain) q.0)) more.apart;
      mini_apart = rw (← append_assoc short (short_part e c) (flat_map (λ (c : Claim). short_part (d.entry c.id) c.chain) q.0)) more.mini_apart;
    })

-- the claims of these entries, with given chains
abbrev pub claims_with : (ℕ → List ℕ) → List ℕ → List Claim
claims_with f [] = []
claims_with f (id ∷ ids) = record { id = id; chain = f id } ∷ claims_with f ids

pub claims_from : (z : ℕ) (b : List ℕ) (s : Loaded) (d : Directory) (f : ℕ → List ℕ) (ids long short : List ℕ) → chain_bound z b s.table.words ≤ end_word → mini_bound s.mini ≤ end_word → AllByRecursion (λ id. IsStream z b s (d.entry id) (f id)) ids → IsDistinct eqb (long ++ long_parts d f ids) → IsDistinct eqb (short ++ short_parts d f ids) → claims_of z b s d ids long short ≡ Ok (claims_with f ids)
unfolding claims_of
claims_from z b s d f [] long short few mini_few streams l m = refl
claims_from z b s d f (id ∷ ids) long short few mini_few streams l m =
    let e = d.entry id in
    let l2 : IsDistinct eqb ((long ++ long_part e (f id)) ++ long_parts d f ids) = rw (append_assoc long (long_part e (f id)) (long_parts d f ids)) l in
    let m2 : IsDistinct eqb ((short ++ short_part e (f id)) ++ short_parts d f ids) = rw (append_assoc short (short_part e (f id)) (short_parts d f ids)) m in
    let lf = distinct-split long (long_part e (f id)) (distinct-split (long ++ long_part e (f id)) (long_parts d f ids) l2).0 in
    let mf = distinct-split short (short_part e (f id)) (distinct-split (short ++ short_part e (f id)) (short_parts d f ids) m2).0 in
    rw (claim_from z b s e (d.place id) long short (f id) few mini_few streams.0 lf.2 mf.2, claims_from z b s d f ids (long ++ long_part e (f id)) (short ++ short_part e (f id)) few mini_few streams.1 l2 m2) refl

-- the chain that is found of a claimed entry
pub chain_with : (f : ℕ → List ℕ) (ids : List ℕ) (q : ℕ) → member q ids ≡ true → chain_in (claims_with f ids) q ≡ f q
chain_with f [] q h = absurd (cc)
chain_with f (id ∷ ids) q h =
    elim (cases_Bool (eqb id q)) [
      | inl same ↦ cond-true (eqb id q) (f id) (chain_in (claims_with f ids) q) same ∙ ap f (eqb-true id q same)
      | inr other ↦
          let no : eqb q id ≡ false = ne_eqb q id (λ e. eqb-false id q other (sym e)) in
          cond-false (eqb id q) (f id) (chain_in (claims_with f ids) q) other ∙ chain_with f ids q (rw no at h)
    ]

-- a function that gives each claim's chain
abbrev pub Agrees : (ℕ → List ℕ) → List Claim → Type 0
Agrees f cs = AllByRecursion (λ (c : Claim). f c.id ≡ c.chain) cs

agrees-later : (first : Claim) (cs ds : List Claim) → AllByRecursion (λ y. eqb first.id y ≡ false) (map (λ (c : Claim). c.id) ds) → Agrees (chain_in cs) ds → Agrees (chain_in (first ∷ cs)) ds
agrees-later first cs [] other h = tt
agrees-later first cs (c ∷ ds) other h =
    (cond-false (eqb first.id c.id) first.chain (chain_in cs c.id) other.0 ∙ h.0, agrees-later first cs ds other.1 h.1)

pub chain_in-agrees : (cs : List Claim) → IsDistinct eqb (map (λ (c : Claim). c.id) cs) → Agrees (chain_in cs) cs
unfolding IsDistinct
chain_in-agrees [] h = tt
chain_in-agrees (c ∷ cs) h =
    (cond-true (eqb c.id c.id) c.chain (chain_in cs c.id) (eq-eqb c.id c.id refl), agrees-later c cs cs h.0 (chain_in-agrees cs h.1))

pub streams-by_number : (P : ℕ → List ℕ → Type 0) (f : ℕ → List ℕ) (cs : List Claim) → Agrees f cs → AllByRecursion (λ (c : Claim). P c.id c.chain) cs → AllByRecursion (λ id. P id (f id)) (map (λ (c : Claim). c.id) cs)
streams-by_number P f [] same h = tt
streams-by_number P f (c ∷ cs) same h = (subst (P c.id) (sym same.0) h.0, streams-by_number P f cs same.1 h.1)

pub parts-by_number : (g : ℕ → List ℕ → List ℕ) (f : ℕ → List ℕ) (cs : List Claim) → Agrees f cs → flat_map (λ (c : Claim). g c.id c.chain) cs ≡ flat_map (λ id. g id (f id)) (map (λ (c : Claim). c.id) cs)
parts-by_number g f [] same = refl
parts-by_number g f (c ∷ cs) same = rw (parts-by_number g f cs same.1, same.0) refl

-- a filter of rising numbers has none twice
above : (p : ℕ → Bool) (x a n : ℕ) → x < a → AllByRecursion (λ y. eqb x y ≡ false) (filter p (range_with_len a n))
above p x a zero h = tt
above p x a (suc n) h =
    elim (cases_Bool (p a)) [
      | inl kept ↦ subst (λ (l : List ℕ). AllByRecursion (λ y. eqb x y ≡ false) l) (sym (cond-true (p a) (a ∷ filter p (range_with_len (a + 1) n)) (filter p (range_with_len (a + 1) n)) kept)) (ne_eqb x a (λ e. absurd (omega (arith, e, h))), above p x (a + 1) n (omega (arith, h)))
      | inr left ↦ subst (λ (l : List ℕ). AllByRecursion (λ y. eqb x y ≡ false) l) (sym (cond-false (p a) (a ∷ filter p (range_with_len (a + 1) n)) (filter p (range_with_len (a + 1) n)) left)) (above p x (a + 1) n (omega (arith, h)))
    ]

pub rising-apart : (p : ℕ → Bool) (a n : ℕ) → IsDistinct eqb (filter p (range_with_len a n))
unfolding IsDistinct
rising-apart p a zero = tt
rising-apart p a (suc n) =
    elim (cases_Bool (p a)) [
      | inl kept ↦ subst (λ (l : List ℕ). IsDistinct eqb l) (sym (cond-true (p a) (a ∷ filter p (range_with_len (a + 1) n)) (filter p (range_with_len (a + 1) n)) kept)) (above p a (a + 1) n (omega arith), rising-apart p (a + 1) n)
      | inr left ↦ subst (λ (l : List ℕ). IsDistinct eqb l) (sym (cond-false (p a) (a ∷ filter p (range_with_len (a + 1) n)) (filter p (range_with_len (a + 1) n)) left)) (rising-apart p (a + 1) n)
    ]
