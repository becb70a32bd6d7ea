-- Bytes that a decoder takes, one run behind another.
use Rattle.std.proofs.Common.{◌≡◌, ℕ, ◌+◌, ◌*◌, List, [], ◌∷◌, ◌++◌, Bool, true, false, Option, None, Some, refl, sym, ap, ◌∙◌, append_assoc}
use Rattle.std.proofs.lemmas.List.{append-nil}
use Rattle.std.specs.Prelude.{Result, Ok, Err, ◌&&◌}
use Rattle.std.specs.Result.{IsErr}
use Rattle.carrier_model.specs.Bytes.{units_of}
use Rattle.json_writer.specs.Counted.{Counts}
use Rattle.json_writer.specs.Decoded.{kept, text_left, fits_with}
use Rattle.json_writer.specs.Units.{units_text, character_text, completed, waiting, fits, all_fit}
use Rattle.json_writer.specs.declared.utf16.Utf16.{Utf16}
use Rattle.json_writer.proofs.Counted.{SoFar, at_first, one_more, so_far_as, stops, all_done}

-- ---- fronts

nothing_kept : (low high : Option ℕ) → units_text high (units_of (kept low ++ [])) ≡ []
nothing_kept None high = refl
nothing_kept (Some low) high = refl

pub nothing_left : (u : Utf16) → text_left u [] ≡ []
nothing_left u = nothing_kept u.low u.high

units_front : (high : Option ℕ) (us vs : List ℕ) → (z : List ℕ) × (units_text high (us ++ vs) ≡ units_text high us ++ z)
units_front high [] vs = (units_text high vs, refl)
units_front high (u ∷ us) vs =
    let p = units_front (waiting high u) us vs in
    (p.0, ap (λ (z : List ℕ). character_text (completed high u) ++ z) p.1 ∙ sym (append_assoc (character_text (completed high u)) (units_text (waiting high u) us) p.0))

run_front : (xs ys : List ℕ) → (z : List ℕ) × (units_of (xs ++ ys) ≡ units_of xs ++ z)
run_front [] ys = (units_of ys, refl)
run_front (a ∷ []) ys = (units_of (a ∷ ys), refl)
run_front (a ∷ b ∷ more) ys = let p = run_front more ys in (p.0, ap (λ (z : List ℕ). (a + 256 * b) ∷ z) p.1)

-- what the bytes behind others add
pub text_front : (u : Utf16) (xs ys : List ℕ) → (z : List ℕ) × (text_left u (xs ++ ys) ≡ text_left u xs ++ z)
text_front u xs ys =
    let r = run_front (kept u.low ++ xs) ys in
    let p = units_front u.high (units_of (kept u.low ++ xs)) r.0 in
    (p.0, ap (λ (l : List ℕ). units_text u.high (units_of l)) (sym (append_assoc (kept u.low) xs ys)) ∙ ap (units_text u.high) r.1 ∙ p.1)

-- ---- one unit

and_assoc : (a b c : Bool) → ((a && b) && c) ≡ (a && (b && c))
and_assoc true b c = refl
and_assoc false b c = refl

next_fits : (high : Option ℕ) (unit : ℕ) (more : List ℕ) → all_fit high (unit ∷ more) ≡ (fits high unit && all_fit (waiting high unit) more)
next_fits None unit more = refl
next_fits (Some high) unit more = refl

pub fits_next : (now then : Utf16) (low byte unit : ℕ) (more : List ℕ) → now.low ≡ Some low → unit ≡ low + 256 * byte → then.high ≡ waiting now.high unit → then.fits ≡ (now.fits && fits now.high unit) → then.low ≡ None
    → fits_with now (byte ∷ more) ≡ fits_with then more
fits_next now then low byte unit more is u high fit none =
    let us = units_of more in
    let before : fits_with now (byte ∷ more) ≡ (now.fits && all_fit now.high (unit ∷ us)) = rw (is, u) refl in
    let after : fits_with then more ≡ ((now.fits && fits now.high unit) && all_fit (waiting now.high unit) us) = rw (none, high, fit) refl in
    before ∙ ap (λ (b : Bool). now.fits && b) (next_fits now.high unit us) ∙ sym (and_assoc now.fits (fits now.high unit) (all_fit (waiting now.high unit) us)) ∙ sym after

-- the same of a whole unit
pub fits_unit : (now then : Utf16) (low high unit : ℕ) → now.low ≡ None → unit ≡ low + 256 * high → then.high ≡ waiting now.high unit → then.fits ≡ (now.fits && fits now.high unit) → then.low ≡ None
    → (more : List ℕ) → fits_with now (low ∷ high ∷ more) ≡ fits_with then more
fits_unit now then low high unit is u waits fit none more =
    let us = units_of more in
    let before : fits_with now (low ∷ high ∷ more) ≡ (now.fits && all_fit now.high (unit ∷ us)) = rw (is, u) refl in
    let after : fits_with then more ≡ ((now.fits && fits now.high unit) && all_fit (waiting now.high unit) us) = rw (none, waits, fit) refl in
    before ∙ ap (λ (b : Bool). now.fits && b) (next_fits now.high unit us) ∙ sym (and_assoc now.fits (fits now.high unit) (all_fit (waiting now.high unit) us)) ∙ sym after

-- a unit, whose character is put behind the others
pub unit_put : (now then : Utf16) (low high unit : ℕ) (one : Option ℕ) (there grown : List ℕ) → now.low ≡ None → unit ≡ low + 256 * high → then.high ≡ waiting now.high unit → then.low ≡ None → one ≡ completed now.high unit → grown ≡ there ++ character_text one
    → (more : List ℕ) → there ++ text_left now (low ∷ high ∷ more) ≡ grown ++ text_left then more
unit_put now then low high unit one there grown is u waits none made put more =
    let us = units_of more in
    let before : text_left now (low ∷ high ∷ more) ≡ character_text (completed now.high unit) ++ units_text (waiting now.high unit) us = rw (is, u) refl in
    let after : text_left then more ≡ units_text (waiting now.high unit) us = rw (none, waits) refl in
    ap (λ (z : List ℕ). there ++ z) (before ∙ rw (made, after) refl) ∙ sym (append_assoc there (character_text one) (text_left then more)) ∙ ap (λ (z : List ℕ). z ++ text_left then more) (sym put)

-- ---- runs

-- where a decoder has taken these bytes, and their characters were appended
pub record Taken (a b : Option (List ℕ)) (n m s t : ℕ) (from now : Utf16) (xs : List ℕ) : Type 0 where
  pub so_far : SoFar a b n m s t (text_left from xs)
  pub next : (more : List ℕ) → text_left from (xs ++ more) ≡ text_left from xs ++ text_left now more

pub taken_nothing : (a : Option (List ℕ)) (n s : ℕ) (u : Utf16) → Taken a a n n s s u u []
taken_nothing a n s u = record {
  so_far = so_far_as _ (sym (nothing_left u)) (at_first a n s);
  next = λ more. ap (λ (z : List ℕ). z ++ text_left u more) (sym (nothing_left u));
}

-- one run more
pub taken_more : {E : Type 0} {a b c : Option (List ℕ)} {n m k s t u : ℕ} {from now then : Utf16} {xs : List ℕ} (ys all : List ℕ) → all ≡ xs ++ ys → Taken a b n m s t from now xs → Counts {E = E} b c m k t u (Ok tt) (text_left now ys)
    → ((more : List ℕ) → text_left now (ys ++ more) ≡ text_left now ys ++ text_left then more) → Taken a c n k s u from then all
taken_more {from = from} {now = now} {then = then} {xs = xs} ys all is p w next =
    let both : text_left from all ≡ text_left from xs ++ text_left now ys = ap (text_left from) is ∙ p.next ys in
    record {
      so_far = so_far_as _ (sym both) (one_more p.so_far w);
      next = λ more.
          ap (λ (z : List ℕ). text_left from (z ++ more)) is ∙ ap (text_left from) (append_assoc xs ys more) ∙ p.next (ys ++ more)
          ∙ ap (λ (z : List ℕ). text_left from xs ++ z) (next more) ∙ sym (append_assoc (text_left from xs) (text_left now ys) (text_left then more))
          ∙ ap (λ (z : List ℕ). z ++ text_left then more) (sym both);
    }

-- the run that is being taken, and what is behind it
pub taken_parts : {a b : Option (List ℕ)} {n m s t : ℕ} {from now : Utf16} {xs : List ℕ} (ys zs all : List ℕ) → all ≡ xs ++ (ys ++ zs) → Taken a b n m s t from now xs
    → (z : List ℕ) × (text_left from all ≡ text_left from xs ++ (text_left now ys ++ z))
taken_parts {from = from} {now = now} {xs = xs} ys zs all is p =
    let f = text_front now ys zs in
    (f.0, ap (text_left from) is ∙ p.next (ys ++ zs) ∙ ap (λ (z : List ℕ). text_left from xs ++ z) f.1)

-- ---- runs inside a piece

-- the same inside a run
pub record Within (a b : Option (List ℕ)) (n m s t : ℕ) (from now : Utf16) (xs rest : List ℕ) : Type 0 where
  pub front : List ℕ
  pub parts : text_left from xs ≡ front ++ text_left now rest
  pub so_far : SoFar a b n m s t front
  pub next : (more : List ℕ) → text_left from (xs ++ more) ≡ front ++ text_left now (rest ++ more)

pub within_start : (a : Option (List ℕ)) (n s : ℕ) (u : Utf16) (xs : List ℕ) → Within a a n n s s u u xs xs
within_start a n s u xs = record { front = []; parts = refl; so_far = at_first a n s; next = λ more. refl }

pub within_more : {E : Type 0} {a b c : Option (List ℕ)} {n m k s t u : ℕ} {from now then : Utf16} {xs rest : List ℕ} (ys behind one : List ℕ) → rest ≡ ys ++ behind → Within a b n m s t from now xs rest
    → ((more : List ℕ) → text_left now (ys ++ more) ≡ one ++ text_left then more) → Counts {E = E} b c m k t u (Ok tt) one → Within a c n k s u from then xs behind
within_more {from = from} {now = now} {then = then} {xs = xs} ys behind one is p taken w = record {
  front = p.front ++ one;
  parts = p.parts ∙ ap (λ (z : List ℕ). p.front ++ z) (ap (text_left now) is ∙ taken behind) ∙ sym (append_assoc p.front one (text_left then behind));
  so_far = one_more p.so_far w;
  next = λ more.
      p.next more ∙ ap (λ (z : List ℕ). p.front ++ text_left now (z ++ more)) is
      ∙ ap (λ (z : List ℕ). p.front ++ z) (ap (text_left now) (append_assoc ys behind more) ∙ taken (behind ++ more))
      ∙ sym (append_assoc p.front one (text_left then (behind ++ more)));
}

pub within_stops : {E F : Type 0} {a b c : Option (List ℕ)} {n m k s t u v : ℕ} {from now : Utf16} {xs rest : List ℕ} {r : Result (Unit {0}) F} {e : E} (then : Utf16) (ys behind one : List ℕ) → rest ≡ ys ++ behind → IsErr r → Within a b n m s t from now xs rest
    → ((more : List ℕ) → text_left now (ys ++ more) ≡ one ++ text_left then more) → Counts {E = E} b c m k t u (Err e) one → Counts {E = F} a c n k s v r (text_left from xs)
within_stops {from = from} {now = now} {xs = xs} then ys behind one is err p taken w =
    stops (text_left from xs) (text_left then behind) (p.parts ∙ ap (λ (z : List ℕ). p.front ++ z) (ap (text_left now) is ∙ taken behind)) err p.so_far w

-- all was taken
pub within_text : {a b : Option (List ℕ)} {n m s t : ℕ} {from now : Utf16} {xs rest : List ℕ} → rest ≡ [] → (p : Within a b n m s t from now xs rest) → p.front ≡ text_left from xs
within_text {now = now} is p = sym (p.parts ∙ ap (λ (z : List ℕ). p.front ++ text_left now z) is ∙ ap (λ (z : List ℕ). p.front ++ z) (nothing_left now) ∙ append-nil p.front)

pub within_counts : {E : Type 0} {a b : Option (List ℕ)} {n m s t : ℕ} {from now : Utf16} {xs rest : List ℕ} → rest ≡ [] → Within a b n m s t from now xs rest → Counts {E = E} a b n m s t (Ok tt) (text_left from xs)
within_counts {from = from} {xs = xs} is p = all_done (text_left from xs) (within_text is p) p.so_far

pub within_next : {a b : Option (List ℕ)} {n m s t : ℕ} {from now : Utf16} {xs rest : List ℕ} → rest ≡ [] → (p : Within a b n m s t from now xs rest) → (more : List ℕ) → text_left from (xs ++ more) ≡ text_left from xs ++ text_left now more
within_next {now = now} is p more = p.next more ∙ ap (λ (z : List ℕ). p.front ++ text_left now (z ++ more)) is ∙ ap (λ (z : List ℕ). z ++ text_left now more) (within_text is p)

-- ---- whether the bytes fit

-- where a decoder has taken these bytes
pub record Fits (from now : Utf16) (xs : List ℕ) : Type 0 where
  pub fits : (more : List ℕ) → fits_with from (xs ++ more) ≡ fits_with now more

pub fits_start : (u : Utf16) → Fits u u []
fits_start u = record { fits = λ more. refl }

-- one run more
pub fits_more : {from now then : Utf16} {xs : List ℕ} (ys all : List ℕ) → all ≡ xs ++ ys → Fits from now xs → ((more : List ℕ) → fits_with now (ys ++ more) ≡ fits_with then more) → Fits from then all
fits_more {from = from} {xs = xs} ys all is p taken = record {
  fits = λ more. ap (λ (z : List ℕ). fits_with from (z ++ more)) is ∙ ap (fits_with from) (append_assoc xs ys more) ∙ p.fits (ys ++ more) ∙ taken more;
}

-- all was taken
pub fits_then : {from now : Utf16} {xs all : List ℕ} → xs ≡ all → Fits from now xs → (more : List ℕ) → fits_with from (all ++ more) ≡ fits_with now more
fits_then {from = from} is p more = ap (λ (z : List ℕ). fits_with from (z ++ more)) (sym is) ∙ p.fits more

pub fits_all : {from now : Utf16} {xs all : List ℕ} → xs ≡ all → Fits from now xs → fits_with now [] ≡ fits_with from all
fits_all {from = from} {all = all} is p = sym (fits_then is p []) ∙ ap (fits_with from) (append-nil all)

-- where a decoder has taken the bytes in front of these
pub record FitsTo (from now : Utf16) (xs rest : List ℕ) : Type 0 where
  pub fits : (more : List ℕ) → fits_with from (xs ++ more) ≡ fits_with now (rest ++ more)

pub fits_to_start : (u : Utf16) (xs : List ℕ) → FitsTo u u xs xs
fits_to_start u xs = record { fits = λ more. refl }

-- one run more
pub fits_to_more : {from now then : Utf16} {xs rest : List ℕ} (ys behind : List ℕ) → rest ≡ ys ++ behind → FitsTo from now xs rest → ((more : List ℕ) → fits_with now (ys ++ more) ≡ fits_with then more) → FitsTo from then xs behind
fits_to_more {now = now} ys behind is p taken = record {
  fits = λ more. p.fits more ∙ ap (λ (z : List ℕ). fits_with now (z ++ more)) is ∙ ap (fits_with now) (append_assoc ys behind more) ∙ taken (behind ++ more);
}

-- all was taken
pub fits_to_end : {from now : Utf16} {xs rest : List ℕ} → rest ≡ [] → FitsTo from now xs rest → (more : List ℕ) → fits_with from (xs ++ more) ≡ fits_with now more
fits_to_end {now = now} is p more = p.fits more ∙ ap (λ (z : List ℕ). fits_with now (z ++ more)) is

-- ---- characters that are put together

-- where a decoder has taken these bytes, and their characters stand there
pub record Stands (from now : Utf16) (xs there : List ℕ) : Type 0 where
  pub text : (more : List ℕ) → text_left from (xs ++ more) ≡ there ++ text_left now more

pub stands_start : (u : Utf16) → Stands u u [] []
stands_start u = record { text = λ more. refl }

-- one run more, and what stands there then
pub stands_more : {from now then : Utf16} {xs there : List ℕ} (ys all grown : List ℕ) → all ≡ xs ++ ys → Stands from now xs there → ((more : List ℕ) → there ++ text_left now (ys ++ more) ≡ grown ++ text_left then more) → Stands from then all grown
stands_more {from = from} {xs = xs} ys all grown is p taken = record {
  text = λ more. ap (λ (z : List ℕ). text_left from (z ++ more)) is ∙ ap (text_left from) (append_assoc xs ys more) ∙ p.text (ys ++ more) ∙ taken more;
}

-- a byte, whose character is put behind the others
pub byte_put : (now then : Utf16) (byte : ℕ) (one : Option ℕ) (there grown : List ℕ) → grown ≡ there ++ character_text one → ((more : List ℕ) → text_left now (byte ∷ more) ≡ character_text one ++ text_left then more)
    → (more : List ℕ) → there ++ text_left now (byte ∷ more) ≡ grown ++ text_left then more
byte_put now then byte one there grown is taken more =
    ap (λ (z : List ℕ). there ++ z) (taken more) ∙ sym (append_assoc there (character_text one) (text_left then more)) ∙ ap (λ (z : List ℕ). z ++ text_left then more) (sym is)

-- all was taken
pub stands_then : {from now : Utf16} {xs all there : List ℕ} → xs ≡ all → Stands from now xs there → (more : List ℕ) → text_left from (all ++ more) ≡ there ++ text_left now more
stands_then {from = from} is p more = ap (λ (z : List ℕ). text_left from (z ++ more)) (sym is) ∙ p.text more
