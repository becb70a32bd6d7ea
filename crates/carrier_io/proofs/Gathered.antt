-- Pages between a writer and a device.
use Rattle.std.proofs.Common.{◌≡◌, ℕ, zero, suc, ◌+◌, ◌≤◌, List, [], ◌∷◌, ◌++◌, length, take, drop, Option, Some, None, Result, Ok, Err, refl, sym, subst, ap, ◌∙◌, append_assoc, arith}
use Rattle.std.proofs.lemmas.List.{append-nil, take-append-drop}
use Rattle.std.specs.Io.KnownBytes.{Appends, Keeps, append_known}
use Rattle.std.specs.Prelude.{OnOk}
use Rattle.std.specs.Result.{IsErr}
use Rattle.carrier_io.specs.Causes.{Rose, HasCause}
use Rattle.carrier_io.specs.Known.{AppendsFront, Writes}
use Rattle.carrier_io.specs.Gathered.{Extends, told, IsCut}

append_left : (xs ys zs : List ℕ) → xs ++ ys ≡ xs ++ zs → ys ≡ zs
append_left [] ys zs e = e
append_left (x ∷ xs) ys zs e = append_left xs ys zs (ap (drop 1) e)

known-longer : (old : Option (List ℕ)) (page more piece : List ℕ) → more ≡ page ++ piece → Appends (append_known old page) (append_known old more) piece
known-longer None page more piece e = tt
known-longer (Some xs) page more piece e = ap (λ (l : List ℕ). xs ++ l) e ∙ sym (append_assoc xs page piece)

-- a piece behind the page
pub told-longer : (refused : ℕ) (now base : Option (List ℕ)) (page more piece : List ℕ) → more ≡ page ++ piece → Appends (told refused now base page) (told refused now base more) piece
told-longer zero now base page more piece e = known-longer now page more piece e
told-longer (suc refused) now base page more piece e = known-longer base page more piece e

-- nothing of a piece was appended
pub front-kept : (old new : Option (List ℕ)) (piece : List ℕ) → Keeps old new → AppendsFront old new piece
front-kept None new piece k = record { front = []; rest = piece; parts = refl; appended = tt }
front-kept (Some xs) None piece k = absurd k
front-kept (Some xs) (Some ys) piece k = record { front = []; rest = piece; parts = refl; appended = k ∙ sym (append-nil xs) }

front-in : (xs ys behind front rest : List ℕ) → ys ≡ xs ++ drop (length xs) ys → ys ++ behind ≡ xs ++ front → AppendsFront (Some xs) (Some ys) (front ++ rest)
front-in xs ys behind front rest extends whole =
    let grows = drop (length xs) ys in
    let parts : grows ++ behind ≡ front = append_left xs (grows ++ behind) front (sym (append_assoc xs grows behind) ∙ (ap (λ (l : List ℕ). l ++ behind) (sym extends) ∙ whole)) in
    record {
      front = grows;
      rest = behind ++ rest;
      parts = ap (λ (l : List ℕ). l ++ rest) (sym parts) ∙ append_assoc grows behind rest;
      appended = extends;
    }

first-of : (xs ts front : List ℕ) → ts ≡ (xs ++ []) ++ front → ts ≡ xs ++ front
first-of xs ts front e = e ∙ ap (λ (l : List ℕ). l ++ front) (append-nil xs)

-- What the device holds in the end, where not all that was told of it is there. What was told began with what it held.
pub front-told : (refused before faults : ℕ) (begun first base now : Option (List ℕ)) (page text : List ℕ) → Extends begun now → IsCut refused before faults base now page → AppendsFront (append_known begun []) first text → Keeps first (told refused now base page) → AppendsFront begun now text
front-told refused before faults None first base now page text extends cut w k = record { front = []; rest = text; parts = refl; appended = tt }
front-told refused before faults (Some xs) None base now page text extends cut w k = absurd w.appended
front-told refused before faults (Some xs) (Some ts) base None page text extends cut w k = absurd extends
front-told zero before faults (Some xs) (Some ts) base (Some ys) page text extends cut w k =
    let whole : ys ++ page ≡ xs ++ w.front = k ∙ first-of xs ts w.front w.appended in
    rw w.parts (front-in xs ys page w.front w.rest extends whole)
front-told (suc refused) before faults (Some xs) (Some ts) None (Some ys) page text extends cut w k = absurd k
front-told (suc refused) before faults (Some xs) (Some ts) (Some bs) (Some ys) page text extends cut w k =
    let n = length (drop (length bs) ys) in
    let lands : ys ≡ bs ++ take n page = (cut (omega arith)).0 in
    let behind = drop n page in
    let here : ys ++ behind ≡ bs ++ page = ap (λ (l : List ℕ). l ++ behind) lands ∙ (append_assoc bs (take n page) behind ∙ ap (λ (l : List ℕ). bs ++ l) (take-append-drop n page)) in
    let whole : ys ++ behind ≡ xs ++ w.front = here ∙ (k ∙ first-of xs ts w.front w.appended) in
    rw w.parts (front-in xs ys behind w.front w.rest extends whole)

-- the same, where the page was handed on
pub all-told : (refused : ℕ) (begun first base now : Option (List ℕ)) (page text : List ℕ) → refused ≡ 0 → page ≡ [] → Appends (append_known begun []) first text → Keeps first (told refused now base page) → Appends begun now text
all-told refused None first base now page text none empty w k = tt
all-told refused (Some xs) None base now page text none empty w k = absurd w
all-told (suc refused) (Some xs) (Some ts) base now page text none empty w k = absurd (omega arith)
all-told zero (Some xs) (Some ts) base None page text none empty w k = absurd k
all-told zero (Some xs) (Some ts) base (Some ys) page text none empty w k =
    sym (append-nil ys) ∙ (ap (λ (l : List ℕ). ys ++ l) (sym empty) ∙ (k ∙ first-of xs ts text w))

-- a failure that the device or the gatherer counted is one that the device counted
pub rose-told : (refused before faults first : ℕ) (base now : Option (List ℕ)) (page : List ℕ) → IsCut refused before faults base now page → before ≤ first → Rose first (faults + refused) → Rose before faults
rose-told zero before faults first base now page cut le rose = omega arith
rose-told (suc refused) before faults first base now page cut le rose = (cut (omega arith)).1

keeps-same : (o : Option (List ℕ)) → Keeps o o
keeps-same None = tt
keeps-same (Some xs) = refl

front-whole : (old new : Option (List ℕ)) (bytes : List ℕ) → Appends old new bytes → AppendsFront old new bytes
front-whole old new bytes p = record { front = bytes; rest = []; parts = sym (append-nil bytes); appended = p }

nothing-in : (len : ℕ) (page : List ℕ) → len ≡ 0 → take len page ≡ []
nothing-in zero page e = refl
nothing-in (suc len) page e = absurd (omega arith)

-- the exit of a writer that failed
pub exit-failed : {E F : Type 0} (r : Result (Unit {0}) F) (e : E) (refused before faults count : ℕ) (begun first base now : Option (List ℕ)) (page text : List ℕ) → IsErr r → first ≡ append_known begun [] → count ≡ before → Extends begun now → IsCut refused before faults base now page → before ≤ faults → Writes {E = E} first (told refused now base page) count (faults + refused) (Err e) text → Writes {E = F} begun now before faults r text
exit-failed (Ok u) e refused before faults count begun first base now page text err same counted extends cut later w = absurd cc
exit-failed (Err f) e refused before faults count begun first base now page text err same counted extends cut later w = record {
  ok = tt;
  failed = front-told refused before faults begun (told refused now base page) base now page text extends cut (subst (λ o. AppendsFront o (told refused now base page) text) same w.failed) (keeps-same (told refused now base page));
  cause = record { later = later; failed = rose-told refused before faults count base now page cut (omega arith) w.cause.failed };
}

-- the exit behind a writer that did all
pub exit-flushed : {E : Type 0} (r : Result (Unit {0}) E) (refused before faults count then len : ℕ) (begun first second base now : Option (List ℕ)) (page text : List ℕ) → first ≡ append_known begun [] → count ≡ before → Extends begun now → IsCut refused before faults base now (take len page) → before ≤ faults → Writes {E = E} first second count then (Ok tt) text → OnOk r (len ≡ 0) → OnOk r (refused ≡ 0) → Keeps second (told refused now base (take len page)) → HasCause then (faults + refused) r → Writes {E = E} begun now before faults r text
exit-flushed (Ok u) refused before faults count then len begun first second base now page text same counted extends cut later w empty ready keeps cause = record {
  ok = all-told refused begun second base now (take len page) text ready (nothing-in len page empty) (subst (λ o. Appends o second text) same w.ok) keeps;
  failed = tt;
  cause = record { later = later; failed = tt };
}
exit-flushed (Err e) refused before faults count then len begun first second base now page text same counted extends cut later w empty ready keeps cause = record {
  ok = tt;
  failed = front-told refused before faults begun second base now (take len page) text extends cut (front-whole (append_known begun []) second text (subst (λ o. Appends o second text) same w.ok)) keeps;
  cause = record { later = later; failed = rose-told refused before faults then base now (take len page) cut (omega (arith, w.cause.later)) cause.failed };
}
