-- What is read in turn.
use Rattle.std.proofs.Common.{◌≡◌, ℕ, List, [], ◌∷◌, ◌++◌, Bool, true, false, Result, Ok, Err, Option, Some, None, refl, sym, ap, subst, ◌∙◌, append_assoc}
use Rattle.std.specs.List.{AllZip}
use Rattle.std.proofs.lemmas.List.{append-nil}
use Rattle.carrier_model.specs.Trail.{Fault}
use Rattle.carrier_model.specs.Outcomes.{◌>>=◌, check, mapped}
use Rattle.carrier_model.specs.Turns.{in_turn, each, found}

-- each of the things gives the one beside it, behind those before it
abbrev pub AllGive : {A B : Type 0} → (List B → A → Result B Fault) → List B → List A → List B → Type 0
AllGive read before [] [] = Unit {0}
AllGive read before [] (b ∷ bs) = ⊥
AllGive read before (a ∷ others) [] = ⊥
AllGive read before (a ∷ others) (b ∷ bs) = (read before a ≡ Ok b) × AllGive read (before ++ b ∷ []) others bs

-- what is answered is one thing
pub ok_same : {A : Type 0} (r : Result A Fault) (x y : A) → r ≡ Ok x → r ≡ Ok y → y ≡ x
ok_same r x y e f = let h : r ≡ Ok y = f in cc

-- a result that is there, and one that follows
pub bind_ok : {A B : Type 0} (r : Result A Fault) (f : A → Result B Fault) (y : B) → (r >>= f) ≡ Ok y → (x : A) × (r ≡ Ok x) × (f x ≡ Ok y)
bind_ok (Ok x) f y h = (x, refl, h)
bind_ok (Err g) f y h = absurd cc

pub bind_from : {A B : Type 0} (r : Result A Fault) (f : A → Result B Fault) (x : A) → r ≡ Ok x → (r >>= f) ≡ f x
bind_from r f x e = ap (λ q. q >>= f) e

pub check_ok : {B : Type 0} (t : Bool) (reason offset : ℕ) (f : Unit {0} → Result B Fault) (y : B) → (check t reason offset >>= f) ≡ Ok y → (t ≡ true) × (f tt ≡ Ok y)
check_ok true reason offset f y h = (refl, h)
check_ok false reason offset f y h = absurd cc

pub check_from : {B : Type 0} (t : Bool) (reason offset : ℕ) (f : Unit {0} → Result B Fault) → t ≡ true → (check t reason offset >>= f) ≡ f tt
check_from true reason offset f e = refl
check_from false reason offset f e = absurd cc

pub mapped_ok : {A B : Type 0} (f : A → B) (r : Result A Fault) (y : B) → mapped f r ≡ Ok y → (x : A) × (r ≡ Ok x) × (y ≡ f x)
mapped_ok f (Ok x) y h = (x, refl, cc)
mapped_ok f (Err g) y h = absurd cc

pub found_ok : {A : Type 0} (o : Option A) (g : Fault) (x : A) → found o g ≡ Ok x → o ≡ Some x
found_ok None g x h = absurd cc
found_ok (Some y) g x h = cc

module _ {A B : Type 0} (read : List B → A → Result B Fault) where
  pub in_turn-sound : (before : List B) (l : List A) (out : List B) → in_turn read before l ≡ Ok out → (bs : List B) × (out ≡ before ++ bs) × AllGive read before l bs
  unfolding in_turn
  in_turn-sound before [] out h = ([], (let e : before ≡ out = cc in sym e ∙ sym (append-nil before)), tt)
  in_turn-sound before (a ∷ others) out h =
      let (b, one, rest) = bind_ok (read before a) (λ b. in_turn read (before ++ b ∷ []) others) out h in
      let (bs, is, all) = in_turn-sound (before ++ b ∷ []) others out rest in
      (b ∷ bs, is ∙ append_assoc before (b ∷ []) bs, (one, all))

  pub in_turn-only : (before : List B) (l : List A) (bs : List B) → AllGive read before l bs → in_turn read before l ≡ Ok (before ++ bs)
  unfolding in_turn
  in_turn-only before [] [] h = ap Ok (sym (append-nil before))
  in_turn-only before [] (b ∷ bs) h = absurd h
  in_turn-only before (a ∷ others) [] h = absurd h
  in_turn-only before (a ∷ others) (b ∷ bs) h =
      bind_from (read before a) (λ b. in_turn read (before ++ b ∷ []) others) b h.0
      ∙ (in_turn-only (before ++ b ∷ []) others bs h.1 ∙ ap Ok (append_assoc before (b ∷ []) bs))

module _ {A B : Type 0} (read : A → Result B Fault) where
  each-parts : (before : List B) (l : List A) (bs : List B) → AllGive (λ before. read) before l bs → AllZip (λ a b. read a ≡ Ok b) l bs
  each-parts before [] [] h = tt
  each-parts before [] (b ∷ bs) h = absurd h
  each-parts before (a ∷ l) [] h = absurd h
  each-parts before (a ∷ l) (b ∷ bs) h = (h.0, each-parts (before ++ b ∷ []) l bs h.1)

  each-whole : (before : List B) (l : List A) (bs : List B) → AllZip (λ a b. read a ≡ Ok b) l bs → AllGive (λ before. read) before l bs
  each-whole before [] [] h = tt
  each-whole before [] (b ∷ bs) h = absurd h
  each-whole before (a ∷ l) [] h = absurd h
  each-whole before (a ∷ l) (b ∷ bs) h = (h.0, each-whole (before ++ b ∷ []) l bs h.1)

  pub each-sound : (l : List A) (out : List B) → each read l ≡ Ok out → AllZip (λ a b. read a ≡ Ok b) l out
  each-sound l out h =
      let (bs, is, all) = in_turn-sound (λ before. read) [] l out h in
      subst (λ (z : List B). AllZip (λ a b. read a ≡ Ok b) l z) (sym is) (each-parts [] l bs all)

  pub each-only : (l : List A) (bs : List B) → AllZip (λ a b. read a ≡ Ok b) l bs → each read l ≡ Ok bs
  each-only l bs h = in_turn-only (λ before. read) [] l bs (each-whole [] l bs h)

-- a relation of each pair, by another
pub zip_weaker : {A B : Type 0} (R S : A → B → Type 0) → ((a : A) (b : B) → R a b → S a b) → (l : List A) (bs : List B) → AllZip R l bs → AllZip S l bs
zip_weaker R S f [] [] h = tt
zip_weaker R S f [] (b ∷ bs) h = absurd h
zip_weaker R S f (a ∷ l) [] h = absurd h
zip_weaker R S f (a ∷ l) (b ∷ bs) h = (f a b h.0, zip_weaker R S f l bs h.1)
