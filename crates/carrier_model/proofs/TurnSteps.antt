-- One more thing that is read in turn, as a loop reads it.
use Rattle.std.proofs.Common.{◌≡◌, ℕ, suc, ◌+◌, ◌<◌, List, [], ◌∷◌, ◌++◌, map, drop, Result, Ok, Err, refl, sym, ap, ◌∙◌, arith, drop-cons}
use Rattle.std.specs.List.{range_with_len}
use Rattle.std.proofs.lemmas.List.{take-append-drop}
use Rattle.std.proofs.lemmas.List.FromFn.{length-map-range_with_len, get_or-map-range_with_len, take-map-range_with_len, map-range_with_len_more}
use Rattle.carrier_model.specs.Trail.{Fault}
use Rattle.carrier_model.specs.Outcomes.{◌>>=◌}
use Rattle.carrier_model.specs.Turns.{in_turn}

bind_assoc : {A B C : Type 0} (r : Result A Fault) (f : A → Result B Fault) (g : B → Result C Fault) → ((r >>= f) >>= g) ≡ (r >>= λ x. f x >>= g)
bind_assoc (Ok x) f g = refl
bind_assoc (Err e) f g = refl

bind_same : {A B : Type 0} (r : Result A Fault) (f g : A → Result B Fault) → ((x : A) → f x ≡ g x) → (r >>= f) ≡ (r >>= g)
bind_same (Ok x) f g h = h x
bind_same (Err e) f g h = refl

module _ {A B : Type 0} (read : List B → A → Result B Fault) where
  pub in_turn-append : (before : List B) (l more : List A) → in_turn read before (l ++ more) ≡ (in_turn read before l >>= λ bs. in_turn read bs more)
  unfolding in_turn
  in_turn-append before [] more = refl
  in_turn-append before (a ∷ l) more =
      bind_same (read before a) _ _ (λ b. in_turn-append (before ++ b ∷ []) l more)
      ∙ sym (bind_assoc (read before a) (λ b. in_turn read (before ++ b ∷ []) l) (λ bs. in_turn read bs more))

  pub in_turn-push : (before : List B) (l : List A) (a : A) (bs : List B) (b : B) → in_turn read before l ≡ Ok bs → read bs a ≡ Ok b → in_turn read before (l ++ a ∷ []) ≡ Ok (bs ++ b ∷ [])
  unfolding in_turn
  in_turn-push before l a bs b h g = in_turn-append before l (a ∷ []) ∙ (ap (λ r. r >>= λ cs. in_turn read cs (a ∷ [])) h ∙ ap (λ r. r >>= λ c. Ok (bs ++ c ∷ [])) g)

  pub in_turn-fault : (before : List B) (l : List A) (a : A) (rest : List A) (bs : List B) (g : Fault) → in_turn read before l ≡ Ok bs → read bs a ≡ Err g → in_turn read before (l ++ a ∷ rest) ≡ Err g
  unfolding in_turn
  in_turn-fault before l a rest bs g h e = in_turn-append before l (a ∷ rest) ∙ (ap (λ r. r >>= λ cs. in_turn read cs (a ∷ rest)) h ∙ ap (λ r. r >>= λ c. in_turn read (bs ++ c ∷ []) rest) e)

  -- the things of the first numbers, and the thing of the next number
  pub upto-push : (f : ℕ → A) (k : ℕ) (bs : List B) (b : B) → in_turn read [] (map f (range_with_len 0 k)) ≡ Ok bs → read bs (f k) ≡ Ok b → in_turn read [] (map f (range_with_len 0 (k + 1))) ≡ Ok (bs ++ b ∷ [])
  upto-push f k bs b h g = ap (in_turn read []) (map-range_with_len_more f 0 k k (omega arith)) ∙ in_turn-push [] (map f (range_with_len 0 k)) (f k) bs b h g

  pub upto-fault : (f : ℕ → A) (k n : ℕ) (bs : List B) (g : Fault) → k < n → in_turn read [] (map f (range_with_len 0 k)) ≡ Ok bs → read bs (f k) ≡ Err g → in_turn read [] (map f (range_with_len 0 n)) ≡ Err g
  upto-fault f k n bs g lt h e =
      let all : List A = map f (range_with_len 0 n) in
      let back : drop k all ≡ f k ∷ drop (suc k) all = drop-cons all k (f k) (omega (arith, length-map-range_with_len f 0 n)) ∙ ap (λ (x : A). x ∷ drop (suc k) all) (get_or-map-range_with_len f 0 n k k (f k) lt (omega arith)) in
      let whole : all ≡ map f (range_with_len 0 k) ++ f k ∷ drop (suc k) all =
      sym (take-append-drop k all) ∙ ap (λ (z : List A). z ++ drop k all) (take-map-range_with_len f 0 n k (omega arith)) ∙ ap (λ (z : List A). map f (range_with_len 0 k) ++ z) back in
      ap (in_turn read []) whole ∙ in_turn-fault [] (map f (range_with_len 0 k)) (f k) (drop (suc k) all) bs g h e
