-- Steps of a place, one by one.
use Rattle.std.proofs.Common.{◌≡◌, ◌≢◌, ℕ, List, [], ◌∷◌, ◌++◌, length, refl, ap, arith, Some, None}
use Rattle.std.specs.Prelude.{Bool, true, false, cond, ◌&&◌, ◌==◌, Option}
use Rattle.std.specs.Prelude.{is_some}
use Rattle.std.specs.List.{slice_split, onto_first}
use Rattle.std.specs.Option.{option_map_or}
use denote.Ref.{Bor}
use Rattle.std.proofs.lemmas.Bool.{eqb-true, ne_eqb}
use Rattle.edit_model.specs.Edits.{Place, recipient, attachment}
use Rattle.edit_model.specs.EditWords.{◌>>=◌, place_number, place_from}
use Rattle.edit_words.specs.Reading.{step_number}

pub no_step : (letter : ℕ) (step : List ℕ) → ((rest : List ℕ) → step ≢ letter ∷ rest) → None ≡ step_number letter step
no_step letter [] h = refl
no_step letter (c ∷ digits) h = by (c == letter) refl
  where
    by : (b : Bool) → (c == letter) ≡ b → None ≡ cond b (place_number digits) None
    by true is = let same : c ≡ letter = eqb-true c letter is in absurd (h digits (ap (λ x. x ∷ digits) same))
    by false is = refl

-- no step into a message, before other steps
pub stuck : (path step next : List ℕ) (more : List (List ℕ)) → None ≡ step_number 0x6D step → place_from path (step ∷ next ∷ more) ≡ None
stuck path [] next more h = refl
stuck path (c ∷ digits) next more h = let others : (length (next ∷ more) == 0) ≡ false = ne_eqb (length (next ∷ more)) 0 (λ z. omega (arith, z)) in rw others (by (place_number digits) (c == 0x6D) h)
  where
    last : (b d : Bool) (n : ℕ) → cond {A = Option Place} (b && false) (Some (record { path = path; spot = recipient n })) (cond {A = Option Place} (d && false) (Some (record { path = path; spot = attachment n })) None) ≡ None
    last true true n = refl
    last true false n = refl
    last false true n = refl
    last false false n = refl

    by : (o : Option ℕ) (b : Bool) → None ≡ cond b o None → (o >>= (λ n. cond {A = Option Place} b (place_from (path ++ n ∷ []) (next ∷ more)) (cond {A = Option Place} ((c == 0x72) && false) (Some (record { path = path; spot = recipient n })) (cond {A = Option Place} ((c == 0x61) && false) (Some (record { path = path; spot = attachment n })) None)))) ≡ None
    by None b e = refl
    by (Some n) true e = absurd cc
    by (Some n) false e = last (c == 0x72) (c == 0x61) n

-- a text has a first part
some_part : (xs : List ℕ) → (y : List ℕ) × (ys : List (List ℕ)) × (slice_split (λ c. c == 0x2F) xs ≡ y ∷ ys)
some_part [] = ([], [], refl)
some_part (x ∷ xs) = by (x == 0x2F) (some_part xs)
  where
    onto : (parts : List (List ℕ)) → (y : List ℕ) × (ys : List (List ℕ)) × (onto_first x parts ≡ y ∷ ys)
    onto [] = (x ∷ [], [], refl)
    onto (part ∷ parts) = (x ∷ part, parts, refl)

    by : (b : Bool) → ((y : List ℕ) × (ys : List (List ℕ)) × (slice_split (λ c. c == 0x2F) xs ≡ y ∷ ys)) → (y : List ℕ) × (ys : List (List ℕ)) × (cond b ([] ∷ slice_split (λ c. c == 0x2F) xs) (onto_first x (slice_split (λ c. c == 0x2F) xs)) ≡ y ∷ ys)
    by true rest = ([], slice_split (λ c. c == 0x2F) xs, refl)
    by false rest = onto (slice_split (λ c. c == 0x2F) xs)

pub stuck_word : (path text step : List ℕ) (more : Option (Bor (List ℕ))) → slice_split (λ c. c == 0x2F) text ≡ step ∷ option_map_or (λ rest. slice_split (λ c. c == 0x2F) rest.now) more [] → true ≡ is_some more → None ≡ step_number 0x6D step → place_from path (slice_split (λ c. c == 0x2F) text) ≡ None
stuck_word path text step None split some h = absurd cc
stuck_word path text step (Some rest) split some h = let (y, ys, e) = some_part rest.now in rw (split, e) (stuck path step y ys h)
