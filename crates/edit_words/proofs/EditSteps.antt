-- Edits of words, one after another.
use Rattle.std.proofs.Common.{◌≡◌, ℕ, zero, suc, ◌+◌, ◌-◌, ◌<◌, min, List, [], ◌∷◌, ◌++◌, length, map, get_or, take, drop, refl, sym, ap, ◌∙◌, subst, Some, None}
use Rattle.std.specs.Prelude.{true}
use Rattle.std.specs.List.{AllByRecursion}
use Rattle.std.proofs.lemmas.List.{take_rest, take_min, take-map, drop-map, drop_more, drop-drop}
use Rattle.edit_model.specs.Edits.{Edit}
use Rattle.edit_model.specs.EditWords.{edit_of, words_behind, edits_behind, are_short}
use Rattle.edit_model.proofs.Kept.{all_drop}
use Rattle.edit_model.proofs.WordsFit.{all_front, short_are}
use Rattle.edit_words.specs.Reading.{IsShort}
use Rattle.edit_words.specs.Verbs.{IsNoVerb}
use Rattle.edit_words.proofs.VerbWords.{no_edit}

pub own_words : {A : Type 0} (f : A → List ℕ) (words : List A) (at m count : ℕ) → m ≡ min count (length (take (length words - (at + 1)) (drop (at + 1) words))) → map f (take m (take (length words - (at + 1)) (drop (at + 1) words))) ≡ take count (drop (at + 1) (map f words))
own_words f words at m count h =
    let rest = take (length words - (at + 1)) (drop (at + 1) words) in
    ap (λ k. map f (take k rest)) h
    ∙ (ap (map f) (take_min count rest)
    ∙ (sym (take-map f count rest)
    ∙ (ap (λ l. take count (map f l)) (take_rest words (at + 1))
    ∙ ap (take count) (sym (drop-map f (at + 1) words)))))

pub own_short : (T : List (List ℕ)) (at count : ℕ) (own : List (List ℕ)) → true ≡ are_short T → own ≡ take count (drop (at + 1) T) → AllByRecursion IsShort own
own_short T at count own short is = subst (AllByRecursion IsShort) (sym is) (all_front IsShort count (drop (at + 1) T) (all_drop IsShort (at + 1) T (short_are T (sym short))))

pub verb_at : {A : Type 0} (f : A → List ℕ) (words : List A) (at : ℕ) (x : A) → x ≡ get_or words at x → at < length words → drop at (map f words) ≡ f x ∷ drop (at + 1) (map f words)
verb_at f words at x is lt = drop-map f at words ∙ (ap (map f) (drop_more words at x lt) ∙ (ap (λ y. f y ∷ map f (drop (at + 1) words)) (sym is) ∙ ap (λ l. f x ∷ l) (sym (drop-map f (at + 1) words))))

skip_is : (es : List Edit) (n : ℕ) (words : List (List ℕ)) → edits_behind es n words ≡ edits_behind es 0 (drop n words)
skip_is es zero words = refl
skip_is es (suc n) [] = refl
skip_is es (suc n) (word ∷ words) = skip_is es n words

drop_taken : {A : Type 0} (n : ℕ) (xs : List A) → drop n xs ≡ drop (length (take n xs)) xs
drop_taken zero xs = refl
drop_taken (suc n) [] = refl
drop_taken (suc n) (x ∷ xs) = drop_taken n xs

pub edits_stuck : (es : List Edit) (T : List (List ℕ)) (at count : ℕ) (verb : List ℕ) (own : List (List ℕ)) → drop at T ≡ verb ∷ drop (at + 1) T → count ≡ words_behind verb → own ≡ take count (drop (at + 1) T) → None ≡ edit_of verb own → edits_behind es 0 (drop at T) ≡ None
edits_stuck es T at count verb own here many is fails =
    let none : edit_of verb (take (words_behind verb) (drop (at + 1) T)) ≡ None = ap (λ n. edit_of verb (take n (drop (at + 1) T))) (sym many) ∙ (ap (edit_of verb) (sym is) ∙ sym fails) in
    ap (edits_behind es 0) here ∙ rw none refl

pub edits_next : (es : List Edit) (T : List (List ℕ)) (at count : ℕ) (verb : List ℕ) (own : List (List ℕ)) (e : Edit) → drop at T ≡ verb ∷ drop (at + 1) T → count ≡ words_behind verb → own ≡ take count (drop (at + 1) T) → Some e ≡ edit_of verb own → edits_behind es 0 (drop at T) ≡ edits_behind (es ++ e ∷ []) 0 (drop (at + 1 + length own) T)
edits_next es T at count verb own e here many is made =
    let rest = drop (at + 1) T in
    let one : edit_of verb (take (words_behind verb) rest) ≡ Some e = ap (λ n. edit_of verb (take n rest)) (sym many) ∙ (ap (edit_of verb) (sym is) ∙ sym made) in
    let skipped : drop (words_behind verb) rest ≡ drop (at + 1 + length own) T = ap (λ n. drop n rest) (sym many) ∙ (drop_taken count rest ∙ (ap (λ l. drop (length l) rest) (sym is) ∙ drop-drop (length own) (at + 1) T)) in
    ap (edits_behind es 0) here ∙ (rw one refl ∙ (skip_is (es ++ e ∷ []) (words_behind verb) rest ∙ ap (edits_behind (es ++ e ∷ []) 0) skipped))

-- a word that is no verb begins no edit
pub edits_unknown : (es : List Edit) (T : List (List ℕ)) (at : ℕ) (verb : List ℕ) → drop at T ≡ verb ∷ drop (at + 1) T → IsNoVerb verb → edits_behind es 0 (drop at T) ≡ None
edits_unknown es T at verb here h = edits_stuck es T at (words_behind verb) verb (take (words_behind verb) (drop (at + 1) T)) here refl refl (sym (no_edit verb (take (words_behind verb) (drop (at + 1) T)) h))
