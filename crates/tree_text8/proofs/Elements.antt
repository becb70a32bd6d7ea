-- Texts one after another, and what the test for UTF-8 answers.
use Rattle.std.proofs.Common.{◌≡◌, ◌∙◌, refl, sym, ap, ℕ, ◌+◌, Bool, true, false, List, [], ◌∷◌, ◌++◌, take, drop, map}
use Rattle.std.specs.Prelude.{Some, None, slice_get}
use Rattle.std.specs.Str.{IsUtf8, is_utf8}
use Rattle.std.proofs.lemmas.Str.{IsUtf8-from_is_utf8}
use Rattle.std.proofs.lemmas.List.{map-append}
use Rattle.carrier_model.specs.Lists.{first_of_list}
use Rattle.carrier_model.proofs.Messages.{taken_at}
use Rattle.carrier_model.proofs.Trees.{drop_at}
use Rattle.text8_model.specs.Pages.{Page}
use Rattle.text8_model.specs.Texts.{bad_place}
use Rattle.text8_model.specs.Unicode.{bad_byte, bad_elements}
use Rattle.tree_text8.specs.Ends.{IsBadAt, IsBadIn, in_element}
use Rattle.tree_text8.specs.declared.ends.PartEnd.{PartEnd}
use Rattle.tree_text8.specs.declared.ends.PartEnd.TheVariants.{Bad, NoMemory}

pub not_utf8 : (x : List ℕ) → ¬ (IsUtf8 x) → is_utf8 x ≡ false
not_utf8 x never = by_test (is_utf8 x) refl
  where
    by_test : (b : Bool) → is_utf8 x ≡ b → b ≡ false
    by_test true e = absurd (never (IsUtf8-from_is_utf8 x e))
    by_test false e = refl

-- one turn of a loop that makes an element of each
pub made_more : {A C : Type 0} (f : A → C) (xs : List A) (k : ℕ) (x : A) (all new : List C) → all ≡ map f (take k xs) → slice_get xs k ≡ Some x → new ≡ all ++ f x ∷ [] → new ≡ map f (take (k + 1) xs)
made_more f xs k x all new made at e = e ∙ (ap (λ l. l ++ f x ∷ []) made ∙ (sym (map-append f (take k xs) (x ∷ [])) ∙ ap (map f) (sym (taken_at xs k x at))))

pub element_good : (page : Page) (xs : List (List ℕ)) (k : ℕ) (x : List ℕ) → slice_get xs k ≡ Some x → bad_place page x ≡ None → ((code n : ℕ) → bad_elements code n page 0 xs ≡ bad_elements code n page k (drop k xs)) → (code n : ℕ) → bad_elements code n page 0 xs ≡ bad_elements code n page (k + 1) (drop (k + 1) xs)
element_good page xs k x at none so_far code n = so_far code n ∙ (ap (bad_elements code n page k) (drop_at xs k x at) ∙ ap (λ o. bad_byte code n k o ++ bad_elements code n page (k + 1) (drop (k + 1) xs)) none)

pub element_bad : (page : Page) (xs : List (List ℕ)) (k : ℕ) (x : List ℕ) (e : PartEnd) → slice_get xs k ≡ Some x → IsBadAt (bad_place page x) e → ((code n : ℕ) → bad_elements code n page 0 xs ≡ bad_elements code n page k (drop k xs)) → IsBadIn (λ code n. bad_elements code n page 0 xs) (in_element e k)
element_bad page xs k x (Bad element place) at bad so_far = λ code n. ap first_of_list (so_far code n ∙ (ap (bad_elements code n page k) (drop_at xs k x at) ∙ ap (λ o. bad_byte code n k o ++ bad_elements code n page (k + 1) (drop (k + 1) xs)) bad.1))
element_bad page xs k x NoMemory at bad so_far = tt
