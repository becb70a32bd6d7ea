-- Texts of lists, element by element.
use Rattle.std.proofs.Common.{◌≡◌, ℕ, zero, suc, ◌+◌, ◌-◌, ◌<◌, ◌≤◌, List, [], ◌∷◌, ◌++◌, length, get_or, take, drop, map, refl, sym, ap, ◌∙◌, append_assoc, arith}
use Rattle.std.specs.List.{flat_map}
use Rattle.std.specs.Prelude.{codes, Some, slice_get}
use Rattle.std.proofs.lemmas.List.{append-nil, drop_more, drop_all}
use Rattle.text_model.specs.ValueTexts.{front_text, with_commas}
use Rattle.carrier_model.specs.KeyTexts.{hex_digits, lower}
use Rattle.carrier_model.proofs.Trees.{drop_at}
use Rattle.tree_texts.specs.Elements.{separator}

-- the text at a place, and those behind it
pub next_text : {X : Type 0} (f : X → List ℕ) (xs : List X) (k : ℕ) (x : X) → slice_get xs k ≡ Some x → flat_map f (drop k xs) ≡ f x ++ flat_map f (drop (k + 1) xs)
next_text f xs k x at = ap (flat_map f) (drop_at xs k x at)

pub next_item : {X : Type 0} (f : X → List ℕ) (xs : List X) (k : ℕ) (d : X) → k < length xs → flat_map f (drop k xs) ≡ f (get_or xs k d) ++ flat_map f (drop (k + 1) xs)
next_item f xs k d lt = ap (flat_map f) (drop_more xs k d lt)

pub no_text : {X : Type 0} (f : X → List ℕ) (xs : List X) (k : ℕ) → length xs ≤ k → flat_map f (drop k xs) ≡ []
no_text f xs k le = ap (flat_map f) (drop_all k xs le)

-- what a list has at a place, where each element is changed
pub mapped_at : {X : Type 0} (f : X → List ℕ) (xs : List X) (k : ℕ) (x : X) → slice_get xs k ≡ Some x → get_or (map f xs) k [] ≡ f x
mapped_at f [] k x at = absurd cc
mapped_at f (y ∷ ys) zero x at = let e : y ≡ x = cc in ap f e
mapped_at f (y ∷ ys) (suc k) x at = mapped_at f ys k x at

-- ---- commas

-- texts with a comma before each
abbrev pub behind_commas : List (List ℕ) → List ℕ
behind_commas = flat_map (λ text. codes ", " ++ text)

-- those from a place on
abbrev pub texts_from : ℕ → List (List ℕ) → List ℕ
texts_from zero texts = with_commas texts
texts_from (suc k) texts = behind_commas texts

first_comma : (x : List ℕ) (xs : List (List ℕ)) → with_commas (x ∷ xs) ≡ x ++ behind_commas xs
first_comma x [] = sym (append-nil x)
first_comma x (y ∷ ys) = ap (λ (z : List ℕ). x ++ (codes ", " ++ z)) (first_comma y ys)

pub some_separator : (k : ℕ) → 0 < k → codes ", " ≡ separator k
some_separator zero some = absurd (omega (arith, some))
some_separator (suc k) some = refl

comma_before : (k : ℕ) (x : List ℕ) (xs : List (List ℕ)) → texts_from k (x ∷ xs) ≡ (separator k ++ x) ++ texts_from (suc k) xs
comma_before zero x xs = first_comma x xs
comma_before (suc k) x xs = refl

pub next_element : (texts : List (List ℕ)) (k : ℕ) → k < length texts → texts_from k (drop k texts) ≡ (separator k ++ get_or texts k []) ++ texts_from (k + 1) (drop (k + 1) texts)
next_element texts k lt =
    let e : suc k ≡ k + 1 = omega arith in
    ap (texts_from k) (drop_more texts k [] lt)
    ∙ (comma_before k (get_or texts k []) (drop (k + 1) texts)
    ∙ ap (λ j. (separator k ++ get_or texts k []) ++ texts_from j (drop (k + 1) texts)) e)

pub no_element : (texts : List (List ℕ)) (k : ℕ) → length texts ≤ k → texts_from k (drop k texts) ≡ []
no_element texts zero le = ap with_commas (drop_all 0 texts le)
no_element texts (suc k) le = ap behind_commas (drop_all (suc k) texts le)

-- ---- the first bytes

pub shown_front : (x : List ℕ) → 0 < length x → front_text (take 32 x) ≡ codes " " ++ flat_map (hex_digits lower 2) (take 32 x)
shown_front [] some = absurd (omega (arith, some))
shown_front (b ∷ more) some = refl

-- ---- lines in parts

pub passed_parts : (a b c d e : List ℕ) → (a ++ (b ++ c)) ++ (d ++ e) ≡ (a ++ (b ++ (c ++ d))) ++ e
passed_parts a b c d e = simp append_assoc

-- a key, a kind between spaces and a value
pub prop_parts : (key kind value : List ℕ) → key ++ ((0x20 ∷ kind ++ 0x20 ∷ []) ++ value) ≡ key ++ (0x20 ∷ kind ++ 0x20 ∷ value)
prop_parts key kind value = ap (λ (z : List ℕ). key ++ 0x20 ∷ z) (append_assoc kind (0x20 ∷ []) value)
