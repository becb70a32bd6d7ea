-- What is written for a value spells that value.
use Rattle.std.proofs.Common.{◌≡◌, ℕ, suc, ◌+◌, ◌<◌, ◌^◌, Bool, true, false, List, [], ◌∷◌, ◌++◌, length, map, replicate, refl, sym, ap, subst, ◌∙◌, append_assoc, arith}
use Rattle.std.specs.List.{flat_map}
use Rattle.std.specs.Prelude.{◌==◌}
use Rattle.std.proofs.lemmas.List.{append-nil, length-append, length-replicate}
use Rattle.carrier_model.specs.Bytes.{le32, le_number, pad4}
use Rattle.carrier_model.specs.Grammar.{Form, gives, and_then, placed, choice, repeat}
use Rattle.tnef_model.specs.TnefLists.{raw, word, padded, is_size, size, sized, text, many}
use Rattle.carrier_model.specs.Kinds.{null_of, without_null}
use Rattle.tnef_model.specs.TnefCanonical.{zero_padded, with_size, text_bytes}
use Rattle.carrier_model.proofs.Numbers.{le32_number}
use Rattle.carrier_model.proofs.KindLaws.{without_its_null}

-- ---- forms

pub then_spells : {X Y : Type 0} (f : Form X) (next : X → Form Y) (at : ℕ) (x : X) (y : Y) (s t : List ℕ) → f.spells at x s → (next x).spells (at + length s) y t → (and_then f next).spells at y (s ++ t)
then_spells f next at x y s t p q = record { x = x; front = s; back = t; parts = refl; first = p; second = q }

pub seen_spells : {X Y : Type 0} (f : Form X) (view : X → Y) (at : ℕ) (x : X) (s : List ℕ) → f.spells at x s → (and_then f (λ x. gives (view x))).spells at (view x) s
seen_spells f view at x s p = record { x = x; front = s; back = []; parts = sym (append-nil s); first = p; second = (refl, refl) }

pub first_spells : {X : Type 0} (b : Bool) (f g : Form X) (at : ℕ) (x : X) (s : List ℕ) → b ≡ true → f.spells at x s → (choice b f g).spells at x s
first_spells true f g at x s e p = p
first_spells false f g at x s e p = absurd cc

pub other_spells : {X : Type 0} (b : Bool) (f g : Form X) (at : ℕ) (x : X) (s : List ℕ) → b ≡ false → g.spells at x s → (choice b f g).spells at x s
other_spells true f g at x s e p = absurd cc
other_spells false f g at x s e p = p

-- ---- numbers

pub word_spells : (at n : ℕ) → n < 2 ^ 32 → word.spells at n (le32 n)
word_spells at n lt = subst (λ k. word.spells at k (le32 n)) (le32_number n lt) (seen_spells (raw 4) le_number at (le32 n) (le32 n) (refl, refl))

-- ---- padding

pub padded_spells : (at n : ℕ) (x : List ℕ) → length x ≡ n → (padded n).spells at x (zero_padded x)
padded_spells at n x e = then_spells (raw n) (λ y. and_then (raw (pad4 n)) (λ padding. gives y)) at x x x (replicate (pad4 (length x)) 0) (refl, e)
    (seen_spells (raw (pad4 n)) (λ padding. x) (at + length x) (replicate (pad4 (length x)) 0) (replicate (pad4 (length x)) 0) (refl, length-replicate (pad4 (length x)) 0 ∙ ap pad4 e))

-- what needs no padding
pub whole_spells : (at n : ℕ) (x : List ℕ) → length x ≡ n → pad4 n ≡ 0 → (padded n).spells at x x
whole_spells at n x e f = subst (λ z. (padded n).spells at x z) (same (pad4 (length x)) (ap pad4 e ∙ f)) (padded_spells at n x e)
  where
    same : (k : ℕ) → k ≡ 0 → x ++ replicate k 0 ≡ x
    same k h = ap (λ j. x ++ replicate j 0) h ∙ append-nil x

-- ---- texts

pub size_spells : (even : Bool) (least at n : ℕ) → n < 2 ^ 32 → is_size even least n ≡ true → (size even least).spells at n (le32 n)
unfolding size
size_spells even least at n lt e = (word_spells at n lt, e)

pub sized_spells : (even : Bool) (least at : ℕ) (x : List ℕ) → length x < 2 ^ 32 → is_size even least (length x) ≡ true → (sized even least).spells at (at + 4, x) (with_size x)
unfolding sized
sized_spells even least at x lt e = then_spells (size even least) (λ n. placed (padded n)) at (length x) (at + 4, x) (le32 (length x)) (zero_padded x) (size_spells even least at (length x) lt e) (refl, padded_spells (at + 4) (length x) x refl)

-- a text of a kind, its size even where that has to be
pub text_spells : (kind at : ℕ) (x : List ℕ) → length x + null_of kind < 2 ^ 32 → is_size (kind == 0x001F) 0 (length x + null_of kind) ≡ true → (text kind).spells at x (text_bytes kind x)
unfolding text
text_spells kind at x lt e =
    let nulled = x ++ replicate (null_of kind) 0 in
    let len : length nulled ≡ length x + null_of kind = length-append x (replicate (null_of kind) 0) ∙ ap (λ k. length x + k) (length-replicate (null_of kind) 0) in
    let fits : length nulled < 2 ^ 32 = omega (arith, len) in
    subst (λ y. (text kind).spells at y (text_bytes kind x)) (without_its_null (null_of kind) x)
    (seen_spells (sized (kind == 0x001F) 0) (λ y. without_null (null_of kind) y.1) at (at + 4, nulled) (with_size nulled) (sized_spells (kind == 0x001F) 0 at nulled fits (ap (is_size (kind == 0x001F) 0) len ∙ e)))

-- ---- several of a form

-- each spelled wherever it stands
abbrev pub SpellsAll : {A X : Type 0} → Form X → (A → X) → (A → List ℕ) → List A → Type 0
SpellsAll f view write [] = Unit {0}
SpellsAll f view write (x ∷ xs) = ((at : ℕ) → f.spells at (view x) (write x)) × SpellsAll f view write xs

repeat_spells : {A X : Type 0} (f : Form X) (view : A → X) (write : A → List ℕ) (xs : List A) (before : List X) (at : ℕ) → SpellsAll f view write xs → (repeat (length xs) (λ l. f) before).spells at (before ++ map view xs) (flat_map write xs)
unfolding repeat
repeat_spells f view write [] before at h = (append-nil before, refl)
repeat_spells f view write (x ∷ xs) before at h =
    subst (λ z. (repeat (suc (length xs)) (λ l. f) before).spells at z (write x ++ flat_map write xs)) (append_assoc before (view x ∷ []) (map view xs))
    (then_spells f (λ y. repeat (length xs) (λ l. f) (before ++ y ∷ [])) at (view x) ((before ++ view x ∷ []) ++ map view xs) (write x) (flat_map write xs) (h.0 at) (repeat_spells f view write xs (before ++ view x ∷ []) (at + length (write x)) h.1))

pub many_spells : {A X : Type 0} (f : Form X) (view : A → X) (write : A → List ℕ) (xs : List A) (at : ℕ) → length xs < 2 ^ 32 → SpellsAll f view write xs → (many f).spells at (map view xs) (le32 (length xs) ++ flat_map write xs)
unfolding many
many_spells f view write xs at lt h = then_spells word (λ n. repeat n (λ l. f) []) at (length xs) (map view xs) (le32 (length xs)) (flat_map write xs) (word_spells at (length xs) lt) (repeat_spells f view write xs [] (at + 4) h)
