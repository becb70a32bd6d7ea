-- Items that stand one behind the other, each spelled by bytes of its own. Of an item it may matter what stands
-- before it: that is the state s, which an item changes by `next`.
use Rattle.std.specs.Prelude.{◌≡◌, ℕ, List, [], ◌∷◌, ◌++◌, Some}
use Rattle.std.specs.List.{flat_map}
use Rattle.carrier_model.specs.Trail.{Fault, Test, first_fault}

-- how items of a kind are spelled, and which tests bytes have to pass to begin with one
pub record Kind (S A : Type 0) : Type 1 where
  pub spelling : A → List ℕ
  pub next : S → A → S
  pub good : S → A → Type 0
  pub tests : S → List ℕ → List Test

-- each item is good where it stands
abbrev pub AllGood : {S A : Type 0} → Kind S A → S → List A → Type 0
AllGood k s [] = Unit {0}
AllGood k s (a ∷ others) = k.good s a × AllGood k (k.next s a) others

-- the state behind items
abbrev pub behind : {S A : Type 0} → Kind S A → S → List A → S
behind k s [] = s
behind k s (a ∷ others) = behind k (k.next s a) others

-- the bytes are this item and then the rest
pub record Begins {S A : Type 0} (k : Kind S A) (s : S) (bytes : List ℕ) (a : A) (rest : List ℕ) : Type 0 where
  pub parts : bytes ≡ k.spelling a ++ rest
  pub good : k.good s a

-- the bytes are these items and then the rest
pub record Spells {S A : Type 0} (k : Kind S A) (s : S) (bytes : List ℕ) (items : List A) (rest : List ℕ) : Type 0 where
  pub parts : bytes ≡ flat_map k.spelling items ++ rest
  pub good : AllGood k s items

-- behind items that are there stands one of which a test fails, this one first
pub record FaultBehind {S A : Type 0} (k : Kind S A) (s : S) (bytes : List ℕ) (items : List A) (rest : List ℕ) (g : Fault) : Type 0 where
  pub front : Spells k s bytes items rest
  pub fails : first_fault (k.tests (behind k s items) rest) ≡ Some g
