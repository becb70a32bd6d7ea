-- Grammars of bytes. A form says which bytes spell which meaning at a place, and which fault comes first where the
-- bytes begin with no spelling. A place is the offset in the whole input.
use Rattle.std.specs.Prelude.{◌≡◌, ◌⊎◌, ℕ, zero, suc, ◌+◌, ◌<◌, Bool, true, false, List, [], ◌∷◌, ◌++◌, length}
use Rattle.carrier_model.specs.Trail.{Fault}

pub record Form (X : Type 0) : Type 1 where
  pub spells : ℕ → X → List ℕ → Type 0
  pub fails : ℕ → List ℕ → Fault → Type 0

-- the bytes at a place are a spelling of x, and then the rest
pub record Begins {X : Type 0} (f : Form X) (at : ℕ) (bytes : List ℕ) (x : X) (rest : List ℕ) : Type 0 where
  pub text : List ℕ
  pub parts : bytes ≡ text ++ rest
  pub spelled : f.spells at x text

-- the bytes from a place up to another are a spelling of x, and then come the rest
pub record Spans {X : Type 0} (f : Form X) (at : ℕ) (bytes : List ℕ) (x : X) (after : ℕ) (rest : List ℕ) : Type 0 where
  pub begins : Begins f at bytes x rest
  pub place : after + length rest ≡ at + length bytes

-- the bytes at a place begin with a spelling of x
abbrev pub Means : {X : Type 0} → Form X → ℕ → List ℕ → X → Type 0
Means f at bytes x = (rest : List ℕ) × Begins f at bytes x rest

-- no bytes at all: they mean x
abbrev pub gives : {X : Type 0} → X → Form X
gives x = record {
  spells = λ at y text. (y ≡ x) × (text ≡ []);
  fails = λ at bytes g. ⊥;
}

-- so many bytes; fewer are a fault
abbrev pub field : ℕ → ℕ → Form (List ℕ)
field n reason = record {
  spells = λ at x text. (x ≡ text) × (length text ≡ n);
  fails = λ at bytes g. (length bytes < n) × (g ≡ (reason, at));
}

-- the text is one of a form, and then one of the form that follows from what the first means
pub record InTurn {X Y : Type 0} (f : Form X) (next : X → Form Y) (at : ℕ) (y : Y) (text : List ℕ) : Type 0 where
  pub x : X
  pub front : List ℕ
  pub back : List ℕ
  pub parts : text ≡ front ++ back
  pub first : f.spells at x front
  pub second : (next x).spells (at + length front) y back

-- behind a text of the first form the second fails
pub record FailsNext {X Y : Type 0} (f : Form X) (next : X → Form Y) (at : ℕ) (bytes : List ℕ) (g : Fault) : Type 0 where
  pub x : X
  pub front : List ℕ
  pub rest : List ℕ
  pub parts : bytes ≡ front ++ rest
  pub first : f.spells at x front
  pub fails : (next x).fails (at + length front) rest g

-- one form, and behind it the form that follows from its meaning, whose meaning is that of both
abbrev pub and_then : {X Y : Type 0} → Form X → (X → Form Y) → Form Y
and_then f next = record {
  spells = InTurn f next;
  fails = λ at bytes g. f.fails at bytes g ⊎ FailsNext f next at bytes g;
}

-- a text of the form does not pass the test
pub record FailsTest {X : Type 0} (f : Form X) (ok : X → Bool) (reason at : ℕ) (bytes : List ℕ) (g : Fault) : Type 0 where
  pub x : X
  pub front : List ℕ
  pub rest : List ℕ
  pub parts : bytes ≡ front ++ rest
  pub first : f.spells at x front
  pub refused : ok x ≡ false
  pub fault : g ≡ (reason, at)

-- a form whose meaning passes a test; what does not is a fault where the form begins
abbrev pub such : {X : Type 0} → Form X → (X → Bool) → ℕ → Form X
such f ok reason = record {
  spells = λ at x text. f.spells at x text × (ok x ≡ true);
  fails = λ at bytes g. f.fails at bytes g ⊎ FailsTest f ok reason at bytes g;
}

-- a form, with the place where it stands
abbrev pub placed : {X : Type 0} → Form X → Form (ℕ × X)
placed f = record {
  spells = λ at p text. (p.0 ≡ at) × f.spells at p.1 text;
  fails = f.fails;
}

-- one of two forms
abbrev pub choice : {X : Type 0} → Bool → Form X → Form X → Form X
choice true f g = f
choice false f g = g

-- So many texts, one behind the other. What an item may be can rest on those before it. The meaning is the list of
-- those before it and of these.
unfoldable pub repeat : {X : Type 0} → ℕ → (List X → Form X) → List X → Form (List X)
repeat zero item before = gives before
repeat (suc n) item before = and_then (item before) (λ x. repeat n item (before ++ x ∷ []))

-- A whole of bytes has one meaning, or a first fault: `means` and `fails` of all the bytes at a place.
pub record Whole (X : Type 0) : Type 1 where
  pub means : ℕ → List ℕ → X → Type 0
  pub fails : ℕ → List ℕ → Fault → Type 0

-- no bytes here; the meaning is that of other bytes, as a whole
abbrev pub inside : {X : Type 0} → Whole X → ℕ → List ℕ → Form X
inside w place bytes = record {
  spells = λ at x text. w.means place bytes x × (text ≡ []);
  fails = λ at rest g. w.fails place bytes g;
}
