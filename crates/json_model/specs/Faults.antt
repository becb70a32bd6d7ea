-- Why a JSON value means no tree, and where in it: the first test that fails, and the steps down to it.
use Rattle.std.specs.Prelude.{ℕ, Bool, if◌then◌else◌, List, [], ◌∷◌, ◌++◌, Result, Ok, Err, codes, decimal}

pub data Shape : Type 0 where
  not_json : Shape
  form : Shape
  kind : Shape
  digits : Shape
  range : Shape
  order : Shape
  deep : Shape

-- Of an array a step is the element's place, of an object that of the member in the order of keys; both count from 0.
pub record JsonFault : Type 0 where
  pub why : Shape
  pub path : List ℕ

-- One test or part after another, each only where none before it has a fault.
infixl 10 ◌>>=◌
abbrev pub ◌>>=◌ : {A B : Type 0} → Result A JsonFault → (A → Result B JsonFault) → Result B JsonFault
(Ok x) >>= next = next x
(Err g) >>= next = Err g

-- a fault of this very value
abbrev pub fault_here : Shape → JsonFault
fault_here why = record { why = why; path = [] }

-- a test alone
abbrev pub check : Bool → Shape → Result (Unit {0}) JsonFault
check holds why = if holds then Ok tt else Err (fault_here why)

-- the same of what is answered
abbrev pub mapped : {A B : Type 0} → (A → B) → Result A JsonFault → Result B JsonFault
mapped f (Ok x) = Ok (f x)
mapped f (Err g) = Err g

-- what a part answers, one step further down
abbrev pub under : {A : Type 0} → ℕ → Result A JsonFault → Result A JsonFault
under step (Ok x) = Ok x
under step (Err g) = Err (record { why = g.why; path = step ∷ g.path })

-- ---- in print

abbrev pub shape_name : Shape → List ℕ
shape_name not_json = codes "NotJson"
shape_name form = codes "Form"
shape_name kind = codes "Kind"
shape_name digits = codes "Digits"
shape_name range = codes "Range"
shape_name order = codes "Order"
shape_name deep = codes "Deep"

-- a slash before each step
abbrev pub steps_text : List ℕ → List ℕ
steps_text [] = []
steps_text (step ∷ more) = codes "/" ++ (decimal step ++ steps_text more)

-- a slash alone where there is no step
abbrev pub path_text : List ℕ → List ℕ
path_text [] = codes "/"
path_text (step ∷ more) = steps_text (step ∷ more)

abbrev pub json_fault_text : JsonFault → List ℕ
json_fault_text g = codes "json " ++ (shape_name g.why ++ (codes " at " ++ path_text g.path))
