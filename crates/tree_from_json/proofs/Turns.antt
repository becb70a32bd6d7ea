-- Elements of arrays, read in turn.
use Rattle.std.proofs.Common.{◌≡◌, ℕ, ◌+◌, ◌<◌, ◌≤◌, List, [], ◌∷◌, ◌++◌, length, get_or, drop, refl, ap, sym, subst, ◌∙◌, arith}
use Rattle.std.specs.Prelude.{Result, Ok, Err, nat_lt, true, false}
use Rattle.std.proofs.lemmas.Bool.Decides.{nat_tests}
use Rattle.std.proofs.lemmas.List.{drop_more, drop_all}
use Rattle.serde_json.specs.Data.{Data, Items}
use Rattle.json_values.specs.View.{view, items_view}
use Rattle.json_values.specs.declared.value.Value.{Value}
use Rattle.carrier_model.specs.Values.{list_limit}
use Rattle.json_model.specs.Faults.{JsonFault, under, fault_here, range}
use Rattle.json_model.specs.Parts.{in_turn, items_at, read_array}
use Rattle.json_model.specs.Properties.{read_list}
use Rattle.tree_from_json.specs.Ends.{Reads, ReadsBelow}
use Rattle.tree_from_json.specs.declared.read_ends.ReadEnd.{ReadEnd}
use Rattle.tree_from_json.specs.declared.read_ends.ReadEnd.TheVariants as ends
use Rattle.tree_from_json.proofs.Reading.{under_ok, under_err, then_err}

-- what is read of all elements, where so many were read and gave what is there
abbrev pub InTurn : {A : Type 0} → (List A → Data → Result A JsonFault) → List A → ℕ → List Value → Type 0
InTurn read before k vs = in_turn read before (items_view (drop k vs)) ≡ in_turn read [] (items_view vs)

at_next : {A : Type 0} (read : List A → Data → Result A JsonFault) (before : List A) (k : ℕ) (vs : List Value) (v : Value) → k < length vs → v ≡ get_or vs k v
    → in_turn read before (items_view (drop k vs)) ≡ in_turn read before (items_view (v ∷ drop (k + 1) vs))
at_next read before k vs v lt at = ap (λ l. in_turn read before (items_view l)) (drop_more vs k v lt ∙ ap (λ x. x ∷ drop (k + 1) vs) (sym at))

-- the next element
pub turn_ok : {A X : Type 0} (see : X → A) (read : List A → Data → Result A JsonFault) (before : List A) (k : ℕ) (vs : List Value) (v : Value) (inner : Result X ReadEnd) (x : X) (new : List A)
    → k < length vs → v ≡ get_or vs k v → Reads see (read before (view v)) inner → ReadsBelow (length before) inner (Ok x) → new ≡ before ++ see x ∷ [] → InTurn read before k vs → InTurn read new (k + 1) vs
turn_ok see read before k vs v inner x new lt at h below n inv =
    let one = under_ok see (read before (view v)) (length before) inner x h below in
    ap (λ l. in_turn read l (items_view (drop (k + 1) vs))) n ∙ (sym (at_next read before k vs v lt at ∙ rw one refl) ∙ inv)

-- an element that is not read
pub turn_err : {A X Y : Type 0} (see : X → A) (other : Y → List A) (read : List A → Data → Result A JsonFault) (before : List A) (k : ℕ) (vs : List Value) (v : Value) (inner : Result X ReadEnd) (e : ReadEnd)
    → k < length vs → v ≡ get_or vs k v → Reads see (read before (view v)) inner → ReadsBelow (length before) inner (Err e) → InTurn read before k vs → Reads other (in_turn read [] (items_view vs)) (Err e)
turn_err see other read before k vs v inner e lt at h below inv =
    let one = under_err see (read before (view v)) (length before) inner e h below in
    subst (λ model. Reads other model (Err e)) (sym (at_next read before k vs v lt at) ∙ inv)
    (then_err see other (under (length before) (read before (view v))) (λ x. in_turn read (before ++ x ∷ []) (items_view (drop (k + 1) vs))) e one)

-- no element is left
pub turn_end : {A : Type 0} (read : List A → Data → Result A JsonFault) (before : List A) (k : ℕ) (vs : List Value) → length vs ≤ k → InTurn read before k vs → in_turn read [] (items_view vs) ≡ Ok before
turn_end read before k vs all inv = sym inv ∙ ap (λ l. in_turn read before (items_view l)) (drop_all k vs all)

-- ---- lists of at most so many elements

pub list_err : {A X : Type 0} (see : X → List A) (read : Data → Result A JsonFault) (v : Data) (items : Items) (e : ReadEnd) (out : Result X ReadEnd)
    → items_at v ≡ Ok items → out ≡ Err e → Reads see (in_turn (λ before. read) [] items) (Err e) → Reads see (read_list read v) out
list_err see read v items (ends.Fault f) out at is h = rw (is, at, h) refl
list_err see read v items ends.NoMemory out at is h = rw is tt

pub list_long : {A : Type 0} (read : Data → Result A JsonFault) (v : Data) (items : Items) (list : List A)
    → items_at v ≡ Ok items → in_turn (λ before. read) [] items ≡ Ok list → list_limit ≤ length list → read_list read v ≡ Err (fault_here range)
list_long read v items list at h long = let no : nat_lt (length list) list_limit ≡ false = grind (arith, nat_tests) in rw (at, h, no) refl

pub list_ok : {A : Type 0} (read : Data → Result A JsonFault) (v : Data) (items : Items) (list : List A)
    → items_at v ≡ Ok items → in_turn (λ before. read) [] items ≡ Ok list → length list < list_limit → read_list read v ≡ Ok list
list_ok read v items list at h short = let yes : nat_lt (length list) list_limit ≡ true = grind (arith, nat_tests) in rw (at, h, yes) refl

-- ---- lists of any length

pub array_err : {A X : Type 0} (see : X → List A) (read : List A → Data → Result A JsonFault) (v : Data) (items : Items) (e : ReadEnd) (out : Result X ReadEnd)
    → items_at v ≡ Ok items → out ≡ Err e → Reads see (in_turn read [] items) (Err e) → Reads see (read_array read v) out
array_err see read v items (ends.Fault f) out at is h = rw (is, at, h) refl
array_err see read v items ends.NoMemory out at is h = rw is tt

pub array_ok : {A : Type 0} (read : List A → Data → Result A JsonFault) (v : Data) (items : Items) (list : List A)
    → items_at v ≡ Ok items → in_turn read [] items ≡ Ok list → read_array read v ≡ Ok list
array_ok read v items list at h = rw at h
