-- Two ways to cut the same bytes into items agree as far as both go.
use Rattle.std.proofs.Common.{◌≡◌, ◌⊎◌, inl, inr, ℕ, ◌<◌, List, [], ◌∷◌, ◌++◌, length, Option, Some, None, refl, sym, ap, subst, ◌∙◌, append_assoc, arith}
use Rattle.std.specs.List.{flat_map}
use Rattle.std.proofs.lemmas.List.{append-nil, length-append}
use Rattle.carrier_model.specs.Trail.{Fault, first_fault}
use Rattle.carrier_model.specs.Items.{Kind, AllGood, behind, Begins, Spells, FaultBehind}

-- what a kind of item owes: its spelling passes its tests, says which item it is and where it ends, and is not empty
pub record Lawful {S A : Type 0} (k : Kind S A) : Type 0 where
  pub passes : (s : S) (a : A) (rest : List ℕ) → k.good s a → first_fault (k.tests s (k.spelling a ++ rest)) ≡ None
  pub one : (s : S) (a b : A) (x y : List ℕ) → k.good s a → k.good s b → k.spelling a ++ x ≡ k.spelling b ++ y → (b ≡ a) × (y ≡ x)
  pub some : (a : A) → 0 < length (k.spelling a)

-- the second list goes on where the first ends
pub record Goes {S A : Type 0} (k : Kind S A) (s : S) (l : List A) (x : List ℕ) (m : List A) (y : List ℕ) : Type 0 where
  pub more : List A
  pub items : m ≡ l ++ more
  pub bytes : x ≡ flat_map k.spelling more ++ y
  pub good : AllGood k (behind k s l) more

pub front : {S A : Type 0} (k : Kind S A) → Lawful k → (s : S) (l m : List A) (x y : List ℕ) → AllGood k s l → AllGood k s m → flat_map k.spelling l ++ x ≡ flat_map k.spelling m ++ y → Goes k s l x m y ⊎ Goes k s m y l x
front k law s [] m x y g h e = inl (record { more = m; items = refl; bytes = e; good = h })
front k law s (a ∷ l) [] x y g h e = inr (record { more = a ∷ l; items = refl; bytes = sym e; good = g })
front {S} {A} k law s (a ∷ l) (b ∷ m) x y g h e =
    let parts : k.spelling a ++ (flat_map k.spelling l ++ x) ≡ k.spelling b ++ (flat_map k.spelling m ++ y) = sym (append_assoc (k.spelling a) (flat_map k.spelling l) x) ∙ e ∙ append_assoc (k.spelling b) (flat_map k.spelling m) y in
    let o = law.one s a b (flat_map k.spelling l ++ x) (flat_map k.spelling m ++ y) g.0 h.0 parts in
    let same : b ≡ a = o.0 in
    let good_m : AllGood k (k.next s a) m = subst (λ (c : A). AllGood k (k.next s c) m) same h.1 in
    elim (front k law (k.next s a) l m x y g.1 good_m (sym o.1)) [
      | inl t ↦ inl (record { more = t.more; items = (let i : m ≡ l ++ t.more = t.items in cc); bytes = t.bytes; good = t.good })
      | inr t ↦ inr (record { more = t.more; items = (let i : l ≡ m ++ t.more = t.items in cc); bytes = t.bytes; good = subst (λ (c : A). AllGood k (behind k (k.next s c) m) t.more) (sym same) t.good })
    ]

-- ---- items up to the end of the bytes

nothing_left : {S A : Type 0} (k : Kind S A) → Lawful k → (more : List A) → [] ≡ flat_map k.spelling more ++ [] → more ≡ []
nothing_left k law [] e = refl
nothing_left k law (a ∷ more) e = absurd (omega (arith, ap length e, law.some a, length-append (flat_map k.spelling (a ∷ more)) [], length-append (k.spelling a) (flat_map k.spelling more)))

pub same_to_end : {S A : Type 0} (k : Kind S A) → Lawful k → (s : S) (bytes : List ℕ) (l m : List A) → Spells k s bytes l [] → Spells k s bytes m [] → m ≡ l
same_to_end k law s bytes l m p q =
    elim (front k law s l m [] [] p.good q.good (sym p.parts ∙ q.parts)) [
      | inl t ↦ t.items ∙ ap (λ (z : List _). l ++ z) (nothing_left k law t.more t.bytes) ∙ append-nil l
      | inr t ↦ sym (t.items ∙ ap (λ (z : List _). m ++ z) (nothing_left k law t.more t.bytes) ∙ append-nil m)
    ]

some_or_none : {X : Type 0} (o : Option X) (x : X) → o ≡ None → o ≡ Some x → ⊥
some_or_none o x p q = cc

-- a fault is not at the front of a good item
pub passes_there : {S A : Type 0} (k : Kind S A) → Lawful k → (s : S) (more : List A) (x y : List ℕ) (g : Fault) → AllGood k s more → x ≡ flat_map k.spelling more ++ y → first_fault (k.tests s x) ≡ Some g → more ≡ []
passes_there k law s [] x y g good e f = refl
passes_there k law s (a ∷ more) x y g good e f =
    let parts : x ≡ k.spelling a ++ (flat_map k.spelling more ++ y) = e ∙ append_assoc (k.spelling a) (flat_map k.spelling more) y in
    let none : first_fault (k.tests s x) ≡ None = rw parts (law.passes s a (flat_map k.spelling more ++ y) good.0) in
    absurd (some_or_none (first_fault (k.tests s x)) g none f)

pub same_fault : {S A : Type 0} (k : Kind S A) → Lawful k → (s : S) (bytes : List ℕ) (l m : List A) (x y : List ℕ) (g h : Fault) → FaultBehind k s bytes l x g → FaultBehind k s bytes m y h → h ≡ g
same_fault {S} {A} k law s bytes l m x y g h p q =
    elim (front k law s l m x y p.front.good q.front.good (sym p.front.parts ∙ q.front.parts)) [
      | inl t ↦ agree l m x y g h t p.fails q.fails
      | inr t ↦ sym (agree m l y x h g t q.fails p.fails)
    ]
  where
    agree : (l m : List A) (x y : List ℕ) (g h : Fault) → Goes k s l x m y → first_fault (k.tests (behind k s l) x) ≡ Some g → first_fault (k.tests (behind k s m) y) ≡ Some h → h ≡ g
    agree l m x y g h t p q =
        let none = passes_there k law (behind k s l) t.more x y g t.good t.bytes p in
        let items : m ≡ l = t.items ∙ ap (λ (z : List A). l ++ z) none ∙ append-nil l in
        let bytes : x ≡ y = t.bytes ∙ ap (λ (z : List A). flat_map k.spelling z ++ y) none in
        let there : first_fault (k.tests (behind k s l) x) ≡ Some h = rw bytes (subst (λ (z : List A). first_fault (k.tests (behind k s z) y) ≡ Some h) items q) in
        cc

pub no_fault_before_end : {S A : Type 0} (k : Kind S A) → Lawful k → (s : S) (bytes : List ℕ) (l m : List A) (y : List ℕ) (g : Fault) → Spells k s bytes l [] → FaultBehind k s bytes m y g → 0 < length y → ⊥
no_fault_before_end {S} {A} k law s bytes l m y g p q some =
    elim (front k law s m l y [] q.front.good p.good (sym q.front.parts ∙ p.parts)) [
      | inl t ↦ (
          let none = passes_there k law (behind k s m) t.more y [] g t.good t.bytes q.fails in
          let bytes : y ≡ [] = t.bytes ∙ ap (λ (z : List A). flat_map k.spelling z ++ []) none in
          omega (arith, ap length bytes))
      | inr t ↦ omega (arith, ap length t.bytes, length-append (flat_map k.spelling t.more) y)
    ]

-- ---- so many items

pub same_count : {S A : Type 0} (k : Kind S A) → Lawful k → (s : S) (bytes : List ℕ) (l m : List A) (x y : List ℕ) → Spells k s bytes l x → Spells k s bytes m y → length l ≡ length m → m ≡ l
same_count {S} {A} k law s bytes l m x y p q e =
    elim (front k law s l m x y p.good q.good (sym p.parts ∙ q.parts)) [
      | inl t ↦ no_more l m t.more t.items (sym e)
      | inr t ↦ sym (no_more m l t.more t.items e)
    ]
  where
    no_more : (l m more : List A) → m ≡ l ++ more → length m ≡ length l → m ≡ l
    no_more l m [] i e = i ∙ append-nil l
    no_more l m (a ∷ more) i e = absurd (omega (arith, ap length i, length-append l (a ∷ more)))

pub no_fault_in_count : {S A : Type 0} (k : Kind S A) → Lawful k → (s : S) (bytes : List ℕ) (l m : List A) (x y : List ℕ) (g : Fault) → Spells k s bytes l x → FaultBehind k s bytes m y g → length m < length l → ⊥
no_fault_in_count {S} {A} k law s bytes l m x y g p q lt =
    elim (front k law s m l y x q.front.good p.good (sym q.front.parts ∙ p.parts)) [
      | inl t ↦ (
          let none = passes_there k law (behind k s m) t.more y x g t.good t.bytes q.fails in
          omega (arith, ap length t.items, ap length none, length-append m t.more))
      | inr t ↦ omega (arith, ap length t.items, length-append l t.more)
    ]

-- ---- one more item

pub AllGood-push : {S A : Type 0} (k : Kind S A) → (s : S) (l : List A) (a : A) → AllGood k s l → k.good (behind k s l) a → AllGood k s (l ++ a ∷ [])
AllGood-push k s [] a g h = (h, tt)
AllGood-push k s (b ∷ l) a g h = (g.0, AllGood-push k (k.next s b) l a g.1 h)

pub behind-push : {S A : Type 0} (k : Kind S A) → (s : S) (l : List A) (a : A) → behind k s (l ++ a ∷ []) ≡ k.next (behind k s l) a
behind-push k s [] a = refl
behind-push k s (b ∷ l) a = behind-push k (k.next s b) l a

pub flat_map-push : {S A : Type 0} (k : Kind S A) → (l : List A) (a : A) → flat_map k.spelling (l ++ a ∷ []) ≡ flat_map k.spelling l ++ k.spelling a
flat_map-push k [] a = append-nil (k.spelling a)
flat_map-push k (b ∷ l) a = ap (λ (z : List ℕ). k.spelling b ++ z) (flat_map-push k l a) ∙ sym (append_assoc (k.spelling b) (flat_map k.spelling l) (k.spelling a))

pub Spells-nothing : {S A : Type 0} (k : Kind S A) → (s : S) (bytes : List ℕ) → Spells k s bytes [] bytes
Spells-nothing k s bytes = record { parts = refl; good = tt }

pub Spells-push : {S A : Type 0} (k : Kind S A) → (s : S) (bytes : List ℕ) (l : List A) (rest : List ℕ) (a : A) (after : List ℕ) (t : S) → Spells k s bytes l rest → behind k s l ≡ t → Begins k t rest a after → Spells k s bytes (l ++ a ∷ []) after
Spells-push k s bytes l rest a after t p e b = record {
  parts = p.parts ∙ ap (λ (z : List ℕ). flat_map k.spelling l ++ z) b.parts ∙ sym (append_assoc (flat_map k.spelling l) (k.spelling a) after) ∙ ap (λ (z : List ℕ). z ++ after) (sym (flat_map-push k l a));
  good = AllGood-push k s l a p.good (rw e b.good);
}
