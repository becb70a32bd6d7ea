-- What edits make one after another is what they make together, and the first that can't be done is what is answered.
use Rattle.std.proofs.Common.{◌≡◌, ℕ, suc, ◌+◌, List, [], ◌∷◌, ◌++◌, length, refl, ap, sym, subst, ◌∙◌, arith}
use Rattle.std.specs.Prelude.{Result, Ok, Err}
use Rattle.carrier_model.specs.Tree.{Message}
use Rattle.edit_model.specs.Edits.{Edit, Why, EditFault, edited_once, numbered_fault, and_after, edited_from, edited_tree, Makes, IsFirstFault}

pub made_sound : (n : ℕ) (es : List Edit) (t end : Message) → edited_from n es t ≡ Ok end → Makes es t end
made_sound n [] t end h = cc
made_sound n (e ∷ es) t end h = by (edited_once e t) refl (λ next. made_sound (n + 1) es next end) h
  where
    by : (r : Result Message Why) → edited_once e t ≡ r → ((next : Message) → edited_from (n + 1) es next ≡ Ok end → Makes es next end) → and_after (numbered_fault n r) (edited_from (n + 1) es) ≡ Ok end → Makes (e ∷ es) t end
    by (Ok next) is more k = (next, is, more next k)
    by (Err why) is more k = absurd cc

pub made_only : (n : ℕ) (es : List Edit) (t end : Message) → Makes es t end → edited_from n es t ≡ Ok end
made_only n [] t end h = ap Ok (sym h)
made_only n (e ∷ es) t end (next, is, rest) = rw is (made_only (n + 1) es next end rest)

-- the same as the first fault where the first edit has the number n
record FaultFrom (n : ℕ) (es : List Edit) (t : Message) (g : EditFault) : Type 0 where
  before : List Edit
  edit : Edit
  behind : List Edit
  parts : es ≡ before ++ edit ∷ behind
  number : n + length before ≡ g.0
  made : Message
  makes : Makes before t made
  fails : edited_once edit made ≡ Err g.1

fault_from : (n : ℕ) (es : List Edit) (t : Message) (g : EditFault) → edited_from n es t ≡ Err g → FaultFrom n es t g
fault_from n [] t g h = absurd cc
fault_from n (e ∷ es) t g h = by (edited_once e t) refl (λ next. fault_from (n + 1) es next g) h
  where
    by : (r : Result Message Why) → edited_once e t ≡ r → ((next : Message) → edited_from (n + 1) es next ≡ Err g → FaultFrom (n + 1) es next g) → and_after (numbered_fault n r) (edited_from (n + 1) es) ≡ Err g → FaultFrom n (e ∷ es) t g
    by (Ok next) is more k =
        let f = more next k in
        record {
          before = e ∷ f.before;
          edit = f.edit;
          behind = f.behind;
          parts = ap (λ l. e ∷ l) f.parts;
          number = omega (arith, f.number);
          made = f.made;
          makes = (next, is, f.makes);
          fails = f.fails;
        }
    by (Err why) is more k =
        let same : (n, why) ≡ g = cc in
        record {
          before = [];
          edit = e;
          behind = es;
          parts = refl;
          number = omega (arith, ap (λ p. p.0) same);
          made = t;
          makes = refl;
          fails = is ∙ ap (λ p. Err p.1) same;
        }

pub fault_sound : (es : List Edit) (t : Message) (g : EditFault) → edited_tree es t ≡ Err g → IsFirstFault es t g
fault_sound es t g h =
    let f = fault_from 0 es t g h in
    record { before = f.before; edit = f.edit; behind = f.behind; parts = f.parts; number = omega (arith, f.number); made = f.made; makes = f.makes; fails = f.fails }

fails_at : (n : ℕ) (before : List Edit) (e : Edit) (behind : List Edit) (t made : Message) (why : Why) → Makes before t made → edited_once e made ≡ Err why → edited_from n (before ++ e ∷ behind) t ≡ Err (n + length before, why)
fails_at n [] e behind t made why makes fails =
    let here : edited_once e t ≡ Err why = subst (λ m. edited_once e m ≡ Err why) makes fails in
    let same : n ≡ n + 0 = omega arith in
    rw here (ap (λ k. Err (k, why)) same)
fails_at n (x ∷ before) e behind t made why (next, is, rest) fails =
    let same : n + 1 + length before ≡ n + suc (length before) = omega arith in
    rw is (fails_at (n + 1) before e behind next made why rest fails ∙ ap (λ k. Err (k, why)) same)

pub fault_only : (es : List Edit) (t : Message) (g : EditFault) → IsFirstFault es t g → edited_tree es t ≡ Err g
fault_only es t g f =
    let number : 0 + length f.before ≡ g.0 = omega (arith, f.number) in
    subst (λ l. edited_tree l t ≡ Err g) (sym f.parts) (fails_at 0 f.before f.edit f.behind t f.made g.1 f.makes f.fails ∙ ap (λ k. Err (k, g.1)) number)
