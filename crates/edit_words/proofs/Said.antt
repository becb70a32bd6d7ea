-- The edits that stand in a list of words.
use Rattle.std.proofs.Common.{◌≡◌, ℕ, zero, suc, ◌+◌, ◌≤◌, ◌<◌, List, [], ◌∷◌, ◌++◌, length, map, get_or, take, drop, refl, sym, ap, ◌∙◌, Some, None, arith}
use Rattle.std.specs.Prelude.{Option, slice_get, String, string_bytes}
use Rattle.std.specs.declared.alloc.Global.{Global}
use Rattle.std.specs.List.{filter_map}
use Rattle.std.proofs.lemmas.List.{length-map, length-drop, map-append, take-map, drop-map}
use Rattle.std.proofs.lemmas.List.Elements.{filter_map-append}
use Rattle.edit_model.specs.Edits.{Edit}
use Rattle.edit_model.specs.EditWords.{edit_of, words_behind}
use Rattle.edit_words.specs.Meaning.{texts, said_by, said_at, said, SayEdits}
use Rattle.edit_words.specs.Verbs.{IsNoVerb}
use Rattle.edit_words.proofs.VerbWords.{no_edit}

-- ---- members of a list

member_at : {A B : Type 0} (f : A → Option B) (es : List B) (xs : List A) (d : A) (k : ℕ) → map Some es ≡ map f xs → k < length es → (e : B) × (slice_get es k ≡ Some e) × (f (get_or xs k d) ≡ Some e)
member_at f [] xs d k each lt = absurd (omega (arith, lt))
member_at f (e ∷ es) [] d k each lt = absurd cc
member_at f (e ∷ es) (x ∷ xs) d zero each lt = (e, refl, cc)
member_at f (e ∷ es) (x ∷ xs) d (suc k) each lt =
    let rest : map Some es ≡ map f xs = cc in
    member_at f es xs d k rest (omega (arith, lt))

filtered : {A B : Type 0} (f : A → Option B) (es : List B) (xs : List A) → map Some es ≡ map f xs → filter_map f xs ≡ es
filtered f [] [] each = refl
filtered f [] (x ∷ xs) each = absurd cc
filtered f (e ∷ es) [] each = absurd cc
filtered f (e ∷ es) (x ∷ xs) each =
    let one : f x ≡ Some e = cc in
    let rest : map Some es ≡ map f xs = cc in
    rw one (ap (λ l. e ∷ l) (filtered f es xs rest))

run_each : {A B : Type 0} (f : A → Option B) (es : List B) (xs : List A) (from n : ℕ) → map Some es ≡ map f xs → map Some (take n (drop from es)) ≡ map f (take n (drop from xs))
run_each f es xs from n each =
    sym (take-map Some n (drop from es))
    ∙ (ap (take n) (sym (drop-map Some from es))
    ∙ (ap (λ l. take n (drop from l)) each
    ∙ (ap (take n) (drop-map f from xs)
    ∙ take-map f n (drop from xs))))

-- ---- an edit at a word

pub said_here : (T : List (List ℕ)) (at : ℕ) (verb : List ℕ) (own : List (List ℕ)) → drop at T ≡ verb ∷ drop (at + 1) T → own ≡ take (words_behind verb) (drop (at + 1) T) → edit_of verb own ≡ said_at T at
said_here T at verb own here is = ap (edit_of verb) is ∙ sym (ap said_by here)

pub none_here : (T : List (List ℕ)) (at : ℕ) (verb : List ℕ) → drop at T ≡ verb ∷ drop (at + 1) T → IsNoVerb verb → None ≡ said_at T at
none_here T at verb here none = sym (ap said_by here ∙ no_edit verb (take (words_behind verb) (drop (at + 1) T)) none)

none_behind : (verb : List ℕ) (n : ℕ) → edit_of verb (take n []) ≡ None
none_behind verb zero = refl
none_behind verb (suc n) = refl

-- an edit has a word behind its verb
two_words : (list : List (List ℕ)) (e : Edit) → said_by list ≡ Some e → 2 ≤ length list
two_words [] e is = absurd cc
two_words (verb ∷ []) e is = let none = none_behind verb (words_behind verb) in absurd cc
two_words (verb ∷ word ∷ more) e is = omega arith

pub said_within : (T : List (List ℕ)) (at : ℕ) (e : Edit) → said_at T at ≡ Some e → at + 1 < length T
said_within T at e is = omega (arith, two_words (drop at T) e is, length-drop at T)

-- ---- the edits of a list

pub edit_there : (T : List (List ℕ)) (starts : List ℕ) (es : List Edit) (k at d : ℕ) → SayEdits T starts → said T starts ≡ es → k < length es → at ≡ get_or starts k d → (e : Edit) × (slice_get es k ≡ Some e) × (said_at T at ≡ Some e)
edit_there T starts es k at d all is lt here =
    let (e, there, said) = member_at (said_at T) es starts d k (ap (map Some) (sym is) ∙ all.each) lt in
    (e, there, ap (said_at T) here ∙ said)

-- a number of a word behind which another one stands
pub start_within : (words : List (String Global)) (starts : List ℕ) (es : List Edit) (k at d : ℕ) → SayEdits (texts words) starts → said (texts words) starts ≡ es → k < length es → at ≡ get_or starts k d → at + 1 < length words
start_within words starts es k at d all is lt here =
    let (e, there, said) = edit_there (texts words) starts es k at d all is lt here in
    omega (arith, said_within (texts words) at e said, length-map words string_bytes)

pub said_more : (T : List (List ℕ)) (starts : List ℕ) (at : ℕ) (e : Edit) → said_at T at ≡ Some e → said T (starts ++ at ∷ []) ≡ said T starts ++ e ∷ []
said_more T starts at e is = filter_map-append (said_at T) starts (at ∷ []) ∙ rw is refl

pub each_more : (T : List (List ℕ)) (starts : List ℕ) (at : ℕ) (e : Edit) → said_at T at ≡ Some e → map Some (said T starts) ≡ map (said_at T) starts → map Some (said T (starts ++ at ∷ [])) ≡ map (said_at T) (starts ++ at ∷ [])
each_more T starts at e is each =
    ap (map Some) (said_more T starts at e is)
    ∙ (map-append Some (said T starts) (e ∷ [])
    ∙ (ap (λ l. l ++ Some e ∷ []) each
    ∙ (ap (λ o. map (said_at T) starts ++ o ∷ []) (sym is)
    ∙ sym (map-append (said_at T) starts (at ∷ [])))))

-- some in a row
pub run_said : (T : List (List ℕ)) (starts : List ℕ) (from n : ℕ) → SayEdits T starts → said T (take n (drop from starts)) ≡ take n (drop from (said T starts))
run_said T starts from n all = filtered (said_at T) (take n (drop from (said T starts))) (take n (drop from starts)) (run_each (said_at T) (said T starts) starts from n all.each)

pub run_says : (T : List (List ℕ)) (starts : List ℕ) (from n : ℕ) → SayEdits T starts → SayEdits T (take n (drop from starts))
run_says T starts from n all = record {
  each = ap (map Some) (run_said T starts from n all) ∙ run_each (said_at T) (said T starts) starts from n all.each;
  short = all.short;
}
