-- Lists that are made one by one, and messages of lists.
use Rattle.std.proofs.Common.{◌≡◌, ℕ, zero, suc, ◌+◌, ◌-◌, ◌%◌, ◌<◌, ◌≤◌, List, [], ◌∷◌, ◌++◌, length, map, sym, ap, subst, ◌∙◌, append_assoc, arith}
use Rattle.std.specs.List.{range_with_len}
use Rattle.std.specs.Prelude.{codes}
use Rattle.std.proofs.lemmas.List.FromFn.{map-range_with_len_more}
use Rattle.carrier_model.specs.Keys.{id}
use Rattle.carrier_model.specs.SmallTrees.{wide, integer32, string_prop}
use Rattle.carrier_model.specs.Sorted.{IsStrictlySorted}
use Rattle.carrier_model.specs.Tree.{Message, message, Body, Attached, attachments_from, embedded}
use Rattle.carrier_model.specs.Values.{Prop, IsProp, prop_cmp, bytes}
use Rattle.job_model.proofs.SampleLists.{sample_sorted}
use Rattle.job_model.proofs.SampleParts.{string_is, binary_is}
use Rattle.text_model.specs.SampleTrees.{named_prop, sample_data, plain_attachment, level_props, level_message, sample_attachments}
use Rattle.text_model.specs.TreeTexts.{counted}
use Rattle.msg_tree.specs.Meaning.{tree_of, list_of, body_step, attached_step, list_step, message_step}
use Rattle.msg_tree.specs.declared.messages.Attachments.{Attachments}
use Rattle.msg_tree.specs.declared.messages.Message.{roll-Message, fold-roll-Message}

-- one more behind those that were made
pub one_more : {X : Type 0} (front : List X) (f : ℕ → X) (n : ℕ) (old new : List X) (x : X) → old ≡ front ++ map f (range_with_len 0 n) → x ≡ f n → new ≡ old ++ x ∷ [] → new ≡ front ++ map f (range_with_len 0 (n + 1))
one_more front f n old new x h e is =
    is
    ∙ ((λ i. h i ++ e i ∷ [])
    ∙ (append_assoc front (map f (range_with_len 0 n)) (f n ∷ [])
    ∙ ap (λ l. front ++ l) (sym (map-range_with_len_more f 0 n n (omega arith)))))

-- ---- properties

-- the properties of a sample, of which so many have names
abbrev pub own_of : ℕ → ℕ → List Prop
own_of number n =
    integer32 0x0017 (number % 3)
    ∷ string_prop 0x001A (codes "IPM.Note")
    ∷ string_prop 0x0037 (counted (codes "sample") number)
    ∷ map named_prop (range_with_len 0 n)

pub text_is : (n : ℕ) (text x : List ℕ) → n < 0x8000 → length text < 0x1000 → x ≡ wide text → IsProp (record { key = id n; value = bytes 0x001F x })
text_is n text x small short e = subst (λ (y : List ℕ). IsProp (record { key = id n; value = bytes 0x001F y })) (sym e) (string_is n text small short)

pub data_is : (i : ℕ) (x : List ℕ) → i < 0x1000 → x ≡ sample_data i → IsProp (record { key = id 0x3701; value = bytes 0x0102 x })
data_is i x few e = subst (λ (y : List ℕ). IsProp (record { key = id 0x3701; value = bytes 0x0102 y })) (sym e) (binary_is i (omega (arith, few)))

pub own_sorted : (number n : ℕ) (ps : List Prop) → n ≡ number → ps ≡ own_of number n → IsStrictlySorted prop_cmp ps
own_sorted number n ps same e = subst (IsStrictlySorted prop_cmp) (sym (e ∙ ap (own_of number) same)) (sample_sorted number)

-- ---- messages

-- a message that is made of its parts
module _ {B : Type 0} (bytes_of : B → List ℕ) where
  pub made : (props : List Prop) (rows : List (List Prop)) (all : Attachments B) → tree_of bytes_of (roll-Message B (record { props = props; recipients = rows; attachments = all })) ≡ message props rows (attachments_from (list_of bytes_of all))
  made props rows all = fold-roll-Message B Body Attached (List Attached) Message (body_step bytes_of) (attached_step bytes_of) (list_step bytes_of) (message_step bytes_of) (record { props = props; recipients = rows; attachments = all })

-- ---- levels

pub at_bottom : (below level : ℕ) (props : List Prop) (rows : List (List Prop)) (all : List Attached) → below ≤ 0 → props ≡ level_props level → rows ≡ [] → all ≡ [] → message props rows (attachments_from all) ≡ level_message below level
at_bottom zero level props rows all none p r a = λ i. message (p i) (r i) (attachments_from (a i))
at_bottom (suc below) level props rows all none p r a = absurd (omega (arith, none))

pub above_others : (below level : ℕ) (props : List Prop) (rows : List (List Prop)) (all : List Attached) (inner : Message) (x : Attached) → 0 < below → props ≡ level_props level → rows ≡ [] → inner ≡ level_message (below - 1) (level + 1) → x ≡ ([], embedded inner) → all ≡ x ∷ [] → message props rows (attachments_from all) ≡ level_message below level
above_others zero level props rows all inner x some p r e f a = absurd (omega (arith, some))
above_others (suc below) level props rows all inner x some p r e f a =
    let one : x ≡ ([], embedded (level_message below (level + 1))) = f ∙ ap (λ (m : Message). ([], embedded m)) (subst (λ (k : ℕ). inner ≡ level_message k (level + 1)) (omega arith) e) in
    let list : all ≡ ([], embedded (level_message below (level + 1))) ∷ [] = a ∙ ap (λ (y : Attached). y ∷ []) one in
    λ i. message (p i) (r i) (attachments_from (list i))

-- ---- attachments

pub without_levels : (levels n : ℕ) (all : List Attached) → levels ≤ 0 → n ≡ levels → all ≡ map plain_attachment (range_with_len 0 n) → all ≡ sample_attachments levels
without_levels zero n all none same e = subst (λ (k : ℕ). all ≡ map plain_attachment (range_with_len 0 k)) same e
without_levels (suc below) n all none same e = absurd (omega (arith, none))

pub with_levels : (levels n : ℕ) (all more : List Attached) (inner : Message) (x : Attached) → 0 < levels → n ≡ levels → all ≡ map plain_attachment (range_with_len 0 n) → inner ≡ level_message (levels - 1) 1 → x ≡ ([], embedded inner) → more ≡ all ++ x ∷ [] → more ≡ sample_attachments levels
with_levels zero n all more inner x some same h e f is = absurd (omega (arith, some))
with_levels (suc below) n all more inner x some same h e f is =
    let one : x ≡ ([], embedded (level_message below 1)) = f ∙ ap (λ (m : Message). ([], embedded m)) (subst (λ (k : ℕ). inner ≡ level_message k 1) (omega arith) e) in
    let front : all ≡ map plain_attachment (range_with_len 0 (suc below)) = subst (λ (k : ℕ). all ≡ map plain_attachment (range_with_len 0 k)) same h in
    is ∙ (λ i. front i ++ one i ∷ [])
