-- The parts of a stream, and how long they are.
use Rattle.std.proofs.Common.{◌≡◌, ℕ, ◌+◌, ◌-◌, ◌<◌, ◌≤◌, ◌++◌, List, [], ◌∷◌, length, take, drop, take_all, length-drop, refl, sym, ap, ◌∙◌, append_assoc, length-append, arith}
use Rattle.std.specs.List.{flat_map}
use Rattle.std.specs.Prelude.{slice_get, Some}
use Rattle.carrier_model.specs.Bytes.{le16, sum16}
use Rattle.carrier_model.specs.Keys.{Name, Key, id, named}
use Rattle.tnef_model.specs.LegacyAttributes.{RECIPIENTS, ATTACHMENT}
use Rattle.tnef_model.specs.TnefCanonical.{attribute, content_of, list_bytes, front, page_attribute, recipients_attribute, props_attribute, rendering_attribute, stream_of, attachments_bytes, prop_bytes, props_bytes, key_bytes, value_bytes}
use Rattle.tnef_model.specs.TnefMessage.{IID_STORAGE}
use Rattle.carrier_model.specs.FileTrees.{Store}
use Rattle.carrier_model.specs.Stores.{store_bytes}
use Rattle.carrier_model.specs.Totals.{capped}
use Rattle.carrier_model.specs.Tree.{Attached, message, attachments_from, stored}
use Rattle.carrier_model.specs.Values.{Prop, kind_of}
use Rattle.tnef_writer.specs.Written.{attached_list, attachment_bytes, own_bytes, list_alone, table_bytes, carried_list}
use Rattle.tnef_props.specs.Named.{between}
use Rattle.carrier_io.proofs.Summed.{flat_map_parts}

pub attribute_length : (level n : ℕ) (content : List ℕ) → length (attribute level n content) ≡ 11 + length content
attribute_length level n content = omega (arith, length-append content (le16 (sum16 content)))

pub no_recipients : (names : List Name) (rs : List (List Prop)) → length rs ≡ 0 → recipients_attribute names rs ≡ []
no_recipients names [] e = refl
no_recipients names (r ∷ rs) e = absurd (omega (arith, e))

pub some_recipients : (names : List Name) (rs : List (List Prop)) → 0 < length rs → recipients_attribute names rs ≡ attribute 1 RECIPIENTS (table_bytes names rs)
some_recipients names [] lt = absurd (omega (arith, lt))
some_recipients names (r ∷ rs) lt = refl

pub attachments_parts : (names : List Name) (xs : List Attached) → attachments_bytes names (attachments_from xs) ≡ flat_map (attachment_bytes names) xs
attachments_parts names [] = refl
attachments_parts names (x ∷ xs) =
    ap (λ (z : List ℕ). rendering_attribute x.0 ++ (attribute 2 ATTACHMENT (attached_list names x) ++ z)) (attachments_parts names xs)
    ∙ sym (append_assoc (rendering_attribute x.0) (attribute 2 ATTACHMENT (attached_list names x)) (flat_map (attachment_bytes names) xs))

pub stream_parts : (names : List Name) (props : List Prop) (rs : List (List Prop)) (xs : List Attached) → stream_of names (message props rs (attachments_from xs)) ≡ own_bytes names props rs ++ flat_map (attachment_bytes names) xs
stream_parts names props rs xs =
    let a = front in
    let b = page_attribute props in
    let c = recipients_attribute names rs in
    let d = props_attribute names props in
    let e = flat_map (attachment_bytes names) xs in
    ap (λ (z : List ℕ). a ++ (b ++ (c ++ (d ++ z)))) (attachments_parts names xs)
    ∙ sym (append_assoc a (b ++ (c ++ d)) e
    ∙ ap (λ (z : List ℕ). a ++ z) (append_assoc b (c ++ d) e ∙ ap (λ (z : List ℕ). b ++ z) (append_assoc c d e)))

pub own_length : (names : List Name) (props : List Prop) (rs : List (List Prop)) → length (own_bytes names props rs) ≡ 40 + (length (recipients_attribute names rs) + length (props_attribute names props))
own_length names props rs =
    omega (arith, length-append front (page_attribute props ++ (recipients_attribute names rs ++ props_attribute names props)), length-append (page_attribute props) (recipients_attribute names rs ++ props_attribute names props), length-append (recipients_attribute names rs) (props_attribute names props))

pub attachment_length : (names : List Name) (x : Attached) → length (attachment_bytes names x) ≡ 36 + length (attached_list names x)
attachment_length names x = omega (arith, length-append (rendering_attribute x.0) (attribute 2 ATTACHMENT (attached_list names x)), attribute_length 2 ATTACHMENT (attached_list names x))

-- ---- counts are no greater than lengths

prop_some : (names : List Name) (p : Prop) → 1 ≤ length (prop_bytes names p)
prop_some names p = by p.key
  where
    by : (k : Key) → 1 ≤ length (key_bytes names k (kind_of p.value) ++ value_bytes p.value)
    by (id n) = omega arith
    by (named name) = omega arith

pub props_few : (names : List Name) (props : List Prop) → length props ≤ length (props_bytes names props)
props_few names [] = omega arith
props_few names (p ∷ props) = omega (arith, prop_some names p, props_few names props, length-append (prop_bytes names p) (props_bytes names props))

pub lists_few : (names : List Name) (rs : List (List Prop)) → length rs ≤ length (flat_map (list_alone names) rs)
lists_few names [] = omega arith
lists_few names (r ∷ rs) = omega (arith, lists_few names rs, length-append (list_alone names r) (flat_map (list_alone names) rs))

-- one of several is no longer than all
pub one_shorter : {X : Type 0} (f : X → List ℕ) (xs : List X) (k : ℕ) (x : X) → slice_get xs k ≡ Some x → length (f x) ≤ length (flat_map f xs)
one_shorter f xs k x at =
    omega (arith, ap length (flat_map_parts f xs k x at), length-append (flat_map f (take k xs)) (f x ++ flat_map f (drop (k + 1) xs)), length-append (f x) (flat_map f (drop (k + 1) xs)))

pub whole : {A : Type 0} (n : ℕ) (xs : List A) → length xs ≤ n → between 0 n xs ≡ xs
whole n xs le = let e : n - 0 ≡ n = omega arith in ap (λ (k : ℕ). take k xs) e ∙ take_all n xs le

pub behind : {A : Type 0} (from n : ℕ) (xs : List A) → n ≡ length xs → between from n xs ≡ drop from xs
behind from n xs e = take_all (n - from) (drop from xs) (omega (arith, e, length-drop from xs))

pub before : {A : Type 0} (to : ℕ) (xs : List A) → between 0 to xs ≡ take to xs
before to xs = let e : to - 0 ≡ to = omega arith in ap (λ (k : ℕ). take k xs) e

-- the value of an Object with a file in it
pub storage_size : (file : List ℕ) (size whole : ℕ) → size ≡ capped (length file) → whole ≡ capped (size + 16) → capped (length (IID_STORAGE ++ file)) ≡ whole
storage_size file size whole e h = omega (arith, e, h)

-- the list of an attachment that holds a store with this file
pub stored_list : (names : List Name) (x : Attached) (props : List Prop) (s : Store) (file : List ℕ) → x.0 ≡ props → x.1 ≡ stored s → file ≡ store_bytes s → attached_list names x ≡ carried_list names props (IID_STORAGE ++ file)
stored_list names x props s file p e f = (λ i. list_bytes names (p i) (content_of names (e i))) ∙ ap (λ z. carried_list names props (IID_STORAGE ++ z)) (sym f)
