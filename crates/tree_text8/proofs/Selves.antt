-- Trees that are their own Unicode forms.
use Rattle.std.proofs.Common.{◌≡◌, ◌∙◌, refl, sym, ap, ℕ, ◌+◌, Bool, true, false, List, [], ◌∷◌, drop, subst, arith}
use Rattle.std.specs.Prelude.{◌||◌, ◌==◌, IsTrue, None, Some, not, slice_get, if◌then◌else◌}
use Rattle.std.specs.List.{list_any}
use Rattle.std.proofs.lemmas.Bool.{eqb-true}
use Rattle.carrier_model.specs.Tree.{Attached, attachments_from, Message, message, Attachments, no_more, attached, Body, nothing, embedded, stored}
use Rattle.carrier_model.specs.Values.{Value, number, guid, bytes, numbers, guids, parts, Prop}
use Rattle.carrier_model.proofs.Trees.{drop_at}
use Rattle.text8_model.specs.Become.{BecomesWide, BecomesBy, EachBecomes, RecipientsBecome, MessageBecomes, AttachmentsBecome, BodyBecomes}
use Rattle.text8_model.specs.Pages.{Page}
use Rattle.text8_model.specs.Unicode.{page_in, is_to_convert, lacks, wide_kind}
use Rattle.tree_text8.specs.Narrow.{are_narrow, attached_narrow, is_narrow, any_narrow, body_narrow}
use Rattle.tree_text8.proofs.Walked.{neither}

-- ---- one turn of a walk

-- what is so of none up to a place is so of one of all where it is so there, and else of one behind it
module _ {A : Type 0} (f : A → Bool) (xs : List A) (k : ℕ) (x : A) (at : slice_get xs k ≡ Some x) where
  here : list_any f (drop k xs) ≡ (f x || list_any f (drop (k + 1) xs))
  here = ap (list_any f) (drop_at xs k x at)

  pub any_found : f x ≡ true → list_any f xs ≡ list_any f (drop k xs) → list_any f xs ≡ true
  any_found is so_far = so_far ∙ (here ∙ ap (λ (b : Bool). b || list_any f (drop (k + 1) xs)) is)

  pub any_later : f x ≡ false → list_any f xs ≡ list_any f (drop k xs) → list_any f xs ≡ list_any f (drop (k + 1) xs)
  any_later is so_far = so_far ∙ (here ∙ ap (λ (b : Bool). b || list_any f (drop (k + 1) xs)) is)

-- ---- what isn't converted becomes itself

stays : (code : ℕ) (b : Bool) (p : Prop) → b ≡ false → BecomesBy b code p p
stays code b p e = subst (λ (c : Bool). BecomesBy c code p p) (sym e) refl

each_stays : (code : ℕ) (props ps : List Prop) → list_any (is_to_convert props) ps ≡ false → EachBecomes code props ps ps
each_stays code props [] none = tt
each_stays code props (p ∷ ps) none =
    let (here, behind) = neither (is_to_convert props p) (list_any (is_to_convert props) ps) none in
    (stays code (is_to_convert props p) p here, each_stays code props ps behind)

lists_stay : (code : ℕ) (rs : List (List Prop)) → list_any are_narrow rs ≡ false → RecipientsBecome code rs rs
lists_stay code [] none = tt
lists_stay code (ps ∷ rs) none =
    let (here, behind) = neither (are_narrow ps) (list_any are_narrow rs) none in
    (each_stays code ps ps here, lists_stay code rs behind)

mutual
  pub message_stays : (code : ℕ) (t : Message) → is_narrow t ≡ false → MessageBecomes code t t
  message_stays code (message ps rs xs) none =
      let (own, others) = neither (are_narrow ps) (list_any are_narrow rs || any_narrow xs) none in
      let (people, below) = neither (list_any are_narrow rs) (any_narrow xs) others in
      (each_stays (page_in code ps) ps ps own, (lists_stay (page_in code ps) rs people, attachments_stay (page_in code ps) xs below))

  attachments_stay : (code : ℕ) (xs : Attachments) → any_narrow xs ≡ false → AttachmentsBecome code xs xs
  attachments_stay code no_more none = tt
  attachments_stay code (attached ps b others) none =
      let (first, behind) = neither (are_narrow ps || body_narrow b) (any_narrow others) none in
      let (own, held) = neither (are_narrow ps) (body_narrow b) first in
      (each_stays code ps ps own, (body_stays code b held, attachments_stay code others behind))

  body_stays : (code : ℕ) (b : Body) → body_narrow b ≡ false → BodyBecomes code b b
  body_stays code nothing none = tt
  body_stays code (embedded t) none = message_stays code t none
  body_stays code (stored s) none = refl

-- ---- what becomes itself isn't converted

kind_in : Value → ℕ
kind_in (number kind bits) = kind
kind_in (guid set) = 0
kind_in (bytes kind x) = kind
kind_in (numbers kind list) = kind
kind_in (guids list) = 0
kind_in (parts kind list) = kind

-- a wide value has another kind
other_kind : (page : Page) (props : List Prop) (p : Prop) (v : Value) → lacks props p.key (wide_kind v) ≡ true → BecomesWide page v v → ⊥
unfolding kind_in
other_kind page props p (number kind bits) lacking wide = wide
other_kind page props p (guid set) lacking wide = wide
other_kind page props p (bytes kind x) lacking wide = by (kind == 0x001E) refl lacking
  where
    by : (b : Bool) → (kind == 0x001E) ≡ b → lacks props p.key (if b then Some 0x001F else None) ≡ true → ⊥
    by true e l = let one : kind ≡ 0x001E = eqb-true kind 0x001E e in let two : kind ≡ 0x001F = ap kind_in wide.2 in absurd (omega (arith, one, two))
    by false e l = absurd cc
other_kind page props p (numbers kind list) lacking wide = wide
other_kind page props p (guids list) lacking wide = wide
other_kind page props p (parts kind list) lacking wide = by (kind == 0x101E) refl lacking
  where
    by : (b : Bool) → (kind == 0x101E) ≡ b → lacks props p.key (if b then Some 0x101F else None) ≡ true → ⊥
    by true e l = let one : kind ≡ 0x101E = eqb-true kind 0x101E e in let two : kind ≡ 0x101F = ap kind_in wide.2 in absurd (omega (arith, one, two))
    by false e l = absurd cc

stayed : (code : ℕ) (props : List Prop) (p : Prop) → BecomesBy (is_to_convert props p) code p p → is_to_convert props p ≡ false
stayed code props p becomes = by (is_to_convert props p) refl becomes
  where
    by : (b : Bool) → is_to_convert props p ≡ b → BecomesBy b code p p → is_to_convert props p ≡ false
    by true e w = absurd (other_kind w.1 props p p.value e w.3)
    by false e w = e

each_stayed : (code : ℕ) (props ps : List Prop) → EachBecomes code props ps ps → list_any (is_to_convert props) ps ≡ false
each_stayed code props [] h = refl
each_stayed code props (p ∷ ps) h = ap (λ (b : Bool). b || list_any (is_to_convert props) ps) (stayed code props p h.0) ∙ each_stayed code props ps h.1

lists_stayed : (code : ℕ) (rs : List (List Prop)) → RecipientsBecome code rs rs → list_any are_narrow rs ≡ false
lists_stayed code [] h = refl
lists_stayed code (ps ∷ rs) h = ap (λ (b : Bool). b || list_any are_narrow rs) (each_stayed code ps ps h.0) ∙ lists_stayed code rs h.1

mutual
  pub message_stayed : (code : ℕ) (t : Message) → MessageBecomes code t t → is_narrow t ≡ false
  message_stayed code (message ps rs xs) h =
      let own = each_stayed (page_in code ps) ps ps h.0 in
      let people = lists_stayed (page_in code ps) rs h.1.0 in
      ap (λ (b : Bool). b || (list_any are_narrow rs || any_narrow xs)) own ∙ (ap (λ (b : Bool). b || any_narrow xs) people ∙ attachments_stayed (page_in code ps) xs h.1.1)

  attachments_stayed : (code : ℕ) (xs : Attachments) → AttachmentsBecome code xs xs → any_narrow xs ≡ false
  attachments_stayed code no_more h = refl
  attachments_stayed code (attached ps b others) h =
      ap (λ (c : Bool). (c || body_narrow b) || any_narrow others) (each_stayed code ps ps h.0) ∙ (ap (λ (c : Bool). c || any_narrow others) (body_stayed code b h.1.0) ∙ attachments_stayed code others h.1.1)

  body_stayed : (code : ℕ) (b : Body) → BodyBecomes code b b → body_narrow b ≡ false
  body_stayed code nothing h = refl
  body_stayed code (embedded t) h = message_stayed code t h
  body_stayed code (stored s) h = refl

-- attachments one by one
pub any_of_list : (xs : List Attached) → any_narrow (attachments_from xs) ≡ list_any attached_narrow xs
any_of_list [] = refl
any_of_list (x ∷ xs) = ap (λ (b : Bool). attached_narrow x || b) (any_of_list xs)

pub is_not : (b : Bool) → IsTrue (not b) → b ≡ false
is_not true h = absurd cc
is_not false h = refl

pub is_so : (b : Bool) → not b ≡ false → b ≡ true
is_so true h = refl
is_so false h = absurd cc
