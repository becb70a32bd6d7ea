-- What trees become, by the relation and by the functions.
use Rattle.std.proofs.Common.{◌≡◌, refl, ap, ℕ, ◌+◌, List, [], ◌∷◌, ◌++◌, map, length}
use Rattle.std.specs.Prelude.{Option, Some, None, IsSome, sum_by}
use Rattle.carrier_model.specs.Lists.{first_of_list}
use Rattle.carrier_model.specs.Tree.{Message, message, Attachments, no_more, attached, Body, nothing, embedded, stored}
use Rattle.carrier_model.specs.Values.{Prop}
use Rattle.text8_model.specs.Unmapped.{Unmapped}
use Rattle.text8_model.specs.Unicode.{page_in, is_to_convert, converted_prop, converted_props, converted_in, converted_below, converted_body, converted, bad_prop, bad_from, bad_props, bad_recipients, bad_in, bad_below, bad_body, unmapped_in, first_unmapped, props_in_body, FIRST_PAGE}
use Rattle.text8_model.specs.Become.{EachBecomes, RecipientsBecome, MessageBecomes, AttachmentsBecome, BodyBecomes, UnicodeOf}
use Rattle.text8_model.proofs.ValueLaws.{left_empty, right_empty, prop_means, prop_good, prop_found}

-- ---- property lists

pub each_means : (code : ℕ) (props ps qs : List Prop) → EachBecomes code props ps qs → qs ≡ map (converted_prop code props) ps
each_means code props [] [] b = refl
each_means code props [] (q ∷ qs) b = absurd b
each_means code props (p ∷ ps) [] b = absurd b
each_means code props (p ∷ ps) (q ∷ qs) b =
    let one = prop_means (is_to_convert props p) code p q b.0 in
    let rest = each_means code props ps qs b.1 in
    λ i. one i ∷ rest i

each_good : (code : ℕ) (props : List Prop) (n : ℕ) (ps qs : List Prop) → EachBecomes code props ps qs → bad_from code props n ps ≡ []
each_good code props n [] qs b = refl
each_good code props n (p ∷ ps) [] b = absurd b
each_good code props n (p ∷ ps) (q ∷ qs) b =
    let one : bad_prop code props n p ≡ [] = prop_good (is_to_convert props p) code n p q b.0 in
    let rest = each_good code props (n + 1) ps qs b.1 in
    λ i. one i ++ rest i

each_found : (code : ℕ) (props : List Prop) (n : ℕ) (ps : List Prop) → bad_from code props n ps ≡ [] → EachBecomes code props ps (map (converted_prop code props) ps)
each_found code props n [] e = tt
each_found code props n (p ∷ ps) e =
    let here = left_empty (bad_prop code props n p) (bad_from code props (n + 1) ps) e in
    let rest = right_empty (bad_prop code props n p) (bad_from code props (n + 1) ps) e in
    (prop_found (is_to_convert props p) code n props p refl here, each_found code props (n + 1) ps rest)

recipients_mean : (code : ℕ) (ps qs : List (List Prop)) → RecipientsBecome code ps qs → qs ≡ map (converted_props code) ps
recipients_mean code [] [] b = refl
recipients_mean code [] (q ∷ qs) b = absurd b
recipients_mean code (p ∷ ps) [] b = absurd b
recipients_mean code (p ∷ ps) (q ∷ qs) b =
    let one = each_means code p p q b.0 in
    let rest = recipients_mean code ps qs b.1 in
    λ i. one i ∷ rest i

recipients_good : (code n : ℕ) (ps qs : List (List Prop)) → RecipientsBecome code ps qs → bad_recipients code n ps ≡ []
recipients_good code n [] qs b = refl
recipients_good code n (p ∷ ps) [] b = absurd b
recipients_good code n (p ∷ ps) (q ∷ qs) b =
    let one = each_good code p n p q b.0 in
    let rest = recipients_good code (n + length p) ps qs b.1 in
    λ i. one i ++ rest i

recipients_found : (code n : ℕ) (ps : List (List Prop)) → bad_recipients code n ps ≡ [] → RecipientsBecome code ps (map (converted_props code) ps)
recipients_found code n [] e = tt
recipients_found code n (p ∷ ps) e =
    let here = left_empty (bad_props code n p) (bad_recipients code (n + length p) ps) e in
    let rest = right_empty (bad_props code n p) (bad_recipients code (n + length p) ps) e in
    (each_found code p n p here, recipients_found code (n + length p) ps rest)

-- ---- messages

mutual
  message_means : (code : ℕ) (t u : Message) → MessageBecomes code t u → u ≡ converted_in code t
  message_means code (message ps rs xs) (message qs ss ys) b =
      let own = each_means (page_in code ps) ps ps qs b.0 in
      let theirs = recipients_mean (page_in code ps) rs ss b.1.0 in
      let below = attachments_mean (page_in code ps) xs ys b.1.1 in
      λ i. message (own i) (theirs i) (below i)

  attachments_mean : (code : ℕ) (xs ys : Attachments) → AttachmentsBecome code xs ys → ys ≡ converted_below code xs
  attachments_mean code no_more no_more b = refl
  attachments_mean code no_more (attached qs y others) b = absurd b
  attachments_mean code (attached ps x more) no_more b = absurd b
  attachments_mean code (attached ps x more) (attached qs y others) b =
      let own = each_means code ps ps qs b.0 in
      let held = body_means code x y b.1.0 in
      let rest = attachments_mean code more others b.1.1 in
      λ i. attached (own i) (held i) (rest i)

  body_means : (code : ℕ) (x y : Body) → BodyBecomes code x y → y ≡ converted_body code x
  body_means code nothing nothing b = refl
  body_means code nothing (embedded u) b = absurd b
  body_means code nothing (stored s) b = absurd b
  body_means code (embedded t) nothing b = absurd b
  body_means code (embedded t) (embedded u) b = ap embedded (message_means code t u b)
  body_means code (embedded t) (stored s) b = absurd b
  body_means code (stored r) nothing b = absurd b
  body_means code (stored r) (embedded u) b = absurd b
  body_means code (stored r) (stored s) b = ap stored b

mutual
  message_good : (code n : ℕ) (t u : Message) → MessageBecomes code t u → bad_in code n t ≡ []
  message_good code n (message ps rs xs) (message qs ss ys) b =
      let own = each_good (page_in code ps) ps n ps qs b.0 in
      let theirs = recipients_good (page_in code ps) (n + length ps) rs ss b.1.0 in
      let below = attachments_good (page_in code ps) (n + (length ps + sum_by length rs)) xs ys b.1.1 in
      λ i. own i ++ (theirs i ++ below i)

  attachments_good : (code n : ℕ) (xs ys : Attachments) → AttachmentsBecome code xs ys → bad_below code n xs ≡ []
  attachments_good code n no_more ys b = refl
  attachments_good code n (attached ps x more) no_more b = absurd b
  attachments_good code n (attached ps x more) (attached qs y others) b =
      let own = each_good code ps n ps qs b.0 in
      let held = body_good code (n + length ps) x y b.1.0 in
      let rest = attachments_good code (n + (length ps + props_in_body x)) more others b.1.1 in
      λ i. (own i ++ held i) ++ rest i

  body_good : (code n : ℕ) (x y : Body) → BodyBecomes code x y → bad_body code n x ≡ []
  body_good code n nothing y b = refl
  body_good code n (embedded t) nothing b = absurd b
  body_good code n (embedded t) (embedded u) b = message_good code n t u b
  body_good code n (embedded t) (stored s) b = absurd b
  body_good code n (stored r) y b = refl

mutual
  message_found : (code n : ℕ) (t : Message) → bad_in code n t ≡ [] → MessageBecomes code t (converted_in code t)
  message_found code n (message ps rs xs) e =
      let own = bad_props (page_in code ps) n ps in
      let theirs = bad_recipients (page_in code ps) (n + length ps) rs in
      let below = bad_below (page_in code ps) (n + (length ps + sum_by length rs)) xs in
      let rest = right_empty own (theirs ++ below) e in
      (each_found (page_in code ps) ps n ps (left_empty own (theirs ++ below) e), (recipients_found (page_in code ps) (n + length ps) rs (left_empty theirs below rest), attachments_found (page_in code ps) (n + (length ps + sum_by length rs)) xs (right_empty theirs below rest)))

  attachments_found : (code n : ℕ) (xs : Attachments) → bad_below code n xs ≡ [] → AttachmentsBecome code xs (converted_below code xs)
  attachments_found code n no_more e = tt
  attachments_found code n (attached ps x more) e =
      let own = bad_props code n ps in
      let held = bad_body code (n + length ps) x in
      let below = bad_below code (n + (length ps + props_in_body x)) more in
      let here = left_empty (own ++ held) below e in
      (each_found code ps n ps (left_empty own held here), (body_found code (n + length ps) x (right_empty own held here), attachments_found code (n + (length ps + props_in_body x)) more (right_empty (own ++ held) below e)))

  body_found : (code n : ℕ) (x : Body) → bad_body code n x ≡ [] → BodyBecomes code x (converted_body code x)
  body_found code n nothing e = tt
  body_found code n (embedded t) e = message_found code n t e
  body_found code n (stored s) e = refl

-- ---- the whole tree

first_none : (xs : List Unmapped) → first_of_list xs ≡ None → xs ≡ []
first_none [] e = refl
first_none (x ∷ xs) e = absurd (let wrong : ⊥ = cc in wrong)

pub unicode_means : (t u : Message) → UnicodeOf t u → (first_unmapped t ≡ None) × (u ≡ converted t)
unicode_means t u b = (ap first_of_list (message_good FIRST_PAGE 0 t u b), message_means FIRST_PAGE t u b)

pub unicode_found : (t : Message) → first_unmapped t ≡ None → UnicodeOf t (converted t)
unicode_found t e = message_found FIRST_PAGE 0 t (first_none (unmapped_in t) e)

some_not_none : (o : Option Unmapped) → IsSome o → o ≡ None → ⊥
some_not_none None s e = absurd (let wrong : ⊥ = cc in wrong)
some_not_none (Some x) s e = cc

some_or : (o : Option Unmapped) → (o ≡ None → ⊥) → IsSome o
some_or None h = absurd (h refl)
some_or (Some x) h = refl

pub never_both : (t : Message) → IsSome (first_unmapped t) → (u : Message) → UnicodeOf t u → ⊥
never_both t s u b = some_not_none (first_unmapped t) s (unicode_means t u b).0

pub one_of_both : (t : Message) → ((u : Message) → UnicodeOf t u → ⊥) → IsSome (first_unmapped t)
one_of_both t h = some_or (first_unmapped t) (λ e. h (converted t) (unicode_found t e))
