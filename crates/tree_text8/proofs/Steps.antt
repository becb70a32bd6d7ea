-- A walk over a list whose elements have several properties each, and a whole message.
use Rattle.std.proofs.Common.{◌≡◌, ◌∙◌, refl, sym, ap, subst, ℕ, ◌+◌, List, [], ◌∷◌, ◌++◌, take, drop, map, length, add_assoc}
use Rattle.std.specs.Prelude.{Some, slice_get, sum_by}
use Rattle.std.proofs.lemmas.List.Sums.{sum_by-cons}
use Rattle.carrier_model.specs.Tree.{Message, message, attached, Attached, attachments_from}
use Rattle.carrier_model.specs.Values.{Prop}
use Rattle.carrier_model.proofs.Messages.{sum_taken}
use Rattle.carrier_model.proofs.Trees.{drop_at}
use Rattle.text8_model.specs.Unmapped.{Unmapped}
use Rattle.text8_model.specs.Unicode.{page_in, converted_props, converted_in, converted_below, converted_body, bad_props, bad_recipients, bad_in, bad_below, props_in, props_below}
use Rattle.tree_text8.specs.Ends.{IsEndOf}
use Rattle.tree_text8.specs.Walks.{AreOne, converted_attached, props_at, bad_attached}
use Rattle.tree_text8.specs.declared.ends.TextEnd.{TextEnd}
use Rattle.tree_text8.proofs.Numbers.{one_more, one_after, props_one, recipients_one, attachments_one, message_one, body_one}
use Rattle.tree_text8.proofs.Walked.{end_first, end_later, end_as}

module _ {A : Type 0} (bad : ℕ → A → List Unmapped) (size : A → ℕ) (all : ℕ → List A → List Unmapped)
    (cons : (n : ℕ) (x : A) (xs : List A) → all n (x ∷ xs) ≡ bad n x ++ all (n + size x) xs)
    (same : (m n : ℕ) (x : A) → AreOne m n → bad m x ≡ bad n x)
    (xs : List A) (first k old : ℕ) (x : A) (at : slice_get xs k ≡ Some x) (one : AreOne old (first + sum_by size (take k xs))) where
  longer : first + sum_by size (take k xs) + size x ≡ first + sum_by size (take (k + 1) xs)
  longer = add_assoc first (sum_by size (take k xs)) (size x) ∙ ap (λ n. first + n) (sym (sum_taken size xs k x at))

  turn : all (first + sum_by size (take k xs)) (drop k xs) ≡ bad old x ++ all (first + sum_by size (take (k + 1) xs)) (drop (k + 1) xs)
  turn = ap (all (first + sum_by size (take k xs))) (drop_at xs k x at) ∙ (cons (first + sum_by size (take k xs)) x (drop (k + 1) xs) ∙ (λ i. sym (same old (first + sum_by size (take k xs)) x one) i ++ all (longer i) (drop (k + 1) xs)))

  pub walk_good : bad old x ≡ [] → all first xs ≡ all (first + sum_by size (take k xs)) (drop k xs) → all first xs ≡ all (first + sum_by size (take (k + 1) xs)) (drop (k + 1) xs)
  walk_good good so_far = so_far ∙ (turn ∙ ap (λ l. l ++ all (first + sum_by size (take (k + 1) xs)) (drop (k + 1) xs)) good)

  pub walk_end : (e : TextEnd) → IsEndOf (bad old x) e → all first xs ≡ all (first + sum_by size (take k xs)) (drop k xs) → IsEndOf (all first xs) e
  walk_end e h so_far = end_as _ _ e (sym (so_far ∙ turn)) (end_first (bad old x) (all (first + sum_by size (take (k + 1) xs)) (drop (k + 1) xs)) e h)

  pub walk_next : (new : ℕ) → AreOne new (old + size x) → AreOne new (first + sum_by size (take (k + 1) xs))
  walk_next new is = subst (AreOne new) longer (one_after new (old + size x) (first + sum_by size (take k xs) + size x) is (one_more old (first + sum_by size (take k xs)) (size x) one))

-- ---- the two lists of a message

pub recipients_cons : (code n : ℕ) (x : List Prop) (xs : List (List Prop)) → bad_recipients code n (x ∷ xs) ≡ bad_props code n x ++ bad_recipients code (n + length x) xs
recipients_cons code n x xs = refl

pub props_same : (code m n : ℕ) (x : List Prop) → AreOne m n → bad_props code m x ≡ bad_props code n x
props_same code m n x e = props_one code m n x e

pub attached_cons : (code n : ℕ) (x : Attached) (xs : List Attached) → bad_below code n (attachments_from (x ∷ xs)) ≡ bad_attached code n x ++ bad_below code (n + props_at x) (attachments_from xs)
attached_cons code n x xs = refl

pub attached_same : (code m n : ℕ) (x : Attached) → AreOne m n → bad_attached code m x ≡ bad_attached code n x
attached_same code m n x e = λ i. props_one code m n x.0 e i ++ body_one code (m + length x.0) (n + length x.0) x.1 (one_more m n (length x.0) e) i

pub below_map : (code : ℕ) (xs : List Attached) → converted_below code (attachments_from xs) ≡ attachments_from (map (converted_attached code) xs)
below_map code [] = refl
below_map code (x ∷ xs) = ap (attached (converted_props code x.0) (converted_body code x.1)) (below_map code xs)

pub below_sum : (xs : List Attached) → props_below (attachments_from xs) ≡ sum_by props_at xs
below_sum [] = refl
below_sum (x ∷ xs) = ap (λ n. props_at x + n) (below_sum xs) ∙ sym (sum_by-cons props_at x xs)

-- ---- a message in one, behind the properties of its attachment

pub held_good : (code n m : ℕ) (ps : List Prop) (t u : Message) → AreOne m (n + length ps) → u ≡ t → bad_props code n ps ≡ [] → bad_in code m u ≡ [] → bad_props code n ps ++ bad_in code (n + length ps) t ≡ []
held_good code n m ps t u one same a b = (λ i. a i ++ sym (message_one code m (n + length ps) t one) i) ∙ (ap (bad_in code m) (sym same) ∙ b)

pub held_end : (code n m : ℕ) (ps : List Prop) (t u : Message) → AreOne m (n + length ps) → u ≡ t → bad_props code n ps ≡ [] → (e : TextEnd) → IsEndOf (bad_in code m u) e → IsEndOf (bad_props code n ps ++ bad_in code (n + length ps) t) e
held_end code n m ps t u one same a e h = end_later (bad_props code n ps) (bad_in code (n + length ps) t) e a (end_as (bad_in code m u) (bad_in code (n + length ps) t) e (ap (bad_in code m) same ∙ message_one code m (n + length ps) t one) h)

-- ---- a message

-- what is unmapped in one whose page is known
abbrev pub bad_message : ℕ → ℕ → List Prop → List (List Prop) → List Attached → List Unmapped
bad_message code n ps rs xs = bad_props code n ps ++ (bad_recipients code (n + length ps) rs ++ bad_below code (n + (length ps + sum_by length rs)) (attachments_from xs))

third : (n m o : ℕ) (ps : List Prop) (rs : List (List Prop)) → AreOne m (n + length ps) → AreOne o (m + sum_by length rs) → AreOne o (n + (length ps + sum_by length rs))
third n m o ps rs one two = subst (AreOne o) (add_assoc n (length ps) (sum_by length rs)) (one_after o (m + sum_by length rs) (n + length ps + sum_by length rs) two (one_more m (n + length ps) (sum_by length rs) one))

split : (code n m o : ℕ) (ps : List Prop) (rs : List (List Prop)) (xs : List Attached) → AreOne m (n + length ps) → AreOne o (m + sum_by length rs) → bad_message code n ps rs xs ≡ bad_props code n ps ++ (bad_recipients code m rs ++ bad_below code o (attachments_from xs))
split code n m o ps rs xs one two = λ i. bad_props code n ps ++ (sym (recipients_one code m (n + length ps) rs one) i ++ sym (attachments_one code o (n + (length ps + sum_by length rs)) (attachments_from xs) (third n m o ps rs one two)) i)

pub whole_good : (outer code n m o : ℕ) (ps : List Prop) (rs : List (List Prop)) (xs : List Attached) → code ≡ page_in outer ps → AreOne m (n + length ps) → AreOne o (m + sum_by length rs) → bad_props code n ps ≡ [] → bad_recipients code m rs ≡ [] → bad_below code o (attachments_from xs) ≡ [] → bad_in outer n (message ps rs (attachments_from xs)) ≡ []
whole_good outer code n m o ps rs xs is one two a b c = subst (λ k. bad_message k n ps rs xs ≡ []) is (split code n m o ps rs xs one two ∙ (λ i. a i ++ (b i ++ c i)))

pub whole_recipients : (outer code n m : ℕ) (ps : List Prop) (rs : List (List Prop)) (xs : List Attached) → code ≡ page_in outer ps → AreOne m (n + length ps) → bad_props code n ps ≡ [] → (e : TextEnd) → IsEndOf (bad_recipients code m rs) e → IsEndOf (bad_in outer n (message ps rs (attachments_from xs))) e
whole_recipients outer code n m ps rs xs is one a e h = subst (λ k. IsEndOf (bad_message k n ps rs xs) e) is
    (end_later (bad_props code n ps) (bad_recipients code (n + length ps) rs ++ bad_below code (n + (length ps + sum_by length rs)) (attachments_from xs)) e a
    (end_first (bad_recipients code (n + length ps) rs) (bad_below code (n + (length ps + sum_by length rs)) (attachments_from xs)) e (end_as (bad_recipients code m rs) (bad_recipients code (n + length ps) rs) e (recipients_one code m (n + length ps) rs one) h)))

pub whole_attachments : (outer code n m o : ℕ) (ps : List Prop) (rs : List (List Prop)) (xs : List Attached) → code ≡ page_in outer ps → AreOne m (n + length ps) → AreOne o (m + sum_by length rs) → bad_props code n ps ≡ [] → bad_recipients code m rs ≡ [] → (e : TextEnd) → IsEndOf (bad_below code o (attachments_from xs)) e → IsEndOf (bad_in outer n (message ps rs (attachments_from xs))) e
whole_attachments outer code n m o ps rs xs is one two a b e h = subst (λ k. IsEndOf (bad_message k n ps rs xs) e) is (end_as _ _ e (sym (split code n m o ps rs xs one two)) (end_later (bad_props code n ps) (bad_recipients code m rs ++ bad_below code o (attachments_from xs)) e a (end_later (bad_recipients code m rs) (bad_below code o (attachments_from xs)) e b h)))

pub whole_next : (n m o q : ℕ) (ps : List Prop) (rs : List (List Prop)) (xs : List Attached) → AreOne m (n + length ps) → AreOne o (m + sum_by length rs) → AreOne q (o + sum_by props_at xs) → AreOne q (n + props_in (message ps rs (attachments_from xs)))
whole_next n m o q ps rs xs one two is = subst (λ k. AreOne q (n + (length ps + sum_by length rs + k))) (sym (below_sum xs)) (subst (AreOne q) (add_assoc n (length ps + sum_by length rs) (sum_by props_at xs)) (one_after q (o + sum_by props_at xs) (n + (length ps + sum_by length rs) + sum_by props_at xs) is (one_more o (n + (length ps + sum_by length rs)) (sum_by props_at xs) (third n m o ps rs one two))))

pub whole_made : (outer code : ℕ) (ps qs : List Prop) (rs ss : List (List Prop)) (xs ys : List Attached) → code ≡ page_in outer ps → qs ≡ converted_props code ps → ss ≡ map (converted_props code) rs → ys ≡ map (converted_attached code) xs → message qs ss (attachments_from ys) ≡ converted_in outer (message ps rs (attachments_from xs))
whole_made outer code ps qs rs ss xs ys is a b c =
    (λ i. message (a i) (b i) (attachments_from (c i)))
    ∙ (ap (message (converted_props code ps) (map (converted_props code) rs)) (sym (below_map code xs))
    ∙ ap (λ k. message (converted_props k ps) (map (converted_props k) rs) (converted_below k (attachments_from xs))) is)
