-- What holds of a tree by its property lists and its attachments holds of an edited one.
use Rattle.std.proofs.Common.{◌≡◌, ℕ, zero, suc, List, [], ◌∷◌, ◌++◌, take, drop, refl, ap, subst}
use Rattle.std.specs.Prelude.{Result, Ok, Err, Option, Some, None, slice_get, slice_set}
use Rattle.std.specs.List.{AllByRecursion, remove}
use Rattle.carrier_model.specs.Tree.{Message, message, Attachments, Body, nothing, embedded, stored, Attached, attachments_from, listed}
use Rattle.carrier_model.specs.Values.{Prop}
use Rattle.carrier_model.proofs.Trees.{listed-from}
use Rattle.edit_model.specs.Edits.{Spot, itself, recipient, attachment, Edit, set_prop, remove_prop, add_recipient, drop_recipient, drop_attachment, Why, there, changed_at, dropped_at, with_recipients, with_attachments, with_props, with_prop, without_prop, at_spot, body_with, with_body, at_path, edited_once, ◌>>=◌}

-- ---- lists

all_take : {A : Type 0} (P : A → Type 0) (n : ℕ) (xs : List A) → AllByRecursion P xs → AllByRecursion P (take n xs)
all_take P zero xs h = tt
all_take P (suc n) [] h = tt
all_take P (suc n) (x ∷ xs) h = (h.0, all_take P n xs h.1)

pub all_drop : {A : Type 0} (P : A → Type 0) (n : ℕ) (xs : List A) → AllByRecursion P xs → AllByRecursion P (drop n xs)
all_drop P zero xs h = h
all_drop P (suc n) [] h = tt
all_drop P (suc n) (x ∷ xs) h = all_drop P n xs h.1

all_append : {A : Type 0} (P : A → Type 0) (xs ys : List A) → AllByRecursion P xs → AllByRecursion P ys → AllByRecursion P (xs ++ ys)
all_append P [] ys h k = k
all_append P (x ∷ xs) ys h k = (h.0, all_append P xs ys h.1 k)

all_set : {A : Type 0} (P : A → Type 0) (xs : List A) (n : ℕ) (y : A) → AllByRecursion P xs → P y → AllByRecursion P (slice_set xs n y)
all_set P [] n y h k = tt
all_set P (x ∷ xs) zero y h k = (k, h.1)
all_set P (x ∷ xs) (suc n) y h k = (h.0, all_set P xs n y h.1 k)

all_get : {A : Type 0} (P : A → Type 0) (xs : List A) (n : ℕ) (x : A) → AllByRecursion P xs → slice_get xs n ≡ Some x → P x
all_get P [] n x h is = absurd cc
all_get P (y ∷ xs) zero x h is = let same : y ≡ x = cc in subst P same h.0
all_get P (y ∷ xs) (suc n) x h is = all_get P xs n x h.1 is

-- ---- steps

step_of : {A B : Type 0} (r : Result A Why) (f : A → Result B Why) (y : B) → (r >>= f) ≡ Ok y → (x : A) × (r ≡ Ok x) × (f x ≡ Ok y)
step_of (Ok x) f y h = (x, refl, h)
step_of (Err why) f y h = absurd cc

is_there : {A : Type 0} (o : Option A) (x : A) → there o ≡ Ok x → o ≡ Some x
is_there None x h = absurd cc
is_there (Some z) x h = let same : z ≡ x = cc in ap Some same

is_ok : {A : Type 0} (x y : A) (P : A → Type 0) → ◌≡◌ {A = Result A Why} (Ok x) (Ok y) → P x → P y
is_ok x y P h p = let same : x ≡ y = cc in subst P same p

changed_keeps : {A : Type 0} (P : A → Type 0) (change : A → Result A Why) (n : ℕ) (xs ys : List A) → ((x y : A) → P x → change x ≡ Ok y → P y) → AllByRecursion P xs → changed_at change n xs ≡ Ok ys → AllByRecursion P ys
changed_keeps P change n xs ys step all is =
    let (x, found, more) = step_of (there (slice_get xs n)) _ ys is in
    let (y, made, last) = step_of (change x) _ ys more in
    is_ok (slice_set xs n y) ys (AllByRecursion P) last (all_set P xs n y all (step x y (all_get P xs n x all (is_there (slice_get xs n) x found)) made))

dropped_keeps : {A : Type 0} (P : A → Type 0) (n : ℕ) (xs ys : List A) → AllByRecursion P xs → dropped_at n xs ≡ Ok ys → AllByRecursion P ys
dropped_keeps P n xs ys all is =
    let (x, found, last) = step_of (there (slice_get xs n)) _ ys is in
    is_ok (remove xs n) ys (AllByRecursion P) last (all_append P (take n xs) (drop (suc n) xs) (all_take P n xs all) (all_drop P (suc n) xs all))

-- ---- trees

-- What is said of a tree, of which lists may have P and attachments Q, xs seen from so many levels above it.
pub record Known (T : ℕ → Message → Type 0) (P : List Prop → Type 0) (Q : ℕ → Attached → Type 0) : Type 0 where
  pub props : (d : ℕ) (ps : List Prop) (rs : List (List Prop)) (os : Attachments) → T d (message ps rs os) → P ps
  pub recipients : (d : ℕ) (ps : List Prop) (rs : List (List Prop)) (os : Attachments) → T d (message ps rs os) → AllByRecursion P rs
  pub attachments : (d : ℕ) (ps : List Prop) (rs : List (List Prop)) (os : Attachments) → T d (message ps rs os) → AllByRecursion (Q d) (listed os)
  pub whole : (d : ℕ) (ps : List Prop) (rs : List (List Prop)) (os : Attachments) → P ps → AllByRecursion P rs → AllByRecursion (Q d) (listed os) → T d (message ps rs os)
  pub first : (d : ℕ) (ps : List Prop) (b : Body) → Q d (ps, b) → P ps
  pub changed : (d : ℕ) (ps qs : List Prop) (b : Body) → Q d (ps, b) → P qs → Q d (qs, b)
  pub inner : (d : ℕ) (ps : List Prop) (m : Message) → Q d (ps, embedded m) → (e : ℕ) × T e m × ((n : Message) → T e n → Q d (ps, embedded n))
  pub none : P []

-- what an edit does to a property list keeps P
abbrev pub KeepsLists : (List Prop → Type 0) → Edit → Type 0
KeepsLists P (set_prop place prop) = (ps qs : List Prop) → P ps → with_prop prop ps ≡ Ok qs → P qs
KeepsLists P (remove_prop place key kind) = (ps qs : List Prop) → P ps → without_prop key kind ps ≡ Ok qs → P qs
KeepsLists P (add_recipient path) = Unit {0}
KeepsLists P (drop_recipient path n) = Unit {0}
KeepsLists P (drop_attachment path n) = Unit {0}

module _ {T : ℕ → Message → Type 0} {P : List Prop → Type 0} {Q : ℕ → Attached → Type 0} (k : Known T P Q) where
  recipients_kept : (change : List (List Prop) → Result (List (List Prop)) Why) (d : ℕ) (t u : Message) → ((rs ss : List (List Prop)) → AllByRecursion P rs → change rs ≡ Ok ss → AllByRecursion P ss) → T d t → with_recipients change t ≡ Ok u → T d u
  recipients_kept change d (message ps rs os) u step h is =
      let (ss, made, last) = step_of (change rs) _ u is in
      is_ok (message ps ss os) u (T d) last (k.whole d ps ss os (k.props d ps rs os h) (step rs ss (k.recipients d ps rs os h) made) (k.attachments d ps rs os h))

  attachments_kept : (change : List Attached → Result (List Attached) Why) (d : ℕ) (t u : Message) → ((xs ys : List Attached) → AllByRecursion (Q d) xs → change xs ≡ Ok ys → AllByRecursion (Q d) ys) → T d t → with_attachments change t ≡ Ok u → T d u
  attachments_kept change d (message ps rs os) u step h is =
      let (ys, made, last) = step_of (change (listed os)) _ u is in
      is_ok (message ps rs (attachments_from ys)) u (T d) last (k.whole d ps rs (attachments_from ys) (k.props d ps rs os h) (k.recipients d ps rs os h) (rw (listed-from ys) (step (listed os) ys (k.attachments d ps rs os h) made)))

  props_kept : (change : List Prop → Result (List Prop) Why) (d : ℕ) (x y : Attached) → ((ps qs : List Prop) → P ps → change ps ≡ Ok qs → P qs) → Q d x → with_props change x ≡ Ok y → Q d y
  props_kept change d (ps, b) y step h is =
      let (qs, made, last) = step_of (change ps) _ y is in
      is_ok (qs, b) y (Q d) last (k.changed d ps qs b h (step ps qs (k.first d ps b h) made))

  spot_kept : (change : List Prop → Result (List Prop) Why) (spot : Spot) (d : ℕ) (t u : Message) → ((ps qs : List Prop) → P ps → change ps ≡ Ok qs → P qs) → T d t → at_spot change spot t ≡ Ok u → T d u
  spot_kept change itself d (message ps rs os) u step h is =
      let (qs, made, last) = step_of (change ps) _ u is in
      is_ok (message qs rs os) u (T d) last (k.whole d qs rs os (step ps qs (k.props d ps rs os h) made) (k.recipients d ps rs os h) (k.attachments d ps rs os h))
  spot_kept change (recipient n) d t u step h is = recipients_kept (changed_at change n) d t u (λ rs ss. changed_keeps P change n rs ss step) h is
  spot_kept change (attachment n) d t u step h is = attachments_kept (changed_at (with_props change) n) d t u (λ xs ys. changed_keeps (Q d) (with_props change) n xs ys (λ x y. props_kept change d x y step)) h is

  body_kept : (change : Message → Result Message Why) (d : ℕ) (x y : Attached) → ((e : ℕ) (t u : Message) → T e t → change t ≡ Ok u → T e u) → Q d x → with_body change x ≡ Ok y → Q d y
  body_kept change d (ps, nothing) y step h is = absurd cc
  body_kept change d (ps, stored s) y step h is = absurd cc
  body_kept change d (ps, embedded m) y step h is =
      let (b, made, last) = step_of (body_with change (embedded m)) _ y is in
      let (n, given, back) = step_of (change m) _ b made in
      let (e, below, again) = k.inner d ps m h in
      let one : Q d (ps, embedded n) = again n (step e m n below given) in
      is_ok (ps, b) y (Q d) last (is_ok (embedded n) b (λ c. Q d (ps, c)) back one)

  path_kept : (change : Message → Result Message Why) (path : List ℕ) (d : ℕ) (t u : Message) → ((e : ℕ) (t u : Message) → T e t → change t ≡ Ok u → T e u) → T d t → at_path change path t ≡ Ok u → T d u
  path_kept change [] d t u step h is = step d t u h is
  path_kept change (n ∷ path) d t u step h is =
      attachments_kept (changed_at (with_body (at_path change path)) n) d t u (λ xs ys. changed_keeps (Q d) (with_body (at_path change path)) n xs ys (λ x y. body_kept (at_path change path) d x y (λ e v w. path_kept change path e v w step))) h is

  pub edit_kept : (e : Edit) (d : ℕ) (t u : Message) → KeepsLists P e → T d t → edited_once e t ≡ Ok u → T d u
  edit_kept (set_prop place prop) d t u step h is = path_kept (at_spot (with_prop prop) place.spot) place.path d t u (λ c v w. spot_kept (with_prop prop) place.spot c v w step) h is
  edit_kept (remove_prop place key kind) d t u step h is = path_kept (at_spot (without_prop key kind) place.spot) place.path d t u (λ c v w. spot_kept (without_prop key kind) place.spot c v w step) h is
  edit_kept (add_recipient path) d t u step h is =
      path_kept (with_recipients (λ rs. Ok (rs ++ [] ∷ []))) path d t u (λ c v w. recipients_kept (λ rs. Ok (rs ++ [] ∷ [])) c v w (λ rs ss all made. is_ok (rs ++ [] ∷ []) ss (AllByRecursion P) made (all_append P rs ([] ∷ []) all (k.none, tt)))) h is
  edit_kept (drop_recipient path n) d t u step h is = path_kept (with_recipients (dropped_at n)) path d t u (λ c v w. recipients_kept (dropped_at n) c v w (λ rs ss. dropped_keeps P n rs ss)) h is
  edit_kept (drop_attachment path n) d t u step h is = path_kept (with_attachments (dropped_at n)) path d t u (λ c v w. attachments_kept (dropped_at n) c v w (λ xs ys. dropped_keeps (Q c) n xs ys)) h is
