-- Values, put together by their shapes.
use Rattle.std.proofs.Common.{◌≡◌, ◌⊎◌, ℕ, zero, suc, ◌+◌, ◌-◌, ◌<◌, ◌≤◌, Bool, true, false, List, [], ◌∷◌, ◌++◌, length, map, refl, sym, ap, subst, ◌∙◌, arith}
use Rattle.std.specs.Prelude.{nat_eq, All}
use Rattle.carrier_io.specs.declared.reasons.Stop.{Stop}
use Rattle.carrier_io.proofs.Sides.{on_fault}
use Rattle.std.proofs.lemmas.List.{length-append}
use Rattle.carrier_model.specs.Grammar.{Form, and_then, choice, gives, repeat}
use Rattle.carrier_model.specs.Values as plain
use Rattle.carrier_model.specs.Values.{width_in, number_widths, numbers_widths, is_bytes_kind, IsBytes}
use Rattle.std.specs.Prelude.{nat_le, take, drop, cond, ◌&&◌, ◌%◌}
use Rattle.std.proofs.lemmas.List.{append-nil, length-take}
use Rattle.std.proofs.lemmas.List.Elements.{All-push}
use Rattle.std.proofs.lemmas.Bool.{eqb-true, eq-eqb, and_parts, leb-true}
use Rattle.std.proofs.Common.{inl, inr}
use Rattle.tnef_model.specs.TnefLists.{size, sized, is_size, numbers_of, word, one, padded, text, many, value}
use Rattle.carrier_model.specs.Kinds.{without_null, null_of, bits_of, is_number_kind, is_numbers_kind}
use Rattle.carrier_model.specs.Bytes.{le_number}
use Rattle.carrier_model.proofs.Reading.{Continues, continues_then, continues_on, continues_repeat, fails_repeat, spans_repeat}
use Rattle.tnef_props.specs.declared.rest.Rest.{Rest}
use Rattle.tnef_props.specs.Steps.{Takes, Refuses}
use Rattle.tnef_props.proofs.Forms.{then_first, seen_takes}

-- so many bytes are taken
pub padded_len : (n : ℕ) (a b : Rest) (x : List ℕ) → Takes (padded n) a x b → (length x ≡ n) × (length b.bytes.now + n ≤ length a.bytes.now)
padded_len n a b x p =
    let s = p.begins.spelled in
    let t = s.second in
    let text : List ℕ = p.begins.text in
    let same : x ≡ s.x = t.second.0 in
    let len : length s.front ≡ n = s.first.1 in
    let x_len : length x ≡ n = ap length (same ∙ s.first.0) ∙ len in
    (x_len, omega (arith, ap length p.begins.parts, length-append p.begins.text b.bytes.now, ap length s.parts, length-append s.front s.back, len))

-- ---- so many of a form

-- the count and some of the items were read
pub record Turns {X Y : Type 0} (f : Form X) (view : X → Y) (from : Rest) (count k : ℕ) (list : List Y) (rest : Rest) : Type 0 where
  pub items : List X
  pub left : ℕ
  pub sum : left + k ≡ count
  pub listed : list ≡ map view items
  pub goes : Continues (many f) from.place from.bytes.now (repeat left (λ before. f) items) rest.place rest.bytes.now
  pub few : k + length rest.bytes.now < length from.bytes.now
  pub len : length list ≡ k

map-push : {X Y : Type 0} (view : X → Y) (l : List X) (x : X) → map view (l ++ x ∷ []) ≡ map view l ++ view x ∷ []
map-push view [] x = refl
map-push view (y ∷ l) x = ap (λ (z : List _). view y ∷ z) (map-push view l x)

word_less : (a b : Rest) (n : ℕ) → Takes word a n b → length b.bytes.now < length a.bytes.now
word_less a b n p =
    let s = p.begins.spelled in
    let len : length s.front ≡ 4 = s.first.1 in
    omega (arith, ap length p.begins.parts, length-append p.begins.text b.bytes.now, ap length s.parts, length-append s.front s.back)

pub turns_begin : {X Y : Type 0} (f : Form X) (view : X → Y) (from rest : Rest) (count : ℕ) → Takes word from count rest → Turns f view from count 0 [] rest
unfolding many
turns_begin f view from rest count p = record {
  items = [];
  left = count;
  sum = omega arith;
  listed = refl;
  goes = continues_then word (λ n. repeat n (λ before. f) []) from.place from.bytes.now count rest.place rest.bytes.now p;
  few = omega (arith, word_less from rest count p);
  len = refl;
}

pub turns_more : {X Y : Type 0} (f : Form X) (view : X → Y) (from rest after : Rest) (count k : ℕ) (list new : List Y) (x : X) → Turns f view from count k list rest → k < count → Takes f rest x after → length after.bytes.now < length rest.bytes.now → new ≡ list ++ view x ∷ []
    → Turns f view from count (k + 1) new after
turns_more {X} {Y} f view from rest after count k list new x t lt p less e = by t.left t.sum t.goes
  where
    by : (left : ℕ) → left + k ≡ count → Continues (many f) from.place from.bytes.now (repeat left (λ before. f) t.items) rest.place rest.bytes.now → Turns f view from count (k + 1) new after
    by zero sum goes = absurd (omega arith)
    by (suc left) sum goes = record {
      items = t.items ++ x ∷ [];
      left = left;
      sum = omega arith;
      listed = e ∙ ap (λ (z : List Y). z ++ view x ∷ []) t.listed ∙ sym (map-push view t.items x);
      goes = continues_on (many f) from.place from.bytes.now (repeat (suc left) (λ before. f) t.items) rest.place rest.bytes.now (repeat left (λ before. f) (t.items ++ x ∷ [])) after.place after.bytes.now goes
          (continues_repeat left (λ before. f) t.items rest.place rest.bytes.now x after.place after.bytes.now p);
      few = omega (arith, t.few);
      len = ap length e ∙ omega (arith, length-append list (view x ∷ []), t.len);
    }

pub turns_fault : {X Y : Type 0} (f : Form X) (view : X → Y) (from rest : Rest) (count k : ℕ) (list : List Y) (s : Stop) → Turns f view from count k list rest → k < count → Refuses f rest s → Refuses (many f) from s
turns_fault {X} {Y} f view from rest count k list s t lt p = by t.left t.sum t.goes
  where
    by : (left : ℕ) → left + k ≡ count → Continues (many f) from.place from.bytes.now (repeat left (λ before. f) t.items) rest.place rest.bytes.now → Refuses (many f) from s
    by zero sum goes = absurd (omega arith)
    by (suc left) sum goes = on_fault (f.fails rest.place rest.bytes.now) ((many f).fails from.place from.bytes.now) (λ g e. goes.bad g (fails_repeat left (λ before. f) t.items rest.place rest.bytes.now g e)) s p

pub turns_done : {X Y : Type 0} (f : Form X) (view : X → Y) (from rest : Rest) (count k : ℕ) (list : List Y) (t : Turns f view from count k list rest) → k ≡ count → Takes (many f) from t.items rest
turns_done {X} {Y} f view from rest count k list t e = by t.left t.sum t.goes
  where
    by : (left : ℕ) → left + k ≡ count → Continues (many f) from.place from.bytes.now (repeat left (λ before. f) t.items) rest.place rest.bytes.now → Takes (many f) from t.items rest
    by zero sum goes = goes.ok t.items rest.place rest.bytes.now (spans_repeat (λ before. f) t.items rest.place rest.bytes.now)
    by (suc left) sum goes = absurd (omega arith)

-- ---- texts

word_len : (at n : ℕ) (x : List ℕ) → word.spells at n x → length x ≡ 4
word_len at n x s = ap length s.parts ∙ omega (arith, length-append s.front s.back, s.first.1, ap length s.second.1)

padded_spelled : (at n : ℕ) (x text : List ℕ) → (padded n).spells at x text → (length x ≡ n) × (n ≤ length text)
padded_spelled at n x text s =
    let same : x ≡ s.x = s.second.second.0 in
    let len : length s.front ≡ n = s.first.1 in
    (ap length (same ∙ s.first.0) ∙ len, omega (arith, ap length s.parts, length-append s.front s.back, len))

even_size : (n least : ℕ) → is_size true least n ≡ true → n % 2 ≡ 0
even_size n least e = eqb-true _ _ (and_parts _ _ e).0

-- what a size and its bytes take
pub sized_len : (even : Bool) (least : ℕ) (a b : Rest) (p : ℕ × List ℕ) → Takes (sized even least) a p b → (length b.bytes.now + 4 + length p.1 ≤ length a.bytes.now) × (even ≡ true → length p.1 % 2 ≡ 0)
unfolding sized size
sized_len even least a b p t =
    let s = t.begins.spelled in
    let head : length s.front ≡ 4 = word_len a.place s.x s.front s.first.0 in
    let tail = padded_spelled (a.place + length s.front) s.x p.1 s.back s.second.1 in
    let len : length p.1 ≡ s.x = tail.0 in (
      omega (arith, ap length t.begins.parts, length-append t.begins.text b.bytes.now, ap length s.parts, length-append s.front s.back, head, tail.0, tail.1),
      λ e. rw len (even_size s.x least (subst (λ (z : Bool). is_size z least s.x ≡ true) e s.first.1)),
    )

without_len : (n : ℕ) (x : List ℕ) → (length (without_null n x) ≡ length x) ⊎ ((n ≤ length x) × (length (without_null n x) ≡ length x - n))
without_len n x = by (nat_le n (length x)) (nat_eq (le_number (drop (length x - n) x)) 0) refl
  where
    by : (p q : Bool) → nat_le n (length x) ≡ p → (length (cond (p && q) (take (length x - n) x) x) ≡ length x) ⊎ ((n ≤ length x) × (length (cond (p && q) (take (length x - n) x) x) ≡ length x - n))
    by true true e = inr (leb-true n (length x) e, omega (arith, length-take (length x - n) x))
    by true false e = inl refl
    by false q e = inl refl

string_null : (n : ℕ) (x : List ℕ) → n ≡ 2 → length x % 2 ≡ 0 → length (without_null n x) % 2 ≡ 0
string_null n x two e = elim (without_len n x) [ inl s ↦ rw s e | inr s ↦ omega (arith, s.0, s.1) ]

null_shorter : (n : ℕ) (x : List ℕ) → length (without_null n x) ≤ length x
null_shorter n x = elim (without_len n x) [ inl s ↦ omega (arith, s) | inr s ↦ omega (arith, s.1) ]

pub text_valid : (kind : ℕ) (a b : Rest) (x : List ℕ) → is_bytes_kind kind ≡ true → a.place + length a.bytes.now ≤ 0x1000_0000 → Takes (text kind) a x b → IsBytes kind x × (length b.bytes.now < length a.bytes.now)
unfolding text
text_valid kind a b x k room t =
    let s = t.begins.spelled in
    let rest_is : a.bytes.now ≡ s.front ++ b.bytes.now = t.begins.parts ∙ ap (λ (z : List ℕ). z ++ b.bytes.now) (s.parts ∙ ap (λ (z : List ℕ). s.front ++ z) s.second.1 ∙ append-nil s.front) in
    let inner : Takes (sized (nat_eq kind 0x001F) 0) a s.x b = record { begins = record { text = s.front; parts = rest_is; spelled = s.first }; place = t.place } in
    let l = sized_len (nat_eq kind 0x001F) 0 a b s.x inner in
    let same : x ≡ without_null (null_of kind) s.x.1 = s.second.0 in
    let less : length x ≤ length s.x.1 = rw same (null_shorter (null_of kind) s.x.1) in (
      record {
        kind_is = k;
        short = by (nat_eq kind 0x001E) (omega (arith, less, l.0));
        even = λ e. rw same (string_null (null_of kind) s.x.1 (rw e refl) (l.1 (eq-eqb _ _ e)));
      },
      omega (arith, l.0),
    )
  where
    by : (c : Bool) → length x < 0x1000_0000 → length x < cond c 0x1000_0000 0x4000_0000
    by true h = h
    by false h = omega (arith, h)

-- ---- the loops' lists

map-same : {X : Type 0} (l : List X) → map (λ (x : X). x) l ≡ l
map-same [] = refl
map-same (x ∷ l) = ap (λ (z : List _). x ∷ z) (map-same l)

-- where the items are listed as they are
pub turns_items : {X : Type 0} (f : Form X) (from rest : Rest) (count k : ℕ) (list : List X) → Turns f (λ (x : X). x) from count k list rest → k ≡ count → Takes (many f) from list rest
turns_items {X} f from rest count k list t e = subst (λ (l : List X). Takes (many f) from l rest) (sym (t.listed ∙ map-same t.items)) (turns_done f (λ (x : X). x) from rest count k list t e)

pub turns_numbers : (width : ℕ) (from rest : Rest) (count k : ℕ) (list : List ℕ) → Turns (padded width) le_number from count k list rest → k ≡ count → Takes (numbers_of width) from list rest
unfolding numbers_of
turns_numbers width from rest count k list t e =
    subst (λ (l : List ℕ). Takes (numbers_of width) from l rest) (sym t.listed) (seen_takes (many (padded width)) (map le_number) from rest t.items (turns_done (padded width) le_number from rest count k list t e))

pub numbers_refuse : (width : ℕ) (from : Rest) (s : Stop) → Refuses (many (padded width)) from s → Refuses (numbers_of width) from s
unfolding numbers_of
numbers_refuse width from s p = then_first (many (padded width)) (λ l. gives (map le_number l)) from s p

pub all_push : {A : Type 0} (P : A → Type 0) (l new : List A) (x : A) → All P l → P x → new ≡ l ++ x ∷ [] → All P new
all_push {A} P l new x h p e = rw e (All-push P l x h p)

-- ---- values by shape

choice_first : {X : Type 0} (t : Bool) (f g : Form X) → t ≡ true → choice t f g ≡ f
choice_first true f g e = refl
choice_first false f g e = absurd cc

choice_second : {X : Type 0} (t : Bool) (f g : Form X) → t ≡ false → choice t f g ≡ g
choice_second true f g e = absurd cc
choice_second false f g e = refl

pub value_number : (kind width : ℕ) → is_number_kind kind ≡ true → width_in number_widths kind ≡ width → value kind ≡ and_then (padded width) (λ x. gives (plain.number kind (bits_of kind x)))
unfolding value
value_number kind width h e = choice_first _ _ _ h ∙ ap (λ (n : ℕ). and_then (padded n) (λ x. gives (plain.number kind (bits_of kind x)))) e

pub value_guid : value 0x0048 ≡ and_then (padded 16) (λ x. gives (plain.guid x))
unfolding value
value_guid = refl

pub value_bytes : (kind : ℕ) → is_number_kind kind ≡ false → nat_eq kind 0x0048 ≡ false → is_bytes_kind kind ≡ true → value kind ≡ and_then one (λ n. and_then (text kind) (λ x. gives (plain.bytes kind x)))
unfolding value
value_bytes kind a b c = choice_second _ _ _ a ∙ choice_second _ _ _ b ∙ choice_first _ _ _ c

pub value_numbers : (kind width : ℕ) → is_number_kind kind ≡ false → nat_eq kind 0x0048 ≡ false → is_bytes_kind kind ≡ false → is_numbers_kind kind ≡ true → width_in numbers_widths kind ≡ width → value kind ≡ and_then (numbers_of width) (λ l. gives (plain.numbers kind l))
unfolding value
value_numbers kind width a b c d e = choice_second _ _ _ a ∙ choice_second _ _ _ b ∙ choice_second _ _ _ c ∙ choice_first _ _ _ d ∙ ap (λ (n : ℕ). and_then (numbers_of n) (λ l. gives (plain.numbers kind l))) e

pub value_guids : value 0x1048 ≡ and_then (many (padded 16)) (λ l. gives (plain.guids l))
unfolding value
value_guids = refl

pub value_parts : (kind single : ℕ) → is_number_kind kind ≡ false → nat_eq kind 0x0048 ≡ false → is_bytes_kind kind ≡ false → is_numbers_kind kind ≡ false → nat_eq kind 0x1048 ≡ false → kind ≡ single + 0x1000 → value kind ≡ and_then (many (text single)) (λ l. gives (plain.parts kind l))
unfolding value
value_parts kind single a b c d e is =
    let less : kind - 0x1000 ≡ single = omega (arith, is) in
    choice_second _ _ _ a ∙ choice_second _ _ _ b ∙ choice_second _ _ _ c ∙ choice_second _ _ _ d ∙ choice_second _ _ _ e ∙ ap (λ (n : ℕ). and_then (many (text n)) (λ l. gives (plain.parts kind l))) less
