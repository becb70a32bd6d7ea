-- A TNEF stream means one message, or has one first fault, and not both.
use Rattle.std.proofs.Common.{◌≡◌, inl, inr, ℕ, zero, suc, ◌+◌, Bool, true, false, List, [], ◌∷◌, ◌++◌, drop, Option, Some, None, refl, sym, ap, subst, ◌∙◌, append_assoc}
use Rattle.std.specs.Prelude.{zip}
use Rattle.std.proofs.lemmas.List.{append-nil}
use Rattle.carrier_model.specs.Trail.{Fault, first_fault}
use Rattle.tnef_model.specs.Attributes.{Attr}
use Rattle.carrier_model.specs.Grammar.{Whole}
use Rattle.tnef_model.specs.TnefLists.{prop_list}
use Rattle.carrier_model.specs.Reasons.{TOO_DEEP, BAD_INTERFACE}
use Rattle.carrier_model.specs.Meanings.{Meaning, Held, held_message, held_store}
use Rattle.tnef_model.specs.TnefMessage.{Part, inner_of, content, place_tests, Stands, AttrFails, AllStand, meaning_by, StreamMeans, stream, IID_MESSAGE, IID_STORAGE, has_id, refused, object_with, behind_interface, store_whole, by_interface, message_within}
use Rattle.carrier_model.proofs.Grammar.{Lawful, gives_lawful, then_lawful, choice_lawful, inside_lawful, means_exact, IsExactWhole}
use Rattle.tnef_model.proofs.TnefLists.{seen_lawful, prop_list_lawful, recipient_lists_lawful}
use Rattle.carrier_model.proofs.StoreLaws.{store_file-exact}
use Rattle.tnef_model.proofs.Stream.{attrs_exact}

one_fault : (o : Option Fault) (g h : Fault) → o ≡ Some g → o ≡ Some h → h ≡ g
one_fault o g h p q = cc

none_or_fault : (o : Option Fault) (g : Fault) → o ≡ None → o ≡ Some g → ⊥
none_or_fault o g p q = cc

module _ (objects : Whole Held) (exact : IsExactWhole objects) where
  inner_lawful : (o : Option (ℕ × List ℕ)) → Lawful (inner_of objects o)
  inner_lawful None = gives_lawful None
  inner_lawful (Some x) = seen_lawful _ _ (inside_lawful objects x.0 x.1 exact)

  content_lawful : (a : Attr) → Lawful (content objects a)
  unfolding content
  content_lawful a =
      choice_lawful _ _ _ (seen_lawful _ _ (prop_list_lawful false))
      (choice_lawful _ _ _ (seen_lawful _ _ recipient_lists_lawful)
      (choice_lawful _ _ _ (then_lawful (prop_list true) _ (prop_list_lawful true) (λ l. seen_lawful _ _ (inner_lawful l.object)))
      (choice_lawful _ _ _ (gives_lawful _) (gives_lawful _))))

  stands_one : (before : List Attr) (a : Attr) (p q : Part) → Stands objects before a p → Stands objects before a q → q ≡ p
  stands_one before a p q s t = (means_exact (content objects a) (content_lawful a) _ _).one p q s.means t.means

  attr_single : (before : List Attr) (a : Attr) (g h : Fault) → AttrFails objects before a g → AttrFails objects before a h → h ≡ g
  attr_single before a g h (inl p) (inl q) = one_fault (first_fault (place_tests before a)) g h p q
  attr_single before a g h (inl p) (inr q) = absurd (none_or_fault (first_fault (place_tests before a)) g q.0 p)
  attr_single before a g h (inr p) (inl q) = absurd (none_or_fault (first_fault (place_tests before a)) h p.0 q)
  attr_single before a g h (inr p) (inr q) = (content_lawful a).single _ _ g h p.1 q.1

  attr_apart : (before : List Attr) (a : Attr) (p : Part) (g : Fault) → Stands objects before a p → AttrFails objects before a g → ⊥
  attr_apart before a p g s (inl f) = none_or_fault (first_fault (place_tests before a)) g s.place f
  attr_apart before a p g s (inr f) = (means_exact (content objects a) (content_lawful a) _ _).apart p g s.means f.1

  all_one : (before l : List Attr) (ps qs : List Part) → AllStand objects before l ps → AllStand objects before l qs → qs ≡ ps
  all_one before [] [] [] s t = refl
  all_one before [] [] (q ∷ qs) s t = absurd t
  all_one before [] (p ∷ ps) qs s t = absurd s
  all_one before (a ∷ l) [] qs s t = absurd s
  all_one before (a ∷ l) (p ∷ ps) [] s t = absurd t
  all_one before (a ∷ l) (p ∷ ps) (q ∷ qs) s t =
      let here : q ≡ p = stands_one before a p q s.0 t.0 in
      let others : qs ≡ ps = all_one (before ++ a ∷ []) l ps qs s.1 t.1 in
      λ i. here i ∷ others i

  same_head : (a b : Attr) (l m : List Attr) → a ∷ l ≡ b ∷ m → (a ≡ b) × (l ≡ m)
  same_head a b l m e = (cc, cc)

  moved : (start : List Attr) (c : Attr) (l : List Attr) (a : Attr) (g : Fault) → AttrFails objects (start ++ c ∷ l) a g → AttrFails objects ((start ++ c ∷ []) ++ l) a g
  moved start c l a g f = subst (λ (z : List Attr). AttrFails objects z a g) (sym (append_assoc start (c ∷ []) l)) f

  -- two faults behind attributes that stand are one
  fails_single : (start l m : List Attr) (a b : Attr) (x y : List Attr) (ps qs : List Part) (g h : Fault) → l ++ a ∷ x ≡ m ++ b ∷ y → AllStand objects start l ps → AllStand objects start m qs
      → AttrFails objects (start ++ l) a g → AttrFails objects (start ++ m) b h → h ≡ g
  fails_single start [] [] a b x y ps qs g h e s t f k =
      attr_single (start ++ []) a g h f (subst (λ (z : Attr). AttrFails objects (start ++ []) z h) (sym (same_head a b x y e).0) k)
  fails_single start [] (c ∷ m) a b x y ps [] g h e s t f k = absurd t
  fails_single start [] (c ∷ m) a b x y ps (q ∷ qs) g h e s t f k =
      let same = same_head a c x (m ++ b ∷ y) e in
      absurd (attr_apart start a q g (subst (λ (z : Attr). Stands objects start z q) (sym same.0) t.0) (subst (λ (z : List Attr). AttrFails objects z a g) (append-nil start) f))
  fails_single start (c ∷ l) [] a b x y [] qs g h e s t f k = absurd s
  fails_single start (c ∷ l) [] a b x y (p ∷ ps) qs g h e s t f k =
      let same = same_head c b (l ++ a ∷ x) y e in
      absurd (attr_apart start b p h (subst (λ (z : Attr). Stands objects start z p) same.0 s.0) (subst (λ (z : List Attr). AttrFails objects z b h) (append-nil start) k))
  fails_single start (c ∷ l) (d ∷ m) a b x y [] qs g h e s t f k = absurd s
  fails_single start (c ∷ l) (d ∷ m) a b x y (p ∷ ps) [] g h e s t f k = absurd t
  fails_single start (c ∷ l) (d ∷ m) a b x y (p ∷ ps) (q ∷ qs) g h e s t f k =
      let same = same_head c d (l ++ a ∷ x) (m ++ b ∷ y) e in
      let there : AllStand objects (start ++ c ∷ []) m qs = subst (λ (z : Attr). AllStand objects (start ++ z ∷ []) m qs) (sym same.0) t.1 in
      let last : AttrFails objects (start ++ c ∷ m) b h = subst (λ (z : Attr). AttrFails objects (start ++ z ∷ m) b h) (sym same.0) k in
      fails_single (start ++ c ∷ []) l m a b x y ps qs g h same.1 s.1 there (moved start c l a g f) (moved start c m b h last)

  fails_apart : (start l m : List Attr) (b : Attr) (y : List Attr) (ps qs : List Part) (g : Fault) → l ≡ m ++ b ∷ y → AllStand objects start l ps → AllStand objects start m qs → AttrFails objects (start ++ m) b g → ⊥
  fails_apart start [] [] b y ps qs g e s t f = absurd cc
  fails_apart start [] (d ∷ m) b y ps qs g e s t f = absurd cc
  fails_apart start (c ∷ l) m b y [] qs g e s t f = absurd s
  fails_apart start (c ∷ l) [] b y (p ∷ ps) qs g e s t f =
      let same = same_head c b l y e in
      attr_apart start b p g (subst (λ (z : Attr). Stands objects start z p) same.0 s.0) (subst (λ (z : List Attr). AttrFails objects z b g) (append-nil start) f)
  fails_apart start (c ∷ l) (d ∷ m) b y (p ∷ ps) [] g e s t f = absurd t
  fails_apart start (c ∷ l) (d ∷ m) b y (p ∷ ps) (q ∷ qs) g e s t f =
      let same = same_head c d l (m ++ b ∷ y) e in
      let there : AllStand objects (start ++ c ∷ []) m qs = subst (λ (z : Attr). AllStand objects (start ++ z ∷ []) m qs) (sym same.0) t.1 in
      let last : AttrFails objects (start ++ c ∷ m) b g = subst (λ (z : Attr). AttrFails objects (start ++ z ∷ m) b g) (sym same.0) f in
      fails_apart (start ++ c ∷ []) l m b y ps qs g same.1 s.1 there (moved start c m b g last)

  stream_one : (at : ℕ) (bytes : List ℕ) (x y : Meaning) → StreamMeans objects at bytes x → StreamMeans objects at bytes y → y ≡ x
  stream_one at bytes x y p q =
      let same : q.attrs ≡ p.attrs = (attrs_exact at bytes).one p.attrs q.attrs p.there q.there in
      let parts : q.parts ≡ p.parts = all_one [] p.attrs p.parts q.parts p.stand (subst (λ (z : List Attr). AllStand objects [] z q.parts) same q.stand) in
      q.meaning ∙ (λ i. meaning_by (zip (same i) (parts i))) ∙ sym p.meaning

  stream_single : (at : ℕ) (bytes : List ℕ) (g h : Fault) → (stream objects).fails at bytes g → (stream objects).fails at bytes h → h ≡ g
  stream_single at bytes g h (inl p) (inl q) = (attrs_exact at bytes).single g h p q
  stream_single at bytes g h (inl p) (inr q) = absurd ((attrs_exact at bytes).apart q.attrs g q.there p)
  stream_single at bytes g h (inr p) (inl q) = absurd ((attrs_exact at bytes).apart p.attrs h p.there q)
  stream_single at bytes g h (inr p) (inr q) =
      let same : q.attrs ≡ p.attrs = (attrs_exact at bytes).one p.attrs q.attrs p.there q.there in
      let e : p.fails.before ++ p.fails.a ∷ p.fails.others ≡ q.fails.before ++ q.fails.a ∷ q.fails.others = sym p.fails.all ∙ sym same ∙ q.fails.all in
      fails_single [] p.fails.before q.fails.before p.fails.a q.fails.a p.fails.others q.fails.others p.fails.parts q.fails.parts g h e p.fails.stand q.fails.stand p.fails.fails q.fails.fails

  stream_apart : (at : ℕ) (bytes : List ℕ) (x : Meaning) (g : Fault) → StreamMeans objects at bytes x → (stream objects).fails at bytes g → ⊥
  stream_apart at bytes x g p (inl q) = (attrs_exact at bytes).apart p.attrs g p.there q
  stream_apart at bytes x g p (inr q) =
      let same : q.attrs ≡ p.attrs = (attrs_exact at bytes).one p.attrs q.attrs p.there q.there in
      fails_apart [] p.attrs q.fails.before q.fails.a q.fails.others p.parts q.fails.parts g (sym same ∙ q.fails.all) p.stand q.fails.stand q.fails.fails

  pub stream_exact : IsExactWhole (stream objects)
  stream_exact at bytes = record { one = stream_one at bytes; single = stream_single at bytes; apart = stream_apart at bytes }

refused_exact : (reason : ℕ) → IsExactWhole (refused reason)
refused_exact reason at bytes = record {
  one = λ x y p q. absurd p;
  single = λ g h p q. q ∙ sym p;
  apart = λ x g p q. p;
}

behind_exact : {X : Type 0} (held : X → Held) (inner : Whole X) → IsExactWhole inner → IsExactWhole (behind_interface held inner)
behind_exact held inner exact at bytes = record {
  one = λ x y p q. q.2 ∙ (ap held ((exact (at + 16) (drop 16 bytes)).one p.0 q.0 p.1 q.1) ∙ sym p.2);
  single = λ g h p q. (exact (at + 16) (drop 16 bytes)).single g h p q;
  apart = λ x g p q. (exact (at + 16) (drop 16 bytes)).apart p.0 g p.1 q;
}

store_exact : IsExactWhole store_whole
store_exact at bytes = store_file-exact at bytes

by_exact : (messages : Whole Held) → IsExactWhole messages → (message store : Bool) → IsExactWhole (by_interface messages message store)
by_exact messages exact true store = exact
by_exact messages exact false true = behind_exact held_store store_whole store_exact
by_exact messages exact false false = refused_exact BAD_INTERFACE

object_exact : (messages : Whole Held) → IsExactWhole messages → IsExactWhole (object_with messages)
object_exact messages exact at bytes =
    let e = by_exact messages exact (has_id IID_MESSAGE bytes) (has_id IID_STORAGE bytes) at bytes in
    record { one = e.one; single = e.single; apart = e.apart }

pub message_exact : (n : ℕ) → IsExactWhole (message_within n)
unfolding message_within
message_exact zero = stream_exact (object_with (refused TOO_DEEP)) (object_exact (refused TOO_DEEP) (refused_exact TOO_DEEP))
message_exact (suc n) =
    let inner = behind_interface held_message (message_within n) in
    stream_exact (object_with inner) (object_exact inner (behind_exact held_message (message_within n) (message_exact n)))
