-- Reading form after form: what is left of a form decides what the form reads.
use Rattle.std.proofs.Common.{◌≡◌, inl, inr, ℕ, suc, ◌+◌, ◌≤◌, Bool, true, false, List, [], ◌∷◌, ◌++◌, length, take, drop, refl, sym, ap, subst, ◌∙◌, append_assoc, arith}
use Rattle.std.proofs.lemmas.List.{length-append, take-append-drop, length-take}
use Rattle.carrier_model.specs.Trail.{Fault}
use Rattle.carrier_model.specs.Grammar.{Form, Spans, gives, field, and_then, such, placed, repeat}

-- where a text ends
span_end : {X : Type 0} (f : Form X) (at : ℕ) (bytes : List ℕ) (x : X) (after : ℕ) (rest : List ℕ) (s : Spans f at bytes x after rest) → after ≡ at + length s.begins.text
span_end f at bytes x after rest s = omega (arith, s.place, ap length s.begins.parts, length-append s.begins.text rest)

-- What a form reads from a place on follows from what another reads from a later place on.
pub record Continues {Y : Type 0} (f : Form Y) (at : ℕ) (bytes : List ℕ) (g : Form Y) (here : ℕ) (rest : List ℕ) : Type 0 where
  pub ok : (y : Y) (after : ℕ) (more : List ℕ) → Spans g here rest y after more → Spans f at bytes y after more
  pub bad : (h : Fault) → g.fails here rest h → f.fails at bytes h

pub continues_here : {Y : Type 0} (f : Form Y) (at : ℕ) (bytes : List ℕ) → Continues f at bytes f at bytes
continues_here f at bytes = record { ok = λ y after more s. s; bad = λ h p. p }

pub continues_on : {Y : Type 0} (f : Form Y) (at : ℕ) (bytes : List ℕ) (g : Form Y) (here : ℕ) (rest : List ℕ) (k : Form Y) (there : ℕ) (last : List ℕ)
    → Continues f at bytes g here rest → Continues g here rest k there last → Continues f at bytes k there last
continues_on f at bytes g here rest k there last p q = record {
  ok = λ y after more s. p.ok y after more (q.ok y after more s);
  bad = λ h e. p.bad h (q.bad h e);
}

-- behind a text of the first form
pub continues_then : {X Y : Type 0} (f : Form X) (next : X → Form Y) (at : ℕ) (bytes : List ℕ) (x : X) (here : ℕ) (rest : List ℕ) → Spans f at bytes x here rest → Continues (and_then f next) at bytes (next x) here rest
continues_then f next at bytes x here rest s =
    let end : here ≡ at + length s.begins.text = span_end f at bytes x here rest s in
    record {
      ok = λ y after more t. record {
        begins = record {
          text = s.begins.text ++ t.begins.text;
          parts = s.begins.parts ∙ ap (λ (z : List ℕ). s.begins.text ++ z) t.begins.parts ∙ sym (append_assoc s.begins.text t.begins.text more);
          spelled = record { x = x; front = s.begins.text; back = t.begins.text; parts = refl; first = s.begins.spelled; second = subst (λ (z : ℕ). (next x).spells z y t.begins.text) end t.begins.spelled };
        };
        place = t.place ∙ s.place;
      };
      bad = λ h e. inr (record { x = x; front = s.begins.text; rest = rest; parts = s.begins.parts; first = s.begins.spelled; fails = subst (λ (z : ℕ). (next x).fails z rest h) end e });
    }

pub spans_nothing : {X : Type 0} (x : X) (at : ℕ) (bytes : List ℕ) → Spans (gives x) at bytes x at bytes
spans_nothing x at bytes = record { begins = record { text = []; parts = refl; spelled = (refl, refl) }; place = refl }

-- a form whose meaning is seen as another
pub spans_seen : {X Y : Type 0} (f : Form X) (view : X → Y) (at : ℕ) (bytes : List ℕ) (x : X) (after : ℕ) (rest : List ℕ) → Spans f at bytes x after rest → Spans (and_then f (λ x. gives (view x))) at bytes (view x) after rest
spans_seen f view at bytes x after rest s = (continues_then f (λ x. gives (view x)) at bytes x after rest s).ok (view x) after rest (spans_nothing (view x) after rest)

pub spans_placed : {X : Type 0} (f : Form X) (at : ℕ) (bytes : List ℕ) (x : X) (after : ℕ) (rest : List ℕ) → Spans f at bytes x after rest → Spans (placed f) at bytes (at, x) after rest
spans_placed f at bytes x after rest s = record { begins = record { text = s.begins.text; parts = s.begins.parts; spelled = (refl, s.begins.spelled) }; place = s.place }

pub spans_such : {X : Type 0} (f : Form X) (ok : X → Bool) (reason at : ℕ) (bytes : List ℕ) (x : X) (after : ℕ) (rest : List ℕ) → Spans f at bytes x after rest → ok x ≡ true → Spans (such f ok reason) at bytes x after rest
spans_such f ok reason at bytes x after rest s e = record { begins = record { text = s.begins.text; parts = s.begins.parts; spelled = (s.begins.spelled, e) }; place = s.place }

pub fails_such : {X : Type 0} (f : Form X) (ok : X → Bool) (reason at : ℕ) (bytes : List ℕ) (x : X) (after : ℕ) (rest : List ℕ) → Spans f at bytes x after rest → ok x ≡ false → (such f ok reason).fails at bytes (reason, at)
fails_such f ok reason at bytes x after rest s e = inr (record { x = x; front = s.begins.text; rest = rest; parts = s.begins.parts; first = s.begins.spelled; refused = e; fault = refl })

pub spans_field : (n reason at : ℕ) (bytes x rest : List ℕ) (after : ℕ) → n ≤ length bytes → x ≡ take n bytes → rest ≡ drop n bytes → after ≡ at + n → Spans (field n reason) at bytes x after rest
spans_field n reason at bytes x rest after long front back place =
    let whole : bytes ≡ x ++ rest = sym ((λ i. front i ++ back i) ∙ take-append-drop n bytes) in
    let len : length x ≡ n = ap length front ∙ omega (arith, length-take n bytes) in
    record {
      begins = record { text = x; parts = whole; spelled = (refl, len) };
      place = omega (arith, place, len, ap length whole, length-append x rest);
    }

-- no more bytes than there were
pub spans_less : {X : Type 0} (f : Form X) (at : ℕ) (bytes : List ℕ) (x : X) (after : ℕ) (rest : List ℕ) → Spans f at bytes x after rest → length rest ≤ length bytes
spans_less f at bytes x after rest s = omega (arith, ap length s.begins.parts, length-append s.begins.text rest)

-- ---- so many

pub continues_repeat : {X : Type 0} (n : ℕ) (item : List X → Form X) (before : List X) (at : ℕ) (bytes : List ℕ) (x : X) (here : ℕ) (rest : List ℕ) → Spans (item before) at bytes x here rest
    → Continues (repeat (suc n) item before) at bytes (repeat n item (before ++ x ∷ [])) here rest
unfolding repeat
continues_repeat n item before at bytes x here rest s = continues_then (item before) (λ x. repeat n item (before ++ x ∷ [])) at bytes x here rest s

pub fails_repeat : {X : Type 0} (n : ℕ) (item : List X → Form X) (before : List X) (at : ℕ) (bytes : List ℕ) (g : Fault) → (item before).fails at bytes g → (repeat (suc n) item before).fails at bytes g
unfolding repeat
fails_repeat n item before at bytes g p = inl p

pub spans_repeat : {X : Type 0} (item : List X → Form X) (before : List X) (at : ℕ) (bytes : List ℕ) → Spans (repeat 0 item before) at bytes before at bytes
unfolding repeat
spans_repeat item before at bytes = spans_nothing before at bytes
