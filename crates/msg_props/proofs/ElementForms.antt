-- Elements of a multiple text as a loop reads them.
use Rattle.std.proofs.Common.{◌≡◌, ℕ, ◌+◌, ◌*◌, ◌/◌, ◌%◌, ◌<◌, ◌≤◌, Bool, true, false, cond, List, [], ◌∷◌, ◌++◌, length, map, Option, Some, None, Ok, Err, refl, sym, ap, subst, ◌∙◌, arith}
use Rattle.std.specs.Prelude.{All}
use Rattle.std.specs.List.{range_with_len}
use Rattle.std.proofs.lemmas.List.{length-append}
use Rattle.carrier_io.specs.Reads.{Fails, OnFault}
use Rattle.carrier_io.specs.Reasons.{fault_of}
use Rattle.carrier_io.specs.declared.reasons.Stop.{Stop}
use Rattle.carrier_io.specs.declared.reasons.Stop.TheVariants as stops
use Rattle.carrier_model.specs.Outcomes.{◌>>=◌}
use Rattle.carrier_model.specs.Reasons.{MISSING_STREAM}
use Rattle.carrier_model.specs.Sectors.{u32_of}
use Rattle.carrier_model.specs.Trail.{Fault, Test, first_fault}
use Rattle.carrier_model.specs.Turns.{unless}
use Rattle.carrier_model.specs.Values.{IsBytes}
use Rattle.cfb_sectors.specs.Seen.{bytes_of}
use Rattle.cfb_sectors.specs.declared.view.StreamView.{StreamView}
use Rattle.msg_model.specs.MsgValues.{Streams, Element, form_test, presence_test, elements_of, parts_of, step_of}
use Rattle.msg_model.specs.StreamNames.{element_name}
use Rattle.msg_props.specs.Elements.{part_in, is_good, is_present, IsElement, IsBad}
use Rattle.msg_props.proofs.PieceForms.{parted, upto_more, mapped_more, pushed}

test_then : (b : Bool) (o p q : Option Fault) (g : Fault) → (o ≡ None → p ≡ q) → cond b o (Some g) ≡ None → cond b p (Some g) ≡ q
test_then true o p q g h e = h e
test_then false o p q g h e = absurd cc

test_stays : (b : Bool) (o p : Option Fault) (f g : Fault) → (o ≡ Some g → p ≡ Some g) → cond b o (Some f) ≡ Some g → cond b p (Some f) ≡ Some g
test_stays true o p f g h e = h e
test_stays false o p f g h e = e

none_then : (ts us : List Test) → first_fault ts ≡ None → first_fault (ts ++ us) ≡ first_fault us
none_then [] us e = refl
none_then (t ∷ ts) us e = test_then t.holds (first_fault ts) (first_fault (ts ++ us)) (first_fault us) (t.reason, t.offset) (none_then ts us) e

some_then : (ts us : List Test) (g : Fault) → first_fault ts ≡ Some g → first_fault (ts ++ us) ≡ Some g
some_then [] us g e = absurd cc
some_then (t ∷ ts) us g e = test_stays t.holds (first_fault ts) (first_fault (ts ++ us)) (t.reason, t.offset) g (some_then ts us g) e

holds_alone : (t : Test) → t.holds ≡ true → first_fault (t ∷ []) ≡ None
holds_alone t e = rw e refl

fails_first : (t : Test) (ts : List Test) → t.holds ≡ false → first_fault (t ∷ ts) ≡ Some (t.reason, t.offset)
fails_first t ts e = rw e refl

map-append : {A B : Type 0} (h : A → B) (l m : List A) → map h (l ++ m) ≡ map h l ++ map h m
map-append h [] m = refl
map-append {A} {B} h (y ∷ l) m = ap (λ (z : List B). h y ∷ z) (map-append h l m)

-- an element by its number
abbrev pub element_at : Streams → ℕ → List ℕ → ℕ → Element
element_at streams tag sizes i = record { stream = streams (element_name tag i); size = u32_of sizes (step_of (tag % 0x10000) * i) }

abbrev pub elements_upto : Streams → ℕ → List ℕ → ℕ → List Element
elements_upto streams tag sizes k = map (element_at streams tag sizes) (range_with_len 0 k)

-- what the first elements gave: a list of their bytes, unless one is missing
pub record Gone (single place : ℕ) (streams : Streams) (tag : ℕ) (sizes : List ℕ) (k : ℕ) (list : List (List ℕ)) (missing : Bool) : Type 0 where
  pub forms : first_fault (map (form_test single) (elements_upto streams tag sizes k)) ≡ None
  pub present : missing ≡ false → (first_fault (map (presence_test single place) (elements_upto streams tag sizes k)) ≡ None) × (list ≡ map (part_in single) (elements_upto streams tag sizes k))
  pub absent : missing ≡ true → first_fault (map (presence_test single place) (elements_upto streams tag sizes k)) ≡ Some (MISSING_STREAM, place)
  pub fit : All (IsBytes single) list
  pub few : length list ≤ k

module _ (single place : ℕ) (streams : Streams) (tag : ℕ) (sizes : List ℕ) where
  pub gone_none : (list : List (List ℕ)) → list ≡ [] → Gone single place streams tag sizes 0 list false
  gone_none list e = record {
    forms = refl;
    present = λ f. (refl, e);
    absent = λ f. absurd cc;
    fit = λ k d lt. absurd (omega (arith, ap length e));
    few = omega (arith, ap length e);
  }

  module _ (k : ℕ) (list : List (List ℕ)) (missing : Bool) (g : Gone single place streams tag sizes k list missing) where
    one_more : (h : Element → Test) → map h (elements_upto streams tag sizes (k + 1)) ≡ map h (elements_upto streams tag sizes k) ++ h (element_at streams tag sizes k) ∷ []
    one_more h = ap (map h) (upto_more (element_at streams tag sizes) k) ∙ map-append h (elements_upto streams tag sizes k) (element_at streams tag sizes k ∷ [])

    more_forms : is_good single (element_at streams tag sizes k) ≡ true → first_fault (map (form_test single) (elements_upto streams tag sizes (k + 1))) ≡ None
    more_forms good = ap first_fault (one_more (form_test single)) ∙ none_then (map (form_test single) (elements_upto streams tag sizes k)) _ g.forms ∙ holds_alone (form_test single (element_at streams tag sizes k)) good

    pub gone_part : (new : List (List ℕ)) (part : List ℕ) → is_good single (element_at streams tag sizes k) ≡ true → is_present single (element_at streams tag sizes k) ≡ true → part ≡ part_in single (element_at streams tag sizes k) → IsBytes single part → new ≡ list ++ part ∷ [] → Gone single place streams tag sizes (k + 1) new missing
    gone_part new part good there e fit n = record {
      forms = more_forms good;
      present = λ f. (
        ap first_fault (one_more (presence_test single place)) ∙ none_then (map (presence_test single place) (elements_upto streams tag sizes k)) _ (g.present f).0 ∙ holds_alone (presence_test single place (element_at streams tag sizes k)) there,
        mapped_more (part_in single) (element_at streams tag sizes) k list new part (g.present f).1 e n,
      );
      absent = λ f. ap first_fault (one_more (presence_test single place)) ∙ some_then (map (presence_test single place) (elements_upto streams tag sizes k)) _ _ (g.absent f);
      fit = pushed (IsBytes single) list new part g.fit fit n;
      few = omega (arith, g.few, ap length n, length-append list (part ∷ []));
    }

    pub gone_missing : is_good single (element_at streams tag sizes k) ≡ true → is_present single (element_at streams tag sizes k) ≡ false → Gone single place streams tag sizes (k + 1) list true
    gone_missing good gone = record {
      forms = more_forms good;
      present = λ f. absurd cc;
      absent = λ f. ap first_fault (one_more (presence_test single place)) ∙ by missing refl;
      fit = g.fit;
      few = omega (arith, g.few);
    }
      where
        by : (b : Bool) → missing ≡ b → first_fault (map (presence_test single place) (elements_upto streams tag sizes k) ++ presence_test single place (element_at streams tag sizes k) ∷ []) ≡ Some (MISSING_STREAM, place)
        by true e = some_then (map (presence_test single place) (elements_upto streams tag sizes k)) _ _ (g.absent e)
        by false e = none_then (map (presence_test single place) (elements_upto streams tag sizes k)) _ (g.present e).0 ∙ fails_first (presence_test single place (element_at streams tag sizes k)) [] gone

    -- what was found of an element by its size
    pub gone_found : (size : ℕ) (v : StreamView) (new : List (List ℕ)) → size ≡ u32_of sizes (step_of (tag % 0x10000) * k) → IsElement single (record { stream = streams (element_name tag k); size = size }) (Some v) → new ≡ list ++ bytes_of v ∷ [] → Gone single place streams tag sizes (k + 1) new missing
    gone_found size v new e h n =
        let here = subst (λ (z : ℕ). IsElement single (record { stream = streams (element_name tag k); size = z }) (Some v)) e h in
        gone_part new (bytes_of v) here.0 here.1 here.2 (subst (IsBytes single) (sym here.2) here.3) n

    pub gone_lost : (size : ℕ) → size ≡ u32_of sizes (step_of (tag % 0x10000) * k) → IsElement single (record { stream = streams (element_name tag k); size = size }) None → Gone single place streams tag sizes (k + 1) list true
    gone_lost size e h =
        let here = subst (λ (z : ℕ). IsElement single (record { stream = streams (element_name tag k); size = z }) None) e h in
        gone_missing here.0 here.1

    -- an element of another length
    pub gone_bad : (f : Fault) → k < length sizes / step_of (tag % 0x10000) → IsBad single (element_at streams tag sizes k) f → parts_of single place (elements_of streams tag sizes) ≡ Err f
    unfolding parts_of
    gone_bad f lt bad =
        let n = length sizes / step_of (tag % 0x10000) in
        let p = parted (element_at streams tag sizes) k n lt in
        let split : map (form_test single) (elements_of streams tag sizes) ≡ map (form_test single) (elements_upto streams tag sizes k) ++ form_test single (element_at streams tag sizes k) ∷ map (form_test single) p.0 =
        ap (map (form_test single)) p.1 ∙ map-append (form_test single) (elements_upto streams tag sizes k) (element_at streams tag sizes k ∷ p.0) in
        let first : first_fault (map (form_test single) (elements_of streams tag sizes)) ≡ Some f =
        ap first_fault split ∙ none_then (map (form_test single) (elements_upto streams tag sizes k)) _ g.forms ∙ fails_first (form_test single (element_at streams tag sizes k)) (map (form_test single) p.0) bad.0 ∙ ap Some (sym bad.1) in
        ap (λ (o : Option Fault). unless o >>= λ good. Ok (map (part_in single) (elements_of streams tag sizes))) (some_then (map (form_test single) (elements_of streams tag sizes)) (map (presence_test single place) (elements_of streams tag sizes)) f first)

    pub gone_refuses : (size : ℕ) (s : Stop) → k < length sizes / step_of (tag % 0x10000) → OnFault (IsBad single (record { stream = streams (element_name tag k); size = size })) s → Fails s (parts_of single place (elements_of streams tag sizes))
    gone_refuses size (stops.Fault f) lt h = gone_bad (fault_of f) lt h
    gone_refuses size stops.NoMemory lt h = tt

    module _ (all : k ≡ length sizes / step_of (tag % 0x10000)) where
      behind_forms : first_fault (map (form_test single) (elements_of streams tag sizes) ++ map (presence_test single place) (elements_of streams tag sizes)) ≡ first_fault (map (presence_test single place) (elements_upto streams tag sizes k))
      behind_forms = subst (λ (n : ℕ). first_fault (map (form_test single) (elements_upto streams tag sizes n) ++ map (presence_test single place) (elements_upto streams tag sizes n)) ≡ first_fault (map (presence_test single place) (elements_upto streams tag sizes k))) all
          (none_then (map (form_test single) (elements_upto streams tag sizes k)) (map (presence_test single place) (elements_upto streams tag sizes k)) g.forms)

      pub gone_all : missing ≡ false → parts_of single place (elements_of streams tag sizes) ≡ Ok list
      unfolding parts_of
      gone_all e =
          ap (λ (o : Option Fault). unless o >>= λ good. Ok (map (part_in single) (elements_of streams tag sizes))) (behind_forms ∙ (g.present e).0)
          ∙ ap Ok (sym ((g.present e).1 ∙ ap (λ (n : ℕ). map (part_in single) (elements_upto streams tag sizes n)) all))

      pub gone_some : missing ≡ true → parts_of single place (elements_of streams tag sizes) ≡ Err (MISSING_STREAM, place)
      unfolding parts_of
      gone_some e = ap (λ (o : Option Fault). unless o >>= λ good. Ok (map (part_in single) (elements_of streams tag sizes))) (behind_forms ∙ g.absent e)
