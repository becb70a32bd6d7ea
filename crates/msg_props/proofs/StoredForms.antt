-- Values of entries, by the shapes of their kinds.
use Rattle.std.proofs.Common.{◌≡◌, inl, inr, ℕ, ◌-◌, ◌*◌, ◌%◌, ◌<◌, ◌^◌, Bool, true, false, cond, List, [], length, map, take, Option, Some, None, Result, Ok, Err, refl, sym, ap, subst, ◌∙◌, arith}
use Rattle.std.specs.Prelude.{nat_eq, not, ◌==◌, ◌&&◌}
use Rattle.std.specs.Option.{option_map}
use Rattle.std.proofs.lemmas.Bool.{eq-eqb, ltb-true}
use Rattle.carrier_io.specs.Reads.{Fails}
use Rattle.carrier_io.specs.declared.reasons.Stop.{Stop}
use Rattle.carrier_io.specs.declared.reasons.Stop.TheVariants as stops
use Rattle.carrier_model.specs.Bytes.{le_number}
use Rattle.carrier_model.specs.Keys.{Key}
use Rattle.carrier_model.specs.Kinds.{is_kind, is_number_kind, bits_of}
use Rattle.carrier_model.specs.Lookups.{Found, size_place, size_place_at}
use Rattle.carrier_model.specs.Outcomes.{◌>>=◌, check, mapped}
use Rattle.carrier_model.specs.Reasons.{BAD_ELEMENT, MISSING_STREAM, UNKNOWN_TYPE}
use Rattle.carrier_model.specs.Streams.{Stream}
use Rattle.carrier_model.specs.Trail.{Fault}
use Rattle.carrier_model.specs.Values.{Value, IsValue, number, guid, bytes, numbers, guids, parts, number_widths, width_in, is_bytes_kind}
use Rattle.carrier_model.proofs.Turns.{bind_from, check_from}
use Rattle.msg_model.specs.MsgProps.{key_of, prop_of}
use Rattle.msg_model.specs.NameMap.{Pair}
use Rattle.msg_model.specs.MsgValues.{Streams, PropEntry, kind_in, size_in, step_of, fits_kind, means_empty, pieces_of, elements_of, parts_of, streamed_value, stored_value, value_of}
use Rattle.msg_model.specs.StreamNames.{value_name}
use Rattle.msg_props.proofs.NameForms.{there, nowhere}
use Rattle.msg_props.proofs.ValueForms.{empty_fits}
use Rattle.prop_values.specs.Kinds.{kind_number}
use Rattle.prop_values.specs.Shapes.{HasShape, IsWidth}
use Rattle.prop_values.specs.declared.kinds.Kind.{Kind}
use Rattle.prop_values.specs.declared.shapes.Shape.{Shape}
use Rattle.prop_values.specs.declared.shapes.Shape.TheVariants as shapes

abbrev pub the_err : Fault → Result Value Fault
the_err g = Err g

first : {A : Type 0} (b : Bool) (x y : A) → b ≡ true → cond b x y ≡ x
first true x y e = refl
first false x y e = absurd cc

second : {A : Type 0} (b : Bool) (x y : A) → b ≡ false → cond b x y ≡ y
second true x y e = absurd cc
second false x y e = refl

module _ (streams : Streams) (e : PropEntry) (x : List ℕ) where
  pub streamed_guid : (v : Value) → HasShape (kind_in e) shapes.Guid → v ≡ guid x → streamed_value streams e x ≡ Ok v
  unfolding streamed_value
  streamed_guid v h is = first _ _ _ (eq-eqb _ _ h) ∙ ap Ok (sym is)

  pub streamed_bytes : (k : ℕ) (v : Value) → k ≡ kind_in e → HasShape (kind_in e) shapes.Bytes → v ≡ bytes k x → streamed_value streams e x ≡ Ok v
  unfolding streamed_value
  streamed_bytes k v same h is = second _ _ _ h.1 ∙ (first _ _ _ h.2 ∙ ap Ok (sym (is ∙ ap (λ (n : ℕ). bytes n x) same)))

  pub streamed_numbers : (k width : ℕ) (v : Value) → k ≡ kind_in e → HasShape (kind_in e) (shapes.Numbers width) → v ≡ numbers k (map le_number (pieces_of width x)) → streamed_value streams e x ≡ Ok v
  unfolding streamed_value
  streamed_numbers k width v same h is =
      let step : step_of (kind_in e) ≡ width = first _ _ _ h.3 ∙ h.4 in
      second _ _ _ h.1 ∙ (second _ _ _ h.2 ∙ (first _ _ _ h.3 ∙ ap Ok (sym (is ∙ ap (λ (n : ℕ). numbers n (map le_number (pieces_of width x))) same ∙ ap (λ (n : ℕ). numbers (kind_in e) (map le_number (pieces_of n x))) (sym step)))))

  pub streamed_guids : (v : Value) → HasShape (kind_in e) shapes.Guids → v ≡ guids (pieces_of 16 x) → streamed_value streams e x ≡ Ok v
  unfolding streamed_value
  streamed_guids v h is = rw h (ap Ok (sym is))

  pub streamed_parts : (k : ℕ) (single : Kind) → k ≡ kind_in e → HasShape (kind_in e) (shapes.Parts single) → streamed_value streams e x ≡ mapped (parts k) (parts_of (kind_number single) e.place (elements_of streams e.tag x))
  unfolding streamed_value
  streamed_parts k single same h =
      let less : kind_in e - 0x1000 ≡ kind_number single = omega (arith, h.5) in
      second _ _ _ h.1 ∙ (second _ _ _ h.2 ∙ (second _ _ _ h.3 ∙ (second _ _ _ h.4
      ∙ (ap (λ (n : ℕ). mapped (parts (kind_in e)) (parts_of n e.place (elements_of streams e.tag x))) less ∙ ap (λ (n : ℕ). mapped (parts n) (parts_of (kind_number single) e.place (elements_of streams e.tag x))) (sym same)))))

abbrev pub may_be_absent : PropEntry → Bool
may_be_absent e = not (kind_in e == 0x0048) && means_empty (kind_in e) (size_in e)

module _ (streams : Streams) (e : PropEntry) (o : Option Found) where
  pub stored_some : (s : Stream) → Some s ≡ option_map (λ f. f.stream) o → fits_kind (kind_in e) (length s.bytes) ≡ true → stored_value streams e o ≡ streamed_value streams e s.bytes
  unfolding stored_value
  stored_some s here fits =
      let (f, is, same) = there o s here in
      subst (λ (p : Option Found). stored_value streams e p ≡ streamed_value streams e s.bytes) (sym is)
      (subst (λ (t : Stream). stored_value streams e (Some f) ≡ streamed_value streams e t.bytes) (sym same)
      (ap (λ (b : Bool). check b BAD_ELEMENT (size_place f) >>= λ fits. streamed_value streams e f.stream.bytes) (subst (λ (t : Stream). fits_kind (kind_in e) (length t.bytes) ≡ true) same fits)))

  pub stored_bad : (s : Stream) → Some s ≡ option_map (λ f. f.stream) o → fits_kind (kind_in e) (length s.bytes) ≡ false → stored_value streams e o ≡ Err (BAD_ELEMENT, size_place_at o)
  unfolding stored_value
  stored_bad s here fits =
      let (f, is, same) = there o s here in
      let bad : fits_kind (kind_in e) (length f.stream.bytes) ≡ false = subst (λ (t : Stream). fits_kind (kind_in e) (length t.bytes) ≡ false) same fits in
      subst (λ (p : Option Found). stored_value streams e p ≡ Err (BAD_ELEMENT, size_place_at p)) (sym is)
      (ap (λ (b : Bool). check b BAD_ELEMENT (size_place f) >>= λ fits. streamed_value streams e f.stream.bytes) bad)

  pub stored_empty : None ≡ option_map (λ f. f.stream) o → may_be_absent e ≡ true → stored_value streams e o ≡ streamed_value streams e []
  unfolding stored_value
  stored_empty here absent =
      subst (λ (p : Option Found). stored_value streams e p ≡ streamed_value streams e []) (sym (nowhere o here))
      (ap (λ (b : Bool). check b MISSING_STREAM e.place >>= λ empty. streamed_value streams e []) absent)

  pub stored_missing : None ≡ option_map (λ f. f.stream) o → may_be_absent e ≡ false → stored_value streams e o ≡ Err (MISSING_STREAM, e.place)
  unfolding stored_value
  stored_missing here absent =
      subst (λ (p : Option Found). stored_value streams e p ≡ Err (MISSING_STREAM, e.place)) (sym (nowhere o here))
      (ap (λ (b : Bool). check b MISSING_STREAM e.place >>= λ empty. streamed_value streams e []) absent)

-- an absent stream has a length that fits, but for a GUID
fits_none : (k step : ℕ) → nat_eq k 0x0048 ≡ false → is_bytes_kind k ≡ false → step_of k ≡ step → (0 % step) ≡ 0 → fits_kind k 0 ≡ true
fits_none k step a b e z = second _ _ _ a ∙ (second _ _ _ b ∙ ap (λ (n : ℕ). 0 % n == 0) e ∙ ap (λ (n : ℕ). n == 0) z)

width_none : (width : ℕ) → IsWidth width → 0 % width ≡ 0
width_none width (inl e) = rw e refl
width_none width (inr (inl e)) = rw e refl
width_none width (inr (inr e)) = rw e refl

pub absent_fits : (k : ℕ) (s : Shape) → HasShape k s → is_number_kind k ≡ false → nat_eq k 0x0048 ≡ false → fits_kind k 0 ≡ true
absent_fits k (shapes.Number width) h n g = absurd (let t = h.0 in cc)
absent_fits k shapes.Guid h n g = absurd (let t : nat_eq k 0x0048 ≡ true = eq-eqb _ _ h in cc)
absent_fits k shapes.Bytes h n g = empty_fits k h.2
absent_fits k (shapes.Numbers width) h n g = fits_none k width h.1 h.2 (first _ _ _ h.3 ∙ h.4) (width_none width h.5)
absent_fits k shapes.Guids h n g = rw h refl
absent_fits k (shapes.Parts single) h n g = by (k == 0x1102) refl
  where
    by : (b : Bool) → (k == 0x1102) ≡ b → fits_kind k 0 ≡ true
    by true e = fits_none k 8 h.1 h.2 (second _ _ _ h.3 ∙ (second _ _ _ h.4 ∙ first _ _ _ e)) refl
    by false e = fits_none k 4 h.1 h.2 (second _ _ _ h.3 ∙ (second _ _ _ h.4 ∙ second _ _ _ e)) refl

pub not_guid : (e : PropEntry) → may_be_absent e ≡ true → nat_eq (kind_in e) 0x0048 ≡ false
not_guid e = by (kind_in e == 0x0048) refl
  where
    by : (b : Bool) → (kind_in e == 0x0048) ≡ b → (not b && means_empty (kind_in e) (size_in e)) ≡ true → nat_eq (kind_in e) 0x0048 ≡ false
    by true f h = absurd cc
    by false f h = f

-- ---- numbers

pub value_number : (streams : Streams) (e : PropEntry) (k width n : ℕ) → k ≡ kind_in e → HasShape k (shapes.Number width) → n ≡ bits_of k (take width e.field) → value_of streams e ≡ Ok (number k n)
unfolding value_of
value_number streams e k width n same h is =
    let here = subst (λ (m : ℕ). HasShape m (shapes.Number width)) same h in
    first _ _ _ here.0 ∙ ap (λ (m : ℕ). Ok (number (kind_in e) (bits_of (kind_in e) (take m e.field)))) here.1 ∙ ap (λ (m : ℕ). Ok (number m (bits_of m (take width e.field)))) (sym same) ∙ ap (λ (m : ℕ). Ok (number k m)) (sym is)

pub number_valid : (k width n : ℕ) → HasShape k (shapes.Number width) → n < 2 ^ (8 * width) → (k ≡ 0x000B → n < 2) → IsValue (number k n)
number_valid k width n h below truth = (rw h.1 below, ltb-true 0 (width_in number_widths k) h.0, truth)

pub value_stored : (streams : Streams) (e : PropEntry) → is_number_kind (kind_in e) ≡ false → value_of streams e ≡ stored_value streams e (streams (value_name e.tag))
unfolding value_of
value_stored streams e n = second _ _ _ n

pub not_number : (k : ℕ) (s : Shape) → HasShape k s → ((width : ℕ) → s ≡ shapes.Number width → ⊥) → is_number_kind k ≡ false
not_number k (shapes.Number width) h other = absurd (other width refl)
not_number k shapes.Guid h other = rw h refl
not_number k shapes.Bytes h other = h.0
not_number k (shapes.Numbers width) h other = h.0
not_number k shapes.Guids h other = rw h refl
not_number k (shapes.Parts single) h other = h.0

-- ---- properties

pub prop_refused : (pairs : List Pair) (streams : Streams) (e : PropEntry) (key : Key) (s : Stop) → is_kind (kind_in e) ≡ true → key_of pairs e ≡ Ok key → Fails s (value_of streams e) → Fails s (prop_of pairs streams e)
unfolding prop_of
prop_refused pairs streams e key (stops.Fault g) known there h = check_from (is_kind (kind_in e)) UNKNOWN_TYPE e.place _ known ∙ (bind_from (key_of pairs e) _ key there ∙ ap (λ (r : Result Value Fault). r >>= λ value. Ok (record { key = key; value = value })) h)
prop_refused pairs streams e key stops.NoMemory known there h = tt

pub prop_read : (pairs : List Pair) (streams : Streams) (e : PropEntry) (key : Key) (value : Value) → is_kind (kind_in e) ≡ true → key_of pairs e ≡ Ok key → value_of streams e ≡ Ok value → prop_of pairs streams e ≡ Ok (record { key = key; value = value })
unfolding prop_of
prop_read pairs streams e key value known there h = check_from (is_kind (kind_in e)) UNKNOWN_TYPE e.place _ known ∙ (bind_from (key_of pairs e) _ key there ∙ ap (λ (r : Result Value Fault). r >>= λ value. Ok (record { key = key; value = value })) h)
