-- The name of an entry.
use Rattle.std.proofs.Common.{◌≡◌, ◌∙◌, ℕ, List, Bool, true, false, Result, Ok, Err, Some, None, refl, sym, ap}
use Rattle.std.specs.Prelude.{◌==◌}
use Rattle.std.proofs.lemmas.Bool.{cond-true, cond-false, eq-eqb, ne_eqb}
use Rattle.carrier_io.specs.declared.reasons.Stop.{Stop}
use Rattle.carrier_io.specs.declared.reasons.Stop.TheVariants as stops
use Rattle.carrier_io.specs.Reads.{Fails}
use Rattle.carrier_io.specs.Reasons.{fault_of}
use Rattle.carrier_model.specs.Keys.{Name, numbered, texted}
use Rattle.carrier_model.specs.Outcomes.{◌>>=◌, check, mapped}
use Rattle.carrier_model.specs.Reasons.{BAD_GUID_INDEX}
use Rattle.carrier_model.specs.Trail.{Fault}
use Rattle.carrier_model.proofs.Turns.{check_from}
use Rattle.msg_model.specs.NameMap.{NameStreams, NameEntry, is_text, set_index, set_at, has_set, text_at, name_of, named_by}

-- a reader that stops where another stops
pub fails_with : {A B : Type 0} (e : Stop) (r : Result A Fault) (s : Result B Fault) → ((g : Fault) → r ≡ Err g → s ≡ Err g) → Fails e r → Fails e s
fails_with (stops.Fault g) r s f h = f (fault_of g) h
fails_with stops.NoMemory r s f h = tt

pub check_fails : {B : Type 0} (t : Bool) (reason offset : ℕ) (f : Unit {0} → Result B Fault) → t ≡ false → (check t reason offset >>= f) ≡ Err (reason, offset)
check_fails true reason offset f e = absurd cc
check_fails false reason offset f e = refl

module _ (s : NameStreams) (e : NameEntry) where
  pub set_fails : (known : Bool) → known ≡ has_set s.guids.bytes (set_index e) → known ≡ false → name_of s e ≡ Err (BAD_GUID_INDEX, e.place)
  unfolding name_of
  set_fails known is h = check_fails (has_set s.guids.bytes (set_index e)) BAD_GUID_INDEX e.place _ (sym is ∙ h)

  module _ (known : Bool) (is : known ≡ has_set s.guids.bytes (set_index e)) (there : known ≡ true) where
    pub text_fails : is_text e ≡ true → (g : Fault) → text_at s.texts e.identifier e.place ≡ Err g → name_of s e ≡ Err g
    unfolding name_of
    text_fails kind g h =
        check_from (has_set s.guids.bytes (set_index e)) BAD_GUID_INDEX e.place _ (sym is ∙ there)
        ∙ (cond-true (is_text e) _ _ kind ∙ ap (mapped (texted (set_at s.guids.bytes (set_index e)))) h)

    pub text_gives : is_text e ≡ true → (set units : List ℕ) → set ≡ set_at s.guids.bytes (set_index e) → text_at s.texts e.identifier e.place ≡ Ok units → name_of s e ≡ Ok (texted set units)
    unfolding name_of
    text_gives kind set units same h =
        check_from (has_set s.guids.bytes (set_index e)) BAD_GUID_INDEX e.place _ (sym is ∙ there)
        ∙ (cond-true (is_text e) _ _ kind
        ∙ (ap (mapped (texted (set_at s.guids.bytes (set_index e)))) h ∙ ap (λ (z : List ℕ). Ok (texted z units)) (sym same)))

    pub number_gives : is_text e ≡ false → (set : List ℕ) → set ≡ set_at s.guids.bytes (set_index e) → name_of s e ≡ Ok (numbered set e.identifier)
    unfolding name_of
    number_gives kind set same =
        check_from (has_set s.guids.bytes (set_index e)) BAD_GUID_INDEX e.place _ (sym is ∙ there)
        ∙ (cond-false (is_text e) _ _ kind ∙ ap (λ (z : List ℕ). Ok (numbered z e.identifier)) (sym same))

  -- an entry of the property set 0 has none
  pub nameless : set_index e ≡ 0 → named_by s e ≡ Ok None
  unfolding named_by
  nameless zero = cond-true (set_index e == 0) _ _ (eq-eqb _ _ zero)

  pub named_fails : (set_index e ≡ 0 → ⊥) → (g : Fault) → name_of s e ≡ Err g → named_by s e ≡ Err g
  unfolding named_by
  named_fails some g h = cond-false (set_index e == 0) _ _ (ne_eqb _ _ some) ∙ ap (mapped Some) h

  pub named_gives : (set_index e ≡ 0 → ⊥) → (n : Name) → name_of s e ≡ Ok n → named_by s e ≡ Ok (Some n)
  unfolding named_by
  named_gives some n h = cond-false (set_index e == 0) _ _ (ne_eqb _ _ some) ∙ ap (mapped Some) h
