-- Things that are read in turn, beside what they pass over.
use Rattle.std.proofs.Common.{◌≡◌, ℕ, ◌+◌, ◌≤◌, List, [], ◌∷◌, ◌++◌, length, map, take, drop, Result, Ok, Err, Some, refl, sym, ap, ◌∙◌, append_assoc, take_all}
use Rattle.std.specs.Prelude.{slice_get}
use Rattle.std.specs.List.{flat_map}
use Rattle.std.proofs.Math.Seq.{drop-append_seam}
use Rattle.std.proofs.lemmas.Grind.{flat_map-append}
use Rattle.std.proofs.lemmas.List.{append-nil, map-append, take-append-drop}
use Rattle.carrier_io.specs.Reads.{Fails}
use Rattle.carrier_io.specs.Reasons.{fault_of}
use Rattle.carrier_io.specs.declared.reasons.Stop.{Stop}
use Rattle.carrier_io.specs.declared.reasons.Stop.TheVariants as stops
use Rattle.carrier_model.specs.Meanings.{Passed}
use Rattle.carrier_model.specs.Outcomes.{mapped}
use Rattle.carrier_model.specs.Trail.{Fault}
use Rattle.carrier_model.specs.Turns.{in_turn, each}
use Rattle.carrier_model.proofs.Messages.{taken_at}
use Rattle.carrier_model.proofs.Trees.{drop_at}
use Rattle.carrier_model.proofs.TurnSteps.{in_turn-push, in_turn-fault}
use Rattle.msg_model.specs.MsgProps as plain
use Rattle.msg_props.specs.Sections.{section_seen}
use Rattle.msg_props.specs.declared.reading.Section.{Section}
use Rattle.msg_storage.specs.Beside.{IsBeside}

-- a reader that stops where another stops
pub fails_with : {A B : Type 0} (e : Stop) (r : Result A Fault) (s : Result B Fault) → ((g : Fault) → r ≡ Err g → s ≡ Err g) → Fails e r → Fails e s
fails_with (stops.Fault g) r s f h = f (fault_of g) h
fails_with stops.NoMemory r s f h = tt

-- ---- a list

abbrev pub section_beside : Section → List Passed → plain.Section
section_beside s more = record { props = s.props; embedded = s.embedded; passed = more }

pub list_read : (old new : List Passed) (s : Section) (r : Result plain.Section Fault) → r ≡ Ok (section_seen old new s) → ((more : List Passed) × (new ≡ old ++ more)) → IsBeside section_beside old new s r
list_read old new s r h (more, e) =
    let same : drop (length old) new ≡ more = ap (drop (length old)) e ∙ drop-append_seam old more in
    record { more = more; passed = e; gives = h ∙ ap (λ (z : List Passed). Ok (section_beside s z)) same }

-- ---- things in turn

-- so many things were read: what they give, and what they passed over
pub record Progress {A B P : Type 0} (read : A → Result B Fault) (part : B → P) (over : B → List Passed) (xs : List A) (k : ℕ) (old now : List Passed) (parts : List P) : Type 0 where
  pub given : List B
  pub turns : each read (take k xs) ≡ Ok given
  pub parts_are : parts ≡ map part given
  pub passed_are : now ≡ old ++ flat_map over given

module _ {A B P : Type 0} (read : A → Result B Fault) (part : B → P) (over : B → List Passed) (xs : List A) (old : List Passed) where
  pub progress_none : (parts : List P) → parts ≡ [] → Progress read part over xs 0 old old parts
  unfolding in_turn
  progress_none parts e = record { given = []; turns = refl; parts_are = e; passed_are = sym (append-nil old) }

  module _ (k : ℕ) (now : List Passed) (parts : List P) (p : Progress read part over xs k old now parts) (x : A) (at : slice_get xs k ≡ Some x) where
    pub progress_more : (new : List Passed) (more : List P) (b : B) → read x ≡ Ok b → new ≡ now ++ over b → more ≡ parts ++ part b ∷ [] → Progress read part over xs (k + 1) old new more
    progress_more new more b r e f = record {
      given = p.given ++ b ∷ [];
      turns = ap (each read) (taken_at xs k x at) ∙ in_turn-push (λ before. read) [] (take k xs) x p.given b p.turns r;
      parts_are = f ∙ (ap (λ (z : List P). z ++ part b ∷ []) p.parts_are ∙ sym (map-append part p.given (b ∷ [])));
      passed_are = e ∙ (ap (λ (z : List Passed). z ++ over b) p.passed_are ∙ (append_assoc old (flat_map over p.given) (over b)
          ∙ ap (λ (z : List Passed). old ++ z) (ap (λ (z : List Passed). flat_map over p.given ++ z) (sym (append-nil (over b))) ∙ sym (flat_map-append over p.given (b ∷ [])))));
    }

    pub progress_stops : {W : Type 0} (whole : List B → W) (g : Fault) → read x ≡ Err g → mapped whole (each read xs) ≡ Err g
    progress_stops whole g r =
        let parts : xs ≡ take k xs ++ x ∷ drop (k + 1) xs = sym (take-append-drop k xs) ∙ ap (λ (z : List A). take k xs ++ z) (drop_at xs k x at) in
        ap (mapped whole) (ap (each read) parts ∙ in_turn-fault (λ before. read) [] (take k xs) x (drop (k + 1) xs) p.given g p.turns r)

  pub progress_all : {W : Type 0} (whole : List B → W) (k : ℕ) (now : List Passed) (parts : List P) (p : Progress read part over xs k old now parts) → length xs ≤ k → mapped whole (each read xs) ≡ Ok (whole p.given)
  progress_all whole k now parts p le = ap (mapped whole) (ap (each read) (sym (take_all k xs le)) ∙ p.turns)

-- what three readers pass over, one behind the other
pub passed_thrice : (old a b c x y z : List Passed) → a ≡ old ++ x → b ≡ a ++ y → c ≡ b ++ z → c ≡ old ++ (x ++ (y ++ z))
passed_thrice old a b c x y z p q r =
    r ∙ (ap (λ l. l ++ z) (q ∙ ap (λ l. l ++ y) p) ∙ (append_assoc (old ++ x) y z ∙ append_assoc old x (y ++ z)))
