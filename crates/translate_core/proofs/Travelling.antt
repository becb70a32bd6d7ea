-- How the steps of a trip make the trip.
use Rattle.std.proofs.Common.{◌≡◌, ◌≢◌, ℕ, ◌≤◌, List, length, Some, None, Err, refl, sym, ap, subst, ◌∙◌}
use Rattle.carrier_model.specs.Bytes.{AllBytes, MOST_BYTES}
use Rattle.carrier_model.specs.Meanings.{Meaning}
use Rattle.job_model.specs.Acceptance.{Accepts, kept}
use Rattle.job_model.specs.Commands.{Job, to_msg, to_tnef, wrap, unwrap}
use Rattle.job_model.specs.Targets.{passed_limit}
use Rattle.job_model.proofs.TakenOn.{stream_within, mail_within}
use Rattle.mail_model.specs.Envelope.{Envelope}
use Rattle.mail_model.specs.EnvelopeText.{envelope_of}
use Rattle.msg_model.specs.WrittenMsg.{msg_of}
use Rattle.msg_tree.specs.Limiting.{limit_of}
use Rattle.tnef_model.specs.TnefCanonical.{tnef_of}
use Rattle.translate_core.specs.Trips.{Made, TellsStep, TellsTrip, Travelled}
use Rattle.translate_core.specs.declared.trips.Trip.{Trip}
use Rattle.translate_core.specs.declared.trips.TripEnd.{TripEnd}
use Rattle.translate_core.specs.declared.trips.TripEnd.TheVariants.{Refused, Unfit, NoMemory}

-- what laws say: no job refuses what another one wrote for it, and a mail gives back what it carries
abbrev pub StreamsTaken : Type 0
StreamsTaken = (next : Job) (b : List ℕ) (m : Meaning) → next ≢ unwrap → AllBytes b → Accepts to_tnef b m → passed_limit to_tnef m.message b ≡ None → Accepts next (tnef_of m.message) (kept to_tnef m)

abbrev pub MailsTaken : Type 0
MailsTaken = (b : List ℕ) (m : Meaning) → AllBytes b → Accepts wrap b m → passed_limit wrap m.message b ≡ None → Accepts unwrap (envelope_of b) m

abbrev pub GivenBack : Type 0
GivenBack = (b other : List ℕ) → AllBytes b → Envelope (envelope_of b) other → other ≡ b

-- ---- the first step

pub first_ends : (b : List ℕ) (e : TripEnd) → TellsStep 1 to_tnef b (Err e) → TellsTrip b (Err e)
first_ends b (Refused g) h = h
first_ends b (Unfit step limit) h = record { m = h.1.m; accepted = h.1.accepted; passes = rw (h.1.passes, h.0) refl }
first_ends b NoMemory h = tt

pub stream_short : (b v : List ℕ) → Made to_tnef b v → length v ≤ MOST_BYTES
stream_short b v one = rw one.is (stream_within one.m.message b one.fits)

-- the stream is taken by each job but the one that takes mails
taken_after : StreamsTaken → (next : Job) (b v : List ℕ) (one : Made to_tnef b v) → next ≢ unwrap → AllBytes b → Accepts next v (kept to_tnef one.m)
taken_after taken next b v one other all = subst (λ k. Accepts next k (kept to_tnef one.m)) (sym one.is) (taken next b one.m other all one.accepted.found one.fits)

-- ---- the second

wrap_is_other : wrap ≢ unwrap
wrap_is_other e = cc

to_msg_is_other : to_msg ≢ unwrap
to_msg_is_other e = cc

pub second_ends : StreamsTaken → (b v : List ℕ) (e : TripEnd) → AllBytes b → Made to_tnef b v → TellsStep 2 wrap v (Err e) → TellsTrip b (Err e)
second_ends taken b v (Refused g) all one h = absurd (h.meaningless (kept to_tnef one.m) (taken_after taken wrap b v one wrap_is_other all))
second_ends taken b v (Unfit step limit) all one h =
    let passes : passed_limit wrap one.m.message (tnef_of one.m.message) ≡ Some (limit_of limit) = subst (λ k. passed_limit wrap one.m.message k ≡ Some (limit_of limit)) one.is h.1.passes in
    record { m = one.m; accepted = one.accepted; passes = rw (one.fits, passes, h.0) refl }
second_ends taken b v NoMemory all one h = tt

pub mail_short : (v w : List ℕ) → Made wrap v w → length w ≤ MOST_BYTES
mail_short v w two = rw two.is (mail_within two.m.message v two.fits)

mail_fits : (b v w : List ℕ) (one : Made to_tnef b v) → Made wrap v w → passed_limit wrap one.m.message (tnef_of one.m.message) ≡ None
mail_fits b v w one two = subst (λ k. passed_limit wrap one.m.message k ≡ None) one.is two.fits

-- ---- the third

pub third_ends : MailsTaken → (b v w : List ℕ) (e : TripEnd) → AllBytes v → Made wrap v w → TellsStep 3 unwrap w (Err e) → TellsTrip b (Err e)
third_ends taken b v w (Refused g) all two h = absurd (h.meaningless two.m (subst (λ k. Accepts unwrap k two.m) (sym two.is) (taken v two.m all two.accepted.found two.fits)))
third_ends taken b v w (Unfit step limit) all two h = let p : None ≡ Some (limit_of limit) = h.1.passes in absurd cc
third_ends taken b v w NoMemory all two h = tt

pub given_back : GivenBack → (v w x : List ℕ) → AllBytes v → Made wrap v w → Made unwrap w x → x ≡ v
given_back back v w x all two three = back v x all (subst (λ k. Envelope k x) two.is three.is)

-- ---- the fourth

pub fourth_ends : StreamsTaken → (b v w x : List ℕ) (e : TripEnd) → AllBytes b → Made to_tnef b v → Made wrap v w → x ≡ v → TellsStep 4 to_msg x (Err e) → TellsTrip b (Err e)
fourth_ends taken b v w x (Refused g) all one two same h = absurd (h.meaningless (kept to_tnef one.m) (subst (λ k. Accepts to_msg k (kept to_tnef one.m)) (sym same) (taken_after taken to_msg b v one to_msg_is_other all)))
fourth_ends taken b v w x (Unfit step limit) all one two same h =
    let means : Accepts to_msg x (kept to_tnef one.m) = subst (λ k. Accepts to_msg k (kept to_tnef one.m)) (sym same) (taken_after taken to_msg b v one to_msg_is_other all) in
    let message : one.m.message ≡ h.1.m.message = ap (λ (m : Meaning). m.message) (h.1.accepted.only (kept to_tnef one.m) means) in
    let passes : passed_limit to_msg one.m.message (tnef_of one.m.message) ≡ Some (limit_of limit) = subst (λ t. passed_limit to_msg t x ≡ Some (limit_of limit)) (sym message) h.1.passes in
    record { m = one.m; accepted = one.accepted; passes = rw (one.fits, mail_fits b v w one two, passes, h.0) refl }
fourth_ends taken b v w x NoMemory all one two same h = tt

pub arrived : StreamsTaken → (b : List ℕ) (trip : Trip) → AllBytes b → Made to_tnef b trip.tnef.items → Made wrap trip.tnef.items trip.envelope.items → trip.carried.items ≡ trip.tnef.items → Made to_msg trip.carried.items trip.msg.items → Travelled b trip
arrived taken b trip all one two same four =
    let means : Accepts to_msg trip.carried.items (kept to_tnef one.m) = subst (λ k. Accepts to_msg k (kept to_tnef one.m)) (sym same) (taken_after taken to_msg b trip.tnef.items one to_msg_is_other all) in
    let message : one.m.message ≡ four.m.message = ap (λ (m : Meaning). m.message) (four.accepted.only (kept to_tnef one.m) means) in
    let fits : passed_limit to_msg one.m.message (tnef_of one.m.message) ≡ None = subst (λ t. passed_limit to_msg t trip.carried.items ≡ None) (sym message) four.fits in
    record {
      m = one.m;
      accepted = one.accepted;
      fits = rw (one.fits, mail_fits b trip.tnef.items trip.envelope.items one two, fits) refl;
      tnef = one.is;
      envelope = two.is;
      carried = same;
      msg = four.is ∙ ap msg_of (sym message);
    }
