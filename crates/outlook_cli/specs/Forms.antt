-- The forms of a sample.
use Rattle.std.specs.Prelude.{◌≡◌, ℕ}
use Rattle.mail_model.specs.EnvelopeText.{envelope_of}
use Rattle.msg_model.specs.WrittenMsg.{msg_of}
use Rattle.text_model.specs.SampleTrees.{sample_tree}
use Rattle.tnef_model.specs.TnefCanonical.{tnef_of}
use Rattle.translate_core.specs.declared.trips.Trip.{Trip}

pub record AreForms (n : ℕ) (trip : Trip) : Type 0 where
  pub tnef : trip.tnef.items ≡ tnef_of (sample_tree n)
  pub envelope : trip.envelope.items ≡ envelope_of (tnef_of (sample_tree n))
  pub msg : trip.msg.items ≡ msg_of (sample_tree n)
