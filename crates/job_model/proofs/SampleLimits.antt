-- No sample passes a limit.
use Rattle.std.proofs.Common.{◌≡◌, ℕ, ◌≤◌, List, [], ◌++◌, length, refl, ap, ◌∙◌, None, arith}
use Rattle.std.specs.Prelude.{nat_lt, IsTrue}
use Rattle.std.specs.List.{flat_map}
use Rattle.std.proofs.lemmas.Bool.{le-ltb}
use Rattle.std.proofs.lemmas.Grind.{flat_map-append}
use Rattle.carrier_model.specs.Bytes.{MOST_BYTES}
use Rattle.carrier_model.specs.Layout.{MESSAGE_CLASS}
use Rattle.carrier_model.specs.Limits.{Limit, too_many_names, too_many_recipients, too_many_attachments, too_large, where_passed, passed_by, msg_limits, tnef_limits, first_limit}
use Rattle.carrier_model.specs.Sectors.{is_size}
use Rattle.carrier_model.specs.Totals.{capped, recipient_count, attachment_count}
use Rattle.carrier_model.specs.Tree.{Message, message, Attachments, no_more, attached, Body, nothing, embedded, stored, messages_in, messages_below, messages_in_body, names_of}
use Rattle.carrier_model.proofs.Sizes.{size_of}
use Rattle.job_model.specs.Commands.{to_tnef, wrap}
use Rattle.text_model.specs.SampleTrees.{GREATEST_SAMPLE}
use Rattle.text_model.specs.SampleTrees.{sample_tree}
use Rattle.job_model.specs.Targets.{passed_size, passed_limit}
use Rattle.job_model.proofs.LayoutSizes.{layout_few, streams_small}
use Rattle.job_model.proofs.SampleParts.{sample_is_tree, sample_few}
use Rattle.job_model.proofs.SampleSizes.{names_few, sample_load, sample_stream}
use Rattle.mail_model.specs.EnvelopeText.{envelope_of}
use Rattle.mail_model.proofs.EnvelopeText.{length-envelope_of}
use Rattle.msg_model.specs.ReadBack.{HasFewParts, HaveFewParts, BodyHasFewParts}
use Rattle.msg_model.specs.WrittenMsg.{files_of, msg_in}
use Rattle.msg_model.proofs.WrittenFits.{may_be_written}
use Rattle.tnef_model.specs.TnefCanonical.{tnef_of}

not_passed : (most n : ℕ) (limit : Limit) → n ≤ most → where_passed (nat_lt most n) limit ≡ []
not_passed most n limit le = ap (λ b. where_passed b limit) (le-ltb most n le)

-- few recipients and attachments in each message pass no limit
mutual
  parts_pass : (m : Message) → HasFewParts m → flat_map passed_by (messages_in m) ≡ []
  parts_pass (message props recipients attachments) h =
      let m : Message = message props recipients attachments in
      rw (not_passed 2048 (recipient_count m) (too_many_recipients (recipient_count m)) h.0, not_passed 2048 (attachment_count m) (too_many_attachments (attachment_count m)) h.1) (below_pass attachments h.2)

  below_pass : (a : Attachments) → HaveFewParts a → flat_map passed_by (messages_below a) ≡ []
  below_pass no_more h = refl
  below_pass (attached props body others) h = flat_map-append passed_by (messages_in_body body) (messages_below others) ∙ rw (body_pass body h.0, below_pass others h.1) refl

  body_pass : (body : Body) → BodyHasFewParts body → flat_map passed_by (messages_in_body body) ≡ []
  body_pass nothing h = refl
  body_pass (embedded inner) h = parts_pass inner h
  body_pass (stored store) h = refl

names_pass : (n : ℕ) → n ≤ GREATEST_SAMPLE → tnef_limits (sample_tree n) ≡ []
names_pass n few = not_passed 32000 (length (names_of (sample_tree n))) (too_many_names (length (names_of (sample_tree n)))) (omega (arith, names_few n, few))

size_passes : (w : List ℕ) → length w ≤ MOST_BYTES → passed_size w ≡ []
size_passes w le = not_passed MOST_BYTES (length w) (too_large (capped (length w))) le

-- ---- of each job

file_few : (z : ℕ) → IsTrue (is_size z) → (n : ℕ) → n ≤ GREATEST_SAMPLE → length (msg_in z (sample_tree n)) ≤ MOST_BYTES
file_few z size n few =
    let t : Message = sample_tree n in
    let load = sample_load n few in
    let may = may_be_written t (sample_is_tree n few) (omega (arith, names_few n, few)) (sample_few n) (streams_small (files_of t) (omega (arith, load))) in
    omega (arith, load, layout_few z (size_of z size) MESSAGE_CLASS (files_of t) refl may.1)

pub file_passes : (z : ℕ) → IsTrue (is_size z) → (n : ℕ) → n ≤ GREATEST_SAMPLE → first_limit (msg_limits (sample_tree n) ++ passed_size (msg_in z (sample_tree n))) ≡ None
file_passes z size n few = rw (names_pass n few, parts_pass (sample_tree n) (sample_few n), size_passes (msg_in z (sample_tree n)) (file_few z size n few)) refl

pub stream_passes : (n : ℕ) (b : List ℕ) → n ≤ GREATEST_SAMPLE → passed_limit to_tnef (sample_tree n) b ≡ None
stream_passes n b few = rw (names_pass n few, size_passes (tnef_of (sample_tree n)) (omega (arith, sample_stream n few))) refl

pub envelope_passes : (n : ℕ) (t : Message) → n ≤ GREATEST_SAMPLE → passed_limit wrap t (tnef_of (sample_tree n)) ≡ None
envelope_passes n t few = rw (size_passes (envelope_of (tnef_of (sample_tree n))) (omega (arith, sample_stream n few, length-envelope_of (tnef_of (sample_tree n))))) refl
