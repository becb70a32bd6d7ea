-- What a reader of a stream has shown, from what it found behind the head.
use Rattle.std.proofs.Common.{◌≡◌, ℕ, ◌+◌, List, [], drop, Some, None, Result, Ok, Err, subst, inl, inr}
use Rattle.std.specs.Prelude.{IfOk, IfErr}
use Rattle.carrier_io.specs.declared.reasons.Stop.{Stop}
use Rattle.carrier_io.specs.declared.reasons.Stop.TheVariants as stops
use Rattle.carrier_io.specs.Reasons.{fault_of}
use Rattle.carrier_io.specs.Reads.{FaultOnly, Reads, OnFault}
use Rattle.carrier_io.proofs.Sides.{reads_ok, reads_fault}
use Rattle.carrier_model.specs.Bytes.{AllBytes}
use Rattle.carrier_model.specs.Trail.{Fault, first_fault}
use Rattle.carrier_model.specs.Items.{Spells}
use Rattle.tnef_model.specs.Attributes.{Attr, attrs, Attrs, AttrsFault, BodyFault, head_tests}
use Rattle.tnef_model.proofs.Stream.{attrs_exact, from_parts}

-- the head passes, and a reader of what is behind it has answered
pub stream_reads : {Y : Type 0} (view : Y → List Attr) (r : Result Y Stop) (at : ℕ) (bytes body : List ℕ) → AllBytes bytes → first_fault (head_tests at bytes) ≡ None → body ≡ drop 6 bytes
    → IfOk r (λ v. Spells attrs (at + 6) body (view v) []) → IfErr r (OnFault (BodyFault (at + 6) body)) → Reads view r (Attrs at bytes) (AttrsFault at bytes)
stream_reads view (Ok y) at bytes body fits head e ok err =
    let spelled : Spells attrs (at + 6) (drop 6 bytes) (view y) [] = subst (λ (z : List ℕ). Spells attrs (at + 6) z (view y) []) e ok in
    let exact = attrs_exact at bytes in
    reads_ok (Attrs at bytes) (AttrsFault at bytes) (view y) exact.one exact.apart (from_parts at bytes (view y) fits (record { head = head; spelled = spelled }))
stream_reads view (Err (stops.Fault g)) at bytes body fits head e ok err =
    let exact = attrs_exact at bytes in
    reads_fault (Attrs at bytes) (AttrsFault at bytes) (fault_of g) exact.single exact.apart (inr (head, subst (λ (z : List ℕ). BodyFault (at + 6) z (fault_of g)) e err))
stream_reads view (Err stops.NoMemory) at bytes body fits head e ok err = tt

pub head_reads : (at : ℕ) (bytes : List ℕ) (g : Fault) → first_fault (head_tests at bytes) ≡ Some g → FaultOnly (Attrs at bytes) (AttrsFault at bytes) g
head_reads at bytes g e = let exact = attrs_exact at bytes in reads_fault (Attrs at bytes) (AttrsFault at bytes) g exact.single exact.apart (inl e)
