use Rattle.std.proofs.Common.{◌≡◌, ℕ, true, false, List, None, Some, length, ap, sym, subst, ◌∙◌}
use Rattle.std.specs.Option.{option_map}
use Rattle.carrier_io.specs.Reads.{Gives}
use Rattle.carrier_model.specs.Lookups.{size_place_at}
use Rattle.carrier_model.specs.Reasons.{BAD_ELEMENT}
use Rattle.cfb_sectors.specs.Seen.{bytes_of, stream}
use Rattle.msg_model.specs.MsgValues.{fits_kind, streamed_value}
use Rattle.msg_model.specs.StreamNames.{value_name}
use Rattle.msg_props.specs.Entries.{entry_of, streams_in, seen}
use Rattle.msg_props.proofs.StoredForms.{may_be_absent, stored_some, stored_bad, stored_empty, the_err}
use Rattle.prop_values.specs.Kinds.{kind_number}
use Rattle.msg_props.proofs.stored.stored_value.Goals as goal

pub returns-then-not-fits-clause-value : goal.returns-then-not-fits-clause-value
returns-then-not-fits-clause-value c =
    let streams = streams_in c.args.files.now c.args.at in
    let e = entry_of c.args.entry.now in
    let view = c.in-Some.view.now in
    let o = streams (value_name c.args.entry.now.tag) in
    let here : Some (stream view) ≡ option_map (λ f. f.stream) o = subst (λ (n : List ℕ). Some (stream view) ≡ option_map (λ f. f.stream) (streams n)) c.value_name-name.ensures.name c.in-Some.ensures in
    let unfit : fits_kind (kind_number c.args.kind) (length (bytes_of view)) ≡ false = subst (λ (n : ℕ). fits_kind (kind_number c.args.kind) n ≡ false) c.len.ensures (sym c.fits.ensures ∙ c.if-not-fits.true) in
    stored_bad streams e o (stream view) here (subst (λ (n : ℕ). fits_kind n (length (bytes_of view)) ≡ false) c.requires.kind unfit)
    ∙ sym (ap the_err (c.bad_element.ensures ∙ ap (λ (n : List ℕ). (BAD_ELEMENT, size_place_at (streams n))) c.value_name-name.ensures.name))

pub returns-else-not-fits-clause-value : goal.returns-else-not-fits-clause-value
returns-else-not-fits-clause-value c =
    let streams = streams_in c.args.files.now c.args.at in
    let e = entry_of c.args.entry.now in
    let view = c.in-Some.view.now in
    let o = streams (value_name c.args.entry.now.tag) in
    let here : Some (stream view) ≡ option_map (λ f. f.stream) o = subst (λ (n : List ℕ). Some (stream view) ≡ option_map (λ f. f.stream) (streams n)) c.value_name-name.ensures.name c.in-Some.ensures in
    let fit : fits_kind (kind_number c.args.kind) (length (bytes_of view)) ≡ true = subst (λ (n : ℕ). fits_kind (kind_number c.args.kind) n ≡ true) c.len.ensures (sym c.fits.ensures ∙ c.if-not-fits.false) in
    subst (Gives seen c.streamed_value.result) (sym (stored_some streams e o (stream view) here (subst (λ (n : ℕ). fits_kind n (length (bytes_of view)) ≡ true) c.requires.kind fit))) c.streamed_value.ensures.value

pub returns-else-not-may_be_absent-clause-value : goal.returns-else-not-may_be_absent-clause-value
returns-else-not-may_be_absent-clause-value c =
    let streams = streams_in c.args.files.now c.args.at in
    let e = entry_of c.args.entry.now in
    let o = streams (value_name c.args.entry.now.tag) in
    let here : None ≡ option_map (λ f. f.stream) o = subst (λ (n : List ℕ). None ≡ option_map (λ f. f.stream) (streams n)) c.value_name-name.ensures.name c.in-None.ensures in
    let absent : may_be_absent e ≡ true = sym c.may_be_absent.ensures ∙ c.if-not-may_be_absent.false in
    let empty = subst (λ (x : List ℕ). Gives seen c.streamed_value-in-None.result (streamed_value streams e x)) c.empty-empty.ensures.bytes c.streamed_value-in-None.ensures.value in
    subst (Gives seen c.streamed_value-in-None.result) (sym (stored_empty streams e o here absent)) empty
