use Rattle.std.proofs.Common.{◌≡◌, ℕ, true, List, Some, None, sym, ap, subst, ◌∙◌}
use Rattle.std.specs.Option.{option_map}
use Rattle.std.specs.Str.{IsAscii}
use Rattle.carrier_model.specs.Kinds.{without_null}
use Rattle.cfb_sectors.specs.Seen.{bytes_of, stream}
use Rattle.msg_model.specs.MsgValues.{fits_kind}
use Rattle.msg_model.specs.StreamNames.{element_name}
use Rattle.msg_props.specs.Entries.{streams_in}
use Rattle.msg_props.proofs.NameForms.{element_ascii}
use Rattle.msg_props.proofs.PieceForms.{view_small}
use Rattle.msg_props.proofs.ValueForms.{element_there, element_empty, element_missing}
use Rattle.prop_values.specs.Kinds.{kind_number}
use Rattle.msg_props.proofs.elements.element.Goals as goal

pub stream_of-requires-clause-ascii : goal.stream_of-requires-clause-ascii
stream_of-requires-clause-ascii c = subst IsAscii (sym c.element_name-name.ensures) (element_ascii c.args.tag c.args.k)

pub bad_element-requires-clause-ascii : goal.bad_element-requires-clause-ascii
bad_element-requires-clause-ascii c = subst IsAscii (sym c.element_name-name.ensures) (element_ascii c.args.tag c.args.k)

pub returns-in_ok-cut_null-in-Some-clause-found : goal.returns-in_ok-cut_null-in-Some-clause-found
returns-in_ok-cut_null-in-Some-clause-found c =
    let view = c.in-Some.view.now in
    let here : Some (stream view) ≡ option_map (λ f. f.stream) (streams_in c.args.files.now c.args.at (element_name c.args.tag c.args.k)) =
    subst (λ (n : List ℕ). Some (stream view) ≡ option_map (λ f. f.stream) (streams_in c.args.files.now c.args.at n)) c.element_name-name.ensures c.in-Some.ensures in
    element_there (kind_number c.args.single) c.args.size (streams_in c.args.files.now c.args.at (element_name c.args.tag c.args.k)) c.requires.single view c.in_ok-cut_null-in-Some.field-0 here
    (subst (λ (n : ℕ). fits_kind (kind_number c.args.single) n ≡ true) c.len.ensures (sym c.fits_bytes.ensures ∙ c.if-not-fits_bytes.false))
    (c.in_ok-cut_null-in-Some.ensures ∙ ap (λ (n : ℕ). without_null n (bytes_of view)) c.null_size.ensures)
    (view_small view)

pub returns-then-is_empty_size-clause-found : goal.returns-then-is_empty_size-clause-found
returns-then-is_empty_size-clause-found c =
    let here : None ≡ option_map (λ f. f.stream) (streams_in c.args.files.now c.args.at (element_name c.args.tag c.args.k)) =
    subst (λ (n : List ℕ). None ≡ option_map (λ f. f.stream) (streams_in c.args.files.now c.args.at n)) c.element_name-name.ensures c.in-None.ensures in
    element_empty (kind_number c.args.single) c.args.size (streams_in c.args.files.now c.args.at (element_name c.args.tag c.args.k)) c.requires.single c.empty.result here (sym c.is_empty_size.ensures ∙ c.if-is_empty_size.true) c.empty.ensures.bytes

pub returns-else-is_empty_size-clause-found : goal.returns-else-is_empty_size-clause-found
returns-else-is_empty_size-clause-found c =
    let here : None ≡ option_map (λ f. f.stream) (streams_in c.args.files.now c.args.at (element_name c.args.tag c.args.k)) =
    subst (λ (n : List ℕ). None ≡ option_map (λ f. f.stream) (streams_in c.args.files.now c.args.at n)) c.element_name-name.ensures c.in-None.ensures in
    element_missing (kind_number c.args.single) c.args.size (streams_in c.args.files.now c.args.at (element_name c.args.tag c.args.k)) c.requires.single here (sym c.is_empty_size.ensures ∙ c.if-is_empty_size.false)
