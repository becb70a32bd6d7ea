use Rattle.std.proofs.Common.{◌≡◌, ℕ, true, subst, ◌∙◌}
use Rattle.std.proofs.lemmas.Result.{err_from_is_err_and}
use Rattle.carrier_model.specs.Kinds.{is_kind}
use Rattle.msg_model.specs.MsgValues.{kind_in}
use Rattle.msg_props.specs.Entries.{entry_of, streams_in, seen}
use Rattle.msg_props.proofs.KindNumbers.{is_kind_of}
use Rattle.msg_props.proofs.StoredForms.{prop_refused, prop_read}
use Rattle.prop_names.specs.Meaning.{key_of}
use Rattle.msg_props.proofs.items.prop.Goals as goal

pub returns-in_err-value-in-Some : goal.returns-in_err-value-in-Some
returns-in_err-value-in-Some c =
    let p = err_from_is_err_and c.from_residual-in_err-value-in-Some.result c.from_residual-in_err-value-in-Some.ensures.1 in
    let known : is_kind (kind_in (entry_of c.args.entry.now)) ≡ true = subst (λ (n : ℕ). is_kind n ≡ true) (c.in-Some.ensures.found ∙ c.kind.ensures) (is_kind_of c.in-Some.kind) in
    rw (p.1, p.2) (prop_refused c.args.names.now (streams_in c.args.files.now c.args.at) (entry_of c.args.entry.now) (key_of c.in_ok-key-in-Some.key) c.in_err-value-in-Some.field-0.0 known c.in_ok-key-in-Some.ensures.key c.in_err-value-in-Some.ensures.value)

pub returns-in_ok-value-in-Some : goal.returns-in_ok-value-in-Some
returns-in_ok-value-in-Some c =
    let known : is_kind (kind_in (entry_of c.args.entry.now)) ≡ true = subst (λ (n : ℕ). is_kind n ≡ true) (c.in-Some.ensures.found ∙ c.kind.ensures) (is_kind_of c.in-Some.kind) in
    prop_read c.args.names.now (streams_in c.args.files.now c.args.at) (entry_of c.args.entry.now) (key_of c.in_ok-key-in-Some.key) (seen c.in_ok-value-in-Some.value) known c.in_ok-key-in-Some.ensures.key c.in_ok-value-in-Some.ensures.value
