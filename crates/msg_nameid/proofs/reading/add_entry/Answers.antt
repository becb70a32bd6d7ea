use Rattle.std.proofs.Common.{◌≡◌, ◌∙◌, ℕ, ◌+◌, true, false, [], ◌∷◌, ◌++◌, Ok, sym, ap, subst, arith}
use Rattle.std.specs.Prelude.{◌||◌, nat_eq, Option, Some, None}
use Rattle.std.specs.Option.{option_map}
use Rattle.std.proofs.lemmas.List.{append-nil}
use Rattle.std.proofs.lemmas.Result.{err_from_is_err_and}
use Rattle.carrier_io.specs.declared.reasons.Stop.{Stop}
use Rattle.carrier_io.specs.Reads.{Fails}
use Rattle.carrier_model.specs.Chains.{member}
use Rattle.carrier_model.specs.Keys.{Name}
use Rattle.msg_model.specs.NameMap.{named_by, given_by, property_index}
use Rattle.prop_names.specs.Meaning.{name_of}
use Rattle.prop_names.specs.declared.names.Name as rust
use Rattle.msg_nameid.specs.Drafts.{pairs_in}
use Rattle.msg_nameid.specs.Read.{streams_seen, entry_seen}
use Rattle.msg_nameid.specs.Tables.{slot_at, is_taken}
use Rattle.msg_nameid.proofs.DraftLaws.{indexes, index_fails, double_fails, name_fails, name_gives, draft_more}
use Rattle.msg_nameid.proofs.NameLaws.{fails_with}
use Rattle.msg_nameid.proofs.reading.add_entry.Goals as goal

pub returns-then-index-gt32767-clause-fault : goal.returns-then-index-gt32767-clause-fault
returns-then-index-gt32767-clause-fault c given d =
    let s = streams_seen c.args.streams in
    let e = entry_seen c.args.entry in
    subst (λ (stop : Stop). Fails stop (given_by s given e)) (sym c.fault_at.ensures) (index_fails s given e (omega (arith, c.property_index-index.ensures, c.if-index-gt32767.true)))

pub returns-then-has-clause-fault : goal.returns-then-has-clause-fault
returns-then-has-clause-fault c given d =
    let s = streams_seen c.args.streams in
    let e = entry_seen c.args.entry in
    let double : member (property_index e) (indexes given) ≡ true =
    ap (λ (n : ℕ). member n (indexes given)) (sym c.property_index-index.ensures) ∙ (sym (d.taken c.property_index-index.result) ∙ (sym c.has.ensures ∙ c.if-has.true)) in
    subst (λ (stop : Stop). Fails stop (given_by s given e)) (sym c.fault_at-then-has.ensures) (double_fails s given e (omega (arith, c.property_index-index.ensures, c.if-index-gt32767.false)) double)

pub returns-in_err-name-clause-fault : goal.returns-in_err-name-clause-fault
returns-in_err-name-clause-fault c =
    let p = err_from_is_err_and c.from_residual.result c.from_residual.ensures.1 in
    let s = streams_seen c.args.streams in
    let e = entry_seen c.args.entry in
    rw (p.1, p.2) (λ given d.
    let new : member (property_index e) (indexes given) ≡ false =
    ap (λ (n : ℕ). member n (indexes given)) (sym c.property_index-index.ensures) ∙ (sym (d.taken c.property_index-index.result) ∙ (sym c.has.ensures ∙ c.if-has.false)) in
    fails_with c.in_err-name.field-0.0 (named_by s e) (given_by s given e) (name_fails s given e (omega (arith, c.property_index-index.ensures, c.if-index-gt32767.false)) new) c.in_err-name.ensures.answer)

pub returns-in_ok-add_name-in-Some-clause-added : goal.returns-in_ok-add_name-in-Some-clause-added
returns-in_ok-add_name-in-Some-clause-added c given d =
    let s = streams_seen c.args.streams in
    let e = entry_seen c.args.entry in
    let old = c.args.draft.now in
    let index : c.property_index-index.result ≡ property_index e = c.property_index-index.ensures in
    let name : Name = name_of c.in-Some.name in
    let new : member (property_index e) (indexes given) ≡ false =
    ap (λ (n : ℕ). member n (indexes given)) (sym index) ∙ (sym (d.taken c.property_index-index.result) ∙ (sym c.has.ensures ∙ c.if-has.false)) in
    let named : named_by s e ≡ Ok (Some name) = c.in_ok-name.ensures.answer ∙ ap (λ (o : Option rust.Name). Ok (option_map name_of o)) c.in-Some.is in (
      record { index = property_index e; name = Some name },
      name_gives s given e (omega (arith, index, c.if-index-gt32767.false)) new (Some name) named,
      draft_more old c.add_name.new.self given (record { index = property_index e; name = Some name }) d
          (c.in_ok-add_name-in-Some.ensures.pairs ∙ ap (λ (n : ℕ). pairs_in old ++ (0x8000 + n, name) ∷ []) index)
          (λ k. c.in_ok-add_name-in-Some.ensures.taken k ∙ ap (λ (n : ℕ). nat_eq k n || is_taken (slot_at old.slots k)) index),
    )

pub returns-in_ok-add_nameless-in-None-clause-added : goal.returns-in_ok-add_nameless-in-None-clause-added
returns-in_ok-add_nameless-in-None-clause-added c given d =
    let s = streams_seen c.args.streams in
    let e = entry_seen c.args.entry in
    let old = c.args.draft.now in
    let index : c.property_index-index.result ≡ property_index e = c.property_index-index.ensures in
    let new : member (property_index e) (indexes given) ≡ false =
    ap (λ (n : ℕ). member n (indexes given)) (sym index) ∙ (sym (d.taken c.property_index-index.result) ∙ (sym c.has.ensures ∙ c.if-has.false)) in
    let named : named_by s e ≡ Ok None = c.in_ok-name.ensures.answer ∙ ap (λ (o : Option rust.Name). Ok (option_map name_of o)) c.in-None.is in (
      record { index = property_index e; name = None },
      name_gives s given e (omega (arith, index, c.if-index-gt32767.false)) new None named,
      draft_more old c.add_nameless.new.self given (record { index = property_index e; name = None }) d
          (c.in_ok-add_nameless-in-None.ensures.pairs ∙ sym (append-nil (pairs_in old)))
          (λ k. c.in_ok-add_nameless-in-None.ensures.taken k ∙ ap (λ (n : ℕ). nat_eq k n || is_taken (slot_at old.slots k)) index),
    )
