use Rattle.std.proofs.Common.{◌≡◌, ◌∙◌, ℕ, ◌/◌, ◌∷◌, [], ◌++◌, map, Ok, sym, ap, subst, arith}
use Rattle.std.specs.List.{range_with_len}
use Rattle.std.proofs.lemmas.Result.{err_from_is_err_and}
use Rattle.msg_model.specs.NameMap.{Given, NameEntry, name_entry, name_entries, given_by, pairs_of}
use Rattle.msg_nameid.specs.Drafts.{IsDraftOf}
use Rattle.msg_nameid.specs.Read.{streams_seen, entry_seen}
use Rattle.msg_nameid.proofs.DraftLaws.{read_none, read_more, read_stops, read_all}
use Rattle.msg_nameid.proofs.NameLaws.{fails_with}
use Rattle.msg_nameid.proofs.reading.read_entries.Goals as goal

pub loop-k-init : goal.loop-k-init
loop-k-init c = read_none (streams_seen c.args.streams) c.new-draft.result c.new-draft.ensures.whole c.new-draft.ensures.none

pub returns-in_err-add_entry : goal.returns-in_err-add_entry
returns-in_err-add_entry c =
    let p = err_from_is_err_and c.from_residual.result c.from_residual.ensures.1 in
    let s = streams_seen c.args.streams in
    let l = c.loop-k in
    let r = l.invariant in
    let n = c.len-k-end.result / 8 in
    let all : map (name_entry s.entries) (range_with_len 0 n) ≡ name_entries s.entries = ap (λ (m : ℕ). map (name_entry s.entries) (range_with_len 0 (m / 8))) c.len-k-end.ensures in
    let here : given_by s r.given (entry_seen c.entry_at-entry.result) ≡ given_by s r.given (name_entry s.entries l.k) = ap (given_by s r.given) c.entry_at-entry.ensures in
    rw (p.1, p.2) (fails_with c.in_err-add_entry.field-0.0 (given_by s r.given (entry_seen c.entry_at-entry.result)) (pairs_of s) (λ g h. read_stops s l.draft l.k n r g c.loop-k-test.true all (sym here ∙ h)) (c.in_err-add_entry.ensures.fault r.given r.draft))

pub loop-k-preserved : goal.loop-k-preserved
loop-k-preserved c =
    let s = streams_seen c.args.streams in
    let l = c.loop-k in
    let r = l.invariant in
    let new = c.add_entry.new.draft in
    read_more s l.draft new l.k r c.in_ok-add_entry.ensures.whole
    (subst (λ (e : NameEntry). (g : Given) × (given_by s r.given e ≡ Ok g) × IsDraftOf new (r.given ++ g ∷ [])) c.entry_at-entry.ensures (c.in_ok-add_entry.ensures.added r.given r.draft))

pub returns : goal.returns
returns c =
    let s = streams_seen c.args.streams in
    let l = c.loop-k in
    let last : l.k ≡ c.len-k-end.result / 8 = omega (arith, c.loop-k-test.false, l.auto.k-end) in
    let all : map (name_entry s.entries) (range_with_len 0 l.k) ≡ name_entries s.entries =
    ap (λ (m : ℕ). map (name_entry s.entries) (range_with_len 0 m)) last ∙ ap (λ (m : ℕ). map (name_entry s.entries) (range_with_len 0 (m / 8))) c.len-k-end.ensures in
    read_all s l.draft l.k l.invariant all ∙ ap Ok (sym c.from_draft.ensures)
