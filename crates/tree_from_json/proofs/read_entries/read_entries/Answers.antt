use Rattle.std.proofs.Common.{◌∙◌, refl, sym, ap, subst, arith, Vec, Global, List, [], Option}
use Rattle.std.specs.Prelude.{Result, Ok, Err, map}
use Rattle.std.proofs.lemmas.Result.{err_from_is_err_and}
use Rattle.json_values.specs.View.{view, items_view}
use Rattle.json_model.specs.Faults.{◌>>=◌, mapped}
use Rattle.json_model.specs.Parts.{in_turn}
use Rattle.json_model.specs.StoreForms.{read_entries, read_next_entry}
use Rattle.json_model.specs.StoreForms as plain
use Rattle.tree_from_json.specs.Ends.{Reads}
use Rattle.tree_from_json.specs.Entries.{entry_of, placed_of, shortened}
use Rattle.tree_from_json.specs.declared.entries.Entry.{Entry}
use Rattle.tree_from_json.specs.declared.entries.Placed.{Placed}
use Rattle.tree_from_json.specs.declared.read_ends.ReadEnd.{ReadEnd}
use Rattle.tree_from_json.proofs.EntryLists.{held_more, held_err, held_all, whole}
use Rattle.tree_from_json.proofs.Reading.{mapped_err}
use Rattle.tree_from_json.proofs.Turns.{array_err}
use Rattle.tree_from_json.proofs.read_entries.read_entries.Goals as goal

abbrev kept_of : Vec Placed Global → List plain.Entry
kept_of v = map placed_of v.items

pub loop-k-preserved : goal.loop-k-preserved
loop-k-preserved c =
    let read = subst (λ (last : Option Entry). Reads entry_of (read_next_entry (whole last) (view c.index-values-k.result)) c.read_next.result) c.as_ref.ensures.value c.read_next.ensures in
    held_more c.loop-k.kept.items c.keep.new.kept.items c.loop-k.last c.in_ok-entry.entry c.loop-k.k c.unboxed-values.result.now c.index-values-k.result c.read_next.result (omega (arith, c.loop-k-test.true)) c.index-values-k.is read c.in_ok-entry.ensures c.in_ok-keep.ensures c.loop-k.invariant

pub returns-in_err-entry : goal.returns-in_err-entry
returns-in_err-entry c =
    let p = err_from_is_err_and c.from_residual-in_err-entry.result c.from_residual-in_err-entry.ensures.1 in
    let e = c.in_err-entry.field-0.0 in
    let v = view c.args.value.now in
    let read = subst (λ (last : Option Entry). Reads entry_of (read_next_entry (whole last) (view c.index-values-k.result)) c.read_next.result) c.as_ref.ensures.value c.read_next.ensures in
    let found = c.in_ok-items.ensures ∙ ap (λ l. Ok (items_view l)) (sym c.unboxed-values.ensures) in
    let turn = held_err c.loop-k.kept.items c.loop-k.last c.loop-k.k c.unboxed-values.result.now c.index-values-k.result c.read_next.result e (omega (arith, c.loop-k-test.true)) c.index-values-k.is read c.in_err-entry.ensures c.loop-k.invariant in
    let plainly = array_err (λ (es : List plain.Entry). es) read_next_entry v _ e (Err e) found refl turn in
    subst (λ (r : Result (Vec Placed Global) ReadEnd). Reads kept_of (mapped (map shortened) (read_entries v)) r) (sym (p.1 ∙ ap Err p.2)) (mapped_err (λ (es : List plain.Entry). es) kept_of (map shortened) (read_entries v) e plainly)

pub returns : goal.returns
returns c =
    let found = c.in_ok-items.ensures ∙ ap (λ l. Ok (items_view l)) (sym c.unboxed-values.ensures) in
    ap (λ m. mapped (map shortened) (m >>= in_turn read_next_entry [])) found
    ∙ held_all c.loop-k.kept.items c.keep-2.new.kept.items c.loop-k.last c.loop-k.k c.unboxed-values.result.now (omega (arith, c.loop-k-test.false, c.loop-k.auto.k-end)) c.in_ok-keep-2.ensures c.loop-k.invariant
