use Rattle.std.proofs.Common.{◌≡◌, ◌∙◌, true, false, sym, ap, map}
use Rattle.std.specs.Prelude.{Ok}
use Rattle.std.specs.List.{list_all}
use Rattle.json_values.specs.View.{view}
use Rattle.json_model.specs.Digits.{read_guid}
use Rattle.json_model.specs.Faults.{mapped}
use Rattle.json_model.specs.Parts.{has_members}
use Rattle.json_model.specs.StoreForms.{STORE, is_fit, read_entries}
use Rattle.prop_names.specs.declared.Guid.{Guid}
use Rattle.tree_from_json.specs.Entries.{placed_of, shortened}
use Rattle.tree_from_json.proofs.Reading.{under_ok}
use Rattle.tree_from_json.proofs.SomeNames.{short_read, unfit_read}
use Rattle.tree_from_json.proofs.read_stores.read_store.Goals as goal

pub returns-then-not-are_fit : goal.returns-then-not-are_fit
returns-then-not-are_fit c =
    let v = view c.args.value.now in
    let a = view c.in_ok-class.class.now in
    let b = view c.in_ok-list.list.now in
    let es = map placed_of c.in_ok-entries.entries.items in
    let has : has_members STORE v ≡ true = sym c.has_members.ensures ∙ c.if-not-has_members.false in
    let is = under_ok (λ (g : Guid). g.0) (read_guid a) 0 c.read_guid.result c.in_ok-class-2.class c.read_guid.ensures c.in_ok-class-2.ensures in
    let are = under_ok (λ entries. map placed_of entries.items) (mapped (map shortened) (read_entries b)) 1 c.read_entries.result c.in_ok-entries.entries c.read_entries.ensures c.in_ok-entries.ensures in
    let unfit : list_all is_fit es ≡ false = ap (λ xs. list_all is_fit (map placed_of xs)) (sym c.deref.ensures.value) ∙ (sym c.are_fit.ensures ∙ c.if-not-are_fit.true) in
    rw c.fault_here-then-not-are_fit.ensures (unfit_read v a b c.in_ok-class-2.class.0 es has c.in_ok-class.ensures is c.in_ok-list.ensures are unfit)

pub returns : goal.returns
returns c =
    let v = view c.args.value.now in
    let a = view c.in_ok-class.class.now in
    let b = view c.in_ok-list.list.now in
    let es = map placed_of c.in_ok-entries.entries.items in
    let has : has_members STORE v ≡ true = sym c.has_members.ensures ∙ c.if-not-has_members.false in
    let is = under_ok (λ (g : Guid). g.0) (read_guid a) 0 c.read_guid.result c.in_ok-class-2.class c.read_guid.ensures c.in_ok-class-2.ensures in
    let are = under_ok (λ entries. map placed_of entries.items) (mapped (map shortened) (read_entries b)) 1 c.read_entries.result c.in_ok-entries.entries c.read_entries.ensures c.in_ok-entries.ensures in
    let fit : list_all is_fit es ≡ true = ap (λ xs. list_all is_fit (map placed_of xs)) (sym c.deref.ensures.value) ∙ (sym c.are_fit.ensures ∙ c.if-not-are_fit.false) in
    short_read v a b c.in_ok-class-2.class.0 es has c.in_ok-class.ensures is c.in_ok-list.ensures are fit ∙ ap Ok (sym c.in_ok-built.ensures)
