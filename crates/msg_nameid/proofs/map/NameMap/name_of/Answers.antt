use Rattle.std.proofs.Common.{◌≡◌, ◌∙◌, ℕ, ◌-◌, ◌<◌, List, get_or, length, map, refl, sym, ap, subst, arith}
use Rattle.std.specs.Prelude.{Some, None, slice_get}
use Rattle.std.proofs.lemmas.List.{length-map}
use Rattle.std.proofs.lemmas.Option.{slice_get_read}
use Rattle.carrier_model.specs.Keys.{IsName}
use Rattle.carrier_model.proofs.Elements.{all_got, view_got}
use Rattle.msg_model.specs.NameMap.{Pair, name_for}
use Rattle.prop_names.specs.Meaning.{name_of}
use Rattle.msg_nameid.specs.Maps.{pair_of}
use Rattle.msg_nameid.specs.Tables.{slot_at}
use Rattle.msg_nameid.specs.declared.slots.Slot.TheVariants.{Named}
use Rattle.msg_nameid.proofs.TableLaws.{named, placed_there}
use Rattle.msg_nameid.proofs.map.NameMap.name_of.Goals as goal

pub returns-then-id-lt32768-clause-name : goal.returns-then-id-lt32768-clause-name
returns-then-id-lt32768-clause-name c = sym (subst (λ (l : List Pair). name_for l c.args.id ≡ None) c.self.view_is (c.self.invariant.table.low c.args.id c.if-id-lt32768.true))

pub returns-in-Named-clause-name : goal.returns-in-Named-clause-name
returns-in-Named-clause-name c =
    let items = c.self.inside.entries.items in
    let pairs : List Pair = map pair_of items in
    let place = c.in-Named.place in
    let slot : slot_at c.self.inside.slots (c.args.id - 0x8000) ≡ Named place = sym c.get.ensures ∙ c.in-Named.is in
    let inside : place < length items = omega (arith, placed_there c.self.inside.slots pairs c.self.invariant.table (c.args.id - 0x8000) place slot, length-map items pair_of) in
    let at : slice_get items place ≡ Some c.index.result.now = slice_get_read items (length items) place c.index.result.now refl inside (c.index.ensures ∙ ap (λ (n : ℕ). get_or items n c.index.result.now) c.from.ensures) in
    sym (subst (λ (l : List Pair). name_for l c.args.id ≡ Some (name_of c.index.result.now.name)) c.self.view_is
    (named c.self.inside.slots pairs c.self.invariant.table c.args.id place (pair_of c.index.result.now) c.if-id-lt32768.false slot (view_got pair_of items place c.index.result.now at)))

pub returns-in-Named-clause-short : goal.returns-in-Named-clause-short
returns-in-Named-clause-short c =
    let items = c.self.inside.entries.items in
    let pairs : List Pair = map pair_of items in
    let place = c.in-Named.place in
    let slot : slot_at c.self.inside.slots (c.args.id - 0x8000) ≡ Named place = sym c.get.ensures ∙ c.in-Named.is in
    let inside : place < length items = omega (arith, placed_there c.self.inside.slots pairs c.self.invariant.table (c.args.id - 0x8000) place slot, length-map items pair_of) in
    let at : slice_get items place ≡ Some c.index.result.now = slice_get_read items (length items) place c.index.result.now refl inside (c.index.ensures ∙ ap (λ (n : ℕ). get_or items n c.index.result.now) c.from.ensures) in
    all_got IsName (λ (p : Pair). p.1) pairs place (pair_of c.index.result.now) c.self.invariant.names (view_got pair_of items place c.index.result.now at)
