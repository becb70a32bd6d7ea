use Rattle.std.proofs.Common.{◌≡◌, ◌<◌, [], length, map, get_or, sym, ◌∙◌, ap, arith}
use Rattle.std.specs.Option.{option_map}
use Rattle.std.specs.Prelude.{vec_len}
use Rattle.std.proofs.lemmas.List.{get_or-map, length-map}
use Rattle.cfb_directory.specs.Families.{kids_of, names_of, family_at}
use Rattle.cfb_directory.specs.Found.{storage_seen}
use Rattle.carrier_model.specs.Links.{is_storage}
use Rattle.cfb_sectors.specs.States.{entry_of}
use Rattle.cfb_directory.specs.Named.{name_at}
use Rattle.cfb_directory.specs.Walks.{directory_of}
use Rattle.cfb_directory.specs.Shown.{table_in}
use Rattle.cfb_directory.proofs.LookupLaws.{names_are, there_if, pick_seen, child_past, child_there, child_inside, same_child}
use Rattle.cfb_directory.proofs.files.Files.child.Goals as goal

pub returns-in_err-entry-clause-found : goal.returns-in_err-entry-clause-found
returns-in_err-entry-clause-found c =
    let f = c.args.self.now in
    let at = c.args.at.entry in
    let there : at < length f.families.items = omega (arith, f.families.ok.0, c.requires) in
    let fam : c.children.result.now ≡ family_at f.families.items at = c.children.ensures ∙ (ap kids_of c.index-family.ensures ∙ sym (get_or-map kids_of f.families.items at c.index-family.result.now _ there)) in
    rw c.from_residual.ensures (sym (child_past (table_in f) at c.args.k (f.deep at) (rw (← fam) c.in_err-entry.ensures.lookup.3)))

pub as_storage-requires : goal.as_storage-requires
as_storage-requires c =
    let f = c.args.self.now in
    let at = c.args.at.entry in
    let there : at < length f.families.items = omega (arith, f.families.ok.0, c.requires) in
    let fam : c.children.result.now ≡ family_at f.families.items at = c.children.ensures ∙ (ap kids_of c.index-family.ensures ∙ sym (get_or-map kids_of f.families.items at c.index-family.result.now _ there)) in
    child_inside (vec_len f.families) c.args.k c.in_ok-entry.field-0.now (family_at f.families.items at) c.children.result.now (f.inside at) fam c.in_ok-entry.ensures.lookup.3.0 c.in_ok-entry.ensures.lookup.1

pub returns-clause-found : goal.returns-clause-found
returns-clause-found c =
    let f = c.args.self.now in
    let at = c.args.at.entry in
    let id = c.in_ok-entry.field-0.now in
    let there : at < length f.families.items = omega (arith, f.families.ok.0, c.requires) in
    let fam : c.children.result.now ≡ family_at f.families.items at = c.children.ensures ∙ (ap kids_of c.index-family.ensures ∙ sym (get_or-map kids_of f.families.items at c.index-family.result.now _ there)) in
    let small : c.args.k < length (family_at f.families.items at) = rw (← fam) c.in_ok-entry.ensures.lookup.3.0 in
    let is : id ≡ get_or (family_at f.families.items at) c.args.k id = rw (← fam) c.in_ok-entry.ensures.lookup.1 in
    let names : names_of c.index-family.result.now ≡ map (name_at (directory_of f.sectors)) (family_at f.families.items at) = sym (names_are f.families.items at c.index-family.result.now there c.index-family.ensures) ∙ f.spelled at c.requires in
    same_child _ _ _ _
    (c.name.ensures ∙ (ap (λ l. get_or l c.args.k []) names ∙ (get_or-map (name_at (directory_of f.sectors)) (family_at f.families.items at) c.args.k id [] small ∙ ap (name_at (directory_of f.sectors)) (sym is))))
    (ap (option_map (storage_seen f)) c.as_storage.ensures ∙ pick_seen f id)
    ∙ sym (child_there (table_in f) at c.args.k id (f.deep at) small is)

pub name-requires : goal.name-requires
name-requires c =
    let f = c.args.self.now in
    let at = c.args.at.entry in
    let there : at < length f.families.items = omega (arith, f.families.ok.0, c.requires) in
    let fam : c.children.result.now ≡ family_at f.families.items at = c.children.ensures ∙ (ap kids_of c.index-family.ensures ∙ sym (get_or-map kids_of f.families.items at c.index-family.result.now _ there)) in
    let small : c.args.k < length (family_at f.families.items at) = rw (← fam) c.in_ok-entry.ensures.lookup.3.0 in
    let names : names_of c.index-family.result.now ≡ map (name_at (directory_of f.sectors)) (family_at f.families.items at) = sym (names_are f.families.items at c.index-family.result.now there c.index-family.ensures) ∙ f.spelled at c.requires in
    rw names (rw length-map small)

pub returns-clause-there : goal.returns-clause-there
returns-clause-there c =
    let f = c.args.self.now in
    let at = c.args.at.entry in
    let there : at < length f.families.items = omega (arith, f.families.ok.0, c.requires) in
    let fam : c.children.result.now ≡ family_at f.families.items at = c.children.ensures ∙ (ap kids_of c.index-family.ensures ∙ sym (get_or-map kids_of f.families.items at c.index-family.result.now _ there)) in
    let low = child_inside (vec_len f.families) c.args.k c.in_ok-entry.field-0.now (family_at f.families.items at) c.children.result.now (f.inside at) fam c.in_ok-entry.ensures.lookup.3.0 c.in_ok-entry.ensures.lookup.1 in
    rw c.as_storage.ensures (there_if (is_storage (entry_of f.sectors c.in_ok-entry.field-0.now)) (vec_len f.families) c.in_ok-entry.field-0.now low)
