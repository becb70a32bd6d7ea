use Rattle.std.proofs.Common.{◌≡◌, ◌<◌, length, get_or, sym, ◌∙◌, ap, arith}
use Rattle.std.specs.Prelude.{vec_len}
use Rattle.std.proofs.lemmas.List.{get_or-map}
use Rattle.cfb_directory.specs.Families.{kids_of, family_at}
use Rattle.cfb_directory.specs.Shown.{table_in}
use Rattle.cfb_directory.proofs.LookupLaws.{child_inside, child_stream_past, child_stream_there}
use Rattle.cfb_directory.proofs.files.Files.child_stream.Goals as goal

pub returns-in_err-entry : goal.returns-in_err-entry
returns-in_err-entry c =
    let f = c.args.self.now in
    let at = c.args.at.entry in
    let there : at < length f.families.items = omega (arith, f.families.ok.0, c.requires) in
    let fam : c.children.result.now ≡ family_at f.families.items at = c.children.ensures ∙ (ap kids_of c.index.ensures ∙ sym (get_or-map kids_of f.families.items at c.index.result.now _ there)) in
    rw c.from_residual.ensures (sym (child_stream_past (table_in f) at c.args.k (f.deep at) (rw (← fam) c.in_err-entry.ensures.lookup.3)))

pub as_stream-requires : goal.as_stream-requires
as_stream-requires c =
    let f = c.args.self.now in
    let at = c.args.at.entry in
    let there : at < length f.families.items = omega (arith, f.families.ok.0, c.requires) in
    let fam : c.children.result.now ≡ family_at f.families.items at = c.children.ensures ∙ (ap kids_of c.index.ensures ∙ sym (get_or-map kids_of f.families.items at c.index.result.now _ there)) in
    child_inside (vec_len f.families) c.args.k c.in_ok-entry.field-0.now (family_at f.families.items at) c.children.result.now (f.inside at) fam c.in_ok-entry.ensures.lookup.3.0 c.in_ok-entry.ensures.lookup.1

pub returns : goal.returns
returns c =
    let f = c.args.self.now in
    let at = c.args.at.entry in
    let id = c.in_ok-entry.field-0.now in
    let there : at < length f.families.items = omega (arith, f.families.ok.0, c.requires) in
    let fam : c.children.result.now ≡ family_at f.families.items at = c.children.ensures ∙ (ap kids_of c.index.ensures ∙ sym (get_or-map kids_of f.families.items at c.index.result.now _ there)) in
    let small : c.args.k < length (family_at f.families.items at) = rw (← fam) c.in_ok-entry.ensures.lookup.3.0 in
    let is : id ≡ get_or (family_at f.families.items at) c.args.k id = rw (← fam) c.in_ok-entry.ensures.lookup.1 in
    c.as_stream.ensures ∙ sym (child_stream_there (table_in f) at c.args.k id (f.deep at) small is)
