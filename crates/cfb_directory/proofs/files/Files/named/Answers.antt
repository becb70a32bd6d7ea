use Rattle.std.proofs.Common.{◌≡◌, ◌<◌, length, sym, ◌∙◌, subst, arith}
use Rattle.std.specs.Prelude.{IfSome, vec_len}
use Rattle.std.proofs.lemmas.List.{length-map}
use Rattle.carrier_model.specs.Files.{folded}
use Rattle.cfb_directory.specs.Families.{family_at}
use Rattle.cfb_directory.specs.Named.{first_named, key_of}
use Rattle.cfb_directory.specs.Walks.{directory_of}
use Rattle.cfb_directory.proofs.LookupLaws.{too_long, first_inside, index_is}
use Rattle.cfb_directory.proofs.OpenLaws.{short_key}
use Rattle.cfb_directory.proofs.files.Files.named.Goals as goal

pub returns-in_err-text-clause-named : goal.returns-in_err-text-clause-named
returns-in_err-text-clause-named c = λ units h.
    let f = c.args.self.now in
    c.from_residual.ensures ∙ sym (too_long (key_of (directory_of f.sectors)) 32 (folded units) (family_at f.families.items c.args.at.entry) (rw length-map (c.in_err-text.ensures.units units h)) (short_key f.sectors))

pub returns-clause-inside : goal.returns-clause-inside
returns-clause-inside c =
    let f = c.args.self.now in
    let at = c.args.at.entry in
    let q = c.units.result.now in
    let key = key_of (directory_of f.sectors) in
    let inside : at < length f.families.items = omega (arith, f.families.ok.0, c.requires) in
    let is : c.named.result ≡ first_named key q (family_at f.families.items at) = c.named.ensures ∙ (sym (index_is f.families.items at c.index.result.now q inside c.index.ensures) ∙ f.named at q c.requires) in
    subst (λ r. IfSome r (λ id. id < vec_len f.families)) (sym is) (first_inside key (vec_len f.families) q (family_at f.families.items at) (f.inside at))
