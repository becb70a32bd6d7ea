use Rattle.std.proofs.Common.{◌≡◌, ℕ, ◌+◌, [], ◌∷◌, map, cond, set, true, sym, ◌∙◌, ap, subst, refl, arith}
use Rattle.std.proofs.lemmas.Result.{err_from_is_err_and}
use Rattle.carrier_model.specs.Files.{all_families, names_of}
use Rattle.carrier_model.specs.Links.{ids}
use Rattle.carrier_model.specs.Marks.{Marks}
use Rattle.cfb_sectors.specs.States.{entries}
use Rattle.cfb_sectors.specs.Views.{entry as entry_seen}
use Rattle.cfb_directory.specs.Families.{family_at, children_in}
use Rattle.carrier_model.specs.Chains.{member}
use Rattle.carrier_io.specs.Reads.{Fails}
use Rattle.cfb_directory.specs.Named.{key_of, first_named, name_at}
use Rattle.cfb_directory.specs.Walks.{directory_of, walked, placed}
use Rattle.cfb_directory.proofs.KidLaws.{children-inside}
use Rattle.cfb_directory.proofs.OutlineLaws.{outline_links, outline_families, outline_known, names_stop, root_marks, root_length, link_is, outline_tree}
use Rattle.cfb_directory.proofs.outline.read_outline.Goals as goal

pub index_families-requires-clause-inside : goal.index_families-requires-clause-inside
index_families-requires-clause-inside c = λ p. rw (c.in_ok-families.ensures.children p) (children-inside (entries c.args.sectors.now) p c.deref.result.now (rw c.deref.ensures.value c.in_ok-order.ensures.order))

pub returns-in_err-index_families : goal.returns-in_err-index_families
returns-in_err-index_families c =
    let d = directory_of c.args.sectors.now in
    let marked : Marks c.mark.new.self (0 ∷ []) = root_marks c.entries-count.result c.mark.new.self (c.mark.ensures ∙ ap (λ m. set m 0 true) c.in_ok-visited.ensures) in
    let link = link_is d (record { target = c.entry.result.child; place = c.entry_offset.result + 76; depth = 1; parent = 0 }) (entry_seen c.entry.result) c.entry_offset.result c.entry.ensures c.entry_offset.ensures.place refl refl refl in
    let found = outline_tree d _ (walked c.in_ok-order.field-0) link refl (c.in_ok-order.ensures.answer (0 ∷ []) marked) in
    let new = (outline_links d found.0 found.1).1 in
    let same : (p : ℕ) → family_at c.in_ok-families.families.items p ≡ children_in p (placed 0 found.0) = λ p. c.in_ok-families.ensures.children p ∙ ap (children_in p) (c.deref.ensures.value ∙ found.2) in
    let visits : c.deref-2.result.now ≡ 0 ∷ ids found.0 = c.deref-2.ensures.value ∙ (c.in_ok-insert.ensures.items ∙ ap (λ l. 0 ∷ l) found.3) in
    let families : map (family_at c.in_ok-families.families.items) c.deref-2.result.now ≡ all_families found.0 = ap (map (family_at c.in_ok-families.families.items)) visits ∙ outline_families (family_at c.in_ok-families.families.items) found.0 new same in
    let p = err_from_is_err_and c.from_residual-in_err-index_families.result c.from_residual-in_err-index_families.ensures.1 in
    rw (p.1, p.2) (names_stop d c.in_err-index_families.field-0.0 found.0 found.1 (subst (λ l. Fails c.in_err-index_families.field-0.0 (names_of d l)) families c.in_err-index_families.ensures.answer))

pub returns : goal.returns
returns c =
    let d = directory_of c.args.sectors.now in
    let marked : Marks c.mark.new.self (0 ∷ []) = root_marks c.entries-count.result c.mark.new.self (c.mark.ensures ∙ ap (λ m. set m 0 true) c.in_ok-visited.ensures) in
    let link = link_is d (record { target = c.entry.result.child; place = c.entry_offset.result + 76; depth = 1; parent = 0 }) (entry_seen c.entry.result) c.entry_offset.result c.entry.ensures c.entry_offset.ensures.place refl refl refl in
    let found = outline_tree d _ (walked c.in_ok-order.field-0) link refl (c.in_ok-order.ensures.answer (0 ∷ []) marked) in
    let new = (outline_links d found.0 found.1).1 in
    let same : (p : ℕ) → family_at c.in_ok-families.families.items p ≡ children_in p (placed 0 found.0) = λ p. c.in_ok-families.ensures.children p ∙ ap (children_in p) (c.deref.ensures.value ∙ found.2) in
    let visits : c.deref-2.result.now ≡ 0 ∷ ids found.0 = c.deref-2.ensures.value ∙ (c.in_ok-insert.ensures.items ∙ ap (λ l. 0 ∷ l) found.3) in
    let families : map (family_at c.in_ok-families.families.items) c.deref-2.result.now ≡ all_families found.0 = ap (map (family_at c.in_ok-families.families.items)) visits ∙ outline_families (family_at c.in_ok-families.families.items) found.0 new same in
    let kids : (p : ℕ) → family_at c.index_families.new.families.items p ≡ children_in p (placed 0 found.0) = λ p. c.in_ok-index_families.ensures.children p ∙ same p in
    let count = c.entries-count.ensures in (
      found.0,
      record {
        linked = found.1;
        apart = ap (names_of d) (sym families) ∙ c.in_ok-index_families.ensures.answer;
        marks = subst (λ l. Marks c.walk_directory.new.marks (0 ∷ l)) found.3 (c.in_ok-order.ensures.marked (0 ∷ []) marked);
        length = c.in_ok-order.ensures.length ∙ (root_length c.entries-count.result c.mark.new.self (c.mark.ensures ∙ ap (λ m. set m 0 true) c.in_ok-visited.ensures) ∙ count);
        count = c.in_ok-index_families.ensures.count ∙ (c.in_ok-families.ensures.count ∙ count);
        few = omega arith;
        some = c.requires;
        kids = kids;
        inside = λ p. rw (c.in_ok-index_families.ensures.children p, c.in_ok-families.ensures.children p) (children-inside (entries c.args.sectors.now) p c.deref.result.now (rw c.deref.ensures.value c.in_ok-order.ensures.order));
        names = λ p q below. c.in_ok-index_families.ensures.named p q below
            ∙ (ap (λ l. first_named (key_of d) q (cond (member p l) (family_at c.in_ok-families.families.items p) [])) visits
            ∙ (ap (first_named (key_of d) q) (outline_known (family_at c.in_ok-families.families.items) found.0 p same)
            ∙ ap (first_named (key_of d) q) (sym (c.in_ok-index_families.ensures.children p))));
        spelled = λ p below. c.in_ok-index_families.ensures.spelled p below
            ∙ (ap (λ l. map (name_at d) (cond (member p l) (family_at c.in_ok-families.families.items p) [])) visits
            ∙ (ap (map (name_at d)) (outline_known (family_at c.in_ok-families.families.items) found.0 p same)
            ∙ ap (map (name_at d)) (sym (c.in_ok-index_families.ensures.children p))));
      },
    )
