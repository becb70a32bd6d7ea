use Rattle.std.proofs.Common.{◌≡◌, ◌<◌, List, length, map, ap, sym, ◌∙◌, arith, rules}
use Rattle.std.proofs.lemmas.List.{length-map}
use Rattle.carrier_model.specs.FileTrees.{entries_in}
use Rattle.cfb_list.specs.Listed.{Child, tree_of}
use Rattle.cfb_list.specs.Sorting.{siblings_in_order}
use Rattle.cfb_list.specs.Trees.{long_in, mini_in}
use Rattle.cfb_writer.specs.Planned.{laid_of}
use Rattle.cfb_writer.specs.Totals.{totals_of}
use Rattle.cfb_layout.specs.Versions.{sector_of}
use Rattle.cfb_writer.proofs.FileSizes.{end_of, file_is, few_entries, plan_of_files, sound_fits}
use Rattle.cfb_writer.proofs.Rooms.{counted_in_order, needed_in_order}
use Rattle.cfb_writer.proofs.plan.Plan.new.Goals as goal

pub returns-in-Err-clause-end : goal.returns-in-Err-clause-end
returns-in-Err-clause-end g c =
    let z = sector_of c.args.version in
    let st = c.args.files.storages in
    let order = map siblings_in_order st in
    let laws = c.sorted_lists_are_trees.ensures in
    let needs = c.sorted_lists_need_as_much.ensures in
    let class : length c.args.files.root_class ≡ 16 = search rules in
    let some : 0 < length c.in_ok-totals.totals.items = omega (arith, c.in_ok-totals.ensures.many, c.in_ok-totals.ensures.sound.some) in
    let first : c.index.result.now ≡ totals_of z (tree_of order) = c.index.ensures ∙ c.in_ok-totals.ensures.known 0 c.index.result.now (omega arith) some ∙ needed_in_order needs.entries needs.mini needs.long z st 0 in
    end_of c.args.version c.args.files.root_class st (tree_of order) c.in-Err.size (laws.tree st) class (sound_fits order (laws.sound st c.in_ok-totals.ensures.sound)) (c.in-Err.ensures _ _ _ first)

pub entries_of-requires-clause-many : goal.entries_of-requires-clause-many
entries_of-requires-clause-many g c =
    let kept = ap length c.in_ok-sorted.ensures.value in
    omega (arith, ap length c.deref.ensures.value, c.in_ok-totals.ensures.many, kept, length-map c.args.files.storages siblings_in_order)

pub entries_of-requires-clause-counted : goal.entries_of-requires-clause-counted
entries_of-requires-clause-counted g c =
    rw c.deref.ensures.value (counted_in_order c.sorted_lists_need_as_much.ensures.entries (sector_of c.args.version) c.args.files.storages c.in_ok-sorted.field-0 c.in_ok-totals.totals.items c.in_ok-sorted.ensures.value c.in_ok-totals.ensures.known)

pub entries_of-requires-clause-few : goal.entries_of-requires-clause-few
entries_of-requires-clause-few g c =
    let z = sector_of c.args.version in
    let list = c.in_ok-sorted.field-0 in
    let needs = c.sorted_lists_need_as_much.ensures in
    let some : 0 < length c.in_ok-totals.totals.items = omega (arith, c.in_ok-totals.ensures.many, c.in_ok-totals.ensures.sound.some) in
    let first : c.index.result.now ≡ totals_of z (tree_of list) = c.index.ensures ∙ c.in_ok-totals.ensures.known 0 c.index.result.now (omega arith) some ∙ needed_in_order needs.entries needs.mini needs.long z c.args.files.storages 0 ∙ ap (λ (ss : List (List Child)). totals_of z (tree_of ss)) (sym c.in_ok-sorted.ensures.value) in
    few_entries c.args.version (entries_in (tree_of list)) (mini_in (tree_of list)) (long_in z (tree_of list)) c.in-Ok.measure (c.in-Ok.ensures _ _ _ first)

pub of_parts-requires : goal.of_parts-requires
of_parts-requires g c =
    let z = sector_of c.args.version in
    let list = c.in_ok-sorted.field-0 in
    let needs = c.sorted_lists_need_as_much.ensures in
    let class : length c.root_class-root_class.result ≡ 16 = search rules in
    let some : 0 < length c.in_ok-totals.totals.items = omega (arith, c.in_ok-totals.ensures.many, c.in_ok-totals.ensures.sound.some) in
    let first : c.index.result.now ≡ totals_of z (tree_of list) = c.index.ensures ∙ c.in_ok-totals.ensures.known 0 c.index.result.now (omega arith) some ∙ needed_in_order needs.entries needs.mini needs.long z c.args.files.storages 0 ∙ ap (λ (ss : List (List Child)). totals_of z (tree_of ss)) (sym c.in_ok-sorted.ensures.value) in
    plan_of_files c.args.version c.root_class-root_class.result (tree_of list) c.in_ok-entries.entries c.in-Ok.measure c.in_ok-entries.ensures class (sound_fits list c.in_ok-sorted.ensures.sound) (c.in-Ok.ensures _ _ _ first)

pub returns-clause-ok : goal.returns-clause-ok
returns-clause-ok g c =
    let z = sector_of c.args.version in
    let list = c.in_ok-sorted.field-0 in
    let needs = c.sorted_lists_need_as_much.ensures in
    let laid : c.in_ok-entries.entries ≡ laid_of c.args.files.root_class (tree_of list) = c.in_ok-entries.ensures ∙ ap (λ (class : List _). laid_of class (tree_of list)) c.root_class-root_class.ensures in
    let some : 0 < length c.in_ok-totals.totals.items = omega (arith, c.in_ok-totals.ensures.many, c.in_ok-totals.ensures.sound.some) in
    let first : c.index.result.now ≡ totals_of z (tree_of list) = c.index.ensures ∙ c.in_ok-totals.ensures.known 0 c.index.result.now (omega arith) some ∙ needed_in_order needs.entries needs.mini needs.long z c.args.files.storages 0 ∙ ap (λ (ss : List (List Child)). totals_of z (tree_of ss)) (sym c.in_ok-sorted.ensures.value) in
    c.of_parts.ensures ∙ file_is c.args.version c.args.files.root_class c.args.files.storages (tree_of list) c.in_ok-entries.entries _ c.in_ok-sorted.ensures.tree laid (c.in-Ok.ensures _ _ _ first).1

pub returns-clause-fits : goal.returns-clause-fits
returns-clause-fits g c =
    let z = sector_of c.args.version in
    let list = c.in_ok-sorted.field-0 in
    let needs = c.sorted_lists_need_as_much.ensures in
    let class : length c.root_class-root_class.result ≡ 16 = search rules in
    let some : 0 < length c.in_ok-totals.totals.items = omega (arith, c.in_ok-totals.ensures.many, c.in_ok-totals.ensures.sound.some) in
    let first : c.index.result.now ≡ totals_of z (tree_of list) = c.index.ensures ∙ c.in_ok-totals.ensures.known 0 c.index.result.now (omega arith) some ∙ needed_in_order needs.entries needs.mini needs.long z c.args.files.storages 0 ∙ ap (λ (ss : List (List Child)). totals_of z (tree_of ss)) (sym c.in_ok-sorted.ensures.value) in
    let measure = c.in-Ok.ensures _ _ _ first in
    let kept = plan_of_files c.args.version c.root_class-root_class.result (tree_of list) c.in_ok-entries.entries c.in-Ok.measure c.in_ok-entries.ensures class (sound_fits list c.in_ok-sorted.ensures.sound) measure in
    rw (c.of_parts.ensures, ← kept.whole) measure.3
