use Rattle.std.proofs.Common.{◌≡◌, ◌∙◌, ◌++◌, ◌∷◌, [], suc, ◌<◌, sym, ap, subst, map, length, add-one, arith, List, ℕ, Vec, Global}
use Rattle.carrier_model.specs.FileTrees.{Named}
use Rattle.std.specs.Prelude.{OnOk}
use Rattle.std.proofs.lemmas.List.{length-map}
use Rattle.json_model.specs.StoreForms.{Entry, front_below, last_name, path_of}
use Rattle.msg_tree.specs.Gathering.{gathered}
use Rattle.tree_from_json.specs.Entries.{entry_at, path_to, placed_of, members_at, member_of}
use Rattle.tree_from_json.proofs.Building.{made_more, left_more, left_short, storage_named, stream_named}
use Rattle.tree_from_json.proofs.Shortened.{end_above, placed_long}
use Rattle.tree_from_json.proofs.read_stores.+building.Goals as goal

abbrev items_of : Vec ℕ Global → List ℕ
items_of b = b.items

pub take_members-loop-entry-smaller : goal.take_members-loop-entry-smaller
take_members-loop-entry-smaller t c =
    let more = map placed_of c.next_below.new.entries.items in
    let short = left_short c.args.level (placed_of c.in-Some.entry) more in
    let l = ap (λ (z : List Entry). length z) c.in_ok-push_member.ensures.rest in
    let k = ap (λ (z : List Entry). length z) c.in-Some.ensures.taken in
    let a = length-map c.push_member.new.entries.items placed_of in
    let b = length-map c.next_below.new.entries.items placed_of in
    let d = length-map c.loop-entry.entries.items placed_of in
    omega (arith, short, l, k, a, b, d)

pub take_members-loop-entry-preserved : goal.take_members-loop-entry-preserved
take_members-loop-entry-preserved t c =
    let es = map placed_of c.loop-entry.entries.items in
    let e = placed_of c.in-Some.entry in
    let more = map placed_of c.next_below.new.entries.items in
    let left = map placed_of c.push_member.new.entries.items in
    let short = left_short c.args.level e more in
    let below : c.args.level < length (path_of e) = omega (arith, c.in-Some.ensures.below, placed_long c.in-Some.entry) in
    let l = ap (λ (z : List Entry). length z) c.in_ok-push_member.ensures.rest in
    let k = ap (λ (z : List Entry). length z) c.in-Some.ensures.taken in
    let a = length-map c.push_member.new.entries.items placed_of in
    let b = length-map c.next_below.new.entries.items placed_of in
    let d = length-map c.loop-entry.entries.items placed_of in
    record {
      made = made_more c.args.level e es more left (gathered items_of c.loop-entry.members) (gathered items_of c.push_member.new.members) _ below c.in-Some.ensures.taken c.loop-entry.invariant.made c.in_ok-push_member.ensures.ok c.in_ok-push_member.ensures.rest;
      left = left_more c.args.level e es more left _ below c.in-Some.ensures.taken c.loop-entry.invariant.left c.in_ok-push_member.ensures.rest;
      few = omega (arith, short, l, k, a, b, d, c.loop-entry.invariant.few);
    }

pub push_member-returns-in-Storage-clause-ok : goal.push_member-returns-in-Storage-clause-ok
push_member-returns-in-Storage-clause-ok t c =
    let e = c.args.entry in
    let path = path_to e.level e.name in
    let more = map placed_of c.args.entries.now.items in
    let old = gathered items_of c.args.members.now in
    let new = gathered items_of c.push.new.self in
    let name : c.as_slice.result.now ≡ last_name path = c.as_slice.ensures ∙ sym (end_above c.args.level e.level e.name c.requires) in
    let inside = gathered items_of c.in_ok-take_members-in-Storage.field-0 in
    let are : inside ≡ members_at (suc c.args.level) (front_below (suc c.args.level) more) = rw (← add-one) c.in_ok-take_members-in-Storage.ensures.ok in
    let one = storage_named items_of c.args.level path c.in-Storage.class.0 c.as_slice.result.now more c.in_ok-inside-in-Storage.inside inside name c.in_ok-inside-in-Storage.ensures are in
    let here = ap (λ x. member_of c.args.level (entry_at path x) more) (sym c.in-Storage.is) in
    subst (λ (z : Named). OnOk c.push.result (new ≡ old ++ z ∷ [])) (one ∙ here) c.push.ensures.ok

pub push_member-returns-clause-ok : goal.push_member-returns-clause-ok
push_member-returns-clause-ok t c =
    let e = c.args.entry in
    let path = path_to e.level e.name in
    let more = map placed_of c.args.entries.now.items in
    let old = gathered items_of c.args.members.now in
    let new = gathered items_of c.push-in-Stream.new.self in
    let name : c.as_slice-in-Stream.result.now ≡ last_name path = c.as_slice-in-Stream.ensures ∙ sym (end_above c.args.level e.level e.name c.requires) in
    let one = stream_named items_of c.args.level path c.as_slice-in-Stream.result.now more c.in-Stream.bytes name in
    let here = ap (λ x. member_of c.args.level (entry_at path x) more) (sym c.in-Stream.is) in
    subst (λ (z : Named). OnOk c.push-in-Stream.result (new ≡ old ++ z ∷ [])) (one ∙ here) c.push-in-Stream.ensures.ok
