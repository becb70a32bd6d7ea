use Rattle.std.proofs.Common.{◌≡◌, ◌<◌, ◌++◌, ◌∷◌, [], List, length, option_to_list, vec_len, ap, sym, ◌∙◌, arith, rules}
use Rattle.std.proofs.lemmas.List.{append-nil}
use Rattle.cfb_list.specs.Listed.{children_at}
use Rattle.cfb_writer.specs.declared.placing.Level.{Level}
use Rattle.cfb_writer.proofs.Levels.{entries_both, fewer, finished, last_level, moved, proceeds, room_next}
use Rattle.cfb_writer.proofs.placing.append_next.Goals as goal

pub returns-then-file-count_in-clause-proceeds : goal.returns-then-file-count_in-clause-proceeds
returns-then-file-count_in-clause-proceeds g c =
    finished c.args.list.now c.args.places.now.items c.args.stack.now.items c.args.level c.requires.valid c.requires.level (omega (arith, c.if-file-count_in.true, c.count_in.ensures.count))

pub returns-then-file-count_in-clause-fewer : goal.returns-then-file-count_in-clause-fewer
returns-then-file-count_in-clause-fewer g c = omega (arith, entries_both c.args.list.now c.args.stack.now.items (c.args.level ∷ []))

pub index-requires : goal.index-requires
index-requires g c =
    let last = last_level c.args.list.now c.args.stack.now.items c.args.level c.requires.level in
    let own : vec_len c.args.level.links ≡ length c.args.level.links.items = search rules in
    omega (arith, own, last.linked, c.if-file-count_in.false, c.count_in.ensures.count)

pub append_file-requires-clause-few : goal.append_file-requires-clause-few
append_file-requires-clause-few g c =
    let st = c.args.list.now in
    let l = c.args.level in
    let lt : l.file < length (children_at st l.storage) = omega (arith, c.if-file-count_in.false, c.count_in.ensures.count) in
    omega (arith, c.requires.few, entries_both st c.args.stack.now.items (l ∷ []), room_next st [] [] l c.index.result.now lt c.index.ensures (last_level st c.args.stack.now.items l c.requires.level))

pub returns-in_ok-push-in-Some-clause-proceeds : goal.returns-in_ok-push-in-Some-clause-proceeds
returns-in_ok-push-in-Some-clause-proceeds g c =
    let st = c.args.list.now in
    let l = c.args.level in
    let lt : l.file < length (children_at st l.storage) = omega (arith, c.if-file-count_in.false, c.count_in.ensures.count) in
    let old : vec_len c.args.places.now ≡ length c.args.places.now.items = search rules in
    let new : vec_len c.append_file.new.places ≡ length c.append_file.new.places.items = search rules in
    let inner = c.in_ok-inner.inner in
    let now : c.push-in-Some.new.self.items ≡ (c.args.stack.now.items ++ moved l ∷ []) ++ option_to_list inner = c.in_ok-push-in-Some.ensures.items ∙ ap (λ (x : List Level). x ++ c.in-Some.inner ∷ []) c.in_ok-push.ensures.items ∙ ap (λ o. (c.args.stack.now.items ++ moved l ∷ []) ++ option_to_list o) (sym c.in-Some.is) in
    proceeds st c.args.places.now.items c.append_file.new.places.items (vec_len c.args.places.now) c.args.stack.now.items (option_to_list inner) c.push-in-Some.new.self.items l c.index.result.now old (omega (arith, new, c.in_ok-inner.ensures.count)) lt c.index.ensures c.requires.level c.in_ok-inner.ensures.level c.in_ok-inner.ensures.valid c.in_ok-inner.ensures.room c.in_ok-inner.ensures.slots now

pub returns-in_ok-push-in-Some-clause-fewer : goal.returns-in_ok-push-in-Some-clause-fewer
returns-in_ok-push-in-Some-clause-fewer g c =
    let st = c.args.list.now in
    let l = c.args.level in
    let old : vec_len c.args.places.now ≡ length c.args.places.now.items = search rules in
    let new : vec_len c.append_file.new.places ≡ length c.append_file.new.places.items = search rules in
    let now : c.push-in-Some.new.self.items ≡ (c.args.stack.now.items ++ moved l ∷ []) ++ c.in-Some.inner ∷ [] = c.in_ok-push-in-Some.ensures.items ∙ ap (λ (x : List Level). x ++ c.in-Some.inner ∷ []) c.in_ok-push.ensures.items in
    fewer st c.args.places.now.items c.append_file.new.places.items c.args.stack.now.items (c.in-Some.inner ∷ []) c.push-in-Some.new.self.items l (returns-in_ok-push-in-Some-clause-proceeds g c) (omega (arith, old, new, c.in_ok-inner.ensures.count)) (omega arith) now

pub returns-in-None-clause-proceeds : goal.returns-in-None-clause-proceeds
returns-in-None-clause-proceeds g c =
    let st = c.args.list.now in
    let l = c.args.level in
    let lt : l.file < length (children_at st l.storage) = omega (arith, c.if-file-count_in.false, c.count_in.ensures.count) in
    let old : vec_len c.args.places.now ≡ length c.args.places.now.items = search rules in
    let new : vec_len c.append_file.new.places ≡ length c.append_file.new.places.items = search rules in
    let inner = c.in_ok-inner.inner in
    let now : c.push.new.self.items ≡ (c.args.stack.now.items ++ moved l ∷ []) ++ option_to_list inner = c.in_ok-push.ensures.items ∙ sym (append-nil (c.args.stack.now.items ++ moved l ∷ [])) ∙ ap (λ o. (c.args.stack.now.items ++ moved l ∷ []) ++ option_to_list o) (sym c.in-None.is) in
    proceeds st c.args.places.now.items c.append_file.new.places.items (vec_len c.args.places.now) c.args.stack.now.items (option_to_list inner) c.push.new.self.items l c.index.result.now old (omega (arith, new, c.in_ok-inner.ensures.count)) lt c.index.ensures c.requires.level c.in_ok-inner.ensures.level c.in_ok-inner.ensures.valid c.in_ok-inner.ensures.room c.in_ok-inner.ensures.slots now

pub returns-in-None-clause-fewer : goal.returns-in-None-clause-fewer
returns-in-None-clause-fewer g c =
    let st = c.args.list.now in
    let l = c.args.level in
    let old : vec_len c.args.places.now ≡ length c.args.places.now.items = search rules in
    let new : vec_len c.append_file.new.places ≡ length c.append_file.new.places.items = search rules in
    let now : c.push.new.self.items ≡ (c.args.stack.now.items ++ moved l ∷ []) ++ [] = c.in_ok-push.ensures.items ∙ sym (append-nil (c.args.stack.now.items ++ moved l ∷ [])) in
    fewer st c.args.places.now.items c.append_file.new.places.items c.args.stack.now.items [] c.push.new.self.items l (returns-in-None-clause-proceeds g c) (omega (arith, old, new, c.in_ok-inner.ensures.count)) (omega arith) now
