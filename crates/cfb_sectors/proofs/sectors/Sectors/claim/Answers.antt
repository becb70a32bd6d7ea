use Rattle.std.proofs.Common.{◌≡◌, ◌≤◌, ◌<◌, sym, ◌∙◌, ap, subst, true}
use Rattle.carrier_model.specs.Entries.{Entry, entry_at}
use Rattle.carrier_model.specs.Loads.{short_chain_of}
use Rattle.carrier_io.specs.Reads.{Gives}
use Rattle.cfb_sectors.specs.Seen.{stream}
use Rattle.cfb_sectors.specs.States.{State, entry_of, place_of}
use Rattle.cfb_sectors.specs.Views.{table, mini_seen, entry}
use Rattle.cfb_sectors.proofs.ClaimLaws.{long_claimed, long_streamed, long_taken, short_claimed, short_streamed, short_taken, more_known}
use Rattle.cfb_sectors.proofs.sectors.Sectors.claim.Goals as goal

pub returns-then-entry-ge-LONG-clause-answer : goal.returns-then-entry-ge-LONG-clause-answer
returns-then-entry-ge-LONG-clause-answer c =
    let s : State = record { file = c.self.inside.bytes.now; size = c.self.inside.fat.size; loaded = record { difat = c.self.inside.difat.items; table = table c.self.inside.fat; directory = c.self.inside.directory.items; mini = mini_seen c.self.inside.mini }; marks = c.self.inside.marks; mini_marks = c.self.inside.mini_marks } in
    let e : Entry = entry c.read_entry-entry.result in
    let eo : c.entry_place-place.result ≡ place_of s c.args.id = rw c.deref.ensures.value at c.entry_place-place.ensures.place in
    let ee : e ≡ entry_of s c.args.id = c.read_entry-entry.ensures ∙ ap (λ o. entry_at c.self.inside.fat.size c.self.inside.bytes.now o) eo in
    let big : 4096 ≤ e.size = c.if-entry-ge-LONG.true in
    rw (← c.self.view_is) (λ long short h k. subst (λ r. Gives stream c.view_long.result r) (long_streamed s c.args.id e c.entry_place-place.result long short ee eo big) (c.view_long.ensures.answer long h))

pub returns-then-entry-ge-LONG-clause-marked : goal.returns-then-entry-ge-LONG-clause-marked
returns-then-entry-ge-LONG-clause-marked c =
    let s : State = record { file = c.self.inside.bytes.now; size = c.self.inside.fat.size; loaded = record { difat = c.self.inside.difat.items; table = table c.self.inside.fat; directory = c.self.inside.directory.items; mini = mini_seen c.self.inside.mini }; marks = c.self.inside.marks; mini_marks = c.self.inside.mini_marks } in
    let e : Entry = entry c.read_entry-entry.result in
    let eo : c.entry_place-place.result ≡ place_of s c.args.id = rw c.deref.ensures.value at c.entry_place-place.ensures.place in
    let ee : e ≡ entry_of s c.args.id = c.read_entry-entry.ensures ∙ ap (λ o. entry_at c.self.inside.fat.size c.self.inside.bytes.now o) eo in
    let big : 4096 ≤ e.size = c.if-entry-ge-LONG.true in
    rw (← c.self.view_is) (λ long short chain h k is. more_known c.view_long.result _ _ (λ _ m. long_taken s c.args.id e chain long short _ _ ee big m k) (c.view_long.ensures.marked long chain h (sym (long_claimed s c.args.id e c.entry_place-place.result long short ee eo big) ∙ is)))

pub returns-then-entry-ge-LONG-clause-steps : goal.returns-then-entry-ge-LONG-clause-steps
returns-then-entry-ge-LONG-clause-steps c =
    let s : State = record { file = c.self.inside.bytes.now; size = c.self.inside.fat.size; loaded = record { difat = c.self.inside.difat.items; table = table c.self.inside.fat; directory = c.self.inside.directory.items; mini = mini_seen c.self.inside.mini }; marks = c.self.inside.marks; mini_marks = c.self.inside.mini_marks } in
    let e : Entry = entry c.read_entry-entry.result in
    let eo : c.entry_place-place.result ≡ place_of s c.args.id = rw c.deref.ensures.value at c.entry_place-place.ensures.place in
    let ee : e ≡ entry_of s c.args.id = c.read_entry-entry.ensures ∙ ap (λ o. entry_at c.self.inside.fat.size c.self.inside.bytes.now o) eo in
    let big : 4096 ≤ e.size = c.if-entry-ge-LONG.true in
    rw (← c.self.view_is) (λ long short chain h k is. c.view_long.ensures.steps long chain h (sym (long_claimed s c.args.id e c.entry_place-place.result long short ee eo big) ∙ is))

pub returns-else-entry-ge-LONG-clause-answer : goal.returns-else-entry-ge-LONG-clause-answer
returns-else-entry-ge-LONG-clause-answer c =
    let s : State = record { file = c.self.inside.bytes.now; size = c.self.inside.fat.size; loaded = record { difat = c.self.inside.difat.items; table = table c.self.inside.fat; directory = c.self.inside.directory.items; mini = mini_seen c.self.inside.mini }; marks = c.self.inside.marks; mini_marks = c.self.inside.mini_marks } in
    let e : Entry = entry c.read_entry-entry.result in
    let eo : c.entry_place-place.result ≡ place_of s c.args.id = rw c.deref.ensures.value at c.entry_place-place.ensures.place in
    let ee : e ≡ entry_of s c.args.id = c.read_entry-entry.ensures ∙ ap (λ o. entry_at c.self.inside.fat.size c.self.inside.bytes.now o) eo in
    let some : (e.size ≡ 0 → ⊥) = c.if-entry-eq0.false in
    let little : e.size < 4096 = c.if-entry-ge-LONG.false in
    rw (← c.self.view_is) (λ long short h k. subst (λ r. Gives stream c.view_short.result r) (short_streamed s c.args.id e c.entry_place-place.result long short ee eo some little) (rw c.self.invariant.1 at (c.view_short.ensures.answer short k)))

pub returns-else-entry-ge-LONG-clause-marked : goal.returns-else-entry-ge-LONG-clause-marked
returns-else-entry-ge-LONG-clause-marked c =
    let s : State = record { file = c.self.inside.bytes.now; size = c.self.inside.fat.size; loaded = record { difat = c.self.inside.difat.items; table = table c.self.inside.fat; directory = c.self.inside.directory.items; mini = mini_seen c.self.inside.mini }; marks = c.self.inside.marks; mini_marks = c.self.inside.mini_marks } in
    let e : Entry = entry c.read_entry-entry.result in
    let eo : c.entry_place-place.result ≡ place_of s c.args.id = rw c.deref.ensures.value at c.entry_place-place.ensures.place in
    let ee : e ≡ entry_of s c.args.id = c.read_entry-entry.ensures ∙ ap (λ o. entry_at c.self.inside.fat.size c.self.inside.bytes.now o) eo in
    let some : (e.size ≡ 0 → ⊥) = c.if-entry-eq0.false in
    let little : e.size < 4096 = c.if-entry-ge-LONG.false in
    rw (← c.self.view_is) (λ long short chain h k is. more_known c.view_short.result _ _ (λ _ m. short_taken s c.args.id e chain long short _ _ ee little h m) (c.view_short.ensures.marked short chain k (ap (λ z. short_chain_of z (mini_seen c.self.inside.mini) e.start e.size c.entry_place-place.result short) c.self.invariant.1 ∙ sym (short_claimed s c.args.id e c.entry_place-place.result long short ee eo some little) ∙ is)))

pub returns-else-entry-ge-LONG-clause-steps : goal.returns-else-entry-ge-LONG-clause-steps
returns-else-entry-ge-LONG-clause-steps c =
    let s : State = record { file = c.self.inside.bytes.now; size = c.self.inside.fat.size; loaded = record { difat = c.self.inside.difat.items; table = table c.self.inside.fat; directory = c.self.inside.directory.items; mini = mini_seen c.self.inside.mini }; marks = c.self.inside.marks; mini_marks = c.self.inside.mini_marks } in
    let e : Entry = entry c.read_entry-entry.result in
    let eo : c.entry_place-place.result ≡ place_of s c.args.id = rw c.deref.ensures.value at c.entry_place-place.ensures.place in
    let ee : e ≡ entry_of s c.args.id = c.read_entry-entry.ensures ∙ ap (λ o. entry_at c.self.inside.fat.size c.self.inside.bytes.now o) eo in
    let some : (e.size ≡ 0 → ⊥) = c.if-entry-eq0.false in
    let little : e.size < 4096 = c.if-entry-ge-LONG.false in
    rw (← c.self.view_is) (λ long short chain h k is. c.view_short.ensures.steps short chain k (ap (λ z. short_chain_of z (mini_seen c.self.inside.mini) e.start e.size c.entry_place-place.result short) c.self.invariant.1 ∙ sym (short_claimed s c.args.id e c.entry_place-place.result long short ee eo some little) ∙ is))

pub returns-then-entry-eq0-clause-stay : goal.returns-then-entry-eq0-clause-stay
returns-then-entry-eq0-clause-stay c = rw (← c.self.view_is) ((λ n h. h), (λ n h. h))

pub returns-then-entry-ge-LONG-clause-stay : goal.returns-then-entry-ge-LONG-clause-stay
returns-then-entry-ge-LONG-clause-stay c = rw (← c.self.view_is) (c.view_long.ensures.stay, (λ n h. h))

pub returns-else-entry-ge-LONG-clause-stay : goal.returns-else-entry-ge-LONG-clause-stay
returns-else-entry-ge-LONG-clause-stay c = rw (← c.self.view_is) ((λ n h. h), c.view_short.ensures.stay)
