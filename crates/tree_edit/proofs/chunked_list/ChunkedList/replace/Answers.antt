use Rattle.std.proofs.Common.{◌≡◌, ◌+◌, ◌++◌, ◌∙◌, ap, sym, length, Some, slice_set, arith}
use Rattle.std.specs.List.{flat_map}
use Rattle.std.proofs.lemmas.List.{take_all}
use Rattle.tree_edit.proofs.ChunkLists.{at_place, chunk_get, chunk_set, last_get, last_set}
use Rattle.tree_edit.proofs.chunked_list.ChunkedList.replace.Goals as goal

pub returns-then-at-len-clause-taken : goal.returns-then-at-len-clause-taken
returns-then-at-len-clause-taken g c =
    let full = c.args.self.now.full in
    let chunk = c.index_mut-chunk.result.now in
    let here = at_place full.items c.place-at.result.0 chunk (omega (arith, c.if-at-len.true, c.len.ensures, full.ok.0)) c.index_mut-chunk.ensures.value in
    let within = rw here at c.place-at.ensures.chunk in
    chunk_get (λ chunk. chunk.items) full.items c.args.self.now.last.items c.place-at.result.0 c.place-at.result.1 c.args.number chunk here within c.place-at.ensures.sum
    ∙ (at_place chunk.items c.place-at.result.1 c.index_mut.result.now within c.index_mut.ensures.value ∙ ap Some (sym c.replace.ensures.value))

pub returns-then-at-len-clause-put : goal.returns-then-at-len-clause-put
returns-then-at-len-clause-put g c =
    let full = c.args.self.now.full in
    let chunk = c.index_mut-chunk.result.now in
    let here = at_place full.items c.place-at.result.0 chunk (omega (arith, c.if-at-len.true, c.len.ensures, full.ok.0)) c.index_mut-chunk.ensures.value in
    let within = rw here at c.place-at.ensures.chunk in
    chunk_set (λ chunk. chunk.items) full.items c.args.self.now.last.items c.place-at.result.0 c.place-at.result.1 c.args.number chunk _ c.args.item here within c.place-at.ensures.sum (ap (slice_set chunk.items c.place-at.result.1) c.replace.ensures.after)

pub returns-then-left-len-clause-taken : goal.returns-then-left-len-clause-taken
returns-then-left-len-clause-taken g c =
    let full = c.args.self.now.full in
    let last = c.args.self.now.last in
    let whole = take_all c.place-at.result.0 full.items (omega (arith, c.if-at-len.false, c.len.ensures, full.ok.0)) in
    let sum : length (flat_map (λ chunk. chunk.items) full.items) + c.place-at.result.1 ≡ c.args.number = ap (λ l. length (flat_map (λ chunk. chunk.items) l) + c.place-at.result.1) (sym whole) ∙ c.place-at.ensures.sum in
    last_get (flat_map (λ chunk. chunk.items) full.items) last.items c.place-at.result.1 c.args.number sum
    ∙ (at_place last.items c.place-at.result.1 c.index_mut-then-left-len.result.now (omega (arith, c.if-left-len.true, c.len-2.ensures, last.ok.0)) c.index_mut-then-left-len.ensures.value ∙ ap Some (sym c.replace-then-left-len.ensures.value))

pub returns-then-left-len-clause-put : goal.returns-then-left-len-clause-put
returns-then-left-len-clause-put g c =
    let full = c.args.self.now.full in
    let last = c.args.self.now.last in
    let whole = take_all c.place-at.result.0 full.items (omega (arith, c.if-at-len.false, c.len.ensures, full.ok.0)) in
    let sum : length (flat_map (λ chunk. chunk.items) full.items) + c.place-at.result.1 ≡ c.args.number = ap (λ l. length (flat_map (λ chunk. chunk.items) l) + c.place-at.result.1) (sym whole) ∙ c.place-at.ensures.sum in
    ap (λ x. flat_map (λ chunk. chunk.items) full.items ++ slice_set last.items c.place-at.result.1 x) c.replace-then-left-len.ensures.after
    ∙ last_set (flat_map (λ chunk. chunk.items) full.items) last.items c.place-at.result.1 c.args.number c.args.item sum
