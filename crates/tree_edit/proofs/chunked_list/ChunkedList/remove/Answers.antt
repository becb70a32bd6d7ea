use Rattle.std.proofs.Common.{◌≡◌, ◌+◌, ◌++◌, ◌∙◌, ap, sym, length, arith}
use Rattle.std.specs.List.{flat_map}
use Rattle.std.proofs.lemmas.List.{take_all}
use Rattle.tree_edit.proofs.ChunkLists.{at_place, chunk_get, chunk_remove, last_get, last_remove}
use Rattle.tree_edit.proofs.chunked_list.ChunkedList.remove.Goals as goal

pub returns-then-at-len-clause-taken : goal.returns-then-at-len-clause-taken
returns-then-at-len-clause-taken g c =
    let full = c.args.self.now.full in
    let chunk = c.index_mut.result.now in
    let here = at_place full.items c.place-at.result.0 chunk (omega (arith, c.if-at-len.true, c.len.ensures, full.ok.0)) c.index_mut.ensures.value in
    let within = rw here at c.place-at.ensures.chunk in
    chunk_get (λ chunk. chunk.items) full.items c.args.self.now.last.items c.place-at.result.0 c.place-at.result.1 c.args.number chunk here within c.place-at.ensures.sum
    ∙ at_place chunk.items c.place-at.result.1 c.remove.result within c.remove.ensures.value

pub returns-then-at-len-clause-left : goal.returns-then-at-len-clause-left
returns-then-at-len-clause-left g c =
    let full = c.args.self.now.full in
    let chunk = c.index_mut.result.now in
    let here = at_place full.items c.place-at.result.0 chunk (omega (arith, c.if-at-len.true, c.len.ensures, full.ok.0)) c.index_mut.ensures.value in
    let within = rw here at c.place-at.ensures.chunk in
    chunk_remove (λ chunk. chunk.items) full.items c.args.self.now.last.items c.place-at.result.0 c.place-at.result.1 c.args.number chunk c.remove.new.self here within c.place-at.ensures.sum c.remove.ensures.items

pub returns-then-left-len-clause-taken : goal.returns-then-left-len-clause-taken
returns-then-left-len-clause-taken g c =
    let full = c.args.self.now.full in
    let last = c.args.self.now.last in
    let whole = take_all c.place-at.result.0 full.items (omega (arith, c.if-at-len.false, c.len.ensures, full.ok.0)) in
    let sum : length (flat_map (λ chunk. chunk.items) full.items) + c.place-at.result.1 ≡ c.args.number = ap (λ l. length (flat_map (λ chunk. chunk.items) l) + c.place-at.result.1) (sym whole) ∙ c.place-at.ensures.sum in
    last_get (flat_map (λ chunk. chunk.items) full.items) last.items c.place-at.result.1 c.args.number sum
    ∙ at_place last.items c.place-at.result.1 c.remove-then-left-len.result (omega (arith, c.if-left-len.true, c.len-2.ensures, last.ok.0)) c.remove-then-left-len.ensures.value

pub returns-then-left-len-clause-left : goal.returns-then-left-len-clause-left
returns-then-left-len-clause-left g c =
    let full = c.args.self.now.full in
    let last = c.args.self.now.last in
    let whole = take_all c.place-at.result.0 full.items (omega (arith, c.if-at-len.false, c.len.ensures, full.ok.0)) in
    let sum : length (flat_map (λ chunk. chunk.items) full.items) + c.place-at.result.1 ≡ c.args.number = ap (λ l. length (flat_map (λ chunk. chunk.items) l) + c.place-at.result.1) (sym whole) ∙ c.place-at.ensures.sum in
    ap (λ l. flat_map (λ chunk. chunk.items) full.items ++ l) c.remove-then-left-len.ensures.items
    ∙ last_remove (flat_map (λ chunk. chunk.items) full.items) last.items c.place-at.result.1 c.args.number sum
