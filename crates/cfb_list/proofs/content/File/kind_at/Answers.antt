use Rattle.std.proofs.Common.{◌<◌, ◌++◌, ℕ, List, get_or, length, ap, ◌∙◌, arith}
use Rattle.std.specs.Prelude.{replicate}
use Rattle.cfb_list.specs.Contents.{file_children}
use Rattle.cfb_list.specs.Listed.{name_of, nothing, stream}
use Rattle.cfb_list.proofs.Rows.{row_count, row_kind}
use Rattle.cfb_list.proofs.content.File.kind_at.Goals as goal

pub unreachable-requires : goal.unreachable-requires
unreachable-requires g c = omega (arith, c.requires, row_count g.B.Blob.bytes c.args.self.now c.in-Row.front c.in-Row.list c.in-Row.zeros c.in-Row.is, c.in-None.ensures.lookup.3)

pub returns-in-Some : goal.returns-in-Some
returns-in-Some g c =
    let of = g.B.Blob.bytes in
    let lt : c.args.number < length c.in-Row.list.now = omega (arith, c.requires, row_count of c.args.self.now c.in-Row.front c.in-Row.list c.in-Row.zeros c.in-Row.is) in
    ap (λ (x : List ℕ). stream (name_of (get_or (file_children of c.args.self.now) c.args.number nothing)) (x ++ replicate c.in-Row.zeros 0)) (ap of c.in-Some.ensures.lookup.1)
    ∙ row_kind of c.args.self.now c.in-Row.front c.in-Row.list c.in-Row.zeros c.in-Row.is c.args.number c.in-Some.bytes.now lt
