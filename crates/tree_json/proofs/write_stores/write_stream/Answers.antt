use Rattle.tree_json.proofs.Objects.{stream_text}
use Rattle.tree_json.specs.Paths.{names_in}
use Rattle.json_writer.proofs.Counted.{andthen, failing, counts_as}
use Rattle.tree_json.proofs.write_stores.write_stream.Goals as goal

pub returns-in_err-append-clause-json : goal.returns-in_err-append-clause-json
returns-in_err-append-clause-json g c =
    counts_as _ (stream_text (names_in c.args.path.now) (g.B.Blob.bytes c.args.bytes.now)) (failing _ c.from_residual.ensures.0 c.in_err-append.ensures)

pub returns-in_err-write_digits-clause-json : goal.returns-in_err-write_digits-clause-json
returns-in_err-write_digits-clause-json g c =
    counts_as _ (stream_text (names_in c.args.path.now) (g.B.Blob.bytes c.args.bytes.now)) (andthen c.in_ok-append.ensures (failing _ c.from_residual-in_err-write_digits.ensures.0 c.in_err-write_digits.ensures.json))

pub returns-in_err-append-2-clause-json : goal.returns-in_err-append-2-clause-json
returns-in_err-append-2-clause-json g c =
    counts_as _ (stream_text (names_in c.args.path.now) (g.B.Blob.bytes c.args.bytes.now)) (andthen c.in_ok-append.ensures (andthen c.in_ok-write_digits.ensures.json (failing _ c.from_residual-in_err-append-2.ensures.0 c.in_err-append-2.ensures)))

pub returns-in_err-write_path-clause-json : goal.returns-in_err-write_path-clause-json
returns-in_err-write_path-clause-json g c =
    counts_as _ (stream_text (names_in c.args.path.now) (g.B.Blob.bytes c.args.bytes.now)) (andthen c.in_ok-append.ensures (andthen c.in_ok-write_digits.ensures.json (andthen c.in_ok-append-2.ensures (failing _ c.from_residual-in_err-write_path.ensures.0 c.in_err-write_path.ensures))))

pub returns-clause-json : goal.returns-clause-json
returns-clause-json g c =
    counts_as _ (stream_text (names_in c.args.path.now) (g.B.Blob.bytes c.args.bytes.now)) (andthen c.in_ok-append.ensures (andthen c.in_ok-write_digits.ensures.json (andthen c.in_ok-append-2.ensures (andthen c.in_ok-write_path.ensures c.append-3.ensures))))
