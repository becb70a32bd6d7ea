use Rattle.std.proofs.Common.{List, ℕ, sym, subst}
use Rattle.std.proofs.lemmas.Fmt.{decimal_digit}
use Rattle.carrier_io.specs.Known.{Writes}
use Rattle.prop_names.proofs.number_texts.write_decimal.Goals as goal

pub returns-then-n-lt10 : goal.returns-then-n-lt10
returns-then-n-lt10 g c = subst (λ (z : List ℕ). Writes (g.W.Sink.held c.args.sink.now) (g.W.Sink.held c.write_pieces.new.sink) (g.W.Sink.faults c.args.sink.now) (g.W.Sink.faults c.write_pieces.new.sink) c.write_pieces.result z) (sym (decimal_digit c.args.n c.if-n-lt10.true)) c.write_pieces.ensures
