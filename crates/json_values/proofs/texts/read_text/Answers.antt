use Rattle.std.proofs.Common.{◌≡◌, [], Some, None, arith, rules}
use Rattle.json.specs.Lex.{tokens}
use Rattle.json_values.specs.Ranges.{ranged_value}
use Rattle.json_values.specs.Values.{value_view}
use Rattle.json_values.proofs.Converted.{read_whole, read_none, read_front}
use Rattle.json_values.proofs.texts.read_text.Goals as goal

pub returns-in_err-value-clause-none : goal.returns-in_err-value-clause-none
returns-in_err-value-clause-none c is =
    let none : ranged_value 127 (tokens c.args.text.now) ≡ None = grind arith in
    read_none c.args.text.now none

pub returns-then-is_some-clause-none : goal.returns-then-is_some-clause-none
returns-then-is_some-clause-none c is =
    let front : ranged_value 127 (tokens c.args.text.now) ≡ Some (value_view c.in_ok-value.value, c.read_value.new.reader) = rw c.in_ok-reader.ensures.ok at c.in_ok-value.ensures.ok in
    read_front c.args.text.now (value_view c.in_ok-value.value) c.read_value.new.reader front (λ e. grind arith)

pub returns-clause-ok : goal.returns-clause-ok
returns-clause-ok c =
    let v = c.in_ok-value.value in
    let none : c.read_value.new.reader ≡ [] = search rules in
    let all : ranged_value 127 (tokens c.args.text.now) ≡ Some (value_view v, []) = rw (c.in_ok-reader.ensures.ok, none) at c.in_ok-value.ensures.ok in
    read_whole c.args.text.now (value_view v) all
