use Rattle.std.proofs.Common.{◌∙◌, sym, map, arith}
use Rattle.json_values.specs.Keys.{is_among}
use Rattle.json_values.proofs.Keys.{all_keys, fails_here, holds_to_end}
use Rattle.json_values.proofs.parts.has_only.Goals as goal

pub returns-then-not-is_among : goal.returns-then-not-is_among
returns-then-not-is_among c =
    let among = is_among (map (λ name. name.now) c.args.names.now) in
    let items = c.unboxed-member-items.result.now in
    fails_here among items c.loop-member.member-index c.loop-member.invariant c.member-item.result (omega (arith, c.loop-member-test.true)) c.member-item.is (sym c.is_among.ensures ∙ c.if-not-is_among.true)
    ∙ all_keys among c.in-Object.members items c.args.value.now c.unboxed-member-items.ensures c.in-Object.is

pub returns : goal.returns
returns c =
    let among = is_among (map (λ name. name.now) c.args.names.now) in
    let items = c.unboxed-member-items.result.now in
    holds_to_end among items c.loop-member.member-index c.loop-member.invariant (omega (arith, c.loop-member-test.false))
    ∙ all_keys among c.in-Object.members items c.args.value.now c.unboxed-member-items.ensures c.in-Object.is
