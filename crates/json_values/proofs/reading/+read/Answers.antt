use Rattle.std.proofs.Common.{◌≡◌, ◌∙◌, ◌-◌, ◌<◌, [], ◌∷◌, ◌++◌, length, Some, None, sym, ap, ap₂, subst, arith, rules}
use Rattle.json.specs.Token.{Token}
use Rattle.json.specs.Json.{Json, array, object, parse_map, after_end_array, read_key, items, members, value}
use Rattle.json.specs.Reads.{token_of}
use Rattle.json_values.specs.Values.{value_view, json_items, json_members}
use Rattle.json_values.specs.declared.value.Value.{String, Bool, Null, the_lemmas}
use Rattle.json_values.specs.Ranges.{in_range, only, ranged_value}
use Rattle.json_values.specs.declared.texts.TextEnd.TheVariants.{NotJson}
use Rattle.json_values.proofs.Ranged.{ranged_array, ranged_object, number_read, number_refused}
use Rattle.json.proofs.Grammar.{value_is, read_key-shorter, items_end, items_fail, items_more, members_end, members_no_key, members_fail, members_more}
use Rattle.json_values.proofs.Values.{array_seen, object_seen, items_before, members_before, all_items, all_members, one_more_item, one_more_member}
use Rattle.json_values.proofs.reading.+read.Goals as goal

-- ---- the elements of an array

pub read_items-returns-in_err-item-clause-none : goal.read_items-returns-in_err-item-clause-none
read_items-returns-in_err-item-clause-none t c refused =
    let p = ranged_value c.args.levels in
    let l = c.loop-alloc in
    let going : (after_end_array l.reader ≡ None) × (c.take_end_array.new.self ≡ l.reader) = grind arith in
    let failed : p c.take_end_array.new.self ≡ None = grind arith in
    l.invariant.2 ∙ ap (parse_map (items_before l.found.items)) (items_fail p l.invariant.0 l.reader going.0 (rw (← going.1) failed))

pub read_items-loop-alloc-preserved : goal.read_items-loop-alloc-preserved
read_items-loop-alloc-preserved t c =
    let p = ranged_value c.args.levels in
    let l = c.loop-alloc in
    let n = l.invariant.0 in
    let v = c.in_ok-item.item in
    let rest = c.read_value.new.reader in
    let going : (after_end_array l.reader ≡ None) × (c.take_end_array.new.self ≡ l.reader) = grind arith in
    let less : length rest < length l.reader = rw (← going.1) c.in_ok-item.ensures.shorter in
    let pushed : c.put_behind.new.list.items ≡ l.found.items ++ v ∷ [] = search rules in
    let turn = items_more p n l.reader rest (value_view v) (omega (arith, l.invariant.1)) going.0 (rw (← going.1) c.in_ok-item.ensures.ok) in (
      n - 1,
      omega (arith, l.invariant.1),
      l.invariant.2 ∙ (ap (parse_map (items_before l.found.items)) turn ∙ (one_more_item l.found.items v (items p (n - 1) rest) ∙ ap (λ vs. parse_map (items_before vs) (items p (n - 1) rest)) (sym pushed))),
      omega (arith, l.invariant.3),
    )

pub read_items-returns-clause-ok : goal.read_items-returns-clause-ok
read_items-returns-clause-ok t c =
    let p = ranged_value c.args.levels in
    let l = c.loop-alloc in
    let rest = c.take_end_array.new.self in
    let closed : after_end_array l.reader ≡ Some rest = grind arith in
    l.invariant.2
    ∙ (ap (parse_map (items_before l.found.items)) (items_end p l.invariant.0 l.reader rest l.invariant.1 closed)
    ∙ (ap (λ js. Some (js, rest)) (all_items l.found.items) ∙ ap (λ vs. Some (json_items vs, rest)) (sym c.shrink_to_fit.ensures.items)))

-- ---- the members of an object

pub read_members-returns-in_err-key-clause-none : goal.read_members-returns-in_err-key-clause-none
read_members-returns-in_err-key-clause-none t c refused =
    let l = c.loop-found in
    l.invariant.2 ∙ ap (parse_map (members_before l.found.items)) (members_no_key (ranged_value c.args.levels) l.invariant.0 l.reader c.in_err-key.ensures.value)

pub read_members-returns-in_err-member-clause-none : goal.read_members-returns-in_err-member-clause-none
read_members-returns-in_err-member-clause-none t c refused =
    let p = ranged_value c.args.levels in
    let l = c.loop-found in
    let k = c.in-Some.key.now in
    let behind = c.next_key.new.self in
    let key : read_key l.reader ≡ Some (Some k, behind) = grind arith in
    let failed : p behind ≡ None = grind arith in
    l.invariant.2 ∙ ap (parse_map (members_before l.found.items)) (members_fail p l.invariant.0 k l.reader behind key failed)

pub read_members-loop-found-preserved : goal.read_members-loop-found-preserved
read_members-loop-found-preserved t c =
    let p = ranged_value c.args.levels in
    let l = c.loop-found in
    let n = l.invariant.0 in
    let k = c.in-Some.key.now in
    let behind = c.next_key.new.self in
    let key : read_key l.reader ≡ Some (Some k, behind) = grind arith in
    let v = c.in_ok-member.member in
    let rest = c.read_value.new.reader in
    let less = read_key-shorter l.reader (Some k) behind key in
    let lesser = c.in_ok-member.ensures.shorter in
    let pushed : c.put_behind.new.list.items ≡ l.found.items ++ (c.in-Some.key, v) ∷ [] = search rules in
    let turn = members_more p n k l.reader behind rest (value_view v) (omega (arith, l.invariant.1)) key c.in_ok-member.ensures.ok in (
      n - 1,
      omega (arith, l.invariant.1),
      l.invariant.2 ∙ (ap (parse_map (members_before l.found.items)) turn ∙ (one_more_member l.found.items (c.in-Some.key, v) (members p (n - 1) rest)
          ∙ ap (λ ms. parse_map (members_before ms) (members p (n - 1) rest)) (sym pushed))),
      omega (arith, l.invariant.3),
    )

pub read_members-returns-clause-ok : goal.read_members-returns-clause-ok
read_members-returns-clause-ok t c =
    let p = ranged_value c.args.levels in
    let l = c.loop-found in
    let rest = c.next_key.new.self in
    let closed : read_key l.reader ≡ Some (None, rest) = grind arith in
    l.invariant.2
    ∙ (ap (parse_map (members_before l.found.items)) (members_end p l.invariant.0 l.reader rest l.invariant.1 closed)
    ∙ (ap (λ ms. Some (ms, rest)) (all_members l.found.items) ∙ ap (λ ms. Some (json_members ms, rest)) (sym c.shrink_to_fit.ensures.items)))

-- ---- a value

pub read_value-returns-in_err-token-clause-none : goal.read_value-returns-in_err-token-clause-none
read_value-returns-in_err-token-clause-none t c refused =
    let none : c.args.reader.now ≡ [] = grind arith in
    ap (ranged_value c.args.levels) none ∙ ap (only in_range) (value_is c.args.levels [])

pub read_value-returns-in_err-inner-in-BeginArray-clause-none :
    goal.read_value-returns-in_err-inner-in-BeginArray-clause-none
unfolding value
read_value-returns-in_err-inner-in-BeginArray-clause-none t c refused =
    let first : c.args.reader.now ≡ token_of c.in_ok-token.token ∷ c.next.new.self = grind arith in
    let none : c.args.levels ≡ 0 = c.in_err-inner-in-BeginArray.ensures.none.1 in
    ap₂ ranged_value none (first ∙ ap (λ k. token_of k ∷ c.next.new.self) c.in-BeginArray.is)

pub read_value-returns-in_err-read_items-in-BeginArray-clause-none :
    goal.read_value-returns-in_err-read_items-in-BeginArray-clause-none
read_value-returns-in_err-read_items-in-BeginArray-clause-none t c refused =
    let first : c.args.reader.now ≡ token_of c.in_ok-token.token ∷ c.next.new.self = grind arith in
    let inner = c.in_ok-inner-in-BeginArray.ensures.ok in
    let failed : items (ranged_value (c.args.levels - 1)) (length c.next.new.self) c.next.new.self ≡ None = grind (arith, inner.1) in
    ap (ranged_value c.args.levels) (first ∙ ap (λ k. token_of k ∷ c.next.new.self) c.in-BeginArray.is) ∙ (ranged_array c.args.levels c.next.new.self inner.0 ∙ ap (parse_map array) failed)

pub read_value-returns-in_err-inner-in-BeginObject-clause-none :
    goal.read_value-returns-in_err-inner-in-BeginObject-clause-none
unfolding value
read_value-returns-in_err-inner-in-BeginObject-clause-none t c refused =
    let first : c.args.reader.now ≡ token_of c.in_ok-token.token ∷ c.next.new.self = grind arith in
    let none : c.args.levels ≡ 0 = c.in_err-inner-in-BeginObject.ensures.none.1 in
    ap₂ ranged_value none (first ∙ ap (λ k. token_of k ∷ c.next.new.self) c.in-BeginObject.is)

pub read_value-returns-in_err-read_members-in-BeginObject-clause-none :
    goal.read_value-returns-in_err-read_members-in-BeginObject-clause-none
read_value-returns-in_err-read_members-in-BeginObject-clause-none t c refused =
    let first : c.args.reader.now ≡ token_of c.in_ok-token.token ∷ c.next.new.self = grind arith in
    let inner = c.in_ok-inner-in-BeginObject.ensures.ok in
    let failed : members (ranged_value (c.args.levels - 1)) (length c.next.new.self) c.next.new.self ≡ None = grind (arith, inner.1) in
    ap (ranged_value c.args.levels) (first ∙ ap (λ k. token_of k ∷ c.next.new.self) c.in-BeginObject.is) ∙ (ranged_object c.args.levels c.next.new.self inner.0 ∙ ap (parse_map object) failed)

pub read_value-returns-in-String-clause-ok : goal.read_value-returns-in-String-clause-ok
read_value-returns-in-String-clause-ok t c =
    let first : c.args.reader.now ≡ token_of c.in_ok-token.token ∷ c.next.new.self = grind arith in
    let is : c.args.reader.now ≡ Token.string c.in-String.text.now ∷ c.next.new.self = grind (arith, first) in
    let seen : value_view (String c.in-String.text) ≡ Json.string c.in-String.text.now = search (rules, the_lemmas) in
    ap (ranged_value c.args.levels) is ∙ (ap (only in_range) (value_is c.args.levels (Token.string c.in-String.text.now ∷ c.next.new.self)) ∙ ap (λ j. Some (j, c.next.new.self)) (sym seen))

pub read_value-returns-in-Number-clause-ok : goal.read_value-returns-in-Number-clause-ok
read_value-returns-in-Number-clause-ok t c =
    let first : c.args.reader.now ≡ token_of c.in_ok-token.token ∷ c.next.new.self = grind arith in
    let is : c.args.reader.now ≡ Token.number c.in-Number.text.now ∷ c.next.new.self = grind (arith, first) in
    number_read c.args.levels c.in-Number.text.now c.args.reader.now c.next.new.self c.number_in_range.result is c.number_in_range.ensures.ok

pub read_value-returns-in-Number-clause-none : goal.read_value-returns-in-Number-clause-none
read_value-returns-in-Number-clause-none t c refused =
    let first : c.args.reader.now ≡ token_of c.in_ok-token.token ∷ c.next.new.self = grind arith in
    let is : c.args.reader.now ≡ Token.number c.in-Number.text.now ∷ c.next.new.self = grind (arith, first) in
    number_refused c.args.levels c.in-Number.text.now c.args.reader.now c.next.new.self c.number_in_range.result NotJson is c.number_in_range.ensures.none refused

pub read_value-returns-in-Bool-clause-ok : goal.read_value-returns-in-Bool-clause-ok
read_value-returns-in-Bool-clause-ok t c =
    let first : c.args.reader.now ≡ token_of c.in_ok-token.token ∷ c.next.new.self = grind arith in
    let is : c.args.reader.now ≡ Token.boolean c.in-Bool.truth ∷ c.next.new.self = grind (arith, first) in
    let seen : value_view (Bool c.in-Bool.truth) ≡ Json.boolean c.in-Bool.truth = search (rules, the_lemmas) in
    ap (ranged_value c.args.levels) is ∙ (ap (only in_range) (value_is c.args.levels (Token.boolean c.in-Bool.truth ∷ c.next.new.self)) ∙ ap (λ j. Some (j, c.next.new.self)) (sym seen))

pub read_value-returns-in-Null-clause-ok : goal.read_value-returns-in-Null-clause-ok
read_value-returns-in-Null-clause-ok t c =
    let first : c.args.reader.now ≡ token_of c.in_ok-token.token ∷ c.next.new.self = grind arith in
    let is : c.args.reader.now ≡ Token.null ∷ c.next.new.self = grind (arith, first) in
    let seen : value_view Null ≡ Json.null = search (rules, the_lemmas) in
    ap (ranged_value c.args.levels) is ∙ (ap (only in_range) (value_is c.args.levels (Token.null ∷ c.next.new.self)) ∙ ap (λ j. Some (j, c.next.new.self)) (sym seen))

pub read_value-returns-in_ok-boxed-in-BeginArray-clause-ok :
    goal.read_value-returns-in_ok-boxed-in-BeginArray-clause-ok
read_value-returns-in_ok-boxed-in-BeginArray-clause-ok t c =
    let first : c.args.reader.now ≡ token_of c.in_ok-token.token ∷ c.next.new.self = grind arith in
    let inner = c.in_ok-inner-in-BeginArray.ensures.ok in
    let found = c.in_ok-read_items-in-BeginArray in
    let boxed = c.in_ok-boxed-in-BeginArray in
    let read : items (ranged_value (c.args.levels - 1)) (length c.next.new.self) c.next.new.self ≡ Some (json_items found.field-0.items, c.read_items.new.reader) = subst (λ n. items (ranged_value n) (length c.next.new.self) c.next.new.self ≡ Some (json_items found.field-0.items, c.read_items.new.reader)) inner.1 found.ensures.ok in
    ap (ranged_value c.args.levels) (first ∙ ap (λ k. token_of k ∷ c.next.new.self) c.in-BeginArray.is) ∙ (ranged_array c.args.levels c.next.new.self inner.0
    ∙ (ap (parse_map array) read ∙ ap (λ j. Some (j, c.read_items.new.reader)) (sym (array_seen boxed.field-0 ∙ ap (λ vs. array (json_items vs)) boxed.ensures.ok))))

pub read_value-returns-in_ok-boxed-in-BeginObject-clause-ok :
    goal.read_value-returns-in_ok-boxed-in-BeginObject-clause-ok
read_value-returns-in_ok-boxed-in-BeginObject-clause-ok t c =
    let first : c.args.reader.now ≡ token_of c.in_ok-token.token ∷ c.next.new.self = grind arith in
    let inner = c.in_ok-inner-in-BeginObject.ensures.ok in
    let found = c.in_ok-read_members-in-BeginObject in
    let boxed = c.in_ok-boxed-in-BeginObject in
    let read : members (ranged_value (c.args.levels - 1)) (length c.next.new.self) c.next.new.self ≡ Some (json_members found.field-0.items, c.read_members.new.reader) = subst (λ n. members (ranged_value n) (length c.next.new.self) c.next.new.self ≡ Some (json_members found.field-0.items, c.read_members.new.reader)) inner.1 found.ensures.ok in
    ap (ranged_value c.args.levels) (first ∙ ap (λ k. token_of k ∷ c.next.new.self) c.in-BeginObject.is) ∙ (ranged_object c.args.levels c.next.new.self inner.0
    ∙ (ap (parse_map object) read ∙ ap (λ j. Some (j, c.read_members.new.reader)) (sym (object_seen boxed.field-0 ∙ ap (λ ms. object (json_members ms)) boxed.ensures.ok))))

pub read_value-returns-in-EndArray-clause-none : goal.read_value-returns-in-EndArray-clause-none
read_value-returns-in-EndArray-clause-none t c refused =
    let first : c.args.reader.now ≡ token_of c.in_ok-token.token ∷ c.next.new.self = grind arith in
    rw (value_is c.args.levels c.args.reader.now, first) (grind arith)
