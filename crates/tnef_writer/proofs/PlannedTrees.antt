-- A tree that was planned, and whose length is known.
use Rattle.std.proofs.Common.{◌≡◌, ◌∙◌, refl, sym, subst, ℕ, ◌<◌, ◌≤◌, ◌++◌, List, [], length, None, arith, Bool, true, false}
use Rattle.std.proofs.lemmas.Bool.Decides.{nat_tests}
use Rattle.std.specs.Prelude.{nat_lt}
use Rattle.carrier_model.specs.Bytes.{MOST_BYTES}
use Rattle.carrier_model.specs.Keys.{Name}
use Rattle.carrier_model.specs.Limits.{Limit, too_many_names, where_passed, first_limit, tnef_limits}
use Rattle.tnef_model.specs.TnefCanonical.{tnef_of}
use Rattle.carrier_model.specs.Totals.{capped}
use Rattle.carrier_model.specs.Tree.{Message, messages_in, names_of}
use Rattle.tnef_writer.specs.MessagePlans.{Adds, plans_of}
use Rattle.tnef_writer.specs.Plans.{IsPlanned}
use Rattle.tnef_writer.specs.TreeStores.{stores_in, files_of, AllFit}
use Rattle.tnef_writer.specs.declared.planned.MessagePlan.{MessagePlan}
use Rattle.tnef_writer.proofs.FittingStores.{stores_fit}

not_passed : (b : Bool) (limit : Limit) → first_limit (where_passed b limit) ≡ None → b ≡ false
not_passed true limit e = absurd cc
not_passed false limit e = refl

few : (n : ℕ) → nat_lt 32000 n ≡ false → n ≤ 32000
few n e = grind (arith, nat_tests)

few_names : (t : Message) → first_limit (tnef_limits t) ≡ None → length (names_of t) ≤ 32000
few_names t e = few (length (names_of t)) (not_passed (nat_lt 32000 (length (names_of t))) (too_many_names (length (names_of t))) e)

-- the length of a stream that is too long for an output
pub too_large : (n size : ℕ) → size ≡ capped n → MOST_BYTES < size → MOST_BYTES < n
too_large n size e lt = omega (arith, e, lt)

exact : (n size : ℕ) → size ≡ capped n → size ≤ MOST_BYTES → size ≡ n
exact n size e le = omega (arith, e, le)

-- a tree was planned behind nothing, and its stream may be an output
pub tree_planned : (t u : Message) (names : List Name) (none plans : List MessagePlan) (no_files files : List (List ℕ)) (size : ℕ) → u ≡ t → names ≡ names_of t → first_limit (tnef_limits t) ≡ None → none ≡ [] → no_files ≡ [] → Adds names (messages_in u) (stores_in u) none plans no_files files → size ≡ capped (length (tnef_of t)) → size ≤ MOST_BYTES
    → IsPlanned t names plans files size
tree_planned t u names none plans no_files files size same is limits empty no_file adds e le =
    let long : size ≡ length (tnef_of t) = exact (length (tnef_of t)) size e le in
    let fits : length (tnef_of t) ≤ MOST_BYTES = subst (λ n. n ≤ MOST_BYTES) long le in
    let all : AllFit (stores_in u) = subst (λ v. AllFit (stores_in v)) (sym same) (stores_fit (names_of t) t fits) in
    record {
      names_are = is;
      plans_are = record {
        plans_are = adds.plans all ∙ (λ i. empty i ++ plans_of names (messages_in (same i)));
        files_are = adds.files all ∙ (λ i. no_file i ++ files_of (stores_in (same i)));
      };
      few = subst (λ (z : List Name). length z ≤ 32000) (sym is) (few_names t limits);
      size_is = long;
      fits = fits;
    }
