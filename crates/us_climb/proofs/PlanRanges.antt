-- The expressions of the plan of an accepted part have ranges.
use Rattle.std.proofs.Common.{◌≡◌, ℕ, ◌<◌, ◌≤◌, ◌^◌, List, [], length, get_or, true, sym, subst, arith}
use Rattle.std.specs.List.{All}
use Rattle.std.proofs.lemmas.List.FromFn.{length-map-range_with_len}
use Rattle.us_expr.specs.declared.ranges.Range.{Range}
use Rattle.us_expr.specs.Tree.{Tree, RowIndex}
use Rattle.us_expr.specs.Range.{range_at, IsRangeable}
use Rattle.us_format.specs.Matrix.{Shape}
use Rattle.us_format.specs.Declaration.{Part, argument}
use Rattle.us_format.specs.Coordinates.{variable_range, variable_ranges}
use Rattle.us_format.specs.Recover.{plan_of}
use Rattle.us_decl.specs.Declares.{Declared}
use Rattle.us_judge.specs.Acceptance.{bad_count, has_lawful_lanes}
use Rattle.us_judge.specs.Format.{part_at}
use Rattle.us_judge.specs.Views.{declaration_of}
use Rattle.us_judge.proofs.Accepted.{KeepsRules, accepted-keeps, all-pass}
use Rattle.us_judge.proofs.NamesBelow.{HasNames, names-valid}
use Rattle.us_judge.proofs.ValidExpressions.{UsesBelow, IsSmall, small-valid}
use Rattle.us_judge.proofs.VariableRanges.{HasNearEnds, ranges-near}
use Rattle.us_invert.proofs.PlanRanges.{plan-rangeable}
use Rattle.us_climb.specs.Own.{IsAccepted}
use Rattle.us_climb.proofs.Arguments.{arguments-plain, arguments-small}

module _ (d : Declared) (k : ℕ) (accepted : IsAccepted d) (there : k < length (declaration_of d).parts) (s : Shape) (ns : List ℕ) (rows : s.rows < 2 ^ 31) (cols : s.cols < 2 ^ 31) (few : All (λ n. n ≤ 2 ^ 31) ns) where
  abbrev p : Part
  p = part_at (declaration_of d) k

  abbrev vars : List Range
  vars = variable_ranges s ns p

  kept : KeepsRules p
  kept = accepted-keeps (declaration_of d) accepted.kept k _ there

  named : HasNames p
  named = names-valid d accepted.valid k _ there

  many : length vars ≡ p.names
  many = length-map-range_with_len (variable_range s ns p.queries) 0 p.names

  lawful_lanes : All (λ q. has_lawful_lanes q ≡ true) p.queries
  lawful_lanes = all-pass (λ q. has_lawful_lanes q) [] 0 p.queries (kept 3 (1, bad_count) (omega arith))

  ends : (v : ℕ) → v < length vars → HasNearEnds (range_at vars v)
  ends v h = ranges-near s rows cols p ns few lawful_lanes v (subst (λ n. v < n) many h)

  rangeable : (e : Tree) → IsSmall e → UsesBelow p.names e → IsRangeable vars e
  rangeable e small uses = record {
    small = small.nodes;
    within = small.within (length vars) (λ v u. subst (λ n. v < n) (sym many) (uses v u));
    low = λ v h. (ends v h).0;
    high = λ v h. (ends v h).1;
  }

  row_rangeable : IsRangeable vars RowIndex
  row_rangeable = record { small = omega arith; within = tt; low = λ v h. (ends v h).0; high = λ v h. (ends v h).1 }

  -- an expression without variables uses none
  none_below : (e : Tree) → UsesBelow 0 e → UsesBelow p.names e
  none_below e u v h = let no : v < 0 = u v h in absurd (omega arith)

  pub plan-ranged : All (λ x. IsRangeable (variable_ranges s ns (part_at (declaration_of d) k)) x.0) (plan_of (part_at (declaration_of d) k).levels (part_at (declaration_of d) k).queries)
  plan-ranged =
      plan-rangeable vars p.levels p.queries row_rangeable
      (λ j e l. rangeable (get_or p.levels j e) (small-valid d accepted.valid k _ there j e l) (named.levels j e l))
      (λ j q l. rangeable (argument (get_or p.queries j q)) (arguments-small d accepted.valid k _ there j q l) (none_below (argument (get_or p.queries j q)) (arguments-plain p kept j q l)))
