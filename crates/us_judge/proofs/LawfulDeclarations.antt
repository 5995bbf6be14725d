-- A valid declaration that no rule refuses is lawful.
use Rattle.std.proofs.Common.{◌≡◌, ℕ, ◌+◌, ◌≤◌, List, [], length, Bool, true, false, refl, sym, ◌∙◌, arith}
use Rattle.std.specs.Prelude.{None, not, nat_le, slice_index_or}
use Rattle.std.specs.List.{All}
use Rattle.std.proofs.lemmas.Bool.{and_parts, false≢true}
use Rattle.std.proofs.lemmas.Bool.Decides.{nat_tests}
use Rattle.std.proofs.lemmas.List.{length-map}
use Rattle.us_expr.specs.Tree.{RowIndex, ColIndex}
use Rattle.us_expr.specs.Value.{IsWithin}
use Rattle.us_format.specs.Lists.{among}
use Rattle.us_format.specs.Declaration.{Query, SumOf, Enumerate, Reorder, Schedule, Part, argument, defined}
use Rattle.us_format.specs.Known.{is_known}
use Rattle.us_format.specs.Rules.{has_lawful_argument, HasLanes, sum_variables, UsesDefined, IsLawful, ArePacksLawful}
use Rattle.us_format.proofs.Lawful.{argument-plain, uses-none}
use Rattle.us_format.proofs.Lookup.{not-true}
use Rattle.us_decl.specs.Declares.{DeclaredBody, Undivided, Divided, Declared, IsValid}
use Rattle.us_judge.specs.Acceptance.{first_failing, first_level, first_pack, unless, uses_only, uses_none, has_lawful_lanes, is_defined_once, bad_count, bad_name, bad_argument, bad_lanes, bad_sum, unknown_row, unknown_column, first_refusal}
use Rattle.us_judge.specs.Views.{part_of, declaration_of}
use Rattle.us_judge.specs.Laws.{AcceptedIsLawful}
use Rattle.us_judge.proofs.Valid.{IsShaped, shaped-valid}
use Rattle.us_judge.proofs.ValidExpressions.{HasSmallArgument, HasSmallLevels, arguments-valid, small-valid}
use Rattle.us_judge.proofs.NamesBelow.{HasNames, names-valid}
use Rattle.us_judge.proofs.Accepted.{none_first, none_second, all-pass, each-used, KeepsRules, accepted-keeps}
use Rattle.us_judge.proofs.DefinedOnce.{defined-once}
use Rattle.us_judge.proofs.LawfulPacks.{packs-lawful}

-- ---- tests

holds : (b : Bool) → unless b ≡ None → b ≡ true
holds true e = refl
holds false e = absurd cc

at-most : (a b : ℕ) → nat_le a b ≡ true → a ≤ b
at-most a b e = grind (arith, nat_tests)

-- ---- one part

module _ (p : Part) (kept : KeepsRules p) where
  -- at most six levels
  pub few-levels : length p.levels ≤ 6
  few-levels =
      let count : bad_count p ≡ None = kept 0 (1, bad_count) (omega arith) in
      at-most (length p.levels) 6 (and_parts (nat_le 1 (length p.levels)) (nat_le (length p.levels) 6) (holds _ count)).1

  names-kept : bad_name p ≡ None
  names-kept = kept 1 (1, bad_count) (omega arith)

  once-defined : first_failing is_defined_once [] 0 p.queries ≡ None
  once-defined = none_first (first_failing is_defined_once [] 0 p.queries) _ names-kept

  levels-defined : All (λ e. uses_only (defined p.queries) e ≡ true) p.levels
  levels-defined =
      all-pass (λ e. uses_only (defined p.queries) e) [] (first_level p) p.levels (none_second (first_failing is_defined_once [] 0 p.queries) _ names-kept)

  levels-unsummed : All (λ e. uses_none (sum_variables p.queries) e ≡ true) p.levels
  levels-unsummed =
      let kept-sums : bad_sum p ≡ None = kept 4 (1, bad_count) (omega arith) in
      all-pass (λ e. uses_none (sum_variables p.queries) e) [] (first_level p) p.levels kept-sums

  -- what a level uses is defined, and no sum
  levels-use : All (UsesDefined p.queries) p.levels
  levels-use = λ k d h v u. (
    each-used (λ w. among w (defined p.queries)) (slice_index_or p.levels k d) v (levels-defined k d h) u,
    not-true (among v (sum_variables p.queries)) (each-used (λ w. not (among w (sum_variables p.queries))) (slice_index_or p.levels k d) v (levels-unsummed k d h) u),
  )

  arguments-kept : All (λ q. has_lawful_argument q ≡ true) p.queries
  arguments-kept =
      let rule : bad_argument p.queries ≡ None = kept 2 (1, bad_count) (omega arith) in
      all-pass (λ q. has_lawful_argument q) [] 0 p.queries rule

  lanes-kept : All (λ q. has_lawful_lanes q ≡ true) p.queries
  lanes-kept =
      let rule : bad_lanes p.queries ≡ None = kept 3 (1, bad_count) (omega arith) in
      all-pass (λ q. has_lawful_lanes q) [] 0 p.queries rule

  some-lanes : (q : Query) → has_lawful_lanes q ≡ true → HasLanes q
  some-lanes (SumOf v e) h = tt
  some-lanes (Enumerate v e) h = tt
  some-lanes (Reorder v e) h = tt
  some-lanes (Schedule l t e n) h = omega (arith, at-most 1 n (and_parts (nat_le 1 n) (nat_le n 64) h).0)

  -- a lawful argument has no variable
  argument-within : (n : ℕ) (q : Query) → has_lawful_argument q ≡ true → HasSmallArgument q → IsWithin n (argument q)
  argument-within n q h small = small.within n (λ v u. absurd (false≢true (sym (uses-none (argument q) v (argument-plain q h)) ∙ u)))

  -- with names, small levels and small arguments it is lawful
  pub part-lawful : HasNames p → HasSmallLevels p → All HasSmallArgument p.queries → IsLawful p
  part-lawful named-below small asked =
      let row : unknown_row p ≡ None = kept 9 (1, bad_count) (omega arith) in
      let col : unknown_column p ≡ None = kept 10 (1, bad_count) (omega arith) in
      record {
        levels_valid = λ k d h. (small k d h).within p.names (named-below.levels k d h);
        arguments_valid = λ k d h. argument-within p.names (slice_index_or p.queries k d) (arguments-kept k d h) (asked k d h);
        named = named-below.queries;
        once = defined-once p.queries once-defined;
        arguments = arguments-kept;
        lanes = λ k d h. some-lanes (slice_index_or p.queries k d) (lanes-kept k d h);
        levels = levels-use;
        row_known = holds (is_known p.levels p.queries (length p.levels) RowIndex) row;
        col_known = holds (is_known p.levels p.queries (length p.levels) ColIndex) col;
      }

  pub part-packs : ArePacksLawful p
  part-packs = packs-lawful p (first_pack p) (kept 11 (1, bad_count) (omega arith))

-- ---- declarations

one-more : (b : DeclaredBody) (n : List ℕ) → IsShaped b → length (declaration_of (record { name = n; body = b })).parts ≡ length (declaration_of (record { name = n; body = b })).conds + 1
one-more (Undivided p) n s = refl
one-more (Divided h ps) n s = length-map ps part_of ∙ s.2

-- the parts of an accepted declaration are lawful, if it is valid
pub accepted-lawful : (x : Declared) → IsValid x → first_refusal (declaration_of x) ≡ None → All IsLawful (declaration_of x).parts
accepted-lawful x v e = λ k d h.
    part-lawful (slice_index_or (declaration_of x).parts k d) (accepted-keeps (declaration_of x) e k d h) (names-valid x v k d h) (small-valid x v k d h) (arguments-valid x v k d h)

-- their packs are lawful
pub accepted-packs : (x : Declared) → first_refusal (declaration_of x) ≡ None → All ArePacksLawful (declaration_of x).parts
accepted-packs x e = λ k d h. part-packs (slice_index_or (declaration_of x).parts k d) (accepted-keeps (declaration_of x) e k d h)

-- a valid declaration that no rule refuses is lawful
pub accepted-declaration : AcceptedIsLawful
accepted-declaration x v e = record {
  parts = accepted-lawful x v e;
  packs = accepted-packs x e;
  one_more = one-more x.body x.name (shaped-valid x v);
}
