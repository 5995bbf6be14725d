-- A valid declaration that no rule refuses has few levels and queries, and its schedules take few turns.
use Rattle.std.specs.Prelude.{None, nat_le}
use Rattle.std.specs.List.{sum_by}
use Rattle.std.proofs.Common.{◌≡◌, ℕ, suc, ◌+◌, ◌*◌, ◌^◌, ◌<◌, ◌≤◌, List, [], ◌∷◌, length, true, arith, All}
use Rattle.std.proofs.lemmas.Bool.{and_parts}
use Rattle.std.proofs.lemmas.Bool.Decides.{nat_tests}
use Rattle.std.proofs.lemmas.List.Elements.{All-nil, All-head, All-tail}
use Rattle.std.proofs.lemmas.List.Sums.{sum_by-cons}
use Rattle.std.proofs.lemmas.Nat.{mul-le}
use Rattle.us_expr.specs.declared.queries.Cond.{Cond}
use Rattle.us_format.specs.Declaration.{Query, SumOf, Enumerate, Reorder, Schedule, Part, Declaration}
use Rattle.us_format.specs.Matrix.{Shape}
use Rattle.us_decl.specs.Declares.{Declared, DeclaredBody, Undivided, Divided, IsValid}
use Rattle.us_judge.specs.Acceptance.{bad_count, bad_head_name, first_refusal, has_lawful_lanes, head_refusal, head_rules, parts_refusal, refusal_by}
use Rattle.us_judge.specs.Short.{AreShort}
use Rattle.us_judge.specs.Views.{declaration_of}
use Rattle.us_judge.proofs.Accepted.{accepted-keeps, all-kept, all-pass, none_first}
use Rattle.us_judge.proofs.Valid.{IsShaped, shaped-valid, short-valid}
use Rattle.us_gen_listing.specs.Unpack.{level_count, query_count}
use Rattle.us_right.specs.Right.{lane_turns, turns}

-- ---- lanes

-- each schedule has at most 64 lanes
abbrev HaveFewLanes : List Query → Type 0
HaveFewLanes qs = All (λ q. has_lawful_lanes q ≡ true) qs

parts-lanes : (d : Declaration) → first_refusal d ≡ None → All (λ p. HaveFewLanes p.queries) d.parts
parts-lanes d e = λ k x h. all-pass has_lawful_lanes [] 0 _ (accepted-keeps d e k x h 3 (1, bad_count) (omega arith))

kept_head : (names : ℕ) (qs : List Query) (cs : List Cond) (ps : List Part) → 1 ≤ length cs → head_refusal (record { head_names = names; head = qs; conds = cs; parts = ps }) ≡ None
    → refusal_by head_rules 0 (record { head_names = names; head = qs; conds = cs; parts = ps }) ≡ None
kept_head names qs [] ps l e = absurd (omega (arith, l))
kept_head names qs (c ∷ cs) ps l e = e

lanes-kept : (d : Declaration) → 1 ≤ length d.conds → head_refusal d ≡ None → HaveFewLanes d.head
lanes-kept d l e = all-pass has_lawful_lanes [] 0 d.head (all-kept head_rules 0 d (kept_head d.head_names d.head d.conds d.parts l e) 2 (2, bad_head_name) (omega arith))

lanes-of : (n : List ℕ) (b : DeclaredBody) → IsShaped b → head_refusal (declaration_of (record { name = n; body = b })) ≡ None → HaveFewLanes (declaration_of (record { name = n; body = b })).head
lanes-of n (Undivided p) shape e = All-nil (λ q. has_lawful_lanes q ≡ true)
lanes-of n (Divided h ps) shape e = lanes-kept (declaration_of (record { name = n; body = Divided h ps })) shape.0 e

head-lanes : (d : Declared) → IsValid d → first_refusal (declaration_of d) ≡ None → HaveFewLanes (declaration_of d).head
head-lanes d v e = lanes-of d.name d.body (shaped-valid d v) (none_first (head_refusal (declaration_of d)) (parts_refusal 1 (declaration_of d).parts) e)

-- ---- turns

at-most : (a b : ℕ) → nat_le a b ≡ true → a ≤ b
at-most a b e = grind (arith, nat_tests)

module _ (s : Shape) (r : s.rows < 2 ^ 31) (c : s.cols < 2 ^ 31) where
  few-lane-turns : (qs : List Query) → HaveFewLanes qs → lane_turns s qs ≤ length qs * 279172874240
  few-lane-turns [] h = omega arith
  few-lane-turns (SumOf v e ∷ qs) h = omega (arith, few-lane-turns qs (All-tail (λ q. has_lawful_lanes q ≡ true) (SumOf v e) qs h))
  few-lane-turns (Enumerate v e ∷ qs) h = omega (arith, few-lane-turns qs (All-tail (λ q. has_lawful_lanes q ≡ true) (Enumerate v e) qs h))
  few-lane-turns (Reorder v e ∷ qs) h = omega (arith, few-lane-turns qs (All-tail (λ q. has_lawful_lanes q ≡ true) (Reorder v e) qs h))
  few-lane-turns (Schedule l t e n ∷ qs) h =
      let lanes : n ≤ 64 = at-most n 64 (and_parts (nat_le 1 n) (nat_le n 64) (All-head (λ q. has_lawful_lanes q ≡ true) (Schedule l t e n) qs h)).1 in
      let one : suc n * (s.rows + s.cols) ≤ 65 * 4294967296 = mul-le (suc n) (s.rows + s.cols) 65 4294967296 (omega (arith, lanes)) (omega (arith, r, c)) in
      omega (arith, one, few-lane-turns qs (All-tail (λ q. has_lawful_lanes q ≡ true) (Schedule l t e n) qs h))

  few-part-turns : (ps : List Part) → AreShort ps → All (λ p. HaveFewLanes p.queries) ps → sum_by (λ p. lane_turns s p.queries) ps ≤ length ps * 4466765987840
  few-part-turns [] short h = omega arith
  few-part-turns (p ∷ ps) short h =
      omega (
        arith,
        sum_by-cons (λ (x : Part). lane_turns s x.queries) p ps,
        few-lane-turns p.queries (All-head (λ (x : Part). HaveFewLanes x.queries) p ps h),
        short.0.queries,
        few-part-turns ps short.1 (All-tail (λ (x : Part). HaveFewLanes x.queries) p ps h),
      )

  -- at most 80 schedules of 64 lanes
  pub few-turns : (d : Declared) → IsValid d → first_refusal (declaration_of d) ≡ None → turns s (declaration_of d) ≤ 22333829939200
  few-turns d v e =
      let short = short-valid d v in
      omega (
        arith,
        few-lane-turns (declaration_of d).head (head-lanes d v e),
        short.head,
        few-part-turns (declaration_of d).parts short.parts (parts-lanes (declaration_of d) e),
        short.few,
      )

-- ---- levels and queries

levels-within : (ps : List Part) → AreShort ps → sum_by (λ p. length p.levels) ps ≤ length ps * 16
levels-within [] h = omega arith
levels-within (p ∷ ps) h = omega (arith, sum_by-cons (λ (x : Part). length x.levels) p ps, h.0.levels, levels-within ps h.1)

queries-within : (ps : List Part) → AreShort ps → sum_by (λ p. length p.queries) ps ≤ length ps * 16
queries-within [] h = omega arith
queries-within (p ∷ ps) h = omega (arith, sum_by-cons (λ (x : Part). length x.queries) p ps, h.0.queries, queries-within ps h.1)

pub few-levels : (d : Declared) → IsValid d → level_count (declaration_of d) ≤ 64
few-levels d v = let short = short-valid d v in omega (arith, levels-within (declaration_of d).parts short.parts, short.few)

pub few-queries : (d : Declared) → IsValid d → query_count (declaration_of d) ≤ 80
few-queries d v = let short = short-valid d v in omega (arith, queries-within (declaration_of d).parts short.parts, short.few, short.head)
