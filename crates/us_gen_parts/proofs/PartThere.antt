-- A part of a format, its levels and its packs.
use Rattle.std.proofs.Common.{◌≡◌, ℕ, ◌+◌, ◌-◌, ◌*◌, ◌<◌, ◌≤◌, ◌^◌, length, sym, ap, subst, ◌∙◌, arith}
use Rattle.std.specs.Prelude.{None, replicate}
use Rattle.std.specs.List.{All}
use Rattle.std.proofs.lemmas.List.Elements.{All-replicate}
use Rattle.us_expr.specs.declared.ranges.Range.{Range}
use Rattle.us_expr.specs.Tree.{node_count}
use Rattle.us_expr.specs.Range.{IsNear, IsRangeable}
use Rattle.us_expr.proofs.Bounds.{near_more, range_near}
use Rattle.us_format.specs.Coordinates.{variable_ranges}
use Rattle.us_format.specs.Declaration.{Part}
use Rattle.us_format.specs.Matrix.{Shape}
use Rattle.us_format.specs.Reading.{buffer_count, pack_place}
use Rattle.us_decl.specs.Declares.{Declared, IsValid}
use Rattle.us_judge.specs.Acceptance.{first_refusal}
use Rattle.us_judge.specs.Format.{part_at, range_with}
use Rattle.us_judge.specs.Short.{IsShort}
use Rattle.us_judge.specs.Views.{declaration_of}
use Rattle.us_judge.proofs.Accepted.{level_at}
use Rattle.us_judge.proofs.SomePart.{short-part}
use Rattle.us_judge.proofs.VariableRanges.{level-has_range}
use Rattle.us_gen_parts.specs.Own.{IsPartOf}

pub is-part : (d : Declared) (number : ℕ) (p : Part) → IsValid d → first_refusal (declaration_of d) ≡ None → 1 ≤ number → number ≤ length (declaration_of d).parts → p ≡ part_at (declaration_of d) (number - 1)
    → IsPartOf d number p
is-part d number p valid kept from_one there is =
    let below : number - 1 < length (declaration_of d).parts = omega (arith, from_one, there) in
    record { valid = valid; accepted = kept; from_one = from_one; there = there; short = subst IsShort (sym is) (short-part d (number - 1) valid below); is = is }

-- as many buffers as stand before the packs, and the packs
pub packs-behind : (p q : Part) (n : ℕ) → n ≡ buffer_count q → p ≡ q → n ≡ pack_place p 0 + length p.packs
packs-behind p q n is same = is ∙ ap (λ (x : Part). buffer_count x) (sym same) ∙ omega arith

-- a level of the part is one of the format
pub level-there : (d : Declared) (number : ℕ) (p : Part) (k : ℕ) → IsPartOf d number p → k < length p.levels → k < length (part_at (declaration_of d) (number - 1)).levels
level-there d number p k at l = subst (λ (q : Part). k < length q.levels) at.is l

-- where no query has an extent
pub none-few : All (λ n. n ≤ 2 ^ 31) (replicate 16 0)
none-few = All-replicate (λ n. n ≤ 2 ^ 31) 16 0 (omega arith)

-- its range has ends of at most 2^37 in size
pub level-near : (d : Declared) (number : ℕ) (p : Part) (k : ℕ) (s : Shape) → IsPartOf d number p → k < length p.levels → s.rows < 2 ^ 31 → s.cols < 2 ^ 31
    → (r : Range) → r ≡ range_with s (replicate 16 0) (declaration_of d) (number - 1) k → (IsNear (2 ^ 37) r.lo) × (IsNear (2 ^ 37) r.hi)
level-near d number p k s at l rows cols r is =
    let below : number - 1 < length (declaration_of d).parts = omega (arith, at.from_one, at.there) in
    let it : IsRangeable (variable_ranges s (replicate 16 0) (part_at (declaration_of d) (number - 1))) (level_at d (number - 1) k) =
    level-has_range d (number - 1) k (record { valid = at.valid; accepted = at.accepted; part = below; level = level-there d number p k at l }) s (replicate 16 0) rows cols none-few in
    let near = range_near s.rows s.cols (variable_ranges s (replicate 16 0) (part_at (declaration_of d) (number - 1))) (level_at d (number - 1) k) rows cols (λ v b. (it.low v b, it.high v b)) it.within in (
      subst (λ (z : Range). IsNear (2 ^ 37) z.lo) (sym is) (near_more (node_count (level_at d (number - 1) k) * 2 ^ 31) (2 ^ 37) _ (omega (arith, it.small)) near.0),
      subst (λ (z : Range). IsNear (2 ^ 37) z.hi) (sym is) (near_more (node_count (level_at d (number - 1) k) * 2 ^ 31) (2 ^ 37) _ (omega (arith, it.small)) near.1),
    )
