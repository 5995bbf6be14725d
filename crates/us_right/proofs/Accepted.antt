-- An accepted declaration has some levels in each part, and few buffers.
use Rattle.std.proofs.Common.{◌≡◌, ℕ, suc, ◌+◌, ◌*◌, ◌≤◌, Bool, true, false, not, leb, ◌&&◌, refl, arith, List, [], ◌∷◌, length, sum_by, filter, length-append}
use Rattle.std.specs.Prelude.{None}
use Rattle.std.proofs.lemmas.Bool.Decides.{nat_tests}
use Rattle.std.proofs.lemmas.List.Elements.{All-head, All-tail}
use Rattle.std.specs.Prelude.{All}
use Rattle.std.proofs.lemmas.List.Sums.{sum_by-cons, length-filter, count_by-le-length}
use Rattle.us_expr.specs.Tree.{Tree}
use Rattle.us_format.specs.declared.Kind.{Kind}
use Rattle.us_format.specs.declared.Kind.TheVariants.{Full, Compressed, Listed, Slot}
use Rattle.us_format.specs.Lists.{when}
use Rattle.us_format.specs.Declaration.{Part, has_extent, has_table}
use Rattle.us_format.specs.Kinds.{kind}
use Rattle.us_format.specs.Packs.{Piece, level_pieces, pieces_from, pieces, is_packed}
use Rattle.us_format.specs.Reading.{buffer_count, total_count}
use Rattle.us_decl.specs.Declares.{Declared, IsValid}
use Rattle.us_judge.specs.Acceptance.{bad_count, first_refusal}
use Rattle.us_judge.specs.Short.{IsShort, AreShort}
use Rattle.us_judge.specs.Views.{declaration_of}
use Rattle.us_judge.proofs.Accepted.{KeepsRules, accepted-keeps}
use Rattle.us_judge.proofs.Valid.{short-valid}

some_of : (n : ℕ) (a b : Bool) → leb 1 n ≡ a → when {A = ℕ} (not (a && b)) 0 ≡ None → 1 ≤ n
some_of n true b e h = grind (arith, nat_tests)
some_of n false b e h = absurd cc

levels_some : (ps : List Part) → All KeepsRules ps → length ps ≤ sum_by (λ (p : Part). length p.levels) ps
levels_some [] h = omega arith
levels_some (p ∷ ps) h =
    let one : 1 ≤ length p.levels = some_of (length p.levels) (leb 1 (length p.levels)) (leb (length p.levels) 6) refl ((All-head KeepsRules p ps h) 0 (1, bad_count) (omega arith)) in
    omega (arith, one, sum_by-cons (λ (q : Part). length q.levels) p ps, levels_some ps (All-tail KeepsRules p ps h))

pub parts-some : (d : Declared) → first_refusal (declaration_of d) ≡ None → length (declaration_of d).parts ≤ sum_by (λ (p : Part). length p.levels) (declaration_of d).parts
parts-some d kept = levels_some (declaration_of d).parts (accepted-keeps (declaration_of d) kept)

-- ---- buffers

filter_few : {A : Type 0} (f : A → Bool) (xs : List A) → length (filter f xs) ≤ length xs
filter_few f xs = omega (arith, length-filter f xs, count_by-le-length f xs)

level_few : (k : ℕ) (x : Kind) → length (level_pieces k x) ≤ 2
level_few k Full = omega arith
level_few k Compressed = omega arith
level_few k Listed = omega arith
level_few k Slot = omega arith

pieces_few : (p : Part) (k : ℕ) (es : List Tree) → length (pieces_from p k es) ≤ 1 + 2 * length es
pieces_few p k [] = omega arith
pieces_few p k (e ∷ es) = omega (arith, length-append (level_pieces k (kind p k)) (pieces_from p (suc k) es), level_few k (kind p k), pieces_few p (suc k) es)

part_few : (p : Part) → IsShort p → buffer_count p ≤ 81
part_few p short =
    omega (
      arith,
      count_by-le-length has_extent p.queries,
      count_by-le-length has_table p.queries,
      filter_few (λ (x : Piece). not (is_packed p x)) (pieces p),
      pieces_few p 0 p.levels,
      short.queries,
      short.levels,
      short.packs,
    )

parts_few : (ps : List Part) → AreShort ps → sum_by buffer_count ps ≤ 81 * length ps
parts_few [] h = omega arith
parts_few (p ∷ ps) h = omega (arith, part_few p h.0, parts_few ps h.1, sum_by-cons buffer_count p ps)

pub buffers-few : (d : Declared) → IsValid d → total_count (declaration_of d) ≤ 324
buffers-few d valid = let short = short-valid d valid in omega (arith, parts_few (declaration_of d).parts short.parts, short.few)
