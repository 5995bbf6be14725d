-- Bounds on the number of buffers of a format.
use Rattle.std.proofs.Common.{◌≡◌, ℕ, suc, ◌+◌, ◌*◌, ◌^◌, ◌≤◌, ◌<◌, List, [], ◌∷◌, length, refl, sym, subst, arith, length-append}
use Rattle.std.specs.Prelude.{not}
use Rattle.std.specs.List.{sum_by}
use Rattle.std.proofs.lemmas.List.Sums.{length-filter, count_by-le-length, sum_by-cons}
use Rattle.us_expr.specs.Tree.{Tree}
use Rattle.us_format.specs.declared.Kind.{Kind}
use Rattle.us_format.specs.declared.Kind.TheVariants.{Full, Compressed, Listed, Slot}
use Rattle.us_format.specs.Declaration.{Part, has_extent, has_table}
use Rattle.us_format.specs.Kinds.{kind}
use Rattle.us_format.specs.Packs.{level_pieces, pieces_from, pieces, is_packed, own_pieces}
use Rattle.us_format.specs.Reading.{buffer_count, total_count}
use Rattle.us_decl.specs.Declares.{Declared, IsValid}
use Rattle.us_judge.specs.Views.{declaration_of}
use Rattle.us_judge.specs.Short.{IsShort, AreShort}
use Rattle.us_judge.proofs.Valid.{short-valid}

few_of_level : (k : ℕ) (d : Kind) → length (level_pieces k d) ≤ 2
few_of_level k Full = omega arith
few_of_level k Compressed = omega arith
few_of_level k Listed = omega arith
few_of_level k Slot = omega arith

few_pieces : (p : Part) (k : ℕ) (es : List Tree) → length (pieces_from p k es) ≤ 2 * length es + 1
few_pieces p k [] = omega arith
few_pieces p k (e ∷ es) = omega (arith, length-append (level_pieces k (kind p k)) (pieces_from p (suc k) es), few_of_level k (kind p k), few_pieces p (suc k) es)

few_buffers : (p : Part) → IsShort p → buffer_count p ≤ 81
few_buffers p h =
    let own : length (own_pieces p) ≤ length (pieces p) = omega (arith, length-filter (λ x. not (is_packed p x)) (pieces p), count_by-le-length (λ x. not (is_packed p x)) (pieces p)) in
    let all : length (pieces p) ≤ 2 * length p.levels + 1 = few_pieces p 0 p.levels in
    omega (arith, h.queries, h.levels, h.packs, count_by-le-length has_extent p.queries, count_by-le-length has_table p.queries)

few_of_all : (ps : List Part) → AreShort ps → sum_by buffer_count ps ≤ 81 * length ps
few_of_all [] h = omega arith
few_of_all (p ∷ ps) h = omega (arith, sum_by-cons buffer_count p ps, few_buffers p h.0, few_of_all ps h.1)

-- a format has few buffers
pub few_in_all : (d : Declared) (n : ℕ) → IsValid d → n ≡ total_count (declaration_of d) → n < 2 ^ 64
few_in_all d n v e =
    let short = short-valid d v in
    let all : sum_by buffer_count (declaration_of d).parts ≤ 81 * length (declaration_of d).parts = few_of_all (declaration_of d).parts short.parts in
    omega (arith, short.few)
