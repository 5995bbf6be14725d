-- What is known of buffers that fit: that they are few, that the extents fit, and which are the tables.
use Rattle.std.proofs.Common.{◌≡◌, ℕ, suc, ◌+◌, ◌*◌, ◌<◌, ◌≤◌, ◌^◌, List, [], ◌∷◌, length, Bool, true, false, cond, eqb, min, not, ℤ, refl, ap, ap₂, arith, length-append}
use Rattle.std.specs.Prelude.{Option, Some, None, is_none}
use Rattle.std.specs.List.{sum_by}
use Rattle.std.proofs.lemmas.Bool.Decides.{nat_tests}
use Rattle.std.proofs.lemmas.List.{get_or_past}
use Rattle.std.proofs.lemmas.List.Sums.{count_by-le-length, length-filter, sum_by-cons}
use Rattle.us_expr.specs.Tree.{Tree}
use Rattle.us_format.specs.declared.Kind.{Kind}
use Rattle.us_format.specs.declared.Kind.TheVariants.{Full, Compressed, Listed, Slot}
use Rattle.us_format.specs.Lists.{nth}
use Rattle.us_format.specs.Matrix.{Shape}
use Rattle.us_format.specs.Declaration.{Query, Part, Declaration, has_extent, has_table}
use Rattle.us_format.specs.Kinds.{kind}
use Rattle.us_format.specs.Packs.{Piece, level_pieces, pieces_from, pieces, is_packed}
use Rattle.us_format.specs.Reading.{all_tests, buffer_count, extent_tests, fits, tables_in, total_count}
use Rattle.us_invert.specs.Recovery.{tables_of}
use Rattle.us_decl.specs.Declares.{Declared, IsValid}
use Rattle.us_judge.specs.Format.{part_at}
use Rattle.us_judge.specs.Short.{IsShort, AreShort}
use Rattle.us_judge.specs.Views.{declaration_of}
use Rattle.us_judge.proofs.Valid.{short-valid}
use Rattle.us_climb.specs.Layout.{first_failing}
use Rattle.us_climb.specs.Own.{buffers_before}
use Rattle.us_climb.specs.QueryTables.{no_table, tables_from}
use Rattle.us_climb.proofs.PartTests.{fitting-all, fitting-next}
use Rattle.us_climb.proofs.PartContents.{before-next, fitting-at}

-- ---- how many buffers

level_few : (k : ℕ) (kd : Kind) → length (level_pieces k kd) ≤ 2
level_few k Full = omega arith
level_few k Compressed = omega arith
level_few k Listed = omega arith
level_few k Slot = omega arith

pieces_few : (p : Part) (k : ℕ) (es : List Tree) → length (pieces_from p k es) ≤ 2 * length es + 1
pieces_few p k [] = omega arith
pieces_few p k (e ∷ es) = omega (arith, length-append (level_pieces k (kind p k)) (pieces_from p (suc k) es), level_few k (kind p k), pieces_few p (suc k) es)

part_few : (p : Part) → IsShort p → buffer_count p ≤ 81
part_few p s =
    let own : Piece → Bool = λ x. not (is_packed p x) in
    omega (arith, s.queries, s.levels, s.packs, count_by-le-length has_extent p.queries, count_by-le-length has_table p.queries, length-filter own (pieces p), count_by-le-length own (pieces p), pieces_few p 0 p.levels)

parts_few : (ps : List Part) → AreShort ps → sum_by buffer_count ps ≤ 81 * length ps
parts_few [] h = omega arith
parts_few (p ∷ ps) h = omega (arith, sum_by-cons buffer_count p ps, part_few p h.0, parts_few ps h.1)

same_number : (b : Bool) (o : Option ℕ) (m : ℕ) → is_none (cond b o (Some m)) ≡ true → b ≡ true
same_number true o m e = refl
same_number false o m e = absurd cc

-- buffers that fit are as many as the declaration has
number-fits : (s : Shape) (d : Declaration) (bufs : List (List ℤ)) → fits s d bufs ≡ true → length bufs ≡ total_count d
number-fits s d bufs e =
    let same : eqb (length bufs) (total_count d) ≡ true = same_number (eqb (length bufs) (total_count d)) (first_failing (all_tests s 0 d.parts bufs)) (min (length bufs) (total_count d)) e in
    grind (arith, nat_tests)

-- and these are few
pub buffers-few : (s : Shape) (d : Declared) (bufs : List (List ℤ)) → IsValid d → fits s (declaration_of d) bufs ≡ true → length bufs < 2 ^ 32
buffers-few s d bufs v e =
    let short = short-valid d v in
    omega (arith, number-fits s (declaration_of d) bufs e, parts_few (declaration_of d).parts short.parts, short.few)

-- how many buffers stand before the next part
pub before-more : (d : Declaration) (k : ℕ) → k < length d.parts → buffers_before d.parts (suc k) ≡ buffers_before d.parts k + buffer_count (part_at d k)
before-more d k h = before-next d.parts k (record { names = 0; queries = []; levels = []; trim = []; merge = []; packs = [] }) h

-- ---- extents

-- the extents of the part k of buffers that fit
pub extents-fit : (s : Shape) (d : Declaration) (bufs : List (List ℤ)) (k : ℕ) → fits s d bufs ≡ true → k < length d.parts
    → first_failing (extent_tests (buffers_before d.parts k) bufs (part_at d k).queries) ≡ None
extents-fit s d bufs k e h =
    (fitting-next s d k (buffers_before d.parts k) bufs h (fitting-at s d bufs (fitting-all s d bufs e) k (omega (arith, h)))).0

-- ---- tables

none_there : (bufs : List (List ℤ)) → length bufs < 2 ^ 32 → nth bufs no_table ≡ []
none_there bufs few = get_or_past bufs no_table [] (omega (arith, few))

-- the tables of queries, the next of which is the buffer k
pub tables-are : (bufs : List (List ℤ)) → length bufs < 2 ^ 32 → (k : ℕ) (qs : List Query) → tables_of bufs (tables_from k qs) ≡ tables_in k bufs qs
tables-are bufs few k [] = refl
tables-are bufs few k (q ∷ qs) = go (has_table q) (λ j. tables-are bufs few j qs)
  where
    go : (b : Bool) → ((j : ℕ) → tables_of bufs (tables_from j qs) ≡ tables_in j bufs qs) → tables_of bufs (cond b (k ∷ tables_from (suc k) qs) (no_table ∷ tables_from k qs))
        ≡ cond b (nth bufs k ∷ tables_in (suc k) bufs qs) ([] ∷ tables_in k bufs qs)
    go true ih = ap (λ (ts : List (List ℤ)). nth bufs k ∷ ts) (ih (suc k))
    go false ih = ap₂ (λ (cells : List ℤ) (ts : List (List ℤ)). cells ∷ ts) (none_there bufs few) (ih k)
