-- Blocks that fill packs keep the limits.
use Rattle.std.proofs.Common.{◌≡◌, ℕ, zero, suc, ◌+◌, ◌-◌, ◌*◌, ◌^◌, ◌<◌, ◌≤◌, Bool, true, false, List, [], ◌∷◌, length, Option, refl, lit≤, arith}
use Rattle.us_code.specs.declared.program.Dim.{Dim}
use Rattle.us_code.specs.Plain.{TermTree, Number, Reg, Code, End}
use Rattle.us_code.specs.Limits.{FitsDim, FitsMakes, FitsLines}
use Rattle.us_gen_build.specs.Levels.{LevelTree, below_of}
use Rattle.us_gen_packs.specs.Packs.{cells_from, write, packs, last_of, packed_loop, packed_block}
use Rattle.us_gen_packs.specs.Making.{pack_makes}
use Rattle.us_gen_building.specs.declared.part.Descent.{Descent}
use Rattle.us_gen_pack_building.specs.declared.part.PackRun.{PackRun}
use Rattle.us_gen_pack_building.specs.Levels.{FitRuns, column_terms, writer, writers, pack_lines}
use Rattle.us_limits.specs.Small.{Small}
use Rattle.us_limits.proofs.Blocks.{block-looser, append-small}
use Rattle.us_query_limits.proofs.Words.{register}
use Rattle.us_build_limits.proofs.Positions.{IsPosition, position-fits, position-looser, top-is}
use Rattle.us_build_limits.proofs.Blocks.{AreFit, below-is, levels-keep, opens-keep, closes-keep, turns-keep}

pub terms-long : (r n : ℕ) → length (column_terms r n) ≡ n
terms-long r zero = refl
terms-long r (suc n) = omega (arith, terms-long (r + 1) n)

cells-keep : (b d p y r n : ℕ) {m e : ℕ} {rest : Code} → y + n < 2 ^ 63 → Small m e rest → Small (n + m) e (cells_from b d (Reg p) y (column_terms r n) rest)
cells-keep b d p y r zero few s = block-looser (omega arith) (omega arith) s
cells-keep b d p y r (suc n) few s =
    let more = cells-keep b d p (y + 1) (r + 1) n (omega (arith, few)) s in
    record { terms = (((tt, omega (arith, few)), lit≤ tt, lit≤ tt), register, more.terms); deep = more.deep; long = omega (arith, more.long) }

-- a pack of at most w columns
write-keeps : (rank : Bool) (r : PackRun) (name first : ℕ) (x : Descent) (q : TermTree) (a k w n : ℕ) (rest : Code) → r.end - r.first ≤ w → w ≤ 17 → FitsDim x.above → IsPosition k q → k ≤ 60 → Small n 4 rest
    → Small (18 + n) 4 (write rank (writer r name first x) q a rest)
write-keeps true r name first x q a k w n rest few less f p deep s = block-looser (omega (arith, few, less)) (lit≤ tt) (cells-keep name name a 0 (first + r.first) (r.end - r.first) (omega (arith, few, less)) s)
write-keeps false r name first x q a k w n rest few less f p deep s =
    let none : Small 0 3 End = record { terms = tt; deep = lit≤ tt; long = lit≤ tt } in
    let body = cells-keep name name name 0 (first + r.first) (r.end - r.first) (omega (arith, few, less)) none in
    record { terms = (position-fits q deep p, f, body.terms, tt, s.terms); deep = omega (arith, body.deep, s.deep); long = omega (arith, body.long, s.long, few, less) }

pub packs-keep : (rs : List PackRun) (w name first : ℕ) (x : Descent) (q : TermTree) (a k : ℕ) → FitRuns w rs → w ≤ 17 → FitsDim x.above → IsPosition k q → k ≤ 60 → Small (18 * length rs) 4 (packs (writers rs name first x) q a)
packs-keep [] w name first x q a k runs less f p few = record { terms = tt; deep = lit≤ tt; long = omega arith }
packs-keep (r ∷ rs) w name first x q a k runs less f p few =
    let rest = packs-keep rs w (name + 1) first x q a k runs.2 less f p few in
    block-looser (omega arith) (lit≤ tt) (write-keeps x.is_rank r name first x q a k w (18 * length rs) _ (omega (arith, runs.1)) less f p few rest)

last-is : (ls : List LevelTree) (q : TermTree) (x k : ℕ) → AreFit ls → IsPosition k q → IsPosition (k + length ls) (last_of ls q x)
last-is [] q x k f p = position-looser q (omega arith) p
last-is (l ∷ ls) q x k f p = position-looser (last_of ls (below_of l.role l q x) x) (omega arith) (last-is ls (below_of l.role l q x) x (suc k) f.1 (below-is l.role l q x k f.0 p))

pub packed-keeps : (d : Dim) (order : Option ℕ) (cols : List ℕ) (ls : List LevelTree) (rs : List PackRun) (w name first : ℕ) (x : Descent) (a n : ℕ) → FitsDim d → AreFit ls → length ls ≤ 60 → FitRuns w rs → w ≤ 17 → FitsDim x.above
    → Small (15 * length ls + length cols + 18 * length rs + 2) 5 (packed_block d order cols ls (writers rs name first x) a n)
packed-keeps d order cols ls rs w name first x a n f g few runs less above =
    let at : IsPosition (0 + length ls) (last_of ls (Number 0) a) = last-is ls (Number 0) a 0 g top-is in
    let inner = append-small (levels-keep ls (Number 0) a 0 g top-is (omega (arith, few))) (packs-keep rs w name first x (last_of ls (Number 0) a) a (0 + length ls) runs less above at (omega (arith, few))) in
    let loop : Small (2 + length cols + (7 * length ls + 18 * length rs)) 5 (packed_loop d order cols ls (writers rs name first x) a) = turns-keep d order cols a (7 * length ls + 18 * length rs) _ f inner in
    block-looser (omega arith) (lit≤ tt) (opens-keep ls (append-small loop (closes-keep ls n g)))

-- ---- new lines and dims

pub pack-makes-fit : (rs : List PackRun) (name first : ℕ) (x : Descent) → name + length rs < 2 ^ 32 → FitsMakes (pack_makes (writers rs name first x))
pack-makes-fit [] name first x few = tt
pack-makes-fit (r ∷ rs) name first x few = (omega (arith, few), tt, pack-makes-fit rs (name + 1) first x (omega (arith, few)))

pub pack-makes-long : (rs : List PackRun) (name first : ℕ) (x : Descent) → length (pack_makes (writers rs name first x)) ≡ length rs
pack-makes-long [] name first x = refl
pack-makes-long (r ∷ rs) name first x = omega (arith, pack-makes-long rs (name + 1) first x)

pub pack-lines-fit : (rs : List PackRun) (w name first : ℕ) (x : Descent) → FitRuns w rs → w ≤ 17 → FitsDim x.above → FitsLines (pack_lines (writers rs name first x))
pack-lines-fit [] w name first x runs less f = tt
pack-lines-fit (r ∷ rs) w name first x runs less f = ((f, omega (arith, terms-long (first + r.first) (r.end - r.first), runs.1, less)), pack-lines-fit rs w (name + 1) first x runs.2 less f)

pub pack-lines-long : (rs : List PackRun) (name first : ℕ) (x : Descent) → length (pack_lines (writers rs name first x)) ≡ length rs
pack-lines-long [] name first x = refl
pack-lines-long (r ∷ rs) name first x = omega (arith, pack-lines-long rs (name + 1) first x)
