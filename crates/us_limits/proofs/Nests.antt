-- Nests of levels keep the limits.
use Rattle.std.proofs.Common.{◌≡◌, ℕ, ◌+◌, ◌*◌, ◌^◌, ◌<◌, ◌≤◌, false, List, [], ◌∷◌, length, refl, arith}
use Rattle.us_code.specs.declared.program.Dim.{Dim}
use Rattle.us_code.specs.Plain.{TermTree, Reg, Code}
use Rattle.us_code.specs.Limits.{FitsDim, FitsTerm}
use Rattle.us_gen.specs.declared.nests.Level.{Level}
use Rattle.us_gen.specs.declared.nests.Level.TheVariants.{Full, Nodes, Crd, Cell, Packed}
use Rattle.us_gen.specs.Nest.{node_level, cell_level}
use Rattle.us_gen.specs.Levels.{size_term, level, names, position, nest, position_in}
use Rattle.us_limits.specs.Small.{SmallTerm, Small}
use Rattle.us_limits.specs.Orders.{has_order}
use Rattle.us_limits.specs.Nests.{FitsLevel, FitLevels, names_of, blocks, blocks_of, NestsKeepLimits}
use Rattle.us_limits.proofs.Terms.{term-fits, term-looser, number-small, register-small, sum-small, size-small, under-small, pack-small}
use Rattle.us_limits.proofs.Blocks.{block-looser, load-small, only-for, only-span, only-when}

-- any register
pub register-fits : FitsTerm (Reg 0)
register-fits = term-fits {e = Reg 0} (omega arith) register-small

-- a cell at a place, in front of a block
pub cell-small : {n d k r : ℕ} {at : TermTree} {inner : Code} → k < 2 ^ 32 → FitsTerm at → 1 ≤ d → Small n d inner → Small (2 + n) (1 + d) (cell_level at k r inner)
cell-small few f deep s = block-looser (omega arith) (omega arith) (only-when f few deep (load-small register-fits s))

nodes-small : {m n d k r : ℕ} {q : TermTree} {more nodes : Dim} {inner : Code} → k < 2 ^ 32 → FitsDim more → FitsDim nodes → SmallTerm m q → m ≤ 62 → 1 ≤ d → Small n d inner
    → Small (7 + n) (5 + d) (node_level q k more nodes r inner)
nodes-small few f g s le deep t =
    block-looser (omega arith) (omega arith)
    (only-when (term-fits (omega (arith, le)) s) few (omega arith) (load-small register-fits
    (only-when (term-fits (omega (arith, le)) (sum-small s (number-small (omega arith)))) few (omega arith) (load-small register-fits
    (only-when register-fits f (omega arith)
    (only-when register-fits f (omega arith)
    (only-span register-fits register-fits g t)))))))

pub level-small : {m n d : ℕ} (l : Level) (q : TermTree) (r : ℕ) {inner : Code} → FitsLevel l → SmallTerm m q → m + 4 ≤ 64 → 1 ≤ d → Small n d inner → Small (names l + n) (blocks l + d) (level l q r inner)
level-small (Full size) q r f s le deep t = only-for f t
level-small (Nodes k more nodes) q r f s le deep t = nodes-small f.0 f.1 f.2 s (omega (arith, le)) deep t
level-small (Crd k) q r f s le deep t = block-looser (omega arith) (omega arith) (load-small (term-fits (omega (arith, le)) s) t)
level-small (Cell k) q r f s le deep t = cell-small f (term-fits (omega (arith, le)) s) deep t
level-small (Packed k w digit) q r f s le deep t = cell-small f.0 (term-fits le (pack-small f.1 f.2 s)) deep t

pub position-small : {m : ℕ} (l : Level) (q : TermTree) (r : ℕ) → FitsLevel l → SmallTerm m q → SmallTerm (m + 4) (position l q r)
position-small (Full size) q r f s = under-small q (size_term size) r s (size-small size f)
position-small (Nodes k more nodes) q r f s = term-looser (omega arith) register-small
position-small (Crd k) q r f s = term-looser (omega arith) s
position-small (Cell k) q r f s = term-looser (omega arith) s
position-small (Packed k w digit) q r f s = term-looser (omega arith) s

pub nest-small : (ls : List Level) (m n d r : ℕ) (q : TermTree) (inner : Code) → FitLevels ls → SmallTerm m q → m + 4 * length ls ≤ 64 → 1 ≤ d → Small n d inner
    → Small (names_of ls + n) (blocks_of ls + d) (nest ls q r inner)
nest-small [] m n d r q inner f s le deep t = block-looser (omega arith) (omega arith) t
nest-small (l ∷ ls) m n d r q inner f s le deep t =
    block-looser (omega arith) (omega arith)
    (level-small l q r f.0 s (omega (arith, le)) (omega (arith, deep))
    (nest-small ls (m + 4) n d (r + names l) (position l q r) inner f.1 (position-small l q r f.0 s) (omega (arith, le)) deep t))

pub positions-small : (ls : List Level) (m r : ℕ) (q : TermTree) → FitLevels ls → SmallTerm m q → SmallTerm (m + 4 * length ls) (position_in ls q r)
positions-small [] m r q f s = term-looser (omega arith) s
positions-small (l ∷ ls) m r q f s = term-looser (omega arith) (positions-small ls (m + 4) (r + names l) (position l q r) f.1 (position-small l q r f.0 s))

pub level-without : (l : Level) (r : ℕ) (q : TermTree) (inner : Code) → has_order inner ≡ false → has_order (level l q r inner) ≡ false
level-without (Full size) r q inner h = rw h refl
level-without (Nodes k more nodes) r q inner h = rw h refl
level-without (Crd k) r q inner h = h
level-without (Cell k) r q inner h = rw h refl
level-without (Packed k w digit) r q inner h = rw h refl

pub nest-without : (ls : List Level) (r : ℕ) (q : TermTree) (inner : Code) → has_order inner ≡ false → has_order (nest ls q r inner) ≡ false
nest-without [] r q inner h = h
nest-without (l ∷ ls) r q inner h = level-without l r q (nest ls (position l q r) (r + names l) inner) (nest-without ls (r + names l) (position l q r) inner h)

pub nests-keep-limits : NestsKeepLimits
nests-keep-limits = record { small = nest-small; positions = positions-small; orders = nest-without }
