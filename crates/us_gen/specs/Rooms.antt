-- Nests that are typed in every context with room.
use Rattle.std.specs.Prelude.{◌≡◌, ℕ, ◌+◌, ◌≤◌, true, false, nat_lt, List, [], ◌∷◌, None}
use Rattle.us_code.specs.declared.program.Dim.TheVariants as dim
use Rattle.us_code.specs.declared.program.CellKind.TheVariants as kind
use Rattle.us_code.specs.Plain.{TermTree, Code}
use Rattle.us_code.specs.Typing.{Context, with_reg, fits, kind_of, sees_dim, spans, fine, Typed}
use Rattle.us_gen.specs.declared.nests.Level.{Level}
use Rattle.us_gen.specs.declared.nests.Level.TheVariants.{Full, Nodes, Crd, Cell, Packed}
use Rattle.us_gen.specs.Levels.{names, position, nest}

-- no register from n on is visible
pub record FreshFrom (g : Context) (n : ℕ) : Type 0 where
  pub none : (x : ℕ) → n ≤ x → g.regs x ≡ None

-- what is visible inside a level
abbrev pub in_level : Context → Level → ℕ → Context
in_level g (Full size) n = with_reg g n false (kind.Below size)
in_level g (Nodes k more nodes) n =
    let g1 = with_reg (with_reg g n false (kind.Below (dim.Len k))) (n + 1) false kind.Word in
    let g3 = with_reg (with_reg g1 (n + 2) false (kind.Below (dim.Len k))) (n + 3) false kind.Word in
    with_reg (with_reg (with_reg g3 (n + 4) false (kind.Below more)) (n + 5) false (kind.Below more)) (n + 6) false (kind.Below nodes)
in_level g (Crd k) n = with_reg g n false kind.Word
in_level g (Cell k) n = with_reg (with_reg g n false (kind.Below (dim.Len k))) (n + 1) false kind.Word
in_level g (Packed k w digit) n = with_reg (with_reg g n false (kind.Below (dim.Len k))) (n + 1) false kind.Word

-- its dims and sources are visible, `more` is one more than the nodes, and a coordinate read without a test is in range by its kind
abbrev pub LevelTyped : Context → Level → TermTree → Type 0
LevelTyped g (Full size) q = sees_dim g size ≡ true
LevelTyped g (Nodes k more nodes) q = (nat_lt k g.sources ≡ true) × (sees_dim g more ≡ true) × (sees_dim g nodes ≡ true) × (spans g (kind.Below more) (kind.Below more) nodes ≡ true)
LevelTyped g (Crd k) q = (nat_lt k g.sources ≡ true) × (fits (kind_of g q) (dim.Len k) ≡ true)
LevelTyped g (Cell k) q = nat_lt k g.sources ≡ true
LevelTyped g (Packed k w digit) q = nat_lt k g.sources ≡ true

abbrev pub in_nest : Context → List Level → ℕ → Context
in_nest g [] n = g
in_nest g (l ∷ ls) n = in_nest (in_level g l n) ls (n + names l)

abbrev pub AllTyped : Context → List Level → TermTree → ℕ → Type 0
AllTyped g [] q n = Unit {0}
AllTyped g (l ∷ ls) q n = LevelTyped g l q × AllTyped (in_level g l n) ls (position l q n) (n + names l)

-- a nest around a typed block is typed
abbrev pub NestsTyped : Type 0
NestsTyped =
    (g : Context) (ls : List Level) (q : TermTree) (n : ℕ) (inner : Code) → FreshFrom g n → fine g q ≡ true → AllTyped g ls q n
    → Typed (in_nest g ls n) inner → Typed g (nest ls q n inner)
