-- The limits of a program's text.
use Rattle.std.specs.Prelude.{ℕ, suc, ◌+◌, ◌≤◌, ◌<◌, ◌^◌, Bool, cond, nat_lt, max, List, [], ◌∷◌, length}
use Rattle.us_code.specs.declared.program.Dim.{Dim}
use Rattle.us_code.specs.declared.program.Dim.TheVariants as dim
use Rattle.us_code.specs.declared.program.CellKind.{CellKind}
use Rattle.us_code.specs.declared.program.CellKind.TheVariants as kind
use Rattle.us_code.specs.declared.program.Make.{Make}
use Rattle.us_code.specs.Plain.{TermTree, Number, Reg, Size, Flat, Next, Up, Add, Sub, Mul, Div, Rem, Code, End, Let, Load, Var, Put, Set, For, Span, If, When, Order, LineTree, Of, Product, Successor, PhaseTree, ProgramTree}
use Rattle.us_code.specs.Names.{count}

-- how many nodes a term has: names, numbers and operations, but no divisor and no dim
abbrev pub nodes : TermTree → ℕ
nodes (Number n) = 1
nodes (Reg r) = 1
nodes (Size d) = 1
nodes (Flat d p c) = 1 + nodes p + nodes c
nodes (Next d x) = 1 + nodes x
nodes (Up d x) = 1 + nodes x
nodes (Add a b) = 1 + nodes a + nodes b
nodes (Sub a b) = 1 + nodes a + nodes b
nodes (Mul a b) = 1 + nodes a + nodes b
nodes (Div a k) = 1 + nodes a
nodes (Rem a k) = 1 + nodes a

-- a parenthesis more where the operation binds weaker than its place wants
abbrev pub wrapped : Bool → ℕ → ℕ
wrapped needed n = cond needed (suc n) n

-- how many parentheses are open at once in a term's text: at place 0 of a sum, 1 of a product, 2 of an atom
abbrev pub parens : ℕ → TermTree → ℕ
parens at (Number n) = 0
parens at (Reg r) = 0
parens at (Size d) = 1
parens at (Flat d p c) = 1 + max (parens 0 p) (parens 0 c)
parens at (Next d x) = 1 + parens 0 x
parens at (Up d x) = 1 + parens 0 x
parens at (Add a b) = wrapped (nat_lt 0 at) (max (parens 0 a) (parens 1 b))
parens at (Sub a b) = wrapped (nat_lt 0 at) (max (parens 0 a) (parens 1 b))
parens at (Mul a b) = wrapped (nat_lt 1 at) (max (parens 1 a) (parens 2 b))
parens at (Div a k) = wrapped (nat_lt 1 at) (parens 1 a)
parens at (Rem a k) = wrapped (nat_lt 1 at) (parens 1 a)

abbrev pub FitsDim : Dim → Type 0
FitsDim (dim.Number n) = n < 2 ^ 63
FitsDim (dim.Name d) = d < 2 ^ 32
FitsDim (dim.Len k) = k < 2 ^ 32

-- the numbers of a term are below 2 ^ 63, and its divisors aren't 0
abbrev pub FitsNumbers : TermTree → Type 0
FitsNumbers (Number n) = n < 2 ^ 63
FitsNumbers (Reg r) = Unit {0}
FitsNumbers (Size d) = FitsDim d
FitsNumbers (Flat d p c) = FitsNumbers p × FitsNumbers c
FitsNumbers (Next d x) = FitsNumbers x
FitsNumbers (Up d x) = FitsNumbers x
FitsNumbers (Add a b) = FitsNumbers a × FitsNumbers b
FitsNumbers (Sub a b) = FitsNumbers a × FitsNumbers b
FitsNumbers (Mul a b) = FitsNumbers a × FitsNumbers b
FitsNumbers (Div a k) = FitsNumbers a × (0 < k) × (k < 2 ^ 63)
FitsNumbers (Rem a k) = FitsNumbers a × (0 < k) × (k < 2 ^ 63)

abbrev pub FitsTerm : TermTree → Type 0
FitsTerm e = FitsNumbers e × (nodes e ≤ 256) × (parens 0 e ≤ 64)

abbrev pub FitsTerms : Code → Type 0
FitsTerms End = Unit {0}
FitsTerms (Let r e rest) = FitsTerm e × FitsTerms rest
FitsTerms (Load r b at rest) = FitsTerm at × FitsTerms rest
FitsTerms (Var r e rest) = FitsTerm e × FitsTerms rest
FitsTerms (Put r e rest) = FitsTerm e × FitsTerms rest
FitsTerms (Set b at e rest) = FitsTerm at × FitsTerm e × FitsTerms rest
FitsTerms (For r d body rest) = FitsDim d × FitsTerms body × FitsTerms rest
FitsTerms (Span r a b d body rest) = FitsTerm a × FitsTerm b × FitsDim d × FitsTerms body × FitsTerms rest
FitsTerms (If l eq r body given other rest) = FitsTerm l × FitsTerm r × FitsTerms body × FitsTerms other × FitsTerms rest
FitsTerms (When e d r body given other rest) = FitsTerm e × FitsDim d × FitsTerms body × FitsTerms other × FitsTerms rest
FitsTerms (Order b keys rest) = (1 ≤ length keys) × (length keys ≤ 4095) × FitsTerms rest

-- how many blocks are open at once in a block, itself among them
abbrev pub depth : Code → ℕ
depth End = 1
depth (Let r e rest) = depth rest
depth (Load r b at rest) = depth rest
depth (Var r e rest) = depth rest
depth (Put r e rest) = depth rest
depth (Set b at e rest) = depth rest
depth (For r d body rest) = max (suc (depth body)) (depth rest)
depth (Span r a b d body rest) = max (suc (depth body)) (depth rest)
depth (If l eq r body given other rest) = max (suc (max (depth body) (depth other))) (depth rest)
depth (When e d r body given other rest) = max (suc (max (depth body) (depth other))) (depth rest)
depth (Order b keys rest) = depth rest

abbrev pub FitsMakes : List Make → Type 0
FitsMakes [] = Unit {0}
FitsMakes (m ∷ ms) = FitsDim m.len × FitsCell m.cell × FitsMakes ms
  where
    FitsCell : CellKind → Type 0
    FitsCell kind.Word = Unit {0}
    FitsCell (kind.Below d) = FitsDim d

abbrev pub FitsLine : LineTree → Type 0
FitsLine (Of d e) = FitsTerm e
FitsLine (Product d l r) = FitsDim l × FitsDim r
FitsLine (Successor d of) = FitsDim of

abbrev pub FitsLines : List LineTree → Type 0
FitsLines [] = Unit {0}
FitsLines (l ∷ ls) = FitsLine l × FitsLines ls

abbrev pub FitsPhases : List PhaseTree → Type 0
FitsPhases [] = Unit {0}
FitsPhases (p ∷ ps) = FitsMakes p.makes × FitsTerms p.body × (depth p.body ≤ 64) × FitsLines p.lines × FitsPhases ps

-- how many `new` lines, statements and dim lines there are
abbrev pub items : List PhaseTree → ℕ
items [] = 0
items (p ∷ ps) = length p.makes + count p.body + length p.lines + items ps

-- a program whose text keeps the limits
pub record KeepsLimits (p : ProgramTree) : Type 0 where
  pub sources : p.sources ≤ 4096
  pub phases : FitsPhases p.phases
  pub items : items p.phases ≤ 65536
  pub give : length p.give ≤ 4096
