-- The first item that breaks a rule, with its lowest rule.
use Rattle.std.specs.Prelude.{ℕ, ◌+◌, Bool, true, false, not, ◌&&◌, List, [], ◌∷◌, length, Option, Some, None}
use Rattle.us_code.specs.declared.program.Make.{Make}
use Rattle.us_code.specs.declared.program.CellKind.TheVariants as kind
use Rattle.us_code.specs.Plain.{TermTree, Number, Reg, Size, Flat, Next, Up, Add, Sub, Mul, Div, Rem, Code, End, Let, Load, Var, Put, Set, For, Span, If, When, Order, LineTree, PhaseTree, ProgramTree}
use Rattle.us_code.specs.Plain as plain
use Rattle.us_code.specs.Names.{count}
use Rattle.us_code.specs.Typing.{Context, is_some, with_reg, fits, fits_cell, is_put, kind_of, sees_dim, sees_buf, sees_bufs, sees_cell, len_of, cell_of, is_new, is_flat, is_next, spans, is_below, are_keys, with_buf, cell_has_room, with_line, in_body, in_lines, after_phase, sees_all, are_distinct, before}

-- an item of a phase, and a rule
pub record Break : Type 0 where
  pub item : ℕ
  pub rule : ℕ

pub record Unbound : Type 0 where
  pub phase : ℕ
  pub item : ℕ
  pub rule : ℕ

infixr 20 ◌or◌
abbrev pub ◌or◌ : {A : Type 0} → Option A → Option A → Option A
(Some x) or y = Some x
None or y = y

-- a rule, and whether it is kept
pub record Rule : Type 0 where
  pub number : ℕ
  pub kept : Bool

abbrev pub unless : Bool → Break → Option Break → Option Break
unless true b o = o
unless false b o = Some b

-- the first rule of an item that isn't kept
abbrev pub broken : ℕ → List Rule → Option Break
broken i [] = None
broken i (r ∷ rs) = unless r.kept record { item = i; rule = r.number } (broken i rs)

-- whether the names of a term are visible, each `flat` has its product, and each `next` and `up` its successor
abbrev pub sees_term : Context → TermTree → Bool
sees_term g (Number n) = true
sees_term g (Reg r) = is_some (g.regs r)
sees_term g (Size d) = sees_dim g d
sees_term g (Flat d p c) = is_some (g.dims d) && (sees_term g p && sees_term g c)
sees_term g (Next d x) = is_some (g.dims d) && sees_term g x
sees_term g (Up d x) = is_some (g.dims d) && sees_term g x
sees_term g (Add a b) = sees_term g a && sees_term g b
sees_term g (Sub a b) = sees_term g a && sees_term g b
sees_term g (Mul a b) = sees_term g a && sees_term g b
sees_term g (Div a k) = sees_term g a
sees_term g (Rem a k) = sees_term g a

abbrev pub keeps_flats : Context → TermTree → Bool
keeps_flats g (Number n) = true
keeps_flats g (Reg r) = true
keeps_flats g (Size d) = true
keeps_flats g (Flat d p c) = is_flat (g.dims d) (kind_of g p) (kind_of g c) && (keeps_flats g p && keeps_flats g c)
keeps_flats g (Next d x) = keeps_flats g x
keeps_flats g (Up d x) = keeps_flats g x
keeps_flats g (Add a b) = keeps_flats g a && keeps_flats g b
keeps_flats g (Sub a b) = keeps_flats g a && keeps_flats g b
keeps_flats g (Mul a b) = keeps_flats g a && keeps_flats g b
keeps_flats g (Div a k) = keeps_flats g a
keeps_flats g (Rem a k) = keeps_flats g a

abbrev pub keeps_nexts : Context → TermTree → Bool
keeps_nexts g (Number n) = true
keeps_nexts g (Reg r) = true
keeps_nexts g (Size d) = true
keeps_nexts g (Flat d p c) = keeps_nexts g p && keeps_nexts g c
keeps_nexts g (Next d x) = is_next (g.dims d) (kind_of g x) && keeps_nexts g x
keeps_nexts g (Up d x) = is_next (g.dims d) (kind_of g x) && keeps_nexts g x
keeps_nexts g (Add a b) = keeps_nexts g a && keeps_nexts g b
keeps_nexts g (Sub a b) = keeps_nexts g a && keeps_nexts g b
keeps_nexts g (Mul a b) = keeps_nexts g a && keeps_nexts g b
keeps_nexts g (Div a k) = keeps_nexts g a
keeps_nexts g (Rem a k) = keeps_nexts g a

abbrev pub rule : ℕ → Bool → Rule
rule n kept = record { number = n; kept = kept }

-- the name isn't in use
abbrev pub is_free : {A : Type 0} → Option A → Bool
is_free o = not (is_some o)

-- the rules of a statement, lowest first, and of those in it and after it
abbrev pub broken_in : Context → ℕ → Code → Option Break
broken_in g i End = None
broken_in g i (Let r e rest) =
    broken i (rule 1 (is_free (g.regs r) && sees_term g e) ∷ rule 5 (keeps_flats g e) ∷ rule 6 (keeps_nexts g e) ∷ [])
    or broken_in (with_reg g r false (kind_of g e)) (i + 1) rest
broken_in g i (Load r b at rest) =
    broken i (rule 1 (is_free (g.regs r) && (sees_buf g b && sees_term g at)) ∷ rule 2 (fits (kind_of g at) (len_of g b)) ∷ rule 5 (keeps_flats g at) ∷ rule 6 (keeps_nexts g at) ∷ [])
    or broken_in (with_reg g r false (cell_of g b)) (i + 1) rest
broken_in g i (Var r e rest) =
    broken i (rule 1 (is_free (g.regs r) && sees_term g e) ∷ rule 5 (keeps_flats g e) ∷ rule 6 (keeps_nexts g e) ∷ [])
    or broken_in (with_reg g r true kind.Word) (i + 1) rest
broken_in g i (Put r e rest) =
    broken i (rule 1 (is_put (g.regs r) && sees_term g e) ∷ rule 5 (keeps_flats g e) ∷ rule 6 (keeps_nexts g e) ∷ [])
    or broken_in g (i + 1) rest
broken_in g i (Set b at e rest) =
    broken i (rule 1 (sees_buf g b && (sees_term g at && sees_term g e)) ∷ rule 2 (fits (kind_of g at) (len_of g b)) ∷ rule 3 (fits_cell (kind_of g e) (cell_of g b)) ∷ rule 5 (keeps_flats g at && keeps_flats g e) ∷ rule 6 (keeps_nexts g at && keeps_nexts g e) ∷ rule 9 (is_new b) ∷ [])
    or broken_in g (i + 1) rest
broken_in g i (For r d body rest) =
    broken i (rule 1 (is_free (g.regs r) && sees_dim g d) ∷ [])
    or broken_in (with_reg g r false (kind.Below d)) (i + 1) body
    or broken_in g (i + 1 + count body) rest
broken_in g i (Span r a b d body rest) =
    broken i (rule 1 (is_free (g.regs r) && (sees_dim g d && (sees_term g a && sees_term g b))) ∷ rule 4 (spans g (kind_of g a) (kind_of g b) d) ∷ rule 5 (keeps_flats g a && keeps_flats g b) ∷ rule 6 (keeps_nexts g a && keeps_nexts g b) ∷ [])
    or broken_in (with_reg g r false (kind.Below d)) (i + 1) body
    or broken_in g (i + 1 + count body) rest
broken_in g i (If l eq r body given other rest) =
    broken i (rule 1 (sees_term g l && sees_term g r) ∷ rule 5 (keeps_flats g l && keeps_flats g r) ∷ rule 6 (keeps_nexts g l && keeps_nexts g r) ∷ [])
    or broken_in g (i + 1) body
    or broken_in g (i + 1 + count body) other
    or broken_in g (i + 1 + count body + count other) rest
broken_in g i (When e d r body given other rest) =
    broken i (rule 1 (is_free (g.regs r) && (sees_dim g d && sees_term g e)) ∷ rule 5 (keeps_flats g e) ∷ rule 6 (keeps_nexts g e) ∷ [])
    or broken_in (with_reg g r false (kind.Below d)) (i + 1) body
    or broken_in g (i + 1 + count body) other
    or broken_in g (i + 1 + count body + count other) rest
broken_in g i (Order b keys rest) =
    broken i (rule 1 (sees_buf g b && sees_bufs g keys) ∷ rule 7 (is_below (cell_of g b) (len_of g b) && are_keys g b keys) ∷ rule 9 (is_new b) ∷ [])
    or broken_in g (i + 1) rest

abbrev pub broken_makes : Context → ℕ → List Make → Option Break
broken_makes g i [] = None
broken_makes g i (m ∷ ms) =
    broken i (rule 1 (is_free (g.bufs m.buf) && (sees_dim g m.len && sees_cell g m.cell)) ∷ rule 8 (cell_has_room g m.cell m.len) ∷ [])
    or broken_makes (with_buf g m) (i + 1) ms

abbrev pub line_rules : Context → LineTree → List Rule
line_rules g (plain.Of d e) = rule 1 (is_free (g.dims d) && sees_term g e) ∷ rule 5 (keeps_flats g e) ∷ rule 6 (keeps_nexts g e) ∷ []
line_rules g (plain.Product d l r) = rule 1 (is_free (g.dims d) && (sees_dim g l && sees_dim g r)) ∷ []
line_rules g (plain.Successor d of) = rule 1 (is_free (g.dims d) && sees_dim g of) ∷ []

abbrev pub broken_lines : Context → ℕ → List LineTree → Option Break
broken_lines g i [] = None
broken_lines g i (l ∷ ls) = broken i (line_rules g l) or broken_lines (with_line g l) (i + 1) ls

-- the items of a phase: the `new` lines, the statements, the dim lines
abbrev pub broken_phase : Context → PhaseTree → Option Break
broken_phase g p =
    broken_makes g 0 p.makes
    or broken_in (in_body g p) (length p.makes) p.body
    or broken_lines (in_lines g p) (length p.makes + count p.body) p.lines

abbrev pub in_phase : ℕ → Option Break → Option Unbound
in_phase n None = None
in_phase n (Some b) = Some record { phase = n; item = b.item; rule = b.rule }

-- phases from number n on, and the `give` line as the one item of a phase after the last
abbrev pub unbound_from : Context → ℕ → List PhaseTree → List ℕ → Option Unbound
unbound_from g n [] give = in_phase n (broken 0 (rule 1 (sees_all g give) ∷ rule 10 (are_distinct give) ∷ []))
unbound_from g n (p ∷ ps) give = in_phase n (broken_phase g p) or unbound_from (after_phase g p) (n + 1) ps give

-- the first item of a program that breaks a rule
abbrev pub first_unbound : ProgramTree → Option Unbound
first_unbound p = unbound_from (before p.sources) 0 p.phases p.give
