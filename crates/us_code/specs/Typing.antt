-- Which code is typed: what is visible, and of which kind.
use Rattle.std.specs.Prelude.{◌≡◌, ℕ, ◌+◌, ◌^◌, Bool, true, false, cond, not, ◌&&◌, ◌||◌, nat_lt, nat_le, nat_eq, List, [], ◌∷◌, Option, Some, None}
use Rattle.us_code.specs.declared.program.Dim.{Dim}
use Rattle.us_code.specs.declared.program.Dim.TheVariants as dim
use Rattle.us_code.specs.declared.program.Buf.{Buf}
use Rattle.us_code.specs.declared.program.Buf.TheVariants as buf
use Rattle.us_code.specs.declared.program.CellKind.{CellKind}
use Rattle.us_code.specs.declared.program.CellKind.TheVariants as kind
use Rattle.us_code.specs.declared.program.Make.{Make}
use Rattle.us_code.specs.Plain.{LineTree, PhaseTree, ProgramTree, TermTree, Number, Reg, Size, Flat, Next, Up, Add, Sub, Mul, Div, Rem, Code, End, Let, Load, Var, Put, Set, For, Span, If, When, Order}
use Rattle.us_code.specs.Plain as plain
use Rattle.us_code.specs.Run.{put}

-- how a dim was defined
pub data Form : Type 0 where
  Of : Form
  Product : (left right : Dim) → Form
  Successor : (of : Dim) → Form

pub record RegKind : Type 0 where
  pub is_var : Bool
  pub kind : CellKind

pub record BufKind : Type 0 where
  pub len : Dim
  pub cell : CellKind

-- what is visible at a place of the text
pub record Context : Type 0 where
  pub sources : ℕ
  pub regs : ℕ → Option RegKind
  pub bufs : ℕ → Option BufKind
  pub dims : ℕ → Option Form

abbrev pub is_some : {A : Type 0} → Option A → Bool
is_some None = false
is_some (Some x) = true

abbrev pub with_reg : Context → ℕ → Bool → CellKind → Context
with_reg g r v k = record { sources = g.sources; regs = put g.regs r (Some record { is_var = v; kind = k }); bufs = g.bufs; dims = g.dims }

abbrev pub same_dim : Dim → Dim → Bool
same_dim (dim.Number a) (dim.Number b) = nat_eq a b
same_dim (dim.Name a) (dim.Name b) = nat_eq a b
same_dim (dim.Len a) (dim.Len b) = nat_eq a b
same_dim a b = false

-- a kind that is below a dim, or below a number that is no greater
abbrev pub fits : CellKind → Dim → Bool
fits (kind.Below (dim.Number m)) (dim.Number n) = nat_le m n
fits (kind.Below (dim.Name d)) (dim.Name e) = nat_eq d e
fits (kind.Below (dim.Len d)) (dim.Len e) = nat_eq d e
fits _ _ = false

abbrev pub fits_cell : CellKind → CellKind → Bool
fits_cell k kind.Word = true
fits_cell k (kind.Below d) = fits k d

abbrev pub reg_kind : Option RegKind → CellKind
reg_kind None = kind.Word
reg_kind (Some k) = k.kind

abbrev pub is_put : Option RegKind → Bool
is_put None = false
is_put (Some k) = k.is_var

-- the kind of a term
abbrev pub kind_of : Context → TermTree → CellKind
kind_of g (Number n) = cond (nat_lt (n + 1) (2 ^ 63)) (kind.Below (dim.Number (n + 1))) kind.Word
kind_of g (Reg r) = reg_kind (g.regs r)
kind_of g (Flat d p c) = kind.Below (dim.Name d)
kind_of g (Next d x) = kind.Below (dim.Name d)
kind_of g (Up d x) = kind.Below (dim.Name d)
kind_of g (Size d) = kind.Word
kind_of g (Add a b) = kind.Word
kind_of g (Sub a b) = kind.Word
kind_of g (Mul a b) = kind.Word
kind_of g (Div a b) = kind.Word
kind_of g (Rem a b) = kind.Word

-- whether a name is visible
abbrev pub sees_dim : Context → Dim → Bool
sees_dim g (dim.Number n) = true
sees_dim g (dim.Name d) = is_some (g.dims d)
sees_dim g (dim.Len k) = nat_lt k g.sources

-- the length dim and the cells of a buffer
abbrev pub buf_len : Option BufKind → Dim
buf_len None = dim.Number 0
buf_len (Some k) = k.len

abbrev pub buf_cell : Option BufKind → CellKind
buf_cell None = kind.Word
buf_cell (Some k) = k.cell

abbrev pub sees_buf : Context → Buf → Bool
sees_buf g (buf.New b) = is_some (g.bufs b)
sees_buf g (buf.Source k) = nat_lt k g.sources

abbrev pub len_of : Context → Buf → Dim
len_of g (buf.New b) = buf_len (g.bufs b)
len_of g (buf.Source k) = dim.Len k

abbrev pub cell_of : Context → Buf → CellKind
cell_of g (buf.New b) = buf_cell (g.bufs b)
cell_of g (buf.Source k) = kind.Word

abbrev pub is_new : Buf → Bool
is_new (buf.New b) = true
is_new (buf.Source k) = false

-- whether the place and the digit fit the factors of a product
abbrev pub is_flat : Option Form → CellKind → CellKind → Bool
is_flat (Some (Product e d)) p c = fits p e && fits c d
is_flat _ p c = false

-- whether the kind fits below what the dim is the successor of
abbrev pub is_next : Option Form → CellKind → Bool
is_next (Some (Successor d)) x = fits x d
is_next _ x = false

-- whether a dim is one more than D
abbrev pub ends_form : Option Form → Dim → Bool
ends_form (Some (Successor e)) d = same_dim e d
ends_form _ d = false

-- both ends of a span fit below one dim that is one more than D
abbrev pub spans : Context → CellKind → CellKind → Dim → Bool
spans g (kind.Below (dim.Number a)) (kind.Below (dim.Number b)) (dim.Number n) = nat_le a (n + 1) && nat_le b (n + 1)
spans g (kind.Below (dim.Name a)) (kind.Below (dim.Name b)) d = nat_eq a b && ends_form (g.dims a) d
spans g _ _ _ = false

-- whether the names of a term are visible, and each `flat`, `next` and `up` has its dim
abbrev pub fine : Context → TermTree → Bool
fine g (Number n) = true
fine g (Reg r) = is_some (g.regs r)
fine g (Size d) = sees_dim g d
fine g (Flat d p c) = fine g p && fine g c && is_flat (g.dims d) (kind_of g p) (kind_of g c)
fine g (Next d x) = fine g x && is_next (g.dims d) (kind_of g x)
fine g (Up d x) = fine g x && is_next (g.dims d) (kind_of g x)
fine g (Add a b) = fine g a && fine g b
fine g (Sub a b) = fine g a && fine g b
fine g (Mul a b) = fine g a && fine g b
fine g (Div a k) = fine g a
fine g (Rem a k) = fine g a

-- whether a cell is below exactly this dim
abbrev pub is_below : CellKind → Dim → Bool
is_below kind.Word d = false
is_below (kind.Below e) d = same_dim e d

abbrev pub same_buf : Buf → Buf → Bool
same_buf (buf.New a) (buf.New b) = nat_eq a b
same_buf (buf.Source a) (buf.Source b) = nat_eq a b
same_buf a b = false

abbrev pub sees_bufs : Context → List Buf → Bool
sees_bufs g [] = true
sees_bufs g (b ∷ bs) = sees_buf g b && sees_bufs g bs

-- whether the keys have the length dim of the ordered buffer, which is none of them
abbrev pub are_keys : Context → Buf → List Buf → Bool
are_keys g b [] = true
are_keys g b (k ∷ ks) = (same_dim (len_of g k) (len_of g b) && not (same_buf k b)) && are_keys g b ks

-- a block whose statements keep the rules
abbrev pub Typed : Context → Code → Type 0
Typed g End = Unit {0}
Typed g (Let r e rest) = (g.regs r ≡ None) × (fine g e ≡ true) × Typed (with_reg g r false (kind_of g e)) rest
Typed g (Load r b at rest) = (g.regs r ≡ None) × (sees_buf g b ≡ true) × (fine g at ≡ true) × (fits (kind_of g at) (len_of g b) ≡ true) × Typed (with_reg g r false (cell_of g b)) rest
Typed g (Var r e rest) = (g.regs r ≡ None) × (fine g e ≡ true) × Typed (with_reg g r true kind.Word) rest
Typed g (Put r e rest) = (is_put (g.regs r) ≡ true) × (fine g e ≡ true) × Typed g rest
Typed g (Set b at e rest) = (is_new b ≡ true) × (sees_buf g b ≡ true) × (fine g at ≡ true) × (fine g e ≡ true) × (fits (kind_of g at) (len_of g b) ≡ true) × (fits_cell (kind_of g e) (cell_of g b) ≡ true) × Typed g rest
Typed g (For r d body rest) = (g.regs r ≡ None) × (sees_dim g d ≡ true) × Typed (with_reg g r false (kind.Below d)) body × Typed g rest
Typed g (Span r a b d body rest) = (g.regs r ≡ None) × (sees_dim g d ≡ true) × (fine g a ≡ true) × (fine g b ≡ true) × (spans g (kind_of g a) (kind_of g b) d ≡ true) × Typed (with_reg g r false (kind.Below d)) body × Typed g rest
Typed g (If l eq r body given other rest) = (fine g l ≡ true) × (fine g r ≡ true) × Typed g body × Typed g other × Typed g rest
Typed g (When e d r body given other rest) = (g.regs r ≡ None) × (sees_dim g d ≡ true) × (fine g e ≡ true) × Typed (with_reg g r false (kind.Below d)) body × Typed g other × Typed g rest
Typed g (Order b keys rest) = (is_new b ≡ true) × (sees_buf g b ≡ true) × (sees_bufs g keys ≡ true) × (is_below (cell_of g b) (len_of g b) ≡ true) × (are_keys g b keys ≡ true) × Typed g rest

-- what is visible at the end of a block: its own registers too
abbrev pub outer : Context → Code → Context
outer g End = g
outer g (Let r e rest) = outer (with_reg g r false (kind_of g e)) rest
outer g (Load r b at rest) = outer (with_reg g r false (cell_of g b)) rest
outer g (Var r e rest) = outer (with_reg g r true kind.Word) rest
outer g (Put r e rest) = outer g rest
outer g (Set b at e rest) = outer g rest
outer g (For r d body rest) = outer g rest
outer g (Span r a b d body rest) = outer g rest
outer g (If l eq r body given other rest) = outer g rest
outer g (When e d r body given other rest) = outer g rest
outer g (Order b keys rest) = outer g rest

-- with one more new buffer, with one more dim, and without registers
abbrev pub with_buf : Context → Make → Context
with_buf g m = record { sources = g.sources; regs = g.regs; bufs = put g.bufs m.buf (Some record { len = m.len; cell = m.cell }); dims = g.dims }

abbrev pub with_form : Context → ℕ → Form → Context
with_form g d f = record { sources = g.sources; regs = g.regs; bufs = g.bufs; dims = put g.dims d (Some f) }

abbrev pub without_regs : Context → Context
without_regs g = record { sources = g.sources; regs = λ _. None; bufs = g.bufs; dims = g.dims }

abbrev pub sees_cell : Context → CellKind → Bool
sees_cell g kind.Word = true
sees_cell g (kind.Below d) = sees_dim g d

abbrev pub is_successor : Option Form → Bool
is_successor (Some (Successor d)) = true
is_successor _ = false

-- whether 0 is below the bound wherever there is a cell
abbrev pub has_room : Context → Dim → Dim → Bool
has_room g (dim.Number n) len = nat_lt 0 n || same_dim (dim.Number n) len
has_room g (dim.Name d) len = is_successor (g.dims d) || same_dim (dim.Name d) len
has_room g (dim.Len k) len = same_dim (dim.Len k) len

abbrev pub cell_has_room : Context → CellKind → Dim → Bool
cell_has_room g kind.Word len = true
cell_has_room g (kind.Below d) len = has_room g d len

abbrev pub TypedMakes : Context → List Make → Type 0
TypedMakes g [] = Unit {0}
TypedMakes g (m ∷ ms) = (g.bufs m.buf ≡ None) × (sees_dim g m.len ≡ true) × (sees_cell g m.cell ≡ true) × (cell_has_room g m.cell m.len ≡ true) × TypedMakes (with_buf g m) ms

abbrev pub with_bufs : Context → List Make → Context
with_bufs g [] = g
with_bufs g (m ∷ ms) = with_bufs (with_buf g m) ms

abbrev pub with_line : Context → LineTree → Context
with_line g (plain.Of d e) = with_form g d Of
with_line g (plain.Product d l r) = with_form g d (Product l r)
with_line g (plain.Successor d of) = with_form g d (Successor of)

abbrev pub TypedLine : Context → LineTree → Type 0
TypedLine g (plain.Of d e) = (g.dims d ≡ None) × (fine g e ≡ true)
TypedLine g (plain.Product d l r) = (g.dims d ≡ None) × (sees_dim g l ≡ true) × (sees_dim g r ≡ true)
TypedLine g (plain.Successor d of) = (g.dims d ≡ None) × (sees_dim g of ≡ true)

abbrev pub TypedLines : Context → List LineTree → Type 0
TypedLines g [] = Unit {0}
TypedLines g (l ∷ ls) = TypedLine g l × TypedLines (with_line g l) ls

abbrev pub with_lines : Context → List LineTree → Context
with_lines g [] = g
with_lines g (l ∷ ls) = with_lines (with_line g l) ls

-- what is visible in the block of a phase, in front of its dim lines, and after the phase
abbrev pub in_body : Context → PhaseTree → Context
in_body g p = with_bufs g p.makes

abbrev pub in_lines : Context → PhaseTree → Context
in_lines g p = outer (in_body g p) p.body

abbrev pub after_phase : Context → PhaseTree → Context
after_phase g p = without_regs (with_lines (in_lines g p) p.lines)

abbrev pub TypedPhases : Context → List PhaseTree → Type 0
TypedPhases g [] = Unit {0}
TypedPhases g (p ∷ ps) = TypedMakes g p.makes × Typed (in_body g p) p.body × TypedLines (in_lines g p) p.lines × TypedPhases (after_phase g p) ps

abbrev pub after_phases : Context → List PhaseTree → Context
after_phases g [] = g
after_phases g (p ∷ ps) = after_phases (after_phase g p) ps

abbrev pub is_listed : ℕ → List ℕ → Bool
is_listed b [] = false
is_listed b (x ∷ xs) = nat_eq b x || is_listed b xs

abbrev pub sees_all : Context → List ℕ → Bool
sees_all g [] = true
sees_all g (b ∷ bs) = is_some (g.bufs b) && sees_all g bs

abbrev pub are_distinct : List ℕ → Bool
are_distinct [] = true
are_distinct (b ∷ bs) = not (is_listed b bs) && are_distinct bs

-- in front of the first phase
abbrev pub before : ℕ → Context
before sources = record { sources = sources; regs = λ _. None; bufs = λ _. None; dims = λ _. None }

-- a program that keeps the rules
abbrev pub TypedProgram : ProgramTree → Type 0
TypedProgram p = TypedPhases (before p.sources) p.phases × (sees_all (after_phases (before p.sources) p.phases) p.give ≡ true) × (are_distinct p.give ≡ true)
