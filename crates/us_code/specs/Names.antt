-- Which names a block changes.
use Rattle.std.specs.Prelude.{List, [], ◌∷◌, ℕ, ◌+◌, Bool, false, ◌||◌, nat_eq}
use Rattle.us_code.specs.declared.program.Buf.{Buf}
use Rattle.us_code.specs.declared.program.Buf.TheVariants as buf
use Rattle.us_code.specs.declared.program.Dim.{Dim}
use Rattle.us_code.specs.declared.program.Dim.TheVariants as dim
use Rattle.us_code.specs.Plain.{TermTree, Number, Reg, Size, Flat, Next, Up, Add, Sub, Mul, Div, Rem, Code, End, Let, Load, Var, Put, Set, For, Span, If, When, Order}

abbrev pub is_new_at : ℕ → Buf → Bool
is_new_at x (buf.New b) = nat_eq b x
is_new_at x (buf.Source k) = false

-- a `set` or an `order` names the new buffer x
abbrev pub writes : ℕ → Code → Bool
writes x End = false
writes x (Let r e rest) = writes x rest
writes x (Load r b at rest) = writes x rest
writes x (Var r e rest) = writes x rest
writes x (Put r e rest) = writes x rest
writes x (Set b at e rest) = is_new_at x b || writes x rest
writes x (For r d body rest) = writes x body || writes x rest
writes x (Span r a b d body rest) = writes x body || writes x rest
writes x (If l eq r body given other rest) = writes x body || (writes x other || writes x rest)
writes x (When e d r body given other rest) = writes x body || (writes x other || writes x rest)
writes x (Order b keys rest) = is_new_at x b || writes x rest

-- the register x gets a value
abbrev pub assigns : ℕ → Code → Bool
assigns x End = false
assigns x (Let r e rest) = nat_eq r x || assigns x rest
assigns x (Load r b at rest) = nat_eq r x || assigns x rest
assigns x (Var r e rest) = nat_eq r x || assigns x rest
assigns x (Put r e rest) = nat_eq r x || assigns x rest
assigns x (Set b at e rest) = assigns x rest
assigns x (For r d body rest) = nat_eq r x || (assigns x body || assigns x rest)
assigns x (Span r a b d body rest) = nat_eq r x || (assigns x body || assigns x rest)
assigns x (If l eq r body given other rest) = assigns x body || (assigns x other || assigns x rest)
assigns x (When e d r body given other rest) = nat_eq r x || (assigns x body || (assigns x other || assigns x rest))
assigns x (Order b keys rest) = assigns x rest

-- how many statements there are, also inside blocks
abbrev pub count : Code → ℕ
count End = 0
count (Let r e rest) = 1 + count rest
count (Load r b at rest) = 1 + count rest
count (Var r e rest) = 1 + count rest
count (Put r e rest) = 1 + count rest
count (Set b at e rest) = 1 + count rest
count (For r d body rest) = 1 + count body + count rest
count (Span r a b d body rest) = 1 + count body + count rest
count (If l eq r body given other rest) = 1 + count body + count other + count rest
count (When e d r body given other rest) = 1 + count body + count other + count rest
count (Order b keys rest) = 1 + count rest

-- every register, dim and new buffer that is read is among these
abbrev pub UsesDim : (ℕ → Type 0) → Dim → Type 0
UsesDim D (dim.Number n) = Unit {0}
UsesDim D (dim.Name d) = D d
UsesDim D (dim.Len k) = Unit {0}

abbrev pub UsesTerm : (ℕ → Type 0) → (ℕ → Type 0) → TermTree → Type 0
UsesTerm R D (Number n) = Unit {0}
UsesTerm R D (Reg r) = R r
UsesTerm R D (Size d) = UsesDim D d
UsesTerm R D (Flat d p c) = D d × UsesTerm R D p × UsesTerm R D c
UsesTerm R D (Next d x) = UsesTerm R D x
UsesTerm R D (Up d x) = UsesTerm R D x
UsesTerm R D (Add a b) = UsesTerm R D a × UsesTerm R D b
UsesTerm R D (Sub a b) = UsesTerm R D a × UsesTerm R D b
UsesTerm R D (Mul a b) = UsesTerm R D a × UsesTerm R D b
UsesTerm R D (Div a k) = UsesTerm R D a
UsesTerm R D (Rem a k) = UsesTerm R D a

abbrev pub UsesBuf : (ℕ → Type 0) → Buf → Type 0
UsesBuf B (buf.New b) = B b
UsesBuf B (buf.Source k) = Unit {0}

abbrev pub UsesBufs : (ℕ → Type 0) → List Buf → Type 0
UsesBufs B [] = Unit {0}
UsesBufs B (b ∷ bs) = UsesBuf B b × UsesBufs B bs

abbrev pub Uses : (ℕ → Type 0) → (ℕ → Type 0) → (ℕ → Type 0) → Code → Type 0
Uses R B D End = Unit {0}
Uses R B D (Let r e rest) = UsesTerm R D e × Uses R B D rest
Uses R B D (Load r b at rest) = UsesBuf B b × UsesTerm R D at × Uses R B D rest
Uses R B D (Var r e rest) = UsesTerm R D e × Uses R B D rest
Uses R B D (Put r e rest) = UsesTerm R D e × Uses R B D rest
Uses R B D (Set b at e rest) = UsesBuf B b × UsesTerm R D at × UsesTerm R D e × Uses R B D rest
Uses R B D (For r d body rest) = UsesDim D d × Uses R B D body × Uses R B D rest
Uses R B D (Span r a b d body rest) = UsesTerm R D a × UsesTerm R D b × Uses R B D body × Uses R B D rest
Uses R B D (If l eq r body given other rest) = UsesTerm R D l × UsesTerm R D r × Uses R B D body × Uses R B D other × Uses R B D rest
Uses R B D (When e d r body given other rest) = UsesTerm R D e × UsesDim D d × Uses R B D body × Uses R B D other × Uses R B D rest
Uses R B D (Order b keys rest) = UsesBuf B b × UsesBufs B keys × Uses R B D rest
