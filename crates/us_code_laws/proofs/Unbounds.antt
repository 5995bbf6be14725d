-- There is no first broken rule exactly where a program is typed.
use Rattle.std.proofs.Common.{◌≡◌, ℕ, ◌+◌, Bool, true, false, ◌&&◌, refl, List, [], ◌∷◌, length, Option, Some, None}
use Rattle.us_code.specs.declared.program.Make.{Make}
use Rattle.us_code.specs.declared.program.CellKind.{CellKind}
use Rattle.us_code.specs.declared.program.CellKind.TheVariants as kind
use Rattle.us_code.specs.Plain.{TermTree, Number, Reg, Size, Flat, Next, Up, Add, Sub, Mul, Div, Rem, Code, End, Let, Load, Var, Put, Set, For, Span, If, When, Order, LineTree, PhaseTree, ProgramTree}
use Rattle.us_code.specs.Plain as plain
use Rattle.us_code.specs.Names.{count}
use Rattle.us_code.specs.Typing.{Form, Context, is_some, with_reg, fits, fits_cell, is_put, kind_of, sees_dim, sees_buf, sees_bufs, sees_cell, len_of, cell_of, is_new, is_flat, is_next, spans, is_below, are_keys, fine, Typed, with_buf, cell_has_room, with_line, in_body, in_lines, after_phase, TypedMakes, TypedLine, TypedLines, TypedPhases, after_phases, sees_all, are_distinct, before}
use Rattle.us_code.specs.Unbound.{Break, rule, ◌or◌, unless, broken, sees_term, keeps_flats, keeps_nexts, is_free, broken_in, broken_makes, line_rules, broken_lines, broken_phase, in_phase, unbound_from}
use Rattle.us_code_laws.specs.Laws.{UnboundMeansUntyped}
use Rattle.us_code_laws.proofs.Sound.{and_left, and_right, both_true}

-- nothing in neither
or_left : {A : Type 0} (x y : Option A) → x or y ≡ None → x ≡ None
or_left None y h = refl
or_left (Some a) y h = absurd cc

or_right : {A : Type 0} (x y : Option A) → x or y ≡ None → y ≡ None
or_right None y h = h
or_right (Some a) y h = absurd cc

neither : {A : Type 0} (x y : Option A) → x ≡ None → y ≡ None → x or y ≡ None
neither None y h k = k
neither (Some a) y h k = absurd cc

kept : (b : Bool) (x : Break) (o : Option Break) → unless b x o ≡ None → b ≡ true
kept true x o h = refl
kept false x o h = absurd cc

others : (b : Bool) (x : Break) (o : Option Break) → unless b x o ≡ None → o ≡ None
others true x o h = h
others false x o h = absurd cc

keep : (b : Bool) (x : Break) (o : Option Break) → b ≡ true → o ≡ None → unless b x o ≡ None
keep true x o h k = k
keep false x o h k = absurd cc

free_none : {A : Type 0} (o : Option A) → is_free o ≡ true → o ≡ None
free_none None h = refl
free_none (Some x) h = absurd cc

none_free : {A : Type 0} (o : Option A) → o ≡ None → is_free o ≡ true
none_free None h = refl
none_free (Some x) h = absurd cc

-- two, three rules of one item
record Two (a b : Bool) : Type 0 where
  one : a ≡ true
  two : b ≡ true

split : (a b : Bool) → a && b ≡ true → Two a b
split a b h = record { one = and_left a b h; two = and_right a b h }

pub flat_some : (o : Option Form) (a b : CellKind) → is_flat o a b ≡ true → is_some o ≡ true
flat_some None a b h = absurd cc
flat_some (Some f) a b h = refl

pub next_some : (o : Option Form) (a : CellKind) → is_next o a ≡ true → is_some o ≡ true
next_some None a h = absurd cc
next_some (Some f) a h = refl

-- a term is fine exactly where its three rules are kept
pub fine_if : (g : Context) (e : TermTree) → sees_term g e ≡ true → keeps_flats g e ≡ true → keeps_nexts g e ≡ true → fine g e ≡ true
fine_if g (Number n) s f n' = refl
fine_if g (Reg r) s f n = s
fine_if g (Size d) s f n = s
fine_if g (Flat d p c) s f n =
    let s1 = split (sees_term g p) (sees_term g c) (and_right (is_some (g.dims d)) (sees_term g p && sees_term g c) s) in
    let f1 = split (keeps_flats g p) (keeps_flats g c) (and_right (is_flat (g.dims d) (kind_of g p) (kind_of g c)) (keeps_flats g p && keeps_flats g c) f) in
    let n1 = split (keeps_nexts g p) (keeps_nexts g c) n in
    both_true (fine g p && fine g c) _ (both_true (fine g p) (fine g c) (fine_if g p s1.one f1.one n1.one) (fine_if g c s1.two f1.two n1.two)) (and_left (is_flat (g.dims d) (kind_of g p) (kind_of g c)) (keeps_flats g p && keeps_flats g c) f)
fine_if g (Next d x) s f n = both_true (fine g x) _ (fine_if g x (and_right (is_some (g.dims d)) (sees_term g x) s) f (and_right (is_next (g.dims d) (kind_of g x)) (keeps_nexts g x) n)) (and_left (is_next (g.dims d) (kind_of g x)) (keeps_nexts g x) n)
fine_if g (Up d x) s f n = both_true (fine g x) _ (fine_if g x (and_right (is_some (g.dims d)) (sees_term g x) s) f (and_right (is_next (g.dims d) (kind_of g x)) (keeps_nexts g x) n)) (and_left (is_next (g.dims d) (kind_of g x)) (keeps_nexts g x) n)
fine_if g (Add a b) s f n = let s1 = split (sees_term g a) (sees_term g b) s in let f1 = split (keeps_flats g a) (keeps_flats g b) f in let n1 = split (keeps_nexts g a) (keeps_nexts g b) n in both_true (fine g a) (fine g b) (fine_if g a s1.one f1.one n1.one) (fine_if g b s1.two f1.two n1.two)
fine_if g (Sub a b) s f n = let s1 = split (sees_term g a) (sees_term g b) s in let f1 = split (keeps_flats g a) (keeps_flats g b) f in let n1 = split (keeps_nexts g a) (keeps_nexts g b) n in both_true (fine g a) (fine g b) (fine_if g a s1.one f1.one n1.one) (fine_if g b s1.two f1.two n1.two)
fine_if g (Mul a b) s f n = let s1 = split (sees_term g a) (sees_term g b) s in let f1 = split (keeps_flats g a) (keeps_flats g b) f in let n1 = split (keeps_nexts g a) (keeps_nexts g b) n in both_true (fine g a) (fine g b) (fine_if g a s1.one f1.one n1.one) (fine_if g b s1.two f1.two n1.two)
fine_if g (Div a k) s f n = fine_if g a s f n
fine_if g (Rem a k) s f n = fine_if g a s f n

pub fine_sees : (g : Context) (e : TermTree) → fine g e ≡ true → sees_term g e ≡ true
fine_sees g (Number n) h = refl
fine_sees g (Reg r) h = h
fine_sees g (Size d) h = h
fine_sees g (Flat d p c) h =
    let h1 = split (fine g p) (fine g c) (and_left (fine g p && fine g c) (is_flat (g.dims d) (kind_of g p) (kind_of g c)) h) in
    both_true (is_some (g.dims d)) _ (flat_some (g.dims d) (kind_of g p) (kind_of g c) (and_right (fine g p && fine g c) _ h)) (both_true (sees_term g p) (sees_term g c) (fine_sees g p h1.one) (fine_sees g c h1.two))
fine_sees g (Next d x) h = both_true (is_some (g.dims d)) _ (next_some (g.dims d) (kind_of g x) (and_right (fine g x) _ h)) (fine_sees g x (and_left (fine g x) _ h))
fine_sees g (Up d x) h = both_true (is_some (g.dims d)) _ (next_some (g.dims d) (kind_of g x) (and_right (fine g x) _ h)) (fine_sees g x (and_left (fine g x) _ h))
fine_sees g (Add a b) h = let h1 = split (fine g a) (fine g b) h in both_true (sees_term g a) (sees_term g b) (fine_sees g a h1.one) (fine_sees g b h1.two)
fine_sees g (Sub a b) h = let h1 = split (fine g a) (fine g b) h in both_true (sees_term g a) (sees_term g b) (fine_sees g a h1.one) (fine_sees g b h1.two)
fine_sees g (Mul a b) h = let h1 = split (fine g a) (fine g b) h in both_true (sees_term g a) (sees_term g b) (fine_sees g a h1.one) (fine_sees g b h1.two)
fine_sees g (Div a k) h = fine_sees g a h
fine_sees g (Rem a k) h = fine_sees g a h

pub fine_flats : (g : Context) (e : TermTree) → fine g e ≡ true → keeps_flats g e ≡ true
fine_flats g (Number n) h = refl
fine_flats g (Reg r) h = refl
fine_flats g (Size d) h = refl
fine_flats g (Flat d p c) h =
    let h1 = split (fine g p) (fine g c) (and_left (fine g p && fine g c) (is_flat (g.dims d) (kind_of g p) (kind_of g c)) h) in
    both_true (is_flat (g.dims d) (kind_of g p) (kind_of g c)) _ (and_right (fine g p && fine g c) _ h) (both_true (keeps_flats g p) (keeps_flats g c) (fine_flats g p h1.one) (fine_flats g c h1.two))
fine_flats g (Next d x) h = fine_flats g x (and_left (fine g x) _ h)
fine_flats g (Up d x) h = fine_flats g x (and_left (fine g x) _ h)
fine_flats g (Add a b) h = let h1 = split (fine g a) (fine g b) h in both_true (keeps_flats g a) (keeps_flats g b) (fine_flats g a h1.one) (fine_flats g b h1.two)
fine_flats g (Sub a b) h = let h1 = split (fine g a) (fine g b) h in both_true (keeps_flats g a) (keeps_flats g b) (fine_flats g a h1.one) (fine_flats g b h1.two)
fine_flats g (Mul a b) h = let h1 = split (fine g a) (fine g b) h in both_true (keeps_flats g a) (keeps_flats g b) (fine_flats g a h1.one) (fine_flats g b h1.two)
fine_flats g (Div a k) h = fine_flats g a h
fine_flats g (Rem a k) h = fine_flats g a h

pub fine_nexts : (g : Context) (e : TermTree) → fine g e ≡ true → keeps_nexts g e ≡ true
fine_nexts g (Number n) h = refl
fine_nexts g (Reg r) h = refl
fine_nexts g (Size d) h = refl
fine_nexts g (Flat d p c) h = let h1 = split (fine g p) (fine g c) (and_left (fine g p && fine g c) (is_flat (g.dims d) (kind_of g p) (kind_of g c)) h) in both_true (keeps_nexts g p) (keeps_nexts g c) (fine_nexts g p h1.one) (fine_nexts g c h1.two)
fine_nexts g (Next d x) h = both_true (is_next (g.dims d) (kind_of g x)) _ (and_right (fine g x) _ h) (fine_nexts g x (and_left (fine g x) _ h))
fine_nexts g (Up d x) h = both_true (is_next (g.dims d) (kind_of g x)) _ (and_right (fine g x) _ h) (fine_nexts g x (and_left (fine g x) _ h))
fine_nexts g (Add a b) h = let h1 = split (fine g a) (fine g b) h in both_true (keeps_nexts g a) (keeps_nexts g b) (fine_nexts g a h1.one) (fine_nexts g b h1.two)
fine_nexts g (Sub a b) h = let h1 = split (fine g a) (fine g b) h in both_true (keeps_nexts g a) (keeps_nexts g b) (fine_nexts g a h1.one) (fine_nexts g b h1.two)
fine_nexts g (Mul a b) h = let h1 = split (fine g a) (fine g b) h in both_true (keeps_nexts g a) (keeps_nexts g b) (fine_nexts g a h1.one) (fine_nexts g b h1.two)
fine_nexts g (Div a k) h = fine_nexts g a h
fine_nexts g (Rem a k) h = fine_nexts g a h

-- a block
pub typed_if : (g : Context) (i : ℕ) (c : Code) → broken_in g i c ≡ None → Typed g c
typed_if g i End h = tt
typed_if g i (Let r e rest) h =
    let k0 = or_left (broken i (rule 1 (is_free (g.regs r) && sees_term g e) ∷ rule 5 (keeps_flats g e) ∷ rule 6 (keeps_nexts g e) ∷ [])) (broken_in (with_reg g r false (kind_of g e)) (i + 1) rest) h in
    let t0 = or_right (broken i (rule 1 (is_free (g.regs r) && sees_term g e) ∷ rule 5 (keeps_flats g e) ∷ rule 6 (keeps_nexts g e) ∷ [])) (broken_in (with_reg g r false (kind_of g e)) (i + 1) rest) h in
    let r0 = kept (is_free (g.regs r) && sees_term g e) record { item = i; rule = 1 } (broken i (rule 5 (keeps_flats g e) ∷ rule 6 (keeps_nexts g e) ∷ [])) k0 in
    let k1 = others (is_free (g.regs r) && sees_term g e) record { item = i; rule = 1 } (broken i (rule 5 (keeps_flats g e) ∷ rule 6 (keeps_nexts g e) ∷ [])) k0 in
    let r1 = kept (keeps_flats g e) record { item = i; rule = 5 } (broken i (rule 6 (keeps_nexts g e) ∷ [])) k1 in
    let k2 = others (keeps_flats g e) record { item = i; rule = 5 } (broken i (rule 6 (keeps_nexts g e) ∷ [])) k1 in
    let r2 = kept (keeps_nexts g e) record { item = i; rule = 6 } (broken i []) k2 in
    (free_none (g.regs r) (and_left (is_free (g.regs r)) (sees_term g e) r0), fine_if g e (and_right (is_free (g.regs r)) (sees_term g e) r0) r1 r2, typed_if (with_reg g r false (kind_of g e)) (i + 1) rest t0)
typed_if g i (Load r b at rest) h =
    let k0 = or_left (broken i (rule 1 (is_free (g.regs r) && (sees_buf g b && sees_term g at)) ∷ rule 2 (fits (kind_of g at) (len_of g b)) ∷ rule 5 (keeps_flats g at) ∷ rule 6 (keeps_nexts g at) ∷ [])) (broken_in (with_reg g r false (cell_of g b)) (i + 1) rest) h in
    let t0 = or_right (broken i (rule 1 (is_free (g.regs r) && (sees_buf g b && sees_term g at)) ∷ rule 2 (fits (kind_of g at) (len_of g b)) ∷ rule 5 (keeps_flats g at) ∷ rule 6 (keeps_nexts g at) ∷ [])) (broken_in (with_reg g r false (cell_of g b)) (i + 1) rest) h in
    let r0 = kept (is_free (g.regs r) && (sees_buf g b && sees_term g at)) record { item = i; rule = 1 } (broken i (rule 2 (fits (kind_of g at) (len_of g b)) ∷ rule 5 (keeps_flats g at) ∷ rule 6 (keeps_nexts g at) ∷ [])) k0 in
    let k1 = others (is_free (g.regs r) && (sees_buf g b && sees_term g at)) record { item = i; rule = 1 } (broken i (rule 2 (fits (kind_of g at) (len_of g b)) ∷ rule 5 (keeps_flats g at) ∷ rule 6 (keeps_nexts g at) ∷ [])) k0 in
    let r1 = kept (fits (kind_of g at) (len_of g b)) record { item = i; rule = 2 } (broken i (rule 5 (keeps_flats g at) ∷ rule 6 (keeps_nexts g at) ∷ [])) k1 in
    let k2 = others (fits (kind_of g at) (len_of g b)) record { item = i; rule = 2 } (broken i (rule 5 (keeps_flats g at) ∷ rule 6 (keeps_nexts g at) ∷ [])) k1 in
    let r2 = kept (keeps_flats g at) record { item = i; rule = 5 } (broken i (rule 6 (keeps_nexts g at) ∷ [])) k2 in
    let k3 = others (keeps_flats g at) record { item = i; rule = 5 } (broken i (rule 6 (keeps_nexts g at) ∷ [])) k2 in
    let r3 = kept (keeps_nexts g at) record { item = i; rule = 6 } (broken i []) k3 in
    (free_none (g.regs r) (and_left (is_free (g.regs r)) (sees_buf g b && sees_term g at) r0), (and_left (sees_buf g b) (sees_term g at) (and_right (is_free (g.regs r)) (sees_buf g b && sees_term g at) r0)), fine_if g at (and_right (sees_buf g b) (sees_term g at) (and_right (is_free (g.regs r)) (sees_buf g b && sees_term g at) r0)) r2 r3, r1, typed_if (with_reg g r false (cell_of g b)) (i + 1) rest t0)
typed_if g i (Var r e rest) h =
    let k0 = or_left (broken i (rule 1 (is_free (g.regs r) && sees_term g e) ∷ rule 5 (keeps_flats g e) ∷ rule 6 (keeps_nexts g e) ∷ [])) (broken_in (with_reg g r true kind.Word) (i + 1) rest) h in
    let t0 = or_right (broken i (rule 1 (is_free (g.regs r) && sees_term g e) ∷ rule 5 (keeps_flats g e) ∷ rule 6 (keeps_nexts g e) ∷ [])) (broken_in (with_reg g r true kind.Word) (i + 1) rest) h in
    let r0 = kept (is_free (g.regs r) && sees_term g e) record { item = i; rule = 1 } (broken i (rule 5 (keeps_flats g e) ∷ rule 6 (keeps_nexts g e) ∷ [])) k0 in
    let k1 = others (is_free (g.regs r) && sees_term g e) record { item = i; rule = 1 } (broken i (rule 5 (keeps_flats g e) ∷ rule 6 (keeps_nexts g e) ∷ [])) k0 in
    let r1 = kept (keeps_flats g e) record { item = i; rule = 5 } (broken i (rule 6 (keeps_nexts g e) ∷ [])) k1 in
    let k2 = others (keeps_flats g e) record { item = i; rule = 5 } (broken i (rule 6 (keeps_nexts g e) ∷ [])) k1 in
    let r2 = kept (keeps_nexts g e) record { item = i; rule = 6 } (broken i []) k2 in
    (free_none (g.regs r) (and_left (is_free (g.regs r)) (sees_term g e) r0), fine_if g e (and_right (is_free (g.regs r)) (sees_term g e) r0) r1 r2, typed_if (with_reg g r true kind.Word) (i + 1) rest t0)
typed_if g i (Put r e rest) h =
    let k0 = or_left (broken i (rule 1 (is_put (g.regs r) && sees_term g e) ∷ rule 5 (keeps_flats g e) ∷ rule 6 (keeps_nexts g e) ∷ [])) (broken_in g (i + 1) rest) h in
    let t0 = or_right (broken i (rule 1 (is_put (g.regs r) && sees_term g e) ∷ rule 5 (keeps_flats g e) ∷ rule 6 (keeps_nexts g e) ∷ [])) (broken_in g (i + 1) rest) h in
    let r0 = kept (is_put (g.regs r) && sees_term g e) record { item = i; rule = 1 } (broken i (rule 5 (keeps_flats g e) ∷ rule 6 (keeps_nexts g e) ∷ [])) k0 in
    let k1 = others (is_put (g.regs r) && sees_term g e) record { item = i; rule = 1 } (broken i (rule 5 (keeps_flats g e) ∷ rule 6 (keeps_nexts g e) ∷ [])) k0 in
    let r1 = kept (keeps_flats g e) record { item = i; rule = 5 } (broken i (rule 6 (keeps_nexts g e) ∷ [])) k1 in
    let k2 = others (keeps_flats g e) record { item = i; rule = 5 } (broken i (rule 6 (keeps_nexts g e) ∷ [])) k1 in
    let r2 = kept (keeps_nexts g e) record { item = i; rule = 6 } (broken i []) k2 in
    ((and_left (is_put (g.regs r)) (sees_term g e) r0), fine_if g e (and_right (is_put (g.regs r)) (sees_term g e) r0) r1 r2, typed_if g (i + 1) rest t0)
typed_if g i (Set b at e rest) h =
    let k0 = or_left (broken i (rule 1 (sees_buf g b && (sees_term g at && sees_term g e)) ∷ rule 2 (fits (kind_of g at) (len_of g b)) ∷ rule 3 (fits_cell (kind_of g e) (cell_of g b)) ∷ rule 5 (keeps_flats g at && keeps_flats g e) ∷ rule 6 (keeps_nexts g at && keeps_nexts g e) ∷ rule 9 (is_new b) ∷ [])) (broken_in g (i + 1) rest) h in
    let t0 = or_right (broken i (rule 1 (sees_buf g b && (sees_term g at && sees_term g e)) ∷ rule 2 (fits (kind_of g at) (len_of g b)) ∷ rule 3 (fits_cell (kind_of g e) (cell_of g b)) ∷ rule 5 (keeps_flats g at && keeps_flats g e) ∷ rule 6 (keeps_nexts g at && keeps_nexts g e) ∷ rule 9 (is_new b) ∷ [])) (broken_in g (i + 1) rest) h in
    let r0 = kept (sees_buf g b && (sees_term g at && sees_term g e)) record { item = i; rule = 1 } (broken i (rule 2 (fits (kind_of g at) (len_of g b)) ∷ rule 3 (fits_cell (kind_of g e) (cell_of g b)) ∷ rule 5 (keeps_flats g at && keeps_flats g e) ∷ rule 6 (keeps_nexts g at && keeps_nexts g e) ∷ rule 9 (is_new b) ∷ [])) k0 in
    let k1 = others (sees_buf g b && (sees_term g at && sees_term g e)) record { item = i; rule = 1 } (broken i (rule 2 (fits (kind_of g at) (len_of g b)) ∷ rule 3 (fits_cell (kind_of g e) (cell_of g b)) ∷ rule 5 (keeps_flats g at && keeps_flats g e) ∷ rule 6 (keeps_nexts g at && keeps_nexts g e) ∷ rule 9 (is_new b) ∷ [])) k0 in
    let r1 = kept (fits (kind_of g at) (len_of g b)) record { item = i; rule = 2 } (broken i (rule 3 (fits_cell (kind_of g e) (cell_of g b)) ∷ rule 5 (keeps_flats g at && keeps_flats g e) ∷ rule 6 (keeps_nexts g at && keeps_nexts g e) ∷ rule 9 (is_new b) ∷ [])) k1 in
    let k2 = others (fits (kind_of g at) (len_of g b)) record { item = i; rule = 2 } (broken i (rule 3 (fits_cell (kind_of g e) (cell_of g b)) ∷ rule 5 (keeps_flats g at && keeps_flats g e) ∷ rule 6 (keeps_nexts g at && keeps_nexts g e) ∷ rule 9 (is_new b) ∷ [])) k1 in
    let r2 = kept (fits_cell (kind_of g e) (cell_of g b)) record { item = i; rule = 3 } (broken i (rule 5 (keeps_flats g at && keeps_flats g e) ∷ rule 6 (keeps_nexts g at && keeps_nexts g e) ∷ rule 9 (is_new b) ∷ [])) k2 in
    let k3 = others (fits_cell (kind_of g e) (cell_of g b)) record { item = i; rule = 3 } (broken i (rule 5 (keeps_flats g at && keeps_flats g e) ∷ rule 6 (keeps_nexts g at && keeps_nexts g e) ∷ rule 9 (is_new b) ∷ [])) k2 in
    let r3 = kept (keeps_flats g at && keeps_flats g e) record { item = i; rule = 5 } (broken i (rule 6 (keeps_nexts g at && keeps_nexts g e) ∷ rule 9 (is_new b) ∷ [])) k3 in
    let k4 = others (keeps_flats g at && keeps_flats g e) record { item = i; rule = 5 } (broken i (rule 6 (keeps_nexts g at && keeps_nexts g e) ∷ rule 9 (is_new b) ∷ [])) k3 in
    let r4 = kept (keeps_nexts g at && keeps_nexts g e) record { item = i; rule = 6 } (broken i (rule 9 (is_new b) ∷ [])) k4 in
    let k5 = others (keeps_nexts g at && keeps_nexts g e) record { item = i; rule = 6 } (broken i (rule 9 (is_new b) ∷ [])) k4 in
    let r5 = kept (is_new b) record { item = i; rule = 9 } (broken i []) k5 in
    (r5, (and_left (sees_buf g b) (sees_term g at && sees_term g e) r0), fine_if g at (and_left (sees_term g at) (sees_term g e) (and_right (sees_buf g b) (sees_term g at && sees_term g e) r0)) (and_left (keeps_flats g at) (keeps_flats g e) r3) (and_left (keeps_nexts g at) (keeps_nexts g e) r4), fine_if g e (and_right (sees_term g at) (sees_term g e) (and_right (sees_buf g b) (sees_term g at && sees_term g e) r0)) (and_right (keeps_flats g at) (keeps_flats g e) r3) (and_right (keeps_nexts g at) (keeps_nexts g e) r4), r1, r2, typed_if g (i + 1) rest t0)
typed_if g i (For r d body rest) h =
    let k0 = or_left (broken i (rule 1 (is_free (g.regs r) && sees_dim g d) ∷ [])) (broken_in (with_reg g r false (kind.Below d)) (i + 1) body or broken_in g (i + 1 + count body) rest) h in
    let t0 = or_right (broken i (rule 1 (is_free (g.regs r) && sees_dim g d) ∷ [])) (broken_in (with_reg g r false (kind.Below d)) (i + 1) body or broken_in g (i + 1 + count body) rest) h in
    let c0 = or_left (broken_in (with_reg g r false (kind.Below d)) (i + 1) body) (broken_in g (i + 1 + count body) rest) t0 in
    let t1 = or_right (broken_in (with_reg g r false (kind.Below d)) (i + 1) body) (broken_in g (i + 1 + count body) rest) t0 in
    let r0 = kept (is_free (g.regs r) && sees_dim g d) record { item = i; rule = 1 } (broken i []) k0 in
    (free_none (g.regs r) (and_left (is_free (g.regs r)) (sees_dim g d) r0), (and_right (is_free (g.regs r)) (sees_dim g d) r0), typed_if (with_reg g r false (kind.Below d)) (i + 1) body c0, typed_if g (i + 1 + count body) rest t1)
typed_if g i (Span r a b d body rest) h =
    let k0 = or_left (broken i (rule 1 (is_free (g.regs r) && (sees_dim g d && (sees_term g a && sees_term g b))) ∷ rule 4 (spans g (kind_of g a) (kind_of g b) d) ∷ rule 5 (keeps_flats g a && keeps_flats g b) ∷ rule 6 (keeps_nexts g a && keeps_nexts g b) ∷ [])) (broken_in (with_reg g r false (kind.Below d)) (i + 1) body or broken_in g (i + 1 + count body) rest) h in
    let t0 = or_right (broken i (rule 1 (is_free (g.regs r) && (sees_dim g d && (sees_term g a && sees_term g b))) ∷ rule 4 (spans g (kind_of g a) (kind_of g b) d) ∷ rule 5 (keeps_flats g a && keeps_flats g b) ∷ rule 6 (keeps_nexts g a && keeps_nexts g b) ∷ [])) (broken_in (with_reg g r false (kind.Below d)) (i + 1) body or broken_in g (i + 1 + count body) rest) h in
    let c0 = or_left (broken_in (with_reg g r false (kind.Below d)) (i + 1) body) (broken_in g (i + 1 + count body) rest) t0 in
    let t1 = or_right (broken_in (with_reg g r false (kind.Below d)) (i + 1) body) (broken_in g (i + 1 + count body) rest) t0 in
    let r0 = kept (is_free (g.regs r) && (sees_dim g d && (sees_term g a && sees_term g b))) record { item = i; rule = 1 } (broken i (rule 4 (spans g (kind_of g a) (kind_of g b) d) ∷ rule 5 (keeps_flats g a && keeps_flats g b) ∷ rule 6 (keeps_nexts g a && keeps_nexts g b) ∷ [])) k0 in
    let k1 = others (is_free (g.regs r) && (sees_dim g d && (sees_term g a && sees_term g b))) record { item = i; rule = 1 } (broken i (rule 4 (spans g (kind_of g a) (kind_of g b) d) ∷ rule 5 (keeps_flats g a && keeps_flats g b) ∷ rule 6 (keeps_nexts g a && keeps_nexts g b) ∷ [])) k0 in
    let r1 = kept (spans g (kind_of g a) (kind_of g b) d) record { item = i; rule = 4 } (broken i (rule 5 (keeps_flats g a && keeps_flats g b) ∷ rule 6 (keeps_nexts g a && keeps_nexts g b) ∷ [])) k1 in
    let k2 = others (spans g (kind_of g a) (kind_of g b) d) record { item = i; rule = 4 } (broken i (rule 5 (keeps_flats g a && keeps_flats g b) ∷ rule 6 (keeps_nexts g a && keeps_nexts g b) ∷ [])) k1 in
    let r2 = kept (keeps_flats g a && keeps_flats g b) record { item = i; rule = 5 } (broken i (rule 6 (keeps_nexts g a && keeps_nexts g b) ∷ [])) k2 in
    let k3 = others (keeps_flats g a && keeps_flats g b) record { item = i; rule = 5 } (broken i (rule 6 (keeps_nexts g a && keeps_nexts g b) ∷ [])) k2 in
    let r3 = kept (keeps_nexts g a && keeps_nexts g b) record { item = i; rule = 6 } (broken i []) k3 in
    (free_none (g.regs r) (and_left (is_free (g.regs r)) (sees_dim g d && (sees_term g a && sees_term g b)) r0), (and_left (sees_dim g d) (sees_term g a && sees_term g b) (and_right (is_free (g.regs r)) (sees_dim g d && (sees_term g a && sees_term g b)) r0)), fine_if g a (and_left (sees_term g a) (sees_term g b) (and_right (sees_dim g d) (sees_term g a && sees_term g b) (and_right (is_free (g.regs r)) (sees_dim g d && (sees_term g a && sees_term g b)) r0))) (and_left (keeps_flats g a) (keeps_flats g b) r2) (and_left (keeps_nexts g a) (keeps_nexts g b) r3), fine_if g b (and_right (sees_term g a) (sees_term g b) (and_right (sees_dim g d) (sees_term g a && sees_term g b) (and_right (is_free (g.regs r)) (sees_dim g d && (sees_term g a && sees_term g b)) r0))) (and_right (keeps_flats g a) (keeps_flats g b) r2) (and_right (keeps_nexts g a) (keeps_nexts g b) r3), r1, typed_if (with_reg g r false (kind.Below d)) (i + 1) body c0, typed_if g (i + 1 + count body) rest t1)
typed_if g i (If l eq r body given other rest) h =
    let k0 = or_left (broken i (rule 1 (sees_term g l && sees_term g r) ∷ rule 5 (keeps_flats g l && keeps_flats g r) ∷ rule 6 (keeps_nexts g l && keeps_nexts g r) ∷ [])) (broken_in g (i + 1) body or broken_in g (i + 1 + count body) other or broken_in g (i + 1 + count body + count other) rest) h in
    let t0 = or_right (broken i (rule 1 (sees_term g l && sees_term g r) ∷ rule 5 (keeps_flats g l && keeps_flats g r) ∷ rule 6 (keeps_nexts g l && keeps_nexts g r) ∷ [])) (broken_in g (i + 1) body or broken_in g (i + 1 + count body) other or broken_in g (i + 1 + count body + count other) rest) h in
    let c0 = or_left (broken_in g (i + 1) body) (broken_in g (i + 1 + count body) other or broken_in g (i + 1 + count body + count other) rest) t0 in
    let t1 = or_right (broken_in g (i + 1) body) (broken_in g (i + 1 + count body) other or broken_in g (i + 1 + count body + count other) rest) t0 in
    let c1 = or_left (broken_in g (i + 1 + count body) other) (broken_in g (i + 1 + count body + count other) rest) t1 in
    let t2 = or_right (broken_in g (i + 1 + count body) other) (broken_in g (i + 1 + count body + count other) rest) t1 in
    let r0 = kept (sees_term g l && sees_term g r) record { item = i; rule = 1 } (broken i (rule 5 (keeps_flats g l && keeps_flats g r) ∷ rule 6 (keeps_nexts g l && keeps_nexts g r) ∷ [])) k0 in
    let k1 = others (sees_term g l && sees_term g r) record { item = i; rule = 1 } (broken i (rule 5 (keeps_flats g l && keeps_flats g r) ∷ rule 6 (keeps_nexts g l && keeps_nexts g r) ∷ [])) k0 in
    let r1 = kept (keeps_flats g l && keeps_flats g r) record { item = i; rule = 5 } (broken i (rule 6 (keeps_nexts g l && keeps_nexts g r) ∷ [])) k1 in
    let k2 = others (keeps_flats g l && keeps_flats g r) record { item = i; rule = 5 } (broken i (rule 6 (keeps_nexts g l && keeps_nexts g r) ∷ [])) k1 in
    let r2 = kept (keeps_nexts g l && keeps_nexts g r) record { item = i; rule = 6 } (broken i []) k2 in
    (fine_if g l (and_left (sees_term g l) (sees_term g r) r0) (and_left (keeps_flats g l) (keeps_flats g r) r1) (and_left (keeps_nexts g l) (keeps_nexts g r) r2), fine_if g r (and_right (sees_term g l) (sees_term g r) r0) (and_right (keeps_flats g l) (keeps_flats g r) r1) (and_right (keeps_nexts g l) (keeps_nexts g r) r2), typed_if g (i + 1) body c0, typed_if g (i + 1 + count body) other c1, typed_if g (i + 1 + count body + count other) rest t2)
typed_if g i (When e d r body given other rest) h =
    let k0 = or_left (broken i (rule 1 (is_free (g.regs r) && (sees_dim g d && sees_term g e)) ∷ rule 5 (keeps_flats g e) ∷ rule 6 (keeps_nexts g e) ∷ [])) (broken_in (with_reg g r false (kind.Below d)) (i + 1) body or broken_in g (i + 1 + count body) other or broken_in g (i + 1 + count body + count other) rest) h in
    let t0 = or_right (broken i (rule 1 (is_free (g.regs r) && (sees_dim g d && sees_term g e)) ∷ rule 5 (keeps_flats g e) ∷ rule 6 (keeps_nexts g e) ∷ [])) (broken_in (with_reg g r false (kind.Below d)) (i + 1) body or broken_in g (i + 1 + count body) other or broken_in g (i + 1 + count body + count other) rest) h in
    let c0 = or_left (broken_in (with_reg g r false (kind.Below d)) (i + 1) body) (broken_in g (i + 1 + count body) other or broken_in g (i + 1 + count body + count other) rest) t0 in
    let t1 = or_right (broken_in (with_reg g r false (kind.Below d)) (i + 1) body) (broken_in g (i + 1 + count body) other or broken_in g (i + 1 + count body + count other) rest) t0 in
    let c1 = or_left (broken_in g (i + 1 + count body) other) (broken_in g (i + 1 + count body + count other) rest) t1 in
    let t2 = or_right (broken_in g (i + 1 + count body) other) (broken_in g (i + 1 + count body + count other) rest) t1 in
    let r0 = kept (is_free (g.regs r) && (sees_dim g d && sees_term g e)) record { item = i; rule = 1 } (broken i (rule 5 (keeps_flats g e) ∷ rule 6 (keeps_nexts g e) ∷ [])) k0 in
    let k1 = others (is_free (g.regs r) && (sees_dim g d && sees_term g e)) record { item = i; rule = 1 } (broken i (rule 5 (keeps_flats g e) ∷ rule 6 (keeps_nexts g e) ∷ [])) k0 in
    let r1 = kept (keeps_flats g e) record { item = i; rule = 5 } (broken i (rule 6 (keeps_nexts g e) ∷ [])) k1 in
    let k2 = others (keeps_flats g e) record { item = i; rule = 5 } (broken i (rule 6 (keeps_nexts g e) ∷ [])) k1 in
    let r2 = kept (keeps_nexts g e) record { item = i; rule = 6 } (broken i []) k2 in
    (free_none (g.regs r) (and_left (is_free (g.regs r)) (sees_dim g d && sees_term g e) r0), (and_left (sees_dim g d) (sees_term g e) (and_right (is_free (g.regs r)) (sees_dim g d && sees_term g e) r0)), fine_if g e (and_right (sees_dim g d) (sees_term g e) (and_right (is_free (g.regs r)) (sees_dim g d && sees_term g e) r0)) r1 r2, typed_if (with_reg g r false (kind.Below d)) (i + 1) body c0, typed_if g (i + 1 + count body) other c1, typed_if g (i + 1 + count body + count other) rest t2)
typed_if g i (Order b keys rest) h =
    let k0 = or_left (broken i (rule 1 (sees_buf g b && sees_bufs g keys) ∷ rule 7 (is_below (cell_of g b) (len_of g b) && are_keys g b keys) ∷ rule 9 (is_new b) ∷ [])) (broken_in g (i + 1) rest) h in
    let t0 = or_right (broken i (rule 1 (sees_buf g b && sees_bufs g keys) ∷ rule 7 (is_below (cell_of g b) (len_of g b) && are_keys g b keys) ∷ rule 9 (is_new b) ∷ [])) (broken_in g (i + 1) rest) h in
    let r0 = kept (sees_buf g b && sees_bufs g keys) record { item = i; rule = 1 } (broken i (rule 7 (is_below (cell_of g b) (len_of g b) && are_keys g b keys) ∷ rule 9 (is_new b) ∷ [])) k0 in
    let k1 = others (sees_buf g b && sees_bufs g keys) record { item = i; rule = 1 } (broken i (rule 7 (is_below (cell_of g b) (len_of g b) && are_keys g b keys) ∷ rule 9 (is_new b) ∷ [])) k0 in
    let r1 = kept (is_below (cell_of g b) (len_of g b) && are_keys g b keys) record { item = i; rule = 7 } (broken i (rule 9 (is_new b) ∷ [])) k1 in
    let k2 = others (is_below (cell_of g b) (len_of g b) && are_keys g b keys) record { item = i; rule = 7 } (broken i (rule 9 (is_new b) ∷ [])) k1 in
    let r2 = kept (is_new b) record { item = i; rule = 9 } (broken i []) k2 in
    (r2, (and_left (sees_buf g b) (sees_bufs g keys) r0), (and_right (sees_buf g b) (sees_bufs g keys) r0), (and_left (is_below (cell_of g b) (len_of g b)) (are_keys g b keys) r1), (and_right (is_below (cell_of g b) (len_of g b)) (are_keys g b keys) r1), typed_if g (i + 1) rest t0)

pub unbroken_if : (g : Context) (i : ℕ) (c : Code) → Typed g c → broken_in g i c ≡ None
unbroken_if g i End h = refl
unbroken_if g i (Let r e rest) h =
    let kept_rules = (keep (is_free (g.regs r) && sees_term g e) record { item = i; rule = 1 } (broken i (rule 5 (keeps_flats g e) ∷ rule 6 (keeps_nexts g e) ∷ [])) (both_true (is_free (g.regs r)) (sees_term g e) (none_free (g.regs r) h.0) (fine_sees g e h.1)) (keep (keeps_flats g e) record { item = i; rule = 5 } (broken i (rule 6 (keeps_nexts g e) ∷ [])) (fine_flats g e h.1) (keep (keeps_nexts g e) record { item = i; rule = 6 } (broken i []) (fine_nexts g e h.1) refl))) in
    neither (broken i (rule 1 (is_free (g.regs r) && sees_term g e) ∷ rule 5 (keeps_flats g e) ∷ rule 6 (keeps_nexts g e) ∷ [])) (broken_in (with_reg g r false (kind_of g e)) (i + 1) rest) kept_rules (unbroken_if (with_reg g r false (kind_of g e)) (i + 1) rest h.2)
unbroken_if g i (Load r b at rest) h =
    let kept_rules = (keep (is_free (g.regs r) && (sees_buf g b && sees_term g at)) record { item = i; rule = 1 } (broken i (rule 2 (fits (kind_of g at) (len_of g b)) ∷ rule 5 (keeps_flats g at) ∷ rule 6 (keeps_nexts g at) ∷ [])) (both_true (is_free (g.regs r)) (sees_buf g b && sees_term g at) (none_free (g.regs r) h.0) (both_true (sees_buf g b) (sees_term g at) h.1 (fine_sees g at h.2))) (keep (fits (kind_of g at) (len_of g b)) record { item = i; rule = 2 } (broken i (rule 5 (keeps_flats g at) ∷ rule 6 (keeps_nexts g at) ∷ [])) h.3 (keep (keeps_flats g at) record { item = i; rule = 5 } (broken i (rule 6 (keeps_nexts g at) ∷ [])) (fine_flats g at h.2) (keep (keeps_nexts g at) record { item = i; rule = 6 } (broken i []) (fine_nexts g at h.2) refl)))) in
    neither (broken i (rule 1 (is_free (g.regs r) && (sees_buf g b && sees_term g at)) ∷ rule 2 (fits (kind_of g at) (len_of g b)) ∷ rule 5 (keeps_flats g at) ∷ rule 6 (keeps_nexts g at) ∷ [])) (broken_in (with_reg g r false (cell_of g b)) (i + 1) rest) kept_rules (unbroken_if (with_reg g r false (cell_of g b)) (i + 1) rest h.4)
unbroken_if g i (Var r e rest) h =
    let kept_rules = (keep (is_free (g.regs r) && sees_term g e) record { item = i; rule = 1 } (broken i (rule 5 (keeps_flats g e) ∷ rule 6 (keeps_nexts g e) ∷ [])) (both_true (is_free (g.regs r)) (sees_term g e) (none_free (g.regs r) h.0) (fine_sees g e h.1)) (keep (keeps_flats g e) record { item = i; rule = 5 } (broken i (rule 6 (keeps_nexts g e) ∷ [])) (fine_flats g e h.1) (keep (keeps_nexts g e) record { item = i; rule = 6 } (broken i []) (fine_nexts g e h.1) refl))) in
    neither (broken i (rule 1 (is_free (g.regs r) && sees_term g e) ∷ rule 5 (keeps_flats g e) ∷ rule 6 (keeps_nexts g e) ∷ [])) (broken_in (with_reg g r true kind.Word) (i + 1) rest) kept_rules (unbroken_if (with_reg g r true kind.Word) (i + 1) rest h.2)
unbroken_if g i (Put r e rest) h =
    let kept_rules = (keep (is_put (g.regs r) && sees_term g e) record { item = i; rule = 1 } (broken i (rule 5 (keeps_flats g e) ∷ rule 6 (keeps_nexts g e) ∷ [])) (both_true (is_put (g.regs r)) (sees_term g e) h.0 (fine_sees g e h.1)) (keep (keeps_flats g e) record { item = i; rule = 5 } (broken i (rule 6 (keeps_nexts g e) ∷ [])) (fine_flats g e h.1) (keep (keeps_nexts g e) record { item = i; rule = 6 } (broken i []) (fine_nexts g e h.1) refl))) in
    neither (broken i (rule 1 (is_put (g.regs r) && sees_term g e) ∷ rule 5 (keeps_flats g e) ∷ rule 6 (keeps_nexts g e) ∷ [])) (broken_in g (i + 1) rest) kept_rules (unbroken_if g (i + 1) rest h.2)
unbroken_if g i (Set b at e rest) h =
    let kept_rules = (keep (sees_buf g b && (sees_term g at && sees_term g e)) record { item = i; rule = 1 } (broken i (rule 2 (fits (kind_of g at) (len_of g b)) ∷ rule 3 (fits_cell (kind_of g e) (cell_of g b)) ∷ rule 5 (keeps_flats g at && keeps_flats g e) ∷ rule 6 (keeps_nexts g at && keeps_nexts g e) ∷ rule 9 (is_new b) ∷ [])) (both_true (sees_buf g b) (sees_term g at && sees_term g e) h.1 (both_true (sees_term g at) (sees_term g e) (fine_sees g at h.2) (fine_sees g e h.3))) (keep (fits (kind_of g at) (len_of g b)) record { item = i; rule = 2 } (broken i (rule 3 (fits_cell (kind_of g e) (cell_of g b)) ∷ rule 5 (keeps_flats g at && keeps_flats g e) ∷ rule 6 (keeps_nexts g at && keeps_nexts g e) ∷ rule 9 (is_new b) ∷ [])) h.4 (keep (fits_cell (kind_of g e) (cell_of g b)) record { item = i; rule = 3 } (broken i (rule 5 (keeps_flats g at && keeps_flats g e) ∷ rule 6 (keeps_nexts g at && keeps_nexts g e) ∷ rule 9 (is_new b) ∷ [])) h.5 (keep (keeps_flats g at && keeps_flats g e) record { item = i; rule = 5 } (broken i (rule 6 (keeps_nexts g at && keeps_nexts g e) ∷ rule 9 (is_new b) ∷ [])) (both_true (keeps_flats g at) (keeps_flats g e) (fine_flats g at h.2) (fine_flats g e h.3)) (keep (keeps_nexts g at && keeps_nexts g e) record { item = i; rule = 6 } (broken i (rule 9 (is_new b) ∷ [])) (both_true (keeps_nexts g at) (keeps_nexts g e) (fine_nexts g at h.2) (fine_nexts g e h.3)) (keep (is_new b) record { item = i; rule = 9 } (broken i []) h.0 refl)))))) in
    neither (broken i (rule 1 (sees_buf g b && (sees_term g at && sees_term g e)) ∷ rule 2 (fits (kind_of g at) (len_of g b)) ∷ rule 3 (fits_cell (kind_of g e) (cell_of g b)) ∷ rule 5 (keeps_flats g at && keeps_flats g e) ∷ rule 6 (keeps_nexts g at && keeps_nexts g e) ∷ rule 9 (is_new b) ∷ [])) (broken_in g (i + 1) rest) kept_rules (unbroken_if g (i + 1) rest h.6)
unbroken_if g i (For r d body rest) h =
    let kept_rules = (keep (is_free (g.regs r) && sees_dim g d) record { item = i; rule = 1 } (broken i []) (both_true (is_free (g.regs r)) (sees_dim g d) (none_free (g.regs r) h.0) h.1) refl) in
    neither (broken i (rule 1 (is_free (g.regs r) && sees_dim g d) ∷ [])) (broken_in (with_reg g r false (kind.Below d)) (i + 1) body or broken_in g (i + 1 + count body) rest) kept_rules (neither (broken_in (with_reg g r false (kind.Below d)) (i + 1) body) (broken_in g (i + 1 + count body) rest) (unbroken_if (with_reg g r false (kind.Below d)) (i + 1) body h.2) (unbroken_if g (i + 1 + count body) rest h.3))
unbroken_if g i (Span r a b d body rest) h =
    let kept_rules = (keep (is_free (g.regs r) && (sees_dim g d && (sees_term g a && sees_term g b))) record { item = i; rule = 1 } (broken i (rule 4 (spans g (kind_of g a) (kind_of g b) d) ∷ rule 5 (keeps_flats g a && keeps_flats g b) ∷ rule 6 (keeps_nexts g a && keeps_nexts g b) ∷ [])) (both_true (is_free (g.regs r)) (sees_dim g d && (sees_term g a && sees_term g b)) (none_free (g.regs r) h.0) (both_true (sees_dim g d) (sees_term g a && sees_term g b) h.1 (both_true (sees_term g a) (sees_term g b) (fine_sees g a h.2) (fine_sees g b h.3)))) (keep (spans g (kind_of g a) (kind_of g b) d) record { item = i; rule = 4 } (broken i (rule 5 (keeps_flats g a && keeps_flats g b) ∷ rule 6 (keeps_nexts g a && keeps_nexts g b) ∷ [])) h.4 (keep (keeps_flats g a && keeps_flats g b) record { item = i; rule = 5 } (broken i (rule 6 (keeps_nexts g a && keeps_nexts g b) ∷ [])) (both_true (keeps_flats g a) (keeps_flats g b) (fine_flats g a h.2) (fine_flats g b h.3)) (keep (keeps_nexts g a && keeps_nexts g b) record { item = i; rule = 6 } (broken i []) (both_true (keeps_nexts g a) (keeps_nexts g b) (fine_nexts g a h.2) (fine_nexts g b h.3)) refl)))) in
    neither (broken i (rule 1 (is_free (g.regs r) && (sees_dim g d && (sees_term g a && sees_term g b))) ∷ rule 4 (spans g (kind_of g a) (kind_of g b) d) ∷ rule 5 (keeps_flats g a && keeps_flats g b) ∷ rule 6 (keeps_nexts g a && keeps_nexts g b) ∷ [])) (broken_in (with_reg g r false (kind.Below d)) (i + 1) body or broken_in g (i + 1 + count body) rest) kept_rules (neither (broken_in (with_reg g r false (kind.Below d)) (i + 1) body) (broken_in g (i + 1 + count body) rest) (unbroken_if (with_reg g r false (kind.Below d)) (i + 1) body h.5) (unbroken_if g (i + 1 + count body) rest h.6))
unbroken_if g i (If l eq r body given other rest) h =
    let kept_rules = (keep (sees_term g l && sees_term g r) record { item = i; rule = 1 } (broken i (rule 5 (keeps_flats g l && keeps_flats g r) ∷ rule 6 (keeps_nexts g l && keeps_nexts g r) ∷ [])) (both_true (sees_term g l) (sees_term g r) (fine_sees g l h.0) (fine_sees g r h.1)) (keep (keeps_flats g l && keeps_flats g r) record { item = i; rule = 5 } (broken i (rule 6 (keeps_nexts g l && keeps_nexts g r) ∷ [])) (both_true (keeps_flats g l) (keeps_flats g r) (fine_flats g l h.0) (fine_flats g r h.1)) (keep (keeps_nexts g l && keeps_nexts g r) record { item = i; rule = 6 } (broken i []) (both_true (keeps_nexts g l) (keeps_nexts g r) (fine_nexts g l h.0) (fine_nexts g r h.1)) refl))) in
    neither (broken i (rule 1 (sees_term g l && sees_term g r) ∷ rule 5 (keeps_flats g l && keeps_flats g r) ∷ rule 6 (keeps_nexts g l && keeps_nexts g r) ∷ [])) (broken_in g (i + 1) body or broken_in g (i + 1 + count body) other or broken_in g (i + 1 + count body + count other) rest) kept_rules (neither (broken_in g (i + 1) body) (broken_in g (i + 1 + count body) other or broken_in g (i + 1 + count body + count other) rest) (unbroken_if g (i + 1) body h.2) (neither (broken_in g (i + 1 + count body) other) (broken_in g (i + 1 + count body + count other) rest) (unbroken_if g (i + 1 + count body) other h.3) (unbroken_if g (i + 1 + count body + count other) rest h.4)))
unbroken_if g i (When e d r body given other rest) h =
    let kept_rules = (keep (is_free (g.regs r) && (sees_dim g d && sees_term g e)) record { item = i; rule = 1 } (broken i (rule 5 (keeps_flats g e) ∷ rule 6 (keeps_nexts g e) ∷ [])) (both_true (is_free (g.regs r)) (sees_dim g d && sees_term g e) (none_free (g.regs r) h.0) (both_true (sees_dim g d) (sees_term g e) h.1 (fine_sees g e h.2))) (keep (keeps_flats g e) record { item = i; rule = 5 } (broken i (rule 6 (keeps_nexts g e) ∷ [])) (fine_flats g e h.2) (keep (keeps_nexts g e) record { item = i; rule = 6 } (broken i []) (fine_nexts g e h.2) refl))) in
    neither (broken i (rule 1 (is_free (g.regs r) && (sees_dim g d && sees_term g e)) ∷ rule 5 (keeps_flats g e) ∷ rule 6 (keeps_nexts g e) ∷ [])) (broken_in (with_reg g r false (kind.Below d)) (i + 1) body or broken_in g (i + 1 + count body) other or broken_in g (i + 1 + count body + count other) rest) kept_rules (neither (broken_in (with_reg g r false (kind.Below d)) (i + 1) body) (broken_in g (i + 1 + count body) other or broken_in g (i + 1 + count body + count other) rest) (unbroken_if (with_reg g r false (kind.Below d)) (i + 1) body h.3) (neither (broken_in g (i + 1 + count body) other) (broken_in g (i + 1 + count body + count other) rest) (unbroken_if g (i + 1 + count body) other h.4) (unbroken_if g (i + 1 + count body + count other) rest h.5)))
unbroken_if g i (Order b keys rest) h =
    let kept_rules = (keep (sees_buf g b && sees_bufs g keys) record { item = i; rule = 1 } (broken i (rule 7 (is_below (cell_of g b) (len_of g b) && are_keys g b keys) ∷ rule 9 (is_new b) ∷ [])) (both_true (sees_buf g b) (sees_bufs g keys) h.1 h.2) (keep (is_below (cell_of g b) (len_of g b) && are_keys g b keys) record { item = i; rule = 7 } (broken i (rule 9 (is_new b) ∷ [])) (both_true (is_below (cell_of g b) (len_of g b)) (are_keys g b keys) h.3 h.4) (keep (is_new b) record { item = i; rule = 9 } (broken i []) h.0 refl))) in
    neither (broken i (rule 1 (sees_buf g b && sees_bufs g keys) ∷ rule 7 (is_below (cell_of g b) (len_of g b) && are_keys g b keys) ∷ rule 9 (is_new b) ∷ [])) (broken_in g (i + 1) rest) kept_rules (unbroken_if g (i + 1) rest h.5)

-- `new` lines
makes_if : (g : Context) (i : ℕ) (ms : List Make) → broken_makes g i ms ≡ None → TypedMakes g ms
makes_if g i [] h = tt
makes_if g i (m ∷ ms) h =
    let k0 = or_left (broken i (rule 1 (is_free (g.bufs m.buf) && (sees_dim g m.len && sees_cell g m.cell)) ∷ rule 8 (cell_has_room g m.cell m.len) ∷ [])) (broken_makes (with_buf g m) (i + 1) ms) h in
    let t0 = or_right (broken i (rule 1 (is_free (g.bufs m.buf) && (sees_dim g m.len && sees_cell g m.cell)) ∷ rule 8 (cell_has_room g m.cell m.len) ∷ [])) (broken_makes (with_buf g m) (i + 1) ms) h in
    let r0 = kept (is_free (g.bufs m.buf) && (sees_dim g m.len && sees_cell g m.cell)) record { item = i; rule = 1 } (broken i (rule 8 (cell_has_room g m.cell m.len) ∷ [])) k0 in
    let k1 = others (is_free (g.bufs m.buf) && (sees_dim g m.len && sees_cell g m.cell)) record { item = i; rule = 1 } (broken i (rule 8 (cell_has_room g m.cell m.len) ∷ [])) k0 in
    let r1 = kept (cell_has_room g m.cell m.len) record { item = i; rule = 8 } (broken i []) k1 in
    (free_none (g.bufs m.buf) (and_left (is_free (g.bufs m.buf)) (sees_dim g m.len && sees_cell g m.cell) r0), (and_left (sees_dim g m.len) (sees_cell g m.cell) (and_right (is_free (g.bufs m.buf)) (sees_dim g m.len && sees_cell g m.cell) r0)), (and_right (sees_dim g m.len) (sees_cell g m.cell) (and_right (is_free (g.bufs m.buf)) (sees_dim g m.len && sees_cell g m.cell) r0)), r1, makes_if (with_buf g m) (i + 1) ms t0)

makes_unbroken : (g : Context) (i : ℕ) (ms : List Make) → TypedMakes g ms → broken_makes g i ms ≡ None
makes_unbroken g i [] h = refl
makes_unbroken g i (m ∷ ms) h =
    let kept_rules = (keep (is_free (g.bufs m.buf) && (sees_dim g m.len && sees_cell g m.cell)) record { item = i; rule = 1 } (broken i (rule 8 (cell_has_room g m.cell m.len) ∷ [])) (both_true (is_free (g.bufs m.buf)) (sees_dim g m.len && sees_cell g m.cell) (none_free (g.bufs m.buf) h.0) (both_true (sees_dim g m.len) (sees_cell g m.cell) h.1 h.2)) (keep (cell_has_room g m.cell m.len) record { item = i; rule = 8 } (broken i []) h.3 refl)) in
    neither (broken i (rule 1 (is_free (g.bufs m.buf) && (sees_dim g m.len && sees_cell g m.cell)) ∷ rule 8 (cell_has_room g m.cell m.len) ∷ [])) (broken_makes (with_buf g m) (i + 1) ms) kept_rules (makes_unbroken (with_buf g m) (i + 1) ms h.4)

-- dim lines
line_if : (g : Context) (i : ℕ) (l : LineTree) → broken i (line_rules g l) ≡ None → TypedLine g l
line_if g i (plain.Of d e) k0 =
    let r0 = kept (is_free (g.dims d) && sees_term g e) record { item = i; rule = 1 } (broken i (rule 5 (keeps_flats g e) ∷ rule 6 (keeps_nexts g e) ∷ [])) k0 in
    let k1 = others (is_free (g.dims d) && sees_term g e) record { item = i; rule = 1 } (broken i (rule 5 (keeps_flats g e) ∷ rule 6 (keeps_nexts g e) ∷ [])) k0 in
    let r1 = kept (keeps_flats g e) record { item = i; rule = 5 } (broken i (rule 6 (keeps_nexts g e) ∷ [])) k1 in
    let k2 = others (keeps_flats g e) record { item = i; rule = 5 } (broken i (rule 6 (keeps_nexts g e) ∷ [])) k1 in
    let r2 = kept (keeps_nexts g e) record { item = i; rule = 6 } (broken i []) k2 in
    (free_none (g.dims d) (and_left (is_free (g.dims d)) (sees_term g e) r0), fine_if g e (and_right (is_free (g.dims d)) (sees_term g e) r0) r1 r2)
line_if g i (plain.Product d l r) k0 =
    let r0 = kept (is_free (g.dims d) && (sees_dim g l && sees_dim g r)) record { item = i; rule = 1 } (broken i []) k0 in
    (free_none (g.dims d) (and_left (is_free (g.dims d)) (sees_dim g l && sees_dim g r) r0), (and_left (sees_dim g l) (sees_dim g r) (and_right (is_free (g.dims d)) (sees_dim g l && sees_dim g r) r0)), (and_right (sees_dim g l) (sees_dim g r) (and_right (is_free (g.dims d)) (sees_dim g l && sees_dim g r) r0)))
line_if g i (plain.Successor d of) k0 =
    let r0 = kept (is_free (g.dims d) && sees_dim g of) record { item = i; rule = 1 } (broken i []) k0 in
    (free_none (g.dims d) (and_left (is_free (g.dims d)) (sees_dim g of) r0), (and_right (is_free (g.dims d)) (sees_dim g of) r0))

line_unbroken : (g : Context) (i : ℕ) (l : LineTree) → TypedLine g l → broken i (line_rules g l) ≡ None
line_unbroken g i (plain.Of d e) h = (keep (is_free (g.dims d) && sees_term g e) record { item = i; rule = 1 } (broken i (rule 5 (keeps_flats g e) ∷ rule 6 (keeps_nexts g e) ∷ [])) (both_true (is_free (g.dims d)) (sees_term g e) (none_free (g.dims d) h.0) (fine_sees g e h.1)) (keep (keeps_flats g e) record { item = i; rule = 5 } (broken i (rule 6 (keeps_nexts g e) ∷ [])) (fine_flats g e h.1) (keep (keeps_nexts g e) record { item = i; rule = 6 } (broken i []) (fine_nexts g e h.1) refl)))
line_unbroken g i (plain.Product d l r) h = (keep (is_free (g.dims d) && (sees_dim g l && sees_dim g r)) record { item = i; rule = 1 } (broken i []) (both_true (is_free (g.dims d)) (sees_dim g l && sees_dim g r) (none_free (g.dims d) h.0) (both_true (sees_dim g l) (sees_dim g r) h.1 h.2)) refl)
line_unbroken g i (plain.Successor d of) h = (keep (is_free (g.dims d) && sees_dim g of) record { item = i; rule = 1 } (broken i []) (both_true (is_free (g.dims d)) (sees_dim g of) (none_free (g.dims d) h.0) h.1) refl)

lines_if : (g : Context) (i : ℕ) (ls : List LineTree) → broken_lines g i ls ≡ None → TypedLines g ls
lines_if g i [] h = tt
lines_if g i (l ∷ ls) h = (line_if g i l (or_left (broken i (line_rules g l)) (broken_lines (with_line g l) (i + 1) ls) h), lines_if (with_line g l) (i + 1) ls (or_right (broken i (line_rules g l)) (broken_lines (with_line g l) (i + 1) ls) h))

lines_unbroken : (g : Context) (i : ℕ) (ls : List LineTree) → TypedLines g ls → broken_lines g i ls ≡ None
lines_unbroken g i [] h = refl
lines_unbroken g i (l ∷ ls) h = neither (broken i (line_rules g l)) (broken_lines (with_line g l) (i + 1) ls) (line_unbroken g i l h.0) (lines_unbroken (with_line g l) (i + 1) ls h.1)

-- phases
in_none : (n : ℕ) (o : Option Break) → in_phase n o ≡ None → o ≡ None
in_none n None h = refl
in_none n (Some b) h = absurd cc

none_in : (n : ℕ) (o : Option Break) → o ≡ None → in_phase n o ≡ None
none_in n None h = refl
none_in n (Some b) h = absurd cc

abbrev GivesTyped : Context → List ℕ → Type 0
GivesTyped g give = (sees_all g give ≡ true) × (are_distinct give ≡ true)

phases_if : (g : Context) (n : ℕ) (ps : List PhaseTree) (give : List ℕ) → unbound_from g n ps give ≡ None → TypedPhases g ps × GivesTyped (after_phases g ps) give
phases_if g n [] give h =
    let k0 = in_none n (broken 0 (rule 1 (sees_all g give) ∷ rule 10 (are_distinct give) ∷ [])) h in
    let k1 = others (sees_all g give) record { item = 0; rule = 1 } (broken 0 (rule 10 (are_distinct give) ∷ [])) k0 in
    (tt, (kept (sees_all g give) record { item = 0; rule = 1 } (broken 0 (rule 10 (are_distinct give) ∷ [])) k0, kept (are_distinct give) record { item = 0; rule = 10 } None k1))
phases_if g n (p ∷ ps) give h =
    let here = in_none n (broken_phase g p) (or_left (in_phase n (broken_phase g p)) (unbound_from (after_phase g p) (n + 1) ps give) h) in
    let more = phases_if (after_phase g p) (n + 1) ps give (or_right (in_phase n (broken_phase g p)) (unbound_from (after_phase g p) (n + 1) ps give) h) in
    let body = broken_in (in_body g p) (length p.makes) p.body in
    let lines = broken_lines (in_lines g p) (length p.makes + count p.body) p.lines in
    let later = or_right (broken_makes g 0 p.makes) (body or lines) here in
    ((makes_if g 0 p.makes (or_left (broken_makes g 0 p.makes) (body or lines) here), typed_if (in_body g p) (length p.makes) p.body (or_left body lines later), lines_if (in_lines g p) (length p.makes + count p.body) p.lines (or_right body lines later), more.0), more.1)

phases_unbroken : (g : Context) (n : ℕ) (ps : List PhaseTree) (give : List ℕ) → TypedPhases g ps → GivesTyped (after_phases g ps) give → unbound_from g n ps give ≡ None
phases_unbroken g n [] give h k = none_in n (broken 0 (rule 1 (sees_all g give) ∷ rule 10 (are_distinct give) ∷ [])) (keep (sees_all g give) record { item = 0; rule = 1 } (broken 0 (rule 10 (are_distinct give) ∷ [])) k.0 (keep (are_distinct give) record { item = 0; rule = 10 } None k.1 refl))
phases_unbroken g n (p ∷ ps) give h k =
    let body = broken_in (in_body g p) (length p.makes) p.body in
    let lines = broken_lines (in_lines g p) (length p.makes + count p.body) p.lines in
    let here = neither (broken_makes g 0 p.makes) (body or lines) (makes_unbroken g 0 p.makes h.0) (neither body lines (unbroken_if (in_body g p) (length p.makes) p.body h.1) (lines_unbroken (in_lines g p) (length p.makes + count p.body) p.lines h.2)) in
    neither (in_phase n (broken_phase g p)) (unbound_from (after_phase g p) (n + 1) ps give) (none_in n (broken_phase g p) here) (phases_unbroken (after_phase g p) (n + 1) ps give h.3 k)

pub unbound_means_untyped : UnboundMeansUntyped
unbound_means_untyped = record {
  typed = λ p h. let x = phases_if (before p.sources) 0 p.phases p.give h in (x.0, x.1.0, x.1.1);
  unbroken = λ p h. phases_unbroken (before p.sources) 0 p.phases p.give h.0 (h.1, h.2);
}
