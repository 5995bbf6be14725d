-- Typed code is never stuck.
use Rattle.std.proofs.Common.{◌≡◌, ℕ, ◌+◌, ◌-◌, ◌*◌, ◌<◌, ◌≤◌, Bool, true, false, cond, eqb, ◌&&◌, nat_lt, nat_le, nat_eq, refl, sym, ap, ◌∙◌, subst, arith, List, [], ◌∷◌, map, not, length, pos, ℤ, negsuc, ◌+ℤ◌, ◌*ℤ◌, Option, Some, None}
use Rattle.std.specs.Prelude.{slice_index_or, slice_set}
use Rattle.std.proofs.lemmas.Bool.Decides.{nat_tests}
use Rattle.std.proofs.lemmas.Nat.{mul-add-lt}
use Rattle.std.proofs.lemmas.List.{get_or-set_same, get_or-set_other, length-set}
use Rattle.us_code.specs.declared.program.Dim.{Dim}
use Rattle.us_code.specs.declared.program.Dim.TheVariants as dim
use Rattle.us_code.specs.declared.program.Buf.{Buf}
use Rattle.us_code.specs.declared.program.Buf.TheVariants as buf
use Rattle.us_code.specs.declared.program.CellKind.{CellKind}
use Rattle.us_code.specs.declared.program.CellKind.TheVariants as kind
use Rattle.us_code.specs.Plain.{TermTree, Number, Reg, Size, Flat, Next, Up, Add, Sub, Mul, Div, Rem, Code, End, Let, Load, Var, Put, Set, For, Span, If, When, Order}
use Rattle.us_code.specs.Run.{Env, State, put, exec, size_of, cells, value, place, gap, tick, set_reg, set_buf, loaded, stored, entered, test, all_long, sorted_if}
use Rattle.us_code.specs.Sort.{ordered}
use Rattle.us_code.specs.Typing.{Form, Of, Product, Successor, RegKind, BufKind, Context, is_some, with_reg, same_dim, fits, fits_cell, reg_kind, is_put, kind_of, buf_len, buf_cell, sees_buf, len_of, cell_of, is_flat, is_next, ends_form, spans, is_below, same_buf, sees_bufs, are_keys, fine, outer, Typed}
use Rattle.us_code_laws.specs.Fits.{InKind, RegOk, BufOk, FormOk, Fits, Sound}
use Rattle.us_code_laws.proofs.Sequence.{turns_keep}
use Rattle.us_code_laws.proofs.Sorts.{length_ordered, ordered_lt, ordered_cell}

-- one more register
case_reg : (env : Env) (g : Context) (s : State) (r : ℕ) (v : Bool) (k : CellKind) (z : ℤ) (x : ℕ) → ((v ≡ true → k ≡ kind.Word) × InKind env k z) → RegOk env (g.regs x) (s.regs x) → (b : Bool) → eqb r x ≡ b → RegOk env (cond b (Some record { is_var = v; kind = k }) (g.regs x)) (cond b z (s.regs x))
case_reg env g s r v k z x new old true e = new
case_reg env g s r v k z x new old false e = old

pub fits_reg : (g : Context) (env : Env) (s : State) (r : ℕ) (v : Bool) (k : CellKind) (z : ℤ) → ((v ≡ true → k ≡ kind.Word) × InKind env k z) → Fits g env s → Fits (with_reg g r v k) env (set_reg r z s)
unfolding put
fits_reg g env s r v k z new f = record {
  regs = λ x. case_reg env g s r v k z x new (f.regs x) (eqb r x) refl;
  bufs = f.bufs;
  dims = f.dims;
}

-- one fewer
drop_reg : (env : Env) (g : Context) (r : ℕ) (o : RegKind) (z : ℤ) (x : ℕ) → g.regs r ≡ None → (b : Bool) → (IsEq : b ≡ true → r ≡ x) → RegOk env (cond b (Some o) (g.regs x)) z → RegOk env (g.regs x) z
drop_reg env g r o z x none true e h = subst (λ (y : ℕ). RegOk env (g.regs y) z) (e refl) (subst (λ (q : Option RegKind). RegOk env q z) (sym none) tt)
drop_reg env g r o z x none false e h = h

eqb_means : (a b : ℕ) → eqb a b ≡ true → a ≡ b
eqb_means a b h = grind (arith, nat_tests)

pub fits_less : (g : Context) (env : Env) (s : State) (r : ℕ) (v : Bool) (k : CellKind) → g.regs r ≡ None → Fits (with_reg g r v k) env s → Fits g env s
unfolding put
fits_less g env s r v k none f = record {
  regs = λ x. drop_reg env g r record { is_var = v; kind = k } (s.regs x) x none (eqb r x) (eqb_means r x) (f.regs x);
  bufs = f.bufs;
  dims = f.dims;
}

pub and_left : (a b : Bool) → a && b ≡ true → a ≡ true
and_left true b h = refl
and_left false b h = h

pub and_right : (a b : Bool) → a && b ≡ true → b ≡ true
and_right true b h = h
and_right false b h = absurd cc

pub both_true : (a b : Bool) → a ≡ true → b ≡ true → a && b ≡ true
both_true true b h k = k
both_true false b h k = absurd cc

eq_so : (a b : ℕ) → a ≡ b → nat_eq a b ≡ true
eq_so a b h = grind (arith, nat_tests)

le_means : (a b : ℕ) → nat_le a b ≡ true → a ≤ b
le_means a b h = grind (arith, nat_tests)

-- what fits below a dim is below it
pub fits_below : (env : Env) (k : CellKind) (d : Dim) (v : ℤ) → fits k d ≡ true → InKind env k v → (n : ℕ) × (v ≡ pos n) × (n < size_of env d)
fits_below env kind.Word d v h i = absurd cc
fits_below env (kind.Below (dim.Number m)) (dim.Number n) v h i = (i.0, i.1, omega (arith, i.2, le_means m n h))
fits_below env (kind.Below (dim.Number m)) (dim.Name n) v h i = absurd cc
fits_below env (kind.Below (dim.Number m)) (dim.Len n) v h i = absurd cc
fits_below env (kind.Below (dim.Name m)) (dim.Number n) v h i = absurd cc
fits_below env (kind.Below (dim.Name m)) (dim.Name n) v h i = (i.0, i.1, subst (λ (x : ℕ). i.0 < env.dims x) (eqb_means m n h) i.2)
fits_below env (kind.Below (dim.Name m)) (dim.Len n) v h i = absurd cc
fits_below env (kind.Below (dim.Len m)) (dim.Number n) v h i = absurd cc
fits_below env (kind.Below (dim.Len m)) (dim.Name n) v h i = absurd cc
fits_below env (kind.Below (dim.Len m)) (dim.Len n) v h i = (i.0, i.1, subst (λ (x : ℕ). i.0 < length (env.sources x)) (eqb_means m n h) i.2)

pub fits_in_cell : (env : Env) (k c : CellKind) (v : ℤ) → fits_cell k c ≡ true → InKind env k v → InKind env c v
fits_in_cell env k kind.Word v h i = tt
fits_in_cell env k (kind.Below d) v h i = fits_below env k d v h i

number_ok : (env : Env) (n : ℕ) (b : Bool) → InKind env (cond b (kind.Below (dim.Number (n + 1))) kind.Word) (pos n)
number_ok env n true = (n, refl, omega arith)
number_ok env n false = tt

pub reg_ok : (env : Env) (o : Option RegKind) (v : ℤ) → RegOk env o v → InKind env (reg_kind o) v
reg_ok env None v h = tt
reg_ok env (Some k) v h = h.1

pub flat_ok : (env : Env) (o : Option Form) (d : ℕ) (kp kc : CellKind) (p c : ℤ) → FormOk env o d → is_flat o kp kc ≡ true → InKind env kp p → InKind env kc c → (n : ℕ) × (p *ℤ pos (env.factors d) +ℤ c ≡ pos n) × (n < env.dims d)
flat_ok env None d kp kc p c f h ip ic = absurd cc
flat_ok env (Some Of) d kp kc p c f h ip ic = absurd cc
flat_ok env (Some (Successor e)) d kp kc p c f h ip ic = absurd cc
flat_ok env (Some (Product e g)) d kp kc p c f h ip ic =
    let a = fits_below env kp e p (and_left (fits kp e) (fits kc g) h) ip in
    let b = fits_below env kc g c (and_right (fits kp e) (fits kc g) h) ic in
    let same : p *ℤ pos (env.factors d) +ℤ c ≡ pos (a.0 * env.factors d + b.0) = ap (λ (z : ℤ). z *ℤ pos (env.factors d) +ℤ c) a.1 ∙ ap (λ (z : ℤ). pos (a.0 * env.factors d) +ℤ z) b.1 in
    let m : a.0 * size_of env g + b.0 < size_of env g * size_of env e = mul-add-lt a.0 (size_of env g) b.0 (size_of env e) a.2 b.2 in
    (a.0 * env.factors d + b.0, same, rw (f.0, f.1) (omega (arith, m)))

pub next_ok : (env : Env) (o : Option Form) (d : ℕ) (k : CellKind) (x : ℤ) → FormOk env o d → is_next o k ≡ true → InKind env k x → (n : ℕ) × (x ≡ pos n) × (n + 1 < env.dims d)
next_ok env None d k x f h i = absurd cc
next_ok env (Some Of) d k x f h i = absurd cc
next_ok env (Some (Product e g)) d k x f h i = absurd cc
next_ok env (Some (Successor e)) d k x f h i =
    let a = fits_below env k e x h i in
    (a.0, a.1, omega (arith, a.2, f))

pub value_ok : (g : Context) (env : Env) (s : State) (e : TermTree) → Fits g env s → fine g e ≡ true → InKind env (kind_of g e) (value env s.regs e)
value_ok g env s (Number n) f h = number_ok env n _
value_ok g env s (Reg r) f h = reg_ok env (g.regs r) (s.regs r) (f.regs r)
value_ok g env s (Size d) f h = tt
value_ok g env s (Flat d p c) f h =
    let h1 = and_left (fine g p && fine g c) (is_flat (g.dims d) (kind_of g p) (kind_of g c)) h in
    let h2 = and_right (fine g p && fine g c) (is_flat (g.dims d) (kind_of g p) (kind_of g c)) h in
    flat_ok env (g.dims d) d (kind_of g p) (kind_of g c) (value env s.regs p) (value env s.regs c) (f.dims d) h2
    (value_ok g env s p f (and_left (fine g p) (fine g c) h1)) (value_ok g env s c f (and_right (fine g p) (fine g c) h1))
value_ok g env s (Next d x) f h =
    let a = next_ok env (g.dims d) d (kind_of g x) (value env s.regs x) (f.dims d) (and_right (fine g x) _ h) (value_ok g env s x f (and_left (fine g x) _ h)) in
    (a.0 + 1, ap (λ z. z +ℤ pos 1) a.1, a.2)
value_ok g env s (Up d x) f h =
    let a = next_ok env (g.dims d) d (kind_of g x) (value env s.regs x) (f.dims d) (and_right (fine g x) _ h) (value_ok g env s x f (and_left (fine g x) _ h)) in
    (a.0, a.1, omega (arith, a.2))
value_ok g env s (Add a b) f h = tt
value_ok g env s (Sub a b) f h = tt
value_ok g env s (Mul a b) f h = tt
value_ok g env s (Div a k) f h = tt
value_ok g env s (Rem a k) f h = tt

pub lt_means : (a b : ℕ) → nat_lt a b ≡ true → a < b
lt_means a b h = grind (arith, nat_tests)

lt_so : (a b : ℕ) → a < b → nat_lt a b ≡ true
lt_so a b h = grind (arith, nat_tests)

-- a number below n is a place
pub place_ok : (v : ℤ) (n k : ℕ) → v ≡ pos k → k < n → place v n ≡ Some k
place_ok v n k e h = ap (λ (z : ℤ). place z n) e ∙ ap (λ b. cond b (Some k) None) (lt_so k n h)

-- the text's buffers are those of the run
pub source_or : (g : Context) (env : Env) (s : State) (b : Buf) → Fits g env s → sees_buf g b ≡ true → length (cells env s b) ≡ size_of env (len_of g b)
source_or g env s (buf.Source k) f h = refl
source_or g env s (buf.New b) f h = new_length (g.bufs b) (f.bufs b) h
  where
    new_length : (o : Option BufKind) → BufOk env o (s.bufs b) → is_some o ≡ true → length (s.bufs b) ≡ size_of env (buf_len o)
    new_length None ok h = absurd cc
    new_length (Some k) ok h = ok.0

pub cell_ok : (g : Context) (env : Env) (s : State) (b : Buf) (k : ℕ) → Fits g env s → sees_buf g b ≡ true → k < length (cells env s b) → InKind env (cell_of g b) (slice_index_or (cells env s b) k (pos 0))
cell_ok g env s (buf.Source x) k f h lt = tt
cell_ok g env s (buf.New b) k f h lt = new_cell (g.bufs b) (f.bufs b) h
  where
    new_cell : (o : Option BufKind) → BufOk env o (s.bufs b) → is_some o ≡ true → InKind env (buf_cell o) (slice_index_or (s.bufs b) k (pos 0))
    new_cell None ok h = absurd cc
    new_cell (Some o) ok h = ok.1 k lt

-- an index that fits is a place
pub at_ok : (g : Context) (env : Env) (s : State) (b : Buf) (at : TermTree) → Fits g env s → sees_buf g b ≡ true → fine g at ≡ true → fits (kind_of g at) (len_of g b) ≡ true → (k : ℕ) × (k < length (cells env s b)) × (place (value env s.regs at) (length (cells env s b)) ≡ Some k)
at_ok g env s b at f sees fine fit =
    let a = fits_below env (kind_of g at) (len_of g b) (value env s.regs at) fit (value_ok g env s at f fine) in
    let lt : a.0 < length (cells env s b) = omega (arith, a.2, source_or g env s b f sees) in
    (a.0, lt, place_ok (value env s.regs at) (length (cells env s b)) a.0 a.1 lt)

-- a store keeps the kinds
cells_after : (env : Env) (c : CellKind) (xs : List ℤ) (k : ℕ) (v : ℤ) → k < length xs → ((x : ℕ) → x < length xs → InKind env c (slice_index_or xs x (pos 0))) → InKind env c v → (x : ℕ) → x < length (slice_set xs k v) → InKind env c (slice_index_or (slice_set xs k v) x (pos 0))
cells_after env c xs k v lt old new x h = grind (arith, get_or-set_same, get_or-set_other, length-set)

buf_after : (env : Env) (o : Option BufKind) (xs : List ℤ) (k : ℕ) (v : ℤ) → k < length xs → BufOk env o xs → InKind env (buf_cell o) v → BufOk env o (slice_set xs k v)
buf_after env None xs k v lt ok new = tt
buf_after env (Some o) xs k v lt ok new = (length-set xs k v ∙ ok.0, cells_after env o.cell xs k v lt ok.1 new)

case_buf : (env : Env) (g : Context) (s : State) (b : ℕ) (ys : List ℤ) (x : ℕ) → BufOk env (g.bufs b) ys → BufOk env (g.bufs x) (s.bufs x) → (q : Bool) → (q ≡ true → b ≡ x) → BufOk env (g.bufs x) (cond q ys (s.bufs x))
case_buf env g s b ys x new old true e = subst (λ (z : ℕ). BufOk env (g.bufs z) ys) (e refl) new
case_buf env g s b ys x new old false e = old

pub fits_buf : (g : Context) (env : Env) (s : State) (b : ℕ) (ys : List ℤ) → BufOk env (g.bufs b) ys → Fits g env s → Fits g env (set_buf b ys s)
unfolding put
fits_buf g env s b ys new f = record {
  regs = f.regs;
  bufs = λ x. case_buf env g s b ys x new (f.bufs x) (eqb b x) (eqb_means b x);
  dims = f.dims;
}

pub fits_tick : (g : Context) (env : Env) (s : State) (n : ℕ) → Fits g env s → Fits g env (tick n s)
fits_tick g env s n f = record { regs = f.regs; bufs = f.bufs; dims = f.dims }

pub same_size : (env : Env) (d e : Dim) → same_dim d e ≡ true → size_of env d ≡ size_of env e
same_size env (dim.Number a) (dim.Number b) h = eqb_means a b h
same_size env (dim.Name a) (dim.Name b) h = ap env.dims (eqb_means a b h)
same_size env (dim.Len a) (dim.Len b) h = ap (λ (k : ℕ). length (env.sources k)) (eqb_means a b h)
same_size env (dim.Number a) (dim.Name b) h = absurd cc
same_size env (dim.Number a) (dim.Len b) h = absurd cc
same_size env (dim.Name a) (dim.Number b) h = absurd cc
same_size env (dim.Name a) (dim.Len b) h = absurd cc
same_size env (dim.Len a) (dim.Number b) h = absurd cc
same_size env (dim.Len a) (dim.Name b) h = absurd cc

ends_form_ok : (env : Env) (o : Option Form) (x : ℕ) (d : Dim) (k : ℕ) → FormOk env o x → ends_form o d ≡ true → k < env.dims x → k ≤ size_of env d
ends_form_ok env None x d k f h lt = absurd cc
ends_form_ok env (Some Of) x d k f h lt = absurd cc
ends_form_ok env (Some (Product e e')) x d k f h lt = absurd cc
ends_form_ok env (Some (Successor e)) x d k f h lt = omega (arith, f, same_size env e d h)

-- both ends of a span
pub record EndsOk (env : Env) (d : Dim) (v w : ℤ) : Type 0 where
  pub first : ℕ
  pub end : ℕ
  pub first_is : v ≡ pos first
  pub end_is : w ≡ pos end
  pub within : end ≤ size_of env d

pub spans_ok : (g : Context) (env : Env) (s : State) (j k : CellKind) (d : Dim) (v w : ℤ) → Fits g env s → spans g j k d ≡ true → InKind env j v → InKind env k w → EndsOk env d v w
spans_ok g env s kind.Word k d v w f h i j = absurd cc
spans_ok g env s (kind.Below (dim.Number a)) kind.Word d v w f h i j = absurd cc
spans_ok g env s (kind.Below (dim.Number a)) (kind.Below (dim.Number b)) (dim.Number n) v w f h i j =
    record { first = i.0; end = j.0; first_is = i.1; end_is = j.1; within = omega (arith, j.2, le_means b (n + 1) (and_right (nat_le a (n + 1)) (nat_le b (n + 1)) h)) }
spans_ok g env s (kind.Below (dim.Number a)) (kind.Below (dim.Number b)) (dim.Name n) v w f h i j = absurd cc
spans_ok g env s (kind.Below (dim.Number a)) (kind.Below (dim.Number b)) (dim.Len n) v w f h i j = absurd cc
spans_ok g env s (kind.Below (dim.Number a)) (kind.Below (dim.Name b)) d v w f h i j = absurd cc
spans_ok g env s (kind.Below (dim.Number a)) (kind.Below (dim.Len b)) d v w f h i j = absurd cc
spans_ok g env s (kind.Below (dim.Name a)) kind.Word d v w f h i j = absurd cc
spans_ok g env s (kind.Below (dim.Name a)) (kind.Below (dim.Number b)) d v w f h i j = absurd cc
spans_ok g env s (kind.Below (dim.Name a)) (kind.Below (dim.Name b)) d v w f h i j =
    let same : a ≡ b = eqb_means a b (and_left (nat_eq a b) (ends_form (g.dims a) d) h) in
    let lt : j.0 < env.dims a = subst (λ (x : ℕ). j.0 < env.dims x) (sym same) j.2 in
    record { first = i.0; end = j.0; first_is = i.1; end_is = j.1; within = ends_form_ok env (g.dims a) a d j.0 (f.dims a) (and_right (nat_eq a b) (ends_form (g.dims a) d) h) lt }
spans_ok g env s (kind.Below (dim.Name a)) (kind.Below (dim.Len b)) d v w f h i j = absurd cc
spans_ok g env s (kind.Below (dim.Len a)) k d v w f h i j = absurd cc

-- the kept kind of a register that `put` may change
put_word : (env : Env) (o : Option RegKind) (v w : ℤ) → RegOk env o v → is_put o ≡ true → RegOk env o w
put_word env None v w ok h = absurd cc
put_word env (Some k) v w ok h = (ok.0, subst (λ (c : CellKind). InKind env c w) (sym (ok.0 h)) tt)

pub fits_put : (g : Context) (env : Env) (s : State) (r : ℕ) (w : ℤ) → is_put (g.regs r) ≡ true → Fits g env s → Fits g env (set_reg r w s)
unfolding put
fits_put g env s r w h f = record {
  regs = λ x. at x (eqb r x) (eqb_means r x);
  bufs = f.bufs;
  dims = f.dims;
}
  where
    at : (x : ℕ) (b : Bool) → (b ≡ true → r ≡ x) → RegOk env (g.regs x) (cond b w (s.regs x))
    at x true e = subst (λ (y : ℕ). RegOk env (g.regs y) w) (e refl) (put_word env (g.regs r) (s.regs r) w (f.regs r) h)
    at x false e = f.regs x

not_var : {P : Type 0} → false ≡ true → P
not_var h = absurd cc

place_kind : (env : Env) (v : ℤ) (n k : ℕ) → place v n ≡ Some k → k < n
place_kind env (pos x) n k h = below (nat_lt x n) (lt_means x n) h
  where
    below : (b : Bool) → (b ≡ true → x < n) → cond b (Some x) None ≡ Some k → k < n
    below true lt e = let same : x ≡ k = cc in subst (λ (y : ℕ). y < n) same (lt refl)
    below false lt e = absurd cc
place_kind env (negsuc x) n k h = absurd cc

-- the keys are as long as the ordered buffer
pub keys_long : (g : Context) (env : Env) (s : State) (b : Buf) (keys : List Buf) → Fits g env s → sees_buf g b ≡ true → sees_bufs g keys ≡ true → are_keys g b keys ≡ true → all_long (length (cells env s b)) (map (cells env s) keys) ≡ true
keys_long g env s b [] f sees see h = refl
keys_long g env s b (k ∷ ks) f sees see h =
    let first = and_left (same_dim (len_of g k) (len_of g b) && not (same_buf k b)) (are_keys g b ks) h in
    let dims = and_left (same_dim (len_of g k) (len_of g b)) (not (same_buf k b)) first in
    let e : length (cells env s k) ≡ length (cells env s b) = source_or g env s k f (and_left (sees_buf g k) (sees_bufs g ks) see) ∙ (same_size env (len_of g k) (len_of g b) dims ∙ sym (source_or g env s b f sees)) in
    both_true (nat_eq (length (cells env s k)) (length (cells env s b))) _ (eq_so _ _ e) (keys_long g env s b ks f sees (and_right (sees_buf g k) (sees_bufs g ks) see) (and_right (same_dim (len_of g k) (len_of g b) && not (same_buf k b)) (are_keys g b ks) h))

-- what a cell is that is below exactly its buffer's length
below_length : (env : Env) (c : CellKind) (d : Dim) (v : ℤ) (k : ℕ) → is_below c d ≡ true → v ≡ pos k → k < size_of env d → InKind env c v
below_length env kind.Word d v k h e lt = tt
below_length env (kind.Below c) d v k h e lt = (k, e, omega (arith, lt, same_size env c d h))

buf_sorted : (env : Env) (o : Option BufKind) (xs : List ℤ) (keys : List (List ℤ)) → is_below (buf_cell o) (buf_len o) ≡ true → BufOk env o xs → BufOk env o (map pos (ordered keys (length xs)))
buf_sorted env None xs keys h ok = tt
buf_sorted env (Some o) xs keys h ok =
    (length_ordered keys (length xs) ∙ ok.0, λ x lt. below_length env o.cell o.len _ _ h (ordered_cell keys (length xs) x) (omega (arith, ordered_lt keys (length xs) x (omega (arith, lt, length_ordered keys (length xs))), ok.0)))

-- without the registers of a block's end
pub outer_less : (env : Env) (g : Context) (c : Code) (s : State) → Typed g c → Fits (outer g c) env s → Fits g env s
outer_less env g End s h f = f
outer_less env g (Let r e rest) s h f = fits_less g env s r false (kind_of g e) h.0 (outer_less env (with_reg g r false (kind_of g e)) rest s h.2 f)
outer_less env g (Load r b at rest) s h f = fits_less g env s r false (cell_of g b) h.0 (outer_less env (with_reg g r false (cell_of g b)) rest s h.4 f)
outer_less env g (Var r e rest) s h f = fits_less g env s r true kind.Word h.0 (outer_less env (with_reg g r true kind.Word) rest s h.2 f)
outer_less env g (Put r e rest) s h f = outer_less env g rest s h.2 f
outer_less env g (Set b at e rest) s h f = outer_less env g rest s h.6 f
outer_less env g (For r d body rest) s h f = outer_less env g rest s h.3 f
outer_less env g (Span r a b d body rest) s h f = outer_less env g rest s h.6 f
outer_less env g (If l eq r body given other rest) s h f = outer_less env g rest s h.4 f
outer_less env g (When e d r body given other rest) s h f = outer_less env g rest s h.5 f
outer_less env g (Order b keys rest) s h f = outer_less env g rest s h.5 f

pub sound : (env : Env) (g : Context) (c : Code) (s : State) → Typed g c → Fits g env s → Sound (outer g c) env s (exec env c s)
sound env g End s h f = record { stuck = refl; fits = f }
sound env g (Let r e rest) s h f =
    let new = fits_reg g env (tick 1 s) r false (kind_of g e) (value env s.regs e) (not_var, value_ok g env s e f h.1) (fits_tick g env s 1 f) in
    let i = sound env (with_reg g r false (kind_of g e)) rest _ h.2 new in
    record { stuck = i.stuck; fits = i.fits }
sound env g (Var r e rest) s h f =
    let new = fits_reg g env (tick 1 s) r true kind.Word (value env s.regs e) (λ _. refl, tt) (fits_tick g env s 1 f) in
    let i = sound env (with_reg g r true kind.Word) rest _ h.2 new in
    record { stuck = i.stuck; fits = i.fits }
sound env g (Put r e rest) s h f =
    let i = sound env g rest _ h.2 (fits_put g env (tick 1 s) r (value env s.regs e) h.0 (fits_tick g env s 1 f)) in
    record { stuck = i.stuck; fits = i.fits }
sound env g (Load r b at rest) s h f =
    let a = at_ok g env s b at f h.1 h.2 h.3 in
    let v = slice_index_or (cells env s b) a.0 (pos 0) in
    let new = fits_reg g env (tick 1 s) r false (cell_of g b) v (not_var, cell_ok g env s b a.0 f h.1 a.1) (fits_tick g env s 1 f) in
    let i = sound env (with_reg g r false (cell_of g b)) rest _ h.4 new in
    let go : (o : Option ℕ) → Some a.0 ≡ o → Sound (outer (with_reg g r false (cell_of g b)) rest) env s (exec env rest (loaded r (cells env s b) o (tick 1 s))) = λ o e. subst (λ (q : Option ℕ). Sound (outer (with_reg g r false (cell_of g b)) rest) env s (exec env rest (loaded r (cells env s b) q (tick 1 s)))) e record { stuck = i.stuck; fits = i.fits } in
    go _ (sym a.2)
sound env g (Set (buf.Source b) at e rest) s h f = absurd (not_var h.0)
sound env g (Set (buf.New b) at e rest) s h f =
    let a = at_ok g env s (buf.New b) at f h.1 h.2 h.4 in
    let v = value env s.regs e in
    let new = fits_buf g env (tick 1 s) b (slice_set (s.bufs b) a.0 v) (buf_after env (g.bufs b) (s.bufs b) a.0 v a.1 (f.bufs b) (fits_in_cell env (kind_of g e) (buf_cell (g.bufs b)) v h.5 (value_ok g env s e f h.3))) (fits_tick g env s 1 f) in
    let i = sound env g rest _ h.6 new in
    subst (λ (q : Option ℕ). Sound (outer g rest) env s (exec env rest (stored (buf.New b) (s.bufs b) q v (tick 1 s)))) (sym a.2) record { stuck = i.stuck; fits = i.fits }
sound env g (For r d body rest) s h f =
    let l = turns_keep (λ t u. Sound g env s u) (λ t u. exec env body (set_reg r (pos t) (tick 1 u))) (size_of env d) (tick 1 s) record { stuck = refl; fits = fits_tick g env s 1 f } (λ t u lt k.
    let new = fits_reg g env (tick 1 u) r false (kind.Below d) (pos t) (not_var, (t, refl, lt)) (fits_tick g env u 1 k.fits) in
    let i = sound env (with_reg g r false (kind.Below d)) body _ h.2 new in
    record { stuck = i.stuck ∙ k.stuck; fits = fits_less g env _ r false (kind.Below d) h.0 (outer_less env (with_reg g r false (kind.Below d)) body _ h.2 i.fits) }) in
    let i = sound env g rest _ h.3 l.fits in
    record { stuck = i.stuck ∙ l.stuck; fits = i.fits }
sound env g (Span r a b d body rest) s h f =
    let p = spans_ok g env s (kind_of g a) (kind_of g b) d (value env s.regs a) (value env s.regs b) f h.4 (value_ok g env s a f h.2) (value_ok g env s b f h.3) in
    let count : gap (value env s.regs a) (value env s.regs b) ≡ p.end - p.first = ap (λ (z : ℤ). gap z (value env s.regs b)) p.first_is ∙ ap (λ (z : ℤ). gap (pos p.first) z) p.end_is in
    let l = turns_keep (λ t u. Sound g env s u) (λ t u. exec env body (set_reg r (value env s.regs a +ℤ pos t) (tick 1 u))) (gap (value env s.regs a) (value env s.regs b)) (tick 1 s) record { stuck = refl; fits = fits_tick g env s 1 f } (λ t u lt k.
    let here : value env s.regs a +ℤ pos t ≡ pos (p.first + t) = ap (λ (z : ℤ). z +ℤ pos t) p.first_is in
    let new = fits_reg g env (tick 1 u) r false (kind.Below d) (value env s.regs a +ℤ pos t) (not_var, (p.first + t, here, omega (arith, lt, count, p.within))) (fits_tick g env u 1 k.fits) in
    let i = sound env (with_reg g r false (kind.Below d)) body _ h.5 new in
    record { stuck = i.stuck ∙ k.stuck; fits = fits_less g env _ r false (kind.Below d) h.0 (outer_less env (with_reg g r false (kind.Below d)) body _ h.5 i.fits) }) in
    let i = sound env g rest _ h.6 l.fits in
    record { stuck = i.stuck ∙ l.stuck; fits = i.fits }
sound env g (If x eq y body given other rest) s h f =
    let t = fits_tick g env s 1 f in
    let a = sound env g body (tick 1 s) h.2 t in
    let b = sound env g other (tick 1 s) h.3 t in
    let m : (q : Bool) → Sound g env s (cond q (exec env body (tick 1 s)) (exec env other (tick 1 s))) = elim [ true ↦ record { stuck = a.stuck; fits = outer_less env g body _ h.2 a.fits } | false ↦ record { stuck = b.stuck; fits = outer_less env g other _ h.3 b.fits } ] in
    let j = m (test eq (value env s.regs x) (value env s.regs y)) in
    let i = sound env g rest _ h.4 j.fits in
    record { stuck = i.stuck ∙ j.stuck; fits = i.fits }
sound env g (When e d r body given other rest) s h f =
    let t = fits_tick g env s 1 f in
    let b = sound env g other (tick 1 s) h.4 t in
    let m : (q : Option ℕ) → ((k : ℕ) → q ≡ Some k → k < size_of env d) → Sound g env s (entered q (λ k. exec env body (set_reg r (pos k) (tick 1 s))) (exec env other (tick 1 s))) = elim [
      | None ↦ λ w. record { stuck = b.stuck; fits = outer_less env g other _ h.4 b.fits }
      | Some k ↦ λ w.
          let new = fits_reg g env (tick 1 s) r false (kind.Below d) (pos k) (not_var, (k, refl, w k refl)) t in
          let i = sound env (with_reg g r false (kind.Below d)) body _ h.3 new in
          record { stuck = i.stuck; fits = fits_less g env _ r false (kind.Below d) h.0 (outer_less env (with_reg g r false (kind.Below d)) body _ h.3 i.fits) }
    ] in
    let j = m (place (value env s.regs e) (size_of env d)) (λ k w. place_kind env (value env s.regs e) (size_of env d) k w) in
    let i = sound env g rest _ h.5 j.fits in
    record { stuck = i.stuck ∙ j.stuck; fits = i.fits }
sound env g (Order (buf.Source b) keys rest) s h f = absurd (not_var h.0)
sound env g (Order (buf.New b) keys rest) s h f =
    let n = length (s.bufs b) in
    let u = tick (n * length keys + 1) s in
    let xs = map pos (ordered (map (cells env s) keys) n) in
    let long = keys_long g env s (buf.New b) keys f h.1 h.2 h.4 in
    let new = fits_buf g env u b xs (buf_sorted env (g.bufs b) (s.bufs b) (map (cells env s) keys) h.3 (f.bufs b)) (fits_tick g env s (n * length keys + 1) f) in
    let i = sound env g rest _ h.5 new in
    subst (λ (q : Bool). Sound (outer g rest) env s (exec env rest (sorted_if q b xs u))) (sym long) record { stuck = i.stuck; fits = i.fits }
