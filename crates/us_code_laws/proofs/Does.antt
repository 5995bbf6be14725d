-- What a block does to a state, statement by statement.
use Rattle.std.proofs.Common.{◌≡◌, ℕ, suc, ◌+◌, ◌-◌, ◌*◌, ◌<◌, ◌≤◌, Bool, true, false, cond, nat_lt, refl, sym, ap, ◌∙◌, subst, arith, List, map, length, pos, negsuc, ℤ, ◌+ℤ◌, Option, Some, None}
use Rattle.std.specs.Prelude.{slice_index_or, slice_set}
use Rattle.std.proofs.lemmas.Bool.Decides.{nat_tests}
use Rattle.us_code.specs.declared.program.Dim.{Dim}
use Rattle.us_code.specs.declared.program.Buf.{Buf}
use Rattle.us_code.specs.declared.program.Buf.TheVariants as buf
use Rattle.us_code.specs.Plain.{TermTree, Code, End, Let, Load, Var, Put, Set, For, Span, If, When, Order, ◌+++◌}
use Rattle.us_code.specs.Run.{Env, State, exec, turns, size_of, cells, value, place, gap, tick, set_reg, set_buf, loaded, stored, entered, test, all_long, sorted_if}
use Rattle.us_code.specs.Sort.{ordered}
use Rattle.us_code_laws.proofs.Sequence.{turns_keep, exec_append}
use Rattle.us_code_laws.specs.Does.{Does}
use Rattle.us_code_laws.proofs.Sound.{place_ok}

pub do_end : (env : Env) (s : State) (Q : State → Type 0) → Q s → Does env End s Q
do_end env s Q q = record { post = q; calm = refl }

pub do_weaker : (env : Env) (c : Code) (s : State) (P Q : State → Type 0) → ((u : State) → P u → Q u) → Does env c s P → Does env c s Q
do_weaker env c s P Q w d = record { post = w _ d.post; calm = d.calm }

pub do_append : (env : Env) (a b : Code) (s : State) (Q : State → Type 0) → Does env a s (λ u. Does env b u Q) → Does env (a +++ b) s Q
do_append env a b s Q d = record { post = subst Q (sym (exec_append env a b s)) d.post.post; calm = ap (λ (u : State). u.stuck) (exec_append env a b s) ∙ (d.post.calm ∙ d.calm) }

pub do_let : (env : Env) (r : ℕ) (e : TermTree) (rest : Code) (s : State) (Q : State → Type 0) → Does env rest (set_reg r (value env s.regs e) (tick 1 s)) Q → Does env (Let r e rest) s Q
do_let env r e rest s Q d = record { post = d.post; calm = d.calm }

pub do_load : (env : Env) (r : ℕ) (b : Buf) (at : TermTree) (rest : Code) (s : State) (Q : State → Type 0) (k : ℕ) → value env s.regs at ≡ pos k → k < length (cells env s b) → Does env rest (set_reg r (slice_index_or (cells env s b) k (pos 0)) (tick 1 s)) Q → Does env (Load r b at rest) s Q
do_load env r b at rest s Q k e lt d = record { post = subst (λ (o : Option ℕ). Q (exec env rest (loaded r (cells env s b) o (tick 1 s)))) (sym (place_ok _ _ k e lt)) d.post; calm = subst (λ (o : Option ℕ). (exec env rest (loaded r (cells env s b) o (tick 1 s))).stuck ≡ s.stuck) (sym (place_ok _ _ k e lt)) d.calm }

pub do_set : (env : Env) (b : ℕ) (at e : TermTree) (rest : Code) (s : State) (Q : State → Type 0) (k : ℕ) → value env s.regs at ≡ pos k → k < length (s.bufs b) → Does env rest (set_buf b (slice_set (s.bufs b) k (value env s.regs e)) (tick 1 s)) Q → Does env (Set (buf.New b) at e rest) s Q
do_set env b at e rest s Q k p lt d = record { post = subst (λ (o : Option ℕ). Q (exec env rest (stored (buf.New b) (s.bufs b) o (value env s.regs e) (tick 1 s)))) (sym (place_ok _ _ k p lt)) d.post; calm = subst (λ (o : Option ℕ). (exec env rest (stored (buf.New b) (s.bufs b) o (value env s.regs e) (tick 1 s))).stuck ≡ s.stuck) (sym (place_ok _ _ k p lt)) d.calm }

pub do_for : (env : Env) (r : ℕ) (d : Dim) (body rest : Code) (s : State) (Q : State → Type 0) (I : ℕ → State → Type 0) → I 0 (tick 1 s) → ((t : ℕ) (u : State) → t < size_of env d → I t u → Does env body (set_reg r (pos t) (tick 1 u)) (I (suc t))) → ((u : State) → I (size_of env d) u → Does env rest u Q) → Does env (For r d body rest) s Q
do_for env r d body rest s Q I base step end =
    let l = turns_keep (λ t u. I t u × (u.stuck ≡ s.stuck)) (λ t u. exec env body (set_reg r (pos t) (tick 1 u))) (size_of env d) (tick 1 s) (base, refl) (λ t u lt i. let b = step t u lt i.0 in (b.post, b.calm ∙ i.1)) in
    let e = end _ l.0 in
    record { post = e.post; calm = e.calm ∙ l.1 }

pub do_span : (env : Env) (r : ℕ) (a b : TermTree) (d : Dim) (body rest : Code) (s : State) (Q : State → Type 0) (I : ℕ → State → Type 0) (x y : ℕ) → value env s.regs a ≡ pos x → value env s.regs b ≡ pos y → I 0 (tick 1 s) → ((t : ℕ) (u : State) → t < y - x → I t u → Does env body (set_reg r (pos (x + t)) (tick 1 u)) (I (suc t))) → ((u : State) → I (y - x) u → Does env rest u Q) → Does env (Span r a b d body rest) s Q
do_span env r a b d body rest s Q I x y ea eb base step end =
    let g : gap (value env s.regs a) (value env s.regs b) ≡ y - x = ap (λ (z : ℤ). gap z (value env s.regs b)) ea ∙ ap (λ (z : ℤ). gap (pos x) z) eb in
    let f : ℕ → State → State = λ t u. exec env body (set_reg r (value env s.regs a +ℤ pos t) (tick 1 u)) in
    let l = turns_keep (λ t u. I t u × (u.stuck ≡ s.stuck)) f (gap (value env s.regs a) (value env s.regs b)) (tick 1 s) (base, refl) (λ t u lt i. subst (λ (z : ℤ). I (suc t) (exec env body (set_reg r (z +ℤ pos t) (tick 1 u))) × ((exec env body (set_reg r (z +ℤ pos t) (tick 1 u))).stuck ≡ s.stuck)) (sym ea) (let b = step t u (omega (arith, lt, g)) i.0 in (b.post, b.calm ∙ i.1))) in
    let e = end _ (subst (λ (n : ℕ). I n (turns (gap (value env s.regs a) (value env s.regs b)) f (tick 1 s))) g l.0) in
    record { post = e.post; calm = e.calm ∙ l.1 }

pub do_when : (env : Env) (e : TermTree) (d : Dim) (r : ℕ) (body : Code) (given : Bool) (other rest : Code) (s : State) (Q : State → Type 0) (k : ℕ) → value env s.regs e ≡ pos k → k < size_of env d → Does env body (set_reg r (pos k) (tick 1 s)) (λ u. Does env rest u Q) → Does env (When e d r body given other rest) s Q
do_when env e d r body given other rest s Q k p lt b = record { post = subst (λ (o : Option ℕ). Q (exec env rest (entered o (λ k. exec env body (set_reg r (pos k) (tick 1 s))) (exec env other (tick 1 s))))) (sym (place_ok _ _ k p lt)) b.post.post; calm = subst (λ (o : Option ℕ). (exec env rest (entered o (λ k. exec env body (set_reg r (pos k) (tick 1 s))) (exec env other (tick 1 s)))).stuck ≡ s.stuck) (sym (place_ok _ _ k p lt)) (b.post.calm ∙ b.calm) }

pub no_place : (v : ℤ) (n k : ℕ) → v ≡ pos k → n ≤ k → place v n ≡ None
no_place v n k e le = let f : nat_lt k n ≡ false = grind (arith, nat_tests) in ap (λ (z : ℤ). place z n) e ∙ ap (λ b. cond b (Some k) None) f

pub do_when_not : (env : Env) (e : TermTree) (d : Dim) (r : ℕ) (body : Code) (given : Bool) (other rest : Code) (s : State) (Q : State → Type 0) (k : ℕ) → value env s.regs e ≡ pos k → size_of env d ≤ k → Does env other (tick 1 s) (λ u. Does env rest u Q) → Does env (When e d r body given other rest) s Q
do_when_not env e d r body given other rest s Q k p le b = record { post = subst (λ (o : Option ℕ). Q (exec env rest (entered o (λ k. exec env body (set_reg r (pos k) (tick 1 s))) (exec env other (tick 1 s))))) (sym (no_place _ _ k p le)) b.post.post; calm = subst (λ (o : Option ℕ). (exec env rest (entered o (λ k. exec env body (set_reg r (pos k) (tick 1 s))) (exec env other (tick 1 s)))).stuck ≡ s.stuck) (sym (no_place _ _ k p le)) (b.post.calm ∙ b.calm) }

pub do_put : (env : Env) (r : ℕ) (e : TermTree) (rest : Code) (s : State) (Q : State → Type 0) → Does env rest (set_reg r (value env s.regs e) (tick 1 s)) Q → Does env (Put r e rest) s Q
do_put env r e rest s Q d = record { post = d.post; calm = d.calm }

pub do_if_yes : (env : Env) (l : TermTree) (eq : Bool) (r : TermTree) (body : Code) (given : Bool) (other rest : Code) (s : State) (Q : State → Type 0) → test eq (value env s.regs l) (value env s.regs r) ≡ true → Does env body (tick 1 s) (λ u. Does env rest u Q) → Does env (If l eq r body given other rest) s Q
do_if_yes env l eq r body given other rest s Q p b = record { post = subst (λ (q : Bool). Q (exec env rest (cond q (exec env body (tick 1 s)) (exec env other (tick 1 s))))) (sym p) b.post.post; calm = subst (λ (q : Bool). (exec env rest (cond q (exec env body (tick 1 s)) (exec env other (tick 1 s)))).stuck ≡ s.stuck) (sym p) (b.post.calm ∙ b.calm) }

pub do_if_no : (env : Env) (l : TermTree) (eq : Bool) (r : TermTree) (body : Code) (given : Bool) (other rest : Code) (s : State) (Q : State → Type 0) → test eq (value env s.regs l) (value env s.regs r) ≡ false → Does env other (tick 1 s) (λ u. Does env rest u Q) → Does env (If l eq r body given other rest) s Q
do_if_no env l eq r body given other rest s Q p b = record { post = subst (λ (q : Bool). Q (exec env rest (cond q (exec env body (tick 1 s)) (exec env other (tick 1 s))))) (sym p) b.post.post; calm = subst (λ (q : Bool). (exec env rest (cond q (exec env body (tick 1 s)) (exec env other (tick 1 s)))).stuck ≡ s.stuck) (sym p) (b.post.calm ∙ b.calm) }

pub do_var : (env : Env) (r : ℕ) (e : TermTree) (rest : Code) (s : State) (Q : State → Type 0) → Does env rest (set_reg r (value env s.regs e) (tick 1 s)) Q → Does env (Var r e rest) s Q
do_var env r e rest s Q d = record { post = d.post; calm = d.calm }

pub do_order : (env : Env) (b : ℕ) (keys : List Buf) (rest : Code) (s : State) (Q : State → Type 0) → all_long (length (s.bufs b)) (map (cells env s) keys) ≡ true → Does env rest (set_buf b (map pos (ordered (map (cells env s) keys) (length (s.bufs b)))) (tick (length (s.bufs b) * length keys + 1) s)) Q → Does env (Order (buf.New b) keys rest) s Q
do_order env b keys rest s Q long d =
    let u = tick (length (s.bufs b) * length keys + 1) s in
    let xs = map pos (ordered (map (cells env s) keys) (length (s.bufs b))) in
    record {
      post = subst (λ (q : Bool). Q (exec env rest (sorted_if q b xs u))) (sym long) d.post;
      calm = subst (λ (q : Bool). (exec env rest (sorted_if q b xs u)).stuck ≡ s.stuck) (sym long) d.calm;
    }

-- a value below 0 takes the other block of a `when` too
pub do_when_negative : (env : Env) (e : TermTree) (d : Dim) (r : ℕ) (body : Code) (given : Bool) (other rest : Code) (s : State) (Q : State → Type 0) (k : ℕ) → value env s.regs e ≡ negsuc k → Does env other (tick 1 s) (λ u. Does env rest u Q) → Does env (When e d r body given other rest) s Q
do_when_negative env e d r body given other rest s Q k p b =
    let none : place (value env s.regs e) (size_of env d) ≡ None = ap (λ (z : ℤ). place z (size_of env d)) p in
    record { post = subst (λ (o : Option ℕ). Q (exec env rest (entered o (λ k. exec env body (set_reg r (pos k) (tick 1 s))) (exec env other (tick 1 s))))) (sym none) b.post.post; calm = subst (λ (o : Option ℕ). (exec env rest (entered o (λ k. exec env body (set_reg r (pos k) (tick 1 s))) (exec env other (tick 1 s)))).stuck ≡ s.stuck) (sym none) (b.post.calm ∙ b.calm) }
