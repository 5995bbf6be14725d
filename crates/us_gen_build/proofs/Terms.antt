-- Terms whose registers stay, and running numbers in registers.
use Rattle.std.proofs.Common.{◌≡◌, ℕ, zero, suc, ◌+◌, ◌-◌, ◌*◌, ◌^◌, ◌<◌, ◌≤◌, Bool, true, false, cond, not, nat_eq, nat_lt, refl, sym, ap, ap₂, ◌∙◌, arith, pos, negsuc, ℤ, ◌+ℤ◌, ◌-ℤ◌, ◌*ℤ◌}
use Rattle.std.specs.Int.{int_wrap, int_div_euclid, int_rem_euclid}
use Rattle.std.proofs.lemmas.Bool.Decides.{nat_tests}
use mir.Syntax.{w64}
use Rattle.us_code.specs.Plain.{TermTree, Number, Reg, Size, Flat, Next, Up, Add, Sub, Mul, Div, Rem}
use Rattle.us_code.specs.Run.{Env, value, test}
use Rattle.us_gen.specs.Nest.{is_origin}
use Rattle.us_gen.proofs.LevelRuns.{wrap_small}
use Rattle.us_running.specs.Running.{is_new, before, less_one}
use Rattle.us_gen_build.specs.Levels.{under}
use Rattle.us_gen_build.specs.Turns.{Reads}

pub reads_more : (a b : ℕ) → a ≤ b → (e : TermTree) → Reads a e → Reads b e
reads_more a b le (Number n) h = tt
reads_more a b le (Reg r) h = omega arith
reads_more a b le (Size d) h = h
reads_more a b le (Flat d p c) h = (tt, reads_more a b le p h.1, reads_more a b le c h.2)
reads_more a b le (Next d x) h = reads_more a b le x h
reads_more a b le (Up d x) h = reads_more a b le x h
reads_more a b le (Add x y) h = (reads_more a b le x h.0, reads_more a b le y h.1)
reads_more a b le (Sub x y) h = (reads_more a b le x h.0, reads_more a b le y h.1)
reads_more a b le (Mul x y) h = (reads_more a b le x h.0, reads_more a b le y h.1)
reads_more a b le (Div x n) h = reads_more a b le x h
reads_more a b le (Rem x n) h = reads_more a b le x h

-- a term's value stays where its registers stay
pub value_stays : (env : Env) (b : ℕ) (e : TermTree) (f g : ℕ → ℤ) → Reads b e → ((r : ℕ) → r < b → g r ≡ f r) → value env g e ≡ value env f e
value_stays env b (Number n) f g h a = refl
value_stays env b (Reg r) f g h a = a r h
value_stays env b (Size d) f g h a = refl
value_stays env b (Flat d p c) f g h a = ap₂ (λ (x y : ℤ). x *ℤ pos (env.factors d) +ℤ y) (value_stays env b p f g h.1 a) (value_stays env b c f g h.2 a)
value_stays env b (Next d x) f g h a = ap (λ (z : ℤ). z +ℤ pos 1) (value_stays env b x f g h a)
value_stays env b (Up d x) f g h a = value_stays env b x f g h a
value_stays env b (Add x y) f g h a = ap₂ (λ (p q : ℤ). int_wrap w64 (p +ℤ q)) (value_stays env b x f g h.0 a) (value_stays env b y f g h.1 a)
value_stays env b (Sub x y) f g h a = ap₂ (λ (p q : ℤ). int_wrap w64 (p -ℤ q)) (value_stays env b x f g h.0 a) (value_stays env b y f g h.1 a)
value_stays env b (Mul x y) f g h a = ap₂ (λ (p q : ℤ). int_wrap w64 (p *ℤ q)) (value_stays env b x f g h.0 a) (value_stays env b y f g h.1 a)
value_stays env b (Div x n) f g h a = ap (λ (z : ℤ). int_div_euclid z (pos n)) (value_stays env b x f g h a)
value_stays env b (Rem x n) f g h a = ap (λ (z : ℤ). int_rem_euclid z (pos n)) (value_stays env b x f g h a)

pub add_one : (v : ℤ) (n : ℕ) → v ≡ pos n → n + 1 < 2 ^ 63 → int_wrap w64 (v +ℤ pos 1) ≡ pos (n + 1)
add_one v n e h = ap (λ (z : ℤ). int_wrap w64 (z +ℤ pos 1)) e ∙ wrap_small (n + 1) h

pub step_up : (v : ℤ) (n : ℕ) → v ≡ less_one n → n < 2 ^ 63 → int_wrap w64 (v +ℤ pos 1) ≡ pos n
step_up v zero e h = ap (λ (z : ℤ). int_wrap w64 (z +ℤ pos 1)) e ∙ wrap_small 0 h
step_up v (suc n) e h = ap (λ (z : ℤ). int_wrap w64 (z +ℤ pos 1)) e ∙ let q : n + 1 ≡ suc n = omega arith in (wrap_small (n + 1) (omega arith) ∙ ap pos q)

origin_is : (env : Env) (f : ℕ → ℤ) (q : TermTree) → is_origin q ≡ true → value env f q ≡ pos 0
origin_is env f (Number n) h = let e : n ≡ 0 = grind (arith, nat_tests) in ap pos e
origin_is env f (Reg r) h = absurd cc
origin_is env f (Size d) h = absurd cc
origin_is env f (Flat d p c) h = absurd cc
origin_is env f (Next d x) h = absurd cc
origin_is env f (Up d x) h = absurd cc
origin_is env f (Add x y) h = absurd cc
origin_is env f (Sub x y) h = absurd cc
origin_is env f (Mul x y) h = absurd cc
origin_is env f (Div x n) h = absurd cc
origin_is env f (Rem x n) h = absurd cc

pos_same : (a b : ℕ) → pos a ≡ pos b → a ≡ b
pos_same a b e = cc

pub under_value : (env : Env) (f : ℕ → ℤ) (q size c : TermTree) (a w k : ℕ) → value env f q ≡ pos a → value env f size ≡ pos w → value env f c ≡ pos k → a * w + k < 2 ^ 63 → value env f (under q size c) ≡ pos (a * w + k)
under_value env f q size c a w k ea ew ek lt = case (is_origin q) refl
  where
    case : (b : Bool) → is_origin q ≡ b → value env f (cond b c (Add (Mul q size) c)) ≡ pos (a * w + k)
    case true e = let z : a ≡ 0 = pos_same a 0 (sym ea ∙ origin_is env f q e) in let zz : a * w ≡ 0 * w = ap (λ (y : ℕ). y * w) z in let zk : k ≡ a * w + k = omega (arith, zz) in ek ∙ ap pos zk
    case false e =
        let m : int_wrap w64 (value env f q *ℤ value env f size) ≡ pos (a * w) = ap₂ (λ (x y : ℤ). int_wrap w64 (x *ℤ y)) ea ew ∙ wrap_small (a * w) (omega arith) in
        ap₂ (λ (x y : ℤ). int_wrap w64 (x +ℤ y)) m ek ∙ wrap_small (a * w + k) lt

pub under_reads : (b : ℕ) (q size c : TermTree) → Reads b q → Reads b size → Reads b c → Reads b (under q size c)
under_reads b q size c rq rs rc = case (is_origin q)
  where
    case : (z : Bool) → Reads b (cond z c (Add (Mul q size) c))
    case true = rc
    case false = ((rq, rs), rc)

-- the test of a new key
pub test_key : (k : ℕ → ℕ) (x : ℕ) → test true (pos (k x)) (before k x) ≡ not (is_new k x)
test_key k zero = refl
test_key k (suc x) = twice (nat_eq (k (suc x)) (k x))
  where
    twice : (b : Bool) → b ≡ not (not b)
    twice true = refl
    twice false = refl

pub not_new : (k : ℕ → ℕ) (x : ℕ) → is_new k x ≡ false → before k x ≡ pos (k x)
not_new k zero h = absurd cc
not_new k (suc x) h = let e : nat_eq (k (suc x)) (k x) ≡ true = twice _ h in let s : k x ≡ k (suc x) = grind (arith, nat_tests) in ap pos s
  where
    twice : (b : Bool) → not b ≡ false → b ≡ true
    twice true h = refl
    twice false h = absurd cc
