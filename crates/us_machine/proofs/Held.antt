-- Numbers by name, in a table and a map.
use Rattle.std.specs.BTreeMap.{BTreeMap, get, is_at}
use Rattle.std.specs.Map.{lookup}
use Rattle.std.specs.Option.{unwrap_or}
use Rattle.std.specs.Ordering.{nat_cmp, is_eq}
use Rattle.std.specs.Prelude.{slice_index_or, slice_set}
use Rattle.std.specs.Int.{cast_signed, cast_unsigned}
use Rattle.std.proofs.Common.{◌≡◌, ℕ, ◌<◌, ◌≤◌, Bool, true, false, cond, eqb, nat_lt, List, [], length, replicate, Option, Some, pos, ℤ, w64, refl, sym, ap, ◌∙◌, arith, FitsSigned}
use Rattle.std.proofs.lemmas.Int.{to_z-of_z}
use mathlib.Core.Path.{fun_ext}
use Rattle.std.proofs.lemmas.Bool.Decides.{nat_tests}
use Rattle.std.proofs.lemmas.List.{get_or_default, get_or-replicate, get_or-set_same, get_or-set_other, length-set, length-replicate}
use Rattle.us_code.specs.Run.{put}
use Rattle.us_machine.specs.declared.names.Names.{Names}
use Rattle.us_machine.specs.declared.names.Registers.{Registers}
use Rattle.us_machine.specs.Tables.{held, regs_of}

lt_true : (a b : ℕ) → a < b → nat_lt a b ≡ true
lt_true a b h = grind (arith, nat_tests)

lt_false : (a b : ℕ) → b ≤ a → nat_lt a b ≡ false
lt_false a b h = grind (arith, nat_tests)

choose : {A : Type 0} (b c : Bool) (x y : A) → b ≡ c → cond b x y ≡ cond c x y
choose b c x y e = ap (λ q. cond q x y) e

pub held_low : (t : Names) (x r : ℕ) → x < length t.low.items → r ≡ slice_index_or t.low.items x r → r ≡ held t x
unfolding held
held_low t x r lt e = e ∙ (get_or_default t.low.items x r 0 lt ∙ sym (choose (nat_lt x (length t.low.items)) true _ _ (lt_true x _ lt)))

pub held_high : (t : Names) (x r : ℕ) → length t.low.items ≤ x → r ≡ unwrap_or (get nat_cmp t.high x) 0 → r ≡ held t x
unfolding held
held_high t x r le e = e ∙ sym (choose (nat_lt x (length t.low.items)) false _ _ (lt_false x _ le))

zeros_at : (n x : ℕ) (b : Bool) → (b ≡ true → x < n) → ◌≡◌ {A = ℕ} (cond b (slice_index_or (replicate n 0) x 0) 0) 0
zeros_at n x true w = get_or-replicate n x 0 0 (w refl)
zeros_at n x false w = refl

lt_means : (a b : ℕ) → nat_lt a b ≡ true → a < b
lt_means a b h = grind (arith, nat_tests)

pub held_new : (t : Names) (n : ℕ) → t.low.items ≡ replicate n 0 → t.high.entries ≡ [] → held t ≡ (λ (x : ℕ). 0)
unfolding held
held_new t n e m = fun_ext (λ x.
    ap (λ es. cond (nat_lt x (length t.low.items)) (slice_index_or t.low.items x 0) (unwrap_or (lookup (is_at (nat_cmp x)) es) 0)) m
    ∙ (ap (λ (xs : List ℕ). cond (nat_lt x (length xs)) (slice_index_or xs x 0) 0) e
    ∙ (ap (λ (k : ℕ). cond (nat_lt x k) (slice_index_or (replicate n 0) x 0) 0) (length-replicate n 0)
    ∙ zeros_at n x (nat_lt x n) (lt_means x n))))

pub held_set : (s t : Names) (x v : ℕ) → x < length s.low.items → t.low.items ≡ slice_set s.low.items x v → t.high ≡ s.high → held t ≡ put (held s) x v
unfolding held put
held_set s t x v lt e m = fun_ext (λ y.
    ap (λ (h : BTreeMap ℕ ℕ). cond (nat_lt y (length t.low.items)) (slice_index_or t.low.items y 0) (unwrap_or (get nat_cmp h y) 0)) m
    ∙ (ap (λ (xs : List ℕ). cond (nat_lt y (length xs)) (slice_index_or xs y 0) (unwrap_or (get nat_cmp s.high y) 0)) e
    ∙ at y (unwrap_or (get nat_cmp s.high y) 0)))
  where
    at : (y z : ℕ) → cond (nat_lt y (length (slice_set s.low.items x v))) (slice_index_or (slice_set s.low.items x v) y 0) z ≡ cond (eqb x y) v (cond (nat_lt y (length s.low.items)) (slice_index_or s.low.items y 0) z)
    at y z = grind (arith, nat_tests, get_or-set_same, get_or-set_other, length-set)

same_key : (r q : ℕ) → is_eq (nat_cmp r q) ≡ eqb r q
same_key r q = grind (arith, nat_tests)

choice : (b : Bool) (v : ℕ) (o : Option ℕ) → unwrap_or (cond b (Some v) o) 0 ≡ cond b v (unwrap_or o 0)
choice true v o = refl
choice false v o = refl

pub held_put : (s t : Names) (x v : ℕ) → length s.low.items ≤ x → t.low ≡ s.low → ((q : ℕ) → get nat_cmp t.high q ≡ cond (is_at (nat_cmp x) q) (Some v) (get nat_cmp s.high q)) → held t ≡ put (held s) x v
unfolding held put
held_put s t x v le e h = fun_ext (λ y.
    ap (λ l. cond (nat_lt y (length l.items)) (slice_index_or l.items y 0) (unwrap_or (get nat_cmp t.high y) 0)) e
    ∙ (ap (λ (o : Option ℕ). cond (nat_lt y (length s.low.items)) (slice_index_or s.low.items y 0) (unwrap_or o 0)) (h y)
    ∙ (ap (λ (z : ℕ). cond (nat_lt y (length s.low.items)) (slice_index_or s.low.items y 0) z) (choice (is_eq (nat_cmp x y)) v (get nat_cmp s.high y) ∙ ap (λ b. cond b v (unwrap_or (get nat_cmp s.high y) 0)) (same_key x y))
    ∙ at y (slice_index_or s.low.items y 0) (unwrap_or (get nat_cmp s.high y) 0))))
  where
    at : (y a z : ℕ) → cond (nat_lt y (length s.low.items)) a (cond (eqb x y) v z) ≡ cond (eqb x y) v (cond (nat_lt y (length s.low.items)) a z)
    at y a z = grind (arith, nat_tests)

pub regs_at : (r : Registers) (x n : ℕ) (v : ℤ) → n ≡ held r.names x → v ≡ cast_signed w64 n → v ≡ regs_of r x
unfolding regs_of
regs_at r x n v e f = f ∙ ap (cast_signed w64) e

pub regs_new : (r : Registers) → held r.names ≡ (λ (x : ℕ). 0) → regs_of r ≡ (λ (x : ℕ). pos 0)
unfolding regs_of
regs_new r e = fun_ext (λ x. ap (λ (f : ℕ → ℕ). cast_signed w64 (f x)) e)

pub regs_set : (r s : Registers) (x : ℕ) (v : ℤ) → FitsSigned w64 v → held s.names ≡ put (held r.names) x (cast_unsigned w64 v) → regs_of s ≡ put (regs_of r) x v
unfolding regs_of put
regs_set r s x v fits e = fun_ext (λ y. ap (λ (f : ℕ → ℕ). cast_signed w64 (f y)) e ∙ at y (eqb x y))
  where
    at : (y : ℕ) (b : Bool) → cast_signed w64 (cond b (cast_unsigned w64 v) (held r.names y)) ≡ cond b v (cast_signed w64 (held r.names y))
    at y true = to_z-of_z w64 v fits
    at y false = refl
