-- Laws of runs.
use Rattle.std.proofs.Common.{◌≡◌, ◌≢◌, ℕ, zero, suc, ◌<◌, refl, sym, ◌∙◌, arith, [], ◌∷◌, ◌++◌}
use Rattle.std.proofs.lemmas.Bool.Decides.{nat_tests}
use Rattle.us_code.specs.Plain.{Code, End, Let, Load, Var, Put, Set, For, Span, If, When, Order, ◌+++◌}
use Rattle.us_code.specs.Run.{Env, State, put, exec, turns}
use Rattle.us_code.specs.Runs.{World, Ran, Went, TooLarge, Stuck, phase, phases, ◌>>=◌}
use Rattle.us_code_laws.specs.Laws.{Loop, PhasesInSequence}

pub put_same : {A : Type 0} (f : ℕ → A) (x : ℕ) (v : A) → put f x v x ≡ v
unfolding put
put_same f x v = grind (arith, nat_tests)

pub put_other : {A : Type 0} (f : ℕ → A) (x : ℕ) (v : A) (y : ℕ) → x ≢ y → put f x v y ≡ f y
unfolding put
put_other f x v y h = grind (arith, nat_tests)

-- Sequence
pub exec_append : (env : Env) (a b : Code) (s : State) → exec env (a +++ b) s ≡ exec env b (exec env a s)
exec_append env End b s = refl
exec_append env (Let r e rest) b s = exec_append env rest b _
exec_append env (Load r x at rest) b s = exec_append env rest b _
exec_append env (Var r e rest) b s = exec_append env rest b _
exec_append env (Put r e rest) b s = exec_append env rest b _
exec_append env (Set x at e rest) b s = exec_append env rest b _
exec_append env (For r d body rest) b s = exec_append env rest b _
exec_append env (Span r x y d body rest) b s = exec_append env rest b _
exec_append env (If l eq r body given other rest) b s = exec_append env rest b _
exec_append env (When e d r body given other rest) b s = exec_append env rest b _
exec_append env (Order x keys rest) b s = exec_append env rest b _

pub for_turns : Loop
for_turns = record { runs = λ env r d body rest s. refl; one_more = λ env r body t s. refl }

bind_bind : (r : Ran) (f g : World → Ran) → (r >>= f) >>= g ≡ r >>= (λ w. f w >>= g)
bind_bind (Went w) f g = refl
bind_bind (TooLarge n) f g = refl
bind_bind Stuck f g = refl

bind_same : (r : Ran) (f g : World → Ran) → ((w : World) → f w ≡ g w) → r >>= f ≡ r >>= g
bind_same (Went w) f g h = h w
bind_same (TooLarge n) f g h = refl
bind_same Stuck f g h = refl

pub phases_append : PhasesInSequence
phases_append [] b w = refl
phases_append (p ∷ a) b w = bind_same (phase p w) (phases (a ++ b)) (λ u. phases a u >>= phases b) (phases_append a b) ∙ sym (bind_bind (phase p w) (phases a) (phases b))

-- Loop, as an invariant
pub turns_keep : (I : ℕ → State → Type 0) (f : ℕ → State → State) (n : ℕ) (s : State) → I 0 s → ((t : ℕ) (u : State) → t < n → I t u → I (suc t) (f t u)) → I n (turns n f s)
turns_keep I f zero s base step = base
turns_keep I f (suc n) s base step = step n (turns n f s) (omega arith) (turns_keep I f n s base (λ t u h i. step t u (omega arith) i))
