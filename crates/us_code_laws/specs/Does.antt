-- What a block does to a state.
use Rattle.std.specs.Prelude.{◌≡◌}
use Rattle.us_code.specs.Plain.{Code}
use Rattle.us_code.specs.Run.{Env, State, exec}

-- the state that the block leaves has Q, and nothing in it was stuck
pub record Does (env : Env) (c : Code) (s : State) (Q : State → Type 0) : Type 0 where
  pub post : Q (exec env c s)
  pub calm : (exec env c s).stuck ≡ s.stuck
