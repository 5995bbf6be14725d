-- The order in which the loop takes the entries.
use Rattle.std.specs.Prelude.{◌≡◌, ◌≢◌, ℕ, ◌+◌, ◌*◌, ◌<◌, Bool, true, List, [], ◌∷◌, map, length, get_or, count_by, ℤ, Some}
use Rattle.std.specs.List.{range_with_len}
use Rattle.us_code.specs.declared.program.Buf.{Buf}
use Rattle.us_code.specs.declared.program.Buf.TheVariants as buf
use Rattle.us_code.specs.Plain.{Code, End, Order}
use Rattle.us_code.specs.Run.{Env, State, all_long}
use Rattle.us_code.specs.Sort.{before, ordered}
use Rattle.us_code_laws.specs.Does.{Does}
use Rattle.us_gen_build.specs.Loops.{Picks}

-- new buffers as keys
abbrev pub key_bufs : List ℕ → List Buf
key_bufs [] = []
key_bufs (k ∷ ks) = buf.New k ∷ key_bufs ks

-- buffer p becomes the places of the entries in ascending order of their keys
abbrev pub order_block : ℕ → List ℕ → Code
order_block p keys = Order (buf.New p) (key_bufs keys) End

-- the entry at place x of that order, among n
abbrev pub entry_at : (ℕ → List ℤ) → List ℕ → ℕ → ℕ → ℕ
entry_at bufs keys n x = get_or (ordered (map bufs keys) n) x 0

-- from s to u buffer p became the order of its n places by the keys: each place once, ascending
pub record Sorted (p n : ℕ) (keys : List ℕ) (s u : State) : Type 0 where
  pub picks : (low : ℕ) → p < low → Picks (Some p) low n u.bufs (entry_at s.bufs keys n)
  pub within : (x : ℕ) → x < n → entry_at s.bufs keys n x < n
  pub ascending : (x y : ℕ) → x < y → y < n → before (map s.bufs keys) (entry_at s.bufs keys n x) (entry_at s.bufs keys n y) ≡ true
  pub all : (t : ℕ → Bool) → count_by t (ordered (map s.bufs keys) n) ≡ count_by t (range_with_len 0 n)
  pub regs : u.regs ≡ s.regs
  pub bufs : (c : ℕ) → p ≢ c → u.bufs c ≡ s.bufs c
  pub steps : u.steps ≡ s.steps + (n * length keys + 1)

-- where each key has a cell for each place
abbrev pub OrdersSort : Type 0
OrdersSort =
    (env : Env) (p n : ℕ) (keys : List ℕ) (s : State) → length (s.bufs p) ≡ n → all_long n (map s.bufs keys) ≡ true
    → Does env (order_block p keys) s (Sorted p n keys s)
