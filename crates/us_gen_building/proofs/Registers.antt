-- What the registers of a turn hold of the entry's row.
use Rattle.std.proofs.Common.{◌≡◌, ℕ, ◌+◌, ◌<◌, ◌≤◌, List, [], ◌∷◌, ◌++◌, map, take, length, zero, suc, refl, sym, ap, ◌∙◌, arith, ℤ, pos, Option}
use Rattle.std.specs.Prelude.{slice_index_or}
use Rattle.us_code.specs.Run.{Env, State, put, value}
use Rattle.us_code.specs.Runs.{whole}
use Rattle.us_code_laws.proofs.Sequence.{put_same, put_other}
use Rattle.us_format.specs.Lists.{cell, head, tail}
use Rattle.us_gen_build.specs.Turns.{Turns}
use Rattle.us_gen_build.specs.Loops.{loaded, levels_from, held_at}
use Rattle.us_build_loops.specs.Orders.{HoldKeys}
use Rattle.us_gen_building.specs.declared.part.PartLevel.{PartLevel}
use Rattle.us_gen_building.specs.Levels.{columns}

-- the entries in the order of the turns, by what the loads give
abbrev pub turns_of : Env → ℕ → ℕ → Option ℕ → List ℕ → (ℕ → ℕ) → State → Turns
turns_of env n a order cols place s = record {
  env = env;
  count = n;
  turn = a;
  base = levels_from order cols a;
  held = λ x r. held_at a order cols place s x r;
  coord = λ l x. whole (value env (held_at a order cols place s x) l.coord);
  wide = λ l. whole (value env (λ r. pos 0) l.size);
}

loads_low : (bufs : ℕ → List ℤ) (cols : List ℕ) (k at : ℕ) (f : ℕ → ℤ) (r : ℕ) → r < k → loaded bufs cols k at f r ≡ f r
loads_low bufs [] k at f r lt = refl
loads_low bufs (b ∷ bs) k at f r lt = loads_low bufs bs (k + 1) at (put f k (slice_index_or (bufs b) at (pos 0))) r (omega (arith, lt)) ∙ put_other f k _ r (λ e. omega (arith, e, lt))

-- the registers from r on hold the cells of columns at the place of each turn
abbrev pub HoldColumns : (ℕ → ℕ → ℤ) → (ℕ → List ℤ) → (ℕ → ℕ) → ℕ → List ℕ → Type 0
HoldColumns held bufs place r [] = Unit {0}
HoldColumns held bufs place r (b ∷ bs) = ((x : ℕ) → held x r ≡ cell (bufs b) (place x)) × HoldColumns held bufs place (r + 1) bs

pub loads_hold : (bufs : ℕ → List ℤ) (place : ℕ → ℕ) (cols : List ℕ) (k : ℕ) (f : ℕ → ℕ → ℤ) → HoldColumns (λ x r. loaded bufs cols k (place x) (f x) r) bufs place k cols
loads_hold bufs place [] k f = tt
loads_hold bufs place (b ∷ bs) k f = (
  (λ x. loads_low bufs bs (k + 1) (place x) (put (f x) k (slice_index_or (bufs b) (place x) (pos 0))) k (omega arith) ∙ put_same (f x) k _),
  loads_hold bufs place bs (k + 1) (λ x. put (f x) k (slice_index_or (bufs b) (place x) (pos 0))),
)

pub hold_nil : (held : ℕ → ℕ → ℤ) (bufs : ℕ → List ℤ) (place : ℕ → ℕ) (r : ℕ) (cs : List ℕ) → HoldColumns held bufs place r cs → HoldColumns held bufs place r (cs ++ [])
hold_nil held bufs place r [] h = tt
hold_nil held bufs place r (c ∷ cs) h = (h.0, hold_nil held bufs place (r + 1) cs h.1)

-- the registers from r on, all below `base`, hold the coordinates of n rows
abbrev pub ReadRows : (ℕ → ℕ → ℤ) → ℕ → ℕ → ℕ → List PartLevel → (ℕ → List ℕ) → Type 0
ReadRows held base n r [] rest = Unit {0}
ReadRows held base n r (l ∷ ls) rest = (r < base) × ((x : ℕ) → x < n → held x r ≡ pos (head (rest x))) × ReadRows held base n (r + 1) ls (λ x. tail (rest x))

pub rows_read :
    (held : ℕ → ℕ → ℤ) (base n : ℕ) (bufs : ℕ → List ℤ) (place : ℕ → ℕ) (ls : List PartLevel) (more : List ℕ) (r : ℕ) (given rest : ℕ → List ℕ)
    → ((x : ℕ) → x < n → place x < n) → ((x : ℕ) → x < n → rest x ≡ given (place x)) → r + length ls ≤ base
    → HoldColumns held bufs place r (columns ls ++ more) → HoldKeys (map bufs (columns ls)) n given → ReadRows held base n r ls rest
rows_read held base n bufs place [] more r given rest within same low c k = tt
rows_read held base n bufs place (l ∷ ls) more r given rest within same low c k = (
  omega (arith, low),
  (λ x h. c.0 x ∙ (k.0 (place x) (within x h) ∙ ap (λ (cs : List ℕ). pos (head cs)) (sym (same x h)))),
  rows_read held base n bufs place ls more (r + 1) (λ x. tail (given x)) (λ x. tail (rest x)) within (λ x h. ap tail (same x h)) (omega (arith, low)) c.1 k.1,
)

-- the register behind those of the coordinates
pub last_read : (held : ℕ → ℕ → ℤ) (bufs : ℕ → List ℤ) (place : ℕ → ℕ) (ls : List PartLevel) (b : ℕ) (more : List ℕ) (r : ℕ) → HoldColumns held bufs place r (columns ls ++ b ∷ more) → (x : ℕ) → held x (r + length ls) ≡ cell (bufs b) (place x)
last_read held bufs place [] b more r c x = ap (held x) (omega arith) ∙ c.0 x
last_read held bufs place (l ∷ ls) b more r c x = ap (held x) (omega arith) ∙ last_read held bufs place ls b more (r + 1) c.1 x

-- keys of the first levels alone
pub keys_front : (bufs : ℕ → List ℤ) (ls : List PartLevel) (k n : ℕ) (given : ℕ → List ℕ) → HoldKeys (map bufs (columns ls)) n given → HoldKeys (map bufs (columns (take k ls))) n given
keys_front bufs [] zero n given h = tt
keys_front bufs [] (suc k) n given h = tt
keys_front bufs (l ∷ ls) zero n given h = tt
keys_front bufs (l ∷ ls) (suc k) n given h = (h.0, keys_front bufs ls k n (λ x. tail (given x)) h.1)
