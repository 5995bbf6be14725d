-- The cells of a pack, one column after the other.
use Rattle.std.proofs.Common.{◌≡◌, ◌≢◌, ℕ, suc, ◌+◌, ◌*◌, ◌/◌, ◌%◌, ◌<◌, ◌≤◌, ◌⊎◌, inl, inr, Bool, true, false, cond, nat_eq, refl, sym, ap, ap₂, ◌∙◌, subst, arith, List, [], ◌∷◌, length, pos, ℤ, ◌+ℤ◌, ◌*ℤ◌, suc-mul, mul-le-mul_right}
use Rattle.std.specs.Prelude.{slice_index_or, slice_set}
use Rattle.std.proofs.lemmas.Bool.{cases_eq, cases_lt}
use Rattle.std.proofs.lemmas.Bool.Decides.{nat_tests}
use lib.Arith.{digits_div, digits_mod}
use Rattle.us_code.specs.Plain.{TermTree, Number, Flat, Code}
use Rattle.us_code.specs.Run.{State, size_of, value, tick, set_buf}
use Rattle.us_code_laws.specs.Does.{Does}
use Rattle.us_code_laws.proofs.Sequence.{put_same, put_other}
use Rattle.us_code_laws.proofs.Does.{do_set}
use Rattle.us_running.specs.Running.{Table}
use Rattle.us_running.proofs.Running.{table_set}
use Rattle.us_gen_build.specs.Turns.{Turns, Holds}
use Rattle.us_gen_build.proofs.Terms.{value_stays}
use Rattle.us_gen_packs.specs.Packs.{PackTree, width, cells_from}
use Rattle.us_gen_packs.specs.Turns.{AllRead, column, Interleaves, column_after}

-- ---- places

pub in_cells : (n w z y : ℕ) → z < n → y < w → z * w + y < n * w
in_cells n w z y hz hy = omega (arith, mul-le-mul_right w hz, suc-mul z w, hy)

pub same_place : (w z y c j : ℕ) → y < w → j < w → z * w + y ≡ c * w + j → (z ≡ c) × (y ≡ j)
same_place w z y c j hy hj e = (
  sym (digits_div z hy) ∙ (ap (λ (n : ℕ). n / w) e ∙ digits_div c hj),
  sym (digits_mod z hy) ∙ (ap (λ (n : ℕ). n % w) e ∙ digits_mod c hj),
)

hit : (a z : ℕ) (v d : ℤ) → a ≡ z → cond (nat_eq a z) v d ≡ v
hit a z v d e = case (nat_eq a z) refl
  where
    case : (b : Bool) → nat_eq a z ≡ b → cond b v d ≡ v
    case true q = refl
    case false q = let s : a ≢ z = grind (arith, nat_tests) in absurd (s e)

miss : (a z : ℕ) (v d : ℤ) → a ≢ z → cond (nat_eq a z) v d ≡ d
miss a z v d e = case (nat_eq a z) refl
  where
    case : (b : Bool) → nat_eq a z ≡ b → cond b v d ≡ d
    case true q = let s : a ≡ z = grind (arith, nat_tests) in absurd (e s)
    case false q = refl

pub interleaves_moved : (xs ys : List ℤ) (n w : ℕ) (f : ℕ → ℕ → ℤ) → ys ≡ xs → Interleaves xs n w f → Interleaves ys n w f
interleaves_moved xs ys n w f e t = subst (λ (zs : List ℤ). Interleaves zs n w f) (sym e) t

-- one cell that is set
set_at : (cells : List ℤ) (m k : ℕ) (v : ℤ) (i : ℕ) → length cells ≡ m → k < m → i < m → slice_index_or (slice_set cells k v) i (pos 0) ≡ cond (nat_eq k i) v (slice_index_or cells i (pos 0))
set_at cells m k v i long lt h = (set lt).each i h
  where
    all : Table cells m (λ y. slice_index_or cells y (pos 0))
    all = record { long = long; each = λ y g. refl }

    set : k < m → Table (slice_set cells k v) m (λ y. cond (nat_eq k y) v (slice_index_or cells y (pos 0)))
    set lt = table_set cells m k v (λ y. slice_index_or cells y (pos 0)) lt all

set_long : (cells : List ℤ) (m k : ℕ) (v : ℤ) → length cells ≡ m → k < m → length (slice_set cells k v) ≡ m
set_long cells m k v long lt = (table_set cells m k v (λ y. slice_index_or cells y (pos 0)) lt record { long = long; each = λ y g. refl }).long

module _ (T : Turns) (w : PackTree) (at : ℕ → ℕ) (x : ℕ) where
  -- the columns before y have entry x, and those from y on don't yet
  pub record Partly (y : ℕ) (cells : List ℤ) : Type 0 where
    pub long : length cells ≡ size_of T.env w.length * width w
    pub done : (z j : ℕ) → z < size_of T.env w.length → j < width w → j < y → slice_index_or cells (z * width w + j) (pos 0) ≡ column_after T w at (suc x) j z
    pub left : (z j : ℕ) → z < size_of T.env w.length → j < width w → y ≤ j → slice_index_or cells (z * width w + j) (pos 0) ≡ column_after T w at x j z

  pub none_done : (cells : List ℤ) → Interleaves cells (size_of T.env w.length) (width w) (column_after T w at x) → Partly 0 cells
  none_done cells i = record { long = i.long; done = λ z j a b c. absurd (omega (arith, c)); left = λ z j a b c. i.each z j a b }

  pub all_done : (cells : List ℤ) (y : ℕ) → y ≡ width w → Partly y cells → Interleaves cells (size_of T.env w.length) (width w) (column_after T w at (suc x))
  all_done cells y e p = record { long = p.long; each = λ z j a b. p.done z j a b (omega (arith, b, e)) }

  abbrev number : ℕ → ℤ
  number y = value T.env (T.held x) (column w.columns y)

  one_done : (cells : List ℤ) (y : ℕ) (v : ℤ) → y < width w → at x < size_of T.env w.length → v ≡ number y → Partly y cells → Partly (y + 1) (slice_set cells (at x * width w + y) v)
  one_done cells y v hy hx ev p = record { long = set_long cells _ (at x * width w + y) v p.long room; done = done-now; left = left-now }
    where
      room : at x * width w + y < size_of T.env w.length * width w
      room = in_cells (size_of T.env w.length) (width w) (at x) y hx hy

      now : (z j : ℕ) → z < size_of T.env w.length → j < width w
          → slice_index_or (slice_set cells (at x * width w + y) v) (z * width w + j) (pos 0) ≡ cond (nat_eq (at x * width w + y) (z * width w + j)) v (slice_index_or cells (z * width w + j) (pos 0))
      now z j hz hj = set_at cells _ (at x * width w + y) v (z * width w + j) p.long room (in_cells (size_of T.env w.length) (width w) z j hz hj)

      earlier : (z j : ℕ) → z < size_of T.env w.length → j < width w → j < y + 1 → at x * width w + y ≢ z * width w + j → (j < y) ⊎ (y ≤ j) → slice_index_or cells (z * width w + j) (pos 0) ≡ column_after T w at (suc x) j z
      earlier z j hz hj hl ne (inl lt) = p.done z j hz hj lt
      earlier z j hz hj hl ne (inr ge) =
          p.left z j hz hj ge
          ∙ sym (miss (at x) z (number j) (column_after T w at x j z) (λ e. let q : y ≡ j = omega (arith, hl, ge) in ne (ap₂ (λ (a b : ℕ). a * width w + b) e q)))

      done-at : (z j : ℕ) → z < size_of T.env w.length → j < width w → j < y + 1 → (at x * width w + y ≡ z * width w + j) ⊎ (at x * width w + y ≢ z * width w + j)
          → cond (nat_eq (at x * width w + y) (z * width w + j)) v (slice_index_or cells (z * width w + j) (pos 0)) ≡ column_after T w at (suc x) j z
      done-at z j hz hj hl (inl e) =
          let same = same_place (width w) (at x) y z j hy hj e in
          hit (at x * width w + y) (z * width w + j) v _ e ∙ (ev ∙ (ap number same.1 ∙ sym (hit (at x) z (number j) (column_after T w at x j z) same.0)))
      done-at z j hz hj hl (inr ne) = miss (at x * width w + y) (z * width w + j) v _ ne ∙ earlier z j hz hj hl ne (cases_lt j y)

      done-now : (z j : ℕ) → z < size_of T.env w.length → j < width w → j < y + 1 → slice_index_or (slice_set cells (at x * width w + y) v) (z * width w + j) (pos 0) ≡ column_after T w at (suc x) j z
      done-now z j hz hj hl = now z j hz hj ∙ done-at z j hz hj hl (cases_eq (at x * width w + y) (z * width w + j))

      left-now : (z j : ℕ) → z < size_of T.env w.length → j < width w → y + 1 ≤ j → slice_index_or (slice_set cells (at x * width w + y) v) (z * width w + j) (pos 0) ≡ column_after T w at x j z
      left-now z j hz hj hl =
          now z j hz hj
          ∙ (miss (at x * width w + y) (z * width w + j) v _ (λ e. let same = same_place (width w) (at x) y z j hy hj e in omega (arith, same.1, hl)) ∙ p.left z j hz hj (omega (arith, hl)))

  -- the cells of the columns from y on
  pub cells_do : (es : List TermTree) (y : ℕ) (p : TermTree) (rest : Code) (u : State) (Q : State → Type 0) → y + length es ≡ width w → ((j : ℕ) → j < length es → column es j ≡ column w.columns (y + j)) → AllRead T.base es
      → Holds T x u → value T.env u.regs p ≡ pos (at x) → at x < size_of T.env w.length → T.env.factors w.cells ≡ width w → Partly y (u.bufs w.first)
      → ((v : State) → v.regs ≡ u.regs → ((b : ℕ) → w.first ≢ b → v.bufs b ≡ u.bufs b) → Interleaves (v.bufs w.first) (size_of T.env w.length) (width w) (column_after T w at (suc x)) → v.steps ≡ u.steps + length es → Does T.env rest v Q)
      → Does T.env (cells_from w.first w.cells p y es rest) u Q
  cells_do [] y p rest u Q all these reads h ep hx ef i end = end u refl (λ b g. refl) (all_done (u.bufs w.first) y (omega (arith, all)) i) (omega arith)
  cells_do (e ∷ es) y p rest u Q all these reads h ep hx ef i end =
      let k = at x * width w + y in
      let hy : y < width w = omega (arith, all) in
      let room : k < size_of T.env w.length * width w = in_cells (size_of T.env w.length) (width w) (at x) y hx hy in
      let v = value T.env u.regs e in
      let first_is : e ≡ column w.columns y = these 0 (omega arith) ∙ ap (column w.columns) (plus_zero y) in
      let ev : v ≡ number y = value_stays T.env T.base e (T.held x) u.regs reads.0 h.regs ∙ ap (value T.env (T.held x)) first_is in
      let u1 = set_buf w.first (slice_set (u.bufs w.first) k v) (tick 1 u) in
      do_set T.env w.first (Flat w.cells p (Number y)) e (cells_from w.first w.cells p (y + 1) es rest) u Q k
      (ap₂ (λ (a : ℤ) (f : ℕ). a *ℤ pos f +ℤ pos y) ep ef)
      (omega (arith, room, i.long))
      (cells_do es (y + 1) p rest u1 Q (omega (arith, all)) (λ j lt. these (suc j) (omega (arith, lt)) ∙ ap (column w.columns) (plus_suc y j)) reads.1
      record { regs = h.regs; turn = h.turn; within = h.within } ep hx ef
      (subst (Partly (y + 1)) (sym (put_same u.bufs w.first _)) (one_done (u.bufs w.first) y v hy hx ev i))
      (λ q r b t st. end q r (λ c g. b c g ∙ put_other u.bufs w.first _ c g) t (omega (arith, st))))
    where
      plus_zero : (a : ℕ) → a + 0 ≡ a
      plus_zero a = omega arith

      plus_suc : (a j : ℕ) → a + suc j ≡ a + 1 + j
      plus_suc a j = omega arith
