-- What the entries write is the buffer of the definition.
use Rattle.std.proofs.Common.{◌≡◌, ℕ, zero, suc, ◌<◌, ◌≤◌, ◌⊎◌, List, length, Bool, true, false, cond, nat_eq, sym, refl, ap, ◌∙◌, subst, inl, inr, arith, ℤ, pos}
use Rattle.std.proofs.lemmas.Bool.{false≢true, cases_lt, cases_eq}
use Rattle.std.proofs.lemmas.Bool.Decides.{nat_tests}
use Rattle.us_format.specs.Positions.{Row}
use Rattle.us_format.specs.Buffers.{cell_of}
use Rattle.us_format.proofs.Order.{Mem}
use Rattle.us_format.proofs.Climb.{cell_of-found, cell_of-none}
use Rattle.us_format.proofs.Shuffled.{is-anywhere}
use Rattle.us_build.proofs.Counts.{Mem-at, Mem-place}
use Rattle.us_running.specs.Running.{written}
use Rattle.us_gen_build_laws.specs.Rows.{no_row, row}

module _ (rows : List Row) (at : Row → ℕ) (f : Row → ℤ) (writes : ℕ → Bool) (place : ℕ → ℕ) (val : ℕ → ℤ)
    (places : (x : ℕ) → x < length rows → place x ≡ at (row rows x)) (vals : (x : ℕ) → x < length rows → val x ≡ f (row rows x))
    (alike : (r s : Row) → Mem r rows → Mem s rows → at r ≡ at s → f r ≡ f s)
    (first : 0 < length rows → writes 0 ≡ true) (skips : (x : ℕ) → suc x < length rows → writes (suc x) ≡ false → place x ≡ place (suc x)) where
  one_val : (x y : ℕ) → x < length rows → y < length rows → place x ≡ place y → val x ≡ val y
  one_val x y lx ly e = vals x lx ∙ (alike (row rows x) (row rows y) (Mem-at rows x no_row lx) (Mem-at rows y no_row ly) (sym (places x lx) ∙ (e ∙ places y ly)) ∙ sym (vals y ly))

  abbrev step : ℕ → ℕ → Bool → ℤ
  step n y b = cond b (cond (nat_eq (place n) y) (val n) (written writes place val n y)) (written writes place val n y)

  pub written_at : (n x y : ℕ) → n ≤ length rows → x < n → place x ≡ y → written writes place val n y ≡ val x
  written_at zero x y le lt e = absurd (omega (arith, lt))
  written_at (suc n) x y le lt e = case (λ z l q. written_at n z y (omega arith) l q) (writes n) refl (cases_eq (place n) y) (cases_lt x n)
    where
      at_n : n ≤ x → val n ≡ val x
      at_n h = let q : n ≡ x = omega (arith, h, lt) in ap val q

      hit : place n ≡ y → step n y true ≡ val n
      hit q = let l : nat_eq (place n) y ≡ true = grind (arith, nat_tests) in ap (λ (b : Bool). cond b (val n) (written writes place val n y)) l

      miss : (place n ≡ y → ⊥) → step n y true ≡ written writes place val n y
      miss q = let l : nat_eq (place n) y ≡ false = grind (arith, nat_tests) in ap (λ (b : Bool). cond b (val n) (written writes place val n y)) l

      back : ((z : ℕ) → z < n → place z ≡ y → written writes place val n y ≡ val z) → writes n ≡ false → n ≤ x → written writes place val n y ≡ val x
      back ih w h = go n refl
        where
          go : (m : ℕ) → m ≡ n → written writes place val n y ≡ val x
          go zero q = let t = first (omega (arith, le)) in absurd (false≢true (sym w ∙ (ap writes (sym q) ∙ t)))
          go (suc m) q =
              let xn : x ≡ suc m = omega (arith, h, lt, q) in
              let pm : place m ≡ place (suc m) = skips m (omega (arith, le, q)) (ap writes q ∙ w) in
              ih m (omega (arith, q)) (pm ∙ (ap place (sym xn) ∙ e)) ∙ one_val m x (omega (arith, le, q)) (omega (arith, le, lt)) (pm ∙ ap place (sym xn))

      case : ((z : ℕ) → z < n → place z ≡ y → written writes place val n y ≡ val z) → (b : Bool) → writes n ≡ b → (place n ≡ y) ⊎ (place n ≡ y → ⊥) → (x < n) ⊎ (n ≤ x) → step n y (writes n) ≡ val x
      case ih true w (inl q) l = ap (step n y) w ∙ (hit q ∙ one_val n x (omega (arith, le)) (omega (arith, le, lt)) (q ∙ sym e))
      case ih true w (inr q) (inl l) = ap (step n y) w ∙ (miss q ∙ ih x l e)
      case ih true w (inr q) (inr l) = absurd (q (let z : n ≡ x = omega (arith, l, lt) in ap place z ∙ e))
      case ih false w q (inl l) = ap (step n y) w ∙ ih x l e
      case ih false w q (inr l) = ap (step n y) w ∙ back ih w l

  pub written_none : (n y : ℕ) → ((x : ℕ) → x < n → place x ≡ y → ⊥) → written writes place val n y ≡ pos 0
  written_none zero y h = refl
  written_none (suc n) y h = let q = h n (omega arith) in let l : nat_eq (place n) y ≡ false = grind (arith, nat_tests) in ap (λ (b : Bool). cond (writes n) (cond b (val n) (written writes place val n y)) (written writes place val n y)) l ∙ (same (writes n) ∙ written_none n y (λ x g. h x (omega (arith, g))))
    where
      same : (b : Bool) → cond b (written writes place val n y) (written writes place val n y) ≡ written writes place val n y
      same true = refl
      same false = refl

  -- the cells after all entries are those of the definition
  pub written_is : (y : ℕ) → written writes place val (length rows) y ≡ cell_of at f rows y
  written_is y = go (is-anywhere at rows y)
    where
      go : ((r : Row) × Mem r rows × (at r ≡ y)) ⊎ ((r : Row) → Mem r rows → at r ≡ y → ⊥) → written writes place val (length rows) y ≡ cell_of at f rows y
      go (inl (r, m, e)) =
          let b = Mem-place r rows no_row m in
          let q : place b.0 ≡ y = places b.0 b.1 ∙ (ap at b.2 ∙ e) in
          written_at (length rows) b.0 y (omega arith) b.1 q ∙ (vals b.0 b.1 ∙ (ap f b.2 ∙ sym (subst (λ (z : ℕ). cell_of at f rows z ≡ f r) e (cell_of-found at f rows r m (λ s ms k. alike s r ms m k)))))
      go (inr none) = written_none (length rows) y (λ x lt e. none (row rows x) (Mem-at rows x no_row lt) (sym (places x lt) ∙ e)) ∙ sym (cell_of-none at f rows y none)
