-- The packs of the loop stand for those of the part.
use Rattle.std.proofs.Common.{◌≡◌, ℕ, zero, suc, ◌+◌, ◌-◌, ◌<◌, ◌≤◌, ◌⊎◌, inl, inr, List, [], ◌∷◌, map, length, true, ◌&&◌, nat_lt, nat_le, refl, sym, ap, ◌∙◌, subst, arith, ℤ, pos}
use Rattle.std.specs.Prelude.{slice_index_or, IsTrue}
use Rattle.std.proofs.lemmas.Bool.{cases_lt, or_left, or_right}
use Rattle.std.proofs.lemmas.Bool.Decides.{nat_tests}
use Rattle.us_code.specs.Plain.{TermTree, Reg}
use Rattle.us_code.specs.Run.{size_of, value}
use Rattle.us_format.specs.Lists.{tail}
use Rattle.us_format.specs.Declaration.{Column}
use Rattle.us_format.specs.Positions.{Row}
use Rattle.us_format_loops.specs.Nodes.{are_slots}
use Rattle.us_gen_build.specs.Turns.{Turns}
use Rattle.us_gen_build_laws.specs.Rows.{row}
use Rattle.us_gen_packs.specs.Packs.{width}
use Rattle.us_gen_packs.specs.Turns.{AllRead, column}
use Rattle.us_pack_loops.specs.Standing.{entry_number, levels_behind, PackStandsFor, AllPacksStand}
use Rattle.us_pack_loops.proofs.Entries.{head-at, tail-at}
use Rattle.us_gen_building.specs.declared.part.PartLevel.{PartLevel}
use Rattle.us_gen_building.specs.declared.part.Descent.{Descent}
use Rattle.us_gen_building.specs.Runs.{levels_of}
use Rattle.us_gen_building.proofs.Registers.{ReadRows}
use Rattle.us_gen_pack_building.specs.declared.part.PackRun.{PackRun}
use Rattle.us_gen_pack_building.specs.Levels.{has, is_packed, FitRuns, column_terms, writer, writers}
use Rattle.us_gen_pack_building.specs.Runs.{column_at, columns_of, AreLast, HaveCells}
use Rattle.us_gen_pack_building.proofs.Columns.{col_level, col_value, columns_long, columns_all, columns_there}
use Rattle.us_gen_pack_building.proofs.Lines.{terms_long}
use Rattle.us_gen_pack_building.proofs.Names.{slots_behind}

-- ---- registers

reads_at : (held : ℕ → ℕ → ℤ) (base n r : ℕ) (ls : List PartLevel) (rest : ℕ → List ℕ) (j x : ℕ) → ReadRows held base n r ls rest → j < length ls → x < n → held x (r + j) ≡ pos (slice_index_or (rest x) j 0)
reads_at held base n r [] rest j x h lt hx = absurd (omega (arith, lt))
reads_at held base n r (l ∷ ls) rest zero x h lt hx = ap (held x) (omega arith) ∙ (h.1 x hx ∙ ap pos (head-at (rest x)))
reads_at held base n r (l ∷ ls) rest (suc j) x h lt hx =
    ap (held x) (omega arith) ∙ (reads_at held base n (r + 1) ls (λ y. tail (rest y)) j x h.2 (omega (arith, lt)) hx ∙ ap pos (tail-at (rest x) j))

terms_read : (b r n : ℕ) → r + n ≤ b → AllRead b (column_terms r n)
terms_read b r zero h = tt
terms_read b r (suc n) h = (omega (arith, h), terms_read b (r + 1) n (omega (arith, h)))

terms_there : (r n y : ℕ) → y < n → column (column_terms r n) y ≡ Reg (r + y)
terms_there r zero y h = absurd (omega (arith, h))
terms_there r (suc n) zero h = ap Reg (omega arith)
terms_there r (suc n) (suc y) h = terms_there (r + 1) n y (omega (arith, h)) ∙ ap Reg (omega arith)

has_inside : (r : PackRun) (k : ℕ) → r.first ≤ k → k < r.end → has r k ≡ true
has_inside r k h g = inside r.first k r.end h g
  where
    inside : (a b c : ℕ) → a ≤ b → b < c → (nat_le a b && nat_lt b c) ≡ true
    inside a b c h g = grind (arith, nat_tests)

-- ---- what is known of the turns

module _ (T : Turns) (ls : List PartLevel) (all : List PackRun) where
  pub record Known (register : ℕ) (below : Descent) (cells : ℕ) (rows : List Row) (at : ℕ → ℕ) : Type 0 where
    pub reads : ReadRows T.held T.base T.count register ls (λ y. (row rows y).rest)
    pub reads_value : (y : ℕ) → y < T.count → T.held y (register + length ls) ≡ (row rows y).value
    pub end : register + length ls + 1 ≤ T.base
    pub last : AreLast all 0 ls
    pub positions : size_of T.env below.above ≡ cells
    pub rank : below.is_rank ≡ true → (y : ℕ) → y < T.count → at y ≡ y

  module _ (register : ℕ) (below : Descent) (cells : ℕ) (rows : List Row) (at : ℕ → ℕ) (w : Known register below cells rows at) where
    abbrev n : ℕ
    n = length ls

    -- the register of a column holds its number
    held_is : (k x : ℕ) → k ≤ n → x < T.count → T.held x (register + k) ≡ entry_number (row rows x) (column_at n k)
    held_is k x h lt = go (cases_lt k n)
      where
        go : (k < n) ⊎ (n ≤ k) → T.held x (register + k) ≡ entry_number (row rows x) (column_at n k)
        go (inl a) = reads_at T.held T.base T.count register ls (λ y. (row rows y).rest) k x w.reads a lt ∙ ap (entry_number (row rows x)) (sym (col_level n k a))
        go (inr a) =
            let e : k ≡ n = omega (arith, h, a) in
            ap (λ (j : ℕ). T.held x (register + j)) e ∙ (w.reads_value x lt ∙ ap (entry_number (row rows x)) (sym (col_value n k a)))

    slots_at : (k : ℕ) → is_packed all k ≡ true → IsTrue (are_slots (levels_behind (levels_of T.env ls) (column_at n k)))
    slots_at k e = go (cases_lt k n)
      where
        go : (k < n) ⊎ (n ≤ k) → IsTrue (are_slots (levels_behind (levels_of T.env ls) (column_at n k)))
        go (inl a) =
            let z : k ≡ 0 + k = omega arith in
            subst (λ (c : Column). IsTrue (are_slots (levels_behind (levels_of T.env ls) c))) (sym (col_level n k a)) (slots_behind T.env all 0 ls k w.last a (subst (λ (i : ℕ). is_packed all i ≡ true) z e))
        go (inr a) = subst (λ (c : Column). IsTrue (are_slots (levels_behind (levels_of T.env ls) c))) (sym (col_value n k a)) refl

    one_stands : (r : PackRun) (name : ℕ) → T.base ≤ name → r.first < r.end → r.end ≤ n + 1 → ((k : ℕ) → has r k ≡ true → is_packed all k ≡ true)
        → T.env.factors name ≡ width (writer r name register below) → PackStandsFor T (writer r name register below) (columns_of n r) (levels_of T.env ls) cells rows at
    one_stands r name room some within among factor =
        let m : ℕ = r.end - r.first in
        let reach : r.first + m ≡ r.end = omega (arith, some) in
        record {
          slots = columns_all (λ c. IsTrue (are_slots (levels_behind (levels_of T.env ls) c))) n r.first m (λ j le lt. slots_at j (among j (has_inside r j le (omega (arith, lt, reach)))));
          room = room;
          reads = terms_read T.base (register + r.first) m (omega (arith, reach, within, w.end));
          columns = terms_long (register + r.first) m ∙ sym (columns_long n r.first m);
          factor = factor;
          positions = w.positions;
          numbers = λ x y lt hy.
              let hm : y < m = omega (arith, hy, columns_long n r.first m) in
              let sum : register + r.first + y ≡ register + (r.first + y) = omega arith in
              ap (λ (e : TermTree). value T.env (T.held x) e) (terms_there (register + r.first) m y hm)
              ∙ (ap (T.held x) sum ∙ (held_is (r.first + y) x (omega (arith, hm, reach, within)) lt ∙ ap (entry_number (row rows x)) (sym (columns_there n r.first m y hm))));
          rank = λ x lt e. w.rank e x lt;
        }

    pub packs_stand : (rs : List PackRun) (name : ℕ) → T.base ≤ name → FitRuns (n + 1) rs → ((k : ℕ) → is_packed rs k ≡ true → is_packed all k ≡ true) → HaveCells T.env (writers rs name register below)
        → AllPacksStand T name (writers rs name register below) (map (columns_of n) rs) (levels_of T.env ls) cells rows at
    packs_stand [] name room f among h = tt
    packs_stand (r ∷ rs) name room f among h = (
      omega arith,
      one_stands r name room f.0 f.1 (λ k e. among k (or_left _ _ e)) h.1,
      packs_stand rs (name + 1) (omega (arith, room)) f.2 (λ k e. among k (or_right _ _ e)) h.2,
    )
