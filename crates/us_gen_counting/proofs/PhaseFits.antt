-- Phases of one query, and phases in sequence, are typed in every context with room.
use Rattle.std.proofs.Common.{◌≡◌, ℕ, zero, suc, ◌+◌, ◌<◌, ◌≤◌, Bool, true, false, cond, nat_eq, nat_lt, ◌||◌, refl, sym, ap, ◌∙◌, subst, arith, List, [], ◌∷◌, ◌++◌, length, Option, Some, None, ◌⊎◌, inl, inr}
use Rattle.std.proofs.lemmas.Bool.{cases_lt}
use Rattle.std.proofs.lemmas.Bool.Decides.{nat_tests}
use Rattle.us_code.specs.declared.program.Dim.TheVariants as dim
use Rattle.us_code.specs.declared.program.Make.{Make}
use Rattle.us_code.specs.declared.pieces.Columns.{Columns}
use Rattle.us_code.specs.Plain.{Code, End, Let, Load, Var, Put, Set, For, Span, If, When, Order, ◌+++◌, PhaseTree}
use Rattle.us_code.specs.Typing.{Context, BufKind, RegKind, Form, is_some, Typed, TypedPhases, outer, with_reg, kind_of, cell_of, with_bufs, after_phase, after_phases}
use Rattle.us_code.specs.declared.program.CellKind.TheVariants as kind
use Rattle.us_code_laws.proofs.Typings.{typed_append}
use Rattle.us_expr.specs.declared.queries.Axis.{Axis}
use Rattle.us_expr.specs.declared.queries.Axis.TheVariants as axis
use Rattle.us_expr.specs.Tree.{Tree}
use Rattle.us_expr.specs.Value.{IsWithin}
use Rattle.us_format.specs.Matrix.{Shape, indices}
use Rattle.us_format.specs.Declaration.{axis_of}
use Rattle.us_format.specs.Rules.{is_index}
use Rattle.us_gen.specs.Rooms.{FreshFrom}
use Rattle.us_gen_query.specs.Filling.{column, width, fill, Visible}
use Rattle.us_gen_query.specs.Filling as filling
use Rattle.us_gen_query.specs.Counting.{enumerate, sum}
use Rattle.us_gen_query.specs.Reordering.{reorder}
use Rattle.us_gen_query.proofs.FillsFit.{fill_typed}
use Rattle.us_gen_query.proofs.CountsFit.{enumerate_typed, sum_typed}
use Rattle.us_gen_query.proofs.ReordersFit.{reorder_typed}
use Rattle.us_gen_counting.specs.Phases.{words, one_word, counts, below, index_column, key, key_makes, key_fill, count_makes, sum_phase, enumerate_phase, reorder_phase}
use Rattle.us_gen_counting.specs.Rooms.{RoomFrom, SeesColumns, SeesMore, Fit}
use Rattle.us_gen_counting.proofs.Makes.{Rising, Under, FitMakes, Kinds, Made, makes_fit, rising_if, under_if, fit_if, kinds_if, kind_if}

-- ---- contexts

-- a block changes no buffer, dim or source that is visible
pub record SameOutside (g h : Context) : Type 0 where
  pub bufs : h.bufs ≡ g.bufs
  pub dims : h.dims ≡ g.dims
  pub sources : h.sources ≡ g.sources

same_with : (g h : Context) (r : ℕ) (v : Bool) (k : _) → SameOutside (with_reg g r v k) h → SameOutside g h
same_with g h r v k s = record { bufs = s.bufs; dims = s.dims; sources = s.sources }

pub outer_same : (g : Context) (c : Code) → SameOutside g (outer g c)
outer_same g End = record { bufs = refl; dims = refl; sources = refl }
outer_same g (Let r e rest) = same_with g _ r false (kind_of g e) (outer_same (with_reg g r false (kind_of g e)) rest)
outer_same g (Load r b at rest) = same_with g _ r false (cell_of g b) (outer_same (with_reg g r false (cell_of g b)) rest)
outer_same g (Var r e rest) = same_with g _ r true kind.Word (outer_same (with_reg g r true kind.Word) rest)
outer_same g (Put r e rest) = outer_same g rest
outer_same g (Set b at e rest) = outer_same g rest
outer_same g (For r d body rest) = outer_same g rest
outer_same g (Span r a b d body rest) = outer_same g rest
outer_same g (If l eq r body given other rest) = outer_same g rest
outer_same g (When e d r body given other rest) = outer_same g rest
outer_same g (Order b keys rest) = outer_same g rest

-- what is visible has a lower number
pub seen_below : (g : Context) (n b : ℕ) (k : BufKind) → RoomFrom g n → g.bufs b ≡ Some k → b < n
seen_below g n b k room seen = case (cases_lt b n)
  where
    case : (b < n) ⊎ (n ≤ b) → b < n
    case (inl lt) = lt
    case (inr le) = let z : ◌≡◌ {A = Option BufKind} None (Some k) = sym (room.bufs b le) ∙ seen in absurd cc

pub record PhaseFits (g : Context) (ms : List Make) (p : PhaseTree) (low high : ℕ) : Type 0 where
  pub fit : Fit g (p ∷ []) low high
  pub kinds : Kinds (after_phases g (p ∷ [])).bufs ms

pub phase_fits : (g : Context) (ms : List Make) (body : Code) (low high : ℕ) → RoomFrom g low → low ≤ high → Rising low ms → Under high ms → FitMakes g ms
    → ((h : Context) → Made g low high ms h → FreshFrom h 0 → Typed h body) → PhaseFits g ms (record { makes = ms; body = body; lines = [] }) low high
phase_fits g ms body low high room le r u f go =
    let t = makes_fit g low high ms r u room.bufs f in
    let h = with_bufs g ms in
    let x : Made g low high ms h = t.1 in
    let fresh : FreshFrom h 0 = record { none = λ y ly. ap (λ (f : ℕ → Option RegKind). f y) x.regs ∙ room.regs y } in
    let o = outer_same h body in
    record {
      fit = record {
        typed = (t.0, go h x fresh, tt, tt);
        more = record {
          room = record {
            regs = λ y. refl;
            bufs = λ b lb. ap (λ (f : ℕ → Option BufKind). f b) o.bufs ∙ (x.above b lb ∙ room.bufs b (omega (arith, lb, le)));
            dims = λ d ld. ap (λ (f : ℕ → Option Form). f d) (o.dims ∙ x.dims) ∙ room.dims d (omega (arith, ld, le));
          };
          sources = o.sources ∙ x.sources;
          bufs = λ b lb. ap (λ (f : ℕ → Option BufKind). f b) o.bufs ∙ x.below b lb;
          dims = λ d ld. ap (λ (f : ℕ → Option Form). f d) (o.dims ∙ x.dims);
        };
      };
      kinds = subst (λ (bufs : ℕ → Option BufKind). Kinds bufs ms) (sym o.bufs) x.kinds;
    }

-- ---- the column of an argument

same_nat : (k : ℕ) → nat_eq k k ≡ true
same_nat k = grind (arith, nat_tests)

room_self : (x : Bool) (k : ℕ) → x || nat_eq k k ≡ true
room_self true k = refl
room_self false k = same_nat k

module _ (g : Context) (cs : Columns) (n : ℕ) (room : RoomFrom g n) (seen : SeesColumns g cs) (plain : cs.vars.items ≡ []) where
  pub column_below : (a : Axis) → index_column cs a < n
  column_below axis.Rows = seen_below g n cs.i (filling.words cs) room seen.i
  column_below axis.Cols = seen_below g n cs.j (filling.words cs) room seen.j

  pub key_below : (e : Tree) → key cs e n < n + 1
  key_below e = case (is_index e)
    where
      case : (b : Bool) → cond b (index_column cs (axis_of e)) n < n + 1
      case true = omega (arith, column_below (axis_of e))
      case false = omega arith

  narrow : length cs.vars.items ≡ 0
  narrow = ap (λ (xs : List ℕ). length xs) plain

  module _ (high : ℕ) (ms : List Make) (h : Context) (x : Made g n high ms h) where
    row_seen : h.bufs cs.i ≡ Some (filling.words cs)
    row_seen = x.below cs.i (column_below axis.Rows) ∙ seen.i

    col_seen : h.bufs cs.j ≡ Some (filling.words cs)
    col_seen = x.below cs.j (column_below axis.Cols) ∙ seen.j

    pub index_seen : (a : Axis) → h.bufs (index_column cs a) ≡ Some (filling.words cs)
    index_seen axis.Rows = row_seen
    index_seen axis.Cols = col_seen

    pub visible : Visible h cs
    visible = record { count = ap (λ (f : ℕ → Option Form). is_some (f cs.count)) x.dims ∙ seen.count; columns = at }
      where
        at : (c : ℕ) → c < width cs → h.bufs (column cs c) ≡ Some (filling.words cs)
        at zero lt = row_seen
        at (suc zero) lt = col_seen
        at (suc (suc c)) lt = absurd (omega (arith, lt, narrow))

    module _ (e : Tree) (here : is_index e ≡ false → h.bufs n ≡ Some (filling.words cs)) where
      pub key_seen : h.bufs (key cs e n) ≡ Some (filling.words cs)
      key_seen = case (is_index e) refl
        where
          case : (b : Bool) → is_index e ≡ b → h.bufs (cond b (index_column cs (axis_of e)) n) ≡ Some (filling.words cs)
          case true p = index_seen (axis_of e)
          case false p = here p

      pub key_typed : (rest : Code) → FreshFrom h 0 → IsWithin 0 e → Typed h rest → Typed h (key_fill cs e n rest)
      key_typed rest fresh within t = case (is_index e) refl
        where
          case : (b : Bool) → is_index e ≡ b → Typed h (cond b rest (fill cs e n (n + 8) +++ rest))
          case true p = t
          case false p =
              typed_append h (fill cs e n (n + 8)) rest
              (fill_typed h cs e n (n + 8) (record { none = λ y ly. fresh.none y (omega arith) }) visible (here p) (subst (λ (k : ℕ). IsWithin k e) (sym narrow) within)) t

  -- ---- the new buffers of a count

  counts_rise : (e : Tree) (last : Make) → last.buf ≡ n + 3 → Rising n (key_makes cs e n (count_makes cs n last))
  counts_rise e last at = rising_if (words n cs) (count_makes cs n last) (is_index e) n (omega arith) (omega arith, (omega arith, (omega (arith, at), tt)))

  counts_under : (e : Tree) (last : Make) → last.buf ≡ n + 3 → Under (n + 64) (key_makes cs e n (count_makes cs n last))
  counts_under e last at = under_if (words n cs) (count_makes cs n last) (is_index e) (n + 64) (omega arith) (omega arith, (omega arith, (omega (arith, at), tt)))

  counts_fit : (e : Tree) (last : Make) → FitMakes g (last ∷ []) → FitMakes g (key_makes cs e n (count_makes cs n last))
  counts_fit e last f =
      fit_if (words n cs) (count_makes cs n last) (is_index e) g
      (seen.count, refl, refl, (seen.count, seen.count, room_self _ cs.count, (seen.count, refl, refl, f)))

  -- ---- the phases

  pub sum_fits : (e : Tree) → IsWithin 0 e → PhaseFits g (key_makes cs e n (count_makes cs n (words (n + 3) cs))) (sum_phase cs e n) n (n + 64)
  sum_fits e within =
      let more = count_makes cs n (words (n + 3) cs) in
      let ms = key_makes cs e n more in
      phase_fits g ms (key_fill cs e n (sum cs (key cs e n) (n + 1) (n + 2) (n + 3) (n + 44))) n (n + 64) room (omega arith)
      (counts_rise e (words (n + 3) cs) refl) (counts_under e (words (n + 3) cs) refl) (counts_fit e (words (n + 3) cs) (seen.count, refl, refl, tt))
      (λ h x fresh.
      let here : is_index e ≡ false → h.bufs n ≡ Some (filling.words cs) = λ p. kind_if (words n cs) more (is_index e) h.bufs p x.kinds in
      let k = kinds_if (words n cs) more (is_index e) h.bufs x.kinds in
      key_typed (n + 64) ms h x e here (sum cs (key cs e n) (n + 1) (n + 2) (n + 3) (n + 44)) fresh within
      (sum_typed h cs (key cs e n) (n + 1) (n + 2) (n + 3) (n + 44) (record { none = λ y ly. fresh.none y (omega arith) }) (visible (n + 64) ms h x) (key_seen (n + 64) ms h x e here) k.0 k.1.0 k.1.1.0
      (λ q. omega (arith, q, key_below e))))

  pub enumerate_fits : (e : Tree) → IsWithin 0 e → PhaseFits g (key_makes cs e n (count_makes cs n (one_word (n + 3)))) (enumerate_phase cs e n) n (n + 64)
  enumerate_fits e within =
      let more = count_makes cs n (one_word (n + 3)) in
      let ms = key_makes cs e n more in
      phase_fits g ms (key_fill cs e n (enumerate cs (key cs e n) (n + 1) (n + 2) (n + 3) (n + 44))) n (n + 64) room (omega arith)
      (counts_rise e (one_word (n + 3)) refl) (counts_under e (one_word (n + 3)) refl) (counts_fit e (one_word (n + 3)) (refl, refl, refl, tt))
      (λ h x fresh.
      let here : is_index e ≡ false → h.bufs n ≡ Some (filling.words cs) = λ p. kind_if (words n cs) more (is_index e) h.bufs p x.kinds in
      let k = kinds_if (words n cs) more (is_index e) h.bufs x.kinds in
      key_typed (n + 64) ms h x e here (enumerate cs (key cs e n) (n + 1) (n + 2) (n + 3) (n + 44)) fresh within
      (enumerate_typed h cs (key cs e n) (n + 1) (n + 2) (n + 3) (n + 44) (record { none = λ y ly. fresh.none y (omega arith) }) (visible (n + 64) ms h x) (key_seen (n + 64) ms h x e here) k.0 k.1.0 k.1.1.0
      (λ q. omega (arith, q, key_below e)) (λ q. omega (arith, q, column_below axis.Rows)) (λ q. omega (arith, q, column_below axis.Cols))))

  pub reorder_fits : (s : Shape) (a : Axis) → PhaseFits g (counts n (indices a s) ∷ below (n + 1) (indices a s) (indices a s) ∷ words (n + 2) cs ∷ below (n + 11) (indices a s) (indices a s) ∷ []) (reorder_phase s cs a n) n (n + 64)
  reorder_fits s a =
      let A = indices a s in
      let ms = counts n A ∷ below (n + 1) A A ∷ words (n + 2) cs ∷ below (n + 11) A A ∷ [] in
      phase_fits g ms (reorder cs (index_column cs a) (dim.Number A) n (n + 11) (n + 1) (n + 2) (n + 16)) n (n + 64) room (omega arith)
      (omega arith, (omega arith, (omega arith, (omega arith, tt)))) (omega arith, (omega arith, (omega arith, (omega arith, tt))))
      (refl, refl, refl, (refl, refl, room_self (nat_lt 0 A) A, (seen.count, refl, refl, (refl, refl, room_self (nat_lt 0 A) A, tt))))
      (λ h x fresh.
      let k = x.kinds in
      reorder_typed h cs (index_column cs a) (dim.Number A) n (n + 11) (n + 1) (n + 2) (n + 16) (record { none = λ y ly. fresh.none y (omega arith) }) (visible (n + 64) ms h x) refl (index_seen (n + 64) ms h x a)
      k.0 k.1.1.1.0 k.1.0 k.1.1.0 (λ q. omega (arith, q)))

-- ---- phases in sequence

pub after_both : (g : Context) (a b : List PhaseTree) → after_phases g (a ++ b) ≡ after_phases (after_phases g a) b
after_both g [] b = refl
after_both g (p ∷ ps) b = after_both (after_phase g p) ps b

pub typed_both : (g : Context) (a b : List PhaseTree) → TypedPhases g a → TypedPhases (after_phases g a) b → TypedPhases g (a ++ b)
typed_both g [] b t u = u
typed_both g (p ∷ ps) b t u = (t.0, t.1, t.2, typed_both (after_phase g p) ps b t.3 u)

pub more_both : (g h k : Context) (low mid high : ℕ) → low ≤ mid → SeesMore g h low mid → SeesMore h k mid high → SeesMore g k low high
more_both g h k low mid high le x y = record {
  room = y.room;
  sources = y.sources ∙ x.sources;
  bufs = λ b lt. y.bufs b (omega (arith, lt, le)) ∙ x.bufs b lt;
  dims = λ d lt. y.dims d (omega (arith, lt, le)) ∙ x.dims d lt;
}

pub fit_both : (g : Context) (a b : List PhaseTree) (low mid high : ℕ) → low ≤ mid → Fit g a low mid → Fit (after_phases g a) b mid high → Fit g (a ++ b) low high
fit_both g a b low mid high le x y = record {
  typed = typed_both g a b x.typed y.typed;
  more = subst (λ (k : Context). SeesMore g k low high) (sym (after_both g a b)) (more_both g (after_phases g a) (after_phases (after_phases g a) b) low mid high le x.more y.more);
}
