-- One level of the loop has what it needs.
use Rattle.std.proofs.Common.{◌≡◌, ℕ, ◌+◌, ◌*◌, ◌^◌, ◌<◌, List, length, Bool, true, ◌||◌, sym, refl, ap, ◌∙◌, subst, arith}
use Rattle.std.proofs.Math.Path.{fun_ext}
use Rattle.us_format.specs.declared.Kind.{Kind}
use Rattle.us_format.specs.declared.Kind.TheVariants.{Compressed, Listed}
use Rattle.us_format.specs.Kinds.{Level}
use Rattle.us_format.specs.Lists.{head}
use Rattle.us_format.specs.Positions.{Row, count_below, down}
use Rattle.us_format.proofs.Members.{Mem-contains}
use Rattle.us_build.proofs.Counts.{Mem-at}
use Rattle.us_gen_build.specs.declared.levels.Role.{Role}
use Rattle.us_gen_build.specs.declared.levels.Role.TheVariants as role
use Rattle.us_gen_build.specs.Levels.{LevelTree}
use Rattle.us_gen_build.specs.Turns.{Turns, Needs, position_of, inside, has_key, marks_pos, writes_crd}
use Rattle.us_gen_build.specs.Blocks.{PosNeeds, CloseNeeds}
use Rattle.us_running.specs.Laws.{DoNotFall}
use Rattle.us_gen_build_laws.specs.Rows.{no_row, row, NodesRise}
use Rattle.us_gen_build_laws.specs.Ready.{IsReady, IsAtEnd}
use Rattle.us_gen_build_laws.specs.Numbering.{Suits, IsTaken, ArePositions, AreAt, numbered, under}
use Rattle.us_gen_build_laws.proofs.Rising.{ascending-rises}
use Rattle.us_gen_build_laws.proofs.OneLevel.{falls}
use Rattle.us_gen_build_laws.proofs.Levels.{positions-here, at-down}
use Rattle.us_build_loops.specs.Standing.{numbering_of, taken_of, has_starts, has_number, Spreads, StandsFor, StoresValues}

-- a role's position is that of its numbering
pub position-is : (r : Role) (w : ℕ) (at c : ℕ → ℕ) (x : ℕ) → position_of r w at c x ≡ numbered (numbering_of r) w at c x
position-is role.Full w at c x = refl
position-is role.Shared w at c x = refl
position-is role.Single w at c x = refl
position-is role.AtPosition w at c x = refl
position-is role.AtRank w at c x = refl
position-is role.Counted w at c x = refl
position-is role.Marked w at c x = refl
position-is role.Kept w at c x = refl

starts-there : (r : Role) (top : Bool) → marks_pos r top ≡ true → has_starts r ≡ true
starts-there role.Full top e = absurd cc
starts-there role.Shared top e = refl
starts-there role.Single top e = refl
starts-there role.AtPosition top e = absurd cc
starts-there role.AtRank top e = absurd cc
starts-there role.Counted top e = absurd cc
starts-there role.Marked top e = refl
starts-there role.Kept top e = absurd cc

pub writes-number : (r : Role) → writes_crd r ≡ true → has_number r ≡ true
writes-number r e = ap (λ (b : Bool). b || has_starts r) e

module _ (T : Turns) (l : LevelTree) (k : Level) (behind : List Level) (n : ℕ) (rows : List Row) (at : ℕ → ℕ) (entries : length rows ≡ T.count) (ready : IsReady k behind n rows) (ats : AreAt rows at) (st : StandsFor T l k behind n rows at) where
  pub taken-is : IsTaken (taken_of T l) k behind rows
  taken-is = record { suits = st.suits; coordinates = λ x h. st.coordinates x (omega (arith, h, entries)); last = st.last }

  pub inside-is : inside T l at ≡ under (taken_of T l) k.size at
  inside-is = fun_ext (λ x. position-is l.role (T.wide l) at (T.coord l) x) ∙ ap (λ (w : ℕ). under (taken_of T l) w at) st.width

  pub here : ArePositions (taken_of T l) k n rows at
  here = positions-here (taken_of T l) k behind n rows at ready taken-is ats

  pub inside-at : AreAt (down k.kind k.size rows) (inside T l at)
  inside-at = subst (AreAt (down k.kind k.size rows)) (sym inside-is) (at-down (taken_of T l) k behind n rows at ready taken-is ats)

  pub needs : Needs T l.role l at
  needs = record {
    room = st.room;
    reads_coord = st.reads_coord;
    reads_size = st.reads_size;
    is_coord = λ x h e. st.is_coord x h;
    is_size = λ x h e. st.is_size x h e;
    small = λ x h e. subst (λ (w : ℕ). at x * w + T.coord l x < 2 ^ 63) (sym st.width) (st.fits e (at x) (T.coord l x) (here.above x (omega (arith, h, entries))) (here.small x (omega (arith, h, entries))));
    small_at = λ x h. omega (arith, here.above x (omega (arith, h, entries)), st.few);
    in_pos = λ x h e. omega (arith, here.above x (omega (arith, h, entries)), st.pos_length (starts-there l.role l.is_top e));
    is_rank = λ x h e. st.rank x h e;
    in_crd = λ x h e.
        subst (λ (v : ℕ). inside T l at x < v) (sym (st.crd_length (writes-number l.role e)))
        (subst (λ (f : ℕ → ℕ). f x < count_below k.kind k.size n rows) (sym inside-is) (here.within x (omega (arith, h, entries))));
  }

  -- ---- the end of `pos`

  rises-of : (r : Role) → has_starts r ≡ true → (z : Kind) → k.kind ≡ z → Suits (numbering_of r) z → NodesRise rows
  rises-of role.Full h z e s = absurd cc
  rises-of role.AtPosition h z e s = absurd cc
  rises-of role.AtRank h z e s = absurd cc
  rises-of role.Counted h z e s = absurd cc
  rises-of role.Kept h z e s = absurd cc
  rises-of role.Shared h Compressed e s = ready.rises e
  rises-of role.Single h Compressed e s = ready.rises e
  rises-of role.Single h Listed e s = ascending-rises rows (ready.ascends e)
  rises-of role.Marked h Compressed e s = ready.rises e
  rises-of role.Marked h Listed e s = ascending-rises rows (ready.ascends e)
  rises-of _ h _ e s = absurd s

  small-at : (x : ℕ) → x < length rows → head (row rows x).rest < k.size
  small-at x h = ready.small (row rows x) (Mem-contains rows (row rows x) (Mem-at rows x no_row h))

  pub pos-needs : has_starts l.role ≡ true → PosNeeds T l at
  pos-needs e = record {
    two = λ q. omega (arith, st.pos_length e, st.top q);
    rises = λ q. subst (DoNotFall at) entries (falls rows k.size at (T.coord l) small-at ats taken-is.coordinates (rises-of l.role e k.kind refl st.suits));
  }

  pub close-needs : (r : Role) → l.role ≡ r → CloseNeeds T r l at
  close-needs role.Full e = tt
  close-needs role.Shared e = pos-needs (subst (λ (r : Role). has_starts r ≡ true) (sym e) refl)
  close-needs role.Single e = pos-needs (subst (λ (r : Role). has_starts r ≡ true) (sym e) refl)
  close-needs role.AtPosition e = tt
  close-needs role.AtRank e = tt
  close-needs role.Counted e = tt
  close-needs role.Marked e = pos-needs (subst (λ (r : Role). has_starts r ≡ true) (sym e) refl)
  close-needs role.Kept e = tt

-- ---- the level of the values

module _ (T : Turns) (l : LevelTree) (n : ℕ) (rows : List Row) (at : ℕ → ℕ) (entries : length rows ≡ T.count) (end : IsAtEnd n rows) (ats : AreAt rows at) (st : StoresValues T l n rows at) where
  pub at-below : (x : ℕ) → x < T.count → at x < n
  at-below x h =
      let g : x < length rows = omega (arith, h, entries) in
      subst (λ (v : ℕ). v < n) (sym (ats x g)) (end.below (row rows x) (Mem-contains rows (row rows x) (Mem-at rows x no_row g)))

  no-key : (r : Role) → Spreads r → has_key r ≡ true → ⊥
  no-key role.AtPosition p e = cc
  no-key role.AtRank p e = cc
  no-key _ p e = p

  no-mark : (r : Role) (top : Bool) → Spreads r → marks_pos r top ≡ true → ⊥
  no-mark role.AtPosition top p e = cc
  no-mark role.AtRank top p e = cc
  no-mark _ top p e = p

  kept : (r : Role) → Spreads r → (w : ℕ) (c : ℕ → ℕ) (x : ℕ) → position_of r w at c x ≡ at x
  kept role.AtPosition p w c x = refl
  kept role.AtRank p w c x = refl
  kept _ p w c x = absurd p

  pub value-needs : Needs T l.role l at
  value-needs = record {
    room = st.room;
    reads_coord = st.reads_coord;
    reads_size = st.reads_size;
    is_coord = λ x h e. absurd (no-key l.role st.spreads e);
    is_size = λ x h e. absurd (no-key l.role st.spreads e);
    small = λ x h e. absurd (no-key l.role st.spreads e);
    small_at = λ x h. omega (arith, at-below x h, st.few);
    in_pos = λ x h e. absurd (no-mark l.role l.is_top st.spreads e);
    is_rank = λ x h e. st.rank x h e;
    in_crd = λ x h e. subst (λ (v : ℕ). position_of l.role (T.wide l) at (T.coord l) x < v) (sym st.crd_length) (subst (λ (v : ℕ). v < n) (sym (kept l.role st.spreads (T.wide l) (T.coord l) x)) (at-below x h));
  }

  pub value-closes : (r : Role) → Spreads r → CloseNeeds T r l at
  value-closes role.AtPosition p = tt
  value-closes role.AtRank p = tt
  value-closes _ p = absurd p
