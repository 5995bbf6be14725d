-- The phases that select are typed in every context with room.
use Rattle.std.proofs.Common.{◌≡◌, ℕ, zero, suc, ◌+◌, ◌<◌, true, refl, sym, ap, ◌∙◌, subst, arith, List, [], ◌∷◌, Option, Some}
use Rattle.us_code.specs.declared.program.CellKind.TheVariants as kind
use Rattle.us_code.specs.declared.pieces.Columns.{Columns}
use Rattle.us_code.specs.Typing.{Context, BufKind, Form, Of, is_some, outer, after_phases}
use Rattle.us_code_laws.proofs.Sequence.{put_same, put_other}
use Rattle.us_expr.specs.declared.queries.Cond.{Cond}
use Rattle.us_gen.specs.Rooms.{FreshFrom}
use Rattle.us_gen_query.specs.declared.selecting.Test.{Test}
use Rattle.us_gen_query.specs.Filling.{words}
use Rattle.us_gen_query.specs.Selecting.{AreTests, count_chosen, copy_chosen}
use Rattle.us_gen_query.proofs.SelectsFit.{count_chosen_typed, copy_chosen_typed}
use Rattle.us_gen_counting.specs.Phases.{column_of, count_phases}
use Rattle.us_gen_counting.specs.Phases as counted
use Rattle.us_gen_counting.specs.Rooms.{RoomFrom, SeesColumns, Fit}
use Rattle.us_gen_counting.specs.Selected.{part_tests, tests, count_phase, copy_phase, both, base, select_phases, IsSelected}
use Rattle.us_gen_counting.specs.Selects.{SelectTyped}
use Rattle.us_gen_counting.proofs.Makes.{Made}
use Rattle.us_gen_counting.proofs.PhaseFits.{PhaseFits, phase_fits, outer_same, seen_below, fit_both, after_both}
use Rattle.us_gen_counting.proofs.ListFits.{ListFits, list_fits, columns_stay, dim_below, variable_seen}

tests_seen : (g : Context) (cs : Columns) (column : ℕ → ℕ) (conds : List Cond) (k : ℕ) → ((v : ℕ) → g.bufs (column v) ≡ Some (words cs)) → AreTests g cs (part_tests column conds k)
tests_seen g cs column [] k h = tt
tests_seen g cs column (c ∷ conds) zero h = (h c.var, tt)
tests_seen g cs column (c ∷ conds) (suc k) h = (h c.var, tests_seen g cs column conds k h)

-- ---- the phase that counts

module _ (g : Context) (cs : Columns) (ts : List Test) (b : ℕ) (room : RoomFrom g b) (seen : SeesColumns g cs) (are : AreTests g cs ts) where
  fresh : FreshFrom g (b + 8)
  fresh = record { none = λ y ly. room.regs y }

  count_fits : Fit g (count_phase cs ts b ∷ []) b (b + 1)
  count_fits =
      let o = outer_same g (count_chosen cs ts (b + 8)) in
      let h = outer g (count_chosen cs ts (b + 8)) in
      record {
        typed = (tt, count_chosen_typed g cs ts (b + 8) fresh seen.count are, ((ap (λ (f : ℕ → Option Form). f b) o.dims ∙ room.dims b (omega arith), ap is_some (put_same g.regs (b + 8) (Some record { is_var = true; kind = kind.Word }))), tt), tt);
        more = record {
          room = record {
            regs = λ y. refl;
            bufs = λ y ly. ap (λ (f : ℕ → Option BufKind). f y) o.bufs ∙ room.bufs y (omega (arith, ly));
            dims = λ d ld. put_other h.dims b (Some Of) d (λ q. omega (arith, q, ld)) ∙ (ap (λ (f : ℕ → Option Form). f d) o.dims ∙ room.dims d (omega (arith, ld)));
          };
          sources = o.sources;
          bufs = λ y ly. ap (λ (f : ℕ → Option BufKind). f y) o.bufs;
          dims = λ d ld. put_other h.dims b (Some Of) d (λ q. omega (arith, q, ld)) ∙ ap (λ (f : ℕ → Option Form). f d) o.dims;
        };
      }

  counted_seen : is_some ((after_phases g (count_phase cs ts b ∷ [])).dims b) ≡ true
  counted_seen = ap is_some (put_same (outer g (count_chosen cs ts (b + 8))).dims b (Some Of))

-- ---- the phase that copies

module _ (g : Context) (cs : Columns) (ts : List Test) (to : Columns) (b : ℕ) (room : RoomFrom g (b + 1)) (seen : SeesColumns g cs) (are : AreTests g cs ts) (new : IsSelected to b) (counted_in : is_some (g.dims b) ≡ true) where
  dim_seen : is_some (g.dims to.count) ≡ true
  dim_seen = ap (λ (d : ℕ). is_some (g.dims d)) new.count ∙ counted_in

  tests_stay : (h : Context) (ms : _) → Made g (b + 1) (b + 64) ms h → (xs : List Test) → AreTests g cs xs → AreTests h cs xs
  tests_stay h ms x [] y = tt
  tests_stay h ms x (t ∷ xs) y = (x.below t.buf (seen_low t.buf y.0) ∙ y.0, tests_stay h ms x xs y.1)
    where
      seen_low : (c : ℕ) → g.bufs c ≡ Some (words cs) → c < b + 1
      seen_low c e = seen_below g (b + 1) c (words cs) room e

  copy_fits : PhaseFits g (counted.words to.i to ∷ counted.words to.j to ∷ counted.words to.v to ∷ []) (copy_phase cs ts to b) (b + 1) (b + 64)
  copy_fits =
      let ms = counted.words to.i to ∷ counted.words to.j to ∷ counted.words to.v to ∷ [] in
      phase_fits g ms (copy_chosen cs ts to (b + 8)) (b + 1) (b + 64) room (omega arith)
      (omega (arith, new.i), (omega (arith, new.i, new.j), (omega (arith, new.j, new.v), tt))) (omega (arith, new.i), (omega (arith, new.j), (omega (arith, new.v), tt)))
      (dim_seen, refl, refl, (dim_seen, refl, refl, (dim_seen, refl, refl, tt)))
      (λ h x fresh.
      let low : (c : ℕ) → g.bufs c ≡ Some (words cs) → h.bufs c ≡ Some (words cs) = λ c e. x.below c (seen_below g (b + 1) c (words cs) room e) ∙ e in
      copy_chosen_typed h cs ts to (b + 8) (record { none = λ y ly. fresh.none y (omega arith) }) (ap (λ (f : ℕ → Option Form). is_some (f cs.count)) x.dims ∙ seen.count) (ap (λ (f : ℕ → Option Form). is_some (f to.count)) x.dims ∙ dim_seen)
      (tests_stay h ms x ts are) (low cs.i seen.i) (low cs.j seen.j) (low cs.v seen.v) x.kinds.0 x.kinds.1.0 x.kinds.1.1.0)

-- ---- all

tests_later : (g h : Context) (cs : Columns) (n : ℕ) → RoomFrom g n → ((b : ℕ) → b < n → h.bufs b ≡ g.bufs b) → (xs : List Test) → AreTests g cs xs → AreTests h cs xs
tests_later g h cs n room same [] y = tt
tests_later g h cs n room same (t ∷ xs) y = (same t.buf (seen_below g n t.buf (words cs) room y.0) ∙ y.0, tests_later g h cs n room same xs y.1)

pub select_typed : SelectTyped
select_typed g s cs to head conds k n room seen plain ok new =
    let b = base head n in
    let ts = tests cs head conds k n in
    let first : ListFits g s cs head n = list_fits g s cs head n room seen plain ok in
    let h = after_phases g (count_phases s cs head n) in
    let are : AreTests h cs ts = tests_seen h cs (λ v. column_of head v n cs.i) conds k (λ v. variable_seen h.bufs cs head v n cs.i first.columns.i first.seen) in
    let second : Fit h (count_phase cs ts b ∷ []) b (b + 1) = count_fits h cs ts b first.fit.more.room first.columns are in
    let i = after_phases h (count_phase cs ts b ∷ []) in
    let columns : SeesColumns i cs = columns_stay h i cs b first.fit.more.room first.columns second.more.bufs second.more.dims (dim_below h b cs.count first.fit.more.room first.columns.count) in
    let third : PhaseFits i (counted.words to.i to ∷ counted.words to.j to ∷ counted.words to.v to ∷ []) (copy_phase cs ts to b) (b + 1) (b + 64)
    = copy_fits i cs ts to b second.more.room columns (tests_later h i cs b first.fit.more.room second.more.bufs ts are) new (counted_seen h cs ts b first.fit.more.room first.columns are) in
    let j = after_phases i (copy_phase cs ts to b ∷ []) in
    let last : Fit h (both cs ts to b) b (b + 64) = fit_both h (count_phase cs ts b ∷ []) (copy_phase cs ts to b ∷ []) b (b + 1) (b + 64) (omega arith) second third.fit in
    let end : after_phases g (select_phases s cs head conds k to n) ≡ j = after_both g (count_phases s cs head n) (both cs ts to b) in (
      fit_both g (count_phases s cs head n) (both cs ts to b) n b (b + 64) (omega arith) first.fit last,
      subst (λ (x : Context). SeesColumns x to) (sym end) record {
        count = ap is_some (third.fit.more.dims to.count (omega (arith, new.count))) ∙ (ap (λ (d : ℕ). is_some (i.dims d)) new.count ∙ counted_seen h cs ts b first.fit.more.room first.columns are);
        i = third.kinds.0;
        j = third.kinds.1.0;
        v = third.kinds.1.1.0;
      },
    )
