-- The phases of queries, one after the other, are typed in every context with room.
use Rattle.std.specs.Prelude.{All}
use Rattle.std.proofs.Common.{◌≡◌, ℕ, suc, ◌+◌, ◌*◌, ◌<◌, ◌≤◌, Bool, true, false, cond, nat_eq, refl, sym, ap, ◌∙◌, subst, arith, List, [], ◌∷◌, ◌++◌, length, get_or, Option, Some, ◌⊎◌, inl, inr}
use Rattle.std.proofs.lemmas.Bool.{cases_lt}
use Rattle.std.proofs.lemmas.List.Elements.{All-nil, All-cons, All-head, All-tail}
use Rattle.std.proofs.lemmas.List.FromFn.{length-map-range_with_len, get_or-map-range_with_len}
use Rattle.us_code.specs.declared.program.Dim.TheVariants as dim
use Rattle.us_code.specs.declared.program.CellKind.TheVariants as kind
use Rattle.us_code.specs.declared.pieces.Columns.{Columns}
use Rattle.us_code.specs.Typing.{Context, BufKind, is_some, after_phases}
use Rattle.us_format.specs.Lists.{among}
use Rattle.us_format.specs.Matrix.{Shape}
use Rattle.us_format.specs.Declaration.{Query, SumOf, Enumerate, Reorder, Schedule, defines}
use Rattle.us_gen_query.specs.Filling.{words}
use Rattle.us_gen_query.specs.Counting.{one_word}
use Rattle.us_gen_counting.specs.Phases.{query_phases, count_phases, variable_column, column_of, extents, tables}
use Rattle.us_gen_counting.specs.Rooms.{IsCountable, RoomFrom, SeesColumns, SeesQuery, SeesQueries, Fit, CountsTyped}
use Rattle.us_gen_counting.proofs.PhaseFits.{seen_below, after_both, fit_both}
use Rattle.us_gen_counting.proofs.QueryFits.{query_fits}

-- ---- what stays visible

-- the columns, where what has a number below n stays
pub columns_stay : (g h : Context) (cs : Columns) (n : ℕ) → RoomFrom g n → SeesColumns g cs → ((b : ℕ) → b < n → h.bufs b ≡ g.bufs b) → ((d : ℕ) → d < n → h.dims d ≡ g.dims d) → cs.count < n → SeesColumns h cs
columns_stay g h cs n room seen bufs dims lc = record {
  count = ap is_some (dims cs.count lc) ∙ seen.count;
  i = bufs cs.i (seen_below g n cs.i (words cs) room seen.i) ∙ seen.i;
  j = bufs cs.j (seen_below g n cs.j (words cs) room seen.j) ∙ seen.j;
  v = bufs cs.v (seen_below g n cs.v (words cs) room seen.v) ∙ seen.v;
}

query_stays : (f h : ℕ → Option BufKind) (cs : Columns) (q : Query) (n : ℕ) → ((b : ℕ) → b < n + 64 → h b ≡ f b) → SeesQuery f cs q n → SeesQuery h cs q n
query_stays f h cs (SumOf v e) n same x = same (n + 2) (omega arith) ∙ x
query_stays f h cs (Enumerate v e) n same x = (same (n + 2) (omega arith) ∙ x.0, same (n + 3) (omega arith) ∙ x.1)
query_stays f h cs (Reorder v e) n same x = (same (n + 2) (omega arith) ∙ x.0, ap is_some (same (n + 11) (omega arith)) ∙ x.1)
query_stays f h cs (Schedule l u e lanes) n same x = (same (n + 2) (omega arith) ∙ x.0, same (n + 5) (omega arith) ∙ x.1, same (n + 3) (omega arith) ∙ x.2, ap is_some (same (n + 11) (omega arith)) ∙ x.3)

-- a visible dim has a lower number
pub dim_below : (g : Context) (n d : ℕ) → RoomFrom g n → is_some (g.dims d) ≡ true → d < n
dim_below g n d room seen = case (cases_lt d n)
  where
    case : (d < n) ⊎ (n ≤ d) → d < n
    case (inl lt) = lt
    case (inr le) = let z : ◌≡◌ {A = Bool} false true = sym (ap is_some (room.dims d le)) ∙ seen in absurd cc

-- ---- all queries

pub record ListFits (g : Context) (s : Shape) (cs : Columns) (qs : List Query) (n : ℕ) : Type 0 where
  pub fit : Fit g (count_phases s cs qs n) n (n + 64 * length qs)
  pub columns : SeesColumns (after_phases g (count_phases s cs qs n)) cs
  pub seen : SeesQueries (after_phases g (count_phases s cs qs n)).bufs cs qs n

pub list_fits : (g : Context) (s : Shape) (cs : Columns) (qs : List Query) (n : ℕ) → RoomFrom g n → SeesColumns g cs → cs.vars.items ≡ [] → All IsCountable qs → ListFits g s cs qs n
list_fits g s cs [] n room seen plain ok =
    let here : n ≡ n + 64 * 0 = omega arith in
    record {
      fit = subst (λ (high : ℕ). Fit g [] n high) here record { typed = tt; more = record { room = room; sources = refl; bufs = λ b lt. refl; dims = λ d lt. refl } };
      columns = seen;
      seen = tt;
    }
list_fits g s cs (q ∷ qs) n room seen plain ok =
    let first = query_fits g s cs q n room seen plain (All-head IsCountable q qs ok) in
    let ps = query_phases s cs q n in
    let h = after_phases g ps in
    let columns : SeesColumns h cs = columns_stay g h cs n room seen first.0.more.bufs first.0.more.dims (dim_below g n cs.count room seen.count) in
    let rest : ListFits h s cs qs (n + 64) = list_fits h s cs qs (n + 64) first.0.more.room columns plain (All-tail IsCountable q qs ok) in
    let k = after_phases h (count_phases s cs qs (n + 64)) in
    let end : after_phases g (ps ++ count_phases s cs qs (n + 64)) ≡ k = after_both g ps (count_phases s cs qs (n + 64)) in
    let high : n + 64 + 64 * length qs ≡ n + 64 * suc (length qs) = omega arith in
    record {
      fit = subst (λ (y : ℕ). Fit g (ps ++ count_phases s cs qs (n + 64)) n y) high (fit_both g ps (count_phases s cs qs (n + 64)) n (n + 64) (n + 64 + 64 * length qs) (omega arith) first.0 rest.fit);
      columns = subst (λ (x : Context). SeesColumns x cs) (sym end) rest.columns;
      seen = subst (λ (x : Context). SeesQuery x.bufs cs q n × SeesQueries x.bufs cs qs (n + 64)) (sym end) (query_stays h.bufs k.bufs cs q n rest.fit.more.bufs first.1, rest.seen);
    }

-- ---- in the words of the answer

-- the column of a variable, its extent and its table
own_seen : (bufs : ℕ → Option BufKind) (cs : Columns) (q : Query) (v n : ℕ) → SeesQuery bufs cs q n → bufs (variable_column q v n) ≡ Some (words cs)
own_seen bufs cs (SumOf w e) v n x = x
own_seen bufs cs (Enumerate w e) v n x = x.0
own_seen bufs cs (Reorder w e) v n x = x.0
own_seen bufs cs (Schedule l u e lanes) v n x = case (nat_eq v l)
  where
    case : (b : Bool) → bufs (cond b (n + 2) (n + 5)) ≡ Some (words cs)
    case true = x.0
    case false = x.1

pub variable_seen : (bufs : ℕ → Option BufKind) (cs : Columns) (qs : List Query) (v n d : ℕ) → bufs d ≡ Some (words cs) → SeesQueries bufs cs qs n → bufs (column_of qs v n d) ≡ Some (words cs)
variable_seen bufs cs [] v n d x y = x
variable_seen bufs cs (q ∷ qs) v n d x y = case (among v (defines q)) (own_seen bufs cs q v n y.0) (variable_seen bufs cs qs v (n + 64) d x y.1)
  where
    case : (b : Bool) → bufs (variable_column q v n) ≡ Some (words cs) → bufs (column_of qs v (n + 64) d) ≡ Some (words cs) → bufs (cond b (variable_column q v n) (column_of qs v (n + 64) d)) ≡ Some (words cs)
    case true p r = p
    case false p r = r

extents_seen : (bufs : ℕ → Option BufKind) (cs : Columns) (qs : List Query) (n : ℕ) → SeesQueries bufs cs qs n → All (λ b. bufs b ≡ Some one_word) (extents qs n)
extents_seen bufs cs [] n x = All-nil (λ b. bufs b ≡ Some one_word)
extents_seen bufs cs (SumOf v e ∷ qs) n x = extents_seen bufs cs qs (n + 64) x.1
extents_seen bufs cs (Enumerate v e ∷ qs) n x = All-cons (λ b. bufs b ≡ Some one_word) (n + 3) (extents qs (n + 64)) x.0.1 (extents_seen bufs cs qs (n + 64) x.1)
extents_seen bufs cs (Reorder v e ∷ qs) n x = extents_seen bufs cs qs (n + 64) x.1
extents_seen bufs cs (Schedule l u e lanes ∷ qs) n x = All-cons (λ b. bufs b ≡ Some one_word) (n + 3) (extents qs (n + 64)) x.0.2 (extents_seen bufs cs qs (n + 64) x.1)

tables_seen : (bufs : ℕ → Option BufKind) (cs : Columns) (qs : List Query) (n : ℕ) → SeesQueries bufs cs qs n → All (λ b. is_some (bufs b) ≡ true) (tables qs n)
tables_seen bufs cs [] n x = All-nil (λ b. is_some (bufs b) ≡ true)
tables_seen bufs cs (SumOf v e ∷ qs) n x = tables_seen bufs cs qs (n + 64) x.1
tables_seen bufs cs (Enumerate v e ∷ qs) n x = tables_seen bufs cs qs (n + 64) x.1
tables_seen bufs cs (Reorder v e ∷ qs) n x = All-cons (λ b. is_some (bufs b) ≡ true) (n + 11) (tables qs (n + 64)) x.0.1 (tables_seen bufs cs qs (n + 64) x.1)
tables_seen bufs cs (Schedule l u e lanes ∷ qs) n x = All-cons (λ b. is_some (bufs b) ≡ true) (n + 11) (tables qs (n + 64)) x.0.3 (tables_seen bufs cs qs (n + 64) x.1)

pub counts_typed : CountsTyped
counts_typed g s cs out qs names n room seen plain ok a =
    let x : ListFits g s cs qs n = list_fits g s cs qs n room seen plain ok in
    let h = after_phases g (count_phases s cs qs n) in
    let same : Some (words cs) ≡ Some (words out) = ap (λ (d : ℕ). Some record { len = dim.Name d; cell = kind.Word }) (sym a.count) in
    let f : ℕ → ℕ = λ v. column_of qs v n cs.i in (
      x.fit,
      record {
        columns = record {
          count = ap (λ (d : ℕ). is_some (h.dims d)) a.count ∙ x.columns.count;
          i = ap h.bufs a.i ∙ (x.columns.i ∙ same);
          j = ap h.bufs a.j ∙ (x.columns.j ∙ same);
          v = ap h.bufs a.v ∙ (x.columns.v ∙ same);
        };
        variables = λ v lv.
            let long : length out.vars.items ≡ names = ap (λ (xs : List ℕ). length xs) a.vars ∙ length-map-range_with_len f 0 names in
            let at : get_or out.vars.items v 0 ≡ f v = ap (λ (xs : List ℕ). get_or xs v 0) a.vars ∙ get_or-map-range_with_len f 0 names v v 0 (omega (arith, lv, long)) (omega arith) in
            ap h.bufs at ∙ (variable_seen h.bufs cs qs v n cs.i x.columns.i x.seen ∙ same);
        extents_seen = extents_seen h.bufs cs qs n x.seen;
        tables_seen = tables_seen h.bufs cs qs n x.seen;
      },
    )
