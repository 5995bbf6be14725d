-- Phases of one query leave what it counts.
use Rattle.std.specs.List.{range_with_len}
use Rattle.std.proofs.Common.{◌≡◌, ℕ, ◌+◌, ◌*◌, ◌^◌, ◌<◌, ◌≤◌, Bool, true, false, cond, refl, ap, ◌∙◌, arith, List, [], ◌∷◌, map, length, replicate, pos, ℤ}
use Rattle.std.proofs.lemmas.List.{length-replicate}
use Rattle.us_code.specs.declared.program.Dim.TheVariants as dim
use Rattle.us_code.specs.declared.program.Make.{Make}
use Rattle.us_code.specs.declared.pieces.Columns.{Columns}
use Rattle.us_code.specs.Plain.{Code, PhaseTree}
use Rattle.us_code.specs.Run.{State}
use Rattle.us_code.specs.Runs.{World, begin, phases}
use Rattle.us_code_laws.specs.Does.{Does}
use Rattle.us_code_laws.proofs.Does.{do_weaker}
use Rattle.us_expr.specs.declared.queries.Axis.{Axis}
use Rattle.us_expr.specs.declared.queries.Axis.TheVariants as axis
use Rattle.us_expr.specs.Tree.{Tree, node_count}
use Rattle.us_expr.specs.Value.{IsWithin}
use Rattle.us_format.specs.Matrix.{Entry, Shape, index_at, indices}
use Rattle.us_format.specs.Declaration.{axis_of}
use Rattle.us_format.specs.Queries.{sum_at, enumerate_at, enumerate_extent, rank_of, order_cell}
use Rattle.us_format.specs.Reading.{limit}
use Rattle.us_format.specs.Rules.{is_index}
use Rattle.us_gen.specs.Goes.{Keeps, Leads, after}
use Rattle.us_gen.proofs.Going.{leads_none, Body, phase_leads, looser}
use Rattle.us_gen_query.specs.Counting.{enumerate, sum}
use Rattle.us_gen_query.specs.Reordering.{reorder}
use Rattle.us_gen_counting.specs.Entries.{HoldEntries}
use Rattle.us_gen_counting.specs.Phases.{words, one_word, counts, below, index_column, key, key_makes, key_fill, count_makes, sum_phase, enumerate_phase, reorder_phase}
use Rattle.us_gen_counting.specs.Runs.{IsGiven}
use Rattle.us_gen_counting.proofs.Makes.{Rising, Small, Zeroed, makes_zero, rising_if, small_if, zeros_if, zero_if, length_if}
use Rattle.us_gen_counting.proofs.Keys.{are_zeros, points, unused, key_does}
use Rattle.us_gen_counting.proofs.Blocks.{IsEnumerated, IsSummed, IsReordered, enumerate_is, sum_is, reorder_is}

-- ---- phases without dim lines

pub leads_looser : (low m n : ℕ) (ps : List PhaseTree) (w : World) (Q : World → Type 0) → m ≤ n → Leads low m w (phases ps w) Q → Leads low n w (phases ps w) Q
leads_looser low m n ps w Q le x = record { end = x.end; arrives = looser low low m n ps w x.end (omega arith) le x.arrives; post = x.post }

-- what a block leaves: Q of the buffers, at a cost, and the buffers below low
pub record Leaves (low cost : ℕ) (Q : (ℕ → List ℤ) → Type 0) (s u : State) : Type 0 where
  pub holds : Q u.bufs
  pub below : (b : ℕ) → b < low → u.bufs b ≡ s.bufs b
  pub steps : u.steps ≤ s.steps + cost

pub phase_leaves : (low many cost : ℕ) (ms : List Make) (body : Code) (w : World) (Q : (ℕ → List ℤ) → Type 0) → length ms ≤ many → Rising low ms → Small w.env ms
    → ((u : World) → Zeroed low ms w u → Keeps low w u → Does u.env body (begin u) (Leaves low cost Q (begin u)))
    → Leads low (many + cost) w (phases (record { makes = ms; body = body; lines = [] } ∷ []) w) (λ u. Q u.bufs)
phase_leaves low many cost ms body w Q few r s go =
    let R : World → Type 0 = λ u. Q u.bufs in
    let p : PhaseTree = record { makes = ms; body = body; lines = [] } in
    leads_looser low (length ms + cost + 0) (many + cost) (p ∷ []) w R (omega (arith, few))
    (phase_leads low (length ms) cost 0 p w (Zeroed low ms w) R (makes_zero low low ms w (omega arith) r s)
    (λ u z keeps.
    do_weaker u.env body (begin u) (Leaves low cost Q (begin u)) (Body low cost 0 [] R u)
    (λ v d. record { steps = d.steps; bufs = d.below; then = leads_none low (after u v) R d.holds })
    (go u z keeps)))

-- the column and the extent of an enumeration, and the column and the table of a reordering
pub record IsCounted (m es : List Entry) (e : Tree) (n : ℕ) (bufs : ℕ → List ℤ) : Type 0 where
  pub column : bufs (n + 2) ≡ map (λ x. pos (enumerate_at m e x)) es
  pub extent : bufs (n + 3) ≡ pos (enumerate_extent m e) ∷ []

pub record IsRanked (s : Shape) (m es : List Entry) (a : Axis) (n : ℕ) (bufs : ℕ → List ℤ) : Type 0 where
  pub column : bufs (n + 2) ≡ map (λ x. pos (rank_of m s a (index_at a x))) es
  pub table : bufs (n + 11) ≡ map (λ x. pos (order_cell m s a x)) (range_with_len 0 (indices a s))

-- ---- the phases

module _ (w : World) (s : Shape) (cs : Columns) (m es : List Entry) (n : ℕ) (given : IsGiven w cs s m es n) where
  pub held_later : (u : World) → Keeps n w u → HoldEntries u.env u.bufs cs m es
  held_later u k = record {
    shuffled = given.held.shuffled;
    count = k.dims cs.count given.count ∙ given.held.count;
    rows = k.bufs cs.i given.i ∙ given.held.rows;
    cols = k.bufs cs.j given.j ∙ given.held.cols;
    values = k.bufs cs.v given.v ∙ given.held.values;
  }

  few : length es < 2 ^ 62
  few = omega (arith, given.few)

  entries_small : w.env.dims cs.count ≤ 67108865
  entries_small = omega (arith, given.few, given.held.count)

  zeros_long : (xs : List ℤ) → xs ≡ replicate (w.env.dims cs.count) (pos 0) → length xs ≡ length es
  zeros_long xs e = ap (λ (ys : List ℤ). length ys) e ∙ (length-replicate (w.env.dims cs.count) (pos 0) ∙ given.held.count)

  column_low : (a : Axis) → index_column cs a < n
  column_low axis.Rows = given.i
  column_low axis.Cols = given.j

  module _ (e : Tree) (within : IsWithin 0 e) (nodes : node_count e ≤ 32) where
    key_low : key cs e n < n + 1
    key_low = case (is_index e)
      where
        case : (b : Bool) → cond b (index_column cs (axis_of e)) n < n + 1
        case true = omega (arith, column_low (axis_of e))
        case false = omega arith

    rises : (last : Make) → last.buf ≡ n + 3 → Rising n (key_makes cs e n (count_makes cs n last))
    rises last at = rising_if (words n cs) (count_makes cs n last) (is_index e) n (omega arith) (omega arith, (omega arith, (omega (arith, at), tt)))

    pub sum_leads : Leads n (4 + (length es * 19 + 6)) w (phases (sum_phase cs e n ∷ []) w) (λ u. u.bufs (n + 2) ≡ map (λ x. pos (sum_at m e x)) es)
    sum_leads =
        let more = count_makes cs n (words (n + 3) cs) in
        phase_leaves n 4 (length es * 19 + 6) (key_makes cs e n more) (key_fill cs e n (sum cs (key cs e n) (n + 1) (n + 2) (n + 3) (n + 44))) w (λ bufs. bufs (n + 2) ≡ map (λ x. pos (sum_at m e x)) es)
        (length_if (words n cs) more (is_index e)) (rises (words (n + 3) cs) refl)
        (small_if (words n cs) more (is_index e) w.env (entries_small, (entries_small, (entries_small, (entries_small, tt)))))
        (λ u z keeps.
        let h = held_later u keeps in
        let zs = zeros_if (words n cs) more (is_index e) w.env u.bufs z.zeros in
        let Q : State → Type 0 = Leaves n (length es * 19 + 6) (λ bufs. bufs (n + 2) ≡ map (λ x. pos (sum_at m e x)) es) (begin u) in
        key_does u.env cs es e n (begin u) given.plain h.count (record { rows = h.rows; cols = h.cols }) given.i given.j (points s m es given.matrix h.shuffled given.rows given.cols) within nodes
        (sum cs (key cs e n) (n + 1) (n + 2) (n + 3) (n + 44)) Q (λ p. zeros_long (u.bufs n) (zero_if (words n cs) more (is_index e) w.env u.bufs p z.zeros))
        (λ v k.
        let p1 : v.bufs (n + 1) ≡ u.bufs (n + 1) = k.others (n + 1) (λ q. omega (arith, q)) in
        let p2 : v.bufs (n + 2) ≡ u.bufs (n + 2) = k.others (n + 2) (λ q. omega (arith, q)) in
        let p3 : v.bufs (n + 3) ≡ u.bufs (n + 3) = k.others (n + 3) (λ q. omega (arith, q)) in
        do_weaker u.env (sum cs (key cs e n) (n + 1) (n + 2) (n + 3) (n + 44)) v (IsSummed m es e (n + 1) (n + 2) (n + 3) v) Q
        (λ x d. record {
          holds = d.column;
          below = λ b lt. d.others b (λ q. omega (arith, q, lt)) (λ q. omega (arith, q, lt)) (λ q. omega (arith, q, lt)) ∙ k.others b (λ q. omega (arith, q, lt));
          steps = omega (arith, d.steps, k.steps);
        })
        (sum_is u.env cs s m es given.matrix h.shuffled h.count few e n v
        (record { rows = k.others cs.i (λ q. omega (arith, q, given.i)) ∙ h.rows; cols = k.others cs.j (λ q. omega (arith, q, given.j)) ∙ h.cols }) k.values
        (unused s m es given.matrix h.shuffled given.rows given.cols e within nodes) (n + 1) (n + 2) (n + 3) (n + 44) (zeros_long (v.bufs (n + 1)) (p1 ∙ zs.0))
        (are_zeros (v.bufs (n + 2)) (w.env.dims cs.count) (length es) (p2 ∙ zs.1.0) given.held.count) (are_zeros (v.bufs (n + 3)) (w.env.dims cs.count) (length es) (p3 ∙ zs.1.1.0) given.held.count)
        (λ q. omega (arith, q, key_low)) (λ q. omega (arith, q, key_low)) (λ q. omega (arith, q, key_low)) (λ q. omega (arith, q)) (λ q. omega (arith, q)) (λ q. omega (arith, q)))))

    pub enumerate_leads : Leads n (4 + (length es * 16 + 7)) w (phases (enumerate_phase cs e n ∷ []) w) (λ u. IsCounted m es e n u.bufs)
    enumerate_leads =
        let more = count_makes cs n (one_word (n + 3)) in
        phase_leaves n 4 (length es * 16 + 7) (key_makes cs e n more) (key_fill cs e n (enumerate cs (key cs e n) (n + 1) (n + 2) (n + 3) (n + 44))) w (IsCounted m es e n)
        (length_if (words n cs) more (is_index e)) (rises (one_word (n + 3)) refl)
        (small_if (words n cs) more (is_index e) w.env (entries_small, (entries_small, (entries_small, (omega arith, tt)))))
        (λ u z keeps.
        let h = held_later u keeps in
        let zs = zeros_if (words n cs) more (is_index e) w.env u.bufs z.zeros in
        let Q : State → Type 0 = Leaves n (length es * 16 + 7) (IsCounted m es e n) (begin u) in
        key_does u.env cs es e n (begin u) given.plain h.count (record { rows = h.rows; cols = h.cols }) given.i given.j (points s m es given.matrix h.shuffled given.rows given.cols) within nodes
        (enumerate cs (key cs e n) (n + 1) (n + 2) (n + 3) (n + 44)) Q (λ p. zeros_long (u.bufs n) (zero_if (words n cs) more (is_index e) w.env u.bufs p z.zeros))
        (λ v k.
        let p1 : v.bufs (n + 1) ≡ u.bufs (n + 1) = k.others (n + 1) (λ q. omega (arith, q)) in
        let p2 : v.bufs (n + 2) ≡ u.bufs (n + 2) = k.others (n + 2) (λ q. omega (arith, q)) in
        let p3 : v.bufs (n + 3) ≡ u.bufs (n + 3) = k.others (n + 3) (λ q. omega (arith, q)) in
        do_weaker u.env (enumerate cs (key cs e n) (n + 1) (n + 2) (n + 3) (n + 44)) v (IsEnumerated m es e (n + 1) (n + 2) (n + 3) v) Q
        (λ x d. record {
          holds = record { column = d.column; extent = d.extent };
          below = λ b lt. d.others b (λ q. omega (arith, q, lt)) (λ q. omega (arith, q, lt)) (λ q. omega (arith, q, lt)) ∙ k.others b (λ q. omega (arith, q, lt));
          steps = omega (arith, d.steps, k.steps);
        })
        (enumerate_is u.env cs s m es given.matrix h.shuffled h.count few e n v
        (record { rows = k.others cs.i (λ q. omega (arith, q, given.i)) ∙ h.rows; cols = k.others cs.j (λ q. omega (arith, q, given.j)) ∙ h.cols }) k.values
        (unused s m es given.matrix h.shuffled given.rows given.cols e within nodes) (n + 1) (n + 2) (n + 3) (n + 44) given.i given.j (zeros_long (v.bufs (n + 1)) (p1 ∙ zs.0))
        (are_zeros (v.bufs (n + 2)) (w.env.dims cs.count) (length es) (p2 ∙ zs.1.0) given.held.count) (ap (λ (ys : List ℤ). length ys) (p3 ∙ zs.1.1.0))
        (λ q. omega (arith, q, key_low)) (λ q. omega (arith, q, key_low)) (λ q. omega (arith, q)) (λ q. omega (arith, q)) (λ q. omega (arith, q)))))

  pub reorder_leads : (a : Axis) → indices a s ≤ limit → Leads n (4 + (length es * 10 + indices a s * 4 + 4)) w (phases (reorder_phase s cs a n ∷ []) w) (λ u. IsRanked s m es a n u.bufs)
  reorder_leads a small =
      let A = indices a s in
      let ms = counts n A ∷ below (n + 1) A A ∷ words (n + 2) cs ∷ below (n + 11) A A ∷ [] in
      let fits : A ≤ 67108865 = omega (arith, small) in
      let cost = length es * 10 + A * 4 + 4 in
      let code = reorder cs (index_column cs a) (dim.Number A) n (n + 11) (n + 1) (n + 2) (n + 16) in
      phase_leaves n 4 cost ms code w (IsRanked s m es a n) (omega arith) (omega arith, (omega arith, (omega arith, (omega arith, tt)))) (fits, (fits, (entries_small, (fits, tt))))
      (λ u z keeps.
      let h = held_later u keeps in
      let zs = z.zeros in
      let q : index_column cs a < n = column_low a in
      do_weaker u.env code (begin u) (IsReordered s m es a n (n + 11) (n + 1) (n + 2) (begin u)) (Leaves n cost (IsRanked s m es a n) (begin u))
      (λ v d. record {
        holds = record { column = d.column; table = d.table };
        below = λ b lt. d.others b (λ e. omega (arith, e, lt)) (λ e. omega (arith, e, lt)) (λ e. omega (arith, e, lt)) (λ e. omega (arith, e, lt));
        steps = omega (arith, d.steps);
      })
      (reorder_is u.env cs s m es given.matrix h.shuffled h.count few a n (n + 11) (n + 1) (n + 2) (n + 16) (begin u) (record { rows = h.rows; cols = h.cols })
      (are_zeros (u.bufs n) A A zs.0 refl) (ap (λ (ys : List ℤ). length ys) zs.1.1.1.0 ∙ length-replicate A (pos 0)) (are_zeros (u.bufs (n + 1)) A A zs.1.0 refl) (zeros_long (u.bufs (n + 2)) zs.1.1.0)
      (λ e. omega (arith, e, q)) (λ e. omega (arith, e, q)) (λ e. omega (arith, e, q)) (λ e. omega (arith, e, q))
      (λ e. omega (arith, e)) (λ e. omega (arith, e)) (λ e. omega (arith, e)) (λ e. omega (arith, e)) (λ e. omega (arith, e)) (λ e. omega (arith, e))))
