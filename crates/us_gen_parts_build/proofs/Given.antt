-- What the columns and buffers of counted queries hold of a part.
use Rattle.std.proofs.Common.{◌≡◌, ℕ, suc, ◌*◌, ◌<◌, ◌≤◌, List, [], ◌∷◌, ◌++◌, map, length, take, true, false, Bool, cond, nat_eq, eq-eqb, ℤ, sym, refl, ap₂, ◌∙◌, subst, arith, inl, inr, filter, sum_by, mul-le-mul_right}
use Rattle.std.proofs.lemmas.Bool.{or_left, or_right}
use Rattle.std.proofs.lemmas.List.Sums.{sum_by-cons, sum_by-append}
use Rattle.us_format.specs.Matrix.{Shape, Entry}
use Rattle.us_format.specs.Declaration.{Query, SumOf, Enumerate, Reorder, Schedule, Part, axis_of, has_extent, has_table}
use Rattle.us_format.specs.Queries.{extent_of, schedule_extent}
use Rattle.us_format.specs.Packs.{Buffer, written, packed}
use Rattle.us_format.specs.Buffers.{extent_buffer, table_buffer, piece_buffers}
use Rattle.us_format.specs.Reading.{limit}
use Rattle.us_format.specs.Rules.{HasLanes}
use Rattle.us_format.proofs.Order.{Mem}
use Rattle.us_code.specs.declared.pieces.Columns.{Columns}
use Rattle.us_code.specs.Runs.{World}
use Rattle.us_code.specs.Typing.{is_listed}
use Rattle.us_build.proofs.Extents.{enumerate-few}
use Rattle.us_gen.specs.Goes.{Keeps}
use Rattle.us_gen_query.specs.Filling.{column}
use Rattle.us_gen_counting.specs.Entries.{HoldEntries, HoldVariables}
use Rattle.us_gen_extents.specs.Extents.{HoldExtents}
use Rattle.us_gen_parts_build.specs.Meaning.{NamesQueries, share}

-- ---- the buffers of extents

module _ (bufs : ℕ → List ℤ) (m : List Entry) (s : Shape) where
  pub extents-held : (qs : List Query) (bs : List ℕ) (rest : List (List ℤ)) → map bufs bs ≡ map written (map (extent_buffer m s) qs) ++ rest → ((q : Query) → Mem q qs → extent_of m s q ≤ limit)
      → HoldExtents bufs (take (length qs) bs) (map (extent_of m s) qs)
  extents-held [] [] rest e few = tt
  extents-held [] (b ∷ bs) rest e few = tt
  extents-held (q ∷ qs) [] rest e few = absurd cc
  extents-held (q ∷ qs) (b ∷ bs) rest e few =
      let first : bufs b ≡ written (extent_buffer m s q) = cc in
      let others : map bufs bs ≡ map written (map (extent_buffer m s) qs) ++ rest = cc in
      (first, few q (inl refl), extents-held qs bs rest others (λ x i. few x (inr i)))

-- ---- extents are small

member-sum : {A : Type 0} (f : A → Buffer) (xs : List A) (x : A) → Mem x xs → (f x).len ≤ sum_by (λ b. b.len) (map f xs)
member-sum f [] x i = absurd i
member-sum {A} f (y ∷ ys) x (inl e) =
    subst (λ (z : A). (f z).len ≤ sum_by (λ b. b.len) (f y ∷ map f ys)) e (omega (arith, sum_by-cons (λ (b : Buffer). b.len) (f y) (map f ys)))
member-sum f (y ∷ ys) x (inr i) = omega (arith, sum_by-cons (λ (b : Buffer). b.len) (f y) (map f ys), member-sum f ys x i)

pub Mem-filter : {A : Type 0} (test : A → Bool) (xs : List A) (x : A) → Mem x (filter test xs) → Mem x xs × (test x ≡ true)
Mem-filter test [] x i = absurd i
Mem-filter {A} test (y ∷ ys) x i = go (test y) refl i (λ j. Mem-filter test ys x j)
  where
    go : (b : Bool) → test y ≡ b → Mem x (cond b (y ∷ filter test ys) (filter test ys)) → (Mem x (filter test ys) → Mem x ys × (test x ≡ true)) → Mem x (y ∷ ys) × (test x ≡ true)
    go true h (inl e) ih = (inl e, subst (λ (z : A). test z ≡ true) e h)
    go true h (inr j) ih = let r = ih j in (inr r.0, r.1)
    go false h j ih = let r = ih j in (inr r.0, r.1)

filter-Mem : {A : Type 0} (test : A → Bool) (xs : List A) (x : A) → Mem x xs → test x ≡ true → Mem x (filter test xs)
filter-Mem test [] x i h = absurd i
filter-Mem {A} test (y ∷ ys) x (inl e) h = go (test y) (subst (λ (z : A). test z ≡ true) (sym e) h)
  where
    go : (b : Bool) → b ≡ true → Mem x (cond b (y ∷ filter test ys) (filter test ys))
    go true t = inl e
    go false t = absurd cc
filter-Mem test (y ∷ ys) x (inr i) h = go (test y) (filter-Mem test ys x i h)
  where
    go : (b : Bool) → Mem x (filter test ys) → Mem x (cond b (y ∷ filter test ys) (filter test ys))
    go true t = inr t
    go false t = t

module _ (s : Shape) (p : Part) (m : List Entry) (few : length m ≤ limit) (small : share s p m ≤ limit) where
  abbrev len : Buffer → ℕ
  len b = b.len

  abbrev extents : List Buffer
  extents = map (extent_buffer m s) (filter has_extent p.queries)

  abbrev tables : List Buffer
  tables = map (table_buffer m s) (filter has_table p.queries)

  table-within : (q : Query) → Mem q p.queries → has_table q ≡ true → (table_buffer m s q).len ≤ share s p m
  table-within q i h =
      omega (
        arith,
        member-sum (table_buffer m s) (filter has_table p.queries) q (filter-Mem has_table p.queries q i h),
        sum_by-append len extents (tables ++ packed p (piece_buffers s p m)),
        sum_by-append len tables (packed p (piece_buffers s p m)),
      )

  pub extent-few : (q : Query) → Mem q p.queries → HasLanes q → extent_of m s q ≤ limit
  extent-few (SumOf v e) i h = omega arith
  extent-few (Enumerate v e) i h = omega (arith, enumerate-few m e, few)
  extent-few (Reorder v t) i h = omega arith
  extent-few (Schedule l u t n) i h =
      let once : 1 * schedule_extent m s (axis_of t) n ≤ n * schedule_extent m s (axis_of t) n = mul-le-mul_right (schedule_extent m s (axis_of t) n) h in
      omega (arith, once, table-within (Schedule l u t n) i refl, small)

-- ---- worlds

-- the columns hold what they did
pub entries-kept : (n : ℕ) (p : Part) (cs : Columns) (bs : List ℕ) (m es : List Entry) (w u : World) → NamesQueries p cs bs n → Keeps n w u → HoldEntries w.env w.bufs cs m es → HoldEntries u.env u.bufs cs m es
entries-kept n p cs bs m es w u names k h = record {
  shuffled = h.shuffled;
  count = k.dims cs.count names.count ∙ h.count;
  rows = k.bufs cs.i (names.columns 0 (omega arith)) ∙ h.rows;
  cols = k.bufs cs.j (names.columns 1 (omega arith)) ∙ h.cols;
  values = k.bufs cs.v names.values ∙ h.values;
}

pub variables-kept : (n : ℕ) (s : Shape) (p : Part) (cs : Columns) (bs : List ℕ) (m es : List Entry) (w u : World) → NamesQueries p cs bs n → Keeps n w u → HoldVariables w.bufs cs s m es p.queries
    → HoldVariables u.bufs cs s m es p.queries
variables-kept n s p cs bs m es w u names k h v lt d = k.bufs (column cs (suc (suc v))) (names.columns (suc (suc v)) (omega (arith, lt))) ∙ h v lt d

-- buffers with numbers below n are what they were
pub buffers-kept : (n : ℕ) (w u : World) → Keeps n w u → (bs : List ℕ) → ((b : ℕ) → is_listed b bs ≡ true → b < n) → map u.bufs bs ≡ map w.bufs bs
buffers-kept n w u k [] low = refl
buffers-kept n w u k (b ∷ bs) low =
    ap₂ (λ (x : List ℤ) (xs : List (List ℤ)). x ∷ xs) (k.bufs b (low b (or_left (nat_eq b b) (is_listed b bs) (eq-eqb b b refl))))
    (buffers-kept n w u k bs (λ c i. low c (or_right (nat_eq c b) (is_listed c bs) i)))
