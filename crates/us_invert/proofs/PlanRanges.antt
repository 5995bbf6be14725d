-- What a recovery requires of its plan, from the levels and queries.
use Rattle.std.proofs.Common.{◌≡◌, ℕ, zero, suc, ◌<◌, ◌≤◌, ◌^◌, ◌⊎◌, List, [], ◌∷◌, ◌++◌, map, length, get_or, true, ◌&&◌, refl, subst, inl, inr, arith, All, ℤ, pos, ◌+ℤ◌, ◌≤ℤ◌, ◌<ℤ◌}
use Rattle.std.specs.Prelude.{int_le, int_lt, nat_lt, nat_le}
use Rattle.std.proofs.lemmas.Bool.{false≢true, and_parts}
use Rattle.std.proofs.lemmas.Bool.Decides.{nat_tests}
use Rattle.std.proofs.lemmas.Int.{ints}
use Rattle.us_expr.specs.declared.ranges.Range.{Range}
use Rattle.us_expr.specs.Tree.{Tree, node_count, RowIndex, ColIndex, Number, Variable, Sum, Difference, Quotient, Remainder}
use Rattle.us_expr.specs.Value.{IsWithin}
use Rattle.us_expr.specs.Range.{range, range_at, IsNear, IsRangeable}
use Rattle.us_format.specs.Lists.{join, cell}
use Rattle.us_format.specs.Declaration.{Query, argument}
use Rattle.us_format.specs.Coordinates.{span}
use Rattle.us_format.specs.Known.{Give, Itself, OfLevel, Plus, Minus, Joined, Over, Rest, OrderAt, RowsAt, Steps, sub_expressions, expressions, given_steps}
use Rattle.us_format.specs.Recover.{plan_of}
use Rattle.us_format.proofs.Order.{Mem}
use Rattle.us_format.proofs.Members.{all-Mem, Mem-either, join-Mem, added-from}
use Rattle.us_format.proofs.Chain.{Chain, chain-given}
use Rattle.us_known.specs.Table.{tree_at}
use Rattle.us_invert.specs.Plan.{AreSmall}
use Rattle.us_invert.specs.Recovery.{HasCoordinate}
use Rattle.us_invert.specs.Examples.{is_within, is_near, are_near, are_valid, are_valid_arguments, are_coordinates, can_run}
use Rattle.us_invert.proofs.Walking.{chain-cut, plan-level}

-- ---- ranges

module _ (vars : List Range) (low : (v : ℕ) → v < length vars → IsNear (2 ^ 31) (range_at vars v).lo) (high : (v : ℕ) → v < length vars → IsNear (2 ^ 31) (range_at vars v).hi) where
  of_parts : (e : Tree) → node_count e ≤ 32 → IsWithin (length vars) e → IsRangeable vars e
  of_parts e s w = record { small = s; within = w; low = low; high = high }

  sub-parts : (e x : Tree) → node_count e ≤ 32 → IsWithin (length vars) e → Mem x (sub_expressions e) → IsRangeable vars x
  sub-parts RowIndex x s w (inl q) = subst (λ (t : Tree). IsRangeable vars t) q (of_parts RowIndex s w)
  sub-parts RowIndex x s w (inr m) = absurd m
  sub-parts ColIndex x s w (inl q) = subst (λ (t : Tree). IsRangeable vars t) q (of_parts ColIndex s w)
  sub-parts ColIndex x s w (inr m) = absurd m
  sub-parts (Number c) x s w (inl q) = subst (λ (t : Tree). IsRangeable vars t) q (of_parts (Number c) s w)
  sub-parts (Number c) x s w (inr m) = absurd m
  sub-parts (Variable v) x s w (inl q) = subst (λ (t : Tree). IsRangeable vars t) q (of_parts (Variable v) s w)
  sub-parts (Variable v) x s w (inr m) = absurd m
  sub-parts (Sum a b) x s w m = go (Mem-either x (sub_expressions a) (sub_expressions b ++ Sum a b ∷ []) m) (sub-parts a x (omega (arith, s)) w.0) (sub-parts b x (omega (arith, s)) w.1)
    where
      last : (Mem x (sub_expressions b) ⊎ Mem x (Sum a b ∷ [])) → (Mem x (sub_expressions b) → IsRangeable vars x) → IsRangeable vars x
      last (inl n) g = g n
      last (inr (inl q)) g = subst (λ (t : Tree). IsRangeable vars t) q (of_parts (Sum a b) s w)
      last (inr (inr n)) g = absurd n

      go : (Mem x (sub_expressions a) ⊎ Mem x (sub_expressions b ++ Sum a b ∷ [])) → (Mem x (sub_expressions a) → IsRangeable vars x) → (Mem x (sub_expressions b) → IsRangeable vars x) → IsRangeable vars x
      go (inl n) f g = f n
      go (inr n) f g = last (Mem-either x (sub_expressions b) (Sum a b ∷ []) n) g
  sub-parts (Difference a b) x s w m = go (Mem-either x (sub_expressions a) (sub_expressions b ++ Difference a b ∷ []) m) (sub-parts a x (omega (arith, s)) w.0) (sub-parts b x (omega (arith, s)) w.1)
    where
      last : (Mem x (sub_expressions b) ⊎ Mem x (Difference a b ∷ [])) → (Mem x (sub_expressions b) → IsRangeable vars x) → IsRangeable vars x
      last (inl n) g = g n
      last (inr (inl q)) g = subst (λ (t : Tree). IsRangeable vars t) q (of_parts (Difference a b) s w)
      last (inr (inr n)) g = absurd n

      go : (Mem x (sub_expressions a) ⊎ Mem x (sub_expressions b ++ Difference a b ∷ [])) → (Mem x (sub_expressions a) → IsRangeable vars x) → (Mem x (sub_expressions b) → IsRangeable vars x) → IsRangeable vars x
      go (inl n) f g = f n
      go (inr n) f g = last (Mem-either x (sub_expressions b) (Difference a b ∷ []) n) g
  sub-parts (Quotient a k) x s w m = go (Mem-either x (sub_expressions a) (Quotient a k ∷ []) m) (sub-parts a x (omega (arith, s)) w.2)
    where
      go : (Mem x (sub_expressions a) ⊎ Mem x (Quotient a k ∷ [])) → (Mem x (sub_expressions a) → IsRangeable vars x) → IsRangeable vars x
      go (inl n) f = f n
      go (inr (inl q)) f = subst (λ (t : Tree). IsRangeable vars t) q (of_parts (Quotient a k) s w)
      go (inr (inr n)) f = absurd n
  sub-parts (Remainder a k) x s w m = go (Mem-either x (sub_expressions a) (Remainder a k ∷ []) m) (sub-parts a x (omega (arith, s)) w.2)
    where
      go : (Mem x (sub_expressions a) ⊎ Mem x (Remainder a k ∷ [])) → (Mem x (sub_expressions a) → IsRangeable vars x) → IsRangeable vars x
      go (inl n) f = f n
      go (inr (inl q)) f = subst (λ (t : Tree). IsRangeable vars t) q (of_parts (Remainder a k) s w)
      go (inr (inr n)) f = absurd n

  member-rangeable : (levels : List Tree) (qs : List Query) → All (IsRangeable vars) levels → All (λ q. IsRangeable vars (argument q)) qs → (e : Tree) → Mem e (expressions levels qs) → IsRangeable vars e
  member-rangeable levels qs hl hq e m = found (added-from [] (join (map sub_expressions levels) ++ (join (map (λ q. sub_expressions (argument q)) qs) ++ RowIndex ∷ ColIndex ∷ [])) e m)
    where
      index : Mem e (RowIndex ∷ ColIndex ∷ []) → IsRangeable vars e
      index (inl q) = subst (λ (t : Tree). IsRangeable vars t) q (of_parts RowIndex (omega arith) tt)
      index (inr (inl q)) = subst (λ (t : Tree). IsRangeable vars t) q (of_parts ColIndex (omega arith) tt)
      index (inr (inr n)) = absurd n

      later : (Mem e (join (map (λ q. sub_expressions (argument q)) qs)) ⊎ Mem e (RowIndex ∷ ColIndex ∷ [])) → IsRangeable vars e
      later (inl n) =
          let r = join-Mem (λ (q : Query). sub_expressions (argument q)) e qs n in
          let h : IsRangeable vars (argument r.0) = all-Mem (λ (q : Query). IsRangeable vars (argument q)) qs r.0 hq r.1 in
          sub-parts (argument r.0) e h.small h.within r.2
      later (inr n) = index n

      first : (Mem e (join (map sub_expressions levels)) ⊎ Mem e (join (map (λ q. sub_expressions (argument q)) qs) ++ RowIndex ∷ ColIndex ∷ [])) → IsRangeable vars e
      first (inl n) =
          let r = join-Mem sub_expressions e levels n in
          let h : IsRangeable vars r.0 = all-Mem (λ (t : Tree). IsRangeable vars t) levels r.0 hl r.1 in
          sub-parts r.0 e h.small h.within r.2
      first (inr n) = later (Mem-either e (join (map (λ q. sub_expressions (argument q)) qs)) (RowIndex ∷ ColIndex ∷ []) n)

      found : (Mem e [] ⊎ Mem e (join (map sub_expressions levels) ++ (join (map (λ q. sub_expressions (argument q)) qs) ++ RowIndex ∷ ColIndex ∷ []))) → IsRangeable vars e
      found (inl n) = absurd n
      found (inr n) = first (Mem-either e (join (map sub_expressions levels)) (join (map (λ q. sub_expressions (argument q)) qs) ++ RowIndex ∷ ColIndex ∷ []) n)

chain-all : (V : Tree → Type 0) (qs : List Query) (given known : List Tree) (steps : Steps) → Chain V qs given known steps → All (λ x. V x.0) steps
chain-all V qs given known [] c k d l = absurd (omega (arith, l))
chain-all V qs given known (x ∷ steps) c zero d l = c.0
chain-all V qs given known (x ∷ steps) c (suc k) d l = chain-all V qs given (known ++ x.0 ∷ []) steps c.2 k d (omega (arith, l))

-- each expression of a plan has a range where the levels and arguments have
pub plan-rangeable : (vars : List Range) (levels : List Tree) (qs : List Query) → IsRangeable vars RowIndex → All (IsRangeable vars) levels → All (λ q. IsRangeable vars (argument q)) qs → All (λ x. IsRangeable vars x.0) (plan_of levels qs)
plan-rangeable vars levels qs r hl hq =
    chain-all (IsRangeable vars) qs _ [] (plan_of levels qs)
    (chain-cut (IsRangeable vars) qs _ [] [] (given_steps levels qs (length levels)) (chain-given (IsRangeable vars) levels qs (length levels) (member-rangeable vars r.low r.high levels qs hl hq)))

-- ---- coordinates

pub plan-coordinates : (rows cols : ℕ) (vars : List Range) (values : List ℤ) (levels : List Tree) (qs : List Query)
    → ((k : ℕ) → k < length levels → (k < length values) × (pos 0 ≤ℤ cell values k) × (cell values k <ℤ pos (span (range rows cols vars (tree_at levels k)))))
    → All (HasCoordinate rows cols vars values) (plan_of levels qs)
plan-coordinates rows cols vars values levels qs h k d l = go (get_or (plan_of levels qs) k d) refl
  where
    go : (x : Tree × Give) → get_or (plan_of levels qs) k d ≡ x → HasCoordinate rows cols vars values x
    go (e, Itself c) q = tt
    go (e, OfLevel j) q =
        let r = plan-level levels qs k j e d l q in
        let c = h j r.0 in
        (c.0, c.1, subst (λ (t : Tree). cell values j <ℤ pos (span (range rows cols vars t))) r.1 c.2)
    go (e, Plus a b) q = tt
    go (e, Minus a b) q = tt
    go (e, Joined a b c) q = tt
    go (e, Over a c) q = tt
    go (e, Rest a c) q = tt
    go (e, OrderAt a b) q = tt
    go (e, RowsAt a b c) q = tt

-- ---- examples

le-true : (a b : ℕ) → nat_le a b ≡ true → a ≤ b
le-true a b h = grind (arith, nat_tests)

lt-true : (a b : ℕ) → nat_lt a b ≡ true → a < b
lt-true a b h = grind (arith, nat_tests)

int-le-true : (a b : ℤ) → int_le a b ≡ true → a ≤ℤ b
int-le-true a b h = grind (arith, ints)

int-lt-true : (a b : ℤ) → int_lt a b ≡ true → a <ℤ b
int-lt-true a b h = grind (arith, ints)

within-true : (n : ℕ) (e : Tree) → is_within n e ≡ true → IsWithin n e
within-true n RowIndex h = tt
within-true n ColIndex h = tt
within-true n (Number c) h = lt-true c (2 ^ 31) h
within-true n (Variable v) h = lt-true v n h
within-true n (Sum a b) h = let p = and_parts (is_within n a) (is_within n b) h in (within-true n a p.0, within-true n b p.1)
within-true n (Difference a b) h = let p = and_parts (is_within n a) (is_within n b) h in (within-true n a p.0, within-true n b p.1)
within-true n (Quotient a k) h =
    let p = and_parts (nat_lt 0 k) (nat_lt k (2 ^ 31) && is_within n a) h in
    let q = and_parts (nat_lt k (2 ^ 31)) (is_within n a) p.1 in
    (lt-true 0 k p.0, lt-true k (2 ^ 31) q.0, within-true n a q.1)
within-true n (Remainder a k) h =
    let p = and_parts (nat_lt 0 k) (nat_lt k (2 ^ 31) && is_within n a) h in
    let q = and_parts (nat_lt k (2 ^ 31)) (is_within n a) p.1 in
    (lt-true 0 k p.0, lt-true k (2 ^ 31) q.0, within-true n a q.1)

near-true : (z : ℤ) → is_near z ≡ true → IsNear (2 ^ 31) z
near-true z h =
    let p = and_parts (int_le (pos 0) (z +ℤ pos (2 ^ 31))) (int_le z (pos (2 ^ 31))) h in
    record { low = int-le-true (pos 0) (z +ℤ pos (2 ^ 31)) p.0; high = int-le-true z (pos (2 ^ 31)) p.1 }

all-near : (vars : List Range) → are_near vars ≡ true → (v : ℕ) → v < length vars → IsNear (2 ^ 31) (range_at vars v).lo × IsNear (2 ^ 31) (range_at vars v).hi
all-near [] h v l = absurd (omega (arith, l))
all-near (r ∷ rs) h zero l =
    let p = and_parts (is_near r.lo && is_near r.hi) (are_near rs) h in
    let q = and_parts (is_near r.lo) (is_near r.hi) p.0 in
    (near-true r.lo q.0, near-true r.hi q.1)
all-near (r ∷ rs) h (suc v) l = all-near rs (and_parts (is_near r.lo && is_near r.hi) (are_near rs) h).1 v (omega (arith, l))

-- what stands for all elements of a list, by its elements
all-of : {A : Type 0} (P : A → Type 0) (xs : List A) → ((x : A) → Mem x xs → P x) → All P xs
all-of P [] h k d l = absurd (omega (arith, l))
all-of P (x ∷ xs) h zero d l = h x (inl refl)
all-of P (x ∷ xs) h (suc k) d l = all-of P xs (λ y m. h y (inr m)) k d (omega (arith, l))

valid-true : (n : ℕ) (es : List Tree) (x : Tree) → are_valid n es ≡ true → Mem x es → (node_count x ≤ 32) × IsWithin n x
valid-true n [] x h m = absurd m
valid-true n (e ∷ es) x h (inl q) =
    let p = and_parts (nat_le (node_count e) 32 && is_within n e) (are_valid n es) h in
    let r = and_parts (nat_le (node_count e) 32) (is_within n e) p.0 in
    subst (λ (t : Tree). (node_count t ≤ 32) × IsWithin n t) q (le-true (node_count e) 32 r.0, within-true n e r.1)
valid-true n (e ∷ es) x h (inr m) = valid-true n es x (and_parts (nat_le (node_count e) 32 && is_within n e) (are_valid n es) h).1 m

valid-arguments : (n : ℕ) (qs : List Query) (x : Query) → are_valid_arguments n qs ≡ true → Mem x qs → (node_count (argument x) ≤ 32) × IsWithin n (argument x)
valid-arguments n [] x h m = absurd m
valid-arguments n (e ∷ es) x h (inl q) =
    let p = and_parts (nat_le (node_count (argument e)) 32 && is_within n (argument e)) (are_valid_arguments n es) h in
    let r = and_parts (nat_le (node_count (argument e)) 32) (is_within n (argument e)) p.0 in
    subst (λ (t : Query). (node_count (argument t) ≤ 32) × IsWithin n (argument t)) q (le-true (node_count (argument e)) 32 r.0, within-true n (argument e) r.1)
valid-arguments n (e ∷ es) x h (inr m) = valid-arguments n es x (and_parts (nat_le (node_count (argument e)) 32 && is_within n (argument e)) (are_valid_arguments n es) h).1 m

coordinates-true : (rows cols : ℕ) (vars : List Range) (values : List ℤ) (es : List Tree) (k : ℕ) → are_coordinates rows cols vars values es ≡ true → k < length es
    → (k < length values) × (pos 0 ≤ℤ cell values k) × (cell values k <ℤ pos (span (range rows cols vars (tree_at es k))))
coordinates-true rows cols vars values [] k h l = absurd (omega (arith, l))
coordinates-true rows cols vars [] (e ∷ es) k h l = absurd (false≢true h)
coordinates-true rows cols vars (v ∷ values) (e ∷ es) zero h l =
    let p = and_parts (int_le (pos 0) v && int_lt v (pos (span (range rows cols vars e)))) (are_coordinates rows cols vars values es) h in
    let q = and_parts (int_le (pos 0) v) (int_lt v (pos (span (range rows cols vars e)))) p.0 in
    (omega arith, int-le-true (pos 0) v q.0, int-lt-true v (pos (span (range rows cols vars e))) q.1)
coordinates-true rows cols vars (v ∷ values) (e ∷ es) (suc k) h l =
    let r = coordinates-true rows cols vars values es k (and_parts (int_le (pos 0) v && int_lt v (pos (span (range rows cols vars e)))) (are_coordinates rows cols vars values es) h).1 (omega (arith, l)) in
    (omega (arith, r.0), r.1, r.2)

-- what an example that can be run keeps
pub record Runs (levels : List Tree) (qs : List Query) (rows cols : ℕ) (vars : List Range) (values : List ℤ) : Type 0 where
  pub few_levels : length levels ≤ 6
  pub few_queries : length qs ≤ 16
  pub rows_are : rows < 2 ^ 31
  pub cols_are : cols < 2 ^ 31
  pub small : AreSmall levels qs
  pub rangeable : All (λ x. IsRangeable vars x.0) (plan_of levels qs)
  pub coordinates : All (HasCoordinate rows cols vars values) (plan_of levels qs)

pub runs : (levels : List Tree) (qs : List Query) (rows cols : ℕ) (vars : List Range) (values : List ℤ) → can_run levels qs rows cols vars values ≡ true → Runs levels qs rows cols vars values
runs levels qs rows cols vars values h =
    let a = and_parts (nat_le (length levels) 6 && nat_le (length qs) 16) _ h in
    let b = and_parts (nat_le (length levels) 6) (nat_le (length qs) 16) a.0 in
    let c = and_parts (nat_lt rows (2 ^ 31) && nat_lt cols (2 ^ 31)) _ a.1 in
    let d = and_parts (nat_lt rows (2 ^ 31)) (nat_lt cols (2 ^ 31)) c.0 in
    let e = and_parts (are_near vars) _ c.1 in
    let f = and_parts (are_valid (length vars) levels) _ e.1 in
    let g = and_parts (are_valid_arguments (length vars) qs) (are_coordinates rows cols vars values levels) f.1 in
    record {
      few_levels = le-true (length levels) 6 b.0;
      few_queries = le-true (length qs) 16 b.1;
      rows_are = lt-true rows (2 ^ 31) d.0;
      cols_are = lt-true cols (2 ^ 31) d.1;
      small = record {
        levels_are = all-of (λ t. node_count t ≤ 32) levels (λ t m. (valid-true (length vars) levels t f.0 m).0);
        arguments_are = all-of (λ q. node_count (argument q) ≤ 32) qs (λ q m. (valid-arguments (length vars) qs q g.0 m).0);
      };
      rangeable =
          plan-rangeable vars levels qs (of_parts vars (λ v l. (all-near vars e.0 v l).0) (λ v l. (all-near vars e.0 v l).1) RowIndex (omega arith) tt)
          (all-of (IsRangeable vars) levels (λ t m. let p = valid-true (length vars) levels t f.0 m in of_parts vars (λ v l. (all-near vars e.0 v l).0) (λ v l. (all-near vars e.0 v l).1) t p.0 p.1))
          (all-of (λ q. IsRangeable vars (argument q)) qs (λ q m. let p = valid-arguments (length vars) qs q g.0 m in of_parts vars (λ v l. (all-near vars e.0 v l).0) (λ v l. (all-near vars e.0 v l).1) (argument q) p.0 p.1));
      coordinates = plan-coordinates rows cols vars values levels qs (λ k l. coordinates-true rows cols vars values levels k g.1 l);
    }
