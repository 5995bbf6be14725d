-- The running number is the position of the definition.
use Rattle.std.proofs.Common.{◌≡◌, ℕ, zero, suc, ◌+◌, ◌-◌, ◌*◌, ◌<◌, ◌≤◌, ◌⊎◌, List, [], ◌∷◌, map, length, Bool, true, false, cond, not, nat_eq, nat_lt, sym, refl, ap, ap₂, ◌∙◌, subst, inl, inr, arith, count_by}
use Rattle.std.proofs.lemmas.Bool.{false≢true, cases_lt}
use Rattle.std.proofs.lemmas.Bool.Decides.{nat_tests}
use Rattle.us_format.specs.Lists.{head, lower, rank}
use Rattle.us_format.specs.Positions.{Row, node_of, nodes, place}
use Rattle.us_format.specs.declared.Kind.TheVariants.{Compressed, Listed}
use Rattle.us_format.proofs.Order.{lower-cases}
use Rattle.us_format.proofs.Counting.{count-cons}
use Rattle.us_format.proofs.Ascending.{full-lt, lower-first}
use Rattle.us_build.proofs.Counts.{count-same, count-all}
use Rattle.us_running.specs.Running.{is_new, counted, seen, below}
use Rattle.us_gen_build_laws.specs.Rows.{row, node, NodesRise}
use Rattle.us_gen_build_laws.proofs.Rising.{number-first, number-next, number-last, node-found, at_rises}

-- the number that the loop compares
abbrev pub keys : List Row → ℕ → ℕ → ℕ
keys rows size x = (row rows x).at * size + head (row rows x).rest

module _ (rows : List Row) (rises : NodesRise rows) (size : ℕ) (small : (x : ℕ) → x < length rows → head (row rows x).rest < size) where
  abbrev K : ℕ → ℕ
  K = keys rows size

  abbrev A : ℕ → ℕ
  A x = (row rows x).at

  abbrev node' : ℕ → List ℕ
  node' x = node (row rows x)

  abbrev row' : ℕ → Row
  row' = row rows

  -- equal numbers are equal nodes
  pub one_node : (x y : ℕ) → x < length rows → y < length rows → K x ≡ K y → node' x ≡ node' y
  one_node x y lx ly e = case (lower-cases (node' x) (node' y))
    where
      case : (lower (node' x) (node' y) ≡ true) ⊎ ((node' x ≡ node' y) ⊎ (lower (node' y) (node' x) ≡ true)) → node' x ≡ node' y
      case (inl l) = let z = full-lt size (A x) (A y) (head (row' x).rest) (head (row' y).rest) (small x lx) (small y ly) l in absurd (omega (arith, z, e))
      case (inr (inl q)) = q
      case (inr (inr l)) = let z = full-lt size (A y) (A x) (head (row' y).rest) (head (row' x).rest) (small y ly) (small x lx) l in absurd (omega (arith, z, e))

  one_key : (x y : ℕ) → node' x ≡ node' y → K x ≡ K y
  one_key x y e = let a : A x ≡ A y = ap head e in let b : head (row' x).rest ≡ head (row' y).rest = ap (λ l. head (tail_of l)) e in ap₂ (λ (p c : ℕ). p * size + c) a b
    where
      tail_of : List ℕ → List ℕ
      tail_of [] = []
      tail_of (c ∷ cs) = cs

  -- the running number is the rank among the nodes
  pub number_is : (x : ℕ) → x < length rows → seen K (suc x) ≡ rank (nodes Compressed rows) (node' x) + 1
  number_is zero lt = omega (arith, number-first rows rises lt)
  number_is (suc x) lt = case (number_is x (omega arith)) (nat_eq (K (suc x)) (K x)) refl
    where
      case : seen K (suc x) ≡ rank (nodes Compressed rows) (node' x) + 1 → (b : Bool) → nat_eq (K (suc x)) (K x) ≡ b → cond (not (nat_eq (K (suc x)) (K x))) (seen K (suc x) + 1) (seen K (suc x)) ≡ rank (nodes Compressed rows) (node' (suc x)) + 1
      case ih true e = let k : K (suc x) ≡ K x = grind (arith, nat_tests) in ap (λ (b : Bool). cond (not b) (seen K (suc x) + 1) (seen K (suc x))) e ∙ (ih ∙ ap (λ (m : List ℕ). rank (nodes Compressed rows) m + 1) (sym (one_node (suc x) x lt (omega arith) k)))
      case ih false e =
          let s : suc x ≡ x + 1 = omega arith in
          let r : rank (nodes Compressed rows) (node' (x + 1)) ≡ rank (nodes Compressed rows) (node' x) + 1 = number-next rows rises x (omega arith) (λ q. let k : K x ≡ K (x + 1) = one_key x (x + 1) q in let k2 : K (x + 1) ≡ K (suc x) = ap K (sym s) in let f : nat_eq (K (suc x)) (K x) ≡ true = grind (arith, nat_tests) in false≢true (sym e ∙ f)) in
          ap (λ (b : Bool). cond (not b) (seen K (suc x) + 1) (seen K (suc x))) e ∙ omega (arith, ih, r, ap (λ (y : ℕ). rank (nodes Compressed rows) (node' y)) s)

  -- and so the position of the definition
  pub place_is : (x : ℕ) → x < length rows → seen K (suc x) - 1 ≡ place Compressed size rows (row' x)
  place_is x lt = omega (arith, number_is x lt)

  pub nodes_are : seen K (length rows) ≡ length (nodes Compressed rows)
  nodes_are = case rows refl
    where
      case : (xs : List Row) → xs ≡ rows → seen K (length rows) ≡ length (nodes Compressed rows)
      case [] e = subst (λ (zs : List Row). seen K (length zs) ≡ length (nodes Compressed zs)) e refl
      case (r ∷ rs) e = let l : length rs + 1 ≡ length rows = omega (arith, ap length e) in let s : length rows ≡ suc (length rs) = omega (arith, l) in ap (seen K) s ∙ (number_is (length rs) (omega (arith, l)) ∙ sym (number-last rows rises (length rs) l))

  -- rows below k have a parent below p, the others have not
  record Cut (p n : ℕ) : Type 0 where
    k : ℕ
    within : k ≤ n
    low : (j : ℕ) → j < k → A j < p
    high : (j : ℕ) → k ≤ j → j < n → p ≤ A j

  cut : (p n : ℕ) → n ≤ length rows → Cut p n
  cut p zero le = record { k = 0; within = omega arith; low = λ j h. absurd (omega (arith, h)); high = λ j a b. absurd (omega (arith, b)) }
  cut p (suc n) le = case (cut p n (omega (arith, le))) (cases_lt (A n) p)
    where
      case : Cut p n → (A n < p) ⊎ (p ≤ A n) → Cut p (suc n)
      case c (inl h) = record { k = suc n; within = omega arith; low = λ j l. let z = at_rises rows rises j n (omega (arith, l)) (omega (arith, le)) in omega (arith, z, h); high = λ j a b. absurd (omega (arith, a, b)) }
      case c (inr h) = record { k = c.k; within = omega (arith, c.within); low = c.low; high = λ j a b. two j a b (cases_lt j n) }
        where
          two : (j : ℕ) → c.k ≤ j → j < suc n → (j < n) ⊎ (n ≤ j) → p ≤ A j
          two j a b (inl l) = c.high j a l
          two j a b (inr l) = let e : n ≡ j = omega (arith, b, l) in subst (λ (y : ℕ). p ≤ A y) e h

  below_cut : (new : ℕ → Bool) (p n k : ℕ) → k ≤ n → ((j : ℕ) → j < k → A j < p) → ((j : ℕ) → k ≤ j → j < n → p ≤ A j) → below new A n p ≡ counted new k
  below_cut new p zero k le low high = let e : 0 ≡ k = omega (arith, le) in ap (counted new) e
  below_cut new p (suc n) k le low high = case (cases_lt n k) (λ k h l g. below_cut new p n k h l g)
    where
      same : (b : Bool) (v : ℕ) → cond b v v ≡ v
      same true v = refl
      same false v = refl

      case : (n < k) ⊎ (k ≤ n) → ((k : ℕ) → k ≤ n → ((j : ℕ) → j < k → A j < p) → ((j : ℕ) → k ≤ j → j < n → p ≤ A j) → below new A n p ≡ counted new k) → below new A (suc n) p ≡ counted new k
      case (inl h) ih =
          let e : suc n ≡ k = omega (arith, le, h) in
          let l : nat_lt (A n) p ≡ true = (let z = low n h in grind (arith, nat_tests)) in
          let i = ih n (omega arith) (λ j q. low j (omega (arith, q, h))) (λ j a b. absurd (omega (arith, a, b))) in
          ap (λ (b : Bool). cond (new n) (cond b (below new A n p + 1) (below new A n p)) (below new A n p)) l ∙ (ap (λ (v : ℕ). cond (new n) (v + 1) v) i ∙ ap (counted new) e)
      case (inr h) ih =
          let l : nat_lt (A n) p ≡ false = (let z = high n h (omega arith) in grind (arith, nat_tests)) in
          ap (λ (b : Bool). cond (new n) (cond b (below new A n p + 1) (below new A n p)) (below new A n p)) l ∙ (same (new n) _ ∙ ih k h low (λ j a b. high j a (omega (arith, b))))

  seen_at : (k p : ℕ) → k < length rows → ((j : ℕ) → j < k → A j < p) → p ≤ A k → seen K k ≡ rank (nodes Compressed rows) (node' k)
  seen_at zero p lt low h = sym (number-first rows rises lt)
  seen_at (suc j) p lt low h =
      let s : suc j ≡ j + 1 = omega arith in
      let hj = low j (omega arith) in
      let r = number-next rows rises j (omega (arith, lt)) (λ q. let a : A j ≡ A (j + 1) = ap head q in let b : A (j + 1) ≡ A (suc j) = ap A (sym s) in absurd (omega (arith, a, b, hj, h))) in
      omega (arith, number_is j (omega (arith, lt)), r, ap (λ (y : ℕ). rank (nodes Compressed rows) (node' y)) s)

  -- how many nodes have a parent below p
  pub below_is : (p : ℕ) → below (is_new K) A (length rows) p ≡ count_by (λ m. nat_lt (head m) p) (nodes Compressed rows)
  below_is p = case (cut p (length rows) (omega arith))
    where
      case : Cut p (length rows) → below (is_new K) A (length rows) p ≡ count_by (λ m. nat_lt (head m) p) (nodes Compressed rows)
      case c = below_cut (is_new K) p (length rows) c.k c.within c.low c.high ∙ rest (cases_lt c.k (length rows))
        where
          at_node : (j : ℕ) → j < length rows → c.k < length rows → (j < c.k) ⊎ (c.k ≤ j) → nat_lt (head (node' j)) p ≡ lower (node' j) (node' c.k)
          at_node j lj lk (inl h) = let a = c.low j h in let b = c.high c.k (omega arith) lk in let l : nat_lt (A j) p ≡ true = grind (arith, nat_tests) in l ∙ sym (lower-first (A j) (A c.k) (head (row' j).rest ∷ []) (head (row' c.k).rest ∷ []) (omega (arith, a, b)))
          at_node j lj lk (inr h) = let a = c.high j h lj in let l : nat_lt (A j) p ≡ false = grind (arith, nat_tests) in l ∙ sym (rises j c.k h lj)

          rest : (c.k < length rows) ⊎ (length rows ≤ c.k) → seen K c.k ≡ count_by (λ m. nat_lt (head m) p) (nodes Compressed rows)
          rest (inl lk) =
              seen_at c.k p lk c.low (c.high c.k (omega arith) lk)
              ∙ count-same (λ m. lower m (node' c.k)) (λ m. nat_lt (head m) p) (nodes Compressed rows) (λ m mem. let f = node-found rows rises m mem in subst (λ (z : List ℕ). lower z (node' c.k) ≡ nat_lt (head z) p) f.2 (sym (at_node f.0 f.1 lk (cases_lt f.0 c.k))))
          rest (inr h) =
              let e : c.k ≡ length rows = omega (arith, h, c.within) in
              ap (seen K) e ∙ (nodes_are ∙ sym (count-all (λ m. nat_lt (head m) p) (nodes Compressed rows) (λ m mem. let f = node-found rows rises m mem in subst (λ (z : List ℕ). nat_lt (head z) p ≡ true) f.2 (let a = c.low f.0 (omega (arith, f.1, e)) in grind (arith, nat_tests)))))

-- ---- a listed level

below_front : (at : ℕ → ℕ) (n p : ℕ) → below (λ _. true) at (suc n) p ≡ cond (nat_lt (at 0) p) 1 0 + below (λ _. true) (λ x. at (suc x)) n p
below_front at zero p = case (nat_lt (at 0) p)
  where
    case : (b : Bool) → cond b (0 + 1) 0 ≡ cond b 1 0 + 0
    case true = omega arith
    case false = omega arith
below_front at (suc n) p = case (below_front at n p) (nat_lt (at (suc n)) p)
  where
    case : below (λ _. true) at (suc n) p ≡ cond (nat_lt (at 0) p) 1 0 + below (λ _. true) (λ x. at (suc x)) n p → (b : Bool) → cond b (below (λ _. true) at (suc n) p + 1) (below (λ _. true) at (suc n) p) ≡ cond (nat_lt (at 0) p) 1 0 + cond b (below (λ _. true) (λ x. at (suc x)) n p + 1) (below (λ _. true) (λ x. at (suc x)) n p)
    case h true = omega (arith, h)
    case h false = omega (arith, h)

pub listed_below : (rows : List Row) (p : ℕ) → below (λ _. true) (λ x. (row rows x).at) (length rows) p ≡ count_by (λ m. nat_lt (head m) p) (nodes Listed rows)
listed_below [] p = refl
listed_below (r ∷ rows) p = below_front (λ x. (row (r ∷ rows) x).at) (length rows) p ∙ omega (arith, listed_below rows p, count-cons (λ m. nat_lt (head m) p) (node_of Listed r) (map (node_of Listed) rows))
