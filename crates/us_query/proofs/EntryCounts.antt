-- Counts of values are counts of entries.
use Rattle.std.specs.Ordering.{int_eq}
use Rattle.std.proofs.Common.{◌≡◌, ℕ, zero, suc, ◌<◌, ◌≤◌, ◌+◌, length, get_or, take, drop, List, [], ◌∷◌, ◌++◌, map, Bool, true, false, cond, ◌&&◌, ℤ, sym, refl, ap, ap₂, ◌∙◌, subst, inl, inr, arith, append_assoc, count_by}
use Rattle.std.proofs.lemmas.List.{take_more, drop_more}
use Rattle.std.proofs.lemmas.List.Sums.{count_by_more_no, count_by_more_yes, sum_by-append}
use Rattle.us_expr.specs.Tree.{Tree}
use Rattle.us_matrix.specs.Map.{Map, AreEntries, IsMatrix}
use Rattle.us_matrix.specs.declared.matrix.Triple.{Triple}
use Rattle.us_format.specs.Matrix.{Entry, earlier}
use Rattle.us_format.specs.Program.{entries_in, plain_entries, plain_entry}
use Rattle.us_format.specs.Queries.{enumerate_at, plain_value, sum_at}
use Rattle.us_format.proofs.Collect.{RowMajor, earlier-not}
use Rattle.us_format.proofs.Counting.{count-cons}
use Rattle.us_format.proofs.FromProgram.{program-matrix}
use Rattle.us_format.proofs.Lawful.{earlier-self, row-major}
use Rattle.us_format.proofs.Order.{Mem}
use Rattle.us_query.specs.Counts.{ranks, ranks_after, totals}

pub count-map : {A B : Type 0} (f : A → B) (p : B → Bool) (xs : List A) → count_by p (map f xs) ≡ count_by (λ x. p (f x)) xs
count-map f p [] = refl
count-map f p (x ∷ xs) = count-cons p (f x) (map f xs) ∙ ap (λ (n : ℕ). cond (p (f x)) 1 0 + n) (count-map f p xs) ∙ sym (count-cons (λ y. p (f y)) x xs)

pub count-same : {A : Type 0} (p q : A → Bool) (xs : List A) → ((x : A) → Mem x xs → p x ≡ q x) → count_by p xs ≡ count_by q xs
count-same p q [] h = refl
count-same p q (x ∷ xs) h =
    count-cons p x xs
    ∙ ap₂ (λ (b : Bool) (n : ℕ). cond b 1 0 + n) (h x (inl refl)) (count-same p q xs (λ y m. h y (inr m)))
    ∙ sym (count-cons q x xs)

pub count-none : {A : Type 0} (p : A → Bool) (xs : List A) → ((x : A) → Mem x xs → p x ≡ false) → count_by p xs ≡ 0
count-none p [] h = refl
count-none p (x ∷ xs) h =
    count-cons p x xs ∙ ap₂ (λ (b : Bool) (n : ℕ). cond b 1 0 + n) (h x (inl refl)) (count-none p xs (λ y m. h y (inr m)))

-- in a list of which the front alone passes
pub count-front : {A : Type 0} (p : A → Bool) (xs : List A) (k : ℕ) (d : A) → k ≤ length xs → ((i : ℕ) → i < k → p (get_or xs i d) ≡ true)
    → ((i : ℕ) → k ≤ i → i < length xs → p (get_or xs i d) ≡ false) → count_by p xs ≡ k
count-front p [] zero d l f g = refl
count-front p [] (suc k) d l f g = absurd (omega (arith, l))
count-front p (x ∷ xs) zero d l f g =
    count-cons p x xs
    ∙ ap₂ (λ (b : Bool) (n : ℕ). cond b 1 0 + n) (g zero (omega arith) (omega arith)) (count-front p xs zero d (omega arith) (λ i h. absurd (omega (arith, h))) (λ i h m. g (suc i) (omega arith) (omega (arith, m))))
count-front p (x ∷ xs) (suc k) d l f g =
    count-cons p x xs
    ∙ ap₂ (λ (b : Bool) (n : ℕ). cond b 1 0 + n) (f zero (omega arith)) (count-front p xs k d (omega (arith, l)) (λ i h. f (suc i) (omega (arith, h))) (λ i h m. g (suc i) (omega (arith, h)) (omega (arith, m))))
    ∙ omega arith

module _ (e : Tree) where
  totals-over : (all m : List Entry) → map (λ x. count_by (λ y. int_eq y x) (map (plain_value e) all)) (map (plain_value e) m) ≡ map (sum_at all e) m
  totals-over all [] = refl
  totals-over all (x ∷ m) = ap₂ (λ (n : ℕ) (ns : List ℕ). n ∷ ns) (count-map (plain_value e) (λ y. int_eq y (plain_value e x)) all) (totals-over all m)

  pub totals-are : (m : List Entry) → totals (map (plain_value e) m) ≡ map (sum_at m e) m
  totals-are m = totals-over m m

  -- the entries before x that have its value, where the list is in order
  module _ (before : List Entry) (x : Entry) (m : List Entry) (early : (y : Entry) → Mem y before → earlier y x ≡ true) (late : (y : Entry) → Mem y m → earlier x y ≡ true) where
    abbrev like : Entry → Bool
    like y = int_eq (plain_value e y) (plain_value e x)

    abbrev counted_here : Entry → Bool
    counted_here y = earlier y x && like y

    pub ranked-here : count_by (λ y. int_eq y (plain_value e x)) (map (plain_value e) before) ≡ enumerate_at (before ++ x ∷ m) e x
    ranked-here =
        let self : counted_here x ≡ false = ap (λ (b : Bool). b && like x) (earlier-self x) in
        let front : count_by counted_here before ≡ count_by like before = count-same counted_here like before (λ y h. ap (λ (b : Bool). b && like y) (early y h)) in
        let back : count_by counted_here m ≡ 0 = count-none counted_here m (λ y h. ap (λ (b : Bool). b && like y) (earlier-not x y (late y h))) in
        let here : count_by counted_here (x ∷ m) ≡ 0 = count-cons counted_here x m ∙ ap₂ (λ (b : Bool) (n : ℕ). cond b 1 0 + n) self back in
        count-map (plain_value e) (λ y. int_eq y (plain_value e x)) before
        ∙ sym (sum_by-append (λ y. cond (counted_here y) 1 0) before (x ∷ m) ∙ omega (arith, front, here))

  ranks-over : (before m all : List Entry) → all ≡ before ++ m → ((y z : Entry) → Mem y before → Mem z m → earlier y z ≡ true) → RowMajor m
      → ranks_after (map (plain_value e) before) (map (plain_value e) m) ≡ map (enumerate_at all e) m
  ranks-over before [] all q h r = refl
  ranks-over before (x ∷ m) all q h r =
      ap₂ (λ (n : ℕ) (ns : List ℕ). n ∷ ns)
      (ranked-here before x m (λ y k. h y x k (inl refl)) r.0 ∙ ap (λ (l : List Entry). enumerate_at l e x) (sym q))
      (ap (λ (l : List ℤ). ranks_after l (map (plain_value e) m)) (sym (map-append-one before x))
      ∙ ranks-over (before ++ x ∷ []) m all (q ∙ sym (append_assoc before (x ∷ []) m)) (later before x h r.0) r.1)
    where
      map-append-one : (ys : List Entry) (y : Entry) → map (plain_value e) (ys ++ y ∷ []) ≡ map (plain_value e) ys ++ plain_value e y ∷ []
      map-append-one [] y = refl
      map-append-one (z ∷ ys) y = ap (λ (l : List ℤ). plain_value e z ∷ l) (map-append-one ys y)

      later : (ys : List Entry) (w : Entry) → ((y z : Entry) → Mem y ys → Mem z (w ∷ m) → earlier y z ≡ true) → ((z : Entry) → Mem z m → earlier w z ≡ true)
          → (y z : Entry) → Mem y (ys ++ w ∷ []) → Mem z m → earlier y z ≡ true
      later [] w f g y z (inl k) mz = subst (λ (a : Entry). earlier a z ≡ true) k (g z mz)
      later [] w f g y z (inr k) mz = absurd k
      later (a ∷ ys) w f g y z (inl k) mz = f y z (inl k) (inr mz)
      later (a ∷ ys) w f g y z (inr k) mz = later ys w (λ b c mb mc. f b c (inr mb) mc) g y z k mz

  pub ranks-are : (m : Map) → IsMatrix m → ranks (map (plain_value e) (entries_in m)) ≡ map (enumerate_at (entries_in m) e) (entries_in m)
  ranks-are m h = ranks-over [] (entries_in m) (entries_in m) refl (λ y z k _. absurd k) (row-major (entries_in m) (program-matrix m h).sorted)

-- ---- the entries of a matrix

entries-narrow : (rows cols : ℕ) (ts : List Triple) → rows ≤ 2147483648 → cols ≤ 2147483648 → AreEntries rows cols ts → (k : ℕ) (d : Triple) → k < length ts
    → ((get_or ts k d).i < 2147483648) × ((get_or ts k d).j < 2147483648)
entries-narrow rows cols [] r l h k d lt = absurd (omega arith)
entries-narrow rows cols (t ∷ ts) r l h zero d lt = (omega (arith, h.0.row, r), omega (arith, h.0.col, l))
entries-narrow rows cols (t ∷ ts) r l h (suc k) d lt = entries-narrow rows cols ts r l h.1 k d (omega arith)

pub narrow : (m : Map) → IsMatrix m → (ts : List Triple) → ts ≡ m.entries → (k : ℕ) (d : Triple) → k < length ts → ((get_or ts k d).i < 2147483648) × ((get_or ts k d).j < 2147483648)
narrow m h ts e k d l =
    entries-narrow m.rows m.cols ts (omega (arith, h.rows.high)) (omega (arith, h.cols.high)) (subst (λ (es : List Triple). AreEntries m.rows m.cols es) (sym e) h.entries) k d l

pub values-plain : (e : Tree) (ts : List Triple) → map (λ t. plain_value e (plain_entry t)) ts ≡ map (plain_value e) (plain_entries ts)
values-plain e [] = refl
values-plain e (t ∷ ts) = ap (λ (l : List ℤ). plain_value e (plain_entry t) ∷ l) (values-plain e ts)

-- ---- steps of the loops over numbers

pub count-more : {A : Type 0} (p : A → Bool) (xs : List A) (k : ℕ) (d : A) → k < length xs → count_by p (take (k + 1) xs) ≡ count_by p (take k xs) + cond (p (get_or xs k d)) 1 0
count-more p xs k d h = go (p (get_or xs k d)) refl
  where
    go : (b : Bool) → p (get_or xs k d) ≡ b → count_by p (take (k + 1) xs) ≡ count_by p (take k xs) + cond b 1 0
    go true e = count_by_more_yes p xs k d h e
    go false e = count_by_more_no p xs k d h e ∙ omega arith

pub ranks-next : (xs : List ℤ) (k : ℕ) (d : ℤ) (done new all : List ℕ) (n : ℕ) → k < length xs → new ≡ done ++ n ∷ [] → n ≡ count_by (λ y. int_eq y (get_or xs k d)) (take k xs)
    → done ++ ranks_after (take k xs) (drop k xs) ≡ all → new ++ ranks_after (take (k + 1) xs) (drop (k + 1) xs) ≡ all
ranks-next xs k d done new all n h q e i =
    ap₂ (λ (l : List ℕ) (b : List ℤ). l ++ ranks_after b (drop (k + 1) xs)) q (take_more xs k d h)
    ∙ append_assoc done (n ∷ []) (ranks_after (take k xs ++ get_or xs k d ∷ []) (drop (k + 1) xs))
    ∙ ap (λ (a : ℕ). done ++ a ∷ ranks_after (take k xs ++ get_or xs k d ∷ []) (drop (k + 1) xs)) e
    ∙ ap (λ (l : List ℤ). done ++ ranks_after (take k xs) l) (sym (drop_more xs k d h))
    ∙ i
