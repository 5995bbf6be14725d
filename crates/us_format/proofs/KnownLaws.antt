-- The known expressions are the least of a part's expressions that have the levels and the constants and are closed under the rules.
use Rattle.std.proofs.Common.{◌≡◌, ℕ, zero, suc, List, [], ◌∷◌, ◌++◌, map, length, take, Bool, true, false, cond, sym, refl, subst, inl, inr, Option, Some, None, eq-eqb}
use Rattle.std.specs.List.{Contains}
use Rattle.std.proofs.lemmas.Bool.{false≢true, and_from}
use Rattle.us_expr.specs.Tree.{Tree, RowIndex, ColIndex, Number, Variable, Sum, Difference, Quotient, Remainder}
use Rattle.us_format.specs.Lists.{or_else, when, first_of, join}
use Rattle.us_format.specs.Declaration.{Query, SumOf, Enumerate, Reorder, Schedule, argument, axis_of, index_of}
use Rattle.us_format.specs.Known.{same_tree, has, sub_expressions, add_all, expressions, Give, Itself, OfLevel, from_sum, from_difference, from_quotient, from_reorder, from_schedule, from_operands, order_for, rows_for, rule, Steps, known_of, level_of, at_start, with_step, start, one_pass, passes, given_steps}
use Rattle.us_format.specs.Laws.{IsClosed, KnownLaw}
use Rattle.us_format.proofs.Order.{Mem}
use Rattle.us_format.proofs.Members.{contains-Mem, Mem-contains, item-Mem, Mem-left, Mem-right, Mem-join, self-sub, added-found}
use Rattle.us_format.proofs.Trees.{same_tree-refl, Mem-has}
use Rattle.us_format.proofs.Closed.{known-both, known-closed}
use Rattle.us_format.proofs.Settled.{Keeps, keeps-with, there-with, keeps-pass, given-settled}

-- ---- what the list has

pub has-not : (found : List Tree) (e : Tree) (b : Bool) → has found e ≡ b → Mem e (cond b found (found ++ e ∷ []))
has-not found e true h = Mem-has found e h
has-not found e false h = Mem-right e found (e ∷ []) (inl refl)

pub added-new : (found es : List Tree) (x : Tree) → Mem x es → Mem x (add_all found es)
added-new found [] x h = absurd h
added-new found (e ∷ es) x (inl q) =
    added-found (cond (has found e) found (found ++ e ∷ [])) es x (subst (λ (z : Tree). Mem z (cond (has found e) found (found ++ e ∷ []))) q (has-not found e (has found e) refl))
added-new found (e ∷ es) x (inr h) = added-new (cond (has found e) found (found ++ e ∷ [])) es x h

pub Mem-take : {A : Type 0} (k : ℕ) (x : A) (xs : List A) → Mem x (take k xs) → Mem x xs
Mem-take zero x xs h = absurd h
Mem-take (suc k) x [] h = absurd h
Mem-take (suc k) x (y ∷ xs) (inl e) = inl e
Mem-take (suc k) x (y ∷ xs) (inr h) = inr (Mem-take k x xs h)

pub level-member : (levels : List Tree) (qs : List Query) (e : Tree) → Mem e levels → Mem e (expressions levels qs)
level-member levels qs e h =
    added-new [] (join (map sub_expressions levels) ++ (join (map (λ q. sub_expressions (argument q)) qs) ++ RowIndex ∷ ColIndex ∷ [])) e
    (Mem-left e (join (map sub_expressions levels)) (join (map (λ q. sub_expressions (argument q)) qs) ++ RowIndex ∷ ColIndex ∷ []) (Mem-join sub_expressions e e levels h (self-sub e)))

-- ---- at the start

pub keeps-start : (given es : List Tree) (steps : Steps) → Keeps steps (start given es steps)
keeps-start given [] steps x h = h
keeps-start given (e ∷ es) steps x h = keeps-start given es (with_step steps e (at_start given e)) x (keeps-with steps e (at_start given e) x h)

pub start-gives : (given es : List Tree) (steps : Steps) (e : Tree) (g : Give) → Mem e es → at_start given e ≡ Some g → has (known_of (start given es steps)) e ≡ true
start-gives given [] steps e g h s = absurd h
start-gives given (d ∷ es) steps e g (inl q) s =
    keeps-start given es (with_step steps d (at_start given d)) e
    (subst (λ (z : Tree). has (known_of (with_step steps z (at_start given z))) e ≡ true) (sym q) (subst (λ (o : Option Give). has (known_of (with_step steps e o)) e ≡ true) (sym s) (there-with steps e g)))
start-gives given (d ∷ es) steps e g (inr h) s = start-gives given es (with_step steps d (at_start given d)) e g h s

pub keeps-passes : (n : ℕ) (es : List Tree) (qs : List Query) (steps : Steps) → Keeps steps (passes n es qs steps)
keeps-passes zero es qs steps x h = h
keeps-passes (suc n) es qs steps x h = keeps-passes n es qs (one_pass es qs es steps) x (keeps-pass es qs es steps x h)

pub level_of-there : (k : ℕ) (given : List Tree) (e : Tree) → Mem e given → (n : ℕ) × (level_of k given e ≡ Some n)
level_of-there k [] e h = absurd h
level_of-there k (l ∷ given) e (inl q) = (k, rw (subst (λ (z : Tree). same_tree l z ≡ true) q (same_tree-refl l)) refl)
level_of-there k (l ∷ given) e (inr h) = go (same_tree l e) (level_of-there (suc k) given e h)
  where
    go : (b : Bool) → ((n : ℕ) × (level_of (suc k) given e ≡ Some n)) → (n : ℕ) × (cond b (Some k) (level_of (suc k) given e) ≡ Some n)
    go true ih = (k, refl)
    go false ih = ih

pub starts : (given : List Tree) (e : Tree) (n : ℕ) → level_of 0 given e ≡ Some n → (g : Give) × (at_start given e ≡ Some g)
starts given RowIndex n h = (OfLevel n, rw h refl)
starts given ColIndex n h = (OfLevel n, rw h refl)
starts given (Number c) n h = (Itself c, refl)
starts given (Variable v) n h = (OfLevel n, rw h refl)
starts given (Sum a b) n h = (OfLevel n, rw h refl)
starts given (Difference a b) n h = (OfLevel n, rw h refl)
starts given (Quotient a k) n h = (OfLevel n, rw h refl)
starts given (Remainder a k) n h = (OfLevel n, rw h refl)

-- ---- no rule applies any more

pub or-none-parts : {A : Type 0} (a b : Option A) → or_else a b ≡ None → (a ≡ None) × (b ≡ None)
or-none-parts (Some x) b h = absurd (cc)
or-none-parts None b h = (refl, h)

pub first-none : {B : Type 0} (f : Tree → Option B) (es : List Tree) (x : Tree) → first_of f es ≡ None → Mem x es → f x ≡ None
first-none f [] x h m = absurd m
first-none {B} f (e ∷ es) x h (inl q) = subst (λ (z : Tree). f z ≡ None) q (or-none-parts (f e) (first_of f es) h).0
first-none f (e ∷ es) x h (inr m) = first-none f es x (or-none-parts (f e) (first_of f es) h).1 m

pub when-none : {A : Type 0} (b : Bool) (a : A) → when b a ≡ None → b ≡ true → ⊥
when-none true a h q = absurd (cc)
when-none false a h q = false≢true q

pub cond-none : {A : Type 0} (b : Bool) (a : Option A) → cond b a None ≡ None → b ≡ true → a ≡ None
cond-none true a h q = h
cond-none false a h q = absurd (false≢true q)

pub order-none : (known : List Tree) (e : Tree) (v q : ℕ) (qs : List Query) (t : Tree) → order_for known e v q qs ≡ None → Mem (Reorder v t) qs → same_tree (index_of (axis_of t)) e ≡ true → has known (Variable v) ≡ true → ⊥
order-none known e v q [] t h m s k = m
order-none known e v q (Reorder w u ∷ qs) t h (inl p) s k = when-none _ _ (or-none-parts _ _ h).0 (and_from _ _ (eq-eqb w v (name p)) (and_from _ _ (subst (λ (z : Tree). same_tree (index_of (axis_of z)) e ≡ true) (sym (arg p)) s) k))
  where
    name : Reorder w u ≡ Reorder v t → w ≡ v
    name p = cc

    arg : Reorder w u ≡ Reorder v t → u ≡ t
    arg p = cc
order-none known e v q (Reorder w u ∷ qs) t h (inr m) s k = order-none known e v (suc q) qs t (or-none-parts _ _ h).1 m s k
order-none known e v q (SumOf w u ∷ qs) t h (inl p) s k = absurd (cc)
order-none known e v q (SumOf w u ∷ qs) t h (inr m) s k = order-none known e v (suc q) qs t h m s k
order-none known e v q (Enumerate w u ∷ qs) t h (inl p) s k = absurd (cc)
order-none known e v q (Enumerate w u ∷ qs) t h (inr m) s k = order-none known e v (suc q) qs t h m s k
order-none known e v q (Schedule a b u n ∷ qs) t h (inl p) s k = absurd (cc)
order-none known e v q (Schedule a b u n ∷ qs) t h (inr m) s k = order-none known e v (suc q) qs t h m s k

pub rows-none : (known : List Tree) (e : Tree) (l q : ℕ) (qs : List Query) (u : ℕ) (t : Tree) (n : ℕ) → rows_for known e l q qs ≡ None → Mem (Schedule l u t n) qs → same_tree (index_of (axis_of t)) e ≡ true
    → has known (Variable l) ≡ true → has known (Variable u) ≡ true → ⊥
rows-none known e l q [] u t n h m s k j = m
rows-none known e l q (Schedule a b c d ∷ qs) u t n h (inl p) s k j =
    when-none _ _ (or-none-parts _ _ h).0
    (and_from _ _ (eq-eqb a l (lane p)) (and_from _ _ (subst (λ (z : Tree). same_tree (index_of (axis_of z)) e ≡ true) (sym (arg p)) s)
    (and_from _ _ (subst (λ (z : ℕ). has known (Variable z) ≡ true) (sym (lane p)) k) (subst (λ (z : ℕ). has known (Variable z) ≡ true) (sym (slot p)) j))))
  where
    lane : Schedule a b c d ≡ Schedule l u t n → a ≡ l
    lane p = cc

    slot : Schedule a b c d ≡ Schedule l u t n → b ≡ u
    slot p = cc

    arg : Schedule a b c d ≡ Schedule l u t n → c ≡ t
    arg p = cc
rows-none known e l q (Schedule a b c d ∷ qs) u t n h (inr m) s k j = rows-none known e l (suc q) qs u t n (or-none-parts _ _ h).1 m s k j
rows-none known e l q (SumOf w c ∷ qs) u t n h (inl p) s k j = absurd (cc)
rows-none known e l q (SumOf w c ∷ qs) u t n h (inr m) s k j = rows-none known e l (suc q) qs u t n h m s k j
rows-none known e l q (Enumerate w c ∷ qs) u t n h (inl p) s k j = absurd (cc)
rows-none known e l q (Enumerate w c ∷ qs) u t n h (inr m) s k j = rows-none known e l (suc q) qs u t n h m s k j
rows-none known e l q (Reorder w c ∷ qs) u t n h (inl p) s k j = absurd (cc)
rows-none known e l q (Reorder w c ∷ qs) u t n h (inr m) s k j = rows-none known e l (suc q) qs u t n h m s k j

module _ (levels : List Tree) (qs : List Query) (count : ℕ) where
  abbrev pub es : List Tree
  es = expressions levels qs

  abbrev pub known : List Tree
  known = known_of (given_steps levels qs count)

  pub member : (e : Tree) → has known e ≡ true → Mem e es
  member e h =
      (known-both (λ x. Mem x es) (λ x. Unit {0}) levels qs count
      (record {
        number = λ c v. tt;
        sum = λ a b v p q. tt;
        difference = λ a b v p q. tt;
        quotient = λ a k v p. tt;
        remainder = λ a k v p. tt;
        left_of_sum = λ a b v p q. tt;
        right_of_sum = λ a b v p q. tt;
        left_of_difference = λ a b v p q. tt;
        right_of_difference = λ a b v p q. tt;
        joined = λ a k v u p q. tt;
        order = λ q w x at v p. tt;
        rows = λ q a b x n at v p r. tt;
      })
      (λ x m v. tt) (λ x m. m) e h).0

  -- an expression of the list to which a rule applies is known
  pub known-if : (e : Tree) → Mem e es → (rule es qs known e ≡ None → ⊥) → has known e ≡ true
  known-if e m n = go (has known e) refl
    where
      go : (b : Bool) → has known e ≡ b → b ≡ true
      go true h = refl
      go false h = absurd (n (given-settled levels qs count e m h))

  abbrev pub Parts : Tree → Type 0
  Parts e =
      (first_of (from_sum known e) es ≡ None) × (first_of (from_difference known e) es ≡ None) × (first_of (from_quotient known e) es ≡ None)
      × (first_of (from_reorder qs known e) es ≡ None) × (first_of (from_schedule qs known e) es ≡ None) × (from_operands known e ≡ None)

  pub parts : (e : Tree) → rule es qs known e ≡ None → Parts e
  parts e h =
      let a = or-none-parts (first_of (from_sum known e) es) _ h in
      let b = or-none-parts (first_of (from_difference known e) es) _ a.1 in
      let c = or-none-parts (first_of (from_quotient known e) es) _ b.1 in
      let d = or-none-parts (first_of (from_reorder qs known e) es) _ c.1 in
      let f = or-none-parts (first_of (from_schedule qs known e) es) _ d.1 in
      (a.0, b.0, c.0, d.0, f.0, f.1)

  pub given-known : (e : Tree) → Mem e (take count levels) → has known e ≡ true
  given-known e m =
      let l = level_of-there 0 (take count levels) e m in
      let g = starts (take count levels) e l.0 l.1 in
      keeps-passes (length es) es qs (start (take count levels) es []) e
      (start-gives (take count levels) es [] e g.0 (level-member levels qs e (Mem-take count e levels m)) g.1)

  pub closed : IsClosed es qs (has known)
  closed = record {
    number = λ c m. keeps-passes (length es) es qs (start (take count levels) es []) (Number c) (start-gives (take count levels) es [] (Number c) _ (contains-Mem es (Number c) m) refl);
    left_of_sum = λ a b m h k. known-if a (contains-Mem es a m) (λ n.
        when-none _ _ (or-none-parts _ _ (cond-none _ _ (first-none (from_sum known a) es (Sum a b) (parts a n).0 (member (Sum a b) h)) h)).0 (and_from _ _ (same_tree-refl a) k));
    right_of_sum = λ a b m h k. known-if b (contains-Mem es b m) (λ n.
        when-none _ _ (or-none-parts _ _ (cond-none _ _ (first-none (from_sum known b) es (Sum a b) (parts b n).0 (member (Sum a b) h)) h)).1 (and_from _ _ (same_tree-refl b) k));
    left_of_difference = λ a b m h k. known-if a (contains-Mem es a m) (λ n.
        when-none _ _ (or-none-parts _ _ (cond-none _ _ (first-none (from_difference known a) es (Difference a b) (parts a n).1 (member (Difference a b) h)) h)).0 (and_from _ _ (same_tree-refl a) k));
    right_of_difference = λ a b m h k. known-if b (contains-Mem es b m) (λ n.
        when-none _ _ (or-none-parts _ _ (cond-none _ _ (first-none (from_difference known b) es (Difference a b) (parts b n).1 (member (Difference a b) h)) h)).1 (and_from _ _ (same_tree-refl b) k));
    joined = λ a k m h j. known-if a (contains-Mem es a m) (λ n.
        when-none _ _ (first-none (from_quotient known a) es (Quotient a k) (parts a n).2 (member (Quotient a k) h)) (and_from _ _ (same_tree-refl a) (and_from _ _ h j)));
    sum = λ a b m h k. known-if (Sum a b) (contains-Mem es (Sum a b) m) (λ n. when-none _ _ (parts (Sum a b) n).5 (and_from _ _ h k));
    difference = λ a b m h k. known-if (Difference a b) (contains-Mem es (Difference a b) m) (λ n. when-none _ _ (parts (Difference a b) n).5 (and_from _ _ h k));
    quotient = λ a k m h. known-if (Quotient a k) (contains-Mem es (Quotient a k) m) (λ n. when-none _ _ (parts (Quotient a k) n).5 h);
    remainder = λ a k m h. known-if (Remainder a k) (contains-Mem es (Remainder a k) m) (λ n. when-none _ _ (parts (Remainder a k) n).5 h);
    order = λ v t q m h. known-if (index_of (axis_of t)) (contains-Mem es (index_of (axis_of t)) m) (λ n.
        order-none known (index_of (axis_of t)) v 0 qs t (first-none (from_reorder qs known (index_of (axis_of t))) es (Variable v) (parts (index_of (axis_of t)) n).3 (member (Variable v) h))
        (contains-Mem qs (Reorder v t) q) (same_tree-refl (index_of (axis_of t))) h);
    rows = λ l u t k q m h j. known-if (index_of (axis_of t)) (contains-Mem es (index_of (axis_of t)) m) (λ n.
        rows-none known (index_of (axis_of t)) l 0 qs u t k (first-none (from_schedule qs known (index_of (axis_of t))) es (Variable l) (parts (index_of (axis_of t)) n).4 (member (Variable l) h))
        (contains-Mem qs (Schedule l u t k) q) (same_tree-refl (index_of (axis_of t))) h j);
  }

  pub least : (holds : Tree → Bool) → IsClosed es qs holds → ((e : Tree) → Contains (take count levels) e → holds e ≡ true) → (e : Tree) → has known e ≡ true → holds e ≡ true
  least holds cl lv e h =
      known-closed (λ x. Mem x es) (λ x. holds x ≡ true) levels qs count
      (record {
        number = λ c v. cl.number c (Mem-contains es _ v);
        sum = λ a b v. cl.sum a b (Mem-contains es _ v);
        difference = λ a b v. cl.difference a b (Mem-contains es _ v);
        quotient = λ a k v. cl.quotient a k (Mem-contains es _ v);
        remainder = λ a k v. cl.remainder a k (Mem-contains es _ v);
        left_of_sum = λ a b v. cl.left_of_sum a b (Mem-contains es _ v);
        right_of_sum = λ b a v p q. cl.right_of_sum b a (Mem-contains es _ v) p q;
        left_of_difference = λ a b v. cl.left_of_difference a b (Mem-contains es _ v);
        right_of_difference = λ a b v p q. cl.right_of_difference a b (Mem-contains es _ v) q p;
        joined = λ a k v u. cl.joined a k (Mem-contains es _ v);
        order = λ q w x at v. cl.order w x (Mem-contains qs _ (item-Mem qs q (Reorder w x) at)) (Mem-contains es _ v);
        rows = λ q a b x n at v. cl.rows a b x n (Mem-contains qs _ (item-Mem qs q (Schedule a b x n) at)) (Mem-contains es _ v);
      })
      (λ x m v. lv x (Mem-contains (take count levels) x m)) (λ x m. m) e h

pub known-law : KnownLaw
known-law levels qs count = record {
  members = λ e h. Mem-contains (expressions levels qs) e (member levels qs count e h);
  given = λ e m. given-known levels qs count e (contains-Mem (take count levels) e m);
  closed = closed levels qs count;
  least = least levels qs count;
}
