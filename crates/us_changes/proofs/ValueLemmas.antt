-- Values behind sets, and sets that are put in another order.
use Rattle.std.proofs.Common.{◌≡◌, ◌≢◌, ℕ, ◌+◌, ◌*◌, ◌%◌, ◌^◌, ◌<◌, ◌==◌, ◌&&◌, not, Bool, true, false, cond, List, [], ◌∷◌, ◌⊎◌, ℤ, pos, refl, sym, ap, subst, ◌∙◌, inl, inr, arith}
use Rattle.std.specs.Int.{w64, cast_unsigned, cast_signed}
use Rattle.std.specs.List.{All, filter}
use Rattle.std.specs.List.Sorted.{ties, IsStableByKey}
use Rattle.std.specs.Ordering.{nat_cmp, is_lt}
use Rattle.std.proofs.Math.Nat.{mod-eq_of_lt}
use Rattle.std.proofs.lemmas.Bool.{cases_Bool, false_from_ne_true, false≢true}
use Rattle.std.proofs.lemmas.Bool.Decides.{nat_tests}
use Rattle.std.proofs.lemmas.Cmp.{nat_cmp_total, tied_itself}
use Rattle.std.proofs.lemmas.Int.{to_z-of_z}
use Rattle.std.proofs.lemmas.List.Elements.{All-head, All-tail, All-nil, All-cons}
use Rattle.us_matrix.specs.declared.matrix.Triple.{Triple}
use Rattle.us_matrix.specs.Map as maps
use Rattle.us_matrix.specs.Map.{IsEntry, IsInShape, IsRisingFrom, AreEntries, place, value_at, entries_of, added}
use Rattle.us_matrix.specs.Sums.{is_at}
use Rattle.us_matrix.proofs.OneMatrixLemmas.{below_none, same_entries}
use Rattle.us_matrix.proofs.Merge.{bits_small}
use Rattle.us_changes.specs.Edits.{in_front, changed}
use Rattle.us_changes.specs.Keeping.{IsPut, put_all, last_value}
use Rattle.us_changes.proofs.PutLemmas.{three, two, lt_true, front_none, front_some, changed_before, changed_at, changed_behind, changed_rising, changed_entries}

-- ---- the value at a coordinate behind a set

at_place : (i j : ℕ) (t : Triple) → is_at i j t ≡ true → 2147483648 * i + j ≡ place t
at_place i j t h = grind (arith, nat_tests)

-- what one test chooses, and then another
chosen : (a : Bool) (x y : ℤ) → a ≡ false → cond a x y ≡ y
chosen a x y e = ap (λ b. cond b x y) e

taken : (a : Bool) (x y : ℤ) → a ≡ true → cond a x y ≡ x
taken a x y e = ap (λ b. cond b x y) e

front_value : (t : Triple) (es : List Triple) (i j : ℕ) → IsRisingFrom (place t + 1) es → value_at (in_front t es) i j ≡ cond (is_at i j t) t.v (value_at es i j)
front_value t es i j h =
    two (value_at (in_front t es) i j ≡ cond (is_at i j t) t.v (value_at es i j)) t.v (pos 0)
    (λ e. ap (λ l. value_at l i j) (front_none t es e) ∙ elim (cases_Bool (is_at i j t)) [
      | inl here ↦ below_none (place t + 1) i j es h (omega (arith, at_place i j t here)) ∙ sym e ∙ sym (taken (is_at i j t) t.v (value_at es i j) here)
      | inr other ↦ sym (chosen (is_at i j t) t.v (value_at es i j) other)
    ])
    (λ n. ap (λ l. value_at l i j) (front_some t es n))

same_tests : (i j : ℕ) (s t : Triple) → s.j < 2 ^ 31 → t.j < 2 ^ 31 → place s ≡ place t → is_at i j s ≡ is_at i j t
same_tests i j s t a b e =
    let row : s.i ≡ t.i = omega arith in
    let col : s.j ≡ t.j = omega arith in
    ap (λ r. r == i && s.j == j) row ∙ ap (λ c. t.i == i && c == j) col

-- one test, and then the other, in either order where they aren't both true
turned : (a b : Bool) (x y z : ℤ) → (a ≡ true → b ≡ true → ⊥) → cond a x (cond b y z) ≡ cond b y (cond a x z)
turned true true x y z h = absurd (h refl refl)
turned true false x y z h = refl
turned false b x y z h = refl

changed_value : (rows cols low : ℕ) (t : Triple) (es : List Triple) (i j : ℕ) → cols < 2 ^ 31 → t.j < cols → AreEntries rows cols es → IsRisingFrom low es
    → value_at (changed t es) i j ≡ cond (is_at i j t) t.v (value_at es i j)
changed_value rows cols low t [] i j side col en h = front_value t [] i j tt
changed_value rows cols low t (e ∷ es) i j side col en h =
    three (value_at (changed t (e ∷ es)) i j ≡ cond (is_at i j t) t.v (value_at (e ∷ es) i j)) (place t) (place e)
    (λ before. ap (λ l. value_at l i j) (changed_before t e es before) ∙ front_value t (e ∷ es) i j (omega arith, h.1))
    (λ at.
    let same : is_at i j e ≡ is_at i j t = same_tests i j e t (omega (arith, en.0.col)) (omega arith) (sym at) in
    ap (λ l. value_at l i j) (changed_at t e es at) ∙ front_value t es i j (subst (λ n. IsRisingFrom (n + 1) es) (sym at) h.1) ∙ elim (cases_Bool (is_at i j t)) [
      | inl here ↦ taken (is_at i j t) t.v (value_at es i j) here ∙ sym (taken (is_at i j t) t.v (value_at (e ∷ es) i j) here)
      | inr other ↦ ap (cond (is_at i j t) t.v) (sym (chosen (is_at i j e) e.v (value_at es i j) (same ∙ other)))
    ])
    (λ behind.
    let apart : is_at i j e ≡ true → is_at i j t ≡ true → ⊥ = λ p q. let one = at_place i j e p in let other = at_place i j t q in absurd (omega arith) in
    ap (λ l. value_at l i j) (changed_behind t e es behind)
    ∙ ap (cond (is_at i j e) e.v) (changed_value rows cols (place e + 1) t es i j side col en.1 h.1) ∙ turned (is_at i j e) (is_at i j t) e.v t.v (value_at es i j) apart)

-- ---- sets one after another

pub put_entries : (rows cols : ℕ) (ts es : List Triple) → All (IsPut rows cols) ts → AreEntries rows cols es → AreEntries rows cols (put_all ts es)
put_entries rows cols [] es p h = h
put_entries rows cols (t ∷ ts) es p h =
    put_entries rows cols ts (changed t es) (All-tail (IsPut rows cols) t ts p) (changed_entries rows cols t es (All-head (IsPut rows cols) t ts p) h)

pub put_rising : (ts es : List Triple) → IsRisingFrom 0 es → IsRisingFrom 0 (put_all ts es)
put_rising [] es h = h
put_rising (t ∷ ts) es h = put_rising ts (changed t es) (changed_rising 0 t es (omega arith) h)

put_value : (rows cols : ℕ) (ts es : List Triple) (i j : ℕ) → cols < 2 ^ 31 → All (IsPut rows cols) ts → AreEntries rows cols es → IsRisingFrom 0 es
    → value_at (put_all ts es) i j ≡ last_value ts i j (value_at es i j)
put_value rows cols [] es i j side p en h = refl
put_value rows cols (t ∷ ts) es i j side p en h =
    let first = All-head (IsPut rows cols) t ts p in
    put_value rows cols ts (changed t es) i j side (All-tail (IsPut rows cols) t ts p) (changed_entries rows cols t es first en) (changed_rising 0 t es (omega arith) h)
    ∙ ap (last_value ts i j) (changed_value rows cols 0 t es i j side first.col en h)

-- two lists of sets with the same last values make one matrix
pub same_put : (rows cols : ℕ) (ss ts es : List Triple) → cols < 2 ^ 31 → All (IsPut rows cols) ss → All (IsPut rows cols) ts → AreEntries rows cols es → IsRisingFrom 0 es
    → ((i j : ℕ) (v : ℤ) → last_value ss i j v ≡ last_value ts i j v) → put_all ss es ≡ put_all ts es
same_put rows cols ss ts es side ps pt en h same =
    same_entries rows cols 0 (put_all ss es) (put_all ts es) side (put_rising ss es h) (put_rising ts es h) (put_entries rows cols ss es ps en) (put_entries rows cols ts es pt en)
    (λ i j. put_value rows cols ss es i j side ps en h ∙ same i j (value_at es i j) ∙ sym (put_value rows cols ts es i j side pt en h))

-- ---- sets in the order of their places

-- only sets that pass a test count, where those at the coordinate pass it
last_filter : (p : Triple → Bool) (i j : ℕ) → ((t : Triple) → is_at i j t ≡ true → p t ≡ true) → (ts : List Triple) (v : ℤ) → last_value (filter p ts) i j v ≡ last_value ts i j v
last_filter p i j h [] v = refl
last_filter p i j h (t ∷ ts) v = of (p t) refl (λ w. last_filter p i j h ts w)
  where
    other : p t ≡ false → is_at i j t ≡ false
    other e = false_from_ne_true (is_at i j t) (λ q. false≢true (sym e ∙ h t q))

    of : (b : Bool) → p t ≡ b → ((w : ℤ) → last_value (filter p ts) i j w ≡ last_value ts i j w)
        → last_value (cond b (t ∷ filter p ts) (filter p ts)) i j v ≡ last_value ts i j (cond (is_at i j t) t.v v)
    of true e more = more (cond (is_at i j t) t.v v)
    of false e more = more v ∙ ap (last_value ts i j) (sym (chosen (is_at i j t) t.v v (other e)))

no_less : (a b : ℕ) → a ≡ b → is_lt (nat_cmp a b) ≡ false
no_less a b e = ap (λ n. is_lt (nat_cmp n b)) e ∙ ap is_lt (tied_itself nat_cmp_total b)

tied : (i j : ℕ) (t : Triple) → is_at i j t ≡ true → ties (λ x y. is_lt (nat_cmp (place x) (place y))) (record { i = i; j = j; v = pos 0 }) t ≡ true
tied i j t h =
    let e = at_place i j t h in
    λ k. not (no_less (2147483648 * i + j) (place t) e k) && not (no_less (place t) (2147483648 * i + j) (sym e) k)

pub stable_values : (xs ys : List Triple) → IsStableByKey place nat_cmp xs ys → (i j : ℕ) (v : ℤ) → last_value ys i j v ≡ last_value xs i j v
stable_values xs ys stable i j v =
    let x : Triple = record { i = i; j = j; v = pos 0 } in
    let p = ties (λ (a b : Triple). is_lt (nat_cmp (place a) (place b))) x in
    sym (last_filter p i j (tied i j) ys v) ∙ ap (λ l. last_value l i j v) (stable x) ∙ last_filter p i j (tied i j) xs v

-- ---- the matrix of entries is theirs

pub in_shape : (rows cols : ℕ) (es : List Triple) → AreEntries rows cols es → All (IsInShape rows cols) es
in_shape rows cols [] h = All-nil (IsInShape rows cols)
in_shape rows cols (e ∷ es) h = All-cons (IsInShape rows cols) e es (record { row = h.0.row; col = h.0.col }) (in_shape rows cols es h.1)

-- its bits alone give the entry
one_entry : (rows cols : ℕ) (t : Triple) (es : List Triple) → IsEntry rows cols t → maps.in_front t.i t.j (cast_unsigned w64 t.v % 2 ^ 64) es ≡ t ∷ es
one_entry rows cols t es en = of (cases_Bool (cast_unsigned w64 t.v % 2 ^ 64 == 0))
  where
    whole : cast_unsigned w64 t.v % 2 ^ 64 ≡ cast_unsigned w64 t.v
    whole = mod-eq_of_lt {n = cast_unsigned w64 t.v} {m = 2 ^ 64} (bits_small t.v en.fits)

    back : cast_signed w64 (cast_unsigned w64 t.v % 2 ^ 64) ≡ t.v
    back = ap (cast_signed w64) whole ∙ to_z-of_z w64 t.v en.fits

    none : cast_unsigned w64 t.v % 2 ^ 64 ≡ 0 → ⊥
    none e = en.value (sym back ∙ ap (cast_signed w64) e)

    is_zero_bits : (n : ℕ) → (n == 0) ≡ true → n ≡ 0
    is_zero_bits n h = grind (arith, nat_tests)

    of : (((cast_unsigned w64 t.v % 2 ^ 64 == 0) ≡ true) ⊎ ((cast_unsigned w64 t.v % 2 ^ 64 == 0) ≡ false)) → maps.in_front t.i t.j (cast_unsigned w64 t.v % 2 ^ 64) es ≡ t ∷ es
    of (inl e) = absurd (none (is_zero_bits _ e))
    of (inr e) = rw e (ap (λ z. record { i = t.i; j = t.j; v = z } ∷ es) back)

-- an entry in front of entries behind it
added_first : (t e : Triple) (es : List Triple) → place t < place e → added t (e ∷ es) ≡ maps.in_front t.i t.j (cast_unsigned w64 t.v % 2 ^ 64) (e ∷ es)
added_first t e es h =
    ap (λ b. cond b (maps.in_front t.i t.j (cast_unsigned w64 t.v % 2 ^ 64) (e ∷ es))
    (cond (place t == place e) (maps.in_front e.i e.j ((cast_unsigned w64 t.v + cast_unsigned w64 e.v) % 2 ^ 64) es) (e ∷ added t es))) (lt_true (place t) (place e) h)

itself_first : (rows cols : ℕ) (t : Triple) (es : List Triple) → IsEntry rows cols t → IsRisingFrom (place t + 1) es → added t es ≡ t ∷ es
itself_first rows cols t [] en h = one_entry rows cols t [] en
itself_first rows cols t (e ∷ es) en h = added_first t e es (omega (arith, h.0)) ∙ one_entry rows cols t (e ∷ es) en

pub entries_itself : (rows cols low : ℕ) (es : List Triple) → AreEntries rows cols es → IsRisingFrom low es → entries_of es ≡ es
unfolding entries_of
entries_itself rows cols low [] en h = refl
entries_itself rows cols low (e ∷ es) en h = ap (added e) (entries_itself rows cols (place e + 1) es en.1 h.1) ∙ itself_first rows cols e es en.0 h.1
