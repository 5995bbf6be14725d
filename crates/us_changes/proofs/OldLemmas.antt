-- The old values where entries differ.
use Rattle.std.proofs.Common.{◌≡◌, ◌≢◌, ℕ, zero, suc, ◌+◌, ◌<◌, ◌≤◌, ◌==◌, ◌^◌, cond, List, [], ◌∷◌, ◌++◌, map, take, drop, refl, sym, ap, subst, ◌∙◌, arith}
use Rattle.std.specs.Ordering.{int_eq}
use Rattle.us_matrix.specs.declared.matrix.Triple.{Triple}
use Rattle.us_matrix.specs.Map.{IsEntry, IsRisingFrom, AreEntries, place}
use Rattle.us_changes.specs.Edits.{none_at, old_values}
use Rattle.us_changes.specs.Keeping.{put_all}
use Rattle.us_changes.specs.Merging.{AreFrom}
use Rattle.us_changes.proofs.PutLemmas.{three, two, int_same, int_other, lt_true, lt_false, eq_true, eq_false, front_none, front_some, changed_before, changed_at, from_rising, put_behind}

-- ---- the cases of two entries

-- an old entry against a new one that doesn't stand before it
abbrev not_new : Triple → Triple → List Triple → List Triple → List Triple
not_new o n os ns = cond (place n == place o) (cond (int_eq o.v n.v) (old_values os ns) (o ∷ old_values os ns)) (o ∷ old_values os (n ∷ ns))

old_at : (o n : Triple) (os ns : List Triple) → place n ≡ place o → old_values (o ∷ os) (n ∷ ns) ≡ cond (int_eq o.v n.v) (old_values os ns) (o ∷ old_values os ns)
old_at o n os ns at =
    ap (λ b. cond b (none_at n ∷ old_values (o ∷ os) ns) (not_new o n os ns)) (lt_false (place n) (place o) (omega arith))
    ∙ ap (λ b. cond b (cond (int_eq o.v n.v) (old_values os ns) (o ∷ old_values os ns)) (o ∷ old_values os (n ∷ ns))) (eq_true (place n) (place o) at)

pub old_new : (o n : Triple) (os ns : List Triple) → place n < place o → old_values (o ∷ os) (n ∷ ns) ≡ none_at n ∷ old_values (o ∷ os) ns
old_new o n os ns before = ap (λ b. cond b (none_at n ∷ old_values (o ∷ os) ns) (not_new o n os ns)) (lt_true (place n) (place o) before)

pub old_same : (o n : Triple) (os ns : List Triple) → place n ≡ place o → o.v ≡ n.v → old_values (o ∷ os) (n ∷ ns) ≡ old_values os ns
old_same o n os ns at e = old_at o n os ns at ∙ ap (λ b. cond b (old_values os ns) (o ∷ old_values os ns)) (int_same o.v n.v e)

pub old_other : (o n : Triple) (os ns : List Triple) → place n ≡ place o → o.v ≢ n.v → old_values (o ∷ os) (n ∷ ns) ≡ o ∷ old_values os ns
old_other o n os ns at e = old_at o n os ns at ∙ ap (λ b. cond b (old_values os ns) (o ∷ old_values os ns)) (int_other o.v n.v e)

pub old_gone : (o n : Triple) (os ns : List Triple) → place o < place n → old_values (o ∷ os) (n ∷ ns) ≡ o ∷ old_values os (n ∷ ns)
old_gone o n os ns behind =
    ap (λ b. cond b (none_at n ∷ old_values (o ∷ os) ns) (not_new o n os ns)) (lt_false (place n) (place o) (omega arith))
    ∙ ap (λ b. cond b (cond (int_eq o.v n.v) (old_values os ns) (o ∷ old_values os ns)) (o ∷ old_values os (n ∷ ns))) (eq_false (place n) (place o) behind)

-- ---- one entry against all others

pub old_first : (o : Triple) (os ns : List Triple) → AreFrom (place o + 1) ns → old_values (o ∷ os) ns ≡ o ∷ old_values os ns
old_first o os [] h = refl
old_first o os (n ∷ ns) h = old_gone o n os ns (omega (arith, h.0))

pub new_first : (n : Triple) (os ns : List Triple) → AreFrom (place n + 1) os → old_values os (n ∷ ns) ≡ none_at n ∷ old_values os ns
new_first n [] ns h = refl
new_first n (o ∷ os) ns h = old_new o n os ns (omega (arith, h.0))

-- entries in front that stay don't count
pub old_take : (n : ℕ) (es ns : List Triple) → old_values es (take n es ++ ns) ≡ old_values (drop n es) ns
old_take zero es ns = refl
old_take (suc n) [] ns = refl
old_take (suc n) (e ∷ es) ns = old_same e e es (take n es ++ ns) refl refl ∙ old_take n es ns

pub old_itself : (es : List Triple) → old_values es es ≡ []
old_itself [] = refl
old_itself (e ∷ es) = old_same e e es es refl refl ∙ old_itself es

-- ---- where they stand

none_from : (low : ℕ) (ns : List Triple) → AreFrom low ns → AreFrom low (map none_at ns)
none_from low [] h = tt
none_from low (n ∷ ns) h = (h.0, none_from low ns h.1)

mutual_from : (low : ℕ) (o : Triple) (os ns : List Triple) → low ≤ place o → ((ms : List Triple) → AreFrom low ms → AreFrom low (old_values os ms)) → AreFrom low ns
    → AreFrom low (old_values (o ∷ os) ns)
mutual_from low o os [] le more h = (le, more [] tt)
mutual_from low o os (n ∷ ns) le more h =
    three (AreFrom low (old_values (o ∷ os) (n ∷ ns))) (place n) (place o)
    (λ before. subst (AreFrom low) (sym (old_new o n os ns before)) (h.0, mutual_from low o os ns le more h.1))
    (λ at. two (AreFrom low (old_values (o ∷ os) (n ∷ ns))) o.v n.v
    (λ e. subst (AreFrom low) (sym (old_same o n os ns at e)) (more ns h.1))
    (λ e. subst (AreFrom low) (sym (old_other o n os ns at e)) (le, more ns h.1)))
    (λ behind. subst (AreFrom low) (sym (old_gone o n os ns behind)) (le, more (n ∷ ns) h))

pub old_from : (low : ℕ) (os ns : List Triple) → AreFrom low os → AreFrom low ns → AreFrom low (old_values os ns)
old_from low [] ns p h = none_from low ns h
old_from low (o ∷ os) ns p h = mutual_from low o os ns p.0 (λ ms q. old_from low os ms p.1 q) h

-- ---- put into the new entries they give the old ones

same_place : (s t : Triple) → s.j < 2 ^ 31 → t.j < 2 ^ 31 → place s ≡ place t → (s.i ≡ t.i) × (s.j ≡ t.j)
same_place s t a b e = (omega arith, omega arith)

same_triple : (s t : Triple) → s.i ≡ t.i → s.j ≡ t.j → s.v ≡ t.v → s ≡ t
same_triple s t a b c = λ k. record { i = a k; j = b k; v = c k }

none_put : (ns : List Triple) → put_all (map none_at ns) ns ≡ []
none_put [] = refl
none_put (n ∷ ns) = ap (put_all (map none_at ns)) (changed_at (none_at n) n ns refl ∙ front_none (none_at n) ns refl) ∙ none_put ns

-- all that differs stands behind an entry
behind_both : (e : Triple) (os ns : List Triple) → IsRisingFrom (place e + 1) os → IsRisingFrom (place e + 1) ns → AreFrom (place e + 1) (old_values os ns)
behind_both e os ns p q = old_from (place e + 1) os ns (from_rising (place e + 1) os p) (from_rising (place e + 1) ns q)

first_put : (rows cols : ℕ) (o : Triple) (os ns : List Triple) → cols < 2 ^ 31 → IsEntry rows cols o → IsRisingFrom (place o + 1) os
    → ((low : ℕ) (ms : List Triple) → AreEntries rows cols ms → IsRisingFrom low ms → put_all (old_values os ms) ms ≡ os)
    → (low : ℕ) → AreEntries rows cols ns → IsRisingFrom low ns → put_all (old_values (o ∷ os) ns) ns ≡ o ∷ os
first_put rows cols o os [] side entry rising more low en rn =
    ap (put_all (old_values os [])) (front_some o [] entry.value) ∙ put_behind (old_values os []) o [] (behind_both o os [] rising tt)
    ∙ ap (λ l. o ∷ l) (more 0 [] tt tt)
first_put rows cols o os (n ∷ ns) side entry rising more low en rn =
    three (put_all (old_values (o ∷ os) (n ∷ ns)) (n ∷ ns) ≡ o ∷ os) (place n) (place o)
    (λ before.
    ap (λ l. put_all l (n ∷ ns)) (old_new o n os ns before)
    ∙ ap (put_all (old_values (o ∷ os) ns)) (changed_at (none_at n) n ns refl ∙ front_none (none_at n) ns refl)
    ∙ first_put rows cols o os ns side entry rising more (place n + 1) en.1 rn.1)
    (λ at.
    let behind_n : IsRisingFrom (place o + 1) ns = subst (λ k. IsRisingFrom (k + 1) ns) at rn.1 in
    two (put_all (old_values (o ∷ os) (n ∷ ns)) (n ∷ ns) ≡ o ∷ os) o.v n.v
    (λ e.
    let both = same_place n o (omega (arith, en.0.col)) (omega (arith, entry.col)) at in
    ap (λ l. put_all l (n ∷ ns)) (old_same o n os ns at e)
    ∙ ap (λ t. put_all (old_values os ns) (t ∷ ns)) (same_triple n o both.0 both.1 (sym e))
    ∙ put_behind (old_values os ns) o ns (behind_both o os ns rising behind_n) ∙ ap (λ l. o ∷ l) (more (place o + 1) ns en.1 behind_n))
    (λ e.
    ap (λ l. put_all l (n ∷ ns)) (old_other o n os ns at e)
    ∙ ap (put_all (old_values os ns)) (changed_at o n ns (sym at) ∙ front_some o ns entry.value)
    ∙ put_behind (old_values os ns) o ns (behind_both o os ns rising behind_n) ∙ ap (λ l. o ∷ l) (more (place o + 1) ns en.1 behind_n)))
    (λ behind.
    let whole : IsRisingFrom (place o + 1) (n ∷ ns) = (omega arith, rn.1) in
    ap (λ l. put_all l (n ∷ ns)) (old_gone o n os ns behind)
    ∙ ap (put_all (old_values os (n ∷ ns))) (changed_before o n ns behind ∙ front_some o (n ∷ ns) entry.value)
    ∙ put_behind (old_values os (n ∷ ns)) o (n ∷ ns) (behind_both o os (n ∷ ns) rising whole) ∙ ap (λ l. o ∷ l) (more (place o + 1) (n ∷ ns) en whole))

pub old_put : (rows cols : ℕ) (os ns : List Triple) (high low : ℕ) → cols < 2 ^ 31 → AreEntries rows cols os → IsRisingFrom high os → AreEntries rows cols ns → IsRisingFrom low ns
    → put_all (old_values os ns) ns ≡ os
old_put rows cols [] ns high low side eo ro en rn = none_put ns
old_put rows cols (o ∷ os) ns high low side eo ro en rn =
    first_put rows cols o os ns side eo.0 ro.1 (λ l ms em rm. old_put rows cols os ms (place o + 1) l side eo.1 ro.1 em rm) low en rn
