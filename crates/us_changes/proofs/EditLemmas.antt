-- Matrices behind scripts, from their sets in order.
use Rattle.std.proofs.Common.{◌≡◌, ℕ, ◌≤◌, List, [], ◌∷◌, map, length, Result, Ok, Err, IfOk, refl, sym, ap, subst, ◌∙◌, arith}
use Rattle.std.specs.List.{All}
use Rattle.std.proofs.lemmas.List.Sorted.{All-permutation, length_permutation}
use Rattle.std.proofs.lemmas.List.Elements.{All-nil, All-cons, All-head, All-tail}
use Rattle.us_matrix.specs.declared.matrix.Triple.{Triple}
use Rattle.us_matrix.specs.Map.{Map, IsEntry, IsMatrix, IsRisingFrom, AreEntries, IsInShape, place, entries_of, matrix_of}
use Rattle.us_script.specs.declared.step.Step.{Step}
use Rattle.us_script.specs.Steps.{AreSets}
use Rattle.us_changes.specs.Edits.{start, after_all, edited, none_at, old_values, as_step, inverse}
use Rattle.us_changes.specs.Keeping.{IsPut, IsInOrder, IsEditedTo, made, put_all}
use Rattle.us_changes.proofs.PutLemmas.{three, two}
use Rattle.us_changes.proofs.OldLemmas.{old_new, old_same, old_other, old_gone}
use Rattle.us_changes.proofs.StateLemmas.{made_put}
use Rattle.us_changes.proofs.ValueLemmas.{same_put, put_entries, put_rising, in_shape, entries_itself}

-- the sets in order give the matrix behind the steps
pub edited_by : (m : Map) (steps : List Step) (sets sorted es : List Triple) → IsMatrix m → ((xs : List Triple) → made xs sets ≡ after_all (start xs) steps) → All (IsPut m.rows m.cols) sets
    → IsInOrder sets sorted → es ≡ put_all sorted m.entries → IsEditedTo m steps es
unfolding edited
edited_by m steps sets sorted es is state inside order made_of =
    let put_sorted = All-permutation (IsPut m.rows m.cols) sets sorted order.permutation inside in
    let same : put_all sorted m.entries ≡ (after_all (start m.entries) steps).entries =
    same_put m.rows m.cols sorted sets m.entries is.cols.high put_sorted inside is.entries is.rising order.values ∙ sym (made_put m.entries sets) ∙ ap (λ s. s.entries) (state m.entries) in
    record {
      entries = made_of ∙ same;
      matrix = record {
        rows = is.rows;
        cols = is.cols;
        entries = subst (AreEntries m.rows m.cols) same (put_entries m.rows m.cols sorted m.entries put_sorted is.entries);
        rising = subst (IsRisingFrom 0) same (put_rising sorted m.entries is.rising);
      };
    }

pub edited_inside : (m : Map) (steps : List Step) (es : List Triple) → IsEditedTo m steps es → All (IsInShape m.rows m.cols) es
unfolding edited
edited_inside m steps es h = in_shape m.rows m.cols es (subst (AreEntries m.rows m.cols) (sym h.entries) h.matrix.entries)

pub matrix_itself : (m : Map) (steps : List Step) (es : List Triple) → IsEditedTo m steps es → matrix_of m.rows m.cols es ≡ edited m steps
unfolding edited
matrix_itself m steps es h =
    let whole : entries_of es ≡ es = entries_itself m.rows m.cols 0 es (subst (AreEntries m.rows m.cols) (sym h.entries) h.matrix.entries) (subst (IsRisingFrom 0) (sym h.entries) h.matrix.rising) in
    ap (λ l. record { rows = m.rows; cols = m.cols; entries = l }) (whole ∙ h.entries)

-- ---- the inverse

put_of : (rows cols : ℕ) (t : Triple) → IsEntry rows cols t → IsPut rows cols t
put_of rows cols t h = record { row = h.row; col = h.col; fits = h.fits }

put_none : (rows cols : ℕ) (t : Triple) → IsEntry rows cols t → IsPut rows cols (none_at t)
put_none rows cols t h = record { row = h.row; col = h.col; fits = record { sfits = omega arith } }

none_puts : (rows cols : ℕ) (ns : List Triple) → AreEntries rows cols ns → All (IsPut rows cols) (map none_at ns)
none_puts rows cols [] h = All-nil (IsPut rows cols)
none_puts rows cols (n ∷ ns) h = All-cons (IsPut rows cols) (none_at n) (map none_at ns) (put_none rows cols n h.0) (none_puts rows cols ns h.1)

first_puts : (rows cols : ℕ) (o : Triple) (os ns : List Triple) → IsEntry rows cols o → ((ms : List Triple) → AreEntries rows cols ms → All (IsPut rows cols) (old_values os ms)) → AreEntries rows cols ns
    → All (IsPut rows cols) (old_values (o ∷ os) ns)
first_puts rows cols o os [] entry more h = All-cons (IsPut rows cols) o (old_values os []) (put_of rows cols o entry) (more [] tt)
first_puts rows cols o os (n ∷ ns) entry more h =
    three (All (IsPut rows cols) (old_values (o ∷ os) (n ∷ ns))) (place n) (place o)
    (λ before.
    subst (All (IsPut rows cols)) (sym (old_new o n os ns before))
    (All-cons (IsPut rows cols) (none_at n) (old_values (o ∷ os) ns) (put_none rows cols n h.0) (first_puts rows cols o os ns entry more h.1)))
    (λ at. two (All (IsPut rows cols) (old_values (o ∷ os) (n ∷ ns))) o.v n.v
    (λ e. subst (All (IsPut rows cols)) (sym (old_same o n os ns at e)) (more ns h.1))
    (λ e. subst (All (IsPut rows cols)) (sym (old_other o n os ns at e)) (All-cons (IsPut rows cols) o (old_values os ns) (put_of rows cols o entry) (more ns h.1))))
    (λ behind.
    subst (All (IsPut rows cols)) (sym (old_gone o n os ns behind)) (All-cons (IsPut rows cols) o (old_values os (n ∷ ns)) (put_of rows cols o entry) (more (n ∷ ns) h)))

pub old_puts : (rows cols : ℕ) (os ns : List Triple) → AreEntries rows cols os → AreEntries rows cols ns → All (IsPut rows cols) (old_values os ns)
old_puts rows cols [] ns p h = none_puts rows cols ns h
old_puts rows cols (o ∷ os) ns p h = first_puts rows cols o os ns p.0 (λ ms q. old_puts rows cols os ms p.1 q) h

-- the old values at the coordinates that differ, all of them in the shape
pub edited_puts : (m : Map) (steps : List Step) (es back : List Triple) → IsMatrix m → IsEditedTo m steps es → back ≡ old_values m.entries (edited m steps).entries → All (IsPut m.rows m.cols) back
unfolding edited
edited_puts m steps es back is h e = subst (All (IsPut m.rows m.cols)) (sym e) (old_puts m.rows m.cols m.entries (after_all (start m.entries) steps).entries is.entries h.matrix.entries)

pub sets_of : (rows cols : ℕ) (ts : List Triple) → All (IsPut rows cols) ts → AreSets rows cols (map as_step ts)
sets_of rows cols [] h = tt
sets_of rows cols (t ∷ ts) h =
    let p = All-head (IsPut rows cols) t ts h in
    ((p.row, p.col, p.fits), sets_of rows cols ts (All-tail (IsPut rows cols) t ts h))

pub inverse_is : (m : Map) (steps : List Step) (back : List Triple) → back ≡ old_values m.entries (edited m steps).entries → map as_step back ≡ inverse m steps
unfolding inverse
inverse_is m steps back e = ap (map as_step) e

-- ---- what a call that sorts and merges gives

pub on_ok : {A E : Type 0} (P Q : A → Type 0) (r : Result A E) → ((x : A) → P x → Q x) → IfOk r P → IfOk r Q
on_ok P Q (Ok x) h p = h x p
on_ok P Q (Err e) h p = tt

-- the sets that are left behind steps, and the same in order, for the shape of a matrix
pub record AreSorted (m : Map) (steps : List Step) (rows cols : ℕ) (sets sorted given es : List Triple) : Type 0 where
  pub is : IsMatrix m
  pub rows_are : rows ≡ m.rows
  pub cols_are : cols ≡ m.cols
  pub state : (xs : List Triple) → made xs sets ≡ after_all (start xs) steps
  pub inside : All (IsPut rows cols) sets
  pub few : length sets ≤ length steps
  pub order : IsInOrder sets sorted
  pub given_are : given ≡ sorted
  pub entries_are : es ≡ m.entries

pub merged_edit : (m : Map) (steps : List Step) (rows cols : ℕ) (sets sorted given es out : List Triple) → AreSorted m steps rows cols sets sorted given es → out ≡ put_all given es
    → IsEditedTo m steps out
merged_edit m steps rows cols sets sorted given es out h e =
    let inside : All (IsPut m.rows m.cols) sets = subst (λ r. All (IsPut r m.cols) sets) h.rows_are (subst (λ k. All (IsPut rows k) sets) h.cols_are h.inside) in
    edited_by m steps sets sorted out h.is h.state inside h.order (e ∙ ap (λ l. put_all l es) h.given_are ∙ ap (put_all sorted) h.entries_are)

pub merged_back : (m : Map) (steps : List Step) (rows cols : ℕ) (sets sorted given es back : List Triple) → AreSorted m steps rows cols sets sorted given es → back ≡ old_values es (put_all given es)
    → back ≡ old_values m.entries (edited m steps).entries
merged_back m steps rows cols sets sorted given es back h e =
    let is = merged_edit m steps rows cols sets sorted given es (put_all given es) h refl in
    e ∙ ap (λ l. old_values l (put_all given es)) h.entries_are ∙ ap (old_values m.entries) is.entries

pub merged_inside : (m : Map) (steps : List Step) (rows cols : ℕ) (sets sorted given es back : List Triple) → AreSorted m steps rows cols sets sorted given es → back ≡ old_values es (put_all given es)
    → All (IsPut m.rows m.cols) back
merged_inside m steps rows cols sets sorted given es back h e =
    edited_puts m steps (put_all given es) back h.is (merged_edit m steps rows cols sets sorted given es (put_all given es) h refl) (merged_back m steps rows cols sets sorted given es back h e)

pub merged_few : (m : Map) (steps : List Step) (rows cols : ℕ) (sets sorted given es back : List Triple) → AreSorted m steps rows cols sets sorted given es → length back ≤ length given
    → length back ≤ length steps
merged_few m steps rows cols sets sorted given es back h le = omega (arith, h.few, ap length h.given_are, length_permutation sets sorted h.order.permutation)
