-- Sets in order merged with entries.
use Rattle.std.proofs.Common.{◌≡◌, ◌≢◌, ℕ, zero, suc, ◌+◌, ◌<◌, ◌≤◌, ◌==◌, ◌&&◌, nat_lt, Bool, true, false, cond, List, [], ◌∷◌, ◌++◌, length, take, drop, get_or, ℤ, pos, refl, sym, ap, subst, ◌∙◌, inl, inr, arith, append_assoc, append-nil, length-append, length-drop}
use Rattle.std.specs.Ordering.{int_eq}
use Rattle.std.specs.List.Sorted.{IsNonDecreasingBy}
use Rattle.std.proofs.lemmas.Bool.{cases_lt}
use Rattle.std.proofs.lemmas.Bool.Decides.{nat_tests}
use Rattle.std.proofs.lemmas.List.{drop-drop, get_or-drop, get_or_default, drop_all}
use Rattle.us_matrix.specs.declared.matrix.Triple.{Triple}
use Rattle.us_matrix.specs.Map.{IsEntry, IsRisingFrom, AreEntries, place}
use Rattle.us_changes.specs.Edits.{in_front, none_at, old_values}
use Rattle.us_changes.specs.Keeping.{put_all}
use Rattle.us_changes.specs.Merging.{AreFrom, IsMerged}
use Rattle.us_changes.proofs.PutLemmas.{two, int_same, int_other, lt_true, front_none, front_some, changed_at, changed_first, changed_twice, from_lower, from_rising, put_from, put_front, put_take}
use Rattle.us_changes.proofs.OldLemmas.{old_same, old_other, old_first, new_first, old_take, old_itself}

-- ---- what one set leaves

-- the old entry, where its value is another one
abbrev pub back_changed : Triple → ℤ → List Triple
back_changed o v = cond (int_eq o.v v) [] (o ∷ [])

-- the value 0, where a set makes an entry
abbrev pub back_new : Triple → List Triple
back_new c = cond (int_eq c.v (pos 0)) [] (none_at c ∷ [])

front_append : (c : Triple) (es : List Triple) → in_front c es ≡ in_front c [] ++ es
front_append c es =
    two (in_front c es ≡ in_front c [] ++ es) c.v (pos 0)
    (λ e. front_none c es e ∙ sym (ap (λ l. l ++ es) (front_none c [] e)))
    (λ n. front_some c es n ∙ sym (ap (λ l. l ++ es) (front_some c [] n)))

back_at : (e c : Triple) (es ns : List Triple) → place e ≡ place c → e.v ≢ pos 0 → AreFrom (place c + 1) ns → old_values (e ∷ es) (in_front c ns) ≡ back_changed e c.v ++ old_values es ns
back_at e c es ns at some h =
    two (old_values (e ∷ es) (in_front c ns) ≡ back_changed e c.v ++ old_values es ns) c.v (pos 0)
    (λ z.
    ap (old_values (e ∷ es)) (front_none c ns z) ∙ old_first e es ns (subst (λ k. AreFrom (k + 1) ns) (sym at) h)
    ∙ sym (ap (λ b. cond b [] (e ∷ []) ++ old_values es ns) (int_other e.v c.v (λ q. some (q ∙ z)))))
    (λ n. ap (old_values (e ∷ es)) (front_some c ns n) ∙ two (old_values (e ∷ es) (c ∷ ns) ≡ back_changed e c.v ++ old_values es ns) e.v c.v
    (λ q. old_same e c es ns (sym at) q ∙ sym (ap (λ b. cond b [] (e ∷ []) ++ old_values es ns) (int_same e.v c.v q)))
    (λ q. old_other e c es ns (sym at) q ∙ sym (ap (λ b. cond b [] (e ∷ []) ++ old_values es ns) (int_other e.v c.v q))))

back_before : (c : Triple) (es ns : List Triple) → AreFrom (place c + 1) es → old_values es (in_front c ns) ≡ back_new c ++ old_values es ns
back_before c es ns h =
    two (old_values es (in_front c ns) ≡ back_new c ++ old_values es ns) c.v (pos 0)
    (λ z. ap (old_values es) (front_none c ns z) ∙ sym (ap (λ b. cond b [] (none_at c ∷ []) ++ old_values es ns) (int_same c.v (pos 0) z)))
    (λ n.
    ap (old_values es) (front_some c ns n) ∙ new_first c es ns h ∙ sym (ap (λ b. cond b [] (none_at c ∷ []) ++ old_values es ns) (int_other c.v (pos 0) n)))

changed_short : (o : Triple) (v : ℤ) → length (back_changed o v) ≤ 1
changed_short o v = of (int_eq o.v v)
  where
    of : (b : Bool) → length {A = Triple} (cond b [] (o ∷ [])) ≤ 1
    of true = omega arith
    of false = omega arith

new_short : (c : Triple) → length (back_new c) ≤ 1
new_short c = of (int_eq c.v (pos 0))
  where
    of : (b : Bool) → length {A = Triple} (cond b [] (none_at c ∷ [])) ≤ 1
    of true = omega arith
    of false = omega arith

-- ---- one set, no entry before it

-- what is written before, and what is left, in one list
grouped : (xs ys zs us vs : List Triple) → us ≡ xs ++ ys → vs ≡ ys ++ zs → us ++ zs ≡ xs ++ vs
grouped xs ys zs us vs p q = ap (λ l. l ++ zs) p ∙ append_assoc xs ys zs ∙ ap (λ l. xs ++ l) (sym q)

put_at : (e c : Triple) (es ts : List Triple) → place e ≡ place c → AreFrom (place c + 1) ts → put_all (c ∷ ts) (e ∷ es) ≡ in_front c (put_all ts es)
put_at e c es ts at h = ap (put_all ts) (changed_at c e es (sym at)) ∙ put_front ts c es h

put_before : (c : Triple) (es ts : List Triple) → IsRisingFrom (place c + 1) es → AreFrom (place c + 1) ts → put_all (c ∷ ts) es ≡ in_front c (put_all ts es)
put_before c es ts rising h = ap (put_all ts) (changed_first c es rising) ∙ put_front ts c es h

in_place : (e c : Triple) (es oe ne ob nb : List Triple) (rows cols : ℕ) → IsRisingFrom (place c) (e ∷ es) → IsEntry rows cols e → place e ≡ place c → ne ≡ oe ++ in_front c []
    → nb ≡ ob ++ back_changed e c.v → IsMerged (e ∷ es) c oe ne ob nb 1
in_place e c es oe ne ob nb rows cols rising entry at p q =
    let behind : IsRisingFrom (place c + 1) es = subst (λ k. IsRisingFrom (k + 1) es) at rising.1 in
    record {
      within = omega arith;
      entries = λ cs h. grouped oe (in_front c []) (put_all cs es) ne (put_all (c ∷ cs) (e ∷ es)) p (put_at e c es cs at h ∙ front_append c (put_all cs es));
      back = λ cs h.
          grouped ob (back_changed e c.v) (old_values es (put_all cs es)) nb (old_values (e ∷ es) (put_all (c ∷ cs) (e ∷ es))) q
          (ap (old_values (e ∷ es)) (put_at e c es cs at h) ∙ back_at e c es (put_all cs es) at entry.value (put_from (place c + 1) cs es h (from_rising (place c + 1) es behind)));
      few = omega (arith, ap length q, length-append ob (back_changed e c.v), changed_short e c.v);
    }

in_between : (c : Triple) (es oe ne ob nb : List Triple) → IsRisingFrom (place c + 1) es → ne ≡ oe ++ in_front c [] → nb ≡ ob ++ back_new c → IsMerged es c oe ne ob nb 0
in_between c es oe ne ob nb rising p q = record {
  within = omega arith;
  entries = λ cs h. grouped oe (in_front c []) (put_all cs es) ne (put_all (c ∷ cs) es) p (put_before c es cs rising h ∙ front_append c (put_all cs es));
  back = λ cs h.
      grouped ob (back_new c) (old_values es (put_all cs es)) nb (old_values es (put_all (c ∷ cs) es)) q
      (ap (old_values es) (put_before c es cs rising h) ∙ back_before c es (put_all cs es) (from_rising (place c + 1) es rising));
  few = omega (arith, ap length q, length-append ob (back_new c), new_short c);
}

-- whether the first entry stands at the set's place
abbrev AtFront : Bool → List Triple → Triple → Triple → Type 0
AtFront b rest c d = b ≡ (nat_lt 0 (length rest) && (place (get_or rest 0 d) == place c))

same_number : (a b : ℕ) → true ≡ (a == b) → a ≡ b
same_number a b h = grind (arith, nat_tests)

other_number : (a b : ℕ) → false ≡ (a == b) → b ≤ a → b + 1 ≤ a
other_number a b h le = grind (arith, nat_tests)

-- of entries of which there is one, the test of its place is left
placed : (t : Bool) (n a b : ℕ) → t ≡ (nat_lt 0 (suc n) && (a == b)) → t ≡ (a == b)
placed t n a b h = h ∙ ap (λ s. s && (a == b)) (lt_true 0 (suc n) (omega arith))

pub merged_at : (rest : List Triple) (c d : Triple) (oe ne ob nb : List Triple) (rows cols : ℕ) → IsRisingFrom (place c) rest → AreEntries rows cols rest → AtFront true rest c d
    → ne ≡ oe ++ in_front c [] → nb ≡ ob ++ back_changed (get_or rest 0 d) c.v → IsMerged rest c oe ne ob nb 1
merged_at [] c d oe ne ob nb rows cols rising en at p q = absurd (cc)
merged_at (e ∷ es) c d oe ne ob nb rows cols rising en at p q = in_place e c es oe ne ob nb rows cols rising en.0 (same_number (place e) (place c) (placed true (length es) (place e) (place c) at)) p q

pub merged_before : (rest : List Triple) (c d : Triple) (oe ne ob nb : List Triple) → IsRisingFrom (place c) rest → AtFront false rest c d
    → ne ≡ oe ++ in_front c [] → nb ≡ ob ++ back_new c → IsMerged rest c oe ne ob nb 0
merged_before [] c d oe ne ob nb rising at p q = in_between c [] oe ne ob nb tt p q
merged_before (e ∷ es) c d oe ne ob nb rising at p q = in_between c (e ∷ es) oe ne ob nb (other_number (place e) (place c) (placed false (length es) (place e) (place c) at) rising.0, rising.1) p q

-- ---- one set behind some entries

rising_from : (low w k : ℕ) (ts : List Triple) → IsRisingFrom low ts → ((d : Triple) → k < length ts → w ≤ place (get_or ts k d)) → IsRisingFrom w (drop k ts)
rising_from low w zero [] h above = tt
rising_from low w zero (t ∷ ts) h above = (above t (omega arith), h.1)
rising_from low w (suc k) [] h above = tt
rising_from low w (suc k) (t ∷ ts) h above = rising_from (place t + 1) w k ts h.1 (λ d lt. above d (omega arith))

pub rest_rising : (low w k : ℕ) (ts : List Triple) → IsRisingFrom low ts → ((d : Triple) → k < length ts → w ≤ place (get_or ts k d)) → IsRisingFrom w (drop k ts)
rest_rising low w k ts h above = rising_from low w k ts h above

pub drop_rising : (low k : ℕ) (ts : List Triple) → IsRisingFrom low ts → IsRisingFrom 0 (drop k ts)
drop_rising low k ts h = rising_from low 0 k ts h (λ d lt. omega arith)

pub drop_entries : (rows cols k : ℕ) (ts : List Triple) → AreEntries rows cols ts → AreEntries rows cols (drop k ts)
drop_entries rows cols zero ts h = h
drop_entries rows cols (suc k) [] h = tt
drop_entries rows cols (suc k) (t ∷ ts) h = drop_entries rows cols k ts h.1

pub merged_behind : (rest : List Triple) (c : Triple) (oe me ne ob nb : List Triple) (k n : ℕ) → k ≤ length rest → ((i : ℕ) (d : Triple) → i < k → place (get_or rest i d) < place c)
    → me ≡ oe ++ take k rest → IsMerged (drop k rest) c me ne ob nb n → IsMerged rest c oe ne ob nb (k + n)
merged_behind rest c oe me ne ob nb k n le below e m =
    let turn : drop n (drop k rest) ≡ drop (k + n) rest = drop-drop n k rest in
    let front : (cs : List Triple) → AreFrom (place c + 1) cs → put_all (c ∷ cs) rest ≡ take k rest ++ put_all (c ∷ cs) (drop k rest) =
    λ cs h. put_take k rest (c ∷ cs) (place c) below (omega arith, from_lower (place c + 1) (place c) cs (omega arith) h) in
    record {
      within = omega (arith, m.within, length-drop k rest);
      entries = λ cs h.
          ap (λ l. ne ++ put_all cs l) (sym turn) ∙ m.entries cs h ∙ ap (λ l. l ++ put_all (c ∷ cs) (drop k rest)) e ∙ append_assoc oe (take k rest) (put_all (c ∷ cs) (drop k rest))
          ∙ ap (λ l. oe ++ l) (sym (front cs h));
      back = λ cs h.
          ap (λ l. nb ++ old_values l (put_all cs l)) (sym turn) ∙ m.back cs h
          ∙ ap (λ l. ob ++ l) (sym (ap (old_values rest) (front cs h) ∙ old_take k rest (put_all (c ∷ cs) (drop k rest))));
      few = m.few;
    }

-- one entry more below a place
pub below_more : (rest : List Triple) (k low : ℕ) (e : Triple) → k < length rest → place (get_or rest k e) < low → ((j : ℕ) (d : Triple) → j < k → place (get_or rest j d) < low)
    → (j : ℕ) (d : Triple) → j < k + 1 → place (get_or rest j d) < low
below_more rest k low e lt at h j d less =
    elim (cases_lt j k) [
      | inl before ↦ h j d before
      | inr behind ↦
          let here : j ≡ k = omega arith in
          subst (λ n. place (get_or rest n d) < low) (sym here) (subst (λ x. place x < low) (get_or_default rest k e d lt) at)
    ]

-- ---- all sets

-- what is written, and what the sets from k on make of what is left, is the whole
pub record IsMergedTo (rows cols : ℕ) (sets entries rest out back : List Triple) (k : ℕ) : Type 0 where
  pub entries_are : out ++ put_all (drop k sets) rest ≡ put_all sets entries
  pub back_is : back ++ old_values rest (put_all (drop k sets) rest) ≡ old_values entries (put_all sets entries)
  pub few : length back ≤ k
  pub rising : IsRisingFrom 0 rest
  pub inside : AreEntries rows cols rest
  pub shorter : length rest ≤ length entries

from_each : (low : ℕ) (ts : List Triple) → ((k : ℕ) (d : Triple) → k < length ts → low ≤ place (get_or ts k d)) → AreFrom low ts
from_each low [] h = tt
from_each low (t ∷ ts) h = (h 0 t (omega arith), from_each low ts (λ k d lt. h (suc k) d (omega arith)))

-- whether the next set stands at the same place
abbrev Overwritten : Bool → List Triple → ℕ → Triple → Type 0
Overwritten b sets k d = b ≡ (nat_lt (k + 1) (length sets) && (place (get_or sets (k + 1) d) == place (get_or sets k d)))

apart : (k n a b : ℕ) → false ≡ (nat_lt k n && (a == b)) → k < n → b ≤ a → b + 1 ≤ a
apart k n a b h lt le = grind (arith, nat_tests)

first_drop : (k : ℕ) (ts : List Triple) (d : Triple) → k < length ts → drop k ts ≡ get_or ts k d ∷ drop (k + 1) ts
first_drop zero [] d lt = absurd (omega arith)
first_drop zero (t ∷ ts) d lt = refl
first_drop (suc k) [] d lt = absurd (omega arith)
first_drop (suc k) (t ∷ ts) d lt =
    let on : suc k + 1 ≡ suc (k + 1) = omega arith in
    first_drop k ts d (omega arith) ∙ ap (λ n. get_or ts k d ∷ drop n (t ∷ ts)) (sym on)

later_from : (sets : List Triple) (k : ℕ) (d : Triple) → k < length sets → IsNonDecreasingBy place sets → Overwritten false sets k d → AreFrom (place (get_or sets k d) + 1) (drop (k + 1) sets)
later_from sets k d lt order over =
    from_each (place (get_or sets k d) + 1) (drop (k + 1) sets) (λ n e less.
    let more : k + 1 + n < length sets = omega (arith, length-drop (k + 1) sets) in
    let next = apart (k + 1) (length sets) (place (get_or sets (k + 1) d)) (place (get_or sets k d)) over (omega arith) (order k (k + 1) d (omega arith) (omega arith)) in
    let far : place (get_or sets (k + 1) d) ≤ place (get_or sets (k + 1 + n) d) = order (k + 1) (k + 1 + n) d (omega arith) more in
    let same : get_or (drop (k + 1) sets) n e ≡ get_or sets (k + 1 + n) d = get_or-drop (k + 1) sets n e ∙ get_or_default sets (k + 1 + n) e d more in
    subst (λ x. place (get_or sets k d) + 1 ≤ place x) (sym same) (omega arith))

pub merged_start : (rows cols : ℕ) (sets entries : List Triple) → IsRisingFrom 0 entries → AreEntries rows cols entries → IsMergedTo rows cols sets entries entries [] [] 0
merged_start rows cols sets entries rising inside = record { entries_are = refl; back_is = refl; few = omega arith; rising = rising; inside = inside; shorter = omega arith }

pub merged_more : (rows cols : ℕ) (sets entries rest out out' back back' : List Triple) (k n : ℕ) (d : Triple) → k < length sets → IsNonDecreasingBy place sets → Overwritten false sets k d
    → IsMerged rest (get_or sets k d) out out' back back' n → IsMergedTo rows cols sets entries rest out back k → IsMergedTo rows cols sets entries (drop n rest) out' back' (k + 1)
merged_more rows cols sets entries rest out out' back back' k n d lt order over m h =
    let later = later_from sets k d lt order over in
    let cut = first_drop k sets d lt in
    record {
      entries_are = m.entries (drop (k + 1) sets) later ∙ ap (λ l. out ++ put_all l rest) (sym cut) ∙ h.entries_are;
      back_is = m.back (drop (k + 1) sets) later ∙ ap (λ l. back ++ old_values rest (put_all l rest)) (sym cut) ∙ h.back_is;
      few = omega (arith, m.few, h.few);
      rising = drop_rising 0 n rest h.rising;
      inside = drop_entries rows cols n rest h.inside;
      shorter = omega (arith, length-drop n rest, h.shorter);
    }

overwritten_parts : (k n a b : ℕ) → true ≡ (nat_lt k n && (a == b)) → (k < n) × (a ≡ b)
overwritten_parts k n a b h = of (nat_lt k n) (a == b) refl refl h
  where
    of : (p q : Bool) → nat_lt k n ≡ p → (a == b) ≡ q → true ≡ (p && q) → (k < n) × (a ≡ b)
    of true true e f h = (grind (arith, nat_tests), grind (arith, nat_tests))
    of true false e f h = absurd (cc)
    of false q e f h = absurd (cc)

-- a set that is overwritten by the next one
pub merged_skip : (rows cols : ℕ) (sets entries rest out back : List Triple) (k : ℕ) (d : Triple) → k < length sets → Overwritten true sets k d
    → IsMergedTo rows cols sets entries rest out back k → IsMergedTo rows cols sets entries rest out back (k + 1)
merged_skip rows cols sets entries rest out back k d lt over h =
    let parts = overwritten_parts (k + 1) (length sets) (place (get_or sets (k + 1) d)) (place (get_or sets k d)) over in
    let s = get_or sets k d in
    let t = get_or sets (k + 1) d in
    let next = first_drop (k + 1) sets d parts.0 in
    let same : put_all (drop (k + 1) sets) rest ≡ put_all (drop k sets) rest =
    ap (λ l. put_all l rest) next ∙ ap (put_all (drop (k + 1 + 1) sets)) (sym (changed_twice s t 0 rest parts.1 h.rising))
    ∙ sym (ap (λ l. put_all l rest) (first_drop k sets d lt ∙ ap (λ l. s ∷ l) next)) in
    record {
      entries_are = ap (λ l. out ++ l) same ∙ h.entries_are;
      back_is = ap (λ l. back ++ old_values rest l) same ∙ h.back_is;
      few = omega (arith, h.few);
      rising = h.rising;
      inside = h.inside;
      shorter = h.shorter;
    }

pub merged_end : (rows cols : ℕ) (sets entries rest out back : List Triple) (k : ℕ) → length sets ≤ k → IsMergedTo rows cols sets entries rest out back k
    → (out ++ rest ≡ put_all sets entries) × (back ≡ old_values entries (put_all sets entries))
merged_end rows cols sets entries rest out back k le h =
    let none : drop k sets ≡ [] = drop_all k sets le in (
      ap (λ l. out ++ put_all l rest) (sym none) ∙ h.entries_are,
      sym (append-nil back) ∙ ap (λ l. back ++ l) (sym (old_itself rest)) ∙ ap (λ l. back ++ old_values rest (put_all l rest)) (sym none) ∙ h.back_is,
    )
