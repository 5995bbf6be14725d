-- Triples at different coordinates make a matrix whose entries are the triples.
use Rattle.std.proofs.Common.{◌≡◌, ◌≢◌, ℕ, suc, ◌%◌, ◌^◌, ◌<◌, ◌==◌, ◌⊎◌, nat_lt, List, [], ◌∷◌, map, get_or, true, false, ℤ, pos, FitsSigned, sym, refl, ap, ◌∙◌, subst, inl, inr, arith, None, All}
use Rattle.std.specs.Int.{w64, cast_unsigned, cast_signed}
use Rattle.std.proofs.Math.Nat.{mod-eq_of_lt}
use Rattle.std.proofs.lemmas.Bool.{cases_Bool, false≢true}
use Rattle.std.proofs.lemmas.Bool.Decides.{nat_tests}
use Rattle.std.proofs.lemmas.Int.{to_z-of_z}
use Rattle.std.proofs.lemmas.List.{get_or_default}
use Rattle.std.proofs.lemmas.List.Elements.{All-nil, All-cons, All-head, All-tail}
use Rattle.us_matrix.specs.declared.matrix.Triple.{Triple}
use Rattle.us_matrix.specs.Map.{IsSide, IsInShape, place, in_front, added, entries_of, matrix_of}
use Rattle.us_matrix.proofs.Merge.{bits_small}
use Rattle.us_matrix.proofs.EntriesOf.{matrix_of-IsMatrix}
use Rattle.us_format.specs.Matrix.{Shape, Entry, is_zero}
use Rattle.us_format.specs.Program.{plain_entry, plain_entries, entries_in}
use Rattle.us_format.proofs.Order.{Mem, Mem-map, Mem-of_map}
use Rattle.us_format.proofs.Members.{contains-Mem, Mem-contains, all-Mem}
use Rattle.us_format.proofs.FromProgram.{program-matrix}
use Rattle.us_climb.specs.declared.found.Found.{Found}
use Rattle.us_check.specs.Repeats.{entry_at, found_entries, IsFirstRepeat, IsInOrder, IsInside}

-- a value that is kept as it is when it is added up
pub record IsKept (t : Triple) : Type 0 where
  pub fits : FitsSigned w64 t.v
  pub some : t.v ≢ pos 0

-- its bits alone give the triple
front-is : (t : Triple) (ts : List Triple) → IsKept t → in_front t.i t.j (cast_unsigned w64 t.v % 2 ^ 64) ts ≡ t ∷ ts
front-is t ts k = go (cases_Bool (cast_unsigned w64 t.v % 2 ^ 64 == 0))
  where
    whole : cast_unsigned w64 t.v % 2 ^ 64 ≡ cast_unsigned w64 t.v
    whole = mod-eq_of_lt {n = cast_unsigned w64 t.v} {m = 2 ^ 64} (bits_small t.v k.fits)

    back : cast_signed w64 (cast_unsigned w64 t.v % 2 ^ 64) ≡ t.v
    back = ap (cast_signed w64) whole ∙ to_z-of_z w64 t.v k.fits

    none : cast_unsigned w64 t.v % 2 ^ 64 ≡ 0 → ⊥
    none e = k.some (sym back ∙ ap (cast_signed w64) e)

    is_zero_bits : (n : ℕ) → (n == 0) ≡ true → n ≡ 0
    is_zero_bits n h = grind (arith, nat_tests)

    go : (((cast_unsigned w64 t.v % 2 ^ 64 == 0) ≡ true) ⊎ ((cast_unsigned w64 t.v % 2 ^ 64 == 0) ≡ false)) → in_front t.i t.j (cast_unsigned w64 t.v % 2 ^ 64) ts ≡ t ∷ ts
    go (inl e) = absurd (none (is_zero_bits _ e))
    go (inr e) = rw e (ap (λ z. record { i = t.i; j = t.j; v = z } ∷ ts) back)

not-here : (a b : ℕ) → (a ≡ b → ⊥) → (a == b) ≡ false
not-here a b n = grind (arith, nat_tests)

-- a triple at a new place is one entry more
pub record IsAdded (t : Triple) (es : List Triple) : Type 0 where
  pub from : (x : Triple) → Mem x (added t es) → (t ≡ x) ⊎ Mem x es
  pub there : (x : Triple) → (t ≡ x) ⊎ Mem x es → Mem x (added t es)

pub added-is : (t : Triple) (es : List Triple) → IsKept t → ((y : Triple) → Mem y es → place t ≡ place y → ⊥) → IsAdded t es
added-is t [] k n = record {
  from = λ x m. subst (λ (l : List Triple). Mem x l) (front-is t [] k) m;
  there = λ x m. subst (λ (l : List Triple). Mem x l) (sym (front-is t [] k)) m;
}
added-is t (e ∷ es) k n = go (cases_Bool (nat_lt (place t) (place e))) (added-is t es k (λ y m. n y (inr m)))
  where
    go : ((nat_lt (place t) (place e) ≡ true) ⊎ (nat_lt (place t) (place e) ≡ false)) → IsAdded t es → IsAdded t (e ∷ es)
    go (inl b) ih =
        let is : added t (e ∷ es) ≡ t ∷ e ∷ es = rw b (front-is t (e ∷ es) k) in
        record { from = λ x m. subst (λ (l : List Triple). Mem x l) is m; there = λ x m. subst (λ (l : List Triple). Mem x l) (sym is) m }
    go (inr b) ih = record { from = λ x m. back x (subst (λ (l : List Triple). Mem x l) is m); there = λ x m. subst (λ (l : List Triple). Mem x l) (sym is) (on x m) }
      where
        is : added t (e ∷ es) ≡ e ∷ added t es
        is = rw (b, not-here (place t) (place e) (n e (inl refl))) refl

        back : (x : Triple) → Mem x (e ∷ added t es) → (t ≡ x) ⊎ Mem x (e ∷ es)
        back x (inl q) = inr (inl q)
        back x (inr m) = two (ih.from x m)
          where
            two : ((t ≡ x) ⊎ Mem x es) → (t ≡ x) ⊎ Mem x (e ∷ es)
            two (inl q) = inl q
            two (inr l) = inr (inr l)

        on : (x : Triple) → (t ≡ x) ⊎ Mem x (e ∷ es) → Mem x (e ∷ added t es)
        on x (inl q) = inr (ih.there x (inl q))
        on x (inr (inl q)) = inl q
        on x (inr (inr m)) = inr (ih.there x (inr m))

-- no triple stands where another does
abbrev pub Apart : List Triple → Type 0
Apart [] = Unit {0}
Apart (t ∷ ts) = ((y : Triple) → Mem y ts → place t ≡ place y → ⊥) × Apart ts

-- the entries that triples apart make are the triples
pub record HasEntries (ts : List Triple) : Type 0 where
  pub from : (x : Triple) → Mem x (entries_of ts) → Mem x ts
  pub there : (x : Triple) → Mem x ts → Mem x (entries_of ts)

pub entries-are : (ts : List Triple) → All IsKept ts → Apart ts → HasEntries ts
unfolding entries_of
entries-are [] k a = record { from = λ x m. m; there = λ x m. m }
entries-are (t ∷ ts) k a = go (entries-are ts (All-tail IsKept t ts k) a.1)
  where
    go : HasEntries ts → HasEntries (t ∷ ts)
    go ih = record { from = λ x m. back x (p.from x m); there = λ x m. p.there x (on x m) }
      where
        p : IsAdded t (entries_of ts)
        p = added-is t (entries_of ts) (All-head IsKept t ts k) (λ y m. a.0 y (ih.from y m))

        back : (x : Triple) → ((t ≡ x) ⊎ Mem x (entries_of ts)) → (t ≡ x) ⊎ Mem x ts
        back x (inl q) = inl q
        back x (inr m) = inr (ih.from x m)

        on : (x : Triple) → ((t ≡ x) ⊎ Mem x ts) → (t ≡ x) ⊎ Mem x (entries_of ts)
        on x (inl q) = inl q
        on x (inr m) = inr (ih.there x m)

same_coordinate : (s t : Triple) → s.j < 2147483648 → t.j < 2147483648 → place s ≡ place t → (s.i ≡ t.i) × (s.j ≡ t.j)
same_coordinate s t a b e = (omega arith, omega arith)

-- triples in a shape whose coordinates differ are apart
pub apart-from : (rows cols : ℕ) (ts : List Triple) → cols < 2 ^ 31 → All (IsInShape rows cols) ts → IsFirstRepeat (plain_entries ts) None → Apart ts
apart-from rows cols [] c inside n = tt
apart-from rows cols (t ∷ ts) c inside n = (first, apart-from rows cols ts c (All-tail (IsInShape rows cols) t ts inside) (λ k l (h, b, s). n (suc k) (omega (arith, l)) (suc h, omega (arith, b), s)))
  where
    first : (y : Triple) → Mem y ts → place t ≡ place y → ⊥
    first y m e =
        let head : IsInShape rows cols t = All-head (IsInShape rows cols) t ts inside in
        let other : IsInShape rows cols y = all-Mem (IsInShape rows cols) ts y (All-tail (IsInShape rows cols) t ts inside) m in
        let both = same_coordinate t y (omega (arith, head.col, c)) (omega (arith, other.col, c)) e in
        let r = Mem-contains (plain_entries ts) (plain_entry y) (Mem-map plain_entry y ts m) in
        let is : entry_at (plain_entries ts) r.0 ≡ plain_entry y = get_or_default (plain_entries ts) r.0 (record { i = 0; j = 0; v = pos 0 }) (plain_entry y) r.1 ∙ r.2 in
        n (suc r.0) (omega (arith, r.1)) (0, omega arith, (both.0 ∙ sym (ap (λ (x : Entry). x.i) is), both.1 ∙ sym (ap (λ (x : Entry). x.j) is)))

-- the entries of a matrix of triples are the triples, in row-major order
pub made-in-order : (rows cols : ℕ) (ts : List Triple) → IsSide rows → IsSide cols → All (IsInShape rows cols) ts → All IsKept ts → IsFirstRepeat (plain_entries ts) None
    → IsInOrder (plain_entries ts) (entries_in (matrix_of rows cols ts))
made-in-order rows cols ts r c inside k n = record {
  rising = (program-matrix (matrix_of rows cols ts) (matrix_of-IsMatrix rows cols ts r c inside)).sorted;
  same = λ e. (
    (λ h. Mem-contains (plain_entries ts) e (moved (entries_of ts) ts (entries-are ts k apart).from e (contains-Mem (plain_entries (entries_of ts)) e h))),
    (λ h. Mem-contains (plain_entries (entries_of ts)) e (moved ts (entries_of ts) (entries-are ts k apart).there e (contains-Mem (plain_entries ts) e h))),
  );
}
  where
    apart : Apart ts
    apart = apart-from rows cols ts c.high inside n

    moved : (xs ys : List Triple) → ((x : Triple) → Mem x xs → Mem x ys) → (e : Entry) → Mem e (plain_entries xs) → Mem e (plain_entries ys)
    moved xs ys f e m =
        let t = Mem-of_map plain_entry e xs m in
        subst (λ (z : Entry). Mem z (plain_entries ys)) t.2 (Mem-map plain_entry t.0 ys (f t.0 t.1))

-- ---- entries that were found

pub triples-entries : (fs : List Found) → plain_entries (map (λ (f : Found). f.triple) fs) ≡ found_entries fs
triples-entries [] = refl
triples-entries (f ∷ fs) = ap (λ (l : List Entry). plain_entry f.triple ∷ l) (triples-entries fs)

abbrev pub FoundInside : Shape → List Found → Type 0
FoundInside s fs = All (λ (f : Found). IsInside s (plain_entry f.triple)) fs

pub found-in_shape : (rows cols : ℕ) (fs : List Found) → FoundInside (record { rows = rows; cols = cols }) fs → All (IsInShape rows cols) (map (λ (f : Found). f.triple) fs)
found-in_shape rows cols [] h = All-nil (IsInShape rows cols)
found-in_shape rows cols (f ∷ fs) h =
    let head : IsInside (record { rows = rows; cols = cols }) (plain_entry f.triple) = All-head (λ (f : Found). IsInside (record { rows = rows; cols = cols }) (plain_entry f.triple)) f fs h in
    All-cons (IsInShape rows cols) f.triple (map (λ (f : Found). f.triple) fs) (record { row = head.row; col = head.col })
    (found-in_shape rows cols fs (All-tail (λ (f : Found). IsInside (record { rows = rows; cols = cols }) (plain_entry f.triple)) f fs h))

not-zero : (v : ℤ) → is_zero v ≡ false → v ≢ pos 0
not-zero v h e = false≢true (sym h ∙ ap is_zero e)

pub found-kept : (s : Shape) (fs : List Found) → FoundInside s fs → All (λ (t : Triple). FitsSigned w64 t.v) (map (λ (f : Found). f.triple) fs) → All IsKept (map (λ (f : Found). f.triple) fs)
found-kept s [] h g = All-nil IsKept
found-kept s (f ∷ fs) h g =
    let head : IsInside s (plain_entry f.triple) = All-head (λ (f : Found). IsInside s (plain_entry f.triple)) f fs h in
    All-cons IsKept f.triple (map (λ (f : Found). f.triple) fs)
    (record { fits = All-head (λ (t : Triple). FitsSigned w64 t.v) f.triple (map (λ (f : Found). f.triple) fs) g; some = not-zero f.triple.v head.some })
    (found-kept s fs (All-tail (λ (f : Found). IsInside s (plain_entry f.triple)) f fs h) (All-tail (λ (t : Triple). FitsSigned w64 t.v) f.triple (map (λ (f : Found). f.triple) fs) g))

pub found-in-order : (rows cols : ℕ) (fs : List Found) (ts : List Triple) → IsSide rows → IsSide cols → ts ≡ map (λ (f : Found). f.triple) fs → FoundInside (record { rows = rows; cols = cols }) fs
    → All (λ (t : Triple). FitsSigned w64 t.v) ts → IsFirstRepeat (found_entries fs) None → IsInOrder (found_entries fs) (entries_in (matrix_of rows cols ts))
found-in-order rows cols fs ts r c e inside fits n =
    subst (λ (l : List Triple). IsInOrder (found_entries fs) (entries_in (matrix_of rows cols l))) (sym e)
    (subst (λ (l : List Entry). IsInOrder l (entries_in (matrix_of rows cols (map (λ (f : Found). f.triple) fs)))) (triples-entries fs)
    (made-in-order rows cols (map (λ (f : Found). f.triple) fs) r c (found-in_shape rows cols fs inside)
    (found-kept (record { rows = rows; cols = cols }) fs inside (subst (λ (l : List Triple). All (λ (t : Triple). FitsSigned w64 t.v) l) e fits))
    (subst (λ (l : List Entry). IsFirstRepeat l None) (sym (triples-entries fs)) n)))

pub found-below : (s : Shape) (fs : List Found) → IsSide s.cols → FoundInside s fs → All (λ (f : Found). f.triple.j < 2 ^ 31) fs
found-below s fs c h k d l = let inside : IsInside s (plain_entry (get_or fs k d).triple) = h k d l in omega (arith, inside.col, c.high)
