-- Lines that are wanted, read from the front; and the lines that aren't skipped, when more lines follow.
use Rattle.std.proofs.Common.{◌≡◌, ℕ, suc, ◌+◌, ◌-◌, ◌<◌, ◌≤◌, nat_lt, true, false, cond, List, [], ◌∷◌, ◌++◌, length, take, drop, Ok, Err, Result, refl, sym, ap, ◌∙◌, inl, inr, arith, append-nil, length-append}
use Rattle.std.proofs.lemmas.Bool.{cases_Bool}
use Rattle.std.proofs.lemmas.Bool.Decides.{nat_tests}
use Rattle.std.proofs.lemmas.List.{take_all, take_at, drop_at, drop_all}
use Rattle.std.proofs.Math.Seq.{take-append-add}
use Rattle.us_mm.specs.declared.fault.MmFault.{MmFault}
use Rattle.us_mm.specs.declared.fault.MmFault.TheVariants.{Missing, Extra}
use Rattle.us_mm_lines.specs.Lines.{kept, is_skipped}
use Rattle.us_mm_lines.proofs.LineLemmas.{kept-nil, kept_line, kept_skipped}
use Rattle.us_mm.specs.Reads.{◌>>=◌, each, wanted, no_more}

-- ---- the lines that aren't skipped

pub kept_append : (n : ℕ) (xs ys : List (List ℕ)) → kept n (xs ++ ys) ≡ kept n xs ++ kept (n + length xs) ys
kept_append n [] ys = ap (λ m. kept m ys) (omega arith) ∙ ap (λ l. l ++ kept (n + 0) ys) (sym (kept-nil n))
kept_append n (x ∷ xs) ys =
    let later : kept (n + 1 + length xs) ys ≡ kept (n + suc (length xs)) ys = ap (λ m. kept m ys) (omega arith) in
    elim (cases_Bool (is_skipped x)) [
      | inl skipped ↦
          kept_skipped n x (xs ++ ys) skipped ∙ kept_append (n + 1) xs ys ∙ ap (λ l. kept (n + 1) xs ++ l) later
          ∙ ap (λ l. l ++ kept (n + suc (length xs)) ys) (sym (kept_skipped n x xs skipped))
      | inr line ↦
          kept_line n x (xs ++ ys) line ∙ ap (λ l. (n, x) ∷ l) (kept_append (n + 1) xs ys ∙ ap (λ l. kept (n + 1) xs ++ l) later)
          ∙ ap (λ l. l ++ kept (n + suc (length xs)) ys) (sym (kept_line n x xs line))
    ]

pub kept_same : (n : ℕ) (body : List (List ℕ)) (l : List ℕ) → is_skipped l ≡ true → kept n (body ++ l ∷ []) ≡ kept n body
kept_same n body l h =
    kept_append n body (l ∷ []) ∙ ap (λ ls. kept n body ++ ls) (kept_skipped (n + length body) l [] h ∙ kept-nil (n + length body + 1)) ∙ append-nil (kept n body)

pub kept_more : (n m : ℕ) (body : List (List ℕ)) (l : List ℕ) → is_skipped l ≡ false → m ≡ n + length body → kept n (body ++ l ∷ []) ≡ kept n body ++ (m, l) ∷ []
kept_more n m body l h e =
    kept_append n body (l ∷ []) ∙ ap (λ ls. kept n body ++ ls) (kept_line (n + length body) l [] h ∙ ap (λ ls. (n + length body, l) ∷ ls) (kept-nil (n + length body + 1)))
    ∙ ap (λ k. kept n body ++ (k, l) ∷ []) (sym e)

pub kept_then : (n m : ℕ) (body : List (List ℕ)) (l : List ℕ) (more : List (List ℕ)) → is_skipped l ≡ false → m ≡ n + length body → kept n (body ++ l ∷ more) ≡ kept n body ++ (m, l) ∷ kept (m + 1) more
kept_then n m body l more h e =
    kept_append n body (l ∷ more) ∙ ap (λ ls. kept n body ++ ls) (kept_line (n + length body) l more h)
    ∙ ap (λ k. kept n body ++ (k, l) ∷ kept (k + 1) more) (sym e)

-- ---- one after another

module _ {A B : Type 0} (f : A → Result B MmFault) where
  both_ok : (r : Result B MmFault) (q s : Result (List B) MmFault) (ts : List B) (t : B) → ((zs : List B) → q ≡ Ok zs → s ≡ Ok (zs ++ t ∷ []))
      → (r >>= λ y. q >>= λ ys. Ok (y ∷ ys)) ≡ Ok ts → (r >>= λ y. s >>= λ ys. Ok (y ∷ ys)) ≡ Ok (ts ++ t ∷ [])
  both_ok (Err e) q s ts t h k = absurd (cc)
  both_ok (Ok y) (Err e) s ts t h k = absurd (cc)
  both_ok (Ok y) (Ok zs) s ts t h k =
      let same : y ∷ zs ≡ ts = cc in
      ap (λ x. x >>= λ ys. Ok (y ∷ ys)) (h zs refl) ∙ ap (λ l. Ok (l ++ t ∷ [])) same

  both_err : (r : Result B MmFault) (q s : Result (List B) MmFault) (ts : List B) (m : MmFault) → ((zs : List B) → q ≡ Ok zs → s ≡ Err m)
      → (r >>= λ y. q >>= λ ys. Ok (y ∷ ys)) ≡ Ok ts → (r >>= λ y. s >>= λ ys. Ok (y ∷ ys)) ≡ Err m
  both_err (Err e) q s ts m h k = absurd (cc)
  both_err (Ok y) (Err e) s ts m h k = absurd (cc)
  both_err (Ok y) (Ok zs) s ts m h k = ap (λ x. x >>= λ ys. Ok (y ∷ ys)) (h zs refl)

  pub each_more : (xs : List A) (ts : List B) (p : A) (t : B) → each f xs ≡ Ok ts → f p ≡ Ok t → each f (xs ++ p ∷ []) ≡ Ok (ts ++ t ∷ [])
  each_more [] ts p t h e =
      let none : [] ≡ ts = cc in
      ap (λ r. r >>= λ y. Ok (y ∷ [])) e ∙ ap (λ l. Ok (l ++ t ∷ [])) none
  each_more (x ∷ xs) ts p t h e = both_ok (f x) (each f xs) (each f (xs ++ p ∷ [])) ts t (λ zs k. each_more xs zs p t k e) h

  pub each_fault : (xs : List A) (ts : List B) (p : A) (more : List A) (m : MmFault) → each f xs ≡ Ok ts → f p ≡ Err m → each f (xs ++ p ∷ more) ≡ Err m
  each_fault [] ts p more m h e = ap (λ r. r >>= λ y. each f more >>= λ ys. Ok (y ∷ ys)) e
  each_fault (x ∷ xs) ts p more m h e = both_err (f x) (each f xs) (each f (xs ++ p ∷ more)) ts m (λ zs k. each_fault xs zs p more m k e) h

-- ---- lines that are wanted

is_less : (a b : ℕ) → a < b → nat_lt a b ≡ true
is_less a b h = grind (arith, nat_tests)

is_not_less : (a b : ℕ) → b ≤ a → nat_lt a b ≡ false
is_not_less a b h = grind (arith, nat_tests)

module _ {A : Type 0} (f : ℕ × List ℕ → Result A MmFault) (count : ℕ) (es : List (ℕ × List ℕ)) (ts : List A) (read : each f es ≡ Ok ts) where
  pub wanted_fault : (p : ℕ × List ℕ) (more : List (ℕ × List ℕ)) (m : MmFault) → length es < count → f p ≡ Err m → wanted f count (es ++ p ∷ more) ≡ Err m
  unfolding wanted
  wanted_fault p more m lt e =
      let ls = es ++ p ∷ more in
      let k : ℕ = count - (length es + 1) in
      let at : count ≡ length es + suc k = omega arith in
      let front : take count ls ≡ es ++ p ∷ take k more = ap (λ n. take n ls) at ∙ take-append-add es (p ∷ more) (suc k) in
      ap (λ l. each f l >>= λ xs. cond (nat_lt (length ls) count) (Err (Missing (length ls) count)) (no_more (drop count ls) xs)) front
      ∙ ap (λ r. r >>= λ xs. cond (nat_lt (length ls) count) (Err (Missing (length ls) count)) (no_more (drop count ls) xs)) (each_fault f es ts p (take k more) m read e)

  pub wanted_extra : (p : ℕ × List ℕ) (more : List (ℕ × List ℕ)) → length es ≡ count → wanted f count (es ++ p ∷ more) ≡ Err (Extra p.0)
  unfolding wanted
  wanted_extra p more e =
      let ls = es ++ p ∷ more in
      ap (λ l. each f l >>= λ xs. cond (nat_lt (length ls) count) (Err (Missing (length ls) count)) (no_more (drop count ls) xs)) (take_at es (p ∷ more) count e)
      ∙ ap (λ r. r >>= λ xs. cond (nat_lt (length ls) count) (Err (Missing (length ls) count)) (no_more (drop count ls) xs)) read
      ∙ ap (λ b. cond b (Err (Missing (length ls) count)) (no_more (drop count ls) ts)) (is_not_less (length ls) count (omega (arith, length-append es (p ∷ more))))
      ∙ ap (λ l. no_more l ts) (drop_at es (p ∷ more) count e)

  pub wanted_short : length es < count → wanted f count es ≡ Err (Missing (length es) count)
  unfolding wanted
  wanted_short lt =
      ap (λ l. each f l >>= λ xs. cond (nat_lt (length es) count) (Err (Missing (length es) count)) (no_more (drop count es) xs)) (take_all count es (omega arith))
      ∙ ap (λ r. r >>= λ xs. cond (nat_lt (length es) count) (Err (Missing (length es) count)) (no_more (drop count es) xs)) read
      ∙ ap (λ b. cond b (Err (Missing (length es) count)) (no_more (drop count es) ts)) (is_less (length es) count lt)

  pub wanted_full : length es ≡ count → wanted f count es ≡ Ok ts
  unfolding wanted
  wanted_full e =
      ap (λ l. each f l >>= λ xs. cond (nat_lt (length es) count) (Err (Missing (length es) count)) (no_more (drop count es) xs)) (take_all count es (omega arith))
      ∙ ap (λ r. r >>= λ xs. cond (nat_lt (length es) count) (Err (Missing (length es) count)) (no_more (drop count es) xs)) read
      ∙ ap (λ b. cond b (Err (Missing (length es) count)) (no_more (drop count es) ts)) (is_not_less (length es) count (omega arith))
      ∙ ap (λ l. no_more l ts) (drop_all count es (omega arith))
