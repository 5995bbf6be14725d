-- The buffers of extents and tables are new ones, none twice.
use Rattle.std.proofs.Common.{◌≡◌, ℕ, zero, suc, ◌+◌, ◌*◌, ◌<◌, ◌≤◌, Bool, true, false, not, ◌&&◌, ◌||◌, nat_eq, refl, sym, ap, ap₂, ◌∙◌, subst, arith, List, [], ◌∷◌, ◌++◌, length}
use Rattle.std.proofs.lemmas.Bool.Decides.{nat_tests}
use Rattle.us_code.specs.Typing.{is_listed, are_distinct}
use Rattle.us_code_laws.proofs.Sound.{both_true}
use Rattle.us_format.specs.Declaration.{Query, SumOf, Enumerate, Reorder, Schedule}
use Rattle.us_gen_counting.specs.Phases.{extents, tables, buffers}
use Rattle.us_gen_counting.specs.Answers.{AreNew, BuffersAreNew}

equal : (a b : ℕ) → nat_eq a b ≡ true → a ≡ b
equal a b h = grind (arith, nat_tests)

not_listed : (b : ℕ) (xs : List ℕ) → (is_listed b xs ≡ true → ⊥) → not (is_listed b xs) ≡ true
not_listed b xs h = case (is_listed b xs) refl
  where
    case : (x : Bool) → is_listed b xs ≡ x → not x ≡ true
    case true e = absurd (h e)
    case false e = refl

-- a number r behind the start of one of the queries
record Stands (r n b : ℕ) (qs : List Query) : Type 0 where
  k : ℕ
  is : b ≡ n + 64 * k + r
  below : k < length qs

later : (r n b : ℕ) (q : Query) (qs : List Query) → Stands r (n + 64) b qs → Stands r n b (q ∷ qs)
later r n b q qs s = record { k = suc s.k; is = omega (arith, s.is); below = omega (arith, s.below) }

here_or : (r n b : ℕ) (q : Query) (qs : List Query) (x : Bool) → nat_eq b (n + r) || x ≡ true → (x ≡ true → Stands r (n + 64) b qs) → Stands r n b (q ∷ qs)
here_or r n b q qs x h f = case (nat_eq b (n + r)) refl h
  where
    case : (y : Bool) → nat_eq b (n + r) ≡ y → y || x ≡ true → Stands r n b (q ∷ qs)
    case true e h = let at : b ≡ n + r = equal b (n + r) e in record { k = 0; is = omega (arith, at); below = omega arith }
    case false e h = later r n b q qs (f h)

extent_stands : (qs : List Query) (n b : ℕ) → is_listed b (extents qs n) ≡ true → Stands 3 n b qs
extent_stands [] n b h = absurd cc
extent_stands (SumOf v e ∷ qs) n b h = later 3 n b (SumOf v e) qs (extent_stands qs (n + 64) b h)
extent_stands (Enumerate v e ∷ qs) n b h = here_or 3 n b (Enumerate v e) qs (is_listed b (extents qs (n + 64))) h (extent_stands qs (n + 64) b)
extent_stands (Reorder v e ∷ qs) n b h = later 3 n b (Reorder v e) qs (extent_stands qs (n + 64) b h)
extent_stands (Schedule l u e lanes ∷ qs) n b h = here_or 3 n b (Schedule l u e lanes) qs (is_listed b (extents qs (n + 64))) h (extent_stands qs (n + 64) b)

table_stands : (qs : List Query) (n b : ℕ) → is_listed b (tables qs n) ≡ true → Stands 11 n b qs
table_stands [] n b h = absurd cc
table_stands (SumOf v e ∷ qs) n b h = later 11 n b (SumOf v e) qs (table_stands qs (n + 64) b h)
table_stands (Enumerate v e ∷ qs) n b h = later 11 n b (Enumerate v e) qs (table_stands qs (n + 64) b h)
table_stands (Reorder v e ∷ qs) n b h = here_or 11 n b (Reorder v e) qs (is_listed b (tables qs (n + 64))) h (table_stands qs (n + 64) b)
table_stands (Schedule l u e lanes ∷ qs) n b h = here_or 11 n b (Schedule l u e lanes) qs (is_listed b (tables qs (n + 64))) h (table_stands qs (n + 64) b)

-- the first is none of the others
first_apart : (r n : ℕ) (qs : List Query) (xs : List ℕ) → ((b : ℕ) → is_listed b xs ≡ true → Stands r (n + 64) b qs) → are_distinct xs ≡ true → are_distinct ((n + r) ∷ xs) ≡ true
first_apart r n qs xs f d = both_true (not (is_listed (n + r) xs)) (are_distinct xs) (not_listed (n + r) xs (λ h. let s = f (n + r) h in omega (arith, s.is))) d

extents_apart : (qs : List Query) (n : ℕ) → are_distinct (extents qs n) ≡ true
extents_apart [] n = refl
extents_apart (SumOf v e ∷ qs) n = extents_apart qs (n + 64)
extents_apart (Enumerate v e ∷ qs) n = first_apart 3 n qs (extents qs (n + 64)) (extent_stands qs (n + 64)) (extents_apart qs (n + 64))
extents_apart (Reorder v e ∷ qs) n = extents_apart qs (n + 64)
extents_apart (Schedule l u e lanes ∷ qs) n = first_apart 3 n qs (extents qs (n + 64)) (extent_stands qs (n + 64)) (extents_apart qs (n + 64))

tables_apart : (qs : List Query) (n : ℕ) → are_distinct (tables qs n) ≡ true
tables_apart [] n = refl
tables_apart (SumOf v e ∷ qs) n = tables_apart qs (n + 64)
tables_apart (Enumerate v e ∷ qs) n = tables_apart qs (n + 64)
tables_apart (Reorder v e ∷ qs) n = first_apart 11 n qs (tables qs (n + 64)) (table_stands qs (n + 64)) (tables_apart qs (n + 64))
tables_apart (Schedule l u e lanes ∷ qs) n = first_apart 11 n qs (tables qs (n + 64)) (table_stands qs (n + 64)) (tables_apart qs (n + 64))

-- ---- both

listed_both : (b : ℕ) (xs ys : List ℕ) → is_listed b (xs ++ ys) ≡ true → (is_listed b xs ≡ true → ⊥) → is_listed b ys ≡ true
listed_both b [] ys h f = h
listed_both b (x ∷ xs) ys h f = case (nat_eq b x) refl h (λ g i. listed_both b xs ys g i)
  where
    case : (y : Bool) → nat_eq b x ≡ y → y || is_listed b (xs ++ ys) ≡ true → (is_listed b (xs ++ ys) ≡ true → (is_listed b xs ≡ true → ⊥) → is_listed b ys ≡ true) → is_listed b ys ≡ true
    case true e h g = absurd (f (ap (λ (y : Bool). y || is_listed b xs) e))
    case false e h g = g h (λ i. f (ap (λ (y : Bool). y || is_listed b xs) e ∙ i))

apart_both : (xs ys : List ℕ) → are_distinct xs ≡ true → are_distinct ys ≡ true → ((b : ℕ) → is_listed b xs ≡ true → is_listed b ys ≡ true → ⊥) → are_distinct (xs ++ ys) ≡ true
apart_both [] ys p q f = q
apart_both (x ∷ xs) ys p q f = case (is_listed x xs) refl (λ r. apart_both xs ys r q (λ b h. f b (there b h)))
  where
    there : (b : ℕ) → is_listed b xs ≡ true → nat_eq b x || is_listed b xs ≡ true
    there b h = or (nat_eq b x)
      where
        or : (y : Bool) → y || is_listed b xs ≡ true
        or true = refl
        or false = h

    same : nat_eq x x || is_listed x xs ≡ true
    same = let e : nat_eq x x ≡ true = grind (arith, nat_tests) in ap (λ (y : Bool). y || is_listed x xs) e

    case : (y : Bool) → is_listed x xs ≡ y → (are_distinct xs ≡ true → are_distinct (xs ++ ys) ≡ true) → not (is_listed x (xs ++ ys)) && are_distinct (xs ++ ys) ≡ true
    case true e g = let z : ◌≡◌ {A = Bool} false true = sym (ap (λ (y : Bool). not y && are_distinct xs) e) ∙ p in absurd cc
    case false e g =
        let d : are_distinct xs ≡ true = sym (ap (λ (y : Bool). not y && are_distinct xs) e) ∙ p in
        both_true (not (is_listed x (xs ++ ys))) (are_distinct (xs ++ ys))
        (not_listed x (xs ++ ys) (λ h. f x same (listed_both x xs ys h (λ i. let z : ◌≡◌ {A = Bool} true false = sym i ∙ e in absurd cc))))
        (g d)

pub buffers_are_new : BuffersAreNew
buffers_are_new qs n = record {
  once = apart_both (extents qs n) (tables qs n) (extents_apart qs n) (tables_apart qs n) (λ b h i. let x = extent_stands qs n b h in let y = table_stands qs n b i in omega (arith, x.is, y.is));
  own = λ b h. case b h (is_listed b (extents qs n)) refl;
}
  where
    case : (b : ℕ) → is_listed b (buffers qs n) ≡ true → (x : Bool) → is_listed b (extents qs n) ≡ x → (n ≤ b) × (b < n + 64 * length qs)
    case b h true e = let x = extent_stands qs n b e in (omega (arith, x.is), omega (arith, x.is, x.below))
    case b h false e =
        let y = table_stands qs n b (listed_both b (extents qs n) (tables qs n) h (λ i. let z : ◌≡◌ {A = Bool} true false = sym i ∙ e in absurd cc)) in
        (omega (arith, y.is), omega (arith, y.is, y.below))
