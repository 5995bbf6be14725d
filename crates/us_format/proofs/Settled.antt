-- After as many passes as the list is long no rule applies any more.
use Rattle.std.proofs.Common.{◌≡◌, ℕ, zero, suc, ◌+◌, ◌<◌, ◌≤◌, ◌⊎◌, List, [], ◌∷◌, ◌++◌, length, take, Bool, true, false, cond, not, sym, refl, ap, ◌∙◌, subst, inl, inr, arith, Option, Some, None, count_by}
use Rattle.std.proofs.lemmas.Bool.{false≢true}
use Rattle.std.proofs.lemmas.List.{map-append}
use Rattle.us_format.proofs.Order.{Mem}
use Rattle.us_format.proofs.Trees.{has-Mem, Mem-has}
use Rattle.us_format.proofs.Counting.{count-lt, count-cons, bit_le}
use Rattle.us_expr.specs.Tree.{Tree}
use Rattle.us_format.specs.Declaration.{Query}
use Rattle.us_format.specs.Known.{Give, Steps, expressions, given_steps, has, known_of, one_pass, passes, rule, start, step_for, with_step}

pub Mem-left : (x : Tree) (xs ys : List Tree) → Mem x xs → Mem x (xs ++ ys)
Mem-left x [] ys h = absurd h
Mem-left x (y ∷ xs) ys (inl e) = inl e
Mem-left x (y ∷ xs) ys (inr h) = inr (Mem-left x xs ys h)

pub Mem-last : (x : Tree) (xs : List Tree) → Mem x (xs ++ x ∷ [])
Mem-last x [] = inl refl
Mem-last x (y ∷ xs) = inr (Mem-last x xs)

abbrev pub Keeps : Steps → Steps → Type 0
Keeps a b = (e : Tree) → has (known_of a) e ≡ true → has (known_of b) e ≡ true

pub keeps-with : (steps : Steps) (e : Tree) (o : Option Give) → Keeps steps (with_step steps e o)
keeps-with steps e None x h = h
keeps-with steps e (Some g) x h =
    has-Mem (known_of (steps ++ (e, g) ∷ [])) x (subst (λ (l : List Tree). Mem x l) (sym (map-append (λ (s : Tree × Give). s.0) steps ((e, g) ∷ []))) (Mem-left x (known_of steps) (e ∷ []) (Mem-has (known_of steps) x h)))

pub there-with : (steps : Steps) (e : Tree) (g : Give) → has (known_of (with_step steps e (Some g))) e ≡ true
there-with steps e g =
    has-Mem (known_of (steps ++ (e, g) ∷ [])) e (subst (λ (l : List Tree). Mem e l) (sym (map-append (λ (s : Tree × Give). s.0) steps ((e, g) ∷ []))) (Mem-last e (known_of steps)))

module _ (es : List Tree) (qs : List Query) where
  pub keeps-step : (steps : Steps) (e : Tree) → Keeps steps (step_for es qs steps e)
  keeps-step steps e x h = go (has (known_of steps) e) (keeps-with steps e (rule es qs (known_of steps) e) x h)
    where
      go : (b : Bool) → has (known_of (with_step steps e (rule es qs (known_of steps) e))) x ≡ true → has (known_of (cond b steps (with_step steps e (rule es qs (known_of steps) e)))) x ≡ true
      go true k = h
      go false k = k

  pub keeps-pass : (ds : List Tree) (steps : Steps) → Keeps steps (one_pass es qs ds steps)
  keeps-pass [] steps x h = h
  keeps-pass (d ∷ ds) steps x h = keeps-pass ds (step_for es qs steps d) x (keeps-step steps d x h)

  -- no rule applies to any of ds
  abbrev pub Quiet : Steps → List Tree → Type 0
  Quiet steps ds = (e : Tree) → Mem e ds → has (known_of steps) e ≡ false → rule es qs (known_of steps) e ≡ None

  -- one of ds becomes known
  abbrev pub Gains : Steps → Steps → List Tree → Type 0
  Gains a b ds = (e : Tree) × Mem e ds × (has (known_of a) e ≡ false) × (has (known_of b) e ≡ true)

  abbrev pub Passed : List Tree → Steps → Type 0
  Passed ds steps = (Quiet steps ds × (one_pass es qs ds steps ≡ steps)) ⊎ Gains steps (one_pass es qs ds steps) ds

  pub passed-more : (d : Tree) (ds : List Tree) (steps : Steps) → step_for es qs steps d ≡ steps → (has (known_of steps) d ≡ false → rule es qs (known_of steps) d ≡ None) → Passed ds steps → Passed (d ∷ ds) steps
  passed-more d ds steps same none (inl h) =
      inl (quiet, ap (one_pass es qs ds) same ∙ h.1)
    where
      quiet : Quiet steps (d ∷ ds)
      quiet e (inl q) k = subst (λ (z : Tree). rule es qs (known_of steps) z ≡ None) q (none (subst (λ (z : Tree). has (known_of steps) z ≡ false) (sym q) k))
      quiet e (inr q) k = h.0 e q k
  passed-more d ds steps same none (inr g) = inr (g.0, inr g.1, g.2, subst (λ (z : Steps). has (known_of (one_pass es qs ds z)) g.0 ≡ true) (sym same) g.3)

  pub pass-either : (ds : List Tree) (steps : Steps) → Passed ds steps
  pass-either [] steps = inl ((λ e h. absurd h), refl)
  pass-either (d ∷ ds) steps = go (has (known_of steps) d) refl (rule es qs (known_of steps) d) refl (pass-either ds steps)
    where
      go : (b : Bool) → has (known_of steps) d ≡ b → (o : Option Give) → rule es qs (known_of steps) d ≡ o → Passed ds steps → Passed (d ∷ ds) steps
      go true k o r h = passed-more d ds steps (rw k refl) (λ f. absurd (false≢true (sym f ∙ k))) h
      go false k None r h = passed-more d ds steps (rw (k, r) refl) (λ f. r) h
      go false k (Some g) r h =
          inr (
            d,
            inl refl,
            k,
            keeps-pass ds (step_for es qs steps d) d
                (subst (λ (z : Bool). has (known_of (cond z steps (with_step steps d (rule es qs (known_of steps) d)))) d ≡ true) (sym k)
                (subst (λ (z : Option Give). has (known_of (with_step steps d z)) d ≡ true) (sym r) (there-with steps d g))),
          )

  pub quiet-pass : (ds : List Tree) (steps : Steps) → Quiet steps ds → one_pass es qs ds steps ≡ steps
  quiet-pass [] steps h = refl
  quiet-pass (d ∷ ds) steps h = ap (one_pass es qs ds) (go (has (known_of steps) d) refl) ∙ quiet-pass ds steps (λ e m. h e (inr m))
    where
      go : (b : Bool) → has (known_of steps) d ≡ b → step_for es qs steps d ≡ steps
      go true k = rw k refl
      go false k = rw (k, h d (inl refl) k) refl

  pub quiet-passes : (n : ℕ) (steps : Steps) → Quiet steps es → passes n es qs steps ≡ steps
  quiet-passes zero steps h = refl
  quiet-passes (suc n) steps h = ap (passes n es qs) (quiet-pass es steps h) ∙ quiet-passes n steps h

  -- how many of the list are not known
  abbrev pub missing : Steps → ℕ
  missing steps = count_by (λ e. not (has (known_of steps) e)) es

  pub not-flips : (a b : Bool) → (a ≡ true → b ≡ true) → not b ≡ true → not a ≡ true
  not-flips true b h k = absurd (false≢true (ap not (sym (h refl)) ∙ k))
  not-flips false b h k = refl

  pub gains-fewer : (steps : Steps) → Gains steps (one_pass es qs es steps) es → missing (one_pass es qs es steps) < missing steps
  gains-fewer steps g =
      count-lt (λ e. not (has (known_of (one_pass es qs es steps)) e)) (λ e. not (has (known_of steps) e)) es g.0
      (λ e m k. not-flips (has (known_of steps) e) (has (known_of (one_pass es qs es steps)) e) (keeps-pass es steps e) k) g.1 (ap not g.3) (ap not g.2)

  pub none-missing : (ds : List Tree) (steps : Steps) → count_by (λ e. not (has (known_of steps) e)) ds ≡ 0 → (e : Tree) → Mem e ds → has (known_of steps) e ≡ false → ⊥
  none-missing [] steps h e m k = m
  none-missing (d ∷ ds) steps h e (inl q) k =
      let f : has (known_of steps) d ≡ false = subst (λ (z : Tree). has (known_of steps) z ≡ false) (sym q) k in
      suc_not (count_by (λ z. not (has (known_of steps) z)) ds) (subst (λ (b : Bool). cond (not b) 1 0 + count_by (λ z. not (has (known_of steps) z)) ds ≡ 0) f (sym (count-cons (λ z. not (has (known_of steps) z)) d ds) ∙ h))
    where
      suc_not : (n : ℕ) → 1 + n ≡ 0 → ⊥
      suc_not n h = omega arith
  none-missing (d ∷ ds) steps h e (inr q) k = none-missing ds steps (part (cond (not (has (known_of steps) d)) 1 0) _ (sym (count-cons (λ z. not (has (known_of steps) z)) d ds) ∙ h)) e q k
    where
      part : (a b : ℕ) → a + b ≡ 0 → b ≡ 0
      part a b h = omega arith

  pub settled : (n : ℕ) (steps : Steps) → missing steps ≤ n → Quiet (passes n es qs steps) es
  settled zero steps h = λ e m k. absurd (none-missing es steps (omega (arith, h)) e m k)
  settled (suc n) steps h = go (pass-either es steps) (settled n (one_pass es qs es steps))
    where
      go : Passed es steps → (missing (one_pass es qs es steps) ≤ n → Quiet (passes n es qs (one_pass es qs es steps)) es) → Quiet (passes n es qs (one_pass es qs es steps)) es
      go (inl q) ih = subst (λ (z : Steps). Quiet z es) (sym (ap (passes n es qs) q.1 ∙ quiet-passes n steps q.0)) q.0
      go (inr g) ih = ih (omega (arith, gains-fewer steps g, h))

  pub missing-le : (ds : List Tree) (steps : Steps) → count_by (λ e. not (has (known_of steps) e)) ds ≤ length ds
  missing-le [] steps = omega arith
  missing-le (d ∷ ds) steps = rw (count-cons (λ e. not (has (known_of steps) e)) d ds) (omega (arith, missing-le ds steps, bit_le (not (has (known_of steps) d)) true (λ _. refl)))

-- no rule applies any more
pub given-settled : (levels : List Tree) (qs : List Query) (count : ℕ) → Quiet (expressions levels qs) qs (given_steps levels qs count) (expressions levels qs)
given-settled levels qs count =
    settled (expressions levels qs) qs (length (expressions levels qs)) (start (take count levels) (expressions levels qs) []) (missing-le (expressions levels qs) qs (expressions levels qs) (start (take count levels) (expressions levels qs) []))
