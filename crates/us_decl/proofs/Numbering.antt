-- The number of a name does not change as more names follow.
use Rattle.std.proofs.Common.{◌≡◌, ℕ, suc, ◌+◌, ◌<◌, ◌≤◌, List, [], ◌∷◌, ◌++◌, length, Bool, true, false, cond, not, eqb, ◌&&◌, refl, sym, ap, ◌∙◌, arith, append_assoc}
use Rattle.std.proofs.lemmas.List.{append-nil}
use Rattle.std.proofs.lemmas.Bool.Decides.{nat_tests}
use Rattle.us_decl.specs.Grammar.{Expr, One, Plus, Less, Term, Just, Over, Rest, Factor, Row, Col, Named, Num, Group}
use Rattle.us_decl.specs.Names.{same_name, number_of, with_name, names_expr, names_term, names_factor}

pub same_itself : (w : List ℕ) → same_name w w ≡ true
same_itself [] = refl
same_itself (b ∷ bs) = both (eqb b b) (same_name bs bs) (eqb_self b) (same_itself bs)
  where
    both : (x y : Bool) → x ≡ true → y ≡ true → (x && y) ≡ true
    both x y p q = ap (λ (z : Bool). z && y) p ∙ q

    eqb_self : (n : ℕ) → eqb n n ≡ true
    eqb_self n = grind (arith, nat_tests)

-- a list that goes on from another
pub record GoesOn (ns ms : List (List ℕ)) : Type 0 where
  pub more : List (List ℕ)
  pub is : ms ≡ ns ++ more

pub goes_on_self : (ns : List (List ℕ)) → GoesOn ns ns
goes_on_self ns = record { more = []; is = sym (append-nil ns) }

pub goes_on_trans : (a b c : List (List ℕ)) → GoesOn a b → GoesOn b c → GoesOn a c
goes_on_trans a b c x y = record { more = x.more ++ y.more; is = y.is ∙ ap (λ (z : List (List ℕ)). z ++ y.more) x.is ∙ append_assoc a x.more y.more }

chosen : (b : Bool) (ns : List (List ℕ)) (w : List ℕ) → GoesOn ns (cond b (ns ++ (w ∷ [])) ns)
chosen true ns w = record { more = w ∷ []; is = refl }
chosen false ns w = goes_on_self ns

pub with_goes_on : (w : List ℕ) (ns : List (List ℕ)) → GoesOn ns (with_name w ns)
with_goes_on w ns = chosen (eqb (number_of w ns) (length ns)) ns w

mutual
  pub expr_goes_on : (e : Expr) (ns : List (List ℕ)) → GoesOn ns (names_expr e ns)
  expr_goes_on (One t) ns = term_goes_on t ns
  expr_goes_on (Plus e t) ns = goes_on_trans _ _ _ (expr_goes_on e ns) (term_goes_on t (names_expr e ns))
  expr_goes_on (Less e t) ns = goes_on_trans _ _ _ (expr_goes_on e ns) (term_goes_on t (names_expr e ns))

  pub term_goes_on : (t : Term) (ns : List (List ℕ)) → GoesOn ns (names_term t ns)
  term_goes_on (Just f) ns = factor_goes_on f ns
  term_goes_on (Over t k) ns = term_goes_on t ns
  term_goes_on (Rest t k) ns = term_goes_on t ns

  pub factor_goes_on : (f : Factor) (ns : List (List ℕ)) → GoesOn ns (names_factor f ns)
  factor_goes_on Row ns = goes_on_self ns
  factor_goes_on Col ns = goes_on_self ns
  factor_goes_on (Named w) ns = with_goes_on w ns
  factor_goes_on (Num n) ns = goes_on_self ns
  factor_goes_on (Group e) ns = expr_goes_on e ns

-- the number of a name that is there
found_cons : (w n : List ℕ) (ns more : List (List ℕ)) (b : Bool) → same_name w n ≡ b → (number_of w ns < length ns → number_of w (ns ++ more) ≡ number_of w ns) → cond (not b) (1 + number_of w ns) 0 < length (n ∷ ns) → cond (not b) (1 + number_of w (ns ++ more)) 0 ≡ cond (not b) (1 + number_of w ns) 0
found_cons w n ns more true e ih h = refl
found_cons w n ns more false e ih h = ap (λ (k : ℕ). 1 + k) (ih (omega arith))

found : (w : List ℕ) (ns more : List (List ℕ)) → number_of w ns < length ns → number_of w (ns ++ more) ≡ number_of w ns
found w [] more h = absurd (omega arith)
found w (n ∷ ns) more h = found_cons w n ns more (same_name w n) refl (λ k. found w ns more k) h

-- the number of a name that joins
joined_cons : (w n : List ℕ) (ns more : List (List ℕ)) (b : Bool) → same_name w n ≡ b → (number_of w ns ≡ length ns → number_of w (ns ++ (w ∷ more)) ≡ number_of w ns) → cond (not b) (1 + number_of w ns) 0 ≡ length (n ∷ ns) → cond (not b) (1 + number_of w (ns ++ (w ∷ more))) 0 ≡ cond (not b) (1 + number_of w ns) 0
joined_cons w n ns more true e ih h = refl
joined_cons w n ns more false e ih h = ap (λ (k : ℕ). 1 + k) (ih (omega arith))

joined : (w : List ℕ) (ns more : List (List ℕ)) → number_of w ns ≡ length ns → number_of w (ns ++ (w ∷ more)) ≡ number_of w ns
joined w [] more h = ap (λ (b : Bool). cond (not b) (1 + number_of w more) 0) (same_itself w)
joined w (n ∷ ns) more h = joined_cons w n ns more (same_name w n) refl (λ k. joined w ns more k) h

at_most_cons : (b : Bool) (k n : ℕ) → k ≤ n → cond b (1 + k) 0 ≤ suc n
at_most_cons true k n h = omega arith
at_most_cons false k n h = omega arith

pub at_most : (w : List ℕ) (ns : List (List ℕ)) → number_of w ns ≤ length ns
at_most w [] = omega arith
at_most w (n ∷ ns) = at_most_cons (not (same_name w n)) (number_of w ns) (length ns) (at_most w ns)

stays_by : (b : Bool) (w : List ℕ) (ns more : List (List ℕ)) → eqb (number_of w ns) (length ns) ≡ b → number_of w (cond b (ns ++ (w ∷ [])) ns ++ more) ≡ number_of w ns
stays_by true w ns more e = ap (number_of w) (append_assoc ns (w ∷ []) more) ∙ joined w ns more (eqb_is (number_of w ns) (length ns) e)
  where
    eqb_is : (m n : ℕ) → eqb m n ≡ true → m ≡ n
    eqb_is m n h = grind (arith, nat_tests)
stays_by false w ns more e = found w ns more (less (number_of w ns) (length ns) e (at_most w ns))
  where
    less : (m n : ℕ) → eqb m n ≡ false → m ≤ n → m < n
    less m n h k = grind (arith, nat_tests)

-- the number under which a name joins is its number from then on
pub stays : (w : List ℕ) (ns more : List (List ℕ)) → number_of w (with_name w ns ++ more) ≡ number_of w ns
stays w ns more = stays_by (eqb (number_of w ns) (length ns)) w ns more refl
