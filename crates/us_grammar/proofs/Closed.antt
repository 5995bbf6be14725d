-- A text of a part whose choices end with a terminal is read as itself, whatever follows.
use Rattle.std.proofs.Common.{◌≡◌, ℕ, ◌++◌, List, [], ◌∷◌, Option, Some, None, Bool, true, false, refl, sym, ap, ◌∙◌, subst, ◌&&◌, ◌⊎◌, inl, inr}
use Rattle.us_tokens.specs.Text.{Text}
use Rattle.us_grammar.specs.Grammar.{Grammar, Symbol, Fixed, Part, Row, Pick, Values, Next, Any_choice, Moves, Spells, Empties, opened, past, behind, step, is_closed, all_closed, IsTable}
use Rattle.us_grammar.specs.Reading.{Limits, Answer, Read, Lexeme, put, tokens_of, Keeps, answer, behind_last}
use Rattle.us_grammar.proofs.Bools.{and_left, and_right}
use Rattle.us_grammar.proofs.Law.{step_moves}
use Rattle.us_grammar.proofs.Back.{Closing, reads_back}

module _ {N C T M : Type 0} (G : Grammar N C T M) where
  closed_behind : (r s : Row G) → is_closed G s ≡ true → is_closed G (r ++ s) ≡ true
  closed_behind [] s e = e
  closed_behind (Fixed c ∷ []) [] e = absurd cc
  closed_behind (Fixed c ∷ []) (y ∷ s) e = e
  closed_behind (Fixed c ∷ x ∷ r) s e = closed_behind (x ∷ r) s e
  closed_behind (Part n ∷ r) s e = closed_behind r s e

  closed_alone : (r : Row G) → is_closed G r ≡ true → is_closed G (r ++ []) ≡ true
  closed_alone [] e = e
  closed_alone (Fixed c ∷ []) e = e
  closed_alone (Fixed c ∷ x ∷ r) e = closed_alone (x ∷ r) e
  closed_alone (Part n ∷ r) e = closed_alone r e

  -- what is left of a closed row: it is closed, or nothing
  abbrev Left : Row G → Type 0
  Left r = (is_closed G r ≡ true) ⊎ (r ≡ [])

  never_empty : (r : Row G) (ws : Values G r) (A : Type 0) → is_closed G r ≡ true → Empties G r ws → A
  never_empty [] ws A e h = absurd cc
  never_empty (Fixed c ∷ s) ws A e h = absurd h
  never_empty (Part n ∷ s) ws A e h = never_empty s ws.1 A e h.1

  any_left : (n : N) (s : Row G) (t : T) (A : Type 0) (P : Next G (Part n ∷ s) → Type 0) (xs : List (Pick G n)) (c : C) → is_closed G s ≡ true
      → ((u : Next G (Part n ∷ s)) → Left u.row → P u → A) → Any_choice G xs c (λ x. P (opened G n s t x)) → A
  any_left n s t A P [] c e f h = absurd h
  any_left n s t A P (x ∷ xs) c e f (inl h) = f (opened G n s t x) (inl (closed_behind x.rest s e)) h.1
  any_left n s t A P (x ∷ xs) c e f (inr h) = any_left n s t A P xs c e f h

  moves_left : (r : Row G) (t : T) (A : Type 0) (P : Next G r → Type 0) → is_closed G r ≡ true → ((u : Next G r) → Left u.row → P u → A) → Moves G r t P → A
  moves_left [] t A P e f h = absurd h
  moves_left (Fixed c ∷ []) t A P e f h = f (behind G c []) (inr refl) h.1
  moves_left (Fixed c ∷ x ∷ s) t A P e f h = f (behind G c (x ∷ s)) (inl e) h.1
  moves_left (Part n ∷ s) t A P e f (inl h) = any_left n s t A P (G.choices n) (G.class t) e f h
  moves_left (Part n ∷ s) t A P e f (inr h) = moves_left s t A (λ w. P (past G n s h.0 w)) e (λ w l p. f (past G n s h.0 w) l p) h.2

  any_first : (n : N) (t : T) (A : Type 0) (P : Next G (Part n ∷ []) → Type 0) (xs : List (Pick G n)) (c : C) → all_closed G xs ≡ true
      → ((u : Next G (Part n ∷ [])) → Left u.row → P u → A) → Any_choice G xs c (λ x. P (opened G n [] t x)) → A
  any_first n t A P [] c e f h = absurd h
  any_first n t A P (x ∷ xs) c e f (inl h) = f (opened G n [] t x) (inl (closed_alone x.rest (and_left _ _ e))) h.1
  any_first n t A P (x ∷ xs) c e f (inr h) = any_first n t A P xs c (and_right (is_closed G x.rest) _ e) f h

  first_left : (n : N) (t : T) (A : Type 0) (P : Next G (Part n ∷ []) → Type 0) → all_closed G (G.choices n) ≡ true
      → ((u : Next G (Part n ∷ [])) → Left u.row → P u → A) → Moves G (Part n ∷ []) t P → A
  first_left n t A P e f (inl h) = any_first n t A P (G.choices n) (G.class t) e f h
  first_left n t A P e f (inr h) = absurd h.2

  stays : (r : Row G) (t : T) (u : Next G r) → Left r → step G r t ≡ Some u → Left u.row
  stays r t u (inl e) is = moves_left r t (Left u.row) (λ w. w ≡ u) e (λ w l p. subst (λ (z : Next G r). Left z.row) p l) (step_moves G r t u (λ w. w ≡ u) is refl)
  stays [] t u (inr e) is = absurd cc
  stays (x ∷ s) t u (inr e) is = absurd cc

  ends : (r : Row G) (ws : Values G r) → Left r → Empties G r ws → r ≡ []
  ends r ws (inl e) h = never_empty r ws (r ≡ []) e h
  ends r ws (inr e) h = e

  first_stays : (n : N) (t : T) (u : Next G (Part n ∷ [])) → all_closed G (G.choices n) ≡ true → step G (Part n ∷ []) t ≡ Some u → Left u.row
  first_stays n t u e is = first_left n t (Left u.row) (λ w. w ≡ u) e (λ w l p. subst (λ (z : Next G (Part n ∷ [])). Left z.row) p l) (step_moves G (Part n ∷ []) t u (λ w. w ≡ u) is refl)

  not_empty : (n : N) (ws : Values G (Part n ∷ [])) (A : Type 0) → G.empty n ≡ None → Empties G (Part n ∷ []) ws → A
  not_empty n ws A e h = absurd cc

  closing : (n : N) → all_closed G (G.choices n) ≡ true → G.empty n ≡ None → Closing G
  closing n e none = record {
    Closed = λ r. Left r ⊎ (r ≡ Part n ∷ []);
    stays = λ r t u l is. kept r t u l is;
    ends = λ r ws l h. ended r ws l h;
  } where
    kept : (r : Row G) (t : T) (u : Next G r) → Left r ⊎ (r ≡ Part n ∷ []) → step G r t ≡ Some u → Left u.row ⊎ (u.row ≡ Part n ∷ [])
    kept r t u (inl l) is = inl (stays r t u l is)
    kept r t u (inr l) is = inl (subst (λ (q : Row G). (w : Next G q) → step G q t ≡ Some w → Left w.row) (sym l) (λ w k. first_stays n t w e k) u is)

    ended : (r : Row G) (ws : Values G r) → Left r ⊎ (r ≡ Part n ∷ []) → Empties G r ws → r ≡ []
    ended r ws (inl l) h = ends r ws l h
    ended r ws (inr l) h = subst (λ (q : Row G). (w : Values G q) → Empties G q w → q ≡ []) (sym l) (λ w k. not_empty n w (Part n ∷ [] ≡ []) none k) ws h

module _ {N C K T M S F : Type 0} (G : Grammar N C T M) (L : Limits K T M S F) (ok : IsTable G) (n : N) where
  pub text_reads_back : all_closed G (G.choices n) ≡ true → G.empty n ≡ None → (x : Lexeme K) (xs : List (Lexeme K)) (rest : Text K) (v : G.Value n)
      → Spells G (tokens_of G L (x ∷ xs)) (Part n ∷ []) (v, tt) → Keeps G L n (tokens_of G L (x ∷ xs)) → answer G L n (put (x ∷ xs) rest) ≡ Read v (behind_last x xs) rest
  unfolding closing
  text_reads_back e none x xs rest v sp kept = reads_back G L ok (G.Value n) (closing G n e none) x xs rest L.start (Part n ∷ []) (λ vs. vs.0) (v, tt) refl (inr refl) sp kept
