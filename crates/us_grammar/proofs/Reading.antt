-- The answers of a reading mean what the grammar and its limits say.
use Rattle.std.proofs.Common.{◌≡◌, ℕ, ◌+◌, List, [], ◌∷◌, ◌++◌, length, Option, Some, None, Bool, true, false, refl, sym, ap, ◌∙◌, append_assoc, subst, ◌&&◌}
use Rattle.us_tokens.specs.Text as text
use Rattle.us_tokens.specs.Text.{Text, Then, left_of}
use Rattle.us_grammar.specs.Grammar.{Grammar, Symbol, Part, Row, Values, Next, Moves, Spells, step, ends, run, starts, flows, IsTable}
use Rattle.us_grammar.specs.Reading.{Limits, Answer, Read, Whole, Lexeme, put, stopped, passed, judged, at_end, scan, tokens_of, or_else, broken_at, breaks, Begins, Keeps, Refuses, Means, answer}
use Rattle.us_grammar.proofs.Bools.{some_is, some_none}
use Rattle.us_grammar.proofs.Law.{moves_map, taken, step_moves, has_text, ends_empty, empties_end}

append_nil : {A : Type 0} (xs : List A) → xs ++ [] ≡ xs
append_nil [] = refl
append_nil (x ∷ xs) = ap (λ ys. x ∷ ys) (append_nil xs)

pub put-append : {K : Type 0} (xs ys : List (Lexeme K)) (rest : Text K) → put (xs ++ ys) rest ≡ put xs (put ys rest)
put-append [] ys rest = refl
put-append (x ∷ xs) ys rest = ap (Then x.kind x.bytes x.behind) (put-append xs ys rest)

module _ {N C K T M S F : Type 0} (G : Grammar N C T M) (L : Limits K T M S F) where
  pub tokens_of-append : (xs ys : List (Lexeme K)) → tokens_of G L (xs ++ ys) ≡ tokens_of G L xs ++ tokens_of G L ys
  tokens_of-append [] ys = refl
  tokens_of-append (x ∷ xs) ys = ap (λ ts. L.token x.kind x.bytes ∷ ts) (tokens_of-append xs ys)

  module _ (n : N) where
    -- what is so of a reading behind some tokens
    pub record Stands (front : List T) (m : S) (s : Row G) (k : Values G s → G.Value n) : Type 0 where
      pub forth : (more : List T) (vs : Values G s) → Spells G more s vs → Spells G (front ++ more) (Part n ∷ []) (k vs, tt)
      pub back : (more : List T) (v : G.Value n) → Spells G (front ++ more) (Part n ∷ []) (v, tt) → (vs : Values G s) × Spells G more s vs × (k vs ≡ v)
      pub clean : flows G s [] ≡ true
      pub kept : (more : List T) → breaks G L (front ++ more) L.start (Part n ∷ []) ≡ breaks G L more m s

    module _ (ok : IsTable G) where
      begin : Stands [] L.start (Part n ∷ []) (λ vs. vs.0)
      begin = record { forth = λ more vs h. h; back = λ more v h. ((v, tt), h, refl); clean = refl; kept = λ more. refl }

      along : (P : List T → Type 0) (ts : List T) (t : T) (more : List T) → P (ts ++ (t ∷ more)) → P ((ts ++ (t ∷ [])) ++ more)
      along P ts t more p = subst P (sym (append_assoc ts (t ∷ []) more)) p

      along_back : (P : List T → Type 0) (ts : List T) (t : T) (more : List T) → P ((ts ++ (t ∷ [])) ++ more) → P (ts ++ (t ∷ more))
      along_back P ts t more p = subst P (append_assoc ts (t ∷ []) more) p

      -- the reading that the machine goes on with has the values
      same_next : (t : T) (more : List T) (s : Row G) (vs : Values G s) (u : Next G s) → step G s t ≡ Some u → flows G s [] ≡ true → Spells G (t ∷ more) s vs → (bs : Values G u.row) × Spells G more u.row bs × (u.back bs ≡ vs)
      same_next t more s vs u is fl h =
          let P : Next G s → Type 0 = λ w. (bs : Values G w.row) × Spells G more w.row bs × (w.back bs ≡ vs) in
          let p = taken G ok s t P fl h in
          subst P (some_is p.next u (sym p.is ∙ is)) p.outcome

      next_clean : (t : T) (s : Row G) (u : Next G s) → step G s t ≡ Some u → flows G s [] ≡ true → flows G u.row [] ≡ true
      next_clean t s u is fl =
          let p = taken G ok s t (λ w. w ≡ u) fl (step_moves G s t u (λ w. w ≡ u) is refl) in
          ap (λ (w : Next G s). flows G w.row []) (sym p.outcome) ∙ p.clean

      goes_on : (front : List T) (m : S) (s : Row G) (k : Values G s → G.Value n) (t : T) (u : Next G s) → Stands front m s k → step G s t ≡ Some u → L.check (L.measure m u.note t) t ≡ None → Stands (front ++ (t ∷ [])) (L.measure m u.note t) u.row (λ vs. k (u.back vs))
      goes_on front m s k t u h is fine = record {
        forth = λ more vs sp. along (λ x. Spells G x (Part n ∷ []) (k (u.back vs), tt)) front t more (h.forth (t ∷ more) (u.back vs) (step_moves G s t u (λ w. (bs : Values G w.row) × Spells G more w.row bs × (w.back bs ≡ u.back vs)) is (vs, sp, refl)));
        back = λ more v sp.
            let b = h.back (t ∷ more) v (along_back (λ x. Spells G x (Part n ∷ []) (v, tt)) front t more sp) in
            let q = same_next t more s b.0 u is h.clean b.1 in
            (q.0, q.1, ap k q.2 ∙ b.2);
        clean = next_clean t s u is h.clean;
        kept = λ more. ap (λ x. breaks G L x L.start (Part n ∷ [])) (append_assoc front (t ∷ []) more) ∙ h.kept (t ∷ more) ∙ ap (broken_at G L t s m (breaks G L more)) is ∙ ap (λ o. or_else G L o (breaks G L more (L.measure m u.note t) u.row)) fine;
      }

      begins : (front : List T) (m : S) (s : Row G) (k : Values G s → G.Value n) → Stands front m s k → Begins G L n front
      begins front m s k h = let x = has_text G ok s in (x.tokens, k x.values, h.forth x.tokens x.values x.spells)

      keeps : (front : List T) (m : S) (s : Row G) (k : Values G s → G.Value n) → Stands front m s k → Keeps G L n front
      keeps front m s k h = ap (λ x. breaks G L x L.start (Part n ∷ [])) (sym (append_nil front)) ∙ h.kept []

      whole : (front : List T) (m : S) (s : Row G) (k : Values G s → G.Value n) (vs : Values G s) → Stands front m s k → Spells G [] s vs → Spells G front (Part n ∷ []) (k vs, tt)
      whole front m s k vs h sp = let P : List T → Type 0 = λ x. Spells G x (Part n ∷ []) (k vs, tt) in subst P (append_nil front) (h.forth [] vs sp)

      not_whole : (front : List T) (m : S) (s : Row G) (k : Values G s → G.Value n) (v : G.Value n) → Stands front m s k → ends G s ≡ None → Spells G front (Part n ∷ []) (v, tt) → ⊥
      not_whole front m s k v h none sp =
          let P : List T → Type 0 = λ x. Spells G x (Part n ∷ []) (v, tt) in
          let b = h.back [] v (subst P (sym (append_nil front)) sp) in
          some_none b.0 (ends G s) (empties_end G ok s b.0 b.1) none

      refused : (front : List T) (m : S) (s : Row G) (k : Values G s → G.Value n) (t : T) → Stands front m s k → step G s t ≡ None → Begins G L n (front ++ (t ∷ [])) → ⊥
      refused front m s k t h none (more, v, sp) =
          let b = h.back (t ∷ more) v (along_back (λ x. Spells G x (Part n ∷ []) (v, tt)) front t more sp) in
          let p = taken G ok s t (λ u. Unit {0}) h.clean (moved t more s b.0 b.1) in
          some_none p.next (step G s t) p.is none where
            moved : (t : T) (more : List T) (s : Row G) (vs : Values G s) → Spells G (t ∷ more) s vs → Moves G s t (λ u. Unit {0})
            moved t more s vs h = moves_map G s t _ (λ u. Unit {0}) (λ u p. tt) h

      Goes : Text K → Type 0
      Goes rest = (front : List (Lexeme K)) (m : S) (s : Row G) (k : Values G s → G.Value n) → Stands (tokens_of G L front) m s k → Means G L n (put front rest) (scan G L rest m s k)

      end_means : (front : List (Lexeme K)) (m : S) (s : Row G) (k : Values G s → G.Value n) (o : Option (Values G s)) → ends G s ≡ o → Stands (tokens_of G L front) m s k → Means G L n (put front text.End) (at_end G L s k o)
      end_means front m s k (Some vs) is h = record { front = front; parts = refl; spelled = whole (tokens_of G L front) m s k vs h (ends_empty G s vs is); kept = keeps (tokens_of G L front) m s k h }
      end_means front m s k None is h = record { front = front; rest = text.End; parts = refl; place = refl; before = begins (tokens_of G L front) m s k h; kept = keeps (tokens_of G L front) m s k h; there = λ v sp. not_whole (tokens_of G L front) m s k v h is sp }

      lexeme : K → List ℕ → ℕ → Lexeme K
      lexeme w b behind = record { kind = w; bytes = b; behind = behind }

      read_means : (front : List (Lexeme K)) (w : K) (b : List ℕ) (behind : ℕ) (more : Text K) (m : S) (r : Row G) (k : Values G r → G.Value n) → Stands (tokens_of G L front ++ (L.token w b ∷ [])) m r k
          → (next : Answer K (G.Value n) F) → Means G L n (put front (Then w b behind more)) next → Means G L n (put front (Then w b behind more)) (stopped G L r k behind more next)
      read_means front w b behind more m [] k h next go = record { front = front; kind = w; bytes = b; parts = refl; spelled = whole _ m [] k tt h tt; kept = keeps _ m [] k h }
      read_means front w b behind more m (x ∷ r) k h next go = go

      broken_is : (front : List T) (m : S) (s : Row G) (k : Values G s → G.Value n) (t : T) (u : Next G s) (f : F) → Stands front m s k → step G s t ≡ Some u → L.check (L.measure m u.note t) t ≡ Some f → breaks G L (front ++ (t ∷ [])) L.start (Part n ∷ []) ≡ Some f
      broken_is front m s k t u f h is bad = h.kept (t ∷ []) ∙ ap (broken_at G L t s m (breaks G L [])) is ∙ ap (λ o. or_else G L o None) bad

      still_begins : (front : List T) (m : S) (s : Row G) (k : Values G s → G.Value n) (t : T) (u : Next G s) → Stands front m s k → step G s t ≡ Some u → Begins G L n (front ++ (t ∷ []))
      still_begins front m s k t u h is =
          let x = has_text G ok u.row in
          (x.tokens, k (u.back x.values), along (λ y. Spells G y (Part n ∷ []) (k (u.back x.values), tt)) front t x.tokens (h.forth (t ∷ x.tokens) (u.back x.values) (step_moves G s t u (λ w. (bs : Values G w.row) × Spells G x.tokens w.row bs × (w.back bs ≡ u.back x.values)) is (x.values, x.spells, refl))))

      one_more : (front : List (Lexeme K)) (w : K) (b : List ℕ) (behind : ℕ) → tokens_of G L (front ++ (lexeme w b behind ∷ [])) ≡ tokens_of G L front ++ (L.token w b ∷ [])
      unfolding lexeme
      one_more front w b behind = tokens_of-append front (lexeme w b behind ∷ [])

      on_means : (front : List (Lexeme K)) (w : K) (b : List ℕ) (behind : ℕ) (more : Text K) (m : S) (r : Row G) (k : Values G r → G.Value n) → Goes more → Stands (tokens_of G L front ++ (L.token w b ∷ [])) m r k → Means G L n (put front (Then w b behind more)) (scan G L more m r k)
      unfolding lexeme Goes
      on_means front w b behind more m r k go h =
          let P : List T → Type 0 = λ ts. Stands ts m r k in
          let Q : Text K → Type 0 = λ a. Means G L n a (scan G L more m r k) in
          subst Q (put-append front (lexeme w b behind ∷ []) more) (go (front ++ (lexeme w b behind ∷ [])) m r k (subst P (sym (one_more front w b behind)) h))

      passed_means : (front : List (Lexeme K)) (w : K) (b : List ℕ) (behind : ℕ) (more : Text K) (m : S) (s : Row G) (k : Values G s → G.Value n) (u : Next G s) (o : Option F) → Goes more → Stands (tokens_of G L front) m s k → step G s (L.token w b) ≡ Some u
          → L.check (L.measure m u.note (L.token w b)) (L.token w b) ≡ o
          → Means G L n (put front (Then w b behind more)) (passed G L (length b + behind) o (stopped G L u.row (λ vs. k (u.back vs)) behind more (scan G L more (L.measure m u.note (L.token w b)) u.row (λ vs. k (u.back vs)))))
      passed_means front w b behind more m s k u (Some f) go h is bad = record {
        front = front;
        kind = w;
        bytes = b;
        behind = behind;
        more = more;
        parts = refl;
        place = refl;
        before = still_begins (tokens_of G L front) m s k (L.token w b) u h is;
        kept = keeps (tokens_of G L front) m s k h;
        broken = broken_is (tokens_of G L front) m s k (L.token w b) u f h is bad;
      }
      passed_means front w b behind more m s k u None go h is fine =
          let g = goes_on (tokens_of G L front) m s k (L.token w b) u h is fine in
          read_means front w b behind more (L.measure m u.note (L.token w b)) u.row (λ vs. k (u.back vs)) g _ (on_means front w b behind more _ u.row (λ vs. k (u.back vs)) go g)

      judged_means : (front : List (Lexeme K)) (w : K) (b : List ℕ) (behind : ℕ) (more : Text K) (m : S) (s : Row G) (k : Values G s → G.Value n) (o : Option (Next G s)) → Goes more → Stands (tokens_of G L front) m s k → step G s (L.token w b) ≡ o
          → Means G L n (put front (Then w b behind more)) (judged G L (length b + behind) behind more (L.token w b) s k m (scan G L more) o)
      judged_means front w b behind more m s k None go h is = record {
        front = front;
        rest = Then w b behind more;
        parts = refl;
        place = refl;
        before = begins (tokens_of G L front) m s k h;
        kept = keeps (tokens_of G L front) m s k h;
        there = λ x. refused (tokens_of G L front) m s k (L.token w b) h is x;
      }
      judged_means front w b behind more m s k (Some u) go h is = passed_means front w b behind more m s k u (L.check (L.measure m u.note (L.token w b)) (L.token w b)) go h is refl

      means : (rest : Text K) → Goes rest
      unfolding Goes
      means text.End front m s k h = end_means front m s k (ends G s) refl h
      means (text.Bad left) front m s k h = record { front = front; parts = refl; before = begins (tokens_of G L front) m s k h; kept = keeps (tokens_of G L front) m s k h }
      means (Then w b behind more) front m s k h = judged_means front w b behind more m s k (step G s (L.token w b)) (means more) h refl

      pub answer_means : (all : Text K) → Means G L n all (answer G L n all)
      unfolding Goes
      answer_means all = means all [] L.start (Part n ∷ []) (λ vs. vs.0) begin
