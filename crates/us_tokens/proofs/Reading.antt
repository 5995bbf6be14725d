-- Of a machine that is held to its grammar the answers mean what the grammar says.
use Rattle.std.proofs.Common.{◌≡◌, ℕ, ◌+◌, List, [], ◌∷◌, ◌++◌, length, Option, Some, None, Bool, true, false, refl, sym, ap, ◌∙◌, append_assoc, subst, ◌⊎◌, inl, inr}
use Rattle.us_tokens.specs.Text as text
use Rattle.us_tokens.specs.Text.{Text, Then, left_of}
use Rattle.us_tokens.specs.Reading.{Machine, go_on, Answer, Read, Whole, Lexeme, put, run, finished, passed, judged, at_end, scan, tokens_of, Begins, Keeps, Means, IsHeld}

go_on-append : {S : Type 0} (f g h : S → Option S) (o : Option S) → ((v : S) → f v ≡ go_on h (g v)) → go_on f o ≡ go_on h (go_on g o)
go_on-append f g h None e = refl
go_on-append f g h (Some v) e = e v

some_is : {S : Type 0} (a b : S) → Some a ≡ Some b → a ≡ b
some_is a b e = cc

append_nil : {A : Type 0} (xs : List A) → xs ++ [] ≡ xs
append_nil [] = refl
append_nil (x ∷ xs) = ap (λ ys. x ∷ ys) (append_nil xs)

-- a front of a list with one more element is the whole, or a front of the list
split_last : {A : Type 0} (xs : List A) (x : A) (ys zs : List A) → xs ++ (x ∷ []) ≡ ys ++ zs → (ys ≡ xs ++ (x ∷ [])) ⊎ ((more : List A) × (xs ≡ ys ++ more))
split_last xs x [] zs e = inr (xs, refl)
split_last [] x (y ∷ []) zs e = inl (let h : y ∷ [] ≡ x ∷ [] = cc in h)
split_last [] x (y ∷ z ∷ ys) zs e = absurd cc
split_last (w ∷ xs) x (y ∷ ys) zs e =
    let heads : w ≡ y = cc in
    let tails : xs ++ (x ∷ []) ≡ ys ++ zs = cc in
    elim (split_last xs x ys zs tails) [
      | inl h ↦ inl (let k : y ∷ ys ≡ w ∷ (xs ++ (x ∷ [])) = cc in k)
      | inr h ↦ inr (h.0, let k : w ∷ xs ≡ y ∷ (ys ++ h.0) = let q = h.1 in cc in k)
    ]

pub put-append : {K : Type 0} (xs ys : List (Lexeme K)) (rest : Text K) → put (xs ++ ys) rest ≡ put xs (put ys rest)
put-append [] ys rest = refl
put-append (x ∷ xs) ys rest = ap (Then x.kind x.bytes x.behind) (put-append xs ys rest)

module _ {K T S D F : Type 0} (M : Machine K T S D F) where
  pub run-append : (ts us : List T) (s : S) → run M (ts ++ us) s ≡ go_on (run M us) (run M ts s)
  run-append [] us s = refl
  run-append (t ∷ ts) us s = go_on-append (run M (ts ++ us)) (run M ts) (run M us) (M.step s t) (λ v. run-append ts us v)

  pub run_then : (ts us : List T) (s v : S) (w : Option S) → run M ts s ≡ Some v → run M us v ≡ w → run M (ts ++ us) s ≡ w
  run_then ts us s v w first rest = run-append ts us s ∙ ap (go_on (run M us)) first ∙ rest

  pub tokens_of-append : (xs ys : List (Lexeme K)) → tokens_of M (xs ++ ys) ≡ tokens_of M xs ++ tokens_of M ys
  tokens_of-append [] ys = refl
  tokens_of-append (x ∷ xs) ys = ap (λ ts. M.token x.kind x.bytes ∷ ts) (tokens_of-append xs ys)

  module _ (laws : IsHeld M) where
    -- what has been read spells the tokens that were read
    spells_step : (t : T) (ts : List T) (s v : S) (o : Option S) → M.step s t ≡ o → ((u : S) → run M ts u ≡ Some v → laws.spelled v ≡ laws.spelled u ++ ts) → go_on (run M ts) o ≡ Some v → laws.spelled v ≡ laws.spelled s ++ (t ∷ ts)
    spells_step t ts s v None is rest e = absurd cc
    spells_step t ts s v (Some u) is rest e = rest u e ∙ ap (λ (x : List T). x ++ ts) (laws.adds s t u is) ∙ append_assoc (laws.spelled s) (t ∷ []) ts

    pub spells : (ts : List T) (s v : S) → run M ts s ≡ Some v → laws.spelled v ≡ laws.spelled s ++ ts
    spells [] s v e = ap laws.spelled (sym (some_is s v e)) ∙ sym (append_nil (laws.spelled s))
    spells (t ∷ ts) s v e = spells_step t ts s v (M.step s t) refl (λ u k. spells ts u v k) e

    pub from_start : (ts : List T) (v : S) → run M ts M.start ≡ Some v → laws.spelled v ≡ ts
    from_start ts v e = spells ts M.start v e ∙ ap (λ (x : List T). x ++ ts) laws.begins

    -- what is taken begins a text
    pub taken_begins : (ts : List T) (s : S) → run M ts M.start ≡ Some s → Begins M ts
    taken_begins ts s e =
        let f = laws.finishes s in
        (f.text, f.more, sym (laws.ends f.last f.text f.whole) ∙ from_start (ts ++ f.more) f.last (run_then ts f.more M.start s _ e f.leads))

    -- what is refused begins none
    pub refused : (ts : List T) → run M ts M.start ≡ None → Begins M ts → ⊥
    refused ts e (d, more, is) =
        let r = laws.reads d in
        let a : run M (ts ++ more) M.start ≡ Some r.last = ap (λ (x : List T). run M x M.start) (sym is) ∙ r.leads in
        let b : run M (ts ++ more) M.start ≡ None = run-append ts more M.start ∙ ap (go_on (run M more)) e in
        absurd cc

    -- no two texts have the same tokens
    done_is : (a b : D) (u v : S) → M.done u ≡ Some a → M.done v ≡ Some b → u ≡ v → a ≡ b
    done_is a b u v e k is = some_is a b (sym e ∙ ap M.done is ∙ k)

    pub one_reading : (a b : D) → M.tokens a ≡ M.tokens b → a ≡ b
    one_reading a b e =
        let r = laws.reads a in
        let q = laws.reads b in
        done_is a b r.last q.last r.whole q.whole (some_is r.last q.last (sym r.leads ∙ ap (λ (x : List T). run M x M.start) e ∙ q.leads))

    -- the answers
    abbrev Leads : List T → S → Type 0
    Leads ts s = run M ts M.start ≡ Some s

    one_more : (ts : List T) (t : T) (s : S) (o : Option S) → Leads ts s → M.step s t ≡ o → run M (ts ++ (t ∷ [])) M.start ≡ go_on (run M []) o
    one_more ts t s o e k = run_then ts (t ∷ []) M.start s _ e (ap (go_on (run M [])) k)

    keeps_more : (ts : List T) (t : T) (u : S) → Keeps M ts → Leads (ts ++ (t ∷ [])) u → M.check u ≡ None → Keeps M (ts ++ (t ∷ []))
    keeps_more ts t u kept leads fine front more s is e =
        elim (split_last ts t front more is) [
          | inl h ↦ ap M.check (some_is s u (sym e ∙ ap (λ (x : List T). run M x M.start) h ∙ leads)) ∙ fine
          | inr h ↦ kept front h.0 s h.1 e
        ]

    at_start : Keeps M []
    at_start [] more s is e = ap M.check (some_is s M.start (sym e)) ∙ laws.fits
    at_start (t ∷ ts) more s is e = absurd cc

    abbrev lexeme : K → List ℕ → ℕ → Lexeme K
    lexeme k w behind = record { kind = k; bytes = w; behind = behind }

    abbrev Goes : Text K → Type 0
    Goes rest = (front : List (Lexeme K)) (s : S) → Leads (tokens_of M front) s → Keeps M (tokens_of M front) → Means M (put front rest) (scan M rest s)

    keeps_along : (ts us : List T) → ts ≡ us → Keeps M ts → Keeps M us
    keeps_along ts us e = let P : List T → Type 0 = Keeps M in subst P e

    none_some : (d : D) (o : Option D) → o ≡ None → o ≡ Some d → ⊥
    none_some d o e k = cc

    end_means : (front : List (Lexeme K)) (s : S) (o : Option D) → M.done s ≡ o → Leads (tokens_of M front) s → Keeps M (tokens_of M front) → Means M (put front text.End) (at_end M o)
    end_means front s (Some d) is leads kept =
        let same : tokens_of M front ≡ M.tokens d = sym (from_start (tokens_of M front) s leads) ∙ laws.ends s d is in
        record { front = front; parts = refl; spelled = same; kept = keeps_along (tokens_of M front) (M.tokens d) same kept }
    end_means front s None is leads kept = record {
      front = front;
      rest = text.End;
      parts = refl;
      place = refl;
      before = taken_begins (tokens_of M front) s leads;
      kept = kept;
      there = λ d e.
          let r = laws.reads d in
          let last : r.last ≡ s = some_is r.last s (sym r.leads ∙ ap (λ (x : List T). run M x M.start) e ∙ leads) in
          none_some d (M.done s) is (sym (ap M.done last) ∙ r.whole);
    }

    abbrev all_of : List (Lexeme K) → K → List ℕ → ℕ → Text K → Text K
    all_of front k w behind more = put front (Then k w behind more)

    passed_means : (front : List (Lexeme K)) (k : K) (w : List ℕ) (behind : ℕ) (more : Text K) (u : S) (c : Option F) (o : Option D) (next : Answer K D F)
        → Keeps M (tokens_of M front) → Leads (tokens_of M front ++ (M.token k w ∷ [])) u → M.check u ≡ c → (stop : Bool) → finished M stop (M.done u) ≡ o
        → (M.check u ≡ None → Means M (all_of front k w behind more) next) → Means M (all_of front k w behind more) (passed M (length w + behind) behind more next c o)
    passed_means front k w behind more u (Some f) o next kept leads broken stop is go = record {
      front = front;
      kind = k;
      bytes = w;
      behind = behind;
      more = more;
      piece = u;
      parts = refl;
      place = refl;
      before = taken_begins (tokens_of M front ++ (M.token k w ∷ [])) u leads;
      kept = kept;
      leads = leads;
      breaks = broken;
    }
    passed_means front k w behind more u None (Some d) next kept leads fine true is go =
        let ts = tokens_of M front ++ (M.token k w ∷ []) in
        let same : ts ≡ M.tokens d = sym (from_start ts u leads) ∙ laws.ends u d is in
        record { front = front; kind = k; bytes = w; parts = refl; spelled = same; kept = keeps_along ts (M.tokens d) same (keeps_more (tokens_of M front) (M.token k w) u kept leads fine) }
    passed_means front k w behind more u None (Some d) next kept leads fine false is go = absurd (none_some d None refl is)
    passed_means front k w behind more u None None next kept leads fine stop is go = go fine

    judged_means : (front : List (Lexeme K)) (k : K) (w : List ℕ) (behind : ℕ) (more : Text K) (s : S) (o : Option S) → M.step s (M.token k w) ≡ o
        → Leads (tokens_of M front) s → Keeps M (tokens_of M front) → Goes more → Means M (all_of front k w behind more) (judged M (length w + behind) behind more (scan M more) o)
    judged_means front k w behind more s None is leads kept go = record {
      front = front;
      rest = Then k w behind more;
      parts = refl;
      place = refl;
      before = taken_begins (tokens_of M front) s leads;
      kept = kept;
      there = refused (tokens_of M front ++ (M.token k w ∷ [])) (one_more (tokens_of M front) (M.token k w) s None leads is);
    }
    judged_means front k w behind more s (Some u) is leads kept go =
        let x = lexeme k w behind in
        let ts = tokens_of M front ++ (M.token k w ∷ []) in
        let there : Leads ts u = one_more (tokens_of M front) (M.token k w) s (Some u) leads is in
        let tokens : ts ≡ tokens_of M (front ++ (x ∷ [])) = sym (tokens_of-append front (x ∷ [])) in
        passed_means front k w behind more u (M.check u) (finished M M.stops (M.done u)) (scan M more u) kept there refl M.stops refl
        (λ fine. subst (λ (all : Text K). Means M all (scan M more u)) (put-append front (x ∷ []) more)
        (go (front ++ (x ∷ [])) u (sym (ap (λ (q : List T). run M q M.start) tokens) ∙ there) (keeps_along ts _ tokens (keeps_more (tokens_of M front) (M.token k w) u kept there fine))))

    means : (rest : Text K) → Goes rest
    means text.End front s leads kept = end_means front s (M.done s) refl leads kept
    means (text.Bad left) front s leads kept = record { front = front; parts = refl; before = taken_begins (tokens_of M front) s leads; kept = kept }
    means (Then k w behind more) front s leads kept = judged_means front k w behind more s (M.step s (M.token k w)) refl leads kept (means more)

    -- from the front
    pub scan_means : (all : Text K) → Means M all (scan M all M.start)
    scan_means all = means all [] M.start refl at_start

    -- a text in its place is read as itself
    abbrev Passes : S → Type 0
    Passes s = (M.check s ≡ None) × (finished M M.stops (M.done s) ≡ None)

    AllPass : List T → S → Type 0
    AllPass ts s = (front more : List T) (u : S) → ts ≡ front ++ more → run M front s ≡ Some u → Passes u

    through : (left behind : ℕ) (more : Text K) (o : Option S) (u : S) → o ≡ Some u → Passes u → judged M left behind more (scan M more) o ≡ scan M more u
    through left behind more o u is p =
        ap (judged M left behind more (scan M more)) is
        ∙ ap (λ (c : Option F). passed M left behind more (scan M more u) c (finished M M.stops (M.done u))) p.0
        ∙ ap (passed M left behind more (scan M more u) None) p.1

    along_step : (x : Lexeme K) (xs : List (Lexeme K)) (rest : Text K) (s v : S) (o : Option S) → M.step s (M.token x.kind x.bytes) ≡ o
        → ((u : S) → run M (tokens_of M xs) u ≡ Some v → AllPass (tokens_of M xs) u → scan M (put xs rest) u ≡ scan M rest v)
        → go_on (run M (tokens_of M xs)) o ≡ Some v → AllPass (tokens_of M (x ∷ xs)) s → scan M (put (x ∷ xs) rest) s ≡ scan M rest v
    unfolding AllPass
    along_step x xs rest s v None is go leads pass = absurd cc
    along_step x xs rest s v (Some u) is go leads pass =
        let t = M.token x.kind x.bytes in
        through (length x.bytes + x.behind) x.behind (put xs rest) (M.step s t) u is (pass (t ∷ []) (tokens_of M xs) u refl (ap (go_on (run M [])) is))
        ∙ go u leads (λ front more w e k. pass (t ∷ front) more w (ap (λ ts. t ∷ ts) e) (ap (go_on (run M front)) is ∙ k))

    along : (xs : List (Lexeme K)) (rest : Text K) (s v : S) → run M (tokens_of M xs) s ≡ Some v → AllPass (tokens_of M xs) s → scan M (put xs rest) s ≡ scan M rest v
    along [] rest s v leads pass = ap (scan M rest) (some_is s v leads)
    along (x ∷ xs) rest s v leads pass = along_step x xs rest s v (M.step s (M.token x.kind x.bytes)) refl (λ u k p. along xs rest u v k p) leads pass

    -- a state that goes on is no whole text, where the first one is the answer
    not_done : (s v : S) (t : T) (ts : List T) (o : Option D) → M.stops ≡ true → M.done s ≡ o → run M (t ∷ ts) s ≡ Some v → o ≡ None
    not_done s v t ts None stop is leads = refl
    not_done s v t ts (Some d) stop is leads =
        let none : run M (t ∷ ts) s ≡ None = ap (go_on (run M ts)) (laws.last stop s t d is) in
        absurd cc

    goes_on : (ts us : List T) (s v : S) (w : S) → run M (ts ++ us) s ≡ Some w → run M ts s ≡ Some v → run M us v ≡ Some w
    goes_on ts us s v w all first = sym (run_then ts us s v _ first refl) ∙ all

    on_the_way : (ts us : List T) (t : T) (d : D) → ts ++ (t ∷ us) ≡ M.tokens d → Keeps M (M.tokens d) → (s : S) → Leads ts s → M.stops ≡ true → Passes s
    on_the_way ts us t d is kept s leads stop =
        let r = laws.reads d in
        let all : run M (ts ++ (t ∷ us)) M.start ≡ Some r.last = ap (λ (x : List T). run M x M.start) is ∙ r.leads in
        (kept ts (t ∷ us) s (sym is) leads, ap (λ (b : Bool). finished M b (M.done s)) stop ∙ not_done s r.last t us (M.done s) stop refl (goes_on ts (t ∷ us) M.start s r.last all leads))

    last_read : (s : S) (d : D) (last : S) (left behind : ℕ) (more : Text K) (o : Option S) → M.stops ≡ true → go_on (run M []) o ≡ Some last → M.check last ≡ None → M.done last ≡ Some d
        → judged M left behind more (scan M more) o ≡ Read d behind more
    last_read s d last left behind more None stop leads fine is = absurd cc
    last_read s d last left behind more (Some u) stop leads fine is =
        let same : u ≡ last = some_is u last leads in
        ap (λ (x : S). judged M left behind more (scan M more) (Some x)) same
        ∙ ap (λ (c : Option F). passed M left behind more (scan M more last) c (finished M M.stops (M.done last))) fine
        ∙ ap (λ (b : Bool). passed M left behind more (scan M more last) None (finished M b (M.done last))) stop
        ∙ ap (passed M left behind more (scan M more last) None) is

    last_piece : (ts : List T) (t : T) (s last : S) (o : Option S) → run M ts M.start ≡ o → go_on (run M (t ∷ [])) o ≡ Some last → (v : S) × (run M ts M.start ≡ Some v) × (go_on (run M []) (M.step v t) ≡ Some last)
    last_piece ts t s last None is e = absurd cc
    last_piece ts t s last (Some v) is e = (v, is, e)

    some_more : (ms : List T) (t : T) → (h : T) × (tail : List T) × (ms ++ (t ∷ []) ≡ h ∷ tail)
    some_more [] t = (t, [], refl)
    some_more (m ∷ ms) t = (m, ms ++ (t ∷ []), refl)

    pub reads_back : (front : List (Lexeme K)) (k : K) (w : List ℕ) (behind : ℕ) (more : Text K) (d : D) → M.stops ≡ true → tokens_of M front ++ (M.token k w ∷ []) ≡ M.tokens d → Keeps M (M.tokens d)
        → scan M (put front (Then k w behind more)) M.start ≡ Read d behind more
    unfolding AllPass
    reads_back front k w behind more d stop is kept =
        let ts = tokens_of M front in
        let t = M.token k w in
        let r = laws.reads d in
        let all : run M (ts ++ (t ∷ [])) M.start ≡ Some r.last = ap (λ (x : List T). run M x M.start) is ∙ r.leads in
        let p = last_piece ts t M.start r.last (run M ts M.start) refl (sym (run-append ts (t ∷ []) M.start) ∙ all) in
        let fine : M.check r.last ≡ None = kept (M.tokens d) [] r.last (sym (append_nil (M.tokens d))) r.leads in
        along front (Then k w behind more) M.start p.0 p.1 (λ fr mo u e q.
        let m = some_more mo t in
        let whole : fr ++ (m.0 ∷ m.1) ≡ M.tokens d = sym (ap (λ (x : List T). fr ++ x) m.2) ∙ sym (append_assoc fr mo (t ∷ [])) ∙ sym (ap (λ (x : List T). x ++ (t ∷ [])) e) ∙ is in
        on_the_way fr m.1 m.0 d whole kept u q stop)
        ∙ last_read p.0 d r.last (length w + behind) behind more (M.step p.0 t) stop p.2 fine r.whole

    -- the same of a text up to the end
    pub reads_whole : (front : List (Lexeme K)) (d : D) → M.stops ≡ false → tokens_of M front ≡ M.tokens d → Keeps M (M.tokens d) → scan M (put front text.End) M.start ≡ Whole d
    unfolding AllPass
    reads_whole front d stop is kept =
        let r = laws.reads d in
        along front text.End M.start r.last (ap (λ (x : List T). run M x M.start) is ∙ r.leads) (λ fr mo u e q.
        (kept fr mo u (sym is ∙ e) q, ap (λ (b : Bool). finished M b (M.done u)) stop))
        ∙ ap (at_end M) r.whole
