-- A text in its place is read as itself.
use Rattle.std.proofs.Common.{◌≡◌, ℕ, ◌+◌, List, [], ◌∷◌, ◌++◌, length, Option, Some, None, Bool, true, false, refl, sym, ap, ◌∙◌, ◌&&◌, ◌⊎◌, inl, inr}
use Rattle.us_tokens.specs.Text as text
use Rattle.us_tokens.specs.Text.{Text, Then}
use Rattle.us_grammar.specs.Grammar.{Grammar, Symbol, Fixed, Part, Row, Pick, Values, Next, Spells, Empties, step, ends, flows, IsTable}
use Rattle.us_grammar.specs.Reading.{Limits, Answer, Read, Whole, Lexeme, put, stopped, passed, judged, at_end, scan, tokens_of, or_else, broken_at, breaks, answer, behind_last}
use Rattle.us_grammar.proofs.Bools.{some_is, some_none}
use Rattle.us_grammar.proofs.Law.{taken, empties_end}

module _ {N C T M : Type 0} (G : Grammar N C T M) where
  -- rows of which no text goes on: they stay so, and are nothing only where nothing is left to read
  pub record Closing : Type 1 where
    pub Closed : Row G → Type 0
    pub stays : (r : Row G) (t : T) (u : Next G r) → Closed r → step G r t ≡ Some u → Closed u.row
    pub ends : (r : Row G) (ws : Values G r) → Closed r → Empties G r ws → r ≡ []

module _ {N C K T M S F : Type 0} (G : Grammar N C T M) (L : Limits K T M S F) (ok : IsTable G) (A : Type 0) where
  -- a reading of a text to its end, or to the end of the row
  fits_first : (a o : Option F) → or_else G L a o ≡ None → (a ≡ None) × (o ≡ None)
  fits_first None o e = (refl, e)
  fits_first (Some a) o e = absurd cc

  on_last : (cl : Closing G) (x : Lexeme K) (rest : Text K) (r : Row G) (k : Values G r → A) (ws : Values G r) → cl.Closed r → Empties G r ws → (next : Answer K A F) → stopped G L r k x.behind rest next ≡ Read (k ws) x.behind rest
  on_last cl x rest [] k ws here h next = refl
  on_last cl x rest (y ∷ r) k ws here h next = let e = cl.ends (y ∷ r) ws here h in absurd cc

  on_more : (t : T) (ts : List T) (r : Row G) (k : Values G r → A) (ws : Values G r) (behind : ℕ) (more : Text K) (next a : Answer K A F) → Spells G (t ∷ ts) r ws → next ≡ a → stopped G L r k behind more next ≡ a
  on_more t ts [] k ws behind more next a sp e = absurd sp
  on_more t ts (y ∷ r) k ws behind more next a sp e = e

  -- one token of it
  pub record One (x : Lexeme K) (ts : List T) (m : S) (s : Row G) (vs : Values G s) : Type 0 where
    pub next : Next G s
    pub is : step G s (L.token x.kind x.bytes) ≡ Some next
    pub clean : flows G next.row [] ≡ true
    pub values : Values G next.row
    pub spells : Spells G ts next.row values
    pub same : next.back values ≡ vs
    pub fits : L.check (L.measure m next.note (L.token x.kind x.bytes)) (L.token x.kind x.bytes) ≡ None
    pub kept : breaks G L ts (L.measure m next.note (L.token x.kind x.bytes)) next.row ≡ None

  one : (x : Lexeme K) (ts : List T) (m : S) (s : Row G) (vs : Values G s) → flows G s [] ≡ true → Spells G (L.token x.kind x.bytes ∷ ts) s vs → breaks G L (L.token x.kind x.bytes ∷ ts) m s ≡ None → One x ts m s vs
  one x ts m s vs fl sp fine =
      let t = L.token x.kind x.bytes in
      let p = taken G ok s t (λ u. (bs : Values G u.row) × Spells G ts u.row bs × (u.back bs ≡ vs)) fl sp in
      let f = fits_first (L.check (L.measure m p.next.note t) t) (breaks G L ts (L.measure m p.next.note t) p.next.row) (sym (ap (broken_at G L t s m (breaks G L ts)) p.is) ∙ fine) in
      record { next = p.next; is = p.is; clean = p.clean; values = p.outcome.0; spells = p.outcome.1; same = p.outcome.2; fits = f.0; kept = f.1 }

  to_next : (x : Lexeme K) (more : Text K) (ts : List T) (m : S) (s : Row G) (k : Values G s → A) (vs : Values G s) (o : One x ts m s vs) → scan G L (Then x.kind x.bytes x.behind more) m s k
      ≡ stopped G L o.next.row (λ ws. k (o.next.back ws)) x.behind more (scan G L more (L.measure m o.next.note (L.token x.kind x.bytes)) o.next.row (λ ws. k (o.next.back ws)))
  to_next x more ts m s k vs o =
      let t = L.token x.kind x.bytes in
      let left = length x.bytes + x.behind in
      ap (judged G L left x.behind more t s k m (scan G L more)) o.is
      ∙ ap (λ c. passed G L left c (stopped G L o.next.row (λ ws. k (o.next.back ws)) x.behind more (scan G L more (L.measure m o.next.note t) o.next.row (λ ws. k (o.next.back ws))))) o.fits

  pub reads_back : (cl : Closing G) (x : Lexeme K) (xs : List (Lexeme K)) (rest : Text K) (m : S) (s : Row G) (k : Values G s → A) (vs : Values G s) → flows G s [] ≡ true → cl.Closed s
      → Spells G (tokens_of G L (x ∷ xs)) s vs → breaks G L (tokens_of G L (x ∷ xs)) m s ≡ None → scan G L (put (x ∷ xs) rest) m s k ≡ Read (k vs) (behind_last x xs) rest
  reads_back cl x [] rest m s k vs fl here sp fine =
      let o = one x [] m s vs fl sp fine in
      to_next x rest [] m s k vs o ∙ on_last cl x rest o.next.row _ o.values (cl.stays s (L.token x.kind x.bytes) o.next here o.is) o.spells _ ∙ ap (λ z. Read (k z) x.behind rest) o.same
  reads_back cl x (y ∷ ys) rest m s k vs fl here sp fine =
      let o = one x (tokens_of G L (y ∷ ys)) m s vs fl sp fine in
      let stays = cl.stays s (L.token x.kind x.bytes) o.next here o.is in
      to_next x (put (y ∷ ys) rest) (tokens_of G L (y ∷ ys)) m s k vs o
      ∙ on_more (L.token y.kind y.bytes) (tokens_of G L ys) o.next.row _ o.values x.behind (put (y ∷ ys) rest) _ _ o.spells (reads_back cl y ys rest _ o.next.row (λ ws. k (o.next.back ws)) o.values o.clean stays o.spells o.kept)
      ∙ ap (λ z. Read (k z) (behind_last y ys) rest) o.same
