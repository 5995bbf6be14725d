-- Readings one after the other.
use Rattle.std.proofs.Common.{◌≡◌, ℕ, ◌+◌, length, [], ◌∷◌, ◌++◌, Option, Some, None, cond, refl, sym, ap, ◌∙◌}
use Rattle.us_tokens.specs.Text as text
use Rattle.us_tokens.specs.Text.{left_of, bytes_of, behind_of, after}
use Rattle.us_tokens.specs.Front.{Tells}
use Rattle.us_tokens.specs.declared.next.Next.TheVariants.{Token as Here}
use Rattle.us_grammar.specs.Grammar.{Symbol, Fixed, Part, behind as fixed, Row, Pick, Values, pick, append_left, append_right}
use Rattle.us_grammar.specs.Reading.{Answer, Read, Broken, scan, judged, passed}
use Rattle.us_grammar.specs.Reading as reading
use Rattle.us_grammar.proofs.Steps.{chooses, refuses, skips, lifted}
use Rattle.us_code.specs.Plain.{ProgramTree, TermTree}
use Rattle.us_code_table.specs.Table.{Nonterminal, Class, Word, Sum, Product, Atom, ProductTail, SumTail, Value, grammar}
use Rattle.us_code_table.specs.Words.{token}
use Rattle.us_code_table.specs.Limits.{Break, TooBig, Count, limits, check, measure}
use Rattle.us_code_table.specs.declared.lexeme.Lexeme.{Lexeme}
use Rattle.us_code_table.specs.declared.lexeme.Lexeme.TheVariants as lexeme
use Rattle.us_code_table.specs.declared.mark.Mark.{Mark}
use Rattle.us_code_table.specs.declared.note.Note.TheVariants.{SourceCount}
use Rattle.us_code_table.proofs.Sound.{table}
use Rattle.us_code_table.proofs.Values.{number_value}
use Rattle.us_code_text.specs.declared.stop.Stop.{Stop}
use Rattle.us_code_text.specs.Reads.{Is, refusal_of, answer_of}

pub via : {a b : Answer Lexeme ProgramTree Break} (o : Option (Answer Lexeme ProgramTree Break)) → a ≡ b → Is b o → Is a o
via None e h = tt
via (Some z) e h = e ∙ h

abbrev pub Text : Type 0
Text = text.Text Lexeme

abbrev pub End : (n : Nonterminal) → Text → Count → Stop → Type 0
End n old a e = (x : Symbol Nonterminal Class) (s : Row grammar) (k : Values grammar (Part n ∷ x ∷ s) → ProgramTree) → Is (scan grammar limits old a (Part n ∷ x ∷ s) k) (answer_of e)

pub took : (n : Nonterminal) (l : Lexeme) (old : Text) (a : Count) (new : Text) (b : Count) (x : Pick grammar n) → pick grammar (grammar.choices n) (token l).class ≡ Some x → reading.Takes grammar limits (Some x.note) (token l) old a new b
    → (y : Symbol Nonterminal Class) (s : Row grammar) (k : Values grammar (Part n ∷ y ∷ s) → ProgramTree) → scan grammar limits old a (Part n ∷ y ∷ s) k ≡ scan grammar limits new b (x.rest ++ (y ∷ s)) (λ vs. k (x.value (token l) (append_left Value x.rest (y ∷ s) vs), append_right Value x.rest (y ∷ s) vs))
took n l old a new b x is h y s k = chooses grammar limits ProgramTree n (token l) old a new b y s k x is h

pub refusal_is : (t : Text) → Is (reading.refusal grammar limits t) (answer_of (refusal_of t))
refusal_is text.End = refl
refusal_is (text.Bad left) = refl
refusal_is (text.Then k w behind more) = refl

pub no_choice : (n : Nonterminal) (old : Text) (a : Count) → grammar.empty n ≡ None → reading.Lacks grammar limits n old → End n old a (refusal_of old)
no_choice n old a e h x s k = via (answer_of (refusal_of old)) (refuses grammar limits ProgramTree n old a (x ∷ s) k e h) (refusal_is old)

-- a sum begins with a product, and that with an operand
module _ (old : Text) (a : Count) where
  atom_of : (x : Symbol Nonterminal Class) (s : Row grammar) (k : Values grammar (Part Product ∷ x ∷ s) → ProgramTree) → scan grammar limits old a (Part Product ∷ x ∷ s) k ≡ scan grammar limits old a (Part Atom ∷ Part ProductTail ∷ x ∷ s) (λ vs. k (vs.1.0 vs.0, vs.1.1))
  atom_of x s k = lifted grammar limits ProgramTree Product Atom (Part ProductTail ∷ []) (x ∷ s) (λ e vs. vs.0 e) k old a refl refl refl

  product_of : (x : Symbol Nonterminal Class) (s : Row grammar) (k : Values grammar (Part Sum ∷ x ∷ s) → ProgramTree) → scan grammar limits old a (Part Sum ∷ x ∷ s) k ≡ scan grammar limits old a (Part Product ∷ Part SumTail ∷ x ∷ s) (λ vs. k (vs.1.0 vs.0, vs.1.1))
  product_of x s k = lifted grammar limits ProgramTree Sum Product (Part SumTail ∷ []) (x ∷ s) (λ e vs. vs.0 e) k old a refl refl refl

  module _ (new : Text) (b : Count) (e : TermTree) where
    pub atom_first : reading.Goes grammar limits ProgramTree Atom old a new b e → reading.GoesInto grammar limits ProgramTree Product ProductTail old a new b (λ f. f e)
    atom_first h x s k = atom_of x s k ∙ h (Part ProductTail) (x ∷ s) _

    pub product_first : reading.Goes grammar limits ProgramTree Product old a new b e → reading.GoesInto grammar limits ProgramTree Sum SumTail old a new b (λ f. f e)
    product_first h x s k = product_of x s k ∙ h (Part SumTail) (x ∷ s) _

  pub lost_atom : (e : Stop) → End Atom old a e → End Product old a e
  lost_atom e h x s k = via (answer_of e) (atom_of x s k) (h (Part ProductTail) (x ∷ s) _)

  pub lost_product : (e : Stop) → End Product old a e → End Sum old a e
  lost_product e h x s k = via (answer_of e) (product_of x s k) (h (Part SumTail) (x ∷ s) _)

-- a part so far, and its last part that is nothing
pub closes : (n o : Nonterminal) (v : Value o) (old : Text) (a : Count) (new : Text) (b : Count) (f : Value o → Value n) → grammar.empty o ≡ Some v → reading.Lacks grammar limits o new → reading.GoesInto grammar limits ProgramTree n o old a new b f → reading.Goes grammar limits ProgramTree n old a new b (f v)
closes n o v old a new b f e h g x s k = g x s k ∙ skips grammar limits ProgramTree o v new b (x ∷ s) (λ vs. k (f vs.0, vs.1)) e h

-- a word or symbol that ends the text
module _ (c : Mark) (old : Text) (a : Count) (h : Tells old (Here (lexeme.Fixed c))) (k : Values grammar (Fixed (Word c) ∷ []) → ProgramTree) where
  last_judged : (o : Option Break) → check (measure a None (token (lexeme.Fixed c))) (token (lexeme.Fixed c)) ≡ o
      → scan grammar limits old a (Fixed (Word c) ∷ []) k ≡ passed grammar limits (left_of old) o (Read (k tt) (behind_of old) (after old))
  last_judged o e =
      let t = token (lexeme.Fixed c) in
      let m = measure a None t in
      ap (λ x. scan grammar limits x a (Fixed (Word c) ∷ []) k) h
      ∙ ap (λ b. judged grammar limits (length (bytes_of old) + behind_of old) (behind_of old) (after old) t (Fixed (Word c) ∷ []) k a (scan grammar limits (after old)) (cond b (Some (fixed grammar (Word c) [])) None)) (table.same_self (Word c))
      ∙ ap (λ p. passed grammar limits (length (bytes_of old) + behind_of old) p (Read (k tt) (behind_of old) (after old))) e
      ∙ ap (λ x. passed grammar limits (left_of x) o (Read (k tt) (behind_of old) (after old))) (sym h)

  pub last_read : check (measure a None (token (lexeme.Fixed c))) (token (lexeme.Fixed c)) ≡ None → scan grammar limits old a (Fixed (Word c) ∷ []) k ≡ Read (k tt) (behind_of old) (after old)
  last_read e = last_judged None e

  pub last_breaks : check (measure a None (token (lexeme.Fixed c))) (token (lexeme.Fixed c)) ≡ Some TooBig → scan grammar limits old a (Fixed (Word c) ∷ []) k ≡ Broken TooBig (left_of old)
  last_breaks e = last_judged (Some TooBig) e

-- the number of sources, as the meter has it
pub counts_sources : (n : ℕ) (old : Text) (a : Count) (new : Text) (b : Count) → reading.Takes grammar limits (Some SourceCount) (token (lexeme.Number n)) old a new b → b.sources ≡ n
counts_sources n old a new b h = ap (λ (x : Count). x.sources) h.meter ∙ number_value n
