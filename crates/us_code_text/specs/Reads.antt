-- What a part of the reader does, wherever it stands.
use Rattle.std.specs.Prelude.{◌≡◌, ◌+◌, length, ◌<◌, ℕ, [], ◌∷◌, suc, Result, Ok, Err, Option, Some, None}
use Rattle.us_tokens.specs.Text as text
use Rattle.us_tokens.specs.Text.{Text, left_of}
use Rattle.us_tokens.specs.Cursor.{ahead}
use Rattle.us_grammar.specs.Grammar.{Symbol, Fixed, Part, Row, Values}
use Rattle.us_grammar.specs.Reading as reading
use Rattle.us_grammar.specs.Reading.{Answer, Read, NoToken, Form, Broken, scan}
use Rattle.us_code_table.specs.declared.mark.Mark.{Mark}
use Rattle.us_code_table.specs.declared.note.Note.{Note}
use Rattle.us_code.specs.Plain.{ProgramTree, TermTree}
use Rattle.us_code_table.specs.Table.{Nonterminal, Class, Word, AOne, Atom, Value, grammar}
use Rattle.us_code_table.specs.Words.{language, token}
use Rattle.us_code_table.specs.Limits.{Break, TooBig, Count, limits}
use Rattle.us_code_text.specs.Counts.{counted}
use Rattle.us_code_table.specs.declared.lexeme.Lexeme.{Lexeme}
use Rattle.us_code_text.specs.declared.stop.Stop.{Stop}
use Rattle.us_code_text.specs.declared.stop.Stop.TheVariants as stop
use Rattle.us_code_text.specs.declared.reader.Reader.{Reader}

abbrev pub text_of : Reader → Text Lexeme
text_of r = ahead language r.cursor

abbrev pub count_of : Reader → Count
count_of r = counted r.meter

abbrev pub size : Text Lexeme → ℕ
size text.End = 0
size (text.Bad left) = 0
size (text.Then k w behind more) = suc (size more)

abbrev pub answer_of : Stop → Option (Answer Lexeme ProgramTree Break)
answer_of (stop.Token n) = Some (NoToken n)
answer_of (stop.Form n) = Some (Form n)
answer_of (stop.TooBig n) = Some (Broken TooBig n)
answer_of stop.Memory = None

abbrev pub Is : Answer Lexeme ProgramTree Break → Option (Answer Lexeme ProgramTree Break) → Type 0
Is a None = Unit {0}
Is a (Some z) = a ≡ z

-- reading on by a row ends with this fault; of want of memory nothing is said
abbrev pub Ends : Reader → (s : Row grammar) → (Values grammar s → ProgramTree) → Option (Answer Lexeme ProgramTree Break) → Type 0
Ends r s k o = Is (scan grammar limits (text_of r) (count_of r) s k) o

-- reading on by one row is reading on by another
abbrev pub Leads : Reader → (s : Row grammar) → (Values grammar s → ProgramTree) → Reader → (u : Row grammar) → (Values grammar u → ProgramTree) → Type 0
Leads r s k q u h = scan grammar limits (text_of r) (count_of r) s k ≡ scan grammar limits (text_of q) (count_of q) u h

-- a part was read, with this value, wherever it stands
abbrev pub Goes : (n : Nonterminal) → Reader → Reader → Value n → Type 0
Goes n r q v = (x : Symbol Nonterminal Class) (s : Row grammar) (k : Values grammar (Part n ∷ x ∷ s) → ProgramTree) → Leads r (Part n ∷ x ∷ s) k q (x ∷ s) (λ vs. k (v, vs))

abbrev pub Fails : (n : Nonterminal) → Reader → Stop → Type 0
Fails n r e = (x : Symbol Nonterminal Class) (s : Row grammar) (k : Values grammar (Part n ∷ x ∷ s) → ProgramTree) → Ends r (Part n ∷ x ∷ s) k (answer_of e)

abbrev pub Reads : {X : Type 0} → (n : Nonterminal) → (X → Value n) → Reader → Reader → Result X Stop → Type 0
Reads n see r q (Ok v) = Goes n r q (see v) × (size (text_of q) < size (text_of r))
Reads n see r q (Err e) = Fails n r e

-- the same of a terminal
abbrev pub ReadsClass : {X : Type 0} → Class → Reader → Reader → Result X Stop → Type 0
ReadsClass c r q (Ok v) = ((x : Symbol Nonterminal Class) (s : Row grammar) (k : Values grammar (Fixed c ∷ x ∷ s) → ProgramTree) → Leads r (Fixed c ∷ x ∷ s) k q (x ∷ s) k) × (size (text_of q) < size (text_of r))
ReadsClass c r q (Err e) = (x : Symbol Nonterminal Class) (s : Row grammar) (k : Values grammar (Fixed c ∷ x ∷ s) → ProgramTree) → Ends r (Fixed c ∷ x ∷ s) k (answer_of e)

abbrev pub ReadsFixed : {X : Type 0} → Mark → Reader → Reader → Result X Stop → Type 0
ReadsFixed c r q o = ReadsClass (Word c) r q o

abbrev pub ReadsOne : {X : Type 0} → Reader → Reader → Result X Stop → Type 0
ReadsOne r q o = ReadsClass AOne r q o

-- a terminal that ends the text
abbrev pub ReadsLast : Mark → Reader → Result ℕ Stop → Type 0
ReadsLast c r (Ok behind) = (more : Text Lexeme) × ((k : Values grammar (Fixed (Word c) ∷ []) → ProgramTree) → scan grammar limits (text_of r) (count_of r) (Fixed (Word c) ∷ []) k ≡ Read (k tt) behind more)
ReadsLast c r (Err e) = (k : Values grammar (Fixed (Word c) ∷ []) → ProgramTree) → Ends r (Fixed (Word c) ∷ []) k (answer_of e)

-- what has been read is the front of a part that ends with another one: given its value, the part's
abbrev pub GoesInto : (n o : Nonterminal) → Reader → Reader → (Value o → Value n) → Type 0
GoesInto n o r q f = (x : Symbol Nonterminal Class) (s : Row grammar) (k : Values grammar (Part n ∷ x ∷ s) → ProgramTree) → Leads r (Part n ∷ x ∷ s) k q (Part o ∷ x ∷ s) (λ vs. k (f vs.0, vs.1))

-- one token was taken
abbrev pub Takes : Option Note → Lexeme → Reader → Reader → Type 0
Takes o l r q = reading.Takes grammar limits o (token l) (text_of r) (count_of r) (text_of q) (count_of q)

abbrev pub Exceeds : Option Note → Lexeme → Reader → Type 0
Exceeds o l r = reading.Exceeds grammar limits o (token l) (text_of r) (count_of r) TooBig

abbrev pub Lacks : Nonterminal → Reader → Type 0
Lacks n r = reading.Lacks grammar limits n (text_of r)

-- the fault where no token that stands here may stand
abbrev pub refusal_of : Text Lexeme → Stop
refusal_of text.End = stop.Form 0
refusal_of (text.Bad left) = stop.Token left
refusal_of (text.Then k w behind more) = stop.Form (length w + behind)

-- a product or a sum so far goes on to another one
abbrev pub Extends : (o : Nonterminal) → (Value o → TermTree → TermTree) → Reader → Reader → TermTree → TermTree → Type 0
Extends o f r q a b = (x : Symbol Nonterminal Class) (s : Row grammar) (k : Values grammar (Part Atom ∷ x ∷ s) → ProgramTree) → Leads r (Part o ∷ x ∷ s) (λ vs. k (f vs.0 a, vs.1)) q (Part o ∷ x ∷ s) (λ vs. k (f vs.0 b, vs.1))

abbrev pub LacksFixed : Mark → Reader → Type 0
LacksFixed c r = reading.LacksFixed grammar limits (Word c) (text_of r)
