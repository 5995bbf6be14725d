-- Whole programs, and how many bytes are left at an answer.
use Rattle.std.proofs.Common.{◌≡◌, ℕ, ◌+◌, ◌-◌, ◌≤◌, length, List, [], ◌∷◌, ◌++◌, drop, Option, Some, None, Result, Ok, Err, refl, sym, ap, subst, ◌∙◌, arith, length-append}
use Rattle.std.proofs.Math.Seq.{drop-append_seam}
use Rattle.us_tokens.specs.Text as text
use Rattle.us_tokens.specs.Text.{left_of}
use Rattle.us_tokens.specs.Lex.{lexed, Between}
use Rattle.us_tokens.specs.Places.{IsPlaced}
use Rattle.us_tokens.proofs.Places.{lexed_placed}
use Rattle.us_grammar.specs.Grammar.{Fixed, Part, Row, Pick, Values, Next, step, ends, opened}
use Rattle.us_grammar.specs.Reading.{Answer, Read, Broken, NoToken, Form, scan, judged, passed, stopped, at_end}
use Rattle.us_grammar.specs.Reading as reading
use Rattle.us_grammar.proofs.Steps.{goes, exceeds, refuses}
use Rattle.us_code.specs.Plain.{ProgramTree, program_tree}
use Rattle.us_code.specs.declared.program.Program.{Program}
use Rattle.us_code_table.specs.declared.mark.Mark.TheVariants as m
use Rattle.us_code_table.specs.declared.note.Note.TheVariants.{Free}
use Rattle.us_code_table.specs.declared.lexeme.Lexeme.{Lexeme}
use Rattle.us_code_table.specs.declared.lexeme.Lexeme.TheVariants as lexeme
use Rattle.us_code_table.specs.Table.{Word, Whole, Count as CountPart, Phases, Gives, grammar, on}
use Rattle.us_code_table.specs.Words.{language, token}
use Rattle.us_code_table.specs.Limits.{Break, TooBig, Count, limits, nothing}
use Rattle.us_code_text.specs.declared.reader.Reader.{Reader}
use Rattle.us_code_text.specs.declared.stop.Stop.{Stop}
use Rattle.us_code_text.specs.declared.stop.Stop.TheVariants as stop
use Rattle.us_code_text.specs.Reads.{text_of, count_of, answer_of, refusal_of, Is}
use Rattle.us_code_text.proofs.Chains.{Text, via, refusal_is}
use Rattle.us_code_reader.specs.declared.parsed.OneProgram.{OneProgram}
use Rattle.us_code_reader.specs.declared.parsed.CodeFault.{CodeFault}
use Rattle.us_code_reader.specs.declared.parsed.CodeFault.TheVariants as fault
use Rattle.us_code_reader.specs.Parses.{answer_on, Answers, IsParsedAs, ReadsCode, ReadsWhole, fault_of, left_at}

abbrev Everything : Row grammar
Everything = Part Whole ∷ []

abbrev whole : Pick grammar Whole
whole = on (Word m.Code) (Part CountPart ∷ Fixed (Word m.BraceOpen) ∷ Part Phases ∷ Fixed (Word m.Give) ∷ Part Gives ∷ Fixed (Word m.BraceClose) ∷ []) Free (λ t vs. record { sources = vs.0; phases = vs.1.0; give = vs.1.1.0 })

abbrev taken : Next grammar Everything
taken = opened grammar Whole [] (token (lexeme.Fixed m.Code)) whole

module _ (old : Text) (a : Count) where
  pub began : (new : Text) (b : Count) → reading.Takes grammar limits (Some Free) (token (lexeme.Fixed m.Code)) old a new b
      → scan grammar limits old a Everything (λ vs. vs.0) ≡ scan grammar limits new b (Part CountPart ∷ Fixed (Word m.BraceOpen) ∷ Part Phases ∷ Fixed (Word m.Give) ∷ Part Gives ∷ Fixed (Word m.BraceClose) ∷ []) (λ vs. record { sources = vs.0; phases = vs.1.0; give = vs.1.1.0 })
  began new b h = goes grammar limits ProgramTree (token (lexeme.Fixed m.Code)) old a new b Everything (λ vs. vs.0) taken h refl (λ k behind more next. refl)

  pub too_big : reading.Exceeds grammar limits (Some Free) (token (lexeme.Fixed m.Code)) old a TooBig → scan grammar limits old a Everything (λ vs. vs.0) ≡ Broken TooBig (left_of old)
  too_big h = exceeds grammar limits ProgramTree (token (lexeme.Fixed m.Code)) old a TooBig Everything (λ vs. vs.0) taken h refl

  pub no_code : reading.Lacks grammar limits Whole old → Is (scan grammar limits old a Everything (λ vs. vs.0)) (answer_of (refusal_of old))
  no_code h = via (answer_of (refusal_of old)) (refuses grammar limits ProgramTree Whole old a [] (λ vs. vs.0) refl h) (refusal_is old)

-- no more bytes are left at an answer than the text has
abbrev Within : ℕ → Answer Lexeme ProgramTree Break → Type 0
Within n (Read p behind more) = behind ≤ n
Within n (reading.Whole p) = Unit {0}
Within n (NoToken left) = left ≤ n
Within n (Form left) = left ≤ n
Within n (Broken f left) = left ≤ n

wider : (m n : ℕ) (a : Answer Lexeme ProgramTree Break) → m ≤ n → Within m a → Within n a
wider m n (Read p behind more) h w = omega arith
wider m n (reading.Whole p) h w = tt
wider m n (NoToken left) h w = omega arith
wider m n (Form left) h w = omega arith
wider m n (Broken f left) h w = omega arith

within_end : (n : ℕ) (s : Row grammar) (k : Values grammar s → ProgramTree) (o : Option (Values grammar s)) → Within n (at_end grammar limits s k o)
within_end n s k None = omega arith
within_end n s k (Some vs) = tt

within_stopped : (n : ℕ) (s : Row grammar) (k : Values grammar s → ProgramTree) (behind : ℕ) (more : Text) (next : Answer Lexeme ProgramTree Break) → behind ≤ n → Within n next → Within n (stopped grammar limits s k behind more next)
within_stopped n [] k behind more next b w = b
within_stopped n (x ∷ s) k behind more next b w = w

within_passed : (n left : ℕ) (f : Option Break) (next : Answer Lexeme ProgramTree Break) → left ≤ n → Within n next → Within n (passed grammar limits left f next)
within_passed n left (Some f) next a w = a
within_passed n left None next a w = w

within_judged : (n left behind : ℕ) (more : Text) (t : _) (s : Row grammar) (k : Values grammar s → ProgramTree) (a : Count) (go : Count → (r : Row grammar) → (Values grammar r → ProgramTree) → Answer Lexeme ProgramTree Break) (o : Option (Next grammar s)) → left ≤ n → behind ≤ n
    → ((b : Count) (r : Row grammar) (h : Values grammar r → ProgramTree) → Within n (go b r h)) → Within n (judged grammar limits left behind more t s k a go o)
within_judged n left behind more t s k a go None l b w = l
within_judged n left behind more t s k a go (Some u) l b w = within_passed n left _ _ l (within_stopped n u.row (λ vs. k (u.back vs)) behind more _ b (w _ u.row (λ vs. k (u.back vs))))

scan_within : (old : Text) (bytes : List ℕ) (a : Count) (s : Row grammar) (k : Values grammar s → ProgramTree) → IsPlaced bytes old → Within (length bytes) (scan grammar limits old a s k)
scan_within text.End bytes a s k p = within_end (length bytes) s k (ends grammar s)
scan_within (text.Bad left) bytes a s k p = let e : length bytes ≡ length (p.0 ++ p.1) = ap length p.2 in let f : length p.1 ≡ left = p.3 in omega (arith, length-append p.0 p.1)
scan_within (text.Then w b behind more) bytes a s k p =
    let e : length bytes ≡ length (p.0 ++ (b ++ p.1)) = ap length p.2 in
    let f : length p.1 ≡ behind = p.3 in
    let l : length b + behind ≤ length bytes = omega (arith, length-append p.0 (b ++ p.1), length-append b p.1) in
    within_judged (length bytes) (length b + behind) behind more (limits.token w b) s k a (scan grammar limits more) (step grammar s (limits.token w b)) l (omega arith)
    (λ c r h. wider (length p.1) (length bytes) (scan grammar limits more c r h) (omega arith) (scan_within more p.1 c r h p.5))

whole_within : (bytes : List ℕ) → Within (length bytes) (answer_on bytes)
whole_within bytes = scan_within (lexed language bytes Between) bytes nothing Everything (λ vs. vs.0) (lexed_placed language bytes)

-- a reader at the front of a text
front_is : (bytes : List ℕ) (r : Reader) → text_of r ≡ lexed language bytes Between → count_of r ≡ nothing → answer_on bytes ≡ scan grammar limits (text_of r) (count_of r) Everything (λ vs. vs.0)
front_is bytes r e f = ap (λ x. scan grammar limits x nothing Everything (λ vs. vs.0)) (sym e) ∙ ap (λ x. scan grammar limits (text_of r) x Everything (λ vs. vs.0)) (sym f)

left_within : (bytes : List ℕ) (e : Stop) → Is (answer_on bytes) (answer_of e) → left_at e ≤ length bytes
left_within bytes (stop.Token n) h = subst (λ (x : Answer Lexeme ProgramTree Break). Within (length bytes) x) h (whole_within bytes)
left_within bytes (stop.Form n) h = subst (λ (x : Answer Lexeme ProgramTree Break). Within (length bytes) x) h (whole_within bytes)
left_within bytes (stop.TooBig n) h = subst (λ (x : Answer Lexeme ProgramTree Break). Within (length bytes) x) h (whole_within bytes)
left_within bytes stop.Memory h = omega arith

pub code_read : (bytes : List ℕ) (r : Reader) (o : Result (Program × ℕ) Stop) → text_of r ≡ lexed language bytes Between → count_of r ≡ nothing → ReadsWhole r o → ReadsCode bytes o
code_read bytes r (Ok x) e f h =
    let is : answer_on bytes ≡ Read (program_tree x.0) x.1 h.0 = front_is bytes r e f ∙ h.1 in
    (h.0, is, subst (λ (y : Answer Lexeme ProgramTree Break). Within (length bytes) y) is (whole_within bytes))
code_read bytes r (Err e) g f h =
    let is = via (answer_of e) (front_is bytes r g f) h in
    (is, left_within bytes e is)

-- the result of parsing from a place on
module _ (bytes rest : List ℕ) (from len : ℕ) (back : rest ≡ drop from bytes) (all : length bytes ≡ len) where
  pub parsed : (program : Program) (behind end : ℕ) → ReadsCode rest (Ok (program, behind)) → end + behind ≡ len → Answers (length bytes) (answer_on (drop from bytes)) (Ok (record { program = program; end = end }))
  parsed program behind end h e =
      let is : answer_on (drop from bytes) ≡ Read (program_tree program) behind h.0 = ap answer_on (sym back) ∙ h.1 in
      subst (λ (x : Answer Lexeme ProgramTree Break). Answers (length bytes) x (Ok (record { program = program; end = end }))) (sym is) (refl, e ∙ sym all)

  pub lost : (e : Stop) → ReadsCode rest (Err e) → left_at e ≤ len → Answers (length bytes) (answer_on (drop from bytes)) (Err (fault_of len e))
  lost (stop.Token n) h w = subst (λ (x : Answer Lexeme ProgramTree Break). Answers (length bytes) x (Err (fault.Token (len - n)))) (sym (ap answer_on (sym back) ∙ h.0)) (omega arith)
  lost (stop.Form n) h w = subst (λ (x : Answer Lexeme ProgramTree Break). Answers (length bytes) x (Err (fault.Form (len - n)))) (sym (ap answer_on (sym back) ∙ h.0)) (omega arith)
  lost (stop.TooBig n) h w = subst (λ (x : Answer Lexeme ProgramTree Break). Answers (length bytes) x (Err (fault.TooBig (len - n)))) (sym (ap answer_on (sym back) ∙ h.0)) (omega arith)
  lost stop.Memory h w = tt

-- a text that reads as a program is parsed as it
module _ (p : ProgramTree) (behind len : ℕ) (more : Text) where
  tells : (o : Result OneProgram CodeFault) → Answers len (Read p behind more) o → IsParsedAs p len behind o
  tells (Ok one) h = h
  tells (Err (fault.Token place)) h = absurd h
  tells (Err (fault.Form place)) h = absurd h
  tells (Err (fault.TooBig place)) h = absurd h
  tells (Err fault.Memory) h = refl

pub is_parsed : (before text : List ℕ) (p : ProgramTree) (behind : ℕ) (more : Text) (o : Result OneProgram CodeFault) → answer_on text ≡ Read p behind more → Answers (length (before ++ text)) (answer_on (drop (length before) (before ++ text))) o → IsParsedAs p (length (before ++ text)) behind o
is_parsed before text p behind more o e h =
    let is : answer_on (drop (length before) (before ++ text)) ≡ Read p behind more = ap answer_on (drop-append_seam before text) ∙ e in
    tells p behind (length (before ++ text)) more o (subst (λ (x : Answer Lexeme ProgramTree Break). Answers (length (before ++ text)) x o) is h)
