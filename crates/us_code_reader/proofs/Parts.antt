-- Readings of parts one after the other, above expressions.
use Rattle.std.proofs.Common.{◌≡◌, List, [], ◌∷◌, ◌++◌, Some, None, cond, refl, sym, ap, ◌∙◌, append_assoc}
use Rattle.std.proofs.Math.Path.{fun_ext}
use Rattle.us_tokens.specs.Text as text
use Rattle.us_grammar.specs.Grammar.{Symbol, Fixed, Part, Row, Pick, Values, pick}
use Rattle.us_grammar.specs.Reading.{scan}
use Rattle.us_grammar.specs.Reading as reading
use Rattle.us_grammar.proofs.Steps.{skips, lifted, lifted_behind, Avoids}
use Rattle.us_code.specs.Plain.{Code, End, Let, Load, Var, Put, Set, For, Span, If, When, Order, ◌+++◌, ProgramTree}
use Rattle.us_code.specs.declared.program.Buf.{Buf}
use Rattle.us_code.specs.declared.program.Buf.TheVariants as buf
use Rattle.us_code_table.specs.declared.mark.Mark.{Mark}
use Rattle.us_code_table.specs.declared.mark.Mark.TheVariants as m
use Rattle.us_code_table.specs.declared.note.Note.TheVariants.{Free}
use Rattle.us_code_table.specs.Table.{Nonterminal, Class, Word, ABuffer, ASource, Sum, LetTail, Keys, MoreKeys, Key, Loaded, Computed, Value, grammar, on}
use Rattle.us_code_table.specs.Limits.{Count, limits}
use Rattle.us_code_text.specs.declared.stop.Stop.{Stop}
use Rattle.us_code_text.specs.Reads.{answer_of}
use Rattle.us_code_text.proofs.Chains.{via, Text, End as Lost}

pub code_assoc : (a b c : Code) → (a +++ b) +++ c ≡ a +++ (b +++ c)
code_assoc End b c = refl
code_assoc (Let r e rest) b c = ap (Let r e) (code_assoc rest b c)
code_assoc (Load r x at rest) b c = ap (Load r x at) (code_assoc rest b c)
code_assoc (Var r e rest) b c = ap (Var r e) (code_assoc rest b c)
code_assoc (Put r e rest) b c = ap (Put r e) (code_assoc rest b c)
code_assoc (Set x at e rest) b c = ap (Set x at e) (code_assoc rest b c)
code_assoc (For r d body rest) b c = ap (For r d body) (code_assoc rest b c)
code_assoc (Span r x y d body rest) b c = ap (Span r x y d body) (code_assoc rest b c)
code_assoc (If l eq r body given other rest) b c = ap (If l eq r body given other) (code_assoc rest b c)
code_assoc (When e d r body given other rest) b c = ap (When e d r body given other) (code_assoc rest b c)
code_assoc (Order x keys rest) b c = ap (Order x keys) (code_assoc rest b c)

module _ (n o : Nonterminal) (old : Text) (a : Count) where
  -- what has been read makes the same of what follows
  pub makes_same : (new : Text) (b : Count) (f g : Value o → Value n) → ((v : Value o) → f v ≡ g v) → reading.GoesInto grammar limits ProgramTree n o old a new b f → reading.GoesInto grammar limits ProgramTree n o old a new b g
  makes_same new b f g e p x s k = p x s k ∙ ap (scan grammar limits new b (Part o ∷ x ∷ s)) (fun_ext (λ vs. ap (λ (z : Value n). k (z, vs.1)) (e vs.0)))

  -- more of a list was read
  pub goes_on : (mid : Text) (b : Count) (new : Text) (d : Count) (f : Value o → Value n) (g : Value o → Value o) (h : Value o → Value n) → reading.GoesInto grammar limits ProgramTree n o old a mid b f
      → reading.GoesInto grammar limits ProgramTree o o mid b new d g → ((v : Value o) → f (g v) ≡ h v) → reading.GoesInto grammar limits ProgramTree n o old a new d h
  goes_on mid b new d f g h p q e x s k = p x s k ∙ q x s (λ vs. k (f vs.0, vs.1)) ∙ ap (scan grammar limits new d (Part o ∷ x ∷ s)) (fun_ext (λ vs. ap (λ (z : Value n). k (z, vs.1)) (e vs.0)))

  -- the list's last part was read
  pub goes_last : (mid : Text) (b : Count) (new : Text) (d : Count) (f : Value o → Value n) (v : Value o) (w : Value n) → reading.GoesInto grammar limits ProgramTree n o old a mid b f
      → reading.Goes grammar limits ProgramTree o mid b new d v → f v ≡ w → reading.Goes grammar limits ProgramTree n old a new d w
  goes_last mid b new d f v w p q e x s k = p x s k ∙ q x s (λ vs. k (f vs.0, vs.1)) ∙ ap (λ (z : Value n). scan grammar limits new d (x ∷ s) (λ vs. k (z, vs))) e

-- one more at the end of a list
pub adds : {X : Type 0} (xs zs : List X) (x : X) (v : List X) → zs ≡ xs ++ x ∷ [] → xs ++ (x ∷ v) ≡ zs ++ v
adds xs zs x v e = sym (ap (λ ys. ys ++ v) e ∙ append_assoc xs (x ∷ []) v)

-- a part that is nothing
pub without : (n : Nonterminal) (v : Value n) (old : Text) (a : Count) → grammar.empty n ≡ Some v → reading.Lacks grammar limits n old → reading.Goes grammar limits ProgramTree n old a old a v
without n v old a e h x s k = skips grammar limits ProgramTree n v old a (x ∷ s) k e h

-- a part whose one choice begins with a word that doesn't stand here
pub lacks_only : (n : Nonterminal) (c : Mark) (x : Pick grammar n) (old : Text) → grammar.choices n ≡ x ∷ [] → x.first ≡ Word c → reading.LacksFixed grammar limits (Word c) old → reading.Lacks grammar limits n old
lacks_only n c x text.End e f h = tt
lacks_only n c x (text.Bad left) e f h = tt
lacks_only n c x (text.Then w b behind more) e f h =
    let t = grammar.class (limits.token w b) in
    ap (λ xs. pick grammar xs t) e ∙ ap (λ (y : Class). cond (grammar.same y t) (Some x) None) f ∙ ap (λ y. cond y (Some x) None) h

-- the choices of what stands behind the equal sign of a `let` that begin with a buffer
abbrev pub buffers : List (Pick grammar LetTail)
buffers = on ABuffer (Fixed (Word m.BracketOpen) ∷ Part Sum ∷ Fixed (Word m.BracketClose) ∷ []) Free (λ t vs. Loaded (buf.New t.value) vs.0)
    ∷ on ASource (Fixed (Word m.BracketOpen) ∷ Part Sum ∷ Fixed (Word m.BracketClose) ∷ []) Free (λ t vs. Loaded (buf.Source t.value) vs.0)
    ∷ []

pub computed : (old : Text) (a : Count) → Avoids grammar limits ProgramTree {n = LetTail} buffers old → (x : Symbol Nonterminal Class) (s : Row grammar) (k : Values grammar (Part LetTail ∷ x ∷ s) → ProgramTree)
    → scan grammar limits old a (Part LetTail ∷ x ∷ s) k ≡ scan grammar limits old a (Part Sum ∷ x ∷ s) (λ vs. k (Computed vs.0, vs.1))
computed old a h x s k = lifted_behind grammar limits ProgramTree LetTail Sum [] (x ∷ s) (λ e _. Computed e) k buffers old a refl refl refl h

-- a list of keys begins with a key
module _ (old : Text) (a : Count) where
  key_of : (x : Symbol Nonterminal Class) (s : Row grammar) (k : Values grammar (Part Keys ∷ x ∷ s) → ProgramTree) → scan grammar limits old a (Part Keys ∷ x ∷ s) k ≡ scan grammar limits old a (Part Key ∷ Part MoreKeys ∷ x ∷ s) (λ vs. k (vs.0 ∷ vs.1.0, vs.1.1))
  key_of x s k = lifted grammar limits ProgramTree Keys Key (Part MoreKeys ∷ []) (x ∷ s) (λ e vs. e ∷ vs.0) k old a refl refl refl

  pub key_first : (new : Text) (b : Count) (e : Buf) → reading.Goes grammar limits ProgramTree Key old a new b e → reading.GoesInto grammar limits ProgramTree Keys MoreKeys old a new b (λ es. e ∷ es)
  key_first new b e h x s k = key_of x s k ∙ h (Part MoreKeys) (x ∷ s) _

  pub lost_key : (e : Stop) → Lost Key old a e → Lost Keys old a e
  lost_key e h x s k = via (answer_of e) (key_of x s k) (h (Part MoreKeys) (x ∷ s) _)
