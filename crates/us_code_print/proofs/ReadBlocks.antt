-- The lines of a block are read as the block.
use Rattle.std.proofs.Common.{◌≡◌, ◌<◌, ◌≤◌, ℕ, suc, ◌+◌, ◌-◌, ◌^◌, List, [], ◌∷◌, ◌++◌, Bool, true, false, max, codes, length, Option, Some, None, refl, sym, ap, ◌∙◌, arith, append_assoc, subst, lit≤}
use Rattle.std.specs.List.{flat_map}
use Rattle.us_tokens.specs.Lex.{Between, lexed}
use Rattle.us_tokens.proofs.Back.{IsWord}
use Rattle.us_grammar.specs.Grammar.{Symbol, Fixed, Part, Row, Values}
use Rattle.us_code.specs.declared.program.Dim.{Dim}
use Rattle.us_code.specs.declared.program.Buf.{Buf}
use Rattle.us_code.specs.Names.{count}
use Rattle.us_code.specs.Plain.{ProgramTree, TermTree, Code, End, Let, Load, Var, Put, Set, For, Span, If, When, Order}
use Rattle.us_code.specs.Limits.{nodes, FitsDim, FitsTerm, FitsTerms, depth}
use Rattle.us_code_table.specs.declared.mark.Mark.{Mark}
use Rattle.us_code_table.specs.declared.mark.Mark.TheVariants as m
use Rattle.us_code_table.specs.declared.lexeme.Lexeme.TheVariants as lexeme
use Rattle.us_code_table.specs.Table.{Nonterminal, Class, Word, Sum, SumTail, ProductTail, DimOrNumber, LetTail, ForTail, Stmts, BlockPart, Else, Keys, Key, MoreKeys, Register, Relation, grammar}
use Rattle.us_code_table.specs.Words.{language, keyword}
use Rattle.us_code_table.specs.Limits.{Count}
use Rattle.us_code_print.specs.Canon.{register_text, buf_text, dim_text, term_text, indent, newline, opened, line, cell_text, value_text, loaded_text, bound_text, range_text, relation_text, compared_text, as_text, within_text, keys_text, closed_lines, else_lines, block_lines}
use Rattle.us_code_print.specs.ReadBack.{NamedTerm, NamedBuf, NamedBufs, Named}
use Rattle.us_code_print.proofs.Lexed.{Lexes, Stops, line_end, word_lexes, less_lexes, same_lexes, brace_lexes, brace_end_lexes}
use Rattle.us_code_print.proofs.Front.{reading, Within, choose, pass, skip_space, regroup, Lacking, lacking, skip, as_key}
use Rattle.us_code_print.proofs.ReadTerms.{Ends, ends_space, reads_dim}
use Rattle.us_code_print.proofs.ReadLines.{Follows, at, within, begin_line, line_lexed, skip_line, expr, anew, value, computed, loaded, index, register, key, open_block, bound, close_block, more_keys}

-- A text is read on to here, whatever it leaves of the counts of the last term and the last list.
pub record Reached (src : ℕ) (bytes : List ℕ) (c : Count) (row : Row grammar) (k : Values grammar row → ProgramTree) (i b : ℕ) (rest : List ℕ) (to : Row grammar) (h : Values grammar to → ProgramTree) : Type 0 where
  pub nodes : ℕ
  pub names : ℕ
  pub few : nodes ≤ 256
  pub short : names ≤ 4096
  pub is : reading bytes c row k ≡ reading rest (at src i b nodes names) to h

module _ (src : ℕ) (i b : ℕ) (rest : List ℕ) (to : Row grammar) (h : Values grammar to → ProgramTree) where
  pub from : (bytes : List ℕ) (c : Count) (row : Row grammar) (k : Values grammar row → ProgramTree) (bytes2 : List ℕ) (c2 : Count) (row2 : Row grammar) (k2 : Values grammar row2 → ProgramTree) → reading bytes c row k ≡ reading bytes2 c2 row2 k2
      → Reached src bytes2 c2 row2 k2 i b rest to h → Reached src bytes c row k i b rest to h
  from bytes c row k bytes2 c2 row2 k2 e r = record { nodes = r.nodes; names = r.names; few = r.few; short = r.short; is = e ∙ r.is }

  pub recount : (j : ℕ) → j ≡ i → (bytes : List ℕ) (c : Count) (row : Row grammar) (k : Values grammar row → ProgramTree) → Reached src bytes c row k j b rest to h → Reached src bytes c row k i b rest to h
  recount j e bytes c row k r = record { nodes = r.nodes; names = r.names; few = r.few; short = r.short; is = r.is ∙ ap (λ z. reading rest (at src z b r.nodes r.names) to h) e }

-- What follows

regrouped : (a z rest : List ℕ) → Follows (a ++ (z ++ rest)) → Follows ((a ++ z) ++ rest)
regrouped a z rest f = subst (λ (x : List ℕ). Follows x) (sym (append_assoc a z rest)) f

at_let : (z : List ℕ) → Follows (codes "let" ++ (32 ∷ z))
at_let z = let e = word_lexes (codes "let") m.Let (32 ∷ z) record { first = refl; all = refl } refl refl in record { product = lacking ProductTail _ _ e refl; sum = lacking SumTail _ _ e refl; other = lacking Else _ _ e refl; keys = lacking MoreKeys _ _ e refl }

at_var : (z : List ℕ) → Follows (codes "var" ++ (32 ∷ z))
at_var z = let e = word_lexes (codes "var") m.Var (32 ∷ z) record { first = refl; all = refl } refl refl in record { product = lacking ProductTail _ _ e refl; sum = lacking SumTail _ _ e refl; other = lacking Else _ _ e refl; keys = lacking MoreKeys _ _ e refl }

at_put : (z : List ℕ) → Follows (codes "put" ++ (32 ∷ z))
at_put z = let e = word_lexes (codes "put") m.Put (32 ∷ z) record { first = refl; all = refl } refl refl in record { product = lacking ProductTail _ _ e refl; sum = lacking SumTail _ _ e refl; other = lacking Else _ _ e refl; keys = lacking MoreKeys _ _ e refl }

at_set : (z : List ℕ) → Follows (codes "set" ++ (32 ∷ z))
at_set z = let e = word_lexes (codes "set") m.Set (32 ∷ z) record { first = refl; all = refl } refl refl in record { product = lacking ProductTail _ _ e refl; sum = lacking SumTail _ _ e refl; other = lacking Else _ _ e refl; keys = lacking MoreKeys _ _ e refl }

at_for : (z : List ℕ) → Follows (codes "for" ++ (32 ∷ z))
at_for z = let e = word_lexes (codes "for") m.For (32 ∷ z) record { first = refl; all = refl } refl refl in record { product = lacking ProductTail _ _ e refl; sum = lacking SumTail _ _ e refl; other = lacking Else _ _ e refl; keys = lacking MoreKeys _ _ e refl }

at_if : (z : List ℕ) → Follows (codes "if" ++ (32 ∷ z))
at_if z = let e = word_lexes (codes "if") m.If (32 ∷ z) record { first = refl; all = refl } refl refl in record { product = lacking ProductTail _ _ e refl; sum = lacking SumTail _ _ e refl; other = lacking Else _ _ e refl; keys = lacking MoreKeys _ _ e refl }

at_when : (z : List ℕ) → Follows (codes "when" ++ (32 ∷ z))
at_when z = let e = word_lexes (codes "when") m.When (32 ∷ z) record { first = refl; all = refl } refl refl in record { product = lacking ProductTail _ _ e refl; sum = lacking SumTail _ _ e refl; other = lacking Else _ _ e refl; keys = lacking MoreKeys _ _ e refl }

at_order : (z : List ℕ) → Follows (codes "order" ++ (32 ∷ z))
at_order z = let e = word_lexes (codes "order") m.Order (32 ∷ z) record { first = refl; all = refl } refl refl in record { product = lacking ProductTail _ _ e refl; sum = lacking SumTail _ _ e refl; other = lacking Else _ _ e refl; keys = lacking MoreKeys _ _ e refl }

-- behind its indentation a line is as it is alone
behind : (d : ℕ) (w rest : List ℕ) → Follows (w ++ rest) → Follows ((indent d ++ w) ++ rest)
behind d w rest f =
    let e = line_lexed d w rest in
    record {
      product = lacking ProductTail _ (lexed language (w ++ rest) Between) e f.product;
      sum = lacking SumTail _ (lexed language (w ++ rest) Between) e f.sum;
      other = lacking Else _ (lexed language (w ++ rest) Between) e f.other;
      keys = lacking MoreKeys _ (lexed language (w ++ rest) Between) e f.keys;
    }

-- a line before other lines, and one that opens a block
follows_line : (d : ℕ) (w lines rest : List ℕ) → Follows (w ++ (lines ++ rest)) → Follows (((indent d ++ w) ++ lines) ++ rest)
follows_line d w lines rest f = regrouped (indent d ++ w) lines rest (behind d w (lines ++ rest) f)

follows_block : (d : ℕ) (w block lines rest : List ℕ) → Follows (w ++ (block ++ (lines ++ rest))) → Follows ((((indent d ++ w) ++ block) ++ lines) ++ rest)
follows_block d w block lines rest f = regrouped ((indent d ++ w) ++ block) lines rest (follows_line d w block (lines ++ rest) f)

pub follows_lines : (d : ℕ) (c : Code) (rest : List ℕ) → Follows rest → Follows (block_lines d c ++ rest)
follows_lines d End rest f = f
follows_lines d (Let r e more) rest f = follows_line d (codes "let " ++ (register_text r ++ value_text e)) (block_lines d more) rest (at_let _)
follows_lines d (Load r x e more) rest f = follows_line d (codes "let " ++ (register_text r ++ loaded_text x e)) (block_lines d more) rest (at_let _)
follows_lines d (Var r e more) rest f = follows_line d (codes "var " ++ (register_text r ++ value_text e)) (block_lines d more) rest (at_var _)
follows_lines d (Put r e more) rest f = follows_line d (codes "put " ++ (register_text r ++ value_text e)) (block_lines d more) rest (at_put _)
follows_lines d (Set x e v more) rest f = follows_line d (codes "set " ++ (cell_text x e ++ value_text v)) (block_lines d more) rest (at_set _)
follows_lines d (For r x body more) rest f = follows_block d (codes "for " ++ (register_text r ++ bound_text x)) (closed_lines d (block_lines (d + 1) body)) (block_lines d more) rest (at_for _)
follows_lines d (Span r x z v body more) rest f = follows_block d (codes "for " ++ (register_text r ++ range_text x z v)) (closed_lines d (block_lines (d + 1) body)) (block_lines d more) rest (at_for _)
follows_lines d (If x eq z body given other more) rest f = follows_block d (codes "if " ++ compared_text x eq z) (block_lines (d + 1) body ++ else_lines d given (block_lines (d + 1) other)) (block_lines d more) rest (at_if _)
follows_lines d (When x v r body given other more) rest f = follows_block d (codes "when " ++ (term_text x ++ within_text v r)) (block_lines (d + 1) body ++ else_lines d given (block_lines (d + 1) other)) (block_lines d more) rest (at_when _)
follows_lines d (Order x keys more) rest f = follows_line d (codes "order " ++ (buf_text x ++ keys_text keys)) (block_lines d more) rest (at_order _)

-- the closing brace of a block
pub follows_close : (d : ℕ) (rest : List ℕ) → Follows (line d (codes "}") ++ rest)
follows_close d rest = let e = line_lexed d (codes "}" ++ newline) rest ∙ brace_end_lexes (10 ∷ rest) in record { product = lacking ProductTail _ _ e refl; sum = lacking SumTail _ _ e refl; other = lacking Else _ _ e refl; keys = lacking MoreKeys _ _ e refl }

pub over_close : (d : ℕ) (rest : List ℕ) → Lacking Stmts (line d (codes "}") ++ rest)
over_close d rest = lacking Stmts _ _ (line_lexed d (codes "}" ++ newline) rest ∙ brace_end_lexes (10 ∷ rest)) refl

follows_else : (d : ℕ) (rest : List ℕ) → Follows (line d (codes "} else {") ++ rest)
follows_else d rest = let e = line_lexed d (codes "} else {" ++ newline) rest ∙ brace_end_lexes _ in record { product = lacking ProductTail _ _ e refl; sum = lacking SumTail _ _ e refl; other = lacking Else _ _ e refl; keys = lacking MoreKeys _ _ e refl }

over_else : (d : ℕ) (rest : List ℕ) → Lacking Stmts (line d (codes "} else {") ++ rest)
over_else d rest = lacking Stmts _ _ (line_lexed d (codes "} else {" ++ newline) rest ∙ brace_end_lexes _) refl

pub depth_some : (c : Code) → 1 ≤ depth c
depth_some End = lit≤ tt
depth_some (Let r e more) = depth_some more
depth_some (Load r x e more) = depth_some more
depth_some (Var r e more) = depth_some more
depth_some (Put r e more) = depth_some more
depth_some (Set x e v more) = depth_some more
depth_some (For r x body more) = let p = depth_some more in omega arith
depth_some (Span r x z v body more) = let p = depth_some more in omega arith
depth_some (If x eq z body given other more) = let p = depth_some more in omega arith
depth_some (When x v r body given other more) = let p = depth_some more in omega arith
depth_some (Order x keys more) = depth_some more

-- two lines taken apart, and the indentation of the first
begin : (d : ℕ) (w lines rest : List ℕ) (c : Count) (s : Row grammar) (k : Values grammar s → ProgramTree) → reading (((indent d ++ w) ++ lines) ++ rest) c s k ≡ reading (w ++ (lines ++ rest)) c s k
begin d w lines rest c s k = regroup (indent d ++ w) lines rest c s k ∙ begin_line d w (lines ++ rest) c s k

begin_block : (d : ℕ) (w block lines rest : List ℕ) (c : Count) (s : Row grammar) (k : Values grammar s → ProgramTree) → reading ((((indent d ++ w) ++ block) ++ lines) ++ rest) c s k ≡ reading (w ++ (block ++ (lines ++ rest))) c s k
begin_block d w block lines rest c s k = regroup ((indent d ++ w) ++ block) lines rest c s k ∙ begin d w block (lines ++ rest) c s k

-- whether an else was read, and its block
abbrev is_given : Option Code → Bool
is_given None = false
is_given (Some c) = true

abbrev other_of : Option Code → Code
other_of None = End
other_of (Some c) = c

-- what an `if` compares by
ends_relation : (eq : Bool) (z rest : List ℕ) → Ends ((relation_text eq ++ z) ++ rest)
ends_relation true z rest = ends_space m.Same (61 ∷ 61 ∷ []) (32 ∷ (z ++ rest)) (same_lexes (z ++ rest)) refl refl
ends_relation false z rest = ends_space m.Less (60 ∷ []) (32 ∷ (z ++ rest)) (less_lexes (z ++ rest)) refl refl

relates : (src : ℕ) → src ≤ 4096 → (i b l : ℕ) → i ≤ 65536 → b ≤ 66 → l ≤ 4096 → (n : ℕ) (eq : Bool) (z rest : List ℕ) (y : Symbol Nonterminal Class) (s : Row grammar) (k : Values grammar (Part Relation ∷ y ∷ s) → ProgramTree)
    → reading ((relation_text eq ++ z) ++ rest) (at src i b n l) (Part Relation ∷ y ∷ s) k ≡ reading (z ++ rest) (at src i b 0 l) (y ∷ s) (λ vs. k (eq, vs))
relates src small i b l hi hb hl n true z rest y s k =
    skip_space (61 ∷ 61 ∷ 32 ∷ (z ++ rest)) (at src i b n l) (Part Relation ∷ y ∷ s) k
    ∙ choose y s Relation (lexeme.Fixed m.Same) (61 ∷ 61 ∷ []) (32 ∷ (z ++ rest)) (at src i b n l) k _ refl (same_lexes (z ++ rest)) (within src small i b 0 l hi hb (lit≤ tt) hl) refl
    ∙ skip_space (z ++ rest) (at src i b 0 l) (y ∷ s) (λ vs. k (true, vs))
relates src small i b l hi hb hl n false z rest y s k =
    skip_space (60 ∷ 32 ∷ (z ++ rest)) (at src i b n l) (Part Relation ∷ y ∷ s) k
    ∙ choose y s Relation (lexeme.Fixed m.Less) (60 ∷ []) (32 ∷ (z ++ rest)) (at src i b n l) k _ refl (less_lexes (z ++ rest)) (within src small i b 0 l hi hb (lit≤ tt) hl) refl
    ∙ skip_space (z ++ rest) (at src i b 0 l) (y ∷ s) (λ vs. k (false, vs))

module _ (src : ℕ) (small : src ≤ 4096) (i b : ℕ) (hi : i + 1 ≤ 65536) (hb : b ≤ 66) (y : Symbol Nonterminal Class) (s : Row grammar) (k : Values grammar (Part Stmts ∷ y ∷ s) → ProgramTree) (rest : List ℕ) where
  abbrev Row_of : Row grammar
  Row_of = Part Stmts ∷ y ∷ s

  module _ (n l : ℕ) (hn : n ≤ 256) (hl : l ≤ 4096) where
    -- the word of a statement, a register behind it, and one item more
    word : (c : Mark) (w z : List ℕ) → IsWord w → keyword w ≡ Some c → Lexes (lexeme.Fixed c) w (32 ∷ z)
    word c w z is key = word_lexes w c (32 ∷ z) is key refl

    item : Within (at src (i + 1) b n l)
    item = within src small (i + 1) b n l hi hb hn hl

    reads_let : (r : ℕ) → r < 2 ^ 32 → (t : TermTree) → NamedTerm t → FitsTerm t → Follows rest
        → reading ((codes "let " ++ (register_text r ++ value_text t)) ++ rest) (at src i b n l) Row_of k ≡ reading rest (at src (i + 1) b (nodes t) l) Row_of (λ vs. k (Let r t vs.0, vs.1))
    reads_let r hr t named fits follows =
        let tail = (register_text r ++ value_text t) ++ rest in
        let c = at src (i + 1) b n l in
        choose y s Stmts (lexeme.Fixed m.Let) (codes "let") (32 ∷ tail) (at src i b n l) k _ refl (word m.Let (codes "let") tail record { first = refl; all = refl } refl) item refl
        ∙ skip_space tail c (Part Register ∷ Fixed (Word m.Equal) ∷ Part LetTail ∷ Row_of) _
        ∙ regroup (register_text r) (value_text t) rest c (Part Register ∷ Fixed (Word m.Equal) ∷ Part LetTail ∷ Row_of) _
        ∙ register src small (i + 1) b l hi hb hl n hn r hr (value_text t ++ rest) refl (Fixed (Word m.Equal)) (Part LetTail ∷ Row_of) _
        ∙ computed src small (i + 1) b l hi hb hl n hn t named fits rest follows (Part Stmts) (y ∷ s) _

    reads_load : (r : ℕ) → r < 2 ^ 32 → (x : Buf) → NamedBuf x → (t : TermTree) → NamedTerm t → FitsTerm t
        → reading ((codes "let " ++ (register_text r ++ loaded_text x t)) ++ rest) (at src i b n l) Row_of k ≡ reading rest (at src (i + 1) b (nodes t) l) Row_of (λ vs. k (Load r x t vs.0, vs.1))
    reads_load r hr x hx t named fits =
        let tail = (register_text r ++ loaded_text x t) ++ rest in
        let c = at src (i + 1) b n l in
        choose y s Stmts (lexeme.Fixed m.Let) (codes "let") (32 ∷ tail) (at src i b n l) k _ refl (word m.Let (codes "let") tail record { first = refl; all = refl } refl) item refl
        ∙ skip_space tail c (Part Register ∷ Fixed (Word m.Equal) ∷ Part LetTail ∷ Row_of) _
        ∙ regroup (register_text r) (loaded_text x t) rest c (Part Register ∷ Fixed (Word m.Equal) ∷ Part LetTail ∷ Row_of) _
        ∙ register src small (i + 1) b l hi hb hl n hn r hr (loaded_text x t ++ rest) refl (Fixed (Word m.Equal)) (Part LetTail ∷ Row_of) _
        ∙ loaded src small (i + 1) b l hi hb hl n hn x hx t named fits rest (Part Stmts) (y ∷ s) _

    reads_var : (r : ℕ) → r < 2 ^ 32 → (t : TermTree) → NamedTerm t → FitsTerm t → Follows rest
        → reading ((codes "var " ++ (register_text r ++ value_text t)) ++ rest) (at src i b n l) Row_of k ≡ reading rest (at src (i + 1) b (nodes t) l) Row_of (λ vs. k (Var r t vs.0, vs.1))
    reads_var r hr t named fits follows =
        let tail = (register_text r ++ value_text t) ++ rest in
        let c = at src (i + 1) b n l in
        choose y s Stmts (lexeme.Fixed m.Var) (codes "var") (32 ∷ tail) (at src i b n l) k _ refl (word m.Var (codes "var") tail record { first = refl; all = refl } refl) item refl
        ∙ skip_space tail c (Part Register ∷ Fixed (Word m.Equal) ∷ Part Sum ∷ Row_of) _
        ∙ regroup (register_text r) (value_text t) rest c (Part Register ∷ Fixed (Word m.Equal) ∷ Part Sum ∷ Row_of) _
        ∙ register src small (i + 1) b l hi hb hl n hn r hr (value_text t ++ rest) refl (Fixed (Word m.Equal)) (Part Sum ∷ Row_of) _
        ∙ value src small (i + 1) b l hi hb hl n hn t named fits rest follows (Part Stmts) (y ∷ s) _

    reads_put : (r : ℕ) → r < 2 ^ 32 → (t : TermTree) → NamedTerm t → FitsTerm t → Follows rest
        → reading ((codes "put " ++ (register_text r ++ value_text t)) ++ rest) (at src i b n l) Row_of k ≡ reading rest (at src (i + 1) b (nodes t) l) Row_of (λ vs. k (Put r t vs.0, vs.1))
    reads_put r hr t named fits follows =
        let tail = (register_text r ++ value_text t) ++ rest in
        let c = at src (i + 1) b n l in
        choose y s Stmts (lexeme.Fixed m.Put) (codes "put") (32 ∷ tail) (at src i b n l) k _ refl (word m.Put (codes "put") tail record { first = refl; all = refl } refl) item refl
        ∙ skip_space tail c (Part Register ∷ Fixed (Word m.Equal) ∷ Part Sum ∷ Row_of) _
        ∙ regroup (register_text r) (value_text t) rest c (Part Register ∷ Fixed (Word m.Equal) ∷ Part Sum ∷ Row_of) _
        ∙ register src small (i + 1) b l hi hb hl n hn r hr (value_text t ++ rest) refl (Fixed (Word m.Equal)) (Part Sum ∷ Row_of) _
        ∙ value src small (i + 1) b l hi hb hl n hn t named fits rest follows (Part Stmts) (y ∷ s) _

    reads_set : (x : Buf) → NamedBuf x → (t v : TermTree) → NamedTerm t → FitsTerm t → NamedTerm v → FitsTerm v → Follows rest
        → reading ((codes "set " ++ (cell_text x t ++ value_text v)) ++ rest) (at src i b n l) Row_of k ≡ reading rest (at src (i + 1) b (nodes v) 1) Row_of (λ vs. k (Set x t v vs.0, vs.1))
    reads_set x hx t v named fits named_v fits_v follows =
        let tail = (cell_text x t ++ value_text v) ++ rest in
        let brackets = codes "[" ++ (term_text t ++ codes "]") in
        let row = Part Key ∷ Fixed (Word m.BracketOpen) ∷ Part Sum ∷ Fixed (Word m.BracketClose) ∷ Fixed (Word m.Equal) ∷ Part Sum ∷ Row_of in
        let few : nodes t ≤ 256 = fits.1 in
        choose y s Stmts (lexeme.Fixed m.Set) (codes "set") (32 ∷ tail) (at src i b n l) k _ refl (word m.Set (codes "set") tail record { first = refl; all = refl } refl) (within src small (i + 1) b n 0 hi hb hn (lit≤ tt)) refl
        ∙ skip_space tail (at src (i + 1) b n 0) row _
        ∙ regroup (cell_text x t) (value_text v) rest (at src (i + 1) b n 0) row _
        ∙ regroup (buf_text x) brackets (value_text v ++ rest) (at src (i + 1) b n 0) row _
        ∙ key src small (i + 1) b 0 hi hb (lit≤ tt) n hn (lit≤ tt) x hx (brackets ++ (value_text v ++ rest)) refl (Fixed (Word m.BracketOpen)) (Part Sum ∷ Fixed (Word m.BracketClose) ∷ Fixed (Word m.Equal) ∷ Part Sum ∷ Row_of) _
        ∙ index src small (i + 1) b 1 hi hb (lit≤ tt) n hn t named fits (value_text v ++ rest) (Fixed (Word m.Equal)) (Part Sum ∷ Row_of) _
        ∙ value src small (i + 1) b 1 hi hb (lit≤ tt) (nodes t) few v named_v fits_v rest follows (Part Stmts) (y ∷ s) _

    reads_order : (x : Buf) → NamedBuf x → (z : Buf) (zs : List Buf) → NamedBufs (z ∷ zs) → length (z ∷ zs) ≤ 4095 → Follows rest
        → reading ((codes "order " ++ (buf_text x ++ keys_text (z ∷ zs))) ++ rest) (at src i b n l) Row_of k ≡ reading rest (at src (i + 1) b n (2 + length zs)) Row_of (λ vs. k (Order x (z ∷ zs) vs.0, vs.1))
    reads_order x hx z zs named short follows =
        let tail = (buf_text x ++ keys_text (z ∷ zs)) ++ rest in
        let more = flat_map (λ v. codes ", " ++ buf_text v) zs in
        let list = (buf_text z ++ more) ++ newline in
        let row = Part Key ∷ Fixed (Word m.By) ∷ Part Keys ∷ Row_of in
        let some : suc (length zs) ≤ 4095 = short in
        choose y s Stmts (lexeme.Fixed m.Order) (codes "order") (32 ∷ tail) (at src i b n l) k _ refl (word m.Order (codes "order") tail record { first = refl; all = refl } refl) (within src small (i + 1) b n 0 hi hb hn (lit≤ tt)) refl
        ∙ skip_space tail (at src (i + 1) b n 0) row _
        ∙ regroup (buf_text x) (keys_text (z ∷ zs)) rest (at src (i + 1) b n 0) row _
        ∙ key src small (i + 1) b 0 hi hb (lit≤ tt) n hn (lit≤ tt) x hx (keys_text (z ∷ zs) ++ rest) refl (Fixed (Word m.By)) (Part Keys ∷ Row_of) _
        ∙ skip_space (codes "by " ++ (list ++ rest)) (at src (i + 1) b n 1) (Fixed (Word m.By) ∷ Part Keys ∷ Row_of) _
        ∙ pass (Part Keys) Row_of m.By (codes "by") (32 ∷ (list ++ rest)) (at src (i + 1) b n 1) _ (word_lexes (codes "by") m.By (32 ∷ (list ++ rest)) record { first = refl; all = refl } refl refl) (within src small (i + 1) b n 1 hi hb hn (lit≤ tt))
        ∙ skip_space (list ++ rest) (at src (i + 1) b n 1) (Part Keys ∷ Row_of) _
        ∙ regroup (buf_text z ++ more) newline rest (at src (i + 1) b n 1) (Part Keys ∷ Row_of) _
        ∙ as_key ((buf_text z ++ more) ++ (10 ∷ rest)) (at src (i + 1) b n 1) Row_of _
        ∙ regroup (buf_text z) more (10 ∷ rest) (at src (i + 1) b n 1) (Part Key ∷ Part MoreKeys ∷ Row_of) _
        ∙ key src small (i + 1) b 1 hi hb (lit≤ tt) n hn (lit≤ tt) z named.0 (more ++ (10 ∷ rest)) (stops zs) (Part MoreKeys) Row_of _
        ∙ more_keys src small (i + 1) b n 2 hi hb hn zs named.1 (omega arith) (10 ∷ rest) refl (lacking MoreKeys (10 ∷ rest) _ (line_end rest) follows.keys) (Part Stmts) (y ∷ s) _
        ∙ skip_line rest (at src (i + 1) b n (2 + length zs)) Row_of _
      where
        stops : (zs : List Buf) → Stops (flat_map (λ v. codes ", " ++ buf_text v) zs ++ (10 ∷ rest))
        stops [] = refl
        stops (v ∷ vs) = refl

  -- heads of blocks
  module _ (n l : ℕ) (hn : n ≤ 256) (hl : l ≤ 4096) (deep : b + 1 ≤ 66) where
    abbrev Inner : Row grammar
    Inner = Part Stmts ∷ Fixed (Word m.BraceClose) ∷ Row_of

    reads_for : (r : ℕ) → r < 2 ^ 32 → (d : Dim) → FitsDim d
        → reading ((codes "for " ++ (register_text r ++ bound_text d)) ++ rest) (at src i b n l) Row_of k ≡ reading rest (at src (i + 1) (b + 1) n l) Inner (λ vs. k (For r d vs.0 vs.1.0, vs.1.1))
    reads_for r hr d hd =
        let tail = (register_text r ++ bound_text d) ++ rest in
        let c = at src (i + 1) b n l in
        choose y s Stmts (lexeme.Fixed m.For) (codes "for") (32 ∷ tail) (at src i b n l) k _ refl (word n l hn hl m.For (codes "for") tail record { first = refl; all = refl } refl) (item n l hn hl) refl
        ∙ skip_space tail c (Part Register ∷ Part ForTail ∷ Row_of) _
        ∙ regroup (register_text r) (bound_text d) rest c (Part Register ∷ Part ForTail ∷ Row_of) _
        ∙ register src small (i + 1) b l hi hb hl n hn r hr (bound_text d ++ rest) refl (Part ForTail) Row_of _
        ∙ skip_space (codes "below " ++ ((dim_text d ++ opened) ++ rest)) c (Part ForTail ∷ Row_of) _
        ∙ choose (Part Stmts) (y ∷ s) ForTail (lexeme.Fixed m.Below) (codes "below") (32 ∷ ((dim_text d ++ opened) ++ rest)) c _ _ refl (word_lexes (codes "below") m.Below (32 ∷ ((dim_text d ++ opened) ++ rest)) record { first = refl; all = refl } refl refl) (item n l hn hl) refl
        ∙ skip_space ((dim_text d ++ opened) ++ rest) c (Part DimOrNumber ∷ Part BlockPart ∷ Row_of) _
        ∙ regroup (dim_text d) opened rest c (Part DimOrNumber ∷ Part BlockPart ∷ Row_of) _
        ∙ reads_dim (opened ++ rest) c (item n l hn hl) refl (Part BlockPart) Row_of d hd _
        ∙ open_block src small (i + 1) b l hi hb hl n hn deep rest (Part Stmts) (y ∷ s) _

    reads_span : (r : ℕ) → r < 2 ^ 32 → (t v : TermTree) → NamedTerm t → FitsTerm t → NamedTerm v → FitsTerm v → (d : Dim) → FitsDim d
        → reading ((codes "for " ++ (register_text r ++ range_text t v d)) ++ rest) (at src i b n l) Row_of k ≡ reading rest (at src (i + 1) (b + 1) (nodes v) l) Inner (λ vs. k (Span r t v d vs.0 vs.1.0, vs.1.1))
    reads_span r hr t v named fits named_v fits_v d hd =
        let tail = (register_text r ++ range_text t v d) ++ rest in
        let to = codes " to " ++ (term_text v ++ bound_text d) in
        let c = at src (i + 1) b n l in
        let few : nodes t ≤ 256 = fits.1 in
        let few_v : nodes v ≤ 256 = fits_v.1 in
        let ending = (term_text v ++ bound_text d) ++ rest in
        let row = Part Sum ∷ Fixed (Word m.To) ∷ Part Sum ∷ Fixed (Word m.Below) ∷ Part DimOrNumber ∷ Part BlockPart ∷ Row_of in
        choose y s Stmts (lexeme.Fixed m.For) (codes "for") (32 ∷ tail) (at src i b n l) k _ refl (word n l hn hl m.For (codes "for") tail record { first = refl; all = refl } refl) (item n l hn hl) refl
        ∙ skip_space tail c (Part Register ∷ Part ForTail ∷ Row_of) _
        ∙ regroup (register_text r) (range_text t v d) rest c (Part Register ∷ Part ForTail ∷ Row_of) _
        ∙ register src small (i + 1) b l hi hb hl n hn r hr (range_text t v d ++ rest) refl (Part ForTail) Row_of _
        ∙ skip_space (codes "in " ++ ((term_text t ++ to) ++ rest)) c (Part ForTail ∷ Row_of) _
        ∙ choose (Part Stmts) (y ∷ s) ForTail (lexeme.Fixed m.In) (codes "in") (32 ∷ ((term_text t ++ to) ++ rest)) c _ _ refl (word_lexes (codes "in") m.In (32 ∷ ((term_text t ++ to) ++ rest)) record { first = refl; all = refl } refl refl) (within src small (i + 1) b 0 l hi hb (lit≤ tt) hl) refl
        ∙ skip_space ((term_text t ++ to) ++ rest) (at src (i + 1) b 0 l) row _
        ∙ regroup (term_text t) to rest (at src (i + 1) b 0 l) row _
        ∙ expr src small (i + 1) b l hi hb hl t named fits (to ++ rest) (ends_space m.To (codes "to") (32 ∷ ending) (word_lexes (codes "to") m.To (32 ∷ ending) record { first = refl; all = refl } refl refl) refl refl) (Fixed (Word m.To)) (Part Sum ∷ Fixed (Word m.Below) ∷ Part DimOrNumber ∷ Part BlockPart ∷ Row_of) _
        ∙ anew src small (i + 1) b l hi hb hl (nodes t) few m.To (codes "to") ending (Fixed (Word m.Below) ∷ Part DimOrNumber ∷ Part BlockPart ∷ Row_of) (Part Sum) _ (word_lexes (codes "to") m.To (32 ∷ ending) record { first = refl; all = refl } refl refl)
        (λ w. pass (Part Sum) (Fixed (Word m.Below) ∷ Part DimOrNumber ∷ Part BlockPart ∷ Row_of) m.To (codes "to") (32 ∷ ending) (at src (i + 1) b (nodes t) l) _ (word_lexes (codes "to") m.To (32 ∷ ending) record { first = refl; all = refl } refl refl) w)
        ∙ regroup (term_text v) (bound_text d) rest (at src (i + 1) b 0 l) (Part Sum ∷ Fixed (Word m.Below) ∷ Part DimOrNumber ∷ Part BlockPart ∷ Row_of) _
        ∙ expr src small (i + 1) b l hi hb hl v named_v fits_v (bound_text d ++ rest) (ends_below d) (Fixed (Word m.Below)) (Part DimOrNumber ∷ Part BlockPart ∷ Row_of) _
        ∙ bound src small (i + 1) b l hi hb hl (nodes v) few_v deep d hd rest (Part Stmts) (y ∷ s) _
      where
        ends_below : (d : Dim) → Ends (bound_text d ++ rest)
        ends_below d = let behind = (dim_text d ++ opened) ++ rest in ends_space m.Below (codes "below") (32 ∷ behind) (word_lexes (codes "below") m.Below (32 ∷ behind) record { first = refl; all = refl } refl refl) refl refl

    reads_if : (t : TermTree) (eq : Bool) (v : TermTree) → NamedTerm t → FitsTerm t → NamedTerm v → FitsTerm v
        → reading ((codes "if " ++ compared_text t eq v) ++ rest) (at src i b n l) Row_of k ≡ reading rest (at src (i + 1) (b + 1) (nodes v) l) (Part Stmts ∷ Fixed (Word m.BraceClose) ∷ Part Else ∷ Row_of) (λ vs. k (If t eq v vs.0 (is_given vs.1.0) (other_of vs.1.0) vs.1.1.0, vs.1.1.1))
    reads_if t eq v named fits named_v fits_v =
        let right = term_text v ++ opened in
        let few : nodes t ≤ 256 = fits.1 in
        let few_v : nodes v ≤ 256 = fits_v.1 in
        let row = Part Sum ∷ Part Relation ∷ Part Sum ∷ Part BlockPart ∷ Part Else ∷ Row_of in
        choose y s Stmts (lexeme.Fixed m.If) (codes "if") (32 ∷ (compared_text t eq v ++ rest)) (at src i b n l) k _ refl (word n l hn hl m.If (codes "if") (compared_text t eq v ++ rest) record { first = refl; all = refl } refl) (within src small (i + 1) b 0 l hi hb (lit≤ tt) hl) refl
        ∙ skip_space (compared_text t eq v ++ rest) (at src (i + 1) b 0 l) row _
        ∙ regroup (term_text t) (relation_text eq ++ right) rest (at src (i + 1) b 0 l) row _
        ∙ expr src small (i + 1) b l hi hb hl t named fits ((relation_text eq ++ right) ++ rest) (ends_relation eq right rest) (Part Relation) (Part Sum ∷ Part BlockPart ∷ Part Else ∷ Row_of) _
        ∙ relates src small (i + 1) b l hi hb hl (nodes t) eq right rest (Part Sum) (Part BlockPart ∷ Part Else ∷ Row_of) _
        ∙ regroup (term_text v) opened rest (at src (i + 1) b 0 l) (Part Sum ∷ Part BlockPart ∷ Part Else ∷ Row_of) _
        ∙ expr src small (i + 1) b l hi hb hl v named_v fits_v (opened ++ rest) (ends_space m.BraceOpen (123 ∷ []) (10 ∷ rest) (brace_lexes (10 ∷ rest)) refl refl) (Part BlockPart) (Part Else ∷ Row_of) _
        ∙ open_block src small (i + 1) b l hi hb hl (nodes v) few_v deep rest (Part Else) Row_of _

    reads_when : (t : TermTree) → NamedTerm t → FitsTerm t → (d : Dim) → FitsDim d → (r : ℕ) → r < 2 ^ 32
        → reading ((codes "when " ++ (term_text t ++ within_text d r)) ++ rest) (at src i b n l) Row_of k ≡ reading rest (at src (i + 1) (b + 1) (nodes t) l) (Part Stmts ∷ Fixed (Word m.BraceClose) ∷ Part Else ∷ Row_of) (λ vs. k (When t d r vs.0 (is_given vs.1.0) (other_of vs.1.0) vs.1.1.0, vs.1.1.1))
    reads_when t named fits d hd r hr =
        let tail = (term_text t ++ within_text d r) ++ rest in
        let few : nodes t ≤ 256 = fits.1 in
        let c = at src (i + 1) b (nodes t) l in
        let w = within src small (i + 1) b (nodes t) l hi hb few hl in
        let bounds = (dim_text d ++ as_text r) ++ rest in
        let last = (register_text r ++ opened) ++ rest in
        let after = Fixed (Word m.As) ∷ Part Register ∷ Part BlockPart ∷ Part Else ∷ Row_of in
        let row = Part DimOrNumber ∷ after in
        choose y s Stmts (lexeme.Fixed m.When) (codes "when") (32 ∷ tail) (at src i b n l) k _ refl (word n l hn hl m.When (codes "when") tail record { first = refl; all = refl } refl) (within src small (i + 1) b 0 l hi hb (lit≤ tt) hl) refl
        ∙ skip_space tail (at src (i + 1) b 0 l) (Part Sum ∷ Fixed (Word m.Below) ∷ row) _
        ∙ regroup (term_text t) (within_text d r) rest (at src (i + 1) b 0 l) (Part Sum ∷ Fixed (Word m.Below) ∷ row) _
        ∙ expr src small (i + 1) b l hi hb hl t named fits (within_text d r ++ rest) (ends_space m.Below (codes "below") (32 ∷ bounds) (word_lexes (codes "below") m.Below (32 ∷ bounds) record { first = refl; all = refl } refl refl) refl refl) (Fixed (Word m.Below)) row _
        ∙ skip_space (codes "below " ++ bounds) c (Fixed (Word m.Below) ∷ row) _
        ∙ pass (Part DimOrNumber) after m.Below (codes "below") (32 ∷ bounds) c _ (word_lexes (codes "below") m.Below (32 ∷ bounds) record { first = refl; all = refl } refl refl) w
        ∙ skip_space bounds c row _
        ∙ regroup (dim_text d) (as_text r) rest c row _
        ∙ reads_dim (as_text r ++ rest) c w refl (Fixed (Word m.As)) (Part Register ∷ Part BlockPart ∷ Part Else ∷ Row_of) d hd _
        ∙ skip_space (codes "as " ++ last) c after _
        ∙ pass (Part Register) (Part BlockPart ∷ Part Else ∷ Row_of) m.As (codes "as") (32 ∷ last) c _ (word_lexes (codes "as") m.As (32 ∷ last) record { first = refl; all = refl } refl refl) w
        ∙ skip_space last c (Part Register ∷ Part BlockPart ∷ Part Else ∷ Row_of) _
        ∙ regroup (register_text r) opened rest c (Part Register ∷ Part BlockPart ∷ Part Else ∷ Row_of) _
        ∙ register src small (i + 1) b l hi hb hl (nodes t) few r hr (opened ++ rest) refl (Part BlockPart) (Part Else ∷ Row_of) _
        ∙ open_block src small (i + 1) b l hi hb hl (nodes t) few deep rest (Part Else) Row_of _

-- An else behind a brace, and its block's brace
opens_else : (src : ℕ) → src ≤ 4096 → (i b n l : ℕ) → i ≤ 65536 → b + 1 ≤ 66 → n ≤ 256 → l ≤ 4096 → (d : ℕ) (rest : List ℕ) (y : Symbol Nonterminal Class) (s : Row grammar) (k : Values grammar (Part Else ∷ y ∷ s) → ProgramTree)
    → reading (line d (codes "} else {") ++ rest) (at src i (b + 1) n l) (Fixed (Word m.BraceClose) ∷ Part Else ∷ y ∷ s) k ≡ reading rest (at src i (b + 1) n l) (Part Stmts ∷ Fixed (Word m.BraceClose) ∷ y ∷ s) (λ vs. k (Some vs.0, vs.1))
opens_else src small i b n l hi hb hn hl d rest y s k =
    let tail = codes " else" ++ (opened ++ rest) in
    let back : b + 1 - 1 ≡ b = omega arith in
    let le : b ≤ 66 = omega arith in
    begin_line d (codes "} else {" ++ newline) rest (at src i (b + 1) n l) (Fixed (Word m.BraceClose) ∷ Part Else ∷ y ∷ s) k
    ∙ pass (Part Else) (y ∷ s) m.BraceClose (125 ∷ []) tail (at src i (b + 1) n l) k (brace_end_lexes tail) (within src small i (b + 1 - 1) n l hi (omega arith) hn hl)
    ∙ ap (λ z. reading tail (at src i z n l) (Part Else ∷ y ∷ s) k) back
    ∙ skip_space (codes "else" ++ (opened ++ rest)) (at src i b n l) (Part Else ∷ y ∷ s) k
    ∙ choose y s Else (lexeme.Fixed m.Else) (codes "else") (opened ++ rest) (at src i b n l) k _ refl (word_lexes (codes "else") m.Else (opened ++ rest) record { first = refl; all = refl } refl refl) (within src small i b n l hi le hn hl) refl
    ∙ open_block src small i b l hi le hl n hn hb rest y s _

-- Each count of a block of statements

abbrev pub ReadsBlock : (src : ℕ) → Code → Type 0
ReadsBlock src c = (d i b n l : ℕ) → i + count c ≤ 65536 → b + depth c ≤ 67 → n ≤ 256 → l ≤ 4096 → (rest : List ℕ) → Follows rest → Lacking Stmts rest → (y : Symbol Nonterminal Class) (s : Row grammar) (k : Values grammar (Part Stmts ∷ y ∷ s) → ProgramTree)
    → Reached src (block_lines d c ++ rest) (at src i b n l) (Part Stmts ∷ y ∷ s) k (i + count c) b rest (y ∷ s) (λ vs. k (c, vs))

-- the block inside another one, to its closing brace
pub closes : (src : ℕ) → src ≤ 4096 → (c : Code) → ReadsBlock src c → (d i b n l : ℕ) → i + count c ≤ 65536 → b + 1 + depth c ≤ 67 → n ≤ 256 → l ≤ 4096 → (rest : List ℕ) (y : Symbol Nonterminal Class) (s : Row grammar) (k : Values grammar (Part Stmts ∷ Fixed (Word m.BraceClose) ∷ y ∷ s) → ProgramTree)
    → Reached src (closed_lines d (block_lines (d + 1) c) ++ rest) (at src i (b + 1) n l) (Part Stmts ∷ Fixed (Word m.BraceClose) ∷ y ∷ s) k (i + count c) b rest (y ∷ s) (λ vs. k (c, vs))
closes src small c go d i b n l hi deep hn hl rest y s k =
    let some : 1 ≤ depth c = depth_some c in
    let end = line d (codes "}") ++ rest in
    let r = go (d + 1) i (b + 1) n l hi deep hn hl end (follows_close d rest) (over_close d rest) (Fixed (Word m.BraceClose)) (y ∷ s) k in
    record {
      nodes = r.nodes;
      names = r.names;
      few = r.few;
      short = r.short;
      is = regroup (block_lines (d + 1) c) (line d (codes "}")) rest (at src i (b + 1) n l) (Part Stmts ∷ Fixed (Word m.BraceClose) ∷ y ∷ s) k
          ∙ r.is
          ∙ close_block src small (i + count c) b r.names hi (omega arith) r.short r.nodes r.few (omega arith) d rest y s (λ vs. k (c, vs));
    }

-- a statement of one line, and those behind it
module _ (src : ℕ) (small : src ≤ 4096) (more : Code) (go : ReadsBlock src more) (d i b : ℕ) (rest : List ℕ) (f : Follows rest) (over : Lacking Stmts rest) (y : Symbol Nonterminal Class) (s : Row grammar) where
  after_line : (n l : ℕ) → n ≤ 256 → l ≤ 4096 → i + (1 + count more) ≤ 65536 → b + depth more ≤ 67 → (w : List ℕ) (c : Count) (k h : Values grammar (Part Stmts ∷ y ∷ s) → ProgramTree)
      → reading (w ++ (block_lines d more ++ rest)) c (Part Stmts ∷ y ∷ s) k ≡ reading (block_lines d more ++ rest) (at src (i + 1) b n l) (Part Stmts ∷ y ∷ s) h
      → Reached src (((indent d ++ w) ++ block_lines d more) ++ rest) c (Part Stmts ∷ y ∷ s) k (i + (1 + count more)) b rest (y ∷ s) (λ vs. h (more, vs))
  after_line n l hn hl hi deep w c k h e =
      recount src (i + (1 + count more)) b rest (y ∷ s) (λ vs. h (more, vs)) (i + 1 + count more) (omega arith) (((indent d ++ w) ++ block_lines d more) ++ rest) c (Part Stmts ∷ y ∷ s) k
      (from src (i + 1 + count more) b rest (y ∷ s) (λ vs. h (more, vs)) (((indent d ++ w) ++ block_lines d more) ++ rest) c (Part Stmts ∷ y ∷ s) k (block_lines d more ++ rest) (at src (i + 1) b n l) (Part Stmts ∷ y ∷ s) h
      (begin d w (block_lines d more) rest c (Part Stmts ∷ y ∷ s) k ∙ e) (go d (i + 1) b n l (omega arith) deep hn hl rest f over y s h))

  -- a statement with a block, whose line was read
  after_block : (body : Code) → ReadsBlock src body → (n l : ℕ) → n ≤ 256 → l ≤ 4096 → i + (1 + count body + count more) ≤ 65536 → b + max (suc (depth body)) (depth more) ≤ 67 → (w : List ℕ) (c : Count) (k : Values grammar (Part Stmts ∷ y ∷ s) → ProgramTree) (h : Values grammar (Part Stmts ∷ Fixed (Word m.BraceClose) ∷ Part Stmts ∷ y ∷ s) → ProgramTree)
      → reading (w ++ (closed_lines d (block_lines (d + 1) body) ++ (block_lines d more ++ rest))) c (Part Stmts ∷ y ∷ s) k ≡ reading (closed_lines d (block_lines (d + 1) body) ++ (block_lines d more ++ rest)) (at src (i + 1) (b + 1) n l) (Part Stmts ∷ Fixed (Word m.BraceClose) ∷ Part Stmts ∷ y ∷ s) h
      → Reached src ((((indent d ++ w) ++ closed_lines d (block_lines (d + 1) body)) ++ block_lines d more) ++ rest) c (Part Stmts ∷ y ∷ s) k (i + (1 + count body + count more)) b rest (y ∷ s) (λ vs. h (body, (more, vs)))
  after_block body inner n l hn hl hi deep w c k h e =
      let block = closed_lines d (block_lines (d + 1) body) in
      let p = closes src small body inner d (i + 1) b n l (omega arith) (omega arith) hn hl (block_lines d more ++ rest) (Part Stmts) (y ∷ s) h in
      let q = go d (i + 1 + count body) b p.nodes p.names (omega arith) (omega arith) p.few p.short rest f over y s (λ vs. h (body, vs)) in
      let all = (((indent d ++ w) ++ block) ++ block_lines d more) ++ rest in
      recount src (i + (1 + count body + count more)) b rest (y ∷ s) (λ vs. h (body, (more, vs))) (i + 1 + count body + count more) (omega arith) all c (Part Stmts ∷ y ∷ s) k
      (from src (i + 1 + count body + count more) b rest (y ∷ s) (λ vs. h (body, (more, vs))) all c (Part Stmts ∷ y ∷ s) k (block_lines d more ++ rest) (at src (i + 1 + count body) b p.nodes p.names) (Part Stmts ∷ y ∷ s) (λ vs. h (body, vs))
      (begin_block d w block (block_lines d more) rest c (Part Stmts ∷ y ∷ s) k ∙ e ∙ p.is) q)

  -- the same with an else, and where there is none
  after_both : (body other : Code) → ReadsBlock src body → ReadsBlock src other → (n l : ℕ) → n ≤ 256 → l ≤ 4096 → i + (1 + count body + count other + count more) ≤ 65536 → b + max (suc (max (depth body) (depth other))) (depth more) ≤ 67
      → (w : List ℕ) (c : Count) (k : Values grammar (Part Stmts ∷ y ∷ s) → ProgramTree) (h : Values grammar (Part Stmts ∷ Fixed (Word m.BraceClose) ∷ Part Else ∷ Part Stmts ∷ y ∷ s) → ProgramTree)
      → reading (w ++ ((block_lines (d + 1) body ++ else_lines d true (block_lines (d + 1) other)) ++ (block_lines d more ++ rest))) c (Part Stmts ∷ y ∷ s) k
      ≡ reading ((block_lines (d + 1) body ++ else_lines d true (block_lines (d + 1) other)) ++ (block_lines d more ++ rest)) (at src (i + 1) (b + 1) n l) (Part Stmts ∷ Fixed (Word m.BraceClose) ∷ Part Else ∷ Part Stmts ∷ y ∷ s) h
      → Reached src ((((indent d ++ w) ++ (block_lines (d + 1) body ++ else_lines d true (block_lines (d + 1) other))) ++ block_lines d more) ++ rest) c (Part Stmts ∷ y ∷ s) k (i + (1 + count body + count other + count more)) b rest (y ∷ s) (λ vs. h (body, (Some other, (more, vs))))
  after_both body other inner second n l hn hl hi deep w c k h e =
      let x = block_lines d more ++ rest in
      let lines = block_lines (d + 1) other in
      let elses = else_lines d true lines in
      let block = block_lines (d + 1) body ++ elses in
      let some : 1 ≤ depth other = depth_some other in
      let last = closed_lines d lines ++ x in
      let row = Part Stmts ∷ Fixed (Word m.BraceClose) ∷ Part Else ∷ Part Stmts ∷ y ∷ s in
      let p = inner (d + 1) (i + 1) (b + 1) n l (omega arith) (omega arith) hn hl (line d (codes "} else {") ++ last) (follows_else d last) (over_else d last) (Fixed (Word m.BraceClose)) (Part Else ∷ Part Stmts ∷ y ∷ s) h in
      let q = closes src small other second d (i + 1 + count body) b p.nodes p.names (omega arith) (omega arith) p.few p.short x (Part Stmts) (y ∷ s) (λ vs. h (body, (Some vs.0, vs.1))) in
      let r = go d (i + 1 + count body + count other) b q.nodes q.names (omega arith) (omega arith) q.few q.short rest f over y s (λ vs. h (body, (Some other, vs))) in
      let all = (((indent d ++ w) ++ block) ++ block_lines d more) ++ rest in
      recount src (i + (1 + count body + count other + count more)) b rest (y ∷ s) (λ vs. h (body, (Some other, (more, vs)))) (i + 1 + count body + count other + count more) (omega arith) all c (Part Stmts ∷ y ∷ s) k
      (from src (i + 1 + count body + count other + count more) b rest (y ∷ s) (λ vs. h (body, (Some other, (more, vs)))) all c (Part Stmts ∷ y ∷ s) k x (at src (i + 1 + count body + count other) b q.nodes q.names) (Part Stmts ∷ y ∷ s) (λ vs. h (body, (Some other, vs)))
      (begin_block d w block (block_lines d more) rest c (Part Stmts ∷ y ∷ s) k
      ∙ e
      ∙ regroup (block_lines (d + 1) body) elses x (at src (i + 1) (b + 1) n l) row h
      ∙ ap (λ z. reading (block_lines (d + 1) body ++ z) (at src (i + 1) (b + 1) n l) row h) (append_assoc (line d (codes "} else {")) (closed_lines d lines) x)
      ∙ p.is
      ∙ opens_else src small (i + 1 + count body) b p.nodes p.names (omega arith) (omega arith) p.few p.short d last (Part Stmts) (y ∷ s) (λ vs. h (body, vs))
      ∙ q.is) r)

  after_one : (body : Code) → ReadsBlock src body → (n l : ℕ) → n ≤ 256 → l ≤ 4096 → i + (1 + count body + count End + count more) ≤ 65536 → b + max (suc (max (depth body) (depth End))) (depth more) ≤ 67
      → (w : List ℕ) (c : Count) (k : Values grammar (Part Stmts ∷ y ∷ s) → ProgramTree) (h : Values grammar (Part Stmts ∷ Fixed (Word m.BraceClose) ∷ Part Else ∷ Part Stmts ∷ y ∷ s) → ProgramTree)
      → reading (w ++ (closed_lines d (block_lines (d + 1) body) ++ (block_lines d more ++ rest))) c (Part Stmts ∷ y ∷ s) k ≡ reading (closed_lines d (block_lines (d + 1) body) ++ (block_lines d more ++ rest)) (at src (i + 1) (b + 1) n l) (Part Stmts ∷ Fixed (Word m.BraceClose) ∷ Part Else ∷ Part Stmts ∷ y ∷ s) h
      → Reached src ((((indent d ++ w) ++ closed_lines d (block_lines (d + 1) body)) ++ block_lines d more) ++ rest) c (Part Stmts ∷ y ∷ s) k (i + (1 + count body + count End + count more)) b rest (y ∷ s) (λ vs. h (body, (None, (more, vs))))
  after_one body inner n l hn hl hi deep w c k h e =
      let block = closed_lines d (block_lines (d + 1) body) in
      let x = block_lines d more ++ rest in
      let p = closes src small body inner d (i + 1) b n l (omega arith) (omega arith) hn hl x (Part Else) (Part Stmts ∷ y ∷ s) h in
      let q = go d (i + 1 + count body) b p.nodes p.names (omega arith) (omega arith) p.few p.short rest f over y s (λ vs. h (body, (None, vs))) in
      let all = (((indent d ++ w) ++ block) ++ block_lines d more) ++ rest in
      let lacks = (follows_lines d more rest f).other in
      recount src (i + (1 + count body + count End + count more)) b rest (y ∷ s) (λ vs. h (body, (None, (more, vs)))) (i + 1 + count body + count more) (omega arith) all c (Part Stmts ∷ y ∷ s) k
      (from src (i + 1 + count body + count more) b rest (y ∷ s) (λ vs. h (body, (None, (more, vs)))) all c (Part Stmts ∷ y ∷ s) k x (at src (i + 1 + count body) b p.nodes p.names) (Part Stmts ∷ y ∷ s) (λ vs. h (body, (None, vs)))
      (begin_block d w block (block_lines d more) rest c (Part Stmts ∷ y ∷ s) k
      ∙ e
      ∙ p.is
      ∙ skip Else None x (at src (i + 1 + count body) b p.nodes p.names) (Part Stmts ∷ y ∷ s) (λ vs. h (body, vs)) refl lacks) q)

-- Each block

fits_in : (b d : ℕ) → b + d ≤ 67 → 1 ≤ d → b ≤ 66
fits_in b d h some = omega arith

one_item : (i n : ℕ) → i + (1 + n) ≤ 65536 → i + 1 ≤ 65536
one_item i n h = omega arith

module _ (src : ℕ) (small : src ≤ 4096) where
  pub reads_block : (c : Code) → Named c → FitsTerms c → ReadsBlock src c
  reads_block End h g d i b n l hi deep hn hl rest f over y s k = record {
    nodes = n;
    names = l;
    few = hn;
    short = hl;
    is = skip Stmts End rest (at src i b n l) (y ∷ s) k refl over ∙ ap (λ z. reading rest (at src z b n l) (y ∷ s) (λ vs. k (End, vs))) (let e : i ≡ i + 0 = omega arith in e);
  }
  reads_block (Let r e more) h g d i b n l hi deep hn hl rest f over y s k =
      after_line src small more (reads_block more h.2 g.1) d i b rest f over y s (nodes e) l g.0.1 hl hi deep (codes "let " ++ (register_text r ++ value_text e)) (at src i b n l) k (λ vs. k (Let r e vs.0, vs.1))
      (reads_let src small i b (one_item i (count more) hi) (fits_in b (depth more) deep (depth_some more)) y s k (block_lines d more ++ rest) n l hn hl r h.0 e h.1 g.0 (follows_lines d more rest f))
  reads_block (Load r x e more) h g d i b n l hi deep hn hl rest f over y s k =
      after_line src small more (reads_block more h.3 g.1) d i b rest f over y s (nodes e) l g.0.1 hl hi deep (codes "let " ++ (register_text r ++ loaded_text x e)) (at src i b n l) k (λ vs. k (Load r x e vs.0, vs.1))
      (reads_load src small i b (one_item i (count more) hi) (fits_in b (depth more) deep (depth_some more)) y s k (block_lines d more ++ rest) n l hn hl r h.0 x h.1 e h.2 g.0)
  reads_block (Var r e more) h g d i b n l hi deep hn hl rest f over y s k =
      after_line src small more (reads_block more h.2 g.1) d i b rest f over y s (nodes e) l g.0.1 hl hi deep (codes "var " ++ (register_text r ++ value_text e)) (at src i b n l) k (λ vs. k (Var r e vs.0, vs.1))
      (reads_var src small i b (one_item i (count more) hi) (fits_in b (depth more) deep (depth_some more)) y s k (block_lines d more ++ rest) n l hn hl r h.0 e h.1 g.0 (follows_lines d more rest f))
  reads_block (Put r e more) h g d i b n l hi deep hn hl rest f over y s k =
      after_line src small more (reads_block more h.2 g.1) d i b rest f over y s (nodes e) l g.0.1 hl hi deep (codes "put " ++ (register_text r ++ value_text e)) (at src i b n l) k (λ vs. k (Put r e vs.0, vs.1))
      (reads_put src small i b (one_item i (count more) hi) (fits_in b (depth more) deep (depth_some more)) y s k (block_lines d more ++ rest) n l hn hl r h.0 e h.1 g.0 (follows_lines d more rest f))
  reads_block (Set x e v more) h g d i b n l hi deep hn hl rest f over y s k =
      after_line src small more (reads_block more h.3 g.2) d i b rest f over y s (nodes v) 1 g.1.1 (lit≤ tt) hi deep (codes "set " ++ (cell_text x e ++ value_text v)) (at src i b n l) k (λ vs. k (Set x e v vs.0, vs.1))
      (reads_set src small i b (one_item i (count more) hi) (fits_in b (depth more) deep (depth_some more)) y s k (block_lines d more ++ rest) n l hn hl x h.0 e v h.1 g.0 h.2 g.1 (follows_lines d more rest f))
  reads_block (For r x body more) h g d i b n l hi deep hn hl rest f over y s k =
      let deeper : b + 1 ≤ 66 = let p = depth_some body in let q : b + max (suc (depth body)) (depth more) ≤ 67 = deep in omega arith in
      after_block src small more (reads_block more h.2 g.2) d i b rest f over y s body (reads_block body h.1 g.1) n l hn hl hi deep (codes "for " ++ (register_text r ++ bound_text x)) (at src i b n l) k (λ vs. k (For r x vs.0 vs.1.0, vs.1.1))
      (reads_for src small i b (omega arith) (omega arith) y s k (closed_lines d (block_lines (d + 1) body) ++ (block_lines d more ++ rest)) n l hn hl deeper r h.0 x g.0)
  reads_block (Span r x z v body more) h g d i b n l hi deep hn hl rest f over y s k =
      let deeper : b + 1 ≤ 66 = let p = depth_some body in let q : b + max (suc (depth body)) (depth more) ≤ 67 = deep in omega arith in
      after_block src small more (reads_block more h.4 g.4) d i b rest f over y s body (reads_block body h.3 g.3) (nodes z) l g.1.1 hl hi deep (codes "for " ++ (register_text r ++ range_text x z v)) (at src i b n l) k (λ vs. k (Span r x z v vs.0 vs.1.0, vs.1.1))
      (reads_span src small i b (omega arith) (omega arith) y s k (closed_lines d (block_lines (d + 1) body) ++ (block_lines d more ++ rest)) n l hn hl deeper r h.0 x z h.1 g.0 h.2 g.1 v g.2)
  reads_block (If x eq z body true other more) h g d i b n l hi deep hn hl rest f over y s k =
      let deeper : b + 1 ≤ 66 = let p = depth_some body in let q : b + max (suc (max (depth body) (depth other))) (depth more) ≤ 67 = deep in omega arith in
      after_both src small more (reads_block more h.5 g.4) d i b rest f over y s body other (reads_block body h.2 g.2) (reads_block other h.4 g.3) (nodes z) l g.1.1 hl hi deep (codes "if " ++ compared_text x eq z) (at src i b n l) k
      (λ vs. k (If x eq z vs.0 (is_given vs.1.0) (other_of vs.1.0) vs.1.1.0, vs.1.1.1))
      (reads_if src small i b (omega arith) (omega arith) y s k ((block_lines (d + 1) body ++ else_lines d true (block_lines (d + 1) other)) ++ (block_lines d more ++ rest)) n l hn hl deeper x eq z h.0 g.0 h.1 g.1)
  reads_block (If x eq z body false other more) h g d i b n l hi deep hn hl rest f over y s k =
      let some : 1 ≤ depth other = depth_some other in
      let deeper : b + 1 ≤ 66 = let p = depth_some body in let q : b + max (suc (max (depth body) (depth other))) (depth more) ≤ 67 = deep in omega arith in
      let P : Code → Type 0 = λ o. Reached src (block_lines d (If x eq z body false other more) ++ rest) (at src i b n l) (Part Stmts ∷ y ∷ s) k (i + (1 + count body + count o + count more)) b rest (y ∷ s) (λ vs. k (If x eq z body false o more, vs)) in
      subst P (sym h.3)
      (after_one src small more (reads_block more h.5 g.4) d i b rest f over y s body (reads_block body h.2 g.2) (nodes z) l g.1.1 hl (omega arith) (omega arith) (codes "if " ++ compared_text x eq z) (at src i b n l) k
      (λ vs. k (If x eq z vs.0 (is_given vs.1.0) (other_of vs.1.0) vs.1.1.0, vs.1.1.1))
      (reads_if src small i b (omega arith) (omega arith) y s k (closed_lines d (block_lines (d + 1) body) ++ (block_lines d more ++ rest)) n l hn hl deeper x eq z h.0 g.0 h.1 g.1))
  reads_block (When x v r body true other more) h g d i b n l hi deep hn hl rest f over y s k =
      let deeper : b + 1 ≤ 66 = let p = depth_some body in let q : b + max (suc (max (depth body) (depth other))) (depth more) ≤ 67 = deep in omega arith in
      after_both src small more (reads_block more h.5 g.4) d i b rest f over y s body other (reads_block body h.2 g.2) (reads_block other h.4 g.3) (nodes x) l g.0.1 hl hi deep (codes "when " ++ (term_text x ++ within_text v r)) (at src i b n l) k
      (λ vs. k (When x v r vs.0 (is_given vs.1.0) (other_of vs.1.0) vs.1.1.0, vs.1.1.1))
      (reads_when src small i b (omega arith) (omega arith) y s k ((block_lines (d + 1) body ++ else_lines d true (block_lines (d + 1) other)) ++ (block_lines d more ++ rest)) n l hn hl deeper x h.0 g.0 v g.1 r h.1)
  reads_block (When x v r body false other more) h g d i b n l hi deep hn hl rest f over y s k =
      let some : 1 ≤ depth other = depth_some other in
      let deeper : b + 1 ≤ 66 = let p = depth_some body in let q : b + max (suc (max (depth body) (depth other))) (depth more) ≤ 67 = deep in omega arith in
      let P : Code → Type 0 = λ o. Reached src (block_lines d (When x v r body false other more) ++ rest) (at src i b n l) (Part Stmts ∷ y ∷ s) k (i + (1 + count body + count o + count more)) b rest (y ∷ s) (λ vs. k (When x v r body false o more, vs)) in
      subst P (sym h.3)
      (after_one src small more (reads_block more h.5 g.4) d i b rest f over y s body (reads_block body h.2 g.2) (nodes x) l g.0.1 hl (omega arith) (omega arith) (codes "when " ++ (term_text x ++ within_text v r)) (at src i b n l) k
      (λ vs. k (When x v r vs.0 (is_given vs.1.0) (other_of vs.1.0) vs.1.1.0, vs.1.1.1))
      (reads_when src small i b (omega arith) (omega arith) y s k (closed_lines d (block_lines (d + 1) body) ++ (block_lines d more ++ rest)) n l hn hl deeper x h.0 g.0 v g.1 r h.1))
  reads_block (Order x [] more) h g d i b n l hi deep hn hl rest f over y s k = absurd (let none : 1 ≤ 0 = g.0 in omega arith)
  reads_block (Order x (z ∷ zs) more) h g d i b n l hi deep hn hl rest f over y s k =
      let short : suc (length zs) ≤ 4095 = g.1 in
      after_line src small more (reads_block more h.2 g.2) d i b rest f over y s n (2 + length zs) hn (omega arith) hi deep (codes "order " ++ (buf_text x ++ keys_text (z ∷ zs))) (at src i b n l) k (λ vs. k (Order x (z ∷ zs) vs.0, vs.1))
      (reads_order src small i b (one_item i (count more) hi) (fits_in b (depth more) deep (depth_some more)) y s k (block_lines d more ++ rest) n l hn hl x h.0 z zs h.1 g.1 (follows_lines d more rest f))
