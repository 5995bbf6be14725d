-- The lines of statements are read as these.
use Rattle.std.proofs.Common.{◌≡◌, ◌<◌, ◌≤◌, ℕ, zero, suc, ◌+◌, ◌-◌, ◌^◌, List, [], ◌∷◌, ◌++◌, Bool, true, false, codes, length, Some, refl, sym, ap, ◌∙◌, arith, append_assoc, zero-add, subst, lit≤}
use Rattle.std.specs.List.{flat_map}
use Rattle.us_tokens.specs.Text as text
use Rattle.us_tokens.specs.Text.{Text, Then}
use Rattle.us_tokens.specs.Lex.{Between, lexed}
use Rattle.us_tokens.proofs.Back.{IsWord}
use Rattle.us_grammar.specs.Grammar.{Symbol, Fixed, Part, Row, Values}
use Rattle.us_grammar.specs.Reading.{scan}
use Rattle.us_code.specs.declared.program.Dim.{Dim}
use Rattle.us_code.specs.declared.program.Buf.{Buf}
use Rattle.us_code.specs.declared.program.Buf.TheVariants as buf
use Rattle.us_code.specs.Plain.{ProgramTree, TermTree, Number, Reg, Size, Flat, Next, Up, Add, Sub, Mul, Div, Rem}
use Rattle.us_code.specs.Limits.{nodes, parens, FitsDim, FitsNumbers, FitsTerm}
use Rattle.us_code_table.specs.declared.mark.Mark.{Mark}
use Rattle.us_code_table.specs.declared.mark.Mark.TheVariants as m
use Rattle.us_code_table.specs.declared.lexeme.Lexeme.{Lexeme}
use Rattle.us_code_table.specs.declared.lexeme.Lexeme.TheVariants as lexeme
use Rattle.us_code_table.specs.Table.{Nonterminal, Class, Word, Computed, Loaded, Sum, SumTail, ProductTail, DimOrNumber, LetTail, Stmts, BlockPart, Else, Key, MoreKeys, Register, grammar}
use Rattle.us_code_table.specs.Words.{language, keyword}
use Rattle.us_code_table.specs.Limits.{Count, limits}
use Rattle.us_code_print.specs.Canon.{register_text, new_text, buf_text, dim_name_text, dim_text, is_sum, parenthesized, term_text, indent, newline, opened, line, cell_text, value_text, loaded_text, bound_text}
use Rattle.us_code_print.specs.ReadBack.{NamedTerm, NamedBuf, NamedBufs}
use Rattle.us_code_print.proofs.Lexed.{Lexes, Stops, register_lexes, buffer_lexes, source_lexes, number_lexes, word_lexes, open_lexes, bracket_lexes, bracket_end_lexes, brace_lexes, brace_end_lexes, comma_lexes, equal_lexes, space, line_end}
use Rattle.us_code_print.proofs.Front.{reading, Within, below, choose, pass, skip_space, regroup, Lacking, lacking, skip}
use Rattle.us_code_print.proofs.ReadTerms.{Ends, ends_line, reads_dim, reads_term, whole}

-- Blanks at the front

pub indent_lexed : (d : ℕ) (rest : List ℕ) → lexed language (indent d ++ rest) Between ≡ lexed language rest Between
indent_lexed zero rest = refl
indent_lexed (suc d) rest = space (32 ∷ (indent d ++ rest)) ∙ space (indent d ++ rest) ∙ indent_lexed d rest

pub skip_line : (rest : List ℕ) (c : Count) (s : Row grammar) (k : Values grammar s → ProgramTree) → reading (10 ∷ rest) c s k ≡ reading rest c s k
skip_line rest c s k = ap (λ t. scan grammar limits t c s k) (line_end rest)

-- a line behind its indentation
pub line_lexed : (d : ℕ) (w rest : List ℕ) → lexed language ((indent d ++ w) ++ rest) Between ≡ lexed language (w ++ rest) Between
line_lexed d w rest = ap (λ x. lexed language x Between) (append_assoc (indent d) w rest) ∙ indent_lexed d (w ++ rest)

pub begin_line : (d : ℕ) (w rest : List ℕ) (c : Count) (s : Row grammar) (k : Values grammar s → ProgramTree) → reading ((indent d ++ w) ++ rest) c s k ≡ reading (w ++ rest) c s k
begin_line d w rest c s k = ap (λ t. scan grammar limits t c s k) (line_lexed d w rest)

-- what stands behind a line: no operator, no else and no comma
pub record Follows (rest : List ℕ) : Type 0 where
  pub product : Lacking ProductTail rest
  pub sum : Lacking SumTail rest
  pub other : Lacking Else rest
  pub keys : Lacking MoreKeys rest

pub ends_at_line : (rest : List ℕ) → Follows rest → Ends (10 ∷ rest)
ends_at_line rest f = ends_line rest f.product f.sum

-- counts at a place where no parenthesis is open
abbrev pub at : ℕ → ℕ → ℕ → ℕ → ℕ → Count
at src i b n l = record { items = i; braces = b; nodes = n; parens = 0; names = l; sources = src }

-- A value that begins with no buffer is no load.

abbrev NoBuffer : Text Lexeme → Type 0
NoBuffer (Then (lexeme.Buffer n) w b more) = ⊥
NoBuffer (Then (lexeme.Source n) w b more) = ⊥
NoBuffer _ = Unit {0}

no_buffer : (bytes : List ℕ) (t : Text Lexeme) → lexed language bytes Between ≡ t → NoBuffer t → NoBuffer (lexed language bytes Between)
no_buffer bytes t e h = subst (λ (z : Text Lexeme). NoBuffer z) (sym e) h

abbrev Begins : List ℕ → Type 0
Begins x = (rest : List ℕ) → Stops rest → NoBuffer (lexed language (x ++ rest) Between)

begins_in : (b : Bool) (x : List ℕ) → Begins x → Begins (parenthesized b x)
begins_in true x h rest stop = no_buffer (40 ∷ ((x ++ codes ")") ++ rest)) _ (open_lexes ((x ++ codes ")") ++ rest)) tt
begins_in false x h rest stop = h rest stop

begins_more : (x z : List ℕ) → Begins x → ((rest : List ℕ) → Stops rest → Stops (z ++ rest)) → Begins (x ++ z)
begins_more x z h g rest stop = subst (λ (w : List ℕ). NoBuffer (lexed language w Between)) (sym (append_assoc x z rest)) (h (z ++ rest) (g rest stop))

begins_word : (w : List ℕ) (c : Mark) (z : List ℕ) → IsWord w → keyword w ≡ Some c → ((rest : List ℕ) → Stops (z ++ rest)) → Begins (w ++ z)
begins_word w c z is key g rest stop = subst (λ (x : List ℕ). NoBuffer (lexed language x Between)) (sym (append_assoc w z rest)) (no_buffer (w ++ (z ++ rest)) _ (word_lexes w c (z ++ rest) is key (g rest)) tt)

begins : (t : TermTree) → NamedTerm t → FitsNumbers t → Begins (term_text t)
begins (Number n) h f = λ rest stop. no_buffer (term_text (Number n) ++ rest) _ (number_lexes n rest f stop) tt
begins (Reg r) h f = λ rest stop. no_buffer (term_text (Reg r) ++ rest) _ (register_lexes r rest h stop) tt
begins (Size d) h f = begins_word (codes "size") m.Size (40 ∷ (dim_text d ++ codes ")")) record { first = refl; all = refl } refl (λ rest. refl)
begins (Flat d x z) h f = begins_word (codes "flat") m.Flat (32 ∷ ((dim_name_text d ++ codes "(") ++ (term_text x ++ (codes ", " ++ (term_text z ++ codes ")"))))) record { first = refl; all = refl } refl (λ rest. refl)
begins (Next d x) h f = begins_word (codes "next") m.Next (32 ∷ ((dim_name_text d ++ codes "(") ++ (term_text x ++ codes ")"))) record { first = refl; all = refl } refl (λ rest. refl)
begins (Up d x) h f = begins_word (codes "up") m.Up (32 ∷ ((dim_name_text d ++ codes "(") ++ (term_text x ++ codes ")"))) record { first = refl; all = refl } refl (λ rest. refl)
begins (Add x z) h f = begins_more (term_text x) _ (begins x h.0 f.0) (λ rest stop. refl)
begins (Sub x z) h f = begins_more (term_text x) _ (begins x h.0 f.0) (λ rest stop. refl)
begins (Mul x z) h f = begins_more (parenthesized (is_sum x) (term_text x)) _ (begins_in (is_sum x) (term_text x) (begins x h.0 f.0)) (λ rest stop. refl)
begins (Div x v) h f = begins_more (parenthesized (is_sum x) (term_text x)) _ (begins_in (is_sum x) (term_text x) (begins x h f.0)) (λ rest stop. refl)
begins (Rem x v) h f = begins_more (parenthesized (is_sum x) (term_text x)) _ (begins_in (is_sum x) (term_text x) (begins x h f.0)) (λ rest stop. refl)

module _ (c : Count) (y : Symbol Nonterminal Class) (s : Row grammar) (k : Values grammar (Part LetTail ∷ y ∷ s) → ProgramTree) where
  abbrev Same : Text Lexeme → Type 0
  Same t = scan grammar limits t c (Part LetTail ∷ y ∷ s) k ≡ scan grammar limits t c (Part Sum ∷ y ∷ s) (λ vs. k (Computed vs.0, vs.1))

  fixed_same : (a : Mark) (w : List ℕ) (b : ℕ) (more : Text Lexeme) → Same (Then (lexeme.Fixed a) w b more)
  fixed_same m.Open w b more = refl
  fixed_same _ w b more = refl

  number_same : (n : ℕ) (w : List ℕ) (b : ℕ) (more : Text Lexeme) → Same (Then (lexeme.Number n) w b more)
  number_same zero w b more = refl
  number_same (suc zero) w b more = refl
  number_same (suc (suc n)) w b more = refl

  let_value : (t : Text Lexeme) → NoBuffer t → Same t
  let_value text.End h = refl
  let_value (text.Bad left) h = refl
  let_value (Then (lexeme.Fixed a) w b more) h = fixed_same a w b more
  let_value (Then (lexeme.Register n) w b more) h = refl
  let_value (Then (lexeme.Buffer n) w b more) h = absurd h
  let_value (Then (lexeme.DimName n) w b more) h = refl
  let_value (Then (lexeme.Source n) w b more) h = absurd h
  let_value (Then (lexeme.Length n) w b more) h = refl
  let_value (Then (lexeme.Number n) w b more) h = number_same n w b more

module _ (src : ℕ) (small : src ≤ 4096) where
  pub within : (i b n l : ℕ) → i ≤ 65536 → b ≤ 66 → n ≤ 256 → l ≤ 4096 → Within (at src i b n l)
  within i b n l hi hb hn hl = record { items = hi; braces = hb; nodes = hn; parens = lit≤ tt; names = hl; sources = small }

  module _ (i b l : ℕ) (hi : i ≤ 65536) (hb : b ≤ 66) (hl : l ≤ 4096) where
    -- a term, where its count begins anew
    pub expr : (t : TermTree) → NamedTerm t → FitsTerm t → (rest : List ℕ) → Ends rest → (y : Symbol Nonterminal Class) (s : Row grammar) (k : Values grammar (Part Sum ∷ y ∷ s) → ProgramTree)
        → reading (term_text t ++ rest) (at src i b 0 l) (Part Sum ∷ y ∷ s) k ≡ reading rest (at src i b (nodes t) l) (y ∷ s) (λ vs. k (t, vs))
    expr t named fits rest ends y s k =
        let none : 0 ≤ 256 = lit≤ tt in
        let c = at src i b 0 l in
        let w = within i b 0 l hi hb none hl in
        let few : 0 + nodes t ≤ 256 = let f : nodes t ≤ 256 = fits.1 in omega arith in
        let shallow : 0 + parens 0 t ≤ 64 = let f : parens 0 t ≤ 64 = fits.2 in omega arith in
        whole c w t (term_text t) (parens 0 t) (reads_term c w t named fits.0).sum 0 0 few shallow rest ends y s k
        ∙ ap (λ z. reading rest (at src i b z l) (y ∷ s) (λ vs. k (t, vs))) (zero-add (nodes t))

    -- a sign between spaces, behind which a term begins anew
    pub anew : (n : ℕ) → n ≤ 256 → (a : Mark) (w rest : List ℕ) (s : Row grammar) (y : Symbol Nonterminal Class) (k : Values grammar (Fixed (Word a) ∷ y ∷ s) → ProgramTree) → Lexes (lexeme.Fixed a) w (32 ∷ rest)
        → (Within (at src i b 0 l) → reading (w ++ (32 ∷ rest)) (at src i b n l) (Fixed (Word a) ∷ y ∷ s) k ≡ reading (32 ∷ rest) (at src i b 0 l) (y ∷ s) k)
        → reading (32 ∷ (w ++ (32 ∷ rest))) (at src i b n l) (Fixed (Word a) ∷ y ∷ s) k ≡ reading rest (at src i b 0 l) (y ∷ s) k
    anew n hn a w rest s y k is go =
        skip_space (w ++ (32 ∷ rest)) (at src i b n l) (Fixed (Word a) ∷ y ∷ s) k ∙ go (within i b 0 l hi hb (lit≤ tt) hl) ∙ skip_space rest (at src i b 0 l) (y ∷ s) k

    -- what a register or a cell gets, to the end of the line
    pub value : (n : ℕ) → n ≤ 256 → (t : TermTree) → NamedTerm t → FitsTerm t → (rest : List ℕ) → Follows rest → (y : Symbol Nonterminal Class) (s : Row grammar) (k : Values grammar (Fixed (Word m.Equal) ∷ Part Sum ∷ y ∷ s) → ProgramTree)
        → reading (value_text t ++ rest) (at src i b n l) (Fixed (Word m.Equal) ∷ Part Sum ∷ y ∷ s) k ≡ reading rest (at src i b (nodes t) l) (y ∷ s) (λ vs. k (t, vs))
    value n hn t named fits rest follows y s k =
        let behind = (term_text t ++ newline) ++ rest in
        anew n hn m.Equal (61 ∷ []) behind (y ∷ s) (Part Sum) k (equal_lexes behind) (λ w. pass (Part Sum) (y ∷ s) m.Equal (61 ∷ []) (32 ∷ behind) (at src i b n l) k (equal_lexes behind) w)
        ∙ regroup (term_text t) newline rest (at src i b 0 l) (Part Sum ∷ y ∷ s) k
        ∙ expr t named fits (10 ∷ rest) (ends_at_line rest follows) y s k
        ∙ skip_line rest (at src i b (nodes t) l) (y ∷ s) (λ vs. k (t, vs))

    pub computed : (n : ℕ) → n ≤ 256 → (t : TermTree) → NamedTerm t → FitsTerm t → (rest : List ℕ) → Follows rest → (y : Symbol Nonterminal Class) (s : Row grammar) (k : Values grammar (Fixed (Word m.Equal) ∷ Part LetTail ∷ y ∷ s) → ProgramTree)
        → reading (value_text t ++ rest) (at src i b n l) (Fixed (Word m.Equal) ∷ Part LetTail ∷ y ∷ s) k ≡ reading rest (at src i b (nodes t) l) (y ∷ s) (λ vs. k (Computed t, vs))
    computed n hn t named fits rest follows y s k =
        let behind = (term_text t ++ newline) ++ rest in
        anew n hn m.Equal (61 ∷ []) behind (y ∷ s) (Part LetTail) k (equal_lexes behind) (λ w. pass (Part LetTail) (y ∷ s) m.Equal (61 ∷ []) (32 ∷ behind) (at src i b n l) k (equal_lexes behind) w)
        ∙ regroup (term_text t) newline rest (at src i b 0 l) (Part LetTail ∷ y ∷ s) k
        ∙ let_value (at src i b 0 l) y s k (lexed language (term_text t ++ (10 ∷ rest)) Between) (begins t named fits.0 (10 ∷ rest) refl)
        ∙ expr t named fits (10 ∷ rest) (ends_at_line rest follows) y s (λ vs. k (Computed vs.0, vs.1))
        ∙ skip_line rest (at src i b (nodes t) l) (y ∷ s) (λ vs. k (Computed t, vs))

    -- an index in brackets
    pub index : (n : ℕ) → n ≤ 256 → (t : TermTree) → NamedTerm t → FitsTerm t → (rest : List ℕ) → (y : Symbol Nonterminal Class) (s : Row grammar) (k : Values grammar (Fixed (Word m.BracketOpen) ∷ Part Sum ∷ Fixed (Word m.BracketClose) ∷ y ∷ s) → ProgramTree)
        → reading ((codes "[" ++ (term_text t ++ codes "]")) ++ rest) (at src i b n l) (Fixed (Word m.BracketOpen) ∷ Part Sum ∷ Fixed (Word m.BracketClose) ∷ y ∷ s) k ≡ reading rest (at src i b (nodes t) l) (y ∷ s) (λ vs. k (t, vs))
    index n hn t named fits rest y s k =
        let behind = (term_text t ++ codes "]") ++ rest in
        let row = Part Sum ∷ Fixed (Word m.BracketClose) ∷ y ∷ s in
        let few : nodes t ≤ 256 = fits.1 in
        pass (Part Sum) (Fixed (Word m.BracketClose) ∷ y ∷ s) m.BracketOpen (91 ∷ []) behind (at src i b n l) k (bracket_lexes behind) (within i b 0 l hi hb (lit≤ tt) hl)
        ∙ regroup (term_text t) (93 ∷ []) rest (at src i b 0 l) row k
        ∙ expr t named fits (93 ∷ rest) record { stops = refl; product = lacking ProductTail (93 ∷ rest) _ (bracket_end_lexes rest) refl; sum = lacking SumTail (93 ∷ rest) _ (bracket_end_lexes rest) refl } (Fixed (Word m.BracketClose)) (y ∷ s) k
        ∙ pass y s m.BracketClose (93 ∷ []) rest (at src i b (nodes t) l) (λ vs. k (t, vs)) (bracket_end_lexes rest) (within i b (nodes t) l hi hb few hl)

    -- the cell that a register gets
    pub loaded : (n : ℕ) → n ≤ 256 → (x : Buf) → NamedBuf x → (t : TermTree) → NamedTerm t → FitsTerm t → (rest : List ℕ) → (y : Symbol Nonterminal Class) (s : Row grammar) (k : Values grammar (Fixed (Word m.Equal) ∷ Part LetTail ∷ y ∷ s) → ProgramTree)
        → reading (loaded_text x t ++ rest) (at src i b n l) (Fixed (Word m.Equal) ∷ Part LetTail ∷ y ∷ s) k ≡ reading rest (at src i b (nodes t) l) (y ∷ s) (λ vs. k (Loaded x t, vs))
    loaded n hn x hx t named fits rest y s k =
        let behind = (cell_text x t ++ newline) ++ rest in
        anew n hn m.Equal (61 ∷ []) behind (y ∷ s) (Part LetTail) k (equal_lexes behind) (λ w. pass (Part LetTail) (y ∷ s) m.Equal (61 ∷ []) (32 ∷ behind) (at src i b n l) k (equal_lexes behind) w)
        ∙ regroup (cell_text x t) newline rest (at src i b 0 l) (Part LetTail ∷ y ∷ s) k
        ∙ regroup (buf_text x) (codes "[" ++ (term_text t ++ codes "]")) (10 ∷ rest) (at src i b 0 l) (Part LetTail ∷ y ∷ s) k
        ∙ first x hx
        ∙ index 0 (lit≤ tt) t named fits (10 ∷ rest) y s (λ vs. k (Loaded x vs.0, vs.1))
        ∙ skip_line rest (at src i b (nodes t) l) (y ∷ s) (λ vs. k (Loaded x t, vs))
      where
        brackets : List ℕ
        brackets = (codes "[" ++ (term_text t ++ codes "]")) ++ (10 ∷ rest)

        first : (x : Buf) → NamedBuf x → reading (buf_text x ++ brackets) (at src i b 0 l) (Part LetTail ∷ y ∷ s) k ≡ reading brackets (at src i b 0 l) (Fixed (Word m.BracketOpen) ∷ Part Sum ∷ Fixed (Word m.BracketClose) ∷ y ∷ s) (λ vs. k (Loaded x vs.0, vs.1))
        first (buf.New v) h = choose y s LetTail (lexeme.Buffer v) (new_text v) brackets (at src i b 0 l) k _ refl (buffer_lexes v brackets h refl) (within i b 0 l hi hb (lit≤ tt) hl) (below v 4294967296 h)
        first (buf.Source v) h = choose y s LetTail (lexeme.Source v) (buf_text (buf.Source v)) brackets (at src i b 0 l) k _ refl (source_lexes v brackets h refl) (within i b 0 l hi hb (lit≤ tt) hl) (below v 4294967296 h)

    pub register : (n : ℕ) → n ≤ 256 → (r : ℕ) → r < 2 ^ 32 → (rest : List ℕ) → Stops rest → (y : Symbol Nonterminal Class) (s : Row grammar) (k : Values grammar (Part Register ∷ y ∷ s) → ProgramTree)
        → reading (register_text r ++ rest) (at src i b n l) (Part Register ∷ y ∷ s) k ≡ reading rest (at src i b n l) (y ∷ s) (λ vs. k (r, vs))
    register n hn r h rest stop y s k = choose y s Register (lexeme.Register r) (register_text r) rest (at src i b n l) k _ refl (register_lexes r rest h stop) (within i b n l hi hb hn hl) (below r 4294967296 h)

    pub key : (n : ℕ) → n ≤ 256 → l + 1 ≤ 4096 → (x : Buf) → NamedBuf x → (rest : List ℕ) → Stops rest → (y : Symbol Nonterminal Class) (s : Row grammar) (k : Values grammar (Part Key ∷ y ∷ s) → ProgramTree)
        → reading (buf_text x ++ rest) (at src i b n l) (Part Key ∷ y ∷ s) k ≡ reading rest (at src i b n (l + 1)) (y ∷ s) (λ vs. k (x, vs))
    key n hn h (buf.New v) named rest stop y s k = choose y s Key (lexeme.Buffer v) (new_text v) rest (at src i b n l) k _ refl (buffer_lexes v rest named stop) (within i b n (l + 1) hi hb hn h) (below v 4294967296 named)
    key n hn h (buf.Source v) named rest stop y s k = choose y s Key (lexeme.Source v) (buf_text (buf.Source v)) rest (at src i b n l) k _ refl (source_lexes v rest named stop) (within i b n (l + 1) hi hb hn h) (below v 4294967296 named)

    -- a bound, and the brace of the block behind it
    pub open_block : (n : ℕ) → n ≤ 256 → b + 1 ≤ 66 → (rest : List ℕ) → (y : Symbol Nonterminal Class) (s : Row grammar) (k : Values grammar (Part BlockPart ∷ y ∷ s) → ProgramTree)
        → reading (opened ++ rest) (at src i b n l) (Part BlockPart ∷ y ∷ s) k ≡ reading rest (at src i (b + 1) n l) (Part Stmts ∷ Fixed (Word m.BraceClose) ∷ y ∷ s) (λ vs. k (vs.0, vs.1))
    open_block n hn deep rest y s k =
        skip_space (123 ∷ 10 ∷ rest) (at src i b n l) (Part BlockPart ∷ y ∷ s) k
        ∙ choose y s BlockPart (lexeme.Fixed m.BraceOpen) (123 ∷ []) (10 ∷ rest) (at src i b n l) k _ refl (brace_lexes (10 ∷ rest)) (within i (b + 1) n l hi deep hn hl) refl
        ∙ skip_line rest (at src i (b + 1) n l) (Part Stmts ∷ Fixed (Word m.BraceClose) ∷ y ∷ s) (λ vs. k (vs.0, vs.1))

    pub bound : (n : ℕ) → n ≤ 256 → b + 1 ≤ 66 → (d : Dim) → FitsDim d → (rest : List ℕ) → (y : Symbol Nonterminal Class) (s : Row grammar) (k : Values grammar (Fixed (Word m.Below) ∷ Part DimOrNumber ∷ Part BlockPart ∷ y ∷ s) → ProgramTree)
        → reading (bound_text d ++ rest) (at src i b n l) (Fixed (Word m.Below) ∷ Part DimOrNumber ∷ Part BlockPart ∷ y ∷ s) k ≡ reading rest (at src i (b + 1) n l) (Part Stmts ∷ Fixed (Word m.BraceClose) ∷ y ∷ s) (λ vs. k (d, (vs.0, vs.1)))
    bound n hn deep d h rest y s k =
        let c = at src i b n l in
        let w = within i b n l hi hb hn hl in
        let behind = (dim_text d ++ opened) ++ rest in
        let row = Part DimOrNumber ∷ Part BlockPart ∷ y ∷ s in
        skip_space (codes "below " ++ behind) c (Fixed (Word m.Below) ∷ row) k
        ∙ pass (Part DimOrNumber) (Part BlockPart ∷ y ∷ s) m.Below (codes "below") (32 ∷ behind) c k (word_lexes (codes "below") m.Below (32 ∷ behind) record { first = refl; all = refl } refl refl) w
        ∙ skip_space behind c row k
        ∙ regroup (dim_text d) opened rest c row k
        ∙ reads_dim (opened ++ rest) c w refl (Part BlockPart) (y ∷ s) d h k
        ∙ open_block n hn deep rest y s (λ vs. k (d, vs))

    -- the closing brace of a block, on a line of its own
    pub close_block : (n : ℕ) → n ≤ 256 → b + 1 ≤ 66 → (d : ℕ) (rest : List ℕ) → (y : Symbol Nonterminal Class) (s : Row grammar) (k : Values grammar (y ∷ s) → ProgramTree)
        → reading (line d (codes "}") ++ rest) (at src i (b + 1) n l) (Fixed (Word m.BraceClose) ∷ y ∷ s) k ≡ reading rest (at src i b n l) (y ∷ s) k
    close_block n hn deep d rest y s k =
        let row = Fixed (Word m.BraceClose) ∷ y ∷ s in
        begin_line d (codes "}" ++ newline) rest (at src i (b + 1) n l) row k
        ∙ pass y s m.BraceClose (125 ∷ []) (10 ∷ rest) (at src i (b + 1) n l) k (brace_end_lexes (10 ∷ rest)) (within i (b + 1 - 1) n l hi (omega arith) hn hl)
        ∙ ap (λ z. reading (10 ∷ rest) (at src i z n l) (y ∷ s) k) (let e : b + 1 - 1 ≡ b = omega arith in e)
        ∙ skip_line rest (at src i b n l) (y ∷ s) k

  -- keys behind another one
  keys_stop : (xs : List Buf) (rest : List ℕ) → Stops rest → Stops (flat_map (λ x. codes ", " ++ buf_text x) xs ++ rest)
  keys_stop [] rest stop = stop
  keys_stop (x ∷ xs) rest stop = refl

  pub more_keys : (i b n l : ℕ) → i ≤ 65536 → b ≤ 66 → n ≤ 256 → (xs : List Buf) → NamedBufs xs → l + length xs ≤ 4096 → (rest : List ℕ) → Stops rest → Lacking MoreKeys rest → (y : Symbol Nonterminal Class) (s : Row grammar) (k : Values grammar (Part MoreKeys ∷ y ∷ s) → ProgramTree)
      → reading (flat_map (λ x. codes ", " ++ buf_text x) xs ++ rest) (at src i b n l) (Part MoreKeys ∷ y ∷ s) k ≡ reading rest (at src i b n (l + length xs)) (y ∷ s) (λ vs. k (xs, vs))
  more_keys i b n l hi hb hn [] named few rest stop lacks y s k =
      skip MoreKeys [] rest (at src i b n l) (y ∷ s) k refl lacks ∙ ap (λ z. reading rest (at src i b n z) (y ∷ s) (λ vs. k ([], vs))) (let e : l ≡ l + 0 = omega arith in e)
  more_keys i b n l hi hb hn (x ∷ xs) named few rest stop lacks y s k =
      let tail = flat_map (λ x. codes ", " ++ buf_text x) xs in
      let row = Part Key ∷ Part MoreKeys ∷ y ∷ s in
      let some : l + suc (length xs) ≤ 4096 = few in
      choose y s MoreKeys (lexeme.Fixed m.Comma) (44 ∷ []) (32 ∷ ((buf_text x ++ tail) ++ rest)) (at src i b n l) k _ refl (comma_lexes (32 ∷ ((buf_text x ++ tail) ++ rest))) (within i b n l hi hb hn (omega arith)) refl
      ∙ skip_space ((buf_text x ++ tail) ++ rest) (at src i b n l) row (λ vs. k (vs.0 ∷ vs.1.0, vs.1.1))
      ∙ regroup (buf_text x) tail rest (at src i b n l) row (λ vs. k (vs.0 ∷ vs.1.0, vs.1.1))
      ∙ key i b l hi hb (omega arith) n hn (omega arith) x named.0 (tail ++ rest) (keys_stop xs rest stop) (Part MoreKeys) (y ∷ s) (λ vs. k (vs.0 ∷ vs.1.0, vs.1.1))
      ∙ more_keys i b n (l + 1) hi hb hn xs named.1 (omega arith) rest stop lacks y s (λ vs. k (x ∷ vs.0, vs.1))
      ∙ ap (λ z. reading rest (at src i b n z) (y ∷ s) (λ vs. k (x ∷ xs, vs))) (let e : l + 1 + length xs ≡ l + suc (length xs) = omega arith in e)
