-- The text of a program is read as the program.
use Rattle.std.proofs.Common.{◌≡◌, ◌<◌, ◌≤◌, ℕ, zero, suc, ◌+◌, ◌^◌, List, [], ◌∷◌, ◌++◌, codes, length, None, refl, sym, ap, ◌∙◌, arith, append_assoc, lit≤, subst}
use Rattle.std.specs.Fmt.{decimal}
use Rattle.std.specs.List.{flat_map}
use Rattle.us_tokens.specs.Text.{Text, Then}
use Rattle.us_tokens.specs.Lex.{Between, lexed}
use Rattle.us_grammar.specs.Grammar.{Symbol, Fixed, Part, Row, Values}
use Rattle.us_grammar.specs.Reading.{Answer, Read, answer, scan, passed}
use Rattle.us_grammar.proofs.Steps.{goes, passes}
use Rattle.us_code.specs.declared.program.CellKind.{CellKind}
use Rattle.us_code.specs.declared.program.CellKind.TheVariants as cell
use Rattle.us_code.specs.declared.program.Make.{Make}
use Rattle.us_code.specs.Names.{count}
use Rattle.us_code.specs.Plain.{ProgramTree, LineTree, Of, Product, Successor, PhaseTree}
use Rattle.us_code.specs.Limits.{nodes, FitsDim, FitsTerms, FitsMakes, FitsLine, FitsLines, FitsPhases, depth, items}
use Rattle.us_code_table.specs.declared.mark.Mark.TheVariants as m
use Rattle.us_code_table.specs.declared.lexeme.Lexeme.{Lexeme}
use Rattle.us_code_table.specs.declared.lexeme.Lexeme.TheVariants as lexeme
use Rattle.us_code_table.specs.Table.{Nonterminal, Class, Word, AOne, Whole, Phases, Gives, MoreGives, GiveName, Makes, Kind, NewBuffer, DimLines, LineTail, Behind, DimName, DimOrNumber, Sum, SumTail, ProductTail, Stmts, BlockPart, Else, MoreKeys, grammar}
use Rattle.us_code_table.specs.Table as table
use Rattle.us_code_table.specs.Words.{language, token}
use Rattle.us_code_table.specs.Limits.{Break, Count, limits, measure, nothing}
use Rattle.us_code_print.specs.Canon.{new_text, dim_name_text, dim_text, term_text, newline, opened, line, block_lines, closed_lines, kind_text, length_text, make_line, defined_text, dim_line, do_lines, phase_lines, give_line}
use Rattle.us_code_print.specs.ReadBack.{Named, NamedMakes, NamedLine, NamedLines, NamedPhases, NamedNumbers, ReadBackLaw, CanonLaw}
use Rattle.us_code_print.proofs.Lexed.{Lexes, Stops, buffer_lexes, number_lexes, word_lexes, bracket_lexes, bracket_end_lexes, brace_lexes, brace_end_lexes, comma_lexes, plus_lexes, star_lexes, equal_lexes, space, line_end}
use Rattle.us_code_print.proofs.Front.{reading, below, takes, fits, choose, pass, skip_space, regroup, Lacking, lacking, skip}
use Rattle.us_code_print.proofs.ReadTerms.{reads_dim, reads_dim_name}
use Rattle.us_code_print.proofs.ReadLines.{Follows, at, within, skip_line, ends_at_line, expr, open_block}
use Rattle.us_code_print.proofs.ReadBlocks.{Reached, from, recount, closes, reads_block}

-- New buffers

abbrev FitsCell : CellKind → Type 0
FitsCell cell.Word = Unit {0}
FitsCell (cell.Below d) = FitsDim d

pub skip_margin : (rest : List ℕ) (c : Count) (s : Row grammar) (k : Values grammar s → ProgramTree) → reading (32 ∷ 32 ∷ 32 ∷ 32 ∷ rest) c s k ≡ reading rest c s k
skip_margin rest c s k = skip_space (32 ∷ 32 ∷ 32 ∷ rest) c s k ∙ skip_space (32 ∷ 32 ∷ rest) c s k ∙ skip_space (32 ∷ rest) c s k ∙ skip_space rest c s k

-- a dim line, the block of a phase and its last brace, as what follows
at_dim : (z : List ℕ) → Follows (codes "    dim " ++ z)
at_dim z =
    let e = space (32 ∷ 32 ∷ 32 ∷ (codes "dim " ++ z)) ∙ space (32 ∷ 32 ∷ (codes "dim " ++ z)) ∙ space (32 ∷ (codes "dim " ++ z)) ∙ space (codes "dim " ++ z) ∙ word_lexes (codes "dim") m.Dim (32 ∷ z) record { first = refl; all = refl } refl refl in
    record { product = lacking ProductTail _ _ e refl; sum = lacking SumTail _ _ e refl; other = lacking Else _ _ e refl; keys = lacking MoreKeys _ _ e refl }

do_lacks : (z : List ℕ) (body : List ℕ) → Lacking Makes ((line 2 (codes "do {") ++ body) ++ z)
do_lacks z body =
    let tail = 10 ∷ (body ++ z) in
    lacking Makes _ _ (space (32 ∷ 32 ∷ 32 ∷ (codes "do {" ++ tail)) ∙ space (32 ∷ 32 ∷ (codes "do {" ++ tail)) ∙ space (32 ∷ (codes "do {" ++ tail)) ∙ space (codes "do {" ++ tail) ∙ word_lexes (codes "do") m.Do (codes " {" ++ tail) record { first = refl; all = refl } refl refl) refl

brace_lexed : (rest : List ℕ) → lexed language (line 1 (codes "}") ++ rest) Between ≡ Then (lexeme.Fixed m.BraceClose) (125 ∷ []) (length (10 ∷ rest)) (lexed language (10 ∷ rest) Between)
brace_lexed rest = space (32 ∷ 125 ∷ 10 ∷ rest) ∙ space (125 ∷ 10 ∷ rest) ∙ brace_end_lexes (10 ∷ rest)

brace_follows : (rest : List ℕ) → Follows (line 1 (codes "}") ++ rest)
brace_follows rest = let e = brace_lexed rest in record { product = lacking ProductTail _ _ e refl; sum = lacking SumTail _ _ e refl; other = lacking Else _ _ e refl; keys = lacking MoreKeys _ _ e refl }

brace_lacks : (rest : List ℕ) → Lacking DimLines (line 1 (codes "}") ++ rest)
brace_lacks rest = lacking DimLines _ _ (brace_lexed rest) refl

module _ (src : ℕ) (small : src ≤ 4096) where
  reads_kind : (i b n l : ℕ) → i ≤ 65536 → b ≤ 66 → n ≤ 256 → l ≤ 4096 → (x : CellKind) → FitsCell x → (rest : List ℕ) (y : Symbol Nonterminal Class) (s : Row grammar) (k : Values grammar (Part Kind ∷ y ∷ s) → ProgramTree)
      → reading (kind_text x ++ rest) (at src i b n l) (Part Kind ∷ y ∷ s) k ≡ reading rest (at src i b n l) (y ∷ s) (λ vs. k (x, vs))
  reads_kind i b n l hi hb hn hl cell.Word f rest y s k =
      let c = at src i b n l in
      skip_space (codes "word" ++ (10 ∷ rest)) c (Part Kind ∷ y ∷ s) k
      ∙ choose y s Kind (lexeme.Fixed m.Word) (codes "word") (10 ∷ rest) c k _ refl (word_lexes (codes "word") m.Word (10 ∷ rest) record { first = refl; all = refl } refl refl) (within src small i b n l hi hb hn hl) refl
      ∙ skip_line rest c (y ∷ s) _
  reads_kind i b n l hi hb hn hl (cell.Below d) f rest y s k =
      let c = at src i b n l in
      let w = within src small i b n l hi hb hn hl in
      let tail = (dim_text d ++ newline) ++ rest in
      skip_space (codes "below " ++ tail) c (Part Kind ∷ y ∷ s) k
      ∙ choose y s Kind (lexeme.Fixed m.Below) (codes "below") (32 ∷ tail) c k _ refl (word_lexes (codes "below") m.Below (32 ∷ tail) record { first = refl; all = refl } refl refl) w refl
      ∙ skip_space tail c (Part DimOrNumber ∷ y ∷ s) _
      ∙ regroup (dim_text d) newline rest c (Part DimOrNumber ∷ y ∷ s) _
      ∙ reads_dim (10 ∷ rest) c w refl y s d f _
      ∙ skip_line rest c (y ∷ s) _

  reads_make : (i b n l : ℕ) → i + 1 ≤ 65536 → b ≤ 66 → n ≤ 256 → l ≤ 4096 → (x : Make) → x.buf < 2 ^ 32 → FitsDim x.len → FitsCell x.cell → (rest : List ℕ) (y : Symbol Nonterminal Class) (s : Row grammar) (k : Values grammar (Part Makes ∷ y ∷ s) → ProgramTree)
      → reading (make_line x ++ rest) (at src i b n l) (Part Makes ∷ y ∷ s) k ≡ reading rest (at src (i + 1) b 0 l) (Part Makes ∷ y ∷ s) (λ vs. k (x ∷ vs.0, vs.1))
  reads_make i b n l hi hb hn hl x hx hd hc rest y s k =
      let kind = kind_text x.cell in
      let len = length_text x.len in
      let tail = (new_text x.buf ++ (len ++ kind)) ++ rest in
      let c = at src (i + 1) b n l in
      let w = within src small (i + 1) b n l hi hb hn hl in
      let c2 = at src (i + 1) b 0 l in
      let w2 = within src small (i + 1) b 0 l hi hb (lit≤ tt) hl in
      let brackets = (dim_text x.len ++ codes "]") ++ (kind ++ rest) in
      let after = Fixed (Word m.BracketClose) ∷ Part Kind ∷ Part Makes ∷ y ∷ s in
      skip_margin (codes "new " ++ tail) (at src i b n l) (Part Makes ∷ y ∷ s) k
      ∙ choose y s Makes (lexeme.Fixed m.New) (codes "new") (32 ∷ tail) (at src i b n l) k _ refl (word_lexes (codes "new") m.New (32 ∷ tail) record { first = refl; all = refl } refl refl) w refl
      ∙ skip_space tail c (Part NewBuffer ∷ Fixed (Word m.BracketOpen) ∷ Part DimOrNumber ∷ after) _
      ∙ regroup (new_text x.buf) (len ++ kind) rest c (Part NewBuffer ∷ Fixed (Word m.BracketOpen) ∷ Part DimOrNumber ∷ after) _
      ∙ choose (Fixed (Word m.BracketOpen)) (Part DimOrNumber ∷ after) NewBuffer (lexeme.Buffer x.buf) (new_text x.buf) ((len ++ kind) ++ rest) c _ _ refl (buffer_lexes x.buf ((len ++ kind) ++ rest) hx refl) w (below x.buf 4294967296 hx)
      ∙ regroup len kind rest c (Fixed (Word m.BracketOpen) ∷ Part DimOrNumber ∷ after) _
      ∙ pass (Part DimOrNumber) after m.BracketOpen (91 ∷ []) brackets c _ (bracket_lexes brackets) w2
      ∙ regroup (dim_text x.len) (93 ∷ []) (kind ++ rest) c2 (Part DimOrNumber ∷ after) _
      ∙ reads_dim (93 ∷ (kind ++ rest)) c2 w2 refl (Fixed (Word m.BracketClose)) (Part Kind ∷ Part Makes ∷ y ∷ s) x.len hd _
      ∙ pass (Part Kind) (Part Makes ∷ y ∷ s) m.BracketClose (93 ∷ []) (kind ++ rest) c2 _ (bracket_end_lexes (kind ++ rest)) w2
      ∙ reads_kind (i + 1) b 0 l hi hb (lit≤ tt) hl x.cell hc rest (Part Makes) (y ∷ s) _

  reads_makes : (xs : List Make) → NamedMakes xs → FitsMakes xs → (i b n l : ℕ) → i + length xs ≤ 65536 → b ≤ 66 → n ≤ 256 → l ≤ 4096 → (rest : List ℕ) → Lacking Makes rest → (y : Symbol Nonterminal Class) (s : Row grammar) (k : Values grammar (Part Makes ∷ y ∷ s) → ProgramTree)
      → Reached src (flat_map make_line xs ++ rest) (at src i b n l) (Part Makes ∷ y ∷ s) k (i + length xs) b rest (y ∷ s) (λ vs. k (xs, vs))
  reads_makes [] h g i b n l hi hb hn hl rest over y s k = record {
    nodes = n;
    names = l;
    few = hn;
    short = hl;
    is = skip Makes [] rest (at src i b n l) (y ∷ s) k refl over ∙ ap (λ z. reading rest (at src z b n l) (y ∷ s) (λ vs. k ([], vs))) (let e : i ≡ i + 0 = omega arith in e);
  }
  reads_makes (x ∷ xs) h g i b n l hi hb hn hl rest over y s k =
      let some : i + suc (length xs) ≤ 65536 = hi in
      let lines = flat_map make_line xs in
      let all = (make_line x ++ lines) ++ rest in
      recount src (i + suc (length xs)) b rest (y ∷ s) (λ vs. k (x ∷ xs, vs)) (i + 1 + length xs) (omega arith) all (at src i b n l) (Part Makes ∷ y ∷ s) k
      (from src (i + 1 + length xs) b rest (y ∷ s) (λ vs. k (x ∷ xs, vs)) all (at src i b n l) (Part Makes ∷ y ∷ s) k (lines ++ rest) (at src (i + 1) b 0 l) (Part Makes ∷ y ∷ s) (λ vs. k (x ∷ vs.0, vs.1))
      (regroup (make_line x) lines rest (at src i b n l) (Part Makes ∷ y ∷ s) k ∙ reads_make i b n l (omega arith) hb hn hl x h.0 g.0 g.1 (lines ++ rest) y s k)
      (reads_makes xs h.1 g.2 (i + 1) b 0 l (omega arith) hb (lit≤ tt) hl rest over y s (λ vs. k (x ∷ vs.0, vs.1))))

  -- Dim lines

  one_lexes : (rest : List ℕ) → Lexes (lexeme.Number 1) (49 ∷ []) (10 ∷ rest)
  unfolding lexed
  one_lexes rest = refl

  reads_dim_line : (i b n l : ℕ) → i + 1 ≤ 65536 → b ≤ 66 → n ≤ 256 → l ≤ 4096 → (x : LineTree) → NamedLine x → FitsLine x → (rest : List ℕ) → Follows rest → (y : Symbol Nonterminal Class) (s : Row grammar) (k : Values grammar (Part DimLines ∷ y ∷ s) → ProgramTree)
      → Reached src (dim_line x ++ rest) (at src i b n l) (Part DimLines ∷ y ∷ s) k (i + 1) b rest (Part DimLines ∷ y ∷ s) (λ vs. k (x ∷ vs.0, vs.1))
  reads_dim_line i b n l hi hb hn hl (Of d e) h g rest follows y s k =
      let value = codes " of " ++ (term_text e ++ newline) in
      let tail = (dim_name_text d ++ value) ++ rest in
      let c = at src (i + 1) b n l in
      let w = within src small (i + 1) b n l hi hb hn hl in
      let few : nodes e ≤ 256 = g.1 in
      let more = (term_text e ++ newline) ++ rest in
      let row = Part DimName ∷ Part LineTail ∷ Part DimLines ∷ y ∷ s in
      record {
        nodes = nodes e;
        names = l;
        few = few;
        short = hl;
        is = skip_margin (codes "dim " ++ ((dim_name_text d ++ value) ++ rest)) (at src i b n l) (Part DimLines ∷ y ∷ s) k
            ∙ choose y s DimLines (lexeme.Fixed m.Dim) (codes "dim") (32 ∷ tail) (at src i b n l) k _ refl (word_lexes (codes "dim") m.Dim (32 ∷ tail) record { first = refl; all = refl } refl refl) w refl
            ∙ skip_space tail c row _
            ∙ regroup (dim_name_text d) value rest c row _
            ∙ reads_dim_name (value ++ rest) c w refl (Part LineTail) (Part DimLines ∷ y ∷ s) d h.0 _
            ∙ skip_space (codes "of " ++ more) c (Part LineTail ∷ Part DimLines ∷ y ∷ s) _
            ∙ choose (Part DimLines) (y ∷ s) LineTail (lexeme.Fixed m.Of) (codes "of") (32 ∷ more) c _ _ refl (word_lexes (codes "of") m.Of (32 ∷ more) record { first = refl; all = refl } refl refl) (within src small (i + 1) b 0 l hi hb (lit≤ tt) hl) refl
            ∙ skip_space more (at src (i + 1) b 0 l) (Part Sum ∷ Part DimLines ∷ y ∷ s) _
            ∙ regroup (term_text e) newline rest (at src (i + 1) b 0 l) (Part Sum ∷ Part DimLines ∷ y ∷ s) _
            ∙ expr src small (i + 1) b l hi hb hl e h.1 g (10 ∷ rest) (ends_at_line rest follows) (Part DimLines) (y ∷ s) _
            ∙ skip_line rest (at src (i + 1) b (nodes e) l) (Part DimLines ∷ y ∷ s) _;
      }
  reads_dim_line i b n l hi hb hn hl (Product d x z) h g rest follows y s k =
      let times = codes " * " ++ (dim_text z ++ newline) in
      let value = defined_text x ++ times in
      let tail = (dim_name_text d ++ value) ++ rest in
      let c = at src (i + 1) b n l in
      let w = within src small (i + 1) b n l hi hb hn hl in
      let c2 = at src (i + 1) b 0 l in
      let w2 = within src small (i + 1) b 0 l hi hb (lit≤ tt) hl in
      let more = (dim_text x ++ times) ++ rest in
      let last = (dim_text z ++ newline) ++ rest in
      let row = Part DimName ∷ Part LineTail ∷ Part DimLines ∷ y ∷ s in
      record {
        nodes = 0;
        names = l;
        few = lit≤ tt;
        short = hl;
        is = skip_margin (codes "dim " ++ ((dim_name_text d ++ value) ++ rest)) (at src i b n l) (Part DimLines ∷ y ∷ s) k
            ∙ choose y s DimLines (lexeme.Fixed m.Dim) (codes "dim") (32 ∷ tail) (at src i b n l) k _ refl (word_lexes (codes "dim") m.Dim (32 ∷ tail) record { first = refl; all = refl } refl refl) w refl
            ∙ skip_space tail c row _
            ∙ regroup (dim_name_text d) value rest c row _
            ∙ reads_dim_name (value ++ rest) c w refl (Part LineTail) (Part DimLines ∷ y ∷ s) d h _
            ∙ skip_space (61 ∷ 32 ∷ more) c (Part LineTail ∷ Part DimLines ∷ y ∷ s) _
            ∙ choose (Part DimLines) (y ∷ s) LineTail (lexeme.Fixed m.Equal) (61 ∷ []) (32 ∷ more) c _ _ refl (equal_lexes more) w2 refl
            ∙ skip_space more c2 (Part DimOrNumber ∷ Part Behind ∷ Part DimLines ∷ y ∷ s) _
            ∙ regroup (dim_text x) times rest c2 (Part DimOrNumber ∷ Part Behind ∷ Part DimLines ∷ y ∷ s) _
            ∙ reads_dim (times ++ rest) c2 w2 refl (Part Behind) (Part DimLines ∷ y ∷ s) x g.0 _
            ∙ skip_space (42 ∷ 32 ∷ last) c2 (Part Behind ∷ Part DimLines ∷ y ∷ s) _
            ∙ choose (Part DimLines) (y ∷ s) Behind (lexeme.Fixed m.Star) (42 ∷ []) (32 ∷ last) c2 _ _ refl (star_lexes last) w2 refl
            ∙ skip_space last c2 (Part DimOrNumber ∷ Part DimLines ∷ y ∷ s) _
            ∙ regroup (dim_text z) newline rest c2 (Part DimOrNumber ∷ Part DimLines ∷ y ∷ s) _
            ∙ reads_dim (10 ∷ rest) c2 w2 refl (Part DimLines) (y ∷ s) z g.1 _
            ∙ skip_line rest c2 (Part DimLines ∷ y ∷ s) _;
      }
  reads_dim_line i b n l hi hb hn hl (Successor d x) h g rest follows y s k =
      let plus = codes " + 1" ++ newline in
      let value = defined_text x ++ plus in
      let tail = (dim_name_text d ++ value) ++ rest in
      let c = at src (i + 1) b n l in
      let w = within src small (i + 1) b n l hi hb hn hl in
      let c2 = at src (i + 1) b 0 l in
      let w2 = within src small (i + 1) b 0 l hi hb (lit≤ tt) hl in
      let more = (dim_text x ++ plus) ++ rest in
      let last = 49 ∷ 10 ∷ rest in
      let row = Part DimName ∷ Part LineTail ∷ Part DimLines ∷ y ∷ s in
      record {
        nodes = 0;
        names = l;
        few = lit≤ tt;
        short = hl;
        is = skip_margin (codes "dim " ++ ((dim_name_text d ++ value) ++ rest)) (at src i b n l) (Part DimLines ∷ y ∷ s) k
            ∙ choose y s DimLines (lexeme.Fixed m.Dim) (codes "dim") (32 ∷ tail) (at src i b n l) k _ refl (word_lexes (codes "dim") m.Dim (32 ∷ tail) record { first = refl; all = refl } refl refl) w refl
            ∙ skip_space tail c row _
            ∙ regroup (dim_name_text d) value rest c row _
            ∙ reads_dim_name (value ++ rest) c w refl (Part LineTail) (Part DimLines ∷ y ∷ s) d h _
            ∙ skip_space (61 ∷ 32 ∷ more) c (Part LineTail ∷ Part DimLines ∷ y ∷ s) _
            ∙ choose (Part DimLines) (y ∷ s) LineTail (lexeme.Fixed m.Equal) (61 ∷ []) (32 ∷ more) c _ _ refl (equal_lexes more) w2 refl
            ∙ skip_space more c2 (Part DimOrNumber ∷ Part Behind ∷ Part DimLines ∷ y ∷ s) _
            ∙ regroup (dim_text x) plus rest c2 (Part DimOrNumber ∷ Part Behind ∷ Part DimLines ∷ y ∷ s) _
            ∙ reads_dim (plus ++ rest) c2 w2 refl (Part Behind) (Part DimLines ∷ y ∷ s) x g _
            ∙ skip_space (43 ∷ 32 ∷ last) c2 (Part Behind ∷ Part DimLines ∷ y ∷ s) _
            ∙ choose (Part DimLines) (y ∷ s) Behind (lexeme.Fixed m.Plus) (43 ∷ []) (32 ∷ last) c2 _ _ refl (plus_lexes last) w2 refl
            ∙ skip_space last c2 (Fixed AOne ∷ Part DimLines ∷ y ∷ s) _
            ∙ passes grammar limits ProgramTree AOne (token (lexeme.Number 1)) (lexed language (49 ∷ 10 ∷ rest) Between) c2 (lexed language (10 ∷ rest) Between) c2 (Part DimLines) (y ∷ s) _ refl (takes None (lexeme.Number 1) (49 ∷ []) (10 ∷ rest) c2 (one_lexes rest) w2 refl)
            ∙ skip_line rest c2 (Part DimLines ∷ y ∷ s) _;
      }

  follows_dim_line : (x : LineTree) (rest : List ℕ) → Follows (dim_line x ++ rest)
  follows_dim_line (Of d e) rest = at_dim ((dim_name_text d ++ (codes " of " ++ (term_text e ++ newline))) ++ rest)
  follows_dim_line (Product d x z) rest = at_dim ((dim_name_text d ++ (defined_text x ++ (codes " * " ++ (dim_text z ++ newline)))) ++ rest)
  follows_dim_line (Successor d x) rest = at_dim ((dim_name_text d ++ (defined_text x ++ (codes " + 1" ++ newline))) ++ rest)

  follows_dim_lines : (xs : List LineTree) (rest : List ℕ) → Follows rest → Follows (flat_map dim_line xs ++ rest)
  follows_dim_lines [] rest f = f
  follows_dim_lines (x ∷ xs) rest f = subst (λ (w : List ℕ). Follows w) (sym (append_assoc (dim_line x) (flat_map dim_line xs) rest)) (follows_dim_line x (flat_map dim_line xs ++ rest))

  reads_dim_lines : (xs : List LineTree) → NamedLines xs → FitsLines xs → (i b n l : ℕ) → i + length xs ≤ 65536 → b ≤ 66 → n ≤ 256 → l ≤ 4096 → (rest : List ℕ) → Follows rest → Lacking DimLines rest → (y : Symbol Nonterminal Class) (s : Row grammar) (k : Values grammar (Part DimLines ∷ y ∷ s) → ProgramTree)
      → Reached src (flat_map dim_line xs ++ rest) (at src i b n l) (Part DimLines ∷ y ∷ s) k (i + length xs) b rest (y ∷ s) (λ vs. k (xs, vs))
  reads_dim_lines [] h g i b n l hi hb hn hl rest f over y s k = record {
    nodes = n;
    names = l;
    few = hn;
    short = hl;
    is = skip DimLines [] rest (at src i b n l) (y ∷ s) k refl over ∙ ap (λ z. reading rest (at src z b n l) (y ∷ s) (λ vs. k ([], vs))) (let e : i ≡ i + 0 = omega arith in e);
  }
  reads_dim_lines (x ∷ xs) h g i b n l hi hb hn hl rest f over y s k =
      let some : i + suc (length xs) ≤ 65536 = hi in
      let lines = flat_map dim_line xs in
      let all = (dim_line x ++ lines) ++ rest in
      let p = reads_dim_line i b n l (omega arith) hb hn hl x h.0 g.0 (lines ++ rest) (follows_dim_lines xs rest f) y s k in
      let q = reads_dim_lines xs h.1 g.1 (i + 1) b p.nodes p.names (omega arith) hb p.few p.short rest f over y s (λ vs. k (x ∷ vs.0, vs.1)) in
      recount src (i + suc (length xs)) b rest (y ∷ s) (λ vs. k (x ∷ xs, vs)) (i + 1 + length xs) (omega arith) all (at src i b n l) (Part DimLines ∷ y ∷ s) k
      (from src (i + 1 + length xs) b rest (y ∷ s) (λ vs. k (x ∷ xs, vs)) all (at src i b n l) (Part DimLines ∷ y ∷ s) k (lines ++ rest) (at src (i + 1) b p.nodes p.names) (Part DimLines ∷ y ∷ s) (λ vs. k (x ∷ vs.0, vs.1))
      (regroup (dim_line x) lines rest (at src i b n l) (Part DimLines ∷ y ∷ s) k ∙ p.is) q)

  -- Phases

  opens_do : (i n l : ℕ) → i ≤ 65536 → n ≤ 256 → l ≤ 4096 → (block rest : List ℕ) (y : Symbol Nonterminal Class) (s : Row grammar) (k : Values grammar (Fixed (Word m.Do) ∷ Part BlockPart ∷ y ∷ s) → ProgramTree)
      → reading ((line 2 (codes "do {") ++ block) ++ rest) (at src i 2 n l) (Fixed (Word m.Do) ∷ Part BlockPart ∷ y ∷ s) k ≡ reading (block ++ rest) (at src i 3 n l) (Part Stmts ∷ Fixed (Word m.BraceClose) ∷ y ∷ s) (λ vs. k (vs.0, vs.1))
  opens_do i n l hi hn hl block rest y s k =
      let tail = block ++ rest in
      let row = Fixed (Word m.Do) ∷ Part BlockPart ∷ y ∷ s in
      let c = at src i 2 n l in
      skip_margin (codes "do {" ++ (10 ∷ tail)) c row k
      ∙ pass (Part BlockPart) (y ∷ s) m.Do (codes "do") (codes " {" ++ (10 ∷ tail)) c k (word_lexes (codes "do") m.Do (codes " {" ++ (10 ∷ tail)) record { first = refl; all = refl } refl refl) (within src small i 2 n l hi (lit≤ tt) hn hl)
      ∙ open_block src small i 2 l hi (lit≤ tt) hl n hn (lit≤ tt) tail y s k

  reads_phase : (p : PhaseTree) → NamedMakes p.makes → Named p.body → NamedLines p.lines → FitsMakes p.makes → FitsTerms p.body → depth p.body ≤ 64 → FitsLines p.lines → (i n l : ℕ) → i + (length p.makes + count p.body + length p.lines) ≤ 65536 → n ≤ 256 → l ≤ 4096
      → (rest : List ℕ) (y : Symbol Nonterminal Class) (s : Row grammar) (k : Values grammar (Part Phases ∷ y ∷ s) → ProgramTree)
      → Reached src (phase_lines p ++ rest) (at src i 1 n l) (Part Phases ∷ y ∷ s) k (i + (length p.makes + count p.body + length p.lines)) 1 rest (Part Phases ∷ y ∷ s) (λ vs. k (p ∷ vs.0, vs.1))
  reads_phase p named_makes named named_lines fits_makes fits_terms deep fits_lines i n l hi hn hl rest y s k =
      let makes = flat_map make_line p.makes in
      let lines = flat_map dim_line p.lines in
      let block = closed_lines 2 (block_lines 3 p.body) in
      let last = line 1 (codes "}") in
      let after_block = lines ++ (last ++ rest) in
      let after_makes = do_lines p.body ++ after_block in
      let tail = (makes ++ (do_lines p.body ++ (lines ++ last))) ++ rest in
      let c = at src i 2 n l in
      let row = Part Makes ∷ Fixed (Word m.Do) ∷ Part BlockPart ∷ Part DimLines ∷ Fixed (Word m.BraceClose) ∷ Part Phases ∷ y ∷ s in
      let two : 2 ≤ 66 = lit≤ tt in
      let three : 3 ≤ 66 = lit≤ tt in
      let h1 : Values grammar row → ProgramTree = λ vs. k (record { makes = vs.0; body = vs.1.0; lines = vs.1.1.0 } ∷ vs.1.1.1.0, vs.1.1.1.1) in
      let a = reads_makes p.makes named_makes fits_makes i 2 n l (omega arith) two hn hl after_makes (do_lacks after_block block) (Fixed (Word m.Do)) (Part BlockPart ∷ Part DimLines ∷ Fixed (Word m.BraceClose) ∷ Part Phases ∷ y ∷ s) h1 in
      let h2 : Values grammar (Fixed (Word m.Do) ∷ Part BlockPart ∷ Part DimLines ∷ Fixed (Word m.BraceClose) ∷ Part Phases ∷ y ∷ s) → ProgramTree = λ vs. h1 (p.makes, vs) in
      let b = closes src small p.body (reads_block src small p.body named fits_terms) 2 (i + length p.makes) 2 a.nodes a.names (omega arith) (omega arith) a.few a.short after_block (Part DimLines) (Fixed (Word m.BraceClose) ∷ Part Phases ∷ y ∷ s) h2 in
      let h3 : Values grammar (Part DimLines ∷ Fixed (Word m.BraceClose) ∷ Part Phases ∷ y ∷ s) → ProgramTree = λ vs. h2 (p.body, vs) in
      let d = reads_dim_lines p.lines named_lines fits_lines (i + length p.makes + count p.body) 2 b.nodes b.names (omega arith) two b.few b.short (last ++ rest) (brace_follows rest) (brace_lacks rest) (Fixed (Word m.BraceClose)) (Part Phases ∷ y ∷ s) h3 in
      let h4 : Values grammar (Fixed (Word m.BraceClose) ∷ Part Phases ∷ y ∷ s) → ProgramTree = λ vs. h3 (p.lines, vs) in
      let one : 1 ≤ 66 = lit≤ tt in
      record {
        nodes = d.nodes;
        names = d.names;
        few = d.few;
        short = d.short;
        is = skip_space (32 ∷ (codes "phase {" ++ (10 ∷ tail))) (at src i 1 n l) (Part Phases ∷ y ∷ s) k
            ∙ skip_space (codes "phase {" ++ (10 ∷ tail)) (at src i 1 n l) (Part Phases ∷ y ∷ s) k
            ∙ choose y s Phases (lexeme.Fixed m.Phase) (codes "phase") (codes " {" ++ (10 ∷ tail)) (at src i 1 n l) k _ refl (word_lexes (codes "phase") m.Phase (codes " {" ++ (10 ∷ tail)) record { first = refl; all = refl } refl refl) (within src small i 1 n l (omega arith) one hn hl) refl
            ∙ skip_space (123 ∷ 10 ∷ tail) (at src i 1 n l) (Fixed (Word m.BraceOpen) ∷ row) h1
            ∙ pass (Part Makes) (Fixed (Word m.Do) ∷ Part BlockPart ∷ Part DimLines ∷ Fixed (Word m.BraceClose) ∷ Part Phases ∷ y ∷ s) m.BraceOpen (123 ∷ []) (10 ∷ tail) (at src i 1 n l) h1 (brace_lexes (10 ∷ tail)) (within src small i 2 n l (omega arith) two hn hl)
            ∙ skip_line tail c row h1
            ∙ regroup makes (do_lines p.body ++ (lines ++ last)) rest c row h1
            ∙ ap (λ z. reading (makes ++ z) c row h1) (append_assoc (do_lines p.body) (lines ++ last) rest ∙ ap (λ z. do_lines p.body ++ z) (append_assoc lines last rest))
            ∙ a.is
            ∙ opens_do (i + length p.makes) a.nodes a.names (omega arith) a.few a.short block after_block (Part DimLines) (Fixed (Word m.BraceClose) ∷ Part Phases ∷ y ∷ s) h2
            ∙ b.is
            ∙ d.is
            ∙ skip_space (32 ∷ 125 ∷ 10 ∷ rest) (at src (i + length p.makes + count p.body + length p.lines) 2 d.nodes d.names) (Fixed (Word m.BraceClose) ∷ Part Phases ∷ y ∷ s) h4
            ∙ skip_space (125 ∷ 10 ∷ rest) (at src (i + length p.makes + count p.body + length p.lines) 2 d.nodes d.names) (Fixed (Word m.BraceClose) ∷ Part Phases ∷ y ∷ s) h4
            ∙ pass (Part Phases) (y ∷ s) m.BraceClose (125 ∷ []) (10 ∷ rest) (at src (i + length p.makes + count p.body + length p.lines) 2 d.nodes d.names) h4 (brace_end_lexes (10 ∷ rest)) (within src small (i + length p.makes + count p.body + length p.lines) 1 d.nodes d.names (omega arith) one d.few d.short)
            ∙ skip_line rest (at src (i + length p.makes + count p.body + length p.lines) 1 d.nodes d.names) (Part Phases ∷ y ∷ s) h4
            ∙ ap (λ z. reading rest (at src z 1 d.nodes d.names) (Part Phases ∷ y ∷ s) h4) (let e : i + length p.makes + count p.body + length p.lines ≡ i + (length p.makes + count p.body + length p.lines) = omega arith in e);
      }

  reads_phases : (ps : List PhaseTree) → NamedPhases ps → FitsPhases ps → (i n l : ℕ) → i + items ps ≤ 65536 → n ≤ 256 → l ≤ 4096 → (rest : List ℕ) → Lacking Phases rest → (y : Symbol Nonterminal Class) (s : Row grammar) (k : Values grammar (Part Phases ∷ y ∷ s) → ProgramTree)
      → Reached src (flat_map phase_lines ps ++ rest) (at src i 1 n l) (Part Phases ∷ y ∷ s) k (i + items ps) 1 rest (y ∷ s) (λ vs. k (ps, vs))
  reads_phases [] h g i n l hi hn hl rest over y s k = record {
    nodes = n;
    names = l;
    few = hn;
    short = hl;
    is = skip Phases [] rest (at src i 1 n l) (y ∷ s) k refl over ∙ ap (λ z. reading rest (at src z 1 n l) (y ∷ s) (λ vs. k ([], vs))) (let e : i ≡ i + 0 = omega arith in e);
  }
  reads_phases (p ∷ ps) h g i n l hi hn hl rest over y s k =
      let own = length p.makes + count p.body + length p.lines in
      let some : i + (length p.makes + count p.body + length p.lines + items ps) ≤ 65536 = hi in
      let lines = flat_map phase_lines ps in
      let all = (phase_lines p ++ lines) ++ rest in
      let a = reads_phase p h.0 h.1 h.2 g.0 g.1 g.2 g.3 i n l (omega arith) hn hl (lines ++ rest) y s k in
      let b = reads_phases ps h.3 g.4 (i + own) a.nodes a.names (omega arith) a.few a.short rest over y s (λ vs. k (p ∷ vs.0, vs.1)) in
      recount src (i + (own + items ps)) 1 rest (y ∷ s) (λ vs. k (p ∷ ps, vs)) (i + own + items ps) (omega arith) all (at src i 1 n l) (Part Phases ∷ y ∷ s) k
      (from src (i + own + items ps) 1 rest (y ∷ s) (λ vs. k (p ∷ ps, vs)) all (at src i 1 n l) (Part Phases ∷ y ∷ s) k (lines ++ rest) (at src (i + own) 1 a.nodes a.names) (Part Phases ∷ y ∷ s) (λ vs. k (p ∷ vs.0, vs.1))
      (regroup (phase_lines p) lines rest (at src i 1 n l) (Part Phases ∷ y ∷ s) k ∙ a.is) b)

  -- What the program gives

  numbers_stop : (xs : List ℕ) (rest : List ℕ) → Stops rest → Stops (flat_map (λ b. codes ", " ++ new_text b) xs ++ rest)
  numbers_stop [] rest stop = stop
  numbers_stop (x ∷ xs) rest stop = refl

  more_gives : (i n l : ℕ) → i ≤ 65536 → n ≤ 256 → (xs : List ℕ) → NamedNumbers xs → l + length xs ≤ 4096 → (rest : List ℕ) → Stops rest → Lacking MoreGives rest → (y : Symbol Nonterminal Class) (s : Row grammar) (k : Values grammar (Part MoreGives ∷ y ∷ s) → ProgramTree)
      → reading (flat_map (λ b. codes ", " ++ new_text b) xs ++ rest) (at src i 1 n l) (Part MoreGives ∷ y ∷ s) k ≡ reading rest (at src i 1 n (l + length xs)) (y ∷ s) (λ vs. k (xs, vs))
  more_gives i n l hi hn [] named few rest stop lacks y s k =
      skip MoreGives [] rest (at src i 1 n l) (y ∷ s) k refl lacks ∙ ap (λ z. reading rest (at src i 1 n z) (y ∷ s) (λ vs. k ([], vs))) (let e : l ≡ l + 0 = omega arith in e)
  more_gives i n l hi hn (x ∷ xs) named few rest stop lacks y s k =
      let tail = flat_map (λ b. codes ", " ++ new_text b) xs in
      let row = Part GiveName ∷ Part MoreGives ∷ y ∷ s in
      let some : l + suc (length xs) ≤ 4096 = few in
      choose y s MoreGives (lexeme.Fixed m.Comma) (44 ∷ []) (32 ∷ ((new_text x ++ tail) ++ rest)) (at src i 1 n l) k _ refl (comma_lexes (32 ∷ ((new_text x ++ tail) ++ rest))) (within src small i 1 n l hi (lit≤ tt) hn (omega arith)) refl
      ∙ skip_space ((new_text x ++ tail) ++ rest) (at src i 1 n l) row (λ vs. k (vs.0 ∷ vs.1.0, vs.1.1))
      ∙ regroup (new_text x) tail rest (at src i 1 n l) row (λ vs. k (vs.0 ∷ vs.1.0, vs.1.1))
      ∙ choose (Part MoreGives) (y ∷ s) GiveName (lexeme.Buffer x) (new_text x) (tail ++ rest) (at src i 1 n l) (λ vs. k (vs.0 ∷ vs.1.0, vs.1.1)) _ refl (buffer_lexes x (tail ++ rest) named.0 (numbers_stop xs rest stop)) (within src small i 1 n (l + 1) hi (lit≤ tt) hn (omega arith)) (below x 4294967296 named.0)
      ∙ more_gives i n (l + 1) hi hn xs named.1 (omega arith) rest stop lacks y s (λ vs. k (x ∷ vs.0, vs.1))
      ∙ ap (λ z. reading rest (at src i 1 n z) (y ∷ s) (λ vs. k (x ∷ xs, vs))) (let e : l + 1 + length xs ≡ l + suc (length xs) = omega arith in e)

  reads_give : (xs : List ℕ) → NamedNumbers xs → length xs ≤ 4096 → (i n l : ℕ) → i ≤ 65536 → n ≤ 256 → l ≤ 4096 → (rest : List ℕ) (s : Row grammar) (k : Values grammar (Fixed (Word m.Give) ∷ Part Gives ∷ Fixed (Word m.BraceClose) ∷ s) → ProgramTree)
      → Reached src (give_line xs ++ (125 ∷ 10 ∷ rest)) (at src i 1 n l) (Fixed (Word m.Give) ∷ Part Gives ∷ Fixed (Word m.BraceClose) ∷ s) k i 1 (125 ∷ 10 ∷ rest) (Fixed (Word m.BraceClose) ∷ s) (λ vs. k (xs, vs))
  reads_give [] named short i n l hi hn hl rest s k =
      let c = at src i 1 n l in
      let end = 125 ∷ 10 ∷ rest in
      let row = Part Gives ∷ Fixed (Word m.BraceClose) ∷ s in
      record {
        nodes = n;
        names = 0;
        few = hn;
        short = lit≤ tt;
        is = skip_space (32 ∷ (codes "give" ++ (10 ∷ end))) c (Fixed (Word m.Give) ∷ row) k
            ∙ skip_space (codes "give" ++ (10 ∷ end)) c (Fixed (Word m.Give) ∷ row) k
            ∙ pass (Part Gives) (Fixed (Word m.BraceClose) ∷ s) m.Give (codes "give") (10 ∷ end) c k (word_lexes (codes "give") m.Give (10 ∷ end) record { first = refl; all = refl } refl refl) (within src small i 1 n 0 hi (lit≤ tt) hn (lit≤ tt))
            ∙ skip_line end (at src i 1 n 0) row k
            ∙ skip Gives [] end (at src i 1 n 0) (Fixed (Word m.BraceClose) ∷ s) k refl (lacking Gives end _ (brace_end_lexes (10 ∷ rest)) refl);
      }
  reads_give (x ∷ xs) named short i n l hi hn hl rest s k =
      let c = at src i 1 n l in
      let end = 125 ∷ 10 ∷ rest in
      let more = flat_map (λ b. codes ", " ++ new_text b) xs in
      let tail = ((new_text x ++ more) ++ newline) ++ end in
      let row = Part Gives ∷ Fixed (Word m.BraceClose) ∷ s in
      let some : suc (length xs) ≤ 4096 = short in
      record {
        nodes = n;
        names = 1 + length xs;
        few = hn;
        short = omega arith;
        is = skip_space (32 ∷ (codes "give " ++ tail)) c (Fixed (Word m.Give) ∷ row) k
            ∙ skip_space (codes "give " ++ tail) c (Fixed (Word m.Give) ∷ row) k
            ∙ pass (Part Gives) (Fixed (Word m.BraceClose) ∷ s) m.Give (codes "give") (32 ∷ tail) c k (word_lexes (codes "give") m.Give (32 ∷ tail) record { first = refl; all = refl } refl refl) (within src small i 1 n 0 hi (lit≤ tt) hn (lit≤ tt))
            ∙ skip_space tail (at src i 1 n 0) row k
            ∙ regroup (new_text x ++ more) newline end (at src i 1 n 0) row k
            ∙ regroup (new_text x) more (10 ∷ end) (at src i 1 n 0) row k
            ∙ choose (Fixed (Word m.BraceClose)) s Gives (lexeme.Buffer x) (new_text x) (more ++ (10 ∷ end)) (at src i 1 n 0) k _ refl (buffer_lexes x (more ++ (10 ∷ end)) named.0 (numbers_stop xs (10 ∷ end) refl)) (within src small i 1 n 1 hi (lit≤ tt) hn (lit≤ tt)) (below x 4294967296 named.0)
            ∙ more_gives i n 1 hi hn xs named.1 (omega arith) (10 ∷ end) refl (lacking MoreGives (10 ∷ end) _ (line_end end ∙ brace_end_lexes (10 ∷ rest)) refl) (Fixed (Word m.BraceClose)) s (λ vs. k (x ∷ vs.0, vs.1))
            ∙ skip_line end (at src i 1 n (1 + length xs)) (Fixed (Word m.BraceClose) ∷ s) (λ vs. k (x ∷ xs, vs));
      }

-- The whole text

reads_sources : (v : ℕ) → v ≤ 4096 → (rest : List ℕ) → Stops rest → (y : Symbol Nonterminal Class) (s : Row grammar) (k : Values grammar (Part table.Count ∷ y ∷ s) → ProgramTree)
    → reading (decimal v ++ rest) (at 0 0 0 0 0) (Part table.Count ∷ y ∷ s) k ≡ reading rest (at v 0 0 0 0) (y ∷ s) (λ vs. k (v, vs))
reads_sources zero h rest stop y s k = choose y s table.Count (lexeme.Number 0) (decimal 0) rest (at 0 0 0 0 0) k _ refl (number_lexes 0 rest (omega arith) stop) (within 0 h 0 0 0 0 (lit≤ tt) (lit≤ tt) (lit≤ tt) (lit≤ tt)) refl
reads_sources (suc zero) h rest stop y s k = choose y s table.Count (lexeme.Number 1) (decimal 1) rest (at 0 0 0 0 0) k _ refl (number_lexes 1 rest (omega arith) stop) (within 1 h 0 0 0 0 (lit≤ tt) (lit≤ tt) (lit≤ tt) (lit≤ tt)) refl
reads_sources (suc (suc v)) h rest stop y s k =
    let fits_number : suc (suc v) < 9223372036854775808 = omega arith in
    choose y s table.Count (lexeme.Number (suc (suc v))) (decimal (suc (suc v))) rest (at 0 0 0 0 0) k _ refl (number_lexes (suc (suc v)) rest fits_number stop) (within (suc (suc v)) h 0 0 0 0 (lit≤ tt) (lit≤ tt) (lit≤ tt) (lit≤ tt)) (below (suc (suc v)) 9223372036854775808 fits_number)

-- the last brace ends the reading
reads_last : (src : ℕ) → src ≤ 4096 → (i n l : ℕ) → i ≤ 65536 → n ≤ 256 → l ≤ 4096 → (rest : List ℕ) (k : Values grammar (Fixed (Word m.BraceClose) ∷ []) → ProgramTree)
    → reading (125 ∷ rest) (at src i 1 n l) (Fixed (Word m.BraceClose) ∷ []) k ≡ Read (k tt) (length rest) (lexed language rest Between)
reads_last src small i n l hi hn hl rest k =
    let c = at src i 1 n l in
    let t = token (lexeme.Fixed m.BraceClose) in
    let end : Answer Lexeme ProgramTree Break = Read (k tt) (length rest) (lexed language rest Between) in
    ap (λ z. scan grammar limits z c (Fixed (Word m.BraceClose) ∷ []) k) (brace_end_lexes rest)
    ∙ ap (λ o. passed grammar limits (1 + length rest) o end) (fits (measure c None t) t (within src small i 0 n l hi (lit≤ tt) hn hl) refl)

begins_phases : (xs : List ℕ) (rest : List ℕ) → Lacking Phases (give_line xs ++ rest)
begins_phases [] rest = lacking Phases _ _ (space (32 ∷ (codes "give" ++ (10 ∷ rest))) ∙ space (codes "give" ++ (10 ∷ rest)) ∙ word_lexes (codes "give") m.Give (10 ∷ rest) record { first = refl; all = refl } refl refl) refl
begins_phases (x ∷ xs) rest =
    let tail = ((new_text x ++ flat_map (λ b. codes ", " ++ new_text b) xs) ++ newline) ++ rest in
    lacking Phases _ _ (space (32 ∷ (codes "give " ++ tail)) ∙ space (codes "give " ++ tail) ∙ word_lexes (codes "give") m.Give (32 ∷ tail) record { first = refl; all = refl } refl refl) refl

pub read_back : ReadBackLaw
read_back p keeps named more =
    let src = p.sources in
    let small : src ≤ 4096 = keeps.sources in
    let few : items p.phases ≤ 65536 = keeps.items in
    let phases = flat_map phase_lines p.phases in
    let give = give_line p.give in
    let end = 125 ∷ 10 ∷ more in
    let behind = 32 ∷ ((((decimal src ++ opened) ++ (phases ++ give)) ++ (125 ∷ 10 ∷ [])) ++ more) in
    let row = Fixed (Word m.BraceOpen) ∷ Part Phases ∷ Fixed (Word m.Give) ∷ Part Gives ∷ Fixed (Word m.BraceClose) ∷ [] in
    let k : Values grammar (Part table.Count ∷ row) → ProgramTree = λ vs. record { sources = vs.0; phases = vs.1.0; give = vs.1.1.0 } in
    let zero_fits = within 0 (lit≤ tt) 0 0 0 0 (lit≤ tt) (lit≤ tt) (lit≤ tt) (lit≤ tt) in
    let h : Values grammar row → ProgramTree = λ vs. k (src, vs) in
    let a = reads_phases src small p.phases named.phases keeps.phases 0 0 0 (omega arith) (lit≤ tt) (lit≤ tt) (give ++ end) (begins_phases p.give end) (Fixed (Word m.Give)) (Part Gives ∷ Fixed (Word m.BraceClose) ∷ []) h in
    let h2 : Values grammar (Fixed (Word m.Give) ∷ Part Gives ∷ Fixed (Word m.BraceClose) ∷ []) → ProgramTree = λ vs. h (p.phases, vs) in
    let b = reads_give src small p.give named.give keeps.give (0 + items p.phases) a.nodes a.names (omega arith) a.few a.short more [] h2 in
    goes grammar limits ProgramTree (token (lexeme.Fixed m.Code)) (lexed language (codes "code" ++ behind) Between) nothing (lexed language behind Between) nothing (Part Whole ∷ []) (λ vs. vs.0) _
    (takes _ (lexeme.Fixed m.Code) (codes "code") behind nothing (word_lexes (codes "code") m.Code behind record { first = refl; all = refl } refl refl) zero_fits refl) refl (λ k b mo next. refl)
    ∙ skip_space ((((decimal src ++ opened) ++ (phases ++ give)) ++ (125 ∷ 10 ∷ [])) ++ more) (at 0 0 0 0 0) (Part table.Count ∷ row) k
    ∙ regroup ((decimal src ++ opened) ++ (phases ++ give)) (125 ∷ 10 ∷ []) more (at 0 0 0 0 0) (Part table.Count ∷ row) k
    ∙ regroup (decimal src ++ opened) (phases ++ give) end (at 0 0 0 0 0) (Part table.Count ∷ row) k
    ∙ regroup (decimal src) opened ((phases ++ give) ++ end) (at 0 0 0 0 0) (Part table.Count ∷ row) k
    ∙ reads_sources src small (opened ++ ((phases ++ give) ++ end)) refl (Fixed (Word m.BraceOpen)) (Part Phases ∷ Fixed (Word m.Give) ∷ Part Gives ∷ Fixed (Word m.BraceClose) ∷ []) k
    ∙ skip_space (123 ∷ 10 ∷ ((phases ++ give) ++ end)) (at src 0 0 0 0) row h
    ∙ pass (Part Phases) (Fixed (Word m.Give) ∷ Part Gives ∷ Fixed (Word m.BraceClose) ∷ []) m.BraceOpen (123 ∷ []) (10 ∷ ((phases ++ give) ++ end)) (at src 0 0 0 0) h (brace_lexes (10 ∷ ((phases ++ give) ++ end))) (within src small 0 1 0 0 (lit≤ tt) (lit≤ tt) (lit≤ tt) (lit≤ tt))
    ∙ skip_line ((phases ++ give) ++ end) (at src 0 1 0 0) (Part Phases ∷ Fixed (Word m.Give) ∷ Part Gives ∷ Fixed (Word m.BraceClose) ∷ []) h
    ∙ regroup phases give end (at src 0 1 0 0) (Part Phases ∷ Fixed (Word m.Give) ∷ Part Gives ∷ Fixed (Word m.BraceClose) ∷ []) h
    ∙ a.is
    ∙ b.is
    ∙ reads_last src small (0 + items p.phases) b.nodes b.names (omega arith) b.few b.short (10 ∷ more) (λ vs. h2 (p.give, vs))

read_is : (p q : ProgramTree) (n o : ℕ) (s t : Text Lexeme) → ◌≡◌ {A = Answer Lexeme ProgramTree Break} (Read p n s) (Read q o t) → p ≡ q
read_is p q n o s t e = cc

pub texts_differ : CanonLaw
texts_differ p q keeps_p named_p keeps_q named_q e =
    read_is p q 1 1 (lexed language (10 ∷ []) Between) (lexed language (10 ∷ []) Between)
    (sym (read_back p keeps_p named_p []) ∙ ap (λ x. answer grammar limits Whole (lexed language (x ++ []) Between)) e ∙ read_back q keeps_q named_q [])
