-- The grammar of loop code as a table.
use Rattle.std.specs.Prelude.{◌≡◌, ◌++◌, ℕ, List, [], ◌∷◌, Option, Some, None, Bool, true, false}
use denote.Enum.Bare.{sameb}
use Rattle.us_code_table.specs.declared.mark.Mark.{Mark}
use Rattle.us_code_table.specs.declared.mark.Mark.TheVariants as m
use Rattle.us_code_table.specs.declared.note.Note.{Note}
use Rattle.us_code_table.specs.declared.note.Note.TheVariants.{Free, SourceCount, ListName, Item, Node}
use Rattle.us_code_table.specs.contracts.mark.Mark.{the_type}
use Rattle.us_grammar.specs.Grammar.{Symbol, Fixed, Part, Args, Choice, Grammar, with_row}
use Rattle.us_code.specs.declared.program.Dim.{Dim}
use Rattle.us_code.specs.declared.program.Dim.TheVariants as dim
use Rattle.us_code.specs.declared.program.Buf.{Buf}
use Rattle.us_code.specs.declared.program.Buf.TheVariants as buf
use Rattle.us_code.specs.declared.program.CellKind.{CellKind}
use Rattle.us_code.specs.declared.program.CellKind.TheVariants as cell
use Rattle.us_code.specs.declared.program.Make.{Make}
use Rattle.us_code.specs.Plain as tree
use Rattle.us_code.specs.Plain.{TermTree, Code, LineTree, PhaseTree, ProgramTree}

-- the classes of tokens: each word and symbol is one
pub data Class : Type 0 where
  Word : Mark → Class
  ARegister ABuffer ASource ADimName ALength : Class
  AZero AOne AMany : Class

abbrev pub same : Class → Class → Bool
same (Word a) (Word b) = sameb the_type a b
same ARegister ARegister = true
same ABuffer ABuffer = true
same ASource ASource = true
same ADimName ADimName = true
same ALength ALength = true
same AZero AZero = true
same AOne AOne = true
same AMany AMany = true
same _ _ = false

-- a token by its class; where the class has a value, it counts
pub record Token : Type 0 where
  pub class : Class
  pub value : ℕ

pub data Nonterminal : Type 0 where
  Whole Count Phases Gives MoreGives GiveName : Nonterminal
  Makes Kind DimOrNumber DimLines LineTail Behind : Nonterminal
  BlockPart Stmts LetTail ForTail Relation Else Keys MoreKeys Key : Nonterminal
  Register DimName NewBuffer Divisor : Nonterminal
  Sum SumTail Product ProductTail Atom : Nonterminal

-- what stands behind let's equal sign
pub data Given : Type 0 where
  Computed : TermTree → Given
  Loaded : Buf → TermTree → Given

pub data Bound : Type 0 where
  Upto : Dim → Code → Bound
  Spanned : TermTree → TermTree → Dim → Code → Bound

pub data Shape : Type 0 where
  Takes : TermTree → Shape
  Times : Dim → Dim → Shape
  Follows : Dim → Shape

pub data Operator : Type 0 where
  ByDim : Dim → Operator
  ByOne : Operator

abbrev pub Value : Nonterminal → Type 0
Value Whole = ProgramTree
Value Count = ℕ
Value Phases = List PhaseTree
Value Gives = List ℕ
Value MoreGives = List ℕ
Value GiveName = ℕ
Value Makes = List Make
Value Kind = CellKind
Value DimOrNumber = Dim
Value DimLines = List LineTree
Value LineTail = Shape
Value Behind = Operator
Value BlockPart = Code
Value Stmts = Code
Value LetTail = Given
Value ForTail = Bound
Value Relation = Bool
Value Else = Option Code
Value Keys = List Buf
Value MoreKeys = List Buf
Value Key = Buf
Value Register = ℕ
Value DimName = ℕ
Value NewBuffer = ℕ
Value Divisor = ℕ
Value Sum = TermTree
Value SumTail = TermTree → TermTree
Value Product = TermTree
Value ProductTail = TermTree → TermTree
Value Atom = TermTree

abbrev Pick : Type 0 → Type 0
Pick A = Choice Nonterminal Class Token Note Value A

abbrev Row : Type 0
Row = List (Symbol Nonterminal Class)

abbrev pub on : {A : Type 0} → Class → (r : Row) → Note → (Token → Args Value r → A) → Pick A
on c r n f = record { first = c; rest = r; note = n; value = f }

abbrev pub number : {A : Type 0} → Note → (ℕ → A) → List (Pick A)
number n f = on AZero [] n (λ t _. f t.value) ∷ on AOne [] n (λ t _. f t.value) ∷ on AMany [] n (λ t _. f t.value) ∷ []

abbrev pub dims : {A : Type 0} → (Dim → A) → List (Pick A)
dims f = on ADimName [] Free (λ t _. f (dim.Name t.value)) ∷ on ALength [] Free (λ t _. f (dim.Len t.value)) ∷ number Free (λ k. f (dim.Number k))

abbrev pub atoms : List (Pick TermTree)
atoms = on ARegister [] Node (λ t _. tree.Reg t.value)
    ∷ on (Word m.Open) (Part Sum ∷ Fixed (Word m.Close) ∷ []) Free (λ t vs. vs.0)
    ∷ on (Word m.Size) (Fixed (Word m.Open) ∷ Part DimOrNumber ∷ Fixed (Word m.Close) ∷ []) Node (λ t vs. tree.Size vs.0)
    ∷ on (Word m.Flat) (Part DimName ∷ Fixed (Word m.Open) ∷ Part Sum ∷ Fixed (Word m.Comma) ∷ Part Sum ∷ Fixed (Word m.Close) ∷ []) Node (λ t vs. tree.Flat vs.0 vs.1.0 vs.1.1.0)
    ∷ on (Word m.Next) (Part DimName ∷ Fixed (Word m.Open) ∷ Part Sum ∷ Fixed (Word m.Close) ∷ []) Node (λ t vs. tree.Next vs.0 vs.1.0)
    ∷ on (Word m.Up) (Part DimName ∷ Fixed (Word m.Open) ∷ Part Sum ∷ Fixed (Word m.Close) ∷ []) Node (λ t vs. tree.Up vs.0 vs.1.0)
    ∷ number Node tree.Number

abbrev pub products : List (Pick TermTree)
products = with_row (Part ProductTail ∷ []) (λ a vs. vs.0 a) atoms

abbrev pub sums : List (Pick TermTree)
sums = with_row (Part SumTail ∷ []) (λ p vs. vs.0 p) products

abbrev pub keys : List (Pick Buf)
keys = on ABuffer [] ListName (λ t _. buf.New t.value) ∷ on ASource [] ListName (λ t _. buf.Source t.value) ∷ []

abbrev pub choices : (n : Nonterminal) → List (Pick (Value n))
choices Whole = on (Word m.Code) (Part Count ∷ Fixed (Word m.BraceOpen) ∷ Part Phases ∷ Fixed (Word m.Give) ∷ Part Gives ∷ Fixed (Word m.BraceClose) ∷ []) Free (λ t vs. record { sources = vs.0; phases = vs.1.0; give = vs.1.1.0 }) ∷ []
choices Count = number SourceCount (λ k. k)
choices Phases = on (Word m.Phase) (Fixed (Word m.BraceOpen) ∷ Part Makes ∷ Fixed (Word m.Do) ∷ Part BlockPart ∷ Part DimLines ∷ Fixed (Word m.BraceClose) ∷ Part Phases ∷ []) Free (λ t vs. record { makes = vs.0; body = vs.1.0; lines = vs.1.1.0 } ∷ vs.1.1.1.0) ∷ []
choices Gives = on ABuffer (Part MoreGives ∷ []) ListName (λ t vs. t.value ∷ vs.0) ∷ []
choices MoreGives = on (Word m.Comma) (Part GiveName ∷ Part MoreGives ∷ []) Free (λ t vs. vs.0 ∷ vs.1.0) ∷ []
choices GiveName = on ABuffer [] ListName (λ t _. t.value) ∷ []
choices Makes = on (Word m.New) (Part NewBuffer ∷ Fixed (Word m.BracketOpen) ∷ Part DimOrNumber ∷ Fixed (Word m.BracketClose) ∷ Part Kind ∷ Part Makes ∷ []) Item (λ t vs. record { buf = vs.0; len = vs.1.0; cell = vs.1.1.0 } ∷ vs.1.1.1.0) ∷ []
choices Kind = on (Word m.Word) [] Free (λ t _. cell.Word) ∷ on (Word m.Below) (Part DimOrNumber ∷ []) Free (λ t vs. cell.Below vs.0) ∷ []
choices DimOrNumber = dims (λ d. d)
choices DimLines = on (Word m.Dim) (Part DimName ∷ Part LineTail ∷ Part DimLines ∷ []) Item (λ t vs. line vs.0 vs.1.0 ∷ vs.1.1.0) ∷ [] where
  line : ℕ → Shape → LineTree
  line d (Takes e) = tree.Of d e
  line d (Times a b) = tree.Product d a b
  line d (Follows a) = tree.Successor d a
choices LineTail = on (Word m.Of) (Part Sum ∷ []) Free (λ t vs. Takes vs.0) ∷ on (Word m.Equal) (Part DimOrNumber ∷ Part Behind ∷ []) Free (λ t vs. shape vs.0 vs.1.0) ∷ [] where
  shape : Dim → Operator → Shape
  shape d (ByDim e) = Times d e
  shape d ByOne = Follows d
choices Behind = on (Word m.Star) (Part DimOrNumber ∷ []) Free (λ t vs. ByDim vs.0) ∷ on (Word m.Plus) (Fixed AOne ∷ []) Free (λ t _. ByOne) ∷ []
choices BlockPart = on (Word m.BraceOpen) (Part Stmts ∷ Fixed (Word m.BraceClose) ∷ []) Free (λ t vs. vs.0) ∷ []
choices Stmts = on (Word m.Let) (Part Register ∷ Fixed (Word m.Equal) ∷ Part LetTail ∷ Part Stmts ∷ []) Item (λ t vs. given vs.0 vs.1.1.0 vs.1.0)
    ∷ on (Word m.Var) (Part Register ∷ Fixed (Word m.Equal) ∷ Part Sum ∷ Part Stmts ∷ []) Item (λ t vs. tree.Var vs.0 vs.1.0 vs.1.1.0)
    ∷ on (Word m.Put) (Part Register ∷ Fixed (Word m.Equal) ∷ Part Sum ∷ Part Stmts ∷ []) Item (λ t vs. tree.Put vs.0 vs.1.0 vs.1.1.0)
    ∷ on (Word m.Set) (Part Key ∷ Fixed (Word m.BracketOpen) ∷ Part Sum ∷ Fixed (Word m.BracketClose) ∷ Fixed (Word m.Equal) ∷ Part Sum ∷ Part Stmts ∷ []) Item (λ t vs. tree.Set vs.0 vs.1.0 vs.1.1.0 vs.1.1.1.0)
    ∷ on (Word m.For) (Part Register ∷ Part ForTail ∷ Part Stmts ∷ []) Item (λ t vs. bounded vs.0 vs.1.1.0 vs.1.0)
    ∷ on (Word m.If) (Part Sum ∷ Part Relation ∷ Part Sum ∷ Part BlockPart ∷ Part Else ∷ Part Stmts ∷ []) Item (λ t vs. tree.If vs.0 vs.1.0 vs.1.1.0 vs.1.1.1.0 (is_given vs.1.1.1.1.0) (other vs.1.1.1.1.0) vs.1.1.1.1.1.0)
    ∷ on (Word m.When) (Part Sum ∷ Fixed (Word m.Below) ∷ Part DimOrNumber ∷ Fixed (Word m.As) ∷ Part Register ∷ Part BlockPart ∷ Part Else ∷ Part Stmts ∷ []) Item (λ t vs. tree.When vs.0 vs.1.0 vs.1.1.0 vs.1.1.1.0 (is_given vs.1.1.1.1.0) (other vs.1.1.1.1.0) vs.1.1.1.1.1.0)
    ∷ on (Word m.Order) (Part Key ∷ Fixed (Word m.By) ∷ Part Keys ∷ Part Stmts ∷ []) Item (λ t vs. tree.Order vs.0 vs.1.0 vs.1.1.0)
    ∷ [] where
      given : ℕ → Code → Given → Code
      given r rest (Computed e) = tree.Let r e rest
      given r rest (Loaded b e) = tree.Load r b e rest

      bounded : ℕ → Code → Bound → Code
      bounded r rest (Upto d b) = tree.For r d b rest
      bounded r rest (Spanned x y d b) = tree.Span r x y d b rest

      is_given : Option Code → Bool
      is_given None = false
      is_given (Some b) = true

      other : Option Code → Code
      other None = tree.End
      other (Some b) = b
choices LetTail = on ABuffer (Fixed (Word m.BracketOpen) ∷ Part Sum ∷ Fixed (Word m.BracketClose) ∷ []) Free (λ t vs. Loaded (buf.New t.value) vs.0)
    ∷ on ASource (Fixed (Word m.BracketOpen) ∷ Part Sum ∷ Fixed (Word m.BracketClose) ∷ []) Free (λ t vs. Loaded (buf.Source t.value) vs.0)
    ∷ with_row [] (λ e _. Computed e) sums
choices ForTail = on (Word m.Below) (Part DimOrNumber ∷ Part BlockPart ∷ []) Free (λ t vs. Upto vs.0 vs.1.0)
    ∷ on (Word m.In) (Part Sum ∷ Fixed (Word m.To) ∷ Part Sum ∷ Fixed (Word m.Below) ∷ Part DimOrNumber ∷ Part BlockPart ∷ []) Free (λ t vs. Spanned vs.0 vs.1.0 vs.1.1.0 vs.1.1.1.0) ∷ []
choices Relation = on (Word m.Less) [] Free (λ t _. false) ∷ on (Word m.Same) [] Free (λ t _. true) ∷ []
choices Else = on (Word m.Else) (Part BlockPart ∷ []) Free (λ t vs. Some vs.0) ∷ []
choices Keys = with_row (Part MoreKeys ∷ []) (λ k vs. k ∷ vs.0) keys
choices MoreKeys = on (Word m.Comma) (Part Key ∷ Part MoreKeys ∷ []) Free (λ t vs. vs.0 ∷ vs.1.0) ∷ []
choices Key = keys
choices Register = on ARegister [] Free (λ t _. t.value) ∷ []
choices DimName = on ADimName [] Free (λ t _. t.value) ∷ []
choices NewBuffer = on ABuffer [] Free (λ t _. t.value) ∷ []
choices Divisor = on AOne [] Free (λ t _. t.value) ∷ on AMany [] Free (λ t _. t.value) ∷ []
choices Sum = sums
choices SumTail = on (Word m.Plus) (Part Product ∷ Part SumTail ∷ []) Node (λ t vs. λ e. vs.1.0 (tree.Add e vs.0)) ∷ on (Word m.Minus) (Part Product ∷ Part SumTail ∷ []) Node (λ t vs. λ e. vs.1.0 (tree.Sub e vs.0)) ∷ []
choices Product = products
choices ProductTail = on (Word m.Star) (Part Atom ∷ Part ProductTail ∷ []) Node (λ t vs. λ e. vs.1.0 (tree.Mul e vs.0))
    ∷ on (Word m.Slash) (Part Divisor ∷ Part ProductTail ∷ []) Node (λ t vs. λ e. vs.1.0 (tree.Div e vs.0))
    ∷ on (Word m.Percent) (Part Divisor ∷ Part ProductTail ∷ []) Node (λ t vs. λ e. vs.1.0 (tree.Rem e vs.0)) ∷ []
choices Atom = atoms

-- parts that may be nothing
abbrev pub empty : (n : Nonterminal) → Option (Value n)
empty Phases = Some []
empty Gives = Some []
empty MoreGives = Some []
empty Makes = Some []
empty DimLines = Some []
empty Stmts = Some tree.End
empty Else = Some None
empty MoreKeys = Some []
empty SumTail = Some (λ e. e)
empty ProductTail = Some (λ e. e)
empty _ = None

-- what may stand behind a part

abbrev pub statements : List Class
statements = Word m.Let ∷ Word m.Var ∷ Word m.Put ∷ Word m.Set ∷ Word m.For ∷ Word m.If ∷ Word m.When ∷ Word m.Order ∷ Word m.BraceClose ∷ []

abbrev pub behind_whole : List Class
behind_whole = Word m.Less ∷ Word m.Same ∷ Word m.To ∷ Word m.Below ∷ Word m.BracketClose ∷ Word m.Dim ∷ Word m.BraceOpen ∷ statements

abbrev pub behind_sum : List Class
behind_sum = Word m.Close ∷ Word m.Comma ∷ behind_whole

abbrev pub behind_product : List Class
behind_product = Word m.Plus ∷ Word m.Minus ∷ behind_sum

abbrev pub behind_atom : List Class
behind_atom = Word m.Star ∷ Word m.Slash ∷ Word m.Percent ∷ behind_product

abbrev pub follow : Nonterminal → List Class
follow Whole = []
follow Count = Word m.BraceOpen ∷ []
follow Phases = Word m.Give ∷ []
follow Gives = Word m.BraceClose ∷ []
follow MoreGives = Word m.BraceClose ∷ []
follow GiveName = Word m.Comma ∷ Word m.BraceClose ∷ []
follow Makes = Word m.Do ∷ []
follow Kind = Word m.New ∷ Word m.Do ∷ []
follow DimOrNumber = Word m.BracketClose ∷ Word m.Close ∷ Word m.New ∷ Word m.Do ∷ Word m.Dim ∷ Word m.BraceOpen ∷ Word m.As ∷ Word m.Star ∷ Word m.Plus ∷ Word m.BraceClose ∷ []
follow DimLines = Word m.BraceClose ∷ []
follow LineTail = Word m.Dim ∷ Word m.BraceClose ∷ []
follow Behind = Word m.Dim ∷ Word m.BraceClose ∷ []
follow BlockPart = Word m.Else ∷ Word m.Dim ∷ statements
follow Stmts = Word m.BraceClose ∷ []
follow LetTail = statements
follow ForTail = statements
follow Relation = ARegister ∷ Word m.Open ∷ Word m.Size ∷ Word m.Flat ∷ Word m.Next ∷ Word m.Up ∷ AZero ∷ AOne ∷ AMany ∷ []
follow Else = statements
follow Keys = statements
follow MoreKeys = statements
follow Key = Word m.BracketOpen ∷ Word m.By ∷ Word m.Comma ∷ statements
follow Register = Word m.Equal ∷ Word m.Below ∷ Word m.In ∷ Word m.BraceOpen ∷ []
follow DimName = Word m.Open ∷ Word m.Of ∷ Word m.Equal ∷ []
follow NewBuffer = Word m.BracketOpen ∷ []
follow Divisor = behind_atom
follow Sum = behind_sum
follow SumTail = behind_sum
follow Product = behind_product
follow ProductTail = behind_product
follow Atom = behind_atom

abbrev pub grammar : Grammar Nonterminal Class Token Note
grammar = record {
  Value = Value;
  class = λ t. t.class;
  same = same;
  choices = choices;
  empty = empty;
  follow = follow;
  sample = λ c. record { class = c; value = 0 };
}
