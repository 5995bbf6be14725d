-- What a part of the reader does to the machine, wherever it stands.
use Rattle.std.specs.Prelude.{◌≡◌, ◌+◌, ◌&&◌, ◌≤◌, ◌<◌, ℕ, zero, suc, Bool, true, false, List, ◌++◌, length, Option, Some, None, Result, Ok, Err}
use Rattle.us_tokens.specs.Text as text
use Rattle.us_tokens.specs.Text.{Text}
use Rattle.us_tokens.specs.Cursor.{ahead}
use Rattle.us_tokens.specs.declared.cursor.Cursor.{Cursor}
use Rattle.us_tokens.specs.Reading.{Answer, NoToken, Form, Broken, scan}
use Rattle.us_expr.specs.Tree.{Tree, Sum, Difference, Quotient, Remainder, tree}
use Rattle.us_expr.specs.declared.expression.Expr as code
use Rattle.us_decl.specs.Token.{Token, Fixed, Name, same}
use Rattle.us_decl.specs.declared.mark.Mark.{Mark}
use Rattle.us_decl.specs.declared.mark.Mark.TheVariants as mark
use Rattle.us_decl.specs.declared.lexeme.Lexeme.{Lexeme}
use Rattle.us_decl.specs.declared.lexeme.Lexeme.TheVariants as lexeme
use Rattle.us_parse.specs.declared.stop.Stop.{Stop}
use Rattle.us_parse.specs.declared.stop.Stop.TheVariants as stop
use Rattle.us_decl.specs.Words.{language, token, is_name}
use Rattle.us_decl.specs.Grammar.{Decl, Term, Just, Factor}
use Rattle.us_parse.specs.Piece.{Piece, Use, Hole, Begin, Operand, After, operand, filled}
use Rattle.us_decl.specs.Names.{names_expr, names_term, names_factor, with_name, number_of}
use Rattle.us_decl.specs.Limits.{nodes, nodes_term, nodes_factor, fits_expr, fits_term, fits_factor, fits_names, fits_number}
use Rattle.us_parse.specs.Within.{Break, TooBig, Repeated, fits_use, fits_open, held, names_open, names_use}
use Rattle.us_decl.specs.Declares.{tree_expr, tree_term, tree_factor}
use Rattle.us_parse.specs.Machine.{reader}

-- the text from the token at which a cursor stands
abbrev pub text_of : Cursor Lexeme → Text Lexeme
text_of c = ahead language c

abbrev pub size : Text Lexeme → ℕ
size text.End = 0
size (text.Bad left) = 0
size (text.Then k w behind more) = suc (size more)

-- the first token
abbrev pub lead : Text Lexeme → Option Token
lead text.End = None
lead (text.Bad left) = None
lead (text.Then k w behind more) = Some (token k w)

abbrev pub is_fixed : Mark → Option Token → Bool
is_fixed m (Some (Fixed k)) = same k m
is_fixed m _ = false

-- a token stands before the rest of a text
pub record Took (old new : Text Lexeme) (t : Token) : Type 0 where
  pub kind : Lexeme
  pub bytes : List ℕ
  pub behind : ℕ
  pub parts : old ≡ text.Then kind bytes behind new
  pub is : token kind bytes ≡ t

-- the fault where no token that stands here may stand
abbrev pub refused_at : Text Lexeme → Stop
refused_at text.End = stop.Form 0
refused_at (text.Bad left) = stop.Token left
refused_at (text.Then k w behind more) = stop.Form (length w + behind)

abbrev pub answer_of : Stop → Option (Answer Lexeme Decl Break)
answer_of (stop.Token n) = Some (NoToken n)
answer_of (stop.Form n) = Some (Form n)
answer_of (stop.TooBig n) = Some (Broken TooBig n)
answer_of (stop.Repeated n) = Some (Broken Repeated n)
answer_of stop.Memory = None

-- reading on from the one piece is reading on from the other, whatever the earlier declarations
abbrev pub Leads : Text Lexeme → Piece → Text Lexeme → Piece → Type 0
Leads old s new u = (earlier : List (List ℕ)) → scan (reader earlier) old s ≡ scan (reader earlier) new u

-- reading on from a piece ends with this fault; of want of memory nothing is said
abbrev pub Ends : Text Lexeme → Piece → Option (Answer Lexeme Decl Break) → Type 0
Ends old s None = Unit {0}
Ends old s (Some x) = (earlier : List (List ℕ)) → scan (reader earlier) old s ≡ x

abbrev pub Fails : Text Lexeme → Piece → Stop → Type 0
Fails old s e = Ends old s (answer_of e)

abbrev pub is_sum : Option Token → Bool
is_sum (Some (Fixed mark.Plus)) = true
is_sum (Some (Fixed mark.Minus)) = true
is_sum _ = false

abbrev pub is_product : Option Token → Bool
is_product (Some (Fixed mark.Slash)) = true
is_product (Some (Fixed mark.Percent)) = true
is_product _ = false

abbrev pub sum_token : Bool → Token
sum_token true = Fixed mark.Plus
sum_token false = Fixed mark.Minus

abbrev pub divide_token : Bool → Token
divide_token true = Fixed mark.Slash
divide_token false = Fixed mark.Percent

abbrev pub sum_tree : Bool → Tree → Tree → Tree
sum_tree true x y = Sum x y
sum_tree false x y = Difference x y

abbrev pub quotient_tree : Bool → Tree → ℕ → Tree
quotient_tree true x k = Quotient x k
quotient_tree false x k = Remainder x k

-- a call failed for want of memory, or with this fault, which is so because a test failed
abbrev pub Missed : Stop → Bool → Stop → Type 0
Missed f b stop.Memory = Unit {0}
Missed f b e = (e ≡ f) × (b ≡ false)

-- where a name within its limits is wanted
abbrev pub has_name : Text Lexeme → Bool
has_name (text.Then lexeme.Name w behind more) = is_name w
has_name _ = false

abbrev pub name_fault : Text Lexeme → Stop
name_fault (text.Then lexeme.Name w behind more) = stop.TooBig (length w + behind)
name_fault t = refused_at t

-- where a variable is wanted, behind these names
abbrev pub has_variable : List (List ℕ) → Text Lexeme → Bool
has_variable ns (text.Then lexeme.Name w behind more) = is_name w && fits_names (with_name w ns)
has_variable ns _ = false

-- where a number within its limit is wanted
abbrev pub has_number : Text Lexeme → Bool
has_number (text.Then (lexeme.Number k) w behind more) = fits_number k
has_number _ = false

abbrev pub number_fault : Text Lexeme → Stop
number_fault (text.Then (lexeme.Number k) w behind more) = stop.TooBig (length w + behind)
number_fault t = refused_at t

-- where the number behind / or % is wanted
abbrev pub has_divisor : Text Lexeme → Bool
has_divisor (text.Then (lexeme.Number zero) w behind more) = false
has_divisor (text.Then (lexeme.Number (suc k)) w behind more) = fits_number (suc k)
has_divisor _ = false

abbrev pub divisor_fault : Text Lexeme → Stop
divisor_fault (text.Then (lexeme.Number (suc k)) w behind more) = stop.TooBig (length w + behind)
divisor_fault t = refused_at t

-- where an operand other than a parenthesis is wanted, behind these names
abbrev pub has_operand : List (List ℕ) → Text Lexeme → Bool
has_operand ns (text.Then (lexeme.Fixed mark.I) w behind more) = true
has_operand ns (text.Then (lexeme.Fixed mark.J) w behind more) = true
has_operand ns (text.Then lexeme.Name w behind more) = is_name w && fits_names (with_name w ns)
has_operand ns (text.Then (lexeme.Number k) w behind more) = fits_number k
has_operand ns _ = false

abbrev pub operand_fault : Text Lexeme → Stop
operand_fault (text.Then lexeme.Name w behind more) = stop.TooBig (length w + behind)
operand_fault (text.Then (lexeme.Number k) w behind more) = stop.TooBig (length w + behind)
operand_fault t = refused_at t

-- an operand of one token
pub record GoesLeaf (old new : Text Lexeme) (ns ms : List (List ℕ)) (e : code.Expr) : Type 0 where
  pub factor : Factor
  pub token : Token
  pub took : Took old new token
  pub steps : (u : Use) (h : Hole) (os : List Hole) → operand u h os token ≡ Some (After u h (Just factor) os)
  pub node : nodes_factor factor ≡ 1
  pub names : names_factor factor ns ≡ ms
  pub known : length ms ≤ 32
  pub fits : (d : ℕ) → fits_factor d factor ≡ true
  pub is : (more : List (List ℕ)) → tree_factor (ms ++ more) factor ≡ tree e

-- a variable that stands here, and the names with it
pub record Knows (old new : Text Lexeme) (ns ms : List (List ℕ)) (v : ℕ) : Type 0 where
  pub name : List ℕ
  pub took : Took old new (Name name)
  pub fits : is_name name ≡ true
  pub names : with_name name ns ≡ ms
  pub known : length ms ≤ 32
  pub number : v ≡ number_of name ns

-- at each place with room for one more level, behind so many parentheses, nodes and these names
abbrev pub Everywhere : ℕ → ℕ → List (List ℕ) → (Use → Hole → List Hole → Type 0) → Type 0
Everywhere depth n ns P = (u : Use) (h : Hole) (os : List Hole) → fits_use 1 u ≡ true → fits_open h os ≡ true → length os ≡ depth → held h os ≡ n → names_open h os (names_use u) ≡ ns → P u h os

-- a term so far, from n nodes to m and from the names ns to ms
pub record GoesTerm (old new : Text Lexeme) (depth n m : ℕ) (ns ms : List (List ℕ)) (e : code.Expr) : Type 0 where
  pub text : Term
  pub is : (more : List (List ℕ)) → tree_term (ms ++ more) text ≡ tree e
  pub names : names_term text ns ≡ ms
  pub shorter : size new < size old
  pub count : n + nodes_term text ≡ m
  pub few : m ≤ 32
  pub known : length ms ≤ 32
  pub fits : fits_term depth text ≡ true
  pub goes : Everywhere depth n ns (λ u h os. Leads old (Operand u h os) new (After u h text os))

-- an expression so far, in its parentheses
pub record GoesExpr (old new : Text Lexeme) (depth n m : ℕ) (ns ms : List (List ℕ)) (e : code.Expr) : Type 0 where
  pub before : Hole
  pub text : Term
  pub is : (more : List (List ℕ)) → tree_expr (ms ++ more) (filled before text) ≡ tree e
  pub names : names_expr (filled before text) ns ≡ ms
  pub shorter : size new < size old
  pub count : n + nodes (filled before text) ≡ m
  pub few : m ≤ 32
  pub known : length ms ≤ 32
  pub fits : fits_expr depth (filled before text) ≡ true
  pub goes : Everywhere depth n ns (λ u h os. h ≡ Begin → Leads old (Operand u Begin os) new (After u before text os))

abbrev pub ReadsFactor : Text Lexeme → Text Lexeme → ℕ → ℕ → List (List ℕ) → List (List ℕ) → Result (code.Expr × ℕ) Stop → Type 0
ReadsFactor old new depth n ns ms (Ok x) = GoesTerm old new depth n x.1 ns ms x.0
ReadsFactor old new depth n ns ms (Err e) = Everywhere depth n ns (λ u h os. Fails old (Operand u h os) e)

-- and no sign follows that would go on
abbrev pub ReadsTerm : Text Lexeme → Text Lexeme → ℕ → ℕ → List (List ℕ) → List (List ℕ) → Result (code.Expr × ℕ) Stop → Type 0
ReadsTerm old new depth n ns ms (Ok x) = GoesTerm old new depth n x.1 ns ms x.0 × (is_product (lead new) ≡ false)
ReadsTerm old new depth n ns ms (Err e) = Everywhere depth n ns (λ u h os. Fails old (Operand u h os) e)

abbrev pub ReadsExpr : Text Lexeme → Text Lexeme → ℕ → ℕ → List (List ℕ) → List (List ℕ) → Result (code.Expr × ℕ) Stop → Type 0
ReadsExpr old new depth n ns ms (Ok x) = GoesExpr old new depth n x.1 ns ms x.0 × (is_product (lead new) ≡ false) × (is_sum (lead new) ≡ false)
ReadsExpr old new depth n ns ms (Err e) = Everywhere depth n ns (λ u h os. h ≡ Begin → Fails old (Operand u Begin os) e)
