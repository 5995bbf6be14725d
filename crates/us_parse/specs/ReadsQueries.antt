-- What reading queries does to the machine, wherever they stand.
use Rattle.std.specs.Prelude.{◌≡◌, ◌≤◌, ◌<◌, ℕ, Bool, true, false, List, ◌++◌, length, map, Option, Some, Result, Ok, Err}
use Rattle.us_tokens.specs.Text.{Text}
use Rattle.us_expr.specs.Tree.{Tree, tree}
use Rattle.us_expr.specs.declared.expression.Expr as code
use Rattle.us_expr.specs.declared.queries.Query as asked
use Rattle.us_parse.specs.declared.word.Word as words
use Rattle.us_parse.specs.declared.word.Word.TheVariants as word
use Rattle.us_decl.specs.Token.{Token, Fixed}
use Rattle.us_decl.specs.declared.mark.Mark.TheVariants as mark
use Rattle.us_decl.specs.declared.lexeme.Lexeme.{Lexeme}
use Rattle.us_parse.specs.declared.stop.Stop.{Stop}
use Rattle.us_decl.specs.Grammar.{Run, Empty, Then, Expr, Word, Sum, Enumerate, Reorder, Query, Single, Lanes}
use Rattle.us_parse.specs.Piece.{Before, Asked, Argument, Between, AtVariable, AfterVariable, AtSlot, AtArgument, ended}
use Rattle.us_decl.specs.Names.{names_expr, names_query, names_queries, with_name, number_of}
use Rattle.us_decl.specs.Limits.{fits_whole, fits_query, all_run, count_run}
use Rattle.us_parse.specs.Within.{fits_before, fits_begun, fits_one, fits_asked, names_asked}
use Rattle.us_decl.specs.Declares.{tree_expr, query_of, run_items, SumOf, EnumerateOf, ReorderOf, ScheduleOf}
use Rattle.us_decl.specs.Declares as declares
use Rattle.us_decl.specs.Views.{query_view}
use Rattle.us_parse.specs.Reads.{lead, is_fixed, size, Leads, Fails}

-- where the argument of a query stands, behind these names
abbrev pub AtAsked : List (List ℕ) → (Before → Run Query → Asked → Type 0) → Type 0
AtAsked ns P = (b : Before) (qs : Run Query) (q : Asked) → fits_asked b qs q ≡ true → names_asked q (names_queries qs) ≡ ns → P b qs q

-- where a query has begun
abbrev pub AtBegun : List (List ℕ) → (Before → Run Query → Type 0) → Type 0
AtBegun ns P = (b : Before) (qs : Run Query) → fits_begun b qs ≡ true → names_queries qs ≡ ns → P b qs

-- behind its first variable
abbrev pub AtOne : List (List ℕ) → (Before → Run Query → List ℕ → Type 0) → Type 0
AtOne ns P = (b : Before) (qs : Run Query) (v : List ℕ) → fits_one b qs v ≡ true → with_name v (names_queries qs) ≡ ns → P b qs v

-- the argument of a query in its parentheses
pub record GoesArgument (old new : Text Lexeme) (ns ms : List (List ℕ)) (e : code.Expr) : Type 0 where
  pub text : Expr
  pub is : (more : List (List ℕ)) → tree_expr (ms ++ more) text ≡ tree e
  pub names : names_expr text ns ≡ ms
  pub shorter : size new < size old
  pub known : length ms ≤ 32
  pub fits : fits_whole text ≡ true
  pub goes : AtAsked ns (λ b qs q. Leads old (AtArgument b qs q) new (ended (Argument b qs q) text))

abbrev pub ReadsArgument : Text Lexeme → Text Lexeme → List (List ℕ) → List (List ℕ) → Result code.Expr Stop → Type 0
ReadsArgument old new ns ms (Ok e) = GoesArgument old new ns ms e
ReadsArgument old new ns ms (Err e) = AtAsked ns (λ b qs q. Fails old (AtArgument b qs q) e)

abbrev pub one_view : Word → ℕ → Tree → declares.Query
one_view Sum v t = SumOf v t
one_view Enumerate v t = EnumerateOf v t
one_view Reorder v t = ReorderOf v t

-- the rest of a query of one variable, behind that variable
pub record GoesSingle (old new : Text Lexeme) (var : ℕ) (ns ms : List (List ℕ)) (q : asked.Query) : Type 0 where
  pub word : Word
  pub text : Expr
  pub is : (more : List (List ℕ)) → query_view q ≡ one_view word var (tree_expr (ms ++ more) text)
  pub names : names_expr text ns ≡ ms
  pub shorter : size new < size old
  pub known : length ms ≤ 32
  pub fits : fits_whole text ≡ true
  pub goes : AtOne ns (λ b qs v. Leads old (AfterVariable b qs v) new (Between b (Then qs (Single word v text))))

abbrev pub ReadsSingle : Text Lexeme → Text Lexeme → ℕ → List (List ℕ) → List (List ℕ) → Result asked.Query Stop → Type 0
ReadsSingle old new var ns ms (Ok q) = GoesSingle old new var ns ms q
ReadsSingle old new var ns ms (Err e) = AtOne ns (λ b qs v. Fails old (AfterVariable b qs v) e)

-- the rest of a schedule, behind its first variable and the comma
pub record GoesLanes (old new : Text Lexeme) (var : ℕ) (ns ms : List (List ℕ)) (q : asked.Query) : Type 0 where
  pub slot : List ℕ
  pub text : Expr
  pub lanes : ℕ
  pub is : (more : List (List ℕ)) → query_view q ≡ ScheduleOf var (number_of slot (ms ++ more)) (tree_expr (ms ++ more) text) lanes
  pub names : names_expr text (with_name slot ns) ≡ ms
  pub shorter : size new < size old
  pub known : length ms ≤ 32
  pub fits : (v : List ℕ) → fits_query (Single Sum v text) ≡ true → fits_query (Lanes v slot text lanes) ≡ true
  pub whole : fits_whole text ≡ true
  pub goes : AtOne ns (λ b qs v. Leads old (AtSlot b qs v) new (Between b (Then qs (Lanes v slot text lanes))))

abbrev pub ReadsLanes : Text Lexeme → Text Lexeme → ℕ → List (List ℕ) → List (List ℕ) → Result asked.Query Stop → Type 0
ReadsLanes old new var ns ms (Ok q) = GoesLanes old new var ns ms q
ReadsLanes old new var ns ms (Err e) = AtOne ns (λ b qs v. Fails old (AtSlot b qs v) e)

-- a query, behind its first word
pub record GoesQuery (old new : Text Lexeme) (ns ms : List (List ℕ)) (q : asked.Query) : Type 0 where
  pub text : Query
  pub is : (more : List (List ℕ)) → query_view q ≡ query_of (ms ++ more) text
  pub names : names_query text ns ≡ ms
  pub shorter : size new < size old
  pub known : length ms ≤ 32
  pub fits : fits_query text ≡ true
  pub goes : AtBegun ns (λ b qs. Leads old (AtVariable b qs) new (Between b (Then qs text)))

abbrev pub ReadsQuery : Text Lexeme → Text Lexeme → List (List ℕ) → List (List ℕ) → Result asked.Query Stop → Type 0
ReadsQuery old new ns ms (Ok q) = GoesQuery old new ns ms q
ReadsQuery old new ns ms (Err e) = AtBegun ns (λ b qs. Fails old (AtVariable b qs) e)

-- queries so far, one after the other
pub record GoesQueries (old new : Text Lexeme) (ms : List (List ℕ)) (queries : List asked.Query) : Type 0 where
  pub text : Run Query
  pub is : (more : List (List ℕ)) → map query_view queries ≡ map (query_of (ms ++ more)) (run_items text)
  pub names : names_queries text ≡ ms
  pub known : length ms ≤ 32
  pub all : all_run fits_query text ≡ true
  pub count : count_run text ≡ length queries
  pub few : length queries ≤ 16
  pub goes : (b : Before) → fits_before b ≡ true → Leads old (Between b Empty) new (Between b text)

abbrev pub ReadsQueries : Text Lexeme → Text Lexeme → List (List ℕ) → Result (List asked.Query) Stop → Type 0
ReadsQueries old new ms (Ok queries) = GoesQueries old new ms queries × (is_fixed mark.Let (lead new) ≡ false)
ReadsQueries old new ms (Err e) = (b : Before) → fits_before b ≡ true → Fails old (Between b Empty) e

-- the word that the program tells
abbrev pub word_of : words.Word → Word
word_of word.Sum = Sum
word_of word.Enumerate = Enumerate
word_of word.Reorder = Reorder

abbrev pub word_token_of : Word → Token
word_token_of Sum = Fixed mark.Sum
word_token_of Enumerate = Fixed mark.Enumerate
word_token_of Reorder = Fixed mark.Reorder

-- where the word of a query of one variable is wanted
abbrev pub has_word : Option Token → Bool
has_word (Some (Fixed mark.Sum)) = true
has_word (Some (Fixed mark.Enumerate)) = true
has_word (Some (Fixed mark.Reorder)) = true
has_word _ = false
