-- What reading the levels, numbers and packs of a part does to the machine, wherever they stand.
use Rattle.std.specs.Prelude.{◌≡◌, ◌+◌, ◌≤◌, ◌<◌, ◌⊎◌, ℕ, Bool, true, false, List, [], ◌∷◌, ◌++◌, length, map, Option, Some, None, Result, Ok, Err}
use Rattle.us_tokens.specs.Text as text
use Rattle.us_tokens.specs.Text.{Text, left_of}
use Rattle.us_expr.specs.Tree.{tree}
use Rattle.us_expr.specs.declared.expression.Expr as code
use Rattle.us_decl.specs.Token.{Token, Fixed, Number}
use Rattle.us_decl.specs.declared.mark.Mark.TheVariants as mark
use Rattle.us_decl.specs.declared.column.Column.{Column}
use Rattle.us_decl.specs.declared.column.Column.TheVariants.{Level, Val}
use Rattle.us_decl.specs.declared.lexeme.Lexeme.{Lexeme}
use Rattle.us_decl.specs.declared.lexeme.Lexeme.TheVariants as lexeme
use Rattle.us_parse.specs.declared.stop.Stop.{Stop}
use Rattle.us_parse.specs.declared.stop.Stop.TheVariants as stop
use Rattle.us_decl.specs.Grammar.{Comma, Run, Expr, Term, Query, Part}
use Rattle.us_parse.specs.Piece.{Piece, Before, Mapped, Hole, Begin, Operand, After, AtLevels, Tail, AtPack, filled, one_more, part_of, packed}
use Rattle.us_decl.specs.Names.{names_expr, names_queries, names_levels}
use Rattle.us_decl.specs.Limits.{count, all, fits_whole, fits_number, fits_column, fits_pack}
use Rattle.us_parse.specs.Within.{fits, fits_front, fits_packing}
use Rattle.us_decl.specs.Declares.{tree_expr, comma_items, maybe_items}
use Rattle.us_parse.specs.Reads.{Took, lead, is_fixed, size, refused_at, Leads, Fails, GoesExpr, Everywhere, is_sum, is_product, has_number, number_fault}

-- where a 17th level is one too many
abbrev pub operand_excess : Text Lexeme → Stop
operand_excess (text.Then (lexeme.Fixed mark.I) w behind more) = stop.TooBig (length w + behind)
operand_excess (text.Then (lexeme.Fixed mark.J) w behind more) = stop.TooBig (length w + behind)
operand_excess (text.Then (lexeme.Fixed mark.Open) w behind more) = stop.TooBig (length w + behind)
operand_excess (text.Then lexeme.Name w behind more) = stop.TooBig (length w + behind)
operand_excess (text.Then (lexeme.Number k) w behind more) = stop.TooBig (length w + behind)
operand_excess t = refused_at t

-- one more level
pub record GoesLevel (old new : Text Lexeme) (ns ms : List (List ℕ)) (levels pushed : List code.Expr) : Type 0 where
  pub level : code.Expr
  pub nodes : ℕ
  pub goes : GoesExpr old new 0 0 nodes ns ms level
  pub product : is_product (lead new) ≡ false
  pub sum : is_sum (lead new) ≡ false
  pub room : length levels < 16
  pub grown : pushed ≡ levels ++ (level ∷ [])

abbrev pub FailsLevel : Text Lexeme → List (List ℕ) → List code.Expr → Stop → Type 0
FailsLevel old ns levels r = ((length levels < 16) × Everywhere 0 0 ns (λ u h os. h ≡ Begin → Fails old (Operand u Begin os) r)) ⊎ ((16 ≤ length levels) × (r ≡ operand_excess old))

abbrev pub ReadsLevel : Text Lexeme → Text Lexeme → List (List ℕ) → List (List ℕ) → List code.Expr → List code.Expr → Result (Unit {0}) Stop → Type 0
ReadsLevel old new ns ms levels pushed (Ok x) = GoesLevel old new ns ms levels pushed
ReadsLevel old new ns ms levels pushed (Err r) = FailsLevel old ns levels r

-- behind the queries of a part
abbrev pub AtFront : List (List ℕ) → (Before → Run Query → Type 0) → Type 0
AtFront ns P = (b : Before) (qs : Run Query) → fits_front b qs ≡ true → names_queries qs ≡ ns → P b qs

-- levels so far, one at least
pub record GoesLevels (old new : Text Lexeme) (ns ms : List (List ℕ)) (levels : List code.Expr) : Type 0 where
  pub before : Option (Comma Expr)
  pub hole : Hole
  pub term : Term
  pub is : (more : List (List ℕ)) → map tree levels ≡ map (tree_expr (ms ++ more)) (comma_items (one_more before (filled hole term)))
  pub names : names_expr (filled hole term) (names_levels before ns) ≡ ms
  pub known : length ms ≤ 32
  pub all : all fits_whole (one_more before (filled hole term)) ≡ true
  pub count : count (one_more before (filled hole term)) ≡ length levels
  pub few : length levels ≤ 16
  pub product : is_product (lead new) ≡ false
  pub sum : is_sum (lead new) ≡ false
  pub goes : AtFront ns (λ b qs. Leads old (AtLevels b qs) new (After (Mapped b qs before) hole term []))

-- all levels of a map
pub record GoesMap (old new : Text Lexeme) (at : Before → Run Query → Piece) (ns ms : List (List ℕ)) (levels : List code.Expr) : Type 0 where
  pub text : Option (Comma Expr)
  pub is : (more : List (List ℕ)) → map tree levels ≡ map (tree_expr (ms ++ more)) (maybe_items text)
  pub names : names_levels text ns ≡ ms
  pub known : length ms ≤ 32
  pub fits : AtFront ns (λ b qs. fits (Tail b (part_of qs text)) ≡ true)
  pub goes : AtFront ns (λ b qs. Leads old (at b qs) new (Tail b (part_of qs text)))

abbrev pub ReadsMap : Text Lexeme → Text Lexeme → (Before → Run Query → Piece) → List (List ℕ) → List (List ℕ) → Result (List code.Expr) Stop → Type 0
ReadsMap old new at ns ms (Ok levels) = GoesMap old new at ns ms levels
ReadsMap old new at ns ms (Err r) = AtFront ns (λ b qs. Fails old (at b qs) r)

-- a list with commas stands in a text: the pieces before an item and behind one
pub record Series (A : Type 0) (item : A → Token) (fitting : A → Bool) (has : Text Lexeme → Bool) (fault : Text Lexeme → Stop) (at : Option (Comma A) → Piece) (tail : Comma A → Piece) : Type 0 where
  pub takes : (there next : Text Lexeme) (ks : Option (Comma A)) (k : A) → Took there next (item k) → all fitting (one_more ks k) ≡ true → count (one_more ks k) ≤ 16 → Leads there (at ks) next (tail (one_more ks k))
  pub goes_on : (there next : Text Lexeme) (ks : Comma A) → Took there next (Fixed mark.Comma) → all fitting ks ≡ true → count ks ≤ 16 → Leads there (tail ks) next (at (Some ks))
  pub lost : (there : Text Lexeme) (ks : Option (Comma A)) → has there ≡ false → Fails there (at ks) (fault there)
  pub full : (there : Text Lexeme) (ks : Comma A) → 16 ≤ count ks → Fails there (at (Some ks)) (fault there)

pub record GoesSeries (A : Type 0) (item : A → Token) (fitting : A → Bool) (has : Text Lexeme → Bool) (fault : Text Lexeme → Stop) (old new : Text Lexeme) (items : List A) : Type 0 where
  pub text : Comma A
  pub is : comma_items text ≡ items
  pub all : all fitting text ≡ true
  pub count : count text ≡ length items
  pub few : length items ≤ 16
  pub goes : (at : Option (Comma A) → Piece) (tail : Comma A → Piece) → Series A item fitting has fault at tail → Leads old (at None) new (tail text)

abbrev pub ReadsSeries : {A : Type 0} → (A → Token) → (A → Bool) → (Text Lexeme → Bool) → (Text Lexeme → Stop) → Text Lexeme → Text Lexeme → Result (List A) Stop → Type 0
ReadsSeries {A} item fitting has fault old new (Ok items) = GoesSeries A item fitting has fault old new items × (is_fixed mark.Comma (lead new) ≡ false) × (size new ≤ size old)
ReadsSeries {A} item fitting has fault old new (Err r) = (at : Option (Comma A) → Piece) (tail : Comma A → Piece) → Series A item fitting has fault at tail → Fails old (at None) r

abbrev pub ReadsNumbers : Text Lexeme → Text Lexeme → Result (List ℕ) Stop → Type 0
ReadsNumbers = ReadsSeries Number fits_number has_number number_fault

abbrev pub column_token : Column → Token
column_token (Level k) = Number k
column_token Val = Fixed mark.Val

abbrev pub has_column : Text Lexeme → Bool
has_column (text.Then (lexeme.Number k) w behind more) = fits_number k
has_column (text.Then (lexeme.Fixed mark.Val) w behind more) = true
has_column _ = false

abbrev pub column_fault : Text Lexeme → Stop
column_fault (text.Then (lexeme.Number k) w behind more) = stop.TooBig (length w + behind)
column_fault (text.Then (lexeme.Fixed mark.Val) w behind more) = stop.TooBig (length w + behind)
column_fault t = refused_at t

abbrev pub ReadsColumns : Text Lexeme → Text Lexeme → Result (List Column) Stop → Type 0
ReadsColumns = ReadsSeries column_token fits_column has_column column_fault

-- a pack, behind its word
pub record GoesPack (old new : Text Lexeme) (pack : List Column) : Type 0 where
  pub text : Comma Column
  pub is : comma_items text ≡ pack
  pub fits : fits_pack text ≡ true
  pub shorter : size new < size old
  pub goes : (b : Before) (p : Part) → fits_packing b p ≡ true → Leads old (AtPack b p) new (Tail b (packed p text))

abbrev pub ReadsPack : Text Lexeme → Text Lexeme → Result (List Column) Stop → Type 0
ReadsPack old new (Ok pack) = GoesPack old new pack
ReadsPack old new (Err r) = (b : Before) (p : Part) → fits_packing b p ≡ true → Fails old (AtPack b p) r
