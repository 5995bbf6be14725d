-- The grammar of a declaration: a text as it is spelled, with its parentheses, and its tokens.
-- Lists and operators group to the left, as they are read.
use Rattle.std.specs.Prelude.{ℕ, suc, List, [], ◌∷◌, ◌++◌, Option, Some, None, Bool, true, false}
use Rattle.us_decl.specs.Token.{Token, Fixed, Name, Number}
use Rattle.us_decl.specs.declared.mark.Mark.TheVariants as mark
use Rattle.us_decl.specs.declared.column.Column.{Column}
use Rattle.us_decl.specs.declared.column.Column.TheVariants.{Level, Val}

-- one or more, with commas between them
pub data Comma (A : Type 0) : Type 0 where
  Only : A → Comma A
  And : Comma A → A → Comma A

-- any number of them, one after the other
pub data Run (A : Type 0) : Type 0 where
  Empty : Run A
  Then : Run A → A → Run A

mutual
  -- terms with + and - between them
  pub data Expr : Type 0 where
    One : Term → Expr
    Plus : Expr → Term → Expr
    Less : Expr → Term → Expr

  -- a factor, divided; each divisor is one more than the number that stands here, so none is 0
  pub data Term : Type 0 where
    Just : Factor → Term
    Over : Term → ℕ → Term
    Rest : Term → ℕ → Term

  pub data Factor : Type 0 where
    Row : Factor
    Col : Factor
    Named : List ℕ → Factor
    Num : ℕ → Factor
    Group : Expr → Factor

-- the word of a query that defines one variable
pub data Word : Type 0 where
  Sum : Word
  Enumerate : Word
  Reorder : Word

-- let NAME = WORD ( Expr ), and let NAME , NAME = schedule ( Expr ) into NUMBER
pub data Query : Type 0 where
  Single : Word → List ℕ → Expr → Query
  Lanes : List ℕ → List ℕ → Expr → ℕ → Query

pub record Part : Type 0 where
  pub queries : Run Query
  pub levels : Option (Comma Expr)
  pub trim : Option (Comma ℕ)
  pub merge : Option (Comma ℕ)
  pub packs : Run (Comma Column)

-- part when NAME < NUMBER { Part }, or the same with >=
pub record Block : Type 0 where
  pub name : List ℕ
  pub less : Bool  -- < stands between the name and the number, and not >=
  pub bound : ℕ
  pub part : Part

-- the queries of a divided body, its blocks before the last, and the condition of the last
pub record Head : Type 0 where
  pub queries : Run Query
  pub blocks : Run Block
  pub name : List ℕ
  pub less : Bool
  pub bound : ℕ

-- one part alone; or a head, the part of its last condition, and the part of the rest
pub data Body : Type 0 where
  Whole : Part → Body
  Split : Head → Part → Part → Body

-- a condition and its part
abbrev pub block_of : List ℕ → Bool → ℕ → Part → Block
block_of v less k p = record { name = v; less = less; bound = k; part = p }

-- all blocks of a divided body
abbrev pub blocks_of : Head → Part → Run Block
blocks_of h p = Then h.blocks (block_of h.name h.less h.bound p)

pub record Decl : Type 0 where
  pub name : List ℕ
  pub body : Body

-- a list of one token
abbrev pub alone : Token → List Token
alone t = t ∷ []

-- the tokens of a list, by those of an item
abbrev pub comma_tokens : {A : Type 0} → (A → List Token) → Comma A → List Token
comma_tokens f (Only x) = f x
comma_tokens f (And xs x) = comma_tokens f xs ++ (Fixed mark.Comma ∷ f x)

abbrev pub run_tokens : {A : Type 0} → (A → List Token) → Run A → List Token
run_tokens f Empty = []
run_tokens f (Then xs x) = run_tokens f xs ++ f x

abbrev mutual
  pub expr_tokens : Expr → List Token
  expr_tokens (One t) = term_tokens t
  expr_tokens (Plus e t) = expr_tokens e ++ (Fixed mark.Plus ∷ term_tokens t)
  expr_tokens (Less e t) = expr_tokens e ++ (Fixed mark.Minus ∷ term_tokens t)

  pub term_tokens : Term → List Token
  term_tokens (Just f) = factor_tokens f
  term_tokens (Over t k) = term_tokens t ++ (Fixed mark.Slash ∷ Number (suc k) ∷ [])
  term_tokens (Rest t k) = term_tokens t ++ (Fixed mark.Percent ∷ Number (suc k) ∷ [])

  pub factor_tokens : Factor → List Token
  factor_tokens Row = Fixed mark.I ∷ []
  factor_tokens Col = Fixed mark.J ∷ []
  factor_tokens (Named w) = Name w ∷ []
  factor_tokens (Num n) = Number n ∷ []
  factor_tokens (Group e) = Fixed mark.Open ∷ (expr_tokens e ++ (Fixed mark.Close ∷ []))

abbrev pub word_token : Word → Token
word_token Sum = Fixed mark.Sum
word_token Enumerate = Fixed mark.Enumerate
word_token Reorder = Fixed mark.Reorder

abbrev pub query_tokens : Query → List Token
query_tokens (Single q v e) = (Fixed mark.Let ∷ Name v ∷ Fixed mark.Equal ∷ word_token q ∷ Fixed mark.Open ∷ []) ++ (expr_tokens e ++ (Fixed mark.Close ∷ []))
query_tokens (Lanes v w e k) = (Fixed mark.Let ∷ Name v ∷ Fixed mark.Comma ∷ Name w ∷ Fixed mark.Equal ∷ Fixed mark.Schedule ∷ Fixed mark.Open ∷ []) ++ (expr_tokens e ++ (Fixed mark.Close ∷ Fixed mark.Into ∷ Number k ∷ []))

abbrev pub levels_tokens : Option (Comma Expr) → List Token
levels_tokens None = []
levels_tokens (Some es) = comma_tokens expr_tokens es

abbrev pub number_tokens : ℕ → List Token
number_tokens k = Number k ∷ []

-- a word and the numbers after it, or nothing
abbrev pub numbers_tokens : Token → Option (Comma ℕ) → List Token
numbers_tokens t None = []
numbers_tokens t (Some ks) = t ∷ comma_tokens number_tokens ks

abbrev pub column_tokens : Column → List Token
column_tokens (Level k) = Number k ∷ []
column_tokens Val = Fixed mark.Val ∷ []

abbrev pub pack_tokens : Comma Column → List Token
pack_tokens cs = Fixed mark.Pack ∷ Fixed mark.Open ∷ (comma_tokens column_tokens cs ++ (Fixed mark.Close ∷ []))

abbrev pub queries_tokens : Run Query → List Token
queries_tokens qs = run_tokens query_tokens qs

abbrev pub map_tokens : Option (Comma Expr) → List Token
map_tokens ls = Fixed mark.Map ∷ Fixed mark.Open ∷ (levels_tokens ls ++ (Fixed mark.Close ∷ []))

abbrev pub part_tokens : Part → List Token
part_tokens p = queries_tokens p.queries ++ (map_tokens p.levels ++ (numbers_tokens (Fixed mark.Trim) p.trim ++ (numbers_tokens (Fixed mark.Merge) p.merge ++ run_tokens pack_tokens p.packs)))

abbrev pub sign_token : Bool → Token
sign_token true = Fixed mark.Less
sign_token false = Fixed mark.AtLeast

-- a part in its braces
abbrev pub braced : Part → List Token
braced p = Fixed mark.BraceOpen ∷ (part_tokens p ++ (Fixed mark.BraceClose ∷ []))

abbrev pub condition_tokens : List ℕ → Bool → ℕ → List Token
condition_tokens v less k = Fixed mark.Part ∷ Fixed mark.When ∷ Name v ∷ sign_token less ∷ Number k ∷ []

abbrev pub block_tokens : Block → List Token
block_tokens b = condition_tokens b.name b.less b.bound ++ braced b.part

abbrev pub blocks_tokens : Run Block → List Token
blocks_tokens bs = run_tokens block_tokens bs

abbrev pub head_tokens : Head → List Token
head_tokens h = queries_tokens h.queries ++ (blocks_tokens h.blocks ++ condition_tokens h.name h.less h.bound)

abbrev pub body_tokens : Body → List Token
body_tokens (Whole p) = part_tokens p
body_tokens (Split h p q) = head_tokens h ++ (braced p ++ (Fixed mark.Rest ∷ braced q))

abbrev pub decl_tokens : Decl → List Token
decl_tokens d = (Fixed mark.Format ∷ Name d.name ∷ Fixed mark.BraceOpen ∷ []) ++ (body_tokens d.body ++ (Fixed mark.BraceClose ∷ []))
