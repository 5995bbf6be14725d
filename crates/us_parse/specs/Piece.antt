-- A text of the grammar that was cut off behind a token: what has been read so far, what it spells, and what one more token makes of it.
use Rattle.std.specs.Prelude.{ℕ, zero, suc, List, [], ◌∷◌, ◌++◌, Option, Some, None, Bool, true, false, cond}
use Rattle.us_decl.specs.Token.{Token, Fixed, Name, Number, same}
use Rattle.us_decl.specs.declared.mark.Mark.{Mark}
use Rattle.us_decl.specs.declared.mark.Mark.TheVariants as mark
use Rattle.us_decl.specs.declared.column.Column.{Column}
use Rattle.us_decl.specs.declared.column.Column.TheVariants.{Level, Val}
use Rattle.us_decl.specs.Grammar.{Comma, Only, And, Run, Empty, Then, Expr, One, Plus, Less, Term, Just, Over, Rest, Row, Col, Named, Num, Group, Word, Sum, Enumerate, Reorder, Query, Single, Lanes, Part, Block, Head, Whole, Split, Decl, blocks_of, alone, expr_tokens, term_tokens, comma_tokens, word_token, queries_tokens, map_tokens, number_tokens, numbers_tokens, column_tokens, part_tokens, sign_token, braced, blocks_tokens, head_tokens, decl_tokens}

-- what stands before a part: the name alone, the head too, or the head and the part of its last condition
pub data Before : Type 0 where
  BehindName : List ℕ → Before
  BehindHead : List ℕ → Head → Before
  BehindBlocks : List ℕ → Head → Part → Before

-- what stands before the parenthesis of a query
pub data Asked : Type 0 where
  OneVariable : Word → List ℕ → Asked
  TwoVariables : List ℕ → List ℕ → Asked

-- what an expression is for: a query, or one more level
pub data Use : Type 0 where
  Argument : Before → Run Query → Asked → Use
  Mapped : Before → Run Query → Option (Comma Expr) → Use

-- what stands before an operand in its parenthesis
pub data Hole : Type 0 where
  Begin : Hole
  AfterPlus : Expr → Hole
  AfterMinus : Expr → Hole

pub data Piece : Type 0 where
  AtFormat : Piece
  AtName : Piece
  AtBrace : List ℕ → Piece
  Between : Before → Run Query → Piece
  AtVariable : Before → Run Query → Piece
  AfterVariable : Before → Run Query → List ℕ → Piece
  AtWord : Before → Run Query → List ℕ → Piece
  AtSlot : Before → Run Query → List ℕ → Piece
  AtEqual : Before → Run Query → List ℕ → List ℕ → Piece
  AtSchedule : Before → Run Query → List ℕ → List ℕ → Piece
  AtArgument : Before → Run Query → Asked → Piece
  Operand : Use → Hole → List Hole → Piece  -- the open parentheses, the innermost first
  Divisor : Bool → Use → Hole → Term → List Hole → Piece  -- / or %
  After : Use → Hole → Term → List Hole → Piece
  AtInto : Before → Run Query → List ℕ → List ℕ → Expr → Piece
  AtLanes : Before → Run Query → List ℕ → List ℕ → Expr → Piece
  AtMap : Before → Run Query → Piece
  AtLevels : Before → Run Query → Piece
  Tail : Before → Part → Piece
  AtTrim : Before → Run Query → Option (Comma Expr) → Option (Comma ℕ) → Piece
  AtMerge : Before → Run Query → Option (Comma Expr) → Option (Comma ℕ) → Option (Comma ℕ) → Piece
  AtPack : Before → Part → Piece
  AtColumn : Before → Part → Option (Comma Column) → Piece
  AfterColumn : Before → Part → Comma Column → Piece
  AtWhen : List ℕ → Run Query → Run Block → Piece
  AtCondition : List ℕ → Run Query → Run Block → Piece
  AtSign : List ℕ → Run Query → Run Block → List ℕ → Piece
  AtBound : List ℕ → Run Query → Run Block → List ℕ → Bool → Piece
  AtPart : List ℕ → Head → Piece
  AtRest : List ℕ → Head → Part → Piece  -- or one more condition
  AtLast : List ℕ → Head → Part → Piece
  AtEnd : List ℕ → Head → Part → Part → Piece
  Done : Decl → Piece

-- What a piece spells.

abbrev pub hole_tokens : Hole → List Token
hole_tokens Begin = []
hole_tokens (AfterPlus e) = expr_tokens e ++ alone (Fixed mark.Plus)
hole_tokens (AfterMinus e) = expr_tokens e ++ alone (Fixed mark.Minus)

abbrev pub outer_tokens : List Hole → List Token
outer_tokens [] = []
outer_tokens (h ∷ os) = outer_tokens os ++ (hole_tokens h ++ alone (Fixed mark.Open))

-- a list so far, with the comma behind it
abbrev pub so_far : {A : Type 0} → (A → List Token) → Option (Comma A) → List Token
so_far f None = []
so_far f (Some xs) = comma_tokens f xs ++ alone (Fixed mark.Comma)

abbrev pub named : List ℕ → List Token
named n = Fixed mark.Format ∷ Name n ∷ Fixed mark.BraceOpen ∷ []

abbrev pub before_tokens : Before → List Token
before_tokens (BehindName n) = named n
before_tokens (BehindHead n h) = named n ++ (head_tokens h ++ alone (Fixed mark.BraceOpen))
before_tokens (BehindBlocks n h p) = named n ++ (head_tokens h ++ (braced p ++ (Fixed mark.Rest ∷ Fixed mark.BraceOpen ∷ [])))

abbrev pub asked_tokens : Asked → List Token
asked_tokens (OneVariable q v) = Fixed mark.Let ∷ Name v ∷ Fixed mark.Equal ∷ word_token q ∷ []
asked_tokens (TwoVariables v w) = Fixed mark.Let ∷ Name v ∷ Fixed mark.Comma ∷ Name w ∷ Fixed mark.Equal ∷ Fixed mark.Schedule ∷ []

-- a part up to its queries
abbrev pub front : Before → Run Query → List Token
front b qs = before_tokens b ++ queries_tokens qs

abbrev pub use_tokens : Use → List Token
use_tokens (Argument b qs q) = front b qs ++ (asked_tokens q ++ alone (Fixed mark.Open))
use_tokens (Mapped b qs ls) = front b qs ++ (Fixed mark.Map ∷ Fixed mark.Open ∷ so_far expr_tokens ls)

abbrev pub up_to : Use → Hole → List Hole → List Token
up_to u h os = use_tokens u ++ (outer_tokens os ++ hole_tokens h)

abbrev pub scheduled : List ℕ → List ℕ → Expr → List Token
scheduled v w e = asked_tokens (TwoVariables v w) ++ (Fixed mark.Open ∷ (expr_tokens e ++ alone (Fixed mark.Close)))

abbrev pub divide_token : Bool → Token
divide_token true = Fixed mark.Slash
divide_token false = Fixed mark.Percent

abbrev pub split_tokens : List ℕ → Head → Part → List Token
split_tokens n h p = named n ++ (head_tokens h ++ braced p)

abbrev pub spelled : Piece → List Token
spelled AtFormat = []
spelled AtName = Fixed mark.Format ∷ []
spelled (AtBrace n) = Fixed mark.Format ∷ Name n ∷ []
spelled (Between b qs) = front b qs
spelled (AtVariable b qs) = front b qs ++ (Fixed mark.Let ∷ [])
spelled (AfterVariable b qs v) = front b qs ++ (Fixed mark.Let ∷ Name v ∷ [])
spelled (AtWord b qs v) = front b qs ++ (Fixed mark.Let ∷ Name v ∷ Fixed mark.Equal ∷ [])
spelled (AtSlot b qs v) = front b qs ++ (Fixed mark.Let ∷ Name v ∷ Fixed mark.Comma ∷ [])
spelled (AtEqual b qs v w) = front b qs ++ (Fixed mark.Let ∷ Name v ∷ Fixed mark.Comma ∷ Name w ∷ [])
spelled (AtSchedule b qs v w) = front b qs ++ (Fixed mark.Let ∷ Name v ∷ Fixed mark.Comma ∷ Name w ∷ Fixed mark.Equal ∷ [])
spelled (AtArgument b qs q) = front b qs ++ asked_tokens q
spelled (Operand u h os) = up_to u h os
spelled (Divisor over u h t os) = up_to u h os ++ (term_tokens t ++ alone (divide_token over))
spelled (After u h t os) = up_to u h os ++ term_tokens t
spelled (AtInto b qs v w e) = front b qs ++ scheduled v w e
spelled (AtLanes b qs v w e) = front b qs ++ (scheduled v w e ++ alone (Fixed mark.Into))
spelled (AtMap b qs) = front b qs ++ (Fixed mark.Map ∷ [])
spelled (AtLevels b qs) = front b qs ++ (Fixed mark.Map ∷ Fixed mark.Open ∷ [])
spelled (Tail b p) = before_tokens b ++ part_tokens p
spelled (AtTrim b qs ls ks) = front b qs ++ (map_tokens ls ++ (Fixed mark.Trim ∷ so_far number_tokens ks))
spelled (AtMerge b qs ls cut ks) = front b qs ++ (map_tokens ls ++ (numbers_tokens (Fixed mark.Trim) cut ++ (Fixed mark.Merge ∷ so_far number_tokens ks)))
spelled (AtPack b p) = before_tokens b ++ (part_tokens p ++ alone (Fixed mark.Pack))
spelled (AtColumn b p cs) = before_tokens b ++ (part_tokens p ++ (Fixed mark.Pack ∷ Fixed mark.Open ∷ so_far column_tokens cs))
spelled (AfterColumn b p cs) = before_tokens b ++ (part_tokens p ++ (Fixed mark.Pack ∷ Fixed mark.Open ∷ comma_tokens column_tokens cs))
spelled (AtWhen n qs bs) = named n ++ (queries_tokens qs ++ (blocks_tokens bs ++ (Fixed mark.Part ∷ [])))
spelled (AtCondition n qs bs) = named n ++ (queries_tokens qs ++ (blocks_tokens bs ++ (Fixed mark.Part ∷ Fixed mark.When ∷ [])))
spelled (AtSign n qs bs v) = named n ++ (queries_tokens qs ++ (blocks_tokens bs ++ (Fixed mark.Part ∷ Fixed mark.When ∷ Name v ∷ [])))
spelled (AtBound n qs bs v less) = named n ++ (queries_tokens qs ++ (blocks_tokens bs ++ (Fixed mark.Part ∷ Fixed mark.When ∷ Name v ∷ sign_token less ∷ [])))
spelled (AtPart n h) = named n ++ head_tokens h
spelled (AtRest n h p) = split_tokens n h p
spelled (AtLast n h p) = split_tokens n h p ++ alone (Fixed mark.Rest)
spelled (AtEnd n h p q) = split_tokens n h p ++ (Fixed mark.Rest ∷ braced q)
spelled (Done d) = decl_tokens d

-- What one more token makes of a piece; none where it can't continue it.

abbrev pub expect : Mark → Piece → Token → Option Piece
expect m s (Fixed k) = cond (same k m) (Some s) None
expect m s (Name w) = None
expect m s (Number n) = None

abbrev pub a_name : (List ℕ → Piece) → Token → Option Piece
a_name f (Name w) = Some (f w)
a_name f (Fixed k) = None
a_name f (Number n) = None

abbrev pub a_number : (ℕ → Piece) → Token → Option Piece
a_number f (Number k) = Some (f k)
a_number f (Fixed k) = None
a_number f (Name w) = None

abbrev pub one_more : {A : Type 0} → Option (Comma A) → A → Comma A
one_more None x = Only x
one_more (Some xs) x = And xs x

abbrev pub part_of : Run Query → Option (Comma Expr) → Part
part_of qs ls = record { queries = qs; levels = ls; trim = None; merge = None; packs = Empty }

-- a condition may follow where the queries stand right behind the name
abbrev pub headed : Before → Run Query → Option Piece
headed (BehindName n) qs = Some (AtWhen n qs Empty)
headed (BehindHead n h) qs = None
headed (BehindBlocks n h p) qs = None

abbrev pub between : Before → Run Query → Token → Option Piece
between b qs (Fixed mark.Let) = Some (AtVariable b qs)
between b qs (Fixed mark.Map) = Some (AtMap b qs)
between b qs (Fixed mark.Part) = headed b qs
between b qs _ = None

abbrev pub after_variable : Before → Run Query → List ℕ → Token → Option Piece
after_variable b qs v (Fixed mark.Equal) = Some (AtWord b qs v)
after_variable b qs v (Fixed mark.Comma) = Some (AtSlot b qs v)
after_variable b qs v _ = None

abbrev pub a_word : Before → Run Query → List ℕ → Token → Option Piece
a_word b qs v (Fixed mark.Sum) = Some (AtArgument b qs (OneVariable Sum v))
a_word b qs v (Fixed mark.Enumerate) = Some (AtArgument b qs (OneVariable Enumerate v))
a_word b qs v (Fixed mark.Reorder) = Some (AtArgument b qs (OneVariable Reorder v))
a_word b qs v _ = None

abbrev pub filled : Hole → Term → Expr
filled Begin t = One t
filled (AfterPlus e) t = Plus e t
filled (AfterMinus e) t = Less e t

abbrev pub operand : Use → Hole → List Hole → Token → Option Piece
operand u h os (Fixed mark.I) = Some (After u h (Just Row) os)
operand u h os (Fixed mark.J) = Some (After u h (Just Col) os)
operand u h os (Fixed mark.Open) = Some (Operand u Begin (h ∷ os))
operand u h os (Name w) = Some (After u h (Just (Named w)) os)
operand u h os (Number n) = Some (After u h (Just (Num n)) os)
operand u h os _ = None

abbrev pub divided : Bool → Term → ℕ → Term
divided true t k = Over t k
divided false t k = Rest t k

abbrev pub divisor : Bool → Use → Hole → Term → List Hole → Token → Option Piece
divisor over u h t os (Number zero) = None
divisor over u h t os (Number (suc k)) = Some (After u h (divided over t k) os)
divisor over u h t os (Fixed m) = None
divisor over u h t os (Name w) = None

-- behind the parenthesis of a query or of the levels
abbrev pub ended : Use → Expr → Piece
ended (Argument b qs (OneVariable q v)) e = Between b (Then qs (Single q v e))
ended (Argument b qs (TwoVariables v w)) e = AtInto b qs v w e
ended (Mapped b qs ls) e = Tail b (part_of qs (Some (one_more ls e)))

abbrev pub closed : Use → Expr → List Hole → Piece
closed u e [] = ended u e
closed u e (g ∷ os) = After u g (Just (Group e)) os

-- behind a comma
abbrev pub parted : Use → Expr → List Hole → Option Piece
parted (Mapped b qs ls) e [] = Some (Operand (Mapped b qs (Some (one_more ls e))) Begin [])
parted (Mapped b qs ls) e (g ∷ os) = None
parted (Argument b qs q) e os = None

abbrev pub after : Use → Hole → Term → List Hole → Token → Option Piece
after u h t os (Fixed mark.Plus) = Some (Operand u (AfterPlus (filled h t)) os)
after u h t os (Fixed mark.Minus) = Some (Operand u (AfterMinus (filled h t)) os)
after u h t os (Fixed mark.Slash) = Some (Divisor true u h t os)
after u h t os (Fixed mark.Percent) = Some (Divisor false u h t os)
after u h t os (Fixed mark.Close) = Some (closed u (filled h t) os)
after u h t os (Fixed mark.Comma) = parted u (filled h t) os
after u h t os _ = None

abbrev pub at_levels : Before → Run Query → Token → Option Piece
at_levels b qs (Fixed mark.Close) = Some (Tail b (part_of qs None))
at_levels b qs t = operand (Mapped b qs None) Begin [] t

-- behind a whole part
abbrev pub finished : Before → Part → Piece
finished (BehindName n) p = Done (record { name = n; body = Whole p })
finished (BehindHead n h) p = AtRest n h p
finished (BehindBlocks n h p) q = AtEnd n h p q

-- behind the map, the trim or the merge: a comma continues the numbers that stand last
abbrev pub more_numbers : Before → Run Query → Option (Comma Expr) → Option (Comma ℕ) → Option (Comma ℕ) → Run (Comma Column) → Option Piece
more_numbers b qs ls cut (Some ks) Empty = Some (AtMerge b qs ls cut (Some ks))
more_numbers b qs ls (Some ks) None Empty = Some (AtTrim b qs ls (Some ks))
more_numbers b qs ls None None Empty = None
more_numbers b qs ls cut me (Then ps p) = None

abbrev pub a_trim : Before → Run Query → Option (Comma Expr) → Option (Comma ℕ) → Option (Comma ℕ) → Run (Comma Column) → Option Piece
a_trim b qs ls None None Empty = Some (AtTrim b qs ls None)
a_trim b qs ls (Some ks) me ps = None
a_trim b qs ls None (Some ks) ps = None
a_trim b qs ls None None (Then ps p) = None

abbrev pub a_merge : Before → Run Query → Option (Comma Expr) → Option (Comma ℕ) → Option (Comma ℕ) → Run (Comma Column) → Option Piece
a_merge b qs ls cut None Empty = Some (AtMerge b qs ls cut None)
a_merge b qs ls cut (Some ks) ps = None
a_merge b qs ls cut None (Then ps p) = None

abbrev pub tail : Before → Part → Token → Option Piece
tail b p (Fixed mark.Comma) = more_numbers b p.queries p.levels p.trim p.merge p.packs
tail b p (Fixed mark.Trim) = a_trim b p.queries p.levels p.trim p.merge p.packs
tail b p (Fixed mark.Merge) = a_merge b p.queries p.levels p.trim p.merge p.packs
tail b p (Fixed mark.Pack) = Some (AtPack b p)
tail b p (Fixed mark.BraceClose) = Some (finished b p)
tail b p _ = None

abbrev pub trimmed : Run Query → Option (Comma Expr) → Comma ℕ → Part
trimmed qs ls ks = record { queries = qs; levels = ls; trim = Some ks; merge = None; packs = Empty }

abbrev pub merged : Run Query → Option (Comma Expr) → Option (Comma ℕ) → Comma ℕ → Part
merged qs ls cut ks = record { queries = qs; levels = ls; trim = cut; merge = Some ks; packs = Empty }

abbrev pub packed : Part → Comma Column → Part
packed p cs = record { queries = p.queries; levels = p.levels; trim = p.trim; merge = p.merge; packs = Then p.packs cs }

abbrev pub a_column : Before → Part → Option (Comma Column) → Token → Option Piece
a_column b p cs (Fixed mark.Val) = Some (AfterColumn b p (one_more cs Val))
a_column b p cs (Number k) = Some (AfterColumn b p (one_more cs (Level k)))
a_column b p cs _ = None

abbrev pub after_column : Before → Part → Comma Column → Token → Option Piece
after_column b p cs (Fixed mark.Comma) = Some (AtColumn b p (Some cs))
after_column b p cs (Fixed mark.Close) = Some (Tail b (packed p cs))
after_column b p cs _ = None

abbrev pub a_sign : List ℕ → Run Query → Run Block → List ℕ → Token → Option Piece
a_sign n qs bs v (Fixed mark.Less) = Some (AtBound n qs bs v true)
a_sign n qs bs v (Fixed mark.AtLeast) = Some (AtBound n qs bs v false)
a_sign n qs bs v _ = None

abbrev pub head_of : Run Query → Run Block → List ℕ → Bool → ℕ → Head
head_of qs bs v less k = record { queries = qs; blocks = bs; name = v; less = less; bound = k }

-- behind the part of a condition
abbrev pub at_rest : List ℕ → Head → Part → Token → Option Piece
at_rest n h p (Fixed mark.Rest) = Some (AtLast n h p)
at_rest n h p (Fixed mark.Part) = Some (AtWhen n h.queries (blocks_of h p))
at_rest n h p _ = None

abbrev pub step : Piece → Token → Option Piece
step AtFormat t = expect mark.Format AtName t
step AtName t = a_name AtBrace t
step (AtBrace n) t = expect mark.BraceOpen (Between (BehindName n) Empty) t
step (Between b qs) t = between b qs t
step (AtVariable b qs) t = a_name (AfterVariable b qs) t
step (AfterVariable b qs v) t = after_variable b qs v t
step (AtWord b qs v) t = a_word b qs v t
step (AtSlot b qs v) t = a_name (AtEqual b qs v) t
step (AtEqual b qs v w) t = expect mark.Equal (AtSchedule b qs v w) t
step (AtSchedule b qs v w) t = expect mark.Schedule (AtArgument b qs (TwoVariables v w)) t
step (AtArgument b qs q) t = expect mark.Open (Operand (Argument b qs q) Begin []) t
step (Operand u h os) t = operand u h os t
step (Divisor over u h r os) t = divisor over u h r os t
step (After u h r os) t = after u h r os t
step (AtInto b qs v w e) t = expect mark.Into (AtLanes b qs v w e) t
step (AtLanes b qs v w e) t = a_number (λ k. Between b (Then qs (Lanes v w e k))) t
step (AtMap b qs) t = expect mark.Open (AtLevels b qs) t
step (AtLevels b qs) t = at_levels b qs t
step (Tail b p) t = tail b p t
step (AtTrim b qs ls ks) t = a_number (λ k. Tail b (trimmed qs ls (one_more ks k))) t
step (AtMerge b qs ls cut ks) t = a_number (λ k. Tail b (merged qs ls cut (one_more ks k))) t
step (AtPack b p) t = expect mark.Open (AtColumn b p None) t
step (AtColumn b p cs) t = a_column b p cs t
step (AfterColumn b p cs) t = after_column b p cs t
step (AtWhen n qs bs) t = expect mark.When (AtCondition n qs bs) t
step (AtCondition n qs bs) t = a_name (AtSign n qs bs) t
step (AtSign n qs bs v) t = a_sign n qs bs v t
step (AtBound n qs bs v less) t = a_number (λ k. AtPart n (head_of qs bs v less k)) t
step (AtPart n h) t = expect mark.BraceOpen (Between (BehindHead n h) Empty) t
step (AtRest n h p) t = at_rest n h p t
step (AtLast n h p) t = expect mark.BraceOpen (Between (BehindBlocks n h p) Empty) t
step (AtEnd n h p q) t = expect mark.BraceClose (Done (record { name = n; body = Split h p q })) t
step (Done d) t = None
