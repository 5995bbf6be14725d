-- The limits of what has been read so far.
use Rattle.std.specs.Prelude.{ℕ, ◌+◌, List, [], ◌∷◌, length, Bool, true, cond, ltb, ◌&&◌, Option, Some, None}
use Rattle.us_decl.specs.Grammar.{Comma, Run, Query, Expr, Term, Part, Block}
use Rattle.us_decl.specs.declared.column.Column.{Column}
use Rattle.us_decl.specs.Names.{is_among, with_name, names_queries, names_levels, names_blocks, names_expr, names_term}
use Rattle.us_decl.specs.Limits.{count_run, count_levels, nodes, nodes_term, all_levels, fits_nodes, fits_list, fits_name, fits_names, fits_expr, fits_term, fits_whole, fits_queries, fits_levels, fits_numbers, fits_pack, fits_part, fits_blocks, fits_head, fits_decl}
use Rattle.us_parse.specs.Piece.{Before, BehindName, BehindHead, BehindBlocks, Asked, OneVariable, TwoVariables, Use, Argument, Mapped, Hole, Begin, AfterPlus, AfterMinus, Piece, AtFormat, AtName, AtBrace, Between, AtVariable, AfterVariable, AtWord, AtSlot, AtEqual, AtSchedule, AtArgument, Operand, Divisor, After, AtInto, AtLanes, AtMap, AtLevels, Tail, AtTrim, AtMerge, AtPack, AtColumn, AfterColumn, AtWhen, AtCondition, AtSign, AtBound, AtPart, AtRest, AtLast, AtEnd, Done}

abbrev pub fits_before : Before → Bool
fits_before (BehindName n) = fits_name n
fits_before (BehindHead n h) = fits_name n && fits_head h
fits_before (BehindBlocks n h p) = fits_name n && (fits_head h && fits_part p)

-- a part up to its queries
abbrev pub fits_front : Before → Run Query → Bool
fits_front b qs = fits_before b && fits_queries qs

-- one more query has begun
abbrev pub fits_begun : Before → Run Query → Bool
fits_begun b qs = fits_front b qs && ltb (count_run qs) 16

abbrev pub fits_one : Before → Run Query → List ℕ → Bool
fits_one b qs v = fits_begun b qs && (fits_name v && fits_names (with_name v (names_queries qs)))

abbrev pub fits_two : Before → Run Query → List ℕ → List ℕ → Bool
fits_two b qs v w = fits_one b qs v && (fits_name w && fits_names (with_name w (with_name v (names_queries qs))))

abbrev pub fits_asked : Before → Run Query → Asked → Bool
fits_asked b qs (OneVariable q v) = fits_one b qs v
fits_asked b qs (TwoVariables v w) = fits_two b qs v w

abbrev pub names_asked : Asked → List (List ℕ) → List (List ℕ)
names_asked (OneVariable q v) ns = with_name v ns
names_asked (TwoVariables v w) ns = with_name w (with_name v ns)

-- the names in front of an expression
abbrev pub names_use : Use → List (List ℕ)
names_use (Argument b qs q) = names_asked q (names_queries qs)
names_use (Mapped b qs ls) = names_levels ls (names_queries qs)

-- what stands in front of an expression, with so many items more
abbrev pub fits_use : ℕ → Use → Bool
fits_use k (Argument b qs q) = fits_asked b qs q
fits_use k (Mapped b qs ls) = fits_front b qs && (all_levels ls && fits_list (count_levels ls + k))

abbrev pub names_hole : Hole → List (List ℕ) → List (List ℕ)
names_hole Begin ns = ns
names_hole (AfterPlus e) ns = names_expr e ns
names_hole (AfterMinus e) ns = names_expr e ns

-- names with those that stand before an operand
abbrev pub names_open : Hole → List Hole → List (List ℕ) → List (List ℕ)
names_open h [] ns = names_hole h ns
names_open h (g ∷ os) ns = names_hole h (names_open g os ns)

abbrev pub nodes_hole : Hole → ℕ
nodes_hole Begin = 0
nodes_hole (AfterPlus e) = nodes e + 1
nodes_hole (AfterMinus e) = nodes e + 1

-- the nodes that stand before an operand
abbrev pub held : Hole → List Hole → ℕ
held h [] = nodes_hole h
held h (g ∷ os) = nodes_hole h + held g os

abbrev pub fits_hole : ℕ → Hole → Bool
fits_hole d Begin = true
fits_hole d (AfterPlus e) = fits_expr d e
fits_hole d (AfterMinus e) = fits_expr d e

-- what stands before an operand: literals, and the depth of the parentheses
abbrev pub fits_open : Hole → List Hole → Bool
fits_open h [] = fits_hole 0 h
fits_open h (g ∷ os) = fits_open g os && (ltb (length os) 32 && fits_hole (length (g ∷ os)) h)

-- how many levels begin with what stands before an operand
abbrev pub begun : Hole → List Hole → ℕ
begun Begin [] = 0
begun (AfterPlus e) [] = 1
begun (AfterMinus e) [] = 1
begun h (g ∷ os) = 1

-- an expression up to some place, with its nodes and names there
abbrev pub fits_inside : ℕ → Use → Hole → List Hole → ℕ → List (List ℕ) → Bool
fits_inside k u h os n ns = fits_use k u && (fits_open h os && (fits_nodes n && fits_names ns))

abbrev pub fits_behind : Use → Hole → Term → List Hole → ℕ → Bool
fits_behind u h t os k = fits_inside 1 u h os (held h os + nodes_term t + k) (names_term t (names_open h os (names_use u))) && fits_term (length os) t

-- a query whose argument is read
abbrev pub fits_lanes : Before → Run Query → List ℕ → List ℕ → Expr → Bool
fits_lanes b qs v w e = fits_two b qs v w && (fits_whole e && fits_names (names_expr e (with_name w (with_name v (names_queries qs)))))

abbrev pub fits_columns : Option (Comma Column) → Bool
fits_columns None = true
fits_columns (Some cs) = fits_pack cs

abbrev pub fits_packing : Before → Part → Bool
fits_packing b p = fits_before b && (fits_part p && ltb (count_run p.packs) 16)

-- one more condition has begun
abbrev pub fits_divided : List ℕ → Run Query → Run Block → Bool
fits_divided n qs bs = fits_name n && (fits_queries qs && fits_blocks qs bs)

abbrev pub fits_condition : List ℕ → Run Query → Run Block → List ℕ → Bool
fits_condition n qs bs v = fits_name n && (fits_queries qs && (fits_blocks qs bs && (fits_name v && fits_names (with_name v (names_blocks bs (names_queries qs))))))

abbrev pub fits : Piece → Bool
fits AtFormat = true
fits AtName = true
fits (AtBrace n) = fits_name n
fits (Between b qs) = fits_front b qs
fits (AtVariable b qs) = fits_begun b qs
fits (AfterVariable b qs v) = fits_one b qs v
fits (AtWord b qs v) = fits_one b qs v
fits (AtSlot b qs v) = fits_one b qs v
fits (AtEqual b qs v w) = fits_two b qs v w
fits (AtSchedule b qs v w) = fits_two b qs v w
fits (AtArgument b qs q) = fits_asked b qs q
fits (Operand u h os) = fits_inside (begun h os) u h os (held h os) (names_open h os (names_use u))
fits (Divisor over u h t os) = fits_behind u h t os 1
fits (After u h t os) = fits_behind u h t os 0
fits (AtInto b qs v w e) = fits_lanes b qs v w e
fits (AtLanes b qs v w e) = fits_lanes b qs v w e
fits (AtMap b qs) = fits_front b qs
fits (AtLevels b qs) = fits_front b qs
fits (Tail b p) = fits_before b && fits_part p
fits (AtTrim b qs ls ks) = fits_front b qs && (fits_levels qs ls && fits_numbers ks)
fits (AtMerge b qs ls cut ks) = fits_front b qs && (fits_levels qs ls && (fits_numbers cut && fits_numbers ks))
fits (AtPack b p) = fits_packing b p
fits (AtColumn b p cs) = fits_packing b p && fits_columns cs
fits (AfterColumn b p cs) = fits_packing b p && fits_pack cs
fits (AtWhen n qs bs) = fits_divided n qs bs
fits (AtCondition n qs bs) = fits_divided n qs bs
fits (AtSign n qs bs v) = fits_condition n qs bs v
fits (AtBound n qs bs v less) = fits_condition n qs bs v
fits (AtPart n h) = fits_name n && fits_head h
fits (AtRest n h p) = fits_name n && (fits_head h && fits_part p)
fits (AtLast n h p) = fits_name n && (fits_head h && fits_part p)
fits (AtEnd n h p q) = fits_name n && (fits_head h && (fits_part p && fits_part q))
fits (Done d) = fits_decl d

-- the way in which a piece breaks the rules, where these names are those of the earlier declarations
pub data Break : Type 0 where
  TooBig : Break
  Repeated : Break

abbrev pub repeats : List (List ℕ) → Piece → Option Break
repeats earlier (AtBrace n) = cond (is_among n earlier) (Some Repeated) None
repeats earlier _ = None

-- there is room for the declaration that begins
abbrev pub has_room : List (List ℕ) → Piece → Bool
has_room earlier AtName = ltb (length earlier) 256
has_room earlier _ = true

abbrev pub check : List (List ℕ) → Piece → Option Break
check earlier s = cond (has_room earlier s && fits s) (repeats earlier s) (Some TooBig)
