-- The limits of a text: how large its numbers, names, expressions and lists may be.
use Rattle.std.specs.Prelude.{ℕ, suc, ◌+◌, List, length, Bool, true, ltb, ◌&&◌, Option, Some, None}
use Rattle.us_decl.specs.Grammar.{Comma, Only, And, Run, Empty, Then, Expr, One, Plus, Less, Term, Just, Over, Rest, Factor, Row, Col, Named, Num, Group, Query, Single, Lanes, Part, Block, Head, Body, Whole, Split, Decl}
use Rattle.us_decl.specs.declared.column.Column.{Column}
use Rattle.us_decl.specs.declared.column.Column.TheVariants.{Level, Val}
use Rattle.us_decl.specs.Words.{is_name}
use Rattle.us_decl.specs.Names.{names_queries, names_levels, names_blocks, names_head}

abbrev pub count : {A : Type 0} → Comma A → ℕ
count (Only x) = 1
count (And xs x) = count xs + 1

abbrev pub count_run : {A : Type 0} → Run A → ℕ
count_run Empty = 0
count_run (Then xs x) = count_run xs + 1

abbrev pub all : {A : Type 0} → (A → Bool) → Comma A → Bool
all p (Only x) = p x
all p (And xs x) = all p xs && p x

abbrev pub all_run : {A : Type 0} → (A → Bool) → Run A → Bool
all_run p Empty = true
all_run p (Then xs x) = all_run p xs && p x

-- operands and operators; the number behind / or % is none
abbrev mutual
  pub nodes : Expr → ℕ
  nodes (One t) = nodes_term t
  nodes (Plus e t) = nodes e + 1 + nodes_term t
  nodes (Less e t) = nodes e + 1 + nodes_term t

  pub nodes_term : Term → ℕ
  nodes_term (Just f) = nodes_factor f
  nodes_term (Over t k) = nodes_term t + 1
  nodes_term (Rest t k) = nodes_term t + 1

  pub nodes_factor : Factor → ℕ
  nodes_factor Row = 1
  nodes_factor Col = 1
  nodes_factor (Named w) = 1
  nodes_factor (Num n) = 1
  nodes_factor (Group e) = nodes e

abbrev pub fits_nodes : ℕ → Bool
fits_nodes n = ltb n 33

-- a list of at most 16
abbrev pub fits_list : ℕ → Bool
fits_list n = ltb n 17

abbrev pub fits_number : ℕ → Bool
fits_number n = ltb n 2147483648

-- a name token is always a word and no word of the grammar; as a name it has at most 32 bytes
abbrev pub fits_name : List ℕ → Bool
fits_name w = is_name w

-- the names of a head or a part
abbrev pub fits_names : List (List ℕ) → Bool
fits_names ns = ltb (length ns) 33

-- numbers and names within their limits, and at most 32 parentheses one in the other; d of them stand around
abbrev mutual
  pub fits_expr : ℕ → Expr → Bool
  fits_expr d (One t) = fits_term d t
  fits_expr d (Plus e t) = fits_expr d e && fits_term d t
  fits_expr d (Less e t) = fits_expr d e && fits_term d t

  pub fits_term : ℕ → Term → Bool
  fits_term d (Just f) = fits_factor d f
  fits_term d (Over t k) = fits_term d t && fits_number (suc k)
  fits_term d (Rest t k) = fits_term d t && fits_number (suc k)

  pub fits_factor : ℕ → Factor → Bool
  fits_factor d Row = true
  fits_factor d Col = true
  fits_factor d (Named w) = fits_name w
  fits_factor d (Num n) = fits_number n
  fits_factor d (Group e) = ltb d 32 && fits_expr (suc d) e

abbrev pub fits_whole : Expr → Bool
fits_whole e = fits_expr 0 e && fits_nodes (nodes e)

abbrev pub fits_query : Query → Bool
fits_query (Single q v e) = fits_name v && fits_whole e
fits_query (Lanes v w e k) = fits_name v && (fits_name w && (fits_whole e && fits_number k))

abbrev pub fits_queries : Run Query → Bool
fits_queries qs = all_run fits_query qs && (fits_list (count_run qs) && fits_names (names_queries qs))

abbrev pub count_levels : Option (Comma Expr) → ℕ
count_levels None = 0
count_levels (Some es) = count es

abbrev pub all_levels : Option (Comma Expr) → Bool
all_levels None = true
all_levels (Some es) = all fits_whole es

abbrev pub fits_levels : Run Query → Option (Comma Expr) → Bool
fits_levels qs ls = all_levels ls && (fits_list (count_levels ls) && fits_names (names_levels ls (names_queries qs)))

abbrev pub fits_numbers : Option (Comma ℕ) → Bool
fits_numbers None = true
fits_numbers (Some ks) = all fits_number ks && fits_list (count ks)

abbrev pub fits_column : Column → Bool
fits_column (Level k) = fits_number k
fits_column Val = true

abbrev pub fits_pack : Comma Column → Bool
fits_pack cs = all fits_column cs && fits_list (count cs)

abbrev pub fits_packs : Run (Comma Column) → Bool
fits_packs ps = all_run fits_pack ps && fits_list (count_run ps)

abbrev pub fits_part : Part → Bool
fits_part p = fits_queries p.queries && (fits_levels p.queries p.levels && (fits_numbers p.trim && (fits_numbers p.merge && fits_packs p.packs)))

abbrev pub fits_block : Block → Bool
fits_block b = fits_name b.name && (fits_number b.bound && fits_part b.part)

-- the blocks behind these queries, where one more follows: there are at most three in all
abbrev pub fits_blocks : Run Query → Run Block → Bool
fits_blocks qs bs = all_run fits_block bs && (ltb (count_run bs) 3 && fits_names (names_blocks bs (names_queries qs)))

abbrev pub fits_head : Head → Bool
fits_head h = fits_queries h.queries && (fits_blocks h.queries h.blocks && (fits_name h.name && (fits_names (names_head h) && fits_number h.bound)))

abbrev pub fits_body : Body → Bool
fits_body (Whole p) = fits_part p
fits_body (Split h p q) = fits_head h && (fits_part p && fits_part q)

abbrev pub fits_decl : Decl → Bool
fits_decl d = fits_name d.name && fits_body d.body
