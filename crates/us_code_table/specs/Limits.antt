-- The limits of a text of loop code.
use Rattle.std.specs.Prelude.{ℕ, ◌+◌, ◌-◌, List, Bool, true, false, cond, ltb, Option, Some, None, ◌&&◌}
use Rattle.us_code_table.specs.declared.mark.Mark.TheVariants as m
use Rattle.us_code_table.specs.declared.note.Note.{Note}
use Rattle.us_code_table.specs.declared.note.Note.TheVariants.{Node, Item, ListName, SourceCount}
use Rattle.us_code_table.specs.declared.lexeme.Lexeme.{Lexeme}
use Rattle.us_code_table.specs.Table.{Class, Word, AZero, AOne, AMany, Token}
use Rattle.us_code_table.specs.Words.{token}
use Rattle.us_grammar.specs.Reading.{Limits}

pub data Break : Type 0 where
  TooBig : Break

-- Statements, new lines and dim lines so far; open braces; nodes of this expression so far; its open parentheses;
-- names of this list so far; and how many sources there are.
pub record Count : Type 0 where
  pub items : ℕ
  pub braces : ℕ
  pub nodes : ℕ
  pub parens : ℕ
  pub names : ℕ
  pub sources : ℕ

abbrev pub is_node : Option Note → Bool
is_node (Some Node) = true
is_node _ = false

abbrev pub is_item : Option Note → Bool
is_item (Some Item) = true
is_item _ = false

abbrev pub is_list_name : Option Note → Bool
is_list_name (Some ListName) = true
is_list_name _ = false

abbrev pub is_source_count : Option Note → Bool
is_source_count (Some SourceCount) = true
is_source_count _ = false

-- a token that stands in no expression, so that the next expression begins anew
abbrev pub is_between : Class → Bool
is_between (Word m.Equal) = true
is_between (Word m.BracketOpen) = true
is_between (Word m.Less) = true
is_between (Word m.Same) = true
is_between (Word m.To) = true
is_between (Word m.In) = true
is_between (Word m.Of) = true
is_between (Word m.If) = true
is_between (Word m.When) = true
is_between _ = false

-- a word behind which a list of names begins anew
abbrev pub begins_list : Class → Bool
begins_list (Word m.Give) = true
begins_list (Word m.Order) = true
begins_list (Word m.Set) = true
begins_list _ = false

abbrev pub items_behind : ℕ → Bool → ℕ
items_behind k true = k + 1
items_behind k false = k

abbrev pub nodes_behind : ℕ → Bool → Class → ℕ
nodes_behind k true c = k + 1
nodes_behind k false c = cond (is_between c) 0 k

abbrev pub names_behind : ℕ → Bool → Class → ℕ
names_behind k true c = k + 1
names_behind k false c = cond (begins_list c) 0 k

abbrev pub parens_behind : ℕ → Class → ℕ
parens_behind k (Word m.Open) = k + 1
parens_behind k (Word m.Close) = k - 1
parens_behind k _ = k

abbrev pub braces_behind : ℕ → Class → ℕ
braces_behind k (Word m.BraceOpen) = k + 1
braces_behind k (Word m.BraceClose) = k - 1
braces_behind k _ = k

abbrev pub measure : Count → Option Note → Token → Count
measure x o t = record {
  items = items_behind x.items (is_item o);
  braces = braces_behind x.braces t.class;
  nodes = nodes_behind x.nodes (is_node o) t.class;
  parens = parens_behind x.parens t.class;
  names = names_behind x.names (is_list_name o) t.class;
  sources = cond (is_source_count o) t.value x.sources;
}

-- a number is below 2^63, and the number of a name below 2^32
abbrev pub value_fits : Class → ℕ → Bool
value_fits AZero n = true
value_fits AOne n = true
value_fits AMany n = ltb n 9223372036854775808
value_fits (Word k) n = true
value_fits _ n = ltb n 4294967296

-- At most 65536 items, 64 blocks inside one another behind the braces of the code and of a phase, 256 nodes of an
-- expression, 64 parentheses inside one another, 4096 names of a list, and 4096 sources.
abbrev pub counts_fit : Count → Bool
counts_fit x = ltb x.items 65537 && (ltb x.braces 67 && (ltb x.nodes 257 && (ltb x.parens 65 && (ltb x.names 4097 && ltb x.sources 4097))))

abbrev pub check : Count → Token → Option Break
check x t = cond (counts_fit x && value_fits t.class t.value) None (Some TooBig)

abbrev pub nothing : Count
nothing = record { items = 0; braces = 0; nodes = 0; parens = 0; names = 0; sources = 0 }

abbrev pub limits : Limits Lexeme Token Note Count Break
limits = record { token = λ k w. token k; start = nothing; measure = measure; check = check }
