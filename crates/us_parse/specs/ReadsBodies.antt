-- What reading parts, heads and bodies does to the machine, wherever they stand.
use Rattle.std.specs.Prelude.{◌≡◌, ◌≤◌, ◌⊎◌, ℕ, Bool, true, false, ◌&&◌, List, [], ◌++◌, length, map, Option, Result, Ok, Err}
use Rattle.us_tokens.specs.Text.{Text}
use Rattle.us_expr.specs.Tree.{tree}
use Rattle.us_expr.specs.declared.expression.Expr as code
use Rattle.us_expr.specs.declared.queries.Query as asked
use Rattle.us_decl.specs.Token.{Fixed}
use Rattle.us_decl.specs.declared.mark.Mark.{Mark}
use Rattle.us_decl.specs.declared.mark.Mark.TheVariants as mark
use Rattle.us_decl.specs.declared.column.Column.{Column}
use Rattle.us_decl.specs.declared.lexeme.Lexeme.{Lexeme}
use Rattle.us_parse.specs.declared.stop.Stop.{Stop}
use Rattle.us_parse.specs.declared.storage.Storage.{Storage}
use Rattle.us_decl.specs.declared.decl.Part as parts
use Rattle.us_decl.specs.Grammar.{Comma, Run, Empty, Expr, Query, Part}
use Rattle.us_parse.specs.Piece.{Before, BehindName, BehindHead, BehindBlocks, Between, Tail, part_of}
use Rattle.us_decl.specs.Names.{names_queries, names_levels, names_part}
use Rattle.us_decl.specs.Limits.{all_run, count_run, fits_pack, fits_part}
use Rattle.us_parse.specs.Within.{fits, fits_before}
use Rattle.us_decl.specs.Declares.{query_of, comma_items, maybe_items, run_items}
use Rattle.us_decl.specs.Declares as declares
use Rattle.us_decl.specs.Views.{query_view, part_view}
use Rattle.us_parse.specs.Reads.{Took, lead, is_fixed, Leads, Fails}
use Rattle.us_parse.specs.ReadsParts.{AtFront, ReadsNumbers}

-- packs so far, one after the other
abbrev pub with_packs : Part → Run (Comma Column) → Part
with_packs p ps = record { queries = p.queries; levels = p.levels; trim = p.trim; merge = p.merge; packs = ps }

pub record GoesPacks (old new : Text Lexeme) (packs : List (List Column)) : Type 0 where
  pub text : Run (Comma Column)
  pub is : map comma_items (run_items text) ≡ packs
  pub all : all_run fits_pack text ≡ true
  pub count : count_run text ≡ length packs
  pub few : length packs ≤ 16
  pub same : text ≡ Empty → new ≡ old
  pub goes : (b : Before) (p : Part) → fits_before b ≡ true → fits_part p ≡ true → p.packs ≡ Empty → Leads old (Tail b p) new (Tail b (with_packs p text))

abbrev pub ReadsPacks : Text Lexeme → Text Lexeme → Result (List (List Column)) Stop → Type 0
ReadsPacks old new (Ok packs) = GoesPacks old new packs × (is_fixed mark.Pack (lead new) ≡ false)
ReadsPacks old new (Err r) = (b : Before) (p : Part) → fits_before b ≡ true → fits_part p ≡ true → p.packs ≡ Empty → Fails old (Tail b p) r

-- a word and its numbers, or neither
abbrev pub ReadsOptional : Mark → Text Lexeme → Text Lexeme → Result (List ℕ) Stop → Type 0
ReadsOptional m old new (Ok items) = ((items ≡ []) × (new ≡ old) × (is_fixed m (lead old) ≡ false)) ⊎ ((mid : Text Lexeme) × Took old mid (Fixed m) × ReadsNumbers mid new (Ok items))
ReadsOptional m old new (Err r) = (mid : Text Lexeme) × Took old mid (Fixed m) × ReadsNumbers mid new (Err r)

abbrev pub stored : Run Query → Option (Comma Expr) → Option (Comma ℕ) → Option (Comma ℕ) → Run (Comma Column) → Part
stored qs ls cut me ps = record { queries = qs; levels = ls; trim = cut; merge = me; packs = ps }

-- what stands behind the map of a part, up to its brace
pub record GoesStorage (old new : Text Lexeme) (s : Storage) : Type 0 where
  pub cut : Option (Comma ℕ)
  pub join : Option (Comma ℕ)
  pub packs : Run (Comma Column)
  pub trim_is : maybe_items cut ≡ s.trim
  pub merge_is : maybe_items join ≡ s.merge
  pub packs_is : map comma_items (run_items packs) ≡ s.packs
  pub ends : is_fixed mark.BraceClose (lead new) ≡ true
  pub whole : (b : Before) (qs : Run Query) (ls : Option (Comma Expr)) → fits (Tail b (part_of qs ls)) ≡ true → fits (Tail b (stored qs ls cut join packs)) ≡ true
  pub goes : (b : Before) (qs : Run Query) (ls : Option (Comma Expr)) → fits (Tail b (part_of qs ls)) ≡ true → Leads old (Tail b (part_of qs ls)) new (Tail b (stored qs ls cut join packs))

abbrev pub ReadsStorage : Text Lexeme → Text Lexeme → Result Storage Stop → Type 0
ReadsStorage old new (Ok s) = GoesStorage old new s
ReadsStorage old new (Err r) = (b : Before) (qs : Run Query) (ls : Option (Comma Expr)) → fits (Tail b (part_of qs ls)) ≡ true → Fails old (Tail b (part_of qs ls)) r

-- a head may end here
abbrev pub divides : Before → Bool
divides (BehindName n) = true
divides (BehindHead n h) = false
divides (BehindBlocks n h p) = false

-- behind the queries of a part, where no second part is begun
abbrev pub AtMapping : Text Lexeme → List (List ℕ) → (Before → Run Query → Type 0) → Type 0
AtMapping old ns P = AtFront ns (λ b qs. (divides b && is_fixed mark.Part (lead old)) ≡ false → P b qs)

pub record GoesMapping (old new : Text Lexeme) (ns ms : List (List ℕ)) (levels : List code.Expr) : Type 0 where
  pub text : Option (Comma Expr)
  pub is : (more : List (List ℕ)) → map tree levels ≡ map (declares.tree_expr (ms ++ more)) (maybe_items text)
  pub names : names_levels text ns ≡ ms
  pub known : length ms ≤ 32
  pub fits : AtFront ns (λ b qs. fits (Tail b (part_of qs text)) ≡ true)
  pub goes : AtMapping old ns (λ b qs. Leads old (Between b qs) new (Tail b (part_of qs text)))

abbrev pub ReadsMapping : Text Lexeme → Text Lexeme → List (List ℕ) → List (List ℕ) → Result (List code.Expr) Stop → Type 0
ReadsMapping old new ns ms (Ok levels) = GoesMapping old new ns ms levels
ReadsMapping old new ns ms (Err r) = AtMapping old ns (λ b qs. Fails old (Between b qs) r)

-- a part behind its queries, up to its brace
pub record GoesPart (old new : Text Lexeme) (ns : List (List ℕ)) (queries : List asked.Query) (part : parts.Part) : Type 0 where
  pub text : Run Query → Part
  pub queries_stay : (qs : Run Query) → (text qs).queries ≡ qs
  pub view : (qs : Run Query) → map query_view queries ≡ map (query_of part.names) (run_items qs) → part_view part ≡ declares.part_of part.names (text qs)
  pub names : (qs : Run Query) → names_queries qs ≡ ns → names_part (text qs) ≡ part.names
  pub more : List (List ℕ)
  pub goes_on : part.names ≡ ns ++ more
  pub ends : is_fixed mark.BraceClose (lead new) ≡ true
  pub fits : AtFront ns (λ b qs. fits (Tail b (text qs)) ≡ true)
  pub goes : AtMapping old ns (λ b qs. Leads old (Between b qs) new (Tail b (text qs)))

-- no names are left then
abbrev pub ReadsPart : Text Lexeme → Text Lexeme → List (List ℕ) → List (List ℕ) → List asked.Query → Result parts.Part Stop → Type 0
ReadsPart old new ns left queries (Ok part) = GoesPart old new ns queries part × (left ≡ [])
ReadsPart old new ns left queries (Err r) = AtMapping old ns (λ b qs. Fails old (Between b qs) r)

-- a part with its queries, up to its brace, in a divided declaration
pub record GoesWhole (old new : Text Lexeme) (part : parts.Part) : Type 0 where
  pub text : Part
  pub view : part_view part ≡ declares.part_of (names_part text) text
  pub ends : is_fixed mark.BraceClose (lead new) ≡ true
  pub fits : (b : Before) → fits_before b ≡ true → fits (Tail b text) ≡ true
  pub goes : (b : Before) → divides b ≡ false → fits_before b ≡ true → Leads old (Between b Empty) new (Tail b text)

abbrev pub ReadsWhole : Text Lexeme → Text Lexeme → List (List ℕ) → Result parts.Part Stop → Type 0
ReadsWhole old new left (Ok part) = GoesWhole old new part × (left ≡ [])
ReadsWhole old new left (Err r) = (b : Before) → divides b ≡ false → fits_before b ≡ true → Fails old (Between b Empty) r
