-- What reading heads, bodies and declarations does to the machine.
use Rattle.std.specs.Prelude.{◌≡◌, ◌≤◌, ℕ, Bool, true, false, ltb, List, [], ◌++◌, length, map, Option, Some, None, Result, Ok, Err}
use Rattle.us_tokens.specs.Text.{Text, behind_of, after}
use Rattle.us_tokens.specs.Reading.{Answer, Read, scan}
use Rattle.us_expr.specs.declared.queries.Query as asked
use Rattle.us_expr.specs.declared.queries.Cond.{Cond}
use Rattle.us_decl.specs.Token.{Token, Fixed}
use Rattle.us_decl.specs.declared.mark.Mark.TheVariants as mark
use Rattle.us_decl.specs.declared.lexeme.Lexeme.{Lexeme}
use Rattle.us_parse.specs.declared.stop.Stop.{Stop}
use Rattle.us_decl.specs.declared.decl.Part as parts
use Rattle.us_decl.specs.declared.decl.Body as bodies
use Rattle.us_decl.specs.declared.decl.Decl as decls
use Rattle.us_decl.specs.Grammar.{Run, Empty, Then, Query, Part, Block, Head, Body, Whole, Split, Decl}
use Rattle.us_parse.specs.Piece.{Piece, Before, BehindName, Between, Tail, AtPart, AtRest, AtEnd, AtFormat, expect, step, finished, head_of}
use Rattle.us_decl.specs.Names.{with_name, number_of, names_queries, names_blocks}
use Rattle.us_decl.specs.Limits.{count_run, fits_name}
use Rattle.us_parse.specs.Within.{Break, fits, fits_before, fits_front}
use Rattle.us_decl.specs.Names.{is_among}
use Rattle.us_decl.specs.Declares.{query_of, run_items, whole_part, cond_of, declared}
use Rattle.us_decl.specs.Declares as declares
use Rattle.us_parse.specs.Machine.{reader, done}
use Rattle.us_decl.specs.Views.{query_view, part_view, body_view, decl_view}
use Rattle.us_parse.specs.Reads.{lead, is_fixed, answer_of, Leads, Fails}
use Rattle.us_parse.specs.ReadsBodies.{divides}

-- where the sign of a condition is wanted
abbrev pub has_sign : Option Token → Bool
has_sign (Some (Fixed mark.Less)) = true
has_sign (Some (Fixed mark.AtLeast)) = true
has_sign _ = false

-- behind the queries of a head
abbrev pub AtHead : List (List ℕ) → (List ℕ → Run Query → Type 0) → Type 0
AtHead ns P = (n : List ℕ) (qs : Run Query) → fits_front (BehindName n) qs ≡ true → names_queries qs ≡ ns → P n qs

-- where one more condition may begin: behind the queries of a head, and behind the part of a condition
abbrev pub at_block : List ℕ → Run Query → Run Block → Piece
at_block n qs Empty = Between (BehindName n) qs
at_block n qs (Then bs b) = AtRest n (head_of qs bs b.name b.less b.bound) b.part

-- there, behind these names of the head, where there is room for one more
abbrev pub AtBlock : List (List ℕ) → (List ℕ → Run Query → Run Block → Type 0) → Type 0
AtBlock ns P = (n : List ℕ) (qs : Run Query) (bs : Run Block) → fits (at_block n qs bs) ≡ true → ltb (count_run bs) 3 ≡ true → names_blocks bs (names_queries qs) ≡ ns → P n qs bs

-- a condition, up to the brace of its part
pub record GoesCondition (old new : Text Lexeme) (ns ms : List (List ℕ)) (c : Cond) : Type 0 where
  pub name : List ℕ
  pub is : (more : List (List ℕ)) → number_of name (ms ++ more) ≡ c.var
  pub names : with_name name ns ≡ ms
  pub known : length ms ≤ 32
  pub fits : AtBlock ns (λ n qs bs. fits (AtPart n (head_of qs bs name c.less c.bound)) ≡ true)
  pub goes : AtBlock ns (λ n qs bs. Leads old (at_block n qs bs) new (AtPart n (head_of qs bs name c.less c.bound)))

abbrev pub ReadsCondition : Text Lexeme → Text Lexeme → List (List ℕ) → List (List ℕ) → Result Cond Stop → Type 0
ReadsCondition old new ns ms (Ok c) = GoesCondition old new ns ms c
ReadsCondition old new ns ms (Err r) = AtBlock ns (λ n qs bs. Fails old (at_block n qs bs) r)

-- a part in its braces, in a divided declaration
pub record GoesBraced (old new : Text Lexeme) (part : parts.Part) : Type 0 where
  pub text : Part
  pub view : part_view part ≡ whole_part text
  pub fits : (b : Before) → fits_before b ≡ true → fits (Tail b text) ≡ true
  pub goes : (s : Piece) (b : Before) → ((t : Token) → step s t ≡ expect mark.BraceOpen (Between b Empty) t) → divides b ≡ false → fits_before b ≡ true → Leads old s new (finished b text)

abbrev pub ReadsBraced : Text Lexeme → Text Lexeme → List (List ℕ) → Result parts.Part Stop → Type 0
ReadsBraced old new left (Ok part) = GoesBraced old new part × (left ≡ [])
ReadsBraced old new left (Err r) = (s : Piece) (b : Before) → done s ≡ None → ((t : Token) → step s t ≡ expect mark.BraceOpen (Between b Empty) t) → divides b ≡ false → fits_before b ≡ true → Fails old s r

-- the piece before the last brace
abbrev pub before_end : List ℕ → Body → Piece
before_end n (Whole p) = Tail (BehindName n) p
before_end n (Split h p q) = AtEnd n h p q

pub record GoesBody (old new : Text Lexeme) (body : bodies.Body) : Type 0 where
  pub text : Body
  pub view : body_view body ≡ declares.body_of text
  pub ends : is_fixed mark.BraceClose (lead new) ≡ true
  pub fits : (n : List ℕ) → fits_name n ≡ true → fits (before_end n text) ≡ true
  pub goes : (n : List ℕ) → fits_name n ≡ true → Leads old (Between (BehindName n) Empty) new (before_end n text)

abbrev pub ReadsBody : Text Lexeme → Text Lexeme → Result bodies.Body Stop → Type 0
ReadsBody old new (Ok body) = GoesBody old new body
ReadsBody old new (Err r) = (n : List ℕ) → fits_name n ≡ true → Fails old (Between (BehindName n) Empty) r

-- conditions and their parts so far, one after the other, behind the queries of a head
pub record GoesBlocks (old new : Text Lexeme) (ns ms : List (List ℕ)) (conds : List Cond) (parts : List parts.Part) : Type 0 where
  pub text : Run Block
  pub is : (more : List (List ℕ)) → conds ≡ map (cond_of (ms ++ more)) (run_items text)
  pub views : map part_view parts ≡ map (λ b. whole_part b.part) (run_items text)
  pub names : names_blocks text ns ≡ ms
  pub known : length ms ≤ 32
  pub count : count_run text ≡ length parts
  pub few : length parts ≤ 3
  pub same : text ≡ Empty → new ≡ old
  pub fits : AtHead ns (λ n qs. fits (at_block n qs text) ≡ true)
  pub goes : AtHead ns (λ n qs. Leads old (Between (BehindName n) qs) new (at_block n qs text))

-- no names of a part are left then
abbrev pub ReadsBlocks : Text Lexeme → Text Lexeme → List (List ℕ) → List (List ℕ) → List (List ℕ) → List Cond → Result (List parts.Part) Stop → Type 0
ReadsBlocks old new ns ms left conds (Ok parts) = GoesBlocks old new ns ms conds parts × (is_fixed mark.Part (lead new) ≡ false) × (left ≡ [])
ReadsBlocks old new ns ms left conds (Err r) = AtHead ns (λ n qs. Fails old (Between (BehindName n) qs) r)

-- behind the part of a condition
abbrev pub AtRests : (List ℕ → Head → Part → Type 0) → Type 0
AtRests P = (n : List ℕ) (h : Head) (p : Part) → fits (AtRest n h p) ≡ true → P n h p

-- the part of the rest, up to the last brace of the body
pub record GoesRest (old new : Text Lexeme) (part : parts.Part) : Type 0 where
  pub text : Part
  pub view : part_view part ≡ whole_part text
  pub ends : is_fixed mark.BraceClose (lead new) ≡ true
  pub fits : AtRests (λ n h p. fits (AtEnd n h p text) ≡ true)
  pub goes : AtRests (λ n h p. Leads old (AtRest n h p) new (AtEnd n h p text))

abbrev pub ReadsRest : Text Lexeme → Text Lexeme → Result parts.Part Stop → Type 0
ReadsRest old new (Ok part) = GoesRest old new part
ReadsRest old new (Err r) = AtRests (λ n h p. Fails old (AtRest n h p) r)

-- a divided body, behind the queries of its head
pub record GoesDivided (old new : Text Lexeme) (ns : List (List ℕ)) (queries : List asked.Query) (body : bodies.Body) : Type 0 where
  pub text : Run Query → Body
  pub more : List (List ℕ)
  pub view : (qs : Run Query) → names_queries qs ≡ ns → map query_view queries ≡ map (query_of (ns ++ more)) (run_items qs) → body_view body ≡ declares.body_of (text qs)
  pub ends : is_fixed mark.BraceClose (lead new) ≡ true
  pub fits : AtHead ns (λ n qs. fits (before_end n (text qs)) ≡ true)
  pub goes : AtHead ns (λ n qs. Leads old (Between (BehindName n) qs) new (before_end n (text qs)))

abbrev pub ReadsDivided : Text Lexeme → Text Lexeme → List (List ℕ) → List asked.Query → Result bodies.Body Stop → Type 0
ReadsDivided old new ns queries (Ok body) = GoesDivided old new ns queries body
ReadsDivided old new ns queries (Err r) = AtHead ns (λ n qs. Fails old (Between (BehindName n) qs) r)

-- the reading of a declaration is this answer
abbrev pub IsAnswer : List (List ℕ) → Text Lexeme → Option (Answer Lexeme Decl Break) → Type 0
IsAnswer earlier old None = Unit {0}
IsAnswer earlier old (Some x) = scan (reader earlier) old AtFormat ≡ x

-- a whole declaration; its brace stands here
pub record GoesDecl (earlier : List (List ℕ)) (old new : Text Lexeme) (decl : decls.Decl) : Type 0 where
  pub text : Decl
  pub view : decl_view decl ≡ declared text
  pub is_new : is_among decl.name earlier ≡ false
  pub ends : is_fixed mark.BraceClose (lead new) ≡ true
  pub goes : scan (reader earlier) old AtFormat ≡ Read text (behind_of new) (after new)

abbrev pub ReadsDecl : List (List ℕ) → Text Lexeme → Text Lexeme → Result decls.Decl Stop → Type 0
ReadsDecl earlier old new (Ok decl) = GoesDecl earlier old new decl
ReadsDecl earlier old new (Err r) = IsAnswer earlier old (answer_of r)
