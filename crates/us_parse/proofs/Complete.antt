-- Each text of the grammar is read, as the text that it is.
use Rattle.std.proofs.Common.{◌≡◌, ℕ, List, [], ◌∷◌, ◌++◌, Option, Some, None, Bool, true, false, refl, ap, ◌∙◌}
use Rattle.us_decl.specs.Token.{Token, Fixed, Number}
use Rattle.us_decl.specs.declared.mark.Mark.TheVariants as mark
use Rattle.us_decl.specs.declared.column.Column.{Column}
use Rattle.us_decl.specs.declared.column.Column.TheVariants.{Level, Val}
use Rattle.us_decl.specs.Grammar.{Comma, Only, And, Run, Empty, Then, Expr, One, Plus, Less, Term, Just, Over, Rest, Factor, Row, Col, Named, Num, Group, Sum, Enumerate, Reorder, Query, Single, Lanes, Part, Block, Head, Body, Whole, Split, Decl, expr_tokens, term_tokens, factor_tokens, comma_tokens, run_tokens, query_tokens, queries_tokens, levels_tokens, map_tokens, number_tokens, numbers_tokens, column_tokens, pack_tokens, part_tokens, braced, condition_tokens, block_tokens, blocks_tokens, head_tokens, body_tokens, decl_tokens}
use Rattle.us_parse.specs.Piece.{Before, BehindName, BehindHead, BehindBlocks, Asked, OneVariable, TwoVariables, Use, Argument, Mapped, Hole, Begin, AfterPlus, AfterMinus, Piece, AtFormat, Between, Operand, After, AtLevels, Tail, AtTrim, AtMerge, AtColumn, AfterColumn, AtPart, AtRest, AtLast, AtEnd, Done, one_more, part_of, filled, ended, finished, trimmed, merged, packed, head_of, step}
use Rattle.us_parse.specs.ReadsDecls.{at_block}
use Rattle.us_parse.proofs.Run.{go_on, run, run_then}

abbrev pub hole_of : Expr → Hole
hole_of (One t) = Begin
hole_of (Plus e t) = AfterPlus e
hole_of (Less e t) = AfterMinus e

abbrev pub last_of : Expr → Term
last_of (One t) = t
last_of (Plus e t) = t
last_of (Less e t) = t

pub parts_of : (e : Expr) → filled (hole_of e) (last_of e) ≡ e
parts_of (One t) = refl
parts_of (Plus e t) = refl
parts_of (Less e t) = refl

mutual
  pub reads_expr : (e : Expr) (u : Use) (os : List Hole) → run (expr_tokens e) (Operand u Begin os) ≡ Some (After u (hole_of e) (last_of e) os)
  reads_expr (One t) u os = reads_term t u Begin os
  reads_expr (Plus e t) u os = run_then (expr_tokens e) _ _ _ _ (reads_expr e u os) (ap (λ (x : Expr). run (term_tokens t) (Operand u (AfterPlus x) os)) (parts_of e) ∙ reads_term t u (AfterPlus e) os)
  reads_expr (Less e t) u os = run_then (expr_tokens e) _ _ _ _ (reads_expr e u os) (ap (λ (x : Expr). run (term_tokens t) (Operand u (AfterMinus x) os)) (parts_of e) ∙ reads_term t u (AfterMinus e) os)

  pub reads_term : (t : Term) (u : Use) (h : Hole) (os : List Hole) → run (term_tokens t) (Operand u h os) ≡ Some (After u h t os)
  reads_term (Just f) u h os = reads_factor f u h os
  reads_term (Over t k) u h os = run_then (term_tokens t) _ _ _ _ (reads_term t u h os) refl
  reads_term (Rest t k) u h os = run_then (term_tokens t) _ _ _ _ (reads_term t u h os) refl

  pub reads_factor : (f : Factor) (u : Use) (h : Hole) (os : List Hole) → run (factor_tokens f) (Operand u h os) ≡ Some (After u h (Just f) os)
  reads_factor Row u h os = refl
  reads_factor Col u h os = refl
  reads_factor (Named n) u h os = refl
  reads_factor (Num n) u h os = refl
  reads_factor (Group e) u h os = run_then (expr_tokens e) _ _ _ _ (reads_expr e u (h ∷ os)) (ap (λ (x : Expr). Some (After u h (Just (Group x)) os)) (parts_of e))

-- an expression in the parentheses of its query, and what stands behind them
reads_argument : (e : Expr) (b : Before) (qs : Run Query) (q : Asked) (more : List Token) (s : Option Piece) → run more (ended (Argument b qs q) e) ≡ s → run (expr_tokens e ++ (Fixed mark.Close ∷ more)) (Operand (Argument b qs q) Begin []) ≡ s
reads_argument e b qs q more s k = run_then (expr_tokens e) (Fixed mark.Close ∷ more) _ _ _ (reads_expr e (Argument b qs q) []) (ap (λ (x : Expr). run more (ended (Argument b qs q) x)) (parts_of e) ∙ k)

reads_query : (q : Query) (b : Before) (qs : Run Query) → run (query_tokens q) (Between b qs) ≡ Some (Between b (Then qs q))
reads_query (Single Sum v e) b qs = reads_argument e b qs (OneVariable Sum v) [] _ refl
reads_query (Single Enumerate v e) b qs = reads_argument e b qs (OneVariable Enumerate v) [] _ refl
reads_query (Single Reorder v e) b qs = reads_argument e b qs (OneVariable Reorder v) [] _ refl
reads_query (Lanes v w e k) b qs = reads_argument e b qs (TwoVariables v w) (Fixed mark.Into ∷ Number k ∷ []) _ refl

reads_queries : (qs : Run Query) (b : Before) → run (queries_tokens qs) (Between b Empty) ≡ Some (Between b qs)
reads_queries Empty b = refl
reads_queries (Then qs q) b = run_then (queries_tokens qs) (query_tokens q) _ _ _ (reads_queries qs b) (reads_query q b qs)

-- up to the last of a list, and the last
abbrev pub front_of : {A : Type 0} → Comma A → Option (Comma A)
front_of (Only x) = None
front_of (And xs x) = Some xs

abbrev pub end_of : {A : Type 0} → Comma A → A
end_of (Only x) = x
end_of (And xs x) = x

comma_parts : {A : Type 0} (xs : Comma A) → one_more (front_of xs) (end_of xs) ≡ xs
comma_parts (Only x) = refl
comma_parts (And xs x) = refl

reads_levels : (es : Comma Expr) (b : Before) (qs : Run Query) → run (comma_tokens expr_tokens es) (Operand (Mapped b qs None) Begin []) ≡ Some (After (Mapped b qs (front_of es)) (hole_of (end_of es)) (last_of (end_of es)) [])
reads_levels (Only e) b qs = reads_expr e (Mapped b qs None) []
reads_levels (And es e) b qs = run_then (comma_tokens expr_tokens es) _ _ _ _ (reads_levels es b qs)
    (ap (λ (x : Expr). run (expr_tokens e) (Operand (Mapped b qs (Some (one_more (front_of es) x))) Begin [])) (parts_of (end_of es))
    ∙ ap (λ (x : Comma Expr). run (expr_tokens e) (Operand (Mapped b qs (Some x)) Begin [])) (comma_parts es) ∙ reads_expr e (Mapped b qs (Some es)) [])

-- a list of levels that is not empty is read alike behind the parenthesis
first_token : (b : Before) (qs : Run Query) (t : Token) (ts : List Token) (s : Piece) → run (t ∷ ts) (Operand (Mapped b qs None) Begin []) ≡ Some s → run (t ∷ ts) (AtLevels b qs) ≡ Some s
first_token b qs (Fixed mark.Close) ts s e = absurd cc
first_token b qs _ ts s e = e

as_levels : (b : Before) (qs : Run Query) (ts : List Token) (s : Piece) (u : Use) (h : Hole) (r : Term) → s ≡ After u h r [] → run ts (Operand (Mapped b qs None) Begin []) ≡ Some s → run ts (AtLevels b qs) ≡ Some s
as_levels b qs [] s u h r is e = absurd cc
as_levels b qs (t ∷ ts) s u h r is e = first_token b qs t ts s e

reads_all_levels : (ls : Option (Comma Expr)) (b : Before) (qs : Run Query) → run (levels_tokens ls ++ (Fixed mark.Close ∷ [])) (AtLevels b qs) ≡ Some (Tail b (part_of qs ls))
reads_all_levels None b qs = refl
reads_all_levels (Some es) b qs = run_then (comma_tokens expr_tokens es) _ _ _ _ (as_levels b qs (comma_tokens expr_tokens es) _ (Mapped b qs (front_of es)) _ _ refl (reads_levels es b qs))
    (ap (λ (x : Expr). Some (Tail b (part_of qs (Some (one_more (front_of es) x))))) (parts_of (end_of es)) ∙ ap (λ (x : Comma Expr). Some (Tail b (part_of qs (Some x)))) (comma_parts es))

reads_trim : (ks : Comma ℕ) (b : Before) (qs : Run Query) (ls : Option (Comma Expr)) → run (comma_tokens number_tokens ks) (AtTrim b qs ls None) ≡ Some (Tail b (trimmed qs ls ks))
reads_trim (Only k) b qs ls = refl
reads_trim (And ks k) b qs ls = run_then (comma_tokens number_tokens ks) _ _ _ _ (reads_trim ks b qs ls) refl

reads_merge : (ks : Comma ℕ) (b : Before) (qs : Run Query) (ls : Option (Comma Expr)) (cut : Option (Comma ℕ)) → run (comma_tokens number_tokens ks) (AtMerge b qs ls cut None) ≡ Some (Tail b (merged qs ls cut ks))
reads_merge (Only k) b qs ls cut = refl
reads_merge (And ks k) b qs ls cut = run_then (comma_tokens number_tokens ks) _ _ _ _ (reads_merge ks b qs ls cut) refl

-- a part whose trim and merge are these, before its packs
abbrev unpacked : Run Query → Option (Comma Expr) → Option (Comma ℕ) → Option (Comma ℕ) → Part
unpacked qs ls cut me = record { queries = qs; levels = ls; trim = cut; merge = me; packs = Empty }

reads_cut : (cut : Option (Comma ℕ)) (b : Before) (qs : Run Query) (ls : Option (Comma Expr)) → run (numbers_tokens (Fixed mark.Trim) cut) (Tail b (part_of qs ls)) ≡ Some (Tail b (unpacked qs ls cut None))
reads_cut None b qs ls = refl
reads_cut (Some ks) b qs ls = reads_trim ks b qs ls

reads_joined : (me cut : Option (Comma ℕ)) (b : Before) (qs : Run Query) (ls : Option (Comma Expr)) → run (numbers_tokens (Fixed mark.Merge) me) (Tail b (unpacked qs ls cut None)) ≡ Some (Tail b (unpacked qs ls cut me))
reads_joined None cut b qs ls = refl
reads_joined (Some ks) cut b qs ls = reads_merge ks b qs ls cut

reads_column : (c : Column) (b : Before) (p : Part) (cs : Option (Comma Column)) → run (column_tokens c) (AtColumn b p cs) ≡ Some (AfterColumn b p (one_more cs c))
reads_column (Level k) b p cs = refl
reads_column Val b p cs = refl

reads_columns : (cs : Comma Column) (b : Before) (p : Part) → run (comma_tokens column_tokens cs) (AtColumn b p None) ≡ Some (AfterColumn b p cs)
reads_columns (Only c) b p = reads_column c b p None
reads_columns (And cs c) b p = run_then (comma_tokens column_tokens cs) _ _ _ _ (reads_columns cs b p) (reads_column c b p (Some cs))

reads_pack : (cs : Comma Column) (b : Before) (p : Part) → run (pack_tokens cs) (Tail b p) ≡ Some (Tail b (packed p cs))
reads_pack cs b p = run_then (comma_tokens column_tokens cs) (Fixed mark.Close ∷ []) (AtColumn b p None) _ _ (reads_columns cs b p) refl

abbrev with_packs : Part → Run (Comma Column) → Part
with_packs p ps = record { queries = p.queries; levels = p.levels; trim = p.trim; merge = p.merge; packs = ps }

reads_packs : (ps : Run (Comma Column)) (b : Before) (p : Part) → p.packs ≡ Empty → run (run_tokens pack_tokens ps) (Tail b p) ≡ Some (Tail b (with_packs p ps))
reads_packs Empty b p e = ap (λ (ps : Run (Comma Column)). Some (Tail b (with_packs p ps))) e
reads_packs (Then ps cs) b p e = run_then (run_tokens pack_tokens ps) (pack_tokens cs) _ _ _ (reads_packs ps b p e) (reads_pack cs b (with_packs p ps))

-- a part, and what stands behind it
pub reads_part : (p : Part) (b : Before) → run (part_tokens p) (Between b Empty) ≡ Some (Tail b p)
reads_part p b =
    let packs = run_tokens pack_tokens p.packs in
    let merge = numbers_tokens (Fixed mark.Merge) p.merge ++ packs in
    let trim = numbers_tokens (Fixed mark.Trim) p.trim ++ merge in
    run_then (queries_tokens p.queries) (map_tokens p.levels ++ trim) (Between b Empty) (Between b p.queries) _ (reads_queries p.queries b)
    (run_then (map_tokens p.levels) trim (Between b p.queries) (Tail b (part_of p.queries p.levels)) _ (reads_all_levels p.levels b p.queries)
    (run_then (numbers_tokens (Fixed mark.Trim) p.trim) merge (Tail b (part_of p.queries p.levels)) (Tail b (unpacked p.queries p.levels p.trim None)) _ (reads_cut p.trim b p.queries p.levels)
    (run_then (numbers_tokens (Fixed mark.Merge) p.merge) packs (Tail b (unpacked p.queries p.levels p.trim None)) (Tail b (unpacked p.queries p.levels p.trim p.merge)) _ (reads_joined p.merge p.trim b p.queries p.levels)
    (reads_packs p.packs b (unpacked p.queries p.levels p.trim p.merge) refl))))

reads_braced : (p : Part) (b : Before) (s : Piece) → step s (Fixed mark.BraceOpen) ≡ Some (Between b Empty) → run (braced p) s ≡ Some (finished b p)
reads_braced p b s e = ap (go_on (run (part_tokens p ++ (Fixed mark.BraceClose ∷ [])))) e ∙ run_then (part_tokens p) _ _ _ _ (reads_part p b) refl

reads_condition : (n : List ℕ) (qs : Run Query) (bs : Run Block) (v : List ℕ) (less : Bool) (k : ℕ) → run (condition_tokens v less k) (at_block n qs bs) ≡ Some (AtPart n (head_of qs bs v less k))
reads_condition n qs Empty v true k = refl
reads_condition n qs Empty v false k = refl
reads_condition n qs (Then bs b) v true k = refl
reads_condition n qs (Then bs b) v false k = refl

reads_block : (n : List ℕ) (qs : Run Query) (bs : Run Block) (b : Block) → run (block_tokens b) (at_block n qs bs) ≡ Some (at_block n qs (Then bs b))
reads_block n qs bs b =
    let h : Head = head_of qs bs b.name b.less b.bound in
    run_then (condition_tokens b.name b.less b.bound) (braced b.part) (at_block n qs bs) (AtPart n h) _ (reads_condition n qs bs b.name b.less b.bound) (reads_braced b.part (BehindHead n h) (AtPart n h) refl)

reads_blocks : (bs : Run Block) (n : List ℕ) (qs : Run Query) → run (blocks_tokens bs) (at_block n qs Empty) ≡ Some (at_block n qs bs)
reads_blocks Empty n qs = refl
reads_blocks (Then bs b) n qs = run_then (blocks_tokens bs) (block_tokens b) _ _ _ (reads_blocks bs n qs) (reads_block n qs bs b)

reads_head : (h : Head) (n : List ℕ) → run (head_tokens h) (Between (BehindName n) Empty) ≡ Some (AtPart n h)
reads_head h n = run_then (queries_tokens h.queries) (blocks_tokens h.blocks ++ condition_tokens h.name h.less h.bound) (Between (BehindName n) Empty) (Between (BehindName n) h.queries) _ (reads_queries h.queries (BehindName n))
    (run_then (blocks_tokens h.blocks) (condition_tokens h.name h.less h.bound) (at_block n h.queries Empty) (at_block n h.queries h.blocks) _ (reads_blocks h.blocks n h.queries) (reads_condition n h.queries h.blocks h.name h.less h.bound))

reads_body : (body : Body) (n : List ℕ) → run (body_tokens body ++ (Fixed mark.BraceClose ∷ [])) (Between (BehindName n) Empty) ≡ Some (Done (record { name = n; body = body }))
reads_body (Whole p) n = run_then (part_tokens p) _ _ _ _ (reads_part p (BehindName n)) refl
reads_body (Split h p q) n =
    let split : run (body_tokens (Split h p q)) (Between (BehindName n) Empty) ≡ Some (AtEnd n h p q) =
    run_then (head_tokens h) (braced p ++ (Fixed mark.Rest ∷ braced q)) (Between (BehindName n) Empty) (AtPart n h) _ (reads_head h n)
    (run_then (braced p) (Fixed mark.Rest ∷ braced q) (AtPart n h) (AtRest n h p) _ (reads_braced p (BehindHead n h) (AtPart n h) refl)
    (reads_braced q (BehindBlocks n h p) (AtLast n h p) refl)) in
    run_then (body_tokens (Split h p q)) _ _ _ _ split refl

pub reads_decl : (d : Decl) → run (decl_tokens d) AtFormat ≡ Some (Done d)
reads_decl d = reads_body d.body d.name
