-- Each piece on the way to a text within its limits is within them.
use Rattle.std.proofs.Common.{◌≡◌, ◌<◌, ◌≤◌, ℕ, suc, ◌+◌, List, [], ◌∷◌, ◌++◌, length, Option, Some, None, Bool, true, false, cond, ltb, ◌&&◌, refl, sym, ap, ◌∙◌, arith, length-append}
use Rattle.std.specs.Prelude.{IfSome}
use Rattle.std.proofs.lemmas.Bool.Decides.{nat_tests}
use Rattle.us_decl.specs.Token.{Token, Fixed, Name, Number, same}
use Rattle.us_decl.specs.declared.mark.Mark.{Mark}
use Rattle.us_decl.specs.declared.mark.Mark.TheVariants as mark
use Rattle.us_decl.specs.declared.column.Column.{Column}
use Rattle.us_decl.specs.declared.column.Column.TheVariants.{Level, Val}
use Rattle.us_decl.specs.Grammar.{Comma, Run, Empty, Then, Expr, Term, Just, Row, Col, Named, Num, Group, Word, Query, Single, Lanes, Part, Block, Head, Split, Decl, decl_tokens}
use Rattle.us_decl.specs.Names.{with_name, names_queries, names_levels, names_blocks, names_comma, names_expr, names_term, names_query}
use Rattle.us_decl.specs.Limits.{count, count_run, count_levels, nodes, nodes_term, all, all_run, all_levels, fits_nodes, fits_list, fits_number, fits_name, fits_names, fits_expr, fits_term, fits_whole, fits_query, fits_queries, fits_levels, fits_numbers, fits_column, fits_pack, fits_packs, fits_part, fits_block, fits_blocks, fits_head, fits_decl}
use Rattle.us_parse.specs.Piece.{Before, BehindName, BehindHead, BehindBlocks, OneVariable, TwoVariables, Use, Argument, Mapped, Hole, Begin, AfterPlus, AfterMinus, Piece, AtFormat, AtName, AtBrace, Between, AtVariable, AfterVariable, AtWord, AtSlot, AtEqual, AtSchedule, AtArgument, Operand, Divisor, After, AtInto, AtLanes, AtMap, AtLevels, Tail, AtTrim, AtMerge, AtPack, AtColumn, AfterColumn, AtWhen, AtCondition, AtSign, AtBound, AtPart, AtRest, AtLast, AtEnd, Done, expect, a_name, a_number, one_more, headed, between, after_variable, a_word, filled, operand, divided, divisor, ended, closed, parted, after, at_levels, finished, more_numbers, a_trim, a_merge, tail, trimmed, merged, a_column, after_column, a_sign, head_of, at_rest, step}
use Rattle.us_parse.specs.Within.{fits_before, fits_front, fits_begun, fits_one, fits_two, names_use, fits_use, names_hole, names_open, nodes_hole, held, fits_hole, fits_open, begun, fits_inside, fits_behind, fits_lanes, fits_columns, fits_packing, fits}
use Rattle.us_parse.specs.Within.{check, repeats, TooBig}
use Rattle.us_parse.specs.Machine.{reader}
use Rattle.us_tokens.specs.Reading.{Keeps}
use Rattle.us_tokens.proofs.Reading.{run-append}
use Rattle.us_parse.proofs.Run.{run, go_on}
use Rattle.us_parse.proofs.Complete.{reads_decl}
use Rattle.us_decl.proofs.Numbering.{GoesOn, goes_on_self, with_goes_on, expr_goes_on, term_goes_on}
use Rattle.us_decl.proofs.Deciding.{both, left_of, right_of, below, is_below}

parts : (a b : Bool) → (a && b) ≡ true → (a ≡ true) × (b ≡ true)
parts a b h = (left_of a b h, right_of a b h)

under : (m n k : ℕ) → m ≤ n → ltb n k ≡ true → ltb m k ≡ true
under m n k h e = grind (arith, nat_tests)

longer : (ns ms : List (List ℕ)) → GoesOn ns ms → length ns ≤ length ms
longer ns ms g = omega (arith, ap length g.is, length-append ns g.more)

-- Expressions

use_back : (k m : ℕ) (u : Use) → k ≤ m → fits_use m u ≡ true → fits_use k u ≡ true
use_back k m (Argument b qs q) h e = e
use_back k m (Mapped b qs ls) h e =
    let p = parts (fits_front b qs) (all_levels ls && fits_list (count_levels ls + m)) e in
    let q = parts (all_levels ls) (fits_list (count_levels ls + m)) p.1 in
    both (fits_front b qs) (all_levels ls && fits_list (count_levels ls + k)) p.0 (both (all_levels ls) (fits_list (count_levels ls + k)) q.0 (under (count_levels ls + k) (count_levels ls + m) 17 (omega arith) q.1))

inside_is : (k : ℕ) (u : Use) (h : Hole) (os : List Hole) (n : ℕ) (ns : List (List ℕ)) → fits_use k u ≡ true → fits_open h os ≡ true → ltb n 33 ≡ true → ltb (length ns) 33 ≡ true → fits_inside k u h os n ns ≡ true
inside_is k u h os n ns used opened few names = both (fits_use k u) (fits_open h os && (fits_nodes n && fits_names ns)) used (both (fits_open h os) (fits_nodes n && fits_names ns) opened (both (fits_nodes n) (fits_names ns) few names))

-- the parts of an expression up to some place
record Inside (k : ℕ) (u : Use) (h : Hole) (os : List Hole) (n : ℕ) (ns : List (List ℕ)) : Type 0 where
  use_ : fits_use k u ≡ true
  open_ : fits_open h os ≡ true
  few : ltb n 33 ≡ true
  names : ltb (length ns) 33 ≡ true

inside : (k : ℕ) (u : Use) (h : Hole) (os : List Hole) (n : ℕ) (ns : List (List ℕ)) → fits_inside k u h os n ns ≡ true → Inside k u h os n ns
inside k u h os n ns e =
    let p = parts (fits_use k u) (fits_open h os && (fits_nodes n && fits_names ns)) e in
    let q = parts (fits_open h os) (fits_nodes n && fits_names ns) p.1 in
    let r = parts (fits_nodes n) (fits_names ns) q.1 in
    record { use_ = p.0; open_ = q.0; few = r.0; names = r.1 }

abbrev names_before : Use → Hole → List Hole → List (List ℕ)
names_before u h os = names_open h os (names_use u)

behind_is : (u : Use) (h : Hole) (t : Term) (os : List Hole) (k n m : ℕ) → fits_use 1 u ≡ true → fits_open h os ≡ true → fits_term (length os) t ≡ true → held h os + nodes_term t + k ≤ n → ltb n 33 ≡ true → length (names_term t (names_before u h os)) ≤ m → ltb m 33 ≡ true → fits_behind u h t os k ≡ true
behind_is u h t os k n m used opened term_ few e names f =
    both (fits_inside 1 u h os (held h os + nodes_term t + k) (names_term t (names_before u h os))) (fits_term (length os) t)
    (inside_is 1 u h os (held h os + nodes_term t + k) (names_term t (names_before u h os)) used opened (under (held h os + nodes_term t + k) n 33 few e) (under (length (names_term t (names_before u h os))) m 33 names f)) term_

begun_most : (h : Hole) (os : List Hole) → begun h os ≤ 1
begun_most Begin [] = omega arith
begun_most (AfterPlus e) [] = omega arith
begun_most (AfterMinus e) [] = omega arith
begun_most Begin (g ∷ os) = omega arith
begun_most (AfterPlus e) (g ∷ os) = omega arith
begun_most (AfterMinus e) (g ∷ os) = omega arith

abbrev before_operand : Use → Hole → List Hole → Bool
before_operand u h os = fits_inside (begun h os) u h os (held h os) (names_before u h os)

leaf_back : (u : Use) (h : Hole) (t : Term) (os : List Hole) → fits_behind u h t os 0 ≡ true → before_operand u h os ≡ true
leaf_back u h t os e =
    let ns = names_before u h os in
    let p = inside 1 u h os (held h os + nodes_term t + 0) (names_term t ns) (left_of (fits_inside 1 u h os (held h os + nodes_term t + 0) (names_term t ns)) (fits_term (length os) t) e) in
    inside_is (begun h os) u h os (held h os) ns (use_back (begun h os) 1 u (begun_most h os) p.use_) p.open_ (under (held h os) (held h os + nodes_term t + 0) 33 (omega arith) p.few) (under (length ns) (length (names_term t ns)) 33 (longer ns (names_term t ns) (term_goes_on t ns)) p.names)

open_back : (u : Use) (h : Hole) (os : List Hole) → before_operand u Begin (h ∷ os) ≡ true → before_operand u h os ≡ true
open_back u h os e =
    let p = inside 1 u Begin (h ∷ os) (held Begin (h ∷ os)) (names_before u Begin (h ∷ os)) e in
    inside_is (begun h os) u h os (held h os) (names_before u h os) (use_back (begun h os) 1 u (begun_most h os) p.use_) (left_of (fits_open h os) (ltb (length os) 32 && true) p.open_) (under (held h os) (held Begin (h ∷ os)) 33 (omega arith) p.few) p.names

divided_back : (over : Bool) (u : Use) (h : Hole) (t : Term) (k : ℕ) (os : List Hole) → fits_behind u h (divided over t k) os 0 ≡ true → fits_behind u h t os 1 ≡ true
divided_back true u h t k os e =
    let ns = names_before u h os in
    let r = parts (fits_inside 1 u h os (held h os + (nodes_term t + 1) + 0) (names_term t ns)) (fits_term (length os) t && fits_number (suc k)) e in
    let p = inside 1 u h os (held h os + (nodes_term t + 1) + 0) (names_term t ns) r.0 in
    behind_is u h t os 1 (held h os + (nodes_term t + 1) + 0) (length (names_term t ns)) p.use_ p.open_ (left_of (fits_term (length os) t) (fits_number (suc k)) r.1) (omega arith) p.few (omega arith) p.names
divided_back false u h t k os e =
    let ns = names_before u h os in
    let r = parts (fits_inside 1 u h os (held h os + (nodes_term t + 1) + 0) (names_term t ns)) (fits_term (length os) t && fits_number (suc k)) e in
    let p = inside 1 u h os (held h os + (nodes_term t + 1) + 0) (names_term t ns) r.0 in
    behind_is u h t os 1 (held h os + (nodes_term t + 1) + 0) (length (names_term t ns)) p.use_ p.open_ (left_of (fits_term (length os) t) (fits_number (suc k)) r.1) (omega arith) p.few (omega arith) p.names

sign_back : (u : Use) (h : Hole) (t : Term) (os : List Hole) → fits_behind u h t os 1 ≡ true → fits_behind u h t os 0 ≡ true
sign_back u h t os e =
    let ns = names_before u h os in
    let r = parts (fits_inside 1 u h os (held h os + nodes_term t + 1) (names_term t ns)) (fits_term (length os) t) e in
    let p = inside 1 u h os (held h os + nodes_term t + 1) (names_term t ns) r.0 in
    behind_is u h t os 0 (held h os + nodes_term t + 1) (length (names_term t ns)) p.use_ p.open_ r.1 (omega arith) p.few (omega arith) p.names

-- a sum so far and its last term
filled_nodes : (h : Hole) (t : Term) → nodes (filled h t) ≡ nodes_hole h + nodes_term t
filled_nodes Begin t = omega arith
filled_nodes (AfterPlus e) t = refl
filled_nodes (AfterMinus e) t = refl

filled_names : (h : Hole) (t : Term) (ns : List (List ℕ)) → names_expr (filled h t) ns ≡ names_term t (names_hole h ns)
filled_names Begin t ns = refl
filled_names (AfterPlus e) t ns = refl
filled_names (AfterMinus e) t ns = refl

filled_fits : (d : ℕ) (h : Hole) (t : Term) → fits_expr d (filled h t) ≡ true → (fits_hole d h && fits_term d t) ≡ true
filled_fits d Begin t e = e
filled_fits d (AfterPlus x) t e = e
filled_fits d (AfterMinus x) t e = e

-- of a whole expression at the outer level, and in a parenthesis
outer_back : (u : Use) (h : Hole) (t : Term) (n : ℕ) (ms : List (List ℕ)) → fits_use 1 u ≡ true → fits_expr 0 (filled h t) ≡ true → nodes (filled h t) ≤ n → ltb n 33 ≡ true → GoesOn (names_expr (filled h t) (names_use u)) ms → ltb (length ms) 33 ≡ true → fits_behind u h t [] 0 ≡ true
outer_back u h t n ms used term_ few e names f =
    let p = parts (fits_hole 0 h) (fits_term 0 t) (filled_fits 0 h t term_) in
    let k : length (names_expr (filled h t) (names_use u)) ≤ length ms = longer _ ms names in
    let l : length (names_expr (filled h t) (names_use u)) ≡ length (names_term t (names_hole h (names_use u))) = ap length (filled_names h t (names_use u)) in
    behind_is u h t [] 0 n (length ms) used p.0 p.1 (omega (arith, filled_nodes h t)) e (omega arith) f

inner_back : (u : Use) (h g : Hole) (t : Term) (os : List Hole) (n m : ℕ) → fits_use 1 u ≡ true → fits_open g os ≡ true → ltb (length os) 32 ≡ true → fits_expr (suc (length os)) (filled h t) ≡ true → held g os + nodes (filled h t) ≤ n → ltb n 33 ≡ true → length (names_expr (filled h t) (names_before u g os)) ≤ m → ltb m 33 ≡ true → fits_behind u h t (g ∷ os) 0 ≡ true
inner_back u h g t os n m used opened deep term_ few e names f =
    let p = parts (fits_hole (suc (length os)) h) (fits_term (suc (length os)) t) (filled_fits (suc (length os)) h t term_) in
    let l : length (names_expr (filled h t) (names_before u g os)) ≡ length (names_term t (names_hole h (names_before u g os))) = ap length (filled_names h t (names_before u g os)) in
    behind_is u h t (g ∷ os) 0 n m used (both (fits_open g os) (ltb (length os) 32 && fits_hole (suc (length os)) h) opened (both (ltb (length os) 32) (fits_hole (suc (length os)) h) deep p.0)) p.1 (omega (arith, filled_nodes h t)) e (omega arith) f

-- the sum goes on
plus_back : (u : Use) (h : Hole) (t : Term) (os : List Hole) → before_operand u (AfterPlus (filled h t)) os ≡ true → fits_behind u h t os 0 ≡ true
plus_back u h t [] e =
    let p = inside 1 u (AfterPlus (filled h t)) [] (held (AfterPlus (filled h t)) []) (names_before u (AfterPlus (filled h t)) []) e in
    outer_back u h t (held (AfterPlus (filled h t)) []) (names_expr (filled h t) (names_use u)) p.use_ p.open_ (omega arith) p.few (goes_on_self (names_expr (filled h t) (names_use u))) p.names
plus_back u h t (g ∷ os) e =
    let x = filled h t in
    let p = inside 1 u (AfterPlus x) (g ∷ os) (held (AfterPlus x) (g ∷ os)) (names_before u (AfterPlus x) (g ∷ os)) e in
    let q = parts (fits_open g os) (ltb (length os) 32 && fits_expr (suc (length os)) x) p.open_ in
    let r = parts (ltb (length os) 32) (fits_expr (suc (length os)) x) q.1 in
    inner_back u h g t os (held (AfterPlus x) (g ∷ os)) (length (names_expr x (names_before u g os))) p.use_ q.0 r.0 r.1 (omega arith) p.few (omega arith) p.names

minus_back : (u : Use) (h : Hole) (t : Term) (os : List Hole) → before_operand u (AfterMinus (filled h t)) os ≡ true → fits_behind u h t os 0 ≡ true
minus_back u h t [] e = plus_back u h t [] e
minus_back u h t (g ∷ os) e = plus_back u h t (g ∷ os) e

-- the parenthesis is closed
close_back : (u : Use) (h g : Hole) (t : Term) (os : List Hole) → fits_behind u g (Just (Group (filled h t))) os 0 ≡ true → fits_behind u h t (g ∷ os) 0 ≡ true
close_back u h g t os e =
    let x = filled h t in
    let ms = names_expr x (names_before u g os) in
    let r = parts (fits_inside 1 u g os (held g os + nodes x + 0) ms) (ltb (length os) 32 && fits_expr (suc (length os)) x) e in
    let p = inside 1 u g os (held g os + nodes x + 0) ms r.0 in
    let q = parts (ltb (length os) 32) (fits_expr (suc (length os)) x) r.1 in
    inner_back u h g t os (held g os + nodes x + 0) (length ms) p.use_ p.open_ q.0 q.1 (omega arith) p.few (omega arith) p.names

-- Queries and levels

front_is : (b : Before) (qs : Run Query) → fits_before b ≡ true → all_run fits_query qs ≡ true → ltb (count_run qs) 17 ≡ true → ltb (length (names_queries qs)) 33 ≡ true → fits_front b qs ≡ true
front_is b qs before queries count_ names = both (fits_before b) (fits_queries qs) before (both (all_run fits_query qs) (fits_list (count_run qs) && fits_names (names_queries qs)) queries (both (fits_list (count_run qs)) (fits_names (names_queries qs)) count_ names))

one_is : (b : Before) (qs : Run Query) (v : List ℕ) (ms : List (List ℕ)) → fits_before b ≡ true → all_run fits_query qs ≡ true → ltb (count_run qs + 1) 17 ≡ true → fits_name v ≡ true → GoesOn (with_name v (names_queries qs)) ms → ltb (length ms) 33 ≡ true → fits_one b qs v ≡ true
one_is b qs v ms before queries count_ name names few =
    let ns = names_queries qs in
    let k : length (with_name v ns) ≤ length ms = longer (with_name v ns) ms names in
    let l : length ns ≤ length (with_name v ns) = longer ns (with_name v ns) (with_goes_on v ns) in
    let n : count_run qs + 1 < 17 = is_below (count_run qs + 1) 17 count_ in
    both (fits_begun b qs) (fits_name v && fits_names (with_name v ns))
    (both (fits_front b qs) (ltb (count_run qs) 16) (front_is b qs before queries (below (count_run qs) 17 (omega arith)) (under (length ns) (length ms) 33 (omega arith) few)) (below (count_run qs) 16 (omega arith)))
    (both (fits_name v) (fits_names (with_name v ns)) name (under (length (with_name v ns)) (length ms) 33 k few))

-- what a part up to one query more keeps
record Asking (b : Before) (qs : Run Query) (q : Query) : Type 0 where
  before : fits_before b ≡ true
  queries : all_run fits_query qs ≡ true
  query : fits_query q ≡ true
  room : ltb (count_run qs + 1) 17 ≡ true
  names : ltb (length (names_query q (names_queries qs))) 33 ≡ true

asking : (b : Before) (qs : Run Query) (q : Query) → fits_front b (Then qs q) ≡ true → Asking b qs q
asking b qs q e =
    let p = parts (fits_before b) (fits_queries (Then qs q)) e in
    let r = parts (all_run fits_query qs && fits_query q) (fits_list (count_run qs + 1) && fits_names (names_query q (names_queries qs))) p.1 in
    let s = parts (all_run fits_query qs) (fits_query q) r.0 in
    let t = parts (fits_list (count_run qs + 1)) (fits_names (names_query q (names_queries qs))) r.1 in
    record { before = p.0; queries = s.0; query = s.1; room = t.0; names = t.1 }

single_back : (b : Before) (qs : Run Query) (q : Word) (v : List ℕ) (h : Hole) (t : Term) → fits_front b (Then qs (Single q v (filled h t))) ≡ true → fits_behind (Argument b qs (OneVariable q v)) h t [] 0 ≡ true
single_back b qs q v h t e =
    let x = filled h t in
    let ns = with_name v (names_queries qs) in
    let p = asking b qs (Single q v x) e in
    let r = parts (fits_name v) (fits_whole x) p.query in
    let s = parts (fits_expr 0 x) (fits_nodes (nodes x)) r.1 in
    outer_back (Argument b qs (OneVariable q v)) h t (nodes x) (names_expr x ns) (one_is b qs v (names_expr x ns) p.before p.queries p.room r.0 (expr_goes_on x ns) p.names) s.0 (omega arith) s.1 (goes_on_self (names_expr x ns)) p.names

into_back : (b : Before) (qs : Run Query) (v w : List ℕ) (h : Hole) (t : Term) → fits_lanes b qs v w (filled h t) ≡ true → fits_behind (Argument b qs (TwoVariables v w)) h t [] 0 ≡ true
into_back b qs v w h t e =
    let x = filled h t in
    let ns = with_name w (with_name v (names_queries qs)) in
    let p = parts (fits_two b qs v w) (fits_whole x && fits_names (names_expr x ns)) e in
    let r = parts (fits_whole x) (fits_names (names_expr x ns)) p.1 in
    let s = parts (fits_expr 0 x) (fits_nodes (nodes x)) r.0 in
    outer_back (Argument b qs (TwoVariables v w)) h t (nodes x) (names_expr x ns) p.0 s.0 (omega arith) s.1 (goes_on_self (names_expr x ns)) r.1

lanes_back : (b : Before) (qs : Run Query) (v w : List ℕ) (x : Expr) (k : ℕ) → fits_front b (Then qs (Lanes v w x k)) ≡ true → fits_lanes b qs v w x ≡ true
lanes_back b qs v w x k e =
    let ns = names_queries qs in
    let vs = with_name v ns in
    let ws = with_name w vs in
    let ms = names_expr x ws in
    let p = asking b qs (Lanes v w x k) e in
    let r = parts (fits_name v) (fits_name w && (fits_whole x && fits_number k)) p.query in
    let s = parts (fits_name w) (fits_whole x && fits_number k) r.1 in
    let t = parts (fits_whole x) (fits_number k) s.1 in
    let l : length ws ≤ length ms = longer ws ms (expr_goes_on x ws) in
    both (fits_two b qs v w) (fits_whole x && fits_names ms)
    (both (fits_one b qs v) (fits_name w && fits_names ws)
    (one_is b qs v ws p.before p.queries p.room r.0 (with_goes_on w vs) (under (length ws) (length ms) 33 l p.names))
    (both (fits_name w) (fits_names ws) s.0 (under (length ws) (length ms) 33 l p.names)))
    (both (fits_whole x) (fits_names ms) t.0 p.names)

-- one level more
all_more : (ls : Option (Comma Expr)) (x : Expr) → all fits_whole (one_more ls x) ≡ true → (all_levels ls && fits_whole x) ≡ true
all_more None x e = e
all_more (Some es) x e = e

count_more : (ls : Option (Comma Expr)) (x : Expr) → count (one_more ls x) ≡ count_levels ls + 1
count_more None x = refl
count_more (Some es) x = refl

names_more : (ls : Option (Comma Expr)) (x : Expr) (ns : List (List ℕ)) → names_comma (one_more ls x) ns ≡ names_expr x (names_levels ls ns)
names_more None x ns = refl
names_more (Some es) x ns = refl

mapped_back : (b : Before) (qs : Run Query) (ls : Option (Comma Expr)) (h : Hole) (t : Term) → fits_front b qs ≡ true → all fits_whole (one_more ls (filled h t)) ≡ true → ltb (count (one_more ls (filled h t))) 17 ≡ true → ltb (length (names_comma (one_more ls (filled h t)) (names_queries qs))) 33 ≡ true → fits_behind (Mapped b qs ls) h t [] 0 ≡ true
mapped_back b qs ls h t front_ levels room names =
    let x = filled h t in
    let ns = names_levels ls (names_queries qs) in
    let p = parts (all_levels ls) (fits_whole x) (all_more ls x levels) in
    let s = parts (fits_expr 0 x) (fits_nodes (nodes x)) p.1 in
    let few : ltb (length (names_expr x ns)) 33 ≡ true = sym (ap (λ ms. ltb (length ms) 33) (names_more ls x (names_queries qs))) ∙ names in
    outer_back (Mapped b qs ls) h t (nodes x) (names_expr x ns)
    (both (fits_front b qs) (all_levels ls && fits_list (count_levels ls + 1)) front_ (both (all_levels ls) (fits_list (count_levels ls + 1)) p.0 (sym (ap (λ n. ltb n 17) (count_more ls x)) ∙ room)))
    s.0 (omega arith) s.1 (goes_on_self (names_expr x ns)) few

abbrev whole_part : Before → Run Query → Option (Comma Expr) → Option (Comma ℕ) → Option (Comma ℕ) → Run (Comma Column) → Bool
whole_part b qs ls cut me ps = fits_before b && (fits_queries qs && (fits_levels qs ls && (fits_numbers cut && (fits_numbers me && fits_packs ps))))

levels_end_back : (b : Before) (qs : Run Query) (ls : Option (Comma Expr)) (h : Hole) (t : Term) → whole_part b qs (Some (one_more ls (filled h t))) None None Empty ≡ true → fits_behind (Mapped b qs ls) h t [] 0 ≡ true
levels_end_back b qs ls h t e =
    let es = one_more ls (filled h t) in
    let p = parts (fits_before b) (fits_queries qs && (fits_levels qs (Some es) && true)) e in
    let r = parts (fits_queries qs) (fits_levels qs (Some es) && true) p.1 in
    let s = parts (all fits_whole es) (fits_list (count es) && fits_names (names_comma es (names_queries qs))) (left_of (fits_levels qs (Some es)) true r.1) in
    let u = parts (fits_list (count es)) (fits_names (names_comma es (names_queries qs))) s.1 in
    mapped_back b qs ls h t (both (fits_before b) (fits_queries qs) p.0 r.0) s.0 u.0 u.1

levels_comma_back : (b : Before) (qs : Run Query) (ls : Option (Comma Expr)) (h : Hole) (t : Term) → before_operand (Mapped b qs (Some (one_more ls (filled h t)))) Begin [] ≡ true → fits_behind (Mapped b qs ls) h t [] 0 ≡ true
levels_comma_back b qs ls h t e =
    let es = one_more ls (filled h t) in
    let p = inside 0 (Mapped b qs (Some es)) Begin [] 0 (names_comma es (names_queries qs)) e in
    let r = parts (fits_front b qs) (all fits_whole es && fits_list (count es + 0)) p.use_ in
    let s = parts (all fits_whole es) (fits_list (count es + 0)) r.1 in
    mapped_back b qs ls h t r.0 s.0 (under (count es) (count es + 0) 17 (omega arith) s.1) p.names

-- The states

abbrev Back : Piece → Option Piece → Type 0
Back s o = IfSome o (λ u. fits u ≡ true → fits s ≡ true)

ended_back : (u : Use) (h : Hole) (t : Term) → fits (ended u (filled h t)) ≡ true → fits_behind u h t [] 0 ≡ true
ended_back (Argument b qs (OneVariable q v)) h t e = single_back b qs q v h t e
ended_back (Argument b qs (TwoVariables v w)) h t e = into_back b qs v w h t e
ended_back (Mapped b qs ls) h t e = levels_end_back b qs ls h t e

closed_back : (u : Use) (h : Hole) (t : Term) (os : List Hole) → fits (closed u (filled h t) os) ≡ true → fits_behind u h t os 0 ≡ true
closed_back u h t [] e = ended_back u h t e
closed_back u h t (g ∷ os) e = close_back u h g t os e

operand_back : (u : Use) (h : Hole) (os : List Hole) (t : Token) → Back (Operand u h os) (operand u h os t)
operand_back u h os (Fixed mark.I) = leaf_back u h (Just Row) os
operand_back u h os (Fixed mark.J) = leaf_back u h (Just Col) os
operand_back u h os (Fixed mark.Open) = open_back u h os
operand_back u h os (Name w) = leaf_back u h (Just (Named w)) os
operand_back u h os (Number n) = leaf_back u h (Just (Num n)) os
operand_back u h os _ = tt

divisor_back : (over : Bool) (u : Use) (h : Hole) (r : Term) (os : List Hole) (t : Token) → Back (Divisor over u h r os) (divisor over u h r os t)
divisor_back over u h r os (Number (suc k)) = divided_back over u h r k os
divisor_back over u h r os _ = tt

parted_back : (u : Use) (h : Hole) (r : Term) (os : List Hole) → Back (After u h r os) (parted u (filled h r) os)
parted_back (Mapped b qs ls) h r [] = levels_comma_back b qs ls h r
parted_back (Mapped b qs ls) h r (g ∷ os) = tt
parted_back (Argument b qs q) h r os = tt

after_back : (u : Use) (h : Hole) (r : Term) (os : List Hole) (t : Token) → Back (After u h r os) (after u h r os t)
after_back u h r os (Fixed mark.Plus) = plus_back u h r os
after_back u h r os (Fixed mark.Minus) = minus_back u h r os
after_back u h r os (Fixed mark.Slash) = sign_back u h r os
after_back u h r os (Fixed mark.Percent) = sign_back u h r os
after_back u h r os (Fixed mark.Close) = closed_back u h r os
after_back u h r os (Fixed mark.Comma) = parted_back u h r os
after_back u h r os _ = tt

expect_back : (s u : Piece) (m : Mark) (t : Token) → (fits u ≡ true → fits s ≡ true) → Back s (expect m u t)
expect_back s u m (Fixed k) f = chosen (same k m)
  where
    chosen : (b : Bool) → Back s (cond b (Some u) None)
    chosen true = f
    chosen false = tt
expect_back s u m (Name w) f = tt
expect_back s u m (Number n) f = tt

name_back : (s : Piece) (go : List ℕ → Piece) (t : Token) → ((w : List ℕ) → fits (go w) ≡ true → fits s ≡ true) → Back s (a_name go t)
name_back s go (Name w) f = f w
name_back s go (Fixed k) f = tt
name_back s go (Number n) f = tt

number_back : (s : Piece) (go : ℕ → Piece) (t : Token) → ((k : ℕ) → fits (go k) ≡ true → fits s ≡ true) → Back s (a_number go t)
number_back s go (Number k) f = f k
number_back s go (Fixed k) f = tt
number_back s go (Name w) f = tt

same_fits : (s u : Piece) → fits u ≡ fits s → fits u ≡ true → fits s ≡ true
same_fits s u e h = sym e ∙ h

without_room : (a b c : Bool) → (a && (b && c)) ≡ true → (a && b) ≡ true
without_room a b c h = grind (arith, nat_tests)

headed_back : (b : Before) (qs : Run Query) → Back (Between b qs) (headed b qs)
headed_back (BehindName n) qs = λ e. without_room (fits_name n) (fits_queries qs) (fits_blocks qs Empty) e
headed_back (BehindHead n h) qs = tt
headed_back (BehindBlocks n h p) qs = tt

between_back : (b : Before) (qs : Run Query) (t : Token) → Back (Between b qs) (between b qs t)
between_back b qs (Fixed mark.Let) = λ e. left_of (fits_front b qs) (ltb (count_run qs) 16) e
between_back b qs (Fixed mark.Map) = λ e. e
between_back b qs (Fixed mark.Part) = headed_back b qs
between_back b qs _ = tt

variable_back : (b : Before) (qs : Run Query) (v : List ℕ) (t : Token) → Back (AfterVariable b qs v) (after_variable b qs v t)
variable_back b qs v (Fixed mark.Equal) = λ e. e
variable_back b qs v (Fixed mark.Comma) = λ e. e
variable_back b qs v _ = tt

word_back : (b : Before) (qs : Run Query) (v : List ℕ) (t : Token) → Back (AtWord b qs v) (a_word b qs v t)
word_back b qs v (Fixed mark.Sum) = λ e. e
word_back b qs v (Fixed mark.Enumerate) = λ e. e
word_back b qs v (Fixed mark.Reorder) = λ e. e
word_back b qs v _ = tt

-- conditions in another order
regrouped : (a b c d e : Bool) → ((a && b) && (c && (d && e))) ≡ true → (a && (b && (c && (d && (e && true))))) ≡ true
regrouped a b c d e h = grind (arith, nat_tests)

regrouped_four : (a b c d : Bool) → ((a && b) && (c && d)) ≡ true → (a && (b && (c && (d && true)))) ≡ true
regrouped_four a b c d h = grind (arith, nat_tests)

regrouped_cut : (a b c d : Bool) → ((a && b) && (c && (d && true))) ≡ true → (a && (b && (c && (d && true)))) ≡ true
regrouped_cut a b c d h = grind (arith, nat_tests)

regrouped_three : (a b c : Bool) → ((a && b) && (c && true)) ≡ true → (a && (b && (c && true))) ≡ true
regrouped_three a b c h = grind (arith, nat_tests)

abbrev BackTail : Before → Run Query → Option (Comma Expr) → Option (Comma ℕ) → Option (Comma ℕ) → Run (Comma Column) → Option Piece → Type 0
BackTail b qs ls cut me ps o = IfSome o (λ u. fits u ≡ true → whole_part b qs ls cut me ps ≡ true)

more_back : (b : Before) (qs : Run Query) (ls : Option (Comma Expr)) (cut me : Option (Comma ℕ)) (ps : Run (Comma Column)) → BackTail b qs ls cut me ps (more_numbers b qs ls cut me ps)
more_back b qs ls cut (Some ks) Empty = regrouped (fits_before b) (fits_queries qs) (fits_levels qs ls) (fits_numbers cut) (fits_numbers (Some ks))
more_back b qs ls (Some ks) None Empty = regrouped_four (fits_before b) (fits_queries qs) (fits_levels qs ls) (fits_numbers (Some ks))
more_back b qs ls None None Empty = tt
more_back b qs ls cut me (Then ps p) = tt

trim_back : (b : Before) (qs : Run Query) (ls : Option (Comma Expr)) (cut me : Option (Comma ℕ)) (ps : Run (Comma Column)) → BackTail b qs ls cut me ps (a_trim b qs ls cut me ps)
trim_back b qs ls None None Empty = regrouped_three (fits_before b) (fits_queries qs) (fits_levels qs ls)
trim_back b qs ls (Some ks) me ps = tt
trim_back b qs ls None (Some ks) ps = tt
trim_back b qs ls None None (Then ps p) = tt

merge_back : (b : Before) (qs : Run Query) (ls : Option (Comma Expr)) (cut me : Option (Comma ℕ)) (ps : Run (Comma Column)) → BackTail b qs ls cut me ps (a_merge b qs ls cut me ps)
merge_back b qs ls cut None Empty = regrouped_cut (fits_before b) (fits_queries qs) (fits_levels qs ls) (fits_numbers cut)
merge_back b qs ls cut (Some ks) ps = tt
merge_back b qs ls cut None (Then ps p) = tt

outward : (a b c : Bool) → (a && (b && c)) ≡ true → ((a && b) && c) ≡ true
outward a b c h = grind (arith, nat_tests)

outward_two : (a b c d : Bool) → (a && (b && (c && d))) ≡ true → ((a && (b && c)) && d) ≡ true
outward_two a b c d h = grind (arith, nat_tests)

finished_back : (b : Before) (p : Part) → fits (finished b p) ≡ true → fits (Tail b p) ≡ true
finished_back (BehindName n) p e = e
finished_back (BehindHead n h) p e = outward (fits_name n) (fits_head h) (fits_part p) e
finished_back (BehindBlocks n h p) q e = outward_two (fits_name n) (fits_head h) (fits_part p) (fits_part q) e

tail_back : (b : Before) (p : Part) (t : Token) → Back (Tail b p) (tail b p t)
tail_back b p (Fixed mark.Comma) = more_back b p.queries p.levels p.trim p.merge p.packs
tail_back b p (Fixed mark.Trim) = trim_back b p.queries p.levels p.trim p.merge p.packs
tail_back b p (Fixed mark.Merge) = merge_back b p.queries p.levels p.trim p.merge p.packs
tail_back b p (Fixed mark.Pack) = without_room (fits_before b) (fits_part p) (ltb (count_run p.packs) 16)
tail_back b p (Fixed mark.BraceClose) = finished_back b p
tail_back b p _ = tt

-- one number, column or pack more
one_fewer : (a b : Bool) (n : ℕ) → ((a && b) && ltb (n + 1) 17) ≡ true → (a && ltb n 17) ≡ true
one_fewer a b n h = grind (arith, nat_tests)

numbers_back : (ks : Option (Comma ℕ)) (k : ℕ) → fits_numbers (Some (one_more ks k)) ≡ true → fits_numbers ks ≡ true
numbers_back None k e = refl
numbers_back (Some ks) k e = one_fewer (all fits_number ks) (fits_number k) (count ks) e

columns_back : (cs : Option (Comma Column)) (c : Column) → fits_pack (one_more cs c) ≡ true → fits_columns cs ≡ true
columns_back None c e = refl
columns_back (Some cs) c e = one_fewer (all fits_column cs) (fits_column c) (count cs) e

trimmed_bools : (a b c d : Bool) → (a && (b && (c && (d && true)))) ≡ true → ((a && b) && (c && d)) ≡ true
trimmed_bools a b c d h = grind (arith, nat_tests)

merged_bools : (a b c d e : Bool) → (a && (b && (c && (d && (e && true))))) ≡ true → ((a && b) && (c && (d && e))) ≡ true
merged_bools a b c d e h = grind (arith, nat_tests)

last_changed : (a b c d : Bool) → (c ≡ true → d ≡ true) → (a && (b && c)) ≡ true → (a && (b && d)) ≡ true
last_changed a b c d f h =
    let p = parts a (b && c) h in
    let q = parts b c p.1 in
    both a (b && d) p.0 (both b d q.0 (f q.1))

trimmed_back : (b : Before) (qs : Run Query) (ls : Option (Comma Expr)) (ks : Option (Comma ℕ)) (k : ℕ) → fits (Tail b (trimmed qs ls (one_more ks k))) ≡ true → fits (AtTrim b qs ls ks) ≡ true
trimmed_back b qs ls ks k e =
    last_changed (fits_front b qs) (fits_levels qs ls) (fits_numbers (Some (one_more ks k))) (fits_numbers ks) (numbers_back ks k)
    (trimmed_bools (fits_before b) (fits_queries qs) (fits_levels qs ls) (fits_numbers (Some (one_more ks k))) e)

merged_back : (b : Before) (qs : Run Query) (ls : Option (Comma Expr)) (cut ks : Option (Comma ℕ)) (k : ℕ) → fits (Tail b (merged qs ls cut (one_more ks k))) ≡ true → fits (AtMerge b qs ls cut ks) ≡ true
merged_back b qs ls cut ks k e =
    let h = merged_bools (fits_before b) (fits_queries qs) (fits_levels qs ls) (fits_numbers cut) (fits_numbers (Some (one_more ks k))) e in
    let p = parts (fits_front b qs) (fits_levels qs ls && (fits_numbers cut && fits_numbers (Some (one_more ks k)))) h in
    both (fits_front b qs) (fits_levels qs ls && (fits_numbers cut && fits_numbers ks)) p.0
    (last_changed (fits_levels qs ls) (fits_numbers cut) (fits_numbers (Some (one_more ks k))) (fits_numbers ks) (numbers_back ks k) p.1)

column_back : (b : Before) (p : Part) (cs : Option (Comma Column)) (t : Token) → Back (AtColumn b p cs) (a_column b p cs t)
column_back b p cs (Fixed mark.Val) = λ e. let q = parts (fits_packing b p) (fits_pack (one_more cs Val)) e in both (fits_packing b p) (fits_columns cs) q.0 (columns_back cs Val q.1)
column_back b p cs (Number k) = λ e. let q = parts (fits_packing b p) (fits_pack (one_more cs (Level k))) e in both (fits_packing b p) (fits_columns cs) q.0 (columns_back cs (Level k) q.1)
column_back b p cs _ = tt

packed_bools : (a q l t m ps c : Bool) (n : ℕ) → (a && (q && (l && (t && (m && ((ps && c) && ltb (n + 1) 17)))))) ≡ true → ((a && ((q && (l && (t && (m && (ps && ltb n 17))))) && ltb n 16)) && c) ≡ true
packed_bools a q l t m ps c n h = grind (arith, nat_tests)

after_column_back : (b : Before) (p : Part) (cs : Comma Column) (t : Token) → Back (AfterColumn b p cs) (after_column b p cs t)
after_column_back b p cs (Fixed mark.Comma) = λ e. e
after_column_back b p cs (Fixed mark.Close) = packed_bools (fits_before b) (fits_queries p.queries) (fits_levels p.queries p.levels) (fits_numbers p.trim) (fits_numbers p.merge) (all_run fits_pack p.packs) (fits_pack cs) (count_run p.packs)
after_column_back b p cs _ = tt

-- behind the parenthesis of the levels
map_some : {A : Type 0} (P Q : A → Type 0) (o : Option A) → ((a : A) → P a → Q a) → IfSome o P → IfSome o Q
map_some P Q None f p = tt
map_some P Q (Some a) f p = f a p

levels_from : (b : Before) (qs : Run Query) → fits (Operand (Mapped b qs None) Begin []) ≡ true → fits_front b qs ≡ true
levels_from b qs e =
    let p = inside 0 (Mapped b qs None) Begin [] 0 (names_queries qs) e in
    left_of (fits_front b qs) (true && fits_list 0) p.use_

first_level : (b : Before) (qs : Run Query) (t : Token) → Back (AtLevels b qs) (operand (Mapped b qs None) Begin [] t)
first_level b qs t = map_some (λ u. fits u ≡ true → fits (Operand (Mapped b qs None) Begin []) ≡ true) (λ u. fits u ≡ true → fits_front b qs ≡ true) (operand (Mapped b qs None) Begin [] t) (λ u f e. levels_from b qs (f e)) (operand_back (Mapped b qs None) Begin [] t)

no_levels : (a b c : Bool) → (a && (b && c)) ≡ true → (a && b) ≡ true
no_levels a b c h = grind (arith, nat_tests)

levels_back : (b : Before) (qs : Run Query) (t : Token) → Back (AtLevels b qs) (at_levels b qs t)
levels_back b qs (Fixed mark.Close) = no_levels (fits_before b) (fits_queries qs) (fits_levels qs None && true)
levels_back b qs t = first_level b qs t

-- the condition
condition_bools : (a b c d : Bool) → (a && (b && (c && d))) ≡ true → (a && (b && c)) ≡ true
condition_bools a b c d h = grind (arith, nat_tests)

sign_token_back : (n : List ℕ) (qs : Run Query) (bs : Run Block) (v : List ℕ) (t : Token) → Back (AtSign n qs bs v) (a_sign n qs bs v t)
sign_token_back n qs bs v (Fixed mark.Less) = λ e. e
sign_token_back n qs bs v (Fixed mark.AtLeast) = λ e. e
sign_token_back n qs bs v _ = tt

bound_bools : (a b c d e f : Bool) → (a && (b && (c && (d && (e && f))))) ≡ true → (a && (b && (c && (d && e)))) ≡ true
bound_bools a b c d e f h = grind (arith, nat_tests)

-- one condition fewer
rest_back : (n : List ℕ) (h : Head) (p : Part) (t : Token) → Back (AtRest n h p) (at_rest n h p t)
rest_back n h p (Fixed mark.Rest) = λ e. e
rest_back n h p (Fixed mark.Part) = λ e.
    let ns = names_blocks h.blocks (names_queries h.queries) in
    let w = with_name h.name ns in
    let last = fits_name h.name && (fits_number h.bound && fits_part p) in
    let x = right_of (fits_queries h.queries) ((all_run fits_block h.blocks && last) && (ltb (count_run h.blocks + 1) 3 && fits_names w)) (right_of (fits_name n) (fits_queries h.queries && ((all_run fits_block h.blocks && last) && (ltb (count_run h.blocks + 1) 3 && fits_names w))) e) in
    let y = parts (all_run fits_block h.blocks && last) (ltb (count_run h.blocks + 1) 3 && fits_names w) x in
    let z = parts (ltb (count_run h.blocks + 1) 3) (fits_names w) y.1 in
    let u = parts (all_run fits_block h.blocks) last y.0 in
    let v = parts (fits_name h.name) (fits_number h.bound && fits_part p) u.1 in
    let r = parts (fits_number h.bound) (fits_part p) v.1 in
    let few : ltb (count_run h.blocks) 3 ≡ true = under (count_run h.blocks) (count_run h.blocks + 1) 3 (omega arith) z.0 in
    let names : fits_names ns ≡ true = under (length ns) (length w) 33 (longer ns w (with_goes_on h.name ns)) z.1 in
    let blocks : fits_blocks h.queries h.blocks ≡ true = both (all_run fits_block h.blocks) (ltb (count_run h.blocks) 3 && fits_names ns) u.0 (both (ltb (count_run h.blocks) 3) (fits_names ns) few names) in
    let head : fits_head h ≡ true =
    both (fits_queries h.queries) (fits_blocks h.queries h.blocks && (fits_name h.name && (fits_names w && fits_number h.bound))) (left_of (fits_queries h.queries) ((all_run fits_block h.blocks && last) && (ltb (count_run h.blocks + 1) 3 && fits_names w)) (right_of (fits_name n) (fits_queries h.queries && ((all_run fits_block h.blocks && last) && (ltb (count_run h.blocks + 1) 3 && fits_names w))) e))
    (both (fits_blocks h.queries h.blocks) (fits_name h.name && (fits_names w && fits_number h.bound)) blocks (both (fits_name h.name) (fits_names w && fits_number h.bound) v.0 (both (fits_names w) (fits_number h.bound) z.1 r.0))) in
    both (fits_name n) (fits_head h && fits_part p) (left_of (fits_name n) (fits_queries h.queries && ((all_run fits_block h.blocks && last) && (ltb (count_run h.blocks + 1) 3 && fits_names w))) e) (both (fits_head h) (fits_part p) head r.1)
rest_back n h p _ = tt

inward : (a b c : Bool) → ((a && b) && c) ≡ true → (a && b) ≡ true
inward a b c h = left_of (a && b) c h

pub step_back : (s : Piece) (t : Token) → Back s (step s t)
step_back AtFormat t = expect_back AtFormat AtName mark.Format t (λ e. refl)
step_back AtName t = name_back AtName AtBrace t (λ w e. refl)
step_back (AtBrace n) t = expect_back (AtBrace n) (Between (BehindName n) Empty) mark.BraceOpen t (λ e. left_of (fits_name n) true e)
step_back (Between b qs) t = between_back b qs t
step_back (AtVariable b qs) t = name_back (AtVariable b qs) (AfterVariable b qs) t (λ w e. left_of (fits_begun b qs) (fits_name w && fits_names (with_name w (names_queries qs))) e)
step_back (AfterVariable b qs v) t = variable_back b qs v t
step_back (AtWord b qs v) t = word_back b qs v t
step_back (AtSlot b qs v) t = name_back (AtSlot b qs v) (AtEqual b qs v) t (λ w e. left_of (fits_one b qs v) (fits_name w && fits_names (with_name w (with_name v (names_queries qs)))) e)
step_back (AtEqual b qs v w) t = expect_back (AtEqual b qs v w) (AtSchedule b qs v w) mark.Equal t (λ e. e)
step_back (AtSchedule b qs v w) t = expect_back (AtSchedule b qs v w) (AtArgument b qs (TwoVariables v w)) mark.Schedule t (λ e. e)
step_back (AtArgument b qs q) t = expect_back (AtArgument b qs q) (Operand (Argument b qs q) Begin []) mark.Open t (λ e. (inside 0 (Argument b qs q) Begin [] 0 (names_use (Argument b qs q)) e).use_)
step_back (Operand u h os) t = operand_back u h os t
step_back (Divisor over u h r os) t = divisor_back over u h r os t
step_back (After u h r os) t = after_back u h r os t
step_back (AtInto b qs v w e) t = expect_back (AtInto b qs v w e) (AtLanes b qs v w e) mark.Into t (λ f. f)
step_back (AtLanes b qs v w e) t = number_back (AtLanes b qs v w e) (λ k. Between b (Then qs (Lanes v w e k))) t (λ k f. lanes_back b qs v w e k f)
step_back (AtMap b qs) t = expect_back (AtMap b qs) (AtLevels b qs) mark.Open t (λ e. e)
step_back (AtLevels b qs) t = levels_back b qs t
step_back (Tail b p) t = tail_back b p t
step_back (AtTrim b qs ls ks) t = number_back (AtTrim b qs ls ks) (λ k. Tail b (trimmed qs ls (one_more ks k))) t (λ k e. trimmed_back b qs ls ks k e)
step_back (AtMerge b qs ls cut ks) t = number_back (AtMerge b qs ls cut ks) (λ k. Tail b (merged qs ls cut (one_more ks k))) t (λ k e. merged_back b qs ls cut ks k e)
step_back (AtPack b p) t = expect_back (AtPack b p) (AtColumn b p None) mark.Open t (λ e. left_of (fits_packing b p) true e)
step_back (AtColumn b p cs) t = column_back b p cs t
step_back (AfterColumn b p cs) t = after_column_back b p cs t
step_back (AtWhen n qs bs) t = expect_back (AtWhen n qs bs) (AtCondition n qs bs) mark.When t (λ e. e)
step_back (AtCondition n qs bs) t = name_back (AtCondition n qs bs) (AtSign n qs bs) t (λ v e. condition_bools (fits_name n) (fits_queries qs) (fits_blocks qs bs) (fits_name v && fits_names (with_name v (names_blocks bs (names_queries qs)))) e)
step_back (AtSign n qs bs v) t = sign_token_back n qs bs v t
step_back (AtBound n qs bs v less) t = number_back (AtBound n qs bs v less) (λ k. AtPart n (head_of qs bs v less k)) t (λ k e. bound_bools (fits_name n) (fits_queries qs) (fits_blocks qs bs) (fits_name v) (fits_names (with_name v (names_blocks bs (names_queries qs)))) (fits_number k) e)
step_back (AtPart n h) t = expect_back (AtPart n h) (Between (BehindHead n h) Empty) mark.BraceOpen t (λ e. left_of (fits_name n && fits_head h) true e)
step_back (AtRest n h p) t = rest_back n h p t
step_back (AtLast n h p) t = expect_back (AtLast n h p) (Between (BehindBlocks n h p) Empty) mark.BraceOpen t (λ e. left_of (fits_name n && (fits_head h && fits_part p)) true e)
step_back (AtEnd n h p q) t = expect_back (AtEnd n h p q) (Done (record { name = n; body = Split h p q })) mark.BraceClose t (λ e. e)
step_back (Done d) t = tt

-- All pieces on the way

taken_back : (s : Piece) (o : Option Piece) (t : Token) (ts : List Token) (v : Piece) → step s t ≡ o → Back s o → ((u : Piece) → run ts u ≡ Some v → fits v ≡ true → fits u ≡ true) → go_on (run ts) o ≡ Some v → fits v ≡ true → fits s ≡ true
taken_back s None t ts v is back go e f = absurd cc
taken_back s (Some u) t ts v is back go e f = back (go u e f)

run_back : (ts : List Token) (s v : Piece) → run ts s ≡ Some v → fits v ≡ true → fits s ≡ true
run_back [] s v e f = let is : s ≡ v = cc in ap fits is ∙ f
run_back (t ∷ ts) s v e f = taken_back s (step s t) t ts v refl (step_back s t) (λ u k g. run_back ts u v k g) e f

-- with no earlier declarations
free : (s : Piece) → fits s ≡ true → check [] s ≡ None
free (AtBrace n) e = ap (λ (b : Bool). cond b (repeats [] (AtBrace n)) (Some TooBig)) e
free _ e = ap (λ (b : Bool). cond b None (Some TooBig)) e

pub keeps : (d : Decl) → fits_decl d ≡ true → Keeps (reader []) (decl_tokens d)
keeps d within front more s is e =
    let all : run (front ++ more) AtFormat ≡ Some (Done d) = ap (λ (ts : List Token). run ts AtFormat) (sym is) ∙ reads_decl d in
    let rest : run more s ≡ Some (Done d) = sym (ap (go_on (run more)) e) ∙ sym (run-append (reader []) front more AtFormat) ∙ all in
    free s (run_back more s (Done d) rest within)
