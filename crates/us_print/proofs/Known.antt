-- The names of a part are found under their numbers.
use Rattle.std.proofs.Common.{◌≡◌, ◌<◌, ◌≤◌, ℕ, suc, ◌+◌, List, [], ◌∷◌, ◌++◌, length, Option, Some, None, Bool, true, false, cond, not, eqb, refl, sym, ap, ◌∙◌, arith, length-append}
use Rattle.std.proofs.lemmas.Bool.Decides.{nat_tests}
use Rattle.std.specs.List.{slice_index_or}
use Rattle.us_decl.specs.Grammar.{Comma, Only, And, Run, Empty, Then, Expr, One, Plus, Less, Term, Just, Over, Rest, Factor, Row, Col, Named, Num, Group, Query, Single, Lanes, Part, Block, Head, blocks_of}
use Rattle.us_decl.specs.Names.{same_name, number_of, with_name, names_expr, names_term, names_factor, names_query, names_queries, names_comma, names_levels, names_part, names_blocks, names_head}
use Rattle.us_decl.proofs.Numbering.{GoesOn, goes_on_self, goes_on_trans, with_goes_on, expr_goes_on, term_goes_on, at_most, stays}
use Rattle.us_decl.proofs.Deciding.{left_of, right_of}

same_number : (a b : ℕ) → eqb a b ≡ true → a ≡ b
same_number a b h = grind (arith, nat_tests)

same_is : (w n : List ℕ) → same_name w n ≡ true → w ≡ n
same_is [] [] h = refl
same_is [] (b ∷ bs) h = absurd cc
same_is (a ∷ as') [] h = absurd cc
same_is (a ∷ as') (b ∷ bs) h = ap (λ x. x ∷ as') (same_number a b (left_of (eqb a b) (same_name as' bs) h)) ∙ ap (λ x. b ∷ x) (same_is as' bs (right_of (eqb a b) (same_name as' bs) h))

-- the list has the name in the place of its number
abbrev pub Has : List (List ℕ) → List ℕ → Type 0
Has ns w = slice_index_or ns (number_of w ns) [] ≡ w

there : (w n : List ℕ) (ns : List (List ℕ)) (b : Bool) → same_name w n ≡ b → (number_of w ns < length ns → Has ns w) → cond (not b) (1 + number_of w ns) 0 < length (n ∷ ns) → slice_index_or (n ∷ ns) (cond (not b) (1 + number_of w ns) 0) [] ≡ w
there w n ns true e ih h = sym (same_is w n e)
there w n ns false e ih h = ap (λ k. slice_index_or (n ∷ ns) k []) (one_add (number_of w ns)) ∙ ih (omega arith)
  where
    one_add : (k : ℕ) → 1 + k ≡ suc k
    one_add k = omega arith

has_if_below : (w : List ℕ) (ns : List (List ℕ)) → number_of w ns < length ns → Has ns w
has_if_below w [] h = absurd (omega arith)
has_if_below w (n ∷ ns) h = there w n ns (same_name w n) refl (λ k. has_if_below w ns k) h

below_joined : (b : Bool) (w : List ℕ) (ns : List (List ℕ)) → eqb (number_of w ns) (length ns) ≡ b → number_of w ns < length (cond b (ns ++ (w ∷ [])) ns)
below_joined true w ns e = let k : number_of w ns ≤ length ns = at_most w ns in omega (arith, length-append ns (w ∷ []))
below_joined false w ns e = less (number_of w ns) (length ns) e (at_most w ns)
  where
    less : (m n : ℕ) → eqb m n ≡ false → m ≤ n → m < n
    less m n h k = grind (arith, nat_tests)

-- a name that has joined stays
pub has_joined : (w : List ℕ) (ms ns : List (List ℕ)) → GoesOn (with_name w ms) ns → Has ns w
has_joined w ms ns g =
    let number : number_of w ns ≡ number_of w ms = ap (number_of w) g.is ∙ stays w ms g.more in
    let joined : number_of w ms < length (with_name w ms) = below_joined (eqb (number_of w ms) (length ms)) w ms refl in
    let all : length ns ≡ length (with_name w ms ++ g.more) = ap length g.is in
    has_if_below w ns (omega (arith, length-append (with_name w ms) g.more))

-- all names of an expression are there
abbrev mutual
  pub Knows : List (List ℕ) → Expr → Type 0
  Knows ns (One t) = KnowsTerm ns t
  Knows ns (Plus e t) = Knows ns e × KnowsTerm ns t
  Knows ns (Less e t) = Knows ns e × KnowsTerm ns t

  pub KnowsTerm : List (List ℕ) → Term → Type 0
  KnowsTerm ns (Just f) = KnowsFactor ns f
  KnowsTerm ns (Over t k) = KnowsTerm ns t
  KnowsTerm ns (Rest t k) = KnowsTerm ns t

  pub KnowsFactor : List (List ℕ) → Factor → Type 0
  KnowsFactor ns Row = Unit {0}
  KnowsFactor ns Col = Unit {0}
  KnowsFactor ns (Named w) = Has ns w
  KnowsFactor ns (Num n) = Unit {0}
  KnowsFactor ns (Group e) = Knows ns e

mutual
  pub knows : (e : Expr) (ms ns : List (List ℕ)) → GoesOn (names_expr e ms) ns → Knows ns e
  knows (One t) ms ns g = knows_term t ms ns g
  knows (Plus e t) ms ns g = (knows e ms ns (goes_on_trans (names_expr e ms) (names_term t (names_expr e ms)) ns (term_goes_on t (names_expr e ms)) g), knows_term t (names_expr e ms) ns g)
  knows (Less e t) ms ns g = (knows e ms ns (goes_on_trans (names_expr e ms) (names_term t (names_expr e ms)) ns (term_goes_on t (names_expr e ms)) g), knows_term t (names_expr e ms) ns g)

  knows_term : (t : Term) (ms ns : List (List ℕ)) → GoesOn (names_term t ms) ns → KnowsTerm ns t
  knows_term (Just f) ms ns g = knows_factor f ms ns g
  knows_term (Over t k) ms ns g = knows_term t ms ns g
  knows_term (Rest t k) ms ns g = knows_term t ms ns g

  knows_factor : (f : Factor) (ms ns : List (List ℕ)) → GoesOn (names_factor f ms) ns → KnowsFactor ns f
  knows_factor Row ms ns g = tt
  knows_factor Col ms ns g = tt
  knows_factor (Named w) ms ns g = has_joined w ms ns g
  knows_factor (Num n) ms ns g = tt
  knows_factor (Group e) ms ns g = knows e ms ns g

abbrev pub KnowsQuery : List (List ℕ) → Query → Type 0
KnowsQuery ns (Single q v e) = Has ns v × Knows ns e
KnowsQuery ns (Lanes v w e k) = Has ns v × Has ns w × Knows ns e

abbrev pub KnowsQueries : List (List ℕ) → Run Query → Type 0
KnowsQueries ns Empty = Unit {0}
KnowsQueries ns (Then qs q) = KnowsQueries ns qs × KnowsQuery ns q

abbrev pub KnowsComma : List (List ℕ) → Comma Expr → Type 0
KnowsComma ns (Only e) = Knows ns e
KnowsComma ns (And es e) = KnowsComma ns es × Knows ns e

abbrev pub KnowsLevels : List (List ℕ) → Option (Comma Expr) → Type 0
KnowsLevels ns None = Unit {0}
KnowsLevels ns (Some es) = KnowsComma ns es

knows_query : (q : Query) (ms ns : List (List ℕ)) → GoesOn (names_query q ms) ns → KnowsQuery ns q
knows_query (Single q v e) ms ns g =
    let vs = with_name v ms in
    (has_joined v ms ns (goes_on_trans vs (names_expr e vs) ns (expr_goes_on e vs) g), knows e vs ns g)
knows_query (Lanes v w e k) ms ns g =
    let vs = with_name v ms in
    let ws = with_name w vs in
    let end = goes_on_trans ws (names_expr e ws) ns (expr_goes_on e ws) g in
    (has_joined v ms ns (goes_on_trans vs ws ns (with_goes_on w vs) end), has_joined w vs ns end, knows e ws ns g)

query_goes_on : (q : Query) (ms : List (List ℕ)) → GoesOn ms (names_query q ms)
query_goes_on (Single q v e) ms = goes_on_trans ms (with_name v ms) (names_expr e (with_name v ms)) (with_goes_on v ms) (expr_goes_on e (with_name v ms))
query_goes_on (Lanes v w e k) ms =
    let ws = with_name w (with_name v ms) in
    goes_on_trans ms ws (names_expr e ws) (goes_on_trans ms (with_name v ms) ws (with_goes_on v ms) (with_goes_on w (with_name v ms))) (expr_goes_on e ws)

pub knows_queries : (qs : Run Query) (ns : List (List ℕ)) → GoesOn (names_queries qs) ns → KnowsQueries ns qs
knows_queries Empty ns g = tt
knows_queries (Then qs q) ns g =
    (knows_queries qs ns (goes_on_trans (names_queries qs) (names_query q (names_queries qs)) ns (query_goes_on q (names_queries qs)) g), knows_query q (names_queries qs) ns g)

knows_comma : (es : Comma Expr) (ms ns : List (List ℕ)) → GoesOn (names_comma es ms) ns → KnowsComma ns es
knows_comma (Only e) ms ns g = knows e ms ns g
knows_comma (And es e) ms ns g =
    (knows_comma es ms ns (goes_on_trans (names_comma es ms) (names_expr e (names_comma es ms)) ns (expr_goes_on e (names_comma es ms)) g), knows e (names_comma es ms) ns g)

knows_levels : (ls : Option (Comma Expr)) (ms ns : List (List ℕ)) → GoesOn (names_levels ls ms) ns → KnowsLevels ns ls
knows_levels None ms ns g = tt
knows_levels (Some es) ms ns g = knows_comma es ms ns g

comma_goes_on : (es : Comma Expr) (ms : List (List ℕ)) → GoesOn ms (names_comma es ms)
comma_goes_on (Only e) ms = expr_goes_on e ms
comma_goes_on (And es e) ms = goes_on_trans ms (names_comma es ms) (names_expr e (names_comma es ms)) (comma_goes_on es ms) (expr_goes_on e (names_comma es ms))

levels_goes_on : (ls : Option (Comma Expr)) (ms : List (List ℕ)) → GoesOn ms (names_levels ls ms)
levels_goes_on None ms = goes_on_self ms
levels_goes_on (Some es) ms = comma_goes_on es ms

pub knows_part : (p : Part) → KnowsQueries (names_part p) p.queries × KnowsLevels (names_part p) p.levels
knows_part p =
    (knows_queries p.queries (names_part p) (levels_goes_on p.levels (names_queries p.queries)), knows_levels p.levels (names_queries p.queries) (names_part p) (goes_on_self (names_part p)))

abbrev pub KnowsBlocks : List (List ℕ) → Run Block → Type 0
KnowsBlocks ns Empty = Unit {0}
KnowsBlocks ns (Then bs b) = KnowsBlocks ns bs × Has ns b.name

blocks_go_on : (bs : Run Block) (ms : List (List ℕ)) → GoesOn ms (names_blocks bs ms)
blocks_go_on Empty ms = goes_on_self ms
blocks_go_on (Then bs b) ms = goes_on_trans ms (names_blocks bs ms) (with_name b.name (names_blocks bs ms)) (blocks_go_on bs ms) (with_goes_on b.name (names_blocks bs ms))

knows_blocks : (bs : Run Block) (ms ns : List (List ℕ)) → GoesOn (names_blocks bs ms) ns → KnowsBlocks ns bs
knows_blocks Empty ms ns g = tt
knows_blocks (Then bs b) ms ns g =
    let before = names_blocks bs ms in
    (knows_blocks bs ms ns (goes_on_trans before (with_name b.name before) ns (with_goes_on b.name before) g), has_joined b.name before ns g)

-- the names of the head of these blocks
pub knows_head : (h : Head) (p : Part) → KnowsQueries (names_head h) h.queries × KnowsBlocks (names_head h) (blocks_of h p)
knows_head h p =
    let all = blocks_of h p in
    (knows_queries h.queries (names_head h) (blocks_go_on all (names_queries h.queries)), knows_blocks all (names_queries h.queries) (names_head h) (goes_on_self (names_head h)))
