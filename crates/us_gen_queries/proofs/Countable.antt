-- The queries of an accepted declaration can be counted.
use Rattle.std.specs.Prelude.{None, nat_le, slice_index_or, All}
use Rattle.std.proofs.Common.{◌≡◌, ◌≢◌, ltb-true, ◌<◌, ◌^◌, ℕ, ◌≤◌, List, [], ◌∷◌, map, length, Bool, true, false, ◌&&◌, Option, IsTrue, refl, sym, ap, subst, ◌∙◌, arith}
use Rattle.std.proofs.lemmas.Bool.{and_parts, false≢true}
use Rattle.std.proofs.lemmas.Bool.Decides.{nat_tests}
use Rattle.std.proofs.lemmas.List.Elements.{All-append, All-cons, All-map, All-nil}
use Rattle.us_expr.specs.declared.queries.Cond.{Cond}
use Rattle.us_format.specs.Declaration.{Query, SumOf, Enumerate, Reorder, Schedule, Part, Declaration, argument, defined}
use Rattle.us_format.specs.Lists.{among}
use Rattle.us_format.specs.Rules.{has_lawful_argument, HasLanes}
use Rattle.us_format.proofs.Lawful.{argument-plain, uses-none}
use Rattle.us_decl.specs.Grammar as grammar
use Rattle.us_decl.specs.Declares.{Declared, DeclaredBody, Divided, IsValid, Undivided, declared, run_items}
use Rattle.us_decl.specs.Declares as text
use Rattle.us_decl.specs.Limits.{all_run, fits_block, fits_body, fits_head, fits_name, fits_number, fits_blocks, fits_names, fits_queries, fits_query, fits_whole}
use Rattle.us_decl.specs.Names.{names_head}
use Rattle.us_judge.specs.Acceptance.{first_failing, has_lawful_lanes, is_count, is_defined_once, bad_count, bad_argument, bad_condition, bad_head_name, bad_lanes, first_refusal, head_refusal, head_rules, parts_refusal, refusal_by}
use Rattle.us_judge.specs.Views.{declaration_of, plain_query}
use Rattle.us_judge.proofs.ValidExpressions.{HasSmallArgument, arguments-valid, small-tree}
use Rattle.us_judge.proofs.Valid.{IsShaped, shaped-valid, short-valid}
use Rattle.us_judge.proofs.Accepted.{all-kept, all-pass, none_first, none_second, KeepsRules, accepted-keeps}
use Rattle.us_gen_counting.specs.Rooms.{IsCountable, IsNarrow}
use Rattle.us_gen_counting.specs.Selects.{IsCount}
use Rattle.us_gen_queries.specs.Accepted.{HeadSelects, HeadsSelect, PartsCount}

left_of : (a b : Bool) → (a && b) ≡ true → a ≡ true
left_of true b e = refl
left_of false b e = absurd cc

right_of : (a b : Bool) → (a && b) ≡ true → b ≡ true
right_of true b e = e
right_of false b e = absurd cc

at-most : (a b : ℕ) → nat_le a b ≡ true → a ≤ b
at-most a b e = grind (arith, nat_tests)

some-lanes : (q : Query) → has_lawful_lanes q ≡ true → HasLanes q
some-lanes (SumOf v e) h = tt
some-lanes (Enumerate v e) h = tt
some-lanes (Reorder v e) h = tt
some-lanes (Schedule l t e n) h = omega (arith, at-most 1 n (and_parts (nat_le 1 n) (nat_le n 64) h).0)

few-lanes : (q : Query) → has_lawful_lanes q ≡ true → IsNarrow q
few-lanes (SumOf v e) h = tt
few-lanes (Enumerate v e) h = tt
few-lanes (Reorder v e) h = tt
few-lanes (Schedule l t e n) h = at-most n 64 (and_parts (nat_le 1 n) (nat_le n 64) h).1

pub countable : (q : Query) → has_lawful_argument q ≡ true → has_lawful_lanes q ≡ true → HasSmallArgument q → IsCountable q
countable q a l small = record {
  within = small.within 32 (λ v u. absurd (false≢true (sym (uses-none (argument q) v (argument-plain q a)) ∙ u)));
  small = small.nodes;
  lawful = a;
  lanes = some-lanes q l;
  narrow = few-lanes q l;
}

module _ (p : Part) (kept : KeepsRules p) where
  arguments-kept : All (λ q. has_lawful_argument q ≡ true) p.queries
  arguments-kept =
      let rule : bad_argument p.queries ≡ None = kept 2 (1, bad_count) (omega arith) in
      all-pass (λ q. has_lawful_argument q) [] 0 p.queries rule

  lanes-kept : All (λ q. has_lawful_lanes q ≡ true) p.queries
  lanes-kept =
      let rule : bad_lanes p.queries ≡ None = kept 3 (1, bad_count) (omega arith) in
      all-pass (λ q. has_lawful_lanes q) [] 0 p.queries rule

pub parts_count : PartsCount
parts_count x v e = λ k d h.
    let p : Part = slice_index_or (declaration_of x).parts k d in
    let kept : KeepsRules p = accepted-keeps (declaration_of x) e k d h in
    λ j f i. countable (slice_index_or p.queries j f) (arguments-kept p kept j f i) (lanes-kept p kept j f i) (arguments-valid x v k d h j f i)

-- ---- heads

small-bound : (n : ℕ) → fits_number n ≡ true → n < 2 ^ 32
small-bound n h = omega (arith, ltb-true n 2147483648 h)

small-query : (ns : List (List ℕ)) (q : grammar.Query) → fits_query q ≡ true → HasSmallArgument (plain_query (text.query_of ns q))
small-query ns (grammar.Single grammar.Sum v e) h = small-tree ns e (right_of (fits_name v) (fits_whole e) h)
small-query ns (grammar.Single grammar.Enumerate v e) h = small-tree ns e (right_of (fits_name v) (fits_whole e) h)
small-query ns (grammar.Single grammar.Reorder v e) h = small-tree ns e (right_of (fits_name v) (fits_whole e) h)
small-query ns (grammar.Lanes v w e k) h = small-tree ns e (left_of (fits_whole e) _ (right_of (fits_name w) _ (right_of (fits_name v) _ h)))

small-run : (ns : List (List ℕ)) (qs : grammar.Run grammar.Query) → all_run fits_query qs ≡ true → All (λ q. HasSmallArgument (plain_query (text.query_of ns q))) (run_items qs)
small-run ns grammar.Empty h = All-nil (λ q. HasSmallArgument (plain_query (text.query_of ns q)))
small-run ns (grammar.Then qs q) h =
    All-append (λ q. HasSmallArgument (plain_query (text.query_of ns q))) (run_items qs) (q ∷ []) (small-run ns qs (left_of (all_run fits_query qs) (fits_query q) h))
    (All-cons (λ q. HasSmallArgument (plain_query (text.query_of ns q))) q [] (small-query ns q (right_of (all_run fits_query qs) (fits_query q) h)) (All-nil (λ q. HasSmallArgument (plain_query (text.query_of ns q)))))

small-queries : (ns : List (List ℕ)) (qs : grammar.Run grammar.Query) → fits_queries qs ≡ true → All HasSmallArgument (map plain_query (map (text.query_of ns) (run_items qs)))
small-queries ns qs h =
    All-map HasSmallArgument plain_query (map (text.query_of ns) (run_items qs))
    (All-map (λ q. HasSmallArgument (plain_query q)) (text.query_of ns) (run_items qs) (small-run ns qs (left_of (all_run fits_query qs) _ h)))

head-small : (x : Declared) → IsValid x → All HasSmallArgument (declaration_of x).head
head-small x v = subst (λ (y : Declared). All HasSmallArgument (declaration_of y).head) v.is (by-body v.text.name v.text.body (right_of (fits_name v.text.name) _ v.within))
  where
    by-body : (n : List ℕ) (b : grammar.Body) → fits_body b ≡ true → All HasSmallArgument (declaration_of (declared (record { name = n; body = b }))).head
    by-body n (grammar.Whole p) e = All-nil HasSmallArgument
    by-body n (grammar.Split h p q) e = small-queries (names_head h) h.queries (left_of (fits_queries h.queries) _ (left_of (fits_head h) _ e))

head-by : (names : ℕ) (qs : List Query) (c : Cond) (cs : List Cond) (ps : List Part) → (let d : Declaration = record { head_names = names; head = qs; conds = c ∷ cs; parts = ps } in refusal_by head_rules 0 d ≡ head_refusal d)
head-by names qs c cs ps = refl

-- the bounds of conditions are numbers of a text
small-bounds : (bs : grammar.Run grammar.Block) → all_run fits_block bs ≡ true → All (λ (b : grammar.Block). b.bound < 2 ^ 32) (run_items bs)
small-bounds grammar.Empty h = All-nil (λ (b : grammar.Block). b.bound < 2 ^ 32)
small-bounds (grammar.Then bs b) h =
    All-append (λ (b : grammar.Block). b.bound < 2 ^ 32) (run_items bs) (b ∷ []) (small-bounds bs (left_of (all_run fits_block bs) (fits_block b) h))
    (All-cons (λ (b : grammar.Block). b.bound < 2 ^ 32) b []
    (small-bound b.bound (left_of (fits_number b.bound) _ (right_of (fits_name b.name) _ (right_of (all_run fits_block bs) (fits_block b) h)))) (All-nil (λ (b : grammar.Block). b.bound < 2 ^ 32)))

pub bounds-small : (x : Declared) → IsValid x → All (λ (c : Cond). c.bound < 2 ^ 32) (declaration_of x).conds
bounds-small x v = subst (λ (y : Declared). All (λ (c : Cond). c.bound < 2 ^ 32) (declaration_of y).conds) v.is (by-body v.text.name v.text.body (right_of (fits_name v.text.name) _ v.within))
  where
    by-body : (n : List ℕ) (b : grammar.Body) → fits_body b ≡ true → All (λ (c : Cond). c.bound < 2 ^ 32) (declaration_of (declared (record { name = n; body = b }))).conds
    by-body n (grammar.Whole p) e = All-nil (λ (c : Cond). c.bound < 2 ^ 32)
    by-body n (grammar.Split h p q) e =
        let head : fits_head h ≡ true = left_of (fits_head h) _ e in
        let blocks : fits_blocks h.queries h.blocks ≡ true = left_of (fits_blocks h.queries h.blocks) _ (right_of (fits_queries h.queries) _ head) in
        let last : fits_number h.bound ≡ true = right_of (fits_names (names_head h)) _ (right_of (fits_name h.name) _ (right_of (fits_blocks h.queries h.blocks) _ (right_of (fits_queries h.queries) _ head))) in
        All-map (λ (c : Cond). c.bound < 2 ^ 32) (text.cond_of (names_head h)) (run_items (grammar.blocks_of h p))
        (All-append (λ (b : grammar.Block). b.bound < 2 ^ 32) (run_items h.blocks) (_ ∷ []) (small-bounds h.blocks (left_of (all_run fits_block h.blocks) _ blocks))
        (All-cons (λ (b : grammar.Block). b.bound < 2 ^ 32) _ [] (small-bound h.bound last) (All-nil (λ (b : grammar.Block). b.bound < 2 ^ 32))))

-- a head of conditions keeps its rules
head-kept : (d : Declaration) → d.conds ≢ [] → first_refusal d ≡ None → All (λ r. r.1 d ≡ None) head_rules
head-kept d some e = case d.conds refl
  where
    case : (cs : List Cond) → d.conds ≡ cs → All (λ r. r.1 d ≡ None) head_rules
    case [] q = absurd (some q)
    case (c ∷ cs) q =
        let e1 : refusal_by head_rules 0 d ≡ head_refusal d = subst (λ (xs : List Cond). let y : Declaration = record { head_names = d.head_names; head = d.head; conds = xs; parts = d.parts } in refusal_by head_rules 0 y ≡ head_refusal y) (sym q) (head-by d.head_names d.head c cs d.parts) in
        all-kept head_rules 0 d (e1 ∙ none_first (head_refusal d) (parts_refusal 1 d.parts) e)

is-count : (q : Query) → is_count q ≡ true → IsCount q
is-count (SumOf v e) h = tt
is-count (Enumerate v e) h = tt
is-count (Reorder v e) h = absurd (false≢true h)
is-count (Schedule l u e n) h = absurd (false≢true h)

some_selects : (x : Declared) → IsValid x → first_refusal (declaration_of x) ≡ None → (declaration_of x).conds ≢ [] → HeadSelects x
some_selects x v e some =
    let d : Declaration = declaration_of x in
    let kept : All (λ r. r.1 d ≡ None) head_rules = head-kept d some e in
    let first : Declaration → Option ℕ = bad_head_name in
    record {
      countable = λ k f h. countable (slice_index_or d.head k f) (all-pass (λ q. has_lawful_argument q) [] 0 d.head (kept 1 (2, first) (omega arith)) k f h) (all-pass (λ q. has_lawful_lanes q) [] 0 d.head (kept 2 (2, first) (omega arith)) k f h) (head-small x v k f h);
      counts = λ k f h. is-count (slice_index_or d.head k f) (all-pass (λ q. is_count q) [] 0 d.head (kept 3 (2, first) (omega arith)) k f h);
      named = all-pass (λ (c : Cond). among c.var (defined d.head)) [] (length d.head) d.conds (none_second (first_failing is_defined_once [] 0 d.head) (bad_condition d.head d.conds) (kept 0 (2, first) (omega arith)));
      few = (short-valid x v).conds;
    }

-- without conditions there is no head
no_head : (n : List ℕ) (b : DeclaredBody) → IsShaped b → (declaration_of (record { name = n; body = b })).conds ≡ [] → (declaration_of (record { name = n; body = b })).head ≡ []
no_head n (Undivided p) s q = refl
no_head n (Divided h ps) s q = absurd (omega (arith, s.0, ap (λ (cs : List Cond). length cs) q))

pub heads_select : HeadsSelect
heads_select x v e = case (declaration_of x).conds refl
  where
    case : (cs : List Cond) → (declaration_of x).conds ≡ cs → HeadSelects x
    case [] q =
        let none : (declaration_of x).head ≡ [] = no_head x.name x.body (shaped-valid x v) q in
        record {
          countable = subst (λ (qs : List Query). All IsCountable qs) (sym none) (All-nil IsCountable);
          counts = subst (λ (qs : List Query). All IsCount qs) (sym none) (All-nil IsCount);
          named = subst (λ (cs : List Cond). All (λ (c : Cond). IsTrue (among c.var (defined (declaration_of x).head))) cs) (sym q) (All-nil (λ (c : Cond). IsTrue (among c.var (defined (declaration_of x).head))));
          few = (short-valid x v).conds;
        }
    case (c ∷ cs) q = some_selects x v e (λ r. let z : ◌≡◌ {A = List Cond} [] (c ∷ cs) = sym r ∙ q in absurd cc)
