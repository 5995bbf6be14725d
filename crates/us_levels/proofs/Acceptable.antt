-- Each part of an accepted declaration can be stored, and the queries of its head can be counted.
use Rattle.std.proofs.Common.{◌≡◌, ℕ, ◌≤◌, List, [], ◌∷◌, map, length, Bool, true, false, ◌&&◌, None, refl, sym, subst, ◌∙◌, inl, inr, arith, All, ◌⊎◌}
use Rattle.std.specs.Prelude.{nat_le}
use Rattle.std.proofs.lemmas.Bool.{false≢true}
use Rattle.std.proofs.lemmas.Bool.Decides.{nat_tests}
use Rattle.std.proofs.lemmas.List.Elements.{All-append, All-cons, All-map, All-nil}
use Rattle.us_expr.specs.declared.queries.Cond.{Cond}
use Rattle.us_format.specs.Declaration.{Declaration, Enumerate, Part, Query, Reorder, Schedule, SumOf, argument}
use Rattle.us_format.specs.Matrix.{Shape}
use Rattle.us_format.specs.Rules.{has_lawful_argument}
use Rattle.us_format.proofs.Lawful.{argument-plain, uses-none}
use Rattle.us_decl.specs.Grammar as grammar
use Rattle.us_decl.specs.Declares.{Declared, DeclaredBody, Divided, IsValid, Undivided, declared, run_items, whole_part}
use Rattle.us_decl.specs.Declares as text
use Rattle.us_decl.specs.Limits.{all_run, fits_body, fits_head, fits_levels, fits_name, fits_names, fits_part, fits_queries, fits_query, fits_whole}
use Rattle.us_decl.specs.Names.{names_head, names_part}
use Rattle.us_judge.specs.Acceptance.{bad_count, bad_head_name, first_refusal, has_lawful_lanes, head_refusal, head_rules, is_count, parts_refusal, refusal_by, unless}
use Rattle.us_judge.specs.Views.{declaration_of, part_of, plain_query}
use Rattle.us_judge.proofs.Accepted.{KeepsRules, accepted-keeps, all-kept, all-pass, none_first}
use Rattle.us_judge.proofs.LawfulDeclarations.{accepted-lawful, accepted-packs}
use Rattle.us_judge.proofs.Valid.{IsShaped, each-part, shaped-valid}
use Rattle.us_judge.proofs.ValidExpressions.{IsSmall, small-tree, small-valid}
use Rattle.us_variables.specs.Counted.{IsCountable}
use Rattle.us_parts.specs.Storable.{HasFewLanes, IsStorable}

left_of : (a b : Bool) → (a && b) ≡ true → a ≡ true
left_of true b e = refl
left_of false b e = absurd cc

right_of : (a b : Bool) → (a && b) ≡ true → b ≡ true
right_of true b e = e
right_of false b e = absurd cc

holds : (b : Bool) → unless b ≡ None → b ≡ true
holds true e = refl
holds false e = absurd cc

below : (a b : ℕ) → nat_le a b ≡ true → a ≤ b
below a b e = grind (arith, nat_tests)

-- ---- what a text within its limits says

few : (ns : List (List ℕ)) → fits_names ns ≡ true → length ns ≤ 32
few ns e = grind (arith, nat_tests)

pub few-names : (p : grammar.Part) → fits_part p ≡ true → (part_of (whole_part p)).names ≤ 32
few-names p h =
    few (names_part p) (right_of _ _ (right_of _ _ (left_of (fits_levels p.queries p.levels) _ (right_of (fits_queries p.queries) _ h))))

abbrev HasSmallArgument : Query → Type 0
HasSmallArgument q = IsSmall (argument q)

small-query : (ns : List (List ℕ)) (q : grammar.Query) → fits_query q ≡ true → HasSmallArgument (plain_query (text.query_of ns q))
small-query ns (grammar.Single grammar.Sum v e) h = small-tree ns e (right_of (fits_name v) (fits_whole e) h)
small-query ns (grammar.Single grammar.Enumerate v e) h = small-tree ns e (right_of (fits_name v) (fits_whole e) h)
small-query ns (grammar.Single grammar.Reorder v e) h = small-tree ns e (right_of (fits_name v) (fits_whole e) h)
small-query ns (grammar.Lanes v w e k) h = small-tree ns e (left_of (fits_whole e) _ (right_of (fits_name w) _ (right_of (fits_name v) _ h)))

small-run : (ns : List (List ℕ)) (qs : grammar.Run grammar.Query) → all_run fits_query qs ≡ true → All (λ q. HasSmallArgument (plain_query (text.query_of ns q))) (run_items qs)
small-run ns grammar.Empty h = All-nil (λ q. HasSmallArgument (plain_query (text.query_of ns q)))
small-run ns (grammar.Then qs q) h =
    All-append (λ q. HasSmallArgument (plain_query (text.query_of ns q))) (run_items qs) (q ∷ []) (small-run ns qs (left_of (all_run fits_query qs) (fits_query q) h))
    (All-cons (λ q. HasSmallArgument (plain_query (text.query_of ns q))) q [] (small-query ns q (right_of (all_run fits_query qs) (fits_query q) h))
    (All-nil (λ q. HasSmallArgument (plain_query (text.query_of ns q)))))

small-queries : (ns : List (List ℕ)) (qs : grammar.Run grammar.Query) → fits_queries qs ≡ true → All HasSmallArgument (map plain_query (map (text.query_of ns) (run_items qs)))
small-queries ns qs h =
    All-map HasSmallArgument plain_query (map (text.query_of ns) (run_items qs))
    (All-map (λ q. HasSmallArgument (plain_query q)) (text.query_of ns) (run_items qs) (small-run ns qs (left_of (all_run fits_query qs) _ h)))

small-part : (p : grammar.Part) → fits_part p ≡ true → All HasSmallArgument (part_of (whole_part p)).queries
small-part p h = small-queries (names_part p) p.queries (left_of (fits_queries p.queries) _ h)

-- ---- parts

few-lanes : (q : Query) → has_lawful_lanes q ≡ true → HasFewLanes q
few-lanes (SumOf v e) h = tt
few-lanes (Enumerate v e) h = tt
few-lanes (Reorder v e) h = tt
few-lanes (Schedule l u t n) h = below n 64 (right_of (nat_le 1 n) (nat_le n 64) h)

few-levels : (p : Part) → KeepsRules p → length p.levels ≤ 6
few-levels p kept = below (length p.levels) 6 (right_of (nat_le 1 (length p.levels)) (nat_le (length p.levels) 6) (holds _ (kept 0 (1, bad_count) (omega arith))))

pub storable-each : (x : Declared) → IsValid x → first_refusal (declaration_of x) ≡ None → All IsStorable (declaration_of x).parts
storable-each x v e k d h =
    let kept : All KeepsRules (declaration_of x).parts = accepted-keeps (declaration_of x) e in
    record {
      names = each-part (λ (p : Part). p.names ≤ 32) few-names x v k d h;
      few_levels = few-levels _ (kept k d h);
      small = λ j t l. (small-valid x v k d h j t l).nodes;
      arguments = λ j q l. (each-part (λ (p : Part). All HasSmallArgument p.queries) small-part x v k d h j q l).nodes;
      lanes = λ j q l. few-lanes _ (all-pass (λ q. has_lawful_lanes q) [] 0 _ (kept k d h 3 (1, bad_count) (omega arith)) j q l);
      lawful = accepted-lawful x v e k d h;
      packs = accepted-packs x e k d h;
    }

-- ---- the head

head-small : (x : Declared) → IsValid x → All HasSmallArgument (declaration_of x).head
head-small x v = subst (λ (y : Declared). All HasSmallArgument (declaration_of y).head) v.is (by-body v.text.name v.text.body (right_of (fits_name v.text.name) _ v.within))
  where
    by-body : (n : List ℕ) (b : grammar.Body) → fits_body b ≡ true → All HasSmallArgument (declaration_of (declared (record { name = n; body = b }))).head
    by-body n (grammar.Whole p) e = All-nil HasSmallArgument
    by-body n (grammar.Split h p q) e = small-queries (names_head h) h.queries (left_of (fits_queries h.queries) _ (left_of (fits_head h) _ e))

first-of : (cs : List Cond) → 1 ≤ length cs → (c : Cond) × (more : List Cond) × (cs ≡ c ∷ more)
first-of [] h = absurd (omega arith)
first-of (c ∷ cs) h = (c, cs, refl)

head-by : (names : ℕ) (qs : List Query) (cs : List Cond) (ps : List Part) (c : Cond) (more : List Cond) → cs ≡ c ∷ more → (let d : Declaration = record { head_names = names; head = qs; conds = cs; parts = ps } in refusal_by head_rules 0 d ≡ head_refusal d)
head-by names qs [] ps c more e = absurd cc
head-by names qs (x ∷ xs) ps c more e = refl

-- there is no head, or it keeps its rules
head-body : (n : List ℕ) (b : DeclaredBody) → IsShaped b → first_refusal (declaration_of (record { name = n; body = b })) ≡ None
    → ((declaration_of (record { name = n; body = b })).head ≡ []) ⊎ All (λ r. r.1 (declaration_of (record { name = n; body = b })) ≡ None) head_rules
head-body n (Undivided p) s e = inl refl
head-body n (Divided h ps) s e =
    let d : Declaration = declaration_of (record { name = n; body = Divided h ps }) in
    let c = first-of h.conds s.0 in
    inr (all-kept head_rules 0 d (head-by d.head_names d.head d.conds d.parts c.0 c.1 c.2 ∙ none_first (head_refusal d) (parts_refusal 1 d.parts) e))

count-one : (s : Shape) (q : Query) → is_count q ≡ true → has_lawful_argument q ≡ true → HasSmallArgument q → IsCountable s q
count-one s (SumOf v e) c l h = record { small = h.nodes; within = h.within 0 (λ u k. absurd (false≢true (sym (uses-none e u (argument-plain (SumOf v e) l)) ∙ k))) }
count-one s (Enumerate v e) c l h = record { small = h.nodes; within = h.within 0 (λ u k. absurd (false≢true (sym (uses-none e u (argument-plain (Enumerate v e) l)) ∙ k))) }
count-one s (Reorder v e) c l h = absurd (false≢true c)
count-one s (Schedule w u e n) c l h = absurd (false≢true c)

pub head-countable : (s : Shape) (x : Declared) → IsValid x → first_refusal (declaration_of x) ≡ None → All (λ q. IsCountable s q) (declaration_of x).head
head-countable s x v e = go (head-body x.name x.body (shaped-valid x v) e)
  where
    go : ((declaration_of x).head ≡ []) ⊎ All (λ r. r.1 (declaration_of x) ≡ None) head_rules → All (λ q. IsCountable s q) (declaration_of x).head
    go (inl none) = subst (λ (qs : List Query). All (λ q. IsCountable s q) qs) (sym none) (All-nil (λ q. IsCountable s q))
    go (inr kept) = λ k d h.
        count-one s _ (all-pass (λ q. is_count q) [] 0 (declaration_of x).head (kept 3 (2, bad_head_name) (omega arith)) k d h)
        (all-pass (λ q. has_lawful_argument q) [] 0 (declaration_of x).head (kept 1 (2, bad_head_name) (omega arith)) k d h) (head-small x v k d h)
