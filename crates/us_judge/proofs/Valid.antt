-- What the limits of a text mean for the declaration that it declares.
use Rattle.std.proofs.Common.{◌≡◌, ℕ, ◌+◌, ◌<◌, ◌≤◌, List, [], ◌∷◌, ◌++◌, length, map, Bool, true, false, ltb, ◌&&◌, refl, sym, ap, subst, ◌∙◌, arith}
use Rattle.std.specs.Prelude.{Option, Some, None}
use Rattle.std.proofs.lemmas.Bool.Decides.{nat_tests}
use Rattle.std.specs.List.{All}
use Rattle.std.proofs.lemmas.List.{length-map, length-append, map-append}
use Rattle.std.proofs.lemmas.List.Elements.{All-nil, All-cons, All-append}
use Rattle.us_format.specs.Declaration.{Part}
use Rattle.us_expr.specs.declared.queries.Query.{Query as QueryCode}
use Rattle.us_expr.specs.declared.queries.Query.TheVariants as asked
use Rattle.us_format.specs.Declaration.{query_of}
use Rattle.us_decl.specs.declared.column.Column.{Column}
use Rattle.us_decl.specs.declared.decl.Part as held
use Rattle.us_decl.specs.declared.decl.Body.{Body}
use Rattle.us_decl.specs.declared.decl.Body.TheVariants as bodies
use Rattle.us_decl.specs.declared.decl.Decl.{Decl}
use Rattle.us_decl.specs.Grammar.{Comma, Only, And, Run, Empty, Then, Whole, Split, blocks_of}
use Rattle.us_decl.specs.Grammar as grammar
use Rattle.us_decl.specs.Limits.{count, count_run, all_run, fits_list, fits_numbers, fits_queries, fits_levels, fits_packs, fits_part, fits_block, fits_blocks, fits_head, fits_body, fits_name, fits_names, fits_number}
use Rattle.us_decl.specs.Names.{names_head, names_part}
use Rattle.us_decl.specs.Declares.{comma_items, run_items, maybe_items, IsValid, Declared, declared, DeclaredPart, DeclaredBody, Undivided, Divided, whole_part, parts_of, body_of}
use Rattle.us_decl.specs.Declares as text
use Rattle.us_decl.specs.Views.{query_view, part_view, body_view, decl_view}
use Rattle.us_judge.specs.Views.{plain_query, part_of, declaration_of, plain_part, plain_body}
use Rattle.us_judge.specs.Short.{IsShort, AreShort, IsShortDeclaration}

-- ---- tests

left_of : (a b : Bool) → (a && b) ≡ true → a ≡ true
left_of true b e = refl
left_of false b e = absurd cc

right_of : (a b : Bool) → (a && b) ≡ true → b ≡ true
right_of true b e = e
right_of false b e = absurd cc

both : (a b : Bool) → a ≡ true → b ≡ true → (a && b) ≡ true
both a b p q = ap (λ (x : Bool). x && b) p ∙ q

small : (n : ℕ) → fits_list n ≡ true → n ≤ 16
small n e = grind (arith, nat_tests)

-- ---- counts

length-comma : {A : Type 0} (xs : Comma A) → length (comma_items xs) ≡ count xs
length-comma (Only x) = refl
length-comma (And xs x) = length-append (comma_items xs) (x ∷ []) ∙ ap (λ n. n + 1) (length-comma xs)

length-run : {A : Type 0} (xs : Run A) → length (run_items xs) ≡ count_run xs
length-run Empty = refl
length-run (Then xs x) = length-append (run_items xs) (x ∷ []) ∙ ap (λ n. n + 1) (length-run xs)

few : {A : Type 0} (xs : List A) (n : ℕ) → length xs ≡ n → fits_list n ≡ true → length xs ≤ 16
few xs n e f = subst (λ m. m ≤ 16) (sym e) (small n f)

few_mapped : {A B : Type 0} (f : A → B) (xs : List A) → length xs ≤ 16 → length (map f xs) ≤ 16
few_mapped f xs h = subst (λ m. m ≤ 16) (sym (length-map xs f)) h

few_queries : (qs : Run grammar.Query) → fits_queries qs ≡ true → length (run_items qs) ≤ 16
few_queries qs e = few (run_items qs) (count_run qs) (length-run qs) (left_of _ _ (right_of _ _ e))

few_levels : (qs : Run grammar.Query) (ls : Option (Comma grammar.Expr)) → fits_levels qs ls ≡ true → length (maybe_items ls) ≤ 16
few_levels qs None e = omega arith
few_levels qs (Some es) e = few (comma_items es) (count es) (length-comma es) (left_of _ _ (right_of _ _ e))

few_numbers : (ks : Option (Comma ℕ)) → fits_numbers ks ≡ true → length (maybe_items ks) ≤ 16
few_numbers None e = omega arith
few_numbers (Some ks) e = few (comma_items ks) (count ks) (length-comma ks) (right_of _ _ e)

few_packs : (ps : Run (Comma Column)) → fits_packs ps ≡ true → length (run_items ps) ≤ 16
few_packs ps e = few (run_items ps) (count_run ps) (length-run ps) (right_of _ _ e)

-- ---- parts and declarations

short_part : (ns : List (List ℕ)) (p : grammar.Part) → fits_part p ≡ true → IsShort (part_of (text.part_of ns p))
short_part ns p e =
    let e1 = right_of (fits_queries p.queries) _ e in
    let e2 = right_of (fits_levels p.queries p.levels) _ e1 in
    let e3 = right_of (fits_numbers p.trim) _ e2 in
    record {
      queries = few_mapped plain_query _ (few_mapped (text.query_of ns) _ (few_queries p.queries (left_of _ _ e)));
      levels = few_mapped (text.tree_expr ns) _ (few_levels p.queries p.levels (left_of _ _ e1));
      trim = few_numbers p.trim (left_of _ _ e2);
      merge = few_numbers p.merge (left_of _ _ e3);
      packs = few_mapped _ _ (few_mapped comma_items _ (few_packs p.packs (right_of _ _ e3)));
    }

-- one to three conditions, and one part more
abbrev pub IsShaped : DeclaredBody → Type 0
IsShaped (Undivided p) = Unit {0}
IsShaped (Divided h ps) = (1 ≤ length h.conds) × (length h.conds ≤ 3) × (length ps ≡ length h.conds + 1)

below_three : (n : ℕ) → ltb n 3 ≡ true → n < 3
below_three n e = grind (arith, nat_tests)

shaped_body : (b : grammar.Body) → fits_body b ≡ true → IsShaped (body_of b)
shaped_body (Whole p) e = tt
shaped_body (Split h p q) e =
    let head : fits_head h ≡ true = left_of (fits_head h) (fits_part p && fits_part q) e in
    let blocks : fits_blocks h.queries h.blocks ≡ true = left_of (fits_blocks h.queries h.blocks) _ (right_of (fits_queries h.queries) _ head) in
    let few : count_run h.blocks < 3 = below_three (count_run h.blocks) (left_of (ltb (count_run h.blocks) 3) _ (right_of (all_run fits_block h.blocks) _ blocks)) in
    let items : length (run_items (blocks_of h p)) ≡ count_run h.blocks + 1 = length-run (blocks_of h p) in
    let conds : (names : List (List ℕ)) → length (map (text.cond_of names) (run_items (blocks_of h p))) ≡ count_run h.blocks + 1 = λ names. length-map (run_items (blocks_of h p)) (text.cond_of names) ∙ items in
    let parts : length (parts_of (blocks_of h p) q) ≡ count_run h.blocks + 1 + 1 =
    length-append (map (λ (b : grammar.Block). whole_part b.part) (run_items (blocks_of h p))) (whole_part q ∷ []) ∙ ap (λ n. n + 1) (length-map (run_items (blocks_of h p)) (λ (b : grammar.Block). whole_part b.part) ∙ items) in
    (omega (arith, conds (names_head h)), omega (arith, few, conds (names_head h)), omega (arith, parts, conds (names_head h)))

pub shaped-valid : (d : Declared) → IsValid d → IsShaped d.body
shaped-valid d v = subst (λ (x : Declared). IsShaped x.body) v.is (shaped_body v.text.body (right_of (fits_name v.text.name) _ v.within))

AreShort-append : (ps qs : List Part) → AreShort ps → AreShort qs → AreShort (ps ++ qs)
AreShort-append [] qs h k = k
AreShort-append (p ∷ ps) qs h k = (h.0, AreShort-append ps qs h.1 k)

short_blocks : (bs : Run grammar.Block) → all_run fits_block bs ≡ true → AreShort (map part_of (map (λ (b : grammar.Block). whole_part b.part) (run_items bs)))
short_blocks Empty e = tt
short_blocks (Then bs b) e =
    let here : fits_block b ≡ true = right_of (all_run fits_block bs) _ e in
    let part : fits_part b.part ≡ true = right_of (fits_number b.bound) _ (right_of (fits_name b.name) _ here) in
    subst AreShort (sym (ap (map part_of) (map-append (λ (b : grammar.Block). whole_part b.part) (run_items bs) (b ∷ [])) ∙ map-append part_of (map (λ (b : grammar.Block). whole_part b.part) (run_items bs)) (whole_part b.part ∷ [])))
    (AreShort-append (map part_of (map (λ (b : grammar.Block). whole_part b.part) (run_items bs))) (part_of (whole_part b.part) ∷ []) (short_blocks bs (left_of (all_run fits_block bs) _ e)) (short_part _ b.part part, tt))

-- all blocks of a divided body are within their limits
pub blocks-fit : (h : grammar.Head) (p : grammar.Part) → fits_head h ≡ true → fits_part p ≡ true → all_run fits_block (blocks_of h p) ≡ true
blocks-fit h p f g =
    let x = right_of (fits_queries h.queries) _ f in
    let y = right_of (fits_blocks h.queries h.blocks) _ x in
    let z = right_of (fits_name h.name) _ y in
    both (all_run fits_block h.blocks) _ (left_of (all_run fits_block h.blocks) _ (left_of (fits_blocks h.queries h.blocks) _ x)) (both (fits_name h.name) _ (left_of (fits_name h.name) _ y) (both (fits_number h.bound) _ (right_of (fits_names (names_head h)) _ z) g))

-- what holds of each part of a text holds of each part of the declaration
each_block : (P : Part → Type 0) → ((p : grammar.Part) → fits_part p ≡ true → P (part_of (whole_part p))) → (bs : Run grammar.Block) → all_run fits_block bs ≡ true
    → All P (map part_of (map (λ (b : grammar.Block). whole_part b.part) (run_items bs)))
each_block P each Empty e = All-nil P
each_block P each (Then bs b) e =
    let here : fits_block b ≡ true = right_of (all_run fits_block bs) _ e in
    let part : fits_part b.part ≡ true = right_of (fits_number b.bound) _ (right_of (fits_name b.name) _ here) in
    let before : List DeclaredPart = map (λ (b : grammar.Block). whole_part b.part) (run_items bs) in
    subst (λ (ps : List Part). All P ps) (sym (ap (map part_of) (map-append (λ (b : grammar.Block). whole_part b.part) (run_items bs) (b ∷ [])) ∙ map-append part_of before (whole_part b.part ∷ [])))
    (All-append P (map part_of before) (part_of (whole_part b.part) ∷ []) (each_block P each bs (left_of (all_run fits_block bs) _ e)) (All-cons P (part_of (whole_part b.part)) [] (each b.part part) (All-nil P)))

each_body : (P : Part → Type 0) → ((p : grammar.Part) → fits_part p ≡ true → P (part_of (whole_part p))) → (n : List ℕ) (b : grammar.Body) → fits_body b ≡ true → All P (declaration_of (declared (record { name = n; body = b }))).parts
each_body P each n (Whole p) e = All-cons P (part_of (whole_part p)) [] (each p e) (All-nil P)
each_body P each n (Split h p q) e =
    let parts : (fits_part p && fits_part q) ≡ true = right_of (fits_head h) _ e in
    let before : List DeclaredPart = map (λ (b : grammar.Block). whole_part b.part) (run_items (blocks_of h p)) in
    subst (λ (ps : List Part). All P ps) (sym (map-append part_of before (whole_part q ∷ [])))
    (All-append P (map part_of before) (part_of (whole_part q) ∷ []) (each_block P each (blocks_of h p) (blocks-fit h p (left_of (fits_head h) _ e) (left_of (fits_part p) _ parts)))
    (All-cons P (part_of (whole_part q)) [] (each q (right_of (fits_part p) (fits_part q) parts)) (All-nil P)))

pub each-part : (P : Part → Type 0) → ((p : grammar.Part) → fits_part p ≡ true → P (part_of (whole_part p))) → (d : Declared) → IsValid d → All P (declaration_of d).parts
each-part P each d v = subst (λ (x : Declared). All P (declaration_of x).parts) v.is (each_body P each v.text.name v.text.body (right_of (fits_name v.text.name) _ v.within))

-- no part of a valid declaration has more than 16 queries
pub queries-valid : (d : Declared) → IsValid d → All (λ p. length p.queries ≤ 16) (declaration_of d).parts
queries-valid d v = each-part (λ p. length p.queries ≤ 16) (λ p h. (short_part (names_part p) p h).queries) d v

short_parts : (h : grammar.Head) (p q : grammar.Part) → fits_head h ≡ true → fits_part p ≡ true → fits_part q ≡ true → AreShort (map part_of (parts_of (blocks_of h p) q))
short_parts h p q f g k =
    subst AreShort (sym (map-append part_of (map (λ (b : grammar.Block). whole_part b.part) (run_items (blocks_of h p))) (whole_part q ∷ [])))
    (AreShort-append (map part_of (map (λ (b : grammar.Block). whole_part b.part) (run_items (blocks_of h p)))) (part_of (whole_part q) ∷ []) (short_blocks (blocks_of h p) (blocks-fit h p f g)) (short_part _ q k, tt))

short_body : (n : List ℕ) (b : grammar.Body) → fits_body b ≡ true → IsShortDeclaration (declaration_of (declared (record { name = n; body = b })))
short_body n (Whole p) e = record { head = omega arith; conds = omega arith; few = omega arith; parts = (short_part _ p e, tt) }
short_body n (Split h p q) e =
    let e1 = right_of (fits_head h) _ e in
    let shape = shaped_body (Split h p q) e in
    record {
      head = few_mapped plain_query _ (few_mapped (text.query_of _) _ (few_queries h.queries (left_of _ _ (left_of (fits_head h) _ e))));
      conds = shape.1;
      few = omega (arith, shape.1, shape.2, length-map (parts_of (blocks_of h p) q) part_of);
      parts = short_parts h p q (left_of (fits_head h) _ e) (left_of _ _ e1) (right_of _ _ e1);
    }

-- the lists of a valid declaration are short
pub short-valid : (d : Declared) → IsValid d → IsShortDeclaration (declaration_of d)
short-valid d v = subst (λ x. IsShortDeclaration (declaration_of x)) v.is (short_body v.text.name v.text.body (right_of (fits_name v.text.name) _ v.within))

-- ---- declarations of the program

queries-is : (qs : List QueryCode) → map plain_query (map query_view qs) ≡ map query_of qs
queries-is [] = refl
queries-is (asked.Sum v e ∷ qs) = ap (λ l. query_of (asked.Sum v e) ∷ l) (queries-is qs)
queries-is (asked.Enumerate v e ∷ qs) = ap (λ l. query_of (asked.Enumerate v e) ∷ l) (queries-is qs)
queries-is (asked.Reorder v e ∷ qs) = ap (λ l. query_of (asked.Reorder v e) ∷ l) (queries-is qs)
queries-is (asked.Schedule v w e k ∷ qs) = ap (λ l. query_of (asked.Schedule v w e k) ∷ l) (queries-is qs)

part-is : (p : held.Part) → part_of (part_view p) ≡ plain_part p
part-is p = ap (λ qs. record (plain_part p) { queries = qs }) (queries-is p.queries)

parts-are : (ps : List held.Part) → map part_of (map part_view ps) ≡ map plain_part ps
parts-are [] = refl
parts-are (p ∷ ps) = ap (λ x. x ∷ map part_of (map part_view ps)) (part-is p) ∙ ap (λ xs. plain_part p ∷ xs) (parts-are ps)

body-is : (n : List ℕ) (b : Body) → declaration_of (record { name = n; body = body_view b }) ≡ plain_body b
body-is n (bodies.One p) = ap (λ x. record { head_names = 0; head = []; conds = []; parts = x ∷ [] }) (part-is p)
body-is n (bodies.Split h ps) =
    ap (λ qs. record (plain_body (bodies.Split h ps)) { head = qs; parts = map part_of (map part_view ps) }) (queries-is h.queries)
    ∙ ap (λ xs. record (plain_body (bodies.Split h ps)) { parts = xs }) (parts-are ps)

pub plain-is : (d : Decl) → declaration_of (decl_view d) ≡ plain_body d.body
plain-is d = body-is d.name d.body
