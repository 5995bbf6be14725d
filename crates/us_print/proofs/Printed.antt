-- What a loop that prints items has still to print.
use Rattle.std.proofs.Common.{◌≡◌, ◌<◌, ◌≤◌, ℕ, zero, suc, ◌+◌, List, [], ◌∷◌, ◌++◌, length, drop, get_or, map, refl, sym, ap, ◌∙◌, append_assoc, add-one, arith, Result, Ok, Err, OnOk, cond}
use Rattle.std.specs.Result.{is_ok}
use Rattle.std.proofs.Math.Seq.{drop-cons}
use Rattle.std.proofs.lemmas.List.{drop-drop}
use Rattle.std.specs.Prelude.{Some, None, slice_get}
use Rattle.std.specs.List.{flat_map}
use Rattle.us_expr.specs.declared.queries.Cond.{Cond}
use Rattle.us_decl.specs.Declares.{DeclaredPart}
use Rattle.us_print.specs.Canon.{indent, opening_line, block_lines, blocks_lines}

pub flat_map-map : {X Y : Type 0} (f : Y → List ℕ) (h : X → Y) (xs : List X) → flat_map (λ x. f (h x)) xs ≡ flat_map f (map h xs)
flat_map-map f h [] = refl
flat_map-map f h (x ∷ xs) = ap (λ ys. f (h x) ++ ys) (flat_map-map f h xs)

-- one item more
pub more_items : {X : Type 0} (f : X → List ℕ) (xs : List X) (i : ℕ) (d : X) (out new total : List ℕ) → i < length xs → out ++ flat_map f (drop i xs) ≡ total → new ≡ out ++ f (get_or xs i d) → new ++ flat_map f (drop (i + 1) xs) ≡ total
more_items f xs i d out new total h kept is =
    let cut : drop i xs ≡ get_or xs i d ∷ drop (i + 1) xs = rw (add-one) (drop-cons xs i d h) in
    ap (λ w. w ++ flat_map f (drop (i + 1) xs)) is ∙ append_assoc out (f (get_or xs i d)) (flat_map f (drop (i + 1) xs)) ∙ ap (λ ys. out ++ flat_map f ys) (sym cut) ∙ kept

drop_all : {X : Type 0} (xs : List X) (i : ℕ) → length xs ≤ i → drop i xs ≡ []
drop_all [] zero h = refl
drop_all [] (suc i) h = refl
drop_all (x ∷ xs) zero h = absurd (omega arith)
drop_all (x ∷ xs) (suc i) h = drop_all xs i (omega arith)

append_nil : (xs : List ℕ) → xs ++ [] ≡ xs
append_nil [] = refl
append_nil (x ∷ xs) = ap (λ ys. x ∷ ys) (append_nil xs)

-- all items
pub all_items : {X : Type 0} (f : X → List ℕ) (xs : List X) (i : ℕ) (out total : List ℕ) → length xs ≤ i → out ++ flat_map f (drop i xs) ≡ total → out ≡ total
all_items f xs i out total h kept = sym (append_nil out) ∙ ap (λ ys. out ++ flat_map f ys) (sym (drop_all xs i h)) ∙ kept

pub indent_more : (n : ℕ) → indent n ++ (32 ∷ 32 ∷ []) ≡ indent (suc n)
indent_more zero = refl
indent_more (suc n) = ap (λ w. 32 ∷ 32 ∷ w) (indent_more n)

pub on_ok : {A E P Q : Type 0} (r : Result A E) → (P → Q) → OnOk r P → OnOk r Q
on_ok (Ok x) f p = f p
on_ok (Err e) f p = tt

-- two pieces and then one more, as one
pub joined : (out mid new a b : List ℕ) → mid ≡ out ++ a → new ≡ mid ++ b → new ≡ out ++ (a ++ b)
joined out mid new a b first second = second ∙ ap (λ x. x ++ b) first ∙ append_assoc out a b

pub three : (out m n new a b c : List ℕ) → m ≡ out ++ a → n ≡ m ++ b → new ≡ n ++ c → new ≡ out ++ (a ++ (b ++ c))
three out m n new a b c first second third = joined out m new a (b ++ c) first (joined m n new b c second third)

pub four : (out m n p new a b c d : List ℕ) → m ≡ out ++ a → n ≡ m ++ b → p ≡ n ++ c → new ≡ p ++ d → new ≡ out ++ (a ++ (b ++ (c ++ d)))
four out m n p new a b c d first second third last = joined out m new a (b ++ (c ++ d)) first (three m n p new b c d second third last)

pub five : (out m n p q new a b c d f : List ℕ) → m ≡ out ++ a → n ≡ m ++ b → p ≡ n ++ c → q ≡ p ++ d → new ≡ q ++ f → new ≡ out ++ (a ++ (b ++ (c ++ (d ++ f))))
five out m n p q new a b c d f first second third fourth last = joined out m new a (b ++ (c ++ (d ++ f))) first (four m n p q new b c d f second third fourth last)

-- what an append leaves, where it is told by a test of its answer
pub on_extend : {A E : Type 0} (r : Result A E) (new long short : List ℕ) → new ≡ cond (is_ok r) long short → OnOk r (new ≡ long)
on_extend (Ok x) new long short e = e
on_extend (Err e) new long short k = tt

-- the line that opens a part, by the place of its condition
pub opening_some : (ns : List (List ℕ)) (cs : List Cond) (k : ℕ) (c : Cond) → slice_get cs k ≡ Some c → opening_line ns (drop k cs) ≡ opening_line ns (c ∷ [])
opening_some ns [] k c e = absurd cc
opening_some ns (x ∷ xs) zero c e = let h : x ≡ c = cc in ap (λ y. opening_line ns (y ∷ [])) h
opening_some ns (x ∷ xs) (suc k) c e = opening_some ns xs k c e

pub opening_none : (ns : List (List ℕ)) (cs : List Cond) (k : ℕ) → slice_get cs k ≡ None → opening_line ns (drop k cs) ≡ opening_line ns []
opening_none ns [] zero e = refl
opening_none ns [] (suc k) e = refl
opening_none ns (x ∷ xs) zero e = absurd cc
opening_none ns (x ∷ xs) (suc k) e = opening_none ns xs k e

-- one part more
pub more_blocks : {X : Type 0} (view : X → DeclaredPart) (ns : List (List ℕ)) (cs : List Cond) (ps : List X) (i : ℕ) (d : X) (out mid new total : List ℕ) → i < length ps → out ++ blocks_lines ns (drop i cs) (map view (drop i ps)) ≡ total
    → mid ≡ out ++ opening_line ns (drop i cs) → new ≡ mid ++ block_lines (view (get_or ps i d)) → new ++ blocks_lines ns (drop (i + 1) cs) (map view (drop (i + 1) ps)) ≡ total
more_blocks view ns cs ps i d out mid new total h kept opened is =
    let cut : drop i ps ≡ get_or ps i d ∷ drop (i + 1) ps = rw (add-one) (drop-cons ps i d h) in
    let both : new ≡ out ++ (opening_line ns (drop i cs) ++ block_lines (view (get_or ps i d))) = joined out mid new (opening_line ns (drop i cs)) (block_lines (view (get_or ps i d))) opened is in
    ap (λ w. w ++ blocks_lines ns (drop (i + 1) cs) (map view (drop (i + 1) ps))) both
    ∙ append_assoc out (opening_line ns (drop i cs) ++ block_lines (view (get_or ps i d))) (blocks_lines ns (drop (i + 1) cs) (map view (drop (i + 1) ps)))
    ∙ ap (λ ys. out ++ ((opening_line ns (drop i cs) ++ block_lines (view (get_or ps i d))) ++ blocks_lines ns ys (map view (drop (i + 1) ps)))) (sym (drop-drop 1 i cs))
    ∙ ap (λ ys. out ++ blocks_lines ns (drop i cs) (map view ys)) (sym cut) ∙ kept

pub all_blocks : {X : Type 0} (view : X → DeclaredPart) (ns : List (List ℕ)) (cs : List Cond) (ps : List X) (i : ℕ) (out total : List ℕ) → length ps ≤ i → out ++ blocks_lines ns (drop i cs) (map view (drop i ps)) ≡ total → out ≡ total
all_blocks view ns cs ps i out total h kept = sym (append_nil out) ∙ ap (λ ys. out ++ blocks_lines ns (drop i cs) (map view ys)) (sym (drop_all ps i h)) ∙ kept
