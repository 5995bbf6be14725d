-- What was printed so far, and one item more.
use Rattle.std.proofs.Common.{◌≡◌, ◌<◌, ◌≤◌, ℕ, zero, suc, ◌+◌, List, [], ◌∷◌, ◌++◌, length, take, take_all, get_or, map, refl, sym, ap, ◌∙◌, append_assoc, Result, Ok, Err, OnOk, cond}
use Rattle.std.proofs.lemmas.List.{take_more}
use Rattle.std.specs.Result.{is_ok}
use Rattle.std.specs.List.{flat_map}
use Rattle.us_code.specs.declared.program.Stmt.{Stmt}
use Rattle.us_code.specs.declared.program.Block.{Block}
use Rattle.us_code.specs.Plain.{Code, End, Let, Load, Var, Put, Set, For, Span, If, When, Order, ◌+++◌, plain_list, alone, tree_of}
use Rattle.us_code.proofs.Trees.{list_nil, list_more, tree_list}
use Rattle.us_code_print.specs.Canon.{indent, block_lines}

pub flat_map-map : {X Y : Type 0} (f : Y → List ℕ) (h : X → Y) (xs : List X) → flat_map (λ x. f (h x)) xs ≡ flat_map f (map h xs)
flat_map-map f h [] = refl
flat_map-map f h (x ∷ xs) = ap (λ ys. f (h x) ++ ys) (flat_map-map f h xs)

pub append_nil : (xs : List ℕ) → xs ++ [] ≡ xs
append_nil [] = refl
append_nil (x ∷ xs) = ap (λ ys. x ∷ ys) (append_nil xs)

pub indent_more : (n : ℕ) → indent n ++ (32 ∷ 32 ∷ []) ≡ indent (suc n)
indent_more zero = refl
indent_more (suc n) = ap (λ w. 32 ∷ 32 ∷ w) (indent_more n)

pub on_ok : {A E P Q : Type 0} (r : Result A E) → (P → Q) → OnOk r P → OnOk r Q
on_ok (Ok x) f p = f p
on_ok (Err e) f p = tt

-- two pieces and then one more, as one
pub joined : (out mid new a b : List ℕ) → mid ≡ out ++ a → new ≡ mid ++ b → new ≡ out ++ (a ++ b)
joined out mid new a b first second = second ∙ ap (λ x. x ++ b) first ∙ append_assoc out a b

pub three : (out m n new a b c : List ℕ) → m ≡ out ++ a → n ≡ m ++ b → new ≡ n ++ c → new ≡ out ++ (a ++ (b ++ c))
three out m n new a b c first second third = joined out m new a (b ++ c) first (joined m n new b c second third)

pub four : (out m n p new a b c d : List ℕ) → m ≡ out ++ a → n ≡ m ++ b → p ≡ n ++ c → new ≡ p ++ d → new ≡ out ++ (a ++ (b ++ (c ++ d)))
four out m n p new a b c d first second third last = joined out m new a (b ++ (c ++ d)) first (three m n p new b c d second third last)

pub five : (out m n p q new a b c d f : List ℕ) → m ≡ out ++ a → n ≡ m ++ b → p ≡ n ++ c → q ≡ p ++ d → new ≡ q ++ f → new ≡ out ++ (a ++ (b ++ (c ++ (d ++ f))))
five out m n p q new a b c d f first second third fourth last = joined out m new a (b ++ (c ++ (d ++ f))) first (four m n p q new b c d f second third fourth last)

-- what an append leaves, where it is told by a test of its answer
pub on_extend : {A E : Type 0} (r : Result A E) (new long short : List ℕ) → new ≡ cond (is_ok r) long short → OnOk r (new ≡ long)
on_extend (Ok x) new long short e = e
on_extend (Err e) new long short k = tt

-- the lines of one statement before others
before : (w a b c : List ℕ) → a ≡ b ++ c → w ++ a ≡ (w ++ b) ++ c
before w a b c e = ap (λ v. w ++ v) e ∙ sym (append_assoc w b c)

pub lines_append : (d : ℕ) (a b : Code) → block_lines d (a +++ b) ≡ block_lines d a ++ block_lines d b
lines_append d End b = refl
lines_append d (Let r e rest) b = before _ _ _ _ (lines_append d rest b)
lines_append d (Load r x at rest) b = before _ _ _ _ (lines_append d rest b)
lines_append d (Var r e rest) b = before _ _ _ _ (lines_append d rest b)
lines_append d (Put r e rest) b = before _ _ _ _ (lines_append d rest b)
lines_append d (Set x at e rest) b = before _ _ _ _ (lines_append d rest b)
lines_append d (For r x body rest) b = before _ _ _ _ (lines_append d rest b)
lines_append d (Span r x y z body rest) b = before _ _ _ _ (lines_append d rest b)
lines_append d (If l eq r body given other rest) b = before _ _ _ _ (lines_append d rest b)
lines_append d (When e x r body given other rest) b = before _ _ _ _ (lines_append d rest b)
lines_append d (Order x keys rest) b = before _ _ _ _ (lines_append d rest b)

pub none_printed : (d : ℕ) (out : List ℕ) → out ≡ out ++ block_lines d (plain_list [])
none_printed d out = sym (append_nil out) ∙ ap (λ c. out ++ block_lines d c) (sym list_nil)

pub stmt_printed : (d : ℕ) (xs : List Stmt) (i : ℕ) (x : Stmt) (start now new : List ℕ) → i < length xs → x ≡ get_or xs i x → now ≡ start ++ block_lines d (plain_list (take i xs)) → new ≡ now ++ block_lines d (alone x)
    → new ≡ start ++ block_lines d (plain_list (take (i + 1) xs))
stmt_printed d xs i x start now new lt at so more =
    let stmts = plain_list (take i xs) in
    joined start now new (block_lines d stmts) (block_lines d (alone x)) so more
    ∙ ap (λ w. start ++ w) (sym (lines_append d stmts (alone x)))
    ∙ ap (λ c. start ++ block_lines d c) (sym (list_more (take i xs) x) ∙ sym (ap plain_list (take_more xs i x lt ∙ ap (λ z. take i xs ++ z ∷ []) (sym at))))

pub all_printed : (d : ℕ) (b : Block) (xs : List Stmt) (n : ℕ) (start now : List ℕ) → length xs ≤ n → xs ≡ b.stmts → now ≡ start ++ block_lines d (plain_list (take n xs)) → now ≡ start ++ block_lines d (tree_of b)
all_printed d b xs n start now le e so = so ∙ ap (λ c. start ++ block_lines d c) (ap plain_list (take_all n xs le ∙ e) ∙ sym (tree_list b))

-- one statement, told by its lines
pub stmt_lines : (d : ℕ) (s : Stmt) (c : Code) (out new w : List ℕ) → alone s ≡ c → block_lines d c ≡ w ++ [] → new ≡ out ++ w → new ≡ out ++ block_lines d (alone s)
stmt_lines d s c out new w is lines e = e ∙ ap (λ v. out ++ v) (sym (append_nil w) ∙ sym lines ∙ ap (block_lines d) (sym is))

pub ruleset printed = (none_printed, stmt_printed, all_printed)
