-- A list that is copied item by item.
use Rattle.std.proofs.Common.{◌≡◌, ℕ, ◌+◌, ◌<◌, ◌≤◌, refl, sym, ap, ap₂, ◌∙◌, List, [], ◌∷◌, ◌++◌, map, take, length, get_or, take_all}
use Rattle.std.proofs.lemmas.List.{take_more}
use Rattle.us_code.specs.declared.program.Stmt.{Stmt}
use Rattle.us_code.specs.declared.program.DimLine.{DimLine}
use Rattle.us_code.specs.declared.program.Phase.{Phase}
use Rattle.us_code.specs.declared.program.Block.{Block}
use Rattle.us_code.specs.Plain.{Code, ◌+++◌, plain_list, alone, tree_of, line_tree, phase_tree}
use Rattle.us_code.proofs.Trees.{list_nil, list_more, tree_list}

map_append : {A B : Type 0} (f : A → B) (xs ys : List A) → map f (xs ++ ys) ≡ map f xs ++ map f ys
map_append f [] ys = refl
map_append f (x ∷ xs) ys = ap (λ zs. f x ∷ zs) (map_append f xs ys)

copied : {A B : Type 0} (f : A → B) (new old : List A) (i : ℕ) (x y : A) → i < length old → x ≡ get_or old i x → f y ≡ f x → map f new ≡ map f (take i old) → map f (new ++ y ∷ []) ≡ map f (take (i + 1) old)
copied f new old i x y lt at same so =
    map_append f new (y ∷ [])
    ∙ (ap₂ (λ zs z. zs ++ z ∷ []) so same
    ∙ (sym (map_append f (take i old) (x ∷ []))
    ∙ sym (ap (map f) (take_more old i x lt ∙ ap (λ z. take i old ++ z ∷ []) (sym at)))))

pub copied_lines : (new old : List DimLine) (i : ℕ) (x y : DimLine) → i < length old → x ≡ get_or old i x → line_tree y ≡ line_tree x → map line_tree new ≡ map line_tree (take i old) → map line_tree (new ++ y ∷ []) ≡ map line_tree (take (i + 1) old)
copied_lines = copied line_tree

pub copied_phases : (new old : List Phase) (i : ℕ) (x y : Phase) → i < length old → x ≡ get_or old i x → phase_tree y ≡ phase_tree x → map phase_tree new ≡ map phase_tree (take i old) → map phase_tree (new ++ y ∷ []) ≡ map phase_tree (take (i + 1) old)
copied_phases = copied phase_tree

pub copied_stmts : (old : List Stmt) (i : ℕ) (x : Stmt) (new : Code) (more : Code) → i < length old → x ≡ get_or old i x → more ≡ alone x → new ≡ plain_list (take i old) → new +++ more ≡ plain_list (take (i + 1) old)
copied_stmts old i x new more lt at same so =
    ap₂ (λ a b. a +++ b) so same
    ∙ (sym (list_more (take i old) x)
    ∙ sym (ap plain_list (take_more old i x lt ∙ ap (λ z. take i old ++ z ∷ []) (sym at))))

pub all_copied : (b : Block) (xs : List Stmt) (n : ℕ) (new : Code) → length xs ≤ n → xs ≡ b.stmts → new ≡ plain_list (take n xs) → new ≡ tree_of b
all_copied b xs n new le e so = so ∙ (ap plain_list (take_all n xs le ∙ e) ∙ sym (tree_list b))

pub ruleset copies = (list_nil, copied_lines, copied_phases, copied_stmts, all_copied)
