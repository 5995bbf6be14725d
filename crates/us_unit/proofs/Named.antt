-- Statements whose names are numbers of 32 bits, and lists of which each item is.
use Rattle.std.proofs.Common.{◌≡◌, ◌<◌, ◌≤◌, ◌^◌, ℕ, ◌+◌, List, [], ◌∷◌, ◌++◌, length, take, take_all, drop, get_or, Bool, Option, sym, ap, ◌∙◌, subst, add-one}
use Rattle.std.proofs.lemmas.List.{take_more, drop_all}
use Rattle.std.proofs.Math.Seq.{drop-cons}
use Rattle.us_code.specs.declared.program.Term.{Term}
use Rattle.us_code.specs.declared.program.Dim.{Dim}
use Rattle.us_code.specs.declared.program.Buf.{Buf}
use Rattle.us_code.specs.declared.program.Block.{Block}
use Rattle.us_code.specs.declared.program.Stmt.{Stmt}
use Rattle.us_code.specs.declared.program.Stmt.TheVariants as stmt
use Rattle.us_code.specs.Plain.{Code, End, Let, Load, Var, Put, Set, For, Span, If, When, Order, ◌+++◌, term_tree, plain_list, alone, tree_of, was_given, other_tree}
use Rattle.us_code.proofs.Trees.{list_nil, list_more, tree_list, alone_let, alone_load, alone_var, alone_put, alone_set, alone_for, alone_span, alone_if, alone_when, alone_order}
use Rattle.us_code_print.specs.ReadBack.{GivenElse, Named, NamedBuf, NamedBufs, NamedTerm}

-- ---- lists

-- what holds of a list if it holds of what is left holds of it if it holds of what is left behind one more item
pub one_more : {X : Type 0} (F : List X → Type 0) (xs : List X) (i : ℕ) (x : X) → i < length xs → x ≡ get_or xs i x → (F (drop (i + 1) xs) → F (x ∷ drop (i + 1) xs)) → (F (drop i xs) → F xs)
    → F (drop (i + 1) xs) → F xs
one_more F xs i x lt at more so h =
    let here : x ∷ drop (i + 1) xs ≡ drop i xs = ap (λ y. y ∷ drop (i + 1) xs) at ∙ ap (λ n. get_or xs i x ∷ drop n xs) (add-one i) ∙ sym (drop-cons xs i x lt) in
    so (subst F here (more h))

-- nothing is left
pub no_more : {X : Type 0} (F : List X → Type 0) (xs : List X) (i : ℕ) → length xs ≤ i → F [] → (F (drop i xs) → F xs) → F xs
no_more F xs i le none so = so (subst F (sym (drop_all i xs le)) none)

-- ---- blocks

append_named : (a b : Code) → Named a → Named b → Named (a +++ b)
append_named End b h k = k
append_named (Let r e rest) b h k = (h.0, h.1, append_named rest b h.2 k)
append_named (Load r x at rest) b h k = (h.0, h.1, h.2, append_named rest b h.3 k)
append_named (Var r e rest) b h k = (h.0, h.1, append_named rest b h.2 k)
append_named (Put r e rest) b h k = (h.0, h.1, append_named rest b h.2 k)
append_named (Set x at e rest) b h k = (h.0, h.1, h.2, append_named rest b h.3 k)
append_named (For r x body rest) b h k = (h.0, h.1, append_named rest b h.2 k)
append_named (Span r x y z body rest) b h k = (h.0, h.1, h.2, h.3, append_named rest b h.4 k)
append_named (If l eq r body given other rest) b h k = (h.0, h.1, h.2, h.3, h.4, append_named rest b h.5 k)
append_named (When e x r body given other rest) b h k = (h.0, h.1, h.2, h.3, h.4, append_named rest b h.5 k)
append_named (Order x keys rest) b h k = (h.0, h.1, append_named rest b h.2 k)

pub none_named : Named (plain_list [])
none_named = subst Named (sym list_nil) tt

pub one_more_named : (xs : List Stmt) (i : ℕ) (x : Stmt) → i < length xs → x ≡ get_or xs i x → Named (plain_list (take i xs)) → Named (alone x) → Named (plain_list (take (i + 1) xs))
one_more_named xs i x lt at h k =
    subst Named (sym (list_more (take i xs) x) ∙ sym (ap plain_list (take_more xs i x lt ∙ ap (λ z. take i xs ++ z ∷ []) (sym at))))
    (append_named (plain_list (take i xs)) (alone x) h k)

pub all_named : (b : Block) (xs : List Stmt) (n : ℕ) → length xs ≤ n → xs ≡ b.stmts → Named (plain_list (take n xs)) → Named (tree_of b)
all_named b xs n le e h = subst Named (ap plain_list (take_all n xs le ∙ e) ∙ sym (tree_list b)) h

-- ---- statements

pub named_let : (r : ℕ) (e : Term) → r < 2 ^ 32 → NamedTerm (term_tree e) → Named (alone (stmt.Let r e))
named_let r e hr he = subst Named (sym (alone_let r e)) (hr, he, tt)

pub named_var : (r : ℕ) (e : Term) → r < 2 ^ 32 → NamedTerm (term_tree e) → Named (alone (stmt.Var r e))
named_var r e hr he = subst Named (sym (alone_var r e)) (hr, he, tt)

pub named_put : (r : ℕ) (e : Term) → r < 2 ^ 32 → NamedTerm (term_tree e) → Named (alone (stmt.Put r e))
named_put r e hr he = subst Named (sym (alone_put r e)) (hr, he, tt)

pub named_load : (r : ℕ) (b : Buf) (at : Term) → r < 2 ^ 32 → NamedBuf b → NamedTerm (term_tree at) → Named (alone (stmt.Load r b at))
named_load r b at hr hb ha = subst Named (sym (alone_load r b at)) (hr, hb, ha, tt)

pub named_set : (b : Buf) (at e : Term) → NamedBuf b → NamedTerm (term_tree at) → NamedTerm (term_tree e) → Named (alone (stmt.Set b at e))
named_set b at e hb ha he = subst Named (sym (alone_set b at e)) (hb, ha, he, tt)

pub named_for : (r : ℕ) (d : Dim) (body : Block) → r < 2 ^ 32 → Named (tree_of body) → Named (alone (stmt.For r d body))
named_for r d body hr hb = subst Named (sym (alone_for r d body)) (hr, hb, tt)

pub named_span : (r : ℕ) (a b : Term) (d : Dim) (body : Block) → r < 2 ^ 32 → NamedTerm (term_tree a) → NamedTerm (term_tree b) → Named (tree_of body) → Named (alone (stmt.Span r a b d body))
named_span r a b d body hr ha hb k = subst Named (sym (alone_span r a b d body)) (hr, ha, hb, k, tt)

pub named_if : (l : Term) (eq : Bool) (r : Term) (body : Block) (other : Option Block) → NamedTerm (term_tree l) → NamedTerm (term_tree r) → Named (tree_of body)
    → Named (other_tree other) → GivenElse (was_given other) (other_tree other) → Named (alone (stmt.If l eq r body other))
named_if l eq r body other hl hr hb ho given = subst Named (sym (alone_if l eq r body other)) (hl, hr, hb, given, ho, tt)

pub named_when : (e : Term) (d : Dim) (r : ℕ) (body : Block) (other : Option Block) → NamedTerm (term_tree e) → r < 2 ^ 32 → Named (tree_of body)
    → Named (other_tree other) → GivenElse (was_given other) (other_tree other) → Named (alone (stmt.When e d r body other))
named_when e d r body other he hr hb ho given = subst Named (sym (alone_when e d r body other)) (he, hr, hb, given, ho, tt)

pub named_order : (b : Buf) (keys : List Buf) → NamedBuf b → NamedBufs keys → Named (alone (stmt.Order b keys))
named_order b keys hb hk = subst Named (sym (alone_order b keys)) (hb, hk, tt)

pub ruleset statements = (named_let, named_var, named_put, named_load, named_set, named_for, named_span, named_if, named_when, named_order)
