-- Operands, terms and expressions, wherever they stand.
use Rattle.std.proofs.Common.{◌≡◌, ℕ, zero, suc, ◌+◌, ◌<◌, ◌≤◌, List, [], ◌∷◌, ◌++◌, length, Some, None, Bool, true, false, ltb, ◌&&◌, refl, sym, ap, ◌∙◌, arith, subst, append_assoc}
use Rattle.us_tokens.specs.Text as text
use Rattle.us_tokens.specs.Text.{Text, left_of, after}
use Rattle.us_expr.specs.Tree.{Tree, tree}
use Rattle.us_expr.specs.declared.expression.Expr as code
use Rattle.us_decl.specs.declared.lexeme.Lexeme.{Lexeme}
use Rattle.us_decl.specs.declared.lexeme.Lexeme.TheVariants as lexeme
use Rattle.us_parse.specs.declared.stop.Stop.{Stop}
use Rattle.us_parse.specs.declared.stop.Stop.TheVariants as stop
use Rattle.us_decl.specs.Words.{is_name}
use Rattle.us_decl.specs.Names.{with_name, names_expr, names_term, names_factor}
use Rattle.us_decl.specs.Limits.{nodes, nodes_term, nodes_factor, fits_expr, fits_term, fits_nodes, fits_names, fits_number}
use Rattle.us_parse.specs.Within.{fits, fits_use, fits_open, fits_inside, fits_behind, held, names_open, names_use, begun}
use Rattle.us_decl.specs.Declares.{tree_expr, tree_term}
use Rattle.us_parse.specs.Reads.{size, Took, lead, is_fixed, refused_at, Leads, Fails, has_operand, operand_fault, has_divisor, divisor_fault, GoesLeaf, GoesTerm, GoesExpr, Everywhere, is_sum, is_product, sum_token, sum_tree, quotient_tree}
use Rattle.us_decl.proofs.Deciding.{both, left_of as left_true, right_of, not_right, below, above}
use Rattle.us_decl.proofs.Numbering.{term_goes_on}
use Rattle.us_parse.proofs.Steps.{goes, exceeds, refuses, took_of, leads_then, fails_via, shorter_took}
use Rattle.us_decl.specs.Token.{Token, Fixed, Name, Number, same}
use Rattle.us_decl.specs.declared.mark.Mark.TheVariants as mark
use Rattle.us_decl.specs.Grammar.{Expr, Term, Just, Factor, Named, Num, Group}
use Rattle.us_parse.specs.Piece.{Use, Argument, Mapped, Hole, Begin, AfterPlus, AfterMinus, Operand, Divisor, After, divide_token, filled, divided, step}

-- the limits behind a term, part by part
fits_after : (u : Use) (h : Hole) (t : Term) (os : List Hole) (k : ℕ) → fits_use 1 u ≡ true → fits_open h os ≡ true → held h os + nodes_term t + k < 33 → length (names_term t (names_open h os (names_use u))) < 33 → fits_term (length os) t ≡ true → fits_behind u h t os k ≡ true
fits_after u h t os k a b c d e = both _ _ (both _ _ a (both _ _ b (both _ _ (below (held h os + nodes_term t + k) 33 c) (below (length (names_term t (names_open h os (names_use u)))) 33 d)))) e

pub not_left : (x y : Bool) → x ≡ false → (x && y) ≡ false
not_left x y e = ap (λ (z : Bool). z && y) e

many_after : (u : Use) (h : Hole) (t : Term) (os : List Hole) (k : ℕ) → 33 ≤ held h os + nodes_term t + k → fits_behind u h t os k ≡ false
many_after u h t os k c = not_left _ _ (not_right _ _ (not_right _ _ (not_left _ _ (above (held h os + nodes_term t + k) 33 c))))

new_names : (u : Use) (h : Hole) (t : Term) (os : List Hole) (k : ℕ) → fits_names (names_term t (names_open h os (names_use u))) ≡ false → fits_behind u h t os k ≡ false
new_names u h t os k c = not_left _ _ (not_right _ _ (not_right _ _ (not_right (fits_nodes (held h os + nodes_term t + k)) _ c)))

unfit_after : (u : Use) (h : Hole) (t : Term) (os : List Hole) (k : ℕ) → fits_term (length os) t ≡ false → fits_behind u h t os k ≡ false
unfit_after u h t os k c = not_right (fits_inside 1 u h os (held h os + nodes_term t + k) (names_term t (names_open h os (names_use u)))) _ c

pub either_false : (x y : Bool) (C : Type 0) → (x && y) ≡ false → (x ≡ false → C) → (x ≡ true → y ≡ false → C) → C
either_false true y C e f g = g refl e
either_false false y C e f g = f refl

-- an operand that can't stand here, or is beyond a limit
pub fails_operand : (old : Text Lexeme) (ns : List (List ℕ)) (u : Use) (h : Hole) (os : List Hole) → names_open h os (names_use u) ≡ ns → is_fixed mark.Open (lead old) ≡ false → has_operand ns old ≡ false → Fails old (Operand u h os) (operand_fault old)
fails_operand text.End ns u h os n o e = refuses text.End (Operand u h os) refl (λ t k. absurd cc)
fails_operand (text.Bad left) ns u h os n o e = refuses (text.Bad left) (Operand u h os) refl (λ t k. absurd cc)
fails_operand (text.Then (lexeme.Fixed mark.I) w behind more) ns u h os n o e = absurd cc
fails_operand (text.Then (lexeme.Fixed mark.J) w behind more) ns u h os n o e = absurd cc
fails_operand (text.Then (lexeme.Fixed mark.Open) w behind more) ns u h os n o e = absurd cc
fails_operand (text.Then lexeme.Name w behind more) ns u h os n o e =
    exceeds (text.Then lexeme.Name w behind more) more (Name w) (Operand u h os) (After u h (Just (Named w)) os) (record { kind = lexeme.Name; bytes = w; behind = behind; parts = refl; is = refl }) refl ((λ x. refl), refl)
    (either_false (is_name w) (fits_names (with_name w ns)) _ e (λ f. unfit_after u h (Just (Named w)) os 0 f) (λ _ f. new_names u h (Just (Named w)) os 0 (ap (λ (x : List (List ℕ)). fits_names (with_name w x)) n ∙ f)))
fails_operand (text.Then (lexeme.Number k) w behind more) ns u h os n o e =
    exceeds (text.Then (lexeme.Number k) w behind more) more (Number k) (Operand u h os) (After u h (Just (Num k)) os) (record { kind = lexeme.Number k; bytes = w; behind = behind; parts = refl; is = refl }) refl ((λ x. refl), refl)
    (unfit_after u h (Just (Num k)) os 0 e)
fails_operand (text.Then k w behind more) ns u h os n o e = λ x. refl

leaf_nodes : (u : Use) (h : Hole) (os : List Hole) (f : Factor) (n : ℕ) → nodes_factor f ≡ 1 → held h os ≡ n → held h os + nodes_term (Just f) + 0 ≡ n + 1
leaf_nodes u h os f n a b = omega (arith, a, b)

pub goes_leaf : (old new : Text Lexeme) (depth n : ℕ) (ns ms : List (List ℕ)) (e : code.Expr) → n < 32 → GoesLeaf old new ns ms e → GoesTerm old new depth n (n + 1) ns ms e
goes_leaf old new depth n ns ms e few g = record {
  text = Just g.factor;
  is = g.is;
  names = g.names;
  shorter = shorter_took old new g.token g.took;
  count = ap (λ (k : ℕ). n + k) g.node;
  few = omega arith;
  known = g.known;
  fits = g.fits depth;
  goes = λ u h os room fit deep count names. goes old new g.token (Operand u h os) (After u h (Just g.factor) os) g.took (g.steps u h os) ((λ x. refl), refl)
      (fits_after u h (Just g.factor) os 0 room fit (omega (arith, leaf_nodes u h os g.factor n g.node count))
      (let k : names_factor g.factor (names_open h os (names_use u)) ≡ ms = ap (names_factor g.factor) names ∙ g.names in omega (arith, ap length k, g.known)) (g.fits (length os)));
}

pub full_leaf : (old new : Text Lexeme) (n : ℕ) (ns ms : List (List ℕ)) (e : code.Expr) (u : Use) (h : Hole) (os : List Hole) → 32 ≤ n → GoesLeaf old new ns ms e → held h os ≡ n → Fails old (Operand u h os) (stop.TooBig (left_of old))
full_leaf old new n ns ms e u h os full g count = exceeds old new g.token (Operand u h os) (After u h (Just g.factor) os) g.took (g.steps u h os) ((λ x. refl), refl)
    (many_after u h (Just g.factor) os 0 (omega (arith, leaf_nodes u h os g.factor n g.node count)))

-- parentheses

held_group : (h : Hole) (os : List Hole) → held Begin (h ∷ os) ≡ held h os
held_group h os = omega arith

fits_group : (u : Use) (h : Hole) (os : List Hole) → fits_use 1 u ≡ true → fits_open h os ≡ true → length os < 32 → held h os < 33 → length (names_open h os (names_use u)) < 33 → fits (Operand u Begin (h ∷ os)) ≡ true
fits_group u h os a b c d e = both _ _ a (both _ _ (both _ _ b (both _ _ (below (length os) 32 c) refl)) (both _ _ (below (held Begin (h ∷ os)) 33 (omega arith)) (below (length (names_open h os (names_use u))) 33 e)))

deep_group : (u : Use) (h : Hole) (os : List Hole) → 32 ≤ length os → fits (Operand u Begin (h ∷ os)) ≡ false
deep_group u h os c = not_right (fits_use 1 u) _ (not_left _ _ (not_right (fits_open h os) _ (not_left _ _ (above (length os) 32 c))))

pub fails_deep : (old : Text Lexeme) (u : Use) (h : Hole) (os : List Hole) → lead old ≡ Some (Fixed mark.Open) → 32 ≤ length os → Fails old (Operand u h os) (stop.TooBig (left_of old))
fails_deep old u h os is deep = exceeds old (after old) (Fixed mark.Open) (Operand u h os) (Operand u Begin (h ∷ os)) (took_of old (Fixed mark.Open) is) refl ((λ x. refl), refl) (deep_group u h os deep)

pub goes_open : (old : Text Lexeme) (u : Use) (h : Hole) (os : List Hole) → lead old ≡ Some (Fixed mark.Open) → fits_use 1 u ≡ true → fits_open h os ≡ true → length os < 32 → held h os < 33 → length (names_open h os (names_use u)) < 33 → Leads old (Operand u h os) (after old) (Operand u Begin (h ∷ os))
goes_open old u h os is a b c d e = goes old (after old) (Fixed mark.Open) (Operand u h os) (Operand u Begin (h ∷ os)) (took_of old (Fixed mark.Open) is) refl ((λ x. refl), refl) (fits_group u h os a b c d e)

open_inside : (h : Hole) (os : List Hole) → fits_open h os ≡ true → length os < 32 → fits_open Begin (h ∷ os) ≡ true
open_inside h os b c = both _ _ b (both _ _ (below (length os) 32 c) refl)

-- behind an expression in parentheses
closes_group : (old new : Text Lexeme) (u : Use) (g h : Hole) (t : Term) (os : List Hole) → Took old new (Fixed mark.Close) → fits (After u g (Just (Group (filled h t))) os) ≡ true → Leads old (After u h t (g ∷ os)) new (After u g (Just (Group (filled h t))) os)
closes_group old new u g h t os k f = goes old new (Fixed mark.Close) (After u h t (g ∷ os)) (After u g (Just (Group (filled h t))) os) k refl ((λ x. refl), refl) f

pub goes_group : (old mid new : Text Lexeme) (depth n m : ℕ) (ns ms : List (List ℕ)) (e : code.Expr) → depth < 32 → n < 33 → length ns < 33 → lead old ≡ Some (Fixed mark.Open) → GoesExpr (after old) mid (depth + 1) n m ns ms e → Took mid new (Fixed mark.Close) → GoesTerm old new depth n m ns ms e
goes_group old mid new depth n m ns ms e deep few small is g k = record {
  text = Just (Group (filled g.before g.text));
  is = g.is;
  names = g.names;
  shorter =
      let a : size (after old) < size old = shorter_took old (after old) (Fixed mark.Open) (took_of old (Fixed mark.Open) is) in
      let b : size new < size mid = shorter_took mid new (Fixed mark.Close) k in
      let c : size mid < size (after old) = g.shorter in omega arith;
  count = g.count;
  few = g.few;
  known = g.known;
  fits = both _ _ (below depth 32 deep) (subst (λ (d : ℕ). fits_expr d (filled g.before g.text) ≡ true) (let q : depth + 1 ≡ suc depth = omega arith in q) g.fits);
  goes = λ u h os room fit long count names.
      let short : length os < 32 = omega (arith, long) in
      let held_few : held h os < 33 = omega (arith, count) in
      let names_few : length (names_open h os (names_use u)) < 33 = omega (arith, ap length names) in
      let inside : length (h ∷ os) ≡ depth + 1 = omega (arith, long) in
      let first : Leads old (Operand u h os) (after old) (Operand u Begin (h ∷ os)) = goes_open old u h os is room fit short held_few names_few in
      let middle : Leads (after old) (Operand u Begin (h ∷ os)) mid (After u g.before g.text (h ∷ os)) = g.goes u Begin (h ∷ os) room (open_inside h os fit short) inside (held_group h os ∙ count) names refl in
      let behind : fits (After u h (Just (Group (filled g.before g.text))) os) ≡ true =
      fits_after u h (Just (Group (filled g.before g.text))) os 0 room fit (omega (arith, count, g.count, g.few))
      (let q : names_expr (filled g.before g.text) (names_open h os (names_use u)) ≡ ms = ap (names_expr (filled g.before g.text)) names ∙ g.names in omega (arith, ap length q, g.known))
      (both _ _ (below (length os) 32 short) (subst (λ (d : ℕ). fits_expr d (filled g.before g.text) ≡ true) (let q : depth + 1 ≡ suc (length os) = omega (arith, long) in q) g.fits)) in
      leads_then old mid new (Operand u h os) (After u g.before g.text (h ∷ os)) (After u h (Just (Group (filled g.before g.text))) os)
      (leads_then old (after old) mid (Operand u h os) (Operand u Begin (h ∷ os)) (After u g.before g.text (h ∷ os)) first middle)
      (closes_group mid new u h g.before g.text os k behind);
}

-- an expression that ends with a fault
pub fails_inside : (old : Text Lexeme) (depth n : ℕ) (ns : List (List ℕ)) (r : Stop) → depth < 32 → n < 33 → length ns < 33 → lead old ≡ Some (Fixed mark.Open) → Everywhere (depth + 1) n ns (λ u h os. h ≡ Begin → Fails (after old) (Operand u Begin os) r) → Everywhere depth n ns (λ u h os. Fails old (Operand u h os) r)
fails_inside old depth n ns r deep few small is f = λ u h os room fit long count names.
    let short : length os < 32 = omega (arith, long) in
    let held_few : held h os < 33 = omega (arith, count) in
    let names_few : length (names_open h os (names_use u)) < 33 = omega (arith, ap length names) in
    let inside : length (h ∷ os) ≡ depth + 1 = omega (arith, long) in
    fails_via r old (after old) (Operand u h os) (Operand u Begin (h ∷ os)) (goes_open old u h os is room fit short held_few names_few)
    (f u Begin (h ∷ os) room (open_inside h os fit short) inside (held_group h os ∙ count) names refl)

no_close_token : (u : Use) (g h : Hole) (t : Term) (os : List Hole) (k : Token) → is_fixed mark.Close (Some k) ≡ false → is_product (Some k) ≡ false → is_sum (Some k) ≡ false → step (After u h t (g ∷ os)) k ≡ None
no_close_token u g h t os (Fixed mark.Plus) a b c = absurd cc
no_close_token u g h t os (Fixed mark.Minus) a b c = absurd cc
no_close_token u g h t os (Fixed mark.Slash) a b c = absurd cc
no_close_token u g h t os (Fixed mark.Percent) a b c = absurd cc
no_close_token u g h t os (Fixed mark.Close) a b c = absurd cc
no_close_token (Argument x qs q) g h t os (Fixed mark.Comma) a b c = refl
no_close_token (Mapped x qs ls) g h t os (Fixed mark.Comma) a b c = refl
no_close_token u g h t os _ a b c = refl

pub fails_close : (old mid : Text Lexeme) (depth n m : ℕ) (ns ms : List (List ℕ)) (e : code.Expr) (r : Stop) → depth < 32 → n < 33 → length ns < 33 → lead old ≡ Some (Fixed mark.Open) → GoesExpr (after old) mid (depth + 1) n m ns ms e → is_product (lead mid) ≡ false → is_sum (lead mid) ≡ false → (r ≡ refused_at mid) × (is_fixed mark.Close (lead mid) ≡ false) → Everywhere depth n ns (λ u h os. Fails old (Operand u h os) r)
fails_close old mid depth n m ns ms e r deep few small is g p s f = λ u h os room fit long count names.
    let short : length os < 32 = omega (arith, long) in
    let held_few : held h os < 33 = omega (arith, count) in
    let names_few : length (names_open h os (names_use u)) < 33 = omega (arith, ap length names) in
    let inside : length (h ∷ os) ≡ depth + 1 = omega (arith, long) in
    let refusal : Fails mid (After u g.before g.text (h ∷ os)) r = subst (λ (x : Stop). Fails mid (After u g.before g.text (h ∷ os)) x) (sym f.0)
    (refuses mid (After u g.before g.text (h ∷ os)) refl (λ k q. no_close_token u h g.before g.text os k (ap (is_fixed mark.Close) (sym q) ∙ f.1) (ap is_product (sym q) ∙ p) (ap is_sum (sym q) ∙ s))) in
    fails_via r old (after old) (Operand u h os) (Operand u Begin (h ∷ os)) (goes_open old u h os is room fit short held_few names_few)
    (fails_via r (after old) mid (Operand u Begin (h ∷ os)) (After u g.before g.text (h ∷ os)) (g.goes u Begin (h ∷ os) room (open_inside h os fit short) inside (held_group h os ∙ count) names refl) refusal)

-- quotients and remainders

product_step : (over : Bool) (u : Use) (h : Hole) (t : Term) (os : List Hole) → step (After u h t os) (divide_token over) ≡ Some (Divisor over u h t os)
product_step true u h t os = refl
product_step false u h t os = refl

divided_fits : (over : Bool) (d k : ℕ) (t : Term) → fits_term d t ≡ true → fits_number (suc k) ≡ true → fits_term d (divided over t k) ≡ true
divided_fits true d k t a b = both _ _ a b
divided_fits false d k t a b = both _ _ a b

divided_nodes : (over : Bool) (t : Term) (k : ℕ) → nodes_term (divided over t k) ≡ nodes_term t + 1
divided_nodes true t k = refl
divided_nodes false t k = refl

divided_names : (over : Bool) (t : Term) (k : ℕ) (ns : List (List ℕ)) → names_term (divided over t k) ns ≡ names_term t ns
divided_names true t k ns = refl
divided_names false t k ns = refl

divided_is : (over : Bool) (t : Term) (k : ℕ) (ns : List (List ℕ)) → tree_term ns (divided over t k) ≡ quotient_tree over (tree_term ns t) (suc k)
divided_is true t k ns = refl
divided_is false t k ns = refl

-- to the place of the divisor
to_divisor : (left : Text Lexeme) (over : Bool) (u : Use) (h : Hole) (t : Term) (os : List Hole) → lead left ≡ Some (divide_token over) → fits (Divisor over u h t os) ≡ true → Leads left (After u h t os) (after left) (Divisor over u h t os)
to_divisor left over u h t os is f = goes left (after left) (divide_token over) (After u h t os) (Divisor over u h t os) (took_of left (divide_token over) is) (product_step over u h t os) ((λ x. refl), refl) f

module _ (old left : Text Lexeme) (over : Bool) (depth n m : ℕ) (ns ms : List (List ℕ)) (x : code.Expr) (g : GoesTerm old left depth n m ns ms x) (is : lead left ≡ Some (divide_token over)) where
  names_at : (u : Use) (h : Hole) (os : List Hole) → names_open h os (names_use u) ≡ ns → length (names_term g.text (names_open h os (names_use u))) < 33
  names_at u h os names = let q : names_term g.text (names_open h os (names_use u)) ≡ ms = ap (names_term g.text) names ∙ g.names in omega (arith, ap length q, g.known)

  divisor_fits : m < 32 → (u : Use) (h : Hole) (os : List Hole) → fits_use 1 u ≡ true → fits_open h os ≡ true → length os ≡ depth → held h os ≡ n → names_open h os (names_use u) ≡ ns → fits (Divisor over u h g.text os) ≡ true
  divisor_fits few u h os room fit long count names = fits_after u h g.text os 1 room fit (omega (arith, count, g.count)) (names_at u h os names) (subst (λ (d : ℕ). fits_term d g.text ≡ true) (sym long) g.fits)

  at_divisor : m < 32 → Everywhere depth n ns (λ u h os. Leads old (Operand u h os) (after left) (Divisor over u h g.text os))
  at_divisor few = λ u h os room fit long count names.
      leads_then old left (after left) (Operand u h os) (After u h g.text os) (Divisor over u h g.text os) (g.goes u h os room fit long count names)
      (to_divisor left over u h g.text os is (divisor_fits few u h os room fit long count names))

  pub many_product : 32 ≤ m → Everywhere depth n ns (λ u h os. Fails old (Operand u h os) (stop.TooBig (left_of left)))
  many_product full = λ u h os room fit long count names.
      fails_via (stop.TooBig (left_of left)) old left (Operand u h os) (After u h g.text os) (g.goes u h os room fit long count names)
      (exceeds left (after left) (divide_token over) (After u h g.text os) (Divisor over u h g.text os) (took_of left (divide_token over) is) (product_step over u h g.text os) ((λ y. refl), refl)
      (many_after u h g.text os 1 (omega (arith, count, g.count))))

  product_at : (k : ℕ) (new : Text Lexeme) (y : code.Expr) → m < 32 → Took (after left) new (Number (suc k)) → fits_number (suc k) ≡ true → tree y ≡ quotient_tree over (tree x) (suc k) → GoesTerm old new depth n (m + 1) ns ms y
  product_at k new y few took small same = record {
    text = divided over g.text k;
    is = λ more. divided_is over g.text k (ms ++ more) ∙ ap (λ (z : Tree). quotient_tree over z (suc k)) (g.is more) ∙ sym same;
    names = divided_names over g.text k ns ∙ g.names;
    shorter =
        let b : size (after left) < size left = shorter_took left (after left) (divide_token over) (took_of left (divide_token over) is) in
        let c : size new < size (after left) = shorter_took (after left) new (Number (suc k)) took in
        let d : size left < size old = g.shorter in omega arith;
    count = omega (arith, divided_nodes over g.text k, g.count);
    few = omega arith;
    known = g.known;
    fits = divided_fits over depth k g.text g.fits small;
    goes = λ u h os room fit long count names.
        leads_then old (after left) new (Operand u h os) (Divisor over u h g.text os) (After u h (divided over g.text k) os) (at_divisor few u h os room fit long count names)
        (goes (after left) new (Number (suc k)) (Divisor over u h g.text os) (After u h (divided over g.text k) os) took refl ((λ z. refl), refl)
        (fits_after u h (divided over g.text k) os 0 room fit (omega (arith, divided_nodes over g.text k, count, g.count)) (let q = divided_names over g.text k (names_open h os (names_use u)) in let l = names_at u h os names in omega (arith, ap length q))
        (divided_fits over (length os) k g.text (subst (λ (d : ℕ). fits_term d g.text ≡ true) (sym long) g.fits) small)));
  }

  pub goes_product : (k : ℕ) (new : Text Lexeme) (y : code.Expr) → m < 32 → Took (after left) new (Number k) × (fits_number k ≡ true) × (0 < k) → tree y ≡ quotient_tree over (tree x) k → GoesTerm old new depth n (m + 1) ns ms y
  goes_product zero new y few t same = absurd (omega (arith, t.2))
  goes_product (suc k) new y few t same = product_at k new y few t.0 t.1 same

  fails_number : (mid : Text Lexeme) (u : Use) (h : Hole) (os : List Hole) → has_divisor mid ≡ false → Fails mid (Divisor over u h g.text os) (divisor_fault mid)
  fails_number text.End u h os e = refuses text.End (Divisor over u h g.text os) refl (λ t k. absurd cc)
  fails_number (text.Bad l) u h os e = refuses (text.Bad l) (Divisor over u h g.text os) refl (λ t k. absurd cc)
  fails_number (text.Then (lexeme.Fixed k) w behind more) u h os e = λ y. refl
  fails_number (text.Then lexeme.Name w behind more) u h os e = λ y. refl
  fails_number (text.Then (lexeme.Number zero) w behind more) u h os e = λ y. refl
  fails_number (text.Then (lexeme.Number (suc k)) w behind more) u h os e =
      exceeds (text.Then (lexeme.Number (suc k)) w behind more) more (Number (suc k)) (Divisor over u h g.text os) (After u h (divided over g.text k) os) (record { kind = lexeme.Number (suc k); bytes = w; behind = behind; parts = refl; is = refl }) refl ((λ y. refl), refl)
      (unfit_after u h (divided over g.text k) os 0 (unfit over))
    where
      unfit : (b : Bool) → fits_term (length os) (divided b g.text k) ≡ false
      unfit true = not_right (fits_term (length os) g.text) _ e
      unfit false = not_right (fits_term (length os) g.text) _ e

  pub fails_divisor : (r : Stop) → m < 32 → (r ≡ divisor_fault (after left)) × (has_divisor (after left) ≡ false) → Everywhere depth n ns (λ u h os. Fails old (Operand u h os) r)
  fails_divisor r few f = λ u h os room fit long count names.
      fails_via r old (after left) (Operand u h os) (Divisor over u h g.text os) (at_divisor few u h os room fit long count names)
      (subst (λ (z : Stop). Fails (after left) (Divisor over u h g.text os) z) (sym f.0) (fails_number (after left) u h os f.1))

-- sums and differences

abbrev sum_hole : Bool → Expr → Hole
sum_hole true e = AfterPlus e
sum_hole false e = AfterMinus e

sum_step : (plus : Bool) (u : Use) (h : Hole) (t : Term) (os : List Hole) → step (After u h t os) (sum_token plus) ≡ Some (Operand u (sum_hole plus (filled h t)) os)
sum_step true u h t os = refl
sum_step false u h t os = refl

filled_nodes : (plus : Bool) (e : Expr) (t : Term) → nodes (filled (sum_hole plus e) t) ≡ nodes e + 1 + nodes_term t
filled_nodes true e t = refl
filled_nodes false e t = refl

filled_fits : (plus : Bool) (d : ℕ) (e : Expr) (t : Term) → fits_expr d e ≡ true → fits_term d t ≡ true → fits_expr d (filled (sum_hole plus e) t) ≡ true
filled_fits true d e t a b = both _ _ a b
filled_fits false d e t a b = both _ _ a b

filled_names : (plus : Bool) (e : Expr) (t : Term) (ns : List (List ℕ)) → names_expr (filled (sum_hole plus e) t) ns ≡ names_term t (names_expr e ns)
filled_names true e t ns = refl
filled_names false e t ns = refl

filled_is : (plus : Bool) (e : Expr) (t : Term) (ns : List (List ℕ)) → tree_expr ns (filled (sum_hole plus e) t) ≡ sum_tree plus (tree_expr ns e) (tree_term ns t)
filled_is true e t ns = refl
filled_is false e t ns = refl

sum_names : (plus : Bool) (e : Expr) (os : List Hole) (ns : List (List ℕ)) → names_open (sum_hole plus e) os ns ≡ names_expr e (names_open Begin os ns)
sum_names true e [] ns = refl
sum_names true e (g ∷ os) ns = refl
sum_names false e [] ns = refl
sum_names false e (g ∷ os) ns = refl

sum_held : (plus : Bool) (e : Expr) (os : List Hole) → held (sum_hole plus e) os ≡ held Begin os + nodes e + 1
sum_held true e [] = omega arith
sum_held true e (g ∷ os) = omega arith
sum_held false e [] = omega arith
sum_held false e (g ∷ os) = omega arith

sum_open : (plus : Bool) (e : Expr) (os : List Hole) → fits_open Begin os ≡ true → fits_expr (length os) e ≡ true → fits_open (sum_hole plus e) os ≡ true
sum_open true e [] a b = b
sum_open false e [] a b = b
sum_open true e (g ∷ os) a b = both (fits_open g os) _ (left_true _ _ a) (both (ltb (length os) 32) _ (left_true (ltb (length os) 32) true (right_of (fits_open g os) _ a)) b)
sum_open false e (g ∷ os) a b = both (fits_open g os) _ (left_true _ _ a) (both (ltb (length os) 32) _ (left_true (ltb (length os) 32) true (right_of (fits_open g os) _ a)) b)

sum_begun : (plus : Bool) (e : Expr) (os : List Hole) → begun (sum_hole plus e) os ≡ 1
sum_begun true e [] = refl
sum_begun true e (g ∷ os) = refl
sum_begun false e [] = refl
sum_begun false e (g ∷ os) = refl

fits_operand : (u : Use) (h : Hole) (os : List Hole) → begun h os ≡ 1 → fits_use 1 u ≡ true → fits_open h os ≡ true → held h os < 33 → length (names_open h os (names_use u)) < 33 → fits (Operand u h os) ≡ true
fits_operand u h os s a b c d = ap (λ (k : ℕ). fits_inside k u h os (held h os) (names_open h os (names_use u))) s ∙ both _ _ a (both _ _ b (both _ _ (below (held h os) 33 c) (below (length (names_open h os (names_use u))) 33 d)))

many_operand : (u : Use) (h : Hole) (os : List Hole) → 33 ≤ held h os → fits (Operand u h os) ≡ false
many_operand u h os c = not_right (fits_use (begun h os) u) _ (not_right (fits_open h os) _ (not_left _ _ (above (held h os) 33 c)))

pub goes_first : (old new : Text Lexeme) (depth n m : ℕ) (ns ms : List (List ℕ)) (e : code.Expr) → GoesTerm old new depth n m ns ms e → GoesExpr old new depth n m ns ms e
goes_first old new depth n m ns ms e g = record {
  before = Begin;
  text = g.text;
  is = g.is;
  names = g.names;
  shorter = g.shorter;
  count = g.count;
  few = g.few;
  known = g.known;
  fits = g.fits;
  goes = λ u h os room fit long count names is.
      subst (λ (x : Hole). held x os ≡ n → names_open x os (names_use u) ≡ ns → fits_open x os ≡ true → Leads old (Operand u Begin os) new (After u Begin g.text os)) (sym is)
      (λ c d f. g.goes u Begin os room f long c d) count names fit;
}

pub fails_first : (old : Text Lexeme) (depth n : ℕ) (ns : List (List ℕ)) (r : Stop) → Everywhere depth n ns (λ u h os. Fails old (Operand u h os) r) → Everywhere depth n ns (λ u h os. h ≡ Begin → Fails old (Operand u Begin os) r)
fails_first old depth n ns r f = λ u h os room fit long count names is.
    subst (λ (x : Hole). held x os ≡ n → names_open x os (names_use u) ≡ ns → fits_open x os ≡ true → Fails old (Operand u Begin os) r) (sym is)
    (λ c d k. f u Begin os room k long c d) count names fit

module _ (old left : Text Lexeme) (plus : Bool) (depth n m : ℕ) (ns ms : List (List ℕ)) (x : code.Expr) (g : GoesExpr old left depth n m ns ms x) (is : lead left ≡ Some (sum_token plus)) where
  -- at the operand behind the sign
  abbrev so_far_expr : Expr
  so_far_expr = filled g.before g.text

  held_there : (os : List Hole) → held Begin os ≡ n → held (sum_hole plus so_far_expr) os ≡ m + 1
  held_there os count = omega (arith, sum_held plus so_far_expr os, count, g.count)

  names_there : (u : Use) (os : List Hole) → names_open Begin os (names_use u) ≡ ns → names_open (sum_hole plus so_far_expr) os (names_use u) ≡ ms
  names_there u os names = sum_names plus so_far_expr os (names_use u) ∙ ap (names_expr so_far_expr) names ∙ g.names

  open_there : (os : List Hole) → fits_open Begin os ≡ true → length os ≡ depth → fits_open (sum_hole plus so_far_expr) os ≡ true
  open_there os fit long = sum_open plus so_far_expr os fit (subst (λ (d : ℕ). fits_expr d so_far_expr ≡ true) (sym long) g.fits)

  at_next : m < 32 → (u : Use) (os : List Hole) → fits_use 1 u ≡ true → fits_open Begin os ≡ true → length os ≡ depth → held Begin os ≡ n → names_open Begin os (names_use u) ≡ ns → Leads old (Operand u Begin os) (after left) (Operand u (sum_hole plus so_far_expr) os)
  at_next few u os room fit long count names =
      leads_then old left (after left) (Operand u Begin os) (After u g.before g.text os) (Operand u (sum_hole plus so_far_expr) os) (g.goes u Begin os room fit long count names refl)
      (goes left (after left) (sum_token plus) (After u g.before g.text os) (Operand u (sum_hole plus so_far_expr) os) (took_of left (sum_token plus) is) (sum_step plus u g.before g.text os) ((λ y. refl), refl)
      (fits_operand u (sum_hole plus so_far_expr) os (sum_begun plus so_far_expr os) room (open_there os fit long) (omega (arith, held_there os count)) (let q = names_there u os names in omega (arith, ap length q, g.known))))

  at_begin : (P : Use → List Hole → Type 0) → ((u : Use) (os : List Hole) → fits_use 1 u ≡ true → fits_open Begin os ≡ true → length os ≡ depth → held Begin os ≡ n → names_open Begin os (names_use u) ≡ ns → P u os) → Everywhere depth n ns (λ u h os. h ≡ Begin → P u os)
  at_begin P f = λ u h os room fit long count names eq.
      subst (λ (y : Hole). held y os ≡ n → names_open y os (names_use u) ≡ ns → fits_open y os ≡ true → P u os) (sym eq) (λ c d k. f u os room k long c d) count names fit

  pub goes_sum : (k : ℕ) (ls : List (List ℕ)) (new : Text Lexeme) (y z : code.Expr) → m < 32 → GoesTerm (after left) new depth (m + 1) k ms ls y → tree z ≡ sum_tree plus (tree x) (tree y) → GoesExpr old new depth n k ns ls z
  goes_sum k ls new y z few f same = record {
    before = sum_hole plus so_far_expr;
    text = f.text;
    is = λ more.
        let on = term_goes_on f.text ms in
        let ls_is : ls ≡ ms ++ on.more = sym f.names ∙ on.is in
        let here : ls ++ more ≡ ms ++ (on.more ++ more) = ap (λ (q : List (List ℕ)). q ++ more) ls_is ∙ append_assoc ms on.more more in
        let first : tree_expr (ls ++ more) so_far_expr ≡ tree x = ap (λ (q : List (List ℕ)). tree_expr q so_far_expr) here ∙ g.is (on.more ++ more) in
        filled_is plus so_far_expr f.text (ls ++ more) ∙ ap (λ (q : Tree). sum_tree plus q (tree_term (ls ++ more) f.text)) first ∙ ap (sum_tree plus (tree x)) (f.is more) ∙ sym same;
    names = filled_names plus so_far_expr f.text ns ∙ ap (names_term f.text) g.names ∙ f.names;
    shorter =
        let b : size (after left) < size left = shorter_took left (after left) (sum_token plus) (took_of left (sum_token plus) is) in
        let c : size new < size (after left) = f.shorter in
        let d : size left < size old = g.shorter in omega arith;
    count = omega (arith, filled_nodes plus so_far_expr f.text, g.count, f.count);
    few = f.few;
    known = f.known;
    fits = filled_fits plus depth so_far_expr f.text g.fits f.fits;
    goes = at_begin (λ u os. Leads old (Operand u Begin os) new (After u (sum_hole plus so_far_expr) f.text os)) (λ u os room fit long count names.
        leads_then old (after left) new (Operand u Begin os) (Operand u (sum_hole plus so_far_expr) os) (After u (sum_hole plus so_far_expr) f.text os) (at_next few u os room fit long count names)
        (f.goes u (sum_hole plus so_far_expr) os room (open_there os fit long) long (held_there os count) (names_there u os names)));
  }

  pub fails_sum : (r : Stop) → m < 32 → Everywhere depth (m + 1) ms (λ u h os. Fails (after left) (Operand u h os) r) → Everywhere depth n ns (λ u h os. h ≡ Begin → Fails old (Operand u Begin os) r)
  fails_sum r few f = at_begin (λ u os. Fails old (Operand u Begin os) r) (λ u os room fit long count names.
      fails_via r old (after left) (Operand u Begin os) (Operand u (sum_hole plus so_far_expr) os) (at_next few u os room fit long count names)
      (f u (sum_hole plus so_far_expr) os room (open_there os fit long) long (held_there os count) (names_there u os names)))

  pub many_sum : 32 ≤ m → Everywhere depth n ns (λ u h os. h ≡ Begin → Fails old (Operand u Begin os) (stop.TooBig (left_of left)))
  many_sum full = at_begin (λ u os. Fails old (Operand u Begin os) (stop.TooBig (left_of left))) (λ u os room fit long count names.
      fails_via (stop.TooBig (left_of left)) old left (Operand u Begin os) (After u g.before g.text os) (g.goes u Begin os room fit long count names refl)
      (exceeds left (after left) (sum_token plus) (After u g.before g.text os) (Operand u (sum_hole plus so_far_expr) os) (took_of left (sum_token plus) is) (sum_step plus u g.before g.text os) ((λ y. refl), refl)
      (many_operand u (sum_hole plus so_far_expr) os (omega (arith, held_there os count)))))
