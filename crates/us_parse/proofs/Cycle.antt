-- Expressions, as the functions that read them meet them.
use Rattle.std.proofs.Common.{◌≡◌, ℕ, ◌+◌, ◌<◌, ◌≤◌, List, length, Option, Some, None, Bool, true, false, sym, ap, arith, subst}
use Rattle.us_tokens.specs.Text.{Text, left_of, after}
use Rattle.us_expr.specs.Tree.{tree}
use Rattle.us_expr.specs.declared.expression.Expr as code
use Rattle.us_decl.specs.declared.lexeme.Lexeme.{Lexeme}
use Rattle.us_parse.specs.declared.stop.Stop.{Stop}
use Rattle.us_parse.specs.declared.stop.Stop.TheVariants as stop
use Rattle.us_decl.specs.Limits.{fits_number}
use Rattle.us_parse.specs.Reads.{Took, lead, is_fixed, refused_at, Fails, has_divisor, divisor_fault, GoesLeaf, GoesTerm, GoesExpr, Everywhere, is_sum, is_product, sum_token, sum_tree, quotient_tree}
use Rattle.us_parse.proofs.Adds.{same_is}
use Rattle.us_parse.proofs.Exprs.{full_leaf, fails_deep, goes_group, fails_inside, fails_close, many_product, goes_product, fails_divisor, goes_sum, fails_sum, many_sum}
use Rattle.us_decl.specs.Token.{Token, Fixed, Name, Number, same}
use Rattle.us_decl.specs.declared.mark.Mark.{Mark}
use Rattle.us_decl.specs.declared.mark.Mark.TheVariants as mark
use Rattle.us_parse.specs.Piece.{Begin, Operand, divide_token}

fixed_by : (m k : Mark) → same k m ≡ true → Some (Fixed k) ≡ Some (Fixed m)
fixed_by m k e = ap (λ (x : Mark). Some (Fixed x)) (same_is k m e)

pub fixed_lead : (m : Mark) (o : Option Token) → is_fixed m o ≡ true → o ≡ Some (Fixed m)
fixed_lead m None e = absurd cc
fixed_lead m (Some (Fixed k)) e = fixed_by m k e
fixed_lead m (Some (Name w)) e = absurd cc
fixed_lead m (Some (Number n)) e = absurd cc

pub deep_group : (old : Text Lexeme) (depth n : ℕ) (ns : List (List ℕ)) (r : Stop) → r ≡ stop.TooBig (left_of old) → is_fixed mark.Open (lead old) ≡ true → 32 ≤ depth → Everywhere depth n ns (λ u h os. Fails old (Operand u h os) r)
deep_group old depth n ns r e is deep = λ u h os room fit long count names.
    subst (λ (x : Stop). Fails old (Operand u h os) x) (sym e) (fails_deep old u h os (fixed_lead mark.Open (lead old) is) (omega (arith, long)))

pub full_operand : (old new : Text Lexeme) (depth n : ℕ) (ns ms : List (List ℕ)) (e : code.Expr) (r : Stop) → r ≡ stop.TooBig (left_of old) → 32 ≤ n → GoesLeaf old new ns ms e → Everywhere depth n ns (λ u h os. Fails old (Operand u h os) r)
full_operand old new depth n ns ms e r is full g = λ u h os room fit long count names. subst (λ (x : Stop). Fails old (Operand u h os) x) (sym is) (full_leaf old new n ns ms e u h os full g count)

pub inside_group : (old mid : Text Lexeme) (depth n : ℕ) (ns : List (List ℕ)) (r : Stop) → mid ≡ after old → depth < 32 → n ≤ 32 → length ns ≤ 32 → is_fixed mark.Open (lead old) ≡ true → Everywhere (depth + 1) n ns (λ u h os. h ≡ Begin → Fails mid (Operand u Begin os) r) → Everywhere depth n ns (λ u h os. Fails old (Operand u h os) r)
inside_group old mid depth n ns r e deep few small is f = fails_inside old depth n ns r deep (omega arith) (omega arith) (fixed_lead mark.Open (lead old) is) (subst (λ (x : Text Lexeme). Everywhere (depth + 1) n ns (λ u h os. h ≡ Begin → Fails x (Operand u Begin os) r)) e f)

pub close_group : (old mid new : Text Lexeme) (depth n m : ℕ) (ns ms : List (List ℕ)) (e : code.Expr) (r : Stop) → mid ≡ after old → depth < 32 → n ≤ 32 → length ns ≤ 32 → is_fixed mark.Open (lead old) ≡ true → GoesExpr mid new (depth + 1) n m ns ms e × (is_product (lead new) ≡ false) × (is_sum (lead new) ≡ false) → (r ≡ refused_at new) × (is_fixed mark.Close (lead new) ≡ false) → Everywhere depth n ns (λ u h os. Fails old (Operand u h os) r)
close_group old mid new depth n m ns ms e r eq deep few small is g f = fails_close old new depth n m ns ms e r deep (omega arith) (omega arith) (fixed_lead mark.Open (lead old) is) (subst (λ (x : Text Lexeme). GoesExpr x new (depth + 1) n m ns ms e) eq g.0) g.1 g.2 f

pub whole_group : (old mid inner new : Text Lexeme) (depth n m : ℕ) (ns ms : List (List ℕ)) (e : code.Expr) → mid ≡ after old → depth < 32 → n ≤ 32 → length ns ≤ 32 → is_fixed mark.Open (lead old) ≡ true → GoesExpr mid inner (depth + 1) n m ns ms e × (is_product (lead inner) ≡ false) × (is_sum (lead inner) ≡ false) → Took inner new (Fixed mark.Close) → GoesTerm old new depth n m ns ms e
whole_group old mid inner new depth n m ns ms e eq deep few small is g k = goes_group old inner new depth n m ns ms e deep (omega arith) (omega arith) (fixed_lead mark.Open (lead old) is) (subst (λ (x : Text Lexeme). GoesExpr x inner (depth + 1) n m ns ms e) eq g.0) k

pub full_product : (old left : Text Lexeme) (over : Bool) (depth n m : ℕ) (ns ms : List (List ℕ)) (x : code.Expr) (r : Stop) → GoesTerm old left depth n m ns ms x → lead left ≡ Some (divide_token over) → r ≡ stop.TooBig (left_of left) → 32 ≤ m → Everywhere depth n ns (λ u h os. Fails old (Operand u h os) r)
full_product old left over depth n m ns ms x r g is e full = λ u h os room fit long count names. subst (λ (z : Stop). Fails old (Operand u h os) z) (sym e) (many_product old left over depth n m ns ms x g is full u h os room fit long count names)

pub lost_divisor : (old left mid : Text Lexeme) (over : Bool) (depth n m : ℕ) (ns ms : List (List ℕ)) (x : code.Expr) (r : Stop) → GoesTerm old left depth n m ns ms x → lead left ≡ Some (divide_token over) → mid ≡ after left → m < 32 → (r ≡ divisor_fault mid) × (has_divisor mid ≡ false) → Everywhere depth n ns (λ u h os. Fails old (Operand u h os) r)
lost_divisor old left mid over depth n m ns ms x r g is e few f = fails_divisor old left over depth n m ns ms x g is r few (subst (λ (z : Text Lexeme). (r ≡ divisor_fault z) × (has_divisor z ≡ false)) e f)

pub more_product : (old left mid new : Text Lexeme) (over : Bool) (depth n m k : ℕ) (ns ms : List (List ℕ)) (x y : code.Expr) → GoesTerm old left depth n m ns ms x → lead left ≡ Some (divide_token over) → mid ≡ after left → m < 32 → Took mid new (Number k) × (fits_number k ≡ true) × (0 < k) → tree y ≡ quotient_tree over (tree x) k → GoesTerm old new depth n (m + 1) ns ms y
more_product old left mid new over depth n m k ns ms x y g is e few t same = goes_product old left over depth n m ns ms x g is k new y few (subst (λ (z : Text Lexeme). Took z new (Number k) × (fits_number k ≡ true) × (0 < k)) e t) same

pub full_sum : (old left : Text Lexeme) (plus : Bool) (depth n m : ℕ) (ns ms : List (List ℕ)) (x : code.Expr) (r : Stop) → GoesExpr old left depth n m ns ms x → lead left ≡ Some (sum_token plus) → r ≡ stop.TooBig (left_of left) → 32 ≤ m → Everywhere depth n ns (λ u h os. h ≡ Begin → Fails old (Operand u Begin os) r)
full_sum old left plus depth n m ns ms x r g is e full = λ u h os room fit long count names q. subst (λ (z : Stop). Fails old (Operand u Begin os) z) (sym e) (many_sum old left plus depth n m ns ms x g is full u h os room fit long count names q)

pub lost_sum : (old left mid : Text Lexeme) (plus : Bool) (depth n m : ℕ) (ns ms : List (List ℕ)) (x : code.Expr) (r : Stop) → GoesExpr old left depth n m ns ms x → lead left ≡ Some (sum_token plus) → mid ≡ after left → m < 32 → Everywhere depth (m + 1) ms (λ u h os. Fails mid (Operand u h os) r) → Everywhere depth n ns (λ u h os. h ≡ Begin → Fails old (Operand u Begin os) r)
lost_sum old left mid plus depth n m ns ms x r g is e few f = fails_sum old left plus depth n m ns ms x g is r few (subst (λ (z : Text Lexeme). Everywhere depth (m + 1) ms (λ u h os. Fails z (Operand u h os) r)) e f)

pub more_sum : (old left mid new : Text Lexeme) (plus : Bool) (depth n m k : ℕ) (ns ms ls : List (List ℕ)) (x y z : code.Expr) → GoesExpr old left depth n m ns ms x → lead left ≡ Some (sum_token plus) → mid ≡ after left → m < 32 → GoesTerm mid new depth (m + 1) k ms ls y → tree z ≡ sum_tree plus (tree x) (tree y) → GoesExpr old new depth n k ns ls z
more_sum old left mid new plus depth n m k ns ms ls x y z g is e few f same = goes_sum old left plus depth n m ns ms x g is k ls new y z few (subst (λ (q : Text Lexeme). GoesTerm q new depth (m + 1) k ms ls y) e f) same
