-- Operands of one token.
use Rattle.std.proofs.Common.{◌≡◌, ℕ, ◌≤◌, List, ◌++◌, length, true, refl, sym, ap, ◌∙◌, subst}
use Rattle.us_tokens.specs.Text as text
use Rattle.us_tokens.specs.Text.{Text, after, bytes_of, behind_of}
use Rattle.us_tokens.specs.Front.{Tells}
use Rattle.us_tokens.specs.declared.next.Next.TheVariants as next
use Rattle.us_expr.specs.Tree.{Tree, tree, Variable, RowIndex, ColIndex}
use Rattle.us_expr.specs.Tree as trees
use Rattle.us_expr.specs.declared.expression.Expr as code
use Rattle.us_expr.specs.declared.expression.Expr.TheVariants as expr
use Rattle.us_expr.specs.declared.expression.Expr.TheFolds.{fold-roll-Expr}
use Rattle.us_expr.specs.declared.expression.Expr.TheOpen.{Expr-F}
use Rattle.us_decl.specs.declared.lexeme.Lexeme.{Lexeme}
use Rattle.us_decl.specs.declared.lexeme.Lexeme.TheVariants as lexeme
use Rattle.us_decl.specs.declared.mark.Mark.TheVariants as mark
use Rattle.us_decl.specs.Token.{Fixed, Name, Number}
use Rattle.us_decl.specs.Words.{token}
use Rattle.us_decl.specs.Grammar.{Row, Col, Named, Num}
use Rattle.us_decl.specs.Names.{number_of}
use Rattle.us_decl.specs.Limits.{fits_number}
use Rattle.us_parse.specs.Reads.{Took, GoesLeaf, Knows}
use Rattle.us_decl.proofs.Numbering.{stays}

pub took_kind : (old new : Text Lexeme) (k : Lexeme) → Tells old (next.Token k) → new ≡ after old → Took old new (token k (bytes_of old))
took_kind old new k e is = record { kind = k; bytes = bytes_of old; behind = behind_of old; parts = e ∙ ap (text.Then k (bytes_of old) (behind_of old)) (sym is); is = refl }

pub goes_row : (old new : Text Lexeme) (ns : List (List ℕ)) (k : Lexeme) (e : code.Expr) → Tells old (next.Token k) → k ≡ lexeme.Fixed mark.I → new ≡ after old → length ns ≤ 32 → tree e ≡ RowIndex → GoesLeaf old new ns ns e
goes_row old new ns k e tells kind is known same = record { factor = Row; token = Fixed mark.I; took = took_kind old new _ (subst (λ (x : Lexeme). Tells old (next.Token x)) kind tells) is; steps = λ u h os. refl; node = refl; names = refl; known = known; fits = λ d. refl; is = λ more. sym same }

pub goes_col : (old new : Text Lexeme) (ns : List (List ℕ)) (k : Lexeme) (e : code.Expr) → Tells old (next.Token k) → k ≡ lexeme.Fixed mark.J → new ≡ after old → length ns ≤ 32 → tree e ≡ ColIndex → GoesLeaf old new ns ns e
goes_col old new ns k e tells kind is known same = record { factor = Col; token = Fixed mark.J; took = took_kind old new _ (subst (λ (x : Lexeme). Tells old (next.Token x)) kind tells) is; steps = λ u h os. refl; node = refl; names = refl; known = known; fits = λ d. refl; is = λ more. sym same }

pub goes_number : (old new : Text Lexeme) (ns : List (List ℕ)) (k : ℕ) → Took old new (Number k) × (fits_number k ≡ true) → (e : code.Expr) → length ns ≤ 32 → tree e ≡ trees.Number k → GoesLeaf old new ns ns e
goes_number old new ns k t e known same = record { factor = Num k; token = Number k; took = t.0; steps = λ u h os. refl; node = refl; names = refl; known = known; fits = λ d. t.1; is = λ more. sym same }

-- a variable's number stays
pub number_stays : (old new : Text Lexeme) (ns ms : List (List ℕ)) (v : ℕ) (more : List (List ℕ)) → (k : Knows old new ns ms v) → number_of k.name (ms ++ more) ≡ v
number_stays old new ns ms v more k = ap (λ (x : List (List ℕ)). number_of k.name (x ++ more)) (sym k.names) ∙ stays k.name ns more ∙ sym k.number

pub goes_variable : (old new : Text Lexeme) (ns ms : List (List ℕ)) (v : ℕ) → Knows old new ns ms v → (e : code.Expr) → tree e ≡ Variable v → GoesLeaf old new ns ms e
goes_variable old new ns ms v k e same = record { factor = Named k.name; token = Name k.name; took = k.took; steps = λ u h os. refl; node = refl; names = k.names; known = k.known; fits = λ d. k.fits; is = λ more. ap Variable (number_stays old new ns ms v more k) ∙ sym same }

pub tree_row : tree expr.I ≡ RowIndex
tree_row = ap tree (sym expr.rolls-I) ∙ fold-roll-Expr Tree trees.one_level Expr-F.I

pub tree_col : tree expr.J ≡ ColIndex
tree_col = ap tree (sym expr.rolls-J) ∙ fold-roll-Expr Tree trees.one_level Expr-F.J

pub tree_number : (k : ℕ) → tree (expr.Const k) ≡ trees.Number k
tree_number k = ap tree (sym (expr.rolls-Const k)) ∙ fold-roll-Expr Tree trees.one_level (Expr-F.Const k)

pub tree_variable : (v : ℕ) → tree (expr.Var v) ≡ Variable v
tree_variable v = ap tree (sym (expr.rolls-Var v)) ∙ fold-roll-Expr Tree trees.one_level (Expr-F.Var v)
