-- What is not in the table.
use Rattle.std.proofs.Common.{◌≡◌, ℕ, List, true, false, sym, ◌∙◌, subst, Option, Some, None, IfSome, IfNone}
use Rattle.std.proofs.lemmas.Bool.{false≢true}
use Rattle.us_expr.specs.Tree.{Tree, Sum, Difference, Quotient, Remainder}
use Rattle.us_format.specs.Known.{has}
use Rattle.us_known.specs.declared.table.Node.{Node}
use Rattle.us_known.specs.Table.{trees, IsTable}
use Rattle.us_known.proofs.NodeTrees.{no-tree, sum-operands, difference-operands, quotient-operand, remainder-operand}

pub some-weaker : {A : Type 0} (o : Option A) (P Q : A → Type 0) → ((x : A) → P x → Q x) → IfSome o P → IfSome o Q
some-weaker None P Q h p = tt
some-weaker (Some x) P Q h p = h x p

pub none-weaker : {A : Type 0} (o : Option A) (P Q : Type 0) → (P → Q) → IfNone o P → IfNone o Q
none-weaker None P Q h p = h p
none-weaker (Some x) P Q h p = tt

pub none-from : {A : Type 0} (o : Option A) (Q : Type 0) → Q → IfNone o Q
none-from None Q q = q
none-from (Some x) Q q = tt

module _ (ns : List Node) (table : IsTable ns) where
  pub missing : (e a : Tree) → (has (trees ns) e ≡ true → has (trees ns) a ≡ true) → has (trees ns) a ≡ false → has (trees ns) e ≡ false
  missing e a h n = no-tree ns table e (λ k. false≢true (sym n ∙ h k))

  pub no-left_of-sum : (e a b : Tree) → e ≡ Sum a b → has (trees ns) a ≡ false → has (trees ns) e ≡ false
  no-left_of-sum e a b q n = missing e a (λ h. (sum-operands ns table a b (subst (λ (z : Tree). has (trees ns) z ≡ true) q h)).0) n

  pub no-right_of-sum : (e a b : Tree) → e ≡ Sum a b → has (trees ns) b ≡ false → has (trees ns) e ≡ false
  no-right_of-sum e a b q n = missing e b (λ h. (sum-operands ns table a b (subst (λ (z : Tree). has (trees ns) z ≡ true) q h)).1) n

  pub no-left_of-difference : (e a b : Tree) → e ≡ Difference a b → has (trees ns) a ≡ false → has (trees ns) e ≡ false
  no-left_of-difference e a b q n = missing e a (λ h. (difference-operands ns table a b (subst (λ (z : Tree). has (trees ns) z ≡ true) q h)).0) n

  pub no-right_of-difference : (e a b : Tree) → e ≡ Difference a b → has (trees ns) b ≡ false → has (trees ns) e ≡ false
  no-right_of-difference e a b q n = missing e b (λ h. (difference-operands ns table a b (subst (λ (z : Tree). has (trees ns) z ≡ true) q h)).1) n

  pub no-quotient : (e a : Tree) (k : ℕ) → e ≡ Quotient a k → has (trees ns) a ≡ false → has (trees ns) e ≡ false
  no-quotient e a k q n = missing e a (λ h. quotient-operand ns table a k (subst (λ (z : Tree). has (trees ns) z ≡ true) q h)) n

  pub no-remainder : (e a : Tree) (k : ℕ) → e ≡ Remainder a k → has (trees ns) a ≡ false → has (trees ns) e ≡ false
  no-remainder e a k q n = missing e a (λ h. remainder-operand ns table a k (subst (λ (z : Tree). has (trees ns) z ≡ true) q h)) n
