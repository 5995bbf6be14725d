-- Blocks, a statement at a time, and the way out of a block.
use Rattle.std.proofs.Common.{◌≡◌, ℕ, ◌+◌, ◌<◌, ◌≤◌, Bool, true, false, ◌&&◌, cond, eqb, List, [], ◌∷◌, Option, Some, None, Result, Ok, Err, refl, sym, ap, ap₂, ◌∙◌, subst, length, get_or, take, drop, arith}
use mathlib.Core.Path.{fun_ext}
use Rattle.std.proofs.lemmas.Bool.Decides.{nat_tests}
use Rattle.std.proofs.lemmas.List.{drop_more, at_drop_all, take-append-drop}
use Rattle.std.specs.Result.{IsErrAnd}
use Rattle.us_code.specs.declared.program.CellKind.{CellKind}
use Rattle.us_code.specs.declared.program.CellKind.TheVariants as kind
use Rattle.us_code.specs.declared.program.Dim.{Dim}
use Rattle.us_code.specs.declared.program.Block.{Block}
use Rattle.us_code.specs.declared.program.Stmt.{Stmt}
use Rattle.us_code.specs.Plain.{TermTree, Code, End, Let, Load, Var, Put, Set, For, Span, If, When, Order, ◌+++◌, plain_list, tree_of, alone}
use Rattle.us_code.specs.Names.{count}
use Rattle.us_code.specs.Run.{put}
use Rattle.us_code.specs.Typing.{RegKind, Context, with_reg, kind_of, cell_of, len_of, fits, sees_buf, sees_dim, outer}
use Rattle.us_code.specs.Unbound.{Break, ◌or◌, unless, broken, broken_in, rule, is_free, sees_term, keeps_flats, keeps_nexts}
use Rattle.us_code.specs.Unbound as unbound
use Rattle.us_code.proofs.Trees.{list_append, tree_list}
use Rattle.us_bounds.specs.declared.stop.Stop.{Stop}
use Rattle.us_bounds.specs.Seen.{without_reg, behind}
use Rattle.us_bounds.specs.Steps.{Leads, Checks, Passes, Ahead}
use Rattle.us_bounds.proofs.Leading.{or_assoc, leads_none, leads_number, leads_seen, leads_done, ahead_as, ahead_end, ahead_stop}

-- ---- one block behind another

pub count_append : (a b : Code) → count (a +++ b) ≡ count a + count b
count_append End b = omega arith
count_append (Let r e rest) b = omega (arith, count_append rest b)
count_append (Load r x at rest) b = omega (arith, count_append rest b)
count_append (Var r e rest) b = omega (arith, count_append rest b)
count_append (Put r e rest) b = omega (arith, count_append rest b)
count_append (Set x at e rest) b = omega (arith, count_append rest b)
count_append (For r d body rest) b = omega (arith, count_append rest b)
count_append (Span r x y d body rest) b = omega (arith, count_append rest b)
count_append (If l eq r body given other rest) b = omega (arith, count_append rest b)
count_append (When e d r body given other rest) b = omega (arith, count_append rest b)
count_append (Order x keys rest) b = omega (arith, count_append rest b)

outer_append : (a b : Code) (g : Context) → outer g (a +++ b) ≡ outer (outer g a) b
outer_append End b g = refl
outer_append (Let r e rest) b g = outer_append rest b _
outer_append (Load r x at rest) b g = outer_append rest b _
outer_append (Var r e rest) b g = outer_append rest b _
outer_append (Put r e rest) b g = outer_append rest b _
outer_append (Set x at e rest) b g = outer_append rest b _
outer_append (For r d body rest) b g = outer_append rest b _
outer_append (Span r x y d body rest) b g = outer_append rest b _
outer_append (If l eq r body given other rest) b g = outer_append rest b _
outer_append (When e d r body given other rest) b g = outer_append rest b _
outer_append (Order x keys rest) b g = outer_append rest b _

behind_append : (a b : Code) (g : Context) → behind (a +++ b) g ≡ behind b (behind a g)
behind_append End b g = refl
behind_append (Let r e rest) b g = behind_append rest b _
behind_append (Load r x at rest) b g = behind_append rest b _
behind_append (Var r e rest) b g = behind_append rest b _
behind_append (Put r e rest) b g = behind_append rest b _
behind_append (Set x at e rest) b g = behind_append rest b _
behind_append (For r d body rest) b g = behind_append rest b _
behind_append (Span r x y d body rest) b g = behind_append rest b _
behind_append (If l eq r body given other rest) b g = behind_append rest b _
behind_append (When e d r body given other rest) b g = behind_append rest b _
behind_append (Order x keys rest) b g = behind_append rest b _

abbrev if_rules : Context → ℕ → TermTree → TermTree → Option Break
if_rules g i l r = broken i (rule 1 (sees_term g l && sees_term g r) ∷ rule 5 (keeps_flats g l && keeps_flats g r) ∷ rule 6 (keeps_nexts g l && keeps_nexts g r) ∷ [])

abbrev when_rules : Context → ℕ → TermTree → Dim → ℕ → Option Break
when_rules g i e d r = broken i (rule 1 (is_free (g.regs r) && (sees_dim g d && sees_term g e)) ∷ rule 5 (keeps_flats g e) ∷ rule 6 (keeps_nexts g e) ∷ [])

-- what a first part of a block breaks, or what the second does
module _ (b : Code) where
  abbrev Splits : Context → ℕ → Code → Type 0
  Splits g i a = broken_in g i (a +++ b) ≡ broken_in g i a or broken_in (outer g a) (i + count a) b

  -- behind what one statement breaks
  one : (o : Option Break) (g : Context) (i n k : ℕ) (rest : Code) → n + count rest ≡ i + k → Splits g n rest → o or broken_in g n (rest +++ b) ≡ (o or broken_in g n rest) or broken_in (outer g rest) (i + k) b
  one o g i n k rest e s =
      ap (λ (x : Option Break). o or x) (s ∙ ap (λ (m : ℕ). broken_in g n rest or broken_in (outer g rest) m b) e)
      ∙ sym (or_assoc o (broken_in g n rest) (broken_in (outer g rest) (i + k) b))

  two : (o p : Option Break) (g : Context) (i n k : ℕ) (rest : Code) → n + count rest ≡ i + k → Splits g n rest → o or (p or broken_in g n (rest +++ b)) ≡ (o or (p or broken_in g n rest)) or broken_in (outer g rest) (i + k) b
  two o p g i n k rest e s =
      ap (λ (x : Option Break). o or x) (one p g i n k rest e s)
      ∙ sym (or_assoc o (p or broken_in g n rest) (broken_in (outer g rest) (i + k) b))

  three : (o p q : Option Break) (g : Context) (i n k : ℕ) (rest : Code) → n + count rest ≡ i + k → Splits g n rest → o or (p or (q or broken_in g n (rest +++ b))) ≡ (o or (p or (q or broken_in g n rest))) or broken_in (outer g rest) (i + k) b
  three o p q g i n k rest e s =
      ap (λ (x : Option Break). o or x) (two p q g i n k rest e s)
      ∙ sym (or_assoc o (p or (q or broken_in g n rest)) (broken_in (outer g rest) (i + k) b))

  broken_append : (a : Code) (g : Context) (i : ℕ) → Splits g i a
  broken_append End g i = ap (λ (n : ℕ). broken_in g n b) (omega arith)
  broken_append (Let r e rest) g i = one _ _ i (i + 1) (1 + count rest) rest (omega arith) (broken_append rest _ (i + 1))
  broken_append (Load r x at rest) g i = one _ _ i (i + 1) (1 + count rest) rest (omega arith) (broken_append rest _ (i + 1))
  broken_append (Var r e rest) g i = one _ _ i (i + 1) (1 + count rest) rest (omega arith) (broken_append rest _ (i + 1))
  broken_append (Put r e rest) g i = one _ _ i (i + 1) (1 + count rest) rest (omega arith) (broken_append rest _ (i + 1))
  broken_append (Set x at e rest) g i = one _ _ i (i + 1) (1 + count rest) rest (omega arith) (broken_append rest _ (i + 1))
  broken_append (For r d body rest) g i = two _ _ g i (i + 1 + count body) (1 + count body + count rest) rest (omega arith) (broken_append rest g _)
  broken_append (Span r x y d body rest) g i = two _ _ g i (i + 1 + count body) (1 + count body + count rest) rest (omega arith) (broken_append rest g _)
  broken_append (If l eq r body given other rest) g i = three (if_rules g i l r) (broken_in g (i + 1) body) (broken_in g (i + 1 + count body) other) g i (i + 1 + count body + count other) (1 + count body + count other + count rest) rest (omega arith) (broken_append rest g _)
  broken_append (When e d r body given other rest) g i = three (when_rules g i e d r) (broken_in (with_reg g r false (kind.Below d)) (i + 1) body) (broken_in g (i + 1 + count body) other) g i (i + 1 + count body + count other) (1 + count body + count other + count rest) rest (omega arith) (broken_append rest g _)
  broken_append (Order x keys rest) g i = one _ _ i (i + 1) (1 + count rest) rest (omega arith) (broken_append rest _ (i + 1))

-- ---- one statement of a list, and those behind it

list_first : (s : Stmt) (ss : List Stmt) → plain_list (s ∷ ss) ≡ alone s +++ plain_list ss
unfolding plain_list alone
list_first s ss = list_append (s ∷ []) ss

drop_first : (xs : List Stmt) (k : ℕ) (s : Stmt) → k < length xs → s ≡ get_or xs k s → plain_list (drop k xs) ≡ alone s +++ plain_list (drop (k + 1) xs)
drop_first xs k s h e = ap plain_list (drop_more xs k s h) ∙ (ap (λ (x : Stmt). plain_list (x ∷ drop (k + 1) xs)) (sym e) ∙ list_first s (drop (k + 1) xs))

pub block_start : (g : Context) (i : ℕ) (b : Block) (xs : List Stmt) → tree_of b ≡ plain_list xs → Ahead (broken_in g i (tree_of b)) (broken_in g i (plain_list (drop 0 xs))) (i + count (tree_of b)) (i + count (plain_list (drop 0 xs))) (outer g (tree_of b)) (outer g (plain_list (drop 0 xs)))
block_start g i b xs e = record { breaks = ap (broken_in g i) e; number = ap (λ (c : Code). i + count c) e; seen = ap (outer g) e }

-- the room for a statement
pub block_room : {o o' : Option Break} {m : ℕ} {h h' : Context} (n : ℕ) (xs : List Stmt) (k : ℕ) (s : Stmt) → k < length xs → s ≡ get_or xs k s → Ahead o o' m (n + count (plain_list (drop k xs))) h h' → m ≤ 65536 → n + count (alone s) ≤ 65536
block_room n xs k s h e a l =
    let c = ap count (drop_first xs k s h e) ∙ count_append (alone s) (plain_list (drop (k + 1) xs)) in
    omega (arith, c, a.number)

-- a statement of a block counts no more than the block
pub block_count : (xs : List Stmt) (k : ℕ) (s : Stmt) (b : Block) → k < length xs → s ≡ get_or xs k s → xs ≡ b.stmts → count (alone s) ≤ count (tree_of b)
block_count xs k s b lt same e =
    let whole = tree_list b ∙ (ap plain_list (sym e) ∙ (ap plain_list (sym (take-append-drop k xs)) ∙ list_append (take k xs) (drop k xs))) in
    let n = ap count whole ∙ count_append (plain_list (take k xs)) (plain_list (drop k xs)) in
    let d = ap count (drop_first xs k s lt same) ∙ count_append (alone s) (plain_list (drop (k + 1) xs)) in
    omega (arith, n, d)

module _ {o : Option Break} {m : ℕ} {h : Context} (xs : List Stmt) (k : ℕ) (s : Stmt) (lt : k < length xs) (same : s ≡ get_or xs k s) (g : Context) (i : ℕ)
    (a : Ahead o (broken_in g i (plain_list (drop k xs))) m (i + count (plain_list (drop k xs))) h (outer g (plain_list (drop k xs)))) where
  rest : Code
  rest = plain_list (drop (k + 1) xs)

  -- the rest split at its first statement
  cut : Ahead o (broken_in g i (alone s) or broken_in (outer g (alone s)) (i + count (alone s)) rest) m (i + count (alone s) + count rest) h (outer (outer g (alone s)) rest)
  unfolding rest
  cut =
      ahead_as a (ap (broken_in g i) (drop_first xs k s lt same) ∙ broken_append rest (alone s) g i)
      (ap (λ (c : Code). i + count c) (drop_first xs k s lt same) ∙ (ap (λ (n : ℕ). i + n) (count_append (alone s) rest) ∙ omega arith))
      (ap (outer g) (drop_first xs k s lt same) ∙ outer_append (alone s) rest g)

  pub block_more : (new : Context) (n : ℕ) → Checks g i (alone s) new (Ok n) → Ahead o (broken_in new n (plain_list (drop (k + 1) xs))) m (n + count (plain_list (drop (k + 1) xs))) h (outer new (plain_list (drop (k + 1) xs)))
  unfolding rest
  block_more new n l =
      ahead_as cut
      (ap (λ (x : Option Break). x or broken_in (outer g (alone s)) (i + count (alone s)) rest) (leads_none l) ∙ ap₂ (λ (x : Context) (y : ℕ). broken_in x y rest) (sym (leads_seen l)) (sym (leads_number l)))
      (ap (λ (x : ℕ). x + count rest) (sym (leads_number l)))
      (ap (λ (x : Context). outer x rest) (sym (leads_seen l)))

  pub block_stop : (new new' : Context) (r : Result ℕ Stop) {e : Stop} → IsErrAnd r (λ y. y ≡ e) → Checks g i (alone s) new (Err e) → Leads o m h new' r
  block_stop new new' r x l = ahead_stop (broken_in (outer g (alone s)) (i + count (alone s)) rest) new' r x cut l

pub block_end : {o : Option Break} {m n : ℕ} {h new : Context} (xs : List Stmt) (k : ℕ) → length xs ≤ k → Ahead o (broken_in new n (plain_list (drop k xs))) m (n + count (plain_list (drop k xs))) h (outer new (plain_list (drop k xs))) → Leads o m h new (Ok n)
unfolding plain_list
block_end {o} {m} {n} {h} {new} xs k e a =
    ahead_end (ahead_as a (at_drop_all (λ (l : List Stmt). broken_in new n (plain_list l)) xs k e)
    (at_drop_all (λ (l : List Stmt). n + count (plain_list l)) xs k e ∙ omega arith)
    (at_drop_all (λ (l : List Stmt). outer new (plain_list l)) xs k e))

-- ---- out of a block

pub behind_more : (xs : List Stmt) (k : ℕ) (s : Stmt) (h now new : Context) → k < length xs → s ≡ get_or xs k s → h ≡ behind (plain_list (drop k xs)) now → new ≡ behind (alone s) now → h ≡ behind (plain_list (drop (k + 1) xs)) new
behind_more xs k s h now new lt same a b =
    a ∙ (ap (λ (c : Code). behind c now) (drop_first xs k s lt same) ∙ (behind_append (alone s) (plain_list (drop (k + 1) xs)) now ∙ ap (behind (plain_list (drop (k + 1) xs))) (sym b)))

pub behind_end : (xs : List Stmt) (k : ℕ) (h now : Context) → length xs ≤ k → h ≡ behind (plain_list (drop k xs)) now → now ≡ h
unfolding plain_list
behind_end xs k h now e a = sym (a ∙ at_drop_all (λ (l : List Stmt). behind (plain_list l) now) xs k e)

regs_as : Context → (ℕ → Option RegKind) → Context
regs_as g f = record { sources = g.sources; regs = f; bufs = g.bufs; dims = g.dims }

-- two registers are taken away in either order
without_swap : (g : Context) (r q : ℕ) → without_reg (without_reg g r) q ≡ without_reg (without_reg g q) r
unfolding put regs_as
without_swap g r q = ap (regs_as g) (fun_ext (λ x. swap (eqb q x) (eqb r x) (g.regs x)))
  where
    swap : (a b : Bool) (o : Option RegKind) → cond a None (cond b None o) ≡ cond b None (cond a None o)
    swap true true o = refl
    swap true false o = refl
    swap false b o = refl

behind_swap : (c : Code) (g : Context) (q : ℕ) → behind c (without_reg g q) ≡ without_reg (behind c g) q
behind_swap End g q = refl
behind_swap (Let r e rest) g q = ap (behind rest) (without_swap g q r) ∙ behind_swap rest (without_reg g r) q
behind_swap (Load r b at rest) g q = ap (behind rest) (without_swap g q r) ∙ behind_swap rest (without_reg g r) q
behind_swap (Var r e rest) g q = ap (behind rest) (without_swap g q r) ∙ behind_swap rest (without_reg g r) q
behind_swap (Put r e rest) g q = behind_swap rest g q
behind_swap (Set b at e rest) g q = behind_swap rest g q
behind_swap (For r d body rest) g q = behind_swap rest g q
behind_swap (Span r x y d body rest) g q = behind_swap rest g q
behind_swap (If l eq r body given other rest) g q = behind_swap rest g q
behind_swap (When e d r body given other rest) g q = behind_swap rest g q
behind_swap (Order b keys rest) g q = behind_swap rest g q

free_none : (o : Option RegKind) → is_free o ≡ true → o ≡ None
free_none None h = refl
free_none (Some x) h = absurd cc

-- a free register comes and goes
pub comes_and_goes : (g : Context) (r : ℕ) (v : Bool) (k : CellKind) → is_free (g.regs r) ≡ true → without_reg (with_reg g r v k) r ≡ g
unfolding put regs_as
comes_and_goes g r v k h = ap (regs_as g) (fun_ext (λ x. back x (eqb r x) refl))
  where
    back : (x : ℕ) (b : Bool) → eqb r x ≡ b → cond b None (cond b (Some record { is_var = v; kind = k }) (g.regs x)) ≡ g.regs x
    back x true e = let same : r ≡ x = grind (arith, nat_tests, e) in sym (ap g.regs (sym same) ∙ free_none (g.regs r) h)
    back x false e = refl

or_left : (x y : Option Break) → x or y ≡ None → x ≡ None
or_left None y h = refl
or_left (Some a) y h = absurd cc

or_right : (x y : Option Break) → x or y ≡ None → y ≡ None
or_right None y h = h
or_right (Some a) y h = absurd cc

pub and_left : (a b : Bool) → a && b ≡ true → a ≡ true
and_left true b h = refl
and_left false b h = absurd cc

free_first : (i : ℕ) (a b : Bool) (rs : List unbound.Rule) (o : Option Break) → broken i (rule 1 (a && b) ∷ rs) or o ≡ None → a ≡ true
free_first i true b rs o h = refl
free_first i false b rs o h = absurd cc

new_reg : (g : Context) (r : ℕ) (v : Bool) (k : CellKind) (rest : Code) → is_free (g.regs r) ≡ true → behind rest (outer (with_reg g r v k) rest) ≡ with_reg g r v k → behind rest (without_reg (outer (with_reg g r v k) rest) r) ≡ g
new_reg g r v k rest f so = behind_swap rest (outer (with_reg g r v k) rest) r ∙ (ap (λ (x : Context). without_reg x r) so ∙ comes_and_goes g r v k f)

-- behind a block that breaks no rule all is as before
restored : (g : Context) (i : ℕ) (c : Code) → broken_in g i c ≡ None → behind c (outer g c) ≡ g
restored g i End h = refl
restored g i (Let r e rest) h =
    let h2 : Context = with_reg g r false (kind_of g e) in
    let more = broken_in h2 (i + 1) rest in
    new_reg g r _ _ rest (free_first i (is_free (g.regs r)) (sees_term g e) (rule 5 (keeps_flats g e) ∷ rule 6 (keeps_nexts g e) ∷ []) more h) (restored h2 (i + 1) rest (or_right _ more h))
restored g i (Load r b at rest) h =
    let h2 : Context = with_reg g r false (cell_of g b) in
    let more = broken_in h2 (i + 1) rest in
    new_reg g r _ _ rest (free_first i (is_free (g.regs r)) (sees_buf g b && sees_term g at) (rule 2 (fits (kind_of g at) (len_of g b)) ∷ rule 5 (keeps_flats g at) ∷ rule 6 (keeps_nexts g at) ∷ []) more h) (restored h2 (i + 1) rest (or_right _ more h))
restored g i (Var r e rest) h =
    let h2 : Context = with_reg g r true kind.Word in
    let more = broken_in h2 (i + 1) rest in
    new_reg g r _ _ rest (free_first i (is_free (g.regs r)) (sees_term g e) (rule 5 (keeps_flats g e) ∷ rule 6 (keeps_nexts g e) ∷ []) more h) (restored h2 (i + 1) rest (or_right _ more h))
restored g i (Put r e rest) h = restored g (i + 1) rest (or_right _ (broken_in g (i + 1) rest) h)
restored g i (Set b at e rest) h = restored g (i + 1) rest (or_right _ (broken_in g (i + 1) rest) h)
restored g i (For r d body rest) h =
    let more = broken_in g (i + 1 + count body) rest in
    restored g (i + 1 + count body) rest (or_right _ more (or_right _ (_ or more) h))
restored g i (Span r x y d body rest) h =
    let more = broken_in g (i + 1 + count body) rest in
    restored g (i + 1 + count body) rest (or_right _ more (or_right _ (_ or more) h))
restored g i (If l eq r body given other rest) h =
    let first = broken_in g (i + 1) body in
    let second = broken_in g (i + 1 + count body) other in
    let more = broken_in g (i + 1 + count body + count other) rest in
    restored g (i + 1 + count body + count other) rest (or_right second more (or_right first (second or more) (or_right _ (first or (second or more)) h)))
restored g i (When e d r body given other rest) h =
    let first = broken_in (with_reg g r false (kind.Below d)) (i + 1) body in
    let second = broken_in g (i + 1 + count body) other in
    let more = broken_in g (i + 1 + count body + count other) rest in
    restored g (i + 1 + count body + count other) rest (or_right second more (or_right first (second or more) (or_right _ (first or (second or more)) h)))
restored g i (Order b keys rest) h = restored g (i + 1) rest (or_right _ (broken_in g (i + 1) rest) h)

pub block_left : (g now left : Context) (i n : ℕ) (b : Block) (xs : List Stmt) → tree_of b ≡ plain_list xs → Checks g i (tree_of b) now (Ok n) → left ≡ behind (plain_list xs) now → Passes g i (tree_of b) left (Ok n)
block_left g now left i n b xs e l q =
    leads_done (leads_none l) (leads_number l)
    (q ∙ (ap (λ (c : Code). behind c now) (sym e) ∙ (ap (behind (tree_of b)) (leads_seen l) ∙ restored g i (tree_of b) (leads_none l))))

pub block_room_of : (i : ℕ) {a b : Code} → a ≡ b → i + count a ≤ 65536 → i + count b ≤ 65536
block_room_of i {a} {b} e h = subst (λ (c : Code). i + count c ≤ 65536) e h

-- what is checked of a statement's tree is checked of the statement
pub as_stmt : (g : Context) (i : ℕ) {a b : Code} (new : Context) (r : Result ℕ Stop) → a ≡ b → Checks g i b new r → Checks g i a new r
as_stmt g i {a} {b} new r e h = subst (λ (c : Code). Checks g i c new r) (sym e) h

-- behind a block with a register of its own
pub scope_done : (g g1 now new : Context) (r : ℕ) (k : CellKind) (i n : ℕ) (c : Code) → is_free (g.regs r) ≡ true → g1 ≡ with_reg g r false k → Passes g1 i c now (Ok n) → new ≡ without_reg now r → Leads (broken_in (with_reg g r false k) i c) (i + count c) g new (Ok n)
scope_done g g1 now new r k i n c f e l q =
    leads_done (ap (λ (x : Context). broken_in x i c) (sym e) ∙ leads_none l) (leads_number l)
    (q ∙ (ap (λ (x : Context). without_reg x r) (leads_seen l ∙ e) ∙ comes_and_goes g r false k f))
