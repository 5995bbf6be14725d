-- A program that was read keeps the limits.
use Rattle.std.proofs.Common.{◌≡◌, ◌<◌, ◌≤◌, ℕ, zero, suc, ◌+◌, ◌-◌, ◌^◌, List, [], ◌∷◌, ◌++◌, Bool, true, false, cond, ltb, ◌&&◌, max, length, Option, Some, None, refl, sym, ap, ◌∙◌, arith, lit≤, subst}
use Rattle.std.proofs.lemmas.Bool.Decides.{nat_tests}
use Rattle.us_tokens.specs.Text.{Text}
use Rattle.us_grammar.specs.Grammar.{Fixed, Part, Row, Pick, Values, Next, Spells, Empties, opened, past, behind, append_left, append_right, with_row, pick, expand, step, flows}
use Rattle.us_grammar.specs.Reading.{Lexeme as Placed}
use Rattle.us_grammar.specs.Reading.{Read, answer, IsRead, Means, breaks, broken_at, or_else, tokens_of}
use Rattle.us_grammar.proofs.Bools.{and_left, and_right, some_is, some_none}
use Rattle.us_grammar.proofs.Law.{taken}
use Rattle.us_grammar.proofs.Reading.{answer_means}
use Rattle.us_code.specs.declared.program.Dim.{Dim}
use Rattle.us_code.specs.declared.program.Dim.TheVariants as dim
use Rattle.us_code.specs.declared.program.Buf.{Buf}
use Rattle.us_code.specs.declared.program.Buf.TheVariants as buf
use Rattle.us_code.specs.declared.program.CellKind.{CellKind}
use Rattle.us_code.specs.declared.program.CellKind.TheVariants as cell
use Rattle.us_code.specs.declared.program.Make.{Make}
use Rattle.us_code.specs.Names.{count}
use Rattle.us_code.specs.Plain as tree
use Rattle.us_code.specs.Plain.{ProgramTree, TermTree, Code, LineTree, PhaseTree}
use Rattle.us_code.specs.Limits.{nodes, parens, depth, items, FitsDim, FitsNumbers, FitsTerm, FitsTerms, FitsMakes, FitsLine, FitsLines, FitsPhases, KeepsLimits}
use Rattle.us_code_table.specs.declared.mark.Mark.TheVariants as m
use Rattle.us_code_table.specs.declared.note.Note.TheVariants.{Free, SourceCount, ListName, Item, Node}
use Rattle.us_code_table.specs.declared.lexeme.Lexeme.{Lexeme}
use Rattle.us_code_table.specs.declared.lexeme.Lexeme.TheVariants as lexeme
use Rattle.us_code_table.specs.Words.{token}
use Rattle.us_code_table.specs.Table.{Class, Word, ARegister, ABuffer, ASource, ADimName, ALength, AZero, AOne, AMany, Token, Nonterminal, Whole, Phases, Gives, MoreGives, GiveName, Makes, Kind, DimOrNumber, DimLines, LineTail, Behind, BlockPart, Stmts, LetTail, ForTail, Relation, Else, Keys, MoreKeys, Key, Register, DimName, NewBuffer, Divisor, Sum, SumTail, Product, ProductTail, Atom, Given, Computed, Loaded, Bound, Upto, Spanned, Shape, Takes, Times, Follows, Operator, ByDim, ByOne, Value, same, on, number, dims, atoms, products, sums, keys, choices, empty, grammar}
use Rattle.us_code_table.specs.Table as table
use Rattle.us_code_table.specs.Limits.{Break, TooBig, Count, measure, check, counts_fit, value_fits, limits, nothing}
use Rattle.us_code_table.proofs.Sound as sound
use Rattle.us_code_print.specs.ReadBack.{NamedTerm, NamedBuf, NamedBufs, GivenElse, Named, NamedMakes, NamedLine, NamedLines, NamedPhases, NamedNumbers, IsNamed}
use Rattle.us_code_print.proofs.Front.{Within}
use Rattle.us_code_print.proofs.ReadBlocks.{depth_some}

-- What each part says of its value and of the counts before and behind it

abbrev FitsCell : CellKind → Type 0
FitsCell cell.Word = Unit {0}
FitsCell (cell.Below d) = FitsDim d

abbrev GivenFacts : Given → Type 0
GivenFacts (Computed e) = NamedTerm e × FitsTerm e
GivenFacts (Loaded b e) = NamedBuf b × NamedTerm e × FitsTerm e

abbrev BlockFacts : Code → Count → Count → Type 0
BlockFacts c m w = Named c × FitsTerms c × (m.items + count c ≤ w.items) × (m.braces + 1 + depth c ≤ 67)

abbrev BoundFacts : Bound → Count → Count → Type 0
BoundFacts (Upto d c) m w = FitsDim d × BlockFacts c m w
BoundFacts (Spanned a b d c) m w = NamedTerm a × FitsTerm a × NamedTerm b × FitsTerm b × FitsDim d × BlockFacts c m w

abbrev ShapeFacts : Shape → Type 0
ShapeFacts (Takes e) = NamedTerm e × FitsTerm e
ShapeFacts (Times a b) = FitsDim a × FitsDim b
ShapeFacts (Follows a) = FitsDim a

abbrev OperatorFacts : Operator → Type 0
OperatorFacts (ByDim d) = FitsDim d
OperatorFacts ByOne = Unit {0}

abbrev ElseFacts : Option Code → Count → Count → Type 0
ElseFacts None m w = Unit {0}
ElseFacts (Some c) m w = BlockFacts c m w

-- a term that so many nodes and parentheses allow, at a place of this kind
abbrev TermFacts : ℕ → TermTree → ℕ → ℕ → ℕ → Type 0
TermFacts place e before after open_parens = NamedTerm e × FitsNumbers e × (before + nodes e ≤ after) × (open_parens + parens place e ≤ 64)

abbrev Facts : (n : Nonterminal) → Value n → Count → Count → Type 0
Facts Whole p m w = KeepsLimits p × IsNamed p
Facts table.Count k m w = k ≤ 4096
Facts Phases ps m w = 1 ≤ m.braces → NamedPhases ps × FitsPhases ps × (m.items + items ps ≤ w.items)
Facts Gives bs m w = NamedNumbers bs × (m.names + length bs ≤ w.names)
Facts MoreGives bs m w = NamedNumbers bs × (m.names + length bs ≤ w.names)
Facts GiveName b m w = (b < 2 ^ 32) × (m.names + 1 ≤ w.names)
Facts Makes ms m w = NamedMakes ms × FitsMakes ms × (m.items + length ms ≤ w.items)
Facts Kind x m w = FitsCell x
Facts DimOrNumber d m w = FitsDim d × (m.nodes ≤ w.nodes)
Facts DimLines ls m w = NamedLines ls × FitsLines ls × (m.items + length ls ≤ w.items)
Facts LineTail x m w = ShapeFacts x
Facts Behind x m w = OperatorFacts x
Facts BlockPart c m w = BlockFacts c m w
Facts Stmts c m w = Named c × FitsTerms c × (m.items + count c ≤ w.items) × (m.braces + depth c ≤ 67)
Facts LetTail x m w = GivenFacts x
Facts ForTail x m w = BoundFacts x m w
Facts Relation b m w = Unit {0}
Facts Else o m w = ElseFacts o m w
Facts Keys xs m w = (1 ≤ length xs) × NamedBufs xs × (m.names + length xs ≤ w.names)
Facts MoreKeys xs m w = NamedBufs xs × (m.names + length xs ≤ w.names)
Facts Key x m w = NamedBuf x × (m.names + 1 ≤ w.names)
Facts Register r m w = r < 2 ^ 32
Facts DimName d m w = (d < 2 ^ 32) × (m.nodes ≤ w.nodes)
Facts NewBuffer b m w = b < 2 ^ 32
Facts Divisor k m w = (0 < k) × (k < 2 ^ 63) × (m.nodes ≤ w.nodes)
Facts Sum e m w = TermFacts 0 e m.nodes w.nodes m.parens
Facts SumTail f m w = (n : ℕ) (e : TermTree) → TermFacts 0 e n m.nodes m.parens → TermFacts 0 (f e) n w.nodes m.parens
Facts Product e m w = TermFacts 1 e m.nodes w.nodes m.parens
Facts ProductTail f m w = (n : ℕ) (e : TermTree) → TermFacts 1 e n m.nodes m.parens → TermFacts 1 (f e) n w.nodes m.parens
Facts Atom e m w = TermFacts 2 e m.nodes w.nodes m.parens

record Step (m w : Count) (P : Type 0) : Type 0 where
  within : Within w
  parens_same : w.parens ≡ m.parens
  braces_same : w.braces ≡ m.braces
  items_more : m.items ≤ w.items
  facts : P

abbrev Cost : (n : Nonterminal) → Value n → Count → Count → Type 0
Cost n v a w = Within a → Step a w (Facts n v a w)

abbrev tok : Class → ℕ → Token
tok c v = record { class = c; value = v }

-- a row is passed with its values, from some counts to others
abbrev Passes : (s : Row grammar) → Values grammar s → Count → Count → Type 0
Passes [] vs a w = a ≡ w
Passes (Fixed c ∷ s) vs a w = (v : ℕ) × (check (measure a None (tok c v)) (tok c v) ≡ None) × Passes s vs (measure a None (tok c v)) w
Passes (Part n ∷ s) vs a w = (u : Count) × Cost n vs.0 a u × Passes s vs.1 u w

-- the values of numbers, as the lexer tells them apart
abbrev Fine : Class → ℕ → Type 0
Fine AZero v = v ≡ 0
Fine AOne v = v ≡ 1
Fine AMany v = 2 ≤ v
Fine _ v = Unit {0}

abbrev Good : (n : Nonterminal) → Pick grammar n → Type 0
Good n x = (v : ℕ) (a w : Count) (vs : Values grammar x.rest) → Fine x.first v → check (measure a (Some x.note) (tok x.first v)) (tok x.first v) ≡ None → Passes x.rest vs (measure a (Some x.note) (tok x.first v)) w → Cost n (x.value (tok x.first v) vs) a w

abbrev AllGood : (n : Nonterminal) → List (Pick grammar n) → Type 0
AllGood n [] = Unit {0}
AllGood n (x ∷ xs) = Good n x × AllGood n xs

passes_split : (r s : Row grammar) (vs : Values grammar (r ++ s)) (a w : Count) → Passes (r ++ s) vs a w → (u : Count) × Passes r (append_left Value r s vs) a u × Passes s (append_right Value r s vs) u w
passes_split [] s vs a w p = (a, refl, p)
passes_split (Fixed c ∷ r) s vs a w p = let q = passes_split r s vs (measure a None (tok c p.0)) w p.2 in (q.0, (p.0, p.1, q.1), q.2)
passes_split (Part n ∷ r) s vs a w p = let q = passes_split r s vs.1 p.0 w p.2 in (q.0, (p.0, p.1, q.1), q.2)

with_row_good : (o n : Nonterminal) (r : Row grammar) (f : Value o → Values grammar r → Value n) (xs : List (Pick grammar o)) → ((e : Value o) (vs : Values grammar r) (a u w : Count) → Cost o e a u → Passes r vs u w → Cost n (f e vs) a w)
    → AllGood o xs → AllGood n (with_row r f xs)
with_row_good o n r f [] go g = tt
with_row_good o n r f (x ∷ xs) go g = (
  (λ v a w vs fine chk p.
      let q = passes_split x.rest r vs (measure a (Some x.note) (tok x.first v)) w p in
      go (x.value (tok x.first v) (append_left Value x.rest r vs)) (append_right Value x.rest r vs) a q.0 w (g.0 v a q.0 (append_left Value x.rest r vs) fine chk q.1) q.2),
  with_row_good o n r f xs go g.1,
)

-- What a token tells that was within the limits

below_limit : (a b : ℕ) → ltb a b ≡ true → a < b
below_limit a b h = grind (arith, nat_tests)

passed_test : (b : Bool) → cond b None (Some TooBig) ≡ None → b ≡ true
passed_test true e = refl
passed_test false e = absurd cc

counts_within : (c : Count) → counts_fit c ≡ true → Within c
counts_within c e =
    let b1 = and_right (ltb c.items 65537) _ e in
    let b2 = and_right (ltb c.braces 67) _ b1 in
    let b3 = and_right (ltb c.nodes 257) _ b2 in
    let b4 = and_right (ltb c.parens 65) _ b3 in
    record {
      items = let h = below_limit c.items 65537 (and_left _ _ e) in omega (arith, h);
      braces = let h = below_limit c.braces 67 (and_left _ _ b1) in omega (arith, h);
      nodes = let h = below_limit c.nodes 257 (and_left _ _ b2) in omega (arith, h);
      parens = let h = below_limit c.parens 65 (and_left _ _ b3) in omega (arith, h);
      names = let h = below_limit c.names 4097 (and_left _ _ b4) in omega (arith, h);
      sources = let h = below_limit c.sources 4097 (and_right (ltb c.names 4097) _ b4) in omega (arith, h);
    }

checked : (c : Count) (t : Token) → check c t ≡ None → Within c
checked c t e = counts_within c (and_left (counts_fit c) (value_fits t.class t.value) (passed_test (counts_fit c && value_fits t.class t.value) e))

value_checked : (c : Count) (t : Token) → check c t ≡ None → value_fits t.class t.value ≡ true
value_checked c t e = and_right (counts_fit c) (value_fits t.class t.value) (passed_test (counts_fit c && value_fits t.class t.value) e)

name_checked : (c : Count) (k : Class) (v : ℕ) → check c (tok k v) ≡ None → value_fits k v ≡ ltb v 4294967296 → v < 2 ^ 32
name_checked c k v e is = below_limit v 4294967296 (sym is ∙ value_checked c (tok k v) e)

ends : (n : Nonterminal) (v : Value n) (a u w : Count) → u ≡ w → Step a u (Facts n v a u) → Step a w (Facts n v a w)
ends n v a u w e s = subst (λ (z : Count). Step a z (Facts n v a z)) e s

le_self : (n : ℕ) → n ≤ n
le_self n = omega arith

no_parens : (q : ℕ) → q ≤ 64 → q + 0 ≤ 64
no_parens q h = omega arith

parens_atom : (e : TermTree) → parens 2 e ≤ suc (parens 0 e)
parens_atom (tree.Number n) = lit≤ tt
parens_atom (tree.Reg r) = lit≤ tt
parens_atom (tree.Size d) = lit≤ tt
parens_atom (tree.Flat d x z) = omega arith
parens_atom (tree.Next d x) = omega arith
parens_atom (tree.Up d x) = omega arith
parens_atom (tree.Add x z) = le_self _
parens_atom (tree.Sub x z) = le_self _
parens_atom (tree.Mul x z) = le_self _
parens_atom (tree.Div x k) = le_self _
parens_atom (tree.Rem x k) = le_self _

parens_product : (e : TermTree) → parens 1 e ≤ parens 2 e
parens_product (tree.Number n) = le_self _
parens_product (tree.Reg r) = le_self _
parens_product (tree.Size d) = le_self _
parens_product (tree.Flat d x z) = le_self _
parens_product (tree.Next d x) = le_self _
parens_product (tree.Up d x) = le_self _
parens_product (tree.Add x z) = le_self _
parens_product (tree.Sub x z) = le_self _
parens_product (tree.Mul x z) = omega arith
parens_product (tree.Div x k) = omega arith
parens_product (tree.Rem x k) = omega arith

parens_sum : (e : TermTree) → parens 0 e ≤ parens 1 e
parens_sum (tree.Number n) = le_self _
parens_sum (tree.Reg r) = le_self _
parens_sum (tree.Size d) = le_self _
parens_sum (tree.Flat d x z) = le_self _
parens_sum (tree.Next d x) = le_self _
parens_sum (tree.Up d x) = le_self _
parens_sum (tree.Add x z) = omega arith
parens_sum (tree.Sub x z) = omega arith
parens_sum (tree.Mul x z) = le_self _
parens_sum (tree.Div x k) = le_self _
parens_sum (tree.Rem x k) = le_self _

zero_small : (v : ℕ) → v ≡ 0 → v < 2 ^ 63
zero_small v e = omega arith

one_small : (v : ℕ) → v ≡ 1 → v < 2 ^ 63
one_small v e = omega arith

many_small : (c : Count) (v : ℕ) → check c (tok AMany v) ≡ None → v < 2 ^ 63
many_small c v e = below_limit v 9223372036854775808 (value_checked c (tok AMany v) e)

-- Operands

leaf : (v : ℕ) (k : Class) (e : TermTree) (a w : Count) → nodes e ≡ 1 → parens 2 e ≡ 0 → NamedTerm e → FitsNumbers e → Within (measure a (Some Node) (tok k v)) → Within a → (measure a (Some Node) (tok k v)).parens ≡ a.parens → (measure a (Some Node) (tok k v)).braces ≡ a.braces
    → measure a (Some Node) (tok k v) ≡ w → Cost Atom e a w
leaf v k e a w one flat_ named numbers within at parens_is braces_is end here =
    ends Atom e a (measure a (Some Node) (tok k v)) w end record {
      within = within;
      parens_same = parens_is;
      braces_same = braces_is;
      items_more = le_self a.items;
      facts = (named, numbers, omega (arith, one), let h = here.parens in omega (arith, h, flat_));
    }

reg_good : Good Atom (on ARegister [] Node (λ t _. tree.Reg t.value))
reg_good v a w vs fine chk p here = let b = measure a (Some Node) (tok ARegister v) in leaf v ARegister (tree.Reg v) a w refl refl (name_checked b ARegister v chk refl) tt (checked b (tok ARegister v) chk) here refl refl p here

zero_good : Good Atom (on AZero [] Node (λ t _. tree.Number t.value))
zero_good v a w vs fine chk p here = leaf v AZero (tree.Number v) a w refl refl tt (zero_small v fine) (checked (measure a (Some Node) (tok AZero v)) (tok AZero v) chk) here refl refl p here

one_good : Good Atom (on AOne [] Node (λ t _. tree.Number t.value))
one_good v a w vs fine chk p here = leaf v AOne (tree.Number v) a w refl refl tt (one_small v fine) (checked (measure a (Some Node) (tok AOne v)) (tok AOne v) chk) here refl refl p here

many_good : Good Atom (on AMany [] Node (λ t _. tree.Number t.value))
many_good v a w vs fine chk p here = let b = measure a (Some Node) (tok AMany v) in leaf v AMany (tree.Number v) a w refl refl tt (many_small b v chk) (checked b (tok AMany v) chk) here refl refl p here

open_good : Good Atom (on (Word m.Open) (Part Sum ∷ Fixed (Word m.Close) ∷ []) Free (λ t vs. vs.0))
open_good v a w vs fine chk p here =
    let b = measure a (Some Free) (tok (Word m.Open) v) in
    let s = p.1 (checked b (tok (Word m.Open) v) chk) in
    let q = p.2 in
    let u = p.0 in
    let d = measure u None (tok (Word m.Close) q.0) in
    let depth_is : u.parens ≡ a.parens + 1 = s.parens_same in
    let shallow : a.parens + 1 + parens 0 vs.0 ≤ 64 = s.facts.3 in
    let most = parens_atom vs.0 in
    ends Atom vs.0 a d w q.2 record {
      within = checked d (tok (Word m.Close) q.0) q.1;
      parens_same = omega (arith, depth_is);
      braces_same = s.braces_same;
      items_more = s.items_more;
      facts = (s.facts.0, s.facts.1, s.facts.2, omega (arith, shallow, most));
    }

size_good : Good Atom (on (Word m.Size) (Fixed (Word m.Open) ∷ Part DimOrNumber ∷ Fixed (Word m.Close) ∷ []) Node (λ t vs. tree.Size vs.0))
size_good v a w vs fine chk p here =
    let b = measure a (Some Node) (tok (Word m.Size) v) in
    let b1 = measure b None (tok (Word m.Open) p.0) in
    let in1 = checked b1 (tok (Word m.Open) p.0) p.1 in
    let r = p.2 in
    let u = r.0 in
    let s = r.1 in1 in
    let st = s in
    let q = r.2 in
    let d = measure u None (tok (Word m.Close) q.0) in
    let depth_is : u.parens ≡ a.parens + 1 = st.parens_same in
    let more : a.nodes + 1 ≤ u.nodes = st.facts.1 in
    let shallow : a.parens + 1 ≤ 64 = in1.parens in
    ends Atom (tree.Size vs.0) a d w q.2 record {
      within = checked d (tok (Word m.Close) q.0) q.1;
      parens_same = omega (arith, depth_is);
      braces_same = st.braces_same;
      items_more = st.items_more;
      facts = (tt, st.facts.0, more, shallow);
    }

flat_good : Good Atom (on (Word m.Flat) (Part DimName ∷ Fixed (Word m.Open) ∷ Part Sum ∷ Fixed (Word m.Comma) ∷ Part Sum ∷ Fixed (Word m.Close) ∷ []) Node (λ t vs. tree.Flat vs.0 vs.1.0 vs.1.1.0))
flat_good v a w vs fine chk p here =
    let b = measure a (Some Node) (tok (Word m.Flat) v) in
    let s0 = p.1 (checked b (tok (Word m.Flat) v) chk) in
    let p1 = p.2 in
    let b1 = measure p.0 None (tok (Word m.Open) p1.0) in
    let p2 = p1.2 in
    let sx = p2.1 (checked b1 (tok (Word m.Open) p1.0) p1.1) in
    let u1 = p2.0 in
    let p3 = p2.2 in
    let b2 = measure u1 None (tok (Word m.Comma) p3.0) in
    let p4 = p3.2 in
    let sz = p4.1 (checked b2 (tok (Word m.Comma) p3.0) p3.1) in
    let u2 = p4.0 in
    let p5 = p4.2 in
    let d = measure u2 None (tok (Word m.Close) p5.0) in
    let u0 = p.0 in
    let depth0 : u0.parens ≡ a.parens = s0.parens_same in
    let depth1 : u1.parens ≡ u0.parens + 1 = sx.parens_same in
    let depth2 : u2.parens ≡ u1.parens = sz.parens_same in
    let braces0 : u0.braces ≡ a.braces = s0.braces_same in
    let braces1 : u1.braces ≡ u0.braces = sx.braces_same in
    let braces2 : u2.braces ≡ u1.braces = sz.braces_same in
    let items0 : a.items ≤ u0.items = s0.items_more in
    let items1 : u0.items ≤ u1.items = sx.items_more in
    let items2 : u1.items ≤ u2.items = sz.items_more in
    let nodes0 : a.nodes + 1 ≤ u0.nodes = s0.facts.1 in
    let nodes1 : u0.nodes + nodes vs.1.0 ≤ u1.nodes = sx.facts.2 in
    let nodes2 : u1.nodes + nodes vs.1.1.0 ≤ u2.nodes = sz.facts.2 in
    let shallow1 : u0.parens + 1 + parens 0 vs.1.0 ≤ 64 = sx.facts.3 in
    let shallow2 : u1.parens + parens 0 vs.1.1.0 ≤ 64 = sz.facts.3 in
    ends Atom (tree.Flat vs.0 vs.1.0 vs.1.1.0) a d w p5.2 record {
      within = checked d (tok (Word m.Close) p5.0) p5.1;
      parens_same = omega (arith, depth0, depth1, depth2);
      braces_same = braces2 ∙ braces1 ∙ braces0;
      items_more = omega (arith, items0, items1, items2);
      facts = ((s0.facts.0, sx.facts.0, sz.facts.0), (sx.facts.1, sz.facts.1), omega (arith, nodes0, nodes1, nodes2), omega (arith, shallow1, shallow2, depth0, depth1));
    }

next_good : Good Atom (on (Word m.Next) (Part DimName ∷ Fixed (Word m.Open) ∷ Part Sum ∷ Fixed (Word m.Close) ∷ []) Node (λ t vs. tree.Next vs.0 vs.1.0))
next_good v a w vs fine chk p here =
    let b = measure a (Some Node) (tok (Word m.Next) v) in
    let s0 = p.1 (checked b (tok (Word m.Next) v) chk) in
    let p1 = p.2 in
    let b1 = measure p.0 None (tok (Word m.Open) p1.0) in
    let p2 = p1.2 in
    let sx = p2.1 (checked b1 (tok (Word m.Open) p1.0) p1.1) in
    let u0 = p.0 in
    let u1 = p2.0 in
    let p3 = p2.2 in
    let d = measure u1 None (tok (Word m.Close) p3.0) in
    let depth0 : u0.parens ≡ a.parens = s0.parens_same in
    let depth1 : u1.parens ≡ u0.parens + 1 = sx.parens_same in
    let items0 : a.items ≤ u0.items = s0.items_more in
    let items1 : u0.items ≤ u1.items = sx.items_more in
    let nodes0 : a.nodes + 1 ≤ u0.nodes = s0.facts.1 in
    let nodes1 : u0.nodes + nodes vs.1.0 ≤ u1.nodes = sx.facts.2 in
    let shallow1 : u0.parens + 1 + parens 0 vs.1.0 ≤ 64 = sx.facts.3 in
    ends Atom (tree.Next vs.0 vs.1.0) a d w p3.2 record {
      within = checked d (tok (Word m.Close) p3.0) p3.1;
      parens_same = omega (arith, depth0, depth1);
      braces_same = sx.braces_same ∙ s0.braces_same;
      items_more = omega (arith, items0, items1);
      facts = ((s0.facts.0, sx.facts.0), sx.facts.1, omega (arith, nodes0, nodes1), omega (arith, shallow1, depth0));
    }

up_good : Good Atom (on (Word m.Up) (Part DimName ∷ Fixed (Word m.Open) ∷ Part Sum ∷ Fixed (Word m.Close) ∷ []) Node (λ t vs. tree.Up vs.0 vs.1.0))
up_good v a w vs fine chk p here =
    let b = measure a (Some Node) (tok (Word m.Up) v) in
    let s0 = p.1 (checked b (tok (Word m.Up) v) chk) in
    let p1 = p.2 in
    let b1 = measure p.0 None (tok (Word m.Open) p1.0) in
    let p2 = p1.2 in
    let sx = p2.1 (checked b1 (tok (Word m.Open) p1.0) p1.1) in
    let u0 = p.0 in
    let u1 = p2.0 in
    let p3 = p2.2 in
    let d = measure u1 None (tok (Word m.Close) p3.0) in
    let depth0 : u0.parens ≡ a.parens = s0.parens_same in
    let depth1 : u1.parens ≡ u0.parens + 1 = sx.parens_same in
    let items0 : a.items ≤ u0.items = s0.items_more in
    let items1 : u0.items ≤ u1.items = sx.items_more in
    let nodes0 : a.nodes + 1 ≤ u0.nodes = s0.facts.1 in
    let nodes1 : u0.nodes + nodes vs.1.0 ≤ u1.nodes = sx.facts.2 in
    let shallow1 : u0.parens + 1 + parens 0 vs.1.0 ≤ 64 = sx.facts.3 in
    ends Atom (tree.Up vs.0 vs.1.0) a d w p3.2 record {
      within = checked d (tok (Word m.Close) p3.0) p3.1;
      parens_same = omega (arith, depth0, depth1);
      braces_same = sx.braces_same ∙ s0.braces_same;
      items_more = omega (arith, items0, items1);
      facts = ((s0.facts.0, sx.facts.0), sx.facts.1, omega (arith, nodes0, nodes1), omega (arith, shallow1, depth0));
    }

atoms_good : AllGood Atom atoms
atoms_good = (reg_good, (open_good, (size_good, (flat_good, (next_good, (up_good, (zero_good, (one_good, (many_good, tt)))))))))

star_good : Good ProductTail (on (Word m.Star) (Part Atom ∷ Part ProductTail ∷ []) Node (λ t vs. λ e. vs.1.0 (tree.Mul e vs.0)))
star_good v a w vs fine chk p here =
    let b = measure a (Some Node) (tok (Word m.Star) v) in
    let sp = p.1 (checked b (tok (Word m.Star) v) chk) in
    let u = p.0 in
    let r = p.2 in
    let st = r.1 sp.within in
    let z = r.0 in
    let depth_is : u.parens ≡ a.parens = sp.parens_same in
    let items0 : a.items ≤ u.items = sp.items_more in
    let items1 : u.items ≤ z.items = st.items_more in
    let more : a.nodes + 1 + nodes vs.0 ≤ u.nodes = sp.facts.2 in
    let shallow : a.parens + parens 2 vs.0 ≤ 64 = sp.facts.3 in
    ends ProductTail (λ e. vs.1.0 (tree.Mul e vs.0)) a z w r.2 record {
      within = st.within;
      parens_same = st.parens_same ∙ sp.parens_same;
      braces_same = st.braces_same ∙ sp.braces_same;
      items_more = omega (arith, items0, items1);
      facts = λ n e f.
          let few : n + nodes e ≤ a.nodes = f.2 in
          let flat_ : a.parens + parens 1 e ≤ 64 = f.3 in
          let g = st.facts n (tree.Mul e vs.0) ((f.0, sp.facts.0), (f.1, sp.facts.1), omega (arith, few, more), omega (arith, depth_is, flat_, shallow)) in
          let h : u.parens + parens 1 (vs.1.0 (tree.Mul e vs.0)) ≤ 64 = g.3 in
          (g.0, g.1, g.2, omega (arith, h, depth_is));
    }

plus_good : Good SumTail (on (Word m.Plus) (Part Product ∷ Part SumTail ∷ []) Node (λ t vs. λ e. vs.1.0 (tree.Add e vs.0)))
plus_good v a w vs fine chk p here =
    let b = measure a (Some Node) (tok (Word m.Plus) v) in
    let sp = p.1 (checked b (tok (Word m.Plus) v) chk) in
    let u = p.0 in
    let r = p.2 in
    let st = r.1 sp.within in
    let z = r.0 in
    let depth_is : u.parens ≡ a.parens = sp.parens_same in
    let items0 : a.items ≤ u.items = sp.items_more in
    let items1 : u.items ≤ z.items = st.items_more in
    let more : a.nodes + 1 + nodes vs.0 ≤ u.nodes = sp.facts.2 in
    let shallow : a.parens + parens 1 vs.0 ≤ 64 = sp.facts.3 in
    ends SumTail (λ e. vs.1.0 (tree.Add e vs.0)) a z w r.2 record {
      within = st.within;
      parens_same = st.parens_same ∙ sp.parens_same;
      braces_same = st.braces_same ∙ sp.braces_same;
      items_more = omega (arith, items0, items1);
      facts = λ n e f.
          let few : n + nodes e ≤ a.nodes = f.2 in
          let flat_ : a.parens + parens 0 e ≤ 64 = f.3 in
          let g = st.facts n (tree.Add e vs.0) ((f.0, sp.facts.0), (f.1, sp.facts.1), omega (arith, few, more), omega (arith, depth_is, flat_, shallow)) in
          let h : u.parens + parens 0 (vs.1.0 (tree.Add e vs.0)) ≤ 64 = g.3 in
          (g.0, g.1, g.2, omega (arith, h, depth_is));
    }

minus_good : Good SumTail (on (Word m.Minus) (Part Product ∷ Part SumTail ∷ []) Node (λ t vs. λ e. vs.1.0 (tree.Sub e vs.0)))
minus_good v a w vs fine chk p here =
    let b = measure a (Some Node) (tok (Word m.Minus) v) in
    let sp = p.1 (checked b (tok (Word m.Minus) v) chk) in
    let u = p.0 in
    let r = p.2 in
    let st = r.1 sp.within in
    let z = r.0 in
    let depth_is : u.parens ≡ a.parens = sp.parens_same in
    let items0 : a.items ≤ u.items = sp.items_more in
    let items1 : u.items ≤ z.items = st.items_more in
    let more : a.nodes + 1 + nodes vs.0 ≤ u.nodes = sp.facts.2 in
    let shallow : a.parens + parens 1 vs.0 ≤ 64 = sp.facts.3 in
    ends SumTail (λ e. vs.1.0 (tree.Sub e vs.0)) a z w r.2 record {
      within = st.within;
      parens_same = st.parens_same ∙ sp.parens_same;
      braces_same = st.braces_same ∙ sp.braces_same;
      items_more = omega (arith, items0, items1);
      facts = λ n e f.
          let few : n + nodes e ≤ a.nodes = f.2 in
          let flat_ : a.parens + parens 0 e ≤ 64 = f.3 in
          let g = st.facts n (tree.Sub e vs.0) ((f.0, sp.facts.0), (f.1, sp.facts.1), omega (arith, few, more), omega (arith, depth_is, flat_, shallow)) in
          let h : u.parens + parens 0 (vs.1.0 (tree.Sub e vs.0)) ≤ 64 = g.3 in
          (g.0, g.1, g.2, omega (arith, h, depth_is));
    }

slash_good : Good ProductTail (on (Word m.Slash) (Part Divisor ∷ Part ProductTail ∷ []) Node (λ t vs. λ e. vs.1.0 (tree.Div e vs.0)))
slash_good v a w vs fine chk p here =
    let b = measure a (Some Node) (tok (Word m.Slash) v) in
    let sp = p.1 (checked b (tok (Word m.Slash) v) chk) in
    let u = p.0 in
    let r = p.2 in
    let st = r.1 sp.within in
    let z = r.0 in
    let depth_is : u.parens ≡ a.parens = sp.parens_same in
    let items0 : a.items ≤ u.items = sp.items_more in
    let items1 : u.items ≤ z.items = st.items_more in
    let more : a.nodes + 1 ≤ u.nodes = sp.facts.2 in
    ends ProductTail (λ e. vs.1.0 (tree.Div e vs.0)) a z w r.2 record {
      within = st.within;
      parens_same = st.parens_same ∙ sp.parens_same;
      braces_same = st.braces_same ∙ sp.braces_same;
      items_more = omega (arith, items0, items1);
      facts = λ n e f.
          let few : n + nodes e ≤ a.nodes = f.2 in
          let flat_ : a.parens + parens 1 e ≤ 64 = f.3 in
          let g = st.facts n (tree.Div e vs.0) (f.0, (f.1, sp.facts.0, sp.facts.1), omega (arith, few, more), omega (arith, depth_is, flat_)) in
          let h : u.parens + parens 1 (vs.1.0 (tree.Div e vs.0)) ≤ 64 = g.3 in
          (g.0, g.1, g.2, omega (arith, h, depth_is));
    }

percent_good : Good ProductTail (on (Word m.Percent) (Part Divisor ∷ Part ProductTail ∷ []) Node (λ t vs. λ e. vs.1.0 (tree.Rem e vs.0)))
percent_good v a w vs fine chk p here =
    let b = measure a (Some Node) (tok (Word m.Percent) v) in
    let sp = p.1 (checked b (tok (Word m.Percent) v) chk) in
    let u = p.0 in
    let r = p.2 in
    let st = r.1 sp.within in
    let z = r.0 in
    let depth_is : u.parens ≡ a.parens = sp.parens_same in
    let items0 : a.items ≤ u.items = sp.items_more in
    let items1 : u.items ≤ z.items = st.items_more in
    let more : a.nodes + 1 ≤ u.nodes = sp.facts.2 in
    ends ProductTail (λ e. vs.1.0 (tree.Rem e vs.0)) a z w r.2 record {
      within = st.within;
      parens_same = st.parens_same ∙ sp.parens_same;
      braces_same = st.braces_same ∙ sp.braces_same;
      items_more = omega (arith, items0, items1);
      facts = λ n e f.
          let few : n + nodes e ≤ a.nodes = f.2 in
          let flat_ : a.parens + parens 1 e ≤ 64 = f.3 in
          let g = st.facts n (tree.Rem e vs.0) (f.0, (f.1, sp.facts.0, sp.facts.1), omega (arith, few, more), omega (arith, depth_is, flat_)) in
          let h : u.parens + parens 1 (vs.1.0 (tree.Rem e vs.0)) ≤ 64 = g.3 in
          (g.0, g.1, g.2, omega (arith, h, depth_is));
    }

product_step : (e : TermTree) (vs : Values grammar (Part ProductTail ∷ [])) (a u w : Count) → Cost Atom e a u → Passes (Part ProductTail ∷ []) vs u w → Cost Product (vs.0 e) a w
product_step e vs a u w ce p here =
    let se = ce here in
    let st = p.1 se.within in
    let z = p.0 in
    let depth_is : u.parens ≡ a.parens = se.parens_same in
    let items0 : a.items ≤ u.items = se.items_more in
    let items1 : u.items ≤ z.items = st.items_more in
    let shallow : a.parens + parens 2 e ≤ 64 = se.facts.3 in
    let most = parens_product e in
    let g = st.facts a.nodes e (se.facts.0, se.facts.1, se.facts.2, omega (arith, depth_is, shallow, most)) in
    let h : u.parens + parens 1 (vs.0 e) ≤ 64 = g.3 in
    ends Product (vs.0 e) a z w p.2 record {
      within = st.within;
      parens_same = st.parens_same ∙ se.parens_same;
      braces_same = st.braces_same ∙ se.braces_same;
      items_more = omega (arith, items0, items1);
      facts = (g.0, g.1, g.2, omega (arith, h, depth_is));
    }

products_good : AllGood Product products
products_good = with_row_good Atom Product (Part ProductTail ∷ []) (λ e vs. vs.0 e) atoms product_step atoms_good

sum_step : (e : TermTree) (vs : Values grammar (Part SumTail ∷ [])) (a u w : Count) → Cost Product e a u → Passes (Part SumTail ∷ []) vs u w → Cost Sum (vs.0 e) a w
sum_step e vs a u w ce p here =
    let se = ce here in
    let st = p.1 se.within in
    let z = p.0 in
    let depth_is : u.parens ≡ a.parens = se.parens_same in
    let items0 : a.items ≤ u.items = se.items_more in
    let items1 : u.items ≤ z.items = st.items_more in
    let shallow : a.parens + parens 1 e ≤ 64 = se.facts.3 in
    let most = parens_sum e in
    let g = st.facts a.nodes e (se.facts.0, se.facts.1, se.facts.2, omega (arith, depth_is, shallow, most)) in
    let h : u.parens + parens 0 (vs.0 e) ≤ 64 = g.3 in
    ends Sum (vs.0 e) a z w p.2 record {
      within = st.within;
      parens_same = st.parens_same ∙ se.parens_same;
      braces_same = st.braces_same ∙ se.braces_same;
      items_more = omega (arith, items0, items1);
      facts = (g.0, g.1, g.2, omega (arith, h, depth_is));
    }

sums_good : AllGood Sum sums
sums_good = with_row_good Product Sum (Part SumTail ∷ []) (λ e vs. vs.0 e) products sum_step products_good

-- Terms in their places, and names

term_fits : (e : TermTree) (before after q : ℕ) → TermFacts 0 e before after q → after ≤ 256 → FitsTerm e
term_fits e before after q f h = let few = f.2 in let flat_ = f.3 in (f.1, omega (arith, few, h), omega (arith, flat_))

same_counts : (n : Nonterminal) (x : Value n) (a w : Count) → a ≡ w → Facts n x a a → Cost n x a w
same_counts n x a w e f here = ends n x a a w e record { within = here; parens_same = refl; braces_same = refl; items_more = le_self a.items; facts = f }

block_from : (c : Code) (a u z : Count) → a.items ≤ u.items → u.braces ≡ a.braces → BlockFacts c u z → BlockFacts c a z
block_from c a u z more is f = let x = f.2 in let y = f.3 in (f.0, f.1, omega (arith, x, more), omega (arith, y, is))

dims_good : AllGood DimOrNumber (dims (λ d. d))
dims_good = (
  (λ v a w vs fine chk p. same_counts DimOrNumber (dim.Name v) a w p (name_checked a ADimName v chk refl, le_self a.nodes)),
  (
    (λ v a w vs fine chk p. same_counts DimOrNumber (dim.Len v) a w p (name_checked a ALength v chk refl, le_self a.nodes)),
    (
      (λ v a w vs fine chk p. same_counts DimOrNumber (dim.Number v) a w p (zero_small v fine, le_self a.nodes)),
      (
        (λ v a w vs fine chk p. same_counts DimOrNumber (dim.Number v) a w p (one_small v fine, le_self a.nodes)),
        (
          (λ v a w vs fine chk p. same_counts DimOrNumber (dim.Number v) a w p (many_small a v chk, le_self a.nodes)),
          tt,
        ),
      ),
    ),
  ),
)

divisors_good : AllGood Divisor (choices Divisor)
divisors_good = (
  (λ v a w vs fine chk p. same_counts Divisor v a w p (omega (arith, fine), one_small v fine, le_self a.nodes)),
  (
    (λ v a w vs fine chk p. same_counts Divisor v a w p (omega (arith, fine), many_small a v chk, le_self a.nodes)),
    tt,
  ),
)

key_new : Good Key (on ABuffer [] ListName (λ t _. buf.New t.value))
key_new v a w vs fine chk e here =
    let b = measure a (Some ListName) (tok ABuffer v) in
    ends Key (buf.New v) a b w e record { within = checked b (tok ABuffer v) chk; parens_same = refl; braces_same = refl; items_more = le_self a.items; facts = (name_checked b ABuffer v chk refl, le_self (a.names + 1)) }

key_source : Good Key (on ASource [] ListName (λ t _. buf.Source t.value))
key_source v a w vs fine chk e here =
    let b = measure a (Some ListName) (tok ASource v) in
    ends Key (buf.Source v) a b w e record { within = checked b (tok ASource v) chk; parens_same = refl; braces_same = refl; items_more = le_self a.items; facts = (name_checked b ASource v chk refl, le_self (a.names + 1)) }

give_name : Good GiveName (on ABuffer [] ListName (λ t _. t.value))
give_name v a w vs fine chk e here =
    let b = measure a (Some ListName) (tok ABuffer v) in
    ends GiveName v a b w e record { within = checked b (tok ABuffer v) chk; parens_same = refl; braces_same = refl; items_more = le_self a.items; facts = (name_checked b ABuffer v chk refl, le_self (a.names + 1)) }

less_good : Good Relation (on (Word m.Less) [] Free (λ t _. false))
less_good v a w vs fine chk e here =
    let b = measure a (Some Free) (tok (Word m.Less) v) in
    ends Relation false a b w e record { within = checked b (tok (Word m.Less) v) chk; parens_same = refl; braces_same = refl; items_more = le_self a.items; facts = tt }

equal_good : Good Relation (on (Word m.Same) [] Free (λ t _. true))
equal_good v a w vs fine chk e here =
    let b = measure a (Some Free) (tok (Word m.Same) v) in
    ends Relation true a b w e record { within = checked b (tok (Word m.Same) v) chk; parens_same = refl; braces_same = refl; items_more = le_self a.items; facts = tt }

computed_step : (e : TermTree) (vs : Values grammar []) (a u w : Count) → Cost Sum e a u → Passes [] vs u w → Cost LetTail (Computed e) a w
computed_step e vs a u w ce p here =
    let se = ce here in
    ends LetTail (Computed e) a u w p record { within = se.within; parens_same = se.parens_same; braces_same = se.braces_same; items_more = se.items_more; facts = (se.facts.0, term_fits e a.nodes u.nodes a.parens se.facts se.within.nodes) }

computed_good : AllGood LetTail (with_row [] (λ e _. Computed e) sums)
computed_good = with_row_good Sum LetTail [] (λ e _. Computed e) sums computed_step sums_good

kind_below : Good Kind (on (Word m.Below) (Part DimOrNumber ∷ []) Free (λ t vs. cell.Below vs.0))
kind_below v a w vs fine chk p0 here =
    let b = measure a (Some Free) (tok (Word m.Below) v) in
    let wb = checked b (tok (Word m.Below) v) chk in
    let u0 = p0.0 in
    let s0 = p0.1 wb in
    let p1 = p0.2 in
    let q0 : u0.parens ≡ a.parens = s0.parens_same in
    let r0 : u0.braces ≡ a.braces = s0.braces_same in
    let i0 : a.items ≤ u0.items = s0.items_more in
    let x0 = vs.0 in
    ends Kind (cell.Below vs.0) a u0 w p1 record {
      within = s0.within;
      parens_same = q0;
      braces_same = r0;
      items_more = omega (arith, i0);
      facts = s0.facts.0;
    }

load_new : Good LetTail (on ABuffer (Fixed (Word m.BracketOpen) ∷ Part Sum ∷ Fixed (Word m.BracketClose) ∷ []) Free (λ t vs. Loaded (buf.New t.value) vs.0))
load_new v a w vs fine chk p0 here =
    let b = measure a (Some Free) (tok ABuffer v) in
    let wb = checked b (tok ABuffer v) chk in
    let b0 = measure b None (tok (Word m.BracketOpen) p0.0) in
    let w0 = checked b0 (tok (Word m.BracketOpen) p0.0) p0.1 in
    let p1 = p0.2 in
    let u0 = p1.0 in
    let s0 = p1.1 w0 in
    let p2 = p1.2 in
    let q0 : u0.parens ≡ a.parens = s0.parens_same in
    let r0 : u0.braces ≡ a.braces = s0.braces_same in
    let i0 : a.items ≤ u0.items = s0.items_more in
    let b2 = measure u0 None (tok (Word m.BracketClose) p2.0) in
    let w2 = checked b2 (tok (Word m.BracketClose) p2.0) p2.1 in
    let p3 = p2.2 in
    let x0 = vs.0 in
    ends LetTail (Loaded (buf.New v) vs.0) a b2 w p3 record {
      within = w2;
      parens_same = q0;
      braces_same = r0;
      items_more = omega (arith, i0);
      facts = (name_checked b ABuffer v chk refl, s0.facts.0, term_fits x0 b0.nodes u0.nodes b0.parens s0.facts s0.within.nodes);
    }

load_source : Good LetTail (on ASource (Fixed (Word m.BracketOpen) ∷ Part Sum ∷ Fixed (Word m.BracketClose) ∷ []) Free (λ t vs. Loaded (buf.Source t.value) vs.0))
load_source v a w vs fine chk p0 here =
    let b = measure a (Some Free) (tok ASource v) in
    let wb = checked b (tok ASource v) chk in
    let b0 = measure b None (tok (Word m.BracketOpen) p0.0) in
    let w0 = checked b0 (tok (Word m.BracketOpen) p0.0) p0.1 in
    let p1 = p0.2 in
    let u0 = p1.0 in
    let s0 = p1.1 w0 in
    let p2 = p1.2 in
    let q0 : u0.parens ≡ a.parens = s0.parens_same in
    let r0 : u0.braces ≡ a.braces = s0.braces_same in
    let i0 : a.items ≤ u0.items = s0.items_more in
    let b2 = measure u0 None (tok (Word m.BracketClose) p2.0) in
    let w2 = checked b2 (tok (Word m.BracketClose) p2.0) p2.1 in
    let p3 = p2.2 in
    let x0 = vs.0 in
    ends LetTail (Loaded (buf.Source v) vs.0) a b2 w p3 record {
      within = w2;
      parens_same = q0;
      braces_same = r0;
      items_more = omega (arith, i0);
      facts = (name_checked b ASource v chk refl, s0.facts.0, term_fits x0 b0.nodes u0.nodes b0.parens s0.facts s0.within.nodes);
    }

block_good : Good BlockPart (on (Word m.BraceOpen) (Part Stmts ∷ Fixed (Word m.BraceClose) ∷ []) Free (λ t vs. vs.0))
block_good v a w vs fine chk p here =
    let b = measure a (Some Free) (tok (Word m.BraceOpen) v) in
    let s = p.1 (checked b (tok (Word m.BraceOpen) v) chk) in
    let u = p.0 in
    let q = p.2 in
    let d = measure u None (tok (Word m.BraceClose) q.0) in
    let braces_are : u.braces ≡ a.braces + 1 = s.braces_same in
    let few : a.items + count vs.0 ≤ u.items = s.facts.2 in
    let deep : a.braces + 1 + depth vs.0 ≤ 67 = s.facts.3 in
    ends BlockPart vs.0 a d w q.2 record {
      within = checked d (tok (Word m.BraceClose) q.0) q.1;
      parens_same = s.parens_same;
      braces_same = omega (arith, braces_are);
      items_more = s.items_more;
      facts = (s.facts.0, s.facts.1, few, deep);
    }

upto_good : Good ForTail (on (Word m.Below) (Part DimOrNumber ∷ Part BlockPart ∷ []) Free (λ t vs. Upto vs.0 vs.1.0))
upto_good v a w vs fine chk p0 here =
    let b = measure a (Some Free) (tok (Word m.Below) v) in
    let wb = checked b (tok (Word m.Below) v) chk in
    let u0 = p0.0 in
    let s0 = p0.1 wb in
    let p1 = p0.2 in
    let q0 : u0.parens ≡ a.parens = s0.parens_same in
    let r0 : u0.braces ≡ a.braces = s0.braces_same in
    let i0 : a.items ≤ u0.items = s0.items_more in
    let u1 = p1.0 in
    let s1 = p1.1 s0.within in
    let p2 = p1.2 in
    let q1 : u1.parens ≡ u0.parens = s1.parens_same in
    let r1 : u1.braces ≡ u0.braces = s1.braces_same in
    let i1 : u0.items ≤ u1.items = s1.items_more in
    let x0 = vs.0 in
    let x1 = vs.1.0 in
    ends ForTail (Upto vs.0 vs.1.0) a u1 w p2 record {
      within = s1.within;
      parens_same = q1 ∙ q0;
      braces_same = r1 ∙ r0;
      items_more = omega (arith, i0, i1);
      facts = (s0.facts.0, block_from x1 a u0 u1 i0 r0 s1.facts);
    }

spanned_good : Good ForTail (on (Word m.In) (Part Sum ∷ Fixed (Word m.To) ∷ Part Sum ∷ Fixed (Word m.Below) ∷ Part DimOrNumber ∷ Part BlockPart ∷ []) Free (λ t vs. Spanned vs.0 vs.1.0 vs.1.1.0 vs.1.1.1.0))
spanned_good v a w vs fine chk p0 here =
    let b = measure a (Some Free) (tok (Word m.In) v) in
    let wb = checked b (tok (Word m.In) v) chk in
    let u0 = p0.0 in
    let s0 = p0.1 wb in
    let p1 = p0.2 in
    let q0 : u0.parens ≡ a.parens = s0.parens_same in
    let r0 : u0.braces ≡ a.braces = s0.braces_same in
    let i0 : a.items ≤ u0.items = s0.items_more in
    let b1 = measure u0 None (tok (Word m.To) p1.0) in
    let w1 = checked b1 (tok (Word m.To) p1.0) p1.1 in
    let p2 = p1.2 in
    let u1 = p2.0 in
    let s1 = p2.1 w1 in
    let p3 = p2.2 in
    let q1 : u1.parens ≡ u0.parens = s1.parens_same in
    let r1 : u1.braces ≡ u0.braces = s1.braces_same in
    let i1 : u0.items ≤ u1.items = s1.items_more in
    let b3 = measure u1 None (tok (Word m.Below) p3.0) in
    let w3 = checked b3 (tok (Word m.Below) p3.0) p3.1 in
    let p4 = p3.2 in
    let u2 = p4.0 in
    let s2 = p4.1 w3 in
    let p5 = p4.2 in
    let q2 : u2.parens ≡ u1.parens = s2.parens_same in
    let r2 : u2.braces ≡ u1.braces = s2.braces_same in
    let i2 : u1.items ≤ u2.items = s2.items_more in
    let u3 = p5.0 in
    let s3 = p5.1 s2.within in
    let p6 = p5.2 in
    let q3 : u3.parens ≡ u2.parens = s3.parens_same in
    let r3 : u3.braces ≡ u2.braces = s3.braces_same in
    let i3 : u2.items ≤ u3.items = s3.items_more in
    let x0 = vs.0 in
    let x1 = vs.1.0 in
    let x2 = vs.1.1.0 in
    let x3 = vs.1.1.1.0 in
    ends ForTail (Spanned vs.0 vs.1.0 vs.1.1.0 vs.1.1.1.0) a u3 w p6 record {
      within = s3.within;
      parens_same = q3 ∙ q2 ∙ q1 ∙ q0;
      braces_same = r3 ∙ r2 ∙ r1 ∙ r0;
      items_more = omega (arith, i0, i1, i2, i3);
      facts = (s0.facts.0, term_fits x0 b.nodes u0.nodes b.parens s0.facts s0.within.nodes, s1.facts.0, term_fits x1 b1.nodes u1.nodes b1.parens s1.facts s1.within.nodes, s2.facts.0, block_from x3 a u2 u3 (omega (arith, i0, i1, i2)) (r2 ∙ r1 ∙ r0) s3.facts);
    }

else_good : Good Else (on (Word m.Else) (Part BlockPart ∷ []) Free (λ t vs. Some vs.0))
else_good v a w vs fine chk p0 here =
    let b = measure a (Some Free) (tok (Word m.Else) v) in
    let wb = checked b (tok (Word m.Else) v) chk in
    let u0 = p0.0 in
    let s0 = p0.1 wb in
    let p1 = p0.2 in
    let q0 : u0.parens ≡ a.parens = s0.parens_same in
    let r0 : u0.braces ≡ a.braces = s0.braces_same in
    let i0 : a.items ≤ u0.items = s0.items_more in
    let x0 = vs.0 in
    ends Else (Some vs.0) a u0 w p1 record {
      within = s0.within;
      parens_same = q0;
      braces_same = r0;
      items_more = omega (arith, i0);
      facts = block_from x0 a b u0 (le_self a.items) refl s0.facts;
    }

var_good : Good Stmts (on (Word m.Var) (Part Register ∷ Fixed (Word m.Equal) ∷ Part Sum ∷ Part Stmts ∷ []) Item (λ t vs. tree.Var vs.0 vs.1.0 vs.1.1.0))
var_good v a w vs fine chk p0 here =
    let b = measure a (Some Item) (tok (Word m.Var) v) in
    let wb = checked b (tok (Word m.Var) v) chk in
    let u0 = p0.0 in
    let s0 = p0.1 wb in
    let p1 = p0.2 in
    let q0 : u0.parens ≡ a.parens = s0.parens_same in
    let r0 : u0.braces ≡ a.braces = s0.braces_same in
    let i0 : a.items + 1 ≤ u0.items = s0.items_more in
    let b1 = measure u0 None (tok (Word m.Equal) p1.0) in
    let w1 = checked b1 (tok (Word m.Equal) p1.0) p1.1 in
    let p2 = p1.2 in
    let u1 = p2.0 in
    let s1 = p2.1 w1 in
    let p3 = p2.2 in
    let q1 : u1.parens ≡ u0.parens = s1.parens_same in
    let r1 : u1.braces ≡ u0.braces = s1.braces_same in
    let i1 : u0.items ≤ u1.items = s1.items_more in
    let u2 = p3.0 in
    let s2 = p3.1 s1.within in
    let p4 = p3.2 in
    let q2 : u2.parens ≡ u1.parens = s2.parens_same in
    let r2 : u2.braces ≡ u1.braces = s2.braces_same in
    let i2 : u1.items ≤ u2.items = s2.items_more in
    let x0 = vs.0 in
    let x1 = vs.1.0 in
    let x2 = vs.1.1.0 in
    ends Stmts (tree.Var vs.0 vs.1.0 vs.1.1.0) a u2 w p4 record {
      within = s2.within;
      parens_same = q2 ∙ q1 ∙ q0;
      braces_same = r2 ∙ r1 ∙ r0;
      items_more = omega (arith, i0, i1, i2);
      facts = ((s0.facts, s1.facts.0, s2.facts.0), (term_fits x1 b1.nodes u1.nodes b1.parens s1.facts s1.within.nodes, s2.facts.1), let f = s2.facts.2 in omega (arith, f, i0, i1), let f = s2.facts.3 in omega (arith, f, r0, r1));
    }

put_good : Good Stmts (on (Word m.Put) (Part Register ∷ Fixed (Word m.Equal) ∷ Part Sum ∷ Part Stmts ∷ []) Item (λ t vs. tree.Put vs.0 vs.1.0 vs.1.1.0))
put_good v a w vs fine chk p0 here =
    let b = measure a (Some Item) (tok (Word m.Put) v) in
    let wb = checked b (tok (Word m.Put) v) chk in
    let u0 = p0.0 in
    let s0 = p0.1 wb in
    let p1 = p0.2 in
    let q0 : u0.parens ≡ a.parens = s0.parens_same in
    let r0 : u0.braces ≡ a.braces = s0.braces_same in
    let i0 : a.items + 1 ≤ u0.items = s0.items_more in
    let b1 = measure u0 None (tok (Word m.Equal) p1.0) in
    let w1 = checked b1 (tok (Word m.Equal) p1.0) p1.1 in
    let p2 = p1.2 in
    let u1 = p2.0 in
    let s1 = p2.1 w1 in
    let p3 = p2.2 in
    let q1 : u1.parens ≡ u0.parens = s1.parens_same in
    let r1 : u1.braces ≡ u0.braces = s1.braces_same in
    let i1 : u0.items ≤ u1.items = s1.items_more in
    let u2 = p3.0 in
    let s2 = p3.1 s1.within in
    let p4 = p3.2 in
    let q2 : u2.parens ≡ u1.parens = s2.parens_same in
    let r2 : u2.braces ≡ u1.braces = s2.braces_same in
    let i2 : u1.items ≤ u2.items = s2.items_more in
    let x0 = vs.0 in
    let x1 = vs.1.0 in
    let x2 = vs.1.1.0 in
    ends Stmts (tree.Put vs.0 vs.1.0 vs.1.1.0) a u2 w p4 record {
      within = s2.within;
      parens_same = q2 ∙ q1 ∙ q0;
      braces_same = r2 ∙ r1 ∙ r0;
      items_more = omega (arith, i0, i1, i2);
      facts = ((s0.facts, s1.facts.0, s2.facts.0), (term_fits x1 b1.nodes u1.nodes b1.parens s1.facts s1.within.nodes, s2.facts.1), let f = s2.facts.2 in omega (arith, f, i0, i1), let f = s2.facts.3 in omega (arith, f, r0, r1));
    }

set_good : Good Stmts (on (Word m.Set) (Part Key ∷ Fixed (Word m.BracketOpen) ∷ Part Sum ∷ Fixed (Word m.BracketClose) ∷ Fixed (Word m.Equal) ∷ Part Sum ∷ Part Stmts ∷ []) Item (λ t vs. tree.Set vs.0 vs.1.0 vs.1.1.0 vs.1.1.1.0))
set_good v a w vs fine chk p0 here =
    let b = measure a (Some Item) (tok (Word m.Set) v) in
    let wb = checked b (tok (Word m.Set) v) chk in
    let u0 = p0.0 in
    let s0 = p0.1 wb in
    let p1 = p0.2 in
    let q0 : u0.parens ≡ a.parens = s0.parens_same in
    let r0 : u0.braces ≡ a.braces = s0.braces_same in
    let i0 : a.items + 1 ≤ u0.items = s0.items_more in
    let b1 = measure u0 None (tok (Word m.BracketOpen) p1.0) in
    let w1 = checked b1 (tok (Word m.BracketOpen) p1.0) p1.1 in
    let p2 = p1.2 in
    let u1 = p2.0 in
    let s1 = p2.1 w1 in
    let p3 = p2.2 in
    let q1 : u1.parens ≡ u0.parens = s1.parens_same in
    let r1 : u1.braces ≡ u0.braces = s1.braces_same in
    let i1 : u0.items ≤ u1.items = s1.items_more in
    let b3 = measure u1 None (tok (Word m.BracketClose) p3.0) in
    let w3 = checked b3 (tok (Word m.BracketClose) p3.0) p3.1 in
    let p4 = p3.2 in
    let b4 = measure b3 None (tok (Word m.Equal) p4.0) in
    let w4 = checked b4 (tok (Word m.Equal) p4.0) p4.1 in
    let p5 = p4.2 in
    let u2 = p5.0 in
    let s2 = p5.1 w4 in
    let p6 = p5.2 in
    let q2 : u2.parens ≡ u1.parens = s2.parens_same in
    let r2 : u2.braces ≡ u1.braces = s2.braces_same in
    let i2 : u1.items ≤ u2.items = s2.items_more in
    let u3 = p6.0 in
    let s3 = p6.1 s2.within in
    let p7 = p6.2 in
    let q3 : u3.parens ≡ u2.parens = s3.parens_same in
    let r3 : u3.braces ≡ u2.braces = s3.braces_same in
    let i3 : u2.items ≤ u3.items = s3.items_more in
    let x0 = vs.0 in
    let x1 = vs.1.0 in
    let x2 = vs.1.1.0 in
    let x3 = vs.1.1.1.0 in
    ends Stmts (tree.Set vs.0 vs.1.0 vs.1.1.0 vs.1.1.1.0) a u3 w p7 record {
      within = s3.within;
      parens_same = q3 ∙ q2 ∙ q1 ∙ q0;
      braces_same = r3 ∙ r2 ∙ r1 ∙ r0;
      items_more = omega (arith, i0, i1, i2, i3);
      facts = ((s0.facts.0, s1.facts.0, s2.facts.0, s3.facts.0), (term_fits x1 b1.nodes u1.nodes b1.parens s1.facts s1.within.nodes, term_fits x2 b4.nodes u2.nodes b4.parens s2.facts s2.within.nodes, s3.facts.1), let f = s3.facts.2 in omega (arith, f, i0, i1, i2), let f = s3.facts.3 in omega (arith, f, r0, r1, r2));
    }

-- statements that are told by a part of theirs

abbrev let_of : ℕ → Code → Given → Code
let_of r rest (Computed e) = tree.Let r e rest
let_of r rest (Loaded b e) = tree.Load r b e rest

let_facts : (r : ℕ) (c : Code) (g : Given) → r < 2 ^ 32 → GivenFacts g → (i j b : ℕ) → Named c → FitsTerms c → i + (1 + count c) ≤ j → b + depth c ≤ 67 → Named (let_of r c g) × FitsTerms (let_of r c g) × (i + count (let_of r c g) ≤ j) × (b + depth (let_of r c g) ≤ 67)
let_facts r c (Computed e) hr f i j b named fits few deep = ((hr, f.0, named), (f.1, fits), few, deep)
let_facts r c (Loaded x e) hr f i j b named fits few deep = ((hr, f.0, f.1, named), (f.2, fits), few, deep)

abbrev for_of : ℕ → Code → Bound → Code
for_of r rest (Upto d c) = tree.For r d c rest
for_of r rest (Spanned x y d c) = tree.Span r x y d c rest

for_facts : (r : ℕ) (c : Code) (g : Bound) (a u z : Count) → r < 2 ^ 32 → BoundFacts g a u → (j : ℕ) → a.braces + depth c ≤ 67 → Named c → FitsTerms c → (i : ℕ) → i + 1 ≤ a.items → u.items + count c ≤ j
    → Named (for_of r c g) × FitsTerms (for_of r c g) × (i + count (for_of r c g) ≤ j) × (a.braces + depth (for_of r c g) ≤ 67)
for_facts r c (Upto d x) a u z hr f j deep named fits i more few =
    let few_x = f.1.2 in let deep_x = f.1.3 in
    ((hr, f.1.0, named), (f.0, f.1.1, fits), omega (arith, more, few, few_x), omega (arith, deep, deep_x))
for_facts r c (Spanned e y d x) a u z hr f j deep named fits i more few =
    let few_x = f.5.2 in let deep_x = f.5.3 in
    ((hr, f.0, f.2, f.5.0, named), (f.1, f.3, f.4, f.5.1, fits), omega (arith, more, few, few_x), omega (arith, deep, deep_x))

abbrev is_given : Option Code → Bool
is_given None = false
is_given (Some c) = true

abbrev other_of : Option Code → Code
other_of None = tree.End
other_of (Some c) = c

-- the blocks of an if or a when, and what stands behind them
record Branches (o : Option Code) (body c : Code) (i j b : ℕ) : Type 0 where
  given : GivenElse (is_given o) (other_of o)
  named : Named (other_of o)
  fits : FitsTerms (other_of o)
  few : i + (1 + count body + count (other_of o) + count c) ≤ j
  deep : b + max (suc (max (depth body) (depth (other_of o)))) (depth c) ≤ 67

branches : (o : Option Code) (body c : Code) (a u z : Count) → BlockFacts body a u → ElseFacts o u z → u.braces ≡ a.braces → u.items ≤ z.items → (i j : ℕ) → i + 1 ≤ a.items → z.items + count c ≤ j → a.braces + depth c ≤ 67 → Branches o body c i j a.braces
branches None body c a u z f g is more i j first few deep =
    let few_b = f.2 in let deep_b = f.3 in let some = depth_some body in
    record { given = refl; named = tt; fits = tt; few = omega (arith, few_b, more, first, few); deep = omega (arith, deep_b, deep, some) }
branches (Some x) body c a u z f g is more i j first few deep =
    let few_b = f.2 in let deep_b = f.3 in let few_x = g.2 in let deep_x = g.3 in
    record { given = tt; named = g.0; fits = g.1; few = omega (arith, few_b, few_x, first, few); deep = omega (arith, deep_b, deep_x, deep, is) }

let_good : Good Stmts (on (Word m.Let) (Part Register ∷ Fixed (Word m.Equal) ∷ Part LetTail ∷ Part Stmts ∷ []) Item (λ t vs. let_of vs.0 vs.1.1.0 vs.1.0))
let_good v a w vs fine chk p0 here =
    let b = measure a (Some Item) (tok (Word m.Let) v) in
    let wb = checked b (tok (Word m.Let) v) chk in
    let u0 = p0.0 in
    let s0 = p0.1 wb in
    let p1 = p0.2 in
    let q0 : u0.parens ≡ a.parens = s0.parens_same in
    let r0 : u0.braces ≡ a.braces = s0.braces_same in
    let i0 : a.items + 1 ≤ u0.items = s0.items_more in
    let b1 = measure u0 None (tok (Word m.Equal) p1.0) in
    let w1 = checked b1 (tok (Word m.Equal) p1.0) p1.1 in
    let p2 = p1.2 in
    let u1 = p2.0 in
    let s1 = p2.1 w1 in
    let p3 = p2.2 in
    let q1 : u1.parens ≡ u0.parens = s1.parens_same in
    let r1 : u1.braces ≡ u0.braces = s1.braces_same in
    let i1 : u0.items ≤ u1.items = s1.items_more in
    let u2 = p3.0 in
    let s2 = p3.1 s1.within in
    let p4 = p3.2 in
    let q2 : u2.parens ≡ u1.parens = s2.parens_same in
    let r2 : u2.braces ≡ u1.braces = s2.braces_same in
    let i2 : u1.items ≤ u2.items = s2.items_more in
    let x0 = vs.0 in
    let x1 = vs.1.0 in
    let x2 = vs.1.1.0 in
    ends Stmts (let_of vs.0 vs.1.1.0 vs.1.0) a u2 w p4 record {
      within = s2.within;
      parens_same = q2 ∙ q1 ∙ q0;
      braces_same = r2 ∙ r1 ∙ r0;
      items_more = omega (arith, i0, i1, i2);
      facts = let_facts x0 x2 x1 s0.facts s1.facts a.items u2.items a.braces s2.facts.0 s2.facts.1 (let f = s2.facts.2 in omega (arith, f, i0, i1)) (let f = s2.facts.3 in omega (arith, f, r0, r1));
    }

for_good : Good Stmts (on (Word m.For) (Part Register ∷ Part ForTail ∷ Part Stmts ∷ []) Item (λ t vs. for_of vs.0 vs.1.1.0 vs.1.0))
for_good v a w vs fine chk p0 here =
    let b = measure a (Some Item) (tok (Word m.For) v) in
    let wb = checked b (tok (Word m.For) v) chk in
    let u0 = p0.0 in
    let s0 = p0.1 wb in
    let p1 = p0.2 in
    let q0 : u0.parens ≡ a.parens = s0.parens_same in
    let r0 : u0.braces ≡ a.braces = s0.braces_same in
    let i0 : a.items + 1 ≤ u0.items = s0.items_more in
    let u1 = p1.0 in
    let s1 = p1.1 s0.within in
    let p2 = p1.2 in
    let q1 : u1.parens ≡ u0.parens = s1.parens_same in
    let r1 : u1.braces ≡ u0.braces = s1.braces_same in
    let i1 : u0.items ≤ u1.items = s1.items_more in
    let u2 = p2.0 in
    let s2 = p2.1 s1.within in
    let p3 = p2.2 in
    let q2 : u2.parens ≡ u1.parens = s2.parens_same in
    let r2 : u2.braces ≡ u1.braces = s2.braces_same in
    let i2 : u1.items ≤ u2.items = s2.items_more in
    let x0 = vs.0 in
    let x1 = vs.1.0 in
    let x2 = vs.1.1.0 in
    ends Stmts (for_of vs.0 vs.1.1.0 vs.1.0) a u2 w p3 record {
      within = s2.within;
      parens_same = q2 ∙ q1 ∙ q0;
      braces_same = r2 ∙ r1 ∙ r0;
      items_more = omega (arith, i0, i1, i2);
      facts = let g = for_facts x0 x2 x1 u0 u1 u2 s0.facts s1.facts u2.items (let f = s2.facts.3 in omega (arith, f, r1)) s2.facts.0 s2.facts.1 a.items i0 s2.facts.2 in (g.0, g.1, g.2, let f = g.3 in omega (arith, f, r0));
    }

if_good : Good Stmts (on (Word m.If) (Part Sum ∷ Part Relation ∷ Part Sum ∷ Part BlockPart ∷ Part Else ∷ Part Stmts ∷ []) Item (λ t vs. tree.If vs.0 vs.1.0 vs.1.1.0 vs.1.1.1.0 (is_given vs.1.1.1.1.0) (other_of vs.1.1.1.1.0) vs.1.1.1.1.1.0))
if_good v a w vs fine chk p0 here =
    let b = measure a (Some Item) (tok (Word m.If) v) in
    let wb = checked b (tok (Word m.If) v) chk in
    let u0 = p0.0 in
    let s0 = p0.1 wb in
    let p1 = p0.2 in
    let q0 : u0.parens ≡ a.parens = s0.parens_same in
    let r0 : u0.braces ≡ a.braces = s0.braces_same in
    let i0 : a.items + 1 ≤ u0.items = s0.items_more in
    let u1 = p1.0 in
    let s1 = p1.1 s0.within in
    let p2 = p1.2 in
    let q1 : u1.parens ≡ u0.parens = s1.parens_same in
    let r1 : u1.braces ≡ u0.braces = s1.braces_same in
    let i1 : u0.items ≤ u1.items = s1.items_more in
    let u2 = p2.0 in
    let s2 = p2.1 s1.within in
    let p3 = p2.2 in
    let q2 : u2.parens ≡ u1.parens = s2.parens_same in
    let r2 : u2.braces ≡ u1.braces = s2.braces_same in
    let i2 : u1.items ≤ u2.items = s2.items_more in
    let u3 = p3.0 in
    let s3 = p3.1 s2.within in
    let p4 = p3.2 in
    let q3 : u3.parens ≡ u2.parens = s3.parens_same in
    let r3 : u3.braces ≡ u2.braces = s3.braces_same in
    let i3 : u2.items ≤ u3.items = s3.items_more in
    let u4 = p4.0 in
    let s4 = p4.1 s3.within in
    let p5 = p4.2 in
    let q4 : u4.parens ≡ u3.parens = s4.parens_same in
    let r4 : u4.braces ≡ u3.braces = s4.braces_same in
    let i4 : u3.items ≤ u4.items = s4.items_more in
    let u5 = p5.0 in
    let s5 = p5.1 s4.within in
    let p6 = p5.2 in
    let q5 : u5.parens ≡ u4.parens = s5.parens_same in
    let r5 : u5.braces ≡ u4.braces = s5.braces_same in
    let i5 : u4.items ≤ u5.items = s5.items_more in
    let x0 = vs.0 in
    let x1 = vs.1.0 in
    let x2 = vs.1.1.0 in
    let x3 = vs.1.1.1.0 in
    let x4 = vs.1.1.1.1.0 in
    let x5 = vs.1.1.1.1.1.0 in
    ends Stmts (tree.If vs.0 vs.1.0 vs.1.1.0 vs.1.1.1.0 (is_given vs.1.1.1.1.0) (other_of vs.1.1.1.1.0) vs.1.1.1.1.1.0) a u5 w p6 record {
      within = s5.within;
      parens_same = q5 ∙ q4 ∙ q3 ∙ q2 ∙ q1 ∙ q0;
      braces_same = r5 ∙ r4 ∙ r3 ∙ r2 ∙ r1 ∙ r0;
      items_more = omega (arith, i0, i1, i2, i3, i4, i5);
      facts = let g = branches x4 x3 x5 u2 u3 u4 s3.facts s4.facts r3 i4 a.items u5.items (omega (arith, i0, i1, i2)) s5.facts.2 (let f = s5.facts.3 in omega (arith, f, r3, r4)) in let f = g.deep in ((s0.facts.0, s2.facts.0, s3.facts.0, g.given, g.named, s5.facts.0), (term_fits x0 b.nodes u0.nodes b.parens s0.facts s0.within.nodes, term_fits x2 u1.nodes u2.nodes u1.parens s2.facts s2.within.nodes, s3.facts.1, g.fits, s5.facts.1), g.few, omega (arith, f, r0, r1, r2));
    }

when_good : Good Stmts (on (Word m.When) (Part Sum ∷ Fixed (Word m.Below) ∷ Part DimOrNumber ∷ Fixed (Word m.As) ∷ Part Register ∷ Part BlockPart ∷ Part Else ∷ Part Stmts ∷ []) Item (λ t vs. tree.When vs.0 vs.1.0 vs.1.1.0 vs.1.1.1.0 (is_given vs.1.1.1.1.0) (other_of vs.1.1.1.1.0) vs.1.1.1.1.1.0))
when_good v a w vs fine chk p0 here =
    let b = measure a (Some Item) (tok (Word m.When) v) in
    let wb = checked b (tok (Word m.When) v) chk in
    let u0 = p0.0 in
    let s0 = p0.1 wb in
    let p1 = p0.2 in
    let q0 : u0.parens ≡ a.parens = s0.parens_same in
    let r0 : u0.braces ≡ a.braces = s0.braces_same in
    let i0 : a.items + 1 ≤ u0.items = s0.items_more in
    let b1 = measure u0 None (tok (Word m.Below) p1.0) in
    let w1 = checked b1 (tok (Word m.Below) p1.0) p1.1 in
    let p2 = p1.2 in
    let u1 = p2.0 in
    let s1 = p2.1 w1 in
    let p3 = p2.2 in
    let q1 : u1.parens ≡ u0.parens = s1.parens_same in
    let r1 : u1.braces ≡ u0.braces = s1.braces_same in
    let i1 : u0.items ≤ u1.items = s1.items_more in
    let b3 = measure u1 None (tok (Word m.As) p3.0) in
    let w3 = checked b3 (tok (Word m.As) p3.0) p3.1 in
    let p4 = p3.2 in
    let u2 = p4.0 in
    let s2 = p4.1 w3 in
    let p5 = p4.2 in
    let q2 : u2.parens ≡ u1.parens = s2.parens_same in
    let r2 : u2.braces ≡ u1.braces = s2.braces_same in
    let i2 : u1.items ≤ u2.items = s2.items_more in
    let u3 = p5.0 in
    let s3 = p5.1 s2.within in
    let p6 = p5.2 in
    let q3 : u3.parens ≡ u2.parens = s3.parens_same in
    let r3 : u3.braces ≡ u2.braces = s3.braces_same in
    let i3 : u2.items ≤ u3.items = s3.items_more in
    let u4 = p6.0 in
    let s4 = p6.1 s3.within in
    let p7 = p6.2 in
    let q4 : u4.parens ≡ u3.parens = s4.parens_same in
    let r4 : u4.braces ≡ u3.braces = s4.braces_same in
    let i4 : u3.items ≤ u4.items = s4.items_more in
    let u5 = p7.0 in
    let s5 = p7.1 s4.within in
    let p8 = p7.2 in
    let q5 : u5.parens ≡ u4.parens = s5.parens_same in
    let r5 : u5.braces ≡ u4.braces = s5.braces_same in
    let i5 : u4.items ≤ u5.items = s5.items_more in
    let x0 = vs.0 in
    let x1 = vs.1.0 in
    let x2 = vs.1.1.0 in
    let x3 = vs.1.1.1.0 in
    let x4 = vs.1.1.1.1.0 in
    let x5 = vs.1.1.1.1.1.0 in
    ends Stmts (tree.When vs.0 vs.1.0 vs.1.1.0 vs.1.1.1.0 (is_given vs.1.1.1.1.0) (other_of vs.1.1.1.1.0) vs.1.1.1.1.1.0) a u5 w p8 record {
      within = s5.within;
      parens_same = q5 ∙ q4 ∙ q3 ∙ q2 ∙ q1 ∙ q0;
      braces_same = r5 ∙ r4 ∙ r3 ∙ r2 ∙ r1 ∙ r0;
      items_more = omega (arith, i0, i1, i2, i3, i4, i5);
      facts = let g = branches x4 x3 x5 u2 u3 u4 s3.facts s4.facts r3 i4 a.items u5.items (omega (arith, i0, i1, i2)) s5.facts.2 (let f = s5.facts.3 in omega (arith, f, r3, r4)) in let f = g.deep in ((s0.facts.0, s2.facts, s3.facts.0, g.given, g.named, s5.facts.0), (term_fits x0 b.nodes u0.nodes b.parens s0.facts s0.within.nodes, s1.facts.0, s3.facts.1, g.fits, s5.facts.1), g.few, omega (arith, f, r0, r1, r2));
    }

order_good : Good Stmts (on (Word m.Order) (Part Key ∷ Fixed (Word m.By) ∷ Part Keys ∷ Part Stmts ∷ []) Item (λ t vs. tree.Order vs.0 vs.1.0 vs.1.1.0))
order_good v a w vs fine chk p0 here =
    let b = measure a (Some Item) (tok (Word m.Order) v) in
    let wb = checked b (tok (Word m.Order) v) chk in
    let u0 = p0.0 in
    let s0 = p0.1 wb in
    let p1 = p0.2 in
    let q0 : u0.parens ≡ a.parens = s0.parens_same in
    let r0 : u0.braces ≡ a.braces = s0.braces_same in
    let i0 : a.items + 1 ≤ u0.items = s0.items_more in
    let b1 = measure u0 None (tok (Word m.By) p1.0) in
    let w1 = checked b1 (tok (Word m.By) p1.0) p1.1 in
    let p2 = p1.2 in
    let u1 = p2.0 in
    let s1 = p2.1 w1 in
    let p3 = p2.2 in
    let q1 : u1.parens ≡ u0.parens = s1.parens_same in
    let r1 : u1.braces ≡ u0.braces = s1.braces_same in
    let i1 : u0.items ≤ u1.items = s1.items_more in
    let u2 = p3.0 in
    let s2 = p3.1 s1.within in
    let p4 = p3.2 in
    let q2 : u2.parens ≡ u1.parens = s2.parens_same in
    let r2 : u2.braces ≡ u1.braces = s2.braces_same in
    let i2 : u1.items ≤ u2.items = s2.items_more in
    let x0 = vs.0 in
    let x1 = vs.1.0 in
    let x2 = vs.1.1.0 in
    ends Stmts (tree.Order vs.0 vs.1.0 vs.1.1.0) a u2 w p4 record {
      within = s2.within;
      parens_same = q2 ∙ q1 ∙ q0;
      braces_same = r2 ∙ r1 ∙ r0;
      items_more = omega (arith, i0, i1, i2);
      facts = ((s0.facts.0, s1.facts.1, s2.facts.0), (s1.facts.0, let one : 0 + 1 ≤ u0.names = s0.facts.1 in let more : u0.names + length x1 ≤ u1.names = s1.facts.2 in let most = s1.within.names in omega (arith, one, more, most), s2.facts.1), let f = s2.facts.2 in omega (arith, f, i0, i1), let f = s2.facts.3 in omega (arith, f, r0, r1));
    }

longer : (n k j : ℕ) → n + 1 + k ≤ j → n + suc k ≤ j
longer n k j h = omega (arith, h)

more_keys_good : Good MoreKeys (on (Word m.Comma) (Part Key ∷ Part MoreKeys ∷ []) Free (λ t vs. vs.0 ∷ vs.1.0))
more_keys_good v a w vs fine chk p0 here =
    let b = measure a (Some Free) (tok (Word m.Comma) v) in
    let wb = checked b (tok (Word m.Comma) v) chk in
    let u0 = p0.0 in
    let s0 = p0.1 wb in
    let p1 = p0.2 in
    let q0 : u0.parens ≡ a.parens = s0.parens_same in
    let r0 : u0.braces ≡ a.braces = s0.braces_same in
    let i0 : a.items ≤ u0.items = s0.items_more in
    let u1 = p1.0 in
    let s1 = p1.1 s0.within in
    let p2 = p1.2 in
    let q1 : u1.parens ≡ u0.parens = s1.parens_same in
    let r1 : u1.braces ≡ u0.braces = s1.braces_same in
    let i1 : u0.items ≤ u1.items = s1.items_more in
    let x0 = vs.0 in
    let x1 = vs.1.0 in
    ends MoreKeys (vs.0 ∷ vs.1.0) a u1 w p2 record {
      within = s1.within;
      parens_same = q1 ∙ q0;
      braces_same = r1 ∙ r0;
      items_more = omega (arith, i0, i1);
      facts = ((s0.facts.0, s1.facts.0), let x : a.names + 1 ≤ u0.names = s0.facts.1 in let y : u0.names + length x1 ≤ u1.names = s1.facts.1 in longer a.names (length x1) u1.names (omega (arith, x, y)));
    }

keys_step : (e : Buf) (vs : Values grammar (Part MoreKeys ∷ [])) (a u w : Count) → Cost Key e a u → Passes (Part MoreKeys ∷ []) vs u w → Cost Keys (e ∷ vs.0) a w
keys_step e vs a u w ce p here =
    let s0 = ce here in
    let s1 = p.1 s0.within in
    let z = p.0 in
    let i0 : a.items ≤ u.items = s0.items_more in
    let i1 : u.items ≤ z.items = s1.items_more in
    let x : a.names + 1 ≤ u.names = s0.facts.1 in
    let y : u.names + length vs.0 ≤ z.names = s1.facts.1 in
    ends Keys (e ∷ vs.0) a z w p.2 record {
      within = s1.within;
      parens_same = s1.parens_same ∙ s0.parens_same;
      braces_same = s1.braces_same ∙ s0.braces_same;
      items_more = omega (arith, i0, i1);
      facts = (one_more (length vs.0), (s0.facts.0, s1.facts.0), longer a.names (length vs.0) z.names (omega (arith, x, y)));
    }
  where
    one_more : (n : ℕ) → 1 ≤ suc n
    one_more n = omega arith

keys_good : AllGood Keys (with_row (Part MoreKeys ∷ []) (λ k vs. k ∷ vs.0) keys)
keys_good = with_row_good Key Keys (Part MoreKeys ∷ []) (λ k vs. k ∷ vs.0) keys keys_step (key_new, (key_source, tt))

gives_good : Good Gives (on ABuffer (Part MoreGives ∷ []) ListName (λ t vs. t.value ∷ vs.0))
gives_good v a w vs fine chk p0 here =
    let b = measure a (Some ListName) (tok ABuffer v) in
    let wb = checked b (tok ABuffer v) chk in
    let u0 = p0.0 in
    let s0 = p0.1 wb in
    let p1 = p0.2 in
    let q0 : u0.parens ≡ a.parens = s0.parens_same in
    let r0 : u0.braces ≡ a.braces = s0.braces_same in
    let i0 : a.items ≤ u0.items = s0.items_more in
    let x0 = vs.0 in
    ends Gives (v ∷ vs.0) a u0 w p1 record {
      within = s0.within;
      parens_same = q0;
      braces_same = r0;
      items_more = omega (arith, i0);
      facts = ((name_checked b ABuffer v chk refl, s0.facts.0), let x : a.names + 1 + length x0 ≤ u0.names = s0.facts.1 in longer a.names (length x0) u0.names x);
    }

more_gives_good : Good MoreGives (on (Word m.Comma) (Part GiveName ∷ Part MoreGives ∷ []) Free (λ t vs. vs.0 ∷ vs.1.0))
more_gives_good v a w vs fine chk p0 here =
    let b = measure a (Some Free) (tok (Word m.Comma) v) in
    let wb = checked b (tok (Word m.Comma) v) chk in
    let u0 = p0.0 in
    let s0 = p0.1 wb in
    let p1 = p0.2 in
    let q0 : u0.parens ≡ a.parens = s0.parens_same in
    let r0 : u0.braces ≡ a.braces = s0.braces_same in
    let i0 : a.items ≤ u0.items = s0.items_more in
    let u1 = p1.0 in
    let s1 = p1.1 s0.within in
    let p2 = p1.2 in
    let q1 : u1.parens ≡ u0.parens = s1.parens_same in
    let r1 : u1.braces ≡ u0.braces = s1.braces_same in
    let i1 : u0.items ≤ u1.items = s1.items_more in
    let x0 = vs.0 in
    let x1 = vs.1.0 in
    ends MoreGives (vs.0 ∷ vs.1.0) a u1 w p2 record {
      within = s1.within;
      parens_same = q1 ∙ q0;
      braces_same = r1 ∙ r0;
      items_more = omega (arith, i0, i1);
      facts = ((s0.facts.0, s1.facts.0), let x : a.names + 1 ≤ u0.names = s0.facts.1 in let y : u0.names + length x1 ≤ u1.names = s1.facts.1 in longer a.names (length x1) u1.names (omega (arith, x, y)));
    }

make_fits : (x : ℕ) (d : Dim) (c : CellKind) (ms : List Make) → FitsDim d → FitsCell c → FitsMakes ms → FitsMakes (record { buf = x; len = d; cell = c } ∷ ms)
make_fits x d c ms hd hc h = (hd, hc, h)

make_good : Good Makes (on (Word m.New) (Part NewBuffer ∷ Fixed (Word m.BracketOpen) ∷ Part DimOrNumber ∷ Fixed (Word m.BracketClose) ∷ Part Kind ∷ Part Makes ∷ []) Item (λ t vs. record { buf = vs.0; len = vs.1.0; cell = vs.1.1.0 } ∷ vs.1.1.1.0))
make_good v a w vs fine chk p0 here =
    let b = measure a (Some Item) (tok (Word m.New) v) in
    let wb = checked b (tok (Word m.New) v) chk in
    let u0 = p0.0 in
    let s0 = p0.1 wb in
    let p1 = p0.2 in
    let q0 : u0.parens ≡ a.parens = s0.parens_same in
    let r0 : u0.braces ≡ a.braces = s0.braces_same in
    let i0 : a.items + 1 ≤ u0.items = s0.items_more in
    let b1 = measure u0 None (tok (Word m.BracketOpen) p1.0) in
    let w1 = checked b1 (tok (Word m.BracketOpen) p1.0) p1.1 in
    let p2 = p1.2 in
    let u1 = p2.0 in
    let s1 = p2.1 w1 in
    let p3 = p2.2 in
    let q1 : u1.parens ≡ u0.parens = s1.parens_same in
    let r1 : u1.braces ≡ u0.braces = s1.braces_same in
    let i1 : u0.items ≤ u1.items = s1.items_more in
    let b3 = measure u1 None (tok (Word m.BracketClose) p3.0) in
    let w3 = checked b3 (tok (Word m.BracketClose) p3.0) p3.1 in
    let p4 = p3.2 in
    let u2 = p4.0 in
    let s2 = p4.1 w3 in
    let p5 = p4.2 in
    let q2 : u2.parens ≡ u1.parens = s2.parens_same in
    let r2 : u2.braces ≡ u1.braces = s2.braces_same in
    let i2 : u1.items ≤ u2.items = s2.items_more in
    let u3 = p5.0 in
    let s3 = p5.1 s2.within in
    let p6 = p5.2 in
    let q3 : u3.parens ≡ u2.parens = s3.parens_same in
    let r3 : u3.braces ≡ u2.braces = s3.braces_same in
    let i3 : u2.items ≤ u3.items = s3.items_more in
    let x0 = vs.0 in
    let x1 = vs.1.0 in
    let x2 = vs.1.1.0 in
    let x3 = vs.1.1.1.0 in
    ends Makes (record { buf = vs.0; len = vs.1.0; cell = vs.1.1.0 } ∷ vs.1.1.1.0) a u3 w p6 record {
      within = s3.within;
      parens_same = q3 ∙ q2 ∙ q1 ∙ q0;
      braces_same = r3 ∙ r2 ∙ r1 ∙ r0;
      items_more = omega (arith, i0, i1, i2, i3);
      facts = ((s0.facts, s3.facts.0), make_fits x0 x1 x2 x3 s1.facts.0 s2.facts s3.facts.1, let f = s3.facts.2 in longer a.items (length x3) u3.items (omega (arith, f, i0, i1, i2)));
    }

abbrev line_of : ℕ → Shape → LineTree
line_of d (Takes e) = tree.Of d e
line_of d (Times a b) = tree.Product d a b
line_of d (Follows a) = tree.Successor d a

line_named : (d : ℕ) (x : Shape) → d < 2 ^ 32 → ShapeFacts x → NamedLine (line_of d x)
line_named d (Takes e) h f = (h, f.0)
line_named d (Times a b) h f = h
line_named d (Follows a) h f = h

line_fits : (d : ℕ) (x : Shape) → ShapeFacts x → FitsLine (line_of d x)
line_fits d (Takes e) f = f.1
line_fits d (Times a b) f = f
line_fits d (Follows a) f = f

abbrev shape_of : Dim → Operator → Shape
shape_of d (ByDim e) = Times d e
shape_of d ByOne = Follows d

shape_fits : (d : Dim) (o : Operator) → FitsDim d → OperatorFacts o → ShapeFacts (shape_of d o)
shape_fits d (ByDim e) h f = (h, f)
shape_fits d ByOne h f = h

line_good : Good DimLines (on (Word m.Dim) (Part DimName ∷ Part LineTail ∷ Part DimLines ∷ []) Item (λ t vs. line_of vs.0 vs.1.0 ∷ vs.1.1.0))
line_good v a w vs fine chk p0 here =
    let b = measure a (Some Item) (tok (Word m.Dim) v) in
    let wb = checked b (tok (Word m.Dim) v) chk in
    let u0 = p0.0 in
    let s0 = p0.1 wb in
    let p1 = p0.2 in
    let q0 : u0.parens ≡ a.parens = s0.parens_same in
    let r0 : u0.braces ≡ a.braces = s0.braces_same in
    let i0 : a.items + 1 ≤ u0.items = s0.items_more in
    let u1 = p1.0 in
    let s1 = p1.1 s0.within in
    let p2 = p1.2 in
    let q1 : u1.parens ≡ u0.parens = s1.parens_same in
    let r1 : u1.braces ≡ u0.braces = s1.braces_same in
    let i1 : u0.items ≤ u1.items = s1.items_more in
    let u2 = p2.0 in
    let s2 = p2.1 s1.within in
    let p3 = p2.2 in
    let q2 : u2.parens ≡ u1.parens = s2.parens_same in
    let r2 : u2.braces ≡ u1.braces = s2.braces_same in
    let i2 : u1.items ≤ u2.items = s2.items_more in
    let x0 = vs.0 in
    let x1 = vs.1.0 in
    let x2 = vs.1.1.0 in
    ends DimLines (line_of vs.0 vs.1.0 ∷ vs.1.1.0) a u2 w p3 record {
      within = s2.within;
      parens_same = q2 ∙ q1 ∙ q0;
      braces_same = r2 ∙ r1 ∙ r0;
      items_more = omega (arith, i0, i1, i2);
      facts = ((line_named x0 x1 s0.facts.0 s1.facts, s2.facts.0), (line_fits x0 x1 s1.facts, s2.facts.1), let f = s2.facts.2 in longer a.items (length x2) u2.items (omega (arith, f, i0, i1)));
    }

takes_good : Good LineTail (on (Word m.Of) (Part Sum ∷ []) Free (λ t vs. Takes vs.0))
takes_good v a w vs fine chk p0 here =
    let b = measure a (Some Free) (tok (Word m.Of) v) in
    let wb = checked b (tok (Word m.Of) v) chk in
    let u0 = p0.0 in
    let s0 = p0.1 wb in
    let p1 = p0.2 in
    let q0 : u0.parens ≡ a.parens = s0.parens_same in
    let r0 : u0.braces ≡ a.braces = s0.braces_same in
    let i0 : a.items ≤ u0.items = s0.items_more in
    let x0 = vs.0 in
    ends LineTail (Takes vs.0) a u0 w p1 record {
      within = s0.within;
      parens_same = q0;
      braces_same = r0;
      items_more = omega (arith, i0);
      facts = (s0.facts.0, term_fits x0 b.nodes u0.nodes b.parens s0.facts s0.within.nodes);
    }

shape_good : Good LineTail (on (Word m.Equal) (Part DimOrNumber ∷ Part Behind ∷ []) Free (λ t vs. shape_of vs.0 vs.1.0))
shape_good v a w vs fine chk p0 here =
    let b = measure a (Some Free) (tok (Word m.Equal) v) in
    let wb = checked b (tok (Word m.Equal) v) chk in
    let u0 = p0.0 in
    let s0 = p0.1 wb in
    let p1 = p0.2 in
    let q0 : u0.parens ≡ a.parens = s0.parens_same in
    let r0 : u0.braces ≡ a.braces = s0.braces_same in
    let i0 : a.items ≤ u0.items = s0.items_more in
    let u1 = p1.0 in
    let s1 = p1.1 s0.within in
    let p2 = p1.2 in
    let q1 : u1.parens ≡ u0.parens = s1.parens_same in
    let r1 : u1.braces ≡ u0.braces = s1.braces_same in
    let i1 : u0.items ≤ u1.items = s1.items_more in
    let x0 = vs.0 in
    let x1 = vs.1.0 in
    ends LineTail (shape_of vs.0 vs.1.0) a u1 w p2 record {
      within = s1.within;
      parens_same = q1 ∙ q0;
      braces_same = r1 ∙ r0;
      items_more = omega (arith, i0, i1);
      facts = shape_fits x0 x1 s0.facts.0 s1.facts;
    }

times_good : Good Behind (on (Word m.Star) (Part DimOrNumber ∷ []) Free (λ t vs. ByDim vs.0))
times_good v a w vs fine chk p0 here =
    let b = measure a (Some Free) (tok (Word m.Star) v) in
    let wb = checked b (tok (Word m.Star) v) chk in
    let u0 = p0.0 in
    let s0 = p0.1 wb in
    let p1 = p0.2 in
    let q0 : u0.parens ≡ a.parens = s0.parens_same in
    let r0 : u0.braces ≡ a.braces = s0.braces_same in
    let i0 : a.items ≤ u0.items = s0.items_more in
    let x0 = vs.0 in
    ends Behind (ByDim vs.0) a u0 w p1 record {
      within = s0.within;
      parens_same = q0;
      braces_same = r0;
      items_more = omega (arith, i0);
      facts = s0.facts.0;
    }

one_more_good : Good Behind (on (Word m.Plus) (Fixed AOne ∷ []) Free (λ t _. ByOne))
one_more_good v a w vs fine chk p0 here =
    let b = measure a (Some Free) (tok (Word m.Plus) v) in
    let wb = checked b (tok (Word m.Plus) v) chk in
    let b0 = measure b None (tok AOne p0.0) in
    let w0 = checked b0 (tok AOne p0.0) p0.1 in
    let p1 = p0.2 in
    ends Behind (ByOne) a b0 w p1 record {
      within = w0;
      parens_same = refl;
      braces_same = refl;
      items_more = le_self a.items;
      facts = tt;
    }

phase_good : Good Phases (on (Word m.Phase) (Fixed (Word m.BraceOpen) ∷ Part Makes ∷ Fixed (Word m.Do) ∷ Part BlockPart ∷ Part DimLines ∷ Fixed (Word m.BraceClose) ∷ Part Phases ∷ []) Free (λ t vs. record { makes = vs.0; body = vs.1.0; lines = vs.1.1.0 } ∷ vs.1.1.1.0))
phase_good v a w vs fine chk p0 here =
    let b0 = measure (measure a (Some Free) (tok (Word m.Phase) v)) None (tok (Word m.BraceOpen) p0.0) in
    let p1 = p0.2 in
    let u1 = p1.0 in
    let s1 = p1.1 (checked b0 (tok (Word m.BraceOpen) p0.0) p0.1) in
    let p2 = p1.2 in
    let b2 = measure u1 None (tok (Word m.Do) p2.0) in
    let p3 = p2.2 in
    let u3 = p3.0 in
    let s3 = p3.1 (checked b2 (tok (Word m.Do) p2.0) p2.1) in
    let p4 = p3.2 in
    let u4 = p4.0 in
    let s4 = p4.1 s3.within in
    let p5 = p4.2 in
    let b5 = measure u4 None (tok (Word m.BraceClose) p5.0) in
    let p6 = p5.2 in
    let u6 = p6.0 in
    let s6 = p6.1 (checked b5 (tok (Word m.BraceClose) p5.0) p5.1) in
    let p7 = p6.2 in
    let q1 : u1.parens ≡ a.parens = s1.parens_same in
    let q3 : u3.parens ≡ u1.parens = s3.parens_same in
    let q4 : u4.parens ≡ u3.parens = s4.parens_same in
    let q6 : u6.parens ≡ u4.parens = s6.parens_same in
    let r1 : u1.braces ≡ a.braces + 1 = s1.braces_same in
    let r3 : u3.braces ≡ u1.braces = s3.braces_same in
    let r4 : u4.braces ≡ u3.braces = s4.braces_same in
    let r6 : u6.braces ≡ u4.braces - 1 = s6.braces_same in
    let i1 : a.items ≤ u1.items = s1.items_more in
    let i3 : u1.items ≤ u3.items = s3.items_more in
    let i4 : u3.items ≤ u4.items = s4.items_more in
    let i6 : u4.items ≤ u6.items = s6.items_more in
    let makes = vs.0 in
    let body = vs.1.0 in
    let lines = vs.1.1.0 in
    let more = vs.1.1.1.0 in
    let n1 : a.items + length makes ≤ u1.items = s1.facts.2 in
    let n3 : u1.items + count body ≤ u3.items = s3.facts.2 in
    let n4 : u3.items + length lines ≤ u4.items = s4.facts.2 in
    let deep : u1.braces + 1 + depth body ≤ 67 = s3.facts.3 in
    ends Phases (record { makes = makes; body = body; lines = lines } ∷ more) a u6 w p7 record {
      within = s6.within;
      parens_same = q6 ∙ q4 ∙ q3 ∙ q1;
      braces_same = omega (arith, r1, r3, r4, r6);
      items_more = omega (arith, i1, i3, i4, i6);
      facts = λ some.
          let f = s6.facts (omega (arith, r1, r3, r4, some)) in
          let n6 : u4.items + items more ≤ u6.items = f.2 in
          let shallow : depth body ≤ 64 = omega (arith, deep, r1, some) in
          ((s1.facts.0, s3.facts.0, s4.facts.0, f.0), (s1.facts.1, s3.facts.1, shallow, s4.facts.1, f.1), omega (arith, n1, n3, n4, n6));
    }

whole_good : Good Whole (on (Word m.Code) (Part table.Count ∷ Fixed (Word m.BraceOpen) ∷ Part Phases ∷ Fixed (Word m.Give) ∷ Part Gives ∷ Fixed (Word m.BraceClose) ∷ []) Free (λ t vs. record { sources = vs.0; phases = vs.1.0; give = vs.1.1.0 }))
whole_good v a w vs fine chk p0 here =
    let b = measure a (Some Free) (tok (Word m.Code) v) in
    let u0 = p0.0 in
    let s0 = p0.1 (checked b (tok (Word m.Code) v) chk) in
    let p1 = p0.2 in
    let b1 = measure u0 None (tok (Word m.BraceOpen) p1.0) in
    let p2 = p1.2 in
    let u2 = p2.0 in
    let s2 = p2.1 (checked b1 (tok (Word m.BraceOpen) p1.0) p1.1) in
    let p3 = p2.2 in
    let b3 = measure u2 None (tok (Word m.Give) p3.0) in
    let p4 = p3.2 in
    let u4 = p4.0 in
    let s4 = p4.1 (checked b3 (tok (Word m.Give) p3.0) p3.1) in
    let p5 = p4.2 in
    let b5 = measure u4 None (tok (Word m.BraceClose) p5.0) in
    let q0 : u0.parens ≡ a.parens = s0.parens_same in
    let q2 : u2.parens ≡ u0.parens = s2.parens_same in
    let q4 : u4.parens ≡ u2.parens = s4.parens_same in
    let r0 : u0.braces ≡ a.braces = s0.braces_same in
    let r2 : u2.braces ≡ u0.braces + 1 = s2.braces_same in
    let r4 : u4.braces ≡ u2.braces = s4.braces_same in
    let i0 : a.items ≤ u0.items = s0.items_more in
    let i2 : u0.items ≤ u2.items = s2.items_more in
    let i4 : u2.items ≤ u4.items = s4.items_more in
    let f = s2.facts (let one : 1 ≤ u0.braces + 1 = omega arith in one) in
    let n2 : u0.items + items vs.1.0 ≤ u2.items = f.2 in
    let most = s2.within.items in
    let n4 : 0 + length vs.1.1.0 ≤ u4.names = s4.facts.1 in
    let most_names = s4.within.names in
    ends Whole record { sources = vs.0; phases = vs.1.0; give = vs.1.1.0 } a b5 w p5.2 record {
      within = checked b5 (tok (Word m.BraceClose) p5.0) p5.1;
      parens_same = q4 ∙ q2 ∙ q0;
      braces_same = omega (arith, r0, r2, r4);
      items_more = omega (arith, i0, i2, i4);
      facts = (record { sources = s0.facts; phases = f.1; items = omega (arith, n2, most); give = omega (arith, n4, most_names) }, record { phases = f.0; give = s4.facts.0 });
    }

count_leaf : (k : Class) (v : ℕ) (a w : Count) → check (measure a (Some SourceCount) (tok k v)) (tok k v) ≡ None → (measure a (Some SourceCount) (tok k v)).parens ≡ a.parens → (measure a (Some SourceCount) (tok k v)).braces ≡ a.braces → measure a (Some SourceCount) (tok k v) ≡ w → Cost table.Count v a w
count_leaf k v a w chk parens_are braces_are e here =
    let b = measure a (Some SourceCount) (tok k v) in
    let in_b = checked b (tok k v) chk in
    ends table.Count v a b w e record { within = in_b; parens_same = parens_are; braces_same = braces_are; items_more = le_self a.items; facts = in_b.sources }

count_good : AllGood table.Count (number SourceCount (λ k. k))
count_good = (
  (λ v a w vs fine chk p. count_leaf AZero v a w chk refl refl p),
  (
    (λ v a w vs fine chk p. count_leaf AOne v a w chk refl refl p),
    (
      (λ v a w vs fine chk p. count_leaf AMany v a w chk refl refl p),
      tt,
    ),
  ),
)

-- Each part of the table

good : (n : Nonterminal) → AllGood n (choices n)
good Whole = (whole_good, tt)
good table.Count = count_good
good Phases = (phase_good, tt)
good Gives = (gives_good, tt)
good MoreGives = (more_gives_good, tt)
good GiveName = (give_name, tt)
good Makes = (make_good, tt)
good Kind = ((λ v a w vs fine chk p. same_counts Kind cell.Word a w p tt), (kind_below, tt))
good DimOrNumber = dims_good
good DimLines = (line_good, tt)
good LineTail = (takes_good, (shape_good, tt))
good Behind = (times_good, (one_more_good, tt))
good BlockPart = (block_good, tt)
good Stmts = (let_good, (var_good, (put_good, (set_good, (for_good, (if_good, (when_good, (order_good, tt))))))))
good LetTail = (load_new, (load_source, computed_good))
good ForTail = (upto_good, (spanned_good, tt))
good Relation = (less_good, (equal_good, tt))
good Else = (else_good, tt)
good Keys = keys_good
good MoreKeys = (more_keys_good, tt)
good Key = (key_new, (key_source, tt))
good Register = ((λ v a w vs fine chk p. same_counts Register v a w p (name_checked a ARegister v chk refl)), tt)
good DimName = ((λ v a w vs fine chk p. same_counts DimName v a w p (name_checked a ADimName v chk refl, le_self a.nodes)), tt)
good NewBuffer = ((λ v a w vs fine chk p. same_counts NewBuffer v a w p (name_checked a ABuffer v chk refl)), tt)
good Divisor = divisors_good
good Sum = sums_good
good SumTail = (plus_good, (minus_good, tt))
good Product = products_good
good ProductTail = (star_good, (slash_good, (percent_good, tt)))
good Atom = atoms_good

nothing_costs : (n : Nonterminal) (x : Value n) → empty n ≡ Some x → (y : Value n) → empty n ≡ Some y → ((a : Count) → Cost n y a a) → (a : Count) → Cost n x a a
nothing_costs n x e y f h a = subst (λ (z : Value n). Cost n z a a) (some_is y x (sym f ∙ e)) (h a)

free : (n : Nonterminal) (x : Value n) (a : Count) → (Within a → Facts n x a a) → Cost n x a a
free n x a f here = record { within = here; parens_same = refl; braces_same = refl; items_more = le_self a.items; facts = f here }

plus_zero : (n : ℕ) → n + 0 ≤ n
plus_zero n = omega arith

empties : (n : Nonterminal) (x : Value n) (a : Count) → empty n ≡ Some x → Cost n x a a
empties Phases x a e = nothing_costs Phases x e [] refl (λ a. free Phases [] a (λ here. λ some. (tt, tt, plus_zero a.items))) a
empties Gives x a e = nothing_costs Gives x e [] refl (λ a. free Gives [] a (λ here. (tt, plus_zero a.names))) a
empties MoreGives x a e = nothing_costs MoreGives x e [] refl (λ a. free MoreGives [] a (λ here. (tt, plus_zero a.names))) a
empties Makes x a e = nothing_costs Makes x e [] refl (λ a. free Makes [] a (λ here. (tt, tt, plus_zero a.items))) a
empties DimLines x a e = nothing_costs DimLines x e [] refl (λ a. free DimLines [] a (λ here. (tt, tt, plus_zero a.items))) a
empties Stmts x a e = nothing_costs Stmts x e tree.End refl (λ a. free Stmts tree.End a (λ here. (tt, tt, plus_zero a.items, let h = here.braces in omega (arith, h)))) a
empties Else x a e = nothing_costs Else x e None refl (λ a. free Else None a (λ here. tt)) a
empties MoreKeys x a e = nothing_costs MoreKeys x e [] refl (λ a. free MoreKeys [] a (λ here. (tt, plus_zero a.names))) a
empties SumTail x a e = nothing_costs SumTail x e (λ t. t) refl (λ a. free SumTail (λ t. t) a (λ here. λ n t f. f)) a
empties ProductTail x a e = nothing_costs ProductTail x e (λ t. t) refl (λ a. free ProductTail (λ t. t) a (λ here. λ n t f. f)) a
empties _ x a e = absurd cc

-- The machine goes through a row at the cost of its parts

picked_at : (n : Nonterminal) (y : Pick grammar n) (ys : List (Pick grammar n)) (c : Class) (x : Pick grammar n) (b : Bool) → same y.first c ≡ b → Good n y → (pick grammar ys c ≡ Some x → Good n x × (same x.first c ≡ true)) → cond b (Some y) (pick grammar ys c) ≡ Some x → Good n x × (same x.first c ≡ true)
picked_at n y ys c x true is g go e = subst (λ (z : Pick grammar n). Good n z × (same z.first c ≡ true)) (some_is y x e) (g, is)
picked_at n y ys c x false is g go e = go e

picked : (n : Nonterminal) (ys : List (Pick grammar n)) (c : Class) (x : Pick grammar n) → AllGood n ys → pick grammar ys c ≡ Some x → Good n x × (same x.first c ≡ true)
picked n [] c x g e = some_none x None e refl
picked n (y ∷ ys) c x g e = picked_at n y ys c x (same y.first c) refl g.0 (λ h. picked n ys c x g.1 h) e

by_choice : (n : Nonterminal) (x : Pick grammar n) (t : Token) (a w : Count) (vs : Values grammar x.rest) → Good n x → x.first ≡ t.class → Fine t.class t.value → check (measure a (Some x.note) t) t ≡ None → Passes x.rest vs (measure a (Some x.note) t) w → Cost n (x.value t vs) a w
by_choice n x t a w vs g e =
    subst (λ (c : Class). Fine c t.value → check (measure a (Some x.note) (tok c t.value)) (tok c t.value) ≡ None → Passes x.rest vs (measure a (Some x.note) (tok c t.value)) w → Cost n (x.value (tok c t.value) vs) a w) e (g t.value a w vs)

by_fixed : (c : Class) (s : Row grammar) (t : Token) (a w : Count) (vs : Values grammar s) → c ≡ t.class → check (measure a None t) t ≡ None → Passes s vs (measure a None t) w → Passes (Fixed c ∷ s) vs a w
by_fixed c s t a w vs e chk p =
    let q = subst (λ (d : Class). (check (measure a None (tok d t.value)) (tok d t.value) ≡ None) × Passes s vs (measure a None (tok d t.value)) w) (sym e) (chk, p) in
    (t.value, q.0, q.1)

-- what is told of a token that was taken
abbrev Taking : (s : Row grammar) (t : Token) (a w : Count) → Next grammar s → Type 0
Taking s t a w u = (bs : Values grammar u.row) → check (measure a u.note t) t ≡ None → Passes u.row bs (measure a u.note t) w → Passes s (u.back bs) a w

fixed_step : (c : Class) (s : Row grammar) (t : Token) (a w : Count) (u : Next grammar (Fixed c ∷ s)) (b : Bool) → same c t.class ≡ b → cond b (Some (behind grammar c s)) None ≡ Some u → Taking (Fixed c ∷ s) t a w u
fixed_step c s t a w u true is e = subst (Taking (Fixed c ∷ s) t a w) (some_is (behind grammar c s) u e) (λ bs chk p. by_fixed c s t a w bs (sound.table.same_is c t.class is) chk p)
fixed_step c s t a w u false is e = some_none u None e refl

part_step : (n : Nonterminal) (s : Row grammar) (t : Token) (a w : Count) (u : Next grammar (Part n ∷ s)) → Fine t.class t.value → ((z : Next grammar s) → step grammar s t ≡ Some z → Taking s t a w z)
    → (o : Option (Next grammar s)) → step grammar s t ≡ o → (v : Option (Value n)) → empty n ≡ v → (x : Option (Pick grammar n)) → pick grammar (choices n) t.class ≡ x → expand grammar n s t o v x ≡ Some u → Taking (Part n ∷ s) t a w u
part_step n s t a w u fine go o io v iv (Some x) ix e =
    let g = picked n (choices n) t.class x (good n) ix in
    subst (Taking (Part n ∷ s) t a w) (some_is (opened grammar n s t x) u e)
    (λ bs chk p.
    let q = passes_split x.rest s bs (measure a (Some x.note) t) w p in
    (q.0, by_choice n x t a q.0 (append_left Value x.rest s bs) g.0 (sound.table.same_is x.first t.class g.1) fine chk q.1, q.2))
part_step n s t a w u fine go (Some z) io (Some v) iv None ix e =
    subst (Taking (Part n ∷ s) t a w) (some_is (past grammar n s v z) u e) (λ bs chk p. (a, empties n v a iv, go z io bs chk p))
part_step n s t a w u fine go None io (Some v) iv None ix e = some_none u None e refl
part_step n s t a w u fine go o io None iv None ix e = some_none u None e refl

step_taking : (s : Row grammar) (t : Token) (a w : Count) (u : Next grammar s) → Fine t.class t.value → step grammar s t ≡ Some u → Taking s t a w u
step_taking [] t a w u fine e = some_none u None e refl
step_taking (Fixed c ∷ s) t a w u fine e = fixed_step c s t a w u (same c t.class) refl e
step_taking (Part n ∷ s) t a w u fine e = part_step n s t a w u fine (λ z h. step_taking s t a w z fine h) (step grammar s t) refl (empty n) refl (pick grammar (choices n) t.class) refl e

abbrev AllFine : List Token → Type 0
AllFine [] = Unit {0}
AllFine (t ∷ ts) = Fine t.class t.value × AllFine ts

empty_row : (s : Row grammar) (vs : Values grammar s) (a : Count) → Empties grammar s vs → Passes s vs a a
empty_row [] vs a h = refl
empty_row (Fixed c ∷ s) vs a h = absurd h
empty_row (Part n ∷ s) vs a h = (a, empties n vs.0 a h.0, empty_row s vs.1 a h.1)

first_fits : (x o : Option Break) → or_else grammar limits x o ≡ None → (x ≡ None) × (o ≡ None)
first_fits None o e = (refl, e)
first_fits (Some x) o e = absurd cc

kept : (ts : List Token) (s : Row grammar) (vs : Values grammar s) (a : Count) → AllFine ts → flows grammar s [] ≡ true → Spells grammar ts s vs → breaks grammar limits ts a s ≡ None → (w : Count) × Passes s vs a w
kept [] s vs a fine fl sp e = (a, empty_row s vs a sp)
kept (t ∷ ts) s vs a fine fl sp e =
    let p = taken grammar sound.table s t (λ u. (bs : Values grammar u.row) × Spells grammar ts u.row bs × (u.back bs ≡ vs)) fl sp in
    let f = first_fits (check (measure a p.next.note t) t) (breaks grammar limits ts (measure a p.next.note t) p.next.row) (sym (ap (broken_at grammar limits t s a (breaks grammar limits ts)) p.is) ∙ e) in
    let q = kept ts p.next.row p.outcome.0 (measure a p.next.note t) fine.1 p.clean p.outcome.1 f.1 in
    (q.0, subst (λ (z : Values grammar s). Passes s z a q.0) p.outcome.2 (step_taking s t a q.0 p.next fine.0 p.is p.outcome.0 f.0 q.1))

-- the tokens of a text
fine_token : (l : Lexeme) → Fine (token l).class (token l).value
fine_token (lexeme.Fixed k) = tt
fine_token (lexeme.Register n) = tt
fine_token (lexeme.Buffer n) = tt
fine_token (lexeme.DimName n) = tt
fine_token (lexeme.Source n) = tt
fine_token (lexeme.Length n) = tt
fine_token (lexeme.Number zero) = refl
fine_token (lexeme.Number (suc zero)) = refl
fine_token (lexeme.Number (suc (suc n))) = omega arith

fine_text : (xs : List (Placed Lexeme)) (l : Lexeme) → AllFine (tokens_of grammar limits xs ++ (token l ∷ []))
fine_text [] l = (fine_token l, tt)
fine_text (x ∷ xs) l = (fine_token x.kind, fine_text xs l)

pub reading_keeps : (all : Text Lexeme) (p : ProgramTree) (behind : ℕ) (more : Text Lexeme) → answer grammar limits Whole all ≡ Read p behind more → KeepsLimits p × IsNamed p
reading_keeps all p behind more e =
    let r : IsRead grammar limits Whole all p behind more = subst (λ z. Means grammar limits Whole all z) e (answer_means grammar limits Whole sound.table all) in
    let ts = tokens_of grammar limits r.front ++ (token r.kind ∷ []) in
    let q = kept ts (Part Whole ∷ []) (p, tt) nothing (fine_text r.front r.kind) refl r.spelled r.kept in
    let within : Within nothing = record { items = lit≤ tt; braces = lit≤ tt; nodes = lit≤ tt; parens = lit≤ tt; names = lit≤ tt; sources = lit≤ tt } in
    (q.1.1 within).facts
