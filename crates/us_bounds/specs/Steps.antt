-- What the check of an item, or of some items, answers.
use Rattle.std.specs.Prelude.{◌≡◌, ℕ, ◌+◌, Bool, false, List, [], ◌∷◌, Option, Some, None, Result, Ok, Err}
use Rattle.us_code.specs.declared.program.Dim.{Dim}
use Rattle.us_code.specs.declared.program.CellKind.TheVariants as kind
use Rattle.us_code.specs.Plain.{Code, TermTree, LineTree}
use Rattle.us_code.specs.Names.{count}
use Rattle.us_code.specs.Typing.{Context, outer, with_reg, with_line}
use Rattle.us_code.specs.Unbound as unbound
use Rattle.us_code.specs.Unbound.{Break, broken_in, broken_lines, keeps_flats, keeps_nexts}
use Rattle.us_bounds.specs.declared.stop.Rule.{Rule}
use Rattle.us_bounds.specs.declared.stop.Stop.{Stop}
use Rattle.us_bounds.specs.declared.stop.Stop.TheVariants.{Broken, Memory}

abbrev pub plain_rule : Rule → unbound.Rule
plain_rule r = unbound.rule r.0 r.1

-- a check that answers the first break `o`
abbrev pub Steps : {A : Type 0} → Result A Stop → Option Break → Type 0
Steps (Ok x) o = o ≡ None
Steps (Err (Broken i n)) o = o ≡ Some record { item = i; rule = n }
Steps (Err Memory) o = Unit {0}

pub record IsStep {A : Type 0} (r : Result A Stop) (o : Option Break) : Type 0 where
  pub step : Steps r o

-- the same, which leads to item m and to what is visible in h; `new` is what the table then has
abbrev pub LeadsTo : Option Break → ℕ → Context → Context → Result ℕ Stop → Type 0
LeadsTo o m h new (Ok n) = (o ≡ None) × (n ≡ m) × (new ≡ h)
LeadsTo o m h new (Err (Broken i n)) = o ≡ Some record { item = i; rule = n }
LeadsTo o m h new (Err Memory) = Unit {0}

pub record Leads (o : Option Break) (m : ℕ) (h new : Context) (r : Result ℕ Stop) : Type 0 where
  pub leads : LeadsTo o m h new r

-- the check of a block, behind which its own registers are visible
abbrev pub Checks : Context → ℕ → Code → Context → Result ℕ Stop → Type 0
Checks g i c new r = Leads (broken_in g i c) (i + count c) (outer g c) new r

-- the check of a block, behind which all is visible as before
abbrev pub Passes : Context → ℕ → Code → Context → Result ℕ Stop → Type 0
Passes g i c new r = Leads (broken_in g i c) (i + count c) g new r

-- the check of the block of a scope, in which a register is below d
abbrev pub ChecksScope : Context → ℕ → ℕ → Dim → Code → Context → Result ℕ Stop → Type 0
ChecksScope g i r d c new result = Leads (broken_in (with_reg g r false (kind.Below d)) i c) (i + count c) g new result

-- the check of a dim line
abbrev pub ChecksLine : Context → ℕ → LineTree → Context → Result ℕ Stop → Type 0
ChecksLine g i l new r = Leads (broken_lines g i (l ∷ [])) (i + 1) (with_line g l) new r

-- the rules of an item of one term, where `names` says whether it keeps the first
abbrev pub term_rules : Context → Bool → TermTree → List unbound.Rule
term_rules g names e = unbound.rule 1 names ∷ unbound.rule 5 (keeps_flats g e) ∷ unbound.rule 6 (keeps_nexts g e) ∷ []

-- what is checked so far leads on: the rest breaks first where the whole does, and ends at the same item with the same names
pub record Ahead (o o' : Option Break) (m m' : ℕ) (h h' : Context) : Type 0 where
  pub breaks : o ≡ o'
  pub number : m ≡ m'
  pub seen : h ≡ h'
