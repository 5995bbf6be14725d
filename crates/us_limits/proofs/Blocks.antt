-- Blocks keep the limits, statement by statement.
use Rattle.std.proofs.Common.{◌≡◌, ℕ, ◌+◌, ◌≤◌, Bool, List, length, arith}
use Rattle.us_code.specs.declared.program.Dim.{Dim}
use Rattle.us_code.specs.declared.program.Buf.{Buf}
use Rattle.us_code.specs.Plain.{TermTree, Code, End, Let, Load, Var, Put, Set, For, Span, If, When, Order, ◌+++◌}
use Rattle.us_code.specs.Names.{count}
use Rattle.us_code.specs.Limits.{FitsDim, FitsTerm, FitsTerms, depth}
use Rattle.us_limits.specs.Small.{Small}
use Rattle.us_limits.specs.Laws.{BlocksKeepLimits}

pub block-looser : {m n d e : ℕ} {c : Code} → m ≤ n → d ≤ e → Small m d c → Small n e c
block-looser few low s = record { terms = s.terms; deep = omega (arith, low, s.deep); long = omega (arith, few, s.long) }

-- ---- one lemma for each statement

pub end-small : {d : ℕ} → 1 ≤ d → Small 0 d End
end-small deep = record { terms = tt; deep = omega (arith, deep); long = omega arith }

pub let-small : {n d r : ℕ} {e : TermTree} {rest : Code} → FitsTerm e → Small n d rest → Small (1 + n) d (Let r e rest)
let-small f s = record { terms = (f, s.terms); deep = s.deep; long = omega (arith, s.long) }

pub load-small : {n d r : ℕ} {b : Buf} {at : TermTree} {rest : Code} → FitsTerm at → Small n d rest → Small (1 + n) d (Load r b at rest)
load-small f s = record { terms = (f, s.terms); deep = s.deep; long = omega (arith, s.long) }

pub var-small : {n d r : ℕ} {e : TermTree} {rest : Code} → FitsTerm e → Small n d rest → Small (1 + n) d (Var r e rest)
var-small f s = record { terms = (f, s.terms); deep = s.deep; long = omega (arith, s.long) }

pub put-small : {n d r : ℕ} {e : TermTree} {rest : Code} → FitsTerm e → Small n d rest → Small (1 + n) d (Put r e rest)
put-small f s = record { terms = (f, s.terms); deep = s.deep; long = omega (arith, s.long) }

pub set-small : {n d : ℕ} {b : Buf} {at e : TermTree} {rest : Code} → FitsTerm at → FitsTerm e → Small n d rest → Small (1 + n) d (Set b at e rest)
set-small f g s = record { terms = (f, g, s.terms); deep = s.deep; long = omega (arith, s.long) }

pub for-small : {m n d r : ℕ} {below : Dim} {body rest : Code} → FitsDim below → Small m d body → Small n (1 + d) rest → Small (1 + m + n) (1 + d) (For r below body rest)
for-small f s t = record { terms = (f, s.terms, t.terms); deep = omega (arith, s.deep, t.deep); long = omega (arith, s.long, t.long) }

pub span-small : {m n d r : ℕ} {first end : TermTree} {below : Dim} {body rest : Code} → FitsTerm first → FitsTerm end → FitsDim below → Small m d body → Small n (1 + d) rest
    → Small (1 + m + n) (1 + d) (Span r first end below body rest)
span-small f g h s t = record { terms = (f, g, h, s.terms, t.terms); deep = omega (arith, s.deep, t.deep); long = omega (arith, s.long, t.long) }

pub if-small : {m n k d : ℕ} {l : TermTree} {equal : Bool} {r : TermTree} {body : Code} {given : Bool} {other rest : Code} → FitsTerm l → FitsTerm r → Small m d body → Small n d other → Small k (1 + d) rest
    → Small (1 + m + n + k) (1 + d) (If l equal r body given other rest)
if-small f g s t u = record { terms = (f, g, s.terms, t.terms, u.terms); deep = omega (arith, s.deep, t.deep, u.deep); long = omega (arith, s.long, t.long, u.long) }

pub when-small : {m n k d r : ℕ} {e : TermTree} {below : Dim} {body : Code} {given : Bool} {other rest : Code} → FitsTerm e → FitsDim below → Small m d body → Small n d other → Small k (1 + d) rest
    → Small (1 + m + n + k) (1 + d) (When e below r body given other rest)
when-small f g s t u = record { terms = (f, g, s.terms, t.terms, u.terms); deep = omega (arith, s.deep, t.deep, u.deep); long = omega (arith, s.long, t.long, u.long) }

pub order-small : {n d : ℕ} {b : Buf} {keys : List Buf} {rest : Code} → 1 ≤ length keys → length keys ≤ 4095 → Small n d rest → Small (1 + n) d (Order b keys rest)
order-small some few s = record { terms = (some, few, s.terms); deep = s.deep; long = omega (arith, s.long) }

-- ---- the same where nothing stands behind, and nothing else is done

pub only-for : {n d r : ℕ} {below : Dim} {body : Code} → FitsDim below → Small n d body → Small (1 + n) (1 + d) (For r below body End)
only-for f s = record { terms = (f, s.terms, tt); deep = omega (arith, s.deep); long = omega (arith, s.long) }

pub only-span : {n d r : ℕ} {first end : TermTree} {below : Dim} {body : Code} → FitsTerm first → FitsTerm end → FitsDim below → Small n d body → Small (1 + n) (1 + d) (Span r first end below body End)
only-span f g h s = record { terms = (f, g, h, s.terms, tt); deep = omega (arith, s.deep); long = omega (arith, s.long) }

pub only-if : {n d : ℕ} {l : TermTree} {equal : Bool} {r : TermTree} {body : Code} {given : Bool} → FitsTerm l → FitsTerm r → 1 ≤ d → Small n d body → Small (1 + n) (1 + d) (If l equal r body given End End)
only-if f g deep s = record { terms = (f, g, s.terms, tt, tt); deep = omega (arith, deep, s.deep); long = omega (arith, s.long) }

-- with the block behind `else` alone
pub only-else : {n d : ℕ} {l : TermTree} {equal : Bool} {r : TermTree} {given : Bool} {other : Code} → FitsTerm l → FitsTerm r → 1 ≤ d → Small n d other → Small (1 + n) (1 + d) (If l equal r End given other End)
only-else f g deep s = record { terms = (f, g, tt, s.terms, tt); deep = omega (arith, deep, s.deep); long = omega (arith, s.long) }

pub only-when : {n d r : ℕ} {e : TermTree} {below : Dim} {body : Code} {given : Bool} → FitsTerm e → FitsDim below → 1 ≤ d → Small n d body → Small (1 + n) (1 + d) (When e below r body given End End)
only-when f g deep s = record { terms = (f, g, s.terms, tt, tt); deep = omega (arith, deep, s.deep); long = omega (arith, s.long) }

-- ---- one block after the other

pub terms-append : (a b : Code) → FitsTerms a → FitsTerms b → FitsTerms (a +++ b)
terms-append End b f g = g
terms-append (Let r e rest) b f g = (f.0, terms-append rest b f.1 g)
terms-append (Load r x at rest) b f g = (f.0, terms-append rest b f.1 g)
terms-append (Var r e rest) b f g = (f.0, terms-append rest b f.1 g)
terms-append (Put r e rest) b f g = (f.0, terms-append rest b f.1 g)
terms-append (Set x at e rest) b f g = (f.0, f.1, terms-append rest b f.2 g)
terms-append (For r d body rest) b f g = (f.0, f.1, terms-append rest b f.2 g)
terms-append (Span r x y d body rest) b f g = (f.0, f.1, f.2, f.3, terms-append rest b f.4 g)
terms-append (If l eq r body given other rest) b f g = (f.0, f.1, f.2, f.3, terms-append rest b f.4 g)
terms-append (When e d r body given other rest) b f g = (f.0, f.1, f.2, f.3, terms-append rest b f.4 g)
terms-append (Order x keys rest) b f g = (f.0, f.1, terms-append rest b f.2 g)

pub count-append : (a b : Code) → count (a +++ b) ≡ count a + count b
count-append End b = omega arith
count-append (Let r e rest) b = omega (arith, count-append rest b)
count-append (Load r x at rest) b = omega (arith, count-append rest b)
count-append (Var r e rest) b = omega (arith, count-append rest b)
count-append (Put r e rest) b = omega (arith, count-append rest b)
count-append (Set x at e rest) b = omega (arith, count-append rest b)
count-append (For r d body rest) b = omega (arith, count-append rest b)
count-append (Span r x y d body rest) b = omega (arith, count-append rest b)
count-append (If l eq r body given other rest) b = omega (arith, count-append rest b)
count-append (When e d r body given other rest) b = omega (arith, count-append rest b)
count-append (Order x keys rest) b = omega (arith, count-append rest b)

pub depth-append : (d : ℕ) (a b : Code) → depth a ≤ d → depth b ≤ d → depth (a +++ b) ≤ d
depth-append d End b h k = k
depth-append d (Let r e rest) b h k = depth-append d rest b h k
depth-append d (Load r x at rest) b h k = depth-append d rest b h k
depth-append d (Var r e rest) b h k = depth-append d rest b h k
depth-append d (Put r e rest) b h k = depth-append d rest b h k
depth-append d (Set x at e rest) b h k = depth-append d rest b h k
depth-append d (For r x body rest) b h k = omega (arith, h, depth-append d rest b (omega (arith, h)) k)
depth-append d (Span r x y z body rest) b h k = omega (arith, h, depth-append d rest b (omega (arith, h)) k)
depth-append d (If l eq r body given other rest) b h k = omega (arith, h, depth-append d rest b (omega (arith, h)) k)
depth-append d (When e x r body given other rest) b h k = omega (arith, h, depth-append d rest b (omega (arith, h)) k)
depth-append d (Order x keys rest) b h k = depth-append d rest b h k

pub append-small : {m n d : ℕ} {a b : Code} → Small m d a → Small n d b → Small (m + n) d (a +++ b)
append-small {m} {n} {d} {a} {b} s t = record {
  terms = terms-append a b s.terms t.terms;
  deep = depth-append d a b s.deep t.deep;
  long = omega (arith, s.long, t.long, count-append a b);
}

pub blocks-keep-limits : BlocksKeepLimits
blocks-keep-limits = record {
  looser = λ m n d e c few low s. block-looser few low s;
  in_sequence = λ m n d a b s t. append-small s t;
}
