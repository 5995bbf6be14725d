-- What the loops leave of all levels.
use Rattle.std.proofs.Common.{◌≡◌, ◌≢◌, ℕ, suc, ◌+◌, ◌*◌, ◌^◌, ◌<◌, ◌≤◌, Bool, true, false, cond, eqb, refl, sym, ap, ◌∙◌, subst, arith, List, [], ◌∷◌, length, pos, negsuc, ℤ, ◌+ℤ◌, Option, Some, None, suc-mul}
use Rattle.std.specs.Prelude.{slice_index_or}
use Rattle.std.proofs.Math.Nat.{mul-le-mul_left}
use Rattle.std.proofs.lemmas.Bool.Decides.{nat_tests}
use Rattle.std.proofs.lemmas.Int.{ints}
use Rattle.us_code.specs.declared.pieces.Columns.{Columns}
use Rattle.us_code.specs.Plain.{◌+++◌}
use Rattle.us_code.specs.Run.{Env, State}
use Rattle.us_code.specs.Typing.{BufKind}
use Rattle.us_code_laws.specs.Does.{Does}
use Rattle.us_code_laws.proofs.Does.{do_end, do_weaker, do_append}
use Rattle.us_expr.specs.Tree.{Tree, node_count, RowIndex, ColIndex, Number, Variable, Sum, Difference, Quotient, Remainder}
use Rattle.us_expr.specs.Value.{IsWithin, value}
use Rattle.us_format.specs.Lists.{head, tail}
use Rattle.us_gen_query.specs.Terms.{reading, point}
use Rattle.us_gen_query.specs.Filling.{column, width, words, fill, Entries, FillsIn}
use Rattle.us_gen_query.specs.Filling as filling
use Rattle.us_gen_query.proofs.TermValues.{reads_are_few}
use Rattle.us_gen_query.proofs.FillsRun.{fills}
use Rattle.us_gen_coordinates.specs.Phase.{alone, given, or_new, lower, filled_for, body}
use Rattle.us_gen_coordinates.specs.Laws.{AreLevels, AreCoordinates, IsHeld, HoldCoordinates}
use Rattle.us_gen_coordinates.proofs.Lowering.{Lowered, lower_does}

-- ---- a column that is there already

-- which column of the entries it is
record IsColumn (cs : Columns) (e : Tree) (c : ℕ) : Type 0 where
  pub number : ℕ
  pub within : number < width cs
  pub is : column cs number ≡ c
  pub values : (i j : ℤ) (vs : List ℤ) → value i j vs e ≡ point i j vs number

some_same : (a b : ℕ) → Some a ≡ Some b → a ≡ b
some_same a b h = cc

alone_is : (cs : Columns) (e : Tree) (c : ℕ) → alone cs e ≡ Some c → IsWithin (length cs.vars.items) e → IsColumn cs e c
alone_is cs RowIndex c h w = record { number = 0; within = omega arith; is = some_same cs.i c h; values = λ i j vs. refl }
alone_is cs ColIndex c h w = record { number = 1; within = omega arith; is = some_same cs.j c h; values = λ i j vs. refl }
alone_is cs (Variable v) c h w = record { number = suc (suc v); within = omega (arith, w); is = some_same _ c h; values = λ i j vs. refl }
alone_is cs (Number k) c h w = absurd cc
alone_is cs (Sum a b) c h w = absurd cc
alone_is cs (Difference a b) c h w = absurd cc
alone_is cs (Quotient a k) c h w = absurd cc
alone_is cs (Remainder a k) c h w = absurd cc

-- and the low end is 0
record IsGivenAt (cs : Columns) (e : Tree) (low : ℤ) (c : ℕ) : Type 0 where
  pub alone_at : alone cs e ≡ Some c
  pub zero_low : low ≡ pos 0

given_is : (cs : Columns) (e : Tree) (low : ℤ) (c : ℕ) → given cs e low ≡ Some c → IsGivenAt cs e low c
given_is cs e (negsuc k) c h = absurd cc
given_is cs e (pos k) c h = case (eqb k 0) refl h
  where
    case : (b : Bool) → eqb k 0 ≡ b → cond b (alone cs e) None ≡ Some c → IsGivenAt cs e (pos k) c
    case true q g = let z : k ≡ 0 = grind (arith, nat_tests) in record { alone_at = g; zero_low = ap pos z }
    case false q g = absurd cc

-- it is one of the entries' columns
pub given_below : (cs : Columns) (e : Tree) (low : ℤ) (c base : ℕ) → ((k : ℕ) → k < width cs → column cs k < base) → IsWithin (length cs.vars.items) e → given cs e low ≡ Some c → c < base
given_below cs e low c base below w q =
    let a = alone_is cs e c (given_is cs e low c q).alone_at w in
    subst (λ (k : ℕ). k < base) a.is (below a.number a.within)

pub given_seen : (bufs : ℕ → Option BufKind) (cs : Columns) (e : Tree) (low : ℤ) (c : ℕ) → ((k : ℕ) → k < width cs → bufs (column cs k) ≡ Some (words cs)) → IsWithin (length cs.vars.items) e → given cs e low ≡ Some c → bufs c ≡ Some (words cs)
given_seen bufs cs e low c seen w q =
    let a = alone_is cs e c (given_is cs e low c q).alone_at w in
    subst (λ (k : ℕ). bufs k ≡ Some (words cs)) a.is (seen a.number a.within)

-- ---- the entries

pub entries_stay : (env : Env) (cs : Columns) (bufs other : ℕ → List ℤ) (m : ℕ) (row col : ℕ → ℤ) (vars : ℕ → List ℤ) → ((c : ℕ) → c < width cs → other (column cs c) ≡ bufs (column cs c)) → Entries env cs bufs m row col vars → Entries env cs other m row col vars
entries_stay env cs bufs other m row col vars same en = record {
  count = en.count;
  long = λ c lc. ap (λ (xs : List ℤ). length xs) (same c lc) ∙ en.long c lc;
  cells = λ c x lc lx. ap (λ (xs : List ℤ). slice_index_or xs x (pos 0)) (same c lc) ∙ en.cells c x lc lx;
  points = en.points;
  variables = en.variables;
}

-- the new buffers have a cell for each of m entries
abbrev pub NewLong : (ℕ → List ℤ) → Columns → List Tree → List ℤ → ℕ → ℕ → Type 0
NewLong bufs cs [] lows n m = Unit {0}
NewLong bufs cs (e ∷ es) [] n m = Unit {0}
NewLong bufs cs (e ∷ es) (low ∷ lows) n m = (given cs e low ≡ None → length (bufs n) ≡ m) × NewLong bufs cs es lows (n + 40) m

new_stays : (bufs other : ℕ → List ℤ) (cs : Columns) (es : List Tree) (lows : List ℤ) (n m : ℕ) → ((b : ℕ) → n ≤ b → other b ≡ bufs b) → NewLong bufs cs es lows n m → NewLong other cs es lows n m
new_stays bufs other cs [] lows n m same h = tt
new_stays bufs other cs (e ∷ es) [] n m same h = tt
new_stays bufs other cs (e ∷ es) (low ∷ lows) n m same h = (λ q. ap (λ (xs : List ℤ). length xs) (same n (omega arith)) ∙ h.0 q, new_stays bufs other cs es lows (n + 40) m (λ b lb. same b (omega (arith, lb))) h.1)

held_moved : (xs ys : List ℤ) (m : ℕ) (c : ℕ → ℕ) → ys ≡ xs → IsHeld xs m c → IsHeld ys m c
held_moved xs ys m c e h = subst (λ (zs : List ℤ). IsHeld zs m c) (sym e) h

-- ---- all levels

pub record LevelsFilled (cs : Columns) (es : List Tree) (lows : List ℤ) (n m : ℕ) (rest : ℕ → List ℕ) (s u : State) : Type 0 where
  pub held : HoldCoordinates u.bufs cs es lows n m rest
  pub others : (b : ℕ) → b < n → u.bufs b ≡ s.bufs b
  pub steps : u.steps ≤ s.steps + length es * (2 + 21 * m)

module _ (env : Env) (cs : Columns) (m : ℕ) (row col : ℕ → ℤ) (vars : ℕ → List ℤ) (base : ℕ) (low_columns : (c : ℕ) → c < width cs → column cs c < base) where
  -- the cost of one level
  few_reads : (e : Tree) → node_count e ≤ 32 → m * (2 + reading e (width cs)) ≤ m * 18
  few_reads e small = mul-le-mul_left m (omega (arith, reads_are_few e (width cs), small))

  given_held : (e : Tree) (low : ℤ) (c : ℕ) (rest : ℕ → List ℕ) (s : State) → Entries env cs s.bufs m row col vars → IsWithin (length cs.vars.items) e → given cs e low ≡ Some c
      → ((x : ℕ) → x < m → (value (row x) (col x) (vars x) e ≡ pos (head (rest x)) +ℤ low) × (head (rest x) < 2 ^ 62)) → (c < base) × IsHeld (s.bufs c) m (λ x. head (rest x))
  given_held e low c rest s en w q at =
      let g = given_is cs e low c q in
      let a = alone_is cs e c g.alone_at w in
      let below : c < base = subst (λ (k : ℕ). k < base) a.is (low_columns a.number a.within) in (
        below,
        held_moved (s.bufs (column cs a.number)) (s.bufs c) m (λ x. head (rest x)) (ap s.bufs (sym a.is))
            record {
              long = en.long a.number a.within;
              each = λ x lx. en.cells a.number x a.within lx ∙ (sym (a.values (row x) (col x) (vars x)) ∙ ((at x lx).0 ∙ (ap (λ (z : ℤ). pos (head (rest x)) +ℤ z) g.zero_low ∙ plain (pos (head (rest x))))));
            },
      )
    where
      plain : (z : ℤ) → z +ℤ pos 0 ≡ z
      plain z = omega (arith, ints)

  pub body_does : (es : List Tree) (lows : List ℤ) (n : ℕ) (rest : ℕ → List ℕ) (s : State) → Entries env cs s.bufs m row col vars → base ≤ n → AreLevels cs es lows → AreCoordinates row col vars m es lows rest → NewLong s.bufs cs es lows n m
      → Does env (body cs es lows n) s (LevelsFilled cs es lows n m rest s)
  body_does [] [] n rest s en le ls at long = do_end env s _ record { held = tt; others = λ b lb. refl; steps = omega arith }
  body_does [] (low ∷ lows) n rest s en le ls at long = absurd ls
  body_does (e ∷ es) [] n rest s en le ls at long = absurd ls
  body_does (e ∷ es) (low ∷ lows) n rest s en le ls at long = go (given cs e low) refl (λ v en2 long2. body_does es lows (n + 40) (λ x. tail (rest x)) v en2 (omega (arith, le)) ls.2 at.1 long2)
    where
      go : (o : Option ℕ) → given cs e low ≡ o
          → ((v : State) → Entries env cs v.bufs m row col vars → NewLong v.bufs cs es lows (n + 40) m → Does env (body cs es lows (n + 40)) v (LevelsFilled cs es lows (n + 40) m (λ x. tail (rest x)) v))
          → Does env (filled_for o cs e low n (body cs es lows (n + 40))) s (LevelsFilled cs (e ∷ es) (low ∷ lows) n m rest s)
      go (Some c) q more =
          let h = given_held e low c rest s en ls.0 q at.0 in
          do_weaker env (body cs es lows (n + 40)) s _ _
          (λ u f. record {
            held = (subst (λ (o : Option ℕ). IsHeld (u.bufs (or_new o n)) m (λ x. head (rest x))) (sym q) (held_moved (s.bufs c) (u.bufs c) m _ (f.others c (omega (arith, h.0, le))) h.1), f.held);
            others = λ b lb. f.others b (omega (arith, lb));
            steps = omega (arith, f.steps, suc-mul (length es) (2 + 21 * m));
          })
          (more s en long.1)
      go None q more =
          let tail_code = body cs es lows (n + 40) in
          let f : FillsIn env cs e n (n + 1) m (λ x. value (row x) (col x) (vars x) e) s =
          fills env cs e n (n + 1) m row col vars s en (λ c lc k. omega (arith, k, low_columns c lc, le)) (long.0 q) ls.0 ls.1 in
          do_append env (fill cs e n (n + 1)) (lower cs low n (n + 37) +++ tail_code) s _
          (do_weaker env (fill cs e n (n + 1)) s (filling.Filled n (n + 1) m (2 + reading e (width cs)) (λ x. value (row x) (col x) (vars x) e) m s) _
          (λ u a.
          do_append env (lower cs low n (n + 37)) tail_code u _
          (do_weaker env (lower cs low n (n + 37)) u (Lowered env cs low n (n + 37) m (λ x. head (rest x)) u m) _
          (λ v l.
          let same : (b : ℕ) → b ≢ n → v.bufs b ≡ s.bufs b = λ b ne. l.others b ne ∙ a.others b ne in
          do_weaker env tail_code v _ _
          (λ z p. record {
            held = (
              subst (λ (o : Option ℕ). IsHeld (z.bufs (or_new o n)) m (λ x. head (rest x))) (sym q) (held_moved (v.bufs n) (z.bufs n) m _ (p.others n (omega arith)) record { long = l.long; each = l.done }),
              p.held,
            );
            others = λ b lb. p.others b (omega (arith, lb)) ∙ same b (λ k. omega (arith, k, lb));
            steps = omega (arith, p.steps, l.steps, a.steps, few_reads e ls.1, suc-mul (length es) (2 + 21 * m));
          })
          (more v (entries_stay env cs s.bufs v.bufs m row col vars (λ c lc. same (column cs c) (λ k. omega (arith, k, low_columns c lc, le))) en)
          (new_stays s.bufs v.bufs cs es lows (n + 40) m (λ b lb. same b (λ k. omega (arith, k, lb))) long.1)))
          (lower_does env cs low n (n + 37) m (λ x. head (rest x)) u en.count (λ x lx. let y = (at.0 x lx).1 in omega (arith, y)) a.long (λ x lx. a.cells x lx ∙ (at.0 x lx).0))))
          record { post = f.filled; calm = f.stuck })
