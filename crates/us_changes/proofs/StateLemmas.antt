-- States behind steps.
use Rattle.std.proofs.Common.{◌≡◌, ℕ, ◌+◌, ◌-◌, ◌<◌, List, [], ◌∷◌, ◌++◌, length, map, take, get_or, refl, sym, ap, ◌∙◌, arith}
use Rattle.std.specs.List.{All}
use Rattle.std.proofs.lemmas.List.{map_push, take_more, take_all}
use Rattle.std.proofs.lemmas.List.Elements.{All-head, All-tail}
use Rattle.us_matrix.specs.declared.matrix.Triple.{Triple}
use Rattle.us_matrix.specs.Map.{Map, IsMatrix, IsRisingFrom, AreEntries}
use Rattle.us_script.specs.declared.step.Step.{Step}
use Rattle.us_script.specs.declared.step.Step.TheVariants.{Set, Undo, Size}
use Rattle.us_script.specs.Steps.{IsInside, HasValue}
use Rattle.us_changes.specs.Edits.{State, start, undone, after, after_all, edited, old_values, as_step, inverse}
use Rattle.us_changes.specs.Keeping.{made, put_all}
use Rattle.us_changes.proofs.PutLemmas.{changed_entries, changed_rising}
use Rattle.us_changes.proofs.OldLemmas.{old_put}

-- ---- one step more

pub after_push : (s : State) (steps : List Step) (x : Step) → after_all s (steps ++ x ∷ []) ≡ after (after_all s steps) x
after_push s [] x = refl
after_push s (y ∷ steps) x = after_push (after s y) steps x

pub after_more : (s : State) (steps : List Step) (k : ℕ) (d : Step) → k < length steps → after_all s (take (k + 1) steps) ≡ after (after_all s (take k steps)) (get_or steps k d)
after_more s steps k d lt = ap (after_all s) (take_more steps k d lt) ∙ after_push s (take k steps) (get_or steps k d)

pub made_push : (es ts : List Triple) (t : Triple) → made es (ts ++ t ∷ []) ≡ after (made es ts) (as_step t)
made_push es ts t = ap (after_all (start es)) (map_push as_step ts t) ∙ after_push (start es) (map as_step ts) (as_step t)

-- the state of sets without the latest is the state before it
undone_last : (es ts : List Triple) (t : Triple) → made es ts ≡ undone (made es (ts ++ t ∷ [])).entries (made es (ts ++ t ∷ [])).earlier
undone_last es ts t = ap (λ s. undone s.entries s.earlier) (sym (made_push es ts t))

pub made_undone : (es ts : List Triple) → made es (take (length ts - 1) ts) ≡ undone (made es ts).entries (made es ts).earlier
made_undone es [] = refl
made_undone es (x ∷ xs) =
    let ts = x ∷ xs in
    let n = length xs in
    let less : length ts - 1 ≡ n = omega arith in
    let whole : take n ts ++ get_or ts n x ∷ [] ≡ ts = sym (take_more ts n x (omega arith)) ∙ take_all (n + 1) ts (omega arith) in
    ap (λ k. made es (take k ts)) less ∙ undone_last es (take n ts) (get_or ts n x) ∙ ap (λ l. undone (made es l).entries (made es l).earlier) whole

put_on : (s : State) (ts : List Triple) → (after_all s (map as_step ts)).entries ≡ put_all ts s.entries
put_on s [] = refl
put_on s (t ∷ ts) = put_on (after s (as_step t)) ts

pub made_put : (es ts : List Triple) → (made es ts).entries ≡ put_all ts es
made_put es ts = put_on (start es) ts

-- ---- each state has the entries of matrices

record AreRows (rows cols : ℕ) (es : List Triple) : Type 0 where
  entries : AreEntries rows cols es
  rising : IsRisingFrom 0 es

abbrev AreAllRows : ℕ → ℕ → List (List Triple) → Type 0
AreAllRows rows cols [] = Unit {0}
AreAllRows rows cols (es ∷ more) = AreRows rows cols es × AreAllRows rows cols more

record IsKept (rows cols : ℕ) (s : State) : Type 0 where
  now : AreRows rows cols s.entries
  before : AreAllRows rows cols s.earlier

undone_kept : (rows cols : ℕ) (es : List Triple) (earlier : List (List Triple)) → AreRows rows cols es → AreAllRows rows cols earlier → IsKept rows cols (undone es earlier)
undone_kept rows cols es [] h k = record { now = h; before = tt }
undone_kept rows cols es (b ∷ earlier) h k = record { now = k.0; before = k.1 }

after_kept : (rows cols : ℕ) (s : State) (step : Step) → IsInside rows cols step → HasValue step → IsKept rows cols s → IsKept rows cols (after s step)
after_kept rows cols s (Set i j v) inside fits h =
    let t : Triple = record { i = i; j = j; v = v } in record {
      now = record {
        entries = changed_entries rows cols t s.entries (record { row = inside.0; col = inside.1; fits = fits }) h.now.entries;
        rising = changed_rising 0 t s.entries (omega arith) h.now.rising;
      };
      before = (h.now, h.before);
    }
after_kept rows cols s Undo inside fits h = undone_kept rows cols s.entries s.earlier h.now h.before
after_kept rows cols s (Size line) inside fits h = h

all_kept : (rows cols : ℕ) (s : State) (steps : List Step) → All (IsInside rows cols) steps → All HasValue steps → IsKept rows cols s → IsKept rows cols (after_all s steps)
all_kept rows cols s [] inside fits h = h
all_kept rows cols s (x ∷ steps) inside fits h =
    all_kept rows cols (after s x) steps (All-tail (IsInside rows cols) x steps inside) (All-tail HasValue x steps fits)
    (after_kept rows cols s x (All-head (IsInside rows cols) x steps inside) (All-head HasValue x steps fits) h)

-- ---- the inverse takes back

pub taken_back : (m : Map) (steps : List Step) → IsMatrix m → All (IsInside m.rows m.cols) steps → All HasValue steps → edited (edited m steps) (inverse m steps) ≡ m
unfolding edited inverse
taken_back m steps is inside fits =
    let es = (after_all (start m.entries) steps).entries in
    let kept = all_kept m.rows m.cols (start m.entries) steps inside fits (record { now = record { entries = is.entries; rising = is.rising }; before = tt }) in
    let old : (made es (old_values m.entries es)).entries ≡ m.entries = made_put es (old_values m.entries es) ∙ old_put m.rows m.cols m.entries es 0 0 is.cols.high is.entries is.rising kept.now.entries kept.now.rising in
    ap (λ l. record { rows = m.rows; cols = m.cols; entries = l }) old
