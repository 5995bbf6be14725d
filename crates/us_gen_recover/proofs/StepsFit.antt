-- The code of a plan's steps is typed in every context with room.
use Rattle.std.proofs.Common.{◌≡◌, ◌≢◌, ℕ, zero, suc, ◌+◌, ◌<◌, ◌≤◌, Bool, true, false, cond, eqb, ◌&&◌, refl, sym, ap, ◌∙◌, subst, arith, List, [], ◌∷◌, ◌++◌, length, length-append, ◌⊎◌, inl, inr, All, ℤ, pos, negsuc}
use Rattle.std.proofs.lemmas.Bool.{cases_lt, cases_eq}
use Rattle.std.proofs.lemmas.List.{get_or_append_left, get_or_push}
use Rattle.us_code.specs.declared.program.Dim.{Dim}
use Rattle.us_code.specs.declared.program.Dim.TheVariants as dim
use Rattle.us_code.specs.declared.program.CellKind.{CellKind}
use Rattle.us_code.specs.declared.program.CellKind.TheVariants as kind
use Rattle.us_code.specs.Plain.{TermTree, Number, Reg, Add, Code}
use Rattle.us_code.specs.Typing.{Context, is_some, with_reg, sees_dim, fine, Typed}
use Rattle.us_code_laws.proofs.Sequence.{put_same}
use Rattle.us_code_laws.proofs.Sound.{both_true}
use Rattle.us_gen.specs.declared.nests.Level.TheVariants.{Cell}
use Rattle.us_gen.specs.Nest.{cell_level}
use Rattle.us_gen.specs.Levels.{size_term}
use Rattle.us_gen.specs.Rooms.{FreshFrom, in_level}
use Rattle.us_gen.proofs.NestsFit.{fresh_more, fine_more}
use Rattle.us_gen.proofs.NestsFit.{nests_typed}
use Rattle.us_invert.specs.declared.steps.PlanStep.{PlanStep}
use Rattle.us_invert.specs.declared.steps.PlanStep.TheVariants as plan
use Rattle.us_gen_recover.specs.declared.places.Coordinate.{Coordinate}
use Rattle.us_gen_recover.specs.declared.places.Table.{Table}
use Rattle.us_gen_recover.specs.Recovery.{coordinate, table, shifted, names, names_in, step_term, terms, operand, place_in, work, in_front, recovery}
use Rattle.us_gen_recover.specs.Rooms.{NamesWithin, in_step, in_recovery, Room, RecoveryFits}

size_fine : (g : Context) (d : Dim) → sees_dim g d ≡ true → fine g (size_term d) ≡ true
size_fine g (dim.Number n) h = refl
size_fine g (dim.Name d) h = h
size_fine g (dim.Len k) h = h

sees_more : (g : Context) (r : ℕ) (v : Bool) (k : CellKind) (d : Dim) → sees_dim g d ≡ true → sees_dim (with_reg g r v k) d ≡ true
sees_more g r v k (dim.Number n) h = refl
sees_more g r v k (dim.Name d) h = h
sees_more g r v k (dim.Len x) h = h

made_fine : (g : Context) (r : ℕ) (v : Bool) (k : CellKind) → fine (with_reg g r v k) (Reg r) ≡ true
made_fine g r v k = ap is_some (put_same g.regs r _)

-- a register that was visible still is, where a fresh one is made
seen_more : (g : Context) (n r x : ℕ) (v : Bool) (k : CellKind) → FreshFrom g n → n ≤ r → is_some (g.regs x) ≡ true → is_some ((with_reg g r v k).regs x) ≡ true
seen_more g n r x v k f le h = fine_more g n r v k (Reg x) f le h

shifted_fine : (g : Context) (r : ℕ) (z : ℤ) → is_some (g.regs r) ≡ true → fine g (shifted r z) ≡ true
shifted_fine g r (pos k) h = case (eqb k 0)
  where
    case : (b : Bool) → fine g (cond b (Reg r) (Add (Reg r) (Number k))) ≡ true
    case true = h
    case false = both_true (is_some (g.regs r)) true h refl
shifted_fine g r (negsuc k) h = both_true (is_some (g.regs r)) true h refl

-- ---- one more register

room_more : (g : Context) (levels : List Coordinate) (tables : List Table) (n r : ℕ) (v : Bool) (k : CellKind) → n ≤ r → Room g levels tables n → Room (with_reg g r v k) levels tables (r + 1)
room_more g levels tables n r v k le m = record {
  fresh = fresh_more g n r v k (r + 1) (omega arith) (omega (arith, le)) m.fresh;
  coordinates = λ x h. seen_more g n r (coordinate levels x).reg v k m.fresh le (m.coordinates x h);
  sources = λ q h. m.sources q h;
  extents = λ q h. sees_more g r v k (table tables q).extent (m.extents q h);
}

at_same : (g : Context) (levels : List Coordinate) (tables : List Table) (n m : ℕ) → n ≡ m → Room g levels tables n → Room g levels tables m
at_same g levels tables n m e r = subst (Room g levels tables) e r

two_more : (g : Context) (levels : List Coordinate) (tables : List Table) (k n : ℕ) → Room g levels tables n → Room (in_level g (Cell k) n) levels tables (n + 2)
two_more g levels tables k n m =
    let g1 = with_reg g n false (kind.Below (dim.Len k)) in
    at_same (in_level g (Cell k) n) levels tables (n + 1 + 1) (n + 2) (omega arith) (room_more g1 levels tables (n + 1) (n + 1) false kind.Word (omega arith) (room_more g levels tables n n false (kind.Below (dim.Len k)) (omega arith) m))

-- behind the code of a step
step_room : (g : Context) (levels : List Coordinate) (tables : List Table) (x : PlanStep) (n : ℕ) → Room g levels tables n → Room (in_step g tables x n) levels tables (n + names x)
step_room g levels tables (plan.Const c) n m = at_same g levels tables n (n + 0) (omega arith) m
step_room g levels tables (plan.Level k) n m = at_same g levels tables n (n + 0) (omega arith) m
step_room g levels tables (plan.Add a b) n m = room_more g levels tables n n false kind.Word (omega arith) m
step_room g levels tables (plan.Sub a b) n m = room_more g levels tables n n false kind.Word (omega arith) m
step_room g levels tables (plan.Join q r k) n m = room_more g levels tables n n false kind.Word (omega arith) m
step_room g levels tables (plan.Div a k) n m = room_more g levels tables n n false kind.Word (omega arith) m
step_room g levels tables (plan.Rem a k) n m = room_more g levels tables n n false kind.Word (omega arith) m
step_room g levels tables (plan.Order q v) n m = two_more g levels tables (table tables q).source n m
step_room g levels tables (plan.Rows q l t) n m = two_more g levels tables (table tables q).source n m

two_fine : (g : Context) (k n : ℕ) (e : TermTree) → FreshFrom g n → fine g e ≡ true → fine (in_level g (Cell k) n) e ≡ true
two_fine g k n e f h =
    let g1 = with_reg g n false (kind.Below (dim.Len k)) in
    fine_more g1 (n + 1) (n + 1) false kind.Word e (fresh_more g n n false (kind.Below (dim.Len k)) (n + 1) (omega arith) (omega arith) f) (omega arith) (fine_more g n n false (kind.Below (dim.Len k)) e f (omega arith) h)

-- a term that was fine still is
still_fine : (g : Context) (tables : List Table) (x : PlanStep) (n : ℕ) (e : TermTree) → FreshFrom g n → fine g e ≡ true → fine (in_step g tables x n) e ≡ true
still_fine g tables (plan.Const c) n e f h = h
still_fine g tables (plan.Level k) n e f h = h
still_fine g tables (plan.Add a b) n e f h = fine_more g n n false kind.Word e f (omega arith) h
still_fine g tables (plan.Sub a b) n e f h = fine_more g n n false kind.Word e f (omega arith) h
still_fine g tables (plan.Join q r k) n e f h = fine_more g n n false kind.Word e f (omega arith) h
still_fine g tables (plan.Div a k) n e f h = fine_more g n n false kind.Word e f (omega arith) h
still_fine g tables (plan.Rem a k) n e f h = fine_more g n n false kind.Word e f (omega arith) h
still_fine g tables (plan.Order q v) n e f h = two_fine g (table tables q).source n e f h
still_fine g tables (plan.Rows q l t) n e f h = two_fine g (table tables q).source n e f h

-- the term of a step
own_fine : (g : Context) (levels : List Coordinate) (tables : List Table) (x : PlanStep) (n : ℕ) → Room g levels tables n → NamesWithin (length levels) (length tables) x → fine (in_step g tables x n) (step_term levels x n) ≡ true
own_fine g levels tables (plan.Const c) n m w = refl
own_fine g levels tables (plan.Level k) n m w = shifted_fine g (coordinate levels k).reg (coordinate levels k).low (m.coordinates k w)
own_fine g levels tables (plan.Add a b) n m w = made_fine g n false kind.Word
own_fine g levels tables (plan.Sub a b) n m w = made_fine g n false kind.Word
own_fine g levels tables (plan.Join q r k) n m w = made_fine g n false kind.Word
own_fine g levels tables (plan.Div a k) n m w = made_fine g n false kind.Word
own_fine g levels tables (plan.Rem a k) n m w = made_fine g n false kind.Word
own_fine g levels tables (plan.Order q v) n m w = made_fine (with_reg g n false (kind.Below (dim.Len (table tables q).source))) (n + 1) false kind.Word
own_fine g levels tables (plan.Rows q l t) n m w = both_true (fine (in_level g (Cell (table tables q).source) n) (Reg (n + 1))) true (made_fine (with_reg g n false (kind.Below (dim.Len (table tables q).source))) (n + 1) false kind.Word) refl

-- each of the terms, and the number 0 for those behind them
abbrev AllFine : Context → List TermTree → Type 0
AllFine g known = (k : ℕ) → fine g (operand known k) ≡ true

more_fine : (g : Context) (known : List TermTree) (e : TermTree) → AllFine g known → fine g e ≡ true → AllFine g (known ++ e ∷ [])
more_fine g known e a h k = case (cases_lt k (length known))
  where
    beyond : (ks : List TermTree) (x : ℕ) → length ks ≤ x → operand ks x ≡ Number 0
    beyond [] x le = refl
    beyond (y ∷ ks) zero le = absurd (omega (arith, le))
    beyond (y ∷ ks) (suc x) le = beyond ks x (omega (arith, le))

    late : (k ≡ length known) ⊎ (k ≢ length known) → length known ≤ k → fine g (operand (known ++ e ∷ []) k) ≡ true
    late (inl q) le = ap (fine g) (get_or_push known e (Number 0) k (sym q)) ∙ h
    late (inr q) le = ap (fine g) (beyond (known ++ e ∷ []) k (omega (arith, q, le, length-append known (e ∷ []))))

    case : (k < length known) ⊎ (length known ≤ k) → fine g (operand (known ++ e ∷ []) k) ≡ true
    case (inl lt) = ap (fine g) (get_or_append_left known (e ∷ []) (Number 0) k lt) ∙ a k
    case (inr le) = late (cases_eq k (length known)) le

-- ---- the code of a step

cell_typed : (g : Context) (levels : List Coordinate) (tables : List Table) (q : ℕ) (at : TermTree) (n : ℕ) (rest : Code) → Room g levels tables n → q < length tables → fine g at ≡ true → Typed (in_level g (Cell (table tables q).source) n) rest → Typed g (cell_level at (table tables q).source n rest)
cell_typed g levels tables q at n rest m lt h t = nests_typed g (Cell (table tables q).source ∷ []) at n rest m.fresh h (m.sources q lt, tt) t

step_typed : (g : Context) (levels : List Coordinate) (tables : List Table) (x : PlanStep) (known : List TermTree) (n : ℕ) (rest : Code) → Room g levels tables n → NamesWithin (length levels) (length tables) x → AllFine g known → Typed (in_step g tables x n) rest → Typed g (in_front (work tables x known) n rest)
step_typed g levels tables (plan.Const c) known n rest m w a t = t
step_typed g levels tables (plan.Level k) known n rest m w a t = t
step_typed g levels tables (plan.Add x y) known n rest m w a t = (m.fresh.none n (omega arith), both_true (fine g (operand known x)) (fine g (operand known y)) (a x) (a y), t)
step_typed g levels tables (plan.Sub x y) known n rest m w a t = (m.fresh.none n (omega arith), both_true (fine g (operand known x)) (fine g (operand known y)) (a x) (a y), t)
step_typed g levels tables (plan.Join q r k) known n rest m w a t =
    (m.fresh.none n (omega arith), both_true (fine g (operand known q) && true) (fine g (operand known r)) (both_true (fine g (operand known q)) true (a q) refl) (a r), t)
step_typed g levels tables (plan.Div x k) known n rest m w a t = (m.fresh.none n (omega arith), a x, t)
step_typed g levels tables (plan.Rem x k) known n rest m w a t = (m.fresh.none n (omega arith), a x, t)
step_typed g levels tables (plan.Order q v) known n rest m w a t = cell_typed g levels tables q (operand known v) n rest m w (a v) t
step_typed g levels tables (plan.Rows q l s) known n rest m w a t =
    let e = (table tables q).extent in
    let whole = both_true (fine g (operand known l)) (fine g (size_term e)) (a l) (size_fine g e (m.extents q w)) in
    cell_typed g levels tables q (place_in known e l s) n rest m w (both_true (fine g (operand known l) && fine g (size_term e)) (fine g (operand known s)) whole (a s)) t

-- ---- all steps

first_within : (l q : ℕ) (x : PlanStep) (steps : List PlanStep) → All (NamesWithin l q) (x ∷ steps) → NamesWithin l q x
first_within l q x steps w = w 0 x (omega arith)

others_within : (l q : ℕ) (x : PlanStep) (steps : List PlanStep) → All (NamesWithin l q) (x ∷ steps) → All (NamesWithin l q) steps
others_within l q x steps w = λ k d h. w (suc k) d (omega (arith, h))

steps_typed : (g : Context) (levels : List Coordinate) (tables : List Table) (steps : List PlanStep) (known : List TermTree) (n : ℕ) (inner : Code) → Room g levels tables n → All (NamesWithin (length levels) (length tables)) steps → AllFine g known → Typed (in_recovery g tables steps n) inner → Typed g (recovery levels tables steps known n inner)
steps_typed g levels tables [] known n inner m w a t = t
steps_typed g levels tables (x ∷ steps) known n inner m w a t =
    let here = first_within (length levels) (length tables) x steps w in
    let h = in_step g tables x n in
    let more = more_fine h known (step_term levels x n) (λ k. still_fine g tables x n (operand known k) m.fresh (a k)) (own_fine g levels tables x n m here) in
    step_typed g levels tables x known n (recovery levels tables steps (known ++ step_term levels x n ∷ []) (n + names x) inner) m here a
    (steps_typed h levels tables steps (known ++ step_term levels x n ∷ []) (n + names x) inner (step_room g levels tables x n m) (others_within (length levels) (length tables) x steps w) more t)

-- a term that was fine is fine inside all
inside_fine : (g : Context) (levels : List Coordinate) (tables : List Table) (steps : List PlanStep) (n : ℕ) (e : TermTree) → Room g levels tables n → fine g e ≡ true → fine (in_recovery g tables steps n) e ≡ true
inside_fine g levels tables [] n e m h = h
inside_fine g levels tables (x ∷ steps) n e m h = inside_fine (in_step g tables x n) levels tables steps (n + names x) e (step_room g levels tables x n m) (still_fine g tables x n e m.fresh h)

terms_fine : (g : Context) (levels : List Coordinate) (tables : List Table) (steps : List PlanStep) (n : ℕ) → Room g levels tables n → All (NamesWithin (length levels) (length tables)) steps → (k : ℕ) → fine (in_recovery g tables steps n) (operand (terms levels steps n) k) ≡ true
terms_fine g levels tables [] n m w k = refl
terms_fine g levels tables (x ∷ steps) n m w zero =
    inside_fine (in_step g tables x n) levels tables steps (n + names x) (step_term levels x n) (step_room g levels tables x n m) (own_fine g levels tables x n m (first_within (length levels) (length tables) x steps w))
terms_fine g levels tables (x ∷ steps) n m w (suc k) = terms_fine (in_step g tables x n) levels tables steps (n + names x) (step_room g levels tables x n m) (others_within (length levels) (length tables) x steps w) k

room_inside : (g : Context) (levels : List Coordinate) (tables : List Table) (steps : List PlanStep) (n : ℕ) → Room g levels tables n → Room (in_recovery g tables steps n) levels tables (n + names_in steps)
room_inside g levels tables [] n m = at_same g levels tables n (n + 0) (omega arith) m
room_inside g levels tables (x ∷ steps) n m =
    at_same (in_recovery g tables (x ∷ steps) n) levels tables (n + names x + names_in steps) (n + (names x + names_in steps)) (omega arith) (room_inside (in_step g tables x n) levels tables steps (n + names x) (step_room g levels tables x n m))

pub recovery_fits : RecoveryFits
recovery_fits = record {
  typed = λ g levels tables steps n inner m w t. steps_typed g levels tables steps [] n inner m w (λ k. refl) t;
  terms_fine = terms_fine;
  fresh = room_inside;
}
