-- The steps of `run`, one after the other.
use Rattle.std.proofs.Common.{◌≡◌, ◌≢◌, ℕ, ℤ, ◌+◌, ◌-◌, ◌^◌, ◌<◌, ◌≤◌, min, Bool, true, false, cond, nat_eq, nat_le, List, [], ◌∷◌, length, map, Option, Some, None, IfSome, Result, Ok, Err, IfErr, IfOk, All, refl, sym, ap, ap₂, ◌∙◌, subst, inl, inr, arith}
use Rattle.std.specs.List.{range_with_len, sum_by}
use Rattle.std.proofs.lemmas.Bool.Decides.{nat_tests}
use Rattle.std.proofs.lemmas.Bool.{leb-true}
use Rattle.std.proofs.lemmas.List.{length-map}
use Rattle.std.proofs.lemmas.List.FromFn.{length-range_with_len}
use Rattle.std.proofs.lemmas.List.Sums.{sum_by-cons}
use Rattle.std.proofs.lemmas.List.Elements.{All-nil, All-cons}
use Rattle.std.specs.declared.alloc.Global.{Global}
use Rattle.std.specs.declared.vec.Vec.{Vec}
use Rattle.us_code.specs.Plain.{ProgramTree, program_tree}
use Rattle.us_code.specs.Runs.{Outcome, Gave, TooBig, GotStuck, run_within}
use Rattle.us_code.specs.Runs as runs
use Rattle.us_code.specs.Unbound as unbound
use Rattle.us_code.specs.Unbound.{first_unbound}
use Rattle.us_code_reader.specs.declared.parsed.CodeFault.{CodeFault}
use Rattle.us_code_reader.specs.declared.parsed.CodeFault.TheVariants as faults
use Rattle.us_code.specs.declared.program.Program.{Program}
use Rattle.us_bounds.specs.declared.fault.Unbound.{Unbound}
use Rattle.us_bounds.specs.declared.fault.VerifyFault.{VerifyFault}
use Rattle.us_bounds.specs.declared.fault.VerifyFault.TheVariants as bounds
use Rattle.us_bounds.specs.Verdict.{IsVerified}
use Rattle.us_judge.specs.Causes.{Explains}
use Rattle.us_judge.specs.declared.refusal.JudgeFault.{JudgeFault}
use Rattle.us_judge.specs.declared.refusal.JudgeFault.TheVariants as judging
use Rattle.us_machine.specs.declared.running.Ran.{Ran}
use Rattle.us_machine.specs.declared.stop.RunStop.TheVariants as stop
use Rattle.us_machine.specs.Answer as machine
use Rattle.us_matrix.specs.Map.{Map}
use Rattle.us_matrix.specs.declared.shape.Shape as shapes
use Rattle.us_format.specs.Matrix.{Shape, Entry}
use Rattle.us_format.specs.Packs.{Buffer, written}
use Rattle.us_format.specs.Buffers.{all_buffers, parts_of}
use Rattle.us_format.specs.Program.{plain_shape, shape_in, entries_in}
use Rattle.us_decl.specs.Declares.{Declared}
use Rattle.us_judge.specs.Acceptance.{first_refusal}
use Rattle.us_judge.specs.Views.{declaration_of}
use Rattle.us_judge.specs.declared.refusal.Refusal.{Refusal}
use Rattle.us_check.specs.Checks.{TellsChecked, TellsFault, checked}
use Rattle.us_check.specs.Held.{IsHeld}
use Rattle.us_check.specs.Kept.{Kept}
use Rattle.us_check.specs.declared.broken.Broken.{Broken}
use Rattle.us_check.specs.declared.broken.Broken.TheVariants as broken
use Rattle.us_check.specs.declared.held.Held.{Held}
use Rattle.us_container.specs.Bytes.{container_bytes}
use Rattle.us_container.specs.Contained.{Contained}
use Rattle.us_outside.specs.Causes.{Faults}
use Rattle.us_outside.specs.Files.{Files, content_of}
use Rattle.us_unit.specs.Units.{PlainUnit, TellsUnit, unit_in, unit_view}
use Rattle.us_unit.specs.declared.unit.OneUnit.{OneUnit}
use Rattle.us_status.specs.declared.status.Slot.{Slot}
use Rattle.us_status.specs.declared.status.Slot.TheVariants as slots
use Rattle.us_status.specs.declared.status.Status.{Status}
use Rattle.us_status.specs.declared.status.Status.TheVariants.{Memory, Refused, Sources, TooLarge}
use Rattle.us_status.specs.declared.status.Status.TheVariants as status
use Rattle.us_top.specs.declared.result.Made as making
use Rattle.us_status.specs.Uses.{reads}
use Rattle.us_inputs.specs.Steps.{judged}
use Rattle.us_status.specs.Answers.{status_of, then_step, behind, IsAnswer, IsInnerRefusal, IsOneOf, IsRefusal, IsStep, broken_refusal_of, code_refusal_of, target_refusal_of, verify_refusal_of}
use Rattle.us_top.specs.Running.{Made, Gives, container_step, fit_unit, given, ran_step, result_step, right_sources, run_in, run_step, steps_line, unit_at, unit_of, unit_step, verified, well_formed}
use Rattle.us_inputs.specs.Sources.{source_at}
use Rattle.us_inputs.specs.Views.{bytes_of}
use Rattle.us_top.specs.Views.{made_of, ran_view}
use Rattle.us_inputs.proofs.InputLemmas.{inner_refusal}
use Rattle.us_status.proofs.AnswerLemmas.{first_ends, step_answer}

pub unit_read : (bytes : List ℕ) (u : OneUnit) (r : Result PlainUnit Status) → unit_in bytes ≡ Ok (unit_view u) → IsStep (fit_unit (unit_view u)) r → IsStep (unit_of bytes) r
unit_read bytes u r h s = subst (λ x. IsStep x r) (sym (ap (λ q. then_step (unit_step q) fit_unit) h)) s

refused_unit : (fault : CodeFault) (read : Result PlainUnit CodeFault) → TellsUnit read (Err fault) → IsStep {A = PlainUnit} (then_step (unit_step read) fit_unit) (Err (code_refusal_of fault))
refused_unit faults.Memory read h = tt
refused_unit (faults.Token place) read h = ap (λ q. then_step (unit_step q) fit_unit) h
refused_unit (faults.Form place) read h = ap (λ q. then_step (unit_step q) fit_unit) h
refused_unit (faults.TooBig place) read h = ap (λ q. then_step (unit_step q) fit_unit) h

pub unit_refused : (bytes : List ℕ) (fault : CodeFault) (answer : Status) → answer ≡ code_refusal_of fault → TellsUnit (unit_in bytes) (Err fault) → IsStep {A = PlainUnit} (unit_of bytes) (Err answer)
unit_refused bytes fault answer e h = subst (λ s. IsStep {A = PlainUnit} (unit_of bytes) (Err s)) (sym e) (refused_unit fault (unit_in bytes) h)

pub inner_code : (fault : CodeFault) (answer : Status) → answer ≡ code_refusal_of fault → IsInnerRefusal answer
inner_code faults.Memory answer e = subst IsInnerRefusal (sym e) tt
inner_code (faults.Token place) answer e = subst IsInnerRefusal (sym e) tt
inner_code (faults.Form place) answer e = subst IsInnerRefusal (sym e) tt
inner_code (faults.TooBig place) answer e = subst IsInnerRefusal (sym e) tt

-- an accepted target, and whether its program keeps the rules
abbrev pub Verifying : Declared → ProgramTree → Result PlainUnit Status → Type 0
Verifying d p r = IsStep (then_step (verified (first_unbound p)) (λ _. Ok (record { target = d; program = p }))) r

pub unit_accepted : (d format : Declared) (p : ProgramTree) (r : Result PlainUnit Status) → format ≡ d → first_refusal (declaration_of d) ≡ None → Verifying format p r
    → IsStep (fit_unit (record { target = d; program = p })) r
unit_accepted d format p r e h s =
    subst (λ x. IsStep x r) (sym (ap (λ o. then_step (judged 1 o) (λ _. then_step (verified (first_unbound p)) (λ _. Ok (record { target = d; program = p })))) h)) (subst (λ d. Verifying d p r) e s)

pub target_refused : (d : Declared) (p : ProgramTree) (why : Refusal) → first_refusal (declaration_of d) ≡ Some why → fit_unit (record { target = d; program = p }) ≡ Err (Refused 1 why)
target_refused d p why h = ap (λ o. then_step (judged 1 o) (λ _. then_step (verified (first_unbound p)) (λ _. Ok (record { target = d; program = p })))) h

abbrev pub verified_unit : Declared → ProgramTree → Option unbound.Unbound → Result PlainUnit Status
verified_unit d p o = then_step (verified o) (λ _. Ok (record { target = d; program = p }))

pub unit_verified : (d : Declared) (p : ProgramTree) → first_unbound p ≡ None → verified_unit d p (first_unbound p) ≡ Ok (record { target = d; program = p })
unit_verified d p h = ap (verified_unit d p) h

pub unit_unbound : (d : Declared) (p : ProgramTree) (u : Unbound) → first_unbound p ≡ Some record { phase = u.phase; item = u.stmt; rule = u.rule }
    → verified_unit d p (first_unbound p) ≡ Err (status.Unbound u)
unit_unbound d p u h = ap (verified_unit d p) h

refused_target : (u : PlainUnit) (fault : JudgeFault) → Explains fault (first_refusal (declaration_of u.target)) → IsStep {A = PlainUnit} (fit_unit u) (Err (target_refusal_of fault))
refused_target u (judging.Refused why) h = target_refused u.target u.program why h
refused_target u judging.Memory h = tt

pub target_refused_by : (u : PlainUnit) (fault : JudgeFault) (answer : Status) → answer ≡ target_refusal_of fault → Explains fault (first_refusal (declaration_of u.target)) → IsStep {A = PlainUnit} (fit_unit u) (Err answer)
target_refused_by u fault answer e h = subst (λ a. IsStep {A = PlainUnit} (fit_unit u) (Err a)) (sym e) (refused_target u fault h)

pub inner_target : (fault : JudgeFault) (answer : Status) → answer ≡ target_refusal_of fault → IsInnerRefusal answer
inner_target (judging.Refused why) answer e = subst IsInnerRefusal (sym e) tt
inner_target judging.Memory answer e = subst IsInnerRefusal (sym e) tt

refused_program : (d : Declared) (p : Program) (fault : VerifyFault) → IsVerified p (Err fault) → IsStep {A = PlainUnit} (verified_unit d (program_tree p) (first_unbound (program_tree p))) (Err (verify_refusal_of fault))
refused_program d p (bounds.Unbound u) h = unit_unbound d (program_tree p) u h.0
refused_program d p bounds.Memory h = tt

pub program_refused_by : (d : Declared) (p : Program) (fault : VerifyFault) (answer : Status) → answer ≡ verify_refusal_of fault → IsVerified p (Err fault)
    → IsStep {A = PlainUnit} (verified_unit d (program_tree p) (first_unbound (program_tree p))) (Err answer)
program_refused_by d p fault answer e h =
    subst (λ a. IsStep {A = PlainUnit} (verified_unit d (program_tree p) (first_unbound (program_tree p))) (Err a)) (sym e) (refused_program d p fault h)

pub inner_program : (fault : VerifyFault) (answer : Status) → answer ≡ verify_refusal_of fault → IsInnerRefusal answer
inner_program (bounds.Unbound u) answer e = subst IsInnerRefusal (sym e) tt
inner_program bounds.Memory answer e = subst IsInnerRefusal (sym e) tt

front_fits : (a b n : ℕ) → a + b ≤ n → a ≤ n
front_fits a b n h = omega arith

behind_fits : (a b n : ℕ) → a + b ≤ n → b ≤ n
behind_fits a b n h = omega arith

short_by_sum : (bs : List Buffer) (n : ℕ) → sum_by (λ (b : Buffer). b.len) bs ≤ n → All (λ cells. length cells ≤ n) (map written bs)
short_by_sum [] n h = All-nil (λ (cells : List ℤ). length cells ≤ n)
short_by_sum (b ∷ bs) n h =
    let len : length (written b) ≡ b.len = length-map (range_with_len 0 b.len) b.cell ∙ length-range_with_len 0 b.len in
    let rest = sum_by (λ (b : Buffer). b.len) bs in
    let all : b.len + rest ≤ n = subst (λ k. k ≤ n) (sum_by-cons (λ (b : Buffer). b.len) b bs) h in
    All-cons (λ (cells : List ℤ). length cells ≤ n) (written b) (map written bs) (subst (λ k. k ≤ n) (sym len) (front_fits b.len rest n all)) (short_by_sum bs n (behind_fits b.len rest n all))

pub buffers_short : (k : Kept) → IsHeld k → All (λ cells. length cells ≤ 67108864) k.buffers
buffers_short k held =
    let s = shape_in k.matrix in
    let d = declaration_of k.declared in
    let m = entries_in k.matrix in
    let lengths = front_fits (sum_by (λ (b : Buffer). b.len) (all_buffers s (parts_of s d m))) _ 67108864 held.small in
    subst (λ bufs. All (λ cells. length cells ≤ 67108864) bufs) (sym held.built) (short_by_sum (all_buffers s (parts_of s d m)) 67108864 lengths)

abbrev compared : Bool → ℕ → ℕ → Result (Unit {0}) Status
compared b want have = cond b (Ok tt) (Err (Sources want have))

differ : (want have : ℕ) → want ≢ have → nat_eq want have ≡ false
differ want have h = grind (arith, nat_tests)

agree : (want have : ℕ) → want ≡ have → nat_eq want have ≡ true
agree want have h = grind (arith, nat_tests)

pub other_sources : (budget : ℕ) (p : ProgramTree) (sources : List (List ℤ)) (want have : ℕ) → want ≡ p.sources → have ≡ length sources → want ≢ have
    → run_step budget p sources ≡ Err (Sources want have)
other_sources budget p sources want have e f h =
    ap (λ n. then_step (right_sources n (length sources)) (λ _. given budget (run_within p sources budget))) (sym e)
    ∙ ap (λ n. then_step (right_sources want n) (λ _. given budget (run_within p sources budget))) (sym f)
    ∙ ap (λ b. then_step (compared b want have) (λ _. given budget (run_within p sources budget))) (differ want have h)

-- with as many sources as are wanted
as_many : (budget : ℕ) (p : ProgramTree) (sources : List (List ℤ)) → p.sources ≡ length sources → run_step budget p sources ≡ given budget (run_within p sources budget)
as_many budget p sources e =
    ap (λ b. then_step (compared b p.sources (length sources)) (λ _. given budget (run_within p sources budget))) (agree p.sources (length sources) e)

abbrev IsWithin : ℕ → Outcome → Type 0
IsWithin budget (Gave lists steps) = steps ≤ budget
IsWithin budget (TooBig steps) = Unit {0}
IsWithin budget runs.OutOfSteps = Unit {0}
IsWithin budget GotStuck = Unit {0}

gave_within : (budget : ℕ) (lists : List (List ℤ)) (steps : ℕ) (b : Bool) → nat_le steps budget ≡ b → IsWithin budget (cond b (Gave lists steps) runs.OutOfSteps)
gave_within budget lists steps true h = leb-true steps budget h
gave_within budget lists steps false h = tt

big_within : (budget steps : ℕ) (b : Bool) → IsWithin budget (cond b (TooBig steps) runs.OutOfSteps)
big_within budget steps true = tt
big_within budget steps false = tt

all_within : (budget : ℕ) (o : Outcome) → IsWithin budget (runs.by_budget budget o)
all_within budget (Gave lists steps) = gave_within budget lists steps (nat_le steps budget) refl
all_within budget (TooBig steps) = big_within budget steps (nat_le steps budget)
all_within budget runs.OutOfSteps = tt
all_within budget GotStuck = tt

steps_are : (n steps budget : ℕ) → n ≡ min steps (2 ^ 64 - 1) → steps ≤ budget → budget < 2 ^ 64 → steps ≡ n
steps_are n steps budget e h b = omega arith

abbrev gives_of : List (List ℤ) → ℕ → Result Gives Status
gives_of lists steps = Ok (record { lists = lists; steps = steps })

gave_is : (budget : ℕ) (o : Outcome) (r : Ran) → budget < 2 ^ 64 → IsWithin budget o → machine.IsAnswer (Ok r) o → given budget o ≡ Ok (ran_view r)
gave_is budget (Gave lists steps) r b h a = ap₂ gives_of (sym a.0) (steps_are r.steps steps budget a.1 h b)
gave_is budget (TooBig steps) r b h a = absurd a
gave_is budget runs.OutOfSteps r b h a = absurd a
gave_is budget GotStuck r b h a = absurd a

too_large_is : (budget : ℕ) (o : Outcome) → machine.IsAnswer (Err stop.TooLarge) o → given budget o ≡ Err (TooLarge 1)
too_large_is budget (Gave lists steps) a = absurd a
too_large_is budget (TooBig steps) a = refl
too_large_is budget runs.OutOfSteps a = absurd a
too_large_is budget GotStuck a = absurd a

out_of_steps_is : (budget : ℕ) (o : Outcome) → machine.IsAnswer (Err stop.OutOfSteps) o → given budget o ≡ Err (status.OutOfSteps budget)
out_of_steps_is budget (Gave lists steps) a = absurd a
out_of_steps_is budget (TooBig steps) a = absurd a
out_of_steps_is budget runs.OutOfSteps a = refl
out_of_steps_is budget GotStuck a = absurd a

pub run_gave : (budget : ℕ) (p : ProgramTree) (sources : List (List ℤ)) (r : Ran) → budget < 2 ^ 64 → p.sources ≡ length sources → machine.IsAnswer (Ok r) (run_within p sources budget)
    → run_step budget p sources ≡ Ok (ran_view r)
run_gave budget p sources r b e a = as_many budget p sources e ∙ gave_is budget (run_within p sources budget) r b (all_within budget (runs.run p sources)) a

pub run_too_large : (budget : ℕ) (p : ProgramTree) (sources : List (List ℤ)) → p.sources ≡ length sources → machine.IsAnswer (Err stop.TooLarge) (run_within p sources budget)
    → run_step budget p sources ≡ Err (TooLarge 1)
run_too_large budget p sources e a = as_many budget p sources e ∙ too_large_is budget (run_within p sources budget) a

pub run_out_of_steps : (budget : ℕ) (p : ProgramTree) (sources : List (List ℤ)) → p.sources ≡ length sources → machine.IsAnswer (Err stop.OutOfSteps) (run_within p sources budget)
    → run_step budget p sources ≡ Err (status.OutOfSteps budget)
run_out_of_steps budget p sources e a = as_many budget p sources e ∙ out_of_steps_is budget (run_within p sources budget) a

-- the container of buffers that were checked
pub checked_bytes : (d : Declared) (s : Shape) (bufs : List (List ℤ)) (h : Held) (bytes : List ℕ) → TellsChecked s d bufs (Ok h)
    → bytes ≡ container_bytes h.declared h.matrix.rows h.matrix.cols h.buffers → container_step d s bufs ≡ Ok bytes
checked_bytes d s bufs h bytes t e =
    ap (λ r. then_step (well_formed r) (λ _. Ok (container_bytes d s.rows s.cols bufs))) t.0
    ∙ ap Ok (sym (e ∙ ap (λ d. container_bytes d h.matrix.rows h.matrix.cols h.buffers) t.1.0 ∙ ap (λ (s : Shape). container_bytes d s.rows s.cols h.buffers) t.1.1.0 ∙ ap (container_bytes d s.rows s.cols) t.1.1.1))

pub checked_result : (d : Declared) (s : Shape) (bufs : List (List ℤ)) (h : Held) (r : Result (Vec ℕ Global) Status) → TellsChecked s d bufs (Ok h)
    → IfOk r (λ v. v.items ≡ container_bytes h.declared h.matrix.rows h.matrix.cols h.buffers) → IfErr r (λ a. a ≡ Memory) → IsStep (container_step d s bufs) (bytes_of r)
checked_result d s bufs h (Ok v) t e m = checked_bytes d s bufs h v.items t e
checked_result d s bufs h (Err a) t e m = subst (λ a. IsStep {A = List ℕ} (container_step d s bufs) (Err a)) (sym m) tt

refused_buffers : (d : Declared) (s : Shape) (bufs : List (List ℤ)) (why : Broken) (found : Result (List Entry) Broken) → TellsFault found why
    → IsStep {A = List ℕ} (then_step (well_formed found) (λ _. Ok (container_bytes d s.rows s.cols bufs))) (Err (broken_refusal_of why))
refused_buffers d s bufs broken.Memory found h = tt
refused_buffers d s bufs (broken.Lengths k) found h = ap (λ r. then_step (well_formed r) (λ _. Ok (container_bytes d s.rows s.cols bufs))) h
refused_buffers d s bufs broken.TooLarge found h = ap (λ r. then_step (well_formed r) (λ _. Ok (container_bytes d s.rows s.cols bufs))) h
refused_buffers d s bufs (broken.Climb part x) found h = ap (λ r. then_step (well_formed r) (λ _. Ok (container_bytes d s.rows s.cols bufs))) h
refused_buffers d s bufs (broken.Cell k x have want) found h = ap (λ r. then_step (well_formed r) (λ _. Ok (container_bytes d s.rows s.cols bufs))) h
refused_buffers d s bufs (broken.Long k have want) found h = ap (λ r. then_step (well_formed r) (λ _. Ok (container_bytes d s.rows s.cols bufs))) h

pub buffers_refused : (d : Declared) (s : Shape) (bufs : List (List ℤ)) (why : Broken) (answer : Status) → answer ≡ broken_refusal_of why → TellsFault (checked s (declaration_of d) bufs) why
    → IsStep {A = List ℕ} (container_step d s bufs) (Err answer)
buffers_refused d s bufs why answer e h = subst (λ a. IsStep {A = List ℕ} (container_step d s bufs) (Err a)) (sym e) (refused_buffers d s bufs why (checked s (declaration_of d) bufs) h)

pub inner_broken : (why : Broken) (answer : Status) → answer ≡ broken_refusal_of why → IsInnerRefusal answer
inner_broken broken.Memory answer e = subst IsInnerRefusal (sym e) tt
inner_broken (broken.Lengths k) answer e = subst IsInnerRefusal (sym e) tt
inner_broken broken.TooLarge answer e = subst IsInnerRefusal (sym e) tt
inner_broken (broken.Climb part x) answer e = subst IsInnerRefusal (sym e) tt
inner_broken (broken.Cell k x have want) answer e = subst IsInnerRefusal (sym e) tt
inner_broken (broken.Long k have want) answer e = subst IsInnerRefusal (sym e) tt

pub result_ends : (d : Declared) (s : Shape) (g : Gives) (answer : Status) → IsStep {A = List ℕ} (container_step d s g.lists) (Err answer) → IsStep {A = Made} (result_step d s g) (Err answer)
result_ends d s g answer h = first_ends (container_step d s g.lists) (λ bytes. Ok (record { bytes = bytes; lines = steps_line g.steps })) answer h

pub result_is : (d : Declared) (s : Shape) (g : Gives) (bytes lines : List ℕ) → container_step d s g.lists ≡ Ok bytes → lines ≡ steps_line g.steps → result_step d s g ≡ Ok (record { bytes = bytes; lines = lines })
result_is d s g bytes lines h e =
    ap (λ r. then_step r (λ bytes. Ok (record { bytes = bytes; lines = steps_line g.steps }))) h ∙ ap (λ l. Ok (record { bytes = bytes; lines = l })) (sym e)

pub ran_result : (budget : ℕ) (u : PlainUnit) (c : Contained) (g : Gives) (s : Shape) (r : Result Made Status) → run_step budget u.program c.buffers ≡ Ok g → s ≡ c.shape → IsStep (result_step u.target s g) r
    → IsStep (ran_step budget u c) r
ran_result budget u c g s r h e t = subst (λ x. IsStep (then_step x (result_step u.target c.shape)) r) (sym h) (subst (λ s. IsStep (result_step u.target s g) r) e t)

pub ran_ends : (budget : ℕ) (u : PlainUnit) (c : Contained) (answer : Status) → IsStep {A = Gives} (run_step budget u.program c.buffers) (Err answer) → IsStep {A = Made} (ran_step budget u c) (Err answer)
ran_ends budget u c answer h = first_ends (run_step budget u.program c.buffers) (result_step u.target c.shape) answer h

abbrev shape_of : ℕ → ℕ → Shape
shape_of rows cols = record { rows = rows; cols = cols }

pub same_shape : (s : shapes.Shape) (m k : Map) → m ≡ k → (s.rows ≡ m.rows) × (s.cols ≡ m.cols) → plain_shape s ≡ shape_in k
same_shape s m k e h = ap₂ shape_of h.0 h.1 ∙ ap shape_in e

-- the code is read and the sources are
made_behind : (code input : List ℕ) (budget : ℕ) (fs : Files) (u : PlainUnit) (c : Contained) → unit_at (content_of fs code) ≡ Ok u → source_at (content_of fs input) ≡ Ok c
    → run_in code input budget fs ≡ ran_step budget u c
unfolding run_in
made_behind code input budget fs u c h e =
    ap (λ r. then_step r (λ u. then_step (source_at (content_of fs input)) (λ c. ran_step budget u c))) h ∙ ap (λ r. then_step r (λ c. ran_step budget u c)) e

pub source_before : (name : List ℕ) (r : Result Contained Status) (before middle : Option Files) → middle ≡ before
    → IfSome middle (λ fs. IsStep {A = Contained} (source_at (content_of fs name)) r) → IfSome before (λ fs. IsStep {A = Contained} (source_at (content_of fs name)) r)
source_before name r before middle e h = subst (λ (o : Option Files). IfSome o (λ fs. IsStep {A = Contained} (source_at (content_of fs name)) r)) e h

pub code_ends : (code input : List ℕ) (budget : ℕ) (fs : Files) (answer : Status) → IsStep {A = PlainUnit} (unit_at (content_of fs code)) (Err answer)
    → IsStep {A = Made} (run_in code input budget fs) (Err answer)
unfolding run_in
code_ends code input budget fs answer h =
    first_ends (unit_at (content_of fs code)) (λ u. then_step (source_at (content_of fs input)) (λ c. ran_step budget u c)) answer h

source_behind : (code input : List ℕ) (budget : ℕ) (fs : Files) (u : PlainUnit) → unit_at (content_of fs code) ≡ Ok u
    → run_in code input budget fs ≡ then_step (source_at (content_of fs input)) (λ c. ran_step budget u c)
unfolding run_in
source_behind code input budget fs u h = ap (λ r. then_step r (λ u. then_step (source_at (content_of fs input)) (λ c. ran_step budget u c))) h

pub source_ends : (code input : List ℕ) (budget : ℕ) (fs : Files) (u : PlainUnit) (answer : Status) → unit_at (content_of fs code) ≡ Ok u
    → IsStep {A = Contained} (source_at (content_of fs input)) (Err answer) → IsStep {A = Made} (run_in code input budget fs) (Err answer)
source_ends code input budget fs u answer h e =
    subst (λ r. IsStep {A = Made} r (Err answer)) (sym (source_behind code input budget fs u h)) (first_ends (source_at (content_of fs input)) (λ c. ran_step budget u c) answer e)

-- the files that a run reads
abbrev ToRead : List ℕ → Files → List Slot
ToRead code fs = slots.Code ∷ behind (unit_at (content_of fs code)) slots.Input

input_reached : (code : List ℕ) (fs : Files) (u : PlainUnit) → unit_at (content_of fs code) ≡ Ok u → IsOneOf slots.Input (ToRead code fs)
input_reached code fs u h = inr (subst (λ r. IsOneOf slots.Input (behind r slots.Input)) (sym h) (inl refl))

pub code_answer : (code input : List ℕ) (budget : ℕ) (fs : Files) (before now : Faults) (answer : Status) → IsStep {A = PlainUnit} (unit_at (content_of fs code)) (Err answer)
    → IsRefusal (reads slots.Code code ∷ []) before now answer → IsAnswer (ToRead code fs) (status_of (run_in code input budget fs)) answer
code_answer code input budget fs before now answer h r =
    step_answer (ToRead code fs) (run_in code input budget fs) slots.Code code before now answer (code_ends code input budget fs answer h) r (inl refl)

pub source_answer : (code input : List ℕ) (budget : ℕ) (fs : Files) (u : PlainUnit) (before now : Faults) (answer : Status) → unit_at (content_of fs code) ≡ Ok u
    → IsStep {A = Contained} (source_at (content_of fs input)) (Err answer) → IsRefusal (reads slots.Input input ∷ []) before now answer
    → IsAnswer (ToRead code fs) (status_of (run_in code input budget fs)) answer
source_answer code input budget fs u before now answer h e r =
    step_answer (ToRead code fs) (run_in code input budget fs) slots.Input input before now answer (source_ends code input budget fs u answer h e) r (input_reached code fs u h)

pub ran_plain : (code input : List ℕ) (budget : ℕ) (fs : Files) (u : PlainUnit) (c : Contained) (made : Result making.Made Status) → unit_at (content_of fs code) ≡ Ok u
    → source_at (content_of fs input) ≡ Ok c → IsStep (ran_step budget u c) (made_of made) → IsStep (run_in code input budget fs) (made_of made)
ran_plain code input budget fs u c made h e s = subst (λ r. IsStep r (made_of made)) (sym (made_behind code input budget fs u c h e)) s

made_ends : (code input : List ℕ) (budget : ℕ) (fs : Files) (answer : Status) → IsStep {A = Made} (run_in code input budget fs) (Err answer) → IsInnerRefusal answer
    → IsAnswer (ToRead code fs) (status_of (run_in code input budget fs)) answer
made_ends code input budget fs answer h r =
    step_answer (ToRead code fs) (run_in code input budget fs) slots.Code code (λ _ _. 0) (λ _ _. 0) answer h (inner_refusal (reads slots.Code code ∷ []) (λ _ _. 0) (λ _ _. 0) answer r) (inl refl)

pub ran_answer : (code input : List ℕ) (budget : ℕ) (fs : Files) (u : PlainUnit) (c : Contained) (made : Result making.Made Status) → unit_at (content_of fs code) ≡ Ok u
    → source_at (content_of fs input) ≡ Ok c → IsStep (ran_step budget u c) (made_of made) → IfErr made IsInnerRefusal
    → IfErr made (IsAnswer (ToRead code fs) (status_of (run_in code input budget fs)))
ran_answer code input budget fs u c (Ok made) h e s r = tt
ran_answer code input budget fs u c (Err answer) h e s r = made_ends code input budget fs answer (ran_plain code input budget fs u c (Err answer) h e s) r
