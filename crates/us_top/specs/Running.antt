-- What `run` stores and prints.
use Rattle.std.specs.Prelude.{ℕ, ℤ, List, [], ◌∷◌, ◌++◌, length, codes, nat_eq, if◌then◌else◌, Option, Some, None, Result, Ok, Err}
use Rattle.std.specs.Fmt.{decimal}
use Rattle.us_code.specs.Plain.{ProgramTree}
use Rattle.us_code.specs.Runs.{Outcome, Gave, TooBig, OutOfSteps, GotStuck, run_within}
use Rattle.us_code.specs.Unbound as code
use Rattle.us_code.specs.Unbound.{first_unbound}
use Rattle.us_code_reader.specs.declared.parsed.CodeFault.{CodeFault}
use Rattle.us_format.specs.Matrix.{Shape, Entry}
use Rattle.us_decl.specs.Declares.{Declared}
use Rattle.us_judge.specs.Acceptance.{first_refusal}
use Rattle.us_judge.specs.Views.{declaration_of}
use Rattle.us_check.specs.declared.broken.Broken.{Broken}
use Rattle.us_check.specs.Checks.{checked}
use Rattle.us_container.specs.Bytes.{container_bytes}
use Rattle.us_container.specs.Contained.{Contained}
use Rattle.us_outside.specs.Files.{Files, content_of}
use Rattle.us_unit.specs.Units.{PlainUnit, unit_in}
use Rattle.us_status.specs.declared.status.Status.{Status}
use Rattle.us_status.specs.declared.status.Status.TheVariants.{Code, Unbound, Sources, TooLarge, NotWellFormed, Memory}
use Rattle.us_status.specs.declared.status.Status.TheVariants as status
use Rattle.us_status.specs.declared.status.Slot.TheVariants as slots
use Rattle.us_inputs.specs.Steps.{judged, of_file}
use Rattle.us_status.specs.Answers.{then_step}
use Rattle.us_inputs.specs.Sources.{source_at}

-- what is stored, and what is printed
pub record Made : Type 0 where
  pub bytes : List ℕ
  pub lines : List ℕ

abbrev pub unit_step : Result PlainUnit CodeFault → Result PlainUnit Status
unit_step (Ok u) = Ok u
unit_step (Err fault) = Err (Code fault)

-- a program of which no item breaks a rule
abbrev pub verified : Option code.Unbound → Result (Unit {0}) Status
verified None = Ok tt
verified (Some u) = Err (Unbound record { phase = u.phase; stmt = u.item; rule = u.rule })

-- a unit whose target is accepted, and whose program keeps the rules
abbrev pub fit_unit : PlainUnit → Result PlainUnit Status
fit_unit u = then_step (judged 1 (first_refusal (declaration_of u.target))) (λ _. then_step (verified (first_unbound u.program)) (λ _. Ok u))

-- the unit of bytes, if it is fit
abbrev pub unit_of : List ℕ → Result PlainUnit Status
unit_of bytes = then_step (unit_step (unit_in bytes)) fit_unit

-- the unit in a file
abbrev pub unit_at : List ℕ → Result PlainUnit Status
unit_at bytes = of_file slots.Code bytes (unit_of bytes)

abbrev pub right_sources : ℕ → ℕ → Result (Unit {0}) Status
right_sources want have = if nat_eq want have then Ok tt else Err (Sources want have)

-- the lists that a run gives, and its steps
pub record Gives : Type 0 where
  pub lists : List (List ℤ)
  pub steps : ℕ

-- a program that keeps the rules never gets stuck
abbrev pub given : ℕ → Outcome → Result Gives Status
given budget (Gave lists steps) = Ok (record { lists = lists; steps = steps })
given budget (TooBig steps) = Err (TooLarge 1)
given budget OutOfSteps = Err (status.OutOfSteps budget)
given budget GotStuck = Err Memory

-- the run of a program on as many sources as it has, within the budget
abbrev pub run_step : ℕ → ProgramTree → List (List ℤ) → Result Gives Status
run_step budget p sources = then_step (right_sources p.sources (length sources)) (λ _. given budget (run_within p sources budget))

abbrev pub well_formed : Result (List Entry) Broken → Result (Unit {0}) Status
well_formed (Ok m) = Ok tt
well_formed (Err why) = Err (NotWellFormed why)

-- the container of lists that are well-formed in the target
abbrev pub container_step : Declared → Shape → List (List ℤ) → Result (List ℕ) Status
container_step d s lists = then_step (well_formed (checked s (declaration_of d) lists)) (λ _. Ok (container_bytes d s.rows s.cols lists))

-- `steps N`
abbrev pub steps_line : ℕ → List ℕ
steps_line n = codes "steps " ++ (decimal n ++ (10 ∷ []))

-- the container of what a run gives, and its steps
abbrev pub result_step : Declared → Shape → Gives → Result Made Status
result_step d s g = then_step (container_step d s g.lists) (λ bytes. Ok (record { bytes = bytes; lines = steps_line g.steps }))

-- what a unit makes of sources
abbrev pub ran_step : ℕ → PlainUnit → Contained → Result Made Status
ran_step budget u c = then_step (run_step budget u.program c.buffers) (result_step u.target c.shape)

-- what a run makes of these files: the code is read, then the input, then the code runs
unfoldable pub run_in : List ℕ → List ℕ → ℕ → Files → Result Made Status
run_in code input budget fs = then_step (unit_at (content_of fs code)) (λ u. then_step (source_at (content_of fs input)) (λ c. ran_step budget u c))
