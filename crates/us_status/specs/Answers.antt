-- Which answers a run may give, and why.
use Rattle.std.specs.Prelude.{◌≡◌, ℕ, List, [], ◌∷◌, Option, Some, None, Result, Ok, Err, map, ◌⊎◌, ◌++◌}
use Rattle.us_status.specs.declared.status.Slot.{Slot}
use Rattle.us_status.specs.declared.status.Status.{Status}
use Rattle.us_status.specs.Stands.{Store, Outcome}
use Rattle.us_mm.specs.declared.fault.MmFault.{MmFault}
use Rattle.us_parse.specs.declared.parsed.DeclFault.{DeclFault}
use Rattle.us_container.specs.declared.fault.ContainerFault.{ContainerFault}
use Rattle.us_status.specs.declared.status.Status.TheVariants.{Matrix, Refused, Container, Done, Words, ReadFault, WriteFault, Memory, Formats, Code, NotWellFormed, Unbound}
use Rattle.us_status.specs.declared.status.Status.TheVariants as status
use Rattle.us_mm.specs.declared.fault.MmFault.TheVariants as mm
use Rattle.us_parse.specs.declared.parsed.DeclFault.TheVariants as decl
use Rattle.us_container.specs.declared.fault.ContainerFault.TheVariants as container
use Rattle.us_bounds.specs.declared.fault.VerifyFault.{VerifyFault}
use Rattle.us_bounds.specs.declared.fault.VerifyFault.TheVariants as bounds
use Rattle.us_judge.specs.declared.refusal.JudgeFault.{JudgeFault}
use Rattle.us_judge.specs.declared.refusal.JudgeFault.TheVariants as judged
use Rattle.us_check.specs.declared.broken.Broken.{Broken}
use Rattle.us_check.specs.declared.broken.Broken.TheVariants as broken
use Rattle.us_code_reader.specs.declared.parsed.CodeFault.{CodeFault}
use Rattle.us_code_reader.specs.declared.parsed.CodeFault.TheVariants as code
use Rattle.us_outside.specs.Causes.{Faults, Rose}
use Rattle.us_outside.specs.declared.outside.Call.TheVariants.{Fetch}
use Rattle.us_status.specs.Uses.{Use, print_use, stores}

-- the slot, if the step before passes
abbrev pub behind : {A : Type 0} → Result A Status → Slot → List Slot
behind (Ok x) slot = slot ∷ []
behind (Err status) slot = []

-- two steps, one after the other
abbrev pub then_step : {A B : Type 0} → Result A Status → (A → Result B Status) → Result B Status
then_step (Ok x) next = next x
then_step (Err status) next = Err status

-- the answer that steps come to
abbrev pub status_of : {A : Type 0} → Result A Status → Status
status_of (Ok x) = status.Done
status_of (Err status) = status

abbrev pub IsOneOf : Slot → List Slot → Type 0
IsOneOf slot [] = ⊥
IsOneOf slot (s ∷ more) = (s ≡ slot) ⊎ IsOneOf slot more

-- An answer is the plain one, or want of memory, or a fault of the outside. Of these, a failed read comes only of a file that is reached, before
-- which all steps pass, and a failed write only where the plain answer is `Done`, since all stores come last.
abbrev pub IsAnswer : List Slot → Status → Status → Type 0
IsAnswer reached plain Memory = Unit {0}
IsAnswer reached plain (ReadFault slot) = IsOneOf slot reached
IsAnswer reached plain (WriteFault slot) = plain ≡ Done
IsAnswer reached plain answer = answer ≡ plain

abbrev pub IsPlainOrMemory : Status → Status → Type 0
IsPlainOrMemory plain answer = (answer ≡ plain) ⊎ (answer ≡ Memory)

-- the count of faults of this call and file rose
abbrev pub RoseAt : Faults → Faults → Use → Type 0
RoseAt before now u = Rose (before u.call u.name) (now u.call u.name)

abbrev pub SomeUse : (Use → Type 0) → List Use → Type 0
SomeUse P [] = ⊥
SomeUse P (u ∷ us) = P u ⊎ SomeUse P us

abbrev pub EachUse : (Use → Type 0) → List Use → Type 0
EachUse P [] = Unit {0}
EachUse P (u ∷ us) = P u × EachUse P us

-- `ReadFault` comes only where a fetch of that slot failed, `WriteFault` only where a store or print of it did
abbrev pub IsCaused : List Use → Faults → Faults → Status → Type 0
IsCaused uses before now (ReadFault slot) = SomeUse (λ u. (u.slot ≡ slot) × (u.call ≡ Fetch) × RoseAt before now u) uses
IsCaused uses before now (WriteFault slot) = SomeUse (λ u. (u.slot ≡ slot) × (u.call ≡ Fetch → ⊥) × RoseAt before now u) uses
IsCaused uses before now answer = Unit {0}

-- no count of a call that the command may make rose
abbrev pub NoneRose : List Use → Faults → Faults → Type 0
NoneRose uses before now = EachUse (λ u. RoseAt before now u → ⊥) uses

-- the calls that make an outcome
abbrev pub store_use : Store → Use
store_use s = stores s.slot s.name

abbrev pub print_uses : Option (List ℕ) → List Use
print_uses None = []
print_uses (Some bytes) = print_use ∷ []

abbrev pub writes : Outcome → List Use
writes o = map store_use o.stores ++ print_uses o.prints

-- a step gives what the plain step gives, or memory ran out, or a fetch failed
abbrev pub IsStep : {A : Type 0} → Result A Status → Result A Status → Type 0
IsStep plain (Ok x) = plain ≡ Ok x
IsStep plain (Err Memory) = Unit {0}
IsStep plain (Err (ReadFault slot)) = Unit {0}
IsStep plain (Err status) = plain ≡ Err status

-- the answer to a fault of the reader of matrix files
abbrev pub refusal_of : Slot → MmFault → Status
refusal_of slot mm.Memory = Memory
refusal_of slot fault = Matrix slot fault

-- the answer to a fault of the reader of libraries
abbrev pub formats_refusal_of : DeclFault → Status
formats_refusal_of decl.Memory = Memory
formats_refusal_of fault = Formats fault

-- the answer to a fault of the reader of containers
abbrev pub container_refusal_of : ContainerFault → Status
container_refusal_of container.Memory = Memory
container_refusal_of fault = Container fault

-- the answer to a fault of the reader of units
abbrev pub code_refusal_of : CodeFault → Status
code_refusal_of code.Memory = Memory
code_refusal_of fault = Code fault

-- the answer to a target that is not accepted
abbrev pub target_refusal_of : JudgeFault → Status
target_refusal_of (judged.Refused why) = Refused 1 why
target_refusal_of judged.Memory = Memory

-- the answer to a program that breaks a rule
abbrev pub verify_refusal_of : VerifyFault → Status
verify_refusal_of (bounds.Unbound u) = Unbound u
verify_refusal_of bounds.Memory = Memory

-- the answer to buffers that are not well-formed
abbrev pub broken_refusal_of : Broken → Status
broken_refusal_of broken.Memory = Memory
broken_refusal_of why = NotWellFormed why

-- the answers with which a step may end a command: it stores and prints nothing, and a read fault comes only where a fetch of that slot failed
abbrev pub IsRefusal : List Use → Faults → Faults → Status → Type 0
IsRefusal uses before now Done = ⊥
IsRefusal uses before now Words = ⊥
IsRefusal uses before now (WriteFault slot) = ⊥
IsRefusal uses before now (ReadFault slot) = SomeUse (λ u. (u.slot ≡ slot) × (u.call ≡ Fetch) × RoseAt before now u) uses
IsRefusal uses before now _ = Unit {0}

-- the answers of a step that makes no call of the outside
abbrev pub IsInnerRefusal : Status → Type 0
IsInnerRefusal Done = ⊥
IsInnerRefusal Words = ⊥
IsInnerRefusal (WriteFault slot) = ⊥
IsInnerRefusal (ReadFault slot) = ⊥
IsInnerRefusal _ = Unit {0}
