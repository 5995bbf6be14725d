-- The steps in front of a conversion, one after the other.
use Rattle.std.proofs.Common.{◌≡◌, ℕ, List, [], ◌∷◌, Option, IfSome, Result, Ok, Err, IfErr, refl, sym, ap, ◌∙◌, subst, inl, inr}
use Rattle.us_decl.specs.Declares.{Declared}
use Rattle.us_outside.specs.Causes.{Faults}
use Rattle.us_outside.specs.Files.{Files, content_of}
use Rattle.us_status.specs.declared.status.Slot.{Slot}
use Rattle.us_status.specs.declared.status.Slot.TheVariants as slots
use Rattle.us_status.specs.declared.status.Status.{Status}
use Rattle.us_status.specs.Uses.{reads}
use Rattle.us_inputs.specs.Steps.{Input, chain_in, input_at, map_of, within_limit}
use Rattle.us_status.specs.Answers.{status_of, then_step, behind, IsAnswer, IsInnerRefusal, IsOneOf, IsRefusal, IsStep}
use Rattle.us_inputs.specs.Chained.{Chained, chained_in, sized_step, IsOfFiles}
use Rattle.us_inputs.specs.Sources.{held_as, held_step}
use Rattle.us_inputs.proofs.InputLemmas.{inner_refusal}
use Rattle.us_status.proofs.AnswerLemmas.{both, first_ends, step_answer}
use Rattle.us_inputs.proofs.HeldLemmas.{input_held}

-- the formats are found and the input is read
chained_behind : (formats input chain : List ℕ) (fs : Files) (ds : List Declared) (i : Input) → chain_in (content_of fs formats) chain ≡ Ok ds → input_at slots.Input (content_of fs input) ≡ Ok i
    → chained_in formats input chain fs ≡ sized_step ds i
unfolding chained_in
chained_behind formats input chain fs ds i c e =
    ap (λ r. then_step r (λ ds. then_step (input_at slots.Input (content_of fs input)) (sized_step ds))) c ∙ ap (λ r. then_step r (sized_step ds)) e

pub of_files : (formats input chain : List ℕ) (fs : Files) (ds : List Declared) (i : Input) → chain_in (content_of fs formats) chain ≡ Ok ds → input_at slots.Input (content_of fs input) ≡ Ok i
    → within_limit (map_of i) 1 ds ≡ Ok tt → IsOfFiles formats input chain (record { formats = ds; input = i }) fs
of_files formats input chain fs ds i c e w = record {
  found = c;
  read = e;
  steps = chained_behind formats input chain fs ds i c e ∙ ap (λ r. then_step r (λ _. Ok (record { formats = ds; input = i }))) w;
}

-- reading a library leaves the files as they are
pub input_before : (name : List ℕ) (r : Result Input Status) (before middle : Option Files) → middle ≡ before
    → IfSome middle (λ fs. IsStep {A = Input} (input_at slots.Input (content_of fs name)) r) → IfSome before (λ fs. IsStep {A = Input} (input_at slots.Input (content_of fs name)) r)
input_before name r before middle e h = subst (λ (o : Option Files). IfSome o (λ fs. IsStep {A = Input} (input_at slots.Input (content_of fs name)) r)) e h

pub formats_end : (formats input chain : List ℕ) (fs : Files) (status : Status) → IsStep {A = List Declared} (chain_in (content_of fs formats) chain) (Err status)
    → IsStep {A = Chained} (chained_in formats input chain fs) (Err status)
unfolding chained_in
formats_end formats input chain fs status h =
    first_ends (chain_in (content_of fs formats) chain) (λ ds. then_step (input_at slots.Input (content_of fs input)) (sized_step ds)) status h

input_behind : (formats input chain : List ℕ) (fs : Files) (ds : List Declared) → chain_in (content_of fs formats) chain ≡ Ok ds
    → chained_in formats input chain fs ≡ then_step (input_at slots.Input (content_of fs input)) (sized_step ds)
unfolding chained_in
input_behind formats input chain fs ds c = ap (λ r. then_step r (λ ds. then_step (input_at slots.Input (content_of fs input)) (sized_step ds))) c

pub input_ends : (formats input chain : List ℕ) (fs : Files) (ds : List Declared) (status : Status) → chain_in (content_of fs formats) chain ≡ Ok ds
    → IsStep {A = Input} (input_at slots.Input (content_of fs input)) (Err status) → IsStep {A = Chained} (chained_in formats input chain fs) (Err status)
input_ends formats input chain fs ds status c h =
    subst (λ r. IsStep {A = Chained} r (Err status)) (sym (input_behind formats input chain fs ds c)) (first_ends (input_at slots.Input (content_of fs input)) (sized_step ds) status h)

-- the files that a conversion reads
abbrev ToRead : List ℕ → List ℕ → Files → List Slot
ToRead formats chain fs = slots.Formats ∷ behind (chain_in (content_of fs formats) chain) slots.Input

input_reached : (formats chain : List ℕ) (fs : Files) (ds : List Declared) → chain_in (content_of fs formats) chain ≡ Ok ds → IsOneOf slots.Input (ToRead formats chain fs)
input_reached formats chain fs ds c = inr (subst (λ r. IsOneOf slots.Input (behind r slots.Input)) (sym c) (inl refl))

pub formats_answer : (formats input chain : List ℕ) (fs : Files) (before now : Faults) (status : Status) → IsStep {A = List Declared} (chain_in (content_of fs formats) chain) (Err status)
    → IsRefusal (reads slots.Formats formats ∷ []) before now status → IsAnswer (ToRead formats chain fs) (status_of (chained_in formats input chain fs)) status
formats_answer formats input chain fs before now status h r =
    step_answer (ToRead formats chain fs) (chained_in formats input chain fs) slots.Formats formats before now status (formats_end formats input chain fs status h) r (inl refl)

pub input_answer : (formats input chain : List ℕ) (fs : Files) (ds : List Declared) (before now : Faults) (status : Status) → chain_in (content_of fs formats) chain ≡ Ok ds
    → IsStep {A = Input} (input_at slots.Input (content_of fs input)) (Err status) → IsRefusal (reads slots.Input input ∷ []) before now status
    → IsAnswer (ToRead formats chain fs) (status_of (chained_in formats input chain fs)) status
input_answer formats input chain fs ds before now status c h r =
    step_answer (ToRead formats chain fs) (chained_in formats input chain fs) slots.Input input before now status (input_ends formats input chain fs ds status c h) r
    (input_reached formats chain fs ds c)

make_ends : (formats input chain : List ℕ) (fs : Files) (ds : List Declared) (i : Input) (status : Status) → chain_in (content_of fs formats) chain ≡ Ok ds → input_at slots.Input (content_of fs input) ≡ Ok i
    → (held_step i ≡ Ok (held_as i) → IsStep {A = Unit {0}} (within_limit (map_of i) 1 ds) (Err status)) → IsStep {A = Chained} (chained_in formats input chain fs) (Err status)
make_ends formats input chain fs ds i status c e h =
    subst (λ r. IsStep {A = Chained} r (Err status)) (sym (chained_behind formats input chain fs ds i c e))
    (first_ends (within_limit (map_of i) 1 ds) (λ _. Ok (record { formats = ds; input = i })) status (h (input_held slots.Input (content_of fs input) i e)))

make_answer : (formats input chain : List ℕ) (fs : Files) (ds : List Declared) (i : Input) (status : Status) → chain_in (content_of fs formats) chain ≡ Ok ds → input_at slots.Input (content_of fs input) ≡ Ok i
    → (held_step i ≡ Ok (held_as i) → IsStep {A = Unit {0}} (within_limit (map_of i) 1 ds) (Err status)) → IsInnerRefusal status
    → IsAnswer (ToRead formats chain fs) (status_of (chained_in formats input chain fs)) status
make_answer formats input chain fs ds i status c e h r =
    step_answer (ToRead formats chain fs) (chained_in formats input chain fs) slots.Formats formats (λ _ _. 0) (λ _ _. 0) status (make_ends formats input chain fs ds i status c e h)
    (inner_refusal (reads slots.Formats formats ∷ []) (λ _ _. 0) (λ _ _. 0) status r) (inl refl)

-- the limit is not kept, or memory doesn't suffice
abbrev EndsAt : List Declared → Input → Status → Type 0
EndsAt ds i s = held_step i ≡ Ok (held_as i) → IsStep {A = Unit {0}} (within_limit (map_of i) 1 ds) (Err s)

pub make_plain : (formats input chain : List ℕ) (o : Option Files) (ds : List Declared) (i : Input) {T : Type 0} (r : Result T Status)
    → IfSome o (λ fs. chain_in (content_of fs formats) chain ≡ Ok ds) → IfSome o (λ fs. input_at slots.Input (content_of fs input) ≡ Ok i)
    → IfErr r (EndsAt ds i) → IfErr r (λ s. IfSome o (λ fs. IsStep {A = Chained} (chained_in formats input chain fs) (Err s)))
make_plain formats input chain o ds i (Ok x) c e h = tt
make_plain formats input chain o ds i (Err s) c e h = both o c e (λ fs c e. make_ends formats input chain fs ds i s c e h)

pub make_answers : (formats input chain : List ℕ) (o : Option Files) (ds : List Declared) (i : Input) {T : Type 0} (r : Result T Status)
    → IfSome o (λ fs. chain_in (content_of fs formats) chain ≡ Ok ds) → IfSome o (λ fs. input_at slots.Input (content_of fs input) ≡ Ok i)
    → IfErr r (EndsAt ds i) → IfErr r IsInnerRefusal → IfErr r (λ s. IfSome o (λ fs. IsAnswer (ToRead formats chain fs) (status_of (chained_in formats input chain fs)) s))
make_answers formats input chain o ds i (Ok x) c e h k = tt
make_answers formats input chain o ds i (Err s) c e h k = both o c e (λ fs c e. make_answer formats input chain fs ds i s c e h k)
