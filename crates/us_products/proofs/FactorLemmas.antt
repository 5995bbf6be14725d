-- The steps in front of a product, one after the other.
use Rattle.std.proofs.Common.{◌≡◌, ℕ, ◌++◌, Bool, List, [], ◌∷◌, Option, Some, None, IfSome, Result, Ok, Err, IfErr, IfOk, OnOk, refl, sym, ap, ◌∙◌, subst, inl, inr}
use Rattle.us_matrix.specs.Grid.{Grid}
use Rattle.us_decl.specs.Declares.{Declared}
use Rattle.us_outside.specs.Causes.{Faults}
use Rattle.us_outside.specs.Files.{Files, content_of}
use Rattle.us_status.specs.declared.status.Slot.{Slot}
use Rattle.us_status.specs.declared.status.Slot.TheVariants as slots
use Rattle.us_status.specs.declared.status.Status.{Status}
use Rattle.us_status.specs.Uses.{reads}
use Rattle.us_status.specs.Answers.{behind, status_of, then_step, IsAnswer, IsInnerRefusal, IsOneOf, IsRefusal, IsStep}
use Rattle.us_status.proofs.AnswerLemmas.{both, first_ends, step_answer}
use Rattle.us_inputs.specs.Sources.{held_as, held_step}
use Rattle.us_inputs.specs.Steps.{Input, chain_in, input_at, map_of}
use Rattle.us_inputs.proofs.HeldLemmas.{input_held}
use Rattle.us_inputs.proofs.InputLemmas.{inner_refusal}
use Rattle.us_products.specs.declared.multiplying.Multiplied.{Multiplied}
use Rattle.us_products.specs.Factors.{AreOfFiles, Factors, factors_in, fit_step, operand_at, product_step, to_read}
use Rattle.us_products.specs.Multiplying.{EndsAt}
use Rattle.us_products.specs.Views.{IsMadeOf, IsProductOf}

pub all_three : {X : Type 0} (o : Option X) {P Q R S : X → Type 0} → IfSome o P → IfSome o Q → IfSome o R → ((x : X) → P x → Q x → R x → S x) → IfSome o S
all_three None p q r f = p
all_three (Some x) p q r f = f x p q r

-- ---- what the steps so far leave

abbrev behind_formats : Bool → List ℕ → List ℕ → Files → List Declared → Result Factors Status
behind_formats vector input operand fs ds = then_step (input_at slots.Input (content_of fs input)) (λ i. then_step (operand_at (content_of fs operand)) (fit_step vector ds i))

with_formats : (vector : Bool) (formats input chain operand : List ℕ) (fs : Files) (ds : List Declared) → chain_in (content_of fs formats) chain ≡ Ok ds
    → factors_in vector formats input chain operand fs ≡ behind_formats vector input operand fs ds
unfolding factors_in
with_formats vector formats input chain operand fs ds c = ap (λ r. then_step r (behind_formats vector input operand fs)) c

with_input : (vector : Bool) (formats input chain operand : List ℕ) (fs : Files) (ds : List Declared) (i : Input) → chain_in (content_of fs formats) chain ≡ Ok ds
    → input_at slots.Input (content_of fs input) ≡ Ok i → factors_in vector formats input chain operand fs ≡ then_step (operand_at (content_of fs operand)) (fit_step vector ds i)
with_input vector formats input chain operand fs ds i c e =
    with_formats vector formats input chain operand fs ds c ∙ ap (λ r. then_step r (λ i. then_step (operand_at (content_of fs operand)) (fit_step vector ds i))) e

with_operand : (vector : Bool) (formats input chain operand : List ℕ) (fs : Files) (ds : List Declared) (i : Input) (x : Grid) → chain_in (content_of fs formats) chain ≡ Ok ds
    → input_at slots.Input (content_of fs input) ≡ Ok i → operand_at (content_of fs operand) ≡ Ok x → factors_in vector formats input chain operand fs ≡ fit_step vector ds i x
with_operand vector formats input chain operand fs ds i x c e f =
    with_input vector formats input chain operand fs ds i c e ∙ ap (λ r. then_step r (fit_step vector ds i)) f

-- ---- the files that are reached

input_reached : (formats input chain : List ℕ) (fs : Files) (ds : List Declared) → chain_in (content_of fs formats) chain ≡ Ok ds → IsOneOf slots.Input (to_read formats input chain fs)
input_reached formats input chain fs ds c =
    inr (subst (λ r. IsOneOf slots.Input (behind r slots.Input ++ behind (then_step r (λ ds. input_at slots.Input (content_of fs input))) slots.Operand)) (sym c) (inl refl))

operand_reached : (formats input chain : List ℕ) (fs : Files) (ds : List Declared) (i : Input) → chain_in (content_of fs formats) chain ≡ Ok ds → input_at slots.Input (content_of fs input) ≡ Ok i
    → IsOneOf slots.Operand (to_read formats input chain fs)
operand_reached formats input chain fs ds i c e =
    inr (subst (λ r. IsOneOf slots.Operand (behind r slots.Input ++ behind (then_step r (λ ds. input_at slots.Input (content_of fs input))) slots.Operand)) (sym c)
    (inr (subst (λ r. IsOneOf slots.Operand (behind r slots.Operand)) (sym e) (inl refl))))

-- reading what stands before leaves the files as they are
pub operand_before : (name : List ℕ) (r : Result Grid Status) (before middle : Option Files) → middle ≡ before
    → IfSome middle (λ fs. IsStep {A = Grid} (operand_at (content_of fs name)) r) → IfSome before (λ fs. IsStep {A = Grid} (operand_at (content_of fs name)) r)
operand_before name r before middle e h = subst (λ (o : Option Files). IfSome o (λ fs. IsStep {A = Grid} (operand_at (content_of fs name)) r)) e h

-- ---- where a step ends the command

formats_end : (vector : Bool) (formats input chain operand : List ℕ) (fs : Files) (status : Status) → IsStep {A = List Declared} (chain_in (content_of fs formats) chain) (Err status)
    → IsStep {A = Factors} (factors_in vector formats input chain operand fs) (Err status)
unfolding factors_in
formats_end vector formats input chain operand fs status h = first_ends (chain_in (content_of fs formats) chain) (behind_formats vector input operand fs) status h

pub formats_answer : (vector : Bool) (formats input chain operand : List ℕ) (fs : Files) (before now : Faults) (status : Status)
    → IsStep {A = List Declared} (chain_in (content_of fs formats) chain) (Err status) → IsRefusal (reads slots.Formats formats ∷ []) before now status
    → IsAnswer (to_read formats input chain fs) (status_of (factors_in vector formats input chain operand fs)) status
formats_answer vector formats input chain operand fs before now status h r =
    step_answer (to_read formats input chain fs) (factors_in vector formats input chain operand fs) slots.Formats formats before now status
    (formats_end vector formats input chain operand fs status h) r (inl refl)

input_ends : (vector : Bool) (formats input chain operand : List ℕ) (fs : Files) (ds : List Declared) (status : Status) → chain_in (content_of fs formats) chain ≡ Ok ds
    → IsStep {A = Input} (input_at slots.Input (content_of fs input)) (Err status) → IsStep {A = Factors} (factors_in vector formats input chain operand fs) (Err status)
input_ends vector formats input chain operand fs ds status c h =
    subst (λ r. IsStep {A = Factors} r (Err status)) (sym (with_formats vector formats input chain operand fs ds c))
    (first_ends (input_at slots.Input (content_of fs input)) (λ i. then_step (operand_at (content_of fs operand)) (fit_step vector ds i)) status h)

pub input_answer : (vector : Bool) (formats input chain operand : List ℕ) (fs : Files) (ds : List Declared) (before now : Faults) (status : Status)
    → chain_in (content_of fs formats) chain ≡ Ok ds → IsStep {A = Input} (input_at slots.Input (content_of fs input)) (Err status) → IsRefusal (reads slots.Input input ∷ []) before now status
    → IsAnswer (to_read formats input chain fs) (status_of (factors_in vector formats input chain operand fs)) status
input_answer vector formats input chain operand fs ds before now status c h r =
    step_answer (to_read formats input chain fs) (factors_in vector formats input chain operand fs) slots.Input input before now status
    (input_ends vector formats input chain operand fs ds status c h) r (input_reached formats input chain fs ds c)

operand_ends : (vector : Bool) (formats input chain operand : List ℕ) (fs : Files) (ds : List Declared) (i : Input) (status : Status) → chain_in (content_of fs formats) chain ≡ Ok ds
    → input_at slots.Input (content_of fs input) ≡ Ok i → IsStep {A = Grid} (operand_at (content_of fs operand)) (Err status)
    → IsStep {A = Factors} (factors_in vector formats input chain operand fs) (Err status)
operand_ends vector formats input chain operand fs ds i status c e h =
    subst (λ r. IsStep {A = Factors} r (Err status)) (sym (with_input vector formats input chain operand fs ds i c e))
    (first_ends (operand_at (content_of fs operand)) (fit_step vector ds i) status h)

pub operand_answer : (vector : Bool) (formats input chain operand : List ℕ) (fs : Files) (ds : List Declared) (i : Input) (before now : Faults) (status : Status)
    → chain_in (content_of fs formats) chain ≡ Ok ds → input_at slots.Input (content_of fs input) ≡ Ok i → IsStep {A = Grid} (operand_at (content_of fs operand)) (Err status)
    → IsRefusal (reads slots.Operand operand ∷ []) before now status → IsAnswer (to_read formats input chain fs) (status_of (factors_in vector formats input chain operand fs)) status
operand_answer vector formats input chain operand fs ds i before now status c e h r =
    step_answer (to_read formats input chain fs) (factors_in vector formats input chain operand fs) slots.Operand operand before now status
    (operand_ends vector formats input chain operand fs ds i status c e h) r (operand_reached formats input chain fs ds i c e)

made_ends : (vector : Bool) (formats input chain operand : List ℕ) (fs : Files) (ds : List Declared) (i : Input) (x : Grid) (status : Status) → chain_in (content_of fs formats) chain ≡ Ok ds
    → input_at slots.Input (content_of fs input) ≡ Ok i → operand_at (content_of fs operand) ≡ Ok x → EndsAt vector ds i x status → IsInnerRefusal status
    → IsAnswer (to_read formats input chain fs) (status_of (factors_in vector formats input chain operand fs)) status
made_ends vector formats input chain operand fs ds i x status c e f h r =
    step_answer (to_read formats input chain fs) (factors_in vector formats input chain operand fs) slots.Formats formats (λ _ _. 0) (λ _ _. 0) status
    (subst (λ r. IsStep {A = Factors} r (Err status)) (sym (with_operand vector formats input chain operand fs ds i x c e f)) (h (input_held slots.Input (content_of fs input) i e)))
    (inner_refusal (reads slots.Formats formats ∷ []) (λ _ _. 0) (λ _ _. 0) status r) (inl refl)

pub made_answers : (vector : Bool) (formats input chain operand : List ℕ) (o : Option Files) (ds : List Declared) (i : Input) (x : Grid) {T : Type 0} (r : Result T Status)
    → IfSome o (λ fs. chain_in (content_of fs formats) chain ≡ Ok ds) → IfSome o (λ fs. input_at slots.Input (content_of fs input) ≡ Ok i)
    → IfSome o (λ fs. operand_at (content_of fs operand) ≡ Ok x) → IfErr r (EndsAt vector ds i x) → IfErr r IsInnerRefusal
    → IfErr r (λ s. IfSome o (λ fs. IsAnswer (to_read formats input chain fs) (status_of (factors_in vector formats input chain operand fs)) s))
made_answers vector formats input chain operand o ds i x (Ok y) c e f h k = tt
made_answers vector formats input chain operand o ds i x (Err s) c e f h k =
    all_three o c e f (λ fs c e f. made_ends vector formats input chain operand fs ds i x s c e f h k)

-- ---- where all is made

of_files : (vector : Bool) (formats input chain operand : List ℕ) (fs : Files) (ds : List Declared) (i : Input) (x : Grid) → chain_in (content_of fs formats) chain ≡ Ok ds
    → input_at slots.Input (content_of fs input) ≡ Ok i → operand_at (content_of fs operand) ≡ Ok x → product_step vector (map_of i) ds x ≡ Ok tt
    → AreOfFiles vector formats input chain operand (record { formats = ds; input = i; operand = x }) fs
of_files vector formats input chain operand fs ds i x c e f w = record {
  found = c;
  read = e;
  operand_read = f;
  steps = with_operand vector formats input chain operand fs ds i x c e f ∙ ap (λ r. then_step r (λ _. Ok (record { formats = ds; input = i; operand = x }))) w;
}

pub all_made : (vector : Bool) (formats input chain operand : List ℕ) (listed : Bool) (o : Option Files) (ds : List Declared) (i : Input) (x : Grid) {E : Type 0} (r : Result Multiplied E)
    → IfSome o (λ fs. chain_in (content_of fs formats) chain ≡ Ok ds) → IfSome o (λ fs. input_at slots.Input (content_of fs input) ≡ Ok i)
    → IfSome o (λ fs. operand_at (content_of fs operand) ≡ Ok x) → OnOk r (product_step vector (map_of i) ds x ≡ Ok tt)
    → IfOk r (IsMadeOf vector listed (record { formats = ds; input = i; operand = x })) → IfOk r (IsProductOf vector formats input chain operand listed o)
all_made vector formats input chain operand listed o ds i x (Ok made) c e f w h =
    (record { formats = ds; input = i; operand = x }, h, all_three o c e f (λ fs c e f. of_files vector formats input chain operand fs ds i x c e f w))
all_made vector formats input chain operand listed o ds i x (Err y) c e f w h = tt
