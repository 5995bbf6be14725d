-- The steps of the commands, one after the other.
use Rattle.std.proofs.Common.{◌≡◌, ℕ, List, [], ◌∷◌, Option, IfSome, Ok, Err, refl, sym, ap, ◌∙◌, subst, inl, inr, arith}
use Rattle.us_matrix.specs.Map.{Map}
use Rattle.us_decl.specs.Declares.{Declared}
use Rattle.us_print.specs.Canon.{decl_text}
use Rattle.us_print.specs.ReadBack.{ReadBackLaw}
use Rattle.us_outside.specs.Causes.{Faults, NeverFell}
use Rattle.us_outside.specs.Files.{Files, content_of, stored}
use Rattle.us_advise.specs.Blocks.{block}
use Rattle.us_status.specs.declared.status.Slot.{Slot}
use Rattle.us_status.specs.declared.status.Slot.TheVariants as slots
use Rattle.us_status.specs.declared.status.Status.{Status}
use Rattle.us_status.specs.Answers.{IsAnswer, IsInnerRefusal, IsOneOf, IsRefusal, IsStep, behind, status_of, then_step}
use Rattle.us_status.specs.Stands.{Store, after_stores, output_of}
use Rattle.us_status.specs.Uses.{reads}
use Rattle.us_status.proofs.AnswerLemmas.{both, first_ends, step_answer}
use Rattle.us_status.proofs.FileLemmas.{same_ok, stored_content}
use Rattle.us_status.proofs.RunLemmas.{with_print}
use Rattle.us_inputs.specs.Chained.{Chained}
use Rattle.us_inputs.specs.Steps.{Input, chain_in, input_at, map_of}
use Rattle.us_inputs.proofs.InputLemmas.{inner_refusal}
use Rattle.us_smallest.specs.Blocking.{Blocked, HoldsBest, best_sides, best_step, blocked, blocked_in, blocks_text}
use Rattle.us_smallest.specs.Comparing.{chained, compared_in}
use Rattle.us_smallest.specs.Views.{IsBest}
use Rattle.us_smallest.proofs.LibraryLemmas.{text_is_library}

pub never_fell : (before middle now : Faults) → NeverFell before middle → NeverFell middle now → NeverFell before now
never_fell before middle now h k call name = omega (arith, h call name, k call name)

-- ---- comparing formats

abbrev Found : List ℕ → List ℕ → List Declared → Files → Type 0
Found formats chain ds fs = chain_in (content_of fs formats) chain ≡ Ok ds

abbrev IsRead : List ℕ → Input → Files → Type 0
IsRead input i fs = input_at slots.Input (content_of fs input) ≡ Ok i

abbrev ToRead : List ℕ → List ℕ → Files → List Slot
ToRead formats chain fs = slots.Formats ∷ behind (chain_in (content_of fs formats) chain) slots.Input

with_formats : (formats input chain : List ℕ) (fs : Files) (ds : List Declared) → Found formats chain ds fs
    → compared_in formats input chain fs ≡ then_step (input_at slots.Input (content_of fs input)) (chained ds)
unfolding compared_in
with_formats formats input chain fs ds c = ap (λ r. then_step r (λ ds. then_step (input_at slots.Input (content_of fs input)) (chained ds))) c

-- the formats are found and the input is read
pub compared : (formats input chain : List ℕ) (files : Option Files) (ds : List Declared) (i : Input) → IfSome files (Found formats chain ds) → IfSome files (IsRead input i)
    → IfSome files (λ fs. compared_in formats input chain fs ≡ chained ds i)
compared formats input chain files ds i c e = both files c e (λ fs c e. with_formats formats input chain fs ds c ∙ ap (λ r. then_step r (chained ds)) e)

formats_end : (formats input chain : List ℕ) (fs : Files) (status : Status) → IsStep {A = List Declared} (chain_in (content_of fs formats) chain) (Err status)
    → IsStep {A = Chained} (compared_in formats input chain fs) (Err status)
unfolding compared_in
formats_end formats input chain fs status h =
    first_ends (chain_in (content_of fs formats) chain) (λ ds. then_step (input_at slots.Input (content_of fs input)) (chained ds)) status h

pub formats_answer : (formats input chain : List ℕ) (files : Option Files) (before now : Faults) (status : Status)
    → IfSome files (λ fs. IsStep {A = List Declared} (chain_in (content_of fs formats) chain) (Err status)) → IsRefusal (reads slots.Formats formats ∷ []) before now status
    → IfSome files (λ fs. IsAnswer (ToRead formats chain fs) (status_of (compared_in formats input chain fs)) status)
formats_answer formats input chain files before now status h r =
    both files h h (λ fs h _. step_answer (ToRead formats chain fs) (compared_in formats input chain fs) slots.Formats formats before now status (formats_end formats input chain fs status h) r (inl refl))

input_ends : (formats input chain : List ℕ) (fs : Files) (ds : List Declared) (status : Status) → Found formats chain ds fs
    → IsStep {A = Input} (input_at slots.Input (content_of fs input)) (Err status) → IsStep {A = Chained} (compared_in formats input chain fs) (Err status)
input_ends formats input chain fs ds status c h =
    subst (λ r. IsStep {A = Chained} r (Err status)) (sym (with_formats formats input chain fs ds c)) (first_ends (input_at slots.Input (content_of fs input)) (chained ds) status h)

input_reached : (formats chain : List ℕ) (fs : Files) (ds : List Declared) → Found formats chain ds fs → IsOneOf slots.Input (ToRead formats chain fs)
input_reached formats chain fs ds c = inr (subst (λ r. IsOneOf slots.Input (behind r slots.Input)) (sym c) (inl refl))

pub input_answer : (formats input chain : List ℕ) (files : Option Files) (ds : List Declared) (before now : Faults) (status : Status) → IfSome files (Found formats chain ds)
    → IfSome files (λ fs. IsStep {A = Input} (input_at slots.Input (content_of fs input)) (Err status)) → IsRefusal (reads slots.Input input ∷ []) before now status
    → IfSome files (λ fs. IsAnswer (ToRead formats chain fs) (status_of (compared_in formats input chain fs)) status)
input_answer formats input chain files ds before now status c h r =
    both files c h
    (λ fs c h.
    step_answer (ToRead formats chain fs) (compared_in formats input chain fs) slots.Input input before now status (input_ends formats input chain fs ds status c h) r
    (input_reached formats chain fs ds c))

-- ---- blocks

with_input : (input : List ℕ) (fs : Files) (i : Input) → IsRead input i fs → blocked_in input fs ≡ best_step i
unfolding blocked_in
with_input input fs i e = ap (λ r. then_step r best_step) e

pub input_end : (input : List ℕ) (files : Option Files) (status : Status) → IfSome files (λ fs. IsStep {A = Input} (input_at slots.Input (content_of fs input)) (Err status))
    → IfSome files (λ fs. IsStep {A = Blocked} (blocked_in input fs) (Err status))
unfolding blocked_in
input_end input files status h = both files h h (λ fs h _. first_ends (input_at slots.Input (content_of fs input)) best_step status h)

pub best_answer : (input : List ℕ) (files : Option Files) (i : Input) (m : Map) (status : Status) → m ≡ map_of i → IfSome files (IsRead input i)
    → IsStep {A = Blocked} (blocked m (best_sides m)) (Err status) → IsInnerRefusal status
    → IfSome files (λ fs. IsAnswer (slots.Input ∷ []) (status_of (blocked_in input fs)) status)
best_answer input files i m status same e h r =
    both files e e
    (λ fs e _.
    step_answer (slots.Input ∷ []) (blocked_in input fs) slots.Input input (λ _ _. 0) (λ _ _. 0) status
    (subst (λ r. IsStep {A = Blocked} r (Err status)) (ap (λ m. blocked m (best_sides m)) same ∙ sym (with_input input fs i e)) h)
    (inner_refusal (reads slots.Input input ∷ []) (λ _ _. 0) (λ _ _. 0) status r) (inl refl))

pub best_steps : (input : List ℕ) (files : Option Files) (i : Input) (m : Map) (text lines : List ℕ) (same : m ≡ map_of i) (b : IsBest m text lines) → IfSome files (IsRead input i)
    → IfSome files (λ fs. blocked_in input fs ≡ Ok (record { matrix = map_of i; best = b.sides }))
best_steps input files i m text lines same b e =
    both files e e (λ fs e _. with_input input fs i e ∙ ap (λ m. blocked (map_of i) (best_sides m)) (sym same) ∙ ap (blocked (map_of i)) b.smallest)

pub best_stored : (output : List ℕ) (i : Input) (m : Map) (text lines bytes printed : List ℕ) (s : Store) (same : m ≡ map_of i) (b : IsBest m text lines) → s ≡ output_of output bytes
    → bytes ≡ text → printed ≡ lines → with_print s printed ≡ with_print (output_of output (decl_text (block b.sides.rows b.sides.cols))) (blocks_text (map_of i))
best_stored output i m text lines bytes printed s same b e f g =
    ap (λ (s : Store). with_print s printed) (e ∙ ap (output_of output) (f ∙ b.text_is))
    ∙ ap (with_print (output_of output (decl_text (block b.sides.rows b.sides.cols)))) (g ∙ b.lines_are ∙ ap blocks_text same)

-- the output is read as the declaration of the smallest blocks
pub best_means : ReadBackLaw → (input output : List ℕ) (files : Option Files) (i : Input) (m : Map) (text lines : List ℕ) (same : m ≡ map_of i) (b : IsBest m text lines)
    → IfSome files (λ fs. blocked_in input fs ≡ Ok (record { matrix = map_of i; best = b.sides }))
    → IfSome files (λ fs. HoldsBest input fs (content_of (after_stores (output_of output (decl_text (block b.sides.rows b.sides.cols)) ∷ []) fs) output))
best_means law input output files i m text lines same b e =
    both files e e
    (λ fs e _ other found.
    let d = block b.sides.rows b.sides.cols in
    text_is_library law d (content_of (stored output (decl_text d) fs) output) b.valid (stored_content fs output (decl_text d))
    ∙ ap (λ (x : Blocked). Ok (block x.best.rows x.best.cols ∷ [])) (same_ok (blocked_in input fs) (record { matrix = map_of i; best = b.sides }) other e found))
