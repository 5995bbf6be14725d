-- The ways in which a command ends, as runs of it.
use Rattle.std.proofs.Common.{◌≡◌, ℕ, ◌++◌, List, [], ◌∷◌, Option, Some, None, IfSome, Result, Ok, Err, false, refl, sym, ap, ap₂, ◌∙◌, subst, inl, inr}
use Rattle.us_outside.specs.Causes.{Faults, NeverFell}
use Rattle.us_outside.specs.Files.{Files}
use Rattle.us_status.specs.declared.status.Slot.{Slot}
use Rattle.us_status.specs.declared.status.Status.{Status}
use Rattle.us_status.specs.declared.status.Status.TheVariants.{Done, WriteFault, Memory}
use Rattle.us_status.specs.Uses.{Use, reads}
use Rattle.us_status.specs.Answers.{IsAnswer, IsCaused, IsPlainOrMemory, IsRefusal, IsStep, NoneRose, status_of, writes}
use Rattle.us_status.specs.Stands.{Outcome, Stands, Store, after_stores}
use Rattle.us_status.specs.Runs.{DoneMeans, IsRunOf, MayMake, SomeStands, StopsBefore, Task, Told, plain_status}
use Rattle.us_status.proofs.AnswerLemmas.{both, end_answer, end_caused, end_words, plain_or_memory, refusal_caused, refusal_words, step_answer}

complete_by : (t : Task) (o : Option Files) (before now : Faults) (status : Status) → IsCaused t.uses before now status
    → IfSome o (λ fs. IsAnswer (t.reached fs) (plain_status t fs) status) → (NoneRose t.uses before now → IfSome o (λ fs. IsPlainOrMemory (plain_status t fs) status))
complete_by t None before now status c a n = tt
complete_by t (Some fs) before now status c a n = plain_or_memory (t.reached fs) (plain_status t fs) t.uses before now status c n a

-- ---- a refusal

refusal_stands : (before now : Faults) (us : List Use) (status : Status) (fs : Files) (printed : Option (List ℕ)) (fs' : Option Files) (printed' : Option (List ℕ))
    → IsRefusal us before now status → fs' ≡ Some fs → printed' ≡ printed → StopsBefore status fs printed fs' printed'
refusal_stands before now us Done fs printed fs' printed' h f p = absurd h
refusal_stands before now us (WriteFault slot) fs printed fs' printed' h f p = absurd h
refusal_stands before now us status fs printed fs' printed' h f p = (f, p)

refusal_means : (before now : Faults) (us : List Use) (status : Status) (t : Task) (fs : Files) (after : Option Files) → IsRefusal us before now status → DoneMeans status t fs after
refusal_means before now us Done t fs after h = absurd h
refusal_means before now us status t fs after h = tt

stands_refused : (t : Task) (o : Option Files) (before now : Faults) (us : List Use) (status : Status) (printed : Option (List ℕ)) (fs' : Option Files) (printed' : Option (List ℕ))
    → IsRefusal us before now status → fs' ≡ o → printed' ≡ printed → IfSome o (λ fs. SomeStands t status fs printed fs' printed')
stands_refused t None before now us status printed fs' printed' h f p = tt
stands_refused t (Some fs) before now us status printed fs' printed' h f p = inl (refusal_stands before now us status fs printed fs' printed' h f p)

means_refused : (t : Task) (o after : Option Files) (before now : Faults) (us : List Use) (status : Status) → IsRefusal us before now status
    → IfSome o (λ fs. DoneMeans status t fs after)
means_refused t None after before now us status h = tt
means_refused t (Some fs) after before now us status h = refusal_means before now us status t fs after h

-- a command that a step ends: all is as it was
pub refused_run : (t : Task) (before now : Told) (us more : List Use) (status : Status) → t.uses ≡ us ++ more
    → IfSome before.files (λ fs. IsAnswer (t.reached fs) (plain_status t fs) status) → IsRefusal us before.faults now.faults status
    → now.files ≡ before.files → now.printed ≡ before.printed → IsRunOf t before now status
refused_run t before now us more status e a h f p =
    let cause : IsCaused t.uses before.faults now.faults status = subst (λ us. IsCaused us before.faults now.faults status) (sym e) (refusal_caused before.faults now.faults us more status h) in
    record {
      plain = a;
      words = refusal_words before.faults now.faults us status h;
      cause = cause;
      complete = complete_by t before.files before.faults now.faults status cause a;
      stands = stands_refused t before.files before.faults now.faults us status before.printed now.files now.printed h f p;
      means = means_refused t before.files now.files before.faults now.faults us status h;
      printed = λ _. p;
    }

-- a command whose only read ends it
pub read_refused : (t : Task) (before now : Told) (slot : Slot) (name : List ℕ) (more : List Use) (status : Status) → t.uses ≡ reads slot name ∷ more
    → ((fs : Files) → t.reached fs ≡ slot ∷ []) → IfSome before.files (λ fs. IsStep {A = t.Given} (t.steps fs) (Err status))
    → IsRefusal (reads slot name ∷ []) before.faults now.faults status → now.files ≡ before.files → now.printed ≡ before.printed → IsRunOf t before now status
read_refused t before now slot name more status e only step h f p =
    let a : IfSome before.files (λ fs. IsAnswer (t.reached fs) (plain_status t fs) status) =
    both before.files step step (λ fs s _. subst (λ slots. IsAnswer slots (plain_status t fs) status) (sym (only fs))
    (step_answer (slot ∷ []) (t.steps fs) slot name before.faults now.faults status s h (inl refl))) in
    refused_run t before now (reads slot name ∷ []) more status e a h f p

all_memory : (t : Task) (o : Option Files) → IfSome o (λ fs. IsAnswer (t.reached fs) (plain_status t fs) Memory)
all_memory t None = tt
all_memory t (Some fs) = tt

-- a command that memory doesn't suffice for
pub memory_run : (t : Task) (before now : Told) → now.files ≡ before.files → now.printed ≡ before.printed → IsRunOf t before now Memory
memory_run t before now f p = refused_run t before now [] t.uses Memory refl (all_memory t before.files) tt f p

-- ---- the end

done_means : (status : Status) (t : Task) (o : Outcome) (fs : Files) (printed : Option (List ℕ)) (fs' : Option Files) (printed' : Option (List ℕ))
    → t.Means fs (after_stores o.stores fs) → Stands o status fs printed fs' printed' → DoneMeans status t fs fs'
done_means Done t o fs printed fs' printed' h s = subst (λ (fs' : Option Files). IfSome fs' (t.Means fs)) (sym s.0) h
done_means status t o fs printed fs' printed' h s = tt

made_outcome : (t : Task) (given : t.Given) (o : Outcome) (r : Result t.Given Status) → r ≡ Ok given → t.Makes given o → MayMake t r o
made_outcome t given o r e h = subst (λ r. MayMake t r o) (sym e) h

-- what stands at the end of a command, between what the outside told when all steps had passed and tells now
pub record Ends (o : Outcome) (middle now : Told) (status : Status) : Type 0 where
  pub answer : IsAnswer [] Done status
  pub cause : IsCaused (writes o) middle.faults now.faults status
  pub stands : IfSome middle.files (λ fs. Stands o status fs middle.printed now.files now.printed)
  pub printed : o.prints ≡ None → now.printed ≡ middle.printed

stands_done : (t : Task) (given : t.Given) (o : Outcome) (fs : Option Files) (status : Status) (printed middle : Option (List ℕ)) (fs' : Option Files) (printed' : Option (List ℕ))
    → IfSome fs (λ fs. t.steps fs ≡ Ok given) → t.Makes given o → middle ≡ printed → IfSome fs (λ fs. Stands o status fs middle fs' printed')
    → IfSome fs (λ fs. SomeStands t status fs printed fs' printed')
stands_done t given o None status printed middle fs' printed' e m p h = tt
stands_done t given o (Some fs) status printed middle fs' printed' e m p h =
    inr (o, made_outcome t given o (t.steps fs) e m, subst (λ p. Stands o status fs p fs' printed') p h)

-- a command whose steps have all passed: its calls are those of its reads and those that make the outcome
pub done_run : (t : Task) (given : t.Given) (o : Outcome) (reading : List Use) (before middle now : Told) (status : Status)
    → IfSome before.files (λ fs. t.steps fs ≡ Ok given) → t.Makes given o → IfSome before.files (λ fs. t.Means fs (after_stores o.stores fs))
    → t.uses ≡ reading ++ writes o → (t.prints ≡ false → o.prints ≡ None)
    → NeverFell before.faults middle.faults → middle.files ≡ before.files → middle.printed ≡ before.printed → Ends o middle now status → IsRunOf t before now status
done_run t given o reading before middle now status e m means calls silent later f p h =
    let cause : IsCaused t.uses before.faults now.faults status =
    subst (λ us. IsCaused us before.faults now.faults status) (sym calls) (end_caused before.faults middle.faults now.faults reading (writes o) status later h.cause) in
    let a : IfSome before.files (λ fs. IsAnswer (t.reached fs) (plain_status t fs) status) =
    both before.files e e (λ fs e _. end_answer (t.reached fs) (plain_status t fs) status (ap status_of e) h.answer) in
    let stood : IfSome before.files (λ fs. Stands o status fs middle.printed now.files now.printed) =
    subst (λ (fs : Option Files). IfSome fs (λ fs. Stands o status fs middle.printed now.files now.printed)) f h.stands in
    record {
      plain = a;
      words = end_words status h.answer;
      cause = cause;
      complete = complete_by t before.files before.faults now.faults status cause a;
      stands = stands_done t given o before.files status before.printed middle.printed now.files now.printed e m p stood;
      means = both before.files means stood (λ fs k s. done_means status t o fs middle.printed now.files now.printed k s);
      printed = λ q. h.printed (silent q) ∙ p;
    }

-- so where the outcome is known by another name
pub done_with : (t : Task) (given : t.Given) (o wanted : Outcome) (reading : List Use) (before middle now : Told) (status : Status) → o ≡ wanted
    → IfSome before.files (λ fs. t.steps fs ≡ Ok given) → t.Makes given wanted → IfSome before.files (λ fs. t.Means fs (after_stores wanted.stores fs))
    → t.uses ≡ reading ++ writes wanted → (t.prints ≡ false → wanted.prints ≡ None)
    → NeverFell before.faults middle.faults → middle.files ≡ before.files → middle.printed ≡ before.printed → Ends o middle now status → IsRunOf t before now status
done_with t given o wanted reading before middle now status same e m means calls silent later f p h =
    done_run t given wanted reading before middle now status e m means calls silent later f p (subst (λ (o : Outcome). Ends o middle now status) same h)

abbrev pub nothing_but : Store → Outcome
nothing_but s = record { stores = s ∷ []; prints = None }

abbrev pub lines_alone : List ℕ → Outcome
lines_alone lines = record { stores = []; prints = Some lines }

pub same_lines : (lines more : List ℕ) → lines ≡ more → lines_alone lines ≡ lines_alone more
same_lines lines more e = ap lines_alone e

pub none_meant : (o : Option Files) → IfSome o (λ fs. Unit {0})
none_meant None = tt
none_meant (Some fs) = tt

-- one store, or a print, or both
pub same_store : (s t : Store) → s ≡ t → nothing_but s ≡ nothing_but t
same_store s t e = ap nothing_but e

abbrev pub with_print : Store → List ℕ → Outcome
with_print s lines = record { stores = s ∷ []; prints = Some lines }

pub same_outcome : (s t : Store) (lines more : List ℕ) → s ≡ t → lines ≡ more → with_print s lines ≡ with_print t more
same_outcome s t lines more e f = ap₂ with_print e f
