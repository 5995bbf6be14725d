-- Answers of steps as answers of commands.
use Rattle.std.proofs.Common.{◌≡◌, ◌≢◌, ℕ, ◌++◌, List, [], ◌∷◌, Option, Some, None, IfSome, Result, Err, refl, sym, ap, ◌∙◌, subst, inl, inr}
use Rattle.us_outside.specs.Causes.{Faults, NeverFell}
use Rattle.us_outside.specs.declared.outside.Call.TheVariants.{Fetch}
use Rattle.us_status.specs.declared.status.Slot.{Slot}
use Rattle.us_status.specs.declared.status.Status.{Status}
use Rattle.us_status.specs.declared.status.Status.TheVariants.{Done, Words, ReadFault, WriteFault, Memory}
use Rattle.us_status.specs.Uses.{Use, reads}
use Rattle.us_status.specs.Answers.{status_of, then_step, IsOneOf, IsAnswer, IsCaused, IsPlainOrMemory, IsRefusal, IsStep, NoneRose, RoseAt, SomeUse}
use Rattle.us_status.proofs.EndingLemmas.{some_before, some_in_front}

pub both : {X : Type 0} (o : Option X) {P Q R : X → Type 0} → IfSome o P → IfSome o Q → ((x : X) → P x → Q x → R x) → IfSome o R
both None p q f = p
both (Some x) p q f = f x p q

-- a step that ends the command ends what comes behind it
pub first_ends : {A B : Type 0} (r : Result A Status) (next : A → Result B Status) (status : Status) → IsStep {A = A} r (Err status) → IsStep {A = B} (then_step r next) (Err status)
first_ends r next Memory h = tt
first_ends r next (ReadFault slot) h = tt
first_ends r next status h = ap (λ r. then_step r next) h

one_slot : (slot s : Slot) (name : List ℕ) (before now : Faults) (reached : List Slot) → IsRefusal (reads slot name ∷ []) before now (ReadFault s) → IsOneOf slot reached → IsOneOf s reached
one_slot slot s name before now reached (inl u) h = subst (λ s. IsOneOf s reached) u.0 h
one_slot slot s name before now reached (inr none) h = absurd none

-- what ends a command is the answer of its steps, or comes of a file that is reached
pub step_answer : {A : Type 0} (reached : List Slot) (plain : Result A Status) (slot : Slot) (name : List ℕ) (before now : Faults) (status : Status) → IsStep {A = A} plain (Err status)
    → IsRefusal (reads slot name ∷ []) before now status → IsOneOf slot reached → IsAnswer reached (status_of plain) status
step_answer reached plain slot name before now Memory h r o = tt
step_answer reached plain slot name before now (ReadFault s) h r o = one_slot slot s name before now reached r o
step_answer reached plain slot name before now (WriteFault s) h r o = absurd r
step_answer reached plain slot name before now status h r o = sym (ap status_of h)

-- the answer of the end is that of the command
pub end_answer : (reached : List Slot) (plain status : Status) → plain ≡ Done → IsAnswer [] Done status → IsAnswer reached plain status
end_answer reached plain Memory e h = tt
end_answer reached plain (ReadFault slot) e h = absurd h
end_answer reached plain (WriteFault slot) e h = e
end_answer reached plain status e h = h ∙ sym e

pub refusal_before : (before middle now : Faults) (us : List Use) (status : Status) → NeverFell before middle → IsRefusal us middle now status → IsRefusal us before now status
refusal_before before middle now us Done later h = h
refusal_before before middle now us Words later h = h
refusal_before before middle now us (WriteFault slot) later h = h
refusal_before before middle now us (ReadFault slot) later h = some_before (λ u. u.call ≡ Fetch) slot before middle now us later h
refusal_before before middle now us status later h = tt

pub refusal_behind : (before now : Faults) (u : Use) (us : List Use) (status : Status) → IsRefusal us before now status → IsRefusal (u ∷ us) before now status
refusal_behind before now u us Done h = h
refusal_behind before now u us Words h = h
refusal_behind before now u us (WriteFault slot) h = h
refusal_behind before now u us (ReadFault slot) h = inr h
refusal_behind before now u us status h = tt

pub refusal_in_front : (before now : Faults) (us more : List Use) (status : Status) → IsRefusal us before now status → IsRefusal (us ++ more) before now status
refusal_in_front before now us more Done h = h
refusal_in_front before now us more Words h = h
refusal_in_front before now us more (WriteFault slot) h = h
refusal_in_front before now us more (ReadFault slot) h = some_in_front _ us more h
refusal_in_front before now us more status h = tt

-- a refusal has its cause
pub refusal_caused : (before now : Faults) (us more : List Use) (status : Status) → IsRefusal us before now status → IsCaused (us ++ more) before now status
refusal_caused before now us more (ReadFault slot) h = some_in_front _ us more h
refusal_caused before now us more (WriteFault slot) h = absurd h
refusal_caused before now us more status h = tt

pub refusal_words : (before now : Faults) (us : List Use) (status : Status) → IsRefusal us before now status → status ≢ Words
refusal_words before now us Words h e = h
refusal_words before now us status h e = cc

some_last : (P : Use → Type 0) (front us : List Use) → SomeUse P us → SomeUse P (front ++ us)
some_last P [] us h = h
some_last P (u ∷ front) us h = inr (some_last P front us h)

-- the end of a command behind its reads has its cause
pub end_caused : (before middle now : Faults) (front us : List Use) (status : Status) → NeverFell before middle → IsCaused us middle now status → IsCaused (front ++ us) before now status
end_caused before middle now front us (ReadFault slot) later h =
    some_last (λ u. (u.slot ≡ slot) × (u.call ≡ Fetch) × RoseAt before now u) front us (some_before (λ u. u.call ≡ Fetch) slot before middle now us later h)
end_caused before middle now front us (WriteFault slot) later h =
    some_last (λ u. (u.slot ≡ slot) × (u.call ≡ Fetch → ⊥) × RoseAt before now u) front us (some_before (λ u. u.call ≡ Fetch → ⊥) slot before middle now us later h)
end_caused before middle now front us status later h = tt

pub end_words : (status : Status) → IsAnswer [] Done status → status ≢ Words
end_words Words h e = cc
end_words status h e = cc

none_of : (slot : Slot) (X : Use → Type 0) (before now : Faults) (us : List Use) → NoneRose us before now → SomeUse (λ u. (u.slot ≡ slot) × X u × RoseAt before now u) us → ⊥
none_of slot X before now [] none h = h
none_of slot X before now (u ∷ us) none (inl h) = none.0 h.2
none_of slot X before now (u ∷ us) none (inr h) = none_of slot X before now us none.1 h

-- an answer with a cause, where there is no cause
pub plain_or_memory : (reached : List Slot) (plain : Status) (us : List Use) (before now : Faults) (status : Status) → IsCaused us before now status → NoneRose us before now
    → IsAnswer reached plain status → IsPlainOrMemory plain status
plain_or_memory reached plain us before now Memory c n a = inr refl
plain_or_memory reached plain us before now (ReadFault slot) c n a = absurd (none_of slot (λ u. u.call ≡ Fetch) before now us n c)
plain_or_memory reached plain us before now (WriteFault slot) c n a = absurd (none_of slot (λ u. u.call ≡ Fetch → ⊥) before now us n c)
plain_or_memory reached plain us before now status c n a = inl a
