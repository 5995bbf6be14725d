-- How an input that was read is held.
use Rattle.std.proofs.Common.{◌≡◌, ℕ, length, nat_le, nat_lt, cond, Bool, true, false, List, Result, Ok, Err, refl, sym, ap, subst}
use Rattle.us_matrix.specs.Map.{Map}
use Rattle.us_mm.specs.declared.fault.MmFault.{MmFault}
use Rattle.us_mm.specs.Reads.{matrix_in}
use Rattle.us_format.specs.Reading.{limit}
use Rattle.us_judge.specs.Entry.{entry_format}
use Rattle.us_container.specs.declared.fault.ContainerFault.{ContainerFault}
use Rattle.us_container.specs.Contained.{Contained, contained_in}
use Rattle.us_status.specs.declared.status.Slot.{Slot}
use Rattle.us_status.specs.declared.status.Status.{Status}
use Rattle.us_status.specs.declared.status.Status.TheVariants.{Memory, ReadFault, TooLong, TooLarge}
use Rattle.us_inputs.specs.Steps.{Input, OfFile, OfContainer, container_step, held_in_entry, input_at, is_container, matrix_step, of_file, read_input, size_on}
use Rattle.us_status.specs.Answers.{IsStep}
use Rattle.us_inputs.specs.Sources.{kept_in, held_as, held_step}
use Rattle.us_status.proofs.FileLemmas.{same_ok}

held_entry : (b : Bool) (m : Map) (i : Input) → cond b (Ok (OfFile m)) (Err (TooLarge 0)) ≡ Ok i → nat_le (size_on m entry_format) limit ≡ b → held_step i ≡ Ok (held_as i)
held_entry true m i h e =
    let same : OfFile m ≡ i = same_ok (Ok (OfFile m)) (OfFile m) i refl h in
    subst (λ i. held_step i ≡ Ok (held_as i)) same (ap (λ b. cond b (Ok (kept_in m entry_format)) (Err (TooLarge 0))) e)
held_entry false m i h e = cc

held_matrix_step : (slot : Slot) (r : Result Map MmFault) (i : Input) → matrix_step slot r ≡ Ok i → held_step i ≡ Ok (held_as i)
unfolding held_in_entry
held_matrix_step slot (Ok m) i h = held_entry (nat_le (size_on m entry_format) limit) m i h refl
held_matrix_step slot (Err fault) i h = cc

held_container_step : (r : Result Contained ContainerFault) (i : Input) → container_step r ≡ Ok i → held_step i ≡ Ok (held_as i)
held_container_step (Ok c) i h = subst (λ i. held_step i ≡ Ok (held_as i)) (same_ok (Ok (OfContainer c)) (OfContainer c) i refl h) refl
held_container_step (Err fault) i h = cc

held_read : (slot : Slot) (bytes : List ℕ) (b : Bool) (i : Input) → cond b (container_step (contained_in bytes)) (matrix_step slot (matrix_in bytes)) ≡ Ok i → held_step i ≡ Ok (held_as i)
held_read slot bytes true i h = held_container_step (contained_in bytes) i h
held_read slot bytes false i h = held_matrix_step slot (matrix_in bytes) i h

held_file : (slot : Slot) (bytes : List ℕ) (b : Bool) (i : Input) → cond b (Err (TooLong slot)) (read_input slot bytes) ≡ Ok i → held_step i ≡ Ok (held_as i)
held_file slot bytes true i h = cc
held_file slot bytes false i h = held_read slot bytes (is_container bytes) i h

-- an input that was read can be held
pub input_held : (slot : Slot) (bytes : List ℕ) (i : Input) → input_at slot bytes ≡ Ok i → held_step i ≡ Ok (held_as i)
unfolding of_file
input_held slot bytes i h = held_file slot bytes (nat_lt 1073741824 (length bytes)) i h

ok_or_err : {A : Type 0} (r : Result A Status) (x : A) (status : Status) → r ≡ Ok x → r ≡ Err status → ⊥
ok_or_err r x status h k = cc

entry_is : (b : Bool) (x c : Contained) → cond b (Ok x) (Err (TooLarge 0)) ≡ Ok c → c ≡ x
entry_is true x c h = sym (same_ok (Ok x) x c refl h)
entry_is false x c h = cc

-- what was held is how the input is held
pub held_is : (i : Input) (c : Contained) → held_step i ≡ Ok c → c ≡ held_as i
held_is (OfFile m) c h = entry_is (nat_le (size_on m entry_format) limit) (kept_in m entry_format) c h
held_is (OfContainer x) c h = sym (same_ok (Ok x) x c refl h)

-- an input that can be held isn't held only for want of memory, or by a read fault
pub not_held : (i : Input) (status : Status) (plain : Result (Unit {0}) Status) → IsStep {A = Contained} (held_step i) (Err status) → held_step i ≡ Ok (held_as i) → IsStep {A = Unit {0}} plain (Err status)
not_held i Memory plain h k = tt
not_held i (ReadFault slot) plain h k = tt
not_held i status plain h k = absurd (ok_or_err (held_step i) (held_as i) status k h)
