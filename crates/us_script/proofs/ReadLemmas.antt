-- Reading the lines one after another.
use Rattle.std.proofs.Common.{◌≡◌, ℕ, ◌+◌, ◌==◌, true, false, cond, List, [], ◌∷◌, ◌++◌, length, Result, Ok, Err, refl, sym, ap, ◌∙◌}
use Rattle.us_mm_lines.specs.Lines.{lines, kept, is_skipped}
use Rattle.us_mm_lines.proofs.LineLemmas.{kept-nil, kept_line, kept_skipped, no_bytes}
use Rattle.us_script.specs.declared.step.Step.{Step}
use Rattle.us_script.specs.declared.fault.ScriptFault.{ScriptFault}
use Rattle.us_script.specs.declared.fault.ScriptFault.TheVariants.{Memory, Line, OutOfShape, ValueRange, Nothing, TooMany}
use Rattle.us_script.specs.Steps.{lacks_set, sets_left}
use Rattle.us_script.specs.Reads.{◌>>=◌, step_of, is_too_many, allowed, step_at, read_steps, reads_script}
use Rattle.us_script.specs.Views.{IsFaultOf, Takes}

-- ---- one line

pub no_step : (rows cols : ℕ) (before : List Step) (line : ℕ × List ℕ) (f : ScriptFault) → step_of rows cols line ≡ Err f → step_at rows cols before line ≡ Err f
unfolding step_at
no_step rows cols before line f h = ap (λ r. r >>= allowed before line.0) h

told : (rows cols : ℕ) (before : List Step) (line : ℕ × List ℕ) (s : Step) → step_of rows cols line ≡ Ok s → step_at rows cols before line ≡ allowed before line.0 s
unfolding step_at
told rows cols before line s h = ap (λ r. r >>= allowed before line.0) h

pub step_lacks : (rows cols : ℕ) (before : List Step) (line : ℕ × List ℕ) (s : Step) → step_of rows cols line ≡ Ok s → lacks_set (sets_left 0 before) s ≡ true → step_at rows cols before line ≡ Err (Nothing line.0)
step_lacks rows cols before line s h e = told rows cols before line s h ∙ ap (λ b. cond b (Err (Nothing line.0)) (cond (is_too_many before s) (Err (TooMany line.0)) (Ok s))) e

pub step_too_many : (rows cols : ℕ) (before : List Step) (line : ℕ × List ℕ) (s : Step) → step_of rows cols line ≡ Ok s → lacks_set (sets_left 0 before) s ≡ false → is_too_many before s ≡ true
    → step_at rows cols before line ≡ Err (TooMany line.0)
step_too_many rows cols before line s h e g =
    told rows cols before line s h ∙ ap (λ b. cond b (Err (Nothing line.0)) (cond (is_too_many before s) (Err (TooMany line.0)) (Ok s))) e
    ∙ ap (λ b. cond b (Err (TooMany line.0)) (Ok s)) g

pub step_taken : (rows cols : ℕ) (before : List Step) (line : ℕ × List ℕ) (s : Step) → step_of rows cols line ≡ Ok s → lacks_set (sets_left 0 before) s ≡ false → is_too_many before s ≡ false
    → step_at rows cols before line ≡ Ok s
step_taken rows cols before line s h e g =
    told rows cols before line s h ∙ ap (λ b. cond b (Err (Nothing line.0)) (cond (is_too_many before s) (Err (TooMany line.0)) (Ok s))) e
    ∙ ap (λ b. cond b (Err (TooMany line.0)) (Ok s)) g

pub told_fault : {A : Type 0} (f : ScriptFault) (read : Result A ScriptFault) → read ≡ Err f → IsFaultOf f read
told_fault Memory read h = tt
told_fault (Line n) read h = h
told_fault (OutOfShape n) read h = h
told_fault (ValueRange n) read h = h
told_fault (Nothing n) read h = h
told_fault (TooMany n) read h = h

-- ---- all lines

pub begins : (rows cols : ℕ) (bytes : List ℕ) → read_steps rows cols [] (kept (0 + 1) (lines bytes)) ≡ reads_script rows cols bytes
unfolding reads_script
begins rows cols bytes = refl

more_steps : (rows cols : ℕ) (before : List Step) (line : ℕ × List ℕ) (ls : List (ℕ × List ℕ)) (s : Step) → step_at rows cols before line ≡ Ok s
    → read_steps rows cols before (line ∷ ls) ≡ read_steps rows cols (before ++ s ∷ []) ls
unfolding read_steps
more_steps rows cols before line ls s h = ap (λ r. r >>= λ s. read_steps rows cols (before ++ s ∷ []) ls) h

fault_step : (rows cols : ℕ) (before : List Step) (line : ℕ × List ℕ) (ls : List (ℕ × List ℕ)) (f : ScriptFault) → step_at rows cols before line ≡ Err f → read_steps rows cols before (line ∷ ls) ≡ Err f
unfolding read_steps
fault_step rows cols before line ls f h = ap (λ r. r >>= λ s. read_steps rows cols (before ++ s ∷ []) ls) h

-- what is left says, behind the steps so far, what the whole says
abbrev pub IsReadTo : ℕ → ℕ → List ℕ → List Step → ℕ → List ℕ → Type 0
IsReadTo rows cols bytes before number rest = read_steps rows cols before (kept (number + 1) (lines rest)) ≡ reads_script rows cols bytes

pub read_skipped : (rows cols : ℕ) (bytes : List ℕ) (before : List Step) (number : ℕ) (rest line behind : List ℕ) → lines rest ≡ line ∷ lines behind → is_skipped line ≡ true
    → IsReadTo rows cols bytes before number rest → IsReadTo rows cols bytes before (number + 1) behind
read_skipped rows cols bytes before number rest line behind e skip h =
    ap (read_steps rows cols before) (sym (ap (kept (number + 1)) e ∙ kept_skipped (number + 1) line (lines behind) skip)) ∙ h

pub read_more : (rows cols : ℕ) (bytes : List ℕ) (before after : List Step) (number : ℕ) (rest line behind : List ℕ) → lines rest ≡ line ∷ lines behind → is_skipped line ≡ false
    → Takes (Ok tt) (step_at rows cols before (number + 1, line)) before after → IsReadTo rows cols bytes before number rest → IsReadTo rows cols bytes after (number + 1) behind
read_more rows cols bytes before after number rest line behind e keep t h =
    ap (λ l. read_steps rows cols l (kept (number + 1 + 1) (lines behind))) t.2
    ∙ sym (more_steps rows cols before (number + 1, line) (kept (number + 1 + 1) (lines behind)) t.0 t.1)
    ∙ ap (read_steps rows cols before) (sym (ap (kept (number + 1)) e ∙ kept_line (number + 1) line (lines behind) keep)) ∙ h

pub read_fault : (rows cols : ℕ) (bytes : List ℕ) (before : List Step) (number : ℕ) (rest line behind : List ℕ) (f : ScriptFault) → lines rest ≡ line ∷ lines behind → is_skipped line ≡ false
    → IsFaultOf f (step_at rows cols before (number + 1, line)) → IsReadTo rows cols bytes before number rest → IsFaultOf f (reads_script rows cols bytes)
read_fault rows cols bytes before number rest line behind f e keep t h = of f t
  where
    whole : (g : ScriptFault) → step_at rows cols before (number + 1, line) ≡ Err g → reads_script rows cols bytes ≡ Err g
    whole g t =
        sym h ∙ ap (read_steps rows cols before) (ap (kept (number + 1)) e ∙ kept_line (number + 1) line (lines behind) keep)
        ∙ fault_step rows cols before (number + 1, line) (kept (number + 1 + 1) (lines behind)) g t

    of : (g : ScriptFault) → IsFaultOf g (step_at rows cols before (number + 1, line)) → IsFaultOf g (reads_script rows cols bytes)
    of Memory t = tt
    of g t = whole g t

pub read_end : (rows cols : ℕ) (bytes : List ℕ) (before : List Step) (number : ℕ) (rest : List ℕ) → (length rest == 0) ≡ true → IsReadTo rows cols bytes before number rest
    → reads_script rows cols bytes ≡ Ok before
unfolding read_steps
read_end rows cols bytes before number rest e h = sym h ∙ ap (read_steps rows cols before) (ap (kept (number + 1)) (no_bytes rest e) ∙ kept-nil (number + 1))
