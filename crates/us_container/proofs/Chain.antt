-- The steps of reading a container, each behind those before it.
use Rattle.std.proofs.Common.{◌≡◌, ℕ, List, [], length, refl, sym, ap, subst, ◌∙◌}
use Rattle.std.specs.Prelude.{ℤ, Result, Ok, Err}
use Rattle.us_format.specs.Matrix.{Shape, Entry}
use Rattle.us_format.specs.Program.{entries_in}
use Rattle.us_format.specs.Reading.{total_count}
use Rattle.us_decl.specs.Declares.{Declared}
use Rattle.us_judge.specs.Acceptance.{first_refusal}
use Rattle.us_judge.specs.Views.{declaration_of}
use Rattle.us_check.specs.declared.held.Held.{Held}
use Rattle.us_check.specs.declared.broken.Broken.{Broken}
use Rattle.us_check.specs.declared.broken.Broken.TheVariants as broken
use Rattle.us_check.specs.Checks.{checked, TellsChecked}
use Rattle.us_container.specs.declared.fault.ContainerFault.{ContainerFault}
use Rattle.us_container.specs.declared.fault.ContainerFault.TheVariants.{Memory}
use Rattle.us_container.specs.Contained.{◌>>=◌, Contained, TellsContained, number, buffers, right_count, at_end, well_formed, fault_of, all_buffers, held_in, buffers_in, with_magic, version, declaration, accepted, side, shape_at, behind_text, contained_in}
use Rattle.us_container.specs.Answers.{Fails}
use Rattle.us_container.proofs.Steps.{fails_via, fails_by}

-- a fault of a step is what reading answers
told : (plain : Result Contained ContainerFault) (f : ContainerFault) → Fails plain f → TellsContained plain (Err f)
told plain Memory h = tt
told plain f h = h

-- the fault of a step to which reading comes
stops : {A : Type 0} (plain : Result Contained ContainerFault) (x : Result A ContainerFault) (go : A → Result Contained ContainerFault) (f : ContainerFault) → plain ≡ (x >>= go)
    → Fails x f → TellsContained plain (Err f)
stops plain x go f e h = told plain f (fails_by plain (x >>= go) f e (fails_via x go f h))

-- a step that is done
goes : {A : Type 0} (plain : Result Contained ContainerFault) (x : Result A ContainerFault) (go : A → Result Contained ContainerFault) (a : A) → plain ≡ (x >>= go) → x ≡ Ok a → plain ≡ go a
goes plain x go a e h = e ∙ ap (λ r. r >>= go) h

-- ---- the buffers

module _ (len : ℕ) (d : Declared) (s : Shape) where
  abbrev pub what : List (List ℤ) → List Entry → Result Contained ContainerFault
  what bufs m = Ok (record { declared = d; shape = s; buffers = bufs; entries = m })

  abbrev pub when_checked : List (List ℤ) → Result Contained ContainerFault
  when_checked bufs = well_formed (checked s (declaration_of d) bufs) >>= what bufs

  abbrev pub behind_buffers : List (List ℤ) × List ℕ → Result Contained ContainerFault
  behind_buffers b = at_end len b.1 >>= λ _. when_checked b.0

  abbrev pub when_counted : ℕ × List ℕ → Result Contained ContainerFault
  when_counted n = buffers len n.0 [] n.1 >>= behind_buffers

  abbrev pub behind_count : ℕ × List ℕ → Result Contained ContainerFault
  behind_count n = right_count n.0 (total_count (declaration_of d)) >>= λ _. when_counted n

  broken_so : (bufs : List (List ℤ)) (b : Broken) → TellsChecked s d bufs (Err b) → Fails (when_checked bufs) (fault_of b)
  broken_so bufs broken.Memory h = tt
  broken_so bufs (broken.Lengths k) h = ap (λ r. well_formed r >>= what bufs) h
  broken_so bufs broken.TooLarge h = ap (λ r. well_formed r >>= what bufs) h
  broken_so bufs (broken.Climb part x) h = ap (λ r. well_formed r >>= what bufs) h
  broken_so bufs (broken.Cell k x have want) h = ap (λ r. well_formed r >>= what bufs) h
  broken_so bufs (broken.Long k have want) h = ap (λ r. well_formed r >>= what bufs) h

  pub not_well_formed : (bufs : List (List ℤ)) (b : Broken) → TellsChecked s d bufs (Err b) → TellsContained (held_in d s bufs) (Err (fault_of b))
  not_well_formed bufs b h = told (held_in d s bufs) (fault_of b) (broken_so bufs b h)

  pub holds : (bufs : List (List ℤ)) (h : Held) → TellsChecked s d bufs (Ok h) → TellsContained (held_in d s bufs) (Ok h)
  holds bufs h t = (
    record { declared = d; shape = s; buffers = bufs; entries = entries_in h.matrix },
    ap (λ r. well_formed r >>= what bufs) t.0,
    record { declared = t.1.0; shape = t.1.1.0; buffers = t.1.1.1; entries = refl },
  )

  -- the buffers are all read before they are judged
  judged_4 : (bufs : List (List ℤ)) (x : Result (Unit {0}) ContainerFault) → (x >>= λ _. held_in d s bufs) ≡ ((x >>= λ _. Ok bufs) >>= held_in d s)
  judged_4 bufs (Ok t) = refl
  judged_4 bufs (Err f) = refl

  judged_3 : (x : Result (List (List ℤ) × List ℕ) ContainerFault) → (x >>= λ b. at_end len b.1 >>= λ _. held_in d s b.0) ≡ ((x >>= λ b. at_end len b.1 >>= λ _. Ok b.0) >>= held_in d s)
  judged_3 (Ok b) = judged_4 b.0 (at_end len b.1)
  judged_3 (Err f) = refl

  abbrev pub ends : List (List ℤ) × List ℕ → Result (List (List ℤ)) ContainerFault
  ends b = at_end len b.1 >>= λ _. Ok b.0

  judged_2 : (n : ℕ × List ℕ) (x : Result (Unit {0}) ContainerFault)
      → (x >>= λ _. buffers len n.0 [] n.1 >>= λ b. at_end len b.1 >>= λ _. held_in d s b.0) ≡ ((x >>= λ _. buffers len n.0 [] n.1 >>= ends) >>= held_in d s)
  judged_2 n (Ok t) = judged_3 (buffers len n.0 [] n.1)
  judged_2 n (Err f) = refl

  judged_1 : (wanted : ℕ) (x : Result (ℕ × List ℕ) ContainerFault)
      → (x >>= λ n. right_count n.0 wanted >>= λ _. buffers len n.0 [] n.1 >>= λ b. at_end len b.1 >>= λ _. held_in d s b.0)
      ≡ ((x >>= λ n. right_count n.0 wanted >>= λ _. buffers len n.0 [] n.1 >>= ends) >>= held_in d s)
  judged_1 wanted (Ok n) = judged_2 n (right_count n.0 wanted)
  judged_1 wanted (Err f) = refl

  module _ (rest : List ℕ) (wanted : ℕ) (as_many : wanted ≡ total_count (declaration_of d)) where
    by_buffers : buffers_in len d s rest ≡ (all_buffers len wanted rest >>= held_in d s)
    by_buffers = judged_1 (total_count (declaration_of d)) (number len rest) ∙ ap (λ w. all_buffers len w rest >>= held_in d s) (sym as_many)

    pub no_buffers : (f : ContainerFault) → Fails (all_buffers len wanted rest) f → TellsContained (buffers_in len d s rest) (Err f)
    no_buffers f h = stops (buffers_in len d s rest) (all_buffers len wanted rest) (held_in d s) f by_buffers h

    pub with_buffers : (bufs : List (List ℤ)) (result : Result Held ContainerFault) → all_buffers len wanted rest ≡ Ok bufs → TellsContained (held_in d s bufs) result
        → TellsContained (buffers_in len d s rest) result
    with_buffers bufs result h t = subst (λ p. TellsContained p result) (sym (goes (buffers_in len d s rest) (all_buffers len wanted rest) (held_in d s) bufs by_buffers h)) t

-- ---- all buffers

module _ (len wanted : ℕ) (rest : List ℕ) where
  abbrev till_end : List (List ℤ) × List ℕ → Result (List (List ℤ)) ContainerFault
  till_end b = at_end len b.1 >>= λ _. Ok b.0

  abbrev from_count : ℕ × List ℕ → Result (List (List ℤ)) ContainerFault
  from_count n = buffers len n.0 [] n.1 >>= till_end

  abbrev from_number : ℕ × List ℕ → Result (List (List ℤ)) ContainerFault
  from_number n = right_count n.0 wanted >>= λ _. from_count n

  abbrev found : Result (List (List ℤ)) ContainerFault
  found = all_buffers len wanted rest

  pub no_count : (f : ContainerFault) → Fails (number len rest) f → Fails found f
  no_count f h = fails_via (number len rest) from_number f h

  module _ (n : ℕ) (ys : List ℕ) (is : number len rest ≡ Ok (n, ys)) where
    counted : found ≡ from_number (n, ys)
    counted = ap (λ r. r >>= from_number) is

    pub other_count : (f : ContainerFault) → Fails (right_count n wanted) f → Fails found f
    other_count f h = fails_by found (from_number (n, ys)) f counted (fails_via (right_count n wanted) (λ _. from_count (n, ys)) f h)

    module _ (right : right_count n wanted ≡ Ok tt) (same : n ≡ wanted) where
      rightly : found ≡ from_count (wanted, ys)
      rightly = counted ∙ ap (λ r. r >>= λ _. from_count (n, ys)) right ∙ ap (λ w. from_count (w, ys)) same

      pub few_buffers : (f : ContainerFault) → Fails (buffers len wanted [] ys) f → Fails found f
      few_buffers f h = fails_by found (from_count (wanted, ys)) f rightly (fails_via (buffers len wanted [] ys) till_end f h)

      module _ (bufs : List (List ℤ)) (zs : List ℕ) (are : buffers len wanted [] ys ≡ Ok (bufs, zs)) where
        buffered : found ≡ till_end (bufs, zs)
        buffered = rightly ∙ ap (λ r. r >>= till_end) are

        pub more_behind : (f : ContainerFault) → Fails (at_end len zs) f → Fails found f
        more_behind f h = fails_by found (till_end (bufs, zs)) f buffered (fails_via (at_end len zs) (λ _. Ok bufs) f h)

        pub all_found : at_end len zs ≡ Ok tt → found ≡ Ok bufs
        all_found h = buffered ∙ ap (λ r. r >>= λ _. Ok bufs) h

-- ---- the shape

module _ (len : ℕ) (d : Declared) (rest : List ℕ) where
  abbrev shaped : Shape × List ℕ → Result Contained ContainerFault
  shaped s = buffers_in len d s.0 s.1

  inner : (r : ℕ) (x : Result (ℕ × List ℕ) ContainerFault)
      → (x >>= λ cols. shaped (record { rows = r; cols = cols.0 }, cols.1)) ≡ ((x >>= λ cols. Ok (record { rows = r; cols = cols.0 }, cols.1)) >>= shaped)
  inner r (Ok c) = refl
  inner r (Err f) = refl

  outer : (x : Result (ℕ × List ℕ) ContainerFault) (y : ℕ × List ℕ → Result (ℕ × List ℕ) ContainerFault)
      → (x >>= λ rows. y rows >>= λ cols. shaped (record { rows = rows.0; cols = cols.0 }, cols.1))
      ≡ ((x >>= λ rows. y rows >>= λ cols. Ok (record { rows = rows.0; cols = cols.0 }, cols.1)) >>= shaped)
  outer (Ok rows) y = inner rows.0 (y rows)
  outer (Err f) y = refl

  by_shape : behind_text len d rest ≡ (shape_at len rest >>= shaped)
  by_shape = outer (side len rest) (λ rows. side len rows.1)

  pub no_shape : (f : ContainerFault) → Fails (shape_at len rest) f → TellsContained (behind_text len d rest) (Err f)
  no_shape f h = stops (behind_text len d rest) (shape_at len rest) shaped f by_shape h

  pub with_shape : (s : Shape) (behind : List ℕ) (result : Result Held ContainerFault) → shape_at len rest ≡ Ok (s, behind) → TellsContained (buffers_in len d s behind) result
      → TellsContained (behind_text len d rest) result
  with_shape s behind result h t = subst (λ p. TellsContained p result) (sym (goes (behind_text len d rest) (shape_at len rest) shaped (s, behind) by_shape h)) t

-- ---- the whole

module _ (bytes : List ℕ) where
  abbrev len : ℕ
  len = length bytes

  abbrev pub behind_rows : Declared → ℕ × List ℕ → Result Contained ContainerFault
  behind_rows d rows = side len rows.1 >>= λ cols. buffers_in len d (record { rows = rows.0; cols = cols.0 }) cols.1

  abbrev pub when_accepted : Declared → List ℕ → Result Contained ContainerFault
  when_accepted d rest = side len rest >>= behind_rows d

  abbrev pub when_declared : Declared × List ℕ → Result Contained ContainerFault
  when_declared d = accepted (first_refusal (declaration_of d.0)) >>= λ _. behind_text len d.0 d.1

  abbrev pub behind_version : List ℕ → Result Contained ContainerFault
  behind_version rest = declaration len rest >>= when_declared

  abbrev pub behind_magic : List ℕ → Result Contained ContainerFault
  behind_magic body = version len body >>= behind_version

  abbrev all : Result Contained ContainerFault
  all = contained_in bytes

  start : all ≡ (with_magic bytes >>= behind_magic)
  start = refl

  pub no_magic : (f : ContainerFault) → Fails (with_magic bytes) f → TellsContained all (Err f)
  no_magic f h = stops all (with_magic bytes) behind_magic f start h

  module _ (body : List ℕ) (h1 : with_magic bytes ≡ Ok body) where
    to_version : all ≡ behind_magic body
    to_version = goes all (with_magic bytes) behind_magic body start h1

    pub no_version : (f : ContainerFault) → Fails (version len body) f → TellsContained all (Err f)
    no_version f h = stops all (version len body) behind_version f to_version h

    module _ (rest : List ℕ) (h2 : version len body ≡ Ok rest) where
      to_text : all ≡ behind_version rest
      to_text = goes all (version len body) behind_version rest to_version h2

      pub no_text : (f : ContainerFault) → Fails (declaration len rest) f → TellsContained all (Err f)
      no_text f h = stops all (declaration len rest) when_declared f to_text h

      module _ (d : Declared) (sides : List ℕ) (h3 : declaration len rest ≡ Ok (d, sides)) where
        to_judge : all ≡ when_declared (d, sides)
        to_judge = goes all (declaration len rest) when_declared (d, sides) to_text h3

        pub refused : (f : ContainerFault) → Fails (accepted (first_refusal (declaration_of d))) f → TellsContained all (Err f)
        refused f h = stops all (accepted (first_refusal (declaration_of d))) (λ _. behind_text len d sides) f to_judge h

        module _ (h4 : accepted (first_refusal (declaration_of d)) ≡ Ok tt) where
          to_shape : all ≡ behind_text len d sides
          to_shape = goes all (accepted (first_refusal (declaration_of d))) (λ _. behind_text len d sides) tt to_judge h4

          pub to_buffers : (g : Declared) (result : Result Held ContainerFault) → g ≡ d → TellsContained (behind_text len g sides) result → TellsContained all result
          to_buffers g result same t = subst (λ p. TellsContained p result) (ap (λ h. behind_text len h sides) same ∙ sym to_shape) t
