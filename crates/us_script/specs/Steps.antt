-- The steps of a script, and what holds of each script that is read.
use Rattle.std.specs.Prelude.{◌≡◌, ℕ, ◌+◌, ◌-◌, ◌<◌, ◌≤◌, ◌==◌, Bool, true, false, List, [], ◌∷◌, length, count_by, All, FitsSigned}
use Rattle.std.specs.Int.{w64}
use Rattle.us_script.specs.declared.step.Step.{Step}
use Rattle.us_script.specs.declared.step.Step.TheVariants.{Set, Undo, Size}

abbrev pub is_size : Step → Bool
is_size (Set i j v) = false
is_size Undo = false
is_size (Size line) = true

-- how many sets aren't undone behind a step, where so many aren't before it
abbrev pub sets_after : ℕ → Step → ℕ
sets_after n (Set i j v) = n + 1
sets_after n Undo = n - 1
sets_after n (Size line) = n

-- the same behind some steps
abbrev pub sets_left : ℕ → List Step → ℕ
sets_left n [] = n
sets_left n (step ∷ steps) = sets_left (sets_after n step) steps

-- the step undoes a set where there is none
abbrev pub lacks_set : ℕ → Step → Bool
lacks_set n (Set i j v) = false
lacks_set n Undo = n == 0
lacks_set n (Size line) = false

-- how many steps `size` there are behind a step
abbrev pub sizes_after : ℕ → Step → ℕ
sizes_after n (Set i j v) = n
sizes_after n Undo = n
sizes_after n (Size line) = n + 1

-- a set lies in the shape
abbrev pub IsInside : ℕ → ℕ → Step → Type 0
IsInside rows cols (Set i j v) = (i < rows) × (j < cols)
IsInside rows cols Undo = Unit {0}
IsInside rows cols (Size line) = Unit {0}

-- the value of a set fits 64 bits
abbrev pub HasValue : Step → Type 0
HasValue (Set i j v) = FitsSigned w64 v
HasValue Undo = Unit {0}
HasValue (Size line) = Unit {0}

-- no step undoes a set where there is none
abbrev pub AreUndoable : ℕ → List Step → Type 0
AreUndoable n [] = Unit {0}
AreUndoable n (step ∷ steps) = (lacks_set n step ≡ false) × AreUndoable (sets_after n step) steps

-- what holds of each script that is read for a shape
pub record IsSound (rows cols : ℕ) (steps : List Step) : Type 0 where
  pub inside : All (IsInside rows cols) steps
  pub values : All HasValue steps
  pub undoable : AreUndoable 0 steps
  pub few : length steps ≤ 1048576
  pub few_sizes : count_by is_size steps ≤ 256

-- the steps are sets that lie in the shape
abbrev pub AreSets : ℕ → ℕ → List Step → Type 0
AreSets rows cols [] = Unit {0}
AreSets rows cols (Set i j v ∷ steps) = ((i < rows) × (j < cols) × FitsSigned w64 v) × AreSets rows cols steps
AreSets rows cols (Undo ∷ steps) = ⊥
AreSets rows cols (Size line ∷ steps) = ⊥

-- how many of the steps are `size`, and how many sets aren't undone
pub record IsCounted (steps : List Step) (sizes sets : ℕ) : Type 0 where
  pub sizes_are : sizes ≡ count_by is_size steps
  pub sets_are : sets ≡ sets_left 0 steps
