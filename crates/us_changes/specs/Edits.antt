-- What a script does to a matrix, and the script that takes it back.
use Rattle.std.specs.Prelude.{◌==◌, nat_lt, List, [], ◌∷◌, map, pos, if◌then◌else◌}
use Rattle.std.specs.Ordering.{int_eq}
use Rattle.us_matrix.specs.declared.matrix.Triple.{Triple}
use Rattle.us_matrix.specs.Map.{Map, place}
use Rattle.us_script.specs.declared.step.Step.{Step}
use Rattle.us_script.specs.declared.step.Step.TheVariants.{Set, Undo, Size}

-- entries with one more in front, unless its value is 0
abbrev pub in_front : Triple → List Triple → List Triple
in_front t es = if int_eq t.v (pos 0) then es else t ∷ es

-- the row-major entries where the value at a triple's coordinate is the triple's; 0 leaves no entry there
abbrev pub changed : Triple → List Triple → List Triple
changed t [] = in_front t []
changed t (e ∷ es) =
    if nat_lt (place t) (place e) then in_front t (e ∷ es)
    else (if place t == place e then in_front t es else e ∷ changed t es)

-- the entries, and those before each set that isn't undone, the latest first
pub record State : Type 0 where
  pub entries : List Triple
  pub earlier : List (List Triple)

-- the state in which nothing is changed
abbrev pub start : List Triple → State
start es = record { entries = es; earlier = [] }

-- the latest of the earlier entries, where there are any
abbrev pub undone : List Triple → List (List Triple) → State
undone es [] = start es
undone es (before ∷ earlier) = record { entries = before; earlier = earlier }

-- the state behind a step
abbrev pub after : State → Step → State
after s (Set i j v) = record { entries = changed (record { i = i; j = j; v = v }) s.entries; earlier = s.entries ∷ s.earlier }
after s Undo = undone s.entries s.earlier
after s (Size line) = s

-- the state behind some steps
abbrev pub after_all : State → List Step → State
after_all s [] = s
after_all s (step ∷ steps) = after_all (after s step) steps

-- the matrix behind the steps of a script
unfoldable pub edited : Map → List Step → Map
edited m steps = record { rows = m.rows; cols = m.cols; entries = (after_all (start m.entries) steps).entries }

-- the value 0 at an entry's coordinate
abbrev pub none_at : Triple → Triple
none_at t = record { i = t.i; j = t.j; v = pos 0 }

-- the old value, or 0, at each coordinate where the new entries differ from the old ones, in row-major order: from an old entry on, where `behind` has
-- those from the next one on
abbrev pub old_from : Triple → (List Triple → List Triple) → List Triple → List Triple
old_from o behind [] = o ∷ behind []
old_from o behind (n ∷ ns) =
    if nat_lt (place n) (place o) then none_at n ∷ old_from o behind ns
    else (if place n == place o then (if int_eq o.v n.v then behind ns else o ∷ behind ns) else o ∷ behind (n ∷ ns))

abbrev pub old_values : List Triple → List Triple → List Triple
old_values [] ns = map none_at ns
old_values (o ∷ os) ns = old_from o (old_values os) ns

abbrev pub as_step : Triple → Step
as_step t = Set t.i t.j t.v

-- the script that takes back what the steps of a script change: a set for each coordinate where the two matrices differ, in row-major order, with the
-- old value or 0
unfoldable pub inverse : Map → List Step → List Step
inverse m steps = map as_step (old_values m.entries (edited m steps).entries)
