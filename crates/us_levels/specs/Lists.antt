-- Where lists of cells differ from lists of cells, and which lists of a part stand alone.
use Rattle.std.specs.Prelude.{ℕ, suc, ◌-◌, ◌^◌, min, ℤ, List, [], ◌∷◌, length, not, nat_eq, if◌then◌else◌, Option, None, Some}
use Rattle.std.specs.List.{filter}
use Rattle.std.specs.Ordering.{int_eq}
use Rattle.us_format.specs.Declaration.{Part}
use Rattle.us_format.specs.Lists.{then_do, or_else, when, first_from, nth, cell}
use Rattle.us_format.specs.Packs.{Piece, is_packed}
use Rattle.us_decl.specs.declared.column.Column as columns
use Rattle.us_judge.specs.Buffers.{is_own}
use Rattle.us_layout.specs.Arranging.{packs_cells}
use Rattle.us_levels.specs.declared.differing.Difference.{Difference}
use Rattle.us_levels.specs.declared.differing.Difference.TheVariants.{Cell, Long}

-- the first common cell at which two lists differ
abbrev pub first_unlike : List ℤ → List ℤ → Option ℕ
first_unlike ys xs = first_from (λ x. not (int_eq (cell xs x) (cell ys x))) 0 (min (length xs) (length ys))

-- of the buffer k, which has the cells xs and should have ys
abbrev pub list_difference : ℕ → List ℤ → List ℤ → Option Difference
list_difference k ys xs =
    or_else (then_do (first_unlike ys xs) (λ x. Some (Cell k x (cell xs x) (cell ys x)))) (when (not (nat_eq (length xs) (length ys))) (Long k (length xs) (min (length ys) (2 ^ 64 - 1))))

-- of the first buffer that is not as it should be, the lists being those of the buffers from k on
abbrev pub lists_difference : ℕ → List (List ℤ) → List (List ℤ) → Option Difference
lists_difference k [] bufs = None
lists_difference k (y ∷ ys) bufs = or_else (list_difference k y (nth bufs k)) (lists_difference (suc k) ys bufs)

-- the lists of those pieces that no pack has
abbrev pub own_lists : Part → List Piece → List (List ℤ) → List (List ℤ)
own_lists p [] lists = []
own_lists p (x ∷ xs) [] = []
own_lists p (x ∷ xs) (c ∷ cs) = if is_packed p x then own_lists p xs cs else c ∷ own_lists p xs cs

-- how many of some pieces no pack has
abbrev pub own_count : Part → List Piece → ℕ
own_count p xs = length (filter (is_own p) xs)

-- of the buffers from k on from the lists of those pieces that no pack has
abbrev pub own_difference : ℕ → Part → List Piece → List (List ℤ) → List (List ℤ) → Option Difference
own_difference k p xs lists bufs = lists_difference k (own_lists p xs lists) bufs

-- of the buffers from k on from packs of the program
abbrev pub packs_difference : ℕ → List Piece → List (List ℤ) → List (List columns.Column) → List (List ℤ) → Option Difference
packs_difference k xs lists packs bufs = lists_difference k (packs_cells xs lists packs) bufs
