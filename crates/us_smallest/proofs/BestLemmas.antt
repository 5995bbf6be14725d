-- The smallest blocks of a matrix.
use Rattle.std.proofs.Common.{◌≡◌, ℕ, ◌<◌, List, ◌++◌, map, sym, ap, ◌∙◌, arith}
use Rattle.std.specs.Prelude.{MatchOption, Option, Some, None, Err, codes}
use Rattle.std.proofs.lemmas.List.{length-map}
use Rattle.std.proofs.lemmas.Option.{MatchOption-at_some}
use Rattle.std.specs.List.{flat_map, slice_get}
use Rattle.us_matrix.specs.Map.{Map}
use Rattle.us_decl.specs.Declares.{IsValid}
use Rattle.us_print.specs.Canon.{decl_text}
use Rattle.us_status.specs.declared.status.Status.TheVariants.{TooLarge}
use Rattle.us_advise.specs.Blocks.{all_blocks, block}
use Rattle.us_advise.specs.Least.{AreAbove, IsLeastAt, least, size_in}
use Rattle.us_smallest.specs.declared.sides.Sides.{Sides}
use Rattle.us_smallest.specs.Blocking.{all_sides, best_sides, block_size, blocked, blocks_text, sides_text}
use Rattle.us_smallest.specs.Tables.{best_line, line}
use Rattle.us_smallest.specs.Views.{IsBest}
use Rattle.us_smallest.proofs.SideLemmas.{count_blocks, count_sides, sides_read, sizes_of_blocks}
use Rattle.us_smallest.proofs.TableLemmas.{none_smallest, smallest_at}

best_there : (m : Map) (k : ℕ) (s : Sides) → least (map (size_in m) all_blocks) ≡ Some k → k < 64 → slice_get all_sides k ≡ Some s → best_sides m ≡ Some s
unfolding best_sides
best_there m k s best below there =
    smallest_at (block_size m) all_sides k s (sym (ap least (sizes_of_blocks m)) ∙ best) (omega (arith, below, count_sides)) (sides_read k s there)

lines_there : (m : Map) (s : Sides) (lines : List ℕ) → best_sides m ≡ Some s → lines ≡ flat_map (line sides_text (block_size m)) all_sides ++ (codes "best " ++ line sides_text (block_size m) s)
    → lines ≡ blocks_text m
unfolding best_sides blocks_text
lines_there m s lines best e = e ∙ ap (λ (b : Option Sides). flat_map (line sides_text (block_size m)) all_sides ++ best_line sides_text (block_size m) b) (sym best)

pub best_is : (m : Map) (k : ℕ) (s : Sides) (text lines : List ℕ) → least (map (size_in m) all_blocks) ≡ Some k → k < 64 → slice_get all_sides k ≡ Some s → IsValid (block s.rows s.cols)
    → text ≡ decl_text (block s.rows s.cols) → lines ≡ flat_map (line sides_text (block_size m)) all_sides ++ (codes "best " ++ line sides_text (block_size m) s) → IsBest m text lines
best_is m k s text lines best below there valid text_is lines_are =
    let small : best_sides m ≡ Some s = best_there m k s best below there in
    record { sides = s; smallest = small; valid = valid; text_is = text_is; lines_are = lines_there m s lines small lines_are }

pub all_above : (m : Map) → least (map (size_in m) all_blocks) ≡ None → blocked m (best_sides m) ≡ Err (TooLarge 1)
unfolding best_sides
all_above m none = ap (blocked m) (none_smallest (block_size m) all_sides (sym (ap least (sizes_of_blocks m)) ∙ none))

-- the place of the smallest is one of 64
pub place_below : (m : Map) (best : Option ℕ) (k : ℕ) → best ≡ Some k → MatchOption best (AreAbove (map (size_in m) all_blocks)) (IsLeastAt (map (size_in m) all_blocks)) → k < 64
place_below m best k e h =
    let at : IsLeastAt (map (size_in m) all_blocks) k = MatchOption-at_some (AreAbove (map (size_in m) all_blocks)) (IsLeastAt (map (size_in m) all_blocks)) k e h in
    omega (arith, at.place, length-map all_blocks (size_in m), count_blocks)
