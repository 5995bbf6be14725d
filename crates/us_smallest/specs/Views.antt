-- The smallest blocks of a matrix, as they are stored and printed.
use Rattle.std.specs.Prelude.{◌≡◌, ℕ, List, Some}
use Rattle.us_matrix.specs.Map.{Map}
use Rattle.us_decl.specs.Declares.{IsValid}
use Rattle.us_advise.specs.Blocks.{block}
use Rattle.us_print.specs.Canon.{decl_text}
use Rattle.us_smallest.specs.declared.sides.Sides.{Sides}
use Rattle.us_smallest.specs.Blocking.{best_sides, blocks_text}

-- these are the text of the smallest blocks, and the lines of all
pub record IsBest (m : Map) (text lines : List ℕ) : Type 0 where
  pub sides : Sides
  pub smallest : best_sides m ≡ Some sides
  pub valid : IsValid (block sides.rows sides.cols)
  pub text_is : text ≡ decl_text (block sides.rows sides.cols)
  pub lines_are : lines ≡ blocks_text m
