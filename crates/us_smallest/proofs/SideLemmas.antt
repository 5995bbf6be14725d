-- The blocks of all sides.
use Rattle.std.proofs.Common.{◌≡◌, ℕ, ◌+◌, ◌/◌, ◌%◌, ◌<◌, List, [], ◌∷◌, length, map, get_or, refl, sym, ap, ◌∙◌, arith}
use Rattle.std.specs.Prelude.{Some}
use Rattle.std.specs.List.{range_with_len, slice_get}
use Rattle.std.proofs.lemmas.List.{length-map}
use Rattle.std.proofs.lemmas.List.FromFn.{get_or-map-range_with_len, length-map-range_with_len}
use Rattle.std.proofs.lemmas.Option.{get_or_from_slice_get, slice_get-get_or}
use Rattle.us_matrix.specs.Map.{Map}
use Rattle.us_decl.specs.Declares.{Declared}
use Rattle.us_advise.specs.Blocks.{all_blocks, block, row_of_blocks}
use Rattle.us_advise.specs.Least.{size_in, told}
use Rattle.us_smallest.specs.declared.sides.Sides.{Sides}
use Rattle.us_smallest.specs.Blocking.{all_sides, block_size}

abbrev side_at : ℕ → Sides
side_at k = record { rows = k / 8 + 1; cols = k % 8 + 1 }

sides_listed : all_sides ≡ map side_at (range_with_len 0 64)
unfolding all_sides
sides_listed = refl

pub count_sides : length all_sides ≡ 64
count_sides = ap length sides_listed ∙ length-map-range_with_len side_at 0 64

pub sides_there : (k : ℕ) → k < 64 → slice_get all_sides k ≡ Some (side_at k)
sides_there k below =
    slice_get-get_or all_sides k (side_at k) (omega (arith, below, count_sides))
    ∙ ap (λ (ss : List Sides). Some (get_or ss k (side_at k))) sides_listed ∙ ap Some (get_or-map-range_with_len side_at 0 64 k k (side_at k) below (omega arith))

pub sides_read : (k : ℕ) (s : Sides) → slice_get all_sides k ≡ Some s → s ≡ get_or all_sides k s
sides_read k s e = sym (get_or_from_slice_get all_sides k s s e)

abbrev block_of : Sides → Declared
block_of s = block s.rows s.cols

blocks_listed : all_blocks ≡ map block_of all_sides
unfolding all_blocks row_of_blocks all_sides
blocks_listed = refl

pub count_blocks : length all_blocks ≡ 64
count_blocks = ap length blocks_listed ∙ length-map all_sides block_of ∙ count_sides

mapped : {A B C : Type 0} (g : B → C) (f : A → B) (xs : List A) → map g (map f xs) ≡ map (λ x. g (f x)) xs
mapped g f [] = refl
mapped g f (x ∷ xs) = ap (λ (l : List _). g (f x) ∷ l) (mapped g f xs)

-- the sizes of all blocks are those of all sides
pub sizes_of_blocks : (m : Map) → map (size_in m) all_blocks ≡ map (block_size m) all_sides
unfolding block_size
sizes_of_blocks m = ap (map (size_in m)) blocks_listed ∙ mapped (size_in m) block_of all_sides

pub told_of_blocks : (m : Map) → map (λ d. told (size_in m d)) all_blocks ≡ map (λ s. told (block_size m s)) all_sides
unfolding block_size
told_of_blocks m = ap (map (λ (d : Declared). told (size_in m d))) blocks_listed ∙ mapped (λ (d : Declared). told (size_in m d)) block_of all_sides
