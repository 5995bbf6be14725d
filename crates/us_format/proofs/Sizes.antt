-- A buffer that is written out is as long as it says.
use Rattle.std.proofs.Common.{◌≡◌, ℕ, ◌+◌, List, [], ◌∷◌, map, length, sym, refl, ap, ap₂, ◌∙◌, sum_by}
use Rattle.std.specs.List.{sum}
use Rattle.std.proofs.lemmas.List.Sums.{sum_by-cons}
use Rattle.us_format.specs.Packs.{Buffer, written}
use Rattle.us_format.specs.Buffers.{all_buffers, parts_of, part_counts}
use Rattle.us_format.specs.Laws.{SizeAddsLengths}
use Rattle.us_format.proofs.Climb.{length-written}

pub lengths-written : (bs : List Buffer) → sum_by (λ b. b.len) bs ≡ sum_by length (map written bs)
lengths-written [] = refl
lengths-written (b ∷ bs) =
    sum_by-cons (λ (b : Buffer). b.len) b bs ∙ ap₂ (λ (x y : ℕ). x + y) (sym (length-written b)) (lengths-written bs) ∙ sym (sum_by-cons length (written b) (map written bs))

pub size-adds-lengths : SizeAddsLengths
size-adds-lengths s d m = ap (λ n. n + sum_by (λ x. sum (part_counts s x.0 x.1)) (parts_of s d m)) (lengths-written (all_buffers s (parts_of s d m)))
