use Rattle.std.proofs.Common.{◌≡◌, ◌+◌, ◌-◌, ℕ, List, ◌++◌, take, drop, replicate, w64, ap, ◌∙◌, arith}
use Rattle.std.specs.Int.{from_le_bytes, cast_signed}
use Rattle.std.proofs.lemmas.Int.{to_z-of_z}
use Rattle.std.proofs.lemmas.List.{drop-replicate}
use Rattle.us_raw.specs.Layout.{cell}
use Rattle.us_raw.proofs.cells.Cells.read.Goals as goal

pub returns : goal.returns
unfolding cell
returns g c =
    let W = g.row.W in let from = c.args.at in let bytes = c.args.bytes.now in
    let parts : c.copy_from_slice.new.self ++ drop W (replicate 8 0) ≡ take W (drop from bytes) ++ replicate (8 - W) 0 =
    ap (λ (l : List ℕ). l ++ drop W (replicate 8 0)) (c.copy_from_slice.ensures.after ∙ ap (λ (k : ℕ). take k (drop from bytes)) {x = from + W - from} {y = W} (omega arith))
    ∙ ap (λ (l : List ℕ). take W (drop from bytes) ++ l) (drop-replicate W 8 0) in
    to_z-of_z w64 _ (record { sfits = c.from_le_bytes.type_inv }) ∙ c.from_le_bytes.ensures ∙ ap (λ (l : List ℕ). cast_signed w64 (from_le_bytes w64 l)) parts
