-- Buffers counted along the levels.
use Rattle.std.proofs.Common.{◌≡◌, ℕ, suc, ◌+◌, ◌<◌, ◌≤◌, [], ◌∷◌, length, drop, sym, ap, ◌∙◌, add-one}
use Rattle.std.specs.Prelude.{filter}
use Rattle.std.proofs.Math.Seq.{drop-cons}
use Rattle.std.proofs.Math.ListN.{drop_of_length-le}
use Rattle.std.proofs.lemmas.List.{length-append}
use Rattle.std.proofs.lemmas.List.Elements.{filter-append}
use Rattle.us_expr.specs.Tree.{RowIndex}
use Rattle.us_format.specs.Declaration.{Part, ValueColumn}
use Rattle.us_format.specs.Kinds.{kind}
use Rattle.us_format.specs.Packs.{CellsOf, level_pieces, pieces_from}
use Rattle.us_judge.specs.Buffers.{is_own}

-- the pieces of the levels from k on that keep a buffer of their own
abbrev pub rest : Part → ℕ → ℕ
rest p k = length (filter (is_own p) (pieces_from p k (drop k p.levels)))

pub rest-next : (p : Part) (k : ℕ) → k < length p.levels → rest p k ≡ length (filter (is_own p) (level_pieces k (kind p k))) + rest p (k + 1)
rest-next p k h =
    ap (λ es. length (filter (is_own p) (pieces_from p k es))) (drop-cons p.levels k RowIndex h)
    ∙ ap length (filter-append (is_own p) (level_pieces k (kind p k)) (pieces_from p (suc k) (drop (suc k) p.levels)))
    ∙ length-append (filter (is_own p) (level_pieces k (kind p k))) (filter (is_own p) (pieces_from p (suc k) (drop (suc k) p.levels)))
    ∙ ap (λ n. length (filter (is_own p) (level_pieces k (kind p k))) + rest p n) (sym (add-one k))

-- behind the last level only the values are left
pub rest-end : (p : Part) (k : ℕ) → length p.levels ≤ k → rest p k ≡ length (filter (is_own p) (CellsOf ValueColumn ∷ []))
rest-end p k h = ap (λ es. length (filter (is_own p) (pieces_from p k es))) (drop_of_length-le p.levels h)
