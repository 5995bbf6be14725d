-- The first entry of a name.
use Rattle.std.proofs.Common.{◌≡◌, ℕ, true, false, cond, List, ◌∷◌, Some, sym, ap, ◌∙◌}
use Rattle.std.proofs.lemmas.Bool.{false_from_ne_true, false≢true}
use Rattle.std.proofs.lemmas.Map.Text.{is_eq-slice_cmp}
use Rattle.std.specs.Ordering.{nat_cmp}
use Rattle.std.specs.Str.{bytes_eq}
use Rattle.std.specs.Cmp.Lexicographic.{slice_cmp, bytes_decides}
use Rattle.std.specs.FinMap.{find}

pub find_here : (name k v : List ℕ) (es : List (List ℕ × List ℕ)) → bytes_eq k name ≡ true → find (slice_cmp nat_cmp) name ((k, v) ∷ es) ≡ Some v
find_here name k v es h =
    let same : k ≡ name = (bytes_decides k name).0 h in
    ap (λ b. cond b (Some v) (find (slice_cmp nat_cmp) name es)) (is_eq-slice_cmp name k ∙ (bytes_decides name k).1 (sym same))

pub find_there : (name k v : List ℕ) (es : List (List ℕ × List ℕ)) → bytes_eq k name ≡ false → find (slice_cmp nat_cmp) name ((k, v) ∷ es) ≡ find (slice_cmp nat_cmp) name es
find_there name k v es h =
    ap (λ b. cond b (Some v) (find (slice_cmp nat_cmp) name es))
    (is_eq-slice_cmp name k ∙ false_from_ne_true (bytes_eq name k) (λ e. false≢true (sym h ∙ (bytes_decides k name).1 (sym ((bytes_decides name k).0 e)))))
