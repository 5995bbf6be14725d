-- The kept kinds of a part, by its number.
use Rattle.std.proofs.Common.{◌≡◌, ℕ, ◌<◌, List, length, map, get_or, ap, ◌∙◌, zero-add}
use Rattle.std.proofs.lemmas.List.{get_or-map}
use Rattle.std.proofs.lemmas.List.FromFn.{get_or-map-range_with_len, length-map-range_with_len}
use Rattle.us_format.specs.declared.Kind.{Kind}
use Rattle.us_format.specs.declared.Kind.TheVariants.{Full}
use Rattle.us_format.specs.Declaration.{Part, Declaration}
use Rattle.us_format.specs.Kinds.{kind}
use Rattle.us_judge.specs.Format.{part_at}
use Rattle.us_judge.specs.Kinds.{kinds_of}

-- the kinds of the part k
pub kept_kinds : (d : Declaration) (kept : List (List Kind)) (k : ℕ) (ks : List Kind) → kept ≡ map kinds_of d.parts → k < length d.parts → ks ≡ get_or kept k ks → ks ≡ kinds_of (part_at d k)
kept_kinds d kept k ks is below at = at ∙ ap (λ x. get_or x k ks) is ∙ get_or-map kinds_of d.parts k _ ks below

pub length-kinds : (p : Part) (ks : List Kind) → ks ≡ kinds_of p → length ks ≡ length p.levels
length-kinds p ks is = ap length is ∙ length-map-range_with_len (kind p) 0 (length p.levels)

pub kind_there : (p : Part) (ks : List Kind) (l : ℕ) → ks ≡ kinds_of p → l < length p.levels → get_or ks l Full ≡ kind p l
kind_there p ks l is below = ap (λ x. get_or x l Full) is ∙ get_or-map-range_with_len (kind p) 0 (length p.levels) l l Full below (zero-add l)
