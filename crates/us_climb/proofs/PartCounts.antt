-- The numbers of positions of all parts.
use Rattle.std.proofs.Common.{◌≡◌, ℕ, suc, ◌+◌, ◌<◌, List, drop, length, Bool, true, false, leb, ℤ, refl, sym, ap, ◌∙◌, arith}
use Rattle.std.specs.List.{sum}
use Rattle.std.proofs.Math.Seq.{drop-cons}
use Rattle.std.proofs.lemmas.Bool.Decides.{nat_tests}
use Rattle.std.proofs.lemmas.List.{drop-drop}
use Rattle.us_format.specs.Matrix.{Shape}
use Rattle.us_format.specs.Declaration.{Part, Declaration}
use Rattle.us_format.specs.Kinds.{levels_of}
use Rattle.us_format.specs.Reading.{buffer_count, extents_in, counts_in, part_counts_in, all_counts_in}
use Rattle.us_judge.specs.Format.{part_at}
use Rattle.us_climb.specs.declared.layout.LevelLayout.{LevelLayout}
use Rattle.us_climb.specs.declared.layout.Layout.{Layout}
use Rattle.us_climb.specs.Layout.{IsLayout, counts_by}
use Rattle.us_climb.proofs.PartTests.{extents-first}
use Rattle.us_climb.proofs.Walks.{counts-there}

-- what is left of a limit
pub left-over : (a b left most : ℕ) → left + a ≡ most → leb b left ≡ leb (a + b) most
left-over a b left most e = go (leb b left) refl (leb (a + b) most) refl
  where
    go : (x : Bool) → leb b left ≡ x → (y : Bool) → leb (a + b) most ≡ y → x ≡ y
    go true p true q = refl
    go false p false q = refl
    go true p false q = absurd (grind (arith, nat_tests))
    go false p true q = absurd (grind (arith, nat_tests))

pub too-many : (a b most : ℕ) → most < a → false ≡ leb (a + b) most
too-many a b most h = go (leb (a + b) most) refl
  where
    go : (y : Bool) → leb (a + b) most ≡ y → false ≡ y
    go false q = refl
    go true q = absurd (grind (arith, nat_tests))

-- a part by its layout
pub part-counted : (f : ℕ) (s : Shape) (p : Part) (bufs : List (List ℤ)) (l : Layout) → IsLayout f s (extents_in f bufs p.queries) p l → part_counts_in s p (drop f bufs) ≡ counts_by l.levels.items bufs 1
part-counted f s p bufs l layout =
    ap (λ (ns : List ℕ). counts_in p (drop f bufs) 0 (levels_of s ns p) 1) (sym (extents-first f bufs p.queries))
    ∙ counts-there f s (extents_in f bufs p.queries) p bufs 0 p.levels 1
    ∙ ap (λ (ls : List LevelLayout). counts_by ls bufs 1) (sym layout.levels)

-- the part k and those behind it
pub counts-next : (s : Shape) (d : Declaration) (k f : ℕ) (bufs : List (List ℤ)) → k < length d.parts
    → all_counts_in s (drop k d.parts) (drop f bufs) ≡ sum (part_counts_in s (part_at d k) (drop f bufs)) + all_counts_in s (drop (suc k) d.parts) (drop (f + buffer_count (part_at d k)) bufs)
counts-next s d k f bufs h =
    ap (λ (ps : List Part). all_counts_in s ps (drop f bufs)) (drop-cons d.parts k _ h)
    ∙ ap (λ (xs : List (List ℤ)). sum (part_counts_in s (part_at d k) (drop f bufs)) + all_counts_in s (drop (suc k) d.parts) xs) (drop-drop (buffer_count (part_at d k)) f bufs)
