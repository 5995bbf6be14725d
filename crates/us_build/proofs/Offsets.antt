-- The steps of the loops over the expressions of the levels.
use Rattle.std.proofs.Common.{◌≡◌, ℕ, zero, suc, ◌+◌, ◌-◌, ◌<◌, ◌≤◌, ◌^◌, ◌⊎◌, List, [], ◌∷◌, ◌++◌, map, length, get_or, set, take, drop, replicate, ℤ, ◌-ℤ◌, sym, refl, ap, ap₂, ◌∙◌, subst, inl, inr, arith, All, append_assoc}
use Rattle.std.proofs.lemmas.List.{append-nil, drop_all, drop_more, get_or-append-add, get_or-replicate, get_or_append_left, get_or-set_other, get_or-set_same, length-append, length-map, map_more, length-replicate, length-set, ext_get_or}
use Rattle.std.proofs.lemmas.Bool.{cases_eq}
use Rattle.std.proofs.lemmas.List.Elements.{All-push, All-same}
use Rattle.us_expr.specs.declared.expression.Expr.{Expr}
use Rattle.us_expr.specs.declared.ranges.Range.{Range}
use Rattle.us_expr.specs.Tree.{Tree, tree}
use Rattle.us_expr.specs.Value.{value}
use Rattle.us_matrix.specs.declared.matrix.Triple.{Triple}
use Rattle.us_format.specs.declared.Kind.{Kind}
use Rattle.us_format.specs.Lists.{nat_of}
use Rattle.us_format.specs.Matrix.{Entry}
use Rattle.us_format.specs.Program.{plain_entry}
use Rattle.us_build.specs.declared.items.Item.{Item}
use Rattle.us_build.specs.declared.levels.Level.{Level}
use Rattle.us_build.specs.Levels.{LiesInLevel, LiesInLevels, item_over, items_over, level_over, levels_over, offsets, six}

-- ---- levels

-- the levels so far and those of the expressions that are left are the whole
pub record AreLevels (rows cols : ℕ) (rs : List Range) (es : List Expr) (ks : List Kind) (k : ℕ) (levels : List Level) : Type 0 where
  pub whole : levels ++ levels_over rows cols rs (map tree (drop k es)) (drop k ks) ≡ levels_over rows cols rs (map tree es) ks
  pub sizes : All (λ l. l.size < 2 ^ 38) levels

pub levels-next : (rows cols : ℕ) (rs : List Range) (es : List Expr) (ks : List Kind) (k : ℕ) (levels new : List Level) (d : Expr) (f : Kind) (l : Level) → k < length es → length ks ≡ length es → AreLevels rows cols rs es ks k levels
    → l ≡ level_over rows cols rs (tree (get_or es k d)) (get_or ks k f) → l.size < 2 ^ 38 → new ≡ levels ++ l ∷ [] → AreLevels rows cols rs es ks (k + 1) new
levels-next rows cols rs es ks k levels new d f l h n p e size q = record {
  whole =
      ap (λ (x : List Level). x ++ rest) (q ∙ ap (λ (x : Level). levels ++ x ∷ []) e)
      ∙ append_assoc levels (level_over rows cols rs (tree (get_or es k d)) (get_or ks k f) ∷ []) rest
      ∙ ap (λ (x : List Level). levels ++ x) (sym split)
      ∙ p.whole;
  sizes = All-same (λ l. l.size < 2 ^ 38) new (levels ++ l ∷ []) q (All-push (λ l. l.size < 2 ^ 38) levels l p.sizes size);
}
  where
    rest : List Level
    rest = levels_over rows cols rs (map tree (drop (k + 1) es)) (drop (k + 1) ks)

    split : levels_over rows cols rs (map tree (drop k es)) (drop k ks) ≡ level_over rows cols rs (tree (get_or es k d)) (get_or ks k f) ∷ rest
    split =
        ap (λ (x : List Expr). levels_over rows cols rs (map tree x) (drop k ks)) (drop_more es k d h)
        ∙ ap (λ (x : List Kind). levels_over rows cols rs (tree (get_or es k d) ∷ map tree (drop (k + 1) es)) x) (drop_more ks k f (omega (arith, n)))

pub levels-end : (rows cols : ℕ) (rs : List Range) (es : List Expr) (ks : List Kind) (k : ℕ) (levels : List Level) → length es ≤ k → AreLevels rows cols rs es ks k levels → levels ≡ levels_over rows cols rs (map tree es) ks
levels-end rows cols rs es ks k levels h p =
    sym (append-nil levels) ∙ ap (λ (x : List Expr). levels ++ levels_over rows cols rs (map tree x) (drop k ks)) (sym (drop_all k es h)) ∙ p.whole

pub length-levels : (rows cols : ℕ) (rs : List Range) (es : List Tree) (ks : List Kind) → length ks ≡ length es → length (levels_over rows cols rs es ks) ≡ length es
length-levels rows cols rs [] ks h = refl
length-levels rows cols rs (e ∷ es) [] h = absurd (omega (arith, h))
length-levels rows cols rs (e ∷ es) (k ∷ ks) h = ap suc (length-levels rows cols rs es ks (omega (arith, h)))

-- ---- coordinates

pub length-offsets : (i j : ℤ) (vs : List ℤ) (es : List Tree) (ls : List Level) → length ls ≡ length es → length (offsets i j vs es ls) ≡ length es
length-offsets i j vs [] ls h = refl
length-offsets i j vs (e ∷ es) [] h = absurd (omega (arith, h))
length-offsets i j vs (e ∷ es) (l ∷ ls) h = ap suc (length-offsets i j vs es ls (omega (arith, h)))

pub offset-at : (i j : ℤ) (vs : List ℤ) (es : List Expr) (ls : List Level) (k : ℕ) (d : Expr) (f : Level) → k < length es → length ls ≡ length es
    → get_or (offsets i j vs (map tree es) ls) k 0 ≡ nat_of (value i j vs (tree (get_or es k d)) -ℤ (get_or ls k f).low)
offset-at i j vs [] ls k d f h n = absurd (omega arith)
offset-at i j vs (e ∷ es) [] k d f h n = absurd (omega (arith, n))
offset-at i j vs (e ∷ es) (l ∷ ls) zero d f h n = refl
offset-at i j vs (e ∷ es) (l ∷ ls) (suc k) d f h n = offset-at i j vs es ls k d f (omega arith) (omega (arith, n))

pub lies-at : (i j : ℤ) (vs : List ℤ) (es : List Expr) (ls : List Level) (k : ℕ) (d : Expr) (f : Level) → k < length es → length ls ≡ length es → LiesInLevels i j vs (map tree es) ls
    → LiesInLevel (value i j vs (tree (get_or es k d))) (get_or ls k f)
lies-at i j vs [] ls k d f h n p = absurd (omega arith)
lies-at i j vs (e ∷ es) [] k d f h n p = absurd (omega (arith, n))
lies-at i j vs (e ∷ es) (l ∷ ls) zero d f h n p = p.0
lies-at i j vs (e ∷ es) (l ∷ ls) (suc k) d f h n p = lies-at i j vs es ls k d f (omega arith) (omega (arith, n)) p.1

-- what stands after k expressions
pub record AreOffsets (i j : ℤ) (vs : List ℤ) (es : List Expr) (ls : List Level) (k : ℕ) (coordinates : List ℕ) : Type 0 where
  pub long : length coordinates ≡ 6
  pub each : (x : ℕ) → x < (6 - length es) + k → get_or coordinates x 0 ≡ get_or (six i j vs (map tree es) ls) x 0

module _ (i j : ℤ) (vs : List ℤ) (es : List Expr) (ls : List Level) (few : length es ≤ 6) (n : length ls ≡ length es) where
  abbrev pub front : List ℕ
  front = replicate (6 - length (map tree es)) 0

  pub front-long : length front ≡ 6 - length es
  front-long = length-replicate (6 - length (map tree es)) 0 ∙ ap (λ (k : ℕ). 6 - k) (length-map es tree)

  pub six-long : length (six i j vs (map tree es) ls) ≡ 6
  six-long =
      length-append front (offsets i j vs (map tree es) ls)
      ∙ omega (arith, front-long, length-offsets i j vs (map tree es) ls (n ∙ sym (length-map es tree)), length-map es tree)

  pub offsets-none : (zeros : List ℕ) → length zeros ≡ 6 → ((x : ℕ) → x < 6 → get_or zeros x 0 ≡ 0) → AreOffsets i j vs es ls 0 zeros
  offsets-none zeros l z = record {
    long = l;
    each = λ x h.
        z x (omega arith)
        ∙ sym (get_or_append_left front (offsets i j vs (map tree es) ls) 0 x (omega (arith, front-long, h)) ∙ get_or-replicate (6 - length (map tree es)) x 0 0 (omega (arith, h, length-map es tree)));
  }

  pub offsets-next : (k : ℕ) (coordinates : List ℕ) (d : Expr) (f : Level) (c : ℕ) → k < length es → AreOffsets i j vs es ls k coordinates
      → c ≡ nat_of (value i j vs (tree (get_or es k d)) -ℤ (get_or ls k f).low) → AreOffsets i j vs es ls (k + 1) (set coordinates ((6 - length es) + k) c)
  offsets-next k coordinates d f c h p e = record {
    long = length-set coordinates ((6 - length es) + k) c ∙ p.long;
    each = λ x l. go x l (cases_eq x ((6 - length es) + k));
  }
    where
      there : get_or (six i j vs (map tree es) ls) ((6 - length es) + k) 0 ≡ c
      there =
          ap (λ (m : ℕ). get_or (six i j vs (map tree es) ls) (m + k) 0) (sym front-long) ∙ get_or-append-add front (offsets i j vs (map tree es) ls) k 0
          ∙ offset-at i j vs es ls k d f h n ∙ sym e

      go : (x : ℕ) → x < (6 - length es) + (k + 1) → (x ≡ (6 - length es) + k) ⊎ (x ≡ (6 - length es) + k → ⊥)
          → get_or (set coordinates ((6 - length es) + k) c) x 0 ≡ get_or (six i j vs (map tree es) ls) x 0
      go x l (inl q) =
          subst (λ (m : ℕ). get_or (set coordinates ((6 - length es) + k) c) m 0 ≡ get_or (six i j vs (map tree es) ls) m 0) (sym q)
          (get_or-set_same coordinates ((6 - length es) + k) c 0 (omega (arith, p.long)) ∙ sym there)
      go x l (inr q) = get_or-set_other coordinates ((6 - length es) + k) x c 0 q ∙ p.each x (omega (arith, l, q))

  pub offsets-end : (k : ℕ) (coordinates : List ℕ) → length es ≤ k → AreOffsets i j vs es ls k coordinates → coordinates ≡ six i j vs (map tree es) ls
  offsets-end k coordinates h p = ext_get_or 0 coordinates (six i j vs (map tree es) ls) (p.long ∙ sym six-long) (λ x l. p.each x (omega (arith, l, p.long, h)))

pub levels-none : (rows cols : ℕ) (rs : List Range) (es : List Expr) (ks : List Kind) → AreLevels rows cols rs es ks 0 []
levels-none rows cols rs es ks = record { whole = refl; sizes = λ k d l. absurd (omega (arith, l)) }

-- ---- items

pub items-next : (es : List Tree) (ls : List Level) (f : Entry → List ℤ) (ts : List Triple) (k : ℕ) (d : Triple) (x : Item) (vs : List ℤ) (items new : List Item) → k < length ts → items ≡ items_over es ls f (take k ts)
    → x ≡ item_over es ls vs (get_or ts k d) → vs ≡ f (plain_entry (get_or ts k d)) → new ≡ items ++ x ∷ [] → new ≡ items_over es ls f (take (k + 1) ts)
items-next es ls f ts k d x vs items new h p e v q =
    q ∙ ap₂ (λ (l : List Item) (y : Item). l ++ y ∷ []) p (e ∙ ap (λ (l : List ℤ). item_over es ls l (get_or ts k d)) v)
    ∙ sym (map_more (λ t. item_over es ls (f (plain_entry t)) t) ts k d h)
