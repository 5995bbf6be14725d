-- The tables of the first levels.
use Rattle.std.proofs.Common.{◌≡◌, ℕ, zero, suc, ◌+◌, ◌<◌, List, [], ◌∷◌, ◌++◌, length, get_or, ℤ, sym, ap, subst, ◌∙◌, arith, Vec, Global}
use Rattle.std.proofs.lemmas.List.{length-append, map-append}
use Rattle.us_format.specs.Lists.{nth}
use Rattle.us_climb.specs.declared.layout.LevelLayout.{LevelLayout}
use Rattle.us_climb.specs.Layout.{AreSound, IsInside}
use Rattle.us_climb.specs.Parents.{AreParents, IsTable, tables_in}

-- as many tables as levels
pub record AreTablesOf (ls : List LevelLayout) (n : ℕ) (bufs : List (List ℤ)) (ts : List (List ℕ)) : Type 0 where
  pub levels : length ls ≡ n
  pub tables : length ts ≡ n
  pub parents : AreParents ls ts bufs

pub parents-more : (ls : List LevelLayout) (ts : List (List ℕ)) (bufs : List (List ℤ)) (l : LevelLayout) (t : List ℕ) → length ts ≡ length ls → AreParents ls ts bufs → IsTable (nth bufs l.starts) t
    → AreParents (ls ++ l ∷ []) (ts ++ t ∷ []) bufs
parents-more [] [] bufs l t e h more = (more, tt)
parents-more [] (u ∷ us) bufs l t e h more = absurd (omega (arith, e))
parents-more (k ∷ ks) [] bufs l t e h more = absurd (omega (arith, e))
parents-more (k ∷ ks) (u ∷ us) bufs l t e h more = (h.0, parents-more ks us bufs l t (omega (arith, e)) h.1 more)

pub tables-more : (ls more : List LevelLayout) (n : ℕ) (bufs : List (List ℤ)) (ts : List (Vec ℕ Global)) (l : LevelLayout) (t : Vec ℕ Global) → AreTablesOf ls n bufs (tables_in ts) → IsTable (nth bufs l.starts) t.items → more ≡ ls ++ l ∷ []
    → AreTablesOf more (n + 1) bufs (tables_in (ts ++ t ∷ []))
tables-more ls more n bufs ts l t h is e = record {
  levels = ap length e ∙ length-append ls (l ∷ []) ∙ omega (arith, h.levels);
  tables = ap length (map-append (λ (v : Vec ℕ Global). v.items) ts (t ∷ [])) ∙ length-append (tables_in ts) (t.items ∷ []) ∙ omega (arith, h.tables);
  parents =
      subst (λ (xs : List LevelLayout). AreParents xs (tables_in (ts ++ t ∷ [])) bufs) (sym e)
      (subst (λ (us : List (List ℕ)). AreParents (ls ++ l ∷ []) us bufs) (sym (map-append (λ (v : Vec ℕ Global). v.items) ts (t ∷ [])))
      (parents-more ls (tables_in ts) bufs l t.items (omega (arith, h.levels, h.tables)) h.parents is));
}

-- each column is one of its buffer
pub inside-at : (ls : List LevelLayout) (i : ℕ) (d : LevelLayout) → AreSound ls → i < length ls → IsInside (get_or ls i d).cells
inside-at [] i d s l = absurd (omega arith)
inside-at (x ∷ xs) zero d s l = s.1
inside-at (x ∷ xs) (suc i) d s l = inside-at xs i d s.2 (omega arith)
