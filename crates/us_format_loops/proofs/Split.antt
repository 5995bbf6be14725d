-- Full and compressed levels stand before the last node level, slot levels behind it.
use Rattle.std.specs.Prelude.{slice_get}
use Rattle.std.proofs.Common.{Some, ◌≤◌, ◌≡◌, ℕ, zero, suc, ◌+◌, ◌<◌, List, [], ◌∷◌, length, take, drop, Bool, true, false, cond, not, ◌&&◌, ◌||◌, sym, refl, subst, arith, ap, ◌∙◌}
use Rattle.std.proofs.lemmas.Bool.{and_from, and_parts, false≢true}
use Rattle.us_expr.specs.Tree.{Tree}
use Rattle.us_format.specs.Declaration.{Part}
use Rattle.us_format.specs.Kinds.{Level, is_loose, before_loose, tells, kind, levels_from}
use Rattle.us_format.specs.Lists.{among}
use Rattle.us_format.specs.Matrix.{Shape}
use Rattle.us_format.specs.declared.Kind.TheVariants.{Compressed, Full, Listed, Slot}
use Rattle.us_format_loops.specs.Nodes.{is_slot, has_nodes, is_group, is_tight, are_slots, are_groups, node_levels}
use Rattle.us_format_loops.specs.Laws.{StaysLoose, LevelsSplit}

pub no-nodes : (ls : List Level) → are_slots ls ≡ true → node_levels ls ≡ 0
no-nodes [] h = refl
no-nodes (l ∷ ls) h = rw h refl

pub slots-dropped : (k : ℕ) (ls : List Level) → are_slots ls ≡ true → are_slots (drop k ls) ≡ true
slots-dropped zero ls h = h
slots-dropped (suc k) [] h = refl
slots-dropped (suc k) (l ∷ ls) h = slots-dropped k ls (and_parts (is_slot l.kind) (are_slots ls) h).1

pub slots-behind : (ls : List Level) (k : ℕ) → node_levels ls ≤ k → are_slots (drop k ls) ≡ true
slots-behind [] zero h = refl
slots-behind [] (suc k) h = refl
slots-behind (l ∷ ls) k h = go k (are_slots (l ∷ ls)) refl h (slots-behind ls)
  where
    go : (k : ℕ) (b : Bool) → are_slots (l ∷ ls) ≡ b → cond b 0 (suc (node_levels ls)) ≤ k → ((j : ℕ) → node_levels ls ≤ j → are_slots (drop j ls) ≡ true) → are_slots (drop k (l ∷ ls)) ≡ true
    go k true e b ih = slots-dropped k (l ∷ ls) e
    go zero false e b ih = absurd (omega (arith, b))
    go (suc k) false e b ih = ih k (omega (arith, b))

-- the last level that isn't a slot level
abbrev pub IsLastNode : List Level → Level → Type 0
IsLastNode ls l = (is_slot l.kind ≡ false) × (is_tight ls ≡ has_nodes l.kind)

pub last-node : (ls : List Level) (k : ℕ) (l : Level) → node_levels ls ≡ suc k → slice_get ls k ≡ Some l → IsLastNode ls l
last-node [] k l n at = absurd (cc)
last-node (a ∷ ls) k l n at = go k (are_slots (a ∷ ls)) refl n at (last-node ls)
  where
    Rest : Type 0
    Rest = (j : ℕ) (l : Level) → node_levels ls ≡ suc j → slice_get ls j ≡ Some l → IsLastNode ls l

    behind : (c : Bool) → are_slots ls ≡ c → (is_tight ls ≡ has_nodes l.kind) → c ≡ false → is_tight (a ∷ ls) ≡ has_nodes l.kind
    behind true e h f = absurd (false≢true (sym f))
    behind false e h f = rw e h

    first : (c : Bool) → are_slots ls ≡ c → (is_slot a.kind && c) ≡ false → node_levels ls ≡ 0 → a ≡ l → IsLastNode (a ∷ ls) l
    first true e b z q = (ap (λ (y : Level). is_slot y.kind) (sym q) ∙ alone (is_slot a.kind) b, rw e (ap (λ (y : Level). has_nodes y.kind) q))
      where
        alone : (c : Bool) → (c && true) ≡ false → c ≡ false
        alone true h = h
        alone false h = h
    first false e b z q = absurd (false≢true (sym e ∙ slots-behind ls 0 (omega (arith, z))))

    go : (k : ℕ) (b : Bool) → are_slots (a ∷ ls) ≡ b → cond b 0 (suc (node_levels ls)) ≡ suc k → slice_get (a ∷ ls) k ≡ Some l → Rest → IsLastNode (a ∷ ls) l
    go k true e b at ih = absurd (omega (arith, b))
    go zero false e b at ih = first (are_slots ls) refl e (omega (arith, b)) (cc)
    go (suc k) false e b at ih =
        let r = ih k l (omega (arith, b)) at in
        (r.0, behind (are_slots ls) refl r.1 (open-end (are_slots ls) refl))
      where
        open-end : (c : Bool) → are_slots ls ≡ c → are_slots ls ≡ false
        open-end true q = absurd (omega (arith, b, no-nodes ls q))
        open-end false q = q

-- a loose level behind a loose level is a slot level; a level that isn't loose is full or compressed
pub loose-slot : (t g b : Bool) → (t && not g) ≡ true → is_slot (cond t (cond g Compressed (cond (true || b) Slot Listed)) Full) ≡ true
loose-slot true true b h = absurd (false≢true h)
loose-slot true false b h = refl
loose-slot false g b h = absurd (false≢true h)

pub fixed-group : (t g b : Bool) → (t && not g) ≡ false → is_group (cond t (cond g Compressed (cond b Slot Listed)) Full) ≡ true
fixed-group true true b h = refl
fixed-group true false b h = absurd (false≢true (sym h))
fixed-group false g b h = refl

module _ (s : Shape) (extents : List ℕ) (p : Part) (stays : StaysLoose p) where
  pub loose-rest : (k : ℕ) (es : List Tree) → suc k + length es ≡ length p.levels → is_loose p k ≡ true → are_slots (levels_from s extents p (suc k) es) ≡ true
  loose-rest k [] n h = refl
  loose-rest k (e ∷ es) n h =
      let next : is_loose p (suc k) ≡ true = stays k (omega (arith, n)) h in
      and_from _ _ (here next) (loose-rest (suc k) es (omega (arith, n)) next)
    where
      here : is_loose p (suc k) ≡ true → is_slot (kind p (suc k)) ≡ true
      here next =
          subst (λ (b : Bool). is_slot (cond (among (suc k) p.trim) (cond (among (suc k) p.merge) Compressed (cond (b || tells p (suc k)) Slot Listed)) Full) ≡ true) (sym h)
          (loose-slot (among (suc k) p.trim) (among (suc k) p.merge) (tells p (suc k)) next)

  pub groups-before : (k : ℕ) (es : List Tree) (j : ℕ) → k + length es ≡ length p.levels → j < node_levels (levels_from s extents p k es) → are_groups (take j (levels_from s extents p k es)) ≡ true
  groups-before k es zero n h = refl
  groups-before k [] (suc j) n h = absurd (omega (arith, h))
  groups-before k (e ∷ es) (suc j) n h =
      go (are_slots (levels_from s extents p k (e ∷ es))) h (groups-before (suc k) es j (omega (arith, n)))
    where
      here : j < node_levels (levels_from s extents p (suc k) es) → is_group (kind p k) ≡ true
      here b = two (is_loose p k) refl
        where
          two : (c : Bool) → is_loose p k ≡ c → is_group (kind p k) ≡ true
          two true q = absurd (omega (arith, b, no-nodes (levels_from s extents p (suc k) es) (loose-rest k es (omega (arith, n)) q)))
          two false q = fixed-group (among k p.trim) (among k p.merge) (before_loose p k || tells p k) q

      go : (c : Bool) → suc j < cond c 0 (suc (node_levels (levels_from s extents p (suc k) es))) → (j < node_levels (levels_from s extents p (suc k) es) → are_groups (take j (levels_from s extents p (suc k) es)) ≡ true)
          → are_groups (take (suc j) (levels_from s extents p k (e ∷ es))) ≡ true
      go true b ih = absurd (omega (arith, b))
      go false b ih = let c : j < node_levels (levels_from s extents p (suc k) es) = omega (arith, b) in and_from _ _ (here c) (ih c)

pub levels-split : LevelsSplit
levels-split = record {
  behind = slots-behind;
  last = last-node;
  before = λ s extents p stays k h. groups-before s extents p stays 0 p.levels k (omega arith) h;
}
