-- Which buffers the levels keep of their own are those of the part's pieces.
use Rattle.std.proofs.Common.{◌≡◌, ℕ, zero, suc, ◌+◌, ◌<◌, List, [], ◌∷◌, ◌++◌, map, length, drop, Bool, true, false, not, cond, inl, inr, ◌⊎◌, refl, sym, ap, ap₂, ◌∙◌, subst, arith, filter}
use Rattle.std.specs.Prelude.{IsTrue}
use Rattle.us_code.specs.Run.{Env}
use Rattle.us_expr.specs.Tree.{Tree}
use Rattle.us_format.specs.declared.Kind.{Kind}
use Rattle.us_format.specs.declared.Kind.TheVariants.{Full, Compressed, Listed, Slot}
use Rattle.us_format.specs.Matrix.{Shape}
use Rattle.us_format.specs.Declaration.{Column, LevelColumn, ValueColumn, Part}
use Rattle.us_format.specs.Kinds.{Level, levels_from}
use Rattle.us_format.specs.Kinds.{kind as kind_at}
use Rattle.us_format.specs.Packs.{Piece, PosOf, CellsOf, level_pieces, pieces_from, is_packed as is_in_pack}
use Rattle.us_format.proofs.Order.{Mem}
use Rattle.us_format.proofs.Members.{Mem-either}
use Rattle.us_format.proofs.Pieces.{one-same, rest-same}
use Rattle.us_format_loops.specs.Nodes.{are_slots}
use Rattle.us_gen_build.specs.Levels.{LevelTree}
use Rattle.us_gen_build.specs.Turns.{writes_crd}
use Rattle.us_pack_loops.specs.Names.{level_at, name_in}
use Rattle.us_gen_building.specs.declared.part.PartLevel.{PartLevel}
use Rattle.us_gen_building.specs.declared.part.Descent.{Descent}
use Rattle.us_gen_building.specs.Levels.{are_last, deeper, slot_role}
use Rattle.us_gen_building.specs.Phases.{level_buffers, all_buffers}
use Rattle.us_gen_building.specs.Runs.{level_of, levels_of}
use Rattle.us_gen_building.proofs.Standing.{slots_same}
use Rattle.us_gen_pack_building.specs.declared.part.PackRun.{PackRun}
use Rattle.us_gen_pack_building.specs.Levels.{is_packed, value_levels, packed_levels}
use Rattle.us_gen_pack_building.specs.Runs.{AreLast}
use Rattle.us_gen_pack_building.proofs.Roles.{role_here, here_writes}

-- ---- numbers of levels

-- one more level for the values, unless they are in a pack
abbrev pub more : Bool → ℕ
more true = 0
more false = 1

value_long : (b : Bool) (x : Descent) → length (value_levels b x) ≡ more b
value_long true x = refl
value_long false x = refl

pub packed_long : (count : ℕ) (rs : List PackRun) (k : ℕ) (ls : List PartLevel) (x : Descent) → length (packed_levels count rs k ls x) ≡ length ls + more (is_packed rs (k + length ls))
packed_long count rs k [] x = value_long (is_packed rs k) x ∙ (ap (λ (j : ℕ). more (is_packed rs j)) (omega arith) ∙ plus_none _)
  where
    plus_none : (a : ℕ) → a ≡ 0 + a
    plus_none a = omega arith
packed_long count rs k (l ∷ ls) x =
    let j : k + 1 + length ls ≡ k + length (l ∷ ls) = omega arith in
    omega (arith, packed_long count rs (k + 1) ls (deeper count l (are_last ls) x), ap (λ (q : ℕ). more (is_packed rs q)) j)

pub many_as : (b : Bool) (n : ℕ) → n + more b ≡ cond b n (n + 1)
many_as true n = omega arith
many_as false n = refl

-- ---- behind a level in a pack

pub slots_behind : (env : Env) (rs : List PackRun) (k : ℕ) (ls : List PartLevel) (j : ℕ) → AreLast rs k ls → j < length ls → is_packed rs (k + j) ≡ true → IsTrue (are_slots (drop (suc j) (levels_of env ls)))
slots_behind env rs k [] j a h e = absurd (omega (arith, h))
slots_behind env rs k (l ∷ ls) zero a h e =
    let q : k + 0 ≡ k = omega arith in
    slots_same env ls ∙ a.0 (subst (λ (i : ℕ). is_packed rs i ≡ true) q e)
slots_behind env rs k (l ∷ ls) (suc j) a h e =
    let q : k + suc j ≡ k + 1 + j = omega arith in
    slots_behind env rs (k + 1) ls j a.1 (omega (arith, h)) (subst (λ (i : ℕ). is_packed rs i ≡ true) q e)

-- ---- pieces

module _ (s : Shape) (extents : List ℕ) (p : Part) where
  -- a column of coordinates that is a piece is of a level that isn't full
  abbrev IsStored : ℕ → Piece → Type 0
  IsStored n (PosOf k) = Unit {0}
  IsStored n (CellsOf (LevelColumn k)) = (k < n) × (kind_at p k ≡ Full → ⊥)
  IsStored n (CellsOf ValueColumn) = Unit {0}

  stored_here : (z : Kind) (k n : ℕ) (x : Piece) → kind_at p k ≡ z → k < n → Mem x (level_pieces k z) → IsStored n x
  stored_here Full k n x e lt m = absurd m
  stored_here Compressed k n x e lt (inl q) = subst (IsStored n) q tt
  stored_here Compressed k n x e lt (inr (inl q)) = subst (IsStored n) q (lt, (λ f. apart (sym e ∙ f)))
    where
      apart : Compressed ≡ Full → ⊥
      apart c = cc
  stored_here Compressed k n x e lt (inr (inr m)) = absurd m
  stored_here Listed k n x e lt (inl q) = subst (IsStored n) q tt
  stored_here Listed k n x e lt (inr (inl q)) = subst (IsStored n) q (lt, (λ f. apart (sym e ∙ f)))
    where
      apart : Listed ≡ Full → ⊥
      apart c = cc
  stored_here Listed k n x e lt (inr (inr m)) = absurd m
  stored_here Slot k n x e lt (inl q) = subst (IsStored n) q (lt, (λ f. apart (sym e ∙ f)))
    where
      apart : Slot ≡ Full → ⊥
      apart c = cc
  stored_here Slot k n x e lt (inr m) = absurd m

  pub stored : (n k : ℕ) (es : List Tree) (x : Piece) → k + length es ≡ n → Mem x (pieces_from p k es) → IsStored n x
  stored n k [] x e (inl q) = subst (IsStored n) q tt
  stored n k [] x e (inr m) = absurd m
  stored n k (t ∷ es) x e m = go (Mem-either x (level_pieces k (kind_at p k)) (pieces_from p (suc k) es) m) (λ (h : Mem x (pieces_from p (suc k) es)). stored n (suc k) es x (omega (arith, e)) h)
    where
      go : Mem x (level_pieces k (kind_at p k)) ⊎ Mem x (pieces_from p (suc k) es) → (Mem x (pieces_from p (suc k) es) → IsStored n x) → IsStored n x
      go (inl h) rest = stored_here (kind_at p k) k n x refl (omega (arith, e)) h
      go (inr h) rest = rest h

  -- the kinds of the levels of the loop
  kind_same : (env : Env) (l : PartLevel) (ls : List PartLevel) (k : ℕ) (t : Tree) (es : List Tree) → levels_of env (l ∷ ls) ≡ levels_from s extents p k (t ∷ es) → l.kind ≡ kind_at p k
  kind_same env l ls k t es e = ap (λ (z : Level). z.kind) (one-same _ _ _ _ e)

  -- ---- roles

  pub writes_at : (env : Env) (count : ℕ) (rs : List PackRun) (i k : ℕ) (ls : List PartLevel) (es : List Tree) (x : Descent) (j : ℕ) → i ≡ k → levels_of env ls ≡ levels_from s extents p k es → AreLast rs i ls → j < length ls
      → (kind_at p (k + j) ≡ Full → ⊥) → writes_crd (level_at (packed_levels count rs i ls x) j).role ≡ not (is_packed rs (i + j))
  writes_at env count rs i k [] es x j q e a h f = absurd (omega (arith, h))
  writes_at env count rs i k (l ∷ ls) [] x j q e a h f = absurd (no_levels (level_of env l) (levels_of env ls) e)
    where
      no_levels : (z : Level) (zs : List Level) → z ∷ zs ≡ [] → ⊥
      no_levels z zs c = cc
  writes_at env count rs i k (l ∷ ls) (t ∷ es) x zero q e a h f =
      let z : i + 0 ≡ i = omega arith in
      let y : k ≡ k + 0 = omega arith in
      here_writes (is_packed rs i) l.kind (are_last ls) x.is_rank (λ c. f (ap (kind_at p) (sym y) ∙ (sym (kind_same env l ls k t es e) ∙ c))) a.0 ∙ ap (λ (b : ℕ). not (is_packed rs b)) (sym z)
  writes_at env count rs i k (l ∷ ls) (t ∷ es) x (suc j) q e a h f =
      let z : i + 1 + j ≡ i + suc j = omega arith in
      let y : k + suc j ≡ suc k + j = omega arith in
      writes_at env count rs (i + 1) (suc k) ls es (deeper count l (are_last ls) x) j (omega (arith, q)) (rest-same _ _ _ _ e) a.1 (omega (arith, h)) (λ c. f (ap (kind_at p) y ∙ c)) ∙ ap (λ (b : ℕ). not (is_packed rs b)) z

  -- ---- names

  module _ (rs : List PackRun) (n : ℕ) (all : List LevelTree) (values : is_in_pack p (CellsOf ValueColumn) ≡ is_packed rs n) (columns : (k : ℕ) → k < n → is_in_pack p (CellsOf (LevelColumn k)) ≡ is_packed rs k) where
    abbrev keeps_own : Piece → Bool
    keeps_own x = not (is_in_pack p x)

    abbrev names : List Piece → List ℕ
    names xs = map (name_in all n) (filter keeps_own xs)

    -- a column that is or isn't in a pack, in front of others
    cells_first : (c : Column) (b : Bool) (xs : List Piece) → is_in_pack p (CellsOf c) ≡ b → names (CellsOf c ∷ xs) ≡ cond b (names xs) (name_in all n (CellsOf c) ∷ names xs)
    cells_first c true xs e = ap (λ (t : Bool). map (name_in all n) (cond (not t) (CellsOf c ∷ filter keeps_own xs) (filter keeps_own xs))) e
    cells_first c false xs e = ap (λ (t : Bool). map (name_in all n) (cond (not t) (CellsOf c ∷ filter keeps_own xs) (filter keeps_own xs))) e

    pos_first : (k : ℕ) (xs : List Piece) → names (PosOf k ∷ xs) ≡ (level_at all k).first ∷ names xs
    pos_first k xs = refl

    -- the pieces of a level with nodes
    two_names : (k first : ℕ) (b : Bool) (rest : List Piece) (more_names : List ℕ) → is_in_pack p (CellsOf (LevelColumn k)) ≡ b → (level_at all k).first ≡ first → names rest ≡ more_names
        → names (PosOf k ∷ CellsOf (LevelColumn k) ∷ rest) ≡ first ∷ cond b more_names ((first + 1) ∷ more_names)
    two_names k first true rest more_names e f h = ap₂ (λ (a : ℕ) (xs : List ℕ). a ∷ xs) f (cells_first (LevelColumn k) true rest e ∙ h)
    two_names k first false rest more_names e f h =
        ap₂ (λ (a : ℕ) (xs : List ℕ). a ∷ xs) f (cells_first (LevelColumn k) false rest e ∙ ap₂ (λ (a : ℕ) (xs : List ℕ). (a + 1) ∷ xs) f h)

    -- the piece of a slot level or of the values
    one_name : (c : Column) (first : ℕ) (b : Bool) (rest : List Piece) (more_names : List ℕ) → is_in_pack p (CellsOf c) ≡ b → name_in all n (CellsOf c) ≡ first + 1 → names rest ≡ more_names
        → names (CellsOf c ∷ rest) ≡ cond b more_names ((first + 1) ∷ more_names)
    one_name c first true rest more_names e f h = cells_first c true rest e ∙ h
    one_name c first false rest more_names e f h = cells_first c false rest e ∙ ap₂ (λ (a : ℕ) (xs : List ℕ). a ∷ xs) f h

    level_names : (z : Kind) (b last ranked : Bool) (k first : ℕ) (rest : List Piece) (more_names : List ℕ) → is_in_pack p (CellsOf (LevelColumn k)) ≡ b → (b ≡ true → last ≡ true) → (level_at all k).first ≡ first → names rest ≡ more_names
        → names (level_pieces k z ++ rest) ≡ level_buffers (role_here b z last ranked) first ++ more_names
    level_names Full true last ranked k first rest more_names e a f h = h
    level_names Full false last ranked k first rest more_names e a f h = h
    level_names Compressed true true ranked k first rest more_names e a f h = two_names k first true rest more_names e f h
    level_names Compressed true false ranked k first rest more_names e a f h = absurd (apart (a refl))
      where
        apart : false ≡ true → ⊥
        apart c = cc
    level_names Compressed false true ranked k first rest more_names e a f h = two_names k first false rest more_names e f h
    level_names Compressed false false ranked k first rest more_names e a f h = two_names k first false rest more_names e f h
    level_names Listed true last ranked k first rest more_names e a f h = two_names k first true rest more_names e f h
    level_names Listed false last ranked k first rest more_names e a f h = two_names k first false rest more_names e f h
    level_names Slot true last ranked k first rest more_names e a f h = one_name (LevelColumn k) first true rest more_names e (ap (λ (q : ℕ). q + 1) f) h
    level_names Slot false last true k first rest more_names e a f h = one_name (LevelColumn k) first false rest more_names e (ap (λ (q : ℕ). q + 1) f) h
    level_names Slot false last false k first rest more_names e a f h = one_name (LevelColumn k) first false rest more_names e (ap (λ (q : ℕ). q + 1) f) h

    value_names : (b : Bool) (x : Descent) → is_in_pack p (CellsOf ValueColumn) ≡ b → level_at all n ≡ level_at (value_levels b x) 0 → names (CellsOf ValueColumn ∷ []) ≡ all_buffers (value_levels b x)
    value_names true x e h = cells_first ValueColumn true [] e
    value_names false x e h = one_name ValueColumn x.first false [] [] e (ap (λ (t : LevelTree). t.first + 1) h) refl ∙ sym (value_buffers x.is_rank x.first)
      where
        value_buffers : (ranked : Bool) (first : ℕ) → level_buffers (slot_role ranked) first ++ [] ≡ (first + 1) ∷ []
        value_buffers true first = refl
        value_buffers false first = refl

    -- the levels from number k on have the names of the pieces from there on
    pub names_are : (env : Env) (count i k : ℕ) (ls : List PartLevel) (es : List Tree) (x : Descent) → i ≡ k → k + length es ≡ n → levels_of env ls ≡ levels_from s extents p k es → AreLast rs i ls
        → ((j : ℕ) → level_at all (k + j) ≡ level_at (packed_levels count rs i ls x) j) → names (pieces_from p k es) ≡ all_buffers (packed_levels count rs i ls x)
    names_are env count i k [] [] x q long e a at =
        let z : n ≡ k + 0 = omega (arith, long) in
        let y : n ≡ i = omega (arith, long, q) in
        value_names (is_packed rs i) x (values ∙ ap (is_packed rs) y) (ap (level_at all) z ∙ at 0)
    names_are env count i k (l ∷ ls) (t ∷ es) x q long e a at =
        let lt : k < n = omega (arith, long) in
        let here : (level_at all k).first ≡ x.first =
        ap (λ (d : ℕ). (level_at all d).first) (omega arith) ∙ ap (λ (w : LevelTree). w.first) (at 0) in
        ap (λ (z : Kind). names (level_pieces k z ++ pieces_from p (suc k) es)) (sym (kind_same env l ls k t es e))
        ∙ level_names l.kind (is_packed rs i) (are_last ls) x.is_rank k x.first (pieces_from p (suc k) es) (all_buffers (packed_levels count rs (i + 1) ls (deeper count l (are_last ls) x)))
        (columns k lt ∙ ap (is_packed rs) (sym q)) a.0 here
        (names_are env count (i + 1) (suc k) ls es (deeper count l (are_last ls) x) (omega (arith, q)) (omega (arith, long)) (rest-same _ _ _ _ e) a.1
        (λ j. ap (level_at all) (omega arith) ∙ at (suc j)))
    names_are env count i k [] (t ∷ es) x q long e a at = absurd (none _ _ e)
      where
        none : (z : Level) (zs : List Level) → [] ≡ z ∷ zs → ⊥
        none z zs c = cc
    names_are env count i k (l ∷ ls) [] x q long e a at = absurd (none _ _ e)
      where
        none : (z : Level) (zs : List Level) → z ∷ zs ≡ [] → ⊥
        none z zs c = cc
