-- In a part that is sound each climb from the last position of an entry gives the entry's coordinates.
use Rattle.std.proofs.Common.{◌≡◌, ℕ, suc, ◌<◌, ◌⊎◌, List, [], ◌∷◌, ◌++◌, map, length, take, Bool, true, false, cond, not, ◌&&◌, ◌||◌, sym, refl, ap, ◌∙◌, subst, inl, inr, arith, Some, append_assoc}
use Rattle.std.proofs.lemmas.Bool.{or_cases, false≢true}
use Rattle.std.proofs.lemmas.List.{map-append, take_at, take_all}
use Rattle.us_format.proofs.Order.{Mem, Mem-map, Mem-of_map}
use Rattle.us_format.proofs.Climb.{Tells, same_place, rank-inj, listed-node, InRange, Placed, SlotsTell, climb-law}
use Rattle.us_format.proofs.Agree.{Sound, coordinate-below, tells-entry, all-tell}
use Rattle.us_expr.specs.Tree.{Tree}
use Rattle.us_format.specs.Buffers.{level_buffers}
use Rattle.us_format.specs.Climb.{climb}
use Rattle.us_format.specs.Coordinates.{coordinate, level_range, span}
use Rattle.us_format.specs.Declaration.{Part}
use Rattle.us_format.specs.Kinds.{before_loose, kind, levels_from, levels_of, tells}
use Rattle.us_format.specs.Lists.{among, tail}
use Rattle.us_format.specs.Matrix.{Entry, Shape}
use Rattle.us_format.specs.Packs.{written}
use Rattle.us_format.specs.Positions.{last_place, Row, down, moved, node_of, nodes, place, row_of, rows_of}
use Rattle.us_format.specs.Queries.{extents_of}
use Rattle.us_format.specs.declared.Kind.{Kind}
use Rattle.us_format.specs.declared.Kind.TheVariants.{Compressed, Full, Listed, Slot}

pub map-map : {A B C : Type 0} (f : B → C) (g : A → B) (xs : List A) → map f (map g xs) ≡ map (λ x. f (g x)) xs
map-map f g [] = refl
map-map f g (x ∷ xs) = ap (λ l. f (g x) ∷ l) (map-map f g xs)

-- a kind chosen by tests is slot only in one place
pub slot-when : (t g b : Bool) → cond t (cond g Compressed (cond b Slot Listed)) Full ≡ Slot → b ≡ true
slot-when true true b h = absurd (cc)
slot-when true false true h = refl
slot-when true false false h = absurd (cc)
slot-when false g b h = absurd (cc)

-- a loose level is listed or slot
pub loose-when : (t g b : Bool) → (t && not g) ≡ true → (cond t (cond g Compressed (cond b Slot Listed)) Full ≡ Slot) ⊎ (cond t (cond g Compressed (cond b Slot Listed)) Full ≡ Listed)
loose-when true true b h = absurd (cc)
loose-when true false true h = inl refl
loose-when true false false h = inr refl
loose-when false g b h = absurd (cc)

module _ (m : List Entry) (s : Shape) (p : Part) (so : Sound m s p) where
  abbrev pub coords : Entry → List Tree → List ℕ
  coords x es = map (coordinate m s p x) es

  abbrev pub size_of : Tree → ℕ
  size_of e = span (level_range s (extents_of m s p) p e)

  abbrev pub row_at : (Entry → ℕ) → List Tree → Entry → Row
  row_at f es x = record { at = f x; rest = coords x es; value = x.v }

  abbrev pub rows_at : (Entry → ℕ) → List Tree → List Row
  rows_at f es = map (row_at f es) m

  abbrev pub next : Kind → ℕ → (Entry → ℕ) → List Tree → Entry → ℕ
  next k n f es x = place k n (rows_at f es) (row_at f es x)

  pub down-rows : (k : Kind) (n : ℕ) (f : Entry → ℕ) (e : Tree) (es : List Tree) → down k n (rows_at f (e ∷ es)) ≡ rows_at (next k n f (e ∷ es)) es
  down-rows k n f e es = map-map (moved k n (rows_at f (e ∷ es))) (row_at f (e ∷ es)) m

  -- ---- slots

  -- equal positions mean equal coordinates so far
  abbrev pub Before : (Entry → ℕ) → List Tree → Type 0
  Before f done = (x y : Entry) → Mem x m → Mem y m → f x ≡ f y → coords x done ≡ coords y done

  -- equal positions mean equal coordinates from here on
  abbrev pub After : (Entry → ℕ) → List Tree → Type 0
  After f es = (x y : Entry) → Mem x m → Mem y m → f x ≡ f y → coords x es ≡ coords y es

  pub tells-rows : (f : Entry → ℕ) (es : List Tree) → After f es → Tells (rows_at f es)
  tells-rows f es h r t mr mt e =
      let a = Mem-of_map (row_at f es) r m mr in let b = Mem-of_map (row_at f es) t m mt in
      sym (ap (λ (z : Row). z.rest) a.2) ∙ h a.0 b.0 a.1 b.1 (ap (λ (z : Row). z.at) a.2 ∙ e ∙ sym (ap (λ (z : Row). z.at) b.2)) ∙ ap (λ (z : Row). z.rest) b.2

  pub tells-here : (k : ℕ) (done es : List Tree) (f : Entry → ℕ) → take k p.levels ≡ done → Before f done → (before_loose p k ≡ true → After f es) → kind p k ≡ Slot → After f es
  tells-here k done es f at before after h = go (or_cases _ _ (slot-when (among k p.trim) (among k p.merge) (before_loose p k || tells p k) h))
    where
      go : ((before_loose p k ≡ true) ⊎ (tells p k ≡ true)) → After f es
      go (inl b) x y mx my e = after b x y mx my e
      go (inr t) x y mx my e =
          let same : x ≡ y = tells-entry m s p so x y mx my k t (ap (coords x) at ∙ before x y mx my e ∙ sym (ap (coords y) at)) in ap (λ z. coords z es) same

  pub coords-snoc : (x : Entry) (done : List Tree) (e : Tree) → coords x (done ++ e ∷ []) ≡ coords x done ++ coordinate m s p x e ∷ []
  coords-snoc x done e = map-append (coordinate m s p x) done (e ∷ [])

  pub slots-tell : (k : ℕ) (done es : List Tree) (f : Entry → ℕ) → p.levels ≡ done ++ es → length done ≡ k → ((e : Tree) → Mem e es → Mem e p.levels)
      → Before f done → (before_loose p k ≡ true → After f es) → SlotsTell (levels_from s (extents_of m s p) p k es) (rows_at f es)
  slots-tell k done [] f split len sub before after = tt
  slots-tell k done (e ∷ es) f split len sub before after = (
    told,
    subst (λ (rows : List Row). SlotsTell (levels_from s (extents_of m s p) p (suc k) es) rows) (sym (down-rows (kind p k) (size_of e) f e es))
        (slots-tell (suc k) (done ++ e ∷ []) es (next (kind p k) (size_of e) f (e ∷ es)) (split ∙ sym (append_assoc done (e ∷ []) es)) (length-snoc done e ∙ ap suc len) (λ x mx. sub x (inr mx)) before' after'),
  )
    where
      at : take k p.levels ≡ done
      at = ap (take k) split ∙ take_at done (e ∷ es) k len

      here : kind p k ≡ Slot → After f (e ∷ es)
      here = tells-here k done (e ∷ es) f at before after

      told : kind p k ≡ Slot → Tells (rows_at f (e ∷ es))
      told h = tells-rows f (e ∷ es) (here h)

      length-snoc : (xs : List Tree) (x : Tree) → length (xs ++ x ∷ []) ≡ suc (length xs)
      length-snoc [] x = refl
      length-snoc (y ∷ xs) x = ap suc (length-snoc xs x)

      same : (x y : Entry) → Mem x m → Mem y m → next (kind p k) (size_of e) f (e ∷ es) x ≡ next (kind p k) (size_of e) f (e ∷ es) y → (f x ≡ f y) × (coordinate m s p x e ≡ coordinate m s p y e)
      same x y mx my q =
          same_place (kind p k) (size_of e) (rows_at f (e ∷ es)) (row_at f (e ∷ es) x) (row_at f (e ∷ es) y) told (Mem-map (row_at f (e ∷ es)) x m mx) (Mem-map (row_at f (e ∷ es)) y m my)
          (coordinate-below m s p so x mx e (sub e (inl refl))) (coordinate-below m s p so y my e (sub e (inl refl))) q

      before' : Before (next (kind p k) (size_of e) f (e ∷ es)) (done ++ e ∷ [])
      before' x y mx my q =
          let t = same x y mx my q in
          coords-snoc x done e ∙ ap (λ l. l ++ coordinate m s p x e ∷ []) (before x y mx my t.0) ∙ ap (λ c. coords y done ++ c ∷ []) t.1 ∙ sym (coords-snoc y done e)

      listed : kind p k ≡ Listed → After (next (kind p k) (size_of e) f (e ∷ es)) es
      listed h x y mx my q =
          let q' : next Listed (size_of e) f (e ∷ es) x ≡ next Listed (size_of e) f (e ∷ es) y = subst (λ (z : Kind). next z (size_of e) f (e ∷ es) x ≡ next z (size_of e) f (e ∷ es) y) h q in
          let r : node_of Listed (row_at f (e ∷ es) x) ≡ node_of Listed (row_at f (e ∷ es) y) =
          rank-inj (nodes Listed (rows_at f (e ∷ es))) _ _ (listed-node (rows_at f (e ∷ es)) (row_at f (e ∷ es) x) (Mem-map (row_at f (e ∷ es)) x m mx)) (listed-node (rows_at f (e ∷ es)) (row_at f (e ∷ es) y) (Mem-map (row_at f (e ∷ es)) y m my)) q' in
          ap (λ l. tail (tail l)) r

      pick : ((kind p k ≡ Slot) ⊎ (kind p k ≡ Listed)) → After (next (kind p k) (size_of e) f (e ∷ es)) es
      pick (inl h) x y mx my q = ap tail (here h x y mx my (same x y mx my q).0)
      pick (inr h) x y mx my q = listed h x y mx my q

      after' : before_loose p (suc k) ≡ true → After (next (kind p k) (size_of e) f (e ∷ es)) es
      after' b = pick (loose-when (among k p.trim) (among k p.merge) (before_loose p k || tells p k) b)

  -- ---- the part

  pub in-range : (x : Entry) → Mem x m → (k : ℕ) (es : List Tree) → ((e : Tree) → Mem e es → Mem e p.levels) → InRange (levels_from s (extents_of m s p) p k es) (coords x es)
  in-range x mx k [] sub = tt
  in-range x mx k (e ∷ es) sub = (coordinate-below m s p so x mx e (sub e (inl refl)), in-range x mx (suc k) es (λ a ma. sub a (inr ma)))

  pub take-whole : {A : Type 0} (xs : List A) → take (length xs) xs ≡ xs
  take-whole xs = take_all (length xs) xs (omega arith)

  pub top-placed : Placed (levels_of s (extents_of m s p) p) 1 (rows_of m s p)
  top-placed = record {
    in_range = λ r mr. let a = Mem-of_map (row_of m s p) r m mr in subst (λ (z : Row). InRange (levels_of s (extents_of m s p) p) z.rest) a.2 (in-range a.0 a.1 0 p.levels (λ e me. me));
    below = λ r mr. let a = Mem-of_map (row_of m s p) r m mr in subst (λ (z : Row). z.at < 1) a.2 (omega arith);
    apart = λ r t mr mt ea er.
        let a = Mem-of_map (row_of m s p) r m mr in let b = Mem-of_map (row_of m s p) t m mt in
        let q : coords a.0 p.levels ≡ coords b.0 p.levels = ap (λ (z : Row). z.rest) a.2 ∙ er ∙ sym (ap (λ (z : Row). z.rest) b.2) in
        let h : a.0 ≡ b.0 = all-tell m s p so a.0 b.0 a.1 b.1 (ap (coords a.0) (take-whole p.levels) ∙ q ∙ sym (ap (coords b.0) (take-whole p.levels))) in
        sym (ap (λ (z : Row). z.value) a.2) ∙ ap (λ (z : Entry). z.v) h ∙ ap (λ (z : Row). z.value) b.2;
  }

  pub top-slots : SlotsTell (levels_of s (extents_of m s p) p) (rows_of m s p)
  top-slots = slots-tell 0 [] p.levels (λ _. 0) refl refl (λ e me. me) (λ x y mx my e. refl) (λ h. absurd (false≢true h))

  -- a climb from the last position of an entry gives its coordinates
  pub part-climb : (x : Entry) → Mem x m
      → climb (levels_of s (extents_of m s p) p) (map written (level_buffers (levels_of s (extents_of m s p) p) 1 (rows_of m s p))) (last_place (levels_of s (extents_of m s p) p) (rows_of m s p) (row_of m s p x)) ≡ Some (0, coords x p.levels)
  part-climb x mx = climb-law (levels_of s (extents_of m s p) p) 1 (rows_of m s p) (row_of m s p x) top-placed top-slots (Mem-map (row_of m s p) x m mx)
