-- The entry with the lower list of coordinates has the lower last position.
use Rattle.std.proofs.Common.{◌≡◌, ℕ, ◌+◌, ◌*◌, ◌<◌, ◌⊎◌, List, [], ◌∷◌, true, ◌&&◌, eqb, ltb, sym, refl, ap, ◌∙◌, subst, inl, inr, arith, lt-ltb, ltb-true, eqb-true, eq-eqb, mul-le-mul_right}
use Rattle.std.proofs.lemmas.Bool.{and_parts, and_from, or_cases, or_left, or_right, false≢true}
use Rattle.us_format.proofs.Order.{Mem, Mem-map, lower-irrefl}
use Rattle.us_format.proofs.Climb.{rank-lt, compressed-node, listed-node, Tells, Placed, SlotsTell, small-head, head-tail, placed-down, no-rest}
use Rattle.us_format.specs.Kinds.{Level}
use Rattle.us_format.specs.Lists.{head, lower, rank, tail}
use Rattle.us_format.specs.Positions.{Row, down, last_place, moved, node_of, nodes, place}
use Rattle.us_format.specs.declared.Kind.{Kind}
use Rattle.us_format.specs.declared.Kind.TheVariants.{Compressed, Full, Listed, Slot}

pub lower-cons : (a b : ℕ) (xs ys : List ℕ) → lower (a ∷ xs) (b ∷ ys) ≡ true → (a < b) ⊎ ((a ≡ b) × (lower xs ys ≡ true))
lower-cons a b xs ys h = go (or_cases (ltb a b) (eqb a b && lower xs ys) h)
  where
    go : ((ltb a b ≡ true) ⊎ ((eqb a b && lower xs ys) ≡ true)) → (a < b) ⊎ ((a ≡ b) × (lower xs ys ≡ true))
    go (inl l) = inl (ltb-true a b l)
    go (inr e) = inr (eqb-true a b (and_parts (eqb a b) (lower xs ys) e).0, (and_parts (eqb a b) (lower xs ys) e).1)

pub lower-first : (a b : ℕ) (xs ys : List ℕ) → a < b → lower (a ∷ xs) (b ∷ ys) ≡ true
lower-first a b xs ys h = or_left _ _ (lt-ltb a b h)

pub lower-next : (a b : ℕ) (xs ys : List ℕ) → a ≡ b → lower xs ys ≡ true → lower (a ∷ xs) (b ∷ ys) ≡ true
lower-next a b xs ys e h = or_right _ _ (and_from _ _ (eq-eqb a b e) h)

-- position and coordinate are lower, or both the same and the rest is lower
pub split : (r s : Row) (c d : ℕ) (cs ds : List ℕ) → lower (r.at ∷ (c ∷ cs)) (s.at ∷ (d ∷ ds)) ≡ true → (lower (r.at ∷ c ∷ []) (s.at ∷ d ∷ []) ≡ true) ⊎ ((r.at ≡ s.at) × (c ≡ d) × (lower cs ds ≡ true))
split r s c d cs ds h = go (lower-cons r.at s.at (c ∷ cs) (d ∷ ds) h)
  where
    go : ((r.at < s.at) ⊎ ((r.at ≡ s.at) × (lower (c ∷ cs) (d ∷ ds) ≡ true))) → (lower (r.at ∷ c ∷ []) (s.at ∷ d ∷ []) ≡ true) ⊎ ((r.at ≡ s.at) × (c ≡ d) × (lower cs ds ≡ true))
    go (inl l) = inl (lower-first r.at s.at (c ∷ []) (d ∷ []) l)
    go (inr e) = two (lower-cons c d cs ds e.1)
      where
        two : ((c < d) ⊎ ((c ≡ d) × (lower cs ds ≡ true))) → (lower (r.at ∷ c ∷ []) (s.at ∷ d ∷ []) ≡ true) ⊎ ((r.at ≡ s.at) × (c ≡ d) × (lower cs ds ≡ true))
        two (inl l) = inl (lower-next r.at s.at (c ∷ []) (d ∷ []) e.0 (lower-first c d [] [] l))
        two (inr f) = inr (e.0, f.0, f.1)

pub full-lt : (size a b c d : ℕ) → c < size → d < size → lower (a ∷ c ∷ []) (b ∷ d ∷ []) ≡ true → a * size + c < b * size + d
full-lt size a b c d lc ld h = go (lower-cons a b (c ∷ []) (d ∷ []) h)
  where
    go : ((a < b) ⊎ ((a ≡ b) × (lower (c ∷ []) (d ∷ []) ≡ true))) → a * size + c < b * size + d
    go (inl l) = omega (arith, mul-le-mul_right size l)
    go (inr e) = two (lower-cons c d [] [] e.1)
      where
        two : ((c < d) ⊎ ((c ≡ d) × (lower [] [] ≡ true))) → a * size + c < b * size + d
        two (inl l) = omega (arith, l, ap (λ n. n * size) e.0)
        two (inr f) = absurd (false≢true f.1)

-- one level: the order of position and rest is kept
pub level-ascends : (kind : Kind) (size : ℕ) (rows : List Row) (r s : Row) (c d : ℕ) (cs ds : List ℕ) → r.rest ≡ c ∷ cs → s.rest ≡ d ∷ ds → c < size → d < size → (kind ≡ Slot → Tells rows)
    → Mem r rows → Mem s rows → lower (r.at ∷ r.rest) (s.at ∷ s.rest) ≡ true → lower (place kind size rows r ∷ cs) (place kind size rows s ∷ ds) ≡ true
level-ascends Full size rows r s c d cs ds er es lc ld t mr ms h =
    go (split r s c d cs ds (subst (λ (l : List ℕ). lower (r.at ∷ l) (s.at ∷ d ∷ ds) ≡ true) er (subst (λ (l : List ℕ). lower (r.at ∷ r.rest) (s.at ∷ l) ≡ true) es h)))
  where
    go : ((lower (r.at ∷ c ∷ []) (s.at ∷ d ∷ []) ≡ true) ⊎ ((r.at ≡ s.at) × (c ≡ d) × (lower cs ds ≡ true))) → lower ((r.at * size + head r.rest) ∷ cs) ((s.at * size + head s.rest) ∷ ds) ≡ true
    go (inl l) = rw (er, es) (lower-first _ _ cs ds (full-lt size r.at s.at c d lc ld l))
    go (inr e) = rw (er, es) (lower-next (r.at * size + c) (s.at * size + d) cs ds (omega (arith, ap (λ n. n * size) e.0, e.1)) e.2)
level-ascends Compressed size rows r s c d cs ds er es lc ld t mr ms h =
    go (split r s c d cs ds (subst (λ (l : List ℕ). lower (r.at ∷ l) (s.at ∷ d ∷ ds) ≡ true) er (subst (λ (l : List ℕ). lower (r.at ∷ r.rest) (s.at ∷ l) ≡ true) es h)))
  where
    nr : r.at ∷ c ∷ [] ≡ node_of Compressed r
    nr = ap (λ l. r.at ∷ head l ∷ []) (sym er)

    ns : s.at ∷ d ∷ [] ≡ node_of Compressed s
    ns = ap (λ l. s.at ∷ head l ∷ []) (sym es)

    go : ((lower (r.at ∷ c ∷ []) (s.at ∷ d ∷ []) ≡ true) ⊎ ((r.at ≡ s.at) × (c ≡ d) × (lower cs ds ≡ true))) → lower (place Compressed size rows r ∷ cs) (place Compressed size rows s ∷ ds) ≡ true
    go (inl l) = lower-first _ _ cs ds (rank-lt (nodes Compressed rows) (node_of Compressed r) (node_of Compressed s) (compressed-node rows r mr)
        (subst (λ (a : List ℕ). lower a (node_of Compressed s) ≡ true) nr (subst (λ (a : List ℕ). lower (r.at ∷ c ∷ []) a ≡ true) ns l)))
    go (inr e) = lower-next _ _ cs ds (ap (rank (nodes Compressed rows)) (sym nr ∙ two e.0 e.1 ∙ ns)) e.2
      where
        two : r.at ≡ s.at → c ≡ d → r.at ∷ c ∷ [] ≡ s.at ∷ d ∷ []
        two u v = cc
level-ascends Listed size rows r s c d cs ds er es lc ld t mr ms h = lower-first _ _ cs ds (rank-lt (nodes Listed rows) (node_of Listed r) (node_of Listed s) (listed-node rows r mr) h)
level-ascends Slot size rows r s c d cs ds er es lc ld t mr ms h = go (lower-cons r.at s.at r.rest s.rest h)
  where
    go : ((r.at < s.at) ⊎ ((r.at ≡ s.at) × (lower r.rest s.rest ≡ true))) → lower (r.at ∷ cs) (s.at ∷ ds) ≡ true
    go (inl l) = lower-first r.at s.at cs ds l
    go (inr e) = absurd (false≢true (sym (lower-irrefl s.rest) ∙ subst (λ (l : List ℕ). lower l s.rest ≡ true) (t refl r s mr ms e.0) e.1))

pub ascending : (ls : List Level) (n : ℕ) (rows : List Row) (r s : Row) → Placed ls n rows → SlotsTell ls rows → Mem r rows → Mem s rows → lower (r.at ∷ r.rest) (s.at ∷ s.rest) ≡ true → last_place ls rows r < last_place ls rows s
ascending [] n rows r s p t mr ms h = go (lower-cons r.at s.at r.rest s.rest h)
  where
    go : ((r.at < s.at) ⊎ ((r.at ≡ s.at) × (lower r.rest s.rest ≡ true))) → r.at < s.at
    go (inl l) = l
    go (inr e) = absurd (false≢true (sym (lower-irrefl []) ∙ subst (λ (l : List ℕ). lower l [] ≡ true) (no-rest r.rest (p.in_range r mr)) (subst (λ (l : List ℕ). lower r.rest l ≡ true) (no-rest s.rest (p.in_range s ms)) e.1)))
ascending (l ∷ ls) n rows r s p t mr ms h =
    ascending ls _ (down l.kind l.size rows) (moved l.kind l.size rows r) (moved l.kind l.size rows s) (placed-down l ls n rows p t.0) t.1 (Mem-map (moved l.kind l.size rows) r rows mr) (Mem-map (moved l.kind l.size rows) s rows ms)
    (level-ascends l.kind l.size rows r s (head r.rest) (head s.rest) (tail r.rest) (tail s.rest) (sym (head-tail l ls r.rest (p.in_range r mr))) (sym (head-tail l ls s.rest (p.in_range s ms)))
    (small-head l ls r.rest (p.in_range r mr)) (small-head l ls s.rest (p.in_range s ms)) t.0 mr ms h)
