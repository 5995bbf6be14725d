-- Parts of which it is known what the phase of dims needs.
use Rattle.std.proofs.Common.{◌≡◌, ℕ, suc, ◌+◌, ◌*◌, ◌<◌, ◌≤◌, List, [], ◌∷◌, ◌++◌, length, drop, get_or, sym, ap, subst, ◌∙◌, arith, add-one, append_assoc}
use Rattle.std.proofs.Math.Seq.{drop-cons}
use Rattle.std.proofs.Math.ListN.{drop_of_length-le}
use Rattle.std.proofs.lemmas.List.{append-nil}
use Rattle.us_format.specs.Matrix.{Shape}
use Rattle.us_format.specs.Declaration.{Part}
use Rattle.us_format.specs.Reading.{buffer_count}
use Rattle.us_gen_recover.specs.declared.places.Table.{Table}
use Rattle.us_gen_places.specs.declared.start.PartStart.{PartStart}
use Rattle.us_gen_places.specs.Dims.{next_start}
use Rattle.us_gen_unpack.specs.declared.listing.PartWalk.{PartWalk}
use Rattle.us_gen_opening.specs.declared.parts.Opening.{Opening}
use Rattle.us_gen_opening.specs.Opening.{extents_from}
use Rattle.us_gen_opening.specs.Tells.{AreOpeningsOf}
use Rattle.us_gen_parts.specs.Walks.{AreWalksOf}
use Rattle.us_gen_listing.specs.Unpack.{OpenedFrom, IsOpenedMore}

abbrev pub no_part : Part
no_part = record { names = 0; queries = []; levels = []; trim = []; merge = []; packs = [] }

-- the first k parts are opened; the sources of the next one begin there
pub record ArePassed (ps : List Part) (xs : List PartWalk) (k source : ℕ) (os : List Opening) : Type 0 where
  pub rest : (more : List Opening) → OpenedFrom source (drop k ps) (drop k xs) more → OpenedFrom 0 ps xs (os ++ more)
  pub few : source ≤ 81 * k

pub passed-none : (ps : List Part) (xs : List PartWalk) (os : List Opening) → os ≡ [] → ArePassed ps xs 0 0 os
passed-none ps xs os e = record { rest = λ more h. subst (λ (zs : List Opening). OpenedFrom 0 ps xs (zs ++ more)) (sym e) h; few = omega arith }

pub passed-more : (ps : List Part) (xs : List PartWalk) (k source count : ℕ) (os zs : List Opening) (p : Part) (x : PartWalk) → ArePassed ps xs k source os → k < length ps → k < length xs → p ≡ get_or ps k p → x ≡ get_or xs k x
    → IsOpenedMore source x.places os zs → count ≡ buffer_count p → count ≤ 81 → ArePassed ps xs (k + 1) (source + count) zs
passed-more ps xs k source count os zs p x h lp lx is_p is_x made count_is few =
    record {
      rest = λ more w.
          let there : OpenedFrom (source + buffer_count p) (drop (suc k) ps) (drop (suc k) xs) more =
          subst (λ (n : ℕ). OpenedFrom n (drop (suc k) ps) (drop (suc k) xs) more) (ap (λ n. source + n) count_is)
          (subst (λ (j : ℕ). OpenedFrom (source + count) (drop j ps) (drop j xs) more) (add-one k) w) in
          let both : OpenedFrom source (p ∷ drop (suc k) ps) (x ∷ drop (suc k) xs) (made.opening ∷ more) = (made.extents, made.loops, made.values, there) in
          let first : drop k ps ≡ p ∷ drop (suc k) ps = drop-cons ps k p lp ∙ ap (λ (q : Part). q ∷ drop (suc k) ps) (sym is_p) in
          let second : drop k xs ≡ x ∷ drop (suc k) xs = drop-cons xs k x lx ∙ ap (λ (y : PartWalk). y ∷ drop (suc k) xs) (sym is_x) in
          subst (λ (ws : List Opening). OpenedFrom 0 ps xs ws) (sym (append_assoc os (made.opening ∷ []) more) ∙ ap (λ (ws : List Opening). ws ++ more) (sym made.behind))
          (h.rest (made.opening ∷ more)
          (subst (λ (qs : List Part). OpenedFrom source qs (drop k xs) (made.opening ∷ more)) (sym first)
          (subst (λ (ys : List PartWalk). OpenedFrom source (p ∷ drop (suc k) ps) ys (made.opening ∷ more)) (sym second) both)));
      few = omega (arith, h.few, few);
    }

pub passed-all : (ps : List Part) (xs : List PartWalk) (k source : ℕ) (os : List Opening) → ArePassed ps xs k source os → length ps ≤ k → length xs ≤ k → OpenedFrom 0 ps xs os
passed-all ps xs k source os h lp lx =
    subst (λ (ws : List Opening). OpenedFrom 0 ps xs ws) (append-nil os)
    (h.rest []
    (subst (λ (qs : List Part). OpenedFrom source qs (drop k xs) []) (sym (drop_of_length-le ps lp))
    (subst (λ (ys : List PartWalk). OpenedFrom source [] ys []) (sym (drop_of_length-le xs lx)) tt)))

-- what is opened of the loops of parts is what the phase of dims needs
pub opened-is : (a : PartStart) (s : Shape) (ps : List Part) (xs : List PartWalk) (os : List Opening) → AreWalksOf a s ps xs → OpenedFrom a.source ps xs os → AreOpeningsOf a s ps os
opened-is a s [] [] [] w h = tt
opened-is a s [] [] (o ∷ os) w h = absurd h
opened-is a s [] (x ∷ xs) os w h = absurd w
opened-is a s (p ∷ ps) [] os w h = absurd w
opened-is a s (p ∷ ps) (x ∷ xs) [] w h = absurd h
opened-is a s (p ∷ ps) (x ∷ xs) (o ∷ os) w h = (
  record {
    extents = h.0 ∙ ap (λ (ts : List Table). extents_from a.source ts) w.0.places.tables;
    loops = h.1 ∙ w.0.places.loops;
    values = h.2 ∙ w.0.places.values;
  },
  opened-is (next_start a p) s ps xs os w.1 h.3,
)
