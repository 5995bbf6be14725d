-- The new buffers of packs.
use Rattle.std.proofs.Common.{◌≡◌, ℕ, ◌+◌, ◌≤◌, true, refl, ◌∙◌, subst, arith, List, [], ◌∷◌, length, pos, None}
use Rattle.us_code.specs.declared.program.Dim.{Dim}
use Rattle.us_code.specs.declared.program.Dim.TheVariants as dim
use Rattle.us_code.specs.Runs.{World, begin}
use Rattle.us_code.specs.Typing.{Context, sees_dim, TypedMakes, with_buf}
use Rattle.us_code_laws.proofs.Sequence.{put_same, put_other}
use Rattle.us_gen.specs.Goes.{Makes, made}
use Rattle.us_gen.proofs.Going.{arrived, new_more}
use Rattle.us_running.specs.Running.{Table}
use Rattle.us_running.proofs.Running.{table_moved}
use Rattle.us_gen_build.specs.Making.{words}
use Rattle.us_gen_build.proofs.Making.{zeros, looser_makes, sees_more}
use Rattle.us_gen_packs.specs.Packs.{PackTree}
use Rattle.us_gen_packs.specs.Kinds.{PackNamesRise}
use Rattle.us_gen_packs.specs.Making.{pack_makes, PacksSmall, PacksMade, PacksAreZero, PacksSeen, PackMakesTyped}

packs_made : (ws : List PackTree) (lo n : ℕ) (w : World) → PackNamesRise lo ws n → PacksSmall w.env ws → (u : World) × Makes lo (length ws) (pack_makes ws) w u × PacksMade lo n ws w u
packs_made [] lo n w h s = (w, arrived lo w, record { env = refl; bufs = λ b k. refl; zero = tt })
packs_made (p ∷ ws) lo n w h s =
    let one = words p.first (dim.Name p.cells) in
    let w1 = made one w in
    let rec = packs_made ws (p.first + 1) n w1 h.1 s.2 in
    let u = rec.0 in
    let m = rec.2 in
    let all : Makes lo (length ws + 1) (one ∷ pack_makes ws) w u =
    new_more lo (length ws) one (pack_makes ws) w u h.0 s.1 (looser_makes lo (p.first + 1) (length ws) (length ws) (pack_makes ws) w1 u (omega (arith, h.0)) (omega arith) rec.1) in
    let first_is : u.bufs p.first ≡ w1.bufs p.first = m.bufs p.first (λ g. absurd (omega (arith, g))) in (
      u,
      looser_makes lo lo (length ws + 1) (length (p ∷ ws)) (one ∷ pack_makes ws) w u (omega arith) (omega arith) all,
      record {
        env = m.env;
        bufs = λ b k. m.bufs b (λ g. k (omega (arith, g, h.0))) ∙ put_other w.bufs p.first _ b (λ e. let z = k (omega (arith, e, h.0)) in absurd (omega (arith, e, z, up)));
        zero = (subst (λ (z : ℕ). Table ((begin u).bufs p.first) z (λ y. pos 0)) s.0 (table_moved _ _ _ _ (first_is ∙ put_same w.bufs p.first _) (zeros (w.env.dims p.cells))), m.zero);
      },
    )
  where
    rises : (xs : List PackTree) (a b : ℕ) → PackNamesRise a xs b → a ≤ b
    rises [] a b k = k
    rises (x ∷ xs) a b k = omega (arith, k.0, rises xs (x.first + 1) b k.1)

    up : p.first + 1 ≤ n
    up = rises ws (p.first + 1) n h.1

pub packs_are_zero : PacksAreZero
packs_are_zero lo n ws w h s = packs_made ws lo n w h s

all_typed : (ws : List PackTree) (lo n : ℕ) (g h : Context) → PackNamesRise lo ws n → ((d : Dim) → sees_dim g d ≡ true → sees_dim h d ≡ true) → ((b : ℕ) → lo ≤ b → h.bufs b ≡ None) → PacksSeen g ws → TypedMakes h (pack_makes ws)
all_typed [] lo n g h rise sees none s = tt
all_typed (p ∷ ws) lo n g h rise sees none s =
    let one = words p.first (dim.Name p.cells) in (
      none p.first rise.0,
      sees (dim.Name p.cells) s.0,
      refl,
      refl,
      all_typed ws (p.first + 1) n g (with_buf h one) rise.1 (λ d t. sees_more h one d (sees d t)) (λ b k. put_other h.bufs p.first _ b (λ e. omega (arith, e, k)) ∙ none b (omega (arith, k, rise.0))) s.1,
    )

pub pack_makes_typed : PackMakesTyped
pack_makes_typed g lo n ws rise none s = all_typed ws lo n g g rise (λ d t. t) none s
