-- The new buffers of levels.
use Rattle.std.proofs.Common.{◌≡◌, ◌≢◌, ℕ, ◌+◌, ◌*◌, ◌<◌, ◌≤◌, true, refl, sym, ap, ◌∙◌, subst, arith, List, [], ◌∷◌, length, pos, ℤ, None}
use Rattle.std.specs.Prelude.{replicate}
use Rattle.std.proofs.lemmas.List.{length-replicate, get_or-replicate}
use Rattle.us_code.specs.declared.program.Dim.{Dim}
use Rattle.us_code.specs.declared.program.Dim.TheVariants as dim
use Rattle.us_code.specs.declared.program.Make.{Make}
use Rattle.us_code.specs.Run.{Env}
use Rattle.us_code.specs.Runs.{World, begin}
use Rattle.us_code.specs.Typing.{Context, sees_dim, TypedMakes, with_buf}
use Rattle.us_code_laws.proofs.Sequence.{put_same, put_other}
use Rattle.us_gen.specs.Goes.{Makes, made}
use Rattle.us_gen.proofs.Going.{arrived, new_more}
use Rattle.us_running.specs.Running.{Table}
use Rattle.us_running.proofs.Running.{table_moved}
use Rattle.us_gen_build.specs.declared.levels.Role.{Role}
use Rattle.us_gen_build.specs.declared.levels.Role.TheVariants.{Full, Shared, Single, AtPosition, AtRank, Counted, Marked, Kept}
use Rattle.us_gen_build.specs.Levels.{LevelTree}
use Rattle.us_gen_build.specs.Loops.{Zero, AllZero}
use Rattle.us_gen_build.specs.Kinds.{NamesRise}
use Rattle.us_gen_build.specs.Making.{words, makes_of, makes, SmallOf, AllSmall, Made, BuffersAreZero, SeesOf, AllSeen, MakesTyped}
use Rattle.us_gen_build.proofs.BlockTyped.{rise_up}

pub zeros : (m : ℕ) → Table (replicate m (pos 0)) m (λ y. pos 0)
zeros m = record { long = length-replicate m (pos 0); each = λ y h. get_or-replicate m y (pos 0) (pos 0) h }

-- more steps, and a lower number from which names may change
pub looser_makes : (low high m n : ℕ) (ms : List Make) (w u : World) → low ≤ high → m ≤ n → Makes high m ms w u → Makes low n ms w u
looser_makes low high m n ms w u le few x = record {
  is = x.is;
  steps = omega (arith, x.steps, few);
  keeps = record { sources = x.keeps.sources; dims = λ d h. x.keeps.dims d (omega (arith, h, le)); factors = λ d h. x.keeps.factors d (omega (arith, h, le)); bufs = λ b h. x.keeps.bufs b (omega (arith, h, le)) };
}

-- behind the buffers of a level
abbrev own : Role → LevelTree → World → World
own Full l w = w
own Shared l w = made (words (l.first + 1) l.crd_length) (made (words l.first l.pos_length) w)
own Single l w = made (words (l.first + 1) l.crd_length) (made (words l.first l.pos_length) w)
own AtPosition l w = made (words (l.first + 1) l.crd_length) w
own AtRank l w = made (words (l.first + 1) l.crd_length) w
own Counted l w = w
own Marked l w = made (words l.first l.pos_length) w
own Kept l w = w

own_env : (r : Role) (l : LevelTree) (w : World) → (own r l w).env ≡ w.env
own_env Full l w = refl
own_env Shared l w = refl
own_env Single l w = refl
own_env AtPosition l w = refl
own_env AtRank l w = refl
own_env Counted l w = refl
own_env Marked l w = refl
own_env Kept l w = refl

two_bufs : (l : LevelTree) (w : World) (b : ℕ) → l.first ≢ b → l.first + 1 ≢ b → (own Shared l w).bufs b ≡ w.bufs b
two_bufs l w b p q = put_other (made (words l.first l.pos_length) w).bufs (l.first + 1) _ b q ∙ put_other w.bufs l.first _ b p

own_bufs : (r : Role) (l : LevelTree) (w : World) (b : ℕ) → l.first ≢ b → l.first + 1 ≢ b → (own r l w).bufs b ≡ w.bufs b
own_bufs Full l w b p q = refl
own_bufs Shared l w b p q = two_bufs l w b p q
own_bufs Single l w b p q = two_bufs l w b p q
own_bufs AtPosition l w b p q = put_other w.bufs (l.first + 1) _ b q
own_bufs AtRank l w b p q = put_other w.bufs (l.first + 1) _ b q
own_bufs Counted l w b p q = refl
own_bufs Marked l w b p q = put_other w.bufs l.first _ b p
own_bufs Kept l w b p q = refl

two_zero : (l : LevelTree) (w u : World) → u.bufs l.first ≡ (own Shared l w).bufs l.first → u.bufs (l.first + 1) ≡ (own Shared l w).bufs (l.first + 1) → Zero w.env Shared l (begin u)
two_zero l w u p q = (
  table_moved _ _ _ _ (p ∙ (put_other (made (words l.first l.pos_length) w).bufs (l.first + 1) _ l.first (omega arith) ∙ put_same w.bufs l.first _)) (zeros _),
  table_moved _ _ _ _ (q ∙ put_same (made (words l.first l.pos_length) w).bufs (l.first + 1) _) (zeros _),
)

own_zero : (r : Role) (l : LevelTree) (w u : World) → u.bufs l.first ≡ (own r l w).bufs l.first → u.bufs (l.first + 1) ≡ (own r l w).bufs (l.first + 1) → Zero w.env r l (begin u)
own_zero Full l w u p q = tt
own_zero Shared l w u p q = two_zero l w u p q
own_zero Single l w u p q = two_zero l w u p q
own_zero AtPosition l w u p q = table_moved _ _ _ _ (q ∙ put_same w.bufs (l.first + 1) _) (zeros _)
own_zero AtRank l w u p q = table_moved _ _ _ _ (q ∙ put_same w.bufs (l.first + 1) _) (zeros _)
own_zero Counted l w u p q = tt
own_zero Marked l w u p q = table_moved _ _ _ _ (p ∙ put_same w.bufs l.first _) (zeros _)
own_zero Kept l w u p q = tt

two_makes : (lo cost : ℕ) (l : LevelTree) (ms : List Make) (w u : World) → lo ≤ l.first → SmallOf w.env Shared l → Makes lo cost ms (own Shared l w) u → Makes lo (cost + 2) (makes_of Shared l ms) w u
two_makes lo cost l ms w u le s x =
    let one = new_more lo cost (words (l.first + 1) l.crd_length) ms (made (words l.first l.pos_length) w) u (omega (arith, le)) s.1 x in
    let two = new_more lo (cost + 1) (words l.first l.pos_length) (words (l.first + 1) l.crd_length ∷ ms) w u le s.0 one in
    looser_makes lo lo (cost + 1 + 1) (cost + 2) (makes_of Shared l ms) w u (omega arith) (omega arith) two

crd_makes : (lo cost : ℕ) (l : LevelTree) (ms : List Make) (w u : World) → lo ≤ l.first → SmallOf w.env AtRank l → Makes lo cost ms (own AtRank l w) u → Makes lo (cost + 2) (makes_of AtRank l ms) w u
crd_makes lo cost l ms w u le s x =
    looser_makes lo lo (cost + 1) (cost + 2) (makes_of AtRank l ms) w u (omega arith) (omega arith) (new_more lo cost (words (l.first + 1) l.crd_length) ms w u (omega (arith, le)) s x)

own_makes : (r : Role) (lo cost : ℕ) (l : LevelTree) (ms : List Make) (w u : World) → lo ≤ l.first → SmallOf w.env r l → Makes lo cost ms (own r l w) u → Makes lo (cost + 2) (makes_of r l ms) w u
own_makes Full lo cost l ms w u le s x = looser_makes lo lo cost (cost + 2) ms w u (omega arith) (omega arith) x
own_makes Shared lo cost l ms w u le s x = two_makes lo cost l ms w u le s x
own_makes Single lo cost l ms w u le s x = two_makes lo cost l ms w u le s x
own_makes AtPosition lo cost l ms w u le s x = crd_makes lo cost l ms w u le s x
own_makes AtRank lo cost l ms w u le s x = crd_makes lo cost l ms w u le s x
own_makes Counted lo cost l ms w u le s x = looser_makes lo lo cost (cost + 2) ms w u (omega arith) (omega arith) x
own_makes Marked lo cost l ms w u le s x =
    looser_makes lo lo (cost + 1) (cost + 2) (makes_of Marked l ms) w u (omega arith) (omega arith) (new_more lo cost (words l.first l.pos_length) ms w u le s x)
own_makes Kept lo cost l ms w u le s x = looser_makes lo lo cost (cost + 2) ms w u (omega arith) (omega arith) x

makes_do : (ls : List LevelTree) (lo n : ℕ) (w : World) → NamesRise lo ls n → AllSmall w.env ls → (u : World) × Makes lo (2 * length ls) (makes ls) w u × Made lo n ls w u
makes_do [] lo n w h s = (w, arrived lo w, record { env = refl; bufs = λ b k. refl; zero = tt })
makes_do (l ∷ ls) lo n w h s =
    let w1 = own l.role l w in
    let up = rise_up ls (l.first + 4) n h.1 in
    let rec = makes_do ls (l.first + 4) n w1 h.1 (subst (λ (e : Env). AllSmall e ls) (sym (own_env l.role l w)) s.1) in
    let u = rec.0 in
    let m = rec.2 in
    let mine : Makes lo (2 * length ls + 2) (makes (l ∷ ls)) w u = own_makes l.role lo (2 * length ls) l (makes ls) w u h.0 s.0 (looser_makes lo (l.first + 4) (2 * length ls) (2 * length ls) (makes ls) w1 u (omega (arith, h.0)) (omega arith) rec.1) in (
      u,
      looser_makes lo lo (2 * length ls + 2) (2 * length (l ∷ ls)) (makes (l ∷ ls)) w u (omega arith) (omega arith) mine,
      record {
        env = m.env ∙ own_env l.role l w;
        bufs = λ b k. m.bufs b (λ g. k (omega (arith, g, h.0))) ∙ own_bufs l.role l w b (λ e. let z = k (omega (arith, e, h.0)) in omega (arith, e, z, up)) (λ e. let z = k (omega (arith, e, h.0)) in omega (arith, e, z, up));
        zero = (own_zero l.role l w u (m.bufs l.first (λ g. absurd (omega (arith, g)))) (m.bufs (l.first + 1) (λ g. absurd (omega (arith, g)))), subst (λ (e : Env). AllZero e ls (begin u)) (own_env l.role l w) m.zero);
      },
    )

pub buffers_are_zero : BuffersAreZero
buffers_are_zero lo n ls w h s = makes_do ls lo n w h s

-- ---- typing

pub sees_more : (g : Context) (m : Make) (d : Dim) → sees_dim g d ≡ true → sees_dim (with_buf g m) d ≡ true
sees_more g m (dim.Number n) h = refl
sees_more g m (dim.Name d) h = h
sees_more g m (dim.Len k) h = h

abbrev with_own : Role → LevelTree → Context → Context
with_own Full l g = g
with_own Shared l g = with_buf (with_buf g (words l.first l.pos_length)) (words (l.first + 1) l.crd_length)
with_own Single l g = with_buf (with_buf g (words l.first l.pos_length)) (words (l.first + 1) l.crd_length)
with_own AtPosition l g = with_buf g (words (l.first + 1) l.crd_length)
with_own AtRank l g = with_buf g (words (l.first + 1) l.crd_length)
with_own Counted l g = g
with_own Marked l g = with_buf g (words l.first l.pos_length)
with_own Kept l g = g

two_sees : (l : LevelTree) (g : Context) (d : Dim) → sees_dim g d ≡ true → sees_dim (with_own Shared l g) d ≡ true
two_sees l g d h = sees_more (with_buf g (words l.first l.pos_length)) (words (l.first + 1) l.crd_length) d (sees_more g (words l.first l.pos_length) d h)

own_sees : (r : Role) (l : LevelTree) (g : Context) (d : Dim) → sees_dim g d ≡ true → sees_dim (with_own r l g) d ≡ true
own_sees Full l g d h = h
own_sees Shared l g d h = two_sees l g d h
own_sees Single l g d h = two_sees l g d h
own_sees AtPosition l g d h = sees_more g (words (l.first + 1) l.crd_length) d h
own_sees AtRank l g d h = sees_more g (words (l.first + 1) l.crd_length) d h
own_sees Counted l g d h = h
own_sees Marked l g d h = sees_more g (words l.first l.pos_length) d h
own_sees Kept l g d h = h

two_none : (l : LevelTree) (g : Context) (b : ℕ) → l.first + 4 ≤ b → g.bufs b ≡ None → (with_own Shared l g).bufs b ≡ None
two_none l g b le h = put_other (with_buf g (words l.first l.pos_length)).bufs (l.first + 1) _ b (λ e. omega (arith, e, le)) ∙ (put_other g.bufs l.first _ b (λ e. omega (arith, e, le)) ∙ h)

own_none : (r : Role) (l : LevelTree) (g : Context) (b : ℕ) → l.first + 4 ≤ b → g.bufs b ≡ None → (with_own r l g).bufs b ≡ None
own_none Full l g b le h = h
own_none Shared l g b le h = two_none l g b le h
own_none Single l g b le h = two_none l g b le h
own_none AtPosition l g b le h = put_other g.bufs (l.first + 1) _ b (λ e. omega (arith, e, le)) ∙ h
own_none AtRank l g b le h = put_other g.bufs (l.first + 1) _ b (λ e. omega (arith, e, le)) ∙ h
own_none Counted l g b le h = h
own_none Marked l g b le h = put_other g.bufs l.first _ b (λ e. omega (arith, e, le)) ∙ h
own_none Kept l g b le h = h

two_typed : (l : LevelTree) (g h : Context) (ms : List Make) → ((d : Dim) → sees_dim g d ≡ true → sees_dim h d ≡ true) → h.bufs l.first ≡ None → h.bufs (l.first + 1) ≡ None → SeesOf g Shared l → TypedMakes (with_own Shared l h) ms → TypedMakes h (makes_of Shared l ms)
two_typed l g h ms sees p q s t =
    (p, sees l.pos_length s.0, refl, refl, (put_other h.bufs l.first _ (l.first + 1) (omega arith) ∙ q, sees_more h (words l.first l.pos_length) l.crd_length (sees l.crd_length s.1), refl, refl, t))

own_typed : (r : Role) (l : LevelTree) (g h : Context) (ms : List Make) → ((d : Dim) → sees_dim g d ≡ true → sees_dim h d ≡ true) → h.bufs l.first ≡ None → h.bufs (l.first + 1) ≡ None → SeesOf g r l → TypedMakes (with_own r l h) ms → TypedMakes h (makes_of r l ms)
own_typed Full l g h ms sees p q s t = t
own_typed Shared l g h ms sees p q s t = two_typed l g h ms sees p q s t
own_typed Single l g h ms sees p q s t = two_typed l g h ms sees p q s t
own_typed AtPosition l g h ms sees p q s t = (q, sees l.crd_length s, refl, refl, t)
own_typed AtRank l g h ms sees p q s t = (q, sees l.crd_length s, refl, refl, t)
own_typed Counted l g h ms sees p q s t = t
own_typed Marked l g h ms sees p q s t = (p, sees l.pos_length s, refl, refl, t)
own_typed Kept l g h ms sees p q s t = t

all_typed : (ls : List LevelTree) (lo n : ℕ) (g h : Context) → NamesRise lo ls n → ((d : Dim) → sees_dim g d ≡ true → sees_dim h d ≡ true) → ((b : ℕ) → lo ≤ b → h.bufs b ≡ None) → AllSeen g ls → TypedMakes h (makes ls)
all_typed [] lo n g h rise sees none s = tt
all_typed (l ∷ ls) lo n g h rise sees none s =
    own_typed l.role l g h (makes ls) sees (none l.first rise.0) (none (l.first + 1) (omega (arith, rise.0))) s.0
    (all_typed ls (l.first + 4) n g (with_own l.role l h) rise.1 (λ d t. own_sees l.role l h d (sees d t)) (λ b k. own_none l.role l h b k (none b (omega (arith, k, rise.0)))) s.1)

pub makes_typed : MakesTyped
makes_typed g lo n ls rise none s = all_typed ls lo n g g rise (λ d t. t) none s
