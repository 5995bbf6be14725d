-- What is visible behind the phases.
use Rattle.std.proofs.Common.{◌≡◌, ◌≢◌, ℕ, ◌+◌, ◌*◌, ◌<◌, ◌≤◌, List, [], ◌∷◌, ◌++◌, length, Bool, true, false, not, ◌||◌, nat_eq, refl, sym, ap, ◌∙◌, subst, arith, Option, Some, None}
use Rattle.std.proofs.lemmas.Bool.Decides.{nat_tests}
use Rattle.us_code.specs.declared.program.Dim.{Dim}
use Rattle.us_code.specs.Plain.{LineTree, Of, Product, Successor, Code, End, Let, Load, Var, Put, Set, For, Span, If, When, Order}
use Rattle.us_code.specs.Typing.{Context, BufKind, Form, is_some, with_reg, with_buf, with_form, with_bufs, with_line, with_lines, outer, after_phase, is_listed, are_distinct, sees_all, kind_of, cell_of}
use Rattle.us_code.specs.Typing as form
use Rattle.us_code.specs.declared.program.CellKind.TheVariants as kind
use Rattle.us_code_laws.proofs.Sequence.{put_other}
use Rattle.us_code_laws.proofs.Sound.{both_true}
use Rattle.us_format.specs.declared.Kind.{Kind}
use Rattle.us_format.specs.declared.Kind.TheVariants.{Full, Compressed, Listed, Slot}
use Rattle.us_gen_build.specs.declared.levels.Role.{Role}
use Rattle.us_gen_build.specs.declared.levels.Role.TheVariants as role
use Rattle.us_gen_build.specs.Levels.{LevelTree, one_more}
use Rattle.us_gen_build.specs.Kinds.{NamesRise}
use Rattle.us_gen_build.specs.Making.{words, makes}
use Rattle.us_gen_build.proofs.BlockTyped.{rise_up}
use Rattle.us_gen_building.specs.declared.part.PartLevel.{PartLevel}
use Rattle.us_gen_building.specs.declared.part.Descent.{Descent}
use Rattle.us_gen_building.specs.Levels.{are_last, deeper, start_line, level_lines, dim_lines}
use Rattle.us_gen_building.specs.Phases.{dims_from, built_from, ends_from, order_makes, counting_top, building_top, all_built, counting_phase, building_phase, level_buffers, all_buffers}
use Rattle.us_gen_building.specs.Kinds.{BuildingsLeave}
use Rattle.us_gen_building.proofs.Building.{built_rise}
use Rattle.us_gen_building.proofs.BuildingFits.{own, own_is, MadeOf, AllMade, keeps_dims, keeps_sources, made_below, all_made}

-- ---- a block changes registers alone

pub record SameRest (g h : Context) : Type 0 where
  pub bufs : h.bufs ≡ g.bufs
  pub dims : h.dims ≡ g.dims
  pub sources : h.sources ≡ g.sources

pub outer_rest : (g : Context) (c : Code) → SameRest g (outer g c)
outer_rest g End = record { bufs = refl; dims = refl; sources = refl }
outer_rest g (Let r e rest) = let s = outer_rest (with_reg g r false (kind_of g e)) rest in record { bufs = s.bufs; dims = s.dims; sources = s.sources }
outer_rest g (Load r b at rest) = let s = outer_rest (with_reg g r false (cell_of g b)) rest in record { bufs = s.bufs; dims = s.dims; sources = s.sources }
outer_rest g (Var r e rest) = let s = outer_rest (with_reg g r true kind.Word) rest in record { bufs = s.bufs; dims = s.dims; sources = s.sources }
outer_rest g (Put r e rest) = outer_rest g rest
outer_rest g (Set b at e rest) = outer_rest g rest
outer_rest g (For r d body rest) = outer_rest g rest
outer_rest g (Span r a b d body rest) = outer_rest g rest
outer_rest g (If l eq r body given other rest) = outer_rest g rest
outer_rest g (When e d r body given other rest) = outer_rest g rest
outer_rest g (Order b keys rest) = outer_rest g rest

line_bufs : (g : Context) (l : LineTree) → (with_line g l).bufs ≡ g.bufs
line_bufs g (Of d e) = refl
line_bufs g (Product d a b) = refl
line_bufs g (Successor d a) = refl

pub lines_bufs : (ls : List LineTree) (g : Context) → (with_lines g ls).bufs ≡ g.bufs
lines_bufs [] g = refl
lines_bufs (l ∷ ls) g = lines_bufs ls (with_line g l) ∙ line_bufs g l

line_sources : (g : Context) (l : LineTree) → (with_line g l).sources ≡ g.sources
line_sources g (Of d e) = refl
line_sources g (Product d a b) = refl
line_sources g (Successor d a) = refl

pub lines_sources : (ls : List LineTree) (g : Context) → (with_lines g ls).sources ≡ g.sources
lines_sources [] g = refl
lines_sources (l ∷ ls) g = lines_sources ls (with_line g l) ∙ line_sources g l

-- ---- the dims of the levels

-- a number that is none of the dims of a level
record IsOther (x : Descent) (d : ℕ) : Type 0 where
  pub starts : x.dims ≢ d
  pub number : x.dims + 1 ≢ d

start_other : (top : Bool) (x : Descent) (d : ℕ) (rest : List LineTree) (g : Context) → IsOther x d → ((h : Context) → (with_lines h rest).dims d ≡ h.dims d) → (with_lines g (start_line top x rest)).dims d ≡ g.dims d
start_other true x d rest g o e = e g
start_other false x d rest g o e = e (with_form g x.dims (form.Successor x.above)) ∙ put_other g.dims x.dims _ d o.starts

level_other : (k : Kind) (last : Bool) (size : Dim) (x : Descent) (d : ℕ) (rest : List LineTree) (g : Context) → IsOther x d → ((h : Context) → (with_lines h rest).dims d ≡ h.dims d) → (with_lines g (level_lines k last size x rest)).dims d ≡ g.dims d
level_other Full last size x d rest g o e = e (with_form g (x.dims + 1) (form.Product x.above size)) ∙ put_other g.dims (x.dims + 1) _ d o.number
level_other Compressed true size x d rest g o e = start_other x.is_top x d rest g o e
level_other Compressed false size x d rest g o e = start_other x.is_top x d (Of (x.dims + 1) (one_more (x.first + 1)) ∷ rest) g o (λ h. e (with_form h (x.dims + 1) form.Of) ∙ put_other h.dims (x.dims + 1) _ d o.number)
level_other Listed last size x d rest g o e = start_other x.is_top x d rest g o e
level_other Slot last size x d rest g o e = e g

pub lines_other : (count : ℕ) (ls : List PartLevel) (x : Descent) (d : ℕ) (g : Context) → (x.dims ≤ d → x.dims + 2 * length ls ≤ d) → (with_lines g (dim_lines count ls x)).dims d ≡ g.dims d
lines_other count [] x d g o = refl
lines_other count (l ∷ ls) x d g o =
    level_other l.kind (are_last ls) l.size x d (dim_lines count ls (deeper count l (are_last ls) x)) g record { starts = λ e. let z = o (omega (arith, e)) in omega (arith, z, e); number = λ e. let z = o (omega (arith, e)) in omega (arith, z, e) }
    (λ h. lines_other count ls (deeper count l (are_last ls) x) d h (λ e. let z = o (omega (arith, e)) in omega (arith, z)))

-- ---- new buffers

own_above : (r : Role) (l : LevelTree) (g : Context) (b : ℕ) → l.first + 4 ≤ b → (own r l g).bufs b ≡ g.bufs b
own_above role.Full l g b le = refl
own_above role.Shared l g b le = put_other (with_buf g (words l.first l.pos_length)).bufs (l.first + 1) _ b (λ e. omega (arith, e, le)) ∙ put_other g.bufs l.first _ b (λ e. omega (arith, e, le))
own_above role.Single l g b le = put_other (with_buf g (words l.first l.pos_length)).bufs (l.first + 1) _ b (λ e. omega (arith, e, le)) ∙ put_other g.bufs l.first _ b (λ e. omega (arith, e, le))
own_above role.AtPosition l g b le = put_other g.bufs (l.first + 1) _ b (λ e. omega (arith, e, le))
own_above role.AtRank l g b le = put_other g.bufs (l.first + 1) _ b (λ e. omega (arith, e, le))
own_above role.Counted l g b le = refl
own_above role.Marked l g b le = put_other g.bufs l.first _ b (λ e. omega (arith, e, le))
own_above role.Kept l g b le = refl

pub made_above : (ls : List LevelTree) (lo n : ℕ) (g : Context) (b : ℕ) → NamesRise lo ls n → n ≤ b → (with_bufs g (makes ls)).bufs b ≡ g.bufs b
made_above [] lo n g b h le = refl
made_above (l ∷ ls) lo n g b h le =
    ap (λ (k : Context). k.bufs b) (own_is l.role l g (makes ls)) ∙ (made_above ls (l.first + 4) n (own l.role l g) b h.1 le ∙ own_above l.role l g b (omega (arith, rise_up ls (l.first + 4) n h.1, le)))

-- ---- the buffers of the levels

level_seen : (k : Context) (r : Role) (l : LevelTree) (rest : List ℕ) → MadeOf r l k.bufs → sees_all k rest ≡ true → sees_all k (level_buffers r l.first ++ rest) ≡ true
level_seen k role.Full l rest m s = s
level_seen k role.Shared l rest m s = both_true _ _ (ap is_some m.0) (both_true _ _ (ap is_some m.1) s)
level_seen k role.Single l rest m s = both_true _ _ (ap is_some m.0) (both_true _ _ (ap is_some m.1) s)
level_seen k role.AtPosition l rest m s = both_true _ _ (ap is_some m) s
level_seen k role.AtRank l rest m s = both_true _ _ (ap is_some m) s
level_seen k role.Counted l rest m s = s
level_seen k role.Marked l rest m s = both_true _ _ (ap is_some m) s
level_seen k role.Kept l rest m s = s

pub all_seen : (k : Context) (ls : List LevelTree) → AllMade ls k.bufs → sees_all k (all_buffers ls) ≡ true
all_seen k [] m = refl
all_seen k (l ∷ ls) m = level_seen k l.role l (all_buffers ls) m.0 (all_seen k ls m.1)

-- a number that is listed is from lo to n
abbrev pub Within : ℕ → ℕ → List ℕ → Type 0
Within lo n bs = (b : ℕ) → is_listed b bs ≡ true → (lo ≤ b) × (b < n)

pub one_within : (lo n b : ℕ) (bs : List ℕ) → lo ≤ b → b < n → Within lo n bs → Within lo n (b ∷ bs)
one_within lo n b bs h g w c e = case (nat_eq c b) refl e
  where
    case : (t : Bool) → nat_eq c b ≡ t → t || is_listed c bs ≡ true → (lo ≤ c) × (c < n)
    case true q f = let s : c ≡ b = grind (arith, nat_tests) in (omega (arith, s, h), omega (arith, s, g))
    case false q f = w c f

pub within_more : (lo lower n : ℕ) (bs : List ℕ) → lower ≤ lo → Within lo n bs → Within lower n bs
within_more lo lower n bs le w b e = let z = w b e in (omega (arith, z.0, le), z.1)

level_listed : (r : Role) (lo n first : ℕ) (rest : List ℕ) → lo ≤ first → first + 4 ≤ n → Within lo n rest → Within lo n (level_buffers r first ++ rest)
level_listed role.Full lo n first rest h g w = w
level_listed role.Shared lo n first rest h g w = one_within lo n first ((first + 1) ∷ rest) h (omega (arith, g)) (one_within lo n (first + 1) rest (omega (arith, h)) (omega (arith, g)) w)
level_listed role.Single lo n first rest h g w = one_within lo n first ((first + 1) ∷ rest) h (omega (arith, g)) (one_within lo n (first + 1) rest (omega (arith, h)) (omega (arith, g)) w)
level_listed role.AtPosition lo n first rest h g w = one_within lo n (first + 1) rest (omega (arith, h)) (omega (arith, g)) w
level_listed role.AtRank lo n first rest h g w = one_within lo n (first + 1) rest (omega (arith, h)) (omega (arith, g)) w
level_listed role.Counted lo n first rest h g w = w
level_listed role.Marked lo n first rest h g w = one_within lo n first rest h (omega (arith, g)) w
level_listed role.Kept lo n first rest h g w = w

pub all_listed : (ls : List LevelTree) (lo n : ℕ) → NamesRise lo ls n → Within lo n (all_buffers ls)
all_listed [] lo n h = λ b e. absurd cc
all_listed (l ∷ ls) lo n h =
    level_listed l.role lo n l.first (all_buffers ls) h.0 (rise_up ls (l.first + 4) n h.1) (within_more (l.first + 4) lo n (all_buffers ls) (omega (arith, h.0)) (all_listed ls (l.first + 4) n h.1))

pub not_listed : (lo n b : ℕ) (bs : List ℕ) → Within lo n bs → b < lo → is_listed b bs ≡ false
not_listed lo n b bs w lt = case (is_listed b bs) refl
  where
    case : (t : Bool) → is_listed b bs ≡ t → t ≡ false
    case true e = absurd (omega (arith, (w b e).0, lt))
    case false e = refl

pub one_new : (lo n b : ℕ) (bs : List ℕ) → Within lo n bs → b < lo → are_distinct bs ≡ true → are_distinct (b ∷ bs) ≡ true
one_new lo n b bs w lt d = both_true _ _ (ap not (not_listed lo n b bs w lt)) d

pub level_new : (r : Role) (n first : ℕ) (rest : List ℕ) → first + 4 ≤ n → Within (first + 4) n rest → are_distinct rest ≡ true → are_distinct (level_buffers r first ++ rest) ≡ true
level_new role.Full n first rest g w d = d
level_new role.Shared n first rest g w d = one_new (first + 1) n first ((first + 1) ∷ rest) (one_within (first + 1) n (first + 1) rest (omega arith) (omega (arith, g)) (within_more (first + 4) (first + 1) n rest (omega arith) w)) (omega arith) (one_new (first + 4) n (first + 1) rest w (omega arith) d)
level_new role.Single n first rest g w d = one_new (first + 1) n first ((first + 1) ∷ rest) (one_within (first + 1) n (first + 1) rest (omega arith) (omega (arith, g)) (within_more (first + 4) (first + 1) n rest (omega arith) w)) (omega arith) (one_new (first + 4) n (first + 1) rest w (omega arith) d)
level_new role.AtPosition n first rest g w d = one_new (first + 4) n (first + 1) rest w (omega arith) d
level_new role.AtRank n first rest g w d = one_new (first + 4) n (first + 1) rest w (omega arith) d
level_new role.Counted n first rest g w d = d
level_new role.Marked n first rest g w d = one_new (first + 4) n first rest w (omega arith) d
level_new role.Kept n first rest g w d = d

pub all_new : (ls : List LevelTree) (lo n : ℕ) → NamesRise lo ls n → are_distinct (all_buffers ls) ≡ true
all_new [] lo n h = refl
all_new (l ∷ ls) lo n h = level_new l.role n l.first (all_buffers ls) (rise_up ls (l.first + 4) n h.1) (all_listed ls (l.first + 4) n h.1) (all_new ls (l.first + 4) n h.1)

-- ---- the phases

pub order_bufs : (g : Context) (keys : Option ℕ) (f count b : ℕ) → f ≢ b → (with_bufs g (order_makes keys f count)).bufs b ≡ g.bufs b
order_bufs g None f count b n = refl
order_bufs g (Some k) f count b n = put_other g.bufs f _ b n

pub buildings_leave : BuildingsLeave
buildings_leave g x f r =
    let n : ℕ = length x.levels.items in
    let lo : ℕ = built_from f n in
    let e : ℕ = ends_from f n in
    let p : Context = with_bufs g (order_makes x.keys f x.count) in
    let q : Context = outer p (counting_phase x f).body in
    let h : Context = after_phase g (counting_phase x f) in
    let trees : List LevelTree = all_built x f in
    let u : Context = with_bufs h (makes trees) in
    let k : Context = after_phase h (building_phase x f) in
    let rise : NamesRise lo trees e = built_rise x.count x.levels.items (building_top x f) e (omega arith) in
    let sp : SameRest p q = outer_rest p (counting_phase x f).body in
    let sk : SameRest u k = let s = outer_rest u (building_phase x f).body in record { bufs = s.bufs; dims = s.dims; sources = s.sources } in
    let bufs_h : (b : ℕ) → f ≢ b → h.bufs b ≡ g.bufs b = λ b ne. ap (λ (y : ℕ → Option BufKind). y b) (lines_bufs (counting_phase x f).lines q ∙ sp.bufs) ∙ order_bufs g x.keys f x.count b ne in
    let dims_h : (d : ℕ) → (dims_from f n ≤ d → dims_from f n + 2 * n ≤ d) → h.dims d ≡ g.dims d = λ d o. lines_other x.count x.levels.items (counting_top x f) d q o ∙ ap (λ (y : ℕ → Option Form). y d) (sp.dims ∙ keeps_dims (order_makes x.keys f x.count) g) in
    let dims_k : (d : ℕ) → k.dims d ≡ h.dims d = λ d. ap (λ (y : ℕ → Option Form). y d) (sk.dims ∙ keeps_dims (makes trees) h) in
    let bufs_k : (b : ℕ) → k.bufs b ≡ u.bufs b = λ b. ap (λ (y : ℕ → Option BufKind). y b) sk.bufs in
    let listed = all_listed trees lo e rise in
    record {
      free = record {
        regs = record { none = λ y le. refl };
        bufs = λ b le. bufs_k b ∙ (made_above trees lo e h b rise (omega (arith, le)) ∙ (bufs_h b (λ s. omega (arith, s, le)) ∙ r.bufs b (omega (arith, le))));
        dims = λ d le. dims_k d ∙ (dims_h d (λ s. omega (arith, le)) ∙ r.dims d (omega (arith, le)));
      };
      sources = sk.sources ∙ (keeps_sources (makes trees) h ∙ (lines_sources (counting_phase x f).lines q ∙ (sp.sources ∙ keeps_sources (order_makes x.keys f x.count) g)));
      bufs = λ b lt. bufs_k b ∙ (made_below trees lo e h b rise (omega (arith, lt)) ∙ bufs_h b (λ s. omega (arith, s, lt)));
      dims = λ d lt. dims_k d ∙ dims_h d (λ s. absurd (omega (arith, s, lt)));
      buffers = all_seen k trees (subst (λ (y : ℕ → Option BufKind). AllMade trees y) (sym sk.bufs) (all_made trees lo e h rise));
      once = all_new trees lo e rise;
      own = λ b s. let z = listed b s in (omega (arith, z.0), omega (arith, z.1));
    }
