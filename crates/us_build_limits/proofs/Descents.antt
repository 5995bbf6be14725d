-- Levels on the way down, their new lines and their dims keep the limits.
use Rattle.std.proofs.Common.{◌≡◌, ℕ, zero, suc, ◌+◌, ◌*◌, ◌^◌, ◌<◌, ◌≤◌, Bool, true, false, List, [], ◌∷◌, ◌++◌, take, length, Option, Some, None, refl, lit<, lit≤, arith}
use Rattle.us_code.specs.declared.program.Dim.{Dim}
use Rattle.us_code.specs.declared.program.Dim.TheVariants as dim
use Rattle.us_code.specs.declared.program.Make.{Make}
use Rattle.us_code.specs.Plain.{LineTree, Of}
use Rattle.us_code.specs.Limits.{FitsDim, FitsMakes, FitsLines}
use Rattle.us_format.specs.declared.Kind.{Kind}
use Rattle.us_format.specs.declared.Kind.TheVariants.{Full, Compressed, Listed, Slot}
use Rattle.us_gen_build.specs.declared.levels.Role.{Role}
use Rattle.us_gen_build.specs.declared.levels.Role.TheVariants as role
use Rattle.us_gen_build.specs.Levels.{LevelTree, one_more}
use Rattle.us_gen_build.specs.Making.{makes_of, makes}
use Rattle.us_gen_build.specs.Orders.{key_bufs}
use Rattle.us_gen_building.specs.declared.part.PartLevel.{PartLevel}
use Rattle.us_gen_building.specs.declared.part.Descent.{Descent}
use Rattle.us_gen_building.specs.Levels.{are_last, columns, positions, starts, deeper, built_level, built_levels, counted_levels, start_line, level_lines, dim_lines}
use Rattle.us_gen_building.specs.Phases.{order_code, count_code, first_column}
use Rattle.us_gen_pack_building.specs.declared.part.PackRun.{PackRun}
use Rattle.us_gen_pack_building.specs.Levels.{is_packed, packed_role, in_role, value_levels, packed_levels, bottom}
use Rattle.us_limits.specs.Small.{Small}
use Rattle.us_limits.proofs.Terms.{number-small, register-small, size-small}
use Rattle.us_limits.proofs.Blocks.{block-looser}
use Rattle.us_query_limits.proofs.Words as words
use Rattle.us_build_limits.specs.Texts.{SizesFit, KeysFit}
use Rattle.us_build_limits.proofs.Blocks.{IsFit, AreFit, build-keeps}

-- on the way down to n levels
pub record HasRoom (x : Descent) (n : ℕ) : Type 0 where
  pub above : FitsDim x.above
  pub dims : x.dims + 2 * n < 2 ^ 32

positions-fit : (k : Kind) (last : Bool) (count : ℕ) (above : Dim) (name : ℕ) → count < 2 ^ 32 → FitsDim above → name < 2 ^ 32 → FitsDim (positions k last count above name)
positions-fit Full last count above name h f g = g
positions-fit Compressed true count above name h f g = h
positions-fit Compressed false count above name h f g = g
positions-fit Listed last count above name h f g = h
positions-fit Slot last count above name h f g = f

starts-fit : (top : Bool) (name : ℕ) → name < 2 ^ 32 → FitsDim (starts top name)
starts-fit true name h = lit< tt
starts-fit false name h = h

deeper-room : (count : ℕ) (l : PartLevel) (last : Bool) (x : Descent) (n : ℕ) → count < 2 ^ 32 → HasRoom x (suc n) → HasRoom (deeper count l last x) n
deeper-room count l last x n h r = record { above = positions-fit l.kind last count x.above (x.dims + 1) h r.above (omega (arith, r.dims)); dims = omega (arith, r.dims) }

-- ---- levels

level-fits : (count : ℕ) (l : PartLevel) (last : Bool) (x : Descent) (n : ℕ) → count < 2 ^ 32 → FitsDim l.size → HasRoom x (suc n) → IsFit (built_level count l last x)
level-fits count l last x n h f r = record {
  size = size-small l.size f;
  coord = register-small;
  pos_length = starts-fit x.is_top x.dims (omega (arith, r.dims));
  crd_length = positions-fit l.kind last count x.above (x.dims + 1) h r.above (omega (arith, r.dims));
}

role-fits : (r : Role) (l : LevelTree) → IsFit l → IsFit (in_role r l)
role-fits r l f = record { size = f.size; coord = f.coord; pos_length = f.pos_length; crd_length = f.crd_length }

value-fits : (packed : Bool) (x : Descent) → FitsDim x.above → AreFit (value_levels packed x)
value-fits true x f = tt
value-fits false x f = (record { size = number-small (lit< tt); coord = register-small; pos_length = lit< tt; crd_length = f }, tt)

value-few : (packed : Bool) (x : Descent) → length (value_levels packed x) ≤ 1
value-few true x = lit≤ tt
value-few false x = lit≤ tt

pub packed-fit : (count : ℕ) (rs : List PackRun) (k : ℕ) (ls : List PartLevel) (x : Descent) → count < 2 ^ 32 → SizesFit ls → HasRoom x (length ls) → AreFit (packed_levels count rs k ls x)
packed-fit count rs k [] x h f r = value-fits (is_packed rs k) x r.above
packed-fit count rs k (l ∷ ls) x h f r = (
  role-fits (packed_role (is_packed rs k) l.kind (are_last ls) (built_level count l (are_last ls) x).role) (built_level count l (are_last ls) x) (level-fits count l (are_last ls) x (length ls) h f.0 r),
  packed-fit count rs (k + 1) ls (deeper count l (are_last ls) x) h f.1 (deeper-room count l (are_last ls) x (length ls) h r),
)

pub packed-few : (count : ℕ) (rs : List PackRun) (k : ℕ) (ls : List PartLevel) (x : Descent) → length (packed_levels count rs k ls x) ≤ length ls + 1
packed-few count rs k [] x = omega (arith, value-few (is_packed rs k) x)
packed-few count rs k (l ∷ ls) x = omega (arith, packed-few count rs (k + 1) ls (deeper count l (are_last ls) x))

pub built-fit : (count : ℕ) (ls : List PartLevel) (x : Descent) → count < 2 ^ 32 → SizesFit ls → HasRoom x (length ls) → AreFit (built_levels count ls x)
built-fit count [] x h f r = value-fits false x r.above
built-fit count (l ∷ ls) x h f r = (level-fits count l (are_last ls) x (length ls) h f.0 r, built-fit count ls (deeper count l (are_last ls) x) h f.1 (deeper-room count l (are_last ls) x (length ls) h r))

pub built-long : (count : ℕ) (ls : List PartLevel) (x : Descent) → length (built_levels count ls x) ≡ length ls + 1
built-long count [] x = omega arith
built-long count (l ∷ ls) x = omega (arith, built-long count ls (deeper count l (are_last ls) x))

pub bottom-fits : (count : ℕ) (ls : List PartLevel) (x : Descent) → count < 2 ^ 32 → HasRoom x (length ls) → FitsDim (bottom count ls x).above
bottom-fits count [] x h r = r.above
bottom-fits count (l ∷ ls) x h r = bottom-fits count ls (deeper count l (are_last ls) x) h (deeper-room count l (are_last ls) x (length ls) h r)

counted-fit : (ls : List PartLevel) (first register : ℕ) → SizesFit ls → AreFit (counted_levels ls first register)
counted-fit [] first register f = tt
counted-fit (l ∷ ls) first register f = (record { size = size-small l.size f.0; coord = register-small; pos_length = lit< tt; crd_length = lit< tt }, counted-fit ls (first + 4) (register + 1) f.1)

counted-long : (ls : List PartLevel) (first register : ℕ) → length (counted_levels ls first register) ≡ length ls
counted-long [] first register = refl
counted-long (l ∷ ls) first register = omega (arith, counted-long ls (first + 4) (register + 1))

-- ---- new lines

makes-of-fit : (r : Role) (l : LevelTree) (rest : List Make) → IsFit l → FitsMakes rest → FitsMakes (makes_of r l rest)
makes-of-fit role.Full l rest f g = g
makes-of-fit role.Shared l rest f g = (f.pos_length, tt, (f.crd_length, tt, g))
makes-of-fit role.Single l rest f g = (f.pos_length, tt, (f.crd_length, tt, g))
makes-of-fit role.AtPosition l rest f g = (f.crd_length, tt, g)
makes-of-fit role.AtRank l rest f g = (f.crd_length, tt, g)
makes-of-fit role.Counted l rest f g = g
makes-of-fit role.Marked l rest f g = (f.pos_length, tt, g)
makes-of-fit role.Kept l rest f g = g

makes-of-few : (r : Role) (l : LevelTree) (rest : List Make) → length (makes_of r l rest) ≤ 2 + length rest
makes-of-few role.Full l rest = omega arith
makes-of-few role.Shared l rest = omega arith
makes-of-few role.Single l rest = omega arith
makes-of-few role.AtPosition l rest = omega arith
makes-of-few role.AtRank l rest = omega arith
makes-of-few role.Counted l rest = omega arith
makes-of-few role.Marked l rest = omega arith
makes-of-few role.Kept l rest = omega arith

pub makes-fit : (ls : List LevelTree) → AreFit ls → FitsMakes (makes ls)
makes-fit [] f = tt
makes-fit (l ∷ ls) f = makes-of-fit l.role l (makes ls) f.0 (makes-fit ls f.1)

pub makes-few : (ls : List LevelTree) → length (makes ls) ≤ 2 * length ls
makes-few [] = omega arith
makes-few (l ∷ ls) = omega (arith, makes-of-few l.role l (makes ls), makes-few ls)

pub makes-append : (a b : List Make) → FitsMakes a → FitsMakes b → FitsMakes (a ++ b)
makes-append [] b f g = g
makes-append (m ∷ ms) b f g = (f.0, f.1, makes-append ms b f.2 g)

-- ---- dims

start-fits : (top : Bool) (x : Descent) (rest : List LineTree) → FitsDim x.above → FitsLines rest → FitsLines (start_line top x rest)
start-fits true x rest f g = g
start-fits false x rest f g = (f, g)

start-few : (top : Bool) (x : Descent) (rest : List LineTree) → length (start_line top x rest) ≤ 1 + length rest
start-few true x rest = omega arith
start-few false x rest = omega arith

level-lines-fit : (k : Kind) (last : Bool) (size : Dim) (x : Descent) (rest : List LineTree) → FitsDim size → FitsDim x.above → FitsLines rest → FitsLines (level_lines k last size x rest)
level-lines-fit Full last size x rest f g h = ((g, f), h)
level-lines-fit Compressed true size x rest f g h = start-fits x.is_top x rest g h
level-lines-fit Compressed false size x rest f g h = start-fits x.is_top x _ g (words.one-more, h)
level-lines-fit Listed last size x rest f g h = start-fits x.is_top x rest g h
level-lines-fit Slot last size x rest f g h = h

level-lines-few : (k : Kind) (last : Bool) (size : Dim) (x : Descent) (rest : List LineTree) → length (level_lines k last size x rest) ≤ 2 + length rest
level-lines-few Full last size x rest = omega arith
level-lines-few Compressed true size x rest = omega (arith, start-few x.is_top x rest)
level-lines-few Compressed false size x rest = omega (arith, start-few x.is_top x (Of (x.dims + 1) (one_more (x.first + 1)) ∷ rest))
level-lines-few Listed last size x rest = omega (arith, start-few x.is_top x rest)
level-lines-few Slot last size x rest = omega arith

pub lines-fit : (count : ℕ) (ls : List PartLevel) (x : Descent) → count < 2 ^ 32 → SizesFit ls → HasRoom x (length ls) → FitsLines (dim_lines count ls x)
lines-fit count [] x h f r = tt
lines-fit count (l ∷ ls) x h f r =
    level-lines-fit l.kind (are_last ls) l.size x (dim_lines count ls (deeper count l (are_last ls) x)) f.0 r.above
    (lines-fit count ls (deeper count l (are_last ls) x) h f.1 (deeper-room count l (are_last ls) x (length ls) h r))

pub lines-few : (count : ℕ) (ls : List PartLevel) (x : Descent) → length (dim_lines count ls x) ≤ 2 * length ls
lines-few count [] x = omega arith
lines-few count (l ∷ ls) x =
    let d = deeper count l (are_last ls) x in
    omega (arith, level-lines-few l.kind (are_last ls) l.size x (dim_lines count ls d), lines-few count ls d)

pub lines-append : (a b : List LineTree) → FitsLines a → FitsLines b → FitsLines (a ++ b)
lines-append [] b f g = g
lines-append (l ∷ ls) b f g = (f.0, lines-append ls b f.1 g)

-- ---- the order and the counts

pub sizes-take : (k : ℕ) (ls : List PartLevel) → SizesFit ls → SizesFit (take k ls)
sizes-take zero ls f = tt
sizes-take (suc k) [] f = tt
sizes-take (suc k) (l ∷ ls) f = (f.0, sizes-take k ls f.1)

pub take-few : (k : ℕ) (ls : List PartLevel) → length (take k ls) ≤ length ls
take-few zero ls = omega arith
take-few (suc k) [] = omega arith
take-few (suc k) (l ∷ ls) = omega (arith, take-few k ls)

take-some : (k : ℕ) (ls : List PartLevel) → 1 ≤ k → 1 ≤ length ls → 1 ≤ length (take k ls)
take-some zero ls h g = absurd (omega (arith, h))
take-some (suc k) [] h g = absurd (omega (arith, g))
take-some (suc k) (l ∷ ls) h g = omega arith

pub columns-long : (ls : List PartLevel) → length (columns ls) ≡ length ls
columns-long [] = refl
columns-long (l ∷ ls) = omega (arith, columns-long ls)

keys-long : (ls : List PartLevel) → length (key_bufs (columns ls)) ≡ length ls
keys-long [] = refl
keys-long (l ∷ ls) = omega (arith, keys-long ls)

pub order-keeps : (keys : Option ℕ) (ls : List PartLevel) (f : ℕ) → KeysFit keys ls → length ls ≤ 60 → Small 1 5 (order_code keys ls f)
order-keeps None ls f h few = record { terms = tt; deep = lit≤ tt; long = lit≤ tt }
order-keeps (Some k) ls f h few = record {
  terms = (omega (arith, keys-long (take k ls), take-some k ls h.0 h.1), omega (arith, keys-long (take k ls), take-few k ls, few), tt);
  deep = lit≤ tt;
  long = lit≤ tt;
}

pub counts-keep : (count : ℕ) (order : Option ℕ) (ls : List PartLevel) (a first end : ℕ) → count < 2 ^ 32 → SizesFit ls → length ls ≤ 60 → Small (16 * length ls + 2) 5 (count_code count order ls a first end)
counts-keep count order [] a first end h f few = record { terms = tt; deep = lit≤ tt; long = omega arith }
counts-keep count order (l ∷ ls) a first end h f few =
    let r = first_column order a in
    let long = counted-long (l ∷ ls) first r in
    block-looser (omega (arith, long, columns-long (l ∷ ls))) (lit≤ tt)
    (build-keeps (dim.Name count) order (columns (l ∷ ls)) (counted_levels (l ∷ ls) first r) a end h (counted-fit (l ∷ ls) first r f) (omega (arith, long, few)))
