-- The laws of a lawful part on a matrix of the shape.
use Rattle.std.specs.Prelude.{Contains}
use Rattle.std.proofs.Common.{◌≡◌, ℕ, zero, suc, ◌<◌, ◌⊎◌, List, length, ℤ, pos, negsuc, true, false, refl, ◌∙◌, inl, inr, Some, []}
use Rattle.us_format.proofs.Order.{Mem, Mem-map}
use Rattle.us_format.proofs.Members.{contains-Mem, Mem-contains}
use Rattle.us_format.proofs.Agree.{Sound}
use Rattle.us_format.proofs.PartLaw.{top-placed, top-slots}
use Rattle.us_format.proofs.PartMeaning.{reads-at}
use Rattle.us_format.proofs.Values.{value-there}
use Rattle.us_format.proofs.RecoverLaw.{recovered-is}
use Rattle.us_format.proofs.Lawful.{sound, tables, found, is-matrix}
use Rattle.us_format.proofs.Planned.{plan-recovers}
use Rattle.us_format.specs.Coordinates.{coordinates}
use Rattle.us_format.specs.Declaration.{Part}
use Rattle.us_format.specs.Known.{given_steps}
use Rattle.us_format.specs.Lists.{cell}
use Rattle.us_format.specs.Matrix.{Entry, Shape, IsMatrixOf, is_zero}
use Rattle.us_format.specs.Positions.{row_of, rows_of}
use Rattle.us_format.specs.Rules.{IsLawful}
use Rattle.us_format.specs.Laws.{contents_of, position_of}
use Rattle.us_format.specs.Meaning.{entry_at}
use Rattle.us_format.specs.Recover.{recovered}
use Rattle.us_format_loops.proofs.Starts.{holds-levels}
use Rattle.us_format_loops.proofs.Recovery.{all-give, plan-gives}
use Rattle.us_format_loops.proofs.Ways.{range-at, own-way, only-way, way-end, way-positions, way-coordinates}
use Rattle.us_format_loops.specs.Laws.{levels_on, values_on, found_of, StartsCountNodes, HaveOneWay, EntriesHaveOneWay, IsRecovered, GiveValues, EntriesAreRecovered}

pub starts-count-nodes : StartsCountNodes
starts-count-nodes s p m la im =
    holds-levels (levels_on s p m) 1 (rows_of m s p) (top-placed m s p (sound s p m la im)) (top-slots m s p (sound s p m la im))

pub zero-is : (z : ℤ) → is_zero z ≡ true → z ≡ pos 0
zero-is (pos zero) h = refl
zero-is (pos (suc n)) h = absurd (cc)
zero-is (negsuc n) h = absurd (cc)

module _ (s : Shape) (p : Part) (m : List Entry) (la : IsLawful p) (im : IsMatrixOf s m) where
  abbrev pub so : Sound m s p
  so = sound s p m la im

  pub row-there : (x : Entry) → Contains m x → Mem (row_of m s p x) (rows_of m s p)
  row-there x cx = Mem-map (row_of m s p) x m (contains-Mem m x cx)

  pub entry-at : (y : ℕ) → y < length (values_on s p m) → (cell (values_on s p m) y ≡ pos 0 → ⊥) → (x : Entry) × Contains m x × (position_of s p m x ≡ y)
  entry-at y l n = go (reads-at m s p so (tables s p m la im) (is-matrix s p m la im) y l)
    where
      go : ((is_zero (cell (values_on s p m) y) ≡ true) × ((e : Entry) → Mem e m → position_of s p m e ≡ y → ⊥))
          ⊎ ((is_zero (cell (values_on s p m) y) ≡ false) × ((e : Entry) × Mem e m × (position_of s p m e ≡ y) × (entry_at s p (contents_of s p m) y ≡ Some e)))
          → (x : Entry) × Contains m x × (position_of s p m x ≡ y)
      go (inl h) = absurd (n (zero-is (cell (values_on s p m) y) h.0))
      go (inr h) = let e = h.1 in (e.0, Mem-contains m e.0 e.1, e.2)

  pub one-way : HaveOneWay s p m
  one-way = record {
    way = λ x cx. own-way (levels_on s p m) 1 (rows_of m s p) (row_of m s p x) (top-placed m s p so) (top-slots m s p so) (row-there x cx);
    positions = λ x k. way-positions k (levels_on s p m) (rows_of m s p) (row_of m s p x);
    end = λ x. way-end (levels_on s p m) (rows_of m s p) (row_of m s p x);
    within = λ x cx. range-at (levels_on s p m) (coordinates m s p x) ((top-placed m s p so).in_range (row_of m s p x) (row-there x cx));
    coordinates = λ x cx. way-coordinates (levels_on s p m) (rows_of m s p) (row_of m s p x) ((top-placed m s p so).in_range (row_of m s p x) (row-there x cx));
    only = λ x cx ws w e. (only-way (levels_on s p m) 1 (rows_of m s p) (row_of m s p x) (top-placed m s p so) (top-slots m s p so) (row-there x cx) 0 ws w e).1;
    value = λ x cx. value-there (levels_on s p m) 1 (rows_of m s p) (row_of m s p x) (top-placed m s p so) (top-slots m s p so) (row-there x cx);
    entry = entry-at;
  }

  pub recovers : (x : Entry) → Contains m x → IsRecovered s p m x
  recovers x cx =
      record {
        by_steps = indices;
        by_plan = plan-recovers s p (found_of s p m x) ∙ indices;
        steps = all;
        plan = plan-gives s p m x (given_steps p.levels p.queries (length p.levels)) [] [] all;
      }
    where
      mx : Mem x m
      mx = contains-Mem m x cx

      indices : recovered s p (found_of s p m x) ≡ Some (pos x.i, pos x.j)
      indices = recovered-is m s p so x mx (found_of s p m x) (found s p m la im x mx)

      all : GiveValues s p m x [] (given_steps p.levels p.queries (length p.levels))
      all = all-give s p m so x mx (found s p m la im x mx)

pub entries-have-one-way : EntriesHaveOneWay
entries-have-one-way s p m la im = one-way s p m la im

pub entries-are-recovered : EntriesAreRecovered
entries-are-recovered s p m la im x cx = recovers s p m la im x cx
