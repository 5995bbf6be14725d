-- Columns one behind the other.
use Rattle.std.proofs.Common.{◌≡◌, ℕ, ◌+◌, ◌<◌, ◌≤◌, List, [], ◌∷◌, ◌++◌, map, length, get_or, take, drop, cond, eqb, ℤ, pos, sym, refl, ap, ap₂, ◌∙◌, All, add-one, drop-cons}
use Rattle.std.proofs.lemmas.List.{get_or-map, map_more, take_all}
use Rattle.std.proofs.lemmas.Simd.{map-map}
use Rattle.us_expr.specs.declared.queries.Axis.{Axis}
use Rattle.us_expr.specs.declared.queries.Axis.TheVariants.{Rows, Cols}
use Rattle.us_matrix.specs.Map.{Map, IsMatrix}
use Rattle.us_matrix.specs.declared.matrix.Triple.{Triple}
use Rattle.us_format.specs.Matrix.{Entry, index_at, indices}
use Rattle.us_format.specs.Program.{entries_in, plain_entries, plain_entry, shape_in}
use Rattle.us_format.proofs.FromProgram.{program-matrix}
use Rattle.us_variables.specs.declared.columns.Column.{Column}
use Rattle.us_variables.specs.Columns.{value_or}

pub value-append : (cs ds : List Column) (v k : ℕ) (r : ℤ) → value_or (cs ++ ds) v k r ≡ value_or cs v k (value_or ds v k r)
value-append [] ds v k r = refl
value-append (c ∷ cs) ds v k r = ap (λ (z : ℤ). cond (eqb c.var v) (pos (get_or c.numbers.items k 0)) z) (value-append cs ds v k r)

-- a column more, which has a number for each entry
pub one-more : (m : List Entry) (f : Entry → ℕ) (old now : List Column) (c : Column) (v k : ℕ) (d : Entry) (r : ℤ) → k < length m → now ≡ old ++ c ∷ [] → get_or c.numbers.items k 0 ≡ f (get_or m k d)
    → value_or now v k r ≡ value_or old v k (cond (eqb c.var v) (pos (f (get_or m k d))) r)
one-more m f old now c v k d r l e q =
    ap (λ (cs : List Column). value_or cs v k r) e ∙ value-append old (c ∷ []) v k r ∙ ap (λ (n : ℕ). value_or old v k (cond (eqb c.var v) (pos n) r)) q

pub number-of : (m : List Entry) (f : Entry → ℕ) (ns : List ℕ) (k : ℕ) (d : Entry) → k < length m → ns ≡ map f m → get_or ns k 0 ≡ f (get_or m k d)
number-of m f ns k d l q = ap (λ (xs : List ℕ). get_or xs k 0) q ∙ get_or-map f m k d 0 l

pub column-more : (f : Entry → ℕ) (ts : List Triple) (k : ℕ) (d : Triple) (items now : List ℕ) (n : ℕ) → k < length ts → items ≡ map (λ t. f (plain_entry t)) (take k ts) → now ≡ items ++ n ∷ [] → n ≡ f (plain_entry (get_or ts k d))
    → now ≡ map (λ t. f (plain_entry t)) (take (k + 1) ts)
column-more f ts k d items now n l i q e = q ∙ ap₂ (λ (xs : List ℕ) (x : ℕ). xs ++ x ∷ []) i e ∙ sym (map_more (λ (t : Triple). f (plain_entry t)) ts k d l)

pub column-end : (f : Entry → ℕ) (m : Map) (ts : List Triple) (k : ℕ) (items : List ℕ) → length ts ≤ k → ts ≡ m.entries → items ≡ map (λ t. f (plain_entry t)) (take k ts) → items ≡ map f (entries_in m)
column-end f m ts k items l e i =
    i ∙ ap (λ (xs : List Triple). map (λ t. f (plain_entry t)) xs) (take_all k ts l) ∙ sym (map-map f plain_entry ts) ∙ ap (λ (xs : List Triple). map f (plain_entries xs)) e

pub inside-axis : (axis : Axis) (m : Map) → IsMatrix m → All (λ x. index_at axis x < indices axis (shape_in m)) (entries_in m)
inside-axis Rows m h = (program-matrix m h).rows
inside-axis Cols m h = (program-matrix m h).cols

-- what is looked up behind a column
pub column-passed : (cs : List Column) (v k i : ℕ) (c : Column) → i < length cs → c ≡ get_or cs i c
    → value_or (drop i cs) v k (pos 0) ≡ cond (eqb c.var v) (pos (get_or c.numbers.items k 0)) (value_or (drop (i + 1) cs) v k (pos 0))
column-passed cs v k i c l e =
    ap (λ (xs : List Column). value_or xs v k (pos 0)) (drop-cons cs i c l ∙ ap₂ (λ (x : Column) (n : ℕ). x ∷ drop n cs) (sym e) (sym (add-one i)))
