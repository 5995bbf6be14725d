-- The dims are the extents, the numbers of nodes, and the number of entries of all parts.
use Rattle.std.specs.Prelude.{◌≡◌, ℕ, ◌+◌, ◌*◌, ◌≤◌, cond, List, [], ◌∷◌, map, length}
use Rattle.us_code.specs.Run.{Env}
use Rattle.us_code.specs.Runs.{World, phases}
use Rattle.us_format.specs.Matrix.{Shape}
use Rattle.us_format.specs.Reading.{limit}
use Rattle.us_format_loops.specs.Laws.{values_on}
use Rattle.us_gen.specs.Goes.{Leads}
use Rattle.us_gen_walk.specs.declared.places.Column.{Column}
use Rattle.us_gen_walk.specs.declared.places.Column.TheVariants as column
use Rattle.us_gen_walk.specs.declared.places.Loop.{Loop}
use Rattle.us_gen_walk.specs.declared.places.Loop.TheVariants as over
use Rattle.us_gen_walk.specs.Runs.{read_cost}
use Rattle.us_gen_unpack.specs.Runs.{Listed, AreListable, total}
use Rattle.us_gen_opening.specs.declared.parts.Opening.{Opening}
use Rattle.us_gen_opening.specs.Opening.{is_tight, all_lines, opening_phase}
use Rattle.us_gen_opening.specs.Dims.{AreNew, AreNamed, ExtentsStand, DimsAre}

-- a part whose entries are listed, and what the phase needs of it
pub record Opened : Type 0 where
  pub opening : Opening
  pub listed : Listed

abbrev pub openings : List Opened → List Opening
openings xs = map (λ x. x.opening) xs

abbrev pub listeds : List Opened → List Listed
listeds xs = map (λ x. x.listed) xs

-- what is needed is the part's, and its extents are in their sources
pub record IsOpenable (env : Env) (x : Opened) : Type 0 where
  pub loops : x.opening.loops.items ≡ x.listed.loops.places.loops.items
  pub values : x.opening.values ≡ x.listed.loops.places.values
  pub named : AreNamed x.opening.loops.items
  pub extents : ExtentsStand env.sources x.opening.extents.items

abbrev pub AreOpenable : Env → List Opened → Type 0
AreOpenable env [] = Unit {0}
AreOpenable env (x ∷ xs) = IsOpenable env x × AreOpenable env xs

-- ---- steps

-- for a column of so many cells, so many of which aren't 0
abbrev pub count_cost : Env → Column → ℕ → ℕ → ℕ
count_cost env (column.Own k) cells entries = 2 + 3 * cells + entries
count_cost env (column.Packed k w digit) cells entries = 2 + 2 * length (env.sources k) + 2 * cells + entries

abbrev pub nodes_cost : List Loop → ℕ
nodes_cost [] = 0
nodes_cost (over.Full size low ∷ ls) = nodes_cost ls
nodes_cost (over.Nodes k more nodes crd low ∷ ls) = read_cost crd + nodes_cost ls

abbrev pub part_cost : Env → Shape → Opened → ℕ
part_cost env s x =
    5 * length x.opening.extents.items + nodes_cost x.opening.loops.items
    + cond (is_tight x.opening) 0 (count_cost env x.opening.values (length (values_on s x.listed.part x.listed.entries)) (length x.listed.entries))

abbrev pub open_cost : Env → Shape → List Opened → ℕ
open_cost env s [] = 1
open_cost env s (x ∷ xs) = part_cost env s x + open_cost env s xs

-- ---- the law

-- behind the phase the dims are those of the parts, and `count` is the number of all entries; the buffers are the same
pub record Opens (w : World) (s : Shape) (xs : List Opened) (count : ℕ) (u : World) : Type 0 where
  pub dims : DimsAre u.env (openings xs)
  pub counted : u.env.dims count ≡ total (listeds xs)
  pub listable : AreListable u.env s (listeds xs)
  pub bufs : u.bufs ≡ w.bufs

-- where with these dims the parts' buffers are in their places, the phase comes to its end, and keeps what has a number below low
abbrev pub OpeningOpens : Type 0
OpeningOpens =
    (w : World) (s : Shape) (xs : List Opened) (count n low : ℕ) → AreOpenable w.env xs
    → ((env : Env) → env.sources ≡ w.env.sources → DimsAre env (openings xs) → AreListable env s (listeds xs))
    → AreNew low (all_lines count n (openings xs)) → total (listeds xs) ≤ limit
    → Leads low (open_cost w.env s xs) w (phases (opening_phase count n (openings xs) ∷ []) w) (Opens w s xs count)
