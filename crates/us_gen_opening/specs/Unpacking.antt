-- The phase that makes the dims, and behind it the one that lists the entries.
use Rattle.std.specs.Prelude.{◌≡◌, ℕ, ◌+◌, ◌≤◌, List, [], ◌∷◌, map, None}
use Rattle.us_code.specs.declared.pieces.Columns.{Columns}
use Rattle.us_code.specs.Plain.{PhaseTree}
use Rattle.us_code.specs.Run.{Env}
use Rattle.us_code.specs.Runs.{World, phases}
use Rattle.us_code.specs.Typing.{Context, TypedPhases}
use Rattle.us_format.specs.Matrix.{Shape}
use Rattle.us_format.specs.Reading.{limit}
use Rattle.us_gen.specs.Goes.{Leads}
use Rattle.us_gen.specs.Rooms.{FreshFrom}
use Rattle.us_gen_unpack.specs.declared.listing.PartWalk.{PartWalk}
use Rattle.us_gen_unpack.specs.Listing.{listing_phase}
use Rattle.us_gen_unpack.specs.Rooms.{SeesParts, AreNew as AreNewColumns}
use Rattle.us_gen_unpack.specs.Runs.{AreListable, total, HoldParts, list_cost, AreApart}
use Rattle.us_gen_opening.specs.declared.parts.Opening.{Opening}
use Rattle.us_gen_opening.specs.Opening.{all_lines, opening_phase}
use Rattle.us_gen_opening.specs.Dims.{AreNew, DimsAre, DimsSeen}
use Rattle.us_gen_opening.specs.Rooms.{SeesOpenings}
use Rattle.us_gen_opening.specs.Runs.{Opened, openings, listeds, AreOpenable, open_cost}

-- registers from n on in the first phase, and from k on in the second
abbrev pub unpacking : Columns → ℕ → ℕ → List Opening → List PartWalk → List PhaseTree
unpacking c n k os xs = opening_phase c.count n os ∷ listing_phase c k xs ∷ []

-- where the dims of the first phase make visible all that the loops read
abbrev pub UnpackIsTyped : Type 0
UnpackIsTyped =
    (g : Context) (c : Columns) (n k low : ℕ) (os : List Opening) (xs : List PartWalk) → FreshFrom g n
    → ((d : ℕ) → low ≤ d → g.dims d ≡ None) → SeesOpenings g os → AreNew low (all_lines c.count n os) → AreNewColumns g c
    → ((h : Context) → h.sources ≡ g.sources → DimsSeen h os → SeesParts h xs)
    → TypedPhases g (unpacking c n k os xs)

-- where with these dims the parts' buffers are in their places, the columns hold the entries of all parts, part by part and by position
abbrev pub UnpackLists : Type 0
UnpackLists =
    (w : World) (s : Shape) (xs : List Opened) (c : Columns) (n k low steps : ℕ) → AreOpenable w.env xs
    → ((env : Env) → env.sources ≡ w.env.sources → DimsAre env (openings xs) → AreListable env s (listeds xs))
    → ((env : Env) → env.sources ≡ w.env.sources → DimsAre env (openings xs) → list_cost env s (listeds xs) ≤ steps)
    → AreNew low (all_lines c.count n (openings xs)) → AreApart c → low ≤ c.i → low ≤ c.j → low ≤ c.v → total (listeds xs) ≤ limit
    → Leads low (open_cost w.env s xs + (4 + steps)) w (phases (unpacking c n k (openings xs) (map (λ x. x.loops) (listeds xs))) w)
    (λ u. HoldParts s (listeds xs) (u.bufs c.i) (u.bufs c.j) (u.bufs c.v))
