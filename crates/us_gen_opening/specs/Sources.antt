-- What the phase needs of parts, one behind the other, is visible, and stands in the sources.
use Rattle.std.specs.Prelude.{◌≡◌, ◌+◌, ◌≤◌, map, List, [], ◌∷◌, All}
use Rattle.std.specs.List.{sum_by}
use Rattle.us_format.specs.Matrix.{Shape, Entry}
use Rattle.us_format.specs.Declaration.{Part}
use Rattle.us_format.specs.Queries.{extents_of}
use Rattle.us_format.specs.Reading.{buffer_count, limit}
use Rattle.us_format.specs.Rules.{ArePacksLawful}
use Rattle.us_code.specs.Run.{Env}
use Rattle.us_code.specs.Typing.{Context}
use Rattle.us_gen_places.specs.declared.start.PartStart.{PartStart}
use Rattle.us_gen_places.specs.Places.{ArePlacesOf}
use Rattle.us_gen_places.specs.Holds.{HoldParts}
use Rattle.us_gen_places.specs.Dims.{next_start}
use Rattle.us_gen_unpack.specs.Runs.{Listed}
use Rattle.us_gen_opening.specs.declared.parts.Opening.{Opening}
use Rattle.us_gen_opening.specs.Rooms.{SeesOpenings}
use Rattle.us_gen_opening.specs.Runs.{Opened, openings, listeds, AreOpenable}
use Rattle.us_gen_opening.specs.Tells.{AreOpeningsOf}

-- what is needed of each part, beside it
abbrev pub paired : List Opening → List Listed → List Opened
paired [] ls = []
paired (o ∷ os) [] = []
paired (o ∷ os) (l ∷ ls) = record { opening = o; listed = l } ∷ paired os ls

-- the loops of each part are those of its places
abbrev pub ArePlaced : PartStart → Shape → List Listed → Type 0
ArePlaced a s [] = Unit {0}
ArePlaced a s (x ∷ xs) = ArePlacesOf a s x.part x.loops.places × ArePlaced (next_start a x.part) s xs

abbrev pub parts : List Listed → List Part
parts ls = map (λ x. x.part) ls

abbrev pub with_entries : List Listed → List (Part × List Entry)
with_entries ls = map (λ x. (x.part, x.entries)) ls

pub record OpeningsStand : Type 0 where
  pub sees :
      (g : Context) (a : PartStart) (s : Shape) (ps : List Part) (os : List Opening) → AreOpeningsOf a s ps os
      → a.source + sum_by buffer_count ps ≤ g.sources → SeesOpenings g os
  pub openable :
      (env : Env) (a : PartStart) (s : Shape) (ls : List Listed) (os : List Opening) → AreOpeningsOf a s (parts ls) os → ArePlaced a s ls
      → All (λ x. ArePacksLawful x.part) ls → HoldParts env a.source s (with_entries ls)
      → All (λ x. All (λ n. n ≤ limit) (extents_of x.entries s x.part)) ls → AreOpenable env (paired os ls)
  pub openings_are : (a : PartStart) (s : Shape) (ls : List Listed) (os : List Opening) → AreOpeningsOf a s (parts ls) os → openings (paired os ls) ≡ os
  pub listeds_are : (a : PartStart) (s : Shape) (ls : List Listed) (os : List Opening) → AreOpeningsOf a s (parts ls) os → listeds (paired os ls) ≡ ls
