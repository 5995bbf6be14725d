-- Behind the phases of a piece nothing is visible from the number on that the next piece gets, and what was visible still is.
use Rattle.std.proofs.Common.{◌≡◌, ◌≢◌, ℕ, ◌+◌, ◌*◌, ◌^◌, ◌<◌, ◌≤◌, List, [], ◌∷◌, ◌++◌, length, refl, sym, ap, subst, ◌∙◌, inl, inr, arith, Option, Some}
use Rattle.us_format.specs.Matrix.{Shape}
use Rattle.us_format.specs.Declaration.{Part}
use Rattle.us_format.proofs.Order.{Mem}
use Rattle.us_code.specs.declared.program.Dim.{Dim}
use Rattle.us_code.specs.declared.program.Dim.TheVariants as dim
use Rattle.us_code.specs.declared.program.CellKind.TheVariants as kind
use Rattle.us_code.specs.declared.pieces.Columns.{Columns}
use Rattle.us_code.specs.Plain.{Of, Product, Successor, LineTree}
use Rattle.us_code.specs.Run.{put}
use Rattle.us_code.specs.Typing.{Context, BufKind, Form, with_line, with_lines, outer, after_phases}
use Rattle.us_code_laws.proofs.Sequence.{put_other}
use Rattle.us_gen_counting.specs.Rooms.{RoomFrom, SeesMore}
use Rattle.us_gen_counting.proofs.PhaseFits.{outer_same}
use Rattle.us_gen_walk.specs.declared.places.Column.{Column}
use Rattle.us_gen_walk.specs.declared.places.Column.TheVariants as column
use Rattle.us_gen_walk.specs.declared.places.Loop.{Loop}
use Rattle.us_gen_walk.specs.declared.places.Loop.TheVariants as over
use Rattle.us_gen_places.specs.declared.start.PartStart.{PartStart}
use Rattle.us_gen_places.specs.Dims.{next_start}
use Rattle.us_gen_unpack.specs.declared.listing.PartWalk.{PartWalk}
use Rattle.us_gen_unpack.specs.Listing.{listing}
use Rattle.us_gen_opening.specs.declared.parts.Extent.{Extent}
use Rattle.us_gen_opening.specs.declared.parts.Opening.{Opening}
use Rattle.us_gen_opening.specs.Opening.{extent_lines, nodes_lines, more_lines, loop_lines, counter, opening_code, opening_lines, all_lines}
use Rattle.us_gen_opening.specs.Dims.{name_of, IsOther, AreNew}
use Rattle.us_gen_opening.specs.Tells.{AreOpeningsOf}
use Rattle.us_gen_opening.specs.Unpacking.{unpacking}
use Rattle.us_gen_listing.proofs.NumbersFit.{IsTame, IsBelow, NodesBelow, DimsBelow, all_levels, all_extents}
use Rattle.us_gen_listing.proofs.PartsFit.{HaveRoom, first-room, next-room}

-- ---- names below a number

abbrev pub NamesBelow : ℕ → List LineTree → Type 0
NamesBelow high [] = Unit {0}
NamesBelow high (l ∷ ls) = (name_of l < high) × NamesBelow high ls

below_append : (high : ℕ) (a b : List LineTree) → NamesBelow high a → NamesBelow high b → NamesBelow high (a ++ b)
below_append high [] b f g = g
below_append high (l ∷ ls) b f g = (f.0, below_append high ls b f.1 g)

below_more : (low high : ℕ) (ls : List LineTree) → low ≤ high → NamesBelow low ls → NamesBelow high ls
below_more low high [] le f = tt
below_more low high (l ∷ ls) le f = (omega (arith, f.0, le), below_more low high ls le f.1)

extents_below : (high : ℕ) (es : List Extent) (n : ℕ) → DimsBelow high es → NamesBelow high (extent_lines es n)
extents_below high [] n f = tt
extents_below high (e ∷ es) n f = (f.0, extents_below high es (n + 3) f.1)

nodes_below : (high : ℕ) (c : Column) (nodes : Dim) → IsBelow high nodes → NamesBelow high (nodes_lines c nodes)
nodes_below high (column.Own k) nodes f = tt
nodes_below high (column.Packed k w digit) (dim.Name d) f = (f, tt)
nodes_below high (column.Packed k w digit) (dim.Number n) f = tt
nodes_below high (column.Packed k w digit) (dim.Len j) f = tt

more_below : (high : ℕ) (more nodes : Dim) → IsBelow high more → NamesBelow high (more_lines more nodes)
more_below high (dim.Name d) nodes f = (f, tt)
more_below high (dim.Number n) nodes f = tt
more_below high (dim.Len j) nodes f = tt

loops_below : (high : ℕ) (ls : List Loop) → NodesBelow high ls → NamesBelow high (loop_lines ls)
loops_below high [] f = tt
loops_below high (over.Full size low ∷ ls) f = loops_below high ls f
loops_below high (over.Nodes k more nodes crd low ∷ ls) f =
    below_append high (nodes_lines crd nodes ++ more_lines more nodes) (loop_lines ls) (below_append high (nodes_lines crd nodes) (more_lines more nodes) (nodes_below high crd nodes f.1) (more_below high more nodes f.0)) (loops_below high ls f.2)

lines_below : (high : ℕ) (a : PartStart) (s : Shape) (ps : List Part) (os : List Opening) (n : ℕ) (last : LineTree) → ((p : Part) → Mem p ps → IsTame p) → HaveRoom a (length ps) → s.rows < 2 ^ 31 → s.cols < 2 ^ 31
    → AreOpeningsOf a s ps os → a.dim + 28 * length ps ≤ high → name_of last < high → NamesBelow high (opening_lines os n last)
lines_below high a s [] [] n last tame room rows cols w le l = (l, tt)
lines_below high a s [] (o ∷ os) n last tame room rows cols w le l = absurd w
lines_below high a s (p ∷ ps) [] n last tame room rows cols w le l = absurd w
lines_below high a s (p ∷ ps) (o ∷ os) n last tame room rows cols w le l =
    let more : HaveRoom a (1 + length ps) = record { source = omega (arith, room.source); dim = omega (arith, room.dim) } in
    let here : IsTame p = tame p (inl refl) in
    let levels = all_levels a p here (first-room a (length ps) more) s rows cols in
    let extents = all_extents a p here (first-room a (length ps) more) in
    below_append high (extent_lines o.extents.items n) (loop_lines o.loops.items ++ opening_lines os (counter o n + 3) last)
    (below_more (a.dim + 28) high (extent_lines o.extents.items n) (omega (arith, le)) (extents_below (a.dim + 28) o.extents.items n (subst (DimsBelow (a.dim + 28)) (sym w.0.extents) extents.below)))
    (below_append high (loop_lines o.loops.items) (opening_lines os (counter o n + 3) last)
    (below_more (a.dim + 28) high (loop_lines o.loops.items) (omega (arith, le)) (loops_below (a.dim + 28) o.loops.items (subst (NodesBelow (a.dim + 28)) (sym w.0.loops) levels.below)))
    (lines_below high (next_start a p) s ps os (counter o n + 3) last (λ q i. tame q (inr i)) (next-room a p (length ps) here more) rows cols w.1 (omega (arith, le, here.plannable.few)) l))

-- ---- what lines leave as it was

-- all but the dims that the lines make
record Kept (g h : Context) (ls : List LineTree) : Type 0 where
  sources : h.sources ≡ g.sources
  bufs : h.bufs ≡ g.bufs
  dims : (d : ℕ) → IsOther d ls → h.dims d ≡ g.dims d

line_keeps : (g : Context) (l : LineTree) → Kept g (with_line g l) (l ∷ [])
line_keeps g (Of d e) = record { sources = refl; bufs = refl; dims = λ x o. put_other g.dims d _ x (λ q. o.0 (sym q)) }
line_keeps g (Product d l r) = record { sources = refl; bufs = refl; dims = λ x o. put_other g.dims d _ x (λ q. o.0 (sym q)) }
line_keeps g (Successor d e) = record { sources = refl; bufs = refl; dims = λ x o. put_other g.dims d _ x (λ q. o.0 (sym q)) }

lines_keep : (g : Context) (ls : List LineTree) → Kept g (with_lines g ls) ls
lines_keep g [] = record { sources = refl; bufs = refl; dims = λ d o. refl }
lines_keep g (l ∷ ls) =
    let one = line_keeps g l in
    let rest = lines_keep (with_line g l) ls in
    record { sources = rest.sources ∙ one.sources; bufs = rest.bufs ∙ one.bufs; dims = λ d o. rest.dims d o.1 ∙ one.dims d (o.0, tt) }

other_low : (low d : ℕ) (ls : List LineTree) → AreNew low ls → d < low → IsOther d ls
other_low low d [] new l = tt
other_low low d (x ∷ ls) new l = ((λ e. absurd (omega (arith, e, new.0, l))), other_low low d ls new.2 l)

other_high : (high d : ℕ) (ls : List LineTree) → NamesBelow high ls → high ≤ d → IsOther d ls
other_high high d [] below l = tt
other_high high d (x ∷ ls) below l = ((λ e. absurd (omega (arith, e, below.0, l))), other_high high d ls below.1 l)

-- ---- both phases

module _ (g : Context) (c : Columns) (n k low high : ℕ) (os : List Opening) (xs : List PartWalk) (room : RoomFrom g low) (lower : low ≤ high) (new : AreNew low (all_lines c.count n os)) (below : NamesBelow high (all_lines c.count n os))
    (ci : (low ≤ c.i) × (c.i < high)) (cj : (low ≤ c.j) × (c.j < high)) (cv : (low ≤ c.v) × (c.v < high)) where
  abbrev opened : Context
  opened = with_lines (outer g (opening_code os n)) (all_lines c.count n os)

  lines : Kept (outer g (opening_code os n)) opened (all_lines c.count n os)
  lines = lines_keep (outer g (opening_code os n)) (all_lines c.count n os)

  abbrev listed : Context
  listed = after_phases g (unpacking c n k os xs)

  column_bufs : (b : ℕ) → c.i ≢ b → c.j ≢ b → c.v ≢ b → listed.bufs b ≡ g.bufs b
  column_bufs b i j v =
      ap (λ (f : ℕ → Option BufKind). f b) (outer_same _ (listing c k xs)).bufs
      ∙ put_other (put (put opened.bufs c.i (Some record { len = dim.Name c.count; cell = kind.Word })) c.j (Some record { len = dim.Name c.count; cell = kind.Word })) c.v (Some record { len = dim.Name c.count; cell = kind.Word }) b v
      ∙ put_other (put opened.bufs c.i (Some record { len = dim.Name c.count; cell = kind.Word })) c.j (Some record { len = dim.Name c.count; cell = kind.Word }) b j
      ∙ put_other opened.bufs c.i (Some record { len = dim.Name c.count; cell = kind.Word }) b i
      ∙ ap (λ (f : ℕ → Option BufKind). f b) (lines.bufs ∙ (outer_same g (opening_code os n)).bufs)

  made_dims : (d : ℕ) → IsOther d (all_lines c.count n os) → listed.dims d ≡ g.dims d
  made_dims d o =
      ap (λ (f : ℕ → Option Form). f d) (outer_same _ (listing c k xs)).dims ∙ lines.dims d o ∙ ap (λ (f : ℕ → Option Form). f d) (outer_same g (opening_code os n)).dims

  pub sees-more : SeesMore g (after_phases g (unpacking c n k os xs)) low high
  sees-more = record {
    room = record {
      regs = λ r. refl;
      bufs = λ b l. column_bufs b (λ e. absurd (omega (arith, e, ci.1, l))) (λ e. absurd (omega (arith, e, cj.1, l))) (λ e. absurd (omega (arith, e, cv.1, l))) ∙ room.bufs b (omega (arith, lower, l));
      dims = λ d l. made_dims d (other_high high d (all_lines c.count n os) below l) ∙ room.dims d (omega (arith, lower, l));
    };
    sources = (outer_same _ (listing c k xs)).sources ∙ lines.sources ∙ (outer_same g (opening_code os n)).sources;
    bufs = λ b l. column_bufs b (λ e. absurd (omega (arith, e, ci.0, l))) (λ e. absurd (omega (arith, e, cj.0, l))) (λ e. absurd (omega (arith, e, cv.0, l)));
    dims = λ d l. made_dims d (other_low low d (all_lines c.count n os) new l);
  }

pub names-below : (high : ℕ) (s : Shape) (ps : List Part) (os : List Opening) (count n : ℕ) (a : PartStart) → ((p : Part) → Mem p ps → IsTame p) → HaveRoom a (length ps) → s.rows < 2 ^ 31 → s.cols < 2 ^ 31 → AreOpeningsOf a s ps os
    → a.dim + 28 * length ps ≤ high → count < high → NamesBelow high (all_lines count n os)
names-below high s ps os count n a tame room rows cols w le l = lines_below high a s ps os n _ tame room rows cols w le l
