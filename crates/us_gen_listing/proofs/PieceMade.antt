-- What a piece does, by what it is made of.
use Rattle.std.proofs.Common.{◌≡◌, ℕ, ◌+◌, ◌*◌, ◌^◌, ◌<◌, ◌≤◌, List, [], ◌∷◌, map, length, refl, sym, ap, subst, inr, arith, All}
use Rattle.std.specs.Prelude.{None}
use Rattle.std.proofs.lemmas.List.Elements.{All-nil, All-cons, All-head, All-tail}
use Rattle.us_format.specs.Matrix.{Shape}
use Rattle.us_format.specs.Declaration.{Part}
use Rattle.us_format.specs.Buffers.{size}
use Rattle.us_format.specs.Reading.{buffer_count, extent_count, total_count}
use Rattle.us_decl.specs.Declares.{Declared, IsValid}
use Rattle.us_judge.specs.Acceptance.{first_refusal}
use Rattle.us_judge.specs.Short.{AreShort}
use Rattle.us_judge.specs.Views.{declaration_of}
use Rattle.us_judge.proofs.Valid.{queries-valid, short-valid}
use Rattle.us_code.specs.declared.pieces.Columns.{Columns}
use Rattle.us_code.specs.declared.pieces.ListPiece.{ListPiece}
use Rattle.us_code.specs.Plain.{PhaseTree, phase_tree}
use Rattle.us_code.specs.Runs.{phases}
use Rattle.us_code.specs.Typing.{Context}
use Rattle.us_limits.specs.Small.{KeepText}
use Rattle.us_limits.specs.Orders.{HaveNoOrder}
use Rattle.us_gen_counting.specs.Rooms.{RoomFrom, Fit}
use Rattle.us_gen.specs.Goes.{Leads}
use Rattle.us_gen_recover.specs.declared.places.Table.{Table}
use Rattle.us_gen_places.specs.declared.start.PartStart.{PartStart}
use Rattle.us_gen_places.specs.Dims.{next_start, dim_count}
use Rattle.us_gen_places.proofs.TablesHeld.{tables-number}
use Rattle.us_gen_unpack.specs.declared.listing.PartWalk.{PartWalk}
use Rattle.us_gen_unpack.specs.Runs.{AreApart}
use Rattle.us_gen_opening.specs.declared.parts.Extent.{Extent}
use Rattle.us_gen_opening.specs.declared.parts.Opening.{Opening}
use Rattle.us_gen_opening.specs.Opening.{rooms}
use Rattle.us_gen_opening.specs.Unpacking.{unpacking}
use Rattle.us_gen_parts.specs.Walks.{AreWalksOf}
use Rattle.us_gen_opening.proofs.PartDims.{openings_tell}
use Rattle.us_gen_parts.proofs.RoomFew.{walks-few}
use Rattle.us_listing_limits.specs.Laws.{KeepsTextUnsorted}
use Rattle.us_listing_limits.proofs.BothFit.{unpacking-keeps}
use Rattle.us_gen_listing.specs.Unpack.{start_at, AreUnpackers, OpenedFrom, HoldsEntries, IsTypedTo, level_count, query_count, Unpacks}
use Rattle.us_gen_listing.proofs.FormatListed.{format-listed}
use Rattle.us_gen_listing.proofs.FormatTyped.{format-typed}
use Rattle.us_gen_listing.proofs.PartCosts.{extents-number}
use Rattle.us_gen_listing.proofs.Behind.{sees-more, names-below}
use Rattle.us_gen_listing.proofs.PartsFit.{HaveRoom, parts-tame, walks-fit, openings-fit, openings-number}

pub walks-number : (a : PartStart) (s : Shape) (ps : List Part) (xs : List PartWalk) → AreWalksOf a s ps xs → length xs ≡ length ps
walks-number a s [] [] w = refl
walks-number a s [] (x ∷ xs) w = absurd w
walks-number a s (p ∷ ps) [] w = absurd w
walks-number a s (p ∷ ps) (x ∷ xs) w = omega (arith, walks-number (next_start a p) s ps xs w.1)

pub tables-few : (a : PartStart) (s : Shape) (ps : List Part) (xs : List PartWalk) → AreWalksOf a s ps xs → All (λ p. length p.queries ≤ 16) ps → All (λ x. length x.places.tables.items ≤ 16) xs
tables-few a s [] [] w h = All-nil (λ (x : PartWalk). length x.places.tables.items ≤ 16)
tables-few a s [] (x ∷ xs) w h = absurd w
tables-few a s (p ∷ ps) [] w h = absurd w
tables-few a s (p ∷ ps) (x ∷ xs) w h =
    let few : length p.queries ≤ 16 = All-head (λ (q : Part). length q.queries ≤ 16) p ps h in
    All-cons (λ (y : PartWalk). length y.places.tables.items ≤ 16) x xs
    (omega (arith, few, ap (λ (ts : List Table). length ts) w.0.places.tables, tables-number a (extent_count p) 0 p.queries))
    (tables-few (next_start a p) s ps xs w.1 (All-tail (λ (q : Part). length q.queries ≤ 16) p ps h))

pub dim-rooms-few : (n : ℕ) (ps : List Part) (xs : List PartWalk) (os : List Opening) → OpenedFrom n ps xs os → All (λ x. length x.places.tables.items ≤ 16) xs → rooms os ≤ 51 * length ps
dim-rooms-few n [] [] [] h t = omega arith
dim-rooms-few n [] [] (o ∷ os) h t = absurd h
dim-rooms-few n [] (x ∷ xs) os h t = absurd h
dim-rooms-few n (p ∷ ps) [] os h t = absurd h
dim-rooms-few n (p ∷ ps) (x ∷ xs) [] h t = absurd h
dim-rooms-few n (p ∷ ps) (x ∷ xs) (o ∷ os) h t =
    let few : length x.places.tables.items ≤ 16 = All-head (λ (y : PartWalk). length y.places.tables.items ≤ 16) x xs t in
    omega (
      arith,
      few,
      ap (λ (es : List Extent). length es) h.0,
      extents-number n x.places.tables.items,
      dim-rooms-few (n + buffer_count p) ps xs os h.3 (All-tail (λ (y : PartWalk). length y.places.tables.items ≤ 16) x xs t),
    )

dims_few : (ps : List Part) → AreShort ps → dim_count ps ≤ 48 * length ps
dims_few [] h = omega arith
dims_few (p ∷ ps) h = omega (arith, h.0.levels, dims_few ps h.1)

-- the phases keep the limits of a text
texts : (s : Shape) (d : Declared) (first n k : ℕ) (c : Columns) (os : List Opening) (xs : List PartWalk) → IsValid d → first_refusal (declaration_of d) ≡ None → first < 2 ^ 30 → s.rows < 2 ^ 31 → s.cols < 2 ^ 31 → AreUnpackers d s first os xs
    → c.count < 2 ^ 32 → KeepsTextUnsorted 16384 (unpacking c n k os xs)
texts s d first n k c os xs valid kept small rows cols are count =
    let few = (short-valid d valid).few in
    let room : HaveRoom (start_at first) (length (declaration_of d).parts) = record { source = omega (arith, few); dim = omega (arith, few, small) } in
    unpacking-keeps c n k os xs count (omega (arith, openings-number (start_at first) s (declaration_of d).parts os are.openings, few))
    (openings-fit (start_at first) s (declaration_of d).parts os (parts-tame d valid kept) room rows cols are.openings)
    (walks-fit (start_at first) s (declaration_of d).parts xs (parts-tame d valid kept) room rows cols are.walks) (walks-few (start_at first) s d xs valid kept are.walks)

-- behind them nothing is visible from first + 9216 on
fit : (s : Shape) (d : Declared) (first n k : ℕ) (c : Columns) (os : List Opening) (xs : List PartWalk) → IsValid d → first_refusal (declaration_of d) ≡ None → first < 2 ^ 30 → s.rows < 2 ^ 31 → s.cols < 2 ^ 31 → AreUnpackers d s first os xs
    → first ≤ n → AreApart c → c.count ≡ first + 192 → (first + 192 < c.i) × (c.i ≤ first + 195) → (first + 192 < c.j) × (c.j ≤ first + 195) → (first + 192 < c.v) × (c.v ≤ first + 195)
    → (g : Context) → total_count (declaration_of d) ≤ g.sources → RoomFrom g first → Fit g (unpacking c n k os xs) first (first + 9216)
fit s d first n k c os xs valid kept small rows cols are low_n apart count i j v g sources free =
    let few = (short-valid d valid).few in
    let room : HaveRoom (start_at first) (length (declaration_of d).parts) = record { source = omega (arith, few); dim = omega (arith, few, small) } in
    let behind : first + dim_count (declaration_of d).parts ≤ c.count = omega (arith, count, dims_few (declaration_of d).parts (short-valid d valid).parts, few) in
    let typed = format-typed g s d c first n k first os xs valid kept are sources (record { regs = record { none = λ r l. free.regs r }; bufs = free.bufs; dims = free.dims }) (omega arith) low_n behind (omega (arith, count, i.0)) (omega (arith, count, j.0)) (omega (arith, count, v.0)) apart in
    record {
      typed = typed.typed;
      more =
          sees-more g c n k first (first + 9216) os xs free (omega arith)
          (openings_tell.new (start_at first) s (declaration_of d).parts os c.count n first are.openings (queries-valid d valid) (omega arith) (omega (arith, count)) (inr behind))
          (names-below (first + 9216) s (declaration_of d).parts os c.count n (start_at first) (parts-tame d valid kept) room rows cols are.openings (omega (arith, few)) (omega (arith, count)))
          (omega (arith, i.0), omega (arith, i.1)) (omega (arith, j.0), omega (arith, j.1)) (omega (arith, v.0), omega (arith, v.1));
    }

pub unpacks : (s : Shape) (d : Declared) (first : ℕ) (piece : ListPiece) (os : List Opening) (xs : List PartWalk) → IsValid d → first_refusal (declaration_of d) ≡ None → first < 2 ^ 30 → s.rows < 2 ^ 31 → s.cols < 2 ^ 31 → AreUnpackers d s first os xs
    → map phase_tree piece.phases ≡ unpacking piece.columns (first + 256) (first + 768) os xs → piece.columns.count ≡ first + 192 → piece.columns.i ≡ first + 193 → piece.columns.j ≡ first + 194 → piece.columns.v ≡ first + 195
    → piece.columns.vars.items ≡ [] → Unpacks s d first piece
unpacks s d first piece os xs valid kept small rows cols are made count_is i_is j_is v_is vars =
    let apart : AreApart piece.columns = record {
      i_j = λ e. absurd (omega (arith, e, i_is, j_is));
      i_v = λ e. absurd (omega (arith, e, i_is, v_is));
      j_v = λ e. absurd (omega (arith, e, j_is, v_is));
    } in
    let behind : first + dim_count (declaration_of d).parts ≤ piece.columns.count = omega (arith, count_is, dims_few (declaration_of d).parts (short-valid d valid).parts, (short-valid d valid).few) in
    let text = texts s d first (first + 256) (first + 768) piece.columns os xs valid kept small rows cols are (omega (arith, count_is, small)) in
    record {
      lists = λ w m im within sources short.
          subst (λ (ps : List PhaseTree). Leads first (64 * ((1 + level_count (declaration_of d) + query_count (declaration_of d)) * (size s (declaration_of d) m + 1))) w (phases ps w) (HoldsEntries s (declaration_of d) m piece.columns)) (sym made)
          (format-listed w s d m piece.columns first (first + 256) (first + 768) first os xs valid kept im rows cols within are sources short (omega arith) behind (omega (arith, count_is, i_is)) (omega (arith, count_is, j_is)) (omega (arith, count_is, v_is)) apart);
      typed = λ g room free.
          subst (λ (ps : List PhaseTree). IsTypedTo g ps piece.columns) (sym made)
          (format-typed g s d piece.columns first (first + 256) (first + 768) first os xs valid kept are room free (omega arith) (omega arith) behind (omega (arith, count_is, i_is)) (omega (arith, count_is, j_is)) (omega (arith, count_is, v_is)) apart);
      fits = λ g room free.
          subst (λ (ps : List PhaseTree). Fit g ps first (first + 9216)) (sym made)
          (fit s d first (first + 256) (first + 768) piece.columns os xs valid kept small rows cols are (omega arith) apart count_is (omega (arith, i_is), omega (arith, i_is)) (omega (arith, j_is), omega (arith, j_is)) (omega (arith, v_is), omega (arith, v_is)) g room free);
      text = subst (λ (ps : List PhaseTree). KeepText 16384 ps) (sym made) text.text;
      unsorted = subst (λ (ps : List PhaseTree). HaveNoOrder ps) (sym made) text.unsorted;
      columns = (
        record { from = omega (arith, count_is); to = omega (arith, count_is) },
        record { from = omega (arith, i_is); to = omega (arith, i_is) },
        record { from = omega (arith, j_is); to = omega (arith, j_is) },
        record { from = omega (arith, v_is); to = omega (arith, v_is) },
      );
      no_vars = vars;
    }
