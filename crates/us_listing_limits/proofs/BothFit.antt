-- Both phases keep the limits.
use Rattle.std.proofs.Common.{ℕ, ◌+◌, ◌*◌, ◌^◌, ◌<◌, List, [], ◌∷◌, length, arith}
use Rattle.us_code.specs.declared.pieces.Columns.{Columns}
use Rattle.us_limits.proofs.Phases.{text-looser, phase-keep, more-keep}
use Rattle.us_gen_unpack.specs.declared.listing.PartWalk.{PartWalk}
use Rattle.us_gen_unpack.specs.Listing.{rooms, listing_phase}
use Rattle.us_gen_opening.specs.Opening.{opening_phase}
use Rattle.us_limits.specs.Small.{KeepText}
use Rattle.us_listing_limits.specs.Fitting.{FitWalks}
use Rattle.us_listing_limits.specs.Laws.{UnpackingKeepsLimits}
use Rattle.us_listing_limits.proofs.OpeningFits.{code-small, code-without, all-few}
use Rattle.us_listing_limits.proofs.WalkFits.{listing-small, listing-without}

listing-keeps : (c : Columns) (k : ℕ) (xs : List PartWalk) → c.count < 2 ^ 32 → FitWalks xs → KeepText (4 + rooms xs) (listing_phase c k xs ∷ [])
listing-keeps c k xs long f = text-looser (omega arith) (phase-keep (long, tt, (long, tt, (long, tt, tt))) (listing-small c k xs long f) tt)

pub unpacking-keeps : UnpackingKeepsLimits
unpacking-keeps c n k os xs long few f g rooms_few =
    let lines = all-few c.count n os few f in
    record {
      text =
          text-looser (omega (arith, few, rooms_few, lines.number))
          (more-keep {m = 70 * length os} {n = 4 + rooms xs} {p = opening_phase c.count n os} tt (code-small os n f) lines.fit (listing-keeps c k xs long g));
      unsorted = (code-without os n, (listing-without c k xs, tt));
    }
