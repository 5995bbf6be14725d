-- The phase that makes the dims, and behind it the one that lists the entries.
use Rattle.std.proofs.Common.{◌≡◌, ℕ, ◌+◌, ◌≤◌, ap, ◌∙◌, arith, [], ◌∷◌, map, Option, None}
use Rattle.us_code.specs.Runs.{World, Ran, phases}
use Rattle.us_code.specs.Typing.{BufKind, is_some, after_phase}
use Rattle.us_gen.specs.Goes.{Leads}
use Rattle.us_gen.proofs.Going.{leads_both}
use Rattle.us_gen_unpack.specs.Listing.{listing_phase}
use Rattle.us_gen_unpack.specs.Runs.{HoldParts, list_cost}
use Rattle.us_gen_unpack.proofs.ListingFits.{listing_is_typed}
use Rattle.us_gen_unpack.proofs.ListingRuns.{listing_lists}
use Rattle.us_gen_opening.specs.Opening.{opening_phase}
use Rattle.us_gen_opening.specs.Runs.{openings, listeds, open_cost, Opens}
use Rattle.us_gen_opening.specs.Unpacking.{UnpackIsTyped, UnpackLists}
use Rattle.us_gen_opening.proofs.OpeningFits.{opening_is_typed}
use Rattle.us_gen_opening.proofs.OpeningRuns.{opening_opens}

pub unpack_is_typed : UnpackIsTyped
unpack_is_typed g c n k low os xs f none sees new columns seen =
    let t = opening_is_typed g c.count n low os f none sees new in
    let h = after_phase g (opening_phase c.count n os) in
    let buf : (b : ℕ) → g.bufs b ≡ None → h.bufs b ≡ None = λ b e. ap (λ (x : ℕ → Option BufKind). x b) t.opened.bufs ∙ e in
    let listing =
    listing_is_typed h c k xs t.opened.fresh (ap is_some t.opened.counted) record { i = buf c.i columns.i; j = buf c.j columns.j; v = buf c.v columns.v; i_j = columns.i_j; i_v = columns.i_v; j_v = columns.j_v }
    (seen h t.opened.sources t.opened.dims) in
    (t.typed.0, t.typed.1, t.typed.2, listing)

-- more steps are allowed
cheaper : (low m n : ℕ) (w : World) (r : Ran) (Q : World → Type 0) → m ≤ n → Leads low m w r Q → Leads low n w r Q
cheaper low m n w r Q le x = record { end = x.end; arrives = record { is = x.arrives.is; steps = omega (arith, x.arrives.steps, le); keeps = x.arrives.keeps }; post = x.post }

pub unpack_lists : UnpackLists
unpack_lists w s xs c n k low steps ok listable cost new apart li lj lv few =
    let Q : World → Type 0 = λ u. HoldParts s (listeds xs) (u.bufs c.i) (u.bufs c.j) (u.bufs c.v) in
    let second = listing_phase c k (map (λ x. x.loops) (listeds xs)) ∷ [] in
    leads_both low low (open_cost w.env s xs) (4 + steps) (opening_phase c.count n (openings xs) ∷ []) second w (Opens w s xs c.count) Q (omega arith)
    (opening_opens w s xs c.count n low ok listable new few)
    (λ u o keeps.
    let le : 4 + list_cost u.env s (listeds xs) ≤ 4 + steps = omega (arith, cost u.env keeps.sources o.dims) in
    cheaper low (4 + list_cost u.env s (listeds xs)) (4 + steps) u (phases second u) Q le
    (listing_lists u s (listeds xs) c k low o.listable apart li lj lv o.counted few))
