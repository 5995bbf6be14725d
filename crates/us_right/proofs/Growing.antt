-- A program in the making, and one part more.
use Rattle.std.proofs.Common.{◌≡◌, Bool, false, ℕ, ◌+◌, ◌<◌, ◌≤◌, refl, sym, ap, ap₂, ◌∙◌, subst, arith, List, [], ◌∷◌, ◌++◌, map, length, take, true, ℤ, length-append}
use Rattle.std.proofs.lemmas.List.{map-append}
use Rattle.us_format.specs.Matrix.{Shape, Entry}
use Rattle.us_format.specs.Declaration.{Part, Declaration}
use Rattle.us_format.specs.Packs.{Buffer, written}
use Rattle.us_format.specs.Buffers.{part_buffers, parts_of, all_buffers, buffers}
use Rattle.us_format.specs.Reading.{total_count}
use Rattle.us_format.specs.Rules.{IsLawfulDeclaration}
use Rattle.us_code.specs.declared.pieces.Columns.{Columns}
use Rattle.us_code.specs.Plain.{PhaseTree}
use Rattle.us_code.specs.Runs.{World, phases, start}
use Rattle.us_code.specs.Typing.{Context, before, after_phases, sees_all}
use Rattle.us_gen.specs.Goes.{Keeps, Leads}
use Rattle.us_gen.proofs.Going.{leads_both, leads_weaker}
use Rattle.us_gen_counting.specs.Rooms.{SeesColumns}
use Rattle.us_gen_counting.proofs.PhaseFits.{after_both, fit_both}
use Rattle.us_gen_queries.specs.Plain.{bare}
use Rattle.us_limits.proofs.Orders.{phases-without}
use Rattle.us_limits.proofs.Phases.{append-keep, text-looser}
use Rattle.us_right.specs.Costs.{listing_cost, part_cost, parts_cost}
use Rattle.us_right.specs.Laws.{SameRows}
use Rattle.us_right.specs.Piece.{share_at, MakesPart}
use Rattle.us_right.specs.Draft.{StandsAt, IsMadeTo}
use Rattle.us_right.proofs.Buffers.{new-both, sees-later, sees-both, lists-later}
use Rattle.us_right.proofs.Later.{given-later, columns-later}
use Rattle.us_right.proofs.Alike.{may-stand}
use Rattle.us_right.proofs.Shares.{shares-next, cost-next}

abbrev Share : Type 0
Share = Part × List Entry

buffers_both : (s : Shape) (xs : List Share) (y : Share) → all_buffers s (xs ++ (y ∷ [])) ≡ all_buffers s xs ++ part_buffers s y.0 y.1
buffers_both s [] y = append_none (part_buffers s y.0 y.1)
  where
    append_none : {A : Type 0} (xs : List A) → xs ++ [] ≡ xs
    append_none [] = refl
    append_none (x ∷ xs) = ap (λ (zs : List _). x ∷ zs) (append_none xs)
buffers_both s (x ∷ xs) y =
    ap (λ (bs : List Buffer). part_buffers s x.0 x.1 ++ bs) (buffers_both s xs y) ∙ sym (regroup (part_buffers s x.0 x.1) (all_buffers s xs) (part_buffers s y.0 y.1))
  where
    regroup : {A : Type 0} (xs ys zs : List A) → (xs ++ ys) ++ zs ≡ xs ++ (ys ++ zs)
    regroup [] ys zs = refl
    regroup (x ∷ xs) ys zs = ap (λ (ws : List _). x ∷ ws) (regroup xs ys zs)

module _ (sorts : Bool) (s : Shape) (f d : Declaration) (cs : Columns) (k n high : ℕ) (ps qs : List PhaseTree) (give out : List ℕ) (law : IsLawfulDeclaration d) (below : k < length d.parts) (old : IsMadeTo sorts s f d cs k n ps give) (piece : MakesPart sorts s d k cs n high qs out)
    (le : n ≤ high) (same : sorts ≡ false → SameRows f d) where
  g0 : Context
  g0 = before (total_count f)

  -- where the entries and the first k parts stand, the piece leads to one more
  stands : (m : List Entry) (w u : World) → StandsAt w s f d m cs k n give → Keeps n w u → map u.bufs out ≡ map written (part_buffers s (share_at s d m k).0 (share_at s d m k).1) → StandsAt u s f d m cs (k + 1) high (give ++ out)
  stands m w u x keeps built = record {
    listed = x.listed;
    ascends = x.ascends;
    columns = given-later w u (bare cs) s m x.listed n high le x.columns keeps;
    built =
        map-append u.bufs give out
        ∙ (ap₂ (λ (a b : List (List ℤ)). a ++ b) (lists-later w u n give keeps (λ b l. (old.new.own b l).1) ∙ x.built) built
        ∙ (sym (map-append written (all_buffers s (take k (parts_of s d m))) (part_buffers s (share_at s d m k).0 (share_at s d m k).1))
        ∙ ap (λ (bs : List Buffer). map written bs) (sym (buffers_both s (take k (parts_of s d m)) (share_at s d m k)) ∙ ap (λ (ys : List Share). all_buffers s ys) (sym (shares-next s d m law k below)))));
  }

  pub grows : IsMadeTo sorts s f d cs (k + 1) high (ps ++ qs) (give ++ out)
  grows =
      let g1 = after_phases (before (total_count f)) ps in
      let typed = piece.typed (after_phases (before (total_count f)) ps) old.fit.more.room old.columns in
      let end : after_phases (before (total_count f)) (ps ++ qs) ≡ after_phases (after_phases (before (total_count f)) ps) qs = after_both (before (total_count f)) ps qs in
      record {
        leads = λ m im source target.
            let w = start (buffers s f m) in
            let c1 = listing_cost s f m + parts_cost s d m k in
            let c2 = part_cost s d m (share_at s d m k) in
            let both : Leads 0 (listing_cost s f m + parts_cost s d m k + part_cost s d m (share_at s d m k)) (start (buffers s f m)) (phases (ps ++ qs) (start (buffers s f m))) (λ u. StandsAt u s f d m cs (k + 1) high (give ++ out)) =
            leads_both 0 n (listing_cost s f m + parts_cost s d m k) (part_cost s d m (share_at s d m k)) ps qs (start (buffers s f m)) (λ u. StandsAt u s f d m cs k n give) (λ u. StandsAt u s f d m cs (k + 1) high (give ++ out)) (omega arith)
            (old.leads m im source target)
            (λ u x keeps.
            leads_weaker n (part_cost s d m (share_at s d m k)) u (phases qs u) (λ v. map v.bufs out ≡ map written (part_buffers s (share_at s d m k).0 (share_at s d m k).1)) (λ v. StandsAt v s f d m cs (k + 1) high (give ++ out))
            (λ v built kept. stands m u v x kept built) (piece.leads u m x.listed x.columns (may-stand sorts s f d k m x.listed same below x.ascends) target)) in
            let cost : listing_cost s f m + parts_cost s d m k + part_cost s d m (share_at s d m k) ≡ listing_cost s f m + parts_cost s d m (k + 1) = omega (arith, cost-next s d m law k below) in
            subst (λ (c : ℕ). Leads 0 c (start (buffers s f m)) (phases (ps ++ qs) (start (buffers s f m))) (λ u. StandsAt u s f d m cs (k + 1) high (give ++ out))) cost both;
        fit = fit_both (before (total_count f)) ps qs 0 n high (omega arith) old.fit typed.0;
        columns =
            subst (λ (h : Context). SeesColumns h (bare cs)) (sym end)
            (columns-later (after_phases (before (total_count f)) ps) (after_phases (after_phases (before (total_count f)) ps) qs) (bare cs) n old.fit.more.room old.columns typed.0.more.bufs typed.0.more.dims);
        seen =
            subst (λ (h : Context). sees_all h (give ++ out) ≡ true) (sym end)
            (sees-both (after_phases (after_phases (before (total_count f)) ps) qs) give out
            (sees-later (after_phases (before (total_count f)) ps) (after_phases (after_phases (before (total_count f)) ps) qs) n give typed.0.more.bufs (λ b l. (old.new.own b l).1) old.seen) typed.1);
        new = new-both give out 0 n high (omega arith) le old.new piece.new;
        few = omega (arith, length-append give out, old.few, piece.few);
        unsorted = λ e. phases-without ps qs (old.unsorted e) (piece.unsorted e);
        text = text-looser (omega arith) (append-keep old.text piece.text);
      }
