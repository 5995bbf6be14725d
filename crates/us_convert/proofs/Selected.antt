-- The entries of a part are selected, and its buffers are built.
use Rattle.std.proofs.Common.{◌≡◌, ℕ, ◌+◌, ◌*◌, ◌<◌, ◌≤◌, true, sym, ap, subst, arith, List, ◌++◌, map, length, filter}
use Rattle.std.specs.Prelude.{None}
use Rattle.std.proofs.lemmas.List.Sorted.{length_permutation}
use Rattle.us_format.specs.Matrix.{Shape}
use Rattle.us_format.specs.Packs.{written}
use Rattle.us_format.specs.Buffers.{part_buffers}
use Rattle.us_decl.specs.Declares.{Declared, IsValid}
use Rattle.us_judge.specs.Acceptance.{first_refusal}
use Rattle.us_judge.specs.Format.{part_at}
use Rattle.us_judge.specs.Views.{declaration_of}
use Rattle.us_judge.proofs.LawfulDeclarations.{accepted-declaration}
use Rattle.us_code.specs.declared.pieces.Columns.{Columns}
use Rattle.us_code.specs.Plain.{PhaseTree}
use Rattle.us_code.specs.Runs.{World, phases}
use Rattle.us_code.specs.Typing.{Context, after_phases, sees_all}
use Rattle.us_gen.specs.Goes.{Leads}
use Rattle.us_gen.proofs.Going.{leads_both}
use Rattle.us_query_loops.specs.Chosen.{goes_to}
use Rattle.us_gen_counting.specs.Rooms.{SeesColumns, Fit}
use Rattle.us_gen_counting.specs.Selects.{HoldsPart}
use Rattle.us_gen_counting.proofs.PhaseFits.{after_both, fit_both}
use Rattle.us_gen_queries.specs.Plain.{bare}
use Rattle.us_gen_queries.specs.Meaning.{AreGivenOrNew, selection_room, SelectsPart}
use Rattle.us_gen_queries.proofs.Chain.{selected_are_given}
use Rattle.us_limits.proofs.Phases.{append-keep, text-looser}
use Rattle.us_right.specs.Costs.{own_cost, part_cost}
use Rattle.us_right.specs.Piece.{share_at, MakesPart}
use Rattle.us_right.proofs.Shares.{share-within}
use Rattle.us_convert.specs.Own.{BuildsOwn}

module _ (s : Shape) (d : Declared) (k : ℕ) (cs to : Columns) (n mid high : ℕ) (ps qs : List PhaseTree) (out : List ℕ) (valid : IsValid d) (kept : first_refusal (declaration_of d) ≡ None) (below : k < length (declaration_of d).parts)
    (selects : SelectsPart s (declaration_of d) k cs n ps to) (builds : BuildsOwn s (part_at (declaration_of d) k) to mid high qs out) (next : mid ≡ n + selection_room (declaration_of d)) (le : mid ≤ high) where
  bare_seen : (g : Context) → SeesColumns g to → SeesColumns g (bare to)
  bare_seen g x = record { count = x.count; i = x.i; j = x.j; v = x.v }

  pub part : MakesPart true s (declaration_of d) k cs n high (ps ++ qs) out
  part = record {
    leads = λ w m es given stands target.
        let D = declaration_of d in
        let mine = filter (goes_to m s (declaration_of d) k) m in
        let Q : World → Type 0 = λ u. map u.bufs out ≡ map written (part_buffers s (share_at s (declaration_of d) m k).0 (share_at s (declaration_of d) m k).1) in
        let cost : 32 * ((1 + length (declaration_of d).head) * (length es + 1)) + own_cost s (share_at s (declaration_of d) m k) ≡ part_cost s (declaration_of d) m (share_at s (declaration_of d) m k) =
        ap (λ (x : ℕ). 32 * ((1 + length (declaration_of d).head) * (x + 1)) + own_cost s (share_at s (declaration_of d) m k)) (length_permutation m es given.held.shuffled) in
        subst (λ (c : ℕ). Leads n c w (phases (ps ++ qs) w) (λ u. map u.bufs out ≡ map written (part_buffers s (share_at s (declaration_of d) m k).0 (share_at s (declaration_of d) m k).1))) cost
        (leads_both n mid (32 * ((1 + length (declaration_of d).head) * (length es + 1))) (own_cost s (share_at s (declaration_of d) m k)) ps qs w (λ u. HoldsPart u s (declaration_of d) to m es k)
        (λ u. map u.bufs out ≡ map written (part_buffers s (share_at s (declaration_of d) m k).0 (share_at s (declaration_of d) m k).1)) (omega (arith, next)) (selects.leads w m es given)
        (λ u h keeps.
        builds.leads u (filter (goes_to m s (declaration_of d) k) m) (filter (goes_to m s (declaration_of d) k) es)
        (selected_are_given w u s (declaration_of d) cs to m es k n mid given (omega (arith, next)) (subst (λ (y : ℕ). AreGivenOrNew cs n y to) (sym next) selects.columns) h)
        (omega (arith, target, share-within s (declaration_of d) m (accepted-declaration d valid kept) k below))));
    typed = λ g room seen.
        let a = selects.typed g room seen in
        let first : Fit g ps n mid = subst (λ (y : ℕ). Fit g ps n y) (sym next) a.0 in
        let b = builds.typed (after_phases g ps) first.more.room (bare_seen (after_phases g ps) a.1) in (
          fit_both g ps qs n mid high (omega (arith, next)) first b.0,
          subst (λ (x : Context). sees_all x out ≡ true) (sym (after_both g ps qs)) b.1,
        );
    new = record { once = builds.new.once; own = λ b l. let q = builds.new.own b l in (omega (arith, q.0, next), q.1) };
    few = builds.few;
    unsorted = λ e. absurd cc;
    text = text-looser (omega arith) (append-keep selects.text builds.text);
  }
