-- `whole` lends the bytes from the first one on. Assumes `Logic`.
use Rattle.std.proofs.Common.{◌≡◌, ◌*◌, ◌^◌, List, [], ◌∷◌, ◌++◌, length, refl, ap, ◌∙◌, arith, w64}
use base.Fraction.{full_share}
use base.Fml.{ftrue, fat, flft}
use base.Logic.{SProp, emp, never, id⊢}
use mir.Val.{Val, vint, vptr}
use prog.Wp.{WpFn}
use contract.Monad.{fact, fact_i}
use contract.Running.{tables}
use types.Kit.{‵, raw, ◌⊛◌, prop, at_ret, ◌$◌, ◌∵◌, !, qed, by, move, drop, use0, split, rewrite, regoal, fsplit, fjoin, feq_i, flt_l, flt_i}
use types.Part.{whole, sub, agg}
use types.Run.{stop, fld, of_opd, and_then, no_more, first, blocks, exec, returns, enter}
use types.ByLocal.{alloc_all, pass_all, free_all, look_at, get, get_in, sets, sets_last, take_at, give_at, env}
use denote.Builtin.{usize, RefOf}
use denote.Exit.{yes}
use denote.Opens.{unhide, hide}
use denote.Param.{layout}
use denote.RattleType.{owns}
use denote.RawPtr.{Ptr, in_a_block}
use denote.Signature.{plain, types_at}
use denote.Slice.{slice_val}
use denote.Steps.{nothing, heard}
use denote.Triple.Walked.{Stays, stay_dropped, walk_of, Goes-dropped}
use Rattle.core.proofs.alloc.Shapes.{after}
use Rattle.std.proofs.raw_atomic.Walks.{proved_at, leaves}
use Rattle.std_alloc.proofs.RcSteps.{word, word-Good}
use Rattle.us_raw.specs.Ownership.{bytes_lent}
use Rattle.us_raw.specs.contracts.raw.Bytes as bytes
use Rattle.us_raw.specs.contracts.raw.Start as address
use Rattle.us_raw.specs.contracts.raw.Bytes.whole.{ended, clauses}
use Rattle.us_raw.specs.contracts.raw.Bytes.whole.Key.{name as #self}
use Rattle.us_raw.proofs.raw.Bytes.whole.Statement.{statement}
use Rattle.us_raw.proofs.raw.Bytes.whole.Code as code
use Rattle.us_raw.proofs.Values.{start_told}

abbrev stayed : Stays ended.signature.params ended.kept
stayed = (stay_dropped (RefOf (0 ∷ []) tt (plain (λ _. bytes.the_row)) (λ _. tt)) yes, (stay_dropped (plain (λ _. address.the_row)) yes, (stay_dropped (plain (λ _. usize)) yes, tt)))

pub whole_spec : {M : Type 1} → statement M
whole_spec 𝓤 𝓛 𝓜 𝓡 wired =
    let H = 𝓛.H in let 𝓣 = tables 𝓤 H 𝓜 𝓡 𝓡.env in let c = clauses 𝓛 𝓜.mem 𝓡.returns in let fn = code.function in
    proved_at 𝓛 ended stayed c 𝓜 𝓡 (
      Goes-dropped 𝓛 1 (RefOf (0 ∷ []) tt (plain (λ _. bytes.the_row)) (λ _. tt)) yes (λ κs x w. refl),
      (
        Goes-dropped 𝓛 1 (plain (λ _. address.the_row)) yes (λ κs x w. refl),
        (Goes-dropped 𝓛 1 (plain (λ _. usize)) yes (λ κs x w. refl), tt),
      ),
    ) #self fn (code.unfolded 𝓤 H 𝓜 𝓡 wired) (λ z are.
    let a = z.0.3 in let vss = z.0.4 in let κ = z.0.0.0 in let q = z.0.1.0 in
    let rb = a.0.ref_ptr.0 in let ro = a.0.ref_ptr.1 in let d = a.0.now in let p = a.1.0.ptr in let len = a.1.1.0 in let xs = d.written in
    let Post : Val → SProp 𝓤 = (walk_of 𝓛 ended stayed c).post z in
    let Asked : Type 0 = (p ≡ d.at) × (len ≡ length xs) in
    qed 𝓛 (((‵ (flft κ q) ⊛ ‵ ftrue) ⊛ ‵ (owns (types_at ended.signature.params z.0.0) a vss)) ∷ raw (fact 𝓤 Asked) ∷ []) ∵
    move ! (1 ∷ []) $ heard ! Asked (λ asked. split ! $ move ! (1 ∷ []) $ fsplit ! $ move ! (1 ∷ []) $ drop ! $ fsplit ! $ drop ! $
    regoal ! (λ (us : List Val). prop (WpFn 𝓤 H 𝓣.C 𝓣.Λ fn us Post)) (λ i. are.0.0 i ++ (start_told p vss.1.0 are.1.0 i ++ (are.1.1.0.0 i ++ []))) refl $
    enter ! 𝓣.C 𝓣.Λ fn (vptr rb ro ∷ word p ∷ vint w64 len ∷ []) Post $
    alloc_all ! (λ l. pass_all ! refl ((tt, tt), (word-Good [] p, ((tt, record { fits = are.1.1.0.1 }), tt))) $
    let En = env fn.locals l in
    unhide ! $ fsplit ! $ drop ! $
    in_a_block ! d.at (λ r. bytes_lent r xs d.room κ) (id⊢ 𝓤 (never 𝓤)) (λ b o e. fsplit ! $ flt_l ! (λ small. hide ! $
    take_at ! 2 $ rewrite ! 0 (λ (r : Ptr). ‵ (fat full_share (layout address.the_row) (l 2) 0 (word r))) (asked.0 ∙ e) refl $ give_at ! 2 $
    first ! $ blocks ! $
    sets_last ! (agg ! (and_then ! (get_in ! (fld ! refl (stop !)) (sub ! 0 refl (whole !))) (and_then ! (get ! refl) (no_more !)))) refl (tt, (tt, (record { fits = are.1.1.0.1 }, tt))) $
    exec ! 𝓣.C 𝓣.Λ En (after 1 fn.body) (at_ret En Post) $
    sets ! (of_opd ! (get ! refl)) refl (tt, (tt, (record { fits = are.1.1.0.1 }, tt))) $
    flt_i ! (length xs * 1) (2 ^ 63) (omega arith) $ flt_i ! (length xs) (2 ^ 64) (omega arith) $ fjoin ! $
    feq_i ! (List Val) (slice_val (b, o) len ∷ []) (slice_val (b, o) (length xs) ∷ []) (ap (λ k. slice_val (b, o) k ∷ []) asked.1) $ fjoin ! $ fjoin ! $
    returns ! (look_at ! 0 refl) $ free_all ! refl $
    -- [the slice; the token; ..]
    nothing ! $ nothing ! $ fjoin ! $ nothing ! $ fjoin ! $ nothing ! $ fjoin ! $
    let Made : Type 0 = xs ≡ xs in
    use0 𝓛 (raw (fact 𝓤 Made)) (fact_i 𝓤 Made (emp 𝓤) refl) $ move ! (3 ∷ 1 ∷ 2 ∷ 0 ∷ []) $
    by ! (leaves 𝓛 ended stayed c z (slice_val (b, o) len) (record { ref_ptr = (b, o); now = xs }) (tt, (tt, (tt, tt))) (tt, (tt, (tt, tt)))))))))
