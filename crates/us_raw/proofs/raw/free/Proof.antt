-- `free` makes room of the bytes, and hands it over with the token. Assumes `Logic`.
use Rattle.std.proofs.Common.{◌≡◌, ℕ, ◌*◌, List, [], ◌∷◌, ◌++◌, length, refl, sym, ap, ◌∙◌, subst, arith, lit<, w64}
use native.Mathlib.Nat.{mul-one}
use base.Fml.{Lft, Share, ftrue, froom, flft}
use base.Logic.{SProp, never, id⊢}
use mir.MapTy.{inst_fn}
use mir.Syntax.{Fn, Args, Ty, a_type, dcons, dnil, ty_unit}
use lib.Dec.{T}
use mir.Val.{Val, vint, vptr, vunit, has_ty, WT}
use prog.Capped.{capped_is}
use prog.Wp.{WpFn}
use contract.BorrowLft.{◌⊑◌, ⊑_trans}
use contract.Monad.{fact}
use contract.Running.{tables}
use types.Kit.{‵, raw, ◌⊛◌, given, later, prop, at_ret, ◌$◌, ◌∵◌, !, qed, by, move, drop, use1, split, join, learn, rewrite, regoal, fsplit, fsplit3, fjoin, feq_i, flt_l, await, group}
use types.Part.{whole, sub}
use types.Run.{stop, fld, lit, unit_lit, of_opd, no_more, and_then, first, blocks, exec, returns, enter}
use types.ByLocal.{alloc_all, pass_all, free_all, look_at, get, get_in, sets, lands_last, env}
use denote.Builtin.{usize, RefOf}
use denote.Exit.{yes, no}
use denote.Param.{param, bounded}
use denote.RattleType.{RattleType, owns}
use denote.RawPtr.{Ptr, block_ptr, in_a_block}
use denote.Signature.{plain, types_at}
use denote.Steps.{nothing, heard}
use denote.Triple.Call.{calls_at_last}
use denote.Triple.Entry.{alive}
use denote.Triple.Walked.{Stays, stay_dropped, walk_of, Goes-dropped}
use Rattle.core.proofs.alloc.Calls.{Al, seen, Goes-blank, Gives, at_gives, Gives-goes, Gives-Gives}
use Rattle.core.proofs.alloc.Shapes.{after}
use Rattle.core.proofs.atomic.Steps.{fm}
use Rattle.std.proofs.raw_atomic.Walks.{proved_at, leaves}
use Rattle.std_alloc.proofs.RcSteps.{word, word-Good}
use Rattle.us_raw.specs.Ownership.{bytes_type, bytes_own, right_owns}
use Rattle.us_raw.specs.contracts.raw.Bytes as bytes
use Rattle.us_raw.specs.contracts.raw.Right as right
use Rattle.us_raw.specs.contracts.raw.Start as address
use Rattle.us_raw.specs.contracts.raw.free.{ended, clauses}
use Rattle.us_raw.specs.contracts.raw.free.Key.{name as #self}
use Rattle.us_raw.proofs.raw.free.Statement.{statement}
use Rattle.us_raw.proofs.raw.free.Code as code
use Rattle.us_raw.proofs.Rows.{row_room}
use Rattle.us_raw.proofs.Values.{start_told, mark_val, mark_told}

pub free_spec : {M : Type 1} → statement M
free_spec 𝓤 𝓛 𝓜 𝓡 wired A L g d dd met md =
    let H = 𝓛.H in let 𝓣 = tables 𝓤 H 𝓜 𝓡 𝓡.env in let S = ended A g d dd in let c = clauses A g d dd 𝓛 𝓜.mem 𝓡.returns in
    let args : Args = bounded (a_type ∷ []) (A, tt) (dcons d (dcons dd dnil)) in let fn : Fn = inst_fn args code.function in
    let Z : RattleType = param 0 A in let Handle = RefOf {n = 2} (0 ∷ []) tt (plain (λ _. Z)) (λ _. tt) in
    let stayed : Stays S.signature.params S.kept = (
      stay_dropped Handle yes,
      (
        stay_dropped (plain (λ _. address.the_row)) yes,
        (
          stay_dropped (plain (λ _. usize)) yes,
          (stay_dropped (plain (λ _. bytes.the_row)) yes, (stay_dropped (plain (λ _. right.the_row Z g)) no, tt)),
        ),
      ),
    ) in
    proved_at 𝓛 S stayed c 𝓜 𝓡 (
      Goes-dropped 𝓛 2 Handle yes (λ κs x w. refl),
      (
        Goes-dropped 𝓛 2 (plain (λ _. address.the_row)) yes (λ κs x w. refl),
        (
          Goes-dropped 𝓛 2 (plain (λ _. usize)) yes (λ κs x w. refl),
          (Goes-blank 𝓛 2 (plain (λ _. bytes.the_row)) yes (λ κs x w. tt), (Goes-blank 𝓛 2 (plain (λ _. right.the_row Z g)) no (λ κs x w. tt), tt)),
        ),
      ),
    ) (#self args) fn (code.unfolded 𝓤 H 𝓜 𝓡 wired (A, tt) d dd) (λ z are.
    let a = z.0.3 in let vss = z.0.4 in let κ : Lft = z.0.0.0 in let q : Share = z.0.1.0 in
    let Y : Al = record { row = A; laws = L; g = g; d = d; drops = dd } in
    let h = a.0.now in let at = a.0.ref_ptr in let p = a.1.0.ptr in let n = a.1.1.0 in let held = a.1.1.1.0 in let owed = a.1.1.1.1.0 in
    let τ : Ty = bytes_type n in let fits = are.1.1.0.1 in
    let Post : Val → SProp 𝓤 = (walk_of 𝓛 S stayed c).post z in
    let Asked : Type 0 = (held.at ≡ p) × (length held.written ≡ n) × (held.room ≡ 0) × (owed.at ≡ p) × (owed.size ≡ n) × (owed.alloc ≡ h) in
    qed 𝓛 ((raw (alive 𝓛 S.signature z.0.0 z.0.1) ⊛ ‵ (owns (types_at S.signature.params z.0.0) a vss)) ∷ (raw (fact 𝓤 (z.0.0.1.0 ⊑ A.lives)) ⊛ raw (fact 𝓤 Asked)) ∷ []) ∵
    move ! (1 ∷ []) $ split ! $ heard ! (z.0.0.1.0 ⊑ A.lives) (λ le. heard ! Asked (λ asked. split ! $ move ! (1 ∷ []) $
    -- [the handle; the address, the size, the bytes and the right; the tokens]
    fsplit ! $ fsplit ! $ drop ! $ use1 𝓛 (‵ (seen Y κ at h)) (id⊢ 𝓤 _) $ move ! (1 ∷ []) $ fsplit3 ! $ drop ! $ drop ! $ fsplit3 ! $ move ! (2 ∷ []) $ drop ! $
    fsplit ! $ drop ! $ rewrite ! 0 (λ (r : Ptr × List ℕ). ‵ (bytes_own r.0 r.1 held.room)) (λ i. (asked.0 i, held.written)) refl $
    in_a_block ! p (λ r. bytes_own r held.written held.room) (id⊢ 𝓤 (never 𝓤)) (λ b o e. fsplit ! $ flt_l ! (λ small. fsplit ! $ move ! (1 ∷ []) $ drop ! $
    use1 𝓛 (‵ (froom (bytes_type (length held.written)) b o)) (row_room 𝓛 b held.written o) $ rewrite ! 0 (λ (k : ℕ). ‵ (froom (bytes_type k) b o)) asked.1 refl $
    move ! (1 ∷ []) $ fsplit ! $ drop ! $
    rewrite ! 0 (λ (r : A.Denot × ℕ × Ptr). ‵ (right_owns (g.dealloc_token r.0) r.2 r.1)) (λ i. (asked.5 i, asked.4 i, (asked.3 ∙ e) i)) refl $
    -- [the token of the block; its room; the handle; the tokens]
    move ! (3 ∷ []) $ use1 𝓛 (‵ (flft κ q) ⊛ ‵ (flft z.0.0.1.0 z.0.1.1.0) ⊛ ‵ ftrue) (id⊢ 𝓤 _) $ split ! $ move ! (3 ∷ 2 ∷ 4 ∷ 0 ∷ 1 ∷ []) $
    let y = at_gives Y 𝓛 𝓜.mem 𝓡.returns κ q at h b o n 1 τ in
    regoal ! (λ (us : List Val). prop (WpFn 𝓤 H 𝓣.C 𝓣.Λ fn us Post))
    (λ i. are.0.0 i ++ ((start_told p vss.1.0 are.1.0 ∙ ap (λ r. word r ∷ []) e) i ++ (are.1.1.0.0 i ++ (mark_told vss.1.1.1.0 are.1.1.1.0.0 i ++ (mark_told vss.1.1.1.1.0 are.1.1.1.1.0.0 i ++ []))))) refl $
    enter ! 𝓣.C 𝓣.Λ fn (vptr at.0 at.1 ∷ word (block_ptr b o) ∷ vint w64 n ∷ mark_val ∷ mark_val ∷ []) Post $
    alloc_all ! (λ l. pass_all ! refl ((tt, tt), (word-Good [] (block_ptr b o), ((tt, record { fits = fits }), ((tt, (tt, tt)), ((tt, (tt, tt)), tt))))) $
    let En = env fn.locals l in
    first ! $ blocks ! $
    group ! 4 $ use1 𝓛 (raw ((Gives Y 𝓛 𝓜.mem 𝓡.returns).pre y))
    (Gives-goes Y 𝓛 𝓜.mem 𝓡.returns κ q at h (⊑_trans κ z.0.0.1.0 A.lives z.0.2.0 le) b o n 1 τ (capped_is (n * 1) (omega (arith, fits)) ∙ mul-one n) refl fits (lit< tt)) $
    calls_at_last ! (fm 𝓛 𝓜 𝓡) (Gives Y 𝓛 𝓜.mem 𝓡.returns) (met.deallocate dd) y
    (and_then ! (get ! refl) (and_then ! (get_in ! (fld ! refl (stop !)) (sub ! 0 refl (whole !))) (and_then ! (get ! refl) (and_then ! (lit ! tt) (no_more !))))) (λ v.
    use1 𝓛 (later (given (v ≡ vunit) (‵ (flft κ q)))) (Gives-Gives Y 𝓛 𝓜.mem 𝓡.returns κ q at h b o n 1 τ v) $ await ! tt $ learn ! (λ none.
    lands_last ! refl (subst (λ (u : Val). T (has_ty ty_unit u) × WT u) (sym none) (tt, tt)) $ exec ! 𝓣.C 𝓣.Λ En (after 1 fn.body) (at_ret En Post) $
    sets ! (of_opd ! (unit_lit !)) refl (tt, tt) $ returns ! (look_at ! 0 refl) $ free_all ! refl $
    -- [the token of the handle; the other tokens]
    join ! $ feq_i ! (List Val) (vunit ∷ []) (vunit ∷ []) refl $ nothing ! $
    nothing ! $ nothing ! $ fjoin ! $ nothing ! $ fjoin ! $ nothing ! $ fjoin ! $ nothing ! $ fjoin ! $ nothing ! $ fjoin ! $ move ! (3 ∷ 0 ∷ 2 ∷ 1 ∷ []) $
    by ! (leaves 𝓛 S stayed c z vunit tt (tt, (tt, (tt, (tt, (tt, tt))))) (tt, (tt, (tt, (tt, (tt, tt))))))))))))))
