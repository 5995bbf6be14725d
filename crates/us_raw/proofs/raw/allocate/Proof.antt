-- `allocate` asks for the bytes, and keeps the token of the block. Assumes `Logic`.
use Rattle.std.proofs.Common.{◌≡◌, ℕ, ◌+◌, ◌*◌, ◌^◌, ◌<◌, List, [], ◌∷◌, ◌++◌, length, refl, ◌∙◌, arith, lit<, w64}
use native.Mathlib.Nat.{mul-one}
use base.Fml.{Lft, Share, ftrue, froom, flft}
use base.Logic.{SProp, emp, id⊢}
use mir.MapTy.{inst_fn}
use mir.Syntax.{Fn, Args, Ty, a_type, dcons, dnil}
use mir.Val.{Val, vint, vptr, vstruct, vcons, vnil}
use prog.Capped.{capped_is}
use prog.Wp.{WpFn}
use contract.BorrowLft.{◌⊑◌, ⊑_trans}
use contract.Monad.{fact, fact_i}
use contract.Running.{tables}
use types.Kit.{‵, raw, ◌⊛◌, later, prop, at_ret, any_q, ◌$◌, ◌∵◌, !, qed, by, move, drop, use0, use1, use2, use3, split, join, regoal, rewrite, fsplit, fjoin, flt_i, await}
use types.Match.{live, vrt, in_variant}
use types.Part.{whole, agg}
use types.Run.{stop, fld, lit, of_opd, no_more, and_then, first, switches_on, exec, returns, enter}
use types.ByLocal.{alloc_all, pass_all, free_all, look_at, get, get_in, get_tag, sets, sets_last, lands_as, env}
use denote.Builtin.{usize, RefOf}
use denote.Exit.{yes}
use denote.Laws.{Is}
use denote.Param.{param, bounded}
use denote.RattleType.{RattleType, owns}
use denote.RawPtr.{Ptr, block_ptr}
use denote.Signature.{plain, types_at}
use denote.Steps.{nothing, heard, owned}
use denote.Struct.Struct.{Struct, Struct-Makes}
use denote.Struct.Declared as Declared
use denote.Struct.Tuple.{Tuple}
use denote.Triple.Call.{calls_at}
use denote.Triple.Entry.{alive}
use denote.Triple.Walked.{Stays, stay_dropped, walk_of, Goes-dropped}
use prog.Wp.{Wp, after_seq}
use types.Kit.{post}
use Rattle.core.proofs.alloc.Calls.{Al, seen, Takes, at_takes, Answered, Takes-goes, Takes-gives, answers}
use Rattle.core.proofs.alloc.Shapes.{after, head, arm_body}
use Rattle.core.proofs.atomic.Steps.{fm}
use Rattle.core.specs.contracts.result.Result as result
use Rattle.core.specs.contracts.alloc.AllocError as refusal
use Rattle.core.specs.declared.result.Result.TheVariants.{Ok, Err}
use Rattle.std.proofs.raw_atomic.Walks.{proved_at, leaves}
use Rattle.std_alloc.proofs.RcSteps.{word, word-Good}
use Rattle.std_alloc.proofs.ResultValues.{ok_of, err_of}
use Rattle.us_raw.specs.Ownership.{bytes_type}
use Rattle.us_raw.specs.contracts.raw.Bytes as bytes
use Rattle.us_raw.specs.contracts.raw.Right as right
use Rattle.us_raw.specs.contracts.raw.Start as address
use Rattle.us_raw.specs.contracts.raw.allocate.{ended, clauses}
use Rattle.us_raw.specs.contracts.raw.allocate.Key.{name as #self}
use Rattle.us_raw.proofs.raw.allocate.Statement.{statement}
use Rattle.us_raw.proofs.raw.allocate.Code as code
use Rattle.us_raw.proofs.Values.{start_own, start_made, mark_val, mark_own, mark_made, triple_val, triple_made}

pub allocate_spec : {M : Type 1} → statement M
allocate_spec 𝓤 𝓛 𝓜 𝓡 wired A L g d dd met md =
    let H = 𝓛.H in let 𝓣 = tables 𝓤 H 𝓜 𝓡 𝓡.env in let S = ended A g d dd in let c = clauses A g d dd 𝓛 𝓜.mem 𝓡.returns in
    let args : Args = bounded (a_type ∷ []) (A, tt) (dcons d (dcons dd dnil)) in let fn : Fn = inst_fn args code.function in
    let Z : RattleType = param 0 A in let Handle = RefOf {n = 2} (0 ∷ []) tt (plain (λ _. Z)) (λ _. tt) in
    let stayed : Stays S.signature.params S.kept = (stay_dropped Handle yes, (stay_dropped (plain (λ _. usize)) yes, tt)) in
    proved_at 𝓛 S stayed c 𝓜 𝓡 (Goes-dropped 𝓛 2 Handle yes (λ κs x w. refl), (Goes-dropped 𝓛 2 (plain (λ _. usize)) yes (λ κs x w. refl), tt))
    (#self args) fn (code.unfolded 𝓤 H 𝓜 𝓡 wired (A, tt) d dd) (λ z are.
    let a = z.0.3 in let vss = z.0.4 in let κ : Lft = z.0.0.0 in let q : Share = z.0.1.0 in
    let Y : Al = record { row = A; laws = L; g = g; d = d; drops = dd } in
    let h = a.0.now in let at = a.0.ref_ptr in let n = a.1.0 in let τ : Ty = bytes_type n in let fits = are.1.0.1 in
    let y = at_takes Y 𝓛 𝓜.mem 𝓡.returns κ q at h n 1 τ in
    let Post : Val → SProp 𝓤 = (walk_of 𝓛 S stayed c).post z in
    let Owner = right.the_row Z g in let Three : RattleType = Tuple (address.the_row ∷ bytes.the_row ∷ Owner ∷ []) in let Out : RattleType = result.the_row Three refusal.the_row in
    let Asked : Type 0 = n < 2 ^ 63 in
    let rest = raw (alive 𝓛 S.signature z.0.0 z.0.1) in
    qed 𝓛 ((rest ⊛ ‵ (owns (types_at S.signature.params z.0.0) a vss)) ∷ (raw (fact 𝓤 (z.0.0.1.0 ⊑ A.lives)) ⊛ raw (fact 𝓤 Asked)) ∷ []) ∵
    move ! (1 ∷ []) $ split ! $ heard ! (z.0.0.1.0 ⊑ A.lives) (λ le. heard ! Asked (λ asked. split ! $ move ! (1 ∷ []) $
    fsplit ! $ fsplit ! $ drop ! $ use1 𝓛 (‵ (seen Y κ at h)) (id⊢ 𝓤 _) $ move ! (1 ∷ []) $ drop ! $ move ! (1 ∷ []) $
    use1 𝓛 (‵ (flft κ q) ⊛ ‵ (flft z.0.0.1.0 z.0.1.1.0) ⊛ ‵ ftrue) (id⊢ 𝓤 _) $ split ! $ move ! (2 ∷ 0 ∷ []) $
    regoal ! (λ (us : List Val). prop (WpFn 𝓤 H 𝓣.C 𝓣.Λ fn us Post)) (λ i. are.0.0 i ++ (are.1.0.0 i ++ [])) refl $
    enter ! 𝓣.C 𝓣.Λ fn (vptr at.0 at.1 ∷ vint w64 n ∷ []) Post $
    alloc_all ! (λ l. pass_all ! refl ((tt, tt), ((tt, record { fits = fits }), tt)) $
    let En = env fn.locals l in let both = head (after 1 fn.body) in
    let Then = any_q (after_seq 𝓤 H (Wp 𝓤 H 𝓣.C 𝓣.Λ En (after 2 fn.body) (post 𝓤 H (at_ret En Post))) (post 𝓤 H (at_ret En Post))) in
    use2 𝓛 (raw ((Takes Y 𝓛 𝓜.mem 𝓡.returns).pre y))
    (Takes-goes Y 𝓛 𝓜.mem 𝓡.returns κ q at h (⊑_trans κ z.0.0.1.0 A.lives z.0.2.0 le) n 1 τ (capped_is (n * 1) (omega (arith, fits)) ∙ mul-one n) refl fits (lit< tt)) $
    calls_at ! (fm 𝓛 𝓜 𝓡) (Takes Y 𝓛 𝓜.mem 𝓡.returns) (met.allocate dd) y (and_then ! (get ! refl) (and_then ! (get ! refl) (and_then ! (lit ! tt) (no_more !)))) (λ v.
    use1 𝓛 (later (raw (Answered Y 𝓛 𝓜.mem 𝓡.returns h τ v) ⊛ ‵ (flft κ q))) (Takes-gives Y 𝓛 𝓜.mem 𝓡.returns κ q at h n 1 τ v) $ await ! tt $ split ! $
    answers Y ! 𝓜.mem 𝓡.returns h τ v
    (λ b o e.
    let p : Ptr = block_ptr b o in let start : (address.the_row).Denot = record { ptr = p } in let held : (bytes.the_row).Denot = record { mark = record {}; at = p; written = []; room = n } in
    let owed : Owner.Denot = record { mark = record {}; at = p; size = n; alloc = h } in let made = triple_val (word p) mark_val mark_val in
    -- [the room; the token of the block; the tokens]
    lands_as ! e refl (tt, (record { fits = lit< tt }, (tt, tt))) $
    first ! $ switches_on ! (get_tag ! (vrt ! refl (fld ! refl (stop !))) (whole !)) $ exec ! 𝓣.C 𝓣.Λ En (arm_body 0 both) Then $
    sets ! (of_opd ! (get_in ! (vrt ! refl (fld ! refl (stop !))) (in_variant ! 0 0 refl refl (whole !)))) refl (tt, tt) $
    sets ! (agg ! (and_then ! (get ! refl) (no_more !))) refl (word-Good [] p) $
    sets ! (agg ! (no_more !)) refl (tt, tt) $ sets ! (agg ! (and_then ! (get ! refl) (no_more !))) refl (tt, (tt, tt)) $
    sets ! (agg ! (no_more !)) refl (tt, tt) $ sets ! (agg ! (and_then ! (get ! refl) (no_more !))) refl (tt, (tt, tt)) $
    sets ! (agg ! (and_then ! (get ! refl) (and_then ! (get ! refl) (and_then ! (get ! refl) (no_more !))))) refl (tt, ((tt, tt), ((tt, tt), ((tt, tt), tt)))) $
    sets_last ! (agg ! (and_then ! (lit ! tt) (and_then ! (get ! refl) (no_more !)))) refl (tt, (record { fits = lit< tt }, (((tt, tt), ((tt, tt), ((tt, tt), tt))), tt))) $
    exec ! 𝓣.C 𝓣.Λ En (after 2 fn.body) (at_ret En Post) $ sets ! (of_opd ! (get ! refl)) refl (tt, (record { fits = lit< tt }, (((tt, tt), ((tt, tt), ((tt, tt), tt))), tt))) $
    returns ! (look_at ! 0 refl) $ free_all ! refl $
    -- [the room; the token of the block; the token of the handle; the other tokens]
    rewrite ! 0 (λ (k : ℕ). ‵ (froom τ b k)) {x = o + length held.written} (omega arith) refl $ nothing ! $ fjoin ! $
    flt_i ! (length held.written + n) (2 ^ 63) (omega (arith, asked)) $ fjoin ! $ use0 𝓛 (‵ (mark_own (mark_val ∷ []))) (mark_made 𝓛) $ fjoin ! $
    move ! (1 ∷ []) $ use0 𝓛 (‵ (mark_own (mark_val ∷ []))) (mark_made 𝓛) $ fjoin ! $ move ! (1 ∷ 0 ∷ []) $ use0 𝓛 (‵ (start_own p (word p ∷ []))) (start_made 𝓛 p) $
    use3 𝓛 (‵ (Three.own_val (start, held, owed) (made ∷ []))) (triple_made 𝓛 address.the_row bytes.the_row Owner start held owed (word p) mark_val mark_val) $
    use1 𝓛 (‵ (Out.own_val (Ok (start, held, owed)) (live 0 (vcons made vnil) ∷ []))) (ok_of 𝓛 Three refusal.the_row (start, held, owed) made) $
    let Made : Type 0 = (p ≡ p) × (held.written ≡ held.written) × (n ≡ n) × (p ≡ p) × (n ≡ n) × (h ≡ h) in
    use0 𝓛 (raw (fact 𝓤 Made)) (fact_i 𝓤 Made (emp 𝓤) (refl, refl, refl, refl, refl, refl)) $
    move ! (2 ∷ 3 ∷ []) $ join ! $ nothing ! $ nothing ! $ fjoin ! $ nothing ! $ fjoin ! $ move ! (1 ∷ 0 ∷ 3 ∷ 2 ∷ []) $
    by ! (leaves 𝓛 S stayed c z (live 0 (vcons made vnil)) (Ok (start, held, owed)) (tt, (tt, tt)) (tt, (tt, tt))))
    (λ e.
    let Refused : RattleType = Struct (Declared.shape refusal.the_type) in let none : Val = live 1 (vcons (vstruct vnil) vnil) in
    lands_as ! e refl (tt, (record { fits = lit< tt }, (tt, tt))) $
    first ! $ switches_on ! (get_tag ! (vrt ! refl (fld ! refl (stop !))) (whole !)) $ exec ! 𝓣.C 𝓣.Λ En (arm_body 1 both) Then $
    sets ! (of_opd ! (get_in ! (vrt ! refl (fld ! refl (stop !))) (in_variant ! 1 0 refl refl (whole !)))) refl (tt, tt) $
    sets_last ! (agg ! (and_then ! (lit ! tt) (and_then ! (get ! refl) (no_more !)))) refl (tt, (record { fits = lit< tt }, (tt, tt))) $
    exec ! 𝓣.C 𝓣.Λ En (after 2 fn.body) (at_ret En Post) $ sets ! (of_opd ! (get ! refl)) refl (tt, (record { fits = lit< tt }, (tt, tt))) $
    returns ! (look_at ! 0 refl) $ free_all ! refl $
    -- [the token of the handle; the other tokens]
    join ! $ owned ! Refused (Is Refused) (Struct-Makes 𝓛 (Declared.shape refusal.the_type) tt) tt (vstruct vnil ∷ []) (tt, (refl, tt)) $
    use1 𝓛 (‵ (Out.own_val (Err (record {})) (none ∷ []))) (err_of 𝓛 Three refusal.the_row (record {}) (vstruct vnil)) $
    use0 𝓛 (raw (fact 𝓤 (Unit {0}))) (fact_i 𝓤 (Unit {0}) (emp 𝓤) tt) $ nothing ! $ nothing ! $ fjoin ! $ nothing ! $ fjoin ! $ move ! (3 ∷ 0 ∷ 2 ∷ 1 ∷ []) $
    by ! (leaves 𝓛 S stayed c z none (Err (record {})) (tt, (tt, tt)) (tt, (tt, tt)))))))))
