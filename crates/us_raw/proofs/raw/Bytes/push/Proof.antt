-- `push` takes the first byte of the room, and writes it. Assumes `Logic`.
use Rattle.std.proofs.Common.{◌≡◌, ℕ, suc, ◌+◌, ◌-◌, ◌^◌, ◌<◌, List, [], ◌∷◌, ◌++◌, length, refl, sym, ◌∙◌, arith, w8, w64}
use lib.ListN.{length-append}
use base.Fraction.{full_share}
use base.Fml.{ftrue, fat, froom, flft}
use base.Logic.{SProp, emp, never, id⊢}
use mir.Syntax.{ty_int}
use mir.Val.{Val, vint, vptr, vunit}
use prog.Wp.{WpFn}
use contract.Monad.{fact, fact_i}
use contract.Running.{tables}
use types.Kit.{‵, raw, ◌⊛◌, prop, at_ret, ◌$◌, ◌∵◌, !, qed, by, move, drop, use0, use1, use2, split, join, rewrite, regoal, fsplit, fsplit3, fjoin, fjoin3, feq_i, flt_l, flt_i}
use types.Part.{whole, sub}
use types.Run.{init, stop, fld, unit_lit, of_opd, bin, assigns_last, first, blocks, exec, returns, enter}
use types.ByLocal.{alloc_all, pass_all, free_all, look_at, get, get_in, through, sets, take_at, give_at, env}
use denote.Builtin.{u8, usize}
use denote.Exit.{yes}
use denote.Memory.{part_at}
use denote.Param.{layout}
use denote.Plain.{uint_in}
use denote.RattleType.{owns}
use denote.RawPtr.{Ptr, in_a_block}
use denote.Signature.{plain, types_at}
use denote.Steps.{nothing, heard, opens, closes}
use denote.Triple.Walked.{Stays, stay_ref, stay_dropped, walk_of, Goes-ref, Goes-dropped}
use Rattle.core.proofs.alloc.Shapes.{after}
use Rattle.std.proofs.raw_atomic.Walks.{proved_at, leaves}
use Rattle.std_alloc.proofs.RcSteps.{word, word-Good}
use Rattle.us_raw.specs.Ownership.{bytes_type, bytes_own}
use Rattle.us_raw.specs.contracts.raw.Bytes as bytes
use Rattle.us_raw.specs.contracts.raw.Start as address
use Rattle.us_raw.specs.contracts.raw.Bytes.push.{ended, clauses}
use Rattle.us_raw.specs.contracts.raw.Bytes.push.Key.{name as #self}
use Rattle.us_raw.proofs.raw.Bytes.push.Statement.{statement}
use Rattle.us_raw.proofs.raw.Bytes.push.Code as code
use Rattle.us_raw.proofs.Rows.{Row, row_join}
use Rattle.us_raw.proofs.Values.{start_told}

abbrev stayed : Stays ended.signature.params ended.kept
stayed = (stay_ref (0 ∷ []) tt (plain (λ _. bytes.the_row)), (stay_dropped (plain (λ _. address.the_row)) yes, (stay_dropped (plain (λ _. usize)) yes, (stay_dropped (plain (λ _. u8)) yes, tt))))

pub push_spec : {M : Type 1} → statement M
push_spec 𝓤 𝓛 𝓜 𝓡 wired =
    let H = 𝓛.H in let 𝓣 = tables 𝓤 H 𝓜 𝓡 𝓡.env in let c = clauses 𝓛 𝓜.mem 𝓡.returns in let fn = code.function in let B = bytes.the_row in
    proved_at 𝓛 ended stayed c 𝓜 𝓡 (
      Goes-ref 𝓛 1 0 tt (plain (λ _. B)),
      (
        Goes-dropped 𝓛 1 (plain (λ _. address.the_row)) yes (λ κs x w. refl),
        (
          Goes-dropped 𝓛 1 (plain (λ _. usize)) yes (λ κs x w. refl),
          (Goes-dropped 𝓛 1 (plain (λ _. u8)) yes (λ κs x w. refl), tt),
        ),
      ),
    ) #self fn (code.unfolded 𝓤 H 𝓜 𝓡 wired) (λ z are.
    let a = z.0.3 in let vss = z.0.4 in let κ = z.0.0.0 in let q = z.0.1.0 in
    let rb = a.0.ref_ptr.0 in let ro = a.0.ref_ptr.1 in let d = a.0.now in let p = a.1.0.ptr in let index = a.1.1.0 in let byte = a.1.1.1.0 in
    let Post : Val → SProp 𝓤 = (walk_of 𝓛 ended stayed c).post z in
    let Asked : Type 0 = (p ≡ d.at) × (index ≡ length d.written) × (0 < d.room) in
    qed 𝓛 (((‵ (flft κ q) ⊛ ‵ ftrue) ⊛ ‵ (owns (types_at ended.signature.params z.0.0) a vss)) ∷ raw (fact 𝓤 Asked) ∷ []) ∵
    move ! (1 ∷ []) $ heard ! Asked (λ asked. split ! $ move ! (1 ∷ []) $ fsplit ! $ move ! (1 ∷ []) $ drop ! $ fsplit3 ! $ move ! (3 ∷ []) $ split ! $ move ! (3 ∷ 4 ∷ 0 ∷ []) $
    regoal ! (λ (us : List Val). prop (WpFn 𝓤 H 𝓣.C 𝓣.Λ fn us Post)) (λ i. are.0.0 i ++ (start_told p vss.1.0 are.1.0 i ++ (are.1.1.0.0 i ++ (are.1.1.1.0.0 i ++ [])))) refl $
    enter ! 𝓣.C 𝓣.Λ fn (vptr rb ro ∷ word p ∷ vint w64 index ∷ vint w8 byte ∷ []) Post $
    alloc_all ! (λ l. pass_all ! refl ((tt, tt), (word-Good [] p, ((tt, record { fits = are.1.1.0.1 }), ((tt, record { fits = are.1.1.1.0.1 }), tt)))) $
    let En = env fn.locals l in
    opens ! tt B {h = d} rb ro (λ us. move ! (1 ∷ []) $ fsplit ! $ move ! (1 ∷ []) $
    in_a_block ! d.at (λ r. bytes_own r d.written d.room) (id⊢ 𝓤 (never 𝓤)) (λ b o e. fsplit ! $ flt_l ! (λ small. fsplit ! $ move ! (1 ∷ []) $
    -- [the room; the bytes; the mark; its cell; the open borrow; ..]
    let m = d.room - 1 in let at = index + o in let ys = d.written ++ byte ∷ [] in let long = length-append d.written (byte ∷ []) in let new : B.Denot = record { mark = d.mark; at = d.at; written = ys; room = m } in
    let more : d.room ≡ suc m = omega (arith, asked.2) in let here : o + length d.written ≡ at = omega (arith, asked.1) in
    rewrite ! 0 (λ (u : ℕ × ℕ). ‵ (froom (bytes_type u.0) b u.1)) (λ i. (more i, here i)) refl $
    use1 𝓛 (‵ (froom (ty_int w8) b at) ⊛ ‵ (froom (bytes_type m) b (at + 1))) (𝓛.laws.room_uncons (ty_int w8) m b at) $ split ! $
    take_at ! 2 $ rewrite ! 0 (λ (r : Ptr). ‵ (fat full_share (layout address.the_row) (l 2) 0 (word r))) (asked.0 ∙ e) refl $ give_at ! 2 $
    first ! $ blocks ! $
    sets ! (bin ! (get_in ! (fld ! refl (stop !)) (sub ! 0 refl (whole !))) (get ! refl) tt) refl (tt, tt) $
    assigns_last ! (of_opd ! (get ! refl)) (through ! refl (stop !)) (init ! 0 refl (tt, record { fits = are.1.1.1.0.1 })) $
    exec ! 𝓣.C 𝓣.Λ En (after 1 fn.body) (at_ret En Post) $
    sets ! (of_opd ! (unit_lit !)) refl (tt, tt) $
    use1 𝓛 (‵ (part_at u8 full_share byte b at)) (uint_in 𝓛 full_share w8 byte b at) $
    nothing ! $ move ! (1 ∷ 0 ∷ []) $ fjoin ! $ move ! (2 ∷ 0 ∷ []) $
    use2 𝓛 (‵ (Row 𝓛 b o ys)) (row_join 𝓛 b d.written (byte ∷ []) o at (omega (arith, asked.1))) $ move ! (1 ∷ []) $
    rewrite ! 0 (λ (k : ℕ). ‵ (froom (bytes_type m) b k)) {x = o + length ys} (omega (arith, asked.1, long)) refl $ move ! (1 ∷ 0 ∷ []) $ fjoin ! $
    flt_i ! (length ys + m) (2 ^ 63) (omega (arith, long, more)) $ fjoin ! $
    rewrite ! 0 (λ (r : Ptr). ‵ (bytes_own r ys m)) (sym e) refl $ move ! (1 ∷ 0 ∷ []) $ fjoin ! $ move ! (1 ∷ 0 ∷ []) $ closes ! tt B new us rb ro $
    returns ! (look_at ! 0 refl) $ free_all ! refl $
    -- [two parts of self; the token; nothing; self's first part]
    move ! (4 ∷ 0 ∷ 1 ∷ []) $ fjoin3 ! $ nothing ! $ nothing ! $ fjoin ! $ nothing ! $ fjoin ! $ nothing ! $ fjoin ! $ move ! (1 ∷ 0 ∷ []) $ fjoin ! $ move ! (1 ∷ 2 ∷ []) $ join ! $
    feq_i ! (List Val) (vunit ∷ []) (vunit ∷ []) refl $
    let Made : Type 0 = (d.at ≡ d.at) × (ys ≡ ys) × (m + 1 ≡ d.room) in
    use0 𝓛 (raw (fact 𝓤 Made)) (fact_i 𝓤 Made (emp 𝓤) (refl, refl, omega (arith, more))) $ move ! (2 ∷ 3 ∷ 1 ∷ 0 ∷ []) $
    by ! (leaves 𝓛 ended stayed c z vunit tt (new, (tt, (tt, (tt, tt)))) (tt, (tt, (tt, (tt, tt)))))))))))
