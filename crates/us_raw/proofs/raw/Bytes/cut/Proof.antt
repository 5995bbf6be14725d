-- `cut` lends the middle, which the owner follows, and shares the bytes on both sides for as long. Assumes `Logic`.
use Rattle.std.proofs.Common.{◌≡◌, ℕ, ◌+◌, ◌-◌, ◌*◌, ◌^◌, ◌<◌, ◌≤◌, List, [], ◌∷◌, ◌++◌, length, refl, sym, ap, ◌∙◌, arith, subst, w64, MutBor}
use Rattle.std.proofs.Common.{drop as drop_first}
use lib.ListN.{length-append, length-take, length-drop}
use lib.Seq.{take_at as take_front}
use mathlib.Core.List.{append-nil}
use seplogic.Ra.Ura.{Ura}
use base.Fraction.{full_share}
use base.Fml.{Lft, GName, Share, Fml, Incl, Incl-refl, ftrue, fat, froom, flft, fobs, fauth, fbor, fobor, fsep, fseps}
use base.Logic.{SProp, ent, sep, emp, ex, never, id⊢}
use mir.Syntax.{named}
use mir.Val.{Val, vint, vptr}
use prog.Wp.{WpFn}
use contract.BorrowLft.{meet_⊑_right}
use contract.Monad.{fact, fact_i}
use contract.Running.{tables}
use types.Logic.{Logic, sem}
use types.Follow.{takes_beside}
use types.SemTy.{Arr, cells, Body as Borrowed}
use types.Kit.{‵, raw, ◌⊛◌, some, later, prop, at_ret, ◌$◌, ◌∵◌, !, qed, by, move, keep, drop, use0, use1, use2, use3, split, split3, join, group, pick, rewrite, regoal, fsplit, fsplit3, fjoin, fjoin3, fpack, feq_i, feq_l, flt_l, flt_i, await, updating, show, done, now as at_once}
use types.Part.{whole, sub, agg}
use types.Run.{stop, fld, of_opd, bin, and_then, no_more, first, blocks, exec, returns, enter}
use types.ByLocal.{alloc_all, pass_all, free_all, look_at, get, get_in, sets, sets_last, take_at, give_at, env}
use denote.Array.{Array}
use denote.Builtin.{u8, usize}
use denote.Exit.{yes, no}
use denote.Follow.{follows}
use denote.FollowSlice.{slice_of}
use denote.Index.{whole_in, whole_out}
use denote.Memory.{mem, cell_at, part_of, shared_of}
use denote.Opens.{hide}
use denote.Param.{layout}
use denote.Param.Shared.{copy_shared}
use denote.RattleType.{RattleType, owns}
use denote.RawPtr.{Ptr, block_ptr, in_a_block}
use denote.Ref.{Bor}
use denote.Shares.{Shares, shares_each}
use denote.Signature.{plain, types_at, mut_ref_to}
use denote.Slice.{MutSlice, ShrSlice, slice_val, elements_shared}
use denote.Steps.{nothing, heard, opens}
use denote.Struct.Field.{u8-field}
use denote.Struct.Laws.{u8-copy}
use denote.Struct.Tuple.{Tuple}
use denote.Triple.Walked.{Stays, stay_dropped, walk_of, Goes-dropped, Goes-spent_ref}
use Rattle.core.proofs.alloc.Shapes.{after}
use Rattle.std.proofs.raw_atomic.Walks.{proved_at, leaves}
use Rattle.std_alloc.proofs.RcSteps.{word, word-Good}
use Rattle.us_raw.specs.Lends.{overwritten, with_written}
use Rattle.us_raw.specs.Ownership.{bytes_type, bytes_own}
use Rattle.us_raw.specs.declared.raw.Bytes.{Bytes}
use Rattle.us_raw.specs.contracts.raw.Bytes as bytes
use Rattle.us_raw.specs.contracts.raw.Start as address
use Rattle.us_raw.specs.contracts.raw.Bytes.cut.{ended, clauses}
use Rattle.us_raw.specs.contracts.raw.Bytes.cut.Key.{name as #self}
use Rattle.us_raw.proofs.raw.Bytes.cut.Statement.{statement}
use Rattle.us_raw.proofs.raw.Bytes.cut.Code as code
use Rattle.us_raw.proofs.Rows.{Row, before, middle, behind, middle_long, three_out, three_in}
use Rattle.us_raw.proofs.Values.{start_told, mark_own, triple_val, triple_made}

abbrev stayed : Stays ended.signature.params ended.kept
stayed = (
  stay_dropped (mut_ref_to (0 ∷ []) tt (plain (λ _. bytes.the_row))) no,
  (
    stay_dropped (plain (λ _. address.the_row)) yes,
    (
      stay_dropped (plain (λ _. usize)) yes,
      (stay_dropped (plain (λ _. usize)) yes, (stay_dropped (plain (λ _. usize)) yes, tt)),
    ),
  ),
)

abbrev B : RattleType
B = bytes.the_row

-- a `&mut` to bytes holds no lifetime of its own
lives_no_less : (κ : Lft) → Incl κ []
lives_no_less κ = subst (λ (l : Lft). Incl l []) (append-nil κ) (meet_⊑_right κ [])

module _ {M : Type 1} {𝓤 : Ura M} (𝓛 : Logic 𝓤) (κ : Lft) (q : Share) (rb ro : ℕ) (γ : GName) (d : Bytes) (b o from count : ℕ) (us : List Val) where
  open 𝓛 use {H, A}

  abbrev new : List ℕ → Bytes
  new ws = with_written d (overwritten d.written from count ws)

  abbrev left : List ℕ
  left = before 𝓛 b d.written from count

  abbrev lent : List ℕ
  lent = middle 𝓛 b d.written from count

  abbrev right : List ℕ
  right = behind 𝓛 b d.written from count

  abbrev sides : List Fml
  sides = Row 𝓛 b o left ∷ Row 𝓛 b (from + count + o) right ∷ []

  abbrev Rest : Fml
  Rest = fsep (froom (bytes_type d.room) b (o + length d.written)) (fsep (mark_own us) (cell_at full_share B.mir us rb ro))

  module _ (at : d.at ≡ block_ptr b o) (fits : from + count ≤ length d.written) (small : length d.written + d.room < 2 ^ 63) where
    again : (ws : List ℕ) → ent 𝓤 (sep 𝓤 (sem 𝓛 ((Arr (mem u8) (length lent)).own_at ws b (from + o))) (sep 𝓤 (sem 𝓛 (fseps sides)) (sem 𝓛 Rest))) (sem 𝓛 ((mem B).own_at (new ws) rb ro))
    unfolding fseps part_of
    again ws =
        let ys = left ++ (ws ++ right) in
        qed 𝓛 (‵ ((Arr (mem u8) (length lent)).own_at ws b (from + o)) ∷ ‵ (fseps sides) ∷ ‵ Rest ∷ []) ∵ fsplit ! $ feq_l ! (λ same_length.
        let long : length ws ≡ count = same_length ∙ sym (middle_long 𝓛 b d.written from count o fits) in
        let all : overwritten d.written from count ws ≡ ys = ap (λ l. left ++ (l ++ right)) (take_front ws (drop_first (length ws) lent) count long) in
        let same : length (new ws).written ≡ length d.written = ap length all ∙ omega (arith, long, length-append left (ws ++ right), length-append ws right, length-take from d.written, length-drop (from + count) d.written) in
        use1 𝓛 (‵ (Row 𝓛 b (from + o) ws)) (whole_out 𝓛 u8 ws b (from + o)) $ move ! (1 ∷ []) $ fsplit3 ! $ move ! (0 ∷ 3 ∷ 1 ∷ []) $ group ! 3 $
        use1 𝓛 (‵ (Row 𝓛 b o ys)) (three_in 𝓛 b d.written from count o fits ws (sym long)) $
        rewrite ! 0 (λ (l : List ℕ). ‵ (Row 𝓛 b o l)) (sym all) refl $ move ! (2 ∷ []) $ fsplit3 ! $
        rewrite ! 0 (λ (k : ℕ). ‵ (froom (bytes_type d.room) b (o + k))) (sym same) refl $ move ! (3 ∷ 0 ∷ []) $ fjoin ! $
        flt_i ! (length (new ws).written + d.room) (2 ^ 63) (omega (arith, same, small)) $ fjoin ! $
        rewrite ! 0 (λ (r : Ptr). ‵ (bytes_own r (new ws).written d.room)) (sym at) refl $ move ! (1 ∷ 0 ∷ 2 ∷ []) $ fjoin ! $ move ! (1 ∷ 0 ∷ []) $ fjoin ! $
        fpack ! (List Val) (λ vs. fsep (cell_at full_share B.mir vs rb ro) (B.own_val (new ws) vs)) us $ keep ! (0 ∷ []) $ done !)

    abbrev lent_slice : GName → MutBor (List ℕ)
    lent_slice δ = record { ref_ptr = (b, from + o); ghost_name = δ; now = lent }

    abbrev Got : GName → SProp 𝓤
    Got δ = sep 𝓤 (sem 𝓛 ((MutSlice (named 0) κ u8).own_val (lent_slice δ) (slice_val (b, from + o) (length lent) ∷ []))) (sep 𝓤 (sem 𝓛 (elements_shared u8 left b o κ))
        (sep 𝓤 (sem 𝓛 (elements_shared u8 right b (from + count + o) κ)) (sep 𝓤 (A.lft κ q) (sem 𝓛 (follows B (Array u8 0) γ δ new)))))

    lends : ent 𝓤 (sep 𝓤 (A.obor κ q (Borrowed (mem B) rb ro γ)) (sep 𝓤 (A.obs γ (B.coded.code d)) (sep 𝓤 (A.auth γ (B.coded.code d)) (sep 𝓤 (sem 𝓛 (Row 𝓛 b o d.written))
        (sep 𝓤 (sem 𝓛 (froom (bytes_type d.room) b (o + length d.written))) (sep 𝓤 (sem 𝓛 (mark_own us)) (sem 𝓛 (cell_at full_share B.mir us rb ro)))))))) (H.⇛ (ex 𝓤 Got))
    unfolding fseps
    lends =
        let Items = Arr (mem u8) (length lent) in let code = B.coded.code d in let each : Shares 𝓛 u8 [] = (copy_shared u8-field u8-copy).shares M 𝓤 𝓛 in
        let few : length lent ≡ count = sym (middle_long 𝓛 b d.written from count o fits) in
        qed 𝓛 (‵ (fobor κ q (Borrowed (mem B) rb ro γ)) ∷ ‵ (fobs γ code) ∷ ‵ (fauth γ code) ∷ ‵ (Row 𝓛 b o d.written)
        ∷ ‵ (froom (bytes_type d.room) b (o + length d.written)) ∷ ‵ (mark_own us) ∷ ‵ (cell_at full_share B.mir us rb ro) ∷ []) ∵ updating ! $ move ! (3 ∷ []) $
        use1 𝓛 (‵ (Row 𝓛 b o left) ⊛ ‵ (Row 𝓛 b (from + o) lent) ⊛ ‵ (Row 𝓛 b (from + count + o) right)) (three_out 𝓛 b d.written from count o fits) $ split3 ! $
        nothing ! $ move ! (3 ∷ 0 ∷ []) $ fjoin ! $ move ! (1 ∷ 0 ∷ []) $ fjoin ! $
        -- [the sides; the middle; the open borrow; obs; auth; the room; the mark; its cell]
        move ! (5 ∷ 6 ∷ 7 ∷ []) $ fjoin3 ! $ move ! (2 ∷ []) $ use1 𝓛 (‵ (cells (mem u8) lent b (from + o))) (whole_in 𝓛 u8 lent b (from + o)) $
        feq_i ! ℕ (length lent) (length lent) refl $ fjoin ! $ move ! (3 ∷ 4 ∷ 5 ∷ 0 ∷ 2 ∷ 1 ∷ []) $ group ! 6 $
        use1 𝓛 (later (some (λ (δ : GName). ‵ (fobs δ (Items.coded.code lent)) ⊛ ‵ (fbor κ (Borrowed Items b (from + o) δ)) ⊛ ‵ (flft κ q) ⊛ ‵ (follows B (Array u8 0) γ δ new)
        ⊛ ‵ (fbor κ (Row 𝓛 b o left)) ⊛ ‵ (fbor κ (Row 𝓛 b (from + count + o) right)) ⊛ ‵ ftrue)))
        (takes_beside 𝓛 (mem B) Items new κ q rb ro b (from + o) γ sides (sem 𝓛 Rest) again code code lent) $ await ! tt $ pick ! (λ δ. split3 ! $
        use2 𝓛 (‵ ((MutSlice (named 0) κ u8).own_val (lent_slice δ) (slice_val (b, from + o) (length lent) ∷ []))) (slice_of 𝓛 u8 (named 0) κ b (from + o) δ lent (omega (arith, few, fits, small), omega (arith, few, fits, small))) $
        move ! (1 ∷ []) $ split3 ! $ move ! (2 ∷ []) $ split3 ! $
        -- [the borrows of the two sides; nothing; the token; how the owner follows; the slice]
        move ! (0 ∷ 3 ∷ []) $ use2 𝓛 (later (‵ (elements_shared u8 left b o κ) ⊛ ‵ (flft κ q)))
        (shares_each 𝓛 u8 (shared_of u8) [] each left κ ((κ, q) ∷ []) b o (lives_no_less κ) (Incl-refl κ)) $ await ! tt $ split ! $
        move ! (2 ∷ 1 ∷ []) $ use2 𝓛 (later (‵ (elements_shared u8 right b (from + count + o) κ) ⊛ ‵ (flft κ q)))
        (shares_each 𝓛 u8 (shared_of u8) [] each right κ ((κ, q) ∷ []) b (from + count + o) (lives_no_less κ) (Incl-refl κ)) $ await ! tt $ split ! $
        at_once ! $ show ! Got δ $ keep ! (5 ∷ 2 ∷ 0 ∷ 1 ∷ 4 ∷ []) $ done !)

module _ {M : Type 1} {𝓤 : Ura M} (𝓛 : Logic 𝓤) (κ : Lft) (xs : List ℕ) (b o n : ℕ) where
  -- bytes that are shared make a slice
  seen_as_slice : n ≡ length xs → n < 2 ^ 63 → ent 𝓤 (sem 𝓛 (elements_shared u8 xs b o κ)) (sem 𝓛 ((ShrSlice (named 0) κ u8).own_val (record { ref_ptr = (b, o); now = xs }) (slice_val (b, o) n ∷ [])))
  seen_as_slice long small = qed 𝓛 (‵ (elements_shared u8 xs b o κ) ∷ []) ∵ hide ! $ flt_i ! (length xs * 1) (2 ^ 63) (omega (arith, long, small)) $ flt_i ! (length xs) (2 ^ 64) (omega (arith, long, small)) $ fjoin ! $
      feq_i ! (List Val) (slice_val (b, o) n ∷ []) (slice_val (b, o) (length xs) ∷ []) (ap (λ k. slice_val (b, o) k ∷ []) long) $ fjoin ! $ fjoin ! $ done !

pub cut_spec : {M : Type 1} → statement M
cut_spec 𝓤 𝓛 𝓜 𝓡 wired =
    let H = 𝓛.H in let 𝓣 = tables 𝓤 H 𝓜 𝓡 𝓡.env in let c = clauses 𝓛 𝓜.mem 𝓡.returns in let fn = code.function in
    let drops = Goes-dropped 𝓛 1 (plain (λ _. usize)) yes (λ κs x w. refl) in
    proved_at 𝓛 ended stayed c 𝓜 𝓡
    (Goes-spent_ref 𝓛 1 (0 ∷ []) tt (plain (λ _. B)), (Goes-dropped 𝓛 1 (plain (λ _. address.the_row)) yes (λ κs x w. refl), (drops, (drops, (drops, tt))))) #self fn (code.unfolded 𝓤 H 𝓜 𝓡 wired) (λ z are.
    let a = z.0.3 in let vss = z.0.4 in let κ = z.0.0.0 in let q = z.0.1.0 in
    let rb = a.0.ref_ptr.0 in let ro = a.0.ref_ptr.1 in let γ = a.0.ghost_name in let d = a.0.now in let p = a.1.0.ptr in let len = a.1.1.0 in let from = a.1.1.1.0 in let count = a.1.1.1.1.0 in
    let Post : Val → SProp 𝓤 = (walk_of 𝓛 ended stayed c).post z in
    let Asked : Type 0 = (p ≡ d.at) × (len ≡ length d.written) × (from + count ≤ len) in
    let fits_len = are.1.1.0.1 in let fits_from = are.1.1.1.0.1 in let fits_count = are.1.1.1.1.0.1 in
    qed 𝓛 (((‵ (flft κ q) ⊛ ‵ ftrue) ⊛ ‵ (owns (types_at ended.signature.params z.0.0) a vss)) ∷ raw (fact 𝓤 Asked) ∷ []) ∵
    move ! (1 ∷ []) $ heard ! Asked (λ asked. split ! $ move ! (1 ∷ []) $ fsplit ! $ move ! (1 ∷ []) $ drop ! $ fsplit3 ! $ drop ! $ move ! (2 ∷ []) $ split ! $ move ! (2 ∷ 3 ∷ 0 ∷ []) $
    regoal ! (λ (us : List Val). prop (WpFn 𝓤 H 𝓣.C 𝓣.Λ fn us Post)) (λ i. are.0.0 i ++ (start_told p vss.1.0 are.1.0 i ++ (are.1.1.0.0 i ++ (are.1.1.1.0.0 i ++ (are.1.1.1.1.0.0 i ++ []))))) refl $
    enter ! 𝓣.C 𝓣.Λ fn (vptr rb ro ∷ word p ∷ vint w64 len ∷ vint w64 from ∷ vint w64 count ∷ []) Post $
    alloc_all ! (λ l. pass_all ! refl ((tt, tt), (word-Good [] p, ((tt, record { fits = fits_len }), ((tt, record { fits = fits_from }), ((tt, record { fits = fits_count }), tt))))) $
    let En = env fn.locals l in
    opens ! tt B {h = d} rb ro (λ us. move ! (1 ∷ []) $ fsplit ! $ move ! (1 ∷ []) $
    in_a_block ! d.at (λ r. bytes_own r d.written d.room) (id⊢ 𝓤 (never 𝓤)) (λ b o e. fsplit ! $ flt_l ! (λ small. fsplit ! $
    let fits : from + count ≤ length d.written = omega (arith, asked.1, asked.2) in let rest = len - (from + count) in
    let xs = before 𝓛 b d.written from count in let ms = middle 𝓛 b d.written from count in let ys = behind 𝓛 b d.written from count in
    let long : count ≡ length ms = middle_long 𝓛 b d.written from count o fits in
    take_at ! 2 $ rewrite ! 0 (λ (r : Ptr). ‵ (fat full_share (layout address.the_row) (l 2) 0 (word r))) (asked.0 ∙ e) refl $ give_at ! 2 $
    first ! $ blocks ! $
    sets ! (bin ! (get_in ! (fld ! refl (stop !)) (sub ! 0 refl (whole !))) (get ! refl) tt) refl (tt, tt) $
    sets ! (bin ! (get ! refl) (get ! refl) (record { fits = omega (arith, fits, small) })) refl (tt, record { fits = omega (arith, fits, small) }) $
    sets ! (bin ! (get_in ! (fld ! refl (stop !)) (sub ! 0 refl (whole !))) (get ! refl) tt) refl (tt, tt) $
    sets ! (agg ! (and_then ! (get_in ! (fld ! refl (stop !)) (sub ! 0 refl (whole !))) (and_then ! (get ! refl) (no_more !)))) refl (tt, (tt, (record { fits = fits_from }, tt))) $
    sets ! (agg ! (and_then ! (get ! refl) (and_then ! (get ! refl) (no_more !)))) refl (tt, (tt, (record { fits = fits_count }, tt))) $
    sets ! (bin ! (get ! refl) (get ! refl) (record { fits = omega (arith, fits, small) })) refl (tt, record { fits = omega (arith, fits, small) }) $
    sets ! (bin ! (get ! refl) (get ! refl) asked.2) refl (tt, record { fits = omega (arith, fits_len) }) $
    sets ! (agg ! (and_then ! (get ! refl) (and_then ! (get ! refl) (no_more !)))) refl (tt, (tt, (record { fits = omega (arith, fits_len) }, tt))) $
    sets_last ! (agg ! (and_then ! (get ! refl) (and_then ! (get ! refl) (and_then ! (get ! refl) (no_more !))))) refl
    (tt, ((tt, (record { fits = fits_from }, tt)), ((tt, (record { fits = fits_count }, tt)), ((tt, (record { fits = omega (arith, fits_len) }, tt)), tt)))) $
    exec ! 𝓣.C 𝓣.Λ En (after 1 fn.body) (at_ret En Post) $
    sets ! (of_opd ! (get ! refl)) refl (tt, ((tt, (record { fits = fits_from }, tt)), ((tt, (record { fits = fits_count }, tt)), ((tt, (record { fits = omega (arith, fits_len) }, tt)), tt)))) $
    -- [the bytes; the room; the mark; its cell; the open borrow; obs; auth; ..]
    move ! (4 ∷ 5 ∷ 6 ∷ 0 ∷ 1 ∷ 2 ∷ 3 ∷ []) $ group ! 7 $
    use1 𝓛 (later (some (λ (δ : GName). ‵ ((MutSlice (named 0) κ u8).own_val (record { ref_ptr = (b, from + o); ghost_name = δ; now = ms }) (slice_val (b, from + o) (length ms) ∷ []))
    ⊛ ‵ (elements_shared u8 xs b o κ) ⊛ ‵ (elements_shared u8 ys b (from + count + o) κ) ⊛ ‵ (flft κ q) ⊛ ‵ (follows B (Array u8 0) γ δ (new 𝓛 κ q rb ro γ d b o from count us)))))
    (lends 𝓛 κ q rb ro γ d b o from count us e fits small) $ await ! tt $ pick ! (λ δ. split3 ! $
    let low : Bor (List ℕ) = record { ref_ptr = (b, o); now = xs } in let mid : MutBor (List ℕ) = record { ref_ptr = (b, from + o); ghost_name = δ; now = ms } in
    let high : Bor (List ℕ) = record { ref_ptr = (b, from + count + o); now = ys } in
    let Seen = ShrSlice (named 0) κ u8 in let Lent = MutSlice (named 0) κ u8 in
    let u = slice_val (b, o) from in let v = slice_val (b, from + o) count in let w = slice_val (b, from + count + o) rest in
    rewrite ! 0 (λ (k : ℕ). ‵ (Lent.own_val mid (slice_val (b, from + o) k ∷ []))) (sym long) refl $ move ! (1 ∷ []) $
    use1 𝓛 (‵ (Seen.own_val low (u ∷ []))) (seen_as_slice 𝓛 κ xs b o from (omega (arith, fits, length-take from d.written)) (omega (arith, fits, small))) $ move ! (2 ∷ []) $ split3 ! $
    use1 𝓛 (‵ (Seen.own_val high (w ∷ []))) (seen_as_slice 𝓛 κ ys b (from + count + o) rest (omega (arith, asked.1, length-drop (from + count) d.written)) (omega (arith, asked.1, small))) $
    move ! (3 ∷ 4 ∷ 0 ∷ []) $ use3 𝓛 (‵ ((Tuple (Seen ∷ Lent ∷ Seen ∷ [])).own_val (low, mid, high) (triple_val u v w ∷ []))) (triple_made 𝓛 Seen Lent Seen low mid high u v w) $
    -- [the slices; the token; how the owner follows; nothing; ..]
    returns ! (look_at ! 0 refl) $ free_all ! refl $
    let Made : Type 0 = (xs ≡ xs) × (ms ≡ ms) × (ys ≡ ys) in
    use0 𝓛 (raw (fact 𝓤 Made)) (fact_i 𝓤 Made (emp 𝓤) (refl, refl, refl)) $ move ! (3 ∷ 0 ∷ []) $ join ! $ move ! (2 ∷ 3 ∷ []) $ join ! $
    -- [the tokens; what the caller learns; the slices]
    nothing ! $ nothing ! $ fjoin ! $ nothing ! $ fjoin ! $ nothing ! $ fjoin ! $ nothing ! $ fjoin ! $ nothing ! $ fjoin ! $ move ! (1 ∷ 0 ∷ 3 ∷ 2 ∷ []) $
    by ! (leaves 𝓛 ended stayed c z (triple_val u v w) (low, mid, high) (tt, (tt, (tt, (tt, (tt, tt))))) (tt, (tt, (tt, (tt, (tt, tt)))))))))))))
