-- The loops that count are typed.
use Rattle.std.proofs.Common.{◌≡◌, ◌≢◌, ℕ, ◌+◌, ◌<◌, Bool, true, false, cond, eqb, not, ◌&&◌, nat_eq, refl, ap, ap₂, ◌∙◌, arith, List, [], ◌∷◌, Option, Some, None}
use Rattle.std.proofs.lemmas.Bool.Decides.{nat_tests}
use Rattle.us_code.specs.declared.program.Dim.{Dim}
use Rattle.us_code.specs.declared.program.Dim.TheVariants as dim
use Rattle.us_code.specs.declared.program.Buf.{Buf}
use Rattle.us_code.specs.declared.program.Buf.TheVariants as buf
use Rattle.us_code.specs.declared.program.CellKind.{CellKind}
use Rattle.us_code.specs.declared.program.CellKind.TheVariants as kind
use Rattle.us_code.specs.declared.pieces.Columns.{Columns}
use Rattle.us_code.specs.Plain.{Number, Reg, Code, End, Set, When}
use Rattle.us_code.specs.Typing.{Context, RegKind, BufKind, is_some, is_put, reg_kind, buf_len, buf_cell, with_reg, fits, fits_cell, fine, same_dim, sees_bufs, are_keys, is_below, Typed}
use Rattle.us_code_laws.proofs.Sequence.{put_same, put_other}
use Rattle.us_code_laws.proofs.Sound.{both_true}
use Rattle.us_gen.specs.Rooms.{FreshFrom}
use Rattle.us_gen_query.specs.Filling.{words, Visible}
use Rattle.us_gen_query.specs.Counting.{row_major, run_step, run_place, run_length, longest, enumerate_turn, sum_turn, look_up, places, EnumerateTyped, SumTyped}
use Rattle.us_gen_query.proofs.FillsFit.{fits_same}

same_number : (n : ℕ) → nat_eq n n ≡ true
same_number n = grind (arith, nat_tests)

-- ---- keys

abbrev KeysOk : Context → ℕ → List Buf → Type 0
KeysOk g p keys = (sees_bufs g keys ≡ true) × (are_keys g (buf.New p) keys ≡ true)

keys_more : (g : Context) (cs : Columns) (p b : ℕ) (keys : List Buf) → g.bufs p ≡ Some (places cs) → g.bufs b ≡ Some (words cs) → b ≢ p → KeysOk g p keys → KeysOk g p (buf.New b ∷ keys)
keys_more g cs p b keys hp hb ne h =
    let long : same_dim (buf_len (g.bufs b)) (buf_len (g.bufs p)) ≡ true = ap₂ same_dim (ap buf_len hb) (ap buf_len hp) ∙ same_number cs.count in
    let other : nat_eq b p ≡ false = grind (arith, nat_tests) in (
      both_true (is_some (g.bufs b)) (sees_bufs g keys) (ap is_some hb) h.0,
      both_true (same_dim (buf_len (g.bufs b)) (buf_len (g.bufs p)) && not (nat_eq b p)) (are_keys g (buf.New p) keys) (both_true (same_dim (buf_len (g.bufs b)) (buf_len (g.bufs p))) (not (nat_eq b p)) long (ap not other)) h.1,
    )

row_major_ok : (g : Context) (cs : Columns) (k p : ℕ) → Visible g cs → g.bufs p ≡ Some (places cs) → g.bufs k ≡ Some (words cs) → k ≢ p → cs.i ≢ p → cs.j ≢ p → KeysOk g p (row_major cs k)
row_major_ok g cs k p v hp hk nk ni nj = case (eqb k cs.i) (eqb k cs.j)
  where
    i : g.bufs cs.i ≡ Some (words cs)
    i = v.columns 0 (omega arith)

    j : g.bufs cs.j ≡ Some (words cs)
    j = v.columns 1 (omega arith)

    one : (b : ℕ) → g.bufs b ≡ Some (words cs) → b ≢ p → KeysOk g p (buf.New b ∷ [])
    one b hb nb = keys_more g cs p b [] hp hb nb (refl, refl)

    case : (x y : Bool) → KeysOk g p (cond x (buf.New k ∷ buf.New cs.j ∷ []) (cond y (buf.New k ∷ buf.New cs.i ∷ []) (buf.New k ∷ buf.New cs.i ∷ buf.New cs.j ∷ [])))
    case true y = keys_more g cs p k (buf.New cs.j ∷ []) hp hk nk (one cs.j j nj)
    case false true = keys_more g cs p k (buf.New cs.i ∷ []) hp hk nk (one cs.i i ni)
    case false false = keys_more g cs p k (buf.New cs.i ∷ buf.New cs.j ∷ []) hp hk nk (keys_more g cs p cs.i (buf.New cs.j ∷ []) hp i ni (one cs.j j nj))

place_below : (g : Context) (cs : Columns) (p : ℕ) → g.bufs p ≡ Some (places cs) → is_below (buf_cell (g.bufs p)) (buf_len (g.bufs p)) ≡ true
place_below g cs p hp = ap₂ is_below (ap buf_cell hp) (ap buf_len hp) ∙ same_number cs.count

-- ---- a step along the runs

-- a register that may change
abbrev a_var : RegKind
a_var = record { is_var = true; kind = kind.Word }

-- a place of the entries
abbrev a_place : Columns → RegKind
a_place cs = record { is_var = false; kind = kind.Below (dim.Name cs.count) }

-- in front of a step
record Running (g : Context) (cs : Columns) (n : ℕ) : Type 0 where
  pub last : g.regs n ≡ Some a_var
  pub start : g.regs (n + 1) ≡ Some a_var
  pub rank : g.regs (n + 3) ≡ Some (a_place cs)
  pub fresh : FreshFrom g (n + 4)

abbrev inside : Context → ℕ → ℕ → ℕ → Context
inside g p k n = with_reg (with_reg g (n + 4) false (buf_cell (g.bufs p))) (n + 5) false (buf_cell (g.bufs k))

-- behind it
record Stepped (g h : Context) (cs : Columns) (n : ℕ) : Type 0 where
  pub last : h.regs n ≡ Some a_var
  pub start : h.regs (n + 1) ≡ Some a_var
  pub most : h.regs (n + 2) ≡ g.regs (n + 2)
  pub rank : h.regs (n + 3) ≡ Some (a_place cs)
  pub place : h.regs (n + 4) ≡ Some (a_place cs)
  pub value : is_some (h.regs (n + 5)) ≡ true
  pub fresh : FreshFrom h (n + 6)

stepped : (g : Context) (cs : Columns) (p k n : ℕ) → Running g cs n → g.bufs p ≡ Some (places cs) → Stepped g (inside g p k n) cs n
stepped g cs p k n r hp =
    let g1 = with_reg g (n + 4) false (buf_cell (g.bufs p)) in
    let through : (x : ℕ) → x < n + 4 → (inside g p k n).regs x ≡ g.regs x = λ x lt. put_other g1.regs (n + 5) _ x (omega (arith, lt)) ∙ put_other g.regs (n + 4) _ x (omega (arith, lt)) in
    record {
      last = through n (omega arith) ∙ r.last;
      start = through (n + 1) (omega arith) ∙ r.start;
      most = through (n + 2) (omega arith);
      rank = through (n + 3) (omega arith) ∙ r.rank;
      place = put_other g1.regs (n + 5) _ (n + 4) (omega arith) ∙ (put_same g.regs (n + 4) _ ∙ ap (λ (c : CellKind). Some record { is_var = false; kind = c }) (ap buf_cell hp));
      value = ap is_some (put_same g1.regs (n + 5) _);
      fresh = record { none = λ x le. put_other g1.regs (n + 5) _ x (omega (arith, le)) ∙ (put_other g.regs (n + 4) _ x (omega (arith, le)) ∙ r.fresh.none x (omega (arith, le))) };
    }

-- a register that holds a place of the entries is a place in each of their buffers
placed : (o : Option RegKind) (b : Option BufKind) (cs : Columns) (c : CellKind) → o ≡ Some (a_place cs) → b ≡ Some record { len = dim.Name cs.count; cell = c } → fits (reg_kind o) (buf_len b) ≡ true
placed o b cs c ho hb = ap₂ (λ (x : Option RegKind) (e : Dim). fits (reg_kind x) e) ho (ap buf_len hb) ∙ fits_same (dim.Name cs.count)

step_typed : (g : Context) (cs : Columns) (p k n : ℕ) (inner : Code) → Running g cs n → g.bufs p ≡ Some (places cs) → g.bufs k ≡ Some (words cs) → Typed (inside g p k n) inner → Typed g (run_step p k n inner)
step_typed g cs p k n inner r hp hk t =
    let g1 = with_reg g (n + 4) false (buf_cell (g.bufs p)) in
    let x = stepped g cs p k n r hp in
    let place : g1.regs (n + 4) ≡ Some (a_place cs) = put_same g.regs (n + 4) _ ∙ ap (λ (c : CellKind). Some record { is_var = false; kind = c }) (ap buf_cell hp) in (
      r.fresh.none (n + 4) (omega arith),
      ap is_some hp,
      ap is_some r.rank,
      placed (g.regs (n + 3)) (g.bufs p) cs (kind.Below (dim.Name cs.count)) r.rank hp,
      (
        put_other g.regs (n + 4) _ (n + 5) (omega arith) ∙ r.fresh.none (n + 5) (omega arith),
        ap is_some hk,
        ap is_some place,
        placed (g1.regs (n + 4)) (g.bufs k) cs kind.Word place hk,
        (x.value, ap is_some x.last, tt, (ap is_put x.last, x.value, (ap is_put x.start, ap is_some x.rank, tt)), t),
      ),
    )

place_fine : (g h : Context) (cs : Columns) (n : ℕ) → Stepped g h cs n → fine h (run_place n) ≡ true
place_fine g h cs n x = both_true (is_some (h.regs (n + 3))) (is_some (h.regs (n + 1))) (ap is_some x.rank) (ap is_some x.start)

length_fine : (g h : Context) (cs : Columns) (n : ℕ) → Stepped g h cs n → fine h (run_length n) ≡ true
length_fine g h cs n x = both_true (fine h (run_place n)) true (place_fine g h cs n x) refl

-- ---- enumerate

pub enumerate_typed : EnumerateTyped
enumerate_typed g cs k p z w n f v hk hp hz hw nk ni nj =
    let g1 = with_reg g n true kind.Word in
    let g2 = with_reg g1 (n + 1) true kind.Word in
    let g3 = with_reg g2 (n + 2) true kind.Word in
    let g4 = with_reg g3 (n + 3) false (kind.Below (dim.Name cs.count)) in
    let h = inside g4 p k n in
    let keys = row_major_ok g cs k p v hp hk nk ni nj in
    let most4 : g4.regs (n + 2) ≡ Some a_var = put_other g3.regs (n + 3) _ (n + 2) (omega arith) ∙ put_same g2.regs (n + 2) _ in
    let running : Running g4 cs n = record {
      last = put_other g3.regs (n + 3) _ n (omega arith) ∙ (put_other g2.regs (n + 2) _ n (omega arith) ∙ (put_other g1.regs (n + 1) _ n (omega arith) ∙ put_same g.regs n _));
      start = put_other g3.regs (n + 3) _ (n + 1) (omega arith) ∙ (put_other g2.regs (n + 2) _ (n + 1) (omega arith) ∙ put_same g1.regs (n + 1) _);
      rank = put_same g3.regs (n + 3) _;
      fresh = record { none = λ x le. put_other g3.regs (n + 3) _ x (omega (arith, le)) ∙ (put_other g2.regs (n + 2) _ x (omega (arith, le)) ∙ (put_other g1.regs (n + 1) _ x (omega (arith, le)) ∙ (put_other g.regs n _ x (omega (arith, le)) ∙ f.none x (omega (arith, le))))) };
    } in
    let x : Stepped g4 h cs n = stepped g4 cs p k n running hp in
    let most : h.regs (n + 2) ≡ Some a_var = x.most ∙ most4 in
    let free3 : g3.regs (n + 3) ≡ None = put_other g2.regs (n + 2) _ (n + 3) (omega arith) ∙ (put_other g1.regs (n + 1) _ (n + 3) (omega arith) ∙ (put_other g.regs n _ (n + 3) (omega arith) ∙ f.none (n + 3) (omega arith))) in
    let length_ok = length_fine g4 h cs n x in
    let turn : Typed g4 (enumerate_turn p k z n) = step_typed g4 cs p k n (Set (buf.New z) (Reg (n + 4)) (run_place n) (longest n)) running hp hk (
      refl,
      ap is_some hz,
      ap is_some x.place,
      place_fine g4 h cs n x,
      placed (h.regs (n + 4)) (g.bufs z) cs kind.Word x.place hz,
      ap (fits_cell kind.Word) (ap buf_cell hz),
      (ap is_some most, length_ok, (ap is_put most, length_ok, tt), tt, tt),
    ) in
    let free1 : g1.regs (n + 1) ≡ None = put_other g.regs n _ (n + 1) (omega arith) ∙ f.none (n + 1) (omega arith) in
    let free2 : g2.regs (n + 2) ≡ None = put_other g1.regs (n + 1) _ (n + 2) (omega arith) ∙ (put_other g.regs n _ (n + 2) (omega arith) ∙ f.none (n + 2) (omega arith)) in
    let last : Typed g3 (Set (buf.New w) (Number 0) (Reg (n + 2)) End) = (refl, ap is_some hw, refl, ap is_some (put_same g2.regs (n + 2) _), ap (fits (kind.Below (dim.Number 1))) (ap buf_len hw), ap (fits_cell (reg_kind (g3.regs (n + 2)))) (ap buf_cell hw), tt) in
    (refl, ap is_some hp, keys.0, place_below g cs p hp, keys.1, (f.none n (omega arith), refl, (free1, refl, (free2, refl, (free3, v.count, turn, last)))))

-- ---- sum

look_up_typed : (g : Context) (cs : Columns) (z t n : ℕ) → FreshFrom g n → is_some (g.dims cs.count) ≡ true → g.bufs z ≡ Some (words cs) → g.bufs t ≡ Some (words cs) → Typed g (look_up cs z t n)
look_up_typed g cs z t n f d hz ht =
    let g1 = with_reg g n false (kind.Below (dim.Name cs.count)) in
    let g2 = with_reg g1 (n + 1) false (buf_cell (g.bufs z)) in
    let g3 = with_reg g2 (n + 2) false (kind.Below (dim.Name cs.count)) in
    let g4 = with_reg g3 (n + 3) false (buf_cell (g.bufs t)) in
    let at1 : g1.regs n ≡ Some (a_place cs) = put_same g.regs n _ in
    let at3 : g3.regs (n + 2) ≡ Some (a_place cs) = put_same g2.regs (n + 2) _ in
    let at4 : g4.regs n ≡ Some (a_place cs) = put_other g3.regs (n + 3) _ n (omega arith) ∙ (put_other g2.regs (n + 2) _ n (omega arith) ∙ (put_other g1.regs (n + 1) _ n (omega arith) ∙ at1)) in (
      f.none n (omega arith),
      d,
      (
        put_other g.regs n _ (n + 1) (omega arith) ∙ f.none (n + 1) (omega arith),
        ap is_some hz,
        ap is_some at1,
        placed (g1.regs n) (g.bufs z) cs kind.Word at1 hz,
        (
          put_other g1.regs (n + 1) _ (n + 2) (omega arith) ∙ (put_other g.regs n _ (n + 2) (omega arith) ∙ f.none (n + 2) (omega arith)),
          d,
          ap is_some (put_same g1.regs (n + 1) _),
          (
            put_other g2.regs (n + 2) _ (n + 3) (omega arith) ∙ (put_other g1.regs (n + 1) _ (n + 3) (omega arith) ∙ (put_other g.regs n _ (n + 3) (omega arith) ∙ f.none (n + 3) (omega arith))),
            ap is_some ht,
            ap is_some at3,
            placed (g3.regs (n + 2)) (g.bufs t) cs kind.Word at3 ht,
            (
              refl,
              ap is_some hz,
              ap is_some at4,
              ap is_some (put_same g3.regs (n + 3) _),
              placed (g4.regs n) (g.bufs z) cs kind.Word at4 hz,
              ap (fits_cell (reg_kind (g4.regs (n + 3)))) (ap buf_cell hz),
              tt,
            ),
          ),
          tt,
          tt,
        ),
      ),
      tt,
    )

pub sum_typed : SumTyped
sum_typed g cs k p z t n f v hk hp hz ht nk =
    let g1 = with_reg g n true kind.Word in
    let g2 = with_reg g1 (n + 1) true kind.Word in
    let g4 = with_reg g2 (n + 3) false (kind.Below (dim.Name cs.count)) in
    let h = inside g4 p k n in
    let h1 = with_reg h (n + 6) false (kind.Below (dim.Name cs.count)) in
    let keys = keys_more g cs p k [] hp hk nk (refl, refl) in
    let running : Running g4 cs n = record {
      last = put_other g2.regs (n + 3) _ n (omega arith) ∙ (put_other g1.regs (n + 1) _ n (omega arith) ∙ put_same g.regs n _);
      start = put_other g2.regs (n + 3) _ (n + 1) (omega arith) ∙ put_same g1.regs (n + 1) _;
      rank = put_same g2.regs (n + 3) _;
      fresh = record { none = λ x le. put_other g2.regs (n + 3) _ x (omega (arith, le)) ∙ (put_other g1.regs (n + 1) _ x (omega (arith, le)) ∙ (put_other g.regs n _ x (omega (arith, le)) ∙ f.none x (omega (arith, le)))) };
    } in
    let fresh2 : FreshFrom g2 (n + 7) = record { none = λ x le. put_other g1.regs (n + 1) _ x (omega (arith, le)) ∙ (put_other g.regs n _ x (omega (arith, le)) ∙ f.none x (omega (arith, le))) } in
    let x : Stepped g4 h cs n = stepped g4 cs p k n running hp in
    let rank1 : is_some (h1.regs (n + 3)) ≡ true = ap is_some (put_other h.regs (n + 6) _ (n + 3) (omega arith) ∙ x.rank) in
    let start1 : is_some (h1.regs (n + 1)) ≡ true = ap is_some (put_other h.regs (n + 6) _ (n + 1) (omega arith) ∙ x.start) in
    let length_ok : fine h1 (run_length n) ≡ true = both_true (fine h1 (run_place n)) true (both_true (is_some (h1.regs (n + 3))) (is_some (h1.regs (n + 1))) rank1 start1) refl in
    let turn : Typed g4 (sum_turn cs p k z t n) = step_typed g4 cs p k n (Set (buf.New z) (Reg (n + 4)) (Reg (n + 1)) (When (Reg (n + 1)) (dim.Name cs.count) (n + 6) (Set (buf.New t) (Reg (n + 6)) (run_length n) End) false End End)) running hp hk (
      refl,
      ap is_some hz,
      ap is_some x.place,
      ap is_some x.start,
      placed (h.regs (n + 4)) (g.bufs z) cs kind.Word x.place hz,
      ap (fits_cell (reg_kind (h.regs (n + 1)))) (ap buf_cell hz),
      (
        x.fresh.none (n + 6) (omega arith),
        v.count,
        ap is_some x.start,
        (
          refl,
          ap is_some ht,
          ap is_some (put_same h.regs (n + 6) _),
          length_ok,
          placed (h1.regs (n + 6)) (g.bufs t) cs kind.Word (put_same h.regs (n + 6) _) ht,
          ap (fits_cell kind.Word) (ap buf_cell ht),
          tt,
        ),
        tt,
        tt,
      ),
    ) in
    let free1 : g1.regs (n + 1) ≡ None = put_other g.regs n _ (n + 1) (omega arith) ∙ f.none (n + 1) (omega arith) in
    let free3 : g2.regs (n + 3) ≡ None = put_other g1.regs (n + 1) _ (n + 3) (omega arith) ∙ (put_other g.regs n _ (n + 3) (omega arith) ∙ f.none (n + 3) (omega arith)) in
    let looks = look_up_typed g2 cs z t (n + 7) fresh2 v.count hz ht in
    (refl, ap is_some hp, keys.0, place_below g cs p hp, keys.1, (f.none n (omega arith), refl, (free1, refl, (free3, v.count, turn, looks))))
