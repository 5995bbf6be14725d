-- What an `order` does to the region.
use Rattle.std.proofs.Common.{◌≡◌, ℕ, zero, suc, ◌+◌, ◌*◌, ◌<◌, Bool, true, false, cond, eqb, not, ◌&&◌, nat_lt, List, [], ◌∷◌, map, length, get_or, ℤ, pos, refl, sym, ap, ap₂, ◌∙◌, subst, arith, inl, inr, Option, Some, None}
use Rattle.std.specs.Prelude.{slice_set}
use Rattle.std.proofs.Math.Path.{fun_ext}
use Rattle.std.proofs.lemmas.Bool.{cases_lt}
use Rattle.std.proofs.lemmas.Bool.Decides.{nat_tests}
use Rattle.std.proofs.lemmas.List.{get_or_default}
use Rattle.us_raw.specs.declared.region.Segment.{Segment}
use Rattle.us_raw.specs.declared.width.Width.{Width}
use Rattle.us_raw.specs.declared.width.Width.TheVariants.{W8}
use Rattle.us_raw.specs.Plan.{no_segment}
use Rattle.us_raw.specs.Region.{Lists}
use Rattle.us_raw.specs.Widths.{Holds, HoldsAll}
use Rattle.us_code.specs.declared.program.Buf.{Buf}
use Rattle.us_code.specs.declared.program.Buf.TheVariants as buf
use Rattle.us_code.specs.Plain.{End, Order}
use Rattle.us_code.specs.Run.{Env, State, put, exec, cells, tick, set_buf}
use Rattle.us_code.specs.Sort.{ordered}
use Rattle.us_code.specs.Typing.{Context, BufKind, buf_cell, is_some, sees_buf, sees_bufs, same_dim, same_buf, len_of, are_keys}
use Rattle.us_code_laws.specs.Fits.{BufOk, InKind, Fits}
use Rattle.us_code_laws.proofs.Orders.{ordered_by_keys}
use Rattle.us_code_laws.proofs.Sorts.{length_ordered}
use Rattle.us_code_laws.proofs.Sound.{and_left, and_right, source_or, same_size, keys_long, sound}
use Rattle.us_code_laws.proofs.Rules.{statement_rules}
use Rattle.us_machine.specs.declared.tables.Tables.{Tables}
use Rattle.us_machine.specs.Tables.{held, env_of, seg_of}
use Rattle.us_machine.specs.Sorting.{lists_of, AreLong}
use Rattle.us_machine.specs.Walks.{Stands, Sized, Ready, state_of, bufs_of}
use Rattle.us_machine.proofs.Cells.{buffer_set, still_stands}
use Rattle.us_machine.proofs.Splices.{set_self}

lt_of : (a b : ℕ) → nat_lt a b ≡ true → a < b
lt_of a b h = grind (arith, nat_tests)

eq_of : (a b : ℕ) → eqb a b ≡ true → a ≡ b
eq_of a b h = grind (arith, nat_tests)

empty_of : (xs : List ℤ) → length xs ≡ 0 → xs ≡ []
empty_of [] e = refl
empty_of (x ∷ xs) e = absurd (omega (arith, e))

cell_in : (env : Env) (o : Option BufKind) (xs : List ℤ) (i : ℕ) → is_some o ≡ true → BufOk env o xs → i < length xs → InKind env (buf_cell o) (get_or xs i (pos 0))
cell_in env None xs i h ok lt = absurd (let e : false ≡ true = h in cc)
cell_in env (Some k) xs i h ok lt = ok.1 i lt

module _ (t : Tables) (sources : List (List ℤ)) (r : Lists) (regs : ℕ → ℤ) (g : Context) where
  abbrev S : ℕ → State
  S n = state_of t r regs n

  key_list : (z : Sized t sources g) (st : Stands t sources r) (n : ℕ) (k : Buf) → sees_buf g k ≡ true → cells (env_of t sources) (S n) k ≡ get_or r.lists (seg_of t k) []
  key_list z st n (buf.New b) see = refl
  key_list z st n (buf.Source k) see = sym (st.given k (omega (arith, lt_of k g.sources see, z.count)))

  key_lists : (z : Sized t sources g) (st : Stands t sources r) (n : ℕ) (ks : List Buf) → sees_bufs g ks ≡ true → map (cells (env_of t sources) (S n)) ks ≡ lists_of t r.lists ks
  key_lists z st n [] see = refl
  key_lists z st n (k ∷ ks) see = ap₂ (λ (x : List ℤ) (xs : List (List ℤ)). x ∷ xs) (key_list z st n k (and_left (sees_buf g k) (sees_bufs g ks) see)) (key_lists z st n ks (and_right (sees_buf g k) (sees_bufs g ks) see))

  keys_are_long : (z : Sized t sources g) (st : Stands t sources r) (f : Fits g (env_of t sources) (S 0)) (b : Buf) (ks : List Buf) → sees_buf g b ≡ true → sees_bufs g ks ≡ true → are_keys g b ks ≡ true → AreLong t r.lists (length (cells (env_of t sources) (S 0) b)) ks
  keys_are_long z st f b [] sb see h = λ i d lt. absurd (omega (arith, lt))
  keys_are_long z st f b (k ∷ ks) sb see h =
      let sk = and_left (sees_buf g k) (sees_bufs g ks) see in
      let first = and_left (same_dim (len_of g k) (len_of g b) && not (same_buf k b)) (are_keys g b ks) h in
      let dims = and_left (same_dim (len_of g k) (len_of g b)) (not (same_buf k b)) first in
      let e : length (get_or r.lists (seg_of t k) []) ≡ length (cells (env_of t sources) (S 0) b) =
      ap (λ (xs : List ℤ). length xs) (sym (key_list z st 0 k sk))
      ∙ (source_or g (env_of t sources) (S 0) k f sk ∙ (same_size (env_of t sources) (len_of g k) (len_of g b) dims ∙ sym (source_or g (env_of t sources) (S 0) b f sb))) in
      let rest = keys_are_long z st f b ks sb (and_right (sees_buf g k) (sees_bufs g ks) see) (and_right (same_dim (len_of g k) (len_of g b) && not (same_buf k b)) (are_keys g b ks) h) in
      λ i d lt. at e rest i d lt
    where
      at : {n : ℕ} → length (get_or r.lists (seg_of t k) []) ≡ n → AreLong t r.lists n ks → (i : ℕ) (d : Buf) → i < length (k ∷ ks) → length (get_or r.lists (seg_of t (get_or (k ∷ ks) i d)) []) ≡ n
      at e rest zero d lt = e
      at e rest (suc i) d lt = rest i d (omega (arith, lt))

  module _ (b : ℕ) (keys : List Buf) (y : Ready t sources r regs g (Order (buf.New b) keys End)) where
    abbrev old : List ℤ
    old = get_or r.lists (held t.segs b) []

    abbrev ys : List ℤ
    ys = map pos (ordered (lists_of t r.lists keys) (length old))

    pub long : AreLong t r.lists (length old) keys
    long = keys_are_long y.sized y.stands y.fits (buf.New b) keys y.typed.1 y.typed.2 y.typed.4

    pub runs_to : (n : ℕ) → exec (env_of t sources) (Order (buf.New b) keys End) (S n) ≡ set_buf b ys (tick (length old * length keys + 1) (S n))
    runs_to n =
        let f : Fits g (env_of t sources) (S n) = record { regs = y.fits.regs; bufs = y.fits.bufs; dims = y.fits.dims } in
        statement_rules.after_order (env_of t sources) b keys End (S n) (keys_long g (env_of t sources) (S n) (buf.New b) keys f y.typed.1 y.typed.2 y.typed.4)
        ∙ ap (λ (ks : List (List ℤ)). set_buf b (map pos (ordered ks (length old))) (tick (length old * length keys + 1) (S n))) (key_lists y.sized y.stands n keys y.typed.2)

    pub holds_all : HoldsAll (get_or r.widths (held t.segs b) W8) ys
    unfolding put
    holds_all = λ i lt.
        let done = sound (env_of t sources) g (Order (buf.New b) keys End) (S 0) y.typed y.fits in
        let f : Fits g (env_of t sources) (set_buf b ys (tick (length old * length keys + 1) (S 0))) = subst (λ (s : State). Fits g (env_of t sources) s) (runs_to 0) done.fits in
        let ok : BufOk (env_of t sources) (g.bufs b) ys = subst (λ (c : Bool). BufOk (env_of t sources) (g.bufs b) (cond c ys (get_or r.lists (held t.segs b) []))) (self b) (f.bufs b) in
        let kept : InKind (env_of t sources) (buf_cell (g.bufs b)) (get_or ys i (pos 0)) = cell_in (env_of t sources) (g.bufs b) ys i y.typed.1 ok lt in
        subst (λ (ws : List Width). Holds (get_or ws (held t.segs b) W8) (get_or ys i (pos 0))) (sym y.stands.widths) (y.sized.wide b (get_or ys i (pos 0)) y.typed.1 kept)
      where
        self : (x : ℕ) → eqb x x ≡ true
        self x = grind (arith, nat_tests)

    ys_long : length ys ≡ length old
    ys_long = length_ordered (lists_of t r.lists keys) (length old)

    module _ (s : Lists) (lists : s.lists ≡ slice_set r.lists (held t.segs b) ys) (widths : s.widths ≡ r.widths) where
      -- nothing to order
      same_region : length old ≡ 0 → s ≡ r
      same_region e =
          let z : ys ≡ old = empty_of ys (ys_long ∙ e) ∙ sym (empty_of old e) in
          let l : s.lists ≡ r.lists = lists ∙ (ap (slice_set r.lists (held t.segs b)) z ∙ set_self r.lists (held t.segs b) []) in
          ap₂ (λ (a : List (List ℤ)) (w : List Width). let x : Lists = record { lists = a; widths = w } in x) l widths

      bufs_after : bufs_of t s ≡ put (bufs_of t r) b ys
      unfolding put
      bufs_after = elim (cases_lt 0 (length old)) [
        | inl lt ↦ buffer_set t sources r s b 0 ys y.stands lt ys_long lists widths holds_all
        | inr le ↦
            let e : length old ≡ 0 = omega (arith, le) in
            let z : ys ≡ old = empty_of ys (ys_long ∙ e) ∙ sym (empty_of old e) in
            ap (bufs_of t) (same_region e) ∙ fun_ext (λ x. at z x (eqb b x) (eq_of b x))
      ]
        where
          at : ys ≡ old → (x : ℕ) (q : Bool) → (q ≡ true → b ≡ x) → get_or r.lists (held t.segs x) [] ≡ cond q ys (get_or r.lists (held t.segs x) [])
          at z x true e = ap (λ (k : ℕ). get_or r.lists (held t.segs k) []) (sym (e refl)) ∙ sym z
          at z x false e = refl

      pub stands_ordered : Stands t sources s
      stands_ordered = elim (cases_lt 0 (length old)) [
        | inl lt ↦ still_stands t sources r s b 0 ys y.stands lt ys_long lists widths holds_all
        | inr le ↦ subst (λ (x : Lists). Stands t sources x) (sym (same_region (omega (arith, le)))) y.stands
      ]

      pub ordered_state : (n : ℕ) → exec (env_of t sources) (Order (buf.New b) keys End) (S n) ≡ state_of t s regs (n + (length old * length keys + 1))
      ordered_state n = runs_to n ∙ ap (λ (f : ℕ → List ℤ). let u : State = record { regs = regs; bufs = f; steps = n + (length old * length keys + 1); stuck = false } in u) (sym bufs_after)

  abbrev cells_at : Buf → List ℤ
  cells_at b = get_or r.lists (seg_of t b) []

  pub any_long : (b : Buf) (keys : List Buf) → Ready t sources r regs g (Order b keys End) → AreLong t r.lists (length (get_or r.lists (seg_of t b) [])) keys
  any_long (buf.New b) keys y = long b keys y
  any_long (buf.Source b) keys y = absurd (let h : false ≡ true = y.typed.0 in cc)

  pub any_listed : (b : Buf) (keys : List Buf) → Ready t sources r regs g (Order b keys End) → seg_of t b < length t.plan.items
  any_listed (buf.New b) keys y = y.stands.listed b
  any_listed (buf.Source b) keys y = absurd (let h : false ≡ true = y.typed.0 in cc)

  pub any_holds : (b : Buf) (keys : List Buf) → Ready t sources r regs g (Order b keys End) → HoldsAll (get_or r.widths (seg_of t b) W8) (map pos (ordered (lists_of t r.lists keys) (length (get_or r.lists (seg_of t b) []))))
  any_holds (buf.New b) keys y = holds_all b keys y
  any_holds (buf.Source b) keys y = absurd (let h : false ≡ true = y.typed.0 in cc)

  pub any_ordered : (b : Buf) (keys : List Buf) → Ready t sources r regs g (Order b keys End) → (s : Lists) → s.lists ≡ slice_set r.lists (seg_of t b) (map pos (ordered (lists_of t r.lists keys) (length (get_or r.lists (seg_of t b) [])))) → s.widths ≡ r.widths
      → ((n : ℕ) → exec (env_of t sources) (Order b keys End) (S n) ≡ state_of t s regs (n + (length (get_or r.lists (seg_of t b) []) * length keys + 1))) × Stands t sources s
  any_ordered (buf.New b) keys y s lists widths = (ordered_state b keys y s lists widths, stands_ordered b keys y s lists widths)
  any_ordered (buf.Source b) keys y s lists widths = absurd (let h : false ≡ true = y.typed.0 in cc)

  -- the length that the plan has
  pub len_is : (b : Buf) (keys : List Buf) → Ready t sources r regs g (Order b keys End) → (seg : ℕ) (x : Segment) → seg ≡ seg_of t b → x ≡ get_or t.plan.items seg x → x.len ≡ length (get_or r.lists (seg_of t b) [])
  len_is b keys y seg x e f =
      let lt : seg < length t.plan.items = omega (arith, e, any_listed b keys y) in
      ap (λ (s : Segment). s.len) (f ∙ get_or_default t.plan.items seg x no_segment lt) ∙ (sym (y.stands.planned seg) ∙ ap (λ (k : ℕ). length (get_or r.lists k [])) e)

pub ordered_long : (keys : List (List ℤ)) (n : ℕ) → length (ordered keys n) ≡ n
ordered_long keys n = ordered_by_keys.long keys n

pub steps_same : (n len old k : ℕ) → len ≡ old → n + (old * k + 1) ≡ n + 1 + len * k
steps_same n len old k e = let f : len * k ≡ old * k = ap (λ (m : ℕ). m * k) e in omega (arith, f)
