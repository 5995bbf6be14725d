-- A list more in the plan of the region.
use Rattle.std.proofs.Common.{◌≡◌, ℕ, zero, suc, ◌+◌, ◌<◌, ◌≤◌, ◌^◌, Bool, true, false, cond, eqb, nat_lt, List, [], ◌∷◌, ◌++◌, drop, length, get_or, replicate, ℤ, pos, refl, sym, ap, ap₂, ◌∙◌, subst, arith, All, Ok, append_assoc, Some, inl, inr, rules, take, take-append-drop, drop-cons}
use Rattle.std.proofs.Math.Path.{fun_ext}
use Rattle.std.proofs.lemmas.Bool.Decides.{nat_tests}
use Rattle.std.proofs.lemmas.Bool.{cases_lt}
use Rattle.std.proofs.lemmas.List.{take_more, get_or_append_left, get_or_past, drop-append-le, length-map, length-replicate, length-append, map-append, length-drop}
use Rattle.std.proofs.lemmas.List.Elements.{All-append}
use Rattle.us_raw.specs.declared.region.Segment.{Segment}
use Rattle.us_raw.specs.declared.width.Width.{Width}
use Rattle.us_raw.specs.declared.width.Width.TheVariants.{W1, W2, W4, W8}
use Rattle.us_raw.specs.Plan.{widths_of, zero_lists, no_segment}
use Rattle.us_raw.specs.Region.{Lists}
use Rattle.us_raw.specs.Widths.{Holds, HoldsAll}
use Rattle.us_code.specs.declared.program.Dim.{Dim}
use Rattle.us_code.specs.Limits.{FitsMakes}
use Rattle.us_code.specs.declared.program.CellKind.{CellKind}
use Rattle.us_code.specs.declared.program.CellKind.TheVariants as kind
use Rattle.us_code.specs.declared.program.Make.{Make}
use Rattle.us_code.specs.Run.{Env, put, size_of}
use Rattle.us_code.specs.Runs.{World, Ran, Went, ◌>>=◌, at_source, make, make_all}
use Rattle.us_code.specs.Runs as runs
use Rattle.us_code.specs.Typing.{Context, is_some, sees_cell, buf_cell, with_buf, with_bufs, TypedMakes}
use Rattle.us_code_laws.specs.Fits.{InKind}
use Rattle.us_code_laws.proofs.Programs as laws
use Rattle.us_machine.specs.declared.tables.Tables.{Tables}
use Rattle.us_machine.specs.declared.budget.Budget.{Budget}
use Rattle.us_machine.specs.Growing.{grown}
use Rattle.us_machine.specs.Steps.{Shows}
use Rattle.us_machine.specs.Tables.{held, env_of, IsSizedCell}
use Rattle.us_machine.specs.Walks.{Stands, Sized, bufs_of}
use Rattle.us_machine.specs.Phases.{grown_in, world_of, Point, world_at, IsAt, Next, Ends}
use Rattle.us_machine.proofs.Readying.{fits_at, dim_sized}

-- the last of a list
last_is : {A : Type 0} (xs : List A) (y d : A) → get_or (xs ++ y ∷ []) (length xs) d ≡ y
last_is [] y d = refl
last_is (x ∷ xs) y d = last_is xs y d

pub grown_long : (plan : List Segment) (lists : List (List ℤ)) → length lists ≤ length plan → length (grown plan lists) ≡ length plan
grown_long plan lists le =
    let a = length-append lists (zero_lists (drop (length lists) plan)) in
    let b = length-map (drop (length lists) plan) (λ (s : Segment). replicate s.len (pos 0)) in
    let c = length-drop (length lists) plan in
    omega (arith, a, b, c, le)

pub grown_more : (plan : List Segment) (lists : List (List ℤ)) (s : Segment) → length lists ≤ length plan → grown (plan ++ s ∷ []) lists ≡ grown plan lists ++ replicate s.len (pos 0) ∷ []
grown_more plan lists s le =
    ap (λ (ys : List Segment). lists ++ zero_lists ys) (drop-append-le (length lists) plan (s ∷ []) le)
    ∙ (ap (λ (zs : List (List ℤ)). lists ++ zs) (map-append (λ (x : Segment). replicate x.len (pos 0)) (drop (length lists) plan) (s ∷ []))
    ∙ sym (append_assoc lists (zero_lists (drop (length lists) plan)) (replicate s.len (pos 0) ∷ [])))

one_short : (s : Segment) → s.len ≤ 67108865 → All (λ x. x.len ≤ 67108865) (s ∷ [])
one_short s h = search rules

zero_held : (w : Width) → Holds w (pos 0)
zero_held W1 = search rules
zero_held W2 = search rules
zero_held W4 = search rules
zero_held W8 = search rules

zeros_at : (n i : ℕ) → get_or (replicate n (pos 0)) i (pos 0) ≡ pos 0
zeros_at zero i = refl
zeros_at (suc n) zero = refl
zeros_at (suc n) (suc i) = zeros_at n i

eq_of : (a b : ℕ) → eqb a b ≡ true → a ≡ b
eq_of a b h = grind (arith, nat_tests)

lt_false : (a b : ℕ) → b ≤ a → nat_lt a b ≡ false
lt_false a b h = grind (arith, nat_tests)

module _ (t u : Tables) (sources : List (List ℤ)) (steps steps' : ℕ) (m : Make) (s : Segment) (p : Point) (at : IsAt t sources steps p)
    (plan : u.plan.items ≡ t.plan.items ++ s ∷ []) (segs : held u.segs ≡ put (held t.segs) m.buf (length t.plan.items))
    (dims : u.dims ≡ t.dims) (factors : u.factors ≡ t.factors) (budget : u.budget ≡ t.budget)
    (len : s.len ≡ size_of (env_of t sources) m.len) (small : s.len ≤ 67108865) (room : length t.plan.items < 131072)
    (width : (v : ℤ) → InKind (env_of t sources) m.cell v → Holds s.width v) where
  abbrev G : Lists
  G = grown_in t p.region

  abbrev H : Lists
  H = grown_in u p.region

  abbrev st : Stands t sources G
  st = at.stands

  env_is : env_of u sources ≡ env_of t sources
  env_is = ap₂ (λ x y. let e : Env = record { dims = held x; factors = held y; sources = at_source sources } in e) dims factors

  lists_is : H.lists ≡ G.lists ++ replicate s.len (pos 0) ∷ []
  lists_is = ap (λ (ys : List Segment). grown ys p.region.lists) plan ∙ grown_more t.plan.items p.region.lists s at.fewer

  long_is : length G.lists ≡ length t.plan.items
  long_is = grown_long t.plan.items p.region.lists at.fewer

  front : (i : ℕ) → i < length t.plan.items → get_or H.lists i [] ≡ get_or G.lists i []
  front i lt = ap (λ (xs : List (List ℤ)). get_or xs i []) lists_is ∙ get_or_append_left G.lists (replicate s.len (pos 0) ∷ []) [] i (omega (arith, lt, long_is))

  new_is : get_or H.lists (length t.plan.items) [] ≡ replicate s.len (pos 0)
  new_is = ap (λ (k : ℕ). get_or H.lists k []) (sym long_is) ∙ (ap (λ (xs : List (List ℤ)). get_or xs (length G.lists) []) lists_is ∙ last_is G.lists (replicate s.len (pos 0)) [])

  past : (i : ℕ) → length t.plan.items < i → get_or H.lists i [] ≡ []
  past i lt = get_or_past H.lists i [] (omega (arith, lt, long_is, ap (λ (xs : List (List ℤ)). length xs) lists_is, length-append G.lists (replicate s.len (pos 0) ∷ [])))

  seg_at : (b : ℕ) → held u.segs b ≡ cond (eqb m.buf b) (length t.plan.items) (held t.segs b)
  unfolding put
  seg_at b = ap (λ (f : ℕ → ℕ). f b) segs

  bufs_is : bufs_of u H ≡ put (bufs_of t G) m.buf (replicate (size_of (env_of t sources) m.len) (pos 0))
  unfolding put
  bufs_is = fun_ext (λ b. ap (λ (k : ℕ). get_or H.lists k []) (seg_at b) ∙ at_buf b (eqb m.buf b))
    where
      at_buf : (b : ℕ) (q : Bool) → get_or H.lists (cond q (length t.plan.items) (held t.segs b)) [] ≡ cond q (replicate (size_of (env_of t sources) m.len) (pos 0)) (get_or G.lists (held t.segs b) [])
      at_buf b true = new_is ∙ ap (λ (k : ℕ). replicate k (pos 0)) len
      at_buf b false = front (held t.segs b) (st.listed b)

  world_is : (k : ℕ) → ◌≡◌ {A = World} record { env = env_of t sources; bufs = put (bufs_of t G) m.buf (replicate (size_of (env_of t sources) m.len) (pos 0)); steps = k } (world_of u sources H k)
  world_is k =
      ap (λ (f : ℕ → List ℤ). let w : World = record { env = env_of t sources; bufs = f; steps = k } in w) (sym bufs_is)
      ∙ ap (λ (e : Env). let w : World = record { env = e; bufs = bufs_of u H; steps = k } in w) (sym env_is)

  -- numbers of the new table
  new_apart : (a b : ℕ) → 0 < held u.segs a → held u.segs a ≡ held u.segs b → a ≡ b
  new_apart a b h e =
      case (eqb m.buf a) (eqb m.buf b) (eq_of m.buf a) (eq_of m.buf b) (subst (λ (k : ℕ). 0 < k) (seg_at a) h) (sym (seg_at a) ∙ (e ∙ seg_at b))
    where
      case : (x y : Bool) → (x ≡ true → m.buf ≡ a) → (y ≡ true → m.buf ≡ b) → 0 < cond x (length t.plan.items) (held t.segs a) → cond x (length t.plan.items) (held t.segs a) ≡ cond y (length t.plan.items) (held t.segs b) → a ≡ b
      case true true f g z q = sym (f refl) ∙ g refl
      case true false f g z q = absurd (omega (arith, q, st.listed b))
      case false true f g z q = absurd (omega (arith, q, st.listed a))
      case false false f g z q = st.apart a b z q

  new_behind : (b : ℕ) → 0 < held u.segs b → length sources < held u.segs b
  new_behind b h = subst (λ (k : ℕ). length sources < k) (sym (seg_at b)) (case (eqb m.buf b) (subst (λ (k : ℕ). 0 < k) (seg_at b) h))
    where
      case : (x : Bool) → 0 < cond x (length t.plan.items) (held t.segs b) → length sources < cond x (length t.plan.items) (held t.segs b)
      case true z = st.after
      case false z = st.behind b z

  new_listed : (b : ℕ) → held u.segs b < length u.plan.items
  new_listed b = subst (λ (k : ℕ). k < length u.plan.items) (sym (seg_at b)) (case (eqb m.buf b))
    where
      more : length u.plan.items ≡ length t.plan.items + 1
      more = ap (λ (xs : List Segment). length xs) plan ∙ length-append t.plan.items (s ∷ [])

      case : (x : Bool) → cond x (length t.plan.items) (held t.segs b) < length u.plan.items
      case true = omega (arith, more)
      case false = omega (arith, more, st.listed b)

  seg_front : (i : ℕ) → i < length t.plan.items → get_or u.plan.items i no_segment ≡ get_or t.plan.items i no_segment
  seg_front i lt = ap (λ (xs : List Segment). get_or xs i no_segment) plan ∙ get_or_append_left t.plan.items (s ∷ []) no_segment i lt

  seg_new : get_or u.plan.items (length t.plan.items) no_segment ≡ s
  seg_new = ap (λ (xs : List Segment). get_or xs (length t.plan.items) no_segment) plan ∙ last_is t.plan.items s no_segment

  seg_past : (i : ℕ) → length t.plan.items < i → get_or u.plan.items i no_segment ≡ no_segment
  seg_past i lt = get_or_past u.plan.items i no_segment (omega (arith, lt, ap (λ (xs : List Segment). length xs) plan, length-append t.plan.items (s ∷ [])))

  data Place (i : ℕ) : Type 0 where
    Front : (lt : i < length t.plan.items) → Place i
    New : (e : i ≡ length t.plan.items) → Place i
    Past : (lt : length t.plan.items < i) → Place i

  place_of : (i : ℕ) → Place i
  place_of i = elim (cases_lt i (length t.plan.items)) [
    | inl lt ↦ Front lt
    | inr ge ↦ elim (cases_lt (length t.plan.items) i) [ inl gt ↦ Past gt | inr le ↦ New (omega (arith, ge, le)) ]
  ]

  new_planned : (i : ℕ) → length (get_or H.lists i []) ≡ (get_or u.plan.items i no_segment).len
  new_planned i = case (place_of i)
    where
      case : Place i → length (get_or H.lists i []) ≡ (get_or u.plan.items i no_segment).len
      case (Front lt) = ap (λ (xs : List ℤ). length xs) (front i lt) ∙ (st.planned i ∙ ap (λ (x : Segment). x.len) (sym (seg_front i lt)))
      case (New e) = ap (λ (k : ℕ). length (get_or H.lists k [])) e ∙ (ap (λ (xs : List ℤ). length xs) new_is ∙ (length-replicate s.len (pos 0) ∙ (ap (λ (x : Segment). x.len) (sym seg_new) ∙ ap (λ (k : ℕ). (get_or u.plan.items k no_segment).len) (sym e))))
      case (Past lt) = ap (λ (xs : List ℤ). length xs) (past i lt) ∙ ap (λ (x : Segment). x.len) (sym (seg_past i lt))

  widths_is : widths_of u.plan.items ≡ widths_of t.plan.items ++ s.width ∷ []
  widths_is = ap widths_of plan ∙ map-append (λ (x : Segment). x.width) t.plan.items (s ∷ [])

  width_front : (i : ℕ) → i < length t.plan.items → get_or (widths_of u.plan.items) i W8 ≡ get_or (widths_of t.plan.items) i W8
  width_front i lt = ap (λ (ws : List Width). get_or ws i W8) widths_is ∙ get_or_append_left (widths_of t.plan.items) (s.width ∷ []) W8 i (omega (arith, lt, length-map t.plan.items (λ (x : Segment). x.width)))

  width_new : get_or (widths_of u.plan.items) (length t.plan.items) W8 ≡ s.width
  width_new =
      ap (λ (k : ℕ). get_or (widths_of u.plan.items) k W8) (sym (length-map t.plan.items (λ (x : Segment). x.width)))
      ∙ (ap (λ (ws : List Width). get_or ws (length (widths_of t.plan.items)) W8) widths_is ∙ last_is (widths_of t.plan.items) s.width W8)

  new_fit : (i : ℕ) → HoldsAll (get_or (widths_of u.plan.items) i W8) (get_or H.lists i [])
  new_fit i = case (place_of i)
    where
      case : Place i → HoldsAll (get_or (widths_of u.plan.items) i W8) (get_or H.lists i [])
      case (Front lt) =
          subst (λ (w : Width). HoldsAll w (get_or H.lists i [])) (sym (width_front i lt))
          (subst (λ (xs : List ℤ). HoldsAll (get_or (widths_of t.plan.items) i W8) xs) (sym (front i lt)) (st.fit i))
      case (New e) =
          let zeros : HoldsAll (get_or (widths_of u.plan.items) i W8) (replicate s.len (pos 0)) = λ j lt. subst (λ (z : ℤ). Holds (get_or (widths_of u.plan.items) i W8) z) (sym (zeros_at s.len j)) (zero_held (get_or (widths_of u.plan.items) i W8)) in
          subst (λ (xs : List ℤ). HoldsAll (get_or (widths_of u.plan.items) i W8) xs) (sym (ap (λ (k : ℕ). get_or H.lists k []) e ∙ new_is)) zeros
      case (Past lt) = subst (λ (xs : List ℤ). HoldsAll (get_or (widths_of u.plan.items) i W8) xs) (sym (past i lt)) (λ j h. absurd (omega (arith, h)))

  new_stands : Stands u sources H
  new_stands = record {
    none = front 0 (omega (arith, st.after)) ∙ st.none;
    given = λ k lt. front (k + 1) (omega (arith, lt, st.after)) ∙ st.given k lt;
    apart = new_apart;
    behind = new_behind;
    planned = new_planned;
    widths = refl;
    few = record {
      few = omega (arith, room, ap (λ (xs : List Segment). length xs) plan, length-append t.plan.items (s ∷ []));
      short = subst (λ (xs : List Segment). All (λ x. x.len ≤ 67108865) xs) (sym plan) (All-append (λ (x : Segment). x.len ≤ 67108865) t.plan.items (s ∷ []) st.few.short (one_short s small));
    };
    long = ap (λ (xs : List (List ℤ)). length xs) lists_is ∙ (length-append G.lists (replicate s.len (pos 0) ∷ []) ∙ (ap (λ (k : ℕ). k + 1) long_is ∙ sym (ap (λ (xs : List Segment). length xs) plan ∙ length-append t.plan.items (s ∷ []))));
    after = omega (arith, st.after, ap (λ (xs : List Segment). length xs) plan, length-append t.plan.items (s ∷ []));
    listed = new_listed;
    fit = new_fit;
  }

  new_sized : Sized u sources (with_buf p.context m)
  unfolding put
  new_sized = record {
    count = at.sized.count;
    dims = λ d. subst (λ x. held x d ≤ 67108865) (sym dims) (at.sized.dims d);
    factors = λ d. subst (λ x. held x d < 2 ^ 63) (sym factors) (at.sized.factors d);
    short = at.sized.short;
    wide = λ b v h i. subst (λ (k : ℕ). Holds (get_or (widths_of u.plan.items) k W8) v) (sym (seg_at b)) (case b v (eqb m.buf b) h (subst (λ (e : Env). InKind e (buf_cell (cond (eqb m.buf b) (Some record { len = m.len; cell = m.cell }) (p.context.bufs b))) v) env_is i));
  }
    where
      case : (b : ℕ) (v : ℤ) (q : Bool) → is_some (cond q (Some record { len = m.len; cell = m.cell }) (p.context.bufs b)) ≡ true → InKind (env_of t sources) (buf_cell (cond q (Some record { len = m.len; cell = m.cell }) (p.context.bufs b))) v → Holds (get_or (widths_of u.plan.items) (cond q (length t.plan.items) (held t.segs b)) W8) v
      case b v true h i = subst (λ (w : Width). Holds w v) (sym width_new) (width v i)
      case b v false h i = subst (λ (w : Width). Holds w v) (sym (width_front (held t.segs b) (st.listed b))) (at.sized.wide b v h i)

  pub made : (typed : TypedMakes p.context (m ∷ [])) → Shows t.budget steps' (p.count + 1) → Ends t.budget (Ok tt) (make_all (m ∷ []) (world_at t sources p)) (λ w. Next u sources steps' p (with_bufs p.context (m ∷ [])) w)
  made typed shows =
      let old : laws.Ready p.context p.regs (world_at t sources p) = record { closed = at.closed; fits = fits_at t sources p.context G p.regs 0 p.count at.fits } in
      let v : World = record { env = env_of t sources; bufs = put (bufs_of t G) m.buf (replicate (size_of (env_of t sources) m.len) (pos 0)); steps = p.count + 1 } in
      let is : make m (world_at t sources p) ≡ Went v = ap (λ (b : Bool). cond b (runs.TooLarge (p.count + 1)) (Went v)) (lt_false 67108865 (size_of (env_of t sources) m.len) (omega (arith, small, len))) in
      let went : laws.Ready (with_buf p.context m) p.regs v = subst (λ (r : Ran). laws.Goes (laws.Ready (with_buf p.context m) p.regs) r) is (laws.make_goes p.context p.regs m (world_at t sources p) typed.1 typed.2 typed.3 old) in
      let new : laws.Ready (with_buf p.context m) p.regs (world_of u sources H (p.count + 1)) = subst (λ (w : World). laws.Ready (with_buf p.context m) p.regs w) (world_is (p.count + 1)) went in
      let next : Next u sources steps' p (with_bufs p.context (m ∷ [])) v = record {
        point = record { region = p.region; context = with_buf p.context m; regs = p.regs; count = p.count + 1 };
        region = refl;
        regs = refl;
        context = refl;
        world = world_is (p.count + 1);
        at = record {
          closed = new.closed;
          fits = fits_at u sources (with_buf p.context m) H p.regs (p.count + 1) 0 new.fits;
          stands = new_stands;
          sized = new_sized;
          shows = subst (λ (b : Budget). Shows b steps' (p.count + 1)) (sym budget) shows;
          fewer = omega (arith, at.fewer, ap (λ (xs : List Segment). length xs) plan, length-append t.plan.items (s ∷ []));
        };
      } in
      subst (λ (r : Ran). Ends t.budget (Ok tt) (r >>= make_all []) (λ w. Next u sources steps' p (with_bufs p.context (m ∷ [])) w)) (sym is) next

pub cell_sized : (t : Tables) (sources : List (List ℤ)) (g : Context) (b : ℕ) (l : Dim) (k : CellKind) → Sized t sources g → FitsMakes (record { buf = b; len = l; cell = k } ∷ []) → sees_cell g k ≡ true → IsSizedCell t sources k
cell_sized t sources g b l kind.Word z f h = tt
cell_sized t sources g b l (kind.Below d) z f h = dim_sized t sources g d z f.1 h

pub typed_later : (g : Context) (xs ys : List Make) → TypedMakes g (xs ++ ys) → TypedMakes (with_bufs g xs) ys
typed_later g [] ys h = h
typed_later g (x ∷ xs) ys h = typed_later (with_buf g x) xs ys h.4

pub fits_later : (xs ys : List Make) → FitsMakes (xs ++ ys) → FitsMakes ys
fits_later [] ys h = h
fits_later (x ∷ xs) ys h = fits_later xs ys h.2

pub with_later : (g : Context) (xs ys : List Make) → with_bufs g (xs ++ ys) ≡ with_bufs (with_bufs g xs) ys
with_later g [] ys = refl
with_later g (x ∷ xs) ys = with_later (with_buf g x) xs ys

module _ (xs : List Make) (i : ℕ) (x : Make) (lt : i < length xs) (at : x ≡ get_or xs i x) where
  rest_is : xs ≡ take i xs ++ x ∷ drop (suc i) xs
  rest_is = sym (take-append-drop i xs) ∙ ap (λ (ys : List Make). take i xs ++ ys) (drop-cons xs i x lt ∙ ap (λ (y : Make). y ∷ drop (suc i) xs) (sym at))

  pub make_typed : (g : Context) → TypedMakes g xs → TypedMakes (with_bufs g (take i xs)) (x ∷ [])
  make_typed g h =
      let k = typed_later g (take i xs) (x ∷ drop (suc i) xs) (subst (λ (ys : List Make). TypedMakes g ys) rest_is h) in
      (k.0, k.1, k.2, k.3, tt)

  pub make_fits : FitsMakes xs → FitsMakes (x ∷ [])
  make_fits h =
      let k = fits_later (take i xs) (x ∷ drop (suc i) xs) (subst (λ (ys : List Make). FitsMakes ys) rest_is h) in
      (k.0, k.1, tt)

  pub make_context : (g : Context) → with_bufs g (take (i + 1) xs) ≡ with_bufs (with_bufs g (take i xs)) (x ∷ [])
  make_context g = ap (λ (ys : List Make). with_bufs g ys) (take_more xs i x lt ∙ ap (λ (y : Make). take i xs ++ y ∷ []) (sym at)) ∙ with_later g (take i xs) (x ∷ [])

-- the next place, from a place before
pub next_next : (t : Tables) (sources : List (List ℤ)) (steps : ℕ) (p : Point) (h g : Context) (u : Tables) (k : ℕ) (w v : World) (a : Next t sources steps p h w) → Next u sources k a.point g v → Next u sources k p g v
next_next t sources steps p h g u k w v a b = record { point = b.point; region = b.region ∙ a.region; regs = b.regs ∙ a.regs; context = b.context; world = b.world; at = b.at }
