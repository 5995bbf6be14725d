-- The positions that the loops come to are ways down the levels.
use Rattle.std.proofs.Common.{◌≡◌, ℕ, suc, ◌+◌, ◌*◌, ◌^◌, ◌<◌, ◌≤◌, true, false, refl, sym, ap, ◌∙◌, subst, arith, List, [], ◌∷◌, ◌++◌, length, take, drop, pos, ℤ}
use Rattle.std.proofs.lemmas.List.{append_assoc, append-nil}
use Rattle.us_code.specs.declared.program.Dim.{Dim}
use Rattle.us_code.specs.Run.{Env, size_of}
use Rattle.us_code.specs.Runs.{whole}
use Rattle.us_format.specs.declared.Kind.{Kind}
use Rattle.us_format.specs.declared.Kind.TheVariants as kind
use Rattle.us_format.specs.Lists.{nth, cell, nat_of}
use Rattle.us_format.specs.Kinds.{Level}
use Rattle.us_format.specs.Positions.{Row, nodes, count_below, down}
use Rattle.us_format.specs.Climb.{width, values}
use Rattle.us_format.specs.Reading.{limit}
use Rattle.us_format_loops.specs.Nodes.{has_nodes, are_slots, is_tight, count_after}
use Rattle.us_format_loops.specs.Ways.{first_under, IsParent, Starts, Cells, HoldsLevel, HoldsLevels, Place, IsUnder, IsWay, end_of as last_of}
use Rattle.us_gen.specs.Nest.{Starts as NodeStarts, InFull, InNodes, InCell}
use Rattle.us_gen.specs.Levels.{first_in, all_inside, work_in, AllFit, AllInside, end_of}
use Rattle.us_gen_recover.specs.declared.places.Coordinate.{Coordinate}
use Rattle.us_gen_walk.specs.declared.places.Column.{Column}
use Rattle.us_gen_walk.specs.declared.places.Column.TheVariants as column
use Rattle.us_gen_walk.specs.declared.places.Loop.{Loop}
use Rattle.us_gen_walk.specs.declared.places.Loop.TheVariants as over
use Rattle.us_gen_walk.specs.declared.places.Slot.{Slot}
use Rattle.us_gen_walk.specs.Walk.{is_nodes, loop_levels, loop_coordinate, loop_coordinates, ends_in_nodes}
use Rattle.us_gen_walk.specs.Runs.{HasColumn, HasNodes, HasLoop, HasSlot, HasSlots, HasLevels, loop_cost}
use Rattle.us_gen_walk.proofs.CellReads.{whole_nat, node_column_fits}

-- ---- registers that hold the coordinates of a way, below n

abbrev pub Held : ℕ → (ℕ → ℤ) → List Coordinate → List Place → Type 0
Held n f [] [] = Unit {0}
Held n f [] (x ∷ xs) = ⊥
Held n f (c ∷ cs) [] = ⊥
Held n f (c ∷ cs) (x ∷ xs) = (c.reg < n) × (f c.reg ≡ pos x.coordinate) × Held n f cs xs

pub held_more : (n m : ℕ) (f g : ℕ → ℤ) (cs : List Coordinate) (xs : List Place) → n ≤ m → ((r : ℕ) → r < n → g r ≡ f r) → Held n f cs xs → Held m g cs xs
held_more n m f g [] [] le same h = tt
held_more n m f g [] (x ∷ xs) le same h = absurd h
held_more n m f g (c ∷ cs) [] le same h = absurd h
held_more n m f g (c ∷ cs) (x ∷ xs) le same h = (omega (arith, le, h.0), same c.reg h.0 ∙ h.1, held_more n m f g cs xs le same h.2)

held_push : (n : ℕ) (f : ℕ → ℤ) (cs : List Coordinate) (xs : List Place) (c : Coordinate) (x : Place) → Held n f cs xs → c.reg < n → f c.reg ≡ pos x.coordinate → Held n f (cs ++ c ∷ []) (xs ++ x ∷ [])
held_push n f [] [] c x h lt e = (lt, e, tt)
held_push n f [] (y ∷ xs) c x h lt e = absurd h
held_push n f (d ∷ cs) [] c x h lt e = absurd h
held_push n f (d ∷ cs) (y ∷ xs) c x h lt e = (h.0, h.1, held_push n f cs xs c x h.2 lt e)

last_push : (q : ℕ) (xs : List Place) (x : Place) → last_of q (xs ++ x ∷ []) ≡ x.position
last_push q [] x = refl
last_push q (y ∷ xs) x = last_push y.position xs x

-- ---- the way so far, down to position q; behind it come these levels of all, and their buffers

module _ (T : List Level) (B : List (List ℤ)) where
  pub record Know (n : ℕ) (levels : List Level) (bufs : List (List ℤ)) (cs : List Coordinate) (q : ℕ) (f : ℕ → ℤ) : Type 0 where
    pub way : List Place
    pub held : Held n f cs way
    pub ends : last_of 0 way ≡ q
    pub joins : (vs : List Place) → IsWay levels bufs q vs → IsWay T B 0 (way ++ vs)

  pub know_more : (n m : ℕ) (levels : List Level) (bufs : List (List ℤ)) (cs : List Coordinate) (q : ℕ) (f g : ℕ → ℤ) → n ≤ m → ((r : ℕ) → r < n → g r ≡ f r) → Know n levels bufs cs q f → Know m levels bufs cs q g
  know_more n m levels bufs cs q f g le same k = record { way = k.way; held = held_more n m f g cs k.way le same k.held; ends = k.ends; joins = k.joins }

  -- one level down
  pub know_down : (n m : ℕ) (l : Level) (levels : List Level) (bufs : List (List ℤ)) (cs : List Coordinate) (c : Coordinate) (p q : ℕ) (f g : ℕ → ℤ) (x : Place)
      → n ≤ m → ((r : ℕ) → r < n → g r ≡ f r) → Know n (l ∷ levels) bufs cs p f → IsUnder l.kind l.size bufs p x → x.position ≡ q → c.reg < m → g c.reg ≡ pos x.coordinate
      → Know m levels (drop (width l.kind) bufs) (cs ++ c ∷ []) q g
  know_down n m l levels bufs cs c p q f g x le same k under e lt made = record {
    way = k.way ++ x ∷ [];
    held = held_push m g cs k.way c x (held_more n m f g cs k.way le same k.held) lt made;
    ends = last_push 0 k.way x ∙ e;
    joins = λ vs w. subst (IsWay T B 0) (sym (append_assoc k.way (x ∷ []) vs)) (k.joins (x ∷ vs) (under, subst (λ (y : ℕ). IsWay levels (drop (width l.kind) bufs) y vs) (sym e) w));
  }

  module _ (env : Env) (slots : List Slot) where
    -- what the loops over the levels with loops come to
    pub record Facts (ls : List Loop) (levels : List Level) (bufs : List (List ℤ)) (N : ℕ) : Type 1 where
      pub fit : AllFit env (loop_levels ls) N
      pub from : first_in env (loop_levels ls) 0 ≡ 0
      pub to : first_in env (loop_levels ls) N ≡ all_inside env (loop_levels ls) N
      pub number : all_inside env (loop_levels ls) N ≡ length (values levels bufs)
      pub cost : (C : ℕ → ℕ) → work_in env (loop_levels ls) C N ≡ loop_cost env ls N + C (all_inside env (loop_levels ls) N)
      pub costless : (C : ℕ → ℕ) → work_in env (loop_levels ls) C 0 ≡ C 0
      pub rest : List Level
      pub rest_bufs : List (List ℤ)
      pub rest_rows : List Row
      pub slots_are : HasSlots env slots rest rest_bufs
      pub holds : HoldsLevels rest rest_bufs (all_inside env (loop_levels ls) N) rest_rows
      pub reads :
          (n : ℕ) (K : ℕ → (ℕ → ℤ) → Type 0) (cs : List Coordinate) → ((q : ℕ) (f : ℕ → ℤ) → q < N → K q f → Know n levels bufs cs q f)
          → (q : ℕ) (f : ℕ → ℤ) → q < all_inside env (loop_levels ls) N → AllInside env (loop_levels ls) n N K q f
          → Know (end_of (loop_levels ls) n) rest rest_bufs (cs ++ loop_coordinates ls n) q f

    -- slot levels keep the number of positions
    slots_number : (xs : List Slot) (levels : List Level) (bufs : List (List ℤ)) (N : ℕ) (rows : List Row) → HasSlots env xs levels bufs → HoldsLevels levels bufs N rows → N ≡ length (values levels bufs)
    slots_number [] [] bufs N rows h holds = sym holds
    slots_number [] (l ∷ levels) bufs N rows h holds = absurd h
    slots_number (x ∷ xs) [] bufs N rows h holds = absurd h
    slots_number (x ∷ xs) (l ∷ levels) bufs N rows h holds = sym (same l.kind l.size h.0) ∙ slots_number xs levels (drop (width l.kind) bufs) (count_below l.kind l.size N rows) (down l.kind l.size rows) h.1 holds.1
      where
        same : (k : Kind) (size : ℕ) → HasSlot env x.crd k bufs → count_below k size N rows ≡ N
        same kind.Full size h = absurd h
        same kind.Compressed size h = absurd h
        same kind.Listed size h = absurd h
        same kind.Slot size h = refl

    none : (levels : List Level) (bufs : List (List ℤ)) (N : ℕ) (rows : List Row) → HasSlots env slots levels bufs → HoldsLevels levels bufs N rows → Facts [] levels bufs N
    none levels bufs N rows h holds = record {
      fit = tt;
      from = refl;
      to = refl;
      number = slots_number slots levels bufs N rows h holds;
      cost = λ C. omega arith;
      costless = λ C. refl;
      rest = levels;
      rest_bufs = bufs;
      rest_rows = rows;
      slots_are = h;
      holds = holds;
      reads = λ n K cs k q f lt a. subst (λ (ds : List Coordinate). Know n levels bufs ds q f) (sym (append-nil cs)) (k q f lt a);
    }

    -- a full level
    full_step : (d : Dim) (low : ℤ) (ls : List Loop) (size : ℕ) (levels : List Level) (bufs : List (List ℤ)) (N : ℕ) → size_of env d ≡ size → N * size ≤ limit
        → Facts ls levels bufs (N * size) → Facts (over.Full d low ∷ ls) (record { kind = kind.Full; size = size } ∷ levels) bufs N
    full_step d low ls size levels bufs N e small given = record {
      fit = (omega (arith, small, same), F.fit);
      from = ap (first_in env (loop_levels ls)) z ∙ F.from;
      to = F.to;
      number = F.number;
      cost = λ C. omega (arith, F.cost C);
      costless = λ C. omega (arith, ap (work_in env (loop_levels ls) C) z, F.costless C, z);
      rest = F.rest;
      rest_bufs = F.rest_bufs;
      rest_rows = F.rest_rows;
      slots_are = F.slots_are;
      holds = F.holds;
      reads = λ n K cs k q f lt a.
          subst (λ (ds : List Coordinate). Know (end_of (loop_levels ls) (n + 1)) F.rest F.rest_bufs ds q f) (append_assoc cs (here n ∷ []) (loop_coordinates ls (n + 1)))
          (F.reads (n + 1) (InFull K N (size_of env d) n) (cs ++ here n ∷ []) (λ y g ly i. inside n K cs k y g i) q f lt a);
    }
      where
        same : N * size_of env d ≡ N * size
        same = ap (λ (x : ℕ). N * x) e

        F : Facts ls levels bufs (N * size_of env d)
        F = subst (Facts ls levels bufs) (sym same) given

        z : 0 * size_of env d ≡ 0
        z = omega arith

        here : ℕ → Coordinate
        here n = loop_coordinate (over.Full d low) n

        inside : (n : ℕ) (K : ℕ → (ℕ → ℤ) → Type 0) (cs : List Coordinate) → ((q : ℕ) (f : ℕ → ℤ) → q < N → K q f → Know n (record { kind = kind.Full; size = size } ∷ levels) bufs cs q f)
            → (q : ℕ) (f : ℕ → ℤ) → InFull K N (size_of env d) n q f → Know (n + 1) levels bufs (cs ++ here n ∷ []) q f
        inside n K cs k q f i =
            know_down n (n + 1) (record { kind = kind.Full; size = size }) levels bufs cs (here n) i.parent q f f (record { position = q; coordinate = i.coordinate }) (omega arith) (λ r l. refl)
            (k i.parent f i.exists i.above) (omega (arith, e, i.in_size), i.place ∙ ap (λ (x : ℕ). i.parent * x + i.coordinate) e) refl (omega arith) i.held

    -- the nodes under a position, by two plain lists
    node_starts : (xs : List ℤ) (ns : List (List ℕ)) (N size : ℕ) → Starts xs ns N → length ns ≡ size → N + 1 < 2 ^ 63 → NodeStarts xs N size (λ p. whole (cell xs p))
    node_starts xs ns N size st e small = record {
      long = st.long;
      small = small;
      each = λ p le. st.each p le ∙ ap pos (sym (whole_nat (cell xs p)));
      rises = λ p r le lr. omega (arith, st.rises p r le lr, whole_nat (cell xs p), whole_nat (cell xs r));
      last = omega (arith, st.last, e, whole_nat (cell xs N));
    }

    module _ (k : ℕ) (more nodes_dim : Dim) (low : ℤ) (ls : List Loop) (l : Level) (levels : List Level) (bufs : List (List ℤ)) (N : ℕ) (ns : List (List ℕ)) (st : Starts (nth bufs 0) ns N) (cells_are : Cells (nth bufs 1) (length ns)) (small : N ≤ limit)
        (under : (p : ℕ) (x : Place) → IsParent (nth bufs 0) p x.position → cell (nth bufs 1) x.position ≡ pos x.coordinate → IsUnder l.kind l.size bufs p x) where
      -- with the coordinates in a column
      nodes_step : (crd : Column) → HasNodes env k more nodes_dim crd (nth bufs 0) (nth bufs 1) → Facts ls levels (drop (width l.kind) bufs) (length ns) → Facts (over.Nodes k more nodes_dim crd low ∷ ls) (l ∷ levels) bufs N
      nodes_step crd has given = by crd refl
        where
          S : ℕ
          S = size_of env nodes_dim

          first : ℕ → ℕ
          first p = whole (cell (env.sources k) p)

          number_is : S ≡ length ns
          number_is = has.number ∙ cells_are.long

          F : Facts ls levels (drop (width l.kind) bufs) S
          F = subst (Facts ls levels (drop (width l.kind) bufs)) (sym number_is) given

          first_is : (p : ℕ) → first p ≡ first_under (nth bufs 0) p
          first_is p = whole_nat (cell (env.sources k) p) ∙ ap (λ (xs : List ℤ). nat_of (cell xs p)) has.starts_are

          starts_fit : NodeStarts (env.sources k) N S (λ p. whole (cell (env.sources k) p))
          starts_fit = subst (λ (xs : List ℤ). NodeStarts xs N S (λ p. whole (cell xs p))) (sym has.starts_are) (node_starts (nth bufs 0) ns N S st (sym number_is) (omega (arith, small)))

          z : first 0 ≡ 0
          z = first_is 0 ∙ st.front

          all : first N ≡ S
          all = omega (arith, first_is N, st.last, number_is)

          -- a node, with its coordinate in a register
          node : (n m : ℕ) (K : ℕ → (ℕ → ℤ) → Type 0) (cs : List Coordinate) (c : Coordinate) → ((q : ℕ) (f : ℕ → ℤ) → q < N → K q f → Know n (l ∷ levels) bufs cs q f)
              → (q : ℕ) (f : ℕ → ℤ) → InNodes K N (λ p. whole (cell (env.sources k) p)) n q f → n ≤ m → c.reg < m → f c.reg ≡ cell (nth bufs 1) q → Know m levels (drop (width l.kind) bufs) (cs ++ c ∷ []) q f
          node n m K cs c know q f i le lt made =
              let x : Place = record { position = q; coordinate = nat_of (cell (nth bufs 1) q) } in
              know_down n m l levels bufs cs c i.parent q f f x le (λ r h. refl) (know i.parent f i.exists i.above)
              (under i.parent x (omega (arith, i.from, first_is i.parent), omega (arith, i.to, first_is (i.parent + 1))) (cells_are.each q)) refl lt (made ∙ cells_are.each q)

          by : (c : Column) → c ≡ crd → Facts (over.Nodes k more nodes_dim c low ∷ ls) (l ∷ levels) bufs N
          by (column.Own a) e =
              let h = subst (λ (c : Column). HasColumn env c (nth bufs 1)) (sym e) has.cells_are in
              let here : ℕ → Coordinate = λ n. record { reg = n + 7; low = low } in
              record {
                fit = ((starts_fit, has.one_more), (node_column_fits env (column.Own a) (nth bufs 1) S h (sym has.number), F.fit));
                from = ap (first_in env (loop_levels ls)) z ∙ F.from;
                to = ap (first_in env (loop_levels ls)) all ∙ F.to;
                number = F.number;
                cost = λ C. omega (arith, ap (work_in env (loop_levels ls) C) all, F.cost C, all);
                costless = λ C. omega (arith, ap (work_in env (loop_levels ls) C) z, F.costless C, z);
                rest = F.rest;
                rest_bufs = F.rest_bufs;
                rest_rows = F.rest_rows;
                slots_are = F.slots_are;
                holds = F.holds;
                reads = λ n K cs know q f lt i.
                    subst (λ (ds : List Coordinate). Know (end_of (loop_levels ls) (n + 7 + 1)) F.rest F.rest_bufs ds q f) (append_assoc cs (here n ∷ []) (loop_coordinates ls (n + 7 + 1)))
                    (F.reads (n + 7 + 1) (InCell (InNodes K N (λ p. whole (cell (env.sources k) p)) n) (λ q. cell (env.sources a) q) (n + 7)) (cs ++ here n ∷ [])
                    (λ y g ly j. node n (n + 7 + 1) K cs (here n) know y g j.above (omega arith) (omega arith) (j.held ∙ ap (λ (xs : List ℤ). cell xs y) h)) q f lt i);
              }
          by (column.Packed a w digit) e =
              let h = subst (λ (c : Column). HasColumn env c (nth bufs 1)) (sym e) has.cells_are in
              let here : ℕ → Coordinate = λ n. record { reg = n + 7 + 1; low = low } in
              record {
                fit = ((starts_fit, has.one_more), (node_column_fits env (column.Packed a w digit) (nth bufs 1) S h (sym has.number), F.fit));
                from = ap (first_in env (loop_levels ls)) z ∙ F.from;
                to = ap (first_in env (loop_levels ls)) all ∙ F.to;
                number = F.number;
                cost = λ C. omega (arith, ap (work_in env (loop_levels ls) C) all, F.cost C, all);
                costless = λ C. omega (arith, ap (work_in env (loop_levels ls) C) z, F.costless C, z);
                rest = F.rest;
                rest_bufs = F.rest_bufs;
                rest_rows = F.rest_rows;
                slots_are = F.slots_are;
                holds = F.holds;
                reads = λ n K cs know q f lt i.
                    subst (λ (ds : List Coordinate). Know (end_of (loop_levels ls) (n + 7 + 2)) F.rest F.rest_bufs ds q f) (append_assoc cs (here n ∷ []) (loop_coordinates ls (n + 7 + 2)))
                    (F.reads (n + 7 + 2) (InCell (InNodes K N (λ p. whole (cell (env.sources k) p)) n) (λ q. cell (env.sources a) (q * w + digit)) (n + 7 + 1)) (cs ++ here n ∷ [])
                    (λ y g ly j. node n (n + 7 + 2) K cs (here n) know y g j.above (omega arith) (omega arith) (j.held ∙ h.each y (omega (arith, ly, has.number)))) q f lt i);
              }

    step : (x : Loop) (k : Kind) (size : ℕ) (ls : List Loop) (levels : List Level) (bufs : List (List ℤ)) (N : ℕ) (rows : List Row) → HasLoop env x k size bufs → HoldsLevel k size bufs N rows → N ≤ limit
        → count_below k size N rows ≤ limit → Facts ls levels (drop (width k) bufs) (count_below k size N rows) → Facts (x ∷ ls) (record { kind = k; size = size } ∷ levels) bufs N
    step (over.Full d low) kind.Full size ls levels bufs N rows h holds small next F = full_step d low ls size levels bufs N h next F
    step (over.Full d low) kind.Compressed size ls levels bufs N rows h holds small next F = absurd h
    step (over.Full d low) kind.Listed size ls levels bufs N rows h holds small next F = absurd h
    step (over.Full d low) kind.Slot size ls levels bufs N rows h holds small next F = absurd h
    step (over.Nodes k more d crd low) kind.Full size ls levels bufs N rows h holds small next F = absurd h
    step (over.Nodes k more d crd low) kind.Compressed size ls levels bufs N rows h holds small next F =
        nodes_step k more d low ls (record { kind = kind.Compressed; size = size }) levels bufs N (nodes kind.Compressed rows) holds.0 holds.1 small (λ p x a b. (a, b)) crd h F
    step (over.Nodes k more d crd low) kind.Listed size ls levels bufs N rows h holds small next F =
        nodes_step k more d low ls (record { kind = kind.Listed; size = size }) levels bufs N (nodes kind.Listed rows) holds.0 holds.1 small (λ p x a b. (a, b)) crd h F
    step (over.Nodes k more d crd low) kind.Slot size ls levels bufs N rows h holds small next F = absurd h

    pub facts : (ls : List Loop) (levels : List Level) (bufs : List (List ℤ)) (N : ℕ) (rows : List Row) → HasLevels env ls slots levels bufs → HoldsLevels levels bufs N rows → ((k : ℕ) → count_after (take k levels) N rows ≤ limit) → Facts ls levels bufs N
    facts [] levels bufs N rows h holds small = none levels bufs N rows h holds
    facts (x ∷ ls) [] bufs N rows h holds small = absurd h
    facts (x ∷ ls) (l ∷ levels) bufs N rows h holds small =
        step x l.kind l.size ls levels bufs N rows h.0 holds.0 (small 0) (small 1)
        (facts ls levels (drop (width l.kind) bufs) (count_below l.kind l.size N rows) (down l.kind l.size rows) h.1 holds.1 (λ k. small (suc k)))

-- ---- tight parts

module _ (env : Env) (slots : List Slot) where
  all_slots : (xs : List Slot) (levels : List Level) (bufs : List (List ℤ)) → HasSlots env xs levels bufs → are_slots levels ≡ true
  all_slots [] [] bufs h = refl
  all_slots [] (l ∷ levels) bufs h = absurd h
  all_slots (x ∷ xs) [] bufs h = absurd h
  all_slots (x ∷ xs) (l ∷ levels) bufs h = one l.kind l.size h.0 (all_slots xs levels (drop (width l.kind) bufs) h.1)
    where
      one : (k : Kind) (size : ℕ) → HasSlot env x.crd k bufs → are_slots levels ≡ true → are_slots (record { kind = k; size = size } ∷ levels) ≡ true
      one kind.Full size h e = absurd h
      one kind.Compressed size h e = absurd h
      one kind.Listed size h e = absurd h
      one kind.Slot size h e = e

  no_slot : (x : Loop) (k : Kind) (size : ℕ) (levels : List Level) (bufs : List (List ℤ)) → HasLoop env x k size bufs → are_slots (record { kind = k; size = size } ∷ levels) ≡ false
  no_slot (over.Full d low) kind.Full size levels bufs h = refl
  no_slot (over.Full d low) kind.Compressed size levels bufs h = absurd h
  no_slot (over.Full d low) kind.Listed size levels bufs h = absurd h
  no_slot (over.Full d low) kind.Slot size levels bufs h = absurd h
  no_slot (over.Nodes k more d crd low) kind.Full size levels bufs h = absurd h
  no_slot (over.Nodes k more d crd low) kind.Compressed size levels bufs h = refl
  no_slot (over.Nodes k more d crd low) kind.Listed size levels bufs h = refl
  no_slot (over.Nodes k more d crd low) kind.Slot size levels bufs h = absurd h

  has_nodes_as : (x : Loop) (k : Kind) (size : ℕ) (bufs : List (List ℤ)) → HasLoop env x k size bufs → is_nodes x ≡ true → has_nodes k ≡ true
  has_nodes_as (over.Full d low) k size bufs h e = absurd cc
  has_nodes_as (over.Nodes k more d crd low) kind.Full size bufs h e = absurd h
  has_nodes_as (over.Nodes k more d crd low) kind.Compressed size bufs h e = refl
  has_nodes_as (over.Nodes k more d crd low) kind.Listed size bufs h e = refl
  has_nodes_as (over.Nodes k more d crd low) kind.Slot size bufs h e = absurd h

  tight_from : (x : Loop) (ls : List Loop) (l : Level) (levels : List Level) (bufs : List (List ℤ)) → HasLevels env (x ∷ ls) slots (l ∷ levels) bufs → ends_in_nodes (is_nodes x) ls ≡ true → is_tight (l ∷ levels) ≡ true
  tight_from x [] l levels bufs h e = rw (all_slots slots levels (drop (width l.kind) bufs) h.1) (has_nodes_as x l.kind l.size bufs h.0 e)
  tight_from x (y ∷ ls) l [] bufs h e = absurd h.1
  tight_from x (y ∷ ls) l (m ∷ levels) bufs h e = rw (no_slot y m.kind m.size levels (drop (width l.kind) bufs) h.1.0) (tight_from y ls m levels (drop (width l.kind) bufs) h.1 e)

  pub tight_as : (ls : List Loop) (levels : List Level) (bufs : List (List ℤ)) → HasLevels env ls slots levels bufs → ends_in_nodes false ls ≡ true → is_tight levels ≡ true
  tight_as [] levels bufs h e = absurd cc
  tight_as (x ∷ ls) [] bufs h e = absurd h
  tight_as (x ∷ ls) (l ∷ levels) bufs h e = tight_from x ls l levels bufs h e
