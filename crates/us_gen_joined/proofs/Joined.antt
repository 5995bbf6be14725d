-- Listed columns hold each entry once.
use Rattle.std.specs.List.{range_with_len}
use Rattle.std.specs.List.Sorted.{IsPermutation}
use Rattle.std.proofs.Common.{◌≡◌, ℕ, ◌+◌, ◌*◌, ◌<◌, List, [], ◌∷◌, map, length, sym, refl, ap, ◌∙◌, subst, inl, true, arith, ℤ, pos}
use Rattle.std.proofs.lemmas.List.FromFn.{fill_by_all, length-map-range_with_len}
use Rattle.std.proofs.lemmas.List.Sorted.{All-permutation, IsPermutation-map, IsPermutation-trans}
use Rattle.std.proofs.lemmas.Simd.{map-map}
use Rattle.us_code.specs.declared.pieces.Columns.{Columns}
use Rattle.us_code.specs.Runs.{World}
use Rattle.us_expr.specs.declared.queries.Cond.{Cond}
use Rattle.us_format.specs.Lists.{cell, lower, nat_of}
use Rattle.us_format.specs.Coordinates.{coordinates}
use Rattle.us_format.specs.Positions.{row_of}
use Rattle.us_format.specs.Matrix.{Entry, Shape, IsMatrixOf}
use Rattle.us_format.specs.Declaration.{Part, Declaration}
use Rattle.us_format.specs.Buffers.{holds, parts_of, shares, size}
use Rattle.us_format.specs.Rules.{IsLawful, IsLawfulDeclaration}
use Rattle.us_format.proofs.Order.{Mem, Mem-of_map}
use Rattle.us_format.proofs.Members.{all-Mem, Mem-contains}
use Rattle.us_format.proofs.Collect.{range-Mem}
use Rattle.us_format.proofs.Whole.{part-lawful, part-matrix}
use Rattle.us_format_loops.proofs.Parts.{shares-length}
use Rattle.us_gen_parts.proofs.EntriesFew.{all-few}
use Rattle.us_build.specs.Items.{IsAscending}
use Rattle.us_gen_walk.specs.Runs.{rank_of}
use Rattle.us_judge.specs.Views.{declaration_of}
use Rattle.us_judge.proofs.LawfulDeclarations.{accepted-declaration}
use Rattle.us_code.specs.Plain.{phase_tree}
use Rattle.us_code.specs.Runs.{phases}
use Rattle.us_gen.proofs.Going.{leads_weaker}
use Rattle.us_gen_listing.specs.Unpack.{HoldsEntries, PartStands, PartsStand, IsFreeFrom, level_count, query_count, unpacking_room}
use Rattle.us_gen_joined.specs.Joined.{AreGiven, ListedAreGiven, UnpackedIsListed}
use Rattle.us_gen_joined.proofs.Ascending.{ascend-by, by-rank}
use Rattle.us_gen_joined.proofs.Ordered.{part_there, stands, number, number-is, joined, shares-joined, places, all_permuted, entry_at, IsEntry, all_read, all_entries}

module _ (w : World) (s : Shape) (d : Declaration) (m : List Entry) (c : Columns) (la : IsLawfulDeclaration d) (im : IsMatrixOf s m) (h : HoldsEntries s d m c w) where
  abbrev is : List ℤ
  is = w.bufs c.i

  abbrev js : List ℤ
  js = w.bufs c.j

  abbrev vs : List ℤ
  vs = w.bufs c.v

  abbrev at : ℕ → Entry
  at = entry_at (w.bufs c.i) (w.bufs c.j) (w.bufs c.v)

  abbrev pub order : List Entry
  order = map at (range_with_len 0 (length m))

  good : (y : Part × List Entry) → Mem y (parts_of s d m) → IsLawful y.0 × IsMatrixOf s y.1
  good y my = (part-lawful s d m la y my, part-matrix s d m la im y my)

  number_is : number (parts_of s d m) ≡ length m
  number_is = number-is (parts_of s d m) ∙ shares-length (holds m s d) d.conds d.parts m la.one_more

  in_places : IsPermutation (places s (parts_of s d m) 0) (range_with_len 0 (length m))
  in_places = subst (λ (n : ℕ). IsPermutation (places s (parts_of s d m) 0) (range_with_len 0 n)) number_is (all_permuted s (parts_of s d m) 0 good)

  pub shuffled : IsPermutation m order
  shuffled =
      IsPermutation-trans m (joined (parts_of s d m)) order (shares-joined (holds m s d) d.conds d.parts m la.one_more)
      (subst (λ (zs : List Entry). IsPermutation zs order) (all_read is js vs s (parts_of s d m) 0 h.stand) (IsPermutation-map at (places s (parts_of s d m) 0) (range_with_len 0 (length m)) in_places))

  entries : (k : ℕ) → k < length m → IsEntry is js vs k
  entries k l =
      all-Mem (IsEntry is js vs) (range_with_len 0 (length m)) k
      (All-permutation (IsEntry is js vs) (places s (parts_of s d m) 0) (range_with_len 0 (length m)) in_places (all_entries is js vs s (parts_of s d m) 0 h.stand))
      (range-Mem 0 (length m) k (omega arith) (omega (arith, l)))

  pub long : length order ≡ length m
  long = length-map-range_with_len at 0 (length m)

  pub rows : w.bufs c.i ≡ map (λ x. pos x.i) order
  rows = fill_by_all (λ k. pos (nat_of (cell is k))) is (length m) (pos 0) h.rows (λ k l. (entries k l).row) ∙ sym (map-map (λ (x : Entry). pos x.i) at (range_with_len 0 (length m)))

  pub cols : w.bufs c.j ≡ map (λ x. pos x.j) order
  cols = fill_by_all (λ k. pos (nat_of (cell js k))) js (length m) (pos 0) h.cols (λ k l. (entries k l).col) ∙ sym (map-map (λ (x : Entry). pos x.j) at (range_with_len 0 (length m)))

  pub values : w.bufs c.v ≡ map (λ x. x.v) order
  values = fill_by_all (λ k. cell vs k) vs (length m) (pos 0) h.values (λ k l. refl) ∙ sym (map-map (λ (x : Entry). x.v) at (range_with_len 0 (length m)))

  -- ---- one part

  module _ (p : Part) (one : d.parts ≡ p ∷ []) where
    one_part : (cs : List Cond) → length cs ≡ 0 → shares (holds m s d) cs (p ∷ []) m ≡ (p, m) ∷ []
    one_part [] e = refl
    one_part (x ∷ xs) e = absurd (omega (arith, e))

    parts_are : parts_of s d m ≡ (p, m) ∷ []
    parts_are =
        ap (λ (ps : List Part). shares (holds m s d) d.conds ps m) one
        ∙ one_part d.conds (omega (arith, la.one_more, ap (λ (ps : List Part). length ps) one))

    lawful : IsLawful p
    lawful = (good (p, m) (subst (λ (ys : List (Part × List Entry)). Mem {A = Part × List Entry} (p, m) ys) (sym parts_are) (inl refl))).0

    there : PartStands s p m 0 is js vs
    there = (subst (λ (ys : List (Part × List Entry)). PartsStand s ys 0 is js vs) parts_are h.stand).0

    pub ascends : IsAscending (map (row_of m s p) order)
    ascends =
        subst IsAscending (sym (map-map (row_of m s p) at (range_with_len 0 (length m))))
        (ascend-by (λ k. row_of m s p (at k)) (length m)
        (λ i j lt l.
        let x = part_there s p m 0 i lawful im (omega arith) (omega (arith, lt, l)) in
        let y = part_there s p m 0 j lawful im (omega arith) (omega (arith, l)) in
        let a = Mem-of_map (λ z. 0 + rank_of s p m z) i m x in
        let b = Mem-of_map (λ z. 0 + rank_of s p m z) j m y in
        let first : at i ≡ a.0 = ap at (sym a.2) ∙ stands is js vs s p m 0 there a.0 (Mem-contains m a.0 a.1) in
        let second : at j ≡ b.0 = ap at (sym b.2) ∙ stands is js vs s p m 0 there b.0 (Mem-contains m b.0 b.1) in
        subst (λ (z : Entry). lower (coordinates m s p z) (coordinates m s p (at j)) ≡ true) (sym first)
        (subst (λ (z : Entry). lower (coordinates m s p a.0) (coordinates m s p z) ≡ true) (sym second)
        (by-rank s p m lawful im a.0 b.0 (Mem-contains m a.0 a.1) (Mem-contains m b.0 b.1) (omega (arith, lt, a.2, b.2))))))

pub listed_are_given : ListedAreGiven
listed_are_given w s d m c n la im rows_few cols_few within h plain below_count below_i below_j below_v = record {
  order = order w s d m c la im h;
  given = record {
    matrix = im;
    rows = rows_few;
    cols = cols_few;
    few = omega (arith, long w s d m c la im h, all-few s d m la im within);
    held = record {
      shuffled = shuffled w s d m c la im h;
      count = h.count ∙ sym (long w s d m c la im h);
      rows = rows w s d m c la im h;
      cols = cols w s d m c la im h;
      values = values w s d m c la im h;
    };
    plain = plain;
    count = below_count;
    i = below_i;
    j = below_j;
    v = below_v;
  };
  ascends = λ p one. ascends w s d m c la im h p one;
}

pub unpacked_is_listed : UnpackedIsListed
unpacked_is_listed s d low piece valid kept rows_few cols_few unpacks = record {
  leads = λ w m im within sources short.
      leads_weaker low (64 * ((1 + level_count (declaration_of d) + query_count (declaration_of d)) * (size s (declaration_of d) m + 1))) w (phases (map phase_tree piece.phases) w)
      (HoldsEntries s (declaration_of d) m piece.columns) (λ u. AreGiven u piece.columns s (declaration_of d) m (low + unpacking_room))
      (λ u h keeps.
      listed_are_given u s (declaration_of d) m piece.columns (low + unpacking_room) (accepted-declaration d valid kept) im rows_few cols_few within h unpacks.no_vars unpacks.columns.0.to unpacks.columns.1.to unpacks.columns.2.to unpacks.columns.3.to)
      (unpacks.lists w m im within sources short);
  typed = λ g enough room.
      let free : IsFreeFrom g low = record { regs = record { none = λ r l. room.regs r }; bufs = room.bufs; dims = room.dims } in
      (unpacks.fits g enough room, (unpacks.typed g enough free).columns);
  text = unpacks.text;
  unsorted = unpacks.unsorted;
}
