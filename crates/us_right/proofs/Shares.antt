-- The parts of a declaration with their entries, and what building all of them costs.
use Rattle.std.specs.Prelude.{slice_get}
use Rattle.std.proofs.Common.{◌≡◌, ℕ, suc, ◌+◌, ◌*◌, ◌<◌, ◌≤◌, refl, sym, ap, ◌∙◌, arith, List, [], ◌∷◌, ◌++◌, map, length, take, Some, sum_by, mul-le-mul_left}
use Rattle.std.specs.List.{sum}
use Rattle.std.proofs.lemmas.List.{take_more, take_all}
use Rattle.std.proofs.lemmas.List.Sums.{sum_by-cons, sum_by-append}
use Rattle.std.proofs.lemmas.List.Sorted.{IsPermutation-refl}
use Rattle.std.proofs.lemmas.Option.{get_or_from_slice_get, slice_get-get_or, slice_get_within}
use Rattle.us_format.specs.Matrix.{Shape, Entry}
use Rattle.us_format.specs.Declaration.{Part, Declaration}
use Rattle.us_format.specs.Packs.{Buffer}
use Rattle.us_format.specs.Buffers.{part_buffers, part_counts, all_buffers, holds, parts_of, size}
use Rattle.us_format.specs.Rules.{IsLawfulDeclaration}
use Rattle.us_format.specs.Laws.{cells_of}
use Rattle.us_format.proofs.Members.{item-Mem}
use Rattle.us_format.proofs.Order.{Mem}
use Rattle.us_format.proofs.PackSizes.{sum-map}
use Rattle.us_format.proofs.Shares.{shares-parts}
use Rattle.us_format_loops.proofs.Parts.{shares-length}
use Rattle.us_format_loops.proofs.Small.{part-of-sum}
use Rattle.us_judge.specs.Format.{part_at}
use Rattle.us_query_loops.proofs.Choosing.{entries-are-chosen}
use Rattle.us_gen_listing.specs.Unpack.{level_count, query_count}
use Rattle.us_right.specs.Right.{lane_turns, turns, most_steps}
use Rattle.us_right.specs.Costs.{own_size, listing_cost, part_cost, parts_cost}
use Rattle.us_right.specs.Piece.{share_at}
use Rattle.us_right.proofs.Sums.{sum-both, sum-times, sum-same, sum-products, target-few, both-few}

abbrev Share : Type 0
Share = Part × List Entry

-- ---- sizes

regroup : (a b c d : ℕ) → a + b + (c + d) ≡ a + c + (b + d)
regroup a b c d = omega arith

own_sizes : (s : Shape) (ys : List Share) → cells_of (all_buffers s ys) + sum_by (λ (y : Share). sum (part_counts s y.0 y.1)) ys ≡ sum_by (own_size s) ys
own_sizes s [] = refl
own_sizes s (y ∷ ys) =
    omega (
      arith,
      sum_by-append (λ (b : Buffer). b.len) (part_buffers s y.0 y.1) (all_buffers s ys),
      sum_by-cons (λ (z : Share). sum (part_counts s z.0 z.1)) y ys,
      sum_by-cons (own_size s) y ys,
      own_sizes s ys,
    )

pub size-shares : (s : Shape) (d : Declaration) (m : List Entry) → size s d m ≡ sum_by (own_size s) (parts_of s d m)
size-shares s d m = own_sizes s (parts_of s d m)

-- ---- the share of one part

module _ (s : Shape) (d : Declaration) (m : List Entry) (law : IsLawfulDeclaration d) where
  part_there : (k : ℕ) → k < length d.parts → slice_get d.parts k ≡ Some (part_at d k)
  part_there k h = slice_get-get_or d.parts k (record { names = 0; queries = []; levels = []; trim = []; merge = []; packs = [] }) h

  pub share-there : (k : ℕ) → k < length d.parts → slice_get (parts_of s d m) k ≡ Some (share_at s d m k)
  share-there k h = (entries-are-chosen s d m m (IsPermutation-refl m) (omega (arith, law.one_more)) k).part (part_at d k) (part_there k h)

  pub share-within : (k : ℕ) → k < length d.parts → own_size s (share_at s d m k) ≤ size s d m
  share-within k h =
      omega (arith, size-shares s d m, part-of-sum (own_size s) (share_at s d m k) (parts_of s d m) (item-Mem (parts_of s d m) k (share_at s d m k) (share-there k h)))

  pub shares-next : (k : ℕ) → k < length d.parts → take (k + 1) (parts_of s d m) ≡ take k (parts_of s d m) ++ (share_at s d m k ∷ [])
  shares-next k h =
      let is = share-there k h in
      take_more (parts_of s d m) k (share_at s d m k) (slice_get_within (parts_of s d m) k (share_at s d m k) is)
      ∙ ap (λ (y : Share). take k (parts_of s d m) ++ (y ∷ [])) (get_or_from_slice_get (parts_of s d m) k (share_at s d m k) (share_at s d m k) is)

  parts_are : map (λ (y : Share). y.0) (parts_of s d m) ≡ d.parts
  parts_are = shares-parts (holds m s d) d.conds d.parts m law.one_more

  length_map : {A B : Type 0} (f : A → B) (xs : List A) → length (map f xs) ≡ length xs
  length_map f [] = refl
  length_map f (x ∷ xs) = ap suc (length_map f xs)

  pub shares-number : length (parts_of s d m) ≡ length d.parts
  shares-number = sym (length_map (λ (y : Share). y.0) (parts_of s d m)) ∙ ap (λ (ps : List Part). length ps) parts_are

  pub shares-all : (k : ℕ) → length d.parts ≤ k → take k (parts_of s d m) ≡ parts_of s d m
  shares-all k h = take_all k (parts_of s d m) (omega (arith, h, shares-number))

  -- a number for each part
  by_parts : (f : Part → ℕ) → sum_by (λ (y : Share). f y.0) (parts_of s d m) ≡ sum_by f d.parts
  by_parts f = sym (sum-map f (λ (y : Share). y.0) (parts_of s d m)) ∙ ap (sum_by f) parts_are

  pub cost-next : (k : ℕ) → k < length d.parts → parts_cost s d m (k + 1) ≡ parts_cost s d m k + part_cost s d m (share_at s d m k)
  cost-next k h =
      ap (sum_by (part_cost s d m)) (shares-next k h)
      ∙ (sum_by-append (part_cost s d m) (take k (parts_of s d m)) (share_at s d m k ∷ []) ∙ last (sum_by (part_cost s d m) (take k (parts_of s d m))) (part_cost s d m (share_at s d m k)) _ (sum_by-cons (part_cost s d m) (share_at s d m k) []))
    where
      last : (a b c : ℕ) → c ≡ b + 0 → a + c ≡ a + b
      last a b c e = omega (arith, e)

  -- ---- all parts

  abbrev ys : List Share
  ys = parts_of s d m

  abbrev factor : Share → ℕ
  factor y = 1 + length y.0.queries

  abbrev amount : Share → ℕ
  amount y = length y.1 + (own_size s y + lane_turns s y.0.queries)

  abbrev wider : Share → ℕ
  wider y = 1 + length y.0.levels + length y.0.queries

  abbrev weight : Share → ℕ
  weight y = length y.1 + own_size s y

  abbrev chosen : ℕ
  chosen = (1 + length d.head) * (length m + 1)

  cost_split : sum_by (part_cost s d m) (parts_of s d m)
      ≡ length d.parts * (32 * ((1 + length d.head) * (length m + 1))) + (32 * sum_by (λ (y : Share). (1 + length y.0.queries) * (length y.1 + (own_size s y + lane_turns s y.0.queries) + 1)) (parts_of s d m)
      + 64 * sum_by (λ (y : Share). (1 + length y.0.levels + length y.0.queries) * (length y.1 + own_size s y + 1)) (parts_of s d m))
  cost_split =
      omega (
        arith,
        sum-both (λ (y : Share). 32 * ((1 + length d.head) * (length m + 1)))
            (λ (y : Share). 32 * ((1 + length y.0.queries) * (length y.1 + (own_size s y + lane_turns s y.0.queries) + 1)) + 64 * ((1 + length y.0.levels + length y.0.queries) * (length y.1 + own_size s y + 1))) (parts_of s d m),
        sum-same (32 * ((1 + length d.head) * (length m + 1))) (parts_of s d m),
        sum-both (λ (y : Share). 32 * ((1 + length y.0.queries) * (length y.1 + (own_size s y + lane_turns s y.0.queries) + 1)))
            (λ (y : Share). 64 * ((1 + length y.0.levels + length y.0.queries) * (length y.1 + own_size s y + 1))) (parts_of s d m),
        sum-times 32 (λ (y : Share). (1 + length y.0.queries) * (length y.1 + (own_size s y + lane_turns s y.0.queries) + 1)) (parts_of s d m),
        sum-times 64 (λ (y : Share). (1 + length y.0.levels + length y.0.queries) * (length y.1 + own_size s y + 1)) (parts_of s d m),
        ap (λ (n : ℕ). n * (32 * ((1 + length d.head) * (length m + 1)))) shares-number,
      )

  queries_few : (y : Share) → Mem y (parts_of s d m) → length y.0.queries ≤ sum_by (λ (p : Part). length p.queries) d.parts
  queries_few y i = omega (arith, part-of-sum (λ (z : Share). length z.0.queries) y (parts_of s d m) i, by_parts (λ (p : Part). length p.queries))

  levels_few : (y : Share) → Mem y (parts_of s d m) → length y.0.levels ≤ sum_by (λ (p : Part). length p.levels) d.parts
  levels_few y i = omega (arith, part-of-sum (λ (z : Share). length z.0.levels) y (parts_of s d m) i, by_parts (λ (p : Part). length p.levels))

  entries_all : sum_by (λ (y : Share). length y.1) (parts_of s d m) ≡ length m
  entries_all = shares-length (holds m s d) d.conds d.parts m law.one_more

  -- the sums
  counted_few : sum_by (λ (y : Share). (1 + length y.0.queries) * (length y.1 + (own_size s y + lane_turns s y.0.queries) + 1)) (parts_of s d m)
      ≤ length d.parts + sum_by (λ (p : Part). length p.queries) d.parts
      + (1 + sum_by (λ (p : Part). length p.queries) d.parts) * (length m + (size s d m + sum_by (λ (p : Part). lane_turns s p.queries) d.parts))
  counted_few =
      let q = sum_by (λ (p : Part). length p.queries) d.parts in
      let factors : sum_by (λ (y : Share). 1 + length y.0.queries) (parts_of s d m) ≡ length d.parts + sum_by (λ (p : Part). length p.queries) d.parts =
      omega (arith, sum-both (λ (y : Share). 1) (λ (y : Share). length y.0.queries) (parts_of s d m), sum-same 1 (parts_of s d m), shares-number, by_parts (λ (p : Part). length p.queries)) in
      let amounts : sum_by (λ (y : Share). length y.1 + (own_size s y + lane_turns s y.0.queries)) (parts_of s d m) ≡ length m + (size s d m + sum_by (λ (p : Part). lane_turns s p.queries) d.parts) =
      omega (
        arith,
        sum-both (λ (y : Share). length y.1) (λ (y : Share). own_size s y + lane_turns s y.0.queries) (parts_of s d m),
        sum-both (own_size s) (λ (y : Share). lane_turns s y.0.queries) (parts_of s d m),
        entries_all,
        size-shares s d m,
        by_parts (λ (p : Part). lane_turns s p.queries),
      ) in
      bounded _ _ _ _ _ _ (sum-products (λ (y : Share). 1 + length y.0.queries) (λ (y : Share). length y.1 + (own_size s y + lane_turns s y.0.queries)) (1 + sum_by (λ (p : Part). length p.queries) d.parts) (parts_of s d m)
      (λ y i. omega (arith, queries_few y i))) factors amounts
    where
      bounded : (s a x most b y : ℕ) → s ≤ a + most * x → a ≡ b → x ≡ y → s ≤ b + most * y
      bounded s a x most b y h e f = let z : most * x ≡ most * y = cc in omega (arith, h, e, z)

  built_few : sum_by (λ (y : Share). (1 + length y.0.levels + length y.0.queries) * (length y.1 + own_size s y + 1)) (parts_of s d m)
      ≤ length d.parts + sum_by (λ (p : Part). length p.levels) d.parts + sum_by (λ (p : Part). length p.queries) d.parts
      + (1 + sum_by (λ (p : Part). length p.levels) d.parts + sum_by (λ (p : Part). length p.queries) d.parts) * (length m + size s d m)
  built_few =
      let factors : sum_by (λ (y : Share). 1 + length y.0.levels + length y.0.queries) (parts_of s d m)
      ≡ length d.parts + sum_by (λ (p : Part). length p.levels) d.parts + sum_by (λ (p : Part). length p.queries) d.parts =
      omega (
        arith,
        sum-both (λ (y : Share). 1 + length y.0.levels) (λ (y : Share). length y.0.queries) (parts_of s d m),
        sum-both (λ (y : Share). 1) (λ (y : Share). length y.0.levels) (parts_of s d m),
        sum-same 1 (parts_of s d m),
        shares-number,
        by_parts (λ (p : Part). length p.queries),
        by_parts (λ (p : Part). length p.levels),
      ) in
      let amounts : sum_by (λ (y : Share). length y.1 + own_size s y) (parts_of s d m) ≡ length m + size s d m =
      omega (arith, sum-both (λ (y : Share). length y.1) (own_size s) (parts_of s d m), entries_all, size-shares s d m) in
      bounded _ _ _ _ _ _ (sum-products (λ (y : Share). 1 + length y.0.levels + length y.0.queries) (λ (y : Share). length y.1 + own_size s y)
      (1 + sum_by (λ (p : Part). length p.levels) d.parts + sum_by (λ (p : Part). length p.queries) d.parts) (parts_of s d m) (λ y i. omega (arith, queries_few y i, levels_few y i))) factors amounts
    where
      bounded : (s a x most b y : ℕ) → s ≤ a + most * x → a ≡ b → x ≡ y → s ≤ b + most * y
      bounded s a x most b y h e f = let z : most * x ≡ most * y = cc in omega (arith, h, e, z)

  -- listing the entries of another declaration, and building all parts
  pub all-few : (f : Declaration) → length d.parts ≤ 4 → length d.parts ≤ sum_by (λ (p : Part). length p.levels) d.parts → (k : ℕ) → length d.parts ≤ k → listing_cost s f m + parts_cost s d m k ≤ most_steps f d s m
  all-few f few some k end =
      let q = sum_by (λ (p : Part). length p.queries) d.parts in
      let l = sum_by (λ (p : Part). length p.levels) d.parts in
      let lanes = sum_by (λ (p : Part). lane_turns s p.queries) d.parts in
      let all = length m + size s d m + lanes + 1 in
      let most = size s f m + size s d m + length m + 1 + (turns s f + turns s d) in
      let select : (1 + length d.head) * (length m + 1) ≤ (1 + length d.head) * (length m + size s d m + lanes + 1) = mul-le-mul_left (1 + length d.head) (omega arith) in
      let target : length d.parts * (32 * ((1 + length d.head) * (length m + 1))) + (32 * _ + 64 * _) ≤ 256 * ((1 + l + length d.head + q) * all) =
      target-few (length d.parts) (length d.head) l q (length m) (size s d m) lanes all ((1 + length d.head) * (length m + 1)) _ _ few some (omega arith) (omega arith) select counted_few built_few in
      let cost : parts_cost s d m k ≡ sum_by (part_cost s d m) (parts_of s d m) = ap (sum_by (part_cost s d m)) (shares-all k end) in
      both-few (level_count f) (query_count f) l (length d.head) q (size s f m) all most (parts_cost s d m k) (omega arith) (omega arith) (omega (arith, cost, cost_split, target))
