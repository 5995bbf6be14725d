-- The lines of a table, one after the other, and the smallest.
use Rattle.std.proofs.Common.{◌≡◌, ℕ, zero, suc, ◌+◌, ◌<◌, ◌≤◌, List, [], ◌∷◌, ◌++◌, length, map, drop, get_or, Bool, true, false, cond, not, refl, sym, ap, ◌∙◌, inl, inr, arith}
use Rattle.std.specs.Prelude.{Option, Some, None, codes, nat_lt}
use Rattle.std.specs.Fmt.{decimal}
use Rattle.std.specs.List.{find, flat_map, position_or_len}
use Rattle.std.proofs.Math.Nat.{min-eq_left, min-eq_right}
use Rattle.std.proofs.lemmas.Bool.Decides.{leb_tells, nat_tests}
use Rattle.std.proofs.lemmas.List.{append_assoc, append-nil, at_drop_more, drop_all, get_or-map, length-map}
use Rattle.us_format.specs.Reading.{limit}
use Rattle.us_advise.specs.Least.{is_least, least, told}
use Rattle.us_smallest.specs.Tables.{best_line, ending, line, size_text, smallest, table}

-- ---- a line more

pub next_line : {A : Type 0} (f : A → List ℕ) (xs : List A) (x : A) (k : ℕ) (o : List ℕ) → k < length xs → x ≡ get_or xs k x
    → (o ++ f x) ++ flat_map f (drop (k + 1) xs) ≡ o ++ flat_map f (drop k xs)
next_line f xs x k o below is =
    append_assoc o (f x) (flat_map f (drop (k + 1) xs))
    ∙ ap (λ (l : List ℕ). o ++ l) (ap (λ (y : _). f y ++ flat_map f (drop (k + 1) xs)) is ∙ sym (at_drop_more (flat_map f) xs k x below))

-- ---- sizes as they are told

pub told_text : (n : ℕ) → size_text (told n) ≡ size_text n
told_text n =
    elim (leb_tells n limit) [
      | inl w ↦ ap size_text (min-eq_left (omega (arith, w.1)))
      | inr w ↦
          let up : told n ≡ limit + 1 = min-eq_right (omega (arith, w.1)) in
          ap size_text up ∙ ap (λ (b : Bool). cond b (decimal n) (codes "over")) (sym w.0)
    ]

pub told_ending : (m n : ℕ) → m ≡ told n → ending m ≡ ending n
told_ending m n e = ap (λ (k : ℕ). codes " " ++ (size_text k ++ (10 ∷ []))) e ∙ ap (λ (l : List ℕ). codes " " ++ (l ++ (10 ∷ []))) (told_text n)

module _ {A : Type 0} (label : A → List ℕ) (size : A → ℕ) where
  -- the size that is told at a place
  told_at : (xs : List A) (sizes : List ℕ) (k n : ℕ) (x : A) → sizes ≡ map (λ x. told (size x)) xs → k < length xs → n ≡ get_or sizes k 0 → x ≡ get_or xs k x → n ≡ told (size x)
  told_at xs sizes k n x e below here is =
      here ∙ ap (λ (l : List ℕ). get_or l k 0) e ∙ get_or-map (λ x. told (size x)) xs k x 0 below ∙ ap (λ (y : A). told (size y)) (sym is)

  -- so what is printed with it is the line of what stands there
  pub told_line : (xs : List A) (sizes : List ℕ) (k n : ℕ) (x : A) → sizes ≡ map (λ x. told (size x)) xs → k < length xs → n ≡ get_or sizes k 0 → x ≡ get_or xs k x
      → label x ++ ending n ≡ line label size x
  told_line xs sizes k n x e below here is = ap (λ (l : List ℕ). label x ++ l) (told_ending n (size x) (told_at xs sizes k n x e below here is))

  pub next_told : (xs : List A) (sizes : List ℕ) (k n : ℕ) (x : A) (o new all : List ℕ) → sizes ≡ map (λ x. told (size x)) xs → k < length xs → n ≡ get_or sizes k 0 → x ≡ get_or xs k x
      → new ≡ o ++ (label x ++ ending n) → o ++ flat_map (line label size) (drop k xs) ≡ all → new ++ flat_map (line label size) (drop (k + 1) xs) ≡ all
  next_told xs sizes k n x o new all e below here is pushed before =
      ap (λ (l : List ℕ). l ++ flat_map (line label size) (drop (k + 1) xs)) (pushed ∙ ap (λ (l : List ℕ). o ++ l) (told_line xs sizes k n x e below here is))
      ∙ next_line (line label size) xs x k o below is ∙ before

-- ---- the smallest, by its place

found_here : {A : Type 0} (b : Bool) (x d : A) (xs : List A) (n k : ℕ) (r : Option A) → cond (not b) (1 + n) 0 ≡ k → k < suc (length xs)
    → ((j : ℕ) → n ≡ j → j < length xs → r ≡ Some (get_or xs j d)) → cond b (Some x) r ≡ Some (get_or (x ∷ xs) k d)
found_here true x d xs n zero r e below more = refl
found_here true x d xs n (suc k) r e below more = absurd (omega (arith, e))
found_here false x d xs n zero r e below more = absurd (omega (arith, e))
found_here false x d xs n (suc k) r e below more = more k (omega (arith, e)) (omega (arith, below))

found_at : {A : Type 0} (q : ℕ → Bool) (f : A → ℕ) (xs : List A) (k : ℕ) (d : A) → position_or_len q (map f xs) ≡ k → k < length xs → find (λ x. q (f x)) xs ≡ Some (get_or xs k d)
found_at q f [] k d e below = absurd (omega (arith, below))
found_at q f (x ∷ xs) k d e below =
    found_here (q (f x)) x d xs (position_or_len q (map f xs)) k (find (λ x. q (f x)) xs) e below (λ j e b. found_at q f xs j d e b)

not_here : {A : Type 0} (b : Bool) (x : A) (len n : ℕ) (r : Option A) → suc len ≤ cond (not b) (1 + n) 0 → (len ≤ n → r ≡ None) → cond b (Some x) r ≡ None
not_here true x len n r past more = absurd (omega (arith, past))
not_here false x len n r past more = more (omega (arith, past))

not_found : {A : Type 0} (q : ℕ → Bool) (f : A → ℕ) (xs : List A) → length xs ≤ position_or_len q (map f xs) → find (λ x. q (f x)) xs ≡ None
not_found q f [] past = refl
not_found q f (x ∷ xs) past = not_here (q (f x)) x (length xs) (position_or_len q (map f xs)) (find (λ x. q (f x)) xs) past (λ past. not_found q f xs past)

same_place : (b : Bool) (n k : ℕ) → cond b (Some n) None ≡ Some k → n ≡ k
same_place true n k e = cc
same_place false n k e = absurd cc

no_place : (b : Bool) (n len : ℕ) → nat_lt n len ≡ b → cond b (Some n) None ≡ None → len ≤ n
no_place true n len t e = absurd cc
no_place false n len t e = grind (arith, nat_tests)

pub smallest_at : {A : Type 0} (f : A → ℕ) (xs : List A) (k : ℕ) (x : A) → least (map f xs) ≡ Some k → k < length xs → x ≡ get_or xs k x → smallest f xs ≡ Some x
unfolding least
smallest_at f xs k x e below is =
    found_at (is_least (map f xs)) f xs k x (same_place (nat_lt (position_or_len (is_least (map f xs)) (map f xs)) (length (map f xs))) _ k e) below ∙ ap Some (sym is)

pub none_smallest : {A : Type 0} (f : A → ℕ) (xs : List A) → least (map f xs) ≡ None → smallest f xs ≡ None
unfolding least
none_smallest f xs e =
    let past = no_place (nat_lt (position_or_len (is_least (map f xs)) (map f xs)) (length (map f xs))) (position_or_len (is_least (map f xs)) (map f xs)) (length (map f xs)) refl e in
    not_found (is_least (map f xs)) f xs (omega (arith, past, length-map xs f))

-- ---- the table

pub lines_done : {A : Type 0} (f : A → List ℕ) (xs : List A) (k : ℕ) (o all : List ℕ) → length xs ≤ k → o ++ flat_map f (drop k xs) ≡ all → o ≡ all
lines_done f xs k o all past e = sym (append-nil o) ∙ ap (λ (l : List _). o ++ flat_map f l) (sym (drop_all k xs past)) ∙ e

module _ {A : Type 0} (label : A → List ℕ) (size : A → ℕ) (xs : List A) (sizes o1 o2 : List ℕ) (lines : o1 ≡ flat_map (line label size) xs) (word : o2 ≡ o1 ++ codes "best ") where
  with_best : (o3 l : List ℕ) (b : Option A) → o3 ≡ o2 ++ l → codes "best " ++ l ≡ best_line label size b → smallest size xs ≡ b → o3 ≡ table label size xs
  with_best o3 l b pushed is small =
      pushed ∙ ap (λ (o : List ℕ). o ++ l) (word ∙ ap (λ (o : List ℕ). o ++ codes "best ") lines) ∙ append_assoc (flat_map (line label size) xs) (codes "best ") l
      ∙ ap (λ (l : List ℕ). flat_map (line label size) xs ++ l) (is ∙ ap (best_line label size) (sym small))

  pub table_some : (k n : ℕ) (x : A) (o3 : List ℕ) → sizes ≡ map (λ x. told (size x)) xs → k < length xs → n ≡ get_or sizes k 0 → x ≡ get_or xs k x → o3 ≡ o2 ++ (label x ++ ending n)
      → least (map size xs) ≡ Some k → o3 ≡ table label size xs
  table_some k n x o3 e below here is pushed best =
      with_best o3 (label x ++ ending n) (Some x) pushed (ap (λ (l : List ℕ). codes "best " ++ l) (told_line label size xs sizes k n x e below here is)) (smallest_at size xs k x best below is)

  pub table_none : (o3 : List ℕ) → o3 ≡ o2 ++ codes "none\n" → least (map size xs) ≡ None → o3 ≡ table label size xs
  table_none o3 pushed best = with_best o3 (codes "none\n") None pushed refl (none_smallest size xs best)

  pub best_behind : (k n : ℕ) (x : A) (o3 : List ℕ) → sizes ≡ map (λ x. told (size x)) xs → k < length xs → n ≡ get_or sizes k 0 → x ≡ get_or xs k x → o3 ≡ o2 ++ (label x ++ ending n)
      → o3 ≡ flat_map (line label size) xs ++ (codes "best " ++ line label size x)
  best_behind k n x o3 e below here is pushed =
      pushed ∙ ap (λ (o : List ℕ). o ++ (label x ++ ending n)) (word ∙ ap (λ (o : List ℕ). o ++ codes "best ") lines)
      ∙ append_assoc (flat_map (line label size) xs) (codes "best ") (label x ++ ending n)
      ∙ ap (λ (l : List ℕ). flat_map (line label size) xs ++ (codes "best " ++ l)) (told_line label size xs sizes k n x e below here is)
