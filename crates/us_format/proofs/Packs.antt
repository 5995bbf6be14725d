-- What is read back from a pack is the columns that went in.
use Rattle.std.proofs.Common.{◌≡◌, ℕ, zero, suc, ◌+◌, ◌*◌, ◌/◌, ◌<◌, List, [], ◌∷◌, map, length, get_or, ℤ, sym, refl, ap, ap₂, ◌∙◌, inl, inr, arith, sum_by, mul-le-mul_right, mul_comm}
use Rattle.std.specs.List.{range_with_len}
use Rattle.std.proofs.lemmas.List.Sums.{sum_by-cons}
use lib.Arith.{digits_div, digits_mod}
use Rattle.us_format.proofs.Order.{Mem}
use Rattle.us_format.proofs.Climb.{cell-written, length-written}
use Rattle.us_format.proofs.Collect.{Mem-range}
use Rattle.us_format.specs.Lists.{cell}
use Rattle.us_format.specs.Packs.{Buffer, interleaved, nothing, written}

-- column y of n interleaved columns
abbrev pub column_from : ℕ → ℕ → List ℤ → List ℤ
column_from n y cells = map (λ x. cell cells (x * n + y)) (range_with_len 0 (length cells / n))

-- all columns are m long
abbrev pub AllLong : ℕ → List Buffer → Type 0
AllLong m [] = Unit {0}
AllLong m (c ∷ cs) = (c.len ≡ m) × AllLong m cs

pub long-sum : (m : ℕ) (cs : List Buffer) → AllLong m cs → sum_by (λ c. c.len) cs ≡ length cs * m
long-sum m [] h = omega arith
long-sum m (c ∷ cs) h = sum_by-cons (λ (c : Buffer). c.len) c cs ∙ omega (arith, h.0, long-sum m cs h.1)

pub long-at : (m : ℕ) (cs : List Buffer) (y : ℕ) → AllLong m cs → y < length cs → (get_or cs y nothing).len ≡ m
long-at m [] y h l = absurd (omega arith)
long-at m (c ∷ cs) zero h l = h.0
long-at m (c ∷ cs) (suc y) h l = long-at m cs y h.1 (omega arith)

pub pack-cell : (m : ℕ) (cs : List Buffer) (x y : ℕ) → AllLong m cs → y < length cs → x < m → cell (written (interleaved cs)) (x * length cs + y) ≡ (get_or cs y nothing).cell x
pack-cell m cs x y h ly lx =
    cell-written (interleaved cs) (x * length cs + y) (rw (long-sum m cs h) (omega (arith, mul-le-mul_right (length cs) lx, mul_comm m (length cs))))
    ∙ rw (digits_mod x ly, digits_div x ly) refl

pub same-map : {A B : Type 0} (f g : A → B) (xs : List A) → ((x : A) → Mem x xs → f x ≡ g x) → map f xs ≡ map g xs
same-map f g [] h = refl
same-map f g (x ∷ xs) h = ap₂ (λ y ys. y ∷ ys) (h x (inl refl)) (same-map f g xs (λ y m. h y (inr m)))

pub whole : (m n : ℕ) → 0 < n → (m * n + 0) / n ≡ m
whole m n h = digits_div m h

pub unpacked-is : (m : ℕ) (cs : List Buffer) (y : ℕ) → AllLong m cs → y < length cs → column_from (length cs) y (written (interleaved cs)) ≡ written (get_or cs y nothing)
unpacked-is m cs y h ly =
    let k : length (written (interleaved cs)) / length cs ≡ m =
    ap (λ n. n / length cs) (length-written (interleaved cs) ∙ long-sum m cs h ∙ mul_comm (length cs) m ∙ omega arith) ∙ whole m (length cs) (omega (arith, ly)) in
    ap (λ n. map (λ x. cell (written (interleaved cs)) (x * length cs + y)) (range_with_len 0 n)) k
    ∙ same-map (λ x. cell (written (interleaved cs)) (x * length cs + y)) (get_or cs y nothing).cell (range_with_len 0 m) (λ x mx. pack-cell m cs x y h ly (omega (arith, (Mem-range 0 m x mx).1)))
    ∙ ap (λ n. map (get_or cs y nothing).cell (range_with_len 0 n)) (sym (long-at m cs y h ly))
