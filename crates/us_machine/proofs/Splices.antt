-- A list that is written over from its front.
use Rattle.std.proofs.Common.{◌≡◌, ℕ, zero, suc, ◌+◌, ◌<◌, ◌≤◌, List, [], ◌∷◌, ◌++◌, take, take_all, drop, length, get_or, ℤ, pos, refl, sym, ap, ◌∙◌, arith, replicate}
use Rattle.std.specs.Prelude.{slice_set}
use Rattle.std.proofs.lemmas.List.{length-map, length-replicate, drop-map, get_or-set_same}
use Rattle.us_raw.specs.declared.region.Segment.{Segment}
use Rattle.us_raw.specs.Plan.{zero_lists, no_segment}
use Rattle.us_machine.specs.Growing.{grown}

-- the first x elements of one list, then those of another
abbrev pub splice : {A : Type 0} → ℕ → List A → List A → List A
splice x new old = take x new ++ drop x old

pub splice_set : {A : Type 0} (new old : List A) (x : ℕ) (v d : A) → x < length new → x < length old → v ≡ get_or new x d → slice_set (splice x new old) x v ≡ splice (x + 1) new old
splice_set [] old x v d h k e = absurd (omega (arith, h))
splice_set (a ∷ new) [] x v d h k e = absurd (omega (arith, k))
splice_set (a ∷ new) (b ∷ old) zero v d h k e = ap (λ z. z ∷ old) e
splice_set (a ∷ new) (b ∷ old) (suc x) v d h k e =
    let i = splice_set new old x v d (omega (arith, h)) (omega (arith, k)) e in
    let f : suc x + 1 ≡ suc (x + 1) = omega arith in
    ap (λ zs. a ∷ zs) i ∙ sym (ap (λ (n : ℕ). splice n (a ∷ new) (b ∷ old)) f)

-- one list of lists, twice
pub set_set : {A : Type 0} (xs : List A) (i : ℕ) (v w : A) → slice_set (slice_set xs i v) i w ≡ slice_set xs i w
set_set [] i v w = refl
set_set (x ∷ xs) zero v w = refl
set_set (x ∷ xs) (suc i) v w = ap (λ zs. x ∷ zs) (set_set xs i v w)

pub set_self : {A : Type 0} (xs : List A) (i : ℕ) (d : A) → slice_set xs i (get_or xs i d) ≡ xs
set_self [] i d = refl
set_self (x ∷ xs) zero d = refl
set_self (x ∷ xs) (suc i) d = ap (λ zs. x ∷ zs) (set_self xs i d)

-- a cell more of a list among lists
pub written : (before now new : List (List ℤ)) (seg x : ℕ) (src : List ℤ) (v : ℤ) → seg < length before → x < length src → length (get_or before seg []) ≡ length src → v ≡ get_or src x (pos 0) → now ≡ slice_set before seg (splice x src (get_or before seg [])) → new ≡ slice_set now seg (slice_set (get_or now seg []) x v)
    → new ≡ slice_set before seg (splice (x + 1) src (get_or before seg []))
written before now new seg x src v there lt long e is set =
    let old = get_or before seg [] in
    let here : get_or now seg [] ≡ splice x src old = ap (λ (xs : List (List ℤ)). get_or xs seg []) is ∙ get_or-set_same before seg (splice x src old) [] there in
    set
    ∙ (ap (λ (zs : List ℤ). slice_set now seg (slice_set zs x v)) here
    ∙ (ap (slice_set now seg) (splice_set src old x v (pos 0) lt (omega (arith, lt, long)) e)
    ∙ (ap (λ (xs : List (List ℤ)). slice_set xs seg (splice (x + 1) src old)) is
    ∙ set_set before seg (splice x src old) (splice (x + 1) src old))))

pub grown_is : (plan : List Segment) (lists : List (List ℤ)) (n : ℕ) → n ≡ length lists → splice n lists (zero_lists plan) ≡ grown plan lists
grown_is plan lists n e =
    ap (λ (k : ℕ). splice k lists (zero_lists plan)) e
    ∙ (ap (λ (zs : List (List ℤ)). zs ++ drop (length lists) (zero_lists plan)) (take_all (length lists) lists (omega arith))
    ∙ ap (λ (zs : List (List ℤ)). lists ++ zs) (drop-map (λ (s : Segment). replicate s.len (pos 0)) (length lists) plan))

pub one_grown : (plan : List Segment) (lists now new : List (List ℤ)) (seg : ℕ) → seg < length lists → length lists ≤ length plan → now ≡ splice seg lists (zero_lists plan) → new ≡ slice_set now seg (get_or lists seg []) → new ≡ splice (seg + 1) lists (zero_lists plan)
one_grown plan lists now new seg lt le is set =
    let long : length (zero_lists plan) ≡ length plan = length-map plan (λ (s : Segment). replicate s.len (pos 0)) in
    set ∙ (ap (λ (xs : List (List ℤ)). slice_set xs seg (get_or lists seg [])) is ∙ splice_set lists (zero_lists plan) seg (get_or lists seg []) [] lt (omega (arith, lt, le, long)) refl)

-- what stands behind the front is as it was
pub splice_rest : {A : Type 0} (n : ℕ) (new old : List A) (d : A) → n ≤ length new → n < length old → get_or (splice n new old) n d ≡ get_or old n d
splice_rest zero new old d h k = refl
splice_rest (suc n) [] old d h k = absurd (omega (arith, h))
splice_rest (suc n) (a ∷ new) [] d h k = absurd (omega (arith, k))
splice_rest (suc n) (a ∷ new) (b ∷ old) d h k = splice_rest n new old d (omega (arith, h)) (omega (arith, k))

pub zeros_of : (plan : List Segment) (i : ℕ) → length (get_or (zero_lists plan) i []) ≡ (get_or plan i no_segment).len
zeros_of [] i = refl
zeros_of (s ∷ plan) zero = length-replicate s.len (pos 0)
zeros_of (s ∷ plan) (suc i) = zeros_of plan i

pub splice_long : {A : Type 0} (n : ℕ) (new old : List A) → n ≤ length new → length new ≡ length old → length (splice n new old) ≡ length old
splice_long zero new old h e = refl
splice_long (suc n) [] old h e = absurd (omega (arith, h))
splice_long (suc n) (a ∷ new) [] h e = absurd (omega (arith, e))
splice_long (suc n) (a ∷ new) (b ∷ old) h e = ap suc (splice_long n new old (omega (arith, h)) (omega (arith, e)))
