-- Steps of reading, one after the other.
use Rattle.std.proofs.Common.{◌≡◌, ℕ, suc, ◌+◌, ◌-◌, ◌<◌, List, [], ◌∷◌, ◌++◌, sym, ap, subst, ◌∙◌, arith}
use Rattle.std.specs.Prelude.{ℤ, Result, Ok}
use Rattle.us_container.specs.declared.fault.ContainerFault.{ContainerFault}
use Rattle.us_container.specs.declared.fault.ContainerFault.TheVariants.{Memory}
use Rattle.us_container.specs.Contained.{◌>>=◌, buffer, buffers}
use Rattle.us_container.specs.Answers.{Fails}

-- a fault of the first step is one of the whole
pub fails_via : {A B : Type 0} (x : Result A ContainerFault) (go : A → Result B ContainerFault) (f : ContainerFault) → Fails x f → Fails (x >>= go) f
fails_via x go Memory h = tt
fails_via x go f h = ap (λ r. r >>= go) h

pub fails_by : {A : Type 0} (x y : Result A ContainerFault) (f : ContainerFault) → x ≡ y → Fails y f → Fails x f
fails_by x y f e h = subst (λ r. Fails r f) (sym e) h

-- the same buffers, some of them read already
abbrev pub GoesOn : ℕ → ℕ → List ℕ → ℕ → List (List ℤ) → List ℕ → Type 0
GoesOn len count rest k found left = buffers len count [] rest ≡ buffers len (count - k) found left

pub buffers_start : (len count : ℕ) (rest : List ℕ) (found : List (List ℤ)) → found ≡ [] → GoesOn len count rest 0 found rest
buffers_start len count rest found h =
    let none : count ≡ count - 0 = omega arith in
    ap (λ n. buffers len n [] rest) none ∙ ap (λ (xs : List (List ℤ)). buffers len (count - 0) xs rest) (sym h)

pub buffers_fail : (len count : ℕ) (rest : List ℕ) (k : ℕ) (found : List (List ℤ)) (left : List ℕ) (f : ContainerFault) → GoesOn len count rest k found left → k < count
    → Fails (buffer len left) f → Fails (buffers len count [] rest) f
buffers_fail len count rest k found left f e h b =
    let m : count - k ≡ suc (count - k - 1) = omega arith in
    fails_by (buffers len count [] rest) _ f (e ∙ ap (λ n. buffers len n found left) m) (fails_via (buffer len left) (λ b. buffers len (count - k - 1) (found ++ b.0 ∷ []) b.1) f b)

pub buffers_more : (len count : ℕ) (rest : List ℕ) (k : ℕ) (found : List (List ℤ)) (left : List ℕ) (xs : List ℤ) (ys : List ℕ) → GoesOn len count rest k found left → k < count
    → buffer len left ≡ Ok (xs, ys) → GoesOn len count rest (k + 1) (found ++ xs ∷ []) ys
buffers_more len count rest k found left xs ys e h b =
    let m : count - k ≡ suc (count - k - 1) = omega arith in
    let n : count - k - 1 ≡ count - (k + 1) = omega arith in
    e ∙ ap (λ n. buffers len n found left) m ∙ ap (λ r. r >>= λ b. buffers len (count - k - 1) (found ++ b.0 ∷ []) b.1) b ∙ ap (λ n. buffers len n (found ++ xs ∷ []) ys) n

pub buffers_done : (len count : ℕ) (rest : List ℕ) (k : ℕ) (found : List (List ℤ)) (left : List ℕ) → GoesOn len count rest k found left → count ≡ k → buffers len count [] rest ≡ Ok (found, left)
buffers_done len count rest k found left e h =
    let m : count - k ≡ 0 = omega arith in
    e ∙ ap (λ n. buffers len n found left) m
