-- What stays of a list where a run of it is overwritten.
use Rattle.std.proofs.Common.{◌≡◌, ℕ, ◌+◌, ◌<◌, ◌≤◌, ◌⊎◌, inl, inr, List, ◌++◌, length, take, drop, refl, sym, ap, ◌∙◌, arith}
use lib.ListN.{length-take, length-drop}
use lib.Seq.{ext_get_or}
use lib.Seq.{drop_at, take_at as take_front}
use Rattle.core.proofs.slots.Runs.{in_run, outside, spliced_long}
use Rattle.us_raw.specs.Lends.{overwritten}

module _ (bs ws : List ℕ) (at : ℕ) (fits : at + length ws ≤ length bs) where
  abbrev pub over : List ℕ
  over = take at bs ++ (ws ++ drop (at + length ws) bs)

  pub over-length : length over ≡ length bs
  over-length = spliced_long bs at (length ws) fits ws refl

  pub kept : (p k : ℕ) → (p + k ≤ at) ⊎ (at + length ws ≤ p) → take k (drop p over) ≡ take k (drop p bs)
  kept p k apart =
      let long = over-length in
      ext_get_or 0 (take k (drop p over)) (take k (drop p bs)) (omega (arith, long, length-take k (drop p over), length-drop p over, length-take k (drop p bs), length-drop p bs)) (λ i lt.
      let below : i < k = omega (arith, lt, length-take k (drop p over)) in
      let out : (p + i < at) ⊎ (at + length ws ≤ p + i) = elim apart [ inl before ↦ inl (omega (arith, before, below)) | inr behind ↦ inr (omega (arith, behind)) ] in
      in_run over p k i 0 below ∙ outside bs at (length ws) fits ws refl (p + i) 0 out ∙ sym (in_run bs p k i 0 below))

  pub written_there : take (length ws) (drop at over) ≡ ws
  written_there = ap (take (length ws)) (drop_at (take at bs) (ws ++ drop (at + length ws) bs) at (omega (arith, length-take at bs))) ∙ take_front ws (drop (at + length ws) bs) (length ws) refl

pub overwritten_is : (bs ws : List ℕ) (at n : ℕ) → length ws ≡ n → overwritten bs at n ws ≡ take at bs ++ (ws ++ drop (at + length ws) bs)
overwritten_is bs ws at n long =
    ap (λ (l : List ℕ). take at bs ++ (l ++ drop (at + n) bs)) (take_front ws (drop (length ws) (take n (drop at bs))) n long) ∙ ap (λ (k : ℕ). take at bs ++ (ws ++ drop (at + k) bs)) (sym long)
