-- Lists of what the entries write.
use Rattle.std.proofs.Common.{◌≡◌, ℕ, suc, ◌<◌, List, [], ◌∷◌, map, length, true, refl, ap, ◌∙◌, ℤ, pos}
use Rattle.std.specs.Prelude.{slice_index_or}
use Rattle.std.specs.List.{range_with_len}
use Rattle.us_format.specs.Lists.{head, tail}
use Rattle.us_format.proofs.Climb.{cell-written, length-written}
use Rattle.us_format.proofs.Packs.{same-map}
use Rattle.us_running.specs.Running.{written}
use Rattle.us_running.proofs.Running.{written_cong}
use Rattle.us_gen_build_laws.specs.Built.{AreWritten}

-- m cells, in which each of the first n entries writes its number at its place
abbrev pub entries_in : ℕ → (ℕ → ℕ) → (ℕ → ℤ) → ℕ → List ℤ
entries_in n place what m = map (written (λ x. true) place what n) (range_with_len 0 m)

pub entries-cell : (n : ℕ) (place : ℕ → ℕ) (what : ℕ → ℤ) (m y : ℕ) → y < m → slice_index_or (entries_in n place what m) y (pos 0) ≡ written (λ x. true) place what n y
entries-cell n place what m y h = cell-written record { len = m; cell = written (λ x. true) place what n } y h

pub entries-long : (n : ℕ) (place : ℕ → ℕ) (what : ℕ → ℤ) (m : ℕ) → length (entries_in n place what m) ≡ m
entries-long n place what m = length-written record { len = m; cell = written (λ x. true) place what n }

pub entries-written : (n : ℕ) (place : ℕ → ℕ) (what : ℕ → ℤ) (m : ℕ) → AreWritten n place what m (entries_in n place what m)
entries-written n place what m = record {
  writes = λ y. true;
  to = place;
  what = what;
  places = λ x h. refl;
  values = λ x h. refl;
  first = λ h. refl;
  skips = λ x h e. absurd cc;
  table = record { long = entries-long n place what m; each = entries-cell n place what m };
}

pub entries-same : (n : ℕ) (place to : ℕ → ℕ) (what other : ℕ → ℤ) (m k : ℕ) → ((x : ℕ) → x < n → place x ≡ to x) → ((x : ℕ) → x < n → what x ≡ other x) → m ≡ k → entries_in n place what m ≡ entries_in n to other k
entries-same n place to what other m k p q e =
    same-map (written (λ x. true) place what n) (written (λ x. true) to other n) (range_with_len 0 m) (λ y h. written_cong (λ x. true) (λ x. true) place to what other n y (λ x g. refl) p q)
    ∙ ap (λ (z : ℕ). entries_in n to other z) e

-- ---- coordinates

pub head-at : (cs : List ℕ) → head cs ≡ slice_index_or cs 0 0
head-at [] = refl
head-at (c ∷ cs) = refl

pub tail-at : (cs : List ℕ) (k : ℕ) → slice_index_or (tail cs) k 0 ≡ slice_index_or cs (suc k) 0
tail-at [] k = refl
tail-at (c ∷ cs) k = refl
