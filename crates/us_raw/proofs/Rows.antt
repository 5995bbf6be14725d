-- Bytes side by side are cut and joined, and made room again. Assumes `Logic`.
use Rattle.std.proofs.Common.{◌≡◌, ℕ, ◌+◌, ◌≤◌, List, [], ◌∷◌, ◌++◌, length, take, drop, refl, sym, ap, ◌∙◌, arith}
use lib.ListN.{take-append-drop, length-take, length-drop}
use lib.Seq.{drop-drop}
use seplogic.Ra.Ura.{Ura}
use base.Fraction.{full_share}
use mir.Syntax.{w8, ty_int}
use mir.Val.{vint}
use base.Logic.{ent, sep}
use base.Fml.{Fml, ftrue, fat, froom}
use types.Logic.{Logic, sem}
use types.Kit.{‵, ◌⊛◌, ◌$◌, ◌∵◌, !, qed, by, move, use1, use2, split, rewrite, fsplit, fjoin, done}
use types.Kit.{drop as skip}
use denote.Builtin.{u8}
use denote.Index.{row}
use denote.Plain.{uint_out}
use denote.Steps.{nothing}
use Rattle.us_raw.specs.Ownership.{bytes_type}

module _ {M : Type 1} {𝓤 : Ura M} (𝓛 : Logic 𝓤) (b : ℕ) where
  open 𝓛 use {H}

  abbrev pub Row : ℕ → List ℕ → Fml
  Row o xs = row u8 full_share xs b o

  pub row_cut : (xs ys : List ℕ) (o at : ℕ) → at ≡ length xs + o → ent 𝓤 (sem 𝓛 (Row o (xs ++ ys))) (sep 𝓤 (sem 𝓛 (Row o xs)) (sem 𝓛 (Row at ys)))
  row_cut [] ys o at e = qed 𝓛 (‵ (Row o ys) ∷ []) ∵ rewrite ! 0 (λ (k : ℕ). ‵ (Row k ys)) {x = at} (omega arith) refl $ nothing ! $ done !
  row_cut (x ∷ xs) ys o at e = qed 𝓛 (‵ (Row o (x ∷ xs ++ ys)) ∷ []) ∵ fsplit ! $ move ! (1 ∷ []) $
      use1 𝓛 (‵ (Row (o + 1) xs) ⊛ ‵ (Row at ys)) (row_cut xs ys (o + 1) at (omega arith)) $ split ! $ move ! (2 ∷ 0 ∷ []) $ fjoin ! $ done !

  pub row_join : (xs ys : List ℕ) (o at : ℕ) → at ≡ length xs + o → ent 𝓤 (sep 𝓤 (sem 𝓛 (Row o xs)) (sem 𝓛 (Row at ys))) (sem 𝓛 (Row o (xs ++ ys)))
  row_join [] ys o at e = qed 𝓛 (‵ ftrue ∷ ‵ (Row at ys) ∷ []) ∵ skip ! $ rewrite ! 0 (λ (k : ℕ). ‵ (Row k ys)) {x = o} (omega arith) refl $ done !
  row_join (x ∷ xs) ys o at e = qed 𝓛 (‵ (Row o (x ∷ xs)) ∷ ‵ (Row at ys) ∷ []) ∵ fsplit ! $ move ! (1 ∷ 2 ∷ []) $
      use2 𝓛 (‵ (Row (o + 1) (xs ++ ys))) (row_join xs ys (o + 1) at (omega arith)) $ move ! (1 ∷ 0 ∷ []) $ fjoin ! $ done !

  pub row_room : (xs : List ℕ) (o : ℕ) → ent 𝓤 (sem 𝓛 (Row o xs)) (H.room (bytes_type (length xs)) b o)
  row_room [] o = 𝓛.laws.room_nil (ty_int w8) b o
  row_room (x ∷ xs) o = qed 𝓛 (‵ (Row o (x ∷ xs)) ∷ []) ∵ fsplit ! $
      use1 𝓛 (‵ (fat full_share (ty_int w8) b o (vint w8 x))) (uint_out 𝓛 full_share w8 x b o) $
      use1 𝓛 (‵ (froom (ty_int w8) b o)) (𝓛.laws.at_room (ty_int w8) b o (vint w8 x)) $ move ! (1 ∷ []) $
      use1 𝓛 (‵ (froom (bytes_type (length xs)) b (o + 1))) (row_room xs (o + 1)) $ move ! (1 ∷ []) $
      by ! (𝓛.laws.room_cons (ty_int w8) (length xs) b o)

  module _ (xs : List ℕ) (from count : ℕ) where
    abbrev pub before : List ℕ
    before = take from xs

    abbrev pub middle : List ℕ
    middle = take count (drop from xs)

    abbrev pub behind : List ℕ
    behind = drop (from + count) xs

    pub in_three : xs ≡ before ++ (middle ++ behind)
    in_three = sym (ap (λ l. before ++ (middle ++ l)) (sym (drop-drop count from xs)) ∙ ap (λ l. before ++ l) (take-append-drop count (drop from xs)) ∙ take-append-drop from xs)

    module _ (o : ℕ) (fits : from + count ≤ length xs) where
      front : from + o ≡ length before + o
      front = omega (arith, length-take from xs)

      pub middle_long : count ≡ length middle
      middle_long = omega (arith, length-take count (drop from xs), length-drop from xs)

      pub three_out : ent 𝓤 (sem 𝓛 (Row o xs)) (sep 𝓤 (sem 𝓛 (Row o before)) (sep 𝓤 (sem 𝓛 (Row (from + o) middle)) (sem 𝓛 (Row (from + count + o) behind))))
      three_out = qed 𝓛 (‵ (Row o xs) ∷ []) ∵ rewrite ! 0 (λ (l : List ℕ). ‵ (Row o l)) in_three refl $
          use1 𝓛 (‵ (Row o before) ⊛ ‵ (Row (from + o) (middle ++ behind))) (row_cut before (middle ++ behind) o (from + o) front) $ split ! $ move ! (1 ∷ []) $
          use1 𝓛 (‵ (Row (from + o) middle) ⊛ ‵ (Row (from + count + o) behind)) (row_cut middle behind (from + o) (from + count + o) (omega (arith, middle_long))) $
          split ! $ move ! (2 ∷ 0 ∷ 1 ∷ []) $ done !

      pub three_in : (ws : List ℕ) → count ≡ length ws
          → ent 𝓤 (sep 𝓤 (sem 𝓛 (Row o before)) (sep 𝓤 (sem 𝓛 (Row (from + o) ws)) (sem 𝓛 (Row (from + count + o) behind)))) (sem 𝓛 (Row o (before ++ (ws ++ behind))))
      three_in ws long = qed 𝓛 (‵ (Row o before) ∷ ‵ (Row (from + o) ws) ∷ ‵ (Row (from + count + o) behind) ∷ []) ∵ move ! (1 ∷ 2 ∷ []) $
          use2 𝓛 (‵ (Row (from + o) (ws ++ behind))) (row_join ws behind (from + o) (from + count + o) (omega arith)) $ move ! (1 ∷ 0 ∷ []) $
          by ! (row_join before (ws ++ behind) o (from + o) front)
