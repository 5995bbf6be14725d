-- A block is a valid declaration that breaks no rule.
use Rattle.std.proofs.Common.{◌≡◌, ℕ, ◌-◌, ◌≤◌, [], ◌∷◌, refl, true}
use Rattle.std.specs.Prelude.{Some, None}
use Rattle.us_decl.specs.Declares.{IsValid, declared}
use Rattle.us_decl.specs.Grammar.{Only, And, Empty, One, Just, Row, Col, Over, Rest, Whole, Decl}
use Rattle.us_decl.specs.Limits.{fits_decl}
use Rattle.us_judge.specs.Acceptance.{first_refusal}
use Rattle.us_judge.specs.Views.{declaration_of}
use Rattle.us_advise.specs.Blocks.{IsBlockSide, block}
use Rattle.us_advise.proofs.Sides.{each_side}

-- the text of a block
abbrev text_of : ℕ → ℕ → Decl
text_of rows cols = record {
  name = 98 ∷ 101 ∷ 115 ∷ 116 ∷ [];
  body =
      Whole (record { queries = Empty; levels = Some (And (And (And (Only (One (Over (Just Row) (rows - 1)))) (One (Over (Just Col) (cols - 1)))) (One (Rest (Just Row) (rows - 1)))) (One (Rest (Just Col) (cols - 1)))); trim = Some (Only 1); merge = Some (Only 1); packs = Empty });
}

by-text : (rows cols : ℕ) → declared (text_of rows cols) ≡ block rows cols → fits_decl (text_of rows cols) ≡ true → IsValid (block rows cols)
by-text rows cols is within = record { text = text_of rows cols; is = is; within = within }

-- each block of so many rows, by its columns
valid-1 : (cols : ℕ) → 1 ≤ cols → cols ≤ 8 → IsValid (block 1 cols)
valid-1 = each_side (λ cols. IsValid (block 1 cols)) (by-text 1 1 refl refl) (by-text 1 2 refl refl) (by-text 1 3 refl refl) (by-text 1 4 refl refl) (by-text 1 5 refl refl) (by-text 1 6 refl refl) (by-text 1 7 refl refl) (by-text 1 8 refl refl)

valid-2 : (cols : ℕ) → 1 ≤ cols → cols ≤ 8 → IsValid (block 2 cols)
valid-2 = each_side (λ cols. IsValid (block 2 cols)) (by-text 2 1 refl refl) (by-text 2 2 refl refl) (by-text 2 3 refl refl) (by-text 2 4 refl refl) (by-text 2 5 refl refl) (by-text 2 6 refl refl) (by-text 2 7 refl refl) (by-text 2 8 refl refl)

valid-3 : (cols : ℕ) → 1 ≤ cols → cols ≤ 8 → IsValid (block 3 cols)
valid-3 = each_side (λ cols. IsValid (block 3 cols)) (by-text 3 1 refl refl) (by-text 3 2 refl refl) (by-text 3 3 refl refl) (by-text 3 4 refl refl) (by-text 3 5 refl refl) (by-text 3 6 refl refl) (by-text 3 7 refl refl) (by-text 3 8 refl refl)

valid-4 : (cols : ℕ) → 1 ≤ cols → cols ≤ 8 → IsValid (block 4 cols)
valid-4 = each_side (λ cols. IsValid (block 4 cols)) (by-text 4 1 refl refl) (by-text 4 2 refl refl) (by-text 4 3 refl refl) (by-text 4 4 refl refl) (by-text 4 5 refl refl) (by-text 4 6 refl refl) (by-text 4 7 refl refl) (by-text 4 8 refl refl)

valid-5 : (cols : ℕ) → 1 ≤ cols → cols ≤ 8 → IsValid (block 5 cols)
valid-5 = each_side (λ cols. IsValid (block 5 cols)) (by-text 5 1 refl refl) (by-text 5 2 refl refl) (by-text 5 3 refl refl) (by-text 5 4 refl refl) (by-text 5 5 refl refl) (by-text 5 6 refl refl) (by-text 5 7 refl refl) (by-text 5 8 refl refl)

valid-6 : (cols : ℕ) → 1 ≤ cols → cols ≤ 8 → IsValid (block 6 cols)
valid-6 = each_side (λ cols. IsValid (block 6 cols)) (by-text 6 1 refl refl) (by-text 6 2 refl refl) (by-text 6 3 refl refl) (by-text 6 4 refl refl) (by-text 6 5 refl refl) (by-text 6 6 refl refl) (by-text 6 7 refl refl) (by-text 6 8 refl refl)

valid-7 : (cols : ℕ) → 1 ≤ cols → cols ≤ 8 → IsValid (block 7 cols)
valid-7 = each_side (λ cols. IsValid (block 7 cols)) (by-text 7 1 refl refl) (by-text 7 2 refl refl) (by-text 7 3 refl refl) (by-text 7 4 refl refl) (by-text 7 5 refl refl) (by-text 7 6 refl refl) (by-text 7 7 refl refl) (by-text 7 8 refl refl)

valid-8 : (cols : ℕ) → 1 ≤ cols → cols ≤ 8 → IsValid (block 8 cols)
valid-8 = each_side (λ cols. IsValid (block 8 cols)) (by-text 8 1 refl refl) (by-text 8 2 refl refl) (by-text 8 3 refl refl) (by-text 8 4 refl refl) (by-text 8 5 refl refl) (by-text 8 6 refl refl) (by-text 8 7 refl refl) (by-text 8 8 refl refl)

accepted-1 : (cols : ℕ) → 1 ≤ cols → cols ≤ 8 → first_refusal (declaration_of (block 1 cols)) ≡ None
accepted-1 = each_side (λ cols. first_refusal (declaration_of (block 1 cols)) ≡ None) refl refl refl refl refl refl refl refl

accepted-2 : (cols : ℕ) → 1 ≤ cols → cols ≤ 8 → first_refusal (declaration_of (block 2 cols)) ≡ None
accepted-2 = each_side (λ cols. first_refusal (declaration_of (block 2 cols)) ≡ None) refl refl refl refl refl refl refl refl

accepted-3 : (cols : ℕ) → 1 ≤ cols → cols ≤ 8 → first_refusal (declaration_of (block 3 cols)) ≡ None
accepted-3 = each_side (λ cols. first_refusal (declaration_of (block 3 cols)) ≡ None) refl refl refl refl refl refl refl refl

accepted-4 : (cols : ℕ) → 1 ≤ cols → cols ≤ 8 → first_refusal (declaration_of (block 4 cols)) ≡ None
accepted-4 = each_side (λ cols. first_refusal (declaration_of (block 4 cols)) ≡ None) refl refl refl refl refl refl refl refl

accepted-5 : (cols : ℕ) → 1 ≤ cols → cols ≤ 8 → first_refusal (declaration_of (block 5 cols)) ≡ None
accepted-5 = each_side (λ cols. first_refusal (declaration_of (block 5 cols)) ≡ None) refl refl refl refl refl refl refl refl

accepted-6 : (cols : ℕ) → 1 ≤ cols → cols ≤ 8 → first_refusal (declaration_of (block 6 cols)) ≡ None
accepted-6 = each_side (λ cols. first_refusal (declaration_of (block 6 cols)) ≡ None) refl refl refl refl refl refl refl refl

accepted-7 : (cols : ℕ) → 1 ≤ cols → cols ≤ 8 → first_refusal (declaration_of (block 7 cols)) ≡ None
accepted-7 = each_side (λ cols. first_refusal (declaration_of (block 7 cols)) ≡ None) refl refl refl refl refl refl refl refl

accepted-8 : (cols : ℕ) → 1 ≤ cols → cols ≤ 8 → first_refusal (declaration_of (block 8 cols)) ≡ None
accepted-8 = each_side (λ cols. first_refusal (declaration_of (block 8 cols)) ≡ None) refl refl refl refl refl refl refl refl

pub block-valid : (rows cols : ℕ) → IsBlockSide rows → IsBlockSide cols → IsValid (block rows cols)
block-valid rows cols r c =
    each_side (λ rows. (cols : ℕ) → 1 ≤ cols → cols ≤ 8 → IsValid (block rows cols)) valid-1 valid-2 valid-3 valid-4 valid-5 valid-6 valid-7 valid-8 rows r.0 r.1 cols c.0 c.1

pub block-accepted : (rows cols : ℕ) → IsBlockSide rows → IsBlockSide cols → first_refusal (declaration_of (block rows cols)) ≡ None
block-accepted rows cols r c =
    each_side (λ rows. (cols : ℕ) → 1 ≤ cols → cols ≤ 8 → first_refusal (declaration_of (block rows cols)) ≡ None) accepted-1 accepted-2 accepted-3 accepted-4 accepted-5 accepted-6 accepted-7 accepted-8 rows r.0 r.1 cols c.0 c.1
