-- Columns of the program and plain columns.
use Rattle.std.proofs.Common.{◌≡◌, List, [], ◌∷◌, map, Bool, ◌||◌, ◌&&◌, not, refl, ap, ap₂}
use Rattle.std.specs.List.{list_any, list_all}
use Rattle.us_format.specs.Declaration.{Column, same_column}
use Rattle.us_decl.specs.declared.column.Column as columns
use Rattle.us_judge.specs.Views.{column_of}

in_pack : (c : Column) (pack : List columns.Column) → list_any (λ b. same_column c (column_of b)) pack ≡ list_any (same_column c) (map column_of pack)
in_pack c [] = refl
in_pack c (b ∷ bs) = ap (λ x. same_column c (column_of b) || x) (in_pack c bs)

pub in_packs : (c : Column) (packs : List (List columns.Column)) → list_any (λ pack. list_any (λ b. same_column c (column_of b)) pack) packs ≡ list_any (list_any (same_column c)) (map (map column_of) packs)
in_packs c [] = refl
in_packs c (p ∷ ps) = ap₂ (λ (a b : Bool). a || b) (in_pack c p) (in_packs c ps)

pub apart-is : (packs : List (List columns.Column)) (pack : List columns.Column)
    → list_all (λ c. not (list_any (λ pack. list_any (λ b. same_column (column_of c) (column_of b)) pack) packs)) pack ≡ list_all (λ c. not (list_any (list_any (same_column c)) (map (map column_of) packs))) (map column_of pack)
apart-is packs [] = refl
apart-is packs (c ∷ cs) = ap₂ (λ (a b : Bool). not a && b) (in_packs (column_of c) packs) (apart-is packs cs)
