-- What `check` prints: a line for each declaration.
use Rattle.std.specs.Prelude.{ℕ, ℤ, suc, List, [], ◌∷◌, ◌++◌, flat_map, Option, Some, None, codes}
use Rattle.std.specs.Fmt.{decimal, signed_decimal}
use Rattle.us_expr.specs.Tree.{Tree}
use Rattle.us_format.specs.declared.Kind.{Kind}
use Rattle.us_format.specs.declared.Kind.TheVariants.{Full, Compressed, Listed, Slot}
use Rattle.us_format.specs.Matrix.{Shape}
use Rattle.us_format.specs.Declaration.{Part, Declaration}
use Rattle.us_format.specs.Kinds.{kind}
use Rattle.us_decl.specs.Declares.{Declared}
use Rattle.us_judge.specs.declared.level_ranges.LevelBounds.{LevelBounds}
use Rattle.us_judge.specs.declared.refusal.Refusal.{Refusal}
use Rattle.us_judge.specs.Acceptance.{first_refusal}
use Rattle.us_judge.specs.Format.{bounds_of}
use Rattle.us_judge.specs.Views.{declaration_of}

abbrev pub kind_word : Kind → List ℕ
kind_word Full = codes "full"
kind_word Compressed = codes "compressed"
kind_word Listed = codes "listed"
kind_word Slot = codes "slot"

-- the upper end of a range: a question mark where the data decide and not the shape
abbrev pub end_text : Option ℤ → List ℕ
end_text None = codes "?"
end_text (Some hi) = signed_decimal hi

abbrev pub bounds_text : LevelBounds → List ℕ
bounds_text b = codes "[" ++ (signed_decimal b.lo ++ (codes "," ++ (end_text b.hi ++ codes "]")))

-- a blank, the kind of a level, and its range
abbrev pub level_text : Kind → LevelBounds → List ℕ
level_text k b = codes " " ++ (kind_word k ++ bounds_text b)

-- the levels whose expressions are es, numbered from k on
abbrev pub levels_text : Shape → Part → ℕ → List Tree → List ℕ
levels_text s p k [] = []
levels_text s p k (e ∷ es) = level_text (kind p k) (bounds_of s p e) ++ levels_text s p (suc k) es

abbrev pub part_text : Shape → Part → List ℕ
part_text s p = levels_text s p 0 p.levels

-- a bar stands before each part but the first
abbrev pub barred_text : Shape → Part → List ℕ
barred_text s p = codes " |" ++ part_text s p

abbrev pub parts_text : Shape → List Part → List ℕ
parts_text s [] = []
parts_text s (p ∷ ps) = part_text s p ++ flat_map (barred_text s) ps

abbrev pub refusal_text : Refusal → List ℕ
refusal_text r = codes " refused J" ++ (decimal r.rule ++ (codes " part " ++ (decimal r.part ++ (codes " place " ++ decimal r.place))))

abbrev pub verdict_text : Shape → Declaration → Option Refusal → List ℕ
verdict_text s d None = codes " accepted" ++ parts_text s d.parts
verdict_text s d (Some r) = refusal_text r

-- the line of one declaration
abbrev pub declaration_line : Shape → Declared → List ℕ
declaration_line s d = d.name ++ (verdict_text s (declaration_of d) (first_refusal (declaration_of d)) ++ (10 ∷ []))

abbrev pub report : Shape → List Declared → List ℕ
report s ds = flat_map (declaration_line s) ds
