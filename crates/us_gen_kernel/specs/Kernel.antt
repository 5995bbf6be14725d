-- The phases that multiply the matrix of a format's buffers by a dense operand.
use Rattle.std.specs.Prelude.{◌≡◌, ℕ, ◌+◌, ◌*◌, ◌^◌, ◌<◌, ◌≤◌, true, nat_lt, List, [], ◌∷◌, map, length, Some, None}
use Rattle.us_format.specs.Lists.{nth}
use Rattle.us_format.specs.Matrix.{Shape, Entry, IsMatrixOf}
use Rattle.us_format.specs.Declaration.{Declaration}
use Rattle.us_format.specs.Buffers.{buffers, size}
use Rattle.us_format.specs.Reading.{limit, total_count}
use Rattle.us_decl.specs.Declares.{Declared, IsValid}
use Rattle.us_judge.specs.Acceptance.{first_refusal}
use Rattle.us_judge.specs.Views.{declaration_of}
use Rattle.us_code.specs.declared.program.CellKind.TheVariants as kind
use Rattle.us_code.specs.declared.pieces.BuildPiece.{BuildPiece}
use Rattle.us_code.specs.Plain.{PhaseTree, phase_tree}
use Rattle.us_code.specs.Runs.{World, phases}
use Rattle.us_code.specs.Typing.{Context, TypedPhases, after_phases}
use Rattle.us_gen.specs.Goes.{Leads}
use Rattle.us_limits.specs.Small.{KeepText}
use Rattle.us_gen_places.specs.Dims.{dim_count}
use Rattle.us_gen_unpack.specs.declared.listing.PartWalk.{PartWalk}
use Rattle.us_gen_opening.specs.declared.parts.Opening.{Opening}
use Rattle.us_gen_opening.specs.Opening.{opening_phase}
use Rattle.us_gen_product.specs.declared.product.Product.{Product}
use Rattle.us_gen_product.specs.Dense.{IsDense}
use Rattle.us_gen_product.specs.Product.{result_length, product_phase}
use Rattle.us_gen_product.specs.Runs.{IsProductOn}
use Rattle.us_gen_listing.specs.Unpack.{AreUnpackers, IsFreeFrom, level_count, query_count}

-- registers from n on in the first phase, and from k on in the second
abbrev pub multiplying : Product → ℕ → ℕ → ℕ → List Opening → List PartWalk → List PhaseTree
multiplying p count n k os xs = opening_phase count n os ∷ product_phase p xs k ∷ []

-- the most steps
abbrev pub multiplying_steps : Shape → Declaration → List Entry → ℕ → ℕ
multiplying_steps s d m columns = 64 * ((1 + level_count d + query_count d) * (size s d m + length m * columns + 1))

-- where the sources are the buffers of a matrix whose size is within the limit, and the operand, both phases come to their end and fill the result
abbrev pub FormatIsMultiplied : Type 0
FormatIsMultiplied =
    (w : World) (s : Shape) (d : Declared) (m : List Entry) (p : Product) (count first n k low : ℕ) (os : List Opening) (xs : List PartWalk) → IsValid d
    → first_refusal (declaration_of d) ≡ None → IsMatrixOf s m → s.rows < 2 ^ 31 → s.cols < 2 ^ 31 → size s (declaration_of d) m ≤ limit
    → AreUnpackers d s first os xs
    → ((j : ℕ) → j < length (buffers s (declaration_of d) m) → w.env.sources j ≡ nth (buffers s (declaration_of d) m) j)
    → ((j : ℕ) → length (w.env.sources j) < 2 ^ 63) → IsProductOn w.env s p
    → low ≤ first → first + dim_count (declaration_of d).parts ≤ count → low ≤ p.result
    → Leads low (multiplying_steps s (declaration_of d) m p.columns) w (phases (multiplying p count n k os xs) w)
    (λ u. IsDense s m p.columns (w.env.sources p.operand) (u.bufs p.result))

-- the phases are typed, and behind them the result is visible: words, as many as its cells
pub record IsTypedTo (g : Context) (ps : List PhaseTree) (p : Product) : Type 0 where
  pub typed : TypedPhases g ps
  pub result : (after_phases g ps).bufs p.result ≡ Some record { len = result_length p; cell = kind.Word }

abbrev pub KernelIsTyped : Type 0
KernelIsTyped =
    (g : Context) (s : Shape) (d : Declared) (p : Product) (count first n k low : ℕ) (os : List Opening) (xs : List PartWalk)
    → IsValid d → first_refusal (declaration_of d) ≡ None → AreUnpackers d s first os xs → total_count (declaration_of d) ≤ g.sources
    → nat_lt p.operand g.sources ≡ true → IsFreeFrom g low → low ≤ first → low ≤ n
    → first + dim_count (declaration_of d).parts ≤ count → low ≤ p.result → IsTypedTo g (multiplying p count n k os xs) p

-- ---- the piece

-- how many numbers the phases of a piece take
abbrev pub multiplying_room : ℕ
multiplying_room = 9216

-- the operand behind the buffers of a format, and the result behind the dims of all parts
abbrev pub product_from : Shape → Declared → ℕ → ℕ → Product
product_from s d columns first = record { operand = total_count (declaration_of d); result = first + 193; rows = s.rows; inner = s.cols; columns = columns }

-- on the buffers of every matrix within the limit, and an operand behind them, the phases of a piece fill its one buffer with the product. They are typed
-- behind all code with lower numbers, and keep the limits of a text
pub record Multiplies (s : Shape) (d : Declared) (columns low : ℕ) (piece : BuildPiece) : Type 0 where
  pub result : ℕ
  pub named : piece.buffers ≡ result ∷ []
  pub from : low ≤ result
  pub to : result < low + multiplying_room
  pub multiplies :
      (w : World) (m : List Entry) → IsMatrixOf s m → size s (declaration_of d) m ≤ limit
      → ((j : ℕ) → j < length (buffers s (declaration_of d) m) → w.env.sources j ≡ nth (buffers s (declaration_of d) m) j)
      → ((j : ℕ) → length (w.env.sources j) < 2 ^ 63)
      → length (w.env.sources (total_count (declaration_of d))) ≡ s.cols * columns → s.cols * columns ≤ 33554432 → s.rows * columns ≤ 33554432
      → Leads low (multiplying_steps s (declaration_of d) m columns) w (phases (map phase_tree piece.phases) w)
      (λ u. IsDense s m columns (w.env.sources (total_count (declaration_of d))) (u.bufs result))
  pub typed :
      (g : Context) → total_count (declaration_of d) < g.sources → IsFreeFrom g low
      → TypedPhases g (map phase_tree piece.phases)
      × ((after_phases g (map phase_tree piece.phases)).bufs result ≡ Some record { len = result_length (product_from s d columns low); cell = kind.Word })
  pub text : KeepText 16384 (map phase_tree piece.phases)
