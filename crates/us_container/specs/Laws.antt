-- A container and what it holds stand for each other.
use Rattle.std.specs.Prelude.{◌≡◌, ◌<◌, ◌^◌, ℕ, ℤ, List, length, slice_index, All, None, Ok, FitsSigned}
use Rattle.std.specs.Int.{w64}
use Rattle.us_matrix.specs.Map.{IsSide}
use Rattle.us_format.specs.Matrix.{Shape}
use Rattle.us_format.specs.Reading.{total_count}
use Rattle.us_decl.specs.Declares.{Declared, IsValid}
use Rattle.us_judge.specs.Acceptance.{first_refusal}
use Rattle.us_judge.specs.Views.{declaration_of}
use Rattle.us_check.specs.Checks.{checked}
use Rattle.us_container.specs.Bytes.{container_bytes}
use Rattle.us_container.specs.Contained.{◌>>=◌, Contained, contained_in, well_formed}

-- the bytes that hold something are the container of it, so nothing is held by two files
abbrev pub OnlySpelling : Type 0
OnlySpelling =
    (bytes : List ℕ) (c : Contained) → ((i : ℕ) → slice_index bytes i < 256) → contained_in bytes ≡ Ok c
    → bytes ≡ container_bytes c.declared c.shape.rows c.shape.cols c.buffers

-- what can be written: an accepted declaration, a shape, and as many buffers as the format has, of 64-bit cells
pub record IsWritable (d : Declared) (s : Shape) (bufs : List (List ℤ)) : Type 0 where
  pub valid : IsValid d
  pub accepted : first_refusal (declaration_of d) ≡ None
  pub rows : IsSide s.rows
  pub cols : IsSide s.cols
  pub count : length bufs ≡ total_count (declaration_of d)
  pub lengths : All (λ cells. length cells < 2 ^ 61) bufs
  pub cells : All (All (FitsSigned w64)) bufs

-- what is written reads back, where its buffers are well-formed; else the reason why they are not is the fault
abbrev pub ReadsBack : Type 0
ReadsBack =
    (d : Declared) (s : Shape) (bufs : List (List ℤ)) → IsWritable d s bufs
    → contained_in (container_bytes d s.rows s.cols bufs)
    ≡ (well_formed (checked s (declaration_of d) bufs) >>= λ m. Ok (record { declared = d; shape = s; buffers = bufs; entries = m }))
