-- What `convert` starts from, and what it writes.
use Rattle.std.specs.Prelude.{ℕ, List, [], ◌∷◌, if◌then◌else◌}
use Rattle.us_matrix.specs.Map.{Map}
use Rattle.us_mm.specs.Text.{text}
use Rattle.us_decl.specs.Declares.{Declared}
use Rattle.us_container.specs.Bytes.{container_bytes}
use Rattle.us_inputs.specs.Chains.{ends_in_text}
use Rattle.us_inputs.specs.Sources.{buffers_on}

-- the container of a matrix in a format
abbrev pub container_of : Map → Declared → List ℕ
container_of m d = container_bytes d m.rows m.cols (buffers_on m d)

-- the container in the last of the formats; without one, the canonical text
abbrev pub last_container : Map → List Declared → List ℕ
last_container m [] = text m
last_container m (d ∷ []) = container_of m d
last_container m (d ∷ e ∷ ds) = last_container m (e ∷ ds)

-- what is stored: the canonical text where the chain ends in it, else the container in its last format
abbrev pub written : List ℕ → List Declared → Map → List ℕ
written chain ds m = if ends_in_text chain then text m else last_container m ds
