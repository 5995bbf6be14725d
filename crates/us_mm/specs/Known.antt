-- What is known of a file by its first lines.
use Rattle.std.specs.Prelude.{◌≡◌, ◌≤◌, ℕ, ◌*◌, Bool, true, false, List, [], ◌∷◌, ◌++◌, length, flat_map, Result, Ok, Err}
use Rattle.us_matrix.specs.declared.matrix.Triple.{Triple}
use Rattle.us_mm_lines.specs.Lines.{kept}
use Rattle.us_mm.specs.declared.fault.MmFault.{MmFault}
use Rattle.us_mm.specs.declared.fault.MmFault.TheVariants.{Memory}
use Rattle.us_mm.specs.declared.form.Form.{Form}
use Rattle.us_mm.specs.Forms.{stands_for}
use Rattle.us_mm.specs.Reads.{each, header_of, sizes_of, entry_of, read_lines}
use Rattle.us_mm.specs.Arrays.{array_header_of, sides_of, value_in, array_lines}
use Rattle.us_mm.specs.Listed.{Listed, Valued}

-- whatever lines follow, the file has this fault
abbrev pub Fails : Bool → MmFault → List (List ℕ) → Type 0
Fails false f ls = (more : List (List ℕ)) → read_lines (ls ++ more) ≡ Err f
Fails true f ls = (more : List (List ℕ)) → array_lines (ls ++ more) ≡ Err f

-- a header, and no line behind it that isn't skipped
pub record HasForm (form : Form) (ls : List (List ℕ)) : Type 0 where
  pub first : List ℕ
  pub body : List (List ℕ)
  pub begun : ls ≡ first ∷ body
  pub header : header_of first ≡ Ok form
  pub none : kept 2 body ≡ []

-- a header, a size line and entry lines, at most as many as are wanted
pub record HasEntries (e : Listed) (ls : List (List ℕ)) : Type 0 where
  pub first : List ℕ
  pub body : List (List ℕ)
  pub begun : ls ≡ first ∷ body
  pub header : header_of first ≡ Ok e.sizes.form
  pub size_line : ℕ × List ℕ
  pub entry_lines : List (ℕ × List ℕ)
  pub kept_lines : kept 2 body ≡ size_line ∷ entry_lines
  pub sized : sizes_of e.sizes.form size_line ≡ Ok e.sizes
  pub entries : List Triple
  pub read : each (entry_of e.sizes) entry_lines ≡ Ok entries
  pub found : e.found ≡ length entry_lines
  pub within : length entry_lines ≤ e.sizes.count
  pub triples : e.triples ≡ flat_map (stands_for e.sizes.form.symmetry) entries

-- the same of operand files
pub record HasArray (ls : List (List ℕ)) : Type 0 where
  pub first : List ℕ
  pub body : List (List ℕ)
  pub begun : ls ≡ first ∷ body
  pub header : array_header_of first ≡ Ok tt
  pub none : kept 2 body ≡ []

pub record HasValues (v : Valued) (ls : List (List ℕ)) : Type 0 where
  pub first : List ℕ
  pub body : List (List ℕ)
  pub begun : ls ≡ first ∷ body
  pub header : array_header_of first ≡ Ok tt
  pub size_line : ℕ × List ℕ
  pub value_lines : List (ℕ × List ℕ)
  pub kept_lines : kept 2 body ≡ size_line ∷ value_lines
  pub sized : sides_of size_line ≡ Ok (record { rows = v.rows; cols = v.cols })
  pub read : each value_in value_lines ≡ Ok v.values
  pub within : length value_lines ≤ v.rows * v.cols

-- one line more was read, or it has a fault, or memory ran out
abbrev pub Took : {A : Type 0} → (A → Type 0) → Bool → Result A MmFault → List (List ℕ) → Type 0
Took P array (Ok x) ls = P x
Took P array (Err Memory) ls = Unit {0}
Took P array (Err f) ls = Fails array f ls
