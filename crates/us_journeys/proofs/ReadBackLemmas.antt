-- What is held is read back from the bytes of its container.
use Rattle.std.proofs.Common.{◌≡◌, ℕ, ◌<◌, ◌^◌, List, length, sym, ap, ◌∙◌, subst}
use Rattle.std.specs.Prelude.{All, FitsSigned, None, Ok, Some}
use Rattle.std.specs.Int.{w64}
use Rattle.std.proofs.lemmas.List.{length-map}
use Rattle.us_matrix.specs.Map.{IsMatrix}
use Rattle.us_format.specs.Program.{shape_in, entries_in}
use Rattle.us_format.specs.Packs.{written}
use Rattle.us_format.specs.Buffers.{all_buffers, parts_of}
use Rattle.us_format.specs.Meaning.{meaning}
use Rattle.us_format.specs.Reading.{total_count}
use Rattle.us_format.proofs.FromProgram.{program-matrix}
use Rattle.us_format.proofs.Whole.{buffers-are-counted}
use Rattle.us_decl.specs.Declares.{IsValid}
use Rattle.us_judge.specs.Acceptance.{first_refusal}
use Rattle.us_judge.specs.Views.{declaration_of}
use Rattle.us_judge.proofs.LawfulDeclarations.{accepted-declaration}
use Rattle.us_check.specs.Checks.{checked}
use Rattle.us_check.specs.Held.{IsHeld}
use Rattle.us_check.specs.Laws.{ChecksAccepted}
use Rattle.us_check.specs.declared.held.Held.{Held}
use Rattle.us_container.specs.Bytes.{container_bytes}
use Rattle.us_container.specs.Contained.{◌>>=◌, contained_in, well_formed}
use Rattle.us_container.specs.Laws.{ReadsBack}
use Rattle.us_inputs.specs.Views.{contained_of}
use Rattle.us_journeys.specs.Meanings.{IsMeant}

module _ (h : Held) (held : IsHeld h) (valid : IsValid h.declared) (accepted : first_refusal (declaration_of h.declared) ≡ None) (matrix : IsMatrix h.matrix) where
  counted : length h.buffers ≡ total_count (declaration_of h.declared)
  counted =
      ap length held.built ∙ length-map (all_buffers (shape_in h.matrix) (parts_of (shape_in h.matrix) (declaration_of h.declared) (entries_in h.matrix))) written
      ∙ buffers-are-counted (shape_in h.matrix) (declaration_of h.declared) (entries_in h.matrix) (accepted-declaration h.declared valid accepted)

  checks : ChecksAccepted → checked (shape_in h.matrix) (declaration_of h.declared) h.buffers ≡ Ok (entries_in h.matrix)
  checks law =
      ap (checked (shape_in h.matrix) (declaration_of h.declared)) held.built
      ∙ law (shape_in h.matrix) h.declared (entries_in h.matrix) valid accepted (program-matrix h.matrix matrix) held.small

  pub held_reads_back : All (λ cells. length cells < 2 ^ 61) h.buffers → All (All (FitsSigned w64)) h.buffers → ReadsBack → ChecksAccepted
      → contained_in (container_bytes h.declared h.matrix.rows h.matrix.cols h.buffers) ≡ Ok (contained_of h)
  held_reads_back lengths cells back law =
      back h.declared (shape_in h.matrix) h.buffers
      (record { valid = valid; accepted = accepted; rows = matrix.rows; cols = matrix.cols; count = counted; lengths = lengths; cells = cells })
      ∙ ap (λ r. well_formed r >>= λ m. Ok (record { declared = h.declared; shape = shape_in h.matrix; buffers = h.buffers; entries = m })) (checks law)

held_means : (h : Held) → IsHeld h → contained_in (container_bytes h.declared h.matrix.rows h.matrix.cols h.buffers) ≡ Ok (contained_of h)
    → IsMeant h.matrix h.declared (container_bytes h.declared h.matrix.rows h.matrix.cols h.buffers)
held_means h held back = record {
  reads_back = back ∙ ap (λ bufs. Ok (record { declared = h.declared; shape = shape_in h.matrix; buffers = bufs; entries = entries_in h.matrix })) held.built;
  means = subst (λ bufs. meaning (shape_in h.matrix) (declaration_of h.declared) bufs ≡ Some (entries_in h.matrix)) held.built held.means;
}

-- the container of what is held
pub container_means : (h : Held) (bytes : List ℕ) → IsHeld h → bytes ≡ container_bytes h.declared h.matrix.rows h.matrix.cols h.buffers
    → contained_in (container_bytes h.declared h.matrix.rows h.matrix.cols h.buffers) ≡ Ok (contained_of h) → IsMeant h.matrix h.declared bytes
container_means h bytes held is back = subst (λ bytes. IsMeant h.matrix h.declared bytes) (sym is) (held_means h held back)
