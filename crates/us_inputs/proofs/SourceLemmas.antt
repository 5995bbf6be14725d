-- How a matrix file is held.
use Rattle.std.proofs.Common.{◌≡◌, ℕ, ◌<◌, ◌≤◌, Bool, true, false, cond, nat_le, Ok, Err, sym, ap, ◌∙◌, subst, arith}
use Rattle.std.proofs.lemmas.Bool.Decides.{nat_tests}
use Rattle.us_matrix.specs.Map.{Map}
use Rattle.us_format.specs.Program.{shape_in, entries_in}
use Rattle.us_format.specs.Reading.{limit}
use Rattle.us_decl.specs.Declares.{Declared}
use Rattle.us_judge.specs.Entry.{entry_format}
use Rattle.us_check.specs.Held.{IsHeld}
use Rattle.us_check.specs.declared.held.Held.{Held}
use Rattle.us_status.specs.declared.status.Status.TheVariants.{TooLarge}
use Rattle.us_inputs.specs.Steps.{OfFile, size_on}
use Rattle.us_inputs.specs.Sources.{kept_in, held_step}
use Rattle.us_inputs.specs.Views.{contained_of}

fits : (s : ℕ) → s ≤ limit → nat_le s 67108864 ≡ true
fits s h = grind (arith, nat_tests)

is_above : (s : ℕ) → limit < s → nat_le s 67108864 ≡ false
is_above s h = grind (arith, nat_tests)

by_size : (m : Map) (b : Bool) → nat_le (size_on m entry_format) 67108864 ≡ b → held_step (OfFile m) ≡ cond b (Ok (kept_in m entry_format)) (Err (TooLarge 0))
by_size m b h = ap (λ t. cond t (Ok (kept_in m entry_format)) (Err (TooLarge 0))) h

-- a held matrix is what its container holds
held_is : (h : Held) (d : Declared) (m : Map) → IsHeld h → h.declared ≡ d → h.matrix ≡ m → contained_of h ≡ kept_in m d
held_is h d m held e f =
    ap (λ bufs. record { declared = h.declared; shape = shape_in h.matrix; buffers = bufs; entries = entries_in h.matrix }) held.built
    ∙ ap (kept_in h.matrix) e ∙ ap (λ m. kept_in m d) f

pub entries_held : (h : Held) (d : Declared) (m : Map) → IsHeld h → d ≡ entry_format → h.declared ≡ d → h.matrix ≡ m → size_on m d ≤ limit → held_step (OfFile m) ≡ Ok (contained_of h)
entries_held h d m held e is f small =
    by_size m true (fits (size_on m entry_format) (subst (λ d. size_on m d ≤ limit) e small)) ∙ ap Ok (sym (held_is h entry_format m held (is ∙ e) f))

pub entries_too_large : (d : Declared) (m : Map) → d ≡ entry_format → limit < size_on m d → held_step (OfFile m) ≡ Err (TooLarge 0)
entries_too_large d m e large = by_size m false (is_above (size_on m entry_format) (subst (λ d. limit < size_on m d) e large))
