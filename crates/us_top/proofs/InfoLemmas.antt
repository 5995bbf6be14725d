-- The lines of `info`.
use Rattle.std.proofs.Common.{◌≡◌, ℕ, ℤ, ◌+◌, ◌≤◌, ◌<◌, min, List, [], ◌∷◌, ◌++◌, length, drop, get_or, sym, ap, ◌∙◌, append_assoc, add-one, arith}
use Rattle.std.specs.Fmt.{decimal}
use Rattle.std.proofs.lemmas.List.{at_drop_more}
use Rattle.us_check.specs.declared.held.Held.{Held}
use Rattle.std.specs.Prelude.{codes}
use Rattle.us_format.specs.Reading.{limit}
use Rattle.us_check.specs.Held.{IsHeld}
use Rattle.us_inputs.specs.Steps.{OfContainer, size_on}
use Rattle.us_inputs.specs.Views.{contained_of}
use Rattle.us_top.specs.Info.{info_text, sides_text, buffer_lines, spaced}
use Rattle.us_inputs.proofs.InputLemmas.{held_matrix}

regrouped : (d s more : List ℕ) → (d ++ (s ++ (10 ∷ []))) ++ more ≡ d ++ (s ++ (10 ∷ more))
regrouped d s more = append_assoc d (s ++ (10 ∷ [])) more ∙ ap (λ l. d ++ l) (append_assoc s (10 ∷ []) more)

-- one buffer more
pub next_buffer : (out : List ℕ) (bufs : List (List ℤ)) (k len : ℕ) → k < length bufs → len ≡ length (get_or bufs k [])
    → (out ++ (decimal k ++ (spaced len ++ (10 ∷ [])))) ++ buffer_lines (k + 1) (drop (k + 1) bufs) ≡ out ++ buffer_lines k (drop k bufs)
next_buffer out bufs k len lt e =
    append_assoc out (decimal k ++ (spaced len ++ (10 ∷ []))) (buffer_lines (k + 1) (drop (k + 1) bufs))
    ∙ ap (λ l. out ++ l)
    (regrouped (decimal k) (spaced len) (buffer_lines (k + 1) (drop (k + 1) bufs))
    ∙ ap (λ n. decimal k ++ (spaced n ++ (10 ∷ buffer_lines (k + 1) (drop (k + 1) bufs)))) e
    ∙ ap (λ n. decimal k ++ (spaced (length (get_or bufs k [])) ++ (10 ∷ buffer_lines n (drop (k + 1) bufs)))) (add-one k)
    ∙ sym (at_drop_more (buffer_lines k) bufs k [] lt))

-- the pieces of the lines of a container, one after the other
pub joined : (o0 o1 o2 o3 o4 o5 head name sides size lines : List ℕ) → o0 ≡ head → o1 ≡ o0 ++ name → o2 ≡ o1 ++ sides → o3 ≡ o2 ++ size → o4 ≡ o3 ++ (10 ∷ []) → o5 ≡ o4 ++ lines
    → o5 ≡ head ++ (name ++ (sides ++ (size ++ (10 ∷ lines))))
joined o0 o1 o2 o3 o4 o5 head name sides size lines e0 e1 e2 e3 e4 e5 =
    e5 ∙ ap (λ o. o ++ lines) (e4 ∙ ap (λ o. o ++ (10 ∷ [])) (e3 ∙ ap (λ o. o ++ size) (e2 ∙ ap (λ o. o ++ sides) (e1 ∙ ap (λ o. o ++ name) e0))))
    ∙ append_assoc ((((head ++ name) ++ sides) ++ size)) (10 ∷ []) lines ∙ append_assoc ((head ++ name) ++ sides) size (10 ∷ lines) ∙ append_assoc (head ++ name) sides (size ++ (10 ∷ lines))
    ∙ append_assoc head name (sides ++ (size ++ (10 ∷ lines)))

within : (n s : ℕ) → n ≡ min s (67108864 + 1) → s ≤ 67108864 → n ≡ s
within n s e h = omega arith

-- the size of a held matrix is within the limit
pub held_size : (h : Held) (n : ℕ) → IsHeld h → n ≡ min (size_on h.matrix h.declared) (limit + 1) → n ≡ size_on h.matrix h.declared
held_size h n held e = within n (size_on h.matrix h.declared) e held.small

pub info_container : (h : Held) (o name size : List ℕ) → o ≡ codes "container 1 " ++ (name ++ (sides_text h.matrix ++ (size ++ (10 ∷ buffer_lines 0 h.buffers)))) → name ≡ h.declared.name
    → size ≡ spaced (size_on h.matrix h.declared) → o ≡ info_text (OfContainer (contained_of h))
info_container h o name size e n s =
    e ∙ ap (λ w. codes "container 1 " ++ (w ++ (sides_text h.matrix ++ (size ++ (10 ∷ buffer_lines 0 h.buffers))))) n
    ∙ ap (λ w. codes "container 1 " ++ (h.declared.name ++ (sides_text h.matrix ++ (w ++ (10 ∷ buffer_lines 0 h.buffers))))) s
    ∙ ap (λ m. codes "container 1 " ++ (h.declared.name ++ (sides_text m ++ (spaced (size_on m h.declared) ++ (10 ∷ buffer_lines 0 h.buffers))))) (sym (held_matrix h))
