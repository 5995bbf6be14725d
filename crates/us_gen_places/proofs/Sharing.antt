-- The buffers of a matrix are those of its parts.
use Rattle.std.proofs.Common.{◌≡◌, ℕ, ◌+◌, ◌<◌, List, [], ◌∷◌, ◌++◌, map, length, get_or, ℤ, sym, refl, ap, ◌∙◌, inl, inr, arith}
use Rattle.std.proofs.lemmas.List.{get_or_append_left, get_or-append-add, length-append, length-map, map-append}
use Rattle.us_format.specs.Lists.{nth}
use Rattle.us_format.specs.Matrix.{Shape, Entry}
use Rattle.us_format.specs.Declaration.{Part}
use Rattle.us_format.specs.Packs.{Buffer, written}
use Rattle.us_format.specs.Buffers.{part_buffers, all_buffers, parts_of}
use Rattle.us_format.specs.Reading.{buffer_count}
use Rattle.us_format.specs.Rules.{ArePacksLawful}
use Rattle.us_format.proofs.Members.{Mem-contains}
use Rattle.us_format.proofs.Order.{Mem}
use Rattle.us_format.proofs.Places.{buffers-number}
use Rattle.us_format_loops.proofs.Parts.{parts-share-entries}
use Rattle.us_code.specs.Run.{Env}
use Rattle.us_gen_places.specs.Holds.{held_by, HoldParts, BuffersAreOfParts}

written_both : (xs ys : List Buffer) → map written (xs ++ ys) ≡ map written xs ++ map written ys
written_both xs ys = map-append written xs ys

module _ (env : Env) (s : Shape) where
  parts_held : (n : ℕ) (xs : List (Part × List Entry)) → ((x : Part × List Entry) → Mem x xs → ArePacksLawful x.0)
      → ((k : ℕ) → k < length (map written (all_buffers s xs)) → env.sources (n + k) ≡ nth (map written (all_buffers s xs)) k) → HoldParts env n s xs
  parts_held n [] packs h = tt
  parts_held n (x ∷ xs) packs h =
      let first : List (List ℤ) = held_by s x.0 x.1 in
      let rest : List (List ℤ) = map written (all_buffers s xs) in
      let is : map written (part_buffers s x.0 x.1 ++ all_buffers s xs) ≡ first ++ rest = written_both (part_buffers s x.0 x.1) (all_buffers s xs) in
      let size : length first ≡ buffer_count x.0 = length-map (part_buffers s x.0 x.1) written ∙ buffers-number s x.0 x.1 (packs x (inl refl)) [] in
      let all : length (map written (part_buffers s x.0 x.1 ++ all_buffers s xs)) ≡ length first + length rest = ap (λ (bs : List (List ℤ)). length bs) is ∙ length-append first rest in
      let here : (k : ℕ) → k < length (part_buffers s x.0 x.1) → env.sources (n + k) ≡ nth first k =
      λ k l.
      let below : k < length first = rw (length-map (part_buffers s x.0 x.1) written) l in
      h k (omega (arith, all, below)) ∙ ap (λ (bs : List (List ℤ)). nth bs k) is ∙ get_or_append_left first rest [] k below in
      let later : (k : ℕ) → k < length rest → env.sources (n + buffer_count x.0 + k) ≡ nth rest k =
      λ k l.
      ap env.sources (omega (arith, size)) ∙ h (length first + k) (omega (arith, all, l)) ∙ ap (λ (bs : List (List ℤ)). nth bs (length first + k)) is ∙ get_or-append-add first rest k [] in
      (here, parts_held (n + buffer_count x.0) xs (λ y i. packs y (inr i)) later)

pub buffers-are-of-parts : BuffersAreOfParts
buffers-are-of-parts env n s d m lawful im h =
    parts_held env s n (parts_of s d m) (λ x i. ((parts-share-entries s d m lawful im).lawful x (Mem-contains (parts_of s d m) x i)).1) h
