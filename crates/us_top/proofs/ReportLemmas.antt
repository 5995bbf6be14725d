-- The lines of `check`, one declaration after the other.
use Rattle.std.proofs.Common.{◌≡◌, ℕ, ◌+◌, ◌<◌, List, ◌++◌, length, map, drop, get_or, All, Some, sym, ap, ◌∙◌, subst, append_assoc, arith}
use Rattle.std.specs.List.{flat_map}
use Rattle.std.specs.Prelude.{slice_get}
use Rattle.std.proofs.lemmas.List.{at_drop_more, get_or-map, length-map}
use Rattle.std.proofs.lemmas.Option.{get_or_from_slice_get}
use Rattle.us_format.specs.Matrix.{Shape}
use Rattle.us_decl.specs.declared.decl.Decl.{Decl}
use Rattle.us_decl.specs.Declares.{IsValid}
use Rattle.us_decl.specs.Views.{decl_view}
use Rattle.us_top.specs.Report.{declaration_line}

pub valid_there : (ds : List Decl) (d : Decl) (k : ℕ) → All (λ d. IsValid (decl_view d)) ds → k < length ds → slice_get ds k ≡ Some d → IsValid (decl_view d)
valid_there ds d k valid lt at = subst (λ (x : Decl). IsValid (decl_view x)) (get_or_from_slice_get ds k d d at) (valid k d lt)

pub next_line : (s : Shape) (ds : List Decl) (d : Decl) (k : ℕ) (o : List ℕ) → k < length ds → slice_get ds k ≡ Some d
    → (o ++ declaration_line s (decl_view d)) ++ flat_map (declaration_line s) (drop (k + 1) (map decl_view ds)) ≡ o ++ flat_map (declaration_line s) (drop k (map decl_view ds))
next_line s ds d k o lt at =
    let views = map decl_view ds in
    let there : get_or views k (decl_view d) ≡ decl_view d = get_or-map decl_view ds k d (decl_view d) lt ∙ ap decl_view (get_or_from_slice_get ds k d d at) in
    let below : k < length views = omega (arith, length-map ds decl_view) in
    append_assoc o (declaration_line s (decl_view d)) (flat_map (declaration_line s) (drop (k + 1) views))
    ∙ ap (λ l. o ++ l)
    (ap (λ x. declaration_line s x ++ flat_map (declaration_line s) (drop (k + 1) views)) (sym there) ∙ sym (at_drop_more (flat_map (declaration_line s)) views k (decl_view d) below))
