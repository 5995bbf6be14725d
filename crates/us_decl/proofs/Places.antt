-- The place of a name among declarations, which a map keeps by their names.
use Rattle.std.proofs.Common.{◌≡◌, ℕ, suc, ◌+◌, ◌<◌, ◌≤◌, List, [], ◌∷◌, ◌++◌, length, map, Bool, true, false, cond, not, ◌&&◌, ltb, Option, None, Some, position, refl, sym, ap, ap₂, ◌∙◌, arith, MatchOption}
use Rattle.std.proofs.lemmas.List.{map-append, length-map}
use Rattle.std.proofs.lemmas.Bool.Decides.{nat_tests}
use Rattle.std.specs.Prelude.{string_bytes, string_eq, bytes_eq, nat_eq}
use Rattle.std.specs.List.{position_or_len}
use Rattle.std.specs.Map.{keys_of, values_of, lookup}
use Rattle.std.specs.declared.string.String.{String}
use Rattle.indexmap.specs.IndexMap.{IndexMap, keys, values, insert_entry}
use Rattle.indexmap.proofs.CallerLemmas.{insert_entry-new}
use Rattle.us_decl.specs.declared.decl.Decl.{Decl}
use Rattle.us_decl.specs.Names.{same_name, number_of}
use Rattle.us_decl.specs.Names.{is_among}
use Rattle.us_decl.specs.Views.{decl_names}
use Rattle.us_decl.proofs.Numbering.{at_most}

pub length_names : (ds : List Decl) → length (decl_names ds) ≡ length ds
length_names [] = refl
length_names (d ∷ ds) = ap suc (length_names ds)

same_bytes : (a b : List ℕ) → same_name a b ≡ bytes_eq a b
same_bytes [] [] = refl
same_bytes [] (y ∷ ys) = refl
same_bytes (x ∷ xs) [] = refl
same_bytes (x ∷ xs) (y ∷ ys) = ap (λ (t : Bool). nat_eq x y && t) (same_bytes xs ys)

found_by : (b : Bool) (n len : ℕ) → ltb n len ≡ b → n ≤ len → MatchOption (cond b (Some n) None) (n ≡ len) (λ k. (k ≡ n) × (k < len))
found_by true n len e h = (refl, grind (arith, nat_tests))
found_by false n len e h = grind (arith, nat_tests)

none_cons : {X : Type 0} (b : Bool) (x : X) (n len : ℕ) (rest : Option X) → ltb (cond (not b) (1 + n) 0) (suc len) ≡ false → (ltb n len ≡ false → rest ≡ None) → cond b (Some x) rest ≡ None
none_cons true x n len rest e go = absurd (grind (arith, nat_tests))
none_cons false x n len rest e go = go (grind (arith, nat_tests))

module _ {Z : Type 0} (w : List ℕ) where
  -- whether a key is this name
  abbrev is_key : String Z → Bool
  is_key k = bytes_eq w (string_bytes k)

  number_is : (ks : List (String Z)) → number_of w (map string_bytes ks) ≡ position_or_len is_key ks
  number_is [] = refl
  number_is (k ∷ ks) = ap₂ (λ (t : Bool) (n : ℕ). cond (not t) (1 + n) 0) (same_bytes w (string_bytes k)) (number_is ks)

  -- the place of the key is the number of the name
  pub found : (ks : List (String Z)) (ns : List (List ℕ)) (len : ℕ) (r : Option ℕ) → map string_bytes ks ≡ ns → len ≡ length ns → r ≡ position is_key ks → MatchOption r (number_of w ns ≡ len) (λ k. (k ≡ number_of w ns) × (k < len))
  found ks ns len r same full is =
      let number : position_or_len is_key ks ≡ number_of w ns = sym (number_is ks) ∙ ap (number_of w) same in
      let ends : length ks ≡ len = sym (length-map ks string_bytes) ∙ ap length same ∙ sym full in
      let there : r ≡ cond (ltb (number_of w ns) len) (Some (number_of w ns)) None = is ∙ ap₂ (λ (n l : ℕ). cond (ltb n l) (Some n) None) number ends in
      let most : number_of w ns ≤ len = omega (arith, at_most w ns) in
      rw there (found_by (ltb (number_of w ns) len) (number_of w ns) len refl most)

  -- a name that isn't there is at no entry
  none : {X : Type 0} (es : List (String Z × X)) → ltb (position_or_len is_key (keys_of es)) (length es) ≡ false → lookup is_key es ≡ None
  none [] h = refl
  none (e ∷ es) h = none_cons (is_key e.0) e.1 (position_or_len is_key (keys_of es)) (length es) (lookup is_key es) h (none es)

  pub absent : {X : Type 0} (es : List (String Z × X)) (ns : List (List ℕ)) → map string_bytes (keys_of es) ≡ ns → is_among w ns ≡ false → lookup is_key es ≡ None
  absent es ns same new_ =
      let number : number_of w ns ≡ position_or_len is_key (keys_of es) = ap (number_of w) (sym same) ∙ number_is (keys_of es) in
      let ends : length ns ≡ length es = ap length (sym same) ∙ length-map (keys_of es) string_bytes ∙ length-map es (λ (e : String Z × _). e.0) in
      none es (ap₂ ltb (sym number) (sym ends) ∙ new_)

-- one more declaration under its name
module _ {Z S : Type 0} (m n : IndexMap (String Z) Decl S) (k : String Z) (d : Decl) (ds : List Decl) (view : values m ≡ ds) (named : map string_bytes (keys m) ≡ decl_names (values m)) (new_ : is_among d.name (decl_names ds) ≡ false) (key : string_bytes k ≡ d.name) (is : n.entries ≡ insert_entry string_eq m.entries k d) where
  last : n.entries ≡ m.entries ++ (k, d) ∷ []
  last = is ∙ insert_entry-new string_eq m k d (absent (string_bytes k) m.entries (decl_names ds) (named ∙ ap decl_names view) (ap (λ (w : List ℕ). is_among w (decl_names ds)) key ∙ new_))

  keys_then : map string_bytes (keys n) ≡ map string_bytes (keys m) ++ d.name ∷ []
  keys_then =
      ap (λ (es : List (String Z × Decl)). map string_bytes (keys_of es)) last
      ∙ ap (map string_bytes) (map-append (λ (e : String Z × Decl). e.0) m.entries ((k, d) ∷ []))
      ∙ map-append string_bytes (keys m) (k ∷ [])
      ∙ ap (λ (w : List ℕ). map string_bytes (keys m) ++ w ∷ []) key

  values_then : values n ≡ values m ++ d ∷ []
  values_then = ap values_of last ∙ map-append (λ (e : String Z × Decl). e.1) m.entries ((k, d) ∷ [])

  pub view_then : values n ≡ ds ++ d ∷ []
  view_then = values_then ∙ ap (λ (xs : List Decl). xs ++ d ∷ []) view

  pub named_then : map string_bytes (keys n) ≡ decl_names (values n)
  named_then =
      keys_then ∙ ap (λ (ns : List (List ℕ)). ns ++ d.name ∷ []) named
      ∙ sym (map-append (λ (x : Decl). x.name) (values m) (d ∷ []))
      ∙ sym (ap decl_names values_then)
