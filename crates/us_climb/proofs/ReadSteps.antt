-- Reading the positions of one part after another, and the parts.
use Rattle.std.specs.Prelude.{FitsSigned, is_some}
use Rattle.std.proofs.Common.{◌≡◌, ℕ, suc, ◌+◌, ◌-◌, ◌<◌, ◌≤◌, List, [], ◌∷◌, ◌++◌, map, length, drop, Bool, true, false, cond, ℤ, refl, sym, ap, ap₂, ◌∙◌, arith, Option, Some, None, append_assoc, append-nil, add-one, w64}
use Rattle.std.specs.List.{All, range_with_len}
use Rattle.std.proofs.Math.Seq.{drop-cons}
use Rattle.std.proofs.Math.ListN.{drop_of_length-le}
use Rattle.std.proofs.lemmas.List.Elements.{All-append, All-cons, All-nil}
use Rattle.std.proofs.lemmas.List.{drop-drop, map-append}
use Rattle.us_format.specs.Lists.{cell}
use Rattle.us_format.specs.Matrix.{Shape, Entry, is_zero}
use Rattle.us_format.specs.Declaration.{Part, Declaration}
use Rattle.us_format.specs.Kinds.{levels_of}
use Rattle.us_format.specs.Packs.{pieces}
use Rattle.us_format.specs.Climb.{values}
use Rattle.us_format.specs.Program.{plain_entry, plain_shape}
use Rattle.us_format.specs.Reading.{Contents, buffer_count, extents_in, cells_in, contents, all_contents}
use Rattle.us_format.specs.Meaning.{Position, part_values, all_positions}
use Rattle.us_decl.specs.Declares.{Declared}
use Rattle.us_judge.specs.Format.{part_at}
use Rattle.us_judge.specs.Views.{declaration_of}
use Rattle.us_matrix.specs.declared.shape.Shape as shape
use Rattle.us_climb.specs.declared.found.Position as code
use Rattle.us_climb.specs.declared.found.Found.{Found}
use Rattle.us_climb.specs.declared.layout.ColumnPlace.{ColumnPlace}
use Rattle.us_climb.specs.declared.layout.Layout.{Layout}
use Rattle.us_climb.specs.Layout.{IsLayout, cells_at}
use Rattle.us_climb.specs.Own.{buffers_before}
use Rattle.us_climb.specs.Entries.{Read, with_entry, read_keys, entry_in, is_empty, read_all, read_part, part_positions, prepend, plain_position, plain_found, found_to}
use Rattle.us_climb.proofs.PartTests.{extents-first}
use Rattle.us_climb.proofs.PartContents.{part-value}
use Rattle.us_climb.proofs.BuffersFit.{before-more}
use Rattle.us_climb.proofs.Walks.{values-there}

-- the positions of the part k from x on, m of them
abbrev pub places : ℕ → ℕ → ℕ → List Position
places k x m = map (λ y. (k, y)) (range_with_len x m)

-- ---- the positions of the part k, of which there are n

module _ (s : Shape) (d : Declaration) (bufs : List (List ℤ)) (k n : ℕ) where
  -- what is read from the position x on
  abbrev pub rest : ℕ → Read Position
  rest x = read_keys (is_empty s d bufs) (entry_in s d bufs) (places k x (n - x))

  -- the entries before the position x were found, behind those of the parts before
  pub record IsReadTo (before : List Found) (x : ℕ) (found : List Found) : Type 0 where
    pub so_far : prepend (map plain_found found) (rest x) ≡ prepend (map plain_found before) (rest 0)
    pub fits : All (λ f. FitsSigned w64 f.triple.v) found

  pub read-none : (before : List Found) → All (λ f. FitsSigned w64 f.triple.v) before → IsReadTo before 0 before
  read-none before h = record { so_far = refl; fits = h }

  places_more : (x : ℕ) → x < n → places k x (n - x) ≡ (k, x) ∷ places k (x + 1) (n - (x + 1))
  places_more x l = let e : n - x ≡ suc (n - (x + 1)) = omega arith in ap (places k x) e

  rest_more : (x : ℕ) → x < n → rest x ≡ read_keys (is_empty s d bufs) (entry_in s d bufs) ((k, x) ∷ places k (x + 1) (n - (x + 1)))
  rest_more x l = ap (read_keys (is_empty s d bufs) (entry_in s d bufs)) (places_more x l)

  rest_skip : (x : ℕ) → x < n → is_empty s d bufs (k, x) ≡ true → rest x ≡ rest (x + 1)
  rest_skip x l e = rest_more x l ∙ ap (λ b. cond b (rest (x + 1)) (with_entry (k, x) (entry_in s d bufs (k, x)) (rest (x + 1)))) e

  rest_entry : (x : ℕ) (o : Option Entry) → x < n → is_empty s d bufs (k, x) ≡ false → entry_in s d bufs (k, x) ≡ o → rest x ≡ with_entry (k, x) o (rest (x + 1))
  rest_entry x o l e is =
      rest_more x l ∙ ap (λ b. cond b (rest (x + 1)) (with_entry (k, x) (entry_in s d bufs (k, x)) (rest (x + 1)))) e
      ∙ ap (λ (y : Option Entry). with_entry (k, x) y (rest (x + 1))) is

  pub read-skip : (before : List Found) (x : ℕ) (found : List Found) → x < n → is_empty s d bufs (k, x) ≡ true → IsReadTo before x found → IsReadTo before (x + 1) found
  read-skip before x found l e h = record { so_far = ap (prepend (map plain_found found)) (sym (rest_skip x l e)) ∙ h.so_far; fits = h.fits }

  pub read-more : (before : List Found) (x : ℕ) (found : List Found) (f : Found) → x < n → is_empty s d bufs (k, x) ≡ false → entry_in s d bufs (k, x) ≡ Some (plain_entry f.triple) → plain_position f.position ≡ (k, x)
      → FitsSigned w64 f.triple.v → IsReadTo before x found → IsReadTo before (x + 1) (found ++ (f ∷ []))
  read-more before x found f l e is at fits h =
      record {
        so_far =
            ap (λ (xs : List (Position × Entry)). prepend xs (rest (x + 1))) (map-append plain_found found (f ∷ []))
            ∙ ap (λ (xs : List (Position × Entry)). let r : Read Position = record { found = xs; failed = (rest (x + 1)).failed } in r) (append_assoc (map plain_found found) (plain_found f ∷ []) (rest (x + 1)).found)
            ∙ ap (λ (key : Position). prepend (map plain_found found) (prepend ((key, plain_entry f.triple) ∷ []) (rest (x + 1)))) at
            ∙ ap (prepend (map plain_found found)) (sym (rest_entry x (Some (plain_entry f.triple)) l e is))
            ∙ h.so_far;
        fits = All-append (λ f. FitsSigned w64 f.triple.v) found (f ∷ []) h.fits (All-cons (λ f. FitsSigned w64 f.triple.v) f [] fits (All-nil (λ f. FitsSigned w64 f.triple.v)));
      }

  pub read-failed : (before : List Found) (x : ℕ) (found : List Found) → x < n → is_empty s d bufs (k, x) ≡ false → entry_in s d bufs (k, x) ≡ None → IsReadTo before x found
      → ◌≡◌ {A = Read Position} (record { found = map plain_found found; failed = Some (k, x) }) (prepend (map plain_found before) (rest 0))
  read-failed before x found l e is h =
      ap (λ (xs : List (Position × Entry)). let r : Read Position = record { found = xs; failed = Some (k, x) } in r) (sym (append-nil (map plain_found found)))
      ∙ ap (prepend (map plain_found found)) (sym (rest_entry x None l e is)) ∙ h.so_far

  pub read-end : (before : List Found) (x : ℕ) (found : List Found) → n ≤ x → IsReadTo before x found → found_to found None ≡ prepend (map plain_found before) (rest 0)
  read-end before x found l h =
      ap (λ (xs : List (Position × Entry)). let r : Read Position = record { found = xs; failed = None } in r) (sym (append-nil (map plain_found found)))
      ∙ ap (λ m. prepend (map plain_found found) (read_keys (is_empty s d bufs) (entry_in s d bufs) (places k x m))) (let e : 0 ≡ n - x = omega arith in e) ∙ h.so_far

-- ---- the positions of the part k by its layout

module _ (s : Shape) (d : Declaration) (bufs : List (List ℤ)) (k : ℕ) (there : k < length d.parts) (l : Layout)
    (layout : IsLayout (buffers_before d.parts k) s (extents_in (buffers_before d.parts k) bufs (part_at d k).queries) (part_at d k) l) where
  abbrev f : ℕ
  f = buffers_before d.parts k

  abbrev p : Part
  p = part_at d k

  values-laid : part_values s p (contents p (drop f bufs)) ≡ cells_at l.values bufs
  values-laid =
      ap (λ (ns : List ℕ). values (levels_of s ns p) (map (cells_in p (drop f bufs)) (pieces p))) (sym (extents-first f bufs p.queries))
      ∙ values-there f s (extents_in f bufs p.queries) p bufs 0 p.levels ∙ ap (λ (place : ColumnPlace). cells_at place bufs) (sym layout.values)

  pub empty-laid : (x : ℕ) → is_empty s d bufs (k, x) ≡ is_zero (cell (cells_at l.values bufs) x)
  empty-laid x = ap is_zero (part-value s d bufs k f there refl l layout x)

  pub part-laid : read_part s d bufs k ≡ rest s d bufs k (length (cells_at l.values bufs)) 0
  part-laid =
      ap (λ (vs : List ℤ). read_keys (is_empty s d bufs) (entry_in s d bufs) (places k 0 (length vs))) values-laid
      ∙ ap (λ m. read_keys (is_empty s d bufs) (entry_in s d bufs) (places k 0 m)) (let e : length (cells_at l.values bufs) ≡ length (cells_at l.values bufs) - 0 = omega arith in e)

pub read-alike : (s t : shape.Shape) (f g : Declared) (a b : List (List ℤ)) (i j : ℕ) → s ≡ t → f ≡ g → a ≡ b → i ≡ j
    → read_part (plain_shape s) (declaration_of f) a (i - 1) ≡ read_part (plain_shape t) (declaration_of g) b (j - 1)
read-alike s t f g a b i j p q r e =
    ap₂ (λ (z : shape.Shape) (k : ℕ). read_part (plain_shape z) (declaration_of f) a (k - 1)) p e
    ∙ ap₂ (λ (u : Declared) (bufs : List (List ℤ)). read_part (plain_shape t) (declaration_of u) bufs (j - 1)) q r

-- ---- all parts

-- what is read at some positions, and then, unless that failed, at others
abbrev after : List (Position × Entry) → Option Position → Read Position → Read Position
after found None rest = prepend found rest
after found (Some key) rest = record { found = found; failed = Some key }

entry_after : (x : Position) (e : Entry) (found : List (Position × Entry)) (failed : Option Position) (t : Read Position) → with_entry x (Some e) (after found failed t) ≡ after ((x, e) ∷ found) failed t
entry_after x e found None t = refl
entry_after x e found (Some key) t = refl

step_after : (x : Position) (b : Bool) (o : Option Entry) (all r t : Read Position) → all ≡ after r.found r.failed t
    → cond b all (with_entry x o all) ≡ after (cond b r (with_entry x o r)).found (cond b r (with_entry x o r)).failed t
step_after x true o all r t ih = ih
step_after x false None all r t ih = refl
step_after x false (Some e) all r t ih = ap (with_entry x (Some e)) ih ∙ entry_after x e r.found r.failed t

read-append : (skip : Position → Bool) (read : Position → Option Entry) (xs ys : List Position)
    → read_keys skip read (xs ++ ys) ≡ after (read_keys skip read xs).found (read_keys skip read xs).failed (read_keys skip read ys)
read-append skip read [] ys = refl
read-append skip read (x ∷ xs) ys = step_after x (skip x) (read x) (read_keys skip read (xs ++ ys)) (read_keys skip read xs) (read_keys skip read ys) (read-append skip read xs ys)

module _ (s : Shape) (d : Declaration) (bufs : List (List ℤ)) where
  -- what is read at the positions of the part k and those behind it
  abbrev behind : ℕ → Read Position
  behind k = read_keys (is_empty s d bufs) (entry_in s d bufs) (all_positions s k (all_contents (drop k d.parts) (drop (buffers_before d.parts k) bufs)))

  -- the entries of the parts before the part k were found
  pub record IsReadBefore (k : ℕ) (found : List Found) : Type 0 where
    pub so_far : prepend (map plain_found found) (behind k) ≡ read_all s d bufs
    pub fits : All (λ f. FitsSigned w64 f.triple.v) found

  pub parts-none : IsReadBefore 0 []
  parts-none = record { so_far = refl; fits = All-nil (λ f. FitsSigned w64 f.triple.v) }

  contents-next : (k : ℕ) → k < length d.parts
      → all_contents (drop k d.parts) (drop (buffers_before d.parts k) bufs)
      ≡ (part_at d k, contents (part_at d k) (drop (buffers_before d.parts k) bufs)) ∷ all_contents (drop (suc k) d.parts) (drop (buffers_before d.parts (suc k)) bufs)
  contents-next k h =
      let f : ℕ = buffers_before d.parts k in
      let n : ℕ = buffer_count (part_at d k) in
      ap (λ (ps : List Part). all_contents ps (drop f bufs)) (drop-cons d.parts k _ h)
      ∙ ap (λ (xs : List (List ℤ)). (part_at d k, contents (part_at d k) (drop f bufs)) ∷ all_contents (drop (suc k) d.parts) xs)
      (drop-drop n f bufs ∙ ap (λ (j : ℕ). drop j bufs) (sym (before-more d k h)))

  behind-next : (k : ℕ) → k < length d.parts → behind k ≡ after (read_part s d bufs k).found (read_part s d bufs k).failed (behind (suc k))
  behind-next k h =
      ap (λ (xs : List (Part × Contents)). read_keys (is_empty s d bufs) (entry_in s d bufs) (all_positions s k xs)) (contents-next k h)
      ∙ read-append (is_empty s d bufs) (entry_in s d bufs) (part_positions s d bufs k) (all_positions s (suc k) (all_contents (drop (suc k) d.parts) (drop (buffers_before d.parts (suc k)) bufs)))

  pub parts-more : (k : ℕ) (before found : List Found) (o : Option code.Position) → k < length d.parts → IsReadBefore k before
      → found_to found o ≡ prepend (map plain_found before) (read_part s d bufs k) → is_some o ≡ false → All (λ f. FitsSigned w64 f.triple.v) found → IsReadBefore (k + 1) found
  parts-more k before found None h sofar e is fits =
      let r : Read Position = read_part s d bufs k in
      let t : Read Position = behind (suc k) in
      let xs : List (Position × Entry) = map plain_found before in
      record {
        so_far =
            ap (λ (j : ℕ). prepend (map plain_found found) (behind j)) (add-one k)
            ∙ ap (λ (q : Read Position). prepend q.found t) e
            ∙ ap (λ (ys : List (Position × Entry)). let q : Read Position = record { found = ys; failed = t.failed } in q) (append_assoc xs r.found t.found)
            ∙ ap (λ (q : Read Position). prepend xs (after r.found q.failed t)) e
            ∙ ap (prepend xs) (sym (behind-next k h))
            ∙ sofar.so_far;
        fits = fits;
      }
  parts-more k before found (Some at) h sofar e is fits = absurd cc

  pub parts-failed : (k : ℕ) (before found : List Found) (o : Option code.Position) → k < length d.parts → IsReadBefore k before
      → found_to found o ≡ prepend (map plain_found before) (read_part s d bufs k) → is_some o ≡ true → found_to found o ≡ read_all s d bufs
  parts-failed k before found None h sofar e is = absurd cc
  parts-failed k before found (Some at) h sofar e is =
      let r : Read Position = read_part s d bufs k in
      let t : Read Position = behind (suc k) in
      let xs : List (Position × Entry) = map plain_found before in
      ap (λ (q : Read Position). let w : Read Position = record { found = q.found; failed = Some (plain_position at) } in w) e
      ∙ ap (λ (q : Read Position). prepend xs (after r.found q.failed t)) e
      ∙ ap (prepend xs) (sym (behind-next k h))
      ∙ sofar.so_far

  pub parts-end : (k : ℕ) (found : List Found) → length d.parts ≤ k → IsReadBefore k found → found_to found None ≡ read_all s d bufs
  parts-end k found h sofar =
      ap (λ (xs : List (Position × Entry)). let r : Read Position = record { found = xs; failed = None } in r) (sym (append-nil (map plain_found found)))
      ∙ ap (λ (ps : List Part). prepend (map plain_found found) (read_keys (is_empty s d bufs) (entry_in s d bufs) (all_positions s k (all_contents ps (drop (buffers_before d.parts k) bufs))))) (sym (drop_of_length-le d.parts h))
      ∙ sofar.so_far
