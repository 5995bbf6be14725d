-- Accepted declarations and buffers that fit are comparable, and a walk starts with nothing compared.
use Rattle.std.specs.List.{sum_by}
use Rattle.std.proofs.Common.{◌≡◌, ℕ, ◌+◌, ◌*◌, ◌<◌, ◌≤◌, ℤ, List, [], ◌∷◌, ◌++◌, map, length, drop, get_or, true, false, refl, Option, Some, None, sym, ap, ap₂, ◌∙◌, subst, inl, inr, arith, All}
use Rattle.std.specs.Option.{is_some}
use Rattle.std.proofs.lemmas.List.{append-nil, drop-drop, drop_all, drop_more, length-map, map-append}
use Rattle.std.proofs.lemmas.List.Elements.{All-head, All-nil, All-cons, All-tail}
use Rattle.us_expr.specs.declared.expression.Expr.{Expr}
use Rattle.us_expr.specs.declared.queries.Cond.{Cond}
use Rattle.us_expr.specs.declared.queries.Query.{Query as QueryCode}
use Rattle.us_matrix.specs.Map.{Map}
use Rattle.us_matrix.specs.declared.matrix.Triple.{Triple}
use Rattle.us_matrix.specs.declared.shape.Shape as code
use Rattle.us_decl.specs.Declares.{Declared, IsValid}
use Rattle.us_decl.specs.declared.decl.Part as held
use Rattle.us_format.specs.declared.Kind.{Kind}
use Rattle.us_format.specs.Buffers.{all_buffers, holds, part_buffers, parts_of, shares}
use Rattle.us_format.specs.Declaration.{Declaration, Part}
use Rattle.us_format.specs.Lists.{or_else}
use Rattle.us_format.specs.Matrix.{Entry, Shape}
use Rattle.us_format.specs.Meaning.{meaning}
use Rattle.us_format.specs.Packs.{Buffer, written}
use Rattle.us_format.specs.Program.{entries_in, plain_entries, plain_entry, plain_shape, shape_in}
use Rattle.us_format.specs.Reading.{all_counts_in, all_tests, buffer_count, fits, limit, part_tests, size_in}
use Rattle.us_format.specs.Rules.{ArePacksLawful, IsLawfulDeclaration}
use Rattle.us_format.proofs.Fits.{AllPass, none-fails}
use Rattle.us_format.proofs.Members.{all-Mem}
use Rattle.us_format.proofs.Order.{Mem, Mem-map}
use Rattle.us_format.proofs.Places.{buffers-number}
use Rattle.us_format.proofs.Shares.{shares-parts}
use Rattle.us_judge.specs.Acceptance.{first_refusal}
use Rattle.us_judge.specs.Format.{part_at}
use Rattle.us_judge.specs.Short.{AreShort}
use Rattle.us_judge.specs.Views.{declaration_of, plain_part}
use Rattle.us_judge.proofs.Accepted.{KeepsRules, accepted-keeps}
use Rattle.us_judge.proofs.Valid.{short-valid}
use Rattle.us_layout.specs.Splitting.{AreShares}
use Rattle.us_variables.specs.declared.variables.Variables.{Variables}
use Rattle.us_build.specs.Pieces.{IsPartOf}
use Rattle.us_build.specs.Ways.{IsStartOf, Way}
use Rattle.us_parts.specs.Storable.{IsStorable}
use Rattle.us_levels.specs.declared.differing.Difference.{Difference}
use Rattle.us_levels.specs.Comparable.{AreComparable, IsComparable, IsStoredFrom}
use Rattle.us_levels.specs.Differences.{difference_of, first_difference, part_difference, parts_difference}
use Rattle.us_levels.specs.Lists.{lists_difference}
use Rattle.us_levels.proofs.Acceptable.{storable-each}
use Rattle.us_levels.proofs.Asked.{fitting-tests, none-fail, pass-here, pass-split}
use Rattle.us_levels.proofs.Numbers.{drop-few, few-cells, few-entries, few-positions}
use Rattle.us_levels.proofs.Partwise.{stored-stand}
use Rattle.us_levels.proofs.Unlike.{differences-append, differences-written, none-is, some-first}
use Rattle.us_levels.proofs.Walked.{IsCompared, compared-start}

-- ---- a walk

module _ (part : held.Part) (mx : Map) (exprs : List Expr) (kinds : List Kind) (queries : List QueryCode) (t : Variables) (shape : code.Shape) (entries : List Triple) (same : plain_shape shape ≡ shape_in mx)
    (all : plain_entries entries ≡ entries_in mx) (plain : IsPartOf (plain_part part) exprs kinds queries t) where
  pub begun : (w : Way) → ((p : Part) → IsPartOf p exprs kinds queries t → IsStartOf (plain_shape shape) p (plain_entries entries) w) → IsStartOf (shape_in mx) (plain_part part) (entries_in mx) w
  begun w h =
      subst (λ (s : Shape). IsStartOf s (plain_part part) (entries_in mx) w) same
      (subst (λ (es : List Entry). IsStartOf (plain_shape shape) (plain_part part) es w) all (h (plain_part part) plain))

pub started : (k : ℕ) (s : Shape) (p : Part) (m : List Entry) (bufs : List (List ℤ)) → IsStoredFrom k s p m bufs → (w : Way) (lists : List (List ℤ)) → lists ≡ [] → IsStartOf s p m w → IsCompared s p m bufs k w lists
started k s p m bufs c w lists e h =
    subst (λ (ls : List (List ℤ)). IsCompared s p m bufs k w ls) (sym e) (compared-start s p m bufs k w (drop c.first bufs) (stored-stand k s p m bufs c) h c.counts)

-- ---- parts

pub comparable-all : (s : Shape) (k : ℕ) (ps : List Part) (ms : List Map) (bufs : List (List ℤ)) → All KeepsRules ps → All IsStorable ps → AreShort ps → All (λ m. shape_in m ≡ s) ms → All (λ m. length m.entries ≤ limit) ms
    → AllPass (all_tests s k ps bufs) → sum_by length bufs ≤ limit → all_counts_in s ps bufs ≤ limit → AreComparable ps ms bufs
comparable-all s k [] ms bufs kept stored short shapes few pass cells counts = tt
comparable-all s k (p ∷ ps) [] bufs kept stored short shapes few pass cells counts = tt
comparable-all s k (p ∷ ps) (m ∷ ms) bufs kept stored short shapes few pass cells counts =
    let n : ℕ = buffer_count p in
    let here = pass-split (map (λ t. (k + t.0, t.1)) (part_tests s p bufs)) (all_tests s (k + n) ps (drop n bufs)) pass in
    let entries : length m.entries ≤ limit = All-head (λ (m : Map). length m.entries ≤ limit) m ms few in
    let one : IsComparable s p (entries_in m) bufs = record {
      kept = All-head KeepsRules p ps kept;
      storable = All-head IsStorable p ps stored;
      short = short.0;
      fitting = none-fails (part_tests s p bufs) (pass-here k (part_tests s p bufs) here.0);
      cells = cells;
      counts = omega (arith, counts);
      few = omega (arith, entries, length-map m.entries plain_entry);
    } in (
      subst (λ (z : Shape). IsComparable z p (entries_in m) bufs) (sym (All-head (λ (m : Map). shape_in m ≡ s) m ms shapes)) one,
      comparable-all s (k + n) ps ms (drop n bufs) (All-tail KeepsRules p ps kept) (All-tail IsStorable p ps stored) short.1 (All-tail (λ (m : Map). shape_in m ≡ s) m ms shapes)
          (All-tail (λ (m : Map). length m.entries ≤ limit) m ms few) here.1 (omega (arith, cells, drop-few n bufs)) (omega (arith, counts)),
    )

-- ---- the buffers of all parts

first-append : (k : ℕ) (bs cs : List Buffer) (bufs : List (List ℤ)) → first_difference k (bs ++ cs) bufs ≡ or_else (first_difference k bs bufs) (first_difference (k + length bs) cs bufs)
first-append k bs cs bufs =
    differences-written k (bs ++ cs) bufs
    ∙ ap (λ (ls : List (List ℤ)). lists_difference k ls bufs) (map-append written bs cs)
    ∙ differences-append k (map written bs) (map written cs) bufs
    ∙ ap₂ (λ (l r : Option Difference). or_else l r) (sym (differences-written k bs bufs))
    (ap (λ (n : ℕ). lists_difference (k + n) (map written cs) bufs) (length-map bs written) ∙ sym (differences-written (k + length bs) cs bufs))

parts-joined : (s : Shape) (ys : List (Part × List Entry)) (ms : List Map) (k : ℕ) (bufs : List (List ℤ)) → map (λ y. y.1) ys ≡ map entries_in ms → All (λ m. shape_in m ≡ s) ms → ((y : Part × List Entry) → Mem y ys → ArePacksLawful y.0)
    → parts_difference k (map (λ y. y.0) ys) ms bufs ≡ first_difference k (all_buffers s ys) bufs
parts-joined s [] ms k bufs e h packs = refl
parts-joined s (y ∷ ys) [] k bufs e h packs = absurd (omega (arith, ap length e))
parts-joined s (y ∷ ys) (m ∷ ms) k bufs e h packs =
    let a : y.1 ≡ entries_in m = cc in
    let b : map (λ y. y.1) ys ≡ map entries_in ms = cc in
    let i : shape_in m ≡ s = All-head (λ (m : Map). shape_in m ≡ s) m ms h in
    let n : length (part_buffers s y.0 y.1) ≡ buffer_count y.0 = buffers-number s y.0 y.1 (packs y (inl refl)) [] in
    ap₂ (λ (l r : Option Difference). or_else l r) (ap₂ (λ (z : Shape) (es : List Entry). part_difference k z y.0 es bufs) i (sym a))
    (parts-joined s ys ms (k + buffer_count y.0) bufs b (All-tail (λ (m : Map). shape_in m ≡ s) m ms h) (λ z at. packs z (inr at)))
    ∙ ap (λ (j : ℕ). or_else (first_difference k (part_buffers s y.0 y.1) bufs) (first_difference (k + j) (all_buffers s ys) bufs)) (sym n)
    ∙ sym (first-append k (part_buffers s y.0 y.1) (all_buffers s ys) bufs)

-- ---- an accepted declaration

module _ (x : Declared) (valid : IsValid x) (accepted : first_refusal (declaration_of x) ≡ None) (law : IsLawfulDeclaration (declaration_of x)) (mx : Map) (bufs : List (List ℤ)) where
  abbrev d : Declaration
  d = declaration_of x

  pub whole-difference : (ms : List Map) → AreShares mx d.head d.conds ms → parts_difference 0 d.parts ms bufs ≡ difference_of (shape_in mx) d (entries_in mx) bufs
  whole-difference ms shared =
      ap (λ (ps : List Part). parts_difference 0 ps ms bufs) (sym parts-are)
      ∙ parts-joined (shape_in mx) (parts_of (shape_in mx) d (entries_in mx)) ms 0 bufs (shared.entries d refl refl (omega (arith, law.one_more))) shared.shapes packs
    where
      parts-are : map (λ y. y.0) (parts_of (shape_in mx) d (entries_in mx)) ≡ d.parts
      parts-are = shares-parts (holds (entries_in mx) (shape_in mx) d) d.conds d.parts (entries_in mx) law.one_more

      packs : (y : Part × List Entry) → Mem y (parts_of (shape_in mx) d (entries_in mx)) → ArePacksLawful y.0
      packs y at =
          all-Mem ArePacksLawful d.parts y.0 law.packs
          (subst (λ (ps : List Part). Mem y.0 ps) parts-are (Mem-map (λ (z : Part × List Entry). z.0) y (parts_of (shape_in mx) d (entries_in mx)) at))

  pub few-parts : length d.parts ≤ 4
  few-parts = (short-valid x valid).few

  module _ (fit : fits (shape_in mx) d bufs ≡ true) (within : size_in (shape_in mx) d bufs ≤ limit) where
    pub comparable-parts : (ms : List Map) → All (λ m. shape_in m ≡ shape_in mx) ms → All (λ m. length m.entries ≤ limit) ms → AreComparable d.parts ms bufs
    comparable-parts ms shapes few =
        comparable-all (shape_in mx) 0 d.parts ms bufs (accepted-keeps d accepted) (storable-each x valid accepted) (short-valid x valid).parts shapes few
        (none-fail (all_tests (shape_in mx) 0 d.parts bufs) (fitting-tests (shape_in mx) d bufs fit)) (few-cells (shape_in mx) d (entries_in mx) bufs within) (few-positions (shape_in mx) d (entries_in mx) bufs within)

    pub few-in : meaning (shape_in mx) d bufs ≡ Some (entries_in mx) → length mx.entries ≤ limit
    few-in means = omega (arith, few-entries (shape_in mx) d (entries_in mx) bufs within means, length-map mx.entries plain_entry)

    -- a declaration of one part
    module _ (p : Part) (one : d.parts ≡ p ∷ []) where
      at-first : part_at d 0 ≡ p
      at-first = ap (λ (ps : List Part). get_or ps 0 (record { names = 0; queries = []; levels = []; trim = []; merge = []; packs = [] })) one

      pub comparable-one : length mx.entries ≤ limit → IsComparable (shape_in mx) (part_at d 0) (entries_in mx) (drop 0 bufs)
      comparable-one few =
          let all : AreComparable d.parts (mx ∷ []) bufs = comparable-parts (mx ∷ []) (All-cons (λ (m : Map). shape_in m ≡ shape_in mx) mx [] refl (All-nil (λ (m : Map). shape_in m ≡ shape_in mx)))
          (All-cons (λ (m : Map). length m.entries ≤ limit) mx [] few (All-nil (λ (m : Map). length m.entries ≤ limit))) in
          let first : AreComparable (p ∷ []) (mx ∷ []) bufs = subst (λ (ps : List Part). AreComparable ps (mx ∷ []) bufs) one all in
          subst (λ (q : Part). IsComparable (shape_in mx) q (entries_in mx) bufs) (sym at-first) first.0

      pub one-difference : d.conds ≡ [] → difference_of (shape_in mx) d (entries_in mx) bufs ≡ part_difference 0 (shape_in mx) (part_at d 0) (entries_in mx) bufs
      one-difference none =
          ap₂ (λ (cs : List Cond) (ps : List Part). first_difference 0 (all_buffers (shape_in mx) (shares (holds (entries_in mx) (shape_in mx) d) cs ps (entries_in mx))) bufs) none one
          ∙ ap (λ (bs : List Buffer). first_difference 0 bs bufs) (append-nil (part_buffers (shape_in mx) p (entries_in mx)))
          ∙ ap (λ (q : Part). part_difference 0 (shape_in mx) q (entries_in mx) bufs) (sym at-first)

-- ---- one part after the other

-- what stands before the part k, the first of whose buffers has this number
pub record AreLeft (ps : List Part) (ms : List Map) (bufs : List (List ℤ)) (k first : ℕ) : Type 0 where
  pub rest : AreComparable (drop k ps) (drop k ms) (drop first bufs)
  pub same : parts_difference 0 ps ms bufs ≡ parts_difference first (drop k ps) (drop k ms) bufs
  pub low : first ≤ 81 * k

pub left-all : (ps : List Part) (ms : List Map) (bufs : List (List ℤ)) → AreComparable ps ms bufs → AreLeft ps ms bufs 0 0
left-all ps ms bufs c = record { rest = c; same = refl; low = omega arith }

module _ (ps : List Part) (ms : List Map) (bufs : List (List ℤ)) (k first : ℕ) (p : Part) (m x : Map) (h : k < length ps) (long : length ms ≡ length ps) (a : AreLeft ps ms bufs k first) (is : x ≡ get_or ms k m) where
  abbrev here : Part
  here = get_or ps k p

  parts : drop k ps ≡ here ∷ drop (k + 1) ps
  parts = drop_more ps k p h

  maps : drop k ms ≡ x ∷ drop (k + 1) ms
  maps = drop_more ms k m (omega (arith, h, long)) ∙ ap (λ (z : Map). z ∷ drop (k + 1) ms) (sym is)

  both : AreComparable (here ∷ drop (k + 1) ps) (x ∷ drop (k + 1) ms) (drop first bufs)
  both = subst (λ (qs : List Part). AreComparable qs (x ∷ drop (k + 1) ms) (drop first bufs)) parts (subst (λ (ns : List Map). AreComparable (drop k ps) ns (drop first bufs)) maps a.rest)

  pub left-here : IsComparable (shape_in x) here (entries_in x) (drop first bufs)
  left-here = both.0

  split : parts_difference 0 ps ms bufs ≡ or_else (part_difference first (shape_in x) here (entries_in x) bufs) (parts_difference (first + buffer_count here) (drop (k + 1) ps) (drop (k + 1) ms) bufs)
  split = a.same ∙ ap₂ (λ (qs : List Part) (ns : List Map). parts_difference first qs ns bufs) parts maps

  module _ (found : Option Difference) (f : found ≡ part_difference first (shape_in x) here (entries_in x) bufs) where
    abbrev others : Option Difference
    others = parts_difference (first + buffer_count here) (drop (k + 1) ps) (drop (k + 1) ms) bufs

    pub left-found : is_some found ≡ true → found ≡ parts_difference 0 ps ms bufs
    left-found s = some-first found others s ∙ ap (λ (r : Option Difference). or_else r others) f ∙ sym split

    pub left-next : is_some found ≡ false → (count now : ℕ) → count ≡ buffer_count here → count ≤ 81 → now ≡ first + count → AreLeft ps ms bufs (k + 1) now
    left-next s count now e few n = record {
      rest =
          subst (λ (ls : List (List ℤ)). AreComparable (drop (k + 1) ps) (drop (k + 1) ms) ls)
          (drop-drop (buffer_count here) first bufs ∙ ap (λ (j : ℕ). drop j bufs) place) both.1;
      same =
          split ∙ ap (λ (r : Option Difference). or_else r others) (sym f ∙ none-is found s)
          ∙ ap (λ (j : ℕ). parts_difference j (drop (k + 1) ps) (drop (k + 1) ms) bufs) place;
      low = omega (arith, a.low, few, n);
    }
      where
        place : first + buffer_count here ≡ now
        place = omega (arith, e, n)

pub left-none : (ps : List Part) (ms : List Map) (bufs : List (List ℤ)) (k first : ℕ) → length ps ≤ k → AreLeft ps ms bufs k first → None ≡ parts_difference 0 ps ms bufs
left-none ps ms bufs k first h a = sym (a.same ∙ ap (λ (qs : List Part). parts_difference first qs (drop k ms) bufs) (drop_all k ps h))
