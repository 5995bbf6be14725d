-- Buffers that check are exactly the buffers of a matrix, within the limit.
use Rattle.std.specs.Prelude.{nat_le, Result, Ok, Err, is_none, OnOk, IfErr}
use Rattle.std.proofs.Common.{◌≡◌, ℕ, ◌≤◌, List, length, Bool, true, false, cond, not, eqb, min, ℤ, sym, refl, ap, ◌∙◌, subst, arith, Option, Some, None, eqb-true}
use Rattle.std.proofs.Math.ListN.{length-map}
use Rattle.std.proofs.lemmas.Bool.{false≢true}
use Rattle.std.proofs.lemmas.Bool.Decides.{nat_tests}
use Rattle.us_format.specs.Lists.{first_of, when}
use Rattle.us_format.specs.Matrix.{Entry, Shape}
use Rattle.us_format.specs.Declaration.{Declaration}
use Rattle.us_format.specs.Packs.{written}
use Rattle.us_format.specs.Buffers.{all_buffers, parts_of, buffers, size}
use Rattle.us_format.specs.Reading.{limit, total_count, all_tests, misfit, fits, size_in}
use Rattle.us_format.specs.Meaning.{Position, entries_of, collected, meaning}
use Rattle.us_format.specs.Rules.{IsLawfulDeclaration}
use Rattle.us_format.proofs.Whole.{buffers-are-counted, buffers-mean-matrix, size-is-of-buffers}
use Rattle.us_judge.proofs.LawfulDeclarations.{accepted-declaration}
use Rattle.us_judge.specs.Views.{declaration_of}
use Rattle.us_levels.specs.declared.differing.Difference.{Difference}
use Rattle.us_levels.specs.Differences.{difference_of}
use Rattle.us_check.specs.declared.broken.Broken.{Broken}
use Rattle.us_check.specs.declared.broken.Broken.TheVariants.{Lengths, TooLarge, Climb, Cell, Long, Memory}
use Rattle.us_check.specs.declared.held.Held.{Held}
use Rattle.us_check.specs.Kept.{Kept}
use Rattle.us_matrix.specs.Map.{Map}
use Rattle.us_decl.specs.Declares.{Declared}
use Rattle.us_format.specs.Program.{shape_in, entries_in}
use Rattle.us_check.specs.Checks.{unless_different, compared, fitting, checked, TellsFault, TellsChecked, IsWellFormedWithin}
use Rattle.us_check.specs.Laws.{AreBuffersOf, ChecksWellFormed, ChecksOwn, ChecksAccepted}
use Rattle.us_levels.proofs.SmallExtents.{small-within}
use Rattle.us_check.proofs.Same.{none-same, same-all}
use Rattle.us_check.proofs.Told.{fault-same}

pub fits-none : (s : Shape) (d : Declaration) (bufs : List (List ℤ)) → fits s d bufs ≡ true → misfit s d bufs ≡ None
fits-none s d bufs h = go (misfit s d bufs) h
  where
    go : (o : Option ℕ) → is_none o ≡ true → o ≡ None
    go None h = refl
    go (Some k) h = absurd (false≢true h)

-- buffers that fit are as many as the format has
pub fits-count : (s : Shape) (d : Declaration) (bufs : List (List ℤ)) → fits s d bufs ≡ true → length bufs ≡ total_count d
fits-count s d bufs h = go (eqb (length bufs) (total_count d)) refl (fits-none s d bufs h)
  where
    go : (b : Bool) → eqb (length bufs) (total_count d) ≡ b → cond b (first_of (λ t. when (not t.1) t.0) (all_tests s 0 d.parts bufs)) (Some (min (length bufs) (total_count d))) ≡ None
        → length bufs ≡ total_count d
    go true e q = eqb-true (length bufs) (total_count d) e
    go false e q = absurd (cc)

module _ (s : Shape) (d : Declaration) (bufs : List (List ℤ)) (m : List Entry) (law : IsLawfulDeclaration d) where
  number : fits s d bufs ≡ true → length bufs ≡ length (all_buffers s (parts_of s d m))
  number h = fits-count s d bufs h ∙ sym (buffers-are-counted s d m law)

  -- buffers that fit and don't differ from those of the matrix are these
  pub alike-built : fits s d bufs ≡ true → difference_of s d m bufs ≡ None → bufs ≡ buffers s d m
  alike-built h e = none-same 0 (all_buffers s (parts_of s d m)) bufs (number h ∙ omega arith) e

  pub built-alike : bufs ≡ buffers s d m → difference_of s d m bufs ≡ None
  built-alike e = same-all 0 (all_buffers s (parts_of s d m)) bufs (ap length e ∙ length-map (all_buffers s (parts_of s d m)) written ∙ omega arith) e

  pub built-small : bufs ≡ buffers s d m → size_in s d bufs ≤ limit → size s d m ≤ limit
  built-small e h = subst (λ (n : ℕ). n ≤ limit) (ap (size_in s d) e ∙ size-is-of-buffers s d m law) h

-- ---- what is checked

below : (a b : ℕ) → nat_le a b ≡ true → a ≤ b
below a b h = grind (arith, nat_tests)

test-below : (a b : ℕ) → a ≤ b → nat_le a b ≡ true
test-below a b h = grind (arith, nat_tests)

module _ (s : Shape) (d : Declaration) (bufs : List (List ℤ)) (m : List Entry) (law : IsLawfulDeclaration d) where
  alike : (n : List Entry) (o : Option Difference) → unless_different n o ≡ Ok m → (n ≡ m) × (o ≡ None)
  alike n None h = (cc, refl)
  alike n (Some e) h = absurd (cc)

  found : (r : Result (List Entry) Position) → compared s d bufs r ≡ Ok m → (r ≡ Ok m) × (difference_of s d m bufs ≡ None)
  found (Err at) h = absurd (cc)
  found (Ok n) h =
      let a = alike n (difference_of s d n bufs) h in
      (ap Ok a.0, subst (λ (x : List Entry). difference_of s d x bufs ≡ None) a.0 a.1)

  pub checked-is : checked s d bufs ≡ Ok m → AreBuffersOf s d bufs m
  checked-is h = go (misfit s d bufs) refl h
    where
      within : misfit s d bufs ≡ None → (b : Bool) → nat_le (size_in s d bufs) limit ≡ b → cond b (compared s d bufs (collected s d bufs)) (Err TooLarge) ≡ Ok m → AreBuffersOf s d bufs m
      within e false t q = absurd (cc)
      within e true t q =
          let f = found (collected s d bufs) q in
          let fit : fits s d bufs ≡ true = ap is_none e in
          record {
            means = rw (fit, f.0) refl;
            built = alike-built s d bufs m law fit f.1;
            small = below (size_in s d bufs) limit t;
          }

      go : (o : Option ℕ) → misfit s d bufs ≡ o → fitting s d bufs o ≡ Ok m → AreBuffersOf s d bufs m
      go (Some k) e q = absurd (cc)
      go None e q = within e (nat_le (size_in s d bufs) limit) refl q

  pub is-checked : AreBuffersOf s d bufs m → checked s d bufs ≡ Ok m
  is-checked a = go (fits s d bufs) refl a.means
    where
      collects : (r : Result (List Entry) Position) → entries_of r ≡ Some m → r ≡ Ok m
      collects (Ok n) h = let e : n ≡ m = cc in ap Ok e
      collects (Err at) h = absurd (cc)

      go : (b : Bool) → fits s d bufs ≡ b → cond b (entries_of (collected s d bufs)) None ≡ Some m → checked s d bufs ≡ Ok m
      go false e q = absurd (cc)
      go true e q =
          ap (fitting s d bufs) (fits-none s d bufs e)
          ∙ ap (λ b. cond b (compared s d bufs (collected s d bufs)) (Err TooLarge)) (test-below (size_in s d bufs) limit a.small)
          ∙ ap (compared s d bufs) (collects (collected s d bufs) q)
          ∙ ap (unless_different m) (built-alike s d bufs m law a.built)

-- ---- the laws

pub checks-well-formed : ChecksWellFormed
checks-well-formed s d bufs m law = (checked-is s d bufs m law, is-checked s d bufs m law)

pub checks-own : ChecksOwn
checks-own s d m law im le =
    is-checked s d (buffers s d m) m law (record {
      means = (buffers-mean-matrix s d m law im).meant (small-within s d m law im le);
      built = refl;
      small = subst (λ (n : ℕ). n ≤ limit) (sym (size-is-of-buffers s d m law)) le;
    })

pub checks-accepted : ChecksAccepted
checks-accepted s x m v e im le = checks-own s (declaration_of x) m (accepted-declaration x v e) im le

-- ---- buffers that fit

pub fits-means : (s : Shape) (d : Declaration) (bufs : List (List ℤ)) (m : List Entry) → fits s d bufs ≡ true → collected s d bufs ≡ Ok m → meaning s d bufs ≡ Some m
fits-means s d bufs m h c = rw (h, c) refl

pub fits-from : (s : Shape) (d : Declaration) (bufs : List (List ℤ)) → misfit s d bufs ≡ None → fits s d bufs ≡ true
fits-from s d bufs h = ap is_none h

pub within-from : (s : Shape) (d : Declaration) (bufs : List (List ℤ)) (b : Bool) → b ≡ nat_le (size_in s d bufs) limit → b ≡ true → size_in s d bufs ≤ limit
within-from s d bufs b e h = below (size_in s d bufs) limit (sym e ∙ h)

pub checked-misfit : (s : Shape) (d : Declaration) (bufs : List (List ℤ)) (k : ℕ) → misfit s d bufs ≡ Some k → checked s d bufs ≡ Err (Lengths k)
checked-misfit s d bufs k h = ap (fitting s d bufs) h

-- from the positions on
pub checked-fitting : (s : Shape) (d : Declaration) (bufs : List (List ℤ)) → fits s d bufs ≡ true → size_in s d bufs ≤ limit → checked s d bufs ≡ compared s d bufs (collected s d bufs)
checked-fitting s d bufs h l =
    ap (fitting s d bufs) (fits-none s d bufs h) ∙ ap (λ (t : Bool). cond t (compared s d bufs (collected s d bufs)) (Err TooLarge)) (test-below (size_in s d bufs) limit l)

-- a fault of the positions, or of the comparison, is that of the check
pub fitting-told : (s : Shape) (d : Declaration) (bufs : List (List ℤ)) (fault : Broken) → fits s d bufs ≡ true → size_in s d bufs ≤ limit
    → TellsFault (compared s d bufs (collected s d bufs)) fault → TellsFault (checked s d bufs) fault
fitting-told s d bufs fault h l t = fault-same (compared s d bufs (collected s d bufs)) (checked s d bufs) fault (checked-fitting s d bufs h l) t

-- from the comparison on
pub checked-compared : (s t : Shape) (d : Declaration) (bufs : List (List ℤ)) (m : List Entry) (o : Option Difference) → t ≡ s → fits s d bufs ≡ true → size_in s d bufs ≤ limit
    → collected s d bufs ≡ Ok m → difference_of t d m bufs ≡ o → checked s d bufs ≡ unless_different m o
checked-compared s t d bufs m o e h l c q =
    checked-fitting s d bufs h l ∙ ap (compared s d bufs) c ∙ ap (unless_different m) (ap (λ (u : Shape). difference_of u d m bufs) (sym e) ∙ q)

-- ---- the matrix whose buffers these are

module _ (s t : Shape) (d : Declaration) (bufs : List (List ℤ)) (m : List Entry) (law : IsLawfulDeclaration d) (same : t ≡ s) (h : checked s d bufs ≡ Ok m) where
  found-built : bufs ≡ buffers s d m
  found-built = (checked-is s d bufs m law h).built

  pub checked-built : bufs ≡ buffers t d m
  checked-built = found-built ∙ ap (λ (u : Shape). buffers u d m) (sym same)

  pub checked-small : size t d m ≤ limit
  checked-small = subst (λ (u : Shape). size u d m ≤ limit) (sym same) (built-small s d bufs m law found-built (checked-is s d bufs m law h).small)

-- it is held with them
pub told-held : (s : Shape) (x : Declared) (bufs : List (List ℤ)) (m : Map) (h : Kept) → h ≡ record { declared = x; matrix = m; buffers = bufs } → shape_in m ≡ s
    → checked s (declaration_of x) bufs ≡ Ok (entries_in m) → TellsChecked s x bufs (Ok h)
told-held s x bufs m h e q c = subst (λ (k : Kept). TellsChecked s x bufs (Ok k)) (sym e) (c, (refl, (q, refl)))

-- ---- what an answer says of well-formed buffers

pub told-well-formed : (s : Shape) (x : Declared) (bufs : List (List ℤ)) → IsLawfulDeclaration (declaration_of x) → (r : Result Held Broken) → TellsChecked s x bufs r
    → OnOk r (IsWellFormedWithin s (declaration_of x) bufs)
told-well-formed s x bufs law (Ok h) t =
    let a = checked-is s (declaration_of x) bufs (entries_in h.matrix) law t.0 in ((entries_in h.matrix, a.means, a.built), a.small)
told-well-formed s x bufs law (Err fault) t = tt

only-memory : (m : List Entry) (told : Result (List Entry) Broken) (fault : Broken) → told ≡ Ok m → TellsFault told fault → fault ≡ Memory
only-memory m told (Lengths buffer) e h = absurd (let q : Ok m ≡ Err (Lengths buffer) = sym e ∙ h in cc)
only-memory m told TooLarge e h = absurd (let q : Ok m ≡ Err TooLarge = sym e ∙ h in cc)
only-memory m told (Climb part x) e h = absurd (let q : Ok m ≡ Err (Climb part x) = sym e ∙ h in cc)
only-memory m told (Cell buffer x have want) e h = absurd (let q : Ok m ≡ Err (Cell buffer x have want) = sym e ∙ h in cc)
only-memory m told (Long buffer have want) e h = absurd (let q : Ok m ≡ Err (Long buffer have want) = sym e ∙ h in cc)
only-memory m told Memory e h = refl

pub told-refused : (s : Shape) (x : Declared) (bufs : List (List ℤ)) → IsLawfulDeclaration (declaration_of x) → (r : Result Held Broken) → TellsChecked s x bufs r
    → IfErr r (λ fault. IsWellFormedWithin s (declaration_of x) bufs → fault ≡ Memory)
told-refused s x bufs law (Ok h) t = tt
told-refused s x bufs law (Err fault) t =
    λ w. only-memory w.0.0 (checked s (declaration_of x) bufs) fault (is-checked s (declaration_of x) bufs w.0.0 law (record { means = w.0.1; built = w.0.2; small = w.1 })) t
