-- What reading the entries back says of the entries that are collected.
use Rattle.std.specs.Prelude.{slice_get, Ok, Err}
use Rattle.std.specs.Option.{option_map}
use Rattle.std.specs.List.{range_with_len}
use Rattle.std.proofs.Common.{get_or, ◌≡◌, ℕ, suc, ◌+◌, ◌<◌, ◌⊎◌, drop, List, [], ◌∷◌, map, length, Bool, true, false, cond, ◌&&◌, ltb, pos, negsuc, ℤ, sym, refl, ap, ◌∙◌, subst, inl, inr, arith, Option, Some, None, All, ltb-true}
use Rattle.std.proofs.lemmas.Bool.{and_parts}
use Rattle.std.proofs.lemmas.Option.{slice_get-map, slice_get_read}
use Rattle.std.proofs.Math.ListN.{length-map}
use Rattle.us_format.specs.Lists.{then_do, cell}
use Rattle.us_format.specs.Matrix.{Shape, Entry, is_zero, in_shape}
use Rattle.us_format.specs.Declaration.{Part, Declaration}
use Rattle.us_format.specs.Kinds.{levels_of}
use Rattle.us_format.specs.Climb.{climb}
use Rattle.us_format.specs.Recover.{recovered}
use Rattle.us_format.specs.Reading.{Contents, all_contents, buffer_count}
use Rattle.us_format.specs.Meaning.{Position, part_values, entry_at as read_at, all_positions, value_in, collected}
use Rattle.us_format.specs.Program.{plain_entry}
use Rattle.us_format.proofs.Order.{Mem, Mem-map, Mem-of_map}
use Rattle.us_format.proofs.Members.{contains-Mem, Mem-contains, Mem-all, Mem-either, item-Mem}
use Rattle.us_format.proofs.Lawful.{row-major}
use Rattle.us_climb.specs.declared.found.Found.{Found}
use Rattle.us_climb.specs.declared.found.ReadEntries.{ReadEntries}
use Rattle.us_climb.specs.declared.found.Position as code
use Rattle.us_climb.specs.Entries.{Read, with_entry, read_keys, entry_in, is_empty, read_all, plain_position, plain_found, plain_failed, plain_read}
use Rattle.us_check.specs.declared.broken.Broken.{Broken}
use Rattle.us_check.specs.declared.broken.Broken.TheVariants.{Climb}
use Rattle.us_check.specs.Checks.{TellsFault, compared}
use Rattle.us_check.specs.Repeats.{found_entries, IsRepeat, IsFirstRepeat, IsInOrder, IsInside}
use Rattle.us_check.proofs.Told.{fault-told}
use Rattle.us_check.proofs.Collected.{entries, put_in, ended, Meets, ArePut, collect-reads, put_in-repeat, put_in-all, one-list}

-- ---- what is read

-- each entry is read at its key, and nothing is read where it is skipped
pub reads-Mem : {K : Type 0} (skip : K → Bool) (read : K → Option Entry) (keys : List K) (x : K × Entry) → Mem x (read_keys skip read keys).found → (skip x.0 ≡ false) × (read x.0 ≡ Some x.1)
reads-Mem skip read [] x m = absurd m
reads-Mem {K} skip read (key ∷ keys) x m = go (skip key) refl (read key) refl m (reads-Mem skip read keys x)
  where
    go : (b : Bool) → skip key ≡ b → (o : Option Entry) → read key ≡ o → Mem x (cond b (read_keys skip read keys) (with_entry key o (read_keys skip read keys))).found
        → (Mem x (read_keys skip read keys).found → (skip x.0 ≡ false) × (read x.0 ≡ Some x.1)) → (skip x.0 ≡ false) × (read x.0 ≡ Some x.1)
    go true s o r k ih = ih k
    go false s None r k ih = absurd k
    go false s (Some e) r (inl q) ih = subst (λ (y : K × Entry). (skip y.0 ≡ false) × (read y.0 ≡ Some y.1)) q (s, r)
    go false s (Some e) r (inr k) ih = ih k

pub in-shape : (s : Shape) (ij : ℤ × ℤ) (v : ℤ) (e : Entry) → in_shape s ij v ≡ Some e → (e.i < s.rows) × (e.j < s.cols) × (e.v ≡ v)
in-shape s (pos i, pos j) v e h = go (ltb i s.rows && ltb j s.cols) refl h
  where
    made : Entry
    made = record { i = i; j = j; v = v }

    go : (b : Bool) → (ltb i s.rows && ltb j s.cols) ≡ b → cond b (Some made) None ≡ Some e → (e.i < s.rows) × (e.j < s.cols) × (e.v ≡ v)
    go false t q = absurd (cc)
    go true t q =
        let p = and_parts (ltb i s.rows) (ltb j s.cols) t in
        let is : made ≡ e = cc in
        subst (λ (x : Entry). (x.i < s.rows) × (x.j < s.cols) × (x.v ≡ v)) is (ltb-true i s.rows p.0, ltb-true j s.cols p.1, refl)
in-shape s (pos i, negsuc j) v e h = absurd (cc)
in-shape s (negsuc i, pos j) v e h = absurd (cc)
in-shape s (negsuc i, negsuc j) v e h = absurd (cc)

then-some : {A B : Type 0} (o : Option A) (f : A → Option B) (b : B) → then_do o f ≡ Some b → (a : A) × (o ≡ Some a) × (f a ≡ Some b)
then-some None f b h = absurd (cc)
then-some (Some a) f b h = (a, refl, h)

pub entry-inside : (s : Shape) (d : Declaration) (bufs : List (List ℤ)) (at : Position) (e : Entry) → is_empty s d bufs at ≡ false → entry_in s d bufs at ≡ Some e → IsInside s e
entry-inside s d bufs at e skip read = go (slice_get (all_contents d.parts bufs) at.0) skip read
  where
    go : (o : Option (Part × Contents)) → is_zero (value_in s o at.1) ≡ false → then_do o (λ part. read_at s part.0 part.1 at.1) ≡ Some e → IsInside s e
    go None z r = absurd (cc)
    go (Some (p, c)) z r =
        let up = then-some (climb (levels_of s c.extents p) c.cells at.1) (λ up. then_do (recovered s p (record { coords = up.1; extents = c.extents; tables = c.tables })) (λ ij. in_shape s ij (cell (part_values s p c) at.1))) e r in
        let ij = then-some (recovered s p (record { coords = up.0.1; extents = c.extents; tables = c.tables })) (λ ij. in_shape s ij (cell (part_values s p c) at.1)) e up.2 in
        let is = in-shape s ij.0 (cell (part_values s p c) at.1) e ij.2 in
        record { row = is.0; col = is.1; some = subst (λ (v : ℤ). is_zero v ≡ false) (sym is.2) z }

-- ---- keys

pub reads-keys : {K : Type 0} (skip : K → Bool) (read : K → Option Entry) (keys : List K) (x : K × Entry) → Mem x (read_keys skip read keys).found → Mem x.0 keys
reads-keys skip read [] x m = absurd m
reads-keys {K} skip read (key ∷ keys) x m = go (skip key) (read key) m (reads-keys skip read keys x)
  where
    go : (b : Bool) (o : Option Entry) → Mem x (cond b (read_keys skip read keys) (with_entry key o (read_keys skip read keys))).found → (Mem x (read_keys skip read keys).found → Mem x.0 keys) → Mem x.0 (key ∷ keys)
    go true o k ih = inr (ih k)
    go false None k ih = absurd k
    go false (Some e) (inl q) ih = inl (ap (λ (y : K × Entry). y.0) q)
    go false (Some e) (inr k) ih = inr (ih k)

pub failed-Mem : {K : Type 0} (skip : K → Bool) (read : K → Option Entry) (keys : List K) (k : K) → (read_keys skip read keys).failed ≡ Some k → Mem k keys
failed-Mem skip read [] k h = absurd (cc)
failed-Mem {K} skip read (key ∷ keys) k h = go (skip key) (read key) h (failed-Mem skip read keys k)
  where
    go : (b : Bool) (o : Option Entry) → (cond b (read_keys skip read keys) (with_entry key o (read_keys skip read keys))).failed ≡ Some k → ((read_keys skip read keys).failed ≡ Some k → Mem k keys) → Mem k (key ∷ keys)
    go true o q ih = inr (ih q)
    go false None q ih = inl (cc)
    go false (Some e) q ih = inr (ih q)

positions-below : (s : Shape) (k : ℕ) (xs : List (Part × Contents)) (at : Position) → Mem at (all_positions s k xs) → at.0 < k + length xs
positions-below s k [] at m = absurd m
positions-below s k (x ∷ xs) at m = go (Mem-either at (map (λ y. (k, y)) (range_with_len 0 (length (part_values s x.0 x.1)))) (all_positions s (suc k) xs) m) (positions-below s (suc k) xs at)
  where
    go : (Mem at (map (λ y. (k, y)) (range_with_len 0 (length (part_values s x.0 x.1)))) ⊎ Mem at (all_positions s (suc k) xs)) → (Mem at (all_positions s (suc k) xs) → at.0 < suc k + length xs) → at.0 < k + length (x ∷ xs)
    go (inl n) ih = let t = Mem-of_map (λ y. (k, y)) at (range_with_len 0 (length (part_values s x.0 x.1))) n in omega (arith, ap (λ (z : Position). z.0) t.2)
    go (inr n) ih = omega (arith, ih n)

contents-count : (ps : List Part) (bufs : List (List ℤ)) → length (all_contents ps bufs) ≡ length ps
contents-count [] bufs = refl
contents-count (p ∷ ps) bufs = let e : length (all_contents ps (drop (buffer_count p) bufs)) ≡ length ps = contents-count ps (drop (buffer_count p) bufs) in omega (arith, e)

-- a position's part is one of the parts
pub keys-below : (s : Shape) (d : Declaration) (bufs : List (List ℤ)) (at : Position) → Mem at (all_positions s 0 (all_contents d.parts bufs)) → at.0 < length d.parts
keys-below s d bufs at m = omega (arith, positions-below s 0 (all_contents d.parts bufs) at m, contents-count d.parts bufs)

-- ---- what the program read

module _ (s : Shape) (d : Declaration) (bufs : List (List ℤ)) (r : ReadEntries) (are : plain_read r ≡ read_all s d bufs) where
  abbrev pub keys : List Position
  keys = all_positions s 0 (all_contents d.parts bufs)

  abbrev pub es : List Entry
  es = found_entries r.found.items

  abbrev pub rs : List (Position × Entry)
  rs = map plain_found r.found.items

  pub entries-same : (fs : List Found) → entries (map plain_found fs) ≡ found_entries fs
  entries-same [] = refl
  entries-same (f ∷ fs) = ap (λ (l : List Entry). plain_entry f.triple ∷ l) (entries-same fs)

  pub collected-put : collected s d bufs ≡ put_in rs (plain_failed r.failed) []
  collected-put =
      collect-reads (is_empty s d bufs) (entry_in s d bufs) keys []
      ∙ ap (λ (q : Read Position). put_in q.found q.failed []) (sym are)

  -- each entry lies in the shape and is not 0
  pub all-inside : All (λ (f : Found). IsInside s (plain_entry f.triple)) r.found.items
  all-inside = Mem-all (λ (f : Found). IsInside s (plain_entry f.triple)) r.found.items inside
    where
      inside : (f : Found) → Mem f r.found.items → IsInside s (plain_entry f.triple)
      inside f m =
          let there : Mem (plain_found f) ((read_keys (is_empty s d bufs) (entry_in s d bufs) keys).found) = subst (λ (l : List (Position × Entry)). Mem (plain_found f) l) (ap (λ (q : Read Position). q.found) are) (Mem-map plain_found f r.found.items m) in
          let is = reads-Mem (is_empty s d bufs) (entry_in s d bufs) keys (plain_found f) there in
          entry-inside s d bufs (plain_position f.position) (plain_entry f.triple) is.0 is.1

  meets-repeat : (m : ℕ) → Meets [] (entries rs) m → IsRepeat es m
  meets-repeat m (inl (y, k, t)) = absurd k
  meets-repeat m (inr h) = subst (λ (l : List Entry). IsRepeat l m) (entries-same r.found.items) h

  -- a repeated coordinate is where it fails
  pub fails-repeat : (n : ℕ) (f : Found) → slice_get r.found.items n ≡ Some f → IsFirstRepeat es (Some n) → collected s d bufs ≡ Err (plain_position f.position)
  fails-repeat n f at h =
      let there : slice_get rs n ≡ Some (plain_found f) = slice_get-map plain_found r.found.items n ∙ ap (option_map plain_found) at in
      collected-put
      ∙ put_in-repeat rs (plain_failed r.failed) [] tt n (plain_found f) there
      (inr (subst (λ (l : List Entry). IsRepeat l n) (sym (entries-same r.found.items)) h.1))
      (λ m l k. h.2 m l (meets-repeat m k))

  all-put : IsFirstRepeat es None → (zs : List Entry) × ArePut rs (plain_failed r.failed) [] zs
  all-put h = put_in-all rs (plain_failed r.failed) [] tt (λ m l k. h m (subst (λ (x : List Entry). m < length x) (entries-same r.found.items) l) (meets-repeat m k))

  -- else it fails where no entry can be read
  pub fails-unread : (at : code.Position) → r.failed ≡ Some at → IsFirstRepeat es None → collected s d bufs ≡ Err (plain_position at)
  fails-unread at f h = let p = all-put h in collected-put ∙ p.1.is ∙ ap (λ (o : Option code.Position). ended (plain_failed o) p.0) f

  -- else the entries in row-major order are collected
  pub collects : (m : List Entry) → r.failed ≡ None → IsFirstRepeat es None → IsInOrder es m → collected s d bufs ≡ Ok m
  collects m f h o =
      let p = all-put h in
      collected-put ∙ p.1.is ∙ ap (λ (x : Option code.Position). ended (plain_failed x) p.0) f
      ∙ ap Ok (one-list p.0 m p.1.sorted (row-major m o.rising) (λ e k. on e (p.1.from e k)) (λ e k. p.1.there e (inl (back e k))))
    where
      on : (e : Entry) → (Mem e (entries rs) ⊎ Mem e []) → Mem e m
      on e (inl k) = contains-Mem m e ((o.same e).1 (Mem-contains es e (subst (λ (l : List Entry). Mem e l) (entries-same r.found.items) k)))
      on e (inr k) = absurd k

      back : (e : Entry) → Mem e m → Mem e (entries rs)
      back e k = subst (λ (l : List Entry). Mem e l) (sym (entries-same r.found.items)) (contains-Mem es e ((o.same e).0 (Mem-contains m e k)))

  -- ---- numbers of parts

  pub failed-there : (at : code.Position) → r.failed ≡ Some at → at.part < length d.parts
  failed-there at f =
      keys-below s d bufs (plain_position at)
      (failed-Mem (is_empty s d bufs) (entry_in s d bufs) keys (plain_position at) (sym (ap (λ (q : Read Position). q.failed) are) ∙ ap plain_failed f))

  pub found-there : (n : ℕ) (f : Found) → slice_get r.found.items n ≡ Some f → f.position.part < length d.parts
  found-there n f at =
      let there : Mem (plain_found f) ((read_keys (is_empty s d bufs) (entry_in s d bufs) keys).found) = subst (λ (l : List (Position × Entry)). Mem (plain_found f) l) (ap (λ (q : Read Position). q.found) are) (Mem-map plain_found f r.found.items (item-Mem r.found.items n f at)) in
      keys-below s d bufs (plain_position f.position) (reads-keys (is_empty s d bufs) (entry_in s d bufs) keys (plain_found f) there)

  -- ---- as the program looks at it

  pub first-is : (fs : List Found) (o x : Option ℕ) → fs ≡ r.found.items → IsFirstRepeat (found_entries fs) o → o ≡ x → IsFirstRepeat es x
  first-is fs o x e h q = subst (λ (y : Option ℕ). IsFirstRepeat es y) q (subst (λ (l : List Found). IsFirstRepeat (found_entries l) o) e h)

  -- the entry whose coordinate is the first to come twice
  repeat-there : (n : ℕ) (f : Found) → IsFirstRepeat es (Some n) → f ≡ get_or r.found.items n f → slice_get r.found.items n ≡ Some f
  repeat-there n f h e = slice_get_read r.found.items (length r.found.items) n f refl (omega (arith, h.0, length-map r.found.items (λ (g : Found). plain_entry g.triple))) e

  pub repeat-below : (n : ℕ) (f : Found) → IsFirstRepeat es (Some n) → f ≡ get_or r.found.items n f → f.position.part < length d.parts
  repeat-below n f h e = found-there n f (repeat-there n f h e)

  climb-told : (at : code.Position) (fault : Broken) → collected s d bufs ≡ Err (plain_position at) → fault ≡ Climb (at.part + 1) at.x → TellsFault (compared s d bufs (collected s d bufs)) fault
  climb-told at fault h e = fault-told (compared s d bufs (collected s d bufs)) fault (ap (compared s d bufs) h ∙ ap (λ (n : ℕ). Err (Climb n at.x)) (omega arith) ∙ ap Err (sym e))

  pub repeat-told : (n : ℕ) (f : Found) (fault : Broken) → IsFirstRepeat es (Some n) → f ≡ get_or r.found.items n f → fault ≡ Climb (f.position.part + 1) f.position.x
      → TellsFault (compared s d bufs (collected s d bufs)) fault
  repeat-told n f fault h e q = climb-told f.position fault (fails-repeat n f (repeat-there n f h e) h) q

  pub unread-told : (at : code.Position) (fault : Broken) → r.failed ≡ Some at → IsFirstRepeat es None → fault ≡ Climb (at.part + 1) at.x → TellsFault (compared s d bufs (collected s d bufs)) fault
  unread-told at fault f h q = climb-told at fault (fails-unread at f h) q
