-- The way of a matrix from format to format, hop by hop.
use Rattle.std.proofs.Common.{◌≡◌, ℕ, ◌+◌, ◌<◌, ◌≤◌, Bool, true, false, cond, nat_le, List, [], ◌∷◌, ◌++◌, length, map, take, drop, get_or, Result, Ok, Err, refl, sym, ap, ap₂, ◌∙◌, subst}
use Rattle.std.proofs.lemmas.List.{map-append, flat_map_more, take_all, take_more}
use Rattle.us_matrix.specs.Map.{Map}
use Rattle.us_format.specs.Reading.{limit}
use Rattle.us_format.specs.Program.{shape_in, entries_in}
use Rattle.us_code.specs.Plain.{program_tree}
use Rattle.us_decl.specs.Declares.{Declared}
use Rattle.us_check.specs.declared.held.Held.{Held}
use Rattle.us_check.specs.Held.{IsHeld}
use Rattle.us_container.specs.Contained.{Contained}
use Rattle.us_hop.specs.Hops.{IsRunOf}
use Rattle.us_hop.specs.declared.hopping.Hopped.{Hopped}
use Rattle.us_unit.specs.Units.{PlainUnit}
use Rattle.us_unit.specs.Listing.{IsListing}
use Rattle.us_status.specs.declared.status.Status.{Status}
use Rattle.us_status.specs.declared.status.Status.TheVariants.{TooLarge, Memory, ReadFault}
use Rattle.us_inputs.specs.Steps.{size_on, within_limit}
use Rattle.us_inputs.specs.Sources.{buffers_on, kept_in}
use Rattle.us_journeys.specs.Hops.{AreHops, Hop, IsHop, held_after, hop_line, line_of, units_of}
use Rattle.us_journeys.specs.Journeys.{GoesOn, IsAlong, IsHopped, IsInLast, ListsMore}
use Rattle.us_status.specs.Answers.{IsStep}
use Rattle.us_inputs.specs.Views.{contained_of}
use Rattle.us_journeys.proofs.ConversionLemmas.{at_hop, fits, is_above}

abbrev target_of : Hop → Declared
target_of h = h.unit.target

abbrev unit_of : Hop → PlainUnit
unit_of h = h.unit

after_more : (m : Map) (from : Contained) (hs : List Hop) (h : Hop) → held_after m from (hs ++ (h ∷ [])) ≡ kept_in m h.unit.target
after_more m from [] h = refl
after_more m from (x ∷ hs) h = after_more m (kept_in m x.unit.target) hs h

hops_more : (m : Map) (from : Contained) (hs : List Hop) (h : Hop) → AreHops m from hs → IsHop m (held_after m from hs) h → AreHops m from (hs ++ (h ∷ []))
hops_more m from [] h a k = (k, tt)
hops_more m from (x ∷ hs) h a k = (a.0, hops_more m (kept_in m x.unit.target) hs h a.1 k)

-- what a hop gives, with the buffers of the target on the matrix
pub goes_on : (listed : Bool) (d : Declared) (old : Held) (h : Hopped) (lines lines' listing listing' : List ℕ) → IsHopped old d h → IsHeld h.held → lines' ≡ lines ++ line_of d.name h.size h.steps
    → ListsMore listed (record { target = d; program = program_tree h.code }) listing listing' → GoesOn listed d old h.held lines lines' listing listing'
goes_on listed d old h lines lines' listing listing' k held told lists =
    let built : h.held.buffers ≡ buffers_on old.matrix d = held.built ∙ ap (λ m. buffers_on m h.held.declared) k.matrix ∙ ap (buffers_on old.matrix) k.format in
    record {
      hop = record { unit = record { target = d; program = program_tree h.code }; steps = h.steps };
      target = refl;
      is = record { right = k.right; unsorted = k.unsorted; run = subst (λ bufs. IsRunOf (program_tree h.code) old.buffers bufs h.steps) built k.run };
      here =
          ap (λ bufs. record { declared = h.held.declared; shape = shape_in h.held.matrix; buffers = bufs; entries = entries_in h.held.matrix }) held.built
          ∙ ap (λ m. kept_in m h.held.declared) k.matrix ∙ ap (kept_in old.matrix) k.format;
      matrix = k.matrix;
      small = k.small;
      told = told ∙ ap (λ n. lines ++ line_of d.name n h.steps) k.size;
      lists = lists;
    }

-- the first i hops are done
pub record Going (m : Map) (from : Contained) (listed : Bool) (ds : List Declared) (i : ℕ) (now : Held) (lines listing : List ℕ) : Type 0 where
  pub along : IsAlong m from listed (take i ds) now lines listing
  pub within : within_limit m 1 ds ≡ within_limit m (i + 1) (drop i ds)

pub going_none : (listed : Bool) (ds : List Declared) (now : Held) (lines listing : List ℕ) → lines ≡ [] → listing ≡ [] → Going now.matrix (contained_of now) listed ds 0 now lines listing
going_none listed ds now lines listing e f = record {
  along = record { hops = []; targets = refl; are = tt; here = refl; matrix = refl; told = e; lists = λ _. record { text = f; units = tt } };
  within = refl;
}

along_more : (m : Map) (from : Contained) (listed : Bool) (ds : List Declared) (d : Declared) (old new : Held) (lines lines' listing listing' : List ℕ)
    → GoesOn listed d old new lines lines' listing listing' → IsAlong m from listed ds old lines listing → IsAlong m from listed (ds ++ (d ∷ [])) new lines' listing'
along_more m from listed ds d old new lines lines' listing listing' g a =
    let hop : IsHop m (held_after m from a.hops) g.hop = subst (λ c. IsHop m c g.hop) a.here (subst (λ m. IsHop m (contained_of old) g.hop) a.matrix g.is) in
    record {
      hops = a.hops ++ (g.hop ∷ []);
      targets = map-append target_of a.hops (g.hop ∷ []) ∙ ap₂ (λ (xs : List Declared) (x : Declared). xs ++ (x ∷ [])) a.targets g.target;
      are = hops_more m from a.hops g.hop a.are hop;
      here = g.here ∙ ap₂ kept_in a.matrix (sym g.target) ∙ sym (after_more m from a.hops g.hop);
      matrix = g.matrix ∙ a.matrix;
      told =
          g.told ∙ ap₂ (λ (xs : List ℕ) (m : Map). xs ++ hop_line m g.hop) a.told a.matrix ∙ flat_map_more (hop_line m) [] a.hops g.hop;
      lists = λ t. subst (λ us. IsListing us listing') (sym (map-append unit_of a.hops (g.hop ∷ []))) (g.lists t (units_of a.hops) (a.lists t));
    }

pub going_more : (m : Map) (from : Contained) (listed : Bool) (ds : List Declared) (i : ℕ) (d : Declared) (old new : Held) (lines lines' listing listing' : List ℕ) → i < length ds → d ≡ get_or ds i d
    → GoesOn listed d old new lines lines' listing listing' → Going m from listed ds i old lines listing → Going m from listed ds (i + 1) new lines' listing'
going_more m from listed ds i d old new lines lines' listing listing' lt at g h =
    let next : take (i + 1) ds ≡ take i ds ++ (d ∷ []) = take_more ds i d lt ∙ ap (λ x. take i ds ++ (x ∷ [])) (sym at) in
    let small : size_on m d ≤ limit = subst (λ m. size_on m d ≤ limit) h.along.matrix g.small in
    record {
      along =
          subst (λ ds. IsAlong m from listed ds new lines' listing') (sym next)
          (along_more m from listed (take i ds) d old new lines lines' listing listing' g h.along);
      within = h.within ∙ at_hop m ds i d true lt at (fits (size_on m d) small);
    }

-- a hop that ends it
one_ends : (b : Bool) (rest : Result (Unit {0}) Status) (k : ℕ) (s : Status) → IsStep {A = Unit {0}} (cond b (Ok tt) (Err (TooLarge k))) (Err s) → IsStep {A = Unit {0}} (cond b rest (Err (TooLarge k))) (Err s)
one_ends b rest k Memory h = tt
one_ends b rest k (ReadFault slot) h = tt
one_ends true rest k s h = cc
one_ends false rest k s h = h

-- a format above the limit
pub too_large_at : (m : Map) (k : ℕ) (d : Declared) → limit < size_on m d → within_limit m k (d ∷ []) ≡ Err (TooLarge k)
too_large_at m k d h = ap (λ b. cond b (Ok tt) (Err (TooLarge k))) (is_above (size_on m d) h)

pub going_ends : (m : Map) (from : Contained) (listed : Bool) (ds : List Declared) (i : ℕ) (d : Declared) (old : Held) (lines listing : List ℕ) (s : Status) → i < length ds → d ≡ get_or ds i d
    → IsStep {A = Unit {0}} (within_limit old.matrix (i + 1) (d ∷ [])) (Err s) → Going m from listed ds i old lines listing → IsStep {A = Unit {0}} (within_limit m 1 ds) (Err s)
going_ends m from listed ds i d old lines listing s lt at e h =
    subst (λ r. IsStep {A = Unit {0}} r (Err s)) (sym (h.within ∙ at_hop m ds i d (nat_le (size_on m d) limit) lt at refl))
    (one_ends (nat_le (size_on m d) limit) (within_limit m (i + 1 + 1) (drop (i + 1) ds)) (i + 1) s
    (subst (λ m. IsStep {A = Unit {0}} (within_limit m (i + 1) (d ∷ [])) (Err s)) h.along.matrix e))

pub all_along : (m : Map) (from : Contained) (listed : Bool) (ds : List Declared) (i : ℕ) (now : Held) (lines listing : List ℕ) → length ds ≤ i → Going m from listed ds i now lines listing
    → IsAlong m from listed ds now lines listing
all_along m from listed ds i now lines listing le h = subst (λ ds. IsAlong m from listed ds now lines listing) (take_all i ds le) h.along

in_last_by : (m : Map) (from : Contained) (hs : List Hop) (now : Held) → contained_of now ≡ held_after m from hs → now.matrix ≡ m → IsInLast m (map target_of hs) now
in_last_by m from [] now e k = k
in_last_by m from (h ∷ []) now e k = (k, e)
in_last_by m from (h ∷ g ∷ hs) now e k = in_last_by m (kept_in m h.unit.target) (g ∷ hs) now e k

pub in_last : (m : Map) (from : Contained) (listed : Bool) (ds : List Declared) (now : Held) (lines listing : List ℕ) → IsAlong m from listed ds now lines listing → IsInLast now.matrix ds now
in_last m from listed ds now lines listing a =
    subst (λ m. IsInLast m ds now) (sym a.matrix) (subst (λ ds. IsInLast m ds now) a.targets (in_last_by m from a.hops now a.here a.matrix))
