-- What a product has made, step by step.
use Rattle.std.proofs.Common.{◌≡◌, ◌≢◌, ℕ, ◌+◌, ◌*◌, ◌<◌, ◌≤◌, ◌++◌, ℤ, cond, nat_le, Bool, true, false, List, [], ◌∷◌, All, FitsSigned, length, Option, Result, Ok, Err, IfErr, IfOk, OnOk, refl, sym, ap, ap₂, ◌∙◌, subst, arith}
use Rattle.std.specs.Int.{w64}
use Rattle.std.proofs.lemmas.Bool.Decides.{nat_tests}
use Rattle.std.proofs.lemmas.List.Elements.{All-head, All-tail}
use Rattle.us_matrix.specs.Map.{Map, IsMatrix, IsSide}
use Rattle.us_matrix.specs.Grid.{Grid}
use Rattle.us_mm.specs.Laws.{AreCells, IsGrid}
use Rattle.us_mm.specs.Text.{array_text}
use Rattle.us_format.specs.Matrix.{Shape}
use Rattle.us_decl.specs.Declares.{Declared}
use Rattle.us_code.specs.Plain.{program_tree}
use Rattle.us_check.specs.declared.held.Held.{Held}
use Rattle.us_container.specs.Contained.{Contained}
use Rattle.us_dense_unit.specs.Dense.{DenseUnit}
use Rattle.us_dense_unit.specs.Listing.{IsDenseListing}
use Rattle.us_multiply.specs.Causes.{Explains}
use Rattle.us_multiply.specs.declared.fault.KernelFault.{KernelFault}
use Rattle.us_multiply.specs.declared.fault.KernelFault.TheVariants as fault
use Rattle.us_multiply.specs.declared.multiplying.KernelRun.{KernelRun}
use Rattle.us_status.specs.declared.status.Status.{Status}
use Rattle.us_status.specs.declared.status.Status.TheVariants.{Memory, ReadFault, TooLarge}
use Rattle.us_status.specs.Answers.{IsInnerRefusal, IsStep, then_step}
use Rattle.us_status.proofs.AnswerLemmas.{first_ends}
use Rattle.us_inputs.specs.Sources.{held_as, held_step}
use Rattle.us_inputs.specs.Steps.{Input, map_of, within_limit}
use Rattle.us_inputs.specs.Views.{contained_of}
use Rattle.us_inputs.proofs.HeldLemmas.{not_held}
use Rattle.us_inputs.proofs.InputLemmas.{same_step}
use Rattle.us_journeys.specs.Hops.{held_after, line_of, units_of}
use Rattle.us_journeys.specs.Journeys.{IsAlong}
use Rattle.us_products.specs.declared.multiplying.Multiplied.{Multiplied}
use Rattle.us_products.specs.Factors.{Factors, few_cells, fit_step, product_step, sides_step, sizes_step}
use Rattle.us_products.specs.Multiplying.{EndsAt, IsKernelRun, IsMultipliedBy, ListsKernel, unit_of_run}
use Rattle.us_products.specs.Products.{IsKernelOn, Kernel, grid_of, product_line, product_word, unit_of}
use Rattle.us_products.specs.Views.{IsMadeOf, IsMultiplied}
use Rattle.us_products.proofs.SumLemmas.{dense_is_products}

-- ---- the text

are_cells : (vs : List ℤ) → All (FitsSigned w64) vs → AreCells vs
are_cells [] h = tt
are_cells (v ∷ vs) h = (All-head (FitsSigned w64) v vs h, are_cells vs (All-tail (FitsSigned w64) v vs h))

pub grid_is : (d : Grid) → IsSide d.rows → IsSide d.cols → d.rows * d.cols ≤ 33554432 → length d.cells ≡ d.rows * d.cols → All (FitsSigned w64) d.cells → IsGrid d
grid_is d rows cols few count cells = record { rows = rows; cols = cols; size = few; count = count; cells = are_cells d.cells cells }

pub if_grid : {A E : Type 0} (r : Result A E) (d : Grid) → IsGrid d → IfOk r (λ _. IsGrid d)
if_grid (Ok x) d h = h
if_grid (Err e) d h = tt

-- ---- sizes

within : (n cells : ℕ) → cells ≤ 33554432 → nat_le cells 33554432 ≡ true
within n cells h = grind (arith, nat_tests)

above : (n cells : ℕ) → 33554432 < cells → nat_le cells 33554432 ≡ false
above n cells h = grind (arith, nat_tests)

pub cells_within : (n cells : ℕ) → cells ≤ 33554432 → few_cells n cells ≡ Ok tt
cells_within n cells h = ap (λ b. cond b (Ok tt) (Err (TooLarge (n + 1)))) (within n cells h)

pub cells_above : (n cells : ℕ) → 33554432 < cells → few_cells n cells ≡ Err (TooLarge (n + 1))
cells_above n cells h = ap (λ b. cond b (Ok tt) (Err (TooLarge (n + 1)))) (above n cells h)

pub sizes_within : (m : Map) (ds : List Declared) (x : Grid) (now : Map) (n : ℕ) → within_limit m 1 ds ≡ Ok tt → now ≡ m → n ≡ length ds → few_cells n (now.rows * x.cols) ≡ Ok tt
    → sizes_step m ds x ≡ Ok tt
sizes_within m ds x now n w e f h =
    ap (λ r. then_step r (λ _. few_cells (length ds) (m.rows * x.cols))) w ∙ subst (λ n. few_cells n (m.rows * x.cols) ≡ Ok tt) f (subst (λ (k : Map). few_cells n (k.rows * x.cols) ≡ Ok tt) e h)

pub sizes_end : (m : Map) (ds : List Declared) (x : Grid) (status : Status) → IsStep {A = Unit {0}} (within_limit m 1 ds) (Err status) → IsStep {A = Unit {0}} (sizes_step m ds x) (Err status)
sizes_end m ds x status h = first_ends (within_limit m 1 ds) (λ _. few_cells (length ds) (m.rows * x.cols)) status h

pub cells_end : (m : Map) (ds : List Declared) (x : Grid) (now : Map) (n : ℕ) (status : Status) → within_limit m 1 ds ≡ Ok tt → now ≡ m → n ≡ length ds
    → IsStep {A = Unit {0}} (few_cells n (now.rows * x.cols)) (Err status) → IsStep {A = Unit {0}} (sizes_step m ds x) (Err status)
cells_end m ds x now n status w e f h =
    subst (λ r. IsStep {A = Unit {0}} r (Err status)) (sym (ap (λ r. then_step r (λ _. few_cells (length ds) (m.rows * x.cols))) w))
    (subst (λ n. IsStep {A = Unit {0}} (few_cells n (m.rows * x.cols)) (Err status)) f (subst (λ (k : Map). IsStep {A = Unit {0}} (few_cells n (k.rows * x.cols)) (Err status)) e h))

-- ---- the sides in front

pub behind_sides : (vector : Bool) (m : Map) (cols : ℕ) (ds : List Declared) (x : Grid) → cols ≡ m.cols → sides_step vector cols x ≡ Ok tt → product_step vector m ds x ≡ sizes_step m ds x
behind_sides vector m cols ds x e h =
    ap (λ r. then_step r (λ _. sizes_step m ds x)) (subst (λ n. sides_step vector n x ≡ Ok tt) e h)

pub sides_end : (vector : Bool) (m : Map) (cols : ℕ) (ds : List Declared) (x : Grid) (status : Status) → cols ≡ m.cols → sides_step vector cols x ≡ Err status
    → IsStep {A = Unit {0}} (product_step vector m ds x) (Err status)
sides_end vector m cols ds x status e h =
    first_ends (sides_step vector m.cols x) (λ _. sizes_step m ds x) status (same_step (sides_step vector m.cols x) (Err status) (subst (λ n. sides_step vector n x ≡ Err status) e h))

-- ---- a run

abbrev kernel_of : KernelRun → Kernel
kernel_of r = record { program = program_tree r.code; cells = r.dense.cells; steps = r.steps }

abbrev grid_with : ℕ → ℕ → List ℤ → Grid
grid_with rows cols cells = record { rows = rows; cols = cols; cells = cells }

same_grid : (h : Held) (x : Grid) (r : KernelRun) → IsKernelRun h x r → r.dense ≡ grid_of h.matrix x r.dense.cells
same_grid h x r k = ap₂ (λ rows cols. grid_with rows cols r.dense.cells) k.rows k.cols

same_unit : (h : Held) (x : Grid) (r : KernelRun) → IsKernelRun h x r → unit_of_run r ≡ unit_of h.matrix x (kernel_of r)
same_unit h x r k = ap₂ (λ rows cols. record { rows = rows; cols = cols; program = program_tree r.code }) k.rows k.cols

pub finished_is : (vector listed : Bool) (h : Held) (x : Grid) (r : KernelRun) (lines listing lines' listing' : List ℕ) {E : Type 0} (res : Result Multiplied E) → IsMatrix h.matrix → IsKernelRun h x r
    → lines' ≡ lines ++ line_of (product_word vector) (length r.dense.cells) r.steps → ListsKernel listed (unit_of_run r) listing listing'
    → IfOk res (λ made. made.bytes.items ≡ array_text r.dense) → IfOk res (λ made. IsGrid r.dense) → IfOk res (λ made. made.lines.items ≡ lines')
    → IfOk res (λ made. made.listing.items ≡ listing') → IfOk res (IsMultipliedBy vector listed h.matrix (contained_of h) x lines listing)
finished_is vector listed h x r lines listing lines' listing' (Ok made) is k told lists bytes grid lines_is listing_is = record {
  kernel = kernel_of r;
  multiplies = record { right = k.right; run = k.run; products = dense_is_products h.matrix x r.dense.cells is k.dense };
  bytes = bytes ∙ ap array_text (same_grid h x r k);
  grid = subst IsGrid (same_grid h x r k) grid;
  told = lines_is ∙ told ∙ ap (λ n. lines ++ line_of (product_word vector) n r.steps) k.dense.long;
  lists = λ t us l.
      subst (λ bytes. IsDenseListing us (unit_of h.matrix x (kernel_of r)) bytes) (sym listing_is)
      (subst (λ (u : DenseUnit). IsDenseListing us u listing') (same_unit h x r k) (lists t us l));
}
finished_is vector listed h x r lines listing lines' listing' (Err e) is k told lists bytes grid lines_is listing_is = tt

-- ---- behind the hops

pub along_is : (vector listed : Bool) (m : Map) (from : Contained) (ds : List Declared) (now : Held) (lines listing : List ℕ) (x : Grid) {E : Type 0} (res : Result Multiplied E)
    → IsAlong m from listed ds now lines listing → IfOk res (IsMultipliedBy vector listed now.matrix (contained_of now) x lines listing)
    → IfOk res (IsMultiplied vector m from listed ds x)
along_is vector listed m from ds now lines listing x (Ok made) a h =
    let k = subst (λ m. IsMultipliedBy vector listed m (held_after m from a.hops) x lines listing made) a.matrix
    (subst (λ c. IsMultipliedBy vector listed now.matrix c x lines listing made) (a.here ∙ ap (λ m. held_after m from a.hops) (sym a.matrix)) h) in
    record {
      hops = a.hops;
      targets = a.targets;
      are = a.are;
      kernel = k.kernel;
      multiplies = k.multiplies;
      bytes = k.bytes;
      grid = k.grid;
      lines = k.told ∙ ap (λ l. l ++ product_line vector m x k.kernel.steps) a.told;
      lists = λ t. k.lists t (units_of a.hops) (a.lists t);
    }
along_is vector listed m from ds now lines listing x (Err e) a h = tt

-- ---- of an input

pub made_of_held : (vector listed : Bool) (ds : List Declared) (i : Input) (x : Grid) (m : Map) (from : Contained) (made : Multiplied) → m ≡ map_of i → from ≡ held_as i
    → IsMultiplied vector m from listed ds x made → IsMadeOf vector listed (record { formats = ds; input = i; operand = x }) made
made_of_held vector listed ds i x m from made e f h =
    let k = subst (λ m. IsMultiplied vector m (held_as i) listed ds x made) e (subst (λ c. IsMultiplied vector m c listed ds x made) f h) in
    record {
      hops = k.hops;
      leads = record { targets = k.targets; hops = k.are };
      kernel = k.kernel;
      multiplies = k.multiplies;
      bytes = k.bytes;
      grid = k.grid;
      lines = k.lines;
      lists = k.lists;
    }

pub held_ends : (vector : Bool) (ds : List Declared) (i : Input) (x : Grid) (m : Map) (status : Status) → m ≡ map_of i → IsStep {A = Unit {0}} (product_step vector m ds x) (Err status)
    → EndsAt vector ds i x status
held_ends vector ds i x m status e h held =
    first_ends (product_step vector (map_of i) ds x) (λ _. Ok (record { formats = ds; input = i; operand = x })) status
    (subst (λ m. IsStep {A = Unit {0}} (product_step vector m ds x) (Err status)) e h)

pub not_held_ends : (vector : Bool) (ds : List Declared) (i : Input) (x : Grid) (status : Status) → IsStep {A = Contained} (held_step i) (Err status) → EndsAt vector ds i x status
not_held_ends vector ds i x status h held =
    first_ends (product_step vector (map_of i) ds x) (λ _. Ok (record { formats = ds; input = i; operand = x })) status
    (not_held i status (product_step vector (map_of i) ds x) h held)

-- ---- answers of a kernel

pub on_any : {A E : Type 0} (r : Result A E) (P : Type 0) → P → OnOk r P
on_any (Ok x) P h = h
on_any (Err e) P h = tt

pub too_large : (A : Type 0) (f : KernelFault) (s : Shape) (x : Grid) → f ≡ fault.TooLarge → Explains {A = A} (Err f) s x → 33554432 < s.rows * x.cols
too_large A f s x e h = (subst (λ f. Explains {A = A} (Err f) s x) e h).1

pub memory_ends : (plain : Result (Unit {0}) Status) (status : Status) → status ≡ Memory → IsStep {A = Unit {0}} plain (Err status)
memory_ends plain status e = subst (λ s. IsStep {A = Unit {0}} plain (Err s)) (sym e) tt

pub memory_refuses : (status : Status) → status ≡ Memory → IsInnerRefusal status
memory_refuses status e = subst IsInnerRefusal (sym e) tt
