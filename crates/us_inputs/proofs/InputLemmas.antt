-- Reading the input or the library in a file.
use Rattle.std.proofs.Common.{◌≡◌, ℕ, ◌+◌, ◌-◌, ◌<◌, ◌≤◌, ◌&&◌, nat_lt, Bool, true, false, cond, List, [], ◌∷◌, length, map, get_or, All, Ok, Err, Result, None, refl, sym, ap, ◌∙◌, subst, inl, inr, arith}
use Rattle.std.proofs.lemmas.Bool.{cases_lt, false≢true}
use Rattle.std.proofs.lemmas.Bool.Decides.{nat_tests, same_from_decides}
use Rattle.std.specs.Str.{bytes_eq}
use Rattle.std.proofs.lemmas.Slice.Eq.{bytes_eq-Decides}
use Rattle.std.proofs.lemmas.List.{get_or_append_left, get_or_at, get_or-map, length-map, length-append}
use Rattle.us_matrix.specs.Map.{Map}
use Rattle.us_mm.specs.declared.fault.MmFault.{MmFault}
use Rattle.us_mm.specs.declared.fault.MmFault.TheVariants as mm
use Rattle.us_mm.specs.Reads.{matrix_in}
use Rattle.us_mm.specs.Views.{IsFaultOf}
use Rattle.us_decl.specs.declared.library.Library.{Library}
use Rattle.us_parse.specs.declared.parsed.DeclFault.{DeclFault}
use Rattle.us_parse.specs.declared.parsed.DeclFault.TheVariants as decl
use Rattle.us_decl.specs.Grammar.{Run, Empty, Then, Whole}
use Rattle.us_decl.specs.Grammar as grammar
use Rattle.us_decl.specs.Limits.{fits_decl, all_run}
use Rattle.us_decl.specs.Declares.{Declared, declared, run_items, IsValid}
use Rattle.us_parse.specs.Parses.{ParsesLibrary}
use Rattle.us_decl.specs.Views.{decl_view}
use Rattle.us_status.specs.declared.status.Slot.{Slot}
use Rattle.us_status.specs.declared.status.Status.{Status}
use Rattle.us_matrix.specs.declared.matrix.Triple.{Triple}
use Rattle.us_format.specs.Program.{plain_entry, shape_in, entries_in}
use Rattle.us_container.specs.declared.fault.ContainerFault.{ContainerFault}
use Rattle.us_container.specs.declared.fault.ContainerFault.TheVariants as container
use Rattle.us_container.specs.Contained.{Contained, IsContained, TellsContained, contained_in}
use Rattle.us_check.specs.declared.held.Held.{Held}
use Rattle.us_outside.specs.Causes.{Faults}
use Rattle.us_status.specs.declared.status.Status.TheVariants.{Done, Words, TooLong, Memory, ReadFault, WriteFault}
use Rattle.us_status.specs.Uses.{Use}
use Rattle.us_inputs.specs.Library.{library_in, told}
use Rattle.us_inputs.specs.Steps.{Input, OfContainer, of_file, bytes_at, matrix_step, container_step, is_container, library_step, read_input, map_of, triple_of}
use Rattle.us_status.specs.Answers.{IsStep, IsRefusal, IsInnerRefusal, refusal_of, formats_refusal_of, container_refusal_of}
use Rattle.us_inputs.specs.Views.{contained_of}

pub too_long : (slot : Slot) (bytes : List ℕ) → 1073741824 < length bytes → bytes_at slot bytes ≡ Err (TooLong slot)
unfolding of_file
too_long slot bytes h =
    let test : nat_lt 1073741824 (length bytes) ≡ true = grind (arith, nat_tests) in
    ap (λ b. cond b (Err (TooLong slot)) (Ok bytes)) test

pub loaded : (slot : Slot) (bytes content : List ℕ) → bytes ≡ content → length bytes ≤ 1073741824 → bytes_at slot content ≡ Ok bytes
unfolding of_file
loaded slot bytes content e h =
    let test : nat_lt 1073741824 (length content) ≡ false = grind (arith, nat_tests, ap length e) in
    ap (λ b. cond b (Err (TooLong slot)) (Ok content)) test ∙ ap Ok (sym e)

ok_behind : {A : Type 0} (b : Bool) (slot : Slot) (content bytes : List ℕ) (read : List ℕ → Result A Status) → cond b (Err (TooLong slot)) (Ok content) ≡ Ok bytes
    → cond b (Err (TooLong slot)) (read content) ≡ read bytes
ok_behind true slot content bytes read h = cc
ok_behind false slot content bytes read h =
    let e : content ≡ bytes = cc in
    ap read e

-- what is read of a file that was loaded
pub read_behind : {A : Type 0} (slot : Slot) (content bytes : List ℕ) (read : List ℕ → Result A Status) → bytes_at slot content ≡ Ok bytes → of_file slot content (read content) ≡ read bytes
unfolding of_file
read_behind slot content bytes read h = ok_behind (nat_lt 1073741824 (length content)) slot content bytes read h

err_behind : {A : Type 0} (b : Bool) (slot : Slot) (content : List ℕ) (read : Result A Status) (status : Status) → cond b (Err (TooLong slot)) (Ok content) ≡ Err status
    → cond b (Err (TooLong slot)) read ≡ Err status
err_behind true slot content read status h =
    let e : TooLong slot ≡ status = cc in
    ap Err e
err_behind false slot content read status h = cc

-- a file that wasn't loaded isn't read
pub unread_behind : {A : Type 0} (slot : Slot) (content : List ℕ) (read : Result A Status) (status : Status) → IsStep {A = List ℕ} (bytes_at slot content) (Err status)
    → IsStep {A = A} (of_file slot content read) (Err status)
unfolding of_file
unread_behind slot content read Memory h = tt
unread_behind slot content read (ReadFault s) h = tt
unread_behind slot content read status h = err_behind (nat_lt 1073741824 (length content)) slot content read status h

pub inner_refusal : (uses : List Use) (before now : Faults) (status : Status) → IsInnerRefusal status → IsRefusal uses before now status
inner_refusal uses before now Done h = h
inner_refusal uses before now Words h = h
inner_refusal uses before now (WriteFault slot) h = h
inner_refusal uses before now (ReadFault slot) h = absurd h
inner_refusal uses before now status h = tt

pub eq_turned : (xs ys : List ℕ) → bytes_eq xs ys ≡ bytes_eq ys xs
eq_turned xs ys =
    same_from_decides (bytes_eq xs ys) (bytes_eq ys xs) (bytes_eq-Decides xs ys) (λ h. sym ((bytes_eq-Decides ys xs).0 h), λ e. (bytes_eq-Decides ys xs).1 (sym e))

-- a file that isn't too long is read
pub in_length : {A : Type 0} (slot : Slot) (bytes : List ℕ) (read : Result A Status) → length bytes ≤ 1073741824 → of_file slot bytes read ≡ read
unfolding of_file
in_length slot bytes read h =
    let test : nat_lt 1073741824 (length bytes) ≡ false = grind (arith, nat_tests) in
    ap (λ b. cond b (Err (TooLong slot)) read) test

pub read_as_container : (slot : Slot) (bytes : List ℕ) → true ≡ is_container bytes → read_input slot bytes ≡ container_step (contained_in bytes)
read_as_container slot bytes h = ap (λ t. cond t (container_step (contained_in bytes)) (matrix_step slot (matrix_in bytes))) (sym h)

pub read_as_matrix : (slot : Slot) (bytes : List ℕ) → false ≡ is_container bytes → read_input slot bytes ≡ matrix_step slot (matrix_in bytes)
read_as_matrix slot bytes h = ap (λ t. cond t (container_step (contained_in bytes)) (matrix_step slot (matrix_in bytes))) (sym h)

-- what a container gives that was loaded, and a matrix file that isn't too long
pub container_behind : (slot : Slot) (content bytes : List ℕ) (r : Result Input Status) → bytes_at slot content ≡ Ok bytes → true ≡ is_container content → IsStep {A = Input} (container_step (contained_in bytes)) r
    → IsStep {A = Input} (of_file slot content (read_input slot content)) r
container_behind slot content bytes r loaded is h =
    let read = read_behind {A = Input} slot content bytes (λ b. container_step (contained_in b)) loaded in
    subst (λ p. IsStep {A = Input} p r) (sym (ap (of_file slot content) (read_as_container slot content is) ∙ read)) h

pub matrix_behind : (slot : Slot) (content : List ℕ) (r : Result Input Status) → length content ≤ 1073741824 → false ≡ is_container content → IsStep {A = Input} (matrix_step slot (matrix_in content)) r
    → IsStep {A = Input} (of_file slot content (read_input slot content)) r
matrix_behind slot content r short is h = subst (λ p. IsStep {A = Input} p r) (sym (in_length slot content (read_input slot content) short ∙ read_as_matrix slot content is)) h

-- a step that gives what the plain step gives
pub same_step : {A : Type 0} (plain r : Result A Status) → plain ≡ r → IsStep {A = A} plain r
same_step plain (Ok x) e = e
same_step plain (Err Memory) e = tt
same_step plain (Err (ReadFault slot)) e = tt
same_step plain (Err status) e = e

refused_matrix : (slot : Slot) (fault : MmFault) (read : Result Map MmFault) → IsFaultOf fault read → IsStep {A = Input} (matrix_step slot read) (Err (refusal_of slot fault))
refused_matrix slot mm.Memory read h = tt
refused_matrix slot fault read h = ap (matrix_step slot) h

pub matrix_refused : (slot : Slot) (fault : MmFault) (read : Result Map MmFault) (status : Status) → status ≡ refusal_of slot fault → IsFaultOf fault read → IsStep {A = Input} (matrix_step slot read) (Err status)
matrix_refused slot fault read status s h = subst (λ t. IsStep {A = Input} (matrix_step slot read) (Err t)) (sym s) (refused_matrix slot fault read h)

-- what a container holds is what the held matrix shows
same_contained : (h : Held) (c : Contained) → IsContained h c → c ≡ contained_of h
same_contained h c is =
    sym
    (ap (λ d. record { declared = d; shape = shape_in h.matrix; buffers = h.buffers; entries = entries_in h.matrix }) is.declared
    ∙ ap (λ s. record { declared = c.declared; shape = s; buffers = h.buffers; entries = entries_in h.matrix }) is.shape
    ∙ ap (λ b. record { declared = c.declared; shape = c.shape; buffers = b; entries = entries_in h.matrix }) is.buffers
    ∙ ap (λ e. record { declared = c.declared; shape = c.shape; buffers = c.buffers; entries = e }) is.entries)

pub container_read : (h : Held) (read : Result Contained ContainerFault) → TellsContained read (Ok h) → container_step read ≡ Ok (OfContainer (contained_of h))
container_read h read t = ap container_step t.1 ∙ ap (λ c. Ok (OfContainer c)) (same_contained h t.0 t.2)

refused_container : (fault : ContainerFault) (read : Result Contained ContainerFault) → TellsContained read (Err fault) → IsStep {A = Input} (container_step read) (Err (container_refusal_of fault))
refused_container container.Memory read h = tt
refused_container fault read h = ap container_step h

pub container_refused : (fault : ContainerFault) (read : Result Contained ContainerFault) (status : Status) → status ≡ container_refusal_of fault → TellsContained read (Err fault)
    → IsStep {A = Input} (container_step read) (Err status)
container_refused fault read status s h = subst (λ t. IsStep {A = Input} (container_step read) (Err t)) (sym s) (refused_container fault read h)

pub inner_matrix : (slot : Slot) (fault : MmFault) (status : Status) → status ≡ refusal_of slot fault → IsInnerRefusal status
inner_matrix slot mm.Memory status e = subst IsInnerRefusal (sym e) tt
inner_matrix slot fault status e = subst IsInnerRefusal (sym e) tt

pub inner_container : (fault : ContainerFault) (status : Status) → status ≡ container_refusal_of fault → IsInnerRefusal status
inner_container container.Memory status e = subst IsInnerRefusal (sym e) tt
inner_container fault status e = subst IsInnerRefusal (sym e) tt

pub inner_formats : (fault : DeclFault) (status : Status) → status ≡ formats_refusal_of fault → IsInnerRefusal status
inner_formats decl.Memory status e = subst IsInnerRefusal (sym e) tt
inner_formats fault status e = subst IsInnerRefusal (sym e) tt

same_triples : (ts : List Triple) → map triple_of (map plain_entry ts) ≡ ts
same_triples [] = refl
same_triples (t ∷ ts) = ap (λ l. t ∷ l) (same_triples ts)

-- the matrix of a container is the held one
pub held_matrix : (h : Held) → map_of (OfContainer (contained_of h)) ≡ h.matrix
held_matrix h = ap (λ l. record h.matrix { entries = l }) (same_triples h.matrix.entries)

library_is : (bytes : List ℕ) (library : Library) → ParsesLibrary bytes (Ok library) → library_in bytes ≡ Ok (map decl_view library)
library_is bytes library p = ap (told (length bytes)) (p.reads ∙ p.tells.is) ∙ ap Ok (sym p.tells.view)

-- a fault, or want of memory, of which nothing is said
abbrev IsFormatsFault : DeclFault → Result (List Declared) DeclFault → Type 0
IsFormatsFault decl.Memory read = Unit {0}
IsFormatsFault fault read = read ≡ Err fault

place_is : (len left place : ℕ) → place + left ≡ len → len - left ≡ place
place_is len left place h = omega arith

library_fault : (bytes : List ℕ) (fault : DeclFault) → ParsesLibrary bytes (Err fault) → IsFormatsFault fault (library_in bytes)
library_fault bytes decl.Memory p = tt
library_fault bytes (decl.Token place) p = ap (told (length bytes)) (p.reads ∙ p.tells.1) ∙ ap (λ n. Err (decl.Token n)) (place_is (length bytes) p.tells.0 place p.tells.2)
library_fault bytes (decl.Form place) p = ap (told (length bytes)) (p.reads ∙ p.tells.1) ∙ ap (λ n. Err (decl.Form n)) (place_is (length bytes) p.tells.0 place p.tells.2)
library_fault bytes (decl.TooBig place) p = ap (told (length bytes)) (p.reads ∙ p.tells.1) ∙ ap (λ n. Err (decl.TooBig n)) (place_is (length bytes) p.tells.0 place p.tells.2)
library_fault bytes (decl.Repeated place) p = ap (told (length bytes)) (p.reads ∙ p.tells.1) ∙ ap (λ n. Err (decl.Repeated n)) (place_is (length bytes) p.tells.0 place p.tells.2)

pub library_read : (bytes : List ℕ) (library : Library) → ParsesLibrary bytes (Ok library) → library_step (library_in bytes) ≡ Ok (map decl_view library)
library_read bytes library p = ap library_step (library_is bytes library p)

library_refused : (fault : DeclFault) (bytes : List ℕ) → IsFormatsFault fault (library_in bytes) → IsStep {A = List Declared} (library_step (library_in bytes)) (Err (formats_refusal_of fault))
library_refused decl.Memory bytes h = tt
library_refused fault bytes h = ap library_step h

pub library_refused_at : (fault : DeclFault) (bytes : List ℕ) (status : Status) → status ≡ formats_refusal_of fault → ParsesLibrary bytes (Err fault)
    → IsStep {A = List Declared} (library_step (library_in bytes)) (Err status)
library_refused_at fault bytes status s p =
    subst (λ t. IsStep {A = List Declared} (library_step (library_in bytes)) (Err t)) (sym s) (library_refused fault bytes (library_fault bytes fault p))

pub and_left : (a b : Bool) → (a && b) ≡ true → a ≡ true
and_left true b h = refl
and_left false b h = h

and_right : (a b : Bool) → (a && b) ≡ true → b ≡ true
and_right true b h = h
and_right false b h = absurd (false≢true h)

each_fits : (t : Run grammar.Decl) → all_run fits_decl t ≡ true → (k : ℕ) (d : grammar.Decl) → k < length (run_items t) → fits_decl (get_or (run_items t) k d) ≡ true
each_fits Empty h k d lt = absurd (omega arith)
each_fits (Then ts x) h k d lt =
    elim (cases_lt k (length (run_items ts))) [
      | inl before ↦ ap fits_decl (get_or_append_left (run_items ts) (x ∷ []) d k before) ∙ each_fits ts (and_left _ _ h) k d before
      | inr last ↦
          let at : k ≡ length (run_items ts) = omega (arith, length-append (run_items ts) (x ∷ [])) in
          ap fits_decl (get_or_at (run_items ts) x [] d k (sym at)) ∙ and_right _ _ h
    ]

-- any text
some_text : grammar.Decl
some_text = record { name = []; body = Whole (record { queries = Empty; levels = None; trim = None; merge = None; packs = Empty }) }

pub all_valid : (bytes : List ℕ) (library : Library) → ParsesLibrary bytes (Ok library) → All (λ d. IsValid (decl_view d)) library
all_valid bytes library p k d lt =
    let text = p.tells.text in
    let len : k < length (run_items text) = omega (arith, length-map library decl_view, length-map (run_items text) declared, ap length p.tells.view) in
    let same : decl_view (get_or library k d) ≡ declared (get_or (run_items text) k some_text) =
    sym (get_or-map decl_view library k d (decl_view d) lt) ∙ ap (λ l. get_or l k (decl_view d)) p.tells.view ∙ get_or-map declared (run_items text) k some_text (decl_view d) len in
    record { text = get_or (run_items text) k some_text; is = sym same; within = each_fits text p.tells.fits k some_text len }
