-- Reading a matrix file in pieces.
use Rattle.std.proofs.Common.{◌≡◌, ℕ, ◌+◌, ◌*◌, ◌^◌, ◌<◌, ◌≤◌, ◌⊎◌, nat_le, take, min, Bool, true, false, cond, List, [], ◌∷◌, ◌++◌, length, map, Ok, Err, Result, refl, sym, ap, ◌∙◌, subst, inl, inr, arith}
use Rattle.std.proofs.lemmas.Bool.{cases_lt}
use Rattle.std.proofs.lemmas.Bool.Decides.{nat_tests}
use Rattle.std.specs.Str.{bytes_eq}
use Rattle.std.proofs.lemmas.List.{length-map, length-take, take_all}
use Rattle.std.proofs.Math.Seq.{take-add}
use Rattle.us_matrix.specs.Map.{Map}
use Rattle.us_matrix.specs.declared.matrix.Triple.{Triple}
use Rattle.us_mm.specs.declared.fault.MmFault.{MmFault}
use Rattle.us_mm.specs.declared.fault.MmFault.TheVariants as mm
use Rattle.us_mm.specs.declared.reader.CoordinateReader.{CoordinateReader}
use Rattle.us_mm.specs.Reads.{matrix_in}
use Rattle.us_mm.specs.Readers.{Stands, IsOut}
use Rattle.us_mm.specs.Views.{IsFaultOf}
use Rattle.us_format.specs.declared.Kind.TheVariants.{Listed}
use Rattle.us_format.specs.Program.{plain_entry, shape_in, entries_in}
use Rattle.us_expr.specs.Tree.{RowIndex, ColIndex}
use Rattle.us_format.specs.Declaration.{Part}
use Rattle.us_format.specs.Positions.{row_of, node_of}
use Rattle.us_container.specs.Bytes.{magic}
use Rattle.us_judge.specs.Entry.{entry_format}
use Rattle.us_outside.specs.Files.{IsFilled}
use Rattle.us_status.specs.declared.status.Slot.{Slot}
use Rattle.us_status.specs.declared.status.Status.{Status}
use Rattle.us_status.specs.declared.status.Status.TheVariants.{TooLarge, TooLong}
use Rattle.us_inputs.specs.Steps.{Input, OfFile, bytes_at, is_container, size_on, held_in_entry, matrix_step}
use Rattle.us_status.specs.Answers.{IsStep, refusal_of}
use Rattle.us_inputs.specs.Views.{HasRead}
use Rattle.us_inputs.proofs.InputLemmas.{eq_turned, same_step, matrix_refused, too_long}

-- a reader has read a file up to a place
pub record IsReading (bytes : List ℕ) (from : ℕ) (reader : CoordinateReader) : Type 0 where
  pub within : from ≤ length bytes
  pub reads : IsOut reader ⊎ Stands reader (take from bytes)

-- what a reader does with a piece
pub record Feeds (old new : CoordinateReader) (piece : List ℕ) : Type 0 where
  pub stands : (bytes : List ℕ) → length bytes + length piece < 2 ^ 64 → Stands old bytes → IsOut new ⊎ Stands new (bytes ++ piece)
  pub out : IsOut old → IsOut new

pub begun : (bytes : List ℕ) (reader : CoordinateReader) → Stands reader [] → IsReading bytes 0 reader
begun bytes reader h = record { within = omega arith; reads = inr h }

pub one_more : (bytes room piece : List ℕ) (from n : ℕ) (old new : CoordinateReader) → from ≤ 1073741824 → length room ≡ 65536 → piece ≡ take n room → IsFilled bytes from n room → Feeds old new piece → IsReading bytes from old
    → IsReading bytes (from + n) new
one_more bytes room piece from n old new small len is filled feeds r = record { within = omega (arith, filled.count, len, r.within); reads = by_reader r.reads }
  where
    short : length (take from bytes) + length piece < 2 ^ 64
    short = omega (arith, length-take from bytes, length-take n room, ap length is, small, len)

    more : take from bytes ++ piece ≡ take (from + n) bytes
    more = ap (λ l. take from bytes ++ l) (is ∙ filled.front) ∙ sym (take-add from n bytes)

    by_reader : IsOut old ⊎ Stands old (take from bytes) → IsOut new ⊎ Stands new (take (from + n) bytes)
    by_reader (inl lost) = inl (feeds.out lost)
    by_reader (inr stands) = subst (λ l. IsOut new ⊎ Stands new l) more (feeds.stands (take from bytes) short stands)

-- no bytes for a room mean the end
pub ended : (bytes room : List ℕ) (from n : ℕ) (reader : CoordinateReader) → from ≤ 1073741824 → length room ≡ 65536 → n ≡ 0 → IsFilled bytes from n room → IsReading bytes from reader → HasRead bytes reader
ended bytes room from n reader small len none filled r = (omega (arith, end, small), subst (λ l. IsOut reader ⊎ Stands reader l) (take_all from bytes end) r.reads)
  where
    end : length bytes ≤ from
    end = omega (arith, filled.count, len, none)

-- the bytes go on behind the bound
pub too_long_behind : (slot : Slot) (bytes : List ℕ) (from : ℕ) (reader : CoordinateReader) → 1073741824 < from → IsReading bytes from reader → bytes_at slot bytes ≡ Err (TooLong slot)
too_long_behind slot bytes from reader long r = too_long slot bytes (omega (arith, long, r.within))

-- the first seven bytes
first_bytes : (bytes : List ℕ) (n : ℕ) → n ≡ min 7 (length bytes) → take n bytes ≡ take 7 bytes
first_bytes bytes n e =
    elim (cases_lt (length bytes) 7) [
      | inl less ↦ take_all n bytes (omega (arith, e, less)) ∙ sym (take_all 7 bytes (omega (arith, less)))
      | inr more ↦
          let seven : n ≡ 7 = omega (arith, e, more) in
          ap (λ k. take k bytes) seven
    ]

pub tells_container : (bytes room : List ℕ) (n : ℕ) (b : Bool) → length room ≡ 7 → IsFilled bytes 0 n room → b ≡ bytes_eq magic (take 7 (take n room)) → b ≡ is_container bytes
tells_container bytes room n b len filled e = e ∙ ap (λ l. bytes_eq magic (take 7 l)) front ∙ ap (bytes_eq magic) (take_all 7 (take 7 bytes) (omega (arith, length-take 7 bytes))) ∙ eq_turned magic (take 7 bytes)
  where
    front : take n room ≡ take 7 bytes
    front = filled.front ∙ first_bytes bytes n (omega (arith, filled.count, len))

-- memory is wanting
abbrev IsWant : Result Map MmFault → Type 0
IsWant r = r ≡ Err mm.Memory

pub gives_matrix : (slot : Slot) (bytes : List ℕ) (reader : CoordinateReader) (m : Map) (r : Result Input Status)
    → ((b : List ℕ) → length b < 2 ^ 64 → Stands reader b → matrix_in b ≡ Ok m) → (IsOut reader → IsWant (Ok m)) → held_in_entry m ≡ r → HasRead bytes reader
    → IsStep {A = Input} (matrix_step slot (matrix_in bytes)) r
gives_matrix slot bytes reader m r value out held h = by_reader h.1
  where
    by_reader : IsOut reader ⊎ Stands reader bytes → IsStep {A = Input} (matrix_step slot (matrix_in bytes)) r
    by_reader (inl lost) =
        let e = out lost in
        absurd cc
    by_reader (inr stands) = same_step (matrix_step slot (matrix_in bytes)) r (ap (matrix_step slot) (value bytes (omega (arith, h.0)) stands) ∙ held)

pub gives_fault : (slot : Slot) (bytes : List ℕ) (reader : CoordinateReader) (fault : MmFault) (status : Status)
    → ((b : List ℕ) → length b < 2 ^ 64 → Stands reader b → IsFaultOf fault (matrix_in b)) → (IsOut reader → IsWant (Err fault)) → status ≡ refusal_of slot fault → HasRead bytes reader
    → IsStep {A = Input} (matrix_step slot (matrix_in bytes)) (Err status)
gives_fault slot bytes reader fault status value out s h = by_reader h.1
  where
    by_reader : IsOut reader ⊎ Stands reader bytes → IsStep {A = Input} (matrix_step slot (matrix_in bytes)) (Err status)
    by_reader (inl lost) =
        let e = out lost in
        let f : fault ≡ mm.Memory = cc in
        matrix_refused slot mm.Memory (matrix_in bytes) status (s ∙ ap (refusal_of slot) f) tt
    by_reader (inr stands) = matrix_refused slot fault (matrix_in bytes) status s (value bytes (omega (arith, h.0)) stands)

-- the levels keep two cells and a row, a column and a value for each entry, and each level has a position for each entry
pub entry_size : (m : Map) → size_on m entry_format ≡ 5 * length m.entries + 2
entry_size m = computed ∙ in_all
  where
    p : Part
    p = record { names = 0; queries = []; levels = RowIndex ∷ ColIndex ∷ []; trim = 0 ∷ 1 ∷ []; merge = []; packs = [] }

    n : ℕ
    n = length (map (node_of Listed) (map (row_of (entries_in m) (shape_in m) p) (map plain_entry m.entries)))

    computed : size_on m entry_format ≡ 0 + 2 + n + n + n + (0 + (0 + n + n))
    computed = refl

    in_all : 0 + 2 + n + n + n + (0 + (0 + n + n)) ≡ 5 * length m.entries + 2
    in_all =
        omega (
          arith,
          length-map (map (row_of (entries_in m) (shape_in m) p) (map plain_entry m.entries)) (node_of Listed),
          length-map (map plain_entry m.entries) (row_of (entries_in m) (shape_in m) p),
          length-map m.entries plain_entry,
        )

fits : (s : ℕ) → s ≤ 67108864 → nat_le s 67108864 ≡ true
fits s h = grind (arith, nat_tests)

is_above : (s : ℕ) → 67108864 < s → nat_le s 67108864 ≡ false
is_above s h = grind (arith, nat_tests)

pub held_fits : (m : Map) (entries : List Triple) → entries ≡ m.entries → length entries ≤ 13421772 → held_in_entry m ≡ Ok (OfFile m)
unfolding held_in_entry
held_fits m entries e h =
    let small : size_on m entry_format ≤ 67108864 = omega (arith, entry_size m, ap length e, h) in
    ap (λ b. cond b (Ok (OfFile m)) (Err (TooLarge 0))) (fits (size_on m entry_format) small)

pub held_above : (m : Map) (entries : List Triple) → entries ≡ m.entries → 13421772 < length entries → held_in_entry m ≡ Err (TooLarge 0)
unfolding held_in_entry
held_above m entries e h =
    let large : 67108864 < size_on m entry_format = omega (arith, entry_size m, ap length e, h) in
    ap (λ b. cond b (Ok (OfFile m)) (Err (TooLarge 0))) (is_above (size_on m entry_format) large)
