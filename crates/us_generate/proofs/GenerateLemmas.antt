-- How a generated matrix goes through formats.
use Rattle.std.proofs.Common.{◌≡◌, ℕ, ◌+◌, ◌*◌, ◌%◌, ◌^◌, ◌≤◌, ◌++◌, cond, nat_le, nat_lt, ◌==◌, Bool, true, false, List, [], ◌∷◌, length, Option, Some, None, IfSome, Result, Ok, Err, IfOk, refl, sym, ap, ◌∙◌, subst, inl, arith}
use Rattle.std.specs.List.{range_with_len}
use Rattle.std.specs.Int.{w64, cast_signed, cast_unsigned}
use Rattle.std.specs.declared.alloc.Global.{Global}
use Rattle.std.specs.declared.vec.Vec.{Vec}
use Rattle.std.proofs.lemmas.Bool.Decides.{nat_tests}
use Rattle.std.proofs.lemmas.List.{length-map}
use Rattle.std.proofs.lemmas.List.FromFn.{length-range_with_len}
use Rattle.us_matrix.specs.declared.matrix.Triple.{Triple}
use Rattle.us_matrix.specs.Map.{Map, added, entries_of, in_front, place}
use Rattle.us_decl.specs.Declares.{Declared}
use Rattle.us_judge.specs.Entry.{entry_format}
use Rattle.us_check.specs.declared.held.Held.{Held}
use Rattle.us_container.specs.Contained.{Contained}
use Rattle.us_outside.specs.Files.{Files, content_of}
use Rattle.us_sample.specs.Numbers.{sample_of, triple_at, triples_of}
use Rattle.us_sample.specs.Totals.{line_of}
use Rattle.us_status.specs.declared.status.Slot.TheVariants as slots
use Rattle.us_status.specs.declared.status.Status.{Status}
use Rattle.us_status.specs.declared.status.Status.TheVariants.{TooLarge}
use Rattle.us_status.specs.Uses.{reads}
use Rattle.us_status.specs.Answers.{IsAnswer, IsInnerRefusal, IsStep, status_of, then_step}
use Rattle.us_status.proofs.AnswerLemmas.{first_ends, step_answer}
use Rattle.us_inputs.specs.Sources.{held_as, held_step, kept_in}
use Rattle.us_inputs.specs.Steps.{OfFile, chain_in, size_on, within_limit}
use Rattle.us_inputs.specs.Views.{contained_of}
use Rattle.us_inputs.proofs.HeldLemmas.{not_held}
use Rattle.us_inputs.proofs.InputLemmas.{inner_refusal}
use Rattle.us_inputs.proofs.PiecesLemmas.{entry_size}
use Rattle.us_journeys.specs.Hops.{AreHops, hop_lines}
use Rattle.us_journeys.specs.Journeys.{IsAlong}
use Rattle.us_generate.specs.Generating.{IsTold, sized, sized_in}

-- ---- the number of entries

shorter : (b : Bool) (xs ys : List Triple) (n : ℕ) → length xs ≤ n → length ys ≤ n → length (cond b xs ys) ≤ n
shorter true xs ys n p q = p
shorter false xs ys n p q = q

front_length : (i j bits : ℕ) (ts : List Triple) → length (in_front i j bits ts) ≤ length ts + 1
front_length i j bits ts = shorter (bits == 0) ts (record { i = i; j = j; v = cast_signed w64 bits } ∷ ts) (length ts + 1) (omega arith) (omega arith)

added_length : (t : Triple) (es : List Triple) → length (added t es) ≤ length es + 1
added_length t [] = front_length t.i t.j (cast_unsigned w64 t.v % 2 ^ 64) []
added_length t (e ∷ es) =
    let front = front_length e.i e.j ((cast_unsigned w64 t.v + cast_unsigned w64 e.v) % 2 ^ 64) es in
    let more = added_length t es in
    shorter (nat_lt (place t) (place e)) (in_front t.i t.j (cast_unsigned w64 t.v % 2 ^ 64) (e ∷ es)) _ (length (e ∷ es) + 1)
    (front_length t.i t.j (cast_unsigned w64 t.v % 2 ^ 64) (e ∷ es))
    (shorter (place t == place e) (in_front e.i e.j ((cast_unsigned w64 t.v + cast_unsigned w64 e.v) % 2 ^ 64) es) (e ∷ added t es) (length (e ∷ es) + 1) (omega (arith, front))
    (omega (arith, more)))

entries_length : (ts : List Triple) → length (entries_of ts) ≤ length ts
unfolding entries_of
entries_length [] = omega arith
entries_length (t ∷ ts) = omega (arith, added_length t (entries_of ts), entries_length ts)

-- a generated matrix has at most as many entries as it has triples
sample_length : (seed rows cols count : ℕ) → length (sample_of seed rows cols count).entries ≤ count
unfolding triples_of
sample_length seed rows cols count =
    omega (arith, entries_length (triples_of seed rows cols count), length-map (range_with_len 0 count) (triple_at seed rows cols), length-range_with_len 0 count)

-- ---- how it is held

fits : (s : ℕ) → s ≤ 67108864 → nat_le s 67108864 ≡ true
fits s h = grind (arith, nat_tests)

held_small : (m : Map) → length m.entries ≤ 8388608 → held_step (OfFile m) ≡ Ok (held_as (OfFile m))
held_small m h =
    let small : size_on m entry_format ≤ 67108864 = omega (arith, entry_size m, h) in
    ap (λ b. cond b (Ok (kept_in m entry_format)) (Err (TooLarge 0))) (fits (size_on m entry_format) small)

pub sample_held : (seed rows cols count : ℕ) → count ≤ 8388608 → held_step (OfFile (sample_of seed rows cols count)) ≡ Ok (held_as (OfFile (sample_of seed rows cols count)))
sample_held seed rows cols count h =
    let few : length (sample_of seed rows cols count).entries ≤ 8388608 = omega (arith, sample_length seed rows cols count, h) in
    held_small (sample_of seed rows cols count) few

-- so it isn't held only for want of memory
pub sample_not_held : (seed rows cols count : ℕ) (m : Map) (plain : Result (Unit {0}) Status) (status : Status) → count ≤ 8388608 → m ≡ sample_of seed rows cols count
    → IsStep {A = Contained} (held_step (OfFile m)) (Err status) → IsStep {A = Unit {0}} plain (Err status)
sample_not_held seed rows cols count m plain status few e h =
    not_held (OfFile (sample_of seed rows cols count)) status plain (subst (λ m. IsStep {A = Contained} (held_step (OfFile m)) (Err status)) e h) (sample_held seed rows cols count few)

pub held_as_file : (h : Held) (m : Map) → h.matrix ≡ m → contained_of h ≡ held_as (OfFile m) → contained_of h ≡ held_as (OfFile h.matrix)
held_as_file h m e c = c ∙ ap (λ m. held_as (OfFile m)) (sym e)

-- ---- what is printed

pub told_is : (m : Map) (from : Contained) (ds : List Declared) (now : Held) (lines listing last : List ℕ) {E : Type 0} (res : Result (Vec ℕ Global) E) → IsAlong m from false ds now lines listing
    → from ≡ held_as (OfFile m) → last ≡ line_of m → IfOk res (λ v. v.items ≡ lines ++ last) → IfOk res (λ v. IsTold m ds v.items)
told_is m from ds now lines listing last (Ok v) a f e h = record {
  hops = a.hops;
  leads = record { targets = a.targets; hops = subst (λ c. AreHops m c a.hops) f a.are };
  are = h ∙ ap (λ l. l ++ last) a.told ∙ ap (λ l. hop_lines m a.hops ++ l) e;
}
told_is m from ds now lines listing last (Err x) a f e h = tt

pub told_of : (m k : Map) (ds : List Declared) {E : Type 0} (res : Result (Vec ℕ Global) E) → m ≡ k → IfOk res (λ v. IsTold m ds v.items) → IfOk res (λ v. IsTold k ds v.items)
told_of m k ds res e h = subst (λ m. IfOk res (λ v. IsTold m ds v.items)) e h

-- ---- the command

abbrev SizedAt : Map → List ℕ → List ℕ → Files → Status → Type 0
SizedAt m formats chain fs status = IsStep {A = List Declared} (sized_in m formats chain fs) (Err status)

chain_ends_at : (m : Map) (formats chain : List ℕ) (fs : Files) (status : Status) → IsStep {A = List Declared} (chain_in (content_of fs formats) chain) (Err status)
    → SizedAt m formats chain fs status
unfolding sized_in
chain_ends_at m formats chain fs status h = first_ends (chain_in (content_of fs formats) chain) (sized m) status h

pub chain_ends : (m : Map) (formats chain : List ℕ) (files : Option Files) (status : Status)
    → IfSome files (λ fs. IsStep {A = List Declared} (chain_in (content_of fs formats) chain) (Err status)) → IfSome files (λ fs. SizedAt m formats chain fs status)
chain_ends m formats chain None status h = tt
chain_ends m formats chain (Some fs) status h = chain_ends_at m formats chain fs status h

with_chain : (m : Map) (formats chain : List ℕ) (fs : Files) (ds : List Declared) → chain_in (content_of fs formats) chain ≡ Ok ds → sized_in m formats chain fs ≡ sized m ds
unfolding sized_in
with_chain m formats chain fs ds c = ap (λ r. then_step r (sized m)) c

pub all_sized : (m : Map) (formats chain : List ℕ) (files : Option Files) (ds : List Declared) → IfSome files (λ fs. chain_in (content_of fs formats) chain ≡ Ok ds) → within_limit m 1 ds ≡ Ok tt
    → IfSome files (λ fs. sized_in m formats chain fs ≡ Ok ds)
all_sized m formats chain None ds c w = tt
all_sized m formats chain (Some fs) ds c w = with_chain m formats chain fs ds c ∙ ap (λ r. then_step r (λ _. Ok ds)) w

sized_end : (m : Map) (formats chain : List ℕ) (fs : Files) (ds : List Declared) (status : Status) → chain_in (content_of fs formats) chain ≡ Ok ds
    → IsStep {A = Unit {0}} (within_limit m 1 ds) (Err status) → SizedAt m formats chain fs status
sized_end m formats chain fs ds status c h =
    subst (λ r. IsStep {A = List Declared} r (Err status)) (sym (with_chain m formats chain fs ds c)) (first_ends (within_limit m 1 ds) (λ _. Ok ds) status h)

-- an answer that ends the command behind its read
pub lines_answer : (m : Map) (formats chain : List ℕ) (files : Option Files) (ds : List Declared) (status : Status) → IfSome files (λ fs. chain_in (content_of fs formats) chain ≡ Ok ds)
    → IsStep {A = Unit {0}} (within_limit m 1 ds) (Err status) → IsInnerRefusal status
    → IfSome files (λ fs. IsAnswer (slots.Formats ∷ []) (status_of (sized_in m formats chain fs)) status)
lines_answer m formats chain None ds status c h r = tt
lines_answer m formats chain (Some fs) ds status c h r =
    step_answer (slots.Formats ∷ []) (sized_in m formats chain fs) slots.Formats formats (λ _ _. 0) (λ _ _. 0) status (sized_end m formats chain fs ds status c h)
    (inner_refusal (reads slots.Formats formats ∷ []) (λ _ _. 0) (λ _ _. 0) status r) (inl refl)
