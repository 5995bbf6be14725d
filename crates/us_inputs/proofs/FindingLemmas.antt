-- The names of a chain in a library, and its formats, one after the other.
use Rattle.std.proofs.Common.{◌≡◌, ℕ, suc, ◌+◌, ◌<◌, ◌≤◌, not, cond, Bool, true, false, List, [], ◌∷◌, ◌++◌, length, map, drop, take, get_or, All, Bor, Option, Some, None, Result, Ok, Err, refl, sym, ap, ◌∙◌, subst, append_assoc, add-one, nat_le, ◌&&◌, arith}
use Rattle.std.proofs.lemmas.List.{at_drop_more, at_drop_all, get_or-map, length-map, length_push, map-append, take_more, take_all, append-nil}
use Rattle.std.proofs.lemmas.List.Filters.{length-filter_both}
use Rattle.std.proofs.lemmas.Bool.{leb-true}
use Rattle.std.proofs.lemmas.List.Elements.{All-push}
use Rattle.std.specs.List.{filter}
use Rattle.us_inputs.specs.Chains.{names_of, is_text, is_chain, hops_of}
use Rattle.us_inputs.proofs.InputLemmas.{and_left}
use Rattle.us_judge.specs.declared.refusal.Refusal.{Refusal}
use Rattle.us_judge.specs.Acceptance.{first_refusal}
use Rattle.us_judge.specs.Views.{declaration_of}
use Rattle.us_decl.specs.declared.decl.Decl.{Decl}
use Rattle.us_decl.specs.Declares.{Declared, IsValid}
use Rattle.us_decl.specs.Names.{same_name, number_of}
use Rattle.us_decl.specs.Views.{decl_view, decl_names}
use Rattle.us_status.specs.declared.status.Status.{Status}
use Rattle.us_status.specs.declared.status.Status.TheVariants.{UnknownName, Memory, ReadFault}
use Rattle.us_status.specs.Answers.{then_step, IsStep}
use Rattle.us_inputs.specs.Steps.{find, found, find_all, judged, judge_all, judged_all}

none_step : (b : Bool) (d : Declared) (rest : Option Declared) (n len : ℕ) → cond (not b) (1 + n) 0 ≡ suc len → (n ≡ len → rest ≡ None) → cond b (Some d) rest ≡ None
none_step true d rest n len h k = absurd (omega (arith, h))
none_step false d rest n len h k = k (omega (arith, h))

-- a name that no declaration has
pub none_found : (name : List ℕ) (ds : List Decl) → number_of name (decl_names ds) ≡ length ds → find name (map decl_view ds) ≡ None
none_found name [] h = refl
none_found name (d ∷ ds) h =
    none_step (same_name name d.name) (decl_view d) (find name (map decl_view ds)) (number_of name (decl_names ds)) (length ds) h (λ e. none_found name ds e)

some_step : (b : Bool) (d x : Decl) (ds : List Decl) (rest : Option Declared) (n : ℕ) → cond (not b) (1 + n) 0 < suc (length ds) → (n < length ds → rest ≡ Some (decl_view (get_or ds n x)))
    → cond b (Some (decl_view d)) rest ≡ Some (decl_view (get_or (d ∷ ds) (cond (not b) (1 + n) 0) x))
some_step true d x ds rest n lt k = refl
some_step false d x ds rest n lt k =
    let below : n < length ds = omega (arith, lt) in
    let number : suc n ≡ 1 + n = omega arith in
    k below ∙ ap (λ m. Some (decl_view (get_or (d ∷ ds) m x))) number

-- the declaration at the number of its name
pub some_found : (name : List ℕ) (ds : List Decl) (x : Decl) → number_of name (decl_names ds) < length ds → find name (map decl_view ds) ≡ Some (decl_view (get_or ds (number_of name (decl_names ds)) x))
some_found name [] x lt = absurd (omega arith)
some_found name (d ∷ ds) x lt =
    some_step (same_name name d.name) d x ds (find name (map decl_view ds)) (number_of name (decl_names ds)) lt (λ below. some_found name ds x below)

-- the names so far are found, and the rest is to be found
abbrev pub FoundSoFar : List Declared → List (List ℕ) → ℕ → List Declared → Type 0
FoundSoFar ds names i pre = find_all ds 1 names ≡ then_step (find_all ds (i + 1) (drop i names)) (λ more. Ok (pre ++ more))

none_before : (r : Result (List Declared) Status) → r ≡ then_step r (λ more. Ok more)
none_before (Ok more) = refl
none_before (Err status) = refl

pub none_so_far : (ds : List Declared) (names : List (List ℕ)) → FoundSoFar ds names 0 []
none_so_far ds names = none_before (find_all ds 1 names)

then_then : (r : Result (List Declared) Status) (d : Declared) (pre : List Declared)
    → then_step (then_step r (λ more. Ok (d ∷ more))) (λ more. Ok (pre ++ more)) ≡ then_step r (λ more. Ok ((pre ++ (d ∷ [])) ++ more))
then_then (Ok more) d pre = ap Ok (sym (append_assoc pre (d ∷ []) more))
then_then (Err status) d pre = refl

at_name : (ds : List Declared) (names : List (List ℕ)) (i : ℕ) (name : List ℕ) (o : Option Declared) → i < length names → get_or names i name ≡ name → find name ds ≡ o
    → find_all ds (i + 1) (drop i names) ≡ then_step (found (i + 1) o) (λ d. then_step (find_all ds (i + 1 + 1) (drop (i + 1) names)) (λ more. Ok (d ∷ more)))
at_name ds names i name o lt at is =
    at_drop_more (find_all ds (i + 1)) names i name lt
    ∙ ap (λ w. then_step (found (i + 1) (find w ds)) (λ d. then_step (find_all ds (suc (i + 1)) (drop (i + 1) names)) (λ more. Ok (d ∷ more)))) at
    ∙ ap (λ o. then_step (found (i + 1) o) (λ d. then_step (find_all ds (suc (i + 1)) (drop (i + 1) names)) (λ more. Ok (d ∷ more)))) is
    ∙ ap (λ k. then_step (found (i + 1) o) (λ d. then_step (find_all ds k (drop (i + 1) names)) (λ more. Ok (d ∷ more)))) (sym (add-one (i + 1)))

pub one_more : (ds : List Declared) (names : List (List ℕ)) (i : ℕ) (name : List ℕ) (d : Declared) (pre : List Declared) → i < length names → get_or names i name ≡ name → find name ds ≡ Some d
    → FoundSoFar ds names i pre → FoundSoFar ds names (i + 1) (pre ++ (d ∷ []))
one_more ds names i name d pre lt at is h =
    h ∙ ap (λ r. then_step r (λ more. Ok (pre ++ more))) (at_name ds names i name (Some d) lt at is) ∙ then_then (find_all ds (i + 1 + 1) (drop (i + 1) names)) d pre

pub one_missing : (ds : List Declared) (names : List (List ℕ)) (i : ℕ) (name : List ℕ) (pre : List Declared) → i < length names → get_or names i name ≡ name → find name ds ≡ None
    → FoundSoFar ds names i pre → find_all ds 1 names ≡ Err (UnknownName (i + 1))
one_missing ds names i name pre lt at is h = h ∙ ap (λ r. then_step r (λ more. Ok (pre ++ more))) (at_name ds names i name None lt at is)

pub all_found : (ds : List Declared) (names : List (List ℕ)) (i : ℕ) (pre : List Declared) → length names ≤ i → FoundSoFar ds names i pre → find_all ds 1 names ≡ Ok pre
all_found ds names i pre le h = h ∙ ap (λ r. then_step r (λ more. Ok (pre ++ more))) (at_drop_all (find_all ds (i + 1)) names i le) ∙ ap Ok (append-nil pre)

at_judged : (ds : List Declared) (i : ℕ) (d : Declared) (o : Option Refusal) → i < length ds → get_or ds i d ≡ d → first_refusal (declaration_of d) ≡ o
    → judge_all (i + 1) (drop i ds) ≡ then_step (judged (i + 1) o) (λ _. judge_all (i + 1 + 1) (drop (i + 1) ds))
at_judged ds i d o lt at is =
    at_drop_more (judge_all (i + 1)) ds i d lt
    ∙ ap (λ x. then_step (judged (i + 1) (first_refusal (declaration_of x))) (λ _. judge_all (suc (i + 1)) (drop (i + 1) ds))) at
    ∙ ap (λ o. then_step (judged (i + 1) o) (λ _. judge_all (suc (i + 1)) (drop (i + 1) ds))) is
    ∙ ap (λ k. then_step (judged (i + 1) o) (λ _. judge_all k (drop (i + 1) ds))) (sym (add-one (i + 1)))

pub one_accepted : (ds : List Declared) (i : ℕ) (d : Declared) → i < length ds → get_or ds i d ≡ d → first_refusal (declaration_of d) ≡ None → judge_all 1 ds ≡ judge_all (i + 1) (drop i ds)
    → judge_all 1 ds ≡ judge_all (i + 1 + 1) (drop (i + 1) ds)
one_accepted ds i d lt at is h = h ∙ at_judged ds i d None lt at is

-- all declarations are accepted
pub all_accepted : (ds : List Declared) (i : ℕ) → length ds ≤ i → judge_all 1 ds ≡ judge_all (i + 1) (drop i ds) → judged_all ds ≡ Ok ds
all_accepted ds i le h = ap (λ r. then_step r (λ _. Ok ds)) (h ∙ at_drop_all (judge_all (i + 1)) ds i le)

refused_one : (ds : List Declared) (i : ℕ) (d : Declared) (status : Status) → i < length ds → get_or ds i d ≡ d → judge_all 1 ds ≡ judge_all (i + 1) (drop i ds)
    → judged (i + 1) (first_refusal (declaration_of d)) ≡ Err status → judged_all ds ≡ Err status
refused_one ds i d status lt at h e =
    ap (λ r. then_step r (λ _. Ok ds)) (h ∙ at_judged ds i d (first_refusal (declaration_of d)) lt at refl ∙ ap (λ r. then_step r (λ _. judge_all (i + 1 + 1) (drop (i + 1) ds))) e)

pub one_refused : (ds : List Declared) (i : ℕ) (d : Declared) (status : Status) → i < length ds → get_or ds i d ≡ d → judge_all 1 ds ≡ judge_all (i + 1) (drop i ds)
    → IsStep {A = Unit {0}} (judged (i + 1) (first_refusal (declaration_of d))) (Err status) → IsStep {A = List Declared} (judged_all ds) (Err status)
one_refused ds i d Memory lt at h e = tt
one_refused ds i d (ReadFault slot) lt at h e = tt
one_refused ds i d status lt at h e = refused_one ds i d status lt at h e

-- how far the search for the names has come
pub record Finding (ds : List Declared) (names : List (List ℕ)) (i : ℕ) (found : List (Bor Decl)) : Type 0 where
  pub so_far : FoundSoFar ds names i (map (λ d. decl_view d.now) found)
  pub count : length found ≡ i
  pub valid : All (λ d. IsValid (decl_view d.now)) found

-- how far the judging has come
pub record Judging (ds : List Declared) (i : ℕ) (formats : List Declared) : Type 0 where
  pub so_far : judge_all 1 ds ≡ judge_all (i + 1) (drop i ds)
  pub taken : formats ≡ take i ds

pub finding_none : (ds : List Declared) (names : List (List ℕ)) (found : List (Bor Decl)) → found ≡ [] → Finding ds names 0 found
finding_none ds names found e = subst (λ l. Finding ds names 0 l) (sym e) (record { so_far = none_so_far ds names; count = refl; valid = λ k d lt. absurd (omega (arith, lt)) })

at_reference : (names : List (Bor (List ℕ))) (i : ℕ) (x : Bor (List ℕ)) → i < length names → get_or (map (λ n. n.now) names) i (get_or names i x).now ≡ (get_or names i x).now
at_reference names i x lt = get_or-map (λ (n : Bor (List ℕ)). n.now) names i x (get_or names i x).now lt

pub finding_more : (ds : List Declared) (names : List (Bor (List ℕ))) (i : ℕ) (x : Bor (List ℕ)) (found found' : List (Bor Decl)) (d : Bor Decl) → i < length names
    → find (get_or names i x).now ds ≡ Some (decl_view d.now) → IsValid (decl_view d.now) → found' ≡ found ++ (d ∷ []) → Finding ds (map (λ n. n.now) names) i found
    → Finding ds (map (λ n. n.now) names) (i + 1) found'
finding_more ds names i x found found' d lt is valid e h =
    let below : i < length (map (λ (n : Bor (List ℕ)). n.now) names) = omega (arith, length-map names (λ (n : Bor (List ℕ)). n.now)) in
    let views : map (λ (d : Bor Decl). decl_view d.now) (found ++ (d ∷ [])) ≡ map (λ (d : Bor Decl). decl_view d.now) found ++ (decl_view d.now ∷ []) = map-append (λ (d : Bor Decl). decl_view d.now) found (d ∷ []) in
    subst (λ l. Finding ds (map (λ n. n.now) names) (i + 1) l) (sym e)
    (record {
      so_far = subst (λ l. FoundSoFar ds (map (λ n. n.now) names) (i + 1) l) (sym views) (one_more ds (map (λ n. n.now) names) i _ (decl_view d.now) _ below (at_reference names i x lt) is h.so_far);
      count = length_push found d ∙ ap (λ n. n + 1) h.count;
      valid = All-push (λ (d : Bor Decl). IsValid (decl_view d.now)) found d h.valid valid;
    })

pub finding_missing : (ds : List Declared) (names : List (Bor (List ℕ))) (i : ℕ) (x : Bor (List ℕ)) (found : List (Bor Decl)) → i < length names → find (get_or names i x).now ds ≡ None
    → Finding ds (map (λ n. n.now) names) i found → find_all ds 1 (map (λ n. n.now) names) ≡ Err (UnknownName (i + 1))
finding_missing ds names i x found lt is h =
    let below : i < length (map (λ (n : Bor (List ℕ)). n.now) names) = omega (arith, length-map names (λ (n : Bor (List ℕ)). n.now)) in
    one_missing ds (map (λ n. n.now) names) i _ (map (λ d. decl_view d.now) found) below (at_reference names i x lt) is h.so_far

pub finding_all : (ds : List Declared) (names : List (Bor (List ℕ))) (i : ℕ) (found : List (Bor Decl)) → length names ≤ i → Finding ds (map (λ n. n.now) names) i found
    → find_all ds 1 (map (λ n. n.now) names) ≡ Ok (map (λ d. decl_view d.now) found)
finding_all ds names i found le h =
    let behind : length (map (λ (n : Bor (List ℕ)). n.now) names) ≤ i = omega (arith, length-map names (λ (n : Bor (List ℕ)). n.now)) in
    all_found ds (map (λ n. n.now) names) i (map (λ d. decl_view d.now) found) behind h.so_far

at_view : (found : List (Bor Decl)) (i : ℕ) (d : Bor Decl) → i < length found → d ≡ get_or found i d → get_or (map (λ d. decl_view d.now) found) i (decl_view d.now) ≡ decl_view d.now
at_view found i d lt e = get_or-map (λ (d : Bor Decl). decl_view d.now) found i d (decl_view d.now) lt ∙ ap (λ (d : Bor Decl). decl_view d.now) (sym e)

pub judging_none : (ds formats : List Declared) → formats ≡ [] → Judging ds 0 formats
judging_none ds formats e = record { so_far = refl; taken = e }

pub judging_more : (found : List (Bor Decl)) (i : ℕ) (formats formats' : List Declared) (d : Bor Decl) (format : Declared) → i < length found → d ≡ get_or found i d → format ≡ decl_view d.now
    → first_refusal (declaration_of (decl_view d.now)) ≡ None → formats' ≡ formats ++ (format ∷ []) → Judging (map (λ d. decl_view d.now) found) i formats
    → Judging (map (λ d. decl_view d.now) found) (i + 1) formats'
judging_more found i formats formats' d format lt e is accepted pushed h =
    let ds = map (λ (d : Bor Decl). decl_view d.now) found in
    let below : i < length ds = omega (arith, length-map found (λ (d : Bor Decl). decl_view d.now)) in
    record {
      so_far = one_accepted ds i (decl_view d.now) below (at_view found i d lt e) accepted h.so_far;
      taken =
          pushed ∙ ap (λ l. l ++ (format ∷ [])) h.taken ∙ ap (λ (f : Declared). take i ds ++ (f ∷ [])) (is ∙ sym (at_view found i d lt e)) ∙ sym (take_more ds i (decl_view d.now) below);
    }

pub judging_refused : (found : List (Bor Decl)) (i : ℕ) (formats : List Declared) (d : Bor Decl) (status : Status) → i < length found → d ≡ get_or found i d
    → IsStep {A = Unit {0}} (judged (i + 1) (first_refusal (declaration_of (decl_view d.now)))) (Err status) → Judging (map (λ d. decl_view d.now) found) i formats
    → IsStep {A = List Declared} (judged_all (map (λ d. decl_view d.now) found)) (Err status)
judging_refused found i formats d status lt e is h =
    let ds = map (λ (d : Bor Decl). decl_view d.now) found in
    let below : i < length ds = omega (arith, length-map found (λ (d : Bor Decl). decl_view d.now)) in
    one_refused ds i (decl_view d.now) status below (at_view found i d lt e) h.so_far is

pub judging_all : (ds formats : List Declared) (i : ℕ) → length ds ≤ i → Judging ds i formats → judged_all ds ≡ Ok formats
judging_all ds formats i le h = all_accepted ds i le h.so_far ∙ ap Ok (sym (h.taken ∙ take_all i ds le))

pub judging_count : (found : List (Bor Decl)) (formats : List Declared) (i : ℕ) → length found ≤ i → Judging (map (λ d. decl_view d.now) found) i formats → length formats ≡ length found
judging_count found formats i le h =
    let ds = map (λ (d : Bor Decl). decl_view d.now) found in
    let behind : length ds ≤ i = omega (arith, le, length-map found (λ (d : Bor Decl). decl_view d.now)) in
    ap length (h.taken ∙ take_all i ds behind) ∙ length-map found (λ (d : Bor Decl). decl_view d.now)

list_few : (p : List ℕ → Bool) (names : List (List ℕ)) (x : Bool) → (nat_le (length names) 64 && x) ≡ true → length (filter p names) ≤ 64
list_few p names x h =
    let le : nat_le (length names) 64 ≡ true = and_left (nat_le (length names) 64) x h in
    let few : length names ≤ 64 = leb-true (length names) 64 le in
    omega (arith, few, length-filter_both p (λ w. not (p w)) (λ w. refl) names)

pub few_hops : (chain : List ℕ) → is_chain chain ≡ true → length (hops_of chain) ≤ 64
unfolding is_chain
few_hops chain h = list_few (λ w. not (is_text w)) (names_of chain) _ h
