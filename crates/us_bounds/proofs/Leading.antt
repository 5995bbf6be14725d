-- Checks one after the other.
use Rattle.std.proofs.Common.{◌≡◌, ℕ, ◌+◌, Bool, true, false, List, [], ◌∷◌, Option, Some, None, Result, Ok, Err, refl, sym, ap, ap₂, ◌∙◌, subst, map, get_or, drop, length, ◌<◌, ◌≤◌}
use Rattle.std.specs.Result.{IsErrAnd}
use Rattle.std.proofs.lemmas.List.{at_drop_more, at_drop_all}
use Rattle.us_code.specs.Typing.{Context}
use Rattle.us_code.specs.Unbound.{Break, ◌or◌, unless, broken, rule}
use Rattle.us_code.specs.Unbound as unbound
use Rattle.us_bounds.specs.declared.stop.Rule.{Rule}
use Rattle.us_bounds.specs.declared.stop.Stop.{Stop}
use Rattle.us_bounds.specs.declared.stop.Stop.TheVariants.{Broken, Memory}
use Rattle.us_bounds.specs.Steps.{IsStep, Leads, plain_rule, Ahead}

-- ---- rules

pub kept : {a a' : Bool} {rs rs' : List unbound.Rule} (n : ℕ) → a ≡ a' → rs ≡ rs' → (rule n a ∷ rs) ≡ (rule n a' ∷ rs')
kept n e es = ap₂ (λ (b : Bool) (l : List unbound.Rule). rule n b ∷ l) e es

pub no_more : ◌≡◌ {A = List unbound.Rule} [] []
no_more = refl

pub names_kept : {a a' : Bool} (five six : Bool) → a ≡ a' → (rule 1 a ∷ rule 5 five ∷ rule 6 six ∷ []) ≡ (rule 1 a' ∷ rule 5 five ∷ rule 6 six ∷ [])
names_kept five six e = kept 1 e refl

pub first_broken : {A : Type 0} (i : ℕ) (rules : List Rule) (k : ℕ) (d : Rule) → k < length rules → (get_or rules k d).1 ≡ false
    → broken i (map plain_rule rules) ≡ broken i (map plain_rule (drop k rules)) → IsStep {A = A} (Err (Broken i (get_or rules k d).0)) (broken i (map plain_rule rules))
first_broken i rules k d h b q = record {
  step =
      q ∙ (at_drop_more (λ (l : List Rule). broken i (map plain_rule l)) rules k d h
      ∙ ap (λ (x : Bool). unless x record { item = i; rule = (get_or rules k d).0 } (broken i (map plain_rule (drop (k + 1) rules)))) b);
}

pub all_kept : {A : Type 0} (x : A) (i : ℕ) (rules : List Rule) (k : ℕ) → length rules ≤ k → broken i (map plain_rule rules) ≡ broken i (map plain_rule (drop k rules)) → IsStep (Ok x) (broken i (map plain_rule rules))
all_kept x i rules k h q = record { step = q ∙ at_drop_all (λ (l : List Rule). broken i (map plain_rule l)) rules k h }

pub step_as : {A : Type 0} {o o' : Option Break} (r : Result A Stop) → o ≡ o' → IsStep r o → IsStep r o'
step_as r e s = subst (λ (x : Option Break). IsStep r x) e s

pub step_none : {A : Type 0} {x : A} {o : Option Break} → IsStep (Ok x) o → o ≡ None
step_none s = s.step

-- ---- one check, and then another

pub leads_memory : (o : Option Break) (m : ℕ) (h new : Context) → Leads o m h new (Err Memory)
leads_memory o m h new = record { leads = tt }

pub leads_out : (o : Option Break) (m : ℕ) (h new : Context) (r : Result ℕ Stop) → IsErrAnd r (λ e. e ≡ Memory) → Leads o m h new r
leads_out o m h new (Ok n) x = absurd x
leads_out o m h new (Err e) x = subst (λ (z : Stop). Leads o m h new (Err z)) (sym x) (leads_memory o m h new)

pub leads_done : {o : Option Break} {m n : ℕ} {h new : Context} → o ≡ None → n ≡ m → new ≡ h → Leads o m h new (Ok n)
leads_done a b c = record { leads = (a, b, c) }

pub leads_as : {o o' : Option Break} {m m' : ℕ} {h h' new : Context} {r : Result ℕ Stop} → o ≡ o' → m ≡ m' → h ≡ h' → Leads o m h new r → Leads o' m' h' new r
leads_as {o} {o'} {m} {m'} {h} {h'} {new} {r} a b c l =
    subst (λ (x : Option Break). Leads x m' h' new r) a (subst (λ (x : ℕ). Leads o x h' new r) b (subst (λ (x : Context). Leads o m x new r) c l))

pub leads_none : {o : Option Break} {m n : ℕ} {h new : Context} → Leads o m h new (Ok n) → o ≡ None
leads_none l = l.leads.0

pub leads_number : {o : Option Break} {m n : ℕ} {h new : Context} → Leads o m h new (Ok n) → n ≡ m
leads_number l = l.leads.1

pub leads_seen : {o : Option Break} {m n : ℕ} {h new : Context} → Leads o m h new (Ok n) → new ≡ h
leads_seen l = l.leads.2

pub judged_err : {A : Type 0} {o o' : Option Break} (rest : Option Break) (m : ℕ) (h new : Context) (r : Result ℕ Stop) {e : Stop} → IsErrAnd r (λ y. y ≡ e) → o ≡ o' → IsStep {A = A} (Err e) o → Leads (o' or rest) m h new r
judged_err rest m h new (Ok n) x q s = absurd x
judged_err {A} {o} {o'} rest m h new (Err y) {e} x q s = subst (λ (z : Stop). Leads (o' or rest) m h new (Err z)) (sym x) (stopped rest m h new e q s)
  where
    stopped : {A : Type 0} {o o' : Option Break} (rest : Option Break) (m : ℕ) (h new : Context) (e : Stop) → o ≡ o' → IsStep {A = A} (Err e) o → Leads (o' or rest) m h new (Err e)
    stopped rest m h new (Broken i n) q s = record { leads = ap (λ (x : Option Break). x or rest) (sym q ∙ s.step) }
    stopped rest m h new Memory q s = record { leads = tt }

pub judged_ok : {A : Type 0} {x : A} {o o' : Option Break} (rest : Option Break) {m : ℕ} {h new : Context} {r : Result ℕ Stop} → o ≡ o' → IsStep (Ok x) o → Leads rest m h new r → Leads (o' or rest) m h new r
judged_ok {A} {x} {o} {o'} rest {m} {h} {new} {r} q s l = subst (λ (y : Option Break). Leads (y or rest) m h new r) (sym s.step ∙ q) l

-- the first of two checks stops
pub leads_stop : {o : Option Break} {m : ℕ} {h new : Context} (rest : Option Break) (m' : ℕ) (h' new' : Context) (r : Result ℕ Stop) {e : Stop} → IsErrAnd r (λ y. y ≡ e) → Leads o m h new (Err e) → Leads (o or rest) m' h' new' r
leads_stop rest m' h' new' (Ok n) x l = absurd x
leads_stop {o} {m} {h} {new} rest m' h' new' (Err y) {e} x l = subst (λ (z : Stop). Leads (o or rest) m' h' new' (Err z)) (sym x) (stopped rest m' h' new' e l)
  where
    stopped : {o : Option Break} {m : ℕ} {h new : Context} (rest : Option Break) (m' : ℕ) (h' new' : Context) (e : Stop) → Leads o m h new (Err e) → Leads (o or rest) m' h' new' (Err e)
    stopped rest m' h' new' (Broken i n) l = record { leads = ap (λ (x : Option Break). x or rest) l.leads }
    stopped rest m' h' new' Memory l = record { leads = tt }

-- the first of two checks goes well
pub leads_on : {o : Option Break} {n : ℕ} {m : ℕ} {h new : Context} (rest : Option Break) {m' : ℕ} {h' new' : Context} {r : Result ℕ Stop} → Leads o m h new (Ok n) → Leads rest m' h' new' r → Leads (o or rest) m' h' new' r
leads_on {o} {n} {m} {h} {new} rest {m'} {h'} {new'} {r} a b = subst (λ (x : Option Break). Leads (x or rest) m' h' new' r) (sym (leads_none a)) b

pub or_none : (o : Option Break) → o or None ≡ o
or_none None = refl
or_none (Some b) = refl

pub or_assoc : (x y z : Option Break) → (x or y) or z ≡ x or (y or z)
or_assoc None y z = refl
or_assoc (Some b) y z = refl

pub kept_first : (i n : ℕ) (b : Bool) (rs : List unbound.Rule) → broken i (rule n b ∷ rs) ≡ None → b ≡ true
kept_first i n true rs h = refl
kept_first i n false rs h = absurd cc

-- ---- loops

pub ahead_start : (o : Option Break) (m : ℕ) (h : Context) → Ahead o o m m h h
ahead_start o m h = record { breaks = refl; number = refl; seen = refl }

pub ahead_as : {o o' p : Option Break} {m m' k : ℕ} {h h' j : Context} → Ahead o o' m m' h h' → o' ≡ p → m' ≡ k → h' ≡ j → Ahead o p m k h j
ahead_as a x y z = record { breaks = a.breaks ∙ x; number = a.number ∙ y; seen = a.seen ∙ z }

-- the loop ends
pub ahead_end : {o : Option Break} {m n : ℕ} {h new : Context} → Ahead o None m n h new → Leads o m h new (Ok n)
ahead_end a = leads_done a.breaks (sym a.number) (sym a.seen)

-- an item stops the loop
pub ahead_stop : {o p : Option Break} {m m' : ℕ} {h h' : Context} (rest : Option Break) {k : ℕ} {j new : Context} (new' : Context) (r : Result ℕ Stop) {e : Stop} → IsErrAnd r (λ y. y ≡ e) → Ahead o (p or rest) m m' h h' → Leads p k j new (Err e) → Leads o m h new' r
ahead_stop {o} {p} {m} {m'} {h} {h'} rest {k} {j} {new} new' r x a l = leads_as (sym a.breaks) refl refl (leads_stop rest m h new' r x l)
