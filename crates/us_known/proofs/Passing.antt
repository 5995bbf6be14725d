-- Passes over the rules.
use Rattle.std.proofs.Common.{◌≡◌, ℕ, zero, suc, ◌+◌, ◌<◌, ◌⊎◌, List, [], ◌∷◌, length, get_or, Bool, true, false, not, sym, refl, ap, ◌∙◌, subst, inl, inr, arith, All}
use Rattle.std.specs.Prelude.{slice_set}
use Rattle.std.proofs.lemmas.Bool.{false≢true, cases_eq}
use Rattle.std.proofs.lemmas.List.{get_or-set_same, get_or-set_other, length-set, get_or_default}
use Rattle.us_format.proofs.Counting.{count-cons}
use Rattle.us_known.specs.declared.rules.Rule.{Rule}
use Rattle.us_known.specs.Rules.{IsRuleBelow, flag, missing, Follows, Leads, Applies, IsIdle}

pub leads-refl : (rules : List Rule) (old : List Bool) → Leads rules old old
leads-refl rules old = record { same_length = refl; kept = λ k h. h; least = λ holds closed h. h }

pub leads-trans : (rules : List Rule) (a b c : List Bool) → Leads rules a b → Leads rules b c → Leads rules a c
leads-trans rules a b c p q = record {
  same_length = q.same_length ∙ p.same_length;
  kept = λ k h. q.kept k (p.kept k h);
  least = λ holds closed h. q.least holds closed (p.least holds closed h);
}

pub missing-set : (bs : List Bool) (g : ℕ) → g < length bs → flag bs g ≡ false → missing (slice_set bs g true) < missing bs
missing-set [] g l h = absurd (omega (arith, l))
missing-set (b ∷ bs) zero l h = rw (count-cons not true bs, count-cons not b bs, h) (omega arith)
missing-set (b ∷ bs) (suc g) l h = rw (count-cons not b (slice_set bs g true), count-cons not b bs) (omega (arith, missing-set bs g (omega (arith, l)) h))

-- a rule that applies leads on
pub leads-step : (rules : List Rule) (r : Rule) (b c : List Bool) → ((holds : ℕ → Bool) → All (Follows holds) rules → Follows holds r) → IsRuleBelow (length b) r → Applies r b c → Leads rules b c
leads-step rules r b c member below ap_ = record {
  same_length = ap length ap_.set ∙ length-set b r.gives true;
  kept = λ k h. subst (λ (l : List Bool). flag l k ≡ true) (sym ap_.set) (kept k (cases_eq k r.gives) h);
  least = λ holds closed h k f. least holds (member holds closed) h k (cases_eq k r.gives) (subst (λ (l : List Bool). flag l k ≡ true) ap_.set f);
}
  where
    kept : (k : ℕ) → ((k ≡ r.gives) ⊎ (k ≡ r.gives → ⊥)) → flag b k ≡ true → flag (slice_set b r.gives true) k ≡ true
    kept k (inl e) h = subst (λ (z : ℕ). flag (slice_set b r.gives true) z ≡ true) (sym e) (get_or-set_same b r.gives true false below.gives)
    kept k (inr n) h = get_or-set_other b r.gives k true false n ∙ h

    least : (holds : ℕ → Bool) → Follows holds r → ((k : ℕ) → flag b k ≡ true → holds k ≡ true) → (k : ℕ) → ((k ≡ r.gives) ⊎ (k ≡ r.gives → ⊥)) → flag (slice_set b r.gives true) k ≡ true → holds k ≡ true
    least holds follows h k (inl e) f = subst (λ (z : ℕ). holds z ≡ true) (sym e) (follows (h r.first ap_.first) (h r.second ap_.second))
    least holds follows h k (inr n) f = h k (sym (get_or-set_other b r.gives k true false n) ∙ f)

-- after the first k rules of a pass
pub record IsPassed (rules : List Rule) (k : ℕ) (initial known : List Bool) (changed : Bool) : Type 0 where
  pub leads : Leads rules initial known
  pub idle : changed ≡ false → (known ≡ initial) × ((i : ℕ) (d : Rule) → i < k → Follows (flag known) (get_or rules i d))
  pub fewer : changed ≡ true → missing known < missing initial

pub pass-start : (rules : List Rule) (known : List Bool) → IsPassed rules 0 known known false
pass-start rules known = record { leads = leads-refl rules known; idle = λ e. (refl, λ i d l. absurd (omega (arith, l))); fewer = λ e. absurd (false≢true e) }

pub pass-applied : (rules : List Rule) (k : ℕ) (initial known new : List Bool) (changed : Bool) (r : Rule) → IsPassed rules k initial known changed → k < length rules → r ≡ get_or rules k r → IsRuleBelow (length known) r → Applies r known new
    → IsPassed rules (k + 1) initial new true
pass-applied rules k initial known new changed r p l at below h = record {
  leads = leads-trans rules initial known new p.leads (leads-step rules r known new (λ holds closed. subst (λ (z : Rule). Follows holds z) (sym at) (closed k r l)) below h);
  idle = λ e. absurd (false≢true (sym e));
  fewer = λ e. go changed refl;
}
  where
    less : missing new < missing known
    less = subst (λ (z : List Bool). missing z < missing known) (sym h.set) (missing-set known r.gives below.gives h.gives)

    go : (b : Bool) → changed ≡ b → missing new < missing initial
    go true e = omega (arith, less, p.fewer e)
    go false e = subst (λ (z : List Bool). missing new < missing z) (p.idle e).0 less

pub pass-idle : (rules : List Rule) (k : ℕ) (initial known new : List Bool) (changed : Bool) (r : Rule) → IsPassed rules k initial known changed → k < length rules → r ≡ get_or rules k r → IsIdle r known new
    → IsPassed rules (k + 1) initial new changed
pass-idle rules k initial known new changed r p l at h = record {
  leads = subst (λ (z : List Bool). Leads rules initial z) (sym h.same) p.leads;
  idle = λ e. (h.same ∙ (p.idle e).0, λ i d m. subst (λ (z : List Bool). Follows (flag z) (get_or rules i d)) (sym h.same) (one e i d (cases_eq i k) m));
  fewer = λ e. subst (λ (z : List Bool). missing z < missing initial) (sym h.same) (p.fewer e);
}
  where
    one : changed ≡ false → (i : ℕ) (d : Rule) → ((i ≡ k) ⊎ (i ≡ k → ⊥)) → i < k + 1 → Follows (flag known) (get_or rules i d)
    one e i d (inl q) m = subst (λ (z : Rule). Follows (flag known) z) (at ∙ get_or_default rules k r d l ∙ ap (λ j. get_or rules j d) (sym q)) h.closed
    one e i d (inr n) m = (p.idle e).1 i d (omega (arith, m, n))
