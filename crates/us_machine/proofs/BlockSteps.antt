-- A block that runs statement by statement.
use Rattle.std.proofs.Common.{◌≡◌, ℕ, ◌+◌, ◌<◌, ◌≤◌, List, length, get_or, take, take_all, drop, ℤ, sym, ap, ◌∙◌, subst, arith, Err}
use Rattle.us_raw.specs.Region.{Lists}
use Rattle.us_code.specs.declared.program.Stmt.{Stmt}
use Rattle.us_code.specs.declared.program.Block.{Block}
use Rattle.us_code.specs.Plain.{Code, ◌+++◌, plain_list, alone, tree_of}
use Rattle.us_code.specs.Run.{State, exec}
use Rattle.us_code.specs.Typing.{Context, outer}
use Rattle.us_code.proofs.Trees.{list_nil}
use Rattle.us_code_laws.proofs.Sequence.{exec_append}
use Rattle.us_machine.specs.declared.stop.RunStop.{RunStop}
use Rattle.us_machine.specs.declared.tables.Tables.{Tables}
use Rattle.us_machine.specs.Steps.{Shows}
use Rattle.us_machine.specs.Tables.{env_of}
use Rattle.us_machine.specs.Walks.{Stands, Ready, Reaches, Leads, state_of}
use Rattle.us_machine.proofs.Grow.{grows}
use Rattle.us_machine.proofs.Leading.{drop_is, take_is, parts_are, shows_self, worse}
use Rattle.us_machine.proofs.Readying.{ready_first, ready_after}

module _ (t : Tables) (sources : List (List ℤ)) (r : Lists) (regs : ℕ → ℤ) (steps : ℕ) (xs : List Stmt) where
  -- the state before the block
  abbrev S : ℕ → State
  S n = state_of t r regs n

  pub block_ready : (b : Block) (g : Context) → tree_of b ≡ plain_list xs → Ready t sources r regs g (tree_of b) → (h : Context) × Ready t sources r regs h (plain_list (drop 0 xs))
  block_ready b g e y = (g, subst (λ (c : Code). Ready t sources r regs g c) e y)

  pub block_begins : Stands t sources r → (n : ℕ) → Shows t.budget steps n → Reaches t sources (exec (env_of t sources) (plain_list (take 0 xs)) (S n)) r regs steps
  block_begins st n h = record { count = n; is = ap (λ (c : Code). exec (env_of t sources) c (S n)) list_nil; shows = h; stands = st }

  pub block_ends : (b : Block) (i : ℕ) (q : Lists) (us : ℕ → ℤ) (k : ℕ) → length xs ≤ i → tree_of b ≡ plain_list xs → ((n : ℕ) → Shows t.budget steps n → Reaches t sources (exec (env_of t sources) (plain_list (take i xs)) (S n)) q us k)
      → (n : ℕ) → Shows t.budget steps n → Reaches t sources (exec (env_of t sources) (tree_of b) (S n)) q us k
  block_ends b i q us k le tree reached n h =
      let re = reached n h in
      record { count = re.count; is = ap (λ (c : Code). exec (env_of t sources) c (S n)) (tree ∙ ap plain_list (sym (take_all i xs le))) ∙ re.is; shows = re.shows; stands = re.stands }

  module _ (i : ℕ) (x : Stmt) (q : Lists) (us : ℕ → ℤ) (k : ℕ) (lt : i < length xs) (at : x ≡ get_or xs i x) (reached : (n : ℕ) → Shows t.budget steps n → Reaches t sources (exec (env_of t sources) (plain_list (take i xs)) (S n)) q us k) where
    pub stmt_ready : (g : Context) → Ready t sources q us g (plain_list (drop i xs)) → Ready t sources q us g (alone x +++ plain_list (drop (i + 1) xs))
    stmt_ready g y = subst (λ (c : Code). Ready t sources q us g c) (drop_is xs i x lt at) y

    pub stmt_first : (g : Context) → Ready t sources q us g (plain_list (drop i xs)) → Ready t sources q us g (alone x)
    stmt_first g y = ready_first t sources q us g (alone x) (plain_list (drop (i + 1) xs)) (stmt_ready g y)

    -- the whole block goes on from the statement
    whole : (n : ℕ) (h : Shows t.budget steps n) → exec (env_of t sources) (plain_list xs) (S n) ≡ exec (env_of t sources) (plain_list (drop (i + 1) xs)) (exec (env_of t sources) (alone x) (state_of t q us (reached n h).count))
    whole n h =
        ap (λ (c : Code). exec (env_of t sources) c (S n)) (parts_are xs i)
        ∙ (exec_append (env_of t sources) (plain_list (take i xs)) (plain_list (drop i xs)) (S n)
        ∙ (ap (exec (env_of t sources) (plain_list (drop i xs))) (reached n h).is
        ∙ (ap (λ (c : Code). exec (env_of t sources) c (state_of t q us (reached n h).count)) (drop_is xs i x lt at)
        ∙ exec_append (env_of t sources) (alone x) (plain_list (drop (i + 1) xs)) (state_of t q us (reached n h).count))))

    pub block_stops : (b : Block) → tree_of b ≡ plain_list xs → (e : RunStop) (q' : Lists) (us' : ℕ → ℤ) (k' : ℕ) → ((m : ℕ) → Shows t.budget k m → Leads t sources (Err e) (exec (env_of t sources) (alone x) (state_of t q us m)) q' us' k')
        → (n : ℕ) → Shows t.budget steps n → Leads t sources (Err e) (exec (env_of t sources) (tree_of b) (S n)) q' us' k'
    block_stops b tree e q' us' k' l n h =
        let u = exec (env_of t sources) (alone x) (state_of t q us (reached n h).count) in
        let same : exec (env_of t sources) (tree_of b) (S n) ≡ exec (env_of t sources) (plain_list (drop (i + 1) xs)) u = ap (λ (c : Code). exec (env_of t sources) c (S n)) tree ∙ whole n h in
        worse t sources e u (exec (env_of t sources) (tree_of b) (S n)) q' q' us' us' k' k' (omega (arith, grows (env_of t sources) (plain_list (drop (i + 1) xs)) u, ap (λ (v : State). v.steps) same)) (l (reached n h).count (reached n h).shows)

    module _ (q' : Lists) (us' : ℕ → ℤ) (k' : ℕ) (l : (m : ℕ) → Shows t.budget k m → Reaches t sources (exec (env_of t sources) (alone x) (state_of t q us m)) q' us' k') where
      pub rest_ready : (g : Context) → Ready t sources q us g (plain_list (drop i xs)) → (h : Context) × Ready t sources q' us' h (plain_list (drop (i + 1) xs))
      rest_ready g y =
          let d = l k (shows_self t.budget k) in
          (outer g (alone x), ready_after t sources q q' us us' g (alone x) (plain_list (drop (i + 1) xs)) k d.count d.is d.stands (stmt_ready g y))

      pub one_more : (n : ℕ) → Shows t.budget steps n → Reaches t sources (exec (env_of t sources) (plain_list (take (i + 1) xs)) (S n)) q' us' k'
      one_more n h =
          let d = l (reached n h).count (reached n h).shows in
          record {
            count = d.count;
            is = ap (λ (c : Code). exec (env_of t sources) c (S n)) (take_is xs i x lt at)
                ∙ (exec_append (env_of t sources) (plain_list (take i xs)) (alone x) (S n)
                ∙ (ap (exec (env_of t sources) (alone x)) (reached n h).is ∙ d.is));
            shows = d.shows;
            stands = d.stands;
          }
