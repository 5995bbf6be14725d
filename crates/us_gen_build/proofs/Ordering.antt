-- What an order by new buffers leaves.
use Rattle.std.proofs.Common.{◌≡◌, ◌≢◌, ℕ, ◌+◌, ◌*◌, ◌<◌, Bool, true, refl, sym, ap, ◌∙◌, subst, arith, List, [], ◌∷◌, map, length, pos, ℤ, Some}
use Rattle.std.specs.Prelude.{slice_index_or}
use Rattle.us_code.specs.declared.program.Buf.TheVariants as buf
use Rattle.us_code.specs.Plain.{End}
use Rattle.us_code.specs.Run.{Env, State, cells, tick, set_buf, all_long}
use Rattle.us_code.specs.Sort.{ordered}
use Rattle.us_code_laws.specs.Does.{Does}
use Rattle.us_code_laws.proofs.Sequence.{put_same, put_other}
use Rattle.us_code_laws.proofs.Does.{do_end, do_order}
use Rattle.us_code_laws.proofs.Orders.{ordered_by_keys}
use Rattle.us_code_laws.proofs.Sorts.{length_ordered, ordered_cell}
use Rattle.us_gen_build.specs.Orders.{key_bufs, order_block, Sorted, OrdersSort}

cells_are : (env : Env) (s : State) (keys : List ℕ) → map (cells env s) (key_bufs keys) ≡ map s.bufs keys
cells_are env s [] = refl
cells_are env s (k ∷ ks) = ap (λ (xs : List (List ℤ)). s.bufs k ∷ xs) (cells_are env s ks)

as_many : (keys : List ℕ) → length (key_bufs keys) ≡ length keys
as_many [] = refl
as_many (k ∷ ks) = omega (arith, as_many ks)

sorts : (env : Env) (p : ℕ) (keys : List ℕ) (s : State) → all_long (length (s.bufs p)) (map s.bufs keys) ≡ true → Does env (order_block p keys) s (Sorted p (length (s.bufs p)) keys s)
sorts env p keys s long =
    let n = length (s.bufs p) in
    let e = cells_are env s keys in
    let u = set_buf p (map pos (ordered (map (cells env s) (key_bufs keys)) n)) (tick (n * length (key_bufs keys) + 1) s) in
    let here : u.bufs p ≡ map pos (ordered (map s.bufs keys) n) = put_same s.bufs p _ ∙ ap (λ (ks : List (List ℤ)). map pos (ordered ks n)) e in
    let laws = ordered_by_keys in
    do_order env p (key_bufs keys) End s _ (ap (λ (ks : List (List ℤ)). all_long n ks) e ∙ long)
    (do_end env u _ record {
      picks = λ low lt. (lt, ap length here ∙ length_ordered (map s.bufs keys) n, λ x h. ap (λ (xs : List ℤ). slice_index_or xs x (pos 0)) here ∙ ordered_cell (map s.bufs keys) n x);
      within = λ x h. laws.in_range (map s.bufs keys) n x h;
      ascending = λ x y lt h. laws.ascending (map s.bufs keys) n x y lt h;
      all = λ t. laws.all (map s.bufs keys) n t;
      regs = refl;
      bufs = λ c h. put_other s.bufs p _ c h;
      steps = ap (λ (k : ℕ). s.steps + (n * k + 1)) (as_many keys);
    })

pub orders_sort : OrdersSort
orders_sort env p n keys s e long =
    subst (λ (m : ℕ). Does env (order_block p keys) s (Sorted p m keys s)) e (sorts env p keys s (subst (λ (m : ℕ). all_long m (map s.bufs keys) ≡ true) (sym e) long))
