-- A block changes no name that it doesn't set.
use Rattle.std.proofs.Common.{◌≡◌, ◌≢◌, ℕ, Bool, true, false, cond, eqb, ◌||◌, refl, ◌∙◌, arith, List, map, pos, ℤ, ◌+ℤ◌, Option, Some, None}
use Rattle.std.proofs.lemmas.Bool.Decides.{nat_tests}
use Rattle.us_code.specs.declared.program.Buf.{Buf}
use Rattle.us_code.specs.declared.program.Buf.TheVariants as buf
use Rattle.us_code.specs.Plain.{Code, End, Let, Load, Var, Put, Set, For, Span, If, When, Order}
use Rattle.us_code.specs.Run.{Env, State, exec, value, tick, set_reg, loaded, stored, entered, all_long, sorted, sorted_if}
use Rattle.us_code.specs.Sort.{ordered}
use Rattle.us_code.specs.Names.{is_new_at, writes, assigns}
use Rattle.us_code_laws.proofs.Sequence.{put_other, turns_keep}

or_left : (a b : Bool) → a || b ≡ false → a ≡ false
or_left true b h = absurd cc
or_left false b h = refl

or_right : (a b : Bool) → a || b ≡ false → b ≡ false
or_right true b h = absurd cc
or_right false b h = h

differ : (a b : ℕ) → eqb a b ≡ false → a ≢ b
differ a b h = grind (arith, nat_tests)

sorted_bufs : (b : Buf) (n : ℕ) (ks : List (List ℤ)) (s : State) (x : ℕ) → is_new_at x b ≡ false → (sorted b n ks s).bufs x ≡ s.bufs x
sorted_bufs (buf.New b) n ks s x h = case (all_long n ks)
  where
    case : (q : Bool) → (sorted_if q b (map pos (ordered ks n)) s).bufs x ≡ s.bufs x
    case true = put_other s.bufs b _ x (differ b x h)
    case false = refl
sorted_bufs (buf.Source k) n ks s x h = refl

sorted_regs : (b : Buf) (n : ℕ) (ks : List (List ℤ)) (s : State) (x : ℕ) → (sorted b n ks s).regs x ≡ s.regs x
sorted_regs (buf.New b) n ks s x = case (all_long n ks)
  where
    case : (q : Bool) → (sorted_if q b (map pos (ordered ks n)) s).regs x ≡ s.regs x
    case true = refl
    case false = refl
sorted_regs (buf.Source k) n ks s x = refl

loaded_bufs : (r : ℕ) (xs : List ℤ) (o : Option ℕ) (s : State) (x : ℕ) → (loaded r xs o s).bufs x ≡ s.bufs x
loaded_bufs r xs None s x = refl
loaded_bufs r xs (Some k) s x = refl

stored_bufs : (b : Buf) (xs : List ℤ) (o : Option ℕ) (v : ℤ) (s : State) (x : ℕ) → is_new_at x b ≡ false → (stored b xs o v s).bufs x ≡ s.bufs x
stored_bufs b xs None v s x h = refl
stored_bufs (buf.New b) xs (Some k) v s x h = put_other s.bufs b _ x (differ b x h)
stored_bufs (buf.Source b) xs (Some k) v s x h = refl

pub same_bufs : (env : Env) (c : Code) (s : State) (x : ℕ) → writes x c ≡ false → (exec env c s).bufs x ≡ s.bufs x
same_bufs env End s x h = refl
same_bufs env (Let r e rest) s x h = same_bufs env rest _ x h
same_bufs env (Load r b at rest) s x h = same_bufs env rest _ x h ∙ loaded_bufs r _ _ (tick 1 s) x
same_bufs env (Var r e rest) s x h = same_bufs env rest _ x h
same_bufs env (Put r e rest) s x h = same_bufs env rest _ x h
same_bufs env (Set b at e rest) s x h = same_bufs env rest _ x (or_right _ _ h) ∙ stored_bufs b _ _ _ (tick 1 s) x (or_left _ _ h)
same_bufs env (For r d body rest) s x h =
    same_bufs env rest _ x (or_right _ _ h)
    ∙ turns_keep (λ t u. u.bufs x ≡ s.bufs x) (λ t u. exec env body (set_reg r (pos t) (tick 1 u))) _ (tick 1 s) refl (λ t u lt i. same_bufs env body _ x (or_left _ _ h) ∙ i)
same_bufs env (Span r a b d body rest) s x h =
    same_bufs env rest _ x (or_right _ _ h)
    ∙ turns_keep (λ t u. u.bufs x ≡ s.bufs x) (λ t u. exec env body (set_reg r (value env s.regs a +ℤ pos t) (tick 1 u))) _ (tick 1 s) refl (λ t u lt i. same_bufs env body _ x (or_left _ _ h) ∙ i)
same_bufs env (If l eq r body given other rest) s x h =
    let a = same_bufs env body (tick 1 s) x (or_left _ _ h) in
    let b = same_bufs env other (tick 1 s) x (or_left _ _ (or_right _ _ h)) in
    let m : (q : Bool) → (cond q (exec env body (tick 1 s)) (exec env other (tick 1 s))).bufs x ≡ s.bufs x = elim [ true ↦ a | false ↦ b ] in
    same_bufs env rest _ x (or_right _ _ (or_right _ _ h)) ∙ m _
same_bufs env (When e d r body given other rest) s x h =
    let b = same_bufs env other (tick 1 s) x (or_left _ _ (or_right _ _ h)) in
    let m : (q : Option ℕ) → (entered q (λ k. exec env body (set_reg r (pos k) (tick 1 s))) (exec env other (tick 1 s))).bufs x ≡ s.bufs x = elim [ None ↦ b | Some k ↦ same_bufs env body _ x (or_left _ _ h) ] in
    same_bufs env rest _ x (or_right _ _ (or_right _ _ h)) ∙ m _
same_bufs env (Order b keys rest) s x h = same_bufs env rest _ x (or_right _ _ h) ∙ sorted_bufs b _ _ (tick _ s) x (or_left _ _ h)

loaded_regs : (r : ℕ) (xs : List ℤ) (o : Option ℕ) (s : State) (x : ℕ) → r ≢ x → (loaded r xs o s).regs x ≡ s.regs x
loaded_regs r xs None s x h = put_other s.regs r _ x h
loaded_regs r xs (Some k) s x h = put_other s.regs r _ x h

stored_regs : (b : Buf) (xs : List ℤ) (o : Option ℕ) (v : ℤ) (s : State) (x : ℕ) → (stored b xs o v s).regs x ≡ s.regs x
stored_regs b xs None v s x = refl
stored_regs (buf.New b) xs (Some k) v s x = refl
stored_regs (buf.Source b) xs (Some k) v s x = refl

pub same_regs : (env : Env) (c : Code) (s : State) (x : ℕ) → assigns x c ≡ false → (exec env c s).regs x ≡ s.regs x
same_regs env End s x h = refl
same_regs env (Let r e rest) s x h = same_regs env rest _ x (or_right _ _ h) ∙ put_other s.regs r _ x (differ r x (or_left _ _ h))
same_regs env (Load r b at rest) s x h = same_regs env rest _ x (or_right _ _ h) ∙ loaded_regs r _ _ (tick 1 s) x (differ r x (or_left _ _ h))
same_regs env (Var r e rest) s x h = same_regs env rest _ x (or_right _ _ h) ∙ put_other s.regs r _ x (differ r x (or_left _ _ h))
same_regs env (Put r e rest) s x h = same_regs env rest _ x (or_right _ _ h) ∙ put_other s.regs r _ x (differ r x (or_left _ _ h))
same_regs env (Set b at e rest) s x h = same_regs env rest _ x h ∙ stored_regs b _ _ _ (tick 1 s) x
same_regs env (For r d body rest) s x h =
    same_regs env rest _ x (or_right _ _ (or_right _ _ h))
    ∙ turns_keep (λ t u. u.regs x ≡ s.regs x) (λ t u. exec env body (set_reg r (pos t) (tick 1 u))) _ (tick 1 s) refl (λ t u lt i. same_regs env body _ x (or_left _ _ (or_right _ _ h)) ∙ put_other u.regs r _ x (differ r x (or_left _ _ h)) ∙ i)
same_regs env (Span r a b d body rest) s x h =
    same_regs env rest _ x (or_right _ _ (or_right _ _ h))
    ∙ turns_keep (λ t u. u.regs x ≡ s.regs x) (λ t u. exec env body (set_reg r (value env s.regs a +ℤ pos t) (tick 1 u))) _ (tick 1 s) refl (λ t u lt i. same_regs env body _ x (or_left _ _ (or_right _ _ h)) ∙ put_other u.regs r _ x (differ r x (or_left _ _ h)) ∙ i)
same_regs env (If l eq r body given other rest) s x h =
    let a = same_regs env body (tick 1 s) x (or_left _ _ h) in
    let b = same_regs env other (tick 1 s) x (or_left _ _ (or_right _ _ h)) in
    let m : (q : Bool) → (cond q (exec env body (tick 1 s)) (exec env other (tick 1 s))).regs x ≡ s.regs x = elim [ true ↦ a | false ↦ b ] in
    same_regs env rest _ x (or_right _ _ (or_right _ _ h)) ∙ m _
same_regs env (When e d r body given other rest) s x h =
    let h' = or_right _ _ h in
    let b = same_regs env other (tick 1 s) x (or_left _ _ (or_right _ _ h')) in
    let m : (q : Option ℕ) → (entered q (λ k. exec env body (set_reg r (pos k) (tick 1 s))) (exec env other (tick 1 s))).regs x ≡ s.regs x = elim [ None ↦ b | Some k ↦ same_regs env body _ x (or_left _ _ h') ∙ put_other s.regs r _ x (differ r x (or_left _ _ h)) ] in
    same_regs env rest _ x (or_right _ _ (or_right _ _ h')) ∙ m _
same_regs env (Order b keys rest) s x h = same_regs env rest _ x h ∙ sorted_regs b _ _ (tick _ s) x
