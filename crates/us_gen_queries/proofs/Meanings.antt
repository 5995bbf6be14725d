-- The pieces do what they are for.
use Rattle.std.specs.Prelude.{None, All}
use Rattle.std.specs.List.{filter}
use Rattle.std.proofs.Common.{◌≡◌, ℕ, ◌^◌, suc, ◌+◌, ◌*◌, ◌<◌, ◌≤◌, true, refl, sym, ap, ap₂, ◌∙◌, subst, inl, inr, arith, List, [], ◌∷◌, map, length}
use Rattle.std.proofs.lemmas.List.{length-map}
use Rattle.std.proofs.lemmas.List.Elements.{All-nil, All-cons, All-head, All-tail}
use Rattle.us_code.specs.declared.pieces.Columns.{Columns}
use Rattle.us_code.specs.Plain.{PhaseTree}
use Rattle.us_code.specs.Runs.{World, phases}
use Rattle.us_code.specs.Typing.{after_phases}
use Rattle.us_expr.specs.declared.queries.Cond.{Cond}
use Rattle.us_expr.specs.declared.queries.Query.{Query as QueryCode}
use Rattle.us_expr.specs.Value.{IsWithin}
use Rattle.us_format.specs.Matrix.{Entry, Shape}
use Rattle.us_format.specs.Declaration.{Query, Declaration, argument, query_of}
use Rattle.us_format.specs.Buffers.{holds}
use Rattle.us_decl.specs.Declares.{Declared, IsValid}
use Rattle.us_judge.specs.Acceptance.{first_refusal}
use Rattle.us_judge.specs.Format.{part_at}
use Rattle.us_judge.specs.Views.{declaration_of}
use Rattle.us_judge.proofs.LawfulDeclarations.{accepted-declaration}
use Rattle.us_judge.proofs.NamesBelow.{names-valid}
use Rattle.us_judge.proofs.SomePart.{short-part}
use Rattle.us_gen.specs.Goes.{Leads}
use Rattle.us_gen.proofs.Going.{leads_none}
use Rattle.us_query_loops.specs.Chosen.{is_first, goes_to}
use Rattle.us_query_loops.specs.Laws.{ConditionsChoose}
use Rattle.us_query_loops.proofs.Choosing.{entries-are-chosen}
use Rattle.us_limits.specs.Orders.{HaveNoOrder}
use Rattle.us_limits.specs.Small.{KeepText}
use Rattle.us_limits.proofs.Phases.{none-keep, text-looser}
use Rattle.us_query_limits.specs.Texts.{HasShortNumbers}
use Rattle.us_query_limits.proofs.Phases.{counts-keep-limits, selects-keep-limits}
use Rattle.us_gen_counting.specs.Answers.{Answers}
use Rattle.us_gen_counting.specs.Entries.{HoldEntries}
use Rattle.us_gen_counting.specs.Phases.{count_phases, buffers}
use Rattle.us_gen_counting.specs.Rooms.{IsCountable, SeesColumns, Fit, SeesAnswer}
use Rattle.us_gen_counting.specs.Runs.{tables_share, lanes_share, HoldsCounts}
use Rattle.us_gen_counting.specs.Selected.{base, select_phases, IsSelected}
use Rattle.us_gen_counting.specs.Selects.{HoldsPart}
use Rattle.us_gen_counting.proofs.Apart.{buffers_are_new}
use Rattle.us_gen_counting.proofs.ListFits.{counts_typed}
use Rattle.us_gen_counting.proofs.ListRuns.{counts}
use Rattle.us_gen_counting.proofs.PhaseRuns.{leads_looser}
use Rattle.us_gen_counting.proofs.SelectFits.{select_typed}
use Rattle.us_gen_counting.proofs.SelectRuns.{selects}
use Rattle.us_gen_queries.specs.Accepted.{HeadSelects}
use Rattle.us_gen_queries.specs.Meaning.{CountsPart, SelectsPart, selection_room}
use Rattle.us_gen_queries.specs.Plain.{bare}
use Rattle.us_gen_queries.proofs.Countable.{bounds-small, parts_count, heads_select}

-- ---- what the code asks

pub codes_within : (qs : List QueryCode) → All IsCountable (map query_of qs) → All (λ q. IsWithin 32 (argument (query_of q))) qs
codes_within [] h = All-nil (λ q. IsWithin 32 (argument (query_of q)))
codes_within (q ∷ qs) h =
    All-cons (λ q. IsWithin 32 (argument (query_of q))) q qs (All-head IsCountable (query_of q) (map query_of qs) h).within (codes_within qs (All-tail IsCountable (query_of q) (map query_of qs) h))

module _ (x : Declared) (v : IsValid x) (e : first_refusal (declaration_of x) ≡ None) (k : ℕ) (lt : k < length (declaration_of x).parts) where
  pub part_countable : All IsCountable (part_at (declaration_of x) k).queries
  part_countable = parts_count x v e k _ lt

  pub part_names : (part_at (declaration_of x) k).names ≤ 32
  part_names = (names-valid x v k _ lt).few

  pub part_queries : length (part_at (declaration_of x) k).queries ≤ 16
  part_queries = (short-part x k v lt).queries

-- as many codes as queries
pub codes_few : (qs : List QueryCode) (rs : List Query) (n : ℕ) → map query_of qs ≡ rs → length rs ≤ n → length qs ≤ n
codes_few qs rs n e le = omega (arith, length-map qs query_of, ap (λ (xs : List Query). length xs) e, le)

-- ---- counting

pub counts_part : (s : Shape) (rs qs : List Query) (cs plain : Columns) (names n next : ℕ) (ps : List PhaseTree) (out : Columns) (bs : List ℕ) → rs ≡ qs → plain ≡ bare cs → next ≡ n → All IsCountable qs
    → ps ≡ count_phases s plain rs next → Answers plain rs names next out → bs ≡ buffers rs next → HasShortNumbers s (bare cs) → length qs ≤ 16 → n < 2 ^ 31 → CountsPart s qs cs n ps out bs
counts_part s rs qs cs plain names n next ps out bs eq ec en ok phased answers buffered short few low =
    let is : ps ≡ count_phases s (bare cs) qs n = phased ∙ (ap (λ (c : Columns). count_phases s c rs next) ec ∙ ap₂ (λ (xs : List Query) (k : ℕ). count_phases s (bare cs) xs k) eq en) in
    let a : Answers (bare cs) qs names n out =
    subst (λ (k : ℕ). Answers (bare cs) qs names k out) en (subst (λ (xs : List Query). Answers (bare cs) xs names next out) eq (subst (λ (c : Columns). Answers c rs names next out) ec answers)) in
    let b : bs ≡ buffers qs n = buffered ∙ ap₂ (λ (xs : List Query) (k : ℕ). buffers xs k) eq en in
    record {
      leads = λ w m es given small.
          subst (λ (ps : List PhaseTree). Leads n (32 * ((1 + length qs) * (length es + 1 + (tables_share m s qs + lanes_share s qs)))) w (phases ps w) (λ u. HoldsCounts u s out m es qs n)) (sym is)
          (counts w s (bare cs) out qs names m es n given ok small a);
      typed = λ g room seen.
          subst (λ (ps : List PhaseTree). Fit g ps n (n + 64 * length qs) × SeesAnswer (after_phases g ps) out qs n) (sym is) (counts_typed g s (bare cs) out qs names n room seen refl ok a);
      text = subst (λ (ps : List PhaseTree). KeepText 4096 ps) (sym is) (text-looser (omega (arith, few)) (counts-keep-limits s (bare cs) qs n short ok (omega (arith, few, low))));
      unsorted = λ none. subst (λ (ps : List PhaseTree). HaveNoOrder ps) (sym is) (subst (λ (xs : List Query). HaveNoOrder (count_phases s (bare cs) xs n)) (sym none) tt);
      are = b;
      new = buffers_are_new qs n;
    }

-- ---- selecting

all_pass : (xs : List Entry) → filter (λ x. true) xs ≡ xs
all_pass [] = refl
all_pass (x ∷ xs) = ap (λ (ys : List Entry). x ∷ ys) (all_pass xs)

module _ (s : Shape) (x : Declared) (k : ℕ) (cs : Columns) (n : ℕ) (ps : List PhaseTree) (to : Columns) (v : IsValid x) (e : first_refusal (declaration_of x) ≡ None) where
  abbrev d : Declaration
  d = declaration_of x

  parts : length d.parts ≡ suc (length d.conds)
  parts = omega (arith, (accepted-declaration x v e).one_more)

  pub selects_split : (plain : Columns) (head : List Query) (conds : List Cond) (next : ℕ) → plain ≡ bare cs → d.head ≡ head → d.conds ≡ conds → next ≡ n → ps ≡ select_phases s plain head conds k to next
      → IsSelected to (base head next) → HasShortNumbers s (bare cs) → length head ≤ 16 → n < 2 ^ 31 → 1 ≤ length conds → SelectsPart s d k cs n ps to
  selects_split plain head conds next ec eh ek en phased selected short few low some =
      let most : length d.head ≤ 16 = omega (arith, few, ap (λ (qs : List Query). length qs) eh) in
      let heads : HeadSelects x = heads_select x v e in
      let is : ps ≡ select_phases s (bare cs) d.head d.conds k to n = phased ∙ (ap (λ (c : Columns). select_phases s c head conds k to next) ec
      ∙ (ap (λ (xs : List Query). select_phases s (bare cs) xs conds k to next) (sym eh) ∙ ap₂ (λ (xs : List Cond) (y : ℕ). select_phases s (bare cs) d.head xs k to y) (sym ek) en)) in
      let new : IsSelected to (base d.head n) = subst (λ (y : ℕ). IsSelected to y) (ap₂ (λ (xs : List Query) (y : ℕ). base xs y) (sym eh) en) selected in
      record {
        leads = λ w m es given.
            subst (λ (ps : List PhaseTree). Leads n (32 * ((1 + length d.head) * (length es + 1))) w (phases ps w) (λ u. HoldsPart u s d to m es k)) (sym is)
            (selects w s d (bare cs) to m es k n given heads.countable heads.counts heads.named heads.few parts new);
        typed = λ g room seen.
            let high : base d.head n + 64 ≡ n + selection_room d = omega arith in
            let t = select_typed g s (bare cs) to d.head d.conds k n room seen refl heads.countable new in
            subst (λ (ps : List PhaseTree). Fit g ps n (n + selection_room d) × SeesColumns (after_phases g ps) to) (sym is)
            (subst (λ (y : ℕ). Fit g (select_phases s (bare cs) d.head d.conds k to n) n y) high t.0, t.1);
        text =
            subst (λ (ps : List PhaseTree). KeepText 4096 ps) (sym is)
            (text-looser (omega (arith, most)) (selects-keep-limits s (bare cs) to d.head d.conds k n short (omega (arith, new.count, most, low)) heads.countable heads.few (bounds-small x v) (omega (arith, most, low))));
        unsorted = λ one. absurd (omega (arith, one, parts, some, ap (λ (cs : List Cond). length cs) ek));
        columns = record {
          count = inr (omega (arith, new.count), omega (arith, new.count));
          i = inr (omega (arith, new.i), omega (arith, new.i));
          j = inr (omega (arith, new.j), omega (arith, new.j));
          v = inr (omega (arith, new.v), omega (arith, new.v));
          vars = new.vars;
        };
      }

  pub selects_whole : d.conds ≡ [] → ps ≡ [] → to ≡ bare cs → SelectsPart s d k cs n ps to
  selects_whole q none given_ones = record {
    leads = λ w m es given.
        let cost = 32 * ((1 + length d.head) * (length es + 1)) in
        let Q : World → Type 0 = λ u. HoldsPart u s d to m es k in
        let choose : ConditionsChoose s d m es k = entries-are-chosen s d m es given.held.shuffled parts k in
        let all : (xs : List Entry) → filter (goes_to m s d k) xs ≡ xs = λ xs. ap (λ (conds : List Cond). filter (is_first (holds m s d) conds k) xs) q ∙ all_pass xs in
        let held : HoldEntries w.env w.bufs to m es = subst (λ (c : Columns). HoldEntries w.env w.bufs c m es) (sym given_ones) given.held in
        let here : Q w = record {
          share = choose.part;
          entries = subst (λ (ys : List Entry). HoldEntries w.env w.bufs to ys (filter (goes_to m s d k) es)) (sym (all m)) (subst (λ (ys : List Entry). HoldEntries w.env w.bufs to m ys) (sym (all es)) held);
        } in
        subst (λ (ps : List PhaseTree). Leads n cost w (phases ps w) Q) (sym none) (leads_looser n 0 cost [] w Q (omega arith) (leads_none n w Q here));
    typed = λ g room seen.
        let fit : Fit g [] n (n + selection_room d) = record {
          typed = tt;
          more = record {
            room = record { regs = room.regs; bufs = λ b lb. room.bufs b (omega (arith, lb)); dims = λ b lb. room.dims b (omega (arith, lb)) };
            sources = refl;
            bufs = λ b lb. refl;
            dims = λ b lb. refl;
          };
        } in
        subst (λ (ps : List PhaseTree). Fit g ps n (n + selection_room d) × SeesColumns (after_phases g ps) to) (sym none) (fit, subst (λ (c : Columns). SeesColumns g c) (sym given_ones) seen);
    text = subst (λ (ps : List PhaseTree). KeepText 4096 ps) (sym none) (text-looser (omega arith) none-keep);
    unsorted = λ one. subst (λ (ps : List PhaseTree). HaveNoOrder ps) (sym none) tt;
    columns = record {
      count = inl (ap (λ (c : Columns). c.count) given_ones);
      i = inl (ap (λ (c : Columns). c.i) given_ones);
      j = inl (ap (λ (c : Columns). c.j) given_ones);
      v = inl (ap (λ (c : Columns). c.v) given_ones);
      vars = ap (λ (c : Columns). c.vars.items) given_ones;
    };
  }
