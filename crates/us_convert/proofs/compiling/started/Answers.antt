use Rattle.std.proofs.Common.{◌≡◌, ◌+◌, ℕ, List, [], map, ap, ◌∙◌, sym, subst, arith}
use Rattle.us_format.specs.Program.{plain_shape}
use Rattle.us_judge.specs.Views.{declaration_of}
use Rattle.us_code.specs.Plain.{phase_tree}
use Rattle.us_gen_listing.specs.Unpack.{Unpacks, unpacking_room}
use Rattle.us_gen_joined.proofs.Joined.{unpacked_is_listed}
use Rattle.us_right.specs.Draft.{IsMadeTo}
use Rattle.us_right.proofs.Starting.{starts}
use Rattle.us_convert.proofs.compiling.started.Goals as goal

pub returns-clause-made : goal.returns-clause-made
returns-clause-made c = λ sorts d.
    let piece : Unpacks (plain_shape c.args.shape) c.args.from.now 0 c.in_ok-piece.piece =
    subst (λ (n : ℕ). Unpacks (plain_shape c.args.shape) c.args.from.now n c.in_ok-piece.piece) c.new-fresh.ensures c.in_ok-piece.ensures.piece in
    let made : IsMadeTo sorts (plain_shape c.args.shape) (declaration_of c.args.from.now) d c.in_ok-piece.piece.columns 0 (0 + unpacking_room) (map phase_tree c.in_ok-piece.piece.phases) [] =
    starts sorts (plain_shape c.args.shape) c.args.from.now d c.in_ok-piece.piece.columns (map phase_tree c.in_ok-piece.piece.phases)
    (unpacked_is_listed (plain_shape c.args.shape) c.args.from.now 0 c.in_ok-piece.piece c.requires.valid c.requires.accepted c.requires.rows.high c.requires.cols.high piece) in
    let taken : c.unpack.new.fresh ≡ 0 + unpacking_room = c.in_ok-piece.ensures.taken ∙ ap (λ (n : ℕ). n + unpacking_room) c.new-fresh.ensures in
    record {
      made =
          subst (λ (bs : List ℕ). IsMadeTo sorts (plain_shape c.args.shape) (declaration_of c.args.from.now) d c.in_ok-piece.piece.columns 0 c.unpack.new.fresh (map phase_tree c.in_ok-piece.piece.phases) bs) (sym c.new.ensures)
          (subst (λ (n : ℕ). IsMadeTo sorts (plain_shape c.args.shape) (declaration_of c.args.from.now) d c.in_ok-piece.piece.columns 0 n (map phase_tree c.in_ok-piece.piece.phases) []) (sym taken) made);
    }

pub returns-clause-low : goal.returns-clause-low
returns-clause-low c =
    let x = c.in_ok-piece.ensures.piece.columns in
    let taken = c.in_ok-piece.ensures.taken in
    record { count = omega (arith, x.0.to, taken); i = omega (arith, x.1.to, taken); j = omega (arith, x.2.to, taken); v = omega (arith, x.3.to, taken) }
