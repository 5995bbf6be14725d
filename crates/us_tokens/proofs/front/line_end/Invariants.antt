use Rattle.std.proofs.Common.{◌≡◌, ◌≤◌, length}
use Rattle.us_tokens.specs.Lex.{lexed, Comment}
use Rattle.us_tokens.proofs.front.line_end.Given as goal

abbrev pub invariant-loop-first : goal.invariant-loop-first
invariant-loop-first g l = record { same : lexed g.K.Kind.language l.fn.bytes Comment ≡ lexed g.K.Kind.language l.rest Comment; shorter : length l.rest ≤ length l.fn.bytes }

abbrev pub decreases-loop-first : goal.decreases-loop-first
decreases-loop-first g l = length l.rest
