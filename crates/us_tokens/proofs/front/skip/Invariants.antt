use Rattle.std.proofs.Common.{◌≡◌, ◌≤◌, length}
use Rattle.us_tokens.specs.Lex.{lexed, Between}
use Rattle.us_tokens.proofs.front.skip.Given as goal

abbrev pub invariant-loop-first : goal.invariant-loop-first
invariant-loop-first g l = record { same : lexed g.K.Kind.language l.fn.bytes Between ≡ lexed g.K.Kind.language l.rest Between; shorter : length l.rest ≤ length l.fn.bytes }

abbrev pub decreases-loop-first : goal.decreases-loop-first
decreases-loop-first g l = length l.rest
