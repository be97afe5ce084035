use Rattle.std.proofs.Common.{◌≡◌, length}
use Rattle.std.specs.Prelude.{is_some}
use Rattle.lldp_text.specs.Words.{words_of}
use Rattle.lldp_text.proofs.splitting.check_quotes.Given as goal

-- the unread rest has a misplaced quote exactly if the line has one
abbrev pub invariant-loop-after : goal.invariant-loop-after
invariant-loop-after l = is_some (words_of l.rest) ≡ is_some (words_of l.line)

abbrev pub decreases-loop-after : goal.decreases-loop-after
decreases-loop-after l = length l.rest
