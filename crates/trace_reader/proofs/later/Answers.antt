use Rattle.question.proofs.Keys.{key_below}
use Rattle.trace_reader.proofs.Passing.{first-later, then_later}
use Rattle.trace_reader.proofs.later.Goals as goal

pub returns-then-i-eq0 : goal.returns-then-i-eq0
returns-then-i-eq0 c = search first-later

pub returns : goal.returns
returns c = search (then_later, key_below)
