use Rattle.lanes.specs.Lanes.{word_on}
use Rattle.lanes.proofs.next_word.Goals as goal

pub returns : goal.returns
unfolding word_on
returns c = cc
