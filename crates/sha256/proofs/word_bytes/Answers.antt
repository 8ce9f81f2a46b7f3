use Rattle.std.proofs.Common.{rules}
use Rattle.sha256.proofs.Arrays.{spelled_none, spelled-more}
use Rattle.sha256.proofs.word_bytes.Goals as goal

pub loop-i-init : goal.loop-i-init
loop-i-init c = search (spelled_none, rules)

pub loop-i-preserved : goal.loop-i-preserved
loop-i-preserved c = search (spelled-more, rules)
