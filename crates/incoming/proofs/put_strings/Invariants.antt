use Rattle.incoming.proofs.Groups.{Stringing}
use Rattle.incoming.proofs.put_strings.Given as goal

abbrev pub invariant-loop-l : goal.invariant-loop-l
invariant-loop-l l = Stringing l.work l.slots l.fn.group.count l.l l.b
