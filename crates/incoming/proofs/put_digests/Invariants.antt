use Rattle.incoming.proofs.Groups.{Putting}
use Rattle.incoming.proofs.put_digests.Given as goal

abbrev pub invariant-loop-l : goal.invariant-loop-l
invariant-loop-l l = Putting l.initial.work l.work l.slots l.fn.group.count l.l l.digests
