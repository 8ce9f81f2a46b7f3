use lib.ListN.{length}
use Prim.Native.Nat.{◌-◌}
use Rattle.proof_reader.specs.Spans.{Listed}
use Rattle.proof_reader.proofs.Listing.{Writing}
use Rattle.proof_reader.proofs.put_list.Given as goal

abbrev pub invariant-loop-next : goal.invariant-loop-next
invariant-loop-next l = (fits : Listed l.answer l.start l.end (length l.initial.out)) → Writing l.answer l.end fits.names l.initial.out l.out l.next l.at

abbrev pub decreases-loop-next : goal.decreases-loop-next
decreases-loop-next l = l.end - l.next
