use Rattle.incoming.proofs.Incoming.{no_in_edges-is}
use Rattle.incoming.proofs.digest_of_no_in_edges.Goals as goal

pub returns : goal.returns
returns c = no_in_edges-is _ c.digest.ensures
