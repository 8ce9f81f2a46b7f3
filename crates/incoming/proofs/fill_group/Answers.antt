use Rattle.incoming.proofs.Incoming.{group-done}
use Rattle.incoming.proofs.Groups.{members}
use Rattle.incoming.proofs.fill_group.Goals as goal

pub gather-group-requires : goal.gather-group-requires
gather-group-requires c = (c.requires.0.0.ready, c.requires.0.1)

pub put_strings-requires : goal.put_strings-requires
put_strings-requires c = (c.requires.0.2, members _ _ _ _ _ _ _ c.requires.0.0.ready c.gather-group.ensures)

pub put_digests-requires : goal.put_digests-requires
put_digests-requires c = members _ _ _ _ _ _ _ c.requires.0.0.ready c.gather-group.ensures

pub returns : goal.returns
returns c = group-done c.args.work.now _ _ _ c.args.n c.args.first _ _ _ _ c.requires.0.0 c.gather-group.ensures c.put_strings.ensures c.digests-digests.ensures c.put_digests.ensures
