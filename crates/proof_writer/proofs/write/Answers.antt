use Rattle.accumulator.specs.Trees.{header_of}
use Rattle.proof_writer.proofs.Writing.{no_entity-ready, no_entity-done, unmet-ready, unmet-done, found-ready, found-done, listed-ready, listed-done}
use Rattle.proof_writer.proofs.write.Goals as goal

pub put_front-requires : goal.put_front-requires
put_front-requires c =
    (no_entity-ready c.args.work.now _ c.args.plan _ _ c.in-NoEntity.is c.requires.0.0 _ c.requires.0.1, c.requires.1)

pub put_walk-requires : goal.put_walk-requires
put_walk-requires c =
    (unmet-ready c.args.work.now _ c.args.plan _ _ _ c.in-Unmet.is c.requires.0.0 _ c.requires.0.1, c.requires.1)

pub put_found-requires : goal.put_found-requires
put_found-requires c =
    (found-ready c.args.work.now _ c.args.plan _ _ _ _ c.in-Found.is c.requires.0.0 _ c.requires.0.1, c.requires.1)

pub put_listed-requires : goal.put_listed-requires
put_listed-requires c =
    (listed-ready c.args.work.now _ c.args.plan _ _ _ c.in-Listed.is c.requires.0.0 _ c.requires.0.1, c.requires.1)

pub returns-in-NoEntity : goal.returns-in-NoEntity
returns-in-NoEntity c =
    no_entity-done c.args.work.now _ c.args.plan _ _ c.in-NoEntity.is (header_of c.args.header) c.args.out.now _ c.put_front.ensures

pub returns-in-Unmet : goal.returns-in-Unmet
returns-in-Unmet c =
    unmet-done c.args.work.now _ c.args.plan _ _ _ c.in-Unmet.is (header_of c.args.header) c.args.out.now _ c.put_walk.ensures

pub returns-in-Found : goal.returns-in-Found
returns-in-Found c =
    found-done c.args.work.now _ c.args.plan _ _ _ _ c.in-Found.is (header_of c.args.header) c.args.out.now _ c.put_found.ensures

pub returns-in-Listed : goal.returns-in-Listed
returns-in-Listed c =
    listed-done c.args.work.now _ c.args.plan _ _ _ c.in-Listed.is (header_of c.args.header) c.args.out.now _ c.put_listed.ensures
