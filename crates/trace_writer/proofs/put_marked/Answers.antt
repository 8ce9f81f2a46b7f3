use Rattle.marks.proofs.Edges.{previous_stands, source_stands}
use Rattle.trace_writer.proofs.Writing.{both_ask, both-done, temporal_ask, temporal-done, dependency_ask, dependency-done, entry_ask, entry_done}
use Rattle.trace_writer.proofs.put_marked.Goals as goal

pub inside-requires : goal.inside-requires
inside-requires c = search previous_stands

pub inside-requires-then-inside : goal.inside-requires-then-inside
inside-requires-then-inside c = search source_stands

pub put_both-requires : goal.put_both-requires
put_both-requires c =
    both_ask _ _ _ c.args.out.now _ _ _ _ _ c.requires.0 c.requires.1 c.previous_of-previous.ensures c.source_of-source.ensures c.inside.ensures c.inside-then-inside.ensures c.if-inside.true c.if-inside-2.true

pub returns-then-inside-2 : goal.returns-then-inside-2
returns-then-inside-2 c =
    both-done _ _ _ c.args.out.now _ _ _ _ _ c.requires.0 c.requires.1 c.previous_of-previous.ensures c.source_of-source.ensures c.inside.ensures c.inside-then-inside.ensures _ c.if-inside.true c.if-inside-2.true c.put_both.ensures

pub put_temporal-requires : goal.put_temporal-requires
put_temporal-requires c =
    temporal_ask _ _ _ c.args.out.now _ _ _ _ _ c.requires.0 c.requires.1 c.previous_of-previous.ensures c.source_of-source.ensures c.inside.ensures c.inside-then-inside.ensures c.if-inside.true c.if-inside-2.false

pub returns-then-inside : goal.returns-then-inside
returns-then-inside c =
    temporal-done _ _ _ c.args.out.now _ _ _ _ _ c.requires.0 c.requires.1 c.previous_of-previous.ensures c.source_of-source.ensures c.inside.ensures c.inside-then-inside.ensures _ c.if-inside.true c.if-inside-2.false c.put_temporal.ensures

pub inside-requires-2 : goal.inside-requires-2
inside-requires-2 c = search source_stands

pub put_dependency-requires : goal.put_dependency-requires
put_dependency-requires c =
    dependency_ask _ _ _ c.args.out.now _ _ _ _ _ c.requires.0 c.requires.1 c.previous_of-previous.ensures c.source_of-source.ensures c.inside.ensures c.inside-2.ensures c.if-inside.false c.if-inside-3.true

pub returns-then-inside-3 : goal.returns-then-inside-3
returns-then-inside-3 c =
    dependency-done _ _ _ c.args.out.now _ _ _ _ _ c.requires.0 c.requires.1 c.previous_of-previous.ensures c.source_of-source.ensures c.inside.ensures c.inside-2.ensures _ c.if-inside.false c.if-inside-3.true c.put_dependency.ensures

pub put_letter_and_name-requires : goal.put_letter_and_name-requires
put_letter_and_name-requires c =
    entry_ask _ _ _ c.args.out.now _ _ _ _ _ c.requires.0 c.requires.1 c.previous_of-previous.ensures c.source_of-source.ensures c.inside.ensures c.inside-2.ensures c.if-inside.false c.if-inside-3.false

pub returns : goal.returns
returns c =
    entry_done _ _ _ c.args.out.now _ _ _ _ _ c.requires.0 c.requires.1 c.previous_of-previous.ensures c.source_of-source.ensures c.inside.ensures c.inside-2.ensures _ _ c.if-inside.false c.if-inside-3.false c.entry_letter.ensures c.put_letter_and_name.ensures
