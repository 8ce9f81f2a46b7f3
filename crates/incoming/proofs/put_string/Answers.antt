use Rattle.graph.proofs.Strings.{previous-before, source-before}
use Rattle.incoming.proofs.Strings.{in_count_few, string-is}
use borrow.Author.Rules.{rules}
use native.Mathlib.Omega.{arith}
use Rattle.incoming.proofs.put_string.Goals as goal

pub overflow_cast-in_count : goal.overflow_cast-in_count
overflow_cast-in_count c = omega (arith, c.in_count.ensures, in_count_few c.args.work.now c.args.i)

pub put_in_edge-requires : goal.put_in_edge-requires
put_in_edge-requires c = (search rules, search rules, previous-before c.args.work.now c.args.i c.requires.1 _ c.previous_of-previous.ensures)

pub overflow_mul-behind : goal.overflow_mul-behind
overflow_mul-behind c = omega (arith, c.edge_count.ensures.0)

pub overflow_add-behind-2 : goal.overflow_add-behind-2
overflow_add-behind-2 c = omega (arith, c.edge_count.ensures.0)

pub put_in_edge-requires-2 : goal.put_in_edge-requires-2
put_in_edge-requires-2 c = (
  omega (arith, c.edge_count.ensures.0),
  search rules,
  source-before c.args.work.now c.args.i c.requires.1 _ c.source_of.ensures,
)

pub returns : goal.returns
returns c = let a = c.args in
    string-is a.work.now a.i c.requires.1 a.b.now _ _ _ a.at _ _ _ _ _ c.requires.0 c.previous_of-previous.ensures c.source_of.ensures c.kind_of.ensures c.in_count.ensures c.edge_count.ensures.1 c.put_pair.ensures c.put_in_edge.ensures c.put_in_edge-2.ensures
