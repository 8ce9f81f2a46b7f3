use Prim.Native.Nat.{◌+◌, ◌-◌}
use Rattle.accumulator.proofs.Splitting.{split_bounds}
use Rattle.kept_trees.proofs.Rows.{size_small}
use Rattle.proof_writer.specs.Walks.{descent_of, row_of}
use Rattle.proof_writer.proofs.Seeking.{tree_at, took_left, took_right}
use native.Mathlib.Omega.{arith}
use Rattle.proof_writer.proofs.half.Goals as goal

pub goes_left-requires : goal.goes_left-requires
goes_left-requires c =
    let b = split_bounds c.args.leaves.n c.requires.2 in
    (c.requires.0, c.requires.1, omega (arith, b.0, c.split-k.ensures), omega (arith, b.1, c.split-k.ensures))

pub returns-then-goes_left : goal.returns-then-goes_left
returns-then-goes_left c =
    let a = c.args in
    took_left a.leaves _ (λ k. (descent_of a.descent).goes_left (tree_at a.descent a.work.now a.ranks a.leaves.from k) (tree_at a.descent a.work.now a.ranks (a.leaves.from + k) (a.leaves.n - k))) _ c.split-k.ensures c.goes_left.ensures c.if-goes_left.true

pub overflow_add-result : goal.overflow_add-result
overflow_add-result c =
    let a = c.args in
    omega (arith, (split_bounds a.leaves.n c.requires.2).1, c.split-k.ensures, c.requires.1.inside, size_small (row_of a.descent) a.work.now a.ranks c.requires.0)

pub overflow_sub-result : goal.overflow_sub-result
overflow_sub-result c =
    omega (arith, (split_bounds c.args.leaves.n c.requires.2).1, c.split-k.ensures)

pub returns : goal.returns
returns c =
    let a = c.args in
    took_right a.leaves _ (λ k. (descent_of a.descent).goes_left (tree_at a.descent a.work.now a.ranks a.leaves.from k) (tree_at a.descent a.work.now a.ranks (a.leaves.from + k) (a.leaves.n - k))) _ c.split-k.ensures c.goes_left.ensures c.if-goes_left.false
