use mathlib.Core.Path.{ap₂, ◌∙◌}
use Rattle.fields.specs.Fields.{written}
use Rattle.model.specs.Accumulator.{Subtree as Known, branch_string}
use native.Mathlib.Omega.{arith}
use Rattle.proof_writer.proofs.put_node.Goals as goal

pub kept_tree-left-requires : goal.kept_tree-left-requires
kept_tree-left-requires c =
    let P = c.requires.0 in
    ((P.0, record { some = P.2; inside = omega (arith, P.3, P.1.inside) }), c.requires.1)

pub overflow_add-leaves : goal.overflow_add-leaves
overflow_add-leaves c =
    let P = c.requires.0 in
    omega (arith, P.3, P.1.inside, P.0.few)

pub overflow_sub-leaves : goal.overflow_sub-leaves
overflow_sub-leaves c =
    let P = c.requires.0 in
    omega (arith, P.3)

pub kept_tree-right-requires : goal.kept_tree-right-requires
kept_tree-right-requires c =
    let P = c.requires.0 in
    ((P.0, record { some = omega (arith, P.3); inside = omega (arith, P.3, P.1.inside) }), c.requires.1)

pub put_branch-requires : goal.put_branch-requires
put_branch-requires c =
    let P = c.requires.0 in
    P.4

pub returns : goal.returns
returns c =
    let a = c.args in
    λ l r. c.put_branch.ensures ∙ ap₂ (λ (x y : Known). written a.out.now a.at (branch_string 0x4e x y)) (c.kept_tree-left.ensures tt l) (c.kept_tree-right.ensures tt r)
