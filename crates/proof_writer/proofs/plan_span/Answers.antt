use mathlib.Core.Path.{ap}
use Prim.Native.Nat.{ℕ, ◌+◌, ◌*◌}
use Rattle.proof_writer.proofs.Planning.{reached_range, plan-listed}
use native.Mathlib.Omega.{arith}
use Rattle.proof_writer.proofs.plan_span.Goals as goal

pub span_length-requires : goal.span_length-requires
span_length-requires c =
    let H = c.requires in
    let v = c.reached_versions-leaves.ensures in
    let b = reached_range c.args.work.now _ H.graph.ns H.graph.graphed c.args.path H.path _ _ v.from v.number in
    (H.path.ranked.ranked, record { some = b.0; inside = b.1 })

pub overflow_add-result : goal.overflow_add-result
overflow_add-result c =
    let H = c.requires in
    let v = c.reached_versions-leaves.ensures in
    let b = reached_range c.args.work.now _ H.graph.ns H.graph.graphed c.args.path H.path _ _ v.from v.number in
    omega (arith, b.1, c.span_length.ensures.small, H.path.shallow, H.path.ranked.ranked.few)

pub returns : goal.returns
returns c =
    let a = c.args in
    let v = c.reached_versions-leaves.ensures in
    λ ns G R.
    plan-listed a.work.now _ ns G a.path R.path _ _ v.from v.number a.span R _
    (ap (λ (k : ℕ). 122 + 97 * a.path.depth + k) (c.span_length.ensures.length _ ns G R.path.ranked))
