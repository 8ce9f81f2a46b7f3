use native.Mathlib.Omega.{arith}
use Prim.Native.Nat.{◌+◌}
use Rattle.kept_trees.proofs.Rows.{size_small, slot-there, node-read}
use Rattle.kept_trees.proofs.kept_node.Goals as goal

pub key_at-least-requires : goal.key_at-least-requires
key_at-least-requires c =
    (c.requires.0, omega (arith, c.requires.1.some, c.requires.1.inside))

pub overflow_sub-n : goal.overflow_sub-n
overflow_sub-n c =
    omega (arith, c.requires.1.some)

pub overflow_add-from : goal.overflow_add-from
overflow_add-from c =
    omega (arith, c.requires.1.some, c.requires.1.inside, size_small c.args.row c.args.work.now c.args.ranks c.requires.0)

pub key_at-greatest-requires : goal.key_at-greatest-requires
key_at-greatest-requires c =
    (c.requires.0, omega (arith, c.requires.1.some, c.requires.1.inside))

pub overflow_add-from-2 : goal.overflow_add-from-2
overflow_add-from-2 c =
    omega (arith, c.requires.2, c.requires.1.inside, size_small c.args.row c.args.work.now c.args.ranks c.requires.0)

pub slot_of-requires : goal.slot_of-requires
slot_of-requires c =
    (c.requires.0, omega (arith, c.requires.2, c.requires.1.inside))

pub kept_digest-digest-requires : goal.kept_digest-digest-requires
kept_digest-digest-requires c =
    slot-there c.args.row c.args.work.now c.args.ranks (c.args.from + c.args.k) _ c.requires.0 (omega (arith, c.requires.2, c.requires.1.inside)) c.slot_of.ensures

pub returns : goal.returns
returns c =
    node-read c.args.row c.args.work.now c.args.ranks c.args.from c.args.n c.args.k _ _ _ _
    c.key_at-least.ensures c.key_at-greatest.ensures c.slot_of.ensures c.kept_digest-digest.ensures
