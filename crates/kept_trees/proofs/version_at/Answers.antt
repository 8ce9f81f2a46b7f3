use native.Mathlib.Omega.{arith}
use Rattle.kept_trees.proofs.Rows.{version-read}
use Rattle.kept_trees.proofs.version_at.Goals as goal

pub slot_at-requires : goal.slot_at-requires
slot_at-requires c = omega (arith, c.requires.0.1, c.requires.0.0.room)

pub leaf_of-leaf-requires : goal.leaf_of-leaf-requires
leaf_of-leaf-requires c =
    (omega (arith, c.requires.0.0.slots c.args.rank c.requires.0.1, c.slot_at.ensures), c.requires.1)

pub returns : goal.returns
returns c =
    version-read c.args.work.now c.args.rank _ _ c.slot_at.ensures c.leaf_of-leaf.ensures
