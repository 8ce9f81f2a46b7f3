use native.Mathlib.Omega.{arith}
use Rattle.leaves.proofs.Keeping.{slot_string}
use Rattle.fields.proofs.Numbers.{octets}
use Rattle.fields.proofs.Places.{field_below}
use Prim.Native.Nat.{◌+◌, ◌*◌}
use Rattle.leaves.proofs.put_string.Goals as goal

pub put_leaf-requires : goal.put_leaf-requires
put_leaf-requires c = let o = octets c.args.work.now (λ j. (c.type_inv.work j).fits) in
    (c.requires.0, (omega (arith, c.entity_of-entity.ensures, field_below 4 c.args.work.now (128 * c.args.i + 72) o), (omega (arith, c.requires.1), omega (arith, c.requires.1))))

pub returns : goal.returns
returns c = slot_string c.args.b.now _ c.args.work.now c.args.at c.args.i _ _ c.entity_of-entity.ensures c.time_of-time.ensures c.put_leaf.ensures
