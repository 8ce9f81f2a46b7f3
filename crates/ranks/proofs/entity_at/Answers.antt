use native.Mathlib.Omega.{arith}
use Rattle.ranks.proofs.Reading.{first-inside, slot-inside, entity-read}
use Rattle.ranks.proofs.entity_at.Goals as goal

pub first_at-first-requires : goal.first_at-first-requires
first_at-first-requires c = let P = c.requires in (P.0, omega (arith, P.1))

pub slot_at-requires : goal.slot_at-requires
slot_at-requires c =
    let a = c.args in
    let h = first-inside a.work.now a.ranks c.requires.0 a.g c.requires.1 in
    omega (arith, c.first_at-first.ensures, c.requires.0.room)

pub entity_of-requires : goal.entity_of-requires
entity_of-requires c =
    let a = c.args in
    slot-inside a.work.now a.ranks c.requires.0 a.g _ _ c.requires.1 c.first_at-first.ensures c.slot_at.ensures

pub returns : goal.returns
returns c =
    let a = c.args in
    entity-read a.work.now a.ranks a.g _ _ _ c.first_at-first.ensures c.slot_at.ensures c.entity_of.ensures
