use native.Mathlib.Omega.{arith}
use Rattle.trace_reader.proofs.Passing.{meets_neither, meets_21, meets_20}
use Rattle.trace_reader.proofs.Letters.{width_least}
use Rattle.trace_reader.proofs.values_row.Goals as goal

pub get_u64-requires : goal.get_u64-requires
get_u64-requires c = omega (arith, width_least c.args.letter)

pub returns-then-not-positions_below : goal.returns-then-not-positions_below
returns-then-not-positions_below c = search meets_20

pub returns-then-not-later : goal.returns-then-not-later
returns-then-not-later c = search meets_21

pub returns : goal.returns
returns c = search meets_neither
