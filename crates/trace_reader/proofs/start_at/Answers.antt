use native.Mathlib.Omega.{arith}
use Rattle.trace_reader.proofs.Slotting.{absent-is}
use Rattle.trace_reader.proofs.start_at.Goals as goal

pub overflow_cast-result : goal.overflow_cast-result
overflow_cast-result c = omega (arith, absent-is)
