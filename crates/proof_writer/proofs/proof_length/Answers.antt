use mathlib.Core.Path.{sym, ap}
use Rattle.proof_writer.specs.Plans.{length_of}
use Rattle.proof_writer.proofs.proof_length.Goals as goal

pub returns-in-NoEntity : goal.returns-in-NoEntity
unfolding length_of
returns-in-NoEntity c = sym (ap length_of c.in-NoEntity.is)

pub returns-in-Unmet : goal.returns-in-Unmet
unfolding length_of
returns-in-Unmet c = sym (ap length_of c.in-Unmet.is)

pub returns-in-Found : goal.returns-in-Found
unfolding length_of
returns-in-Found c = sym (ap length_of c.in-Found.is)

pub returns-in-Listed : goal.returns-in-Listed
unfolding length_of
returns-in-Listed c = sym (ap length_of c.in-Listed.is)
