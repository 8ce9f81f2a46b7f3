-- The results of the calls as plain numbers: number 0 where no row turns the call away. Assumes nothing.
use Rattle.std.specs.Prelude.{ℕ, length}
use Rattle.model.specs.Numbers.{Bytes}
use Rattle.model.specs.Result.{Result, ok, refuse, ◌>>=◌}
use Rattle.model.specs.Question.{no_entity, not_yet, none_so_late, Verdict}
use Rattle.model.specs.CheckRows.{Accepted}
use Rattle.proof_reader.specs.declared.Stop.TheVariants.{NoEntity, NotYet, NoneSoLate}
use Rattle.checker.specs.declared.Verdict as code
use Rattle.checker.specs.declared.Verdict.TheVariants.{NotFound, Found, Listed}
use Rattle.bozhtagul.specs.declared.Outcome.{Outcome}
use Rattle.bozhtagul.specs.declared.Written.{Written}
use Rattle.bozhtagul.specs.declared.Checked.{Checked}
use Rattle.bozhtagul.specs.declared.Part.{Part}

unfoldable pub outcome : Result (Unit {0}) → Outcome
outcome (ok u) = record { number = 0; position = 0 }
outcome (refuse n p) = record { number = n; position = p }

-- fields that do not apply are 0
unfoldable pub written : Result ℕ → Written
written (ok n) = record { number = 0; position = 0; length = n }
written (refuse n p) = record { number = n; position = p; length = 0 }

-- of a call that writes, by the bytes to write: their number, ...
unfoldable pub written_of : Result Bytes → Written
written_of m = written (m >>= λ y. ok (length y))

-- ... or nothing; and so of any call, by what it comes to
unfoldable pub outcome_of : {A : Type 0} → Result A → Outcome
outcome_of m = outcome (m >>= λ _. ok tt)

-- the verdict: 1 no entity, 2 not yet, 3 found, 4 none so late, 5 listed; 0 where the check refuses
unfoldable pub checked : Result Verdict → Checked
checked (ok (Verdict.not_found no_entity)) = record { number = 0; position = 0; verdict = 1; time = 0; count = 0 }
checked (ok (Verdict.not_found (not_yet first))) = record { number = 0; position = 0; verdict = 2; time = first; count = 0 }
checked (ok (Verdict.not_found (none_so_late last))) = record { number = 0; position = 0; verdict = 4; time = last; count = 0 }
checked (ok (Verdict.found t n)) = record { number = 0; position = 0; verdict = 3; time = t; count = n }
checked (ok (Verdict.listed vs)) = record { number = 0; position = 0; verdict = 5; time = 0; count = length vs }
checked (refuse n p) = record { number = n; position = p; verdict = 0; time = 0; count = 0 }

-- the same of the code's verdict, ...
unfoldable pub numbered : code.Verdict → Checked
numbered (NotFound NoEntity) = record { number = 0; position = 0; verdict = 1; time = 0; count = 0 }
numbered (NotFound (NotYet first)) = record { number = 0; position = 0; verdict = 2; time = first.0; count = 0 }
numbered (NotFound (NoneSoLate last)) = record { number = 0; position = 0; verdict = 4; time = last.0; count = 0 }
numbered (Found t n) = record { number = 0; position = 0; verdict = 3; time = t.0; count = n }
numbered (Listed n) = record { number = 0; position = 0; verdict = 5; time = 0; count = n }

-- ... and of what the check comes to
unfoldable pub checked_by : Result code.Verdict → Checked
checked_by (ok v) = numbered v
checked_by (refuse n p) = record { number = n; position = p; verdict = 0; time = 0; count = 0 }

-- where the checked records stand in the answer; 0 and 0 if there are none or the check refuses
unfoldable pub bounds : Result Accepted → Part
bounds (ok a) = record { start = a.records_start; length = a.records_length }
bounds (refuse n p) = record { start = 0; length = 0 }
