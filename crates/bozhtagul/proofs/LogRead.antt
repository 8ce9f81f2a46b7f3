-- The number of records that the log reader's answer gives. Assumes nothing.
use mathlib.Core.Path.{◌≡◌, refl, ap, sym, ◌∙◌}
use mathlib.Core.List.{List}
use lib.ListN.{length}
use Rattle.std.specs.Prelude as std
use Rattle.std.specs.Prelude.{Ok, Err}
use Rattle.model.specs.Result.{Result, ok, refuse, ◌>>=◌}
use Rattle.model.specs.Numbers.{Bytes}
use Rattle.model.specs.LogRows.{read_log}
use Rattle.model.specs.Calls.{log_call}
use Rattle.model.proofs.Outcomes.{bind_eq, bind_refused}
use Rattle.outcome.specs.declared.Refusal.{Refusal}
use Rattle.outcome.specs.Outcomes.{number_of, told}
use Rattle.log_reader.specs.declared.Sound.{Sound}
use Rattle.log_reader.specs.Reading.{reading_of}
use Rattle.log_reader.proofs.Sequence.{reading_sound, reading_refused}

module _ (log : Bytes) (r : std.Result Sound Refusal) (is : told r ≡ reading_of (read_log log)) where
  pub log-refused : (e : Refusal) → r ≡ Err e → refuse (number_of e.row) e.position ≡ log_call log
  unfolding log_call
  log-refused e q = sym (bind_refused (read_log log) _ _ _ (reading_refused (read_log log) r e is q))

  pub log-counted : (s : Sound) → r ≡ Ok s → ok s.records ≡ log_call log
  unfolding log_call
  log-counted s q = let f = reading_sound (read_log log) r s is q in ap ok f.2 ∙ sym (bind_eq (read_log log) _ f.0 f.1)
