-- What a call answers, in document 01's words: its value, or a row's number and a position. Assumes nothing.
use Rattle.std.specs.Prelude.{◌≡◌, ℕ, length, Ok, Err}
use Rattle.std.specs.Prelude as std
use Rattle.model.specs.Numbers.{Bytes}
use Rattle.model.specs.Result.{Result, ok, refuse}
use Rattle.model.specs.Rows as model
use Rattle.model.specs.Calls.{output_after}
use Rattle.outcome.specs.declared.Row.{Row}
use Rattle.outcome.specs.declared.Row.TheVariants.{LogEmpty, TooManyRecords, CommandUnknown, RecordCut, TimeNotAbove, BirthNotAbove, SourceUnborn, DestinationUnborn, SourceIsDestination, DirectionUnknown, WorkAreaShort, OutputShort, CommitmentNot32, AnswerCut, LetterNotDue, DigestNotDue, BytesAfterEnd, CountOutOfRange, PositionNotBelow, TraceTimeNotAbove, RecordUnreferenced, FoundRecordDiffers, PathDigestDiffers, TimesReversed, NoPlaceLeft}
use Rattle.outcome.specs.declared.Refusal.{Refusal}

-- a row's number
abbrev pub number_of : Row → ℕ
number_of LogEmpty = model.log_empty
number_of TooManyRecords = model.too_many_records
number_of CommandUnknown = model.command_unknown
number_of RecordCut = model.record_cut
number_of TimeNotAbove = model.time_not_above
number_of BirthNotAbove = model.birth_not_above
number_of SourceUnborn = model.source_unborn
number_of DestinationUnborn = model.destination_unborn
number_of SourceIsDestination = model.source_is_destination
number_of DirectionUnknown = model.direction_unknown
number_of WorkAreaShort = model.work_area_short
number_of OutputShort = model.output_short
number_of CommitmentNot32 = model.commitment_not_32
number_of AnswerCut = model.answer_cut
number_of LetterNotDue = model.letter_not_due
number_of DigestNotDue = model.digest_not_due
number_of BytesAfterEnd = model.bytes_after_end
number_of CountOutOfRange = model.count_out_of_range
number_of PositionNotBelow = model.position_not_below
number_of TraceTimeNotAbove = model.trace_time_not_above
number_of RecordUnreferenced = model.record_unreferenced
number_of FoundRecordDiffers = model.found_record_differs
number_of PathDigestDiffers = model.path_digest_differs
number_of TimesReversed = model.times_reversed
number_of NoPlaceLeft = model.no_place_left

-- a call's answer as the document's outcome
abbrev pub told : {A : Type 0} → std.Result A Refusal → Result A
told (Ok a) = ok a
told (Err e) = refuse (number_of e.row) e.position

-- what a call that writes answers, by the bytes to write: how many they are, or the row that turns it away
unfoldable pub given : Result Bytes → Result ℕ
given (ok y) = ok (length y)
given (refuse n p) = refuse n p

pub record Gives (m : Result Bytes) (out out' : Bytes) (r : std.Result ℕ Refusal) : Type 0 where
  pub result : told r ≡ given m
  pub output : out' ≡ output_after out m
