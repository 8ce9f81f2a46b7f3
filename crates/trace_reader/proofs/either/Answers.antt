use Rattle.trace_reader.proofs.Letters.{first_of, second_of}
use Rattle.trace_reader.proofs.either.Goals as goal

pub returns-then-letter-a : goal.returns-then-letter-a
returns-then-letter-a c = search first_of

pub returns : goal.returns
returns c = search second_of
