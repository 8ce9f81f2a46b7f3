use native.Mathlib.Omega.{arith}
use Rattle.trace_writer.proofs.Writing.{length_set_byte, name-size, name_put}
use Rattle.trace_writer.proofs.put_letter_and_name.Goals as goal

pub put_name-requires : goal.put_name-requires
put_name-requires c =
    (omega (arith, length_set_byte c.args.out.now c.args.at c.args.letter, c.requires.1), c.requires.0)

pub shape_of-out : goal.shape_of-out
shape_of-out c = search name-size

pub returns : goal.returns
returns c = search name_put
