use native.Mathlib.Omega.{arith}
use mathlib.Core.Path.{refl}
use Rattle.trace_reader.proofs.Letters.{width_V, width_D, width_T, width_least}
use Rattle.trace_reader.proofs.Slotting.{below_V, put_V, below_D, put_D, below_T, put_T, put_entry}
use Rattle.trace_reader.proofs.put_shown.Goals as goal

pub start_at-previous-requires : goal.start_at-previous-requires
start_at-previous-requires c =
    let a = c.args in
    (omega (arith, width_V _ c.if-letter-eq-LETTER_V.true), (below_V a.answer.now a.at a.letter a.i c.requires.0 c.requires.1 c.requires.2 c.if-letter-eq-LETTER_V.true).0)

pub start_at-source-requires : goal.start_at-source-requires
start_at-source-requires c =
    let a = c.args in
    (omega (arith, width_V _ c.if-letter-eq-LETTER_V.true), (below_V a.answer.now a.at a.letter a.i c.requires.0 c.requires.1 c.requires.2 c.if-letter-eq-LETTER_V.true).1)

pub bounds-answer-at : goal.bounds-answer-at
bounds-answer-at c = omega (arith, width_V _ c.if-letter-eq-LETTER_V.true)

pub put_record_node-requires : goal.put_record_node-requires
put_record_node-requires c =
    let a = c.args in
    (omega (arith, width_least a.letter), c.requires.3)

pub returns-then-letter-eq-LETTER_V : goal.returns-then-letter-eq-LETTER_V
returns-then-letter-eq-LETTER_V c =
    let a = c.args in
    put_V a.answer.now a.at a.letter a.i c.requires.0 c.requires.1 c.requires.2 c.if-letter-eq-LETTER_V.true _ _ _ _ c.start_at-previous.ensures c.start_at-source.ensures c.put_record_node.ensures

pub start_at-source-requires-then-letter-eq-LETTER_D : goal.start_at-source-requires-then-letter-eq-LETTER_D
start_at-source-requires-then-letter-eq-LETTER_D c =
    let a = c.args in
    (omega (arith, width_D _ c.if-letter-eq-LETTER_V.false c.if-letter-eq-LETTER_D.true), below_D a.answer.now a.at a.letter a.i c.requires.0 c.requires.1 c.requires.2 c.if-letter-eq-LETTER_V.false c.if-letter-eq-LETTER_D.true)

pub bounds-answer-at-then-letter-eq-LETTER_D : goal.bounds-answer-at-then-letter-eq-LETTER_D
bounds-answer-at-then-letter-eq-LETTER_D c = omega (arith, width_D _ c.if-letter-eq-LETTER_V.false c.if-letter-eq-LETTER_D.true)

pub put_record_node-requires-then-letter-eq-LETTER_D : goal.put_record_node-requires-then-letter-eq-LETTER_D
put_record_node-requires-then-letter-eq-LETTER_D c =
    let a = c.args in
    (omega (arith, width_least a.letter), c.requires.3)

pub returns-then-letter-eq-LETTER_D : goal.returns-then-letter-eq-LETTER_D
returns-then-letter-eq-LETTER_D c =
    let a = c.args in
    put_D a.answer.now a.at a.letter a.i c.requires.0 c.requires.1 c.requires.2 c.if-letter-eq-LETTER_V.false c.if-letter-eq-LETTER_D.true _ _ _ _ refl c.start_at-source-then-letter-eq-LETTER_D.ensures c.put_record_node-then-letter-eq-LETTER_D.ensures

pub start_at-previous-requires-then-letter-eq-LETTER_T : goal.start_at-previous-requires-then-letter-eq-LETTER_T
start_at-previous-requires-then-letter-eq-LETTER_T c =
    let a = c.args in
    (omega (arith, width_T _ c.if-letter-eq-LETTER_V.false c.if-letter-eq-LETTER_D.false c.if-letter-eq-LETTER_T.true), below_T a.answer.now a.at a.letter a.i c.requires.0 c.requires.1 c.requires.2 c.if-letter-eq-LETTER_V.false c.if-letter-eq-LETTER_D.false c.if-letter-eq-LETTER_T.true)

pub put_record_node-requires-then-letter-eq-LETTER_T : goal.put_record_node-requires-then-letter-eq-LETTER_T
put_record_node-requires-then-letter-eq-LETTER_T c =
    let a = c.args in
    (omega (arith, width_least a.letter), c.requires.3)

pub returns-then-letter-eq-LETTER_T : goal.returns-then-letter-eq-LETTER_T
returns-then-letter-eq-LETTER_T c =
    let a = c.args in
    put_T a.answer.now a.at a.letter a.i c.requires.0 c.requires.1 c.requires.2 c.if-letter-eq-LETTER_V.false c.if-letter-eq-LETTER_D.false c.if-letter-eq-LETTER_T.true _ _ _ _ _ c.start_at-previous-then-letter-eq-LETTER_T.ensures refl c.put_record_node-then-letter-eq-LETTER_T.ensures

pub put_record_node-requires-2 : goal.put_record_node-requires-2
put_record_node-requires-2 c =
    let a = c.args in
    (omega (arith, width_least a.letter), c.requires.3)

pub returns : goal.returns
returns c =
    let a = c.args in
    put_entry a.answer.now a.at a.letter a.i c.requires.0 c.requires.1 c.requires.2 c.if-letter-eq-LETTER_V.false c.if-letter-eq-LETTER_D.false c.if-letter-eq-LETTER_T.false _ _ _ _ _ refl refl c.put_record_node-2.ensures
