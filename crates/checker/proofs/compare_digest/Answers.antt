use Rattle.checker.proofs.RowLaws.{column_few, digest-same}
use borrow.Author.Rules.{rules}
use Rattle.checker.proofs.compare_digest.Goals as goal

pub overflow_add-i : goal.overflow_add-i
overflow_add-i c = let h = column_few _ _ c.column_of-column.ensures in let r = c.requires.0.0.room in search rules

pub overflow_add-leaf-2 : goal.overflow_add-leaf-2
overflow_add-leaf-2 c = let h = column_few _ _ c.column_of-column.ensures in search rules

pub same-requires : goal.same-requires
same-requires c = let h = column_few _ _ c.column_of-column.ensures in
    let r = c.requires.0.0.room in
    let s = c.put_digests.ensures.size in search rules

pub returns : goal.returns
returns c = digest-same _ _ _ _ _ _ _ _ c.column_of-column.ensures c.put_digests.ensures c.requires.0.1 c.requires.0.2 _ c.same.ensures
