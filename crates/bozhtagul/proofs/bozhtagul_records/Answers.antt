use Rattle.bozhtagul.proofs.CheckedAnswer.{bounds_agree, part_agrees}
use Rattle.bozhtagul.proofs.bozhtagul_records.Goals as goal

pub returns : goal.returns
returns c =
    let b = c.record_bounds-b.ensures in
    let e = bounds_agree _ _ b.result in
    record {
      result = e;
      inside = b.inside;
      records = part_agrees _ _ _ _ _ _ _ _ e;
      cleared = b.cleared;
    }
