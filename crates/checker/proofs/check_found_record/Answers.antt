use Rattle.checker.proofs.RowLaws.{version_differs, digest_differs, both_pass}
use Rattle.checker.proofs.check_found_record.Goals as goal

pub returns-then-not-same_version : goal.returns-then-not-same_version
returns-then-not-same_version c =
    let f = c.found_position-i.ensures in
    version_differs _ _ _ _ _ _ _ f.0 f.1 c.record_place-position.ensures _ c.same_version.ensures c.if-not-same_version.true _ c.at.ensures

pub returns-then-not-compare_digest : goal.returns-then-not-compare_digest
returns-then-not-compare_digest c =
    let f = c.found_position-i.ensures in
    digest_differs _ _ _ _ _ _ _ f.0 f.1 c.record_place-position.ensures _ c.same_version.ensures _ c.compare_digest.ensures c.if-not-same_version.false
    c.if-not-compare_digest.true _ c.at-then-not-compare_digest.ensures

pub returns : goal.returns
returns c =
    let f = c.found_position-i.ensures in
    both_pass _ _ _ _ _ _ _ f.0 f.1 c.record_place-position.ensures _ c.same_version.ensures _ c.compare_digest.ensures c.if-not-same_version.false
    c.if-not-compare_digest.false
