use Rattle.bozhtagul.proofs.Plain.{hash_short, hash_written}
use Rattle.bozhtagul.proofs.put_hash.Goals as goal

pub returns-then-out-lt-DIGEST_WIDTH : goal.returns-then-out-lt-DIGEST_WIDTH
returns-then-out-lt-DIGEST_WIDTH c = hash_short c.args.message.now c.args.out.now c.if-out-lt-DIGEST_WIDTH.true _ c.at.ensures

pub returns : goal.returns
returns c = hash_written c.args.message.now c.args.out.now c.if-out-lt-DIGEST_WIDTH.false _ _ c.hash-digest.ensures c.copy.ensures
