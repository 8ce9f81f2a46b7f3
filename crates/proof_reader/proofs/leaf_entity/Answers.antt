use Rattle.proof_reader.proofs.Strings.{entity_at}
use Rattle.proof_reader.proofs.leaf_entity.Goals as goal

pub returns : goal.returns
returns c = entity_at _ _ c.requires _ c.entity_at.ensures.0
