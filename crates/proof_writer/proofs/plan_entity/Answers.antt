use mathlib.Core.Path.{refl}
use Rattle.kept_trees.proofs.Graphs.{entities-are}
use Rattle.question.specs.Directions.{query_of}
use Rattle.proof_writer.proofs.Seeking.{stopped_leads, reached_leads, sought-stopped, sought-reached, entity-sought}
use Rattle.proof_writer.proofs.Planning.{inside-group, plan-absent, reaches}
use native.Mathlib.Omega.{arith}
use Rattle.proof_writer.proofs.plan_entity.Goals as goal

pub seek-requires : goal.seek-requires
seek-requires c =
    let H = c.requires in
    (H.ranked.ranked, H.ranked.ranked.some_entity, omega arith)

pub overflow_mul-result : goal.overflow_mul-result
overflow_mul-result c =
    let H = c.requires in
    let l = stopped_leads _ _ c.seek.ensures.leads _ _ c.in-Stopped.is in
    omega (arith, l.1, H.ranked.ranked.fewer, H.ranked.ranked.few)

pub overflow_add-result : goal.overflow_add-result
overflow_add-result c =
    let H = c.requires in
    let l = stopped_leads _ _ c.seek.ensures.leads _ _ c.in-Stopped.is in
    omega (arith, l.1, H.ranked.ranked.fewer, H.ranked.ranked.few)

pub plan_below-requires : goal.plan_below-requires
plan_below-requires c =
    let a = c.args in
    let H = c.requires in
    let l = reached_leads _ _ c.seek.ensures.leads _ _ c.in-Reached.is in
    let E = entities-are a.work.now H.graph.ns H.graph.graphed.digested a.ranks H.ranked in
    let S = sought-reached _ _ _ _ _ _ (entity-sought _ _ _ _ _ _ _ c.entity_of-entity.ensures (c.seek.ensures.walk _ E (inside-group (query_of a.query)))) _ _ c.in-Reached.is in
    record { graph = H.graph; path = (reaches a.work.now _ H.graph.ns H.graph.graphed a.ranks H.ranked H.kept _ _ l.0 l.1 (query_of a.query) S).path }

pub returns-in-Stopped : goal.returns-in-Stopped
returns-in-Stopped c =
    let a = c.args in
    let H = c.requires in
    let l = stopped_leads _ _ c.seek.ensures.leads _ _ c.in-Stopped.is in
    λ ns G R.
    let E = entities-are a.work.now ns G.digested a.ranks R in
    plan-absent a.work.now _ ns G a.ranks R H.kept _ _ l.0 l.1 (query_of a.query) _
    (sought-stopped _ _ _ _ _ _ (entity-sought _ _ _ _ _ _ _ c.entity_of-entity.ensures (c.seek.ensures.walk _ E (inside-group (query_of a.query)))) _ _ c.in-Stopped.is) refl

pub returns-in-Reached : goal.returns-in-Reached
returns-in-Reached c =
    let a = c.args in
    let H = c.requires in
    let l = reached_leads _ _ c.seek.ensures.leads _ _ c.in-Reached.is in
    λ ns G R.
    let E = entities-are a.work.now ns G.digested a.ranks R in
    let S = sought-reached _ _ _ _ _ _ (entity-sought _ _ _ _ _ _ _ c.entity_of-entity.ensures (c.seek.ensures.walk _ E (inside-group (query_of a.query)))) _ _ c.in-Reached.is in
    c.plan_below.ensures ns G (reaches a.work.now _ ns G a.ranks R H.kept _ _ l.0 l.1 (query_of a.query) S)
