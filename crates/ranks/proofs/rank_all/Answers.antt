use borrow.Author.Rules.{rules}
use native.Mathlib.Omega.{arith}
use Rattle.ranks.proofs.AllRanks.{entities-none, entities-before, entities_room, entities-few, unranked, entities-size, entities-more, entities-all}
use Rattle.ranks.proofs.rank_all.Goals as goal

pub next_entry-i-requires : goal.next_entry-i-requires
next_entry-i-requires c =
    let G = c.requires.graphed in
    (omega arith, omega (arith, G.number, G.digested.room))

pub loop-i-init : goal.loop-i-init
loop-i-init c = λ ns G. entities-none _ _ ns _ G c.next_entry-i.ensures

pub put-requires : goal.put-requires
put-requires c =
    let G = c.requires.graphed in
    let E = c.loop-i.invariant c.requires.ns G in
    let t = c.loop-i-test.true in
    (entities_room c.args.work.now _ _ _ _ _ _ G E t, omega arith, entities-few c.args.work.now _ _ _ _ _ _ G E t)

pub overflow_add-entities : goal.overflow_add-entities
overflow_add-entities c =
    let G = c.requires.graphed in
    let E = c.loop-i.invariant c.requires.ns G in
    let t = c.loop-i-test.true in
    let f = entities-before c.args.work.now _ _ _ _ _ _ G E in
    search rules

pub rank_versions-versions-requires : goal.rank_versions-versions-requires
rank_versions-versions-requires c =
    let G = c.requires.graphed in
    let E = c.loop-i.invariant c.requires.ns G in
    let t = c.loop-i-test.true in
    unranked c.args.work.now _ _ _ _ _ _ G E t _ c.put.ensures

pub overflow_add-i : goal.overflow_add-i
overflow_add-i c =
    let t = c.loop-i-test.true in
    search rules

pub next_entry-i-requires-in-loop-i : goal.next_entry-i-requires-in-loop-i
next_entry-i-requires-in-loop-i c =
    let G = c.requires.graphed in
    let E = c.loop-i.invariant c.requires.ns G in
    let t = c.loop-i-test.true in
    let z = entities-size c.args.work.now _ _ _ _ _ _ G E t _ c.put.ensures _ _ c.rank_versions-versions.ensures in
    (omega arith, omega (arith, c.requires.graphed.number, c.requires.graphed.digested.room))

pub loop-i-smaller : goal.loop-i-smaller
loop-i-smaller c = omega (arith, c.next_entry-i-in-loop-i.ensures.after, c.loop-i-test.true)

pub loop-i-preserved : goal.loop-i-preserved
loop-i-preserved c =
    let l = c.loop-i in
    let t = c.loop-i-test.true in
    λ ns G. entities-more c.args.work.now _ _ ns _ _ _ G (l.invariant ns G) t _ c.put.ensures _ _ c.rank_versions-versions.ensures _ c.next_entry-i-in-loop-i.ensures

pub shape_of-work : goal.shape_of-work
shape_of-work c =
    let R = c.requires in
    (c.loop-i.invariant R.ns R.graphed).kept.size

pub returns : goal.returns
returns c =
    let l = c.loop-i in
    record {
      ranks = λ ns G. entities-all c.args.work.now _ _ ns _ _ _ G (l.invariant ns G) c.loop-i-test.false;
      kept = (l.invariant c.requires.ns c.requires.graphed).kept;
    }
