use borrow.Author.Rules.{rules}
use native.Mathlib.Omega.{arith}
use Rattle.ranks.proofs.EntityRanks.{versions-none, versions-slot, versions-room, versions-forward, versions-more, versions-all}
use Rattle.ranks.proofs.rank_versions.Goals as goal

pub loop-i-init : goal.loop-i-init
loop-i-init c = λ ns G. versions-none _ _ ns _ _ G c.requires.inside c.requires.enters

pub put-requires : goal.put-requires
put-requires c =
    let G = c.requires.has_graph.graphed in
    let l = c.loop-i in
    let E = l.invariant c.requires.has_graph.ns G in
    let t = c.loop-i-test.true in
    let f = versions-room c.args.work.now _ _ _ _ _ _ _ G E t c.requires.room in
    (f, omega arith, omega arith)

pub overflow_add-rank : goal.overflow_add-rank
overflow_add-rank c =
    let G = c.requires.has_graph.graphed in
    let l = c.loop-i in
    let E = l.invariant c.requires.has_graph.ns G in
    let t = c.loop-i-test.true in
    let f = versions-room c.args.work.now _ _ _ _ _ _ _ G E t c.requires.room in
    search rules

pub get_next-i-requires : goal.get_next-i-requires
get_next-i-requires c =
    let G = c.requires.has_graph.graphed in
    let l = c.loop-i in
    let E = l.invariant c.requires.has_graph.ns G in
    let t = c.loop-i-test.true in
    let f = versions-room c.args.work.now _ _ _ _ _ _ _ G E t c.requires.room in
    versions-slot c.args.work.now _ _ _ _ _ _ _ G E t f _ c.put.ensures

pub loop-i-smaller : goal.loop-i-smaller
loop-i-smaller c =
    let G = c.requires.has_graph.graphed in
    let l = c.loop-i in
    let E = l.invariant c.requires.has_graph.ns G in
    let t = c.loop-i-test.true in
    let f = versions-room c.args.work.now _ _ _ _ _ _ _ G E t c.requires.room in
    let g = versions-forward c.args.work.now _ _ _ _ _ _ _ G E t f _ c.put.ensures _ c.get_next-i.ensures in
    omega arith

pub loop-i-preserved : goal.loop-i-preserved
loop-i-preserved c =
    let G = c.requires.has_graph.graphed in
    let l = c.loop-i in
    let E = l.invariant c.requires.has_graph.ns G in
    let t = c.loop-i-test.true in
    let f = versions-room c.args.work.now _ _ _ _ _ _ _ G E t c.requires.room in
    λ ns H. versions-more c.args.work.now _ _ ns _ _ _ _ H (l.invariant ns H) t f _ c.put.ensures _ c.get_next-i.ensures

pub shape_of-work : goal.shape_of-work
shape_of-work c =
    let R = c.requires.has_graph in
    (c.loop-i.invariant R.ns R.graphed).kept.size

pub returns : goal.returns
returns c =
    λ ns G. versions-all c.args.work.now _ _ ns _ _ _ _ G (c.loop-i.invariant ns G) c.loop-i-test.false
