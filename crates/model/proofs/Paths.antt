-- Paths: their ends, their last edge, and what is on them. Assumes nothing.
use mathlib.Core.Path.{◌≡◌, refl, sym, subst}
use mathlib.Core.Logic.{◌⊎◌, inl, inr}
use Prim.Native.Nat.{ℕ, ◌<◌, ◌≤◌}
use native.Mathlib.Omega.{arith}
use mathlib.Core.List.Memᴰ
use mathlib.Core.List.{List}
use lib.ListN.{length}
use Rattle.model.specs.Graph.{VersionNode, node_at, NamedEdge, named, Edge, CausalPath, stay, step, versions_on, edges_on}
use Rattle.model.proofs.Lists.{◌among◌}
use Rattle.model.proofs.Digests.{Down}

-- a path, and an edge from its end
pub path_snoc : {ns : List VersionNode} {i j k : ℕ} → CausalPath ns i j → Edge ns j k → CausalPath ns i k
path_snoc (stay h) e = step e (stay e.end_there)
path_snoc (step d p) e = step d (path_snoc p e)

pub path-append : {ns : List VersionNode} {i j k : ℕ} → CausalPath ns i j → CausalPath ns j k → CausalPath ns i k
path-append (stay h) q = q
path-append (step e p) q = step e (path-append p q)

pub path-from : {ns : List VersionNode} {i j : ℕ} → CausalPath ns i j → i < length ns
path-from (stay h) = h
path-from (step e p) = e.start_there

pub path_to : {ns : List VersionNode} {i j : ℕ} → CausalPath ns i j → j < length ns
path_to (stay h) = h
path_to (step e p) = path_to p

-- the last edge of a path
pub unsnoc : {ns : List VersionNode} {i j : ℕ} → CausalPath ns i j → (i ≡ j) ⊎ ((k : ℕ) × CausalPath ns i k × Edge ns k j)
unsnoc (stay h) = inl refl
unsnoc {ns} (step {i} {j} {k} e p) = inr (go (unsnoc p))
  where
    go : (j ≡ k) ⊎ ((q : ℕ) × CausalPath ns j q × Edge ns q k) → (q : ℕ) × CausalPath ns i q × Edge ns q k
    go (inl s) = (i, stay e.start_there, subst (λ (z : ℕ). Edge ns i z) s e)
    go (inr r) = (r.0, step e r.1, r.2)

module _ (ns : List VersionNode) (down : Down ns) where
  pub edge-up : {i j : ℕ} → Edge ns i j → i < j
  edge-up {i} {j} e = let d = down j e.end_there e.edge e.listed in let s = e.starts in omega arith

  pub path-up : {i j : ℕ} → CausalPath ns i j → i ≤ j
  path-up (stay h) = omega arith
  path-up (step e p) = let a = edge-up e in let b = path-up p in omega arith

-- ---- what is on a path

pub first_on : {ns : List VersionNode} {i k : ℕ} (p : CausalPath ns i k) → i among versions_on p
unfolding versions_on
first_on (stay h) = Memᴰ.head refl
first_on (step e p) = Memᴰ.head refl

pub last_on : {ns : List VersionNode} {i k : ℕ} (p : CausalPath ns i k) → k among versions_on p
unfolding versions_on
last_on (stay h) = Memᴰ.head refl
last_on (step e p) = Memᴰ.tail (last_on p)

-- a version on a path reaches its end, and is reached from its start
pub to_end : {ns : List VersionNode} {i k m : ℕ} (p : CausalPath ns i k) → m among versions_on p → CausalPath ns m k
unfolding versions_on
to_end {ns} (stay {i} h) (Memᴰ.head e) = subst (λ (z : ℕ). CausalPath ns z i) (sym e) (stay h)
to_end {ns} {k = k} (step f p) (Memᴰ.head e) = subst (λ (z : ℕ). CausalPath ns z k) (sym e) (step f p)
to_end {ns = ns} {m = m} (stay {i = i} h) (Memᴰ.tail t) = elim t [ ]
to_end (step f p) (Memᴰ.tail t) = to_end p t

pub from_start : {ns : List VersionNode} {i k m : ℕ} (p : CausalPath ns i k) → m among versions_on p → CausalPath ns i m
unfolding versions_on
from_start {ns} (stay {i} h) (Memᴰ.head e) = subst (λ (z : ℕ). CausalPath ns i z) (sym e) (stay h)
from_start {ns} (step {i} f p) (Memᴰ.head e) = subst (λ (z : ℕ). CausalPath ns i z) (sym e) (stay f.start_there)
from_start {ns = ns} {m = m} (stay {i = i} h) (Memᴰ.tail t) = elim t [ ]
from_start (step f p) (Memᴰ.tail t) = step f (from_start p t)

-- an edge on a path: its start is reached from the path's start, and its end reaches the path's end
pub record Within (ns : List VersionNode) (i k : ℕ) (l : NamedEdge) : Type 0 where
  pub a : ℕ
  pub b : ℕ
  pub edge : Edge ns a b
  pub before : CausalPath ns i a
  pub behind : CausalPath ns b k
  pub is_it : l ≡ named edge.edge (node_at ns a) (node_at ns b)

pub edge-within : {ns : List VersionNode} {i k : ℕ} {l : NamedEdge} (p : CausalPath ns i k) → l among edges_on p → Within ns i k l
unfolding edges_on
edge-within (stay h) m = absurd (Memᴰ.not-nil m)
edge-within (step f p) (Memᴰ.head e) = record { a = _; b = _; edge = f; before = stay f.start_there; behind = p; is_it = e }
edge-within (step f p) (Memᴰ.tail t) =
    let r = edge-within p t in
    record { a = r.a; b = r.b; edge = r.edge; before = step f r.before; behind = r.behind; is_it = r.is_it }

pub middle_on : {ns : List VersionNode} {i a b k : ℕ} (p : CausalPath ns i a) (f : Edge ns a b) (q : CausalPath ns b k)
    → named f.edge (node_at ns a) (node_at ns b) among edges_on (path-append p (step f q))
unfolding path-append edges_on
middle_on (stay h) f q = Memᴰ.head refl
middle_on (step g p) f q = Memᴰ.tail (middle_on p f q)
