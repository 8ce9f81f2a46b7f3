-- Where the walk through a sound log's trees stops in the tree of the entity asked: where no version of it meets the time, and the key that
-- is handed upward is the time of the entity's first version, or of its last. Assumes nothing.
use mathlib.Core.Path.{◌≡◌, refl, sym, ap, ◌∙◌}
use Prim.Native.Nat.{ℕ, zero, suc}
use native.Mathlib.Omega.{arith}
use mathlib.Core.Bool.{true}
use mathlib.Core.List.{List}
use Rattle.model.specs.Result.{ok}
use Rattle.model.specs.Numbers.{Bytes}
use Rattle.model.specs.Log.{Record}
use Rattle.model.specs.Graph.{VersionNode, node_at, graph}
use Rattle.model.specs.Accumulator.{Subtree, VersionLeaf}
use Rattle.model.specs.Question.{Relation, at_or_before, at_or_after, Part, VersionQuestion, one, Stop, no_entity, not_yet, none_so_late, unmet, SearchEnd, by_time, Verdict}
use Rattle.model.specs.Answer.{proof, log_header}
use Rattle.model.specs.CheckRows.{stopped, check_tree, check_versions}
use Rattle.model.specs.Exact.{IsSought, IsOutermost, TrueVersion, is_found, is_no_entity, is_unmet, SoundLog}
use Rattle.model.proofs.LogGraph.{well_formed}
use Rattle.model.proofs.Verdicts.{true_verdict-holds, true_verdict-only}
use Rattle.model.proofs.Truth.{verdict_by, walk-verdict}

-- the entity has versions, none of them meets the time, and the outermost has this time
pub record StopsWith (ns : List VersionNode) (q : VersionQuestion) (key : ℕ) : Type 0 where
  pub version : ℕ
  pub outermost : IsOutermost ns q version
  pub its_time : (node_at ns version).time ≡ key
  pub none-meets : (v : ℕ) → IsSought ns q v → ⊥

-- ---- by the verdict

same_key : (r : Relation) (a b : ℕ) → Verdict.not_found (unmet r a) ≡ Verdict.not_found (unmet r b) → a ≡ b
same_key at_or_before a b e = cc
same_key at_or_after a b e = cc

no_key : (r : Relation) (a : ℕ) → Verdict.not_found no_entity ≡ Verdict.not_found (unmet r a) → ⊥
no_key at_or_before a e = let z : ◌≡◌ {A = ℕ} 0 1 = cc in omega arith
no_key at_or_after a e = let z : ◌≡◌ {A = ℕ} 0 1 = cc in omega arith

by_verdict : (ns : List VersionNode) (p : Part) (e : SearchEnd VersionLeaf) (s : Stop) → verdict_by ns p e ≡ Verdict.not_found s → e ≡ SearchEnd.not_found s
by_verdict ns p (SearchEnd.not_found z) s e = let same : z ≡ s = cc in ap SearchEnd.not_found same
by_verdict ns p (SearchEnd.listed vs) s e = absurd (let z : ◌≡◌ {A = ℕ} 0 1 = cc in omega arith)
by_verdict ns p (SearchEnd.found v) s e = absurd (let z : ◌≡◌ {A = ℕ} 0 1 = cc in omega arith)

of-verdict : (ns : List VersionNode) (q : VersionQuestion) (key : ℕ) (v : Verdict) → TrueVersion ns q v → v ≡ Verdict.not_found (unmet q.relation key) → StopsWith ns q key
of-verdict ns q key v (is_found w ms a b) e = absurd (let z : ◌≡◌ {A = ℕ} 0 1 = cc in omega arith)
of-verdict ns q key v (is_no_entity f) e = absurd (no_key q.relation key e)
of-verdict ns q key v (is_unmet w o f) e = record { version = w; outermost = o; its_time = same_key q.relation _ key e; none-meets = f }

-- ---- of a sound log's answer

module _ (log : Bytes) (rs : List Record) (l : SoundLog log rs) (q : VersionQuestion) (key : ℕ) where
  pub stop-gives : (proof (log_header rs) (graph rs) (one q)).end ≡ SearchEnd.not_found (unmet q.relation key) → StopsWith (graph rs) q key
  unfolding proof
  stop-gives e =
      let w = well_formed log rs l in
      of-verdict (graph rs) q key _ (true_verdict-holds (graph rs) w (one q)) (sym (walk-verdict (graph rs) w (one q)) ∙ ap (verdict_by (graph rs) q.part) e)

  pub stop-given : StopsWith (graph rs) q key → (proof (log_header rs) (graph rs) (one q)).end ≡ SearchEnd.not_found (unmet q.relation key)
  unfolding proof
  stop-given s =
      let w = well_formed log rs l in
      by_verdict (graph rs) q.part _ (unmet q.relation key)
      (walk-verdict (graph rs) w (one q)
      ∙ sym (true_verdict-only (graph rs) w (one q) _ (is_unmet s.version s.outermost s.none-meets))
      ∙ ap (λ (k : ℕ). Verdict.not_found (unmet q.relation k)) s.its_time)

-- ---- of any bytes

-- at whatever subtree the walk has come to, under whatever commitment: the key handed upward is the one known there
pub stop-known : (r : Relation) (t f : ℕ) (k : Subtree) (pos : ℕ) (x : Bytes) → (by_time r t).stops k ≡ true
    → check_versions r t f k pos x ≡ ok (stopped (SearchEnd.not_found ((by_time r t).stop_at k)) pos x)
unfolding check_versions check_tree
stop-known r t zero k pos x h = simp (h)
stop-known r t (suc f) k pos x h = simp (h)

-- both relations, of keys that no log's tree has: a least above the greatest
pub stop_keys : (digest : Bytes) (f pos : ℕ) (x : Bytes)
    → (check_versions at_or_before 4 f (record { least = 8; greatest = 3; digest = digest }) pos x ≡ ok (stopped (SearchEnd.not_found (not_yet 8)) pos x))
    × (check_versions at_or_after 4 f (record { least = 8; greatest = 3; digest = digest }) pos x ≡ ok (stopped (SearchEnd.not_found (none_so_late 3)) pos x))
unfolding by_time
stop_keys digest f pos x = (
  stop-known at_or_before 4 f (record { least = 8; greatest = 3; digest = digest }) pos x refl,
  stop-known at_or_after 4 f (record { least = 8; greatest = 3; digest = digest }) pos x refl,
)
