-- The names of an accepted walk in preorder by its strings' letters alone: they can be read from its bytes without keys or digests. Assumes nothing.
use mathlib.Core.Path.{◌≡◌, sym, ap, ◌∙◌, subst}
use mathlib.Core.Bool.{Bool}
use mathlib.Core.List.{List, [], ◌∷◌, ◌++◌, map, map-append}
use Prim.Native.Nat.{ℕ, ◌<◌}
use native.Mathlib.Omega.{arith}
use lib.ListN.{get_or, drop}
use lib.Seq.{get_or-take}
use Rattle.model.specs.Numbers.{Bytes}
use Rattle.model.specs.Result.{ok}
use Rattle.model.specs.Accumulator.{letter_L, letter_N, L_width, branch_width, Subtree}
use Rattle.model.specs.Question.{VersionName}
use Rattle.model.specs.CheckRows.{take_string, leaf_in, CheckedAll, check_all, leaf_name}
use Rattle.model.proofs.Walk.{taken}
use Rattle.model.proofs.Preorder.{accepted-all}
use Rattle.proof_reader.specs.Spans.{Named, at_end, an_L, an_N}

named_then : {x y z : Bytes} {vs ws : List VersionName} → Named x vs y → Named y ws z → Named x (vs ++ ws) z
named_then (at_end x) m = m
named_then {z = z} {ws = ws} (an_L x rest us e h n) m = an_L x z (us ++ ws) e h (named_then n m)
named_then {z = z} {ws = ws} (an_N x rest us e h n) m = an_N x z (us ++ ws) e h (named_then n m)

first-letter : (letter w : ℕ) (due : Bytes) (pos : ℕ) (x s : Bytes) → 0 < w → take_string letter w due pos x ≡ ok s → get_or x 0 0 ≡ letter
first-letter letter w due pos x s p e =
    let t = taken letter w due pos x s p e in
    sym (get_or-take w x 0 0 p) ∙ ap (λ (l : Bytes). get_or l 0 0) (sym t.is) ∙ t.starts

leaf-named : (pos : ℕ) (x s due : Bytes) → take_string letter_L L_width due pos x ≡ ok s → Named x (leaf_name (leaf_in s) ∷ []) (drop L_width x)
leaf-named pos x s due e =
    let t = taken letter_L L_width due pos x s (omega arith) e in
    subst (λ (z : Bytes). Named x (leaf_name (leaf_in z) ∷ []) (drop L_width x)) (sym t.is)
    (an_L x (drop L_width x) [] (first-letter letter_L L_width due pos x s (omega arith) e) t.long (at_end (drop L_width x)))

both-named : (pos : ℕ) (x s due : Bytes) (a b : CheckedAll) → take_string letter_N branch_width due pos x ≡ ok s
    → Named (drop branch_width x) (map leaf_name a.leaves) a.rest → Named a.rest (map leaf_name b.leaves) b.rest
    → Named x (map leaf_name (a.leaves ++ b.leaves)) b.rest
both-named pos x s due a b e f g =
    an_N x b.rest _ (first-letter letter_N branch_width due pos x s (omega arith) e) (taken letter_N branch_width due pos x s (omega arith) e).long
    (subst (λ (vs : List VersionName). Named (drop branch_width x) vs b.rest) (sym (map-append leaf_name a.leaves b.leaves))
    (named_then f g))

pub all_named : (opens : Subtree → Bool) (n : ℕ) (k : Subtree) (pos : ℕ) (x : Bytes) (r : CheckedAll) → check_all opens n k pos x ≡ ok r → Named x (map leaf_name r.leaves) r.rest
all_named opens =
    accepted-all opens (λ n pos x r. Named x (map leaf_name r.leaves) r.rest) (λ n pos x. at_end x) (λ n pos x s due e. leaf-named pos x s due e)
    (λ n pos x s due a b e f g. both-named pos x s due a b e f g)
