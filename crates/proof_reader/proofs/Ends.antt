-- For callers: what the reader's answer tells, and that what follows a proof depends on its end alone and not on the strings opened. Assumes
-- nothing.
use mathlib.Core.Path.{◌≡◌, sym, ap, ◌∙◌, subst}
use Prim.Native.Nat.{ℕ, ◌+◌}
use lib.ListN.{take, drop}
use Rattle.model.specs.Numbers.{Bytes}
use Rattle.model.specs.Result.{Result, ◌>>=◌}
use Rattle.model.specs.Accumulator.{Leaf}
use Rattle.model.specs.Question as model
use Rattle.model.specs.Question.{Part, SearchEnd}
use Rattle.model.specs.CheckRows.{CheckedProof, stopped as ended, leaf_in, check_end}
use Rattle.model.specs.Calls.{verdict_of}
use Rattle.model.proofs.Outcomes.{bind_eq}
use Rattle.model.proofs.CheckSteps.{bare, without-opened, end-without, verdict-without}
use Rattle.std.specs.Prelude.{Ok, Err}
use Rattle.outcome.specs.declared.Refusal.{Refusal}
use Rattle.proof_reader.specs.declared.Stop.{Stop}
use Rattle.proof_reader.specs.declared.Proof.{Proof}
use Rattle.proof_reader.specs.declared.Proof.TheVariants.{Stopped, Found}
use Rattle.proof_reader.specs.declared.ListProof.{ListProof}
use Rattle.proof_reader.specs.declared.ListProof.TheVariants.{NoEntity, Listed as ToList}
use Rattle.proof_reader.specs.Walks.{RefusedBy, stop_of, Gives, ProofIs, stopped, found, refused}
use Rattle.proof_reader.specs.Spans.{ListStrings, ListIs, without, lists, unlisted}

-- ---- by the reader's answer

module _ (answer : Bytes) (m : Result CheckedProof) where
  pub stopped-is : (x : Proof) → ProofIs answer m (Ok x) → (s : Stop) (at : ℕ) → x ≡ Stopped s at
      → (e : model.Stop) × (s ≡ stop_of e) × Gives answer m (SearchEnd.not_found e) at
  stopped-is x P s at q = go (subst (λ (y : Proof). ProofIs answer m (Ok y)) q P)
    where
      go : ProofIs answer m (Ok (Stopped s at)) → (e : model.Stop) × (s ≡ stop_of e) × Gives answer m (SearchEnd.not_found e) at
      go (stopped _ e _ k g) = (e, k, g)

  pub found-is : (x : Proof) → ProofIs answer m (Ok x) → (leaf at : ℕ) → x ≡ Found leaf at
      → (at ≡ leaf + 77) × Gives answer m (SearchEnd.found (leaf_in (take 77 (drop leaf answer)))) at
  found-is x P leaf at q = go (subst (λ (y : Proof). ProofIs answer m (Ok y)) q P)
    where
      go : ProofIs answer m (Ok (Found leaf at)) → (at ≡ leaf + 77) × Gives answer m (SearchEnd.found (leaf_in (take 77 (drop leaf answer)))) at
      go (found _ _ e g) = (e, g)

  pub refused-is : (e : Refusal) → ProofIs answer m (Err e) → RefusedBy m e
  refused-is e (refused _ h) = h

  pub without_is : (x : ListProof) → ListIs answer m (Ok x) → (at : ℕ) → x ≡ NoEntity at → Gives answer m (SearchEnd.not_found model.no_entity) at
  without_is x P at q = go (subst (λ (y : ListProof). ListIs answer m (Ok y)) q P)
    where
      go : ListIs answer m (Ok (NoEntity at)) → Gives answer m (SearchEnd.not_found model.no_entity) at
      go (without _ g) = g

  pub lists-is : (x : ListProof) → ListIs answer m (Ok x) → (start end count : ℕ) → x ≡ ToList start end count
      → (l : ListStrings answer start end count) × Gives answer m (SearchEnd.listed l.leaves) end
  lists-is x P start end count q = go (subst (λ (y : ListProof). ListIs answer m (Ok y)) q P)
    where
      go : ListIs answer m (Ok (ToList start end count)) → (l : ListStrings answer start end count) × Gives answer m (SearchEnd.listed l.leaves) end
      go (lists _ _ _ l g) = (l, g)

  pub unlisted-is : (e : Refusal) → ListIs answer m (Err e) → RefusedBy m e
  unlisted-is e (unlisted _ h) = h

-- ---- without the strings opened

module _ (answer : Bytes) (m : Result CheckedProof) (e : SearchEnd Leaf) (at : ℕ) (g : Gives answer m e at) (p : Part) (work : ℕ) where
  bare_is : bare g.proof ≡ ended e at (drop at answer)
  bare_is = simp (g.end_is, g.pos_is, g.rest_is)

  pub run-without : without-opened (m >>= λ r. check_end p work r r.end) ≡ without-opened (check_end p work (ended e at (drop at answer)) e)
  run-without =
      ap without-opened (bind_eq m _ g.proof g.is)
      ∙ end-without p work g.proof g.proof.end
      ∙ ap (λ (r : CheckedProof). without-opened (check_end p work r r.end)) bare_is

  -- the check's verdict, by how the proof ended and the byte behind it
  pub end-verdict : verdict_of (m >>= λ r. check_end p work r r.end) ≡ verdict_of (check_end p work (ended e at (drop at answer)) e)
  end-verdict = sym (verdict-without (m >>= λ r. check_end p work r r.end)) ∙ ap verdict_of run-without ∙ verdict-without (check_end p work (ended e at (drop at answer)) e)
