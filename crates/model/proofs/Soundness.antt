-- Demand 3, first half: `soundness`. Assumes nothing.
use mathlib.Core.Path.{◌≡◌, ◌∙◌, sym}
use Prim.Native.Nat.{ℕ}
use Rattle.model.specs.Result.{ok}
use Rattle.model.specs.Numbers.{Bytes}
use Rattle.model.specs.Accumulator.{letter_R}
use Rattle.model.specs.Graph.{graph}
use Rattle.model.specs.Answer.{log_header, log_commitment}
use Rattle.model.specs.CheckRows.{Accepted, run_under, run, room, run_into}
use Rattle.model.specs.Exact.{Soundness}
use Rattle.model.proofs.Outcomes.{bind_eq, bind_ok}
use Rattle.model.proofs.LogGraph.{well_formed}
use Rattle.model.proofs.SoundnessOverGraphs.{soundness_over_graphs}

-- an accepted run whose list fitted is an accepted run
pub run_of_into : (direction s t t2 : ℕ) (c x : Bytes) (work out : ℕ) (a : Accepted) → run_into direction s t t2 c x work out ≡ ok a → run direction s t t2 c x work ≡ ok a
unfolding run_into
run_of_into direction s t t2 c x work out a e =
    let b = bind_ok (run direction s t t2 c x work) _ e in
    let d = bind_ok (room b.0.verdict out) _ b.2 in
    b.1 ∙ d.2

-- For every sound log, every known question, all bytes handed in as the answer and every length of work area and of output: if the check
-- against the log's commitment accepts, then the answer is the defined one, the verdict the true one and the trace the true one, or two
-- different strings, one hashed in building the commitment and one in this check, have the same SHA-256 value; they are given.
pub soundness : Soundness run_into
unfolding run log_commitment log_header
soundness log rs l direction s t t2 q e x o work out a r =
    soundness_over_graphs (log_header rs) (graph rs) (well_formed log rs l) q x o work a
    (sym (bind_eq _ (λ q. run_under letter_R q (log_commitment rs) x work) q e) ∙ run_of_into direction s t t2 (log_commitment rs) x work out a r)
