-- The check's verdict as plain numbers, and demand 3 of what they say. Assumes nothing.
use mathlib.Core.Path.{◌≡◌, refl, sym, ap, ap₂, ◌∙◌, subst}
use Prim.Native.Nat.{ℕ, ◌*◌, ◌≤◌}
use native.Mathlib.Omega.{arith}
use lib.Dec.{le→leb}
use lib.ListN.{length}
use Rattle.fields.specs.Fields.{Octets, part, written}
use Rattle.model.specs.Numbers.{Bytes}
use Rattle.model.specs.Result.{Result, ok, refuse, ◌>>=◌}
use Rattle.model.specs.Graph.{graph}
use Rattle.model.specs.Question.{Stop, no_entity, not_yet, none_so_late, Verdict, count, list_string}
use Rattle.model.specs.Answer.{log_answer}
use Rattle.model.specs.CheckRows.{enough, Accepted as Run, run, room, run_into}
use Rattle.model.specs.Calls.{verdict_of, check_call, records_part, records_call}
use Rattle.model.specs.Exact.{true_verdict}
use Rattle.model.proofs.Outcomes.{ok_inj, bind_ok, bind_eq, need_yes}
use Rattle.model.proofs.LogGraph.{well_formed}
use Rattle.model.proofs.Verdicts.{true_verdict-holds}
use Rattle.model.proofs.Soundness.{soundness}
use Rattle.model.proofs.CheckCall.{check_complete, output-listed, list_length}
use Rattle.model.proofs.RowNumbers.{number-above, run_into_numbered}
use Rattle.proof_reader.specs.Walks.{stop_of}
use Rattle.checker.specs.declared.Verdict as code
use Rattle.checker.specs.declared.Verdict.TheVariants.{NotFound}
use Rattle.checker.specs.declared.Bounds.{Bounds}
use Rattle.checker.specs.Runs.{declared_verdict, checking_of, bounds_of}
use Rattle.bozhtagul.specs.declared.Checked.{Checked}
use Rattle.bozhtagul.specs.declared.Part.{Part}
use Rattle.bozhtagul.specs.Results.{numbered, checked_by, checked, bounds}
use Rattle.bozhtagul.specs.Demand3.{Asked, Exact, Sound, list_width, Complete}

-- ---- plain numbers

by_stop : (s : Stop) → numbered (NotFound (stop_of s)) ≡ checked (ok (Verdict.not_found s))
unfolding numbered stop_of checked
by_stop no_entity = refl
by_stop (not_yet first) = refl
by_stop (none_so_late last) = refl

by_check : (m : Result Verdict) → checked_by (checking_of m) ≡ checked m
unfolding checked_by checking_of declared_verdict numbered checked
by_check (ok (Verdict.not_found s)) = by_stop s
by_check (ok (Verdict.found t n)) = refl
by_check (ok (Verdict.listed vs)) = refl
by_check (refuse n p) = refl

pub check_agrees : (m : Result Verdict) (c : Result code.Verdict) → c ≡ checking_of m → (r : Checked) → r ≡ checked_by c → r ≡ checked m
check_agrees m c e r f = f ∙ ap checked_by e ∙ by_check m

pub bounds_agree : (m : Result Run) (b : Bounds) → b ≡ bounds_of m → ◌≡◌ {A = Part} (record { start = b.start; length = b.length }) (bounds m)
unfolding bounds_of bounds
bounds_agree m b e = ap (λ (c : Bounds). record { start = c.start; length = c.length }) e ∙ go m
  where
    go : (m : Result Run) → ◌≡◌ {A = Part} (record { start = (bounds_of m).start; length = (bounds_of m).length }) (bounds m)
    go (ok a) = refl
    go (refuse n p) = refl

-- the part that the bounds tell is the records call's
pub part_agrees : (direction s t t2 : ℕ) (commitment x work : Bytes) (r : Part) → r ≡ bounds (run direction s t t2 commitment x (length work))
    → part x r.start r.length ≡ (records_call direction s t t2 commitment x work).result
unfolding records_call bounds records_part part
part_agrees direction s t t2 commitment x work r e =
    ap (λ (p : Part). part x p.start p.length) e ∙ go (run direction s t t2 commitment x (length work))
  where
    go : (m : Result Run) → part x (bounds m).start (bounds m).length ≡ records_part x m
    go (ok a) = refl
    go (refuse n p) = refl

-- ---- demand 3

enough-output : (v : Verdict) (out : ℕ) → list_width v ≤ out → length (list_string v) ≤ out
unfolding list_string
enough-output (Verdict.not_found s) out h = h
enough-output (Verdict.found t n) out h = h
enough-output (Verdict.listed vs) out h = omega (arith, list_length vs)

module _ (direction s t t2 : ℕ) (commitment x out work : Bytes) (a : Asked direction s t t2 commitment) where
  abbrev v : Verdict
  v = true_verdict (graph a.records) a.q

  defined_accepted : x ≡ log_answer a.records a.q → 128 * count v ≤ length work → list_width v ≤ length out → (check_call direction s t t2 commitment x out work).result ≡ ok v
  unfolding enough room
  defined_accepted is roomy wide =
      ap₂ (λ (c y : Bytes). (check_call direction s t t2 c y out work).result) a.of_log is
      ∙ check_complete a.log a.records a.sound direction s t t2 a.q a.known out work
      ∙ bind_eq (enough (count v) (length work)) _ tt (need_yes _ _ _ (le→leb (128 * count v) (length work) roomy))
      ∙ bind_eq (room v (length out)) _ tt (need_yes _ _ _ (le→leb (length (list_string v)) (length out) (enough-output v (length out) wide)))

-- a verdict comes from an accepted run
accepted-run : (m : Result Run) (v : Verdict) → verdict_of m ≡ ok v → (a : Run) × (m ≡ ok a) × (a.verdict ≡ v)
unfolding verdict_of
accepted-run m v e = let b = bind_ok m _ e in (b.0, b.1, ok_inj b.2)

module _ (direction s t t2 : ℕ) (commitment x out work out' : Bytes) (r : Checked) (e : r ≡ checked (check_call direction s t t2 commitment x out work).result)
    (o : out' ≡ (check_call direction s t t2 commitment x out work).output) where
  abbrev ran : Result Run
  ran = run_into direction s t t2 commitment x (length work) (length out)

  returned_by : (m : Result Run) → ran ≡ m → r ≡ checked (verdict_of m)
  unfolding check_call
  returned_by m q = e ∙ ap (λ (m : Result Run). checked (verdict_of m)) q

  pub sound-of : Octets x → Sound direction s t t2 commitment x work out out' r
  unfolding checked verdict_of ◌>>=◌
  sound-of ox a h = go ran refl
    where
      go : (m : Result Run) → ran ≡ m → Exact direction s t t2 commitment x (length work) out out' a r
      go (ok v) q =
          record {
            run_of = v;
            ran = q;
            returned = returned_by (ok v) q;
            listed = o ∙ output-listed direction s t t2 commitment x out work v q;
            demand_3 =
                soundness a.log a.records a.sound direction s t t2 a.q a.known x ox (length work) (length out) v
                (ap (λ (c : Bytes). run_into direction s t t2 c x (length work) (length out)) (sym a.of_log) ∙ q);
          }
      go (refuse n p) q =
          let above = number-above ran n p q (run_into_numbered direction s t t2 commitment x (length work) (length out)) in
          let zero : n ≡ 0 = sym (ap (λ (c : Checked). c.number) (returned_by (refuse n p) q)) ∙ h in
          absurd (let z : ⊥ = omega arith in z)

  pub complete_of : Complete direction s t t2 commitment x work out out' r
  unfolding check_call
  complete_of a is roomy wide =
      let k = defined_accepted direction s t t2 commitment x out work a is roomy wide in
      let b = accepted-run ran (true_verdict (graph a.records) a.q) k in
      record {
        verdict = true_verdict (graph a.records) a.q;
        by_function = refl;
        by_paths = true_verdict-holds (graph a.records) (well_formed a.log a.records a.sound) a.q;
        returned = e ∙ ap checked k;
        listed = o ∙ output-listed direction s t t2 commitment x out work b.0 b.1 ∙ ap (λ (w : Verdict). written out 0 (list_string w)) b.2;
      }

-- what both clauses say of the output that is defined, they say of the one left
pub left_so : (P : Bytes → Type 0) (out' out'' : Bytes) → out' ≡ out'' → P out'' → P out'
left_so P out' out'' e p = subst P (sym e) p
