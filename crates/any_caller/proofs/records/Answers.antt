use mathlib.Core.Path.{◌≡◌, ap, ◌∙◌}
use Prim.Native.Nat.{ℕ, ◌+◌, ◌-◌}
use native.Mathlib.Omega.{arith}
use lib.ListN.{take, drop}
use Rattle.fields.specs.Fields.{part}
use Rattle.any_caller.proofs.records.Goals as goal

pub returns : goal.returns
unfolding part
returns c =
    let a = c.args in
    let b = c.bozhtagul_records-b.ensures in
    let r = c.bozhtagul_records-b.result in
    ap (λ (n : ℕ). take n (drop r.start a.answer.now)) (let k : r.start + r.length - r.start ≡ r.length = omega arith in k) ∙ b.records
