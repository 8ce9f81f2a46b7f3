-- Laws of a sound log that a reader would ask for: its fields fit their widths, its times and births rise, a version is determined by its
-- name. Assumes nothing.
use mathlib.Core.Path.{◌≡◌, sym, subst}
use mathlib.Core.Logic.{◌⊎◌, inl, inr}
use Prim.Native.Nat.{ℕ, ◌<◌, ◌≤◌}
use mathlib.Core.List.Memᴰ
use mathlib.Core.List.{List, [], ◌∷◌}
use lib.ListN.{length}
use Rattle.model.specs.Numbers.{Bytes}
use Rattle.model.specs.Log.{Record, record_limit, TimesRise, births}
use Rattle.model.specs.Graph.{node_at, graph}
use Rattle.model.specs.LogRows.{read_log}
use Rattle.model.specs.WellFormed.{Rising}
use Rattle.model.specs.Exact.{SoundLog}
use Rattle.model.proofs.Lists.{◌among◌, up-rising}
use Rattle.model.proofs.LogReading.{RecordFits, Next, log_ind}
use Rattle.model.proofs.LogGraph.{sound_facts, well_formed}
use Rattle.model.proofs.Match.{one_time}
use Rattle.model.proofs.Verdicts.{regular}

module _ (log : Bytes) (rs : List Record) (s : SoundLog log rs) where
  -- every field fits its width
  pub fields_fit : (r : Record) → r among rs → RecordFits r
  unfolding read_log
  fields_fit =
      log_ind (λ (rs : List Record). (r : Record) → r among rs → RecordFits r) record_limit (λ r m. absurd (Memᴰ.not-nil m))
      (λ rs q f n r m. go rs q f n r (Memᴰ.append_cases rs m)) log rs s.octets s.reads
    where
      go : (rs : List Record) (q : Record) → ((r : Record) → r among rs → RecordFits r) → Next record_limit rs q → (r : Record) → (r among rs) ⊎ (r among q ∷ []) → RecordFits r
      go rs q f n r (inl m) = f r m
      go rs q f n r (inr m) = subst RecordFits (sym (Memᴰ.eq_of_singleton m)) n.fits

  -- "At most 65,535 records."
  pub within-limit : length rs ≤ record_limit
  within-limit = (sound_facts log rs s).within

  -- "Births rise strictly in entity number."
  pub births_rise : Rising (births rs)
  births_rise = up-rising (sound_facts log rs s).births_rise

  -- "Times rise strictly from record to record."
  pub record_times_rise : TimesRise rs
  record_times_rise = (sound_facts log rs s).records-rise

  -- and so they do from version to version
  pub times_rise : (i j : ℕ) → i < j → j < length (graph rs) → (node_at (graph rs) i).time < (node_at (graph rs) j).time
  times_rise = (sound_facts log rs s).times_rise

  -- "A version is named by entity and time": no two versions share a name, nor a time
  pub one_name : (i j : ℕ) → i < length (graph rs) → j < length (graph rs) → (node_at (graph rs) i).entity ≡ (node_at (graph rs) j).entity
      → (node_at (graph rs) i).time ≡ (node_at (graph rs) j).time → i ≡ j
  one_name i j hi hj e t = one_time (graph rs) (regular (graph rs) (well_formed log rs s)) i j hi hj t
