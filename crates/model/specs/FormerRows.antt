-- Rows that a request took out, as they were, for the theorem that no result changed (`proofs/FormerRows`). No call's definition cites this
-- module. Assumes nothing.
use Rattle.std.specs.Prelude.{ℕ, ◌&&◌, List}
use Rattle.std.proofs.Math.Option.{Option, map}
use Rattle.model.specs.Result.{Result, ok, ◌>>=◌, need}
use Rattle.model.specs.Numbers.{Bytes, above}
use Rattle.model.specs.Log.{Record, birth, flow, record_limit}
use Rattle.model.specs.Graph.{VersionNode, node_at, latest, graph}
use Rattle.model.specs.LogRows.{RecordReader, next_record, log_by}

-- flow no later than an end's latest version: gone by request A10, "the number is not used again"
abbrev pub flow_not_later : ℕ
flow_not_later = 10

-- the time of an entity's latest version
unfoldable pub latest_time : ℕ → List VersionNode → Option ℕ
latest_time x ns = map (λ (i : ℕ). (node_at ns i).time) (latest x ns)

-- 10 of a record after the records rs
unfoldable pub row_10 : List Record → Record → ℕ → Result (Unit {0})
row_10 rs (birth e t) pos = ok tt
row_10 rs (flow s d k t) pos = need (above (latest_time s (graph rs)) t && above (latest_time d (graph rs)) t) flow_not_later pos

-- "each record in turn by 2 to 10"
unfoldable pub next_record_10 : ℕ → RecordReader
next_record_10 limit rs pos x = do
  r ← next_record limit rs pos x
  _ ← row_10 rs r pos
  ok r

-- a log of at most `limit` records, and a log, as they were read with row 10
unfoldable pub log_within_10 : ℕ → Bytes → Result (List Record)
log_within_10 limit x = log_by (next_record_10 limit) x

unfoldable pub read_log_10 : Bytes → Result (List Record)
read_log_10 x = log_within_10 record_limit x
