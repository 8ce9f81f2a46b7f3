-- Row 10 turned no log away, so reading with it and without it is the same (request A10). Assumes nothing.
use mathlib.Core.Path.{◌≡◌, refl, ◌∙◌}
use Prim.Native.Nat.{ℕ, ◌<◌}
use mathlib.Core.Option.{Option, none, some, map}
use mathlib.Core.List.{List, [], ◌∷◌}
use lib.ListN.{length}
use lib.Dec.{T, leb, lt→ltb}
use Rattle.fields.specs.Fields.{decode, part, field}
use Rattle.model.specs.Result.{ok, refuse, ◌>>=◌, need}
use Rattle.model.specs.Numbers.{Bytes, above}
use Rattle.model.specs.Log.{Record, birth, flow, FLOW, record_time, last_time, births, TimesRise, no_record, one_later}
use Rattle.model.specs.Graph.{VersionNode, node_at, no_version, latest_from, latest, made, grow, graph}
use Rattle.model.specs.LogRows.{parse, ends_rows, next_record, log_by, log_within, read_log}
use Rattle.model.specs.FormerRows.{flow_not_later, latest_time, row_10, next_record_10, log_within_10, read_log_10}
use Rattle.model.proofs.Outcomes.{T_and, need_yes, bind_eq, bind_same, bind_itself}
use Rattle.model.proofs.Lists.{◌among◌, place_in}
use Rattle.model.proofs.LogReading.{next-parts, readers_agree}
use Rattle.model.proofs.LogGraph.{latest-among, versions-before}

-- ---- the row as it was is no empty one

-- After births at 10 and 20, a flow at 20, which row 5 turns away, meets it, whichever of its ends' latest versions stands there.
pub row_10-met : (pos : ℕ)
    → (row_10 (birth 1 10 ∷ birth 2 20 ∷ []) (flow 1 2 7 20) pos ≡ refuse flow_not_later pos)
    × (row_10 (birth 1 10 ∷ birth 2 20 ∷ []) (flow 2 1 7 20) pos ≡ refuse flow_not_later pos)
unfolding row_10 latest_time latest latest_from graph grow made need
row_10-met pos = (refl, refl)

-- After births at 10, 50 and 20, which do not rise, a flow from 1 to 2 at 30 passes row 5, and reading with row 10 and without it differ.
pub readings_differ :
    let falling : List Record = birth 1 10 ∷ birth 2 50 ∷ birth 3 20 ∷ [] in
    let x : Bytes = FLOW ∷ 0 ∷ 0 ∷ 0 ∷ 1 ∷ 0 ∷ 0 ∷ 0 ∷ 2 ∷ 7 ∷ 0 ∷ 0 ∷ 0 ∷ 0 ∷ 0 ∷ 0 ∷ 0 ∷ 30 ∷ [] in
    (next_record 4 falling 39 x ≡ ok (flow 1 2 7 30)) × (next_record_10 4 falling 39 x ≡ refuse flow_not_later 39)
unfolding next_record next_record_10 parse ends_rows row_10 latest_time latest latest_from graph grow made births last_time field decode part need ◌>>=◌
readings_differ = (refl, refl)

-- ---- and yet it turned no log away

latest-earlier : (x : ℕ) (ns : List VersionNode) (t : ℕ) → ((n : VersionNode) → n among ns → n.time < t) → T (above (latest_time x ns) t)
unfolding latest_time
latest-earlier x ns t h = go (latest x ns) (latest-among x ns)
  where
    go : (o : Option ℕ) → ((k : ℕ) → o ≡ some k → k < length ns) → T (above (map (λ (i : ℕ). (node_at ns i).time) o) t)
    go none f = tt
    go (some k) f = lt→ltb (node_at ns k).time t (h (node_at ns k) (place_in ns k no_version (f k refl)))

-- "no log whose records passed 5 can meet it": the records rs passed 5, and so did the record r behind them
pub row_10-passed : (rs : List Record) (r : Record) (pos : ℕ) → TimesRise rs → T (above (last_time rs) (record_time r)) → row_10 rs r pos ≡ ok tt
unfolding row_10
row_10-passed rs (birth e t) pos u l = refl
row_10-passed rs (flow s d k t) pos u l = need_yes _ _ _ (T_and (above (latest_time s (graph rs)) t) (above (latest_time d (graph rs)) t) (later s) (later d))
  where
    later : (x : ℕ) → T (above (latest_time x (graph rs)) t)
    later x = latest-earlier x (graph rs) t (versions-before u t l)

-- after records that passed 5, one more is read alike
same_record : (limit : ℕ) (rs : List Record) (pos : ℕ) (x : Bytes) → TimesRise rs → next_record_10 limit rs pos x ≡ next_record limit rs pos x
unfolding next_record_10
same_record limit rs pos x u =
    bind_same (next_record limit rs pos x) _ ok (λ r e. bind_eq (row_10 rs r pos) _ tt (row_10-passed rs r pos u (next-parts limit rs pos x r e).2))
    ∙ bind_itself (next_record limit rs pos x)

-- every log is read alike with row 10 and without it: the same records, or the same number at the same position
pub same_log : (limit : ℕ) (x : Bytes) → log_within_10 limit x ≡ log_within limit x
unfolding log_within_10 log_within log_by
same_log limit x =
    bind_same (need (leb 1 (length x)) 1 0) _ _
    (λ _ _.
    readers_agree TimesRise (next_record_10 limit) (next_record limit) (same_record limit)
    (λ rs pos y r u e. one_later rs r u (next-parts limit rs pos y r e).2) (length x) [] 0 x no_record)

pub same_reading : (x : Bytes) → read_log_10 x ≡ read_log x
unfolding read_log_10 read_log
same_reading x = same_log _ x

-- such records are to be had
births_rise : TimesRise (birth 1 10 ∷ birth 2 20 ∷ [])
unfolding last_time
births_rise = one_later (birth 1 10 ∷ []) (birth 2 20) (one_later [] (birth 1 10) no_record tt) tt

pub row_10_passed_at_30 : (pos : ℕ) → row_10 (birth 1 10 ∷ birth 2 20 ∷ []) (flow 1 2 7 30) pos ≡ ok tt
unfolding last_time
row_10_passed_at_30 pos = row_10-passed (birth 1 10 ∷ birth 2 20 ∷ []) (flow 1 2 7 30) pos births_rise tt
