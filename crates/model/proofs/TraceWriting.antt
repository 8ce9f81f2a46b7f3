-- The defined trace is read back by the check: its records, their places, and what row 12 says of the work area. Assumes nothing.
use mathlib.Core.Path.{◌≡◌, refl, sym, ap, ap₂, ◌∙◌, subst}
use Prim.Native.Nat.{ℕ, suc, ◌+◌, ◌^◌, ◌<◌, ◌≤◌}
use native.Mathlib.Nat.{add-zero}
use native.Mathlib.Omega.{arith}
use mathlib.Core.Bool.{◌&&◌}
use mathlib.Core.Option.{Option, none}
use mathlib.Core.List.Memᴰ
use mathlib.Core.List.{List, [], ◌∷◌, ◌++◌, map, append_assoc, append-nil}
use lib.ListN.{length, get_or, take, drop, length-append, get_or-append}
use lib.Seq.{drop_at, get_or-append_seam, take_at}
use lib.Dec.{T, leb, ltb, eqb, eqb_refl, le→leb, lt→ltb}
use Rattle.fields.specs.Fields.{encode, decode, part, field}
use Rattle.fields.proofs.Numbers.{length-encode, decode-encode}
use Rattle.model.specs.Result.{ok, ◌>>=◌}
use Rattle.model.specs.Numbers.{Bytes, entity_width, time_width, kind_width, joined, above}
use Rattle.model.specs.Log.{record_limit}
use Rattle.model.specs.Graph.{InEdge, temporal, dependency, VersionNode, node_at, no_version}
use Rattle.model.specs.Question.{Way, backward, forward}
use Rattle.model.specs.Trace.{letter_V, letter_T, letter_D, trace_header_width, letter_width, trace_letter, entry_letter, one_edge_string, record_string_by, record_string, record_strings, trace_string}
use Rattle.model.specs.CheckRows.{due, shown_edges, shown_record, all_below, read_record, last_shown, read_records, enough, read_trace}
use Rattle.model.proofs.Outcomes.{pass, bind_eq, bind_same, T_and}
use Rattle.model.proofs.Strings.{Wide, none, num, text, sum, part-joined, joined_length}
use Rattle.model.proofs.Lists.{◌among◌}

-- ---- the shapes of a trace's records, each with a letter that is due

pub data Shape (way : Way) (i : ℕ) : List InEdge → Type 0 where
  entry : T (due way i (entry_letter way)) → Shape way i []
  temporal-only : (p : ℕ) → T (due way i letter_T) → Shape way i (temporal p ∷ [])
  dependency-only : (k q : ℕ) → T (due way i letter_D) → Shape way i (dependency k q ∷ [])
  both-edges : (p k q : ℕ) → T (due way i letter_V) → Shape way i (temporal p ∷ dependency k q ∷ [])

abbrev node : ℕ → ℕ → List InEdge → VersionNode
node e t es = record { entity = e; time = t; in_edges = es }

-- what is wanted of the record at place i
pub record Writable (way : Way) (i : ℕ) (n : VersionNode) : Type 0 where
  pub shape : Shape way i n.in_edges
  pub entity-fits : n.entity < 256 ^ entity_width
  pub time-fits : n.time < 256 ^ time_width
  pub kinds_fit : (e : InEdge) → e among n.in_edges → e.kind < 256 ^ kind_width
  pub starts : (e : InEdge) → e among n.in_edges → e.start < i
  pub small : i < 65536

below_all : (i : ℕ) (es : List InEdge) → ((e : InEdge) → e among es → e.start < i) → T (all_below i es)
unfolding all_below
below_all i [] h = tt
below_all i (e ∷ es) h = T_and (ltb e.start i) (all_below i es) (lt→ltb e.start i (h e (Memᴰ.head refl))) (below_all i es (λ f m. h f (Memᴰ.tail m)))

-- a string of letter c that shows n
read_one : (way : Way) (i : ℕ) (before : Option ℕ) (pos c : ℕ) (s y : Bytes) (n : VersionNode) → T (due way i c) → letter_width c ≤ length (c ∷ s) → shown_record c (c ∷ s ++ y) ≡ n
    → ((e : InEdge) → e among n.in_edges → e.start < i) → T (above before n.time) → read_record way i before pos (c ∷ s ++ y) ≡ ok n
unfolding read_record
read_one way i before pos c s y n hd hl hr hb ha =
    let x = c ∷ s ++ y in
    pass (leb 1 (length x)) 15 pos _ (le→leb 1 (length x) (omega arith))
    ∙ pass (due way i c) 16 pos _ hd
    ∙ pass (leb (letter_width c) (length x)) 15 pos _ (le→leb (letter_width c) (length x) (omega (arith, length-append (c ∷ s) y)))
    ∙ pass (all_below i (shown_record c x).in_edges) 20 pos _ (subst (λ (z : VersionNode). T (all_below i z.in_edges)) (sym hr) (below_all i n.in_edges hb))
    ∙ pass (above before (shown_record c x).time) 21 pos _ (subst (λ (z : VersionNode). T (above before z.time)) (sym hr) ha)
    ∙ ap (λ (z : VersionNode). ok z) hr

-- a number at the k-th field of a string
number_at : {ws : List ℕ} {fs : List Bytes} → Wide ws fs → (y : Bytes) (k w n : ℕ) → k < length ws → get_or ws k 0 ≡ w → get_or fs k [] ≡ encode w n → n < 256 ^ w
    → field w (joined fs ++ y) (sum (take k ws)) ≡ n
unfolding field
number_at {ws} {fs} f y k w n h e g b =
    ap decode (ap (part (joined fs ++ y) (sum (take k ws))) (sym e) ∙ part-joined f y k h ∙ g) ∙ decode-encode w n b

-- ---- what each string shows, and its width

shows_V : (e t p k q : ℕ) (y : Bytes) → e < 256 ^ 4 → t < 256 ^ 8 → k < 256 ^ 1 → p < 256 ^ 4 → q < 256 ^ 4
    → shown_record letter_V (letter_V ∷ joined (encode 4 e ∷ encode 8 t ∷ encode 1 k ∷ encode 4 p ∷ encode 4 q ∷ []) ++ y) ≡ node e t (temporal p ∷ dependency k q ∷ [])
unfolding shown_record shown_edges
shows_V e t p k q y he ht hk hp hq =
    let w = text 1 (letter_V ∷ []) refl (num 4 e (num 8 t (num 1 k (num 4 p (num 4 q none))))) in
    let a = number_at w y 1 4 e (omega arith) refl refl he in
    let b = number_at w y 2 8 t (omega arith) refl refl ht in
    let c = number_at w y 3 1 k (omega arith) refl refl hk in
    let d = number_at w y 4 4 p (omega arith) refl refl hp in
    let f = number_at w y 5 4 q (omega arith) refl refl hq in
    λ z. node (a z) (b z) (temporal (d z) ∷ dependency (c z) (f z) ∷ [])

shows_D : (e t k q : ℕ) (y : Bytes) → e < 256 ^ 4 → t < 256 ^ 8 → k < 256 ^ 1 → q < 256 ^ 4
    → shown_record letter_D (letter_D ∷ joined (encode 4 e ∷ encode 8 t ∷ encode 1 k ∷ encode 4 q ∷ []) ++ y) ≡ node e t (dependency k q ∷ [])
unfolding shown_record shown_edges
shows_D e t k q y he ht hk hq =
    let w = text 1 (letter_D ∷ []) refl (num 4 e (num 8 t (num 1 k (num 4 q none)))) in
    let a = number_at w y 1 4 e (omega arith) refl refl he in
    let b = number_at w y 2 8 t (omega arith) refl refl ht in
    let c = number_at w y 3 1 k (omega arith) refl refl hk in
    let d = number_at w y 4 4 q (omega arith) refl refl hq in
    λ z. node (a z) (b z) (dependency (c z) (d z) ∷ [])

shows_T : (e t p : ℕ) (y : Bytes) → e < 256 ^ 4 → t < 256 ^ 8 → p < 256 ^ 4
    → shown_record letter_T (letter_T ∷ joined (encode 4 e ∷ encode 8 t ∷ encode 4 p ∷ []) ++ y) ≡ node e t (temporal p ∷ [])
unfolding shown_record shown_edges
shows_T e t p y he ht hp =
    let w = text 1 (letter_T ∷ []) refl (num 4 e (num 8 t (num 4 p none))) in
    let a = number_at w y 1 4 e (omega arith) refl refl he in
    let b = number_at w y 2 8 t (omega arith) refl refl ht in
    let c = number_at w y 3 4 p (omega arith) refl refl hp in
    λ z. node (a z) (b z) (temporal (c z) ∷ [])

shows_entry : (way : Way) (e t : ℕ) (y : Bytes) → e < 256 ^ 4 → t < 256 ^ 8
    → shown_record (entry_letter way) (entry_letter way ∷ joined (encode 4 e ∷ encode 8 t ∷ []) ++ y) ≡ node e t []
unfolding shown_record shown_edges
shows_entry way e t y he ht = go way
  where
    go : (way : Way) → shown_record (entry_letter way) (entry_letter way ∷ joined (encode 4 e ∷ encode 8 t ∷ []) ++ y) ≡ node e t []
    go backward =
        let w = text 1 (entry_letter backward ∷ []) refl (num 4 e (num 8 t none)) in
        let a = number_at w y 1 4 e (omega arith) refl refl he in
        let b = number_at w y 2 8 t (omega arith) refl refl ht in
        λ z. node (a z) (b z) []
    go forward =
        let w = text 1 (entry_letter forward ∷ []) refl (num 4 e (num 8 t none)) in
        let a = number_at w y 1 4 e (omega arith) refl refl he in
        let b = number_at w y 2 8 t (omega arith) refl refl ht in
        λ z. node (a z) (b z) []

entry_width : (way : Way) → letter_width (entry_letter way) ≡ 13
entry_width backward = refl
entry_width forward = refl

-- one record read back, and its width
pub record_back : (way : Way) (i : ℕ) (before : Option ℕ) (pos e t : ℕ) (es : List InEdge) (y : Bytes) → Writable way i (node e t es) → T (above before t) → Shape way i es
    → (read_record way i before pos (record_string way (node e t es) ++ y) ≡ ok (node e t es))
    × (letter_width (get_or (record_string way (node e t es) ++ y) 0 0) ≡ length (record_string way (node e t es)))
unfolding record_string record_string_by one_edge_string
record_back way i before pos e t es y h later (entry d) =
    let l : length (entry_letter way ∷ joined (encode 4 e ∷ encode 8 t ∷ [])) ≡ 13 = ap suc (joined_length (num 4 e (num 8 t none))) in
    let w = entry_width way in
    (read_one way i before pos (entry_letter way) (joined (encode 4 e ∷ encode 8 t ∷ [])) y (node e t []) d (omega arith) (shows_entry way e t y h.entity-fits h.time-fits) h.starts later, w ∙ sym l)
record_back way i before pos e t es y h later (temporal-only p d) =
    let l : length (letter_T ∷ joined (encode 4 e ∷ encode 8 t ∷ encode 4 p ∷ [])) ≡ 17 = ap suc (joined_length (num 4 e (num 8 t (num 4 p none)))) in
    let hp : p < i = h.starts (temporal p) (Memᴰ.head refl) in
    let small = h.small in
    (read_one way i before pos letter_T (joined (encode 4 e ∷ encode 8 t ∷ encode 4 p ∷ [])) y (node e t (temporal p ∷ [])) d (omega arith) (shows_T e t p y h.entity-fits h.time-fits (omega arith)) h.starts later, sym l)
record_back way i before pos e t es y h later (dependency-only k q d) =
    let l : length (letter_D ∷ joined (encode 4 e ∷ encode 8 t ∷ encode 1 k ∷ encode 4 q ∷ [])) ≡ 18 = ap suc (joined_length (num 4 e (num 8 t (num 1 k (num 4 q none))))) in
    let hq : q < i = h.starts (dependency k q) (Memᴰ.head refl) in
    let small = h.small in (
      read_one way i before pos letter_D (joined (encode 4 e ∷ encode 8 t ∷ encode 1 k ∷ encode 4 q ∷ [])) y (node e t (dependency k q ∷ [])) d (omega arith)
          (shows_D e t k q y h.entity-fits h.time-fits (h.kinds_fit (dependency k q) (Memᴰ.head refl)) (omega arith)) h.starts later,
      sym l,
    )
record_back way i before pos e t es y h later (both-edges p k q d) =
    let l : length (letter_V ∷ joined (encode 4 e ∷ encode 8 t ∷ encode 1 k ∷ encode 4 p ∷ encode 4 q ∷ [])) ≡ 22 = ap suc (joined_length (num 4 e (num 8 t (num 1 k (num 4 p (num 4 q none)))))) in
    let hp : p < i = h.starts (temporal p) (Memᴰ.head refl) in
    let hq : q < i = h.starts (dependency k q) (Memᴰ.tail (Memᴰ.head refl)) in
    let small = h.small in (
      read_one way i before pos letter_V (joined (encode 4 e ∷ encode 8 t ∷ encode 1 k ∷ encode 4 p ∷ encode 4 q ∷ [])) y (node e t (temporal p ∷ dependency k q ∷ [])) d (omega arith)
          (shows_V e t p k q y h.entity-fits h.time-fits (h.kinds_fit (dependency k q) (Memᴰ.tail (Memᴰ.head refl))) (omega arith) (omega arith)) h.starts later,
      sym l,
    )

-- ---- the records

-- records that may follow those of `done`
pub data Follow (way : Way) : List VersionNode → List VersionNode → Type 0 where
  none_left : {done : List VersionNode} → Follow way done []
  one_more : {done : List VersionNode} {n : VersionNode} {ns : List VersionNode} → Writable way (length done) n → T (above (last_shown done) n.time) → Follow way (done ++ (n ∷ [])) ns → Follow way done (n ∷ ns)

-- the byte positions of records that stand from a position on
unfoldable pub places-from : Way → ℕ → List VersionNode → List ℕ
places-from way pos [] = []
places-from way pos (n ∷ ns) = pos ∷ places-from way (pos + length (record_string way n)) ns

pub records_back : {way : Way} {done ns : List VersionNode} → Follow way done ns → (ps : List ℕ) (pos : ℕ) (y : Bytes)
    → read_records way (length ns) done ps pos (record_strings way ns ++ y)
    ≡ ok (record { records = done ++ ns; places = ps ++ places-from way pos ns; pos = pos + length (record_strings way ns); rest = y })
unfolding read_records record_strings places-from
records_back {way} {done} none_left ps pos y =
    λ i. ok (record { records = sym (append-nil done) i; places = sym (append-nil ps) i; pos = sym (add-zero pos) i; rest = y })
records_back {way} {done} (one_more {n = n} {ns = ns} h later r) ps pos y =
    let s = record_string way n in
    let more = joined (map (record_string way) ns) in
    let x = (s ++ more) ++ y in
    let p : x ≡ s ++ (more ++ y) = append_assoc s more y in
    let b = record_back way (length done) (last_shown done) pos n.entity n.time n.in_edges (more ++ y) h later h.shape in
    let w : letter_width (get_or x 0 0) ≡ length s = ap (λ (z : Bytes). letter_width (get_or z 0 0)) p ∙ b.1 in
    let q = records_back r (ps ++ (pos ∷ [])) (pos + length s) y in
    let e : pos + length s + length more ≡ pos + length (s ++ more) = omega (arith, length-append s more) in
    bind_eq _ (λ (r : VersionNode). read_records way (length ns) (done ++ (r ∷ [])) (ps ++ (pos ∷ [])) (pos + letter_width (get_or x 0 0)) (drop (letter_width (get_or x 0 0)) x)) n
    (ap (λ (z : Bytes). read_record way (length done) (last_shown done) pos z) p ∙ b.0)
    ∙ ap₂ (λ (k : ℕ) (z : Bytes). read_records way (length ns) (done ++ (n ∷ [])) (ps ++ (pos ∷ [])) (pos + k) z) w (ap₂ (λ (k : ℕ) (z : Bytes). drop k z) w p ∙ drop_at s (more ++ y) (length s) refl)
    ∙ q
    ∙ (λ i. ok (record {
      records = append_assoc done (n ∷ []) ns i;
      places = append_assoc ps (pos ∷ []) (places-from way (pos + length s) ns) i;
      pos = e i;
      rest = y;
    }))

-- the whole trace: the records if the work area is enough, else row 12
pub trace_back : {way : Way} {ns : List VersionNode} → Follow way [] ns → 0 < length ns → length ns ≤ record_limit → (work pos : ℕ) (y : Bytes)
    → read_trace way work pos (trace_string way ns ++ y)
    ≡ (enough (length ns) work >>= λ _.
    ok (record { records = ns; places = places-from way (pos + trace_header_width) ns; pos = pos + trace_header_width + length (record_strings way ns); rest = y }))
unfolding read_trace trace_string field part
trace_back {way} {ns} h some_record few work pos y =
    let c = trace_letter way in
    let num4 = encode 4 (length ns) in
    let all = record_strings way ns in
    let x = (c ∷ num4 ++ all) ++ y in
    let head = c ∷ num4 in
    let five : length head ≡ 5 = ap suc (length-encode 4 (length ns)) in
    let p : x ≡ head ++ (all ++ y) = append_assoc head all y in
    let count : field 4 x 1 ≡ length ns =
    ap decode (ap (λ (z : Bytes). take 4 (drop 1 z)) p ∙ take_at num4 (all ++ y) 4 (length-encode 4 (length ns))) ∙ decode-encode 4 (length ns) (omega arith) in
    let n = field 4 x 1 in
    let len = length-append head (all ++ y) in
    let xlen = ap length p in
    pass (leb 1 (length x)) 15 pos _ (le→leb 1 (length x) (omega arith))
    ∙ pass (eqb c c) 16 pos _ (eqb_refl c)
    ∙ pass (leb 5 (length x)) 15 pos _ (le→leb 5 (length x) (omega arith))
    ∙ pass (leb 1 n && leb n record_limit) 19 pos _ (T_and (leb 1 n) (leb n record_limit) (le→leb 1 n (omega arith)) (le→leb n record_limit (omega arith)))
    ∙ ap₂ (λ (k : ℕ) (z : Bytes). enough k work >>= λ _. read_records way k [] [] (pos + 5) z) count (ap (drop 5) p ∙ drop_at head (all ++ y) 5 five)
    ∙ bind_same (enough (length ns) work) _ _ (λ _ _. records_back h [] (pos + 5) y)

-- ---- from facts about each place

above-last : (ns : List VersionNode) (t : ℕ) → ((j : ℕ) → j < length ns → (node_at ns j).time < t) → T (above (last_shown ns) t)
unfolding last_shown
above-last [] t h = tt
above-last (n ∷ []) t h = lt→ltb n.time t (h 0 (omega arith))
above-last (n ∷ m ∷ ns) t h = above-last (m ∷ ns) t (λ j b. h (suc j) (omega arith))

pub follow : (way : Way) (ns done all : List VersionNode) → all ≡ done ++ ns → ((k : ℕ) → k < length all → Writable way k (node_at all k))
    → ((j k : ℕ) → j < k → k < length all → (node_at all j).time < (node_at all k).time) → Follow way done ns
follow way [] done all e h r = none_left
follow way (n ∷ ns) done all e h r =
    let len = ap length e in
    let la = length-append done (n ∷ ns) in
    let here : node_at all (length done) ≡ n = ap (λ (l : List VersionNode). node_at l (length done)) e ∙ get_or-append_seam done n ns no_version in
    let below : length done < length all = omega arith in
    one_more (subst (Writable way (length done)) here (h (length done) below))
    (above-last done n.time
    (λ j b.
    let q : node_at all j ≡ node_at done j = ap (λ (l : List VersionNode). node_at l j) e ∙ get_or-append done (n ∷ ns) no_version j b in
    let z = r j (length done) b below in
    let u = ap (λ (m : VersionNode). m.time) q in
    let v = ap (λ (m : VersionNode). m.time) here in
    omega arith))
    (follow way ns (done ++ (n ∷ [])) all (e ∙ sym (append_assoc done (n ∷ []) ns)) h r)
