-- What an accepted trace is: its bytes are those of its records, and the records are regular. Assumes nothing.
use mathlib.Core.Path.{◌≡◌, refl, sym, ap, ap₂, ◌∙◌, subst}
use mathlib.Core.Logic.{◌⊎◌, inl, inr}
use Prim.Native.Nat.{ℕ, zero, suc, ◌+◌, ◌^◌, ◌<◌, ◌≤◌}
use native.Mathlib.Nat.{not-suc-le-zero, le_of_suc-le-suc, zero-lt-suc, add-zero, add-suc, suc-add}
use native.Mathlib.Omega.{arith}
use mathlib.Core.Bool.{Bool, not, cond, ◌||◌}
use mathlib.Core.Option.{Option, none, some, some-ne-none}
use mathlib.Core.List.Memᴰ
use mathlib.Core.List.{List, [], ◌∷◌, ◌++◌, map, append_assoc, append-nil}
use lib.ListN.{length, get_or, take, drop, take-append-drop, get_or-append}
use lib.Seq.{drop-drop}
use lib.Dec.{T, leb, ltb, eqb, eqb→eq, leb→le, ltb→lt, lit<}
use Rattle.fields.specs.Fields.{Octets, encode, part, field}
use Rattle.fields.proofs.Places.{field_below, octets-drop}
use Rattle.model.specs.Result.{ok}
use Rattle.model.specs.Numbers.{Bytes, entity_width, time_width, kind_width, count_width, joined, above}
use Rattle.model.specs.Log.{record_limit}
use Rattle.model.specs.Graph.{InEdge, temporal, dependency, VersionNode, node_at, no_version}
use Rattle.model.specs.Digest.{type_width}
use Rattle.model.specs.Question.{Way, backward, forward}
use Rattle.model.specs.Trace.{letter_E, letter_V, letter_S, letter_T, letter_D, trace_header_width, letter_width, refers, trace_letter, entry_letter, one_edge_string, record_string_by, record_string, record_strings, trace_string}
use Rattle.model.specs.CheckRows.{due, shown_edges, shown_record, all_below, read_record, CheckedTrace, last_shown, read_records, enough, read_trace, referred_to, first_unreferenced}
use Rattle.model.proofs.Outcomes.{ok_inj, bind_ok, past, test, T_eq, F_eq, and_T, or_T}
use Rattle.model.proofs.Strings.{field_again, string_again, headed}
use Rattle.model.proofs.Lists.{◌among◌, Up, at_snoc, among_one, among_two}
use Rattle.model.proofs.Match.{Regular}

-- ---- one record

-- in F, every record but the first has an edge
abbrev pub Rooted : Way → ℕ → List InEdge → Type 0
Rooted backward i es = Unit {0}
Rooted forward i es = 0 < i → (e : InEdge) × (e among es)

rooted_by : (way : Way) (i : ℕ) {e : InEdge} {es : List InEdge} → e among es → Rooted way i es
rooted_by backward i m = tt
rooted_by forward i {e} m = λ _. (e, m)

pub record Fine (way : Way) (i : ℕ) (n : VersionNode) : Type 0 where
  pub entity-fits : n.entity < 256 ^ entity_width
  pub time-fits : n.time < 256 ^ time_width
  pub types_fit : (e : InEdge) → e among n.in_edges → e.type < 256 ^ type_width
  pub kinds_fit : (e : InEdge) → e among n.in_edges → e.kind < 256 ^ kind_width
  pub types_rise : Up (λ (e : InEdge). e.type) n.in_edges
  pub rooted : Rooted way i n.in_edges

data Due (way : Way) (i c : ℕ) : Type 0 where
  is_V : c ≡ letter_V → Due way i c
  is_D : c ≡ letter_D → Due way i c
  is_T : c ≡ letter_T → Due way i c
  is_entry : c ≡ entry_letter way → Rooted way i [] → Due way i c

due_cases : (way : Way) (i c : ℕ) → T (due way i c) → Due way i c
unfolding due
due_cases backward i c t = go (or_T (eqb c letter_E) (eqb c letter_V) t)
  where
    go : T (eqb c letter_E) ⊎ T (eqb c letter_V) → Due backward i c
    go (inl u) = is_entry (eqb→eq c letter_E u) tt
    go (inr u) = is_V (eqb→eq c letter_V u)
due_cases forward zero c t = is_entry (eqb→eq c letter_S t) (λ h. absurd (not-suc-le-zero h))
due_cases forward (suc i) c t = three (or_T (eqb c letter_T) (eqb c letter_D || eqb c letter_V) t)
  where
    two : T (eqb c letter_D) ⊎ T (eqb c letter_V) → Due forward (suc i) c
    two (inl u) = is_D (eqb→eq c letter_D u)
    two (inr u) = is_V (eqb→eq c letter_V u)

    three : T (eqb c letter_T) ⊎ T (eqb c letter_D || eqb c letter_V) → Due forward (suc i) c
    three (inl u) = is_T (eqb→eq c letter_T u)
    three (inr u) = two (or_T (eqb c letter_D) (eqb c letter_V) u)

-- what the bytes x give, read by the letter c
record Again (way : Way) (i c : ℕ) (x : Bytes) : Type 0 where
  fine : Fine way i (shown_record c x)
  bytes : record_string way (shown_record c x) ≡ take (letter_width c) x

entry_shown : (way : Way) (x : Bytes) → (shown_edges (entry_letter way) x ≡ []) × (letter_width (entry_letter way) ≡ 13)
unfolding shown_edges
entry_shown backward x = (refl, refl)
entry_shown forward x = (refl, refl)

module _ (way : Way) (i : ℕ) (x : Bytes) (o : Octets x) where
  again_V : 22 ≤ length x → get_or x 0 0 ≡ letter_V → Again way i letter_V x
  unfolding shown_record shown_edges record_string record_string_by
  again_V h e =
      record {
        fine = record {
          entity-fits = field_below 4 x 1 o;
          time-fits = field_below 8 x 5 o;
          types_fit = among_two (λ (z : InEdge). z.type < 256 ^ 1) (temporal (field 4 x 14)) (dependency (field 1 x 13) (field 4 x 18)) (lit< tt) (lit< tt);
          kinds_fit = among_two (λ (z : InEdge). z.kind < 256 ^ 1) (temporal (field 4 x 14)) (dependency (field 1 x 13) (field 4 x 18)) (lit< tt) (field_below 1 x 13 o);
          types_rise = Up.more (λ f m. subst (λ (z : InEdge). 0 < z.type) (sym (Memᴰ.eq_of_singleton m)) (lit< tt)) (Up.more (λ f m. absurd (Memᴰ.not-nil m)) Up.none);
          rooted = rooted_by way i (Memᴰ.head refl);
        };
        bytes = string_again letter_V (4 ∷ 8 ∷ 1 ∷ 4 ∷ 4 ∷ []) x o h e;
      }

  one_edge_fine : (f : InEdge) → f.type < 256 ^ 1 → f.kind < 256 ^ 1 → Fine way i (record { entity = field 4 x 1; time = field 8 x 5; in_edges = f ∷ [] })
  one_edge_fine f a b =
      record {
        entity-fits = field_below 4 x 1 o;
        time-fits = field_below 8 x 5 o;
        types_fit = among_one (λ (z : InEdge). z.type < 256 ^ 1) f a;
        kinds_fit = among_one (λ (z : InEdge). z.kind < 256 ^ 1) f b;
        types_rise = Up.more (λ f m. absurd (Memᴰ.not-nil m)) Up.none;
        rooted = rooted_by way i (Memᴰ.head refl);
      }

  again_D : 18 ≤ length x → get_or x 0 0 ≡ letter_D → Again way i letter_D x
  unfolding shown_record shown_edges record_string record_string_by one_edge_string
  again_D h e =
      record {
        fine = one_edge_fine (dependency (field 1 x 13) (field 4 x 14)) (lit< tt) (field_below 1 x 13 o);
        bytes = string_again letter_D (4 ∷ 8 ∷ 1 ∷ 4 ∷ []) x o h e;
      }

  again_T : 17 ≤ length x → get_or x 0 0 ≡ letter_T → Again way i letter_T x
  unfolding shown_record shown_edges record_string record_string_by one_edge_string
  again_T h e = record { fine = one_edge_fine (temporal (field 4 x 13)) (lit< tt) (lit< tt); bytes = string_again letter_T (4 ∷ 8 ∷ 4 ∷ []) x o h e }

  again_entry : 13 ≤ length x → get_or x 0 0 ≡ entry_letter way → Rooted way i [] → Again way i (entry_letter way) x
  unfolding shown_record record_string record_string_by
  again_entry h e r =
      let s = entry_shown way x in
      let no : (f : InEdge) → f among shown_edges (entry_letter way) x → ⊥ = λ f m. Memᴰ.not-nil (subst (λ (l : List InEdge). f among l) s.0 m) in
      record {
        fine = record {
          entity-fits = field_below 4 x 1 o;
          time-fits = field_below 8 x 5 o;
          types_fit = λ f m. absurd (no f m);
          kinds_fit = λ f m. absurd (no f m);
          types_rise = subst (Up (λ (e : InEdge). e.type)) (sym s.0) Up.none;
          rooted = subst (Rooted way i) (sym s.0) r;
        };
        bytes =
            ap (record_string_by (entry_letter way) (shown_record (entry_letter way) x)) s.0
            ∙ string_again (entry_letter way) (4 ∷ 8 ∷ []) x o h e
            ∙ ap (λ (w : ℕ). take w x) (sym s.1);
      }

  again_due : (c : ℕ) → Due way i c → letter_width c ≤ length x → get_or x 0 0 ≡ c → Again way i c x
  again_due c (is_V p) h e =
      subst (λ (z : ℕ). Again way i z x) (sym p) (again_V (subst (λ (z : ℕ). letter_width z ≤ length x) p h) (e ∙ p))
  again_due c (is_D p) h e =
      subst (λ (z : ℕ). Again way i z x) (sym p) (again_D (subst (λ (z : ℕ). letter_width z ≤ length x) p h) (e ∙ p))
  again_due c (is_T p) h e =
      subst (λ (z : ℕ). Again way i z x) (sym p) (again_T (subst (λ (z : ℕ). letter_width z ≤ length x) p h) (e ∙ p))
  again_due c (is_entry p r) h e =
      subst (λ (z : ℕ). Again way i z x) (sym p)
      (again_entry (subst (λ (w : ℕ). w ≤ length x) (entry_shown way x).1 (subst (λ (z : ℕ). letter_width z ≤ length x) p h)) (e ∙ p) r)

below_in : (i : ℕ) (es : List InEdge) → T (all_below i es) → (e : InEdge) → e among es → e.start < i
unfolding all_below
below_in i [] t e m = absurd (Memᴰ.not-nil m)
below_in i (f ∷ es) t e m = go (λ (u : T (all_below i es)) (k : e among es). below_in i es u e k) (and_T (ltb f.start i) (all_below i es) t) (Memᴰ.cases_cons m)
  where
    go : (T (all_below i es) → e among es → e.start < i) → T (ltb f.start i) × T (all_below i es) → (e ≡ f) ⊎ (e among es) → e.start < i
    go rec p (inl q) = subst (λ (z : InEdge). z.start < i) (sym q) (ltb→lt f.start i p.0)
    go rec p (inr k) = rec p.1 k

-- an accepted record
pub record ReadRecord (way : Way) (i : ℕ) (before : Option ℕ) (x : Bytes) (n : VersionNode) : Type 0 where
  pub fine : Fine way i n
  pub below : (e : InEdge) → e among n.in_edges → e.start < i
  pub later : T (above before n.time)
  pub split : x ≡ record_string way n ++ drop (letter_width (get_or x 0 0)) x

pub record_read : (way : Way) (i : ℕ) (before : Option ℕ) (pos : ℕ) (x : Bytes) (n : VersionNode) → Octets x → read_record way i before pos x ≡ ok n → ReadRecord way i before x n
unfolding read_record
record_read way i before pos x n o e =
    let a = past _ _ _ _ e in
    let b = past _ _ _ _ a.1 in
    let c = past _ _ _ _ b.1 in
    let d = past _ _ _ _ c.1 in
    let f = past _ _ _ _ d.1 in
    let letter = get_or x 0 0 in
    let w = letter_width letter in
    let r = again_due way i x o letter (due_cases way i letter b.0) (leb→le w (length x) c.0) refl in
    subst (ReadRecord way i before x) (ok_inj f.1)
    (record {
      fine = r.fine;
      below = below_in i (shown_record letter x).in_edges d.0;
      later = f.0;
      split = sym (take-append-drop w x) ∙ ap (λ (l : Bytes). l ++ drop w x) (sym r.bytes);
    })

-- ---- the records

pub record ReadRecords (way : Way) (ns : List VersionNode) : Type 0 where
  pub fine : (j : ℕ) → j < length ns → Fine way j (node_at ns j)
  pub below : (j : ℕ) → j < length ns → (e : InEdge) → e among (node_at ns j).in_edges → e.start < j
  pub rising : (i j : ℕ) → i < j → j < length ns → (node_at ns i).time < (node_at ns j).time
  pub later : (t : ℕ) → T (above (last_shown ns) t) → (j : ℕ) → j < length ns → (node_at ns j).time < t

no_records : (way : Way) → ReadRecords way []
no_records way =
    record {
      fine = λ j h. absurd (not-suc-le-zero h);
      below = λ j h. absurd (not-suc-le-zero h);
      rising = λ i j b h. absurd (not-suc-le-zero h);
      later = λ t u j h. absurd (not-suc-le-zero h);
    }

pub last_shown_snoc : (ns : List VersionNode) (n : VersionNode) → last_shown (ns ++ (n ∷ [])) ≡ some n.time
unfolding last_shown
last_shown_snoc [] n = refl
last_shown_snoc (m ∷ []) n = refl
last_shown_snoc (m ∷ k ∷ ns) n = last_shown_snoc (k ∷ ns) n

one_record_more : (way : Way) (ns : List VersionNode) (x : Bytes) (n : VersionNode) → ReadRecords way ns → ReadRecord way (length ns) (last_shown ns) x n → ReadRecords way (ns ++ (n ∷ []))
one_record_more way ns x n R r =
    record {
      fine = at_snoc no_version ns n (λ (j : ℕ) (m : VersionNode). Fine way j m) R.fine r.fine;
      below = at_snoc no_version ns n (λ (j : ℕ) (m : VersionNode). (e : InEdge) → e among m.in_edges → e.start < j) R.below r.below;
      rising = λ i j h b.
          at_snoc no_version ns n (λ (j : ℕ) (m : VersionNode). (i : ℕ) → i < j → (node_at (ns ++ (n ∷ [])) i).time < m.time)
          (λ j c i d. subst (λ (m : VersionNode). m.time < (node_at ns j).time) (sym (get_or-append ns (n ∷ []) no_version i (omega arith))) (R.rising i j d c))
          (λ i d. subst (λ (m : VersionNode). m.time < n.time) (sym (get_or-append ns (n ∷ []) no_version i d)) (R.later n.time r.later i d)) j b i h;
      later = λ t u.
          let h : n.time < t = ltb→lt n.time t (subst (λ (o : Option ℕ). T (above o t)) (last_shown_snoc ns n) u) in
          at_snoc no_version ns n (λ (j : ℕ) (m : VersionNode). m.time < t) (λ j b. let a = R.later n.time r.later j b in omega arith) h;
    }

-- n more records after ns
pub record ReadMore (way : Way) (n : ℕ) (ns : List VersionNode) (x : Bytes) (t : CheckedTrace) : Type 0 where
  pub read : List VersionNode
  pub are : t.records ≡ ns ++ read
  pub count : length read ≡ n
  pub split : x ≡ record_strings way read ++ t.rest
  pub good : ReadRecords way t.records

pub records-read : (way : Way) (n : ℕ) (ns : List VersionNode) (ps : List ℕ) (pos : ℕ) (x : Bytes) (t : CheckedTrace) → Octets x → ReadRecords way ns
    → read_records way n ns ps pos x ≡ ok t → ReadMore way n ns x t
unfolding read_records record_strings
records-read way zero ns ps pos x t o R e =
    subst (ReadMore way zero ns x) (ok_inj e) (record { read = []; are = sym (append-nil ns); count = refl; split = refl; good = R })
records-read way (suc n) ns ps pos x t o R e =
    let a = bind_ok _ _ e in
    let r = a.0 in
    let q = record_read way (length ns) (last_shown ns) pos x r o a.1 in
    let w = letter_width (get_or x 0 0) in
    let m = records-read way n (ns ++ (r ∷ [])) (ps ++ (pos ∷ [])) (pos + w) (drop w x) t (octets-drop w o) (one_record_more way ns x r R q) a.2 in
    record {
      read = r ∷ m.read;
      are = m.are ∙ append_assoc ns (r ∷ []) m.read;
      count = ap suc m.count;
      split = q.split ∙ ap (λ (l : Bytes). record_string way r ++ l) m.split ∙ sym (append_assoc (record_string way r) (joined (map (record_string way) m.read)) t.rest);
      good = m.good;
    }

pub record ReadTrace (way : Way) (work : ℕ) (x : Bytes) (t : CheckedTrace) : Type 0 where
  pub good : ReadRecords way t.records
  pub some_record : 0 < length t.records
  pub split : x ≡ trace_string way t.records ++ t.rest

pub trace_read : (way : Way) (work pos : ℕ) (x : Bytes) (t : CheckedTrace) → Octets x → read_trace way work pos x ≡ ok t → ReadTrace way work x t
unfolding read_trace trace_string enough part
trace_read way work pos x t o e =
    let a = past _ _ _ _ e in
    let b = past _ _ _ _ a.1 in
    let c = past _ _ _ _ b.1 in
    let d = past _ _ _ _ c.1 in
    let f = past _ _ _ _ d.1 in
    let n = field count_width x 1 in
    let long : 5 ≤ length x = leb→le 5 (length x) c.0 in
    let r = records-read way n [] [] (pos + trace_header_width) (drop trace_header_width x) t (octets-drop trace_header_width o) (no_records way) f.1 in
    let pos_n : 1 ≤ n = leb→le 1 n (and_T (leb 1 n) (leb n record_limit) d.0).0 in
    let h : trace_letter way ∷ drop 1 x ≡ x = headed (trace_letter way) x (omega arith) (eqb→eq (get_or x 0 0) (trace_letter way) b.0) in
    let len : length t.records ≡ n = ap length r.are ∙ r.count in
    let k : encode count_width (length t.records) ≡ take 4 (drop 1 x) = ap (encode 4) len ∙ field_again 4 x 1 o (omega arith) in
    let all = record_strings way t.records in
    record {
      good = r.good;
      some_record = omega arith;
      split =
          sym h
          ∙ ap {B = Bytes} (λ (l : Bytes). trace_letter way ∷ l)
          (sym (take-append-drop 4 (drop 1 x))
          ∙ ap₂ {C = Bytes} (λ (u v : Bytes). u ++ v) (sym k) (drop-drop 4 1 x ∙ r.split ∙ ap (λ (l : List VersionNode). record_strings way l ++ t.rest) (sym r.are))
          ∙ sym (append_assoc (encode 4 (length t.records)) all t.rest));
    }

pub records_regular : {way : Way} {ns : List VersionNode} → ReadRecords way ns → Regular ns
records_regular r =
    record {
      down = r.below;
      entities_fit = λ j h. (r.fine j h).entity-fits;
      times_fit = λ j h. (r.fine j h).time-fits;
      types_fit = λ j h. (r.fine j h).types_fit;
      kinds_fit = λ j h. (r.fine j h).kinds_fit;
      types_rise = λ j h. (r.fine j h).types_rise;
      times_rise = r.rising;
    }

-- ---- every record but the last is referred to

referred_to_in : (i : ℕ) (ns : List VersionNode) → T (referred_to i ns) → (k : ℕ) × (k < length ns) × T (refers i (node_at ns k).in_edges)
unfolding referred_to
referred_to_in i [] t = absurd t
referred_to_in i (n ∷ ns) t = go (λ (u : T (referred_to i ns)). referred_to_in i ns u) (or_T (refers i n.in_edges) (referred_to i ns) t)
  where
    go : (T (referred_to i ns) → (k : ℕ) × (k < length ns) × T (refers i (node_at ns k).in_edges)) → T (refers i n.in_edges) ⊎ T (referred_to i ns)
        → (k : ℕ) × (k < suc (length ns)) × T (refers i (node_at (n ∷ ns) k).in_edges)
    go rec (inl u) = (0, zero-lt-suc (length ns), u)
    go rec (inr u) = let r = rec u in (suc r.0, omega (arith, r.1), r.2)

pub unreferenced-none : (i : ℕ) (ns : List VersionNode) → first_unreferenced i ns ≡ none → (k : ℕ) → suc k < length ns → (m : ℕ) × (m < length ns) × T (refers (i + k) (node_at ns m).in_edges)
unfolding first_unreferenced
unreferenced-none i [] e k h = absurd (not-suc-le-zero h)
unreferenced-none i (n ∷ []) e k h = absurd (not-suc-le-zero (le_of_suc-le-suc h))
unreferenced-none i (n ∷ m ∷ ns) e k h = go (λ (q : first_unreferenced (suc i) (m ∷ ns) ≡ none) (k : ℕ) (b : suc k < length (m ∷ ns)). unreferenced-none (suc i) (m ∷ ns) q k b) (test (referred_to i (m ∷ ns)))
  where
    Used : ℕ → ℕ → Type 0
    Used i k = (q : ℕ) × (q < length (n ∷ m ∷ ns)) × T (refers (i + k) (node_at (n ∷ m ∷ ns) q).in_edges)

    there : T (referred_to i (m ∷ ns)) → (first_unreferenced (suc i) (m ∷ ns) ≡ none → (k : ℕ) → suc k < length (m ∷ ns) → (q : ℕ) × (q < length (m ∷ ns)) × T (refers (suc i + k) (node_at (m ∷ ns) q).in_edges))
        → first_unreferenced (suc i) (m ∷ ns) ≡ none → (k : ℕ) → suc k < length (n ∷ m ∷ ns) → Used i k
    there t rec e zero h =
        let r = referred_to_in i (m ∷ ns) t in
        (suc r.0, omega (arith, r.1), subst (λ (z : ℕ). T (refers z (node_at (m ∷ ns) r.0).in_edges)) (sym (add-zero i)) r.2)
    there t rec e (suc k) h =
        let r = rec e k (le_of_suc-le-suc h) in
        (suc r.0, omega (arith, r.1), subst (λ (z : ℕ). T (refers z (node_at (m ∷ ns) r.0).in_edges)) (suc-add i k ∙ sym (add-suc i k)) r.2)

    go : (first_unreferenced (suc i) (m ∷ ns) ≡ none → (k : ℕ) → suc k < length (m ∷ ns) → (q : ℕ) × (q < length (m ∷ ns)) × T (refers (suc i + k) (node_at (m ∷ ns) q).in_edges))
        → T (referred_to i (m ∷ ns)) ⊎ T (not (referred_to i (m ∷ ns))) → Used i k
    go rec (inl t) = there t rec (ap (λ (b : Bool). cond b (first_unreferenced (suc i) (m ∷ ns)) (some i)) (sym (T_eq (referred_to i (m ∷ ns)) t)) ∙ e) k h
    go rec (inr t) = absurd (some-ne-none i (ap (λ (b : Bool). cond b (first_unreferenced (suc i) (m ∷ ns)) (some i)) (sym (F_eq (referred_to i (m ∷ ns)) t)) ∙ e))
