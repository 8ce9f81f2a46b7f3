-- Writing the names of the versions that L and N strings name, one after the other. Assumes nothing.
use mathlib.Core.Path.{◌≡◌, refl, sym, ap, ap₂, ◌∙◌, subst}
use mathlib.Core.List.{List, [], ◌∷◌, ◌++◌, map, append_assoc, append-nil, map-append}
use Prim.Native.Nat.{ℕ, ◌+◌, ◌*◌, ◌≤◌, ◌<◌}
use native.Mathlib.Omega.{arith}
use lib.ListN.{length, take, drop, get_or, length-drop, length-append, length-map}
use lib.Seq.{drop-drop}
use Rattle.fields.specs.Fields.{encode, field, written}
use Rattle.fields.proofs.Numbers.{length-encode}
use Rattle.fields.proofs.Places.{first-left, length-written, written_none, written_behind}
use Rattle.model.specs.Numbers.{Bytes, joined}
use Rattle.model.specs.Question.{SpanQuestion, all, within, VersionName, name_string}
use Rattle.model.specs.Result.{Result}
use Rattle.model.specs.CheckRows.{CheckedProof, subtree_in, leaf_in, leaf_name, proof_of_all, check_span, check_sought, check_proof}
use Rattle.model.proofs.Outcomes.{bind_eq, bind_refused}
use Rattle.model.proofs.Strings.{joined-append}
use Rattle.model.proofs.Preorder.{few-listed, name-length, names-length}
use Rattle.std.specs.Prelude.{Ok, Err}
use Rattle.std.specs.Prelude as std
use Rattle.outcome.specs.declared.Refusal.{Refusal}
use Rattle.outcome.specs.Outcomes.{number_of}
use Rattle.proof_reader.specs.declared.EntitySearch.{EntitySearch}
use Rattle.proof_reader.specs.declared.EntitySearch.TheVariants.{NoEntity as ToNothing, Group as ToGroup}
use Rattle.proof_reader.specs.declared.Span.{Span}
use Rattle.proof_reader.specs.declared.ListProof.{ListProof}
use Rattle.proof_reader.specs.declared.ListProof.TheVariants.{NoEntity, Listed as ToList}
use Rattle.proof_reader.specs.Walks.{sought_at, GoesOn, SearchIs}
use Rattle.proof_reader.specs.Spans.{all_at, SpanIs, read, refused, Named, at_end, an_L, an_N, ListStrings, ListIs, without, lists, unlisted, Listed}
use Rattle.proof_reader.proofs.Strings.{entity_at, time_at}
use Rattle.proof_reader.proofs.Naming.{all_named}
use Rattle.proof_reader.proofs.Walking.{search_is, search_refused, search_none, search_on}

-- ---- one name

pub name-written : (answer : Bytes) (leaf : ℕ) → leaf + 77 ≤ length answer → (out out1 out2 : Bytes) (at e t : ℕ) → at + 12 ≤ length out
    → e ≡ field 4 answer (leaf + 1) → out1 ≡ written out at (encode 4 e) → t ≡ field 8 answer (leaf + 5) → out2 ≡ written out1 (at + 4) (encode 8 t)
    → out2 ≡ written out at (name_string (leaf_name (leaf_in (take 77 (drop leaf answer)))))
unfolding name_string
name-written answer leaf h out out1 out2 at e t r ee e1 te e2 =
    e2
    ∙ ap (λ (x : Bytes). written x (at + 4) (encode 8 t)) e1
    ∙ written_behind out at (encode 4 e) (encode 8 t) (at + 4) (omega (arith, length-encode 4 e)) (omega (arith, length-encode 8 t))
    ∙ ap (λ (x : Bytes). written out at (encode 4 e ++ x)) (sym (append-nil (encode 8 t)))
    ∙ ap₂ (λ (x y : ℕ). written out at (name_string (record { entity = x; time = y }))) (entity_at answer leaf h e ee) (time_at answer leaf h t te)

-- ---- the first of the strings

named-length : {x y : Bytes} {vs : List VersionName} → Named x vs y → length y ≤ length x
named-length (at_end x) = omega arith
named-length (an_L x rest vs e h n) = omega (arith, named-length n, length-drop 77 x)
named-length (an_N x rest vs e h n) = omega (arith, named-length n, length-drop 97 x)

named_none : {x y : Bytes} {vs : List VersionName} → Named x vs y → length x ≤ length y → vs ≡ []
named_none (at_end x) g = refl
named_none (an_L x rest vs e h n) g = absurd (omega (arith, named-length n, length-drop 77 x))
named_none (an_N x rest vs e h n) g = absurd (omega (arith, named-length n, length-drop 97 x))

record StartsL (x y : Bytes) (vs : List VersionName) : Type 0 where
  rest : List VersionName
  is : vs ≡ leaf_name (leaf_in (take 77 x)) ∷ rest
  long : 77 ≤ length x
  named : Named (drop 77 x) rest y

starts_L : {x y : Bytes} {vs : List VersionName} → Named x vs y → length y < length x → get_or x 0 0 ≡ 76 → StartsL x y vs
starts_L (at_end x) g f = absurd (omega arith)
starts_L (an_L x rest vs e h n) g f = record { rest = vs; is = refl; long = h; named = n }
starts_L (an_N x rest vs e h n) g f = absurd (omega (arith, e, f))

starts_N : {x y : Bytes} {vs : List VersionName} → Named x vs y → length y < length x → (get_or x 0 0 ≡ 76 → ⊥) → (97 ≤ length x) × Named (drop 97 x) vs y
starts_N (at_end x) g f = absurd (omega arith)
starts_N (an_L x rest vs e h n) g f = absurd (f e)
starts_N (an_N x rest vs e h n) g f = (h, n)

-- ---- all names

-- the first ones are written, and the strings from byte `next` on name the others
pub record Writing (answer : Bytes) (end : ℕ) (names : List VersionName) (out₀ out : Bytes) (next at : ℕ) : Type 0 where
  pub done : List VersionName
  pub left : List VersionName
  pub split : names ≡ done ++ left
  pub named : Named (drop next answer) left (drop end answer)
  pub place : at ≡ 12 * length done
  pub is : out ≡ written out₀ 0 (joined (map name_string done))

module _ (answer : Bytes) (start end : ℕ) (out₀ : Bytes) where
  pub none_written : (l : Listed answer start end (length out₀)) → Writing answer end l.names out₀ out₀ start 0
  none_written l = record { done = []; left = l.names; split = refl; named = l.named; place = refl; is = sym (written_none out₀ 0) }

  module _ (l : Listed answer start end (length out₀)) (out : Bytes) (next at : ℕ) (w : Writing answer end l.names out₀ out next at) where
    counts : length l.names ≡ length w.done + length w.left
    counts = ap length w.split ∙ length-append w.done w.left

    pub same_size : length out ≡ length out₀
    same_size =
        ap length w.is
        ∙ length-written out₀ 0 (joined (map name_string w.done)) (omega (arith, names-length w.done, counts, l.fits))

    pub all-written : end ≤ next → out ≡ written out₀ 0 (joined (map name_string l.names))
    all-written h =
        let none = named_none w.named (omega (arith, length-drop next answer, length-drop end answer)) in
        w.is ∙ ap (λ (vs : List VersionName). written out₀ 0 (joined (map name_string vs))) (sym (w.split ∙ ap (λ (vs : List VersionName). w.done ++ vs) none ∙ append-nil w.done))

    module _ (more : next < end) where
      shorter : length (drop end answer) < length (drop next answer)
      shorter = omega (arith, length-drop next answer, length-drop end answer, l.inside)

      module _ (letter : get_or answer next 0 ≡ 76) where
        first : StartsL (drop next answer) (drop end answer) w.left
        first = starts_L w.named shorter (first-left next answer 0 ∙ letter)

        pub L_there : (next + 77 ≤ length answer) × (at + 12 ≤ length out)
        L_there = (
          omega (arith, first.long, length-drop next answer),
          omega (arith, w.place, counts, ap length first.is, l.fits, same_size),
        )

        pub one_written : (out' : Bytes) → out' ≡ written out at (name_string (leaf_name (leaf_in (take 77 (drop next answer)))))
            → Writing answer end l.names out₀ out' (next + 77) (at + 12)
        one_written out' e =
            record {
              done = w.done ++ (v ∷ []);
              left = first.rest;
              split = w.split ∙ ap (λ (vs : List VersionName). w.done ++ vs) first.is ∙ sym (append_assoc w.done (v ∷ []) first.rest);
              named = subst (λ (x : Bytes). Named x first.rest (drop end answer)) (drop-drop 77 next answer) first.named;
              place = omega (arith, w.place, length-append w.done (v ∷ []));
              is =
                  e
                  ∙ ap (λ (x : Bytes). written x at (name_string v)) w.is
                  ∙ written_behind out₀ 0 before (name_string v) at (omega (arith, names-length w.done, w.place))
                  (omega (arith, name-length v, L_there.1, same_size))
                  ∙ ap (written out₀ 0) (sym after);
            }
          where
            v : VersionName
            v = leaf_name (leaf_in (take 77 (drop next answer)))

            before : Bytes
            before = joined (map name_string w.done)

            after : joined (map name_string (w.done ++ (v ∷ []))) ≡ before ++ name_string v
            after =
                ap joined (map-append name_string w.done (v ∷ []))
                ∙ joined-append (map name_string w.done) (name_string v ∷ [])
                ∙ ap (λ (x : Bytes). before ++ x) (append-nil (name_string v))

      module _ (letter : get_or answer next 0 ≡ 76 → ⊥) where
        passed : (97 ≤ length (drop next answer)) × Named (drop 97 (drop next answer)) w.left (drop end answer)
        passed = starts_N w.named shorter (λ e. letter (sym (first-left next answer 0) ∙ e))

        pub none_more : Writing answer end l.names out₀ out (next + 97) at
        none_more =
            record {
              done = w.done;
              left = w.left;
              split = w.split;
              named = subst (λ (x : Bytes). Named x w.left (drop end answer)) (drop-drop 97 next answer) passed.1;
              place = w.place;
              is = w.is;
            }

-- ---- the proof of a list

-- strings that were read can be listed
unfoldable pub can_list : (answer : Bytes) (start end count room : ℕ) → ListStrings answer start end count → 12 * count ≤ room → Listed answer start end room
can_list answer start end count room l h =
    record { names = map leaf_name l.leaves; named = l.named; inside = l.inside; fits = omega (arith, length-map l.leaves leaf_name, l.count_is) }

-- all strings of an entity's tree that the times open, as the end of a proof
module _ (answer : Bytes) (at known group : ℕ) (k : known ≡ group + 9) (p : SpanQuestion) where
  abbrev Read : std.Result Span Refusal → Type 0
  Read r = SpanIs answer (all_at p 16 answer at known) r

  abbrev Ends : std.Result ListProof Refusal → Type 0
  Ends r = ListIs answer (sought_at (all p) answer at (group + 9)) r

  ends_by : (r : std.Result ListProof Refusal) → ListIs answer (sought_at (all p) answer at known) r → Ends r
  ends_by r l = subst (λ (n : ℕ). ListIs answer (sought_at (all p) answer at n) r) k l

  pub span_refused : (e : Refusal) → Read (Err e) → Ends (Err e)
  unfolding sought_at check_sought check_span all_at
  span_refused e (refused _ h) = ends_by (Err e) (unlisted e (bind_refused _ _ (number_of e.row) e.position h))

  pub span_listed : (x : Span) → Read (Ok x) → Ends (Ok (ToList at x.at x.count))
  unfolding sought_at check_sought check_span all_at
  span_listed x (read _ w) =
      ends_by (Ok (ToList at x.at x.count))
      (lists at x.at x.count
      (record {
        leaves = w.walk.leaves;
        named =
            subst (Named (drop at answer) (map leaf_name w.walk.leaves)) w.rest_is
            (all_named (within p) 16 (subtree_in answer known) at (drop at answer) w.walk w.is);
        inside = w.inside;
        count_is = w.count_is;
        few = subst (λ (n : ℕ). n ≤ 65536) w.count_is (few-listed (within p) (subtree_in answer known) at (drop at answer) w.walk w.is);
      })
      (record { proof = proof_of_all w.walk; is = bind_eq _ _ w.walk w.is; end_is = refl; pos_is = w.pos_is; rest_is = w.rest_is; inside = w.inside }))

list_back : (answer : Bytes) {m n : Result CheckedProof} → GoesOn answer m n → (r : std.Result ListProof Refusal) → ListIs answer n r → ListIs answer m r
list_back answer w r (without at g) = without at (w.ends _ at g)
list_back answer w r (lists start end count l g) = lists start end count l (w.ends _ end g)
list_back answer w r (unlisted x e) = unlisted x (w.refuses (number_of x.row) x.position e)

-- from R down
module _ (answer commitment : Bytes) (at letter : ℕ) (p : SpanQuestion) where
  abbrev Searched : std.Result EntitySearch Refusal → Type 0
  Searched r = SearchIs answer p.entity (λ q. check_proof letter q commitment at (drop at answer)) r

  abbrev Proved : std.Result ListProof Refusal → Type 0
  Proved x = ListIs answer (check_proof letter (all p) commitment at (drop at answer)) x

  pub all-refused : (e : Refusal) → Searched (Err e) → Proved (Err e)
  all-refused e S = unlisted e (search_refused answer p.entity _ (all p) refl e S)

  module _ (x : EntitySearch) (S : Searched (Ok x)) where
    pub all_missing : (end : ℕ) → x ≡ ToNothing end → Proved (Ok (NoEntity end))
    all_missing end e = without end (search_none answer p.entity _ (all p) refl end (search_is answer p.entity _ x (ToNothing end) S e))

    pub all-sought : (group : ℕ) → x ≡ ToGroup group → (l : std.Result ListProof Refusal) → ListIs answer (sought_at (all p) answer (group + 57) (group + 9)) l → Proved l
    all-sought group e l L =
        list_back answer (search_on answer p.entity _ (all p) refl group (search_is answer p.entity _ x (ToGroup group) S e)) l L
