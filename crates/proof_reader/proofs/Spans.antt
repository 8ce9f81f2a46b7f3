-- Reading all strings of an entity's tree that two times open, by the reader's tests. Assumes nothing.
use mathlib.Core.Path.{◌≡◌, refl, sym, ap, ap₂, ◌∙◌, subst}
use mathlib.Core.Bool.{Bool, true, false, not, cond, ◌||◌}
use Prim.Native.Nat.{ℕ, zero, suc, ◌+◌, ◌-◌, ◌≤◌, ◌<◌, ◌^◌}
use native.Mathlib.Omega.{arith}
use borrow.Author.Tests.{le-leb, lt-leb, eq-eqb, ne_eqb, eqb-true, ltb-true, ltb-false}
use lib.Dec.{T, eqb, ltb, leb}
use lib.Pow.{pow_mono}
use lib.ListN.{length, take, drop, length-drop, length-append}
use lib.Seq.{drop-drop}
use Rattle.std.specs.Prelude.{Ok, Err}
use Rattle.std.specs.Prelude as std
use Rattle.std.proofs.Common.{is_le, nat_cmp, Less, Equal, Greater}
use Rattle.fields.specs.Fields.{field}
use Rattle.model.specs.Numbers.{Bytes}
use Rattle.model.specs.Result.{Result, ok, ◌>>=◌, need}
use Rattle.model.specs.Accumulator.{letter_N, branch_width, Subtree}
use Rattle.model.specs.Question.{SpanQuestion, within}
use Rattle.model.specs.CheckRows.{take_string, subtree_in, left_in, right_in, CheckedAll, none_opened, opening_leaf, opening_both, path_limit, none_due, check_leaf, check_all}
use Rattle.model.proofs.Outcomes.{bind_eq, bind_refused}
use Rattle.model.proofs.Preorder.{all-few}
use Rattle.outcome.specs.declared.Row.TheVariants.{AnswerCut, LetterNotDue}
use Rattle.outcome.specs.declared.Refusal.{Refusal}
use Rattle.outcome.specs.Outcomes.{number_of}
use Rattle.proof_reader.specs.declared.Opening.{Opening}
use Rattle.proof_reader.specs.declared.Opening.TheVariants.{Leaf as LeafTaken, Inner as InnerTaken}
use Rattle.proof_reader.specs.declared.Span.{Span}
use Rattle.proof_reader.specs.Walks.{RefusedBy, Opens, at_leaf, at_inner, unopened, string_due}
use Rattle.proof_reader.specs.Spans.{letter_due, DueOpens, due, not_due, all_at, Reads, SpanIs, read, refused}
use Rattle.proof_reader.proofs.Strings.{Made, refused-as, subtree_at}

differ : true ≡ false → ⊥
differ z = subst T z tt

-- ---- the two times

at_most : (x y : ℕ) (b c : Bool) → ltb x y ≡ b → eqb x y ≡ c → is_le (cond b Less (cond c Equal Greater)) ≡ leb x y
at_most x y true c e f = let h : x < y = ltb-true x y e in sym (le-leb x y (omega arith))
at_most x y false true e f = let h : x ≡ y = eqb-true x y f in sym (le-leb x y (omega arith))
at_most x y false false e f =
    let h : y ≤ x = ltb-false x y e in
    let d : x ≡ y → ⊥ = λ z. differ (sym (eq-eqb x y z) ∙ f) in
    sym (lt-leb x y (omega arith))

pub key_at_most : (b : Bool) (x y : ℕ) → b ≡ is_le (nat_cmp x y) → b ≡ leb x y
key_at_most b x y e = e ∙ at_most x y (ltb x y) (eqb x y) refl refl

module _ (answer : Bytes) (tree : ℕ) (p : SpanQuestion) (least : ℕ) (l : least ≡ field 8 answer tree) (b : Bool) (begun : b ≡ leb least p.to) where
  pub too_late : b ≡ false → b ≡ within p (subtree_in answer tree)
  unfolding within subtree_in
  too_late e = e ∙ simp (sym l, sym begun ∙ e)

  pub in_time : b ≡ true → (greatest : ℕ) → greatest ≡ field 8 answer (tree + 8) → (c : Bool) → c ≡ leb p.from greatest → c ≡ within p (subtree_in answer tree)
  unfolding within subtree_in
  in_time e greatest g c early = simp (sym l, sym begun ∙ e, sym g) early

-- ---- a letter that is due

pub more-due : (n : ℕ) (k : Subtree) → (n ≡ 0 → ⊥) → not (eqb n 0) ≡ letter_due n k
unfolding letter_due
more-due n k h = simp (ne_eqb n 0 h, le-leb 1 n (omega arith))

more : (n : ℕ) (k : Subtree) → (n ≡ 0 → ⊥) → true ≡ letter_due n k
more n k h = ap not (sym (ne_eqb n 0 h)) ∙ more-due n k h

pub leaf-due : (n : ℕ) (answer : Bytes) (tree : ℕ) → n ≡ 0 → (least greatest : ℕ) → least ≡ field 8 answer tree → greatest ≡ field 8 answer (tree + 8)
    → (b : Bool) → b ≡ eqb least greatest → b ≡ letter_due n (subtree_in answer tree)
unfolding letter_due subtree_in
leaf-due n answer tree z least greatest l g b same = simp (z, sym l, sym g) same

module _ (n : ℕ) (answer : Bytes) (at : ℕ) (k : Subtree) (b : Bool) (is-due : b ≡ letter_due n k) where
  pub due_opens : b ≡ true → (r : std.Result Opening Refusal) → Opens 76 77 78 answer at k r → DueOpens n answer at k r
  due_opens e r o = due r (sym is-due ∙ e) o

  module _ (e : b ≡ false) (r : Refusal) where
    pub no_byte_there : at ≡ length answer → Made AnswerCut at r → DueOpens n answer at k (Err r)
    unfolding none_due need ◌>>=◌
    no_byte_there h made =
        not_due r (sym is-due ∙ e) (refused-as _ AnswerCut at (simp (lt-leb 1 (length (drop at answer)) (omega (arith, length-drop at answer)))) r made)

    pub no_letter_due : (at ≡ length answer → ⊥) → at ≤ length answer → Made LetterNotDue at r → DueOpens n answer at k (Err r)
    unfolding none_due need ◌>>=◌
    no_letter_due h i made =
        not_due r (sym is-due ∙ e) (refused-as _ LetterNotDue at (simp (le-leb 1 (length (drop at answer)) (omega (arith, length-drop at answer)))) r made)

-- ---- the check of a known subtree, by the tests

module _ (p : SpanQuestion) (k : Subtree) (pos : ℕ) (x : Bytes) where
  at_shut : (n : ℕ) → within p k ≡ false → check_all (within p) n k pos x ≡ ok (none_opened pos x)
  unfolding check_all
  at_shut zero e = simp (e)
  at_shut (suc n) e = simp (e)

  module _ (opens : within p k ≡ true) where
    at_one : (n : ℕ) → eqb k.least k.greatest ≡ true → check_all (within p) n k pos x ≡ check_leaf k pos x
    unfolding check_all
    at_one zero e = simp (opens, e)
    at_one (suc n) e = simp (opens, e)

    at_none : (n : ℕ) → letter_due n k ≡ false → check_all (within p) n k pos x ≡ none_due pos x
    unfolding check_all letter_due
    at_none zero e = simp (opens, e)
    at_none (suc n) e = absurd (differ (more (suc n) k (λ z. omega arith) ∙ e))

    -- what is left after a string N
    at_two : (n : ℕ) → letter_due n k ≡ true → eqb k.least k.greatest ≡ false
        → check_all (within p) n k pos x
        ≡ (take_string letter_N branch_width k.digest pos x >>= λ s.
        check_all (within p) (n - 1) (left_in s) (pos + branch_width) (drop branch_width x) >>= λ a.
        check_all (within p) (n - 1) (right_in s) a.pos a.rest >>= λ b.
        ok (opening_both s a b))
    unfolding check_all letter_due
    at_two zero d e = absurd (differ (sym d ∙ e))
    at_two (suc n) d e =
        simp (opens, e)
        (ap
        (λ (m : ℕ).
        take_string letter_N branch_width k.digest pos x >>= λ s.
        check_all (within p) m (left_in s) (pos + branch_width) (drop branch_width x) >>= λ a.
        check_all (within p) m (right_in s) a.pos a.rest >>= λ b.
        ok (opening_both s a b))
        (let z : n ≡ suc n - 1 = omega arith in z))

-- ---- the walk

module _ (n : ℕ) (answer : Bytes) (at : ℕ) (k : Subtree) (x : Opening) (o : DueOpens n answer at k (Ok x)) where
  opening-is : (y : Opening) → x ≡ y → DueOpens n answer at k (Ok y)
  opening-is y e = subst (λ (z : Opening). DueOpens n answer at k (Ok z)) e o

  -- behind a string N its halves are there, and their paths have one N less
  pub inner_there : x ≡ InnerTaken → (at + 97 ≤ length answer) × (0 < n)
  unfolding letter_due
  inner_there e = go (opening-is InnerTaken e)
    where
      some : (n : ℕ) → (leb 1 n || eqb k.least k.greatest) ≡ true → eqb k.least k.greatest ≡ false → 0 < n
      some zero d g = absurd (differ (sym d ∙ g))
      some (suc n) d g = omega arith

      go : DueOpens n answer at k (Ok InnerTaken) → (at + 97 ≤ length answer) × (0 < n)
      go (due _ d (at_inner g q)) = (q.inside, some n d g)

module _ (p : SpanQuestion) (n : ℕ) (answer : Bytes) (at known : ℕ) where
  pub all_read : (x : Span) → SpanIs answer (all_at p n answer at known) (Ok x) → Reads answer (all_at p n answer at known) x.at x.count
  all_read x (read _ g) = g

  few-leaves : (x : Span) → SpanIs answer (all_at p n answer at known) (Ok x) → x.count ≤ 2 ^ n
  unfolding all_at
  few-leaves x (read _ g) = subst (λ (c : ℕ). c ≤ 2 ^ n) g.count_is (all-few (within p) n (subtree_in answer known) at (drop at answer) g.walk g.is)

-- at most 16 N on a path: no sum of counts is large
pub counts_fit : (p : SpanQuestion) (n : ℕ) (answer : Bytes) (at known : ℕ) (x : Span) → SpanIs answer (all_at p (n - 1) answer at known) (Ok x)
    → (next right : ℕ) (y : Span) → SpanIs answer (all_at p (n - 1) answer next right) (Ok y) → n ≤ path_limit → x.count + y.count ≤ 131072
counts_fit p n answer at known x h1 next right y h2 h =
    let a = few-leaves p (n - 1) answer at known x h1 in
    let b = few-leaves p (n - 1) answer next right y h2 in
    let m : n - 1 ≤ 16 = omega arith in
    let c : 2 ^ (n - 1) ≤ 2 ^ 16 = pow_mono m in
    omega arith

module _ (p : SpanQuestion) (n : ℕ) (answer : Bytes) (at known : ℕ) (b : Bool) (tested : b ≡ within p (subtree_in answer known)) where
  abbrev Here : std.Result Span Refusal → Type 0
  Here r = SpanIs answer (all_at p n answer at known) r

  pub shut_here : b ≡ false → at ≤ length answer → Here (Ok (record { at = at; count = 0 }))
  unfolding all_at
  shut_here e h =
      read (record { at = at; count = 0 })
      (record {
        walk = none_opened at (drop at answer);
        is = at_shut p (subtree_in answer known) at (drop at answer) n (sym tested ∙ e);
        pos_is = refl;
        rest_is = refl;
        count_is = refl;
        inside = h;
      })

  module _ (goes : b ≡ true) where
    opens : within p (subtree_in answer known) ≡ true
    opens = sym tested ∙ goes

    pub halts_here : (x : Refusal) → DueOpens n answer at (subtree_in answer known) (Err x) → Here (Err x)
    unfolding all_at check_leaf string_due
    halts_here x o = refused x (go o)
      where
        k : Subtree
        k = subtree_in answer known

        by_keys : letter_due n k ≡ true → (c : Bool) → eqb k.least k.greatest ≡ c
            → RefusedBy (cond c (take_string 76 77 k.digest at (drop at answer)) (take_string 78 97 k.digest at (drop at answer))) x
            → RefusedBy (check_all (within p) n k at (drop at answer)) x
        by_keys d true g h = at_one p k at (drop at answer) opens n g ∙ bind_refused _ _ (number_of x.row) x.position h
        by_keys d false g h = at_two p k at (drop at answer) opens n d g ∙ bind_refused _ _ (number_of x.row) x.position h

        go : DueOpens n answer at (subtree_in answer known) (Err x) → RefusedBy (check_all (within p) n (subtree_in answer known) at (drop at answer)) x
        go (due _ d (unopened _ h)) = by_keys d (eqb k.least k.greatest) refl h
        go (not_due _ d h) = at_none p k at (drop at answer) opens n d ∙ h

    module _ (opened : Opening) (o : DueOpens n answer at (subtree_in answer known) (Ok opened)) where
      pub leaf-here : opened ≡ LeafTaken → Here (Ok (record { at = at + 77; count = 1 }))
      unfolding all_at check_leaf
      leaf-here e = go (opening-is n answer at (subtree_in answer known) opened o LeafTaken e)
        where
          go : DueOpens n answer at (subtree_in answer known) (Ok LeafTaken) → Here (Ok (record { at = at + 77; count = 1 }))
          go (due _ d (at_leaf g q)) =
              read (record { at = at + 77; count = 1 })
              (record {
                walk = opening_leaf (take 77 (drop at answer)) (at + 77) (drop 77 (drop at answer));
                is = at_one p (subtree_in answer known) at (drop at answer) opens n g ∙ bind_eq _ _ _ q.is;
                pos_is = refl;
                rest_is = drop-drop 77 at answer;
                count_is = refl;
                inside = q.inside;
              })

      module _ (inner : opened ≡ InnerTaken) (left : ℕ) (l : left ≡ at + 1) where
        -- the halves stand at their places in the answer
        halves : (right : ℕ) → right ≡ at + 49
            → all_at p n answer at known
            ≡ (all_at p (n - 1) answer (at + 97) left >>= λ a.
            check_all (within p) (n - 1) (subtree_in answer right) a.pos a.rest >>= λ b.
            ok (opening_both (take 97 (drop at answer)) a b))
        unfolding all_at
        halves right r = go (opening-is n answer at (subtree_in answer known) opened o InnerTaken inner)
          where
            str : Bytes
            str = take 97 (drop at answer)

            then : Subtree → Subtree → Bytes → Result CheckedAll
            then l r x =
                check_all (within p) (n - 1) l (at + 97) x >>= λ a.
                check_all (within p) (n - 1) r a.pos a.rest >>= λ b.
                ok (opening_both str a b)

            go : DueOpens n answer at (subtree_in answer known) (Ok InnerTaken)
                → check_all (within p) n (subtree_in answer known) at (drop at answer) ≡ then (subtree_in answer left) (subtree_in answer right) (drop (at + 97) answer)
            go (due _ d (at_inner g q)) =
                at_two p (subtree_in answer known) at (drop at answer) opens n d g
                ∙ bind_eq _ _ _ q.is
                ∙ ap (then (left_in str) (right_in str)) (drop-drop 97 at answer)
                ∙ ap₂ (λ (l r : Subtree). then l r (drop (at + 97) answer))
                (subtree_at answer at 97 q.inside 1 left (omega arith) l) (subtree_at answer at 97 q.inside 49 right (omega arith) r)

        pub left-refused : (x : Refusal) → SpanIs answer (all_at p (n - 1) answer (at + 97) left) (Err x) → Here (Err x)
        left-refused x (refused _ h) = refused x (halves (at + 49) refl ∙ bind_refused _ _ (number_of x.row) x.position h)

        module _ (below : Span) (L : SpanIs answer (all_at p (n - 1) answer (at + 97) left) (Ok below)) (right : ℕ) (r : right ≡ at + 49) where
          gives : Reads answer (all_at p (n - 1) answer (at + 97) left) below.at below.count
          gives = all_read p (n - 1) answer (at + 97) left below L

          after-left : all_at p n answer at known ≡ (all_at p (n - 1) answer below.at right >>= λ b. ok (opening_both (take 97 (drop at answer)) gives.walk b))
          unfolding all_at
          after-left =
              halves right r
              ∙ bind_eq _ _ _ gives.is
              ∙ ap₂ (λ (pos : ℕ) (x : Bytes). check_all (within p) (n - 1) (subtree_in answer right) pos x >>= λ b. ok (opening_both (take 97 (drop at answer)) gives.walk b))
              gives.pos_is gives.rest_is

          pub right-refused : (x : Refusal) → SpanIs answer (all_at p (n - 1) answer below.at right) (Err x) → Here (Err x)
          right-refused x (refused _ h) = refused x (after-left ∙ bind_refused _ _ (number_of x.row) x.position h)

          pub both-here : (behind : Span) → SpanIs answer (all_at p (n - 1) answer below.at right) (Ok behind)
              → Here (Ok (record { at = behind.at; count = below.count + behind.count }))
          both-here behind (read _ g) =
              read (record { at = behind.at; count = below.count + behind.count })
              (record {
                walk = opening_both (take 97 (drop at answer)) gives.walk g.walk;
                is = after-left ∙ bind_eq _ _ _ g.is;
                pos_is = g.pos_is;
                rest_is = g.rest_is;
                count_is = omega (arith, length-append gives.walk.leaves g.walk.leaves, gives.count_is, g.count_is);
                inside = g.inside;
              })
