-- The walk, step by step: what is left to read gives what was to be read. Assumes nothing.
use mathlib.Core.Path.{◌≡◌, refl, sym, ap, ap₂, ◌∙◌, subst}
use mathlib.Core.Bool.{Bool, true, false, cond}
use Prim.Native.Nat.{ℕ, ◌+◌, ◌≤◌, ◌<◌}
use native.Mathlib.Omega.{arith}
use lib.Dec.{eqb}
use lib.ListN.{length, take, drop, length-drop}
use lib.Seq.{drop-drop}
use Rattle.fields.specs.Fields.{part}
use Rattle.fields.proofs.Places.{part-all}
use Rattle.model.specs.Numbers.{Bytes}
use Rattle.model.specs.Result.{Result, ok, refuse, ◌>>=◌}
use Rattle.model.specs.Accumulator.{branch_width, Subtree, Layout, VersionLeaf, versions_layout, Group, entities_layout}
use Rattle.model.specs.Question.{Relation, VersionQuestion, Question, one, entity_of, no_entity, SearchEnd, Descent, by_entity, by_time}
use Rattle.model.specs.CheckRows.{take_string, CheckedProof, stopped as ended, opening, subtree_in, chosen, leaf_in, check_tree, check_versions, check_sought, check_entities, check_proof}
use Rattle.model.proofs.Outcomes.{bind_eq, bind_refused}
use Rattle.model.proofs.CheckSteps.{tree-step, sought_fuel, entities_fuel}
use Rattle.std.specs.Prelude.{Ok, Err}
use Rattle.std.specs.Prelude as std
use Rattle.outcome.specs.declared.Refusal.{Refusal}
use Rattle.outcome.specs.Outcomes.{number_of}
use Rattle.proof_reader.specs.declared.Opening.{Opening}
use Rattle.proof_reader.specs.declared.Opening.TheVariants.{Leaf as LeafTaken, Inner as InnerTaken}
use Rattle.proof_reader.specs.declared.Stop.{Stop}
use Rattle.proof_reader.specs.declared.Stop.TheVariants.{NoEntity}
use Rattle.proof_reader.specs.declared.EntitySearch.{EntitySearch}
use Rattle.proof_reader.specs.declared.EntitySearch.TheVariants.{NoEntity as ToNothing, Group as ToGroup}
use Rattle.proof_reader.specs.declared.Proof.{Proof}
use Rattle.proof_reader.specs.declared.Proof.TheVariants.{Stopped, Found}
use Rattle.proof_reader.specs.Walks.{RefusedBy, Passes, Takes, Opens, at_leaf, at_inner, unopened, string_due, side_of, stop_of, versions_at, sought_at, entities_at, Gives, GoesOn, SearchIs, to_nothing, to_group, unsought, ProofIs, stopped, found, refused}
use Rattle.proof_reader.proofs.Strings.{passed, not_passed, subtree_at}

-- ---- a reading that goes on as another

module _ (answer : Bytes) where
  as_well : {a b : Result CheckedProof} → a ≡ b → (c : Result CheckedProof) → GoesOn answer b c → GoesOn answer a c
  as_well e c g = subst (λ (m : Result CheckedProof). GoesOn answer m c) (sym e) g

  further : {a b c : Result CheckedProof} → GoesOn answer a b → GoesOn answer b c → GoesOn answer a c
  further f g = record { ends = λ e at k. f.ends e at (g.ends e at k); refuses = λ n p e. f.refuses n p (g.refuses n p e) }

  -- a string opened before
  opened-before : (m : Result CheckedProof) (s : Bytes) → GoesOn answer (m >>= λ r. ok (opening s r)) m
  opened-before m s =
      record {
        ends = λ e at g.
            record {
              proof = opening s g.proof;
              is = bind_eq m _ g.proof g.is;
              end_is = g.end_is;
              pos_is = g.pos_is;
              rest_is = g.rest_is;
              inside = g.inside;
            };
        refuses = λ n p e. bind_refused m _ n p e;
      }

  -- by the reader's answer
  pub proof_back : {m n : Result CheckedProof} → GoesOn answer m n → (r : std.Result Proof Refusal) → ProofIs answer n r → ProofIs answer m r
  proof_back w r (stopped x e at k g) = stopped x e at k (w.ends _ at g)
  proof_back w r (found leaf at e g) = found leaf at e (w.ends _ at g)
  proof_back w r (refused x e) = refused x (w.refuses (number_of x.row) x.position e)

-- ---- one step in a tree

-- what a walk in a tree goes by
record Rules (A : Type 0) : Type 0 where
  pub layout : Layout A
  pub descent : Descent
  pub leaf : Bytes → ℕ → ℕ → Bytes → Result CheckedProof
  pub wide : 0 < layout.leaf_width
  pub fuel : (s : Bytes) (f g pos : ℕ) (x : Bytes) → length x ≤ f → length x ≤ g → leaf s f pos x ≡ leaf s g pos x

-- the walk from byte `at` on, in the subtree at byte `known`
abbrev tree-from : {A : Type 0} → Rules A → Bytes → ℕ → ℕ → Result CheckedProof
tree-from R answer at known =
    check_tree R.layout R.descent R.leaf (length (drop at answer)) (subtree_in answer known) at (drop at answer)

cond-refused : {X Y : Type 0} (b : Bool) (m n : Result X) (f g : X → Result Y) (number p : ℕ) → cond b m n ≡ refuse number p
    → cond b (m >>= f) (n >>= g) ≡ refuse number p
cond-refused true m n f g number p e = bind_refused m f number p e
cond-refused false m n f g number p e = bind_refused n g number p e

cond_of : {X Y : Type 0} (f : X → Y) (b : Bool) (x y : X) → cond b (f x) (f y) ≡ f (cond b x y)
cond_of f true x y = refl
cond_of f false x y = refl

-- the subtree in which a descent goes on stands in the answer
chosen_at : (d : Descent) (answer : Bytes) (at : ℕ) → at + 97 ≤ length answer → chosen d (take 97 (drop at answer)) ≡ subtree_in answer (side_of d answer at)
unfolding side_of
chosen_at d answer at h =
    ap₂ (λ (x y : Subtree). cond (d.goes_left x y) x y) (subtree_at answer at 97 h 1 (at + 1) (omega arith) refl) (subtree_at answer at 97 h 49 (at + 49) (omega arith) refl)
    ∙ cond_of (subtree_in answer) (d.goes_left (subtree_in answer (at + 1)) (subtree_in answer (at + 49))) (at + 1) (at + 49)

side_room : (d : Descent) (answer : Bytes) (at : ℕ) → at + 97 ≤ length answer → side_of d answer at + 48 ≤ length answer
unfolding side_of
side_room d answer at h = go (d.goes_left (subtree_in answer (at + 1)) (subtree_in answer (at + 49)))
  where
    go : (b : Bool) → cond b (at + 1) (at + 49) + 48 ≤ length answer
    go true = omega arith
    go false = omega arith

module _ {A : Type 0} (R : Rules A) (answer : Bytes) (at known : ℕ) where
  next : tree-from R answer at known
      ≡ cond (R.descent.stops (subtree_in answer known)) (ok (ended (SearchEnd.not_found (R.descent.stop_at (subtree_in answer known))) at (drop at answer)))
      (cond (eqb (subtree_in answer known).least (subtree_in answer known).greatest)
      (take_string R.layout.leaf_letter R.layout.leaf_width (subtree_in answer known).digest at (drop at answer) >>= λ s.
      R.leaf s (length (drop R.layout.leaf_width (drop at answer))) (at + R.layout.leaf_width) (drop R.layout.leaf_width (drop at answer)) >>= λ r.
      ok (opening s r))
      (take_string R.layout.inner_letter branch_width (subtree_in answer known).digest at (drop at answer) >>= λ s.
      check_tree R.layout R.descent R.leaf (length (drop branch_width (drop at answer))) (chosen R.descent s) (at + branch_width) (drop branch_width (drop at answer)) >>= λ r.
      ok (opening s r)))
  next =
      tree-step R.layout R.descent R.leaf R.wide R.fuel (length (drop at answer)) (subtree_in answer known) at (drop at answer) (omega arith)

  tree-stops : R.descent.stops (subtree_in answer known) ≡ true → tree-from R answer at known ≡ ok (ended (SearchEnd.not_found (R.descent.stop_at (subtree_in answer known))) at (drop at answer))
  tree-stops h = next ∙ simp (h)

  module _ (goes : R.descent.stops (subtree_in answer known) ≡ false) where
    tree_halts : (e : Refusal)
        → RefusedBy (string_due R.layout.leaf_letter R.layout.leaf_width R.layout.inner_letter (subtree_in answer known) at (drop at answer)) e
        → RefusedBy (tree-from R answer at known) e
    unfolding string_due
    tree_halts e h =
        next ∙ simp (goes) (cond-refused (eqb (subtree_in answer known).least (subtree_in answer known).greatest) _ _ _ _ (number_of e.row) e.position h)

    tree-leaf : eqb (subtree_in answer known).least (subtree_in answer known).greatest ≡ true
        → Passes answer at R.layout.leaf_letter R.layout.leaf_width (subtree_in answer known).digest
        → tree-from R answer at known
        ≡ (R.leaf (take R.layout.leaf_width (drop at answer)) (length (drop (at + R.layout.leaf_width) answer)) (at + R.layout.leaf_width) (drop (at + R.layout.leaf_width) answer)
        >>= λ r. ok (opening (take R.layout.leaf_width (drop at answer)) r))
    tree-leaf k p =
        let s = take R.layout.leaf_width (drop at answer) in
        next
        ∙ simp (goes, k) (bind_eq _ _ s p.is)
        ∙ ap (λ (x : Bytes). R.leaf s (length x) (at + R.layout.leaf_width) x >>= λ r. ok (opening s r)) (drop-drop R.layout.leaf_width at answer)

    tree_side : eqb (subtree_in answer known).least (subtree_in answer known).greatest ≡ false
        → Passes answer at R.layout.inner_letter branch_width (subtree_in answer known).digest
        → tree-from R answer at known
        ≡ (tree-from R answer (at + branch_width) (side_of R.descent answer at) >>= λ r. ok (opening (take branch_width (drop at answer)) r))
    tree_side k p =
        let s = take branch_width (drop at answer) in
        next
        ∙ simp (goes, k) (bind_eq _ _ s p.is)
        ∙ ap₂
        (λ (x : Bytes) (y : Subtree). check_tree R.layout R.descent R.leaf (length x) y (at + branch_width) x >>= λ r. ok (opening s r))
        (drop-drop branch_width at answer) (chosen_at R.descent answer at p.inside)

-- ---- by the string that was opened

module _ (leaf width inner : ℕ) (answer : Bytes) (at known : ℕ) where
  leaf-inside : Opens leaf width inner answer at (subtree_in answer known) (Ok LeafTaken) → at + width ≤ length answer
  leaf-inside (at_leaf k h) = h.inside

  inner_inside : Opens leaf width inner answer at (subtree_in answer known) (Ok InnerTaken) → at + 97 ≤ length answer
  inner_inside (at_inner k h) = h.inside

  module _ (x : Opening) (O : Opens leaf width inner answer at (subtree_in answer known) (Ok x)) where
    opens : (y : Opening) → x ≡ y → Opens leaf width inner answer at (subtree_in answer known) (Ok y)
    opens y q = subst (λ (z : Opening). Opens leaf width inner answer at (subtree_in answer known) (Ok z)) q O

    -- it lies inside the answer
    pub leaf-there : x ≡ LeafTaken → at + width ≤ length answer
    leaf-there q = leaf-inside (opens LeafTaken q)

    pub inner_there : x ≡ InnerTaken → at + 97 ≤ length answer
    inner_there q = inner_inside (opens InnerTaken q)

-- a walk that began at one place, and goes on at another
pub record Walking (answer : Bytes) (check : ℕ → ℕ → Result CheckedProof) (at₀ known₀ at known : ℕ) : Type 0 where
  pub inside : at ≤ length answer
  pub room : known + 48 ≤ length answer
  pub back : GoesOn answer (check at₀ known₀) (check at known)

module _ {A : Type 0} (R : Rules A) (answer : Bytes) (at₀ known₀ at known : ℕ) (W : Walking answer (tree-from R answer) at₀ known₀ at known) where
  module _ (b : Bool) (tested : b ≡ R.descent.stops (subtree_in answer known)) where
    walk-stops : b ≡ true → Gives answer (tree-from R answer at₀ known₀) (SearchEnd.not_found (R.descent.stop_at (subtree_in answer known))) at
    walk-stops t =
        W.back.ends _ at
        (record {
          proof = ended (SearchEnd.not_found (R.descent.stop_at (subtree_in answer known))) at (drop at answer);
          is = tree-stops R answer at known (sym tested ∙ t);
          end_is = refl;
          pos_is = refl;
          rest_is = refl;
          inside = W.inside;
        })

    module _ (goes : b ≡ false) where
      walk_halts : (e : Refusal) → Opens R.layout.leaf_letter R.layout.leaf_width R.layout.inner_letter answer at (subtree_in answer known) (Err e)
          → RefusedBy (tree-from R answer at₀ known₀) e
      walk_halts e (unopened _ h) = W.back.refuses (number_of e.row) e.position (tree_halts R answer at known (sym tested ∙ goes) e h)

      walk-leaf : Opens R.layout.leaf_letter R.layout.leaf_width R.layout.inner_letter answer at (subtree_in answer known) (Ok LeafTaken)
          → GoesOn answer (tree-from R answer at₀ known₀)
          (R.leaf (take R.layout.leaf_width (drop at answer)) (length (drop (at + R.layout.leaf_width) answer)) (at + R.layout.leaf_width) (drop (at + R.layout.leaf_width) answer))
      walk-leaf (at_leaf k h) = further answer W.back (as_well answer (tree-leaf R answer at known (sym tested ∙ goes) k h) _ (opened-before answer _ _))

      walk-on : Opens R.layout.leaf_letter R.layout.leaf_width R.layout.inner_letter answer at (subtree_in answer known) (Ok InnerTaken) → (side : ℕ) → side ≡ side_of R.descent answer at
          → Walking answer (tree-from R answer) at₀ known₀ (at + 97) side
      walk-on (at_inner n h) side f =
          record {
            inside = h.inside;
            room = subst (λ (x : ℕ). x + 48 ≤ length answer) (sym f) (side_room R.descent answer at h.inside);
            back =
                further answer W.back
                (as_well answer (tree_side R answer at known (sym tested ∙ goes) n h) _
                (subst
                (λ (x : ℕ). GoesOn answer (tree-from R answer (at + 97) (side_of R.descent answer at) >>= λ r. ok (opening (take 97 (drop at answer)) r)) (tree-from R answer (at + 97) x))
                (sym f) (opened-before answer _ _)));
          }

-- ---- in one entity's tree

unfoldable version_rules : Relation → ℕ → Rules VersionLeaf
version_rules r t =
    record {
      layout = versions_layout;
      descent = by_time r t;
      leaf = λ s f pos x. ok (ended (SearchEnd.found (leaf_in s)) pos x);
      wide = omega arith;
      fuel = λ s f g pos x a b. refl;
    }

module _ (r : Relation) (t : ℕ) (answer : Bytes) (at₀ known₀ at known : ℕ) (W : Walking answer (versions_at r t answer) at₀ known₀ at known) (b : Bool)
    (tested : b ≡ (by_time r t).stops (subtree_in answer known))
  where
    pub versions-stop : b ≡ true → (e : Stop) → ((t : ℕ) → e ≡ stop_of ((by_time r t).stop_at (subtree_in answer known)))
        → ProofIs answer (versions_at r t answer at₀ known₀) (Ok (Stopped e at))
    unfolding versions_at check_versions version_rules
    versions-stop h e k = stopped e _ at (k t) (walk-stops (version_rules r t) answer at₀ known₀ at known W b tested h)

    module _ (goes : b ≡ false) where
      pub versions_halt : (e : Refusal) → Opens 0x4C 77 0x4E answer at (subtree_in answer known) (Err e) → ProofIs answer (versions_at r t answer at₀ known₀) (Err e)
      unfolding versions_at check_versions version_rules
      versions_halt e o = refused e (walk_halts (version_rules r t) answer at₀ known₀ at known W b tested goes e o)

      module _ (x : Opening) (o : Opens 0x4C 77 0x4E answer at (subtree_in answer known) (Ok x)) where
        pub version-found : x ≡ LeafTaken → ProofIs answer (versions_at r t answer at₀ known₀) (Ok (Found at (at + 77)))
        unfolding versions_at check_versions version_rules
        version-found q =
            found at (at + 77) refl
            ((walk-leaf (version_rules r t) answer at₀ known₀ at known W b tested goes (opens 0x4C 77 0x4E answer at known x o LeafTaken q)).ends _ (at + 77)
            (record { proof = _; is = refl; end_is = refl; pos_is = refl; rest_is = refl; inside = leaf-there 0x4C 77 0x4E answer at known x o q }))

        pub versions_on : x ≡ InnerTaken → (side : ℕ) → side ≡ side_of (by_time r t) answer at → Walking answer (versions_at r t answer) at₀ known₀ (at + 97) side
        unfolding versions_at check_versions version_rules
        versions_on q side f =
            walk-on (version_rules r t) answer at₀ known₀ at known W b tested goes (opens 0x4C 77 0x4E answer at known x o InnerTaken q) side f

-- ---- in the tree of entities

unfoldable entity_rules : Question → Rules Group
entity_rules q =
    record {
      layout = entities_layout;
      descent = by_entity (entity_of q);
      leaf = λ s f pos x. check_sought q f (subtree_in s 9) pos x;
      wide = omega arith;
      fuel = λ s f g pos x a b. sought_fuel q f g (subtree_in s 9) pos x a b;
    }

-- for every question of the entity s
pub record Seeking (answer : Bytes) (s at₀ known₀ at known : ℕ) : Type 0 where
  pub inside : at ≤ length answer
  pub room : known + 48 ≤ length answer
  pub back : (q : Question) → entity_of q ≡ s → GoesOn answer (entities_at q answer at₀ known₀) (entities_at q answer at known)

module _ (s : ℕ) (answer : Bytes) (at₀ known₀ at known : ℕ) (W : Seeking answer s at₀ known₀ at known) (b : Bool)
    (tested : b ≡ (by_entity s).stops (subtree_in answer known))
  where
    abbrev Here : std.Result EntitySearch Refusal → Type 0
    Here r = SearchIs answer s (λ q. entities_at q answer at₀ known₀) r

    for : (q : Question) → entity_of q ≡ s → Walking answer (entities_at q answer) at₀ known₀ at known
    for q e = record { inside = W.inside; room = W.room; back = W.back q e }

    by_its : (q : Question) → entity_of q ≡ s → b ≡ (by_entity (entity_of q)).stops (subtree_in answer known)
    by_its q e = tested ∙ ap (λ (z : ℕ). (by_entity z).stops (subtree_in answer known)) (sym e)

    pub entities-stop : b ≡ true → Here (Ok (ToNothing at))
    unfolding entities_at check_entities entity_rules by_entity
    entities-stop h = to_nothing at (λ q e. walk-stops (entity_rules q) answer at₀ known₀ at known (for q e) b (by_its q e) h)

    module _ (goes : b ≡ false) where
      pub entities_halt : (x : Refusal) → Opens 0x47 57 0x50 answer at (subtree_in answer known) (Err x) → Here (Err x)
      unfolding entities_at check_entities entity_rules
      entities_halt x o = unsought x (λ q e. walk_halts (entity_rules q) answer at₀ known₀ at known (for q e) b (by_its q e) goes x o)

      module _ (x : Opening) (o : Opens 0x47 57 0x50 answer at (subtree_in answer known) (Ok x)) where
        pub entity-found : x ≡ LeafTaken → Here (Ok (ToGroup at))
        unfolding entities_at check_entities entity_rules sought_at
        entity-found k =
            let h = leaf-there 0x47 57 0x50 answer at known x o k in
            to_group at h
            (λ q e.
            subst
            (λ (y : Subtree). GoesOn answer (entities_at q answer at₀ known₀) (check_sought q (length (drop (at + 57) answer)) y (at + 57) (drop (at + 57) answer)))
            (subtree_at answer at 57 h 9 (at + 9) (omega arith) refl)
            (walk-leaf (entity_rules q) answer at₀ known₀ at known (for q e) b (by_its q e) goes (opens 0x47 57 0x50 answer at known x o LeafTaken k)))

        pub entities-on : x ≡ InnerTaken → (side : ℕ) → side ≡ side_of (by_entity s) answer at → Seeking answer s at₀ known₀ (at + 97) side
        unfolding entities_at check_entities entity_rules
        entities-on k side f =
            let on : (q : Question) → entity_of q ≡ s → Walking answer (entities_at q answer) at₀ known₀ (at + 97) side =
            λ q e.
            walk-on (entity_rules q) answer at₀ known₀ at known (for q e) b (by_its q e) goes (opens 0x47 57 0x50 answer at known x o InnerTaken k) side
            (f ∙ ap (λ (z : ℕ). side_of (by_entity z) answer at) (sym e)) in
            let h = inner_there 0x47 57 0x50 answer at known x o k in
            record { inside = h; room = subst (λ (x : ℕ). x + 48 ≤ length answer) (sym f) (side_room (by_entity s) answer at h); back = λ q e. (on q e).back }

-- ---- from R down to G

search_back : (answer : Bytes) (s : ℕ) (f g : Question → Result CheckedProof) → ((q : Question) → GoesOn answer (f q) (g q)) → (r : std.Result EntitySearch Refusal) → SearchIs answer s g r → SearchIs answer s f r
search_back answer s f g w r (to_nothing at k) = to_nothing at (λ q e. (w q).ends _ at (k q e))
search_back answer s f g w r (to_group at h k) = to_group at h (λ q e. further answer (w q) (k q e))
search_back answer s f g w r (unsought x k) = unsought x (λ q e. (w q).refuses (number_of x.row) x.position (k q e))

module _ (answer commitment : Bytes) (at letter : ℕ) (wide : length commitment ≡ 32) (s : ℕ) where
  abbrev FoundBy : std.Result EntitySearch Refusal → Type 0
  FoundBy x = SearchIs answer s (λ q. check_proof letter q commitment at (drop at answer)) x

  root_taking : (r : std.Result (Unit {0}) Refusal) → Takes answer at letter 65 (part commitment 0 32) r → Takes answer at letter 65 commitment r
  root_taking r t = subst (λ (d : Bytes). Takes answer at letter 65 d r) (part-all commitment 32 wide) t

  pub root-refused : (e : Refusal) → Takes answer at letter 65 (part commitment 0 32) (Err e) → FoundBy (Err e)
  unfolding check_proof
  root-refused e t = unsought e (λ q k. bind_refused _ _ (number_of e.row) e.position (not_passed (root_taking (Err e) t)))

  module _ (u : Unit {0}) (t : Takes answer at letter 65 (part commitment 0 32) (Ok u)) where
    root-on : (q : Question) → GoesOn answer (check_proof letter q commitment at (drop at answer)) (entities_at q answer (at + 65) (at + 17))
    unfolding check_proof entities_at
    root-on q =
        let h = passed (root_taking (Ok u) t) in
        let n = length-drop at answer in
        let m = length-drop (at + 65) answer in
        let w = h.inside in
        let k = subtree_at answer at 65 w 17 (at + 17) (omega arith) refl in
        as_well answer
        (bind_eq _ _ (take 65 (drop at answer)) h.is
        ∙ ap₂ (λ (x : Bytes) (y : Subtree). check_entities q (length (drop at answer)) y (at + 65) x >>= λ z. ok (opening (take 65 (drop at answer)) z)) (drop-drop 65 at answer) k
        ∙ ap (λ (m : Result CheckedProof). m >>= λ z. ok (opening (take 65 (drop at answer)) z))
        (entities_fuel q (length (drop at answer)) (length (drop (at + 65) answer)) (subtree_in answer (at + 17)) (at + 65) (drop (at + 65) answer) (omega arith) (omega arith)))
        _ (opened-before answer _ _)

    pub root-taken : (x : std.Result EntitySearch Refusal) → (known : ℕ) → known ≡ at + 17 → SearchIs answer s (λ q. entities_at q answer (at + 65) known) x → FoundBy x
    root-taken x known e S = search_back answer s _ _ root-on x (subst (λ (k : ℕ). SearchIs answer s (λ q. entities_at q answer (at + 65) k) x) e S)

-- ---- behind G

module _ (answer : Bytes) (s : ℕ) (check : Question → Result CheckedProof) where
  pub search_is : (x y : EntitySearch) → SearchIs answer s check (Ok x) → x ≡ y → SearchIs answer s check (Ok y)
  search_is x y S e = subst (λ (z : EntitySearch). SearchIs answer s check (Ok z)) e S

  module _ (q : Question) (of : entity_of q ≡ s) where
    pub search_refused : (e : Refusal) → SearchIs answer s check (Err e) → RefusedBy (check q) e
    search_refused e (unsought _ k) = k q of

    pub search_none : (at : ℕ) → SearchIs answer s check (Ok (ToNothing at)) → Gives answer (check q) (SearchEnd.not_found no_entity) at
    search_none at (to_nothing _ k) = k q of

    pub search_on : (at : ℕ) → SearchIs answer s check (Ok (ToGroup at)) → GoesOn answer (check q) (sought_at q answer (at + 57) (at + 9))
    search_on at (to_group _ h k) = k q of

-- ---- the proof for one version

module _ (answer commitment : Bytes) (at letter : ℕ) (q : VersionQuestion) where
  abbrev Searched : std.Result EntitySearch Refusal → Type 0
  Searched r = SearchIs answer q.entity (λ q. check_proof letter q commitment at (drop at answer)) r

  abbrev Proved : std.Result Proof Refusal → Type 0
  Proved p = ProofIs answer (check_proof letter (one q) commitment at (drop at answer)) p

  pub one-refused : (e : Refusal) → Searched (Err e) → Proved (Err e)
  one-refused e S = refused e (search_refused answer q.entity _ (one q) refl e S)

  module _ (x : EntitySearch) (S : Searched (Ok x)) where
    pub one_missing : (end : ℕ) → x ≡ ToNothing end → Proved (Ok (Stopped NoEntity end))
    unfolding stop_of
    one_missing end e =
        stopped NoEntity no_entity end refl (search_none answer q.entity _ (one q) refl end (search_is answer q.entity _ x (ToNothing end) S e))

    pub one-sought : (group : ℕ) → x ≡ ToGroup group → (known : ℕ) → known ≡ group + 9
        → (p : std.Result Proof Refusal) → ProofIs answer (versions_at q.relation q.time answer (group + 57) known) p → Proved p
    unfolding versions_at sought_at check_sought
    one-sought group e known k p P =
        proof_back answer (search_on answer q.entity _ (one q) refl group (search_is answer q.entity _ x (ToGroup group) S e)) p
        (subst (λ (n : ℕ). ProofIs answer (versions_at q.relation q.time answer (group + 57) n) p) k P)
