-- All strings of an entity's tree that a rule opens, in preorder: an accepted walk is the defined one or two strings collide, it used up the
-- strings that it opened, and the defined one is read back. Assumes nothing.
use mathlib.Core.Path.{◌≡◌, refl, sym, ap, ap₂, ◌∙◌, subst}
use mathlib.Core.Logic.{◌⊎◌, inl, inr}
use Prim.Native.Nat.{ℕ, zero, suc, ◌+◌, ◌*◌, ◌^◌, ◌<◌, ◌≤◌}
use native.Mathlib.Nat.{add-zero, two-pow-succ}
use native.Mathlib.Omega.{arith}
use mathlib.Core.Bool.{Bool, not, cond}
use mathlib.Core.List.Memᴰ
use mathlib.Core.List.{List, [], ◌∷◌, ◌++◌, map, map-append, append_assoc, append-nil}
use lib.ListN.{length, take, drop, get_or, length-append}
use lib.Seq.{drop_at}
use lib.Dec.{T, leb, eqb, eqb_refl, leb→le, le→leb, T_not}
use lib.Pow.{pow_pos}
use Rattle.model.specs.Result.{Result, ok, ◌>>=◌}
use Rattle.model.specs.Numbers.{Bytes, H, joined}
use Rattle.model.specs.Accumulator.{letter_L, letter_N, L_width, branch_width, Subtree, branch_string, parent, Tree, tip, branch, Layout, subtree, string_of, strings_of, Leaf, leaf_string, VersionLeaf, versions_layout}
use Rattle.model.specs.Question.{SpanQuestion, SearchEnd, OpenedAll, nothing_opened, open_all, within, VersionName, name_width, name_string}
use Rattle.model.specs.CheckRows.{take_string, CheckedProof, stopped, subtree_in, leaf_in, CheckedAll, none_opened, opening_leaf, opening_both, path_limit, none_due, check_leaf, check_all}
use Rattle.model.specs.Exact.{Collision}
use Rattle.model.proofs.Outcomes.{refuse≢ok, ok_inj, bind_ok, bind_eq, past, by_test, test, and_T, T_and, cond_T, cond_F}
use Rattle.model.proofs.Strings.{joined-append, none, num, joined_length}
use Rattle.model.proofs.Lists.{◌among◌, Up, up_left, up_right, up_cross, up-append}
use Rattle.model.proofs.Trees.{flat, AllTree, Shallow}
use Rattle.model.proofs.Match.{collision_into}
use Rattle.model.proofs.Walk.{taken, true_string, Known, left_back, right_back, leaf_back, versions_letters, branch-letter, VersionFits, version_keys, versions-known, version-strings, leaf_of, Used, used_none, used_one}
use Rattle.model.proofs.WalkTruth.{time-key, least_in, greatest_in, least_le, greatest_ge}
use Rattle.model.proofs.Open.{take-ok, leaf-length, wide_branch, not_equal}

-- ---- the defined walk at a tree

module _ {A : Type 0} (l : Layout A) (opens : Subtree → Bool) where
  pub shut : (t : Tree A) → T (not (opens (subtree l t))) → open_all l opens t ≡ nothing_opened
  unfolding open_all
  shut (tip a) h = cond_F (opens (subtree l (tip a))) _ _ h
  shut (branch s t) h = cond_F (opens (subtree l (branch s t))) _ _ h

  pub open_tip : (a : A) → T (opens (subtree l (tip a))) → open_all l opens (tip a) ≡ record { leaves = a ∷ []; opened = l.string a ∷ [] }
  unfolding open_all
  open_tip a h = cond_T (opens (subtree l (tip a))) _ _ h

  abbrev pub both : Tree A → Tree A → OpenedAll A
  both s t =
      record {
        leaves = (open_all l opens s).leaves ++ (open_all l opens t).leaves;
        opened = string_of l (branch s t) ∷ (open_all l opens s).opened ++ (open_all l opens t).opened;
      }

  pub open_branch : (s t : Tree A) → T (opens (subtree l (branch s t))) → open_all l opens (branch s t) ≡ both s t
  unfolding open_all
  open_branch s t h = cond_T (opens (subtree l (branch s t))) _ _ h

-- ---- an accepted walk is the defined one, or two strings collide: by induction on the tree, along the preorder

pub record AgreesAll (r : CheckedAll) (w : OpenedAll VersionLeaf) : Type 0 where
  pub leaves_are : r.leaves ≡ map leaf_of w.leaves
  pub strings-are : r.opened ≡ w.opened

abbrev pub SoundAll : List Bytes → CheckedAll → OpenedAll VersionLeaf → Type 0
SoundAll B r w = AgreesAll r w ⊎ Collision B r.opened

-- an L string was opened: where the true string has digest due, it is that string or a collision
leaf_settled : {B : List Bytes} (pos : ℕ) (x str : Bytes) (k : Subtree) (r : CheckedAll) → k.digest ≡ H str → str among B → check_leaf k pos x ≡ ok r
    → (s : Bytes) × (r ≡ opening_leaf s (pos + L_width) (drop L_width x)) × (get_or s 0 0 ≡ letter_L) × ((s ≡ str) ⊎ Collision B (s ∷ []))
unfolding check_leaf
leaf_settled {B} pos x str k r e m q =
    let o = bind_ok _ _ q in
    let t = ap (λ (d : Bytes). take_string letter_L L_width d pos x) (sym e) ∙ o.1 in (
      o.0,
      sym (ok_inj o.2),
      (taken letter_L L_width (H str) pos x o.0 (omega arith) t).starts,
      true_string {C = o.0 ∷ []} letter_L L_width pos x o.0 str (omega arith) m (Memᴰ.head refl) t,
    )

-- where no letter is due nothing is accepted
none_due_no : {X : Type 0} {r : CheckedAll} (pos : ℕ) (x : Bytes) → none_due pos x ≡ ok r → X
unfolding none_due
none_due_no pos x q = refuse≢ok (past _ _ _ _ q).1

-- an N string, and the halves that are read from it
abbrev halves : (Subtree → Bool) → (left right : Bytes → Subtree) → ℕ → Bytes → ℕ → Bytes → Result CheckedAll
halves opens left right n due pos x =
    take_string letter_N branch_width due pos x >>= λ z.
    check_all opens n (left z) (pos + branch_width) (drop branch_width x) >>= λ a.
    check_all opens n (right z) a.pos a.rest >>= λ b.
    ok (opening_both z a b)

module _ (opens : Subtree → Bool) (B : List Bytes) where
  abbrev Here : CheckedAll → Tree VersionLeaf → Type 0
  Here r t = SoundAll B r (open_all versions_layout opens t)

  nothing-here : (t : Tree VersionLeaf) (pos : ℕ) (x : Bytes) (r : CheckedAll) → T (not (opens (subtree versions_layout t)))
      → ◌≡◌ {A = Result CheckedAll} (ok (none_opened pos x)) (ok r) → Here r t
  nothing-here t pos x r h q =
      subst (λ (z : CheckedAll). Here z t) (ok_inj q)
      (subst (λ (w : OpenedAll VersionLeaf). SoundAll B (none_opened pos x) w) (sym (shut versions_layout opens t h)) (inl (record { leaves_are = refl; strings-are = refl })))

  leaf-here : (v : VersionLeaf) → VersionFits v → leaf_string v.leaf among B → (pos : ℕ) (x : Bytes) (r : CheckedAll)
      → T (opens (subtree versions_layout (tip v))) → check_leaf (subtree versions_layout (tip v)) pos x ≡ ok r → Here r (tip v)
  unfolding subtree
  leaf-here v f m pos x r h q = go (leaf_settled pos x (leaf_string v.leaf) (subtree versions_layout (tip v)) r refl m q)
    where
      go : (s : Bytes) × (r ≡ opening_leaf s (pos + L_width) (drop L_width x)) × (get_or s 0 0 ≡ letter_L) × ((s ≡ leaf_string v.leaf) ⊎ Collision B (s ∷ [])) → Here r (tip v)
      go o =
          subst (λ (z : CheckedAll). Here z (tip v)) (sym o.1)
          (subst (λ (w : OpenedAll VersionLeaf). SoundAll B (opening_leaf o.0 (pos + L_width) (drop L_width x)) w) (sym (open_tip versions_layout opens v h)) (settled o.3))
        where
          settled : (o.0 ≡ leaf_string v.leaf) ⊎ Collision B (o.0 ∷ []) → SoundAll B (opening_leaf o.0 (pos + L_width) (drop L_width x)) (record { leaves = v ∷ []; opened = leaf_string v.leaf ∷ [] })
          settled (inl e) =
              inl
              (record {
                leaves_are = ap (λ (l : Leaf). l ∷ []) (ap leaf_in e ∙ leaf_back v.leaf f);
                strings-are = ap (λ (s : Bytes). s ∷ []) e;
              })
          settled (inr c) = inr c

  -- an L string where the true string is N: a collision
  wrong_leaf : (s t : Tree VersionLeaf) → string_of versions_layout (branch s t) among B → (pos : ℕ) (x : Bytes) (r : CheckedAll)
      → check_leaf (subtree versions_layout (branch s t)) pos x ≡ ok r → Collision B r.opened
  unfolding subtree parent string_of
  wrong_leaf s t m pos x r q = go (leaf_settled pos x (string_of versions_layout (branch s t)) (subtree versions_layout (branch s t)) r refl m q)
    where
      go : (z : Bytes) × (r ≡ opening_leaf z (pos + L_width) (drop L_width x)) × (get_or z 0 0 ≡ letter_L) × ((z ≡ string_of versions_layout (branch s t)) ⊎ Collision B (z ∷ [])) → Collision B r.opened
      go o = subst (λ (z : CheckedAll). Collision B z.opened) (sym o.1) (settled o.3)
        where
          settled : (o.0 ≡ string_of versions_layout (branch s t)) ⊎ Collision B (o.0 ∷ []) → Collision B (o.0 ∷ [])
          settled (inl e) = absurd (versions_letters.differ (sym (branch-letter versions_layout s t) ∙ ap (λ (l : Bytes). get_or l 0 0) (sym e) ∙ o.2))
          settled (inr c) = c

  -- the two halves after the true string
  halves_here : (s t : Tree VersionLeaf) (str : Bytes) (a b : CheckedAll) → str ≡ string_of versions_layout (branch s t) → Here a s → Here b t
      → SoundAll B (opening_both str a b) (both versions_layout opens s t)
  halves_here s t str a b e (inr c) q = inr (collision_into (λ y m. Memᴰ.tail (Memᴰ.append_left b.opened m)) c)
  halves_here s t str a b e (inl p) (inr c) = inr (collision_into (λ y m. Memᴰ.tail (Memᴰ.append_right a.opened m)) c)
  halves_here s t str a b e (inl p) (inl q) =
      inl
      (record {
        leaves_are =
            ap₂ {C = List Leaf} (λ (x y : List Leaf). x ++ y) p.leaves_are q.leaves_are
            ∙ sym (map-append leaf_of (open_all versions_layout opens s).leaves (open_all versions_layout opens t).leaves);
        strings-are =
            ap₂ {C = List Bytes} (λ (h : Bytes) (l : List Bytes). h ∷ l) e (ap₂ {C = List Bytes} (λ (x y : List Bytes). x ++ y) p.strings-are q.strings-are);
      })

  -- at a leaf and at a branch; `other` is what comes where the keys differ
  at_tip : (v : VersionLeaf) → VersionFits v → leaf_string v.leaf among B → (pos : ℕ) (x : Bytes) (r : CheckedAll) (other : Result CheckedAll)
      → cond (opens (subtree versions_layout (tip v)))
      (cond (eqb (subtree versions_layout (tip v)).least (subtree versions_layout (tip v)).greatest) (check_leaf (subtree versions_layout (tip v)) pos x) other)
      (ok (none_opened pos x)) ≡ ok r → Here r (tip v)
  unfolding subtree
  at_tip v f m pos x r other q =
      by_test (opens (subtree versions_layout (tip v))) (λ (z : Result CheckedAll). z ≡ ok r → Here r (tip v))
      (λ h. by_test (eqb (time-key v) (time-key v)) (λ (z : Result CheckedAll). z ≡ ok r → Here r (tip v)) (λ _ k. leaf-here v f m pos x r h k)
      (λ g _. absurd (T_not (eqb (time-key v) (time-key v)) g (eqb_refl (time-key v)))))
      (λ h k. nothing-here (tip v) pos x r h k) q

  at_branch : (s t : Tree VersionLeaf) → string_of versions_layout (branch s t) among B → (pos : ℕ) (x : Bytes) (r : CheckedAll) (other : Result CheckedAll)
      → cond (opens (subtree versions_layout (branch s t)))
      (cond (eqb (subtree versions_layout (branch s t)).least (subtree versions_layout (branch s t)).greatest) (check_leaf (subtree versions_layout (branch s t)) pos x) other)
      (ok (none_opened pos x)) ≡ ok r → (other ≡ ok r → SoundAll B r (both versions_layout opens s t)) → Here r (branch s t)
  at_branch s t m pos x r other q f =
      by_test (opens (subtree versions_layout (branch s t))) (λ (z : Result CheckedAll). z ≡ ok r → Here r (branch s t))
      (λ h. by_test (eqb (subtree versions_layout (branch s t)).least (subtree versions_layout (branch s t)).greatest) (λ (z : Result CheckedAll). z ≡ ok r → Here r (branch s t))
      (λ _ k. inr (wrong_leaf s t m pos x r k))
      (λ _ k. subst (λ (w : OpenedAll VersionLeaf). SoundAll B r w) (sym (open_branch versions_layout opens s t h)) (f k)))
      (λ h k. nothing-here (branch s t) pos x r h k) q

  -- an N string, and its halves
  branch-here : (s t : Tree VersionLeaf) → string_of versions_layout (branch s t) among B → (left right : Bytes → Subtree) (n pos : ℕ) (x : Bytes) (r : CheckedAll)
      → halves opens left right n (subtree versions_layout (branch s t)).digest pos x ≡ ok r
      → left (string_of versions_layout (branch s t)) ≡ subtree versions_layout s → right (string_of versions_layout (branch s t)) ≡ subtree versions_layout t
      → ((pos : ℕ) (x : Bytes) (a : CheckedAll) → check_all opens n (subtree versions_layout s) pos x ≡ ok a → Here a s)
      → ((pos : ℕ) (x : Bytes) (b : CheckedAll) → check_all opens n (subtree versions_layout t) pos x ≡ ok b → Here b t)
      → SoundAll B r (both versions_layout opens s t)
  unfolding subtree parent string_of
  branch-here s t m left right n pos x r q left_is right_is on_left on_right =
      let o = bind_ok _ _ q in
      let a = bind_ok _ _ o.2 in
      let b = bind_ok _ _ a.2 in
      subst (λ (z : CheckedAll). SoundAll B z (both versions_layout opens s t)) (ok_inj b.2)
      (settled o.0 a.0 b.0 a.1 b.1
      (true_string {C = (opening_both o.0 a.0 b.0).opened} letter_N branch_width pos x o.0 (string_of versions_layout (branch s t)) (omega arith) m (Memᴰ.head refl) o.1))
    where
      settled : (z : Bytes) (a b : CheckedAll) → check_all opens n (left z) (pos + branch_width) (drop branch_width x) ≡ ok a → check_all opens n (right z) a.pos a.rest ≡ ok b
          → (z ≡ string_of versions_layout (branch s t)) ⊎ Collision B (opening_both z a b).opened → SoundAll B (opening_both z a b) (both versions_layout opens s t)
      settled z a b p q (inr c) = inr c
      settled z a b p q (inl e) =
          halves_here s t z a b e
          (on_left (pos + branch_width) (drop branch_width x) a (ap (λ (k : Subtree). check_all opens n k (pos + branch_width) (drop branch_width x)) (sym (ap left e ∙ left_is)) ∙ p))
          (on_right a.pos a.rest b (ap (λ (k : Subtree). check_all opens n k a.pos a.rest) (sym (ap right e ∙ right_is)) ∙ q))

  pub all_sound : (t : Tree VersionLeaf) → AllTree VersionFits t → (n pos : ℕ) (x : Bytes) (r : CheckedAll) → ((y : Bytes) → y among version-strings t → y among B)
      → check_all opens n (subtree versions_layout t) pos x ≡ ok r → Here r t
  unfolding check_all strings_of string_of
  all_sound (tip v) fits zero pos x r into q = at_tip v fits (into _ (Memᴰ.head refl)) pos x r _ q
  all_sound (tip v) fits (suc n) pos x r into q = at_tip v fits (into _ (Memᴰ.head refl)) pos x r _ q
  all_sound (branch s t) fits zero pos x r into q = at_branch s t (into _ (Memᴰ.head refl)) pos x r _ q (λ o. none_due_no pos x o)
  all_sound (branch s t) fits (suc n) pos x r into q =
      let ks = versions-known s fits.0 in
      let kt = versions-known t fits.1 in
      at_branch s t (into _ (Memᴰ.head refl)) pos x r _ q
      (λ o. branch-here s t (into _ (Memᴰ.head refl)) _ _ n pos x r o
      (left_back letter_N (subtree versions_layout s) (subtree versions_layout t) ks kt)
      (right_back letter_N (subtree versions_layout s) (subtree versions_layout t) ks kt)
      (λ p y a e. all_sound s fits.0 n p y a (λ y m. into y (Memᴰ.tail (Memᴰ.append_left (version-strings t) m))) e)
      (λ p y b e. all_sound t fits.1 n p y b (λ y m. into y (Memᴰ.tail (Memᴰ.append_right (version-strings s) m))) e))

-- ---- one induction over accepted walks: nothing opened, an L string, an N string with its two halves

module _ (opens : Subtree → Bool) (P : ℕ → ℕ → Bytes → CheckedAll → Type 0) (at_none : (n pos : ℕ) (x : Bytes) → P n pos x (none_opened pos x))
    (at_leaf : (n pos : ℕ) (x s due : Bytes) → take_string letter_L L_width due pos x ≡ ok s → P n pos x (opening_leaf s (pos + L_width) (drop L_width x)))
    (at_both : (n pos : ℕ) (x s due : Bytes) (a b : CheckedAll) → take_string letter_N branch_width due pos x ≡ ok s
    → P n (pos + branch_width) (drop branch_width x) a → P n a.pos a.rest b → P (suc n) pos x (opening_both s a b))
  where
    -- `other` is what comes where the keys differ
    by_keys : (n : ℕ) (k : Subtree) (pos : ℕ) (x : Bytes) (r : CheckedAll) (other : Result CheckedAll)
        → cond (opens k) (cond (eqb k.least k.greatest) (check_leaf k pos x) other) (ok (none_opened pos x)) ≡ ok r → (other ≡ ok r → P n pos x r) → P n pos x r
    unfolding check_leaf
    by_keys n k pos x r other q f =
        by_test (opens k) (λ (m : Result CheckedAll). m ≡ ok r → P n pos x r)
        (λ _. by_test (eqb k.least k.greatest) (λ (m : Result CheckedAll). m ≡ ok r → P n pos x r)
        (λ _ o. let l = bind_ok _ _ o in subst (P n pos x) (ok_inj l.2) (at_leaf n pos x l.0 k.digest l.1)) (λ _ o. f o))
        (λ _ o. subst (P n pos x) (ok_inj o) (at_none n pos x)) q

    by_branch : (left right : Bytes → Subtree) (n : ℕ) (due : Bytes) (pos : ℕ) (x : Bytes) (r : CheckedAll)
        → halves opens left right n due pos x ≡ ok r
        → ((k : Subtree) (pos : ℕ) (x : Bytes) (r : CheckedAll) → check_all opens n k pos x ≡ ok r → P n pos x r) → P (suc n) pos x r
    by_branch left right n due pos x r q rec =
        let c = bind_ok _ _ q in
        let a = bind_ok _ _ c.2 in
        let b = bind_ok _ _ a.2 in
        subst (P (suc n) pos x) (ok_inj b.2)
        (at_both n pos x c.0 due a.0 b.0 c.1 (rec _ (pos + branch_width) (drop branch_width x) a.0 a.1) (rec _ a.0.pos a.0.rest b.0 b.1))

    pub accepted-all : (n : ℕ) (k : Subtree) (pos : ℕ) (x : Bytes) (r : CheckedAll) → check_all opens n k pos x ≡ ok r → P n pos x r
    unfolding check_all
    accepted-all zero k pos x r q = by_keys 0 k pos x r _ q (λ o. none_due_no pos x o)
    accepted-all (suc n) k pos x r q = by_keys (suc n) k pos x r _ q (λ o. by_branch _ _ n k.digest pos x r o (λ k pos x r e. accepted-all n k pos x r e))

-- ---- the bytes: an accepted walk used up the strings that it opened

-- such a walk as the part of a proof after which it ends with e
abbrev pub ended : SearchEnd Leaf → CheckedAll → CheckedProof
ended e a = record { end = e; opened = a.opened; pos = a.pos; rest = a.rest }

module _ (e : SearchEnd Leaf) where
  both_used : (pos w : ℕ) (x s : Bytes) (a b : CheckedAll) → s ≡ take w x → w ≤ length x → Used (pos + w) (drop w x) (ended e a) → Used a.pos a.rest (ended e b)
      → Used pos x (ended e (opening_both s a b))
  both_used pos w x s a b is h u v =
      let one = used_one pos w x s (ended e a) is h u in
      let j = joined-append a.opened b.opened in
      record {
        split =
            one.split
            ∙ ap (λ (y : Bytes). (s ++ joined a.opened) ++ y) v.split
            ∙ sym (append_assoc (s ++ joined a.opened) (joined b.opened) b.rest)
            ∙ ap (λ (y : Bytes). y ++ b.rest) (append_assoc s (joined a.opened) (joined b.opened) ∙ ap (λ (y : Bytes). s ++ y) (sym j));
        moved =
            omega (
              arith,
              one.moved,
              v.moved,
              ap length j,
              length-append s (joined a.opened),
              length-append s (joined (a.opened ++ b.opened)),
              length-append (joined a.opened) (joined b.opened),
            );
      }

  pub all_used : (opens : Subtree → Bool) (n : ℕ) (k : Subtree) (pos : ℕ) (x : Bytes) (r : CheckedAll) → check_all opens n k pos x ≡ ok r → Used pos x (ended e r)
  all_used opens =
      accepted-all opens (λ n pos x r. Used pos x (ended e r)) (λ n pos x. used_none e pos x)
      (λ n pos x s due g.
      let t = taken letter_L L_width due pos x s (omega arith) g in
      used_one pos L_width x s (stopped e (pos + L_width) (drop L_width x)) t.is t.long (used_none e (pos + L_width) (drop L_width x)))
      (λ n pos x s due a b g u v. let t = taken letter_N branch_width due pos x s (omega arith) g in both_used pos branch_width x s a b t.is t.long u v)

-- ---- the defined walk is read back, in a tree with at most n branches on a path

abbrev pub reading_all : OpenedAll VersionLeaf → ℕ → Bytes → CheckedAll
reading_all w pos y = record { leaves = map leaf_of w.leaves; opened = w.opened; pos = pos + length (joined w.opened); rest = y }

reading_none : (pos : ℕ) (y : Bytes) → none_opened pos y ≡ reading_all nothing_opened pos y
reading_none pos y = λ i. record { leaves = []; opened = []; pos = sym (add-zero pos) i; rest = y }

module _ (opens : Subtree → Bool) where
  abbrev Read : Tree VersionLeaf → ℕ → ℕ → Bytes → Type 0
  Read t n pos y =
      check_all opens n (subtree versions_layout t) pos (joined (open_all versions_layout opens t).opened ++ y) ≡ ok (reading_all (open_all versions_layout opens t) pos y)

  -- nothing is opened
  all_shut : (n : ℕ) (k : Subtree) (pos : ℕ) (y : Bytes) → T (not (opens k)) → check_all opens n k pos y ≡ ok (none_opened pos y)
  unfolding check_all
  all_shut zero k pos y h = cond_F (opens k) _ _ h
  all_shut (suc n) k pos y h = cond_F (opens k) _ _ h

  read_none : (t : Tree VersionLeaf) (n pos : ℕ) (y : Bytes) → T (not (opens (subtree versions_layout t))) → Read t n pos y
  read_none t n pos y h =
      let e = shut versions_layout opens t h in
      ap (λ (w : OpenedAll VersionLeaf). check_all opens n (subtree versions_layout t) pos (joined w.opened ++ y)) e
      ∙ all_shut n (subtree versions_layout t) pos y h
      ∙ ap (λ (r : CheckedAll). ok r) (reading_none pos y)
      ∙ ap (λ (w : OpenedAll VersionLeaf). ok (reading_all w pos y)) (sym e)

  -- one L string
  leaf_at : (n : ℕ) (v : VersionLeaf) (pos : ℕ) (x : Bytes) → T (opens (subtree versions_layout (tip v)))
      → check_all opens n (subtree versions_layout (tip v)) pos x ≡ check_leaf (subtree versions_layout (tip v)) pos x
  unfolding check_all subtree
  leaf_at zero v pos x h = cond_T (opens (subtree versions_layout (tip v))) _ _ h ∙ cond_T (eqb (time-key v) (time-key v)) _ _ (eqb_refl (time-key v))
  leaf_at (suc n) v pos x h = cond_T (opens (subtree versions_layout (tip v))) _ _ h ∙ cond_T (eqb (time-key v) (time-key v)) _ _ (eqb_refl (time-key v))

  read-leaf : (v : VersionLeaf) → VersionFits v → (n pos : ℕ) (y : Bytes) → T (opens (subtree versions_layout (tip v))) → Read (tip v) n pos y
  unfolding check_leaf subtree leaf_string
  read-leaf v f n pos y h =
      let e = open_tip versions_layout opens v h in
      let str = leaf_string v.leaf in
      let w = leaf-length v.leaf f in
      let a = append-nil str in
      ap (λ (w : OpenedAll VersionLeaf). check_all opens n (subtree versions_layout (tip v)) pos (joined w.opened ++ y)) e
      ∙ leaf_at n v pos ((str ++ []) ++ y) h
      ∙ ap (check_leaf (subtree versions_layout (tip v)) pos) (ap (λ (z : Bytes). z ++ y) a)
      ∙ bind_eq _ (λ s. ok (opening_leaf s (pos + L_width) (drop L_width (str ++ y)))) str (take-ok letter_L L_width pos str y (omega arith) refl w)
      ∙ (λ i. ok (record { leaves = leaf_back v.leaf f i ∷ []; opened = str ∷ []; pos = pos + (sym w ∙ ap length (sym a)) i; rest = drop_at str y L_width w i }))
      ∙ ap (λ (w : OpenedAll VersionLeaf). ok (reading_all w pos y)) (sym e)

  -- one N string, and its halves
  read-branch : (s t : Tree VersionLeaf) → AllTree VersionFits s → AllTree VersionFits t → Up time-key (flat s ++ flat t) → (n pos : ℕ) (y : Bytes)
      → T (opens (subtree versions_layout (branch s t))) → ((p : ℕ) (z : Bytes) → Read s n p z) → ((p : ℕ) (z : Bytes) → Read t n p z) → Read (branch s t) (suc n) pos y
  unfolding check_all subtree parent string_of branch_string
  read-branch s t fs ft u n pos y h on_left on_right =
      let e = open_branch versions_layout opens s t h in
      let g = greatest_in versions_layout t in
      let z = least_in versions_layout s in
      let lt : (subtree versions_layout s).least < (subtree versions_layout t).greatest = omega (arith, up_cross time-key (flat s) (flat t) u z.0 z.1 g.0 g.1, g.2, z.2) in
      ap (λ (w : OpenedAll VersionLeaf). check_all opens (suc n) (subtree versions_layout (branch s t)) pos (joined w.opened ++ y)) e
      ∙ cond_T (opens (subtree versions_layout (branch s t))) _ _ h
      ∙ cond_F (eqb (subtree versions_layout s).least (subtree versions_layout t).greatest) _ _ (not_equal (subtree versions_layout s).least (subtree versions_layout t).greatest lt)
      ∙ bind_eq _ after-string str (ap (take_string letter_N branch_width (H str) pos) laid ∙ take-ok letter_N branch_width pos str (jl ++ (jr ++ y)) (omega arith) (branch-letter versions_layout s t) width)
      ∙ bind_eq _ after-left first
      (ap₂ (λ (k : Subtree) (x : Bytes). check_all opens n k (pos + branch_width) x) (left_back letter_N (subtree versions_layout s) (subtree versions_layout t) ks kt) (ap (drop branch_width) laid ∙ drop_at str (jl ++ (jr ++ y)) branch_width width)
      ∙ on_left (pos + branch_width) (jr ++ y))
      ∙ bind_eq _ (λ b. ok (opening_both str first b)) second
      (ap (λ (k : Subtree). check_all opens n k first.pos (jr ++ y)) (right_back letter_N (subtree versions_layout s) (subtree versions_layout t) ks kt)
      ∙ on_right first.pos y)
      ∙ (λ i. ok (record { leaves = sym (map-append leaf_of ol.leaves or.leaves) i; opened = str ∷ ol.opened ++ or.opened; pos = places i; rest = y }))
      ∙ ap (λ (w : OpenedAll VersionLeaf). ok (reading_all w pos y)) (sym e)
    where
      ks : Known (subtree versions_layout s)
      ks = versions-known s fs

      kt : Known (subtree versions_layout t)
      kt = versions-known t ft

      str : Bytes
      str = string_of versions_layout (branch s t)

      ol : OpenedAll VersionLeaf
      ol = open_all versions_layout opens s

      or : OpenedAll VersionLeaf
      or = open_all versions_layout opens t

      jl : Bytes
      jl = joined ol.opened

      jr : Bytes
      jr = joined or.opened

      width : length str ≡ branch_width
      width = wide_branch versions_layout s t (version_keys s fs) (version_keys t ft)

      laid : (str ++ joined (ol.opened ++ or.opened)) ++ y ≡ str ++ (jl ++ (jr ++ y))
      laid =
          append_assoc str (joined (ol.opened ++ or.opened)) y
          ∙ ap (λ (z : Bytes). str ++ z) (ap (λ (z : Bytes). z ++ y) (joined-append ol.opened or.opened) ∙ append_assoc jl jr y)

      first : CheckedAll
      first = reading_all ol (pos + branch_width) (jr ++ y)

      second : CheckedAll
      second = reading_all or first.pos y

      after-left : CheckedAll → Result CheckedAll
      after-left a = check_all opens n (subtree_in str 49) a.pos a.rest >>= λ b. ok (opening_both str a b)

      after-string : Bytes → Result CheckedAll
      after-string z =
          check_all opens n (subtree_in z 1) (pos + branch_width) (drop branch_width ((str ++ joined (ol.opened ++ or.opened)) ++ y)) >>= λ a.
          check_all opens n (subtree_in z 49) a.pos a.rest >>= λ b.
          ok (opening_both z a b)

      places : second.pos ≡ pos + length (str ++ joined (ol.opened ++ or.opened))
      places =
          omega (
            arith,
            length-append str (joined (ol.opened ++ or.opened)),
            ap length (joined-append ol.opened or.opened),
            length-append jl jr,
            width,
          )

  pub all_read : (t : Tree VersionLeaf) → AllTree VersionFits t → Up time-key (flat t) → (n : ℕ) → Shallow n t → (pos : ℕ) (y : Bytes) → Read t n pos y
  all_read (tip v) fits u n d pos y = go (test (opens (subtree versions_layout (tip v))))
    where
      go : T (opens (subtree versions_layout (tip v))) ⊎ T (not (opens (subtree versions_layout (tip v)))) → Read (tip v) n pos y
      go (inl h) = read-leaf v fits n pos y h
      go (inr h) = read_none (tip v) n pos y h
  all_read (branch s t) fits u zero d pos y = absurd d
  all_read (branch s t) fits u (suc n) d pos y =
      go (test (opens (subtree versions_layout (branch s t))))
      (λ p z. all_read s fits.0 (up_left time-key (flat s) (flat t) u) n d.0 p z)
      (λ p z. all_read t fits.1 (up_right time-key (flat s) (flat t) u) n d.1 p z)
    where
      go : T (opens (subtree versions_layout (branch s t))) ⊎ T (not (opens (subtree versions_layout (branch s t)))) → ((p : ℕ) (z : Bytes) → Read s n p z) → ((p : ℕ) (z : Bytes) → Read t n p z) → Read (branch s t) (suc n) pos y
      go (inl h) l r = read-branch s t fits.0 fits.1 u n pos y h l r
      go (inr h) l r = read_none (branch s t) (suc n) pos y h

  -- a walk opens no more strings than bytes
  pub all_short : (t : Tree VersionLeaf) → AllTree VersionFits t → length (open_all versions_layout opens t).opened ≤ length (joined (open_all versions_layout opens t).opened)
  unfolding open_all
  all_short (tip v) f =
      by_test (opens (subtree versions_layout (tip v))) (λ (w : OpenedAll VersionLeaf). length w.opened ≤ length (joined w.opened))
      (λ _. omega (arith, length-append (leaf_string v.leaf) [], leaf-length v.leaf f)) (λ _. omega arith)
  all_short (branch s t) f =
      by_test (opens (subtree versions_layout (branch s t))) (λ (w : OpenedAll VersionLeaf). length w.opened ≤ length (joined w.opened))
      (λ _.
      omega (
        arith,
        all_short s f.0,
        all_short t f.1,
        length-append (open_all versions_layout opens s).opened (open_all versions_layout opens t).opened,
        ap length (joined-append (open_all versions_layout opens s).opened (open_all versions_layout opens t).opened),
        length-append (joined (open_all versions_layout opens s).opened) (joined (open_all versions_layout opens t).opened),
        length-append (string_of versions_layout (branch s t)) (joined ((open_all versions_layout opens s).opened ++ (open_all versions_layout opens t).opened)),
        wide_branch versions_layout s t (version_keys s f.0) (version_keys t f.1),
      ))
      (λ _. omega arith)

-- ---- the leaves opened are those between the two times, by rising time

module _ (p : SpanQuestion) where
  abbrev Between : VersionLeaf → Type 0
  Between v = (p.from ≤ time-key v) × (time-key v ≤ p.to)

  -- a version between the times makes the rule open every subtree that it is in
  opens_over : (t : Tree VersionLeaf) → Up time-key (flat t) → (v : VersionLeaf) → v among flat t → Between v → T (within p (subtree versions_layout t))
  unfolding within
  opens_over t u v m b =
      let l = least_le versions_layout t u v m in
      let g = greatest_ge versions_layout t u v m in
      let b0 = b.0 in
      let b1 = b.1 in
      T_and (leb (subtree versions_layout t).least p.to) (leb p.from (subtree versions_layout t).greatest)
      (le→leb (subtree versions_layout t).least p.to (omega arith)) (le→leb p.from (subtree versions_layout t).greatest (omega arith))

  opened_between : (v : VersionLeaf) → T (within p (subtree versions_layout (tip v))) → Between v
  unfolding within subtree
  opened_between v h = let k = and_T (leb (time-key v) p.to) (leb p.from (time-key v)) h in (leb→le p.from (time-key v) k.1, leb→le (time-key v) p.to k.0)

  pub record Listed (all opened : List VersionLeaf) : Type 0 where
    pub rises : Up time-key opened
    pub from_all : (v : VersionLeaf) → v among opened → (v among all) × Between v
    pub takes : (v : VersionLeaf) → v among all → Between v → v among opened

  pub span_true : (t : Tree VersionLeaf) → Up time-key (flat t) → Listed (flat t) (open_all versions_layout (within p) t).leaves
  unfolding open_all
  span_true (tip v) u =
      by_test (within p (subtree versions_layout (tip v))) (λ (w : OpenedAll VersionLeaf). Listed (v ∷ []) w.leaves)
      (λ h. record { rises = u; from_all = λ x m. (m, subst Between (sym (Memᴰ.eq_of_singleton m)) (opened_between v h)); takes = λ x m b. m })
      (λ h. record { rises = Up.none; from_all = λ x m. absurd (Memᴰ.not-nil m); takes = λ x m b. absurd (T_not (within p (subtree versions_layout (tip v))) h (opens_over (tip v) u x m b)) })
  span_true (branch s t) u =
      by_test (within p (subtree versions_layout (branch s t))) (λ (w : OpenedAll VersionLeaf). Listed (flat s ++ flat t) w.leaves)
      (λ h. joined-lists (span_true s (up_left time-key (flat s) (flat t) u)) (span_true t (up_right time-key (flat s) (flat t) u)))
      (λ h. record { rises = Up.none; from_all = λ x m. absurd (Memᴰ.not-nil m); takes = λ x m b. absurd (T_not (within p (subtree versions_layout (branch s t))) h (opens_over (branch s t) u x m b)) })
    where
      joined-lists : {a b : List VersionLeaf} → Listed (flat s) a → Listed (flat t) b → Listed (flat s ++ flat t) (a ++ b)
      joined-lists {a} {b} x y =
          record {
            rises = up-append time-key b x.rises y.rises (λ v m w k. up_cross time-key (flat s) (flat t) u v (x.from_all v m).0 w (y.from_all w k).0);
            from_all = λ v m. of v (Memᴰ.append_cases a m);
            takes = λ v m q. to v q (Memᴰ.append_cases (flat s) m);
          }
        where
          of : (v : VersionLeaf) → (v among a) ⊎ (v among b) → (v among flat s ++ flat t) × Between v
          of v (inl m) = let r = x.from_all v m in (Memᴰ.append_left (flat t) r.0, r.1)
          of v (inr m) = let r = y.from_all v m in (Memᴰ.append_right (flat s) r.0, r.1)

          to : (v : VersionLeaf) → Between v → (v among flat s) ⊎ (v among flat t) → v among a ++ b
          to v q (inl m) = Memᴰ.append_left b (x.takes v m q)
          to v q (inr m) = Memᴰ.append_right a (y.takes v m q)

-- ---- how many leaves: n branches on a path leave at most 2 ^ n

pub all-few : (opens : Subtree → Bool) (n : ℕ) (k : Subtree) (pos : ℕ) (x : Bytes) (r : CheckedAll) → check_all opens n k pos x ≡ ok r → length r.leaves ≤ 2 ^ n
all-few opens =
    accepted-all opens (λ n pos x r. length r.leaves ≤ 2 ^ n) (λ n pos x. omega arith) (λ n pos x s due e. pow_pos n)
    (λ n pos x s due a b e l m. omega (arith, length-append a.leaves b.leaves, two-pow-succ n))

pub few-listed : (opens : Subtree → Bool) (k : Subtree) (pos : ℕ) (x : Bytes) (r : CheckedAll) → check_all opens path_limit k pos x ≡ ok r → length r.leaves ≤ 65536
few-listed opens k pos x r e = all-few opens path_limit k pos x r e

-- ---- the bytes of names

pub name-length : (v : VersionName) → length (name_string v) ≡ name_width
unfolding name_string
name-length v = joined_length (num 4 v.entity (num 8 v.time none))

pub names-length : (vs : List VersionName) → length (joined (map name_string vs)) ≡ name_width * length vs
names-length [] = refl
names-length (v ∷ vs) = omega (arith, length-append (name_string v) (joined (map name_string vs)), name-length v, names-length vs)
