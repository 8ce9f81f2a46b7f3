-- The proof part: an opened string with the digest due is the true string or collides with it, so the check's walk is the defined one. One
-- proof over the tree: its layout, its descent and what follows its leaves. Assumes nothing.
use mathlib.Core.Path.{◌≡◌, refl, sym, ap, ap₂, ◌∙◌, subst}
use mathlib.Core.Logic.{◌⊎◌, inl, inr}
use Prim.Native.Nat.{ℕ, zero, suc, ◌+◌, ◌^◌, ◌<◌, ◌≤◌}
use native.Mathlib.Omega.{arith}
use mathlib.Core.Bool.{not, cond}
use mathlib.Core.List.Memᴰ
use mathlib.Core.List.{List, [], ◌∷◌, ◌++◌, map, append_assoc, append-nil}
use lib.ListN.{length, take, drop, get_or, take-append-drop, length-append}
use lib.Seq.{get_or-take, length-take-le}
use lib.Dec.{T, leb, eqb, eqb→eq, eqb_refl, leb→le, T_not}
use Rattle.fields.specs.Fields.{encode, decode, part, field}
use Rattle.fields.proofs.Numbers.{decode-encode}
use Rattle.fields.proofs.Places.{equal_true}
use Rattle.model.specs.Result.{Result, ok, ◌>>=◌}
use Rattle.model.specs.Numbers.{Bytes, EntityKey, entity_width, time_width, digest_width, key_width, H, joined}
use Rattle.model.specs.Accumulator.{branch_width, Subtree, branch_string, parent, Tree, tip, branch, Layout, subtree, string_of, strings_of, Leaf, leaf_string, VersionLeaf, versions_layout, group_string, Group, entities_layout, Header, root_string}
use Rattle.model.specs.Question.{Relation, SearchEnd, Descent, by_time, Opened, stop, after, open_tree, open_versions}
use Rattle.model.specs.CheckRows.{take_string, CheckedProof, stopped, opening, subtree_in, chosen, leaf_in, check_tree, check_versions}
use Rattle.model.specs.Exact.{Collision}
use Rattle.model.proofs.Outcomes.{refuse≢ok, ok_inj, bind_ok, past, by_test, test, cond_T, cond_F}
use Rattle.model.proofs.Strings.{H-length, Wide, none, num, text, sum, part-joined}
use Rattle.model.proofs.Lists.{◌among◌}
use Rattle.model.proofs.Trees.{AllTree}
use Rattle.model.proofs.Match.{settle}

-- ---- what an accepted string is

pub record Taken (letter width : ℕ) (due x s : Bytes) : Type 0 where
  pub starts : get_or s 0 0 ≡ letter
  pub long : width ≤ length x
  pub hashes : H s ≡ due
  pub is : s ≡ take width x

pub taken : (letter w : ℕ) (due : Bytes) (pos : ℕ) (x s : Bytes) → 0 < w → take_string letter w due pos x ≡ ok s → Taken letter w due x s
unfolding take_string
taken letter w due pos x s p e =
    let a = past _ _ _ _ e in
    let b = past _ _ _ _ a.1 in
    let c = past _ _ _ _ b.1 in
    let d = past _ _ _ _ c.1 in
    let is : take w x ≡ s = ok_inj d.1 in
    record {
      starts = ap (λ (l : Bytes). get_or l 0 0) (sym is) ∙ get_or-take w x 0 0 p ∙ eqb→eq (get_or x 0 0) letter b.0;
      long = leb→le w (length x) c.0;
      hashes = ap H (sym is) ∙ equal_true (H (take w x)) due d.0;
      is = sym is;
    }

-- a string that was opened is the true one, or a collision
pub true_string : {B C : List Bytes} (letter w pos : ℕ) (x s str : Bytes) → 0 < w → str among B → s among C → take_string letter w (H str) pos x ≡ ok s → (s ≡ str) ⊎ Collision B C
true_string letter w pos x s str p m k e = settle str s m k (taken letter w (H str) pos x s p e).hashes

-- ---- strings read back

-- a subtree is known by two keys that fit and a digest of 32 bytes
pub record Known (k : Subtree) : Type 0 where
  pub least_fits : k.least < 256 ^ key_width
  pub greatest-fits : k.greatest < 256 ^ key_width
  pub digest_wide : length k.digest ≡ digest_width

-- where its three parts stand, so it is read
read-subtree : (k : Subtree) → Known k → (s : Bytes) (at : ℕ) → part s at key_width ≡ encode key_width k.least → part s (at + key_width) key_width ≡ encode key_width k.greatest
    → part s (at + key_width + key_width) digest_width ≡ k.digest → subtree_in s at ≡ k
unfolding subtree_in field
read-subtree k h s at a b c =
    λ i.
    record {
      least = (ap decode a ∙ decode-encode key_width k.least h.least_fits) i;
      greatest = (ap decode b ∙ decode-encode key_width k.greatest h.greatest-fits) i;
      digest = c i;
    }

branch_wide : (letter : ℕ) (l r : Subtree) → Known l → Known r
    → Wide (1 ∷ 8 ∷ 8 ∷ 32 ∷ 8 ∷ 8 ∷ 32 ∷ [])
    ((letter ∷ []) ∷ encode 8 l.least ∷ encode 8 l.greatest ∷ l.digest ∷ encode 8 r.least ∷ encode 8 r.greatest ∷ r.digest ∷ [])
branch_wide letter l r hl hr =
    text 1 (letter ∷ []) refl
    (num 8 l.least (num 8 l.greatest (text 32 l.digest hl.digest_wide (num 8 r.least (num 8 r.greatest (text 32 r.digest hr.digest_wide none))))))

-- what stands at the k-th field of a string
pub at_field : {ws : List ℕ} {fs : List Bytes} → Wide ws fs → (k : ℕ) → T (leb (suc k) (length ws)) → part (joined fs) (sum (take k ws)) (get_or ws k 0) ≡ get_or fs k []
at_field {ws} {fs} w k h =
    ap (λ (s : Bytes). part s (sum (take k ws)) (get_or ws k 0)) (sym (append-nil (joined fs)))
    ∙ part-joined w [] k (leb→le (suc k) (length ws) h)

pub left_back : (letter : ℕ) (l r : Subtree) → Known l → Known r → subtree_in (branch_string letter l r) 1 ≡ l
unfolding branch_string
left_back letter l r hl hr =
    let w = branch_wide letter l r hl hr in
    read-subtree l hl (branch_string letter l r) 1 (at_field w 1 tt) (at_field w 2 tt) (at_field w 3 tt)

pub right_back : (letter : ℕ) (l r : Subtree) → Known l → Known r → subtree_in (branch_string letter l r) 49 ≡ r
unfolding branch_string
right_back letter l r hl hr =
    let w = branch_wide letter l r hl hr in
    read-subtree r hr (branch_string letter l r) 49 (at_field w 4 tt) (at_field w 5 tt) (at_field w 6 tt)

pub group_back : (e : EntityKey) (k : Subtree) → Known k → subtree_in (group_string e k) 9 ≡ k
unfolding group_string
group_back e k h =
    let w = text 1 (0x47 ∷ []) refl (num 8 e (num 8 k.least (num 8 k.greatest (text 32 k.digest h.digest_wide none)))) in
    read-subtree k h (group_string e k) 9 (at_field w 2 tt) (at_field w 3 tt) (at_field w 4 tt)

pub root_back : (h : Header) (n : ℕ) (k : Subtree) → Known k → subtree_in (root_string h n k) 17 ≡ k
unfolding root_string
root_back h n k f =
    let w = text 1 (h.letter ∷ []) refl
    (num 4 n (num 4 h.records (num 8 h.last (num 8 k.least (num 8 k.greatest (text 32 k.digest f.digest_wide none)))))) in
    read-subtree k f (root_string h n k) 17 (at_field w 4 tt) (at_field w 5 tt) (at_field w 6 tt)

pub record LeafFits (l : Leaf) : Type 0 where
  pub entity-fits : l.entity < 256 ^ entity_width
  pub time-fits : l.time < 256 ^ time_width
  pub incoming_wide : length l.incoming ≡ digest_width
  pub outgoing_wide : length l.outgoing ≡ digest_width

pub leaf_back : (l : Leaf) → LeafFits l → leaf_in (leaf_string l) ≡ l
unfolding leaf_string leaf_in field
leaf_back l h =
    let w = text 1 (0x4c ∷ []) refl (num 4 l.entity (num 8 l.time (text 32 l.incoming h.incoming_wide (text 32 l.outgoing h.outgoing_wide none)))) in
    λ i.
    record {
      entity = (ap decode (at_field w 1 tt) ∙ decode-encode 4 l.entity h.entity-fits) i;
      time = (ap decode (at_field w 2 tt) ∙ decode-encode 8 l.time h.time-fits) i;
      incoming = at_field w 3 tt i;
      outgoing = at_field w 4 tt i;
    }

-- ---- the end of a walk, as the check sees it

abbrev pub leaf_of : VersionLeaf → Leaf
leaf_of v = v.leaf

abbrev pub seen : SearchEnd VersionLeaf → SearchEnd Leaf
seen (SearchEnd.not_found s) = SearchEnd.not_found s
seen (SearchEnd.found v) = SearchEnd.found v.leaf
seen (SearchEnd.listed vs) = SearchEnd.listed (map leaf_of vs)

pub record Agrees (r : CheckedProof) (w : Opened) : Type 0 where
  pub ends : r.end ≡ seen w.end
  pub opens : r.opened ≡ w.opened

abbrev pub Sound : List Bytes → CheckedProof → Opened → Type 0
Sound B r w = Agrees r w ⊎ Collision B r.opened

collision_more : {B C : List Bytes} (s : Bytes) → Collision B C → Collision B (s ∷ C)
collision_more s c = record { x = c.x; y = c.y; x_built = c.x_built; y_checked = Memᴰ.tail c.y_checked; differ = c.differ; one_hash = c.one_hash }

-- one string opened before a walk
sound-after : {B : List Bytes} (s str : Bytes) (r : CheckedProof) (w : Opened) → (s ≡ str) → Sound B r w → Sound B (opening s r) (after str w)
sound-after s str r w p (inl a) = inl (record { ends = a.ends; opens = ap₂ {C = List Bytes} (λ (h : Bytes) (l : List Bytes). h ∷ l) p a.opens })
sound-after s str r w p (inr c) = inr (collision_more s c)

-- a string, and a walk that is sound if the string is the true one
pub sound-string : {B : List Bytes} (letter w pos : ℕ) (x str : Bytes) (g : Bytes → Result CheckedProof) (v : Opened) (r : CheckedProof) → 0 < w → str among B
    → ((r' : CheckedProof) → g str ≡ ok r' → Sound B r' v)
    → (take_string letter w (H str) pos x >>= λ s. g s >>= λ r. ok (opening s r)) ≡ ok r → Sound B r (after str v)
sound-string {B} letter w pos x str g v r p m f q = go (bind_ok _ _ q)
  where
    settled : (s : Bytes) (r' : CheckedProof) → (s ≡ str) ⊎ Collision B (opening s r').opened → g s ≡ ok r' → Sound B (opening s r') (after str v)
    settled s r' (inr c) e = inr c
    settled s r' (inl k) e = sound-after s str r' v k (f r' (ap g (sym k) ∙ e))

    go : (s : Bytes) × (take_string letter w (H str) pos x ≡ ok s) × ((g s >>= λ r. ok (opening s r)) ≡ ok r) → Sound B r (after str v)
    go o =
        let k = bind_ok _ _ o.2 in
        subst (λ (z : CheckedProof). Sound B z (after str v)) (ok_inj k.2)
        (settled o.0 k.0 (true_string {C = (opening o.0 k.0).opened} letter w pos x o.0 str p m (Memᴰ.head refl) o.1) k.1)

-- a string of another letter than the true one's was opened: a collision, whatever comes after
wrong_letter : {B : List Bytes} (letter w pos : ℕ) (x str : Bytes) (g : Bytes → Result CheckedProof) (r : CheckedProof) → 0 < w → (get_or str 0 0 ≡ letter → ⊥) → str among B
    → (take_string letter w (H str) pos x >>= λ s. g s >>= λ r. ok (opening s r)) ≡ ok r → Collision B r.opened
wrong_letter {B} letter w pos x str g r p ne m q = go (bind_ok _ _ q)
  where
    go : (s : Bytes) × (take_string letter w (H str) pos x ≡ ok s) × ((g s >>= λ r. ok (opening s r)) ≡ ok r) → Collision B r.opened
    go o =
        let k = bind_ok _ _ o.2 in
        subst (λ (z : CheckedProof). Collision B z.opened) (ok_inj k.2)
        (settled (true_string {C = (opening o.0 k.0).opened} letter w pos x o.0 str p m (Memᴰ.head refl) o.1))
      where
        settled : {C : List Bytes} → (o.0 ≡ str) ⊎ Collision B C → Collision B C
        settled (inl e) = absurd (ne (ap (λ (l : Bytes). get_or l 0 0) (sym e) ∙ (taken letter w (H str) pos x o.0 p o.1).starts))
        settled (inr c) = c

-- ---- a layout whose strings are what they should be

pub record Letters {A : Type 0} (l : Layout A) : Type 0 where
  pub starts : (a : A) → get_or (l.string a) 0 0 ≡ l.leaf_letter
  pub differ : l.inner_letter ≡ l.leaf_letter → ⊥
  pub wide : 0 < l.leaf_width

pub versions_letters : Letters versions_layout
unfolding leaf_string
versions_letters = record { starts = λ a. refl; differ = λ e. omega arith; wide = omega arith }

pub entities_letters : Letters entities_layout
unfolding group_string
entities_letters = record { starts = λ a. refl; differ = λ e. omega arith; wide = omega arith }

abbrev pub KeysFit : {A : Type 0} → Layout A → Tree A → Type 0
KeysFit l t = AllTree (λ (a : _). l.key a < 256 ^ key_width) t

module _ {A : Type 0} (l : Layout A) where
  pub branch-letter : (s t : Tree A) → get_or (string_of l (branch s t)) 0 0 ≡ l.inner_letter
  unfolding string_of branch_string
  branch-letter s t = refl

  pub known : (t : Tree A) → KeysFit l t → Known (subtree l t)
  unfolding subtree parent
  known (tip a) h = record { least_fits = h; greatest-fits = h; digest_wide = H-length (l.string a) }
  known (branch s t) h =
      let a = known s h.0 in
      let b = known t h.1 in
      record { least_fits = a.least_fits; greatest-fits = b.greatest-fits; digest_wide = H-length (branch_string l.inner_letter (subtree l s) (subtree l t)) }

  -- a subtree by its halves, as code computes it
  pub subtree-tip : (a : A) → subtree l (tip a) ≡ record { least = l.key a; greatest = l.key a; digest = H (l.string a) }
  unfolding subtree
  subtree-tip a = refl

  pub subtree-branch : (s t : Tree A) → subtree l (branch s t) ≡ parent l.inner_letter (subtree l s) (subtree l t)
  unfolding subtree
  subtree-branch s t = refl

  -- "its digest is H of its string"
  pub digest-of : (t : Tree A) → (subtree l t).digest ≡ H (string_of l t)
  unfolding subtree parent string_of
  digest-of (tip a) = refl
  digest-of (branch s t) = refl

  -- where a descent goes on after a branch's true string
  pub chosen_is : (d : Descent) (s t : Tree A) → KeysFit l s → KeysFit l t
      → chosen d (string_of l (branch s t)) ≡ cond (d.goes_left (subtree l s) (subtree l t)) (subtree l s) (subtree l t)
  unfolding string_of
  chosen_is d s t hs ht =
      let a = left_back l.inner_letter (subtree l s) (subtree l t) (known s hs) (known t ht) in
      let b = right_back l.inner_letter (subtree l s) (subtree l t) (known s hs) (known t ht) in
      ap₂ (λ (x y : Subtree). cond (d.goes_left x y) x y) a b

-- ---- the defined walk at a tree

module _ {A : Type 0} (l : Layout A) (d : Descent) (inside : A → Opened) where
  pub stopped_at : (t : Tree A) → T (d.stops (subtree l t)) → open_tree l d inside t ≡ stop (SearchEnd.not_found (d.stop_at (subtree l t)))
  unfolding open_tree
  stopped_at (tip a) h = cond_T (d.stops (subtree l (tip a))) _ _ h
  stopped_at (branch s t) h = cond_T (d.stops (subtree l (branch s t))) _ _ h

  pub opened-tip : (a : A) → T (not (d.stops (subtree l (tip a)))) → open_tree l d inside (tip a) ≡ after (l.string a) (inside a)
  unfolding open_tree
  opened-tip a h = cond_F (d.stops (subtree l (tip a))) _ _ h

  pub opened-branch : (s t : Tree A) → T (not (d.stops (subtree l (branch s t))))
      → open_tree l d inside (branch s t)
      ≡ after (string_of l (branch s t)) (cond (d.goes_left (subtree l s) (subtree l t)) (open_tree l d inside s) (open_tree l d inside t))
  unfolding open_tree
  opened-branch s t h = cond_F (d.stops (subtree l (branch s t))) _ _ h

-- ---- the check's walk in a tree is the defined one, or two strings collide: by induction on the tree

-- what follows a leaf's string is sound
abbrev pub Follows : {A : Type 0} → Layout A → (A → Opened) → (Bytes → ℕ → ℕ → Bytes → Result CheckedProof) → List Bytes → A → Type 0
Follows l inside after-leaf B a = (f pos : ℕ) (x : Bytes) (r : CheckedProof) → after-leaf (l.string a) f pos x ≡ ok r → Sound B r (inside a)

module _ {A : Type 0} (l : Layout A) (letters : Letters l) (d : Descent)
    (inside : A → Opened) (after-leaf : Bytes → ℕ → ℕ → Bytes → Result CheckedProof) (inside-strings : A → List Bytes) (B : List Bytes)
  where
    stops : (t : Tree A) (pos : ℕ) (x : Bytes) (r : CheckedProof) → T (d.stops (subtree l t)) → ◌≡◌ {A = Result CheckedProof} (ok (stopped (SearchEnd.not_found (d.stop_at (subtree l t))) pos x)) (ok r) → Sound B r (open_tree l d inside t)
    stops t pos x r h q =
        subst (λ (z : CheckedProof). Sound B z (open_tree l d inside t)) (ok_inj q)
        (subst (λ (w : Opened). Sound B (stopped (SearchEnd.not_found (d.stop_at (subtree l t))) pos x) w) (sym (stopped_at l d inside t h)) (inl (record { ends = refl; opens = refl })))

    -- the half that the walk goes to
    half : (f pos : ℕ) (x : Bytes) (s t : Tree A) (r : CheckedProof)
        → (check_tree l d after-leaf f (subtree l s) pos x ≡ ok r → Sound B r (open_tree l d inside s))
        → (check_tree l d after-leaf f (subtree l t) pos x ≡ ok r → Sound B r (open_tree l d inside t))
        → check_tree l d after-leaf f (cond (d.goes_left (subtree l s) (subtree l t)) (subtree l s) (subtree l t)) pos x ≡ ok r
        → Sound B r (cond (d.goes_left (subtree l s) (subtree l t)) (open_tree l d inside s) (open_tree l d inside t))
    half f pos x s t r on_left on_right q = go (test (d.goes_left (subtree l s) (subtree l t)))
      where
        go : T (d.goes_left (subtree l s) (subtree l t)) ⊎ T (not (d.goes_left (subtree l s) (subtree l t)))
            → Sound B r (cond (d.goes_left (subtree l s) (subtree l t)) (open_tree l d inside s) (open_tree l d inside t))
        go (inl g) =
            subst (λ (w : Opened). Sound B r w) (sym (cond_T (d.goes_left (subtree l s) (subtree l t)) (open_tree l d inside s) (open_tree l d inside t) g))
            (on_left (ap (λ (k : Subtree). check_tree l d after-leaf f k pos x) (sym (cond_T (d.goes_left (subtree l s) (subtree l t)) (subtree l s) (subtree l t) g)) ∙ q))
        go (inr g) =
            subst (λ (w : Opened). Sound B r w) (sym (cond_F (d.goes_left (subtree l s) (subtree l t)) (open_tree l d inside s) (open_tree l d inside t) g))
            (on_right (ap (λ (k : Subtree). check_tree l d after-leaf f k pos x) (sym (cond_F (d.goes_left (subtree l s) (subtree l t)) (subtree l s) (subtree l t) g)) ∙ q))

    pub tree-sound : (t : Tree A) → AllTree (Follows l inside after-leaf B) t → KeysFit l t → (f pos : ℕ) (x : Bytes) (r : CheckedProof)
        → ((y : Bytes) → y among strings_of l inside-strings t → y among B)
        → check_tree l d after-leaf f (subtree l t) pos x ≡ ok r → Sound B r (open_tree l d inside t)
    unfolding check_tree strings_of subtree parent string_of
    tree-sound t follows fits zero pos x r into q =
        by_test (d.stops (subtree l t)) (λ (m : Result CheckedProof). m ≡ ok r → Sound B r (open_tree l d inside t))
        (λ h k. stops t pos x r h k) (λ h k. refuse≢ok k) q
    tree-sound (tip a) follows fits (suc f) pos x r into q =
        by_test (d.stops (subtree l (tip a))) (λ (m : Result CheckedProof). m ≡ ok r → Sound B r (open_tree l d inside (tip a)))
        (λ h k. stops (tip a) pos x r h k)
        (λ h. by_test (eqb (l.key a) (l.key a)) (λ (m : Result CheckedProof). m ≡ ok r → Sound B r (open_tree l d inside (tip a)))
        (λ _ k.
        subst (λ (w : Opened). Sound B r w) (sym (opened-tip l d inside a h))
        (sound-string l.leaf_letter l.leaf_width pos x (l.string a) (λ s. after-leaf s f (pos + l.leaf_width) (drop l.leaf_width x)) (inside a) r letters.wide
        (into _ (Memᴰ.head refl)) (λ r' o. follows f (pos + l.leaf_width) (drop l.leaf_width x) r' o) k))
        (λ g _. absurd (T_not (eqb (l.key a) (l.key a)) g (eqb_refl (l.key a)))))
        q
    tree-sound (branch s t) follows fits (suc f) pos x r into q =
        by_test (d.stops (subtree l (branch s t))) (λ (m : Result CheckedProof). m ≡ ok r → Sound B r (open_tree l d inside (branch s t)))
        (λ h k. stops (branch s t) pos x r h k)
        (λ h. by_test (eqb (subtree l s).least (subtree l t).greatest) (λ (m : Result CheckedProof). m ≡ ok r → Sound B r (open_tree l d inside (branch s t)))
        (λ _ k.
        inr (wrong_letter l.leaf_letter l.leaf_width pos x (string_of l (branch s t)) (λ s. after-leaf s f (pos + l.leaf_width) (drop l.leaf_width x)) r letters.wide
        (λ z. letters.differ (sym (branch-letter l s t) ∙ z)) (into _ (Memᴰ.head refl)) k))
        (λ _ k.
        subst (λ (w : Opened). Sound B r w) (sym (opened-branch l d inside s t h))
        (sound-string l.inner_letter branch_width pos x (string_of l (branch s t))
        (λ y. check_tree l d after-leaf f (chosen d y) (pos + branch_width) (drop branch_width x)) _ r (omega arith) (into _ (Memᴰ.head refl))
        (λ r' o.
        half f (pos + branch_width) (drop branch_width x) s t r'
        (tree-sound s follows.0 fits.0 f (pos + branch_width) (drop branch_width x) r' (λ y m. into y (Memᴰ.tail (Memᴰ.append_left (strings_of l inside-strings t) m))))
        (tree-sound t follows.1 fits.1 f (pos + branch_width) (drop branch_width x) r' (λ y m. into y (Memᴰ.tail (Memᴰ.append_right (strings_of l inside-strings s) m))))
        (ap (λ (z : Subtree). check_tree l d after-leaf f z (pos + branch_width) (drop branch_width x)) (sym (chosen_is l d s t fits.0 fits.1)) ∙ o)) k)))
        q

-- ---- the two trees and the root

abbrev pub VersionFits : VersionLeaf → Type 0
VersionFits v = LeafFits v.leaf

pub record GroupFits (g : Group) : Type 0 where
  pub entity-fits : g.entity < 256 ^ key_width
  pub versions_fit : AllTree VersionFits g.versions

pub all-tree : {A : Type 0} {P Q : A → Type 0} → ((a : A) → P a → Q a) → (t : Tree A) → AllTree P t → AllTree Q t
all-tree f (tip a) h = f a h
all-tree f (branch s t) h = (all-tree f s h.0, all-tree f t h.1)

pub version_keys : (t : Tree VersionLeaf) → AllTree VersionFits t → KeysFit versions_layout t
version_keys t h = all-tree (λ v k. k.time-fits) t h

pub group_keys : (t : Tree Group) → AllTree GroupFits t → KeysFit entities_layout t
group_keys t h = all-tree (λ g k. k.entity-fits) t h

pub versions-known : (t : Tree VersionLeaf) → AllTree VersionFits t → Known (subtree versions_layout t)
versions-known t h = known versions_layout t (version_keys t h)

pub entities-known : (t : Tree Group) → AllTree GroupFits t → Known (subtree entities_layout t)
entities-known t h = known entities_layout t (group_keys t h)

-- the strings of an entity's tree
abbrev pub version-strings : Tree VersionLeaf → List Bytes
version-strings t = strings_of versions_layout (λ _. []) t

abbrev pub entity-strings : Tree Group → List Bytes
entity-strings t = strings_of entities_layout (λ (g : Group). version-strings g.versions) t

pub versions-sound : (t : Tree VersionLeaf) → AllTree VersionFits t → (rel : Relation) (time f pos : ℕ) (x : Bytes) (r : CheckedProof) (B : List Bytes)
    → ((y : Bytes) → y among version-strings t → y among B)
    → check_versions rel time f (subtree versions_layout t) pos x ≡ ok r → Sound B r (open_versions rel time t)
unfolding check_versions open_versions
versions-sound t fits rel time f pos x r B into q =
    tree-sound versions_layout versions_letters (by_time rel time) (λ (v : VersionLeaf). stop (SearchEnd.found v))
    (λ s f pos x. ok (stopped (SearchEnd.found (leaf_in s)) pos x)) (λ _. []) B t (all-tree follows t fits) (version_keys t fits) f pos x r into q
  where
    follows : (v : VersionLeaf) → VersionFits v
        → Follows versions_layout (λ (v : VersionLeaf). stop (SearchEnd.found v)) (λ s f pos x. ok (stopped (SearchEnd.found (leaf_in s)) pos x)) B v
    follows v h f pos x r o =
        subst (λ (z : CheckedProof). Sound B z (stop (SearchEnd.found v))) (ok_inj o)
        (inl (record { ends = ap (λ (l : Leaf). SearchEnd.found l) (leaf_back v.leaf h); opens = refl }))

-- ---- the bytes: an accepted walk used up the strings that it opened

pub record Used (pos : ℕ) (x : Bytes) (r : CheckedProof) : Type 0 where
  pub split : x ≡ joined r.opened ++ r.rest
  pub moved : r.pos ≡ pos + length (joined r.opened)

pub used_none : (e : SearchEnd Leaf) (pos : ℕ) (x : Bytes) → Used pos x (stopped e pos x)
used_none e pos x = record { split = refl; moved = omega arith }

pub used_one : (pos w : ℕ) (x s : Bytes) (r : CheckedProof) → s ≡ take w x → w ≤ length x → Used (pos + w) (drop w x) r → Used pos x (opening s r)
used_one pos w x s r p h u =
    record {
      split =
          sym (take-append-drop w x)
          ∙ ap₂ {C = Bytes} (λ (a b : Bytes). a ++ b) (sym p) u.split
          ∙ sym (append_assoc s (joined r.opened) r.rest);
      moved =
          u.moved
          ∙ omega (arith, length-append s (joined r.opened), ap length p ∙ length-take-le w x h);
    }

pub used_string : (letter w pos : ℕ) (due x : Bytes) (r : CheckedProof) (g : Bytes → Result CheckedProof) → 0 < w
    → (take_string letter w due pos x >>= λ s. g s >>= λ r. ok (opening s r)) ≡ ok r
    → ((s : Bytes) (r' : CheckedProof) → g s ≡ ok r' → Used (pos + w) (drop w x) r') → Used pos x r
used_string letter w pos due x r g p q ih =
    let o = bind_ok _ _ q in
    let k = bind_ok _ _ o.2 in
    let t = taken letter w due pos x o.0 p o.1 in
    subst (λ (z : CheckedProof). Used pos x z) (ok_inj k.2) (used_one pos w x o.0 k.0 t.is t.long (ih o.0 k.0 k.1))

pub tree_used : {A : Type 0} (l : Layout A) → 0 < l.leaf_width → (d : Descent) (after-leaf : Bytes → ℕ → ℕ → Bytes → Result CheckedProof)
    → ((s : Bytes) (f pos : ℕ) (x : Bytes) (r : CheckedProof) → after-leaf s f pos x ≡ ok r → Used pos x r)
    → (f : ℕ) (k : Subtree) (pos : ℕ) (x : Bytes) (r : CheckedProof) → check_tree l d after-leaf f k pos x ≡ ok r → Used pos x r
unfolding check_tree
tree_used l w d after-leaf ih zero k pos x r q =
    by_test (d.stops k) (λ (m : Result CheckedProof). m ≡ ok r → Used pos x r)
    (λ _ o. subst (λ (z : CheckedProof). Used pos x z) (ok_inj o) (used_none _ pos x)) (λ _ o. refuse≢ok o) q
tree_used l w d after-leaf ih (suc f) k pos x r q =
    by_test (d.stops k) (λ (m : Result CheckedProof). m ≡ ok r → Used pos x r)
    (λ _ o. subst (λ (z : CheckedProof). Used pos x z) (ok_inj o) (used_none _ pos x))
    (λ _. by_test (eqb k.least k.greatest) (λ (m : Result CheckedProof). m ≡ ok r → Used pos x r)
    (λ _ o. used_string l.leaf_letter l.leaf_width pos k.digest x r _ w o (λ s r' q'. ih s f (pos + l.leaf_width) (drop l.leaf_width x) r' q'))
    (λ _ o. used_string l.inner_letter branch_width pos k.digest x r _ (omega arith) o
    (λ s r' q'. tree_used l w d after-leaf ih f _ (pos + branch_width) (drop branch_width x) r' q')))
    q

pub versions_used : (rel : Relation) (time f : ℕ) (k : Subtree) (pos : ℕ) (x : Bytes) (r : CheckedProof) → check_versions rel time f k pos x ≡ ok r → Used pos x r
unfolding check_versions
versions_used rel time f k pos x r q =
    tree_used versions_layout (omega arith) (by_time rel time) (λ s f pos x. ok (stopped (SearchEnd.found (leaf_in s)) pos x))
    (λ s f pos x r o. subst (λ (z : CheckedProof). Used pos x z) (ok_inj o) (used_none _ pos x)) f k pos x r q
