-- The proof part of every question, from R down: an accepted one is the defined one or two strings collide, it used up its strings, and the
-- defined one is opened. Assumes nothing.
use mathlib.Core.Path.{◌≡◌, refl, sym, ap, ◌∙◌, subst}
use mathlib.Core.Logic.{inl, inr}
use Prim.Native.Nat.{ℕ, ◌+◌, ◌≤◌}
use native.Mathlib.Omega.{arith}
use mathlib.Core.List.Memᴰ
use mathlib.Core.List.{List, ◌∷◌, ◌++◌}
use lib.ListN.{length, drop, get_or, length-append}
use Rattle.model.specs.Result.{Result, ok}
use Rattle.model.specs.Numbers.{Bytes, H, joined}
use Rattle.model.specs.Accumulator.{R_width, Subtree, Tree, tip, branch, subtree, strings_of, Leaf, VersionLeaf, versions_layout, Group, entities_layout, Header, root_string}
use Rattle.model.specs.Question.{Question, one, all, entity_of, SearchEnd, by_entity, Opened, after, OpenedAll, open_all, within, open_span, open_sought, open_entities}
use Rattle.model.specs.CheckRows.{CheckedProof, subtree_in, CheckedAll, path_limit, proof_of_all, check_span, check_sought, check_entities, check_proof}
use Rattle.model.proofs.Outcomes.{ok_inj, bind_ok, bind_eq}
use Rattle.model.proofs.Lists.{◌among◌, Up}
use Rattle.model.proofs.Trees.{flat, AllTree, Shallow}
use Rattle.model.proofs.Walk.{group_back, root_back, Sound, sound-string, entities_letters, Follows, tree-sound, VersionFits, GroupFits, group_keys, versions-known, entities-known, version-strings, entity-strings, versions-sound, Used, used_string, tree_used, versions_used}
use Rattle.model.proofs.WalkTruth.{time-key, entity-key}
use Rattle.model.proofs.Open.{group-length, root-length, reading, open_one, LeafOpens, tree-short, tree_open, versions_open, versions-short}
use Rattle.model.proofs.Preorder.{SoundAll, all_sound, all_used, all_read, all_short}

-- ---- what follows an entity's G string

abbrev pub open_group : Question → Group → Opened
open_group ask g = open_sought ask g.versions

abbrev pub check_group : Question → Bytes → ℕ → ℕ → Bytes → Result CheckedProof
check_group ask s f pos x = check_sought ask f (subtree_in s 9) pos x

-- an accepted walk in preorder as the end of a proof
span_agrees : {B : List Bytes} (r : CheckedAll) (w : OpenedAll VersionLeaf) → SoundAll B r w → Sound B (proof_of_all r) (record { end = SearchEnd.listed w.leaves; opened = w.opened })
span_agrees r w (inl a) = inl (record { ends = ap (λ (l : List Leaf). SearchEnd.listed l) a.leaves_are; opens = a.strings-are })
span_agrees r w (inr c) = inr c

sought-sound : (t : Tree VersionLeaf) → AllTree VersionFits t → (ask : Question) (f pos : ℕ) (x : Bytes) (r : CheckedProof) (B : List Bytes)
    → ((y : Bytes) → y among version-strings t → y among B)
    → check_sought ask f (subtree versions_layout t) pos x ≡ ok r → Sound B r (open_sought ask t)
unfolding check_sought open_sought check_span open_span
sought-sound t fits (one q) f pos x r B into e = versions-sound t fits q.relation q.time f pos x r B into e
sought-sound t fits (all p) f pos x r B into e =
    let a = bind_ok _ _ e in
    subst (λ (z : CheckedProof). Sound B z (open_span p t)) (ok_inj a.2)
    (span_agrees a.0 (open_all versions_layout (within p) t) (all_sound (within p) B t fits path_limit pos x a.0 into a.1))

sought_used : (ask : Question) (f : ℕ) (k : Subtree) (pos : ℕ) (x : Bytes) (r : CheckedProof) → check_sought ask f k pos x ≡ ok r → Used pos x r
unfolding check_sought check_span
sought_used (one q) f k pos x r e = versions_used q.relation q.time f k pos x r e
sought_used (all p) f k pos x r e =
    let a = bind_ok _ _ e in
    subst (λ (z : CheckedProof). Used pos x z) (ok_inj a.2) (all_used (SearchEnd.listed a.0.leaves) (within p) path_limit k pos x a.0 a.1)

-- "where an N would be the seventeenth on its path, no letter is due": a tree in which there is none
sought_open : (ask : Question) (t : Tree VersionLeaf) → AllTree VersionFits t → Up time-key (flat t) → Shallow path_limit t → (f pos : ℕ) (y : Bytes) → length (open_sought ask t).opened ≤ f
    → check_sought ask f (subtree versions_layout t) pos (joined (open_sought ask t).opened ++ y) ≡ ok (reading (open_sought ask t) pos y)
unfolding check_sought open_sought check_span open_span
sought_open (one q) t fits u d f pos y b = versions_open q.relation q.time t fits u f pos y b
sought_open (all p) t fits u d f pos y b = bind_eq _ (λ a. ok (proof_of_all a)) _ (all_read (within p) t fits u path_limit d pos y)

sought-short : (ask : Question) (t : Tree VersionLeaf) → AllTree VersionFits t → length (open_sought ask t).opened ≤ length (joined (open_sought ask t).opened)
unfolding open_sought open_span
sought-short (one q) t fits = versions-short q.relation q.time t fits
sought-short (all p) t fits = all_short (within p) t fits

-- ---- from R down

pub entities-sound : (t : Tree Group) → AllTree GroupFits t → (ask : Question) (f pos : ℕ) (x : Bytes) (r : CheckedProof) (B : List Bytes)
    → ((y : Bytes) → y among entity-strings t → y among B)
    → check_entities ask f (subtree entities_layout t) pos x ≡ ok r → Sound B r (open_entities ask t)
unfolding check_entities open_entities strings_of
entities-sound t fits ask f pos x r B into q =
    tree-sound entities_layout entities_letters (by_entity (entity_of ask)) (open_group ask) (check_group ask) (λ (g : Group). version-strings g.versions) B t
    (follows_all t fits into) (group_keys t fits) f pos x r into q
  where
    follows : (g : Group) → GroupFits g → ((y : Bytes) → y among version-strings g.versions → y among B)
        → Follows entities_layout (open_group ask) (check_group ask) B g
    follows g h into f pos x r o =
        sought-sound g.versions h.versions_fit ask f pos x r B into
        (ap (λ (k : Subtree). check_sought ask f k pos x) (sym (group_back g.entity (subtree versions_layout g.versions) (versions-known g.versions h.versions_fit))) ∙ o)

    follows_all : (t : Tree Group) → AllTree GroupFits t → ((y : Bytes) → y among entity-strings t → y among B)
        → AllTree (Follows entities_layout (open_group ask) (check_group ask) B) t
    follows_all (tip g) h into = follows g h (λ y m. into y (Memᴰ.tail m))
    follows_all (branch a b) h into =
        (follows_all a h.0 (λ y m. into y (Memᴰ.tail (Memᴰ.append_left (entity-strings b) m))), follows_all b h.1 (λ y m. into y (Memᴰ.tail (Memᴰ.append_right (entity-strings a) m))))

-- the proof of a root over a tree of entities
pub proof-sound : {B : List Bytes} (h : Header) (n : ℕ) (t : Tree Group) → AllTree GroupFits t → (ask : Question) (pos : ℕ) (x : Bytes) (r : CheckedProof)
    → ((y : Bytes) → y among root_string h n (subtree entities_layout t) ∷ entity-strings t → y among B)
    → check_proof h.letter ask (H (root_string h n (subtree entities_layout t))) pos x ≡ ok r
    → Sound B r (after (root_string h n (subtree entities_layout t)) (open_entities ask t))
unfolding check_proof
proof-sound {B} h n t fits ask pos x r into q =
    sound-string h.letter R_width pos x (root_string h n (subtree entities_layout t))
    (λ y. check_entities ask (length x) (subtree_in y 17) (pos + R_width) (drop R_width x)) (open_entities ask t) r (omega arith)
    (into _ (Memᴰ.head refl))
    (λ r' o.
    entities-sound t fits ask (length x) (pos + R_width) (drop R_width x) r' B (λ y m. into y (Memᴰ.tail m))
    (ap (λ (k : Subtree). check_entities ask (length x) k (pos + R_width) (drop R_width x)) (sym (root_back h n (subtree entities_layout t) (entities-known t fits))) ∙ o)) q

pub proof_used : (letter : ℕ) (ask : Question) (due : Bytes) (pos : ℕ) (x : Bytes) (r : CheckedProof) → check_proof letter ask due pos x ≡ ok r → Used pos x r
unfolding check_proof check_entities
proof_used letter ask due pos x r q =
    used_string letter R_width pos due x r _ (omega arith) q
    (λ y r' o.
    tree_used entities_layout (omega arith) (by_entity (entity_of ask)) (check_group ask)
    (λ y f pos x r k. sought_used ask f (subtree_in y 9) pos x r k) (length x) _ (pos + R_width) (drop R_width x) r' o)

-- ---- and opened

module _ (ask : Question) where
  group_opens : (g : Group) → GroupFits g → Up time-key (flat g.versions) → Shallow path_limit g.versions → LeafOpens entities_layout (open_group ask) (check_group ask) g
  group_opens g h u d =
      record {
        width = group-length g.entity (subtree versions_layout g.versions) (versions-known g.versions h.versions_fit).digest_wide;
        opens = λ f pos y b.
            ap (λ (k : Subtree). check_sought ask f k pos (joined (open_group ask g).opened ++ y))
            (group_back g.entity (subtree versions_layout g.versions) (versions-known g.versions h.versions_fit))
            ∙ sought_open ask g.versions h.versions_fit u d f pos y b;
        short = sought-short ask g.versions h.versions_fit;
      }

  groups_open : (t : Tree Group) → AllTree GroupFits t → ((g : Group) → g among flat t → Up time-key (flat g.versions))
      → ((g : Group) → g among flat t → Shallow path_limit g.versions) → AllTree (LeafOpens entities_layout (open_group ask) (check_group ask)) t
  groups_open (tip g) fits u d = group_opens g fits (u g (Memᴰ.head refl)) (d g (Memᴰ.head refl))
  groups_open (branch a b) fits u d = (
    groups_open a fits.0 (λ g m. u g (Memᴰ.append_left (flat b) m)) (λ g m. d g (Memᴰ.append_left (flat b) m)),
    groups_open b fits.1 (λ g m. u g (Memᴰ.append_right (flat a) m)) (λ g m. d g (Memᴰ.append_right (flat a) m)),
  )

root-letter : (h : Header) (n : ℕ) (k : Subtree) → get_or (root_string h n k) 0 0 ≡ h.letter
unfolding root_string
root-letter h n k = refl

pub proof_open : (h : Header) (n : ℕ) (t : Tree Group) → AllTree GroupFits t → Up entity-key (flat t) → ((g : Group) → g among flat t → Up time-key (flat g.versions))
    → ((g : Group) → g among flat t → Shallow path_limit g.versions) → (ask : Question) (pos : ℕ) (y : Bytes)
    → check_proof h.letter ask (H (root_string h n (subtree entities_layout t))) pos
    (joined (after (root_string h n (subtree entities_layout t)) (open_entities ask t)).opened ++ y)
    ≡ ok (reading (after (root_string h n (subtree entities_layout t)) (open_entities ask t)) pos y)
unfolding check_proof check_entities open_entities
proof_open h n t fits u vu d ask pos y =
    let k = subtree entities_layout t in
    let str = root_string h n k in
    let w = open_entities ask t in
    let x = joined (after str w).opened ++ y in
    let known_k = entities-known t fits in
    let os = groups_open ask t fits vu d in
    open_one h.letter R_width pos str w y (λ z i q. check_entities ask (length x) (subtree_in z 17) i q) (omega arith) (root-letter h n k)
    (root-length h n k known_k.digest_wide)
    (ap (λ (z : Subtree). check_entities ask (length x) z (pos + R_width) (joined w.opened ++ y)) (root_back h n k known_k)
    ∙ tree_open entities_layout entities_letters (by_entity (entity_of ask)) (open_group ask) (check_group ask) t os (group_keys t fits) u (length x) (pos + R_width) y
    (omega (
      arith,
      tree-short entities_layout entities_letters (by_entity (entity_of ask)) (open_group ask) (check_group ask) t os (group_keys t fits),
      length-append (str ++ joined w.opened) y,
      length-append str (joined w.opened),
    )))
