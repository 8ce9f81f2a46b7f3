-- Log K's commitment, computed digest by digest under the real SHA-256. Assumes nothing.
use mathlib.Core.Path.{◌≡◌, refl, ap, ap₂, ◌∙◌}
use mathlib.Core.List.{List, [], ◌∷◌, ◌++◌, map}
use Prim.Native.Nat.{ℕ}
use Rattle.fields.specs.Fields.{encode, decode, part, field}
use Rattle.round_constants.specs.Constants.{undivided, prime, primes_from, primes, root_from, root, fraction, K}
use Rattle.sha256.specs.Sha256.{zeros, padding, padded, H0, words, scheduled_word, extended, schedule, round, rounds, sums, compress, hashed, bytes, sha256}
use Rattle.model.specs.Numbers.{Bytes, H, counting}
use Rattle.model.specs.Graph.{InEdge, temporal, dependency, VersionNode}
use Rattle.model.specs.Digest.{edge_string, edge_part, links_string, incoming_string, outgoing_string, incoming_links, incoming, incoming_digests, links_from, outgoing_links, outgoing, outgoing_digests}
use Rattle.model.specs.Accumulator.{letter_N, letter_P, Subtree, branch_string, parent, Tree, tip, branch, leaf_string, VersionLeaf, versions_layout, Group, entities_layout, subtree, group_string, root_string, entities, leaf_at, version_leaves, group, tree, no_group, entity_tree, commitment}
use Rattle.model.specs.Answer.{log_header, log_commitment}
use Rattle.model.proofs.LogK.{computed, K as LogK}

-- opens what a digest is computed with: all that is shut but H
hashing : Unit {0}
unfolding computed encode decode part field zeros padding padded words scheduled_word extended schedule round rounds sums undivided prime primes_from primes root_from root fraction K H0 compress hashed bytes sha256 edge_string edge_part links_string incoming_string outgoing_string incoming_links links_from outgoing_links
hashing = tt

-- a digest computed
by_digest : (m d : Bytes) → sha256 m ≡ d → H m ≡ d
unfolding H
by_digest m d e = e

-- ---- the graph

abbrev node : ℕ → ℕ → List InEdge → VersionNode
node e t es = record { entity = e; time = t; in_edges = es }

abbrev n0 : VersionNode
n0 = node 1 10 []

abbrev n1 : VersionNode
n1 = node 2 20 []

abbrev n2 : VersionNode
n2 = node 2 30 (temporal 1 ∷ dependency 7 0 ∷ [])

abbrev n3 : VersionNode
n3 = node 1 40 (temporal 0 ∷ dependency 8 2 ∷ [])

abbrev ns : List VersionNode
ns = n0 ∷ n1 ∷ n2 ∷ n3 ∷ []

-- ---- digests

abbrev I0 : Bytes
I0 = encode 32 0xe12ccd302b621265c9f83cd930050f75ff0b69297796665356d49aafb5a91c37

abbrev I2 : Bytes
I2 = encode 32 0x5316a5e965ecf040061477807ed8429b1aa6f8257076acff5184b0259af286d7

abbrev I3 : Bytes
I3 = encode 32 0x27dd1edc82a3a2342457fa92bd2c68a1cba787899a2db07de3b56daff41c732b

abbrev O0 : Bytes
O0 = encode 32 0xba679ffdd7203d4432f60276cb57d33365c7347c7b15251388c911b68d27a77a

abbrev O1 : Bytes
O1 = encode 32 0xbfc48d78f00bf252147017a0cffd0bb7d08aa10bbb7ef6a347e93bba84044f19

abbrev O2 : Bytes
O2 = encode 32 0xdd745160fc351acfa580fb35885ae0ab2558935797c491616531778c33da61ff

abbrev O3 : Bytes
O3 = encode 32 0xe49256fa89d79b1425a91b1400b5afa52034c7174c7978d79657ac988a3dcbad

abbrev L0 : Bytes
L0 = encode 32 0x7fdd99fa216e5c9734153d5c24177a889f9de3bf5378338173879954acc6b86f

abbrev L1 : Bytes
L1 = encode 32 0xa3ec546a59d02982c7c0b75c28c0907b4a1ec56fdab2e33f393f219e2f311c4f

abbrev L2 : Bytes
L2 = encode 32 0xe9b94370ea70a2d6420b21090713566ebb78bfed366f53250d9488f1fcd912c4

abbrev L3 : Bytes
L3 = encode 32 0x7eefa76efd59ff0299051d780af7f4da56b254e7d981869e18ce72f7cb9c9cf4

abbrev N1 : Bytes
N1 = encode 32 0x7ec6cda401e30d41d74cebba1f34a217e9b760ccdc5bfd4736cfa221f110ea3b

abbrev N2 : Bytes
N2 = encode 32 0x5dbabd6387af707e748ad4672ac292b347f7e968bf4e4c94aba00d541d9188a7

abbrev G1 : Bytes
G1 = encode 32 0x2deda95bcbef4d97a9904f546cfbdded310557f9a63e3ed4423996f5e6820b40

abbrev G2 : Bytes
G2 = encode 32 0x02720b09e72f81ce3504907fe22e0f75bda09620589057deec3d6450cdad1e16

abbrev P : Bytes
P = encode 32 0xc23380713db7833293bda8c944090bf89cac7b7637f2cb375e54cf48608d81d8

abbrev R : Bytes
R = encode 32 0xafa480e13388337b3ec74fcea39db57dddd6320386af49166a8fbf0d6f4511e1

-- ---- incoming digests

entry-digest : H (incoming_string []) ≡ I0
unfolding hashing
entry-digest = by_digest _ _ refl

incoming_1 : incoming ns 1 ≡ I0 ∷ []
unfolding incoming incoming_links
incoming_1 =
    ap (λ (d : Bytes). ([]) ++ (d ∷ [])) entry-digest

incoming_2 : incoming ns 2 ≡ I0 ∷ I0 ∷ []
unfolding incoming incoming_links
incoming_2 =
    ap (λ (ds : List Bytes). ds ++ (H (incoming_string (incoming_links ns ds n1)) ∷ [])) (incoming_1)
    ∙ ap (λ (d : Bytes). (I0 ∷ []) ++ (d ∷ [])) entry-digest

third_digest : H (incoming_string (incoming_links ns (I0 ∷ I0 ∷ []) n2)) ≡ I2
unfolding hashing
third_digest = by_digest _ _ refl

incoming_3 : incoming ns 3 ≡ I0 ∷ I0 ∷ I2 ∷ []
unfolding incoming incoming_links
incoming_3 =
    ap (λ (ds : List Bytes). ds ++ (H (incoming_string (incoming_links ns ds n2)) ∷ [])) (incoming_2)
    ∙ ap (λ (d : Bytes). (I0 ∷ I0 ∷ []) ++ (d ∷ [])) third_digest

fourth_digest : H (incoming_string (incoming_links ns (I0 ∷ I0 ∷ I2 ∷ []) n3)) ≡ I3
unfolding hashing
fourth_digest = by_digest _ _ refl

incoming_4 : incoming ns 4 ≡ I0 ∷ I0 ∷ I2 ∷ I3 ∷ []
unfolding incoming incoming_links
incoming_4 =
    ap (λ (ds : List Bytes). ds ++ (H (incoming_string (incoming_links ns ds n3)) ∷ [])) (incoming_3)
    ∙ ap (λ (d : Bytes). (I0 ∷ I0 ∷ I2 ∷ []) ++ (d ∷ [])) fourth_digest

-- ---- outgoing digests

out_digest_3 : H (outgoing_string (outgoing_links 3 n3 ([]) ([]))) ≡ O3
unfolding hashing
out_digest_3 = by_digest _ _ refl

outgoing_3 : outgoing 3 (n3 ∷ []) ≡ O3 ∷ []
unfolding outgoing
outgoing_3 =
    ap {B = List Bytes} (λ (d : Bytes). d ∷ []) out_digest_3

out_digest_2 : H (outgoing_string (outgoing_links 2 n2 (n3 ∷ []) (O3 ∷ []))) ≡ O2
unfolding hashing
out_digest_2 = by_digest _ _ refl

outgoing_2 : outgoing 2 (n2 ∷ n3 ∷ []) ≡ O2 ∷ O3 ∷ []
unfolding outgoing
outgoing_2 =
    ap (λ (ds : List Bytes). H (outgoing_string (outgoing_links 2 n2 (n3 ∷ []) ds)) ∷ ds) outgoing_3
    ∙ ap {B = List Bytes} (λ (d : Bytes). d ∷ O3 ∷ []) out_digest_2

out_digest_1 : H (outgoing_string (outgoing_links 1 n1 (n2 ∷ n3 ∷ []) (O2 ∷ O3 ∷ []))) ≡ O1
unfolding hashing
out_digest_1 = by_digest _ _ refl

outgoing_1 : outgoing 1 (n1 ∷ n2 ∷ n3 ∷ []) ≡ O1 ∷ O2 ∷ O3 ∷ []
unfolding outgoing
outgoing_1 =
    ap (λ (ds : List Bytes). H (outgoing_string (outgoing_links 1 n1 (n2 ∷ n3 ∷ []) ds)) ∷ ds) outgoing_2
    ∙ ap {B = List Bytes} (λ (d : Bytes). d ∷ O2 ∷ O3 ∷ []) out_digest_1

out_digest_0 : H (outgoing_string (outgoing_links 0 n0 (n1 ∷ n2 ∷ n3 ∷ []) (O1 ∷ O2 ∷ O3 ∷ []))) ≡ O0
unfolding hashing
out_digest_0 = by_digest _ _ refl

outgoing_0 : outgoing 0 (n0 ∷ n1 ∷ n2 ∷ n3 ∷ []) ≡ O0 ∷ O1 ∷ O2 ∷ O3 ∷ []
unfolding outgoing
outgoing_0 =
    ap (λ (ds : List Bytes). H (outgoing_string (outgoing_links 0 n0 (n1 ∷ n2 ∷ n3 ∷ []) ds)) ∷ ds) outgoing_1
    ∙ ap {B = List Bytes} (λ (d : Bytes). d ∷ O1 ∷ O2 ∷ O3 ∷ []) out_digest_0

-- ---- leaves and trees

abbrev leaf_of : ℕ → VersionNode → Bytes → Bytes → VersionLeaf
leaf_of i n a b = record { place = i; leaf = record { entity = n.entity; time = n.time; incoming = a; outgoing = b } }

abbrev v0 : VersionLeaf
v0 = leaf_of 0 n0 I0 O0

abbrev v1 : VersionLeaf
v1 = leaf_of 1 n1 I0 O1

abbrev v2 : VersionLeaf
v2 = leaf_of 2 n2 I2 O2

abbrev v3 : VersionLeaf
v3 = leaf_of 3 n3 I3 O3

leaves_are : version_leaves ns ≡ v0 ∷ v1 ∷ v2 ∷ v3 ∷ []
unfolding version_leaves leaf_at incoming_digests outgoing_digests
leaves_are =
    ap₂ (λ (is os : List Bytes). map (λ (i : ℕ). record { place = i; leaf = leaf_at ns is os i }) (counting 0 4)) incoming_4 outgoing_0

abbrev t1 : Tree VersionLeaf
t1 = branch (tip v0) (tip v3)

abbrev t2 : Tree VersionLeaf
t2 = branch (tip v1) (tip v2)

abbrev entity-trees : Tree Group
entity-trees = branch (tip (record { entity = 1; versions = t1 })) (tip (record { entity = 2; versions = t2 }))

tree_is : entity_tree ns ≡ entity-trees
unfolding computed
tree_is = ap (λ (vs : List VersionLeaf). tree no_group (map (group vs) (entities ns))) leaves_are

abbrev known : ℕ → ℕ → Bytes → Subtree
known l g d = record { least = l; greatest = g; digest = d }

leaf_0 : H (leaf_string v0.leaf) ≡ L0
unfolding hashing
leaf_0 = by_digest _ _ refl

leaf_1 : H (leaf_string v1.leaf) ≡ L1
unfolding hashing
leaf_1 = by_digest _ _ refl

leaf_2 : H (leaf_string v2.leaf) ≡ L2
unfolding hashing
leaf_2 = by_digest _ _ refl

leaf_3 : H (leaf_string v3.leaf) ≡ L3
unfolding hashing
leaf_3 = by_digest _ _ refl

branch_1 : H (branch_string letter_N (known 10 10 L0) (known 40 40 L3)) ≡ N1
unfolding hashing
branch_1 = by_digest _ _ refl

subtree_1 : subtree versions_layout t1 ≡ known 10 40 N1
unfolding subtree parent
subtree_1 =
    ap₂ (λ (a b : Bytes). parent letter_N (known 10 10 a) (known 40 40 b)) leaf_0 leaf_3
    ∙ ap (known 10 40) branch_1

group_1 : H (group_string 1 (known 10 40 N1)) ≡ G1
unfolding hashing
group_1 = by_digest _ _ refl

branch_2 : H (branch_string letter_N (known 20 20 L1) (known 30 30 L2)) ≡ N2
unfolding hashing
branch_2 = by_digest _ _ refl

subtree_2 : subtree versions_layout t2 ≡ known 20 30 N2
unfolding subtree parent
subtree_2 =
    ap₂ (λ (a b : Bytes). parent letter_N (known 20 20 a) (known 30 30 b)) leaf_1 leaf_2
    ∙ ap (known 20 30) branch_2

group_2 : H (group_string 2 (known 20 30 N2)) ≡ G2
unfolding hashing
group_2 = by_digest _ _ refl

entities-branch : H (branch_string letter_P (known 1 1 G1) (known 2 2 G2)) ≡ P
unfolding hashing
entities-branch = by_digest _ _ refl

top_is : subtree entities_layout entity-trees ≡ known 1 2 P
unfolding subtree parent
top_is =
    ap₂ (λ (a b : Subtree). parent letter_P (known 1 1 (H (group_string 1 a))) (known 2 2 (H (group_string 2 b)))) subtree_1 subtree_2
    ∙ ap₂ (λ (a b : Bytes). parent letter_P (known 1 1 a) (known 2 2 b)) group_1 group_2
    ∙ ap (known 1 2) entities-branch

root-digest : H (root_string (log_header LogK) 2 (known 1 2 P)) ≡ R
unfolding hashing
root-digest = by_digest _ _ refl

-- two independent implementations agree on it
pub K-commitment : log_commitment LogK ≡ encode 32 0xafa480e13388337b3ec74fcea39db57dddd6320386af49166a8fbf0d6f4511e1
unfolding computed log_commitment commitment
K-commitment =
    ap (λ (t : Tree Group). H (root_string (log_header LogK) 2 (subtree entities_layout t))) tree_is
    ∙ ap (λ (k : Subtree). H (root_string (log_header LogK) 2 k)) top_is
    ∙ root-digest
