-- The texts of recurrences and classes are of ASCII signs.
use Rattle.std.proofs.Common.{◌≡◌, ℕ, zero, suc, ◌+◌, ◌/◌, ◌%◌, ◌<◌, ⊎_elim, true, false, ◌&&◌, ◌||◌, eqb, List, [], ◌∷◌, ◌++◌, length, refl, sym, subst, arith}
use Rattle.std.specs.Prelude.{codes, decimal, slice_index, nat_le, nat_lt}
use Rattle.std.specs.List.{list_all, flat_map}
use Rattle.std.specs.Fmt.{digits, digits_onto, digit_glyph}
use Rattle.std.specs.Str.{IsAscii, IsUtf8}
use Rattle.std.proofs.lemmas.Str.{IsUtf8-from_ascii}
use Rattle.std.proofs.lemmas.List.{get_or_past}
use Rattle.std.proofs.lemmas.Bool.{and_parts, and_from, or_cases, cond_both, eqb-true, leb-true, lt-ltb, ltb-true, cases_lt}
use Rattle.cg_word.specs.declared.op.Op.{Op}
use Rattle.cg_word.specs.Word.{name_of, all_ops}
use Rattle.cg_word.specs.Sets.{among}
use Rattle.cg_model.specs.Names.{within_name, begins_name}
use Rattle.cg_model.specs.declared.kernel.Node.{Node}
use Rattle.cg_model.specs.Kernel.{Kernel, IsKernel, size, node, no_node}
use Rattle.cg_model.specs.Array.{Arch}
use Rattle.cg_flat.specs.Text.{op_word, op_words}
use Rattle.cg_recur.specs.declared.edge.EdgeId.{EdgeId}
use Rattle.cg_recur.specs.declared.edge.EdgeId.TheVariants.{Arg, Order}
use Rattle.cg_recur.specs.Edges.{edge_of}
use Rattle.cg_recur.specs.Chain.{latencies, distances}
use Rattle.cg_class.specs.Class.{nodes_in, units_for}
use Rattle.cg_bound.specs.Text.{edge_word, edge_words, sums_text, counts_text, chain_text, set_text}
use Rattle.cg_show_table.specs.declared.margin.LongChain.{LongChain}
use Rattle.cg_show_table.specs.declared.margin.FullClass.{FullClass}
use Rattle.cg_show_table.specs.Table.{least_text, longest_line, fullest_line}
use Rattle.cg_show_table.proofs.Words.{IsLow, low_op}

-- ---- lists

append : (xs ys : List ℕ) → IsLow xs → IsLow ys → IsLow (xs ++ ys)
append [] ys p q = q
append (x ∷ xs) ys p q =
    let parts = and_parts (nat_lt x 128) (list_all (λ b. nat_lt b 128) xs) p in
    and_from (nat_lt x 128) (list_all (λ b. nat_lt b 128) (xs ++ ys)) parts.0 (append xs ys parts.1 q)

each : {X : Type 0} (f : X → List ℕ) (xs : List X) → ((x : X) → IsLow (f x)) → IsLow (flat_map f xs)
each f [] h = refl
each f (x ∷ xs) h = append (f x) (flat_map f xs) (h x) (each f xs h)

ascii : (bs : List ℕ) → IsLow bs → IsAscii bs
ascii [] h i = omega arith
ascii (b ∷ bs) h zero = ltb-true b 128 (and_parts (nat_lt b 128) (list_all (λ c. nat_lt c 128) bs) h).0
ascii (b ∷ bs) h (suc i) = ascii bs (and_parts (nat_lt b 128) (list_all (λ c. nat_lt c 128) bs) h).1 i

-- ---- numbers

glyph : (d : ℕ) → d < 10 → nat_lt (digit_glyph false d) 128 ≡ true
glyph d few = lt-ltb (digit_glyph false d) 128 (cond_both (nat_lt d 10) (48 + d) (87 + d) (λ z. z < 128) (λ e. omega arith) (λ e. omega arith))

onto : (k n : ℕ) (rest : List ℕ) → IsLow rest → IsLow (digits_onto k 10 false n rest)
onto zero n rest low = low
onto (suc k) n rest low =
    let last : nat_lt (digit_glyph false (n % 10)) 128 ≡ true = glyph (n % 10) (omega arith) in
    let more : IsLow (digit_glyph false (n % 10) ∷ rest) = and_from (nat_lt (digit_glyph false (n % 10)) 128) (list_all (λ b. nat_lt b 128) rest) last low in
    cond_both (eqb (n / 10) 0) (digit_glyph false (n % 10) ∷ rest) (digits_onto k 10 false (n / 10) (digit_glyph false (n % 10) ∷ rest)) IsLow
    (λ e. more) (λ e. onto k (n / 10) (digit_glyph false (n % 10) ∷ rest) more)

number : (n : ℕ) → IsLow (decimal n)
unfolding digits
number n = onto 64 n [] refl

-- ---- names

between : (low high b : ℕ) → high < 128 → (nat_le low b && nat_le b high) ≡ true → b < 128
between low high b h e = let most = leb-true b high (and_parts (nat_le low b) (nat_le b high) e).1 in omega (arith, most)

within : (b : ℕ) → within_name b ≡ true → b < 128
within b e =
    ⊎_elim
    (λ x. ⊎_elim (λ y. between 65 90 b (omega arith) y)
    (λ y. ⊎_elim (λ z. between 97 122 b (omega arith) z) (λ z. let is = eqb-true b 95 z in omega (arith, is)) (or_cases (nat_le 97 b && nat_le b 122) (eqb b 95) y))
    (or_cases (nat_le 65 b && nat_le b 90) ((nat_le 97 b && nat_le b 122) || eqb b 95) x))
    (λ x. between 48 57 b (omega arith) x)
    (or_cases (begins_name b) (nat_le 48 b && nat_le b 57) e)

name_from : (name : List ℕ) → ((k : ℕ) → k < length name → within_name (slice_index name k) ≡ true) → IsLow name
name_from [] all = refl
name_from (x ∷ xs) all =
    and_from (nat_lt x 128) (list_all (λ b. nat_lt b 128) xs) (lt-ltb x 128 (within x (all 0 (omega arith)))) (name_from xs (λ k h. all (suc k) (omega arith)))

node_name : (K : Kernel) → IsKernel K → (v : ℕ) → IsLow (node K v).name
node_name K valid v =
    ⊎_elim
    (λ l. name_from (node K v).name (valid.named.names v l).rest)
    (λ l. subst (λ (n : Node). IsLow n.name) (sym (get_or_past K.nodes v no_node l)) refl)
    (cases_lt v (size K))

-- ---- recurrences

edge : (K : Kernel) → IsKernel K → (id : EdgeId) → IsLow (edge_word K id)
edge K valid (Arg v p) = append (node K v).name (codes "." ++ decimal p) (node_name K valid v) (number p)
edge K valid (Order e) = number e

sums : (latency distance : ℕ) → IsLow (sums_text latency distance)
sums latency distance = append (decimal latency) (codes " distance " ++ decimal distance) (number latency) (number distance)

least : (n : ℕ) → IsLow (least_text n)
least n = append (decimal n) (codes ")") (number n) refl

pub chain_utf8 : (A : Arch) (K : Kernel) (c : LongChain) → IsKernel K → IsUtf8 (longest_line A K c)
chain_utf8 A K c valid =
    let ids = c.edges.items in
    let words = each (edge_word K) ids (edge K valid) in
    let total = sums (latencies (edge_of A K) ids) (distances (edge_of A K) ids) in
    IsUtf8-from_ascii _ (ascii (longest_line A K c) (append (chain_text A K ids) (least_text c.least) (append (edge_words K ids) (sums_text (latencies (edge_of A K) ids) (distances (edge_of A K) ids)) words total) (least c.least)))

-- ---- classes

op : (set : List Op) (o : Op) → IsLow (op_word set o)
op set o = cond_both (among set o) (32 ∷ name_of o) [] IsLow (λ e. low_op o) (λ e. refl)

counts : (nodes units : ℕ) → IsLow (counts_text nodes units)
counts nodes units = append (decimal nodes) (codes " units " ++ decimal units) (number nodes) (number units)

pub set_utf8 : (A : Arch) (K : Kernel) (c : FullClass) → IsUtf8 (fullest_line A K c)
set_utf8 A K c =
    let words = each (op_word c.ops) all_ops (op c.ops) in
    let total = counts (nodes_in K.nodes c.ops) (units_for A.units c.ops) in
    IsUtf8-from_ascii _ (ascii (fullest_line A K c) (append (set_text A K c.ops) (least_text c.least) (append (op_words c.ops) (counts_text (nodes_in K.nodes c.ops) (units_for A.units c.ops)) words total) (least c.least)))
