-- The value that a valid kernel is printed as is plain, so its text reads back as the kernel.
use Rattle.std.proofs.Common.{◌≡◌, ◌⊎◌, ℕ, ◌<◌, ◌≤◌, ◌^◌, ◌||◌, List, [], ◌∷◌, length, map, codes, Some, Ok, Bool, true, false, cond, find, refl, ap, sym, ◌∙◌, subst, inl, inr, arith, lit<, eqb-true, leb-true, ⊎_elim, bytes_eq, IsUtf8}
use Rattle.std.specs.Prelude.{slice_get, slice_index}
use Rattle.std.specs.List.{list_all}
use Rattle.std.specs.Str.{IsAscii}
use Rattle.std.proofs.lemmas.Bool.{and_parts, cases_lt, cases_Bool}
use Rattle.std.proofs.lemmas.List.{get_or_past}
use Rattle.std.proofs.lemmas.Str.{IsUtf8-from_ascii}
use Rattle.json.proofs.Printed.Utf8.{are_ascii, IsUtf8-are_ascii}
use Rattle.serde_json.specs.Data.{Data, no_members, member}
use Rattle.cg_word.specs.declared.op.Op.{Op}
use Rattle.cg_word.specs.Word as word
use Rattle.cg_word.proofs.Codes.{op_named_again}
use Rattle.cg_model.specs.Names.{between, begins_name, within_name, IsName}
use Rattle.cg_model.specs.Kernel.{Kernel, size, IsKernel}
use Rattle.cg_model.specs.declared.kernel.Node.{Node}
use Rattle.cg_model.specs.declared.kernel.Operand.{Operand}
use Rattle.cg_model.specs.declared.kernel.Operand.TheVariants.{Const, Edge}
use Rattle.cg_model.specs.declared.kernel.OrderEdge.{OrderEdge}
use Rattle.cg_kernel.specs.Answer.{answer_of}
use Rattle.cg_json.specs.Plain.{IsPlain, ArePlain, ArePlainAfter}
use Rattle.cg_json.proofs.Items.{ArePlain-map}
use Rattle.cg_json.proofs.Back.{reads_back}
use Rattle.cg_kernel_text.specs.Printed.{word_data, name_at, operand_data, node_data, edge_data, data_of, kernel_text}
use Rattle.cg_kernel_text.proofs.Back.{node_is, has, below, word_at}
use Rattle.cg_kernel_text.proofs.Clear.{answer-back}
use Rattle.cg_kernel_text.proofs.Depths.{data_of-depth}

-- ---- texts are UTF-8

either : (a b : Bool) → (a || b) ≡ true → (a ≡ true) ⊎ (b ≡ true)
either true b h = inl refl
either false b h = inr h

at_most : (low high b : ℕ) → between low high b ≡ true → b ≤ high
at_most low high b h = leb-true b high (and_parts _ _ h).1

begins_ascii : (b : ℕ) → begins_name b ≡ true → b < 128
begins_ascii b h = elim (either _ _ h) [
  | inl upper ↦ let most = at_most 65 90 b upper in omega (arith, most)
  | inr other ↦ elim (either _ _ other) [
    | inl lower ↦ let most = at_most 97 122 b lower in omega (arith, most)
    | inr line ↦ let same = eqb-true b 95 line in omega (arith, same)
  ]
]

within_ascii : (b : ℕ) → within_name b ≡ true → b < 128
within_ascii b h = elim (either _ _ h) [
  | inl begins ↦ begins_ascii b begins
  | inr digit ↦ let most = at_most 48 57 b digit in omega (arith, most)
]

name_ascii : (most : ℕ) (name : List ℕ) → IsName most name → IsAscii name
name_ascii most name is i = elim (cases_lt i (length name)) [
  | inl here ↦ within_ascii _ (is.rest i here)
  | inr past ↦ let none : slice_index name i ≡ 0 = get_or_past name i 0 past in omega (arith, none)
]

pub name_utf8 : (K : Kernel) → IsKernel K → (v : ℕ) → v < size K → IsUtf8 (name_at K.nodes v)
name_utf8 K valid v here = IsUtf8-from_ascii _ (name_ascii _ _ (valid.named.names v here))

-- what a search finds passes a test that all pass
found_passes : {X : Type 0} (p q : X → Bool) (xs : List X) (x : X) → find p xs ≡ Some x → list_all q xs ≡ true → q x ≡ true
found_passes p q [] x h all = cc
found_passes p q (y ∷ ys) x h all =
    let parts = and_parts (q y) (list_all q ys) all in
    ⊎_elim (λ t. let e : Some y ≡ Some x = sym (ap (λ b. cond b (Some y) (find p ys)) t) ∙ h in let same : y ≡ x = cc in ap q (sym same) ∙ parts.0)
    (λ t. found_passes p q ys x (sym (ap (λ b. cond b (Some y) (find p ys)) t) ∙ h) parts.1)
    (cases_Bool (p y))

ops_ascii : list_all (λ op. are_ascii (word.name_of op)) word.all_ops ≡ true
ops_ascii = refl

op_utf8 : (op : Op) → IsUtf8 (word.name_of op)
unfolding word.op_named
op_utf8 op = IsUtf8-are_ascii _ (found_passes (λ o. bytes_eq (word.name_of o) (word.name_of op)) (λ o. are_ascii (word.name_of o)) word.all_ops op (op_named_again op) ops_ascii)

-- ---- each part is plain

small : (n m : ℕ) → n ≤ m → m < 2 ^ 64 → n < 2 ^ 64
small n m h k = omega (arith, h, k)

word_small : (n : ℕ) → n < 2 ^ 32 → n < 2 ^ 64
word_small n h = omega (arith, h)

operand_plain : (K : Kernel) → IsKernel K → (v p : ℕ) (n : Node) (o : Operand) → slice_get K.nodes v ≡ Some n → slice_get n.operands p ≡ Some o → IsPlain (operand_data K.nodes o)
operand_plain K valid v p n (Const c) at arg = word_small c (valid.wired.constants v p c (below K v n at) (has K v p n (Const c) at arg))
operand_plain K valid v p n (Edge u d init) at arg =
    let here = has K v p n (Edge u d init) at arg in
    let in_kernel = below K v n at in
    let near = valid.near v p u d init in_kernel here in
    let words = ArePlain-map word_data init (λ i w at'. word_small w (word_at init i w at' (λ k. valid.init_words v p u d k init in_kernel here))) in (
      IsUtf8-are_ascii _ refl,
      small d 4 near (lit< tt),
      refl,
      (
        IsUtf8-are_ascii _ refl,
        name_utf8 K valid u (valid.wired.sources v p u d init in_kernel here),
        refl,
        (IsUtf8-are_ascii _ refl, words, refl, tt),
      ),
    )

-- a node's members with its port behind them
with_port : (args : Data) (name op : List ℕ) (b : Bool) (port : ℕ) → IsPlain args → IsUtf8 name → IsUtf8 op → port < 2 ^ 64
    → ArePlainAfter no_members (member (codes "args") args (member (codes "name") (Data.string name) (member (codes "op") (Data.string op) (cond b (member (codes "port") (word_data port) no_members) no_members))))
with_port args name op true port a n o p =
    (IsUtf8-are_ascii _ refl, a, refl, (IsUtf8-are_ascii _ refl, n, refl, (IsUtf8-are_ascii _ refl, o, refl, (IsUtf8-are_ascii _ refl, p, refl, tt))))
with_port args name op false port a n o p =
    (IsUtf8-are_ascii _ refl, a, refl, (IsUtf8-are_ascii _ refl, n, refl, (IsUtf8-are_ascii _ refl, o, refl, tt)))

node_plain : (K : Kernel) → IsKernel K → (v : ℕ) (n : Node) → slice_get K.nodes v ≡ Some n → IsPlain (node_data K.nodes n)
node_plain K valid v n at =
    let in_kernel = below K v n at in
    let few = valid.ports v in_kernel in
    let is = ap (λ m. m.port) (node_is K v n at) in
    let name : IsUtf8 n.name = subst (λ m. IsUtf8 m.name) (node_is K v n at) (name_utf8 K valid v in_kernel) in
    with_port _ n.name _ (word.has_port n.op) n.port
    (ArePlain-map (operand_data K.nodes) n.operands (λ p o arg. operand_plain K valid v p n o at arg))
    name (op_utf8 n.op) (small n.port 15 (omega (arith, few, is)) (lit< tt))

edge_plain : (K : Kernel) → IsKernel K → (i : ℕ) (e : OrderEdge) → slice_get K.order i ≡ Some e → IsPlain (edge_data K.nodes e)
edge_plain K valid i e at =
    let near = valid.order.near i e.from e.to e.distance at in
    let known = valid.order.known i e.from e.to e.distance at in (
      IsUtf8-are_ascii _ refl,
      small e.distance 255 near (lit< tt),
      refl,
      (
        IsUtf8-are_ascii _ refl,
        name_utf8 K valid e.from known.0,
        refl,
        (IsUtf8-are_ascii _ refl, name_utf8 K valid e.to known.1, refl, tt),
      ),
    )

pub data_of-plain : (K : Kernel) → IsKernel K → IsPlain (data_of K)
unfolding data_of
data_of-plain K valid = (
  IsUtf8-are_ascii _ refl,
  IsUtf8-are_ascii _ refl,
  refl,
  (
    IsUtf8-are_ascii _ refl,
    ArePlain-map (node_data K.nodes) K.nodes (node_plain K valid),
    refl,
    (IsUtf8-are_ascii _ refl, ArePlain-map (edge_data K.nodes) K.order (edge_plain K valid), refl, tt),
  ),
)

-- the text of a valid kernel reads back as the kernel
pub answer-kernel_text : (K : Kernel) → IsKernel K → answer_of (kernel_text K) ≡ Ok K
answer-kernel_text K valid =
    let text = reads_back (data_of K) (data_of-plain K valid) in
    answer-back K valid (kernel_text K) text.utf8 (text.back (data_of-depth K))
