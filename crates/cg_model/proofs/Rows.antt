-- Worked rows of the operations and of the turns. Each expected value is computed by hand.
use Rattle.std.proofs.Common.{◌≡◌, ℕ, not, List, [], ◌∷◌, refl}
use Rattle.std.specs.Prelude.{filter, map, replicate, codes}
use Rattle.cg_word.specs.declared.op.Op.TheVariants.{Const, Iter, Input, Add, Sub, Mul, And, Or, Xor, Shl, Shr, Sar, Eq, Ne, Lts, Ltu, Mins, Maxs, Select, Load, Store, Output, LoadIf, StoreIf, OutputIf}
use Rattle.cg_word.specs.Word.{all_ops, code, name_of, arity, is_guarded, is_access, is_store, is_output, has_value, has_port, address_arg, last_arg, apply_of}
use Rattle.cg_model.specs.Work.{Image, Left, value, value_by, stored, sent, missed}
use Rattle.cg_model.specs.declared.kernel.Operand.TheVariants.{Const as Constant, Edge}
use Rattle.cg_model.specs.Kernel.{Kernel}
use Rattle.cg_model.specs.Turns.{before, turns_left}

-- ---- the tables of operations, each as a list over all of them in the order of their codes

-- each operation by itself, so that no two can be exchanged
names_of_all : map name_of (Const ∷ Iter ∷ Input ∷ Add ∷ Sub ∷ Mul ∷ And ∷ Or ∷ Xor ∷ Shl ∷ Shr ∷ Sar ∷ Eq ∷ Ne ∷ Lts ∷ Ltu ∷ Mins ∷ Maxs ∷ Select ∷ Load ∷ Store ∷ Output ∷ LoadIf ∷ StoreIf ∷ OutputIf ∷ []) ≡ codes "const" ∷ codes "iter" ∷ codes "input" ∷ codes "add" ∷ codes "sub" ∷ codes "mul" ∷ codes "and" ∷ codes "or" ∷ codes "xor" ∷ codes "shl" ∷ codes "shr" ∷ codes "sar" ∷ codes "eq" ∷ codes "ne" ∷ codes "lts" ∷ codes "ltu" ∷ codes "mins" ∷ codes "maxs" ∷ codes "select" ∷ codes "load" ∷ codes "store" ∷ codes "output" ∷ codes "loadif" ∷ codes "storeif" ∷ codes "outputif" ∷ []
names_of_all = refl

codes_of_all : map code (Const ∷ Iter ∷ Input ∷ Add ∷ Sub ∷ Mul ∷ And ∷ Or ∷ Xor ∷ Shl ∷ Shr ∷ Sar ∷ Eq ∷ Ne ∷ Lts ∷ Ltu ∷ Mins ∷ Maxs ∷ Select ∷ Load ∷ Store ∷ Output ∷ LoadIf ∷ StoreIf ∷ OutputIf ∷ []) ≡ 1 ∷ 2 ∷ 3 ∷ 4 ∷ 5 ∷ 6 ∷ 7 ∷ 8 ∷ 9 ∷ 10 ∷ 11 ∷ 12 ∷ 13 ∷ 14 ∷ 15 ∷ 16 ∷ 17 ∷ 18 ∷ 19 ∷ 20 ∷ 21 ∷ 22 ∷ 23 ∷ 24 ∷ 25 ∷ []
codes_of_all = refl

codes_in_order : map code all_ops ≡ 1 ∷ 2 ∷ 3 ∷ 4 ∷ 5 ∷ 6 ∷ 7 ∷ 8 ∷ 9 ∷ 10 ∷ 11 ∷ 12 ∷ 13 ∷ 14 ∷ 15 ∷ 16 ∷ 17 ∷ 18 ∷ 19 ∷ 20 ∷ 21 ∷ 22 ∷ 23 ∷ 24 ∷ 25 ∷ []
codes_in_order = refl

arities_in_order : map arity all_ops ≡ 1 ∷ 0 ∷ 0 ∷ 2 ∷ 2 ∷ 2 ∷ 2 ∷ 2 ∷ 2 ∷ 2 ∷ 2 ∷ 2 ∷ 2 ∷ 2 ∷ 2 ∷ 2 ∷ 2 ∷ 2 ∷ 3 ∷ 1 ∷ 2 ∷ 1 ∷ 2 ∷ 3 ∷ 2 ∷ []
arities_in_order = refl

the_guarded : filter is_guarded all_ops ≡ LoadIf ∷ StoreIf ∷ OutputIf ∷ []
the_guarded = refl

the_accesses : filter is_access all_ops ≡ Load ∷ Store ∷ LoadIf ∷ StoreIf ∷ []
the_accesses = refl

the_stores : filter is_store all_ops ≡ Store ∷ StoreIf ∷ []
the_stores = refl

the_outputs : filter is_output all_ops ≡ Output ∷ OutputIf ∷ []
the_outputs = refl

those_without_value : filter (λ op. not (has_value op)) all_ops ≡ Store ∷ Output ∷ StoreIf ∷ OutputIf ∷ []
those_without_value = refl

those_with_port : filter has_port all_ops ≡ Input ∷ Output ∷ OutputIf ∷ []
those_with_port = refl

-- of load, store, loadif, storeif
address_operands : map address_arg (filter is_access all_ops) ≡ 0 ∷ 0 ∷ 1 ∷ 1 ∷ []
address_operands = refl

-- of store, output, storeif, outputif
last_operands : map last_arg (filter (λ op. not (has_value op)) all_ops) ≡ 1 ∷ 0 ∷ 2 ∷ 1 ∷ []
last_operands = refl

-- ---- what operations compute

const_copies : apply_of Const 7 8 9 ≡ 7
unfolding apply_of
const_copies = refl

add_wraps : apply_of Add 4294967295 2 0 ≡ 1
unfolding apply_of
add_wraps = refl

sub_wraps : apply_of Sub 0 1 0 ≡ 4294967295
unfolding apply_of
sub_wraps = refl

mul_wraps : apply_of Mul 4294967295 4294967295 0 ≡ 1
unfolding apply_of
mul_wraps = refl

and_by_bits : apply_of And 12 10 0 ≡ 8
unfolding apply_of
and_by_bits = refl

or_by_bits : apply_of Or 12 10 0 ≡ 14
unfolding apply_of
or_by_bits = refl

xor_by_bits : apply_of Xor 12 10 0 ≡ 6
unfolding apply_of
xor_by_bits = refl

shl_takes_its_amount_modulo_32 : apply_of Shl 3 63 0 ≡ 2147483648
unfolding apply_of
shl_takes_its_amount_modulo_32 = refl

shr_takes_its_amount_modulo_32 : apply_of Shr 2147483648 33 0 ≡ 1073741824
unfolding apply_of
shr_takes_its_amount_modulo_32 = refl

sar_keeps_the_sign : apply_of Sar 2147483648 33 0 ≡ 3221225472
unfolding apply_of
sar_keeps_the_sign = refl

sar_of_a_positive : apply_of Sar 1073741824 1 0 ≡ 536870912
unfolding apply_of
sar_of_a_positive = refl

eq_of_equals : apply_of Eq 5 5 0 ≡ 1
unfolding apply_of
eq_of_equals = refl

ne_of_equals : apply_of Ne 5 5 0 ≡ 0
unfolding apply_of
ne_of_equals = refl

ne_of_others : apply_of Ne 5 6 0 ≡ 1
unfolding apply_of
ne_of_others = refl

lts_is_signed : apply_of Lts 4294967295 0 0 ≡ 1
unfolding apply_of
lts_is_signed = refl

lts_is_strict : apply_of Lts 3 3 0 ≡ 0
unfolding apply_of
lts_is_strict = refl

ltu_is_unsigned : apply_of Ltu 4294967295 0 0 ≡ 0
unfolding apply_of
ltu_is_unsigned = refl

ltu_of_less : apply_of Ltu 0 4294967295 0 ≡ 1
unfolding apply_of
ltu_of_less = refl

mins_is_signed : apply_of Mins 4294967295 1 0 ≡ 4294967295
unfolding apply_of
mins_is_signed = refl

maxs_is_signed : apply_of Maxs 4294967295 1 0 ≡ 1
unfolding apply_of
maxs_is_signed = refl

select_of_nonzero : apply_of Select 6 7 8 ≡ 7
unfolding apply_of
select_of_nonzero = refl

select_of_zero : apply_of Select 0 7 8 ≡ 8
unfolding apply_of
select_of_zero = refl

-- ---- operations that read the turn, the streams or the memory, and those that write

-- no memory word and no stream
abbrev pub empty : Image
empty = record { memory = []; streams = [] }

-- one memory word
abbrev pub holding : ℕ → Image
holding w = record { memory = w ∷ []; streams = [] }

-- the words 5, 6 at port 1
abbrev pub streaming : Image
streaming = record { memory = []; streams = [] ∷ (5 ∷ 6 ∷ []) ∷ replicate 14 [] }

iter_gives_the_turn : value empty [] (record { op = Iter; port = 0; turn = 4294967297; args = [] }) ≡ 1
unfolding value_by
iter_gives_the_turn = refl

input_gives_a_word_a_turn : value streaming [] (record { op = Input; port = 1; turn = 1; args = [] }) ≡ 6
unfolding value_by
input_gives_a_word_a_turn = refl

input_past_the_end : value streaming [] (record { op = Input; port = 1; turn = 2; args = [] }) ≡ 0
unfolding value_by
input_past_the_end = refl

-- loads, over the memory 7, 9
load_inside : value empty (7 ∷ 9 ∷ []) (record { op = Load; port = 0; turn = 0; args = 1 ∷ [] }) ≡ 9
unfolding value_by
load_inside = refl

load_outside : value empty (7 ∷ 9 ∷ []) (record { op = Load; port = 0; turn = 0; args = 2 ∷ [] }) ≡ 0
unfolding value_by
load_outside = refl

load_outside_counts : missed 2 (record { op = Load; port = 0; turn = 0; args = 2 ∷ [] }) ≡ 1
unfolding missed
load_outside_counts = refl

load_inside_counts_not : missed 2 (record { op = Load; port = 0; turn = 0; args = 1 ∷ [] }) ≡ 0
unfolding missed
load_inside_counts_not = refl

loadif_acts : value empty (7 ∷ 9 ∷ []) (record { op = LoadIf; port = 0; turn = 0; args = 5 ∷ 1 ∷ [] }) ≡ 9
unfolding value_by
loadif_acts = refl

loadif_idle : value empty (7 ∷ 9 ∷ []) (record { op = LoadIf; port = 0; turn = 0; args = 0 ∷ 1 ∷ [] }) ≡ 0
unfolding value_by
loadif_idle = refl

loadif_outside_counts : missed 2 (record { op = LoadIf; port = 0; turn = 0; args = 5 ∷ 2 ∷ [] }) ≡ 1
unfolding missed
loadif_outside_counts = refl

loadif_idle_counts_not : missed 2 (record { op = LoadIf; port = 0; turn = 0; args = 0 ∷ 2 ∷ [] }) ≡ 0
unfolding missed
loadif_idle_counts_not = refl

store_sets_its_word : stored (7 ∷ 9 ∷ []) (record { op = Store; port = 0; turn = 0; args = 1 ∷ 4 ∷ [] }) ≡ 7 ∷ 4 ∷ []
unfolding stored
store_sets_its_word = refl

store_outside : stored (7 ∷ 9 ∷ []) (record { op = Store; port = 0; turn = 0; args = 2 ∷ 4 ∷ [] }) ≡ 7 ∷ 9 ∷ []
unfolding stored
store_outside = refl

store_outside_counts : missed 2 (record { op = Store; port = 0; turn = 0; args = 2 ∷ 4 ∷ [] }) ≡ 1
unfolding missed
store_outside_counts = refl

store_gives_0 : value empty (7 ∷ 9 ∷ []) (record { op = Store; port = 0; turn = 0; args = 1 ∷ 4 ∷ [] }) ≡ 0
unfolding value_by apply_of
store_gives_0 = refl

storeif_acts : stored (7 ∷ 9 ∷ []) (record { op = StoreIf; port = 0; turn = 0; args = 3 ∷ 1 ∷ 4 ∷ [] }) ≡ 7 ∷ 4 ∷ []
unfolding stored
storeif_acts = refl

storeif_idle : stored (7 ∷ 9 ∷ []) (record { op = StoreIf; port = 0; turn = 0; args = 0 ∷ 1 ∷ 4 ∷ [] }) ≡ 7 ∷ 9 ∷ []
unfolding stored
storeif_idle = refl

storeif_outside_counts : missed 2 (record { op = StoreIf; port = 0; turn = 0; args = 3 ∷ 2 ∷ 4 ∷ [] }) ≡ 1
unfolding missed
storeif_outside_counts = refl

storeif_idle_counts_not : missed 2 (record { op = StoreIf; port = 0; turn = 0; args = 0 ∷ 2 ∷ 4 ∷ [] }) ≡ 0
unfolding missed
storeif_idle_counts_not = refl

output_appends_to_its_port : sent 3 (record { op = Output; port = 3; turn = 0; args = 8 ∷ [] }) ≡ 8 ∷ []
unfolding sent
output_appends_to_its_port = refl

output_appends_to_no_other : sent 2 (record { op = Output; port = 3; turn = 0; args = 8 ∷ [] }) ≡ []
unfolding sent
output_appends_to_no_other = refl

outputif_acts : sent 3 (record { op = OutputIf; port = 3; turn = 0; args = 1 ∷ 8 ∷ [] }) ≡ 8 ∷ []
unfolding sent
outputif_acts = refl

outputif_idle : sent 3 (record { op = OutputIf; port = 3; turn = 0; args = 0 ∷ 8 ∷ [] }) ≡ []
unfolding sent
outputif_idle = refl

-- ---- kernels and their turns

-- sixteen streams, of which all past the second are empty
abbrev pub streams_of : List ℕ → List ℕ → List (List ℕ)
streams_of first second = first ∷ second ∷ replicate 14 []

-- what a run leaves
abbrev pub leaving : List ℕ → List ℕ → List ℕ → ℕ → Left
leaving memory first second outside = record { image = record { memory = memory; streams = streams_of first second }; outside = outside }

-- the running sum of the turns' numbers
abbrev pub sum : Kernel
sum = record {
  nodes =
      record { name = codes "i"; op = Iter; port = 0; operands = [] }
      ∷ record { name = codes "s"; op = Add; port = 0; operands = Edge 1 1 (0 ∷ []) ∷ Edge 0 0 [] ∷ [] }
      ∷ record { name = codes "o"; op = Output; port = 0; operands = Edge 1 0 [] ∷ [] }
      ∷ [];
  order = [];
}

running_sum_of_turns : turns_left sum 5 empty ≡ leaving [] (0 ∷ 1 ∷ 3 ∷ 6 ∷ 10 ∷ []) [] 0
unfolding before value_by stored sent missed apply_of
running_sum_of_turns = refl

no_turns_leave_the_memory : turns_left sum 0 (holding 9) ≡ leaving (9 ∷ []) [] [] 0
unfolding before value_by stored sent missed apply_of
no_turns_leave_the_memory = refl

-- a node that adds its own values of one and of two turns ago
abbrev pub fib : Kernel
fib = record {
  nodes =
      record { name = codes "a"; op = Add; port = 0; operands = Edge 0 1 (1 ∷ []) ∷ Edge 0 2 (0 ∷ 1 ∷ []) ∷ [] }
      ∷ record { name = codes "o"; op = Output; port = 0; operands = Edge 0 0 [] ∷ [] }
      ∷ [];
  order = [];
}

own_values_of_earlier_turns : turns_left fib 4 empty ≡ leaving [] (1 ∷ 2 ∷ 3 ∷ 5 ∷ []) [] 0
unfolding before value_by stored sent missed apply_of
own_values_of_earlier_turns = refl

-- a load inside, a load and a store outside a memory of four words
abbrev pub astray : Kernel
astray = record {
  nodes =
      record { name = codes "a"; op = Load; port = 0; operands = Constant 3 ∷ [] }
      ∷ record { name = codes "b"; op = Load; port = 0; operands = Constant 4 ∷ [] }
      ∷ record { name = codes "s"; op = Store; port = 0; operands = Constant 4294967295 ∷ Edge 0 0 [] ∷ [] }
      ∷ record { name = codes "o"; op = Output; port = 0; operands = Edge 0 0 [] ∷ [] }
      ∷ record { name = codes "p"; op = Output; port = 1; operands = Edge 1 0 [] ∷ [] }
      ∷ [];
  order = [];
}

abbrev pub four_words : Image
four_words = record { memory = 1 ∷ 2 ∷ 3 ∷ 4 ∷ []; streams = [] }

accesses_outside : turns_left astray 1 four_words ≡ leaving (1 ∷ 2 ∷ 3 ∷ 4 ∷ []) (4 ∷ []) (0 ∷ []) 2
unfolding before value_by stored sent missed apply_of
accesses_outside = refl

-- a load and a store of one word
abbrev pub swap_unordered : Kernel
swap_unordered = record {
  nodes =
      record { name = codes "l"; op = Load; port = 0; operands = Constant 0 ∷ [] }
      ∷ record { name = codes "i"; op = Iter; port = 0; operands = [] }
      ∷ record { name = codes "st"; op = Store; port = 0; operands = Constant 0 ∷ Edge 1 0 [] ∷ [] }
      ∷ record { name = codes "o"; op = Output; port = 0; operands = Edge 0 0 [] ∷ [] }
      ∷ [];
  order = [];
}

-- and ordered both ways: the load before the store of its turn, the store before the load of the next
abbrev pub swap : Kernel
swap = record { nodes = swap_unordered.nodes; order = record { from = 0; to = 2; distance = 0 } ∷ record { from = 2; to = 0; distance = 1 } ∷ [] }

load_before_store : turns_left swap 2 (holding 9) ≡ leaving (1 ∷ []) (9 ∷ 0 ∷ []) [] 0
unfolding before value_by stored sent missed apply_of
load_before_store = refl

order_edges_change_no_turn : turns_left swap_unordered 2 (holding 9) ≡ turns_left swap 2 (holding 9)
unfolding before value_by stored sent missed apply_of
order_edges_change_no_turn = refl

-- a guarded load outside, a guarded store and a guarded output, which act in each odd turn
abbrev pub odd : Kernel
odd = record {
  nodes =
      record { name = codes "i"; op = Iter; port = 0; operands = [] }
      ∷ record { name = codes "g"; op = And; port = 0; operands = Edge 0 0 [] ∷ Constant 1 ∷ [] }
      ∷ record { name = codes "l"; op = LoadIf; port = 0; operands = Edge 1 0 [] ∷ Constant 9 ∷ [] }
      ∷ record { name = codes "st"; op = StoreIf; port = 0; operands = Edge 1 0 [] ∷ Constant 0 ∷ Edge 0 0 [] ∷ [] }
      ∷ record { name = codes "o"; op = OutputIf; port = 0; operands = Edge 1 0 [] ∷ Edge 0 0 [] ∷ [] }
      ∷ [];
  order = [];
}

guarded_accesses_act_in_odd_turns : turns_left odd 5 (holding 7) ≡ leaving (3 ∷ []) (1 ∷ 3 ∷ []) [] 2
unfolding before value_by stored sent missed apply_of
guarded_accesses_act_in_odd_turns = refl

-- the same without the load
abbrev pub odd_inside : Kernel
odd_inside = record {
  nodes =
      record { name = codes "i"; op = Iter; port = 0; operands = [] }
      ∷ record { name = codes "g"; op = And; port = 0; operands = Edge 0 0 [] ∷ Constant 1 ∷ [] }
      ∷ record { name = codes "st"; op = StoreIf; port = 0; operands = Edge 1 0 [] ∷ Constant 0 ∷ Edge 0 0 [] ∷ [] }
      ∷ record { name = codes "o"; op = OutputIf; port = 0; operands = Edge 1 0 [] ∷ Edge 0 0 [] ∷ [] }
      ∷ [];
  order = [];
}

guarded_accesses_inside : turns_left odd_inside 5 (holding 7) ≡ leaving (3 ∷ []) (1 ∷ 3 ∷ []) [] 0
unfolding before value_by stored sent missed apply_of
guarded_accesses_inside = refl

-- a guarded store that never acts, between two loads of its word
abbrev pub idle : Kernel
idle = record {
  nodes =
      record { name = codes "z"; op = Const; port = 0; operands = Constant 0 ∷ [] }
      ∷ record { name = codes "l"; op = Load; port = 0; operands = Constant 0 ∷ [] }
      ∷ record { name = codes "st"; op = StoreIf; port = 0; operands = Edge 0 0 [] ∷ Constant 0 ∷ Edge 1 0 [] ∷ [] }
      ∷ record { name = codes "p"; op = Load; port = 0; operands = Constant 0 ∷ [] }
      ∷ [];
  order = [];
}

-- a store in its place
abbrev pub eager : Kernel
eager = record {
  nodes =
      record { name = codes "z"; op = Const; port = 0; operands = Constant 0 ∷ [] }
      ∷ record { name = codes "l"; op = Load; port = 0; operands = Constant 0 ∷ [] }
      ∷ record { name = codes "st"; op = Store; port = 0; operands = Constant 0 ∷ Edge 1 0 [] ∷ [] }
      ∷ record { name = codes "p"; op = Load; port = 0; operands = Constant 0 ∷ [] }
      ∷ [];
  order = [];
}

idle_store_leaves_the_memory : turns_left idle 3 (holding 4) ≡ leaving (4 ∷ []) [] [] 0
unfolding before value_by stored sent missed apply_of
idle_store_leaves_the_memory = refl
