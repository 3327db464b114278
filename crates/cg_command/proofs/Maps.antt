-- Laws of commands whose files are read by functions.
use Rattle.std.proofs.Common.{◌≡◌, List, [], ◌∷◌, map, All, Option, Some, None, option_map, refl, ◌∙◌, ap}
use Rattle.std.proofs.lemmas.List.Elements.{All-head, All-tail}
use Rattle.cg_command.specs.declared.command.ArrayCall.{ArrayCall}
use Rattle.cg_command.specs.declared.command.MapperCall.{MapperCall}
use Rattle.cg_command.specs.declared.command.Command.{Command}
use Rattle.cg_command.specs.declared.command.Command.TheVariants.{Turns, TurnsOnImage, Flat, Run, Bound, Check, Emit, Map, Search, Show, Trial, Verilog, Loop, Depend, Simplify, Migrate, Bench, Image, Words, Violations, Why}
use Rattle.cg_command.specs.Command.{listed, inputs_of, outputs_of, call_map, array_map, command_map, IsRanged}

-- the input files are those of the command, each read by the function
map_listed : {X Y : Type 0} (f : X → Y) (o : Option X) → listed (option_map f o) ≡ map f (listed o)
map_listed f None = refl
map_listed f (Some x) = refl

pub map_inputs : {F G N M : Type 0} (f : F → G) (g : N → M) (c : Command F N) → inputs_of (command_map f g c) ≡ map f (inputs_of c)
map_inputs f g (Turns kernel turns) = refl
map_inputs f g (TurnsOnImage kernel turns image out) = refl
map_inputs f g (Flat arch out) = refl
map_inputs f g (Run call None) = refl
map_inputs f g (Run call (Some netlist)) = refl
map_inputs f g (Bound arch kernel) = refl
map_inputs f g (Check arch kernel mapping) = refl
map_inputs f g (Emit arch kernel mapping out) = refl
map_inputs f g (Map call) = refl
map_inputs f g (Search call) = refl
map_inputs f g (Show arch kernel mapping out) = refl
map_inputs f g (Trial seed) = refl
map_inputs f g (Verilog arch out) = refl
map_inputs f g (Loop source out) = refl
map_inputs f g (Depend kernel out) = refl
map_inputs f g (Simplify kernel out copies share) = refl
map_inputs f g (Migrate arch bits out) = refl
map_inputs f g (Bench call) = refl
map_inputs f g (Image text out) = refl
map_inputs f g (Words image) = refl
map_inputs f g (Violations arch kernel mapping) = refl
map_inputs f g (Why arch kernel) = refl

-- files read twice are read by one function after the other
twice_option : {X Y Z : Type 0} (f : Y → Z) (h : X → Y) (o : Option X) → option_map f (option_map h o) ≡ option_map (λ x. f (h x)) o
twice_option f h None = refl
twice_option f h (Some x) = refl

twice_call : {F G H N M L : Type 0} (f : G → H) (h : F → G) (g : M → L) (k : N → M) (c : MapperCall F N) → call_map f g (call_map h k c) ≡ call_map (λ x. f (h x)) (λ y. g (k y)) c
twice_call f h g k c = ap (λ m. record { arch = f (h c.arch); kernel = f (h c.kernel); out = g (k c.out); mapping = m; request = c.request }) (twice_option g k c.mapping)

pub map_twice : {F G H N M L : Type 0} (f : G → H) (h : F → G) (g : M → L) (k : N → M) (c : Command F N) → command_map f g (command_map h k c) ≡ command_map (λ x. f (h x)) (λ y. g (k y)) c
map_twice f h g k (Turns kernel turns) = refl
map_twice f h g k (TurnsOnImage kernel turns image out) = refl
map_twice f h g k (Flat arch out) = refl
map_twice f h g k (Run call netlist) = ap (λ n. Run (array_map (λ x. f (h x)) (λ y. g (k y)) call) n) (twice_option f h netlist)
map_twice f h g k (Bound arch kernel) = refl
map_twice f h g k (Check arch kernel mapping) = refl
map_twice f h g k (Emit arch kernel mapping out) = refl
map_twice f h g k (Map call) = ap Map (twice_call f h g k call)
map_twice f h g k (Search call) = ap Search (twice_call f h g k call)
map_twice f h g k (Show arch kernel mapping out) = ap (λ n. Show (f (h arch)) (f (h kernel)) (f (h mapping)) n) (twice_option g k out)
map_twice f h g k (Trial seed) = refl
map_twice f h g k (Verilog arch out) = refl
map_twice f h g k (Loop source out) = refl
map_twice f h g k (Depend kernel out) = refl
map_twice f h g k (Simplify kernel out copies share) = refl
map_twice f h g k (Migrate arch bits out) = refl
map_twice f h g k (Bench call) = refl
map_twice f h g k (Image text out) = refl
map_twice f h g k (Words image) = refl
map_twice f h g k (Violations arch kernel mapping) = refl
map_twice f h g k (Why arch kernel) = refl

-- a command whose input files the function leaves as they are
pub same_option : {X : Type 0} (o : Option X) → option_map (λ x. x) o ≡ o
same_option None = refl
same_option (Some x) = refl

abbrev pub IsKept : {F : Type 0} → (F → F) → F → Type 0
IsKept h f = h f ≡ f

same_call : {F N : Type 0} (h : F → F) (c : MapperCall F N) → All (IsKept h) (c.arch ∷ c.kernel ∷ []) → call_map h (λ n. n) c ≡ c
same_call h c all =
    let e0 = All-head (IsKept h) c.arch (c.kernel ∷ []) all in
    let e1 = All-head (IsKept h) c.kernel [] (All-tail (IsKept h) c.arch (c.kernel ∷ []) all) in
    ap (λ a. record { arch = a; kernel = h c.kernel; out = c.out; mapping = option_map (λ n. n) c.mapping; request = c.request }) e0
    ∙ ap (λ k. record { arch = c.arch; kernel = k; out = c.out; mapping = option_map (λ n. n) c.mapping; request = c.request }) e1
    ∙ ap (λ m. record { arch = c.arch; kernel = c.kernel; out = c.out; mapping = m; request = c.request }) (same_option c.mapping)

same_array : {F N : Type 0} (h : F → F) (c : ArrayCall F N) (rest : List F) → All (IsKept h) (c.arch ∷ c.bits ∷ c.image ∷ rest) → array_map h (λ n. n) c ≡ c
same_array h c rest all =
    let tail = All-tail (IsKept h) c.arch (c.bits ∷ c.image ∷ rest) all in
    let e0 = All-head (IsKept h) c.arch (c.bits ∷ c.image ∷ rest) all in
    let e1 = All-head (IsKept h) c.bits (c.image ∷ rest) tail in
    let e2 = All-head (IsKept h) c.image rest (All-tail (IsKept h) c.bits (c.image ∷ rest) tail) in
    ap (λ z. record { arch = z; bits = h c.bits; turns = c.turns; image = h c.image; out = c.out }) e0
    ∙ ap (λ z. record { arch = c.arch; bits = z; turns = c.turns; image = h c.image; out = c.out }) e1
    ∙ ap (λ z. record { arch = c.arch; bits = c.bits; turns = c.turns; image = z; out = c.out }) e2

pub map_same : {F N : Type 0} (h : F → F) (c : Command F N) → All (IsKept h) (inputs_of c) → command_map h (λ n. n) c ≡ c
map_same h (Turns kernel turns) all =
    let e0 = All-head (IsKept h) kernel [] all in
    ap (λ z. Turns z turns) e0
map_same h (TurnsOnImage kernel turns image out) all =
    let e0 = All-head (IsKept h) kernel (image ∷ []) all in
    let e1 = All-head (IsKept h) image [] (All-tail (IsKept h) kernel (image ∷ []) all) in
    ap (λ z. TurnsOnImage z turns (h image) out) e0
    ∙ ap (λ z. TurnsOnImage kernel turns z out) e1
map_same h (Flat arch out) all =
    let e0 = All-head (IsKept h) arch [] all in
    ap (λ z. Flat z out) e0
map_same h (Run call None) all = ap (λ z. Run z None) (same_array h call [] all)
map_same h (Run call (Some netlist)) all =
    let rest = netlist ∷ [] in
    let tail = All-tail (IsKept h) call.arch (call.bits ∷ call.image ∷ rest) all in
    let e3 = All-head (IsKept h) netlist [] (All-tail (IsKept h) call.image rest (All-tail (IsKept h) call.bits (call.image ∷ rest) tail)) in
    ap (λ z. Run z (Some (h netlist))) (same_array h call rest all)
    ∙ ap (λ z. Run call (Some z)) e3
map_same h (Bound arch kernel) all =
    let e0 = All-head (IsKept h) arch (kernel ∷ []) all in
    let e1 = All-head (IsKept h) kernel [] (All-tail (IsKept h) arch (kernel ∷ []) all) in
    ap (λ z. Bound z (h kernel)) e0
    ∙ ap (λ z. Bound arch z) e1
map_same h (Check arch kernel mapping) all =
    let e0 = All-head (IsKept h) arch (kernel ∷ mapping ∷ []) all in
    let e1 = All-head (IsKept h) kernel (mapping ∷ []) (All-tail (IsKept h) arch (kernel ∷ mapping ∷ []) all) in
    let e2 = All-head (IsKept h) mapping [] (All-tail (IsKept h) kernel (mapping ∷ []) (All-tail (IsKept h) arch (kernel ∷ mapping ∷ []) all)) in
    ap (λ z. Check z (h kernel) (h mapping)) e0
    ∙ ap (λ z. Check arch z (h mapping)) e1
    ∙ ap (λ z. Check arch kernel z) e2
map_same h (Emit arch kernel mapping out) all =
    let e0 = All-head (IsKept h) arch (kernel ∷ mapping ∷ []) all in
    let e1 = All-head (IsKept h) kernel (mapping ∷ []) (All-tail (IsKept h) arch (kernel ∷ mapping ∷ []) all) in
    let e2 = All-head (IsKept h) mapping [] (All-tail (IsKept h) kernel (mapping ∷ []) (All-tail (IsKept h) arch (kernel ∷ mapping ∷ []) all)) in
    ap (λ z. Emit z (h kernel) (h mapping) out) e0
    ∙ ap (λ z. Emit arch z (h mapping) out) e1
    ∙ ap (λ z. Emit arch kernel z out) e2
map_same h (Map call) all = ap Map (same_call h call all)
map_same h (Search call) all = ap Search (same_call h call all)
map_same h (Show arch kernel mapping out) all =
    let e0 = All-head (IsKept h) arch (kernel ∷ mapping ∷ []) all in
    let e1 = All-head (IsKept h) kernel (mapping ∷ []) (All-tail (IsKept h) arch (kernel ∷ mapping ∷ []) all) in
    let e2 = All-head (IsKept h) mapping [] (All-tail (IsKept h) kernel (mapping ∷ []) (All-tail (IsKept h) arch (kernel ∷ mapping ∷ []) all)) in
    ap (λ z. Show z (h kernel) (h mapping) (option_map (λ n. n) out)) e0
    ∙ ap (λ z. Show arch z (h mapping) (option_map (λ n. n) out)) e1
    ∙ ap (λ z. Show arch kernel z (option_map (λ n. n) out)) e2
    ∙ ap (λ z. Show arch kernel mapping z) (same_option out)
map_same h (Trial seed) all = refl
map_same h (Verilog arch out) all =
    let e0 = All-head (IsKept h) arch [] all in
    ap (λ z. Verilog z out) e0
map_same h (Loop source out) all =
    let e0 = All-head (IsKept h) source [] all in
    ap (λ z. Loop z out) e0
map_same h (Depend kernel out) all =
    let e0 = All-head (IsKept h) kernel [] all in
    ap (λ z. Depend z out) e0
map_same h (Simplify kernel out copies share) all =
    let e0 = All-head (IsKept h) kernel [] all in
    ap (λ z. Simplify z out copies share) e0
map_same h (Migrate arch bits out) all =
    let e0 = All-head (IsKept h) arch (bits ∷ []) all in
    let e1 = All-head (IsKept h) bits [] (All-tail (IsKept h) arch (bits ∷ []) all) in
    ap (λ z. Migrate z (h bits) out) e0
    ∙ ap (λ z. Migrate arch z out) e1
map_same h (Bench call) all = ap Bench (same_array h call [] all)
map_same h (Image text out) all =
    let e0 = All-head (IsKept h) text [] all in
    ap (λ z. Image z out) e0
map_same h (Words image) all =
    let e0 = All-head (IsKept h) image [] all in
    ap (λ z. Words z) e0
map_same h (Violations arch kernel mapping) all =
    let e0 = All-head (IsKept h) arch (kernel ∷ mapping ∷ []) all in
    let e1 = All-head (IsKept h) kernel (mapping ∷ []) (All-tail (IsKept h) arch (kernel ∷ mapping ∷ []) all) in
    let e2 = All-head (IsKept h) mapping [] (All-tail (IsKept h) kernel (mapping ∷ []) (All-tail (IsKept h) arch (kernel ∷ mapping ∷ []) all)) in
    ap (λ z. Violations z (h kernel) (h mapping)) e0
    ∙ ap (λ z. Violations arch z (h mapping)) e1
    ∙ ap (λ z. Violations arch kernel z) e2
map_same h (Why arch kernel) all =
    let e0 = All-head (IsKept h) arch (kernel ∷ []) all in
    let e1 = All-head (IsKept h) kernel [] (All-tail (IsKept h) arch (kernel ∷ []) all) in
    ap (λ z. Why z (h kernel)) e0
    ∙ ap (λ z. Why arch z) e1

-- the output files are those of the command
pub outputs_kept : {F G N : Type 0} (f : F → G) (c : Command F N) → outputs_of (command_map f (λ n. n) c) ≡ outputs_of c
outputs_kept f (Turns kernel turns) = refl
outputs_kept f (TurnsOnImage kernel turns image out) = refl
outputs_kept f (Flat arch out) = refl
outputs_kept f (Run call netlist) = refl
outputs_kept f (Bound arch kernel) = refl
outputs_kept f (Check arch kernel mapping) = refl
outputs_kept f (Emit arch kernel mapping out) = refl
outputs_kept f (Map call) = ap (λ m. call.out ∷ listed m) (same_option call.mapping)
outputs_kept f (Search call) = ap (λ m. call.out ∷ listed m) (same_option call.mapping)
outputs_kept f (Show arch kernel mapping out) = ap listed (same_option out)
outputs_kept f (Trial seed) = refl
outputs_kept f (Verilog arch out) = refl
outputs_kept f (Loop source out) = refl
outputs_kept f (Depend kernel out) = refl
outputs_kept f (Simplify kernel out copies share) = refl
outputs_kept f (Migrate arch bits out) = refl
outputs_kept f (Bench call) = refl
outputs_kept f (Image text out) = refl
outputs_kept f (Words image) = refl
outputs_kept f (Violations arch kernel mapping) = refl
outputs_kept f (Why arch kernel) = refl

-- the numbers are the same
pub map_ranged : {F G N M : Type 0} (f : F → G) (g : N → M) (c : Command F N) → IsRanged c → IsRanged (command_map f g c)
map_ranged f g (Turns kernel turns) r = r
map_ranged f g (TurnsOnImage kernel turns image out) r = r
map_ranged f g (Flat arch out) r = r
map_ranged f g (Run call netlist) r = r
map_ranged f g (Bound arch kernel) r = r
map_ranged f g (Check arch kernel mapping) r = r
map_ranged f g (Emit arch kernel mapping out) r = r
map_ranged f g (Map call) r = r
map_ranged f g (Search call) r = r
map_ranged f g (Show arch kernel mapping out) r = r
map_ranged f g (Trial seed) r = r
map_ranged f g (Verilog arch out) r = r
map_ranged f g (Loop source out) r = r
map_ranged f g (Depend kernel out) r = r
map_ranged f g (Simplify kernel out copies share) r = r
map_ranged f g (Migrate arch bits out) r = r
map_ranged f g (Bench call) r = r
map_ranged f g (Image text out) r = r
map_ranged f g (Words image) r = r
map_ranged f g (Violations arch kernel mapping) r = r
map_ranged f g (Why arch kernel) r = r
