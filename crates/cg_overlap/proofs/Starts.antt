-- What the units begin: each node in each turn, on the operands of that turn, and nothing else.
use Rattle.std.proofs.Common.{◌≡◌, ℕ, zero, suc, ◌+◌, ◌-◌, ◌*◌, ◌/◌, ◌%◌, ◌<◌, ◌≤◌, List, [], ◌∷◌, length, Option, Some, None, get_or, refl, sym, ap, subst, ◌∙◌, arith, ⊎_elim}
use Rattle.std.specs.Prelude.{slice_get, slice_index_or, map}
use Rattle.std.specs.Prelude.{replicate}
use Rattle.std.proofs.lemmas.List.{length-map, length-replicate, get_or-replicate, get_or_append_left, get_or-append_right, get_or_past}
use Rattle.std.proofs.lemmas.List.FromFn.{fill_by_all}
use Rattle.std.proofs.lemmas.Option.{slice_get-get_or, slice_get-map, get_or_from_slice_get, cond_some}
use Rattle.std.specs.Option.{option_map}
use Rattle.std.proofs.lemmas.Bool.{cases_lt, cond-true, le-ltb, lt-ltb, le-leb, leb-true, ltb-true, and_from, and_parts}
use Rattle.cg_word.specs.Word.{arity}
use Rattle.cg_model.specs.Work.{Image, Work}
use Rattle.cg_model.specs.declared.kernel.Node.{Node}
use Rattle.cg_model.specs.declared.kernel.Operand.{Operand}
use Rattle.cg_model.specs.declared.kernel.Operand.TheVariants.{Const as Constant, Edge}
use Rattle.cg_model.specs.Kernel.{Kernel, HasOperand, IsKernel, node, size}
use Rattle.cg_model.specs.Turns.{operand, work_of, val}
use Rattle.cg_model.specs.Array.{Arch, IsArch, unit}
use Rattle.cg_model.specs.Mapping.{Mapping, place, IsLegal}
use Rattle.cg_model.specs.declared.config.UnitFields.{UnitFields}
use Rattle.cg_model.specs.Config.{fields, no_arg}
use Rattle.cg_model.specs.Configured.{padded, configuration_of, constant, arg_fields, node_fields, node_on, fields_by}
use Rattle.cg_model.specs.Machine.{driven, argument, arguments, active, begun, word, begins, result}
use Rattle.cg_overlap.proofs.Facts.{slot_of, round_of, turn_of}
use Rattle.cg_overlap.proofs.Selects.{fields_at, fields_right, node_found}
use Rattle.cg_overlap.proofs.Travel.{config_ii, brought}

delayed : (t i d ii : ℕ) → d ≤ i → t + ii * d + (i - d) * ii ≡ t + i * ii
delayed t i d ii l =
    let z : i - d + d ≡ i = omega arith in
    let e : t + ii * d + (i - d) * ii ≡ t + (i - d + d) * ii = omega arith in
    e ∙ ap (λ j. t + j * ii) z

-- a node's only constant
constant_is : (os : List Operand) (p w : ℕ) → slice_get os p ≡ Some (Constant w) → ((q u : ℕ) → slice_get os q ≡ Some (Constant u) → p ≡ q) → constant os ≡ w
constant_is [] p w e h = absurd (cc)
constant_is (Constant u ∷ os) p w e h = let z : p ≡ 0 = h 0 u refl in let e' = rw z at e in cc
constant_is (Edge u d init ∷ os) zero w e h = absurd (cc)
constant_is (Edge u d init ∷ os) (suc p) w e h = constant_is os p w e (λ q y k. let z : suc p ≡ suc q = h (suc q) y k in omega arith)

get_or-replicate_same : {X : Type 0} (n i : ℕ) (d : X) → get_or (replicate n d) i d ≡ d
get_or-replicate_same n i d =
    ⊎_elim (λ l. get_or-replicate n i d d l) (λ l. get_or_past (replicate n d) i d (omega (arith, length-replicate n d))) (cases_lt i n)

-- padding is read as what is past the end
pub get_or-padded : {X : Type 0} (k : ℕ) (xs : List X) (i : ℕ) (d : X) → get_or (padded k d xs) i d ≡ get_or xs i d
get_or-padded k xs i d =
    ⊎_elim (λ l. get_or_append_left xs _ d i l)
    (λ l. get_or-append_right xs (replicate (k - length xs) d) (length xs) i d refl l ∙ get_or-replicate_same (k - length xs) (i - length xs) d ∙ sym (get_or_past xs i d l))
    (cases_lt i (length xs))

pub get_or-map_at : {X Y : Type 0} (f : X → Y) (xs : List X) (k : ℕ) (x : X) (d : Y) → slice_get xs k ≡ Some x → get_or (map f xs) k d ≡ f x
get_or-map_at f xs k x d e = get_or_from_slice_get (map f xs) k (f x) d (slice_get-map f xs k ∙ ap (option_map f) e)

-- one argument: `word` is on the port where an earlier turn's value is asked for
argument_is : (f : UnitFields) (i word : ℕ) (earlier : ℕ → ℕ → ℕ) (o : Operand) → ((w : ℕ) → o ≡ Constant w → f.immediate ≡ w) →
    ((u d : ℕ) (init : List ℕ) → o ≡ Edge u d init → d ≤ i → word ≡ earlier u (i - d)) → operand earlier i o ≡ argument f i word (arg_fields o)
argument_is f i word earlier (Constant w) h k = sym (h w refl)
argument_is f i word earlier (Edge u d init) h k =
    ⊎_elim (λ a. rw (lt-ltb i d a) (sym (get_or-padded 4 init i 0))) (λ a. rw (le-ltb i d a) (sym (k u d init refl a))) (cases_lt i d)

-- a node's fields, in the round of turn i
begun_is : (v : Node) (stage n round i : ℕ) (on_port : ℕ → ℕ) (earlier : ℕ → ℕ → ℕ) → round ≡ stage + i → i < n → length v.operands ≡ arity v.op →
    ((p q a b : ℕ) → slice_get v.operands p ≡ Some (Constant a) → slice_get v.operands q ≡ Some (Constant b) → p ≡ q) →
    ((p u d : ℕ) (init : List ℕ) → slice_get v.operands p ≡ Some (Edge u d init) → d ≤ i → on_port p ≡ earlier u (i - d)) →
    begun (node_fields v stage) n round on_port ≡ Some (work_of v i earlier)
begun_is v stage n round i on_port earlier e l len one words =
    let turn : round - stage ≡ i = omega arith in
    let f = node_fields v stage in
    let args : map (operand earlier i) v.operands ≡ arguments f i on_port (arity v.op) =
    fill_by_all (λ p. argument f i (on_port p) (slice_index_or f.args p no_arg)) (map (operand earlier i) v.operands) (arity v.op) 0
    (length-map v.operands (operand earlier i) ∙ len)
    (λ k h.
    let o = get_or v.operands k (Constant 0) in
    let at : slice_get v.operands k ≡ Some o = slice_get-get_or v.operands k (Constant 0) (rw len h) in
    get_or-map_at (operand earlier i) v.operands k o 0 at
    ∙ argument_is f i (on_port k) earlier o (λ w c. constant_is v.operands k w (at ∙ ap Some c) (λ q u z. one k q w u (at ∙ ap Some c) z)) (λ u d init c. words k u d init (at ∙ ap Some c))
    ∙ ap (argument f i (on_port k)) (sym (get_or-padded 3 (map arg_fields v.operands) k no_arg ∙ get_or-map_at arg_fields v.operands k o no_arg at))) in
    cond-true (active f n round) _ _ (and_from _ _ (le-leb stage round (omega arith)) (lt-ltb round (stage + n) (omega arith)))
    ∙ rw turn (ap (λ xs. Some (record { op = v.op; port = v.port; turn = i; args = xs })) (sym args))

module _ (A : Arch) (K : Kernel) (M : Mapping) (n : ℕ) (image : Image) (is : IsArch A) (good : IsKernel K) (legal : IsLegal A K M) where
  -- a node begins its turn on the values of its sources, if the units gave those
  pub starts : (v i : ℕ) → v < size K → i < n →
      ((p u d : ℕ) (init : List ℕ) → HasOperand K v p (Edge u d init) → d ≤ i → result A (configuration_of A K M) n image (place M u).unit ((place M u).time + (i - d) * M.ii) ≡ val K image u (i - d)) →
      begins A (configuration_of A K M) n image (place M v).unit ((place M v).time + i * M.ii) ≡ Some (work_of (node K v) i (val K image))
  starts v i lv li given =
      let c = (place M v).time + i * M.ii in
      let C = configuration_of A K M in
      let programmed : fields C (place M v).unit (c % C.ii) ≡ node_fields (node K v) ((place M v).time / M.ii) =
      rw (config_ii A K M) (fields_right A K M legal v c lv (sym (slot_of c (place M v).time i M.ii refl))) in
      let round : c / C.ii ≡ (place M v).time / M.ii + i = rw (config_ii A K M) (round_of c (place M v).time i M.ii legal.interval refl) in
      let port : ℕ → ℕ = λ p. driven (λ q. word A C n image q c) (slice_get (unit A (place M v).unit).ports p) in
      ap (λ f. begun f n (c / C.ii) port) programmed
      ∙ begun_is (node K v) ((place M v).time / M.ii) n (c / C.ii) i port (val K image) round li (good.arities v lv) (λ p q a b. good.one_constant v p q a b lv)
      (λ p u d init o l.
      let e : (place M v).time + M.ii * d + (i - d) * M.ii ≡ (place M v).time + i * M.ii = delayed (place M v).time i d M.ii l in
      subst (λ z. driven (λ q. word A C n image q z) (slice_get (unit A (place M v).unit).ports p) ≡ val K image u (i - d)) e (brought A K M n image is legal v p u d init (i - d) (val K image u (i - d)) lv (good.wired.sources v p u d init lv o) o (given p u d init o l)))

-- a unit that begins something has a node there, in one of the n turns
begun_from : (v : Node) (stage n round : ℕ) (on_port : ℕ → ℕ) (w : Work) → begun (node_fields v stage) n round on_port ≡ Some w → (stage ≤ round) × (round < stage + n)
begun_from v stage n round on_port w e =
    let (a, b) = and_parts _ _ (cond_some (active (node_fields v stage) n round) _ w e).0 in
    (leb-true stage round a, ltb-true round (stage + n) b)

begun_by_node : (K : Kernel) (M : Mapping) (x slot n round : ℕ) (on_port : ℕ → ℕ) (w : Work) (o : Option ℕ) → node_on M x slot (size K) ≡ o → begun (fields_by K M o) n round on_port ≡ Some w →
    (v : ℕ) × (v < size K) × ((place M v).unit ≡ x) × ((place M v).time % M.ii ≡ slot) × ((place M v).time / M.ii ≤ round) × (round < (place M v).time / M.ii + n)
begun_by_node K M x slot n round on_port w None e h = absurd (cc)
begun_by_node K M x slot n round on_port w (Some v) e h =
    let (a, b, c) = node_found M x slot (size K) v e in
    let (d, f) = begun_from (node K v) ((place M v).time / M.ii) n round on_port w h in
    (v, a, b, c, d, f)

pub started : (A : Arch) (K : Kernel) (M : Mapping) (n : ℕ) (image : Image) (x c : ℕ) (w : Work) → 0 < M.ii → x < length A.units → begins A (configuration_of A K M) n image x c ≡ Some w →
    (v : ℕ) × (i : ℕ) × (v < size K) × (i < n) × ((place M v).unit ≡ x) × (c ≡ (place M v).time + i * M.ii)
started A K M n image x c w h l e =
    let C = configuration_of A K M in
    let (v, a, b, s, d, f) = begun_by_node K M x (c % M.ii) n (c / M.ii) (λ p. driven (λ q. word A C n image q c) (slice_get (unit A x).ports p)) w (node_on M x (c % M.ii) (size K)) refl
    (sym (ap (λ z. begun (fields_by K M (node_on M x (c % M.ii) (size K))) n (c / z) (λ p. driven (λ q. word A C n image q c) (slice_get (unit A x).ports p))) (config_ii A K M))
    ∙ sym (ap (λ f. begun f n (c / C.ii) (λ p. driven (λ q. word A C n image q c) (slice_get (unit A x).ports p))) (rw (config_ii A K M) (fields_at A K M x c h l))) ∙ e) in
    let r : c / M.ii ≡ (place M v).time / M.ii + (c / M.ii - (place M v).time / M.ii) = omega arith in
    (v, c / M.ii - (place M v).time / M.ii, a, omega arith, b, turn_of c (place M v).time (c / M.ii - (place M v).time / M.ii) M.ii r (sym s))
