-- The parts have no fault.
use Rattle.std.proofs.Common.{◌≡◌, ℕ, zero, suc, ◌+◌, ◌-◌, ◌*◌, ◌<◌, ◌≤◌, ◌⊎◌, inl, inr, ◌||◌, Bool, true, false, not, cond, eqb, List, [], ◌∷◌, ◌++◌, length, get_or, Option, Some, None, refl, ap, ap₂, sym, ◌∙◌, subst, arith, lit<, lit≤, append_assoc, length-append, ⊎_elim, bytes_eq, Contains}
use Rattle.std.specs.Prelude.{map, fold, flat_map, count_by, slice_get, nat_lt}
use Rattle.std.specs.Option.{option_map, option_map_or, option_or, is_none}
use Rattle.std.specs.List.{range_with_len, position_from, list_any}
use Rattle.std.proofs.lemmas.Bool.{cases_lt, le-ltb, eq-eqb}
use Rattle.std.proofs.lemmas.List.{get_or-append_right}
use Rattle.std.proofs.Math.Bool.{or-true}
use Rattle.std.proofs.Math.ListN.{get_or-append}
use Rattle.std.proofs.lemmas.List.FromFn.{length-map-range_with_len, get_or-map-range_with_len}
use Rattle.cg_model.specs.declared.array.Kind.{Kind}
use Rattle.cg_model.specs.declared.array.Kind.TheVariants.{Wire, Register, Port, Out}
use Rattle.cg_model.specs.declared.array.Resource.{Resource}
use Rattle.cg_model.specs.Array.{Arch, resource, delay_by}
use Rattle.cg_model.specs.First.{first_from, first_such, is_before}
use Rattle.cg_levelize.specs.Topological.{Passes, IsCombinationalLoop, resource_at}
use Rattle.cg_levelize.proofs.Levels.{levels_no_loop}
use Rattle.cg_parts.specs.declared.parts.Element.{Element}
use Rattle.cg_parts.specs.declared.entry.Entry.{Entry}
use Rattle.cg_parts.specs.Parts.{distinct}
use Rattle.cg_parts.specs.Numbers.{is_named, claims, claimer_of}
use Rattle.cg_parts.specs.declared.fault.ArchFault.{ArchFault}
use Rattle.cg_parts.specs.declared.fault.ArchFault.TheVariants as fault
use Rattle.cg_parts.specs.declared.fault.HubPlace.TheVariants as hub
use Rattle.cg_parts.specs.declared.fault.NamePlace.TheVariants as place
use Rattle.cg_parts.specs.declared.fault.DriverPlace.{DriverPlace}
use Rattle.cg_parts.specs.declared.drivers.DriverRule.{DriverRule}
use Rattle.cg_parts.specs.declared.drivers.DriverRule.TheVariants.{UnknownDriver, PortDrives}
use Rattle.cg_parts.specs.Rules.{links, is_unit, too_large, has_bad_name, bad_name, repeats_by, repeated_name, is_port, is_port_at, is_wrong, first_driver, wrong_driver, fault_before_loops, is_bad_unit, unit_or_contexts_fault}
use Rattle.cg_validate.specs.Flat.{arch_of}
use Rattle.cg_validate.specs.Hub.{is_register, is_register_at, names_register, first_bad_entry, first_missing, missing, missing_link, hub_fault}
use Rattle.cg_validate.specs.Answer.{HasNoCombinationalLoop, IsFault, early, a_loop, late, fault_after_loops}
use Rattle.cg_validate.proofs.Places.{get_right}
use Rattle.cg_trial.specs.Trial.{unit_names, out_names, register_name, register_names, register_part, unit_part, parts_with}
use Rattle.cg_trial.proofs.Numerals.{numbered}
use Rattle.cg_trial.proofs.Scans.{past, first_from_range, position_from_range, position_from_found, first_such_range, first_such-append, any_last}
use Rattle.cg_trial.proofs.Named.{name_same, name_apart, distinct_registers, distinct_drivers}
use Rattle.cg_trial.proofs.Whole.{all_elements, register_entry, unit_entries, all_entries, entries_are, register_number, other_number}
use Rattle.cg_trial.proofs.Built.{all_drivers, flat_register, flat_unit, flat_resources, flat_arch, arch_is}
use Rattle.cg_model.proofs.Ranges.{Contains-range}
use Rattle.cg_model.proofs.Lookups.{Contains-nil}

-- ---- lists that begin with what the registers make

links_range : (n c a m : ℕ) (ys : List Entry) → length (distinct (out_names ++ register_names n)) ≡ c → links (map (register_entry n) (range_with_len a m) ++ ys) ≡ m * c + links ys
links_range n c a zero ys e = omega arith
links_range n c a (suc m) ys e = let h : links (map (register_entry n) (range_with_len (a + 1) m) ++ ys) ≡ m * c + links ys = links_range n c (a + 1) m ys e in omega (arith, h, e)

count_range : (n a m acc : ℕ) (ys : List Element)
    → fold (λ k x. k + cond (is_unit x) 1 0) acc (map (register_part n) (range_with_len a m) ++ ys) ≡ fold (λ k x. k + cond (is_unit x) 1 0) acc ys
count_range n a zero acc ys = refl
count_range n a (suc m) acc ys =
    let s : acc + 0 ≡ acc = omega arith in
    ap (λ z. fold (λ k x. k + cond (is_unit x) 1 0) z (map (register_part n) (range_with_len (a + 1) m) ++ ys)) s ∙ count_range n (a + 1) m acc ys

-- no driver of a register or of a unit is wrong
drivers_range : (test : List ℕ → Bool) (n v a m : ℕ) (ys : List Element) → first_such test (out_names ++ register_names n) ≡ None
    → first_driver test v (map (register_part n) (range_with_len a m) ++ ys) ≡ first_driver test (v + m) ys
drivers_range test n v a zero ys h = let s : v ≡ v + 0 = omega arith in ap (λ z. first_driver test z ys) s
drivers_range test n v a (suc m) ys h =
    let rest : Option DriverPlace = first_driver test (v + 1) (map (register_part n) (range_with_len (a + 1) m) ++ ys) in
    let s : v + 1 + m ≡ v + suc m = omega arith in
    ap (λ o. option_or (option_map (λ name. record { element = v; name = name }) o) rest) h
    ∙ drivers_range test n (v + 1) (a + 1) m ys h
    ∙ ap (λ z. first_driver test z ys) s

drivers_units : (test : List ℕ → Bool) (n v : ℕ) (names : List (List ℕ)) → first_such test (register_names n) ≡ None → first_driver test v (map (unit_part n) names) ≡ None
drivers_units test n v [] h = refl
drivers_units test n v (name ∷ names) h =
    let rest : Option DriverPlace = first_driver test (v + 1) (map (unit_part n) names) in
    let hs : List (List ℕ) = register_names n in
    ap (λ o. option_or (option_map (λ name. record { element = v; name = name }) o) rest)
    (first_such-append test (register_names n) (register_names n ++ (register_names n ++ [])) h
    (first_such-append test (register_names n) (register_names n ++ []) h (first_such-append test (register_names n) [] h refl)))
    ∙ drivers_units test n (v + 1) names h

-- ---- claimed names

-- the units claim other names than the elements before them
units_unrepeated : (n : ℕ) (c : List ℕ → Option ℕ) → ((s : List ℕ) → c (117 ∷ s) ≡ position_from (claims (117 ∷ s)) 96 (map (unit_part n) unit_names))
    → first_from (repeats_by c) 96 (map (unit_part n) unit_names) ≡ None
units_unrepeated n c e = simp e refl

get_range : {X : Type 0} (f : ℕ → X) (a m k : ℕ) (ys : List X) → k < m → slice_get (map f (range_with_len a m) ++ ys) k ≡ Some (f (a + k))
get_range f a zero k ys l = absurd (omega arith)
get_range f a (suc m) zero ys l = let s : a ≡ a + 0 = omega arith in ap (λ z. Some (f z)) s
get_range f a (suc m) (suc k) ys l = let s : a + 1 + k ≡ a + suc k = omega arith in get_range f (a + 1) m k ys (omega arith) ∙ ap (λ z. Some (f z)) s

-- ---- hubs

not_none : (f : ArchFault) → None ≡ Some f → ⊥
not_none f e = cc

-- each name is a register's, and none that was met before
hub_entries : (rs : List Entry) (before : List (List ℕ)) (a m e : ℕ) → e ≡ a + m → e ≤ 1000 → ((k : ℕ) → k < e → names_register rs (register_name k) ≡ true)
    → ((k : ℕ) → a ≤ k → k < e → list_any (bytes_eq (register_name k)) before ≡ false) → first_bad_entry rs before (map register_name (range_with_len a m)) ≡ None
hub_entries rs before a zero e s t h g = refl
hub_entries rs before a (suc m) e s t h g =
    past (not (names_register rs (register_name a)) || list_any (bytes_eq (register_name a)) before) (Some (register_name a)) (first_bad_entry rs (before ++ register_name a ∷ []) (map register_name (range_with_len (a + 1) m)))
    (ap₂ (λ x y. not x || y) (h a (omega arith)) (g a (omega arith) (omega arith)))
    ∙ hub_entries rs (before ++ register_name a ∷ []) (a + 1) m e (omega arith) t h
    (λ k l u. any_last (bytes_eq (register_name k)) before (register_name a) (g k (omega arith) u) (name_apart k a (omega arith) (omega arith) (omega arith)))

any_here : (pre : List ℕ) (x : ℕ) (xs : List ℕ) → list_any (eqb x) (pre ++ x ∷ xs) ≡ true
any_here [] x xs = ap (λ b. b || list_any (eqb x) xs) (eq-eqb x x refl)
any_here (y ∷ pre) x xs = ap (λ b. eqb x y || b) (any_here pre x xs) ∙ or-true (eqb x y)

-- each number of a list is in it
all_found : (pre xs : List ℕ) → first_such (λ q. not (list_any (eqb q) (pre ++ xs))) xs ≡ None
all_found pre [] = refl
all_found pre (x ∷ xs) =
    past (not (list_any (eqb x) (pre ++ x ∷ xs))) (Some x) (first_such (λ q. not (list_any (eqb q) (pre ++ x ∷ xs))) xs) (ap not (any_here pre x xs))
    ∙ subst (λ ys. first_such (λ q. not (list_any (eqb q) ys)) xs ≡ None) (append_assoc pre (x ∷ []) xs) (all_found (pre ++ x ∷ []) xs)

-- no link is missing into a resource that has those drivers
none_missing : (A : Arch) (sources : List ℕ) (r : ℕ) (rs : List ℕ) → (resource A r).drivers ≡ sources → first_missing A sources rs ≡ None → first_missing A sources (r ∷ rs) ≡ None
none_missing A sources r rs e h =
    ap₂ (λ x y. option_or (option_map (λ q. missing A q r) x) y)
    (ap (λ ds. first_such (λ q. not (list_any (eqb q) ds)) sources) e ∙ all_found [] sources) h

links_into : (A : Arch) (sources : List ℕ) (a m : ℕ) → ((k : ℕ) → a ≤ k → k < a + m → (resource A k).drivers ≡ sources) → first_missing A sources (range_with_len a m) ≡ None
links_into A sources a zero h = refl
links_into A sources a (suc m) h = none_missing A sources a (range_with_len (a + 1) m) (h a (omega arith) (omega arith)) (links_into A sources (a + 1) m (λ k l u. h k (omega arith) (omega arith)))

-- ---- loops

-- a register, a port that registers drive, or without drivers
abbrev IsPlain : ℕ → Resource → Type 0
IsPlain n r = (r.kind ≡ Register) ⊎ (((r.kind ≡ Port) × (r.drivers ≡ range_with_len 0 n)) ⊎ (r.drivers ≡ []))

abbrev ArePlain : ℕ → List Resource → Type 0
ArePlain n [] = Unit {0}
ArePlain n (r ∷ rs) = IsPlain n r × ArePlain n rs

plain_in : (n j : ℕ) (rs : List Resource) (d : Resource) → ArePlain n rs → IsPlain n d → IsPlain n (get_or rs j d)
plain_in n j [] d h k = k
plain_in n zero (r ∷ rs) d h k = h.0
plain_in n (suc j) (r ∷ rs) d h k = plain_in n j rs d h.1 k

units_plain : (n : ℕ) (names : List (List ℕ)) → ArePlain n (flat_map (flat_unit n) names)
units_plain n [] = tt
units_plain n (name ∷ names) = (inr (inl (refl, refl)), (inr (inl (refl, refl)), (inr (inl (refl, refl)), (inr (inr refl), units_plain n names))))

-- ports are above all others
abbrev height : Kind → ℕ
height Wire = 0
height Register = 0
height Port = 1
height Out = 0

height_low : (k : Kind) → height k < 2
height_low Wire = lit< tt
height_low Register = lit< tt
height_low Port = lit< tt
height_low Out = lit< tt

module _ (n : ℕ) (is : 96 ≡ n) where
  small : n ≤ 1000
  small = omega arith

  -- ---- A1

  register_drivers_length : length (distinct (out_names ++ register_names n)) ≡ 100
  register_drivers_length =
      let l : length (register_names n) ≡ n = length-map-range_with_len register_name 0 n in
      ap length (distinct_drivers n small) ∙ (let s : suc (suc (suc (suc (length (register_names n))))) ≡ 100 = omega arith in s)

  port_drivers_length : length (distinct (register_names n)) ≡ 96
  port_drivers_length = ap length (distinct_registers n small) ∙ length-map-range_with_len register_name 0 n ∙ sym is

  entries_length : length (all_entries n) ≡ 112
  entries_length =
      length-append (map (register_entry n) (range_with_len 0 n)) (unit_entries n) ∙ ap (λ k. k + 16) (length-map-range_with_len (register_entry n) 0 n ∙ sym is)

  links_few : links (all_entries n) ≤ 65536
  links_few =
      let all : links (all_entries n) ≡ n * 100 + links (unit_entries n) = links_range n 100 0 n (unit_entries n) register_drivers_length in
      let d : length (distinct (register_names n)) ≡ 96 = port_drivers_length in
      omega (arith, all, d)

  units_few : count_by is_unit (all_elements n) ≡ 4
  units_few = count_range n 0 n 0 (map (unit_part n) unit_names)

  small_enough : too_large (parts_with n) (all_entries n) ≡ None
  unfolding parts_with
  small_enough =
      let a : length (all_entries n) ≤ 4096 = omega (arith, entries_length) in
      let b : count_by is_unit (all_elements n) ≤ 1024 = omega (arith, units_few) in
      past (nat_lt 4096 (length (all_entries n))) _ _ (le-ltb 4096 (length (all_entries n)) a)
      ∙ past (nat_lt 65536 (links (all_entries n))) _ _ (le-ltb 65536 (links (all_entries n)) links_few)
      ∙ past (nat_lt 1024 (count_by is_unit (all_elements n))) _ _ (le-ltb 1024 (count_by is_unit (all_elements n)) b)

  -- ---- A2

  names_good : bad_name (parts_with n) ≡ None
  unfolding parts_with
  names_good =
      ap (option_map place.Element)
      (first_from_range (register_part n) (λ number e. has_bad_name e) 0 n 96 (map (unit_part n) unit_names) (omega arith)
      (λ k l u. ap not (numbered 104 40 k refl refl refl refl (omega arith))))

  -- ---- A3

  own_number : (k : ℕ) → k < n → claimer_of (all_elements n) (register_name k) ≡ Some k
  own_number k u =
      position_from_found (register_part n) (claims (register_name k)) 0 n k (map (unit_part n) unit_names) (omega arith) (omega arith)
      (λ j l v. ap (λ b. b || false) (name_apart j k (omega arith) (omega arith) (omega arith))) (ap (λ b. b || false) (name_same k))

  unit_number : (s : List ℕ) → claimer_of (all_elements n) (117 ∷ s) ≡ position_from (claims (117 ∷ s)) 96 (map (unit_part n) unit_names)
  unit_number s = position_from_range (register_part n) (claims (117 ∷ s)) 0 n 96 (map (unit_part n) unit_names) (omega arith) (λ k l u. refl)

  none_repeated : repeated_name (all_elements n) ≡ None
  none_repeated =
      first_from_range (register_part n) (repeats_by (claimer_of (all_elements n))) 0 n 96 (map (unit_part n) unit_names) (omega arith)
      (λ k l u. ap (λ o. is_before o k || false) (own_number k (omega arith)) ∙ ap (λ b. b || false) (le-ltb k k (omega arith)))
      ∙ units_unrepeated n (claimer_of (all_elements n)) unit_number

  -- ---- A4, A5

  get_register : (k : ℕ) → k < n → slice_get (all_entries n) k ≡ Some (register_entry n k)
  get_register k u = let s : 0 + k ≡ k = omega arith in get_range (register_entry n) 0 n k (unit_entries n) u ∙ ap (λ z. Some (register_entry n z)) s

  get_unit : (j : ℕ) → slice_get (all_entries n) (96 + j) ≡ slice_get (unit_entries n) j
  get_unit j =
      let l : length (map (register_entry n) (range_with_len 0 n)) ≡ n = length-map-range_with_len (register_entry n) 0 n in
      get_right (map (register_entry n) (range_with_len 0 n)) (unit_entries n) (96 + j) j (omega arith)

  no_wrong : (rule : DriverRule) → ((k : ℕ) → k < n → is_wrong rule (all_entries n) (register_name k) ≡ false) → first_such (is_wrong rule (all_entries n)) out_names ≡ None
      → first_driver (is_wrong rule (all_entries n)) 0 (all_elements n) ≡ None
  no_wrong rule h o =
      let hs : first_such (is_wrong rule (all_entries n)) (register_names n) ≡ None = first_such_range register_name (is_wrong rule (all_entries n)) 0 n (λ k l u. h k (omega arith)) in
      drivers_range (is_wrong rule (all_entries n)) n 0 0 n (map (unit_part n) unit_names) (first_such-append (is_wrong rule (all_entries n)) out_names (register_names n) o hs)
      ∙ drivers_units (is_wrong rule (all_entries n)) n (0 + n) unit_names hs

  out_known : (s : List ℕ) → is_wrong UnknownDriver (all_entries n) (117 ∷ s) ≡ is_none (position_from (is_named (117 ∷ s)) 96 (unit_entries n))
  out_known s = ap is_none (other_number n s is)

  out_drives : (s : List ℕ) → is_wrong PortDrives (all_entries n) (117 ∷ s) ≡ option_map_or (is_port_at (all_entries n)) (position_from (is_named (117 ∷ s)) 96 (unit_entries n)) false
  out_drives s = ap (λ o. option_map_or (is_port_at (all_entries n)) o false) (other_number n s is)

  four : (test : List ℕ → Bool) → test (117 ∷ 48 ∷ 95 ∷ 111 ∷ []) ≡ false → test (117 ∷ 49 ∷ 95 ∷ 111 ∷ []) ≡ false → test (117 ∷ 50 ∷ 95 ∷ 111 ∷ []) ≡ false → test (117 ∷ 51 ∷ 95 ∷ 111 ∷ []) ≡ false
      → first_such test out_names ≡ None
  four test a b c d = rw (a, b, c, d) refl

  drivers_good : wrong_driver (all_elements n) (all_entries n) ≡ None
  drivers_good =
      ap₂ (λ x y. option_or (option_map fault.UnknownDriver x) (option_map fault.PortDrives y))
      (no_wrong UnknownDriver (λ k u. ap is_none (register_number n k small u))
      (four (is_wrong UnknownDriver (all_entries n)) (out_known (48 ∷ 95 ∷ 111 ∷ [])) (out_known (49 ∷ 95 ∷ 111 ∷ [])) (out_known (50 ∷ 95 ∷ 111 ∷ [])) (out_known (51 ∷ 95 ∷ 111 ∷ []))))
      (no_wrong PortDrives
      (λ k u. ap (λ o. option_map_or (is_port_at (all_entries n)) o false) (register_number n k small u) ∙ ap (λ o. option_map_or (λ r. is_port r.kind) o false) (get_register k u))
      (four (is_wrong PortDrives (all_entries n))
      (out_drives (48 ∷ 95 ∷ 111 ∷ []) ∙ ap (λ o. option_map_or (λ r. is_port r.kind) o false) (get_unit 3))
      (out_drives (49 ∷ 95 ∷ 111 ∷ []) ∙ ap (λ o. option_map_or (λ r. is_port r.kind) o false) (get_unit 7))
      (out_drives (50 ∷ 95 ∷ 111 ∷ []) ∙ ap (λ o. option_map_or (λ r. is_port r.kind) o false) (get_unit 11))
      (out_drives (51 ∷ 95 ∷ 111 ∷ []) ∙ ap (λ o. option_map_or (λ r. is_port r.kind) o false) (get_unit 15))))

  pub no_early : fault_before_loops (parts_with n) ≡ None
  unfolding fault_before_loops parts_with
  no_early =
      ap (λ es. option_or (option_map fault.TooLarge (too_large (parts_with n) es)) (option_or (option_map fault.BadName (bad_name (parts_with n)))
      (option_or (option_map fault.RepeatedName (repeated_name (all_elements n))) (wrong_driver (all_elements n) es)))) (entries_are n)
      ∙ ap₂ (λ x y. option_or (option_map fault.TooLarge x) (option_or (option_map fault.BadName y)
      (option_or (option_map fault.RepeatedName (repeated_name (all_elements n))) (wrong_driver (all_elements n) (all_entries n))))) small_enough names_good
      ∙ ap₂ (λ x y. option_or (option_map fault.RepeatedName x) y) none_repeated drivers_good

  -- ---- A7, A8

  units_good : unit_or_contexts_fault (parts_with n) ≡ None
  unfolding unit_or_contexts_fault parts_with
  units_good =
      ap (λ o. option_or (option_map fault.BadUnit o) None)
      (first_from_range (register_part n) (λ number e. is_bad_unit e) 0 n 96 (map (unit_part n) unit_names) (omega arith) (λ k l u. refl))

  -- ---- A9

  registers_named : (k : ℕ) → k < n → names_register (all_entries n) (register_name k) ≡ true
  registers_named k u =
      ap (λ o. option_map_or (is_register_at (all_entries n)) o false) (register_number n k small u) ∙ ap (λ o. option_map_or (λ r. is_register r.kind) o false) (get_register k u)

  entries_good : first_bad_entry (all_entries n) [] (register_names n) ≡ None
  entries_good = hub_entries (all_entries n) [] 0 n n (omega arith) small registers_named (λ k l u. refl)

  registers_length : length (map (flat_register n) (range_with_len 0 n)) ≡ n
  registers_length = length-map-range_with_len (flat_register n) 0 n

  register_at : (k : ℕ) → k < n → resource_at (flat_resources n) k ≡ flat_register n k
  register_at k u =
      get_or-append (map (flat_register n) (range_with_len 0 n)) (flat_map (flat_unit n) unit_names) (record { name = []; kind = Wire; drivers = [] }) k (omega (arith, registers_length))
      ∙ get_or-map-range_with_len (flat_register n) 0 n k k (record { name = []; kind = Wire; drivers = [] }) u (omega arith)

  unit_at_place : (i : ℕ) → 96 ≤ i → resource_at (flat_resources n) i ≡ resource_at (flat_map (flat_unit n) unit_names) (i - 96)
  unit_at_place i l = get_or-append_right (map (flat_register n) (range_with_len 0 n)) (flat_map (flat_unit n) unit_names) 96 i (record { name = []; kind = Wire; drivers = [] }) (registers_length ∙ sym is) l

  port_drivers : (i : ℕ) → 96 ≤ i → (resource_at (flat_map (flat_unit n) unit_names) (i - 96)).drivers ≡ range_with_len 0 n → (resource (flat_arch n) i).drivers ≡ range_with_len 0 n
  port_drivers i l e = ap (λ r. r.drivers) (unit_at_place i l) ∙ e

  into : (r : ℕ) (rs : List ℕ) → (resource (flat_arch n) r).drivers ≡ range_with_len 0 n → first_missing (flat_arch n) (range_with_len 0 n) rs ≡ None → first_missing (flat_arch n) (range_with_len 0 n) (r ∷ rs) ≡ None
  into = none_missing (flat_arch n) (range_with_len 0 n)

  links_good : missing_link (flat_arch n) ≡ None
  links_good =
      ap₂ option_or
      (links_into (flat_arch n) (all_drivers n) 0 n (λ k l u. ap (λ r. r.drivers) (register_at k (omega arith))))
      (into 96 (97 ∷ 98 ∷ 100 ∷ 101 ∷ 102 ∷ 104 ∷ 105 ∷ 106 ∷ 108 ∷ 109 ∷ 110 ∷ []) (port_drivers 96 (lit≤ tt) refl) (into 97 (98 ∷ 100 ∷ 101 ∷ 102 ∷ 104 ∷ 105 ∷ 106 ∷ 108 ∷ 109 ∷ 110 ∷ []) (port_drivers 97 (lit≤ tt) refl) (into 98 (100 ∷ 101 ∷ 102 ∷ 104 ∷ 105 ∷ 106 ∷ 108 ∷ 109 ∷ 110 ∷ []) (port_drivers 98 (lit≤ tt) refl)
      (into 100 (101 ∷ 102 ∷ 104 ∷ 105 ∷ 106 ∷ 108 ∷ 109 ∷ 110 ∷ []) (port_drivers 100 (lit≤ tt) refl) (into 101 (102 ∷ 104 ∷ 105 ∷ 106 ∷ 108 ∷ 109 ∷ 110 ∷ []) (port_drivers 101 (lit≤ tt) refl) (into 102 (104 ∷ 105 ∷ 106 ∷ 108 ∷ 109 ∷ 110 ∷ []) (port_drivers 102 (lit≤ tt) refl)
      (into 104 (105 ∷ 106 ∷ 108 ∷ 109 ∷ 110 ∷ []) (port_drivers 104 (lit≤ tt) refl) (into 105 (106 ∷ 108 ∷ 109 ∷ 110 ∷ []) (port_drivers 105 (lit≤ tt) refl) (into 106 (108 ∷ 109 ∷ 110 ∷ []) (port_drivers 106 (lit≤ tt) refl)
      (into 108 (109 ∷ 110 ∷ []) (port_drivers 108 (lit≤ tt) refl) (into 109 (110 ∷ []) (port_drivers 109 (lit≤ tt) refl) (into 110 [] (port_drivers 110 (lit≤ tt) refl) refl))))))))))))

  hub_good : hub_fault (parts_with n) (arch_of (parts_with n)) ≡ None
  unfolding hub_fault parts_with
  hub_good =
      ap₂ (λ es m. option_map fault.HubIncomplete (option_or (option_map hub.Entry (first_bad_entry es [] (register_names n))) m))
      (entries_are n) (ap missing_link (arch_is n is) ∙ links_good)
      ∙ ap (λ o. option_map fault.HubIncomplete (option_or (option_map hub.Entry o) None)) entries_good

  pub no_late : fault_after_loops (parts_with n) ≡ None
  unfolding fault_after_loops
  no_late = ap₂ option_or units_good hub_good

  -- ---- A6

  plain : (r : ℕ) → IsPlain n (resource_at (flat_resources n) r)
  plain r =
      ⊎_elim
      (λ u. inl (ap (λ x. x.kind) (register_at r u)))
      (λ l. subst (IsPlain n) (sym (unit_at_place r (omega arith))) (plain_in n (r - 96) (flat_map (flat_unit n) unit_names) (record { name = []; kind = Wire; drivers = [] }) (units_plain n unit_names) (inr (inr refl))))
      (cases_lt r n)

  abbrev level : ℕ → ℕ
  level r = height (resource_at (flat_resources n) r).kind

  flat_length : length (flat_resources n) ≡ n + 16
  flat_length = length-append (map (flat_register n) (range_with_len 0 n)) (flat_map (flat_unit n) unit_names) ∙ ap (λ k. k + 16) registers_length

  rises : (q r : ℕ) → Passes (flat_resources n) q r → level q < level r
  rises q r p =
      ⊎_elim
      (λ e. let bad : ◌≡◌ {A = ℕ} 1 0 = sym (ap delay_by e) ∙ p.at_once in absurd (omega arith))
      (λ h. ⊎_elim
      (λ e. let u : q < n = Contains-range n q (subst (λ ds. Contains ds q) e.1 p.driver) in
      let low : level q ≡ 0 = ap (λ x. height x.kind) (register_at q u) in
      let high : level r ≡ 1 = ap height e.0 in
      omega arith)
      (λ e. absurd (Contains-nil q (subst (λ ds. Contains ds q) e p.driver)))
      h)
      (plain r)

  no_flat_loop : (loop : List ℕ) → IsCombinationalLoop (flat_resources n) loop → ⊥
  no_flat_loop loop =
      levels_no_loop (flat_resources n) level loop
      (record { levels = λ r l. let low : level r < 2 = height_low (resource_at (flat_resources n) r).kind in omega (arith, flat_length, low); rising = rises })

  pub no_loop : HasNoCombinationalLoop (parts_with n)
  no_loop loop l = no_flat_loop loop (subst (λ A. IsCombinationalLoop A.resources loop) (arch_is n is) l)

  -- ---- so they have none

  pub no_fault : (f : ArchFault) → IsFault (parts_with n) f → ⊥
  no_fault f (early e) = not_none f (sym no_early ∙ e)
  no_fault (fault.ZeroDelayLoop names) (a_loop e l) = no_loop _ l
  no_fault f (late e h g) = not_none f (sym no_late ∙ g)
