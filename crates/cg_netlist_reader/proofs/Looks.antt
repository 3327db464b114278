-- Names that are looked up in a map, one after another.
use Rattle.std.proofs.Common.{◌≡◌, ℕ, ◌+◌, ◌<◌, false, ◌||◌, List, [], ◌∷◌, ◌++◌, length, take, drop, get_or, Option, Some, None, ap, sym, ◌∙◌, subst}
use Rattle.std.specs.Prelude.{is_some, not, String, bytes_eq}
use Rattle.std.specs.List.{flat_map}
use Rattle.std.specs.Option.{option_or}
use Rattle.std.specs.declared.alloc.Global.{Global}
use Rattle.indexmap.specs.IndexMap.{IndexMap}
use Rattle.cg_reading.specs.Numbers.{found_in}
use Rattle.cg_netlist_reader.specs.declared.fault.VerilogFault.{VerilogFault}
use Rattle.cg_netlist_reader.specs.declared.fault.VerilogFault.TheVariants as faults
use Rattle.cg_netlist.specs.declared.parts.Net.{Net}
use Rattle.cg_netlist.specs.declared.parts.Cell.{Cell}
use Rattle.cg_netlist.specs.Graph.{names}
use Rattle.cg_netlist_reader.specs.Reading.{given, has, repeated, unknown, pin_nets, unknown_net}
use Rattle.cg_netlist_reader.specs.Looked.{IsSet, IsAdded, unknown_by}
use Rattle.cg_netlist_reader.specs.Wrong.{IsOfNet}
use Rattle.cg_netlist_reader.proofs.Known.{has_push}
use Rattle.cg_netlist_reader.proofs.Found.{found_in_item, none_in_more, find_same, more_names, repeated_later}

lifted : (e : VerilogFault) (o p : Option (List ℕ)) → ((n : List ℕ) → o ≡ Some n → p ≡ Some n) → IsOfNet e o → IsOfNet e p
lifted faults.Memory o p more h = tt
lifted (faults.UnknownNet name) o p more h = more name h
lifted (faults.Text place) o p more h = h
lifted (faults.UnknownCell i) o p more h = h

-- ---- items with names, among which the first that the map doesn't know is looked for

pub item_fault : {S X : Type 0} (numbers : IndexMap (String Global) ℕ S) (f : X → List (List ℕ)) (xs : List X) (i : ℕ) (x : X) (e : VerilogFault) → x ≡ get_or xs i x → i < length xs
    → unknown_by numbers (flat_map f (take i xs)) ≡ None → IsOfNet e (unknown_by numbers (f x)) → IsOfNet e (unknown_by numbers (flat_map f xs))
item_fault numbers f xs i x e is l before h =
    lifted e (unknown_by numbers (f x)) (unknown_by numbers (flat_map f xs))
    (λ n found. found_in_item (λ name. not (is_some (found_in numbers name))) f xs i x n l before (ap (λ y. unknown_by numbers (f y)) (sym is) ∙ found)) h

pub item_more : {S X : Type 0} (numbers : IndexMap (String Global) ℕ S) (f : X → List (List ℕ)) (xs : List X) (i : ℕ) (x : X) → x ≡ get_or xs i x → i < length xs
    → unknown_by numbers (flat_map f (take i xs)) ≡ None → unknown_by numbers (f x) ≡ None → unknown_by numbers (flat_map f (take (i + 1) xs)) ≡ None
item_more numbers f xs i x is l before here =
    none_in_more (λ name. not (is_some (found_in numbers name))) f xs i x l before (ap (λ y. unknown_by numbers (f y)) (sym is) ∙ here)

-- ---- a name that is added to a set of names

fresh_of : {S : Type 0} (old : IndexMap (String Global) ℕ S) (seen : List (List ℕ)) (name : List ℕ) → IsSet old seen → found_in old name ≡ None → has seen name ≡ false
fresh_of old seen name set none = sym (set.same name) ∙ ap is_some none

set_more : {S : Type 0} (old new : IndexMap (String Global) ℕ S) (seen : List (List ℕ)) (name : List ℕ) → IsSet old seen → IsAdded old new name → IsSet new (seen ++ name ∷ [])
set_more old new seen name set added = record {
  same = λ other. added.more other ∙ ap (λ b. b || bytes_eq name other) (set.same other) ∙ sym (has_push seen name other);
}

pub next_set : {S : Type 0} (old new : IndexMap (String Global) ℕ S) (nets : List Net) (i : ℕ) (n : Net) → n ≡ get_or nets i n → i < length nets → IsSet old (given ++ names (take i nets)) → IsAdded old new n.name
    → IsSet new (given ++ names (take (i + 1) nets))
next_set {S} old new nets i n is l set added =
    let more : given ++ names (take (i + 1) nets) ≡ (given ++ names (take i nets)) ++ n.name ∷ [] = more_names nets i n l ∙ ap (λ (m : Net). (given ++ names (take i nets)) ++ m.name ∷ []) (sym is) in
    let P : List (List ℕ) → Type 0 = λ ns. IsSet new ns in
    subst P (sym more) (set_more old new (given ++ names (take i nets)) n.name set added)

pub next_rest : {S : Type 0} (old new : IndexMap (String Global) ℕ S) (nets : List Net) (i : ℕ) (n : Net) → n ≡ get_or nets i n → i < length nets → IsSet old (given ++ names (take i nets)) → IsAdded old new n.name
    → repeated given (names nets) ≡ repeated (given ++ names (take i nets)) (names (drop i nets)) → repeated given (names nets) ≡ repeated (given ++ names (take (i + 1) nets)) (names (drop (i + 1) nets))
next_rest old new nets i n is l set added rest =
    repeated_later nets i n l rest (ap (λ (m : Net). has (given ++ names (take i nets)) m.name) (sym is) ∙ fresh_of old (given ++ names (take i nets)) n.name set added.fresh)

-- ---- the whole

pub whole_fault : {S : Type 0} (numbers : IndexMap (String Global) ℕ S) (nets : List Net) (cells : List Cell) (e : VerilogFault) → repeated given (names nets) ≡ None → IsSet numbers (given ++ names nets)
    → IsOfNet e (unknown_by numbers (flat_map pin_nets cells)) → IsOfNet e (unknown_net (record { nets = nets; cells = cells }))
whole_fault numbers nets cells e once set h =
    lifted e (unknown_by numbers (flat_map pin_nets cells)) (unknown_net (record { nets = nets; cells = cells }))
    (λ n found.
    ap (λ o. option_or o (unknown (given ++ names nets) (flat_map pin_nets cells))) once
    ∙ sym (find_same (λ name. not (is_some (found_in numbers name))) (λ name. not (has (given ++ names nets) name)) (flat_map pin_nets cells) (λ x. ap not (set.same x))) ∙ found) h
